-- A node that waits for nothing has done all commits.
use Rattle.std.proofs.Common.{◌≡◌, ℕ, List, [], ◌∷◌, Bool, true, false, inl, inr, refl, sym, ap, ◌∙◌, subst, Option}
use Rattle.std.specs.Prelude.{ℤ, pos, ◌+ℤ◌, if◌then◌else◌}
use Rattle.std.proofs.lemmas.Bool.{cases_Bool}
use Rattle.two_silos.specs.Nodes.{Decision, Done, GrainId, NodeEntry, Part, Prepared, TxnId}
use Rattle.silo_nodes.specs.Packets.{delta, Member}
use Rattle.silo_nodes.specs.Logs.{is_committed, shifts_of, moved_by}
use Rattle.two_silos.specs.World.{World, WorldEvent, log_at, begin, run, parts_in}
use Rattle.two_silos.specs.Promise.{IsOpening, commit_moves, in_order, part_at, all_moves, IsQuietWorld, QuietIsWhole, OrderAgrees}
use Rattle.silo_nodes.proofs.Logs.{shifts-member, done-entry}
use Rattle.two_silos.proofs.Sums.{committed-member, committed-is}
use Rattle.two_silos.proofs.Invariant.{Inv}
use Rattle.two_silos.proofs.Order.{part-cases}
use Rattle.two_silos.proofs.SmallChanges.{opening_of}
use Rattle.two_silos.proofs.KeptInvariant.{kept}

-- each commit has moved all
one-whole : (opening : ℕ → GrainId → Option ℤ) (parts : TxnId → List Part) (w : World) → Inv opening parts w → (n : ℕ) → IsQuietWorld w n → (g : GrainId) (t : TxnId) → Member t w.coordinator.commits → commit_moves g (log_at w.nodes n) t ≡ delta g (part_at n (parts t))
one-whole opening parts w i n quiet g t m = elim (part-cases n (parts t)) [
  | inl x ↦ (let there : Member (Prepared t x.0.shifts) (log_at w.nodes n) = subst (λ k. Member (Prepared t x.0.shifts) (log_at w.nodes k)) x.2 (i.everywhere t x.0 m x.1) in
      let d = done-entry t (log_at w.nodes n) (quiet t x.0.shifts there) in
      let c : is_committed (log_at w.nodes n) t ≡ true = committed-is t (log_at w.nodes n) (yes' d.0 d.1) in
      ap (λ b. if b then delta g (shifts_of t (log_at w.nodes n)) else pos 0) c ∙ ap (delta g) ((i.sound n).first t x.0.shifts there) ∙ ap (delta g) (sym x.3))
  | inr x ↦ elim (cases_Bool (is_committed (log_at w.nodes n) t)) [
    | inl e ↦ (let p = (i.sound n).prepared t true (committed-member t (log_at w.nodes n) e) in
        absurd (x.0 (record { node = n; shifts = shifts_of t (log_at w.nodes n) }) (i.logged_part n t (shifts_of t (log_at w.nodes n)) (shifts-member t (log_at w.nodes n) p)) refl))
    | inr e ↦ ap (λ b. if b then delta g (shifts_of t (log_at w.nodes n)) else pos 0) e ∙ sym (ap (delta g) x.1)
  ]
]
  where
    yes' : (c : Bool) → Member (Done t c) (log_at w.nodes n) → Member (Done t true) (log_at w.nodes n)
    yes' true d = d
    yes' false d = absurd ((i.sent (Decision t n false) (i.logged_done n t false d)).1 m)

all-whole : (parts : TxnId → List Part) (n : ℕ) (g : GrainId) (log : List NodeEntry) (ts : List TxnId) → ((t : TxnId) → Member t ts → commit_moves g log t ≡ delta g (part_at n (parts t))) → in_order g log ts ≡ all_moves parts n g ts
all-whole parts n g log [] h = refl
all-whole parts n g log (t ∷ ts) h = (λ i. h t (inl refl) i +ℤ all-whole parts n g log ts (λ u m. h u (inr m)) i)

pub whole-ends : (openings : List (List (GrainId × ℤ))) (es : List WorldEvent) → IsOpening openings → QuietIsWhole (parts_in openings es) (run (begin openings) es)
whole-ends openings es o = go (run (begin openings) es) (kept openings es o)
  where
    go : (w : World) → Inv (opening_of openings) (parts_in openings es) w → QuietIsWhole (parts_in openings es) w
    go w i n quiet g b e =
        (λ j. moved_by (e j) ((i.sums n g ∙ all-whole (parts_in openings es) n g (log_at w.nodes n) w.coordinator.commits (one-whole (opening_of openings) (parts_in openings es) w i n quiet g)) j))

pub order-ends : (openings : List (List (GrainId × ℤ))) (es : List WorldEvent) → IsOpening openings → OrderAgrees (parts_in openings es) (run (begin openings) es)
order-ends openings es o = (kept openings es o).order
