-- Who has a version in a stack has released the grain.
use Rattle.std.proofs.Common.{◌≡◌, ℕ, List, [], ◌∷◌, Bool, true, false, ◌⊎◌, inl, inr, sym, ap, ◌∙◌, subst, Option, Some, None}
use Rattle.std.proofs.lemmas.Bool.{and_parts, cond_both}
use Rattle.cell_model.specs.Locks.{dropped}
use Rattle.core_model.specs.CoreState.{UnitNo, GrainId, put_grain, Member, Value, Version, cut, Hold, Mode, CoreState}
use Rattle.core_model.specs.declared.phases.Phase.TheVariants.{Unborn, Running, Finished}
use Rattle.core_model.specs.Tests.{any, is_aborted, is_committed, state_written}
use Rattle.core_model.specs.Chains.{Chain, IsBottom, IsLink}
use Rattle.core_laws.proofs.Puts.{grain-from, grain-is, grain-other}
use Rattle.core_laws.proofs.Invariant.{Inv}
use Rattle.cell_model.specs.Locks.{granted}
use Rattle.cell_model.specs.Stacks.{pushed, is_of, committed_stack}
use Rattle.cell_model.specs.Cells.{stacked, reads_top, learnt}
use Rattle.cell_model.proofs.LockAnswers.{granted-member, dropped-member}
use Rattle.core_model.specs.Changes.{restacked, cleaned, after_release, after_learn, loaded, swept, swept_by}
use Rattle.core_model.specs.Events.{applies, can, does, step, run, is_allowed}
use Rattle.core_model.specs.declared.events.CoreEvent.{CoreEvent}
use Rattle.core_model.specs.SerialOrder.{IsTrueLoad, AllLoadsTrue}
use Rattle.core_laws.proofs.EventCases.{Change, bad, begin, lock, raise, refuse, finish, end_plain, end_snapshot, release, take_batch, vote, decide_some, decide_none, seal_batch, spoil_batch, doubt_batch, learn, emit, halt_run, want, load, decode}
use Rattle.core_laws.proofs.KeptStack.{kept-cleaned}
use Rattle.core_laws.proofs.KeptInvariant.{Kept, kept-step}

abbrev pub Gone : CoreState → Type 0
Gone w = (g : GrainId) (x : Version) (h : Hold) → Member x (w.cells.stack g) → Member h (w.cells.holds g) → h.unit ≡ x.unit → ⊥

pub cut-member : (p : Version → Bool) (xs : List Version) (x : Version) → Member x (cut p xs) → Member x xs
cut-member p [] x m = m
cut-member p (y ∷ ys) x m = cond_both (any p (y ∷ ys)) (cut p ys) (y ∷ ys) (λ t. Member x t → Member x (y ∷ ys)) (λ e m'. inr (cut-member p ys x m')) (λ e m'. m') m

pub committed-member : (u : UnitNo) (xs : List Version) (x : Version) → Member x (committed_stack u xs) → Member x xs
committed-member u [] x m = m
committed-member u (y ∷ ys) x m = cond_both (is_of u y) (y ∷ []) (y ∷ committed_stack u ys) (λ t. Member x t → Member x (y ∷ ys))
    (λ e m'. elim m' [ inl q ↦ inl q | inr q ↦ absurd q ])
    (λ e m'. elim m' [ inl q ↦ inl q | inr q ↦ inr (committed-member u ys x q) ])
    m

pub learnt-member : (b : Bool) (u : UnitNo) (xs : List Version) (x : Version) → Member x (learnt b u xs) → Member x xs
learnt-member true u xs x m = committed-member u xs x m
learnt-member false u xs x m = cut-member (is_of u) xs x m

-- each version is a bottom or has a link
pub Chain-member : (B : Version → Type 0) (L : Version → Version → Type 0) (xs : List Version) (x : Version) → Chain B L xs → Member x xs → B x ⊎ ((y : Version) × L x y)
Chain-member B L [] x c m = absurd c
Chain-member B L (y ∷ []) x c (inl q) = inl (subst B (sym q) c)
Chain-member B L (y ∷ []) x c (inr m) = absurd m
Chain-member B L (y ∷ z ∷ zs) x c (inl q) = inr (z, subst (λ t. L t z) (sym q) c.0)
Chain-member B L (y ∷ z ∷ zs) x c (inr m) = Chain-member B L (z ∷ zs) x c.1 m

-- the writer of a version isn't running
pub version-over : (opening : GrainId → List Value) (n : ℕ) (w : CoreState) → Inv opening n w → (g : GrainId) (x : Version) → Member x (w.cells.stack g) → w.units.phase x.unit ≡ Running → ⊥
version-over opening n w i g x m running = elim (Chain-member (IsBottom opening w.units.phase w.manager.writes w.manager.verdict g) (IsLink w.units.phase w.manager.writes w.units.reads g) (w.cells.stack g) x (i.chain g) m) [
  | inl b ↦ elim b [
    | inl o ↦ (let t : Unborn ≡ Running = sym i.outside ∙ ap w.units.phase (sym o.0) ∙ running in cc)
    | inr o ↦ (let t : Finished ≡ Running = sym o.1.0 ∙ running in cc)
  ]
  | inr l ↦ (let t : Finished ≡ Running = sym l.1.0.0 ∙ running in cc)
]

gone-cut : (w : CoreState) (g : GrainId) (xs : List Version) → Gone w → ((x : Version) → Member x xs → Member x (w.cells.stack g)) → Gone (restacked w g xs)
gone-cut w g xs s sub k x h m = grain-from w.cells.stack g xs (Member x) (Member h (w.cells.holds k) → h.unit ≡ x.unit → ⊥) k
    (λ e m'. s k x h (subst (λ j. Member x (w.cells.stack j)) (sym e) (sub x m')))
    (λ e m'. s k x h m') m

gone-held : (opening : GrainId → List Value) (w : CoreState) (u : UnitNo) (g : GrainId) (mode : Mode) {n : ℕ} → Inv opening n w → w.units.phase u ≡ Running → Gone w →
    (k : GrainId) (x : Version) (h : Hold) → Member x (w.cells.stack k) → Member h (put_grain w.cells.holds g (granted (w.cells.holds g) u mode) k) → h.unit ≡ x.unit → ⊥
gone-held opening w u g mode i running s k x h mx m = grain-from w.cells.holds g (granted (w.cells.holds g) u mode) (Member h) (h.unit ≡ x.unit → ⊥) k
    (λ e m' q. elim (granted-member (w.cells.holds g) u mode h m') [
      | inl a ↦ s k x h mx (subst (λ j. Member h (w.cells.holds j)) (sym e) a.0) q
      | inr a ↦ version-over opening _ w i k x mx (ap w.units.phase (sym q ∙ ap (λ (z : Hold). z.unit) a) ∙ running)
    ])
    (λ e m'. s k x h mx m') m

gone-released : (w : CoreState) (u : UnitNo) (g : GrainId) → Gone w → Gone (after_release w u g)
gone-released w u g s k x h mx m = grain-from w.cells.holds g (dropped (w.cells.holds g) u) (Member h) (h.unit ≡ x.unit → ⊥) k
    (λ e m'. (let t = dropped-member u (w.cells.holds g) h m' in
    elim (old x (subst (Member x) (grain-is w.cells.stack g stack_g k e) mx)) [
      | inl o ↦ s k x h (subst (λ j. Member x (w.cells.stack j)) (sym e) o) (subst (λ j. Member h (w.cells.holds j)) (sym e) t.0)
      | inr q ↦ λ z. t.1 (z ∙ q)
    ]))
    (λ e m'. s k x h (subst (Member x) (grain-other w.cells.stack g stack_g k e) mx) m') m
  where
    stack_g : List Version
    stack_g = stacked (w.cells.readings g) (w.cells.stack g) u (state_written g (w.manager.writes u))

    old : (x : Version) → Member x stack_g → Member x (w.cells.stack g) ⊎ (x.unit ≡ u)
    old x = go (state_written g (w.manager.writes u))
      where
        go : (o : Option (List Value)) → Member x (stacked (w.cells.readings g) (w.cells.stack g) u o) → Member x (w.cells.stack g) ⊎ (x.unit ≡ u)
        go None m = inl m
        go (Some v) m = cond_both (reads_top (w.cells.readings g) (w.cells.stack g) u) (pushed (w.cells.stack g) u v) (w.cells.stack g) (λ t. Member x t → Member x (w.cells.stack g) ⊎ (x.unit ≡ u))
            (λ e m'. elim m' [ inl q ↦ inr (ap (λ (z : Version). z.unit) q) | inr q ↦ inl q ]) (λ e m'. inl m') m

gone-learnt : (w : CoreState) (u : UnitNo) (g : GrainId) → Gone w → Gone (after_learn w u g)
gone-learnt w u g s = gone-cut w g (learnt (is_committed (w.manager.verdict u)) u (w.cells.stack g)) s (λ x m. learnt-member (is_committed (w.manager.verdict u)) u (w.cells.stack g) x m)

gone-loaded : (opening : GrainId → List Value) (w : CoreState) (g : GrainId) (u : UnitNo) (state : List Value) → Kept opening w → w.cells.here g ≡ false → Gone w → Gone (loaded w g u state)
gone-loaded opening w g u state k away s j x h m = grain-from w.cells.stack g (record { unit = u; state = state } ∷ []) (Member x) (Member h (w.cells.holds j) → h.unit ≡ x.unit → ⊥) j
    (λ e m' mh. absurd (subst (Member h) (ap w.cells.holds e ∙ (k.0.away g away).0) mh))
    (λ e m'. s j x h m') m

pub gone-change : (opening : GrainId → List Value) (w : CoreState) (e : CoreEvent) (w' : CoreState) → Change w e w' → applies w e ≡ true → Kept opening w → Gone w → Gone w'
gone-change opening w e w' (bad line why q) a k s = s
gone-change opening w e w' (begin origin call plain c) a k s = s
gone-change opening w e w' (lock u g mode running free first here) a k s =
    gone-held opening (restacked w g (cleaned w g)) u g mode (kept-cleaned opening _ w g k.0) running (gone-cut w g (cleaned w g) s (λ x m. cut-member (λ x. is_aborted (w.manager.verdict x.unit)) (w.cells.stack g) x m))
gone-change opening w e w' (raise u g mode running free held here uncovered) a k s =
    gone-held opening (restacked w g (cleaned w g)) u g mode (kept-cleaned opening _ w g k.0) running (gone-cut w g (cleaned w g) s (λ x m. cut-member (λ x. is_aborted (w.manager.verdict x.unit)) (w.cells.stack g) x m))
gone-change opening w e w' (refuse u g mode why running q) a k s = s
gone-change opening w e w' (finish u effect running plain of_call reads alone) a k s = s
gone-change opening w e w' (end_plain u effect running plain of_call bare) a k s = s
gone-change opening w e w' (end_snapshot u at outcome running plain kids answer) a k s = s
gone-change opening w e w' (release u g over held) a k s = gone-released w u g s
gone-change opening w e w' (take_batch none some) a k s = s
gone-change opening w e w' (vote n g kept b q number d planned fresh) a k s = s
gone-change opening w e w' (decide_some n b q number d voted some) a k s = s
gone-change opening w e w' (decide_none n b q number d voted none) a k s = s
gone-change opening w e w' (seal_batch n b ds q number d) a k s = s
gone-change opening w e w' (spoil_batch n b ds q number d) a k s = s
gone-change opening w e w' (doubt_batch n b ds q number d) a k s = s
gone-change opening w e w' (learn u g wrote final fresh) a k s = gone-learnt w u g s
gone-change opening w e w' (emit q) a k s = s
gone-change opening w e w' (halt_run q) a k s = s
gone-change opening w e w' (want u g running free fresh) a k s = s
gone-change opening w e w' (load g u state gone wanted) a k s = gone-loaded opening w g u state k gone s

swept-gone : (w : CoreState) → Gone w → Gone (swept w)
swept-gone w s = go w.cells.capacity
  where
    go : (c : Option ℕ) → Gone (swept_by w c)
    go None = s
    go (Some m) = s

pub gone-step : (opening : GrainId → List Value) (w : CoreState) (e : CoreEvent) → IsTrueLoad opening w e → Kept opening w → Gone w → Gone (step w e)
gone-step opening w e t k s = cond_both (applies w e) (swept (does w e)) w Gone
    (λ a. (let c = decode w e (and_parts (is_allowed w e) (can w e) a).1 in
    swept-gone (does w e) (gone-change opening w e (does w e) c a k s)))
    (λ a. s)

pub gone-run : (opening : GrainId → List Value) (es : List CoreEvent) (w : CoreState) → AllLoadsTrue opening w es → Kept opening w → Gone w → Gone (run w es)
gone-run opening [] w l k s = s
gone-run opening (e ∷ es) w l k s = gone-run opening es (step w e) l.1 (kept-step opening w e l.0 k) (gone-step opening w e l.0 k s)
