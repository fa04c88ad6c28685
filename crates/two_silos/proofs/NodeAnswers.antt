-- When a node says no, and that no number comes twice.
use Rattle.std.proofs.Common.{◌≡◌, ℕ, List, [], ◌∷◌, Bool, true, false, not, inl, inr, refl, sym, ap, ◌∙◌, subst, Option, Some, None}
use Rattle.std.specs.Prelude.{ℤ, ◌+ℤ◌, ◌&&◌, if◌then◌else◌}
use Rattle.std.proofs.lemmas.Bool.{cases_Bool, and_parts, and_from}
use Rattle.two_silos.specs.Nodes.{Ask, Decision, Done, GrainId, NodeEntry, Packet, Part, Prepare, Prepared, Shift, TxnId, Vote}
use Rattle.silo_nodes.specs.Packets.{all, txn_of, touches, Member}
use Rattle.silo_nodes.specs.Logs.{is_prepared, is_done, moved, moved_by, balance}
use Rattle.silo_nodes.specs.Node.{keeps_busy, is_busy, has_room, can_shift, can_prepare}
use Rattle.two_silos.specs.World.{World, WorldEvent, next_txn, begin, run, parts_in}
use Rattle.two_silos.specs.Promise.{IsOpening, Against, NoIsExact, NumberIsNew}
use Rattle.silo_nodes.proofs.Lists.{clash, not-true, any-true, any-member, all-true}
use Rattle.two_silos.proofs.Invariant.{Issued, Inv, True, unissued}
use Rattle.two_silos.proofs.SmallChanges.{opening_of}
use Rattle.two_silos.proofs.KeptInvariant.{kept}

-- a test that fails for a list fails for one of it
all-false : {A : Type 0} (p : A → Bool) (xs : List A) → all p xs ≡ false → (x : A) × Member x xs × (p x ≡ false)
all-false p [] e = cc
all-false p (x ∷ xs) e = elim (cases_Bool (p x)) [
  | inl h ↦ (let t = all-false p xs (ap (λ b. b && all p xs) (sym h) ∙ e) in (t.0, inr t.1, t.2))
  | inr h ↦ (x, inl refl, h)
]

pub busy-by : (log : List NodeEntry) (g : GrainId) → is_busy log g ≡ true → (u : TxnId) × (r : List Shift) × Member (Prepared u r) log × (is_done log u ≡ false) × (touches g r ≡ true)
busy-by log g e = (let x = any-true (keeps_busy log g) log e in go x.0 x.1 x.2)
  where
    go : (x : NodeEntry) → Member x log → keeps_busy log g x ≡ true → (u : TxnId) × (r : List Shift) × Member (Prepared u r) log × (is_done log u ≡ false) × (touches g r ≡ true)
    go (Prepared u r) m h = (let p = and_parts (not (is_done log u)) (touches g r) h in (u, r, m, not-true _ p.0, p.1))
    go (Done u c) m h = cc

no-room : (opening : GrainId → Option ℤ) (log : List NodeEntry) (x : Shift) (o : Option ℤ) → opening x.grain ≡ o → has_room (moved_by o (moved x.grain log log)) x.delta ≡ false → Against opening log x
no-room opening log x None e f = inr (inl e)
no-room opening log x (Some b) e f = inr (inr (b +ℤ moved x.grain log log, ap (λ z. moved_by z (moved x.grain log log)) e, f))

against-not : (opening : GrainId → Option ℤ) (log : List NodeEntry) (x : Shift) → Against opening log x → can_shift opening log x ≡ true → ⊥
against-not opening log x (inl h) c =
    let p = and_parts (not (is_busy log x.grain)) _ c in
    clash (is_busy log x.grain) (any-member (keeps_busy log x.grain) log (Prepared h.0 h.1) h.2 (and_from _ _ (ap not h.3) h.4)) (not-true _ p.0)
against-not opening log x (inr (inl h)) c =
    let p = and_parts (not (is_busy log x.grain)) _ c in
    let z : false ≡ true = sym (ap (λ o. has_room (moved_by o (moved x.grain log log)) x.delta) h) ∙ p.1 in cc
against-not opening log x (inr (inr h)) c =
    let p = and_parts (not (is_busy log x.grain)) _ c in
    let z : false ≡ true = sym (ap (λ o. has_room o x.delta) h.1 ∙ h.2) ∙ p.1 in cc

against-from : (opening : GrainId → Option ℤ) (log : List NodeEntry) (x : Shift) → can_shift opening log x ≡ false → Against opening log x
against-from opening log x e = elim (cases_Bool (is_busy log x.grain)) [
  | inl h ↦ inl (busy-by log x.grain h)
  | inr h ↦ no-room opening log x (opening x.grain) refl (ap (λ b. not b && has_room (balance opening log x.grain) x.delta) (sym h) ∙ e)
]

pub no-exact : (opening : GrainId → Option ℤ) (log : List NodeEntry) (n : ℕ) (t : TxnId) (s : List Shift) → NoIsExact opening log n t s
no-exact opening log n t s = record {
  reason = reason (is_done log t) (is_prepared log t) (can_prepare opening log s) refl refl refl;
  always = λ d p x m a. elim (cases_Bool (can_prepare opening log s)) [
    | inl h ↦ absurd (against-not opening log x a (all-true (can_shift opening log) s h x m))
    | inr h ↦ ap (λ b. if b then [] else if is_prepared log t then Vote t n true ∷ [] else Vote t n (can_prepare opening log s) ∷ []) d
        ∙ ap (λ b. if b then Vote t n true ∷ [] else Vote t n (can_prepare opening log s) ∷ []) p ∙ ap (λ b. Vote t n b ∷ []) h
  ];
  silent = λ d. ap (λ b. if b then [] else if is_prepared log t then Vote t n true ∷ [] else Vote t n (can_prepare opening log s) ∷ []) d;
  again = λ d p. ap (λ b. if b then [] else if is_prepared log t then Vote t n true ∷ [] else Vote t n (can_prepare opening log s) ∷ []) d
      ∙ ap (λ b. if b then Vote t n true ∷ [] else Vote t n (can_prepare opening log s) ∷ []) p;
}
  where
    reason : (d p c : Bool) → is_done log t ≡ d → is_prepared log t ≡ p → can_prepare opening log s ≡ c →
        (if d then [] else if p then Vote t n true ∷ [] else Vote t n c ∷ []) ≡ Vote t n false ∷ [] → (is_done log t ≡ false) × (is_prepared log t ≡ false) × (x : Shift) × Member x s × Against opening log x
    reason true p c x y z e = cc
    reason false true c x y z e = cc
    reason false false true x y z e = cc
    reason false false false x y z e = (let a = all-false (can_shift opening log) s z in (x, y, a.0, a.1, against-from opening log a.0 a.2))

-- each packet's number was taken
sent-issued : (opening : ℕ → GrainId → Option ℤ) (parts : TxnId → List Part) (w : World) → Inv opening parts w → (k : Packet) → True parts w k → Issued w (txn_of k)
sent-issued opening parts w i (Prepare t n s) h = i.parts_issued t (record { node = n; shifts = s }) h
sent-issued opening parts w i (Vote t n true) h = i.parts_issued t (record { node = n; shifts = h.0 }) (i.logged_part n t h.0 h.1)
sent-issued opening parts w i (Vote t n false) h = h
sent-issued opening parts w i (Decision t n true) h = i.commits_issued t h
sent-issued opening parts w i (Decision t n false) h = h.0
sent-issued opening parts w i (Ask t n) h = h

pub new-ends : (openings : List (List (GrainId × ℤ))) (es : List WorldEvent) → IsOpening openings → NumberIsNew (run (begin openings) es)
new-ends openings es o = go (run (begin openings) es) (kept openings es o)
  where
    fresh : (w : World) → Issued w (next_txn w) → ⊥
    fresh w = unissued w (next_txn w) refl refl

    go : (w : World) → Inv (opening_of openings) (parts_in openings es) w → NumberIsNew w
    go w i = record {
      commits = λ m. fresh w (i.commits_issued (next_txn w) m);
      pending = λ p m e. fresh w (subst (Issued w) e (i.pending_issued p m));
      packets = λ k m e. fresh w (subst (Issued w) e (sent-issued (opening_of openings) (parts_in openings es) w i k (i.sent k m)));
      prepared = λ n s m. fresh w (i.parts_issued (next_txn w) (record { node = n; shifts = s }) (i.logged_part n (next_txn w) s m));
      done = λ n c m. fresh w (sent-issued (opening_of openings) (parts_in openings es) w i (Decision (next_txn w) n c) (i.sent (Decision (next_txn w) n c) (i.logged_done n (next_txn w) c m)));
    }
