-- What is kept beside the log follows it.
use Rattle.std.proofs.Common.{◌≡◌, ◌<◌, ℕ, List, [], ◌∷◌, ◌++◌, length, Bool, true, false, not, inl, inr, refl, sym, ap, ◌∙◌, subst, arith, Option, Some, None, IfSome, FitsSigned, slice_get, zero, suc}
use Rattle.std.specs.Prelude.{ℤ, pos, negsuc, ◌+ℤ◌, ◌&&◌, if◌then◌else◌}
use Rattle.std.proofs.lemmas.Bool.{cases_Bool, and_parts, and_from, or_parts}
use mir.Syntax.{w64}
use Rattle.silo_nodes.specs.Packets.{GrainId, TxnId, Shift, NodeEntry, Prepared, Done, same_txn, same_grain, touches, delta, is_apart, Member}
use Rattle.silo_nodes.specs.Logs.{prepares, ends, is_prepared, is_done, shifts_of, moved, moved_by, others}
use Rattle.silo_nodes.specs.Node.{is_balance, keeps_busy, is_busy, log_decision}
use Rattle.silo_nodes.specs.SoundLog.{Sound}
use Rattle.silo_nodes.specs.LogCache.{Cell, Known, cell, cell_of, settled_cell, settled, ShiftsFit, entry_shifts, IsKnown, FollowsLog}
use Rattle.silo_nodes.specs.Orders.{ended}
use Rattle.silo_nodes.proofs.Lists.{same_txn-true, same_txn-is, same_txn-self, same_grain-true, same_grain-is, clash, not-true, any-true, any-member, any-last, any-grows, any-shrinks, Member-left, Member-last, Member-one}
use Rattle.silo_nodes.proofs.UndecidedTransactions.{undecided-done}
use Rattle.silo_nodes.proofs.Logs.{plus_none, plus_first, delta-none, delta-one, shifts-member, shifts-stay, moved-more, sound-done}

-- a decision that changes nothing
pub decision-none : (log : List NodeEntry) (t : TxnId) (c : Bool) → is_prepared log t ≡ false → log_decision log t c ≡ log
decision-none log t c e = ap (λ b. if b && not (is_done log t) then log ++ Done t c ∷ [] else log) e

pub decision-done : (log : List NodeEntry) (t : TxnId) (c : Bool) → is_prepared log t ≡ true → is_done log t ≡ true → log_decision log t c ≡ log
decision-done log t c e d = (λ i. if e i && not (d i) then log ++ Done t c ∷ [] else log)

pub decision-new : (log : List NodeEntry) (t : TxnId) (c : Bool) → is_prepared log t ≡ true → is_done log t ≡ false → log_decision log t c ≡ log ++ Done t c ∷ []
decision-new log t c e d = (λ i. if e i && not (d i) then log ++ Done t c ∷ [] else log)

-- a balance is a number
pub balance-fits : (z : ℤ) → is_balance z ≡ true → FitsSigned w64 z
balance-fits (pos n) e = record { sfits = grind (arith, e) }
balance-fits (negsuc n) e = cc

-- the shifts of a prepared transaction have room
pub has-room : (opening : GrainId → Option ℤ) (log : List NodeEntry) (f : GrainId → Option Cell) (t : TxnId) → Sound opening log → ((g : GrainId) → f g ≡ cell_of opening log g) →
    is_prepared log t ≡ true → is_done log t ≡ false → ShiftsFit (shifts_of t log) f
has-room opening log f t k h was fresh = record {
  apart = k.apart t (shifts_of t log) (shifts-member t log was);
  fits = λ x m. (let r = k.room t (shifts_of t log) x (shifts-member t log was) fresh m in
      subst (λ o. IfSome o (λ c. FitsSigned w64 (c.balance +ℤ x.delta))) (sym (h x.grain ∙ ap (λ o. cell (moved_by o (moved x.grain log log)) (is_busy log x.grain)) r.1))
      (balance-fits ((r.0 +ℤ moved x.grain log log) +ℤ x.delta) r.2));
}

-- cells that no shift is of, and those that one is of
settled-none : (c : Bool) (s : List Shift) (g : GrainId) (o : Option Cell) → touches g s ≡ false → settled c s g o ≡ o
settled-none c [] g o e = refl
settled-none c (x ∷ xs) g o e =
    let p = or_parts (same_grain x.grain g) (touches g xs) e in
    ap (λ b. settled c xs g (if b then settled_cell c x.delta o else o)) p.0 ∙ settled-none c xs g o p.1

settled-one : (c : Bool) (s : List Shift) (g : GrainId) (o : Option Cell) (x : Shift) → is_apart s ≡ true → Member x s → same_grain x.grain g ≡ true → settled c s g o ≡ settled_cell c x.delta o
settled-one c [] g o x a m e = absurd m
settled-one c (y ∷ ys) g o x a (inl q) e =
    let p = and_parts (not (touches y.grain ys)) (is_apart ys) a in
    let gy : same_grain y.grain g ≡ true = ap (λ (z : Shift). same_grain z.grain g) (sym q) ∙ e in
    ap (λ b. settled c ys g (if b then settled_cell c y.delta o else o)) gy
    ∙ settled-none c ys g (settled_cell c y.delta o) (subst (λ z. touches z ys ≡ false) (same_grain-true y.grain g gy) (not-true _ p.0))
    ∙ ap (λ (z : Shift). settled_cell c z.delta o) (sym q)
settled-one c (y ∷ ys) g o x a (inr m) e =
    let p = and_parts (not (touches y.grain ys)) (is_apart ys) a in
    elim (cases_Bool (same_grain y.grain g)) [
      | inl h ↦ clash (touches y.grain ys) (any-member (λ z. same_grain z.grain y.grain) ys x m (same_grain-is x.grain y.grain (same_grain-true x.grain g e ∙ sym (same_grain-true y.grain g h)))) (not-true _ p.0)
      | inr h ↦ ap (λ b. settled c ys g (if b then settled_cell c y.delta o else o)) h ∙ settled-one c ys g o x p.1 m e
    ]

-- who keeps a grain busy
busy-entry : (log es : List NodeEntry) (g : GrainId) (x : NodeEntry) → Member x es → keeps_busy log g x ≡ true → (u : TxnId) × (r : List Shift) × Member (Prepared u r) es × (is_done log u ≡ false) × (touches g r ≡ true)
busy-entry log es g (Prepared u r) m e = (let p = and_parts (not (is_done log u)) (touches g r) e in (u, r, m, not-true _ p.0, p.1))
busy-entry log es g (Done u c) m e = cc

busy-is : (log : List NodeEntry) (g : GrainId) (u : TxnId) (r : List Shift) → Member (Prepared u r) log → is_done log u ≡ false → touches g r ≡ true → is_busy log g ≡ true
busy-is log g u r m d t = any-member (keeps_busy log g) log (Prepared u r) m (and_from _ _ (ap not d) t)

-- a done transaction no longer keeps its grains, and no other grain is freed
busy-after : (opening : GrainId → Option ℤ) (log : List NodeEntry) (t : TxnId) (c : Bool) → Sound opening log → is_prepared log t ≡ true → is_done log t ≡ false → (g : GrainId) →
    is_busy (log ++ Done t c ∷ []) g ≡ (if touches g (shifts_of t log) then false else is_busy log g)
busy-after opening log t c k was fresh g = elim (cases_Bool (touches g (shifts_of t log))) [
  | inl h ↦ elim (cases_Bool (is_busy (log ++ Done t c ∷ []) g)) [
    | inl e ↦ (let x = found e in absurd (other x.0 x.3 (sym (k.alone t x.0 (shifts_of t log) x.1 g (shifts-member t log was) x.2 fresh (any-shrinks (ends x.0) log (Done t c) x.3) h x.4))))
    | inr e ↦ e ∙ sym (ap (λ b. if b then false else is_busy log g) h)
  ]
  | inr h ↦ same h ∙ sym (ap (λ b. if b then false else is_busy log g) h)
]
  where
    found : is_busy (log ++ Done t c ∷ []) g ≡ true → (u : TxnId) × (r : List Shift) × Member (Prepared u r) log × (is_done (log ++ Done t c ∷ []) u ≡ false) × (touches g r ≡ true)
    found e =
        let y = any-true (keeps_busy (log ++ Done t c ∷ []) g) (log ++ Done t c ∷ []) e in
        let x = busy-entry (log ++ Done t c ∷ []) (log ++ Done t c ∷ []) g y.0 y.1 y.2 in
        (x.0, x.1, elim (Member-one (Prepared x.0 x.1) (Done t c) log x.2) [ inl m ↦ m | inr q ↦ cc ], x.3, x.4)

    other : (u : TxnId) → is_done (log ++ Done t c ∷ []) u ≡ false → u ≡ t → ⊥
    other u d e = clash (is_done (log ++ Done t c ∷ []) u) (any-member (ends u) (log ++ Done t c ∷ []) (Done t c) (Member-last (Done t c) log) (same_txn-is t u (sym e))) d

    same : touches g (shifts_of t log) ≡ false → is_busy (log ++ Done t c ∷ []) g ≡ is_busy log g
    same h = elim (cases_Bool (is_busy (log ++ Done t c ∷ []) g)) [
      | inl e ↦ (let x = found e in e ∙ sym (busy-is log g x.0 x.1 x.2 (any-shrinks (ends x.0) log (Done t c) x.3) x.4))
      | inr e ↦ e ∙ sym (elim (cases_Bool (is_busy log g)) [
        | inr f ↦ f
        | inl f ↦ (let y = any-true (keeps_busy log g) log f in let x = busy-entry log log g y.0 y.1 y.2 in
            elim (cases_Bool (same_txn t x.0)) [
              | inl q ↦ clash (touches g (shifts_of t log)) (ap (touches g) (ap (λ u. shifts_of u log) (same_txn-true t x.0 q) ∙ k.first x.0 x.1 x.2) ∙ x.4) h
              | inr q ↦ clash (is_busy (log ++ Done t c ∷ []) g) (busy-is (log ++ Done t c ∷ []) g x.0 x.1 (Member-left (Prepared x.0 x.1) log (Done t c ∷ []) x.2) (any-last (ends x.0) log (Done t c) q ∙ x.3) x.4) e
            ])
      ])
    ]

-- a cell after a decision
pub cell-after : (opening : GrainId → Option ℤ) (log : List NodeEntry) (t : TxnId) (c : Bool) → Sound opening log → is_prepared log t ≡ true → is_done log t ≡ false → (g : GrainId) →
    settled c (shifts_of t log) g (cell_of opening log g) ≡ cell_of opening (log ++ Done t c ∷ []) g
cell-after opening log t c k was fresh g = elim (cases_Bool (touches g (shifts_of t log))) [
  | inr h ↦ settled-none c (shifts_of t log) g (cell_of opening log g) h
      ∙ (λ i. cell (moved_by (opening g) (sym (by ∙ ap (λ d. moved g log log +ℤ (if c then d else pos 0)) (delta-none g (shifts_of t log) h) ∙ zero-sum c) i)) (sym (busy-after opening log t c k was fresh g ∙ ap (λ b. if b then false else is_busy log g) h) i))
  | inl h ↦ (let x = any-true (λ z. same_grain z.grain g) (shifts_of t log) h in
      let apart = k.apart t (shifts_of t log) (shifts-member t log was) in
      settled-one c (shifts_of t log) g (cell_of opening log g) x.0 apart x.1 x.2
      ∙ one (opening g) x.0.delta c
      ∙ (λ i. cell (moved_by (opening g) (sym (by ∙ ap (λ d. moved g log log +ℤ (if c then d else pos 0)) (delta-one (shifts_of t log) x.0 apart x.1 g x.2)) i)) (sym (busy-after opening log t c k was fresh g ∙ ap (λ b. if b then false else is_busy log g) h) i)))
]
  where
    by : moved g (log ++ Done t c ∷ []) (log ++ Done t c ∷ []) ≡ moved g log log +ℤ (if c then delta g (shifts_of t log) else pos 0)
    by = moved-more g log (Done t c) k.prepared ∙ ap (λ s. moved g log log +ℤ (if c then delta g s else pos 0)) (shifts-stay t log (Done t c ∷ []) was)

    zero-sum : (b : Bool) → moved g log log +ℤ (if b then pos 0 else pos 0) ≡ moved g log log
    zero-sum true = plus_none (moved g log log)
    zero-sum false = plus_none (moved g log log)

    one : (o : Option ℤ) (d : ℤ) (b : Bool) → settled_cell b d (cell (moved_by o (moved g log log)) (is_busy log g)) ≡ cell (moved_by o (moved g log log +ℤ (if b then d else pos 0))) false
    one None d b = refl
    one (Some z) d true = ap (λ y. cell (Some y) false) (sym (plus_first z (moved g log log) d))
    one (Some z) d false = ap (λ y. cell (Some (z +ℤ y)) false) (sym (plus_none (moved g log log)))

-- the entries of a longer log
pub slice-left : (xs ys : List NodeEntry) (i : ℕ) → i < length xs → slice_get (xs ++ ys) i ≡ slice_get xs i
slice-left [] ys i h = absurd (omega (arith, h))
slice-left (x ∷ xs) ys zero h = refl
slice-left (x ∷ xs) ys (suc i) h = slice-left xs ys i (omega (arith, h))

pub longer : (xs : List NodeEntry) (x : NodeEntry) (i : ℕ) → i < length xs → i < length (xs ++ x ∷ [])
longer [] x i h = absurd (omega (arith, h))
longer (y ∷ ys) x zero h = omega arith
longer (y ∷ ys) x (suc i) h = (let t = longer ys x i (omega (arith, h)) in omega (arith, t))

-- what is known of another transaction stays
known-other : (log : List NodeEntry) (t u : TxnId) (c : Bool) → same_txn t u ≡ false → (o : Option Known) → IsKnown log u o → IsKnown (log ++ Done t c ∷ []) u o
known-other log t u c n None k = any-last (prepares u) log (Done t c) refl ∙ k
known-other log t u c n (Some o) k = (
  any-grows (prepares u) log (Done t c) k.0,
  any-last (ends u) log (Done t c) n ∙ k.1,
  ap entry_shifts (slice-left log (Done t c ∷ []) o.at k.3) ∙ k.2 ∙ sym (shifts-stay u log (Done t c ∷ []) k.0),
  longer log (Done t c) o.at k.3,
)

known-ended : (log : List NodeEntry) (t : TxnId) (c : Bool) → is_prepared log t ≡ true → (o : Option Known) → IsKnown log t o → IsKnown (log ++ Done t c ∷ []) t (ended o)
known-ended log t c was None k = clash (is_prepared log t) was k
known-ended log t c was (Some o) k = (
  any-grows (prepares t) log (Done t c) k.0,
  any-member (ends t) (log ++ Done t c ∷ []) (Done t c) (Member-last (Done t c) log) (same_txn-self t),
  ap entry_shifts (slice-left log (Done t c ∷ []) o.at k.3) ∙ k.2 ∙ sym (shifts-stay t log (Done t c ∷ []) k.0),
  longer log (Done t c) o.at k.3,
)

-- all of it follows a decision
pub follows-done : (opening : GrainId → Option ℤ) (log : List NodeEntry) (known known' : TxnId → Option Known) (waiting : List TxnId) (cells cells' : GrainId → Option Cell) (t : TxnId) (c : Bool) →
    FollowsLog opening log known waiting cells → is_prepared log t ≡ true → is_done log t ≡ false →
    ((u : TxnId) → known' u ≡ (if same_txn t u then ended (known u) else known u)) → ((g : GrainId) → cells' g ≡ settled c (shifts_of t log) g (cells g)) →
    FollowsLog opening (log ++ Done t c ∷ []) known' (others t waiting) cells'
follows-done opening log known known' waiting cells cells' t c k was fresh marks settles = record {
  sound = sound-done opening log t c k.sound was fresh;
  waiting_is = ap (others t) k.waiting_is ∙ sym (undecided-done log t c);
  known_is = λ u. subst (IsKnown (log ++ Done t c ∷ []) u) (sym (marks u)) (elim (cases_Bool (same_txn t u)) [
    | inl q ↦ subst (IsKnown (log ++ Done t c ∷ []) u) (sym (ap (λ b. if b then ended (known u) else known u) q))
        (subst (λ v. IsKnown (log ++ Done t c ∷ []) v (ended (known v))) (same_txn-true t u q) (known-ended log t c was (known t) (k.known_is t)))
    | inr q ↦ subst (IsKnown (log ++ Done t c ∷ []) u) (sym (ap (λ b. if b then ended (known u) else known u) q)) (known-other log t u c q (known u) (k.known_is u))
  ]);
  cells_are = λ g. settles g ∙ ap (settled c (shifts_of t log) g) (k.cells_are g) ∙ cell-after opening log t c k.sound was fresh g;
}
