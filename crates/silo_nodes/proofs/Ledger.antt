-- Cells that follow the log.
use Rattle.std.proofs.Common.{◌≡◌, List, ◌∷◌, Bool, true, false, not, inl, inr, refl, sym, ap, ◌∙◌, subst, Option, Some, None, IfSome, FitsSigned}
use Rattle.std.specs.Prelude.{ℤ, ◌+ℤ◌, if◌then◌else◌}
use Rattle.std.specs.declared.cmp.Ordering.{Ordering}
use Rattle.std.specs.declared.cmp.Ordering.TheVariants.{Less, Equal, Greater}
use Rattle.std.specs.Ordering.{nat_cmp, ordering_then, is_eq}
use Rattle.std.specs.BTreeMap.{BTreeMap, is_at, get}
use Rattle.std.proofs.lemmas.Map.Lookups.{exact_unsigned}
use Rattle.std.proofs.lemmas.Bool.{cases_Bool, and_parts}
use Rattle.base_types.specs.Stores.{grain_cmp}
use mir.Syntax.{w64}
use Rattle.silo_nodes.specs.Packets.{GrainId, Shift, same_grain, touches, is_apart}
use Rattle.silo_nodes.specs.LogCache.{Cell, settled_cell, ShiftsFit}
use Rattle.silo_nodes.proofs.Lists.{same_grain-true, same_grain-is, clash, not-true, any-member}

both_equal : (a b : Ordering) → is_eq (ordering_then a b) ≡ true → (a ≡ Equal) × (b ≡ Equal)
both_equal Less b e = absurd (cc e)
both_equal Greater b e = absurd (cc e)
both_equal Equal Less e = absurd (cc e)
both_equal Equal Greater e = absurd (cc e)
both_equal Equal Equal e = (refl, refl)

same_at : (a b : GrainId) → is_at (grain_cmp a) b ≡ true → a ≡ b
same_at a b e =
    let equal = both_equal (nat_cmp a.kind b.kind) (nat_cmp a.key b.key) e in
    let kind : a.kind ≡ b.kind = exact_unsigned a.kind b.kind equal.0 in
    let key : a.key ≡ b.key = exact_unsigned a.key b.key equal.1 in
    λ i. record { kind = kind i; key = key i }

-- the order tells another grain apart
pub apart : (a b : GrainId) → same_grain a b ≡ false → is_at (grain_cmp a) b ≡ false
apart a b other = elim (cases_Bool (is_at (grain_cmp a) b)) [ inl e ↦ clash (same_grain a b) (same_grain-is a b (same_at a b e)) other | inr e ↦ e ]

-- one cell is written
pub one-written : (m n : BTreeMap GrainId Cell) (g : GrainId) (old new : Cell) (d : ℤ) (c : Bool) →
    get grain_cmp m g ≡ Some old → get grain_cmp n g ≡ Some new → ((q : GrainId) → is_at (grain_cmp g) q ≡ false → get grain_cmp n q ≡ get grain_cmp m q) →
    Some new ≡ settled_cell c d (Some old) →
    (q : GrainId) → get grain_cmp n q ≡ (if same_grain g q then settled_cell c d (get grain_cmp m q) else get grain_cmp m q)
one-written m n g old new d c was is others e q = elim (cases_Bool (same_grain g q)) [
  | inl h ↦ subst (λ z. get grain_cmp n z ≡ settled_cell c d (get grain_cmp m z)) (same_grain-true g q h) (is ∙ e ∙ ap (settled_cell c d) (sym was))
      ∙ sym (ap (λ b. if b then settled_cell c d (get grain_cmp m q) else get grain_cmp m q) h)
  | inr h ↦ others q (apart g q h) ∙ sym (ap (λ b. if b then settled_cell c d (get grain_cmp m q) else get grain_cmp m q) h)
]

-- where there is no cell nothing changes
pub one-missing : (m : BTreeMap GrainId Cell) (g : GrainId) (d : ℤ) (c : Bool) → get grain_cmp m g ≡ None →
    (q : GrainId) → get grain_cmp m q ≡ (if same_grain g q then settled_cell c d (get grain_cmp m q) else get grain_cmp m q)
one-missing m g d c none q = elim (cases_Bool (same_grain g q)) [
  | inl h ↦ subst (λ z. get grain_cmp m z ≡ settled_cell c d (get grain_cmp m z)) (same_grain-true g q h) (none ∙ ap (settled_cell c d) (sym none))
      ∙ sym (ap (λ b. if b then settled_cell c d (get grain_cmp m q) else get grain_cmp m q) h)
  | inr h ↦ sym (ap (λ b. if b then settled_cell c d (get grain_cmp m q) else get grain_cmp m q) h)
]

-- the first of the shifts fits, and the rest after it
pub room-rest : (x : Shift) (xs : List Shift) (c : Bool) (f f' : GrainId → Option Cell) → ShiftsFit (x ∷ xs) f →
    ((g : GrainId) → f' g ≡ (if same_grain x.grain g then settled_cell c x.delta (f g) else f g)) → ShiftsFit xs f'
room-rest x xs c f f' r h =
    let p = and_parts (not (touches x.grain xs)) (is_apart xs) r.apart in
    record {
      apart = p.1;
      fits = λ y m. elim (cases_Bool (same_grain x.grain y.grain)) [
        | inl e ↦ clash (touches x.grain xs) (any-member (λ z. same_grain z.grain x.grain) xs y m (same_grain-is y.grain x.grain (sym (same_grain-true x.grain y.grain e)))) (not-true _ p.0)
        | inr e ↦ subst (λ o. IfSome o (λ c. FitsSigned w64 (c.balance +ℤ y.delta))) (sym (h y.grain ∙ ap (λ b. if b then settled_cell c x.delta (f y.grain) else f y.grain) e)) (r.fits y (inr m))
      ];
    }
