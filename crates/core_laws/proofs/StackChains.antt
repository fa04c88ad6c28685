-- Stacks as chains.
use Rattle.std.proofs.Common.{◌≡◌, List, [], ◌∷◌, Bool, true, false, ◌⊎◌, inl, inr, refl, sym, subst}
use Rattle.std.specs.List.{list_any as any}
use Rattle.std.proofs.lemmas.Bool.{cond_both, or_cases}
use Rattle.cell_model.specs.Stacks.{is_of, committed_stack}
use Rattle.cell_model.proofs.Units.{same_unit-true}
use Rattle.cell_model.proofs.Stacks.{committed-top}
use Rattle.core_model.specs.CoreState.{UnitNo, Version, top, cut}
use Rattle.core_model.specs.Chains.{Chain}

pub Chain-more : (B B' : Version → Type 0) (L L' : Version → Version → Type 0)
    → ((x : Version) → B x → B' x) → ((x y : Version) → L x y → L' x y) → (xs : List Version) → Chain B L xs → Chain B' L' xs
Chain-more B B' L L' b l [] c = c
Chain-more B B' L L' b l (x ∷ []) c = b x c
Chain-more B B' L L' b l (x ∷ y ∷ ys) c = (l x y c.0, Chain-more B B' L L' b l (y ∷ ys) c.1)

pub Chain-push : (B : Version → Type 0) (L : Version → Version → Type 0) (x : Version) (xs : List Version) → L x (top xs) → Chain B L xs → Chain B L (x ∷ xs)
Chain-push B L x [] l c = absurd c
Chain-push B L x (y ∷ ys) l c = (l, c)

-- the top is a bottom or has a link
pub Chain-top : (B : Version → Type 0) (L : Version → Version → Type 0) (xs : List Version) → Chain B L xs → B (top xs) ⊎ ((y : Version) × L (top xs) y)
Chain-top B L [] c = absurd c
Chain-top B L (x ∷ []) c = inl c
Chain-top B L (x ∷ y ∷ ys) c = inr (y, c.0)

-- a fact about the top that passes down through what is cut off
pub cut-top : (B : Version → Type 0) (L : Version → Version → Type 0) (p : Version → Bool) (D : Version → Type 0) (P : Version → Type 0)
    → ((x : Version) → B x → p x ≡ true → ⊥)
    → ((x : Version) → p x ≡ true → D x)
    → ((x y : Version) → L x y → D y → D x)
    → ((x y : Version) → L x y → D x → P x → P y)
    → (xs : List Version) → Chain B L xs → P (top xs) → P (top (cut p xs))
cut-top B L p D P b here up down [] c h = absurd c
cut-top B L p D P b here up down (x ∷ []) c h =
    cond_both (any p (x ∷ [])) (cut p []) (x ∷ []) (λ t. P (top t))
    (λ e. elim (or_cases (p x) false e) [ inl e' ↦ absurd (b x c e') | inr e' ↦ cc ])
    (λ e. h)
cut-top B L p D P b here up down (x ∷ y ∷ ys) c h =
    cond_both (any p (x ∷ y ∷ ys)) (cut p (y ∷ ys)) (x ∷ y ∷ ys) (λ t. P (top t))
    (λ e. cut-top B L p D P b here up down (y ∷ ys) c.1 (down x y c.0 (dead x (y ∷ ys) c e) h))
    (λ e. h)
  where
    dead : (x : Version) (xs : List Version) → Chain B L (x ∷ xs) → any p (x ∷ xs) ≡ true → D x
    dead x [] c e = elim (or_cases (p x) false e) [ inl e' ↦ here x e' | inr e' ↦ cc ]
    dead x (y ∷ ys) c e = elim (or_cases (p x) (any p (y ∷ ys)) e) [ inl e' ↦ here x e' | inr e' ↦ up x y c.0 (dead y ys c.1 e') ]

pub cut-Chain : (B : Version → Type 0) (L : Version → Version → Type 0) (p : Version → Bool)
    → ((x : Version) → B x → p x ≡ true → ⊥)
    → (xs : List Version) → Chain B L xs → Chain B L (cut p xs)
cut-Chain B L p b [] c = c
cut-Chain B L p b (x ∷ []) c =
    cond_both (any p (x ∷ [])) (cut p []) (x ∷ []) (λ t. Chain B L t)
    (λ e. elim (or_cases (p x) false e) [ inl e' ↦ absurd (b x c e') | inr e' ↦ cc ])
    (λ e. c)
cut-Chain B L p b (x ∷ y ∷ ys) c =
    cond_both (any p (x ∷ y ∷ ys)) (cut p (y ∷ ys)) (x ∷ y ∷ ys) (λ t. Chain B L t)
    (λ e. cut-Chain B L p b (y ∷ ys) c.1)
    (λ e. c)

-- the unit is committed, so its version can be the bottom
pub committed-Chain : (B : Version → Type 0) (L : Version → Version → Type 0) (u : UnitNo)
    → ((x y : Version) → x.unit ≡ u → L x y → B x)
    → (xs : List Version) → Chain B L xs → Chain B L (committed_stack u xs)
committed-Chain B L u b [] c = c
committed-Chain B L u b (x ∷ []) c = cond_both (is_of u x) (x ∷ []) (x ∷ []) (λ t. Chain B L t) (λ e. c) (λ e. c)
committed-Chain B L u b (x ∷ y ∷ ys) c =
    cond_both (is_of u x) (x ∷ []) (x ∷ committed_stack u (y ∷ ys)) (λ t. Chain B L t)
    (λ e. b x y (same_unit-true _ _ e) c.0)
    (λ e. Chain-push B L x (committed_stack u (y ∷ ys)) (subst (λ t. L x t) (sym (committed-top u (y ∷ ys))) c.0) (committed-Chain B L u b (y ∷ ys) c.1))

-- a single bottom stays, whatever is taken off
pub cut-single : (p : Version → Bool) (x : Version) → (p x ≡ true → ⊥) → cut p (x ∷ []) ≡ x ∷ []
cut-single p x no' = cond_both (any p (x ∷ [])) (cut p []) (x ∷ []) (λ t. t ≡ x ∷ [])
    (λ e. elim (or_cases (p x) false e) [ inl h ↦ absurd (no' h) | inr h ↦ cc ])
    (λ e. refl)

pub committed-single : (u : UnitNo) (x : Version) → committed_stack u (x ∷ []) ≡ x ∷ []
committed-single u x = cond_both (is_of u x) (x ∷ []) (x ∷ []) (λ t. t ≡ x ∷ []) (λ e. refl) (λ e. refl)
