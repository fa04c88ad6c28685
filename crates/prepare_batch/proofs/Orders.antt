-- Pieces, sorted by their grains without changing the order of one grain's, are those of `by_grain`.
use Rattle.std.proofs.Common.{◌≡◌, inl, inr, if◌then◌else◌, List, [], ◌∷◌, map, refl, sym, ◌∙◌, subst}
use Rattle.std.specs.List.{AllByRecursion}
use Rattle.std.specs.List.Sorted.{IsSortedByKey, IsStableByKey}
use Rattle.std.proofs.lemmas.Bool.{cond_both, false≢true}
use Rattle.base_types.specs.declared.calls.GrainId.{GrainId}
use Rattle.base_types.specs.Stores.{grain_cmp}
use Rattle.base_types.proofs.GrainOrder.{Before, Strict, to_before, from_before, chain, is_same, other_before, all_on, in_map, sorted_by_grains}
use Rattle.prepare_batch.specs.declared.pieces.Piece.{Piece}
use Rattle.cell_model.specs.Units.{same_grain, Member}
use Rattle.core_model.specs.Tests.{is_before, with_grain, grains_of}
use Rattle.core_model.specs.Steps.{AreAscending}
use Rattle.core_laws.proofs.Plans.{grains-in}
use Rattle.prepare_batch.specs.Pieces.{pieces_by_grain}

all_with : (P : GrainId → Type 0) (hs : List GrainId) (g : GrainId) → P g → AllByRecursion P hs → AllByRecursion P (with_grain hs g)
all_with P [] g one all = (one, tt)
all_with P (h ∷ hs) g one all =
    let more = all_with P hs g one all.1 in
    cond_both (same_grain h g) (h ∷ hs) (if is_before g h then g ∷ h ∷ hs else h ∷ with_grain hs g) (AllByRecursion P) (λ e. all)
    (λ e. cond_both (is_before g h) (g ∷ h ∷ hs) (h ∷ with_grain hs g) (AllByRecursion P) (λ t. (one, all)) (λ f. (all.0, more)))

strict_with : (hs : List GrainId) (g : GrainId) → Strict hs → Strict (with_grain hs g)
strict_with [] g up = (tt, tt)
strict_with (h ∷ hs) g up =
    let more = strict_with hs g up.1 in
    cond_both (same_grain h g) (h ∷ hs) (if is_before g h then g ∷ h ∷ hs else h ∷ with_grain hs g) Strict (λ e. up)
    (λ e. cond_both (is_before g h) (g ∷ h ∷ hs) (h ∷ with_grain hs g) Strict
    (λ t. ((to_before g h t, all_on (Before h) (Before g) (λ k later. chain g h k (to_before g h t) later) hs up.0), up))
    (λ f. (all_with (Before h) hs g (other_before g h f (λ same. false≢true (sym e ∙ is_same h g (sym same)))) up.0, more)))

pub strict_grains : (gs : List GrainId) → Strict (grains_of gs)
strict_grains [] = tt
strict_grains (g ∷ gs) = strict_with (grains_of gs) g (strict_grains gs)

each_of : (P : GrainId → Type 0) (gs : List GrainId) → AllByRecursion P gs → (k : GrainId) → Member k gs → P k
each_of P [] all k none = absurd none
each_of P (g ∷ gs) all k (inl here) = subst P (sym here) all.0
each_of P (g ∷ gs) all k (inr there) = each_of P gs all.1 k there

pub strict_ascends : (gs : List GrainId) → Strict gs → AreAscending gs
strict_ascends [] up = tt
strict_ascends (g ∷ gs) up = ((λ k m. from_before g k (each_of (Before g) gs up.0 k m)), strict_ascends gs up.1)

-- the sorted list is that by grains
pub sorted_is_by_grain : (xs ys : List Piece) → IsSortedByKey (λ (p : Piece). p.grain) grain_cmp ys → IsStableByKey (λ (p : Piece). p.grain) grain_cmp xs ys → ys ≡ pieces_by_grain xs
sorted_is_by_grain xs ys sorted stable =
    sorted_by_grains (λ (p : Piece). p.grain) (λ g. record { grain = g; version = record { unit = record { 0 = 0 }; state = [] } }) (λ g. refl) xs ys sorted stable (grains_of (map (λ (p : Piece). p.grain) xs)) (strict_grains (map (λ (p : Piece). p.grain) xs))
    (λ n there. grains-in (map (λ (p : Piece). p.grain) xs) n.grain (in_map (λ (p : Piece). p.grain) n xs there))
