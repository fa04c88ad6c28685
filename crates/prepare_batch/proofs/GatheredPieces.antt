-- What is gathered of a batch: its grains, and the versions of each.
use Rattle.std.proofs.Common.{◌≡◌, ℕ, Bool, true, false, not, List, [], ◌∷◌, ◌++◌, map, filter, cond, refl, sym, ◌∙◌, ap, subst}
use Rattle.std.specs.List.{flat_map}
use Rattle.std.proofs.lemmas.List.{map-append}
use Rattle.std.proofs.lemmas.List.Elements.{filter-append}
use Rattle.core_model.specs.CoreState.{UnitNo, GrainId, same_grain, Version, Write}
use Rattle.core_model.specs.declared.effects.Effect.{Effect}
use Rattle.core_model.specs.Tests.{grains_of}
use Rattle.prepare_batch.specs.declared.pieces.Piece.{Piece}
use Rattle.prepare_batch.specs.declared.works.FileWork.{FileWork}
use Rattle.prepare_batch.specs.Work.{reads_from, untouched, grains_written, versions_on, work_of}
use Rattle.prepare_batch.proofs.Orders.{strict_grains, strict_ascends}
use Rattle.core_model.specs.Steps.{AreAscending}
use Rattle.prepare_batch.specs.Pieces.{pieces_in, pieces_by, batch_pieces, with_pieces, pieces_by_grain}
use Rattle.prepare_batch.proofs.JoinedPieces.{is_on, version_in, work_with, joined_grains}

-- what one unit wrote, as a piece
abbrev piece_with : UnitNo → Write → Piece
piece_with u x = record { grain = x.0; version = record { unit = u; state = x.1 } }

abbrev version_with : UnitNo → Write → Version
version_with u x = record { unit = u; state = x.1 }

-- ---- one unit

unit_grains : (u : UnitNo) (xs : List Write) → map (λ (p : Piece). p.grain) (map (piece_with u) xs) ≡ map (λ (x : Write). x.0) xs
unit_grains u [] = refl
unit_grains u (x ∷ xs) = ap (λ l. x.0 ∷ l) (unit_grains u xs)

unit_versions : (g : GrainId) (u : UnitNo) (xs : List Write) → map version_in (filter (is_on g) (map (piece_with u) xs)) ≡ map (version_with u) (filter (λ (x : Write). same_grain x.0 g) xs)
unit_versions g u [] = refl
unit_versions g u (x ∷ xs) = by_test (unit_versions g u xs) (same_grain x.0 g)
  where
    by_test : map version_in (filter (is_on g) (map (piece_with u) xs)) ≡ map (version_with u) (filter (λ (y : Write). same_grain y.0 g) xs)
        → (t : Bool) → map version_in (cond t (piece_with u x ∷ filter (is_on g) (map (piece_with u) xs)) (filter (is_on g) (map (piece_with u) xs)))
        ≡ map (version_with u) (cond t (x ∷ filter (λ (y : Write). same_grain y.0 g) xs) (filter (λ (y : Write). same_grain y.0 g) xs))
    by_test more true = ap (λ l. version_with u x ∷ l) more
    by_test more false = more

-- ---- all units

pub batch_grains : (units : List UnitNo) (es : List Effect) → map (λ (p : Piece). p.grain) (batch_pieces units es) ≡ flat_map (λ e. map (λ (x : Write). x.0) e.writes) (untouched units es)
batch_grains units [] = refl
batch_grains units (e ∷ es) =
    map-append (λ (p : Piece). p.grain) (pieces_by units e) (batch_pieces units es)
    ∙ by_test (batch_grains units es) (reads_from units e)
  where
    by_test : map (λ (p : Piece). p.grain) (batch_pieces units es) ≡ flat_map (λ e. map (λ (x : Write). x.0) e.writes) (untouched units es) → (t : Bool) → map (λ (p : Piece). p.grain) (cond t [] (pieces_in e)) ++ map (λ (p : Piece). p.grain) (batch_pieces units es)
        ≡ flat_map (λ e. map (λ (x : Write). x.0) e.writes) (cond (not t) (e ∷ untouched units es) (untouched units es))
    by_test more true = more
    by_test more false = λ i. unit_grains e.unit e.writes i ++ more i

pub batch_versions : (g : GrainId) (units : List UnitNo) (es : List Effect) → map version_in (filter (is_on g) (batch_pieces units es)) ≡ versions_on g (untouched units es)
batch_versions g units [] = refl
batch_versions g units (e ∷ es) =
    ap (map version_in) (filter-append (is_on g) (pieces_by units e) (batch_pieces units es))
    ∙ map-append version_in (filter (is_on g) (pieces_by units e)) (filter (is_on g) (batch_pieces units es))
    ∙ by_test (batch_versions g units es) (reads_from units e)
  where
    by_test : map version_in (filter (is_on g) (batch_pieces units es)) ≡ versions_on g (untouched units es) → (t : Bool) → map version_in (filter (is_on g) (cond t [] (pieces_in e))) ++ map version_in (filter (is_on g) (batch_pieces units es))
        ≡ versions_on g (cond (not t) (e ∷ untouched units es) (untouched units es))
    by_test more true = more
    by_test more false = λ i. unit_versions g e.unit e.writes i ++ more i

-- gathered, by grains, and put together: the work of the batch
pub gathered : (at : GrainId → ℕ) (units : List UnitNo) (es : List Effect) → with_pieces at [] (pieces_by_grain (batch_pieces units es)) ≡ work_of at (untouched units es)
gathered at units es =
    joined_grains at (batch_pieces units es)
    ∙ (λ i. map (λ g. work_with at g (batch_versions g units es i)) (grains_of (batch_grains units es i)))

grains_in_work : (at : GrainId → ℕ) (es : List Effect) (gs : List GrainId) → map (λ (x : FileWork). x.grain) (map (λ g. work_with at g (versions_on g es)) gs) ≡ gs
grains_in_work at es [] = refl
grains_in_work at es (g ∷ gs) = ap (λ l. g ∷ l) (grains_in_work at es gs)

-- its grains ascend, each once
pub work_ascends : (at : GrainId → ℕ) (es : List Effect) → AreAscending (map (λ (x : FileWork). x.grain) (work_of at es))
work_ascends at es = subst AreAscending (sym (grains_in_work at es (grains_written es))) (strict_ascends (grains_written es) (strict_grains (flat_map (λ e. map (λ (x : Write). x.0) e.writes) es)))
