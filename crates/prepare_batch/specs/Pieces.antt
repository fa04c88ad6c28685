-- The steps to a batch's work: its writes in batch order, by grains, and put together.
use Rattle.std.specs.Prelude.{ℕ, List, [], ◌∷◌, ◌++◌, if◌then◌else◌, map, filter}
use Rattle.std.specs.List.{flat_map}
use Rattle.core_model.specs.CoreState.{UnitNo, GrainId, same_grain, Write}
use Rattle.core_model.specs.declared.effects.Effect.{Effect}
use Rattle.core_model.specs.Tests.{grains_of}
use Rattle.prepare_batch.specs.declared.pieces.Piece.{Piece}
use Rattle.prepare_batch.specs.declared.works.FileWork.{FileWork}
use Rattle.prepare_batch.specs.Work.{reads_from}

-- what the unit wrote
abbrev pub pieces_in : Effect → List Piece
pieces_in e = map (λ (x : Write). record { grain = x.0; version = record { unit = e.unit; state = x.1 } }) e.writes

-- none where it read from one of these
abbrev pub pieces_by : List UnitNo → Effect → List Piece
pieces_by units e = if reads_from units e then [] else pieces_in e

-- what those wrote that read from none of these, in their order
abbrev pub batch_pieces : List UnitNo → List Effect → List Piece
batch_pieces units effects = flat_map (pieces_by units) effects

-- the pieces by grains, ascending, those of one grain in the order that they had
abbrev pub pieces_by_grain : List Piece → List Piece
pieces_by_grain pieces = flat_map (λ g. filter (λ (p : Piece). same_grain p.grain g) pieces) (grains_of (map (λ (p : Piece). p.grain) pieces))

-- the work of a grain that has one version
abbrev pub first_work : (GrainId → ℕ) → Piece → FileWork
first_work at p = record { grain = p.grain; at = at p.grain; versions = p.version ∷ [] }

-- one version more
abbrev pub more_work : FileWork → Piece → FileWork
more_work x p = record { grain = x.grain; at = x.at; versions = x.versions ++ p.version ∷ [] }

-- one piece more: of the last grain, or of a new one
abbrev pub with_piece : (GrainId → ℕ) → List FileWork → Piece → List FileWork
with_piece at [] p = first_work at p ∷ []
with_piece at (x ∷ []) p = if same_grain x.grain p.grain then more_work x p ∷ [] else x ∷ first_work at p ∷ []
with_piece at (x ∷ y ∷ xs) p = x ∷ with_piece at (y ∷ xs) p

-- and these pieces more
abbrev pub with_pieces : (GrainId → ℕ) → List FileWork → List Piece → List FileWork
with_pieces at xs [] = xs
with_pieces at xs (p ∷ ps) = with_pieces at (with_piece at xs p) ps
