-- One program alone: those that came into force one after the other are it, and each place has its number.
use Rattle.std.proofs.Common.{◌≡◌, ◌<◌, Bool, true, false, Some, None, List, [], ◌∷◌, length, map, refl, sym, ap, ◌∙◌, arith}
use Rattle.base_types.specs.declared.calls.GrainId.{GrainId}
use Rattle.base_types.specs.declared.places.Placed.{Placed}
use Rattle.base_types.specs.declared.places.Places.{Places}
use Rattle.base_types.specs.Places.{placed_in, PutsPlaced}
use Rattle.host_trait.specs.Files.{same_grain}
use Rattle.host_trait.proofs.Names.{same_grain-is, same_grain-refl}
use Rattle.script_tree.specs.declared.programs.Program.{Program}
use Rattle.script_tree.specs.Programs.{program_tree}
use Rattle.program_file.specs.Succession.{ArePrograms}

-- it is all of them
pub alone : (programs : List Program) → length programs ≡ 1 → ArePrograms (map program_tree programs)
alone [] one = absurd (omega (arith, one))
alone (p ∷ []) one = record { in_turn = tt; few = omega arith }
alone (p ∷ (q ∷ programs)) one = absurd (omega (arith, one))

-- no place has another number, where there is none
pub none_numbered : (places : Places) → ((g : GrainId) → placed_in places g ≡ None) → (g : GrainId) (p : Placed) → placed_in places g ≡ Some p → p.program < 1
none_numbered places none g p is = (let z : None ≡ Some p = sym (none g) ∙ is in absurd cc)

one_place : (a p : Placed) → a.program ≡ 0 → Some a ≡ Some p → p.program < 1
one_place a p zero e = (let same : a ≡ p = cc in let number : a.program ≡ p.program = ap (λ (x : Placed). x.program) same in omega (arith, zero, number))

-- nor where one was put
pub one_numbered : (old new : Places) (grain : GrainId) (placed : Placed) → ((g : GrainId) → placed_in old g ≡ None) → PutsPlaced old new grain placed → placed.program ≡ 0 → (g : GrainId) (p : Placed) → placed_in new g ≡ Some p → p.program < 1
one_numbered old new grain placed none puts zero g p is = by_test (same_grain grain g) refl
  where
    by_test : (b : Bool) → same_grain grain g ≡ b → p.program < 1
    by_test true same = one_place placed p zero (sym puts.put ∙ ap (placed_in new) (same_grain-is grain g same) ∙ is)
    by_test false differ =
        none_numbered old none g p (sym (puts.others g (λ e. (let z : true ≡ false = sym (ap (λ (h : GrainId). same_grain grain h) e ∙ same_grain-refl grain) ∙ differ in cc))) ∙ is)
