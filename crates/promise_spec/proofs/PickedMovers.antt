-- Of the movers a unit or the settler is picked: where a line's turn is, a line can begin.
use Rattle.std.proofs.Common.{◌≡◌, ℕ, zero, suc, List, [], ◌∷◌, ◌++◌, map, Option, Some, None, Bool, true, false, true≢false, refl, sym, ap, is_some}
use Rattle.std.specs.Prelude.{filter, length, slice_get, ◌%◌, if◌then◌else◌}
use Rattle.core_model.specs.CoreState.{UnitNo, GrainId, CoreState}
use Rattle.core_model.specs.LegalRuns.{Run}
use Rattle.core_model.specs.Settler.{has_step, settler_step}
use Rattle.script_tree.specs.Programs.{ProgramTree}
use Rattle.promise_spec.specs.UnitAnswers.{Got}
use Rattle.promise_spec.specs.TurnRule.{Mover, OfLine, OfUnit, OfSettler, can_move, movers, picked, takes_pick, turn_of, units_of}
use Rattle.promise_spec.proofs.Lists.{some_is}

-- who is picked of these takes a pick
abbrev pub TakesPicks : List Mover → Type 0
TakesPicks ms = (i : ℕ) (m : Mover) → slice_get ms i ≡ Some m → takes_pick m ≡ true

takes-tail : (b : Bool) → TakesPicks (if b then OfSettler ∷ [] else [])
takes-tail true zero m e = ap takes_pick (sym (some_is OfSettler m e))
takes-tail true (suc i) m e = absurd cc
takes-tail false i m e = absurd cc

takes-all : (us : List UnitNo) (tail : List Mover) → TakesPicks tail → TakesPicks (map OfUnit us ++ tail)
takes-all [] tail t i m e = t i m e
takes-all (u ∷ us) tail t zero m e = ap takes_pick (sym (some_is (OfUnit u) m e))
takes-all (u ∷ us) tail t (suc i) m e = takes-all us tail t i m e

pub movers-take : (types : ProgramTree) (r : Run) (w : CoreState) (got : UnitNo → List Got) → TakesPicks (movers types r w got)
movers-take types r w got = by (is_some w.manager.doubt)
  where
    tail : List Mover
    tail = if has_step (settler_step w) then OfSettler ∷ [] else []

    units : List UnitNo
    units = filter (can_move types w got) (units_of r w)

    by : (b : Bool) → TakesPicks ((if b then [] else map OfUnit units) ++ tail)
    by true = takes-tail (has_step (settler_step w))
    by false = takes-all units tail (takes-tail (has_step (settler_step w)))

pub picked-takes : (ms : List Mover) (pick : ℕ) (m : Mover) → TakesPicks ms → picked ms pick ≡ Some m → takes_pick m ≡ true
picked-takes [] pick m t e = absurd cc
picked-takes (n ∷ ms) pick m t e = t (pick % length (n ∷ ms)) m e

-- where it is a line's turn, a line can begin
pub line-begins : (ms : List Mover) (pick : ℕ) → TakesPicks ms → (due : Option GrainId) (begins_line : Bool) (wish : Option UnitNo) → turn_of due begins_line wish (picked ms pick) ≡ Some OfLine
    → begins_line ≡ true
line-begins ms pick t (Some g) b wish e = absurd cc
line-begins ms pick t None true wish e = refl
line-begins ms pick t None false (Some u) e = absurd cc
line-begins ms pick t None false None e = absurd (true≢false (sym (picked-takes ms pick OfLine t e)))
