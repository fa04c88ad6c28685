-- The first frame of a unit.
use Rattle.std.proofs.Common.{◌≡◌, ℕ, zero, suc, ◌+◌, ◌-◌, List, Bool, true, false, Some, None, refl, sym, ap, ◌∙◌, arith}
use Rattle.std.specs.Prelude.{slice_get}
use Rattle.base_types.specs.declared.calls.Call.{Call}
use Rattle.base_types.specs.declared.calls.Value.{Value}
use Rattle.script_tree.specs.declared.options.Entered.{Entered}
use Rattle.script_tree.specs.declared.options.Entered.TheVariants.{Joined, NewUnit, Plain, Refused}
use Rattle.script_tree.specs.declared.options.EntryRefusal.{EntryRefusal}
use Rattle.script_tree.specs.declared.options.MethodKind.TheVariants as does
use Rattle.script_tree.specs.Options.{entered}
use Rattle.script_tree.specs.Programs.{ProgramTree}
use Rattle.script_values.specs.Faults.{unknown, option_refusal_text}
use Rattle.script_holding.specs.Limits.{depth_limit}
use Rattle.script_meaning.specs.Requests.{stop}
use Rattle.script_meaning.specs.Calls.{enters, numbered}
use Rattle.script_meaning.specs.Statements.{deep}
use Rattle.script_meaning.specs.Play.{as_first, at_start, ends_unit, first_frame, unit}
use Rattle.script_machine.specs.declared.callees.Callee.{Callee}
use Rattle.script_machine.specs.Callees.{IsThere, target_of}
use Rattle.script_machine.specs.Machines.{first_opened}
use Rattle.script_machine.proofs.Entries.{enters_plain, enters_joined}

module _ (types : ProgramTree) (callee : Callee) (there : IsThere types callee) (args : List Value) where
  opens_plain : (n at : ℕ) (context : Bool) → n ≡ depth_limit + 1 - at → enters (deep types n) (Plain context) at callee.grain (target_of callee) args ends_unit stop at_start ≡ first_opened types n callee does.Plain context args at
  opens_plain zero at context e = refl
  opens_plain (suc n) at context e = enters_plain types callee args ends_unit stop at_start (suc n) at context (omega (arith, e)) there

  opens_joined : (n at : ℕ) → n ≡ depth_limit + 1 - at → enters (deep types n) Joined at callee.grain (target_of callee) args ends_unit stop at_start ≡ first_opened types n callee (target_of callee).method.kind true args at
  opens_joined zero at e = refl
  opens_joined (suc n) at e = enters_joined types callee args ends_unit stop at_start (suc n) at (omega (arith, e)) there

-- no such method
pub unit_unknown : (types : ProgramTree) (call : Call) (at : ℕ) → numbered (slice_get types call.grain.kind) call.method ≡ None → unit types call at ≡ stop unknown at_start
unfolding unit
unit_unknown types call at e = ap (first_frame (deep types (depth_limit + 1 - at)) at call) e

module _ (types : ProgramTree) (call : Call) (callee : Callee) (there : IsThere types callee) (same : callee.grain ≡ call.grain) (found : numbered (slice_get types call.grain.kind) call.method ≡ Some (target_of callee)) where
  -- the first frame, as the method's option says
  unit_enters : (way : Entered) (at : ℕ) → entered (target_of callee).method.option false ≡ way → unit types call at ≡ enters (deep types (depth_limit + 1 - at)) (as_first way) at callee.grain (target_of callee) call.args ends_unit stop at_start
  unfolding unit
  unit_enters way at e =
      ap (first_frame (deep types (depth_limit + 1 - at)) at call) found
      ∙ (λ j. enters (deep types (depth_limit + 1 - at)) (as_first (e j)) at (sym same j) (target_of callee) call.args ends_unit stop at_start)

  pub unit_refused : (why : EntryRefusal) (at : ℕ) → entered (target_of callee).method.option false ≡ Refused why → unit types call at ≡ stop (option_refusal_text why) at_start
  unit_refused why at e = unit_enters (Refused why) at e

  pub unit_plain : (context : Bool) (at : ℕ) → entered (target_of callee).method.option false ≡ Plain context → unit types call at ≡ first_opened types (33 - at) callee does.Plain context call.args at
  unit_plain context at e = unit_enters (Plain context) at e ∙ opens_plain types callee there call.args (33 - at) at context refl

  pub unit_joined : (at : ℕ) → entered (target_of callee).method.option false ≡ Joined → unit types call at ≡ first_opened types (33 - at) callee (target_of callee).method.kind true call.args at
  unit_joined at e = unit_enters Joined at e ∙ opens_joined types callee there call.args (33 - at) at refl

  pub unit_new : (at : ℕ) → entered (target_of callee).method.option false ≡ NewUnit → unit types call at ≡ first_opened types (33 - at) callee (target_of callee).method.kind true call.args at
  unit_new at e = unit_enters NewUnit at e ∙ opens_joined types callee there call.args (33 - at) at refl
