use Rattle.std.proofs.Common.{◌≡◌, ◌||◌, is_some}
use Rattle.std.specs.List.{fold}
use Rattle.base_types.specs.declared.calls.GrainId.{GrainId}
use Rattle.base_types.specs.Stores.{state_in}
use Rattle.script_tree.specs.Programs.{ProgramTree}
use Rattle.script_meaning.specs.Play.{found_in}
use Rattle.promise_spec.specs.Records.{put_state}
use Rattle.promise_spec.specs.Entries.{is_among}
use Rattle.log_audit.specs.CarriedStores.{StoreFits, AreOfProgram}
use Rattle.log_audit.proofs.replay.keep.Given as goal

abbrev pub invariant-loop-grain : goal.invariant-loop-grain
invariant-loop-grain l = record {
  held : (grain : GrainId) → is_some (state_in l.store grain) ≡ (is_among l.yielded grain || is_some (state_in l.fn.store grain));
  fits : (types : ProgramTree) → AreOfProgram types l.yielded → StoreFits types l.fn.store → StoreFits types l.store;
  states : (types : ProgramTree) → found_in types l.store ≡ fold put_state (found_in types l.fn.store) l.yielded;
}
