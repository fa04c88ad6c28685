use Rattle.std.proofs.Common.{◌≡◌}
use Rattle.base_types.specs.declared.calls.GrainId.{GrainId}
use Rattle.base_types.specs.Stores.{state_in}
use Rattle.script_tree.specs.Programs.{program_tree}
use Rattle.log_audit.proofs.CarriedStores.{carried_of}
use Rattle.log_audit.proofs.carrying.carry_store.Given as goal

abbrev pub invariant-loop-grain : goal.invariant-loop-grain
invariant-loop-grain l = (grain : GrainId) → state_in l.made grain ≡ carried_of (program_tree l.old) (program_tree l.new) l.store l.yielded grain
