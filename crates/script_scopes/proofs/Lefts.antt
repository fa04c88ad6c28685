-- A check that leaves the names in scope as they are to be.
use Rattle.std.proofs.Common.{◌≡◌, Ok, Err, Result}
use Rattle.script_scopes.specs.declared.faults.CheckFault.{CheckFault}
use Rattle.script_scopes.specs.FirstFaults.{FirstFault, Answers, Leaves}

-- one whose answer is that fault, and that leaves what is wanted
pub leaves_them : {A B : Type 0} (r : Result A CheckFault) (found : FirstFault) (left wanted : B) → left ≡ wanted → Answers r found → Leaves r found left wanted
leaves_them (Ok done) found left wanted l a = (a, l)
leaves_them (Err fault) found left wanted l a = a
