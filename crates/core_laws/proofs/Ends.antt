-- What holds after a legal run.
use Rattle.std.proofs.Common.{◌++◌, Bool, subst}
use Rattle.core_model.specs.declared.effects.Effect.{Effect}
use Rattle.core_model.specs.LegalRuns.{Run, IsLegal, begins, ends}
use Rattle.core_model.specs.SerialOrder.{IsSerialOrder, committed, chosen}
use Rattle.core_laws.proofs.KeptInvariant.{Kept, kept-start, kept-run}
use Rattle.core_laws.proofs.UnitPlays.{valid-ends}
use Rattle.core_laws.proofs.CommitOrder.{split-order}
use Rattle.core_laws.proofs.LoadlessRuns.{split-ends}
use Rattle.core_laws.proofs.SerialOrder.{serial-committed, serial-good}
use Rattle.core_laws.proofs.LoadlessKept.{loadless-ends}

pub kept-begins : (plays : Effect → Bool) (r : Run) → IsLegal plays r → Kept r.opening (begins r)
kept-begins plays r l = kept-start r.base r.kinds r.capacity r.opening l.above

pub kept-ends : (plays : Effect → Bool) (r : Run) → IsLegal plays r → Kept r.opening (ends r)
kept-ends plays r l = kept-run r.opening r.events (begins r) l.loads (kept-begins plays r l)

pub serial-ends : (plays : Effect → Bool) (r : Run) → IsLegal plays r → IsSerialOrder plays r.opening (committed (ends r))
serial-ends plays r l = serial-committed plays r.opening (ends r) (kept-ends plays r l) (valid-ends plays r l.effects)

pub serial-chosen-ends : (plays : Effect → Bool) (r : Run) → IsLegal plays r → IsSerialOrder plays r.opening (committed (ends r) ++ chosen (ends r))
serial-chosen-ends plays r l =
    subst (IsSerialOrder plays r.opening) (split-order (ends r) (loadless-ends r l.above) (split-ends r l.above))
    (serial-good plays r.opening (ends r) (kept-ends plays r l) (valid-ends plays r l.effects))
