-- What code may rely on, after every list of events.
use Rattle.std.proofs.Common.{◌<◌}
use Rattle.core_model.specs.LoadlessLaws.{HoldsWithoutLoads}
use Rattle.core_model.specs.LegalRuns.{Run, ends}
use Rattle.core_laws.proofs.LoadlessRuns.{steady-ends, only-judged, prefix-ends, no-lock-ends, children-ends, answers-ends}
use Rattle.core_laws.proofs.HeldLocks.{holders-ends}
use Rattle.core_laws.proofs.HeldGrains.{here-ends}
use Rattle.core_laws.proofs.Memory.{bounded-ends}
use Rattle.core_laws.proofs.LineEntries.{once-ends}
use Rattle.core_laws.proofs.EachDecided.{each-ends}

pub holds-ends : (r : Run) → 0 < r.base → HoldsWithoutLoads (ends r)
holds-ends r above =
    let s = steady-ends r above in
    let i = s.0.0 in
    record {
      prefix = prefix-ends r above;
      judged = λ none. only-judged (ends r) s none;
      decisions = each-ends r above;
      locks = no-lock-ends r above;
      holders = record { alone = i.alone; holds = i.keeps };
      writers = i.strong;
      read = holders-ends r above;
      here = here-ends r;
      memory = bounded-ends r above;
      children = children-ends r above;
      answers = answers-ends r above;
      entries = once-ends r above;
      fresh = i.unborn;
    }
