use Rattle.std.proofs.Common.{ℕ, List, refl, sym, subst, arith}
use Rattle.host_trait.specs.Disk.{FileState, MayLeave}
use Rattle.host_memory.specs.Replay.{state_at}
use Rattle.host_memory.specs.ReadLaws.{SeenStays, some_stays}
use Rattle.host_memory.proofs.CrashDraws.{drafted_left}
use Rattle.host_memory.proofs.crash.outcome_of.Goals as goal

-- what lasted is among what a crash may leave, where what a read gives is
base_left : (s : FileState) → SeenStays s → MayLeave s s.base
base_left s stays = record { no_shorter = omega arith; no_longer = omega (arith, stays.no_shorter, stays.no_longer); same = λ i low untouched. refl }

pub returns-then-pick-eq0-clause-left : goal.returns-then-pick-eq0-clause-left
returns-then-pick-eq0-clause-left c =
    let s : FileState = state_at c.args.until c.args.events.now c.args.file in
    subst (λ (l : List ℕ). MayLeave s l) (sym c.in_ok-draft.ensures.base) (base_left s (some_stays c.args.until c.args.events.now c.args.file))

pub returns-then-pick-eq1-clause-left : goal.returns-then-pick-eq1-clause-left
returns-then-pick-eq1-clause-left c =
    let s : FileState = state_at c.args.until c.args.events.now c.args.file in
    subst (λ (l : List ℕ). MayLeave s l) (sym c.in_ok-draft.ensures.seen) (some_stays c.args.until c.args.events.now c.args.file)

pub returns-clause-left : goal.returns-clause-left
returns-clause-left c =
    drafted_left c.in_ok-draft.draft (state_at c.args.until c.args.events.now c.args.file) c.in_ok-bytes.bytes.items c.in_ok-draft.ensures (some_stays c.args.until c.args.events.now c.args.file) c.in_ok-bytes.ensures
