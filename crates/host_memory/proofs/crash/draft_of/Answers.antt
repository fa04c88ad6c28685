use Rattle.std.proofs.Common.{◌+◌, ◌<◌, length, take, sym, subst, rules}
use Rattle.std.proofs.lemmas.Bool.{le-leb, lt-leb}
use Rattle.host_memory.specs.declared.crash.Draft.{Draft}
use Rattle.host_memory.specs.Drafts.{IsDraft}
use Rattle.host_memory.specs.Replay.{state_at}
use Rattle.host_memory.proofs.CrashDraws.{draft_step, draft_skip}
use Rattle.host_memory.proofs.crash.draft_of.Goals as goal
use Rattle.host_memory.proofs.crash.draft_of.Goals.{then-noted-until+in_ok-step, else-noted-until}

pub loop-noted-preserved : goal.loop-noted-preserved
loop-noted-preserved c =
    let events = c.args.events.now in
    let i = c.loop-noted.noted-index in
    let e = c.noted-item.result in
    let low : i < length events = search rules in
    elim c.if-noted-until.branch [
      | then-noted-until+in_ok-step w ↦
          subst (λ (d : Draft). IsDraft d (state_at c.args.until (take (i + 1) events) c.args.file)) (sym w.draft-is)
          (draft_step c.args.until events c.args.file i e c.loop-noted.draft w.step.new.self low c.noted-item.is (le-leb e.stamp c.args.until w.if-noted-until.true) w.in_ok-step.ensures c.loop-noted.invariant)
      | else-noted-until w ↦
          subst (λ (d : Draft). IsDraft d (state_at c.args.until (take (i + 1) events) c.args.file)) (sym w.draft-is)
          (draft_skip c.args.until events c.args.file i e c.loop-noted.draft low c.noted-item.is (lt-leb e.stamp c.args.until w.if-noted-until.false) c.loop-noted.invariant)
    ]
