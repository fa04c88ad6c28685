use Rattle.promise_laws.proofs.OtherSlots.{closing, filling, either, opened}
use Rattle.promise_laws.proofs.compaction.compacting_keeps_the_log.Goals as goal

pub returns-clause-closing : goal.returns-clause-closing
returns-clause-closing c = closing

pub returns-clause-filling : goal.returns-clause-filling
returns-clause-filling c = filling

pub returns-clause-turning : goal.returns-clause-turning
returns-clause-turning c from to live log w can new mid ready m changes image is = either from live log w can to new mid ready m changes image is

pub returns-clause-turned : goal.returns-clause-turned
returns-clause-turned c from to live log w can = opened from live log w can to
