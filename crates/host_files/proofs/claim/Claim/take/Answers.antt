use Rattle.std.proofs.Common.{◌≢◌, ◌<◌, ◌≤◌, ℕ, sym, ◌∙◌, subst, rules}
use Rattle.system_calls.specs.declared.refusal.Refused.{Refused}
use Rattle.system_calls.specs.Answers.{AnswerCounts}
use Rattle.host_files.proofs.RepeatedCalls.{StoodIn, stood_on, stood_obeyed, stood_known, stood_refused}
use Rattle.host_files.proofs.claim.Claim.take.Goals as goal

pub returns-in-Err-Missing-clause-calm : goal.returns-in-Err-Missing-clause-calm
returns-in-Err-Missing-clause-calm g c = λ told.
    stood_obeyed c.loop-turn.turn (g.S.SystemCalls.answered c.args.system.now) (g.S.SystemCalls.answered c.loop-turn.system) (g.S.SystemCalls.answered c.open_folder.new.self)
    (c.loop-turn.invariant.answered told) (c.in-Err-Missing.ensures.absent c.in-Err-Missing.field-0-is told)

pub returns-in-Err-Missing-clause-known : goal.returns-in-Err-Missing-clause-known
returns-in-Err-Missing-clause-known g c = λ told.
    stood_known c.loop-turn.turn (g.S.SystemCalls.answered c.args.system.now) (g.S.SystemCalls.answered c.loop-turn.system) (g.S.SystemCalls.answered c.open_folder.new.self)
    (c.loop-turn.invariant.answered told) (c.in-Err-Missing.ensures.absent c.in-Err-Missing.field-0-is told)

pub returns-in-Err : goal.returns-in-Err
returns-in-Err g c =
    let apart : c.in-Err.error ≢ Refused.Missing = search rules in
    record {
      taken = tt;
      missing = tt;
      stays = c.loop-turn.invariant.same;
      kept = λ some. c.loop-turn.invariant.same;
      absent = search rules;
      state = λ told. c.open_folder.ensures.told told ∙ c.loop-turn.invariant.told told;
      calm = tt;
      fine = λ told well. absurd (stood_refused c.loop-turn.turn (g.S.SystemCalls.answered c.loop-turn.system).has_lost_entries (g.S.SystemCalls.answered c.args.system.now) (g.S.SystemCalls.answered c.loop-turn.system) (g.S.SystemCalls.answered c.open_folder.new.self)
          (c.loop-turn.invariant.answered told) (c.in-Err.ensures.refused apart told) well);
      known = λ told. (c.in-Err.ensures.refused apart told).entries ∙ (c.loop-turn.invariant.answered told).entries;
    }

pub loop-turn-preserved : goal.loop-turn-preserved
loop-turn-preserved g c = record {
  same = c.stand_in.ensures.folder ∙ c.loop-turn.invariant.same;
  missing = c.stand_in.ensures.missing ∙ c.loop-turn.invariant.missing;
  told = λ told. c.open_folder.ensures.told told ∙ c.loop-turn.invariant.told told;
  answered = λ told.
      stood_on c.loop-turn.turn (g.S.SystemCalls.answered c.args.system.now) (g.S.SystemCalls.answered c.loop-turn.system) (g.S.SystemCalls.answered c.open_folder.new.self)
      (c.loop-turn.invariant.answered told) (c.in-Ok.ensures.stands_in told (subst (λ (n : ℕ). n ≤ 2) (c.number-number.ensures told) c.if-number-gt2.false));
}

pub returns-in_err-locked-clause-fine : goal.returns-in_err-locked-clause-fine
returns-in_err-locked-clause-fine g c = λ told well.
    let old = g.S.SystemCalls.answered c.args.system.now in
    let mid = g.S.SystemCalls.answered c.open_folder.new.self in
    let plain = c.in-Ok.ensures.plain told (subst (λ (n : ℕ). 2 < n) (c.number-number.ensures told) c.if-number-gt2.true) in
    let stood : StoodIn c.loop-turn.turn old mid = subst (λ (a : AnswerCounts). StoodIn c.loop-turn.turn old a) (sym plain) (c.loop-turn.invariant.answered told) in
    absurd (stood_refused c.loop-turn.turn mid.has_lost_entries old mid (g.S.SystemCalls.answered c.lock.new.self) stood (c.in_err-locked.ensures.answers told) well)

pub returns-in_err-locked-clause-known : goal.returns-in_err-locked-clause-known
returns-in_err-locked-clause-known g c = λ told.
    let old = g.S.SystemCalls.answered c.args.system.now in
    let mid = g.S.SystemCalls.answered c.open_folder.new.self in
    let plain = c.in-Ok.ensures.plain told (subst (λ (n : ℕ). 2 < n) (c.number-number.ensures told) c.if-number-gt2.true) in
    let stood : StoodIn c.loop-turn.turn old mid = subst (λ (a : AnswerCounts). StoodIn c.loop-turn.turn old a) (sym plain) (c.loop-turn.invariant.answered told) in
    (c.in_err-locked.ensures.answers told).entries ∙ stood.entries

pub returns-then-number-gt2-clause-calm : goal.returns-then-number-gt2-clause-calm
returns-then-number-gt2-clause-calm g c = λ told.
    let old = g.S.SystemCalls.answered c.args.system.now in
    let mid = g.S.SystemCalls.answered c.open_folder.new.self in
    let plain = c.in-Ok.ensures.plain told (subst (λ (n : ℕ). 2 < n) (c.number-number.ensures told) c.if-number-gt2.true) in
    let stood : StoodIn c.loop-turn.turn old mid = subst (λ (a : AnswerCounts). StoodIn c.loop-turn.turn old a) (sym plain) (c.loop-turn.invariant.answered told) in
    stood_obeyed c.loop-turn.turn old mid (g.S.SystemCalls.answered c.lock.new.self) stood (c.in_ok-locked.ensures.answers told)

pub returns-then-number-gt2-clause-known : goal.returns-then-number-gt2-clause-known
returns-then-number-gt2-clause-known g c = λ told.
    let old = g.S.SystemCalls.answered c.args.system.now in
    let mid = g.S.SystemCalls.answered c.open_folder.new.self in
    let plain = c.in-Ok.ensures.plain told (subst (λ (n : ℕ). 2 < n) (c.number-number.ensures told) c.if-number-gt2.true) in
    let stood : StoodIn c.loop-turn.turn old mid = subst (λ (a : AnswerCounts). StoodIn c.loop-turn.turn old a) (sym plain) (c.loop-turn.invariant.answered told) in
    stood_known c.loop-turn.turn old mid (g.S.SystemCalls.answered c.lock.new.self) stood (c.in_ok-locked.ensures.answers told)
