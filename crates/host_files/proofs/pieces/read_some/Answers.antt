use Rattle.std.proofs.Common.{◌≢◌, ◌<◌, ◌+◌, ℕ, sym, ◌∙◌, subst, rules}
use Rattle.system_calls.specs.System.{System, IsReadPart}
use Rattle.system_calls.specs.declared.refusal.Refused.{Refused}
use Rattle.host_files.proofs.RepeatedCalls.{TookTurns, turned_on, turned_refused, turned_known}
use Rattle.host_files.proofs.Parts.{ReadSome, read_more}
use Rattle.host_files.proofs.pieces.read_some.Goals as goal
use Rattle.host_files.proofs.pieces.read_some.Goals.{in-Ok+else-more-eq0, in-Err-Interrupted}

pub loop-turn-preserved : goal.loop-turn-preserved
loop-turn-preserved g c = elim c.match-read_at.branch [
  | in-Ok+else-more-eq0 w ↦
      let some : 0 < w.in-Ok.more = search rules in
      record {
        bound = search rules;
        same = search rules;
        told = search rules;
        answered = λ told.
            let same = w.in-Ok.ensures.answers told in
            subst (λ (k : ℕ). TookTurns (c.loop-turn.turn + 1) k (g.S.SystemCalls.answered c.args.system.now) (g.S.SystemCalls.answered c.read_at.new.self)) (sym w.count-is)
            (turned_on c.loop-turn.turn c.loop-turn.count w.in-Ok.more (g.S.SystemCalls.answered c.args.system.now) (g.S.SystemCalls.answered c.loop-turn.system) (g.S.SystemCalls.answered c.read_at.new.self) some (c.loop-turn.invariant.answered told) same);
        some = λ told.
            let file = g.S.File.Handle.file c.args.opened.now in
            let seen = ((g.S.SystemCalls.state c.args.system.now).world.disk file).seen in
            let part = subst (λ (s : System). IsReadPart w.in-Ok.more c.loop-turn.count c.args.at (s.world.disk file).seen c.loop-turn.into c.read_at.new.into) (c.loop-turn.invariant.told told) (w.in-Ok.ensures.bytes told) in
            subst (λ (k : ℕ). ReadSome k c.args.at seen c.args.into.now c.read_at.new.into) (sym w.count-is)
            (read_more c.loop-turn.count w.in-Ok.more c.args.at seen c.args.into.now c.loop-turn.into c.read_at.new.into some (c.loop-turn.invariant.some told) part);
      }
  | in-Err-Interrupted w ↦ search rules
]

pub returns-in-Err : goal.returns-in-Err
returns-in-Err g c =
    let apart : c.in-Err.error ≢ Refused.Interrupted = search rules in
    let old = g.S.SystemCalls.answered c.args.system.now in
    let now = g.S.SystemCalls.answered c.loop-turn.system in
    let new = g.S.SystemCalls.answered c.read_at.new.self in
    record {
      told = λ told. c.read_at.ensures.told told ∙ c.loop-turn.invariant.told told;
      bound = tt;
      bytes = tt;
      calm = tt;
      fine = λ told well. absurd (turned_refused c.loop-turn.turn c.loop-turn.count now.has_lost_entries old now new (c.loop-turn.invariant.answered told) ((c.in-Err.ensures.answers told).refused apart) well);
      known = λ told. turned_known c.loop-turn.turn c.loop-turn.count old now new (c.loop-turn.invariant.answered told) ((c.in-Err.ensures.answers told).refused apart);
    }
