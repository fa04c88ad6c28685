use Rattle.std.proofs.Common.{◌≡◌, ◌≢◌, ◌+◌, ◌<◌, ℕ, length, sym, subst, rules}
use Rattle.host_trait.specs.World.{Emitted}
use Rattle.system_calls.specs.System.{System, SameEntries}
use Rattle.system_calls.specs.declared.refusal.Refused.{Refused}
use Rattle.host_files.proofs.RepeatedCalls.{TookTurns, turned_on, turned_refused, turned_known}
use Rattle.host_files.proofs.Parts.{PutSome, put_more, put_part}
use Rattle.host_files.proofs.pieces.put_out.Goals as goal
use Rattle.host_files.proofs.pieces.put_out.Goals.{in-Ok+else-more-eq0, in-Err-Interrupted}

pub returns-then-more-eq0-clause-fine : goal.returns-then-more-eq0-clause-fine
returns-then-more-eq0-clause-fine g c = λ told well.
    let none : c.in-Ok.more ≡ 0 = search rules in
    let rest : c.loop-turn.done < length c.args.bytes.now = search rules in
    absurd (turned_refused c.loop-turn.turn c.loop-turn.done (g.S.SystemCalls.answered c.loop-turn.system).has_lost_entries (g.S.SystemCalls.answered c.args.system.now) (g.S.SystemCalls.answered c.loop-turn.system) (g.S.SystemCalls.answered c.write_output.new.self)
    (c.loop-turn.invariant.answered told) ((c.in-Ok.ensures.answers told).stuck none rest) well)

pub returns-then-more-eq0-clause-known : goal.returns-then-more-eq0-clause-known
returns-then-more-eq0-clause-known g c = λ told.
    let none : c.in-Ok.more ≡ 0 = search rules in
    let rest : c.loop-turn.done < length c.args.bytes.now = search rules in
    turned_known c.loop-turn.turn c.loop-turn.done (g.S.SystemCalls.answered c.args.system.now) (g.S.SystemCalls.answered c.loop-turn.system) (g.S.SystemCalls.answered c.write_output.new.self)
    (c.loop-turn.invariant.answered told) ((c.in-Ok.ensures.answers told).stuck none rest)

pub returns-in-Err : goal.returns-in-Err
returns-in-Err g c =
    let apart : c.in-Err.error ≢ Refused.Interrupted = search rules in
    let old = g.S.SystemCalls.state c.args.system.now in
    let now = g.S.SystemCalls.state c.loop-turn.system in
    record {
      ok = tt;
      part = λ told. subst (λ (s : System). (n : ℕ) × Emitted n c.args.bytes.now old.world s.world) (sym (c.in-Err.ensures.err told))
          (c.loop-turn.done, put_part c.loop-turn.done c.args.bytes.now old now c.loop-turn.invariant.bound (c.loop-turn.invariant.some told));
      entries = λ told. subst (λ (s : System). SameEntries old s) (sym (c.in-Err.ensures.err told)) (c.loop-turn.invariant.some told).entries;
      calm = tt;
      fine = λ told well. absurd (turned_refused c.loop-turn.turn c.loop-turn.done (g.S.SystemCalls.answered c.loop-turn.system).has_lost_entries (g.S.SystemCalls.answered c.args.system.now) (g.S.SystemCalls.answered c.loop-turn.system) (g.S.SystemCalls.answered c.write_output.new.self) (c.loop-turn.invariant.answered told) ((c.in-Err.ensures.answers told).refused apart) well);
      known = λ told. turned_known c.loop-turn.turn c.loop-turn.done (g.S.SystemCalls.answered c.args.system.now) (g.S.SystemCalls.answered c.loop-turn.system) (g.S.SystemCalls.answered c.write_output.new.self) (c.loop-turn.invariant.answered told) ((c.in-Err.ensures.answers told).refused apart);
    }

pub loop-turn-preserved : goal.loop-turn-preserved
loop-turn-preserved g c = elim c.match-write_output.branch [
  | in-Ok+else-more-eq0 w ↦
      let some : 0 < w.in-Ok.more = search rules in
      let old = g.S.SystemCalls.state c.args.system.now in
      let now = g.S.SystemCalls.state c.loop-turn.system in
      let new = g.S.SystemCalls.state c.write_output.new.self in
      record {
        bound = search rules;
        some = λ told. subst (λ (d : ℕ). PutSome d c.args.bytes.now old new) (sym w.done-is)
            (put_more c.loop-turn.done w.in-Ok.more c.args.bytes.now old now new (c.loop-turn.invariant.some told) some (w.in-Ok.ensures.ok told));
        answered = λ told.
            let same = (w.in-Ok.ensures.answers told).moved (λ none. absurd (search rules)) in
            subst (λ (k : ℕ). TookTurns (c.loop-turn.turn + 1) k (g.S.SystemCalls.answered c.args.system.now) (g.S.SystemCalls.answered c.write_output.new.self)) (sym w.done-is)
            (turned_on c.loop-turn.turn c.loop-turn.done w.in-Ok.more (g.S.SystemCalls.answered c.args.system.now) (g.S.SystemCalls.answered c.loop-turn.system) (g.S.SystemCalls.answered c.write_output.new.self) some (c.loop-turn.invariant.answered told) same);
      }
  | in-Err-Interrupted w ↦ search rules
]
