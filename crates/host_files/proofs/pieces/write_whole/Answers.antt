use Rattle.std.proofs.Common.{◌≡◌, ◌≢◌, ◌+◌, ◌<◌, ◌≤◌, ℕ, Bool, length, sym, ◌∙◌, ap, subst, rules}
use Rattle.host_trait.specs.declared.channels.FileId.{FileId}
use Rattle.system_calls.specs.System.{System}
use Rattle.system_calls.specs.declared.refusal.Refused.{Refused}
use Rattle.host_files.proofs.RepeatedCalls.{TookTurns, turned_on, turned_refused, turned_known}
use Rattle.host_files.proofs.Parts.{WroteSome, entries_on, write_more, write_fails, wrote_some, wrote_whole, overwrites, goes_to}
use Rattle.host_files.proofs.pieces.write_whole.Goals as goal
use Rattle.host_files.proofs.pieces.write_whole.Goals.{in-Ok+else-done-bytes+else-more-eq0, in-Err-Interrupted}

pub write_at-requires-clause-calm : goal.write_at-requires-clause-calm
write_at-requires-clause-calm g c = λ told.
    ap (λ (doubtful : FileId → Bool). doubtful (g.S.File.Handle.file c.args.opened.now)) (c.loop-turn.invariant.some told).beside.entries.doubtful ∙ c.requires.calm told

pub returns-then-done-bytes-clause-told : goal.returns-then-done-bytes-clause-told
returns-then-done-bytes-clause-told g c = λ told.
    let all : length c.args.bytes.now ≤ c.loop-turn.done + c.in-Ok.more = search rules in
    wrote_whole c.loop-turn.done c.in-Ok.more (g.S.File.Handle.file c.args.opened.now) c.args.at c.args.bytes.now
    (g.S.SystemCalls.state c.args.system.now) (g.S.SystemCalls.state c.loop-turn.system) (g.S.SystemCalls.state c.write_at.new.self)
    c.loop-turn.invariant.bound (c.requires.place told) (goes_to c.loop-turn.done c.in-Ok.more (length c.args.bytes.now) c.loop-turn.invariant.goes all) all
    (c.loop-turn.invariant.some told) (c.in-Ok.ensures.ok told)

pub returns-then-done-bytes-clause-ok : goal.returns-then-done-bytes-clause-ok
returns-then-done-bytes-clause-ok g c = λ told.
    let all : length c.args.bytes.now ≤ c.loop-turn.done + c.in-Ok.more = search rules in
    overwrites c.loop-turn.done c.in-Ok.more (g.S.File.Handle.file c.args.opened.now) c.args.at c.args.bytes.now
    (g.S.SystemCalls.state c.args.system.now) (g.S.SystemCalls.state c.loop-turn.system) (g.S.SystemCalls.state c.write_at.new.self)
    c.loop-turn.invariant.bound (c.requires.place told) (goes_to c.loop-turn.done c.in-Ok.more (length c.args.bytes.now) c.loop-turn.invariant.goes all) all
    (c.loop-turn.invariant.some told) (c.in-Ok.ensures.ok told)

pub returns-then-more-eq0-clause-told : goal.returns-then-more-eq0-clause-told
returns-then-more-eq0-clause-told g c = λ told.
    let none : c.in-Ok.more ≡ 0 = search rules in
    let rest : 0 < length c.args.bytes.now = search rules in
    let file = g.S.File.Handle.file c.args.opened.now in
    let old = g.S.SystemCalls.state c.args.system.now in
    wrote_some c.loop-turn.done file c.args.at c.args.bytes.now old (g.S.SystemCalls.state c.write_at.new.self) (c.requires.place told)
    (subst (λ (s : System). WroteSome c.loop-turn.done file c.args.at c.args.bytes.now old s) (sym ((c.in-Ok.ensures.ok told).none none rest)) (c.loop-turn.invariant.some told))

pub returns-in-Err : goal.returns-in-Err
returns-in-Err g c =
    let apart : c.in-Err.error ≢ Refused.Interrupted = search rules in
    let file = g.S.File.Handle.file c.args.opened.now in
    let old = g.S.SystemCalls.state c.args.system.now in
    let now = g.S.SystemCalls.state c.loop-turn.system in
    let new = g.S.SystemCalls.state c.write_at.new.self in
    record {
      told = λ told. write_fails c.loop-turn.done file c.args.at c.args.bytes.now old now new (c.requires.place told) (c.loop-turn.invariant.some told) (c.in-Err.ensures.err apart told);
      ok = tt;
      entries = λ told. entries_on old now new (c.loop-turn.invariant.some told).beside.entries (c.in-Err.ensures.err apart told).beside.entries;
      calm = tt;
      fine = λ told well. absurd (turned_refused c.loop-turn.turn c.loop-turn.done (g.S.SystemCalls.answered c.loop-turn.system).has_lost_entries (g.S.SystemCalls.answered c.args.system.now) (g.S.SystemCalls.answered c.loop-turn.system) (g.S.SystemCalls.answered c.write_at.new.self) (c.loop-turn.invariant.answered told) ((c.in-Err.ensures.answers told).refused apart) well);
      known = λ told. turned_known c.loop-turn.turn c.loop-turn.done (g.S.SystemCalls.answered c.args.system.now) (g.S.SystemCalls.answered c.loop-turn.system) (g.S.SystemCalls.answered c.write_at.new.self) (c.loop-turn.invariant.answered told) ((c.in-Err.ensures.answers told).refused apart);
    }

pub loop-turn-preserved : goal.loop-turn-preserved
loop-turn-preserved g c = elim c.match-write_at.branch [
  | in-Ok+else-done-bytes+else-more-eq0 w ↦
      let some : 0 < w.in-Ok.more = search rules in
      record {
        bound = search rules;
        goes = search rules;
        answered = λ told.
            let same = (w.in-Ok.ensures.answers told).moved (λ none. absurd (search rules)) in
            subst (λ (k : ℕ). TookTurns (c.loop-turn.turn + 1) k (g.S.SystemCalls.answered c.args.system.now) (g.S.SystemCalls.answered c.write_at.new.self)) (sym w.done-is)
            (turned_on c.loop-turn.turn c.loop-turn.done w.in-Ok.more (g.S.SystemCalls.answered c.args.system.now) (g.S.SystemCalls.answered c.loop-turn.system) (g.S.SystemCalls.answered c.write_at.new.self) some (c.loop-turn.invariant.answered told) same);
        some = λ told.
            subst (λ (d : ℕ). WroteSome d (g.S.File.Handle.file c.args.opened.now) c.args.at c.args.bytes.now (g.S.SystemCalls.state c.args.system.now) (g.S.SystemCalls.state c.write_at.new.self)) (sym w.done-is)
            (write_more c.loop-turn.done w.in-Ok.more (g.S.File.Handle.file c.args.opened.now) c.args.at c.args.bytes.now
            (g.S.SystemCalls.state c.args.system.now) (g.S.SystemCalls.state c.loop-turn.system) (g.S.SystemCalls.state c.write_at.new.self)
            c.loop-turn.invariant.bound (c.requires.place told) some (c.loop-turn.invariant.some told) (w.in-Ok.ensures.ok told));
      }
  | in-Err-Interrupted w ↦ search rules
]

pub returns-clause-told : goal.returns-clause-told
returns-clause-told g c = λ told.
    wrote_some c.loop-turn.done (g.S.File.Handle.file c.args.opened.now) c.args.at c.args.bytes.now
    (g.S.SystemCalls.state c.args.system.now) (g.S.SystemCalls.state c.loop-turn.system) (c.requires.place told) (c.loop-turn.invariant.some told)
