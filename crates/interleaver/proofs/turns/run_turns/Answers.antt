use Rattle.std.proofs.Common.{◌≡◌, ◌+◌, ℕ, List, [], Bool, true, None, Result, Ok, Err, refl, sym, ap, ◌∙◌, subst, arith}
use Rattle.std.proofs.lemmas.Result.{err_from_is_err_and}
use Rattle.core_access.specs.OneHolder.{none_comes, own_sight}
use Rattle.history_core.specs.Cores.{run_of}
use Rattle.script_tree.specs.Programs.{program_tree}
use Rattle.txn_agent.specs.declared.agent.Agent.{Agent}
use Rattle.unit_carrier.specs.CarriedUnits.{AreCarried, units_carried}
use Rattle.unit_carrier.proofs.CarriedUnits.{none-carried}
use Rattle.base_types.specs.declared.shapes.Shape.{Shape}
use Rattle.run_books.specs.declared.faults.RunFault.{RunFault}
use Rattle.run_books.specs.declared.faults.RunFault.TheVariants.{Memory}
use Rattle.run_books.specs.RecordFrame.{TurnsBeside}
use Rattle.turn_rules.specs.TurnLoop.{no_pass}
use Rattle.interleaver.specs.TurnStages.{TurnStage, WentOn, turn_stage}
use Rattle.run_books.proofs.SettlerFrame.{one-after-another, beside-fault, beside-well}
use Rattle.interleaver.proofs.TurnSequence.{on-after, done-after, picks-after, fault-after, out-then, nothing-beside, at-once, nothing-went}
use Rattle.interleaver.proofs.RunStart.{start}
use Rattle.interleaver.proofs.SureUnits.{none-sure}
use Rattle.interleaver.proofs.turns.run_turns.Goals as goal
use Rattle.run_books.specs.Stages.{stage_of}

pub returns-in_err-shape-clause-carries : goal.returns-in_err-shape-clause-carries
returns-in_err-shape-clause-carries g c = record {
  kept = λ o b is can fresh kept.
      let p = err_from_is_err_and c.from_residual.result c.from_residual.ensures.1 in
      let out : c.from_residual.result ≡ Err Memory = p.1 ∙ ap Err p.2 in
      rw out (at-once g.H.Host.tells o b c.args.used.now (run_of c.args.core.now) c.args.settler.now (g.H.Host.faults c.args.host.now) (g.H.Host.world c.args.host.now) fresh kept);
  beside = beside-well g.H.Host.tells (run_of c.args.core.now) (run_of c.args.core.now) c.args.settler.now c.args.settler.now (g.H.Host.faults c.args.host.now) (g.H.Host.faults c.args.host.now) (g.H.Host.world c.args.host.now) (g.H.Host.world c.args.host.now) true c.from_residual.result (nothing-beside g.H.Host.tells (run_of c.args.core.now) c.args.settler.now (g.H.Host.faults c.args.host.now) (g.H.Host.world c.args.host.now));
}

pub loop-turn-init : goal.loop-turn-init
loop-turn-init g c = record {
  units = record {
    carried = subst (λ (l : List Agent). AreCarried (program_tree c.args.checked.now) none_comes (own_sight (run_of c.args.core.now)) l) (sym c.new.ensures)
        (none-carried (program_tree c.args.checked.now) (run_of c.args.core.now) c.requires.above);
    looked = tt;
    freed = tt;
    sure = none-sure (program_tree c.args.checked.now) (run_of c.args.core.now) (units_carried c.new.result.list.items) 0 None refl;
  };
  shape = c.in_ok-shape.ensures;
  turns = omega arith;
  unused = refl;
  lines = refl;
  safe = record { safe = c.requires.safe; ready = λ file was. was };
  beside = nothing-beside g.H.Host.tells (run_of c.args.core.now) c.args.settler.now (g.H.Host.faults c.args.host.now) (g.H.Host.world c.args.host.now);
  went = λ o b is can fresh kept.
      let from : TurnStage = (record { at = stage_of g.H.Host.world g.H.Host.faults (run_of c.args.core.now) c.args.settler.now c.args.host.now; agents = []; begun = 0; used = c.args.used.now; pass = no_pass }) in
      subst (λ (l : List Agent). WentOn g.H.Host.tells o (program_tree c.args.checked.now) (g.L.Lines.lines c.args.lines.now) c.args.width c.args.turns.now b from (record from { agents = l })) (sym c.new.ensures)
      (nothing-went g.H.Host.tells o (program_tree c.args.checked.now) (g.L.Lines.lines c.args.lines.now) c.args.width c.args.turns.now b from
      (start g.H.Host.tells o (program_tree c.args.checked.now) (g.L.Lines.lines c.args.lines.now) c.args.width c.args.turns.now b c.args.used.now (run_of c.args.core.now) c.args.settler.now (g.H.Host.faults c.args.host.now) (g.H.Host.world c.args.host.now)
      is can fresh kept c.program-program.ensures.checked c.show_few.ensures));
}

pub returns-in_err-turn-clause-carries : goal.returns-in_err-turn-clause-carries
returns-in_err-turn-clause-carries g c = record {
  kept = λ o b is can fresh kept.
      let p = err_from_is_err_and c.from_residual-in_err-turn.result c.from_residual-in_err-turn.ensures.1 in
      rw p.1 (fault-after g.H.Host.tells o (program_tree c.args.checked.now) (g.L.Lines.lines c.args.lines.now) (g.L.Lines.lines c.loop-turn.lines) c.args.width c.args.turns.now c.as_slice.result.now b
      (record { at = stage_of g.H.Host.world g.H.Host.faults (run_of c.args.core.now) c.args.settler.now c.args.host.now; agents = []; begun = 0; used = c.args.used.now; pass = no_pass })
      (turn_stage (stage_of g.H.Host.world g.H.Host.faults (run_of c.loop-turn.core) c.loop-turn.settler c.loop-turn.host) c.loop-turn.state)
      (turn_stage (stage_of g.H.Host.world g.H.Host.faults (run_of c.turn.new.core) c.turn.new.settler c.turn.new.host) c.turn.new.self)
      c.loop-turn.invariant.lines c.as_slice.ensures (c.loop-turn.invariant.went o b is can fresh kept) c.turn.result (c.turn.ensures.turns.says o)
      p.0 (c.in_err-turn.was ∙ ap Err (sym p.2)));
  beside = let p = err_from_is_err_and c.from_residual-in_err-turn.result c.from_residual-in_err-turn.ensures.1 in
      rw p.1 (one-after-another g.H.Host.tells (run_of c.args.core.now) (run_of c.loop-turn.core) (run_of c.turn.new.core) c.args.settler.now c.loop-turn.settler c.turn.new.settler
      (g.H.Host.faults c.args.host.now) (g.H.Host.faults c.loop-turn.host) (g.H.Host.faults c.turn.new.host) (g.H.Host.world c.args.host.now) (g.H.Host.world c.loop-turn.host) (g.H.Host.world c.turn.new.host) true (Err p.0) c.loop-turn.invariant.beside
      (beside-fault g.H.Host.tells (run_of c.loop-turn.core) (run_of c.turn.new.core) c.loop-turn.settler c.turn.new.settler (g.H.Host.faults c.loop-turn.host) (g.H.Host.faults c.turn.new.host) (g.H.Host.world c.loop-turn.host) (g.H.Host.world c.turn.new.host) p.0
      (subst (λ (x : Result Bool RunFault). TurnsBeside g.H.Host.tells (stage_of g.H.Host.world g.H.Host.faults (run_of c.loop-turn.core) c.loop-turn.settler c.loop-turn.host) (stage_of g.H.Host.world g.H.Host.faults (run_of c.turn.new.core) c.turn.new.settler c.turn.new.host) x) (c.in_err-turn.was ∙ ap Err (sym p.2)) c.turn.ensures.turns.beside)));
}

pub returns-in_err-turn-clause-unused : goal.returns-in_err-turn-clause-unused
returns-in_err-turn-clause-unused g c =
    let p = err_from_is_err_and c.from_residual-in_err-turn.result c.from_residual-in_err-turn.ensures.1 in
    rw p.1 c.loop-turn.invariant.unused

pub returns-then-not-branch-clause-carries : goal.returns-then-not-branch-clause-carries
returns-then-not-branch-clause-carries g c = record {
  kept = λ o b is can fresh kept.
      done-after g.H.Host.tells o (program_tree c.args.checked.now) (g.L.Lines.lines c.args.lines.now) (g.L.Lines.lines c.loop-turn.lines) c.args.width c.args.turns.now c.as_slice.result.now b
      (record { at = stage_of g.H.Host.world g.H.Host.faults (run_of c.args.core.now) c.args.settler.now c.args.host.now; agents = []; begun = 0; used = c.args.used.now; pass = no_pass })
      (turn_stage (stage_of g.H.Host.world g.H.Host.faults (run_of c.loop-turn.core) c.loop-turn.settler c.loop-turn.host) c.loop-turn.state)
      (turn_stage (stage_of g.H.Host.world g.H.Host.faults (run_of c.turn.new.core) c.turn.new.settler c.turn.new.host) c.turn.new.self)
      c.loop-turn.invariant.lines c.as_slice.ensures (c.loop-turn.invariant.went o b is can fresh kept) c.turn.result (c.turn.ensures.turns.says o)
      tt (c.in_ok-turn.was ∙ ap Ok c.if-not-branch.true);
  beside = one-after-another g.H.Host.tells (run_of c.args.core.now) (run_of c.loop-turn.core) (run_of c.turn.new.core) c.args.settler.now c.loop-turn.settler c.turn.new.settler
      (g.H.Host.faults c.args.host.now) (g.H.Host.faults c.loop-turn.host) (g.H.Host.faults c.turn.new.host) (g.H.Host.world c.args.host.now) (g.H.Host.world c.loop-turn.host) (g.H.Host.world c.turn.new.host) true (Ok tt) c.loop-turn.invariant.beside
      (beside-well g.H.Host.tells (run_of c.loop-turn.core) (run_of c.turn.new.core) c.loop-turn.settler c.turn.new.settler (g.H.Host.faults c.loop-turn.host) (g.H.Host.faults c.turn.new.host) (g.H.Host.world c.loop-turn.host) (g.H.Host.world c.turn.new.host) c.in_ok-turn.field-0 (Ok tt)
      (subst (λ (x : Result Bool RunFault). TurnsBeside g.H.Host.tells (stage_of g.H.Host.world g.H.Host.faults (run_of c.loop-turn.core) c.loop-turn.settler c.loop-turn.host) (stage_of g.H.Host.world g.H.Host.faults (run_of c.turn.new.core) c.turn.new.settler c.turn.new.host) x) c.in_ok-turn.was c.turn.ensures.turns.beside));
}

pub returns-then-not-branch-clause-used : goal.returns-then-not-branch-clause-used
returns-then-not-branch-clause-used g c = λ o b is can fresh kept ruled.
    picks-after g.H.Host.tells o (program_tree c.args.checked.now) (g.L.Lines.lines c.args.lines.now) (g.L.Lines.lines c.loop-turn.lines) c.args.width c.args.turns.now c.as_slice.result.now b
    (record { at = stage_of g.H.Host.world g.H.Host.faults (run_of c.args.core.now) c.args.settler.now c.args.host.now; agents = []; begun = 0; used = c.args.used.now; pass = no_pass })
    (turn_stage (stage_of g.H.Host.world g.H.Host.faults (run_of c.loop-turn.core) c.loop-turn.settler c.loop-turn.host) c.loop-turn.state)
    (turn_stage (stage_of g.H.Host.world g.H.Host.faults (run_of c.turn.new.core) c.turn.new.settler c.turn.new.host) c.turn.new.self)
    c.loop-turn.invariant.lines c.as_slice.ensures (c.loop-turn.invariant.went o b is can fresh kept) c.turn.result (c.turn.ensures.turns.says o)
    (c.in_ok-turn.was ∙ ap Ok c.if-not-branch.true) ruled

pub loop-turn-preserved : goal.loop-turn-preserved
loop-turn-preserved g c = record {
  units = c.in_ok-turn.ensures.units;
  shape = ap (λ (x : Shape). x.types) c.turn.ensures.shape ∙ c.loop-turn.invariant.shape;
  turns = c.in_ok-turn.ensures.goes c.if-not-branch.false ∙ ap (λ (n : ℕ). n + 1) c.loop-turn.invariant.turns;
  unused = c.loop-turn.invariant.unused;
  lines = c.turn.ensures.same ∙ c.loop-turn.invariant.lines;
  safe = record { safe = c.turn.ensures.safe.safe; ready = λ file was. c.turn.ensures.safe.ready file (c.loop-turn.invariant.safe.ready file was) };
  beside = one-after-another g.H.Host.tells (run_of c.args.core.now) (run_of c.loop-turn.core) (run_of c.turn.new.core) c.args.settler.now c.loop-turn.settler c.turn.new.settler
      (g.H.Host.faults c.args.host.now) (g.H.Host.faults c.loop-turn.host) (g.H.Host.faults c.turn.new.host) (g.H.Host.world c.args.host.now) (g.H.Host.world c.loop-turn.host) (g.H.Host.world c.turn.new.host) true (Ok true) c.loop-turn.invariant.beside
      (beside-well g.H.Host.tells (run_of c.loop-turn.core) (run_of c.turn.new.core) c.loop-turn.settler c.turn.new.settler (g.H.Host.faults c.loop-turn.host) (g.H.Host.faults c.turn.new.host) (g.H.Host.world c.loop-turn.host) (g.H.Host.world c.turn.new.host) c.in_ok-turn.field-0 (Ok true)
      (subst (λ (x : Result Bool RunFault). TurnsBeside g.H.Host.tells (stage_of g.H.Host.world g.H.Host.faults (run_of c.loop-turn.core) c.loop-turn.settler c.loop-turn.host) (stage_of g.H.Host.world g.H.Host.faults (run_of c.turn.new.core) c.turn.new.settler c.turn.new.host) x) c.in_ok-turn.was c.turn.ensures.turns.beside));
  went = λ o b is can fresh kept.
      on-after g.H.Host.tells o (program_tree c.args.checked.now) (g.L.Lines.lines c.args.lines.now) (g.L.Lines.lines c.loop-turn.lines) c.args.width c.args.turns.now c.as_slice.result.now b
      (record { at = stage_of g.H.Host.world g.H.Host.faults (run_of c.args.core.now) c.args.settler.now c.args.host.now; agents = []; begun = 0; used = c.args.used.now; pass = no_pass })
      (turn_stage (stage_of g.H.Host.world g.H.Host.faults (run_of c.loop-turn.core) c.loop-turn.settler c.loop-turn.host) c.loop-turn.state)
      (turn_stage (stage_of g.H.Host.world g.H.Host.faults (run_of c.turn.new.core) c.turn.new.settler c.turn.new.host) c.turn.new.self)
      c.loop-turn.invariant.lines c.as_slice.ensures (c.loop-turn.invariant.went o b is can fresh kept) c.turn.result (c.turn.ensures.turns.says o)
      (c.in_ok-turn.was ∙ ap Ok c.if-not-branch.false);
}

pub returns-clause-carries : goal.returns-clause-carries
returns-clause-carries g c = record {
  kept = λ o b is can fresh kept.
      out-then g.H.Host.tells o (program_tree c.args.checked.now) (g.L.Lines.lines c.args.lines.now) c.args.width c.args.turns.now b
      (record { at = stage_of g.H.Host.world g.H.Host.faults (run_of c.args.core.now) c.args.settler.now c.args.host.now; agents = []; begun = 0; used = c.args.used.now; pass = no_pass })
      (turn_stage (stage_of g.H.Host.world g.H.Host.faults (run_of c.loop-turn.core) c.loop-turn.settler c.loop-turn.host) c.loop-turn.state)
      (c.loop-turn.invariant.went o b is can fresh kept);
  beside = beside-well g.H.Host.tells (run_of c.args.core.now) (run_of c.loop-turn.core) c.args.settler.now c.loop-turn.settler (g.H.Host.faults c.args.host.now) (g.H.Host.faults c.loop-turn.host) (g.H.Host.world c.args.host.now) (g.H.Host.world c.loop-turn.host) true (Err Memory) c.loop-turn.invariant.beside;
}

pub returns-clause-unused : goal.returns-clause-unused
returns-clause-unused g c = c.loop-turn.invariant.unused

pub returns-in_err-shape-clause-used : goal.returns-in_err-shape-clause-used
returns-in_err-shape-clause-used g c = λ o b is can fresh kept ruled. let q = err_from_is_err_and c.from_residual.result c.from_residual.ensures.1 in rw q.1 tt

pub returns-in_err-shape-clause-safe : goal.returns-in_err-shape-clause-safe
returns-in_err-shape-clause-safe g c = record { safe = c.requires.safe; ready = λ file was. was }

pub returns-in_err-turn-clause-used : goal.returns-in_err-turn-clause-used
returns-in_err-turn-clause-used g c = λ o b is can fresh kept ruled. let q = err_from_is_err_and c.from_residual-in_err-turn.result c.from_residual-in_err-turn.ensures.1 in rw q.1 tt

pub returns-in_err-turn-clause-same : goal.returns-in_err-turn-clause-same
returns-in_err-turn-clause-same g c = c.turn.ensures.same ∙ c.loop-turn.invariant.lines

pub returns-in_err-turn-clause-safe : goal.returns-in_err-turn-clause-safe
returns-in_err-turn-clause-safe g c = record { safe = c.turn.ensures.safe.safe; ready = λ file was. c.turn.ensures.safe.ready file (c.loop-turn.invariant.safe.ready file was) }

pub returns-then-not-branch-clause-same : goal.returns-then-not-branch-clause-same
returns-then-not-branch-clause-same g c = c.turn.ensures.same ∙ c.loop-turn.invariant.lines

pub returns-then-not-branch-clause-safe : goal.returns-then-not-branch-clause-safe
returns-then-not-branch-clause-safe g c = record { safe = c.turn.ensures.safe.safe; ready = λ file was. c.turn.ensures.safe.ready file (c.loop-turn.invariant.safe.ready file was) }

pub returns-clause-used : goal.returns-clause-used
returns-clause-used g c = λ o b is can fresh kept ruled. tt

pub returns-clause-same : goal.returns-clause-same
returns-clause-same g c = c.loop-turn.invariant.lines

pub returns-clause-safe : goal.returns-clause-safe
returns-clause-safe g c = c.loop-turn.invariant.safe

pub turn-requires-clause-units : goal.turn-requires-clause-units
turn-requires-clause-units g c = c.loop-turn.invariant.units

pub turn-requires-clause-shape : goal.turn-requires-clause-shape
turn-requires-clause-shape g c = c.loop-turn.invariant.shape

pub turn-requires-clause-safe : goal.turn-requires-clause-safe
turn-requires-clause-safe g c = c.loop-turn.invariant.safe.safe
