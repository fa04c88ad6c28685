use Rattle.std.proofs.Common.{◌≡◌, ◌+◌, ◌∙◌, refl, sym, ap, subst, arith, true}
use Rattle.std.specs.Prelude.{Bool, Result, Ok, Err, length}
use Rattle.std.proofs.lemmas.Bool.{and_parts}
use Rattle.std.proofs.lemmas.Result.{err_from_is_err_and}
use Rattle.base_types.specs.declared.shapes.Shape.{Shape}
use Rattle.history_core.specs.Cores.{run_of}
use Rattle.script_tree.specs.Programs.{program_tree}
use Rattle.run_books.specs.declared.faults.RunFault.{RunFault}
use Rattle.run_books.specs.RecordFrame.{TurnsBeside}
use Rattle.run_books.specs.Stages.{stage_of}
use Rattle.run_books.proofs.SettlerFrame.{beside-well, one-after-another}
use Rattle.interleaver.specs.TurnStages.{AsksOne, PassSays, passing_stage, turn_stage}
use Rattle.interleaver.proofs.PassAnswers.{pass-begins, pass-ends}
use Rattle.interleaver.proofs.RecordFrame.{none-beside}
use Rattle.interleaver.proofs.TurnSequence.{ends-then, went-then}
use Rattle.interleaver.proofs.SureTurns.{lack-all, lack-freed, lack-next}
use Rattle.interleaver.proofs.SkippedUnits.{lack-skipped, skipped}
use Rattle.interleaver.proofs.turns.Turns.ask_all.Goals as goal

pub loop-index-init : goal.loop-index-init
loop-index-init g c = record {
  units = c.requires.units;
  same = refl;
  past = c.next_to_ask-index.ensures.behind;
  front = refl;
  begun = refl;
  used = refl;
  shape = refl;
  doubted = refl;
  safe = record { safe = c.requires.safe; ready = λ file was. was };
  beside = none-beside g.H.Host.tells (run_of c.args.core.now) (run_of c.args.core.now) c.args.settler.now (g.H.Host.faults c.args.host.now) (g.H.Host.world c.args.host.now) {T = Bool} (Ok true) refl;
  went = λ o b lines width picks way full. skipped (program_tree c.args.checked.now) (stage_of g.H.Host.world g.H.Host.faults (run_of c.args.core.now) c.args.settler.now c.args.host.now) c.args.self.now c.requires.units.sure c.requires.space c.args.self.now.front c.next_to_ask-index.result c.next_to_ask-index.ensures.behind c.next_to_ask-index.ensures.within c.next_to_ask-index.ensures.sure g.H.Host.tells o lines width picks b (turn_stage (stage_of g.H.Host.world g.H.Host.faults (run_of c.args.core.now) c.args.settler.now c.args.host.now) c.args.self.now) c.requires.calm
      (pass-begins g.H.Host.tells o (program_tree c.args.checked.now) lines width picks b (stage_of g.H.Host.world g.H.Host.faults (run_of c.args.core.now) c.args.settler.now c.args.host.now) c.args.self.now c.args.self.now.front c.requires.units.carried c.requires.units.freed way full);
  space = c.requires.space;
  lack = λ is. lack-skipped (program_tree c.args.checked.now) (stage_of g.H.Host.world g.H.Host.faults (run_of c.args.core.now) c.args.settler.now c.args.host.now) c.args.self.now c.requires.units.sure c.requires.space c.args.self.now.front c.next_to_ask-index.result c.next_to_ask-index.ensures.behind c.next_to_ask-index.ensures.within c.next_to_ask-index.ensures.sure
      (lack-freed (program_tree c.args.checked.now) (run_of c.args.core.now) c.args.self.now.agents.list.items c.args.self.now.front c.requires.units.carried c.requires.units.freed);
}

pub loop-index-preserved : goal.loop-index-preserved
loop-index-preserved g c =
    let inv = c.loop-index.invariant in
    let asks : AsksOne {T = Bool} g.H.Host.tells (program_tree c.args.checked.now) c.loop-index.index (stage_of g.H.Host.world g.H.Host.faults (run_of c.loop-index.core) c.loop-index.settler c.loop-index.host) c.loop-index.self (stage_of g.H.Host.world g.H.Host.faults (run_of c.ask_unless_sure.new.core) c.ask_unless_sure.new.settler c.ask_unless_sure.new.host) c.ask_unless_sure.new.self (Ok c.in_ok-lacks_none.lacks_none) = subst (λ (x : Result Bool RunFault). AsksOne {T = Bool} g.H.Host.tells (program_tree c.args.checked.now) c.loop-index.index (stage_of g.H.Host.world g.H.Host.faults (run_of c.loop-index.core) c.loop-index.settler c.loop-index.host) c.loop-index.self (stage_of g.H.Host.world g.H.Host.faults (run_of c.ask_unless_sure.new.core) c.ask_unless_sure.new.settler c.ask_unless_sure.new.host) c.ask_unless_sure.new.self x) c.in_ok-lacks_none.was c.ask_unless_sure.ensures.asks in
    record {
      units = c.in_ok-lacks_none.ensures.units;
      same = c.ask_unless_sure.ensures.leaves.same ∙ inv.same;
      past = (let le = inv.past in let q = c.ask_unless_sure.ensures.leaves.front in let on = c.next_to_ask-index-in-loop-index.ensures.behind in omega (arith, le, q, on));
      front = c.ask_unless_sure.ensures.leaves.front ∙ inv.front;
      begun = c.ask_unless_sure.ensures.leaves.begun ∙ inv.begun;
      used = c.ask_unless_sure.ensures.leaves.used ∙ inv.used;
      shape = c.ask_unless_sure.ensures.leaves.shape ∙ inv.shape;
      doubted = c.ask_unless_sure.ensures.leaves.doubted ∙ inv.doubted;
      safe = record { safe = c.ask_unless_sure.ensures.safe.safe; ready = λ file was. c.ask_unless_sure.ensures.safe.ready file (inv.safe.ready file was) };
      beside = one-after-another {T = Bool} {U = Bool} g.H.Host.tells (run_of c.args.core.now) (run_of c.loop-index.core) (run_of c.ask_unless_sure.new.core) c.args.settler.now c.loop-index.settler c.ask_unless_sure.new.settler
          (g.H.Host.faults c.args.host.now) (g.H.Host.faults c.loop-index.host) (g.H.Host.faults c.ask_unless_sure.new.host) (g.H.Host.world c.args.host.now) (g.H.Host.world c.loop-index.host) (g.H.Host.world c.ask_unless_sure.new.host) true (Ok true) inv.beside
          (beside-well g.H.Host.tells (run_of c.loop-index.core) (run_of c.ask_unless_sure.new.core) c.loop-index.settler c.ask_unless_sure.new.settler (g.H.Host.faults c.loop-index.host) (g.H.Host.faults c.ask_unless_sure.new.host) (g.H.Host.world c.loop-index.host) (g.H.Host.world c.ask_unless_sure.new.host)
          {T = Bool} {U = Bool} c.in_ok-lacks_none.lacks_none (Ok true) asks.beside);
      went = λ o b lines width picks way full.
          let w = inv.went o b lines width picks way full in
          let on = asks.says o w.1.books lines width picks w.0 w.1.under_way (c.loop-index.invariant.doubted ∙ c.requires.calm) w.2 in
          skipped (program_tree c.args.checked.now) (stage_of g.H.Host.world g.H.Host.faults (run_of c.ask_unless_sure.new.core) c.ask_unless_sure.new.settler c.ask_unless_sure.new.host) c.ask_unless_sure.new.self c.in_ok-lacks_none.ensures.units.sure c.in_ok-lacks_none.ensures.space (c.loop-index.index + 1) c.next_to_ask-index-in-loop-index.result c.next_to_ask-index-in-loop-index.ensures.behind c.next_to_ask-index-in-loop-index.ensures.within c.next_to_ask-index-in-loop-index.ensures.sure g.H.Host.tells o lines width picks b (turn_stage (stage_of g.H.Host.world g.H.Host.faults (run_of c.args.core.now) c.args.settler.now c.args.host.now) c.args.self.now) (c.ask_unless_sure.ensures.leaves.doubted ∙ inv.doubted ∙ c.requires.calm)
          (on.0, went-then g.H.Host.tells o (program_tree c.args.checked.now) lines width picks b (turn_stage (stage_of g.H.Host.world g.H.Host.faults (run_of c.args.core.now) c.args.settler.now c.args.host.now) c.args.self.now) (passing_stage (stage_of g.H.Host.world g.H.Host.faults (run_of c.loop-index.core) c.loop-index.settler c.loop-index.host) c.loop-index.self w.0) (passing_stage (stage_of g.H.Host.world g.H.Host.faults (run_of c.ask_unless_sure.new.core) c.ask_unless_sure.new.settler c.ask_unless_sure.new.host) c.ask_unless_sure.new.self on.0) w.1 on.1, on.2);
      space = c.in_ok-lacks_none.ensures.space;
      lack = λ is.
          lack-skipped (program_tree c.args.checked.now) (stage_of g.H.Host.world g.H.Host.faults (run_of c.ask_unless_sure.new.core) c.ask_unless_sure.new.settler c.ask_unless_sure.new.host) c.ask_unless_sure.new.self c.in_ok-lacks_none.ensures.units.sure c.in_ok-lacks_none.ensures.space (c.loop-index.index + 1) c.next_to_ask-index-in-loop-index.result c.next_to_ask-index-in-loop-index.ensures.behind c.next_to_ask-index-in-loop-index.ensures.within c.next_to_ask-index-in-loop-index.ensures.sure
          (lack-next (program_tree c.args.checked.now) (run_of c.loop-index.core) (run_of c.ask_unless_sure.new.core) c.loop-index.self.agents.list.items c.ask_unless_sure.new.self.agents.list.items c.loop-index.index c.ask_unless_sure.ensures.leaves.same
          (inv.lack (and_parts c.loop-index.sure c.in_ok-lacks_none.lacks_none is).0) (c.in_ok-lacks_none.ensures.lacks (and_parts c.loop-index.sure c.in_ok-lacks_none.lacks_none is).1));
    }

pub ask_unless_sure-requires-clause-within : goal.ask_unless_sure-requires-clause-within
ask_unless_sure-requires-clause-within g c =
    let end : c.len.result ≡ length c.loop-index.self.agents.list.items = search in
    let less = c.loop-index-test.true in omega (arith, end, less)

pub returns-in_err-lacks_none-clause-passes : goal.returns-in_err-lacks_none-clause-passes
returns-in_err-lacks_none-clause-passes g c =
    let q = err_from_is_err_and c.from_residual.result c.from_residual.ensures.1 in
    let inv = c.loop-index.invariant in
    let out : c.ask_unless_sure.result ≡ c.from_residual.result = c.in_err-lacks_none.was ∙ sym (q.1 ∙ ap Err q.2) in
    let asks : AsksOne {T = Bool} g.H.Host.tells (program_tree c.args.checked.now) c.loop-index.index (stage_of g.H.Host.world g.H.Host.faults (run_of c.loop-index.core) c.loop-index.settler c.loop-index.host) c.loop-index.self (stage_of g.H.Host.world g.H.Host.faults (run_of c.ask_unless_sure.new.core) c.ask_unless_sure.new.settler c.ask_unless_sure.new.host) c.ask_unless_sure.new.self (Err c.in_err-lacks_none.field-0.0) = subst (λ (x : Result Bool RunFault). AsksOne {T = Bool} g.H.Host.tells (program_tree c.args.checked.now) c.loop-index.index (stage_of g.H.Host.world g.H.Host.faults (run_of c.loop-index.core) c.loop-index.settler c.loop-index.host) c.loop-index.self (stage_of g.H.Host.world g.H.Host.faults (run_of c.ask_unless_sure.new.core) c.ask_unless_sure.new.settler c.ask_unless_sure.new.host) c.ask_unless_sure.new.self x) c.in_err-lacks_none.was c.ask_unless_sure.ensures.asks in
    record {
      says = λ o b lines width picks way full.
          let w = inv.went o b lines width picks way full in
          subst (λ (x : Result Bool RunFault). PassSays {T = Bool} g.H.Host.tells o (program_tree c.args.checked.now) lines width picks b (turn_stage (stage_of g.H.Host.world g.H.Host.faults (run_of c.args.core.now) c.args.settler.now c.args.host.now) c.args.self.now) (stage_of g.H.Host.world g.H.Host.faults (run_of c.ask_unless_sure.new.core) c.ask_unless_sure.new.settler c.ask_unless_sure.new.host) c.ask_unless_sure.new.self x) (sym (q.1 ∙ ap Err q.2))
          (ends-then g.H.Host.tells o (program_tree c.args.checked.now) lines width picks b (turn_stage (stage_of g.H.Host.world g.H.Host.faults (run_of c.args.core.now) c.args.settler.now c.args.host.now) c.args.self.now) (passing_stage (stage_of g.H.Host.world g.H.Host.faults (run_of c.loop-index.core) c.loop-index.settler c.loop-index.host) c.loop-index.self w.0) {T = Bool} (turn_stage (stage_of g.H.Host.world g.H.Host.faults (run_of c.ask_unless_sure.new.core) c.ask_unless_sure.new.settler c.ask_unless_sure.new.host) c.ask_unless_sure.new.self) w.1 c.in_err-lacks_none.field-0.0
          (asks.says o w.1.books lines width picks w.0 w.1.under_way (c.loop-index.invariant.doubted ∙ c.requires.calm) w.2));
      beside = one-after-another {T = Bool} {U = Bool} g.H.Host.tells (run_of c.args.core.now) (run_of c.loop-index.core) (run_of c.ask_unless_sure.new.core) c.args.settler.now c.loop-index.settler c.ask_unless_sure.new.settler
          (g.H.Host.faults c.args.host.now) (g.H.Host.faults c.loop-index.host) (g.H.Host.faults c.ask_unless_sure.new.host) (g.H.Host.world c.args.host.now) (g.H.Host.world c.loop-index.host) (g.H.Host.world c.ask_unless_sure.new.host) true c.from_residual.result inv.beside
          (subst (λ (x : Result Bool RunFault). TurnsBeside {T = Bool} g.H.Host.tells (stage_of g.H.Host.world g.H.Host.faults (run_of c.loop-index.core) c.loop-index.settler c.loop-index.host) (stage_of g.H.Host.world g.H.Host.faults (run_of c.ask_unless_sure.new.core) c.ask_unless_sure.new.settler c.ask_unless_sure.new.host) x) out c.ask_unless_sure.ensures.asks.beside);
    }

pub returns-clause-passes : goal.returns-clause-passes
returns-clause-passes g c =
    let inv = c.loop-index.invariant in
    let end : c.len.result ≡ length c.loop-index.self.agents.list.items = search in
    let past = c.loop-index-test.false in
    record {
      says = λ o b lines width picks way full.
          let w = inv.went o b lines width picks way full in
          let e = pass-ends g.H.Host.tells o (program_tree c.args.checked.now) lines width picks w.1.books (stage_of g.H.Host.world g.H.Host.faults (run_of c.loop-index.core) c.loop-index.settler c.loop-index.host) c.loop-index.self w.0 c.loop-index.index w.1.under_way w.2 (omega (arith, end, past)) in
          (e.0, went-then g.H.Host.tells o (program_tree c.args.checked.now) lines width picks b (turn_stage (stage_of g.H.Host.world g.H.Host.faults (run_of c.args.core.now) c.args.settler.now c.args.host.now) c.args.self.now) (passing_stage (stage_of g.H.Host.world g.H.Host.faults (run_of c.loop-index.core) c.loop-index.settler c.loop-index.host) c.loop-index.self w.0) (passing_stage (stage_of g.H.Host.world g.H.Host.faults (run_of c.loop-index.core) c.loop-index.settler c.loop-index.host) c.loop-index.self e.0) w.1 e.1, e.2);
      beside = beside-well g.H.Host.tells (run_of c.args.core.now) (run_of c.loop-index.core) c.args.settler.now c.loop-index.settler (g.H.Host.faults c.args.host.now) (g.H.Host.faults c.loop-index.host) (g.H.Host.world c.args.host.now) (g.H.Host.world c.loop-index.host)
          {T = Bool} {U = Bool} true (Ok c.loop-index.sure) inv.beside;
    }

pub returns-clause-lack : goal.returns-clause-lack
returns-clause-lack g c = λ is.
    let inv = c.loop-index.invariant in
    let end : c.len.result ≡ length c.loop-index.self.agents.list.items = search in
    let past = c.loop-index-test.false in
    lack-all (program_tree c.args.checked.now) (run_of c.loop-index.core) c.loop-index.self.agents.list.items c.loop-index.index (omega (arith, end, past)) (inv.lack is)

pub returns-in_err-lacks_none-clause-units : goal.returns-in_err-lacks_none-clause-units
returns-in_err-lacks_none-clause-units g c = let q = err_from_is_err_and c.from_residual.result c.from_residual.ensures.1 in rw q.1 tt

pub returns-in_err-lacks_none-clause-lack : goal.returns-in_err-lacks_none-clause-lack
returns-in_err-lacks_none-clause-lack g c = let q = err_from_is_err_and c.from_residual.result c.from_residual.ensures.1 in rw q.1 tt

pub returns-in_err-lacks_none-clause-begun : goal.returns-in_err-lacks_none-clause-begun
returns-in_err-lacks_none-clause-begun g c = c.ask_unless_sure.ensures.leaves.begun ∙ c.loop-index.invariant.begun

pub returns-in_err-lacks_none-clause-used : goal.returns-in_err-lacks_none-clause-used
returns-in_err-lacks_none-clause-used g c = c.ask_unless_sure.ensures.leaves.used ∙ c.loop-index.invariant.used

pub returns-in_err-lacks_none-clause-shape : goal.returns-in_err-lacks_none-clause-shape
returns-in_err-lacks_none-clause-shape g c = c.ask_unless_sure.ensures.leaves.shape ∙ c.loop-index.invariant.shape

pub returns-in_err-lacks_none-clause-safe : goal.returns-in_err-lacks_none-clause-safe
returns-in_err-lacks_none-clause-safe g c = record { safe = c.ask_unless_sure.ensures.safe.safe; ready = λ file was. c.ask_unless_sure.ensures.safe.ready file (c.loop-index.invariant.safe.ready file was) }

pub returns-clause-units : goal.returns-clause-units
returns-clause-units g c = c.loop-index.invariant.units

pub returns-clause-begun : goal.returns-clause-begun
returns-clause-begun g c = c.loop-index.invariant.begun

pub returns-clause-used : goal.returns-clause-used
returns-clause-used g c = c.loop-index.invariant.used

pub returns-clause-shape : goal.returns-clause-shape
returns-clause-shape g c = c.loop-index.invariant.shape

pub returns-clause-safe : goal.returns-clause-safe
returns-clause-safe g c = c.loop-index.invariant.safe

pub next_to_ask-index-requires : goal.next_to_ask-index-requires
next_to_ask-index-requires g c = record { older = c.requires.units.carried.older }

pub next_to_ask-index-requires-in-loop-index : goal.next_to_ask-index-requires-in-loop-index
next_to_ask-index-requires-in-loop-index g c = record { older = c.in_ok-lacks_none.ensures.units.carried.older }

pub ask_unless_sure-requires-clause-front : goal.ask_unless_sure-requires-clause-front
ask_unless_sure-requires-clause-front g c = c.loop-index.invariant.past

pub ask_unless_sure-requires-clause-units : goal.ask_unless_sure-requires-clause-units
ask_unless_sure-requires-clause-units g c = c.loop-index.invariant.units

pub ask_unless_sure-requires-clause-space : goal.ask_unless_sure-requires-clause-space
ask_unless_sure-requires-clause-space g c = c.loop-index.invariant.space

pub ask_unless_sure-requires-clause-shape : goal.ask_unless_sure-requires-clause-shape
ask_unless_sure-requires-clause-shape g c = ap (λ (x : Shape). x.types) c.loop-index.invariant.shape ∙ c.requires.shape

pub ask_unless_sure-requires-clause-safe : goal.ask_unless_sure-requires-clause-safe
ask_unless_sure-requires-clause-safe g c = c.loop-index.invariant.safe.safe
