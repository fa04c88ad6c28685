use Rattle.std.proofs.Common.{◌≡◌, ◌+◌, ◌∙◌, true, refl, sym, ap, subst}
use Rattle.std.specs.Prelude.{Result, Ok, Err, IfOk}
use Rattle.std.proofs.lemmas.Result.{err_from_is_err_and}
use Rattle.core_access.specs.OneHolder.{own_sight}
use Rattle.core_model.specs.LegalRuns.{ends}
use Rattle.core_model.specs.Settler.{has_step}
use Rattle.history_core.specs.Cores.{run_of}
use Rattle.script_tree.specs.Programs.{program_tree}
use Rattle.settle_loop.specs.SettlerStep.{wanted_step}
use Rattle.unit_carrier.specs.CarriedUnits.{WishesAt, unit_at, units_carried}
use Rattle.unit_carrier.proofs.Places.{units-same}
use Rattle.run_books.specs.declared.faults.RunFault.{RunFault}
use Rattle.run_books.specs.Stages.{stage_of}
use Rattle.run_books.proofs.BooksOthers.{others-keep}
use Rattle.run_books.proofs.SettlerFrame.{one-after-another}
use Rattle.interleaver.specs.LastLook.{IsLooked}
use Rattle.interleaver.specs.TurnStages.{AskedSays, HoldsUnits, LoadsOne, passing_stage}
use Rattle.interleaver.proofs.LastLook.{goes-looked, wish-looked}
use Rattle.interleaver.proofs.PassAnswers.{asked-says, loaded-says, unasked-says}
use Rattle.interleaver.proofs.PickedTurns.{goes-known}
use Rattle.interleaver.proofs.RecordFrame.{wishes-beside}
use Rattle.interleaver.proofs.SureUnits.{none-sure}
use Rattle.interleaver.proofs.turns.Turns.ask_one.Goals as goal

-- what holds anyway holds where it was answered well
holds-anyway : {A B : Type 0} (r : Result A B) (P : Type 0) → P → IfOk r (λ _. P)
holds-anyway (Ok value) P holds = holds
holds-anyway (Err fault) P holds = tt

pub want-requires-clause-carried : goal.want-requires-clause-carried
want-requires-clause-carried g c = c.requires.units.carried

-- there was no memory for the wish, or behind it
pub returns-in_err-want-clause-asks : goal.returns-in_err-want-clause-asks
returns-in_err-want-clause-asks g c =
    let q = err_from_is_err_and c.from_residual.result c.from_residual.ensures.1 in
    record {
      says = λ o b lines width picks p way calm asking.
          subst (λ (x : Result Unit RunFault). AskedSays {T = Unit} g.H.Host.tells o (program_tree c.args.checked.now) lines width picks b (passing_stage (stage_of g.H.Host.world g.H.Host.faults (run_of c.args.core.now) c.args.settler.now c.args.host.now) c.args.self.now p) (stage_of g.H.Host.world g.H.Host.faults (run_of c.want.new.access) c.args.settler.now c.args.host.now) (record c.args.self.now { agents = c.want.new.self }) (c.args.index + 1) x) (sym (q.1 ∙ ap Err q.2))
          (unasked-says others-keep g.H.Host.tells o (program_tree c.args.checked.now) lines width picks b (stage_of g.H.Host.world g.H.Host.faults (run_of c.args.core.now) c.args.settler.now c.args.host.now) c.args.self.now p c.args.index way calm asking c.requires.within (run_of c.want.new.access) c.want.ensures.wishes);
      beside = wishes-beside g.H.Host.tells (run_of c.args.core.now) (run_of c.want.new.access) c.args.settler.now (g.H.Host.faults c.args.host.now) (g.H.Host.world c.args.host.now) c.from_residual.result (program_tree c.args.checked.now) (unit_at c.args.self.now.agents.list.items c.args.index) c.want.ensures.wishes;
    }

-- the unit waits for no grain
pub returns-then-not-branch-clause-asks : goal.returns-then-not-branch-clause-asks
returns-then-not-branch-clause-asks g c = record {
  says = λ o b lines width picks p way calm asking.
      asked-says others-keep g.H.Host.tells o (program_tree c.args.checked.now) lines width picks b (stage_of g.H.Host.world g.H.Host.faults (run_of c.args.core.now) c.args.settler.now c.args.host.now) c.args.self.now p c.args.index way calm asking c.requires.within (stage_of g.H.Host.world g.H.Host.faults (run_of c.want.new.access) c.args.settler.now c.args.host.now) (record c.args.self.now { agents = c.want.new.self }) (units-same c.want.new.self.list.items c.args.self.now.agents.list.items c.want.ensures.units) refl refl refl refl refl {T = Unit {0}} (tt {0})
      (subst (WishesAt (program_tree c.args.checked.now) (unit_at c.args.self.now.agents.list.items c.args.index) (own_sight (run_of c.args.core.now)) (own_sight (run_of c.want.new.access))) c.if-not-branch.true c.in_ok-want.ensures.told);
  beside = wishes-beside g.H.Host.tells (run_of c.args.core.now) (run_of c.want.new.access) c.args.settler.now (g.H.Host.faults c.args.host.now) (g.H.Host.world c.args.host.now) (Ok tt) (program_tree c.args.checked.now) (unit_at c.args.self.now.agents.list.items c.args.index) c.want.ensures.wishes;
}

pub returns-then-not-branch-clause-units : goal.returns-then-not-branch-clause-units
returns-then-not-branch-clause-units g c = record {
  carried = c.in_ok-want.ensures.carried;
  looked = subst (IsLooked c.args.self.now.looked (run_of c.want.new.access)) (sym (units-same c.want.new.self.list.items c.args.self.now.agents.list.items c.want.ensures.units))
      (wish-looked (program_tree c.args.checked.now) c.args.self.now.looked (run_of c.args.core.now) (run_of c.want.new.access) (unit_at c.args.self.now.agents.list.items c.args.index) c.args.self.now.agents.list.items c.requires.units.carried c.want.ensures.wishes c.requires.units.looked);
  freed = c.want.ensures.freed c.args.self.now.front c.requires.front c.requires.units.freed;
  sure = none-sure (program_tree c.args.checked.now) (run_of c.want.new.access) (units_carried c.want.new.self.list.items) c.args.self.now.sure c.args.self.now.moved c.requires.unsure;
}

-- it wanted one
pub returns-clause-asks : goal.returns-clause-asks
returns-clause-asks g c = record {
  says = λ o b lines width picks p way calm asking.
      loaded-says others-keep g.H.Host.tells o (program_tree c.args.checked.now) lines width picks b (stage_of g.H.Host.world g.H.Host.faults (run_of c.args.core.now) c.args.settler.now c.args.host.now) c.args.self.now p c.args.index way calm asking c.requires.within (stage_of g.H.Host.world g.H.Host.faults (run_of c.want.new.access) c.args.settler.now c.args.host.now) (record c.args.self.now { agents = c.want.new.self }) (units-same c.want.new.self.list.items c.args.self.now.agents.list.items c.want.ensures.units) refl refl refl refl refl
      (stage_of g.H.Host.world g.H.Host.faults (run_of c.load.new.core) c.load.new.settler c.load.new.host) (record c.args.self.now { agents = c.want.new.self }) c.args.self.now.shape c.requires.shape refl refl refl
      (subst (WishesAt (program_tree c.args.checked.now) (unit_at c.args.self.now.agents.list.items c.args.index) (own_sight (run_of c.args.core.now)) (own_sight (run_of c.want.new.access))) c.if-not-branch.false c.in_ok-want.ensures.told)
      c.load.result c.load.ensures.goes c.load.ensures.loads (λ done is. subst (λ (x : Result Unit RunFault). IfOk x (λ _. has_step (wanted_step (ends (run_of c.want.new.access))) ≡ true → LoadsOne (run_of c.want.new.access) (run_of c.load.new.core))) is c.load.ensures.acted);
  beside = one-after-another {T = Unit} {U = Unit} g.H.Host.tells (run_of c.args.core.now) (run_of c.want.new.access) (run_of c.load.new.core) c.args.settler.now c.args.settler.now c.load.new.settler
      (g.H.Host.faults c.args.host.now) (g.H.Host.faults c.args.host.now) (g.H.Host.faults c.load.new.host) (g.H.Host.world c.args.host.now) (g.H.Host.world c.args.host.now) (g.H.Host.world c.load.new.host) tt c.load.result
      (wishes-beside g.H.Host.tells (run_of c.args.core.now) (run_of c.want.new.access) c.args.settler.now (g.H.Host.faults c.args.host.now) (g.H.Host.world c.args.host.now) {T = Unit} (Ok tt) (program_tree c.args.checked.now) (unit_at c.args.self.now.agents.list.items c.args.index) c.want.ensures.wishes)
      c.load.ensures.beside;
}

pub returns-clause-units : goal.returns-clause-units
returns-clause-units g c = holds-anyway c.load.result (HoldsUnits (program_tree c.args.checked.now) (run_of c.load.new.core) (record c.args.self.now { agents = c.want.new.self }))
    (record {
      carried = goes-known (program_tree c.args.checked.now) c.want.new.self.list.items wanted_step (run_of c.want.new.access) (run_of c.load.new.core) c.load.ensures.loads c.in_ok-want.ensures.carried;
      looked = goes-looked (program_tree c.args.checked.now) c.args.self.now.looked wanted_step (run_of c.want.new.access) (run_of c.load.new.core) c.want.new.self.list.items c.in_ok-want.ensures.carried c.load.ensures.loads
          (subst (IsLooked c.args.self.now.looked (run_of c.want.new.access)) (sym (units-same c.want.new.self.list.items c.args.self.now.agents.list.items c.want.ensures.units))
          (wish-looked (program_tree c.args.checked.now) c.args.self.now.looked (run_of c.args.core.now) (run_of c.want.new.access) (unit_at c.args.self.now.agents.list.items c.args.index) c.args.self.now.agents.list.items c.requires.units.carried c.want.ensures.wishes c.requires.units.looked));
      freed = c.want.ensures.freed c.args.self.now.front c.requires.front c.requires.units.freed;
      sure = none-sure (program_tree c.args.checked.now) (run_of c.load.new.core) (units_carried c.want.new.self.list.items) c.args.self.now.sure c.args.self.now.moved c.requires.unsure;
    })

-- what it leaves
pub returns-in_err-want-clause-leaves : goal.returns-in_err-want-clause-leaves
returns-in_err-want-clause-leaves g c = record { same = c.want.ensures.units; front = refl; begun = refl; used = refl; shape = refl; doubted = refl }

pub returns-then-not-branch-clause-leaves : goal.returns-then-not-branch-clause-leaves
returns-then-not-branch-clause-leaves g c = record { same = c.want.ensures.units; front = refl; begun = refl; used = refl; shape = refl; doubted = refl }

pub returns-clause-leaves : goal.returns-clause-leaves
returns-clause-leaves g c = record { same = c.want.ensures.units; front = refl; begun = refl; used = refl; shape = refl; doubted = c.load.ensures.doubted }

pub returns-in_err-want-clause-units : goal.returns-in_err-want-clause-units
returns-in_err-want-clause-units g c = let q = err_from_is_err_and c.from_residual.result c.from_residual.ensures.1 in rw q.1 tt

pub returns-in_err-want-clause-unsure : goal.returns-in_err-want-clause-unsure
returns-in_err-want-clause-unsure g c = c.requires.unsure

pub returns-in_err-want-clause-safe : goal.returns-in_err-want-clause-safe
returns-in_err-want-clause-safe g c = record { safe = c.requires.safe; ready = λ file was. was }

pub returns-then-not-branch-clause-unsure : goal.returns-then-not-branch-clause-unsure
returns-then-not-branch-clause-unsure g c = c.requires.unsure

pub returns-then-not-branch-clause-safe : goal.returns-then-not-branch-clause-safe
returns-then-not-branch-clause-safe g c = record { safe = c.requires.safe; ready = λ file was. was }

pub returns-clause-unsure : goal.returns-clause-unsure
returns-clause-unsure g c = c.requires.unsure

pub returns-clause-safe : goal.returns-clause-safe
returns-clause-safe g c = c.load.ensures.safe

pub load-requires : goal.load-requires
load-requires g c = record { safe = c.requires.safe }
