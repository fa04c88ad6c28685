use Rattle.std.proofs.Common.{◌≡◌, ◌+◌, ◌∙◌, refl, sym, ap, subst, arith, true, false, not, Some}
use Rattle.std.specs.Prelude.{Bool, Result, List, Ok, Err, get_or, slice_get}
use Rattle.std.proofs.lemmas.Bool.{not-true}
use Rattle.std.proofs.lemmas.Option.{slice_get_read}
use Rattle.std.proofs.lemmas.Result.{err_from_is_err_and}
use Rattle.cell_memory.specs.SpareMemory.{has_space}
use Rattle.core_model.specs.CoreState.{UnitNo, nobody}
use Rattle.core_model.specs.LegalRuns.{Run, ends}
use Rattle.history_core.specs.Cores.{run_of}
use Rattle.script_tree.specs.Programs.{program_tree}
use Rattle.unit_carrier.specs.CarriedUnits.{unit_at, units_carried}
use Rattle.unit_carrier.proofs.Places.{unit-here, units-same}
use Rattle.run_books.specs.declared.faults.RunFault.{RunFault}
use Rattle.run_books.specs.Stages.{stage_of}
use Rattle.run_books.proofs.BooksOthers.{others-keep}
use Rattle.interleaver.specs.TurnStages.{AskedSays, AsksOne, passing_stage}
use Rattle.interleaver.proofs.LastLook.{same-looked}
use Rattle.interleaver.proofs.PassAnswers.{asked-says, many-same, unasked-says}
use Rattle.interleaver.proofs.RecordFrame.{none-beside}
use Rattle.interleaver.proofs.SureTurns.{asks-failed, asks-from, asks-told, lacks-wishes, shown-none, sight-looks, sight-run, sure-none, sure-wishes}
use Rattle.interleaver.proofs.SureUnits.{none-sure, same-sure}
use Rattle.interleaver.proofs.turns.Turns.ask_unless_sure.Goals as goal

-- it lacks no grain for sure
pub returns-then-is_sure-clause-asks : goal.returns-then-is_sure-clause-asks
returns-then-is_sure-clause-asks g c =
    let q : slice_get c.args.self.now.agents.list.items c.args.index ≡ Some c.index.result.now = slice_get_read c.args.self.now.agents.list.items _ c.args.index c.index.result.now refl c.requires.within c.index.ensures in
    let own : unit_at c.args.self.now.agents.list.items c.args.index ≡ c.unit-unit.result = unit-here c.args.self.now.agents.list.items c.args.index c.index.result.now q ∙ sym c.unit-unit.ensures in
    let low = c.is_sure.ensures c.if-is_sure.true in
    let none = sure-none (program_tree c.args.checked.now) (run_of c.args.core.now) c.args.self.now.agents.list.items c.args.index c.unit-unit.result c.args.self.now.sure c.args.self.now.moved c.requires.units.sure c.requires.within own low in
    let less = low.0 in
    let space : has_space (ends (run_of c.args.core.now)).cells ≡ true = c.requires.space (omega (arith, less)) in
    record {
      says = λ o b lines width picks p way calm asking. asked-says others-keep g.H.Host.tells o (program_tree c.args.checked.now) lines width picks b (stage_of g.H.Host.world g.H.Host.faults (run_of c.args.core.now) c.args.settler.now c.args.host.now) c.args.self.now p c.args.index way calm asking c.requires.within (stage_of g.H.Host.world g.H.Host.faults (run_of c.args.core.now) c.args.settler.now c.args.host.now) c.args.self.now refl refl refl refl refl refl true
          (sure-wishes (program_tree c.args.checked.now) (run_of c.args.core.now) (unit_at c.args.self.now.agents.list.items c.args.index) space none.1);
      beside = none-beside g.H.Host.tells (run_of c.args.core.now) (run_of c.args.core.now) c.args.settler.now (g.H.Host.faults c.args.host.now) (g.H.Host.world c.args.host.now) {T = Bool} (Ok true) refl;
    }

pub returns-then-is_sure-clause-lacks : goal.returns-then-is_sure-clause-lacks
returns-then-is_sure-clause-lacks g c =
    let q : slice_get c.args.self.now.agents.list.items c.args.index ≡ Some c.index.result.now = slice_get_read c.args.self.now.agents.list.items _ c.args.index c.index.result.now refl c.requires.within c.index.ensures in
    let own : unit_at c.args.self.now.agents.list.items c.args.index ≡ c.unit-unit.result = unit-here c.args.self.now.agents.list.items c.args.index c.index.result.now q ∙ sym c.unit-unit.ensures in
    let low = c.is_sure.ensures c.if-is_sure.true in
    let none = sure-none (program_tree c.args.checked.now) (run_of c.args.core.now) c.args.self.now.agents.list.items c.args.index c.unit-unit.result c.args.self.now.sure c.args.self.now.moved c.requires.units.sure c.requires.within own low in
    λ is. none

-- there was no memory for a look at its child
pub returns-in_err-here-clause-asks : goal.returns-in_err-here-clause-asks
returns-in_err-here-clause-asks g c =
    let q = err_from_is_err_and c.from_residual.result c.from_residual.ensures.1 in
    record {
      says = λ o b lines width picks p way calm asking.
          subst (λ (x : Result Bool RunFault). AskedSays {T = Bool} g.H.Host.tells o (program_tree c.args.checked.now) lines width picks b (passing_stage (stage_of g.H.Host.world g.H.Host.faults (run_of c.args.core.now) c.args.settler.now c.args.host.now) c.args.self.now p) (stage_of g.H.Host.world g.H.Host.faults (run_of c.has_grain.new.access) c.args.settler.now c.args.host.now) (record c.args.self.now { agents = c.has_grain.new.self }) (c.args.index + 1) x) (sym (q.1 ∙ ap Err q.2))
          (unasked-says others-keep g.H.Host.tells o (program_tree c.args.checked.now) lines width picks b (stage_of g.H.Host.world g.H.Host.faults (run_of c.args.core.now) c.args.settler.now c.args.host.now) c.args.self.now p c.args.index way calm asking c.requires.within (run_of c.has_grain.new.access) (sight-looks (program_tree c.args.checked.now) (run_of c.args.core.now) (run_of c.has_grain.new.access) (unit_at c.args.self.now.agents.list.items c.args.index) c.has_grain.ensures.same));
      beside = none-beside g.H.Host.tells (run_of c.args.core.now) (run_of c.has_grain.new.access) c.args.settler.now (g.H.Host.faults c.args.host.now) (g.H.Host.world c.args.host.now) {T = Bool} c.from_residual.result (sight-run (run_of c.args.core.now) (run_of c.has_grain.new.access) c.has_grain.ensures.same);
    }

-- its grain is in memory
pub returns-then-here-clause-asks : goal.returns-then-here-clause-asks
returns-then-here-clause-asks g c = record {
  says = λ o b lines width picks p way calm asking. asked-says others-keep g.H.Host.tells o (program_tree c.args.checked.now) lines width picks b (stage_of g.H.Host.world g.H.Host.faults (run_of c.args.core.now) c.args.settler.now c.args.host.now) c.args.self.now p c.args.index way calm asking c.requires.within (stage_of g.H.Host.world g.H.Host.faults (run_of c.has_grain.new.access) c.args.settler.now c.args.host.now) (record c.args.self.now { agents = c.has_grain.new.self }) (units-same c.has_grain.new.self.list.items c.args.self.now.agents.list.items c.has_grain.ensures.units) refl refl refl refl refl (not c.is_awaiting-awaits.result)
      (lacks-wishes (program_tree c.args.checked.now) (run_of c.args.core.now) (run_of c.has_grain.new.access) (unit_at c.args.self.now.agents.list.items c.args.index) c.has_grain.ensures.same (c.in_ok-here.ensures.has c.if-here.true));
  beside = none-beside g.H.Host.tells (run_of c.args.core.now) (run_of c.has_grain.new.access) c.args.settler.now (g.H.Host.faults c.args.host.now) (g.H.Host.world c.args.host.now) {T = Bool} (Ok (not c.is_awaiting-awaits.result)) (sight-run (run_of c.args.core.now) (run_of c.has_grain.new.access) c.has_grain.ensures.same);
}

pub returns-then-here-clause-units : goal.returns-then-here-clause-units
returns-then-here-clause-units g c = record {
  carried = c.in_ok-here.ensures.carried;
  looked = same-looked c.args.self.now.looked (run_of c.args.core.now) (run_of c.has_grain.new.access) (units_carried c.args.self.now.agents.list.items) (units_carried c.has_grain.new.self.list.items) (sight-run (run_of c.args.core.now) (run_of c.has_grain.new.access) c.has_grain.ensures.same) (units-same c.has_grain.new.self.list.items c.args.self.now.agents.list.items c.has_grain.ensures.units) c.requires.units.looked;
  freed = c.has_grain.ensures.freed c.args.self.now.front c.requires.front c.requires.units.freed;
  sure = same-sure (program_tree c.args.checked.now) (run_of c.args.core.now) (run_of c.has_grain.new.access) (units_carried c.args.self.now.agents.list.items) (units_carried c.has_grain.new.self.list.items) c.args.self.now.sure c.args.self.now.moved (sight-run (run_of c.args.core.now) (run_of c.has_grain.new.access) c.has_grain.ensures.same) (units-same c.has_grain.new.self.list.items c.args.self.now.agents.list.items c.has_grain.ensures.units) c.requires.units.sure;
}

pub returns-then-here-clause-space : goal.returns-then-here-clause-space
returns-then-here-clause-space g c = λ some. subst (λ (r : Run). has_space (ends r).cells ≡ true) (sym (sight-run (run_of c.args.core.now) (run_of c.has_grain.new.access) c.has_grain.ensures.same)) (c.requires.space some)

pub returns-then-here-clause-lacks : goal.returns-then-here-clause-lacks
returns-then-here-clause-lacks g c = λ is.
    let many = many-same c.has_grain.new.self.list.items c.args.self.now.agents.list.items c.has_grain.ensures.units in
    let within = c.requires.within in
    let q : slice_get c.has_grain.new.self.list.items c.args.index ≡ Some c.index-then-here.result.now =
    slice_get_read c.has_grain.new.self.list.items _ c.args.index c.index-then-here.result.now refl (omega (arith, many, within)) c.index-then-here.ensures in
    shown-none (program_tree c.args.checked.now) (run_of c.args.core.now) (run_of c.has_grain.new.access) c.has_grain.new.self.list.items c.args.index c.index-then-here.result.now (unit_at c.args.self.now.agents.list.items c.args.index) c.in_ok-here.ensures.carried q
    (ap (λ (us : List UnitNo). get_or us c.args.index nobody) (sym (units-same c.has_grain.new.self.list.items c.args.self.now.agents.list.items c.has_grain.ensures.units)) ∙ unit-here c.has_grain.new.self.list.items c.args.index c.index-then-here.result.now q)
    c.has_grain.ensures.same (c.in_ok-here.ensures.has c.if-here.true) (sym c.is_awaiting-awaits.ensures ∙ not-true c.is_awaiting-awaits.result is)

-- else it is asked
pub ask_one-requires-clause-units : goal.ask_one-requires-clause-units
ask_one-requires-clause-units g c = record {
  carried = c.in_ok-here.ensures.carried;
  looked = same-looked c.args.self.now.looked (run_of c.args.core.now) (run_of c.has_grain.new.access) (units_carried c.args.self.now.agents.list.items) (units_carried c.has_grain.new.self.list.items) (sight-run (run_of c.args.core.now) (run_of c.has_grain.new.access) c.has_grain.ensures.same) (units-same c.has_grain.new.self.list.items c.args.self.now.agents.list.items c.has_grain.ensures.units) c.requires.units.looked;
  freed = c.has_grain.ensures.freed c.args.self.now.front c.requires.front c.requires.units.freed;
  sure = none-sure (program_tree c.args.checked.now) (run_of c.has_grain.new.access) (units_carried c.has_grain.new.self.list.items) 0 c.args.self.now.moved refl;
}

pub returns-in_err-ask_one-clause-asks : goal.returns-in_err-ask_one-clause-asks
returns-in_err-ask_one-clause-asks g c =
    let q = err_from_is_err_and c.from_residual-in_err-ask_one.result c.from_residual-in_err-ask_one.ensures.1 in
    let failed : AsksOne {T = Unit} g.H.Host.tells (program_tree c.args.checked.now) c.args.index (stage_of g.H.Host.world g.H.Host.faults (run_of c.has_grain.new.access) c.args.settler.now c.args.host.now) (record c.args.self.now { agents = c.has_grain.new.self; sure = 0 }) (stage_of g.H.Host.world g.H.Host.faults (run_of c.ask_one.new.core) c.ask_one.new.settler c.ask_one.new.host) c.ask_one.new.self (Err c.in_err-ask_one.field-0.0) =
    subst (λ (x : Result Unit RunFault). AsksOne {T = Unit} g.H.Host.tells (program_tree c.args.checked.now) c.args.index (stage_of g.H.Host.world g.H.Host.faults (run_of c.has_grain.new.access) c.args.settler.now c.args.host.now) (record c.args.self.now { agents = c.has_grain.new.self; sure = 0 }) (stage_of g.H.Host.world g.H.Host.faults (run_of c.ask_one.new.core) c.ask_one.new.settler c.ask_one.new.host) c.ask_one.new.self x) c.in_err-ask_one.was c.ask_one.ensures.asks in
    subst (λ (x : Result Bool RunFault). AsksOne {T = Bool} g.H.Host.tells (program_tree c.args.checked.now) c.args.index (stage_of g.H.Host.world g.H.Host.faults (run_of c.args.core.now) c.args.settler.now c.args.host.now) c.args.self.now (stage_of g.H.Host.world g.H.Host.faults (run_of c.ask_one.new.core) c.ask_one.new.settler c.ask_one.new.host) c.ask_one.new.self x) (sym (q.1 ∙ ap Err q.2))
    (asks-from {T = Bool} g.H.Host.tells (program_tree c.args.checked.now) c.args.index (stage_of g.H.Host.world g.H.Host.faults (run_of c.args.core.now) c.args.settler.now c.args.host.now) c.args.self.now (record c.args.self.now { agents = c.has_grain.new.self; sure = 0 }) (stage_of g.H.Host.world g.H.Host.faults (run_of c.ask_one.new.core) c.ask_one.new.settler c.ask_one.new.host) c.ask_one.new.self (Err c.in_err-ask_one.field-0.0) (units-same c.has_grain.new.self.list.items c.args.self.now.agents.list.items c.has_grain.ensures.units) refl refl
    (subst (λ (r : Run). AsksOne {T = Bool} g.H.Host.tells (program_tree c.args.checked.now) c.args.index (record (stage_of g.H.Host.world g.H.Host.faults (run_of c.args.core.now) c.args.settler.now c.args.host.now) { run = r }) (record c.args.self.now { agents = c.has_grain.new.self; sure = 0 }) (stage_of g.H.Host.world g.H.Host.faults (run_of c.ask_one.new.core) c.ask_one.new.settler c.ask_one.new.host) c.ask_one.new.self (Err c.in_err-ask_one.field-0.0)) (sight-run (run_of c.args.core.now) (run_of c.has_grain.new.access) c.has_grain.ensures.same)
    (asks-failed {T = Unit} {U = Bool} g.H.Host.tells (program_tree c.args.checked.now) c.args.index (stage_of g.H.Host.world g.H.Host.faults (run_of c.has_grain.new.access) c.args.settler.now c.args.host.now) (record c.args.self.now { agents = c.has_grain.new.self; sure = 0 }) (stage_of g.H.Host.world g.H.Host.faults (run_of c.ask_one.new.core) c.ask_one.new.settler c.ask_one.new.host) c.ask_one.new.self c.in_err-ask_one.field-0.0 failed)))

pub returns-clause-asks : goal.returns-clause-asks
returns-clause-asks g c =
    let told : AsksOne {T = Unit} g.H.Host.tells (program_tree c.args.checked.now) c.args.index (stage_of g.H.Host.world g.H.Host.faults (run_of c.has_grain.new.access) c.args.settler.now c.args.host.now) (record c.args.self.now { agents = c.has_grain.new.self; sure = 0 }) (stage_of g.H.Host.world g.H.Host.faults (run_of c.ask_one.new.core) c.ask_one.new.settler c.ask_one.new.host) c.ask_one.new.self (Ok tt) =
    subst (λ (x : Result Unit RunFault). AsksOne {T = Unit} g.H.Host.tells (program_tree c.args.checked.now) c.args.index (stage_of g.H.Host.world g.H.Host.faults (run_of c.has_grain.new.access) c.args.settler.now c.args.host.now) (record c.args.self.now { agents = c.has_grain.new.self; sure = 0 }) (stage_of g.H.Host.world g.H.Host.faults (run_of c.ask_one.new.core) c.ask_one.new.settler c.ask_one.new.host) c.ask_one.new.self x) c.in_ok-ask_one.was c.ask_one.ensures.asks in
    asks-from {T = Bool} g.H.Host.tells (program_tree c.args.checked.now) c.args.index (stage_of g.H.Host.world g.H.Host.faults (run_of c.args.core.now) c.args.settler.now c.args.host.now) c.args.self.now (record c.args.self.now { agents = c.has_grain.new.self; sure = 0 }) (stage_of g.H.Host.world g.H.Host.faults (run_of c.ask_one.new.core) c.ask_one.new.settler c.ask_one.new.host) c.ask_one.new.self (Ok false) (units-same c.has_grain.new.self.list.items c.args.self.now.agents.list.items c.has_grain.ensures.units) refl refl
    (subst (λ (r : Run). AsksOne {T = Bool} g.H.Host.tells (program_tree c.args.checked.now) c.args.index (record (stage_of g.H.Host.world g.H.Host.faults (run_of c.args.core.now) c.args.settler.now c.args.host.now) { run = r }) (record c.args.self.now { agents = c.has_grain.new.self; sure = 0 }) (stage_of g.H.Host.world g.H.Host.faults (run_of c.ask_one.new.core) c.ask_one.new.settler c.ask_one.new.host) c.ask_one.new.self (Ok false)) (sight-run (run_of c.args.core.now) (run_of c.has_grain.new.access) c.has_grain.ensures.same)
    (asks-told {T = Unit} {U = Bool} g.H.Host.tells (program_tree c.args.checked.now) c.args.index (stage_of g.H.Host.world g.H.Host.faults (run_of c.has_grain.new.access) c.args.settler.now c.args.host.now) (record c.args.self.now { agents = c.has_grain.new.self; sure = 0 }) (stage_of g.H.Host.world g.H.Host.faults (run_of c.ask_one.new.core) c.ask_one.new.settler c.ask_one.new.host) c.ask_one.new.self tt false told))

-- what it leaves
pub returns-then-is_sure-clause-leaves : goal.returns-then-is_sure-clause-leaves
returns-then-is_sure-clause-leaves g c = record { same = refl; front = refl; begun = refl; used = refl; shape = refl; doubted = refl }

pub returns-in_err-here-clause-leaves : goal.returns-in_err-here-clause-leaves
returns-in_err-here-clause-leaves g c = record { same = c.has_grain.ensures.units; front = refl; begun = refl; used = refl; shape = refl; doubted = refl }

pub returns-then-here-clause-leaves : goal.returns-then-here-clause-leaves
returns-then-here-clause-leaves g c = record { same = c.has_grain.ensures.units; front = refl; begun = refl; used = refl; shape = refl; doubted = refl }

pub returns-in_err-ask_one-clause-leaves : goal.returns-in_err-ask_one-clause-leaves
returns-in_err-ask_one-clause-leaves g c = record { same = c.ask_one.ensures.leaves.same ∙ c.has_grain.ensures.units; front = c.ask_one.ensures.leaves.front; begun = c.ask_one.ensures.leaves.begun; used = c.ask_one.ensures.leaves.used; shape = c.ask_one.ensures.leaves.shape; doubted = c.ask_one.ensures.leaves.doubted }

pub returns-clause-leaves : goal.returns-clause-leaves
returns-clause-leaves g c = record { same = c.ask_one.ensures.leaves.same ∙ c.has_grain.ensures.units; front = c.ask_one.ensures.leaves.front; begun = c.ask_one.ensures.leaves.begun; used = c.ask_one.ensures.leaves.used; shape = c.ask_one.ensures.leaves.shape; doubted = c.ask_one.ensures.leaves.doubted }

pub returns-then-is_sure-clause-units : goal.returns-then-is_sure-clause-units
returns-then-is_sure-clause-units g c = c.requires.units

pub returns-then-is_sure-clause-space : goal.returns-then-is_sure-clause-space
returns-then-is_sure-clause-space g c = c.requires.space

pub returns-then-is_sure-clause-safe : goal.returns-then-is_sure-clause-safe
returns-then-is_sure-clause-safe g c = record { safe = c.requires.safe; ready = λ file was. was }

pub returns-in_err-here-clause-units : goal.returns-in_err-here-clause-units
returns-in_err-here-clause-units g c = let q = err_from_is_err_and c.from_residual.result c.from_residual.ensures.1 in rw q.1 tt

pub returns-in_err-here-clause-space : goal.returns-in_err-here-clause-space
returns-in_err-here-clause-space g c = let q = err_from_is_err_and c.from_residual.result c.from_residual.ensures.1 in rw q.1 tt

pub returns-in_err-here-clause-lacks : goal.returns-in_err-here-clause-lacks
returns-in_err-here-clause-lacks g c = let q = err_from_is_err_and c.from_residual.result c.from_residual.ensures.1 in rw q.1 tt

pub returns-in_err-here-clause-safe : goal.returns-in_err-here-clause-safe
returns-in_err-here-clause-safe g c = record { safe = c.requires.safe; ready = λ file was. was }

pub returns-then-here-clause-safe : goal.returns-then-here-clause-safe
returns-then-here-clause-safe g c = record { safe = c.requires.safe; ready = λ file was. was }

pub returns-in_err-ask_one-clause-units : goal.returns-in_err-ask_one-clause-units
returns-in_err-ask_one-clause-units g c = let q = err_from_is_err_and c.from_residual-in_err-ask_one.result c.from_residual-in_err-ask_one.ensures.1 in rw q.1 tt

pub returns-in_err-ask_one-clause-space : goal.returns-in_err-ask_one-clause-space
returns-in_err-ask_one-clause-space g c = let q = err_from_is_err_and c.from_residual-in_err-ask_one.result c.from_residual-in_err-ask_one.ensures.1 in rw q.1 tt

pub returns-in_err-ask_one-clause-lacks : goal.returns-in_err-ask_one-clause-lacks
returns-in_err-ask_one-clause-lacks g c = let q = err_from_is_err_and c.from_residual-in_err-ask_one.result c.from_residual-in_err-ask_one.ensures.1 in rw q.1 tt

pub returns-in_err-ask_one-clause-safe : goal.returns-in_err-ask_one-clause-safe
returns-in_err-ask_one-clause-safe g c = c.ask_one.ensures.safe

pub returns-clause-units : goal.returns-clause-units
returns-clause-units g c = c.in_ok-ask_one.ensures.units

pub returns-clause-space : goal.returns-clause-space
returns-clause-space g c = λ some. let none = c.ask_one.ensures.unsure in absurd (omega (arith, some, none))

pub returns-clause-lacks : goal.returns-clause-lacks
returns-clause-lacks g c = λ is. cc

pub returns-clause-safe : goal.returns-clause-safe
returns-clause-safe g c = c.ask_one.ensures.safe

pub ask_one-requires-clause-within : goal.ask_one-requires-clause-within
ask_one-requires-clause-within g c =
    let many = many-same c.has_grain.new.self.list.items c.args.self.now.agents.list.items c.has_grain.ensures.units in
    let within = c.requires.within in
    omega (arith, many, within)

pub ask_one-requires-clause-front : goal.ask_one-requires-clause-front
ask_one-requires-clause-front g c = c.requires.front

pub ask_one-requires-clause-unsure : goal.ask_one-requires-clause-unsure
ask_one-requires-clause-unsure g c = refl

pub ask_one-requires-clause-shape : goal.ask_one-requires-clause-shape
ask_one-requires-clause-shape g c = c.requires.shape

pub ask_one-requires-clause-safe : goal.ask_one-requires-clause-safe
ask_one-requires-clause-safe g c = c.requires.safe

pub has_grain-requires-clause-carried : goal.has_grain-requires-clause-carried
has_grain-requires-clause-carried g c = c.requires.units.carried

pub has_grain-requires-clause-within : goal.has_grain-requires-clause-within
has_grain-requires-clause-within g c = c.requires.within
