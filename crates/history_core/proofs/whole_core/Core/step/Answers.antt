use Rattle.std.proofs.Common.{◌≡◌, ◌∙◌, ◌∷◌, [], ap}
use Rattle.core_model.specs.CoreState.{CoreState}
use Rattle.core_model.specs.Events.{reply_to}
use Rattle.core_model.specs.Laws.{extended}
use Rattle.core_model.specs.LegalRuns.{Run, ends}
use Rattle.cell_table.specs.Table.{opens_with}
use Rattle.history_core.specs.Cores.{CoreData, run_of}
use Rattle.history_core.specs.Histories.{run_with}
use Rattle.history_core.proofs.LineNumbers.{few-after, few-before}
use Rattle.history_core.proofs.OneEvent.{stands-after, stands-before, reached-core}
use Rattle.history_core.proofs.whole_core.Core.step.Goals as goal

pub step-requires : goal.step-requires
step-requires c =
    let old = c.self.inside in
    record { kept = (ends (run_with old.base old.kinds old.parts.cells old.history.events), c.self.invariant.stands, reached-core old.parts old.base old.kinds old.history.events c.self.invariant.above) }

pub invariant_of-self : goal.invariant_of-self
invariant_of-self c =
    let old = c.self.inside in
    let w : CoreState = ends (run_with old.base old.kinds old.parts.cells old.history.events) in
    record {
      above = c.self.invariant.above;
      stands = stands-after old.parts c.step.new.self old.base old.kinds old.history.events c.with-after.result.events c.args.event c.step.ensures.opens c.with-after.ensures
          (c.in-Ok.ensures.ok w c.self.invariant.stands (reached-core old.parts old.base old.kinds old.history.events c.self.invariant.above)).0;
      few = few-after old.parts c.step.new.self old.base old.kinds old.history.events c.with-after.result.events c.args.event c.step.ensures.opens c.with-after.ensures c.fits_event.ensures c.self.invariant.few;
    }

pub returns-in-Ok-clause-taken : goal.returns-in-Ok-clause-taken
returns-in-Ok-clause-taken c =
    let old = c.self.inside in
    let e = c.args.event in
    let w : CoreState = ends (run_with old.base old.kinds old.parts.cells old.history.events) in
    let longer : ◌≡◌ {A = Run} (record { base = old.base; kinds = old.kinds; capacity = (opens_with c.step.new.self.cells).limit; opening = (opens_with c.step.new.self.cells).states; events = c.with-after.result.events }) (extended (run_with old.base old.kinds old.parts.cells old.history.events) (e ∷ [])) =
    λ i. record { base = old.base; kinds = old.kinds; capacity = (c.step.ensures.opens i).limit; opening = (c.step.ensures.opens i).states; events = c.with-after.ensures i } in (
      longer ∙ ap (λ (d : CoreData). extended (run_of d) (e ∷ [])) c.self.view_is,
      (c.in-Ok.ensures.ok w c.self.invariant.stands (reached-core old.parts old.base old.kinds old.history.events c.self.invariant.above)).1 ∙ ap (λ (d : CoreData). reply_to (ends (run_of d)) e) c.self.view_is,
    )

pub returns-in-Err-clause-refused : goal.returns-in-Err-clause-refused
returns-in-Err-clause-refused c =
    let old = c.self.inside in
    let same : ◌≡◌ {A = Run} (record { base = old.base; kinds = old.kinds; capacity = (opens_with c.step.new.self.cells).limit; opening = (opens_with c.step.new.self.cells).states; events = old.history.events }) (run_with old.base old.kinds old.parts.cells old.history.events) =
    λ i. record { base = old.base; kinds = old.kinds; capacity = (c.step.ensures.opens i).limit; opening = (c.step.ensures.opens i).states; events = old.history.events } in (
      same ∙ ap (λ (d : CoreData). run_of d) c.self.view_is,
      c.in-Err.ensures.err.0,
      c.in-Err.ensures.err.1.1,
    )

pub returns-in-Ok-clause-few : goal.returns-in-Ok-clause-few
returns-in-Ok-clause-few c =
    let old = c.self.inside in
    let w : CoreState = ends (run_with old.base old.kinds old.parts.cells old.history.events) in
    let stands = stands-after old.parts c.step.new.self old.base old.kinds old.history.events c.with-after.result.events c.args.event c.step.ensures.opens c.with-after.ensures
    (c.in-Ok.ensures.ok w c.self.invariant.stands (reached-core old.parts old.base old.kinds old.history.events c.self.invariant.above)).0 in
    record {
      units = stands.numbers;
      lines = few-after old.parts c.step.new.self old.base old.kinds old.history.events c.with-after.result.events c.args.event c.step.ensures.opens c.with-after.ensures c.fits_event.ensures c.self.invariant.few;
    }

pub returns-in-Err-clause-few : goal.returns-in-Err-clause-few
returns-in-Err-clause-few c =
    let old = c.self.inside in
    let w : CoreState = ends (run_with old.base old.kinds old.parts.cells old.history.events) in
    record {
      units = (stands-before old.parts c.step.new.self old.base old.kinds old.history.events c.step.ensures.opens (c.in-Err.ensures.err.1.0 w c.self.invariant.stands)).numbers;
      lines = few-before old.parts c.step.new.self old.base old.kinds old.history.events c.step.ensures.opens c.self.invariant.few;
    }
