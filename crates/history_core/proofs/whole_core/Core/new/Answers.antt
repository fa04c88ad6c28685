use Rattle.std.proofs.Common.{◌≡◌, ◌∙◌, sym, ap, refl, subst, List, [], None, false}
use Rattle.base_types.specs.declared.calls.GrainId.{GrainId}
use Rattle.core_model.specs.declared.events.CoreEvent.{CoreEvent}
use Rattle.core_model.specs.Events.{run, start}
use Rattle.cell_table.specs.Table.{cells_kept, kept_by, opens_with, used_of}
use Rattle.history_core.specs.declared.parts.Parts.{Parts}
use Rattle.history_core.specs.KeptParts.{PartsStand}
use Rattle.history_core.proofs.LineNumbers.{few-new}
use Rattle.history_core.proofs.Openings.{stands-new}
use Rattle.history_core.proofs.whole_core.Core.new.Goals as goal

pub invariant_of-result : goal.invariant_of-result
invariant_of-result c =
    let p : Parts = record {
      units = c.new.result;
      cells = c.new-2.result;
      waiting = c.new-3.result;
      batches = 0;
      batch = None;
      doubt = false;
      entries = c.new-4.result;
      learn = c.new-5.result;
      last = c.new-6.result;
      handed = c.new-7.result;
    } in
    let cells : cells_kept p.cells ≡ (λ (g : GrainId). kept_by None p.cells.recent ((opens_with p.cells).states g)) =
    c.new-2.ensures.cells ∙ (λ i g. kept_by None (sym c.new-2.ensures.recent i) ((sym c.new-2.ensures.opens i).states g)) in
    let unused : used_of p.cells.recent ≡ [] = ap used_of c.new-2.ensures.recent ∙ c.requires.unused in
    let base = c.args.opened.next_unit.0 in
    record {
      above = c.requires.above;
      stands = subst (λ (es : List CoreEvent). PartsStand p (run (start base c.len-kinds.result (opens_with p.cells).limit (opens_with p.cells).states) es)) (sym c.new-history.ensures)
          (stands-new p base c.len-kinds.result c.new.ensures.units c.new.ensures.verdict c.new.ensures.result cells unused c.new-3.ensures.items refl refl refl c.new-4.ensures.entries c.new-4.ensures.emitted c.new-5.ensures c.new-6.ensures.none c.requires.few);
      few = few-new p base c.len-kinds.result c.new-history.result.events c.new-history.ensures;
    }

pub returns-clause-run : goal.returns-clause-run
returns-clause-run c = λ i. record { base = c.args.opened.next_unit.0; kinds = c.len-kinds.ensures i; capacity = (c.new-2.ensures.opens i).limit; opening = (c.new-2.ensures.opens i).states; events = c.new-history.ensures i }
