use Rattle.std.proofs.Common.{◌≡◌, ◌∙◌, sym, ap, refl, subst, Option, Some, IsSome}
use Rattle.cell_model.specs.Cells.{cell_released}
use Rattle.core_model.specs.CoreState.{put_grain, Value}
use Rattle.cell_table.specs.Table.{cell_in, cells_kept}
use Rattle.core_parts.specs.States.{handed_in}
use Rattle.unit_table.specs.Table.{phase_in}
use Rattle.history_core.specs.declared.parts.Parts.{Parts}
use Rattle.history_core.specs.Releases.{if_finished}
use Rattle.history_core.proofs.Releases.{changes-release, does-release, has-alone, has-lock}
use Rattle.history_core.proofs.parts.Parts.release.Goals as goal

pub release-requires-clause-holds : goal.release-requires-clause-holds
release-requires-clause-holds c = has-lock c.args.self.now c.args.unit c.args.grain c.requires.can

pub release-requires-clause-writes : goal.release-requires-clause-writes
release-requires-clause-writes c = λ some.
    has-alone c.args.self.now c.args.unit c.args.grain c.requires.can
    (subst IsSome (c.if_finished-new.ensures ∙ (λ i. if_finished (c.phase.ensures i) (c.take-kept.ensures.state i))) some)

pub returns-clause-ok : goal.returns-clause-ok
returns-clause-ok c =
    let old = c.args.self.now in
    let mid : Parts = record old { cells = c.release.new.self; handed = c.take-kept.new.self } in
    does-release old mid c.args.unit c.args.grain c.evict.new.self c.wants.result.now
    (changes-release old c.args.unit c.args.grain c.release.new.self c.take-kept.new.self c.take-kept.ensures.gone
    (c.release.ensures.releases ∙ ap (λ new. put_grain (cells_kept old.cells) c.args.grain (Some (cell_released (cell_in old.cells c.args.grain) c.args.unit new))) (c.if_finished-new.ensures ∙ (λ i. if_finished (c.phase.ensures i) (c.take-kept.ensures.state i))))
    c.release.ensures.recent c.release.ensures.opens)
    c.wants.ensures c.evict.ensures.evicts c.evict.ensures.recent c.evict.ensures.opens
