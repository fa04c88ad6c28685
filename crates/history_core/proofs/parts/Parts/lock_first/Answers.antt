use Rattle.std.proofs.Common.{◌≡◌, ◌∙◌, sym, ap, not, find, map, false, Some, List}
use Rattle.base_types.specs.declared.calls.UnitNo.{UnitNo}
use Rattle.base_types.specs.declared.stores.Version.{Version}
use Rattle.cell_model.specs.Cells.{Cell, cell_granted}
use Rattle.cell_model.specs.Locks.{ask, holds_lock}
use Rattle.cell_model.specs.Stacks.{top}
use Rattle.core_model.specs.declared.effects.Read.{Read}
use Rattle.core_model.specs.declared.phases.Verdict.{Verdict}
use Rattle.core_model.specs.Tests.{is_aborted}
use Rattle.core_model.specs.declared.events.CoreEvent.TheVariants.{Grant}
use Rattle.core_model.specs.declared.events.CoreReply.TheVariants as reply
use Rattle.grain_cell.specs.Room.{without_aborted, writers}
use Rattle.core_model.specs.CoreState.{put_grain}
use Rattle.cell_table.specs.Table.{cell_in, cell_or, cells_kept}
use Rattle.unit_table.specs.Table.{verdict_in}
use Rattle.history_core.specs.declared.parts.Parts.{Parts}
use Rattle.history_core.specs.Grants.{Cleans, cell_without}
use Rattle.history_core.proofs.SameMeaning.{keeps-cells, keeps-units, keeps-does, always-err}
use Rattle.history_core.proofs.Grants.{changes-lock, does-lock, does-raise, free-here, here-there}
use Rattle.history_core.proofs.parts.Parts.lock_first.Goals as goal

pub lock_over-requires-clause-free : goal.lock_over-requires-clause-free
lock_over-requires-clause-free c =
    (λ i. ask (cell_or (c.touch.ensures.kept i c.args.grain) ((c.touch.ensures.opens i).states c.args.grain)).holds c.args.unit c.args.mode)
    ∙ free-here c.args.self.now c.args.unit c.args.grain c.args.mode c.requires.can

pub returns-in_err-reserve_read-clause-err : goal.returns-in_err-reserve_read-clause-err
returns-in_err-reserve_read-clause-err c =
    always-err c.from_residual.result _ (keeps-units c.args.self.now c.reserve_read.new.self c.reserve_read.ensures.same)

pub returns-in_err-copy-clause-err : goal.returns-in_err-copy-clause-err
returns-in_err-copy-clause-err c = always-err c.from_residual-in_err-copy.result _ (keeps-units c.args.self.now c.reserve_read.new.self c.reserve_read.ensures.same)

pub returns-in_err-left-clause-err : goal.returns-in_err-left-clause-err
returns-in_err-left-clause-err c =
    let old = c.args.self.now in
    let read : Parts = record old { units = c.reserve_read.new.self } in
    let used = c.touch.ensures in
    always-err c.from_residual-in_err-left.result _ (λ w s. keeps-cells read c.touch.new.self used.kept c.in_err-left.ensures.unused used.opens w (keeps-units old c.reserve_read.new.self c.reserve_read.ensures.same w s))

pub returns-clause-ok : goal.returns-clause-ok
returns-clause-ok c =
    let old = c.args.self.now in
    let mid : Parts = record old { units = c.reserve_read.new.self } in
    let new : Parts = record old { cells = c.evict_left.new.cells; units = c.note_read.new.self } in
    let found : Version = record { unit = c.args.found.now.source; state = c.args.found.now.state } in
    let read : Read = record { grain = c.args.grain; state = c.in_ok-copy.field-0; source = c.args.found.now.source } in
    let cleans : Cleans mid c.args.grain c.args.aborted =
    c.requires.cleans ∙ ap (λ (v : UnitNo → Verdict). find (λ u. is_aborted (v u)) (writers (cell_in old.cells c.args.grain).stack)) (sym c.reserve_read.ensures.same.verdict) in
    let used = c.touch.ensures in
    let locks : cells_kept c.lock_over.new.cells ≡ put_grain (cells_kept old.cells) c.args.grain (Some (cell_granted (cell_without (cell_in old.cells c.args.grain) c.args.aborted) c.args.unit c.args.mode)) =
    c.lock_over.ensures.locks
    ∙ (λ i. put_grain (used.kept i) c.args.grain (Some (cell_granted (cell_without (cell_or (used.kept i c.args.grain) ((used.opens i).states c.args.grain)) c.args.aborted) c.args.unit c.args.mode))) in
    let changes = changes-lock mid c.args.unit c.args.grain c.args.mode c.args.aborted c.lock_over.new.cells c.note_read.new.self found read (not c.is_sure-depends.result) cleans
    c.requires.first locks (c.lock_over.ensures.recent ∙ c.in_ok-left.ensures.used) (c.lock_over.ensures.opens ∙ used.opens)
    c.requires.newest
    (λ i. record { grain = c.args.grain; state = c.in_ok-copy.ensures i; source = c.args.found.now.source })
    (ap not c.is_sure-depends.ensures) c.note_read.ensures.units c.note_read.ensures.verdict c.note_read.ensures.result in
    keeps-does old mid (keeps-units old c.reserve_read.new.self c.reserve_read.ensures.same)
    (Grant c.args.unit c.args.grain c.args.mode) (reply.Granted found.state found.unit) new
    (does-lock mid c.args.unit c.args.grain c.args.mode c.lock_over.new.cells c.evict_left.new.cells c.note_read.new.self (reply.Granted found.state found.unit) c.wants.result.now c.in_ok-left.left
    c.requires.first changes c.in_ok-left.ensures.left c.wants.ensures c.evict_left.ensures.evicts c.evict_left.ensures.recent c.evict_left.ensures.opens)

pub returns-in_err-left-clause-opens : goal.returns-in_err-left-clause-opens
returns-in_err-left-clause-opens c = c.touch.ensures.opens

pub returns-clause-opens : goal.returns-clause-opens
returns-clause-opens c = c.evict_left.ensures.opens ∙ c.lock_over.ensures.opens ∙ c.touch.ensures.opens
