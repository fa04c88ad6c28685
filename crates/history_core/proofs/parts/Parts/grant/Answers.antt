use Rattle.std.proofs.Common.{◌≡◌, ◌∙◌, sym, ap, not, find, map, false, Some, List}
use Rattle.base_types.specs.declared.calls.UnitNo.{UnitNo}
use Rattle.base_types.specs.declared.stores.Version.{Version}
use Rattle.cell_model.specs.Cells.{Cell, cell_granted}
use Rattle.cell_model.specs.Locks.{ask, holds_lock}
use Rattle.cell_model.specs.Stacks.{top}
use Rattle.core_model.specs.declared.effects.Read.{Read}
use Rattle.core_model.specs.declared.phases.Verdict.{Verdict}
use Rattle.core_model.specs.Tests.{is_aborted}
use Rattle.core_model.specs.declared.events.CoreEvent.TheVariants.{Grant}
use Rattle.core_model.specs.declared.events.CoreReply.TheVariants as reply
use Rattle.grain_cell.specs.Room.{without_aborted, writers}
use Rattle.core_model.specs.CoreState.{put_grain}
use Rattle.cell_table.specs.Table.{cell_in, cell_or, cells_kept}
use Rattle.unit_table.specs.Table.{verdict_in}
use Rattle.history_core.specs.declared.parts.Parts.{Parts}
use Rattle.history_core.specs.Grants.{Cleans, cell_without}
use Rattle.history_core.proofs.SameMeaning.{keeps-cells, keeps-units, keeps-does, always-err}
use Rattle.history_core.proofs.Grants.{changes-lock, does-lock, does-raise, free-here, here-there}
use Rattle.history_core.proofs.parts.Parts.grant.Goals as goal

pub make_room-requires : goal.make_room-requires
make_room-requires c = here-there c.args.self.now c.args.unit c.args.grain c.args.mode c.requires.can

pub returns-in_err-make_room-clause-err : goal.returns-in_err-make_room-clause-err
returns-in_err-make_room-clause-err c = always-err c.from_residual.result _ (keeps-cells c.args.self.now c.make_room.new.self c.make_room.ensures.kept c.make_room.ensures.recent c.make_room.ensures.opens)

pub returns-in_default-clause-err : goal.returns-in_default-clause-err
returns-in_default-clause-err c = keeps-cells c.args.self.now c.make_room.new.self c.make_room.ensures.kept c.make_room.ensures.recent c.make_room.ensures.opens

pub returns-in_err-found-clause-err : goal.returns-in_err-found-clause-err
returns-in_err-found-clause-err c = always-err c.from_residual-in_err-found.result _ (keeps-cells c.args.self.now c.make_room.new.self c.make_room.ensures.kept c.make_room.ensures.recent c.make_room.ensures.opens)

pub lock_over-requires-clause-free : goal.lock_over-requires-clause-free
lock_over-requires-clause-free c =
    (λ i. ask (cell_or (c.make_room.ensures.kept i c.args.grain) ((c.make_room.ensures.opens i).states c.args.grain)).holds c.args.unit c.args.mode)
    ∙ free-here c.args.self.now c.args.unit c.args.grain c.args.mode c.requires.can

pub returns-then-is_held_by-clause-ok : goal.returns-then-is_held_by-clause-ok
returns-then-is_held_by-clause-ok c =
    let old = c.args.self.now in
    let mid : Parts = record old { cells = c.make_room.new.self } in
    let new : Parts = record old { cells = c.lock_over.new.cells } in
    let found : Version = record { unit = c.in_ok-found.found.source; state = c.in_ok-found.found.state } in
    let here : c.in-Some.cell.now.cell ≡ cell_in c.make_room.new.self c.args.grain = c.in-Some.ensures in
    let cleans : Cleans mid c.args.grain c.first_aborted-aborted.result =
    c.first_aborted-aborted.ensures ∙ ap (λ (vs : List Version). find (λ u. is_aborted (verdict_in old.units u)) (map (λ (v : Version). v.unit) vs)) c.versions.ensures
    ∙ ap (λ (k : Cell). find (λ u. is_aborted (verdict_in old.units u)) (writers k.stack)) here in
    keeps-does old mid (keeps-cells old c.make_room.new.self c.make_room.ensures.kept c.make_room.ensures.recent c.make_room.ensures.opens) (Grant c.args.unit c.args.grain c.args.mode) (reply.Granted found.state found.unit) new
    (does-raise mid c.args.unit c.args.grain c.args.mode c.first_aborted-aborted.result c.lock_over.new.cells found cleans (ap (λ (k : Cell). holds_lock c.args.unit k.holds) (sym here) ∙ sym c.is_held_by.ensures ∙ c.if-is_held_by.true) c.lock_over.ensures.locks c.lock_over.ensures.recent c.lock_over.ensures.opens (c.in_ok-found.ensures ∙ ap (λ (k : Cell). top (without_aborted c.first_aborted-aborted.result k.stack)) here))

pub lock_first-requires-clause-can : goal.lock_first-requires-clause-can
lock_first-requires-clause-can c =
    let old = c.args.self.now in
    let k = c.requires.can in
    (k.0, keeps-cells old c.make_room.new.self c.make_room.ensures.kept c.make_room.ensures.recent c.make_room.ensures.opens k.0 k.1, k.2, k.3)

pub lock_first-requires-clause-first : goal.lock_first-requires-clause-first
lock_first-requires-clause-first c =
    let here : c.in-Some.cell.now.cell ≡ cell_in c.make_room.new.self c.args.grain = c.in-Some.ensures in
    ap (λ (k : Cell). holds_lock c.args.unit k.holds) (sym here) ∙ sym c.is_held_by.ensures ∙ c.if-is_held_by.false

pub lock_first-requires-clause-cleans : goal.lock_first-requires-clause-cleans
lock_first-requires-clause-cleans c =
    let old = c.args.self.now in
    let here : c.in-Some.cell.now.cell ≡ cell_in c.make_room.new.self c.args.grain = c.in-Some.ensures in
    c.first_aborted-aborted.ensures ∙ ap (λ (vs : List Version). find (λ u. is_aborted (verdict_in old.units u)) (map (λ (v : Version). v.unit) vs)) c.versions.ensures
    ∙ ap (λ (k : Cell). find (λ u. is_aborted (verdict_in old.units u)) (writers k.stack)) here

pub lock_first-requires-clause-newest : goal.lock_first-requires-clause-newest
lock_first-requires-clause-newest c =
    let here : c.in-Some.cell.now.cell ≡ cell_in c.make_room.new.self c.args.grain = c.in-Some.ensures in
    c.in_ok-found.ensures ∙ ap (λ (k : Cell). top (without_aborted c.first_aborted-aborted.result k.stack)) here

pub returns-in_err-lock_first-clause-err : goal.returns-in_err-lock_first-clause-err
returns-in_err-lock_first-clause-err c =
    let old = c.args.self.now in
    let roomy = c.make_room.ensures in
    always-err c.from_residual-in_err-lock_first.result _ (λ w s. c.in_err-lock_first.ensures.err w (keeps-cells old c.make_room.new.self roomy.kept roomy.recent roomy.opens w s))

pub returns-clause-ok : goal.returns-clause-ok
returns-clause-ok c =
    let old = c.args.self.now in
    let mid : Parts = record old { cells = c.make_room.new.self } in
    let roomy = c.make_room.ensures in
    keeps-does old mid (keeps-cells old c.make_room.new.self roomy.kept roomy.recent roomy.opens) (Grant c.args.unit c.args.grain c.args.mode) (reply.Granted c.in_ok-found.found.state c.in_ok-found.found.source) c.lock_first.new.self c.in_ok-lock_first.ensures.ok
