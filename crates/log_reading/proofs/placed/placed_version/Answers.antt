use Rattle.std.proofs.Common.{rules, ◌≡◌, slice_get, Some, None, Err, refl, sym, ◌∙◌, subst}
use Rattle.grain_log.specs.Reads.{GivesVersion}
use Rattle.log_reading.specs.declared.faults.FolderFault.{FolderFault}
use Rattle.log_reading.specs.Counts.{ReadFaulted}
use Rattle.log_reading.specs.Steps.{seen_in}
use Rattle.log_reading.specs.PlacedVersions.{placed_numbered, IsUnreadAt}
use Rattle.log_reading.proofs.PlacedVersions.{placed_by, placed_by_none, unread_there, faulted_there, typed_there}
use Rattle.log_reading.proofs.placed.placed_version.Goals as goal

pub returns-in-Ok-clause-found : goal.returns-in-Ok-clause-found
returns-in-Ok-clause-found g c told =
    let at : slice_get c.args.shapes.now c.args.placed.now.program ≡ Some c.in-Some.shape.now = sym c.in-Some.ensures in
    placed_by c.args.slot c.args.format c.args.shapes.now (seen_in (g.H.Host.world c.args.host.now).disk) c.args.grain c.args.placed.now c.in-Some.shape.now at ∙ (c.in-Ok.ensures.read told).exact

pub returns-in-Ok-clause-typed : goal.returns-in-Ok-clause-typed
returns-in-Ok-clause-typed g c programs are =
    let at : slice_get c.args.shapes.now c.args.placed.now.program ≡ Some c.in-Some.shape.now = sym c.in-Some.ensures in
    typed_there programs c.args.shapes.now c.args.placed.now.program c.in-Some.shape.now c.args.grain c.args.format c.args.placed.now.place.len c.in-Ok.version are at c.in-Ok.ensures.shaped

pub returns-in-Err-clause-unread : goal.returns-in-Err-clause-unread
returns-in-Err-clause-unread g c told =
    let shapes = c.args.shapes.now in
    let placed = c.args.placed.now in
    let image = seen_in (g.H.Host.world c.args.host.now).disk in
    let fault = c.in-Err.fault in
    let at : slice_get shapes placed.program ≡ Some c.in-Some.shape.now = sym c.in-Some.ensures in
    let gives : GivesVersion (Err fault) (placed_numbered c.args.slot c.args.format shapes image c.args.grain placed) =
    subst (GivesVersion (Err fault)) (sym (placed_by c.args.slot c.args.format shapes image c.args.grain placed c.in-Some.shape.now at)) (c.in-Err.ensures.read told).exact in
    subst (λ (e : FolderFault). IsUnreadAt c.args.slot c.args.format shapes image c.args.grain (Some placed) e) (sym c.fault_of.ensures)
    (unread_there c.args.slot c.args.format shapes image c.args.grain placed (Some placed) fault refl gives)

pub returns-in-Err-clause-calls : goal.returns-in-Err-clause-calls
returns-in-Err-clause-calls g c = record {
  ready = c.read_version.ensures.calls.ready;
  calm = tt;
  fault = subst (λ (e : FolderFault). ReadFaulted e (g.H.Host.faults c.args.host.now) (g.H.Host.faults c.read_version.new.host)) (sym c.fault_of.ensures) (faulted_there c.args.slot c.args.grain c.in-Err.fault _ _ c.in-Err.ensures.calls.fault);
}

pub returns-in_default-clause-unread : goal.returns-in_default-clause-unread
returns-in_default-clause-unread g c told =
    let none : slice_get c.args.shapes.now c.args.placed.now.program ≡ None = search rules in
    (refl, (c.args.placed.now, refl, placed_by_none c.args.slot c.args.format c.args.shapes.now (seen_in (g.H.Host.world c.args.host.now).disk) c.args.grain c.args.placed.now none))
