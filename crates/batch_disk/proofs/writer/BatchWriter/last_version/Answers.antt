use Rattle.std.proofs.Common.{◌≡◌, Some, if◌then◌else◌, refl, sym, ◌∙◌, ap}
use Rattle.std.specs.Option.{option_copied}
use Rattle.std.proofs.lemmas.Result.{err_from_is_err_and}
use Rattle.base_types.specs.Places.{placed_in}
use Rattle.cell_model.specs.Units.{nobody}
use Rattle.batch_disk.proofs.LastReads.{last_told, read_failed}
use Rattle.batch_disk.proofs.writer.BatchWriter.last_version.Goals as goal

pub returns-in_default-clause-reads : goal.returns-in_default-clause-reads
returns-in_default-clause-reads g c shape = (sym c.get.ensures ∙ ap option_copied c.in_default.is, refl)

pub returns-in_err-unit-clause-reads : goal.returns-in_err-unit-clause-reads
returns-in_err-unit-clause-reads g c shape =
    let e = err_from_is_err_and c.from_residual.result c.from_residual.ensures.1 in
    let p = c.in-Some.placed.now in
    let a = c.args.self.now in
    let placed : placed_in a.places c.args.grain ≡ Some p = sym c.get.ensures ∙ ap option_copied c.in-Some.is in
    rw (e.1, e.2) (read_failed g.H.Host.tells g.H.Host.world g.H.Host.faults a.slot shape c.args.grain a c.args.host.now c.read_version.new.host p placed c.shape-shape.result.now c.shape-shape.ensures c.in_err-unit.field-0.0 c.in_err-unit.ensures.read c.in_err-unit.ensures.calls.fault)

pub returns-in_err-carried-clause-reads : goal.returns-in_err-carried-clause-reads
returns-in_err-carried-clause-reads g c shape =
    let e = err_from_is_err_and c.from_residual-in_err-carried.result c.from_residual-in_err-carried.ensures.1 in
    rw (e.1, e.2) c.in_ok-unit.ensures.calls.calm

pub returns-clause-reads : goal.returns-clause-reads
returns-clause-reads g c shape =
    let p = c.in-Some.placed.now in
    let a = c.args.self.now in
    let read = c.in_ok-unit.field-0 in
    let placed : placed_in a.places c.args.grain ≡ Some p = sym c.get.ensures ∙ ap option_copied c.in-Some.is in
    let owned : c.owner_told.result ≡ (if p.is_new then read.unit else nobody) = c.owner_told.ensures in
    record {
      p = p;
      placed = placed;
      typed = c.in_ok-carried.ensures.typed;
      older = λ old. owned ∙ ap (λ b. if b then read.unit else nobody) old;
      told = λ told stand. last_told a.slot shape c.args.grain a (g.H.Host.world c.args.host.now).disk p placed c.shape-shape.result.now c.shape-shape.ensures read c.owner_told.result c.in_ok-carried.field-0 (c.in_ok-unit.ensures.read told) owned c.in_ok-carried.ensures.carried stand;
      calm = c.in_ok-unit.ensures.calls.calm;
    }
