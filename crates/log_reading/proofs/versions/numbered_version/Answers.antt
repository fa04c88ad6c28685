use Rattle.std.proofs.Common.{rules, ◌≡◌, slice_get, ℕ, Some, None, Err, sym, ◌∙◌, ap}
use Rattle.std.proofs.lemmas.Option.{slice_get_within}
use Rattle.base_types.specs.declared.stores.Version.{Version}
use Rattle.log_reading.specs.Steps.{seen_in}
use Rattle.log_reading.proofs.FilePieces.{weaker_ok}
use Rattle.log_reading.proofs.NamedVersions.{numbered_by, numbered_none}
use Rattle.log_reading.proofs.versions.numbered_version.Goals as goal

pub returns-in_default-clause-damaged : goal.returns-in_default-clause-damaged
returns-in_default-clause-damaged g c file place is told =
    let none : slice_get c.args.shapes.now c.args.named.program ≡ None = search rules in
    let same : c.args.named.written.place.offset ≡ place = cc is in
    numbered_none c.args.slot c.args.format c.args.shapes.now (seen_in (g.H.Host.world c.args.host.now).disk) c.args.named none ∙ ap (λ (n : ℕ). Err n) same

pub returns-clause-found : goal.returns-clause-found
returns-clause-found g c =
    let at : slice_get c.args.shapes.now c.args.named.program ≡ Some c.in-Some.shape.now = sym c.in-Some.ensures in
    weaker_ok _ _ c.next_version.result (λ (version : Version) found told. numbered_by c.args.slot c.args.format c.args.shapes.now (seen_in (g.H.Host.world c.args.host.now).disk) c.args.named c.in-Some.shape.now at ∙ found told) c.next_version.ensures.found

pub returns-clause-damaged : goal.returns-clause-damaged
returns-clause-damaged g c file place is told =
    let at : slice_get c.args.shapes.now c.args.named.program ≡ Some c.in-Some.shape.now = sym c.in-Some.ensures in
    numbered_by c.args.slot c.args.format c.args.shapes.now (seen_in (g.H.Host.world c.args.host.now).disk) c.args.named c.in-Some.shape.now at ∙ c.next_version.ensures.damaged file place is told

pub returns-clause-numbered : goal.returns-clause-numbered
returns-clause-numbered g c =
    let low = slice_get_within c.args.shapes.now c.args.named.program c.in-Some.shape.now (sym c.in-Some.ensures) in
    weaker_ok _ _ c.next_version.result (λ (version : Version) near. low) c.next_version.ensures.near
