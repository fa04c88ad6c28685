use Rattle.std.proofs.Common.{rules}
use Rattle.log_reading.specs.Steps.{seen_in}
use Rattle.log_reading.specs.Pieces.{IsTextIn}
use Rattle.log_reading.proofs.FilePieces.{text_in_image, weaker_ok}
use Rattle.log_reading.proofs.versions.next_version.Goals as goal

pub returns-in-Some-clause-found : goal.returns-in-Some-clause-found
returns-in-Some-clause-found g c =
    let image = seen_in (g.H.Host.world c.args.host.now).disk in
    let text : IsTextIn c.args.piece.now c.args.named c.in-Some.text.now = search rules in
    weaker_ok _ _ c.version_of.result (λ version found told. found image (text_in_image _ c.args.slot image c.args.piece.now c.args.named c.in-Some.text.now c.requires.piece text told)) c.version_of.ensures.found

pub returns-in-Some-clause-damaged : goal.returns-in-Some-clause-damaged
returns-in-Some-clause-damaged g c file place is told =
    let image = seen_in (g.H.Host.world c.args.host.now).disk in
    let text : IsTextIn c.args.piece.now c.args.named c.in-Some.text.now = search rules in
    c.version_of.ensures.damaged file place is image (text_in_image _ c.args.slot image c.args.piece.now c.args.named c.in-Some.text.now c.requires.piece text told)
