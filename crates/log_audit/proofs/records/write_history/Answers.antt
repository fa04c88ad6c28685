use Rattle.std.proofs.Common.{ℕ, List, [], refl, sym, subst}
use Rattle.std.specs.Prelude.{is_ok}
use Rattle.std.proofs.lemmas.Result.{err_from_is_err_and}
use Rattle.host_trait.specs.declared.channels.FileId.TheVariants.{Manager}
use Rattle.field_codec.specs.declared.formats.Format.TheVariants.{Two}
use Rattle.log_reading.specs.Sessions.{sessions_read}
use Rattle.log_reading.specs.Steps.{seen_in}
use Rattle.silo_opening.specs.OpenedSilo.{programs_of}
use Rattle.log_audit.specs.InForce.{types_in_force}
use Rattle.log_audit.specs.ReportOutput.{PutsPart}
use Rattle.log_audit.proofs.TextParts.{none_put, part_front}
use Rattle.log_audit.proofs.ReadEntries.{some_program, first_types}
use Rattle.log_audit.proofs.ReportTexts.{history_opened}
use Rattle.log_audit.proofs.records.write_history.Goals as goal

pub first_of-requires : goal.first_of-requires
first_of-requires g c = record { some = some_program c.args.opened c.requires.programs }

pub returns-in_err-first-clause-puts : goal.returns-in_err-first-clause-puts
returns-in_err-first-clause-puts g c =
    let r = err_from_is_err_and c.from_residual.result c.from_residual.ensures.1 in
    rw r.1 λ told o. part_front _ _ [] _ _ (none_put (g.H.Host.world c.args.host.now)) refl

pub returns-clause-puts : goal.returns-clause-puts
returns-clause-puts g c told o =
    let opened = c.args.opened in
    let image = seen_in (g.H.Host.world c.args.host.now).disk in
    let typed = first_types o.first o.read.entries (programs_of opened) (types_in_force c.in_ok-first.first) o.programs c.in_ok-first.ensures.same in
    subst (λ (l : List ℕ). PutsPart l (is_ok c.write_log.result) (g.H.Host.world c.args.host.now) (g.H.Host.world c.write_log.new.host)) (sym (history_opened image opened o (sessions_read Two o.first (image (Manager opened.slot))))) (c.write_log.ensures.puts told o.first typed o.read o.read_as)

pub returns-clause-ended : goal.returns-clause-ended
returns-clause-ended g c told o =
    let typed = first_types o.first o.read.entries (programs_of c.args.opened) (types_in_force c.in_ok-first.first) o.programs c.in_ok-first.ensures.same in
    c.write_log.ensures.ended told o.first typed o.read o.read_as
