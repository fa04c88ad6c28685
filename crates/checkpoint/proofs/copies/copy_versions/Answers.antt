use Rattle.std.proofs.Common.{◌≡◌, ◌+◌, ◌-◌, ◌<◌, ◌∷◌, ◌++◌, List, length, drop, get_or, None, Ok, refl, ◌∙◌, ap, arith}
use Rattle.std.proofs.lemmas.Result.{err_from_is_err_and}
use Rattle.base_types.specs.declared.stores.Version.{Version}
use Rattle.field_codec.specs.declared.formats.Format.TheVariants.{Two}
use Rattle.commit_log.specs.declared.records.Named.{Named}
use Rattle.log_reading.specs.declared.faults.FolderFault.{FolderFault}
use Rattle.log_reading.specs.Steps.{seen_in}
use Rattle.log_reading.specs.Versions.{version_numbered}
use Rattle.base_types.specs.declared.shapes.Shape.{Shape}
use Rattle.script_tree.specs.Programs.{ProgramTree}
use Rattle.program_file.specs.Succession.{shapes_in_turn}
use Rattle.program_file.specs.ProgramsInTurn.{programs_in}
use Rattle.log_reading.proofs.Errors.{other_value}
use Rattle.log_reading.proofs.RecordSums.{next_default}
use Rattle.checkpoint.specs.Steps.{MayBeAny}
use Rattle.checkpoint.proofs.GrainFiles.{none_copied, copied_on}
use Rattle.checkpoint.proofs.Copying.{first_copies, more_copies, copied_before, named_stays, next_there}
use Rattle.checkpoint.proofs.copies.copy_versions.Goals as goal

abbrev no_name : Named
no_name = record { unit = None; program = 0; written = record { grain = record { kind = 0; key = 0 }; place = record { offset = 0; len = 0 } } }

pub returns-in_err-named-clause-only : goal.returns-in_err-named-clause-only
returns-in_err-named-clause-only g c told =
    let x : Named = get_or c.loop-named.latest c.loop-named.named-index no_name in
    copied_on (1 - c.args.live) x.written.grain MayBeAny 1 _ _ _ (c.loop-named.invariant.only told) (c.copy_version.ensures.run told)

pub returns-in_err-named-clause-damaged : goal.returns-in_err-named-clause-damaged
returns-in_err-named-clause-damaged g c =
    let p = err_from_is_err_and c.from_residual.result c.from_residual.ensures.1 in
    let inv = c.loop-named.invariant in
    let i = c.loop-named.named-index in
    let now : List Named = c.loop-named.latest in
    let x : Named = get_or now i no_name in
    let shapes : List Shape = shapes_in_turn (programs_in c.args.programs.now) in
    let w0 = g.H.Host.world c.args.host.now in
    let w1 = g.H.Host.world c.loop-named.host in
    rw (p.1, p.2) λ file place is told each.
    let so_far = inv.copied told in
    let split : c.args.latest.now ≡ so_far.front ++ x ∷ drop (i + 1) now = so_far.split ∙ ap (λ (l : List Named). so_far.front ++ l) (next_default i now no_name (let within : i < length now = omega arith in within)) in
    let one = next_there (λ n. (version : Version) × (version_numbered c.args.live Two shapes (seen_in w0.disk) n ≡ Ok version)) c.args.latest.now so_far.front x (drop (i + 1) now) split each in
    c.in_err-named.ensures.damaged file place (other_value _ (FolderFault.Damaged file place) is) told one.0 (named_stays c.args.live shapes w0 w1 x c.requires.slot (inv.only told) ∙ one.1)

pub loop-named-preserved : goal.loop-named-preserved
loop-named-preserved g c =
    let inv = c.loop-named.invariant in
    let i = c.loop-named.named-index in
    let now : List Named = c.loop-named.latest in
    let x : Named = get_or now i no_name in
    let live = c.args.live in
    let programs : List ProgramTree = programs_in c.args.programs.now in
    let w0 = g.H.Host.world c.args.host.now in
    let w1 = g.H.Host.world c.loop-named.host in
    let w2 = g.H.Host.world c.copy_version.new.host in
    let within : i < length now = omega arith in
    record {
      only = λ told. copied_on (1 - live) x.written.grain MayBeAny 1 w0 w1 w2 (inv.only told) (c.copy_version.ensures.run told);
      copied = λ told. more_copies live programs (seen_in w0.disk) w1.disk w2.disk c.args.latest.now now i x c.in_ok-named.field-0 (c.requires.order told) (λ file other. (c.copy_version.ensures.run told).now.others file other)
          within (next_default i now no_name within) (inv.copied told) (copied_before live programs w0 w1 w2.disk x c.in_ok-named.field-0 c.requires.slot (inv.only told) (c.in_ok-named.ensures.copied told));
      calm = λ channel. c.in_ok-named.ensures.calls.calm channel ∙ inv.calm channel;
      ready = λ file was. c.copy_version.ensures.calls.ready file (inv.ready file was);
    }

pub loop-named-init : goal.loop-named-init
loop-named-init g c = record {
  only = λ told. none_copied (1 - c.args.live) (g.H.Host.world c.args.host.now);
  copied = λ told. first_copies c.args.live (programs_in c.args.programs.now) (seen_in (g.H.Host.world c.args.host.now).disk) (g.H.Host.world c.args.host.now).disk c.args.latest.now;
  calm = λ channel. refl;
  ready = λ file was. was;
}
