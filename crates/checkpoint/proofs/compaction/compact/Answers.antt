use Rattle.std.proofs.Common.{◌≡◌, ◌≢◌, ◌-◌, ◌<◌, ◌^◌, inl, inr, List, map, None, Err, rules, refl, sym, ◌∙◌, ap, subst, arith}
use Rattle.std.proofs.lemmas.Result.{err_from_is_err_and}
use Rattle.host_trait.specs.declared.channels.FileId.{FileId}
use Rattle.host_trait.specs.declared.channels.FileId.TheVariants.{Manager}
use Rattle.host_trait.specs.World.{Image}
use Rattle.host_trait.proofs.Runs.{none_asked}
use Rattle.log_reading.specs.declared.faults.FolderFault.{FolderFault}
use Rattle.log_reading.specs.Steps.{seen_in}
use Rattle.log_reading.proofs.Errors.{other_value}
use Rattle.silo_spec.specs.OpenedDisks.{opening_syncs}
use Rattle.commit_log.specs.Orders.{IsAscending}
use Rattle.field_codec.specs.declared.formats.Format.TheVariants.{Two}
use Rattle.promise_spec.specs.Entries.{checkpointed}
use Rattle.promise_spec.specs.Endings.{Done, Memory, HasFailedAs}
use Rattle.promise_spec.specs.Compaction.{Compacts}
use Rattle.silo_opening.specs.declared.faults.OpenFault.{OpenFault}
use Rattle.silo_opening.specs.OpenedSilo.{program_in, programs_of, shapes_of, in_folder, ending_of, IsOpenedFrom}
use Rattle.silo_opening.proofs.OpeningCalls.{opens_same, opens_and_asked}
use Rattle.script_tree.specs.Programs.{ProgramTree, program_tree}
use Rattle.script_check.specs.declared.checked_program.Checked.{Checked}
use Rattle.program_file.specs.Succession.{ArePrograms, shapes_in_turn}
use Rattle.program_file.specs.ProgramsInTurn.{programs_in}
use Rattle.checkpoint.specs.Copies.{AreThere}
use Rattle.checkpoint.specs.declared.compaction.Next.{Next}
use Rattle.checkpoint.specs.KeptSessions.{HasFilled}
use Rattle.checkpoint.specs.Steps.{LastsIfLong}
use Rattle.checkpoint.specs.NextGeneration.{MayFill, FillsOtherSlot, MayBeWritten, next_generation}
use Rattle.checkpoint.specs.Endings.{compacted_as}
use Rattle.checkpoint.proofs.Compacted.{can, shown, made, latest_there, rewrites}
use Rattle.checkpoint.proofs.Endings.{opened_lasts, open_failed, read_failed, calm_before, calm_then, never_bad_use, never_done, not_damaged, unopened, is_last, is_compacted, latest_refused}
use Rattle.checkpoint.proofs.KeptSessions.{session_kept}
use Rattle.checkpoint.proofs.compaction.compact.Goals as goal

pub returns-in_err-opened-clause-compacts : goal.returns-in_err-opened-clause-compacts
returns-in_err-opened-clause-compacts g c =
    let p = err_from_is_err_and c.from_residual.result c.from_residual.ensures.1 in
    let e = c.in_err-opened.field-0.0 in
    let w0 = g.H.Host.world c.args.host.now in
    let w1 = g.H.Host.world c.open_silo.new.host in
    let f0 = g.H.Host.faults c.args.host.now in
    let f1 = g.H.Host.faults c.open_silo.new.host in
    rw (p.1, p.2) λ told manner lines. inl (unopened manner lines f0 f1 Two (ending_of e) w0 w1 (c.open_silo.ensures.only told) (c.in_err-opened.ensures.refused told) (open_failed f0 f1 e c.in_err-opened.ensures.calls.fault))

pub returns-in_err-refuse_last-clause-compacts : goal.returns-in_err-refuse_last-clause-compacts
returns-in_err-refuse_last-clause-compacts g c =
    let p = err_from_is_err_and c.from_residual-in_err-refuse_last.result c.from_residual-in_err-refuse_last.ensures.1 in
    let e = c.in_err-refuse_last.field-0.0 in
    let w0 = g.H.Host.world c.args.host.now in
    let w1 = g.H.Host.world c.open_silo.new.host in
    let f0 = g.H.Host.faults c.args.host.now in
    let f1 = g.H.Host.faults c.open_silo.new.host in
    rw (p.1, p.2) λ told manner lines.
    let o = c.in_ok-opened.opened in
    let opens = c.open_silo.ensures.only told in
    let left = (c.in_ok-opened.ensures.opened told).left in
    let slot = c.in_ok-opened.ensures.bounds.slot in
    let from = subst (λ (i : Image). IsOpenedFrom i o) (sym (opens_same (opening_syncs (seen_in w0.disk)) w0 w1 opens)) ((c.in_ok-opened.ensures.opened told).opened) in
    elim c.in_err-refuse_last.ensures.refused [
      | inl last ↦ subst (λ (x : OpenFault). Compacts (compacted_as {A = Unit {0}} manner lines w0 w1 f0 f1 (Err x))) (sym last.0)
          (inr (inl (is_last manner lines f0 f1 Two o w0 w1 w1 from slot opens left (none_asked w1) last.1 c.in_ok-opened.ensures.calls.calm)))
      | inr want ↦ subst (λ (x : OpenFault). Compacts (compacted_as {A = Unit {0}} manner lines w0 w1 f0 f1 (Err x))) (sym want)
          (inl (unopened manner lines f0 f1 Two Memory w0 w1 opens tt c.in_ok-opened.ensures.calls.calm))
    ]

pub returns-in-Err-next_generation-clause-compacts : goal.returns-in-Err-next_generation-clause-compacts
returns-in-Err-next_generation-clause-compacts g c told manner lines =
    let w0 = g.H.Host.world c.args.host.now in
    let w1 = g.H.Host.world c.open_silo.new.host in
    let w2 = g.H.Host.world c.latest_versions.new.host in
    let f0 = g.H.Host.faults c.args.host.now in
    let f1 = g.H.Host.faults c.open_silo.new.host in
    let f2 = g.H.Host.faults c.latest_versions.new.host in
    let opens = c.open_silo.ensures.only told in
    let asked = c.latest_versions.ensures.asked told in
    inl (unopened manner lines f0 f2 Two Memory w0 w2 (opens_and_asked (opening_syncs (seen_in w0.disk)) w0 w1 w2 opens asked) tt (calm_then f0 f1 f2 c.in_ok-opened.ensures.calls.calm c.in-Ok.ensures.calls.calm))

pub returns-in-Err-clause-compacts : goal.returns-in-Err-clause-compacts
returns-in-Err-clause-compacts g c told manner lines =
    let e = c.in-Err.fault in
    let w0 = g.H.Host.world c.args.host.now in
    let w1 = g.H.Host.world c.open_silo.new.host in
    let w2 = g.H.Host.world c.latest_versions.new.host in
    let f0 = g.H.Host.faults c.args.host.now in
    let f1 = g.H.Host.faults c.open_silo.new.host in
    let f2 = g.H.Host.faults c.latest_versions.new.host in
    let o = c.in_ok-opened.opened in
    let opens = c.open_silo.ensures.only told in
    let left = (c.in_ok-opened.ensures.opened told).left in
    let slot = c.in_ok-opened.ensures.bounds.slot in
    let from = subst (λ (i : Image). IsOpenedFrom i o) (sym (opens_same (opening_syncs (seen_in w0.disk)) w0 w1 opens)) ((c.in_ok-opened.ensures.opened told).opened) in
    let asked = c.latest_versions.ensures.asked told in
    inl (unopened manner lines f0 f2 Two (ending_of e) w0 w2 (opens_and_asked (opening_syncs (seen_in w0.disk)) w0 w1 w2 opens asked)
    (latest_refused manner lines f0 f2 Two o w0 w1 w2 from slot opens left asked e (c.in-Err.ensures.refused told from))
    (calm_before (ending_of e) f0 f1 f2 c.in_ok-opened.ensures.calls.calm (open_failed f1 f2 e c.in-Err.ensures.calls.fault)))

pub fill-requires-clause-programs : goal.fill-requires-clause-programs
fill-requires-clause-programs g c =
    let trees : programs_in c.in-Ok-next_generation.made.0 ≡ programs_of c.in_ok-opened.opened = ap (λ (l : List Checked). map program_tree l) c.in-Ok-next_generation.ensures.programs in
    subst ArePrograms (sym trees) c.in_ok-opened.ensures.bounds.programs

pub fill-requires-clause-order : goal.fill-requires-clause-order
fill-requires-clause-order g c told =
    let w0 = g.H.Host.world c.args.host.now in
    let w1 = g.H.Host.world c.open_silo.new.host in
    let o = c.in_ok-opened.opened in
    let opens = c.open_silo.ensures.only told in
    let left = (c.in_ok-opened.ensures.opened told).left in
    let slot = c.in_ok-opened.ensures.bounds.slot in
    let from = subst (λ (i : Image). IsOpenedFrom i o) (sym (opens_same (opening_syncs (seen_in w0.disk)) w0 w1 opens)) ((c.in_ok-opened.ensures.opened told).opened) in
    subst (λ (n : Next). IsAscending None (map (λ m. m.written) n.latest)) (sym c.in-Ok-next_generation.ensures.next) (c.in-Ok.ensures.latest told from).order

pub fill-requires-clause-may : goal.fill-requires-clause-may
fill-requires-clause-may g c =
    let bounds = c.in_ok-opened.ensures.bounds in
    let may = c.in_ok-refuse_last.ensures.may in
    let low : c.in_ok-opened.opened.generation < 2 ^ 32 = search rules in
    subst MayBeWritten (sym c.in-Ok-next_generation.ensures.next) (record {
      slot = bounds.slot;
      text = bounds.text;
      count = may.1;
      next_unit = (omega (arith, bounds.next.0), bounds.next.1);
      session = bounds.session;
      generation = omega (arith, may.0, low);
    })

pub fill-requires-clause-shapes : goal.fill-requires-clause-shapes
fill-requires-clause-shapes g c = c.in-Ok-next_generation.ensures.shapes

pub latest_versions-requires-clause-slot : goal.latest_versions-requires-clause-slot
latest_versions-requires-clause-slot g c = c.in_ok-opened.ensures.bounds.slot

pub latest_versions-requires-clause-programs : goal.latest_versions-requires-clause-programs
latest_versions-requires-clause-programs g c = c.in_ok-opened.ensures.bounds.programs

pub next_generation-requires : goal.next_generation-requires
next_generation-requires g c =
    let low : c.in_ok-opened.opened.generation < 2 ^ 32 = search rules in
    omega (arith, c.in_ok-refuse_last.ensures.may.0, low)

pub fill-requires-clause-lasts : goal.fill-requires-clause-lasts
fill-requires-clause-lasts g c told =
    let w2 = g.H.Host.world c.latest_versions.new.host in
    let left = (c.in_ok-opened.ensures.opened told).left in
    let asked = c.latest_versions.ensures.asked told in
    subst (λ (n : Next). LastsIfLong (w2.disk (Manager (1 - n.live)))) (sym c.in-Ok-next_generation.ensures.next)
    (opened_lasts (1 - c.in_ok-opened.opened.slot) (g.H.Host.world c.args.host.now).disk w2.disk (omega arith) (asked.disk ∙ left))

pub returns-in-Ok-fill-clause-compacts : goal.returns-in-Ok-fill-clause-compacts
returns-in-Ok-fill-clause-compacts g c told manner lines =
    let w0 = g.H.Host.world c.args.host.now in
    let w1 = g.H.Host.world c.open_silo.new.host in
    let w2 = g.H.Host.world c.latest_versions.new.host in
    let w3 = g.H.Host.world c.fill.new.host in
    let f0 = g.H.Host.faults c.args.host.now in
    let f1 = g.H.Host.faults c.open_silo.new.host in
    let f2 = g.H.Host.faults c.latest_versions.new.host in
    let f3 = g.H.Host.faults c.fill.new.host in
    let o = c.in_ok-opened.opened in
    let opens = c.open_silo.ensures.only told in
    let left = (c.in_ok-opened.ensures.opened told).left in
    let slot = c.in_ok-opened.ensures.bounds.slot in
    let from = subst (λ (i : Image). IsOpenedFrom i o) (sym (opens_same (opening_syncs (seen_in w0.disk)) w0 w1 opens)) ((c.in_ok-opened.ensures.opened told).opened) in
    let asked = c.latest_versions.ensures.asked told in
    let are = c.in-Ok.ensures.latest told from in
    let latest = c.in-Ok.latest in
    let trees : programs_in c.in-Ok-next_generation.made.0 ≡ programs_of o = ap (λ (l : List Checked). map program_tree l) c.in-Ok-next_generation.ensures.programs in
    let filled : HasFilled (next_generation o latest) (programs_in c.in-Ok-next_generation.made.0) w2 w3 = subst (λ (n : Next). HasFilled n (programs_in c.in-Ok-next_generation.made.0) w2 w3) c.in-Ok-next_generation.ensures.next (c.in-Ok-fill.ensures.done told) in
    let other : o.generation ≢ 4294967295 = c.in_ok-refuse_last.ensures.may.0 in
    let low : o.generation < 2 ^ 32 = search rules in
    inr (inr (is_compacted manner lines f0 f3 o w0 w1 w2 from slot opens left asked Done w3 other low (c.fill.ensures.quietly told).unread (c.fill.ensures.quietly told).quiet (inl refl) (calm_then f0 f2 f3 (calm_then f0 f1 f2 c.in_ok-opened.ensures.calls.calm c.in-Ok.ensures.calls.calm) c.in-Ok-fill.ensures.calls.calm)
    (λ whole.
    let stay = λ (file : FileId). g.met.H.Host.seen_may_stay c.args.host.now file told in
    let stay_too = λ (file : FileId). g.met.H.Host.seen_may_stay c.latest_versions.new.host file told in
    let may = can Two o w0 w1 w2 from slot opens left asked stay stay_too whole in
    let shows = shown Two o w0 w1 w2 from slot opens left asked stay stay_too whole in
    let is = made o w0 w1 w2 from slot opens left asked stay stay_too whole c.in_ok-opened.ensures.bounds.newest latest are in
    let fills : MayFill (next_generation o latest) (programs_in c.in-Ok-next_generation.made.0) (program_in o) from.log w2 = subst (λ (ts : List ProgramTree). MayFill (next_generation o latest) ts (program_in o) from.log w2) (sym trees) (record { made = is; can = may; shown = shows }) in
    let gone_all : FillsOtherSlot (next_generation o latest) (programs_in c.in-Ok-next_generation.made.0) w2 w3 = subst (λ (n : Next). FillsOtherSlot n (programs_in c.in-Ok-next_generation.made.0) w2 w3) c.in-Ok-next_generation.ensures.next (c.fill.ensures.gone told) in
    let gone = gone_all (program_in o) from.log fills in
    rewrites Two o w0 w1 w2 from slot opens left asked stay stay_too whole manner lines f0 f3 Done w3 (checkpointed from.log)
    gone.moments gone.now gone.shows
    (λ ends image left_so. filled.done (program_in o) from.log fills image left_so))))

pub returns-in-Err-fill-clause-compacts : goal.returns-in-Err-fill-clause-compacts
returns-in-Err-fill-clause-compacts g c told manner lines =
    let w0 = g.H.Host.world c.args.host.now in
    let w1 = g.H.Host.world c.open_silo.new.host in
    let w2 = g.H.Host.world c.latest_versions.new.host in
    let w3 = g.H.Host.world c.fill.new.host in
    let f0 = g.H.Host.faults c.args.host.now in
    let f1 = g.H.Host.faults c.open_silo.new.host in
    let f2 = g.H.Host.faults c.latest_versions.new.host in
    let f3 = g.H.Host.faults c.fill.new.host in
    let o = c.in_ok-opened.opened in
    let opens = c.open_silo.ensures.only told in
    let left = (c.in_ok-opened.ensures.opened told).left in
    let slot = c.in_ok-opened.ensures.bounds.slot in
    let from = subst (λ (i : Image). IsOpenedFrom i o) (sym (opens_same (opening_syncs (seen_in w0.disk)) w0 w1 opens)) ((c.in_ok-opened.ensures.opened told).opened) in
    let asked = c.latest_versions.ensures.asked told in
    let are = c.in-Ok.ensures.latest told from in
    let latest = c.in-Ok.latest in
    let trees : programs_in c.in-Ok-next_generation.made.0 ≡ programs_of o = ap (λ (l : List Checked). map program_tree l) c.in-Ok-next_generation.ensures.programs in
    let other : o.generation ≢ 4294967295 = c.in_ok-refuse_last.ensures.may.0 in
    let low : o.generation < 2 ^ 32 = search rules in
    let fault = c.in-Err-fill.fault in
    let there = subst (λ (i : Image). AreThere o.slot (shapes_of o) i latest) (sym (ap seen_in asked.disk)) (latest_there o (seen_in w1.disk) from.log latest are.each) in
    let there_too : AreThere o.slot (shapes_in_turn (programs_in c.in-Ok-next_generation.made.0)) (seen_in w2.disk) latest = subst (λ (ts : List ProgramTree). AreThere o.slot (shapes_in_turn ts) (seen_in w2.disk) latest) (sym trees) there in
    let there_now = subst (λ (n : Next). AreThere n.live (shapes_in_turn (programs_in c.in-Ok-next_generation.made.0)) (seen_in w2.disk) n.latest) (sym c.in-Ok-next_generation.ensures.next) there_too in
    subst (λ (e : OpenFault). Compacts (compacted_as {A = Unit {0}} manner lines w0 w3 f0 f3 (Err e))) (sym c.folder_fault.ensures)
    (inr (inr (is_compacted manner lines f0 f3 o w0 w1 w2 from slot opens left asked (ending_of (in_folder fault)) w3 other low (c.fill.ensures.quietly told).unread (c.fill.ensures.quietly told).quiet (not_damaged {A = Unit {0}} fault (λ file place same. c.in-Err-fill.ensures.damaged file place (other_value _ (FolderFault.Damaged file place) same) told there_now))
    (calm_before (ending_of (in_folder fault)) f0 f2 f3 (calm_then f0 f1 f2 c.in_ok-opened.ensures.calls.calm c.in-Ok.ensures.calls.calm) (read_failed f2 f3 fault c.in-Err-fill.ensures.calls.fault))
    (λ whole.
    let stay = λ (file : FileId). g.met.H.Host.seen_may_stay c.args.host.now file told in
    let stay_too = λ (file : FileId). g.met.H.Host.seen_may_stay c.latest_versions.new.host file told in
    let may = can Two o w0 w1 w2 from slot opens left asked stay stay_too whole in
    let shows = shown Two o w0 w1 w2 from slot opens left asked stay stay_too whole in
    let is = made o w0 w1 w2 from slot opens left asked stay stay_too whole c.in_ok-opened.ensures.bounds.newest latest are in
    let fills : MayFill (next_generation o latest) (programs_in c.in-Ok-next_generation.made.0) (program_in o) from.log w2 = subst (λ (ts : List ProgramTree). MayFill (next_generation o latest) ts (program_in o) from.log w2) (sym trees) (record { made = is; can = may; shown = shows }) in
    let gone_all : FillsOtherSlot (next_generation o latest) (programs_in c.in-Ok-next_generation.made.0) w2 w3 = subst (λ (n : Next). FillsOtherSlot n (programs_in c.in-Ok-next_generation.made.0) w2 w3) c.in-Ok-next_generation.ensures.next (c.fill.ensures.gone told) in
    let gone = gone_all (program_in o) from.log fills in
    rewrites Two o w0 w1 w2 from slot opens left asked stay stay_too whole manner lines f0 f3 (ending_of (in_folder fault)) w3 (checkpointed from.log)
    gone.moments gone.now gone.shows
    (λ ends image left_so. absurd (never_done fault ends))))))

pub returns-in-Ok-fill-clause-session : goal.returns-in-Ok-fill-clause-session
returns-in-Ok-fill-clause-session g c told =
    let w2 = g.H.Host.world c.latest_versions.new.host in
    let w3 = g.H.Host.world c.fill.new.host in
    let o = c.in_ok-opened.opened in
    let filled : HasFilled (next_generation o c.in-Ok.latest) (programs_in c.in-Ok-next_generation.made.0) w2 w3 = subst (λ (n : Next). HasFilled n (programs_in c.in-Ok-next_generation.made.0) w2 w3) c.in-Ok-next_generation.ensures.next (c.in-Ok-fill.ensures.done told) in
    session_kept o (g.H.Host.world c.args.host.now) w3 (c.in_ok-opened.ensures.opened told).opened filled.session

pub returns-in_err-opened-clause-calls : goal.returns-in_err-opened-clause-calls
returns-in_err-opened-clause-calls g c =
    let p = err_from_is_err_and c.from_residual.result c.from_residual.ensures.1 in
    let f0 = g.H.Host.faults c.args.host.now in
    let f1 = g.H.Host.faults c.open_silo.new.host in
    let e = c.in_err-opened.field-0.0 in
    rw (p.1, p.2) (record {
      exact = open_failed f0 f1 e c.in_err-opened.ensures.calls.fault;
      ready = c.open_silo.ensures.calls.ready;
    })

pub returns-in_err-opened-clause-good : goal.returns-in_err-opened-clause-good
returns-in_err-opened-clause-good g c =
    let p = err_from_is_err_and c.from_residual.result c.from_residual.ensures.1 in
    rw (p.1, p.2) (never_bad_use c.in_err-opened.field-0.0)

pub returns-in_err-refuse_last-clause-calls : goal.returns-in_err-refuse_last-clause-calls
returns-in_err-refuse_last-clause-calls g c =
    let p = err_from_is_err_and c.from_residual-in_err-refuse_last.result c.from_residual-in_err-refuse_last.ensures.1 in
    let f0 = g.H.Host.faults c.args.host.now in
    let f1 = g.H.Host.faults c.open_silo.new.host in
    let e = c.in_err-refuse_last.field-0.0 in
    let exact : HasFailedAs (ending_of e) f0 f1 = elim c.in_err-refuse_last.ensures.refused [
      | inl last ↦ subst (λ (x : OpenFault). HasFailedAs (ending_of x) f0 f1) (sym last.0) c.in_ok-opened.ensures.calls.calm
      | inr want ↦ subst (λ (x : OpenFault). HasFailedAs (ending_of x) f0 f1) (sym want) c.in_ok-opened.ensures.calls.calm
    ] in
    rw (p.1, p.2) (record { exact = exact; ready = c.open_silo.ensures.calls.ready })

pub returns-in_err-refuse_last-clause-good : goal.returns-in_err-refuse_last-clause-good
returns-in_err-refuse_last-clause-good g c =
    let p = err_from_is_err_and c.from_residual-in_err-refuse_last.result c.from_residual-in_err-refuse_last.ensures.1 in
    rw (p.1, p.2) (never_bad_use c.in_err-refuse_last.field-0.0)

pub returns-in-Err-clause-calls : goal.returns-in-Err-clause-calls
returns-in-Err-clause-calls g c =
    let f0 = g.H.Host.faults c.args.host.now in
    let f1 = g.H.Host.faults c.open_silo.new.host in
    let f2 = g.H.Host.faults c.latest_versions.new.host in
    let e = c.in-Err.fault in
    record {
      exact = calm_before (ending_of e) f0 f1 f2 c.in_ok-opened.ensures.calls.calm (open_failed f1 f2 e c.in-Err.ensures.calls.fault);
      ready = λ file was. c.latest_versions.ensures.calls.ready file (c.open_silo.ensures.calls.ready file was);
    }

pub returns-in-Err-clause-good : goal.returns-in-Err-clause-good
returns-in-Err-clause-good g c =
    never_bad_use c.in-Err.fault

pub returns-in-Err-next_generation-clause-calls : goal.returns-in-Err-next_generation-clause-calls
returns-in-Err-next_generation-clause-calls g c =
    let f0 = g.H.Host.faults c.args.host.now in
    let f1 = g.H.Host.faults c.open_silo.new.host in
    let f2 = g.H.Host.faults c.latest_versions.new.host in
    record {
      exact = calm_then f0 f1 f2 c.in_ok-opened.ensures.calls.calm c.in-Ok.ensures.calls.calm;
      ready = λ file was. c.latest_versions.ensures.calls.ready file (c.open_silo.ensures.calls.ready file was);
    }

pub returns-in-Ok-fill-clause-calls : goal.returns-in-Ok-fill-clause-calls
returns-in-Ok-fill-clause-calls g c =
    let f0 = g.H.Host.faults c.args.host.now in
    let f1 = g.H.Host.faults c.open_silo.new.host in
    let f2 = g.H.Host.faults c.latest_versions.new.host in
    let f3 = g.H.Host.faults c.fill.new.host in
    record {
      exact = calm_then f0 f2 f3 (calm_then f0 f1 f2 c.in_ok-opened.ensures.calls.calm c.in-Ok.ensures.calls.calm) c.in-Ok-fill.ensures.calls.calm;
      ready = λ file was. c.fill.ensures.calls.ready file (c.latest_versions.ensures.calls.ready file (c.open_silo.ensures.calls.ready file was));
    }

pub returns-in-Err-fill-clause-calls : goal.returns-in-Err-fill-clause-calls
returns-in-Err-fill-clause-calls g c =
    let f0 = g.H.Host.faults c.args.host.now in
    let f1 = g.H.Host.faults c.open_silo.new.host in
    let f2 = g.H.Host.faults c.latest_versions.new.host in
    let f3 = g.H.Host.faults c.fill.new.host in
    let fault = c.in-Err-fill.fault in
    record {
      exact = subst (λ (e : OpenFault). HasFailedAs (ending_of e) f0 f3) (sym c.folder_fault.ensures) (calm_before (ending_of (in_folder fault)) f0 f2 f3 (calm_then f0 f1 f2 c.in_ok-opened.ensures.calls.calm c.in-Ok.ensures.calls.calm) (read_failed f2 f3 fault c.in-Err-fill.ensures.calls.fault));
      ready = λ file was. c.fill.ensures.calls.ready file (c.latest_versions.ensures.calls.ready file (c.open_silo.ensures.calls.ready file was));
    }

pub returns-in-Err-fill-clause-good : goal.returns-in-Err-fill-clause-good
returns-in-Err-fill-clause-good g c =
    never_bad_use c.folder_fault.result

pub returns-in-Err-next_generation-clause-good : goal.returns-in-Err-next_generation-clause-good
returns-in-Err-next_generation-clause-good g c = never_bad_use OpenFault.Memory

pub returns-in-Ok-fill-clause-good : goal.returns-in-Ok-fill-clause-good
returns-in-Ok-fill-clause-good g c same = cc
