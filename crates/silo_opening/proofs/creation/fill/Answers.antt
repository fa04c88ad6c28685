use Rattle.std.proofs.Common.{◌+◌, ℕ, inl, inr, List, length, refl, rules, arith}
use Rattle.host_trait.specs.declared.channels.Channel.TheVariants.{File}
use Rattle.host_trait.specs.Disk.{Tears}
use Rattle.host_trait.specs.World.{moment_of}
use Rattle.host_trait.specs.Runs.{ChangesFile}
use Rattle.host_trait.proofs.Counts.{none_then}
use Rattle.host_trait.proofs.Moments.{both, weaker}
use Rattle.silo_spec.specs.Silos.{manager, program_file, IsMagic}
use Rattle.silo_spec.specs.Creation.{IsNewAt}
use Rattle.silo_opening.proofs.CallCounts.{failed_then}
use Rattle.silo_opening.proofs.GateClosing.{none_shown, long_shown}
use Rattle.silo_opening.proofs.ManagerLook.{log_run_beside, program_run_beside, beside_then}
use Rattle.silo_opening.proofs.FolderFilling.{while_program, while_header, while_opened, filled, seen_long, program_shut, header_shut, lacks_program, lacks_log}
use Rattle.silo_opening.proofs.creation.fill.Goals as goal

pub returns-in_default-clause-filled : goal.returns-in_default-clause-filled
returns-in_default-clause-filled g c told lacks =
    let w0 = g.H.Host.world c.args.host.now in
    let text : List ℕ = c.args.program.now in
    let first = c.write_program.ensures.run told in
    record {
      moments = weaker (ChangesFile program_file (Tears 0 (4 + length text)) w0) (IsNewAt IsMagic text) (while_program text w0 (c.requires.shut told) lacks) first.moments;
      now = while_program c.args.program.now w0 (c.requires.shut told) lacks _ first.now;
      lacks = lacks_program c.args.program.now (g.H.Host.world c.args.host.now) lacks _ (c.write_program.ensures.run told).now;
      shows = none_shown IsMagic (g.H.Host.world c.write_program.new.host) (program_shut c.args.program.now w0 (c.requires.shut told) (moment_of (g.H.Host.world c.write_program.new.host)) first.now, lacks_program c.args.program.now w0 lacks (moment_of (g.H.Host.world c.write_program.new.host)) first.now);
    }

pub returns-in_default-clause-beside : goal.returns-in_default-clause-beside
returns-in_default-clause-beside g c told = program_run_beside (Tears 0 (4 + length c.args.program.now)) 1 _ _ (c.write_program.ensures.run told)

pub returns-in_default-write_synced-clause-filled : goal.returns-in_default-write_synced-clause-filled
returns-in_default-write_synced-clause-filled g c told lacks =
    let w0 = g.H.Host.world c.args.host.now in
    let w1 = g.H.Host.world c.write_program.new.host in
    let text : List ℕ = c.args.program.now in
    let P = IsNewAt IsMagic text in
    let first = c.write_program.ensures.run told in
    let second = c.write_synced.ensures.run told in
    let w2 = g.H.Host.world c.write_synced.new.host in
    record {
      moments = both P (weaker (ChangesFile program_file (Tears 0 (4 + length text)) w0) P (while_program text w0 (c.requires.shut told) lacks) first.moments) (weaker (ChangesFile manager (Tears 1 15) w1) P (while_header text w0 (c.requires.shut told) w1 first.now (lacks_program text w0 lacks _ first.now)) second.moments);
      now = while_header c.args.program.now w0 (c.requires.shut told) w1 (c.write_program.ensures.run told).now (lacks_program c.args.program.now w0 lacks _ (c.write_program.ensures.run told).now) _ (c.write_synced.ensures.run told).now;
      lacks = lacks_log (Tears 1 15) (g.H.Host.world c.write_program.new.host) (lacks_program c.args.program.now (g.H.Host.world c.args.host.now) lacks _ (c.write_program.ensures.run told).now) _ (c.write_synced.ensures.run told).now;
      shows = none_shown IsMagic w2 (header_shut c.args.program.now w0 (c.requires.shut told) w1 first.now (moment_of w2) second.now, lacks_log (Tears 1 15) w1 (lacks_program c.args.program.now w0 lacks (moment_of w1) first.now) (moment_of w2) second.now);
    }

pub returns-in_default-write_synced-clause-beside : goal.returns-in_default-write_synced-clause-beside
returns-in_default-write_synced-clause-beside g c told =
    beside_then _ _ _ (program_run_beside (Tears 0 (4 + length c.args.program.now)) 1 _ _ (c.write_program.ensures.run told)) (log_run_beside (Tears 1 15) 1 _ _ (c.write_synced.ensures.run told))

pub returns-in_default-write_synced-2-clause-filled : goal.returns-in_default-write_synced-2-clause-filled
returns-in_default-write_synced-2-clause-filled g c told lacks =
    let w0 = g.H.Host.world c.args.host.now in
    let w1 = g.H.Host.world c.write_program.new.host in
    let w2 = g.H.Host.world c.write_synced.new.host in
    let text : List ℕ = c.args.program.now in
    let P = IsNewAt IsMagic text in
    let first = c.write_program.ensures.run told in
    let second = c.write_synced.ensures.run told in
    let third = c.write_synced-2.ensures.run told in
    let w3 = g.H.Host.world c.write_synced-2.new.host in
    record {
      moments = both P (both P (weaker (ChangesFile program_file (Tears 0 (4 + length text)) w0) P (while_program text w0 (c.requires.shut told) lacks) first.moments) (weaker (ChangesFile manager (Tears 1 15) w1) P (while_header text w0 (c.requires.shut told) w1 first.now (lacks_program text w0 lacks _ first.now)) second.moments)) (weaker (ChangesFile manager (Tears 0 1) w2) P (while_opened text w0 (c.requires.shut told) w1 first.now (c.in-Ok.ensures.ok told) w2 second.now (c.in-Ok-write_synced.ensures.ok told) (lacks_log (Tears 1 15) w1 (lacks_program text w0 lacks _ first.now) _ second.now)) third.moments);
      now = while_opened c.args.program.now w0 (c.requires.shut told) w1 first.now (c.in-Ok.ensures.ok told) w2 second.now (c.in-Ok-write_synced.ensures.ok told) (lacks_log (Tears 1 15) w1 (lacks_program c.args.program.now w0 lacks _ first.now) _ second.now) _ third.now;
      lacks = lacks_log (Tears 0 1) (g.H.Host.world c.write_synced.new.host) (lacks_log (Tears 1 15) (g.H.Host.world c.write_program.new.host) (lacks_program c.args.program.now (g.H.Host.world c.args.host.now) lacks _ (c.write_program.ensures.run told).now) _ (c.write_synced.ensures.run told).now) _ (c.write_synced-2.ensures.run told).now;
      shows = long_shown IsMagic w3 (seen_long c.args.program.now w0 (c.requires.shut told) w1 first.now (c.in-Ok.ensures.ok told) w2 second.now (c.in-Ok-write_synced.ensures.ok told) w3 third.seen) (lacks_log (Tears 0 1) w2 (lacks_log (Tears 1 15) w1 (lacks_program c.args.program.now w0 lacks (moment_of w1) first.now) (moment_of w2) second.now) (moment_of w3) third.now);
    }

pub returns-in_default-write_synced-2-clause-beside : goal.returns-in_default-write_synced-2-clause-beside
returns-in_default-write_synced-2-clause-beside g c told =
    beside_then _ _ _ (beside_then _ _ _ (program_run_beside (Tears 0 (4 + length c.args.program.now)) 1 _ _ (c.write_program.ensures.run told)) (log_run_beside (Tears 1 15) 1 _ _ (c.write_synced.ensures.run told)))
    (log_run_beside (Tears 0 1) 1 _ _ (c.write_synced-2.ensures.run told))

pub returns-clause-files : goal.returns-clause-files
returns-clause-files g c told =
    let w0 = g.H.Host.world c.args.host.now in
    let w1 = g.H.Host.world c.write_program.new.host in
    let w2 = g.H.Host.world c.write_synced.new.host in
    let w3 = g.H.Host.world c.write_synced-2.new.host in
    let first = c.write_program.ensures.run told in
    let second = c.write_synced.ensures.run told in
    let third = c.write_synced-2.ensures.run told in
    filled c.args.program.now w0 (c.requires.shut told) w1 first.now (c.in-Ok.ensures.ok told) w2 second.now (c.in-Ok-write_synced.ensures.ok told)
    w3 third.now (c.in-Ok-write_synced-2.ensures.ok told)

pub returns-clause-filled : goal.returns-clause-filled
returns-clause-filled g c told lacks =
    let w0 = g.H.Host.world c.args.host.now in
    let w1 = g.H.Host.world c.write_program.new.host in
    let w2 = g.H.Host.world c.write_synced.new.host in
    let text : List ℕ = c.args.program.now in
    let P = IsNewAt IsMagic text in
    let first = c.write_program.ensures.run told in
    let second = c.write_synced.ensures.run told in
    let third = c.write_synced-2.ensures.run told in
    let w3 = g.H.Host.world c.write_synced-2.new.host in
    record {
      moments = both P (both P (weaker (ChangesFile program_file (Tears 0 (4 + length text)) w0) P (while_program text w0 (c.requires.shut told) lacks) first.moments) (weaker (ChangesFile manager (Tears 1 15) w1) P (while_header text w0 (c.requires.shut told) w1 first.now (lacks_program text w0 lacks _ first.now)) second.moments)) (weaker (ChangesFile manager (Tears 0 1) w2) P (while_opened text w0 (c.requires.shut told) w1 first.now (c.in-Ok.ensures.ok told) w2 second.now (c.in-Ok-write_synced.ensures.ok told) (lacks_log (Tears 1 15) w1 (lacks_program text w0 lacks _ first.now) _ second.now)) third.moments);
      now = while_opened c.args.program.now w0 (c.requires.shut told) w1 first.now (c.in-Ok.ensures.ok told) w2 second.now (c.in-Ok-write_synced.ensures.ok told) (lacks_log (Tears 1 15) w1 (lacks_program c.args.program.now w0 lacks _ first.now) _ second.now) _ third.now;
      lacks = lacks_log (Tears 0 1) (g.H.Host.world c.write_synced.new.host) (lacks_log (Tears 1 15) (g.H.Host.world c.write_program.new.host) (lacks_program c.args.program.now (g.H.Host.world c.args.host.now) lacks _ (c.write_program.ensures.run told).now) _ (c.write_synced.ensures.run told).now) _ (c.write_synced-2.ensures.run told).now;
      shows = long_shown IsMagic w3 (seen_long c.args.program.now w0 (c.requires.shut told) w1 first.now (c.in-Ok.ensures.ok told) w2 second.now (c.in-Ok-write_synced.ensures.ok told) w3 third.seen) (lacks_log (Tears 0 1) w2 (lacks_log (Tears 1 15) w1 (lacks_program c.args.program.now w0 lacks (moment_of w1) first.now) (moment_of w2) second.now) (moment_of w3) third.now);
    }

pub returns-clause-beside : goal.returns-clause-beside
returns-clause-beside g c told =
    beside_then _ _ _ (beside_then _ _ _ (program_run_beside (Tears 0 (4 + length c.args.program.now)) 1 _ _ (c.write_program.ensures.run told)) (log_run_beside (Tears 1 15) 1 _ _ (c.write_synced.ensures.run told)))
    (log_run_beside (Tears 0 1) 1 _ _ (c.write_synced-2.ensures.run told))

pub returns-clause-count : goal.returns-clause-count
returns-clause-count g c told =
    let first = c.in-Ok.ensures.count told in
    let second = c.in-Ok-write_synced.ensures.count told in
    let third = c.in-Ok-write_synced-2.ensures.count told in
    omega (arith, first, second, third)

-- ---- which calls have failed

pub returns-in_default-clause-calls : goal.returns-in_default-clause-calls
returns-in_default-clause-calls g c = record {
  ready = c.write_program.ensures.ready;
  calm = tt;
  fault = (inr refl, c.write_program.ensures.faults.cause (search rules));
}

pub returns-in_default-write_synced-clause-calls : goal.returns-in_default-write_synced-clause-calls
returns-in_default-write_synced-clause-calls g c = record {
  ready = λ file was. c.write_synced.ensures.ready file (c.write_program.ensures.ready file was);
  calm = tt;
  fault = (inl (inl refl), failed_then _ _ _ (c.in-Ok.ensures.faults.calm refl) (File manager) (c.write_synced.ensures.faults.cause (search rules)));
}

pub returns-in_default-write_synced-2-clause-calls : goal.returns-in_default-write_synced-2-clause-calls
returns-in_default-write_synced-2-clause-calls g c = record {
  ready = λ file was. c.write_synced-2.ensures.ready file (c.write_synced.ensures.ready file (c.write_program.ensures.ready file was));
  calm = tt;
  fault = (inl (inl refl), failed_then _ _ _ (none_then _ _ _ (c.in-Ok.ensures.faults.calm refl) (c.in-Ok-write_synced.ensures.faults.calm refl)) (File manager) (c.write_synced-2.ensures.faults.cause (search rules)));
}

pub returns-clause-calls : goal.returns-clause-calls
returns-clause-calls g c = record {
  ready = λ file was. c.write_synced-2.ensures.ready file (c.write_synced.ensures.ready file (c.write_program.ensures.ready file was));
  calm = none_then _ _ _ (none_then _ _ _ (c.in-Ok.ensures.faults.calm refl) (c.in-Ok-write_synced.ensures.faults.calm refl)) (c.in-Ok-write_synced-2.ensures.faults.calm refl);
  fault = tt;
}
