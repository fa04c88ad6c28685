use Rattle.std.proofs.Common.{inl, inr, Err, refl, ap, arith, rules}
use Rattle.host_trait.specs.declared.channels.Channel.TheVariants.{File}
use Rattle.host_trait.specs.Disk.{Tears}
use Rattle.host_trait.proofs.Counts.{none_then}
use Rattle.silo_spec.specs.Silos.{manager, IsMagic}
use Rattle.silo_opening.proofs.CallCounts.{failed_then}
use Rattle.silo_opening.proofs.ManagerLook.{log_run_beside, beside_then}
use Rattle.silo_opening.proofs.GateClosing.{closed_first, none_shown, came_shown}
use Rattle.silo_opening.proofs.Preparing.{fronts_read, fronts_lack, may_close, closed_shut, gate_shut, syncs_low, closed_syncs}
use Rattle.silo_opening.proofs.creation.prepare.Goals as goal

-- ---- a call on a manager file failed

pub returns-in-Err-clause-silo : goal.returns-in-Err-clause-silo
returns-in-Err-clause-silo g c told reads =
    let r = c.in-Err.ensures.refused in
    record { answer = inr (r.0, r.1, ap Err r.2); untouched = c.look_both.ensures.untouched told }

pub returns-in-Err-clause-moments : goal.returns-in-Err-clause-moments
returns-in-Err-clause-moments g c told shows =
    let untouched = c.look_both.ensures.untouched told in
    record { moments = inl untouched; shows = came_shown IsMagic (g.H.Host.world c.args.host.now) (g.H.Host.world c.look_both.new.host) (inl untouched) shows }

pub returns-in-Err-clause-calls : goal.returns-in-Err-clause-calls
returns-in-Err-clause-calls g c = record { ready = c.look_both.ensures.calls.ready; calm = tt; fault = c.in-Err.ensures.calls.fault }

-- ---- the folder is a silo

pub returns-then-is_either_silo-clause-silo : goal.returns-then-is_either_silo-clause-silo
returns-then-is_either_silo-clause-silo g c told reads = record { answer = inl refl; untouched = c.look_both.ensures.untouched told }

pub returns-then-is_either_silo-clause-calls : goal.returns-then-is_either_silo-clause-calls
returns-then-is_either_silo-clause-calls g c = record { ready = c.look_both.ensures.calls.ready; calm = tt; fault = c.in-Ok.ensures.calls.calm }

pub returns-then-is_either_silo-clause-already : goal.returns-then-is_either_silo-clause-already
returns-then-is_either_silo-clause-already g c is told =
    let either = c.is_either_silo.ensures.yes c.if-is_either_silo.true in
    let looked = c.in-Ok.ensures.looked told in
    record { reads = fronts_read IsMagic c.in-Ok.fronts.0 c.in-Ok.fronts.1 (g.H.Host.world c.args.host.now).disk either looked.front looked.other; lasts = looked.lasts }

pub returns-then-is_either_silo-clause-moments : goal.returns-then-is_either_silo-clause-moments
returns-then-is_either_silo-clause-moments g c told shows =
    let untouched = c.look_both.ensures.untouched told in
    record { moments = inl untouched; shows = came_shown IsMagic (g.H.Host.world c.args.host.now) (g.H.Host.world c.look_both.new.host) (inl untouched) shows }

-- ---- the gate is closed

pub returns-then-is_closed-clause-prepared : goal.returns-then-is_closed-clause-prepared
returns-then-is_closed-clause-prepared g c told =
    let are = c.is_either_silo.ensures.no c.if-is_either_silo.false in
    let is = c.is_closed.ensures.yes c.if-is_closed.true in
    let looked = c.in-Ok.ensures.looked told in
    let count = looked.count in
    record {
      first = λ shows. looked.first shows are.0 are.1;
      shut = closed_shut IsMagic c.in-Ok.fronts.0 is (g.H.Host.world c.args.host.now) (g.H.Host.world c.look_both.new.host) looked.front (looked.lasts 0 (omega arith));
      least = omega (arith, count, closed_syncs c.in-Ok.fronts.0 is);
      most = omega (arith, count, syncs_low c.in-Ok.fronts.0, syncs_low c.in-Ok.fronts.1);
    }

pub returns-then-is_closed-clause-silo : goal.returns-then-is_closed-clause-silo
returns-then-is_closed-clause-silo g c told reads =
    let are = c.is_either_silo.ensures.no c.if-is_either_silo.false in
    let looked = c.in-Ok.ensures.looked told in
    fronts_lack IsMagic c.in-Ok.fronts.0 c.in-Ok.fronts.1 (g.H.Host.world c.args.host.now).disk are looked.front looked.other reads

pub returns-then-is_closed-clause-moments : goal.returns-then-is_closed-clause-moments
returns-then-is_closed-clause-moments g c told shows =
    let untouched = c.look_both.ensures.untouched told in
    record { moments = inl untouched; shows = came_shown IsMagic (g.H.Host.world c.args.host.now) (g.H.Host.world c.look_both.new.host) (inl untouched) shows }

pub returns-then-is_closed-clause-calls : goal.returns-then-is_closed-clause-calls
returns-then-is_closed-clause-calls g c = record { ready = c.look_both.ensures.calls.ready; calm = c.in-Ok.ensures.calls.calm; fault = tt }

-- ---- the gate has to be closed, which fails

pub returns-in_default-clause-calls : goal.returns-in_default-clause-calls
returns-in_default-clause-calls g c = record {
  ready = λ file was. c.close_header.ensures.ready file (c.look_both.ensures.calls.ready file was);
  calm = tt;
  fault = (inl (inl refl), failed_then _ _ _ c.in-Ok.ensures.calls.calm (File manager) (c.close_header.ensures.faults.cause (search rules)));
}

pub returns-in_default-clause-silo : goal.returns-in_default-clause-silo
returns-in_default-clause-silo g c told reads =
    let are = c.is_either_silo.ensures.no c.if-is_either_silo.false in
    let looked = c.in-Ok.ensures.looked told in
    fronts_lack IsMagic c.in-Ok.fronts.0 c.in-Ok.fronts.1 (g.H.Host.world c.args.host.now).disk are looked.front looked.other reads

pub returns-in_default-clause-moments : goal.returns-in_default-clause-moments
returns-in_default-clause-moments g c told shows =
    let are = c.is_either_silo.ensures.no c.if-is_either_silo.false in
    let unclosed = c.is_closed.ensures.no c.if-is_closed.false in
    let looked = c.in-Ok.ensures.looked told in
    let may = may_close IsMagic c.in-Ok.fronts.0 are.0 unclosed (g.H.Host.world c.args.host.now) (g.H.Host.world c.look_both.new.host) looked.front ((c.look_both.ensures.untouched told).seen manager) (looked.lasts 0 (omega arith)) in
    let first = closed_first IsMagic (g.H.Host.world c.args.host.now) (g.H.Host.world c.look_both.new.host) (g.H.Host.world c.close_header.new.host) (λ file. g.met.H.Host.seen_may_stay c.look_both.new.host file told) may (looked.first shows are.0 are.1) (c.close_header.ensures.run told) in
    record { moments = inr first; shows = came_shown IsMagic (g.H.Host.world c.args.host.now) (g.H.Host.world c.close_header.new.host) (inr first) shows }

pub returns-in_default-clause-beside : goal.returns-in_default-clause-beside
returns-in_default-clause-beside g c told = beside_then _ _ _ (c.look_both.ensures.beside told) (log_run_beside (Tears 0 1) 1 _ _ (c.close_header.ensures.run told))

-- ---- and which is done

pub returns-clause-prepared : goal.returns-clause-prepared
returns-clause-prepared g c told =
    let are = c.is_either_silo.ensures.no c.if-is_either_silo.false in
    let unclosed = c.is_closed.ensures.no c.if-is_closed.false in
    let looked = c.in-Ok.ensures.looked told in
    let may = may_close IsMagic c.in-Ok.fronts.0 are.0 unclosed (g.H.Host.world c.args.host.now) (g.H.Host.world c.look_both.new.host) looked.front ((c.look_both.ensures.untouched told).seen manager) (looked.lasts 0 (omega arith)) in
    let count = looked.count in
    let closed = c.in-Ok-close_header.ensures.count told in
    record {
      first = λ shows. closed_first IsMagic (g.H.Host.world c.args.host.now) (g.H.Host.world c.look_both.new.host) (g.H.Host.world c.close_header.new.host) (λ file. g.met.H.Host.seen_may_stay c.look_both.new.host file told) may (looked.first shows are.0 are.1) (c.close_header.ensures.run told);
      shut = gate_shut ((g.H.Host.world c.look_both.new.host).disk manager).seen ((g.H.Host.world c.close_header.new.host).disk manager) (c.in-Ok-close_header.ensures.ok told);
      least = omega (arith, count, closed);
      most = omega (arith, count, closed, syncs_low c.in-Ok.fronts.0, syncs_low c.in-Ok.fronts.1);
    }

pub returns-clause-silo : goal.returns-clause-silo
returns-clause-silo g c told reads =
    let are = c.is_either_silo.ensures.no c.if-is_either_silo.false in
    let looked = c.in-Ok.ensures.looked told in
    fronts_lack IsMagic c.in-Ok.fronts.0 c.in-Ok.fronts.1 (g.H.Host.world c.args.host.now).disk are looked.front looked.other reads

pub returns-clause-moments : goal.returns-clause-moments
returns-clause-moments g c told shows =
    let are = c.is_either_silo.ensures.no c.if-is_either_silo.false in
    let unclosed = c.is_closed.ensures.no c.if-is_closed.false in
    let looked = c.in-Ok.ensures.looked told in
    let may = may_close IsMagic c.in-Ok.fronts.0 are.0 unclosed (g.H.Host.world c.args.host.now) (g.H.Host.world c.look_both.new.host) looked.front ((c.look_both.ensures.untouched told).seen manager) (looked.lasts 0 (omega arith)) in
    let first = closed_first IsMagic (g.H.Host.world c.args.host.now) (g.H.Host.world c.look_both.new.host) (g.H.Host.world c.close_header.new.host) (λ file. g.met.H.Host.seen_may_stay c.look_both.new.host file told) may (looked.first shows are.0 are.1) (c.close_header.ensures.run told) in
    record { moments = inr first; shows = none_shown IsMagic (g.H.Host.world c.close_header.new.host) first.now }

pub returns-clause-beside : goal.returns-clause-beside
returns-clause-beside g c told = beside_then _ _ _ (c.look_both.ensures.beside told) (log_run_beside (Tears 0 1) 1 _ _ (c.close_header.ensures.run told))

pub returns-clause-calls : goal.returns-clause-calls
returns-clause-calls g c = record {
  ready = λ file was. c.close_header.ensures.ready file (c.look_both.ensures.calls.ready file was);
  calm = none_then _ _ _ c.in-Ok.ensures.calls.calm (c.in-Ok-close_header.ensures.faults.calm refl);
  fault = tt;
}
