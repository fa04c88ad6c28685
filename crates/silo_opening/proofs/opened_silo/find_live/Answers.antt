use Rattle.std.proofs.Common.{◌∙◌, refl, sym, ap, subst, nat_le, length, rules}
use Rattle.host_trait.specs.declared.channels.FileId.TheVariants.{Manager}
use Rattle.host_trait.specs.declared.channels.Channel.TheVariants.{File}
use Rattle.host_trait.specs.World.{Image}
use Rattle.host_trait.proofs.Counts.{none_then}
use Rattle.host_trait.proofs.Runs.{asked_then}
use Rattle.silo_opening.specs.declared.faults.OpenFault.{OpenFault}
use Rattle.silo_opening.specs.Counts.{OpenFaulted}
use Rattle.silo_opening.specs.OpenedSilo.{header_in, live_header}
use Rattle.silo_opening.proofs.CallCounts.{failed_then}
use Rattle.silo_opening.proofs.OpeningCalls.{opens_and_asked, opens_same, both_more}
use Rattle.silo_opening.proofs.opened_silo.find_live.Goals as goal

pub read_header-requires-clause-long : goal.read_header-requires-clause-long
read_header-requires-clause-long g c told = c.in_ok-long.ensures.first told ∙ sym (ap (λ (image : Image). nat_le 16 (length (image (Manager 0)))) (opens_same _ _ _ (c.settle_both.ensures.only told)))

pub returns-in_default-clause-only : goal.returns-in_default-clause-only
returns-in_default-clause-only g c told = opens_and_asked _ _ _ _ (c.settle_both.ensures.only told) (c.read_header.ensures.asked told)

pub returns-in_default-clause-seen : goal.returns-in_default-clause-seen
returns-in_default-clause-seen g c told = opens_same _ _ _ (opens_and_asked _ _ _ _ (c.settle_both.ensures.only told) (c.read_header.ensures.asked told))

pub read_header-requires-2-clause-long : goal.read_header-requires-2-clause-long
read_header-requires-2-clause-long g c told =
    c.in_ok-long.ensures.other told
    ∙ sym (ap (λ (image : Image). nat_le 16 (length (image (Manager 1)))) (opens_same _ _ _ (opens_and_asked _ _ _ _ (c.settle_both.ensures.only told) (c.read_header.ensures.asked told))))

pub returns-in_default-read_header-clause-only : goal.returns-in_default-read_header-clause-only
returns-in_default-read_header-clause-only g c told = opens_and_asked _ _ _ _ (c.settle_both.ensures.only told) (asked_then _ _ _ (c.read_header.ensures.asked told) (c.read_header-2.ensures.asked told))

pub returns-in_default-read_header-clause-seen : goal.returns-in_default-read_header-clause-seen
returns-in_default-read_header-clause-seen g c told = opens_same _ _ _ (opens_and_asked _ _ _ _ (c.settle_both.ensures.only told) (asked_then _ _ _ (c.read_header.ensures.asked told) (c.read_header-2.ensures.asked told)))

pub returns-clause-told : goal.returns-clause-told
returns-clause-told g c told =
    let first = ap (λ (image : Image). header_in (image (Manager 0))) (opens_same _ _ _ (c.settle_both.ensures.only told)) in
    let other = ap (λ (image : Image). header_in (image (Manager 1))) (opens_same _ _ _ (opens_and_asked _ _ _ _ (c.settle_both.ensures.only told) (c.read_header.ensures.asked told))) in
    c.live_header.ensures ∙ (λ i. live_header ((c.in-Ok.ensures.told told ∙ first) i) ((c.in-Ok-read_header.ensures.told told ∙ other) i))

pub returns-clause-settles : goal.returns-clause-settles
returns-clause-settles g c told = both_more _ _ _ (c.in_ok-long.ensures.settles told) (asked_then _ _ _ (c.read_header.ensures.asked told) (c.read_header-2.ensures.asked told))

pub returns-clause-only : goal.returns-clause-only
returns-clause-only g c told = opens_and_asked _ _ _ _ (c.settle_both.ensures.only told) (asked_then _ _ _ (c.read_header.ensures.asked told) (c.read_header-2.ensures.asked told))

pub returns-clause-seen : goal.returns-clause-seen
returns-clause-seen g c told = opens_same _ _ _ (opens_and_asked _ _ _ _ (c.settle_both.ensures.only told) (asked_then _ _ _ (c.read_header.ensures.asked told) (c.read_header-2.ensures.asked told)))

-- ---- which calls have failed

pub returns-in_default-clause-calls : goal.returns-in_default-clause-calls
returns-in_default-clause-calls g c = record {
  ready = λ file was. c.read_header.ensures.ready file (c.settle_both.ensures.calls.ready file was);
  calm = tt;
  fault = subst (λ (e : OpenFault). OpenFaulted e (g.H.Host.faults c.args.host.now) (g.H.Host.faults c.read_header.new.host)) (sym c.manager_fault.ensures)
      (failed_then _ _ _ c.in_ok-long.ensures.calls.calm (File (Manager 0)) (c.read_header.ensures.faults.cause (search rules)));
}

pub returns-in_default-read_header-clause-calls : goal.returns-in_default-read_header-clause-calls
returns-in_default-read_header-clause-calls g c = record {
  ready = λ file was. c.read_header-2.ensures.ready file (c.read_header.ensures.ready file (c.settle_both.ensures.calls.ready file was));
  calm = tt;
  fault = subst (λ (e : OpenFault). OpenFaulted e (g.H.Host.faults c.args.host.now) (g.H.Host.faults c.read_header-2.new.host)) (sym c.manager_fault-in_default-read_header.ensures)
      (failed_then _ _ _ (none_then _ _ _ c.in_ok-long.ensures.calls.calm (c.in-Ok.ensures.faults.calm refl)) (File (Manager 1)) (c.read_header-2.ensures.faults.cause (search rules)));
}

pub returns-clause-calls : goal.returns-clause-calls
returns-clause-calls g c = record {
  ready = λ file was. c.read_header-2.ensures.ready file (c.read_header.ensures.ready file (c.settle_both.ensures.calls.ready file was));
  calm = none_then _ _ _ (none_then _ _ _ c.in_ok-long.ensures.calls.calm (c.in-Ok.ensures.faults.calm refl)) (c.in-Ok-read_header.ensures.faults.calm refl);
  fault = tt;
}
