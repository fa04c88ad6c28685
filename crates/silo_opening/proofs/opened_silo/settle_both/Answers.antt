use Rattle.std.proofs.Common.{◌∙◌, nat_le, length, refl, sym, ap, subst, rules}
use Rattle.host_trait.specs.declared.channels.FileId.TheVariants.{Manager}
use Rattle.host_trait.specs.declared.channels.Channel.TheVariants.{File}
use Rattle.host_trait.specs.World.{Image}
use Rattle.host_trait.proofs.Counts.{none_then}
use Rattle.silo_opening.specs.declared.faults.OpenFault.{OpenFault}
use Rattle.silo_opening.specs.Counts.{OpenFaulted}
use Rattle.silo_opening.proofs.CallCounts.{failed_then}
use Rattle.silo_opening.proofs.OpeningCalls.{both_open, opens_same}
use Rattle.silo_opening.proofs.opened_silo.settle_both.Goals as goal

pub returns-in_default-settle-clause-only : goal.returns-in_default-settle-clause-only
returns-in_default-settle-clause-only g c told = both_open _ _ _ (c.settle.ensures.only told) (c.settle-2.ensures.only told)

pub returns-clause-only : goal.returns-clause-only
returns-clause-only g c told = both_open _ _ _ (c.settle.ensures.only told) (c.settle-2.ensures.only told)

pub returns-clause-other : goal.returns-clause-other
returns-clause-other g c told = c.in-Ok-settle.ensures.long told ∙ ap (λ (image : Image). nat_le 16 (length (image (Manager 1)))) (opens_same _ _ _ (c.settle.ensures.only told))

pub returns-in_default-clause-calls : goal.returns-in_default-clause-calls
returns-in_default-clause-calls g c = record {
  ready = c.settle.ensures.ready;
  calm = tt;
  fault = subst (λ (e : OpenFault). OpenFaulted e (g.H.Host.faults c.args.host.now) (g.H.Host.faults c.settle.new.host)) (sym c.manager_fault.ensures) (c.settle.ensures.faults.cause (search rules));
}

pub returns-in_default-settle-clause-calls : goal.returns-in_default-settle-clause-calls
returns-in_default-settle-clause-calls g c = record {
  ready = λ file was. c.settle-2.ensures.ready file (c.settle.ensures.ready file was);
  calm = tt;
  fault = subst (λ (e : OpenFault). OpenFaulted e (g.H.Host.faults c.args.host.now) (g.H.Host.faults c.settle-2.new.host)) (sym c.manager_fault-in_default-settle.ensures)
      (failed_then _ _ _ (c.in-Ok.ensures.faults.calm refl) (File (Manager 1)) (c.settle-2.ensures.faults.cause (search rules)));
}

pub returns-clause-calls : goal.returns-clause-calls
returns-clause-calls g c = record {
  ready = λ file was. c.settle-2.ensures.ready file (c.settle.ensures.ready file was);
  calm = none_then _ _ _ (c.in-Ok.ensures.faults.calm refl) (c.in-Ok-settle.ensures.faults.calm refl);
  fault = tt;
}
