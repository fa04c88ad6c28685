use Rattle.std.proofs.Common.{subst, arith}
use Rattle.host_trait.specs.Disk.{FileState}
use Rattle.host_trait.specs.declared.channels.FileId.TheVariants.{Manager}
use Rattle.silo_spec.specs.Silos.{IsMagic}
use Rattle.silo_opening.specs.Steps.{ShowsFront}
use Rattle.silo_opening.proofs.ManagerLook.{looks_untouched, untouched_then, looks_beside, beside_then}
use Rattle.silo_opening.proofs.GateClosing.{looked_first, both_last}
use Rattle.silo_opening.proofs.Preparing.{front_lacks}
use Rattle.silo_opening.proofs.creation.look_both.Goals as goal

pub returns-in_default-clause-untouched : goal.returns-in_default-clause-untouched
returns-in_default-clause-untouched g c told = looks_untouched 0 _ _ (λ file. g.met.H.Host.seen_may_stay c.args.host.now file told) (c.look.ensures.looks told)

pub returns-in_default-clause-beside : goal.returns-in_default-clause-beside
returns-in_default-clause-beside g c told = looks_beside 0 (omega arith) _ _ (c.look.ensures.looks told)

pub returns-in_default-look-clause-untouched : goal.returns-in_default-look-clause-untouched
returns-in_default-look-clause-untouched g c told =
    untouched_then _ _ _ (looks_untouched 0 _ _ (λ file. g.met.H.Host.seen_may_stay c.args.host.now file told) (c.look.ensures.looks told))
    (looks_untouched 1 _ _ (λ file. g.met.H.Host.seen_may_stay c.look.new.host file told) (c.look-2.ensures.looks told))

pub returns-in_default-look-clause-beside : goal.returns-in_default-look-clause-beside
returns-in_default-look-clause-beside g c told = beside_then _ _ _ (looks_beside 0 (omega arith) _ _ (c.look.ensures.looks told)) (looks_beside 1 (omega arith) _ _ (c.look-2.ensures.looks told))

pub returns-clause-looked : goal.returns-clause-looked
returns-clause-looked g c told =
    let w0 = g.H.Host.world c.args.host.now in
    let low = c.look.ensures.looks told in
    let high = c.look-2.ensures.looks told in
    let same = low.now.others (Manager 1) (λ e. absurd cc) in
    let shows-0 = c.in-Ok.ensures.shows told in
    let shows-1 : ShowsFront IsMagic c.in-Ok-look.other (w0.disk (Manager 1)).seen = subst (λ (s : FileState). ShowsFront IsMagic c.in-Ok-look.other s.seen) same (c.in-Ok-look.ensures.shows told) in
    let count-0 = c.in-Ok.ensures.count told in
    let count-1 = c.in-Ok-look.ensures.count told in
    record {
      front = shows-0;
      other = shows-1;
      lasts = λ slot first some. both_last _ _ _ low high (c.in-Ok.ensures.syncs told) (c.in-Ok-look.ensures.syncs told) slot first some;
      first = λ shows first other. looked_first IsMagic w0 (λ file. g.met.H.Host.seen_may_stay c.args.host.now file told) shows _ _ (λ file. g.met.H.Host.seen_may_stay c.look.new.host file told)
          (front_lacks IsMagic c.in-Ok.front (w0.disk (Manager 0)).seen first shows-0) (front_lacks IsMagic c.in-Ok-look.other (w0.disk (Manager 1)).seen other shows-1)
          low high (c.in-Ok.ensures.syncs told) (c.in-Ok-look.ensures.syncs told);
      count = omega (arith, count-0, count-1);
    }

pub returns-clause-untouched : goal.returns-clause-untouched
returns-clause-untouched g c told =
    untouched_then _ _ _ (looks_untouched 0 _ _ (λ file. g.met.H.Host.seen_may_stay c.args.host.now file told) (c.look.ensures.looks told))
    (looks_untouched 1 _ _ (λ file. g.met.H.Host.seen_may_stay c.look.new.host file told) (c.look-2.ensures.looks told))

pub returns-clause-beside : goal.returns-clause-beside
returns-clause-beside g c told = beside_then _ _ _ (looks_beside 0 (omega arith) _ _ (c.look.ensures.looks told)) (looks_beside 1 (omega arith) _ _ (c.look-2.ensures.looks told))
