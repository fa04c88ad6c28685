use Rattle.std.proofs.Common.{refl, arith, rules}
use Rattle.host_trait.specs.World.{moment_of}
use Rattle.silo_opening.proofs.ManagerLook.{beside_then}
use Rattle.silo_opening.proofs.Preparing.{none_kept}
use Rattle.silo_opening.proofs.Outcomes.{made_silo, made_live, so_far, came_on}
use Rattle.silo_opening.proofs.creation.create.Goals as goal

pub returns-in_err-prepare-clause-moments : goal.returns-in_err-prepare-clause-moments
returns-in_err-prepare-clause-moments g c told shows =
    let far = c.prepare.ensures.moments told shows in
    record { moments = so_far c.args.program.now _ _ far.moments; shows = far.shows }

pub returns-in_err-fill-clause-moments : goal.returns-in_err-fill-clause-moments
returns-in_err-fill-clause-moments g c told shows =
    let first = (c.in_ok-prepare.ensures.prepared told).first shows in
    let filled = c.fill.ensures.filled told first.now.1 in
    record { moments = came_on c.args.program.now _ _ _ first filled.moments filled.now; shows = filled.shows }

pub returns-in_err-fill-clause-beside : goal.returns-in_err-fill-clause-beside
returns-in_err-fill-clause-beside g c told = beside_then _ _ _ (c.prepare.ensures.beside told) (c.fill.ensures.beside told)

pub returns-clause-made : goal.returns-clause-made
returns-clause-made g c told =
    let files = c.in_ok-fill.ensures.files told in
    let count = c.in_ok-fill.ensures.count told in
    let prepared = c.in_ok-prepare.ensures.prepared told in
    record {
      made = λ image is. made_silo c.args.program.now _ files image is;
      live = λ shows image is. made_live c.args.program.now _ files (moment_of (g.H.Host.world c.fill.new.host)) refl (c.fill.ensures.filled told (prepared.first shows).now.1).lacks image is;
      files = files;
      least = omega (arith, count, prepared.least);
      most = omega (arith, count, prepared.most);
    }

pub returns-clause-moments : goal.returns-clause-moments
returns-clause-moments g c told shows =
    let first = (c.in_ok-prepare.ensures.prepared told).first shows in
    let filled = c.fill.ensures.filled told first.now.1 in
    record { moments = came_on c.args.program.now _ _ _ first filled.moments filled.now; shows = filled.shows }

pub returns-clause-beside : goal.returns-clause-beside
returns-clause-beside g c told = beside_then _ _ _ (c.prepare.ensures.beside told) (c.fill.ensures.beside told)

-- ---- a folder that is a silo stops it at the first step

pub returns-in_err-prepare-clause-silo : goal.returns-in_err-prepare-clause-silo
returns-in_err-prepare-clause-silo g c told reads = let kept = c.in_err-prepare.ensures.silo told reads in search (kept, rules)

pub returns-in_err-fill-clause-silo : goal.returns-in_err-fill-clause-silo
returns-in_err-fill-clause-silo g c told reads = none_kept c.in_ok-prepare.field-0 _ _ (c.in_ok-prepare.ensures.silo told reads)

pub returns-clause-silo : goal.returns-clause-silo
returns-clause-silo g c told reads = none_kept c.in_ok-prepare.field-0 _ _ (c.in_ok-prepare.ensures.silo told reads)
