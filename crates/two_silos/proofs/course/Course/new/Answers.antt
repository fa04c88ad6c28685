use Rattle.std.proofs.Common.{◌≡◌, arith, subst, sym, ap, length}
use Rattle.two_silos.specs.World.{IsOpening}
use Rattle.two_silos.specs.GeneratedEvents.{bank}
use Rattle.two_silos.proofs.CheckLoops.{bank-opening}
use Rattle.two_silos.proofs.course.Course.new.Goals as goal

pub new-requires : goal.new-requires
new-requires c =
    let is : c.in_ok-openings.openings ≡ bank = c.in_ok-openings.ensures in
    let two : length c.in_ok-openings.openings ≡ 2 = ap length is in
    record { few = omega (arith, two); balances = subst IsOpening (sym is) bank-opening }
