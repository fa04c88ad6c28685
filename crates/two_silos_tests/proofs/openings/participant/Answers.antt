use Rattle.std.proofs.Common.{◌≡◌, rules, subst, Some}
use Rattle.silo_nodes.specs.LogCache.{opening_in}
use Rattle.two_silos_tests.specs.Openings.{three}
use Rattle.two_silos_tests.proofs.OpeningBalances.{three-opening}
use Rattle.two_silos_tests.proofs.openings.participant.Goals as goal

pub new-requires : goal.new-requires
new-requires c =
    let made : c.in_ok-balances.balances ≡ three = search rules in
    record { balances = λ g b e. three-opening g b (subst (λ o. opening_in o g ≡ Some b) made e) }
