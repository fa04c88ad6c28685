use Rattle.std.proofs.Common.{◌≡◌, ◌∙◌, [], get_or, rules, subst, Some}
use Rattle.silo_nodes.specs.LogCache.{opening_in}
use Rattle.two_silos.proofs.OpenedNodes.{at-any}
use Rattle.two_silos.proofs.openings.nodes_of.Goals as goal

pub new-requires : goal.new-requires
new-requires c =
    let made : c.in_ok-balances.balances ≡ c.index-openings-at.result = search rules in
    let is : c.index-openings-at.result ≡ get_or c.args.openings.now c.loop-at.at [] = at-any c.args.openings.now c.loop-at.at c.index-openings-at.result [] c.loop-at-test.true c.index-openings-at.is in
    record { balances = λ g b e. c.requires.balances c.loop-at.at g b (subst (λ o. opening_in o g ≡ Some b) (made ∙ is) e) }
