use Rattle.std.proofs.Common.{rules}
use Rattle.std.proofs.lemmas.List.Sorted.{answers_always}
use Rattle.base_types.proofs.KeyOrders.{searched}
use Rattle.base_types.proofs.ascending_map.place_of.Goals as goal

pub returns-clause-found : goal.returns-clause-found
returns-clause-found g c =
    let facts = c.binary_search_by_key.ensures in
    (searched g.met.K.Ord.total c.args.entries.now c.args.key.now c.binary_search_by_key.result c.requires facts.bound
    (facts.position (λ entry. entry.0) (answers_always _ _ _ (λ f a r after called. search rules)))).0

pub returns-clause-absent : goal.returns-clause-absent
returns-clause-absent g c =
    let facts = c.binary_search_by_key.ensures in
    (searched g.met.K.Ord.total c.args.entries.now c.args.key.now c.binary_search_by_key.result c.requires facts.bound
    (facts.position (λ entry. entry.0) (answers_always _ _ _ (λ f a r after called. search rules)))).1
