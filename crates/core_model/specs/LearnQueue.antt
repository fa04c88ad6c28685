-- What the grains have to learn.
use Rattle.std.specs.Prelude.{List, not, Option, find, filter, map, take, flat_map}
use Rattle.core_model.specs.CoreState.{UnitNo, GrainId, Write, CoreState}
use Rattle.core_model.specs.Tests.{is_final}

-- the writes of decided units, in batch order, then grain order
abbrev pub to_learn : CoreState → List (UnitNo × GrainId)
to_learn w =
    flat_map (λ u. map (λ (x : Write). (u, x.0)) (w.manager.writes u))
    (filter (λ u. is_final (w.manager.verdict u)) (take w.manager.closed w.manager.order))

-- the first that its grain hasn't learnt
abbrev pub next_learn : CoreState → Option (UnitNo × GrainId)
next_learn w = find (λ t. not (w.cells.learnt t.0 t.1)) (to_learn w)
