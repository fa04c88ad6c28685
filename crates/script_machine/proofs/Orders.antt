-- The grains that were set, one after the other in ascending order.
use Rattle.std.proofs.Common.{◌≡◌, List, [], ◌∷◌, ◌++◌, refl, ap}
use Rattle.std.specs.Prelude.{if◌then◌else◌}
use Rattle.script_holding.specs.declared.held_grain.Held.{Held}
use Rattle.script_meaning.specs.Play.{GrainState, insert, states_set}

-- the held grains that were set, before these
abbrev pub onto : List Held → List GrainState → List GrainState
onto [] writes = writes
onto (first ∷ rest) writes = if first.written then insert (first.grain, first.state) (onto rest writes) else onto rest writes

-- before none they are all
pub onto_none : (held : List Held) → onto held [] ≡ states_set held
onto_none [] = refl
onto_none (first ∷ rest) = ap (λ (writes : List GrainState). if first.written then insert (first.grain, first.state) writes else writes) (onto_none rest)

-- the last of them comes first
pub onto_push : (held : List Held) (one : Held) (writes : List GrainState) → onto (held ++ one ∷ []) writes ≡ onto held (onto (one ∷ []) writes)
onto_push [] one writes = refl
onto_push (first ∷ rest) one writes = ap (λ (more : List GrainState). if first.written then insert (first.grain, first.state) more else more) (onto_push rest one writes)
