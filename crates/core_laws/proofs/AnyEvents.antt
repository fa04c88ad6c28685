-- What every event that applies keeps holds after every list of events.
use Rattle.std.proofs.Common.{◌≡◌, ℕ, List, [], ◌∷◌, Bool, true, Option, Some, None}
use Rattle.std.proofs.lemmas.Bool.{and_parts, cond_both}
use Rattle.core_model.specs.CoreState.{GrainId, CoreState}
use Rattle.core_model.specs.Changes.{stays, swept, swept_by}
use Rattle.core_model.specs.Events.{applies, can, does, step, run, is_allowed}
use Rattle.core_model.specs.declared.events.CoreEvent.{CoreEvent}
use Rattle.core_laws.proofs.EventCases.{Change, decode}

-- the state with other grains in memory
abbrev pub with_here : CoreState → (GrainId → Bool) → CoreState
with_here w here = record w { cells = record w.cells { here = here } }

pub step-keeps : (P : CoreState → Type 0) → ((w : CoreState) (e : CoreEvent) (w' : CoreState) → Change w e w' → applies w e ≡ true → P w → P w') → ((w : CoreState) (here : GrainId → Bool) → P w → P (with_here w here)) →
    (w : CoreState) (e : CoreEvent) → P w → P (step w e)
step-keeps P change here w e p = cond_both (applies w e) (swept (does w e)) w P
    (λ a. go (does w e) (does w e).cells.capacity (change w e (does w e) (decode w e (and_parts (is_allowed w e) (can w e) a).1) a p))
    (λ a. p)
  where
    go : (v : CoreState) (c : Option ℕ) → P v → P (swept_by v c)
    go v None q = q
    go v (Some n) q = here v (λ g. stays v g) q

pub run-keeps : (P : CoreState → Type 0) → ((w : CoreState) (e : CoreEvent) (w' : CoreState) → Change w e w' → applies w e ≡ true → P w → P w') → ((w : CoreState) (here : GrainId → Bool) → P w → P (with_here w here)) →
    (es : List CoreEvent) (w : CoreState) → P w → P (run w es)
run-keeps P change here [] w p = p
run-keeps P change here (e ∷ es) w p = run-keeps P change here es (step w e) (step-keeps P change here w e p)
