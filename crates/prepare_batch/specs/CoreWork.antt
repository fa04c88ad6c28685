-- The work of the core's open batch.
use Rattle.std.specs.Prelude.{◌≡◌, ℕ, List, [], ◌∷◌, Bool, true, false, Some, map, ⊤}
use Rattle.core_model.specs.CoreState.{GrainId, same_grain, Member, Write, Batch, CoreState}
use Rattle.core_model.specs.declared.effects.Effect.{Effect}
use Rattle.core_model.specs.Settler.{versions_to_write}
use Rattle.prepare_batch.specs.declared.works.FileWork.{FileWork}

-- no two of these writes are of one grain
abbrev pub WritesOnce : List Write → Type 0
WritesOnce [] = ⊤
WritesOnce (x ∷ xs) = ((y : Write) → Member y xs → same_grain y.0 x.0 ≡ false) × WritesOnce xs

-- a play writes each grain once
abbrev pub PlaysWriteOnce : (Effect → Bool) → Type 0
PlaysWriteOnce plays = (e : Effect) → plays e ≡ true → WritesOnce e.writes

-- the plan, with the versions that the core shows for each grain's vote
abbrev pub core_work : (GrainId → ℕ) → CoreState → Batch → List FileWork
core_work at w b = map (λ g. record { grain = g; at = at g; versions = versions_to_write w (Some b) g }) b.plan
