-- Votes of which each is a yes decide as none do.
use Rattle.std.proofs.Common.{◌≡◌, List, [], ◌∷◌, Bool, true, false, true≢false, refl, sym, ap, ◌∙◌, map, filter}
use Rattle.std.specs.Prelude.{not, ◌&&◌, ◌||◌}
use Rattle.std.specs.List.{list_all}
use Rattle.base_types.specs.declared.calls.GrainId.{GrainId}
use Rattle.base_types.specs.declared.calls.UnitNo.{UnitNo}
use Rattle.cell_model.specs.Decisions.{all_decided}
use Rattle.core_model.specs.CoreState.{Write}
use Rattle.core_model.specs.Tests.{first_grain, has_failed, is_vote_on}
use Rattle.open_batch.specs.declared.members.FinishedUnit.{FinishedUnit}
use Rattle.open_batch.specs.Members.{decisions_by}

-- a yes is no failure
not-against : (a b : Bool) → b ≡ true → (a && not b) ≡ false
not-against true true e = refl
not-against true false e = absurd (true≢false (sym e))
not-against false b e = refl

both : (a b : Bool) → (a && b) ≡ true → (a ≡ true) × (b ≡ true)
both true b e = (refl, e)
both false b e = absurd (true≢false (sym e))

-- no grain's file failed
none-failed : (votes : List (GrainId × Bool)) (g : GrainId) → list_all (λ (v : GrainId × Bool). v.1) votes ≡ true → has_failed [] g ≡ has_failed votes g
none-failed [] g e = refl
none-failed (v ∷ votes) g e =
    let yes = both v.1 (list_all (λ (v : GrainId × Bool). v.1) votes) e in
    none-failed votes g yes.1 ∙ sym (ap (λ (b : Bool). b || has_failed votes g) (not-against (is_vote_on g v) v.1 yes.0))

-- so the decisions are those without votes
pub yes-decide : (bad : UnitNo → Bool) (votes : List (GrainId × Bool)) (ms : List FinishedUnit) → list_all (λ (v : GrainId × Bool). v.1) votes ≡ true → decisions_by bad [] ms ≡ decisions_by bad votes ms
yes-decide bad votes ms e =
    ap (λ (failed : GrainId → Bool). all_decided bad (map (λ (m : FinishedUnit). record { unit = m.effect.unit; failed = first_grain (filter failed (map (λ (x : Write). x.0) m.effect.writes)); deps = m.deps.sources }) ms))
    (λ i g. none-failed votes g e i)
