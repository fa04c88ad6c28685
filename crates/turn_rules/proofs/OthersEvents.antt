-- Another's event leaves what a unit was given, and what it wants.
use Rattle.std.proofs.Common.{◌≡◌, List, Option, Some, None, false, refl, sym, ap, ◌∙◌, subst, ◌<◌}
use Rattle.std.specs.Prelude.{option_map}
use Rattle.core_model.specs.CoreState.{UnitNo, Call, Origin}
use Rattle.core_model.specs.declared.events.CoreEvent.{CoreEvent}
use Rattle.core_model.specs.LegalRuns.{Run, ends}
use Rattle.script_tree.specs.Programs.{ProgramTree}
use Rattle.script_meaning.specs.Play.{Want, next}
use Rattle.script_meaning.specs.Trails.{Given, locks_of, answers_of}
use Rattle.promise_spec.specs.Cores.{HasBegun}
use Rattle.base_types.specs.Origins.{depth_of}
use Rattle.promise_spec.specs.UnitAnswers.{Got, given_by, wanted_by, got_in}
use Rattle.turn_rules.specs.NextEvent.{with_event, is_own}
use Rattle.turn_rules.specs.Links.{asks_next}
use Rattle.turn_rules.specs.UnitFrame.{IsStill}
use Rattle.turn_rules.proofs.Frame.{got-stays, given-stays, wants-as}
use Rattle.turn_rules.proofs.AgentLinks.{still-others, outcomes-stay}
use Rattle.core_laws.proofs.LoadlessKept.{loadless-ends}

module _ (r : Run) (e : CoreEvent) (u : UnitNo) (above : 0 < r.base) (other : is_own u e ≡ false) where
  -- what it was given is given still
  pub given-on : (trail : List Given) → given_by (ends r) (got_in r u) ≡ Some trail → given_by (ends (with_event r e)) (got_in (with_event r e) u) ≡ Some trail
  given-on trail given =
      subst (λ (l : List Got). given_by (ends (with_event r e)) l ≡ Some trail) (sym (got-stays r u e other))
      (given-stays (ends r) (ends (with_event r e)) (got_in r u) trail (outcomes-stay r e (loadless-ends r above)) given)

  -- a unit that has begun is as it was
  pub still-on : HasBegun (ends r) u → IsStill u (ends r) (ends (with_event r e))
  still-on begun = still-others r u e (loadless-ends r above) begun other

  -- and wants what it wanted
  pub wants-on : (types : ProgramTree) (x : Want) → HasBegun (ends r) u → wanted_by types (ends r) u (got_in r u) ≡ Some x → wanted_by types (ends (with_event r e)) u (got_in (with_event r e) u) ≡ Some x
  wants-on types x begun wants = by (given_by (ends r) (got_in r u)) refl wants
    where
      same : (trail : List Given) → asks_next types (with_event r e) u trail ≡ asks_next types r u trail
      same trail =
          let still : IsStill u (ends r) (ends (with_event r e)) = still-on begun in
          λ i. asked trail (still.call i) (still.origin i)
        where
          asked : List Given → Call → Origin → Want
          asked trail call origin = next types call (depth_of origin) (locks_of trail) (answers_of trail)

      by : (g : Option (List Given)) → given_by (ends r) (got_in r u) ≡ g → option_map (asks_next types r u) g ≡ Some x → wanted_by types (ends (with_event r e)) u (got_in (with_event r e) u) ≡ Some x
      by None q h = absurd cc
      by (Some trail) q h = wants-as types (ends (with_event r e)) u (got_in (with_event r e) u) trail (given-on trail q) ∙ ap Some (same trail) ∙ h
