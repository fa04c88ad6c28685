-- A unit's own wish leaves what its agent knows.
use Rattle.std.proofs.Common.{◌≡◌, Option, Some, None, List, [], ◌++◌, Bool, true, false, refl, sym, ap, ◌∙◌, subst, append-nil, ℕ}
use Rattle.std.specs.Prelude.{if◌then◌else◌, map}
use Rattle.std.proofs.lemmas.Bool.{cond_both}
use Rattle.cell_model.specs.Locks.{holds_lock}
use Rattle.core_model.specs.CoreState.{UnitNo, GrainId, Hold, CoreState}
use Rattle.core_model.specs.declared.events.CoreEvent.TheVariants.{Want}
use Rattle.core_model.specs.declared.events.CoreReply.{CoreReply}
use Rattle.core_model.specs.declared.events.CoreEvent.{CoreEvent}
use Rattle.core_model.specs.Changes.{swept, swept_by}
use Rattle.core_model.specs.Events.{applies, does, step}
use Rattle.core_model.specs.LegalRuns.{Run, ends}
use Rattle.core_laws.proofs.LoadlessKept.{loadless-ends}
use Rattle.script_tree.specs.Programs.{ProgramTree}
use Rattle.script_meaning.specs.Trails.{Given}
use Rattle.script_machine.specs.declared.machine.Pause.{Pause}
use Rattle.promise_spec.specs.UnitAnswers.{Got, got_by, got_in, given_by}
use Rattle.turn_rules.specs.NextEvent.{with_event}
use Rattle.turn_rules.proofs.AgentLinks.{outcomes-stay}
use Rattle.turn_rules.proofs.Frame.{given-stays}
use Rattle.turn_rules.proofs.Growth.{ends-more, got-event}
use Rattle.worker_rules.specs.UnitOwnership.{leaves_unit}
use Rattle.core_access.specs.Sights.{Sight, Tells, Counts, run_seen, saw}
use Rattle.core_access.proofs.Knowledge.{tells-knows}
use Rattle.txn_agent.specs.declared.work.Carried.{Carried}
use Rattle.txn_agent.specs.declared.work.Work.{Work}
use Rattle.txn_agent.specs.MachineState.{found_by, source_of}
use Rattle.txn_agent.specs.CoreLink.{IsPaused, KnowsPaused}
use Rattle.txn_agent.proofs.OthersEvents.{alone-is, paused-on}

-- What a wish leaves of units and of locks.
record IsWished (w w' : CoreState) : Type 0 where
  phase : w'.units.phase ≡ w.units.phase
  call : w'.units.call ≡ w.units.call
  origin : w'.units.origin ≡ w.units.origin
  plain : w'.units.plain ≡ w.units.plain
  reads : w'.units.reads ≡ w.units.reads
  holds : w'.cells.holds ≡ w.cells.holds

-- it does
wished-step : (w : CoreState) (u : UnitNo) (g : GrainId) → IsWished w (step w (Want u g))
wished-step w u g = cond_both (applies w (Want u g)) (swept (does w (Want u g))) w (IsWished w)
    (λ a. go w.cells.capacity)
    (λ a. record { phase = refl; call = refl; origin = refl; plain = refl; reads = refl; holds = refl })
  where
    go : (c : Option ℕ) → IsWished w (swept_by (does w (Want u g)) c)
    go None = record { phase = refl; call = refl; origin = refl; plain = refl; reads = refl; holds = refl }
    go (Some n) = record { phase = refl; call = refl; origin = refl; plain = refl; reads = refl; holds = refl }

module _ (types : ProgramTree) (r : Run) (c : Carried) (work : Work) (trail : List Given) (g : GrainId) (p : IsPaused types r c work trail) where
  -- behind it
  wished : IsWished (ends r) (ends (with_event r (Want c.unit g)))
  wished = subst (IsWished (ends r)) (sym (ends-more r (Want c.unit g))) (wished-step (ends r) c.unit g)

  -- the unit got nothing
  got-none : got_in (with_event r (Want c.unit g)) c.unit ≡ got_in r c.unit
  got-none = got-event r (Want c.unit g) c.unit ∙ by (applies (ends r) (Want c.unit g))
    where
      by : (b : Bool) → got_in r c.unit ++ (if b then got_by (ends r) c.unit (Want c.unit g) else []) ≡ got_in r c.unit
      by true = append-nil (got_in r c.unit)
      by false = append-nil (got_in r c.unit)

  -- the link stays
  pub paused-wished : IsPaused types (with_event r (Want c.unit g)) c work trail
  paused-wished = record {
    linked = record {
      above = p.linked.above;
      call = ap (λ f. f c.unit) wished.call ∙ p.linked.call;
      came = ap (λ f. f c.unit) wished.origin ∙ p.linked.came;
      kind = ap (λ f. f c.unit) wished.plain ∙ p.linked.kind;
      plainly = p.linked.plainly;
      found = ap (λ f. map found_by (f c.unit)) wished.reads ∙ p.linked.found;
      sources = ap (λ f. map source_of (f c.unit)) wished.reads ∙ p.linked.sources;
      locks = λ h. ap (λ (f : GrainId → List Hold). holds_lock c.unit (f h)) wished.holds ∙ p.linked.locks h;
      alone = λ h. ap (λ (f : GrainId → List Hold). alone-is c.unit (f h)) wished.holds ∙ p.linked.alone h;
    };
    given = record {
      running = ap (λ f. f c.unit) wished.phase ∙ p.given.running;
      given = subst (λ (l : List Got). given_by (ends (with_event r (Want c.unit g))) l ≡ Some trail) (sym got-none)
          (given-stays (ends r) (ends (with_event r (Want c.unit g))) (got_in r c.unit) trail (outcomes-stay r (Want c.unit g) (loadless-ends r p.linked.above)) p.given.given);
    };
  }

-- what is known where the script asks is known behind the unit's own wish
pub wish-paused : (may : CoreEvent → Bool) (types : ProgramTree) (s t : Sight) (c : Carried) (work : Work) (pause : Pause) (g : GrainId) (y : CoreReply) → Tells may s (Want c.unit g) y t → Counts s
    → KnowsPaused types s c work pause → KnowsPaused types t c work pause
wish-paused may types s t c work pause g y l counts k = record {
  trail = k.trail;
  at_work = k.at_work;
  ready = k.ready;
  linked = tells-knows (leaves_unit c.unit) (λ r. IsPaused types r c work k.trail) (λ r e h p. paused-on types r e c h work k.trail p) (λ r. IsPaused types r c work k.trail)
      may s t (Want c.unit g) y l counts (λ p. paused-wished types (run_seen (saw s l.rest)) c work k.trail g p) k.linked;
}
