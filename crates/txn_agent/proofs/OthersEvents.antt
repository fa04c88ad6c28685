-- What an agent knows of its unit stays by events that aren't the unit's, and by those that don't apply.
use Rattle.std.proofs.Common.{◌≡◌, ℕ, List, [], ◌∷◌, ◌++◌, Bool, true, false, true≢false, refl, sym, ap, ◌∙◌, append-nil}
use Rattle.std.specs.Prelude.{◌&&◌, ◌||◌, if◌then◌else◌, map}
use Rattle.std.proofs.lemmas.Bool.{cond-false}
use Rattle.cell_model.specs.Locks.{holds_lock, is_hold_of, is_update}
use Rattle.core_model.specs.CoreState.{UnitNo, GrainId, Hold, Call, CoreState}
use Rattle.core_model.specs.declared.phases.Phase.TheVariants.{Unborn, Running}
use Rattle.core_model.specs.declared.events.CoreEvent.{CoreEvent}
use Rattle.core_model.specs.Tests.{any, is_over}
use Rattle.core_model.specs.Changes.{swept}
use Rattle.core_model.specs.Events.{applies, does, holds_alone}
use Rattle.core_model.specs.LegalRuns.{Run, ends}
use Rattle.script_tree.specs.Programs.{ProgramTree}
use Rattle.script_meaning.specs.Trails.{Given}
use Rattle.promise_spec.specs.UnitAnswers.{got_by, got_in, given_by}
use Rattle.turn_rules.specs.NextEvent.{with_event, is_own}
use Rattle.turn_rules.specs.UnitFrame.{IsStill, own_holds}
use Rattle.turn_rules.proofs.Growth.{ends-more, got-event}
use Rattle.turn_rules.proofs.Movers.{still-locks}
use Rattle.turn_rules.proofs.AgentLinks.{still-others, given-others, awaiting-others, holds-others}
use Rattle.worker_rules.specs.UnitOwnership.{leaves_unit}
use Rattle.worker_rules.proofs.CallPromises.{leaves-is}
use Rattle.txn_agent.specs.declared.work.Carried.{Carried}
use Rattle.txn_agent.specs.declared.work.Work.{Work}
use Rattle.txn_agent.specs.MachineState.{found_by, source_of}
use Rattle.txn_agent.specs.CoreLink.{IsLinked, IsPaused, IsWaiting, IsOver, IsBarred}
use Rattle.txn_agent.proofs.CoreGrowth.{going-back}
use Rattle.core_laws.proofs.LoadlessKept.{loadless-ends}

-- ---- an event of others

-- who runs has begun
pub runs-born : (w : CoreState) (u : UnitNo) → w.units.phase u ≡ Running → w.units.phase u ≡ Unborn → ⊥
runs-born w u q e = (let t : Unborn ≡ Running = sym e ∙ q in absurd cc)

-- and who is over
over-born : (w : CoreState) (u : UnitNo) → is_over (w.units.phase u) ≡ true → w.units.phase u ≡ Unborn → ⊥
over-born w u o e = absurd (true≢false (sym o ∙ ap is_over e))

-- the unit holds the grain alone, by the grain's locks
abbrev pub alone-is : UnitNo → List Hold → Bool
alone-is u hs = any (λ (h : Hold). is_hold_of u h && is_update h.mode) hs

-- who does is told by the unit's own locks
alone-own : (u : UnitNo) (hs : List Hold) → any (λ (h : Hold). is_hold_of u h && is_update h.mode) hs ≡ any (λ (h : Hold). is_update h.mode) (own_holds u hs)
alone-own u [] = refl
alone-own u (h ∷ hs) = by (is_hold_of u h) (alone-own u hs)
  where
    by : (b : Bool) → any (λ (h : Hold). is_hold_of u h && is_update h.mode) hs ≡ any (λ (h : Hold). is_update h.mode) (own_holds u hs) →
        ((b && is_update h.mode) || any (λ (h : Hold). is_hold_of u h && is_update h.mode) hs) ≡ any (λ (h : Hold). is_update h.mode) (if b then h ∷ own_holds u hs else own_holds u hs)
    by true ih = ap (λ (x : Bool). is_update h.mode || x) ih
    by false ih = ih

-- so it stays
still-alone : (u : UnitNo) (w w' : CoreState) → IsStill u w w' → (g : GrainId) → holds_alone w' u g ≡ holds_alone w u g
still-alone u w w' s g = alone-own u (w'.cells.holds g) ∙ ap (any (λ (h : Hold). is_update h.mode)) (s.own g) ∙ sym (alone-own u (w.cells.holds g))

module _ (types : ProgramTree) (r : Run) (e : CoreEvent) (c : Carried) (leaves : leaves_unit c.unit e ≡ true) where
  -- it is none of the unit's
  other : is_own c.unit e ≡ false
  other = leaves-is c.unit e leaves

  -- the link
  linked-on : (work : Work) (trail : List Given) → (ends r).units.phase c.unit ≡ Running → IsLinked types r c work trail → IsLinked types (with_event r e) c work trail
  linked-on work trail runs l =
      let still = still-others r c.unit e (loadless-ends r l.above) (runs-born (ends r) c.unit runs) other in
      record {
        above = l.above;
        call = still.call ∙ l.call;
        came = still.origin ∙ l.came;
        kind = still.plain ∙ l.kind;
        plainly = l.plainly;
        found = ap (map found_by) still.reads ∙ l.found;
        sources = ap (map source_of) still.reads ∙ l.sources;
        locks = λ g. still-locks c.unit (ends r) (ends (with_event r e)) still g ∙ l.locks g;
        alone = λ g. still-alone c.unit (ends r) (ends (with_event r e)) still g ∙ l.alone g;
      }

  -- where its script asks
  pub paused-on : (work : Work) (trail : List Given) → IsPaused types r c work trail → IsPaused types (with_event r e) c work trail
  paused-on work trail p = record {
    linked = linked-on work trail p.given.running p.linked;
    given = given-others r c.unit trail e (loadless-ends r p.linked.above) other p.given;
  }

  -- where it waits for its child
  pub waiting-on : (work : Work) (trail : List Given) (child : UnitNo) (call : Call) (depth : ℕ) → IsWaiting types r c work trail child call depth → IsWaiting types (with_event r e) c work trail child call depth
  waiting-on work trail child call depth p = record {
    linked = linked-on work trail p.awaits.running p.linked;
    awaits = awaiting-others r c.unit child call depth trail e (loadless-ends r p.linked.above) other p.awaits;
  }

  -- where it is over
  pub over-on : (held : List GrainId) → IsOver r c held → IsOver (with_event r e) c held
  over-on held o =
      let born = over-born (ends r) c.unit o.over in
      record {
        above = o.above;
        over = ap is_over (still-others r c.unit e (loadless-ends r o.above) born other).phase ∙ o.over;
        locks = holds-others r c.unit held e (loadless-ends r o.above) born other o.locks;
      }

  -- where it was stopped
  pub stopped-on : IsBarred r c → IsBarred (with_event r e) c
  stopped-on o = record {
    above = o.above;
    running = (still-others r c.unit e (loadless-ends r o.above) (runs-born (ends r) c.unit o.running) other).phase ∙ o.running;
    stopped = λ going. o.stopped (going-back r e going);
  }

-- ---- an event that doesn't apply

-- the last state is the same
pub ends-as : (r : Run) (e : CoreEvent) → applies (ends r) e ≡ false → ends (with_event r e) ≡ ends r
ends-as r e a = ends-more r e ∙ cond-false (applies (ends r) e) (swept (does (ends r) e)) (ends r) a

-- the unit got nothing
got-as : (r : Run) (e : CoreEvent) (u : UnitNo) → applies (ends r) e ≡ false → got_in (with_event r e) u ≡ got_in r u
got-as r e u a = got-event r e u ∙ ap (λ (t : Bool). got_in r u ++ (if t then got_by (ends r) u e else [])) a ∙ append-nil (got_in r u)

module _ (types : ProgramTree) (r : Run) (e : CoreEvent) (c : Carried) (a : applies (ends r) e ≡ false) where
  same : ends (with_event r e) ≡ ends r
  same = ends-as r e a

  -- where its script asks
  pub paused-as : (work : Work) (trail : List Given) → IsPaused types r c work trail → IsPaused types (with_event r e) c work trail
  paused-as work trail p = record {
    linked = record {
      above = p.linked.above;
      call = ap (λ (w : CoreState). w.units.call c.unit) same ∙ p.linked.call;
      came = ap (λ (w : CoreState). w.units.origin c.unit) same ∙ p.linked.came;
      kind = ap (λ (w : CoreState). w.units.plain c.unit) same ∙ p.linked.kind;
      plainly = p.linked.plainly;
      found = ap (λ (w : CoreState). map found_by (w.units.reads c.unit)) same ∙ p.linked.found;
      sources = ap (λ (w : CoreState). map source_of (w.units.reads c.unit)) same ∙ p.linked.sources;
      locks = λ g. ap (λ (w : CoreState). holds_lock c.unit (w.cells.holds g)) same ∙ p.linked.locks g;
      alone = λ g. ap (λ (w : CoreState). holds_alone w c.unit g) same ∙ p.linked.alone g;
    };
    given = record {
      running = ap (λ (w : CoreState). w.units.phase c.unit) same ∙ p.given.running;
      given = (λ i. given_by (same i) (got-as r e c.unit a i)) ∙ p.given.given;
    };
  }

  -- where it is over
  pub over-as : (held : List GrainId) → IsOver r c held → IsOver (with_event r e) c held
  over-as held o = record {
    above = o.above;
    over = ap (λ (w : CoreState). is_over (w.units.phase c.unit)) same ∙ o.over;
    locks = λ g. ap (λ (w : CoreState). holds_lock c.unit (w.cells.holds g)) same ∙ o.locks g;
  }
