-- Settled entries can be written as lines, where the events carry what fits.
use Rattle.std.proofs.Common.{◌≡◌, ◌⊎◌, inl, inr, ℕ, ◌^◌, ◌<◌, ◌≤◌, Bool, List, [], ◌∷◌, length, Option, Some, None, refl, sym, ap, subst, ◌∙◌, arith, lit<}
use Rattle.std.specs.List.{AllByRecursion}
use Rattle.std.proofs.lemmas.Bool.{and_parts, cond_both, cases_lt}
use Rattle.base_types.specs.declared.entries.Entry.{Entry}
use Rattle.base_types.specs.declared.entries.Settled.{Settled}
use Rattle.base_types.specs.declared.entries.Settled.TheVariants as settled
use Rattle.base_types.specs.declared.calls.Outcome.{Outcome}
use Rattle.base_types.specs.declared.shapes.Shape.{Shape}
use Rattle.cell_model.proofs.Units.{same_grain-true, cases_unit}
use Rattle.field_codec.specs.declared.formats.Format.TheVariants.{Two}
use Rattle.field_codec.specs.Spelling.{ResultFits}
use Rattle.core_model.specs.declared.effects.Effect.{Effect}
use Rattle.core_model.specs.declared.effects.Read.{Read}
use Rattle.core_model.specs.declared.events.CoreEvent.{CoreEvent}
use Rattle.core_model.specs.declared.events.CoreEvent.TheVariants.{Decide}
use Rattle.core_model.specs.declared.phases.Phase.{Phase}
use Rattle.core_model.specs.declared.phases.Phase.TheVariants.{Unborn, Running, Finished, Refused, Ended}
use Rattle.core_model.specs.declared.phases.Verdict.TheVariants.{Open, Aborted}
use Rattle.core_model.specs.Causes.{HasCause, HasLine, IsCaused, decided_state}
use Rattle.core_model.specs.Chains.{WroteGrain}
use Rattle.core_model.specs.Changes.{new_unit, swept, swept_by}
use Rattle.core_model.specs.Events.{applies, can, does, step, run, is_allowed}
use Rattle.core_model.specs.SerialOrder.{AllLoadsTrue}
use Rattle.core_model.specs.LegalRuns.{Run, IsLegal, begins, ends}
use Rattle.core_model.specs.Laws.{extended}
use Rattle.core_model.specs.Tests.{is_over, state_written}
use Rattle.core_model.specs.CoreState.{UnitNo, GrainId, Value, Write, Member, same_grain, put, Units, Batch, CoreState}
use Rattle.core_laws.proofs.EntryCauses.{caused-ends}
use Rattle.core_laws.proofs.Consistency.{depends-ends}
use Rattle.core_laws.proofs.EventCases.{Change, bad, begin, lock, raise, refuse, finish, end_plain, end_snapshot, release, take_batch, vote, decide_some, decide_none, seal_batch, spoil_batch, doubt_batch, learn, emit, halt_run, want, load, decode}
use Rattle.core_laws.proofs.Ends.{kept-ends}
use Rattle.core_laws.proofs.FurtherLaws.{legal-front, grows-ends}
use Rattle.core_laws.proofs.Growth.{Grows}
use Rattle.core_laws.proofs.LineEntries.{once-ends}
use Rattle.core_laws.proofs.Puts.{put-is, put-other, put-from}
use Rattle.script_tree.specs.Programs.{ProgramTree}
use Rattle.promise_spec.specs.Cores.{applied_in}
use Rattle.promise_spec.specs.Outputs.{HasUnit, IsGrainIn, MaySay, IsProper}
use Rattle.promise_spec.specs.UnitRule.{Basis, KeepsUnitRule}
use Rattle.promise_spec.proofs.Lists.{parts_of, each_of, all_of, in_append}
use Rattle.promise_laws.specs.Legality.{is_play, applied_run}
use Rattle.promise_laws.specs.ProperEvents.{IsEventIn}
use Rattle.promise_laws.proofs.LegalRuns.{ends_alike, legal}
use Rattle.promise_laws.proofs.Tellings.{Tells, telling-ends}
use Rattle.promise_laws.proofs.UnitsByRule.{AllSaid, ByRule, all_said, rule-run, rule-begins}

-- ---- what finished units have

module _ (shape : Shape) where
  -- the unit came to its end
  abbrev IsEnded : Phase → Type 0
  IsEnded p = (p ≡ Finished) ⊎ (p ≡ Ended)

  never-unborn : IsEnded Unborn → ⊥
  never-unborn (inl e) = (let z : Unborn ≡ Finished = e in absurd (cc z))
  never-unborn (inr e) = (let z : Unborn ≡ Ended = e in absurd (cc z))

  never-running : IsEnded Running → ⊥
  never-running (inl e) = (let z : Running ≡ Finished = e in absurd (cc z))
  never-running (inr e) = (let z : Running ≡ Ended = e in absurd (cc z))

  never-refused : IsEnded Refused → ⊥
  never-refused (inl e) = (let z : Refused ≡ Finished = e in absurd (cc z))
  never-refused (inr e) = (let z : Refused ≡ Ended = e in absurd (cc z))

  -- the results are within the limits
  abbrev ResultsFit : (UnitNo → Phase) → (UnitNo → Outcome) → Type 0
  ResultsFit phase result = (u : UnitNo) → IsEnded (phase u) → ResultFits Two (result u)

  -- and the written grains are the program's
  abbrev Fits : CoreState → Type 0
  Fits w = ResultsFit w.units.phase w.manager.result × ((u : UnitNo) (g : GrainId) → WroteGrain w.manager.writes u g → IsGrainIn shape g)

  -- a unit in another phase than an end
  other-phase : (phase : UnitNo → Phase) (result : UnitNo → Outcome) (u : UnitNo) (p : Phase) → (IsEnded p → ⊥) → ResultsFit phase result → ResultsFit (put phase u p) result
  other-phase phase result u p never s x = put-from phase u p IsEnded (ResultFits Two (result x)) x (λ q e. absurd (never e)) (λ q e. s x e)

  -- a unit that comes to its end with a result that fits
  new-result : (phase : UnitNo → Phase) (result : UnitNo → Outcome) (u : UnitNo) (p : Phase) (o : Outcome) → ResultFits Two o → ResultsFit phase result → ResultsFit (put phase u p) (put result u o)
  new-result phase result u p o fits s x e = elim (cases_unit x u) [
    | inl same ↦ subst (ResultFits Two) (sym (put-is result u o x same)) fits
    | inr other ↦ subst (ResultFits Two) (sym (put-other result u o x other)) (s x (subst IsEnded (put-other phase u p x other) e))
  ]

  -- a grain that was written is one of the writes
  wrote-in : (g : GrainId) (ws : List Write) (v : List Value) → state_written g ws ≡ Some v → AllByRecursion (λ (w : Write). IsGrainIn shape w.0) ws → IsGrainIn shape g
  wrote-in g [] v is all = (let z : None ≡ Some v = is in absurd (cc z))
  wrote-in g (w ∷ ws) v is all = cond_both (same_grain w.0 g) (Some w.1) (state_written g ws) (λ (o : Option (List Value)). o ≡ Some v → IsGrainIn shape g)
      (λ e q. subst (IsGrainIn shape) (same_grain-true w.0 g e) all.0)
      (λ e q. wrote-in g ws v q all.1)
      is

  -- an event keeps both
  fits-change : (w : CoreState) (e : CoreEvent) (w' : CoreState) → Change w e w' → IsEventIn shape e → Fits w → Fits w'
  fits-change w e w' (bad line why q) d s = s
  fits-change w e w' (begin origin call plain c) d s = (other-phase w.units.phase w.manager.result (new_unit w) Running never-running s.0, s.1)
  fits-change w e w' (lock u g mode running free first here) d s = s
  fits-change w e w' (raise u g mode running free held here uncovered) d s = s
  fits-change w e w' (refuse u g mode why running q) d s = (other-phase w.units.phase w.manager.result u Refused never-refused s.0, s.1)
  fits-change w e w' (finish u effect running plain of_call reads alone) d s = (
    new-result w.units.phase w.manager.result u Finished effect.result d.0 s.0,
    λ x g m. put-from w.manager.writes u effect.writes (λ (ws : List Write). state_written g ws ≡ Some m.0) (IsGrainIn shape g) x (λ q is. wrote-in g effect.writes m.0 is d.1) (λ q is. s.1 x g (m.0, is)) m.1,
  )
  fits-change w e w' (end_plain u effect running plain of_call bare) d s = (new-result w.units.phase w.manager.result u Ended effect.result d.0 s.0, s.1)
  fits-change w e w' (end_snapshot u at outcome running plain kids answer) d s = (new-result w.units.phase w.manager.result u Ended outcome d s.0, s.1)
  fits-change w e w' (release u g over held) d s = s
  fits-change w e w' (take_batch none some) d s = s
  fits-change w e w' (vote n g kept b q number un planned fresh) d s = s
  fits-change w e w' (decide_some n b q number un voted some) d s = s
  fits-change w e w' (decide_none n b q number un voted none) d s = s
  fits-change w e w' (seal_batch n b ds q number un) d s = s
  fits-change w e w' (spoil_batch n b ds q number un) d s = s
  fits-change w e w' (doubt_batch n b ds q number un) d s = s
  fits-change w e w' (learn u g wrote final fresh) d s = s
  fits-change w e w' (emit q) d s = s
  fits-change w e w' (halt_run q) d s = s
  fits-change w e w' (want u g running free fresh) d s = s
  fits-change w e w' (load g u state gone wanted) d s = s

  -- and so do grains that leave memory
  fits-swept : (w : CoreState) → Fits w → Fits (swept w)
  fits-swept w s = go w.cells.capacity
    where
      go : (c : Option ℕ) → Fits (swept_by w c)
      go None = s
      go (Some m) = s

  -- and a list of events
  fits-run : (events : List CoreEvent) (w : CoreState) → AllByRecursion (IsEventIn shape) events → Fits w → Fits (run w events)
  fits-run [] w all s = s
  fits-run (e ∷ events) w all s =
      fits-run events (step w e) all.1
      (cond_both (applies w e) (swept (does w e)) w Fits
      (λ a. fits-swept (does w e) (fits-change w e (does w e) (decode w e (and_parts (is_allowed w e) (can w e) a).1) all.0 s))
      (λ a. s))

  -- nobody has begun
  fits-begins : (r : Run) → Fits (begins r)
  fits-begins r = ((λ u e. absurd (never-unborn e)), (λ u g m. (let z : None ≡ Some m.0 = m.1 in absurd (cc z))))

-- a batch that is decided changes no unit and no write
same-decided : (w : CoreState) (e : CoreEvent) (b : Batch) → ((decided_state w e b).manager.writes ≡ w.manager.writes) × ((decided_state w e b).units ≡ w.units)
same-decided w (Decide n) b = (refl, refl)
same-decided w _ b = (refl, refl)

-- ---- settled entries

module _ (types : ProgramTree) (lines : List (List ℕ)) (shape : Shape) (plays : Effect → Bool) (r : Run) (l : IsLegal plays r) (said : AllSaid types lines r.events)
    (short : length lines < 2 ^ 32) (few : (ends r).units.next ≤ 2 ^ 64) (fit : AllByRecursion (IsEventIn shape) r.events) where
  rule : ByRule types lines r.base (ends r)
  rule = rule-run types lines r.base r.events (begins r) said (rule-begins types lines r)

  -- a unit that has begun has a number above 0
  born : (u : UnitNo) → ((ends r).units.phase u ≡ Unborn → ⊥) → (0 < u.0) × (u.0 < 2 ^ 64)
  born u b = elim (cases_lt u.0 (ends r).units.next) [
    | inl low ↦ (let first = rule.2 u b in let above = l.above in (omega (arith, first, above), omega (arith, low, few)))
    | inr high ↦ absurd (b ((kept-ends plays r l).0.unborn u high))
  ]

  -- the unit has begun
  ended-born : (u : UnitNo) → IsEnded shape ((ends r).units.phase u) → (ends r).units.phase u ≡ Unborn → ⊥
  ended-born u e b = never-unborn shape (subst (IsEnded shape) b e)

  aborted-born : (u : UnitNo) → (ends r).manager.verdict u ≡ Aborted → (ends r).units.phase u ≡ Unborn → ⊥
  aborted-born u dead b = (let z : Open ≡ Aborted = sym ((kept-ends plays r l).0.undecided u (inl b)) ∙ dead in absurd (cc z))

  fits-end : Fits shape (ends r)
  fits-end = fits-run shape r.events (begins r) fit (fits-begins shape r)

  module _ (x : Entry) (there : Member x (ends r).manager.settled) where
    cause : IsCaused r x
    cause = caused-ends plays r l x there

    -- the run up to the event that settled it
    abbrev front : Run
    front = record r { events = cause.before }

    whole : r ≡ extended front (cause.event ∷ cause.later)
    whole = λ i. record r { events = cause.split i }

    lawful : IsLegal plays (extended front (cause.event ∷ cause.later))
    lawful = subst (IsLegal plays) whole l

    front-legal : IsLegal plays front
    front-legal = legal-front plays front (cause.event ∷ cause.later) lawful

    grows : Grows (ends front) (ends r)
    grows = subst (λ (q : Run). Grows (ends front) (ends q)) (sym whole) (grows-ends front (cause.event ∷ cause.later) lawful.above)

    event-in : IsEventIn shape cause.event
    event-in = each_of (IsEventIn shape) r.events cause.event fit (subst (Member cause.event) (sym cause.split) (in_append cause.event cause.before (cause.event ∷ cause.later) (inr (inl refl))))

    fits-front : Fits shape (run (begins r) cause.before)
    fits-front = fits-run shape cause.before (begins r) (parts_of (IsEventIn shape) cause.before (cause.event ∷ cause.later) (subst (AllByRecursion (IsEventIn shape)) cause.split fit)).0 (fits-begins shape r)

    -- the source of a read is nobody, or a unit that has begun
    source-low : (u : UnitNo) (s : Read) → Member s ((ends front).units.reads u) → s.source.0 < 2 ^ 64
    source-low u s m = elim ((kept-ends plays front front-legal).0.source u s m) [
      | inl o ↦ (let none : 0 < 2 ^ 64 = lit< tt in subst (λ (n : UnitNo). n.0 < 2 ^ 64) (sym o.0) none)
      | inr o ↦ (born s.source (ended-born s.source (inl ((grows.3 s.source (ap is_over o.0)).0 ∙ o.0)))).1
    ]

    dependency-low : (u on : UnitNo) → Member on ((ends front).units.deps u) → on.0 < 2 ^ 64
    dependency-low u on m =
        let t = (depends-ends plays front front-legal).1 u on m in
        subst (λ (n : UnitNo). n.0 < 2 ^ 64) t.2 (source-low u t.0 t.1)

    -- what it says may be said
    may-say : (s : Settled) → HasCause (ends front) cause.event (step (ends front) cause.event) x.unit s → Tells types lines (ends r) x s → MaySay shape s
    may-say (settled.Done outcome) c t = subst (ResultFits Two) t.1 (fits-end.0 x.unit (elim t.0 [ inl e ↦ inr e | inr f ↦ inl f.0 ]))
    may-say (settled.Lock other g) c t = (
      (let older = c.older in let low = (born x.unit (aborted-born x.unit t)).1 in omega (arith, older, low)),
      subst (IsEventIn shape) c.refused event-in,
    )
    may-say (settled.Vote g) c t = fits-front.1 x.unit g (subst (λ (ws : UnitNo → List Write). WroteGrain ws x.unit g) (same-decided (ends front) cause.event c.0).0 c.4.wrote)
    may-say (settled.Dependency on) (inl c) t = subst (λ (n : UnitNo). n.0 < 2 ^ 64) c.gone.2 (source-low x.unit c.gone.0 c.gone.1)
    may-say (settled.Dependency on) (inr c) t = dependency-low x.unit on (subst (λ (us : Units). Member on (us.deps x.unit)) (same-decided (ends front) cause.event c.0).1 c.4.source)
    may-say settled.Disk c t = tt
    may-say settled.InDoubt c t = tt
    may-say (settled.Bad why) c t = tt

    -- and is said of a unit, or of nobody where the line is bad
    has-unit : (s : Settled) → HasLine (ends front) x s → Tells types lines (ends r) x s → HasUnit x.unit s
    has-unit (settled.Done outcome) line t = born x.unit (ended-born x.unit (elim t.0 [ inl e ↦ inr e | inr f ↦ inl f.0 ]))
    has-unit (settled.Lock other g) line t = born x.unit (aborted-born x.unit t)
    has-unit (settled.Vote g) line t = born x.unit (aborted-born x.unit t)
    has-unit (settled.Dependency on) line t = born x.unit (aborted-born x.unit t)
    has-unit settled.Disk line t = born x.unit (aborted-born x.unit t)
    has-unit settled.InDoubt line t = born x.unit (ended-born x.unit (inl t))
    has-unit (settled.Bad why) line t = line.0

    proper-one : IsProper shape x
    proper-one =
        let place = (once-ends r l.above).entry x there in
        let tells = telling-ends plays types lines r l said x there in
        let many = rule.1 in
        let low = place.1 in
        record {
          line = (place.0, omega (arith, low, many, short));
          unit = has-unit x.what cause.line tells;
          what = may-say x.what cause.cause tells;
        }

  -- so can all of them
  proper-all : AllByRecursion (IsProper shape) (ends r).manager.settled
  proper-all = all_of (IsProper shape) (ends r).manager.settled proper-one

-- so it is in a run that keeps the unit rule
pub settled-proper : (s : Basis) (shape : Shape) (r : Run) → 0 < r.base → AllLoadsTrue r.opening (begins r) r.events → KeepsUnitRule s r → length s.lines < 2 ^ 32 → (ends r).units.next ≤ 2 ^ 64
    → AllByRecursion (IsEventIn shape) (applied_in r) → AllByRecursion (IsProper shape) (ends r).manager.settled
settled-proper s shape r above loads keeps short few fit =
    let same : ends (applied_run r) ≡ ends r = ends_alike r in
    subst (λ (w : CoreState). AllByRecursion (IsProper shape) w.manager.settled) same
    (proper-all s.types s.lines shape (is_play s.types) (applied_run r) (legal s r above loads keeps) (all_said s r keeps) short
    (subst (λ (w : CoreState). w.units.next ≤ 2 ^ 64) (sym same) few) fit)
