-- What the causes clause explains is a family.
use Rattle.std.proofs.Common.{◌≡◌, ℕ, ◌<◌, ◌≤◌, ◌+◌, zero, suc, List, [], ◌∷◌, ◌++◌, length, map, get_or, Bool, true, false, ◌⊎◌, inl, inr, Option, Some, refl, sym, ap, ◌∙◌, subst, arith, append-nil, eqb-true, eq-eqb}
use Rattle.std.specs.Prelude.{slice_get, if◌then◌else◌, ◌==◌}
use Rattle.std.proofs.lemmas.Bool.{and_parts, and_from, cases_Bool}
use Rattle.std.proofs.lemmas.List.Elements.{All-nil, All-cons}
use Rattle.base_types.specs.declared.calls.Outcome.TheVariants as outcome
use Rattle.base_types.specs.declared.calls.Origin.TheVariants.{Line, Child}
use Rattle.cell_model.proofs.Units.{same_unit-true}
use Rattle.core_model.specs.declared.effects.Read.{Read}
use Rattle.core_model.specs.declared.phases.Phase.{Phase}
use Rattle.core_model.specs.declared.phases.Phase.TheVariants.{Unborn, Running, Finished, Refused, Ended}
use Rattle.core_model.specs.declared.phases.Verdict.{Verdict}
use Rattle.core_model.specs.declared.phases.Verdict.TheVariants.{Open, Chosen, Condemned, Committed, Aborted}
use Rattle.core_model.specs.CoreState.{UnitNo, nobody, Member, Call, Origin, Outcome, CoreState}
use Rattle.core_model.specs.Tests.{is_good, outcome_in, outcome_of}
use Rattle.core_model.specs.Answers.{effect_of}
use Rattle.core_model.specs.Laws.{ChildrenAreKnown, AnswersAreOutcomes}
use Rattle.core_model.specs.Lines.{EntriesAreOnce}
use Rattle.core_model.specs.Holders.{HoldersHaveRead}
use Rattle.core_model.specs.LegalRuns.{Run, IsLegal, ends}
use Rattle.core_laws.proofs.Orders.{Member-get}
use Rattle.core_laws.proofs.HeldLocks.{holders-ends}
use Rattle.core_laws.proofs.LineEntries.{once-ends}
use Rattle.script_tree.specs.Programs.{ProgramTree}
use Rattle.script_meaning.specs.Play.{GrainState, play_over}
use Rattle.script_holding.specs.Holding.{same_grain}
use Rattle.script_meaning.proofs.Grains.{is_same_grain, same_grain_is}
use Rattle.script_meaning.specs.Trails.{answers_of, reads_of, Has, states_of}
use Rattle.promise_spec.specs.Programs.{Program}
use Rattle.promise_spec.specs.Records.{Commit, States, IsRecordOf}
use Rattle.promise_spec.specs.Entries.{records_of, standing_of}
use Rattle.base_types.specs.Origins.{depth_of}
use Rattle.promise_spec.specs.SerialExecution.{played}
use Rattle.promise_spec.specs.Lines.{IsLineCall}
use Rattle.promise_spec.specs.Images.{IsAboveParent, AreNumbered}
use Rattle.promise_spec.specs.Cores.{HasBegun}
use Rattle.promise_spec.specs.Family.{is_child, answer_of, AreAnswers, HasGranted, LeadsTo, IsReached, by_line, by_parent, states_after, IsAskedBefore, IsUnitOf, IsFamily}
use Rattle.promise_spec.specs.Courses.{Observed, Course, order, lines, basis, core_run, core_end}
use Rattle.promise_spec.specs.Explanation.{AreAdded, IsExplained}
use Rattle.promise_spec.proofs.Lists.{head_of, tail_of, none_is, none_at, some_is}
use Rattle.promise_laws.specs.Legality.{is_play, applied_run}
use Rattle.promise_laws.proofs.LegalRuns.{ends_alike, legal}
use Rattle.promise_laws.proofs.SerialRecords.{above_entries}
use Rattle.promise_laws.proofs.AskedChildren.{asks_child}
use Rattle.promise_laws.proofs.UnitAnswers.{outcome-at}
use Rattle.promise_laws.specs.UnitAnswers.{found}
use Rattle.promise_laws.proofs.UnitOrigins.{HasOutcome, Led, Known}
use Rattle.promise_laws.proofs.ToldRuns.{known-ends}
use Rattle.promise_laws.proofs.AddedRecords.{AreSerialOf, added-of, record-unit, unit-record, one-record, StandsAfter, stands-after, reads-stand}
use Rattle.promise_spec.proofs.Standings.{grown_records}
use Rattle.promise_laws.proofs.TrueReplies.{below-next}
use Rattle.core_laws.proofs.LoadlessRuns.{answers-ends, children-ends}

-- What is known at the end of a run: why its units began, the core's laws of children, lines and reads, the units whose
-- records it added, and that no record of before is of a child of one of these units.
pub record Ground (types : ProgramTree) (asked : List (List ℕ)) (w : CoreState) (states : States) (early added : List Commit) : Type 0 where
  pub base : ℕ
  pub known : Known types asked base w
  pub children : ChildrenAreKnown w
  pub answers : AnswersAreOutcomes w
  pub lines : EntriesAreOnce w
  pub holders : HoldersHaveRead w
  pub units : AreSerialOf types states w added
  pub below : (c : Commit) (parent : UnitNo) (index depth : ℕ) → Member c early → c.logged.origin ≡ Child parent index depth → parent.0 < base

-- ---- a record and its unit

-- the record is that of its unit, which finished and is to commit
record IsAdded (w : CoreState) (c : Commit) : Type 0 where
  of : IsRecordOf (effect_of w c.logged.unit) c
  finished : w.units.phase c.logged.unit ≡ Finished
  good : is_good (w.manager.verdict c.logged.unit) ≡ true

-- each added record is such
is-added : (types : ProgramTree) (asked : List (List ℕ)) (w : CoreState) (states : States) (early added : List Commit) → Ground types asked w states early added → (c : Commit) → Member c added → IsAdded w c
is-added types asked w states early added g c m =
    let t = record-unit w g.units.us added g.units.are.records c m in
    let d = g.units.are.done c.logged.unit t.0 in
    record { of = t.1; finished = d.0; good = d.1 }

-- who finished has begun
finished-begun : (w : CoreState) (u : UnitNo) → w.units.phase u ≡ Finished → HasBegun w u
finished-begun w u f z = (let q : Finished ≡ Unborn = sym f ∙ z in cc)

-- the unit is one of the core's
unit-of : (w : CoreState) (c : Commit) → IsAdded w c → IsUnitOf w c
unit-of w c a = record { origin = sym a.of.origin; call = sym a.of.call }

-- a line's record has the line's call
of-line : (types : ProgramTree) (asked : List (List ℕ)) (w : CoreState) (states : States) (early added : List Commit) → Ground types asked w states early added →
    (c : Commit) (n : ℕ) → Member c added → c.logged.origin ≡ Line n → IsLineCall types asked n c.logged.call
of-line types asked w states early added g c n m e =
    let a = is-added types asked w states early added g c m in
    subst (IsLineCall types asked n) (sym a.of.call)
    (g.known.line c.logged.unit n (finished-begun w c.logged.unit a.finished) (sym a.of.origin ∙ e))

-- no two records are of one line
one-of-line : (types : ProgramTree) (asked : List (List ℕ)) (w : CoreState) (states : States) (early added : List Commit) → Ground types asked w states early added →
    (c d : Commit) (n : ℕ) → Member c added → Member d added → c.logged.origin ≡ Line n → d.logged.origin ≡ Line n → c ≡ d
one-of-line types asked w states early added g c d n mc md ec ed =
    let a = is-added types asked w states early added g c mc in
    let b = is-added types asked w states early added g d md in
    one-record w g.units.us added g.units.are.records g.units.are.ascending c d mc md
    (g.lines.one_unit c.logged.unit d.logged.unit n
    (finished-begun w c.logged.unit a.finished, sym a.of.origin ∙ ec)
    (finished-begun w d.logged.unit b.finished, sym b.of.origin ∙ ed))

-- a child is its parent's kid of that index
kid-is : (w : CoreState) → ChildrenAreKnown w → (u p : UnitNo) (i d : ℕ) → HasBegun w u → w.units.origin u ≡ Child p i d → Member u (w.units.kids p)
kid-is w c u p i d b e =
    let t = c.listed u p i d b e in
    subst (λ x. Member x (w.units.kids p)) t.1 (Member-get (w.units.kids p) i t.0)

-- a child is younger
child-younger : (types : ProgramTree) (asked : List (List ℕ)) (w : CoreState) (states : States) (early added : List Commit) → Ground types asked w states early added →
    (c : Commit) (parent : UnitNo) (index depth : ℕ) → Member c added → c.logged.origin ≡ Child parent index depth → parent.0 < c.logged.unit.0
child-younger types asked w states early added g c parent index depth m e =
    let a = is-added types asked w states early added g c m in
    g.children.younger parent c.logged.unit
    (kid-is w g.children c.logged.unit parent index depth (finished-begun w c.logged.unit a.finished) (sym a.of.origin ∙ e))

-- ---- outcomes and answers

-- the test that an origin is a child's
child-true : (u : UnitNo) (index : ℕ) (o : Origin) → is_child u index o ≡ true → (d : ℕ) × (o ≡ Child u index d)
child-true u index (Line n) e = absurd (cc)
child-true u index (Child parent i d) e =
    let p = and_parts (parent.0 == u.0) (i == index) e in
    let a : parent ≡ u = same_unit-true parent u p.0 in let b : i ≡ index = eqb-true i index p.1 in
    (d, λ j. Child (a j) (b j) d)

-- and of that child's
child-is : (u : UnitNo) (index d : ℕ) (o : Origin) → o ≡ Child u index d → is_child u index o ≡ true
child-is u index d o e = ap (is_child u index) e ∙ and_from (u.0 == u.0) (index == index) (eq-eqb u.0 u.0 refl) (eq-eqb index index refl)

-- the answer by a log is that of a record, or there is none
abbrev IsAnswerOf : List Commit → UnitNo → ℕ → Type 0
IsAnswerOf log u i =
    ((c : Commit) × Member c log × (is_child u i c.logged.origin ≡ true) × (answer_of log u i ≡ c.logged.result))
    ⊎ (((c : Commit) → Member c log → is_child u i c.logged.origin ≡ false) × (answer_of log u i ≡ outcome.Aborted))

answer-cases : (log : List Commit) (u : UnitNo) (i : ℕ) → IsAnswerOf log u i
answer-cases [] u i = inr ((λ c m. absurd m), refl)
answer-cases (l ∷ log) u i = elim (cases_Bool (is_child u i l.logged.origin)) [
  | inl e ↦ inl (l, inl refl, e, ap (λ (b : Bool). if b then l.logged.result else answer_of log u i) e)
  | inr e ↦
      let skipped : answer_of (l ∷ log) u i ≡ answer_of log u i = ap (λ (b : Bool). if b then l.logged.result else answer_of log u i) e in
      elim (answer-cases log u i) [
        | inl t ↦ inl (t.0, inr t.1, t.2, skipped ∙ t.3)
        | inr t ↦ inr ((λ c m. elim m [ inl q ↦ ap (λ (x : Commit). is_child u i x.logged.origin) q ∙ e | inr q ↦ t.0 c q ]), skipped ∙ t.1)
      ]
]

-- what stands before has no part in it
answer-later : (early added : List Commit) (u : UnitNo) (i : ℕ) → ((c : Commit) → Member c early → is_child u i c.logged.origin ≡ true → ⊥) → answer_of (early ++ added) u i ≡ answer_of added u i
answer-later [] added u i none = refl
answer-later (l ∷ early) added u i none = elim (cases_Bool (is_child u i l.logged.origin)) [
  | inl e ↦ absurd (none l (inl refl) e)
  | inr e ↦ ap (λ (b : Bool). if b then l.logged.result else answer_of (early ++ added) u i) e ∙ answer-later early added u i (λ c m q. none c (inr m) q)
]

-- the outcome of a unit to commit is its result
good-outcome : (p : Phase) (v : Verdict) (result o : Outcome) → p ≡ Finished → is_good v ≡ true → outcome_in p v result ≡ Some o → o ≡ result
good-outcome p v result o f good e = go v good (ap (λ (x : Phase). outcome_in x v result) (sym f) ∙ e)
  where
    go : (v : Verdict) → is_good v ≡ true → outcome_in Finished v result ≡ Some o → o ≡ result
    go Open q h = absurd (cc)
    go Chosen q h = absurd (cc)
    go Condemned q h = absurd (cc)
    go Committed q h = some_is o result (sym h)
    go Aborted q h = absurd (cc)

-- that of each other one that is no plain run is an abort
other-outcome : (p : Phase) (v : Verdict) (result o : Outcome) → (p ≡ Ended → ⊥) → (v ≡ Committed → ⊥) → outcome_in p v result ≡ Some o → o ≡ outcome.Aborted
other-outcome Unborn v result o whole undone e = absurd (cc)
other-outcome Running v result o whole undone e = absurd (cc)
other-outcome Refused v result o whole undone e = some_is o outcome.Aborted (sym e)
other-outcome Ended v result o whole undone e = absurd (whole refl)
other-outcome Finished Open result o whole undone e = absurd (cc)
other-outcome Finished Chosen result o whole undone e = absurd (cc)
other-outcome Finished Condemned result o whole undone e = absurd (cc)
other-outcome Finished Committed result o whole undone e = absurd (undone refl)
other-outcome Finished Aborted result o whole undone e = some_is o outcome.Aborted (sym e)

-- a child's outcome is its answer by the order
answer-is : (types : ProgramTree) (asked : List (List ℕ)) (w : CoreState) (states : States) (early added : List Commit) → Ground types asked w states early added →
    (u : UnitNo) (i : ℕ) (o : Outcome) → HasOutcome w u i o → o ≡ answer_of (early ++ added) u i
answer-is types asked w states early added g u i o h = by_record (answer-cases added u i) ∙ sym late
  where
    late : answer_of (early ++ added) u i ≡ answer_of added u i
    late = answer-later early added u i (λ c m e.
        (let t = child-true u i c.logged.origin e in
        let below : u.0 < g.base = g.below c u i t.0 m t.1 in
        let above : g.base ≤ u.0 = g.known.numbered u (g.known.led h.kid u i h.depth h.begun h.origin).parent in
        omega (arith, below, above)))

    by_record : IsAnswerOf added u i → o ≡ answer_of added u i
    by_record (inl t) =
        let a = is-added types asked w states early added g t.0 t.1 in
        let e = child-true u i t.0.logged.origin t.2 in
        let there = g.children.listed t.0.logged.unit u i e.0 (finished-begun w t.0.logged.unit a.finished) (sym a.of.origin ∙ e.1) in
        let kid = g.children.listed h.kid u i h.depth h.begun h.origin in
        let same : h.kid ≡ t.0.logged.unit = sym kid.1 ∙ there.1 in
        let known : outcome_of w t.0.logged.unit ≡ Some o = ap (outcome_of w) (sym same) ∙ h.outcome in
        good-outcome (w.units.phase t.0.logged.unit) (w.manager.verdict t.0.logged.unit) (w.manager.result t.0.logged.unit) o a.finished a.good known
        ∙ sym a.of.result ∙ sym t.3
    by_record (inr t) =
        other-outcome (w.units.phase h.kid) (w.manager.verdict h.kid) (w.manager.result h.kid) o
        (λ e. (let q : true ≡ false = sym (g.known.ended h.kid e) ∙ g.known.whole h.kid u i h.depth h.begun h.origin in cc))
        (λ v.
        (let r = unit-record w g.units.us added g.units.are.records h.kid (g.units.are.all h.kid v) in
        let q : true ≡ false = sym (child-is u i h.depth r.0.logged.origin (r.2.origin ∙ h.origin)) ∙ t.0 r.0 r.1 in cc))
        h.outcome
        ∙ sym t.1

-- a record's answers are its children's outcomes
answers-are : (types : ProgramTree) (asked : List (List ℕ)) (w : CoreState) (states : States) (early added : List Commit) → Ground types asked w states early added →
    (c : Commit) → Member c added → AreAnswers (early ++ added) c.logged.unit c.logged.answers
answers-are types asked w states early added g c m i answer there =
    let u : UnitNo = c.logged.unit in
    let a = is-added types asked w states early added g c m in
    let outcomes : map (outcome_of w) (w.units.kids u) ≡ map Some c.logged.answers = g.answers u (inl a.finished) ∙ ap (map Some) (sym a.of.answers) in
    let at = outcome-at (outcome_of w) (w.units.kids u) c.logged.answers outcomes i answer there in
    let kid = g.children.origin u i at.0 in
    answer-is types asked w states early added g u i answer
    (record { kid = get_or (w.units.kids u) i nobody; depth = kid.0; begun = kid.2; origin = kid.1; outcome = at.1 })

-- ---- a record's play asks for its children

-- the outcome at an index is the answer there
answer-at : (f : UnitNo → Option Outcome) (ks : List UnitNo) (os : List Outcome) → map f ks ≡ map Some os → (j : ℕ) (o : Outcome) → j < length ks → f (get_or ks j nobody) ≡ Some o → slice_get os j ≡ Some o
answer-at f [] os e j o lt h = absurd (omega (arith, lt))
answer-at f (k ∷ ks) [] e j o lt h = absurd (none_is (f k) (map f ks) e)
answer-at f (k ∷ ks) (x ∷ os) e zero o lt h = sym (head_of (f k) (Some x) (map f ks) (map Some os) e) ∙ h
answer-at f (k ∷ ks) (x ∷ os) e (suc j) o lt h = answer-at f ks os (tail_of (f k) (Some x) (map f ks) (map Some os) e) j o (omega (arith, lt)) h

-- a list that has all of another one at its places begins with it
begins-with : (xs ys : List Outcome) → ((j : ℕ) (o : Outcome) → slice_get xs j ≡ Some o → slice_get ys j ≡ Some o) → (more : List Outcome) × (ys ≡ xs ++ more)
begins-with [] ys h = (ys, refl)
begins-with (x ∷ xs) [] h = absurd (none_at 0 x (h 0 x refl))
begins-with (x ∷ xs) (y ∷ ys) h =
    let t = begins-with xs ys (λ j o e. h (suc j) o e) in
    let same : y ≡ x = some_is y x (h 0 x refl) in
    (t.0, λ i. same i ∷ t.1 i)

-- what holds of all members
all-have : (states : States) (fs : List GrainState) → ((one : GrainState) → Member one fs → states one.0 ≡ one.1) → Has states fs
all-have states [] h = All-nil (λ (one : GrainState). states one.0 ≡ one.1)
all-have states (x ∷ fs) h = All-cons (λ (one : GrainState). states one.0 ≡ one.1) x fs (h x (inl refl)) (all-have states fs (λ one m. h one (inr m)))

-- states that a unit's reads have, a trail of it has
led-has : (types : ProgramTree) (w : CoreState) (child : Call) (p : UnitNo) (i d : ℕ) (states : States) → (led : Led types w child p i d) →
    ((r : Read) → Member r (w.units.reads p) → states r.grain ≡ r.state) → Has states (reads_of led.trail)
led-has types w child p i d states led reads = all-have states (reads_of led.trail) (λ one m.
    (let t = led.reads one m in
    subst (λ (f : GrainState). states f.0 ≡ f.1) t.2 (reads t.0 t.1)))

-- a child's record stands before its parent's, whose play asks for the child
asked-before : (types : ProgramTree) (asked : List (List ℕ)) (w : CoreState) (states : States) (early added : List Commit) → Ground types asked w states early added →
    (c d : Commit) (index depth : ℕ) → Member c added → Member d added → c.logged.origin ≡ Child d.logged.unit index depth → IsAskedBefore types states added c d index depth
asked-before types asked w states early added g c d index depth mc md e =
    let p : UnitNo = d.logged.unit in
    let a : IsAdded w c = is-added types asked w states early added g c mc in
    let b : IsAdded w d = is-added types asked w states early added g d md in
    let begun : HasBegun w c.logged.unit = finished-begun w c.logged.unit a.finished in
    let origin : w.units.origin c.logged.unit ≡ Child p index depth = sym a.of.origin ∙ e in
    let led : Led types w (w.units.call c.logged.unit) p index depth = g.known.led c.logged.unit p index depth begun origin in
    let stands : StandsAfter added c d = stands-after w g.units.us added g.units.are.records g.units.are.ascending c d mc md
    (g.children.first p c.logged.unit (kid-is w g.children c.logged.unit p index depth begun origin) b.finished a.finished) in
    let now : States = states_after states stands.front in
    let has : Has now (reads_of led.trail) = led-has types w (w.units.call c.logged.unit) p index depth now led
    (λ r m. sym (reads-stand types w states states g.units.us added stands.front stands.back d (λ x. refl) g.units.serial g.units.are.records stands.split r m)) in
    let answers : (more : List Outcome) × (w.manager.answers p ≡ answers_of led.trail ++ more) =
    begins-with (answers_of led.trail) (w.manager.answers p) (λ j o there.
    (let h = led.answered j o there in
    let kid = g.children.listed h.kid p j h.depth h.begun h.origin in
    answer-at (outcome_of w) (w.units.kids p) (w.manager.answers p) (g.answers p (inl b.finished)) j o kid.0 (ap (outcome_of w) kid.1 ∙ h.outcome))) in
    let asks = asks_child types (w.units.call p) (depth_of (w.units.origin p)) led.trail (w.units.call c.logged.unit) depth led.is led.named now has answers.0 in
    let same : played types now d.logged ≡ play_over types (w.units.call p) (depth_of (w.units.origin p)) now (answers_of led.trail ++ answers.0) =
    (λ i. play_over types (b.of.call i) (depth_of (b.of.origin i)) now ((b.of.answers ∙ answers.1) i)) in
    record {
      front = stands.front;
      back = stands.back;
      split = stands.split;
      before = stands.before;
      asks = (λ i. slice_get (same i).asked (sym led.count i)) ∙ asks ∙ (λ i. Some (sym a.of.call i, depth));
    }

-- ---- every unit is reached

-- the state of a grain that is read once is that of its read
state-among : (r : Read) (xs : List Read) → Member r xs → ((s : Read) → Member s xs → s.grain ≡ r.grain → s ≡ r) → states_of (map found xs) r.grain ≡ r.state
state-among r [] m same = absurd m
state-among r (x ∷ xs) m same = elim (cases_Bool (same_grain x.grain r.grain)) [
  | inl e ↦ ap (λ (b : Bool). if b then x.state else states_of (map found xs) r.grain) e ∙ ap (λ (s : Read). s.state) (same x (inl refl) (same_grain_is x.grain r.grain e))
  | inr e ↦ ap (λ (b : Bool). if b then x.state else states_of (map found xs) r.grain) e ∙ (elim m [
    | inl q ↦ (let z : true ≡ false = sym (is_same_grain r.grain) ∙ ap (λ (s : Read). same_grain s.grain r.grain) q ∙ e in absurd (cc))
    | inr q ↦ state-among r xs q (λ s h. same s (inr h))
  ])
]

states-of-reads : (rs : List Read) → ((r s : Read) → Member r rs → Member s rs → r.grain ≡ s.grain → r ≡ s) → (r : Read) → Member r rs → states_of (map found rs) r.grain ≡ r.state
states-of-reads rs once r m = state-among r rs m (λ s n e. once s r n m e)

-- what led to a child leads to it over the reads that its parent has at the end
leads-to : (types : ProgramTree) (asked : List (List ℕ)) (w : CoreState) (states : States) (early added : List Commit) → Ground types asked w states early added →
    (u p : UnitNo) (i d : ℕ) → Led types w (w.units.call u) p i d → LeadsTo types w (early ++ added) p u i d
leads-to types asked w states early added g u p i d led =
    let now : States = states_of (map found (w.units.reads p)) in
    let granted : HasGranted w p now = states-of-reads (w.units.reads p) (g.holders.once p) in
    let asks = asks_child types (w.units.call p) (depth_of (w.units.origin p)) led.trail (w.units.call u) d led.is led.named now (led-has types w (w.units.call u) p i d now led granted) [] in
    record {
      states = now;
      answers = answers_of led.trail;
      granted = granted;
      are = λ j answer there. answer-is types asked w states early added g p j answer (led.answered j answer there);
      count = led.count;
      asks = (λ k. slice_get (play_over types (w.units.call p) (depth_of (w.units.origin p)) now (sym (append-nil (answers_of led.trail)) k)).asked (sym led.count k)) ∙ asks;
    }

-- by its number, a unit that has begun is reached
reached : (types : ProgramTree) (asked : List (List ℕ)) (w : CoreState) (states : States) (early added : List Commit) → Ground types asked w states early added →
    (n : ℕ) (u : UnitNo) → u.0 < n → HasBegun w u → IsReached types asked w (early ++ added) u
reached types asked w states early added g zero u lt begun = absurd (omega (arith, lt))
reached types asked w states early added g (suc n) u lt begun =
    by_origin (λ p less b. reached types asked w states early added g n p (omega (arith, lt, less)) b) (w.units.origin u) refl
  where
    by_origin : ((p : UnitNo) → p.0 < u.0 → HasBegun w p → IsReached types asked w (early ++ added) p) → (o : Origin) → w.units.origin u ≡ o → IsReached types asked w (early ++ added) u
    by_origin before (Line m) e = by_line m begun e (g.known.line u m begun e)
    by_origin before (Child p i d) e =
        let led : Led types w (w.units.call u) p i d = g.known.led u p i d begun e in
        by_parent p i d begun e (leads-to types asked w states early added g u p i d led)
        (before p (g.children.younger p u (kid-is w g.children u p i d begun e)) led.parent)

-- ---- the whole

-- the clauses one by one
pub family : (types : ProgramTree) (asked : List (List ℕ)) (w : CoreState) (states : States) (early added : List Commit) → Ground types asked w states early added → IsFamily types asked w states (early ++ added) added
family types asked w states early added g = record {
  line = of-line types asked w states early added g;
  one_each = one-of-line types asked w states early added g;
  answers = answers-are types asked w states early added g;
  younger = child-younger types asked w states early added g;
  asked = asked-before types asked w states early added g;
  units = λ c m. unit-of w c (is-added types asked w states early added g c m);
  reached = λ c m. reached types asked w states early added g (c.logged.unit.0 + 1) c.logged.unit (omega arith)
      (finished-begun w c.logged.unit (is-added types asked w states early added g c m).finished);
}

-- a numbered record is above its parent
above-parent : (first : ℕ) (log : List Commit) (c : Commit) (parent : UnitNo) (index depth : ℕ) → AreNumbered first log → Member c log → c.logged.origin ≡ Child parent index depth → parent.0 < c.logged.unit.0
above-parent first [] c parent index depth numbered m e = absurd m
above-parent first (l ∷ log) c parent index depth numbered (inl q) e =
    let origin : l.logged.origin ≡ Child parent index depth = ap (λ (x : Commit). x.logged.origin) (sym q) ∙ e in
    let above : parent.0 < l.logged.unit.0 = subst (λ (o : Origin). IsAboveParent o l.logged.unit.0) origin numbered.1 in
    let number : c.logged.unit.0 ≡ l.logged.unit.0 = ap (λ (x : Commit). x.logged.unit.0) q in
    omega (arith, above, number)
above-parent first (l ∷ log) c parent index depth numbered (inr m) e = above-parent first log c parent index depth numbered.3 m e

-- what the causes clause explains is a family
pub explained_family : (p : Program) (r : Observed) (c : Course) → 0 < c.opening.base.next → IsExplained p r c → AreNumbered c.opening.base.next (records_of c.opening) →
    IsFamily p.types (lines r) (core_end p c) (standing_of c.opening).states (records_of (order c)) c.added
explained_family p r c based is numbered =
    let above : 0 < (core_run p c).base = above_entries c.opening.base c.opening.entries based in
    let run : Run = applied_run (core_run p c) in
    let lawful : IsLegal (is_play p.types) run = legal (basis p r c) (core_run p c) above is.loads is.units in
    let same : ends run ≡ core_end p c = ends_alike (core_run p c) in
    subst (λ (order : List Commit). IsFamily p.types (lines r) (core_end p c) (standing_of c.opening).states order c.added) (sym (grown_records c.opening c.added))
    (family p.types (lines r) (core_end p c) (standing_of c.opening).states (records_of c.opening) c.added (record {
      base = (core_run p c).base;
      known = known-ends (basis p r c) (core_run p c) above is.units;
      children = subst ChildrenAreKnown same (children-ends run lawful.above);
      answers = subst (λ (w : CoreState). AnswersAreOutcomes w) same (answers-ends run lawful.above);
      lines = subst EntriesAreOnce same (once-ends run lawful.above);
      holders = subst HoldersHaveRead same (holders-ends run lawful.above);
      units = subst (λ (w : CoreState). AreSerialOf p.types (standing_of c.opening).states w c.added) same
          (added-of p.types run c.added lawful (subst (λ (w : CoreState). AreAdded w c.added) (sym same) is.records));
      below = λ d parent index depth m e.
          (let one : parent.0 < d.logged.unit.0 = above-parent c.opening.base.next (records_of c.opening) d parent index depth numbered m e in
          let two : d.logged.unit.0 < (standing_of c.opening).next = below-next c.opening.base c.opening.entries d m in
          omega (arith, one, two));
    }))
