-- What the entries say is true of the records and the lines.
use Rattle.std.proofs.Common.{◌≡◌, ℕ, zero, suc, ◌+◌, ◌<◌, ◌≤◌, List, [], ◌∷◌, ◌++◌, length, map, filter, get_or, Bool, true, false, ◌⊎◌, inl, inr, refl, sym, ap, ◌∙◌, subst, arith, Some, None, eqb-true, eq-eqb}
use Rattle.std.specs.Prelude.{◌==◌, slice_get}
use Rattle.std.proofs.lemmas.Bool.{and_parts, and_from, cond_both}
use Rattle.base_types.specs.declared.calls.Origin.{Origin}
use Rattle.base_types.specs.declared.calls.Origin.TheVariants.{Line, Child}
use Rattle.base_types.specs.declared.calls.Outcome.TheVariants as outcome
use Rattle.base_types.specs.declared.entries.Entry.{Entry}
use Rattle.base_types.specs.declared.entries.Settled.{Settled}
use Rattle.base_types.specs.declared.entries.Settled.TheVariants as settled
use Rattle.cell_model.proofs.Units.{Member-left, filter-member, filter-stays}
use Rattle.core_model.specs.declared.phases.Phase.{Phase}
use Rattle.core_model.specs.declared.phases.Phase.TheVariants.{Unborn, Running, Finished, Refused, Ended}
use Rattle.core_model.specs.declared.phases.Verdict.{Verdict}
use Rattle.core_model.specs.declared.phases.Verdict.TheVariants.{Open, Chosen, Condemned, Committed, Aborted}
use Rattle.core_model.specs.CoreState.{UnitNo, GrainId, nobody, Member, Value, Outcome, CoreState}
use Rattle.core_model.specs.Tests.{is_good, is_committed, outcome_of, outcome_in}
use Rattle.core_model.specs.Answers.{effect_of}
use Rattle.core_model.specs.Consistency.{plain_effect, PlainRunsArePlays}
use Rattle.core_model.specs.LegalRuns.{Run, IsLegal, begins, ends}
use Rattle.core_model.specs.Laws.{ChildrenAreKnown, AnswersAreOutcomes}
use Rattle.core_model.specs.Lines as core
use Rattle.core_laws.proofs.Orders.{in_drop, Member-get}
use Rattle.core_laws.proofs.KeptInvariant.{Kept}
use Rattle.core_laws.proofs.CommitOrder.{Split, split-order}
use Rattle.core_laws.proofs.Ends.{kept-ends}
use Rattle.core_laws.proofs.Verdicts.{Turned}
use Rattle.core_laws.proofs.PlainPlays.{plain-ends}
use Rattle.core_laws.proofs.LineEntries.{Rises, rises-part, once-ends}
use Rattle.script_tree.specs.Programs.{ProgramTree}
use Rattle.script_meaning.specs.Play.{Played, play_over}
use Rattle.promise_spec.specs.Programs.{Program}
use Rattle.promise_spec.specs.Records.{Commit, IsRecordOf, AreRecordsOf}
use Rattle.promise_spec.specs.Entries as entry
use Rattle.promise_spec.specs.Entries.{LogEntry, records_among, Standing, new_silo, after_entry, after_entries, Log, records_of, standing_of}
use Rattle.base_types.specs.Origins.{depth_of}
use Rattle.promise_spec.specs.Logs.{IsPrefix}
use Rattle.promise_spec.specs.Images.{IsAboveParent, AreNumbered}
use Rattle.promise_spec.specs.Family.{is_child, answer_of, AreAnswers}
use Rattle.promise_spec.specs.Replies.{IsLoggedReply, IsPlainReply, IsTrueOf, StandInOrder}
use Rattle.promise_spec.specs.UnitRule.{played_by, IsPlayOf}
use Rattle.promise_spec.specs.Courses.{Observed, Course, lines, basis, core_run, core_end}
use Rattle.promise_spec.specs.Explanation.{AreAdded, IsExplained}
use Rattle.promise_spec.proofs.Standings.{grown_records}
use Rattle.promise_spec.proofs.Lists.{some_is, none_at, member_at, either_in, in_append}
use Rattle.promise_laws.specs.Legality.{is_play, applied_run}
use Rattle.promise_laws.proofs.LegalRuns.{is_play-true, ends_alike, legal}
use Rattle.promise_laws.proofs.SerialRecords.{plays_again, above_entries}
use Rattle.promise_laws.proofs.UnitsByRule.{AllSaid, ByRule, all_said, rule-run, rule-begins}
use Rattle.promise_laws.proofs.Tellings.{Tells, Telling, telling-ends}
use Rattle.core_laws.proofs.LoadlessKept.{loadless-kept}
use Rattle.core_laws.proofs.Invariant.{loadless-of}
use Rattle.core_laws.proofs.LoadlessRuns.{split-ends, answers-ends, children-ends, turned-ends}

-- ---- what is known of the core's last state

pub record Known (types : ProgramTree) (lines : List (List ℕ)) (opening : GrainId → List Value) (base : ℕ) (w : CoreState) : Type 0 where
  pub kept : Kept opening w
  pub split : Split w
  pub once : core.EntriesAreOnce w
  pub kids : ChildrenAreKnown w
  pub answers : AnswersAreOutcomes w
  pub turned : Turned w
  pub plays : PlainRunsArePlays (is_play types) w
  pub rule : ByRule types lines base w
  pub tells : Telling types lines w

known-ends : (types : ProgramTree) (lines : List (List ℕ)) (r : Run) → IsLegal (is_play types) r → AllSaid types lines r.events → Known types lines r.opening r.base (ends r)
known-ends types lines r l said = record {
  kept = kept-ends (is_play types) r l;
  split = split-ends r l.above;
  once = once-ends r l.above;
  kids = children-ends r l.above;
  answers = answers-ends r l.above;
  turned = turned-ends r l.above;
  plays = plain-ends (is_play types) r l.effects;
  rule = rule-run types lines r.base r.events (begins r) said (rule-begins types lines r);
  tells = telling-ends (is_play types) types lines r l said;
}

pub known_of : (p : Program) (r : Observed) (c : Course) → 0 < c.opening.base.next → IsExplained p r c → Known p.types (lines r) (standing_of c.opening).states (standing_of c.opening).next (core_end p c)
known_of p r c based is =
    subst (Known p.types (lines r) (standing_of c.opening).states (standing_of c.opening).next) (ends_alike (core_run p c))
    (known-ends p.types (lines r) (applied_run (core_run p c)) (legal (basis p r c) (core_run p c) (above_entries c.opening.base c.opening.entries based) is.loads is.units) (all_said (basis p r c) (core_run p c) is.units))

-- ---- the records are those of the units that meet a test

-- the units in the finish order that meet the test
abbrev pub chosen_by : (Verdict → Bool) → CoreState → List UnitNo
chosen_by test w = filter (λ u. test (w.manager.verdict u)) w.manager.order

-- The test holds of the committed ones, and of nobody who is aborted, or to abort.
pub record Recorded (w : CoreState) (added : List Commit) : Type 0 where
  pub test : Verdict → Bool
  pub good : (v : Verdict) → test v ≡ true → is_good v ≡ true
  pub sure : test Committed ≡ true
  pub records : AreRecordsOf (map (effect_of w) (chosen_by test w)) added

committed-good : (v : Verdict) → is_committed v ≡ true → is_good v ≡ true
committed-good Open e = absurd cc
committed-good Chosen e = absurd cc
committed-good Condemned e = absurd cc
committed-good Committed e = refl
committed-good Aborted e = absurd cc

pub recorded : (opening : GrainId → List Value) (w : CoreState) (added : List Commit) → Kept opening w → Split w → AreAdded w added → Recorded w added
recorded opening w added k s (inl all) = record { test = is_committed; good = committed-good; sure = refl; records = all }
recorded opening w added k s (inr more) = record {
  test = is_good;
  good = λ v e. e;
  sure = refl;
  records = subst (λ es. AreRecordsOf es added) (sym (split-order w (loadless-kept opening w k) s)) more.records;
}

-- each record is that of a unit, at its place
pub unit_of : (w : CoreState) (us : List UnitNo) (log : List Commit) (l : Commit) → AreRecordsOf (map (effect_of w) us) log → Member l log → (u : UnitNo) × Member u us × IsRecordOf (effect_of w u) l
unit_of w [] [] l are m = absurd m
unit_of w [] (k ∷ log) l are m = absurd are
unit_of w (u ∷ us) [] l are m = absurd m
unit_of w (u ∷ us) (k ∷ log) l are (inl same) = (u, inl refl, subst (IsRecordOf (effect_of w u)) (sym same) are.0)
unit_of w (u ∷ us) (k ∷ log) l are (inr m) = (let t = unit_of w us log l are.1 m in (t.0, inr t.1, t.2))

unit_at : (w : CoreState) (us : List UnitNo) (log : List Commit) (m : ℕ) (l : Commit) → AreRecordsOf (map (effect_of w) us) log → slice_get log m ≡ Some l → (u : UnitNo) × (slice_get us m ≡ Some u) × IsRecordOf (effect_of w u) l
unit_at w [] [] m l are there = absurd (none_at m l there)
unit_at w [] (k ∷ log) m l are there = absurd are
unit_at w (u ∷ us) [] m l are there = absurd (none_at m l there)
unit_at w (u ∷ us) (k ∷ log) zero l are there = (u, refl, subst (IsRecordOf (effect_of w u)) (some_is k l there) are.0)
unit_at w (u ∷ us) (k ∷ log) (suc m) l are there = unit_at w us log m l are.1 there

-- and each unit has its record
record_of : (w : CoreState) (us : List UnitNo) (log : List Commit) (u : UnitNo) → AreRecordsOf (map (effect_of w) us) log → Member u us → (l : Commit) × Member l log × IsRecordOf (effect_of w u) l
record_of w [] log u are m = absurd m
record_of w (x ∷ us) [] u are m = absurd are
record_of w (x ∷ us) (k ∷ log) u are (inl same) = (k, inl refl, subst (λ z. IsRecordOf (effect_of w z) k) (sym same) are.0)
record_of w (x ∷ us) (k ∷ log) u are (inr m) = (let t = record_of w us log u are.1 m in (t.0, inr t.1, t.2))

-- a unit that has a record
record HasUnit (w : CoreState) (l : Commit) (u : UnitNo) : Type 0 where
  good : is_good (w.manager.verdict u) ≡ true
  finished : w.units.phase u ≡ Finished
  of : IsRecordOf (effect_of w u) l

pub order-finished : (opening : GrainId → List Value) (w : CoreState) → Kept opening w → (u : UnitNo) → Member u w.manager.order → w.units.phase u ≡ Finished
order-finished opening w k u m = (in_drop _ w (loadless-of opening _ w k.0) 0 u m).0

has_unit : (opening : GrainId → List Value) (w : CoreState) (added : List Commit) → Kept opening w → (a : Recorded w added) → (l : Commit) → Member l added → (u : UnitNo) × HasUnit w l u
has_unit opening w added k a l m =
    let t = unit_of w (chosen_by a.test w) added l a.records m in
    let f = filter-member (λ u. a.test (w.manager.verdict u)) w.manager.order t.0 t.1 in
    (t.0, record { good = a.good (w.manager.verdict t.0) f.1; finished = order-finished opening w k t.0 f.0; of = t.2 })

-- who is committed has a record
has_record : (opening : GrainId → List Value) (w : CoreState) (added : List Commit) → Kept opening w → Recorded w added → (u : UnitNo) → w.units.phase u ≡ Finished → w.manager.verdict u ≡ Committed
    → (l : Commit) × Member l added × IsRecordOf (effect_of w u) l
has_record opening w added k a u f c =
    let t = k.0.placed u f in
    let m : Member u w.manager.order = subst (λ z. Member z w.manager.order) t.3 (Member-get w.manager.order t.0 t.1) in
    record_of w (chosen_by a.test w) added u a.records (filter-stays (λ x. a.test (w.manager.verdict x)) w.manager.order u m (ap a.test c ∙ a.sure))

-- who is aborted has none
no_record : (opening : GrainId → List Value) (w : CoreState) (added : List Commit) → Kept opening w → Recorded w added → (u : UnitNo) → w.manager.verdict u ≡ Aborted → (l : Commit) → Member l added → l.logged.unit ≡ u → ⊥
no_record opening w added k a u dead l m same =
    let t = has_unit opening w added k a l m in
    let one : u ≡ t.0 = sym same ∙ t.1.of.unit in
    let z : false ≡ true = sym (ap is_good dead) ∙ ap (λ x. is_good (w.manager.verdict x)) one ∙ t.1.good in
    absurd cc

-- ---- children and answers

-- a known outcome stands at its index among the children's
outcome_at : (w : CoreState) (ks : List UnitNo) (os : List Outcome) (i : ℕ) (a : Outcome) → map (outcome_of w) ks ≡ map Some os → slice_get os i ≡ Some a → (i < length ks) × (outcome_of w (get_or ks i nobody) ≡ Some a)
outcome_at w [] [] i a e there = absurd (none_at i a there)
outcome_at w [] (o ∷ os) i a e there = absurd cc
outcome_at w (k ∷ ks) [] i a e there = absurd (none_at i a there)
outcome_at w (k ∷ ks) (o ∷ os) zero a e there =
    (let head : outcome_of w k ≡ Some o = cc in (omega arith, head ∙ there))
outcome_at w (k ∷ ks) (o ∷ os) (suc i) a e there =
    (let rest : map (outcome_of w) ks ≡ map Some os = cc in let t = outcome_at w ks os i a rest there in (omega (arith, t.0), t.1))

-- a child's origin
child-true : (u : UnitNo) (i : ℕ) (o : Origin) → is_child u i o ≡ true → (d : ℕ) × (o ≡ Child u i d)
child-true u i (Line n) e = absurd cc
child-true u i (Child p j d) e =
    let t = and_parts (p.0 == u.0) (j == i) e in
    let q : p.0 ≡ u.0 = eqb-true _ _ t.0 in
    let s : j ≡ i = eqb-true _ _ t.1 in
    (d, λ k. Child (record { 0 = q k }) (s k) d)

child-is : (u : UnitNo) (i d : ℕ) (o : Origin) → o ≡ Child u i d → is_child u i o ≡ true
child-is u i d o q = ap (is_child u i) q ∙ and_from (u.0 == u.0) (i == i) (eq-eqb u.0 u.0 refl) (eq-eqb i i refl)

-- an answer by a log in which each record of the child has it, and in which there is one unless it is an abort
answer_in : (log : List Commit) (u : UnitNo) (i : ℕ) (a : Outcome) → ((l : Commit) → Member l log → is_child u i l.logged.origin ≡ true → l.logged.result ≡ a)
    → ((l : Commit) × Member l log × (is_child u i l.logged.origin ≡ true)) ⊎ (a ≡ outcome.Aborted) → a ≡ answer_of log u i
answer_in [] u i a all (inl some) = absurd some.1
answer_in [] u i a all (inr none) = none
answer_in (l ∷ log) u i a all some =
    cond_both (is_child u i l.logged.origin) l.logged.result (answer_of log u i) (λ z. a ≡ z)
    (λ e. sym (all l (inl refl) e))
    (λ e. answer_in log u i a (λ x m. all x (inr m)) (rest e some))
  where
    rest : is_child u i l.logged.origin ≡ false → ((x : Commit) × Member x (l ∷ log) × (is_child u i x.logged.origin ≡ true)) ⊎ (a ≡ outcome.Aborted)
        → ((x : Commit) × Member x log × (is_child u i x.logged.origin ≡ true)) ⊎ (a ≡ outcome.Aborted)
    rest e (inr none) = inr none
    rest e (inl (x, (inl same), is)) = (let z : true ≡ false = sym is ∙ ap (λ (y : Commit). is_child u i y.logged.origin) same ∙ e in absurd cc)
    rest e (inl (x, (inr m), is)) = inl (x, m, is)

-- the opening log's units are below the next number, and each is above its parent
pub next-grows : (before : Standing) (entries : List LogEntry) → before.next ≤ (after_entries before entries).next
next-grows before [] = omega arith
next-grows before (entry.Recorded l ∷ entries) = (let t = next-grows (after_entry before (entry.Recorded l)) entries in omega (arith, t))
next-grows before (entry.Upgraded p ∷ entries) = next-grows (after_entry before (entry.Upgraded p)) entries

pub below-next : (before : Standing) (entries : List LogEntry) (l : Commit) → Member l (records_among entries) → l.logged.unit.0 < (after_entries before entries).next
below-next before [] l m = absurd m
below-next before (entry.Recorded k ∷ entries) l (inl same) = (let t = next-grows (after_entry before (entry.Recorded k)) entries in let q = ap (λ (z : Commit). z.logged.unit.0) same in omega (arith, t, q))
below-next before (entry.Recorded k ∷ entries) l (inr m) = below-next (after_entry before (entry.Recorded k)) entries l m
below-next before (entry.Upgraded p ∷ entries) l m = below-next (after_entry before (entry.Upgraded p)) entries l m

above-parent : (first : ℕ) (log : List Commit) (l : Commit) → AreNumbered first log → Member l log → IsAboveParent l.logged.origin l.logged.unit.0
above-parent first [] l all m = absurd m
above-parent first (k ∷ log) l all (inl same) = subst (λ (z : Commit). IsAboveParent z.logged.origin z.logged.unit.0) (sym same) all.1
above-parent first (k ∷ log) l all (inr m) = above-parent first log l all.3 m

-- no record of the opening log is a child of a unit of the run
no_child : (opening : Log) (u : UnitNo) (i : ℕ) → AreNumbered opening.base.next (records_of opening) → (standing_of opening).next ≤ u.0
    → (l : Commit) → Member l (records_of opening) → is_child u i l.logged.origin ≡ true → ⊥
no_child opening u i numbered late l m e =
    let t = child-true u i l.logged.origin e in
    let above : u.0 < l.logged.unit.0 = subst (λ o. IsAboveParent o l.logged.unit.0) t.1 (above-parent opening.base.next (records_of opening) l numbered m) in
    let below = below-next opening.base opening.entries l m in
    omega (arith, above, below, late)

-- what is known of a unit to commit is its result
good-result : (w : CoreState) (u : UnitNo) (a : Outcome) → w.units.phase u ≡ Finished → is_good (w.manager.verdict u) ≡ true → outcome_of w u ≡ Some a → w.manager.result u ≡ a
good-result w u a f good e = go (w.manager.verdict u) refl
  where
    from : (v : Verdict) → w.manager.verdict u ≡ v → outcome_in Finished v (w.manager.result u) ≡ Some a
    from v q = (λ i. outcome_in (sym f i) (sym q i) (w.manager.result u)) ∙ e

    go : (v : Verdict) → w.manager.verdict u ≡ v → w.manager.result u ≡ a
    go Open q = (let z : false ≡ true = sym (ap is_good q) ∙ good in absurd cc)
    go Chosen q = (let z : None ≡ Some a = from Chosen q in absurd cc)
    go Condemned q = (let z : false ≡ true = sym (ap is_good q) ∙ good in absurd cc)
    go Committed q = some_is (w.manager.result u) a (from Committed q)
    go Aborted q = (let z : false ≡ true = sym (ap is_good q) ∙ good in absurd cc)

-- a child with a known outcome has a record, or was aborted
child-ends : (types : ProgramTree) (lines : List (List ℕ)) (opening : GrainId → List Value) (base : ℕ) (w : CoreState) (added : List Commit) → Known types lines opening base w → Recorded w added
    → (k u : UnitNo) (i d : ℕ) (a : Outcome) → w.units.origin k ≡ Child u i d → (w.units.phase k ≡ Unborn → ⊥) → outcome_of w k ≡ Some a
    → ((l : Commit) × Member l added × (is_child u i l.logged.origin ≡ true)) ⊎ (a ≡ outcome.Aborted)
child-ends types lines opening base w added known are k u i d a origin born e = go (w.units.phase k) refl (w.manager.verdict k) refl
  where
    from : (p : Phase) (v : Verdict) → w.units.phase k ≡ p → w.manager.verdict k ≡ v → outcome_in p v (w.manager.result k) ≡ Some a
    from p v q h = (λ j. outcome_in (sym q j) (sym h j) (w.manager.result k)) ∙ e

    go : (p : Phase) → w.units.phase k ≡ p → (v : Verdict) → w.manager.verdict k ≡ v → ((l : Commit) × Member l added × (is_child u i l.logged.origin ≡ true)) ⊎ (a ≡ outcome.Aborted)
    go Unborn q v h = absurd (born q)
    go Running q v h = (let z : None ≡ Some a = from Running v q h in absurd cc)
    go Refused q v h = inr (sym (some_is outcome.Aborted a (from Refused v q h)))
    go Ended q v h = (let z : true ≡ false = sym (known.rule.5 k q).0 ∙ known.rule.4 k u i d born origin in absurd cc)
    go Finished q Committed h =
        (let t = has_record opening w added known.kept are k q h in inl (t.0, t.1, child-is u i d t.0.logged.origin (t.2.origin ∙ origin)))
    go Finished q Aborted h = inr (sym (some_is outcome.Aborted a (from Finished Aborted q h)))
    go Finished q Open h = (let z : None ≡ Some a = from Finished Open q h in absurd cc)
    go Finished q Chosen h = (let z : None ≡ Some a = from Finished Chosen q h in absurd cc)
    go Finished q Condemned h = (let z : None ≡ Some a = from Finished Condemned q h in absurd cc)

-- the answers of a unit at its end are those of the order
answers_by_order : (types : ProgramTree) (lines : List (List ℕ)) (opening : GrainId → List Value) (log : Log) (w : CoreState) (added : List Commit)
    → Known types lines opening (standing_of log).next w → Recorded w added → AreNumbered log.base.next (records_of log)
    → (u : UnitNo) → (w.units.phase u ≡ Finished) ⊎ (w.units.phase u ≡ Ended) → (w.units.phase u ≡ Unborn → ⊥) → AreAnswers (records_of log ++ added) u (w.manager.answers u)
answers_by_order types lines opening log w added known are numbered u end born i a there =
    let e = outcome_at w (w.units.kids u) (w.manager.answers u) i a (known.answers u end) there in
    let o = known.kids.origin u i e.0 in
    answer_in (records_of log ++ added) u i a
    (λ l m t. elim (either_in l (records_of log) added m) [
      | inl h ↦ absurd (no_child log u i numbered (known.rule.2 u born) l h t)
      | inr h ↦ added-result l h t e.1
    ])
    (elim (child-ends types lines opening _ w added known are (get_or (w.units.kids u) i nobody) u i o.0 a o.1 o.2 e.1) [
      | inl t ↦ inl (t.0, in_append t.0 (records_of log) added (inr t.1), t.2)
      | inr t ↦ inr t
    ])
  where
    added-result : (l : Commit) → Member l added → is_child u i l.logged.origin ≡ true → outcome_of w (get_or (w.units.kids u) i nobody) ≡ Some a → l.logged.result ≡ a
    added-result l m t known_is =
        let h = has_unit opening w added known.kept are l m in
        let c = child-true u i l.logged.origin t in
        let begun : w.units.phase h.0 ≡ Unborn → ⊥ = λ z. (let y : Unborn ≡ Finished = sym z ∙ h.1.finished in absurd cc) in
        let one : get_or (w.units.kids u) i nobody ≡ h.0 = (known.kids.listed h.0 u i c.0 begun (sym h.1.of.origin ∙ c.1)).1 in
        h.1.of.result ∙ good-result w h.0 a h.1.finished h.1.good (subst (λ z. outcome_of w z ≡ Some a) one known_is)

-- ---- each entry is true

-- a unit that was told an outcome has begun for its entry's line
begun-for : (types : ProgramTree) (lines : List (List ℕ)) (opening : GrainId → List Value) (base : ℕ) (w : CoreState) → Known types lines opening base w → (e : Entry) → Member e w.manager.settled
    → (w.units.phase e.unit ≡ Unborn → ⊥) → core.HasBegunFor w e.unit e.line
begun-for types lines opening base w known e m born = elim (known.once.entry e m).2 [
  | inl o ↦ absurd (born (ap w.units.phase o.0 ∙ known.kept.0.outside))
  | inr o ↦ o.0
]

-- the outcome of a plain run is its play's
plain-reply : (p : Program) (r : Observed) (c : Course) → Known p.types (lines r) (standing_of c.opening).states (standing_of c.opening).next (core_end p c) → Recorded (core_end p c) c.added → AreNumbered c.opening.base.next (records_of c.opening)
    → (e : Entry) → Member e (core_end p c).manager.settled → (result : Outcome) → (core_end p c).units.phase e.unit ≡ Ended → (core_end p c).manager.result e.unit ≡ result → IsPlainReply p r c e result
plain-reply p r c known are numbered e m result ended is =
    let born : (core_end p c).units.phase e.unit ≡ Unborn → ⊥ = λ z. (let y : Unborn ≡ Ended = sym z ∙ ended in absurd cc) in
    let begun : core.HasBegunFor (core_end p c) e.unit e.line = begun-for p.types (lines r) (standing_of c.opening).states (standing_of c.opening).next (core_end p c) known e m born in
    let line = known.rule.3 e.unit e.line begun in
    let plain = known.rule.5 e.unit ended in
    let play : IsPlayOf p.types (plain_effect (core_end p c) e.unit) = is_play-true p.types (plain_effect (core_end p c) e.unit) (known.plays e.unit ended plain.1) in
    let depth : depth_of ((core_end p c).units.origin e.unit) ≡ 1 = ap depth_of begun.1 in
    let again : play_over p.types ((core_end p c).units.call e.unit) 1 (new_silo p).states ((core_end p c).manager.answers e.unit) ≡ played_by p.types (plain_effect (core_end p c) e.unit) =
    ap (λ d. play_over p.types ((core_end p c).units.call e.unit) d (new_silo p).states ((core_end p c).manager.answers e.unit)) (sym depth)
    ∙ plays_again p.types (new_silo p).states (plain_effect (core_end p c) e.unit) play (λ x n. absurd n) in
    record {
      call = (core_end p c).units.call e.unit;
      line = line.0;
      plain = λ t. (let z : true ≡ false = sym plain.0 ∙ line.1.1 t in absurd cc);
      answers = (core_end p c).manager.answers e.unit;
      are = subst (λ (order : List Commit). AreAnswers order e.unit ((core_end p c).manager.answers e.unit)) (sym (grown_records c.opening c.added))
          (answers_by_order p.types (lines r) (standing_of c.opening).states c.opening (core_end p c) c.added known are numbered e.unit (inr ended) born);
      enough = ap (λ (x : Played). length x.asked) again ∙ play.asked;
      result = ap (λ (x : Played). x.result) again ∙ play.result ∙ is;
    }

-- the outcome of a committed unit is its record's
logged-reply : (p : Program) (r : Observed) (c : Course) → Known p.types (lines r) (standing_of c.opening).states (standing_of c.opening).next (core_end p c) → Recorded (core_end p c) c.added
    → (e : Entry) → Member e (core_end p c).manager.settled → (result : Outcome) → (core_end p c).units.phase e.unit ≡ Finished → (core_end p c).manager.verdict e.unit ≡ Committed → (core_end p c).manager.result e.unit ≡ result
    → IsLoggedReply c e result
logged-reply p r c known are e m result done sure is =
    let born : (core_end p c).units.phase e.unit ≡ Unborn → ⊥ = λ z. (let y : Unborn ≡ Finished = sym z ∙ done in absurd cc) in
    let begun : core.HasBegunFor (core_end p c) e.unit e.line = begun-for p.types (lines r) (standing_of c.opening).states (standing_of c.opening).next (core_end p c) known e m born in
    let t = has_record (standing_of c.opening).states (core_end p c) c.added known.kept are e.unit done sure in
    record {
      commit = t.0;
      added = t.1;
      of = record { unit = t.2.unit; line = t.2.origin ∙ begun.1 };
      result = t.2.result ∙ is;
    }

told-true : (p : Program) (r : Observed) (c : Course) → Known p.types (lines r) (standing_of c.opening).states (standing_of c.opening).next (core_end p c) → Recorded (core_end p c) c.added → AreNumbered c.opening.base.next (records_of c.opening)
    → (e : Entry) → Member e (core_end p c).manager.settled → (what : Settled) → Tells p.types (lines r) (core_end p c) e what → IsTrueOf p r c e what
told-true p r c known are numbered e m (settled.Done outcome) t = elim t.0 [
  | inl f ↦ inr (plain-reply p r c known are numbered e m outcome f t.1)
  | inr f ↦ inl (logged-reply p r c known are e m outcome f.0 f.1 t.1)
]
told-true p r c known are numbered e m (settled.Lock by grain) t = no_record (standing_of c.opening).states (core_end p c) c.added known.kept are e.unit t
told-true p r c known are numbered e m (settled.Vote grain) t = no_record (standing_of c.opening).states (core_end p c) c.added known.kept are e.unit t
told-true p r c known are numbered e m (settled.Dependency on) t = no_record (standing_of c.opening).states (core_end p c) c.added known.kept are e.unit t
told-true p r c known are numbered e m settled.Disk t = no_record (standing_of c.opening).states (core_end p c) c.added known.kept are e.unit t
told-true p r c known are numbered e m settled.InDoubt t = tt
told-true p r c known are numbered e m (settled.Bad why) t = t

-- ---- the entries that were written

pub in_settled : (p : Program) (c : Course) → IsPrefix c.entries (core_end p c).manager.settled → (e : Entry) → Member e c.entries → Member e (core_end p c).manager.settled
in_settled p c front e m = subst (Member e) (sym front.1) (Member-left e c.entries front.0 m)

-- each is of a line that has begun
pub replies_begun : (p : Program) (r : Observed) (c : Course) → 0 < c.opening.base.next → IsExplained p r c → IsPrefix c.entries (core_end p c).manager.settled → (e : Entry) → Member e c.entries → (1 ≤ e.line) × (e.line ≤ (core_end p c).units.lines)
replies_begun p r c based is front e m =
    let t = (known_of p r c based is).once.entry e (in_settled p c front e m) in
    (omega (arith, t.0), t.1)

-- and so of one that is asked
pub replies_within : (p : Program) (r : Observed) (c : Course) → 0 < c.opening.base.next → IsExplained p r c → IsPrefix c.entries (core_end p c).manager.settled → (e : Entry) → Member e c.entries → (1 ≤ e.line) × (e.line ≤ length (lines r))
replies_within p r c based is front e m =
    let t = replies_begun p r c based is front e m in
    let few = (known_of p r c based is).rule.1 in
    (t.0, omega (arith, t.1, few))

differ-front : (xs ys : List Entry) → core.DifferInLine (xs ++ ys) → core.DifferInLine xs
differ-front [] ys d = tt
differ-front (x ∷ xs) ys d = ((λ y m. d.0 y (Member-left y xs ys m)), differ-front xs ys d.1)

pub replies_once : (p : Program) (r : Observed) (c : Course) → 0 < c.opening.base.next → IsExplained p r c → IsPrefix c.entries (core_end p c).manager.settled → core.DifferInLine c.entries
replies_once p r c based is front = differ-front c.entries front.0 (subst core.DifferInLine front.1 (known_of p r c based is).once.differ)

pub replies_true : (p : Program) (r : Observed) (c : Course) → 0 < c.opening.base.next → IsExplained p r c → AreNumbered c.opening.base.next (records_of c.opening) → IsPrefix c.entries (core_end p c).manager.settled → (e : Entry) → Member e c.entries → IsTrueOf p r c e e.what
replies_true p r c based is numbered front e m =
    let k = known_of p r c based is in
    let there = in_settled p c front e m in
    told-true p r c k (recorded (standing_of c.opening).states (core_end p c) c.added k.kept k.split is.records) numbered e there e.what (k.tells e there)

-- ---- and their order

stand-front : (w : CoreState) (xs ys : List Entry) → core.SettleInOrder w (xs ++ ys) → core.SettleInOrder w xs
stand-front w [] ys s = tt
stand-front w (x ∷ xs) ys s = ((λ y m. s.0 y (Member-left y xs ys m)), stand-front w xs ys s.1)

-- the unit of an earlier entry has the earlier place
places-of : (w : CoreState) (xs : List Entry) (i j : ℕ) (d e : Entry) → core.SettleInOrder w xs → slice_get xs i ≡ Some d → slice_get xs j ≡ Some e → i < j → w.units.phase d.unit ≡ Finished → w.units.phase e.unit ≡ Finished
    → w.manager.place d.unit < w.manager.place e.unit
places-of w [] i j d e s there later lt f g = absurd (none_at i d there)
places-of w (x ∷ xs) i zero d e s there later lt f g = absurd (omega (arith, lt))
places-of w (x ∷ xs) zero (suc j) d e s there later lt f g =
    let same : x ≡ d = some_is x d there in
    subst (λ (z : Entry). w.units.phase z.unit ≡ Finished → w.manager.place z.unit < w.manager.place e.unit) same (λ h. s.0 e (member_at j e xs later) h g) f
places-of w (x ∷ xs) (suc i) (suc j) d e s there later lt f g = places-of w xs i j d e s.1 there later (omega (arith, lt)) f g

-- and the earlier record
pub rises-filter : (place : UnitNo → ℕ) (test : UnitNo → Bool) (us : List UnitNo) → Rises place us → Rises place (filter test us)
rises-filter place test [] s = tt
rises-filter place test (u ∷ us) s =
    cond_both (test u) (u ∷ filter test us) (filter test us) (Rises place)
    (λ e. ((λ x m. s.0 x (filter-member test us x m).0), rises-filter place test us s.1))
    (λ e. rises-filter place test us s.1)

index-of : (place : UnitNo → ℕ) (us : List UnitNo) (m n : ℕ) (u v : UnitNo) → Rises place us → slice_get us m ≡ Some u → slice_get us n ≡ Some v → place u < place v → m < n
index-of place [] m n u v s there later lt = absurd (none_at m u there)
index-of place (x ∷ us) zero zero u v s there later lt =
    (let same = ap place (some_is u v (sym there ∙ later)) in absurd (omega (arith, lt, same)))
index-of place (x ∷ us) zero (suc n) u v s there later lt = omega arith
index-of place (x ∷ us) (suc m) zero u v s there later lt =
    (let same = ap place (some_is x v later) in let less = s.0 u (member_at m u us there) in absurd (omega (arith, lt, same, less)))
index-of place (x ∷ us) (suc m) (suc n) u v s there later lt = (let t = index-of place us m n u v s.1 there later lt in omega (arith, t))

pub order-rises : (opening : GrainId → List Value) (w : CoreState) → Kept opening w → Rises w.manager.place w.manager.order
order-rises opening w k =
    rises-part _ w (loadless-of opening _ w k.0) w.manager.order 0 (λ j h. (let e : j ≡ 0 + j = omega arith in (omega (arith, h), ap (λ z. get_or w.manager.order z nobody) e)))

pub replies_ordered : (p : Program) (r : Observed) (c : Course) → 0 < c.opening.base.next → IsExplained p r c → IsPrefix c.entries (core_end p c).manager.settled → StandInOrder c.entries c.added
replies_ordered p r c based is front i j m n d e a b at_i at_j at_m at_n of_d of_e lt =
    let w : CoreState = core_end p c in
    let k = known_of p r c based is in
    let opening : GrainId → List Value = (standing_of c.opening).states in
    let are : Recorded w c.added = recorded opening w c.added k.kept k.split is.records in
    let us : List UnitNo = chosen_by are.test w in
    let x = unit_at w us c.added m a are.records at_m in
    let y = unit_at w us c.added n b are.records at_n in
    let rises : Rises w.manager.place us = rises-filter w.manager.place (λ u. are.test (w.manager.verdict u)) w.manager.order (order-rises opening w k.kept) in
    let one : d.unit ≡ x.0 = sym of_d.unit ∙ x.2.unit in
    let other : e.unit ≡ y.0 = sym of_e.unit ∙ y.2.unit in
    let done : (u : UnitNo) (i : ℕ) → slice_get us i ≡ Some u → w.units.phase u ≡ Finished = λ u i q.
    order-finished opening w k.kept u (filter-member (λ z. are.test (w.manager.verdict z)) w.manager.order u (member_at i u us q)).0 in
    let places = places-of w c.entries i j d e (stand-front w c.entries front.0 (subst (core.SettleInOrder w) front.1 k.once.order)) at_i at_j lt
    (ap w.units.phase one ∙ done x.0 m x.1) (ap w.units.phase other ∙ done y.0 n y.1) in
    index-of w.manager.place us m n x.0 y.0 rises x.1 y.1 (subst (λ z. w.manager.place x.0 < w.manager.place z) other (subst (λ z. w.manager.place z < w.manager.place e.unit) one places))
