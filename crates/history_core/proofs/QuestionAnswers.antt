-- What is answered to a question, by what is kept, is the model's answer.
use Rattle.std.proofs.Common.{◌≡◌, ℕ, zero, suc, ◌≤◌, List, [], ◌∷◌, Bool, true, false, ◌&&◌, ◌||◌, not, refl, sym, ap, ◌∙◌, subst, Option, Some, None, is_some, is_none, nat_lt, cond, length, filter, find, map, take, slice_get, arith, inl, inr}
use Rattle.std.specs.Prelude.{if◌then◌else◌, option_map}
use Rattle.std.proofs.lemmas.Bool.{and_parts, cases_Bool, cond-true, cond-false, lt-ltb, le-ltb}
use Rattle.std.proofs.lemmas.Option.{slice_get_within, slice_get_cases}
use Rattle.core_model.specs.CoreState.{UnitNo, GrainId, Entry, Batch, CoreState}
use Rattle.core_model.specs.Tests.{members, waiting, is_bad, is_good, is_aborted, outcome_in, outcome_of, first_grain}
use Rattle.core_model.specs.LearnQueue.{to_learn, next_learn}
use Rattle.core_model.specs.Events.{applies, can, is_allowed}
use Rattle.core_model.specs.declared.events.CoreEvent.TheVariants.{Take}
use Rattle.core_model.specs.Answers.{view, next_wanted}
use Rattle.core_model.specs.Settler.{Step, Seals, Writes, Takes, Rests, has_step, first_unvoted, load_step, take_step, last_step, learn_step, later_step, undecided_step, batch_step, settler_step, versions_to_write, to_commit, write_work, work_in}
use Rattle.core_model.specs.declared.questions.CoreQuestion.{CoreQuestion}
use Rattle.core_model.specs.declared.questions.CoreAnswer.{CoreAnswer}
use Rattle.core_model.specs.declared.questions.SettlerWork.{SettlerWork}
use Rattle.core_model.specs.declared.questions.SettlerWork.TheVariants as work
use Rattle.cell_table.specs.Table.{here_in}
use Rattle.unit_table.specs.Table.{halt_in, verdict_in, outcome_known, wants_in}
use Rattle.open_batch.specs.declared.members.FinishedUnit.{FinishedUnit}
use Rattle.open_batch.specs.Members.{versions_by, to_commit_by}
use Rattle.open_batch.specs.TakenBatch.{TakenBatch, view_by}
use Rattle.open_batch.specs.ShownBatch.{ShowsBatch, AreUnits}
use Rattle.open_batch.proofs.ModelBatch.{units-taken, view-link, versions-link, commit-link}
use Rattle.open_batch.proofs.Stages.{next-link}
use Rattle.history_core.specs.declared.parts.Parts.{Parts}
use Rattle.history_core.specs.KeptParts.{PartsStand, StandsForReached, IsCoreReached, ShowsOpen, owed_in, members_in}
use Rattle.history_core.specs.Questions.{AnswersQuestion, ShowsStep, rest_step, wanted_in}
use Rattle.history_core.proofs.OpenBatches.{to-cases}
use Rattle.history_core.proofs.Finishes.{owed-within}
use Rattle.history_core.proofs.Takes.{are-units}

-- the answer to that question is the answer to this one
pub answers-that : (p : Parts) (q r : CoreQuestion) (a : CoreAnswer) → q ≡ r → AnswersQuestion p r a → AnswersQuestion p q a
answers-that p q r a is h = subst (λ x. AnswersQuestion p x a) (sym is) h

-- ---- units and grains

pub outcome-is : (p : Parts) (w : CoreState) (u : UnitNo) → PartsStand p w → outcome_known p.units u ≡ outcome_of w u
outcome-is p w u s = λ i. outcome_in ((sym s.units i).phase u) (sym s.verdict i u) (sym s.result i u)

first-kept : {A : Type 0} (test : A → Bool) (xs : List A) → slice_get (filter test xs) 0 ≡ find test xs
first-kept test [] = refl
first-kept test (x ∷ xs) = by_test (test x) (first-kept test xs)
  where
    by_test : (t : Bool) → slice_get (filter test xs) 0 ≡ find test xs → slice_get (cond t (x ∷ filter test xs) (filter test xs)) 0 ≡ cond t (Some x) (find test xs)
    by_test true rest = refl
    by_test false rest = rest

pub learn-is : (p : Parts) (w : CoreState) → PartsStand p w → slice_get p.learn.pairs 0 ≡ next_learn w
learn-is p w s = ap (λ (ts : List (UnitNo × GrainId)). slice_get ts 0) s.learn ∙ first-kept (λ (t : UnitNo × GrainId). not (w.cells.learnt t.0 t.1)) (to_learn w)

-- the first wanted grain that isn't in memory
pub wanted-is : (p : Parts) (w : CoreState) → PartsStand p w → wanted_in p ≡ next_wanted w
wanted-is p w s = λ i. first_grain (filter (λ (g : GrainId). not (sym (s.cells.here g) i)) (map (λ (t : UnitNo × GrainId). t.1) (sym s.units i).wants))

pub next-is : (p : Parts) (w : CoreState) → PartsStand p w → slice_get p.entries.entries p.entries.emitted ≡ slice_get w.manager.settled w.manager.emitted
next-is p w s = λ i. slice_get (sym s.settled i) (sym s.emitted i)

-- ---- the open batch

-- so many units wait
pub members-within : (p : Parts) → StandsForReached p → (n : ℕ) (ms : List FinishedUnit) → n ≡ owed_in p.batch → ms ≡ p.waiting.items → n ≡ length (take n ms)
members-within p k n ms e q = all n ms (let t = owed-within p.batch p.waiting.items k.0.manager.batch (to-cases p.batch p.waiting.items k.0.manager.batch k.1.batch) in let l = ap (λ (xs : List FinishedUnit). length xs) q in omega (arith, t, e, l))
  where
    all : (m : ℕ) (xs : List FinishedUnit) → m ≤ length xs → m ≡ length (take m xs)
    all zero xs h = refl
    all (suc m) [] h = absurd (omega arith)
    all (suc m) (x ∷ xs) h = ap suc (all m xs (omega arith))

shown-some : (x : TakenBatch) (ms : List FinishedUnit) (b : Option Batch) → ShowsOpen (Some x) ms b → (c : Batch) × (b ≡ Some c) × ShowsBatch x (take c.size ms) c
shown-some x ms None s = absurd s
shown-some x ms (Some c) s = (c, refl, s)

shown-none : (ms : List FinishedUnit) (b : Option Batch) → ShowsOpen None ms b → b ≡ None
shown-none ms None s = refl
shown-none ms (Some c) s = absurd s

pub closed-is : (p : Parts) (w : CoreState) → PartsStand p w → p.batch ≡ None → w.manager.batch ≡ None
closed-is p w s q = shown-none p.waiting.items w.manager.batch (subst (λ o. ShowsOpen o p.waiting.items w.manager.batch) q (to-cases p.batch p.waiting.items w.manager.batch s.batch))

module _ (p : Parts) (w : CoreState) (x : TakenBatch) (s : PartsStand p w) (q : p.batch ≡ Some x) where
  -- the model's batch
  abbrev opened : (c : Batch) × (w.manager.batch ≡ Some c) × ShowsBatch x (take c.size p.waiting.items) c
  opened = shown-some x p.waiting.items w.manager.batch (subst (λ o. ShowsOpen o p.waiting.items w.manager.batch) q (to-cases p.batch p.waiting.items w.manager.batch s.batch))

  abbrev c : Batch
  c = opened.0

  same-size : c.size ≡ owed_in p.batch
  same-size = sym opened.2.size ∙ sym (ap owed_in q)

  shows : ShowsBatch x (members_in p) c
  shows = subst (λ n. ShowsBatch x (take n p.waiting.items) c) same-size opened.2

  are : AreUnits (members_in p) w (members w c)
  are = subst (λ n. AreUnits (take n p.waiting.items) w (members w c)) same-size (units-taken c.size p.waiting.items w (waiting w) (are-units p w s))

  pub view-is : ◌≡◌ {A = Option _} (Some (view_by (λ u. is_aborted (verdict_in p.units u)) x (members_in p))) (option_map (view w) w.manager.batch)
  view-is = ap (λ v. Some v) (view-link (verdict_in p.units) x (members_in p) w c s.verdict shows are) ∙ ap (option_map (view w)) (sym opened.1)

  -- the settler's step, by the model's batch
  step-of : batch_step w (Some c) ≡ settler_step w
  step-of = ap (batch_step w) (sym opened.1)

  sealing : is_none x.decisions ≡ false → Seals c.number ≡ settler_step w
  sealing n = sym (cond-true (is_some c.decisions) (Seals c.number) (undecided_step c.number (first_unvoted c)) (some-not c.decisions (sym (ap is_none shows.decisions) ∙ n))) ∙ step-of
    where
      some-not : {A : Type 0} (o : Option A) → is_none o ≡ false → is_some o ≡ true
      some-not None e = sym e
      some-not (Some y) e = refl

  undecided : is_none x.decisions ≡ true → undecided_step c.number (first_unvoted c) ≡ settler_step w
  undecided n = sym (cond-false (is_some c.decisions) (Seals c.number) (undecided_step c.number (first_unvoted c)) (none-some c.decisions (sym (ap is_none shows.decisions) ∙ n))) ∙ step-of
    where
      none-some : {A : Type 0} (o : Option A) → is_none o ≡ true → is_some o ≡ false
      none-some None e = refl
      none-some (Some y) e = sym e

  pub seal-work : is_none x.decisions ≡ false → work.Seal x.number (to_commit_by (λ u. is_good (verdict_in p.units u)) (members_in p)) ≡ work_in w (settler_step w)
  seal-work n =
      (λ i. work.Seal (shows.number i) (commit-link (verdict_in p.units) (members_in p) w c s.verdict are i))
      ∙ ap (λ b. work.Seal c.number (to_commit w b)) (sym opened.1)
      ∙ ap (work_in w) (sealing n)

  pub decide-work : is_none x.decisions ≡ true → slice_get x.unvoted 0 ≡ None → work.Decide x.number ≡ work_in w (settler_step w)
  decide-work n e =
      ap work.Decide shows.number
      ∙ ap (λ g. work_in w (undecided_step c.number g)) (sym e ∙ next-link x (members_in p) c shows)
      ∙ ap (work_in w) (undecided n)

  pub vote-work : (g : GrainId) → is_none x.decisions ≡ true → slice_get x.unvoted 0 ≡ Some g →
      work.Vote x.number g (versions_by (λ u. is_bad (verdict_in p.units u)) g (members_in p)) ≡ work_in w (settler_step w)
  vote-work g n e =
      (λ i. work.Vote (shows.number i) g (versions-link (verdict_in p.units) (members_in p) w c g s.verdict are i))
      ∙ ap (λ b. work.Vote c.number g (versions_to_write w b g)) (sym opened.1)
      ∙ ap (λ k. work_in w (undecided_step c.number k)) (sym e ∙ next-link x (members_in p) c shows)
      ∙ ap (work_in w) (undecided n)

-- ---- where none is open

pub later-is : (p : Parts) (work : SettlerWork) → p.batch ≡ None → ShowsStep p later_step work → ShowsStep p settler_step work
later-is p work none h = λ w s r. h w s r ∙ ap (λ b. work_in w (batch_step w b)) (sym (closed-is p w s none))

pub doubt-is : (p : Parts) (work : SettlerWork) → p.doubt ≡ true → ShowsStep p (λ w. last_step w false) work → ShowsStep p later_step work
doubt-is p work here h = λ w s r. h w s r ∙ ap (work_in w) (sym (cond-true (is_some w.manager.doubt) (last_step w false) (learn_step w (next_learn w)) (s.doubt ∙ here)))

-- no batch is in doubt
sure-is : (p : Parts) (w : CoreState) → PartsStand p w → p.doubt ≡ false → learn_step w (next_learn w) ≡ later_step w
sure-is p w s here = sym (cond-false (is_some w.manager.doubt) (last_step w false) (learn_step w (next_learn w)) (s.doubt ∙ here))

pub learns-is : (p : Parts) (u : UnitNo) (g : GrainId) → p.doubt ≡ false → slice_get p.learn.pairs 0 ≡ Some (u, g) → ShowsStep p later_step (work.Learn u g)
learns-is p u g here e = λ w s r. ap (λ t. work_in w (learn_step w t)) (sym e ∙ learn-is p w s) ∙ ap (work_in w) (sure-is p w s here)

pub learnt-is : (p : Parts) (work : SettlerWork) → p.doubt ≡ false → slice_get p.learn.pairs 0 ≡ None → ShowsStep p (λ w. last_step w true) work → ShowsStep p later_step work
learnt-is p work here e h = λ w s r. h w s r ∙ ap (λ t. work_in w (learn_step w t)) (sym e ∙ learn-is p w s) ∙ ap (work_in w) (sure-is p w s here)

-- no element is there only where the list isn't so long
past : {A : Type 0} (xs : List A) (n : ℕ) → slice_get xs n ≡ None → length xs ≤ n
past xs n e = elim ((slice_get_cases xs n).1) [
  | inl t ↦ (let z : None ≡ Some t.0 = sym e ∙ t.2 in cc)
  | inr t ↦ t.0
]

pub writes-is : (p : Parts) (entry : Entry) (may : Bool) → slice_get p.entries.entries p.entries.emitted ≡ Some entry → ShowsStep p (λ w. last_step w may) (work.Write entry)
writes-is p entry may e = λ w s r.
    let here : slice_get w.manager.settled w.manager.emitted ≡ Some entry = sym (next-is p w s) ∙ e in
    let more : nat_lt w.manager.emitted (length w.manager.settled) ≡ true = lt-ltb w.manager.emitted (length w.manager.settled) (slice_get_within w.manager.settled w.manager.emitted entry here) in
    ap write_work (sym here) ∙ ap (work_in w) (sym (cond-true (nat_lt w.manager.emitted (length w.manager.settled)) Writes (if may && not w.units.halt then load_step w (next_wanted w) else Rests) more))

pub written-is : (p : Parts) (work : SettlerWork) (may : Bool) → slice_get p.entries.entries p.entries.emitted ≡ None →
    ShowsStep p (rest_step may) work → ShowsStep p (λ w. last_step w may) work
written-is p work may e h = λ w s r.
    let here : slice_get w.manager.settled w.manager.emitted ≡ None = sym (next-is p w s) ∙ e in
    let no_more : nat_lt w.manager.emitted (length w.manager.settled) ≡ false = le-ltb w.manager.emitted (length w.manager.settled) (past w.manager.settled w.manager.emitted here) in
    h w s r ∙ ap (work_in w) (sym (cond-false (nat_lt w.manager.emitted (length w.manager.settled)) Writes (rest_step may w) no_more))

-- whether the run is to stop
halted-is : (p : Parts) (w : CoreState) → PartsStand p w → (halted : Bool) → halted ≡ halt_in p.units → halted ≡ w.units.halt
halted-is p w s halted e = e ∙ (λ i. (sym s.units i).halt)

-- nothing may be
pub never-rests : (p : Parts) (may : Bool) → may ≡ false → ShowsStep p (rest_step may) work.Nothing
never-rests p may e = λ w s r. ap (work_in w) (sym (cond-false (may && not w.units.halt) (load_step w (next_wanted w)) Rests (ap (λ b. b && not w.units.halt) e)))

-- the run is to stop
pub stopped-rests : (p : Parts) (may halted : Bool) → halted ≡ halt_in p.units → halted ≡ true → ShowsStep p (rest_step may) work.Nothing
stopped-rests p may halted e stop = λ w s r. ap (work_in w) (sym (cond-false (may && not w.units.halt) (load_step w (next_wanted w)) Rests (by may w.units.halt (sym (halted-is p w s halted e) ∙ stop))))
  where
    by : (m h : Bool) → h ≡ true → (m && not h) ≡ false
    by false h q = refl
    by true h q = ap not q

-- it may be
may-go : (p : Parts) (w : CoreState) (may halted : Bool) → PartsStand p w → may ≡ true → halted ≡ halt_in p.units → halted ≡ false → (may && not w.units.halt) ≡ true
may-go p w may halted s m e go = (λ i. m i && not ((sym (halted-is p w s halted e) ∙ go) i))

-- what is wanted
pub wanted-rests : (p : Parts) (may halted : Bool) (g : GrainId) → may ≡ true → halted ≡ halt_in p.units → halted ≡ false → wanted_in p ≡ Some g → ShowsStep p (rest_step may) (work.Load g)
wanted-rests p may halted g m e go q = λ w s r.
    ap (λ o. work_in w (load_step w o)) (sym q ∙ wanted-is p w s)
    ∙ ap (work_in w) (sym (cond-true (may && not w.units.halt) (load_step w (next_wanted w)) Rests (may-go p w may halted s m e go)))

-- else a batch
pub none-rests : (p : Parts) (may halted : Bool) (work : SettlerWork) → may ≡ true → halted ≡ halt_in p.units → halted ≡ false → wanted_in p ≡ None → ShowsStep p take_step work → ShowsStep p (rest_step may) work
none-rests p may halted work m e go q h = λ w s r.
    h w s r ∙ ap (λ o. work_in w (load_step w o)) (sym q ∙ wanted-is p w s)
    ∙ ap (work_in w) (sym (cond-true (may && not w.units.halt) (load_step w (next_wanted w)) Rests (may-go p w may halted s m e go)))

pub takes-is : (p : Parts) (can : Bool) → ((w : CoreState) → PartsStand p w → IsCoreReached w → can ≡ applies w Take) → can ≡ true → ShowsStep p take_step work.Take
takes-is p can t e = λ w s r. ap (work_in w) (sym (cond-true (applies w Take) Takes Rests (sym (t w s r) ∙ e)))

pub rests-is : (p : Parts) (can : Bool) → ((w : CoreState) → PartsStand p w → IsCoreReached w → can ≡ applies w Take) → can ≡ false → ShowsStep p take_step work.Nothing
rests-is p can t e = λ w s r. ap (work_in w) (sym (cond-false (applies w Take) Takes Rests (sym (t w s r) ∙ e)))

-- ---- whether the settler has a step

abbrev pub either : Bool → Bool → Bool
either true b = true
either false b = b

-- whatever is open, what is to write and what is to learn are a step, and so is what comes behind them where nothing is in doubt
abbrev pub stepping : Bool → Bool → Bool → Bool → Bool → Bool
stepping batch unwritten doubt unlearnt rest = either batch (either unwritten (if doubt then false else either unlearnt rest))

last-has : (w : CoreState) (may : Bool) → has_step (last_step w may) ≡ either (nat_lt w.manager.emitted (length w.manager.settled)) (has_step (rest_step may w))
last-has w may = by (nat_lt w.manager.emitted (length w.manager.settled)) (rest_step may w)
  where
    by : (n : Bool) (x : Step) → has_step (if n then Writes else x) ≡ either n (has_step x)
    by true x = refl
    by false x = refl

later-has : (w : CoreState)
    → has_step (later_step w) ≡ stepping false (nat_lt w.manager.emitted (length w.manager.settled)) (is_some w.manager.doubt) (is_some (next_learn w)) (has_step (rest_step true w))
later-has w = by (is_some w.manager.doubt) (next_learn w)
  where
    here : (n : Bool) → true ≡ either n true
    here true = refl
    here false = refl

    by : (d : Bool) (x : Option (UnitNo × GrainId)) → has_step (if d then last_step w false else learn_step w x)
        ≡ stepping false (nat_lt w.manager.emitted (length w.manager.settled)) d (is_some x) (has_step (rest_step true w))
    by true x = last-has w false
    by false None = last-has w true
    by false (Some x) = here (nat_lt w.manager.emitted (length w.manager.settled))

-- what comes behind is a wanted grain, or a batch that can be taken, unless the run is to stop
pub rest-has : (p : Parts) (w : CoreState) (halted wanted takes : Bool) → PartsStand p w → halted ≡ halt_in p.units → wanted ≡ is_some (wanted_in p) → takes ≡ applies w Take →
    (not halted && (wanted || takes)) ≡ has_step (rest_step true w)
rest-has p w halted wanted takes s h g t =
    (λ i. not (halted-is p w s halted h i) && ((g ∙ ap is_some (wanted-is p w s)) i || t i))
    ∙ by w.units.halt (next_wanted w) (applies w Take) refl
  where
    none : (b : Bool) → b ≡ has_step (if b then Takes else Rests)
    none true = refl
    none false = refl

    by : (k : Bool) (o : Option GrainId) (b : Bool) → applies w Take ≡ b → (not k && (is_some o || b)) ≡ has_step (if true && not k then load_step w o else Rests)
    by true o b q = refl
    by false (Some x) b q = refl
    by false None b q = sym q ∙ none (applies w Take)

batch-has : (w : CoreState) (b : Option Batch) → has_step (batch_step w b) ≡ either (is_some b) (has_step (later_step w))
batch-has w None = refl
batch-has w (Some x) = by (is_some x.decisions) (first_unvoted x)
  where
    by : (d : Bool) (g : Option GrainId) → has_step (if d then Seals x.number else undecided_step x.number g) ≡ true
    by true g = refl
    by false None = refl
    by false (Some g) = refl

-- by what is kept
pub has-work : (p : Parts) (w : CoreState) (batch unwritten doubt unlearnt rest : Bool) → PartsStand p w → is_some p.batch ≡ batch → nat_lt p.entries.emitted (length p.entries.entries) ≡ unwritten → p.doubt ≡ doubt
    → is_some (slice_get p.learn.pairs 0) ≡ unlearnt → has_step (rest_step true w) ≡ rest → stepping batch unwritten doubt unlearnt rest ≡ has_step (settler_step w)
has-work p w batch unwritten doubt unlearnt rest s b n d l t =
    sym (batch-has w w.manager.batch ∙ ap (either (is_some w.manager.batch)) (later-has w)
    ∙ (λ i. stepping ((sym s.batch.same ∙ b) i) (((λ j. nat_lt (s.emitted j) (length (s.settled j))) ∙ n) i) ((s.doubt ∙ d) i) ((ap is_some (sym (learn-is p w s)) ∙ l) i) (t i)))

pub open-has : (p : Parts) (w : CoreState) → PartsStand p w → is_some p.batch ≡ true → true ≡ has_step (settler_step w)
open-has p w s b = has-work p w true _ _ _ _ s b refl refl refl refl

pub unwritten-has : (p : Parts) (w : CoreState) → PartsStand p w → nat_lt p.entries.emitted (length p.entries.entries) ≡ true → true ≡ has_step (settler_step w)
unwritten-has p w s n = by (is_some p.batch) ∙ has-work p w _ true _ _ _ s refl n refl refl refl
  where
    by : (b : Bool) → true ≡ stepping b true p.doubt (is_some (slice_get p.learn.pairs 0)) (has_step (rest_step true w))
    by true = refl
    by false = refl

pub doubt-has : (p : Parts) (w : CoreState) → PartsStand p w → is_some p.batch ≡ false → nat_lt p.entries.emitted (length p.entries.entries) ≡ false → p.doubt ≡ true → false ≡ has_step (settler_step w)
doubt-has p w s b n d = has-work p w false false true _ _ s b n d refl refl

pub unlearnt-has : (p : Parts) (w : CoreState) → PartsStand p w → is_some p.batch ≡ false → nat_lt p.entries.emitted (length p.entries.entries) ≡ false → p.doubt ≡ false
    → is_some (slice_get p.learn.pairs 0) ≡ true → true ≡ has_step (settler_step w)
unlearnt-has p w s b n d l = has-work p w false false false true _ s b n d l refl

pub rests-has : (p : Parts) (w : CoreState) (rest : Bool) → PartsStand p w → is_some p.batch ≡ false → nat_lt p.entries.emitted (length p.entries.entries) ≡ false → p.doubt ≡ false
    → is_some (slice_get p.learn.pairs 0) ≡ false → rest ≡ has_step (rest_step true w) → rest ≡ has_step (settler_step w)
rests-has p w rest s b n d l t = has-work p w false false false false rest s b n d l (sym t)
