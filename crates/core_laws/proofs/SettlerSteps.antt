-- The event of the settler's step applies, and what is shown for it.
use Rattle.std.proofs.Common.{◌≡◌, ◌↔◌, ℕ, zero, suc, ◌+◌, List, [], ◌∷◌, ◌++◌, length, take, drop, map, append-nil, take-append-drop, Bool, true, false, true≢false, ◌&&◌, ◌||◌, not, ◌⊎◌, inl, inr, refl, sym, ap, ◌∙◌, subst, arith, Option, Some, None, find, filter, is_some, is_none, nat_lt, ◌<◌}
use Rattle.std.specs.Prelude.{◌==◌, if◌then◌else◌, flat_map}
use Rattle.std.proofs.lemmas.Option.{slice_get_cases}
use Rattle.std.proofs.lemmas.Bool.{ltb-true, and_parts, and_from, cases_Bool, cond_both, cond-true, cond-false, eq-eqb}
use Rattle.cell_model.proofs.Units.{any-member, same_grain-is, filter-member}
use Rattle.core_model.specs.CoreState.{UnitNo, GrainId, same_grain, Member, Value, Version, Outcome, Write, Batch, Decision, CoreState}
use Rattle.core_model.specs.Tests.{any, all, is_final, is_good, outcome_of, waiting, is_planned, is_voted, is_vote_on, members, has_bad_source, state_written, is_wanted}
use Rattle.core_model.specs.Chains.{WroteGrain}
use Rattle.core_model.specs.Changes.{swept, swept_by}
use Rattle.core_model.specs.LearnQueue.{to_learn, next_learn}
use Rattle.core_model.specs.Settler.{Votes, Decides, Learns, Seals, Writes, Loads, Takes, Rests, MakesEvent, first_unvoted, undecided_step, batch_step, learn_step, load_step, last_step, later_step, version_written, version_to_write, to_commit, Step, settler_step, step_of, work_in, write_work}
use Rattle.core_model.specs.Steps.{StepApplies, ShowsVersions, TellsDecided}
use Rattle.core_model.specs.Events.{applies, can, does, step, run, is_allowed, is_open, is_judged, is_after_doubt, is_after_halt}
use Rattle.core_model.specs.declared.events.CoreEvent.{CoreEvent}
use Rattle.core_model.specs.declared.events.CoreEvent.TheVariants.{Take, Vote, Decide, Sealed, NotSealed, Doubt, Learn, Emitted, Load}
use Rattle.core_model.specs.Effects.{effect_of}
use Rattle.core_model.specs.Answers.{known}
use Rattle.core_model.specs.declared.questions.CoreAnswer.TheVariants as answer
use Rattle.core_model.specs.declared.questions.KnownOutcome.TheVariants.{Decided}
use Rattle.core_model.specs.SerialOrder.{chosen, batch_begin}
use Rattle.core_model.specs.LegalRuns.{Run, begins, ends}
use Rattle.core_model.specs.WantedGrains.{next_wanted}
use Rattle.core_laws.proofs.Failures.{named-written, first_grain-some}
use Rattle.core_laws.proofs.Plans.{flat-member, member-flat}
use Rattle.core_laws.proofs.EventCases.{Change, bad, begin, lock, raise, refuse, finish, end_plain, end_snapshot, release, take_batch, vote, decide_some, decide_none, seal_batch, spoil_batch, doubt_batch, learn, emit, halt_run, want, load, decode}
use Rattle.core_laws.proofs.Orders.{in_drop}
use Rattle.core_laws.proofs.LoadlessKept.{loadless-ends, judged-at}
use Rattle.core_laws.proofs.CommitOrder.{no_doubt}
use Rattle.std.proofs.lemmas.List.Elements.{filter-append}

-- after a doubt no batch is open
abbrev pub Ended : CoreState → Type 0
Ended w = (d : ℕ) → w.manager.doubt ≡ Some d → w.manager.batch ≡ None

none-some : {A : Type 0} (o : Option A) (x : A) → o ≡ None → o ≡ Some x → ⊥
none-some o x n s = (let t : None ≡ Some x = sym n ∙ s in cc)

pub ended-change : (w : CoreState) (e : CoreEvent) (w' : CoreState) → Change w e w' → applies w e ≡ true → Ended w → Ended w'
ended-change w e w' (bad line why q) a s = s
ended-change w e w' (begin origin call plain c) a s = s
ended-change w e w' (lock u g mode running free first here) a s = s
ended-change w e w' (raise u g mode running free held here uncovered) a s = s
ended-change w e w' (refuse u g mode why running q) a s = s
ended-change w e w' (finish u effect running plain of_call reads alone) a s = s
ended-change w e w' (end_plain u effect running plain of_call bare) a s = s
ended-change w e w' (end_snapshot u at outcome running plain kids answer) a s = s
ended-change w e w' (release u g over held) a s = s
ended-change w e w' (take_batch none some) a s = λ d q. absurd (none-some w.manager.doubt d (no_doubt w Take a refl) q)
ended-change w e w' (vote n g kept b q number z planned fresh) a s = λ d y. absurd (none-some w.manager.batch b (s d y) q)
ended-change w e w' (decide_some n b q number z voted some) a s = λ d y. absurd (none-some w.manager.batch b (s d y) q)
ended-change w e w' (decide_none n b q number z voted none) a s = λ d y. refl
ended-change w e w' (seal_batch n b ds q number z) a s = λ d y. refl
ended-change w e w' (spoil_batch n b ds q number z) a s = λ d y. refl
ended-change w e w' (doubt_batch n b ds q number z) a s = λ d y. refl
ended-change w e w' (learn u g wrote final fresh) a s = s
ended-change w e w' (emit q) a s = s
ended-change w e w' (halt_run q) a s = s
ended-change w e w' (want u g running free fresh) a s = s
ended-change w e w' (load g u state gone wanted) a s = s

swept-ended : (w : CoreState) → Ended w → Ended (swept w)
swept-ended w s = go w.cells.capacity
  where
    go : (c : Option ℕ) → Ended (swept_by w c)
    go None = s
    go (Some m) = s

ended-step : (w : CoreState) (e : CoreEvent) → Ended w → Ended (step w e)
ended-step w e s = cond_both (applies w e) (swept (does w e)) w Ended
    (λ a. swept-ended (does w e) (ended-change w e (does w e) (decode w e (and_parts (is_allowed w e) (can w e) a).1) a s))
    (λ a. s)

ended-run : (es : List CoreEvent) (w : CoreState) → Ended w → Ended (run w es)
ended-run [] w s = s
ended-run (e ∷ es) w s = ended-run es (step w e) (ended-step w e s)

pub ended-ends : (r : Run) → Ended (ends r)
ended-ends r = ended-run r.events (begins r) (λ d q. cc)

-- ---- lists

pub find-none : {A : Type 0} (p : A → Bool) (xs : List A) → find p xs ≡ None → (x : A) → Member x xs → p x ≡ false
find-none p [] e x m = absurd m
find-none p (y ∷ xs) e x m = elim (cases_Bool (p y)) [
  | inl h ↦ (let t : Some y ≡ None = sym (cond-true (p y) (Some y) (find p xs) h) ∙ e in cc)
  | inr h ↦ elim m [
    | inl q ↦ ap p q ∙ h
    | inr n ↦ find-none p xs (sym (cond-false (p y) (Some y) (find p xs) h) ∙ e) x n
  ]
]

pub find-some : {A : Type 0} (p : A → Bool) (xs : List A) (x : A) → find p xs ≡ Some x → Member x xs × (p x ≡ true)
find-some p [] x e = cc
find-some p (y ∷ xs) x e = elim (cases_Bool (p y)) [
  | inl h ↦ (let t : Some y ≡ Some x = sym (cond-true (p y) (Some y) (find p xs) h) ∙ e in let is : y ≡ x = cc in (inl (sym is), ap p (sym is) ∙ h))
  | inr h ↦ (let t = find-some p xs x (sym (cond-false (p y) (Some y) (find p xs) h) ∙ e) in (inr t.0, t.1))
]

all-from : {A : Type 0} (p : A → Bool) (xs : List A) → ((x : A) → Member x xs → p x ≡ true) → all p xs ≡ true
all-from p [] h = refl
all-from p (x ∷ xs) h = and_from (p x) (all p xs) (h x (inl refl)) (all-from p xs (λ y m. h y (inr m)))

-- ---- where an event applies

and-true : (a : Bool) → (a && true) ≡ a
and-true true = refl
and-true false = refl

allowed-is : (w : CoreState) (e : CoreEvent) → (is_none w.manager.doubt || is_after_doubt e) ≡ true → can w e ≡ true → applies w e ≡ (not w.units.halt || is_after_halt e)
allowed-is w e d c =
    let h : Bool = not w.units.halt || is_after_halt e in
    (λ i. (d i && h) && c i) ∙ and-true h

doubt-none : (o : Option ℕ) (b : Bool) → o ≡ None → (is_none o || b) ≡ true
doubt-none o b e = ap (λ t. is_none t || b) e

in-writes : (w : CoreState) (us : List UnitNo) (x : UnitNo × GrainId) → Member x (flat_map (λ u. map (λ (t : Write). (u, t.0)) (w.manager.writes u)) us) → Member x.0 us × WroteGrain w.manager.writes x.0 x.1
in-writes w us x m =
    let t = flat-member (λ u. map (λ (y : Write). (u, y.0)) (w.manager.writes u)) us x m in
    let s = pair t.0 (w.manager.writes t.0) t.2 in
    (subst (λ u. Member u us) (sym s.0) t.1, subst (λ u. WroteGrain w.manager.writes u x.1) (sym s.0) (named-written x.1 (w.manager.writes t.0) s.1))
  where
    pair : (u : UnitNo) (ws : List Write) → Member x (map (λ (y : Write). (u, y.0)) ws) → (x.0 ≡ u) × Member x.1 (map (λ (y : Write). y.0) ws)
    pair u [] n = absurd n
    pair u (y ∷ ws) (inl q) = (ap (λ (z : UnitNo × GrainId). z.0) q, inl (ap (λ (z : UnitNo × GrainId). z.1) q))
    pair u (y ∷ ws) (inr n) = (let t = pair u ws n in (t.0, inr t.1))

-- what is to learn can be learnt
learn-can : (w : CoreState) (x : UnitNo × GrainId) → next_learn w ≡ Some x → can w (Learn x.0 x.1) ≡ true
learn-can w x q =
    let t = find-some (λ (y : UnitNo × GrainId). not (w.cells.learnt y.0 y.1)) (to_learn w) x q in
    let s = in-writes w (filter (λ u. is_final (w.manager.verdict u)) (take w.manager.closed w.manager.order)) x t.0 in
    let f = filter-member (λ u. is_final (w.manager.verdict u)) (take w.manager.closed w.manager.order) x.0 s.0 in
    and_from (is_some (state_written x.1 (w.manager.writes x.0))) (is_final (w.manager.verdict x.0) && not (w.cells.learnt x.0 x.1)) (ap is_some s.1.1)
    (and_from (is_final (w.manager.verdict x.0)) (not (w.cells.learnt x.0 x.1)) f.1 t.1)

-- of these waits one is for the grain
wanted-one : (wants : List (UnitNo × GrainId)) (g : GrainId) → Member g (map (λ (t : UnitNo × GrainId). t.1) wants) → is_wanted wants g ≡ true
wanted-one [] g m = absurd m
wanted-one (t ∷ ts) g (inl q) = ap (λ b. b || is_wanted ts g) (same_grain-is t.1 g (sym q))
wanted-one (t ∷ ts) g (inr m) = (let r = wanted-one ts g m in ap (λ b. same_grain t.1 g || b) r ∙ or-end (same_grain t.1 g))
  where
    or-end : (b : Bool) → (b || true) ≡ true
    or-end true = refl
    or-end false = refl

-- what is to be brought into memory can be
load-can : (w : CoreState) (g : GrainId) (u : UnitNo) (state : List Value) → next_wanted w ≡ Some g → can w (Load g u state) ≡ true
load-can w g u state e =
    let m = (first_grain-some (filter (λ k. not (w.cells.here k)) (map (λ (t : UnitNo × GrainId). t.1) w.units.wants)) g e).0 in
    let f = filter-member (λ k. not (w.cells.here k)) (map (λ (t : UnitNo × GrainId). t.1) w.units.wants) g m in
    and_from (not (w.cells.here g)) (is_wanted w.units.wants g) f.1 (wanted-one w.units.wants g f.0)

module _ (w : CoreState) (ended : Ended w) (e : CoreEvent) where
  abbrev Applies : Type 0
  Applies = applies w e ≡ (not w.units.halt || is_after_halt e)

  by_load : is_none w.manager.doubt ≡ true → (o : Option GrainId) → next_wanted w ≡ o → MakesEvent (load_step w o) e → Applies
  by_load d None n m = cond_both (applies w Take) Takes Rests (λ s. MakesEvent s e → Applies)
      (λ t q. subst (λ (x : CoreEvent). applies w x ≡ (not w.units.halt || is_after_halt x)) (sym q)
      (allowed-is w Take (and_parts _ _ (and_parts (is_allowed w Take) (can w Take) t).0).0 (and_parts (is_allowed w Take) (can w Take) t).1))
      (λ t q. absurd q) m
  by_load d (Some g) n q =
      subst (λ (x : CoreEvent). applies w x ≡ (not w.units.halt || is_after_halt x)) (sym q.2) (allowed-is w (Load g q.0 q.1) (ap (λ b. b || false) d) (load-can w g q.0 q.1 n))

  by_last : (may : Bool) → (is_none w.manager.doubt ≡ true) ⊎ (may ≡ false) → MakesEvent (last_step w may) e → Applies
  by_last may o = cond_both (nat_lt w.manager.emitted (length w.manager.settled)) Writes (if may && not w.units.halt then load_step w (next_wanted w) else Rests) (λ s. MakesEvent s e → Applies)
      (λ h q. subst (λ (x : CoreEvent). applies w x ≡ (not w.units.halt || is_after_halt x)) (sym q) (allowed-is w Emitted (or-true (is_none w.manager.doubt)) h))
      (λ h. cond_both (may && not w.units.halt) (load_step w (next_wanted w)) Rests (λ s. MakesEvent s e → Applies)
      (λ t q. (let p = and_parts may (not w.units.halt) t in
      elim o [
        | inl d ↦ by_load d (next_wanted w) refl q
        | inr f ↦ absurd (true≢false (sym p.0 ∙ f))
      ]))
      (λ t q. absurd q))
    where
      or-true : (a : Bool) → (a || true) ≡ true
      or-true true = refl
      or-true false = refl

  by_learn : is_none w.manager.doubt ≡ true → (o : Option (UnitNo × GrainId)) → next_learn w ≡ o → MakesEvent (learn_step w o) e → Applies
  by_learn d None n q = by_last true (inl d) q
  by_learn d (Some x) n q =
      subst (λ (y : CoreEvent). applies w y ≡ (not w.units.halt || is_after_halt y)) (sym q) (allowed-is w (Learn x.0 x.1) (ap (λ b. b || false) d) (learn-can w x n))

  by_later : (o : Option ℕ) → w.manager.doubt ≡ o → MakesEvent (later_step w) e → Applies
  by_later None d q = by_learn (ap is_none d) (next_learn w) refl (subst (λ (o : Option ℕ). MakesEvent (if is_some o then last_step w false else learn_step w (next_learn w)) e) d q)
  by_later (Some n) d q = by_last false (inr refl) (subst (λ (o : Option ℕ). MakesEvent (if is_some o then last_step w false else learn_step w (next_learn w)) e) d q)

  no_doubt_yet : (b : Batch) → w.manager.batch ≡ Some b → w.manager.doubt ≡ None
  no_doubt_yet b q = go w.manager.doubt refl
    where
      go : (o : Option ℕ) → w.manager.doubt ≡ o → w.manager.doubt ≡ None
      go None d = d
      go (Some n) d = absurd (none-some w.manager.batch b (ended n d) q)

  same-number : (n : ℕ) → (n == n) ≡ true
  same-number n = eq-eqb n n refl

  by_vote : (b : Batch) → w.manager.batch ≡ Some b → b.decisions ≡ None → (o : Option GrainId) → first_unvoted b ≡ o → MakesEvent (undecided_step b.number o) e → Applies
  by_vote b q d None n m =
      let voted : is_voted b ≡ true = all-from (λ g. any (is_vote_on g) b.votes) b.plan (λ g h. not_back (any (is_vote_on g) b.votes) (find-none (λ g. not (any (is_vote_on g) b.votes)) b.plan n g h)) in
      subst (λ (x : CoreEvent). applies w x ≡ (not w.units.halt || is_after_halt x)) (sym m)
      (allowed-is w (Decide b.number) (doubt-none w.manager.doubt false (no_doubt_yet b q))
      (ap (is_open b.number is_voted) q ∙ and_from (b.number == b.number) (is_none b.decisions && is_voted b) (same-number b.number) (and_from (is_none b.decisions) (is_voted b) (ap is_none d) voted)))
    where
      not_back : (a : Bool) → not a ≡ false → a ≡ true
      not_back true z = refl
      not_back false z = cc
  by_vote b q d (Some g) n m =
      let t = find-some (λ g. not (any (is_vote_on g) b.votes)) b.plan g n in
      let test : (is_planned b g && not (any (is_vote_on g) b.votes)) ≡ true = and_from (is_planned b g) (not (any (is_vote_on g) b.votes)) (any-member (same_grain g) b.plan g t.0 (same_grain-is g g refl)) t.1 in
      subst (λ (x : CoreEvent). applies w x ≡ (not w.units.halt || is_after_halt x)) (sym m.1)
      (allowed-is w (Vote b.number g m.0) (doubt-none w.manager.doubt false (no_doubt_yet b q))
      (ap (is_open b.number (λ b. is_planned b g && not (any (is_vote_on g) b.votes))) q ∙ and_from (b.number == b.number) _ (same-number b.number) (and_from (is_none b.decisions) _ (ap is_none d) test)))

  by_seal : (b : Batch) (ds : List Decision) → w.manager.batch ≡ Some b → b.decisions ≡ Some ds → MakesEvent (Seals b.number) e → Applies
  by_seal b ds q d m =
      let judged : is_judged b.number w.manager.batch ≡ true = ap (is_judged b.number) q ∙ and_from (b.number == b.number) (is_some b.decisions) (same-number b.number) (ap is_some d) in
      elim m [
        | inl x ↦ subst (λ (x : CoreEvent). applies w x ≡ (not w.units.halt || is_after_halt x)) (sym x) (allowed-is w (Sealed b.number) (doubt-none w.manager.doubt false (no_doubt_yet b q)) judged)
        | inr o ↦ elim o [
          | inl x ↦ subst (λ (x : CoreEvent). applies w x ≡ (not w.units.halt || is_after_halt x)) (sym x) (allowed-is w (NotSealed b.number) (doubt-none w.manager.doubt false (no_doubt_yet b q)) judged)
          | inr x ↦ subst (λ (x : CoreEvent). applies w x ≡ (not w.units.halt || is_after_halt x)) (sym x) (allowed-is w (Doubt b.number) (doubt-none w.manager.doubt false (no_doubt_yet b q)) judged)
        ]
      ]

  by_decisions : (b : Batch) → w.manager.batch ≡ Some b → (o : Option (List Decision)) → b.decisions ≡ o → MakesEvent (batch_step w (Some b)) e → Applies
  by_decisions b q None d m = by_vote b q d (first_unvoted b) refl (subst (λ (o : Option (List Decision)). MakesEvent (if is_some o then Seals b.number else undecided_step b.number (first_unvoted b)) e) d m)
  by_decisions b q (Some ds) d m = by_seal b ds q d (subst (λ (o : Option (List Decision)). MakesEvent (if is_some o then Seals b.number else undecided_step b.number (first_unvoted b)) e) d m)

  by_batch : (o : Option Batch) → w.manager.batch ≡ o → MakesEvent (batch_step w o) e → Applies
  by_batch None q m = by_later w.manager.doubt refl m
  by_batch (Some b) q m = by_decisions b q b.decisions refl m

pub step-applies : (r : Run) (e : CoreEvent) → StepApplies (ends r) e
step-applies r e m = by_batch (ends r) (ended-ends r) e (ends r).manager.batch refl m

-- where the step writes, an entry isn't written
or_true : (a : Bool) → (a || true) ≡ true
or_true true = refl
or_true false = refl

writes-left : (r : Run) → settler_step (ends r) ≡ Writes → (ends r).manager.emitted < length (ends r).manager.settled
writes-left r q =
    let a = step-applies r Emitted (subst (λ (s : Step). MakesEvent s Emitted) (sym q) refl) ∙ or_true (not (ends r).units.halt) in
    ltb-true (ends r).manager.emitted (length (ends r).manager.settled) (and_parts (is_allowed (ends r) Emitted) (can (ends r) Emitted) a).1

-- ---- what is shown

shows-step : (w : CoreState) (s : Step) → (s ≡ Writes → w.manager.emitted < length w.manager.settled) → step_of (work_in w s) ≡ s
shows-step w (Votes n g) left = refl
shows-step w (Decides n) left = refl
shows-step w (Seals n) left = refl
shows-step w (Learns u g) left = refl
shows-step w Writes left = elim (slice_get_cases w.manager.settled w.manager.emitted).1 [
  | inl t ↦ ap (λ o. step_of (write_work o)) t.2
  | inr t ↦ absurd (let lt = left refl in omega (arith, lt, t.0))
]
shows-step w (Loads g) left = refl
shows-step w Takes left = refl
shows-step w Rests left = refl

-- what is shown tells the step
pub step-shown : (r : Run) → step_of (work_in (ends r) (settler_step (ends r))) ≡ settler_step (ends r)
step-shown r = shows-step (ends r) (settler_step (ends r)) (λ q. writes-left r q)

version-only : (u : UnitNo) (o : Option (List Value)) (x : Version) → Member x (version_written u o) → (x.unit ≡ u) × (o ≡ Some x.state)
version-only u None x m = absurd m
version-only u (Some v) x (inl q) = (ap (λ (y : Version). y.unit) q, ap (λ (y : Version). Some y.state) (sym q))
version-only u (Some v) x (inr m) = absurd m

pub shows-versions : (w : CoreState) (b : Batch) (g : GrainId) → ShowsVersions w b g
shows-versions w b g = record {
  only = λ x m.
      (let t = flat-member (version_to_write w g) (members w b) x m in
      let s = by t.0 x t.2 in
      (subst (λ u. Member u (members w b)) (sym s.1) t.1, ap (has_bad_source w) s.1 ∙ s.0, ap (λ u. state_written g (w.manager.writes u)) s.1 ∙ s.2));
  all = λ u m n wrote. (
    record { unit = u; state = wrote.0 },
    member-flat (version_to_write w g) (members w b) (record { unit = u; state = wrote.0 }) u m
        (subst (Member (record { unit = u; state = wrote.0 })) (sym (cond-false (has_bad_source w u) [] (version_written u (state_written g (w.manager.writes u))) n ∙ ap (version_written u) wrote.1)) (inl refl)),
    refl,
  );
}
  where
    by : (u : UnitNo) (x : Version) → Member x (version_to_write w g u) → (has_bad_source w u ≡ false) × (x.unit ≡ u) × (state_written g (w.manager.writes u) ≡ Some x.state)
    by u x = cond_both (has_bad_source w u) [] (version_written u (state_written g (w.manager.writes u))) (λ xs. Member x xs → (has_bad_source w u ≡ false) × (x.unit ≡ u) × (state_written g (w.manager.writes u) ≡ Some x.state))
        (λ h m. absurd m)
        (λ h m. (let t = version-only u (state_written g (w.manager.writes u)) x m in (h, t.0, t.1)))

-- the answer on whether a unit is decided is yes exactly where its outcome is shown
pub tells-decided : (w : CoreState) (u : UnitNo) → TellsDecided w u
tells-decided w u = go (outcome_of w u)
  where
    go : (o : Option Outcome) → (answer.IsDecided (is_some o) ≡ answer.IsDecided true) ↔ ((r : Outcome) × (answer.Outcome (known o) ≡ answer.Outcome (Decided r)))
    go None = ((λ q. cc), λ t. (let q = t.1 in cc))
    go (Some r) = ((λ q. (r, refl)), λ t. refl)

drop-sum : (m k : ℕ) (xs : List UnitNo) → drop k (drop m xs) ≡ drop (m + k) xs
drop-sum zero k xs = (let e : k ≡ 0 + k = omega arith in ap (λ z. drop z xs) e)
drop-sum (suc m) zero [] = (let e : suc m ≡ suc m + 0 = omega arith in ap (λ z. drop z []) e)
drop-sum (suc m) (suc k) [] = (let e : suc (m + suc k) ≡ suc m + suc k = omega arith in ap (λ z. drop z []) e)
drop-sum (suc m) k (x ∷ xs) = (let e : suc (m + k) ≡ suc m + k = omega arith in drop-sum m k xs ∙ ap (λ z. drop z (x ∷ xs)) e)

-- a filter that takes nothing of a part
filter-none : (p : UnitNo → Bool) (us : List UnitNo) → ((u : UnitNo) → Member u us → p u ≡ false) → filter p us ≡ []
filter-none p [] h = refl
filter-none p (u ∷ us) h = cond-false (p u) (u ∷ filter p us) (filter p us) (h u (inl refl)) ∙ filter-none p us (λ x m. h x (inr m))

-- the effects that are shown for the seal are those to commit
pub shows-chosen : (r : Run) → 0 < r.base → (b : Batch) (ds : List Decision) → (ends r).manager.batch ≡ Some b → b.decisions ≡ Some ds → to_commit (ends r) (Some b) ≡ chosen (ends r)
shows-chosen r above b ds q d =
    let w = ends r in
    let i = judged-at w b ds (loadless-ends r above) q d in
    let none : w.manager.doubt ≡ None = no_doubt_yet w (ended-ends r) Emitted b q in
    let good : UnitNo → Bool = λ u. is_good (w.manager.verdict u) in
    let rest : filter good (drop b.size (waiting w)) ≡ [] = filter-none good (drop b.size (waiting w)) (λ u m.
    (let t = in_drop _ w i (w.manager.closed + b.size) u (subst (Member u) (drop-sum w.manager.closed b.size w.manager.order) m) in
    ap is_good (i.late u t.0 t.1))) in
    let whole : filter good (waiting w) ≡ filter good (members w b) =
    ap (filter good) (sym (take-append-drop b.size (waiting w))) ∙ filter-append good (members w b) (drop b.size (waiting w)) ∙ ap (λ t. filter good (members w b) ++ t) rest ∙ append-nil (filter good (members w b)) in
    ap (map (effect_of w)) (sym whole) ∙ ap (λ o. map (effect_of w) (filter good (drop (batch_begin o w.manager.closed) w.manager.order))) (sym none)
