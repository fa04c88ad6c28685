-- What the core's run and what the writer keeps give the settler for its next step, and what the writer keeps after it.
use Rattle.std.proofs.Common.{◌≡◌, ◌≢◌, ◌⊎◌, inl, inr, ℕ, zero, suc, slice_get, ◌==◌, ◌<◌, ◌≤◌, ◌^◌, List, [], ◌∷◌, ◌++◌, length, take, map, filter, Bool, true, false, if◌then◌else◌, refl, sym, ap, ◌∙◌, subst, arith, eqb-true, Option, Some, None}
use Rattle.std.specs.List.{AllByRecursion}
use Rattle.std.proofs.lemmas.Bool.{eq-eqb, false≢true}
use Rattle.base_types.specs.declared.calls.GrainId.{GrainId}
use Rattle.base_types.specs.declared.calls.UnitNo.{UnitNo}
use Rattle.base_types.specs.declared.calls.Value.{Value}
use Rattle.base_types.specs.declared.entries.Entry.{Entry}
use Rattle.base_types.specs.declared.stores.Place.{Place}
use Rattle.base_types.specs.declared.stores.Version.{Version}
use Rattle.core_model.specs.CoreState.{CoreState, Member, Write, Batch}
use Rattle.core_model.specs.declared.effects.Effect.{Effect}
use Rattle.core_model.specs.declared.events.CoreEvent.{CoreEvent}
use Rattle.core_model.specs.declared.events.CoreEvent.TheVariants as event
use Rattle.core_model.specs.declared.phases.Verdict.{Verdict}
use Rattle.core_model.specs.declared.phases.Verdict.TheVariants.{Open, Chosen, Condemned, Committed, Aborted}
use Rattle.core_model.specs.Tests.{members, waiting, is_good, is_committed}
use Rattle.core_model.specs.Answers.{effect_of}
use Rattle.core_model.specs.Events.{applies}
use Rattle.core_model.specs.Laws.{extended}
use Rattle.core_model.specs.LegalRuns.{Run, ends}
use Rattle.core_model.specs.SerialOrder.{committed}
use Rattle.core_model.specs.Settler.{to_commit, versions_to_write}
use Rattle.core_laws.proofs.Orders.{in_drop}
use Rattle.cell_model.proofs.Units.{filter-member}
use Rattle.grain_log.specs.Reads.{fields_of}
use Rattle.grain_log.specs.Places.{places_from}
use Rattle.promise_spec.specs.Programs.{shape_in}
use Rattle.promise_spec.specs.Records.{Commit, AreRecordsOf}
use Rattle.promise_spec.specs.Crashes.{Acknowledges}
use Rattle.promise_spec.specs.UnitRule.{KeepsUnitRule}
use Rattle.script_check.specs.AcceptedPrograms.{IsAcceptedProgram}
use Rattle.batch_disk.specs.ImagesAtRest.{Voted, voted_at, voted_from}
use Rattle.batch_disk.specs.Records.{MayBeLogged, IsAsWritten}
use Rattle.batch_disk.specs.Writers.{kept_of, voted_of, file_end}
use Rattle.batch_disk.specs.declared.writer.BatchWriter.{BatchWriter}
use Rattle.settler_rules.specs.CommittedUnits.{IsToldOf}
use Rattle.settler_rules.specs.Votes.{IsOfVote, VoteStands, HasLeft}
use Rattle.settler_rules.proofs.LoggedUnits.{shown-fit, fits-program, as-written}
use Rattle.settler_rules.proofs.NextVote.{other-grain, vote-made, shown-any}
use Rattle.settler_rules.proofs.StandingVotes.{left-later}
use Rattle.settler_rules.proofs.ToldOf.{told-by-then}
use Rattle.batch_disk.specs.VoteAnswers.{KeepsVotes}
use Rattle.settle_loop.specs.StepJournal.{IsFair}
use Rattle.run_books.specs.Beginnings.{Outset, basis_of}
use Rattle.run_books.specs.Places.{AreOfVotes}
use Rattle.run_books.proofs.BooksImages.{vote-kept}
use Rattle.core_laws.proofs.LoadlessKept.{loadless-ends}
use Rattle.core_laws.proofs.LoadlessRuns.{committed-closed}

-- what holds of each member holds of all
pub all-of : {A : Type 0} (P : A → Type 0) (xs : List A) → ((x : A) → Member x xs → P x) → AllByRecursion P xs
all-of P [] each = tt
all-of P (x ∷ xs) each = (each x (inl refl), all-of P xs (λ y m. each y (inr m)))

votes-in : (r : Run) (writer : BatchWriter) (n : ℕ) → AreOfVotes r writer → (v : Voted) → Member v (voted_of n writer) → IsOfVote (ends r) n v.unit v.write.grain v.state
votes-in r writer n votes v there = by (writer.batch == n) refl there
  where
    by : (same : Bool) → (writer.batch == n) ≡ same → Member v (if same then kept_of writer else []) → IsOfVote (ends r) n v.unit v.write.grain v.state
    by true is m = subst (λ (k : ℕ). IsOfVote (ends r) k v.unit v.write.grain v.state) (eqb-true writer.batch n is) (votes v m)
    by false is m = absurd m

module _ (o : Outset) (r : Run) (writer : BatchWriter) (above : 0 < r.base) (units : KeepsUnitRule (basis_of o) r) (kinds : r.kinds ≡ length o.program.types)
    (accepted : IsAcceptedProgram o.program.types) (few : (ends r).units.next ≤ 2 ^ 63) (votes : AreOfVotes r writer) where
  logged : (x : Effect) → Member x (to_commit (ends r) (ends r).manager.batch) → MayBeLogged (shape_in o.program) x
  logged x m =
      let f = fits-program (basis_of o) r above units few kinds accepted x m in
      record { unit = f.unit; parent = f.parent; call = f.call; writes = f.writes }

  pub written : (n : ℕ) (x : Effect) → Member x (to_commit (ends r) (ends r).manager.batch) → IsAsWritten (voted_of n writer) x
  written n x m = all-of (λ (w : Write). (v : Voted) → Member v (voted_of n writer) → v.unit ≡ x.unit → v.write.grain ≡ w.0 → v.state ≡ w.1) x.writes
      (λ w there v kept same grain.
      as-written (basis_of o) r above units x m n v.write.grain v.state
      (subst (λ (u : UnitNo). IsOfVote (ends r) n u v.write.grain v.state) same (votes-in r writer n votes v kept)) w there grain)

  -- the step is fair
  pub is-fair : IsFair (shape_in o.program) writer (ends r)
  is-fair = record {
    vote = λ n g is. (
      all-of (λ (v : Voted). v.write.grain ≢ g) (voted_of n writer) (λ v m. other-grain (ends r) n g v.write.grain true is (votes-in r writer n votes v m).vote),
      all-of (λ (x : Version). fields_of (slice_get (shape_in o.program).types g.kind) ≡ Some (length x.state)) (versions_to_write (ends r) (ends r).manager.batch g)
          (λ x m. shown-fit (basis_of o) r above units kinds g x m),
    );
    seal = λ n is. (
      all-of (MayBeLogged (shape_in o.program)) (to_commit (ends r) (ends r).manager.batch) logged,
      all-of (IsAsWritten (voted_of n writer)) (to_commit (ends r) (ends r).manager.batch) (written n),
    );
  }

-- ---- what a vote keeps

member-parts : {A : Type 0} (x : A) (xs ys : List A) → Member x (xs ++ ys) → Member x xs ⊎ Member x ys
member-parts x [] ys m = inr m
member-parts x (z ∷ xs) ys (inl q) = inl (inl q)
member-parts x (z ∷ xs) ys (inr m) = elim (member-parts x xs ys m) [
  | inl front ↦ inl (inr front)
  | inr back ↦ inr back
]

-- a version at one of the places
record IsVersionOf (g : GrainId) (vs : List Version) (v : Voted) : Type 0 where
  it : Version
  among : Member it vs
  grain : v.write.grain ≡ g
  unit : v.unit ≡ it.unit
  state : v.state ≡ it.state

version-of : (g : GrainId) (ps : List Place) (vs : List Version) (v : Voted) → Member v (voted_at g ps vs) → IsVersionOf g vs v
version-of g [] vs v m = absurd m
version-of g (p ∷ ps) [] v m = absurd m
version-of g (p ∷ ps) (x ∷ vs) v (inl same) = record {
  it = x;
  among = inl refl;
  grain = ap (λ (y : Voted). y.write.grain) same;
  unit = ap (λ (y : Voted). y.unit) same;
  state = ap (λ (y : Voted). y.state) same;
}
version-of g (p ∷ ps) (x ∷ vs) v (inr m) = (let t = version-of g ps vs v m in record { it = t.it; among = inr t.among; grain = t.grain; unit = t.unit; state = t.state })

-- after a vote
pub votes-after : (r : Run) (n : ℕ) (g : GrainId) (said : Bool) (before after : BatchWriter) → 0 < r.base → applies (ends r) (event.Vote n g said) ≡ true
    → after.batch ≡ n → KeepsVotes said n g (versions_to_write (ends r) (ends r).manager.batch g) before after → AreOfVotes r before → AreOfVotes (extended r (event.Vote n g said ∷ [])) after
votes-after r n g said before after above a batch keeps votes v m =
    subst (λ (k : ℕ). IsOfVote (ends (extended r (event.Vote n g said ∷ []))) k v.unit v.write.grain v.state) (sym batch) (by said refl keeps)
  where
    here : Member v (voted_of n after)
    here = subst (λ (same : Bool). Member v (if same then kept_of after else [])) (sym (eq-eqb after.batch n batch)) m

    old : Member v (voted_of n before) → IsOfVote (ends (extended r (event.Vote n g said ∷ []))) n v.unit v.write.grain v.state
    old there = vote-kept r (event.Vote n g said ∷ []) above n v.unit v.write.grain v.state (votes-in r before n votes v there)

    made : said ≡ true → IsVersionOf g (versions_to_write (ends r) (ends r).manager.batch g) v → IsOfVote (ends (extended r (event.Vote n g said ∷ []))) n v.unit v.write.grain v.state
    made yes_is t =
        let left : HasLeft (ends r) t.it.unit g t.it.state = shown-any r above g t.it t.among in
        subst (λ (u : UnitNo). IsOfVote (ends (extended r (event.Vote n g said ∷ []))) n u v.write.grain v.state) (sym t.unit)
        (subst (λ (s : List Value). IsOfVote (ends (extended r (event.Vote n g said ∷ []))) n t.it.unit v.write.grain s) (sym t.state)
        (subst (λ (h : GrainId). IsOfVote (ends (extended r (event.Vote n g said ∷ []))) n t.it.unit h t.it.state) (sym t.grain)
        (record {
          vote = subst (λ (b : Bool). VoteStands (ends (extended r (event.Vote n g said ∷ []))) n g b) yes_is (vote-made r n g said a);
          left = left-later t.it.unit g t.it.state r (event.Vote n g said ∷ []) above left;
        })))

    by : (b : Bool) → said ≡ b → KeepsVotes b n g (versions_to_write (ends r) (ends r).manager.batch g) before after → IsOfVote (ends (extended r (event.Vote n g said ∷ []))) n v.unit v.write.grain v.state
    by true is k = elim (member-parts v (voted_of n before) (voted_from g (file_end before g) (versions_to_write (ends r) (ends r).manager.batch g)) (subst (λ (l : List Voted). Member v l) k here)) [
      | inl there ↦ old there
      | inr there ↦ made is (version-of g (places_from (file_end before g) (versions_to_write (ends r) (ends r).manager.batch g)) (versions_to_write (ends r) (ends r).manager.batch g) v there)
    ]
    by false is k = old (subst (λ (l : List Voted). Member v l) k here)

-- where no vote was kept more
pub votes-same : (r : Run) (n : ℕ) (before after : BatchWriter) → after.batch ≡ n → voted_of n after ≡ voted_of n before → AreOfVotes r before → AreOfVotes r after
votes-same r n before after batch kept votes v m =
    subst (λ (k : ℕ). IsOfVote (ends r) k v.unit v.write.grain v.state) (sym batch)
    (votes-in r before n votes v (subst (λ (l : List Voted). Member v l) kept
    (subst (λ (same : Bool). Member v (if same then kept_of after else [])) (sym (eq-eqb after.batch n batch)) m)))

-- ---- whom a sealed batch's records are of

-- a record's unit
pub record IsOfUnit (w : CoreState) (p : UnitNo → Bool) (us : List UnitNo) (l : Commit) : Type 0 where
  pub unit : UnitNo
  pub among : Member unit us
  pub test : p unit ≡ true
  pub is : l.logged.unit ≡ unit
  pub origin : l.logged.origin ≡ w.units.origin unit

pub of-unit : (w : CoreState) (p : UnitNo → Bool) (us : List UnitNo) (ls : List Commit) (l : Commit) → AreRecordsOf (map (effect_of w) (filter p us)) ls → Member l ls → IsOfUnit w p us l
of-unit w p us ls l are m = go (filter p us) ls are m (λ u there. filter-member p us u there)
  where
    go : (vs : List UnitNo) (ks : List Commit) → AreRecordsOf (map (effect_of w) vs) ks → Member l ks → ((u : UnitNo) → Member u vs → Member u us × (p u ≡ true)) → IsOfUnit w p us l
    go [] [] are m each = absurd m
    go [] (k ∷ ks) are m each = absurd are
    go (v ∷ vs) [] are m each = absurd are
    go (v ∷ vs) (k ∷ ks) are (inl same) each = (let t = each v (inl refl) in record {
      unit = v;
      among = t.0;
      test = t.1;
      is = ap (λ (x : Commit). x.logged.unit) same ∙ are.0.unit;
      origin = ap (λ (x : Commit). x.logged.origin) same ∙ are.0.origin;
    })
    go (v ∷ vs) (k ∷ ks) are (inr m) each = go vs ks are.1 m (λ u there. each u (inr there))

pub member-take : {A : Type 0} (n : ℕ) (xs : List A) (x : A) → Member x (take n xs) → Member x xs
member-take zero xs x m = absurd m
member-take (suc n) [] x m = absurd m
member-take (suc n) (y ∷ xs) x (inl q) = inl q
member-take (suc n) (y ∷ xs) x (inr m) = inr (member-take n xs x m)

-- a unit that waits isn't committed
pub waits-open : (r : Run) → 0 < r.base → (u : UnitNo) → Member u (waiting (ends r)) → (ends r).manager.verdict u ≡ Committed → ⊥
waits-open r above u there is =
    let late = in_drop _ (ends r) (loadless-ends r above).0 (ends r).manager.closed u there in
    let early = committed-closed r above u is in
    omega (arith, late.1, early.1)

-- what an older entry tells of isn't among them
pub fresh-batch : (r : Run) (e : CoreEvent) (batch all : List Commit) → 0 < r.base
    → AreRecordsOf (to_commit (ends r) (ends r).manager.batch) batch → AreRecordsOf (committed (ends (extended r (e ∷ [])))) all → ((c : Commit) → Member c batch → Member c all)
    → (x : Entry) (c : Commit) → Member x (ends r).manager.settled → Member c batch → Acknowledges x c → ⊥
fresh-batch r e batch all above of_batch of_all within x c said there is = by (ends r).manager.batch refl of_batch
  where
    later : IsOfUnit (ends (extended r (e ∷ []))) (λ u. is_committed ((ends (extended r (e ∷ []))).manager.verdict u)) (ends (extended r (e ∷ []))).manager.order c
    later =
        of-unit (ends (extended r (e ∷ []))) (λ u. is_committed ((ends (extended r (e ∷ []))).manager.verdict u)) (ends (extended r (e ∷ []))).manager.order all c of_all (within c there)

    verdict-is : (v : Verdict) → is_committed v ≡ true → v ≡ Committed
    verdict-is Committed q = refl
    verdict-is Open q = absurd (false≢true q)
    verdict-is Chosen q = absurd (false≢true q)
    verdict-is Condemned q = absurd (false≢true q)
    verdict-is Aborted q = absurd (false≢true q)

    told : IsToldOf (ends (extended r (e ∷ []))) x later.unit
    told = elim is.1 [
      | inl entry ↦ inl (sym later.is ∙ entry.unit)
      | inr child ↦ inr (child.0, child.1.0, sym later.origin ∙ child.1.1)
    ]

    by-then : (ends r).manager.verdict later.unit ≡ Committed
    by-then = told-by-then r (e ∷ []) above x said is.0 later.unit told (verdict-is ((ends (extended r (e ∷ []))).manager.verdict later.unit) later.test)

    by : (batch_is : Option Batch) → (ends r).manager.batch ≡ batch_is → AreRecordsOf (to_commit (ends r) batch_is) batch → ⊥
    by None q are = none batch are there
      where
        none : (ls : List Commit) → AreRecordsOf [] ls → Member c ls → ⊥
        none [] are m = absurd m
        none (l ∷ ls) are m = absurd are
    by (Some b) q are =
        let t = of-unit (ends r) (λ u. is_good ((ends r).manager.verdict u)) (members (ends r) b) batch c are there in
        let same : t.unit ≡ later.unit = sym t.is ∙ later.is in
        waits-open r above t.unit (member-take b.size (waiting (ends r)) t.unit t.among) (ap (ends r).manager.verdict same ∙ by-then)
