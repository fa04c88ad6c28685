-- What a run's loads rest on, as the run goes on: the votes' versions, the places, and the loads themselves.
use Rattle.std.proofs.Common.{◌≡◌, ◌<◌, ℕ, zero, suc, List, [], ◌∷◌, ◌++◌, map, Bool, true, false, true≢false, inl, inr, refl, sym, ap, ◌∙◌, subst, arith, Option, Some, None, unwrap_or}
use Rattle.std.specs.Prelude.{if◌then◌else◌, zip, nat_lt, slice_get}
use Rattle.std.specs.List.{AllPairs, AllByRecursion}
use Rattle.std.proofs.lemmas.Bool.{cases_Bool, cond-true, cond-false, and_parts, or_cases, ltb-true}
use Rattle.base_types.specs.Places.{placed_in}
use Rattle.base_types.specs.declared.places.Placed.{Placed}
use Rattle.base_types.specs.declared.stores.Version.{Version}
use Rattle.host_trait.specs.World.{Disk}
use Rattle.cell_model.proofs.Units.{same_grain-true}
use Rattle.commit_log.specs.declared.records.Written.{Written}
use Rattle.core_model.specs.CoreState.{UnitNo, GrainId, Member, Value, Write, CoreState, nobody, same_grain}
use Rattle.core_model.specs.Tests.{state_written}
use Rattle.core_model.specs.declared.effects.Effect.{Effect}
use Rattle.core_model.specs.declared.events.CoreEvent.{CoreEvent}
use Rattle.core_model.specs.declared.events.CoreEvent.TheVariants.{Load}
use Rattle.core_model.specs.Events.{applies, step, run}
use Rattle.core_model.specs.Laws.{extended}
use Rattle.core_model.specs.LegalRuns.{Run, begins, ends}
use Rattle.core_model.specs.SerialOrder.{IsTrueLoad, AllLoadsTrue, IsLastVersion}
use Rattle.promise_spec.specs.Entries.{initial_states}
use Rattle.promise_spec.specs.Records.{Commit, written, AreRecordsOf}
use Rattle.promise_spec.specs.Programs.{shape_in}
use Rattle.promise_spec.specs.Journals.{commits_of}
use Rattle.core_access.specs.SettlerEvents.{is_settling}
use Rattle.batch_disk.specs.KeptPlaces.{PlacesStand}
use Rattle.batch_disk.specs.MovedPlaces.{placed_new, placed_by_states, placed_by_commits}
use Rattle.batch_disk.specs.Writers.{newest_number}
use Rattle.batch_disk.specs.declared.writer.BatchWriter.{BatchWriter}
use Rattle.script_tree.specs.Programs.{ProgramTree}
use Rattle.script_check.specs.Shapes.{type_shapes}
use Rattle.settle_loop.specs.HostSteps.{type_initial, version_due}
use Rattle.settler_rules.proofs.Calls.{all-member}
use Rattle.settler_rules.proofs.LoggedUnits.{IsBelow}
use Rattle.run_books.specs.Beginnings.{Outset}
use Rattle.run_books.specs.Books.{Books, AreBooked}
use Rattle.run_books.specs.LastVersions.{version_after, version_behind, last_own, true_load}
use Rattle.run_books.specs.Places.{IsPlacedAs, IsOfOpening, loaded_by, load_by, AreOfVotes, KeepsVersions}
use Rattle.run_books.proofs.BooksImages.{vote-kept}
use Rattle.run_books.proofs.TrueLoads.{true-load}

-- ---- the loads

-- the loads stay true, with one more
loads-more : (began : GrainId → List Value) (es : List CoreEvent) (w : CoreState) (e : CoreEvent) → AllLoadsTrue began w es → IsTrueLoad began (run w es) e → AllLoadsTrue began w (es ++ e ∷ [])
loads-more began [] w e l t = (t, tt)
loads-more began (x ∷ es) w e l t = (l.0, loads-more began es (step w x) e l.1 t)

-- so by an event that is true where it comes
pub loads-on : (r : Run) (e : CoreEvent) → AllLoadsTrue r.opening (begins r) r.events → IsTrueLoad r.opening (ends r) e → AllLoadsTrue (extended r (e ∷ [])).opening (begins (extended r (e ∷ []))) (extended r (e ∷ [])).events
loads-on r e l t = loads-more r.opening r.events (begins r) e l t

-- an event of others is no load
pub others-true : (r : Run) (e : CoreEvent) → is_settling e ≡ false → IsTrueLoad r.opening (ends r) e
others-true r (Load g u state) other = absurd (true≢false other)
others-true r _ other = tt

-- nor need one be true that doesn't apply
pub unapplied-true : (began : GrainId → List Value) (w : CoreState) (e : CoreEvent) → applies w e ≡ false → IsTrueLoad began w e
unapplied-true began w (Load g u state) not_so = λ a. absurd (true≢false (sym a ∙ not_so))
unapplied-true began w _ not_so = tt

-- ---- a load by the places

-- what is loaded by a place is what a true load brings
by-place : (initial began : List Value) (v : Option Version) (p : Option Placed) → IsPlacedAs v p → IsOfOpening initial began p
    → loaded_by initial p ≡ unwrap_or v (record { unit = nobody; state = began })
by-place initial began None None is opened = λ i. record { unit = nobody; state = sym opened i }
by-place initial began None (Some p) is opened = λ i. record { unit = if is i then p.known.version.unit else nobody; state = opened is i }
by-place initial began (Some v) None is opened = absurd is
by-place initial began (Some v) (Some p) is opened = λ i. record { unit = if is.0 i then (is.1 i).unit else nobody; state = (is.1 i).state }

-- so it is the last committed version
pub load-true : (o : Outset) (b : Books) (r : Run) (writer : BatchWriter) (disk : Disk) (g : GrainId) → 0 < r.base → AreBooked b (ends r) → KeepsVersions o b r writer disk
    → IsLastVersion r.opening (ends r) g (load_by o writer g).unit (load_by o writer g).state
load-true o b r writer disk g above booked k =
    let same : load_by o writer g ≡ true_load r.opening g (commits_of (b.said ++ b.unsaid)) =
    by-place (initial_states o.program g) (r.opening g) (last_own g (commits_of (b.said ++ b.unsaid))) (placed_in writer.places g) (k.own g) (k.opened g) in
    subst (λ (v : Version). IsLastVersion r.opening (ends r) g v.unit v.state) (sym same) (true-load r above r.opening (commits_of (b.said ++ b.unsaid)) g booked.commits)

-- ---- a load that a step makes

-- a type's initial fields by the shape and by the program
initial-types : (types : ProgramTree) (kind key : ℕ) → type_initial (slice_get (type_shapes types) kind) ≡ initial_states (record { text = []; types = types }) (record { kind = kind; key = key })
initial-types [] kind key = refl
initial-types (t ∷ types) zero key = refl
initial-types (t ∷ types) (suc kind) key = initial-types types kind key

-- what is due of a grain by its place is what is loaded by it
due-is : (o : Outset) (writer : BatchWriter) (g : GrainId) (p : Option Placed) → version_due (shape_in o.program) g p ≡ loaded_by (initial_states o.program g) p
due-is o writer g None = λ i. record { unit = nobody; state = initial-types o.program.types g.kind g.key i }
due-is o writer g (Some p) = refl

-- so where it is what stands at the grain's place, it is true
pub step-true : (o : Outset) (b : Books) (r : Run) (writer : BatchWriter) (disk : Disk) (g : GrainId) (u : UnitNo) (state : List Value) → 0 < r.base → AreBooked b (ends r) → KeepsVersions o b r writer disk
    → record { unit = u; state = state } ≡ version_due (shape_in o.program) g (placed_in writer.places g) → IsTrueLoad r.opening (ends r) (Load g u state)
step-true o b r writer disk g u state above booked k is =
    λ a. subst (λ (v : Version). IsLastVersion r.opening (ends r) g v.unit v.state) (sym (is ∙ due-is o writer g (placed_in writer.places g))) (load-true o b r writer disk g above booked k)

-- ---- an event more

-- the votes' versions stay theirs
pub votes-still : (r : Run) (e : CoreEvent) (writer : BatchWriter) → 0 < r.base → AreOfVotes r writer → AreOfVotes (extended r (e ∷ [])) writer
votes-still r e writer above votes v there = vote-kept r (e ∷ []) above writer.batch v.unit v.write.grain v.state (votes v there)

module _ (o : Outset) (b c : Books) (r : Run) (writer writer' : BatchWriter) (disk disk' : Disk) (k : KeepsVersions o b r writer disk) (stand : PlacesStand o.live (shape_in o.program) writer' disk')
    (places : (g : GrainId) → placed_in writer'.places g ≡ placed_in writer.places g) (commits : commits_of (c.said ++ c.unsaid) ≡ commits_of (b.said ++ b.unsaid)) where
  own-still : (g : GrainId) → IsPlacedAs (last_own g (commits_of (c.said ++ c.unsaid))) (placed_in writer'.places g)
  own-still g =
      subst (λ (p : Option Placed). IsPlacedAs (last_own g (commits_of (c.said ++ c.unsaid))) p) (sym (places g))
      (subst (λ (cs : List Commit). IsPlacedAs (last_own g cs) (placed_in writer.places g)) (sym commits) (k.own g))

  opened-still : (g : GrainId) → IsOfOpening (initial_states o.program g) (r.opening g) (placed_in writer'.places g)
  opened-still g = subst (IsOfOpening (initial_states o.program g) (r.opening g)) (sym (places g)) (k.opened g)

  -- where no event came, no place is another, and no record was written
  pub versions-stay : AreOfVotes r writer' → KeepsVersions o c r writer' disk'
  versions-stay votes = record { votes = votes; stand = stand; own = own-still; opened = opened-still; loads = k.loads }

  -- so it is where an event came that is true
  pub versions-on : (e : CoreEvent) → IsTrueLoad r.opening (ends r) e → AreOfVotes (extended r (e ∷ [])) writer' → KeepsVersions o c (extended r (e ∷ [])) writer' disk'
  versions-on e true_is votes = record { votes = votes; stand = stand; own = own-still; opened = opened-still; loads = loads-on r e k.loads true_is }

module _ (o : Outset) (b c : Books) (r : Run) (writer writer' : BatchWriter) (disk disk' : Disk) (k : KeepsVersions o b r writer disk) (same : writer' ≡ writer) (still : disk' ≡ disk)
    (commits : commits_of (c.said ++ c.unsaid) ≡ commits_of (b.said ++ b.unsaid)) where
  stand-same : PlacesStand o.live (shape_in o.program) writer' disk'
  stand-same = subst (λ (w : BatchWriter). PlacesStand o.live (shape_in o.program) w disk') (sym same) (subst (λ (d : Disk). PlacesStand o.live (shape_in o.program) writer d) (sym still) k.stand)

  places-same : (g : GrainId) → placed_in writer'.places g ≡ placed_in writer.places g
  places-same g = ap (λ (w : BatchWriter). placed_in w.places g) same

  -- where the writer and the files are as they were
  pub versions-as-were : KeepsVersions o c r writer' disk'
  versions-as-were = versions-stay o b c r writer writer' disk disk' k stand-same places-same commits (subst (λ (w : BatchWriter). AreOfVotes r w) (sym same) k.votes)

  -- also with an event more
  pub versions-same : (e : CoreEvent) → 0 < r.base → IsTrueLoad r.opening (ends r) e → KeepsVersions o c (extended r (e ∷ [])) writer' disk'
  versions-same e above true_is =
      versions-on o b c r writer writer' disk disk' k stand-same places-same commits e true_is
      (subst (λ (w : BatchWriter). AreOfVotes (extended r (e ∷ [])) w) (sym same) (votes-still r e writer above k.votes))

-- ---- a batch on disk

-- no grain is written twice
abbrev Differ : List Write → Type 0
Differ [] = Unit {0}
Differ (x ∷ xs) = (state_written x.0 xs ≡ None) × Differ xs

not-below : (g : GrainId) (one other : List Value) → IsBelow (g, one) (g, other) → ⊥
not-below g one other t = elim (or_cases (nat_lt g.kind g.kind) _ t) [
  | inl k ↦ (let less = ltb-true g.kind g.kind k in omega (arith, less))
  | inr y ↦ (let less = ltb-true g.key g.key (and_parts _ (nat_lt g.key g.key) y).1 in omega (arith, less))
]

unwritten-above : (x : Write) (xs : List Write) → ((y : Write) → Member y xs → IsBelow x y) → state_written x.0 xs ≡ None
unwritten-above x [] below = refl
unwritten-above x (y ∷ xs) below = elim (cases_Bool (same_grain y.0 x.0)) [
  | inl e ↦ absurd (not-below x.0 x.1 y.1 (subst (λ (g : GrainId). IsBelow x (g, y.1)) (same_grain-true y.0 x.0 e) (below y (inl refl))))
  | inr e ↦ cond-false (same_grain y.0 x.0) (Some y.1) (state_written x.0 xs) e ∙ unwritten-above x xs (λ z m. below z (inr m))
]

differ : (xs : List Write) → AllPairs IsBelow xs → Differ xs
differ [] pairs = tt
differ (x ∷ xs) pairs = (
  unwritten-above x xs (λ y m. all-member (IsBelow x) xs y (λ k d within. pairs 0 (suc k) d (omega arith) (omega (arith, within))) m),
  differ xs (λ i j d below within. pairs (suc i) (suc j) d (omega (arith, below)) (omega (arith, within))),
)

-- a grain that isn't written stays at its place
unwritten-stays : (n : ℕ) (unit : UnitNo) (ws : List Written) (states : List (List Value)) (g : GrainId) (p : Option Placed) → state_written g (zip (map (λ (w : Written). w.grain) ws) states) ≡ None
    → placed_by_states n unit ws states g p ≡ p
unwritten-stays n unit [] states g p none = refl
unwritten-stays n unit (w ∷ ws) [] g p none = refl
unwritten-stays n unit (w ∷ ws) (state ∷ states) g p none = elim (cases_Bool (same_grain w.grain g)) [
  | inl e ↦ absurd (let z : Some state ≡ None = sym (cond-true (same_grain w.grain g) (Some state) (state_written g (zip (map (λ (x : Written). x.grain) ws) states)) e) ∙ none in cc)
  | inr e ↦ (
      let rest : state_written g (zip (map (λ (x : Written). x.grain) ws) states) ≡ None =
      sym (cond-false (same_grain w.grain g) (Some state) (state_written g (zip (map (λ (x : Written). x.grain) ws) states)) e) ∙ none in
      ap (placed_by_states n unit ws states g) (cond-false (same_grain w.grain g) (Some (placed_new n w.place (record { unit = unit; state = state }))) p e) ∙ unwritten-stays n unit ws states g p rest)
]

-- one that a unit wrote stands at the place of the unit's version
placed-unit : (n : ℕ) (unit : UnitNo) (ws : List Written) (states : List (List Value)) (g : GrainId) (v : Option Version) (p : Option Placed) → Differ (zip (map (λ (w : Written). w.grain) ws) states) → IsPlacedAs v p
    → IsPlacedAs (version_after unit (state_written g (zip (map (λ (w : Written). w.grain) ws) states)) v) (placed_by_states n unit ws states g p)
placed-unit n unit [] states g v p d is = is
placed-unit n unit (w ∷ ws) [] g v p d is = is
placed-unit n unit (w ∷ ws) (state ∷ states) g v p d is = elim (cases_Bool (same_grain w.grain g)) [
  | inl e ↦ (
      let new : Placed = placed_new n w.place (record { unit = unit; state = state }) in
      let none : state_written g (zip (map (λ (x : Written). x.grain) ws) states) ≡ None =
      subst (λ (h : GrainId). state_written h (zip (map (λ (x : Written). x.grain) ws) states) ≡ None) (same_grain-true w.grain g e) d.0 in
      subst (λ (s : Option (List Value)). IsPlacedAs (version_after unit s v) (placed_by_states n unit (w ∷ ws) (state ∷ states) g p))
      (sym (cond-true (same_grain w.grain g) (Some state) (state_written g (zip (map (λ (x : Written). x.grain) ws) states)) e))
      (subst (λ (q : Option Placed). IsPlacedAs (Some (record { unit = unit; state = state })) q)
      (sym (ap (placed_by_states n unit ws states g) (cond-true (same_grain w.grain g) (Some new) p e) ∙ unwritten-stays n unit ws states g (Some new) none)) (refl, refl)))
  | inr e ↦
      subst (λ (s : Option (List Value)). IsPlacedAs (version_after unit s v) (placed_by_states n unit (w ∷ ws) (state ∷ states) g p))
      (sym (cond-false (same_grain w.grain g) (Some state) (state_written g (zip (map (λ (x : Written). x.grain) ws) states)) e))
      (subst (λ (q : Option Placed). IsPlacedAs (version_after unit (state_written g (zip (map (λ (x : Written). x.grain) ws) states)) v) (placed_by_states n unit ws states g q))
      (sym (cond-false (same_grain w.grain g) (Some (placed_new n w.place (record { unit = unit; state = state }))) p e)) (placed-unit n unit ws states g v p d.1 is))
]

-- so it is once a batch's records are there
placed-batch : (n : ℕ) (g : GrainId) (es : List Effect) (cs : List Commit) (v : Option Version) (p : Option Placed) → AreRecordsOf es cs → AllByRecursion (λ (e : Effect). AllPairs IsBelow e.writes) es → IsPlacedAs v p
    → IsPlacedAs (version_behind g cs v) (placed_by_commits n cs g p)
placed-batch n g [] [] v p are up is = is
placed-batch n g [] (c ∷ cs) v p are up is = absurd are
placed-batch n g (e ∷ es) [] v p are up is = absurd are
placed-batch n g (e ∷ es) (c ∷ cs) v p are up is =
    placed-batch n g es cs (version_after c.logged.unit (state_written g (written c)) v) (placed_by_states n c.logged.unit c.logged.writes c.states g p) are.1 up.1
    (placed-unit n c.logged.unit c.logged.writes c.states g v p (subst Differ (sym are.0.writes) (differ e.writes up.0)) is)

-- a place of the opening's is none that was written since
opened-unit : (n : ℕ) (unit : UnitNo) (ws : List Written) (states : List (List Value)) (g : GrainId) (initial began : List Value) (p : Option Placed) → IsOfOpening initial began p
    → IsOfOpening initial began (placed_by_states n unit ws states g p)
opened-unit n unit [] states g initial began p is = is
opened-unit n unit (w ∷ ws) [] g initial began p is = is
opened-unit n unit (w ∷ ws) (state ∷ states) g initial began p is =
    opened-unit n unit ws states g initial began (if same_grain w.grain g then Some (placed_new n w.place (record { unit = unit; state = state })) else p) (by (same_grain w.grain g))
  where
    by : (x : Bool) → IsOfOpening initial began (if x then Some (placed_new n w.place (record { unit = unit; state = state })) else p)
    by true = λ old. absurd (true≢false old)
    by false = is

opened-batch : (n : ℕ) (g : GrainId) (cs : List Commit) (initial began : List Value) (p : Option Placed) → IsOfOpening initial began p → IsOfOpening initial began (placed_by_commits n cs g p)
opened-batch n g [] initial began p is = is
opened-batch n g (c ∷ cs) initial began p is = opened-batch n g cs initial began (placed_by_states n c.logged.unit c.logged.writes c.states g p) (opened-unit n c.logged.unit c.logged.writes c.states g initial began p is)

-- the records of one list and then those of another
behind-both : (g : GrainId) (one other : List Commit) (v : Option Version) → version_behind g (one ++ other) v ≡ version_behind g other (version_behind g one v)
behind-both g [] other v = refl
behind-both g (c ∷ one) other v = behind-both g one other (version_after c.logged.unit (state_written g (written c)) v)

-- a batch on disk: each grain that it wrote has its last version there
pub versions-sealed : (o : Outset) (b c : Books) (r : Run) (e : CoreEvent) (writer writer' : BatchWriter) (disk disk' : Disk) (es : List Effect) (batch : List Commit) → KeepsVersions o b r writer disk
    → IsTrueLoad r.opening (ends r) e → AreOfVotes (extended r (e ∷ [])) writer' → PlacesStand o.live (shape_in o.program) writer' disk'
    → AreRecordsOf es batch → AllByRecursion (λ (x : Effect). AllPairs IsBelow x.writes) es → ((g : GrainId) → placed_in writer'.places g ≡ placed_by_commits (newest_number writer) batch g (placed_in writer.places g))
    → commits_of (c.said ++ c.unsaid) ≡ commits_of (b.said ++ b.unsaid) ++ batch → KeepsVersions o c (extended r (e ∷ [])) writer' disk'
versions-sealed o b c r e writer writer' disk disk' es batch k true_is votes stand are up places commits = record {
  votes = votes;
  stand = stand;
  own = λ g.
      subst (λ (p : Option Placed). IsPlacedAs (last_own g (commits_of (c.said ++ c.unsaid))) p) (sym (places g))
      (subst (λ (v : Option Version). IsPlacedAs v (placed_by_commits (newest_number writer) batch g (placed_in writer.places g))) (sym (ap (λ (cs : List Commit). last_own g cs) commits ∙ behind-both g (commits_of (b.said ++ b.unsaid)) batch None))
      (placed-batch (newest_number writer) g es batch (last_own g (commits_of (b.said ++ b.unsaid))) (placed_in writer.places g) are up (k.own g)));
  opened = λ g.
      subst (IsOfOpening (initial_states o.program g) (r.opening g)) (sym (places g)) (opened-batch (newest_number writer) g batch (initial_states o.program g) (r.opening g) (placed_in writer.places g) (k.opened g));
  loads = loads-on r e k.loads true_is;
}
