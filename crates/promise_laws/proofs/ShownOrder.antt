-- The order is serial from a new silo, and its units are numbered.
use Rattle.std.proofs.Common.{◌≡◌, ℕ, ◌<◌, ◌≤◌, List, [], ◌∷◌, ◌++◌, map, inl, inr, refl, sym, ap, ◌∙◌, subst, arith}
use Rattle.base_types.specs.declared.calls.Origin.{Origin}
use Rattle.base_types.specs.declared.calls.Origin.TheVariants.{Line, Child}
use Rattle.core_model.specs.declared.phases.Phase.TheVariants.{Unborn, Finished}
use Rattle.core_model.specs.CoreState.{UnitNo, GrainId, Member, Value, CoreState}
use Rattle.core_model.specs.Answers.{effect_of}
use Rattle.core_laws.proofs.Orders.{Member-get}
use Rattle.core_laws.proofs.LineEntries.{Rises}
use Rattle.cell_model.proofs.Units.{filter-member}
use Rattle.script_tree.specs.Programs.{ProgramTree}
use Rattle.promise_spec.specs.Programs.{Program}
use Rattle.promise_spec.specs.Records.{Commit, AreRecordsOf}
use Rattle.promise_spec.specs.Entries as entry
use Rattle.promise_spec.specs.Entries.{LogEntry, Standing, after_entry, after_entries, records_of, standing_of}
use Rattle.promise_spec.specs.SerialExecution.{IsSerial, IsSerialFrom}
use Rattle.promise_spec.specs.Images.{IsAboveParent, AreNumbered}
use Rattle.promise_spec.specs.Courses.{Observed, Course, lines, order, program_in_force, core_end}
use Rattle.promise_spec.specs.Explanation.{IsExplained}
use Rattle.promise_spec.proofs.Standings.{serial_from, grown_records}
use Rattle.promise_spec.proofs.Lists.{all_of, both_parts}
use Rattle.promise_laws.proofs.SerialRecords.{explained_serial}
use Rattle.promise_laws.proofs.TrueReplies.{Known, known_of, Recorded, recorded, chosen_by, unit_of, order-finished, next-grows, below-next, rises-filter, order-rises}

-- records that are serial from where entries, which are serial, lead
serial_after : (before : Standing) (entries : List LogEntry) (more : List Commit) → IsSerialFrom before entries → IsSerialFrom (after_entries before entries) (map entry.Recorded more) → IsSerialFrom before (entries ++ map entry.Recorded more)
serial_after before [] more first later = later
serial_after before (entry.Recorded c ∷ entries) more first later = (first.0, serial_after (after_entry before (entry.Recorded c)) entries more first.1 later)
serial_after before (entry.Upgraded p ∷ entries) more first later = serial_after (after_entry before (entry.Upgraded p)) entries more first later

-- the order is serial where the opening log is
pub order_serial : (p : Program) (r : Observed) (c : Course) → program_in_force c ≡ p → 0 < c.opening.base.next → IsExplained p r c → IsSerialFrom c.opening.base c.opening.entries → IsSerialFrom (order c).base (order c).entries
order_serial p r c same based is first =
    let added : IsSerial (standing_of c.opening).program.types (standing_of c.opening).states c.added =
    subst (λ (q : Program). IsSerial q.types (standing_of c.opening).states c.added) (sym same) (explained_serial p r c based is) in
    serial_after c.opening.base c.opening.entries c.added first ((serial_from (standing_of c.opening) c.added).1 added)

-- numbered records behind numbered ones with lower numbers
numbered_after : (first next : ℕ) (log more : List Commit) → first ≤ next → AreNumbered first log → ((l : Commit) → Member l log → l.logged.unit.0 < next) → AreNumbered next more → AreNumbered first (log ++ more)
numbered_after first next [] [] low all below later = tt
numbered_after first next [] (d ∷ more) low all below later =
    (omega (arith, low, later.0), later.1, later.2, numbered_after first next [] more low tt (λ l m. absurd m) later.3)
numbered_after first next (c ∷ log) more low all below later = (
  all.0,
  all.1,
  both_parts (λ d. d.logged.unit ≡ c.logged.unit → ⊥) log more all.2
      (all_of (λ d. d.logged.unit ≡ c.logged.unit → ⊥) more (λ d m same.
      (let here = below c (inl refl) in let there = from more later d m in absurd (omega (arith, here, there, ap (λ (u : UnitNo). u.0) same))))),
  numbered_after first next log more low all.3 (λ l m. below l (inr m)) later,
)
  where
    from : (ds : List Commit) → AreNumbered next ds → (d : Commit) → Member d ds → next ≤ d.logged.unit.0
    from [] n d m = absurd m
    from (x ∷ ds) n d (inl same) = subst (λ (z : Commit). next ≤ z.logged.unit.0) (sym same) n.0
    from (x ∷ ds) n d (inr m) = from ds n.3 d m

-- an origin's parent is below a number
above_in : (o : Origin) (n : ℕ) → ((p : UnitNo) (i d : ℕ) → o ≡ Child p i d → p.0 < n) → IsAboveParent o n
above_in (Line k) n above = tt
above_in (Child p i d) n above = above p i d refl

-- the records of different units from a number on, each above its parent
numbered_units : (base : ℕ) (w : CoreState) (us : List UnitNo) (log : List Commit) → Rises w.manager.place us → ((u : UnitNo) → Member u us → (base ≤ u.0) × IsAboveParent (w.units.origin u) u.0)
    → AreRecordsOf (map (effect_of w) us) log → AreNumbered base log
numbered_units base w [] [] rises each are = tt
numbered_units base w [] (l ∷ log) rises each are = absurd are
numbered_units base w (u ∷ us) [] rises each are = absurd are
numbered_units base w (u ∷ us) (l ∷ log) rises each are =
    let t = each u (inl refl) in (
      subst (λ (x : UnitNo). base ≤ x.0) (sym are.0.unit) t.0,
      subst (λ o. IsAboveParent o l.logged.unit.0) (sym are.0.origin) (subst (λ (x : UnitNo). IsAboveParent (w.units.origin u) x.0) (sym are.0.unit) t.1),
      all_of (λ d. d.logged.unit ≡ l.logged.unit → ⊥) log (λ d m same.
          (let k = unit_of w us log d are.1 m in
          let one : k.0 ≡ u = sym k.2.unit ∙ same ∙ are.0.unit in
          let less : w.manager.place u < w.manager.place k.0 = rises.0 k.0 k.1 in
          absurd (omega (arith, less, ap w.manager.place one)))),
      numbered_units base w us log rises.1 (λ x m. each x (inr m)) are.1,
    )

-- a unit of the run is above its parent
unit_above : (types : ProgramTree) (ls : List (List ℕ)) (opening : GrainId → List Value) (base : ℕ) (w : CoreState) → Known types ls opening base w → (u : UnitNo) → (w.units.phase u ≡ Unborn → ⊥)
    → IsAboveParent (w.units.origin u) u.0
unit_above types ls opening base w known u born =
    above_in (w.units.origin u) u.0 (λ p i d q.
    (let t = known.kids.listed u p i d born q in
    known.kids.younger p u (subst (λ x. Member x (w.units.kids p)) t.1 (Member-get (w.units.kids p) i t.0))))

-- the added records are numbered from where the opening log ends
added_numbered : (p : Program) (r : Observed) (c : Course) → 0 < c.opening.base.next → IsExplained p r c → AreNumbered (standing_of c.opening).next c.added
added_numbered p r c based is =
    let w : CoreState = core_end p c in
    let opening : GrainId → List Value = (standing_of c.opening).states in
    let base : ℕ = (standing_of c.opening).next in
    let k : Known p.types (lines r) opening base w = known_of p r c based is in
    let are : Recorded w c.added = recorded opening w c.added k.kept k.split is.records in
    let done : (u : UnitNo) → Member u (chosen_by are.test w) → w.units.phase u ≡ Unborn → ⊥ = λ u m z.
    (let f = order-finished opening w k.kept u (filter-member (λ x. are.test (w.manager.verdict x)) w.manager.order u m).0 in let y : Unborn ≡ Finished = sym z ∙ f in cc) in
    numbered_units base w (chosen_by are.test w) c.added
    (rises-filter w.manager.place (λ u. are.test (w.manager.verdict u)) w.manager.order (order-rises opening w k.kept))
    (λ u m. (k.rule.2 u (done u m), unit_above p.types (lines r) opening base w k u (done u m)))
    are.records

-- the order is numbered where the opening log is
pub order_numbered : (p : Program) (r : Observed) (c : Course) → 0 < c.opening.base.next → IsExplained p r c → AreNumbered c.opening.base.next (records_of c.opening) → AreNumbered c.opening.base.next (records_of (order c))
order_numbered p r c based is first =
    subst (AreNumbered c.opening.base.next) (sym (grown_records c.opening c.added))
    (numbered_after c.opening.base.next (standing_of c.opening).next (records_of c.opening) c.added (next-grows c.opening.base c.opening.entries) first
    (λ l m. below-next c.opening.base c.opening.entries l m) (added_numbered p r c based is))
