-- The records that a run adds, by their units: one for each, in the finish order.
use Rattle.std.proofs.Common.{◌≡◌, ℕ, ◌<◌, ◌+◌, suc, List, [], ◌∷◌, ◌++◌, length, map, filter, get_or, Bool, true, inl, inr, refl, sym, ap, ◌∙◌, subst, arith}
use Rattle.std.proofs.lemmas.Bool.{cond_both}
use Rattle.cell_model.proofs.Units.{filter-member, filter-stays}
use Rattle.core_model.specs.declared.effects.Read.{Read}
use Rattle.core_model.specs.declared.effects.Effect.{Effect}
use Rattle.core_model.specs.declared.phases.Phase.TheVariants.{Finished}
use Rattle.core_model.specs.declared.phases.Verdict.{Verdict}
use Rattle.core_model.specs.declared.phases.Verdict.TheVariants.{Committed}
use Rattle.core_model.specs.CoreState.{UnitNo, GrainId, nobody, Member, Value, CoreState}
use Rattle.core_model.specs.Tests.{is_good, is_committed}
use Rattle.core_model.specs.Answers.{effect_of}
use Rattle.core_model.specs.SerialOrder as model
use Rattle.core_model.specs.LegalRuns.{Run, IsLegal, ends}
use Rattle.core_laws.proofs.Basics.{is_committed-true}
use Rattle.core_laws.proofs.Orders.{Member-at, Member-get}
use Rattle.core_laws.proofs.KeptInvariant.{Kept}
use Rattle.core_laws.proofs.Ends.{kept-ends}
use Rattle.core_laws.proofs.UnitPlays.{valid-ends}
use Rattle.core_laws.proofs.CommitOrder.{split-order}
use Rattle.core_laws.proofs.SerialOrder.{serial-committed, serial-good}
use Rattle.script_tree.specs.Programs.{ProgramTree}
use Rattle.promise_spec.specs.Records.{Commit, States, after_writes, IsRecordOf, AreRecordsOf}
use Rattle.promise_spec.specs.Family.{states_after}
use Rattle.promise_spec.specs.Explanation.{AreAdded}
use Rattle.promise_spec.proofs.Lists.{head_of, tail_of, none_is}
use Rattle.promise_laws.specs.Legality.{is_play}
use Rattle.promise_laws.proofs.LegalRuns.{is_play-true}
use Rattle.promise_laws.proofs.SerialRecords.{next-states}
use Rattle.core_laws.proofs.LoadlessKept.{loadless-ends}
use Rattle.core_laws.proofs.LoadlessRuns.{split-ends, committed-closed}

-- each stands before those after it
abbrev pub AreAscending : (UnitNo → ℕ) → List UnitNo → Type 0
AreAscending place [] = Unit {0}
AreAscending place (u ∷ us) = ((v : UnitNo) → Member v us → place u < place v) × AreAscending place us

-- The records are those of these units, which finished in this order, all of them to commit; each committed unit is
-- among them.
pub record AreOf (w : CoreState) (us : List UnitNo) (log : List Commit) : Type 0 where
  pub records : AreRecordsOf (map (effect_of w) us) log
  pub ascending : AreAscending w.manager.place us
  pub done : (u : UnitNo) → Member u us → (w.units.phase u ≡ Finished) × (is_good (w.manager.verdict u) ≡ true)
  pub all : (u : UnitNo) → w.manager.verdict u ≡ Committed → Member u us

-- places that go up one by one
ascending-from : (place : UnitNo → ℕ) (us : List UnitNo) (k : ℕ) → ((j : ℕ) → j < length us → place (get_or us j nobody) ≡ k + j + 1) → AreAscending place us
ascending-from place [] k at = tt
ascending-from place (u ∷ us) k at = (
  λ v m.
      (let t = Member-at v us m in
      let first : place u ≡ k + 0 + 1 = at 0 (omega arith) in
      let later : place v ≡ k + suc t.0 + 1 = ap place (sym t.2) ∙ at (suc t.0) (omega (arith, t.1)) in
      omega (arith, first, later)),
  ascending-from place us (k + 1) (λ j h. (let q : place (get_or us j nobody) ≡ k + suc j + 1 = at (suc j) (omega (arith, h)) in omega (arith, q))),
)

ascending-filter : (place : UnitNo → ℕ) (p : UnitNo → Bool) (us : List UnitNo) → AreAscending place us → AreAscending place (filter p us)
ascending-filter place p [] s = tt
ascending-filter place p (u ∷ us) s = cond_both (p u) (u ∷ filter p us) (filter p us) (AreAscending place)
    (λ e. ((λ v m. s.0 v (filter-member p us v m).0), ascending-filter place p us s.1))
    (λ e. ascending-filter place p us s.1)

-- those of the finish order whose verdict meets a test
of-verdicts : (opening : GrainId → List Value) (w : CoreState) (t : Verdict → Bool) (log : List Commit) → Kept opening w → ((v : Verdict) → t v ≡ true → is_good v ≡ true) → t Committed ≡ true →
    ((u : UnitNo) → w.manager.verdict u ≡ Committed → w.units.phase u ≡ Finished) →
    AreRecordsOf (map (effect_of w) (filter (λ u. t (w.manager.verdict u)) w.manager.order)) log → AreOf w (filter (λ u. t (w.manager.verdict u)) w.manager.order) log
of-verdicts opening w t log k good sure finished are = record {
  records = are;
  ascending = ascending-filter w.manager.place (λ u. t (w.manager.verdict u)) w.manager.order
      (ascending-from w.manager.place w.manager.order 0 (λ j h. (let q = (k.0.listed j h).1 in omega (arith, q))));
  done = λ u m.
      (let f = filter-member (λ x. t (w.manager.verdict x)) w.manager.order u m in
      let at = Member-at u w.manager.order f.0 in
      (subst (λ x. w.units.phase x ≡ Finished) at.2 (k.0.listed at.0 at.1).0, good (w.manager.verdict u) f.1));
  all = λ u c.
      (let p = k.0.placed u (finished u c) in
      filter-stays (λ x. t (w.manager.verdict x)) w.manager.order u
      (subst (λ x. Member x w.manager.order) p.3 (Member-get w.manager.order p.0 p.1)) (ap t c ∙ sure));
}

-- units whose records a log has, and whose effects are serial from these states
pub record AreSerialOf (types : ProgramTree) (states : States) (w : CoreState) (log : List Commit) : Type 0 where
  pub us : List UnitNo
  pub are : AreOf w us log
  pub serial : model.IsSerialOrder (is_play types) states (map (effect_of w) us)

-- what a legal run adds has such
pub added-of : (types : ProgramTree) (r : Run) (log : List Commit) → IsLegal (is_play types) r → AreAdded (ends r) log → AreSerialOf types r.opening (ends r) log
added-of types r log lawful (inl all) = record {
  us = filter (λ u. is_committed ((ends r).manager.verdict u)) (ends r).manager.order;
  are = of-verdicts r.opening (ends r) is_committed log (kept-ends (is_play types) r lawful) (λ v e. ap is_good (is_committed-true v e)) refl
      (λ u c. (committed-closed r lawful.above u c).0) all;
  serial = serial-committed (is_play types) r.opening (ends r) (kept-ends (is_play types) r lawful) (valid-ends (is_play types) r lawful.effects);
}
added-of types r log lawful (inr more) = record {
  us = filter (λ u. is_good ((ends r).manager.verdict u)) (ends r).manager.order;
  are = of-verdicts r.opening (ends r) is_good log (kept-ends (is_play types) r lawful) (λ v e. e) refl
      (λ u c. (committed-closed r lawful.above u c).0)
      (subst (λ (es : List Effect). AreRecordsOf es log) (sym (split-order (ends r) (loadless-ends r lawful.above) (split-ends r lawful.above))) more.records);
  serial = serial-good (is_play types) r.opening (ends r) (kept-ends (is_play types) r lawful) (valid-ends (is_play types) r lawful.effects);
}

-- ---- a record and its unit

-- each record is that of one of the units
record_of_one : (w : CoreState) (us : List UnitNo) (log : List Commit) → AreRecordsOf (map (effect_of w) us) log → (c : Commit) → Member c log → (u : UnitNo) × Member u us × IsRecordOf (effect_of w u) c
record_of_one w [] [] are c m = absurd m
record_of_one w [] (l ∷ log) are c m = absurd are
record_of_one w (u ∷ us) [] are c m = absurd are
record_of_one w (u ∷ us) (l ∷ log) are c (inl e) = (u, inl refl, subst (IsRecordOf (effect_of w u)) (sym e) are.0)
record_of_one w (u ∷ us) (l ∷ log) are c (inr m) = (let t = record_of_one w us log are.1 c m in (t.0, inr t.1, t.2))

-- and of its own
pub record-unit : (w : CoreState) (us : List UnitNo) (log : List Commit) → AreRecordsOf (map (effect_of w) us) log → (c : Commit) → Member c log → Member c.logged.unit us × IsRecordOf (effect_of w c.logged.unit) c
record-unit w us log are c m =
    let t = record_of_one w us log are c m in
    subst (λ (u : UnitNo). Member u us × IsRecordOf (effect_of w u) c) (sym t.2.unit) (t.1, t.2)

-- each unit has one
pub unit-record : (w : CoreState) (us : List UnitNo) (log : List Commit) → AreRecordsOf (map (effect_of w) us) log → (u : UnitNo) → Member u us → (c : Commit) × Member c log × IsRecordOf (effect_of w u) c
unit-record w [] log are u m = absurd m
unit-record w (v ∷ us) [] are u m = absurd are
unit-record w (v ∷ us) (l ∷ log) are u (inl e) = (l, inl refl, subst (λ (x : UnitNo). IsRecordOf (effect_of w x) l) (sym e) are.0)
unit-record w (v ∷ us) (l ∷ log) are u (inr m) = (let t = unit-record w us log are.1 u m in (t.0, inr t.1, t.2))

-- a later record's unit has a later place
later-place : (w : CoreState) (u : UnitNo) (us : List UnitNo) (l : Commit) (log : List Commit) → AreRecordsOf (map (effect_of w) (u ∷ us)) (l ∷ log) → AreAscending w.manager.place (u ∷ us) →
    (c : Commit) → Member c log → w.manager.place l.logged.unit < w.manager.place c.logged.unit
later-place w u us l log are s c m =
    let lt : w.manager.place u < w.manager.place c.logged.unit = s.0 c.logged.unit (record-unit w us log are.1 c m).0 in
    let e : w.manager.place l.logged.unit ≡ w.manager.place u = ap w.manager.place are.0.unit in
    omega (arith, lt, e)

-- no two records are of one unit
pub one-record : (w : CoreState) (us : List UnitNo) (log : List Commit) → AreRecordsOf (map (effect_of w) us) log → AreAscending w.manager.place us →
    (c d : Commit) → Member c log → Member d log → c.logged.unit ≡ d.logged.unit → c ≡ d
one-record w [] [] are s c d mc md e = absurd mc
one-record w [] (l ∷ log) are s c d mc md e = absurd are
one-record w (u ∷ us) [] are s c d mc md e = absurd are
one-record w (u ∷ us) (l ∷ log) are s c d (inl a) (inl b) e = a ∙ sym b
one-record w (u ∷ us) (l ∷ log) are s c d (inl a) (inr b) e =
    let lt = later-place w u us l log are s d b in
    let q : w.manager.place l.logged.unit ≡ w.manager.place d.logged.unit = ap (λ (x : Commit). w.manager.place x.logged.unit) (sym a) ∙ ap w.manager.place e in
    absurd (omega (arith, lt, q))
one-record w (u ∷ us) (l ∷ log) are s c d (inr a) (inl b) e =
    let lt = later-place w u us l log are s c a in
    let q : w.manager.place c.logged.unit ≡ w.manager.place l.logged.unit = ap w.manager.place e ∙ ap (λ (x : Commit). w.manager.place x.logged.unit) b in
    absurd (omega (arith, lt, q))
one-record w (u ∷ us) (l ∷ log) are s c d (inr a) (inr b) e = one-record w us log are.1 s.1 c d a b e

-- where a record stands, with another one before it
pub record StandsAfter (log : List Commit) (c d : Commit) : Type 0 where
  pub front : List Commit
  pub back : List Commit
  pub split : log ≡ front ++ (d ∷ back)
  pub before : Member c front

-- a member parts a list
parted : (log : List Commit) (d : Commit) → Member d log → (front : List Commit) × ((back : List Commit) × (log ≡ front ++ (d ∷ back)))
parted [] d m = absurd m
parted (l ∷ log) d (inl e) = ([], (log, ap (λ (x : Commit). x ∷ log) (sym e)))
parted (l ∷ log) d (inr m) = (let t = parted log d m in (l ∷ t.0, (t.1.0, ap (λ (xs : List Commit). l ∷ xs) t.1.1)))

-- the record of a unit that finished before stands before
pub stands-after : (w : CoreState) (us : List UnitNo) (log : List Commit) → AreRecordsOf (map (effect_of w) us) log → AreAscending w.manager.place us →
    (c d : Commit) → Member c log → Member d log → w.manager.place c.logged.unit < w.manager.place d.logged.unit → StandsAfter log c d
stands-after w [] [] are s c d mc md lt = absurd mc
stands-after w [] (l ∷ log) are s c d mc md lt = absurd are
stands-after w (u ∷ us) [] are s c d mc md lt = absurd are
stands-after w (u ∷ us) (l ∷ log) are s c d (inl a) (inl b) lt =
    let q : w.manager.place c.logged.unit ≡ w.manager.place d.logged.unit = ap (λ (x : Commit). w.manager.place x.logged.unit) (a ∙ sym b) in
    absurd (omega (arith, lt, q))
stands-after w (u ∷ us) (l ∷ log) are s c d (inl a) (inr b) lt =
    let t = parted log d b in
    record { front = l ∷ t.0; back = t.1.0; split = ap (λ (xs : List Commit). l ∷ xs) t.1.1; before = inl a }
stands-after w (u ∷ us) (l ∷ log) are s c d (inr a) (inl b) lt =
    let more = later-place w u us l log are s c a in
    let q : w.manager.place d.logged.unit ≡ w.manager.place l.logged.unit = ap (λ (x : Commit). w.manager.place x.logged.unit) b in
    absurd (omega (arith, lt, more, q))
stands-after w (u ∷ us) (l ∷ log) are s c d (inr a) (inr b) lt =
    let t = stands-after w us log are.1 s.1 c d a b lt in
    record { front = l ∷ t.front; back = t.back; split = ap (λ (xs : List Commit). l ∷ xs) t.split; before = inr t.before }

-- ---- what a unit read

-- the unit of a record read the states that the records before it left
pub reads-stand : (types : ProgramTree) (w : CoreState) (store states : States) (us : List UnitNo) (log front back : List Commit) (d : Commit) → ((g : GrainId) → store g ≡ states g) →
    model.IsSerialOrder (is_play types) store (map (effect_of w) us) → AreRecordsOf (map (effect_of w) us) log → log ≡ front ++ (d ∷ back) →
    (r : Read) → Member r (w.units.reads d.logged.unit) → r.state ≡ states_after states front r.grain
reads-stand types w store states [] [] front back d same serial are split r m = absurd (nothing front split)
  where
    nothing : (front : List Commit) → [] ≡ front ++ (d ∷ back) → ⊥
    nothing [] e = none_is d back (sym e)
    nothing (x ∷ front) e = none_is x (front ++ (d ∷ back)) (sym e)
reads-stand types w store states [] (l ∷ log) front back d same serial are split r m = absurd are
reads-stand types w store states (u ∷ us) [] front back d same serial are split r m = absurd are
reads-stand types w store states (u ∷ us) (l ∷ log) [] back d same serial are split r m =
    let here : l ≡ d = head_of l d log back split in
    let of : d.logged.unit ≡ u = ap (λ (x : Commit). x.logged.unit) (sym here) ∙ are.0.unit in
    serial.0 r (subst (λ (x : UnitNo). Member r (w.units.reads x)) of m) ∙ same r.grain
reads-stand types w store states (u ∷ us) (l ∷ log) (x ∷ front) back d same serial are split r m =
    let here : l ≡ x = head_of l x log (front ++ (d ∷ back)) split in
    let next : (g : GrainId) → model.after store (w.manager.writes u) g ≡ after_writes states l g =
    next-states types store states (effect_of w u) l (is_play-true types (effect_of w u) serial.1) are.0 same in
    subst (λ (y : Commit). r.state ≡ states_after (after_writes states y) front r.grain) here
    (reads-stand types w (model.after store (w.manager.writes u)) (after_writes states l) us log front back d next serial.2 are.1 (tail_of l x log (front ++ (d ∷ back)) split) r m)
