-- Settled entries are proper: their units are the run's and an outcome is no abort, whatever was loaded, and a dependency names a unit
-- that has begun, where each load is true.
use Rattle.std.proofs.Common.{◌≡◌, ℕ, ◌<◌, ◌≤◌, List, ◌∷◌, ◌++◌, Bool, true, false, inl, inr, refl, sym, ap, ◌∙◌, subst, arith}
use Rattle.std.proofs.lemmas.Bool.{cases_lt}
use Rattle.base_types.specs.declared.entries.Settled.TheVariants as settled
use Rattle.core_model.specs.CoreState.{UnitNo, GrainId, Member, Value, Entry, Settled, Batch, CoreState}
use Rattle.core_model.specs.declared.phases.Phase.TheVariants.{Unborn, Finished}
use Rattle.core_model.specs.declared.effects.Read.{Read}
use Rattle.core_model.specs.declared.effects.Effect.{Effect}
use Rattle.core_model.specs.Tests.{is_over}
use Rattle.core_model.specs.Causes.{HasCause, IsCaused, decided_state}
use Rattle.core_model.specs.ProperEntries.{NeverAborts, HasUnitOf, MaySettle, IsProperEntry}
use Rattle.core_model.specs.Events.{run, step}
use Rattle.core_model.specs.declared.events.CoreEvent.{CoreEvent}
use Rattle.core_model.specs.declared.events.CoreEvent.TheVariants.{Bad, Begin, Grant, Refuse, Finish, EndPlain, EndSnapshot, Release, Take, Vote, Decide, Sealed, NotSealed, Doubt, Learn, Emitted, Halt, Want, Load}
use Rattle.core_model.specs.SerialOrder.{AllPlay}
use Rattle.core_model.specs.LegalRuns.{Run, IsLegal, begins, ends}
use Rattle.core_laws.proofs.Invariant.{Inv}
use Rattle.core_laws.proofs.Ends.{kept-ends}
use Rattle.core_laws.proofs.Consistency.{depends-ends}
use Rattle.core_laws.proofs.FurtherLaws.{run-append, legal-front}
use Rattle.core_laws.proofs.EntryCauses.{caused-ends}
use Rattle.core_laws.proofs.LineEntries.{once-ends}
use Rattle.core_laws.proofs.LoadlessKept.{loadless-ends}
use Rattle.core_laws.proofs.Numbers.{numbered-ends, grown-run}
use Rattle.core_laws.proofs.SaidEntries.{Says, says-ends}
use Rattle.core_laws.proofs.UnitResults.{NoneAborts, none-ends}

-- ---- whatever was loaded

-- who is over is one of the run's
of-run : (r : Run) → 0 < r.base → (u : UnitNo) → is_over ((ends r).units.phase u) ≡ true → (r.base ≤ u.0) × (u.0 < (ends r).units.next)
of-run r above u over = (
  (numbered-ends r).1 u born,
  elim (cases_lt u.0 (ends r).units.next) [
    | inl lt ↦ lt
    | inr ge ↦ absurd (born ((loadless-ends r above).0.unborn u ge))
  ],
)
  where
    born : (ends r).units.phase u ≡ Unborn → ⊥
    born q = (let z : true ≡ false = sym over ∙ ap is_over q in cc)

-- the unit of an entry
pub has-unit-ends : (r : Run) → 0 < r.base → (x : Entry) → Member x (ends r).manager.settled → HasUnitOf r.base (ends r) x.unit x.what
has-unit-ends r above x m = go x.what (says-ends r above x m)
  where
    go : (what : Settled) → Says (ends r) x.unit what → HasUnitOf r.base (ends r) x.unit what
    go (settled.Done result) s = of-run r above x.unit (elim s.0 [ inl e ↦ ap is_over e | inr f ↦ ap is_over f.0 ])
    go (settled.Lock by g) s = of-run r above x.unit s.0
    go (settled.Vote g) s = of-run r above x.unit s.0
    go (settled.Dependency on) s = of-run r above x.unit s
    go settled.Disk s = of-run r above x.unit s
    go settled.InDoubt s = of-run r above x.unit s
    go (settled.Bad why) s = s

-- what an entry says, but for what a dependency names
may-settle : (w : CoreState) (u : UnitNo) → NoneAborts w → (what : Settled) → Says w u what → ((on : UnitNo) → what ≡ settled.Dependency on → on.0 < w.units.next) → MaySettle w u what
may-settle w u none (settled.Done result) s source = λ q. none u (elim s.0 [ inl e ↦ inr e | inr f ↦ inl f.0 ]) (s.1 ∙ q)
may-settle w u none (settled.Lock by g) s source = (s.1, s.2)
may-settle w u none (settled.Vote g) s source = s.1
may-settle w u none (settled.Dependency on) s source = source on refl
may-settle w u none settled.Disk s source = tt
may-settle w u none settled.InDoubt s source = tt
may-settle w u none (settled.Bad why) s source = tt

-- an entry that names no dependency says what it may
pub words-ends : (plays : Effect → Bool) (r : Run) → 0 < r.base → AllPlay plays r.events → NeverAborts plays → (x : Entry) → Member x (ends r).manager.settled → ((on : UnitNo) → x.what ≡ settled.Dependency on → ⊥) → MaySettle (ends r) x.unit x.what
words-ends plays r above p never x m other = may-settle (ends r) x.unit (none-ends plays never r p) x.what (says-ends r above x m) (λ on q. absurd (other on q))

-- ---- where each load is true

-- the run as far as its first events
abbrev pub front : Run → List CoreEvent → Run
front r before = record r { events = before }

pub front-legal : (plays : Effect → Bool) (r : Run) → IsLegal plays r → (before later : List CoreEvent) → r.events ≡ before ++ later → IsLegal plays (front r before)
front-legal plays r l before later q = legal-front plays (front r before) later (subst (λ (es : List CoreEvent). IsLegal plays (record r { events = es })) q l)

-- the state after the first events, and what of it the last state has
pub grown-ends : (r : Run) (before later : List CoreEvent) → r.events ≡ before ++ later → ((ends (front r before)).units.next ≤ (ends r).units.next) × ((ends r).units.kinds ≡ (ends (front r before)).units.kinds)
grown-ends r before later q =
    let t = grown-run (run (begins r) before) later in
    let is : run (begins r) r.events ≡ run (run (begins r) before) later = ap (run (begins r)) q ∙ run-append (begins r) before later in
    (subst (λ (v : CoreState). (run (begins r) before).units.next ≤ v.units.next) (sym is) t.0, ap (λ (v : CoreState). v.units.kinds) is ∙ t.1)

-- where a batch is decided, units' dependencies are those of before
decided-deps : (w : CoreState) (e : CoreEvent) (b : Batch) → (decided_state w e b).units.deps ≡ w.units.deps
decided-deps w (Bad line why) b = refl
decided-deps w (Begin origin call plain) b = refl
decided-deps w (Grant u g mode) b = refl
decided-deps w (Refuse u g mode) b = refl
decided-deps w (Finish u effect) b = refl
decided-deps w (EndPlain u effect) b = refl
decided-deps w (EndSnapshot u at result) b = refl
decided-deps w (Release u g) b = refl
decided-deps w Take b = refl
decided-deps w (Vote n g kept) b = refl
decided-deps w (Decide n) b = refl
decided-deps w (Sealed n) b = refl
decided-deps w (NotSealed n) b = refl
decided-deps w (Doubt n) b = refl
decided-deps w (Learn u g) b = refl
decided-deps w Emitted b = refl
decided-deps w Halt b = refl
decided-deps w (Want u g) b = refl
decided-deps w (Load g u state) b = refl

-- who has finished has a number below the next
finished-below : (opening : GrainId → List Value) (n : ℕ) (w : CoreState) → Inv opening n w → (u : UnitNo) → w.units.phase u ≡ Finished → u.0 < w.units.next
finished-below opening n w i u f = elim (cases_lt u.0 w.units.next) [
  | inl lt ↦ lt
  | inr ge ↦ (let z : Unborn ≡ Finished = sym (i.unborn u ge) ∙ f in cc)
]

-- so has the source of a read
source-below : (opening : GrainId → List Value) (n : ℕ) (w : CoreState) → Inv opening n w → (u : UnitNo) (r : Read) → Member r (w.units.reads u) → r.source.0 < w.units.next
source-below opening n w i u r m = elim (i.source u r m) [
  | inl o ↦ subst (λ (z : UnitNo). z.0 < w.units.next) (sym o.0) i.fresh
  | inr o ↦ finished-below opening n w i r.source o.0
]

-- what a dependency names has begun
source-ends : (plays : Effect → Bool) (r : Run) → IsLegal plays r → (x : Entry) → Member x (ends r).manager.settled → (on : UnitNo) → x.what ≡ settled.Dependency on → on.0 < (ends r).units.next
source-ends plays r l x m on is = by_cause (subst (λ (what : Settled). HasCause w c.event (step w c.event) x.unit what) is c.cause)
  where
    c : IsCaused r x
    c = caused-ends plays r l x m

    w : CoreState
    w = ends (front r c.before)

    before-legal : IsLegal plays (front r c.before)
    before-legal = front-legal plays r l c.before (c.event ∷ c.later) c.split

    of-read : (u : UnitNo) (s : Read) → Member s (w.units.reads u) → s.source ≡ on → on.0 < (ends r).units.next
    of-read u s there q =
        let t = source-below r.opening _ w (kept-ends plays (front r c.before) before-legal).0 u s there in
        let low = subst (λ (y : UnitNo). y.0 < w.units.next) q t in
        omega (arith, (grown-ends r c.before (c.event ∷ c.later) c.split).0, low)

    by_cause : HasCause w c.event (step w c.event) x.unit (settled.Dependency on) → on.0 < (ends r).units.next
    by_cause (inl h) = of-read x.unit h.gone.0 h.gone.1 h.gone.2
    by_cause (inr h) =
        let there = subst (λ (ds : UnitNo → List UnitNo). Member on (ds x.unit)) (decided-deps w c.event h.0) h.4.source in
        let t = (depends-ends plays (front r c.before) before-legal).1 x.unit on there in
        of-read x.unit t.0 t.1 t.2

pub proper-ends : (plays : Effect → Bool) (r : Run) → IsLegal plays r → NeverAborts plays → (x : Entry) → Member x (ends r).manager.settled → IsProperEntry r.base (ends r) x
proper-ends plays r l never x m =
    let e = (once-ends r l.above).entry x m in
    record {
      line = (e.0, e.1);
      unit = has-unit-ends r l.above x m;
      what = may-settle (ends r) x.unit (none-ends plays never r l.effects) x.what (says-ends r l.above x m) (λ on q. source-ends plays r l x m on q);
    }
