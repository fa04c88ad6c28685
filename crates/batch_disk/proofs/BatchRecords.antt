-- The records of a batch, and what the votes kept.
use Rattle.std.proofs.Common.{◌≡◌, inl, inr, ℕ, zero, suc, ◌≤◌, ◌<◌, Bool, true, if◌then◌else◌, List, [], ◌∷◌, ◌++◌, length, map, get_or, Some, refl, sym, ◌∙◌, ap, subst, arith, eqb-true}
use Rattle.std.specs.Prelude.{zip}
use Rattle.std.specs.List.{AllByRecursion}
use Rattle.std.proofs.lemmas.Bool.{cases_Bool, and_parts}
use Rattle.base_types.specs.declared.calls.GrainId.{GrainId}
use Rattle.base_types.specs.declared.calls.Origin.{Origin}
use Rattle.base_types.specs.declared.calls.Call.{Call}
use Rattle.base_types.specs.declared.calls.UnitNo.{UnitNo}
use Rattle.base_types.specs.declared.calls.Value.{Value}
use Rattle.base_types.specs.declared.shapes.Shape.{Shape}
use Rattle.base_types.specs.declared.stores.Place.{Place}
use Rattle.host_trait.specs.Files.{same_grain}
use Rattle.host_trait.proofs.Names.{same_grain-is}
use Rattle.cell_model.specs.Units.{same_unit, Member}
use Rattle.core_model.specs.declared.effects.Effect.{Effect}
use Rattle.field_codec.specs.declared.formats.Format.TheVariants.{Two}
use Rattle.field_codec.specs.Units.{may_be_unit, HasParent}
use Rattle.field_codec.specs.declared.units.Numbers.TheVariants.{Logged}
use Rattle.commit_log.specs.declared.records.Written.{Written}
use Rattle.commit_log.specs.declared.records.CommitRecord.{CommitRecord}
use Rattle.commit_log.specs.Bodies.{IsCallIn, IsShapeType}
use Rattle.commit_log.specs.Spelling.{RecordFits}
use Rattle.promise_spec.specs.Records.{Commit, AreRecordsOf}
use Rattle.batch_disk.specs.ImagesAtRest.{Voted}
use Rattle.batch_disk.specs.Records.{commits_by, is_version, place_among, HavePlaces, IsRecordFor, AreRecordsFor, IsPlaceOfOne, MayBeLogged, IsAsWritten}
use Rattle.batch_disk.proofs.Lists.{each_leads}
use Rattle.batch_disk.proofs.ImagePlaces.{AreVoted, IsVoted, IsNextBatch}

-- ---- one more

pub places_push : (voted : List Voted) (u : UnitNo) (xs : List (GrainId × List Value)) (ws : List Written) (x : GrainId × List Value) (w : Written) → HavePlaces voted u xs ws → w.grain ≡ x.0 → place_among u x.0 voted ≡ Some w.place
    → HavePlaces voted u (xs ++ x ∷ []) (ws ++ w ∷ [])
places_push voted u [] [] x w are grain place = ((grain, place), tt)
places_push voted u [] (v ∷ ws) x w are grain place = absurd are
places_push voted u (y ∷ xs) [] x w are grain place = absurd are
places_push voted u (y ∷ xs) (v ∷ ws) x w are grain place = (are.0, places_push voted u xs ws x w are.1 grain place)

pub records_push : (voted : List Voted) (es : List Effect) (rs : List CommitRecord) (e : Effect) (r : CommitRecord) → AreRecordsFor voted es rs → IsRecordFor voted e r → AreRecordsFor voted (es ++ e ∷ []) (rs ++ r ∷ [])
records_push voted [] [] e r are one = (one, tt)
records_push voted [] (s ∷ rs) e r are one = absurd are
records_push voted (d ∷ es) [] e r are one = absurd are
records_push voted (d ∷ es) (s ∷ rs) e r are one = (are.0, records_push voted es rs e r are.1 one)

-- ---- what is found was kept

pub unit_is : (a b : UnitNo) → same_unit a b ≡ true → a ≡ b
unit_is a b same = let number : a.0 ≡ b.0 = eqb-true a.0 b.0 same in λ i. record { 0 = number i }

-- a version that the votes kept, at this place
record IsFound (u : UnitNo) (g : GrainId) (p : Place) (vs : List Voted) : Type 0 where
  pub it : Voted
  pub member : Member it vs
  pub unit : it.unit ≡ u
  pub write : it.write ≡ record { grain = g; place = p }

found_among : (u : UnitNo) (g : GrainId) (vs : List Voted) (p : Place) → place_among u g vs ≡ Some p → IsFound u g p vs
found_among u g [] p is = absurd cc
found_among u g (v ∷ vs) p is = elim (cases_Bool (is_version u g v)) [
  | inl this ↦
      let parts = and_parts (same_unit v.unit u) (same_grain v.write.grain g) this in
      let grain : v.write.grain ≡ g = same_grain-is v.write.grain g parts.1 in
      let here : Some v.write.place ≡ Some p = sym (ap (λ (b : Bool). if b then Some v.write.place else place_among u g vs) this) ∙ is in
      let place : v.write.place ≡ p = cc in
      record { it = v; member = inl refl; unit = unit_is v.unit u parts.0; write = λ i. record { grain = grain i; place = place i } }
  | inr other ↦
      let f = found_among u g vs p (sym (ap (λ (b : Bool). if b then Some v.write.place else place_among u g vs) other) ∙ is) in
      record { it = f.it; member = inr f.member; unit = f.unit; write = f.write }
]

-- ---- the batch

abbrev states_of : Effect → List (List Value)
states_of e = map (λ x. x.1) e.writes

writes_are : (voted : List Voted) (u : UnitNo) (xs : List (GrainId × List Value)) (ws : List Written) → HavePlaces voted u xs ws → zip (map (λ w. w.grain) ws) (map (λ (x : GrainId × List Value). x.1) xs) ≡ xs
writes_are voted u [] [] are = refl
writes_are voted u [] (w ∷ ws) are = absurd are
writes_are voted u (x ∷ xs) [] are = absurd are
writes_are voted u (x ∷ xs) (w ∷ ws) are = let more = writes_are voted u xs ws are.1 in λ i. (are.0.0 i, x.1) ∷ more i

pub records_are : (voted : List Voted) (es : List Effect) (rs : List CommitRecord) → AreRecordsFor voted es rs → AreRecordsOf es (commits_by es rs)
records_are voted [] [] are = tt
records_are voted [] (r ∷ rs) are = absurd are
records_are voted (e ∷ es) [] are = absurd are
records_are voted (e ∷ es) (r ∷ rs) are =
    (record { unit = are.0.unit; origin = are.0.origin; call = are.0.call; answers = are.0.answers; result = are.0.result; writes = writes_are voted e.unit e.writes r.writes are.0.writes }, records_are voted es rs are.1)

pub logged_are : (voted : List Voted) (es : List Effect) (rs : List CommitRecord) → AreRecordsFor voted es rs → map (λ (c : Commit). c.logged) (commits_by es rs) ≡ rs
logged_are voted [] [] are = refl
logged_are voted [] (r ∷ rs) are = absurd are
logged_are voted (e ∷ es) [] are = absurd are
logged_are voted (e ∷ es) (r ∷ rs) are = ap (λ (l : List CommitRecord). r ∷ l) (logged_are voted es rs are.1)

all_voted : (voted : List Voted) (u : UnitNo) (xs : List (GrainId × List Value)) (ws : List Written) → HavePlaces voted u xs ws
    → AllByRecursion (λ x. (v : Voted) → Member v voted → v.unit ≡ u → v.write.grain ≡ x.0 → v.state ≡ x.1) xs → AreVoted voted u ws (map (λ (x : GrainId × List Value). x.1) xs)
all_voted voted u [] [] are true_of = tt
all_voted voted u [] (w ∷ ws) are true_of = absurd are
all_voted voted u (x ∷ xs) [] are true_of = absurd are
all_voted voted u (x ∷ xs) (w ∷ ws) are true_of =
    let f = found_among u x.0 voted w.place are.0.1 in
    let state : f.it.state ≡ x.1 = true_of.0 f.it f.member f.unit (ap (λ (v : Written). v.grain) f.write) in
    let same : f.it ≡ record { unit = u; write = w; state = x.1 } = λ i. record { unit = f.unit i; write = (f.write ∙ (λ j. record { grain = sym are.0.0 j; place = w.place })) i; state = state i } in
    (subst (λ (v : Voted). Member v voted) same f.member, all_voted voted u xs ws are.1 true_of.1)

types_are : (voted : List Voted) (shape : Shape) (u : UnitNo) (xs : List (GrainId × List Value)) (ws : List Written) → HavePlaces voted u xs ws → AllByRecursion (λ x. IsShapeType shape x.0.kind) xs → AllByRecursion (λ w. IsShapeType shape w.grain.kind) ws
types_are voted shape u [] [] are typed = tt
types_are voted shape u [] (w ∷ ws) are typed = absurd are
types_are voted shape u (x ∷ xs) [] are typed = absurd are
types_are voted shape u (x ∷ xs) (w ∷ ws) are typed = (subst (λ (g : GrainId). IsShapeType shape g.kind) (sym are.0.0) typed.0, types_are voted shape u xs ws are.1 typed.1)

each_voted : (shape : Shape) (voted : List Voted) (es : List Effect) (rs : List CommitRecord) → AreRecordsFor voted es rs → AllByRecursion (RecordFits Two) rs → AllByRecursion (MayBeLogged shape) es → AllByRecursion (IsAsWritten voted) es
    → AllByRecursion (IsVoted shape voted) (commits_by es rs)
each_voted shape voted [] [] are fits typed true_of = tt
each_voted shape voted [] (r ∷ rs) are fits typed true_of = absurd are
each_voted shape voted (e ∷ es) [] are fits typed true_of = absurd are
each_voted shape voted (e ∷ es) (r ∷ rs) are fits typed true_of =
    let one = are.0 in (
      record {
        fits = record {
          fits = fits.0;
          units = record { unit = subst (λ (u : UnitNo). may_be_unit Logged u.0 ≡ true) (sym one.unit) typed.0.unit; parent = subst (λ (o : Origin). HasParent Logged o) (sym one.origin) typed.0.parent };
          call = subst (λ (c : Call). IsCallIn shape c) (sym one.call) typed.0.call;
          writes = types_are voted shape e.unit e.writes r.writes one.writes typed.0.writes;
        };
        whole = subst (λ (u : UnitNo). AreVoted voted u r.writes (states_of e)) (sym one.unit) (all_voted voted e.unit e.writes r.writes one.writes true_of.0);
      },
      each_voted shape voted es rs are.1 fits.1 typed.1 true_of.1,
    )

commits-length : (es : List Effect) (rs : List CommitRecord) → length (commits_by es rs) ≤ length rs
commits-length [] rs = omega arith
commits-length (e ∷ es) [] = omega arith
commits-length (e ∷ es) (r ∷ rs) = let more = commits-length es rs in omega (arith, more)

-- what is voted in a part of a list is voted in all of it
more_voted : (some all : List Voted) → ((v : Voted) → Member v some → Member v all) → (u : UnitNo) (ws : List Written) (ss : List (List Value)) → AreVoted some u ws ss → AreVoted all u ws ss
more_voted some all within u [] [] are = tt
more_voted some all within u [] (s ∷ ss) are = absurd are
more_voted some all within u (w ∷ ws) [] are = absurd are
more_voted some all within u (w ∷ ws) (s ∷ ss) are = (within (record { unit = u; write = w; state = s }) are.0, more_voted some all within u ws ss are.1)

-- the records of a batch's units to commit are a batch that can be sealed
pub next_batch : (shape : Shape) (voted all : List Voted) (es : List Effect) (rs : List CommitRecord) → ((v : Voted) → Member v voted → Member v all) → AreRecordsFor voted es rs → AllByRecursion (RecordFits Two) rs → length rs ≤ 64
    → AllByRecursion (MayBeLogged shape) es → AllByRecursion (IsAsWritten voted) es → IsNextBatch shape all (commits_by es rs)
next_batch shape voted all es rs within are fits few typed true_of = record {
  size = (let most = commits-length es rs in omega (arith, most, few));
  each = each_leads (IsVoted shape voted) (IsVoted shape all) (λ c one. record { fits = one.fits; whole = more_voted voted all within c.logged.unit c.logged.writes c.states one.whole }) (commits_by es rs) (each_voted shape voted es rs are fits typed true_of);
}

-- ---- all that they name is kept

unit_kept : (voted all : List Voted) → ((v : Voted) → Member v voted → Member v all) → (u : UnitNo) (xs : List (GrainId × List Value)) (ws : List Written) → HavePlaces voted u xs ws → AllByRecursion (IsPlaceOfOne all) ws
unit_kept voted all within u [] [] are = tt
unit_kept voted all within u [] (w ∷ ws) are = absurd are
unit_kept voted all within u (x ∷ xs) [] are = absurd are
unit_kept voted all within u (x ∷ xs) (w ∷ ws) are =
    let f = found_among u x.0 voted w.place are.0.1 in
    let write : f.it.write ≡ w = f.write ∙ (λ i. record { grain = sym are.0.0 i; place = w.place }) in
    (record { version = f.it; member = within f.it f.member; place = write }, unit_kept voted all within u xs ws are.1)

pub all_kept : (voted all : List Voted) → ((v : Voted) → Member v voted → Member v all) → (es : List Effect) (rs : List CommitRecord) → AreRecordsFor voted es rs → AllByRecursion (λ r. AllByRecursion (IsPlaceOfOne all) r.writes) rs
all_kept voted all within [] [] are = tt
all_kept voted all within [] (r ∷ rs) are = absurd are
all_kept voted all within (e ∷ es) [] are = absurd are
all_kept voted all within (e ∷ es) (r ∷ rs) are = (unit_kept voted all within e.unit e.writes r.writes are.0.writes, all_kept voted all within es rs are.1)

-- ---- what has no record

-- each write of a unit has its place
pub place_there : (voted : List Voted) (u : UnitNo) (xs : List (GrainId × List Value)) (ws : List Written) (i : ℕ) (x : GrainId × List Value) → HavePlaces voted u xs ws → i < length xs → x ≡ get_or xs i x
    → (p : Place) × (place_among u x.0 voted ≡ Some p)
place_there voted u [] ws i x are low is = absurd (omega (arith, low))
place_there voted u (y ∷ xs) [] i x are low is = absurd are
place_there voted u (y ∷ xs) (w ∷ ws) zero x are low is = (w.place, ap (λ (z : GrainId × List Value). place_among u z.0 voted) is ∙ are.0.1)
place_there voted u (y ∷ xs) (w ∷ ws) (suc i) x are low is = place_there voted u xs ws i x are.1 (omega (arith, low)) is

-- each unit has its record
pub record_there : (voted : List Voted) (es : List Effect) (rs : List CommitRecord) (i : ℕ) (e : Effect) → AreRecordsFor voted es rs → i < length es → e ≡ get_or es i e → (r : CommitRecord) × IsRecordFor voted e r
record_there voted [] rs i e are low is = absurd (omega (arith, low))
record_there voted (d ∷ es) [] i e are low is = absurd are
record_there voted (d ∷ es) (r ∷ rs) zero e are low is = (r, subst (λ (x : Effect). IsRecordFor voted x r) (sym is) are.0)
record_there voted (d ∷ es) (r ∷ rs) (suc i) e are low is = record_there voted es rs i e are.1 (omega (arith, low)) is

-- ---- there is one list of records

some_place : (p q : Place) → Some p ≡ Some q → p ≡ q
some_place p q same = cc

one_writes : (voted : List Voted) (u : UnitNo) (xs : List (GrainId × List Value)) (vs ws : List Written) → HavePlaces voted u xs vs → HavePlaces voted u xs ws → vs ≡ ws
one_writes voted u [] [] [] are too = refl
one_writes voted u [] [] (w ∷ ws) are too = absurd too
one_writes voted u [] (v ∷ vs) ws are too = absurd are
one_writes voted u (x ∷ xs) [] ws are too = absurd are
one_writes voted u (x ∷ xs) (v ∷ vs) [] are too = absurd too
one_writes voted u (x ∷ xs) (v ∷ vs) (w ∷ ws) are too =
    let grain : v.grain ≡ w.grain = are.0.0 ∙ sym too.0.0 in
    let place : v.place ≡ w.place = some_place v.place w.place (sym are.0.1 ∙ too.0.1) in
    let more = one_writes voted u xs vs ws are.1 too.1 in
    λ i. record { grain = grain i; place = place i } ∷ more i

one_record : (voted : List Voted) (e : Effect) (q r : CommitRecord) → IsRecordFor voted e q → IsRecordFor voted e r → q ≡ r
one_record voted e q r is too =
    let unit : q.unit ≡ r.unit = is.unit ∙ sym too.unit in
    let origin : q.origin ≡ r.origin = is.origin ∙ sym too.origin in
    let call : q.call ≡ r.call = is.call ∙ sym too.call in
    let answers : q.answers ≡ r.answers = is.answers ∙ sym too.answers in
    let result : q.result ≡ r.result = is.result ∙ sym too.result in
    let writes : q.writes ≡ r.writes = one_writes voted e.unit e.writes q.writes r.writes is.writes too.writes in
    λ i. record { unit = unit i; origin = origin i; call = call i; answers = answers i; result = result i; writes = writes i }

pub one_records : (voted : List Voted) (es : List Effect) (qs rs : List CommitRecord) → AreRecordsFor voted es qs → AreRecordsFor voted es rs → qs ≡ rs
one_records voted [] [] [] are too = refl
one_records voted [] [] (r ∷ rs) are too = absurd too
one_records voted [] (q ∷ qs) rs are too = absurd are
one_records voted (e ∷ es) [] rs are too = absurd are
one_records voted (e ∷ es) (q ∷ qs) [] are too = absurd too
one_records voted (e ∷ es) (q ∷ qs) (r ∷ rs) are too = let one = one_record voted e q r are.0 too.0 in let more = one_records voted es qs rs are.1 too.1 in λ i. one i ∷ more i
