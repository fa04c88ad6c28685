-- The versions that the votes kept are the last ones once their units' records count: as the states say that the units wrote.
use Rattle.std.proofs.Common.{◌≡◌, inl, inr, ℕ, ◌+◌, ◌<◌, ◌==◌, Bool, true, false, if◌then◌else◌, Option, Some, List, [], ◌∷◌, length, drop, get_or, map, refl, sym, ◌∙◌, ap, subst}
use Rattle.std.specs.Option.{option_map}
use Rattle.std.specs.List.{AllByRecursion}
use Rattle.std.proofs.lemmas.Bool.{cases_Bool, and_parts}
use Rattle.std.proofs.lemmas.List.{drop_more}
use Rattle.base_types.specs.declared.calls.GrainId.{GrainId}
use Rattle.base_types.specs.declared.calls.UnitNo.{UnitNo}
use Rattle.base_types.specs.declared.calls.Value.{Value}
use Rattle.base_types.specs.declared.places.Placed.{Placed}
use Rattle.base_types.specs.declared.stores.Place.{Place}
use Rattle.host_trait.specs.Files.{same_grain}
use Rattle.host_trait.proofs.Names.{same_grain-is}
use Rattle.cell_model.specs.Units.{same_unit, Member}
use Rattle.core_model.specs.declared.effects.Effect.{Effect}
use Rattle.commit_log.specs.declared.records.Written.{Written}
use Rattle.commit_log.specs.declared.records.CommitRecord.{CommitRecord}
use Rattle.batch_disk.specs.ImagesAtRest.{Voted}
use Rattle.batch_disk.specs.Writers.{kept_of, voted_of}
use Rattle.batch_disk.specs.KeptPlaces.{version_of}
use Rattle.batch_disk.specs.Records.{commits_by, is_version, place_among, HavePlaces, AreRecordsFor, IsAsWritten, IsOwnPlace}
use Rattle.batch_disk.specs.MovedPlaces.{placed_new, placed_by_states, placed_by_commits, version_among, moved_to, moved_by_write, moved_by_writes, moved_by_records}
use Rattle.batch_disk.specs.declared.writer.BatchWriter.{BatchWriter}
use Rattle.batch_disk.proofs.BatchRecords.{unit_is}

-- ---- what is found was kept

-- the place that is found is that of the version that is found
pub place_of : (u : UnitNo) (g : GrainId) (vs : List Voted) → place_among u g vs ≡ option_map (λ (v : Voted). v.write.place) (version_among u g vs)
place_of u g [] = refl
place_of u g (v ∷ vs) =
    let found : Bool → Option Voted = λ b. if b then Some v else version_among u g vs in
    let placed : Bool → Option Place = λ b. if b then Some v.write.place else place_among u g vs in
    elim (cases_Bool (is_version u g v)) [
      | inl this ↦ ap placed this ∙ sym (ap (λ (b : Bool). option_map (λ (x : Voted). x.write.place) (found b)) this)
      | inr other ↦ ap placed other ∙ place_of u g vs ∙ sym (ap (λ (b : Bool). option_map (λ (x : Voted). x.write.place) (found b)) other)
    ]

-- a version that is found at this place
pub record IsFoundVersion (u : UnitNo) (g : GrainId) (p : Place) (vs : List Voted) : Type 0 where
  pub it : Voted
  pub is : version_among u g vs ≡ Some it
  pub member : Member it vs
  pub unit : it.unit ≡ u
  pub grain : it.write.grain ≡ g
  pub place : it.write.place ≡ p

pub version_found : (u : UnitNo) (g : GrainId) (vs : List Voted) (p : Place) → place_among u g vs ≡ Some p → IsFoundVersion u g p vs
version_found u g [] p is = absurd cc
version_found u g (v ∷ vs) p is = elim (cases_Bool (is_version u g v)) [
  | inl this ↦
      let parts = and_parts (same_unit v.unit u) (same_grain v.write.grain g) this in
      let here : Some v.write.place ≡ Some p = sym (ap (λ (b : Bool). if b then Some v.write.place else place_among u g vs) this) ∙ is in
      let place : v.write.place ≡ p = cc in
      record {
        it = v;
        is = ap (λ (b : Bool). if b then Some v else version_among u g vs) this;
        member = inl refl;
        unit = unit_is v.unit u parts.0;
        grain = same_grain-is v.write.grain g parts.1;
        place = place;
      }
  | inr other ↦
      let f = version_found u g vs p (sym (ap (λ (b : Bool). if b then Some v.write.place else place_among u g vs) other) ∙ is) in
      record { it = f.it; is = ap (λ (b : Bool). if b then Some v else version_among u g vs) other ∙ f.is; member = inr f.member; unit = f.unit; grain = f.grain; place = f.place }
]

-- what is found among a batch's versions is found among all
version_if : (b : Bool) (kept : List Voted) (u : UnitNo) (g : GrainId) (v : Voted) → version_among u g (if b then kept else []) ≡ Some v → version_among u g kept ≡ Some v
version_if true kept u g v is = is
version_if false kept u g v is = absurd cc

pub version_within : (w : BatchWriter) (batch : ℕ) (u : UnitNo) (g : GrainId) (v : Voted) → version_among u g (voted_of batch w) ≡ Some v → version_among u g (kept_of w) ≡ Some v
version_within w batch u g v is = version_if (w.batch == batch) (kept_of w) u g v is

-- ---- places move as the states say

module _ (number : ℕ) (kept voted : List Voted) (within : (u : UnitNo) (g : GrainId) (v : Voted) → version_among u g voted ≡ Some v → version_among u g kept ≡ Some v) where
  one_moves : (u : UnitNo) (x : GrainId × List Value) (w : Written) (g : GrainId) (old : Option Placed) → w.grain ≡ x.0 → place_among u x.0 voted ≡ Some w.place
      → ((v : Voted) → Member v voted → v.unit ≡ u → v.write.grain ≡ x.0 → v.state ≡ x.1)
      → moved_by_write number kept u w.grain g old ≡ (if same_grain w.grain g then Some (placed_new number w.place (record { unit = u; state = x.1 })) else old)
  one_moves u x w g old grain place true_of =
      let f = version_found u x.0 voted w.place place in
      let there : version_among u w.grain kept ≡ Some f.it = ap (λ (h : GrainId). version_among u h kept) grain ∙ within u x.0 f.it f.is in
      let state : f.it.state ≡ x.1 = true_of f.it f.member f.unit f.grain in
      let placed : placed_new number f.it.write.place (version_of f.it) ≡ placed_new number w.place (record { unit = u; state = x.1 }) =
      λ i. placed_new number (f.place i) (record { unit = f.unit i; state = state i }) in
      ap (λ (o : Option Voted). if same_grain w.grain g then moved_to number o old else old) there ∙ ap (λ (p : Placed). if same_grain w.grain g then Some p else old) placed

  writes_move : (u : UnitNo) (xs : List (GrainId × List Value)) (ws : List Written) (g : GrainId) (old : Option Placed) → HavePlaces voted u xs ws
      → AllByRecursion (λ x. (v : Voted) → Member v voted → v.unit ≡ u → v.write.grain ≡ x.0 → v.state ≡ x.1) xs
      → moved_by_writes number kept u ws g old ≡ placed_by_states number u ws (map (λ (x : GrainId × List Value). x.1) xs) g old
  writes_move u [] [] g old are true_of = refl
  writes_move u [] (w ∷ ws) g old are true_of = absurd are
  writes_move u (x ∷ xs) [] g old are true_of = absurd are
  writes_move u (x ∷ xs) (w ∷ ws) g old are true_of =
      let next : Option Placed = if same_grain w.grain g then Some (placed_new number w.place (record { unit = u; state = x.1 })) else old in
      ap (λ (o : Option Placed). moved_by_writes number kept u ws g o) (one_moves u x w g old are.0.0 are.0.1 true_of.0) ∙ writes_move u xs ws g next are.1 true_of.1

  pub records_move : (es : List Effect) (rs : List CommitRecord) (g : GrainId) (old : Option Placed) → AreRecordsFor voted es rs → AllByRecursion (IsAsWritten voted) es
      → moved_by_records number kept rs g old ≡ placed_by_commits number (commits_by es rs) g old
  records_move [] [] g old are true_of = refl
  records_move [] (r ∷ rs) g old are true_of = absurd are
  records_move (e ∷ es) [] g old are true_of = absurd are
  records_move (e ∷ es) (r ∷ rs) g old are true_of =
      let states : List (List Value) = map (λ (x : GrainId × List Value). x.1) e.writes in
      let one : moved_by_writes number kept r.unit r.writes g old ≡ placed_by_states number r.unit r.writes states g old =
      subst (λ (u : UnitNo). moved_by_writes number kept u r.writes g old ≡ placed_by_states number u r.writes states g old) (sym are.0.unit) (writes_move e.unit e.writes r.writes g old are.0.writes true_of.0) in
      ap (λ (o : Option Placed). moved_by_records number kept rs g o) one ∙ records_move es rs g (placed_by_states number r.unit r.writes states g old) are.1 true_of.1

-- ---- each record names its own unit's places

place_if : (b : Bool) (kept : List Voted) (u : UnitNo) (g : GrainId) (p : Place) → place_among u g (if b then kept else []) ≡ Some p → place_among u g kept ≡ Some p
place_if true kept u g p is = is
place_if false kept u g p is = absurd cc

module _ (a : BatchWriter) (batch : ℕ) where
  unit_owns : (u : UnitNo) (xs : List (GrainId × List Value)) (ws : List Written) → HavePlaces (voted_of batch a) u xs ws → AllByRecursion (IsOwnPlace (kept_of a) u) ws
  unit_owns u [] [] are = tt
  unit_owns u [] (w ∷ ws) are = absurd are
  unit_owns u (x ∷ xs) [] are = absurd are
  unit_owns u (x ∷ xs) (w ∷ ws) are =
      (place_if (a.batch == batch) (kept_of a) u w.grain w.place (ap (λ (g : GrainId). place_among u g (voted_of batch a)) are.0.0 ∙ are.0.1), unit_owns u xs ws are.1)

  pub own_places : (es : List Effect) (rs : List CommitRecord) → AreRecordsFor (voted_of batch a) es rs → AllByRecursion (λ r. AllByRecursion (IsOwnPlace (kept_of a) r.unit) r.writes) rs
  own_places [] [] are = tt
  own_places [] (r ∷ rs) are = absurd are
  own_places (e ∷ es) [] are = absurd are
  own_places (e ∷ es) (r ∷ rs) are =
      (subst (λ (u : UnitNo). AllByRecursion (IsOwnPlace (kept_of a) u) r.writes) (sym are.0.unit) (unit_owns e.unit e.writes r.writes are.0.writes), own_places es rs are.1)

-- ---- one after the other

-- one write of those that are left
pub next_write : (number : ℕ) (kept : List Voted) (u : UnitNo) (ws : List Written) (i : ℕ) (d : Written) (g : GrainId) → i < length ws → (old new : Option Placed) → new ≡ moved_by_write number kept u (get_or ws i d).grain g old
    → (all : Option Placed) → moved_by_writes number kept u (drop i ws) g old ≡ all → moved_by_writes number kept u (drop (i + 1) ws) g new ≡ all
next_write number kept u ws i d g low old new one all so_far =
    ap (λ (o : Option Placed). moved_by_writes number kept u (drop (i + 1) ws) g o) one ∙ ap (λ (l : List Written). moved_by_writes number kept u l g old) (sym (drop_more ws i d low)) ∙ so_far

-- one record of those that are left
pub next_moved : (number : ℕ) (kept : List Voted) (rs : List CommitRecord) (i : ℕ) (r : CommitRecord) (g : GrainId) → i < length rs → r ≡ get_or rs i r → (old new : Option Placed) → new ≡ moved_by_writes number kept r.unit r.writes g old
    → (all : Option Placed) → moved_by_records number kept (drop i rs) g old ≡ all → moved_by_records number kept (drop (i + 1) rs) g new ≡ all
next_moved number kept rs i r g low is old new one all so_far =
    let rest : drop i rs ≡ r ∷ drop (i + 1) rs = drop_more rs i r low ∙ ap (λ (x : CommitRecord). x ∷ drop (i + 1) rs) (sym is) in
    ap (λ (o : Option Placed). moved_by_records number kept (drop (i + 1) rs) g o) one ∙ ap (λ (l : List CommitRecord). moved_by_records number kept l g old) (sym rest) ∙ so_far
