-- The ends of files, place by place, as they are raised and kept.
use Rattle.std.proofs.Common.{◌≡◌, ◌≢◌, inl, inr, ℕ, ◌<◌, ◌≤◌, ◌^◌, max, Bool, true, false, if◌then◌else◌, Option, Some, None, List, length, get_or, map, refl, sym, ◌∙◌, ap, subst, arith}
use Rattle.std.specs.Prelude.{unwrap_or}
use Rattle.std.specs.List.{AllByRecursion}
use Rattle.std.proofs.lemmas.Bool.{cases_Bool, false≢true}
use Rattle.base_types.specs.Places.{placed_in, has_seat, KeepsSeats}
use Rattle.base_types.specs.Stores.{end_in, later_end, RaisesEnd, KeepsRoom}
use Rattle.base_types.specs.declared.calls.GrainId.{GrainId}
use Rattle.base_types.specs.declared.calls.UnitNo.{UnitNo}
use Rattle.base_types.specs.declared.places.Placed.{Placed}
use Rattle.base_types.specs.declared.stores.Ends.{Ends}
use Rattle.host_trait.specs.Files.{same_grain}
use Rattle.host_trait.proofs.Names.{same_grain-is, same_grain-refl}
use Rattle.commit_log.specs.declared.records.Written.{Written}
use Rattle.commit_log.specs.declared.records.CommitRecord.{CommitRecord}
use Rattle.program_file.specs.Succession.{ArePrograms}
use Rattle.batch_disk.specs.ImagesAtRest.{write_end, raised_end, Voted}
use Rattle.batch_disk.specs.KeptPlaces.{version_of}
use Rattle.batch_disk.specs.MovedPlaces.{placed_new, version_among, moved_to, moved_by_write}
use Rattle.program_file.specs.ProgramsInTurn.{programs_in, HasShapes}
use Rattle.program_file.specs.declared.programs_in_turn.ProgramsInTurn.{ProgramsInTurn}
use Rattle.batch_disk.specs.Writers.{file_end, voted_by, kept_of, newest_number, CanCount, HasSeat, IsInBounds}
use Rattle.batch_disk.specs.declared.writer.BatchWriter.{BatchWriter}
use Rattle.batch_disk.proofs.Lists.{each_leads, each_at}
use Rattle.batch_disk.proofs.Ends.{raised_one-small}
use Rattle.program_file.proofs.ProgramNumbers.{newest_low}
use Rattle.batch_disk.proofs.SealSteps.{WriteCanCount}

later_is : (o : Option ℕ) (end : ℕ) → later_end o end ≡ max (unwrap_or o 0) end
later_is None end = omega arith
later_is (Some kept) end = refl

-- the end that is raised, and all others
pub raise_is : (old new : Ends) (w : Written) → RaisesEnd old new w.grain (write_end w) → (g : GrainId) → unwrap_or (end_in new g) 0 ≡ raised_end (λ h. unwrap_or (end_in old h) 0) w g
raise_is old new w raises g = elim (cases_Bool (same_grain w.grain g)) [
  | inl this ↦
      let grain : w.grain ≡ g = same_grain-is w.grain g this in
      let put : unwrap_or (end_in new w.grain) 0 ≡ max (unwrap_or (end_in old w.grain) 0) (write_end w) = ap (λ (o : Option ℕ). unwrap_or o 0) raises.put ∙ later_is (end_in old w.grain) (write_end w) in
      subst (λ (h : GrainId). unwrap_or (end_in new h) 0 ≡ max (unwrap_or (end_in old h) 0) (write_end w)) grain put
      ∙ sym (ap (λ (b : Bool). if b then max (unwrap_or (end_in old g) 0) (write_end w) else unwrap_or (end_in old g) 0) this)
  | inr other ↦
      let apart : g ≢ w.grain = λ same. false≢true (sym other ∙ subst (λ (h : GrainId). same_grain w.grain h ≡ true) (sym same) (same_grain-refl w.grain)) in
      ap (λ (o : Option ℕ). unwrap_or o 0) (raises.others g apart)
      ∙ sym (ap (λ (b : Bool). if b then max (unwrap_or (end_in old g) 0) (write_end w) else unwrap_or (end_in old g) 0) other)
]

-- what is kept can count still
pub kept_can_count : (a b : BatchWriter) → b.kept ≡ a.kept → KeepsRoom a.ends b.ends → AllByRecursion (CanCount a) (kept_of a) → AllByRecursion (CanCount b) (kept_of b)
kept_can_count a b same room can =
    subst (AllByRecursion (CanCount b)) (sym (ap (λ k. map voted_by k.items) same)) (each_leads (CanCount a) (CanCount b) (λ v one. (room v.write.grain one.0, one.1)) (kept_of a) can)

pub kept_has_seats : (a b : BatchWriter) → b.kept ≡ a.kept → KeepsSeats a.places b.places → AllByRecursion (HasSeat a) (kept_of a) → AllByRecursion (HasSeat b) (kept_of b)
kept_has_seats a b same seats can =
    subst (AllByRecursion (HasSeat b)) (sym (ap (λ k. map voted_by k.items) same)) (each_leads (HasSeat a) (HasSeat b) (λ v one. seats v.write.grain one) (kept_of a) can)

-- ---- the numbers of programs

number_if : (b : Bool) (count : ℕ) (new old : Option Placed) → ((p : Placed) → new ≡ Some p → p.program < count) → ((p : Placed) → old ≡ Some p → p.program < count)
    → (p : Placed) → (if b then new else old) ≡ Some p → p.program < count
number_if true count new old low kept p is = low p is
number_if false count new old low kept p is = kept p is

number_to : (count n : ℕ) (v : Option Voted) (old : Option Placed) → n < count → ((p : Placed) → old ≡ Some p → p.program < count) → (p : Placed) → moved_to n v old ≡ Some p → p.program < count
number_to count n None old low kept p is = kept p is
number_to count n (Some v) old low kept p is = (let same : placed_new n v.write.place (version_of v) ≡ p = cc in subst (λ (q : Placed). q.program < count) same low)

-- a place that moves has the number of the program in force
moved_number : (count n : ℕ) (vs : List Voted) (u : UnitNo) (grain g : GrainId) (old : Option Placed) → n < count → ((p : Placed) → old ≡ Some p → p.program < count)
    → (p : Placed) → moved_by_write n vs u grain g old ≡ Some p → p.program < count
moved_number count n vs u grain g old low kept p is =
    number_if (same_grain grain g) count (moved_to n (version_among u grain vs) old) old (number_to count n (version_among u grain vs) old low kept) kept p is

-- ---- in bounds

pub raised_bounds : (a b : BatchWriter) (u : UnitNo) (w : Written) → b.slot ≡ a.slot → b.gate_at ≡ a.gate_at → b.session ≡ a.session → b.programs ≡ a.programs
    → ((g : GrainId) → placed_in b.places g ≡ moved_by_write (newest_number a) (kept_of a) u w.grain g (placed_in a.places g)) → b.kept ≡ a.kept → KeepsRoom a.ends b.ends → KeepsSeats a.places b.places → ((g : GrainId) → file_end b g ≡ raised_end (file_end a) w g) → write_end w < 2 ^ 63 → IsInBounds a → IsInBounds b
raised_bounds a b u w slot gate session programs places kept room seats ends fits bounds = record {
  slot = subst (λ (n : ℕ). n ≤ 1) (sym slot) bounds.slot;
  gate = subst (λ (n : ℕ). n < 2 ^ 63) (sym gate) bounds.gate;
  session = subst (λ (n : ℕ). n < 2 ^ 63) (sym session) bounds.session;
  ends = λ g. subst (λ (n : ℕ). n < 2 ^ 63) (sym (ends g)) (raised_one-small (file_end a) w fits bounds.ends g);
  kept = kept_can_count a b kept room bounds.kept;
  seats = kept_has_seats a b kept seats bounds.seats;
  programs = subst (λ (k : ProgramsInTurn). ArePrograms (programs_in k)) (sym programs) bounds.programs;
  shapes = subst HasShapes (sym programs) bounds.shapes;
  numbered = λ g p is. subst (λ (k : ProgramsInTurn). p.program < length k.checked) (sym programs)
      (moved_number (length a.programs.checked) (newest_number a) (kept_of a) u w.grain g (placed_in a.places g) (newest_low a.programs bounds.programs) (bounds.numbered g) p (sym (places g) ∙ is));
}

-- what can count can count still
pub writes_can_still : (a b : BatchWriter) (ws : List Written) → KeepsRoom a.ends b.ends → AllByRecursion (WriteCanCount a) ws → AllByRecursion (WriteCanCount b) ws
writes_can_still a b ws room can = each_leads (WriteCanCount a) (WriteCanCount b) (λ w one. (room w.grain one.0, one.1)) ws can

-- those of one record
pub record_can : (a : BatchWriter) (rs : List CommitRecord) (i : ℕ) (r : CommitRecord) → AllByRecursion (λ r. AllByRecursion (WriteCanCount a) r.writes) rs → i < length rs → r ≡ get_or rs i r → AllByRecursion (WriteCanCount a) r.writes
record_can a rs i r can low is = subst (λ (q : CommitRecord). AllByRecursion (WriteCanCount a) q.writes) (sym is) (each_at (λ (q : CommitRecord). AllByRecursion (WriteCanCount a) q.writes) rs i r can low)

-- what has a seat has it still
pub writes_seated_still : (a b : BatchWriter) (ws : List Written) → KeepsSeats a.places b.places → AllByRecursion (λ w. has_seat a.places w.grain ≡ true) ws → AllByRecursion (λ w. has_seat b.places w.grain ≡ true) ws
writes_seated_still a b ws seats can = each_leads (λ (w : Written). has_seat a.places w.grain ≡ true) (λ (w : Written). has_seat b.places w.grain ≡ true) (λ w one. seats w.grain one) ws can

pub record_seated : (a : BatchWriter) (rs : List CommitRecord) (i : ℕ) (r : CommitRecord) → AllByRecursion (λ r. AllByRecursion (λ w. has_seat a.places w.grain ≡ true) r.writes) rs → i < length rs → r ≡ get_or rs i r
    → AllByRecursion (λ w. has_seat a.places w.grain ≡ true) r.writes
record_seated a rs i r can low is =
    subst (λ (q : CommitRecord). AllByRecursion (λ w. has_seat a.places w.grain ≡ true) q.writes) (sym is) (each_at (λ (q : CommitRecord). AllByRecursion (λ w. has_seat a.places w.grain ≡ true) q.writes) rs i r can low)
