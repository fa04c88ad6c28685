-- What the record of the turns is of a whole run.
use Rattle.std.proofs.Common.{◌≡◌, ℕ, zero, suc, ◌+◌, ◌≤◌, List, [], ◌∷◌, ◌++◌, length, Bool, false, ◌⊎◌, inl, inr, refl, sym, ap, ◌∙◌, subst, arith, append-nil, Some}
use Rattle.std.specs.Prelude.{Result, Ok, Err, take, slice_get}
use Rattle.std.specs.List.{flat_map}
use mathlib.Core.List.{append_assoc}
use Rattle.base_types.specs.declared.entries.Entry.{Entry}
use Rattle.host_trait.specs.declared.channels.FileId.{FileId}
use Rattle.host_trait.specs.declared.channels.FileId.TheVariants.{Manager}
use Rattle.host_trait.specs.declared.channels.Channel.{Channel}
use Rattle.core_model.specs.CoreState.{CoreState}
use Rattle.core_model.specs.declared.effects.Effect.{Effect}
use Rattle.core_model.specs.SerialOrder.{AllLoadsTrue, committed, chosen}
use Rattle.core_model.specs.LegalRuns.{Run, begins, ends}
use Rattle.promise_spec.specs.Entries.{standing_of}
use Rattle.promise_spec.specs.Records.{Commit, AreRecordsOf}
use Rattle.promise_spec.specs.Logs.{IsPrefix}
use Rattle.promise_spec.specs.Programs.{shape_in}
use Rattle.promise_spec.specs.Journals.{Settlement, commits_of, entries_of}
use Rattle.promise_spec.specs.UnitRule.{Basis, KeepsUnitRule}
use Rattle.promise_spec.specs.TurnRule.{KeepsTurnRule}
use Rattle.promise_spec.specs.Causes.{AreFaults, RunHasDoubt}
use Rattle.promise_spec.specs.Endings.{Ending, Done, DiskFault, Damaged, IsAllWritten, IsDiskFault, WriteFault as Unwritten, Memory as NoMemory}
use Rattle.promise_spec.specs.Courses.{Observed, Course, basis, core_run, core_end}
use Rattle.promise_spec.specs.Explanation.{AreAdded, AreSettled, FileMayEndRun, LeavesUnvoted, EndsWritten, IsCutShort}
use Rattle.promise_laws.specs.Obligations.{ExplainsEvents}
use Rattle.settle_loop.specs.declared.settler.Settler.{Settler}
use Rattle.run_books.specs.declared.faults.RunFault.{RunFault}
use Rattle.run_books.specs.declared.faults.RunFault.TheVariants.{InDoubt, WriteFault, LoadFault, LoadDamaged, Memory}
use Rattle.run_books.specs.Beginnings.{Outset, basis_of}
use Rattle.run_books.specs.Books.{Books, booked_journal, AreInDoubt, IsPutOut}
use Rattle.run_books.specs.Records.{KeepsRecord, HasCarriedAll, TurnsEndAs}
use Rattle.request_wire.specs.Reply.{reply_line}
use Rattle.core_laws.proofs.LineEntries.{once-ends}
use Rattle.run_books.specs.RunCourse.{EndsSo, IsCourseOf, turns_ending}
use Rattle.run_books.specs.Stages.{Stage, stage_by}

-- ---- the records

-- one more, behind all
flat-last : {A B : Type 0} (f : A → List B) (xs : List A) (x : A) → flat_map f (xs ++ (x ∷ [])) ≡ flat_map f xs ++ f x
flat-last f [] x = append-nil (f x)
flat-last {B = B} f (y ∷ xs) x = ap (λ (l : List B). f y ++ l) (flat-last f xs x) ∙ sym (append_assoc (f y) (flat_map f xs) (f x))

-- records of some units, and of others behind them
pub records-on : (es fs : List Effect) (ls ms : List Commit) → AreRecordsOf es ls → AreRecordsOf fs ms → AreRecordsOf (es ++ fs) (ls ++ ms)
records-on [] fs [] ms p q = q
records-on [] fs (l ∷ ls) ms p q = absurd p
records-on (e ∷ es) fs [] ms p q = absurd p
records-on (e ∷ es) fs (l ∷ ls) ms p q = (p.0, records-on es fs ls ms p.1 q)

-- the journal's records are those that a run adds
pub added-by : (w : CoreState) (front doubted : List Settlement) → AreRecordsOf (committed w) (commits_of front) → AreInDoubt w doubted → AreAdded w (commits_of (front ++ doubted))
added-by w front [] are d = inl (subst (λ (l : List Settlement). AreRecordsOf (committed w) (commits_of l)) (sym (append-nil front)) are)
added-by w front (batch ∷ []) are d = inr (record {
  begins = d.0;
  doubt = d.1;
  records = subst (AreRecordsOf (committed w ++ chosen w)) (sym (flat-last (λ (s : Settlement). s.commits) front batch))
      (records-on (committed w) (chosen w) (commits_of front) batch.commits are d.2);
})
added-by w front (batch ∷ (other ∷ more)) are d = absurd d

-- ---- how it ends

-- a file that is found failed is a disk fault
of-disk : (file : FileId) (ending : Ending) → ending ≡ DiskFault file → IsDiskFault ending
of-disk file ending q = subst IsDiskFault (sym q) tt

-- where all so far is carried a run may end in any way but by a file's fault
pub ends-carried : (o : Outset) (s : Stage) (ending : Ending) → HasCarriedAll o s → (IsDiskFault ending → ⊥) → EndsSo o s.run ending
ends-carried o s ending all none = record {
  doubted = λ file q. absurd (none (of-disk file ending q));
  ended = λ d. absurd (all.never d);
  written = λ which. all.run.quiet.written;
}

module _ {T : Type 0} (tells : Bool) (o : Outset) (b : Books) (s : Stage) where
  -- it ends by its turns
  by-turns : (result : Result T RunFault) → TurnsEndAs tells o b s result → EndsSo o s.run (turns_ending o.live result)
  by-turns (Ok done) e = ends-carried o s Done e.0 (λ none. none)
  by-turns (Err InDoubt) e = record {
    doubted = λ file q. inl (is_file (Manager o.live) file q, e.0.doubt);
    ended = λ d. tt;
    written = λ which. e.0.written;
  }
    where
      is_file : (f g : FileId) → DiskFault f ≡ DiskFault g → g ≡ f
      is_file f g t = cc
  by-turns (Err WriteFault) e = record {
    doubted = λ file q. absurd (cc q);
    ended = λ d. tt;
    written = λ which. absurd (neither which);
  }
    where
      neither : IsAllWritten Unwritten ⊎ (IsDiskFault Unwritten × RunHasDoubt s.run) → ⊥
      neither (inl none) = none
      neither (inr none) = none.0
  by-turns (Err (LoadFault file)) e = record {
    doubted = λ f q. subst (FileMayEndRun o.live s.run) (sym (same-file f q)) (inr (e.0.grain, e.0.file_is, e.0.unloaded, e.0.sure));
    ended = λ d. tt;
    written = λ which. absurd (neither which);
  }
    where
      same-file : (f : FileId) → DiskFault file ≡ DiskFault f → f ≡ file
      same-file f q = cc

      neither : IsAllWritten (DiskFault file) ⊎ (IsDiskFault (DiskFault file) × RunHasDoubt s.run) → ⊥
      neither (inl none) = none
      neither (inr some) = e.0.sure some.1
  by-turns (Err (LoadDamaged file place)) e = record {
    doubted = λ f q. absurd (cc q);
    ended = λ d. absurd (e.0.sure d);
    written = λ which. absurd (neither which);
  }
    where
      neither : IsAllWritten (Damaged file place) ⊎ (IsDiskFault (Damaged file place) × RunHasDoubt s.run) → ⊥
      neither (inl none) = none
      neither (inr none) = none.0
  by-turns (Err Memory) e = record {
    doubted = λ file q. absurd (cc q);
    ended = λ d. tt;
    written = λ which. absurd (neither which);
  }
    where
      neither : IsAllWritten NoMemory ⊎ (IsDiskFault NoMemory × RunHasDoubt s.run) → ⊥
      neither (inl none) = none
      neither (inr none) = none.0

  pub ends-by : (result : Result T RunFault) (ending : Ending) → TurnsEndAs tells o b s result → ending ≡ turns_ending o.live result → EndsSo o s.run ending
  ends-by result ending e q = subst (EndsSo o s.run) (sym q) (by-turns result e)

-- ---- a whole run

-- what its events explain, where each load was true
pub explains : (tells : Bool) (o : Outset) (b : Books) (r : Run) (settler : Settler) (seen : Observed) (c : Course)
    → KeepsRecord tells o b (stage_by r settler seen.faults_after seen.new) → AllLoadsTrue r.opening (begins r) r.events → EndsSo o r seen.ending
    → (seen.manner.threaded ≡ false → KeepsTurnRule o.program.types seen.windowed c.allowed o.width o.picks r)
    → IsCourseOf o b r seen c → LeavesUnvoted c.live o.program seen c → ExplainsEvents o.program seen c
explains tells o b r settler seen c k loads e turns is unvoted =
    let run : r ≡ core_run o.program c = sym is.run in
    let same : basis_of o ≡ basis o.program seen c = (λ i. record { types = o.program.types; lines = sym is.asked i; opening = standing_of (sym is.opening i) }) in
    record {
      records = subst (AreAdded (core_end o.program c)) (sym is.added)
          (subst (λ (x : Run). AreAdded (ends x) (commits_of (booked_journal b))) run (added-by (ends r) (b.said ++ b.unsaid) b.doubted k.books.booked.commits k.books.booked.doubted));
      units = subst (λ (s : Basis). KeepsUnitRule s (core_run o.program c)) same (subst (KeepsUnitRule (basis_of o)) run k.units);
      turns = λ one.
          subst (λ (w : ℕ). KeepsTurnRule o.program.types seen.windowed c.allowed w seen.manner.picks (core_run o.program c)) (sym is.width)
          (subst (λ (ps : List ℕ). KeepsTurnRule o.program.types seen.windowed c.allowed o.width ps (core_run o.program c)) (sym is.picks)
          (subst (KeepsTurnRule o.program.types seen.windowed c.allowed o.width o.picks) run (turns one)));
      faults = subst (λ (live : ℕ). AreFaults live (core_run o.program c) seen.faults_before seen.faults_after) (sym is.live)
          (subst (λ (f : Channel → ℕ). AreFaults o.live (core_run o.program c) f seen.faults_after) (sym is.before)
          (subst (λ (x : Run). AreFaults o.live x o.faults seen.faults_after) run k.books.faults));
      loads = subst (λ (x : Run). AllLoadsTrue x.opening (begins x) x.events) run loads;
      doubted = λ file t. subst (λ (live : ℕ). FileMayEndRun live (core_run o.program c) file) (sym is.live)
          (subst (λ (x : Run). FileMayEndRun o.live x file) run (e.doubted file t));
      ended = λ d. e.ended (subst RunHasDoubt is.run d);
      unvoted = unvoted;
    }

-- ---- what is settled

pub flat-both : {A B : Type 0} (f : A → List B) (xs ys : List A) → flat_map f (xs ++ ys) ≡ flat_map f xs ++ flat_map f ys
flat-both f [] ys = refl
flat-both {B = B} f (x ∷ xs) ys = ap (λ (l : List B). f x ++ l) (flat-both f xs ys) ∙ sym (append_assoc (f x) (flat_map f xs) (flat_map f ys))

-- a front as long as the list is all of it
pub whole-take : {A : Type 0} (xs : List A) (n : ℕ) → length xs ≤ n → take n xs ≡ xs
whole-take [] zero le = refl
whole-take [] (suc n) le = refl
whole-take (x ∷ xs) zero le = absurd (omega (arith, le))
whole-take {A} (x ∷ xs) (suc n) le = ap (λ (l : List A). x ∷ l) (whole-take xs n (omega (arith, le)))

-- a front is as long as it can be
long-take : {A : Type 0} (xs : List A) (n m : ℕ) → n ≤ length xs → n ≤ m → n ≤ length (take m xs)
long-take xs zero m le lm = omega arith
long-take [] (suc n) m le lm = absurd (omega (arith, le))
long-take (x ∷ xs) (suc n) zero le lm = absurd (omega (arith, lm))
long-take (x ∷ xs) (suc n) (suc m) le lm = let k = long-take xs n m (omega (arith, le)) (omega (arith, lm)) in omega (arith, k)

-- where all is written, all that is settled was put out
put-all : (b : Books) (w : CoreState) → IsPutOut false b w → length w.manager.settled ≤ w.manager.emitted → entries_of b.said ≡ w.manager.settled
put-all b w (inl q) le = q ∙ whole-take w.manager.settled w.manager.emitted le
put-all b w (inr q) le = q.0 ∙ whole-take w.manager.settled (w.manager.emitted + 1) (omega (arith, le))

-- and never less than the core was told
put-told : (b : Books) (w : CoreState) → IsPutOut false b w → w.manager.emitted ≤ length w.manager.settled → w.manager.emitted ≤ length (entries_of b.said)
put-told b w (inl q) le =
    subst (λ (l : List Entry). w.manager.emitted ≤ length l) (sym q) (long-take w.manager.settled w.manager.emitted w.manager.emitted le (omega arith))
put-told b w (inr q) le =
    subst (λ (l : List Entry). w.manager.emitted ≤ length l) (sym q.0) (long-take w.manager.settled w.manager.emitted (w.manager.emitted + 1) le (omega arith))

-- what was written of what is settled
pub settled : (tells : Bool) (o : Outset) (b : Books) (r : Run) (settler : Settler) (seen : Observed) (c : Course)
    → settler.quiet ≡ false → KeepsRecord tells o b (stage_by r settler seen.faults_after seen.new) → EndsSo o r seen.ending
    → IsCourseOf o b r seen c → AreSettled o.program seen c
settled tells o b r settler seen c loud k e is =
    let w : CoreState = ends r in
    let end : core_end o.program c ≡ w = ap ends is.run in
    let put : IsPutOut false b w = subst (λ (quiet : Bool). IsPutOut quiet b w) loud k.books.said in
    let shape = shape_in o.program in
    let told : w.manager.emitted ≤ length w.manager.settled = (once-ends r k.above).written in
    record {
      entries = (
        entries_of b.unsaid,
        ap (λ (v : CoreState). v.manager.settled) end ∙ sym k.books.booked.entries ∙ flat-both (λ (s : Settlement). s.entries) b.said b.unsaid
            ∙ ap (λ (l : List Entry). l ++ entries_of b.unsaid) (sym is.entries),
      );
      all = λ which. is.entries ∙ put-all b w put (e.written (which-by which)) ∙ sym (ap (λ (v : CoreState). v.manager.settled) end);
      told = subst (λ (v : CoreState). v.manager.emitted ≤ length c.entries) (sym end)
          (subst (λ (l : List Entry). w.manager.emitted ≤ length l) (sym is.entries) (put-told b w put told));
      cut = cut-by k.books.cut;
    }
  where
    which-by : EndsWritten o.program seen c → IsAllWritten seen.ending ⊎ (IsDiskFault seen.ending × RunHasDoubt r)
    which-by (inl x) = inl x
    which-by (inr x) = inr (x.0, subst RunHasDoubt is.run x.1)

    cut-by : (b.rest ≡ []) ⊎ ((entry : Entry) × (slice_get (ends r).manager.settled (length (entries_of b.said)) ≡ Some entry) × IsPrefix b.rest (reply_line (shape_in o.program) entry))
        → IsCutShort (shape_in o.program) (core_end o.program c).manager.settled c
    cut-by (inl x) = inl (is.rest ∙ x)
    cut-by (inr x) = inr (
      x.0,
      ap (λ (v : CoreState). slice_get v.manager.settled (length c.entries)) (ap ends is.run) ∙ ap (λ (l : List Entry). slice_get (ends r).manager.settled (length l)) is.entries ∙ x.1,
      subst (λ (l : List ℕ). IsPrefix l (reply_line (shape_in o.program) x.0)) (sym is.rest) x.2,
    )
