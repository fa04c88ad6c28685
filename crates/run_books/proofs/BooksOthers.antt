-- The books after an event that isn't the settler's.
use Rattle.std.proofs.Common.{◌≡◌, ◌⊎◌, ⊎_elim, inl, inr, ℕ, zero, suc, ◌+◌, ◌<◌, ◌≤◌, List, [], ◌∷◌, ◌++◌, length, take, Bool, true, false, true≢false, refl, sym, ap, ◌∙◌, subst, append-nil, arith, Some, is_some}
use Rattle.std.specs.Prelude.{slice_get}
use Rattle.base_types.specs.declared.calls.GrainId.{GrainId}
use Rattle.base_types.specs.declared.entries.Entry.{Entry}
use Rattle.host_trait.specs.declared.channels.Channel.{Channel}
use Rattle.host_trait.specs.declared.channels.Channel.TheVariants.{File}
use Rattle.host_trait.specs.declared.channels.FileId.TheVariants.{Manager, Grain}
use Rattle.base_types.specs.declared.shapes.Shape.{Shape}
use Rattle.host_trait.specs.World.{World, Passes}
use Rattle.core_model.specs.CoreState.{CoreState}
use Rattle.core_model.specs.declared.events.CoreEvent.{CoreEvent}
use Rattle.core_model.specs.declared.events.CoreEvent.TheVariants.{Take, Vote, Decide, Sealed, NotSealed, Doubt, Learn, Emitted, Bad, Begin, Grant, Refuse, Finish, EndPlain, EndSnapshot, Release, Halt, Want, Load}
use Rattle.core_model.specs.Events.{applies}
use Rattle.core_model.specs.Laws.{extended}
use Rattle.core_model.specs.LegalRuns.{Run, ends}
use Rattle.core_model.specs.SerialOrder.{committed, IsTrueLoad}
use Rattle.core_laws.proofs.LineEntries.{once-ends}
use Rattle.core_access.specs.SettlerEvents.{is_settling, LeavesBatches}
use Rattle.core_access.proofs.SettlerEvents.{others-leave}
use Rattle.promise_spec.specs.Entries.{Log, grown}
use Rattle.promise_spec.specs.Records.{Commit}
use Rattle.promise_spec.specs.Causes.{is_no, is_unsealed, is_vote, is_vote_of, is_sealed, RoseBy, RunHasDoubt}
use Rattle.promise_spec.specs.Cores.{how_many}
use Rattle.promise_spec.specs.UnitRule.{KeepsUnitRule}
use Rattle.promise_spec.specs.Programs.{Program, shape_in}
use Rattle.promise_spec.specs.Outputs.{reply_lines}
use Rattle.promise_spec.specs.Logs.{IsLog}
use Rattle.promise_spec.specs.Journals.{Settlement, AllSay, JournalAt, CutAt, Backs, commits_of, entries_of}
use Rattle.promise_spec.proofs.Doubts.{doubt_left}
use Rattle.promise_laws.proofs.JournalCrashes.{commits_of-append}
use Rattle.promise_laws.proofs.JournalSteps.{settles_on, whole_cut}
use Rattle.promise_laws.proofs.BatchEnds.{moments-stay, batch-stays-run}
use Rattle.settler_rules.proofs.Commits.{doubt-stays, others-leave as committed-stays}
use Rattle.batch_disk.specs.ImagesAtRest.{SomeImage}
use Rattle.settle_loop.specs.declared.settler.Settler.{Settler}
use Rattle.run_books.specs.Beginnings.{Outset, basis_of}
use Rattle.run_books.specs.Books.{Books, booked_journal, AreInDoubt, IsPutOut, IsCutOff}
use Rattle.run_books.specs.Images.{HasOpenBlock, LastsSo}
use Rattle.run_books.specs.Records.{KeepsBooks}
use Rattle.run_books.specs.BooksSteps.{AreEven, BooksGoOn}
use Rattle.run_books.proofs.BooksStated.{OthersKeep}
use Rattle.run_books.proofs.BooksCalls.{TellsNoFile, file-still, calls-same}
use Rattle.run_books.proofs.BooksCore.{moves-run, unapplied-run}
use Rattle.run_books.proofs.BooksCounts.{how-same, none-before, doubt-ends}
use Rattle.run_books.proofs.BooksLists.{alone, alone-commits, added-none, take-front}
use Rattle.run_books.proofs.BooksGrown.{grown_books, grown-front, grown-commits, grown-booked, grown-even}
use Rattle.run_books.proofs.BooksImages.{backs-alone, doubt-kept, block-kept}
use Rattle.run_books.proofs.BooksVersions.{others-true, unapplied-true, versions-same}
use Rattle.run_books.specs.Stages.{stage_by}

-- no file answers it
answers-none : (e : CoreEvent) → is_settling e ≡ false → TellsNoFile e
answers-none (Bad n why) other = record { no = λ h. refl; unsealed = refl; vote = refl; sealed = refl; vote_of = λ h. refl }
answers-none (Begin origin call plain) other = record { no = λ h. refl; unsealed = refl; vote = refl; sealed = refl; vote_of = λ h. refl }
answers-none (Grant u g mode) other = record { no = λ h. refl; unsealed = refl; vote = refl; sealed = refl; vote_of = λ h. refl }
answers-none (Refuse u g mode) other = record { no = λ h. refl; unsealed = refl; vote = refl; sealed = refl; vote_of = λ h. refl }
answers-none (Finish u effect) other = record { no = λ h. refl; unsealed = refl; vote = refl; sealed = refl; vote_of = λ h. refl }
answers-none (EndPlain u effect) other = record { no = λ h. refl; unsealed = refl; vote = refl; sealed = refl; vote_of = λ h. refl }
answers-none (EndSnapshot u at outcome) other = record { no = λ h. refl; unsealed = refl; vote = refl; sealed = refl; vote_of = λ h. refl }
answers-none (Release u g) other = record { no = λ h. refl; unsealed = refl; vote = refl; sealed = refl; vote_of = λ h. refl }
answers-none Take other = absurd (true≢false other)
answers-none (Vote n g kept) other = absurd (true≢false other)
answers-none (Decide n) other = absurd (true≢false other)
answers-none (Sealed n) other = absurd (true≢false other)
answers-none (NotSealed n) other = absurd (true≢false other)
answers-none (Doubt n) other = absurd (true≢false other)
answers-none (Learn u g) other = absurd (true≢false other)
answers-none Emitted other = absurd (true≢false other)
answers-none Halt other = record { no = λ h. refl; unsealed = refl; vote = refl; sealed = refl; vote_of = λ h. refl }
answers-none (Want u g) other = record { no = λ h. refl; unsealed = refl; vote = refl; sealed = refl; vote_of = λ h. refl }
answers-none (Load g u state) other = record { no = λ h. refl; unsealed = refl; vote = refl; sealed = refl; vote_of = λ h. refl }

-- ---- what was put out, and what is cut off

-- a list that isn't longer is taken whole
take-whole : (n : ℕ) (xs : List Entry) → length xs ≤ n → take n xs ≡ xs
take-whole zero [] le = refl
take-whole zero (x ∷ xs) le = absurd (omega (arith, le))
take-whole (suc n) [] le = refl
take-whole (suc n) (x ∷ xs) le = ap (λ (l : List Entry). x ∷ l) (take-whole n xs (omega (arith, le)))

-- what stands in a list stands in a longer one
get-more : (xs ys : List Entry) (at : ℕ) (x : Entry) → slice_get xs at ≡ Some x → slice_get (xs ++ ys) at ≡ Some x
get-more [] ys at x there = absurd cc
get-more (z ∷ xs) ys zero x there = there
get-more (z ∷ xs) ys (suc at) x there = get-more xs ys at x there

module _ (b : Books) (w w' : CoreState) (more : List Entry) (settled : w'.manager.settled ≡ w.manager.settled ++ more) where
  taken : (n : ℕ) → n ≤ length w.manager.settled → take n w'.manager.settled ≡ take n w.manager.settled
  taken n le = ap (take n) settled ∙ take-front n w.manager.settled more le

  module _ (emitted : w'.manager.emitted ≡ w.manager.emitted) (within : w.manager.emitted ≤ length w.manager.settled) where
    told-still : entries_of b.said ≡ take w.manager.emitted w.manager.settled → entries_of b.said ≡ take w'.manager.emitted w'.manager.settled
    told-still q = q ∙ sym (taken w.manager.emitted within) ∙ ap (λ (n : ℕ). take n w'.manager.settled) (sym emitted)

    over-still : (w.manager.emitted + 1 ≤ length w.manager.settled) ⊎ (length w.manager.settled ≤ w.manager.emitted) → entries_of b.said ≡ take (w.manager.emitted + 1) w.manager.settled → b.rest ≡ []
        → (entries_of b.said ≡ take w'.manager.emitted w'.manager.settled) ⊎ ((entries_of b.said ≡ take (w'.manager.emitted + 1) w'.manager.settled) × (b.rest ≡ []))
    over-still (inl le) q rest = inr (q ∙ sym (taken (w.manager.emitted + 1) le) ∙ ap (λ (n : ℕ). take (n + 1) w'.manager.settled) (sym emitted), rest)
    over-still (inr ge) q rest =
        inl (told-still (q ∙ take-whole (w.manager.emitted + 1) w.manager.settled (omega (arith, ge)) ∙ sym (take-whole w.manager.emitted w.manager.settled ge)))

    -- what was put out stays so
    put-still : (quiet : Bool) → IsPutOut quiet b w → IsPutOut quiet (grown_books b more [] b.doubted) w'
    put-still true put = put
    put-still false (inl q) = inl (told-still q)
    put-still false (inr q) = over-still (less-or w.manager.emitted (length w.manager.settled)) q.0 q.1
      where
        less-or : (m n : ℕ) → (m + 1 ≤ n) ⊎ (n ≤ m)
        less-or m zero = inr (omega arith)
        less-or zero (suc n) = inl (omega arith)
        less-or (suc m) (suc n) = ⊎_elim (λ le. inl (omega (arith, le))) (λ le. inr (omega (arith, le))) (less-or m n)

  -- so does a line that is cut off
  cut-still : (shape : Shape) → IsCutOff shape b w → IsCutOff shape (grown_books b more [] b.doubted) w'
  cut-still shape (inl q) = inl q
  cut-still shape (inr (entry, next, front)) =
      inr (entry, ap (λ (l : List Entry). slice_get l (length (entries_of b.said))) settled ∙ get-more w.manager.settled more (length (entries_of b.said)) entry next, front)

-- settlements without records, behind a cut
cut-more : (live : ℕ) (p : Program) (opening : Log) (old : World) (said unsaid more : List Settlement) (rest : List ℕ) (now : World) → commits_of more ≡ []
    → CutAt live p opening old said unsaid [] rest now → CutAt live p opening old said (unsaid ++ more) [] rest now
cut-more live p opening old said unsaid more rest now none c =
    let whole : World = record now { output = old.output ++ reply_lines (shape_in p) (entries_of said) } in
    let at : JournalAt live p opening old said unsaid whole = record {
      output = refl;
      log = λ image left. ⊎_elim (λ x. x) (λ x. subst (λ (l : List Settlement). IsLog live image (grown opening (commits_of l))) (append-nil (said ++ unsaid)) x) (c.log image left);
      moments = subst (λ (l : List Settlement). Passes (AllSay live p opening old.output said l) old.past now.past) (append-nil (said ++ unsaid)) c.moments;
    } in
    let on = whole_cut live p opening old said (unsaid ++ more) whole (settles_on live p opening old said unsaid more whole none at) in
    record { output = c.output; unended = c.unended; log = on.log; moments = on.moments }

module _ (tells : Bool) (o : Outset) (b : Books) (r : Run) (e : CoreEvent) (settler : Settler) (counts : Channel → ℕ) (now : World)
    (above : 0 < r.base) (units : KeepsUnitRule (basis_of o) r) (after : KeepsUnitRule (basis_of o) (extended r (e ∷ [])))
    (leaves : LeavesBatches (ends r) (ends (extended r (e ∷ [])))) (answers : TellsNoFile e) (true_is : IsTrueLoad r.opening (ends r) e) (k : KeepsBooks tells o b (stage_by r settler counts now)) where
  abbrev r' : Run
  r' = extended r (e ∷ [])

  -- what is settled more
  added : (more : List Entry) × ((ends r').manager.settled ≡ (ends r).manager.settled ++ more)
  added = by (applies (ends r) e) refl
    where
      by : (a : Bool) → applies (ends r) e ≡ a → (more : List Entry) × ((ends r').manager.settled ≡ (ends r).manager.settled ++ more)
      by true a = (let m = moves-run r e a in (m.more, m.settled))
      by false a = ([], ap (λ (w : CoreState). w.manager.settled) (unapplied-run r e a) ∙ sym (append-nil (ends r).manager.settled))

  abbrev more : List Entry
  more = added.0

  told : (ends r).manager.emitted ≤ length (ends r).manager.settled
  told = (once-ends r above).written

  same-no : (g : GrainId) → how_many (is_no g) r' ≡ how_many (is_no g) r
  same-no g = how-same (is_no g) r e (answers.no g)

  same-unsealed : how_many is_unsealed r' ≡ how_many is_unsealed r
  same-unsealed = how-same is_unsealed r e answers.unsealed

  same-vote : how_many is_vote r' ≡ how_many is_vote r
  same-vote = how-same is_vote r e answers.vote

  same-sealed : how_many is_sealed r' ≡ how_many is_sealed r
  same-sealed = how-same is_sealed r e answers.sealed

  abbrev books : Books
  books = grown_books b more [] b.doubted

  books-even : AreEven settler.quiet b (ends r) → AreEven settler.quiet books (ends r')
  books-even even = grown-even b more [] b.doubted (ends r) (ends r') added.1 refl settler.quiet leaves.emitted told even

  kept : KeepsBooks tells o books (stage_by r' settler counts now)
  kept = record {
    faults = record {
      votes = λ g. subst (λ (n : ℕ). RoseBy n (o.faults (File (Grain o.live g))) (counts (File (Grain o.live g)))) (sym (same-no g)) (k.faults.votes g);
      seals = subst (λ (n : ℕ). RoseBy n (o.faults (File (Manager o.live))) (counts (File (Manager o.live)))) (sym same-unsealed) k.faults.seals;
    };
    later = k.later;
    booked = grown-booked b more [] b.doubted (ends r) (ends r') added.1 refl [] k.booked
        (committed-stays r above e answers.sealed ∙ sym (append-nil (committed (ends r)))) tt (doubt-kept r (e ∷ []) b.doubted k.booked.doubted);
    said = put-still b (ends r) (ends r') more added.1 leaves.emitted told settler.quiet k.said;
    cut = cut-still b (ends r) (ends r') more added.1 (shape_in o.program) k.cut;
    doubt = k.doubt ∙ ap is_some (sym leaves.doubt);
    slot = k.slot;
    unsure = k.unsure;
    written = k.written ∙ sym leaves.emitted;
    versions = λ t. versions-same o b books r settler.writer settler.writer now.disk now.disk (k.versions t) refl refl (grown-commits b more [] b.doubted ∙ append-nil (commits_of (b.said ++ b.unsaid))) e above true_is;
    outside = λ t. record {
      output = (k.outside t).output;
      calls = calls-same o r r' counts counts now now (k.outside t).calls (λ none. none) same-vote same-sealed same-unsealed (λ g. how-same (is_vote_of g) r e (answers.vote_of g)) refl
          (λ g. file-still (Grain o.live g) now);
    };
  }

  -- ---- the images

  -- after a doubt nothing is settled more
  none-more : (batch : Settlement) → AreInDoubt (ends r) (batch ∷ []) → more ≡ []
  none-more batch is = added-none (ends r).manager.settled more (sym added.1 ∙ (doubt-stays r (e ∷ []) is.0 is.1).settled)

  unsaid-is : more ≡ [] → (b.unsaid ++ []) ++ alone more ≡ b.unsaid
  unsaid-is none = ap (λ (l : List Entry). (b.unsaid ++ []) ++ alone l) none ∙ append-nil (b.unsaid ++ []) ∙ append-nil b.unsaid

  journal-by : (d : List Settlement) → b.doubted ≡ d → AreInDoubt (ends r) d → booked_journal books ≡ booked_journal b ++ alone more
  journal-by [] q is =
      ap (λ (l : List Settlement). (b.said ++ books.unsaid) ++ l) q ∙ append-nil (b.said ++ books.unsaid) ∙ grown-front b more [] b.doubted
      ∙ ap (λ (l : List Settlement). ((b.said ++ b.unsaid) ++ l) ++ alone more) (sym q)
  journal-by (batch ∷ []) q is =
      let none = none-more batch is in
      ap (λ (l : List Settlement). (b.said ++ l) ++ b.doubted) (unsaid-is none) ∙ sym (append-nil (booked_journal b)) ∙ ap (λ (l : List Entry). booked_journal b ++ alone l) (sym none)
  journal-by (batch ∷ (another ∷ rest)) q is = absurd is

  journal-is : booked_journal books ≡ booked_journal b ++ alone more
  journal-is = journal-by b.doubted refl k.booked.doubted

  commits-are : commits_of (booked_journal books) ≡ commits_of (booked_journal b)
  commits-are = ap commits_of journal-is ∙ commits_of-append (booked_journal b) (alone more) ∙ ap (λ (l : List Commit). commits_of (booked_journal b) ++ l) (alone-commits more) ∙ append-nil (commits_of (booked_journal b))

  log-is : grown o.opening (commits_of (booked_journal books)) ≡ grown o.opening (commits_of (booked_journal b))
  log-is = ap (grown o.opening) commits-are

  cut-by : (d : List Settlement) → AreInDoubt (ends r) d → CutAt o.live o.program o.opening o.world b.said b.unsaid d b.rest now → CutAt o.live o.program o.opening o.world b.said books.unsaid d b.rest now
  cut-by [] is c =
      subst (λ (l : List Settlement). CutAt o.live o.program o.opening o.world b.said (l ++ alone more) [] b.rest now) (sym (append-nil b.unsaid))
      (cut-more o.live o.program o.opening o.world b.said b.unsaid (alone more) b.rest now (alone-commits more) c)
  cut-by (batch ∷ []) is c = subst (λ (l : List Settlement). CutAt o.live o.program o.opening o.world b.said l (batch ∷ []) b.rest now) (sym (unsaid-is (none-more batch is))) c
  cut-by (batch ∷ (another ∷ rest)) is c = absurd is

  block-on : (RunHasDoubt r → HasOpenBlock o.live (grown o.opening (commits_of (booked_journal b))) (ends r) now.disk) → RunHasDoubt r' → HasOpenBlock o.live (grown o.opening (commits_of (booked_journal books))) (ends r') now.disk
  block-on has d =
      let there = doubt-ends r' d in
      let before : (ends r).manager.doubt ≡ Some there.0 = sym leaves.doubt ∙ there.1 in
      block-kept o.live (grown o.opening (commits_of (booked_journal b))) (grown o.opening (commits_of (booked_journal books))) (ends r) (ends r') now.disk log-is
      (doubt-stays r (e ∷ []) there.0 before).chosen (has (doubt_left r there.0 before))

  lasts : (head : List ℕ) → LastsSo o head b r settler.writer now → LastsSo o head books r' settler.writer now
  lasts head l = record {
    journal = cut-by b.doubted k.booked.doubted l.journal;
    backs = subst (λ (j : List Settlement). Backs j (commits_of j)) (sym journal-is) (backs-alone (booked_journal b) more l.backs);
    batches = moments-stay o.live (basis_of o) r (e ∷ []) o.opening o.world.past now.past above after l.batches;
    batches_now = λ image log left is. batch-stays-run (basis_of o) r (e ∷ []) o.opening log above after (l.batches_now image log left is);
    alone = l.alone;
    alone_now = l.alone_now;
    some = λ there. subst (λ (log : Log). SomeImage (λ image. IsLog o.live image log) now.disk) (sym log-is) (l.some there);
    block = block-on l.block;
    folder = λ sure. (let f = l.folder sure in record {
      stood = f.stood;
      bodies = f.bodies;
      log = f.log ∙ ap (grown o.opening) (sym (grown-commits b more [] b.doubted ∙ append-nil (commits_of (b.said ++ b.unsaid))));
      keeps = f.keeps;
      behind = λ none. f.behind (none-before is_unsealed r (e ∷ []) none);
    });
  }

  abbrev go-on : BooksGoOn tells o b (stage_by r settler counts now) (stage_by r' settler counts now)
  go-on = record { books = books; kept = kept; lasts = λ t head l. lasts head l }

  still-even : AreEven settler.quiet b (ends r) → AreEven settler.quiet go-on.books (ends r')
  still-even even = books-even even

-- an event that isn't the settler's keeps the books, also where a line is cut off
pub others-still : (tells : Bool) (o : Outset) (b : Books) (r : Run) (e : CoreEvent) (settler : Settler) (counts : Channel → ℕ) (now : World)
    → 0 < r.base → KeepsUnitRule (basis_of o) r → KeepsUnitRule (basis_of o) (extended r (e ∷ [])) → is_settling e ≡ false → KeepsBooks tells o b (stage_by r settler counts now)
    → (g : BooksGoOn tells o b (stage_by r settler counts now) (stage_by (extended r (e ∷ [])) settler counts now)) × (g.books.rest ≡ b.rest)
others-still tells o b r e settler counts now above units after other k =
    (go-on tells o b r e settler counts now above units after (others-leave r e other) (answers-none e other) (others-true r e other) k, refl)

-- and where none is, so it stays
pub others-keep : OthersKeep
others-keep tells o b r e settler counts now above units after other even k = (
  go-on tells o b r e settler counts now above units after (others-leave r e other) (answers-none e other) (others-true r e other) k,
  still-even tells o b r e settler counts now above units after (others-leave r e other) (answers-none e other) (others-true r e other) k even,
)

-- one that no file answers, and that doesn't apply, keeps them too
pub unapplied-keeps : (tells : Bool) (o : Outset) (b : Books) (r : Run) (e : CoreEvent) (settler : Settler) (counts : Channel → ℕ) (now : World)
    → 0 < r.base → KeepsUnitRule (basis_of o) r → KeepsUnitRule (basis_of o) (extended r (e ∷ [])) → applies (ends r) e ≡ false → TellsNoFile e
    → AreEven settler.quiet b (ends r) → KeepsBooks tells o b (stage_by r settler counts now)
    → (g : BooksGoOn tells o b (stage_by r settler counts now) (stage_by (extended r (e ∷ [])) settler counts now)) × AreEven settler.quiet g.books (ends (extended r (e ∷ [])))
unapplied-keeps tells o b r e settler counts now above units after unapplied answers even k =
    let same : ends (extended r (e ∷ [])) ≡ ends r = unapplied-run r e unapplied in
    let leaves : LeavesBatches (ends r) (ends (extended r (e ∷ []))) = record {
      batches = ap (λ (w : CoreState). w.manager.batches) same;
      batch = ap (λ (w : CoreState). w.manager.batch) same;
      past = ap (λ (w : CoreState). w.manager.past) same;
      closed = ap (λ (w : CoreState). w.manager.closed) same;
      doubt = ap (λ (w : CoreState). w.manager.doubt) same;
      emitted = ap (λ (w : CoreState). w.manager.emitted) same;
    } in
    (go-on tells o b r e settler counts now above units after leaves answers (unapplied-true r.opening (ends r) e unapplied) k, still-even tells o b r e settler counts now above units after leaves answers (unapplied-true r.opening (ends r) e unapplied) k even)
