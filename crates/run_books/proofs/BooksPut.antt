-- The books after the settler put an entry out, or was to.
use Rattle.std.proofs.Common.{◌≡◌, inl, inr, ℕ, zero, suc, ◌+◌, ◌-◌, ◌^◌, ◌<◌, ◌≤◌, List, [], ◌∷◌, ◌++◌, length, take, Bool, true, false, refl, sym, ap, ◌∙◌, subst, arith, append-nil, append_assoc, Some, is_some, slice_get}
use Rattle.std.specs.Prelude.{IsTrue}
use Rattle.std.proofs.lemmas.Bool.{false≢true}
use Rattle.base_types.specs.declared.calls.GrainId.{GrainId}
use Rattle.base_types.specs.declared.entries.Entry.{Entry}
use Rattle.host_trait.specs.declared.channels.Channel.{Channel}
use Rattle.host_trait.specs.declared.channels.Channel.TheVariants.{Output}
use Rattle.host_trait.specs.declared.channels.FileId.TheVariants.{Grain}
use Rattle.host_trait.specs.Faults.{NoneFailed, FailedOn}
use Rattle.host_trait.specs.World.{World, Emitted as IsAppended, IsEmitted}
use Rattle.request_wire.specs.Reply.{reply_line}
use Rattle.core_model.specs.declared.effects.Effect.{Effect}
use Rattle.core_model.specs.declared.events.CoreEvent.TheVariants.{Emitted}
use Rattle.core_model.specs.Events.{applies}
use Rattle.core_model.specs.Laws.{extended}
use Rattle.core_model.specs.LegalRuns.{Run, ends}
use Rattle.core_model.specs.SerialOrder.{committed}
use Rattle.core_laws.proofs.LineEntries.{once-ends}
use Rattle.promise_spec.specs.Programs.{shape_in}
use Rattle.promise_spec.specs.Records.{AreRecordsOf}
use Rattle.promise_spec.specs.Outputs.{IsProper, Grew, reply_lines}
use Rattle.promise_spec.specs.Causes.{is_no, is_unsealed, is_vote, is_vote_of, is_sealed}
use Rattle.promise_spec.specs.UnitRule.{KeepsUnitRule}
use Rattle.promise_spec.specs.Journals.{commits_of, entries_of}
use Rattle.promise_laws.proofs.JournalSteps.{cut-no_feed, cut_is_front}
use Rattle.settler_rules.specs.Entries.{IsEntryInRange}
use Rattle.settler_rules.proofs.SettledEntries.{entry-proper}
use Rattle.settler_rules.proofs.Commits.{others-leave as committed-stays}
use Rattle.batch_disk.specs.declared.writer.BatchWriter.{BatchWriter}
use Rattle.settle_loop.specs.ShownWork.{counted_up}
use Rattle.settle_loop.specs.declared.settler.Settler.{Settler}
use Rattle.run_books.specs.Beginnings.{Outset, basis_of}
use Rattle.run_books.specs.Books.{Books, AreBooked, IsPutOut, IsCutOff}
use Rattle.run_books.specs.Records.{KeepsBooks, KeepsFile, ShowsOutside, CountsCalls}
use Rattle.run_books.specs.BooksSteps.{AreEven}
use Rattle.run_books.proofs.BooksCalls.{file-same, file-emitted, calls-same}
use Rattle.run_books.proofs.BooksCore.{Moves}
use Rattle.run_books.proofs.BooksCounts.{how-same}
use Rattle.run_books.proofs.BooksFaults.{NoneFell, calm-later, failed-later, faults-same, fell-both, rose-back}
use Rattle.run_books.proofs.BooksImages.{doubt-kept}
use Rattle.run_books.proofs.BooksVersions.{versions-same, versions-as-were}
use Rattle.run_books.proofs.BooksWritten.{member-at, parts, said_next, next-front, next-told, next-booked, next-grew}
use Rattle.run_books.specs.Stages.{stage_of}

-- a count has room for one more
counted-is : (n : ℕ) → n < 2 ^ 64 - 1 → counted_up n ≡ n + 1
counted-is n room = omega (arith, room)

module _ {H : Type 0} (tells : Bool) (world : H → World) (faults : H → Channel → ℕ) (o : Outset) (b : Books) (r : Run) (before after : Settler) (old new : H)
    (above : 0 < r.base) (units : KeepsUnitRule (basis_of o) r) (kinds : r.kinds ≡ length o.program.types) (room : (ends r).manager.emitted < 2 ^ 64 - 1)
    (k : KeepsBooks tells o b (stage_of world faults r before old)) where
  -- an entry that is settled can be written
  proper : (x : Entry) → slice_get (ends r).manager.settled (ends r).manager.emitted ≡ Some x → IsEntryInRange x → IsProper (shape_in o.program) x
  proper x next range = entry-proper (basis_of o) r above units kinds x (member-at (ends r).manager.emitted (ends r).manager.settled x next) range

  module _ (a : applies (ends r) Emitted ≡ true) (m : Moves (ends r) Emitted (ends (extended r (Emitted ∷ [])))) (quiet_is : after.quiet ≡ before.quiet) (written : after.written ≡ counted_up before.written)
      (doubted : after.doubted ≡ before.doubted) (writer : after.writer ≡ before.writer) (disk : IsTrue tells → (world new).disk ≡ (world old).disk) where
    abbrev r' : Run
    r' = extended r (Emitted ∷ [])

    settled : (ends r').manager.settled ≡ (ends r).manager.settled
    settled = m.settled ∙ ap (λ (l : List Entry). (ends r).manager.settled ++ l) (m.counted refl).1 ∙ append-nil (ends r).manager.settled

    emitted : (ends r').manager.emitted ≡ (ends r).manager.emitted + 1
    emitted = (m.counted refl).0

    commits : committed (ends r') ≡ committed (ends r)
    commits = committed-stays r above Emitted refl

    kept-by : (c : Books) → commits_of (c.said ++ c.unsaid) ≡ commits_of (b.said ++ b.unsaid) → AreBooked c (ends r') → IsPutOut after.quiet c (ends r') → c.rest ≡ [] → NoneFell (faults old) (faults new) → (IsTrue tells → ShowsOutside o c r' (faults new) (world new))
        → KeepsBooks tells o c (stage_of world faults r' after new)
    kept-by c same booked said rest later outside = record {
      faults = faults-same o.live r r' o.faults (faults old) (faults new) k.faults later (λ g. how-same (is_no g) r Emitted refl) (how-same is_unsealed r Emitted refl);
      later = fell-both o.faults (faults old) (faults new) k.later later;
      booked = booked;
      said = said;
      cut = inl rest;
      doubt = doubted ∙ k.doubt ∙ ap is_some (sym (m.doubt refl));
      slot = ap (λ (w : BatchWriter). w.slot) writer ∙ k.slot;
      unsure = ap (λ (w : BatchWriter). w.in_doubt) writer ∙ k.unsure ∙ sym doubted;
      written = written ∙ ap counted_up k.written ∙ counted-is (ends r).manager.emitted room ∙ sym emitted;
      versions = λ t. versions-same o b c r before.writer after.writer (world old).disk (world new).disk (k.versions t) writer (disk t) same Emitted above tt;
      outside = outside;
    }

    calls : NoneFell (faults old) (faults new) → (t : IsTrue tells) → (world new).syncs ≡ (world old).syncs → ((g : GrainId) → KeepsFile (Grain o.live g) (world old) (world new)) → CountsCalls o r' (faults new) (world new)
    calls later t same files =
        calls-same o r r' (faults old) (faults new) (world old) (world new) (k.outside t).calls (rose-back o.faults (faults old) (faults new) k.later later)
        (how-same is_vote r Emitted refl) (how-same is_sealed r Emitted refl) (how-same is_unsealed r Emitted refl) (λ g. how-same (is_vote_of g) r Emitted refl) same files

    -- a quiet settler puts nothing out
    pub put-quiet : before.quiet ≡ true → new ≡ old → AreEven before.quiet b (ends r) → KeepsBooks tells o b (stage_of world faults r' after new) × AreEven after.quiet b (ends r')
    put-quiet quiet host even =
        let later : NoneFell (faults old) (faults new) = calm-later (faults old) (faults new) (λ c. ap (λ (h : H). faults h c) host) in
        let now_quiet : after.quiet ≡ true = quiet_is ∙ quiet in
        let none : b.said ≡ [] = subst (λ (q : Bool). IsPutOut q b (ends r)) quiet k.said in (
          kept-by b refl
              (record {
                commits = subst (λ (es : List Effect). AreRecordsOf es (commits_of (b.said ++ b.unsaid))) (sym commits) k.booked.commits;
                entries = k.booked.entries ∙ sym settled;
                doubted = doubt-kept r (Emitted ∷ []) b.doubted k.booked.doubted;
              })
              (subst (λ (q : Bool). IsPutOut q b (ends r')) (sym now_quiet) none) even.rest later
              (λ t. record {
                output = subst (λ (l : List ℕ). Grew (shape_in o.program) o.world.output l (entries_of b.said) b.rest) (ap (λ (h : H). (world h).output) (sym host)) (k.outside t).output;
                calls = calls later t (ap (λ (h : H). (world h).syncs) host) (λ g. file-same (Grain o.live g) (world old) (world new) (ap world host));
              }),
          subst (λ (q : Bool). AreEven q b (ends r')) (sym now_quiet) (record { rest = even.rest; told = tt; single = λ loud. absurd (false≢true (sym loud)) }),
        )

    -- any other puts the next entry out
    pub put-loud : (loud : before.quiet ≡ false) (even : AreEven false b (ends r)) (x : Entry) → IsEntryInRange x → (next : slice_get (ends r).manager.settled (ends r).manager.emitted ≡ Some x)
        → NoneFailed (faults old) (faults new) → (IsTrue tells → IsEmitted (reply_line (shape_in o.program) x) (world old) (world new))
        → KeepsBooks tells o (said_next b (ends r) x k.booked next even) (stage_of world faults r' after new) × AreEven after.quiet (said_next b (ends r) x k.booked next even) (ends r')
    put-loud loud even x range next calm line =
        let later : NoneFell (faults old) (faults new) = calm-later (faults old) (faults new) calm in
        let now_loud : after.quiet ≡ false = quiet_is ∙ loud in
        let c : Books = said_next b (ends r) x k.booked next even in
        let told : entries_of c.said ≡ take (ends r').manager.emitted (ends r').manager.settled =
        next-told b (ends r) x k.booked next even ∙ (λ i. take (sym emitted i) (sym settled i)) in (
          kept-by c (ap commits_of (next-front b (ends r) x k.booked next even)) (next-booked b (ends r) x k.booked next even (ends r') settled commits (doubt-kept r (Emitted ∷ []) b.doubted k.booked.doubted))
              (subst (λ (q : Bool). IsPutOut q c (ends r')) (sym now_loud) (inl told)) even.rest later
              (λ t. record {
                output = next-grew b (ends r) x k.booked next even o (world old) (world new) (k.outside t).output (proper x next range) (line t).output;
                calls = calls later t (line t).syncs (λ g. file-emitted (Grain o.live g) _ _ (world old) (world new) (line t));
              }),
          subst (λ (q : Bool). AreEven q c (ends r')) (sym now_loud) (record { rest = even.rest; told = told; single = λ q. (parts b (ends r) x k.booked next even).single }),
        )

  -- ---- the output failed

  take-length : {A : Type 0} (n : ℕ) (xs : List A) → n ≤ length xs → length (take n xs) ≡ n
  take-length zero xs le = refl
  take-length (suc n) [] le = absurd (omega (arith, le))
  take-length (suc n) (y ∷ xs) le = (let t = take-length n xs (omega (arith, le)) in omega (arith, t))

  told : (ends r).manager.emitted ≤ length (ends r).manager.settled
  told = (once-ends r above).written

  module _ (loud : before.quiet ≡ false) (even : AreEven false b (ends r)) (x : Entry) (range : IsEntryInRange x) (next : slice_get (ends r).manager.settled (ends r).manager.emitted ≡ Some x)
      (failed : FailedOn Output (faults old) (faults new)) where
    stays-by : (c : Books) → commits_of (c.said ++ c.unsaid) ≡ commits_of (b.said ++ b.unsaid) → AreBooked c (ends r) → IsPutOut before.quiet c (ends r) → IsCutOff (shape_in o.program) c (ends r) → (IsTrue tells → Grew (shape_in o.program) o.world.output (world new).output (entries_of c.said) c.rest)
        → {m : ℕ} {text : List ℕ} → (IsTrue tells → IsAppended m text (world old) (world new)) → KeepsBooks tells o c (stage_of world faults r before new)
    stays-by c same booked said cut grew {m} {text} line =
        let later : NoneFell (faults old) (faults new) = failed-later Output (faults old) (faults new) failed in
        record {
          faults = faults-same o.live r r o.faults (faults old) (faults new) k.faults later (λ g. refl) refl;
          later = fell-both o.faults (faults old) (faults new) k.later later;
          booked = booked;
          said = said;
          cut = cut;
          doubt = k.doubt;
          slot = k.slot;
          unsure = k.unsure;
          written = k.written;
          versions = λ t. versions-as-were o b c r before.writer before.writer (world old).disk (world new).disk (k.versions t) refl (line t).disk same;
          outside = λ t. record {
            output = grew t;
            calls = calls-same o r r (faults old) (faults new) (world old) (world new) (k.outside t).calls (rose-back o.faults (faults old) (faults new) k.later later) refl refl refl (λ g. refl)
                (line t).syncs (λ g. file-emitted (Grain o.live g) m text (world old) (world new) (line t));
          };
        }

    -- with the whole line put out
    pub cut-whole : (tells ≡ true → IsEmitted (reply_line (shape_in o.program) x) (world old) (world new)) → KeepsBooks tells o (said_next b (ends r) x k.booked next even) (stage_of world faults r before new)
    cut-whole line =
        let c : Books = said_next b (ends r) x k.booked next even in
        stays-by c (ap commits_of (next-front b (ends r) x k.booked next even)) (next-booked b (ends r) x k.booked next even (ends r) refl refl k.booked.doubted)
        (subst (λ (q : Bool). IsPutOut q c (ends r)) (sym loud) (inr (next-told b (ends r) x k.booked next even, even.rest))) (inl even.rest)
        (λ t. next-grew b (ends r) x k.booked next even o (world old) (world new) (k.outside t).output (proper x next range) (line t).output) line

    -- the books with a part of the line
    abbrev pub part_said : ℕ → Books
    part_said n = record b { rest = take n (reply_line (shape_in o.program) x) }

    pub cut-part : (n : ℕ) → n < length (reply_line (shape_in o.program) x) → (tells ≡ true → IsAppended n (reply_line (shape_in o.program) x) (world old) (world new)) → KeepsBooks tells o (part_said n) (stage_of world faults r before new)
    cut-part n low line =
        let text : List ℕ = reply_line (shape_in o.program) x in
        let front : List ℕ = reply_lines (shape_in o.program) (entries_of b.said) in
        let count : length (entries_of b.said) ≡ (ends r).manager.emitted = ap length even.told ∙ take-length (ends r).manager.emitted (ends r).manager.settled told in
        stays-by (part_said n) refl (record { commits = k.booked.commits; entries = k.booked.entries; doubted = k.booked.doubted })
        (subst (λ (q : Bool). IsPutOut q (part_said n) (ends r)) (sym loud) (inl even.told))
        (inr (x, ap (λ (i : ℕ). slice_get (ends r).manager.settled i) count ∙ next, cut_is_front (shape_in o.program) x n))
        (λ t. record {
          output = (line t).output ∙ ap (λ (l : List ℕ). l ++ take n text) ((k.outside t).output.output ∙ ap (λ (l : List ℕ). o.world.output ++ l) (ap (λ (l : List ℕ). front ++ l) even.rest ∙ append-nil front))
              ∙ append_assoc o.world.output front (take n text);
          unended = cut-no_feed (shape_in o.program) x n low;
          proper = (k.outside t).output.proper;
        }) line
