-- The books where the host was only asked, and no event came.
use Rattle.std.proofs.Common.{◌≡◌, ◌<◌, ℕ, List, [], ◌++◌, Bool, refl, sym, ap, subst, append-nil, None}
use Rattle.std.specs.Prelude.{IsTrue}
use Rattle.host_trait.specs.declared.channels.Channel.{Channel}
use Rattle.host_trait.specs.declared.channels.FileId.TheVariants.{Grain}
use Rattle.host_trait.specs.World.{World}
use Rattle.host_trait.specs.Runs.{OnlyAsked}
use Rattle.host_trait.proofs.Moments.{both, same_moment}
use Rattle.host_trait.proofs.Runs.{asked_keeps}
use Rattle.core_model.specs.Laws.{extended}
use Rattle.core_model.specs.LegalRuns.{Run, ends}
use Rattle.promise_spec.specs.Entries.{Log, grown}
use Rattle.promise_spec.specs.Programs.{shape_in}
use Rattle.promise_spec.specs.Outputs.{Grew}
use Rattle.promise_spec.specs.UnitRule.{KeepsUnitRule}
use Rattle.promise_spec.specs.Journals.{Settlement, JournalAt, CutAt, commits_of, entries_of}
use Rattle.promise_laws.proofs.JournalSteps.{asked_seals, stays_on, whole_cut}
use Rattle.settle_loop.specs.declared.settler.Settler.{Settler}
use Rattle.run_books.specs.Beginnings.{Outset, basis_of}
use Rattle.run_books.specs.Books.{Books}
use Rattle.run_books.specs.Images.{LastsSo}
use Rattle.run_books.specs.Records.{KeepsBooks}
use Rattle.run_books.specs.BooksSteps.{AreEven, BooksGoOn}
use Rattle.run_books.specs.Stages.{stage_by}
use Rattle.run_books.proofs.BooksCalls.{file-asked, calls-same}
use Rattle.run_books.proofs.BooksEmits.{output-lasts}
use Rattle.run_books.proofs.BooksFaults.{NoneFell, faults-same, fell-both, rose-back}
use Rattle.run_books.proofs.BooksImages.{uncut}
use Rattle.run_books.proofs.BooksStep.{none-doubted}
use Rattle.run_books.proofs.BooksVersions.{versions-as-were}

module _ (tells : Bool) (o : Outset) (b : Books) (r : Run) (settler : Settler) (counts counts' : Channel → ℕ) (now now' : World) (above : 0 < r.base) (units : KeepsUnitRule (basis_of o) r)
    (later : NoneFell counts counts') (asked : IsTrue tells → OnlyAsked now now') (none : (ends r).manager.doubt ≡ None) (even : AreEven settler.quiet b (ends r)) (k : KeepsBooks tells o b (stage_by r settler counts now)) where
  kept : KeepsBooks tells o b (stage_by r settler counts' now')
  kept = record {
    faults = faults-same o.live r r o.faults counts counts' k.faults later (λ g. refl) refl;
    later = fell-both o.faults counts counts' k.later later;
    booked = k.booked;
    said = k.said;
    cut = k.cut;
    slot = k.slot;
    doubt = k.doubt;
    unsure = k.unsure;
    written = k.written;
    versions = λ t. versions-as-were o b b r settler.writer settler.writer now.disk now'.disk (k.versions t) refl (asked t).disk refl;
    outside = λ t. record {
      output = subst (λ (l : List ℕ). Grew (shape_in o.program) o.world.output l (entries_of b.said) b.rest) (sym (asked t).output) (k.outside t).output;
      calls = calls-same o r r counts counts' now now' (k.outside t).calls (rose-back o.faults counts counts' k.later later) refl refl refl (λ g. refl) (asked t).syncs (λ g. file-asked (Grain o.live g) now now' (asked t));
    };
  }

  sure : b.doubted ≡ []
  sure = none-doubted (ends r) b.doubted k.booked.doubted none

  none-more : extended r [] ≡ r
  none-more = λ i. record r { events = append-nil r.events i }

  module _ (t : IsTrue tells) (head : List ℕ) (l : LastsSo o head b r settler.writer now) where
    abbrev Cuts : List Settlement → List ℕ → World → Type 0
    Cuts d tail world = CutAt o.live o.program o.opening o.world b.said b.unsaid d tail world

    journal : Cuts b.doubted b.rest now'
    journal =
        let cut : Cuts [] [] now = subst (λ (tail : List ℕ). Cuts [] tail now) even.rest (subst (λ (d : List Settlement). Cuts d b.rest now) sure l.journal) in
        let at : JournalAt o.live o.program o.opening o.world b.said b.unsaid now = uncut o.live o.program o.opening o.world b.said b.unsaid now cut in
        let log : Log = grown o.opening (commits_of (b.said ++ b.unsaid)) in
        let on : Cuts [] [] now' =
        whole_cut o.live o.program o.opening o.world b.said b.unsaid now'
        (stays_on o.live o.program o.opening o.world b.said b.unsaid now now' (k.outside t).output.proper at (asked_seals o.live log now now' (asked t) at.log)) in
        subst (λ (d : List Settlement). Cuts d b.rest now') (sym sure) (subst (λ (tail : List ℕ). Cuts [] tail now') (sym even.rest) on)

    lasts : LastsSo o head b r settler.writer now'
    lasts =
        subst (λ (y : Run). LastsSo o head b y settler.writer now') none-more
        (output-lasts o head b b r [] settler.writer settler.writer now now' above (subst (KeepsUnitRule (basis_of o)) (sym none-more) units) l refl refl refl (asked t).disk
        (ap (λ (y : Run). (ends y).manager.doubt) none-more)
        (λ P here p. both P p (asked_keeps P now now' (asked t) (subst P (same_moment now now' (asked t).output (asked t).disk) here))) journal)

  -- the books are kept, and are even
  pub asked-goes : (g : BooksGoOn tells o b (stage_by r settler counts now) (stage_by r settler counts' now')) × AreEven settler.quiet g.books (ends r)
  asked-goes = (record { books = b; kept = kept; lasts = λ t head l. lasts t head l }, even)
