-- The books after an event of the settler that puts nothing out.
use Rattle.std.proofs.Common.{◌≡◌, inl, ℕ, ◌<◌, ◌≤◌, List, [], ◌∷◌, ◌++◌, length, Bool, false, refl, sym, ◌∙◌, subst, is_some}
use Rattle.std.specs.Prelude.{IsTrue}
use Rattle.host_trait.specs.declared.channels.Channel.{Channel}
use Rattle.host_trait.specs.World.{World}
use Rattle.core_model.specs.declared.effects.Effect.{Effect}
use Rattle.core_model.specs.declared.events.CoreEvent.{CoreEvent}
use Rattle.core_model.specs.Laws.{extended}
use Rattle.core_model.specs.LegalRuns.{Run, ends}
use Rattle.core_model.specs.SerialOrder.{committed}
use Rattle.core_laws.proofs.LineEntries.{once-ends}
use Rattle.promise_spec.specs.Programs.{shape_in}
use Rattle.promise_spec.specs.Records.{AreRecordsOf}
use Rattle.promise_spec.specs.Outputs.{Grew}
use Rattle.promise_spec.specs.Causes.{AreFaults}
use Rattle.promise_spec.specs.UnitRule.{KeepsUnitRule}
use Rattle.promise_spec.specs.Journals.{Settlement, commits_of, entries_of}
use Rattle.settle_loop.specs.ShownWork.{tells_entry}
use Rattle.settle_loop.specs.declared.settler.Settler.{Settler}
use Rattle.run_books.specs.Beginnings.{Outset, basis_of}
use Rattle.run_books.specs.Books.{Books, AreInDoubt, IsPutOut}
use Rattle.run_books.specs.Records.{KeepsBooks, CountsCalls}
use Rattle.run_books.specs.Places.{KeepsVersions}
use Rattle.run_books.specs.BooksSteps.{AreEven}
use Rattle.run_books.proofs.BooksCore.{Moves}
use Rattle.run_books.proofs.BooksFaults.{NoneFell, fell-both}
use Rattle.run_books.proofs.BooksGrown.{even-put, grown_books, grown-booked, grown-even}
use Rattle.run_books.specs.Stages.{stage_by}

-- What an event that puts nothing out adds: a batch's records, and a batch in doubt; and what it leaves of counts, of the settler
-- and of the host.
pub record AddsBatch (tells : Bool) (o : Outset) (r r' : Run) (before after : Settler) (old new : Channel → ℕ) (now now' : World) (batch d : List Settlement) : Type 0 where
  pub effects : List Effect
  pub none : entries_of batch ≡ []
  pub commits : committed (ends r') ≡ committed (ends r) ++ effects
  pub records : AreRecordsOf effects (commits_of batch)
  pub doubted : AreInDoubt (ends r') d
  pub faults : AreFaults o.live r' o.faults new
  pub later : NoneFell old new
  pub quiet : after.quiet ≡ before.quiet
  pub doubt : after.doubted ≡ is_some (ends r').manager.doubt
  pub slot : after.writer.slot ≡ before.writer.slot
  pub unsure : after.writer.in_doubt ≡ after.doubted
  pub written : after.written ≡ before.written
  pub output : IsTrue tells → now'.output ≡ now.output
  pub calls : IsTrue tells → CountsCalls o r' new now'

module _ (tells : Bool) (o : Outset) (b : Books) (r : Run) (e : CoreEvent) (before after : Settler) (old new : Channel → ℕ) (now now' : World) (batch d : List Settlement)
    (above : 0 < r.base) (units : KeepsUnitRule (basis_of o) r) (even : AreEven before.quiet b (ends r)) (k : KeepsBooks tells o b (stage_by r before old now))
    (m : Moves (ends r) e (ends (extended r (e ∷ [])))) (entry : tells_entry e ≡ false)
    (adds : AddsBatch tells o r (extended r (e ∷ [])) before after old new now now' batch d) where
  abbrev r' : Run
  r' = extended r (e ∷ [])

  abbrev pub books : Books
  books = grown_books b m.more batch d

  told : (ends r).manager.emitted ≤ length (ends r).manager.settled
  told = (once-ends r above).written

  even-before : AreEven before.quiet books (ends r')
  even-before = grown-even b m.more batch d (ends r) (ends r') m.settled adds.none before.quiet (m.emitted entry) told even

  pub books-even : AreEven after.quiet books (ends r')
  books-even = subst (λ (q : Bool). AreEven q books (ends r')) (sym adds.quiet) even-before

  pub books-kept : (IsTrue tells → KeepsVersions o books r' after.writer now'.disk) → KeepsBooks tells o books (stage_by r' after new now')
  books-kept versions = record {
    faults = adds.faults;
    later = fell-both o.faults old new k.later adds.later;
    booked = grown-booked b m.more batch d (ends r) (ends r') m.settled adds.none adds.effects k.booked adds.commits adds.records adds.doubted;
    said = subst (λ (q : Bool). IsPutOut q books (ends r')) (sym adds.quiet) (even-put before.quiet b (ends r) k.said even (ends r') books refl even-before);
    cut = inl even.rest;
    doubt = adds.doubt;
    slot = adds.slot ∙ k.slot;
    unsure = adds.unsure;
    written = adds.written ∙ k.written ∙ sym (m.emitted entry);
    versions = versions;
    outside = λ t. record {
      output = subst (λ (l : List ℕ). Grew (shape_in o.program) o.world.output l (entries_of b.said) b.rest) (sym (adds.output t)) (k.outside t).output;
      calls = adds.calls t;
    };
  }
