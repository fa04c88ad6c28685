-- Books with more in them: a batch's records, and behind it entries without records.
use Rattle.std.proofs.Common.{◌≡◌, ℕ, ◌≤◌, List, [], ◌++◌, length, take, Bool, true, false, inl, sym, ap, ◌∙◌, subst, append-nil, append_assoc}
use Rattle.base_types.specs.declared.entries.Entry.{Entry}
use Rattle.core_model.specs.CoreState.{CoreState}
use Rattle.core_model.specs.declared.effects.Effect.{Effect}
use Rattle.core_model.specs.SerialOrder.{committed}
use Rattle.promise_spec.specs.Records.{Commit, AreRecordsOf}
use Rattle.promise_spec.specs.Journals.{Settlement, commits_of, entries_of}
use Rattle.promise_laws.proofs.JournalCrashes.{commits_of-append}
use Rattle.run_books.specs.Books.{Books, AreInDoubt, AreBooked, IsPutOut}
use Rattle.run_books.specs.BooksSteps.{IsAsTold, AreEven}
use Rattle.run_books.proofs.ShownRecord.{records-on, flat-both}
use Rattle.run_books.proofs.BooksLists.{alone, alone-commits, alone-entries, alone-single, both-single, none-single, take-front}

-- what is even was put out
pub even-put : (quiet : Bool) (b : Books) (w : CoreState) → IsPutOut quiet b w → AreEven quiet b w → (w' : CoreState) (c : Books) → c.said ≡ b.said → AreEven quiet c w' → IsPutOut quiet c w'
even-put true b w put even w' c same even' = same ∙ put
even-put false b w put even w' c same even' = inl even'.told

module _ (b : Books) (more : List Entry) (batch d : List Settlement) where
  abbrev pub grown_books : Books
  grown_books = record { said = b.said; unsaid = (b.unsaid ++ batch) ++ alone more; doubted = d; rest = b.rest }

  pub grown-front : grown_books.said ++ grown_books.unsaid ≡ ((b.said ++ b.unsaid) ++ batch) ++ alone more
  grown-front = sym (append_assoc b.said (b.unsaid ++ batch) (alone more)) ∙ ap (λ (l : List Settlement). l ++ alone more) (sym (append_assoc b.said b.unsaid batch))

  pub grown-commits : commits_of (grown_books.said ++ grown_books.unsaid) ≡ commits_of (b.said ++ b.unsaid) ++ commits_of batch
  grown-commits =
      ap commits_of grown-front
      ∙ commits_of-append ((b.said ++ b.unsaid) ++ batch) (alone more)
      ∙ ap (λ (l : List Commit). commits_of ((b.said ++ b.unsaid) ++ batch) ++ l) (alone-commits more)
      ∙ append-nil (commits_of ((b.said ++ b.unsaid) ++ batch))
      ∙ commits_of-append (b.said ++ b.unsaid) batch

  pub grown-entries : entries_of batch ≡ [] → entries_of (grown_books.said ++ grown_books.unsaid) ≡ entries_of (b.said ++ b.unsaid) ++ more
  grown-entries none =
      ap entries_of grown-front
      ∙ flat-both (λ (s : Settlement). s.entries) ((b.said ++ b.unsaid) ++ batch) (alone more)
      ∙ ap (λ (l : List Entry). entries_of ((b.said ++ b.unsaid) ++ batch) ++ l) (alone-entries more)
      ∙ ap (λ (l : List Entry). l ++ more) (flat-both (λ (s : Settlement). s.entries) (b.said ++ b.unsaid) batch ∙ ap (λ (l : List Entry). entries_of (b.said ++ b.unsaid) ++ l) none ∙ append-nil (entries_of (b.said ++ b.unsaid)))

  module _ (w w' : CoreState) (settled : w'.manager.settled ≡ w.manager.settled ++ more) (none : entries_of batch ≡ []) where
    pub grown-booked : (effects : List Effect) → AreBooked b w → committed w' ≡ committed w ++ effects → AreRecordsOf effects (commits_of batch) → AreInDoubt w' d → AreBooked grown_books w'
    grown-booked effects booked commits records doubted = record {
      commits = subst (λ (l : List Commit). AreRecordsOf (committed w') l) (sym grown-commits)
          (subst (λ (es : List Effect). AreRecordsOf es (commits_of (b.said ++ b.unsaid) ++ commits_of batch)) (sym commits)
          (records-on (committed w) effects (commits_of (b.said ++ b.unsaid)) (commits_of batch) booked.commits records));
      entries = grown-entries none ∙ ap (λ (l : List Entry). l ++ more) booked.entries ∙ sym settled;
      doubted = doubted;
    }

    told-same : (quiet : Bool) → w'.manager.emitted ≡ w.manager.emitted → w.manager.emitted ≤ length w.manager.settled → IsAsTold quiet b w → IsAsTold quiet grown_books w'
    told-same true emitted within told = tt
    told-same false emitted within told =
        told ∙ sym (take-front w.manager.emitted w.manager.settled more within) ∙ ap (λ (l : List Entry). take w.manager.emitted l) (sym settled)
        ∙ ap (λ (n : ℕ). take n w'.manager.settled) (sym emitted)

    pub grown-even : (quiet : Bool) → w'.manager.emitted ≡ w.manager.emitted → w.manager.emitted ≤ length w.manager.settled → AreEven quiet b w → AreEven quiet grown_books w'
    grown-even quiet emitted within even = record {
      rest = even.rest;
      told = told-same quiet emitted within even.told;
      single = λ loud. both-single (b.unsaid ++ batch) (alone more) (both-single b.unsaid batch (even.single loud) (none-single batch none)) (alone-single more);
    }
