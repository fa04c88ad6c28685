-- From where all is carried a run can go on.
use Rattle.std.proofs.Common.{◌≡◌, ℕ, None, Some, List, [], ◌∷◌, Bool, true, length, refl, sym, ap, ◌∙◌}
use Rattle.std.specs.Prelude.{is_some}
use Rattle.request_wire.specs.declared.requests.Line.{Line}
use Rattle.core_model.specs.CoreState.{CoreState}
use Rattle.core_model.specs.LegalRuns.{ends}
use Rattle.promise_spec.specs.Journals.{Settlement}
use Rattle.promise_spec.specs.TurnRule.{picks_used}
use Rattle.run_books.specs.Beginnings.{Outset, CanTurn, GoUpFrom}
use Rattle.run_books.specs.Books.{Books, AreInDoubt}
use Rattle.run_books.specs.Records.{KeepsRecord, HasCarriedAll}
use Rattle.interleaver.specs.Turns.{IsFreshRecord}
use Rattle.run_books.specs.Stages.{Stage}

-- the books have no batch in doubt where there is no doubt
none-doubted : (w : CoreState) (batches : List Settlement) → AreInDoubt w batches → w.manager.doubt ≡ None → batches ≡ []
none-doubted w [] are none = refl
none-doubted w (batch ∷ []) are none = absurd (apart are.0 (sym are.1 ∙ none))
  where
    apart : (n : ℕ) → Some n ≡ None → ⊥
    apart n q = absurd cc
none-doubted w (batch ∷ (other ∷ more)) are none = absurd are

module _ (tells : Bool) (o : Outset) (b : Books) (s : Stage) (kept : KeepsRecord tells o b s) (all : HasCarriedAll o s) where
  -- the next lines can be carried
  pub can-again : (lines : List Line) → GoUpFrom (ends s.run).units.lines lines → CanTurn s.run s.settler lines
  can-again lines numbers = record {
    quiet = all.run.quiet;
    going = (all.none, all.unstopped);
    rests = all.rests;
    numbers = numbers;
    sure = kept.books.doubt ∙ ap is_some all.none;
    written = all.written;
  }

  -- and their record begins with what is there
  pub fresh-again : b.rest ≡ [] → (next : Outset) (used : ℕ) → (next.ruled ≡ true → picks_used s.run (length s.run.events) ≡ used) → IsFreshRecord next b used s.run
  fresh-again rest next used picks = record { picks = picks; doubted = none-doubted (ends s.run) b.doubted kept.books.booked.doubted all.none; rest = rest }
