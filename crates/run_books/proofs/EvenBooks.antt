-- Where all that is settled is written, and no line is cut off, the books are even.
use Rattle.std.proofs.Common.{◌≡◌, ℕ, ◌+◌, ◌≤◌, List, [], ◌∷◌, ◌++◌, length, take, Bool, true, false, true≢false, inl, inr, refl, sym, ap, ◌∙◌, arith, length-append}
use Rattle.base_types.specs.declared.entries.Entry.{Entry}
use Rattle.host_trait.specs.declared.channels.Channel.{Channel}
use Rattle.host_trait.specs.World.{World}
use Rattle.core_model.specs.LegalRuns.{Run, ends}
use Rattle.promise_spec.specs.Journals.{Settlement, entries_of}
use Rattle.settle_loop.specs.declared.settler.Settler.{Settler}
use Rattle.run_books.specs.Beginnings.{Outset}
use Rattle.run_books.specs.Books.{Books, IsPutOut}
use Rattle.run_books.specs.Records.{KeepsBooks}
use Rattle.run_books.specs.BooksSteps.{AreEven}
use Rattle.run_books.proofs.BooksLists.{none-single}
use Rattle.run_books.proofs.ShownRecord.{whole-take, flat-both}
use Rattle.run_books.specs.Stages.{stage_by}

-- a list whose front is all of it has nothing behind
no-more : (xs ys : List Entry) → xs ≡ xs ++ ys → ys ≡ []
no-more xs ys q = none-of ys (let e : length xs ≡ length xs + length ys = ap length q ∙ length-append xs ys in omega (arith, e))
  where
    none-of : (l : List Entry) → length l ≡ 0 → l ≡ []
    none-of [] z = refl
    none-of (x ∷ l) z = absurd (omega (arith, z))

module _ (tells : Bool) (o : Outset) (b : Books) (r : Run) (settler : Settler) (counts : Channel → ℕ) (now : World) (written : length (ends r).manager.settled ≤ (ends r).manager.emitted) (rest : b.rest ≡ [])
    (k : KeepsBooks tells o b (stage_by r settler counts now)) where
  said-all : (n : ℕ) → (ends r).manager.emitted ≤ n → entries_of b.said ≡ take n (ends r).manager.settled → entries_of b.said ≡ (ends r).manager.settled
  said-all n up q = q ∙ whole-take (ends r).manager.settled n (omega (arith, written, up))

  is-all : entries_of b.said ≡ (ends r).manager.settled → AreEven false b (ends r)
  is-all q = record {
    rest = rest;
    told = q ∙ sym (whole-take (ends r).manager.settled (ends r).manager.emitted written);
    single = λ z. none-single b.unsaid (no-more (entries_of b.said) (entries_of b.unsaid)
        (q ∙ sym k.booked.entries ∙ flat-both (λ (s : Settlement). s.entries) b.said b.unsaid));
  }

  by-quiet : (quiet : Bool) → IsPutOut quiet b (ends r) → AreEven quiet b (ends r)
  by-quiet true p = record { rest = rest; told = tt; single = λ z. absurd (true≢false z) }
  by-quiet false (inl q) = is-all (said-all (ends r).manager.emitted (omega arith) q)
  by-quiet false (inr q) = is-all (said-all ((ends r).manager.emitted + 1) (omega arith) q.0)

  -- the books are even
  pub even-at-rest : AreEven settler.quiet b (ends r)
  even-at-rest = by-quiet settler.quiet k.said
