-- The books after an entry was written.
use Rattle.std.proofs.Common.{◌≡◌, inl, inr, ℕ, zero, suc, ◌+◌, List, [], ◌∷◌, ◌++◌, length, take, false, refl, sym, ap, ◌∙◌, subst, arith, append-nil, append_assoc, Some, slice_get}
use Rattle.std.specs.List.{AllByRecursion}
use Rattle.base_types.specs.declared.entries.Entry.{Entry}
use Rattle.base_types.specs.declared.shapes.Shape.{Shape}
use Rattle.host_trait.specs.World.{World}
use Rattle.request_wire.specs.Reply.{reply_line}
use Rattle.core_model.specs.CoreState.{CoreState, Member}
use Rattle.core_model.specs.declared.effects.Effect.{Effect}
use Rattle.core_model.specs.SerialOrder.{committed}
use Rattle.promise_spec.specs.Programs.{shape_in}
use Rattle.promise_spec.specs.Records.{AreRecordsOf}
use Rattle.promise_spec.specs.Outputs.{IsProper, Grew, reply_lines}
use Rattle.promise_spec.specs.Journals.{Settlement, commits_of, entries_of}
use Rattle.run_books.specs.Beginnings.{Outset}
use Rattle.run_books.specs.Books.{Books, AreInDoubt, AreBooked}
use Rattle.run_books.specs.BooksSteps.{AreEven}
use Rattle.run_books.proofs.ShownRecord.{flat-both}
use Rattle.run_books.proofs.BooksLists.{SplitsAt, splits-at, take-next}

-- behind a front comes what stands there
pub rest-at : {A : Type 0} (n : ℕ) (xs ys zs : List A) (x : A) → ys ++ zs ≡ xs → ys ≡ take n xs → slice_get xs n ≡ Some x → (rest : List A) × (zs ≡ x ∷ rest)
rest-at n [] ys zs x all front there = absurd cc
rest-at {A} zero (y ∷ xs) ys zs x all front there =
    let head : y ≡ x = cc in
    (xs, ap (λ (l : List A). l ++ zs) (sym front) ∙ all ∙ ap (λ (z : A). z ∷ xs) head)
rest-at (suc n) (y ∷ xs) [] zs x all front there = absurd cc
rest-at {A} (suc n) (y ∷ xs) (z ∷ ys) zs x all front there =
    let tail : ys ++ zs ≡ xs = cc in
    let short : ys ≡ take n xs = cc in
    rest-at n xs ys zs x tail short there

-- what stands at a place is a member
pub member-at : {A : Type 0} (n : ℕ) (xs : List A) (x : A) → slice_get xs n ≡ Some x → Member x xs
member-at n [] x there = absurd cc
member-at zero (y ∷ xs) x there = (let same : x ≡ y = cc in inl same)
member-at (suc n) (y ∷ xs) x there = inr (member-at n xs x there)

-- one more of all
pub all-last : {A : Type 0} (P : A → Type 0) (xs : List A) (x : A) → AllByRecursion P xs → P x → AllByRecursion P (xs ++ x ∷ [])
all-last P [] x all one = (one, tt)
all-last P (y ∷ xs) x all one = (all.0, all-last P xs x all.1 one)

pub take-whole : {A : Type 0} (xs : List A) → take (length xs) xs ≡ xs
take-whole [] = refl
take-whole {A} (x ∷ xs) = ap (λ (l : List A). x ∷ l) (take-whole xs)

-- the lines, with one more
pub lines-last : (shape : Shape) (xs : List Entry) (x : Entry) → reply_lines shape (xs ++ x ∷ []) ≡ reply_lines shape xs ++ reply_line shape x
lines-last shape xs x = flat-both (reply_line shape) xs (x ∷ []) ∙ ap (λ (l : List ℕ). reply_lines shape xs ++ l) (append-nil (reply_line shape x))

module _ (b : Books) (w : CoreState) (x : Entry) (booked : AreBooked b w) (next : slice_get w.manager.settled w.manager.emitted ≡ Some x) (even : AreEven false b w) where
  pub rest-is : (rest : List Entry) × (entries_of b.unsaid ≡ x ∷ rest)
  rest-is =
      rest-at w.manager.emitted w.manager.settled (entries_of b.said) (entries_of b.unsaid) x
      (sym (flat-both (λ (s : Settlement). s.entries) b.said b.unsaid) ∙ booked.entries) even.told next

  pub parts : SplitsAt b.unsaid x rest-is.0
  parts = splits-at b.unsaid x rest-is.0 (even.single refl) rest-is.1

  -- the books with the next entry said
  abbrev pub said_next : Books
  said_next = record { said = b.said ++ parts.moved; unsaid = parts.later; doubted = b.doubted; rest = b.rest }

  pub next-front : said_next.said ++ said_next.unsaid ≡ b.said ++ b.unsaid
  next-front = append_assoc b.said parts.moved parts.later ∙ ap (λ (l : List Settlement). b.said ++ l) (sym parts.split)

  pub next-entries : entries_of said_next.said ≡ entries_of b.said ++ x ∷ []
  next-entries = flat-both (λ (s : Settlement). s.entries) b.said parts.moved ∙ ap (λ (l : List Entry). entries_of b.said ++ l) parts.one

  pub next-told : entries_of said_next.said ≡ take (w.manager.emitted + 1) w.manager.settled
  next-told =
      next-entries ∙ ap (λ (l : List Entry). l ++ x ∷ []) even.told ∙ sym (take-next w.manager.emitted w.manager.settled x next)
      ∙ ap (λ (n : ℕ). take n w.manager.settled) (let one : suc w.manager.emitted ≡ w.manager.emitted + 1 = omega arith in one)

  pub next-booked : (w' : CoreState) → w'.manager.settled ≡ w.manager.settled → committed w' ≡ committed w → AreInDoubt w' b.doubted → AreBooked said_next w'
  next-booked w' settled commits doubted = record {
    commits = subst (λ (l : List Settlement). AreRecordsOf (committed w') (commits_of l)) (sym next-front)
        (subst (λ (es : List Effect). AreRecordsOf es (commits_of (b.said ++ b.unsaid))) (sym commits) booked.commits);
    entries = ap entries_of next-front ∙ booked.entries ∙ sym settled;
    doubted = doubted;
  }

  -- a whole line more was put out
  pub next-grew : (o : Outset) (now now' : World) → Grew (shape_in o.program) o.world.output now.output (entries_of b.said) b.rest → IsProper (shape_in o.program) x
      → now'.output ≡ now.output ++ take (length (reply_line (shape_in o.program) x)) (reply_line (shape_in o.program) x) → Grew (shape_in o.program) o.world.output now'.output (entries_of said_next.said) b.rest
  next-grew o now now' grew proper appended =
      let shape = shape_in o.program in
      let line : List ℕ = reply_line shape x in
      let front : List ℕ = reply_lines shape (entries_of b.said) in
      record {
        output =
            appended
            ∙ (λ i. grew.output i ++ take-whole line i)
            ∙ ap (λ (l : List ℕ). (o.world.output ++ l) ++ line) (ap (λ (l : List ℕ). front ++ l) even.rest ∙ append-nil front)
            ∙ append_assoc o.world.output front line
            ∙ ap (λ (l : List ℕ). o.world.output ++ l)
            (sym (lines-last shape (entries_of b.said) x) ∙ ap (reply_lines shape) (sym next-entries) ∙ sym (append-nil (reply_lines shape (entries_of said_next.said)))
            ∙ ap (λ (l : List ℕ). reply_lines shape (entries_of said_next.said) ++ l) (sym even.rest));
        unended = grew.unended;
        proper = subst (AllByRecursion (IsProper shape)) (sym next-entries) (all-last (IsProper shape) (entries_of b.said) x grew.proper proper);
      }
