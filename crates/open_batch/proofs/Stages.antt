-- What a batch in code shows of the model's, from its take to its decisions.
use Rattle.std.proofs.Common.{◌≡◌, ℕ, suc, ◌+◌, ◌<◌, ◌≤◌, List, [], ◌∷◌, ◌++◌, Bool, true, false, ◌&&◌, ◌||◌, not, inl, inr, refl, sym, ap, ◌∙◌, filter, length, take, Some, cond, arith, nat_lt}
use Rattle.std.specs.Prelude.{find, slice_get}
use Rattle.std.specs.List.{list_any as any, list_all as all}
use Rattle.std.proofs.lemmas.Bool.{cases_Bool, lt-ltb}
use Rattle.std.proofs.lemmas.List.Folds.{list_any-append}
use Rattle.base_types.specs.declared.calls.UnitNo.{UnitNo}
use Rattle.base_types.specs.declared.calls.GrainId.{GrainId}
use Rattle.cell_model.specs.declared.outcomes.Decision.{Decision}
use Rattle.cell_model.specs.Units.{same_grain}
use Rattle.cell_model.specs.Decisions.{is_commit}
use Rattle.cell_model.proofs.Units.{same_grain-true}
use Rattle.core_model.specs.declared.phases.Verdict.{Verdict}
use Rattle.core_model.specs.CoreState.{Batch, CoreState}
use Rattle.core_model.specs.Tests.{waiting, planned, is_bad, is_vote_on, is_planned, is_voted, is_empty}
use Rattle.core_model.specs.Changes.{new_batch}
use Rattle.core_model.specs.Settler.{first_unvoted}
use Rattle.open_batch.specs.declared.members.FinishedUnit.{FinishedUnit}
use Rattle.open_batch.specs.TakenBatch.{TakenBatch, first_batch, with_vote, with_decisions, without_grain}
use Rattle.open_batch.specs.ShownBatch.{AreUnits, ShowsBatch}
use Rattle.open_batch.proofs.ModelBatch.{plan-link}

filter-all : {A : Type 0} (xs : List A) → xs ≡ filter (λ x. true) xs
filter-all [] = refl
filter-all (x ∷ xs) = ap (λ t. x ∷ t) (filter-all xs)

-- a batch that was just taken shows the model's
pub shows-taken : (v : UnitNo → Verdict) (number size : ℕ) (ms : List FinishedUnit) (w : CoreState) → w.manager.verdict ≡ v → number ≡ w.manager.batches + 1 → length ms ≡ size → AreUnits ms w (take size (waiting w)) → ShowsBatch (first_batch number (λ u. is_bad (v u)) ms) ms (new_batch w size)
shows-taken v number size ms w e n l s = record {
  number = n;
  size = l;
  taken_of = record { count = refl; undecided = λ q. (refl, refl) };
  unvoted = plan-link v ms w (take size (waiting w)) e s ∙ filter-all (planned w (take size (waiting w)));
  votes = refl;
  decisions = refl;
}

filter-both : {A : Type 0} (p q r : A → Bool) → ((x : A) → r x ≡ (q x && p x)) → (xs : List A) → filter p (filter q xs) ≡ filter r xs
filter-both p q r h [] = refl
filter-both p q r h (x ∷ xs) = by_test (q x) (p x) (r x) (h x) refl (filter-both p q r h xs)
  where
    by_test : (a b c : Bool) → c ≡ (a && b) → p x ≡ b → filter p (filter q xs) ≡ filter r xs → filter p (cond a (x ∷ filter q xs) (filter q xs)) ≡ cond c (x ∷ filter r xs) (filter r xs)
    by_test true b c e d rest =
        ap (λ t. cond t (x ∷ filter p (filter q xs)) (filter p (filter q xs))) (d ∙ sym e)
        ∙ ap (λ ys. cond c (x ∷ ys) ys) rest
    by_test false b c e d rest = rest ∙ sym (ap (λ t. cond t (x ∷ filter r xs) (filter r xs)) e)

not_or : (a b : Bool) → not (a || (b || false)) ≡ (not a && not b)
not_or true b = refl
not_or false true = refl
not_or false false = refl

-- one more vote
pub shows-vote : (x : TakenBatch) (ms : List FinishedUnit) (b : Batch) (g : GrainId) (kept : Bool) → ShowsBatch x ms b → ShowsBatch (with_vote x g kept) ms (record b { votes = b.votes ++ (g, kept) ∷ [] })
shows-vote x ms b g kept s = record {
  number = s.number;
  size = s.size;
  taken_of = record { count = s.taken_of.count; undecided = s.taken_of.undecided };
  unvoted = ap (without_grain g) s.unvoted ∙ filter-both (λ k. not (same_grain g k)) (λ k. not (any (is_vote_on k) b.votes)) (λ k. not (any (is_vote_on k) (b.votes ++ (g, kept) ∷ []))) same b.plan;
  votes = ap (λ vs. vs ++ (g, kept) ∷ []) s.votes;
  decisions = s.decisions;
}
  where
    same : (k : GrainId) → not (any (is_vote_on k) (b.votes ++ (g, kept) ∷ [])) ≡ (not (any (is_vote_on k) b.votes) && not (same_grain g k))
    same k = ap not (list_any-append (is_vote_on k) b.votes ((g, kept) ∷ [])) ∙ not_or (any (is_vote_on k) b.votes) (same_grain g k)

-- the decisions
pub shows-decided : (x : TakenBatch) (ms : List FinishedUnit) (b : Batch) (ds : List Decision) → ShowsBatch x ms b → ShowsBatch (with_decisions x ds) ms (record b { decisions = Some ds })
shows-decided x ms b ds s = record {
  number = s.number;
  size = s.size;
  taken_of = record { count = s.taken_of.count; undecided = λ e. absurd (cc e) };
  unvoted = s.unvoted;
  votes = s.votes;
  decisions = refl;
}

and_false : (a : Bool) → false ≡ (a && false)
and_false true = refl
and_false false = refl

any-filter : (q : GrainId → Bool) (g : GrainId) (xs : List GrainId) → any (same_grain g) (filter q xs) ≡ (any (same_grain g) xs && q g)
any-filter q g [] = refl
any-filter q g (x ∷ xs) =
    elim (cases_Bool (same_grain g x)) [
      | inl e ↦ here (q x) (ap q (sym (same_grain-true g x e))) e (any-filter q g xs)
      | inr e ↦ past (q x) e (any-filter q g xs)
    ]
  where
    here : (t : Bool) → t ≡ q g → same_grain g x ≡ true → any (same_grain g) (filter q xs) ≡ (any (same_grain g) xs && q g) →
        any (same_grain g) (cond t (x ∷ filter q xs) (filter q xs)) ≡ ((same_grain g x || any (same_grain g) xs) && q g)
    here true h e rest = ap (λ b. b || any (same_grain g) (filter q xs)) e ∙ h ∙ sym (ap (λ b. (b || any (same_grain g) xs) && q g) e)
    here false h e rest = rest ∙ ap (λ b. any (same_grain g) xs && b) (sym h) ∙ sym (and_false (any (same_grain g) xs)) ∙ h ∙ sym (ap (λ b. (b || any (same_grain g) xs) && q g) e)

    past : (t : Bool) → same_grain g x ≡ false → any (same_grain g) (filter q xs) ≡ (any (same_grain g) xs && q g) →
        any (same_grain g) (cond t (x ∷ filter q xs) (filter q xs)) ≡ ((same_grain g x || any (same_grain g) xs) && q g)
    past true e rest = ap (λ b. b || any (same_grain g) (filter q xs)) e ∙ rest ∙ sym (ap (λ b. (b || any (same_grain g) xs) && q g) e)
    past false e rest = rest ∙ sym (ap (λ b. (b || any (same_grain g) xs) && q g) e)

-- a grain may be voted on where the model's vote applies
pub may_vote-link : (x : TakenBatch) (ms : List FinishedUnit) (b : Batch) (g : GrainId) → ShowsBatch x ms b → any (same_grain g) x.unvoted ≡ (is_planned b g && not (any (is_vote_on g) b.votes))
may_vote-link x ms b g s = ap (any (same_grain g)) s.unvoted ∙ any-filter (λ k. not (any (is_vote_on k) b.votes)) g b.plan

all-empty : (p : GrainId → Bool) (xs : List GrainId) → is_empty (filter (λ g. not (p g)) xs) ≡ all p xs
all-empty p [] = refl
all-empty p (x ∷ xs) = by_test (p x) (all-empty p xs)
  where
    by_test : (t : Bool) → is_empty (filter (λ g. not (p g)) xs) ≡ all p xs → is_empty (cond (not t) (x ∷ filter (λ g. not (p g)) xs) (filter (λ g. not (p g)) xs)) ≡ (t && all p xs)
    by_test true rest = rest
    by_test false rest = refl

-- all votes are there where the model says so
pub voted-link : (x : TakenBatch) (ms : List FinishedUnit) (b : Batch) → ShowsBatch x ms b → is_empty x.unvoted ≡ is_voted b
voted-link x ms b s = ap is_empty s.unvoted ∙ all-empty (λ g. any (is_vote_on g) b.votes) b.plan

first-kept : (p : GrainId → Bool) (xs : List GrainId) → slice_get (filter p xs) 0 ≡ find p xs
first-kept p [] = refl
first-kept p (x ∷ xs) = by_test (p x) (first-kept p xs)
  where
    by_test : (t : Bool) → slice_get (filter p xs) 0 ≡ find p xs → slice_get (cond t (x ∷ filter p xs) (filter p xs)) 0 ≡ cond t (Some x) (find p xs)
    by_test true rest = refl
    by_test false rest = rest

-- the first grain without a vote is the model's
pub next-link : (x : TakenBatch) (ms : List FinishedUnit) (b : Batch) → ShowsBatch x ms b → slice_get x.unvoted 0 ≡ first_unvoted b
next-link x ms b s = ap (λ gs. slice_get gs 0) s.unvoted ∙ first-kept (λ g. not (any (is_vote_on g) b.votes)) b.plan

-- some unit is to commit exactly where the count isn't 0
pub commits-some : (ds : List Decision) → nat_lt 0 (length (filter is_commit ds)) ≡ any is_commit ds
commits-some [] = refl
commits-some (d ∷ ds) = by_test (is_commit d) (commits-some ds)
  where
    by_test : (t : Bool) → nat_lt 0 (length (filter is_commit ds)) ≡ any is_commit ds → nat_lt 0 (length (cond t (d ∷ filter is_commit ds) (filter is_commit ds))) ≡ (t || any is_commit ds)
    by_test true rest = lt-ltb 0 (length (d ∷ filter is_commit ds)) (omega arith)
    by_test false rest = rest

no_more : (g : GrainId) (gs : List GrainId) → length (without_grain g gs) ≤ length gs
no_more g [] = omega arith
no_more g (k ∷ gs) = by_test (same_grain g k) (no_more g gs)
  where
    by_test : (t : Bool) → length (without_grain g gs) ≤ length gs → length (cond (not t) (k ∷ without_grain g gs) (without_grain g gs)) ≤ suc (length gs)
    by_test true rest = omega arith
    by_test false rest = omega arith

-- a grain that is there makes one less
pub fewer : (g : GrainId) (gs : List GrainId) → any (same_grain g) gs ≡ true → length (without_grain g gs) < length gs
fewer g [] e = absurd (cc e)
fewer g (k ∷ gs) e = by_test (same_grain g k) e (no_more g gs) (λ h. fewer g gs h)
  where
    by_test : (t : Bool) → (t || any (same_grain g) gs) ≡ true → length (without_grain g gs) ≤ length gs → (any (same_grain g) gs ≡ true → length (without_grain g gs) < length gs) →
        length (cond (not t) (k ∷ without_grain g gs) (without_grain g gs)) < suc (length gs)
    by_test true h most less = omega arith
    by_test false h most less = (let l = less h in omega (arith, l))
