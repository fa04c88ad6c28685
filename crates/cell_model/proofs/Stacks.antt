-- Stacks of versions.
use Rattle.std.proofs.Common.{◌≡◌, List, [], ◌∷◌, Bool, true, false, ◌||◌, inl, inr, refl, sym, ap, ◌∙◌}
use Rattle.std.specs.List.{list_any as any}
use Rattle.std.proofs.lemmas.Bool.{cases_Bool, cond_both, or_cases, or_parts}
use Rattle.cell_model.specs.Units.{UnitNo}
use Rattle.cell_model.specs.Stacks.{Version, is_of, top, cut, committed_stack, removed, has_version}
use Rattle.cell_model.specs.Cells.{Cell, learnt, cell_learned}
use Rattle.cell_model.specs.Laws.{KeepsDownTo, TakesOffFrom, StackFollows}
use Rattle.cell_model.proofs.Units.{same_unit-true}

pub committed-top : (unit : UnitNo) (xs : List Version) → top (committed_stack unit xs) ≡ top xs
committed-top unit [] = refl
committed-top unit (x ∷ xs) = cond_both (is_of unit x) (x ∷ []) (x ∷ committed_stack unit xs) (λ t. top t ≡ x) (λ e. refl) (λ e. refl)

pub committed-stranger : (unit : UnitNo) (xs : List Version) → has_version unit xs ≡ false → committed_stack unit xs ≡ xs
committed-stranger unit [] e = refl
committed-stranger unit (x ∷ xs) e =
    let p = or_parts (is_of unit x) (has_version unit xs) e in
    cond_both (is_of unit x) (x ∷ []) (x ∷ committed_stack unit xs) (λ t. t ≡ x ∷ xs)
    (λ q. (let t : true ≡ false = sym q ∙ p.0 in cc))
    (λ q. ap (λ t. x ∷ t) (committed-stranger unit xs p.1))

pub committed-twice : (unit : UnitNo) (xs : List Version) → committed_stack unit (committed_stack unit xs) ≡ committed_stack unit xs
committed-twice unit [] = refl
committed-twice unit (x ∷ xs) =
    cond_both (is_of unit x) (x ∷ []) (x ∷ committed_stack unit xs) (λ t. committed_stack unit t ≡ t)
    (λ q. cond_both (is_of unit x) (x ∷ []) (x ∷ []) (λ t. t ≡ x ∷ []) (λ e. refl) (λ e. refl))
    (λ q. cond_both (is_of unit x) (x ∷ []) (x ∷ committed_stack unit (committed_stack unit xs)) (λ t. t ≡ x ∷ committed_stack unit xs)
    (λ e. (let t : true ≡ false = sym e ∙ q in cc))
    (λ e. ap (λ t. x ∷ t) (committed-twice unit xs)))

-- nothing that meets the test is left
pub cut-none : (test : Version → Bool) (xs : List Version) → any test (cut test xs) ≡ false
cut-none test [] = refl
cut-none test (x ∷ xs) =
    cond_both (any test (x ∷ xs)) (cut test xs) (x ∷ xs) (λ t. any test t ≡ false) (λ e. cut-none test xs) (λ e. e)

pub cut-stranger : (test : Version → Bool) (xs : List Version) → any test xs ≡ false → cut test xs ≡ xs
cut-stranger test [] e = refl
cut-stranger test (x ∷ xs) e =
    cond_both (any test (x ∷ xs)) (cut test xs) (x ∷ xs) (λ t. t ≡ x ∷ xs) (λ q. (let t : true ≡ false = sym q ∙ e in cc)) (λ q. refl)

-- what a commit keeps
keeps-down : (unit : UnitNo) (xs : List Version) → has_version unit xs ≡ true → KeepsDownTo unit xs (committed_stack unit xs)
keeps-down unit [] e = cc
keeps-down unit (x ∷ xs) e = cond_both (is_of unit x) (x ∷ []) (x ∷ committed_stack unit xs) (KeepsDownTo unit (x ∷ xs))
    (λ q. record { above = []; own = x; below = xs; split = refl; its = same_unit-true x.unit unit q; newest = refl; rest = refl })
    (λ q.
    (let t = keeps-down unit xs (elim (or_cases (is_of unit x) (has_version unit xs) e) [ inl y ↦ (let z : true ≡ false = sym y ∙ q in cc) | inr y ↦ y ]) in
    record {
      above = x ∷ t.above;
      own = t.own;
      below = t.below;
      split = ap (λ ys. x ∷ ys) t.split;
      its = t.its;
      newest = or_from_false (is_of unit x) (has_version unit t.above) q t.newest;
      rest = ap (λ ys. x ∷ ys) t.rest;
    }))
  where
    or_from_false : (a b : Bool) → a ≡ false → b ≡ false → (a || b) ≡ false
    or_from_false a b p q = (λ i. p i || q i)

-- what an abort takes off
takes-off : (unit : UnitNo) (xs : List Version) → has_version unit xs ≡ true → TakesOffFrom unit xs (removed unit xs)
takes-off unit [] e = cc
takes-off unit (x ∷ xs) e = cond_both (any (is_of unit) (x ∷ xs)) (cut (is_of unit) xs) (x ∷ xs) (TakesOffFrom unit (x ∷ xs))
    (λ q. elim (cases_Bool (has_version unit xs)) [
      | inl y ↦ (let t = takes-off unit xs y in record { above = x ∷ t.above; own = t.own; split = ap (λ ys. x ∷ ys) t.split; its = t.its; oldest = t.oldest })
      | inr n ↦ record {
        above = [];
        own = x;
        split = ap (λ ys. x ∷ ys) (sym (cut-stranger (is_of unit) xs n));
        its = elim (or_cases (is_of unit x) (has_version unit xs) e) [ inl y ↦ same_unit-true x.unit unit y | inr y ↦ (let z : true ≡ false = sym y ∙ n in cc) ];
        oldest = ap (has_version unit) (cut-stranger (is_of unit) xs n) ∙ n;
      }
    ])
    (λ q. (let z : true ≡ false = sym e ∙ q in cc))

pub stack-follows : (unit : UnitNo) (stack : List Version) → StackFollows unit stack
stack-follows unit stack = record {
  bottom = λ e. keeps-down unit stack e;
  taken_off = λ e. takes-off unit stack e;
  same_top = committed-top unit stack;
  gone = cut-none (is_of unit) stack;
  strangers = λ e. (committed-stranger unit stack e, cut-stranger (is_of unit) stack e);
}

pub learnt-twice : (commits : Bool) (unit : UnitNo) (stack : List Version) → learnt commits unit (learnt commits unit stack) ≡ learnt commits unit stack
learnt-twice true unit stack = committed-twice unit stack
learnt-twice false unit stack = cut-stranger (is_of unit) (removed unit stack) (cut-none (is_of unit) stack)

pub learned-twice : (cell : Cell) (unit : UnitNo) (commits : Bool) → cell_learned (cell_learned cell unit commits) unit commits ≡ cell_learned cell unit commits
learned-twice cell unit commits = (λ i. record { stack = learnt-twice commits unit cell.stack i; holds = cell.holds; readings = cell.readings })
