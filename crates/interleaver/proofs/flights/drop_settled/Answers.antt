use Rattle.std.proofs.Common.{rules, ◌≡◌, suc, List, [], ◌∷◌, length, filter, Bool, true, false, refl, sym, ap, ◌∙◌, arith}
use Rattle.std.specs.Prelude.{cond}
use Rattle.std.proofs.lemmas.Fn.{filter_same}
use Rattle.std.proofs.lemmas.List.Sums.{length-filter, count_by-le-length}
use Rattle.core_model.specs.LegalRuns.{ends}
use Rattle.history_core.specs.Cores.{run_of}
use Rattle.interleaver.specs.Flights.{is_flown}
use Rattle.interleaver.proofs.flights.drop_settled.Goals as goal

-- where as many pass as there are, all pass
whole_on : {A : Type 0} (p : A → Bool) (x : A) (xs : List A) (b : Bool) → (length (filter p xs) ≡ length xs → filter p xs ≡ xs)
    → length (cond b (x ∷ filter p xs) (filter p xs)) ≡ suc (length xs) → cond b (x ∷ filter p xs) (filter p xs) ≡ x ∷ xs
whole_on p x xs true more same = ap (λ ys. x ∷ ys) (more (omega (arith, same)))
whole_on p x xs false more same = absurd (let a = length-filter p xs in let b = count_by-le-length p xs in omega (arith, same, a, b))

whole : {A : Type 0} (p : A → Bool) (xs : List A) → length (filter p xs) ≡ length xs → filter p xs ≡ xs
whole p [] e = refl
whole p (x ∷ xs) e = whole_on p x xs (p x) (whole p xs) e

pub returns-then-flown_in-len : goal.returns-then-flown_in-len
returns-then-flown_in-len c =
    let p = is_flown (ends (run_of c.args.core.now)) in
    sym (whole p c.args.agents.now.list.items (length-filter p c.args.agents.now.list.items ∙ search rules))

pub returns : goal.returns
returns c = filter_same _ (is_flown (ends (run_of c.args.core.now))) _ (λ x b f' t. search rules) _ _ c.retain.ensures.filtered
