use Rattle.std.proofs.Common.{rules, ◌≡◌, ◌∙◌, ℕ, ◌≤◌, ◌<◌, ◌^◌, [], ◌∷◌, refl, sym, ap, arith, inl, inr, decimal}
use Rattle.command_words.specs.CutParts.{one_value}
use Rattle.command_words.proofs.Commands.{one_number}
use Rattle.command_words.proofs.options.read_bounded.Goals as goal

pub returns-then-n-eq0 : goal.returns-then-n-eq0
returns-then-n-eq0 c = (refl, unbounded, λ e. absurd (cc (sym (ap one_value c.in-Some.is) ∙ e)))
  where
    unbounded : (m : ℕ) → one_value c.args.text ≡ decimal m ∷ [] → 1 ≤ m → m ≤ c.args.most → ⊥
    unbounded m e low high =
        let small : c.in-Some-read_small.n < 2 ^ 32 = search rules in
        let most : c.args.most < 2 ^ 32 = search rules in
        let told : c.in-Some.text.now ∷ [] ≡ decimal m ∷ [] = sym (ap one_value c.in-Some.is) ∙ e in
        let same : c.in-Some-read_small.n ≡ m =
        one_number c.in-Some.text.now c.in-Some-read_small.n m (omega (arith, small)) (omega (arith, most, high)) c.in-Some-read_small.ensures.some (cc told) in
        elim c.then-n-eq0.either [
          | inl none ↦ omega (arith, same, none, low)
          | inr over ↦ omega (arith, same, over.1, high)
        ]
