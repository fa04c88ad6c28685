use Rattle.std.proofs.Common.{◌≡◌, ◌∙◌, ◌+◌, ◌∷◌, ℕ, List, sym, ap, true, false, drop, map, arith}
use Rattle.std.proofs.lemmas.Bool.{cond-true, cond-false}
use Rattle.open_batch.specs.declared.members.FinishedUnit.{FinishedUnit}
use Rattle.open_batch.specs.Members.{effect_in}
use Rattle.history_core.specs.UnitsWithoutLocks.{is_free_by, front_by}
use Rattle.history_core.proofs.Loops.{drop-at}
use Rattle.history_core.proofs.Takes.{free-by}
use Rattle.history_core.proofs.parts.Parts.free_front.Goals as goal

pub returns-then-not-is_free-clause-front : goal.returns-then-not-is_free-clause-front
returns-then-not-is_free-clause-front c =
    let p = c.args.self.now in
    let m : FinishedUnit = c.member-item.result in
    let i = c.loop-member.member-index in
    let rest : List FinishedUnit = drop (i + 1) c.args.members.now in
    let front : drop i c.args.members.now ≡ m ∷ rest = drop-at c.args.members.now i m c.loop-member-test.true c.member-item.is in
    let holds : is_free_by p m.effect ≡ false = sym (free-by p m.effect c.is_free.result c.as_slice.result.now c.is_free.ensures c.as_slice.ensures) ∙ c.if-not-is_free.true in
    let none : front_by p (map effect_in (drop i c.args.members.now)) ≡ 0 =
    ap (λ (ms : List FinishedUnit). front_by p (map effect_in ms)) front ∙ cond-false (is_free_by p m.effect) (front_by p (map effect_in rest) + 1) 0 holds in
    omega (arith, c.loop-member.invariant.rest, none)

pub loop-member-preserved : goal.loop-member-preserved
loop-member-preserved c =
    let p = c.args.self.now in
    let m : FinishedUnit = c.member-item.result in
    let i = c.loop-member.member-index in
    let rest : List FinishedUnit = drop (i + 1) c.args.members.now in
    let front : drop i c.args.members.now ≡ m ∷ rest = drop-at c.args.members.now i m c.loop-member-test.true c.member-item.is in
    let free : is_free_by p m.effect ≡ true = sym (free-by p m.effect c.is_free.result c.as_slice.result.now c.is_free.ensures c.as_slice.ensures) ∙ c.if-not-is_free.false in
    let more : front_by p (map effect_in (drop i c.args.members.now)) ≡ front_by p (map effect_in rest) + 1 =
    ap (λ (ms : List FinishedUnit). front_by p (map effect_in ms)) front ∙ cond-true (is_free_by p m.effect) (front_by p (map effect_in rest) + 1) 0 free in record {
      rest = omega (arith, c.loop-member.invariant.rest, more);
      is = omega (arith, c.loop-member.invariant.is);
    }
