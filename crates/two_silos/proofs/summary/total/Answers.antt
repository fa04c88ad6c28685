use Rattle.std.proofs.Common.{◌≡◌, ◌+◌, ◌%◌, ◌*◌, ◌+ℤ◌, ◌≤ℤ◌, ◌∙◌, pos, neg_ℤ, ℤ, arith, ap, sym, subst}
use Rattle.std.proofs.lemmas.Int.{ints, to_z-of_z}
use mir.Val.{to_z, of_z, SFits}
use mir.Syntax.{w128}
use Rattle.two_silos.specs.World.{balance_in}
use Rattle.two_silos.specs.GeneratedEvents.{account}
use Rattle.two_silos.specs.Summaries.{or_zero}
use Rattle.two_silos.proofs.Totals.{balance-fits, sum-fits, sum-below, sum-above, zero-plus, sum_on, sum_all}
use Rattle.two_silos.proofs.summary.total.Goals as goal

pub loop-key-init : goal.loop-key-init
loop-key-init c = (omega (arith, ints), omega (arith, ints), zero-plus _)

pub overflow_add-sum : goal.overflow_add-sum
overflow_add-sum c =
    let s : ℤ = to_z w128 c.loop-key.sum-bits in
    let b : ℤ = c.balance-sum.result in
    let fits : SFits w128 (s +ℤ b) = sum-fits s b c.loop-key.key c.loop-key-test.true c.loop-key.invariant.0 c.loop-key.invariant.1 c.balance-sum.ensures.low c.balance-sum.ensures.high in
    subst (λ (x : ℤ). SFits w128 (s +ℤ x)) (sym (to_z-of_z w128 b (balance-fits b c.balance-sum.ensures.low c.balance-sum.ensures.high))) fits

pub loop-key-preserved : goal.loop-key-preserved
loop-key-preserved c =
    let s : ℤ = to_z w128 c.loop-key.sum-bits in
    let b : ℤ = c.balance-sum.result in
    let key = c.loop-key.key in
    let fits : SFits w128 (s +ℤ b) = sum-fits s b key c.loop-key-test.true c.loop-key.invariant.0 c.loop-key.invariant.1 c.balance-sum.ensures.low c.balance-sum.ensures.high in
    let next : ℤ = to_z w128 (of_z w128 (s +ℤ to_z w128 (of_z w128 b))) in
    let plus : next ≡ s +ℤ b =
    ap (λ x. to_z w128 (of_z w128 (s +ℤ x))) (to_z-of_z w128 b (balance-fits b c.balance-sum.ensures.low c.balance-sum.ensures.high)) ∙ to_z-of_z w128 (s +ℤ b) fits in
    let here : next ≡ s +ℤ or_zero (balance_in c.args.world.now.nodes (key % 2) (account key)) = plus ∙ ap (λ x. s +ℤ x) c.balance-sum.ensures.value in (
      subst (λ (x : ℤ). x ≤ℤ pos ((key + 1) * 9223372036854775808)) (sym plus) (sum-below s b key c.loop-key.invariant.0 c.balance-sum.ensures.high),
      subst (λ (x : ℤ). neg_ℤ (pos ((key + 1) * 9223372036854775808)) ≤ℤ x) (sym plus) (sum-above s b key c.loop-key.invariant.1 c.balance-sum.ensures.low),
      sum_on c.args.world.now 64 key s next _ c.loop-key-test.true here c.loop-key.invariant.2,
    )

pub returns : goal.returns
returns c = sum_all c.args.world.now 64 c.loop-key.key _ _ c.loop-key-test.false c.loop-key.invariant.2
