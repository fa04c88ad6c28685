use Rattle.std.proofs.Common.{◌≡◌, ℕ, suc, ◌+◌, ◌*◌, ◌+ℤ◌, ◌≤ℤ◌, ◌∙◌, pos, neg_ℤ, ℤ, arith, ap, sym, subst, refl}
use Rattle.std.proofs.lemmas.Int.{ints, to_z-of_z}
use mir.Val.{to_z, of_z, SFits}
use mir.Syntax.{w128}
use Rattle.core_model.specs.LegalRuns.{ends}
use Rattle.history_core.specs.ClosedUnits.{last_state}
use Rattle.history_core.specs.Cores.{run_of}
use Rattle.promise_spec.specs.Loads.{account}
use Rattle.bank_load.specs.Summaries.{kept_balance, total_kept}
use Rattle.bank_load.proofs.Bounds.{balance-fits, sum-fits, sum-below, sum-above}
use Rattle.bank_load.proofs.summary.total_balance.Goals as goal

pub loop-key-init : goal.loop-key-init
loop-key-init c = (omega (arith, ints), omega (arith, ints), refl, omega arith)

pub overflow_add-total : goal.overflow_add-total
overflow_add-total c =
    let s : ℤ = to_z w128 c.loop-key.total-bits in
    let b : ℤ = c.balance-total.result in
    let fits : SFits w128 (s +ℤ b) = sum-fits s b c.loop-key.key c.loop-key-test.true c.loop-key.invariant.0 c.loop-key.invariant.1 c.balance-total.ensures.low c.balance-total.ensures.high in
    subst (λ (y : ℤ). SFits w128 (s +ℤ y)) (sym (to_z-of_z w128 b (balance-fits b c.balance-total.ensures.low c.balance-total.ensures.high))) fits

pub loop-key-preserved : goal.loop-key-preserved
loop-key-preserved c =
    let s : ℤ = to_z w128 c.loop-key.total-bits in
    let b : ℤ = c.balance-total.result in
    let key = c.loop-key.key in
    let fits : SFits w128 (s +ℤ b) = sum-fits s b key c.loop-key-test.true c.loop-key.invariant.0 c.loop-key.invariant.1 c.balance-total.ensures.low c.balance-total.ensures.high in
    let next : ℤ = to_z w128 (of_z w128 (s +ℤ to_z w128 (of_z w128 b))) in
    let plus : next ≡ s +ℤ b =
    ap (λ y. to_z w128 (of_z w128 (s +ℤ y))) (to_z-of_z w128 b (balance-fits b c.balance-total.ensures.low c.balance-total.ensures.high)) ∙ to_z-of_z w128 (s +ℤ b) fits in
    let value : b ≡ kept_balance (last_state (ends (run_of c.args.core.now)) (account key)) = c.balance-total.ensures.value in
    let here : next ≡ total_kept (ends (run_of c.args.core.now)) (key + 1) =
    plus ∙ (λ i. c.loop-key.invariant.2 i +ℤ value i) ∙ ap (total_kept (ends (run_of c.args.core.now))) (let e : suc key ≡ key + 1 = omega arith in e) in (
      subst (λ (y : ℤ). y ≤ℤ pos ((key + 1) * 9223372036854775808)) (sym plus) (sum-below s b key c.loop-key.invariant.0 c.balance-total.ensures.high),
      subst (λ (y : ℤ). neg_ℤ (pos ((key + 1) * 9223372036854775808)) ≤ℤ y) (sym plus) (sum-above s b key c.loop-key.invariant.1 c.balance-total.ensures.low),
      here,
      omega (arith, c.loop-key-test.true),
    )

pub returns : goal.returns
returns c = c.loop-key.invariant.2 ∙ ap (total_kept (ends (run_of c.args.core.now))) (let e : c.loop-key.key ≡ 64 = omega (arith, c.loop-key-test.false, c.loop-key.invariant.3) in e)
