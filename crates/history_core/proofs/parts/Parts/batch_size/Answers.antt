use Rattle.std.proofs.Common.{◌≡◌, ◌∙◌, ap, take, map, List, length, arith, length-take}
use Rattle.open_batch.specs.Members.{effect_in}
use Rattle.open_batch.specs.declared.members.FinishedUnit.{FinishedUnit}
use Rattle.history_core.specs.UnitsWithoutLocks.{front_by}
use Rattle.history_core.proofs.Takes.{size-is, front-short, front-within}
use Rattle.history_core.proofs.parts.Parts.batch_size.Goals as goal

pub returns-clause-size : goal.returns-clause-size
returns-clause-size c = λ w s.
    c.free_front.ensures.front
    ∙ ap (λ (ms : List FinishedUnit). front_by c.args.self.now (map effect_in ms)) (c.first_64.ensures ∙ ap (take 64) c.deref.ensures.value)
    ∙ size-is c.args.self.now w s

pub returns-clause-most : goal.returns-clause-most
returns-clause-most c =
    let e : length c.first_64.result.now ≡ length (take 64 c.deref.result.now) = ap (λ (ms : List FinishedUnit). length ms) c.first_64.ensures in
    omega (arith, c.free_front.ensures.most, e, front-short 64 c.deref.result.now)

pub returns-clause-within : goal.returns-clause-within
returns-clause-within c =
    let e : length c.first_64.result.now ≡ length (take 64 c.deref.result.now) = ap (λ (ms : List FinishedUnit). length ms) c.first_64.ensures in
    let d : length c.deref.result.now ≡ length c.args.self.now.waiting.items = ap (λ (ms : List FinishedUnit). length ms) c.deref.ensures.value in
    omega (arith, c.free_front.ensures.most, e, d, front-within 64 c.deref.result.now)
