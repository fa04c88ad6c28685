use Rattle.std.proofs.Common.{◌≡◌, ◌∙◌, ◌≤◌, sym, ap, refl, subst, List, Some, length, take, Vec, Global}
use Rattle.core_model.specs.Tests.{is_bad}
use Rattle.core_parts.specs.States.{has_place}
use Rattle.unit_table.specs.Table.{verdict_in}
use Rattle.open_batch.specs.declared.members.FinishedUnit.{FinishedUnit}
use Rattle.open_batch.specs.TakenBatch.{first_batch}
use Rattle.history_core.specs.KeptParts.{writes_in, AllPlaced}
use Rattle.history_core.proofs.Takes.{takes-at, none-open}
use Rattle.history_core.proofs.SameMeaning.{always-err}
use Rattle.history_core.proofs.parts.Parts.take.Goals as goal
use Rattle.history_core.proofs.Sweeps.{unmoved}
use Rattle.core_model.specs.declared.events.CoreEvent.TheVariants.{Take}

pub returns-clause-ok : goal.returns-clause-ok
returns-clause-ok c =
    let old = c.args.self.now in
    let mid = c.prepare_take.new.self in
    let size = c.batch_size-size.result in
    let number = c.in-Some.number in
    let w = c.prepare_take.ensures.waiting in
    let fronts : c.deref.result.now ≡ mid.waiting.items = c.deref.ensures.value in
    let within : size ≤ length mid.waiting.items = subst (λ (v : Vec FinishedUnit Global). size ≤ length v.items) (sym w) c.batch_size-size.ensures.within in
    let made : c.in_ok-batch.batch ≡ first_batch number (λ u. is_bad (verdict_in mid.units u)) (take size mid.waiting.items) = c.in_ok-batch.ensures ∙ ap (λ (xs : List FinishedUnit). first_batch number (λ u. is_bad (verdict_in mid.units u)) (take size xs)) fronts in
    let learn : writes_in (take size mid.waiting.items) ≤ mid.learn.spare = subst (λ (v : Vec FinishedUnit Global). writes_in (take size v.items) ≤ mid.learn.spare) (sym w) c.in_ok-prepare_take.ensures.learn in
    let places : AllPlaced (has_place mid.last) (take size mid.waiting.items) = subst (λ (v : Vec FinishedUnit Global). AllPlaced (has_place mid.last) (take size v.items)) (sym w) c.in_ok-prepare_take.ensures.places in
    λ x s r a. (let t = takes-at mid size number c.in_ok-batch.batch x (c.prepare_take.ensures.keeps (none-open old c.requires.can) x s) (c.batch_size-size.ensures.size x s) within c.in-Some.ensures.1 made c.in_ok-prepare_take.ensures.entries learn places in (unmoved (record mid { batches = number; batch = Some c.in_ok-batch.batch }) x Take r a refl t.0, t.1))

pub returns-in_err-prepare_take-clause-err : goal.returns-in_err-prepare_take-clause-err
returns-in_err-prepare_take-clause-err c = always-err c.from_residual.result _ (c.prepare_take.ensures.keeps (none-open c.args.self.now c.requires.can))

pub returns-in_default-clause-err : goal.returns-in_default-clause-err
returns-in_default-clause-err c = c.prepare_take.ensures.keeps (none-open c.args.self.now c.requires.can)

pub returns-in_err-batch-clause-err : goal.returns-in_err-batch-clause-err
returns-in_err-batch-clause-err c = always-err c.from_residual-in_err-batch.result _ (c.prepare_take.ensures.keeps (none-open c.args.self.now c.requires.can))
