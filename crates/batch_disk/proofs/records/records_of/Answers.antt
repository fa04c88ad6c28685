use Rattle.std.proofs.Common.{rules, ◌≡◌, ◌++◌, ◌∷◌, [], List, map, sym, subst}
use Rattle.std.proofs.lemmas.Iterator.Adapters.{YieldsList-from_vec}
use Rattle.std.proofs.lemmas.Iterator.Consumers.{YieldsList-turn}
use Rattle.commit_log.specs.declared.records.CommitRecord.{CommitRecord}
use Rattle.batch_disk.specs.Writers.{voted_by}
use Rattle.batch_disk.specs.Records.{IsRecordFor, AreRecordsFor}
use Rattle.batch_disk.proofs.BatchRecords.{records_push, record_there}
use Rattle.batch_disk.proofs.records.records_of.Goals as goal

pub loop-effect-preserved : goal.loop-effect-preserved
loop-effect-preserved c =
    let voted = map voted_by c.args.kept.now in
    let es = c.loop-effect.yielded in
    let e = c.in-Some.effect in
    let r = c.in-Some-2.record in
    let one : IsRecordFor voted e r = search rules in
    let pushed : c.push.new.self ≡ c.loop-effect.records ++ r ∷ [] = search rules in
    record {
      made = subst (λ (l : List CommitRecord). AreRecordsFor voted (es ++ e ∷ []) l) (sym pushed) (records_push voted es c.loop-effect.records e r c.loop-effect.invariant.made one);
    }

pub returns-in_default-clause-none : goal.returns-in_default-clause-none
returns-in_default-clause-none c records are =
    let voted = map voted_by c.args.kept.now in
    let turn = YieldsList-turn (YieldsList-from_vec {s = c.into_iter-effect-iterator.result} c.args.effects (search rules) (search rules)) c.loop-effect.yielded c.loop-effect.effect-iterator c.loop-effect.yielded_by c.next.result c.next.new.self c.in-Some.effect c.in-Some.is c.next.ensures.steps in
    let there = record_there voted c.args.effects records _ c.in-Some.effect are turn.0 turn.1 in
    let none : (r : CommitRecord) → IsRecordFor voted c.in-Some.effect r → ⊥ = search rules in
    none there.0 there.1
