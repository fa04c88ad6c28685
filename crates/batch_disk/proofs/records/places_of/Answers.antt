use Rattle.std.proofs.Common.{rules, ◌≡◌, ◌++◌, ◌∷◌, [], List, map, take, refl, sym, ◌∙◌, subst, Some}
use Rattle.base_types.specs.declared.calls.GrainId.{GrainId}
use Rattle.base_types.specs.declared.calls.Value.{Value}
use Rattle.commit_log.specs.declared.records.Written.{Written}
use Rattle.batch_disk.specs.Writers.{voted_by}
use Rattle.batch_disk.specs.Records.{HavePlaces}
use Rattle.batch_disk.proofs.Lists.{took}
use Rattle.batch_disk.proofs.BatchRecords.{places_push, place_there}
use Rattle.batch_disk.proofs.records.places_of.Goals as goal

pub loop-write-preserved : goal.loop-write-preserved
loop-write-preserved c =
    let voted = map voted_by c.args.kept.now in
    let xs = c.args.writes.now in
    let i = c.loop-write.write-index in
    let x = c.write-item.result in
    let w : Written = record { grain = x.0; place = c.in-Some.place } in
    let pushed : c.push.new.self ≡ c.loop-write.made ++ w ∷ [] = search rules in
    record {
      placed = subst (λ (l : List (GrainId × List Value)). HavePlaces voted c.args.unit l c.push.new.self) (sym (took xs i x c.loop-write-test.true c.write-item.is))
          (subst (λ (l : List Written). HavePlaces voted c.args.unit (take i xs ++ x ∷ []) l) (sym pushed)
          (places_push voted c.args.unit (take i xs) c.loop-write.made x w c.loop-write.invariant.placed refl (sym c.place_among.ensures ∙ c.in-Some.is)));
    }

pub returns-in_default-clause-none : goal.returns-in_default-clause-none
returns-in_default-clause-none c made are =
    let voted = map voted_by c.args.kept.now in
    let there = place_there voted c.args.unit c.args.writes.now made c.loop-write.write-index c.write-item.result are c.loop-write-test.true c.write-item.is in
    let found : c.place_among.result ≡ Some there.0 = c.place_among.ensures ∙ there.1 in
    absurd (c.in_default.not-Some there.0 found)
