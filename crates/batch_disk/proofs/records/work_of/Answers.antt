use Rattle.std.proofs.Common.{rules, ◌≡◌, ◌≤◌, ◌<◌, List, length, map, sym, ◌∙◌, subst, arith}
use Rattle.std.specs.List.{AllByRecursion}
use Rattle.commit_log.specs.declared.records.CommitRecord.{CommitRecord}
use Rattle.commit_log.specs.EncodableRecords.{MaySpell}
use Rattle.batch_disk.specs.Writers.{voted_by}
use Rattle.batch_disk.specs.Records.{AreRecordsFor}
use Rattle.batch_disk.proofs.BatchRecords.{one_records}
use Rattle.batch_disk.proofs.records.work_of.Goals as goal

pub returns-then-len-gt64-clause-unlawful : goal.returns-then-len-gt64-clause-unlawful
returns-then-len-gt64-clause-unlawful c is records are few spells =
    let voted = map voted_by c.args.kept.now in
    let made : AreRecordsFor voted c.args.effects c.in-Some.records = search rules in
    let same : c.in-Some.records ≡ records = one_records voted c.args.effects c.in-Some.records records made are in
    let long : 64 < length c.in-Some.records = search rules in
    let most : length c.in-Some.records ≤ 64 = subst (λ (l : List CommitRecord). length l ≤ 64) (sym same) few in
    omega (arith, long, most)

pub returns-then-not-all_may_spell-clause-unlawful : goal.returns-then-not-all_may_spell-clause-unlawful
returns-then-not-all_may_spell-clause-unlawful c is records are few spells =
    let voted = map voted_by c.args.kept.now in
    let made : AreRecordsFor voted c.args.effects c.in-Some.records = search rules in
    let same : c.in-Some.records ≡ records = one_records voted c.args.effects c.in-Some.records records made are in
    let shown : c.as_slice.result.now ≡ c.in-Some.records = search rules in
    let all : AllByRecursion MaySpell c.as_slice.result.now = subst (λ (l : List CommitRecord). AllByRecursion MaySpell l) (sym (shown ∙ same)) spells in
    let yes = c.if-not-all_may_spell.ensures.no all in
    let no = c.if-not-all_may_spell.true in
    absurd cc
