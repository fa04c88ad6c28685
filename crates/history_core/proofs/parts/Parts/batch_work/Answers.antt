use Rattle.std.proofs.Common.{◌≡◌, ◌∙◌, sym, ap, Some, None, true, false, is_none, slice_get, List}
use Rattle.core_model.specs.Tests.{is_bad, is_good}
use Rattle.core_model.specs.declared.questions.SettlerWork.TheVariants as work
use Rattle.unit_table.specs.Table.{verdict_in}
use Rattle.open_batch.specs.declared.members.FinishedUnit.{FinishedUnit}
use Rattle.open_batch.specs.Members.{versions_by, to_commit_by}
use Rattle.history_core.proofs.QuestionAnswers.{seal-work, decide-work, vote-work}
use Rattle.history_core.proofs.parts.Parts.batch_work.Goals as goal

pub returns-then-not-is_open : goal.returns-then-not-is_open
returns-then-not-is_open c = λ w s r.
    let p = c.args.self.now in
    let closed : is_none c.args.batch.now.decisions ≡ false = sym c.is_open.ensures ∙ c.if-not-is_open.true in
    let effects = c.in_ok-effects.ensures ∙ ap (λ (ms : List FinishedUnit). to_commit_by (λ u. is_good (verdict_in p.units u)) ms) c.members.ensures in
    (λ i. work.Seal (c.number-number.ensures i) (effects i)) ∙ seal-work p w c.args.batch.now s c.requires.open closed

pub returns-in-None : goal.returns-in-None
returns-in-None c = λ w s r.
    let p = c.args.self.now in
    let open_now : is_none c.args.batch.now.decisions ≡ true = sym c.is_open.ensures ∙ c.if-not-is_open.false in
    let none : slice_get c.args.batch.now.unvoted 0 ≡ None = sym c.next_unvoted.ensures ∙ c.in-None.is in
    ap work.Decide c.number-number.ensures ∙ decide-work p w c.args.batch.now s c.requires.open open_now none

pub returns-in_ok-versions-in-Some : goal.returns-in_ok-versions-in-Some
returns-in_ok-versions-in-Some c = λ w s r.
    let p = c.args.self.now in
    let g = c.in-Some.grain in
    let open_now : is_none c.args.batch.now.decisions ≡ true = sym c.is_open.ensures ∙ c.if-not-is_open.false in
    let some : slice_get c.args.batch.now.unvoted 0 ≡ Some g = sym c.next_unvoted.ensures ∙ c.in-Some.is in
    let versions = c.in_ok-versions-in-Some.ensures ∙ ap (λ (ms : List FinishedUnit). versions_by (λ u. is_bad (verdict_in p.units u)) g ms) c.members-in-Some.ensures in
    (λ i. work.Vote (c.number-number.ensures i) g (versions i)) ∙ vote-work p w c.args.batch.now s c.requires.open g open_now some
