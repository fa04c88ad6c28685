use Rattle.std.proofs.Common.{◌≡◌, ◌∙◌, sym, ap, subst, true, ◌&&◌, Some, is_none}
use Rattle.std.specs.Prelude.{◌==◌}
use Rattle.std.specs.List.{list_any as any}
use Rattle.std.proofs.lemmas.Bool.{and_parts}
use Rattle.cell_model.specs.Units.{same_grain}
use Rattle.open_batch.specs.TakenBatch.{TakenBatch, with_vote}
use Rattle.core_model.specs.declared.events.CoreEvent.TheVariants.{Vote}
use Rattle.core_model.specs.declared.events.CoreReply.TheVariants as reply
use Rattle.history_core.specs.declared.parts.Parts.{Parts}
use Rattle.history_core.specs.Batches.{may_vote_in}
use Rattle.history_core.specs.Steps.{Does}
use Rattle.history_core.proofs.Votes.{may-vote, stands-voted}
use Rattle.history_core.proofs.parts.Parts.vote.Goals as goal

pub vote-requires : goal.vote-requires
vote-requires c =
    let x : TakenBatch = c.in-Some.batch in
    let t = subst (λ o. may_vote_in o c.args.number c.args.grain ≡ true) c.in-Some.is (may-vote c.args.self.now c.args.number c.args.grain c.args.kept c.requires.can) in
    (and_parts (is_none x.decisions) (any (same_grain c.args.grain) x.unvoted) (and_parts (x.number == c.args.number) (is_none x.decisions && any (same_grain c.args.grain) x.unvoted) t).1).1

pub returns-clause-ok : goal.returns-clause-ok
returns-clause-ok c =
    let old = c.args.self.now in
    subst (λ y. Does old (Vote c.args.number c.args.grain c.args.kept) reply.Done (record old { batch = Some y })) (sym c.vote.ensures)
    (stands-voted old c.in-Some.batch c.args.number c.args.grain c.args.kept c.in-Some.is)
