use Rattle.std.proofs.Common.{length, sym, subst, is_ok, ap}
use Rattle.std.proofs.lemmas.Result.{err_from_is_err_and}
use Rattle.host_trait.specs.World.{World, Written}
use Rattle.host_files.proofs.Parts.{wrote_none, wrote_some}
use Rattle.host_files.proofs.FileEnds.{ended_ill, no_failure}
use Rattle.host_files.proofs.folder.Folder.write_at.Goals as goal

pub returns-in_err-refuse_lost-clause-told : goal.returns-in_err-refuse_lost-clause-told
returns-in_err-refuse_lost-clause-told g c told =
    let old = g.S.SystemCalls.state c.args.self.now.system in
    wrote_some 0 c.args.asked.file c.args.at c.args.bytes.now old old (c.requires.place told) (wrote_none c.args.asked.file c.args.at c.args.bytes.now old)

pub returns-in_err-refuse_lost-clause-ends : goal.returns-in_err-refuse_lost-clause-ends
returns-in_err-refuse_lost-clause-ends g c =
    let p = err_from_is_err_and c.from_residual.result c.from_residual.ensures.1 in
    ended_ill _ _ _ _ _ _ (ap is_ok p.1) (λ told well un. no_failure _ _ (c.refuse_lost.ensures.calm un.0.believed) c.in_err-refuse_lost.was)

pub returns-in_err-refuse_long-clause-told : goal.returns-in_err-refuse_long-clause-told
returns-in_err-refuse_long-clause-told g c told =
    let old = g.S.SystemCalls.state c.args.self.now.system in
    wrote_some 0 c.args.asked.file c.args.at c.args.bytes.now old old (c.requires.place told) (wrote_none c.args.asked.file c.args.at c.args.bytes.now old)

pub returns-in_err-refuse_long-clause-ends : goal.returns-in_err-refuse_long-clause-ends
returns-in_err-refuse_long-clause-ends g c =
    let p = err_from_is_err_and c.from_residual-in_err-refuse_long.result c.from_residual-in_err-refuse_long.ensures.1 in
    ended_ill _ _ _ _ _ _ (ap is_ok p.1) (λ told well un. no_failure _ _ (c.refuse_long.ensures.calm un.2) c.in_err-refuse_long.was)

pub returns-in_err-opened-clause-told : goal.returns-in_err-opened-clause-told
returns-in_err-opened-clause-told g c told =
    let old = g.S.SystemCalls.state c.args.self.now.system in
    subst (λ (w : World). Written c.args.asked.file c.args.at (length c.args.bytes.now) old.world w) (sym (c.take_writer.ensures.told told).world)
    (wrote_some 0 c.args.asked.file c.args.at c.args.bytes.now old old (c.requires.place told) (wrote_none c.args.asked.file c.args.at c.args.bytes.now old))

pub returns-in_err-opened-clause-ends : goal.returns-in_err-opened-clause-ends
returns-in_err-opened-clause-ends g c =
    let p = err_from_is_err_and c.from_residual-in_err-opened.result c.from_residual-in_err-opened.ensures.1 in
    ended_ill _ _ _ _ _ _ (ap is_ok p.1) (λ told well un. no_failure _ _ (c.take_writer.ensures.fine told well un.0 un.1) c.in_err-opened.was)

pub invariant_of-self-clause-keeps : goal.invariant_of-self-clause-keeps
invariant_of-self-clause-keeps g c = λ told.
    c.keep.ensures.stay g.S.SystemCalls.is_regular (c.take_writer.new.self.keeps told) (c.in_ok-opened.ensures.regular told)
