use Rattle.std.proofs.Common.{◌≡◌, ◌<◌, ◌^◌, false, is_ok, length, sym, ◌∙◌, ap, subst}
use Rattle.std.proofs.lemmas.Result.{err_from_is_err_and}
use Rattle.host_files.proofs.RepeatedCalls.{obeyed_same}
use Rattle.host_files.proofs.FileEnds.{ended_well, ended_ill, no_failure}
use Rattle.host_files.proofs.folder.Folder.length.Goals as goal

pub invariant_of-self-clause-ahead : goal.invariant_of-self-clause-ahead
invariant_of-self-clause-ahead g c = c.take_open.new.self.ahead

pub returns-in-Some-length_of-clause-ends : goal.returns-in-Some-length_of-clause-ends
returns-in-Some-length_of-clause-ends g c =
    ended_well _ _ _ _ _ c.in_ok-refuse_lost.ensures.believed
    (λ told. obeyed_same (g.S.SystemCalls.answered c.args.self.now.system) (g.S.SystemCalls.answered c.take_open.new.self.system) (ap g.S.SystemCalls.answered c.take_open.ensures.system))

pub measure-requires-clause-calm : goal.measure-requires-clause-calm
measure-requires-clause-calm g c = λ told.
    subst (λ (s : _). (g.S.SystemCalls.state s).is_doubtful c.args.asked.file ≡ false) (sym c.take_open.ensures.system) (c.requires.asked.calm told c.in_ok-refuse_lost.ensures.believed)

pub returns-in_err-refuse_lost-clause-ends : goal.returns-in_err-refuse_lost-clause-ends
returns-in_err-refuse_lost-clause-ends g c =
    let p = err_from_is_err_and c.from_residual.result c.from_residual.ensures.1 in
    ended_ill _ _ _ _ _ _ (ap is_ok p.1) (λ told well un. no_failure _ _ (c.refuse_lost.ensures.calm un.0.believed) c.in_err-refuse_lost.was)

pub returns-in_err-length-clause-ends : goal.returns-in_err-length-clause-ends
returns-in_err-length-clause-ends g c =
    let p = err_from_is_err_and c.from_residual-in_err-length.result c.from_residual-in_err-length.ensures.1 in
    let same = c.take_open.ensures.system in
    ended_ill _ _ _ _ _ _ (ap is_ok p.1) (λ told well un.
    let unrefused = well.unrefused ∙ sym (ap (λ (s : _). (g.S.SystemCalls.answered s).refusals) same) in
    let short = subst (λ (s : _). length ((g.S.SystemCalls.state s).world.disk c.args.asked.file).seen < 2 ^ 63) (sym same) un.1 in
    no_failure _ _ (c.measure.ensures.fine told unrefused un.0.regular short) c.in_err-length.was)
