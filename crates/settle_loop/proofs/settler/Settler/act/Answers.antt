use Rattle.std.proofs.Common.{refl, sym, subst}
use Rattle.core_model.specs.Settler.{settler_step}
use Rattle.batch_disk.specs.Writers.{FitsDisk}
use Rattle.core_model.specs.declared.questions.SettlerWork.{SettlerWork}
use Rattle.settle_loop.specs.ShownWork.{ShowsWork}
use Rattle.settle_loop.proofs.HostAnswers.{decide_made, learn_made, take_made}
use Rattle.settle_loop.proofs.settler.Settler.act.Goals as goal

pub returns-in-Vote-clause-made : goal.returns-in-Vote-clause-made
returns-in-Vote-clause-made g c = λ w shown. c.vote.ensures.made c.args.shape.now w (subst (λ (x : SettlerWork). ShowsWork w (settler_step w) x) c.in-Vote.is shown)

pub returns-in-Decide-clause-made : goal.returns-in-Decide-clause-made
returns-in-Decide-clause-made g c = λ w shown.
    let a = c.args.self.now in
    let h = c.args.host.now in
    decide_made g.H.Host.tells g.H.Host.world g.H.Host.faults c.args.shape.now w a a h h refl refl refl c.in-Decide.batch (subst (λ (x : SettlerWork). ShowsWork w (settler_step w) x) c.in-Decide.is shown)

pub returns-in-Seal-clause-made : goal.returns-in-Seal-clause-made
returns-in-Seal-clause-made g c = λ w shown. c.seal.ensures.made c.args.shape.now w (subst (λ (x : SettlerWork). ShowsWork w (settler_step w) x) c.in-Seal.is shown)

pub returns-in-Learn-clause-made : goal.returns-in-Learn-clause-made
returns-in-Learn-clause-made g c = λ w shown.
    let a = c.args.self.now in
    let h = c.args.host.now in
    learn_made g.H.Host.tells g.H.Host.world g.H.Host.faults c.args.shape.now w a a h h refl refl refl c.in-Learn.unit c.in-Learn.grain (subst (λ (x : SettlerWork). ShowsWork w (settler_step w) x) c.in-Learn.is shown)

pub returns-in-Write-clause-made : goal.returns-in-Write-clause-made
returns-in-Write-clause-made g c = λ w shown. c.write.ensures.made w (subst (λ (x : SettlerWork). ShowsWork w (settler_step w) x) c.in-Write.is shown)

pub returns-in-Take-clause-made : goal.returns-in-Take-clause-made
returns-in-Take-clause-made g c = λ w shown.
    let a = c.args.self.now in
    let h = c.args.host.now in
    take_made g.H.Host.tells g.H.Host.world g.H.Host.faults c.args.shape.now w a a h h refl refl refl (subst (λ (x : SettlerWork). ShowsWork w (settler_step w) x) c.in-Take.is shown)

pub returns-in-Nothing-clause-made : goal.returns-in-Nothing-clause-made
returns-in-Nothing-clause-made g c = λ w shown. (subst (λ (x : SettlerWork). ShowsWork w (settler_step w) x) c.in-Nothing.is shown, (refl, refl))

pub returns-in-Load-clause-made : goal.returns-in-Load-clause-made
returns-in-Load-clause-made g c = λ w shown. c.bring_in.ensures.made w (settler_step w) (subst (λ (x : SettlerWork). ShowsWork w (settler_step w) x) c.in-Load.is shown)

pub returns-in-Load-clause-safe : goal.returns-in-Load-clause-safe
returns-in-Load-clause-safe g c = record {
  safe = record {
    bounds = c.requires.safe.bounds;
    fits = λ told. subst (FitsDisk c.args.self.now.writer) (sym (c.bring_in.ensures.asked told).disk) (c.requires.safe.fits told);
  };
  ready = c.bring_in.ensures.ready;
}

pub returns-in-Write-clause-safe : goal.returns-in-Write-clause-safe
returns-in-Write-clause-safe g c = record {
  safe = record {
    bounds = c.requires.safe.bounds;
    fits = λ told. subst (FitsDisk c.args.self.now.writer) (sym (c.write.ensures.disk told)) (c.requires.safe.fits told);
  };
  ready = c.write.ensures.ready;
}
