use Rattle.std.proofs.Common.{inl, inr, refl}
use Rattle.settle_loop.specs.declared.settler.Settler.{Settler}
use Rattle.core_model.specs.Settler.{settler_step}
use Rattle.settle_loop.proofs.HostAnswers.{vote_made, vote_lacks, none_made}
use Rattle.settle_loop.proofs.settler.Settler.vote.Goals as goal

pub returns-clause-made : goal.returns-clause-made
returns-clause-made g c = λ shape w shown.
    let a = c.args.self.now in
    let b : Settler = record { alloc = a.alloc; writer = c.write_work.new.self; quiet = a.quiet; written = a.written; doubted = a.doubted } in
    vote_made g.H.Host.tells g.H.Host.world g.H.Host.faults shape w a b c.args.host.now c.write_work.new.host refl c.args.batch c.args.grain c.in_ok-kept.kept c.args.versions shown c.in_ok-kept.ensures.voted

pub returns-in_err-kept-clause-made : goal.returns-in_err-kept-clause-made
returns-in_err-kept-clause-made g c = λ shape w shown.
    let a = c.args.self.now in
    let b : Settler = record { alloc = a.alloc; writer = c.write_work.new.self; quiet = a.quiet; written = a.written; doubted = a.doubted } in
    let h = c.args.host.now in
    let h' = c.write_work.new.host in
    none_made g.H.Host.tells g.H.Host.world g.H.Host.faults shape w (settler_step w) a b h h' c.from_residual.result c.from_residual.ensures.0
    (inr (inl (vote_lacks g.H.Host.tells g.H.Host.world g.H.Host.faults shape w a b h h' refl c.args.batch c.args.grain c.args.versions shown c.in_err-kept.ensures.lacked)))
