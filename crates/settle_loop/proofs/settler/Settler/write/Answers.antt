use Rattle.std.proofs.Common.{inl, ℕ, List, Bool, refl, sym, ap, subst, ◌∙◌}
use Rattle.std.specs.Prelude.{is_ok}
use Rattle.host_trait.specs.World.{IsEmitted}
use Rattle.settle_loop.specs.HostSteps.{HasLine}
use Rattle.core_model.specs.Settler.{settler_step}
use Rattle.settle_loop.proofs.HostAnswers.{write_made, none_made}
use Rattle.settle_loop.proofs.settler.Settler.write.Goals as goal

pub returns-then-self-clause-made : goal.returns-then-self-clause-made
returns-then-self-clause-made g c = λ w shown.
    let a = c.args.self.now in
    let h = c.args.host.now in
    write_made g.H.Host.tells g.H.Host.world g.H.Host.faults c.args.shape.now w a a h h refl c.args.entry.now shown
    (record {
      entry = c.args.entry.now;
      range = record { line = c.read_line.ensures; unit = c.read_unit.ensures; said = c.read_said.ensures };
      next = shown.1;
      line = subst (λ (q : Bool). HasLine g.H.Host.tells g.H.Host.world g.H.Host.faults q c.args.shape.now c.args.entry.now h h) (sym c.if-self.true) refl;
      writer = refl;
    })

pub returns-in_err-text-clause-made : goal.returns-in_err-text-clause-made
returns-in_err-text-clause-made g c = λ w shown.
    let a = c.args.self.now in
    let h = c.args.host.now in
    none_made g.H.Host.tells g.H.Host.world g.H.Host.faults c.args.shape.now w (settler_step w) a a h h c.from_residual.result c.from_residual.ensures.0 (inl (refl, refl))

pub returns-in-Ok-clause-made : goal.returns-in-Ok-clause-made
returns-in-Ok-clause-made g c = λ w shown.
    let a = c.args.self.now in
    let h0 = c.args.host.now in
    let h1 = c.emit.new.self in
    write_made g.H.Host.tells g.H.Host.world g.H.Host.faults c.args.shape.now w a a h0 h1 refl c.args.entry.now shown
    (record {
      entry = c.args.entry.now;
      range = record { line = c.read_line.ensures; unit = c.read_unit.ensures; said = c.read_said.ensures };
      next = shown.1;
      line = subst (λ (q : Bool). HasLine g.H.Host.tells g.H.Host.world g.H.Host.faults q c.args.shape.now c.args.entry.now h0 h1) (sym c.if-self.false)
          (c.emit.ensures.faults.calm (ap is_ok c.in-Ok.is), λ told. subst (λ (l : List ℕ). IsEmitted l (g.H.Host.world h0) (g.H.Host.world h1)) (c.as_slice.ensures ∙ c.in_ok-text.ensures) (c.in-Ok.ensures.ok told));
      writer = refl;
    })
