use Rattle.std.proofs.Common.{inl, false, true, refl, sym, ap, ◌∙◌}
use Rattle.core_model.specs.declared.events.CoreEvent.TheVariants as event
use Rattle.settle_loop.specs.ShownWork.{event_of}
use Rattle.settle_loop.specs.HostSteps.{SealsUnits}
use Rattle.settle_loop.specs.declared.settler.Settler.{Settler}
use Rattle.core_model.specs.Settler.{settler_step}
use Rattle.settle_loop.proofs.HostAnswers.{seal_made, doubt_made, none_made}
use Rattle.settle_loop.proofs.settler.Settler.seal.Goals as goal

pub returns-then-in_doubt-clause-made : goal.returns-then-in_doubt-clause-made
returns-then-in_doubt-clause-made g c = λ shape w shown.
    let a = c.args.self.now in
    let h = c.args.host.now in
    doubt_made g.H.Host.tells g.H.Host.world g.H.Host.faults shape w a a h h refl c.args.batch c.args.effects shown (sym c.in_doubt.ensures ∙ c.if-in_doubt.true) refl refl

pub returns-in_err-made-clause-made : goal.returns-in_err-made-clause-made
returns-in_err-made-clause-made g c = λ shape w shown.
    let a = c.args.self.now in
    let h = c.args.host.now in
    none_made g.H.Host.tells g.H.Host.world g.H.Host.faults shape w (settler_step w) a a h h c.from_residual.result c.from_residual.ensures.0 (inl (refl, refl))

pub returns-in-Sealed-clause-made : goal.returns-in-Sealed-clause-made
returns-in-Sealed-clause-made g c = λ shape w shown.
    let a = c.args.self.now in
    let b : Settler = record { alloc = a.alloc; writer = c.seal.new.self; quiet = a.quiet; written = a.written; doubted = a.doubted } in
    let seals : SealsUnits g.H.Host.tells g.H.Host.world g.H.Host.faults a.writer.slot c.args.batch (event_of c.args.batch c.seal.result) c.args.effects a.writer b.writer c.args.host.now c.seal.new.host = record {
      sure = sym c.in_doubt.ensures ∙ c.if-in_doubt.false;
      answer = c.seal.result;
      event = refl;
      work = c.in_ok-made.made;
      records = c.in_ok-made.ensures.records;
      sealable = c.in_ok-made.ensures.sealable;
      leaves = c.seal.ensures.seals;
    } in
    seal_made g.H.Host.tells g.H.Host.world g.H.Host.faults shape w a b c.args.host.now c.seal.new.host refl c.args.batch c.args.effects c.seal.result (event.Sealed c.args.batch) false (ap (event_of c.args.batch) (sym c.in-Sealed.is)) refl shown seals

pub returns-in-NotSealed-clause-made : goal.returns-in-NotSealed-clause-made
returns-in-NotSealed-clause-made g c = λ shape w shown.
    let a = c.args.self.now in
    let b : Settler = record { alloc = a.alloc; writer = c.seal.new.self; quiet = a.quiet; written = a.written; doubted = a.doubted } in
    let seals : SealsUnits g.H.Host.tells g.H.Host.world g.H.Host.faults a.writer.slot c.args.batch (event_of c.args.batch c.seal.result) c.args.effects a.writer b.writer c.args.host.now c.seal.new.host = record {
      sure = sym c.in_doubt.ensures ∙ c.if-in_doubt.false;
      answer = c.seal.result;
      event = refl;
      work = c.in_ok-made.made;
      records = c.in_ok-made.ensures.records;
      sealable = c.in_ok-made.ensures.sealable;
      leaves = c.seal.ensures.seals;
    } in
    seal_made g.H.Host.tells g.H.Host.world g.H.Host.faults shape w a b c.args.host.now c.seal.new.host refl c.args.batch c.args.effects c.seal.result (event.NotSealed c.args.batch) false (ap (event_of c.args.batch) (sym c.in-NotSealed.is)) refl shown seals

pub returns-in-InDoubt-clause-made : goal.returns-in-InDoubt-clause-made
returns-in-InDoubt-clause-made g c = λ shape w shown.
    let a = c.args.self.now in
    let b : Settler = record { alloc = a.alloc; writer = c.seal.new.self; quiet = a.quiet; written = a.written; doubted = a.doubted } in
    let seals : SealsUnits g.H.Host.tells g.H.Host.world g.H.Host.faults a.writer.slot c.args.batch (event_of c.args.batch c.seal.result) c.args.effects a.writer b.writer c.args.host.now c.seal.new.host = record {
      sure = sym c.in_doubt.ensures ∙ c.if-in_doubt.false;
      answer = c.seal.result;
      event = refl;
      work = c.in_ok-made.made;
      records = c.in_ok-made.ensures.records;
      sealable = c.in_ok-made.ensures.sealable;
      leaves = c.seal.ensures.seals;
    } in
    seal_made g.H.Host.tells g.H.Host.world g.H.Host.faults shape w a b c.args.host.now c.seal.new.host refl c.args.batch c.args.effects c.seal.result (event.Doubt c.args.batch) true (ap (event_of c.args.batch) (sym c.in-InDoubt.is)) refl shown seals
