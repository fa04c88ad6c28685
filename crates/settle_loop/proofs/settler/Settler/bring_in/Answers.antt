use Rattle.std.proofs.Common.{inl, refl, subst}
use Rattle.std.specs.Prelude.{Ok, Err, None, Option, Result}
use Rattle.base_types.specs.declared.stores.Version.{Version}
use Rattle.host_trait.specs.declared.channels.FileId.{FileId}
use Rattle.host_trait.specs.declared.channels.FileId.TheVariants.{Grain}
use Rattle.grain_log.specs.declared.faults.VersionFault.{VersionFault}
use Rattle.batch_disk.specs.LastVersions.{ReadsLast}
use Rattle.settle_loop.specs.StepParts.{IsMadeOfFault}
use Rattle.settle_loop.proofs.HostAnswers.{load_made, cant_bring, fault_made, none_made}
use Rattle.settle_loop.proofs.settler.Settler.bring_in.Goals as goal

-- it wasn't read
pub returns-in-Err-clause-made : goal.returns-in-Err-clause-made
returns-in-Err-clause-made g c = λ w s is.
    let a = c.args.self.now in
    let h0 = c.args.host.now in
    let h1 = c.last_version.new.host in
    let reads : ReadsLast g.H.Host.tells g.H.Host.world g.H.Host.faults a.writer.slot c.args.shape.now c.args.grain a.writer h0 h1 (Err c.in-Err.fault) =
    subst (λ (x : Result (Option Version) VersionFault). ReadsLast g.H.Host.tells g.H.Host.world g.H.Host.faults a.writer.slot c.args.shape.now c.args.grain a.writer h0 h1 x) c.in-Err.is (c.last_version.ensures.reads c.args.shape.now) in
    fault_made g.H.Host.tells g.H.Host.world g.H.Host.faults c.args.shape.now w s a h0 h1 c.in-Err.fault
    (cant_bring g.H.Host.tells g.H.Host.world g.H.Host.faults c.args.shape.now w s a h0 h1 c.args.grain is c.last_version.ensures.asked c.in-Err.fault reads)
    c.unread.result (subst (λ (n : FileId). IsMadeOfFault n c.in-Err.fault c.unread.result) (λ i. Grain (c.slot.ensures i) c.args.grain) c.unread.ensures)

-- there was no memory for its type's initial fields
pub returns-in_err-unit-clause-made : goal.returns-in_err-unit-clause-made
returns-in_err-unit-clause-made g c = λ w s is.
    let a = c.args.self.now in
    let h0 = c.args.host.now in
    let h1 = c.last_version.new.host in
    let none : ReadsLast g.H.Host.tells g.H.Host.world g.H.Host.faults a.writer.slot c.args.shape.now c.args.grain a.writer h0 h1 (Ok None) =
    subst (λ (x : Option Version). ReadsLast g.H.Host.tells g.H.Host.world g.H.Host.faults a.writer.slot c.args.shape.now c.args.grain a.writer h0 h1 (Ok x)) c.in_err-unit.ensures.lacked (c.in-Ok.ensures.reads c.args.shape.now) in
    none_made g.H.Host.tells g.H.Host.world g.H.Host.faults c.args.shape.now w s a a h0 h1 c.from_residual.result c.from_residual.ensures.0 (inl (none.1, refl))

-- it was read
pub returns-clause-made : goal.returns-clause-made
returns-clause-made g c = λ w s is.
    let v = c.in_ok-unit.field-0 in
    load_made g.H.Host.tells g.H.Host.world g.H.Host.faults c.args.shape.now w s c.args.self.now c.args.host.now c.last_version.new.host c.args.grain is c.last_version.ensures.asked
    c.in-Ok.read v.unit v.state (c.in-Ok.ensures.reads c.args.shape.now) c.in_ok-unit.ensures.loaded
