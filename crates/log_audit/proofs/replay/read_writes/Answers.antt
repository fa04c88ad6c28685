use Rattle.std.proofs.Common.{rules, ◌≡◌, ◌+◌, ◌++◌, ◌∷◌, [], List, drop, get_or, Some, Ok, Err, refl, sym, ◌∙◌, ap, subst}
use Rattle.std.proofs.lemmas.Result.{err_from_is_err_and}
use Rattle.base_types.specs.declared.calls.GrainId.{GrainId}
use Rattle.base_types.specs.declared.calls.Value.{Value}
use Rattle.host_trait.specs.World.{Disk}
use Rattle.host_trait.proofs.Runs.{asked_then}
use Rattle.host_trait.proofs.Counts.{none_then}
use Rattle.field_codec.specs.declared.formats.Format.TheVariants.{Two}
use Rattle.commit_log.specs.declared.records.Written.{Written}
use Rattle.log_reading.specs.Steps.{seen_in}
use Rattle.log_reading.specs.Versions.{version_named}
use Rattle.log_reading.proofs.RecordSums.{next_default, no_item}
use Rattle.log_audit.specs.CarriedStores.{AreOfProgram}
use Rattle.log_audit.proofs.CarriedStores.{version_fits, fits_more}
use Rattle.log_audit.proofs.Versions.{named_as, states_at, version_more, versions_all, version_fault, in_seam}
use Rattle.log_audit.proofs.RereadFaults.{read_then}
use Rattle.log_audit.proofs.replay.read_writes.Goals as goal

abbrev no_write : Written
no_write = record { grain = record { kind = 0; key = 0 }; place = record { offset = 0; len = 0 } }

pub loop-one-init : goal.loop-one-init
loop-one-init g c = record {
  writes = λ told. ap (λ (l : List (GrainId × List Value)). l ++ states_at c.args.slot c.args.shape.now (seen_in (g.H.Host.world c.args.host.now).disk) c.args.entry.now.unit c.as_slice-writes.result.now) c.new-kept.ensures.items ∙ ap (λ (l : List Written). states_at c.args.slot c.args.shape.now (seen_in (g.H.Host.world c.args.host.now).disk) c.args.entry.now.unit l) c.as_slice-writes.ensures;
  fits = λ types is. subst (AreOfProgram types) (sym c.new-kept.ensures.items) tt;
  asked = search rules;
  calm = λ channel. refl;
  ready = λ file was. was;
}

pub returns-in_err-version-clause-unread : goal.returns-in_err-version-clause-unread
returns-in_err-version-clause-unread g c =
    let p = err_from_is_err_and c.from_residual.result c.from_residual.ensures.1 in
    let inv = c.loop-one.invariant in
    let shape = c.args.shape.now in
    let r = c.args.entry.now in
    let image = seen_in (g.H.Host.world c.args.host.now).disk in
    let i = c.loop-one.one-index in
    let xs = c.as_slice-writes.result.now in
    let x : Written = get_or xs i no_write in
    rw (p.1, p.2) λ told.
    version_fault c.args.slot shape image (Some r.unit) r.writes x (in_seam xs i no_write r.writes c.loop-one-test.true c.as_slice-writes.ensures) c.in_err-version.field-0.0
    (λ at place is. subst (λ (d : Disk). version_named c.args.slot Two shape (seen_in d) (named_as r.unit x) ≡ Err place) (inv.asked told).disk (c.in_err-version.ensures.damaged at place is told))
    (λ at is. c.in_err-version.ensures.failed at is)

pub returns-in_err-version-clause-calls : goal.returns-in_err-version-clause-calls
returns-in_err-version-clause-calls g c =
    let p = err_from_is_err_and c.from_residual.result c.from_residual.ensures.1 in
    let inv = c.loop-one.invariant in
    rw (p.1, p.2) record {
      ready = λ file was. c.named_version.ensures.calls.ready file (inv.ready file was);
      calm = tt;
      fault = read_then _ _ _ c.in_err-version.field-0.0 inv.calm c.in_err-version.ensures.calls.fault;
    }

pub returns-in_err-push-clause-calls : goal.returns-in_err-push-clause-calls
returns-in_err-push-clause-calls g c =
    let p = err_from_is_err_and c.from_residual-in_err-push.result c.from_residual-in_err-push.ensures.1 in
    let inv = c.loop-one.invariant in
    rw (p.1, p.2) record {
      ready = λ file was. c.named_version.ensures.calls.ready file (inv.ready file was);
      calm = tt;
      fault = none_then _ _ _ inv.calm c.in_ok-version.ensures.calls.calm;
    }

pub returns-in_err-version-clause-asked : goal.returns-in_err-version-clause-asked
returns-in_err-version-clause-asked g c told = asked_then _ _ _ (c.loop-one.invariant.asked told) (c.named_version.ensures.asked told)

pub returns-in_err-push-clause-asked : goal.returns-in_err-push-clause-asked
returns-in_err-push-clause-asked g c told = asked_then _ _ _ (c.loop-one.invariant.asked told) (c.named_version.ensures.asked told)

pub loop-one-preserved : goal.loop-one-preserved
loop-one-preserved g c =
    let inv = c.loop-one.invariant in
    let shape = c.args.shape.now in
    let r = c.args.entry.now in
    let image = seen_in (g.H.Host.world c.args.host.now).disk in
    let i = c.loop-one.one-index in
    let xs = c.as_slice-writes.result.now in
    let x : Written = get_or xs i no_write in
    let v = c.in_ok-version.version in
    let pushed : c.push.new.self.items ≡ c.loop-one.kept.items ++ ((x.grain, v.state) ∷ []) = search rules in
    record {
      writes = λ told.
          let found = subst (λ (d : Disk). version_named c.args.slot Two shape (seen_in d) (named_as r.unit x) ≡ Ok v) (inv.asked told).disk (c.in_ok-version.ensures.found told) in
          version_more c.args.slot shape image r.unit x (drop (i + 1) xs) (drop i xs) v _ _ _ (next_default i xs no_write c.loop-one-test.true) pushed found (inv.writes told);
      fits = λ types is. fits_more types c.loop-one.kept.items _ x.grain v.state pushed (version_fits types shape x.grain Two x.place.len v is c.in_ok-version.ensures.shaped) (inv.fits types is);
      asked = λ told. asked_then _ _ _ (inv.asked told) (c.named_version.ensures.asked told);
      calm = none_then _ _ _ inv.calm c.in_ok-version.ensures.calls.calm;
      ready = λ file was. c.named_version.ensures.calls.ready file (inv.ready file was);
    }

pub returns-clause-writes : goal.returns-clause-writes
returns-clause-writes g c told =
    versions_all c.args.slot c.args.shape.now (seen_in (g.H.Host.world c.args.host.now).disk) c.args.entry.now.unit (drop c.loop-one.one-index c.as_slice-writes.result.now) _ _
    (no_item c.loop-one.one-index c.as_slice-writes.result.now c.loop-one-test.false) (c.loop-one.invariant.writes told)
