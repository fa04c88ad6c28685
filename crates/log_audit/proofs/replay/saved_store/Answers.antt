use Rattle.std.proofs.Common.{rules, ◌≡◌, ◌+◌, ◌||◌, IsTrue, List, None, is_some, fold, drop, get_or, Ok, Err, refl, sym, ◌∙◌, ap, subst}
use Rattle.std.proofs.lemmas.Result.{err_from_is_err_and}
use Rattle.base_types.specs.Stores.{state_in}
use Rattle.host_trait.specs.World.{Disk}
use Rattle.host_trait.proofs.Runs.{asked_then}
use Rattle.host_trait.proofs.Counts.{none_then}
use Rattle.field_codec.specs.declared.formats.Format.TheVariants.{Two}
use Rattle.commit_log.specs.declared.records.Written.{Written}
use Rattle.log_reading.specs.Steps.{seen_in}
use Rattle.log_reading.specs.Versions.{version_named}
use Rattle.log_reading.proofs.RecordSums.{next_default, no_item}
use Rattle.script_meaning.specs.Play.{found_in}
use Rattle.promise_spec.specs.Records.{States, put_state}
use Rattle.promise_spec.specs.Entries.{is_among}
use Rattle.log_audit.specs.Replays.{states_saved_at}
use Rattle.log_audit.proofs.CarriedStores.{none_fits, put_fits, version_fits}
use Rattle.log_audit.proofs.SavedStates.{held_more, states_more, held_none, states_none}
use Rattle.log_audit.proofs.Versions.{saved_as, version_fault, in_seam}
use Rattle.log_audit.proofs.replay.saved_store.Goals as goal

abbrev no_write : Written
no_write = record { grain = record { kind = 0; key = 0 }; place = record { offset = 0; len = 0 } }

pub loop-written-init : goal.loop-written-init
loop-written-init g c = record {
  held = λ told grain. held_none (states_saved_at c.args.slot c.args.shape.now (seen_in (g.H.Host.world c.args.host.now).disk) c.args.saved.now) c.new-store.result grain (c.new-store.ensures grain);
  states = λ told types. ap (λ (s : States). fold put_state s (states_saved_at c.args.slot c.args.shape.now (seen_in (g.H.Host.world c.args.host.now).disk) c.args.saved.now)) (states_none types c.new-store.result c.new-store.ensures);
  fits = λ types is. none_fits types c.new-store.result c.new-store.ensures;
  asked = search rules;
  calm = λ channel. refl;
  ready = λ file was. was;
}

pub returns-in_err-version-clause-unread : goal.returns-in_err-version-clause-unread
returns-in_err-version-clause-unread g c =
    let p = err_from_is_err_and c.from_residual.result c.from_residual.ensures.1 in
    let inv = c.loop-written.invariant in
    let shape = c.args.shape.now in
    let i = c.loop-written.written-index in
    let xs = c.args.saved.now in
    let x : Written = get_or xs i no_write in
    rw (p.1, p.2) λ told.
    version_fault c.args.slot shape (seen_in (g.H.Host.world c.args.host.now).disk) None xs x (in_seam xs i no_write xs c.loop-written-test.true refl) c.in_err-version.field-0.0
    (λ at place is. subst (λ (d : Disk). version_named c.args.slot Two shape (seen_in d) (saved_as x) ≡ Err place) (inv.asked told).disk (c.in_err-version.ensures.damaged at place is told))
    (λ at is. c.in_err-version.ensures.failed at is)

pub returns-in_err-version-clause-asked : goal.returns-in_err-version-clause-asked
returns-in_err-version-clause-asked g c told = asked_then _ _ _ (c.loop-written.invariant.asked told) (c.named_version.ensures.asked told)

pub returns-in_err-put-clause-asked : goal.returns-in_err-put-clause-asked
returns-in_err-put-clause-asked g c told = asked_then _ _ _ (c.loop-written.invariant.asked told) (c.named_version.ensures.asked told)

pub loop-written-preserved : goal.loop-written-preserved
loop-written-preserved g c =
    let inv = c.loop-written.invariant in
    let shape = c.args.shape.now in
    let image = seen_in (g.H.Host.world c.args.host.now).disk in
    let i = c.loop-written.written-index in
    let xs = c.args.saved.now in
    let x : Written = get_or xs i no_write in
    let v = c.in_ok-version.version in
    let found = λ (told : IsTrue g.H.Host.tells). subst (λ (d : Disk). version_named c.args.slot Two shape (seen_in d) (saved_as x) ≡ Ok v) (inv.asked told).disk (c.in_ok-version.ensures.found told) in
    record {
      held = λ told grain. held_more c.args.slot shape image x (drop (i + 1) xs) (drop i xs) v c.loop-written.store c.put.new.self (next_default i xs no_write c.loop-written-test.true) (found told) c.in_ok-put.ensures.ok grain _ (inv.held told grain);
      states = λ told types. states_more c.args.slot shape image x (drop (i + 1) xs) (drop i xs) v c.loop-written.store c.put.new.self (next_default i xs no_write c.loop-written-test.true) (found told) c.in_ok-put.ensures.ok types _ (inv.states told types);
      fits = λ types is. put_fits types c.loop-written.store c.put.new.self x.grain v.state c.in_ok-put.ensures.ok (version_fits types shape x.grain Two x.place.len v is c.in_ok-version.ensures.shaped) (inv.fits types is);
      asked = λ told. asked_then _ _ _ (inv.asked told) (c.named_version.ensures.asked told);
      calm = none_then _ _ _ inv.calm c.in_ok-version.ensures.calls.calm;
      ready = λ file was. c.named_version.ensures.calls.ready file (inv.ready file was);
    }

pub returns-clause-held : goal.returns-clause-held
returns-clause-held g c told grain =
    let left = no_item c.loop-written.written-index c.args.saved.now c.loop-written-test.false in
    sym (ap (λ (ws : List Written). is_among (states_saved_at c.args.slot c.args.shape.now (seen_in (g.H.Host.world c.args.host.now).disk) ws) grain || is_some (state_in c.loop-written.store grain)) left) ∙ c.loop-written.invariant.held told grain

pub returns-clause-states : goal.returns-clause-states
returns-clause-states g c told types =
    let left = no_item c.loop-written.written-index c.args.saved.now c.loop-written-test.false in
    sym (ap (λ (ws : List Written). fold put_state (found_in types c.loop-written.store) (states_saved_at c.args.slot c.args.shape.now (seen_in (g.H.Host.world c.args.host.now).disk) ws)) left) ∙ c.loop-written.invariant.states told types
