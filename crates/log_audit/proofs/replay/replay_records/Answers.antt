use Rattle.std.proofs.Common.{rules, ◌≡◌, ◌+◌, ◌++◌, ◌∷◌, inl, inr, List, Some, true, false, take, drop, take-append-drop, refl, sym, ◌∙◌, ap, subst}
use Rattle.std.specs.Prelude.{is_some}
use Rattle.std.proofs.lemmas.Result.{err_from_is_err_and}
use Rattle.host_trait.specs.World.{Disk}
use Rattle.host_trait.proofs.Runs.{asked_then}
use Rattle.host_trait.proofs.Counts.{none_then}
use Rattle.field_codec.specs.declared.formats.Format.TheVariants.{Two}
use Rattle.commit_log.specs.declared.records.CommitRecord.{CommitRecord}
use Rattle.log_reading.specs.Steps.{seen_in}
use Rattle.log_reading.proofs.RecordSums.{next_item, no_item}
use Rattle.log_audit.specs.InForce.{types_in_force}
use Rattle.promise_spec.specs.Entries.{Standing}
use Rattle.promise_spec.specs.Openings.{commit_of}
use Rattle.log_audit.specs.Replays.{ReplaysTo}
use Rattle.core_model.specs.CoreState.{Member}
use Rattle.promise_spec.proofs.Lists.{in_append}
use Rattle.log_audit.specs.RereadFaults.{IsWriteFault}
use Rattle.log_audit.proofs.Replays.{after, stays_typed, replayed_none, replayed_found, replayed_next, replayed_all}
use Rattle.log_audit.proofs.replay.replay_records.Goals as goal

pub loop-entry-init : goal.loop-entry-init
loop-entry-init g c = record {
  replays = λ told before program has. replayed_none _ _ _ before c.args.records.now _ has;
  fits = λ was. was;
  asked = search rules;
  calm = λ channel. refl;
  ready = λ file was. was;
}

pub returns-in_err-found-clause-unread : goal.returns-in_err-found-clause-unread
returns-in_err-found-clause-unread g c =
    let p = err_from_is_err_and c.from_residual.result c.from_residual.ensures.1 in
    let inv = c.loop-entry.invariant in
    let shape = c.args.now.now.shape in
    let image = seen_in (g.H.Host.world c.args.host.now).disk in
    let i = c.loop-entry.entry-index in
    let xs = c.args.records.now in
    let x = c.entry-item.result in
    let e = c.in_err-found.field-0.0 in
    rw (p.1, p.2) λ told.
    let here = subst (λ (d : Disk). IsWriteFault c.args.slot shape (seen_in d) (Some x.unit) x.writes e) (inv.asked told).disk (c.in_err-found.ensures.unread told) in
    let split : xs ≡ take i xs ++ (x ∷ drop (i + 1) xs) = sym (take-append-drop i xs) ∙ ap (λ (l : List CommitRecord). take i xs ++ l) (next_item i xs x c.loop-entry-test.true c.entry-item.is) in
    (x, subst (λ (l : List CommitRecord). Member x l) (sym split) (in_append x (take i xs) (x ∷ drop (i + 1) xs) (inr (inl refl))), here)

pub returns-in_err-found-clause-asked : goal.returns-in_err-found-clause-asked
returns-in_err-found-clause-asked g c told = asked_then _ _ _ (c.loop-entry.invariant.asked told) (c.replay.ensures.asked told)

pub returns-then-is_some-clause-replays : goal.returns-then-is_some-clause-replays
returns-then-is_some-clause-replays g c told before program has =
    let inv = c.loop-entry.invariant in
    let shape = c.args.now.now.shape in
    let i = c.loop-entry.entry-index in
    let xs = c.args.records.now in
    let x = c.entry-item.result in
    let found = c.in_ok-found.found in
    let some : is_some found ≡ true = sym c.is_some.ensures ∙ c.if-is_some.true in
    let image = seen_in (g.H.Host.world c.args.host.now).disk in
    let h = inv.replays told before program has in
    let now : Standing = after c.args.slot shape image before h.front in
    let here = stays_typed c.args.slot shape image before h.front (types_in_force c.args.now.now) program in
    let to = subst (λ (d : Disk). ReplaysTo now (commit_of Two c.args.slot shape (seen_in d) x) c.replay.new.store found) (inv.asked told).disk (c.in_ok-found.ensures.replays told now here h.has) in
    replayed_found _ _ _ before xs _ (drop (i + 1) xs) x _ _ found h (next_item i xs x c.loop-entry-test.true c.entry-item.is) some to

pub returns-then-is_some-clause-fits : goal.returns-then-is_some-clause-fits
returns-then-is_some-clause-fits g c was = c.in_ok-found.ensures.fits (c.loop-entry.invariant.fits was)

pub returns-then-is_some-clause-asked : goal.returns-then-is_some-clause-asked
returns-then-is_some-clause-asked g c told = asked_then _ _ _ (c.loop-entry.invariant.asked told) (c.replay.ensures.asked told)

pub loop-entry-preserved : goal.loop-entry-preserved
loop-entry-preserved g c =
    let inv = c.loop-entry.invariant in
    let shape = c.args.now.now.shape in
    let i = c.loop-entry.entry-index in
    let xs = c.args.records.now in
    let x = c.entry-item.result in
    let found = c.in_ok-found.found in
    let none : is_some found ≡ false = sym c.is_some.ensures ∙ c.if-is_some.false in
    record {
      replays = λ told before program has.
          let image = seen_in (g.H.Host.world c.args.host.now).disk in
          let h = inv.replays told before program has in
          let now : Standing = after c.args.slot shape image before h.front in
          let here = stays_typed c.args.slot shape image before h.front (types_in_force c.args.now.now) program in
          let to = subst (λ (d : Disk). ReplaysTo now (commit_of Two c.args.slot shape (seen_in d) x) c.replay.new.store found) (inv.asked told).disk (c.in_ok-found.ensures.replays told now here h.has) in
          replayed_next _ _ _ before xs _ (drop (i + 1) xs) x _ _ found h (next_item i xs x c.loop-entry-test.true c.entry-item.is) none to;
      fits = λ was. c.in_ok-found.ensures.fits (inv.fits was);
      asked = λ told. asked_then _ _ _ (inv.asked told) (c.replay.ensures.asked told);
      calm = none_then _ _ _ inv.calm c.in_ok-found.ensures.calls.calm;
      ready = λ file was. c.replay.ensures.calls.ready file (inv.ready file was);
    }

pub returns-clause-replays : goal.returns-clause-replays
returns-clause-replays g c told before program has =
    replayed_all _ _ _ before c.args.records.now _ _ (c.loop-entry.invariant.replays told before program has) (no_item c.loop-entry.entry-index c.args.records.now c.loop-entry-test.false)
