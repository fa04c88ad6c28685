use Rattle.std.proofs.Common.{refl}
use Rattle.host_trait.specs.declared.channels.FileId.TheVariants.{Manager}
use Rattle.host_trait.proofs.Runs.{run_synced, asked_then}
use Rattle.checkpoint.specs.Steps.{Stays}
use Rattle.checkpoint.proofs.Runs.{only_run, looked, asked_once}
use Rattle.checkpoint.proofs.other_slot.is_shut.Goals as goal

pub returns-in_err-length-clause-run : goal.returns-in_err-length-clause-run
returns-in_err-length-clause-run g c told = looked (Manager c.args.slot) Stays 1 _ _ (λ d. refl) (asked_once _ _ (c.length.ensures.told told))

pub returns-then-length-eq0-clause-run : goal.returns-then-length-eq0-clause-run
returns-then-length-eq0-clause-run g c told = looked (Manager c.args.slot) Stays 1 _ _ (λ d. refl) (asked_once _ _ (c.length.ensures.told told))

pub returns-in_err-sync-clause-run : goal.returns-in_err-sync-clause-run
returns-in_err-sync-clause-run g c told =
    run_synced (Manager c.args.slot) Stays 0 _ _ _ (only_run (Manager c.args.slot) Stays _ _ (λ d. refl) (asked_once _ _ (c.length.ensures.told told))) _
    (c.sync.ensures.told told) (g.met.H.Host.seen_may_stay c.length.new.self (Manager c.args.slot) told)

pub returns-then-length-lt16-clause-run : goal.returns-then-length-lt16-clause-run
returns-then-length-lt16-clause-run g c told =
    run_synced (Manager c.args.slot) Stays 0 _ _ _ (only_run (Manager c.args.slot) Stays _ _ (λ d. refl) (asked_once _ _ (c.length.ensures.told told))) _
    (c.sync.ensures.told told) (g.met.H.Host.seen_may_stay c.length.new.self (Manager c.args.slot) told)

pub returns-in_err-gate-clause-run : goal.returns-in_err-gate-clause-run
returns-in_err-gate-clause-run g c told =
    looked (Manager c.args.slot) Stays 1 _ _ (λ d. refl) (asked_then _ _ _ (asked_once _ _ (c.length.ensures.told told)) (c.byte_at.ensures.asked told))

pub returns-clause-run : goal.returns-clause-run
returns-clause-run g c told =
    looked (Manager c.args.slot) Stays 1 _ _ (λ d. refl) (asked_then _ _ _ (asked_once _ _ (c.length.ensures.told told)) (c.byte_at.ensures.asked told))
