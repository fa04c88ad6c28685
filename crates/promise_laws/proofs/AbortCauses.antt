-- Each unit that ended aborted was aborted by an event, with its cause.
use Rattle.std.proofs.Common.{◌≡◌, ◌<◌, true, sym, ap, ◌∙◌, subst}
use Rattle.base_types.specs.declared.entries.Settled.{Settled}
use Rattle.core_model.specs.CoreState.{UnitNo, CoreState}
use Rattle.core_model.specs.declared.phases.Verdict.TheVariants.{Aborted}
use Rattle.core_model.specs.Events.{applies, step}
use Rattle.core_model.specs.SerialOrder.{AllLoadsTrue}
use Rattle.core_model.specs.LegalRuns.{Run, begins, ends}
use Rattle.core_model.specs.Causes.{HasCause}
use Rattle.core_laws.proofs.AbortCauses.{StoppedFrom, stops-ends}
use Rattle.promise_spec.specs.Causes.{IsAbortedFor, AreCaused}
use Rattle.promise_spec.specs.UnitRule.{Basis, KeepsUnitRule}
use Rattle.promise_laws.specs.Legality.{is_play, applied_run}
use Rattle.promise_laws.proofs.LegalRuns.{ends_alike, legal}
use Rattle.promise_laws.proofs.SerialCauses.{PutBack, put_back, explained_causes}

-- each unit that ended aborted was aborted by an event of the run, with its cause
aborts_have_causes : (s : Basis) (r : Run) → 0 < r.base → AllLoadsTrue r.opening (begins r) r.events → KeepsUnitRule s r
    → (u : UnitNo) → (ends r).manager.verdict u ≡ Aborted → (why : Settled) × IsAbortedFor r u why
aborts_have_causes s r above loads keeps u h =
    let c : StoppedFrom (begins r) (applied_run r).events u =
    stops-ends (is_play s.types) (applied_run r) (legal s r above loads keeps) u (ap (λ (w : CoreState). w.manager.verdict u) (ends_alike r) ∙ h) in
    let back : PutBack (begins r) r.events c.0 c.1.0 = put_back (begins r) r.events c.0 c.1.1.0 c.1.0 c.1.1.1 in (
      c.1.1.3.0,
      record {
        before = back.front;
        event = c.1.0;
        later = back.back;
        split = back.split;
        applied = subst (λ v. applies v c.1.0 ≡ true) (sym back.same) c.1.1.2;
        abort = c.1.1.3.1;
        cause = subst (λ v. HasCause v c.1.0 (step v c.1.0) u c.1.1.3.0) (sym back.same) c.1.1.3.2;
      },
    )

pub explained_aborts : (s : Basis) (r : Run) → 0 < r.base → AllLoadsTrue r.opening (begins r) r.events → KeepsUnitRule s r → AreCaused r
explained_aborts s r above loads keeps = record {
  entries = explained_causes s r above loads keeps;
  units = aborts_have_causes s r above loads keeps;
}
