-- Checks that don't keep their promise, and one that does.
use Rattle.std.proofs.Common.{◌≡◌, ◌≢◌, inl, inr, ℕ, ◌-◌, ◌^◌, ◌<◌, List, [], ◌∷◌, ◌++◌, length, sym, ap, subst, ◌∙◌, arith}
use Rattle.std.proofs.lemmas.List.{append-nil, append_cancel_left}
use Rattle.host_trait.specs.declared.channels.Channel.TheVariants.{Output}
use Rattle.host_trait.specs.declared.channels.FileId.{FileId}
use Rattle.host_trait.specs.Faults.{Rose}
use Rattle.host_trait.specs.World.{World, Moment, moment_of}
use Rattle.two_silos.specs.GeneratedEvents.{checked}
use Rattle.two_silos.specs.Summaries.{summary_of, line_of}
use Rattle.promise_spec.specs.Endings as ending
use Rattle.promise_spec.specs.Courses.{Observed}
use Rattle.promise_spec.specs.Checks.{Checks}

module _ (n seed : ℕ) (r : Observed) where
  pub another_line : Checks n seed r → r.ending ≡ ending.Done → r.new.output ≢ r.old.output ++ line_of (summary_of n (checked n seed)) → ⊥
  another_line checks done other = other (checks.prints.output ∙ ap (λ (l : List ℕ). r.old.output ++ l) (checks.prints.whole done))

  pub printed_early : Checks n seed r → r.ending ≡ ending.Memory → r.new.output ≢ r.old.output → ⊥
  printed_early checks want more = more (ap (λ (w : World). w.output) (checks.starved want))

  pub read_input : Checks n seed r → r.new.input ≢ r.old.input → ⊥
  read_input checks read = read checks.unread

  pub asked_sync : Checks n seed r → r.new.syncs ≢ r.old.syncs → ⊥
  asked_sync checks synced = synced checks.syncs

  pub ended_otherwise : Checks n seed r → r.ending ≢ ending.Done → r.ending ≢ ending.Memory → r.ending ≢ ending.WriteFault → ⊥
  ended_otherwise checks undone some whole = elim checks.ending [
    | inl done ↦ undone done
    | inr other ↦ elim other [ inl want ↦ some want | inr fault ↦ whole fault ]
  ]

  pub uncounted_fault : Checks n seed r → r.ending ≡ ending.WriteFault → r.faults_before Output < 2 ^ 64 - 1 → r.faults_after Output ≡ r.faults_before Output → ⊥
  uncounted_fault checks is low same =
      let rose : Rose (r.faults_before Output) (r.faults_after Output) = (subst (λ (x : ending.Ending). ending.HasFailedAs x r.faults_before r.faults_after) is checks.failed).rose in
      omega (arith, rose, low, same)

pub changed_file : (n seed : ℕ) (r : Observed) (f : FileId) → Checks n seed r → r.new.disk f ≢ r.old.disk f → ⊥
changed_file n seed r f checks other = other (λ i. checks.files i f)

-- two moments are more than one or none
pub second_call : (n seed : ℕ) (r : Observed) (m k : Moment) (more : List Moment) → Checks n seed r → r.new.past ≡ r.old.past ++ (m ∷ k ∷ more) → ⊥
second_call n seed r m k more checks two = elim checks.once [
  | inl tick ↦ (
      let same : moment_of r.new ∷ [] ≡ m ∷ k ∷ more = append_cancel_left r.old.past (moment_of r.new ∷ []) (m ∷ k ∷ more) (sym tick ∙ two) in
      let long : 1 ≡ length (m ∷ k ∷ more) = ap (λ (l : List Moment). length l) same in
      absurd (omega (arith, long))
      )
  | inr none ↦ (
      let same : [] ≡ m ∷ k ∷ more = append_cancel_left r.old.past [] (m ∷ k ∷ more) (append-nil r.old.past ∙ sym none.0 ∙ two) in
      absurd (cc same)
      )
]
