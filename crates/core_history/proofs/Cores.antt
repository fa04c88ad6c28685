-- What the core model's proofs know of a state after a legal run.
use Rattle.std.proofs.Common.{◌≡◌, ◌+◌, ◌<◌, List, [], ◌∷◌, Bool, true, false, ◌⊎◌, inl, inr, refl, sym, ap, ◌∙◌, subst, arith, Some, None}
use Rattle.std.proofs.lemmas.Bool.{cases_lt}
use Rattle.core_model.specs.declared.events.CoreEvent.{CoreEvent}
use Rattle.core_model.specs.declared.effects.Effect.{Effect}
use Rattle.core_model.specs.declared.phases.Phase.TheVariants.{Finished}
use Rattle.core_model.specs.declared.phases.Verdict.{Verdict}
use Rattle.core_model.specs.declared.phases.Verdict.TheVariants.{Open, Chosen, Condemned, Committed, Aborted}
use Rattle.cell_model.specs.declared.outcomes.Decision.{Decision}
use Rattle.core_model.specs.CoreState.{UnitNo, GrainId, Value, Write, Batch, CoreState, Member}
use Rattle.core_model.specs.Tests.{is_bad, is_final, members}
use Rattle.core_model.specs.SerialOrder.{IsTrueLoad, batch_begin}
use Rattle.core_model.specs.Changes.{seal, spoil, leave, verdict_of}
use Rattle.core_model.specs.Events.{step}
use Rattle.core_model.specs.LegalRuns.{Run, IsLegal, begins}
use Rattle.core_laws.proofs.KeptInvariant.{Kept, kept-step, inv-open, inv-judged, size-open}
use Rattle.core_laws.proofs.Dependencies.{Depends, depends-step}
use Rattle.core_laws.proofs.Batches.{Batched, batched-step}
use Rattle.core_laws.proofs.Reasons.{Argued, argued-step, Reason, Reasons}
use Rattle.core_laws.proofs.HeldLocks.{Tidy, tidy-step}
use Rattle.core_laws.proofs.CommitOrder.{Split, split-step}
use Rattle.core_laws.proofs.Verdicts.{Turned, turned-step}
use Rattle.core_laws.proofs.BatchPrefix.{Unheld, unheld-step}
use Rattle.core_laws.proofs.Ends.{kept-begins}
use Rattle.core_laws.proofs.Orders.{in_part, member-place}
use Rattle.core_history.proofs.BatchPlaces.{placed-member}
use Rattle.core_laws.proofs.LoadlessKept.{loadless-kept}
use Rattle.core_laws.proofs.Invariant.{loadless-of}

-- what the core model keeps along a legal run
pub record Core (opening : GrainId → List Value) (w : CoreState) : Type 0 where
  pub kept : Kept opening w
  pub depends : Depends w
  pub batched : Batched w
  pub argued : Argued w
  pub tidy : Tidy w
  pub split : Split w
  pub turned : Turned w
  pub unheld : Unheld w

-- an event keeps it
pub core-step : (opening : GrainId → List Value) (w : CoreState) (e : CoreEvent) → IsTrueLoad opening w e → Core opening w → Core opening (step w e)
core-step opening w e l c = record {
  kept = kept-step opening w e l c.kept;
  depends = depends-step opening w e l c.kept c.depends;
  batched = batched-step w e (loadless-kept opening w c.kept) c.batched;
  argued = argued-step opening w e c.kept c.depends c.argued;
  tidy = tidy-step w e (loadless-kept opening w c.kept) c.tidy;
  split = split-step w e (loadless-kept opening w c.kept) c.split;
  turned = turned-step w e (loadless-kept opening w c.kept) c.turned;
  unheld = unheld-step w e (loadless-kept opening w c.kept) c.unheld;
}

-- it holds where a run begins
pub core-begins : (plays : Effect → Bool) (r : Run) → IsLegal plays r → Core r.opening (begins r)
core-begins plays r l = record {
  kept = kept-begins plays r l;
  depends = ((λ u. tt), (λ u d n. absurd n));
  batched = ((λ b q. cc), (λ u f. cc), (λ u f. cc));
  argued = λ b ds q. cc;
  tidy = ((λ g. tt), (λ g. tt), (λ u r s m. absurd m), (λ u g wr. (let z = wr.1 in cc)));
  split = ((λ u f. cc), (λ u f. cc), omega arith);
  turned = ((λ u n. absurd (n refl)), (λ u f. cc));
  unheld = λ u f. cc;
}

-- who is to commit or is committed has finished
pub chosen-finished : (opening : GrainId → List Value) (w : CoreState) → Core opening w → (x : UnitNo) → w.manager.verdict x ≡ Chosen → w.units.phase x ≡ Finished
chosen-finished opening w c x q = elim (c.turned.0 x (λ z. (let t : Open ≡ Chosen = sym z ∙ q in cc))) [
  | inl f ↦ f
  | inr r ↦ (let t : Aborted ≡ Chosen = sym (c.turned.1 x r) ∙ q in cc)
]

-- where no batch is in doubt, who is to commit stands after the closed batches
chosen-late : (opening : GrainId → List Value) (w : CoreState) → Core opening w → w.manager.doubt ≡ None → (x : UnitNo) → w.manager.verdict x ≡ Chosen → w.manager.closed < w.manager.place x
chosen-late opening w c none x q = elim (cases_lt w.manager.closed (w.manager.place x)) [
  | inl lt ↦ lt
  | inr le ↦ (let f = c.split.0 x (chosen-finished opening w c x q) (omega (arith, le, ap (λ o. batch_begin o w.manager.closed) none)) in
      let t : true ≡ false = sym f ∙ ap is_final q in cc)
]

-- nobody is to commit while the open batch is undecided
pub chosen-undecided : (opening : GrainId → List Value) (w : CoreState) (b : Batch) → Core opening w → w.manager.doubt ≡ None → w.manager.batch ≡ Some b → b.decisions ≡ None → (x : UnitNo) → w.manager.verdict x ≡ Chosen → ⊥
chosen-undecided opening w b c none q d x v =
    let i = inv-open opening w b c.kept q d in
    let t : Open ≡ Chosen = sym (i.late x (chosen-finished opening w c x v) (chosen-late opening w c none x v)) ∙ v in cc

-- who is to commit stands in the open batch
pub chosen-member : (opening : GrainId → List Value) (w : CoreState) (b : Batch) (ds : List Decision) → Core opening w → w.manager.doubt ≡ None → w.manager.batch ≡ Some b → b.decisions ≡ Some ds → (x : UnitNo) → w.manager.verdict x ≡ Chosen → Member x (members w b)
chosen-member opening w b ds c none q d x v =
    let i = inv-judged opening w b ds c.kept q d in
    let f = chosen-finished opening w c x v in
    placed-member opening (w.manager.closed + b.size) w b i (size-open opening w b c.kept q) x f (chosen-late opening w c none x v)
    (elim (cases_lt (w.manager.closed + b.size) (w.manager.place x)) [
      | inl lt ↦ (let t : Open ≡ Chosen = sym (i.late x f lt) ∙ v in cc)
      | inr le ↦ le
    ])

-- the units of a decided open batch are judged, and not for good
pub member-judged : (opening : GrainId → List Value) (w : CoreState) (b : Batch) (ds : List Decision) → Core opening w → w.manager.batch ≡ Some b → b.decisions ≡ Some ds → (x : UnitNo) → Member x (members w b) →
    (w.manager.verdict x ≡ Open → ⊥) × (is_final (w.manager.verdict x) ≡ false)
member-judged opening w b ds c q d x m =
    let i = inv-judged opening w b ds c.kept q d in
    let p = member-place (w.manager.closed + b.size) w b (loadless-of opening _ w i) x m in
    let t = in_part (w.manager.closed + b.size) w (loadless-of opening _ w i) w.manager.closed b.size x m in
    (i.early x p.0 p.1, c.batched.1 x p.0 t.1)

pub spoil-aborted : (v : Verdict) → (v ≡ Open → ⊥) → is_final v ≡ false → spoil v ≡ Aborted
spoil-aborted Open n f = absurd (n refl)
spoil-aborted Chosen n f = refl
spoil-aborted Condemned n f = refl
spoil-aborted Committed n f = cc
spoil-aborted Aborted n f = refl

pub seal-bad : (v : Verdict) → is_bad (seal v) ≡ true → is_bad v ≡ true
seal-bad Open e = cc
seal-bad Chosen e = cc
seal-bad Condemned e = refl
seal-bad Committed e = cc
seal-bad Aborted e = refl

pub leave-bad : (v : Verdict) → is_bad (leave v) ≡ true → is_bad v ≡ true
leave-bad Open e = cc
leave-bad Chosen e = cc
leave-bad Condemned e = refl
leave-bad Committed e = cc
leave-bad Aborted e = refl

pub spoil-bad : (v : Verdict) → is_bad (spoil v) ≡ true → (is_bad v ≡ true) ⊎ (v ≡ Chosen)
spoil-bad Open e = cc
spoil-bad Chosen e = inr refl
spoil-bad Condemned e = inl refl
spoil-bad Committed e = cc
spoil-bad Aborted e = inl refl

pub seal-committed : (v : Verdict) → seal v ≡ Committed → (v ≡ Committed) ⊎ (v ≡ Chosen)
seal-committed Open e = cc
seal-committed Chosen e = inr refl
seal-committed Condemned e = cc
seal-committed Committed e = inl refl
seal-committed Aborted e = cc

pub spoil-committed : (v : Verdict) → spoil v ≡ Committed → v ≡ Committed
spoil-committed Open e = cc
spoil-committed Chosen e = cc
spoil-committed Condemned e = cc
spoil-committed Committed e = refl
spoil-committed Aborted e = cc

-- a unit's decision and its reason
pub reasons-at : (votes : List (GrainId × Bool)) (writes : UnitNo → List Write) (deps : UnitNo → List UnitNo) (verdict : UnitNo → Verdict) (us : List UnitNo) (ds : List Decision) (x : UnitNo) → Reasons votes writes deps verdict us ds → Member x us →
    (d : Decision) × Member d ds × (verdict x ≡ verdict_of d) × Reason votes (writes x) (deps x) verdict d
reasons-at votes writes deps verdict [] [] x r m = absurd m
reasons-at votes writes deps verdict [] (d ∷ ds) x r m = absurd m
reasons-at votes writes deps verdict (u ∷ us) [] x r m = absurd r
reasons-at votes writes deps verdict (u ∷ us) (d ∷ ds) x r (inl q) =
    subst (λ z. (c : Decision) × Member c (d ∷ ds) × (verdict z ≡ verdict_of c) × Reason votes (writes z) (deps z) verdict c) (sym q) (d, inl refl, r.0, r.1)
reasons-at votes writes deps verdict (u ∷ us) (d ∷ ds) x r (inr m) = (let t = reasons-at votes writes deps verdict us ds x r.2 m in (t.0, inr t.1, t.2, t.3))
