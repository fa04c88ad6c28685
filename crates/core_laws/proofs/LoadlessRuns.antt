-- After every list of events, whatever was loaded.
use Rattle.std.proofs.Common.{◌≡◌, ℕ, ◌+◌, ◌-◌, ◌<◌, ◌≤◌, length, get_or, true, ◌⊎◌, inl, inr, refl, sym, ap, ◌∙◌, subst, arith, Option, Some, None, length-drop}
use Rattle.std.proofs.lemmas.Bool.{cases_lt}
use Rattle.core_model.specs.CoreState.{UnitNo, nobody, Member, Batch, CoreState}
use Rattle.core_model.specs.declared.phases.Phase.TheVariants.{Finished}
use Rattle.core_model.specs.declared.phases.Verdict.{Verdict}
use Rattle.core_model.specs.declared.phases.Verdict.TheVariants.{Open, Chosen, Condemned, Committed, Aborted}
use Rattle.core_model.specs.Tests.{is_final, members, waiting}
use Rattle.core_model.specs.ToldOutcomes.{IsSteady, OnlyTheBatchIsJudged}
use Rattle.core_model.specs.Events.{batch_size}
use Rattle.core_model.specs.LegalRuns.{Run, begins, ends}
use Rattle.core_laws.proofs.Loadless.{LoadlessAt}
use Rattle.core_laws.proofs.Orders.{at_part, take_length, Member-get}
use Rattle.core_laws.proofs.KeptInvariant.{decided_size}
use Rattle.core_laws.proofs.Verdicts.{Turned}
use Rattle.core_model.specs.SerialOrder.{batch_begin}
use Rattle.core_model.specs.Consistency.{ClosedBatchesArePrefix}
use Rattle.core_model.specs.Laws.{IsLongestFreePrefix, NoLockIsHeldUntilCommit, ChildrenAreKnown, AnswersAreOutcomes}
use Rattle.std.proofs.Common.{false}
use Rattle.core_laws.proofs.CommitOrder.{Split, split-run}
use Rattle.core_laws.proofs.Batches.{Batched, batched-run}
use Rattle.core_laws.proofs.BatchPrefix.{longest, no-lock, size-within, unheld-run}
use Rattle.core_laws.proofs.Children.{kin-run, answered-run}
use Rattle.core_laws.proofs.Verdicts.{turned-run, first-run}
use Rattle.core_laws.proofs.LoadlessKept.{LoadlessKept, open-at, judged-at, size-at, loadless-begins, loadless-ends}

pub turned-ends : (r : Run) → 0 < r.base → Turned (ends r)
turned-ends r above = turned-run r.events (begins r) (loadless-begins r above) ((λ u n. absurd (n refl)), (λ u f. cc))

pub split-ends : (r : Run) → 0 < r.base → Split (ends r)
split-ends r above = split-run r.events (begins r) (loadless-begins r above) ((λ u f. cc), (λ u f. cc), omega arith)

pub batched-ends : (r : Run) → 0 < r.base → Batched (ends r)
batched-ends r above = batched-run r.events (begins r) (loadless-begins r above) ((λ b q. cc), (λ u f. cc), (λ u f. cc))

pub prefix-ends : (r : Run) → 0 < r.base → ClosedBatchesArePrefix (ends r)
prefix-ends r above =
    let k = loadless-ends r above in
    let b = batched-ends r above in
    record { order = record { listed = k.0.listed; placed = k.0.placed }; within = size-within (ends r) k; size = b.0; decided = (split-ends r above).0; in_doubt = b.2; undecided = b.1 }

-- a committed unit stands in a closed batch
pub committed-closed : (r : Run) → 0 < r.base → (u : UnitNo) → (ends r).manager.verdict u ≡ Committed → ((ends r).units.phase u ≡ Finished) × ((ends r).manager.place u ≤ (ends r).manager.closed)
committed-closed r above u c =
    let t = turned-ends r above in
    let f : (ends r).units.phase u ≡ Finished = elim (t.0 u (λ z. (let y : Open ≡ Committed = sym z ∙ c in cc))) [
      | inl f ↦ f
      | inr q ↦ (let y : Aborted ≡ Committed = sym (t.1 u q) ∙ c in cc)
    ] in (
      f,
      elim (cases_lt (ends r).manager.closed ((ends r).manager.place u)) [
        | inl lt ↦ (let y : true ≡ false = sym (ap is_final c) ∙ (batched-ends r above).1 u f lt in cc)
        | inr le ↦ le
      ],
    )

pub longest-ends : (r : Run) → 0 < r.base → IsLongestFreePrefix (ends r) (batch_size (ends r))
longest-ends r above = longest _ (ends r) (loadless-ends r above).0

pub no-lock-ends : (r : Run) → 0 < r.base → NoLockIsHeldUntilCommit (ends r)
no-lock-ends r above =
    no-lock (ends r) (loadless-ends r above)
    (unheld-run r.events (begins r) (loadless-begins r above) (λ u f. cc))
    (committed-closed r above)

pub answers-ends : (r : Run) → 0 < r.base → AnswersAreOutcomes (ends r)
answers-ends r above = answered-run r.events (begins r) (loadless-begins r above) (λ p o. elim o [ inl f ↦ cc | inr f ↦ cc ])

pub children-ends : (r : Run) → 0 < r.base → ChildrenAreKnown (ends r)
children-ends r above =
    let kin = kin-run r.events (begins r) (loadless-begins r above) ((λ c p i d born q. absurd (born refl)), (λ p i lt. absurd (omega arith)), (λ p c m. absurd m)) in
    record {
      listed = kin.0;
      origin = kin.1;
      younger = kin.2;
      first = first-run r.events (begins r) (loadless-begins r above) ((λ c p i d born q. absurd (born refl)), (λ p i lt. absurd (omega arith)), (λ p c m. absurd m)) (λ p o. elim o [ inl f ↦ cc | inr f ↦ cc ]) (λ p c m f. cc);
    }

-- who is decided has finished or was refused; unless a batch is in doubt, who stands in a closed batch is decided for good
abbrev pub Steady : CoreState → Type 0
Steady w = LoadlessKept w × Turned w × (w.manager.doubt ≡ None → (u : UnitNo) → w.units.phase u ≡ Finished → w.manager.place u ≤ w.manager.closed → is_final (w.manager.verdict u) ≡ true)

pub steady-ends : (r : Run) → 0 < r.base → Steady (ends r)
steady-ends r above = (
  loadless-ends r above,
  turned-ends r above,
  λ none u f le. (split-ends r above).0 u f (subst (λ n. (ends r).manager.place u ≤ n) (sym (ap (λ o. batch_begin o (ends r).manager.closed) none)) le),
)

-- who is judged and not for good has finished after the closed batches
judged-late : (w : CoreState) → Steady w → w.manager.doubt ≡ None → (u : UnitNo) → IsSteady (w.manager.verdict u) ⊎ ((w.units.phase u ≡ Finished) × (w.manager.closed < w.manager.place u) × (w.manager.verdict u ≡ Open → ⊥))
judged-late w s none u = go (w.manager.verdict u) refl
  where
    late : (v : Verdict) → w.manager.verdict u ≡ v → (v ≡ Open → ⊥) → (v ≡ Aborted → ⊥) → (is_final v ≡ true → ⊥) → (w.units.phase u ≡ Finished) × (w.manager.closed < w.manager.place u) × (w.manager.verdict u ≡ Open → ⊥)
    late v q n a f =
        let open_not : w.manager.verdict u ≡ Open → ⊥ = λ z. n (sym q ∙ z) in
        elim (s.1.0 u open_not) [
          | inl p ↦ (
            p,
            elim (cases_lt w.manager.closed (w.manager.place u)) [
              | inl lt ↦ lt
              | inr le ↦ absurd (f (ap is_final (sym q) ∙ s.2 none u p le))
            ],
            open_not,
          )
          | inr p ↦ absurd (a (sym q ∙ s.1.1 u p))
        ]

    go : (v : Verdict) → w.manager.verdict u ≡ v → IsSteady (w.manager.verdict u) ⊎ ((w.units.phase u ≡ Finished) × (w.manager.closed < w.manager.place u) × (w.manager.verdict u ≡ Open → ⊥))
    go Open q = inl (inl q)
    go Chosen q = inr (late Chosen q (λ z. cc) (λ z. cc) (λ z. cc))
    go Condemned q = inr (late Condemned q (λ z. cc) (λ z. cc) (λ z. cc))
    go Committed q = inl (inr (ap is_final q))
    go Aborted q = inl (inr (ap is_final q))

-- a finished unit after the closed batches and up to the batch's end is one of the batch
in-batch : (w : CoreState) (b : Batch) → LoadlessKept w → w.manager.batch ≡ Some b → (u : UnitNo) → w.units.phase u ≡ Finished → w.manager.closed < w.manager.place u → w.manager.place u ≤ w.manager.closed + b.size → Member u (members w b)
in-batch w b k q u f new le =
    let t = k.0.placed u f in
    let j : ℕ = t.0 - w.manager.closed in
    let at : w.manager.closed + j ≡ t.0 = omega (arith, t.2, new) in
    let short : length (members w b) ≡ b.size = take_length b.size (waiting w) (omega (arith, length-drop w.manager.closed w.manager.order, size-at w b k q)) in
    let lt : j < b.size = omega (arith, t.2, new, le) in
    subst (λ z. Member z (members w b))
    (at_part b.size w.manager.closed w.manager.order j lt ∙ ap (λ z. get_or w.manager.order z nobody) at ∙ t.3)
    (Member-get (members w b) j (omega (arith, short, lt)))

-- without a batch, or in one that isn't decided, nobody after the closed ones is judged
late-open : (w : CoreState) → LoadlessKept w → ((b : Batch) → w.manager.batch ≡ Some b → b.decisions ≡ None) → LoadlessAt w.manager.closed w
late-open w k free = go w.manager.batch refl
  where
    go : (o : Option Batch) → w.manager.batch ≡ o → LoadlessAt w.manager.closed w
    go None q = subst (λ m. LoadlessAt m w) (ap (λ z. w.manager.closed + decided_size z) q ∙ omega arith) k.0
    go (Some b) q = open-at w b k q (free b q)

pub only-judged : (w : CoreState) → Steady w → w.manager.doubt ≡ None → OnlyTheBatchIsJudged w
only-judged w s none = record {
  undecided = λ free u. elim (judged-late w s none u) [
    | inl t ↦ t
    | inr t ↦ absurd (t.2 ((late-open w s.0 free).late u t.0 t.1))
  ];
  decided = λ b ds q d u. elim (judged-late w s none u) [
    | inl t ↦ inr t
    | inr t ↦ elim (cases_lt (w.manager.closed + b.size) (w.manager.place u)) [
      | inl lt ↦ absurd (t.2 ((judged-at w b ds s.0 q d).late u t.0 lt))
      | inr le ↦ inl (in-batch w b s.0 q u t.0 t.1 le)
    ]
  ];
}
