-- Decisions rest on what is said of the dependencies alone.
use Rattle.std.proofs.Common.{◌≡◌, List, [], ◌∷◌, Bool, true, false, ◌&&◌, ◌||◌, not, inl, inr, refl, sym, ap, ◌∙◌, subst, filter, map, cond}
use Rattle.std.proofs.lemmas.Bool.{cases_Bool}
use Rattle.base_types.specs.declared.calls.GrainId.{GrainId}
use Rattle.cell_model.specs.Units.{UnitNo, Member, same_unit, oldest}
use Rattle.cell_model.specs.Sources.{is_among}
use Rattle.cell_model.specs.declared.outcomes.Prepared.{Prepared}
use Rattle.cell_model.specs.Decisions.{is_commit, by_cause, decision, all_decided, and_itself}
use Rattle.cell_model.proofs.Units.{same_unit-is, same_unit-not, any-member, any-none, filter-member, filter-stays, Member-left, Member-right}
use Rattle.open_batch.specs.declared.members.FinishedUnit.{FinishedUnit}
use Rattle.open_batch.specs.Members.{sources_in, sources_of, prepared_by, decisions_by}

filter-agree : (d e : UnitNo → Bool) (xs : List UnitNo) → ((x : UnitNo) → Member x xs → d x ≡ e x) → filter d xs ≡ filter e xs
filter-agree d e [] h = refl
filter-agree d e (x ∷ xs) h =
    let r = filter-agree d e xs (λ y m. h y (inr m)) in
    ap (λ b. cond b (x ∷ filter d xs) (filter d xs)) (h x (inl refl)) ∙ ap (λ ys. cond (e x) (x ∷ ys) ys) r

decision-agree : (d e : UnitNo → Bool) (p : Prepared) → ((x : UnitNo) → Member x p.deps → d x ≡ e x) → decision d p ≡ decision e p
decision-agree d e p h = ap (λ ys. by_cause p.failed (oldest ys)) (filter-agree d e p.deps h)

-- two tests that say the same of each dependency of a batch decide it alike
decided-agree : (d e : UnitNo → Bool) (ps : List Prepared) → ((p : Prepared) → Member p ps → (x : UnitNo) → Member x p.deps → d x ≡ e x) → all_decided d ps ≡ all_decided e ps
decided-agree d e [] h = refl
decided-agree d e (p ∷ ps) h =
    let one = decision-agree d e p (h p (inl refl)) in
    let rest = decided-agree (and_itself d p) (and_itself e p) ps (λ q m x k.
    (ap (λ c. (same_unit x p.unit && not (is_commit c)) || d x) one ∙ ap (λ b. (same_unit x p.unit && not (is_commit (decision e p))) || b) (h q (inr m) x k))) in
    ap (λ c. c ∷ all_decided (and_itself d p) ps) one ∙ ap (λ cs. decision e p ∷ cs) rest

-- of a list's units the bad ones are among those that are kept
among-kept : (bad : UnitNo → Bool) (xs : List UnitNo) (d : UnitNo) → Member d xs → is_among (filter bad xs) d ≡ bad d
among-kept bad xs d m =
    elim (cases_Bool (bad d)) [
      | inl e ↦ any-member (λ u. same_unit u d) (filter bad xs) d (filter-stays bad xs d m e) (same_unit-is d d refl) ∙ sym e
      | inr e ↦ any-none (λ u. same_unit u d) (filter bad xs) (λ u k. same_unit-not u d (λ q. apart u q (filter-member bad xs u k).1 e)) ∙ sym e
    ]
  where
    apart : (u : UnitNo) → u ≡ d → bad u ≡ true → bad d ≡ false → ⊥
    apart u q t f = (let z : true ≡ false = sym t ∙ ap bad q ∙ f in cc)

-- a source of a unit of the batch is a source of the batch
source-in : (votes : List (GrainId × Bool)) (ms : List FinishedUnit) (p : Prepared) (d : UnitNo) → Member p (map (prepared_by votes) ms) → Member d p.deps → Member d (sources_of ms)
source-in votes [] p d m k = absurd m
source-in votes (x ∷ ms) p d (inl e) k = Member-left d (sources_in x) (sources_of ms) (moved (ap (λ (q : Prepared). q.deps) e))
  where
    moved : p.deps ≡ sources_in x → Member d (sources_in x)
    moved q = subst (λ ds. Member d ds) q k
source-in votes (x ∷ ms) p d (inr m) k = Member-right d (sources_in x) (sources_of ms) (source-in votes ms p d m k)

-- the bad sources alone are enough to decide
pub decides : (bad : UnitNo → Bool) (votes : List (GrainId × Bool)) (ms : List FinishedUnit) → all_decided (is_among (filter bad (sources_of ms))) (map (prepared_by votes) ms) ≡ decisions_by bad votes ms
decides bad votes ms =
    decided-agree (is_among (filter bad (sources_of ms))) bad (map (prepared_by votes) ms)
    (λ p m d k. among-kept bad (sources_of ms) d (source-in votes ms p d m k))
