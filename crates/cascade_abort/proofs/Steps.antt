-- One decision after the other.
use Rattle.std.proofs.Common.{◌≡◌, ℕ, zero, suc, ◌+◌, ◌<◌, ◌≤◌, List, [], ◌∷◌, ◌++◌, length, get_or, take, set, Bool, true, false, ◌||◌, refl, sym, ap, ◌∙◌, arith, add-one, zip}
use Rattle.std.specs.List.{list_any as any}
use Rattle.std.proofs.lemmas.List.{take_all, take_more_set}
use Rattle.cell_model.specs.declared.outcomes.Prepared.{Prepared}
use Rattle.cell_model.specs.declared.outcomes.Decision.{Decision}
use Rattle.cell_model.specs.Units.{UnitNo}
use Rattle.cell_model.specs.Decisions.{decision, all_decided, and_itself}
use Rattle.cell_model.proofs.Decisions.{decided-length}
use Rattle.cascade_abort.specs.DeadUnits.{has_fallen, dead_by}

or_swap : (a b c : Bool) → (b || (a || c)) ≡ ((a || b) || c)
or_swap true true c = refl
or_swap true false c = refl
or_swap false true c = refl
or_swap false false c = refl

-- a unit that can't commit is dead to those after it
and-later : (dead : UnitNo → Bool) (p : Prepared) (batch : List Prepared) (decisions : List Decision) →
    dead_by (and_itself dead p) batch decisions ≡ dead_by dead (p ∷ batch) (decision dead p ∷ decisions)
and-later dead p batch decisions = (λ i unit. or_swap (has_fallen unit (p, decision dead p)) (any (has_fallen unit) (zip batch decisions)) (dead unit) i)

-- the decision at an index, by those before it
next-decided : (dead : UnitNo → Bool) (batch : List Prepared) (at : ℕ) (p : Prepared) → at < length batch → p ≡ get_or batch at p →
    take (suc at) (all_decided dead batch) ≡ take at (all_decided dead batch) ++ decision (dead_by dead (take at batch) (take at (all_decided dead batch))) p ∷ []
next-decided dead [] at p l e = absurd (omega arith)
next-decided dead (q ∷ batch) zero p l e = ap (λ t. decision dead t ∷ []) (sym e)
next-decided dead (q ∷ batch) (suc at) p l e =
    ap (λ t. decision dead q ∷ t)
    (next-decided (and_itself dead q) batch at p (omega arith) e
    ∙ ap (λ d. take at (all_decided (and_itself dead q) batch) ++ decision d p ∷ []) (and-later dead q (take at batch) (take at (all_decided (and_itself dead q) batch))))

-- the decisions so far, with one more
pub one-more : (dead : UnitNo → Bool) (batch : List Prepared) (into : List Decision) (at : ℕ) (p : Prepared) (d : Decision) → at < length batch → at < length into → p ≡ get_or batch at p →
    take at into ≡ take at (all_decided dead batch) → d ≡ decision (dead_by dead (take at batch) (take at into)) p →
    take (at + 1) (set into at d) ≡ take (at + 1) (all_decided dead batch)
one-more dead batch into at p d l m e so_far is =
    take_more_set into at d m
    ∙ (λ i. so_far i ++ is i ∷ [])
    ∙ ap (λ t. take at (all_decided dead batch) ++ decision (dead_by dead (take at batch) t) p ∷ []) so_far
    ∙ sym (next-decided dead batch at p l e)
    ∙ ap (λ n. take n (all_decided dead batch)) (sym (add-one at))

-- all are decided
pub all-decided : (dead : UnitNo → Bool) (batch : List Prepared) (into : List Decision) (at : ℕ) → length batch ≡ length into → length batch ≤ at → take at into ≡ take at (all_decided dead batch) → into ≡ all_decided dead batch
all-decided dead batch into at e past done =
    sym (take_all at into (omega (arith, e, past)))
    ∙ done
    ∙ take_all at (all_decided dead batch) (omega (arith, past, decided-length dead batch))
