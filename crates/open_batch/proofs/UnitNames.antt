-- One unit after the other is named.
use Rattle.std.proofs.Common.{◌≡◌, ℕ, zero, suc, ◌+◌, ◌<◌, ◌≤◌, List, [], ◌∷◌, ◌++◌, length, get_or, take, drop, set, map, Bool, refl, ap, ◌∙◌, arith, add-one}
use Rattle.base_types.specs.declared.calls.GrainId.{GrainId}
use Rattle.cell_model.specs.declared.outcomes.Prepared.{Prepared}
use Rattle.core_model.specs.Tests.{failed_in}
use Rattle.open_batch.specs.declared.members.FinishedUnit.{FinishedUnit}
use Rattle.open_batch.specs.Members.{named, with_failed, unprepared, prepared_by}

named-suc : (votes : List (GrainId × Bool)) (ms : List FinishedUnit) (ps : List Prepared) (at : ℕ) (m : FinishedUnit) (p : Prepared) → at < length ms → at < length ps → m ≡ get_or ms at m → p ≡ get_or ps at p →
    take (suc at) (set ps at (with_failed (failed_in votes m.effect.writes) p)) ++ named votes (drop (suc at) ms) (drop (suc at) (set ps at (with_failed (failed_in votes m.effect.writes) p)))
    ≡ take at ps ++ named votes (drop at ms) (drop at ps)
named-suc votes [] ps at m p l k im ip = absurd (omega arith)
named-suc votes (x ∷ ms) [] at m p l k im ip = absurd (omega arith)
named-suc votes (x ∷ ms) (y ∷ ps) zero m p l k im ip = (λ i. with_failed (failed_in votes (im i).effect.writes) (ip i) ∷ named votes ms ps)
named-suc votes (x ∷ ms) (y ∷ ps) (suc at) m p l k im ip = ap (λ t. y ∷ t) (named-suc votes ms ps at m p (omega arith) (omega arith) im ip)

pub named-step : (votes : List (GrainId × Bool)) (ms : List FinishedUnit) (ps qs : List Prepared) (at : ℕ) (m : FinishedUnit) (p : Prepared) → at < length ms → at < length ps → m ≡ get_or ms at m → p ≡ get_or ps at p →
    qs ≡ set ps at (with_failed (failed_in votes m.effect.writes) p) →
    take (at + 1) qs ++ named votes (drop (at + 1) ms) (drop (at + 1) qs) ≡ take at ps ++ named votes (drop at ms) (drop at ps)
named-step votes ms ps qs at m p l k im ip is =
    (λ i. take (add-one at i) (is i) ++ named votes (drop (add-one at i) ms) (drop (add-one at i) (is i))) ∙ named-suc votes ms ps at m p l k im ip

-- all are named
pub named-all : (votes : List (GrainId × Bool)) (ms : List FinishedUnit) (ps : List Prepared) (at : ℕ) → length ms ≡ length ps → length ms ≤ at → take at ps ++ named votes (drop at ms) (drop at ps) ≡ ps
named-all votes [] [] zero h l = refl
named-all votes [] [] (suc at) h l = refl
named-all votes [] (p ∷ ps) at h l = absurd (omega arith)
named-all votes (m ∷ ms) [] at h l = absurd (omega arith)
named-all votes (m ∷ ms) (p ∷ ps) zero h l = absurd (omega arith)
named-all votes (m ∷ ms) (p ∷ ps) (suc at) h l = ap (λ t. p ∷ t) (named-all votes ms ps at (omega arith) (omega arith))

-- an element that is there, without asking for a default
pub item : {A : Type 0} (xs : List A) (at : ℕ) → at < length xs → (x : A) × (x ≡ get_or xs at x)
item [] at l = absurd (omega arith)
item (x ∷ xs) zero l = (x, refl)
item (x ∷ xs) (suc at) l = item xs at (omega arith)

-- units before any vote are named
pub named-unprepared : (votes : List (GrainId × Bool)) (ms : List FinishedUnit) → named votes ms (map unprepared ms) ≡ map (prepared_by votes) ms
named-unprepared votes [] = refl
named-unprepared votes (m ∷ ms) = ap (λ t. prepared_by votes m ∷ t) (named-unprepared votes ms)
