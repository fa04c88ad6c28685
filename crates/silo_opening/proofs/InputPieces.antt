-- Input that is pulled piece by piece, while nothing else changes.
use Rattle.std.proofs.Common.{◌≡◌, ℕ, List, ◌++◌, take, drop, sym, ◌∙◌, ap, append_assoc}
use Rattle.std.proofs.lemmas.List.{take-append-drop}
use Rattle.host_trait.specs.World.{World, Asked, Pulled, Passes, moment_of}
use Rattle.host_trait.proofs.Moments.{both, one, same_moment}

-- what a moment shows has stood still since the old world
abbrev pub IsStill : World → World → Type 0
IsStill old new = Passes (λ m. m ≡ moment_of old) old.past new.past

-- it stands still over a pull
pub still_pull : {n : ℕ} {into : List ℕ} (old now next : World) → IsStill old now → now.output ≡ old.output → now.disk ≡ old.disk → Pulled n into now next → IsStill old next
still_pull old now next still output disk pulled = both _ still (one _ now next pulled.past (same_moment old next (pulled.output ∙ output) (pulled.disk ∙ disk)))

-- and over one that failed
pub still_asked : (old now next : World) → IsStill old now → now.output ≡ old.output → now.disk ≡ old.disk → Asked now next → IsStill old next
still_asked old now next still output disk asked = both _ still (one _ now next asked.past (same_moment old next (asked.output ∙ output) (asked.disk ∙ disk)))

-- the input is what was pulled so far and what stands behind it: after a pull more, too
pub pulled_more : (n : ℕ) (into : List ℕ) (now next : World) (input items more : List ℕ) → input ≡ items ++ now.input → Pulled n into now next → more ≡ items ++ take n into → input ≡ more ++ next.input
pulled_more n into now next input items more so_far pulled is =
    so_far
    ∙ ap (λ (l : List ℕ). items ++ l) (sym (take-append-drop n now.input))
    ∙ sym (append_assoc items (take n now.input) (drop n now.input))
    ∙ (λ i. (items ++ sym pulled.bytes i) ++ sym pulled.input i)
    ∙ ap (λ (l : List ℕ). l ++ next.input) (sym is)
