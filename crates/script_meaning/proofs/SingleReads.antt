-- A trail reads each grain once.
use Rattle.std.proofs.Common.{◌≡◌, ◌≢◌, suc, List, [], ◌∷◌, Bool, true, false, refl, ap, arith}
use Rattle.std.specs.Prelude.{if◌then◌else◌, slice_index_or}
use Rattle.std.specs.List.{AllPairs}
use Rattle.std.proofs.lemmas.List.Elements.{All-nil, All-cons}
use Rattle.script_holding.specs.Holding.{same_grain}
use Rattle.script_meaning.specs.Requests.{Requests}
use Rattle.script_meaning.specs.Play.{GrainState, rest_of, unit, next}
use Rattle.script_meaning.specs.Trails.{locks_of, answers_of, reads_of, Has, states_of}
use Rattle.script_meaning.specs.Laws.{TrailsReadOnce}
use Rattle.script_meaning.proofs.Grains.{is_same_grain, same_grain_is}
use Rattle.script_meaning.proofs.RunLeads.{follows_leads}
use Rattle.script_meaning.proofs.GrantedLocks.{AreGranted, sound_leads, reads_once}
use Rattle.script_meaning.proofs.RunInvariant.{unit_sound}

-- each is of another grain
abbrev AreApart : List GrainState → Type 0
AreApart found = AllPairs (λ one other. one.0 ≢ other.0) found

-- a grain that isn't the first is looked for behind it
passed : (first : GrainState) (rest : List GrainState) (one : GrainState) → first.0 ≢ one.0 → states_of rest one.0 ≡ one.1 → states_of (first ∷ rest) one.0 ≡ one.1
passed first rest one other e = by (same_grain first.0 one.0) refl
  where
    by : (b : Bool) → same_grain first.0 one.0 ≡ b → (if b then first.1 else states_of rest one.0) ≡ one.1
    by true same = absurd (other (same_grain_is first.0 one.0 same))
    by false same = e

-- where each is of another grain, each grain's state is the one that was found
found_apart : (found : List GrainState) → AreApart found → Has (states_of found) found
found_apart [] apart = All-nil (λ (one : GrainState). states_of [] one.0 ≡ one.1)
found_apart (first ∷ rest) apart =
    let later : Has (states_of rest) rest = found_apart rest (λ i j d below within. apart (suc i) (suc j) d (omega (arith, below)) (omega (arith, within))) in
    All-cons (λ (one : GrainState). states_of (first ∷ rest) one.0 ≡ one.1) first rest
    (ap (λ (b : Bool). if b then first.1 else states_of rest first.0) (is_same_grain first.0))
    (λ k d within. passed first rest (slice_index_or rest k d) (apart 0 (suc k) d (omega arith) (omega (arith, within))) (later k d within))

pub trails_read_once_lem : TrailsReadOnce
unfolding next
trails_read_once_lem types call depth trail follows = record { once = once; found = found_apart (reads_of trail) once }
  where
    run : Requests
    run = unit types call depth

    granted : AreGranted types true depth [] 0 trail
    granted = (sound_leads types true depth run trail (rest_of run (locks_of trail) (answers_of trail)) [] 0 (unit_sound types true depth call (λ t. refl)) (follows_leads run trail follows.each)).0

    once : AreApart (reads_of trail)
    once = reads_once types true depth [] 0 trail granted
