-- A unit asks for nothing but what is of a type of the program.
use Rattle.std.proofs.Common.{◌≡◌, ℕ, ◌<◌, List, [], ◌∷◌, length, Bool, true, false, Option, Some, None, refl}
use Rattle.std.specs.Prelude.{◌+◌, ◌++◌, if◌then◌else◌, slice_get}
use Rattle.std.proofs.lemmas.Option.{slice_get_within}
use Rattle.base_types.specs.declared.calls.Call.{Call}
use Rattle.base_types.specs.declared.calls.Mode.TheVariants.{Update}
use Rattle.base_types.specs.declared.calls.Outcome.{Outcome}
use Rattle.script_tree.specs.Programs.{TypeTree, ProgramTree}
use Rattle.script_holding.specs.declared.held_grain.Held.{Held}
use Rattle.script_holding.specs.Holding.{change, raised}
use Rattle.script_meaning.specs.Requests.{Requests, End, AskLock, AskRaise, AskUnit}
use Rattle.script_meaning.specs.Calls.{numbered}
use Rattle.script_meaning.specs.Play.{IsTransaction, Lock, is_asked, rest_of, asks, unit, next}
use Rattle.script_meaning.specs.Laws.{IsOfTypes, NextIsOfTypes}
use Rattle.script_meaning.proofs.Grains.{held_in}
use Rattle.script_meaning.proofs.RunInvariant.{IsSound, unit_sound}

-- a call of a method that is there is of a type of the program
call_within : (types : ProgramTree) (call : Call) → IsTransaction types call → call.grain.kind < length types
call_within types call transaction = by (slice_get types call.grain.kind) refl transaction.1
  where
    by : (found : Option TypeTree) → slice_get types call.grain.kind ≡ found → numbered found call.method ≡ Some transaction.0 → call.grain.kind < length types
    by None e there = absurd (cc)
    by (Some of_type) e there = slice_get_within types call.grain.kind of_type e

-- what a sound run asks for first is so
sound_within : (types : ProgramTree) (depth : ℕ) (run : Requests) (held : List Held) (asked : ℕ) → IsSound types true depth held asked run → IsOfTypes types (asks run)
sound_within types depth (End result has) held asked sound = tt
sound_within types depth (AskLock grain mode go) held asked sound = sound.0.1
sound_within types depth (AskRaise grain rest) held asked sound = sound.0.1
sound_within types depth (AskUnit call at go) held asked sound = call_within types call sound.1.transaction

-- and what it asks for after whatever it is given
rest_within : (types : ProgramTree) (depth : ℕ) (run : Requests) (locks : List Lock) (answers : List Outcome) (held : List Held) (asked : ℕ) →
    IsSound types true depth held asked run → IsOfTypes types (asks (rest_of run locks answers))
rest_within types depth (End result has) locks answers held asked sound = tt
rest_within types depth (AskLock grain mode go) [] answers held asked sound = sound.0.1
rest_within types depth (AskLock grain mode go) (lock ∷ locks) answers held asked sound =
    by (rest_within types depth (go lock.state) locks answers (held ++ (held_in grain mode ∷ [])) asked (sound.3 lock.state)) (is_asked lock grain mode)
  where
    by : IsOfTypes types (asks (rest_of (go lock.state) locks answers)) → (b : Bool) → IsOfTypes types (asks (if b then rest_of (go lock.state) locks answers else AskLock grain mode go))
    by later true = later
    by later false = sound.0.1
rest_within types depth (AskRaise grain rest) [] answers held asked sound = sound.0.1
rest_within types depth (AskRaise grain rest) (lock ∷ locks) answers held asked sound =
    by (rest_within types depth rest locks answers (change grain raised held) asked sound.2) (is_asked lock grain Update)
  where
    by : IsOfTypes types (asks (rest_of rest locks answers)) → (b : Bool) → IsOfTypes types (asks (if b then rest_of rest locks answers else AskRaise grain rest))
    by later true = later
    by later false = sound.0.1
rest_within types depth (AskUnit call at go) locks [] held asked sound = call_within types call sound.1.transaction
rest_within types depth (AskUnit call at go) locks (answer ∷ answers) held asked sound = rest_within types depth (go answer) locks answers held (asked + 1) (sound.2 answer)

pub next_is_of_types_lem : NextIsOfTypes
unfolding next
next_is_of_types_lem types call depth locks answers = rest_within types depth (unit types call depth) locks answers [] 0 (unit_sound types true depth call (λ t. refl))
