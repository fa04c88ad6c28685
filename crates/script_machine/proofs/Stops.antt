-- Why a run stops, as the code says it: this fault, or want of memory.
use Rattle.std.proofs.Common.{◌≡◌, ◌≤◌, ℕ, List, Err, refl, sym, ap, ◌∙◌}
use Rattle.base_types.specs.declared.calls.Value.{Value}
use Rattle.script_values.specs.declared.stops.Stop.{Stop}
use Rattle.script_values.specs.declared.stops.Stop.TheVariants.{Fault, Memory}
use Rattle.script_values.specs.Faults.{depth}
use Rattle.script_values.specs.Stops.{StopsWith}
use Rattle.script_values.specs.Values.{ValueOrFault}
use Rattle.script_holding.specs.Limits.{depth_limit}
use Rattle.script_holding.specs.Holding.{Holding}
use Rattle.script_meaning.specs.Requests.{Requests, stop}
use Rattle.script_meaning.specs.Calls.{with_key}
use Rattle.script_machine.specs.declared.runs.Run.{Run}
use Rattle.script_machine.specs.Runs.{AllowsDepth, GivesKey, GivesTruth, Left, chosen_by}

-- the stop is this fault, or want of memory
abbrev pub StopsAt : Stop → List ℕ → Type 0
StopsAt why text = (given : ValueOrFault) → given ≡ Err text → StopsWith why given

same_text : (one other : List ℕ) → ◌≡◌ {A = ValueOrFault} (Err one) (Err other) → one ≡ other
same_text one other e = cc

-- it ends what is left
pub left_at : (why : Stop) (text : List ℕ) → StopsAt why text → (left : Requests) (run : Run) → left ≡ stop text run.has → Left left run why
left_at (Fault given) text stops left run e = e ∙ ap (λ (x : List ℕ). stop x run.has) (same_text text given (stops (Err text) refl))
left_at Memory text stops left run e = tt

-- in place of a key
pub key_at : (why : Stop) (text : List ℕ) → StopsAt why text → (place : Value) → ((has : Holding) (go : ℕ → Requests) → with_key place has go ≡ stop text has) → GivesKey (Err why) place
key_at (Fault given) text stops place e = λ has go. e has go ∙ ap (λ (x : List ℕ). stop x has) (same_text text given (stops (Err text) refl))
key_at Memory text stops place e = tt

-- in place of a condition's truth
pub truth_at : (why : Stop) (text : List ℕ) → StopsAt why text → (value : ValueOrFault) → ((has : Holding) (first second : Requests) → chosen_by value has first second ≡ stop text has) → GivesTruth (Err why) value
truth_at (Fault given) text stops value e = λ has first second. e has first second ∙ ap (λ (x : List ℕ). stop x has) (same_text text given (stops (Err text) refl))
truth_at Memory text stops value e = tt

-- where a frame is too deep
pub depth_at : (why : Stop) → StopsAt why depth → (at : ℕ) → depth_limit ≤ at → AllowsDepth (Err why) at
depth_at (Fault given) stops at deep = (deep, sym (same_text depth given (stops (Err depth) refl)))
depth_at Memory stops at deep = tt
