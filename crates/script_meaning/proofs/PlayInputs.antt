-- A play rests on the states that it reads and on the answers that it asks for.
use Rattle.std.proofs.Common.{◌≡◌, ℕ, zero, suc, List, [], ◌∷◌, length, Bool, true, false, refl, sym, ap, ◌∙◌, subst}
use Rattle.std.specs.Prelude.{if◌then◌else◌, slice_index_or}
use Rattle.std.proofs.lemmas.List.Elements.{All-nil, All-cons, All-head, All-tail}
use Rattle.base_types.specs.declared.calls.Call.{Call}
use Rattle.base_types.specs.declared.calls.GrainId.{GrainId}
use Rattle.base_types.specs.declared.calls.Outcome.{Outcome}
use Rattle.base_types.specs.declared.calls.Outcome.TheVariants.{Aborted}
use Rattle.base_types.specs.declared.calls.Value.{Value}
use Rattle.script_holding.specs.Holding.{same_grain}
use Rattle.script_meaning.specs.Requests.{Requests, End, AskLock, AskRaise, AskUnit}
use Rattle.script_meaning.specs.Play.{GrainState, Played, serve, reading, asking}
use Rattle.script_meaning.specs.Trails.{Has, outcomes, states_of}
use Rattle.script_meaning.proofs.Grains.{is_same_grain, same_grain_is}

-- the first answer, which is an abort where there is none, and those after it
abbrev first_answer : List Outcome → Outcome
first_answer [] = Aborted
first_answer (answer ∷ answers) = answer

abbrev later_answers : List Outcome → List Outcome
later_answers [] = []
later_answers (answer ∷ answers) = answers

-- a play behind a unit that it asks for, answered or not
serve_unit : (call : Call) (depth : ℕ) (go : Outcome → Requests) (states : GrainId → List Value)
    (answers : List Outcome) →
    serve (AskUnit call depth go) states answers
    ≡ asking (call, depth) (serve (go (first_answer answers)) states (later_answers answers))
serve_unit call depth go states [] = refl
serve_unit call depth go states (answer ∷ answers) = refl

-- one outcome more is the first answer
outcomes_first : (n : ℕ) (answers : List Outcome) →
    outcomes (suc n) answers ≡ first_answer answers ∷ outcomes n (later_answers answers)
outcomes_first n [] = refl
outcomes_first n (answer ∷ answers) = refl

-- so many outcomes of so many outcomes are those
pub outcomes_again : (n : ℕ) (answers : List Outcome) → outcomes n (outcomes n answers) ≡ outcomes n answers
outcomes_again zero answers = refl
outcomes_again (suc n) [] = ap (λ (more : List Outcome). Aborted ∷ more) (outcomes_again n [])
outcomes_again (suc n) (answer ∷ answers) = ap (λ (more : List Outcome). answer ∷ more) (outcomes_again n answers)

-- over other states that agree on what it reads, and other answers that agree on what it asks for, a play is the same
pub serve_rests : (run : Requests) (states other : GrainId → List Value) (answers more : List Outcome) →
    Has other (serve run states answers).reads →
    outcomes (length (serve run states answers).asked) more
    ≡ outcomes (length (serve run states answers).asked) answers →
    serve run other more ≡ serve run states answers
serve_rests (End result has) states other answers more found same = refl
serve_rests (AskLock grain mode go) states other answers more found same =
    let played : Played = serve (go (states grain)) states answers in
    let here : other grain ≡ states grain =
    All-head (λ (one : GrainState). other one.0 ≡ one.1) (grain, states grain) played.reads found in
    ap (λ (state : List Value). reading (grain, state) (serve (go state) other more)) here
    ∙ ap (λ (p : Played). reading (grain, states grain) p)
    (serve_rests (go (states grain)) states other answers more
    (All-tail (λ (one : GrainState). other one.0 ≡ one.1) (grain, states grain) played.reads found) same)
serve_rests (AskRaise grain rest) states other answers more found same =
    serve_rests rest states other answers more found same
serve_rests (AskUnit call depth go) states other answers more found same =
    let answer : Outcome = first_answer answers in
    let played : Played = serve (go answer) states (later_answers answers) in
    let is : serve (AskUnit call depth go) states answers ≡ asking (call, depth) played =
    serve_unit call depth go states answers in
    let found' : Has other played.reads = subst (λ (p : Played). Has other p.reads) is found in
    let same' : outcomes (suc (length played.asked)) more ≡ outcomes (suc (length played.asked)) answers =
    subst (λ (p : Played). outcomes (length p.asked) more ≡ outcomes (length p.asked) answers) is same in
    let parts : first_answer more ∷ outcomes (length played.asked) (later_answers more)
    ≡ answer ∷ outcomes (length played.asked) (later_answers answers) =
    sym (outcomes_first (length played.asked) more) ∙ same' ∙ outcomes_first (length played.asked) answers in
    let first : first_answer more ≡ answer = cc in
    let later : outcomes (length played.asked) (later_answers more)
    ≡ outcomes (length played.asked) (later_answers answers) = cc in
    serve_unit call depth go other more
    ∙ ap (λ (o : Outcome). asking (call, depth) (serve (go o) other (later_answers more))) first
    ∙ ap (λ (p : Played). asking (call, depth) p)
    (serve_rests (go answer) states other (later_answers answers) (later_answers more) found' later)
    ∙ sym is

-- the states that were found are those of the grains, where one function gave them all
pub states_of_has : (states : GrainId → List Value) (found : List GrainState) → Has states found →
    Has (states_of found) found
states_of_has states [] has = All-nil (λ (one : GrainState). states_of [] one.0 ≡ one.1)
states_of_has states (first ∷ rest) has =
    let P : GrainState → Type 0 = λ one. states_of (first ∷ rest) one.0 ≡ one.1 in
    let Q : GrainState → Type 0 = λ one. states one.0 ≡ one.1 in
    let tail : Has states rest = All-tail Q first rest has in
    let again : Has (states_of rest) rest = states_of_has states rest tail in
    let head : states first.0 ≡ first.1 = All-head Q first rest has in
    let here : states_of (first ∷ rest) first.0 ≡ first.1 =
    ap (λ (b : Bool). if b then first.1 else states_of rest first.0) (is_same_grain first.0) in
    let later : (one : GrainState) → states one.0 ≡ one.1 → states_of rest one.0 ≡ one.1 →
    states_of (first ∷ rest) one.0 ≡ one.1 = λ one q r.
    (elim (same_grain first.0 one.0) as
    (λ b. same_grain first.0 one.0 ≡ b → (if b then first.1 else states_of rest one.0) ≡ one.1)
    [ true ↦ λ same. sym head ∙ ap states (same_grain_is first.0 one.0 same) ∙ q | false ↦ λ same. r ]) refl in
    All-cons P first rest here (λ k d lt. later (slice_index_or rest k d) (tail k d lt) (again k d lt))
