-- Where what a unit was given leads to a child that it asks for, each play over the same states and answers asks for it.
use Rattle.std.proofs.Common.{◌≡◌, ℕ, List, [], ◌∷◌, ◌++◌, length, Some, refl, sym, ap, ◌∙◌, subst}
use Rattle.std.specs.Prelude.{slice_get}
use Rattle.std.proofs.lemmas.List.Elements.{All-head, All-tail}
use Rattle.base_types.specs.declared.calls.Call.{Call}
use Rattle.base_types.specs.declared.calls.GrainId.{GrainId}
use Rattle.base_types.specs.declared.calls.Outcome.{Outcome}
use Rattle.base_types.specs.declared.calls.Value.{Value}
use Rattle.script_tree.specs.Programs.{ProgramTree}
use Rattle.script_meaning.specs.Requests.{Requests, End, AskLock, AskRaise, AskUnit}
use Rattle.script_meaning.specs.Play.{GrainState, WantLock, WantUnit, asks, rest_of, serve, unit, next, play_over}
use Rattle.script_meaning.specs.Trails.{Given, GivenLock, GivenRaise, GivenOutcome, locks_of, answers_of, reads_of, Has, IsTrail}
use Rattle.script_meaning.proofs.RunLeads.{Leads, follows_leads}

-- a run that asks for a unit goes on with its outcome
unit_asked : (run : Requests) (child : Call) (at : ℕ) → asks run ≡ WantUnit child at → (go : Outcome → Requests) × (run ≡ AskUnit child at go)
unit_asked (End result has) child at e = absurd (cc)
unit_asked (AskLock grain mode go) child at e = absurd (cc)
unit_asked (AskRaise grain rest) child at e = absurd (cc)
unit_asked (AskUnit call depth go) child at e =
    let same : call ≡ child = cc in
    let same_depth : depth ≡ at = cc in
    (go, λ i. AskUnit (same i) (same_depth i) go)

-- a play that comes there asks for it, with more answers or without
asks_first : (child : Call) (at : ℕ) (go : Outcome → Requests) (states : GrainId → List Value) (more : List Outcome) →
    slice_get (serve (AskUnit child at go) states more).asked 0 ≡ Some (child, at)
asks_first child at go states [] = refl
asks_first child at go states (answer ∷ more) = refl

-- a play comes where its trail leads
serve_reaches : (run : Requests) (trail : List Given) (child : Call) (at : ℕ) (go : Outcome → Requests) (states : GrainId → List Value) (more : List Outcome) →
    Leads run trail (AskUnit child at go) → Has states (reads_of trail) →
    slice_get (serve run states (answers_of trail ++ more)).asked (length (answers_of trail)) ≡ Some (child, at)
serve_reaches run [] child at go states more leads found =
    subst (λ (r : Requests). slice_get (serve r states more).asked 0 ≡ Some (child, at)) (sym leads) (asks_first child at go states more)
serve_reaches (End done had) (GivenLock of how state ∷ rest) child at go states more leads found = absurd (let e = leads.0 in cc)
serve_reaches (End done had) (GivenRaise of ∷ rest) child at go states more leads found = absurd (let e = leads.0 in cc)
serve_reaches (End done had) (GivenOutcome of deep outcome ∷ rest) child at go states more leads found = absurd (let e = leads.0 in cc)
serve_reaches (AskLock grain mode on) (GivenLock of how state ∷ rest) child at go states more leads found =
    let e : WantLock grain mode ≡ WantLock of how = leads.0 in
    let same : grain ≡ of = cc in
    let there : states grain ≡ state = ap states same ∙ All-head (λ (one : GrainState). states one.0 ≡ one.1) (of, state) (reads_of rest) found in
    subst (λ (s : List Value). slice_get (serve (on s) states (answers_of rest ++ more)).asked (length (answers_of rest)) ≡ Some (child, at)) (sym there)
    (serve_reaches (on state) rest child at go states more leads.1 (All-tail (λ (one : GrainState). states one.0 ≡ one.1) (of, state) (reads_of rest) found))
serve_reaches (AskLock grain mode on) (GivenRaise of ∷ rest) child at go states more leads found = absurd (let e = leads.0 in cc)
serve_reaches (AskLock grain mode on) (GivenOutcome of deep outcome ∷ rest) child at go states more leads found = absurd (let e = leads.0 in cc)
serve_reaches (AskRaise grain after) (GivenLock of how state ∷ rest) child at go states more leads found = absurd (let e = leads.0 in cc)
serve_reaches (AskRaise grain after) (GivenRaise of ∷ rest) child at go states more leads found = serve_reaches after rest child at go states more leads.1 found
serve_reaches (AskRaise grain after) (GivenOutcome of deep outcome ∷ rest) child at go states more leads found = absurd (let e = leads.0 in cc)
serve_reaches (AskUnit call depth on) (GivenLock of how state ∷ rest) child at go states more leads found = absurd (let e = leads.0 in cc)
serve_reaches (AskUnit call depth on) (GivenRaise of ∷ rest) child at go states more leads found = absurd (let e = leads.0 in cc)
serve_reaches (AskUnit call depth on) (GivenOutcome of deep outcome ∷ rest) child at go states more leads found =
    serve_reaches (on outcome) rest child at go states more leads.1 found

-- the child that `next` names after a trail is the one that the play asks for at its index
pub asks_child : (types : ProgramTree) (call : Call) (depth : ℕ) (trail : List Given) (child : Call) (at : ℕ) → IsTrail types call depth trail →
    next types call depth (locks_of trail) (answers_of trail) ≡ WantUnit child at →
    (states : GrainId → List Value) → Has states (reads_of trail) → (more : List Outcome) →
    slice_get (play_over types call depth states (answers_of trail ++ more)).asked (length (answers_of trail)) ≡ Some (child, at)
unfolding play_over next
asks_child types call depth trail child at is named states found more =
    let run : Requests = unit types call depth in
    let asked : (go : Outcome → Requests) × (rest_of run (locks_of trail) (answers_of trail) ≡ AskUnit child at go) =
    unit_asked (rest_of run (locks_of trail) (answers_of trail)) child at named in
    serve_reaches run trail child at asked.0 states more (subst (Leads run trail) asked.1 (follows_leads run trail is.each)) found
