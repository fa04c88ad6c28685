-- What a machine was given leads through the unit's run.
use Rattle.std.proofs.Common.{◌≡◌, ℕ, List, [], ◌∷◌, ◌++◌, Bool, true, false, Result, Ok, Err, IfOk, refl, sym, ap, ◌∙◌, subst}
use Rattle.base_types.specs.declared.calls.Call.{Call}
use Rattle.base_types.specs.declared.calls.GrainId.{GrainId}
use Rattle.base_types.specs.declared.calls.Outcome.{Outcome}
use Rattle.base_types.specs.declared.calls.Value.{Value}
use Rattle.script_tree.specs.Programs.{ProgramTree}
use Rattle.script_holding.specs.Holding.{Holding}
use Rattle.script_meaning.specs.Requests.{Requests, End, AskLock, AskRaise, AskUnit}
use Rattle.script_meaning.specs.Play.{Played, GrainState, next, serve, unit, play_over, writes_of}
use Rattle.script_meaning.specs.Trails.{Given, GivenLock, GivenRaise, GivenOutcome, answers_of, asked_of, reads_of, Has}
use Rattle.script_meaning.proofs.RunLeads.{Leads, follows_leads, leads_follows, leads_on, leads_rest, leads_is_play}
use Rattle.std.proofs.lemmas.List.{append-nil}
use Rattle.script_machine.specs.declared.runs.Run.{Run}
use Rattle.script_machine.specs.declared.runs.Wait.TheVariants as wait
use Rattle.script_machine.specs.Runs.{waiting}
use Rattle.script_machine.specs.declared.machine.Machine.{Machine}
use Rattle.script_machine.specs.declared.machine.Parts.{Parts}
use Rattle.script_machine.specs.declared.machine.Input.{Input}
use Rattle.script_machine.specs.declared.machine.Input.TheVariants as input
use Rattle.script_machine.specs.Machines.{FollowsTrail, IsPartsOf, is_over_at, reads_in, answers_in, rest_at, rest, fed, given_by, read_by, answered_by}

-- where nothing is given nothing changes
gives_none : (run : Requests) (trail : List Given) (left : Requests) → Leads run trail left → Leads run (trail ++ []) left
gives_none run trail left leads = subst (λ (l : List Given). Leads run l left) (sym (append-nil trail)) leads

-- an input gives one thing more where it answers what is asked for, and else nothing
leads_by : (run : Requests) (trail : List Given) (left : Requests) (one : Input) → Leads run trail left → Leads run (trail ++ given_by left one) (fed left one)
leads_by run trail (AskLock grain mode go) (input.Grain state) leads = leads_on run trail (AskLock grain mode go) (GivenLock grain mode state) leads refl
leads_by run trail (AskLock grain mode go) input.First leads = gives_none run trail (AskLock grain mode go) leads
leads_by run trail (AskLock grain mode go) input.Held leads = gives_none run trail (AskLock grain mode go) leads
leads_by run trail (AskLock grain mode go) (input.Unit outcome) leads = gives_none run trail (AskLock grain mode go) leads
leads_by run trail (AskRaise grain left) (input.Grain state) leads = gives_none run trail (AskRaise grain left) leads
leads_by run trail (AskRaise grain left) input.First leads = gives_none run trail (AskRaise grain left) leads
leads_by run trail (AskRaise grain left) input.Held leads = leads_on run trail (AskRaise grain left) (GivenRaise grain) leads refl
leads_by run trail (AskRaise grain left) (input.Unit outcome) leads = gives_none run trail (AskRaise grain left) leads
leads_by run trail (AskUnit call depth go) (input.Grain state) leads = gives_none run trail (AskUnit call depth go) leads
leads_by run trail (AskUnit call depth go) input.First leads = gives_none run trail (AskUnit call depth go) leads
leads_by run trail (AskUnit call depth go) input.Held leads = gives_none run trail (AskUnit call depth go) leads
leads_by run trail (AskUnit call depth go) (input.Unit outcome) leads = leads_on run trail (AskUnit call depth go) (GivenOutcome call depth outcome) leads refl
leads_by run trail (End result has) (input.Grain state) leads = gives_none run trail (End result has) leads
leads_by run trail (End result has) input.First leads = gives_none run trail (End result has) leads
leads_by run trail (End result has) input.Held leads = gives_none run trail (End result has) leads
leads_by run trail (End result has) (input.Unit outcome) leads = gives_none run trail (End result has) leads

-- what an input gives of states and outcomes
reads_by : (left : Requests) (one : Input) → reads_of (given_by left one) ≡ read_by left one
reads_by (AskLock grain mode go) (input.Grain state) = refl
reads_by (AskLock grain mode go) input.First = refl
reads_by (AskLock grain mode go) input.Held = refl
reads_by (AskLock grain mode go) (input.Unit outcome) = refl
reads_by (AskRaise grain left) (input.Grain state) = refl
reads_by (AskRaise grain left) input.First = refl
reads_by (AskRaise grain left) input.Held = refl
reads_by (AskRaise grain left) (input.Unit outcome) = refl
reads_by (AskUnit call depth go) (input.Grain state) = refl
reads_by (AskUnit call depth go) input.First = refl
reads_by (AskUnit call depth go) input.Held = refl
reads_by (AskUnit call depth go) (input.Unit outcome) = refl
reads_by (End result has) (input.Grain state) = refl
reads_by (End result has) input.First = refl
reads_by (End result has) input.Held = refl
reads_by (End result has) (input.Unit outcome) = refl

-- and of outcomes
answers_by : (left : Requests) (one : Input) → answers_of (given_by left one) ≡ answered_by left one
answers_by (AskLock grain mode go) (input.Grain state) = refl
answers_by (AskLock grain mode go) input.First = refl
answers_by (AskLock grain mode go) input.Held = refl
answers_by (AskLock grain mode go) (input.Unit outcome) = refl
answers_by (AskRaise grain left) (input.Grain state) = refl
answers_by (AskRaise grain left) input.First = refl
answers_by (AskRaise grain left) input.Held = refl
answers_by (AskRaise grain left) (input.Unit outcome) = refl
answers_by (AskUnit call depth go) (input.Grain state) = refl
answers_by (AskUnit call depth go) input.First = refl
answers_by (AskUnit call depth go) input.Held = refl
answers_by (AskUnit call depth go) (input.Unit outcome) = refl
answers_by (End result has) (input.Grain state) = refl
answers_by (End result has) input.First = refl
answers_by (End result has) input.Held = refl
answers_by (End result has) (input.Unit outcome) = refl

-- the states of a longer trail
reads_on : (trail more : List Given) → reads_of (trail ++ more) ≡ reads_of trail ++ reads_of more
reads_on [] more = refl
reads_on (GivenLock grain mode state ∷ further) more = ap (λ (l : List GrainState). (grain, state) ∷ l) (reads_on further more)
reads_on (GivenRaise grain ∷ further) more = reads_on further more
reads_on (GivenOutcome call depth outcome ∷ further) more = reads_on further more

-- and its outcomes
answers_on : (trail more : List Given) → answers_of (trail ++ more) ≡ answers_of trail ++ answers_of more
answers_on [] more = refl
answers_on (GivenLock grain mode state ∷ further) more = answers_on further more
answers_on (GivenRaise grain ∷ further) more = answers_on further more
answers_on (GivenOutcome call depth outcome ∷ further) more = ap (λ (l : List Outcome). outcome ∷ l) (answers_on further more)

-- what was given to a machine leads to what is left
follows_leads_to : (types : ProgramTree) (machine : Machine) (call : Call) (depth : ℕ) (trail : List Given) → FollowsTrail types call depth machine trail → Leads (unit types call depth) trail (rest types machine)
unfolding next
follows_leads_to types machine call depth trail follows =
    subst (λ (t : Requests). Leads (unit types call depth) trail t) follows.left (follows_leads (unit types call depth) trail follows.named.each)

-- and what leads there was given to it
leads_to_follows : (types : ProgramTree) (machine : Machine) (call : Call) (depth : ℕ) (trail : List Given) → Leads (unit types call depth) trail (rest types machine) → reads_in machine ≡ reads_of trail → answers_in machine ≡ answers_of trail → FollowsTrail types call depth machine trail
unfolding next
leads_to_follows types machine call depth trail leads reads answers =
    record {
      named = record { each = leads_follows (unit types call depth) trail (rest types machine) leads };
      left = leads_rest (unit types call depth) trail (rest types machine) leads;
      reads = reads;
      answers = answers;
    }

-- a machine that begins was given nothing
pub follows_nothing : (types : ProgramTree) (machine : Machine) (call : Call) (depth : ℕ) → rest types machine ≡ unit types call depth → reads_in machine ≡ [] → answers_in machine ≡ [] → FollowsTrail types call depth machine []
follows_nothing types machine call depth left reads answers = leads_to_follows types machine call depth [] (sym left) reads answers

-- a machine that was given more
pub follows_on : (types : ProgramTree) (before machine : Machine) (one : Input) → rest types machine ≡ fed (rest types before) one → reads_in machine ≡ reads_in before ++ read_by (rest types before) one → answers_in machine ≡ answers_in before ++ answered_by (rest types before) one →
    (call : Call) (depth : ℕ) (trail : List Given) → FollowsTrail types call depth before trail → FollowsTrail types call depth machine (trail ++ given_by (rest types before) one)
follows_on types before machine one left reads answers call depth trail follows =
    let more = given_by (rest types before) one in
    let leads = leads_by (unit types call depth) trail (rest types before) one (follows_leads_to types before call depth trail follows) in
    leads_to_follows types machine call depth (trail ++ more)
    (subst (λ (t : Requests). Leads (unit types call depth) (trail ++ more) t) (sym left) leads)
    (reads ∙ (λ j. follows.reads j ++ sym (reads_by (rest types before) one) j) ∙ sym (reads_on trail more))
    (answers ∙ (λ j. follows.answers j ++ sym (answers_by (rest types before) one) j) ∙ sym (answers_on trail more))

-- the parts of a machine that is over are those of the play
pub parts_of_play : (types : ProgramTree) (machine : Machine) (parts : Parts) (has : Holding) → rest types machine ≡ End parts.result has → parts.writes ≡ writes_of parts.result has → parts.reads ≡ machine.reads → parts.answers ≡ machine.answers →
    (call : Call) (depth : ℕ) (trail : List Given) → FollowsTrail types call depth machine trail → (states : GrainId → List Value) → Has states (reads_of trail) → IsPartsOf parts trail (play_over types call depth states (answers_of trail))
unfolding play_over
parts_of_play types machine parts has over writes reads answers call depth trail follows states found =
    let played : serve (unit types call depth) states (answers_of trail) ≡ record { result = parts.result; asked = asked_of trail; reads = reads_of trail; writes = writes_of parts.result has } =
    leads_is_play (unit types call depth) trail parts.result has states (subst (λ (t : Requests). Leads (unit types call depth) trail t) over (follows_leads_to types machine call depth trail follows)) found in
    record {
      result = ap (λ (p : Played). p.result) played;
      reads = ap (λ (p : Played). p.reads) played ∙ sym follows.reads ∙ sym reads;
      writes = ap (λ (p : Played). p.writes) played ∙ sym writes;
      answers = sym follows.answers ∙ sym answers;
      asked = ap (λ (p : Played). p.asked) played;
    }

-- a machine whose run is over
pub over_rest : (types : ProgramTree) (run : Run) (ready : Bool) (outcome : Outcome) → is_over_at ready run.wait ≡ true → run.wait ≡ wait.Over outcome → rest_at types run ready ≡ End outcome run.has
over_rest types run true outcome over waits = absurd (cc)
over_rest types run false outcome over waits = ap (waiting types run) waits

-- what holds anyway holds where there is an answer
pub all_ok : {A E : Type 0} (result : Result A E) (P : Type 0) → P → IfOk result (λ _. P)
all_ok (Ok value) P holds = holds
all_ok (Err error) P holds = tt
