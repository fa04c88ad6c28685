-- Where what a unit was given leads in its run, and which run a play is.
use Rattle.std.proofs.Common.{◌≡◌, List, [], ◌∷◌, ◌++◌, length, true, refl, sym, ap, ◌∙◌, subst}
use Rattle.std.specs.Prelude.{if◌then◌else◌, ◌&&◌}
use Rattle.std.proofs.lemmas.List.Elements.{All-nil, All-cons, All-head, All-tail}
use Rattle.base_types.specs.declared.calls.GrainId.{GrainId}
use Rattle.base_types.specs.declared.calls.Mode.{Mode}
use Rattle.base_types.specs.declared.calls.Mode.TheVariants.{Read, Update}
use Rattle.base_types.specs.declared.calls.Outcome.{Outcome}
use Rattle.base_types.specs.declared.calls.Outcome.TheVariants.{Aborted}
use Rattle.base_types.specs.declared.calls.Value.{Value}
use Rattle.script_holding.specs.Holding.{Holding, same_grain}
use Rattle.script_meaning.specs.Requests.{Requests, End, AskLock, AskRaise, AskUnit}
use Rattle.script_meaning.specs.Play.{GrainState, AskedUnit, Played, Lock, WantLock, WantRaise, WantUnit, Over, serve, writes_of, is_asked, same_mode, rest_of, asks}
use Rattle.script_meaning.specs.Trails.{Given, GivenLock, GivenRaise, GivenOutcome, wanted, locks_of, answers_of, asked_of, reads_of, Has, outcomes}
use Rattle.script_meaning.proofs.Grains.{is_same_grain}

-- where a run goes on with what it is given
abbrev pub goes : Requests → Given → Requests
goes (End result has) one = End result has
goes (AskLock grain mode go) (GivenLock at how state) = go state
goes (AskLock grain mode go) (GivenRaise at) = AskLock grain mode go
goes (AskLock grain mode go) (GivenOutcome call depth outcome) = AskLock grain mode go
goes (AskRaise grain rest) one = rest
goes (AskUnit call depth go) (GivenLock at how state) = AskUnit call depth go
goes (AskUnit call depth go) (GivenRaise at) = AskUnit call depth go
goes (AskUnit call depth go) (GivenOutcome of at outcome) = go outcome

-- a run is given just what it asks for, one after the other, and then this is left of it
abbrev pub Leads : Requests → List Given → Requests → Type 0
Leads run [] after = run ≡ after
Leads run (one ∷ rest) after = (asks run ≡ wanted one) × Leads (goes run one) rest after

-- the same trail leads to one place
pub leads_alike : (run : Requests) (trail : List Given) (one other : Requests) → Leads run trail one →
    Leads run trail other → one ≡ other
leads_alike run [] one other leads leads' = sym leads ∙ leads'
leads_alike run (first ∷ rest) one other leads leads' = leads_alike (goes run first) rest one other leads.1 leads'.1

-- with nothing given all is left
rest_of_nothing : (run : Requests) → rest_of run [] [] ≡ run
rest_of_nothing (End result has) = refl
rest_of_nothing (AskLock grain mode go) = refl
rest_of_nothing (AskRaise grain rest) = refl
rest_of_nothing (AskUnit call depth go) = refl

-- a lock is the one that was asked for where its grain and mode are
is_same_mode : (mode : Mode) → same_mode mode mode ≡ true
is_same_mode Read = refl
is_same_mode Update = refl

-- the lock that was asked for is taken
is_asked_lem : (lock : Lock) (grain : GrainId) (mode : Mode) → lock.grain ≡ grain → lock.mode ≡ mode →
    is_asked lock grain mode ≡ true
is_asked_lem lock grain mode e f =
    ap (λ (b : _). b && same_mode lock.mode mode)
    (ap (λ (g : GrainId). same_grain lock.grain g) (sym e) ∙ is_same_grain lock.grain)
    ∙ ap (λ (m : Mode). same_mode lock.mode m) (sym f) ∙ is_same_mode lock.mode

-- what is left after one more thing that was asked for
rest_of_goes : (run : Requests) (one : Given) (rest : List Given) → asks run ≡ wanted one →
    rest_of run (locks_of (one ∷ rest)) (answers_of (one ∷ rest))
    ≡ rest_of (goes run one) (locks_of rest) (answers_of rest)
rest_of_goes (End result has) (GivenLock at how state) rest e = cc
rest_of_goes (End result has) (GivenRaise at) rest e = cc
rest_of_goes (End result has) (GivenOutcome of at outcome) rest e = cc
rest_of_goes (AskLock grain mode go) (GivenLock at how state) rest e =
    let same : is_asked (record { grain = at; mode = how; state = state }) grain mode ≡ true =
    is_asked_lem (record { grain = at; mode = how; state = state }) grain mode (cc) (cc) in
    ap (λ b. if b then rest_of (go state) (locks_of rest) (answers_of rest) else AskLock grain mode go) same
rest_of_goes (AskLock grain mode go) (GivenRaise at) rest e = cc
rest_of_goes (AskLock grain mode go) (GivenOutcome of at outcome) rest e = cc
rest_of_goes (AskRaise grain after) (GivenLock at how state) rest e = cc
rest_of_goes (AskRaise grain after) (GivenRaise at) rest e =
    let same : is_asked (record { grain = at; mode = Update; state = [] }) grain Update ≡ true =
    is_asked_lem (record { grain = at; mode = Update; state = [] }) grain Update (cc) refl in
    ap (λ b. if b then rest_of after (locks_of rest) (answers_of rest) else AskRaise grain after) same
rest_of_goes (AskRaise grain after) (GivenOutcome of at outcome) rest e = cc
rest_of_goes (AskUnit call depth go) (GivenLock at how state) rest e = cc
rest_of_goes (AskUnit call depth go) (GivenRaise at) rest e = cc
rest_of_goes (AskUnit call depth go) (GivenOutcome of at outcome) rest e = refl

-- each thing given is what was left asks for then
abbrev pub Follows : Requests → List Given → Type 0
Follows run trail = (before : List Given) (one : Given) (after : List Given) → trail ≡ before ++ (one ∷ after) →
    asks (rest_of run (locks_of before) (answers_of before)) ≡ wanted one

-- what a run names leads to what is left of it
pub follows_leads : (run : Requests) (trail : List Given) → Follows run trail →
    Leads run trail (rest_of run (locks_of trail) (answers_of trail))
follows_leads run [] follows = sym (rest_of_nothing run)
follows_leads run (one ∷ rest) follows =
    let first : asks run ≡ wanted one = ap asks (sym (rest_of_nothing run)) ∙ follows [] one rest refl in
    let later : Follows (goes run one) rest = λ before next after e. ap asks (sym (rest_of_goes run one before first))
    ∙ follows (one ∷ before) next after (ap (λ (l : List Given). one ∷ l) e) in (
      first,
      subst (λ after. Leads (goes run one) rest after) (sym (rest_of_goes run one rest first))
          (follows_leads (goes run one) rest later),
    )

-- a list with an element is not empty
is_not_empty : (before : List Given) (one : Given) (after : List Given) → [] ≡ before ++ (one ∷ after) → ⊥
is_not_empty [] one after e = cc
is_not_empty (first ∷ before) one after e = cc

-- what is named first and what is named behind it make a longer trail
follows_on : (run : Requests) (first : Given) (rest : List Given) → asks run ≡ wanted first →
    Follows (goes run first) rest → Follows run (first ∷ rest)
follows_on run first rest named follows [] one after e = ap asks (rest_of_nothing run) ∙ named ∙ ap wanted (cc)
follows_on run first rest named follows (x ∷ before) one after e =
    let same : first ≡ x = cc in
    let tail : rest ≡ before ++ (one ∷ after) = cc in
    subst (λ (y : Given). asks (rest_of run (locks_of (y ∷ before)) (answers_of (y ∷ before))) ≡ wanted one) same
    (ap asks (rest_of_goes run first before named) ∙ follows before one after tail)

-- what leads on is what the run names
pub leads_follows : (run : Requests) (trail : List Given) (after : Requests) → Leads run trail after → Follows run trail
leads_follows run [] after leads = λ before one later e. absurd (is_not_empty before one later e)
leads_follows run (first ∷ rest) after leads =
    follows_on run first rest leads.0 (leads_follows (goes run first) rest after leads.1)

-- what is left of a run is where it was led
pub leads_rest : (run : Requests) (trail : List Given) (after : Requests) → Leads run trail after →
    rest_of run (locks_of trail) (answers_of trail) ≡ after
leads_rest run [] after leads = rest_of_nothing run ∙ leads
leads_rest run (one ∷ rest) after leads = rest_of_goes run one rest leads.0
    ∙ leads_rest (goes run one) rest after leads.1

-- and it leads on with one thing more that is asked for then
pub leads_on : (run : Requests) (trail : List Given) (after : Requests) (one : Given) → Leads run trail after →
    asks after ≡ wanted one →
    Leads run (trail ++ (one ∷ [])) (goes after one)
leads_on run [] after one leads named = (ap asks leads ∙ named, ap (λ (r : Requests). goes r one) leads)
leads_on run (first ∷ rest) after one leads named = (leads.0, leads_on (goes run first) rest after one leads.1 named)

-- a run that asks for nothing more has ended
pub over_ends : (run : Requests) (result : Outcome) → asks run ≡ Over result → (has : Holding) × (run ≡ End result has)
over_ends (End done has) result e = (has, ap (λ (o : Outcome). End o has) (cc))
over_ends (AskLock grain mode go) result e = absurd (cc)
over_ends (AskRaise grain rest) result e = absurd (cc)
over_ends (AskUnit call depth go) result e = absurd (cc)

-- what a play is given, and what it has at its end
abbrev pub trail_of : Requests → (GrainId → List Value) → List Outcome → List Given
trail_of (End result has) states answers = []
trail_of (AskLock grain mode go) states answers =
    GivenLock grain mode (states grain) ∷ trail_of (go (states grain)) states answers
trail_of (AskRaise grain rest) states answers = GivenRaise grain ∷ trail_of rest states answers
trail_of (AskUnit call depth go) states [] = GivenOutcome call depth Aborted ∷ trail_of (go Aborted) states []
trail_of (AskUnit call depth go) states (answer ∷ answers) =
    GivenOutcome call depth answer ∷ trail_of (go answer) states answers

-- what a unit has at the end of a play
abbrev pub end_of : Requests → (GrainId → List Value) → List Outcome → Holding
end_of (End result has) states answers = has
end_of (AskLock grain mode go) states answers = end_of (go (states grain)) states answers
end_of (AskRaise grain rest) states answers = end_of rest states answers
end_of (AskUnit call depth go) states [] = end_of (go Aborted) states []
end_of (AskUnit call depth go) states (answer ∷ answers) = end_of (go answer) states answers

-- a play is a run to its end
pub serve_leads : (run : Requests) (states : GrainId → List Value) (answers : List Outcome) →
    Leads run (trail_of run states answers) (End (serve run states answers).result (end_of run states answers))
serve_leads (End result has) states answers = refl
serve_leads (AskLock grain mode go) states answers = (refl, serve_leads (go (states grain)) states answers)
serve_leads (AskRaise grain rest) states answers = (refl, serve_leads rest states answers)
serve_leads (AskUnit call depth go) states [] = (refl, serve_leads (go Aborted) states [])
serve_leads (AskUnit call depth go) states (answer ∷ answers) = (refl, serve_leads (go answer) states answers)

-- the units that it asks for, the states that it finds, what it writes and the answers that it takes
pub serve_asked : (run : Requests) (states : GrainId → List Value) (answers : List Outcome) →
    (serve run states answers).asked ≡ asked_of (trail_of run states answers)
serve_asked (End result has) states answers = refl
serve_asked (AskLock grain mode go) states answers = serve_asked (go (states grain)) states answers
serve_asked (AskRaise grain rest) states answers = serve_asked rest states answers
serve_asked (AskUnit call depth go) states [] =
    ap (λ (more : List AskedUnit). (call, depth) ∷ more) (serve_asked (go Aborted) states [])
serve_asked (AskUnit call depth go) states (answer ∷ answers) =
    ap (λ (more : List AskedUnit). (call, depth) ∷ more) (serve_asked (go answer) states answers)

-- the states that a play reads are those of its trail
pub serve_reads : (run : Requests) (states : GrainId → List Value) (answers : List Outcome) →
    (serve run states answers).reads ≡ reads_of (trail_of run states answers)
serve_reads (End result has) states answers = refl
serve_reads (AskLock grain mode go) states answers =
    ap (λ (more : List GrainState). (grain, states grain) ∷ more) (serve_reads (go (states grain)) states answers)
serve_reads (AskRaise grain rest) states answers = serve_reads rest states answers
serve_reads (AskUnit call depth go) states [] = serve_reads (go Aborted) states []
serve_reads (AskUnit call depth go) states (answer ∷ answers) = serve_reads (go answer) states answers

-- what a play writes is what is set at its end
pub serve_writes : (run : Requests) (states : GrainId → List Value) (answers : List Outcome) →
    (serve run states answers).writes ≡ writes_of (serve run states answers).result (end_of run states answers)
serve_writes (End result has) states answers = refl
serve_writes (AskLock grain mode go) states answers = serve_writes (go (states grain)) states answers
serve_writes (AskRaise grain rest) states answers = serve_writes rest states answers
serve_writes (AskUnit call depth go) states [] = serve_writes (go Aborted) states []
serve_writes (AskUnit call depth go) states (answer ∷ answers) = serve_writes (go answer) states answers

-- the answers of its trail are as many as it asks for, aborts past the last
pub serve_answers : (run : Requests) (states : GrainId → List Value) (answers : List Outcome) →
    answers_of (trail_of run states answers) ≡ outcomes (length (serve run states answers).asked) answers
serve_answers (End result has) states answers = refl
serve_answers (AskLock grain mode go) states answers = serve_answers (go (states grain)) states answers
serve_answers (AskRaise grain rest) states answers = serve_answers rest states answers
serve_answers (AskUnit call depth go) states [] =
    ap (λ (more : List Outcome). Aborted ∷ more) (serve_answers (go Aborted) states [])
serve_answers (AskUnit call depth go) states (answer ∷ answers) =
    ap (λ (more : List Outcome). answer ∷ more) (serve_answers (go answer) states answers)

-- the states of its trail are those played over
pub serve_has : (run : Requests) (states : GrainId → List Value) (answers : List Outcome) →
    Has states (reads_of (trail_of run states answers))
serve_has (End result has) states answers = All-nil (λ (one : GrainState). states one.0 ≡ one.1)
serve_has (AskLock grain mode go) states answers =
    All-cons (λ (one : GrainState). states one.0 ≡ one.1) (grain, states grain) _ refl
    (serve_has (go (states grain)) states answers)
serve_has (AskRaise grain rest) states answers = serve_has rest states answers
serve_has (AskUnit call depth go) states [] = serve_has (go Aborted) states []
serve_has (AskUnit call depth go) states (answer ∷ answers) = serve_has (go answer) states answers

-- a run to its end is the play over each store with the states that it found
pub leads_is_trail : (run : Requests) (trail : List Given) (result : Outcome) (has : Holding)
    (states : GrainId → List Value) →
    Leads run trail (End result has) → Has states (reads_of trail) → trail ≡ trail_of run states (answers_of trail)
leads_is_trail run [] result has states leads found =
    subst (λ (r : Requests). [] ≡ trail_of r states []) (sym leads) refl
leads_is_trail (End done had) (GivenLock at how state ∷ rest) result has states leads found =
    absurd (let e = leads.0 in cc)
leads_is_trail (End done had) (GivenRaise at ∷ rest) result has states leads found = absurd (let e = leads.0 in cc)
leads_is_trail (End done had) (GivenOutcome of at outcome ∷ rest) result has states leads found =
    absurd (let e = leads.0 in cc)
leads_is_trail (AskLock grain mode go) (GivenLock at how state ∷ rest) result has states leads found =
    let e : WantLock grain mode ≡ WantLock at how = leads.0 in
    let same : grain ≡ at = cc in
    let same_mode : mode ≡ how = cc in
    let first : states at ≡ state =
    All-head (λ (one : GrainState). states one.0 ≡ one.1) (at, state) (reads_of rest) found in
    let there : states grain ≡ state = ap states same ∙ first in
    let later : rest ≡ trail_of (go state) states (answers_of rest) =
    leads_is_trail (go state) rest result has states leads.1
    (All-tail (λ (one : GrainState). states one.0 ≡ one.1) (at, state) (reads_of rest) found) in
    (λ i. GivenLock (sym same i) (sym same_mode i) state ∷ later i)
    ∙ ap (λ (s : List Value). GivenLock grain mode s ∷ trail_of (go s) states (answers_of rest)) (sym there)
leads_is_trail (AskLock grain mode go) (GivenRaise at ∷ rest) result has states leads found =
    absurd (let e = leads.0 in cc)
leads_is_trail (AskLock grain mode go) (GivenOutcome of at outcome ∷ rest) result has states leads found =
    absurd (let e = leads.0 in cc)
leads_is_trail (AskRaise grain after) (GivenLock at how state ∷ rest) result has states leads found =
    absurd (let e = leads.0 in cc)
leads_is_trail (AskRaise grain after) (GivenRaise at ∷ rest) result has states leads found =
    let e : WantRaise grain ≡ WantRaise at = leads.0 in
    let same : grain ≡ at = cc in
    λ i. GivenRaise (sym same i) ∷ leads_is_trail after rest result has states leads.1 found i
leads_is_trail (AskRaise grain after) (GivenOutcome of at outcome ∷ rest) result has states leads found =
    absurd (let e = leads.0 in cc)
leads_is_trail (AskUnit call depth go) (GivenLock at how state ∷ rest) result has states leads found =
    absurd (let e = leads.0 in cc)
leads_is_trail (AskUnit call depth go) (GivenRaise at ∷ rest) result has states leads found =
    absurd (let e = leads.0 in cc)
leads_is_trail (AskUnit call depth go) (GivenOutcome of at outcome ∷ rest) result has states leads found =
    let e : WantUnit call depth ≡ WantUnit of at = leads.0 in
    let same : call ≡ of = cc in
    let same_depth : depth ≡ at = cc in
    λ i. GivenOutcome (sym same i) (sym same_depth i) outcome ∷ leads_is_trail
    (go outcome) rest result has states leads.1 found i

-- so all that the play gives is what the run was given, and what is set at its end
pub leads_is_play : (run : Requests) (trail : List Given) (result : Outcome) (has : Holding)
    (states : GrainId → List Value) →
    Leads run trail (End result has) → Has states (reads_of trail) →
    serve run states (answers_of trail)
    ≡ record { result = result; asked = asked_of trail; reads = reads_of trail; writes = writes_of result has }
leads_is_play run trail result has states leads found =
    let answers : List Outcome = answers_of trail in
    let played : Played = serve run states answers in
    let last : Holding = end_of run states answers in
    let same : trail ≡ trail_of run states answers = leads_is_trail run trail result has states leads found in
    let there : Leads run trail (End played.result last) =
    subst (λ (l : List Given). Leads run l (End played.result last)) (sym same) (serve_leads run states answers) in
    let alike : End played.result last ≡ End result has = leads_alike run trail _ _ there leads in
    let one_result : played.result ≡ result = cc in
    let one_end : last ≡ has = cc in
    let asked : played.asked ≡ asked_of trail = serve_asked run states answers ∙ ap asked_of (sym same) in
    let reads : played.reads ≡ reads_of trail = serve_reads run states answers ∙ ap reads_of (sym same) in
    let writes : played.writes ≡ writes_of result has = serve_writes run states answers
    ∙ (λ i. writes_of (one_result i) (one_end i)) in
    λ i. record { result = one_result i; asked = asked i; reads = reads i; writes = writes i }
