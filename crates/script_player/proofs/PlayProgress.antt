-- How far a play came, and what is left of it.
use Rattle.std.proofs.Common.{◌≡◌, ◌+◌, ℕ, zero, suc, Bool, true, false, List, [], ◌∷◌, ◌++◌, drop, length, pos, negsuc, Some, None, Result, Ok, Err, refl, ap, sym, ◌∙◌, append_assoc, arith}
use Rattle.std.specs.Prelude.{◌^◌, if◌then◌else◌, nat_lt, slice_get, ℤ, int_lt}
use Rattle.std.proofs.Math.Seq.{drop-cons}
use Rattle.std.proofs.lemmas.List.{append-nil, drop_all}
use Rattle.std.proofs.lemmas.Bool.Decides.{nat_tests}
use Rattle.std.proofs.lemmas.Int.{ints}
use Rattle.std.proofs.lemmas.Option.{slice_get_within, get_or_from_slice_get}
use Rattle.base_types.specs.declared.calls.Call.{Call}
use Rattle.base_types.specs.declared.calls.GrainId.{GrainId}
use Rattle.base_types.specs.declared.calls.Mode.{Mode}
use Rattle.base_types.specs.declared.calls.Outcome.{Outcome}
use Rattle.base_types.specs.declared.calls.Outcome.TheVariants.{Aborted}
use Rattle.base_types.specs.declared.calls.Value.{Value}
use Rattle.script_values.specs.Values.{ValueOrFault}
use Rattle.script_values.specs.Stops.{StopsWith}
use Rattle.script_values.specs.declared.stops.Stop.{Stop}
use Rattle.script_values.specs.declared.stops.Stop.TheVariants.{Fault, Memory}
use Rattle.script_tree.specs.declared.programs.FieldDecl.{FieldDecl}
use Rattle.script_values.specs.Faults.{key, grains, units}
use Rattle.script_holding.specs.Limits.{unit_limit, grain_limit}
use Rattle.script_holding.specs.Holding.{Holding, newly_held, with_held, one_asked}
use Rattle.script_meaning.specs.Requests.{Requests, End, AskLock, AskRaise, AskUnit, Back, Caught, stop}
use Rattle.script_meaning.specs.Calls.{answered, locked, in_own_unit, in_range}
use Rattle.script_meaning.specs.Play.{AskedUnit, GrainState, Played, asking, serve, found_in, writes_of}
use Rattle.script_player.specs.PlayState.{types_in, continued, heard, EndsPlay, Leads}
use Rattle.script_player.specs.declared.frames.World.{World}
use Rattle.script_player.specs.declared.player.Progress.{Progress}
use Rattle.script_player.specs.declared.player.Player.{Player}

-- a fault of the language itself ends the unit
pub ends_at : (world : World) (has : Holding) (progress : Progress) (why : Stop) (text : List ℕ) (before : Requests) →
    ((given : ValueOrFault) → given ≡ Err text → StopsWith why given) → before ≡ stop text has →
    EndsPlay world (record { has = has; progress = progress }) progress why before
ends_at world has progress (Fault found) text before says is =
    let at : StopsWith (Fault found) (let g : ValueOrFault = Err text in g) = says (Err text) refl in
    let same : found ≡ text = cc in
    ap (heard world progress) (ap (λ (t : List ℕ). stop t has) same ∙ sym is)
ends_at world has progress Memory text before says is = tt

-- what a part of a run leads to, where what was left before it is what an earlier part left
pub leads_on : {A : Type 0} (world : World) (player : Player) (between old : Progress) (result : Result A Stop) (go : A → Requests) (middle before : Requests) →
    Leads world player between result go middle → heard world between middle ≡ heard world old before → Leads world player old result go before
leads_on world player between old (Ok answer) go middle before part so_far = part ∙ so_far
leads_on world player between old (Err (Fault text)) go middle before part so_far = part ∙ so_far
leads_on world player between old (Err Memory) go middle before part so_far = tt

pub ends_on : (world : World) (player : Player) (between old : Progress) (why : Stop) (middle before : Requests) →
    EndsPlay world player between why middle → heard world between middle ≡ heard world old before → EndsPlay world player old why before
ends_on world player between old (Fault text) middle before part so_far = part ∙ so_far
ends_on world player between old Memory middle before part so_far = tt

-- a grain's lock that is granted: one more read
pub heard_lock : (world : World) (asked : List AskedUnit) (reads : List GrainState) (used : ℕ) (grain : GrainId) (mode : Mode) (go : List Value → Requests) →
    let found = found_in (types_in world) world.store.now grain in
    heard world (record { asked = asked; reads = reads ++ ((grain, found) ∷ []); used = used }) (go found)
    ≡ heard world (record { asked = asked; reads = reads; used = used }) (AskLock grain mode go)
unfolding heard
heard_lock world asked reads used grain mode go =
    let found = found_in (types_in world) world.store.now grain in
    let rest : Played = serve (go found) (found_in (types_in world) world.store.now) (drop used world.answers.now) in
    ap (λ (l : List GrainState). let p : Played = record { result = rest.result; asked = asked ++ rest.asked; reads = l; writes = rest.writes } in p)
    (append_assoc reads ((grain, found) ∷ []) rest.reads)

-- a grain that isn't held is asked for, where there is room for one more
pub room_for : (mode : Mode) (grain : GrainId) (fields : List FieldDecl) (go : Holding → Requests) (has : Holding) → true ≡ nat_lt (length has.held) grain_limit →
    locked None mode grain fields go has ≡ AskLock grain mode (λ found. go (with_held has (has.held ++ (newly_held grain mode fields found ∷ []))))
room_for mode grain fields go has room =
    ap (λ (b : Bool). if b then AskLock grain mode (λ found. go (with_held has (has.held ++ (newly_held grain mode fields found ∷ [])))) else stop grains has) (sym room)

pub no_room_for : (mode : Mode) (grain : GrainId) (fields : List FieldDecl) (go : Holding → Requests) (has : Holding) → false ≡ nat_lt (length has.held) grain_limit →
    locked None mode grain fields go has ≡ stop grains has
no_room_for mode grain fields go has room =
    ap (λ (b : Bool). if b then AskLock grain mode (λ found. go (with_held has (has.held ++ (newly_held grain mode fields found ∷ [])))) else stop grains has) (sym room)

-- a unit of its own is asked for, where one more may be
pub unit_for : (call : Call) (depth : ℕ) (onto : Back) (caught : Caught) (has : Holding) → true ≡ nat_lt has.asked unit_limit →
    in_own_unit call depth onto caught has ≡ AskUnit call depth (λ outcome. answered outcome onto caught (one_asked has))
unit_for call depth onto caught has room =
    ap (λ (b : Bool). if b then AskUnit call depth (λ outcome. answered outcome onto caught (one_asked has)) else stop units has) (sym room)

pub no_unit_for : (call : Call) (depth : ℕ) (onto : Back) (caught : Caught) (has : Holding) → false ≡ nat_lt has.asked unit_limit →
    in_own_unit call depth onto caught has ≡ stop units has
no_unit_for call depth onto caught has room =
    ap (λ (b : Bool). if b then AskUnit call depth (λ outcome. answered outcome onto caught (one_asked has)) else stop units has) (sym room)

-- a lock that is made exclusive
pub heard_raise : (world : World) (progress : Progress) (grain : GrainId) (rest : Requests) → heard world progress rest ≡ heard world progress (AskRaise grain rest)
unfolding heard
heard_raise world progress grain rest = refl

-- an item and what is behind it, and nothing past the last
drop_there : {A : Type 0} (items : List A) (i : ℕ) (item : A) → slice_get items i ≡ Some item → drop i items ≡ item ∷ drop (i + 1) items
drop_there items i item there =
    let after : suc i ≡ i + 1 = omega arith in
    drop-cons items i item (slice_get_within items i item there)
    ∙ ap (λ one. one ∷ drop (suc i) items) (get_or_from_slice_get items i item item there)
    ∙ ap (λ n. item ∷ drop n items) after

drop_past : {A : Type 0} (items : List A) (i : ℕ) → slice_get items i ≡ None → drop i items ≡ []
drop_past [] i none = drop_all i [] (omega arith)
drop_past (item ∷ items) zero none = absurd (cc)
drop_past (item ∷ items) (suc i) none = drop_past items i none

-- one more unit that was asked for
asked_more : (asked : List AskedUnit) (reads : List GrainState) (one : AskedUnit) (rest : Played) →
    continued (asked ++ (one ∷ [])) reads rest ≡ continued asked reads (asking one rest)
asked_more asked reads one rest =
    ap (λ (l : List AskedUnit). let p : Played = record { result = rest.result; asked = l; reads = reads ++ rest.reads; writes = rest.writes } in p)
    (append_assoc asked (one ∷ []) rest.asked)

-- a unit that is asked for: its answer is the next, or an abort past the last
pub heard_answer : (world : World) (asked : List AskedUnit) (reads : List GrainState) (used : ℕ) (call : Call) (depth : ℕ) (go : Outcome → Requests) (outcome : Outcome) →
    slice_get world.answers.now used ≡ Some outcome →
    heard world (record { asked = asked ++ ((call, depth) ∷ []); reads = reads; used = used + 1 }) (go outcome)
    ≡ heard world (record { asked = asked; reads = reads; used = used }) (AskUnit call depth go)
unfolding heard
heard_answer world asked reads used call depth go outcome there =
    let states = found_in (types_in world) world.store.now in
    asked_more asked reads (call, depth) (serve (go outcome) states (drop (used + 1) world.answers.now))
    ∙ ap (λ (answers : List Outcome). continued asked reads (serve (AskUnit call depth go) states answers)) (sym (drop_there world.answers.now used outcome there))

pub heard_abort : (world : World) (asked : List AskedUnit) (reads : List GrainState) (used : ℕ) (call : Call) (depth : ℕ) (go : Outcome → Requests) →
    slice_get world.answers.now used ≡ None →
    heard world (record { asked = asked ++ ((call, depth) ∷ []); reads = reads; used = used }) (go Aborted)
    ≡ heard world (record { asked = asked; reads = reads; used = used }) (AskUnit call depth go)
unfolding heard
heard_abort world asked reads used call depth go none =
    let states = found_in (types_in world) world.store.now in
    let past = drop_past world.answers.now used none in
    ap (λ (answers : List Outcome). continued (asked ++ ((call, depth) ∷ [])) reads (serve (go Aborted) states answers)) past
    ∙ asked_more asked reads (call, depth) (serve (go Aborted) states [])
    ∙ ap (λ (answers : List Outcome). continued asked reads (serve (AskUnit call depth go) states answers)) (sym past)

-- a play begins with nothing behind it, and ends with what came before its end
pub heard_first : (world : World) (rest : Requests) →
    heard world (record { asked = []; reads = []; used = 0 }) rest ≡ serve rest (found_in (types_in world) world.store.now) world.answers.now
unfolding heard
heard_first world rest = refl

pub heard_end : (world : World) (progress : Progress) (result : Outcome) (has : Holding) →
    heard world progress (End result has) ≡ record { result = result; asked = progress.asked; reads = progress.reads; writes = writes_of result has }
unfolding heard
heard_end world progress result has = λ i. record { result = result; asked = append-nil progress.asked i; reads = append-nil progress.reads i; writes = writes_of result has }

-- a number below 0 or past 32 bits is no key
pub key_below : (number : ℤ) (has : Holding) (go : ℕ → Requests) → int_lt number (pos 0) ≡ true → in_range number has go ≡ stop key has
key_below (negsuc n) has go lt = refl
key_below (pos n) has go lt = absurd (grind (arith, ints))

pub key_past : (number : ℤ) (has : Holding) (go : ℕ → Requests) → int_lt (pos 4294967295) number ≡ true → in_range number has go ≡ stop key has
key_past (negsuc n) has go lt = refl
key_past (pos n) has go lt =
    let test : nat_lt n (2 ^ 32) ≡ false = grind (arith, ints, nat_tests) in
    ap (λ (b : Bool). if b then go n else stop key has) test
