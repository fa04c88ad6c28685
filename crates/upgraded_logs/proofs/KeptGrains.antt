-- What is kept of a grain is what the entries stand for.
use Rattle.std.proofs.Common.{◌≡◌, Bool, true, false, cond, ◌||◌, List, [], ◌∷◌, ◌++◌, map, Option, Some, None, refl, sym, ap, ◌∙◌}
use Rattle.std.specs.Prelude.{fold, is_some, ⊤}
use Rattle.std.proofs.lemmas.List.{map-append}
use Rattle.base_types.specs.declared.calls.GrainId.{GrainId}
use Rattle.base_types.specs.declared.calls.Value.{Value}
use Rattle.script_holding.specs.Holding.{same_grain}
use Rattle.script_tree.specs.Programs.{ProgramTree}
use Rattle.script_check.specs.Comparison.{last_program}
use Rattle.script_check.specs.Carrying.{carried_state, carried_along}
use Rattle.script_check.proofs.CarriedFields.{along}
use Rattle.promise_spec.specs.Programs.{Program}
use Rattle.promise_spec.specs.Records.{States, written, put_state}
use Rattle.promise_spec.specs.Entries.{Standing, initial_states, is_among, LogEntry, Recorded, Upgraded, after_entry, after_entries}
use Rattle.upgraded_logs.specs.Upgrades.{AreOthersInitial}
use Rattle.upgraded_logs.specs.KeptStates.{KeptState, just_written, with_later, kept_write, kept_after, kept_of_base, state_meant}

-- ---- which grains have a state

true_with : (many : Bool) → (many || true) ≡ true
true_with true = refl
true_with false = refl

among_or : (same many b : Bool) → (many || (same || b)) ≡ ((same || many) || b)
among_or true many b = true_with many
among_or false many b = refl

is_some_if : (same : Bool) (k : KeptState) (kept : Option KeptState) (b : Bool) → is_some kept ≡ b → is_some (cond same (Some k) kept) ≡ (same || b)
is_some_if true k kept b e = refl
is_some_if false k kept b e = e

writes_held : (p : Program) (g : GrainId) (ws : List (GrainId × List Value)) (kept : Option KeptState) (b : Bool) → is_some kept ≡ b → is_some (fold (kept_write p g) kept ws) ≡ (is_among ws g || b)
writes_held p g [] kept b e = e
writes_held p g (w ∷ ws) kept b e =
    writes_held p g ws (kept_write p g kept w) (same_grain w.0 g || b) (is_some_if (same_grain w.0 g) (just_written p w.1) kept b e) ∙ among_or (same_grain w.0 g) (is_among ws g) b

later_held : (q : Program) (kept : Option KeptState) → is_some (with_later q kept) ≡ is_some kept
later_held q None = refl
later_held q (Some k) = refl

after_held : (before : Standing) (entries : List LogEntry) (g : GrainId) (kept : Option KeptState) → is_some kept ≡ before.held g → is_some (kept_after g before.program kept entries) ≡ (after_entries before entries).held g
after_held before [] g kept e = e
after_held before (Recorded c ∷ entries) g kept e =
    after_held (after_entry before (Recorded c)) entries g (fold (kept_write before.program g) kept (written c)) (writes_held before.program g (written c) kept (before.held g) e)
after_held before (Upgraded q ∷ entries) g kept e = after_held (after_entry before (Upgraded q)) entries g (with_later q kept) (later_held q kept ∙ e)

begins_held : (b : Bool) (k : KeptState) → is_some (cond b (Some k) None) ≡ b
begins_held true k = refl
begins_held false k = refl

pub held : (before : Standing) (entries : List LogEntry) (g : GrainId) → is_some (kept_after g before.program (kept_of_base before g) entries) ≡ (after_entries before entries).held g
held before entries g = after_held before entries g (kept_of_base before g) (begins_held (before.held g) (just_written before.program (before.states g)))

-- ---- which state it is

-- the programs of what is kept end in this one
abbrev EndsIn : Program → Option KeptState → Type 0
EndsIn p None = ⊤
EndsIn p (Some k) = last_program k.of_time.types (map (λ (q : Program). q.types) k.later) ≡ p.types

-- what is kept of a grain is what stands
record Agrees (s : Standing) (g : GrainId) (kept : Option KeptState) : Type 0 where
  held : is_some kept ≡ s.held g
  state : state_meant s.program g kept ≡ s.states g
  ends : EndsIn s.program kept

written_state : (p : Program) (g : GrainId) (states : States) (kept : Option KeptState) (w : GrainId × List Value) → state_meant p g kept ≡ states g → state_meant p g (kept_write p g kept w) ≡ put_state states w g
written_state p g states kept w e = by_case (same_grain w.0 g) where
  by_case : (same : Bool) → state_meant p g (cond same (Some (just_written p w.1)) kept) ≡ cond same w.1 (states g)
  by_case true = refl
  by_case false = e

writes_state : (p : Program) (g : GrainId) (ws : List (GrainId × List Value)) (states : States) (kept : Option KeptState) → state_meant p g kept ≡ states g → state_meant p g (fold (kept_write p g) kept ws) ≡ fold put_state states ws g
writes_state p g [] states kept e = e
writes_state p g (w ∷ ws) states kept e = writes_state p g ws (put_state states w) (kept_write p g kept w) (written_state p g states kept w e)

written_ends : (p : Program) (same : Bool) (state : List Value) (kept : Option KeptState) → EndsIn p kept → EndsIn p (cond same (Some (just_written p state)) kept)
written_ends p true state kept h = refl
written_ends p false state kept h = h

writes_ends : (p : Program) (g : GrainId) (ws : List (GrainId × List Value)) (kept : Option KeptState) → EndsIn p kept → EndsIn p (fold (kept_write p g) kept ws)
writes_ends p g [] kept h = h
writes_ends p g (w ∷ ws) kept h = writes_ends p g ws (kept_write p g kept w) (written_ends p (same_grain w.0 g) w.1 kept h)

last_of-push : (first : ProgramTree) (some : List ProgramTree) (q : ProgramTree) → last_program first (some ++ q ∷ []) ≡ q
last_of-push first [] q = refl
last_of-push first (next ∷ some) q = last_of-push next some q

types_push : (later : List Program) (q : Program) → map (λ (x : Program). x.types) (later ++ q ∷ []) ≡ map (λ (x : Program). x.types) later ++ q.types ∷ []
types_push later q = map-append (λ (x : Program). x.types) later (q ∷ [])

later_state : (s : Standing) (q : Program) (g : GrainId) (kept : Option KeptState) → Agrees s g kept → state_meant q g (with_later q kept) ≡ (after_entry s (Upgraded q)).states g
later_state s q g None h = ap (λ (b : Bool). cond b (carried_state s.program.types q.types g.kind (s.states g)) (initial_states q g)) h.held
later_state s q g (Some k) h =
    let some = map (λ (x : Program). x.types) k.later in
    ap (λ (l : List ProgramTree). carried_along k.of_time.types l g.kind k.state) (types_push k.later q)
    ∙ along k.of_time.types some (q.types ∷ []) g.kind k.state
    ∙ ap (λ (t : ProgramTree). carried_state t q.types g.kind (carried_along k.of_time.types some g.kind k.state)) h.ends
    ∙ ap (λ (v : List Value). carried_state s.program.types q.types g.kind v) h.state
    ∙ ap (λ (b : Bool). cond b (carried_state s.program.types q.types g.kind (s.states g)) (initial_states q g)) h.held

later_ends : (q : Program) (kept : Option KeptState) → EndsIn q (with_later q kept)
later_ends q None = tt
later_ends q (Some k) = ap (λ (l : List ProgramTree). last_program k.of_time.types l) (types_push k.later q) ∙ last_of-push k.of_time.types (map (λ (x : Program). x.types) k.later) q.types

after_agrees : (s : Standing) (entries : List LogEntry) (g : GrainId) (kept : Option KeptState) → Agrees s g kept → Agrees (after_entries s entries) g (kept_after g s.program kept entries)
after_agrees s [] g kept h = h
after_agrees s (Recorded c ∷ entries) g kept h =
    after_agrees (after_entry s (Recorded c)) entries g (fold (kept_write s.program g) kept (written c)) (record {
      held = writes_held s.program g (written c) kept (s.held g) h.held;
      state = writes_state s.program g (written c) s.states kept h.state;
      ends = writes_ends s.program g (written c) kept h.ends;
    })
after_agrees s (Upgraded q ∷ entries) g kept h =
    after_agrees (after_entry s (Upgraded q)) entries g (with_later q kept) (record {
      held = later_held q kept ∙ h.held;
      state = later_state s q g kept h;
      ends = later_ends q kept;
    })

begins : (s : Standing) (g : GrainId) (b : Bool) → (b ≡ false → s.states g ≡ initial_states s.program g) → state_meant s.program g (cond b (Some (just_written s.program (s.states g))) None) ≡ s.states g
begins s g true initial = refl
begins s g false initial = sym (initial refl)

begins_ends : (s : Standing) (g : GrainId) (b : Bool) → EndsIn s.program (cond b (Some (just_written s.program (s.states g))) None)
begins_ends s g true = refl
begins_ends s g false = tt

agrees : (before : Standing) (entries : List LogEntry) (g : GrainId) → AreOthersInitial before → Agrees (after_entries before entries) g (kept_after g before.program (kept_of_base before g) entries)
agrees before entries g initial = after_agrees before entries g (kept_of_base before g) (record {
  held = begins_held (before.held g) (just_written before.program (before.states g));
  state = begins before g (before.held g) (initial g);
  ends = begins_ends before g (before.held g);
})

pub states : (before : Standing) (entries : List LogEntry) (g : GrainId) → AreOthersInitial before → state_meant (after_entries before entries).program g (kept_after g before.program (kept_of_base before g) entries) ≡ (after_entries before entries).states g
states before entries g initial = (agrees before entries g initial).state

none_kept : (kept : Option KeptState) → is_some kept ≡ false → kept ≡ None
none_kept None e = refl
none_kept (Some k) e = absurd cc

pub others : (before : Standing) (entries : List LogEntry) → AreOthersInitial before → AreOthersInitial (after_entries before entries)
others before entries initial g not =
    let a = agrees before entries g initial in
    let none = none_kept (kept_after g before.program (kept_of_base before g) entries) (a.held ∙ not) in
    sym a.state ∙ ap (state_meant (after_entries before entries).program g) none
