-- The states of the versions that a log names, each carried from the program of its time, are those for which the log stands.
use Rattle.std.proofs.Common.{◌≡◌, ℕ, zero, suc, ◌+◌, Bool, true, false, ◌||◌, if◌then◌else◌, Option, Some, None, List, [], ◌∷◌, ◌++◌, map, drop, refl, sym, ◌∙◌, ap, subst, slice_get}
use Rattle.std.specs.Prelude.{unwrap_or, option_map, is_some, zip, fold}
use Rattle.base_types.specs.declared.calls.GrainId.{GrainId}
use Rattle.base_types.specs.declared.calls.UnitNo.{UnitNo}
use Rattle.base_types.specs.declared.calls.Value.{Value}
use Rattle.base_types.specs.declared.shapes.Shape.{Shape}
use Rattle.host_trait.specs.Files.{same_grain}
use Rattle.host_trait.specs.World.{Image}
use Rattle.field_codec.specs.declared.formats.Format.{Format}
use Rattle.commit_log.specs.declared.records.Written.{Written}
use Rattle.commit_log.specs.declared.records.Named.{Named}
use Rattle.script_tree.specs.Programs.{ProgramTree}
use Rattle.script_check.specs.Carrying.{carried_along}
use Rattle.program_file.specs.Succession.{carried_from, carried_on}
use Rattle.log_reading.specs.Blocks.{ReadEntry, ReadRecord, ReadUpgrade, LogRead, programs_read, types_read, shapes_read}
use Rattle.log_reading.specs.Versions.{named_by, named_in, version_named, version_numbered, state_of}
use Rattle.promise_spec.specs.Programs.{Program, shape_in}
use Rattle.promise_spec.specs.Records.{States, put_state}
use Rattle.promise_spec.specs.Entries.{Standing, initial_states, is_among, LogEntry, programs_among, standing_of}
use Rattle.promise_spec.specs.Blocks.{standing_with}
use Rattle.promise_spec.specs.Openings.{states_read, entries_logged, log_of}
use Rattle.promise_spec.proofs.Growing.{others_stay}
use Rattle.promise_spec.proofs.ReadVersions.{by_number, item_at, later_shapes, AreShapes}
use Rattle.upgraded_logs.specs.KeptStates.{KeptState, kept_of_base, kept_after, state_meant, NumberedState, numbered_write, numbered_of_base, numbered_after, MeansKept}
use Rattle.upgraded_logs.proofs.KeptGrains.{held, states}
use Rattle.upgraded_logs.proofs.Numbers.{numbers}

-- ---- the last of a grain's versions

-- the state of a version that is named, with the number of its program
abbrev pub numbered : Format → ℕ → List Shape → Image → Named → NumberedState
numbered format live shapes image n = record { number = n.program; state = state_of (version_numbered live format shapes image n) }

-- the last of a grain's among these, or one of before
abbrev pub last_numbered : Format → ℕ → List Shape → Image → Option NumberedState → List Named → GrainId → Option NumberedState
last_numbered format live shapes image s [] g = s
last_numbered format live shapes image s (n ∷ named) g = last_numbered format live shapes image (if same_grain n.written.grain g then Some (numbered format live shapes image n) else s) named g

or_swap : (a b h : Bool) → (a || (b || h)) ≡ ((b || a) || h)
or_swap true true h = refl
or_swap true false h = refl
or_swap false true h = refl
or_swap false false h = refl

module _ (format : Format) (live : ℕ) (shapes : List Shape) (image : Image) where
  module _ (number : ℕ) (shape : Shape) (at : slice_get shapes number ≡ Some shape) where
    abbrev named_of : Option UnitNo → Written → Named
    named_of unit w = record { unit = unit; program = number; written = w }

    abbrev state_at : Option UnitNo → Written → List Value
    state_at unit w = state_of (version_named live format shape image (record { unit = unit; program = 0; written = w }))

    numbered_is : (unit : Option UnitNo) (w : Written) → numbered format live shapes image (named_of unit w) ≡ record { number = number; state = state_at unit w }
    numbered_is unit w = (let read = by_number format live shapes image number shape at unit w in λ i. record { number = number; state = state_of (read i) })

    -- those of a record
    over_writes : (unit : Option UnitNo) (ws : List Written) (more : List Named) (s : Option NumberedState) (g : GrainId)
        → last_numbered format live shapes image s (map (named_of unit) ws ++ more) g
        ≡ last_numbered format live shapes image (fold (numbered_write number g) s (zip (map (λ (w : Written). w.grain) ws) (map (state_at unit) ws))) more g
    over_writes unit [] more s g = refl
    over_writes unit (w ∷ ws) more s g =
        ap (λ (x : NumberedState). last_numbered format live shapes image (if same_grain w.grain g then Some x else s) (map (named_of unit) ws ++ more) g) (numbered_is unit w)
        ∙ over_writes unit ws more (numbered_write number g s (w.grain, state_at unit w)) g

    -- what is kept of a grain where it is held
    abbrev kept_if : Bool → List Value → Option NumberedState
    kept_if h state = if h then Some (record { number = number; state = state }) else None

    one_kept : (same h : Bool) (old new : List Value) → (if same then Some (record { number = number; state = new }) else kept_if h old) ≡ kept_if (same || h) (if same then new else old)
    one_kept true h old new = refl
    one_kept false h old new = refl

    -- those of a checkpoint
    over_base : (unit : Option UnitNo) (ws : List Written) (more : List Named) (h : Bool) (before : States) (g : GrainId)
        → last_numbered format live shapes image (kept_if h (before g)) (map (named_of unit) ws ++ more) g
        ≡ last_numbered format live shapes image (kept_if (is_among (map (λ (w : Written). (w.grain, state_at unit w)) ws) g || h) (fold put_state before (map (λ (w : Written). (w.grain, state_at unit w)) ws) g)) more g
    over_base unit [] more h before g = refl
    over_base unit (w ∷ ws) more h before g =
        let pairs : List (GrainId × List Value) = map (λ (v : Written). (v.grain, state_at unit v)) ws in
        let after : States = put_state before (w.grain, state_at unit w) in
        ap (λ (x : NumberedState). last_numbered format live shapes image (if same_grain w.grain g then Some x else kept_if h (before g)) (map (named_of unit) ws ++ more) g) (numbered_is unit w)
        ∙ ap (λ (s : Option NumberedState). last_numbered format live shapes image s (map (named_of unit) ws ++ more) g) (one_kept (same_grain w.grain g) h (before g) (state_at unit w))
        ∙ over_base unit ws more (same_grain w.grain g || h) after g
        ∙ ap (λ (b : Bool). last_numbered format live shapes image (kept_if b (fold put_state after pairs g)) more g) (or_swap (is_among pairs g) (same_grain w.grain g) h)

  -- those of entries
  over_entries : (number : ℕ) (p : Program) (entries : List ReadEntry) → AreShapes format live shapes image number p entries → (s : Option NumberedState) (g : GrainId)
      → last_numbered format live shapes image s (named_by number entries) g ≡ numbered_after g number s (entries_logged format live p image entries)
  over_entries number p [] goes s g = refl
  over_entries number p (ReadRecord r ∷ entries) goes s g =
      let at = item_at number shapes (shape_in p) (later_shapes entries) goes in
      over_writes number (shape_in p) at.0 (Some r.unit) r.writes (named_by number entries) s g ∙ over_entries number p entries goes _ g
  over_entries number p (ReadUpgrade q ∷ entries) goes s g =
      let at = item_at number shapes (shape_in p) (later_shapes (ReadUpgrade q ∷ entries)) goes in
      over_entries (number + 1) q entries at.1 s g

-- ---- carried

mapped_at : {A B : Type 0} (f : A → B) (xs : List A) (n : ℕ) (x : A) → slice_get xs n ≡ Some x → slice_get (map f xs) n ≡ Some (f x)
mapped_at f [] n x e = absurd cc
mapped_at f (a ∷ xs) zero x e = cc
mapped_at f (a ∷ xs) (suc n) x e = mapped_at f xs n x e

mapped_behind : {A B : Type 0} (f : A → B) (n : ℕ) (xs : List A) → drop n (map f xs) ≡ map f (drop n xs)
mapped_behind f zero xs = refl
mapped_behind f (suc n) [] = refl
mapped_behind f (suc n) (a ∷ xs) = mapped_behind f n xs

-- the states that are meant, where any is kept
module _ (programs : List Program) (g : GrainId) (initial : List Value) where
  abbrev types_in : List ProgramTree
  types_in = map (λ (p : Program). p.types) programs

  abbrev pub carried_number : NumberedState → List Value
  carried_number n = carried_from types_in n.number g.kind n.state

  abbrev carried_kept : KeptState → List Value
  carried_kept k = carried_along k.of_time.types (map (λ (q : Program). q.types) k.later) g.kind k.state

  carried_same : (a : Option NumberedState) (b : Option KeptState) → MeansKept programs a b → unwrap_or (option_map carried_number a) initial ≡ unwrap_or (option_map carried_kept b) initial
  carried_same None None means = refl
  carried_same None (Some k) means = absurd means
  carried_same (Some n) None means = absurd means
  carried_same (Some n) (Some k) means =
      let time : slice_get types_in n.number ≡ Some k.of_time.types = mapped_at (λ (p : Program). p.types) programs n.number k.of_time means.of_time in
      let later : drop (n.number + 1) types_in ≡ map (λ (q : Program). q.types) k.later = mapped_behind (λ (p : Program). p.types) (n.number + 1) programs ∙ ap (map (λ (q : Program). q.types)) means.later in
      λ i. carried_on (time i) (later i) g.kind (means.state i)

  some_same : (a : Option NumberedState) (b : Option KeptState) → MeansKept programs a b → is_some a ≡ is_some b
  some_same None None means = refl
  some_same None (Some k) means = absurd means
  some_same (Some n) None means = absurd means
  some_same (Some n) (Some k) means = refl

meant_is : (p : Program) (g : GrainId) (b : Option KeptState)
    → unwrap_or (option_map (λ (k : KeptState). carried_along k.of_time.types (map (λ (q : Program). q.types) k.later) g.kind k.state) b) (initial_states p g) ≡ state_meant p g b
meant_is p g None = refl
meant_is p g (Some k) = refl

-- ---- the log

programs_are : (format : Format) (live : ℕ) (p : Program) (image : Image) (entries : List ReadEntry) → programs_among (entries_logged format live p image entries) ≡ programs_read entries
programs_are format live p image [] = refl
programs_are format live p image (ReadRecord r ∷ entries) = programs_are format live p image entries
programs_are format live p image (ReadUpgrade q ∷ entries) = ap (λ (l : List Program). q ∷ l) (programs_are format live q image entries)

module _ (format : Format) (live : ℕ) (p : Program) (image : Image) (l : LogRead) (g : GrainId) where
  abbrev shapes : List Shape
  shapes = shapes_read p l

  abbrev base : Standing
  base = standing_with p l.base.count l.base.next (states_read format live (shape_in p) image l.base)

  abbrev entries : List LogEntry
  entries = entries_logged format live p image l.entries

  -- the last version of a grain, with the number of its program
  abbrev pub last_named : Option NumberedState
  last_named = last_numbered format live shapes image None (named_in l) g

  last_is : last_named ≡ numbered_after g 0 (numbered_of_base base g) entries
  last_is =
      over_base format live shapes image 0 (shape_in p) refl None l.base.writes (named_by 0 l.entries) false (initial_states p) g
      ∙ ap (λ (b : Bool). last_numbered format live shapes image (if b then Some (record { number = 0; state = base.states g }) else None) (named_by 0 l.entries) g) (or_none (base.held g))
      ∙ over_entries format live shapes image 0 p l.entries refl (numbered_of_base base g) g
    where
      or_none : (b : Bool) → (b || false) ≡ b
      or_none true = refl
      or_none false = refl

  means : MeansKept (p ∷ programs_read l.entries) last_named (kept_after g p (kept_of_base base g) entries)
  means = subst (λ (ps : List Program). MeansKept (p ∷ ps) last_named (kept_after g p (kept_of_base base g) entries)) (programs_are format live p image l.entries)
      (subst (λ (a : Option NumberedState). MeansKept (p ∷ programs_among entries) a (kept_after g p (kept_of_base base g) entries)) (sym last_is) (numbers base entries g))

  -- it is the state for which the log stands, carried from the program of its time, or the initial fields of the program in force
  pub states_meant : unwrap_or (option_map (λ (n : NumberedState). carried_from (types_read p l.entries) n.number g.kind n.state) last_named) (initial_states (standing_of (log_of format live p image l)).program g)
      ≡ (standing_of (log_of format live p image l)).states g
  states_meant =
      carried_same (p ∷ programs_read l.entries) g (initial_states (standing_of (log_of format live p image l)).program g) last_named (kept_after g p (kept_of_base base g) entries) means
      ∙ meant_is (standing_of (log_of format live p image l)).program g (kept_after g p (kept_of_base base g) entries)
      ∙ states base entries g (λ grain none. others_stay (states_read format live (shape_in p) image l.base) (initial_states p) grain none)

  -- and the grain is held where there is one
  pub held_meant : is_some last_named ≡ (standing_of (log_of format live p image l)).held g
  held_meant = some_same (p ∷ programs_read l.entries) g [] last_named (kept_after g p (kept_of_base base g) entries) means ∙ held base entries g
