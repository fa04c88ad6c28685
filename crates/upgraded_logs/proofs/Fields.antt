-- The states of grains have the fields of their types.
use Rattle.std.proofs.Common.{◌≡◌, ℕ, Bool, true, false, cond, List, [], ◌∷◌, map, length, Option, Some, None, refl, sym, ap, ◌∙◌}
use Rattle.std.specs.Prelude.{fold, zip, slice_get, option_map}
use Rattle.std.proofs.lemmas.List.{length-map}
use Rattle.std.proofs.lemmas.Option.{slice_get-map}
use Rattle.base_types.specs.declared.calls.GrainId.{GrainId}
use Rattle.base_types.specs.declared.calls.UnitNo.{UnitNo}
use Rattle.base_types.specs.declared.calls.Value.{Value}
use Rattle.host_trait.specs.World.{Image}
use Rattle.field_codec.specs.declared.formats.Format.{Format}
use Rattle.script_holding.specs.Holding.{same_grain}
use Rattle.script_meaning.specs.Play.{initial_of}
use Rattle.script_meaning.proofs.Grains.{same_grain_is}
use Rattle.script_tree.specs.declared.programs.FieldDecl.{FieldDecl}
use Rattle.script_tree.specs.Programs.{TypeTree, ProgramTree}
use Rattle.script_check.specs.Shapes.{value_of, type_shape}
use Rattle.grain_log.specs.Reads as shapes
use Rattle.commit_log.specs.declared.records.Written.{Written}
use Rattle.script_check.specs.Carrying.{type_fields, fields_of_kind, carried_state}
use Rattle.script_check.proofs.CarriedFields.{count}
use Rattle.promise_spec.specs.Programs.{Program, shape_in}
use Rattle.promise_spec.specs.Records.{States, put_state}
use Rattle.promise_spec.specs.Entries.{Standing, initial_states, LogEntry, Recorded, Upgraded, after_entry, after_entries}
use Rattle.promise_spec.specs.Versions.{WritesStand}
use Rattle.promise_spec.specs.Blocks.{AreKept}
use Rattle.upgraded_logs.specs.Upgrades.{HaveTheirFields}

some_is : (a b : ℕ) → Some a ≡ Some b → a ≡ b
some_is a b e = cc

of_shape : (o : Option TypeTree) (n : ℕ) → shapes.fields_of (option_map type_shape o) ≡ Some n → n ≡ length (type_fields o)
of_shape None n e = absurd cc
of_shape (Some t) n e = sym (some_is (length (map (λ (f : FieldDecl). value_of f.initial) t.fields)) n e) ∙ length-map t.fields (λ (f : FieldDecl). value_of f.initial)

-- a type's number of fields, by the program's shape
shape_fields : (types : ProgramTree) (kind n : ℕ) → shapes.fields_of (slice_get (map type_shape types) kind) ≡ Some n → n ≡ length (fields_of_kind types kind)
shape_fields types kind n e = of_shape (slice_get types kind) n (sym (ap shapes.fields_of (slice_get-map type_shape types kind)) ∙ e)

initial_fit : (o : Option TypeTree) → length (initial_of o) ≡ length (type_fields o)
initial_fit None = refl
initial_fit (Some t) = length-map t.fields (λ (f : FieldDecl). value_of f.initial)

-- each grain's state has its type's fields
abbrev Fit : Program → States → Type 0
Fit p states = (g : GrainId) → length (states g) ≡ length (fields_of_kind p.types g.kind)

put_fits : (p : Program) (states : States) (w : GrainId) (state : List Value) → length state ≡ length (fields_of_kind p.types w.kind) → Fit p states → Fit p (put_state states (w, state))
put_fits p states w state one fit g = by_case (same_grain w g) refl where
  by_case : (same : Bool) → same_grain w g ≡ same → length (cond same state (states g)) ≡ length (fields_of_kind p.types g.kind)
  by_case true e = one ∙ ap (λ (x : GrainId). length (fields_of_kind p.types x.kind)) (same_grain_is w g e)
  by_case false e = fit g

writes_fit : (format : Format) (live : ℕ) (image : Image) (p : Program) (unit : UnitNo) (ws : List Written) (new : List (List Value)) (states : States) → WritesStand format live (shape_in p) image unit ws new → Fit p states → Fit p (fold put_state states (zip (map (λ w. w.grain) ws) new))
writes_fit format live image p unit [] [] states h fit = fit
writes_fit format live image p unit [] (s ∷ new) states h fit = fit
writes_fit format live image p unit (w ∷ ws) [] states h fit = fit
writes_fit format live image p unit (w ∷ ws) (s ∷ new) states h fit =
    writes_fit format live image p unit ws new (put_state states (w.grain, s)) h.1 (put_fits p states w.grain s (shape_fields p.types w.grain.kind (length s) h.0.fields) fit)

upgrade_fits : (s : Standing) (q : Program) → Fit q ((after_entry s (Upgraded q)).states)
upgrade_fits s q g = by_case (s.held g) where
  by_case : (b : Bool) → length (cond b (carried_state s.program.types q.types g.kind (s.states g)) (initial_states q g)) ≡ length (fields_of_kind q.types g.kind)
  by_case true = count (fields_of_kind s.program.types g.kind) (fields_of_kind q.types g.kind) (s.states g)
  by_case false = initial_fit (slice_get q.types g.kind)

pub fields : (format : Format) (live : ℕ) (image : Image) (before : Standing) (entries : List LogEntry) → AreKept format live image before.program entries → HaveTheirFields before → HaveTheirFields (after_entries before entries)
fields format live image before [] h fit = fit
fields format live image before (Recorded c ∷ entries) h fit =
    fields format live image (after_entry before (Recorded c)) entries h.1 (writes_fit format live image before.program c.logged.unit c.logged.writes c.states before.states h.0.whole fit)
fields format live image before (Upgraded q ∷ entries) h fit = fields format live image (after_entry before (Upgraded q)) entries h.1 (upgrade_fits before q)
