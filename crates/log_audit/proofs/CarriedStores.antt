-- A store once a program comes into force, grain by grain.
use Rattle.std.proofs.Common.{◌≡◌, ◌≢◌, inl, inr, ℕ, Bool, true, false, ◌||◌, if◌then◌else◌, List, [], ◌∷◌, ◌++◌, length, Option, Some, None, is_some, refl, sym, ◌∙◌, ap, subst}
use Rattle.std.specs.Prelude.{option_map, unwrap_or, slice_get}
use Rattle.std.specs.Set.{is_member}
use Rattle.std.specs.Ordering.{eq_by_cmp, is_lt, is_eq}
use Rattle.std.specs.declared.cmp.Ordering.{Ordering}
use Rattle.std.specs.declared.cmp.Ordering.TheVariants.{Less, Equal, Greater}
use Rattle.std.proofs.lemmas.Bool.{false≢true}
use Rattle.std.proofs.lemmas.Cmp.{eq_by_cmp_equiv}
use Rattle.std.proofs.lemmas.List.Folds.{list_any-append}
use Rattle.base_types.specs.declared.calls.GrainId.{GrainId}
use Rattle.base_types.specs.declared.calls.Value.{Value}
use Rattle.base_types.specs.declared.shapes.Shape.{Shape}
use Rattle.base_types.specs.declared.stores.Store.{Store}
use Rattle.base_types.specs.declared.stores.Version.{Version}
use Rattle.base_types.specs.Grains.{same_grain}
use Rattle.base_types.specs.Stores.{grain_cmp, state_in, PutsState}
use Rattle.base_types.proofs.GrainOrder.{one_of, from_before, lt_is, grain_total, same_is}
use Rattle.host_trait.specs.World.{Image}
use Rattle.field_codec.specs.declared.formats.Format.{Format}
use Rattle.field_codec.specs.declared.formats.Format.TheVariants.{Two}
use Rattle.grain_log.specs.Places.{IsVersionIn}
use Rattle.grain_log.specs.Reads.{fields_of}
use Rattle.script_tree.specs.Programs.{ProgramTree, program_tree}
use Rattle.script_check.specs.declared.checked_program.Checked.{Checked}
use Rattle.script_check.specs.Shapes.{type_shapes}
use Rattle.script_check.specs.Comparison.{GoesOnFrom}
use Rattle.script_check.specs.Carrying.{fields_of_kind, carried_state}
use Rattle.script_check.proofs.ComparedNames.{types}
use Rattle.script_check.proofs.CarriedFields.{count}
use Rattle.program_file.specs.ProgramsInTurn.{HasItsFields}
use Rattle.program_file.proofs.ProgramNumbers.{has_fields}
use Rattle.log_reading.specs.Entries.{IsEntryIn, entry_said}
use Rattle.log_reading.specs.declared.bodies.Said.{Said}
use Rattle.log_reading.specs.declared.bodies.Said.TheVariants as says
use Rattle.log_reading.specs.Blocks.{entries_said}
use Rattle.log_reading.specs.Steps.{IsSaidIn}
use Rattle.promise_spec.specs.Programs.{Program}
use Rattle.promise_spec.specs.Entries.{Standing, Upgraded, initial_states, after_entry}
use Rattle.promise_spec.specs.Openings.{entries_logged}
use Rattle.log_audit.specs.Replays.{IsStoreOf, AllReplayTo}
use Rattle.log_audit.specs.CarriedStores.{StoreFits, AreOfProgram, carried_in}
use Rattle.log_audit.proofs.Versions.{state_put}

-- ---- grains

abbrev tied : GrainId → GrainId → Bool
tied a b = eq_by_cmp grain_cmp a b

not_both : (o : Ordering) → is_lt o ≡ true → is_eq o ≡ true → ⊥
not_both Less low tie = absurd cc
not_both Equal low tie = absurd cc
not_both Greater low tie = absurd cc

-- grains that the order doesn't tell apart are one
one_by_order : (a b : GrainId) → tied a b ≡ true → a ≡ b
one_by_order a b tie = elim (one_of a b) [
  | inl same ↦ same
  | inr (inl low) ↦ absurd (not_both (grain_cmp a b) (lt_is a b ∙ from_before a b low) tie)
  | inr (inr high) ↦ absurd (not_both (grain_cmp b a) (lt_is b a ∙ from_before b a high) ((eq_by_cmp_equiv grain_total).symm b a ∙ tie))
]

or_true : (a : Bool) → (a || (true || false)) ≡ true
or_true true = refl
or_true false = refl

or_false : (a : Bool) → (a || (false || false)) ≡ a
or_false true = refl
or_false false = refl

-- ---- one after another

module _ (old new : ProgramTree) (store : Store) where
  -- a grain among these has its carried state, and no other has one
  abbrev pub carried_of : List GrainId → GrainId → Option (List Value)
  carried_of done g = if is_member (eq_by_cmp grain_cmp) done g then carried_in old new store g else None

  abbrev carried_if : GrainId → Bool → Option (List Value)
  carried_if g b = if b then carried_in old new store g else None

  module _ (done : List GrainId) (grain g : GrainId) where
    among : is_member (eq_by_cmp grain_cmp) (done ++ grain ∷ []) g ≡ (is_member (eq_by_cmp grain_cmp) done g || (tied g grain || false))
    among = list_any-append (eq_by_cmp grain_cmp g) done (grain ∷ [])

    in_it : tied g grain ≡ true → carried_of (done ++ grain ∷ []) g ≡ carried_in old new store g
    in_it tie = ap (carried_if g) (among ∙ ap (λ (b : Bool). is_member (eq_by_cmp grain_cmp) done g || (b || false)) tie ∙ or_true (is_member (eq_by_cmp grain_cmp) done g))

    beside_it : tied g grain ≡ false → carried_of (done ++ grain ∷ []) g ≡ carried_of done g
    beside_it apart = ap (carried_if g) (among ∙ ap (λ (b : Bool). is_member (eq_by_cmp grain_cmp) done g || (b || false)) apart ∙ or_false (is_member (eq_by_cmp grain_cmp) done g))

  pub carried_more : (made next : Store) (done : List GrainId) (grain : GrainId) (state : List Value) → state_in store grain ≡ Some state → PutsState made next grain (carried_state old new grain.kind state)
      → ((g : GrainId) → state_in made g ≡ carried_of done g) → (g : GrainId) → state_in next g ≡ carried_of (done ++ grain ∷ []) g
  carried_more made next done grain state is puts so_far g = by_test (tied g grain) refl
    where
      by_test : (b : Bool) → tied g grain ≡ b → state_in next g ≡ carried_of (done ++ grain ∷ []) g
      by_test true tie =
          let one : g ≡ grain = one_by_order g grain tie in
          ap (state_in next) one ∙ puts.put ∙ sym (ap (option_map (carried_state old new grain.kind)) is) ∙ ap (carried_in old new store) (sym one) ∙ sym (in_it done grain g tie)
      by_test false apart =
          let other : g ≢ grain = λ one. false≢true (sym apart ∙ ap (λ (h : GrainId). tied h grain) one ∙ (eq_by_cmp_equiv grain_total).refl grain) in
          puts.others g other ∙ so_far g ∙ sym (beside_it done grain g apart)

-- ---- what it is then

-- each state has its type's fields again
pub carried_fits : (old new : ProgramTree) (store made : Store) → GoesOnFrom old new → StoreFits old store → ((g : GrainId) → state_in made g ≡ carried_in old new store g) → StoreFits new made
carried_fits old new store made follows fits carried g state is = by (state_in store g) refl (sym (carried g) ∙ is)
  where
    by : (o : Option (List Value)) → state_in store g ≡ o → option_map (carried_state old new g.kind) o ≡ Some state → HasItsFields new g state
    by None e c = absurd cc
    by (Some s) e c =
        let fit = fits g s e in
        let same : carried_state old new g.kind s ≡ state = (let both : Some (carried_state old new g.kind s) ≡ Some state = c in cc both) in
        record { kind = types old new g.kind follows fit.kind; fields = sym (ap (λ (l : List Value). length l) same) ∙ count (fields_of_kind old g.kind) (fields_of_kind new g.kind) s }

-- no grain has a state yet
pub none_fits : (types : ProgramTree) (store : Store) → ((g : GrainId) → state_in store g ≡ None) → StoreFits types store
none_fits types store none g state is = absurd (let no : None ≡ Some state = sym (none g) ∙ is in cc no)

-- one more that has its type's fields
pub put_fits : (types : ProgramTree) (old new : Store) (grain : GrainId) (state : List Value) → PutsState old new grain state → HasItsFields types grain state → StoreFits types old → StoreFits types new
put_fits types old new grain state puts fit fits g now is = by (same_grain grain g) refl (sym (state_put old new grain g state puts) ∙ is)
  where
    by : (b : Bool) → same_grain grain g ≡ b → (if same_grain grain g then Some state else state_in old g) ≡ Some now → HasItsFields types g now
    by true same e =
        let one : state ≡ now = (let both : Some state ≡ Some now = sym (ap (λ (c : Bool). if c then Some state else state_in old g) same) ∙ e in cc both) in
        subst (λ (h : GrainId). HasItsFields types h now) (same_is grain g same) (subst (HasItsFields types grain) one fit)
    by false other e = fits g now (sym (ap (λ (c : Bool). if c then Some state else state_in old g) other) ∙ e)

-- a version that was read has them, by the shape of its program
pub version_fits : (types : ProgramTree) (shape : Shape) (grain : GrainId) (format : Format) (size : ℕ) (v : Version) → shape ≡ record { types = type_shapes types } → IsVersionIn format (fields_of (slice_get shape.types grain.kind)) size v
    → HasItsFields types grain v.state
version_fits types shape grain format size v is fits =
    let here : IsVersionIn format (fields_of (slice_get (type_shapes types) grain.kind)) size v = subst (λ (s : Shape). IsVersionIn format (fields_of (slice_get s.types grain.kind)) size v) is fits in
    by (fields_of (slice_get (type_shapes types) grain.kind)) refl here
  where
    by : (o : Option ℕ) → fields_of (slice_get (type_shapes types) grain.kind) ≡ o → IsVersionIn format o size v → HasItsFields types grain v.state
    by None e none = absurd none
    by (Some n) e is = has_fields (types ∷ []) 0 types grain v.state refl (e ∙ ap (λ (m : ℕ). Some m) (sym is.count))

-- one more of a list
pub fits_more : (types : ProgramTree) (ws new : List (GrainId × List Value)) (grain : GrainId) (state : List Value) → new ≡ ws ++ (grain, state) ∷ [] → HasItsFields types grain state → AreOfProgram types ws → AreOfProgram types new
fits_more types ws new grain state are fit all = subst (AreOfProgram types) (sym are) (behind ws all)
  where
    behind : (l : List (GrainId × List Value)) → AreOfProgram types l → AreOfProgram types (l ++ (grain, state) ∷ [])
    behind [] all = (fit, tt)
    behind (w ∷ l) all = (all.0, behind l all.1)

-- and it has what stands behind the upgrade
pub stands_carried : (store made : Store) (before : Standing) (q : Program) → IsStoreOf store before → ((g : GrainId) → state_in made g ≡ carried_in before.program.types q.types store g) → IsStoreOf made (after_entry before (Upgraded q))
stands_carried store made before q has carried = record {
  held = λ g. ap is_some (carried g) ∙ still (carried_state before.program.types q.types g.kind) (state_in store g) ∙ has.held g;
  states = λ i g. each g i;
}
  where
    still : (f : List Value → List Value) (o : Option (List Value)) → is_some (option_map f o) ≡ is_some o
    still f None = refl
    still f (Some s) = refl

    by : (g : GrainId) (f : List Value → List Value) (o : Option (List Value)) (now : List Value) → (is_some o ≡ true → unwrap_or o (initial_states before.program g) ≡ now) → unwrap_or (option_map f o) (initial_states q g) ≡ (if is_some o then f now else initial_states q g)
    by g f None now same = refl
    by g f (Some s) now same = ap f (same refl)

    each : (g : GrainId) → unwrap_or (state_in made g) (initial_states q g) ≡ (if before.held g then carried_state before.program.types q.types g.kind (before.states g) else initial_states q g)
    each g =
        ap (λ (o : Option (List Value)). unwrap_or o (initial_states q g)) (carried g)
        ∙ by g (carried_state before.program.types q.types g.kind) (state_in store g) (before.states g) (λ yes. (λ i. has.states i g))
        ∙ ap (λ (b : Bool). if b then carried_state before.program.types q.types g.kind (before.states g) else initial_states q g) (has.held g)

-- so an upgrade replays, whatever it says
pub replays_upgrade : (live : ℕ) (image : Image) (before : Standing) (store made : Store) (said : Said) (text : List ℕ) (checked : Checked) → said ≡ says.Upgrade text checked → IsStoreOf store before
    → ((g : GrainId) → state_in made g ≡ carried_in before.program.types (program_tree checked) store g) → AllReplayTo before (entries_logged Two live before.program image (entries_said (entry_said said))) made None
replays_upgrade live image before store made said text checked is has carried =
    subst (λ (s : Said). AllReplayTo before (entries_logged Two live before.program image (entries_said (entry_said s))) made None) (sym is) (tt, stands_carried store made before (record { text = text; types = program_tree checked }) has carried)

-- and it goes on from the program in force, where it is one that may come behind it
pub follows_on_from : (types : ProgramTree) (said : Said) (text : List ℕ) (checked : Checked) → said ≡ says.Upgrade text checked → IsSaidIn Two types said → GoesOnFrom types (program_tree checked)
follows_on_from types said text checked is may = (subst (λ (s : Said). IsEntryIn Two (record { text = []; types = types }) (entry_said s)) is (may (record { text = []; types = types }) refl)).1
