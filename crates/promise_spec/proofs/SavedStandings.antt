-- A checkpoint of all grains that have a state stands for the log.
use Rattle.std.proofs.Common.{◌≡◌, ℕ, Bool, true, false, ◌||◌, if◌then◌else◌, List, [], ◌∷◌, fold, refl, sym, ap, subst, ◌∙◌}
use Rattle.std.specs.List.{AllByRecursion}
use Rattle.std.proofs.lemmas.Bool.{false≢true}
use Rattle.base_types.specs.declared.calls.GrainId.{GrainId}
use Rattle.base_types.specs.declared.calls.Value.{Value}
use Rattle.script_holding.specs.Holding.{same_grain}
use Rattle.host_trait.proofs.Names.{same_grain-is}
use Rattle.host_trait.specs.World.{Image}
use Rattle.field_codec.specs.declared.formats.Format.{Format}
use Rattle.promise_spec.specs.Logs.{IsLogIn}
use Rattle.promise_spec.specs.Records.{States, put_state}
use Rattle.promise_spec.specs.Entries.{Standing, initial_states, is_among, Log, standing_of, checkpointed}
use Rattle.promise_spec.specs.Blocks.{Checkpoint, states_saved, standing_saved, IsSavedFrom}
use Rattle.promise_spec.proofs.Growing.{IsPlain, others_stay, plain_base, plain_entries}

module _ (target : States) where
  -- each has the state that is aimed at
  abbrev Aims : List (GrainId × List Value) → Type 0
  Aims ws = AllByRecursion (λ (w : GrainId × List Value). w.1 ≡ target w.0) ws

  -- a grain that has it already keeps it
  kept_on : (ws : List (GrainId × List Value)) (states : States) (grain : GrainId) → Aims ws → states grain ≡ target grain → fold put_state states ws grain ≡ target grain
  kept_on [] states grain aims has = has
  kept_on (w ∷ ws) states grain aims has = kept_on ws (put_state states w) grain aims.1 (by (same_grain w.0 grain) refl)
    where
      by : (b : Bool) → same_grain w.0 grain ≡ b → (if same_grain w.0 grain then w.1 else states grain) ≡ target grain
      by true e = ap (λ (b : Bool). if b then w.1 else states grain) e ∙ aims.0 ∙ ap target (same_grain-is w.0 grain e)
      by false e = ap (λ (b : Bool). if b then w.1 else states grain) e ∙ has

  -- one that is among them gets it
  gets : (ws : List (GrainId × List Value)) (states : States) (grain : GrainId) → Aims ws → is_among ws grain ≡ true → fold put_state states ws grain ≡ target grain
  gets [] states grain aims there = absurd (false≢true there)
  gets (w ∷ ws) states grain aims there = by (same_grain w.0 grain) refl (gets ws (put_state states w) grain aims.1)
    where
      by : (b : Bool) → same_grain w.0 grain ≡ b → (is_among ws grain ≡ true → fold put_state (put_state states w) ws grain ≡ target grain) → fold put_state (put_state states w) ws grain ≡ target grain
      by true e more = kept_on ws (put_state states w) grain aims.1 (ap (λ (b : Bool). if b then w.1 else states grain) e ∙ aims.0 ∙ ap target (same_grain-is w.0 grain e))
      by false e more = more (sym (ap (λ (b : Bool). b || is_among ws grain) e) ∙ there)

-- a checkpoint of what stands
pub stands_alike : (standing : Standing) (ck : Checkpoint) → IsPlain standing → IsSavedFrom standing ck → standing_saved standing.program ck ≡ standing
stands_alike standing ck plain is =
    λ i. record { count = is.count i; next = is.next i; program = standing.program; held = λ grain. is.held grain i; states = λ grain. state_is grain i }
  where
    state_is : (grain : GrainId) → fold put_state (initial_states standing.program) (states_saved ck) grain ≡ standing.states grain
    state_is grain = by (is_among (states_saved ck) grain) refl
      where
        by : (b : Bool) → is_among (states_saved ck) grain ≡ b → fold put_state (initial_states standing.program) (states_saved ck) grain ≡ standing.states grain
        by true e = gets standing.states (states_saved ck) (initial_states standing.program) grain is.states e
        by false e = others_stay (states_saved ck) (initial_states standing.program) grain e ∙ sym (plain grain (sym (is.held grain) ∙ e))

-- so does one of what an image's log stands for
pub stands_for : (format : Format) (slot : ℕ) (image : Image) (log : Log) (ck : Checkpoint) → IsLogIn format slot image log → IsSavedFrom (standing_of log) ck
    → record { base = standing_saved (standing_of log).program ck; entries = [] } ≡ checkpointed log
stands_for format slot image log ck is saved =
    let plain : IsPlain (standing_of log) = plain_entries log.base log.entries (subst IsPlain (sym is.stands.base) (plain_base is.stands.program is.stands.begins)) in
    let same : standing_saved (standing_of log).program ck ≡ standing_of log = stands_alike (standing_of log) ck plain saved in
    λ i. record { base = same i; entries = [] }
