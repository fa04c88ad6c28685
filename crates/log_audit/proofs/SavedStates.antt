-- What a log begins with, as it is kept.
use Rattle.std.proofs.Common.{◌≡◌, ℕ, Bool, true, false, List, ◌∷◌, fold, None, Ok, refl, sym, ◌∙◌, ap}
use Rattle.std.specs.Prelude.{Option, unwrap_or, is_some, ◌||◌}
use Rattle.base_types.specs.declared.calls.GrainId.{GrainId}
use Rattle.base_types.specs.declared.calls.Value.{Value}
use Rattle.base_types.specs.declared.shapes.Shape.{Shape}
use Rattle.base_types.specs.declared.stores.Store.{Store}
use Rattle.base_types.specs.declared.stores.Version.{Version}
use Rattle.base_types.specs.Grains.{same_grain}
use Rattle.base_types.specs.Stores.{state_in, PutsState}
use Rattle.host_trait.specs.World.{Image}
use Rattle.field_codec.specs.declared.formats.Format.TheVariants.{Two}
use Rattle.commit_log.specs.declared.records.Written.{Written}
use Rattle.log_reading.specs.Blocks.{LogRead}
use Rattle.log_reading.specs.Versions.{version_named, state_of}
use Rattle.script_tree.specs.Programs.{ProgramTree}
use Rattle.script_meaning.specs.Play.{found_in}
use Rattle.promise_spec.specs.Programs.{Program, shape_in}
use Rattle.promise_spec.specs.Records.{States, put_state}
use Rattle.promise_spec.specs.Entries.{is_among}
use Rattle.promise_spec.specs.Openings.{log_of}
use Rattle.log_audit.specs.Replays.{first_states, states_saved_at, IsStoreOf}
use Rattle.log_audit.proofs.Versions.{saved_as, state_put}
use Rattle.log_audit.proofs.Replays.{one_kept, or_swapped, some_put}
use Rattle.log_audit.proofs.HeldGrains.{or_behind}

module _ (live : ℕ) (shape : Shape) (image : Image) (w : Written) (more left : List Written) (v : Version) (old new : Store) (next : left ≡ w ∷ more) (is : version_named live Two shape image (saved_as w) ≡ Ok v)
    (puts : PutsState old new w.grain v.state) where
  one_saved : states_saved_at live shape image left ≡ (w.grain, v.state) ∷ states_saved_at live shape image more
  one_saved = ap (states_saved_at live shape image) next ∙ ap (λ (s : List Value). (w.grain, s) ∷ states_saved_at live shape image more) (ap state_of is)

  -- one version more was put
  pub states_more : (types : ProgramTree) (all : States) → fold put_state (found_in types old) (states_saved_at live shape image left) ≡ all → fold put_state (found_in types new) (states_saved_at live shape image more) ≡ all
  states_more types all so_far =
      ap (λ (s : States). fold put_state s (states_saved_at live shape image more)) (one_kept types old new w.grain v.state puts)
      ∙ sym (ap (λ (l : List (GrainId × List Value)). fold put_state (found_in types old) l) one_saved) ∙ so_far

  pub held_more : (g : GrainId) (all : Bool) → (is_among (states_saved_at live shape image left) g || is_some (state_in old g)) ≡ all → (is_among (states_saved_at live shape image more) g || is_some (state_in new g)) ≡ all
  held_more g all so_far =
      let later : Bool = is_among (states_saved_at live shape image more) g in
      ap (λ (b : Bool). later || b) (ap is_some (state_put old new w.grain g v.state puts) ∙ some_put (same_grain w.grain g) v.state (state_in old g))
      ∙ or_swapped later (same_grain w.grain g) (is_some (state_in old g)) ∙ sym (or_behind (same_grain w.grain g) later (is_some (state_in old g)))
      ∙ sym (ap (λ (l : List (GrainId × List Value)). is_among l g || is_some (state_in old g)) one_saved) ∙ so_far

-- nothing is put yet
or_none : (b : Bool) → (b || false) ≡ b
or_none true = refl
or_none false = refl

pub held_none : (ws : List (GrainId × List Value)) (store : Store) (g : GrainId) → state_in store g ≡ None → (is_among ws g || is_some (state_in store g)) ≡ is_among ws g
held_none ws store g none = ap (λ (o : Option (List Value)). is_among ws g || is_some o) none ∙ or_none (is_among ws g)

pub states_none : (types : ProgramTree) (store : Store) → ((g : GrainId) → state_in store g ≡ None) → found_in types store ≡ first_states types
states_none types store none = λ i g. unwrap_or (none g i) (first_states types g)

-- the states of a beginning's versions are those of what it stands for
pub stands_saved : (live : ℕ) (p : Program) (image : Image) (read : LogRead) (store : Store) → ((g : GrainId) → is_some (state_in store g) ≡ is_among (states_saved_at live (shape_in p) image read.base.writes) g)
    → found_in p.types store ≡ fold put_state (first_states p.types) (states_saved_at live (shape_in p) image read.base.writes) → IsStoreOf store (log_of Two live p image read).base
stands_saved live p image read store held states = record { held = held; states = states }
