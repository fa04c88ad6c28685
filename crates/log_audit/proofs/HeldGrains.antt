-- The grains that a log names are those that have a state in the store.
use Rattle.std.proofs.Common.{◌≡◌, ℕ, Bool, true, false, List, [], ◌∷◌, ◌++◌, map, Some, None, refl, sym, ◌∙◌, ap}
use Rattle.std.specs.Prelude.{◌||◌, zip}
use Rattle.std.specs.List.{list_any}
use Rattle.base_types.specs.declared.calls.GrainId.{GrainId}
use Rattle.base_types.specs.declared.calls.Value.{Value}
use Rattle.base_types.specs.Grains.{same_grain}
use Rattle.host_trait.specs.World.{Image}
use Rattle.commit_log.specs.declared.records.CommitRecord.{CommitRecord}
use Rattle.commit_log.specs.declared.records.Written.{Written}
use Rattle.promise_spec.specs.Programs.{Program, shape_in}
use Rattle.promise_spec.specs.Records.{Commit}
use Rattle.promise_spec.specs.Entries.{Recorded, Upgraded, Standing, is_among, after_entry, after_entries, standing_of}
use Rattle.field_codec.specs.declared.formats.Format.TheVariants.{Two}
use Rattle.promise_spec.specs.Openings.{ReadEntry, ReadRecord, ReadUpgrade, LogRead, records_read, commit_of, version_named, state_of, entries_logged, log_of}
use Rattle.log_audit.specs.WrittenGrains.{grains_recorded, grains_of_log}

pub or_behind : (a b c : Bool) → ((a || b) || c) ≡ (a || (b || c))
or_behind true b c = refl
or_behind false b c = refl

or_between : (a b c : Bool) → ((a || b) || c) ≡ (b || (a || c))
or_between true true c = refl
or_between true false c = refl
or_between false true c = refl
or_between false false c = refl

-- the states at the places of a record and of a log's beginning
abbrev state_of_write : ℕ → Program → Image → CommitRecord → Written → List Value
state_of_write live p image r w = state_of (version_named live Two (shape_in p) image (record { unit = Some r.unit; program = 0; written = w }))

abbrev state_saved : ℕ → Program → Image → Written → List Value
state_saved live p image w = state_of (version_named live Two (shape_in p) image (record { unit = None; program = 0; written = w }))

module _ (grain : GrainId) where
  abbrev one_of : List GrainId → Bool
  one_of gs = list_any (λ g. same_grain g grain) gs

  any_both : (xs ys : List GrainId) → one_of (xs ++ ys) ≡ (one_of xs || one_of ys)
  any_both [] ys = refl
  any_both (x ∷ xs) ys = ap (λ (b : Bool). same_grain x grain || b) (any_both xs ys) ∙ sym (or_behind (same_grain x grain) (one_of xs) (one_of ys))

  -- whatever states stand beside the grains
  among_pairs : (f : Written → List Value) (ws : List Written) → is_among (zip (map (λ w. w.grain) ws) (map f ws)) grain ≡ one_of (map (λ w. w.grain) ws)
  among_pairs f [] = refl
  among_pairs f (w ∷ ws) = ap (λ (b : Bool). same_grain w.grain grain || b) (among_pairs f ws)

  among_read : (f : Written → List Value) (ws : List Written) → is_among (map (λ w. (w.grain, f w)) ws) grain ≡ one_of (map (λ w. w.grain) ws)
  among_read f [] = refl
  among_read f (w ∷ ws) = ap (λ (b : Bool). same_grain w.grain grain || b) (among_read f ws)

  module _ (live : ℕ) (image : Image) where
    or_none : (b : Bool) → b ≡ (b || false)
    or_none true = refl
    or_none false = refl

    held_on : (p : Program) (before : Standing) (entries : List ReadEntry) → (after_entries before (entries_logged Two live p image entries)).held grain ≡ (before.held grain || one_of (grains_recorded (records_read entries)))
    held_on p before [] = or_none (before.held grain)
    held_on p before (ReadRecord r ∷ entries) =
        let c : Commit = commit_of Two live (shape_in p) image r in
        held_on p (after_entry before (Recorded c)) entries
        ∙ ap (λ (b : Bool). (b || before.held grain) || one_of (grains_recorded (records_read entries))) (among_pairs (λ w. state_of_write live p image r w) r.writes)
        ∙ or_between (one_of (map (λ w. w.grain) r.writes)) (before.held grain) (one_of (grains_recorded (records_read entries)))
        ∙ ap (λ (b : Bool). before.held grain || b) (sym (any_both (map (λ w. w.grain) r.writes) (grains_recorded (records_read entries))))
    held_on p before (ReadUpgrade q ∷ entries) = held_on q (after_entry before (Upgraded q)) entries

    pub held_of_log : (p : Program) (l : LogRead) → one_of (grains_of_log l) ≡ (standing_of (log_of Two live p image l)).held grain
    held_of_log p l =
        any_both (map (λ w. w.grain) l.base.writes) (grains_recorded (records_read l.entries))
        ∙ ap (λ (b : Bool). b || one_of (grains_recorded (records_read l.entries))) (sym (among_read (λ w. state_saved live p image w) l.base.writes))
        ∙ sym (held_on p (log_of Two live p image l).base l.entries)
