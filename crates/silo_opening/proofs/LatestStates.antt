-- The last versions of an opened silo's grains have the states that its log stands for.
use Rattle.std.proofs.Common.{◌≡◌, ◌⊎◌, inl, inr, ℕ, Bool, true, false, ◌||◌, if◌then◌else◌, Option, Some, None, List, [], ◌∷◌, Result, Ok, Err, refl, sym, ◌∙◌, ap, subst}
use Rattle.std.specs.Prelude.{unwrap_or, option_map, is_some}
use Rattle.std.specs.List.{list_any, AllByRecursion}
use Rattle.base_types.specs.declared.calls.GrainId.{GrainId}
use Rattle.base_types.specs.declared.calls.Value.{Value}
use Rattle.base_types.specs.declared.shapes.Shape.{Shape}
use Rattle.base_types.specs.declared.stores.Version.{Version}
use Rattle.host_trait.specs.declared.channels.FileId.{FileId}
use Rattle.host_trait.specs.declared.channels.FileId.TheVariants.{Manager, Program as ProgramFile}
use Rattle.host_trait.specs.Files.{same_grain}
use Rattle.host_trait.specs.World.{Image}
use Rattle.field_codec.specs.declared.formats.Format.TheVariants.{Two}
use Rattle.commit_log.specs.declared.records.Named.{Named}
use Rattle.log_reading.specs.declared.faults.FolderFault.{FolderFault}
use Rattle.log_reading.specs.Blocks.{LogRead, log_in_file, shapes_read}
use Rattle.log_reading.specs.Versions.{named_in, named_by_grain, version_numbered, missing_or, first_missing, state_of, latest_of}
use Rattle.log_reading.specs.Sums.{state_after}
use Rattle.log_reading.proofs.Errors.{failed}
use Rattle.log_reading.proofs.LatestVersions.{latest_all, latest_ascend, latest_leave, latest_named}
use Rattle.program_file.specs.Files.{program_in_file}
use Rattle.program_file.specs.Succession.{carried_from}
use Rattle.promise_spec.specs.Programs.{Program}
use Rattle.promise_spec.specs.Entries.{Log, initial_states, standing_of}
use Rattle.promise_spec.specs.Openings.{log_of}
use Rattle.upgraded_logs.specs.KeptStates.{NumberedState}
use Rattle.silo_opening.specs.declared.faults.OpenFault.{OpenFault}
use Rattle.silo_opening.specs.declared.opened_silo.Opened.{Opened}
use Rattle.silo_opening.specs.OpenedSilo.{program_in, programs_of, shapes_of, in_folder, IsOpenedFrom, IsLatest, AreLatest}
use Rattle.silo_opening.proofs.LogStates.{carried_pair}
use Rattle.upgraded_logs.proofs.NumberedStates.{numbered, last_numbered, held_meant}
use Rattle.silo_opening.proofs.PlacedStates.{left_stand}

-- the log that a folder was opened with is read again
same_log : (a b : LogRead) (r : Result LogRead ℕ) → r ≡ Ok a → r ≡ Ok b → a ≡ b
same_log a b r first second = let both : Ok a ≡ Ok b = sym first ∙ second in cc

-- it is never damaged
pub never_damaged : {A : Type 0} (image : Image) (o : Opened) → IsOpenedFrom image o → (fault : FolderFault)
    → ((file : FileId) (place : ℕ) → failed {A = A} fault ≡ failed (FolderFault.Damaged file place) → (p : Program) → program_in_file (image (ProgramFile o.slot)) ≡ Ok p → log_in_file Two p (image (Manager o.slot)) ≡ Err place)
    → ((file : FileId) → failed {A = A} fault ≡ failed (FolderFault.Failed file) → file ≡ Manager o.slot)
    → (e : OpenFault) → e ≡ in_folder fault → (e ≡ OpenFault.Memory) ⊎ (e ≡ OpenFault.DiskFault (Manager o.slot))
never_damaged image o is (FolderFault.Damaged file place) damaged stopped e same = absurd (let clash : Ok is.read ≡ Err place = sym is.read_as ∙ damaged file place refl is.first is.first_is in cc)
never_damaged image o is (FolderFault.Failed file) damaged stopped e same = inr (same ∙ ap OpenFault.DiskFault (stopped file refl))
never_damaged image o is FolderFault.Memory damaged stopped e same = inl same

-- ---- versions that are there

module _ (live : ℕ) (shapes : List Shape) (image : Image) where
  abbrev IsThere : Named → Type 0
  IsThere n = (v : Version) × (version_numbered live Two shapes image n ≡ Ok v)

  there_by : (n : Named) (r : Result Version ℕ) (later : Option (FileId × ℕ)) → missing_or live n.written.grain r later ≡ None → ((v : Version) × (r ≡ Ok v)) × (later ≡ None)
  there_by n (Ok v) later e = ((v, refl), e)
  there_by n (Err place) later e = absurd cc

  all_there : (named : List Named) → first_missing live Two shapes image named ≡ None → AllByRecursion IsThere named
  all_there [] whole = tt
  all_there (n ∷ named) whole =
      let t = there_by n (version_numbered live Two shapes image n) (first_missing live Two shapes image named) whole in
      (t.0, all_there named t.1)

both_of : {A : Type 0} (P Q R : A → Type 0) → ((x : A) → P x → Q x → R x) → (xs : List A) → AllByRecursion P xs → AllByRecursion Q xs → AllByRecursion R xs
both_of P Q R on [] first second = tt
both_of P Q R on (x ∷ xs) first second = (on x first.0 second.0, both_of P Q R on xs first.1 second.1)

-- ---- which grains have a state

or_none : (b : Bool) → (b || false) ≡ b
or_none true = refl
or_none false = refl

module _ (live : ℕ) (shapes : List Shape) (image : Image) (g : GrainId) where
  abbrev any_of : List Named → Bool
  any_of named = list_any (λ n. same_grain n.written.grain g) named

  some_if : (b : Bool) (n : NumberedState) (s : Option NumberedState) → is_some (if b then Some n else s) ≡ (b || is_some s)
  some_if true n s = refl
  some_if false n s = refl

  or_turn : (a b c : Bool) → (a || (b || c)) ≡ ((b || a) || c)
  or_turn true true c = refl
  or_turn true false c = refl
  or_turn false true c = refl
  or_turn false false c = refl

  -- one is left of a grain that is named, or was left before
  some_left : (named : List Named) (s : Option NumberedState) → is_some (last_numbered Two live shapes image s named g) ≡ (any_of named || is_some s)
  some_left [] s = refl
  some_left (n ∷ named) s =
      let same : Bool = same_grain n.written.grain g in
      some_left named (if same then Some (numbered Two live shapes image n) else s)
      ∙ ap (λ (b : Bool). any_of named || b) (some_if same (numbered Two live shapes image n) s)
      ∙ or_turn (any_of named) same (is_some s)

-- exactly the grains that are named have a state
held_is : (live : ℕ) (p : Program) (image : Image) (l : LogRead) (g : GrainId) → list_any (λ n. same_grain n.written.grain g) (named_in l) ≡ (standing_of (log_of Two live p image l)).held g
held_is live p image l g =
    sym (or_none (list_any (λ n. same_grain n.written.grain g) (named_in l))) ∙ sym (some_left live (shapes_read p l) image g (named_in l) None) ∙ held_meant Two live p image l g

-- ---- the versions

pub one_program : (r : Result Program ℕ) (p q : Program) → r ≡ Ok p → r ≡ Ok q → p ≡ q
one_program r p q first second = let both : Ok p ≡ Ok q = sym first ∙ second in cc

pub are_latest : (image : Image) (o : Opened) (is : IsOpenedFrom image o) (l : LogRead) → log_in_file Two is.first (image (Manager o.slot)) ≡ Ok l → (named : List Named) → named ≡ latest_of (named_by_grain (named_in l))
    → AreLatest image o is.log named
are_latest image o is l read named are =
    let slot : ℕ = o.slot in
    let shapes : List Shape = shapes_of o in
    let all_named : List Named = named_by_grain (named_in is.read) in
    let same : l ≡ is.read = same_log l is.read (log_in_file Two is.first (image (Manager slot))) read is.read_as in
    let last : named ≡ latest_of all_named = are ∙ ap (λ (k : LogRead). latest_of (named_by_grain (named_in k))) same in
    let there = latest_all (IsThere slot shapes image) all_named (all_there slot shapes image all_named is.whole) in
    let leave = latest_leave slot Two shapes image None (named_in is.read) in
    let states : (n : Named) → state_after slot Two shapes image None all_named n.written.grain ≡ Some (n.program, state_of (version_numbered slot Two shapes image n))
    → carried_pair (programs_of o) n.written.grain (n.program, state_of (version_numbered slot Two shapes image n)) ≡ (standing_of is.log).states n.written.grain =
    λ n left. sym (ap (λ (s : Option (ℕ × List Value)). unwrap_or (option_map (carried_pair (programs_of o) n.written.grain) s) (initial_states (program_in o) n.written.grain)) left) ∙ left_stand image o is n.written.grain in
    let each : AllByRecursion (IsLatest image o is.log) (latest_of all_named) =
    both_of (IsThere slot shapes image) (λ n. state_after slot Two shapes image None all_named n.written.grain ≡ Some (n.program, state_of (version_numbered slot Two shapes image n))) (IsLatest image o is.log)
    (λ n found left. record {
      version = found.0;
      there = found.1;
      state = ap (λ (r : Result Version ℕ). carried_from (programs_of o) n.program n.written.grain.kind (state_of r)) (sym found.1) ∙ states n left;
    }) (latest_of all_named) there leave in
    let all : AreLatest image o is.log (latest_of all_named) = record {
      latest = λ first again first_is gives. let p : first ≡ is.first = one_program (program_in_file (image (ProgramFile slot))) first is.first first_is is.first_is in
          ap (λ (k : LogRead). latest_of (named_by_grain (named_in k))) (same_log is.read again (log_in_file Two is.first (image (Manager slot))) is.read_as (ap (λ (q : Program). log_in_file Two q (image (Manager slot))) (sym p) ∙ gives));
      order = latest_ascend (named_in is.read);
      held = λ grain. latest_named grain (named_in is.read) ∙ held_is slot is.first image is.read grain ∙ ap (λ (k : Log). (standing_of k).held grain) (sym is.log_is);
      each = each;
    } in
    subst (AreLatest image o is.log) (sym last) all
