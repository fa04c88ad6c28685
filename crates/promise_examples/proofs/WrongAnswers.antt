-- Answers that don't keep the promise, over any folder and to any words.
use Rattle.silo_spec.specs.OpenedDisks.{opening_syncs}
use Rattle.promise_spec.specs.Entries.{Log, standing_of}
use Rattle.std.proofs.Common.{false, ◌≡◌, ◌≢◌, ◌⊎◌, inl, inr, ℕ, ◌+◌, ◌-◌, ◌^◌, ◌<◌, ◌≤◌, List, [], ◌∷◌, ◌++◌, length, Some, None, Ok, Err, refl, sym, ap, subst, ◌∙◌, arith, true}
use Rattle.std.proofs.lemmas.List.{append-nil, append_cancel_left}
use Rattle.base_types.specs.declared.calls.GrainId.{GrainId}
use Rattle.base_types.specs.declared.entries.Entry.{Entry}
use Rattle.base_types.specs.declared.shapes.Shape.{Shape}
use Rattle.core_model.specs.Tests.{is_before}
use Rattle.core_model.specs.CoreState.{Member}
use Rattle.host_trait.specs.Faults.{Rose}
use Rattle.host_trait.specs.declared.channels.Channel.{Channel}
use Rattle.host_trait.specs.declared.channels.Channel.TheVariants.{Input, Output, File}
use Rattle.host_trait.specs.declared.channels.FileId.{FileId}
use Rattle.host_trait.specs.declared.channels.FileId.TheVariants as file
use Rattle.host_trait.specs.World.{Image, IsImage}
use Rattle.serde_json.specs.Written.{compact_text}
use Rattle.request_wire.specs.Lines.{lines_of}
use Rattle.request_wire.specs.Reply.{reply_data, reply_line}
use Rattle.script_tree.specs.Programs.{ProgramTree}
use Rattle.silo_spec.specs.Silos.{program_file, IsSilo, HasProgram}
use Rattle.promise_spec.specs.Programs.{Program, ProgramFault, IsChecked, shape_in, unless_fault, checked_in, program_in}
use Rattle.field_codec.specs.declared.formats.Format.TheVariants.{One, Two}
use Rattle.field_codec.specs.declared.formats.Format.{Format}
use Rattle.silo_spec.proofs.Magics.{silo_format}
use Rattle.promise_spec.specs.Logs.{IsFormat, IsMagic, IsLog}
use Rattle.promise_spec.specs.Images.{IsSound}
use Rattle.promise_spec.specs.Openings.{Reading, NoSilo, OtherFormat, DamagedAt, Reads, program_in_file, sessions_read, reading_in, opened_as}
use Rattle.promise_spec.specs.Outputs.{reply_lines}
use Rattle.promise_spec.specs.Words.{Command, Init, Run, Show, History, Audit, Load, Check, Compact, Upgrade, Migrate, Manner}
use Rattle.promise_spec.specs.Endings as ending
use Rattle.promise_spec.specs.Windows.{first_bad, told_number, before_bad, whole_windows}
use Rattle.promise_spec.specs.Courses.{Observed, lines, seen_at_entry}
use Rattle.promise_spec.specs.Refusals.{IsHead, IsNamedIn, IsReadFor, IsRefusedBy, MustBeRead, IsUnopened, IsEitherManager}
use Rattle.promise_spec.specs.Reports.{history_text}
use Rattle.promise_spec.specs.Promise.{AllowsBefore, AllowedBy, Promises}
use Rattle.promise_laws.specs.AnsweredRuns.{HasAnswered, HasOpened}
use Rattle.promise_laws.proofs.OpenedRuns.{anywhere_opened}
use Rattle.promise_spec.specs.Commands.{MakesAs, MakesSilo, MayCut, IsReported, Reports, ShowsStates, Audits}
use Rattle.promise_spec.specs.Compaction.{IsRewritten, Compacts}
use Rattle.promise_spec.specs.Migration.{Migrates}
use Rattle.promise_spec.specs.Upgrading.{RefusesInput, UpgradesAs, UpgradesSilo}
use Rattle.promise_spec.proofs.Slots.{one_slot, some_live}
use Rattle.promise_spec.specs.Loads.{IsUnmadeBy, Loads}
use Rattle.promise_spec.specs.Checks.{Checks}
use Rattle.promise_spec.specs.Calls.{Understands, Obeys, Serves, AnswersAs, MayGoOn}
use Rattle.promise_spec.proofs.Lists.{some_is, in_append}
use Rattle.promise_examples.proofs.WholeInputs.{all_lines}
use Rattle.promise_examples.proofs.BadLines.{one_front}
use Rattle.promise_spec.proofs.Openings.{log_is_read, no_silo_is_read, other_is_read, sound_is_read, reads_is, reads_is_live}
use Rattle.silo_spec.specs.Slots.{IsLive}

-- ---- a folder reads in one way

not_two : (reading : Reading) (live : ℕ) (log : Log) (f : FileId) (place : ℕ) → reading ≡ Reads live log → reading ≡ DamagedAt f place → ⊥
not_two reading live log f place a b = let e : Reads live log ≡ DamagedAt f place = sym a ∙ b in absurd (cc e)

not_none : (reading : Reading) (live : ℕ) (log : Log) → reading ≡ Reads live log → reading ≡ NoSilo → ⊥
not_none reading live log a b = let e : Reads live log ≡ NoSilo = sym a ∙ b in absurd (cc e)

not_other : (reading : Reading) (live : ℕ) (log : Log) → reading ≡ Reads live log → reading ≡ OtherFormat → ⊥
not_other reading live log a b = let e : Reads live log ≡ OtherFormat = sym a ∙ b in absurd (cc e)

other_place : (reading : Reading) (f : FileId) (place : ℕ) → reading ≡ OtherFormat → reading ≡ DamagedAt f place → ⊥
other_place reading f place a b = let e : OtherFormat ≡ DamagedAt f place = sym a ∙ b in absurd (cc e)

-- a folder of format 1 is another's
old_is_other : (live : ℕ) (image : Image) → IsLive IsMagic live image → IsSilo (IsFormat One) (image (file.Manager live)) → opened_as image ≡ OtherFormat
old_is_other live image is old = (other_is_read Two image).1 (live, is, λ new. (let same : One ≡ Two = silo_format One Two (image (file.Manager live)) old new in absurd (cc same)))

-- a sound folder isn't damaged, whichever format it has
sound_undamaged : (live : ℕ) (image : Image) (sound : IsSound live image) (format : Format) → sound.format ≡ format → (f : FileId) (place : ℕ) → opened_as image ≡ DamagedAt f place → ⊥
sound_undamaged live image sound One named f place damaged =
    other_place (opened_as image) f place (old_is_other live image sound.is.is_live (subst (λ (g : Format). IsSilo (IsFormat g) (image (file.Manager live))) named sound.is.is.stands.silo)) damaged
sound_undamaged live image sound Two named f place damaged =
    not_two (opened_as image) live sound.log f place (subst (λ (g : Format). reading_in g image ≡ Reads live sound.log) named (sound_is_read live image sound)) damaged

-- ---- refusals

pub not_opened : (r : Observed) → IsUnopened r → r.ending ≡ ending.Done → ⊥
not_opened r unopened is = subst (IsRefusedBy Two (seen_at_entry r) (opened_as (seen_at_entry r))) is unopened.refused

pub more_syncs : (r : Observed) → IsUnopened r → r.old.syncs + opening_syncs (seen_at_entry r) < r.new.syncs → ⊥
more_syncs r unopened more = let most = unopened.syncs in omega (arith, most, more)

pub read_unopened : (r : Observed) → IsUnopened r → r.old.input ≢ [] → r.new.input ≡ [] → ⊥
read_unopened r unopened some all = some (sym unopened.unread ∙ all)

-- a grain's file is not a manager file, nor a program's
not_manager : (live slot : ℕ) (grain : GrainId) → file.Grain slot grain ≡ file.Manager live → ⊥
not_manager live slot grain same = absurd (cc same)

neither_manager : (slot : ℕ) (grain : GrainId) → IsEitherManager (file.Grain slot grain) → ⊥
neither_manager slot grain (inl same) = absurd (cc same)
neither_manager slot grain (inr same) = absurd (cc same)

no_head : (live slot : ℕ) (grain : GrainId) → IsHead live (file.Grain slot grain) → ⊥
no_head live slot grain (inl either) = neither_manager slot grain either
no_head live slot grain (inr same) = absurd (cc same)

same_file : (live slot : ℕ) (grain other : GrainId) → file.Grain slot grain ≡ file.Grain live other → (live ≡ slot) × (other ≡ grain)
same_file live slot grain other same = (cc, cc)

named_of_file : (image : Image) (live slot : ℕ) (grain : GrainId) → IsReadFor Two live image (file.Grain slot grain) → IsNamedIn Two slot image grain
named_of_file image live slot grain (inl head) = absurd (no_head live slot grain head)
named_of_file image live slot grain (inr named) =
    let same = same_file live slot grain named.0 named.1 in
    subst (λ (n : ℕ). IsNamedIn Two n image grain) same.0 (subst (IsNamedIn Two live image) same.1 named.2)

-- the line of an entry is no empty text
said_some : (shape : Shape) (entries : List Entry) (e : Entry) → Member e entries → [] ≡ reply_lines shape entries ++ [] → ⊥
said_some shape [] e there same = absurd there
said_some shape (x ∷ entries) e there same =
    let feed : Member 10 (reply_line shape x) = in_append 10 (compact_text (reply_data shape x)) (10 ∷ []) (inr (inl refl)) in
    let all : List ℕ = reply_lines shape (x ∷ entries) in
    let inside : Member 10 all = in_append 10 (reply_line shape x) (reply_lines shape entries) (inl feed) in
    absurd (subst (λ (l : List ℕ). Member 10 l) (sym same) (in_append 10 all [] (inl inside)))

-- a list without a member is empty
no_member : {A : Type 0} (xs : List A) → ((x : A) → Member x xs → ⊥) → xs ≡ []
no_member [] none = refl
no_member (x ∷ xs) none = absurd (none x (inl refl))

-- what a run answers over any folder: it wasn't opened, or it was
answered : (m : Manner) (r : Observed) → Promises m r → IsUnopened r ⊎ HasOpened r
answered m r keeps = elim keeps.answers [ inl unopened ↦ inl unopened | inr kept ↦ inr (anywhere_opened r kept.0 kept.1) ]

module _ (m : Manner) (r : Observed) where
  pub another_place : (f : FileId) (place : ℕ) → Promises m r → r.ending ≡ ending.Damaged f place → opened_as (seen_at_entry r) ≢ DamagedAt f place → ⊥
  another_place f place keeps is other = elim (answered m r keeps) [
    | inl unopened ↦ other (subst (IsRefusedBy Two (seen_at_entry r) (opened_as (seen_at_entry r))) is unopened.refused)
    | inr opened ↦ subst ending.IsCarried is opened.carried
  ]

  pub sound_damaged : (live : ℕ) (f : FileId) (place : ℕ) → Promises m r → IsSound live (seen_at_entry r) → r.ending ≡ ending.Damaged f place → ⊥
  sound_damaged live f place keeps sound is = another_place f place keeps is (λ damaged. sound_undamaged live (seen_at_entry r) sound sound.format refl f place damaged)

  pub called_old : (live : ℕ) → Promises m r → IsLive IsMagic live (seen_at_entry r) → IsSilo (IsFormat Two) (seen_at_entry r (file.Manager live)) → r.ending ≡ ending.OldFormat → ⊥
  called_old live keeps is_live new is = elim (answered m r keeps) [
    | inl unopened ↦
        let refused : (Two ≡ Two) × (opened_as (seen_at_entry r) ≡ OtherFormat) = subst (IsRefusedBy Two (seen_at_entry r) (opened_as (seen_at_entry r))) is unopened.refused in
        let other = (other_is_read Two (seen_at_entry r)).0 refused.1 in
        other.2 (subst (λ (slot : ℕ). IsSilo (IsFormat Two) (seen_at_entry r (file.Manager slot))) (one_slot live other.0 (seen_at_entry r) is_live other.1) new)
    | inr opened ↦ subst ending.IsCarried is opened.carried
  ]

  pub opened_old : (live : ℕ) → Promises m r → IsLive IsMagic live (seen_at_entry r) → IsSilo (IsFormat One) (seen_at_entry r (file.Manager live)) → r.ending ≡ ending.Done → ⊥
  opened_old live keeps is_live old is = elim (answered m r keeps) [
    | inl unopened ↦ not_opened r unopened is
    | inr opened ↦ not_other (opened_as (seen_at_entry r)) opened.openable.live opened.openable.log opened.openable.reads (old_is_other live (seen_at_entry r) is_live old)
  ]

  pub silo_called_none : (live : ℕ) → Promises m r → IsLive IsMagic live (seen_at_entry r) → r.ending ≡ ending.NotASilo → ⊥
  silo_called_none live keeps silo is = elim (answered m r keeps) [
    | inl unopened ↦ (no_silo_is_read Two (seen_at_entry r)).0 (subst (IsRefusedBy Two (seen_at_entry r) (opened_as (seen_at_entry r))) is unopened.refused) live silo
    | inr opened ↦ subst ending.IsCarried is opened.carried
  ]

  pub none_opened : Promises m r → ((live : ℕ) → IsLive IsMagic live (seen_at_entry r) → ⊥) → r.ending ≡ ending.Done → ⊥
  none_opened keeps none is = elim (answered m r keeps) [
    | inl unopened ↦ not_opened r unopened is
    | inr opened ↦ not_none (opened_as (seen_at_entry r)) opened.openable.live opened.openable.log opened.openable.reads ((no_silo_is_read Two (seen_at_entry r)).1 none)
  ]

  pub damaged_carried : (f : FileId) (place : ℕ) → Promises m r → opened_as (seen_at_entry r) ≡ DamagedAt f place → r.new.input ≢ r.old.input → ⊥
  damaged_carried f place keeps damaged pulled = elim (answered m r keeps) [
    | inl unopened ↦ pulled unopened.unread
    | inr opened ↦ not_two (opened_as (seen_at_entry r)) opened.openable.live opened.openable.log f place opened.openable.reads damaged
  ]

  pub no_bad_use : Promises m r → r.ending ≡ ending.BadUse → ⊥
  no_bad_use keeps is = elim (answered m r keeps) [
    | inl unopened ↦ subst (IsRefusedBy Two (seen_at_entry r) (opened_as (seen_at_entry r))) is unopened.refused
    | inr opened ↦ subst ending.IsCarried is opened.carried
  ]

  pub grain_blamed : (slot : ℕ) (grain : GrainId) → Promises m r → ((live : ℕ) → IsLive IsMagic live (seen_at_entry r) → ⊥) → r.ending ≡ ending.DiskFault (file.Grain slot grain) → ⊥
  grain_blamed slot grain keeps none is = elim (answered m r keeps) [
    | inl unopened ↦
        let must : MustBeRead Two (seen_at_entry r) (opened_as (seen_at_entry r)) (file.Grain slot grain) = subst (IsRefusedBy Two (seen_at_entry r) (opened_as (seen_at_entry r))) is unopened.refused in
        neither_manager slot grain (subst (λ (reading : Reading). MustBeRead Two (seen_at_entry r) reading (file.Grain slot grain)) ((no_silo_is_read Two (seen_at_entry r)).1 none) must)
    | inr opened ↦ not_none (opened_as (seen_at_entry r)) opened.openable.live opened.openable.log opened.openable.reads ((no_silo_is_read Two (seen_at_entry r)).1 none)
  ]

  -- where a grain's file is blamed a record names the grain
  named_of_reading : (image : Image) (reading : Reading) (slot : ℕ) (grain : GrainId) → MustBeRead Two image reading (file.Grain slot grain) → IsNamedIn Two slot image grain
  named_of_reading image NoSilo slot grain must = absurd (neither_manager slot grain must)
  named_of_reading image OtherFormat slot grain must = absurd (neither_manager slot grain must)
  named_of_reading image (DamagedAt (file.Program other) place) slot grain must = absurd (no_head other slot grain must)
  named_of_reading image (DamagedAt (file.Manager other) place) slot grain must = absurd (no_head other slot grain must)
  named_of_reading image (DamagedAt (file.Grain other last) place) slot grain must = elim must [
    | inl head ↦ absurd (no_head other slot grain head)
    | inr g ↦ named_of_file image other slot grain (inr (g.0, g.1, g.2))
  ]
  named_of_reading image (Reads live log) slot grain must = named_of_file image live slot grain must

  pub unnamed_blamed : (slot : ℕ) (grain : GrainId) → Promises m r → (IsNamedIn Two slot (seen_at_entry r) grain → ⊥) → r.new.input ≡ r.old.input → r.ending ≡ ending.DiskFault (file.Grain slot grain) → ⊥
  unnamed_blamed slot grain keeps unnamed unread is = elim (answered m r keeps) [
    | inl unopened ↦
        unnamed (named_of_reading (seen_at_entry r) (opened_as (seen_at_entry r)) slot grain (subst (IsRefusedBy Two (seen_at_entry r) (opened_as (seen_at_entry r))) is unopened.refused))
    | inr opened ↦ elim (opened.file (file.Grain slot grain) is) [
      | inl manager ↦ not_manager opened.openable.live slot grain manager
      | inr named ↦ named.2 unread
    ]
  ]

  -- a grain behind the first damaged one has not to be read
  not_behind : (last grain : GrainId) (live place slot : ℕ) → is_before last grain ≡ true → MustBeRead Two (seen_at_entry r) (DamagedAt (file.Grain live last) place) (file.Grain slot grain) → ⊥
  not_behind last grain live place slot later must = elim must [
    | inl head ↦ no_head live slot grain head
    | inr g ↦
        let same : g.0 ≡ grain = (same_file live slot grain g.0 g.1).1 in
        let early : is_before last grain ≡ false = subst (λ (k : GrainId). is_before last k ≡ false) same g.3 in
        let wrong : true ≡ false = sym later ∙ early in
        absurd (cc wrong)
  ]

  pub blamed_behind : (last grain : GrainId) (live place slot : ℕ) → Promises m r → opened_as (seen_at_entry r) ≡ DamagedAt (file.Grain live last) place → is_before last grain ≡ true → r.ending ≡ ending.DiskFault (file.Grain slot grain) → ⊥
  blamed_behind last grain live place slot keeps damaged later is = elim (answered m r keeps) [
    | inl unopened ↦
        let must : MustBeRead Two (seen_at_entry r) (opened_as (seen_at_entry r)) (file.Grain slot grain) = subst (IsRefusedBy Two (seen_at_entry r) (opened_as (seen_at_entry r))) is unopened.refused in
        not_behind last grain live place slot later (subst (λ (reading : Reading). MustBeRead Two (seen_at_entry r) reading (file.Grain slot grain)) damaged must)
    | inr opened ↦ not_two (opened_as (seen_at_entry r)) opened.openable.live opened.openable.log (file.Grain live last) place opened.openable.reads damaged
  ]

  -- where all that is settled was written, each line that may begin is answered
  opened_answered : (e : ending.Ending) → (opened : HasOpened r) → r.ending ≡ e → ending.IsAllWritten e → HasAnswered (standing_of opened.openable.log).program r
  opened_answered e opened is all = opened.answered (subst ending.IsAllWritten (sym is) all)

  -- so many may begin, by the ending
  allowed_by : (e : ending.Ending) (p : Program) (a : HasAnswered p r) → r.ending ≡ e → AllowedBy e a.pulled r a.allowed
  allowed_by e p a is = subst (λ (x : ending.Ending). AllowedBy x a.pulled r a.allowed) is a.by_ending

  -- who answers a line writes something
  answers_some : (p : Program) (a : HasAnswered p r) → 1 ≤ a.allowed → r.new.output ≡ r.old.output → ⊥
  answers_some p a some quiet =
      let e = a.each 1 (omega arith) some in
      let text : List ℕ = reply_lines (shape_in p) a.entries in
      let none : [] ≡ text ++ [] = append_cancel_left r.old.output [] (text ++ []) (append-nil r.old.output ∙ sym quiet ∙ a.output.output) in
      said_some (shape_in p) a.entries e.0 e.1 none

  -- and who answers none writes nothing
  answers_none : (p : Program) (a : HasAnswered p r) → a.allowed ≡ 0 → r.new.output ≡ r.old.output
  answers_none p a none =
      let empty : a.entries ≡ [] = no_member a.entries (λ e there. (let w = a.within e there in omega (arith, w.0, w.1, none))) in
      a.output.output ∙ ap (λ (entries : List Entry). r.old.output ++ (reply_lines (shape_in p) entries ++ [])) empty ∙ append-nil r.old.output

  pub done_unread : Promises m r → r.ending ≡ ending.Done → r.new.input ≢ [] → ⊥
  done_unread keeps is some = elim (answered m r keeps) [
    | inl unopened ↦ not_opened r unopened is
    | inr opened ↦ some (allowed_by ending.Done (standing_of opened.openable.log).program (opened_answered ending.Done opened is tt) is).input
  ]

  pub done_unanswered : Promises m r → r.ending ≡ ending.Done → 1 ≤ length (lines_of r.old.input) → r.new.output ≡ r.old.output → ⊥
  done_unanswered keeps is line quiet = elim (answered m r keeps) [
    | inl unopened ↦ not_opened r unopened is
    | inr opened ↦
        let a = opened_answered ending.Done opened is tt in
        let all : a.allowed ≡ length (lines_of r.old.input) = (allowed_by ending.Done (standing_of opened.openable.log).program a is).all ∙ ap length opened.given in
        answers_some (standing_of opened.openable.log).program a (omega (arith, all, line)) quiet
  ]

  -- the lines of whole windows in what was pulled, where reading failed
  fault_allows : (front : List ℕ) (p : Program) (a : HasAnswered p r) → r.ending ≡ ending.ReadFault → r.old.input ≡ front ++ r.new.input → a.allowed ≡ whole_windows front
  fault_allows front p a is split = (allowed_by ending.ReadFault p a is).windows ∙ ap whole_windows (one_front r.old.input r.new.input a.pulled front a.input split)

  pub fault_forgets : (front : List ℕ) → Promises m r → r.ending ≡ ending.ReadFault → r.old.input ≡ front ++ r.new.input → 1 ≤ whole_windows front → r.new.output ≡ r.old.output → ⊥
  fault_forgets front keeps is split some quiet = elim (answered m r keeps) [
    | inl unopened ↦ subst (IsRefusedBy Two (seen_at_entry r) (opened_as (seen_at_entry r))) is unopened.refused
    | inr opened ↦
        let a = opened_answered ending.ReadFault opened is tt in
        let so_many : a.allowed ≡ whole_windows front = fault_allows front (standing_of opened.openable.log).program a is split in
        answers_some (standing_of opened.openable.log).program a (omega (arith, so_many, some)) quiet
  ]

  pub fault_says : (front : List ℕ) → Promises m r → r.ending ≡ ending.ReadFault → r.old.input ≡ front ++ r.new.input → whole_windows front ≡ 0 → r.new.output ≢ r.old.output → ⊥
  fault_says front keeps is split none said = elim (answered m r keeps) [
    | inl unopened ↦ said unopened.untouched.now.quiet
    | inr opened ↦
        let a = opened_answered ending.ReadFault opened is tt in
        said (answers_none (standing_of opened.openable.log).program a (fault_allows front (standing_of opened.openable.log).program a is split ∙ none))
  ]

  module _ (told : ℕ) (is : r.ending ≡ ending.InputTooLong told) where
    -- which lines may begin where one is too long
    long_allows : (p : Program) (a : HasAnswered p r) → AllowsBefore a.pulled told r a.allowed
    long_allows p a = allowed_by (ending.InputTooLong told) p a is

    -- the input's first bad line
    long_number : (number : ℕ) (opened : HasOpened r) → first_bad 0 (lines_of r.old.input) ≡ Some number
        → (long_allows (standing_of opened.openable.log).program (opened_answered (ending.InputTooLong told) opened is tt)).number ≡ number
    long_number number opened first =
        let a = opened_answered (ending.InputTooLong told) opened is tt in
        let l = long_allows (standing_of opened.openable.log).program a in
        some_is l.number number (sym l.first ∙ ap (first_bad 0) opened.given ∙ first)

    pub long_forgets : (number : ℕ) → Promises m r → first_bad 0 (lines_of r.old.input) ≡ Some number → 1 ≤ before_bad number → r.new.output ≡ r.old.output → ⊥
    long_forgets number keeps first some quiet = elim (answered m r keeps) [
      | inl unopened ↦ subst (IsRefusedBy Two (seen_at_entry r) (opened_as (seen_at_entry r))) is unopened.refused
      | inr opened ↦
          let a = opened_answered (ending.InputTooLong told) opened is tt in
          let so_many : a.allowed ≡ before_bad number = (long_allows (standing_of opened.openable.log).program a).before ∙ ap before_bad (long_number number opened first) in
          answers_some (standing_of opened.openable.log).program a (omega (arith, so_many, some)) quiet
    ]

    pub long_says : (number : ℕ) → Promises m r → first_bad 0 (lines_of r.old.input) ≡ Some number → before_bad number ≡ 0 → r.new.output ≢ r.old.output → ⊥
    long_says number keeps first none said = elim (answered m r keeps) [
      | inl unopened ↦ said unopened.untouched.now.quiet
      | inr opened ↦
          let a = opened_answered (ending.InputTooLong told) opened is tt in
          said (answers_none (standing_of opened.openable.log).program a ((long_allows (standing_of opened.openable.log).program a).before ∙ ap before_bad (long_number number opened first) ∙ none))
    ]

    pub long_misnumbers : (number : ℕ) → Promises m r → first_bad 0 (lines_of r.old.input) ≡ Some number → told ≢ told_number number → ⊥
    long_misnumbers number keeps first differ = elim (answered m r keeps) [
      | inl unopened ↦ subst (IsRefusedBy Two (seen_at_entry r) (opened_as (seen_at_entry r))) is unopened.refused
      | inr opened ↦
          let a = opened_answered (ending.InputTooLong told) opened is tt in
          differ ((long_allows (standing_of opened.openable.log).program a).is_told ∙ ap told_number (long_number number opened first))
    ]

    pub long_blames : Promises m r → first_bad 0 (lines_of r.old.input) ≡ None → ⊥
    long_blames keeps none = elim (answered m r keeps) [
      | inl unopened ↦ subst (IsRefusedBy Two (seen_at_entry r) (opened_as (seen_at_entry r))) is unopened.refused
      | inr opened ↦
          let a = opened_answered (ending.InputTooLong told) opened is tt in
          let l = long_allows (standing_of opened.openable.log).program a in
          let some : Some l.number ≡ None = sym l.first ∙ ap (first_bad 0) opened.given ∙ none in
          absurd (cc some)
    ]

  pub done_passes : (number : ℕ) → Promises m r → r.ending ≡ ending.Done → first_bad 0 (lines_of r.old.input) ≡ Some number → ⊥
  done_passes number keeps is first = elim (answered m r keeps) [
    | inl unopened ↦ not_opened r unopened is
    | inr opened ↦
        let a = opened_answered ending.Done opened is tt in
        let all : a.allowed ≡ length (lines r) = (allowed_by ending.Done (standing_of opened.openable.log).program a is).all in
        let good : first_bad 0 (lines r) ≡ None = subst (λ (l : List (List ℕ)). first_bad 0 l ≡ None) (all_lines (lines r) a.allowed all) a.good in
        let some : Some number ≡ None = sym first ∙ sym (ap (first_bad 0) opened.given) ∙ good in
        absurd (cc some)
  ]

  pub grain_fault_opened : (slot : ℕ) (grain : GrainId) → Promises m r → r.new.input ≢ r.old.input
      → ((live : ℕ) (log : Log) → opened_as (seen_at_entry r) ≡ Reads live log → slot ≢ live) → r.ending ≡ ending.DiskFault (file.Grain slot grain) → ⊥
  grain_fault_opened slot grain keeps pulled other is = elim (answered m r keeps) [
    | inl unopened ↦ pulled unopened.unread
    | inr opened ↦ elim (opened.file (file.Grain slot grain) is) [
      | inl manager ↦ not_manager opened.openable.live slot grain manager
      | inr named ↦ (let same : file.Grain slot grain ≡ file.Grain opened.openable.live named.0 = named.1 in other opened.openable.live opened.openable.log opened.openable.reads (cc same))
    ]
  ]

  pub said_unopened : Promises m r → (ending.IsCarried r.ending → ⊥) → r.new.output ≢ r.old.output → ⊥
  said_unopened keeps never said = elim (answered m r keeps) [
    | inl unopened ↦ said unopened.untouched.now.quiet
    | inr opened ↦ never opened.carried
  ]

-- ---- reports

-- what a command promises that reports the log in a text
abbrev Tells : (Log → List ℕ) → Observed → Type 0
Tells text r = IsUnopened r ⊎ IsReported text r

pub another_text : (text : Log → List ℕ) (r : Observed) (live : ℕ) (log : Log) → Tells text r → r.ending ≡ ending.Done
    → IsLog live (seen_at_entry r) log → r.new.output ≢ r.old.output ++ text log → ⊥
another_text text r live log (inl unopened) done is differ = not_opened r unopened done
another_text text r live log (inr reported) done is differ =
    let e = reads_is reported.live live reported.log log (sym reported.reads ∙ log_is_read Two (seen_at_entry r) live log is) in
    differ (reported.prints.output ∙ ap (λ (l : List ℕ). r.old.output ++ l) (reported.prints.whole done ∙ ap text e.1))

pub other_sessions : (r : Observed) (live : ℕ) (log : Log) (p : Program) → Reports r → r.ending ≡ ending.Done → IsLog live (seen_at_entry r) log
    → program_in_file (seen_at_entry r (file.Program live)) ≡ Ok p
    → r.new.output ≢ r.old.output ++ history_text (sessions_read Two p (seen_at_entry r (file.Manager live))) log → ⊥
other_sessions r live log p (inl unopened) done is first differ = not_opened r unopened done
other_sessions r live log p (inr told) done is first differ =
    let reported = told.report in
    let e = reads_is reported.live live reported.log log (sym reported.reads ∙ log_is_read Two (seen_at_entry r) live log is) in
    let here : program_in_file (seen_at_entry r (file.Program live)) ≡ Ok told.program = ap (λ (slot : ℕ). program_in_file (seen_at_entry r (file.Program slot))) (sym e.0) ∙ told.first in
    let same : told.program ≡ p = (let both : Ok told.program ≡ Ok p = sym here ∙ first in cc both) in
    let sessions : told.sessions ≡ sessions_read Two p (seen_at_entry r (file.Manager live)) = told.are ∙ (λ i. sessions_read Two (same i) (seen_at_entry r (file.Manager (e.0 i)))) in
    differ (reported.prints.output ∙ ap (λ (l : List ℕ). r.old.output ++ l) (reported.prints.whole done ∙ (λ i. history_text (sessions i) (e.1 i))))

pub changed_by_report : (text : Log → List ℕ) (r : Observed) (image : Image) → Tells text r → IsImage r.new.disk image → (IsImage r.old.disk image → ⊥) → ⊥
changed_by_report text r image (inl unopened) left new = new (unopened.untouched.now.images image left)
changed_by_report text r image (inr reported) left new = new (reported.now image left).0

pub told_and_taken : (text : Log → List ℕ) (r : Observed) (image : Image) → Tells text r → IsImage r.new.disk image → r.new.output ≢ r.old.output
    → ((live : ℕ) → IsLive IsMagic live (seen_at_entry r) → image (file.Manager live) ≢ seen_at_entry r (file.Manager live)) → ⊥
told_and_taken text r image (inl unopened) left told other = told unopened.untouched.now.quiet
told_and_taken text r image (inr reported) left told other = other reported.live (reads_is_live Two (seen_at_entry r) reported.live reported.log reported.reads) ((reported.now image left).1 told)

-- ---- init

program_is_read : (p : Program) → IsChecked p → program_in p.text ≡ Ok p.types
program_is_read p checked = ap checked_in checked.parsed ∙ ap (unless_fault p.types) checked.checked

fault_again : (text : List ℕ) (types : ProgramTree) (fault : ProgramFault) → program_in text ≡ Ok types → program_in text ≡ Err fault → ⊥
fault_again text types fault a b = absurd (cc (sym a ∙ b))

one_fault : (text : List ℕ) (a b : ProgramFault) → program_in text ≡ Err a → program_in text ≡ Err b → a ≡ b
one_fault text a b is_a is_b = cc (sym is_a ∙ is_b)

module _ (r : Observed) (makes : MakesSilo r) where
  ended_as : (e : ending.Ending) → r.ending ≡ e → MakesAs e r
  ended_as e is = subst (λ (f : ending.Ending). MakesAs f r) is makes.ends_as

  pub another_program : (image : Image) → r.ending ≡ ending.Done → IsImage r.new.disk image → (HasProgram r.old.input (image program_file) → ⊥) → ⊥
  another_program image done left other = other ((ended_as ending.Done done).2 image left).0.program

  pub no_program : (fault : ProgramFault) → r.ending ≡ ending.Done → program_in r.old.input ≡ Err fault → ⊥
  no_program fault done bad = fault_again r.old.input (ended_as ending.Done done).0.types fault (ended_as ending.Done done).0.reads bad

  pub made_again : (slot : ℕ) → r.ending ≡ ending.Done → slot ≤ 1 → IsSilo IsMagic (seen_at_entry r (file.Manager slot)) → ⊥
  made_again slot done low silo = (ended_as ending.Done done).1 (some_live (seen_at_entry r) slot low silo)

  pub checked_refused : (p : Program) (fault : ProgramFault) → IsChecked p → r.old.input ≡ p.text → r.ending ≡ ending.BadProgram fault → ⊥
  checked_refused p fault checked given is =
      let good : program_in r.old.input ≡ Ok p.types = ap program_in given ∙ program_is_read p checked in
      fault_again r.old.input p.types fault good (ended_as (ending.BadProgram fault) is).0.2

  pub another_fault : (fault other : ProgramFault) → program_in r.old.input ≡ Err fault → r.ending ≡ ending.BadProgram other → fault ≢ other → ⊥
  another_fault fault other bad is differ = differ (one_fault r.old.input fault other bad (ended_as (ending.BadProgram other) is).0.2)

  pub no_silo_already : r.ending ≡ ending.AlreadyASilo → ((live : ℕ) → IsLive IsMagic live (seen_at_entry r) → ⊥) → ⊥
  no_silo_already is none = (let silo = (ended_as ending.AlreadyASilo is).1 in none silo.0 silo.1)

  pub taken_back : (image : Image) (slot : ℕ) → r.ending ≡ ending.AlreadyASilo → IsImage r.new.disk image → slot ≤ 1 → seen_at_entry r (file.Manager slot) ≢ []
      → image (file.Manager slot) ≢ seen_at_entry r (file.Manager slot) → ⊥
  taken_back image slot is left low some other = other ((ended_as ending.AlreadyASilo is).3 image left slot low some)

-- ---- words

unopened_bad : (r : Observed) → IsUnopened r → r.ending ≡ ending.BadUse → ⊥
unopened_bad r unopened is = subst (IsRefusedBy Two (seen_at_entry r) (opened_as (seen_at_entry r))) is unopened.refused

reported_bad : (text : Log → List ℕ) (r : Observed) → IsReported text r → r.ending ≡ ending.BadUse → ⊥
reported_bad text r reported is = elim reported.ending [
  | inl done ↦ absurd (let e : ending.Done ≡ ending.BadUse = sym done ∙ is in cc e)
  | inr cut ↦ subst MayCut is cut
]

unreported : (r : Observed) → Reports r → r.ending ≡ ending.BadUse → ⊥
unreported r (inl unopened) is = unopened_bad r unopened is
unreported r (inr told) is = reported_bad _ r told.report is

unshown : (r : Observed) → ShowsStates r → r.ending ≡ ending.BadUse → ⊥
unshown r (inl unopened) is = unopened_bad r unopened is
unshown r (inr shown) is = reported_bad _ r shown.report is

-- a compaction ends otherwise
rewritten_bad : (e : ending.Ending) → IsRewritten e → e ≡ ending.BadUse → ⊥
rewritten_bad e (inl done) is = (let f : ending.Done ≡ ending.BadUse = sym done ∙ is in absurd (cc f))
rewritten_bad e (inr (inl want)) is = (let f : ending.Memory ≡ ending.BadUse = sym want ∙ is in absurd (cc f))
rewritten_bad e (inr (inr fault)) is = subst ending.IsDiskFault is fault

uncompacted : (r : Observed) → Compacts r → r.ending ≡ ending.BadUse → ⊥
uncompacted r (inl unopened) is = unopened_bad r unopened is
uncompacted r (inr (inl last)) is = (let e : ending.LastGeneration ≡ ending.BadUse = sym last.ending ∙ is in absurd (cc e))
uncompacted r (inr (inr compacted)) is = rewritten_bad r.ending compacted.ending is

-- so does a migration
unmigrated : (r : Observed) → Migrates r → r.ending ≡ ending.BadUse → ⊥
unmigrated r (inl unopened) is = subst (λ (e : ending.Ending). IsRefusedBy One (seen_at_entry r) (reading_in One (seen_at_entry r)) e) is unopened.refused
unmigrated r (inr (inl last)) is = (let e : ending.LastGeneration ≡ ending.BadUse = sym last.ending ∙ is in absurd (cc e))
unmigrated r (inr (inr migrated)) is = rewritten_bad r.ending migrated.ending is

-- an upgrade ends otherwise
unupgraded : (r : Observed) → UpgradesSilo r → r.ending ≡ ending.BadUse → ⊥
unupgraded r (inl input) is = subst (λ (e : ending.Ending). RefusesInput e r) is input.refused
unupgraded r (inr (inl unopened)) is = subst (λ (e : ending.Ending). IsRefusedBy Two (seen_at_entry r) (opened_as (seen_at_entry r)) e) is unopened.refused
unupgraded r (inr (inr (inl refused))) is = (let e : ending.UpgradeRefused refused.at ≡ ending.BadUse = sym refused.ending ∙ is in absurd (cc e))
unupgraded r (inr (inr (inr upgraded))) is = subst (λ (e : ending.Ending). UpgradesAs e upgraded.live r) is upgraded.ends_as

unaudited : (r : Observed) → Audits r → r.ending ≡ ending.BadUse → ⊥
unaudited r (inl unopened) is = unopened_bad r unopened is
unaudited r (inr audited) is = reported_bad _ r audited.report is

unloaded : (n seed : ℕ) (m : Manner) (r : Observed) → Loads n seed m r → r.ending ≡ ending.BadUse → ⊥
unloaded n seed m r loads is = elim loads.answers [
  | inl unmade ↦ subst (λ (e : ending.Ending). IsUnmadeBy e r) is unmade.ends_as
  | inr from ↦ absurd (from.good is)
]

unchecked : (n seed : ℕ) (r : Observed) → Checks n seed r → r.ending ≡ ending.BadUse → ⊥
unchecked n seed r checks is = elim checks.ending [
  | inl done ↦ (let e : ending.Done ≡ ending.BadUse = sym done ∙ is in absurd (cc e))
  | inr other ↦ elim other [
    | inl want ↦ (let e : ending.Memory ≡ ending.BadUse = sym want ∙ is in absurd (cc e))
    | inr fault ↦ (let e : ending.WriteFault ≡ ending.BadUse = sym fault ∙ is in absurd (cc e))
  ]
]

-- no command that is obeyed answers bad use
never_bad_use : (c : Command) (r : Observed) → Obeys c r → r.ending ≡ ending.BadUse → ⊥
never_bad_use Init r makes is = subst (λ (e : ending.Ending). MakesAs e r) is makes.ends_as
never_bad_use (Run m) r keeps is = no_bad_use m r keeps is
never_bad_use Show r shows is = unshown r shows is
never_bad_use History r reports is = unreported r reports is
never_bad_use Audit r audits is = unaudited r audits is
never_bad_use (Load n seed m) r loads is = unloaded n seed m r loads is
never_bad_use (Check n seed) r checks is = unchecked n seed r checks is
never_bad_use Compact r compacts is = uncompacted r compacts is
never_bad_use Upgrade r upgrades is = unupgraded r upgrades is
never_bad_use Migrate r migrates is = unmigrated r migrates is

module _ (words : List (List ℕ)) (shown : Command → Observed) (c : Command) (serves : Serves words shown) where
  pub other_answer : ((d : Command) → Understands words d → ⊥) → (shown c).ending ≢ ending.BadUse → (shown c).ending ≢ ending.Memory → ⊥
  other_answer none other some = elim (serves.refuses none c).ending [ inl bad ↦ other bad | inr want ↦ some want ]

  pub changed_by_none : ((d : Command) → Understands words d → ⊥) → (shown c).new ≢ (shown c).old → ⊥
  changed_by_none none changed = changed (serves.refuses none c).unused

  pub said_bad : Understands words c → (shown c).ending ≡ ending.BadUse → ⊥
  said_bad says is = never_bad_use c (shown c) (serves.obeys c says) is

-- ---- over any host

module _ (words : List (List ℕ)) (e : ending.Ending) (old new : Channel → ℕ) where
  pub understood_bad : (c : Command) → AnswersAs words e old new → Understands words c → e ≡ ending.BadUse → ⊥
  understood_bad c answers says is = answers.said c says is

  pub answered_otherwise : AnswersAs words e old new → ((c : Command) → Understands words c → ⊥) → e ≢ ending.BadUse → e ≢ ending.Memory → ⊥
  answered_otherwise answers none differ some = elim (answers.other none).0 [ inl bad ↦ differ bad | inr want ↦ some want ]

  pub risen_for_none : (channel : Channel) → AnswersAs words e old new → ((c : Command) → Understands words c → ⊥) → new channel ≢ old channel → ⊥
  risen_for_none channel answers none rose = rose ((answers.other none).1 channel)

  pub fault_uncounted : (f : FileId) → AnswersAs words e old new → e ≡ ending.DiskFault f → old (File f) < 2 ^ 64 - 1 → new (File f) ≡ old (File f) → ⊥
  fault_uncounted f answers is low same =
      let rose : Rose (old (File f)) (new (File f)) = subst (λ (x : ending.Ending). ending.HasRisen x old new) is answers.risen in
      omega (arith, rose, low, same)

  pub input_passed : AnswersAs words e old new → e ≢ ending.ReadFault → new Input ≢ old Input → ⊥
  input_passed answers other rose = other (answers.input rose)

  pub output_passed : AnswersAs words e old new → e ≢ ending.WriteFault → new Output ≢ old Output → ⊥
  output_passed answers other rose = other (answers.output rose)

  pub made_though : (c : Command) (channel : Channel) → AnswersAs words e old new → Understands words c → ((f : ending.Ending) → MayGoOn c f → ⊥)
      → e ≡ ending.Done → new channel ≢ old channel → ⊥
  made_though c channel answers says never is rose = rose (subst (λ (x : ending.Ending). ending.HasFailedAs x old new) is (answers.exact c says (never e)) channel)

  pub other_named : (c : Command) (f : FileId) (channel : Channel) → AnswersAs words e old new → Understands words c → ((g : ending.Ending) → MayGoOn c g → ⊥)
      → e ≡ ending.DiskFault f → channel ≢ File f → new channel ≢ old channel → ⊥
  other_named c f channel answers says never is other rose =
      rose ((subst (λ (x : ending.Ending). ending.HasFailedAs x old new) is (answers.exact c says (never e))).counts.others channel other)
