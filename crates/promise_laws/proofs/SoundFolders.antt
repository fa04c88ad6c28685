-- A call that keeps its promise over a sound folder leaves a sound one.
use Rattle.std.proofs.Common.{◌≡◌, ◌≢◌, ◌⊎◌, inl, inr, ℕ, ◌<◌, ◌≤◌, nat_le, Bool, true, false, if◌then◌else◌, List, [], ◌∷◌, length, slice_index, refl, sym, ap, subst, ◌∙◌, arith, get_or-take}
use Rattle.std.proofs.lemmas.Bool.{cases_eq, and_parts, leb-true}
use Rattle.host_trait.specs.Disk.{FileState, MayLeave, settled}
use Rattle.host_trait.proofs.Crashes.{settled_only}
use Rattle.host_trait.specs.declared.channels.FileId.{FileId}
use Rattle.host_trait.specs.declared.channels.FileId.TheVariants.{Manager}
use Rattle.host_trait.specs.World.{World, Moment, Disk, Image, IsImage, moment_of}
use Rattle.gate_block.specs.Log.{first_gate}
use Rattle.gate_block.proofs.Logs.{no_blocks}
use Rattle.silo_spec.specs.Slots.{IsLive, ShowsSilos}
use Rattle.silo_spec.specs.Silos.{manager, IsNewSilo, new_header}
use Rattle.silo_spec.specs.Moments.{IsUntouched}
use Rattle.silo_spec.specs.OpenedDisks.{is_synced, opened_file, opened_disk}
use Rattle.silo_spec.specs.Creation.{CameThisFar, IsNewAt}
use Rattle.field_codec.specs.declared.formats.Format.TheVariants.{Two}
use Rattle.promise_spec.specs.Programs.{Program, IsChecked}
use Rattle.promise_spec.specs.Entries.{Log, new_log}
use Rattle.promise_spec.specs.Blocks.{Fresh}
use Rattle.promise_spec.specs.Prefixes.{IsPrefixOf}
use Rattle.promise_spec.specs.Logs.{IsMagic, IsLog, HasLog}
use Rattle.promise_spec.specs.Images.{IsSound}
use Rattle.promise_spec.specs.Moments.{IsImageOf}
use Rattle.promise_spec.specs.Endings as ending
use Rattle.promise_spec.specs.Endings.{Ending}
use Rattle.promise_spec.specs.Words.{Manner, Command, Init, Run, Show, History, Audit, Load, Check, Compact, Upgrade, Migrate}
use Rattle.promise_spec.specs.Courses.{Observed, Course, moments, program_in_force}
use Rattle.promise_spec.specs.Crashes.{SurvivesCrashes, StaySound, LeavesAlone}
use Rattle.promise_spec.specs.Refusals.{IsUnopened}
use Rattle.promise_spec.specs.Commands.{IsProgramText, MakesAs, MakesSilo, IsReported, Reports, ShowsStates, Audits}
use Rattle.promise_spec.specs.Loads.{bank_text, KeepsLoad, IsUnmade, from_there, LoadsFrom, Loads}
use Rattle.promise_spec.specs.Checks.{Checks}
use Rattle.promise_spec.specs.Calls.{Obeys, IsBadUse}
use Rattle.promise_spec.specs.Images.{IsSoundFolder}
use Rattle.promise_spec.specs.Promise.{Promises}
use Rattle.promise_laws.specs.Closings.{ReadsMayStay}
use Rattle.promise_laws.specs.SoundMoments.{IsSoundAt, IsRestarted}
use Rattle.promise_spec.proofs.OneLog.{one_log}
use Rattle.promise_spec.proofs.Prefixes.{of_itself}
use Rattle.promise_spec.proofs.Slots.{one_slot, shows_file}
use Rattle.promise_spec.proofs.Lists.{in_append}
use Rattle.promise_spec.proofs.Openings.{program_checked}
use Rattle.promise_spec.proofs.WholeFolders.{whole_folder}
use Rattle.promise_laws.proofs.RewrittenFolders.{compact_keeps, migrate_keeps}
use Rattle.promise_laws.proofs.SoundUpgrades.{upgrade_keeps}

-- ---- what an opening leaves of a file

-- it reads as it did
opened_seen : (file : FileId) (state : FileState) → (opened_file file state).seen ≡ state.seen
opened_seen file state = by (is_synced file state.seen)
  where
    by : (b : Bool) → (if b then settled state.seen else state).seen ≡ state.seen
    by true = refl
    by false = refl

-- a manager file that reads too short stays as it was
short_opened : (slot : ℕ) (state : FileState) → length state.seen < 16 → opened_file (Manager slot) state ≡ state
short_opened slot state short = by (is_synced (Manager slot) state.seen) refl
  where
    by : (b : Bool) → is_synced (Manager slot) state.seen ≡ b → (if is_synced (Manager slot) state.seen then settled state.seen else state) ≡ state
    by true is =
        let long : 16 ≤ length state.seen = leb-true 16 (length state.seen) (and_parts (nat_le 16 (length state.seen)) (nat_le slot 1) is).0 in
        absurd (omega (arith, long, short))
    by false is = ap (λ (b : Bool). if b then settled state.seen else state) is

-- ---- what changes no image

-- each image is one of before, and the files read as they did
pub as_before : (old new : World) → ((image : Image) → IsImage new.disk image → IsImage old.disk image) → ((file : FileId) → (new.disk file).seen ≡ (old.disk file).seen) → IsSoundFolder old → IsSoundFolder new
as_before old new images seen sound = record {
  chain = λ one other left left_too. sound.chain one other (images one left) (images other left_too);
  sound = λ image left. sound.sound image (images image left);
  shows = λ image left slot low short. sound.shows image (images image left) slot low (subst (λ (l : List ℕ). length l < 16) (seen (Manager slot)) short);
}

-- the files are as they were
pub same_files : (old new : World) → new.disk ≡ old.disk → IsSoundFolder old → IsSoundFolder new
same_files old new same sound = as_before old new (λ image left. subst (λ (d : Disk). IsImage d image) same left) (λ file. ap (λ (d : Disk). (d file).seen) same) sound

-- a folder that was left untouched stays sound
pub untouched : (old new : World) → IsUntouched old new → IsSoundFolder old → IsSoundFolder new
untouched old new u sound = as_before old new u.now.images u.seen sound

-- ---- runs, reports, audits and bad use

-- an image at the exit is one of a moment that counts
pub exit_of : (r : Observed) (c : Course) (image : Image) → IsImage r.new.disk image → IsImageOf (moments r c) image
exit_of r c image left = record { moment = moment_of r.new; member = inr (in_append (moment_of r.new) c.late (moment_of r.new ∷ []) (inr (inl refl))); left = left }

module _ (r : Observed) (c : Course) (s : SurvivesCrashes r c) (stay_old : ReadsMayStay r.old) (stay_new : ReadsMayStay r.new) where
  -- the exit is a moment that counts
  alone_at_exit : LeavesAlone c.live r (moment_of r.new)
  alone_at_exit = s.alone (moment_of r.new) (inr (in_append (moment_of r.new) c.late (moment_of r.new ∷ []) (inr (inl refl))))

  -- what the files read at the exit is an image, which has a log: so its live manager file is a silo's
  long_at_exit : 16 ≤ length (r.new.disk (Manager c.live)).seen
  long_at_exit = (s.keeps (λ file. (r.new.disk file).seen) (exit_of r c (λ file. (r.new.disk file).seen) stay_new)).is.is_live.silo.long

  -- another manager file that reads too short is as it was at entry
  short_as_entry : (slot : ℕ) → slot ≢ c.live → length (r.new.disk (Manager slot)).seen < 16 → r.new.disk (Manager slot) ≡ r.old.disk (Manager slot)
  short_as_entry slot other short =
      let there : r.new.disk (Manager slot) ≡ opened_disk r.old.disk (Manager slot) = alone_at_exit.aside (Manager slot) other in
      let read : (opened_disk r.old.disk (Manager slot)).seen ≡ (r.old.disk (Manager slot)).seen = opened_seen (Manager slot) (r.old.disk (Manager slot)) in
      let low : length (r.old.disk (Manager slot)).seen < 16 = subst (λ (l : List ℕ). length l < 16) (ap (λ (f : FileState). f.seen) there ∙ read) short in
      there ∙ short_opened slot (r.old.disk (Manager slot)) low

  -- no image is a silo by a slot whose manager file reads too short
  pub shows_at_exit : ShowsSilos IsMagic r.old.disk → ShowsSilos IsMagic r.new.disk
  shows_at_exit shows image left slot low short silo = elim (cases_eq slot c.live) [
    | inl same ↦ (let long : 16 ≤ length (r.new.disk (Manager slot)).seen = subst (λ (n : ℕ). 16 ≤ length (r.new.disk (Manager n)).seen) (sym same) long_at_exit in absurd (omega (arith, long, short)))
    | inr other ↦
        let there : r.new.disk (Manager slot) ≡ r.old.disk (Manager slot) = short_as_entry slot other short in
        shows_file r.old.disk shows stay_old slot low (subst (λ (f : FileState). length f.seen < 16) there short) (image (Manager slot))
        (subst (λ (f : FileState). MayLeave f (image (Manager slot))) there (left (Manager slot))) silo
  ]

  -- what survives crashes leaves a sound folder
  pub survives : StaySound r c → ShowsSilos IsMagic r.old.disk → IsSoundFolder r.new
  survives sound shows = record {
    chain = λ one other left left_too. s.chain one other (exit_of r c one left) (exit_of r c other left_too);
    sound = λ image left. sound image (exit_of r c image left);
    shows = shows_at_exit shows;
  }

-- a run
pub run_keeps : (m : Manner) (r : Observed) → ReadsMayStay r.old → ReadsMayStay r.new → Promises m r → IsSoundFolder r.old → IsSoundFolder r.new
run_keeps m r stay_old stay_new promises sound = elim (promises.over_whole (whole_folder r.old sound)) [
  | inl unopened ↦ untouched r.old r.new unopened.untouched sound
  | inr kept ↦ survives r kept.0 kept.1.headline.crashes stay_old stay_new (kept.1.headline.sound sound) sound.shows
]

-- a report that prints
reported : (text : Log → List ℕ) (r : Observed) → IsReported text r → IsSoundFolder r.old → IsSoundFolder r.new
reported text r is sound = as_before r.old r.new (λ image left. (is.now image left).0) is.seen sound

-- a report
pub reports_keep : (r : Observed) → Reports r → IsSoundFolder r.old → IsSoundFolder r.new
reports_keep r (inl unopened) sound = untouched r.old r.new unopened.untouched sound
reports_keep r (inr is) sound = reported _ r is.report sound

-- a listing of the grains
pub shows_keep : (r : Observed) → ShowsStates r → IsSoundFolder r.old → IsSoundFolder r.new
shows_keep r (inl unopened) sound = untouched r.old r.new unopened.untouched sound
shows_keep r (inr is) sound = reported _ r is.report sound

-- an audit
pub audits_keep : (r : Observed) → Audits r → IsSoundFolder r.old → IsSoundFolder r.new
audits_keep r (inl unopened) sound = untouched r.old r.new unopened.untouched sound
audits_keep r (inr is) sound = reported _ r is.report sound

-- words that say nothing
pub bad_use_keeps : (r : Observed) → IsBadUse r → IsSoundFolder r.old → IsSoundFolder r.new
bad_use_keeps r bad sound = subst IsSoundFolder (sym bad.unused) sound

-- a check
pub checks_keep : (n seed : ℕ) (r : Observed) → Checks n seed r → IsSoundFolder r.old → IsSoundFolder r.new
checks_keep n seed r checks sound = same_files r.old r.new checks.files sound

-- ---- new silos

-- a new silo of a checked program in the live slot has the empty log
pub fresh : (p : Program) (image : Image) → IsChecked p → IsNewSilo p.text image → IsLive IsMagic 0 image → IsLog 0 image (new_log p)
fresh p image checked new is_live = record {
  is_live = is_live;
  is = record {
    bodies = [];
    gate = first_gate;
    session = 0;
    stands = record {
      silo = new.silo;
      program = p;
      checked = checked;
      text = new.program;
      begins = Fresh;
      kind = byte_of 13 (omega arith);
      zero = byte_of 14 (omega arith);
      base = refl;
      whole = tt;
      blocks = [];
      fit = tt;
      never_fall = refl;
      spelled = refl;
      stand = no_blocks (image manager) (omega (arith, new.silo.long));
      entries = refl;
      kept = tt;
    };
    closed = shut;
  };
}
  where
    -- the bytes of its header are a new header's
    byte_of : (i : ℕ) → i < 16 → slice_index (image manager) i ≡ slice_index (new_header) i
    byte_of i low = sym (get_or-take 16 (image manager) i 0 low) ∙ ap (λ (l : List ℕ). slice_index l i) new.header

    byte : slice_index (image manager) 15 ≡ 0
    byte = byte_of 15 (omega arith)

    -- its gate isn't open
    shut : slice_index (image manager) 15 ≢ 1
    shut open_gate = omega (arith, byte, open_gate)

module _ (p : Program) (checked : IsChecked p) (m : Moment) (new : IsNewAt IsMagic p.text m) where
  -- an image that is a silo is a new one, in slot 0, with the empty log
  new_log_of : (live : ℕ) (image : Image) → IsImage m.disk image → IsLive IsMagic live image → (live ≡ 0) × IsLog 0 image (new_log p)
  new_log_of live image left is =
      let n = new image left live is in
      (n.0, fresh p image checked n.1 (subst (λ (slot : ℕ). IsLive IsMagic slot image) n.0 is))

  log_is : (image : Image) → IsImage m.disk image → (log : Log) → HasLog image log → log ≡ new_log p
  log_is image left log has = one_log has.0 Two has.1 0 image log (new_log p) has.2 (new_log_of has.1 image left has.2.is_live).1

  -- images that are new silos of this program, or none, are a chain, and each is sound
  pub new_moment : IsSoundAt m
  new_moment = record {
    chain = λ one other left left_too a b has_a has_b.
        (let a_is : a ≡ new_log p = log_is one left a has_a in
        let b_is : b ≡ new_log p = log_is other left_too b has_b in
        inl (subst (λ (l : Log). IsPrefixOf l b) (sym a_is) (subst (λ (l : Log). IsPrefixOf (new_log p) l) (sym b_is) (of_itself (new_log p)))));
    sound = λ image left live is.
        (let n = new_log_of live image left is in
        subst (λ (slot : ℕ). IsSound slot image) (sym n.0) (record { format = Two; log = new_log p; is = n.1; serial = tt; numbered = tt }));
  }

-- and a sound folder, where none is a silo by a manager file that reads too short
pub new_folder : (p : Program) (w : World) → IsChecked p → IsNewAt IsMagic p.text (moment_of w) → ShowsSilos IsMagic w.disk → IsSoundFolder w
new_folder p w checked new shows = (let is = new_moment p checked (moment_of w) new in record { chain = is.chain; sound = is.sound; shows = shows })

-- images of which each is a new silo in the live slot
all_new : (text : List ℕ) (w : World) → ((image : Image) → IsImage w.disk image → IsNewSilo text image × IsLive IsMagic 0 image) → IsNewAt IsMagic text (moment_of w)
all_new text w each image left live is = (let n = each image left in (one_slot live 0 image is n.1, n.0))

-- however far a call came that makes a silo of q
pub makes_keeps : (q : Program) (old new : World) → IsChecked q → CameThisFar IsMagic q.text old new → (ShowsSilos IsMagic old.disk → ShowsSilos IsMagic new.disk) → IsSoundFolder old → IsSoundFolder new
makes_keeps q old new checked (inl u) shows sound = untouched old new u sound
makes_keeps q old new checked (inr first) shows sound = new_folder q new checked first.now (shows sound.shows)

-- ---- init

-- the input of an `init` that is a program's text
pub input_program : (r : Observed) → (t : IsProgramText r) → IsChecked (record { text = r.old.input; types = t.types })
input_program r t = program_checked r.old.input t.types t.small t.reads

-- an `init`
pub init_keeps : (r : Observed) → MakesSilo r → IsSoundFolder r.old → IsSoundFolder r.new
init_keeps r makes sound = by r.ending makes.ends_as
  where
    stays : IsUntouched r.old r.new → IsSoundFolder r.new
    stays u = untouched r.old r.new u sound

    of_text : IsProgramText r → IsSoundFolder r.new
    of_text t = makes_keeps (record { text = r.old.input; types = t.types }) r.old r.new (input_program r t) (makes.makes sound.shows) makes.shows sound

    by : (e : Ending) → MakesAs e r → IsSoundFolder r.new
    by ending.Done is = of_text is.0
    by ending.BadUse is = absurd is
    by ending.Memory is = stays is
    by ending.ReadFault is = stays is
    by ending.WriteFault is = absurd is
    by (ending.DiskFault file) is = of_text is.0
    by ending.NotASilo is = absurd is
    by ending.OldFormat is = absurd is
    by ending.NotOld is = absurd is
    by ending.AlreadyASilo is = of_text is.0
    by (ending.Damaged file place) is = absurd is
    by (ending.BadProgram fault) is = stays is.1
    by (ending.InputTooLong line) is = stays is.2
    by ending.LastGeneration is = absurd is
    by (ending.UpgradeRefused at) is = absurd is

-- one that is done leaves a sound folder, whatever there was, in which each image has the empty log of its input
pub init_makes : (r : Observed) → ShowsSilos IsMagic r.old.disk → MakesSilo r → r.ending ≡ ending.Done
    → (q : Program) × (IsChecked q × ((q.text ≡ r.old.input) × (IsSoundFolder r.new × ((image : Image) → IsImage r.new.disk image → IsLog 0 image (new_log q)))))
init_makes r shows makes done =
    let is : MakesAs ending.Done r = subst (λ (e : Ending). MakesAs e r) done makes.ends_as in
    let q : Program = record { text = r.old.input; types = is.0.types } in
    let checked : IsChecked q = input_program r is.0 in
    let each : (image : Image) → IsImage r.new.disk image → IsNewSilo r.old.input image × IsLive IsMagic 0 image = λ image left. ((is.2 image left).0, (is.2 image left).1 shows) in
    (q, (checked, (refl, (new_folder q r.new checked (all_new r.old.input r.new each) (makes.shows shows), λ image left. fresh q image checked (each image left).0 (each image left).1))))

-- ---- load

-- a load that made no silo
unmade_keeps : (bank : Program) (r : Observed) → IsChecked bank → bank.text ≡ bank_text → IsUnmade r → IsSoundFolder r.old → IsSoundFolder r.new
unmade_keeps bank r checked text un sound =
    makes_keeps bank r.old r.new checked (subst (λ (t : List ℕ). CameThisFar IsMagic t r.old r.new) (sym text) (un.makes sound.shows)) un.shows sound

-- one that made one: the folder was sound then
pub made_sound : (n seed : ℕ) (bank : Program) (r : Observed) → IsChecked bank → bank.text ≡ bank_text → (from : LoadsFrom n seed r) → IsSoundFolder r.old → IsSoundFolder from.made
made_sound n seed bank r checked text from sound =
    new_folder bank from.made checked (subst (λ (t : List ℕ). IsNewAt IsMagic t (moment_of from.made)) (sym text) (from.has.makes sound.shows).now) (from.has.shows sound.shows)

-- a load
pub load_keeps : (n seed : ℕ) (m : Manner) (bank : Program) (r : Observed) → IsChecked bank → bank.text ≡ bank_text → ReadsMayStay r.new → Loads n seed m r → IsSoundFolder r.old → IsSoundFolder r.new
load_keeps n seed m bank r checked text stay loads sound = by loads.answers
  where
    by : IsUnmade r ⊎ LoadsFrom n seed r → IsSoundFolder r.new
    by (inl un) = unmade_keeps bank r checked text un sound
    by (inr from) = carried (from.carried sound.shows)
      where
        made : IsSoundFolder from.made
        made = made_sound n seed bank r checked text from sound

        carried : IsUnopened (from_there r from.made) ⊎ ((c : Course) × ((program_in_force c).text ≡ bank_text) × KeepsLoad (program_in_force c) n seed (from_there r from.made) c) → IsSoundFolder r.new
        carried (inl unopened) = untouched from.made r.new unopened.untouched made
        carried (inr kept) = survives (from_there r from.made) kept.0 kept.2.crashes from.has.stays stay (kept.2.sound made) made.shows

-- ---- any command

-- a call, whatever its command
pub obeying_keeps : (c : Command) (bank : Program) (r : Observed) → IsChecked bank → bank.text ≡ bank_text → ReadsMayStay r.old → ReadsMayStay r.new → Obeys c r → IsSoundFolder r.old → IsSoundFolder r.new
obeying_keeps Init bank r checked text stay_old stay_new obeys sound = init_keeps r obeys sound
obeying_keeps (Run m) bank r checked text stay_old stay_new obeys sound = run_keeps m r stay_old stay_new obeys sound
obeying_keeps Show bank r checked text stay_old stay_new obeys sound = shows_keep r obeys sound
obeying_keeps History bank r checked text stay_old stay_new obeys sound = reports_keep r obeys sound
obeying_keeps Audit bank r checked text stay_old stay_new obeys sound = audits_keep r obeys sound
obeying_keeps (Load n seed m) bank r checked text stay_old stay_new obeys sound = load_keeps n seed m bank r checked text stay_new obeys sound
obeying_keeps (Check n seed) bank r checked text stay_old stay_new obeys sound = checks_keep n seed r obeys sound
obeying_keeps Compact bank r checked text stay_old stay_new obeys sound = compact_keeps r stay_old obeys sound
obeying_keeps Upgrade bank r checked text stay_old stay_new obeys sound = upgrade_keeps r stay_old obeys sound
obeying_keeps Migrate bank r checked text stay_old stay_new obeys sound = migrate_keeps r stay_old obeys sound

-- ---- after a crash

-- a crash leaves one image, of which all is settled
pub restarted_image : (image : Image) (after : World) → IsRestarted image after → (other : Image) → IsImage after.disk other → other ≡ image
restarted_image image after restarted other may =
    let each : (file : FileId) → other file ≡ image file = λ file. settled_only (image file) (other file) (subst (λ (f : FileState). MayLeave f (other file)) (restarted file) (may file)) in
    λ i file. each file i

-- at a moment that is sound it leaves a sound folder
pub restarts_at : (m : Moment) (after : World) (image : Image) → IsSoundAt m → IsImage m.disk image → IsRestarted image after → IsSoundFolder after
restarts_at m after image sound left restarted = record {
  chain = λ one other may may_too. sound.chain one other (back one may) (back other may_too);
  sound = λ other may. sound.sound other (back other may);
  shows = λ other may slot low short silo.
      (let read : length (image (Manager slot)) < 16 = subst (λ (f : FileState). length f.seen < 16) (restarted (Manager slot)) short in
      let long : 16 ≤ length (image (Manager slot)) = subst (λ (i : Image). 16 ≤ length (i (Manager slot))) (restarted_image image after restarted other may) silo.long in
      absurd (omega (arith, read, long)));
}
  where
    back : (other : Image) → IsImage after.disk other → IsImage m.disk other
    back other may = subst (IsImage m.disk) (sym (restarted_image image after restarted other may)) left

pub restarts : (w after : World) (image : Image) → IsSoundFolder w → IsImage w.disk image → IsRestarted image after → IsSoundFolder after
restarts w after image sound left restarted = restarts_at (moment_of w) after image (record { chain = sound.chain; sound = sound.sound }) left restarted
