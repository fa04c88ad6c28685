-- What a loop over blocks has read.
use Rattle.std.proofs.Common.{◌≡◌, ℕ, ◌+◌, Bool, IsTrue, List, [], ◌∷◌, ◌++◌, length, map, Option, Some, None, Ok, Err, refl, sym, ◌∙◌, ap, arith, subst, length-append, append-nil, append_assoc}
use Rattle.std.specs.Prelude.{unwrap_or}
use Rattle.std.specs.List.{AllByRecursion}
use Rattle.std.proofs.lemmas.List.{length-map, map-append}
use Rattle.base_types.specs.declared.shapes.TypeShape.{TypeShape}
use Rattle.field_codec.specs.declared.formats.Format.{Format}
use Rattle.field_codec.specs.declared.units.Numbers.TheVariants.{Logged}
use Rattle.gate_block.specs.Blocks.{found_at}
use Rattle.commit_log.specs.declared.records.CommitRecord.{CommitRecord}
use Rattle.commit_log.specs.declared.records.Named.{Named}
use Rattle.commit_log.specs.Bodies.{IsRecordIn}
use Rattle.script_tree.specs.Programs.{ProgramTree, program_tree}
use Rattle.script_check.specs.Shapes.{type_shapes}
use Rattle.script_check.specs.Comparison.{last_program}
use Rattle.program_file.specs.Programs.{Program, shape_in}
use Rattle.log_reading.specs.Entries.{BodyEntry, Recorded, Upgraded, IsEntryIn}
use Rattle.log_reading.specs.declared.entries.LogSoFar.{LogSoFar}
use Rattle.log_reading.specs.declared.log.ReadLog.{ReadLog}
use Rattle.log_reading.specs.Blocks.{LogBase, ReadEntry, ReadRecord, ReadUpgrade, LogRead, entries_said, program_behind, log_in_file, records_read, programs_read, program_after}
use Rattle.log_reading.specs.Versions.{named_by, named_of_base, named_in}
use Rattle.log_reading.specs.Steps.{next_in, text_behind, shapes_behind, IsFollowedBy}
use Rattle.log_reading.specs.Sums.{next_after, AddsEntry, AreRecordsIn, AreUpgradesIn, IsReadAs}
use Rattle.log_reading.proofs.LogBlocks.{none_shut, after_more, follows_on, follows_ends, follows_breaks, ends_session}
use Rattle.log_reading.proofs.RecordSums.{next_after-append}

-- ---- what some entries and others say

records_append : (xs ys : List ReadEntry) → records_read (xs ++ ys) ≡ records_read xs ++ records_read ys
records_append [] ys = refl
records_append (ReadRecord r ∷ xs) ys = ap (λ (l : List CommitRecord). r ∷ l) (records_append xs ys)
records_append (ReadUpgrade q ∷ xs) ys = records_append xs ys

programs_append : (xs ys : List ReadEntry) → programs_read (xs ++ ys) ≡ programs_read xs ++ programs_read ys
programs_append [] ys = refl
programs_append (ReadRecord r ∷ xs) ys = programs_append xs ys
programs_append (ReadUpgrade q ∷ xs) ys = ap (λ (l : List Program). q ∷ l) (programs_append xs ys)

named_append : (n : ℕ) (xs ys : List ReadEntry) → named_by n (xs ++ ys) ≡ named_by n xs ++ named_by (n + length (programs_read xs)) ys
named_append n [] ys = ap (λ (m : ℕ). named_by m ys) (let same : n ≡ n + 0 = omega arith in same)
named_append n (ReadRecord r ∷ xs) ys =
    let own : List Named = map (λ w. record { unit = Some r.unit; program = n; written = w }) r.writes in
    ap (λ (l : List Named). own ++ l) (named_append n xs ys) ∙ sym (append_assoc own (named_by n xs) (named_by (n + length (programs_read xs)) ys))
named_append n (ReadUpgrade q ∷ xs) ys =
    let same : n + 1 + length (programs_read xs) ≡ n + length (q ∷ programs_read xs) = omega arith in
    named_append (n + 1) xs ys ∙ ap (λ (m : ℕ). named_by (n + 1) xs ++ named_by m ys) same

records_in_append : (format : Format) (p : Program) (xs ys : List ReadEntry) → AreRecordsIn format p xs → AreRecordsIn format (program_after p xs) ys → AreRecordsIn format p (xs ++ ys)
records_in_append format p [] ys first more = more
records_in_append format p (ReadRecord r ∷ xs) ys first more = (first.0, records_in_append format p xs ys first.1 more)
records_in_append format p (ReadUpgrade q ∷ xs) ys first more = records_in_append format q xs ys first more

upgrades_in_append : (p : Program) (xs ys : List ReadEntry) → AreUpgradesIn p xs → AreUpgradesIn (program_after p xs) ys → AreUpgradesIn p (xs ++ ys)
upgrades_in_append p [] ys first more = more
upgrades_in_append p (ReadRecord r ∷ xs) ys first more = upgrades_in_append p xs ys first more
upgrades_in_append p (ReadUpgrade q ∷ xs) ys first more = (first.0, upgrades_in_append q xs ys first.1 more)

-- ---- what a body says

records_are : (format : Format) (p : Program) (rs : List CommitRecord) → AllByRecursion (IsRecordIn format Logged (shape_in p)) rs → AreRecordsIn format p (map ReadRecord rs)
records_are format p [] all = tt
records_are format p (r ∷ rs) all = (all.0, records_are format p rs all.1)

no_upgrades : (p : Program) (rs : List CommitRecord) → AreUpgradesIn p (map ReadRecord rs)
no_upgrades p [] = tt
no_upgrades p (r ∷ rs) = no_upgrades p rs

said_records_in : (format : Format) (p : Program) (entry : BodyEntry) → IsEntryIn format p entry → AreRecordsIn format p (entries_said entry)
said_records_in format p (Recorded rs) is = records_are format p rs is.1
said_records_in format p (Upgraded q) is = tt

said_upgrades_in : (format : Format) (p : Program) (entry : BodyEntry) → IsEntryIn format p entry → AreUpgradesIn p (entries_said entry)
said_upgrades_in format p (Recorded rs) is = no_upgrades p rs
said_upgrades_in format p (Upgraded q) is = (is, tt)

text_more : (q : Program) (entry : BodyEntry) (text : Option (List ℕ)) (d : List ℕ) → unwrap_or text d ≡ q.text → unwrap_or (text_behind text entry) d ≡ (program_behind q entry).text
text_more q (Recorded rs) text d is = is
text_more q (Upgraded r) text d is = refl

shapes_more : (q : Program) (entry : BodyEntry) (types : List TypeShape) → types ≡ type_shapes q.types → shapes_behind types entry ≡ type_shapes (program_behind q entry).types
shapes_more q (Recorded rs) types is = is
shapes_more q (Upgraded r) types is = refl

-- the last of the programs is the one in force
pub last_is : (p : Program) (entries : List ReadEntry) → last_program p.types (map (λ (q : Program). q.types) (programs_read entries)) ≡ (program_after p entries).types
last_is p [] = refl
last_is p (ReadRecord r ∷ entries) = last_is p entries
last_is p (ReadUpgrade q ∷ entries) = last_is q entries

-- ---- what was read

pub record HasRead (tells : Bool) (format : Format) (p : Program) (file : List ℕ) (s : LogSoFar) (session gate : ℕ) : Type 0 where
  pub log : LogRead
  pub sessions : List ℕ
  pub count_is : s.count ≡ log.base.count + length log.entries
  pub next_is : s.next ≡ next_after log.base.next (records_read log.entries)
  pub named_is : s.named ≡ named_in log
  pub later_are : map program_tree s.later ≡ map (λ (q : Program). q.types) (programs_read log.entries)
  pub text_is : unwrap_or s.text p.text ≡ (program_after p log.entries).text
  pub shape_is : s.shape.types ≡ type_shapes (program_after p log.entries).types
  pub fit : AreRecordsIn format p log.entries
  pub follow : AreUpgradesIn p log.entries
  pub follows : IsTrue tells → IsFollowedBy format p file log.base log.entries sessions session gate

module _ (tells : Bool) (format : Format) (p : Program) (file : List ℕ) where
  pub has_begun : (base : LogBase) (gate : ℕ) (s : LogSoFar) → s.count ≡ base.count → s.next ≡ base.next → s.named ≡ named_of_base base → s.later ≡ [] → s.shape.types ≡ type_shapes p.types → s.text ≡ None
      → (IsTrue tells → IsFollowedBy format p file base [] [] base.session gate) → HasRead tells format p file s base.session gate
  has_begun base gate s counts nexts names later shape text begins = record {
    log = record { base = base; entries = [] };
    sessions = [];
    count_is = omega (arith, counts);
    next_is = nexts;
    named_is = names ∙ sym (append-nil (named_of_base base));
    later_are = ap (map program_tree) later;
    text_is = ap (λ (t : Option (List ℕ)). unwrap_or t p.text) text;
    shape_is = shape;
    fit = tt;
    follow = tt;
    follows = begins;
  }

  module _ (s : LogSoFar) (session gate : ℕ) (h : HasRead tells format p file s session gate) where
    abbrev here : Program
    here = program_after p h.log.entries

    -- the program in force
    pub in_force_is : last_program p.types (map program_tree s.later) ≡ here.types
    in_force_is = ap (last_program p.types) h.later_are ∙ last_is p h.log.entries

    numbers_are : length s.later ≡ length (programs_read h.log.entries)
    numbers_are = sym (length-map s.later program_tree) ∙ ap length h.later_are ∙ length-map (programs_read h.log.entries) (λ (q : Program). q.types)

    pub has_more : (s2 : LogSoFar) (own : ℕ) (entry : BodyEntry) (behind : ℕ) → AddsEntry s s2 entry → IsEntryIn format here entry
        → (IsTrue tells → next_in format (last_program p.types (map program_tree s.later)) session gate file ≡ Ok (Some (own, entry, behind))) → HasRead tells format p file s2 own behind
    has_more s2 own entry behind adds is step =
        let old : List ReadEntry = h.log.entries in
        let more : List ReadEntry = entries_said entry in
        let after : program_after p (old ++ more) ≡ program_behind here entry = after_more p old entry in record {
          log = record { base = h.log.base; entries = old ++ more };
          sessions = h.sessions ++ map (λ e. own) more;
          count_is = (let was = h.count_is in let now = adds.count in omega (arith, now, was, length-append old more));
          next_is = adds.next ∙ ap (λ (n : ℕ). next_after n (records_read more)) h.next_is ∙ sym (next_after-append h.log.base.next (records_read old) (records_read more)) ∙ ap (next_after h.log.base.next) (sym (records_append old more));
          named_is = adds.named ∙ (λ i. h.named_is i ++ named_by (numbers_are i) more) ∙ append_assoc (named_of_base h.log.base) (named_by 0 old) (named_by (length (programs_read old)) more)
              ∙ ap (λ (l : List Named). named_of_base h.log.base ++ l) (ap (λ (k : ℕ). named_by 0 old ++ named_by k more) (let same : length (programs_read old) ≡ 0 + length (programs_read old) = omega arith in same) ∙ sym (named_append 0 old more));
          later_are = adds.later ∙ ap (λ (l : List ProgramTree). l ++ map (λ (q : Program). q.types) (programs_read more)) h.later_are
              ∙ sym (ap (map (λ (q : Program). q.types)) (programs_append old more) ∙ map-append (λ (q : Program). q.types) (programs_read old) (programs_read more));
          text_is = ap (λ (t : Option (List ℕ)). unwrap_or t p.text) adds.text ∙ text_more here entry s.text p.text h.text_is ∙ ap (λ (q : Program). q.text) (sym after);
          shape_is = adds.shape ∙ shapes_more here entry s.shape.types h.shape_is ∙ ap (λ (q : Program). type_shapes q.types) (sym after);
          fit = records_in_append format p old more h.fit (said_records_in format here entry is);
          follow = upgrades_in_append p old more h.follow (said_upgrades_in format here entry is);
          follows = λ told. follows_on format p file h.log.base old h.sessions session gate (h.follows told) own entry behind (subst (λ (t : ProgramTree). next_in format t session gate file ≡ Ok (Some (own, entry, behind))) in_force_is (step told));
        }

    pub has_ended : (l : ReadLog) → l.count ≡ s.count → l.next_unit.0 ≡ s.next → l.named ≡ s.named → l.later ≡ s.later → l.text ≡ s.text → l.session ≡ session → l.gate_at ≡ gate
        → (IsTrue tells → next_in format (last_program p.types (map program_tree s.later)) session gate file ≡ Ok None) → IsReadAs tells format p file l
    has_ended l count next named later text own at step =
        let none : IsTrue tells → next_in format here.types session gate file ≡ Ok None = λ told. subst (λ (t : ProgramTree). next_in format t session gate file ≡ Ok None) in_force_is (step told) in record {
          log = h.log;
          count = count ∙ h.count_is;
          next = next ∙ h.next_is;
          named = named ∙ h.named_is;
          later = ap (map program_tree) later ∙ h.later_are;
          text = ap (λ (t : Option (List ℕ)). unwrap_or t p.text) text ∙ h.text_is;
          fit = h.fit;
          follow = h.follow;
          read = λ told. (follows_ends format p file h.log.base h.log.entries h.sessions session gate (h.follows told) (none told)).0;
          session = λ told. own ∙ sym (ends_session format p file h.log.base h.log.entries h.sessions session gate (h.follows told) (none told));
          gate = λ told. (follows_ends format p file h.log.base h.log.entries h.sessions session gate (h.follows told) (none told)).1 ∙ sym at;
          closed = λ told. ap (λ (g : ℕ). found_at g file) at ∙ none_shut format here.types session gate (found_at gate file) (none told);
        }

    pub has_broken : IsTrue tells → (place : ℕ) → next_in format (last_program p.types (map program_tree s.later)) session gate file ≡ Err place → log_in_file format p file ≡ Err place
    has_broken told place step = follows_breaks format p file h.log.base h.log.entries h.sessions session gate (h.follows told) place (subst (λ (t : ProgramTree). next_in format t session gate file ≡ Err place) in_force_is step)
