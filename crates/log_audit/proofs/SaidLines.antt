-- The lines of a log that is read again and written block by block.
use Rattle.std.proofs.Common.{◌≡◌, ℕ, Bool, true, false, List, [], ◌∷◌, ◌++◌, length, map, Some, None, Ok, Err, refl, sym, ◌∙◌, ap, subst, arith, append_assoc, append-nil, inr}
use Rattle.std.specs.Prelude.{zip}
use Rattle.std.proofs.lemmas.List.{length-append, length-map}
use Rattle.host_trait.specs.World.{World}
use Rattle.host_trait.specs.Runs.{OnlyAsked}
use Rattle.field_codec.specs.declared.formats.Format.TheVariants.{Two}
use Rattle.commit_log.specs.declared.records.CommitRecord.{CommitRecord}
use Rattle.log_reading.specs.Entries as says
use Rattle.log_reading.specs.Entries.{BodyEntry}
use Rattle.log_reading.specs.Blocks.{LogBase, ReadEntry, ReadRecord, ReadUpgrade, LogRead, entries_said, program_after, log_in_file}
use Rattle.log_reading.specs.Sessions.{sessions_read}
use Rattle.log_reading.specs.Steps.{next_in, IsFollowedBy}
use Rattle.log_reading.proofs.LogBlocks.{follows_on, follows_breaks, follows_sessions, all_sessions, after_more}
use Rattle.script_tree.specs.Programs.{ProgramTree}
use Rattle.promise_spec.specs.Programs.{Program, shape_in}
use Rattle.promise_spec.specs.Reports.{line_of}
use Rattle.log_audit.specs.declared.faults.ReportFault.{ReportFault}
use Rattle.log_audit.specs.InForce.{types_behind}
use Rattle.log_audit.specs.Lines.{record_data, upgrade_data, said_lines, entry_lines}
use Rattle.log_audit.specs.RereadFaults.{IsBlockFault}
use Rattle.log_audit.specs.ReportOutput.{PutsOut, PutsPart}
use Rattle.log_audit.specs.Endings.{report_ending, MayEnd}
use Rattle.log_audit.proofs.ReadEntries.{behind_is, all_read, rest_of}
use Rattle.log_audit.proofs.TextParts.{asked_puts, puts_asked, puts_then, part_done, part_all, part_front, part_cut}

-- ---- lines

-- the lines of entries that are read, each with the session of its block
abbrev lines : Program → List ℕ → List ReadEntry → List ℕ
lines p sessions entries = entry_lines p (zip sessions entries)

lines_both : (p : Program) (s t : List ℕ) (a b : List ReadEntry) → length s ≡ length a → lines p (s ++ t) (a ++ b) ≡ lines p s a ++ lines (program_after p a) t b
lines_both p [] t [] b same = refl
lines_both p [] t (x ∷ a) b same = absurd (omega (arith, same))
lines_both p (session ∷ s) t [] b same = absurd (omega (arith, same))
lines_both p (session ∷ s) t (ReadRecord r ∷ a) b same =
    let line : List ℕ = line_of (record_data (shape_in p) p.types session r) in
    ap (λ (l : List ℕ). line ++ l) (lines_both p s t a b (omega (arith, same))) ∙ sym (append_assoc line (lines p s a) (lines (program_after p a) t b))
lines_both p (session ∷ s) t (ReadUpgrade q ∷ a) b same =
    let line : List ℕ = line_of (upgrade_data session (length q.text)) in
    ap (λ (l : List ℕ). line ++ l) (lines_both q s t a b (omega (arith, same))) ∙ sym (append_assoc line (lines q s a) (lines (program_after q a) t b))

-- the session of a block, for each of its entries
abbrev of_block : ℕ → BodyEntry → List ℕ
of_block session entry = map (λ e. session) (entries_said entry)

lines_recorded : (p : Program) (session : ℕ) (records : List CommitRecord) → lines p (of_block session (says.Recorded records)) (map ReadRecord records) ≡ said_lines p.types session (says.Recorded records)
lines_recorded p session [] = refl
lines_recorded p session (r ∷ records) = ap (λ (l : List ℕ). line_of (record_data (shape_in p) p.types session r) ++ l) (lines_recorded p session records)

-- those of a block are those of its entries
lines_said : (p : Program) (types : ProgramTree) (session : ℕ) (entry : BodyEntry) → p.types ≡ types → lines p (of_block session entry) (entries_said entry) ≡ said_lines types session entry
lines_said p types session (says.Recorded records) is = lines_recorded p session records ∙ ap (λ (t : ProgramTree). said_lines t session (says.Recorded records)) is
lines_said p types session (says.Upgraded q) is = append-nil (line_of (upgrade_data session (length q.text)))

-- ---- block by block

module _ (p : Program) (file : List ℕ) where
  -- the lines of the entries that were read are written, and these types are in force behind them
  pub record HasCopied (last gate : ℕ) (types : ProgramTree) (old now : World) : Type 0 where
    pub base : LogBase
    pub entries : List ReadEntry
    pub sessions : List ℕ
    pub follows : IsFollowedBy Two p file base entries sessions last gate
    pub counted : length sessions ≡ length entries
    pub in_force : (program_after p entries).types ≡ types
    pub puts : PutsOut (lines p sessions entries) old now

  pub copied_none : (base : LogBase) (last gate : ℕ) (types : ProgramTree) (old new : World) → p.types ≡ types → IsFollowedBy Two p file base [] [] last gate → OnlyAsked old new → HasCopied last gate types old new
  copied_none base last gate types old new first begins asked = record { base = base; entries = []; sessions = []; follows = begins; counted = refl; in_force = first; puts = asked_puts old new asked }

  -- all lines of a log
  abbrev all_lines : LogRead → List ℕ
  all_lines log = lines p (sessions_read Two p file) log.entries

  -- those of what was read, and those of what is left
  parted : (base : LogBase) (entries : List ReadEntry) (sessions : List ℕ) (last gate : ℕ) → IsFollowedBy Two p file base entries sessions last gate → length sessions ≡ length entries → (log : LogRead)
      → log_in_file Two p file ≡ Ok log → (rest : List ℕ) × (all_lines log ≡ lines p sessions entries ++ rest)
  parted base entries sessions last gate follows counted log is =
      let left = (rest_of p file base entries sessions last gate follows log is).1 in
      let told = follows_sessions Two p file base entries sessions last gate follows log is in
      (lines (program_after p entries) told.0 left.0, (λ i. lines p (told.1 i) (left.1 i)) ∙ lines_both p sessions told.0 entries left.0 counted)

  module _ (last gate : ℕ) (types : ProgramTree) (old mid read new : World) (h : HasCopied last gate types old mid) (asked : OnlyAsked mid read) (session : ℕ) (entry : BodyEntry) (behind : ℕ)
      (step : next_in Two types last gate file ≡ Ok (Some (session, entry, behind))) where
    on : IsFollowedBy Two p file h.base (h.entries ++ entries_said entry) (h.sessions ++ of_block session entry) session behind
    on = follows_on Two p file h.base h.entries h.sessions last gate h.follows session entry behind (subst (λ (t : ProgramTree). next_in Two t last gate file ≡ Ok (Some (session, entry, behind))) (sym h.in_force) step)

    more_counted : length (h.sessions ++ of_block session entry) ≡ length (h.entries ++ entries_said entry)
    more_counted =
        let block : length (of_block session entry) ≡ length (entries_said entry) = length-map (entries_said entry) (λ e. session) in
        omega (arith, length-append h.sessions (of_block session entry), length-append h.entries (entries_said entry), h.counted, block)

    more_lines : lines p (h.sessions ++ of_block session entry) (h.entries ++ entries_said entry) ≡ lines p h.sessions h.entries ++ said_lines types session entry
    more_lines = lines_both p h.sessions (of_block session entry) h.entries (entries_said entry) h.counted ∙ ap (λ (l : List ℕ). lines p h.sessions h.entries ++ l) (lines_said (program_after p h.entries) types session entry h.in_force)

    pub copied_more : PutsPart (said_lines types session entry) true read new → HasCopied session behind (types_behind types entry) old new
    copied_more part = record {
      base = h.base;
      entries = h.entries ++ entries_said entry;
      sessions = h.sessions ++ of_block session entry;
      follows = on;
      counted = more_counted;
      in_force = ap (λ (q : Program). q.types) (after_more p h.entries entry) ∙ behind_is (program_after p h.entries) types entry h.in_force;
      puts = subst (λ (l : List ℕ). PutsOut l old new) (sym more_lines)
          (puts_then (lines p h.sessions h.entries) (said_lines types session entry) old read new (puts_asked (lines p h.sessions h.entries) old mid read h.puts asked) (part_done (said_lines types session entry) read new part));
    }

    pub copied_cut : (ok : Bool) → PutsPart (said_lines types session entry) ok read new → (log : LogRead) → log_in_file Two p file ≡ Ok log → PutsPart (all_lines log) false old new
    copied_cut ok part log is =
        let left = parted h.base (h.entries ++ entries_said entry) (h.sessions ++ of_block session entry) session behind on more_counted log is in
        let all : all_lines log ≡ lines p h.sessions h.entries ++ (said_lines types session entry ++ left.0) =
        left.1 ∙ ap (λ (l : List ℕ). l ++ left.0) more_lines ∙ append_assoc (lines p h.sessions h.entries) (said_lines types session entry) left.0 in
        part_cut (all_lines log) old (lines p h.sessions h.entries) (said_lines types session entry) left.0 ok read new
        (puts_asked (lines p h.sessions h.entries) old mid read h.puts asked) part all

  module _ (last gate : ℕ) (types : ProgramTree) (old mid new : World) (h : HasCopied last gate types old mid) (asked : OnlyAsked mid new) (log : LogRead) (is : log_in_file Two p file ≡ Ok log) where
    pub copied_all : next_in Two types last gate file ≡ Ok None → PutsPart (all_lines log) true old new
    copied_all end =
        let ends = subst (λ (t : ProgramTree). next_in Two t last gate file ≡ Ok None) (sym h.in_force) end in
        let read = (all_read p file h.base h.entries h.sessions last gate h.follows ends log is).1 in
        let told = all_sessions Two p file h.base h.entries h.sessions last gate h.follows ends in
        let same : lines p h.sessions h.entries ≡ all_lines log = (λ i. lines p (sym told i) (read i)) in
        part_all (all_lines log) old new (subst (λ (l : List ℕ). PutsOut l old new) same (puts_asked (lines p h.sessions h.entries) old mid new h.puts asked))

    pub copied_stopped : PutsPart (all_lines log) false old new
    copied_stopped =
        let left = parted h.base h.entries h.sessions last gate h.follows h.counted log is in
        part_front (all_lines log) old (lines p h.sessions h.entries) left.0 new (puts_asked (lines p h.sessions h.entries) old mid new h.puts asked) left.1

  -- a block that couldn't be read ends a report with a part of its text
  pub block_ends : (last gate : ℕ) (types : ProgramTree) (old now : World) → HasCopied last gate types old now → (e : ReportFault) → IsBlockFault types last gate file e → (log : LogRead) → log_in_file Two p file ≡ Ok log
      → MayEnd (report_ending {A = Unit {0}} (Err e))
  block_ends last gate types old now h ReportFault.NotASilo none log is = absurd none
  block_ends last gate types old now h ReportFault.OldFormat none log is = absurd none
  block_ends last gate types old now h (ReportFault.Damaged at place) here log is =
      let step : next_in Two (program_after p h.entries).types last gate file ≡ Err place = subst (λ (t : ProgramTree). next_in Two t last gate file ≡ Err place) (sym h.in_force) here in
      absurd (let no : Err place ≡ Ok log = sym (follows_breaks Two p file h.base h.entries h.sessions last gate h.follows place step) ∙ is in cc)
  block_ends last gate types old now h (ReportFault.DiskFault at) here log is = inr tt
  block_ends last gate types old now h ReportFault.WriteFault here log is = inr tt
  block_ends last gate types old now h ReportFault.Memory here log is = inr tt
