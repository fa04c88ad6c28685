-- A log is read block by block: what was read, and what is left from a gate on.
use Rattle.std.proofs.Common.{◌≡◌, ℕ, zero, suc, ◌+◌, ◌<◌, ◌≤◌, Bool, false, eqb, if◌then◌else◌, List, [], ◌∷◌, ◌++◌, length, map, slice_index, Option, Some, None, Result, Ok, Err, refl, sym, ◌∙◌, ap, arith, append_assoc, append-nil}
use Rattle.std.proofs.lemmas.List.{get_or_past}
use Rattle.field_codec.specs.declared.formats.Format.{Format}
use Rattle.field_codec.specs.Fields.{session_of}
use Rattle.gate_block.specs.Blocks.{BehindGate, shut, bad, whole, found_at}
use Rattle.gate_block.specs.Log.{then_bodies, then_gate, bodies_from, bodies_of, gate_from, gate_of, first_gate}
use Rattle.gate_block.proofs.Logs.{closed_shut}
use Rattle.commit_log.specs.declared.records.CommitRecord.{CommitRecord}
use Rattle.script_tree.specs.Programs.{ProgramTree}
use Rattle.program_file.specs.Programs.{Program, shape_in}
use Rattle.log_reading.specs.Entries.{BodyEntry, Recorded, Upgraded, entry_of_body}
use Rattle.log_reading.specs.Blocks.{LogBase, ReadEntry, ReadRecord, ReadUpgrade, LogRead, fresh_base, header_damage, behind_header, entries_said, program_behind, before_others, and_entries, no_more, entries_behind, behind_base, log_as, log_in_file, program_after}
use Rattle.log_reading.specs.Sessions.{behind_pieces, bodies_of_entries, last_session, session_by, session_in_file, and_sessions, sessions_behind, sessions_by, sessions_read}
use Rattle.log_reading.specs.Steps.{and_gate, next_of, next_in, entries_from, IsFollowedBy}

abbrev Entries : Type 0
Entries = List ReadEntry

-- a file's end is a closed gate
pub past_shut : (file : List ℕ) (gate : ℕ) → length file ≤ gate → found_at gate file ≡ shut
past_shut file gate past = closed_shut gate file (λ is. let none : slice_index file gate ≡ 0 = get_or_past file gate 0 past in let no : 0 ≡ 1 = sym none ∙ is in absurd cc)

module _ (format : Format) (file : List ℕ) where
  -- the bodies from a gate on, by what was found there
  abbrev pub bodies_found : ℕ → ℕ → BehindGate → List (List ℕ)
  bodies_found m gate found = then_bodies (λ size. bodies_from m (gate + 5 + size) file) found

  -- what is left from there on under a program and behind a session
  abbrev from_found : Program → ℕ → ℕ → ℕ → BehindGate → Result Entries ℕ
  from_found p last m gate found =
      entries_behind format p last gate (bodies_found m gate found)
      (no_more (then_gate gate (λ size. gate_from m (gate + 5 + size) file) found) (found_at (then_gate gate (λ size. gate_from m (gate + 5 + size) file) found) file))

  abbrev gate_found : ℕ → ℕ → BehindGate → ℕ
  gate_found m gate found = then_gate gate (λ size. gate_from m (gate + 5 + size) file) found

-- the log that was read
abbrev as_log : LogRead → Result LogRead ℕ
as_log log = Ok log

log_is : (a b : LogRead) → as_log a ≡ Ok b → a ≡ b
log_is a b e = cc

-- ---- what an answer tells of a body

abbrev found_or : (ℕ × BodyEntry × ℕ) → Result (Option (ℕ × BodyEntry × ℕ)) ℕ → ℕ × BodyEntry × ℕ
found_or d (Ok (Some p)) = p
found_or d (Ok None) = d
found_or d (Err place) = d

gate_ok : (own gate size : ℕ) (r : Result BodyEntry ℕ) (session : ℕ) (entry : BodyEntry) (next : ℕ) → and_gate own gate size r ≡ Ok (Some (session, entry, next)) → (r ≡ Ok entry) × (next ≡ gate + 5 + size) × (own ≡ session)
gate_ok own gate size (Ok found) session entry next e =
    let same : found ≡ entry = ap (λ x. (found_or (session, found, next) x).1) e in
    let at : gate + 5 + size ≡ next = ap (λ x. (found_or (session, found, next) x).2) e in
    let is : own ≡ session = ap (λ x. (found_or (session, found, next) x).0) e in
    (ap Ok same, sym at, is)
gate_ok own gate size (Err place) session entry next e = absurd cc

gate_none : {B : Type 0} (own gate size : ℕ) (r : Result BodyEntry ℕ) → and_gate own gate size r ≡ Ok None → B
gate_none own gate size (Ok entry) e = absurd cc
gate_none own gate size (Err place) e = absurd cc

gate_err : (p : Program) (own gate size : ℕ) (r : Result BodyEntry ℕ) (place : ℕ) (behind : Program → Result Entries ℕ) → and_gate own gate size r ≡ Err place → and_entries p (gate + 5) behind r ≡ Err place
gate_err p own gate size (Ok entry) place behind e = absurd cc
gate_err p own gate size (Err at) place behind e = cc

-- where there is nothing more, no block counts
pub none_shut : (format : Format) (types : ProgramTree) (last gate : ℕ) (found : BehindGate) → next_of format types last gate found ≡ Ok None → found ≡ shut
none_shut format types last gate shut e = refl
none_shut format types last gate bad e = absurd cc
none_shut format types last gate (whole body) e = gate_none (session_of format body) gate (length body) (entry_of_body format types _ last body) e

-- ---- the program in force

-- behind some entries and others
pub after_append : (p : Program) (xs ys : Entries) → program_after p (xs ++ ys) ≡ program_after (program_after p xs) ys
after_append p [] ys = refl
after_append p (ReadRecord r ∷ xs) ys = after_append p xs ys
after_append p (ReadUpgrade q ∷ xs) ys = after_append q xs ys

after_records : (p : Program) (rs : List CommitRecord) → program_after p (map ReadRecord rs) ≡ p
after_records p [] = refl
after_records p (r ∷ rs) = after_records p rs

-- behind what a body says
pub after_said : (p : Program) (entry : BodyEntry) → program_after p (entries_said entry) ≡ program_behind p entry
after_said p (Recorded records) = after_records p records
after_said p (Upgraded q) = refl

pub after_more : (p : Program) (entries : Entries) (entry : BodyEntry) → program_after p (entries ++ entries_said entry) ≡ program_behind (program_after p entries) entry
after_more p entries entry = after_append p entries (entries_said entry) ∙ after_said (program_after p entries) entry

-- ---- one step

module _ (format : Format) (p : Program) (last : ℕ) (file : List ℕ) where
  -- what a block that was read leaves: its entries and their sessions before the others
  record Further (m gate session : ℕ) (entry : BodyEntry) (next : ℕ) : Type 0 where
    entries : entries_from format p last (suc m) gate file ≡ before_others (entries_said entry) (entries_from format (program_behind p entry) session m next file)
    gates : gate_from (suc m) gate file ≡ gate_from m next file
    on : gate + 5 ≤ next
    greatest : last_session format last (bodies_from (suc m) gate file) ≡ last_session format session (bodies_from m next file)
    each : sessions_behind format p last (bodies_from (suc m) gate file) ≡ map (λ e. session) (entries_said entry) ++ sessions_behind format (program_behind p entry) session (bodies_from m next file)

  further_by : (m gate : ℕ) (found : BehindGate) → found_at gate file ≡ found → (session : ℕ) (entry : BodyEntry) (next : ℕ) → next_of format p.types last gate found ≡ Ok (Some (session, entry, next)) → Further m gate session entry next
  further_by m gate shut is session entry next e = absurd cc
  further_by m gate bad is session entry next e = absurd cc
  further_by m gate (whole body) is session entry next e =
      let own : ℕ = session_of format body in
      let there : ℕ = gate + 5 + length body in
      let q : Program = program_behind p entry in
      let t = gate_ok own gate (length body) (entry_of_body format p.types (shape_in p) last body) session entry next e in
      let behind : Program → Result Entries ℕ = λ q. entries_from format q own m there file in
      let later : Program → List ℕ = λ q. sessions_behind format q own (bodies_from m there file) in
      let one : entries_from format p last (suc m) gate file ≡ and_entries p (gate + 5) behind (entry_of_body format p.types (shape_in p) last body) = ap (from_found format file p last m gate) is in
      let bodies : bodies_from (suc m) gate file ≡ body ∷ bodies_from m there file = ap (bodies_found format file m gate) is in
      let gates : gate_from (suc m) gate file ≡ gate_from m there file = ap (gate_found format file m gate) is in record {
        entries = one ∙ ap (and_entries p (gate + 5) behind) t.0 ∙ (λ i. before_others (entries_said entry) (entries_from format q (t.2 i) m (sym t.1 i) file));
        gates = gates ∙ ap (λ (n : ℕ). gate_from m n file) (sym t.1);
        on = omega (arith, t.1);
        greatest = ap (last_session format last) bodies ∙ (λ i. last_session format (t.2 i) (bodies_from m (sym t.1 i) file));
        each = ap (sessions_behind format p last) bodies ∙ ap (and_sessions p own later) t.0 ∙ (λ i. map (λ e. t.2 i) (entries_said entry) ++ sessions_behind format q (t.2 i) (bodies_from m (sym t.1 i) file));
      }

  end_by : (m gate : ℕ) (found : BehindGate) → found_at gate file ≡ found → next_of format p.types last gate found ≡ Ok None
      → (entries_from format p last (suc m) gate file ≡ Ok []) × (gate_from (suc m) gate file ≡ gate) × (bodies_from (suc m) gate file ≡ [])
  end_by m gate shut is e =
      let one : entries_from format p last (suc m) gate file ≡ no_more gate (found_at gate file) = ap (from_found format file p last m gate) is in
      (one ∙ ap (no_more gate) is, ap (gate_found format file m gate) is, ap (bodies_found format file m gate) is)
  end_by m gate bad is e = absurd cc
  end_by m gate (whole body) is e = gate_none (session_of format body) gate (length body) (entry_of_body format p.types (shape_in p) last body) e

  break_by : (m gate : ℕ) (found : BehindGate) → found_at gate file ≡ found → (place : ℕ) → next_of format p.types last gate found ≡ Err place → entries_from format p last (suc m) gate file ≡ Err place
  break_by m gate shut is place e = absurd cc
  break_by m gate bad is place e =
      let one : entries_from format p last (suc m) gate file ≡ no_more gate (found_at gate file) = ap (from_found format file p last m gate) is in
      one ∙ ap (no_more gate) is ∙ cc
  break_by m gate (whole body) is place e =
      let own : ℕ = session_of format body in
      let behind : Program → Result Entries ℕ = λ q. entries_from format q own m (gate + 5 + length body) file in
      let one : entries_from format p last (suc m) gate file ≡ and_entries p (gate + 5) behind (entry_of_body format p.types (shape_in p) last body) = ap (from_found format file p last m gate) is in
      one ∙ gate_err p own gate (length body) (entry_of_body format p.types (shape_in p) last body) place behind e

  -- at a file's end there is nothing more
  nothing : (gate : ℕ) → length file < gate + zero → next_in format p.types last gate file ≡ Ok None
  nothing gate past = ap (next_of format p.types last gate) (past_shut file gate (omega (arith, past)))

-- ---- the loop

none_more : (r : Result Entries ℕ) → before_others [] r ≡ r
none_more (Ok entries) = refl
none_more (Err place) = refl

twice : (a b : Entries) (r : Result Entries ℕ) → before_others a (before_others b r) ≡ before_others (a ++ b) r
twice a b (Ok entries) = ap Ok (sym (append_assoc a b entries))
twice a b (Err place) = refl

-- a log begins with its entries at a gate, where this is what is read from there on
pub follows_at : (format : Format) (p : Program) (file : List ℕ) (base : LogBase) (gate fuel : ℕ) → length file < gate + fuel
    → behind_base base (entries_from format p base.session fuel gate file) ≡ log_in_file format p file → gate_from fuel gate file ≡ gate_of file → bodies_from fuel gate file ≡ bodies_of_entries file
    → IsFollowedBy format p file base [] [] base.session gate
follows_at format p file base gate fuel enough rest last bodies = record {
  fuel = fuel;
  enough = enough;
  rest = ap (behind_base base) (none_more (entries_from format p base.session fuel gate file)) ∙ rest;
  last = last;
  greatest = ap (last_session format base.session) bodies;
  each = ap (sessions_behind format p base.session) bodies;
}

-- what is read behind a header that isn't damaged
pub clean_log : (format : Format) (p : Program) (file : List ℕ) → header_damage file ≡ None → (begins : Bool) → eqb (slice_index file 13) 1 ≡ begins
    → log_in_file format p file ≡ log_as format p begins (bodies_of file) (gate_of file) (found_at (gate_of file) file)
clean_log format p file clean begins is =
    let read : Bool → Result LogRead ℕ = λ b. log_as format p b (bodies_of file) (gate_of file) (found_at (gate_of file) file) in
    ap (λ (d : Option ℕ). behind_header d (read (eqb (slice_index file 13) 1))) clean ∙ ap read is

-- the bodies of the entries, by the header's byte
pub bodies_by : (file : List ℕ) (begins : Bool) → eqb (slice_index file 13) 1 ≡ begins → bodies_of_entries file ≡ (if begins then behind_pieces (bodies_of file) else bodies_of file)
bodies_by file begins is = ap (λ (b : Bool). if b then behind_pieces (bodies_of file) else bodies_of file) is

-- behind a header that isn't damaged, and says that no checkpoint follows, nothing is read yet
pub follows_begins : (format : Format) (p : Program) (file : List ℕ) → header_damage file ≡ None → eqb (slice_index file 13) 1 ≡ false → IsFollowedBy format p file fresh_base [] [] 0 first_gate
follows_begins format p file clean fresh =
    follows_at format p file fresh_base first_gate (length file) (omega arith) (sym (clean_log format p file clean false fresh)) refl (sym (bodies_by file false fresh))

module _ (format : Format) (p : Program) (file : List ℕ) (base : LogBase) (entries : Entries) (sessions : List ℕ) (session gate : ℕ) where
  abbrev here : Program
  here = program_after p entries

  abbrev whole_log : Result Entries ℕ → Result LogRead ℕ
  whole_log rest = behind_base base (before_others entries rest)

  on_by : (fuel : ℕ) → length file < gate + fuel → (f : IsFollowedBy format p file base entries sessions session gate) → f.fuel ≡ fuel
      → (own : ℕ) (entry : BodyEntry) (next : ℕ) → next_in format here.types session gate file ≡ Ok (Some (own, entry, next))
      → IsFollowedBy format p file base (entries ++ entries_said entry) (sessions ++ map (λ e. own) (entries_said entry)) own next
  on_by zero enough f is own entry next e = let none = nothing format here session file gate enough in absurd cc
  on_by (suc m) enough f is own entry next e =
      let t = further_by format here session file m gate (found_at gate file) refl own entry next e in
      let q : Program = program_behind here entry in
      let after : program_after p (entries ++ entries_said entry) ≡ q = after_more p entries entry in
      let mine : List ℕ = map (λ e. own) (entries_said entry) in
      let more : Program → Result LogRead ℕ = λ q. behind_base base (before_others (entries ++ entries_said entry) (entries_from format q own m next file)) in
      let rest : whole_log (entries_from format here session (suc m) gate file) ≡ log_in_file format p file = ap (λ (n : ℕ). whole_log (entries_from format here session n gate file)) (sym is) ∙ f.rest in
      let last : gate_from (suc m) gate file ≡ gate_of file = ap (λ (n : ℕ). gate_from n gate file) (sym is) ∙ f.last in
      let greatest : last_session format session (bodies_from (suc m) gate file) ≡ last_session format base.session (bodies_of_entries file) = ap (λ (n : ℕ). last_session format session (bodies_from n gate file)) (sym is) ∙ f.greatest in
      let each : sessions ++ sessions_behind format here session (bodies_from (suc m) gate file) ≡ sessions_behind format p base.session (bodies_of_entries file) = ap (λ (n : ℕ). sessions ++ sessions_behind format here session (bodies_from n gate file)) (sym is) ∙ f.each in
      record {
        fuel = m;
        enough = omega (arith, enough, t.on);
        rest = ap more after ∙ ap (behind_base base) (sym (twice entries (entries_said entry) (entries_from format q own m next file)) ∙ ap (before_others entries) (sym t.entries)) ∙ rest;
        last = sym t.gates ∙ last;
        greatest = sym t.greatest ∙ greatest;
        each = ap (λ (q : Program). (sessions ++ mine) ++ sessions_behind format q own (bodies_from m next file)) after
            ∙ append_assoc sessions mine (sessions_behind format q own (bodies_from m next file)) ∙ ap (λ (l : List ℕ). sessions ++ l) (sym t.each) ∙ each;
      }

  pub follows_on : IsFollowedBy format p file base entries sessions session gate → (own : ℕ) (entry : BodyEntry) (next : ℕ) → next_in format here.types session gate file ≡ Ok (Some (own, entry, next))
      → IsFollowedBy format p file base (entries ++ entries_said entry) (sessions ++ map (λ e. own) (entries_said entry)) own next
  follows_on f own entry next e = on_by f.fuel f.enough f refl own entry next e

  ends_by : (fuel : ℕ) → length file < gate + fuel → whole_log (entries_from format here session fuel gate file) ≡ log_in_file format p file → gate_from fuel gate file ≡ gate_of file
      → next_in format here.types session gate file ≡ Ok None → (log_in_file format p file ≡ Ok (record { base = base; entries = entries })) × (gate_of file ≡ gate)
  ends_by zero enough rest last e =
      let past : found_at gate file ≡ shut = past_shut file gate (omega (arith, enough)) in
      let none : entries_from format here session zero gate file ≡ Ok [] = ap (no_more gate) past in
      (sym rest ∙ ap whole_log none ∙ ap (λ (l : Entries). behind_base base (Ok l)) (append-nil entries), sym last)
  ends_by (suc m) enough rest last e =
      let t = end_by format here session file m gate (found_at gate file) refl e in
      (sym rest ∙ ap whole_log t.0 ∙ ap (λ (l : Entries). behind_base base (Ok l)) (append-nil entries), sym last ∙ t.1)

  pub follows_ends : IsFollowedBy format p file base entries sessions session gate → next_in format here.types session gate file ≡ Ok None → (log_in_file format p file ≡ Ok (record { base = base; entries = entries })) × (gate_of file ≡ gate)
  follows_ends f e = ends_by f.fuel f.enough f.rest f.last e

  breaks_by : (fuel : ℕ) → length file < gate + fuel → whole_log (entries_from format here session fuel gate file) ≡ log_in_file format p file
      → (place : ℕ) → next_in format here.types session gate file ≡ Err place → log_in_file format p file ≡ Err place
  breaks_by zero enough rest place e = let none = nothing format here session file gate enough in absurd cc
  breaks_by (suc m) enough rest place e = sym rest ∙ ap whole_log (break_by format here session file m gate (found_at gate file) refl place e)

  pub follows_breaks : IsFollowedBy format p file base entries sessions session gate → (place : ℕ) → next_in format here.types session gate file ≡ Err place → log_in_file format p file ≡ Err place
  follows_breaks f place e = breaks_by f.fuel f.enough f.rest place e

  -- ---- sessions

  -- behind the last block no body is left
  none_left : (fuel : ℕ) → next_in format here.types session gate file ≡ Ok None → bodies_from fuel gate file ≡ []
  none_left zero e = refl
  none_left (suc m) e = (end_by format here session file m gate (found_at gate file) refl e).2

  -- the greatest session is that of the last block
  pub ends_session : IsFollowedBy format p file base entries sessions session gate → next_in format here.types session gate file ≡ Ok None → session_in_file format p file ≡ session
  ends_session f e =
      ap (session_by format file) (follows_ends f e).0 ∙ sym f.greatest ∙ ap (last_session format session) (none_left f.fuel e)

  same_base : (r : Result Entries ℕ) (log : LogRead) → behind_base base r ≡ Ok log → base ≡ log.base
  same_base (Ok found) log e = ap (λ (x : LogRead). x.base) (log_is (record { base = base; entries = found }) log e)
  same_base (Err place) log e = absurd cc

  -- the sessions so far are the first of the file's
  pub follows_sessions : IsFollowedBy format p file base entries sessions session gate → (log : LogRead) → log_in_file format p file ≡ Ok log → (later : List ℕ) × (sessions_read format p file ≡ sessions ++ later)
  follows_sessions f log is =
      let base_is : base ≡ log.base = same_base (before_others entries (entries_from format here session f.fuel gate file)) log (f.rest ∙ is) in (
        sessions_behind format here session (bodies_from f.fuel gate file),
        ap (sessions_by format p file) is ∙ ap (λ (b : LogBase). sessions_behind format p b.session (bodies_of_entries file)) (sym base_is) ∙ sym f.each,
      )

  -- and all of them where nothing is left
  pub all_sessions : IsFollowedBy format p file base entries sessions session gate → next_in format here.types session gate file ≡ Ok None → sessions_read format p file ≡ sessions
  all_sessions f e =
      ap (sessions_by format p file) (follows_ends f e).0 ∙ sym f.each ∙ ap (λ (l : List (List ℕ)). sessions ++ sessions_behind format here session l) (none_left f.fuel e) ∙ append-nil sessions
