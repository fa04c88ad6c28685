-- Entries are read of exactly the bodies that say them.
use Rattle.std.proofs.Common.{◌≡◌, ℕ, ◌+◌, List, [], ◌∷◌, ◌++◌, length, map, fold, Result, Ok, Err, refl, sym, ap, ◌∙◌, append_assoc}
use Rattle.std.specs.List.{flat_map, AllByRecursion}
use Rattle.field_codec.specs.declared.formats.Format.{Format}
use Rattle.field_codec.specs.declared.units.Numbers.TheVariants.{Logged}
use Rattle.field_codec.specs.Units.{SessionFits}
use Rattle.field_codec.specs.Fields.{session_of}
use Rattle.field_codec.specs.Readers.{AreBytes}
use Rattle.log_reading.specs.Entries.{BodyEntry, Recorded, Upgraded, entry_of_body, IsEntryIn, body_said, SessionEntry, body_with, IsSessionEntryIn}
use Rattle.log_reading.proofs.Upgrading.{spelled as upgrade_spelled, read as upgrade_read, records as records_read, recorded as records_spelled}
use Rattle.commit_log.specs.declared.contents.Body.TheVariants as body
use Rattle.commit_log.proofs.FrontsRead.{session_spelled}
use Rattle.base_types.specs.declared.shapes.Shape.{Shape}
use Rattle.script_tree.specs.Programs.{ProgramTree}
use Rattle.script_check.specs.Shapes.{type_shapes}
use Rattle.program_file.specs.Programs.{Program, shape_in}
use Rattle.log_reading.specs.Blocks.{ReadEntry, entries_said, program_behind, before_others, and_entries, entries_behind, AreEntriesIn, AreSaidBy}
use Rattle.log_reading.specs.Sessions.{last_session, and_sessions, sessions_behind}

-- ---- what is read whole

-- a body names its session
pub session_said : (f : Format) (last session : ℕ) (entry : BodyEntry) → SessionFits f Logged last session → session_of f (body_said f session entry) ≡ session
session_said f last session (Recorded records) taken = session_spelled f Logged last session (body.Records records) taken
session_said f last session (Upgraded q) taken = session_spelled f Logged last session (body.Upgrade q.text) taken

entry_read : (f : Format) (p : Program) (last session : ℕ) (entry : BodyEntry) → SessionFits f Logged last session → IsEntryIn f p entry → entry_of_body f p.types (shape_in p) last (body_said f session entry) ≡ Ok entry
entry_read f p last session (Recorded records) taken h =
    records_spelled f p.types (shape_in p) last session (body_said f session (Recorded records)) records (record { session_fits = taken; content_fits = h; spelled = refl })
entry_read f p last session (Upgraded q) taken h = upgrade_spelled f p.types (shape_in p) last session taken q h.0 h.1

pub one_read : (f : Format) (p : Program) (last : ℕ) (b : SessionEntry) → IsSessionEntryIn f p last b → entry_of_body f p.types (shape_in p) last (body_with f b) ≡ Ok b.entry
one_read f p last b is = entry_read f p last b.session b.entry is.0 is.1

module _ (f : Format) where
  abbrev entries_of : SessionEntry → List ReadEntry
  entries_of b = entries_said b.entry

  pub reads : (p : Program) (last gate : ℕ) (said : List SessionEntry) (rest : List ReadEntry) → AreEntriesIn f p last said
      → entries_behind f p last gate (map (body_with f) said) (Ok rest) ≡ Ok (flat_map (λ (b : SessionEntry). entries_said b.entry) said ++ rest)
  reads p last gate [] rest h = refl
  reads p last gate (b ∷ said) rest h =
      let there : ℕ = gate + 5 + length (body_with f b) in
      let more = λ (s : ℕ) (q : Program). entries_behind f q s there (map (body_with f) said) (Ok rest) in
      ap (λ (s : ℕ). and_entries p (gate + 5) (more s) (entry_of_body f p.types (shape_in p) last (body_with f b))) (session_said f last b.session b.entry h.0.0)
      ∙ ap (and_entries p (gate + 5) (more b.session)) (one_read f p last b h.0)
      ∙ ap (before_others (entries_said b.entry)) (reads (program_behind p b.entry) b.session there said rest h.1)
      ∙ ap (λ (l : List ReadEntry). Ok l) (sym (append_assoc (entries_said b.entry) (flat_map entries_of said) rest))

  -- their sessions are those of the bodies
  pub sessions : (p : Program) (last : ℕ) (said : List SessionEntry) → AreEntriesIn f p last said
      → sessions_behind f p last (map (body_with f) said) ≡ flat_map (λ (b : SessionEntry). map (λ e. b.session) (entries_said b.entry)) said
  sessions p last [] h = refl
  sessions p last (b ∷ said) h =
      let more = λ (s : ℕ) (q : Program). sessions_behind f q s (map (body_with f) said) in
      ap (λ (s : ℕ). and_sessions p s (more s) (entry_of_body f p.types (shape_in p) last (body_with f b))) (session_said f last b.session b.entry h.0.0)
      ∙ ap (and_sessions p b.session (more b.session)) (one_read f p last b h.0)
      ∙ ap (λ (l : List ℕ). map (λ e. b.session) (entries_said b.entry) ++ l) (sessions (program_behind p b.entry) b.session said h.1)

  -- the last of the bodies has the greatest
  pub greatest : (p : Program) (last : ℕ) (said : List SessionEntry) → AreEntriesIn f p last said → last_session f last (map (body_with f) said) ≡ fold (λ (n : ℕ) (b : SessionEntry). b.session) last said
  greatest p last [] h = refl
  greatest p last (b ∷ said) h =
      ap (λ (s : ℕ). last_session f s (map (body_with f) said)) (session_said f last b.session b.entry h.0.0) ∙ greatest (program_behind p b.entry) b.session said h.1

-- a body that was read says what was read
one_said : (f : Format) (p : Program) (last : ℕ) (bytes : List ℕ) (entry : BodyEntry) → AreBytes bytes → entry_of_body f p.types (shape_in p) last bytes ≡ Ok entry
    → (bytes ≡ body_said f (session_of f bytes) entry) × SessionFits f Logged last (session_of f bytes) × IsEntryIn f p entry
one_said f p last bytes (Recorded records) are e = (let h = records_read f p.types (shape_in p) last bytes records are e in (h.spelled, h.session_fits, h.content_fits))
one_said f p last bytes (Upgraded q) are e = (let h = upgrade_read f p.types (shape_in p) last bytes q are e in (h.0.spelled, h.0.session_fits, (h.1, h.2)))

before_ok : (entries : List ReadEntry) (r : Result (List ReadEntry) ℕ) (found : List ReadEntry) → before_others entries r ≡ Ok found → (more : List ReadEntry) × (r ≡ Ok more) × (entries ++ more ≡ found)
before_ok entries (Ok more) found e = (more, refl, cc)
before_ok entries (Err place) found e = absurd cc

and_ok : (p : Program) (at : ℕ) (behind : Program → Result (List ReadEntry) ℕ) (r : Result BodyEntry ℕ) (found : List ReadEntry) → and_entries p at behind r ≡ Ok found
    → (entry : BodyEntry) × (r ≡ Ok entry) × (before_others (entries_said entry) (behind (program_behind p entry)) ≡ Ok found)
and_ok p at behind (Err place) found e = absurd cc
and_ok p at behind (Ok entry) found e = (entry, refl, e)

pub only : (f : Format) (p : Program) (last gate : ℕ) (bodies : List (List ℕ)) (end : Result (List ReadEntry) ℕ) (found : List ReadEntry) → AllByRecursion AreBytes bodies → entries_behind f p last gate bodies end ≡ Ok found
    → AreSaidBy f p last bodies end found
only f p last gate [] end found are e = record { said = []; rest = found; bodies_are = refl; entries = tt; ended = e; are = refl }
only f p last gate (bytes ∷ bodies) end found are e =
    let own : ℕ = session_of f bytes in
    let more = λ (q : Program). entries_behind f q own (gate + 5 + length bytes) bodies end in
    let h = and_ok p (gate + 5) more (entry_of_body f p.types (shape_in p) last bytes) found e in
    let one = one_said f p last bytes h.0 are.0 h.1 in
    let b = before_ok (entries_said h.0) (more (program_behind p h.0)) found h.2 in
    let rest = only f (program_behind p h.0) own (gate + 5 + length bytes) bodies end b.0 are.1 b.1 in
    record {
      said = record { session = own; entry = h.0 } ∷ rest.said;
      rest = rest.rest;
      bodies_are = ap (λ (x : List ℕ). x ∷ bodies) one.0 ∙ ap (λ (l : List (List ℕ)). body_said f own h.0 ∷ l) rest.bodies_are;
      entries = ((one.1, one.2), rest.entries);
      ended = rest.ended;
      are = sym b.2 ∙ ap (λ (l : List ReadEntry). entries_said h.0 ++ l) rest.are ∙ sym (append_assoc (entries_said h.0) (flat_map (λ (b : SessionEntry). entries_said b.entry) rest.said) rest.rest);
    }

-- the same by the shape and the types of the program in force
pub said_in : (f : Format) (types : ProgramTree) (shape : Shape) (p : Program) (last : ℕ) (bytes : List ℕ) (entry : BodyEntry) → p.types ≡ types → shape.types ≡ type_shapes types → AreBytes bytes
    → entry_of_body f types shape last bytes ≡ Ok entry → (bytes ≡ body_said f (session_of f bytes) entry) × IsEntryIn f p entry
said_in f types shape p last bytes entry is shapes are e =
    let whole : shape_in p ≡ shape = (λ i. record { types = (ap type_shapes is ∙ sym shapes) i }) in
    let t = one_said f p last bytes entry are ((λ i. entry_of_body f (is i) (whole i) last bytes) ∙ e) in
    (t.0, t.2)

pub by_types : (f : Format) (types : ProgramTree) (shape : Shape) (last : ℕ) (bytes : List ℕ) → shape.types ≡ type_shapes types → entry_of_body f types (record { types = type_shapes types }) last bytes ≡ entry_of_body f types shape last bytes
by_types f types shape last bytes shapes = (λ i. entry_of_body f types (record { types = sym shapes i }) last bytes)
