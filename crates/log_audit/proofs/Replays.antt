-- Entries that were played one after another.
use Rattle.std.proofs.Common.{◌≡◌, ◌≢◌, inl, inr, ℕ, Bool, true, false, List, [], ◌∷◌, ◌++◌, length, map, Option, Some, None, Result, Ok, Err, refl, sym, ◌∙◌, ap, subst, append_assoc, append-nil}
use Rattle.std.specs.Prelude.{◌==◌, ◌&&◌, ◌||◌, not, if◌then◌else◌, is_some, slice_get, unwrap_or, fold}
use Rattle.std.specs.Cmp.{signed_Decides}
use Rattle.std.proofs.lemmas.Bool.{and_parts, and_from, eqb-true, eq-eqb, false≢true, cases_Bool}
use Rattle.std.proofs.lemmas.List.{map-append}
use Rattle.base_types.specs.declared.calls.GrainId.{GrainId}
use Rattle.base_types.specs.declared.calls.Outcome.{Outcome}
use Rattle.base_types.specs.declared.calls.Outcome.TheVariants as outcome
use Rattle.base_types.specs.declared.calls.Value.{Value}
use Rattle.base_types.specs.declared.calls.Value.TheVariants.{Int, Text}
use Rattle.base_types.specs.declared.shapes.Shape.{Shape}
use Rattle.base_types.specs.declared.stores.Store.{Store}
use Rattle.base_types.specs.Stores.{state_in, PutsState}
use Rattle.base_types.specs.Grains.{same_grain}
use Rattle.host_trait.specs.World.{Image}
use Rattle.host_trait.proofs.Names.{same_grain-is, same_grain-refl}
use Rattle.field_codec.specs.declared.formats.Format.TheVariants.{Two}
use Rattle.commit_log.specs.declared.records.CommitRecord.{CommitRecord}
use Rattle.core_model.specs.Equality.{same_list, same_text, same_value, same_state, same_outcome}
use Rattle.core_laws.proofs.Basics.{same_list-true, same_state-true, same_outcome-true}
use Rattle.log_reading.specs.Entries.{BodyEntry}
use Rattle.log_reading.specs.Blocks.{LogBase, ReadEntry, LogRead, entries_said, program_after, log_in_file}
use Rattle.log_reading.specs.Steps.{next_in, IsFollowedBy}
use Rattle.log_reading.proofs.LogBlocks.{follows_on, follows_breaks, after_more}
use Rattle.script_tree.specs.Programs.{ProgramTree}
use Rattle.script_meaning.specs.Play.{Played, found_in, initial_of, play}
use Rattle.promise_spec.specs.Programs.{Program}
use Rattle.promise_spec.specs.Records.{Commit, States, written, put_state}
use Rattle.promise_spec.specs.Entries.{LogEntry, Recorded, Upgraded, Standing, is_among, after_entry, after_entries}
use Rattle.base_types.specs.Origins.{depth_of}
use Rattle.promise_spec.specs.SerialExecution.{IsSerialFrom, Replays, played}
use Rattle.promise_spec.specs.Openings.{commit_of, entries_logged, log_of}
use Rattle.promise_spec.proofs.Standings.{program_stays, in_parts}
use Rattle.log_audit.specs.declared.replay.Bad.{Bad}
use Rattle.log_audit.specs.Replays.{same_write, agree, entries_of_records, IsStoreOf, FailsToReplay, ReplaysTo, FailsFirst, AllReplayTo, IsFirstFailure}
use Rattle.log_audit.specs.InForce.{types_behind}
use Rattle.log_audit.proofs.ReadEntries.{behind_is, all_read, rest_of, logged_both, program_logged}
use Rattle.log_audit.proofs.HeldGrains.{or_behind}
use Rattle.log_audit.proofs.Versions.{state_put}

-- ---- a value is itself, by the tests

list_itself : {A : Type 0} (same : A → A → Bool) → ((x : A) → same x x ≡ true) → (xs : List A) → same_list same xs xs ≡ true
list_itself same one [] = refl
list_itself same one (x ∷ xs) = and_from (same x x) (same_list same xs xs) (one x) (list_itself same one xs)

text_itself : (a : List ℕ) → same_text a a ≡ true
text_itself a = list_itself (λ x y. x == y) (λ x. eq-eqb x x refl) a

value_itself : (a : Value) → same_value a a ≡ true
value_itself (Int a) = (signed_Decides a a).1 refl
value_itself (Text a) = text_itself a

outcome_itself : (a : Outcome) → same_outcome a a ≡ true
outcome_itself (outcome.Value a) = value_itself a
outcome_itself (outcome.Fault a) = text_itself a
outcome_itself outcome.Aborted = refl

write_itself : (a : GrainId × List Value) → same_write a a ≡ true
write_itself a = and_from (same_grain a.0 a.0) (same_state a.1 a.1) (same_grain-refl a.0) (list_itself same_value value_itself a.1)

write_true : (a b : GrainId × List Value) → same_write a b ≡ true → a ≡ b
write_true a b e =
    let p = and_parts (same_grain a.0 b.0) (same_state a.1 b.1) e in
    let g : a.0 ≡ b.0 = same_grain-is a.0 b.0 p.0 in
    let s : a.1 ≡ b.1 = same_state-true a.1 b.1 p.1 in
    λ i. (g i, s i)

-- ---- one record

module _ (types : ProgramTree) (states : States) (c : Commit) (same : Bool) (same_is : same ≡ same_list same_write (played types states c.logged).writes (written c)) where
  abbrev here : Bool
  here = agree same (played types states c.logged).result c.logged.result (length (played types states c.logged).asked) (length c.logged.answers)

  pub passed_replays : here ≡ true → Replays types states c
  passed_replays e =
      let p = and_parts same (same_outcome (played types states c.logged).result c.logged.result && (length (played types states c.logged).asked == length c.logged.answers)) e in
      let q = and_parts (same_outcome (played types states c.logged).result c.logged.result) (length (played types states c.logged).asked == length c.logged.answers) p.1 in
      record {
        result = same_outcome-true (played types states c.logged).result c.logged.result q.0;
        asked = eqb-true (length (played types states c.logged).asked) (length c.logged.answers) q.1;
        writes = same_list-true same_write write_true (played types states c.logged).writes (written c) (sym same_is ∙ p.0);
      }

  writes_pass : (played types states c.logged).writes ≡ written c → same ≡ true
  writes_pass are = same_is ∙ ap (λ (l : List (GrainId × List Value)). same_list same_write l (written c)) are ∙ list_itself same_write write_itself (written c)

  replays_passed : Replays types states c → here ≡ true
  replays_passed r =
      and_from same (same_outcome (played types states c.logged).result c.logged.result && (length (played types states c.logged).asked == length c.logged.answers)) (writes_pass r.writes)
      (and_from (same_outcome (played types states c.logged).result c.logged.result) (length (played types states c.logged).asked == length c.logged.answers)
      (ap (λ (o : Outcome). same_outcome o c.logged.result) r.result ∙ outcome_itself c.logged.result) (eq-eqb (length (played types states c.logged).asked) (length c.logged.answers) r.asked))

  not_true : (b : Bool) → b ≡ true → not b ≡ true → ⊥
  not_true true one two = absurd cc
  not_true false one two = absurd cc

  not_false : (b : Bool) → not b ≡ false → b ≡ true
  not_false true e = refl
  not_false false e = absurd cc

  -- one that doesn't pass doesn't replay
  pub failed_fails : (bad : Bad) → c.logged.unit ≡ bad.unit → bad.kept ≡ c.logged.result → bad.played ≡ (played types states c.logged).result → bad.states_differ ≡ not same → here ≡ false → FailsToReplay types states c bad
  failed_fails bad unit kept gives differ e = record {
    unit = unit;
    kept = kept;
    gives = gives;
    same = λ alike. same_list-true same_write write_true (played types states c.logged).writes (written c) (sym same_is ∙ not_false same (sym differ ∙ alike));
    other = λ other are. not_true same (writes_pass are) (sym differ ∙ other);
    fails = λ r. false≢true (sym e ∙ replays_passed r);
  }

-- what the plain player gives for a record
pub played_is : (types : ProgramTree) (store : Store) (r : CommitRecord) (given : Played) (depth : ℕ) (answers : List Outcome) → given ≡ play types r.call depth store answers → depth ≡ depth_of r.origin → answers ≡ r.answers
    → given ≡ played types (found_in types store) r
unfolding play
played_is types store r given depth answers is d a = is ∙ (λ i. play types r.call (d i) store (a i))

-- ---- states in a store

-- a grain that is put has its state, and the others theirs
pub one_kept : (types : ProgramTree) (old new : Store) (grain : GrainId) (state : List Value) → PutsState old new grain state → found_in types new ≡ put_state (found_in types old) (grain, state)
one_kept types old new grain state puts = λ i g. each g i
  where
    each : (g : GrainId) → found_in types new g ≡ put_state (found_in types old) (grain, state) g
    each g = elim (cases_Bool (same_grain grain g)) [
      | inl is ↦
          let same : g ≡ grain = sym (same_grain-is grain g is) in
          let here : found_in types new g ≡ state =
          ap (λ (o : Option (List Value)). unwrap_or o (initial_of (slice_get types g.kind))) (ap (state_in new) same ∙ puts.put) in
          here ∙ sym (ap (λ (b : Bool). if b then state else found_in types old g) is)
      | inr other ↦
          let apart : g ≢ grain = λ same. false≢true (sym other ∙ subst (λ (x : GrainId). same_grain grain x ≡ true) (sym same) (same_grain-refl grain)) in
          ap (λ (o : Option (List Value)). unwrap_or o (initial_of (slice_get types g.kind))) (puts.others g apart) ∙ sym (ap (λ (b : Bool). if b then state else found_in types old g) other)
    ]

-- of which grains a store has a state once one is put
pub some_put : {A : Type 0} (b : Bool) (x : A) (o : Option A) → is_some (if b then Some x else o) ≡ (b || is_some o)
some_put true x o = refl
some_put false x o = refl

or_none : (a c : Bool) → ((a || false) || c) ≡ (a || c)
or_none true c = refl
or_none false c = refl

pub or_swapped : (a b c : Bool) → (a || (b || c)) ≡ (b || (a || c))
or_swapped true true c = refl
or_swapped true false c = refl
or_swapped false b c = refl

among_more : (ws : List (GrainId × List Value)) (grain g : GrainId) (state : List Value) (old : Bool) → (is_among (ws ++ (grain, state) ∷ []) g || old) ≡ (same_grain grain g || (is_among ws g || old))
among_more [] grain g state old = or_none (same_grain grain g) old
among_more (w ∷ ws) grain g state old =
    or_behind (same_grain w.0 g) (is_among (ws ++ (grain, state) ∷ []) g) old ∙ ap (λ (b : Bool). same_grain w.0 g || b) (among_more ws grain g state old)
    ∙ or_swapped (same_grain w.0 g) (same_grain grain g) (is_among ws g || old) ∙ ap (λ (b : Bool). same_grain grain g || b) (sym (or_behind (same_grain w.0 g) (is_among ws g) old))

pub held_more : (first old new : Store) (ws : List (GrainId × List Value)) (grain : GrainId) (state : List Value) → PutsState old new grain state
    → ((g : GrainId) → is_some (state_in old g) ≡ (is_among ws g || is_some (state_in first g))) → (g : GrainId) → is_some (state_in new g) ≡ (is_among (ws ++ (grain, state) ∷ []) g || is_some (state_in first g))
held_more first old new ws grain state puts held g =
    ap is_some (state_put old new grain g state puts) ∙ some_put (same_grain grain g) state (state_in old g) ∙ ap (λ (b : Bool). same_grain grain g || b) (held g)
    ∙ sym (among_more ws grain g state (is_some (state_in first g)))

-- ---- what stands in a store

-- what holds of the store's states under the program in force, holds of what stands
pub by_standing : (P : ProgramTree → States → Type 0) (types : ProgramTree) (store : Store) (before : Standing) → before.program.types ≡ types → IsStoreOf store before → P types (found_in types store) → P before.program.types before.states
by_standing P types store before program has here = subst (P before.program.types) has.states (subst (λ (t : ProgramTree). P t (found_in t store)) (sym program) here)

-- once a record's writes are put, it has what stands after the record
pub stands_after : (old new : Store) (before : Standing) (c : Commit) → IsStoreOf old before → ((grain : GrainId) → is_some (state_in new grain) ≡ (is_among (written c) grain || is_some (state_in old grain)))
    → ((types : ProgramTree) → found_in types new ≡ fold put_state (found_in types old) (written c)) → IsStoreOf new (after_entry before (Recorded c))
stands_after old new before c has held states = record {
  held = λ grain. held grain ∙ ap (λ (b : Bool). is_among (written c) grain || b) (has.held grain);
  states = states before.program.types ∙ ap (λ (s : States). fold put_state s (written c)) has.states;
}

-- ---- one after another

serial_both : (before : Standing) (a b : List LogEntry) → IsSerialFrom before a → IsSerialFrom (after_entries before a) b → IsSerialFrom before (a ++ b)
serial_both before [] b first rest = rest
serial_both before (Recorded c ∷ a) b first rest = (first.0, serial_both (after_entry before (Recorded c)) a b first.1 rest)
serial_both before (Upgraded p ∷ a) b first rest = serial_both (after_entry before (Upgraded p)) a b first rest

module _ (live : ℕ) (shape : Shape) (image : Image) where
  abbrev entered : List CommitRecord → List LogEntry
  entered records = entries_of_records live shape image records

  abbrev commit : CommitRecord → Commit
  commit r = commit_of Two live shape image r

  entered_both : (a b : List CommitRecord) → entered (a ++ b) ≡ entered a ++ entered b
  entered_both a b = ap (λ (cs : List Commit). map Recorded cs) (map-append commit a b) ∙ map-append Recorded (map commit a) (map commit b)

  module _ (before : Standing) where
    abbrev pub after : List CommitRecord → Standing
    after records = after_entries before (entered records)

    after_both : (a b : List CommitRecord) → after (a ++ b) ≡ after_entries (after a) (entered b)
    after_both a b = ap (λ (es : List LogEntry). after_entries before es) (entered_both a b) ∙ in_parts before (entered a) (entered b)

    -- records leave the program in force
    pub stays_typed : (records : List CommitRecord) (types : ProgramTree) → before.program.types ≡ types → (after records).program.types ≡ types
    stays_typed records types program = ap (λ (p : Program). p.types) (program_stays before (map commit records)) ∙ program

    -- of these records, those before the ones that are left replay, and the store has what stands after them
    pub record HasReplayed (records left : List CommitRecord) (now : Store) : Type 0 where
      pub front : List CommitRecord
      pub split : records ≡ front ++ left
      pub serial : IsSerialFrom before (entered front)
      pub has : IsStoreOf now (after front)

    pub replayed_none : (records : List CommitRecord) (now : Store) → IsStoreOf now before → HasReplayed records records now
    replayed_none records now has = record { front = []; split = refl; serial = tt; has = has }

    pub replayed_more : (records left more : List CommitRecord) (r : CommitRecord) (now new : Store) (h : HasReplayed records left now) → left ≡ r ∷ more → ReplaysTo (after h.front) (commit r) new None → HasReplayed records more new
    replayed_more records left more r now new h next to = record {
      front = h.front ++ r ∷ [];
      split = h.split ∙ ap (λ (l : List CommitRecord). h.front ++ l) next ∙ sym (append_assoc h.front (r ∷ []) more);
      serial = subst (λ (l : List LogEntry). IsSerialFrom before l) (sym (entered_both h.front (r ∷ []))) (serial_both before (entered h.front) (Recorded (commit r) ∷ []) h.serial (to.0, tt));
      has = subst (λ (s : Standing). IsStoreOf new s) (sym (after_both h.front (r ∷ []))) to.1;
    }

    pub replayed_bad : (records left more : List CommitRecord) (r : CommitRecord) (now : Store) (bad : Bad) (h : HasReplayed records left now) → left ≡ r ∷ more → FailsToReplay (after h.front).program.types (after h.front).states (commit r) bad
        → FailsFirst before (entered records) bad
    replayed_bad records left more r now bad h next fails = record {
      front = entered h.front;
      here = commit r;
      back = entered more;
      are = ap entered (h.split ∙ ap (λ (l : List CommitRecord). h.front ++ l) next) ∙ entered_both h.front (r ∷ more);
      serial = h.serial;
      fails = fails;
    }

    pub replayed_found : (records left more : List CommitRecord) (r : CommitRecord) (now new : Store) (found : Option Bad) (h : HasReplayed records left now) → left ≡ r ∷ more → is_some found ≡ true
        → ReplaysTo (after h.front) (commit r) new found → AllReplayTo before (entered records) new found
    replayed_found records left more r now new None h next some to = absurd cc
    replayed_found records left more r now new (Some bad) h next some to = replayed_bad records left more r now bad h next to

    pub replayed_next : (records left more : List CommitRecord) (r : CommitRecord) (now new : Store) (found : Option Bad) (h : HasReplayed records left now) → left ≡ r ∷ more → is_some found ≡ false
        → ReplaysTo (after h.front) (commit r) new found → HasReplayed records more new
    replayed_next records left more r now new None h next none to = replayed_more records left more r now new h next to
    replayed_next records left more r now new (Some bad) h next none to = absurd cc

    pub replayed_all : (records left : List CommitRecord) (now : Store) → HasReplayed records left now → left ≡ [] → AllReplayTo before (entered records) now None
    replayed_all records left now h none =
        let all : h.front ≡ records = sym (h.split ∙ ap (λ (l : List CommitRecord). h.front ++ l) none ∙ append-nil h.front) in
        (subst (λ (l : List CommitRecord). IsSerialFrom before (entered l)) all h.serial, subst (λ (l : List CommitRecord). IsStoreOf now (after l)) all h.has)

-- ---- block by block

module _ (p : Program) (live : ℕ) (image : Image) (file : List ℕ) where
  -- what a log of this program stands for that begins so
  abbrev start_of : LogBase → Standing
  start_of base = (log_of Two live p image (record { base = base; entries = [] })).base

  -- the entries that are read
  abbrev made : List ReadEntry → List LogEntry
  made entries = entries_logged Two live p image entries

  -- what stands after these
  abbrev pub stands : LogBase → List ReadEntry → Standing
  stands base entries = after_entries (start_of base) (made entries)

  -- those of a block more
  more_made : (done : List ReadEntry) (q : Program) (more : List ReadEntry) → program_after p done ≡ q → made (done ++ more) ≡ made done ++ entries_logged Two live q image more
  more_made done q more is = logged_both live image p done more ∙ ap (λ (r : Program). made done ++ entries_logged Two live r image more) is

  stands_program : (base : LogBase) (done : List ReadEntry) → (stands base done).program ≡ program_after p done
  stands_program base done = program_logged live image p (start_of base) refl done

  -- the entries that were read replay, and the store has what stands after them, under a program of these types
  pub record HasAudited (last gate : ℕ) (types : ProgramTree) (now : Store) : Type 0 where
    pub base : LogBase
    pub entries : List ReadEntry
    pub sessions : List ℕ
    pub follows : IsFollowedBy Two p file base entries sessions last gate
    pub in_force : (program_after p entries).types ≡ types
    pub serial : IsSerialFrom (start_of base) (made entries)
    pub has : IsStoreOf now (stands base entries)

  pub audit_begun : (base : LogBase) (last gate : ℕ) (types : ProgramTree) (now : Store) → p.types ≡ types → IsFollowedBy Two p file base [] [] last gate → IsStoreOf now (start_of base) → HasAudited last gate types now
  audit_begun base last gate types now first begins has = record { base = base; entries = []; sessions = []; follows = begins; in_force = first; serial = tt; has = has }

  module _ (last gate : ℕ) (types : ProgramTree) (now : Store) (h : HasAudited last gate types now) where
    -- what stands before the next block
    abbrev pub before : Standing
    before = stands h.base h.entries

    pub before_types : before.program.types ≡ types
    before_types = ap (λ (q : Program). q.types) (stands_program h.base h.entries) ∙ h.in_force

    step_here : (r : Result (Option (ℕ × BodyEntry × ℕ)) ℕ) → next_in Two types last gate file ≡ r → next_in Two (program_after p h.entries).types last gate file ≡ r
    step_here r step = ap (λ (t : ProgramTree). next_in Two t last gate file) h.in_force ∙ step

    -- a damage behind them is one of the log
    pub audit_broken : (place : ℕ) → next_in Two types last gate file ≡ Err place → log_in_file Two p file ≡ Err place
    audit_broken place step = follows_breaks Two p file h.base h.entries h.sessions last gate h.follows place (step_here (Err place) step)

    pub audit_done : next_in Two types last gate file ≡ Ok None → (log : LogRead) → log_in_file Two p file ≡ Ok log → IsFirstFailure (log_of Two live p image log).base (log_of Two live p image log).entries None
    audit_done end log is =
        let same = all_read p file h.base h.entries h.sessions last gate h.follows (step_here (Ok None) end) log is in
        subst (λ (l : List ReadEntry). IsSerialFrom (start_of log.base) (made l)) same.1 (subst (λ (b : LogBase). IsSerialFrom (start_of b) (made h.entries)) same.0 h.serial)

    module _ (session : ℕ) (entry : BodyEntry) (behind : ℕ) (step : next_in Two types last gate file ≡ Ok (Some (session, entry, behind))) where
      abbrev said : List ReadEntry
      said = entries_said entry

      -- its entries, under the program in force
      abbrev pub said_made : List LogEntry
      said_made = entries_logged Two live before.program image said

      -- the sessions of the entries, with these
      abbrev told : List ℕ
      told = h.sessions ++ map (λ e. session) said

      on : IsFollowedBy Two p file h.base (h.entries ++ said) told session behind
      on = follows_on Two p file h.base h.entries h.sessions last gate h.follows session entry behind (step_here (Ok (Some (session, entry, behind))) step)

      seam : made (h.entries ++ said) ≡ made h.entries ++ said_made
      seam = more_made h.entries before.program said (sym (stands_program h.base h.entries))

      pub rest_said : (log : LogRead) → log_in_file Two p file ≡ Ok log → (rest : List ReadEntry) × (log.entries ≡ (h.entries ++ said) ++ rest)
      rest_said log is = (rest_of p file h.base (h.entries ++ said) told session behind on log is).1

      pub audit_more : (new : Store) → AllReplayTo before said_made new None → HasAudited session behind (types_behind types entry) new
      audit_more new to = record {
        base = h.base;
        entries = h.entries ++ said;
        sessions = told;
        follows = on;
        in_force = ap (λ (q : Program). q.types) (after_more p h.entries entry) ∙ behind_is (program_after p h.entries) types entry h.in_force;
        serial = subst (λ (l : List LogEntry). IsSerialFrom (start_of h.base) l) (sym seam) (serial_both (start_of h.base) (made h.entries) said_made h.serial to.0);
        has = subst (λ (s : Standing). IsStoreOf new s) (sym (ap (λ (es : List LogEntry). after_entries (start_of h.base) es) seam ∙ in_parts (start_of h.base) (made h.entries) said_made)) to.1;
      }

      audit_bad : (bad : Bad) → FailsFirst before said_made bad → (log : LogRead) → log_in_file Two p file ≡ Ok log → FailsFirst (start_of log.base) (made log.entries) bad
      audit_bad bad f log is =
          let start = start_of h.base in
          let left = rest_of p file h.base (h.entries ++ said) told session behind on log is in
          let rest = left.1 in
          let done : List LogEntry = made h.entries in
          let later : List LogEntry = entries_logged Two live (program_after p (h.entries ++ said)) image rest.0 in
          let all : made log.entries ≡ done ++ (f.front ++ (Recorded f.here ∷ (f.back ++ later))) =
          ap made rest.1 ∙ logged_both live image p (h.entries ++ said) rest.0 ∙ ap (λ (l : List LogEntry). l ++ later) (seam ∙ ap (λ (l : List LogEntry). done ++ l) f.are)
          ∙ append_assoc done (f.front ++ (Recorded f.here ∷ f.back)) later ∙ ap (λ (l : List LogEntry). done ++ l) (append_assoc f.front (Recorded f.here ∷ f.back) later) in
          subst (λ (b : LogBase). FailsFirst (start_of b) (made log.entries) bad) left.0 (record {
            front = done ++ f.front;
            here = f.here;
            back = f.back ++ later;
            are = all ∙ sym (append_assoc done f.front (Recorded f.here ∷ (f.back ++ later)));
            serial = serial_both start done f.front h.serial f.serial;
            fails = subst (λ (s : Standing). FailsToReplay s.program.types s.states f.here bad) (sym (in_parts start done f.front)) f.fails;
          })

      pub audit_found : (new : Store) (found : Option Bad) → is_some found ≡ true → AllReplayTo before said_made new found → (log : LogRead) → log_in_file Two p file ≡ Ok log
          → IsFirstFailure (log_of Two live p image log).base (log_of Two live p image log).entries found
      audit_found new None some to log is = absurd cc
      audit_found new (Some bad) some to log is = audit_bad bad to log is

      pub audit_next : (new : Store) (found : Option Bad) → is_some found ≡ false → AllReplayTo before said_made new found → HasAudited session behind (types_behind types entry) new
      audit_next new None none to = audit_more new to
      audit_next new (Some bad) none to = absurd cc
