-- What a log becomes by a sealed block, and which grains have their type's initial fields.
use Rattle.std.proofs.Common.{◌≡◌, ℕ, ◌≤◌, Bool, true, false, ◌||◌, cond, if◌then◌else◌, List, [], ◌∷◌, ◌++◌, length, map, fold, refl, sym, ap, subst, ◌∙◌, append_assoc, append-nil}
use Rattle.std.specs.List.{flat_map, AllByRecursion}
use Rattle.std.proofs.lemmas.Bool.{false≢true}
use Rattle.std.proofs.lemmas.List.{map-append}
use Rattle.base_types.specs.declared.calls.GrainId.{GrainId}
use Rattle.base_types.specs.declared.calls.Value.{Value}
use Rattle.host_trait.specs.declared.channels.FileId.TheVariants.{Manager}
use Rattle.host_trait.specs.World.{Image}
use Rattle.field_codec.specs.declared.formats.Format.{Format}
use Rattle.gate_block.specs.Log.{HasBlocks}
use Rattle.script_check.specs.Carrying.{carried_state}
use Rattle.script_holding.specs.Holding.{same_grain}
use Rattle.promise_spec.specs.Programs.{Program, shape_in}
use Rattle.promise_spec.specs.Records.{Commit, States, written, put_state}
use Rattle.promise_spec.specs.Entries.{LogEntry, Recorded, Upgraded, records_among, Standing, initial_states, is_among, new_silo, after_entry, after_entries, Log, standing_of, grown, upgraded}
use Rattle.promise_spec.specs.Versions.{IsKept}
use Rattle.promise_spec.specs.Blocks.{Block, Records, Upgrade, session_in, entries_in, body_of, SessionIs, BlockFits, NeverFall, MayFollow, AreKept, states_saved, Beginning, Fresh, From, base_of, session_before, bodies_before}
use Rattle.promise_spec.specs.Logs.{StandsUpTo}
use Rattle.promise_spec.proofs.Lists.{both_parts}

-- ---- a sealed block

pub entries_more : (blocks : List Block) (b : Block) → flat_map entries_in (blocks ++ b ∷ []) ≡ flat_map entries_in blocks ++ entries_in b
entries_more [] b = append-nil (entries_in b)
entries_more (x ∷ blocks) b = ap (λ (l : List LogEntry). entries_in x ++ l) (entries_more blocks b) ∙ sym (append_assoc (entries_in x) (flat_map entries_in blocks) (entries_in b))

module _ (format : Format) (slot : ℕ) (image : Image) (p : Program) where
  records_kept : (batch : List Commit) → AllByRecursion (IsKept format slot (shape_in p) image) batch → AreKept format slot image p (map Recorded batch)
  records_kept [] all = tt
  records_kept (c ∷ batch) all = (all.0, records_kept batch all.1)

-- entries that are kept under the program in force, behind others that are kept
kept_both : (format : Format) (slot : ℕ) (image : Image) (before : Standing) (entries more : List LogEntry) → AreKept format slot image before.program entries → AreKept format slot image (after_entries before entries).program more → AreKept format slot image before.program (entries ++ more)
kept_both format slot image before [] more kept all = all
kept_both format slot image before (Recorded c ∷ entries) more kept all = (kept.0, kept_both format slot image (after_entry before (Recorded c)) entries more kept.1 all)
kept_both format slot image before (Upgraded q ∷ entries) more kept all = (kept.0, kept_both format slot image (after_entry before (Upgraded q)) entries more kept.1 all)

pub program_begins : (p : Program) (b : Beginning) → (base_of p b).program ≡ p
program_begins p Fresh = refl
program_begins p (From ck) = refl

-- a block more, whose session isn't below those before it
pub rises : (from reached : ℕ) (blocks : List Block) (block : Block) → NeverFall from blocks reached → reached ≤ session_in block → NeverFall from (blocks ++ block ∷ []) (session_in block)
rises from reached [] block up later = (subst (λ (n : ℕ). n ≤ session_in block) (sym up) later, refl)
rises from reached (b ∷ blocks) block up later = (up.0, rises (session_in b) reached blocks block up.1 later)

-- a block stands behind the log, and its entries are kept under the program in force
pub block_more : (format : Format) (slot : ℕ) (image : Image) (log : Log) (bodies : List (List ℕ)) (gate reached : ℕ) → StandsUpTo format slot image log bodies gate reached
    → (block : Block) → reached ≤ session_in block → (next : ℕ) → BlockFits format block → AreKept format slot image (standing_of log).program (entries_in block)
    → HasBlocks (bodies ++ body_of format block ∷ []) next (image (Manager slot))
    → StandsUpTo format slot image (record { base = log.base; entries = log.entries ++ entries_in block }) (bodies ++ body_of format block ∷ []) next (session_in block)
block_more format slot image log bodies gate reached is block later next fits kept there =
    let begins : log.base.program ≡ is.program = ap (λ (s : Standing). s.program) is.base ∙ program_begins is.program is.begins in
    record {
      silo = is.silo;
      program = is.program;
      checked = is.checked;
      text = is.text;
      begins = is.begins;
      kind = is.kind;
      zero = is.zero;
      base = is.base;
      whole = is.whole;
      blocks = is.blocks ++ block ∷ [];
      fit = both_parts (BlockFits format) is.blocks (block ∷ []) is.fit (fits, tt);
      never_fall = rises (session_before is.begins) reached is.blocks block is.never_fall later;
      spelled =
          ap (λ (l : List (List ℕ)). l ++ body_of format block ∷ []) is.spelled
          ∙ append_assoc (bodies_before format is.begins) (map (body_of format) is.blocks) (body_of format block ∷ [])
          ∙ ap (λ (l : List (List ℕ)). bodies_before format is.begins ++ l) (sym (map-append (body_of format) is.blocks (block ∷ [])));
      stand = there;
      entries = ap (λ (l : List LogEntry). l ++ entries_in block) is.entries ∙ sym (entries_more is.blocks block);
      kept = subst (λ (p : Program). AreKept format slot image p (log.entries ++ entries_in block)) begins
          (kept_both format slot image log.base log.entries (entries_in block) (subst (λ (p : Program). AreKept format slot image p log.entries) (sym begins) is.kept) kept);
    }

-- the block of a batch, whose records are kept under the program in force
pub sealed : (format : Format) (slot : ℕ) (image : Image) (log : Log) (bodies : List (List ℕ)) (gate reached : ℕ) → StandsUpTo format slot image log bodies gate reached
    → (session : ℕ) → reached ≤ session → SessionIs format session
    → (batch : List Commit) (next : ℕ) → length batch ≤ 64 → AllByRecursion (IsKept format slot (shape_in (standing_of log).program) image) batch
    → HasBlocks (bodies ++ body_of format (Records session batch) ∷ []) next (image (Manager slot))
    → StandsUpTo format slot image (grown log batch) (bodies ++ body_of format (Records session batch) ∷ []) next session
sealed format slot image log bodies gate reached is session later may batch next few kept there =
    block_more format slot image log bodies gate reached is (Records session batch) later next (few, may) (records_kept format slot image (standing_of log).program batch kept) there

-- the block of an upgrade, whose program may follow the one in force
pub sealed_upgrade : (format : Format) (slot : ℕ) (image : Image) (log : Log) (bodies : List (List ℕ)) (gate reached : ℕ) → StandsUpTo format slot image log bodies gate reached
    → (session : ℕ) → reached ≤ session → SessionIs format session
    → (q : Program) (next : ℕ) → MayFollow (standing_of log).program q
    → HasBlocks (bodies ++ body_of format (Upgrade session q) ∷ []) next (image (Manager slot))
    → StandsUpTo format slot image (upgraded log q) (bodies ++ body_of format (Upgrade session q) ∷ []) next session
sealed_upgrade format slot image log bodies gate reached is session later may q next follows there =
    block_more format slot image log bodies gate reached is (Upgrade session q) later next may (follows, tt) there

-- with a batch it begins as before
pub sealed_begins : (format : Format) (slot : ℕ) (image : Image) (log : Log) (bodies : List (List ℕ)) (gate reached : ℕ) → (is : StandsUpTo format slot image log bodies gate reached)
    → (session : ℕ) → (later : reached ≤ session) → (may : SessionIs format session)
    → (batch : List Commit) (next : ℕ) → (few : length batch ≤ 64) → (kept : AllByRecursion (IsKept format slot (shape_in (standing_of log).program) image) batch)
    → (there : HasBlocks (bodies ++ body_of format (Records session batch) ∷ []) next (image (Manager slot)))
    → (sealed format slot image log bodies gate reached is session later may batch next few kept there).begins ≡ is.begins
unfolding sealed block_more
sealed_begins format slot image log bodies gate reached is session later may batch next few kept there = refl

-- ---- grains without a state in the store

abbrev pub IsPlain : Standing → Type 0
IsPlain s = (grain : GrainId) → s.held grain ≡ false → s.states grain ≡ initial_states s.program grain

-- of two tests, neither
neither : (a b : Bool) → (a || b) ≡ false → (a ≡ false) × (b ≡ false)
neither true b e = absurd (false≢true (sym e))
neither false b e = (refl, e)

-- writes leave each grain that isn't among them
pub others_stay : (ws : List (GrainId × List Value)) (states : States) (grain : GrainId) → is_among ws grain ≡ false → fold put_state states ws grain ≡ states grain
others_stay [] states grain none = refl
others_stay (w ∷ ws) states grain none =
    let parts = neither (same_grain w.0 grain) (is_among ws grain) none in
    others_stay ws (put_state states w) grain parts.1 ∙ ap (λ (b : Bool). if b then w.1 else states grain) parts.0

or_assoc : (t a b : Bool) → (t || (a || b)) ≡ ((t || a) || b)
or_assoc true a b = refl
or_assoc false a b = refl

-- a grain among some writes or others
among_either : (a b : List (GrainId × List Value)) (grain : GrainId) → is_among (a ++ b) grain ≡ (is_among a grain || is_among b grain)
among_either [] b grain = refl
among_either (w ∷ a) b grain =
    ap (λ (t : Bool). same_grain w.0 grain || t) (among_either a b grain) ∙ or_assoc (same_grain w.0 grain) (is_among a grain) (is_among b grain)

first_last : (a b h : Bool) → ((a || b) || h) ≡ (b || (a || h))
first_last true true h = refl
first_last true false h = refl
first_last false b h = refl

-- the grains that are held are those that some record writes, and those that were held before
pub held_are : (before : Standing) (entries : List LogEntry) (grain : GrainId)
    → (after_entries before entries).held grain ≡ (is_among (flat_map written (records_among entries)) grain || before.held grain)
held_are before [] grain = refl
held_are before (Recorded c ∷ entries) grain =
    let later : List (GrainId × List Value) = flat_map written (records_among entries) in
    held_are (after_entry before (Recorded c)) entries grain
    ∙ sym (first_last (is_among (written c) grain) (is_among later grain) (before.held grain))
    ∙ ap (λ (b : Bool). b || before.held grain) (sym (among_either (written c) later grain))
held_are before (Upgraded p ∷ entries) grain = held_are (after_entry before (Upgraded p)) entries grain

plain_entry : (before : Standing) (entry : LogEntry) → IsPlain before → IsPlain (after_entry before entry)
plain_entry before (Recorded c) plain grain none =
    let parts = neither (is_among (written c) grain) (before.held grain) none in
    others_stay (written c) before.states grain parts.0 ∙ plain grain parts.1
plain_entry before (Upgraded p) plain grain none =
    ap (λ (b : Bool). cond b (carried_state before.program.types p.types grain.kind (before.states grain)) (initial_states p grain)) none

pub plain_entries : (before : Standing) (entries : List LogEntry) → IsPlain before → IsPlain (after_entries before entries)
plain_entries before [] plain = plain
plain_entries before (e ∷ entries) plain = plain_entries (after_entry before e) entries (plain_entry before e plain)

-- from any beginning
pub plain_base : (p : Program) (b : Beginning) → IsPlain (base_of p b)
plain_base p Fresh grain none = refl
plain_base p (From ck) grain none = others_stay (states_saved ck) (initial_states p) grain none

pub unheld : (p : Program) (entries : List LogEntry) (grain : GrainId) → (after_entries (new_silo p) entries).held grain ≡ false → (after_entries (new_silo p) entries).states grain ≡ initial_states (after_entries (new_silo p) entries).program grain
unheld p entries grain none = plain_entries (new_silo p) entries (λ g no. refl) grain none
