-- A slot's files of format 1 that are put into format 2 in another slot have the same log there.
use Rattle.std.proofs.Common.{◌≡◌, inl, inr, ℕ, ◌+◌, ◌^◌, ◌<◌, ◌≤◌, Bool, true, false, if◌then◌else◌, Option, Some, None, List, [], ◌∷◌, ◌++◌, length, map, take, drop, slice_index, Ok, refl, sym, ap, subst, ◌∙◌, arith, length-append}
use Rattle.std.specs.Prelude.{unwrap_or}
use Rattle.std.specs.Int.{w32, to_le_bytes, from_le_bytes}
use Rattle.std.specs.List.{AllByRecursion}
use Rattle.std.proofs.lemmas.List.{take-take, drop-take}
use Rattle.std.proofs.lemmas.Nat.{from_le_bytes-to_le_bytes_4}
use Rattle.base_types.specs.declared.calls.GrainId.{GrainId}
use Rattle.base_types.specs.declared.calls.UnitNo.{UnitNo}
use Rattle.base_types.specs.declared.calls.Value.{Value}
use Rattle.base_types.specs.declared.shapes.Shape.{Shape}
use Rattle.base_types.specs.declared.stores.Version.{Version}
use Rattle.host_trait.specs.declared.channels.FileId.TheVariants.{Manager, Program as ProgramFile, Grain}
use Rattle.host_trait.specs.Files.{same_grain}
use Rattle.host_trait.specs.World.{Image}
use Rattle.host_trait.proofs.Names.{same_grain-refl}
use Rattle.field_codec.specs.declared.formats.Format.TheVariants.{One, Two}
use Rattle.field_codec.specs.declared.units.Numbers.TheVariants.{Logged}
use Rattle.field_codec.proofs.FormatGrowth.{version_grows}
use Rattle.gate_block.specs.Log.{first_gate, bodies_of, open_blocks, AreSmall, LogsUpTo}
use Rattle.gate_block.proofs.Logs.{logged, written_logs}
use Rattle.grain_log.specs.Places.{IsVersionAt}
use Rattle.commit_log.specs.declared.records.CommitRecord.{CommitRecord}
use Rattle.commit_log.specs.declared.records.Named.{Named}
use Rattle.commit_log.specs.declared.records.Written.{Written}
use Rattle.commit_log.specs.Bodies.{IsRecordIn}
use Rattle.commit_log.proofs.Lengths.{record_grows}
use Rattle.core_model.specs.CoreState.{Member}
use Rattle.silo_spec.specs.Silos.{IsSilo, IsFormat, HasProgram}
use Rattle.silo_spec.specs.Slots.{generation}
use Rattle.log_reading.specs.Sums.{greater_end, end_after}
use Rattle.promise_spec.specs.Programs.{Program, shape_in}
use Rattle.promise_spec.specs.Entries.{LogEntry, Recorded, Upgraded, Log}
use Rattle.promise_spec.specs.Versions.{WriteStands, WritesStand}
use Rattle.promise_spec.specs.Blocks.{Block, Records, Upgrade, body_of, BlockFits, AreKept, Saved, saved_by, IsSaved, Beginning, Fresh, From, bodies_before, BeginsWhole}
use Rattle.promise_spec.specs.Logs.{IsLogIn}
use Rattle.promise_spec.specs.Openings.{LogRead, program_in_file, log_in_file, named_by, named_of_base, named_in, named_by_grain}
use Rattle.promise_spec.proofs.Lists.{all_of}
use Rattle.promise_spec.proofs.Openings.{program_is}
use Rattle.promise_spec.proofs.ReadLogs.{IsReadIn, read_base, read_in, read_is}
use Rattle.promise_spec.proofs.ReadVersions.{all_of_order, entry_seen}
use Rattle.promise_laws.specs.MigratedFiles.{migrated_bodies, migrated_in, migrated_file}
use Rattle.promise_laws.proofs.MigratedBodies.{BeginsFirst, bodies_move, bodies_small}

-- ---- the ends of what is named

-- where a named version ends
abbrev end_named : Named → ℕ
end_named n = n.written.place.offset + n.written.place.len

end_least : (b : Bool) (end : Option ℕ) (e : ℕ) → unwrap_or end 0 ≤ unwrap_or (if b then greater_end end e else end) 0
end_least false end e = omega arith
end_least true None e = omega arith
end_least true (Some last) e = omega arith

-- an end grows by what is named
end_grows : (named : List Named) (end : Option ℕ) (g : GrainId) → unwrap_or end 0 ≤ unwrap_or (end_after end named g) 0
end_grows [] end g = omega arith
end_grows (n ∷ named) end g =
    let one = end_least (same_grain n.written.grain g) end (end_named n) in
    let more = end_grows named (if same_grain n.written.grain g then greater_end end (end_named n) else end) g in
    omega (arith, one, more)

end_there : (b : Bool) (end : Option ℕ) (e : ℕ) → b ≡ true → e ≤ unwrap_or (if b then greater_end end e else end) 0
end_there false end e is = absurd cc
end_there true None e is = omega arith
end_there true (Some last) e is = omega arith

-- each version that is named in a grain's file ends there or before
ends_before : (named : List Named) (end : Option ℕ) (n : Named) → Member n named → end_named n ≤ unwrap_or (end_after end named n.written.grain) 0
ends_before [] end n none = absurd none
ends_before (m ∷ named) end n (inl here) =
    let same : same_grain m.written.grain n.written.grain ≡ true = subst (λ (x : Named). same_grain x.written.grain n.written.grain ≡ true) here (same_grain-refl n.written.grain) in
    let one : end_named m ≤ unwrap_or (if same_grain m.written.grain n.written.grain then greater_end end (end_named m) else end) 0 = end_there (same_grain m.written.grain n.written.grain) end (end_named m) same in
    let more = end_grows named (if same_grain m.written.grain n.written.grain then greater_end end (end_named m) else end) n.written.grain in
    let is : end_named n ≡ end_named m = ap end_named here in
    omega (arith, one, more, is)
ends_before (m ∷ named) end n (inr there) = ends_before named (if same_grain m.written.grain n.written.grain then greater_end end (end_named m) else end) n there

-- ---- a version that was copied

-- bytes up to an end are the same where more are
same_part : (from n end : ℕ) (f g : List ℕ) → from + n ≤ end → take end f ≡ take end g → take n (drop from f) ≡ take n (drop from g)
same_part from n end f g within same =
    let cut : take (from + n) f ≡ take (from + n) g = sym (take-take (from + n) end f within) ∙ ap (λ (l : List ℕ). take (from + n) l) same ∙ take-take (from + n) end g within in
    sym (drop-take from n f) ∙ ap (λ (l : List ℕ). drop from l) cut ∙ drop-take from n g

module _ (live slot : ℕ) (old new : Image) (ends : GrainId → ℕ) (copied : (grain : GrainId) → take (ends grain) (new (Grain slot grain)) ≡ take (ends grain) (old (Grain live grain))) where
  -- a write ends in what was copied
  abbrev IsWithin : Written → Type 0
  IsWithin w = w.place.offset + w.place.len ≤ ends w.grain

  version_moves : (fields : ℕ) (w : Written) (v : Version) → IsWithin w → IsVersionAt One fields w.place (old (Grain live w.grain)) v → IsVersionAt Two fields w.place (new (Grain slot w.grain)) v
  version_moves fields w v within is = record {
    version_is = record { fits = version_grows v is.version_is.fits; count = is.version_is.count; len = is.version_is.len };
    here = same_part w.place.offset w.place.len (ends w.grain) (new (Grain slot w.grain)) (old (Grain live w.grain)) within (copied w.grain) ∙ is.here;
  }

  write_moves : (shape : Shape) (unit : UnitNo) (w : Written) (state : List Value) → IsWithin w → WriteStands One live shape old unit w state → WriteStands Two slot shape new unit w state
  write_moves shape unit w state within s =
      record { near = s.near; fields = s.fields; version = version_moves (length state) w (record { unit = unit; state = state }) within s.version }

  writes_move : (shape : Shape) (unit : UnitNo) (ws : List Written) (states : List (List Value)) → AllByRecursion IsWithin ws → WritesStand One live shape old unit ws states → WritesStand Two slot shape new unit ws states
  writes_move shape unit [] [] within all = tt
  writes_move shape unit [] (s ∷ states) within all = absurd all
  writes_move shape unit (w ∷ ws) [] within all = absurd all
  writes_move shape unit (w ∷ ws) (s ∷ states) within all = (write_moves shape unit w s within.0 all.0, writes_move shape unit ws states within.1 all.1)

  record_moves : (shape : Shape) (r : CommitRecord) → IsRecordIn One Logged shape r → IsRecordIn Two Logged shape r
  record_moves shape r is = record { fits = record_grows r is.fits; units = is.units; call = is.call; writes = is.writes }

  -- the writes that are named by entries
  named_writes : (number : ℕ) (unit : Option UnitNo) (ws : List Written) (more : List Named)
      → AllByRecursion (λ (n : Named). end_named n ≤ ends n.written.grain) (map (λ (w : Written). record { unit = unit; program = number; written = w }) ws ++ more)
      → AllByRecursion IsWithin ws × AllByRecursion (λ (n : Named). end_named n ≤ ends n.written.grain) more
  named_writes number unit [] more all = (tt, all)
  named_writes number unit (w ∷ ws) more all = (let rest = named_writes number unit ws more all.1 in ((all.0, rest.0), rest.1))

  entries_move : (number : ℕ) (p : Program) (entries : List LogEntry) → AllByRecursion (λ (n : Named). end_named n ≤ ends n.written.grain) (named_by number (map entry_seen entries))
      → AreKept One live old p entries → AreKept Two slot new p entries
  entries_move number p [] within all = tt
  entries_move number p (Recorded c ∷ entries) within all =
      let parts = named_writes number (Some c.logged.unit) c.logged.writes (named_by number (map entry_seen entries)) within in (
        record { fits = record_moves (shape_in p) c.logged all.0.fits; whole = writes_move (shape_in p) c.logged.unit c.logged.writes c.states parts.0 all.0.whole },
        entries_move number p entries parts.1 all.1,
      )
  entries_move number p (Upgraded q ∷ entries) within all = (all.0, entries_move (number + 1) q entries within all.1)

  saved_move : (p : Program) (ss : List Saved) → AllByRecursion IsWithin (map (λ (s : Saved). s.write) ss) → AllByRecursion (IsSaved One live p old) ss → AllByRecursion (IsSaved Two slot p new) ss
  saved_move p [] within all = tt
  saved_move p (s ∷ ss) within all =
      (record { fits = all.0.fits; unit = all.0.unit; stands = write_moves (shape_in p) s.unit s.write s.state within.0 all.0.stands }, saved_move p ss within.1 all.1)

  -- a checkpoint counts as one of session 1
  pub begins_first : (p : Program) (b : Beginning) → BeginsWhole One live p old b → BeginsFirst b
  begins_first p Fresh whole = tt
  begins_first p (From ck) whole = whole.session

  base_moves : (p : Program) (b : Beginning) → AllByRecursion IsWithin (read_base b).writes → BeginsWhole One live p old b → BeginsWhole Two slot p new b
  base_moves p Fresh within whole = tt
  base_moves p (From ck) within whole = record {
    count = whole.count;
    next = whole.next;
    session = (let first : ck.session ≡ 1 = whole.session in omega (arith, first));
    sizes = whole.sizes;
    order = whole.order;
    each = saved_move p (saved_by ck) within whole.each;
  }

-- a block of session 1
block_grows : (b : Block) → BlockFits One b → BlockFits Two b
block_grows (Records session batch) fits = (fits.0, (let first : session ≡ 1 = fits.1 in omega (arith, first)))
block_grows (Upgrade session q) fits = (let first : session ≡ 1 = fits in omega (arith, first))

blocks_grow : (blocks : List Block) → AllByRecursion (BlockFits One) blocks → AllByRecursion (BlockFits Two) blocks
blocks_grow [] fit = tt
blocks_grow (b ∷ blocks) fit = (block_grows b fit.0, blocks_grow blocks fit.1)

-- ---- the manager file

module _ (g : ℕ) (old rest : List ℕ) where
  abbrev file : List ℕ
  file = migrated_file g old rest

  behind : drop first_gate file ≡ open_blocks (migrated_in old) ++ 0 ∷ rest
  behind = refl

  is_silo_file : IsSilo (IsFormat Two) file
  is_silo_file =
      let all : length file ≡ 15 + length (open_blocks (migrated_in old) ++ 0 ∷ rest) = length-append (take first_gate file) (drop first_gate file) in
      let gate : length (0 ∷ rest) ≡ 1 + length rest = length-append (0 ∷ []) rest in
      record { long = omega (arith, all, gate, length-append (open_blocks (migrated_in old)) (0 ∷ rest)); gate = refl; named = refl }

  field_is : take 4 (drop 9 file) ≡ to_le_bytes w32 g
  field_is = refl

  pub generation_is : g < 2 ^ 32 → generation (migrated_file g old rest) ≡ g
  generation_is low = ap (λ (l : List ℕ). from_le_bytes w32 l) field_is ∙ from_le_bytes-to_le_bytes_4 g low

  kind_is : slice_index file 13 ≡ slice_index old 13
  kind_is = refl

  zero_is : slice_index file 14 ≡ 0
  zero_is = refl

-- ---- the log

module _ (live : ℕ) (old : Image) (log : Log) (is : IsLogIn One live old log) where
  abbrev b : Beginning
  b = is.stands.begins

  abbrev blocks : List Block
  blocks = is.stands.blocks

  -- the bodies of the manager file, migrated
  bodies_are : migrated_in (old (Manager live)) ≡ bodies_before Two b ++ map (body_of Two) blocks
  bodies_are =
      let read : bodies_of (old (Manager live)) ≡ is.bodies = (logged is.bodies is.gate (old (Manager live)) (record { blocks = is.stands.stand; closed = is.closed })).0 in
      (λ i. migrated_bodies (is.stands.kind i) ((read ∙ is.stands.spelled) i))
      ∙ bodies_move b blocks (begins_first live live old old (λ grain. 0) (λ grain. refl) is.stands.program b is.stands.whole) is.stands.fit

  pub small_bodies : AreSmall (migrated_in (old (Manager live)))
  small_bodies = subst AreSmall (sym bodies_are)
      (bodies_small live old is.stands.program b blocks is.stands.whole is.stands.fit (subst (AreKept One live old is.stands.program) is.stands.entries is.stands.kept))

  module _ (slot : ℕ) (new : Image) (p : Program) (read : LogRead) (g : ℕ) (rest : List ℕ) (program_is_p : program_in_file (old (ProgramFile live)) ≡ Ok p) (read_is_l : log_in_file One p (old (Manager live)) ≡ Ok read)
      (text : HasProgram p.text (new (ProgramFile slot)))
      (copied : (grain : GrainId) → take (unwrap_or (end_after None (named_by_grain (named_in read)) grain) 0) (new (Grain slot grain)) ≡ take (unwrap_or (end_after None (named_by_grain (named_in read)) grain) 0) (old (Grain live grain)))
      (written : new (Manager slot) ≡ migrated_file g (old (Manager live)) rest) where
    abbrev ends : GrainId → ℕ
    ends grain = unwrap_or (end_after None (named_by_grain (named_in read)) grain) 0

    same_program : is.stands.program ≡ p
    same_program = (let e : Ok is.stands.program ≡ Ok p = sym (program_is (old (ProgramFile live)) is.stands.program is.stands.checked is.stands.text) ∙ program_is_p in cc e)

    abbrev read_so : IsReadIn One live is.stands.program old log
    read_so = read_in One live old log is

    same_read : read_so.l ≡ read
    same_read = (let e : Ok read_so.l ≡ Ok read = sym read_so.read ∙ ap (λ (q : Program). log_in_file One q (old (Manager live))) same_program ∙ read_is_l in cc e)

    -- it names its beginning's versions, and then those of its entries, each of which ends in what was copied
    read_again : read ≡ record { base = read_base b; entries = map entry_seen log.entries }
    read_again = sym same_read ∙ read_is One live old log is

    all_within : AllByRecursion (λ (n : Named). end_named n ≤ ends n.written.grain) (named_of_base (read_base b) ++ named_by 0 (map entry_seen log.entries))
    all_within = subst (λ (l : LogRead). AllByRecursion (λ (n : Named). end_named n ≤ ends n.written.grain) (named_in l)) read_again
        (all_of_order (λ (n : Named). end_named n ≤ ends n.written.grain) (named_in read)
        (all_of (λ (n : Named). end_named n ≤ ends n.written.grain) (named_by_grain (named_in read)) (λ n there. ends_before (named_by_grain (named_in read)) None n there)))

    within_parts : AllByRecursion (λ (w : Written). w.place.offset + w.place.len ≤ ends w.grain) (read_base b).writes × AllByRecursion (λ (n : Named). end_named n ≤ ends n.written.grain) (named_by 0 (map entry_seen log.entries))
    within_parts = named_writes live slot old new ends copied 0 None (read_base b).writes (named_by 0 (map entry_seen log.entries)) all_within

    abbrev new_bodies : List (List ℕ)
    new_bodies = migrated_in (old (Manager live))

    place : ℕ
    place = first_gate + length (open_blocks new_bodies)

    logs : LogsUpTo new_bodies place (new (Manager slot))
    unfolding place
    logs = subst (LogsUpTo new_bodies (first_gate + length (open_blocks new_bodies))) (sym written)
        (written_logs new_bodies rest (migrated_file g (old (Manager live)) rest) small_bodies (behind g (old (Manager live)) rest))

    pub migrated_log : IsLogIn Two slot new log
    migrated_log = record {
      bodies = new_bodies;
      gate = place;
      session = is.session;
      stands = record {
        silo = subst (IsSilo (IsFormat Two)) (sym written) (is_silo_file g (old (Manager live)) rest);
        program = is.stands.program;
        checked = is.stands.checked;
        text = subst (λ (q : Program). HasProgram q.text (new (ProgramFile slot))) (sym same_program) text;
        begins = b;
        kind = ap (λ (l : List ℕ). slice_index l 13) written ∙ kind_is g (old (Manager live)) rest ∙ is.stands.kind;
        zero = ap (λ (l : List ℕ). slice_index l 14) written ∙ zero_is g (old (Manager live)) rest;
        base = is.stands.base;
        whole = base_moves live slot old new ends copied is.stands.program b within_parts.0 is.stands.whole;
        blocks = blocks;
        fit = blocks_grow blocks is.stands.fit;
        never_fall = is.stands.never_fall;
        spelled = bodies_are;
        stand = logs.blocks;
        entries = is.stands.entries;
        kept = entries_move live slot old new ends copied 0 is.stands.program log.entries within_parts.1 is.stands.kept;
      };
      closed = logs.closed;
    }
