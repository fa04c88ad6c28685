-- Runs that don't keep the promise.
use Rattle.silo_spec.specs.OpenedDisks.{opening_syncs, opened_disk}
use Rattle.promise_spec.specs.Prefixes.{IsPrefixOf}
use Rattle.promise_spec.proofs.Prefixes.{grown_front}
use Rattle.promise_spec.proofs.Standings.{grown_none, grown_records}
use Rattle.std.proofs.Common.{◌≡◌, ◌≢◌, inl, inr, ℕ, suc, ◌+◌, ◌<◌, ◌≤◌, ◌^◌, Bool, true, false, true≢false, List, [], ◌∷◌, ◌++◌, length, map, take, drop, Option, Some, None, Ok, eq-eqb, Result, refl, sym, ap, subst, ◌∙◌, arith, length-drop, slice_index}
use Rattle.std.specs.Prelude.{◌%◌, ◌&&◌, ◌||◌, get_or, if◌then◌else◌, not, nat_lt, is_none, is_some, slice_get}
use Rattle.std.proofs.lemmas.Bool.{and_parts, eqb-true}
use Rattle.std.specs.Int.{w32, to_le_bytes, from_le_bytes}
use Rattle.std.specs.List.{flat_map, AllByRecursion}
use Rattle.std.proofs.Math.Seq.{drop-cons, take-append_seam}
use Rattle.std.proofs.lemmas.List.{append_cancel_left, take-append-drop, take_at, length-map}
use Rattle.std.proofs.lemmas.Nat.{from_le_bytes-to_le_bytes_4}
use Rattle.std.proofs.lemmas.Option.{get_or_from_slice_get, slice_get_within}
use Rattle.base_types.specs.declared.calls.Call.{Call}
use Rattle.base_types.specs.declared.calls.GrainId.{GrainId}
use Rattle.base_types.specs.declared.calls.Origin.TheVariants.{Line, Child}
use Rattle.base_types.specs.declared.calls.Outcome.{Outcome}
use Rattle.base_types.specs.declared.calls.UnitNo.{UnitNo}
use Rattle.base_types.specs.declared.entries.BadRequest.{BadRequest}
use Rattle.base_types.specs.declared.entries.Entry.{Entry}
use Rattle.base_types.specs.declared.entries.Settled.{Settled}
use Rattle.base_types.specs.declared.entries.Settled.TheVariants as settled
use Rattle.base_types.specs.declared.shapes.Shape.{Shape}
use Rattle.commit_log.specs.declared.records.CommitRecord.{CommitRecord}
use Rattle.commit_log.specs.Spelling.{spelling_of_record, spelling_of_body}
use Rattle.core_model.specs.declared.effects.Effect.{Effect}
use Rattle.core_model.specs.declared.events.CoreEvent.{CoreEvent}
use Rattle.core_model.specs.declared.events.CoreEvent.TheVariants as event
use Rattle.core_laws.proofs.FurtherLaws.{loads-append}
use Rattle.core_model.specs.Causes.{HasCause, IsCaused, IsRefusedLock}
use Rattle.core_model.specs.Events.{applies, can, is_allowed, run, step}
use Rattle.core_model.specs.LegalRuns.{begins, ends}
use Rattle.core_model.specs.Lines.{DifferInLine}
use Rattle.core_model.specs.SerialOrder.{committed, chosen, AllLoadsTrue, IsUnwritten, IsLastVersion}
use Rattle.core_model.specs.Tests.{is_wanted, state_written}
use Rattle.core_model.specs.WantedGrains.{next_wanted}
use Rattle.core_model.specs.declared.phases.Verdict.TheVariants as verdict
use Rattle.core_model.specs.CoreState.{Member, Mode, UnitNo, Value, CoreState}
use Rattle.gate_block.proofs.Logs as blocks
use Rattle.gate_block.specs.Log.{LogsUpTo, gate_of}
use Rattle.host_trait.specs.declared.channels.FileId.{FileId}
use Rattle.host_trait.specs.declared.channels.FileId.TheVariants as file
use Rattle.host_trait.specs.World.{Image, IsImage, Moment, moment_of, last_of}
use Rattle.request_wire.specs.Names.{names_in}
use Rattle.request_wire.specs.Request.{call_of}
use Rattle.request_wire.specs.Reply.{reply_line}
use Rattle.script_tree.specs.Programs.{ProgramTree}
use Rattle.script_meaning.specs.Play.{IsTransaction}
use Rattle.promise_spec.specs.Programs.{Program, shape_in}
use Rattle.promise_spec.specs.Entries.{Log, Standing, standing_of, grown, records_of}
use Rattle.promise_spec.specs.Records.{Commit, States, after_writes, AreRecordsOf}
use Rattle.promise_spec.specs.SerialExecution.{IsSerial, played}
use Rattle.field_codec.specs.declared.formats.Format.TheVariants.{Two}
use Rattle.commit_log.specs.declared.contents.Body.TheVariants as body
use Rattle.commit_log.specs.Sessions.{spelling_with_session}
use Rattle.promise_spec.specs.Logs.{IsMagic, IsLog, IsPrefix, StandsUpTo}
use Rattle.promise_spec.specs.Moments.{IsImageOf}
use Rattle.promise_spec.specs.Lines.{ReadsLineAs, IsLineCall}
use Rattle.promise_spec.specs.Outputs.{reply_lines}
use Rattle.promise_spec.specs.Windows.{window_lines, first_bad, before_bad, whole_windows}
use Rattle.promise_spec.specs.UnitAnswers.{got_from}
use Rattle.promise_spec.specs.TurnRule.{and_wish, at_seam, grain_due, in_flight, is_nobody, line_can_begin, LoadsWanted, lock_asked, Mover, movers, next_wish, OfWant, passed, picked, picks_used, turn_of, units_of}
use Rattle.promise_spec.proofs.PickedMovers.{line-begins, movers-take, picked-takes, TakesPicks}
use Rattle.promise_spec.specs.Cores.{AppliesAt, how_many, state_before, core_from, applied_from}
use Rattle.promise_spec.specs.Causes.{RunHasDoubt, NoneRose, is_vote_of, is_unsealed, syncs_of, most_syncs_of}
use Rattle.promise_examples.specs.AliveUnits.{IsAlive}
use Rattle.promise_spec.specs.Family.{states_after}
use Rattle.promise_spec.specs.Endings as ending
use Rattle.promise_spec.specs.Courses.{Observed, Course, order, moments, seen_at_entry, lines, core_run, core_end}
use Rattle.promise_spec.specs.Replies.{IsEntryOf, IsTrueOf, HasNoRecord}
use Rattle.promise_spec.specs.Crashes.{Acknowledges, IsAside}
use Rattle.promise_spec.specs.Batches.{kept_by}
use Rattle.promise_spec.specs.Explanation.{AreAdded, IsUnloaded}
use Rattle.promise_spec.specs.Exits.{HasBlock, IsExit}
use Rattle.promise_spec.specs.Promise.{AllowsBefore, AllowedBy, Keeps, KeepsAnywhere}
use Rattle.promise_spec.specs.Loads.{KeepsLoad}
use Rattle.promise_spec.proofs.Lists.{head_of, none_is, none_at, some_is, each_of, in_append, either_in, get_seam, member_at}
use Rattle.promise_spec.proofs.OpenedRuns.{in_settled, no_events}
use Rattle.promise_spec.proofs.CountedSyncs.{unbegun_syncs}
use Rattle.promise_laws.proofs.OpenedRuns.{allowed_line}
use Rattle.promise_examples.proofs.BadLines.{behind_good, one_front}
use Rattle.promise_examples.proofs.WholeBatches.{not_between}
use Rattle.promise_examples.proofs.EmittedReplies.{emitted_before, nothing_unwritten}
use Rattle.promise_spec.proofs.OneLog.{one_log}
use Rattle.silo_spec.specs.Slots.{IsLive}
use Rattle.promise_spec.specs.Blocks.{body_of, Block, Records, Upgrade, BlockFits, Beginning, Fresh, From, begin_byte, bodies_before}

ok_is : (x y : Result Call BadRequest) (a b : Call) → x ≡ Ok a → y ≡ Ok b → x ≡ y → a ≡ b
ok_is x y a b is_a is_b same = cc

-- where nobody is left there is no mover
nobody_left : (ms : List Mover) → is_nobody ms ≡ true → ms ≡ []
nobody_left [] none = refl
nobody_left (m ∷ ms) none = absurd (true≢false (sym none))

-- a line reads in one way
same_request : (types : ProgramTree) (lines : List (List ℕ)) (n : ℕ) (a b : Result Call BadRequest) → ReadsLineAs types lines n a → ReadsLineAs types lines n b → a ≡ b
same_request types lines n a b x y =
    let index : x.index ≡ y.index = (let i : n ≡ x.index + 1 = x.number in let j : n ≡ y.index + 1 = y.number in omega arith) in
    let text : x.text ≡ y.text = some_is x.text y.text (sym x.there ∙ ap (slice_get lines) index ∙ y.there) in
    sym x.reads ∙ ap (call_of (names_in types)) text ∙ y.reads

same_call : (types : ProgramTree) (lines : List (List ℕ)) (n : ℕ) (a b : Call) → IsLineCall types lines n a → IsLineCall types lines n b → a ≡ b
same_call types lines n a b x y = ok_is (Ok a) (Ok b) a b refl refl (same_request types lines n (Ok a) (Ok b) x y)

-- an output that grew by a line feed grew by an entry
written_some : (shape : Shape) (written entries : List Entry) (rest more : List ℕ) → more ≡ reply_lines shape written ++ rest → AllByRecursion (λ (byte : ℕ). byte ≢ 10) rest → Member 10 more → IsPrefix written entries
    → (e : Entry) × Member e written × Member e entries
written_some shape [] entries rest more same unended feed front = absurd (each_of (λ (byte : ℕ). byte ≢ 10) rest 10 unended (subst (λ (l : List ℕ). Member 10 l) same feed) refl)
written_some shape (e ∷ es) entries rest more same unended feed front = (e, inl refl, subst (λ (l : List Entry). Member e l) (sym front.1) (inl refl))

twice : (front between back : List Entry) (d e : Entry) → DifferInLine (front ++ (d ∷ (between ++ (e ∷ back)))) → d.line ≡ e.line → ⊥
twice [] between back d e all same = all.0 e (in_append e between (e ∷ back) (inr (inl refl))) same
twice (x ∷ front) between back d e all same = twice front between back d e all.1 same

-- each record of a serial list replays over the states that those before it left
serial_at : (types : ProgramTree) (states : States) (front : List Commit) (l : Commit) (back : List Commit) → IsSerial types states (front ++ (l ∷ back)) → (played types (states_after states front) l.logged).result ≡ l.logged.result
serial_at types states [] l back serial = serial.0.result
serial_at types states (x ∷ front) l back serial = serial_at types (after_writes states x) front l back serial.1

length-count : (n : ℕ) → length (to_le_bytes w32 n) ≡ 4
length-count n = refl

count_of : (rs : List CommitRecord) → length rs < 2 ^ 32 → from_le_bytes w32 (take 4 (spelling_of_body rs)) ≡ length rs
count_of rs small = ap (from_le_bytes w32) (take_at (to_le_bytes w32 (length rs)) (flat_map spelling_of_record rs) 4 (length-count (length rs))) ∙ from_le_bytes-to_le_bytes_4 (length rs) small

many : (blocks : List Block) (session : ℕ) (records : List CommitRecord) → AllByRecursion (BlockFits Two) blocks → length records ≡ 65 → map (body_of Two) blocks ≡ spelling_with_session Two session (body.Records records) ∷ [] → ⊥
many [] session records sizes long same = none_is (spelling_with_session Two session (body.Records records)) [] (sym same)
many (Records other_session batch ∷ blocks) session records sizes long same =
    let whole = head_of (body_of Two (Records other_session batch)) (spelling_with_session Two session (body.Records records)) (map (body_of Two) blocks) [] same in
    let content : spelling_of_body (map (λ (c : Commit). c.logged) batch) ≡ spelling_of_body records = ap (λ (l : List ℕ). drop 8 l) whole in
    let size : length (map (λ (c : Commit). c.logged) batch) ≡ length batch = length-map batch (λ (c : Commit). c.logged) in
    let few : length batch ≤ 64 = sizes.0.0 in
    let one : from_le_bytes w32 (take 4 (spelling_of_body (map (λ (c : Commit). c.logged) batch))) ≡ length (map (λ (c : Commit). c.logged) batch) = count_of (map (λ (c : Commit). c.logged) batch) (omega (arith, size, few)) in
    let other : from_le_bytes w32 (take 4 (spelling_of_body records)) ≡ length records = count_of records (omega (arith, long)) in
    let same_count : length (map (λ (c : Commit). c.logged) batch) ≡ length records = sym one ∙ ap (λ (l : List ℕ). from_le_bytes w32 (take 4 l)) content ∙ other in
    omega (arith, same_count, size, few, long)
many (Upgrade other_session p ∷ blocks) session records sizes long same =
    let whole = head_of (body_of Two (Upgrade other_session p)) (spelling_with_session Two session (body.Records records)) (map (body_of Two) blocks) [] same in
    let byte : 255 ≡ 65 = ap (λ (l : List ℕ). slice_index l 8) whole ∙ ap (λ (n : ℕ). slice_index (to_le_bytes w32 n ++ flat_map spelling_of_record records) 0) long in
    absurd (omega (arith, byte))

-- where the log begins with a new silo
many_behind : (begins : Beginning) (blocks : List Block) (session : ℕ) (records : List CommitRecord) → begin_byte begins ≡ 0 → AllByRecursion (BlockFits Two) blocks → length records ≡ 65
    → bodies_before Two begins ++ map (body_of Two) blocks ≡ spelling_with_session Two session (body.Records records) ∷ [] → ⊥
many_behind Fresh blocks session records kind sizes long same = many blocks session records sizes long same
many_behind (From ck) blocks session records kind sizes long same = absurd (omega (arith, kind))

pub too_many : (live : ℕ) (image : Image) (session : ℕ) (records : List CommitRecord) (gate : ℕ) (log : Log) → slice_index (image (file.Manager live)) 13 ≡ 0 → length records ≡ 65
    → LogsUpTo (spelling_with_session Two session (body.Records records) ∷ []) gate (image (file.Manager live)) → IsLog live image log → ⊥
too_many live image session records gate log fresh long blocks_are is =
    let stands = is.is.stands in
    many_behind stands.begins stands.blocks session records (sym stands.kind ∙ fresh) stands.fit long
    (sym stands.spelled ∙ (blocks.one_log is.is.bodies (spelling_with_session Two session (body.Records records) ∷ []) is.is.gate gate (image (file.Manager live)) (record { blocks = stands.stand; closed = is.is.closed }) blocks_are).0)

-- without events no record is added
nothing_added : (types : ProgramTree) (standing : Standing) (added : List Commit) → AreAdded (ends (core_from types standing [])) added → (l : Commit) → Member l added → ⊥
nothing_added types standing [] are l there = there
nothing_added types standing (x ∷ added) (inl none) l there = absurd none
nothing_added types standing (x ∷ added) (inr follow) l there = absurd (cc follow.doubt)

-- where nobody wants a grain or can move, there is no mover
no_mover : (wish : Option UnitNo) (ms : List Mover) → is_nobody (and_wish wish ms) ≡ true → ms ≡ []
no_mover None ms e = nobody_left ms e
no_mover (Some u) ms e = absurd cc

-- and no wish
some_wish : (wish : Option UnitNo) (ms : List Mover) (u : UnitNo) → wish ≡ Some u → is_nobody (and_wish wish ms) ≡ true → ⊥
some_wish None ms u is e = cc
some_wish (Some v) ms u is e = absurd cc

-- where it is a unit's turn to want its grain, it is the next of the pass
wish_is : (ms : List Mover) (pick : ℕ) → TakesPicks ms → (due : Option GrainId) (begins_line : Bool) (wish : Option UnitNo) (u : UnitNo) → turn_of due begins_line wish (picked ms pick) ≡ Some (OfWant u) → wish ≡ Some u
wish_is ms pick t (Some g) b wish u e = absurd cc
wish_is ms pick t None true wish u e = absurd cc
wish_is ms pick t None false (Some v) u e = (let same : Some (OfWant v) ≡ Some (OfWant u) = e in let is : v ≡ u = cc same in ap Some is)
wish_is ms pick t None false None u e = absurd (true≢false (sym (picked-takes ms pick (OfWant u) t e)))

-- a grain that is brought on one thread is the one that is due
due_is : (stopped : Bool) (next : Option GrainId) (g : GrainId) (u : UnitNo) (state : List Value) → LoadsWanted (if stopped then None else next) (event.Load g u state) → next ≡ Some g
due_is true next g u state made = absurd made
due_is false None g u state made = absurd made
due_is false (Some h) g u state made = (let same : event.Load g u state ≡ event.Load h made.0 made.1 = made.2 in let is : h ≡ g = cc same in ap Some is)

-- a list is what stands before one of its events, that event, and what stands behind
parted : (events : List CoreEvent) (at : ℕ) (e : CoreEvent) → slice_get events at ≡ Some e → take at events ++ (e ∷ drop (suc at) events) ≡ events
parted events at e there =
    let named : e ≡ get_or events at e = sym (get_or_from_slice_get events at e e there) in
    ap (λ (later : List CoreEvent). take at events ++ later) (ap (λ (x : CoreEvent). x ∷ drop (suc at) events) named ∙ sym (drop-cons events at e (slice_get_within events at e there)))
    ∙ take-append-drop at events

never : (a b : Bool) → (a && (b && false)) ≡ false
never true true = refl
never true false = refl
never false b = refl

-- nothing is brought that nobody wants
pub loaded_unwanted : (w : CoreState) (g : GrainId) (u : UnitNo) (state : List Value) → is_wanted w.units.wants g ≡ false → applies w (event.Load g u state) ≡ false
loaded_unwanted w g u state none = ap (λ (b : Bool). is_allowed w (event.Load g u state) && (not (w.cells.here g) && b)) none ∙ never (is_allowed w (event.Load g u state)) (not (w.cells.here g))

module _ (p : Program) (r : Observed) (c : Course) where
  -- who can move before an event
  abbrev movers_at : ℕ → List Mover
  movers_at at = movers p.types (core_run p c) (state_before (core_run p c) at) (got_from (begins (core_run p c)) (take at c.events))

  -- and the unit that wants its grain next
  abbrev wish_at : ℕ → Option UnitNo
  wish_at at = next_wish (state_before (core_run p c) at) (units_of (core_run p c) (state_before (core_run p c) at)) (lock_asked p.types (state_before (core_run p c) at) (got_from (begins (core_run p c)) (take at c.events)))
      (passed (applied_from (begins (core_run p c)) (take at c.events)))

  pub read_at_entry : (log : Log) → Keeps p r c → IsLog c.live (seen_at_entry r) log → c.opening ≡ log
  read_at_entry log keeps is = one_log Two Two c.live c.live (seen_at_entry r) c.opening log keeps.headline.ordered.read is

  pub opening_is : (image : Image) (log : Log) → Keeps p r c → IsImage (last_of (moment_of r.old) c.early).disk image → IsLog c.live image log → c.opening ≡ log
  opening_is image log keeps left is = one_log Two Two c.live c.live image c.opening log (keeps.headline.ordered.opened image left).log is

  pub shorter : (image : Image) (log : Log) → Keeps p r c → IsImageOf (moments r c) image → IsLog c.live image log → (IsPrefixOf c.opening log → ⊥) → ⊥
  shorter image log keeps left is lost =
      let k = keeps.headline.crashes.keeps image left in
      let longer : IsPrefixOf c.opening (grown c.opening k.more) = subst (λ (l : Log). IsPrefixOf l (grown c.opening k.more)) (grown_none c.opening) (grown_front c.opening [] k.more (k.more, refl)) in
      lost (subst (λ (l : Log). IsPrefixOf c.opening l) (one_log Two Two c.live c.live image (grown c.opening k.more) log k.is is) longer)

  pub part_of_batch : (image : Image) (more : List Commit) (n : ℕ) → Keeps p r c → IsImageOf (moments r c) image → IsLog c.live image (grown c.opening more)
      → length (kept_by (core_end p c) n) < length more → length more < length (kept_by (core_end p c) (n + 1)) → ⊥
  part_of_batch image more n keeps left is above below =
      not_between (core_end p c) c.opening more n (keeps.traced.whole image (grown c.opening more) left is) above below

  pub one_of_two : (image : Image) (l : Commit) → Keeps p r c → IsImageOf (moments r c) image → IsLog c.live image (grown c.opening (l ∷ [])) → 2 ≤ length (kept_by (core_end p c) 1) → ⊥
  one_of_two image l keeps left is two =
      let none : length (kept_by (core_end p c) 0) ≡ 0 = refl in
      let below : length (l ∷ []) < length (kept_by (core_end p c) (0 + 1)) = omega (arith, two) in
      part_of_batch image (l ∷ []) 0 keeps left is (omega (arith, none)) below

  pub more_syncs : Keeps p r c → NoneRose r.faults_before r.faults_after → ending.CountsSyncs r.ending → r.old.syncs + syncs_of (seen_at_entry r) (core_run p c) < r.new.syncs → ⊥
  more_syncs keeps calm is more = let same : r.new.syncs ≡ r.old.syncs + syncs_of (seen_at_entry r) (core_run p c) = keeps.ended.syncs calm is in omega (arith, same, more)

  pub fewer_syncs : Keeps p r c → NoneRose r.faults_before r.faults_after → ending.CountsSyncs r.ending → r.new.syncs < r.old.syncs + syncs_of (seen_at_entry r) (core_run p c) → ⊥
  fewer_syncs keeps calm is fewer = let same : r.new.syncs ≡ r.old.syncs + syncs_of (seen_at_entry r) (core_run p c) = keeps.ended.syncs calm is in omega (arith, same, fewer)

  pub other_long_syncs : (line : ℕ) → Keeps p r c → NoneRose r.faults_before r.faults_after → r.ending ≡ ending.InputTooLong line → c.allowed ≡ 0 → r.new.syncs ≢ r.old.syncs + opening_syncs (seen_at_entry r) → ⊥
  other_long_syncs line keeps calm is none differ = differ (unbegun_syncs p r c keeps calm (subst ending.CountsSyncs (sym is) tt) none)

  pub closed : (image : Image) → Keeps p r c → IsImage r.new.disk image → (IsLive IsMagic c.live image → ⊥) → ⊥
  closed image keeps left none = none (keeps.exit.logs image left).is.is_live

  pub changed_aside : (m : Moment) (f : FileId) → Keeps p r c → Member m (moments r c) → IsAside c.live f → m.disk f ≢ opened_disk r.old.disk f → ⊥
  changed_aside m f keeps there aside differ = differ ((keeps.headline.crashes.alone m there).aside f aside)

  pub changed_header : (m : Moment) (image : Image) → Keeps p r c → Member m (moments r c) → IsImage m.disk image → take 15 (image (file.Manager c.live)) ≢ take 15 (seen_at_entry r (file.Manager c.live)) → ⊥
  changed_header m image keeps there left differ = differ ((keeps.headline.crashes.alone m there).header image left)

  pub early_reply : (m : Moment) (image : Image) (more : List ℕ) → Keeps p r c → Member m (moments r c) → IsImage m.disk image → IsLog c.live image c.opening → m.output ≡ r.old.output ++ more → Member 10 more
      → ((e : Entry) → Member e c.entries → (l : Commit) × Member l c.added × Acknowledges e l × (Member l (records_of c.opening) → ⊥)) → ⊥
  early_reply m image more keeps there left is grew feed backed =
      let h = keeps.headline.holds m image there left in
      let same : more ≡ reply_lines (shape_in p) h.written ++ h.rest = append_cancel_left r.old.output more (reply_lines (shape_in p) h.written ++ h.rest) (sym grew ∙ h.output.output) in
      let w = written_some (shape_in p) h.written c.entries h.rest more same h.output.unended feed h.front in
      let b = backed w.0 w.2 in
      let has : Member b.0 (records_of h.log) = h.has w.0 b.0 w.1 b.1 b.2 in
      b.3 (subst (λ (l : Log). Member b.0 (records_of l)) (one_log Two Two c.live c.live image h.log c.opening h.is is) has)

  pub untold : Keeps p r c → length c.entries < (core_end p c).manager.emitted → ⊥
  untold keeps more = let told : (core_end p c).manager.emitted ≤ length c.entries = keeps.settled.told in omega arith

  pub taken_unwritten : (at : ℕ) → Keeps p r c → r.manner.threaded ≡ false → AppliesAt (core_run p c) at event.Take → length c.entries < length (state_before (core_run p c) at).manager.settled → ⊥
  taken_unwritten at keeps single takes more =
      let told : (core_end p c).manager.emitted ≤ length c.entries = keeps.settled.told in
      let before : (state_before (core_run p c) at).manager.emitted ≤ (core_end p c).manager.emitted = emitted_before (core_run p c) at in
      nothing_unwritten p.types r.windowed c.allowed r.manner.width r.manner.picks (core_run p c) at (keeps.explained.turns single) takes (omega arith)

  pub cut_elsewhere : Keeps p r c → c.rest ≢ [] → ((e : Entry) → Member e (core_end p c).manager.settled → IsPrefix c.rest (reply_line (shape_in p) e) → ⊥) → ⊥
  cut_elsewhere keeps some none = elim keeps.settled.cut [
    | inl empty ↦ some empty
    | inr next ↦ none next.0 (member_at (length c.entries) next.0 (core_end p c).manager.settled next.1) next.2
  ]

  pub answered_twice : (front between back : List Entry) (d e : Entry) → Keeps p r c → c.entries ≡ front ++ (d ∷ (between ++ (e ∷ back))) → d.line ≡ e.line → ⊥
  answered_twice front between back d e keeps split same = twice front between back d e (subst DifferInLine split keeps.headline.replies.once) same

  pub locked_and_logged : (e : Entry) (l : Commit) (by : UnitNo) (grain : GrainId) → Keeps p r c → Member e c.entries → e.what ≡ settled.Lock by grain → Member l c.added → l.logged.unit ≡ e.unit → ⊥
  locked_and_logged e l by grain keeps there is added same = subst (λ (w : Settled). IsTrueOf p r c e w) is (keeps.headline.replies.true_each e there) l added same

  in_order : (image : Image) (log : Log) (l : Commit) → Keeps p r c → IsImage r.new.disk image → IsLog c.live image log → Member l (records_of log) → Member l (records_of (order c))
  in_order image log l keeps left is there =
      let k = keeps.exit.logs image left in
      let here : Member l (records_of k.log) = subst (λ (x : Log). Member l (records_of x)) (one_log Two Two c.live c.live image log k.log is k.is) there in
      elim k.which [
        | inl same ↦ subst (λ (x : Log). Member l (records_of x)) same here
        | inr lacks ↦ subst (λ (x : List Commit). Member l x) (sym (ap records_of lacks.split ∙ grown_records k.log lacks.last)) (in_append l (records_of k.log) lacks.last (inl here))
      ]

  pub refused_in_doubt : (e : Entry) (l : Commit) (image : Image) (log : Log) → Keeps p r c → Member e c.entries → e.what ≡ settled.Disk → IsImage r.new.disk image → IsLog c.live image log → Member l (records_of log)
      → (Member l (records_of c.opening) → ⊥) → l.logged.unit ≡ e.unit → ⊥
  refused_in_doubt e l image log keeps there is left log_is in_log not_old same =
      let none : HasNoRecord c e.unit = subst (λ (w : Settled). IsTrueOf p r c e w) is (keeps.headline.replies.true_each e there) in
      elim (either_in l (records_of c.opening) c.added (subst (λ (x : List Commit). Member l x) (grown_records c.opening c.added) (in_order image log l keeps left log_is in_log))) [ inl old ↦ not_old old | inr added ↦ none l added same ]

  pub another_block : (image : Image) → Keeps p r c → RunHasDoubt (core_run p c) → IsImage r.new.disk image
      → ((gate reached session : ℕ) (batch : List Commit) (before : Log) (bodies : List (List ℕ)) → AreRecordsOf (chosen (core_end p c)) batch → StandsUpTo Two c.live image before bodies gate reached
      → reached ≤ session → HasBlock c.live gate session batch image → ⊥) → ⊥
  another_block image keeps doubt left none =
      let b = keeps.exit.block doubt in
      none b.gate b.reached b.session b.batch b.before b.bodies b.records (b.front image left) b.follows (b.block image left)

  pub no_such_line : (l : Commit) (n : ℕ) → Keeps p r c → Member l c.added → l.logged.origin ≡ Line n → length (lines r) < n → ⊥
  no_such_line l n keeps added is beyond =
      let x = keeps.traced.family.line l n added is in
      let within : x.index < length (lines r) = slice_get_within (lines r) x.index x.text x.there in
      let number : n ≡ x.index + 1 = x.number in
      omega arith

  pub not_asked : (l parent : Commit) (index depth : ℕ) → Keeps p r c → Member l c.added → Member parent c.added → l.logged.origin ≡ Child parent.logged.unit index depth
      → ((states : States) → (played p.types states parent.logged).asked ≡ []) → ⊥
  not_asked l parent index depth keeps added also is asks_none =
      let a = keeps.traced.family.asked l parent index depth added also is in
      let none = asks_none (states_after (standing_of c.opening).states a.front) in
      none_at index _ (sym (ap (λ asked. slice_get asked index) none) ∙ a.asks)

  pub another_call : (at n : ℕ) (call other : Call) (plain : Bool) → Keeps p r c → AppliesAt (core_run p c) at (event.Begin (Line n) call plain) → IsLineCall p.types (lines r) n other → call ≢ other → ⊥
  another_call at n call other plain keeps begins_it asks differ = differ (same_call p.types (lines r) n call other (keeps.explained.units at (event.Begin (Line n) call plain) begins_it).0 asks)

  pub wrong_total : (e : Entry) (l : Commit) (front back : List Commit) (outcome : Outcome) → Keeps p r c → Member e c.entries → e.what ≡ settled.Done outcome → c.added ≡ front ++ (l ∷ back) → IsEntryOf e l → IsTransaction p.types l.logged.call
      → (played p.types (states_after (standing_of c.opening).states front) l.logged).result ≢ outcome → ⊥
  wrong_total e l front back outcome keeps there is split of transaction differ =
      let added : Member l c.added = subst (λ (x : List Commit). Member l x) (sym split) (in_append l front (l ∷ back) (inr (inl refl))) in
      let replays = serial_at p.types (standing_of c.opening).states front l back (subst (λ (x : List Commit). IsSerial p.types (standing_of c.opening).states x) split keeps.headline.ordered.serial) in
      elim (subst (λ (w : Settled). IsTrueOf p r c e w) is (keeps.headline.replies.true_each e there)) [
        | inl reply ↦
            let same : reply.commit ≡ l = keeps.traced.family.one_each reply.commit l e.line reply.added added reply.of.line of.line in
            differ (replays ∙ ap (λ (x : Commit). x.logged.result) (sym same) ∙ reply.result)
        | inr plain ↦
            let same : l.logged.call ≡ plain.call = same_call p.types (lines r) e.line l.logged.call plain.call (keeps.traced.family.line l e.line added of.line) plain.line in
            plain.plain (subst (IsTransaction p.types) same transaction)
      ]

  first_of : (effects : List Effect) (first : Effect) (later : List Effect) (l : Commit) (more : List Commit) → AreRecordsOf effects c.added → effects ≡ first ∷ later → c.added ≡ l ∷ more → l.logged.unit ≡ first.unit
  first_of effects first later l more are is split =
      (subst (λ (x : List Commit). AreRecordsOf (first ∷ later) x) split (subst (λ (x : List Effect). AreRecordsOf x c.added) is are)).0.unit

  pub wrong_order : (first : Effect) (later : List Effect) (l : Commit) (more : List Commit) → Keeps p r c → committed (core_end p c) ≡ first ∷ later → c.added ≡ l ∷ more → l.logged.unit ≢ first.unit → ⊥
  wrong_order first later l more keeps is split differ =
      elim keeps.explained.records [
        | inl are ↦ differ (first_of (committed (core_end p c)) first later l more are is split)
        | inr follow ↦ differ (first_of (committed (core_end p c) ++ chosen (core_end p c)) first (later ++ chosen (core_end p c)) l more follow.records (ap (λ (x : List Effect). x ++ chosen (core_end p c)) is) split)
      ]

  settled_too : (e : Entry) → Keeps p r c → Member e c.entries → IsCaused (core_run p c) e
  settled_too e keeps there =
      keeps.explained.caused.entries e (in_settled p r c e keeps there)

  -- an entry that is caused so, and names a lock, was refused one
  refused_none : (e : Entry) (by : UnitNo) (grain : GrainId) → IsCaused (core_run p c) e → e.what ≡ settled.Lock by grain
      → ((at : ℕ) (mode : Mode) → AppliesAt (core_run p c) at (event.Refuse e.unit grain mode) → ⊥) → ⊥
  refused_none e by grain k is never =
      let w = run (begins (core_run p c)) k.before in
      let refused : IsRefusedLock w k.event e.unit by grain = subst (λ (x : Settled). HasCause w k.event (step w k.event) e.unit x) is k.cause in
      let front : take (length k.before) c.events ≡ k.before = ap (take (length k.before)) k.split ∙ take-append_seam k.before (k.event ∷ k.later) in
      let there_at : slice_get c.events (length k.before) ≡ Some (event.Refuse e.unit grain refused.mode) =
      ap (λ (x : List CoreEvent). slice_get x (length k.before)) k.split ∙ get_seam k.before k.event k.later ∙ ap Some refused.refused in
      let applied : applies (run (begins (core_run p c)) (take (length k.before) c.events)) (event.Refuse e.unit grain refused.mode) ≡ true =
      ap (λ (x : List CoreEvent). applies (run (begins (core_run p c)) x) (event.Refuse e.unit grain refused.mode)) front
      ∙ ap (λ (x : CoreEvent). applies w x) (sym refused.refused) ∙ k.applied in
      never (length k.before) refused.mode (record { there = there_at; applied = applied })

  pub no_refusal : (e : Entry) (by : UnitNo) (grain : GrainId) → Keeps p r c → Member e c.entries → e.what ≡ settled.Lock by grain
      → ((at : ℕ) (mode : Mode) → AppliesAt (core_run p c) at (event.Refuse e.unit grain mode) → ⊥) → ⊥
  no_refusal e by grain keeps there is never = refused_none e by grain (settled_too e keeps there) is never

  -- ---- over any folder that opens

  pub no_refusal_anywhere : (e : Entry) (by : UnitNo) (grain : GrainId) → KeepsAnywhere p r c → Member e c.entries → e.what ≡ settled.Lock by grain
      → ((at : ℕ) (mode : Mode) → AppliesAt (core_run p c) at (event.Refuse e.unit grain mode) → ⊥) → ⊥
  no_refusal_anywhere e by grain keeps there is never =
      refused_none e by grain
      (keeps.explained.caused.entries e (subst (λ (x : List Entry). Member e x) (sym keeps.settled.entries.1) (in_append e c.entries keeps.settled.entries.0 (inl there)))) is never

  pub twice_anywhere : (front between back : List Entry) (d e : Entry) → KeepsAnywhere p r c → c.entries ≡ front ++ (d ∷ (between ++ (e ∷ back))) → d.line ≡ e.line → ⊥
  twice_anywhere front between back d e keeps split same = twice front between back d e (subst DifferInLine split keeps.once) same

  pub more_anywhere : KeepsAnywhere p r c → r.old.syncs + most_syncs_of (seen_at_entry r) (core_run p c) < r.new.syncs → ⊥
  more_anywhere keeps more = let most = keeps.ended.most in omega (arith, most, more)

  pub written_unvoted : (g : GrainId) (m : Moment) → KeepsAnywhere p r c → how_many (is_vote_of g) (core_run p c) ≡ 0 → Member m (moments r c) → m.disk (file.Grain c.live g) ≢ r.old.disk (file.Grain c.live g) → ⊥
  written_unvoted g m keeps none there differ = differ (keeps.explained.unvoted g m none there)

  pub too_many_syncs : Keeps p r c → r.old.syncs + most_syncs_of (seen_at_entry r) (core_run p c) < r.new.syncs → ⊥
  too_many_syncs keeps more = let most = keeps.ended.most in omega (arith, most, more)

  pub load_too_many : (n seed : ℕ) → KeepsLoad p n seed r c → r.old.syncs + most_syncs_of (seen_at_entry r) (core_run p c) < r.new.syncs → ⊥
  load_too_many n seed keeps more = let most = keeps.ended.most in omega (arith, most, more)

  pub blamed_alive : (e : Entry) (on : UnitNo) → Keeps p r c → Member e c.entries → e.what ≡ settled.Dependency on
      → ((before later : List CoreEvent) (event : CoreEvent) → c.events ≡ before ++ (event ∷ later) → IsAlive (run (begins (core_run p c)) before) event on) → ⊥
  blamed_alive e on keeps there is alive =
      let k = settled_too e keeps there in
      let w = run (begins (core_run p c)) k.before in
      let lives = alive k.before k.later k.event k.split in
      elim (subst (λ (x : Settled). HasCause w k.event (step w k.event) e.unit x) is k.cause) [
        | inl refused ↦ lives.before refused.dead
        | inr decided ↦ lives.decided decided.0 decided.4.dead
      ]

  pub begun_unread : (front : List ℕ) → Keeps p r c → r.ending ≡ ending.ReadFault → r.old.input ≡ front ++ r.new.input → whole_windows front < (core_end p c).units.lines → ⊥
  begun_unread front keeps is split more =
      let k = keeps.ended.read in
      let so_many : c.allowed ≡ whole_windows front = (subst (λ (x : ending.Ending). AllowedBy x k.pulled r c.allowed) is k.allowed).windows ∙ ap whole_windows (one_front r.old.input r.new.input k.pulled front k.input split) in
      let few = k.few in
      omega (arith, so_many, few, more)

  pub begun_bad : (number : ℕ) → Keeps p r c → first_bad 0 (lines r) ≡ Some number → number ≤ (core_end p c).units.lines → ⊥
  begun_bad number keeps first begun =
      let k = keeps.ended.read in
      let few = k.few in
      let behind = behind_good 0 c.allowed (lines r) number k.good first in
      omega (arith, behind, few, begun)

  pub begun_in_bad : (told number : ℕ) → Keeps p r c → r.ending ≡ ending.InputTooLong told → first_bad 0 (lines r) ≡ Some number → before_bad number < (core_end p c).units.lines → ⊥
  begun_in_bad told number keeps is first more =
      let k = keeps.ended.read in
      let l : AllowsBefore k.pulled told r c.allowed = subst (λ (x : ending.Ending). AllowedBy x k.pulled r c.allowed) is k.allowed in
      let so_many : c.allowed ≡ before_bad number = l.before ∙ ap before_bad (some_is l.number number (sym l.first ∙ first)) in
      let few = k.few in
      omega (arith, so_many, few, more)

  pub unallowed_entry : (e : Entry) → KeepsAnywhere p r c → Member e c.entries → c.allowed < e.line → ⊥
  unallowed_entry e keeps there more = let le = (allowed_line p r c keeps e there).1 in omega (arith, le, more)

  pub unanswered_line : (n : ℕ) → KeepsAnywhere p r c → ending.IsAllWritten r.ending → 1 ≤ n → n ≤ c.allowed → ((e : Entry) → Member e c.entries → e.line ≢ n) → ⊥
  unanswered_line n keeps all low high none = let t = keeps.ended.answered all n low high in none t.0 t.1 t.2

  pub begun_none : (at : ℕ) (e : CoreEvent) → Keeps p r c → c.allowed ≡ 0 → AppliesAt (core_run p c) at e → ⊥
  begun_none at e keeps none applies_it = none_at at e (subst (λ (events : List CoreEvent). slice_get events at ≡ Some e) (no_events p r c keeps none) applies_it.there)

  -- a run in which no line may begin has no records
  pub unbegun_record : (l : Commit) → Keeps p r c → c.allowed ≡ 0 → Member l c.added → ⊥
  unbegun_record l keeps none there =
      nothing_added p.types (standing_of c.opening) c.added (subst (λ (events : List CoreEvent). AreAdded (ends (core_from p.types (standing_of c.opening) events)) c.added) (no_events p r c keeps none) keeps.explained.records) l there

  -- where a window's end is behind a line that begins, nobody can move or wants its grain
  seam_is_quiet : (at n : ℕ) (call : Call) (plain : Bool) → KeepsAnywhere p r c → r.windowed ≡ true → r.manner.threaded ≡ false → AppliesAt (core_run p c) at (event.Begin (Line (n + 1)) call plain) → n % window_lines ≡ 0
      → is_nobody (and_wish (wish_at at) (movers_at at)) ≡ true
  seam_is_quiet at n call plain keeps windowed single begins_it whole =
      let w = state_before (core_run p c) at in
      let ms = movers_at at in
      let wish = wish_at at in
      let turn : line_can_begin r.windowed r.manner.width c.allowed (core_run p c) w (and_wish wish ms) ≡ true =
      line-begins ms (get_or r.manner.picks (picks_used (core_run p c) at) 0) (movers-take p.types (core_run p c) w (got_from (begins (core_run p c)) (take at c.events))) (grain_due w)
      (line_can_begin r.windowed r.manner.width c.allowed (core_run p c) w (and_wish wish ms)) wish
      (keeps.explained.turns single at (event.Begin (Line (n + 1)) call plain) begins_it).whose in
      let next : n + 1 ≡ w.units.lines + 1 = eqb-true (n + 1) (w.units.lines + 1) (and_parts (is_allowed w (event.Begin (Line (n + 1)) call plain)) (can w (event.Begin (Line (n + 1)) call plain)) begins_it.applied).1 in
      let same : w.units.lines ≡ n = omega (arith, next) in
      let opened = (and_parts (nat_lt w.units.lines c.allowed) _ (and_parts (nat_lt (in_flight (core_run p c) w) r.manner.width) _ (and_parts (is_none w.manager.doubt) _ turn).1).1).1 in
      let seam : at_seam r.windowed w.units.lines ≡ true = subst (λ (b : Bool). at_seam b w.units.lines ≡ true) (sym windowed) (eq-eqb (w.units.lines % window_lines) 0 (ap (λ (k : ℕ). k % window_lines) same ∙ whole)) in
      subst (λ (b : Bool). (not b || is_nobody (and_wish wish ms)) ≡ true) seam opened

  -- so a line doesn't begin there while anybody can move
  pub begun_at_seam : (at n : ℕ) (call : Call) (plain : Bool) → KeepsAnywhere p r c → r.windowed ≡ true → r.manner.threaded ≡ false → AppliesAt (core_run p c) at (event.Begin (Line (n + 1)) call plain) → n % window_lines ≡ 0
      → movers p.types (core_run p c) (state_before (core_run p c) at) (got_from (begins (core_run p c)) (take at c.events)) ≢ [] → ⊥
  begun_at_seam at n call plain keeps windowed single begins_it whole some = some (no_mover (wish_at at) (movers_at at) (seam_is_quiet at n call plain keeps windowed single begins_it whole))

  -- nor while a unit wants its grain
  pub begun_while_wanted : (at n : ℕ) (call : Call) (plain : Bool) (u : UnitNo) → KeepsAnywhere p r c → r.windowed ≡ true → r.manner.threaded ≡ false → AppliesAt (core_run p c) at (event.Begin (Line (n + 1)) call plain) → n % window_lines ≡ 0
      → wish_at at ≡ Some u → ⊥
  begun_while_wanted at n call plain u keeps windowed single begins_it whole wanted = some_wish (wish_at at) (movers_at at) u wanted (seam_is_quiet at n call plain keeps windowed single begins_it whole)

  -- ---- what is brought into memory

  -- it is the last version
  brought : (at : ℕ) (g : GrainId) (u : UnitNo) (state : List Value) → KeepsAnywhere p r c → AppliesAt (core_run p c) at (event.Load g u state)
      → IsLastVersion (standing_of c.opening).states (state_before (core_run p c) at) g u state
  brought at g u state keeps is =
      let opening = (standing_of c.opening).states in
      let e = event.Load g u state in
      let all : AllLoadsTrue opening (begins (core_run p c)) (take at c.events ++ (e ∷ drop (suc at) c.events)) = subst (AllLoadsTrue opening (begins (core_run p c))) (sym (parted c.events at e is.there)) keeps.explained.loads in
      (loads-append opening (begins (core_run p c)) (take at c.events) (e ∷ drop (suc at) c.events) all).1.0 is.applied

  -- another state than the opening log's, where no committed unit wrote the grain
  pub loaded_otherwise : (at : ℕ) (g : GrainId) (u : UnitNo) (state : List Value) → KeepsAnywhere p r c → AppliesAt (core_run p c) at (event.Load g u state)
      → IsUnwritten (state_before (core_run p c) at) g → state ≢ (standing_of c.opening).states g → ⊥
  loaded_otherwise at g u state keeps is unwritten other = elim (brought at g u state keeps is) [
    | inl first ↦ other first.1
    | inr last ↦ unwritten u state last.commits last.wrote
  ]

  -- another state than its unit wrote
  pub loaded_torn : (at : ℕ) (g : GrainId) (u : UnitNo) (state wrote : List Value) → KeepsAnywhere p r c → AppliesAt (core_run p c) at (event.Load g u state)
      → (state_before (core_run p c) at).manager.verdict u ≡ verdict.Committed → state_written g ((state_before (core_run p c) at).manager.writes u) ≡ Some wrote → state ≢ wrote → ⊥
  loaded_torn at g u state wrote keeps is commits writes other = elim (brought at g u state keeps is) [
    | inl first ↦ first.2 u wrote commits writes
    | inr last ↦ other (some_is state wrote (sym last.wrote ∙ writes))
  ]

  -- an older version than another committed unit's
  pub loaded_stale : (at : ℕ) (g : GrainId) (u later : UnitNo) (state wrote : List Value) → KeepsAnywhere p r c → AppliesAt (core_run p c) at (event.Load g u state)
      → (state_before (core_run p c) at).manager.verdict later ≡ verdict.Committed → state_written g ((state_before (core_run p c) at).manager.writes later) ≡ Some wrote
      → (state_before (core_run p c) at).manager.place u < (state_before (core_run p c) at).manager.place later → ⊥
  loaded_stale at g u later state wrote keeps is commits writes older = elim (brought at g u state keeps is) [
    | inl first ↦ first.2 later wrote commits writes
    | inr last ↦ (let most = last.last later wrote commits writes in omega (arith, most, older))
  ]

  -- on one thread, another grain than the lowest one that is wanted
  pub loaded_early : (at : ℕ) (g : GrainId) (u : UnitNo) (state : List Value) → KeepsAnywhere p r c → r.manner.threaded ≡ false → AppliesAt (core_run p c) at (event.Load g u state)
      → next_wanted (state_before (core_run p c) at) ≢ Some g → ⊥
  loaded_early at g u state keeps single is other =
      let w = state_before (core_run p c) at in
      other (due_is (is_some w.manager.doubt || w.units.halt) (next_wanted w) g u state (keeps.explained.turns single at (event.Load g u state) is).made)

  -- a unit wants another grain than that for whose lock its script asks
  pub wished_otherwise : (at : ℕ) (u : UnitNo) (g : GrainId) → KeepsAnywhere p r c → AppliesAt (core_run p c) at (event.Want u g)
      → ((mode : Mode) → lock_asked p.types (state_before (core_run p c) at) (got_from (begins (core_run p c)) (take at c.events)) u ≢ Some (g, mode)) → ⊥
  wished_otherwise at u g keeps is other = (let due = keeps.explained.units at (event.Want u g) is in other due.0 due.1)

  -- on one thread, a unit wants its grain before it is its turn
  pub wished_early : (at : ℕ) (u : UnitNo) (g : GrainId) → KeepsAnywhere p r c → r.manner.threaded ≡ false → AppliesAt (core_run p c) at (event.Want u g) → wish_at at ≢ Some u → ⊥
  wished_early at u g keeps single is other =
      let w = state_before (core_run p c) at in
      let wish : wish_at at ≡ Some u =
      wish_is (movers_at at) (get_or r.manner.picks (picks_used (core_run p c) at) 0) (movers-take p.types (core_run p c) w (got_from (begins (core_run p c)) (take at c.events))) (grain_due w)
      (line_can_begin r.windowed r.manner.width c.allowed (core_run p c) w (and_wish (wish_at at) (movers_at at))) (wish_at at) u (keeps.explained.turns single at (event.Want u g) is).whose in
      other wish

  -- ---- endings

  -- what a grain's file's fault shows that ends a run
  grain_ended : (slot : ℕ) (grain : GrainId) → Keeps p r c → r.ending ≡ ending.DiskFault (file.Grain slot grain) → (slot ≡ c.live) × IsUnloaded (core_run p c) grain × (RunHasDoubt (core_run p c) → ⊥)
  grain_ended slot grain keeps is = elim (keeps.explained.doubted (file.Grain slot grain) is) [
    | inl manager ↦ (let same : file.Grain slot grain ≡ file.Manager c.live = manager.0 in absurd (cc same))
    | inr there ↦
        let same : file.Grain slot grain ≡ file.Grain c.live there.0 = there.1 in
        let named : there.0 ≡ grain = cc same in
        (cc same, subst (IsUnloaded (core_run p c)) named there.2, there.3)
  ]

  pub grain_fault : (slot : ℕ) (grain : GrainId) → Keeps p r c → r.ending ≡ ending.DiskFault (file.Grain slot grain)
      → ((at : ℕ) → at ≤ length c.events → next_wanted (state_before (core_run p c) at) ≢ Some grain) → ⊥
  grain_fault slot grain keeps is never = (let t = (grain_ended slot grain keeps is).1 in never t.0 t.1 t.2)

  pub other_slot : (slot : ℕ) (grain : GrainId) → Keeps p r c → r.ending ≡ ending.DiskFault (file.Grain slot grain) → slot ≢ c.live → ⊥
  other_slot slot grain keeps is other = other (grain_ended slot grain keeps is).0

  pub grain_in_doubt : (slot : ℕ) (grain : GrainId) → Keeps p r c → r.ending ≡ ending.DiskFault (file.Grain slot grain) → RunHasDoubt (core_run p c) → ⊥
  grain_in_doubt slot grain keeps is doubt = (grain_ended slot grain keeps is).2 doubt

  pub manager_without_doubt : (slot : ℕ) → Keeps p r c → r.ending ≡ ending.DiskFault (file.Manager slot) → (RunHasDoubt (core_run p c) → ⊥) → ⊥
  manager_without_doubt slot keeps is none = elim (keeps.explained.doubted (file.Manager slot) is) [
    | inl manager ↦ none manager.1
    | inr there ↦ (let same : file.Manager slot ≡ file.Grain c.live there.0 = there.1 in absurd (cc same))
  ]

  pub done_in_doubt : Keeps p r c → RunHasDoubt (core_run p c) → r.ending ≡ ending.Done → ⊥
  done_in_doubt keeps doubt is = subst ending.EndingMayDoubt is (keeps.explained.doubt_ends doubt)

-- what ends as it read is no longer than its log, where that file wasn't
pub behind_the_log : (p : Program) (r : Observed) (c : Course) (image : Image) → IsExit p r c → how_many is_unsealed (core_run p c) ≡ 0 → IsImage r.new.disk image
    → length (seen_at_entry r (file.Manager c.live)) ≤ gate_of (image (file.Manager c.live)) + 1 → gate_of (image (file.Manager c.live)) + 1 < length (image (file.Manager c.live)) → ⊥
behind_the_log p r c image left none may short long =
    let n : ℕ = gate_of (image (file.Manager c.live)) + 1 in
    let same : length (drop n (image (file.Manager c.live))) ≡ length (drop n (seen_at_entry r (file.Manager c.live))) = ap length (left.behind none image may) in
    omega (arith, same, length-drop n (image (file.Manager c.live)), length-drop n (seen_at_entry r (file.Manager c.live)), short, long)
