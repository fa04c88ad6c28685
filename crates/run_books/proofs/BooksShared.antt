-- The books after a step of the settler of a core that others have too.
use Rattle.std.proofs.Common.{◌≡◌, ◌⊎◌, inl, inr, None, ℕ, ◌<◌, ◌≤◌, List, [], ◌∷◌, length, Bool, true, false, true≢false, not, ◌&&◌, ◌||◌, refl, sym, ap, ◌∙◌, subst, arith, Some, slice_get}
use Rattle.std.specs.Prelude.{IsTrue, Result, Ok, Err, if◌then◌else◌, is_none}
use Rattle.std.proofs.lemmas.Bool.{and_from, lt-ltb}
use Rattle.std.proofs.lemmas.Option.{slice_get_within}
use Rattle.base_types.specs.declared.entries.Entry.{Entry}
use Rattle.base_types.specs.declared.shapes.Shape.{Shape}
use Rattle.host_trait.specs.declared.channels.Channel.{Channel}
use Rattle.host_trait.specs.declared.channels.Channel.TheVariants.{File, Output}
use Rattle.host_trait.specs.Faults.{Rose, NoneFailed, FailedOn}
use Rattle.host_trait.specs.World.{World}
use Rattle.turn_cell.specs.History.{entry}
use Rattle.core_model.specs.CoreState.{CoreState}
use Rattle.core_model.specs.declared.events.CoreEvent.{CoreEvent}
use Rattle.core_model.specs.declared.events.CoreEvent.TheVariants as event
use Rattle.core_model.specs.declared.events.CoreReply.{CoreReply}
use Rattle.core_model.specs.Events.{applies, can, is_allowed, is_after_halt}
use Rattle.core_model.specs.Laws.{extended}
use Rattle.core_model.specs.LegalRuns.{Run, ends}
use Rattle.core_model.specs.Lines.{EntriesAreOnce}
use Rattle.core_model.specs.Settler.{versions_to_write, Step, Votes, Decides, Seals as SealStep, Learns, Writes, Loads, Takes, Rests, MakesEvent, settler_step}
use Rattle.core_laws.proofs.LineEntries.{once-ends}
use Rattle.core_laws.proofs.Replies.{reply-tells}
use Rattle.core_laws.proofs.SettlerSteps.{step-applies}
use Rattle.core_access.specs.Histories.{Told, run_after, reply_in}
use Rattle.core_access.specs.SettlerEvents.{leaves_settling}
use Rattle.core_access.specs.Sights.{Sight, run_seen, saw, told, AllPass, Looks, Counts}
use Rattle.core_access.specs.CallsWithoutMemory.{is_spared, has_room}
use Rattle.core_access.proofs.Entries.{entries-single}
use Rattle.core_access.proofs.Sights.{run-told, looks-before, looks-none}
use Rattle.worker_rules.specs.Work.{is_work}
use Rattle.worker_rules.proofs.Workers.{work-settles}
use Rattle.promise_spec.specs.Programs.{shape_in}
use Rattle.promise_spec.specs.UnitRule.{KeepsUnitRule}
use Rattle.settle_loop.specs.ShownWork.{tells_entry, tells_doubt, has_applied, counted_up}
use Rattle.batch_disk.specs.VoteAnswers.{LacksRoom}
use Rattle.settle_loop.specs.HostSteps.{CutsEntry, DoesFor, MakesNoCall}
use Rattle.settle_loop.specs.SettlerStep.{written_after, doubted_after, LooksOn, PutsNext, IsNotTaken, TurnsAs}
use Rattle.settle_loop.specs.declared.settler.Settler.{Settler}
use Rattle.settle_loop.specs.declared.settler.Turned.{Turned}
use Rattle.settle_loop.specs.declared.settler.Turned.TheVariants.{Stepped, Nothing, Stop}
use Rattle.settle_loop.specs.declared.settler.StopCause.TheVariants.{InDoubt, WriteFault, LoadFault, LoadDamaged}
use Rattle.run_books.specs.Beginnings.{Outset, basis_of}
use Rattle.run_books.specs.Books.{Books}
use Rattle.run_books.specs.Records.{KeepsBooks}
use Rattle.run_books.specs.BooksSteps.{AreEven, CanSettle, BooksGoOn}
use Rattle.run_books.specs.SharedSteps.{MayRely, SeesOn, CanShare, StepKeeps, OthersKeepBooks, SharedStepsKeep}
use Rattle.run_books.proofs.LineCounts.{at-most}
use Rattle.run_books.proofs.BooksCalls.{TellsNoFile}
use Rattle.run_books.proofs.BooksOthers.{others-keep, unapplied-keeps}
use Rattle.batch_disk.specs.KeptPlaces.{PlacesStand}
use Rattle.base_types.specs.declared.calls.GrainId.{GrainId}
use Rattle.host_trait.specs.Runs.{OnlyAsked}
use Rattle.host_trait.proofs.Runs.{none_asked}
use Rattle.host_trait.specs.declared.channels.FileId.TheVariants.{Grain}
use Rattle.run_books.proofs.BooksAsked.{asked-goes}
use Rattle.run_books.proofs.BooksFaults.{calm-later}
use Rattle.run_books.proofs.LoadSteps.{step-asks}
use Rattle.run_books.proofs.BooksSettled.{is_of_batch, done, WentOn, went, asked-went, unread, damaged, lacks-at, cut-by, in-doubt}
use Rattle.run_books.proofs.Fronts.{after-base, after-kinds, after-units}
use Rattle.run_books.proofs.Reliance.{sees-none, sees-look, sees-both, run-sees, counts-on, going-before, relies-before}
use Rattle.run_books.proofs.BooksStated.{DidFor}
use Rattle.run_books.proofs.ShownWork.{Stays, LoadsTrue, not-settling, stays-all, step-stays, does-on}
use Rattle.run_books.specs.Stages.{Stage, stage_by, stage_of}

-- ---- one after another

-- the books go on in two parts
abbrev pub go-both : (tells : Bool) (o : Outset) (b : Books) (x y z : Stage) (g : BooksGoOn tells o b x y) → (h : BooksGoOn tells o g.books y z) → BooksGoOn tells o b x z
go-both tells o b x y z g h = record { books = h.books; kept = h.kept; lasts = λ t head l. h.lasts t head (g.lasts t head l) }

-- ---- others' events

pub others-keep-books : OthersKeepBooks
others-keep-books tells o b r [] settler counts now above units all even k = (record { books = b; kept = k; lasts = λ t head l. l }, even)
others-keep-books tells o b r (x ∷ rest) settler counts now above units all even k =
    let r1 : Run = extended r (x.event ∷ []) in
    let one = others-keep tells o b r x.event settler counts now above (after-units r (x ∷ rest) (basis_of o) units) (after-units r1 rest (basis_of o) units)
    (not-settling x.event (all x (inl refl))) even k in
    let more = others-keep-books tells o one.0.books r1 rest settler counts now above units (λ y i. all y (inr i)) one.1 one.0.kept in
    (go-both tells o b (stage_by r settler counts now) (stage_by r1 settler counts now) (stage_by (run_after r1 rest) settler counts now) one.0 more.0, more.1)

-- what workers put isn't the settler's
pub works-leave : (rest : List Told) → AllPass is_work rest → AllPass leaves_settling rest
works-leave rest all x i = ap not (work-settles x.event (all x i))

-- ---- a step's event, in the run right before it

or-true : (a : Bool) → (a || true) ≡ true
or-true true = refl
or-true false = refl

not-not : (a : Bool) → not (not a) ≡ a
not-not true = refl
not-not false = refl

and-none : (a : Bool) → (a && false) ≡ false
and-none true = refl
and-none false = refl

or-none : (a : Bool) → (a || false) ≡ a
or-none true = refl
or-none false = refl

going-on : (h x : Bool) → h ≡ false → (not h || x) ≡ true
going-on true x q = absurd (true≢false q)
going-on false x q = refl

-- that an entry is written can always be told, where one is left
entry-applies : (w : CoreState) (x : Entry) → slice_get w.manager.settled w.manager.emitted ≡ Some x → applies w event.Emitted ≡ true
entry-applies w x next =
    and_from (is_allowed w event.Emitted) (can w event.Emitted)
    (and_from (is_none w.manager.doubt || true) (not w.units.halt || true) (or-true (is_none w.manager.doubt)) (or-true (not w.units.halt)))
    (lt-ltb w.manager.emitted (length w.manager.settled) (slice_get_within w.manager.settled w.manager.emitted x next))

module _ {H : Type 0} (tells : Bool) (world : H → World) (faults : H → Channel → ℕ) (o : Outset) (b : Books) (r : Run) (before after : Settler) (old new : H)
    (can : CanSettle o (shape_in o.program) r) (even : AreEven before.quiet b (ends r)) (k : KeepsBooks tells o b (stage_of world faults r before old)) where
  abbrev Does : CoreEvent → Type 0
  Does e = DidFor tells world faults o.live e before.quiet (shape_in o.program) (ends r) before.writer after.writer old new

  -- the host was only asked, and where it was nothing is in doubt; and no file answers the event
  pub record IsIdleEvent (e : CoreEvent) : Type 0 where
    pub writer : after.writer ≡ before.writer
    pub calm : NoneFailed (faults old) (faults new)
    pub asked : IsTrue tells → OnlyAsked (world old) (world new)
    pub sure : (new ≡ old) ⊎ ((ends r).manager.doubt ≡ None)
    pub answers : TellsNoFile e

  -- so it is where no host call was made
  no-call : (e : CoreEvent) → MakesNoCall tells world faults before.writer after.writer old new → TellsNoFile e → IsIdleEvent e
  no-call e none answers = record {
    writer = none.writer;
    calm = λ c. ap (λ (h : H). faults h c) none.host;
    asked = λ t. subst (OnlyAsked (world old)) (ap world (sym none.host)) (none_asked (world old));
    sure = inl none.host;
    answers = answers;
  }

  -- a step of the open batch applies
  batch-applies : (s : Step) (e : CoreEvent) → settler_step (ends r) ≡ s → MakesEvent s e → applies (ends r) e ≡ true
  batch-applies s e q m = step-applies r e (subst (λ (x : Step). MakesEvent x e) (sym q) m) ∙ going-on (ends r).units.halt (is_after_halt e) can.unstopped

  spares : (e : CoreEvent) → applies (ends r) e ≡ true → has_room e ≡ true → is_spared r e ≡ false → ⊥
  spares e a room none = true≢false (sym (and_from (applies (ends r) e) (has_room e) a room) ∙ none)

  -- so an event that doesn't apply only asked
  pub idle-event : (s : Step) (e : CoreEvent) → (is_of_batch s ≡ true → settler_step (ends r) ≡ s) → ((g : GrainId) → s ≡ Loads g → (ends r).manager.doubt ≡ None) → MakesEvent s e → is_spared r e ≡ false → Does e → IsIdleEvent e
  idle-event (Votes n g) e q sure m none = absurd (spares e (batch-applies (Votes n g) e (q refl) m) (ap has_room m.1) none)
  idle-event (Decides n) e q sure m none = absurd (spares e (batch-applies (Decides n) e (q refl) m) (ap has_room m) none)
  idle-event (SealStep n) e q sure (inl m) none = absurd (spares e (batch-applies (SealStep n) e (q refl) (inl m)) (ap has_room m) none)
  idle-event (SealStep n) e q sure (inr (inl m)) none = absurd (spares e (batch-applies (SealStep n) e (q refl) (inr (inl m))) (ap has_room m) none)
  idle-event (SealStep n) e q sure (inr (inr m)) none = absurd (spares e (batch-applies (SealStep n) e (q refl) (inr (inr m))) (ap has_room m) none)
  idle-event (Learns u g) e q sure m none = subst (λ (x : CoreEvent). Does x → IsIdleEvent x) (sym m) (λ does. no-call (event.Learn u g) does (record { no = λ h. refl; unsealed = refl; vote = refl; sealed = refl; vote_of = λ h. refl }))
  idle-event Writes e q sure m none =
      subst (λ (x : CoreEvent). is_spared r x ≡ false → Does x → IsIdleEvent x) (sym m)
      (λ lacks does. absurd (spares event.Emitted (entry-applies (ends r) does.entry does.next) refl lacks)) none
  idle-event (Loads g) e q sure m none = subst (λ (x : CoreEvent). Does x → IsIdleEvent x) (sym m.2) (λ does. record {
    writer = does.writer;
    calm = does.calm;
    asked = does.asked;
    sure = inr (sure g refl);
    answers = record { no = λ h. refl; unsealed = refl; vote = refl; sealed = refl; vote_of = λ h. refl };
  })
  idle-event Takes e q sure m none = subst (λ (x : CoreEvent). Does x → IsIdleEvent x) (sym m) (λ does. no-call event.Take does (record { no = λ h. refl; unsealed = refl; vote = refl; sealed = refl; vote_of = λ h. refl }))
  idle-event Rests e q sure m none = absurd m

  -- and keeps the books
  pub idle-goes : (e : CoreEvent) → IsIdleEvent e → WentOn tells world faults o b r before old can even k r before new
  idle-goes e idle = elim idle.sure [
    | inl same ↦ subst (λ (h : H). WentOn tells world faults o b r before old can even k r before h) (sym same) (record { books = b; kept = k; lasts = λ t head l. l }, even)
    | inr none ↦ asked-goes tells o b r before (faults old) (faults new) (world old) (world new) can.above can.units (calm-later (faults old) (faults new) idle.calm) idle.asked none even k
  ]

  -- the books after whichever event was put, applied or not
  pub put-at : (s : Step) (e : CoreEvent) → (is_of_batch s ≡ true → settler_step (ends r) ≡ s) → ((g : GrainId) → s ≡ Loads g → (ends r).manager.doubt ≡ None) → MakesEvent s e → (p : CoreReply) → p ≡ reply_in r e → Does e
      → after ≡ record before { writer = after.writer; written = written_after e p before.written; doubted = doubted_after e p before.doubted }
      → KeepsUnitRule (basis_of o) (extended r (e ∷ [])) → WentOn tells world faults o b r before old can even k (extended r (e ∷ [])) after new
  put-at s e q sure m p reply does counts units = by (applies (ends r) e) refl
    where
      says : has_applied p ≡ applies (ends r) e
      says = ap has_applied reply ∙ ap not (reply-tells (ends r) e) ∙ not-not (applies (ends r) e)

      and-so : (x y : Bool) → y ≡ true → (x && y) ≡ x
      and-so true y t = t
      and-so false y t = refl

      by : (a : Bool) → applies (ends r) e ≡ a → WentOn tells world faults o b r before old can even k (extended r (e ∷ [])) after new
      by true a =
          went tells world faults o b r before old can even k (extended r (e ∷ [])) after new e refl
          (done tells world faults o b r before after old new can even k s e q m does (record {
            applied = a;
            quiet = ap (λ (x : Settler). x.quiet) counts;
            written = ap (λ (x : Settler). x.written) counts ∙ ap (λ (x : Bool). if x then counted_up before.written else before.written) (and-so (tells_entry e) (has_applied p) (says ∙ a));
            doubted = ap (λ (x : Settler). x.doubted) counts ∙ ap (λ (x : Bool). before.doubted || x) (and-so (tells_doubt e) (has_applied p) (says ∙ a));
            units = units;
          }))
      by false a =
          let none : has_applied p ≡ false = says ∙ a in
          let idle : IsIdleEvent e = idle-event s e q sure m (ap (λ (x : Bool). x && has_room e) a) does in
          let written : written_after e p before.written ≡ before.written =
          ap (λ (x : Bool). if tells_entry e && x then counted_up before.written else before.written) none
          ∙ ap (λ (x : Bool). if x then counted_up before.written else before.written) (and-none (tells_entry e)) in
          let doubted : doubted_after e p before.doubted ≡ before.doubted =
          ap (λ (x : Bool). before.doubted || (tells_doubt e && x)) none ∙ ap (λ (x : Bool). before.doubted || x) (and-none (tells_doubt e)) ∙ or-none before.doubted in
          let settler : after ≡ before = counts ∙ (λ i. record before { writer = idle.writer i; written = written i; doubted = doubted i }) in
          subst (λ (x : Settler). WentOn tells world faults o b r before old can even k (extended r (e ∷ [])) x new) (sym settler)
          (
          let one = idle-goes e idle in
          let h = unapplied-keeps tells o one.0.books r e before (faults new) (world new) can.above can.units units a idle.answers one.1 one.0.kept in
          (go-both tells o b (stage_of world faults r before old) (stage_of world faults r before new) (stage_of world faults (extended r (e ∷ [])) before new) one.0 h.0, h.1))

-- ---- a step, by what was seen

-- an event that was put was seen
sees-put : (x mid : Sight) (e : CoreEvent) (p : CoreReply) → mid ≡ told x e p → SeesOn x mid
sees-put x mid e p q = subst (SeesOn x) (sym q) (record {
  first = refl;
  number = refl;
  rest = entry x.number e p ∷ [];
  seen = refl;
  own = entry x.number e p ∷ [];
  mine = refl;
  counts = (let c = ap (length {A = Told}) (entries-single x.number e p) in omega (arith, c));
})

-- a look behind the event, or none
pub looks-behind : (may : CoreEvent → Bool) (x : Bool) (mid t : Sight) → LooksOn may x mid t → Looks may mid t
looks-behind may true mid t l = l.0
looks-behind may false mid t l = subst (Looks may mid) (sym l) (looks-none may mid)

module _ {H : Type 0} (tells : Bool) (world : H → World) (faults : H → Channel → ℕ) (may : CoreEvent → Bool) (o : Outset) (b : Books) (s t : Sight) (before : Settler) (old : H)
    (can : CanShare o (shape_in o.program) s) (rely : MayRely o t) (going : (ends (run_seen t)).units.halt ≡ false)
    (even : AreEven before.quiet b (ends (run_seen s))) (k : KeepsBooks tells o b (stage_of world faults (run_seen s) before old)) where
  -- a sight between
  pub record IsBetween (x : Sight) : Type 0 where
    pub since : SeesOn s x
    pub until : SeesOn x t

  counts-at : (x : Sight) → IsBetween x → Counts x
  counts-at x i = counts-on s x i.since can.counts

  relies-at : (x : Sight) → IsBetween x → MayRely o x
  relies-at x i = relies-before x t i.until o (counts-at x i) rely

  above-at : (x : Sight) → IsBetween x → 0 < (run_seen x).base
  above-at x i = subst (λ (n : ℕ). 0 < n) (sym (after-base x.seen x.first ∙ ap (λ (r : Run). r.base) i.since.first)) can.above

  can-at : (x : Sight) → IsBetween x → CanSettle o (shape_in o.program) (run_seen x)
  can-at x i =
      let m : MayRely o x = relies-at x i in
      let once : EntriesAreOnce (ends (run_seen x)) = once-ends (run_seen x) (above-at x i) in
      let le = once.written in
      let small = m.small in
      let most : length (ends (run_seen x)).manager.settled ≤ (ends (run_seen x)).units.lines =
      at-most (ends (run_seen x)).units.lines (ends (run_seen x)).manager.settled once.differ (λ y there. let e = once.entry y there in (e.0, e.1)) in
      record {
        above = above-at x i;
        units = m.units;
        kinds = after-kinds x.seen x.first ∙ ap (λ (r : Run). r.kinds) i.since.first ∙ can.kinds;
        shape_is = refl;
        accepted = can.accepted;
        numbers = m.few;
        room = omega (arith, le, small, most);
        unstopped = going-before x t i.until going;
      }

  -- the books went on up to a run, and are even
  abbrev Went : Run → Settler → H → Type 0
  Went r after new = (g : BooksGoOn tells o b (stage_of world faults (run_seen s) before old) (stage_of world faults r after new)) × AreEven after.quiet g.books (ends r)

  start : Went (run_seen s) before old
  start = (record { books = b; kept = k; lasts = λ told head l. l }, even)

  -- what was done for an event was done in the run's slot
  in-slot : (e : CoreEvent) (x : Sight) (after : Settler) (new : H) → DoesFor tells world faults before.writer.slot e before.quiet (shape_in o.program) (ends (run_seen x)) before.writer after.writer old new
      → DoesFor tells world faults o.live e before.quiet (shape_in o.program) (ends (run_seen x)) before.writer after.writer old new
  in-slot e x after new = subst (λ (live : ℕ). DoesFor tells world faults live e before.quiet (shape_in o.program) (ends (run_seen x)) before.writer after.writer old new) k.slot

  -- others come
  works-on : (x y : Sight) → IsBetween x → IsBetween y → (l : Looks may x y) → AllPass leaves_settling l.rest
  works-on x y i j l = works-leave l.rest (looks-before is_work may x y (counts-at x i) l (relies-at y j).alone).1

  runs-on : (x y : Sight) (l : Looks may x y) → run_seen y ≡ run_after (run_seen x) l.rest
  runs-on x y l = run-sees x y (sees-look may x y l)

  move : (x y : Sight) → IsBetween x → IsBetween y → Looks may x y → (after : Settler) (new : H) → Went (run_seen x) after new → Went (run_seen y) after new
  move x y i j l after new g =
      let run = runs-on x y l in
      let h = others-keep-books tells o g.0.books (run_seen x) l.rest after (faults new) (world new) (above-at x i) (subst (KeepsUnitRule (basis_of o)) run (relies-at y j).units)
      (works-on x y i j l) g.1 g.0.kept in
      subst (λ (r : Run). Went r after new) (sym run)
      (go-both tells o b (stage_of world faults (run_seen s) before old) (stage_of world faults (run_seen x) after new) (stage_of world faults (run_after (run_seen x) l.rest) after new) g.0 h.0, h.1)

  -- what was shown stays
  stays-on : (x y : Sight) → IsBetween x → IsBetween y → Looks may x y → Stays (LoadsTrue (run_seen x)) (ends (run_seen x)) (ends (run_seen y))
  stays-on x y i j l =
      let run = runs-on x y l in
      subst (λ (r : Run). Stays (LoadsTrue (run_seen x)) (ends (run_seen x)) (ends r)) (sym run)
      (stays-all (basis_of o) l.rest (run_seen x) (above-at x i) (subst (KeepsUnitRule (basis_of o)) run (relies-at y j).units) (works-on x y i j l))

  -- ---- an event was put

  module _ (after : Settler) (new : H) (e : CoreEvent) (p : CoreReply) (mid : Sight) (put : PutsNext tells world faults may (shape_in o.program) before after s e p mid old new) (on : SeesOn mid t) where
    abbrev seen : Sight
    seen = put.acts.seen

    abbrev x : Sight
    x = saw put.acts.seen put.told.rest

    look-on : Looks may put.acts.seen (saw put.acts.seen put.told.rest)
    look-on = record { rest = put.told.rest; others = put.told.others; sight = refl }

    to-seen : SeesOn s put.acts.seen
    to-seen = sees-look may s seen put.acts.looked

    to-x : SeesOn s (saw put.acts.seen put.told.rest)
    to-x = sees-both s seen x to-seen (sees-look may seen x look-on)

    from-x : SeesOn (saw put.acts.seen put.told.rest) t
    from-x = sees-both x mid t (sees-put x mid e p put.told.sight) on

    here : IsBetween (saw put.acts.seen put.told.rest)
    here = record { since = to-x; until = from-x }

    from-seen : SeesOn put.acts.seen t
    from-seen = sees-both seen x t (sees-look may seen x look-on) from-x

    looking : IsBetween put.acts.seen
    looking = record { since = to-seen; until = from-seen }

    pub put-first : IsBetween s
    put-first = record { since = sees-none s; until = sees-both s seen t to-seen from-seen }

    behind : IsBetween mid
    behind = record { since = sees-both s x mid to-x (sees-put x mid e p put.told.sight); until = on }

    at-look : Went (run_seen put.acts.seen) before old
    at-look = move s seen put-first looking put.acts.looked before old start

    up-to : Went (run_seen (saw put.acts.seen put.told.rest)) before old
    up-to = move seen x looking here look-on before old at-look

    run-is : run_seen mid ≡ extended (run_seen (saw put.acts.seen put.told.rest)) (e ∷ [])
    run-is = ap run_seen put.told.sight ∙ run-told x e p

    pub put-went : Went (run_seen mid) after new
    put-went =
        let stays : Stays (LoadsTrue (run_seen seen)) (ends (run_seen seen)) (ends (run_seen x)) = stays-on seen x looking here look-on in
        let h = put-at tells world faults o up-to.0.books (run_seen x) before after old new (can-at x here) up-to.1 up-to.0.kept (settler_step (ends (run_seen seen))) e
        (λ of. step-stays (ends (run_seen seen)) (ends (run_seen x)) stays.batch of) (λ g loads. stays.doubt ∙ (step-asks (ends (run_seen seen)) g loads).1) put.acts.makes p put.told.reply
        (does-on tells world faults o.live before.quiet (shape_in o.program) (ends (run_seen seen)) (ends (run_seen x)) before.writer after.writer old new (LoadsTrue (run_seen seen)) (λ t. (at-look.0.kept.versions t).loads) stays e (in-slot e seen after new put.acts.does))
        put.counts (subst (KeepsUnitRule (basis_of o)) run-is (relies-at mid behind).units) in
        subst (λ (r : Run). Went r after new) (sym run-is)
        (go-both tells o b (stage_of world faults (run_seen s) before old) (stage_of world faults (run_seen x) before old) (stage_of world faults (extended (run_seen x) (e ∷ [])) after new) up-to.0 h.0, h.1)

    -- and others came
    pub put-moved : Looks may mid t → Went (run_seen t) after new
    put-moved l = move mid t behind (record { since = sees-both s seen t to-seen from-seen; until = sees-none t }) l after new put-went

  -- ---- one looked alone

  looked-at : Looks may s t → IsBetween s
  looked-at l = record { since = sees-none s; until = sees-look may s t l }

  looked-to : Looks may s t → IsBetween t
  looked-to l = record { since = sees-look may s t l; until = sees-none t }

  looked : Looks may s t → Went (run_seen t) before old
  looked l = move s t (looked-at l) (looked-to l) l before old start

  same-as : (r : Run) (after : Settler) (new : H) → after ≡ before → new ≡ old → Went r before old → Went r after new
  same-as r after new settler host g =
      subst (λ (x : Settler). Went r x new) (sym settler) (subst (λ (h : H). Went r before h) (sym host) g)

  -- the core didn't take the event
  not-taken : (after : Settler) (new : H) (e : CoreEvent) → IsNotTaken tells world faults may (shape_in o.program) before after s t e old new → Went (run_seen t) after new
  not-taken after new e n =
      let seen : Sight = n.acts.seen in
      let to : SeesOn s seen = sees-look may s seen n.acts.looked in
      let from : SeesOn seen t = sees-look may seen t n.unput in
      let first : IsBetween s = record { since = sees-none s; until = sees-both s seen t to from } in
      let mid : IsBetween seen = record { since = to; until = from } in
      let last : IsBetween t = record { since = sees-both s seen t to from; until = sees-none t } in
      let look : Went (run_seen seen) before old = move s seen first mid n.acts.looked before old start in
      let g : Went (run_seen t) before old = move seen t mid last n.unput before old look in
      let stays : Stays (LoadsTrue (run_seen seen)) (ends (run_seen seen)) (ends (run_seen t)) = stays-on seen t mid last n.unput in
      let idle = idle-event tells world faults o g.0.books (run_seen t) before after old new (can-at t last) g.1 g.0.kept (settler_step (ends (run_seen seen))) e
      (λ of. step-stays (ends (run_seen seen)) (ends (run_seen t)) stays.batch of) (λ g loads. stays.doubt ∙ (step-asks (ends (run_seen seen)) g loads).1) n.acts.makes n.unspared
      (does-on tells world faults o.live before.quiet (shape_in o.program) (ends (run_seen seen)) (ends (run_seen t)) before.writer after.writer old new (LoadsTrue (run_seen seen)) (λ told. (look.0.kept.versions told).loads) stays e (in-slot e seen after new n.acts.does)) in
      let one = idle-goes tells world faults o g.0.books (run_seen t) before after old new (can-at t last) g.1 g.0.kept e idle in
      subst (λ (x : Settler). Went (run_seen t) x new) (sym (n.settler ∙ ap (λ w. record before { writer = w }) idle.writer))
      (go-both tells o b (stage_of world faults (run_seen s) before old) (stage_of world faults (run_seen t) before old) (stage_of world faults (run_seen t) before new) g.0 one.0, one.1)

  -- ---- whatever it answers

  abbrev Answer : {E : Type 0} → Settler → H → Result Turned E → Type 0
  Answer after new result = StepKeeps tells o b (stage_of world faults (run_seen s) before old) (stage_of world faults (run_seen t) after new) result

  pub answers : {E : Type 0} (after : Settler) (new : H) (result : Result Turned E) → TurnsAs tells world faults may (shape_in o.program) before after s t old new result → Answer after new result
  answers after new (Ok Stepped) y =
      let l : Looks may y.mid t = looks-behind may (after.doubted && has_applied y.r) y.mid t y.looked in
      put-moved after new y.e y.r y.mid y.put (sees-look may y.mid t l) l
  answers after new (Ok Nothing) y =
      let g : Went (run_seen t) after new = same-as (run_seen t) after new y.settler y.host (looked y.looked) in
      (g.0, (g.1, y.rests))
  answers after new (Ok (Stop InDoubt)) y =
      let g : Went (run_seen t) after new = put-moved after new y.e y.r y.mid y.put (sees-look may y.mid t y.looked) y.looked in
      (g.0, in-doubt tells world faults o b (run_seen s) before old (can-at s (put-first after new y.e y.r y.mid y.put (sees-look may y.mid t y.looked))) even k (run_seen t) after new g y.doubts y.written)
  answers after new (Ok (Stop WriteFault)) y =
      let g : Went (run_seen t) before old = looked y.looked in
      let cut : CutsEntry tells world faults before.quiet (shape_in o.program) (ends (run_seen t)) before.writer before.writer old new =
      subst (λ (x : Settler). CutsEntry tells world faults before.quiet (shape_in o.program) (ends (run_seen t)) before.writer x.writer old new) y.settler y.cut in
      let h = cut-by tells world faults o g.0.books (run_seen t) before old (can-at t (looked-to y.looked)) g.1 g.0.kept tells refl new cut in
      subst (λ (x : Settler). (g : BooksGoOn tells o b (stage_of world faults (run_seen s) before old) (stage_of world faults (run_seen t) x new)) × Rose (o.faults Output) (faults new Output)) (sym y.settler)
      (go-both tells o b (stage_of world faults (run_seen s) before old) (stage_of world faults (run_seen t) before old) (stage_of world faults (run_seen t) before new) g.0 h.0, h.1)
  answers after new (Ok (Stop (LoadFault file))) y =
      let x = y.0 in
      let g : Went (run_seen t) before old = looked x.looked in
      let u = unread tells world faults o g.0.books (run_seen t) before old (can-at t (looked-to x.looked)) g.1 g.0.kept after new file x.g (y.1 ∙ ap (λ (n : ℕ). Grain n x.g) k.slot) (step-asks (ends (run_seen t)) x.g x.loads)
      (subst (λ (n : ℕ). FailedOn (File (Grain n x.g)) (faults old) (faults new)) k.slot x.reads.fault) x.asked x.settler in
      (go-both tells o b (stage_of world faults (run_seen s) before old) (stage_of world faults (run_seen t) before old) (stage_of world faults (run_seen t) after new) g.0 u.0.0, u.1)
  answers after new (Ok (Stop (LoadDamaged file place))) y =
      let x = y.0 in
      let g : Went (run_seen t) before old = looked x.looked in
      let u = damaged tells world faults o g.0.books (run_seen t) before old (can-at t (looked-to x.looked)) g.1 g.0.kept after new x.g (step-asks (ends (run_seen t)) x.g x.loads) x.reads.calm
      (subst (λ (n : ℕ). IsTrue tells → PlacesStand n (shape_in o.program) before.writer (world old).disk → ⊥) k.slot x.reads.untold) x.asked x.settler in
      (go-both tells o b (stage_of world faults (run_seen s) before old) (stage_of world faults (run_seen t) before old) (stage_of world faults (run_seen t) after new) g.0 u.0.0, u.1)
  answers after new (Err lack) (inl y) =
      let g : Went (run_seen t) after new = same-as (run_seen t) after new y.settler y.host (looked y.looked) in
      (g.0, g.1.rest)
  answers after new (Err lack) (inr (inl y)) =
      let g : Went (run_seen t) before old = looked y.looked in
      let h = lacks-at tells world faults o g.0.books (run_seen t) before old (can-at t (looked-to y.looked)) g.1 g.0.kept after new y.n y.g y.votes
      (subst (λ (live : ℕ). LacksRoom tells world faults live y.n y.g (versions_to_write (ends (run_seen t)) (ends (run_seen t)).manager.batch y.g) before.writer after.writer old new) k.slot y.lacks) y.settler in
      (go-both tells o b (stage_of world faults (run_seen s) before old) (stage_of world faults (run_seen t) before old) (stage_of world faults (run_seen t) after new) g.0 h.0, h.1.rest)
  answers after new (Err lack) (inr (inr (inl y))) = (let g = not-taken after new y.0 y.1 in (g.0, g.1.rest))
  answers after new (Err lack) (inr (inr (inr (inr y)))) =
      let g : Went (run_seen t) before old = looked y.looked in
      let w = asked-went tells world faults o g.0.books (run_seen t) before old (can-at t (looked-to y.looked)) g.1 g.0.kept (run_seen t) after new refl y.settler y.reads y.asked (step-asks (ends (run_seen t)) y.g y.loads).1 in
      (go-both tells o b (stage_of world faults (run_seen s) before old) (stage_of world faults (run_seen t) before old) (stage_of world faults (run_seen t) after new) g.0 w.0, w.1.rest)
  answers after new (Err lack) (inr (inr (inr (inl y)))) =
      let g : Went (run_seen t) after new = put-moved after new y.e y.r y.mid y.put (sees-look may y.mid t y.looked) y.looked in
      (g.0, g.1.rest)

-- a step of the settler of a shared core
pub shared-keep : (H E : Type 0) (tells : Bool) (world : H → World) (faults : H → Channel → ℕ) → SharedStepsKeep H E tells world faults
shared-keep H E tells world faults may o b shape s t before after old new result can rely going even k turns =
    let can' : CanShare o (shape_in o.program) s = subst (λ (x : Shape). CanShare o x s) can.shape_is can in
    answers tells world faults may o b s t before old can' rely going even k after new result
    (subst (λ (x : Shape). TurnsAs tells world faults may x before after s t old new result) can.shape_is turns)
