-- The books after a step of the settler, with its answer.
use Rattle.std.proofs.Common.{◌≡◌, ◌⊎◌, inl, inr, ℕ, zero, suc, ◌≤◌, List, [], ◌∷◌, ◌++◌, length, take, Bool, true, false, not, ◌&&◌, ◌||◌, refl, sym, ap, ◌∙◌, subst, arith, append-nil, Option, Some, None, slice_get, is_some}
use Rattle.std.specs.Prelude.{IsTrue, Result, Ok, Err, if◌then◌else◌}
use Rattle.std.specs.List.{AllByRecursion}
use Rattle.std.proofs.lemmas.Bool.{cases_lt}
use Rattle.base_types.specs.declared.calls.GrainId.{GrainId}
use Rattle.base_types.specs.declared.entries.Entry.{Entry}
use Rattle.base_types.specs.declared.shapes.Shape.{Shape}
use Rattle.host_trait.specs.declared.channels.Channel.{Channel}
use Rattle.host_trait.specs.declared.channels.Channel.TheVariants.{File, Output}
use Rattle.host_trait.specs.declared.channels.FileId.TheVariants.{Grain, Manager}
use Rattle.host_trait.specs.Faults.{Rose, NoneFailed, FailedOn}
use Rattle.host_trait.specs.World.{World, Passes, Emitted as IsAppended, IsEmitted}
use Rattle.host_trait.proofs.Moments.{both, one}
use Rattle.request_wire.specs.Reply.{reply_line}
use Rattle.core_model.specs.CoreState.{CoreState}
use Rattle.batch_disk.specs.declared.writer.BatchWriter.{BatchWriter}
use Rattle.core_model.specs.declared.events.CoreEvent.{CoreEvent}
use Rattle.core_model.specs.declared.events.CoreEvent.TheVariants as event
use Rattle.core_model.specs.declared.events.CoreReply.{CoreReply}
use Rattle.core_model.specs.Events.{applies, is_after_halt}
use Rattle.core_model.specs.Laws.{extended}
use Rattle.core_model.specs.LegalRuns.{Run, ends}
use Rattle.core_model.specs.Settler.{versions_to_write, Step, Votes, Decides, Seals as SealStep, Learns, Writes, Loads, Takes, Rests, IsLoadOf, MakesEvent, settler_step}
use Rattle.core_laws.proofs.SettlerSteps.{step-applies}
use Rattle.core_access.specs.OneHolder.{none_comes, own_sight}
use Rattle.core_access.specs.Sights.{Sight, run_seen, Looks, Tells}
use Rattle.core_access.specs.CallsWithoutMemory.{is_spared, has_room}
use Rattle.core_access.proofs.OneHolder.{own-run}
use Rattle.core_access.proofs.Sights.{looks-alone, run-alone}
use Rattle.promise_laws.proofs.DoubtedBatches.{doubt-rose}
use Rattle.promise_spec.specs.Programs.{shape_in}
use Rattle.promise_spec.specs.Outputs.{IsProper, Grew}
use Rattle.settler_rules.specs.Entries.{IsEntryInRange}
use Rattle.settler_rules.proofs.SettledEntries.{entry-proper}
use Rattle.batch_disk.specs.Writers.{KeepsDisk}
use Rattle.promise_spec.specs.UnitRule.{KeepsUnitRule}
use Rattle.promise_spec.specs.Journals.{CutAt, entries_of}
use Rattle.promise_spec.proofs.Doubts.{doubt_left}
use Rattle.settle_loop.specs.ShownWork.{tells_entry, tells_doubt, has_applied, counted_up}
use Rattle.batch_disk.specs.VoteAnswers.{LacksRoom}
use Rattle.settle_loop.specs.HostSteps.{LoadsGrain, WritesEntry, CutsEntry, DoesFor, MakesNoCall}
use Rattle.settle_loop.specs.SettlerStep.{CantLoadBy, state_shown, has_unwritten, LooksOn, PutsNext, IsBrokenOff, LacksForVote, IsNotTaken, TurnsAs}
use Rattle.settle_loop.specs.declared.settler.Settler.{Settler}
use Rattle.settle_loop.specs.declared.settler.Turned.{Turned}
use Rattle.settle_loop.specs.declared.settler.Turned.TheVariants.{Stepped, Nothing, Stop}
use Rattle.settle_loop.specs.declared.settler.StopCause.TheVariants.{InDoubt, WriteFault, LoadFault, LoadDamaged}
use Rattle.settle_loop.proofs.LoneSteps.{alone-applies}
use Rattle.run_books.specs.Beginnings.{Outset, basis_of}
use Rattle.run_books.specs.Books.{Books, IsPutOut}
use Rattle.run_books.specs.Images.{EndsAsBegun, LastsSo}
use Rattle.run_books.specs.Records.{KeepsBooks, HasDoubted, HasFailedToLoad, HasFoundNone}
use Rattle.run_books.specs.BooksSteps.{AreEven, CanSettle, SaysOfStep, BooksGoOn}
use Rattle.run_books.proofs.BooksCalls.{file-same, calls-same}
use Rattle.run_books.proofs.BooksCore.{moves-run}
use Rattle.run_books.proofs.BooksWritten.{said_next, next-front, next-entries, all-last, member-at}
use Rattle.run_books.proofs.BooksPut.{put-quiet, put-loud, cut-whole, cut-part, part_said}
use Rattle.run_books.proofs.BooksEmits.{output-lasts, whole-told, part-told}
use Rattle.run_books.proofs.BooksStep.{StepDone, IsCounted, by-decide, by-learn, by-take, by-load, by-vote, by-sealed, by-unsealed}
use Rattle.run_books.proofs.BooksEnd.{by-doubt}
use Rattle.grain_log.specs.declared.faults.VersionFault.{VersionFault}
use Rattle.batch_disk.specs.KeptPlaces.{PlacesStand}
use Rattle.host_trait.specs.Runs.{OnlyAsked}
use Rattle.host_trait.specs.declared.channels.FileId.{FileId}
use Rattle.promise_spec.specs.Causes.{RunHasDoubt}
use Rattle.run_books.proofs.LoadSteps.{IsAsked, step-asks, unloaded-now}
use Rattle.run_books.proofs.BooksAsked.{asked-goes}
use Rattle.run_books.proofs.BooksCounts.{doubt-ends}
use Rattle.run_books.proofs.BooksFaults.{NoneFell, failed-later, calm-later, faults-same, fell-both, rose-back}
use Rattle.run_books.proofs.BooksFair.{is-fair, votes-same}
use Rattle.run_books.proofs.BooksStated.{DidFor, SettledKeep}
use Rattle.run_books.proofs.BooksVersions.{versions-stay}
use Rattle.run_books.specs.Stages.{stage_of}

-- a step of the open batch
abbrev pub is_of_batch : Step → Bool
is_of_batch (Votes n g) = true
is_of_batch (Decides n) = true
is_of_batch (SealStep n) = true
is_of_batch (Learns u g) = false
is_of_batch Writes = false
is_of_batch (Loads g) = false
is_of_batch Takes = false
is_of_batch Rests = false

-- what was done for it was done for it as it comes
pub did-for : {H : Type 0} (tells : Bool) (world : H → World) (faults : H → Channel → ℕ) (live : ℕ) (e : CoreEvent) (quiet : Bool) (shape : Shape) (w : CoreState) (before after : BatchWriter) (old new : H)
    → DoesFor tells world faults live e quiet shape w before after old new → DidFor tells world faults live e quiet shape w before after old new
did-for tells world faults live (event.Vote n g said) quiet shape w before after old new does = (versions_to_write w w.manager.batch g, (λ t. refl), does)
did-for tells world faults live _ quiet shape w before after old new does = does

some-true : {A : Type 0} (x : Option A) → is_some x ≡ true → (a : A) × (x ≡ Some a)
some-true None q = absurd (let z : false ≡ true = q in cc)
some-true (Some a) q = (a, refl)

-- none stands behind the end
none-behind : {A : Type 0} (xs : List A) (n : ℕ) → is_some (slice_get xs n) ≡ false → length xs ≤ n
none-behind [] n q = omega arith
none-behind (x ∷ xs) zero q = absurd (let z : true ≡ false = q in cc)
none-behind (x ∷ xs) (suc n) q = (let t = none-behind xs n q in omega (arith, t))

module _ {H : Type 0} (tells : Bool) (world : H → World) (faults : H → Channel → ℕ) (o : Outset) (b : Books) (r : Run) (before after : Settler) (old new : H)
    (can : CanSettle o (shape_in o.program) r) (even : AreEven before.quiet b (ends r)) (k : KeepsBooks tells o b (stage_of world faults r before old)) where
  abbrev Done : CoreEvent → Type 0
  Done e = StepDone tells world faults o b r before after old new can even k e

  abbrev Counted : CoreEvent → Type 0
  Counted e = IsCounted tells world faults o b r before after old new can even k e

  -- ---- an entry

  by-write : (q : Bool) → before.quiet ≡ q → WritesEntry tells world faults q (shape_in o.program) (ends r) before.writer after.writer old new → Counted event.Emitted → Done event.Emitted
  by-write true quiet does c =
      let m = moves-run r event.Emitted c.applied in
      let doubted : after.doubted ≡ before.doubted = c.doubted ∙ or-none before.doubted in
      let put = put-quiet tells world faults o b r before after old new can.above can.units can.kinds can.room k c.applied m c.quiet c.written doubted does.writer (λ t. ap (λ (h : H). (world h).disk) does.line) quiet does.line even in
      let same : world new ≡ world old = ap world does.line in
      record {
        books = b;
        kept = put.0;
        even_again = put.1;
        lasts = λ t head l.
            output-lasts o head b b r (event.Emitted ∷ []) before.writer after.writer (world old) (world new) can.above c.units l refl refl does.writer (ap (λ (w : World). w.disk) same) (m.doubt refl)
            (λ P here p. subst (λ (w : World). Passes P o.world.past w.past) (sym same) p)
            (subst (λ (w : World). CutAt o.live o.program o.opening o.world b.said b.unsaid b.doubted b.rest w) (sym same) l.journal);
      }
    where
      or-none : (x : Bool) → (x || false) ≡ x
      or-none true = refl
      or-none false = refl
  by-write false loud does c =
      let m = moves-run r event.Emitted c.applied in
      let doubted : after.doubted ≡ before.doubted = c.doubted ∙ or-none before.doubted in
      let even' : AreEven false b (ends r) = subst (λ (q : Bool). AreEven q b (ends r)) loud even in
      let put = put-loud tells world faults o b r before after old new can.above can.units can.kinds can.room k c.applied m c.quiet c.written doubted does.writer (λ t. (does.line.1 t).disk) loud even' does.entry does.range does.next does.line.0 does.line.1 in
      record {
        books = said_next b (ends r) does.entry k.booked does.next even';
        kept = put.0;
        even_again = put.1;
        lasts = λ t head l. (
            let line = does.line.1 t in
            output-lasts o head b (said_next b (ends r) does.entry k.booked does.next even') r (event.Emitted ∷ []) before.writer after.writer (world old) (world new) can.above c.units l
            (next-front b (ends r) does.entry k.booked does.next even') refl does.writer line.disk (m.doubt refl)
            (λ P here p. both P p (one P (world old) (world new) line.past here))
            (whole-told o b (ends r) does.entry k.booked does.next even' (world old) (world new) (put.0.outside t).output.proper l.journal line)
            );
      }
    where
      or-none : (x : Bool) → (x || false) ≡ x
      or-none true = refl
      or-none false = refl

  -- ---- whichever event it is

  made : (s : Step) (e : CoreEvent) → settler_step (ends r) ≡ s → MakesEvent s e → MakesEvent (settler_step (ends r)) e
  made s e q m = subst (λ (x : Step). MakesEvent x e) (sym q) m

  abbrev pub Todo : CoreEvent → Type 0
  Todo e = DidFor tells world faults o.live e before.quiet (shape_in o.program) (ends r) before.writer after.writer old new → Counted e → Done e

  -- by a step that is the settler's, where it is one of the open batch
  pub done : (s : Step) (e : CoreEvent) → (is_of_batch s ≡ true → settler_step (ends r) ≡ s) → MakesEvent s e → Todo e
  done (Votes n g) e q m = subst Todo (sym m.1) (λ does c. by-vote tells world faults o b r before after old new can even k n g m.0 does.0 (made (Votes n g) (event.Vote n g m.0) (q refl) (m.0, refl)) does.1 does.2 c)
  done (Decides n) e q m = subst Todo (sym m) (λ does c. by-decide tells world faults o b r before after old new can even k n does c)
  done (SealStep n) e q (inl m) = subst Todo (sym m) (λ does c. by-sealed tells world faults o b r before after old new can even k n (made (SealStep n) (event.Sealed n) (q refl) (inl refl)) does c)
  done (SealStep n) e q (inr (inl m)) = subst Todo (sym m) (λ does c. by-unsealed tells world faults o b r before after old new can even k n (made (SealStep n) (event.NotSealed n) (q refl) (inr (inl refl))) does c)
  done (SealStep n) e q (inr (inr m)) = subst Todo (sym m) (λ does c. by-doubt tells world faults o b r before after old new can even k n (made (SealStep n) (event.Doubt n) (q refl) (inr (inr refl))) does c)
  done (Learns u g) e q m = subst Todo (sym m) (λ does c. by-learn tells world faults o b r before after old new can even k u g does c)
  done Writes e q m = subst Todo (sym m) (λ does c. by-write before.quiet refl does c)
  done (Loads g) e q m = subst Todo (sym m.2) (λ does c. by-load tells world faults o b r before after old new can even k g m.0 m.1 does c)
  done Takes e q m = subst Todo (sym m) (λ does c. by-take tells world faults o b r before after old new can even k does c)
  done Rests e q m = absurd m

  -- ---- an event that was put

  module _ (e : CoreEvent) (p : CoreReply) (mid : Sight) (put : PutsNext tells world faults none_comes (shape_in o.program) before after (own_sight r) e p mid old new)
      (units : KeepsUnitRule (basis_of o) (extended r (e ∷ []))) where
    seen-is : run_seen put.acts.seen ≡ r
    seen-is = ap run_seen (looks-alone (own_sight r) put.acts.seen put.acts.looked) ∙ own-run r

    makes : MakesEvent (settler_step (ends r)) e
    makes = subst (λ (x : Run). MakesEvent (settler_step (ends x)) e) seen-is put.acts.makes

    does : DoesFor tells world faults o.live e before.quiet (shape_in o.program) (ends r) before.writer after.writer old new
    does = subst (λ (live : ℕ). DoesFor tells world faults live e before.quiet (shape_in o.program) (ends r) before.writer after.writer old new) k.slot
        (subst (λ (x : Run). DoesFor tells world faults before.writer.slot e before.quiet (shape_in o.program) (ends x) before.writer after.writer old new) seen-is put.acts.does)

    going : (x : Bool) → x ≡ false → (not x || is_after_halt e) ≡ true
    going true q = absurd (let z : true ≡ false = q in cc)
    going false q = refl

    applied : applies (ends r) e ≡ true
    applied = step-applies r e makes ∙ going (ends r).units.halt can.unstopped

    said-so : has_applied p ≡ true
    said-so = alone-applies put.acts.seen mid e p put.told put.acts.makes ∙ going (state_shown put.acts.seen).units.halt (ap (λ (x : Run). (ends x).units.halt) seen-is ∙ can.unstopped)

    and-so : (x y : Bool) → y ≡ true → (x && y) ≡ x
    and-so true y q = q
    and-so false y q = refl

    counted : Counted e
    counted = record {
      applied = applied;
      quiet = ap (λ (s : Settler). s.quiet) put.counts;
      written = ap (λ (s : Settler). s.written) put.counts ∙ ap (λ (x : Bool). if x then counted_up before.written else before.written) (and-so (tells_entry e) (has_applied p) said-so);
      doubted = ap (λ (s : Settler). s.doubted) put.counts ∙ ap (λ (x : Bool). before.doubted || x) (and-so (tells_doubt e) (has_applied p) said-so);
      units = units;
    }

    pub put-done : Done e
    put-done = done (settler_step (ends r)) e (λ q. refl) makes (did-for tells world faults o.live e before.quiet (shape_in o.program) (ends r) before.writer after.writer old new does) counted

-- the run behind an event that was put
pub put-run : (r r' : Run) (seen mid : Sight) (e : CoreEvent) (p : CoreReply) → Looks none_comes (own_sight r) seen → Tells none_comes seen e p mid → own_sight r' ≡ mid → r' ≡ extended r (e ∷ [])
put-run r r' seen mid e p looked told same =
    sym (own-run r') ∙ ap run_seen same ∙ run-alone seen mid e p told ∙ ap (λ (x : Run). extended x (e ∷ [])) (ap run_seen (looks-alone (own_sight r) seen looked) ∙ own-run r)

-- one looked and saw nothing
pub same-run : (r r' : Run) (s : Sight) → Looks none_comes s (own_sight r') → s ≡ own_sight r → r' ≡ r
same-run r r' s looked same = sym (own-run r') ∙ ap run_seen (looks-alone s (own_sight r') looked ∙ same) ∙ own-run r

pub looked-on : (x : Bool) (mid t : Sight) → LooksOn none_comes x mid t → t ≡ mid
looked-on true mid t looked = looks-alone mid t looked.0
looked-on false mid t looked = looked

module _ {H : Type 0} (tells : Bool) (world : H → World) (faults : H → Channel → ℕ) (o : Outset) (b : Books) (r : Run) (before : Settler) (old : H)
    (can : CanSettle o (shape_in o.program) r) (even : AreEven before.quiet b (ends r)) (k : KeepsBooks tells o b (stage_of world faults r before old)) where
  -- the books went on, and are even
  abbrev pub WentOn : Run → Settler → H → Type 0
  WentOn x s h = (g : BooksGoOn tells o b (stage_of world faults r before old) (stage_of world faults x s h)) × AreEven s.quiet g.books (ends x)

  pub unchanged : (r' : Run) (after : Settler) (new : H) → r' ≡ r → after ≡ before → new ≡ old → WentOn r' after new
  unchanged r' after new run settler host =
      subst (λ (x : Run). WentOn x after new) (sym run)
      (subst (λ (s : Settler). WentOn r s new) (sym settler)
      (subst (λ (h : H). WentOn r before h) (sym host) (record { books = b; kept = k; lasts = λ t head l. l }, even)))

  -- a grain's version was read, and no event was put
  pub asked-on : (r' : Run) (after : Settler) (new : H) → r' ≡ r → after ≡ before → NoneFell (faults old) (faults new) → (IsTrue tells → OnlyAsked (world old) (world new)) → (ends r).manager.doubt ≡ None → WentOn r' after new
  asked-on r' after new run settler later asked none =
      subst (λ (x : Run). WentOn x after new) (sym run)
      (subst (λ (s : Settler). WentOn r s new) (sym settler)
      (asked-goes tells o b r before (faults old) (faults new) (world old) (world new) can.above can.units later asked none even k))

  pub asked-went : (r' : Run) (after : Settler) (new : H) → r' ≡ r → after ≡ before → NoneFailed (faults old) (faults new) → (IsTrue tells → OnlyAsked (world old) (world new)) → (ends r).manager.doubt ≡ None → WentOn r' after new
  asked-went r' after new run settler calm asked none = asked-on r' after new run settler (calm-later (faults old) (faults new) calm) asked none

  pub went : (r' : Run) (after : Settler) (new : H) (e : CoreEvent) → r' ≡ extended r (e ∷ []) → StepDone tells world faults o b r before after old new can even k e → WentOn r' after new
  went r' after new e run d =
      subst (λ (x : Run). WentOn x after new) (sym run) (record { books = d.books; kept = d.kept; lasts = d.lasts }, d.even_again)

  put-went : (r' : Run) (after : Settler) (new : H) (e : CoreEvent) (p : CoreReply) (mid : Sight) → KeepsUnitRule (basis_of o) r'
      → PutsNext tells world faults none_comes (shape_in o.program) before after (own_sight r) e p mid old new → own_sight r' ≡ mid → WentOn r' after new
  put-went r' after new e p mid units put same =
      let run = put-run r r' put.acts.seen mid e p put.acts.looked put.told same in
      went r' after new e run (put-done tells world faults o b r before after old new can even k e p mid put (subst (KeepsUnitRule (basis_of o)) run units))

  -- a doubt that ends the run
  pub in-doubt : (r' : Run) (after : Settler) (new : H) (g : WentOn r' after new) → after.doubted ≡ true → has_unwritten (ends r') ≡ false → HasDoubted o r' (faults new) × (g.0.books.rest ≡ [])
  in-doubt r' after new g doubted written =
      let left = some-true (ends r').manager.doubt (sym g.0.kept.doubt ∙ doubted) in
      let doubt = doubt_left r' left.0 left.1 in (
        record {
          doubt = doubt;
          written = none-behind (ends r').manager.settled (ends r').manager.emitted written;
          rose = doubt-rose r' (o.faults (File (Manager o.live))) (faults new (File (Manager o.live))) doubt g.0.kept.faults.seals;
        },
        g.1.rest,
      )

  -- an event that the core didn't take is that of a taken batch, or a load
  pub spared : (s : Step) (e : CoreEvent) → MakesEvent s e → has_room e ≡ false → (e ≡ event.Take) ⊎ ((g : GrainId) × (s ≡ Loads g) × IsLoadOf g e)
  spared (Votes n g) e m q = absurd (let z : true ≡ false = sym (ap has_room m.1) ∙ q in cc)
  spared (Decides n) e m q = absurd (let z : true ≡ false = sym (ap has_room m) ∙ q in cc)
  spared (SealStep n) e (inl m) q = absurd (let z : true ≡ false = sym (ap has_room m) ∙ q in cc)
  spared (SealStep n) e (inr (inl m)) q = absurd (let z : true ≡ false = sym (ap has_room m) ∙ q in cc)
  spared (SealStep n) e (inr (inr m)) q = absurd (let z : true ≡ false = sym (ap has_room m) ∙ q in cc)
  spared (Learns u g) e m q = absurd (let z : true ≡ false = sym (ap has_room m) ∙ q in cc)
  spared Writes e m q = absurd (let z : true ≡ false = sym (ap has_room m) ∙ q in cc)
  spared (Loads g) e m q = inr (g, refl, m)
  spared Takes e m q = inl m
  spared Rests e m q = absurd m

  and-not : (x y : Bool) → x ≡ true → (x && y) ≡ false → y ≡ false
  and-not true y p q = q
  and-not false y p q = absurd (let z : false ≡ true = p in cc)

  open-still : (x y : Bool) → x ≡ false → (not x || y) ≡ true
  open-still true y q = absurd (let z : true ≡ false = q in cc)
  open-still false y q = refl

  not-taken : (r' : Run) (after : Settler) (new : H) (e : CoreEvent) → IsNotTaken tells world faults none_comes (shape_in o.program) before after (own_sight r) (own_sight r') e old new → WentOn r' after new
  not-taken r' after new e x =
      let seen : x.acts.seen ≡ own_sight r = looks-alone (own_sight r) x.acts.seen x.acts.looked in
      let same : r' ≡ r = same-run r r' x.acts.seen x.unput seen in
      let here : run_seen x.acts.seen ≡ r = ap run_seen seen ∙ own-run r in
      let makes : MakesEvent (settler_step (ends r)) e = subst (λ (y : Run). MakesEvent (settler_step (ends y)) e) here x.acts.makes in
      let applied : applies (ends r) e ≡ true = step-applies r e makes ∙ open-still (ends r).units.halt (is_after_halt e) can.unstopped in
      let lacks : (applies (ends r) e && has_room e) ≡ false = ap (λ (y : Run). is_spared y e) (sym same ∙ sym (own-run r')) ∙ x.unspared in
      elim (spared (settler_step (ends r)) e makes (and-not (applies (ends r) e) (has_room e) applied lacks)) [
        | inl take ↦ (
            let does : MakesNoCall tells world faults before.writer after.writer old new =
            subst (λ (y : CoreEvent). DoesFor tells world faults before.writer.slot y before.quiet (shape_in o.program) (state_shown x.acts.seen) before.writer after.writer old new) take x.acts.does in
            unchanged r' after new same (x.settler ∙ ap (λ w. record before { writer = w }) does.writer) does.host)
        | inr load ↦ (
            let does : LoadsGrain tells world faults before.writer.slot (shape_in o.program) load.0 (record { unit = load.2.0; state = load.2.1 }) before.writer after.writer old new =
            subst (λ (y : CoreEvent). DoesFor tells world faults before.writer.slot y before.quiet (shape_in o.program) (state_shown x.acts.seen) before.writer after.writer old new) load.2.2 x.acts.does in
            asked-went r' after new same (x.settler ∙ ap (λ w. record before { writer = w }) does.writer) does.calm does.asked (step-asks (ends r) load.0 load.1).1)
      ]

  -- no memory for a vote's versions, in a run
  pub lacks-at : (after : Settler) (new : H) (n : ℕ) (g : GrainId) → settler_step (ends r) ≡ Votes n g
      → LacksRoom tells world faults o.live n g (versions_to_write (ends r) (ends r).manager.batch g) before.writer after.writer old new → after ≡ record before { writer = after.writer } → WentOn r after new
  lacks-at after new n g votes lacks settler =
      let later : NoneFell (faults old) (faults new) = calm-later (faults old) (faults new) lacks.calm in
      let doubted : after.doubted ≡ before.doubted = ap (λ (s : Settler). s.doubted) settler in
      let quiet : after.quiet ≡ before.quiet = ap (λ (s : Settler). s.quiet) settler in (
        record {
          books = b;
          kept = record {
            faults = faults-same o.live r r o.faults (faults old) (faults new) k.faults later (λ g. refl) refl;
            later = fell-both o.faults (faults old) (faults new) k.later later;
            booked = k.booked;
            said = subst (λ (q : Bool). IsPutOut q b (ends r)) (sym quiet) k.said;
            cut = k.cut;
            doubt = doubted ∙ k.doubt;
            slot = lacks.same.slot ∙ k.slot;
            unsure = lacks.same.doubt ∙ k.unsure ∙ sym doubted;
            written = ap (λ (s : Settler). s.written) settler ∙ k.written;
            versions = λ t. (
                let fair = (is-fair o r before.writer can.above can.units can.kinds can.accepted can.numbers (k.versions t).votes).vote n g votes in
                versions-stay o b b r before.writer after.writer (world old).disk (world new).disk (k.versions t) ((lacks.images t).placed (shape_in o.program) fair.0 fair.1 (k.versions t).stand) lacks.same.places refl
                (votes-same r n before.writer after.writer lacks.batch lacks.kept (k.versions t).votes));
            outside = λ t. record {
              output = subst (λ (w : World). Grew (shape_in o.program) o.world.output w.output (entries_of b.said) b.rest) (sym (lacks.world_is t)) (k.outside t).output;
              calls = calls-same o r r (faults old) (faults new) (world old) (world new) (k.outside t).calls (rose-back o.faults (faults old) (faults new) k.later later) refl refl refl (λ h. refl)
                  (ap (λ (w : World). w.syncs) (lacks.world_is t)) (λ h. file-same (Grain o.live h) (world old) (world new) (lacks.world_is t));
            };
          };
          lasts = λ t head l. subst (λ (w : World). LastsSo o head b r after.writer w) (sym (lacks.world_is t)) (record {
            journal = l.journal;
            backs = l.backs;
            batches = l.batches;
            batches_now = l.batches_now;
            alone = l.alone;
            alone_now = l.alone_now;
            some = l.some;
            block = l.block;
            folder = λ q. (
                let f = l.folder (sym lacks.same.doubt ∙ q) in
                let fair = (is-fair o r before.writer can.above can.units can.kinds can.accepted can.numbers (k.versions t).votes).vote n g votes in
                record {
                  stood = f.stood;
                  bodies = f.bodies;
                  log = f.log;
                  keeps = subst (λ (w : World). KeepsDisk o.live (shape_in o.program) head f.stood f.bodies after.writer w.disk) (lacks.world_is t)
                      ((lacks.images t).keeps (shape_in o.program) head f.stood f.bodies fair.0 fair.1 f.keeps);
                  behind = λ none. subst (λ (gate : ℕ). EndsAsBegun o gate ((world old).disk (Manager o.live))) (sym lacks.same.gate) (f.behind none);
                });
          });
        },
        subst (λ (q : Bool). AreEven q b (ends r)) (sym quiet) even,
      )

  -- and where one looked alone
  lacks-vote : (r' : Run) (after : Settler) (new : H) → LacksForVote tells world faults none_comes (shape_in o.program) before after (own_sight r) (own_sight r') old new → WentOn r' after new
  lacks-vote r' after new x =
      let same : r' ≡ r = same-run r r' (own_sight r) x.looked refl in
      let here : run_seen (own_sight r') ≡ r = own-run r' ∙ same in
      let votes : settler_step (ends r) ≡ Votes x.n x.g = sym (ap (λ (y : Run). settler_step (ends y)) here) ∙ x.votes in
      let lacks : LacksRoom tells world faults o.live x.n x.g (versions_to_write (ends r) (ends r).manager.batch x.g) before.writer after.writer old new =
      subst (λ (live : ℕ). LacksRoom tells world faults live x.n x.g (versions_to_write (ends r) (ends r).manager.batch x.g) before.writer after.writer old new) k.slot
      (subst (λ (y : Run). LacksRoom tells world faults before.writer.slot x.n x.g (versions_to_write (ends y) (ends y).manager.batch x.g) before.writer after.writer old new) here x.lacks) in
      subst (λ (y : Run). WentOn y after new) (sym same) (lacks-at after new x.n x.g votes lacks x.settler)

  -- ---- the output failed

  none-more : extended r [] ≡ r
  none-more = λ i. record r { events = append-nil r.events i }

  cut-lasts : (c : Books) (new : H) (x : Entry) (n : ℕ) → c.said ++ c.unsaid ≡ b.said ++ b.unsaid → c.doubted ≡ b.doubted → IsAppended n (reply_line (shape_in o.program) x) (world old) (world new)
      → (head : List ℕ) (l : LastsSo o head b r before.writer (world old)) → CutAt o.live o.program o.opening o.world c.said c.unsaid c.doubted c.rest (world new) → LastsSo o head c r before.writer (world new)
  cut-lasts c new x n front doubted line head l journal =
      subst (λ (y : Run). LastsSo o head c y before.writer (world new)) none-more
      (output-lasts o head b c r [] before.writer before.writer (world old) (world new) can.above (subst (KeepsUnitRule (basis_of o)) (sym none-more) can.units) l front doubted refl line.disk
      (ap (λ (y : Run). (ends y).manager.doubt) none-more) (λ P here p. both P p (one P (world old) (world new) line.past here)) journal)

  abbrev pub Cut : H → Type 0
  Cut new = (g : BooksGoOn tells o b (stage_of world faults r before old) (stage_of world faults r before new)) × Rose (o.faults Output) (faults new Output)

  rose-from : (x y z : ℕ) → x ≤ y → Rose y z → Rose x z
  rose-from x y z le rose = omega (arith, le, rose)

  pub cut-by : (q : Bool) → tells ≡ q → (new : H) → CutsEntry tells world faults before.quiet (shape_in o.program) (ends r) before.writer before.writer old new → Cut new
  cut-by false mute new x =
      let even' : AreEven false b (ends r) = subst (λ (q : Bool). AreEven q b (ends r)) x.loud even in
      let untold : tells ≡ true → ⊥ = (λ t. let z : false ≡ true = sym mute ∙ t in cc) in (
        record {
          books = said_next b (ends r) x.entry k.booked x.next even';
          kept = cut-whole tells world faults o b r before before old new can.above can.units can.kinds can.room k x.loud even' x.entry x.range x.next x.fault (λ t. absurd (untold t));
          lasts = λ t. absurd (untold t);
        },
        rose-from (o.faults Output) (faults old Output) (faults new Output) (k.later Output) x.fault.rose,
      )
  cut-by true told new x =
      let even' : AreEven false b (ends r) = subst (λ (q : Bool). AreEven q b (ends r)) x.loud even in
      let part = x.part told in
      let rose : Rose (o.faults Output) (faults new Output) = rose-from (o.faults Output) (faults old Output) (faults new Output) (k.later Output) x.fault.rose in
      elim (cases_lt part.0 (length (reply_line (shape_in o.program) x.entry))) [
        | inl low ↦ (
          record {
            books = part_said tells world faults o b r before before old new can.above can.units can.kinds can.room k x.loud even' x.entry x.range x.next x.fault part.0;
            kept = cut-part tells world faults o b r before before old new can.above can.units can.kinds can.room k x.loud even' x.entry x.range x.next x.fault part.0 low (λ t. part.1);
            lasts = λ t head l. cut-lasts (record b { rest = take part.0 (reply_line (shape_in o.program) x.entry) }) new x.entry part.0 refl refl part.1 head l
                (part-told o b (ends r) x.entry k.booked x.next even' (world old) (world new)
                (whole-proper x.entry x.range x.next x.loud even' t) l.journal part.0 low part.1);
          },
          rose,
        )
        | inr high ↦ (
            let all : IsEmitted (reply_line (shape_in o.program) x.entry) (world old) (world new) =
            subst (λ (n : ℕ). IsAppended n (reply_line (shape_in o.program) x.entry) (world old) (world new)) (let c = part.1.count in omega (arith, high, c)) part.1 in
            let kept = cut-whole tells world faults o b r before before old new can.above can.units can.kinds can.room k x.loud even' x.entry x.range x.next x.fault (λ t. all) in (
              record {
                books = said_next b (ends r) x.entry k.booked x.next even';
                kept = kept;
                lasts = λ t head l. cut-lasts (said_next b (ends r) x.entry k.booked x.next even') new x.entry (length (reply_line (shape_in o.program) x.entry)) (next-front b (ends r) x.entry k.booked x.next even') refl all head l
                    (whole-told o b (ends r) x.entry k.booked x.next even' (world old) (world new) (kept.outside t).output.proper l.journal all);
              },
              rose,
            ))
      ]
    where
      whole-proper : (x : Entry) → IsEntryInRange x → (next : slice_get (ends r).manager.settled (ends r).manager.emitted ≡ Some x) → before.quiet ≡ false → (even' : AreEven false b (ends r)) → IsTrue tells
          → AllByRecursion (IsProper (shape_in o.program)) (entries_of (said_next b (ends r) x k.booked next even').said)
      whole-proper x range next loud even' t =
          subst (AllByRecursion (IsProper (shape_in o.program))) (sym (next-entries b (ends r) x k.booked next even'))
          (all-last (IsProper (shape_in o.program)) (entries_of b.said) x (k.outside t).output.proper
          (entry-proper (basis_of o) r can.above can.units can.kinds x (member-at (ends r).manager.emitted (ends r).manager.settled x next) range))

  broken-off : (r' : Run) (after : Settler) (new : H) → IsBrokenOff tells world faults none_comes (shape_in o.program) before after (own_sight r) (own_sight r') old new
      → (g : BooksGoOn tells o b (stage_of world faults r before old) (stage_of world faults r' after new)) × Rose (o.faults Output) (faults new Output)
  broken-off r' after new x =
      let same : r' ≡ r = same-run r r' (own_sight r) x.looked refl in
      let here : run_seen (own_sight r') ≡ r = own-run r' ∙ same in
      let cut : CutsEntry tells world faults before.quiet (shape_in o.program) (ends r) before.writer before.writer old new =
      subst (λ (s : Settler). CutsEntry tells world faults before.quiet (shape_in o.program) (ends r) before.writer s.writer old new) x.settler
      (subst (λ (y : Run). CutsEntry tells world faults before.quiet (shape_in o.program) (ends y) before.writer after.writer old new) here x.cut) in
      subst (λ (y : Run). (g : BooksGoOn tells o b (stage_of world faults r before old) (stage_of world faults y after new)) × Rose (o.faults Output) (faults new Output)) (sym same)
      (subst (λ (s : Settler). (g : BooksGoOn tells o b (stage_of world faults r before old) (stage_of world faults r s new)) × Rose (o.faults Output) (faults new Output)) (sym x.settler)
      (cut-by tells refl new cut))

  -- ---- a grain wasn't brought into memory

  never-doubted : (ends r).manager.doubt ≡ None → RunHasDoubt r → ⊥
  never-doubted none d = (let left = doubt-ends r d in let z : Some left.0 ≡ None = sym left.1 ∙ none in cc)

  pub unread : (after : Settler) (new : H) (file : FileId) (g : GrainId) → file ≡ Grain o.live g → IsAsked (ends r) g → FailedOn (File (Grain o.live g)) (faults old) (faults new)
      → (IsTrue tells → OnlyAsked (world old) (world new)) → after ≡ before → (w : WentOn r after new) × (HasFailedToLoad o r (faults new) file × (w.0.books.rest ≡ []))
  unread after new file g is asks failed asked settler =
      let w = asked-on r after new refl settler (failed-later (File (Grain o.live g)) (faults old) (faults new) failed) asked asks.1 in (
        w,
        (
          record {
            grain = g;
            file_is = is;
            unloaded = unloaded-now r g asks.0;
            sure = never-doubted asks.1;
            rose = subst (λ (f : FileId). Rose (o.faults (File f)) (faults new (File f))) (sym is)
                (rose-from (o.faults (File (Grain o.live g))) (faults old (File (Grain o.live g))) (faults new (File (Grain o.live g))) (k.later (File (Grain o.live g))) failed.rose);
          },
          w.1.rest,
        ),
      )

  pub damaged : (after : Settler) (new : H) (g : GrainId) → IsAsked (ends r) g → NoneFailed (faults old) (faults new) → (IsTrue tells → PlacesStand o.live (shape_in o.program) before.writer (world old).disk → ⊥)
      → (IsTrue tells → OnlyAsked (world old) (world new)) → after ≡ before → (w : WentOn r after new) × (HasFoundNone tells r × (w.0.books.rest ≡ []))
  damaged after new g asks calm untold asked settler =
      let w = asked-went r after new refl settler calm asked asks.1 in
      (w, (record { untold = λ t. untold t (k.versions t).stand; sure = never-doubted asks.1 }, w.1.rest))

  -- ---- whatever it answers

  abbrev Answer : {E : Type 0} → Run → Settler → H → Result Turned E → Type 0
  Answer r' after new result = (g : BooksGoOn tells o b (stage_of world faults r before old) (stage_of world faults r' after new)) × SaysOfStep tells o g.books (stage_of world faults r' after new) result

  -- what was to be brought in the run that was looked at alone
  at-load : (E : Type 0) (result : Result Turned E) {fault : VersionFault} (r' : Run) (after : Settler) (new : H) (x : CantLoadBy tells world faults none_comes (shape_in o.program) settler_step fault before after (own_sight r) (own_sight r') old new)
      → (IsAsked (ends r) x.g → Answer r after new result) → Answer r' after new result
  at-load E result r' after new x gives =
      let same : r' ≡ r = same-run r r' (own_sight r) x.looked refl in
      subst (λ (y : Run). Answer y after new result) (sym same) (gives (step-asks (ends r) x.g (ap (λ (y : Run). settler_step (ends y)) (sym same ∙ sym (own-run r')) ∙ x.loads)))

  pub answered : {E : Type 0} (r' : Run) (after : Settler) (new : H) (result : Result Turned E) → KeepsUnitRule (basis_of o) r'
      → TurnsAs tells world faults none_comes (shape_in o.program) before after (own_sight r) (own_sight r') old new result → Answer r' after new result
  answered r' after new (Ok Stepped) units x = put-went r' after new x.e x.r x.mid units x.put (looked-on (after.doubted && has_applied x.r) x.mid (own_sight r') x.looked)
  answered r' after new (Ok Nothing) units x =
      let same : r' ≡ r = same-run r r' (own_sight r) x.looked refl in
      let g = unchanged r' after new same x.settler x.host in
      (g.0, (g.1, subst (λ (y : Run). settler_step (ends y) ≡ Rests) (own-run r') x.rests))
  answered r' after new (Ok (Stop InDoubt)) units x =
      let g = put-went r' after new x.e x.r x.mid units x.put (looks-alone x.mid (own_sight r') x.looked) in
      (g.0, in-doubt r' after new g x.doubts (ap (λ (y : Run). has_unwritten (ends y)) (sym (own-run r')) ∙ x.written))
  answered r' after new (Ok (Stop WriteFault)) units x = broken-off r' after new x
  answered {E = E} r' after new (Ok (Stop (LoadFault file))) units x = at-load E (Ok (Stop (LoadFault file))) r' after new x.0 (λ asks. (
      let u = unread after new file x.0.g (x.1 ∙ ap (λ (n : ℕ). Grain n x.0.g) k.slot) asks
      (subst (λ (n : ℕ). FailedOn (File (Grain n x.0.g)) (faults old) (faults new)) k.slot x.0.reads.fault) x.0.asked x.0.settler in
      (u.0.0, u.1)))
  answered {E = E} r' after new (Ok (Stop (LoadDamaged file place))) units x = at-load E (Ok (Stop (LoadDamaged file place))) r' after new x.0 (λ asks. (
      let u = damaged after new x.0.g asks x.0.reads.calm (subst (λ (n : ℕ). IsTrue tells → PlacesStand n (shape_in o.program) before.writer (world old).disk → ⊥) k.slot x.0.reads.untold) x.0.asked x.0.settler in
      (u.0.0, u.1)))
  answered r' after new (Err lack) units (inl x) =
      let g = unchanged r' after new (same-run r r' (own_sight r) x.looked refl) x.settler x.host in
      (g.0, g.1.rest)
  answered r' after new (Err lack) units (inr (inl x)) = (let g = lacks-vote r' after new x in (g.0, g.1.rest))
  answered r' after new (Err lack) units (inr (inr (inl x))) = (let g = not-taken r' after new x.0 x.1 in (g.0, g.1.rest))
  answered {E = E} r' after new (Err lack) units (inr (inr (inr (inr x)))) = at-load E (Err lack) r' after new x (λ asks. (let w = asked-went r after new refl x.settler x.reads x.asked asks.1 in (w.0, w.1.rest)))
  answered r' after new (Err lack) units (inr (inr (inr (inl x)))) =
      let g = put-went r' after new x.e x.r x.mid units x.put (looks-alone x.mid (own_sight r') x.looked) in
      (g.0, g.1.rest)

-- a step of the settler, over a core alone
pub settled-keeps : SettledKeep
settled-keeps H E tells world faults o b shape r r' before after old new result can units even k turns =
    let can' : CanSettle o (shape_in o.program) r = subst (λ (s : Shape). CanSettle o s r) can.shape_is can in
    answered tells world faults o b r before old can' even k r' after new result units
    (subst (λ (s : Shape). TurnsAs tells world faults none_comes s before after (own_sight r) (own_sight r') old new result) can.shape_is turns)
