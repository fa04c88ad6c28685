-- The books after a load of the first of the grains that units want, with its answer.
use Rattle.std.proofs.Common.{◌≡◌, ℕ, [], ◌∷◌, Bool, true, false, ◌&&◌, inl, inr, refl, sym, ap, ◌∙◌, subst, Option, Some, None}
use Rattle.std.specs.Prelude.{IsTrue, Result, Ok, Err}
use Rattle.base_types.specs.declared.calls.GrainId.{GrainId}
use Rattle.base_types.specs.declared.shapes.Shape.{Shape}
use Rattle.host_trait.specs.declared.channels.Channel.{Channel}
use Rattle.host_trait.specs.declared.channels.Channel.TheVariants.{File}
use Rattle.host_trait.specs.declared.channels.FileId.TheVariants.{Grain}
use Rattle.host_trait.specs.Faults.{FailedOn}
use Rattle.host_trait.specs.World.{World}
use Rattle.core_model.specs.declared.events.CoreEvent.{CoreEvent}
use Rattle.core_model.specs.declared.events.CoreReply.{CoreReply}
use Rattle.core_model.specs.Laws.{extended}
use Rattle.core_model.specs.LegalRuns.{Run, ends}
use Rattle.core_model.specs.Settler.{Votes, Writes, Loads, Rests, MakesEvent}
use Rattle.core_model.specs.WantedGrains.{next_wanted}
use Rattle.core_access.specs.OneHolder.{none_comes, own_sight}
use Rattle.core_access.specs.Sights.{Sight, run_seen}
use Rattle.core_access.specs.CallsWithoutMemory.{is_spared}
use Rattle.core_access.proofs.OneHolder.{own-run}
use Rattle.core_access.proofs.Sights.{looks-alone, reply-alone}
use Rattle.core_access.specs.Histories.{reply_in}
use Rattle.promise_spec.specs.Programs.{shape_in}
use Rattle.promise_spec.specs.UnitRule.{KeepsUnitRule}
use Rattle.grain_log.specs.declared.faults.VersionFault.{VersionFault}
use Rattle.batch_disk.specs.KeptPlaces.{PlacesStand}
use Rattle.settle_loop.specs.HostSteps.{DoesFor}
use Rattle.settle_loop.specs.ShownWork.{has_applied}
use Rattle.settle_loop.specs.SettlerStep.{CantLoadBy, IsNotTakenBy, PutsBy, TurnsBy, has_unwritten, load_of, state_shown, wanted_step}
use Rattle.settle_loop.specs.declared.settler.Settler.{Settler}
use Rattle.settle_loop.specs.declared.settler.Turned.{Turned}
use Rattle.settle_loop.specs.declared.settler.Turned.TheVariants.{Stepped, Nothing, Stop}
use Rattle.settle_loop.specs.declared.settler.StopCause.TheVariants.{InDoubt, WriteFault, LoadFault, LoadDamaged}
use Rattle.run_books.specs.Beginnings.{Outset, basis_of}
use Rattle.run_books.specs.Books.{Books}
use Rattle.run_books.specs.Records.{KeepsBooks}
use Rattle.run_books.specs.BooksSteps.{AreEven, CanSettle, SaysOfLoad, BooksGoOn}
use Rattle.run_books.specs.Stages.{stage_of}
use Rattle.run_books.proofs.BooksSettled.{WentOn, asked-went, damaged, did-for, in-doubt, is_of_batch, looked-on, put-run, same-run, unchanged, unread}
use Rattle.run_books.proofs.BooksShared.{idle-event, idle-goes, put-at}
use Rattle.run_books.proofs.BooksStated.{LoadedKeep}
use Rattle.run_books.proofs.LoadSteps.{IsAsked}

-- ---- what a load may be

-- it is no step of an open batch, by whichever grain is first
no-batch : (o : Option GrainId) → is_of_batch (load_of o) ≡ true → ⊥
no-batch None q = absurd cc
no-batch (Some g) q = absurd cc

no-vote : (o : Option GrainId) (n : ℕ) (g : GrainId) → load_of o ≡ Votes n g → ⊥
no-vote None n g q = absurd cc
no-vote (Some k) n g q = absurd cc

no-entry : (o : Option GrainId) → load_of o ≡ Writes → ⊥
no-entry None q = absurd cc
no-entry (Some k) q = absurd cc

-- it brings the first of those that are wanted
brings-first : (o : Option GrainId) (g : GrainId) → load_of o ≡ Loads g → o ≡ Some g
brings-first None g q = absurd cc
brings-first (Some k) g q = (let same : k ≡ g = cc in ap Some same)

-- and rests where there is none
pub rests-by-none : (o : Option GrainId) → load_of o ≡ Rests → o ≡ None
rests-by-none None q = refl
rests-by-none (Some k) q = absurd cc

-- ---- the books

module _ {H : Type 0} (tells : Bool) (world : H → World) (faults : H → Channel → ℕ) (o : Outset) (b : Books) (r : Run) (before : Settler) (old : H)
    (can : CanSettle o (shape_in o.program) r) (none : (ends r).manager.doubt ≡ None) (even : AreEven before.quiet b (ends r)) (k : KeepsBooks tells o b (stage_of world faults r before old)) where
  abbrev Went : Run → Settler → H → Type 0
  Went x s h = WentOn tells world faults o b r before old can even k x s h

  asks-first : (g : GrainId) → wanted_step (ends r) ≡ Loads g → IsAsked (ends r) g
  asks-first g q = (brings-first (next_wanted (ends r)) g q, none)

  -- what was done for its event was done for it in the run's slot
  does-here : (seen : Sight) (after : Settler) (new : H) (e : CoreEvent) → run_seen seen ≡ r → DoesFor tells world faults before.writer.slot e before.quiet (shape_in o.program) (state_shown seen) before.writer after.writer old new
      → DoesFor tells world faults o.live e before.quiet (shape_in o.program) (ends r) before.writer after.writer old new
  does-here seen after new e here does =
      subst (λ (live : ℕ). DoesFor tells world faults live e before.quiet (shape_in o.program) (ends r) before.writer after.writer old new) k.slot
      (subst (λ (x : Run). DoesFor tells world faults before.writer.slot e before.quiet (shape_in o.program) (ends x) before.writer after.writer old new) here does)

  -- the event was put
  put-loads : (r' : Run) (after : Settler) (new : H) (e : CoreEvent) (p : CoreReply) (mid : Sight) → KeepsUnitRule (basis_of o) r'
      → PutsBy tells world faults none_comes (shape_in o.program) wanted_step before after (own_sight r) e p mid old new → own_sight r' ≡ mid → Went r' after new
  put-loads r' after new e p mid units put same =
      let seen : run_seen put.acts.seen ≡ r = ap run_seen (looks-alone (own_sight r) put.acts.seen put.acts.looked) ∙ own-run r in
      let on : r' ≡ extended r (e ∷ []) = put-run r r' put.acts.seen mid e p put.acts.looked put.told same in
      let makes : MakesEvent (wanted_step (ends r)) e = subst (λ (x : Run). MakesEvent (wanted_step (ends x)) e) seen put.acts.makes in
      let reply : p ≡ reply_in r e = reply-alone put.acts.seen mid e p put.told ∙ ap (λ (x : Run). reply_in x e) seen in
      subst (λ (x : Run). Went x after new) (sym on)
      (put-at tells world faults o b r before after old new can even k (wanted_step (ends r)) e (λ of. absurd (no-batch (next_wanted (ends r)) of)) (λ g loads. none) makes p reply
      (did-for tells world faults o.live e before.quiet (shape_in o.program) (ends r) before.writer after.writer old new (does-here put.acts.seen after new e seen put.acts.does))
      put.counts (subst (KeepsUnitRule (basis_of o)) on units))

  -- or not, for want of memory
  not-put : (r' : Run) (after : Settler) (new : H) (e : CoreEvent) → IsNotTakenBy tells world faults none_comes (shape_in o.program) wanted_step before after (own_sight r) (own_sight r') e old new → Went r' after new
  not-put r' after new e x =
      let alone : x.acts.seen ≡ own_sight r = looks-alone (own_sight r) x.acts.seen x.acts.looked in
      let same : r' ≡ r = same-run r r' x.acts.seen x.unput alone in
      let seen : run_seen x.acts.seen ≡ r = ap run_seen alone ∙ own-run r in
      let makes : MakesEvent (wanted_step (ends r)) e = subst (λ (y : Run). MakesEvent (wanted_step (ends y)) e) seen x.acts.makes in
      let unspared : is_spared r e ≡ false = ap (λ (y : Run). is_spared y e) (sym same ∙ sym (own-run r')) ∙ x.unspared in
      let idle = idle-event tells world faults o b r before after old new can even k (wanted_step (ends r)) e (λ of. absurd (no-batch (next_wanted (ends r)) of)) (λ g loads. none) makes unspared
      (did-for tells world faults o.live e before.quiet (shape_in o.program) (ends r) before.writer after.writer old new (does-here x.acts.seen after new e seen x.acts.does)) in
      subst (λ (y : Run). Went y after new) (sym same)
      (subst (λ (y : Settler). Went r y new) (sym (x.settler ∙ ap (λ w. record before { writer = w }) idle.writer)) (idle-goes tells world faults o b r before after old new can even k e idle))

  -- ---- whatever it answers

  abbrev Answer : {E : Type 0} → Run → Settler → H → Result Turned E → Type 0
  Answer r' after new result = (g : BooksGoOn tells o b (stage_of world faults r before old) (stage_of world faults r' after new)) × SaysOfLoad tells o g.books (stage_of world faults r' after new) result

  -- the grain wasn't brought
  at-load : (E : Type 0) (result : Result Turned E) {fault : VersionFault} (r' : Run) (after : Settler) (new : H) (x : CantLoadBy tells world faults none_comes (shape_in o.program) wanted_step fault before after (own_sight r) (own_sight r') old new)
      → (IsAsked (ends r) x.g → Answer r after new result) → Answer r' after new result
  at-load E result r' after new x gives =
      let same : r' ≡ r = same-run r r' (own_sight r) x.looked refl in
      subst (λ (y : Run). Answer y after new result) (sym same) (gives (asks-first x.g (ap (λ (y : Run). wanted_step (ends y)) (sym same ∙ sym (own-run r')) ∙ x.loads)))

  loads-answered : {E : Type 0} (r' : Run) (after : Settler) (new : H) (result : Result Turned E) → KeepsUnitRule (basis_of o) r'
      → TurnsBy tells world faults none_comes (shape_in o.program) wanted_step before after (own_sight r) (own_sight r') old new result → Answer r' after new result
  loads-answered r' after new (Ok Stepped) units x = put-loads r' after new x.e x.r x.mid units x.put (looked-on (after.doubted && has_applied x.r) x.mid (own_sight r') x.looked)
  loads-answered r' after new (Ok Nothing) units x =
      let g = unchanged tells world faults o b r before old can even k r' after new (same-run r r' (own_sight r) x.looked refl) x.settler x.host in
      (g.0, (g.1, subst (λ (y : Run). wanted_step (ends y) ≡ Rests) (own-run r') x.rests))
  loads-answered r' after new (Ok (Stop InDoubt)) units x =
      let g = put-loads r' after new x.e x.r x.mid units x.put (looks-alone x.mid (own_sight r') x.looked) in
      (g.0, in-doubt tells world faults o b r before old can even k r' after new g x.doubts (ap (λ (y : Run). has_unwritten (ends y)) (sym (own-run r')) ∙ x.written))
  loads-answered r' after new (Ok (Stop WriteFault)) units x = absurd (no-entry (next_wanted (state_shown (own_sight r'))) x.writes)
  loads-answered {E = E} r' after new (Ok (Stop (LoadFault file))) units x = at-load E (Ok (Stop (LoadFault file))) r' after new x.0 (λ asks. (
      let u = unread tells world faults o b r before old can even k after new file x.0.g (x.1 ∙ ap (λ (n : ℕ). Grain n x.0.g) k.slot) asks
      (subst (λ (n : ℕ). FailedOn (File (Grain n x.0.g)) (faults old) (faults new)) k.slot x.0.reads.fault) x.0.asked x.0.settler in
      (u.0.0, u.1)))
  loads-answered {E = E} r' after new (Ok (Stop (LoadDamaged file place))) units x = at-load E (Ok (Stop (LoadDamaged file place))) r' after new x.0 (λ asks. (
      let u = damaged tells world faults o b r before old can even k after new x.0.g asks x.0.reads.calm
      (subst (λ (n : ℕ). IsTrue tells → PlacesStand n (shape_in o.program) before.writer (world old).disk → ⊥) k.slot x.0.reads.untold) x.0.asked x.0.settler in
      (u.0.0, u.1)))
  loads-answered r' after new (Err lack) units (inl x) =
      let g = unchanged tells world faults o b r before old can even k r' after new (same-run r r' (own_sight r) x.looked refl) x.settler x.host in
      (g.0, g.1.rest)
  loads-answered r' after new (Err lack) units (inr (inl x)) = absurd (no-vote (next_wanted (state_shown (own_sight r'))) x.n x.g x.votes)
  loads-answered r' after new (Err lack) units (inr (inr (inl x))) = (let g = not-put r' after new x.0 x.1 in (g.0, g.1.rest))
  loads-answered r' after new (Err lack) units (inr (inr (inr (inl x)))) =
      let g = put-loads r' after new x.e x.r x.mid units x.put (looks-alone x.mid (own_sight r') x.looked) in
      (g.0, g.1.rest)
  loads-answered {E = E} r' after new (Err lack) units (inr (inr (inr (inr x)))) =
      at-load E (Err lack) r' after new x (λ asks. (let w = asked-went tells world faults o b r before old can even k r after new refl x.settler x.reads x.asked none in (w.0, w.1.rest)))

-- a load, over a core alone
pub loaded-keeps : LoadedKeep
loaded-keeps H E tells world faults o b shape r r' before after old new result can none units even k turns =
    let can' : CanSettle o (shape_in o.program) r = subst (λ (s : Shape). CanSettle o s r) can.shape_is can in
    loads-answered tells world faults o b r before old can' none even k r' after new result units
    (subst (λ (s : Shape). TurnsBy tells world faults none_comes s wanted_step before after (own_sight r) (own_sight r') old new result) can.shape_is turns)
