-- The settler's step of a turn, and a load of its pass: how the run goes on by it, and what its answer says.
use Rattle.std.proofs.Common.{◌≡◌, ℕ, Option, None, Some, Bool, true, false, true≢false, inl, inr, refl, sym, ap, ◌∙◌, subst}
use Rattle.std.specs.Prelude.{Result, Ok, Err, List, IsTrue, not, ◌||◌, ◌&&◌, is_some}
use Rattle.base_types.specs.declared.shapes.Shape.{Shape}
use Rattle.host_trait.specs.declared.channels.Channel.{Channel}
use Rattle.host_trait.specs.declared.channels.FileId.{FileId}
use Rattle.host_trait.specs.Runs.{OnlyAsked}
use Rattle.host_trait.specs.World.{World}
use Rattle.core_model.specs.CoreState.{CoreState, GrainId, UnitNo}
use Rattle.core_model.specs.Events.{is_after_halt}
use Rattle.core_model.specs.LegalRuns.{Run, ends}
use Rattle.core_model.specs.WantedGrains.{next_wanted}
use Rattle.core_model.specs.Settler.{Step, Votes, Decides, Seals, Learns, Writes, Loads, Takes, Rests, has_step, settler_step, MakesEvent}
use Rattle.core_model.specs.declared.events.CoreEvent.{CoreEvent}
use Rattle.core_model.specs.declared.events.CoreReply.{CoreReply}
use Rattle.core_access.specs.OneHolder.{none_comes, own_sight}
use Rattle.core_access.specs.Sights.{Sight, run_seen, Looks, Tells}
use Rattle.core_access.proofs.OneHolder.{own-run}
use Rattle.core_access.proofs.Sights.{looks-alone, looks-none, run-alone}
use Rattle.promise_spec.specs.UnitRule.{Basis, IsDue, KeepsUnitRule}
use Rattle.promise_spec.specs.UnitAnswers.{Got, got_in}
use Rattle.turn_rules.specs.NextEvent.{with_event}
use Rattle.turn_rules.proofs.Growth.{unit-grows}
use Rattle.turn_rules.proofs.Settlers.{settlers-due}
use Rattle.settle_loop.specs.ShownWork.{has_applied, tells_doubt}
use Rattle.settle_loop.specs.SettlerStep.{state_shown, has_unwritten, load_of, wanted_step, LooksOn, IsStepped, IsSteppedBy, IsIdle, IsIdleBy, PutsBy, TurnsAs, TurnsBy}
use Rattle.settle_loop.proofs.LoneSteps.{alone-applies}
use Rattle.settle_loop.specs.declared.settler.Settler.{Settler}
use Rattle.settle_loop.specs.declared.settler.Turned.{Turned}
use Rattle.settle_loop.specs.declared.settler.Turned.TheVariants.{Stepped, Nothing, Stop}
use Rattle.settle_loop.specs.declared.settler.StopCause.TheVariants.{InDoubt, WriteFault, LoadFault, LoadDamaged}
use Rattle.run_books.specs.Beginnings.{Outset, basis_of}
use Rattle.run_books.specs.Books.{Books}
use Rattle.run_books.specs.Records.{KeepsBooks}
use Rattle.run_books.specs.BooksSteps.{AreEven, CanSettle, SaysBy, BooksGoOn}
use Rattle.interleaver.specs.TurnStages.{GoesBy, GoesOne, SettledOn}
use Rattle.run_books.specs.declared.faults.RunFault.{RunFault}
use Rattle.run_books.specs.declared.faults.RunFault.TheVariants as fault
use Rattle.run_books.proofs.BooksStated.{LoadedKeep, SettledKeep}
use Rattle.interleaver.proofs.LonePasses.{own-same}
use Rattle.run_books.specs.Stages.{IsSafe, Stage, stage_of}

-- ---- the run

-- a look at what one has alone, then an event: the run's next event
two-on : (next : CoreState → Step) (r r' : Run) (seen mid : Sight) (e : CoreEvent) (reply : CoreReply) → Looks none_comes (own_sight r) seen → MakesEvent (next (state_shown seen)) e
    → Tells none_comes seen e reply mid → Looks none_comes mid (own_sight r') → GoesOne next r r'
two-on next r r' seen mid e reply first makes told last =
    let at : run_seen seen ≡ r = ap run_seen (looks-alone (own_sight r) seen first) ∙ own-run r in (
      e,
      subst (λ (x : Run). MakesEvent (next (ends x)) e) at makes,
      sym (own-run r') ∙ ap run_seen (looks-alone mid (own_sight r') last) ∙ run-alone seen mid e reply told ∙ ap (λ (x : Run). with_event x e) at,
    )

-- two looks: nothing
one-on : (next : CoreState → Step) (r r' : Run) (seen : Sight) → Looks none_comes (own_sight r) seen → Looks none_comes seen (own_sight r') → GoesBy next r r'
one-on next r r' seen first last =
    inl (sym (own-run r') ∙ ap run_seen (looks-alone seen (own_sight r') last ∙ looks-alone (own_sight r) seen first) ∙ own-run r)

module _ {H : Type 0} (tells : Bool) (world : H → World) (faults : H → Channel → ℕ) (shape : Shape) (next : CoreState → Step) (r r' : Run) (before after : Settler) (old new : H) where
  -- the run goes on by the step's event
  pub goes-one : IsSteppedBy tells world faults none_comes shape next before after (own_sight r) (own_sight r') old new → GoesOne next r r'
  goes-one t = by (after.doubted && has_applied t.r) t.looked
    where
      by : (b : Bool) → LooksOn none_comes b t.mid (own_sight r') → GoesOne next r r'
      by true l = two-on next r r' t.put.acts.seen t.mid t.e t.r t.put.acts.looked t.put.acts.makes t.put.told l.0
      by false l =
          two-on next r r' t.put.acts.seen (own_sight r') t.e t.r t.put.acts.looked t.put.acts.makes (subst (λ (x : Sight). Tells none_comes t.put.acts.seen t.e t.r x) (sym l) t.put.told) (looks-none none_comes (own_sight r'))

  -- where it rests it has no step
  pub rests-none : IsIdleBy tells world faults none_comes shape next before after (own_sight r) (own_sight r') old new → has_step (next (ends r)) ≡ true → GoesOne next r r'
  rests-none t q =
      let same : run_seen (own_sight r') ≡ r = own-run r' ∙ own-same r r' t.looked in
      absurd (true≢false (sym q ∙ ap (λ (x : Run). has_step (next (ends x))) (sym same) ∙ ap has_step t.rests))

module _ {H E : Type 0} (tells : Bool) (world : H → World) (faults : H → Channel → ℕ) (shape : Shape) (next : CoreState → Step) (r r' : Run) (before after : Settler) (old new : H) where
  -- or not at all
  pub goes-by : (result : Result Turned E) → TurnsBy tells world faults none_comes shape next before after (own_sight r) (own_sight r') old new result → GoesBy next r r'
  goes-by (Ok Stepped) t = inr (goes-one tells world faults shape next r r' before after old new t)
  goes-by (Ok Nothing) t = inl (own-same r r' t.looked)
  goes-by (Ok (Stop InDoubt)) t = inr (two-on next r r' t.put.acts.seen t.mid t.e t.r t.put.acts.looked t.put.acts.makes t.put.told t.looked)
  goes-by (Ok (Stop WriteFault)) t = inl (own-same r r' t.looked)
  goes-by (Ok (Stop (LoadFault file))) t = inl (own-same r r' t.0.looked)
  goes-by (Ok (Stop (LoadDamaged file place))) t = inl (own-same r r' t.0.looked)
  goes-by (Err lack) (inl t) = inl (own-same r r' t.looked)
  goes-by (Err lack) (inr (inl t)) = inl (own-same r r' t.looked)
  goes-by (Err lack) (inr (inr (inl t))) = one-on next r r' t.1.acts.seen t.1.acts.looked t.1.unput
  goes-by (Err lack) (inr (inr (inr (inl t)))) = inr (two-on next r r' t.put.acts.seen t.mid t.e t.r t.put.acts.looked t.put.acts.makes t.put.told t.looked)
  goes-by (Err lack) (inr (inr (inr (inr t)))) = inl (own-same r r' t.looked)

-- whatever event a step makes is due
pub steps-due : (around : Basis) (w : CoreState) (got : UnitNo → List Got) (s : Step) (e : CoreEvent) → MakesEvent s e → IsDue around w got e
steps-due around w got (Loads g) e m = subst (IsDue around w got) (sym m.2) tt
steps-due around w got (Votes n g) e m = settlers-due around w got (Votes n g) e (λ h q. absurd cc) m
steps-due around w got (Decides n) e m = settlers-due around w got (Decides n) e (λ h q. absurd cc) m
steps-due around w got (Seals n) e m = settlers-due around w got (Seals n) e (λ h q. absurd cc) m
steps-due around w got (Learns u g) e m = settlers-due around w got (Learns u g) e (λ h q. absurd cc) m
steps-due around w got Writes e m = settlers-due around w got Writes e (λ h q. absurd cc) m
steps-due around w got Takes e m = settlers-due around w got Takes e (λ h q. absurd cc) m
steps-due around w got Rests e m = absurd m

-- so the unit rule stays
pub goes-rule : (o : Outset) (next : CoreState → Step) (r r' : Run) → GoesBy next r r' → KeepsUnitRule (basis_of o) r → KeepsUnitRule (basis_of o) r'
goes-rule o next r r' (inl same) k = subst (KeepsUnitRule (basis_of o)) (sym same) k
goes-rule o next r r' (inr s) k =
    subst (KeepsUnitRule (basis_of o)) (sym s.2) (unit-grows (basis_of o) r s.0 k (λ a. steps-due (basis_of o) (ends r) (got_in r) (next (ends r)) s.0 s.1))

-- ---- what is left to be written

module _ {H : Type 0} (tells : Bool) (world : H → World) (faults : H → Channel → ℕ) (shape : Shape) (r r' : Run) (before after : Settler) (old new : H) where
  -- an entry is left where a doubt of the settler's stands behind a step
  pub left-behind : (ends r).units.halt ≡ false → IsStepped tells world faults none_comes shape before after (own_sight r) (own_sight r') old new
      → after.doubted ≡ true → has_unwritten (ends r') ≡ true
  left-behind going t d =
      let at : run_seen t.put.acts.seen ≡ r = ap run_seen (looks-alone (own_sight r) t.put.acts.seen t.put.acts.looked) ∙ own-run r in
      let halts : (state_shown t.put.acts.seen).units.halt ≡ false = ap (λ (x : Run). (ends x).units.halt) at ∙ going in
      let applied : has_applied t.r ≡ true =
      alone-applies t.put.acts.seen t.mid t.e t.r t.put.told t.put.acts.makes ∙ ap (λ (b : Bool). not b || is_after_halt t.e) halts in
      let both : (after.doubted && has_applied t.r) ≡ true = ap (λ (b : Bool). b && has_applied t.r) d ∙ applied in
      let looked : LooksOn none_comes true t.mid (own_sight r') = subst (λ (b : Bool). LooksOn none_comes b t.mid (own_sight r')) both t.looked in
      ap (λ (x : Run). has_unwritten (ends x)) (sym (own-run r')) ∙ looked.1

  -- and where it did nothing, if one was before
  pub left-before : IsIdle tells world faults none_comes shape before after (own_sight r) (own_sight r') old new
      → (before.doubted ≡ true → has_unwritten (ends r) ≡ true) → after.doubted ≡ true → has_unwritten (ends r') ≡ true
  left-before t was d =
      ap (λ (x : Run). has_unwritten (ends x)) (own-same r r' t.looked) ∙ was (ap (λ (s : Settler). s.doubted) (sym t.settler) ∙ d)

-- a step that brings a grain into memory tells of no doubt
no-doubt-told : (o : Option GrainId) (e : CoreEvent) → MakesEvent (load_of o) e → tells_doubt e ≡ false
no-doubt-told None e m = absurd m
no-doubt-told (Some g) e m = ap tells_doubt m.2

still-so : (b x y : Bool) → x ≡ false → (b || (x && y)) ≡ b
still-so true x y q = refl
still-so false x y q = ap (λ (z : Bool). z && y) q

module _ {H : Type 0} (tells : Bool) (world : H → World) (faults : H → Channel → ℕ) (shape : Shape) (r r' : Run) (before after : Settler) (old new : H) where
  put-still : (e : CoreEvent) (reply : CoreReply) (mid : Sight) → PutsBy tells world faults none_comes shape wanted_step before after (own_sight r) e reply mid old new → after.doubted ≡ before.doubted
  put-still e reply mid put =
      ap (λ (s : Settler). s.doubted) put.counts ∙ still-so before.doubted (tells_doubt e) (has_applied reply) (no-doubt-told (next_wanted (state_shown put.acts.seen)) e put.acts.makes)

  -- so a load leaves what the settler knows of a doubt
  pub loads-still : {E : Type 0} (result : Result Turned E) → TurnsBy tells world faults none_comes shape wanted_step before after (own_sight r) (own_sight r') old new result → after.doubted ≡ before.doubted
  loads-still (Ok Stepped) t = put-still t.e t.r t.mid t.put
  loads-still (Ok Nothing) t = ap (λ (s : Settler). s.doubted) t.settler
  loads-still (Ok (Stop InDoubt)) t = put-still t.e t.r t.mid t.put
  loads-still (Ok (Stop WriteFault)) t = ap (λ (s : Settler). s.doubted) t.settler
  loads-still (Ok (Stop (LoadFault file))) t = ap (λ (s : Settler). s.doubted) t.0.settler
  loads-still (Ok (Stop (LoadDamaged file place))) t = ap (λ (s : Settler). s.doubted) t.0.settler
  loads-still (Err lack) (inl t) = ap (λ (s : Settler). s.doubted) t.settler
  loads-still (Err lack) (inr (inl t)) = ap (λ (s : Settler). s.doubted) t.settler
  loads-still (Err lack) (inr (inr (inl t))) = ap (λ (s : Settler). s.doubted) t.1.settler
  loads-still (Err lack) (inr (inr (inr (inl t)))) = put-still t.e t.r t.mid t.put
  loads-still (Err lack) (inr (inr (inr (inr t)))) = ap (λ (s : Settler). s.doubted) t.settler

-- where nothing is in doubt, an entry is left for all that the settler knows of a doubt
pub calm-left : (tells : Bool) (o : Outset) (b : Books) (s : Stage) (r' : Run) (after : Settler) → KeepsBooks tells o b s → (ends s.run).manager.doubt ≡ None → after.doubted ≡ s.settler.doubted
    → after.doubted ≡ true → has_unwritten (ends r') ≡ true
calm-left tells o b s r' after books none still d = absurd (true≢false (sym d ∙ still ∙ books.doubt ∙ ap is_some none))

-- a writer that can go on can where the host was only asked
pub safe-asked : (tells : Bool) (s s' : Settler) (now now' : World) → s'.writer ≡ s.writer → (IsTrue tells → OnlyAsked now now') → IsSafe tells s.writer now → IsSafe tells s'.writer now'
safe-asked tells s s' now now' same asked safe = rw same (record { bounds = safe.bounds; fits = λ told. rw (asked told).disk (safe.fits told) })

-- ---- the books

-- what the books' own lemma says of a step of the settler
pub settled-said : {H E : Type 0} → SettledKeep → (tells : Bool) (world : H → World) (faults : H → Channel → ℕ) (shape : Shape) (r r' : Run) (before after : Settler) (old new : H) (result : Result Turned E)
    → TurnsAs tells world faults none_comes shape before after (own_sight r) (own_sight r') old new result → (o : Outset) (b : Books) → CanSettle o shape r → AreEven before.quiet b (ends r)
    → KeepsBooks tells o b (stage_of world faults r before old)
    → (g : BooksGoOn tells o b (stage_of world faults r before old) (stage_of world faults r' after new)) × SaysBy tells settler_step o g.books (stage_of world faults r' after new) result
settled-said {H} {E} keeps tells world faults shape r r' before after old new result turns o b can even books =
    keeps H E tells world faults o b shape r r' before after old new result can
    (goes-rule o settler_step r r' (goes-by tells world faults shape settler_step r r' before after old new result turns) can.units) even books turns

-- and of a load, where nothing is in doubt
pub loaded-said : {H E : Type 0} → LoadedKeep → (tells : Bool) (world : H → World) (faults : H → Channel → ℕ) (shape : Shape) (r r' : Run) (before after : Settler) (old new : H) (result : Result Turned E)
    → TurnsBy tells world faults none_comes shape wanted_step before after (own_sight r) (own_sight r') old new result → (o : Outset) (b : Books) → CanSettle o shape r → (ends r).manager.doubt ≡ None
    → AreEven before.quiet b (ends r) → KeepsBooks tells o b (stage_of world faults r before old)
    → (g : BooksGoOn tells o b (stage_of world faults r before old) (stage_of world faults r' after new)) × SaysBy tells wanted_step o g.books (stage_of world faults r' after new) result
loaded-said {H} {E} keeps tells world faults shape r r' before after old new result turns o b can none even books =
    keeps H E tells world faults o b shape r r' before after old new result can none
    (goes-rule o wanted_step r r' (goes-by tells world faults shape wanted_step r r' before after old new result turns) can.units) even books turns

-- so the books went on by either, as the answer says
module _ {H E : Type 0} (tells : Bool) (world : H → World) (faults : H → Channel → ℕ) (next : CoreState → Step) (r r' : Run) (before after : Settler) (old new : H) (result : Result Turned E) (o : Outset) (b : Books)
    (said : (g : BooksGoOn tells o b (stage_of world faults r before old) (stage_of world faults r' after new)) × SaysBy tells next o g.books (stage_of world faults r' after new) result) where
  abbrev Settled : (T : Type 0) → Result T RunFault → Type 0
  Settled T answer = SettledOn {T = T} tells o b (stage_of world faults r before old) (stage_of world faults r' after new) answer

  abbrev Says : Result Turned E → Type 0
  Says x = (g : BooksGoOn tells o b (stage_of world faults r before old) (stage_of world faults r' after new)) × SaysBy tells next o g.books (stage_of world faults r' after new) x

  pub on-stepped : {T : Type 0} → (after.doubted ≡ true → has_unwritten (ends r') ≡ true) → result ≡ Ok Stepped → (done : T) → Settled T (Ok done)
  on-stepped {T} left q done = let s : Says (Ok Stepped) = subst Says q said in record { on = s.0; says = (s.1, left) }

  pub on-idle : {T : Type 0} → (after.doubted ≡ true → has_unwritten (ends r') ≡ true) → result ≡ Ok Nothing → (done : T) → Settled T (Ok done)
  on-idle {T} left q done = let s : Says (Ok Nothing) = subst Says q said in record { on = s.0; says = (s.1.0, left) }

  pub on-doubt : (T : Type 0) → result ≡ Ok (Stop InDoubt) → Settled T (Err fault.InDoubt)
  on-doubt T q = let s : Says (Ok (Stop InDoubt)) = subst Says q said in record { on = s.0; says = s.1 }

  pub on-cut : (T : Type 0) → result ≡ Ok (Stop WriteFault) → Settled T (Err fault.WriteFault)
  on-cut T q = let s : Says (Ok (Stop WriteFault)) = subst Says q said in record { on = s.0; says = s.1 }

  pub on-unread : (T : Type 0) (file : FileId) → result ≡ Ok (Stop (LoadFault file)) → Settled T (Err (fault.LoadFault file))
  on-unread T file q = let s : Says (Ok (Stop (LoadFault file))) = subst Says q said in record { on = s.0; says = s.1 }

  pub on-damaged : (T : Type 0) (file : FileId) (place : ℕ) → result ≡ Ok (Stop (LoadDamaged file place)) → Settled T (Err (fault.LoadDamaged file place))
  on-damaged T file place q = let s : Says (Ok (Stop (LoadDamaged file place))) = subst Says q said in record { on = s.0; says = s.1 }

  pub on-lack : {T : Type 0} (lack : E) → result ≡ Err lack → (answer : Result T RunFault) → answer ≡ Err fault.Memory → Settled T answer
  on-lack {T} lack q answer t =
      let s : Says (Err lack) = subst Says q said in
      subst (Settled T) (sym t) (record { on = s.0; says = s.1 })
