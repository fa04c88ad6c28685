-- A settler over a core that nobody else has: its run, and what its steps leave of it.
use Rattle.std.proofs.Common.{◌≡◌, inl, inr, ℕ, ◌<◌, ◌≤◌, ◌^◌, List, [], ◌∷◌, ◌++◌, Bool, true, true≢false, Option, Some, None, refl, sym, ap, ◌∙◌, subst}
use Rattle.std.specs.Prelude.{Result}
use Rattle.std.proofs.lemmas.Bool.{and_parts, cond_both}
use Rattle.base_types.specs.declared.shapes.Shape.{Shape}
use Rattle.host_trait.specs.declared.channels.Channel.{Channel}
use Rattle.host_trait.specs.World.{World}
use Rattle.core_model.specs.CoreState.{CoreState}
use Rattle.core_model.specs.Changes.{swept, swept_by}
use Rattle.core_model.specs.declared.events.CoreEvent.{CoreEvent}
use Rattle.core_model.specs.declared.events.CoreEvent.TheVariants.{Take, Vote, Decide, Sealed, NotSealed, Doubt, Learn, Emitted, Bad, Begin, Grant, Refuse, Finish, EndPlain, EndSnapshot, Release, Halt, Want, Load}
use Rattle.core_model.specs.Events.{applies, is_allowed, can, does, step}
use Rattle.core_model.specs.Laws.{extended}
use Rattle.core_model.specs.LegalRuns.{Run, ends}
use Rattle.core_laws.proofs.EventCases.{Change, bad, begin, lock, raise, refuse, finish, end_plain, end_snapshot, release, take_batch, vote, decide_some, decide_none, seal_batch, spoil_batch, doubt_batch, learn, emit, halt_run, want, load, decode}
use Rattle.core_access.specs.Histories.{Told, run_after}
use Rattle.core_access.specs.OneHolder.{own_sight}
use Rattle.core_access.specs.SettlerEvents.{is_settling}
use Rattle.core_access.specs.Sights.{run_seen, AllPass}
use Rattle.core_access.proofs.OneHolder.{own-run, own-counts, own-alone}
use Rattle.promise_spec.specs.UnitRule.{Basis, KeepsUnitRule}
use Rattle.turn_rules.specs.NextEvent.{MayCome}
use Rattle.turn_rules.proofs.Growth.{ends-more, unit-grows}
use Rattle.worker_rules.specs.Work.{is_work}
use Rattle.settle_loop.specs.declared.settler.Settler.{Settler}
use Rattle.run_books.specs.declared.faults.RunFault.{RunFault}
use Rattle.run_books.specs.Beginnings.{Outset, basis_of}
use Rattle.run_books.specs.RecordFrame.{TurnsBeside}
use Rattle.run_books.specs.Books.{Books}
use Rattle.run_books.specs.Records.{KeepsBooks}
use Rattle.run_books.specs.BooksSteps.{AreEven}
use Rattle.run_books.specs.SharedSteps.{MayRely}
use Rattle.run_books.proofs.Reliance.{run-sees}
use Rattle.shared_settling.specs.SharedSettler.{SettlesAmong, CanSettleAmong, CanSettleRest, SettledAmong}
use Rattle.run_books.specs.Stages.{stage_by, side_by}

-- ---- the settler's events

-- they may come anywhere
pub settling-may : (b : Basis) (r : Run) (e : CoreEvent) → is_settling e ≡ true → MayCome b r e
settling-may b r Take q = λ a. tt
settling-may b r (Vote n g kept) q = λ a. tt
settling-may b r (Decide n) q = λ a. tt
settling-may b r (Sealed n) q = λ a. tt
settling-may b r (NotSealed n) q = λ a. tt
settling-may b r (Doubt n) q = λ a. tt
settling-may b r (Learn u g) q = λ a. tt
settling-may b r Emitted q = λ a. tt
settling-may b r (Bad n why) q = absurd (true≢false (sym q))
settling-may b r (Begin origin call plain) q = absurd (true≢false (sym q))
settling-may b r (Grant u g mode) q = absurd (true≢false (sym q))
settling-may b r (Refuse u g mode) q = absurd (true≢false (sym q))
settling-may b r (Finish u effect) q = absurd (true≢false (sym q))
settling-may b r (EndPlain u effect) q = absurd (true≢false (sym q))
settling-may b r (EndSnapshot u at outcome) q = absurd (true≢false (sym q))
settling-may b r (Release u g) q = absurd (true≢false (sym q))
settling-may b r Halt q = absurd (true≢false (sym q))
settling-may b r (Want u g) q = absurd (true≢false (sym q))
settling-may b r (Load g u state) q = λ a. tt

-- Units and lines are as many.
record CountsAlike (w w' : CoreState) : Type 0 where
  next : w'.units.next ≡ w.units.next
  lines : w'.units.lines ≡ w.units.lines

alike-change : (w : CoreState) (e : CoreEvent) (w' : CoreState) → Change w e w' → is_settling e ≡ true → CountsAlike w w'
alike-change w e w' (bad line why q) o = absurd (true≢false (sym o))
alike-change w e w' (begin origin call plain c) o = absurd (true≢false (sym o))
alike-change w e w' (lock v g mode running free first here) o = absurd (true≢false (sym o))
alike-change w e w' (raise v g mode running free held here uncovered) o = absurd (true≢false (sym o))
alike-change w e w' (refuse v g mode why running q) o = absurd (true≢false (sym o))
alike-change w e w' (finish v effect running plain of_call reads alone) o = absurd (true≢false (sym o))
alike-change w e w' (end_plain v effect running plain of_call bare) o = absurd (true≢false (sym o))
alike-change w e w' (end_snapshot v at outcome running plain kids answer) o = absurd (true≢false (sym o))
alike-change w e w' (release v g over held) o = absurd (true≢false (sym o))
alike-change w e w' (take_batch none some) o = record { next = refl; lines = refl }
alike-change w e w' (vote n g kept b q number un planned fresh) o = record { next = refl; lines = refl }
alike-change w e w' (decide_some n b q number un voted some) o = record { next = refl; lines = refl }
alike-change w e w' (decide_none n b q number un voted not_one) o = record { next = refl; lines = refl }
alike-change w e w' (seal_batch n b ds q number un) o = record { next = refl; lines = refl }
alike-change w e w' (spoil_batch n b ds q number un) o = record { next = refl; lines = refl }
alike-change w e w' (doubt_batch n b ds q number un) o = record { next = refl; lines = refl }
alike-change w e w' (learn v g wrote final fresh) o = record { next = refl; lines = refl }
alike-change w e w' (emit q) o = record { next = refl; lines = refl }
alike-change w e w' (halt_run q) o = absurd (true≢false (sym o))
alike-change w e w' (want v g running free fresh) o = absurd (true≢false (sym o))
alike-change w e w' (load g v state gone wanted) o = record { next = refl; lines = refl }

alike-swept : (w w' : CoreState) → CountsAlike w w' → CountsAlike w (swept w')
alike-swept w w' k = go w'.cells.capacity
  where
    go : (c : Option ℕ) → CountsAlike w (swept_by w' c)
    go None = k
    go (Some n) = record { next = k.next; lines = k.lines }

alike-step : (w : CoreState) (e : CoreEvent) → is_settling e ≡ true → CountsAlike w (step w e)
alike-step w e o = cond_both (applies w e) (swept (does w e)) w (CountsAlike w)
    (λ a. alike-swept w (does w e) (alike-change w e (does w e) (decode w e (and_parts (is_allowed w e) (can w e) a).1) o))
    (λ a. record { next = refl; lines = refl })

-- ---- entries of the settler's

-- units and lines are as many, from one run to another
record LeavesCounts (r r' : Run) : Type 0 where
  next : (ends r').units.next ≡ (ends r).units.next
  lines : (ends r').units.lines ≡ (ends r).units.lines

counts-after : (rest : List Told) (r : Run) → AllPass is_settling rest → LeavesCounts r (run_after r rest)
counts-after [] r all = record { next = refl; lines = refl }
counts-after (x ∷ rest) r all =
    let one = alike-step (ends r) x.event (all x (inl refl)) in
    let more = counts-after rest (extended r (x.event ∷ [])) (λ y i. all y (inr i)) in
    let same : ends (extended r (x.event ∷ [])) ≡ step (ends r) x.event = ends-more r x.event in
    record {
      next = more.next ∙ ap (λ (w : CoreState). w.units.next) same ∙ one.next;
      lines = more.lines ∙ ap (λ (w : CoreState). w.units.lines) same ∙ one.lines;
    }

rule-after : (b : Basis) (rest : List Told) (r : Run) → AllPass is_settling rest → KeepsUnitRule b r → KeepsUnitRule b (run_after r rest)
rule-after b [] r all k = k
rule-after b (x ∷ rest) r all k =
    rule-after b rest (extended r (x.event ∷ [])) (λ y i. all y (inr i)) (unit-grows b r x.event k (settling-may b r x.event (all x (inl refl))))

-- ---- the run of one who has the core alone

-- what stands behind one list
same-behind : (xs ys zs : List Told) → xs ++ ys ≡ xs ++ zs → ys ≡ zs
same-behind [] ys zs q = q
same-behind (x ∷ xs) ys zs q = let rest : xs ++ ys ≡ xs ++ zs = cc in same-behind xs ys zs rest

module _ (r r' : Run) (among : SettlesAmong (own_sight r) (own_sight r')) where
  -- all that was seen since was put oneself
  own-all : among.on.rest ≡ among.own
  own-all = same-behind (own_sight r).seen among.on.rest among.own (sym among.on.seen ∙ among.mine)

  -- it is the run before with what was put
  pub run-own : r' ≡ run_after r among.own
  run-own =
      sym (own-run r') ∙ run-sees (own_sight r) (own_sight r') among.on ∙ ap (λ (l : List Told). run_after (run_seen (own_sight r)) l) own-all ∙ ap (λ (x : Run). run_after x among.own) (own-run r)

  pub alone-rule : (b : Basis) → KeepsUnitRule b r → KeepsUnitRule b r'
  alone-rule b k = subst (KeepsUnitRule b) (sym run-own) (rule-after b among.own r among.settling k)

  alone-counts : LeavesCounts r r'
  alone-counts = subst (LeavesCounts r) (sym run-own) (counts-after among.own r among.settling)

-- ---- the same as among others

module _ (tells : Bool) (o : Outset) (b : Books) (shape : Shape) (r : Run) (settler : Settler) (counts : Channel → ℕ) (now : World) (can : CanSettleRest o shape r) where
  -- what is known where it begins
  pub can-alone : AreEven settler.quiet b (ends r) → KeepsBooks tells o b (stage_by r settler counts now) → CanSettleAmong tells o b shape (own_sight r) (side_by settler counts now)
  can-alone even k = record {
    share = record { above = can.above; kinds = can.kinds; shape_is = can.shape_is; accepted = can.accepted; counts = own-counts r };
    going = ap (λ (x : Run). (ends x).units.halt) (own-run r) ∙ can.going;
    even = subst (λ (x : Run). AreEven settler.quiet b (ends x)) (sym (own-run r)) even;
    books = subst (λ (x : Run). KeepsBooks tells o b (stage_by x settler counts now)) (sym (own-run r)) k;
  }

-- what may be relied on, behind steps of its own
pub rely-alone : (o : Outset) (shape : Shape) (r r' : Run) → CanSettleRest o shape r → SettlesAmong (own_sight r) (own_sight r') → MayRely o (own_sight r')
rely-alone o shape r r' can among = let counts = alone-counts r r' among in record {
  alone = own-alone is_work r';
  units = subst (KeepsUnitRule (basis_of o)) (sym (own-run r')) (alone-rule r r' among (basis_of o) can.units);
  few = subst (λ (x : Run). (ends x).units.next ≤ 2 ^ 63) (sym (own-run r')) (subst (λ (n : ℕ). n ≤ 2 ^ 63) (sym counts.next) can.few);
  small = subst (λ (x : Run). (ends x).units.lines < 2 ^ 32) (sym (own-run r')) (subst (λ (n : ℕ). n < 2 ^ 32) (sym counts.lines) can.small);
}

module _ {T : Type 0} (tells : Bool) (r r' : Run) (settler settler' : Settler) (counts counts' : Channel → ℕ) (now now' : World) (answer : Result T RunFault) where
  -- the books of the core's run
  pub settled-alone : (o : Outset) (b : Books) → SettledAmong {T = T} tells o b (stage_by (run_seen (own_sight r)) settler counts now) (stage_by (run_seen (own_sight r')) settler' counts' now') answer
      → SettledAmong {T = T} tells o b (stage_by r settler counts now) (stage_by r' settler' counts' now') answer
  settled-alone o b g =
      subst (λ (x : Run). SettledAmong {T = T} tells o b (stage_by x settler counts now) (stage_by r' settler' counts' now') answer) (own-run r)
      (subst (λ (x : Run). SettledAmong {T = T} tells o b (stage_by (run_seen (own_sight r)) settler counts now) (stage_by x settler' counts' now') answer) (own-run r') g)

  pub beside-alone : TurnsBeside {T = T} tells (stage_by (run_seen (own_sight r)) settler counts now) (stage_by (run_seen (own_sight r')) settler' counts' now') answer
      → TurnsBeside {T = T} tells (stage_by r settler counts now) (stage_by r' settler' counts' now') answer
  beside-alone g =
      subst (λ (x : Run). TurnsBeside {T = T} tells (stage_by x settler counts now) (stage_by r' settler' counts' now') answer) (own-run r)
      (subst (λ (x : Run). TurnsBeside {T = T} tells (stage_by (run_seen (own_sight r)) settler counts now) (stage_by x settler' counts' now') answer) (own-run r') g)
