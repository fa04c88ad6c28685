-- What an event leaves of the numbers of units and lines, and of whom it is.
use Rattle.std.proofs.Common.{◌≡◌, ℕ, ◌+◌, Option, Some, None, Bool, true, false, inl, inr, refl, sym, ap, ◌∙◌, arith}
use Rattle.std.specs.Prelude.{◌==◌}
use Rattle.base_types.specs.declared.entries.BadRequest.{BadRequest}
use Rattle.std.proofs.lemmas.Bool.{cond-true, cond_both, and_parts, cases_Bool}
use Rattle.base_types.specs.declared.calls.Origin.TheVariants.{Line, Child}
use Rattle.core_model.specs.CoreState.{UnitNo, Call, Origin, CoreState}
use Rattle.core_model.specs.declared.events.CoreEvent.{CoreEvent}
use Rattle.core_model.specs.declared.events.CoreEvent.TheVariants.{Bad, Begin, Take, Vote, Decide, Sealed, NotSealed, Doubt, Learn, Emitted, Halt, Load}
use Rattle.core_model.specs.declared.events.CoreReply.TheVariants.{Done, Began}
use Rattle.core_model.specs.Changes.{swept, swept_by, new_unit}
use Rattle.core_laws.proofs.EventCases.{Change, bad, begin, lock, raise, refuse, finish, end_plain, end_snapshot, release, take_batch, vote, decide_some, decide_none, seal_batch, spoil_batch, doubt_batch, learn, emit, halt_run, want, load, decode}
use Rattle.core_model.specs.Events.{applies, can, does, is_allowed, step, reply_to, reply_with, reply_without}
use Rattle.core_access.specs.SettlerEvents.{is_settling}
use Rattle.promise_spec.specs.TurnRule.{OfLine, OfUnit, OfSettler, mover_of}
use Rattle.turn_rules.specs.NextEvent.{is_begin}

-- no line is taken by an event that isn't a line's
lines-change : (w : CoreState) (e : CoreEvent) (w' : CoreState) → Change w e w' → (mover_of e ≡ OfLine → ⊥) → w'.units.lines ≡ w.units.lines
lines-change w e w' (bad line why q) o = absurd (o refl)
lines-change w e w' (begin (Line n) call plain c) o = absurd (o refl)
lines-change w e w' (begin (Child p i d) call plain c) o = refl
lines-change w e w' (lock v g mode running free first here) o = refl
lines-change w e w' (raise v g mode running free held here uncovered) o = refl
lines-change w e w' (refuse v g mode why running q) o = refl
lines-change w e w' (finish v effect running plain of_call reads alone) o = refl
lines-change w e w' (end_plain v effect running plain of_call bare) o = refl
lines-change w e w' (end_snapshot v at outcome running plain kids answer) o = refl
lines-change w e w' (release v g over held) o = refl
lines-change w e w' (take_batch n some) o = refl
lines-change w e w' (vote n g kept b q number un planned fresh) o = refl
lines-change w e w' (decide_some n b q number un voted some) o = refl
lines-change w e w' (decide_none n b q number un voted not_one) o = refl
lines-change w e w' (seal_batch n b ds q number un) o = refl
lines-change w e w' (spoil_batch n b ds q number un) o = refl
lines-change w e w' (doubt_batch n b ds q number un) o = refl
lines-change w e w' (learn v g wrote final fresh) o = refl
lines-change w e w' (emit q) o = refl
lines-change w e w' (halt_run q) o = refl
lines-change w e w' (want v g running free fresh) o = refl
lines-change w e w' (load g v state gone wanted) o = refl

lines-swept : (w : CoreState) → (swept w).units.lines ≡ w.units.lines
lines-swept w = go w.cells.capacity
  where
    go : (c : Option ℕ) → (swept_by w c).units.lines ≡ w.units.lines
    go None = refl
    go (Some m) = refl

pub lines-stay : (w : CoreState) (e : CoreEvent) → (mover_of e ≡ OfLine → ⊥) → (step w e).units.lines ≡ w.units.lines
lines-stay w e o = cond_both (applies w e) (swept (does w e)) w (λ (x : CoreState). x.units.lines ≡ w.units.lines)
    (λ a. lines-swept (does w e) ∙ lines-change w e (does w e) (decode w e (and_parts (is_allowed w e) (can w e) a).1) o)
    (λ a. refl)

-- a line's event takes the next
pub lines-begun : (w : CoreState) (n : ℕ) (call : Call) (plain : Bool) → applies w (Begin (Line n) call plain) ≡ true → (step w (Begin (Line n) call plain)).units.lines ≡ w.units.lines + 1
lines-begun w n call plain a =
    ap (λ (x : CoreState). x.units.lines) (cond-true (applies w (Begin (Line n) call plain)) (swept (does w (Begin (Line n) call plain))) w a) ∙ lines-swept (does w (Begin (Line n) call plain))

-- whose event it is
pub unit-others : (u : UnitNo) (e : CoreEvent) → mover_of e ≡ OfUnit u → is_settling e ≡ false
unit-others u Take q = absurd cc
unit-others u (Vote n g kept) q = absurd cc
unit-others u (Decide n) q = absurd cc
unit-others u (Sealed n) q = absurd cc
unit-others u (NotSealed n) q = absurd cc
unit-others u (Doubt n) q = absurd cc
unit-others u (Learn v g) q = absurd cc
unit-others u Emitted q = absurd cc
unit-others u (Load g v state) q = absurd cc
unit-others u _ q = refl

pub unit-no-halt : (u : UnitNo) (e : CoreEvent) → mover_of e ≡ OfUnit u → e ≡ Halt → ⊥
unit-no-halt u e q h = let t : OfSettler ≡ OfUnit u = sym (ap mover_of h) ∙ q in absurd (apart t)
  where
    apart : OfSettler ≡ OfUnit u → ⊥
    apart t = absurd cc

pub unit-no-line : (u : UnitNo) (e : CoreEvent) → mover_of e ≡ OfUnit u → mover_of e ≡ OfLine → ⊥
unit-no-line u e q h = apart (sym h ∙ q)
  where
    apart : OfLine ≡ OfUnit u → ⊥
    apart t = absurd cc

pub settler-no-line : (e : CoreEvent) → mover_of e ≡ OfSettler → mover_of e ≡ OfLine → ⊥
settler-no-line e q h = apart (sym h ∙ q)
  where
    apart : OfLine ≡ OfSettler → ⊥
    apart t = absurd cc

-- a begin is answered by the unit
pub done-begins-none : (w : CoreState) (e : CoreEvent) → applies w e ≡ true → Done ≡ reply_to w e → is_begin e ≡ false
done-begins-none w (Begin origin call plain) a q =
    absurd (apart (q ∙ cond-true (applies w (Begin origin call plain)) (reply_with w (Begin origin call plain)) (reply_without w (Begin origin call plain)) a))
  where
    apart : Done ≡ Began (new_unit w) → ⊥
    apart t = absurd cc
done-begins-none w _ a q = refl

pub began-is-new : (w : CoreState) (origin : Origin) (call : Call) (plain : Bool) (u : UnitNo) → applies w (Begin origin call plain) ≡ true → Began u ≡ reply_to w (Begin origin call plain) → u ≡ new_unit w
began-is-new w origin call plain u a q =
    same (q ∙ cond-true (applies w (Begin origin call plain)) (reply_with w (Begin origin call plain)) (reply_without w (Begin origin call plain)) a)
  where
    same : Began u ≡ Began (new_unit w) → u ≡ new_unit w
    same t = cc

pub lines-bad : (w : CoreState) (n : ℕ) (why : BadRequest) → applies w (Bad n why) ≡ true → (step w (Bad n why)).units.lines ≡ w.units.lines + 1
lines-bad w n why a =
    ap (λ (x : CoreState). x.units.lines) (cond-true (applies w (Bad n why)) (swept (does w (Bad n why))) w a) ∙ lines-swept (does w (Bad n why))

pub same-number : (a b : ℕ) → a ≡ b → (a == b) ≡ true
same-number a b q = elim (cases_Bool (a == b)) [ inl t ↦ t | inr f ↦ search (arith, q, f) ]
