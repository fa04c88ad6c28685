-- A line's unit, as it begins.
use Rattle.std.proofs.Common.{◌≡◌, ℕ, List, Bool, true, false, true≢false, refl, sym, ap, ◌∙◌, subst, Option, Some, None, Ok, Err}
use Rattle.std.specs.Prelude.{◌↔◌, not, slice_get, Result}
use Rattle.std.proofs.lemmas.Bool.{cond_both}
use Rattle.base_types.specs.declared.calls.Call.{Call}
use Rattle.base_types.specs.declared.entries.BadRequest.{BadRequest}
use Rattle.base_types.specs.declared.calls.Origin.TheVariants.{Line as OfLine}
use Rattle.core_model.specs.CoreState.{UnitNo, CoreState}
use Rattle.core_model.specs.Events.{applies, reply_to, reply_with, reply_without}
use Rattle.core_model.specs.LegalRuns.{ends}
use Rattle.core_model.specs.declared.events.CoreEvent.{CoreEvent}
use Rattle.core_model.specs.declared.events.CoreEvent.TheVariants.{Bad, Begin}
use Rattle.core_model.specs.declared.events.CoreReply.{CoreReply}
use Rattle.core_model.specs.declared.events.CoreReply.TheVariants as reply
use Rattle.core_access.specs.Sights.{Sight, Tells, run_seen, saw}
use Rattle.script_tree.specs.Programs.{ProgramTree}
use Rattle.script_tree.specs.Options.{entered}
use Rattle.script_tree.specs.declared.options.Entered.{Entered}
use Rattle.script_tree.specs.declared.options.Entered.TheVariants.{Joined, NewUnit, Plain, Refused}
use Rattle.script_meaning.specs.Calls.{Target, numbered}
use Rattle.script_meaning.specs.Play.{IsTransaction}
use Rattle.txn_agent.specs.declared.agent.Agent.{Agent}
use Rattle.txn_agent.specs.Replies.{began_by}
use Rattle.unit_carrier.specs.CarriedUnits.{AreCarried, CarriesOneMore, units_carried}
use Rattle.unit_carrier.specs.Lines.{BeginsOn, CarriesBegun, PutsLine, StartsCall, StartsLine, is_new_unit, makes_unit, with_begun}
use Rattle.unit_carrier.proofs.Places.{begins-carried, carries-units, tells-carried}

-- ---- which calls make a transaction

-- a way to enter that passes the test
new-unit : (x : Entered) → is_new_unit x ≡ true → x ≡ NewUnit
new-unit NewUnit e = refl
new-unit Joined e = absurd (true≢false (sym e))
new-unit (Plain context) e = absurd (true≢false (sym e))
new-unit (Refused why) e = absurd (true≢false (sym e))

-- the method is there, and enters so
has-target : (t : Option Target) → makes_unit t ≡ true → (target : Target) × (t ≡ Some target) × (entered target.method.option false ≡ NewUnit)
has-target None e = absurd (true≢false (sym e))
has-target (Some target) e = (target, refl, new-unit (entered target.method.option false) e)

-- the test tells them
pub makes-transaction : (types : ProgramTree) (call : Call) (b : Bool) → b ≡ makes_unit (numbered (slice_get types call.grain.kind) call.method) → (not b ≡ false) ↔ IsTransaction types call
makes-transaction types call b e = (
  (λ plain. has-target (numbered (slice_get types call.grain.kind) call.method) (sym e ∙ turned b plain)),
  (λ t. ap not (e ∙ ap makes_unit t.1 ∙ ap is_new_unit t.2)),
)
  where
    turned : (x : Bool) → not x ≡ false → x ≡ true
    turned true q = refl
    turned false q = absurd (true≢false q)

-- so a plain run is of another
pub plain-makes-none : (types : ProgramTree) (call : Call) (plain : Bool) → (plain ≡ false) ↔ IsTransaction types call → plain ≡ true → IsTransaction types call → ⊥
plain-makes-none types call plain same p t = absurd (true≢false (sym p ∙ same.1 t))

-- ---- what the core replied

-- a reply with a unit is that it began
pub began-is : (r : CoreReply) (u : UnitNo) → began_by r ≡ Some u → r ≡ reply.Began u
began-is (reply.Began v) u e = let q : v ≡ u = cc in ap (λ (x : UnitNo). reply.Began x) q
began-is reply.Unapplied u e = absurd cc
began-is reply.Done u e = absurd cc
began-is (reply.Granted state source) u e = absurd cc
began-is (reply.NotGranted why) u e = absurd cc
began-is (reply.Doomed source) u e = absurd cc
began-is reply.NotActive u e = absurd cc
began-is (reply.Taken n) u e = absurd cc
began-is (reply.Decided n) u e = absurd cc
began-is reply.NotLoaded u e = absurd cc

-- no unit begins by a bad line
pub bad-none : (w : CoreState) (line : ℕ) (why : BadRequest) (r : CoreReply) → r ≡ reply_to w (Bad line why) → None ≡ began_by r
bad-none w line why r e = sym (ap began_by e ∙ cond_both (applies w (Bad line why)) (reply_with w (Bad line why)) (reply_without w (Bad line why)) (λ (x : CoreReply). began_by x ≡ None) (λ a. refl) (λ a. refl))

-- ---- a line's call that was put

module _ (types : ProgramTree) (may : CoreEvent → Bool) (s t : Sight) (line : ℕ) (call asked : Call) (same : asked ≡ call) (plain : Bool) (of_kind : (plain ≡ false) ↔ IsTransaction types call)
    (r : CoreReply) (told : Tells may s (Begin (OfLine line) asked plain) r t) where
  -- it is the line's event
  pub puts-call : PutsLine may types line (Ok call) s t r
  puts-call = record {
    e = Begin (OfLine line) asked plain;
    is = (plain, ap (λ (c : Call). Begin (OfLine line) c plain) same, of_kind);
    told = told;
  }

  -- a unit that began is carried too
  pub starts-call : (began : Option UnitNo) → began ≡ began_by r → (before after : List Agent) → CarriesBegun types line call plain before after began → StartsCall may types line call s t before after began
  starts-call began is before after k = record {
    plain = plain;
    of_kind = of_kind;
    r = r;
    told = subst (λ (c : Call). Tells may s (Begin (OfLine line) c plain) r t) same told;
    is = is;
    carries = k;
  }

-- it is carried as the run of the line's call
pub carries-call : (types : ProgramTree) (unit : UnitNo) (line : ℕ) (call carried : Call) (plain : Bool) (before after : List Agent) → carried ≡ call
    → CarriesOneMore types unit (OfLine line) carried plain before after → CarriesOneMore types unit (OfLine line) call plain before after
carries-call types unit line call carried plain before after same k = subst (λ (c : Call). CarriesOneMore types unit (OfLine line) c plain before after) same k

-- ---- over a core that one has alone

module _ (types : ProgramTree) (may : CoreEvent → Bool) (s t : Sight) (line : ℕ) (before : List Agent) where
  -- the event of a call was put
  call-begins : (call : Call) (after : List Agent) (began : Option UnitNo) (x : StartsCall may types line call s t before after began) → (b : Option UnitNo) → began ≡ b
      → CarriesBegun types line call x.plain before after b → BeginsOn may types line (Ok call) s t (units_carried before) (units_carried after) began
  call-begins call after began x None q k = record {
    r = x.r;
    put = puts-call types may s t line call call refl x.plain x.of_kind x.r x.told;
    is = x.is;
    units = ap (λ (l : List Agent). units_carried l) k ∙ sym (ap (with_begun (units_carried before)) q);
  }
  call-begins call after began x (Some unit) q k = record {
    r = x.r;
    put = puts-call types may s t line call call refl x.plain x.of_kind x.r x.told;
    is = x.is;
    units = carries-units types unit (OfLine line) call x.plain before after k ∙ sym (ap (with_begun (units_carried before)) q);
  }

  -- a line's event was put
  pub line-begins : (what : Result Call BadRequest) (after : List Agent) (began : Option UnitNo) → StartsLine may types line what s t before after began
      → BeginsOn may types line what s t (units_carried before) (units_carried after) began
  line-begins (Ok call) after began x = call-begins call after began x began refl x.carries
  line-begins (Err why) after began x = record {
    r = x.r;
    put = record { e = Bad line why; is = refl; told = x.told };
    is = x.is ∙ bad-none (ends (run_seen (saw s x.told.rest))) line why x.r x.told.reply;
    units = ap (λ (l : List Agent). units_carried l) x.same ∙ sym (ap (with_begun (units_carried before)) x.is);
  }

  -- what is known of all stays, with a unit that began
  call-carried : (call : Call) (after : List Agent) (began : Option UnitNo) (x : StartsCall may types line call s t before after began) → (b : Option UnitNo) → began ≡ b
      → CarriesBegun types line call x.plain before after b → AreCarried types may s before → AreCarried types may t after
  call-carried call after began x None q k c =
      subst (AreCarried types may t) (sym k) (tells-carried types may s t (Begin (OfLine line) call x.plain) x.r before x.told (λ u. refl) c)
  call-carried call after began x (Some unit) q k c =
      begins-carried types may s t (OfLine line) call x.plain unit before after
      (subst (λ (z : CoreReply). Tells may s (Begin (OfLine line) call x.plain) z t) (began-is x.r unit (sym x.is ∙ q)) x.told)
      (plain-makes-none types call x.plain x.of_kind) c.holds c.below
      (tells-carried types may s t (Begin (OfLine line) call x.plain) x.r before x.told (λ u. refl) c) k

  pub line-carried : (what : Result Call BadRequest) (after : List Agent) (began : Option UnitNo) → StartsLine may types line what s t before after began
      → AreCarried types may s before → AreCarried types may t after
  line-carried (Ok call) after began x c = call-carried call after began x began refl x.carries c
  line-carried (Err why) after began x c =
      subst (AreCarried types may t) (sym x.same) (tells-carried types may s t (Bad line why) x.r before x.told (λ u. refl) c)
