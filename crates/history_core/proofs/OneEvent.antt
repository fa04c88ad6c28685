-- A state after one event more.
use Rattle.std.proofs.Common.{◌≡◌, ℕ, List, [], ◌∷◌, ◌++◌, Bool, true, false, ◌&&◌, ◌||◌, not, refl, sym, ap, ◌∙◌, subst, Option, Some, None, is_some, is_none}
use Rattle.std.specs.Prelude.{if◌then◌else◌, ◌<◌}
use Rattle.std.proofs.lemmas.Bool.{cond-true, cond-false, and_parts}
use Rattle.core_model.specs.CoreState.{CoreState}
use Rattle.core_model.specs.Changes.{swept}
use Rattle.core_model.specs.Events.{applies, can, is_allowed, is_after_doubt, is_after_halt, reply_to, reply_with, reply_without, does, step, run, start}
use Rattle.core_model.specs.declared.events.CoreEvent.{CoreEvent}
use Rattle.core_model.specs.declared.events.CoreReply.{CoreReply}
use Rattle.core_model.specs.LegalRuns.{Run, ends}
use Rattle.cell_table.specs.Table.{opens_with}
use Rattle.history_core.specs.declared.parts.Parts.{Parts}
use Rattle.history_core.specs.KeptParts.{PartsStand, IsCoreReached, StandsForReached}
use Rattle.history_core.specs.Steps.{KeepsMeaning, Tells, Does, Takes, is_going}
use Rattle.history_core.specs.Histories.{run_with}

pub run-last : (w : CoreState) (es : List CoreEvent) (e : CoreEvent) → run w (es ++ e ∷ []) ≡ step (run w es) e
run-last w [] e = refl
run-last w (x ∷ es) e = run-last (step w x) es e

applied : (p : Parts) (w : CoreState) (e : CoreEvent) → applies w e ≡ true → PartsStand p (swept (does w e)) → PartsStand p (step w e)
applied p w e a s = subst (PartsStand p) (sym (cond-true (applies w e) (swept (does w e)) w a)) s

unapplied : (p : Parts) (w : CoreState) (e : CoreEvent) → applies w e ≡ false → PartsStand p w → PartsStand p (step w e)
unapplied p w e a s = subst (PartsStand p) (sym (cond-false (applies w e) (swept (does w e)) w a)) s

-- an event that applies
pub takes-done : (p q : Parts) (e : CoreEvent) (told : Bool) (reply : CoreReply) → Tells p e told → told ≡ true → Does p e reply q → Takes p e reply q
takes-done p q e told reply t here d = λ w s r. (let a = sym (t w s r) ∙ here in let now = d w s r a in
    (applied q w e a now.0, now.1 ∙ sym (cond-true (applies w e) (reply_with w e) (reply_without w e) a)))

-- one that doesn't
pub takes-not : (p : Parts) (e : CoreEvent) (told : Bool) (reply : CoreReply) → Tells p e told → told ≡ false →
    ((w : CoreState) → PartsStand p w → IsCoreReached w → applies w e ≡ false → reply ≡ reply_without w e) → Takes p e reply p
takes-not p e told reply t gone d = λ w s r. (let a = sym (t w s r) ∙ gone in
    (unapplied p w e a s, d w s r a ∙ sym (cond-false (applies w e) (reply_with w e) (reply_without w e) a)))

-- what stands for the state after one event more stands for that of the longer run
pub stands-after : (p p' : Parts) (base kinds : ℕ) (es es' : List CoreEvent) (e : CoreEvent) → opens_with p'.cells ≡ opens_with p.cells → es' ≡ es ++ e ∷ [] →
    PartsStand p' (step (ends (run_with base kinds p.cells es)) e) → PartsStand p' (ends (run_with base kinds p'.cells es'))
stands-after p p' base kinds es es' e o h s =
    subst (PartsStand p') (sym ((λ i. run (start base kinds (o i).limit (o i).states) (h i)) ∙ run-last (start base kinds (opens_with p.cells).limit (opens_with p.cells).states) es e)) s

pub stands-before : (p p' : Parts) (base kinds : ℕ) (es : List CoreEvent) → opens_with p'.cells ≡ opens_with p.cells →
    PartsStand p' (ends (run_with base kinds p.cells es)) → PartsStand p' (ends (run_with base kinds p'.cells es))
stands-before p p' base kinds es o s = subst (PartsStand p') (sym (λ i. run (start base kinds (o i).limit (o i).states) es)) s

pub reached-core : (p : Parts) (base kinds : ℕ) (es : List CoreEvent) → 0 < base → IsCoreReached (ends (run_with base kinds p.cells es))
reached-core p base kinds es above = (run_with base kinds p.cells es, above, refl)

-- ---- stops

or-false : (a : Bool) → (a || false) ≡ a
or-false true = refl
or-false false = refl

or-true : (a : Bool) → (a || true) ≡ true
or-true true = refl
or-true false = refl

pub none-not : {A : Type 0} (o : Option A) → not (is_some o) ≡ is_none o
none-not None = refl
none-not (Some x) = refl

allowed-by : (w : CoreState) (e : CoreEvent) (a b : Bool) → is_after_doubt e ≡ a → is_after_halt e ≡ b → is_allowed w e ≡ ((is_none w.manager.doubt || a) && (not w.units.halt || b))
allowed-by w e a b x y = λ i. (is_none w.manager.doubt || x i) && (not w.units.halt || y i)

-- most events apply where no stop stands
pub allowed-going : (w : CoreState) (e : CoreEvent) → is_after_doubt e ≡ false → is_after_halt e ≡ false → is_allowed w e ≡ is_going w
allowed-going w e x y = allowed-by w e false false x y ∙ (λ i. or-false (is_none w.manager.doubt) i && or-false (not w.units.halt) i)

-- the answers of a seal come after a halt too
pub allowed-answer : (w : CoreState) (e : CoreEvent) → is_after_doubt e ≡ false → is_after_halt e ≡ true → is_allowed w e ≡ is_none w.manager.doubt
allowed-answer w e x y = allowed-by w e false true x y ∙ (λ i. or-false (is_none w.manager.doubt) i && or-true (not w.units.halt) i) ∙ and-true (is_none w.manager.doubt)
  where
    and-true : (a : Bool) → (a && true) ≡ a
    and-true true = refl
    and-true false = refl

-- a release and a written entry come after any stop
pub allowed-always : (w : CoreState) (e : CoreEvent) → is_after_doubt e ≡ true → is_after_halt e ≡ true → is_allowed w e ≡ true
allowed-always w e x y = allowed-by w e true true x y ∙ (λ i. or-true (is_none w.manager.doubt) i && or-true (not w.units.halt) i)

-- the test of an event, by the stop and by what it needs
pub tells-going : (p : Parts) (e : CoreEvent) (going here : Bool) → is_after_doubt e ≡ false → is_after_halt e ≡ false →
    ((w : CoreState) → PartsStand p w → going ≡ is_going w) → ((w : CoreState) → PartsStand p w → IsCoreReached w → here ≡ can w e) → Tells p e (going && here)
tells-going p e going here x y g h = λ w s r. (let one : going ≡ is_allowed w e = g w s ∙ sym (allowed-going w e x y) in let two = h w s r in λ i. one i && two i)

pub tells-answer : (p : Parts) (e : CoreEvent) (free here : Bool) → is_after_doubt e ≡ false → is_after_halt e ≡ true →
    ((w : CoreState) → PartsStand p w → free ≡ is_none w.manager.doubt) → ((w : CoreState) → PartsStand p w → IsCoreReached w → here ≡ can w e) → Tells p e (free && here)
tells-answer p e free here x y g h = λ w s r. (let one : free ≡ is_allowed w e = g w s ∙ sym (allowed-answer w e x y) in let two = h w s r in λ i. one i && two i)

pub tells-always : (p : Parts) (e : CoreEvent) (here : Bool) → is_after_doubt e ≡ true → is_after_halt e ≡ true →
    ((w : CoreState) → PartsStand p w → IsCoreReached w → here ≡ can w e) → Tells p e here
tells-always p e here x y h = λ w s r. h w s r ∙ (λ i. sym (allowed-always w e x y) i && can w e)

-- what an event that applies needs
pub can-is : (w : CoreState) (e : CoreEvent) → applies w e ≡ true → can w e ≡ true
can-is w e a = (and_parts (is_allowed w e) (can w e) a).1

pub allowed-is : (w : CoreState) (e : CoreEvent) → applies w e ≡ true → is_allowed w e ≡ true
allowed-is w e a = (and_parts (is_allowed w e) (can w e) a).0
