-- Whether what a unit says that it did is what it did: by what is kept, and in the model.
use Rattle.std.proofs.Common.{◌≡◌, suc, ◌<◌, ◌≤◌, List, [], ◌∷◌, Bool, true, false, ◌&&◌, not, ◌⊎◌, inl, inr, refl, sym, ap, ◌∙◌, subst, arith, Option, Some, None, length}
use Rattle.std.specs.Prelude.{is_some, if◌then◌else◌}
use Rattle.std.specs.List.{list_all as all}
use Rattle.base_types.specs.declared.calls.Outcome.TheVariants.{Aborted as aborted}
use Rattle.core_model.specs.CoreState.{UnitNo, Member, Outcome, Units, same_unit, CoreState}
use Rattle.core_model.specs.declared.effects.Effect.{Effect}
use Rattle.core_model.specs.Equality.{same_origin, same_call, same_reads, same_outcome}
use Rattle.core_model.specs.Tests.{is_answer, is_empty, is_running, answered_by, outcome_of, outcome_in}
use Rattle.core_model.specs.Events.{can_finish, can_end_plain, can_end_snapshot}
use Rattle.rw_locks.specs.LockView.{holds_alone}
use Rattle.cell_table.specs.Table.{cell_in}
use Rattle.unit_table.specs.KnownUnits.{KnownUnit}
use Rattle.unit_table.specs.Table.{known_in, first_in, past_in, phase_in, kids_in, outcome_known}
use Rattle.unit_table.proofs.RunningUnits.{running-late, later-kept}
use Rattle.history_core.specs.declared.parts.Parts.{Parts}
use Rattle.history_core.specs.Effects.{answered_in, outcome_kept, is_of_call_in, finishes_as, ends_as_plain, ends_as_snapshot}
use Rattle.history_core.specs.KeptParts.{PartsStand, IsCoreReached}
use Rattle.history_core.proofs.CoreStates.{younger}
use Rattle.history_core.proofs.MemoryCells.{holds-is}

answered-of : (w : CoreState) (ks : List UnitNo) (os : List Outcome) → answered_in (outcome_of w) ks os ≡ answered_by w ks os
answered-of w [] [] = refl
answered-of w (k ∷ ks) (a ∷ rest) = ap (λ b. is_answer (outcome_of w k) a && b) (answered-of w ks rest)
answered-of w [] (a ∷ rest) = refl
answered-of w (k ∷ ks) [] = refl

answered-is : (p : Parts) (w : CoreState) (ks : List UnitNo) (os : List Outcome) → PartsStand p w → answered_in (outcome_known p.units) ks os ≡ answered_by w ks os
answered-is p w ks os s = (λ i. answered_in (λ u. outcome_in ((sym s.units i).phase u) (sym s.verdict i u) (sym s.result i u)) ks os) ∙ answered-of w ks os

-- what is known of these units alone counts
answered-same : (f g : UnitNo → Option Outcome) (ks : List UnitNo) (os : List Outcome) → ((k : UnitNo) → Member k ks → f k ≡ g k) → answered_in f ks os ≡ answered_in g ks os
answered-same f g [] [] same = refl
answered-same f g (k ∷ ks) (a ∷ rest) same = λ i. is_answer (same k (inl refl) i) a && answered-same f g ks rest (λ x m. same x (inr m)) i
answered-same f g [] (a ∷ rest) same = refl
answered-same f g (k ∷ ks) [] same = refl

-- the children of a unit that runs keep their results
kids-kept : (p : Parts) (w : CoreState) (u k : UnitNo) → PartsStand p w → IsCoreReached w → is_running (phase_in p.units u) ≡ true → Member k (kids_in p.units u) → past_in p.units k ≡ None
kids-kept p w u k s r runs kid =
    let first : first_in p.units ≤ u.0 = running-late p.units u runs in
    let behind : u.0 < k.0 = younger w r u k (subst (λ (us : Units). Member k (us.kids u)) (sym s.units) kid) in
    later-kept p.units k (omega (arith, first, behind))

-- so their outcomes are
kids-known : (p : Parts) (w : CoreState) (u : UnitNo) (os : List Outcome) → PartsStand p w → IsCoreReached w → is_running (phase_in p.units u) ≡ true →
    answered_in (outcome_kept p.units) (kids_in p.units u) os ≡ answered_in (outcome_known p.units) (kids_in p.units u) os
kids-known p w u os s r runs =
    answered-same (outcome_kept p.units) (outcome_known p.units) (kids_in p.units u) os
    (λ k m. ap (λ o. if is_some o then None else outcome_known p.units k) (kids-kept p w u k s r runs m))

-- where the first test fails the others don't count
when-first : (a c : Bool) (f : Bool → Bool) (x y : Bool) → (a ≡ true → x ≡ y) → ((a && c) && f x) ≡ ((a && c) && f y)
when-first true c f x y same = ap (λ t. (true && c) && f t) (same refl)
when-first false c f x y same = refl

-- as many answers as children
pub answered-each : (known : UnitNo → Option Outcome) (ks : List UnitNo) (os : List Outcome) → (length ks ≡ length os → ⊥) → false ≡ answered_in known ks os
answered-each known [] [] n = absurd (n refl)
answered-each known (k ∷ ks) (a ∷ rest) n = go (is_answer (known k) a) (answered-each known ks rest (λ e. n (ap suc e)))
  where
    go : (b : Bool) → false ≡ answered_in known ks rest → false ≡ (b && answered_in known ks rest)
    go true e = e
    go false e = refl
answered-each known [] (a ∷ rest) n = refl
answered-each known (k ∷ ks) [] n = refl

-- a unit that doesn't run has no effect
false-and : (a b c : Bool) → a ≡ false → false ≡ ((a && b) && c)
false-and true b c e = cc
false-and false b c e = refl

pub finishes-not : (p : Parts) (u : UnitNo) (e : Effect) (k : KnownUnit) → is_running k.phase ≡ false → false ≡ finishes_as p u e k
finishes-not p u e k n = false-and (is_running k.phase) (not k.plain) (is_of_call_in p u e k && (same_reads e.reads k.reads && all (λ t. holds_alone u (cell_in p.cells t.0).holds) e.writes)) n

pub plain-not : (p : Parts) (u : UnitNo) (e : Effect) (k : KnownUnit) → is_running k.phase ≡ false → false ≡ ends_as_plain p u e k
plain-not p u e k n = false-and (is_running k.phase) k.plain (is_of_call_in p u e k && (is_empty e.reads && is_empty e.writes)) n

pub snapshot-not : (o : Outcome) (k : KnownUnit) → is_running k.phase ≡ false → false ≡ ends_as_snapshot o k
snapshot-not o k n = false-and (is_running k.phase) k.plain (is_empty k.kids && not (same_outcome o aborted)) n

pub can-finish-is : (p : Parts) (w : CoreState) (u : UnitNo) (e : Effect) → PartsStand p w → IsCoreReached w → finishes_as p u e (known_in p.units u) ≡ can_finish w u e
can-finish-is p w u e s r =
    let k : KnownUnit = known_in p.units u in
    when-first (is_running k.phase) (not k.plain)
    (λ b. (same_unit e.unit u && (same_origin e.origin k.origin && (same_call e.call k.call && b))) && (same_reads e.reads k.reads && all (λ t. holds_alone u (cell_in p.cells t.0).holds) e.writes))
    (answered_in (outcome_kept p.units) k.kids e.answers) (answered_in (outcome_known p.units) k.kids e.answers) (kids-known p w u e.answers s r)
    ∙ (λ i.
    (is_running ((sym s.units i).phase u) && not ((sym s.units i).plain u))
    && ((same_unit e.unit u && (same_origin e.origin ((sym s.units i).origin u) && (same_call e.call ((sym s.units i).call u) && answered-is p w ((sym s.units i).kids u) e.answers s i)))
    && (same_reads e.reads ((sym s.units i).reads u) && all (λ t. holds_alone u (sym (holds-is p.cells w.cells s.cells) i t.0)) e.writes)))

pub can-plain-is : (p : Parts) (w : CoreState) (u : UnitNo) (e : Effect) → PartsStand p w → IsCoreReached w → ends_as_plain p u e (known_in p.units u) ≡ can_end_plain w u e
can-plain-is p w u e s r =
    let k : KnownUnit = known_in p.units u in
    when-first (is_running k.phase) k.plain
    (λ b. (same_unit e.unit u && (same_origin e.origin k.origin && (same_call e.call k.call && b))) && (is_empty e.reads && is_empty e.writes))
    (answered_in (outcome_kept p.units) k.kids e.answers) (answered_in (outcome_known p.units) k.kids e.answers) (kids-known p w u e.answers s r)
    ∙ (λ i.
    (is_running ((sym s.units i).phase u) && (sym s.units i).plain u)
    && ((same_unit e.unit u && (same_origin e.origin ((sym s.units i).origin u) && (same_call e.call ((sym s.units i).call u) && answered-is p w ((sym s.units i).kids u) e.answers s i)))
    && (is_empty e.reads && is_empty e.writes)))

pub can-snapshot-is : (p : Parts) (w : CoreState) (u : UnitNo) (o : Outcome) → PartsStand p w → ends_as_snapshot o (known_in p.units u) ≡ can_end_snapshot w u o
can-snapshot-is p w u o s = λ i.
    (is_running ((sym s.units i).phase u) && (sym s.units i).plain u) && (is_empty ((sym s.units i).kids u) && not (same_outcome o aborted))
