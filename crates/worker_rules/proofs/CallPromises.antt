-- Calls of an access, and a promise of the own entries.
use Rattle.std.proofs.Common.{◌≡◌, ◌⊎◌, ⊎_elim, inl, inr, List, [], ◌∷◌, ◌++◌, Bool, true, false, true≢false, refl, sym, ap, ◌∙◌, subst}
use Rattle.std.specs.Prelude.{not}
use Rattle.base_types.specs.Lists.{Member}
use Rattle.core_model.specs.CoreState.{UnitNo}
use Rattle.core_model.specs.declared.events.CoreEvent.{CoreEvent}
use Rattle.core_model.specs.declared.events.CoreEvent.TheVariants.{Bad, Begin, Grant, Refuse, Finish, EndPlain, EndSnapshot, Release, Take, Vote, Decide, Sealed, NotSealed, Doubt, Learn, Emitted, Halt, Want, Load}
use Rattle.core_model.specs.declared.events.CoreReply.{CoreReply}
use Rattle.core_model.specs.declared.events.CoreReply.TheVariants.{Began}
use Rattle.core_model.specs.LegalRuns.{Run}
use Rattle.turn_cell.specs.History.{entries_of, entry}
use Rattle.turn_cell.proofs.Lists.{in_left, in_append}
use Rattle.core_access.specs.Sights.{Sight, run_seen, saw, Looks, Tells, IsAlone}
use Rattle.core_access.specs.SettlerEvents.{is_settling}
use Rattle.promise_spec.specs.UnitRule.{Basis}
use Rattle.turn_rules.specs.NextEvent.{MayCome, is_own}
use Rattle.worker_rules.specs.SharedHistories.{Told, OwnsUnits, Quiet}
use Rattle.worker_rules.specs.UnitOwnership.{leaves_unit, BeganHere, KeepsPromise}
use Rattle.worker_rules.proofs.OwnEntries.{promise-sees, promise-adds}

-- what is harmless to a unit is none of its own
pub leaves-is : (u : UnitNo) (e : CoreEvent) → leaves_unit u e ≡ true → is_own u e ≡ false
leaves-is u e = by (is_own u e)
  where
    by : (a : Bool) → not a ≡ true → a ≡ false
    by true q = absurd (true≢false (sym q))
    by false q = refl

-- and the other way
pub is-harmless : (u : UnitNo) (e : CoreEvent) → is_own u e ≡ false → leaves_unit u e ≡ true
is-harmless u e q = ap not q

-- ---- alone with a unit

-- nothing is heard of it
pub alone-quiet : (u : UnitNo) (s : Sight) → IsAlone (leaves_unit u) s → Quiet s.number u s.seen
alone-quiet u s a x i o = ⊎_elim (λ (own : x.by ≡ s.number). own) (λ (ok : leaves_unit u x.event ≡ true). absurd (true≢false (sym o ∙ leaves-is u x.event ok))) (a.others x i)

-- where nothing is heard, one is alone
pub quiet-alone : (u : UnitNo) (s : Sight) → Quiet s.number u s.seen → entries_of s.number s.seen ≡ s.mine → IsAlone (leaves_unit u) s
quiet-alone u s quiet is = record {
  others = λ x i. by x i (is_own u x.event) refl;
  own = is;
}
  where
    by : (x : Told) → Member x s.seen → (o : Bool) → is_own u x.event ≡ o → (x.by ≡ s.number) ⊎ (leaves_unit u x.event ≡ true)
    by x i true o = inl (quiet x i o)
    by x i false o = inr (is-harmless u x.event o)

-- ---- the promise

-- one who looks keeps it
pub looks-promise : (b : Basis) (may : CoreEvent → Bool) (s t : Sight) → Looks may s t → KeepsPromise b s → KeepsPromise b t
looks-promise b may s t l p = subst (KeepsPromise b) (sym l.sight) (promise-sees (MayCome b) s.first s.number s.seen l.rest s.mine p)

-- one entry more is of units that began before it
owns-more : (mine : List Told) (x : Told) → OwnsUnits mine → ((u : UnitNo) → is_own u x.event ≡ true → (b : Told) × Member b mine × (b.reply ≡ Began u)) → OwnsUnits (mine ++ (x ∷ []))
owns-more mine x owns new e u i own = ⊎_elim
    (λ j. (let b = owns e u j own in (b.0, in_left b.0 mine (x ∷ []) b.1, b.2)))
    (λ j. ⊎_elim (λ (t : e ≡ x). let b = new u (subst (λ (z : Told). is_own u z.event ≡ true) t own) in (b.0, in_left b.0 mine (x ∷ []) b.1, b.2)) (λ k. absurd k) j)
    (in_append e mine (x ∷ []) i)

-- one who puts such an event keeps it
pub tells-promise : (b : Basis) (may : CoreEvent → Bool) (s t : Sight) (e : CoreEvent) (r : CoreReply) (l : Tells may s e r t)
    → ((u : UnitNo) → is_own u e ≡ true → BeganHere u s)
    → (((u : UnitNo) → is_own u e ≡ true → IsAlone (leaves_unit u) (saw s l.rest)) → MayCome b (run_seen (saw s l.rest)) e)
    → KeepsPromise b s → KeepsPromise b t
tells-promise b may s t e r l began due p = subst (KeepsPromise b) (sym l.sight)
    (promise-adds (MayCome b) s.first s.number s.seen l.rest s.mine e r p
    (λ is quiet. due (λ u own. quiet-alone u (saw s l.rest) (quiet u own) is))
    (owns-more s.mine (entry s.number e r) p.owns began))

-- ---- the settler's events

-- they are of no unit
pub settling-none : (e : CoreEvent) → is_settling e ≡ true → (u : UnitNo) → is_own u e ≡ false
settling-none Take q u = refl
settling-none (Vote n g kept) q u = refl
settling-none (Decide n) q u = refl
settling-none (Sealed n) q u = refl
settling-none (NotSealed n) q u = refl
settling-none (Doubt n) q u = refl
settling-none (Learn v g) q u = refl
settling-none Emitted q u = refl
settling-none (Bad n why) q u = absurd (true≢false (sym q))
settling-none (Begin origin call plain) q u = absurd (true≢false (sym q))
settling-none (Grant v g mode) q u = absurd (true≢false (sym q))
settling-none (Refuse v g mode) q u = absurd (true≢false (sym q))
settling-none (Finish v e) q u = absurd (true≢false (sym q))
settling-none (EndPlain v e) q u = absurd (true≢false (sym q))
settling-none (EndSnapshot v at outcome) q u = absurd (true≢false (sym q))
settling-none (Release v g) q u = absurd (true≢false (sym q))
settling-none Halt q u = absurd (true≢false (sym q))
settling-none (Want v g) q u = absurd (true≢false (sym q))
settling-none (Load g v state) q u = refl

-- they may come anywhere
settling-due : (b : Basis) (run : Run) (e : CoreEvent) → is_settling e ≡ true → MayCome b run e
settling-due b run Take q = λ a. tt
settling-due b run (Vote n g kept) q = λ a. tt
settling-due b run (Decide n) q = λ a. tt
settling-due b run (Sealed n) q = λ a. tt
settling-due b run (NotSealed n) q = λ a. tt
settling-due b run (Doubt n) q = λ a. tt
settling-due b run (Learn v g) q = λ a. tt
settling-due b run Emitted q = λ a. tt
settling-due b run (Bad n why) q = absurd (true≢false (sym q))
settling-due b run (Begin origin call plain) q = absurd (true≢false (sym q))
settling-due b run (Grant v g mode) q = absurd (true≢false (sym q))
settling-due b run (Refuse v g mode) q = absurd (true≢false (sym q))
settling-due b run (Finish v e) q = absurd (true≢false (sym q))
settling-due b run (EndPlain v e) q = absurd (true≢false (sym q))
settling-due b run (EndSnapshot v at outcome) q = absurd (true≢false (sym q))
settling-due b run (Release v g) q = absurd (true≢false (sym q))
settling-due b run Halt q = absurd (true≢false (sym q))
settling-due b run (Want v g) q = absurd (true≢false (sym q))
settling-due b run (Load g v state) q = λ a. tt

-- so one who puts them keeps the promise
pub settles-promise : (b : Basis) (may : CoreEvent → Bool) (s t : Sight) (e : CoreEvent) (r : CoreReply) → Tells may s e r t → is_settling e ≡ true → KeepsPromise b s → KeepsPromise b t
settles-promise b may s t e r l q p =
    tells-promise b may s t e r l
    (λ u own. absurd (true≢false (sym own ∙ settling-none e q u)))
    (λ alone. settling-due b (run_seen (saw s l.rest)) e q) p
