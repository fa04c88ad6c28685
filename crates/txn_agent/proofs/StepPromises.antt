-- What a step leaves of what others know, of the promise of one's own entries, and of the unit rule.
use Rattle.std.proofs.Common.{◌≡◌, inl, inr, List, [], ◌∷◌, Bool, true, false, refl, sym, ◌∙◌, subst, ◌<◌}
use Rattle.base_types.specs.declared.calls.Origin.TheVariants.{Line, Child}
use Rattle.cell_model.proofs.Units.{same_unit-true, same_unit-is}
use Rattle.core_model.specs.CoreState.{UnitNo, Call, same_unit}
use Rattle.core_model.specs.declared.events.CoreEvent.{CoreEvent}
use Rattle.core_model.specs.declared.events.CoreEvent.TheVariants.{Bad, Begin, Grant, Refuse, Finish, EndPlain, EndSnapshot, Release, Take, Vote, Decide, Sealed, NotSealed, Doubt, Learn, Emitted, Halt, Want, Load}
use Rattle.core_model.specs.declared.events.CoreReply.{CoreReply}
use Rattle.core_model.specs.declared.events.CoreReply.TheVariants.{Began}
use Rattle.core_model.specs.LegalRuns.{Run}
use Rattle.script_tree.specs.Programs.{ProgramTree}
use Rattle.script_meaning.specs.Play.{IsTransaction}
use Rattle.promise_spec.specs.TurnRule.{OfLine, OfWant, OfLoad, OfUnit, OfSettler, mover_of}
use Rattle.promise_spec.specs.UnitRule.{Basis, KeepsUnitRule}
use Rattle.turn_cell.specs.History.{entry}
use Rattle.turn_cell.proofs.Lists.{in_left, in_right}
use Rattle.turn_rules.specs.NextEvent.{with_event, is_own}
use Rattle.turn_rules.proofs.Growth.{unit-grows}
use Rattle.worker_rules.specs.SharedHistories.{Told, run_after}
use Rattle.worker_rules.specs.UnitOwnership.{leaves_unit, BeganHere, KeepsPromise}
use Rattle.worker_rules.proofs.CallPromises.{is-harmless, settling-none, looks-promise, tells-promise}
use Rattle.core_access.specs.OneHolder.{none_comes}
use Rattle.core_access.specs.SettlerEvents.{is_settling}
use Rattle.core_access.specs.Sights.{Sight, run_seen, saw, Looks, Tells, Counts, IsAlone, IfAlone}
use Rattle.core_access.proofs.Sights.{looks-alone, tells-alone, run-alone, run-told, told-stays}
use Rattle.core_access.proofs.Knowledge.{tells-knows}
use Rattle.txn_agent.specs.declared.work.Carried.{Carried}
use Rattle.txn_agent.specs.declared.work.Doing.{Doing}
use Rattle.txn_agent.specs.declared.work.Doing.TheVariants.{Asks, Awaits, Frees, Stopped}
use Rattle.txn_agent.specs.CoreLink.{IfOwn, IsNew, IsOver, IsPaused, IsBarred, IsWaiting, KnowsDoing}
use Rattle.txn_agent.specs.AgentStep.{Acts, IsDueFor}
use Rattle.txn_agent.proofs.OthersEvents.{over-on, paused-on, stopped-on, waiting-on}
use Rattle.txn_agent.proofs.ChildBegins.{new-is}
use Rattle.txn_agent.proofs.AgentCalls.{over-looks, paused-looks, stopped-looks, waiting-looks}

-- ---- whose event it is

pub unit-is : (u v : UnitNo) → OfUnit u ≡ OfUnit v → u ≡ v
unit-is u v e = cc

own-by : (u v w : UnitNo) → OfUnit v ≡ OfUnit u → same_unit v w ≡ true → w ≡ u
own-by u v w q s = sym (same_unit-true v w s) ∙ unit-is v u q

pub line-not : {A : Type 0} (u : UnitNo) → OfLine ≡ OfUnit u → A
line-not u e = absurd cc

pub settler-not : {A : Type 0} (u : UnitNo) → OfSettler ≡ OfUnit u → A
settler-not u e = absurd cc

pub want-not : {A : Type 0} (v u : UnitNo) → OfWant v ≡ OfUnit u → A
want-not v u e = absurd cc

pub load-not : {A : Type 0} (u : UnitNo) → OfLoad ≡ OfUnit u → A
load-not u e = absurd cc

-- a unit's event is one of its own
moves-own : (u : UnitNo) (e : CoreEvent) → mover_of e ≡ OfUnit u → is_own u e ≡ true
moves-own u (Bad n why) q = line-not u q
moves-own u (Begin (Line n) call plain) q = line-not u q
moves-own u (Begin (Child parent index depth) call plain) q = same_unit-is parent u (unit-is parent u q)
moves-own u (Grant v g mode) q = same_unit-is v u (unit-is v u q)
moves-own u (Refuse v g mode) q = same_unit-is v u (unit-is v u q)
moves-own u (Finish v e) q = same_unit-is v u (unit-is v u q)
moves-own u (EndPlain v e) q = same_unit-is v u (unit-is v u q)
moves-own u (EndSnapshot v at outcome) q = same_unit-is v u (unit-is v u q)
moves-own u (Release v g) q = same_unit-is v u (unit-is v u q)
moves-own u Take q = settler-not u q
moves-own u (Vote n g kept) q = settler-not u q
moves-own u (Decide n) q = settler-not u q
moves-own u (Sealed n) q = settler-not u q
moves-own u (NotSealed n) q = settler-not u q
moves-own u (Doubt n) q = settler-not u q
moves-own u (Learn v g) q = settler-not u q
moves-own u Emitted q = settler-not u q
moves-own u Halt q = settler-not u q
moves-own u (Want v g) q = want-not v u q
moves-own u (Load g v state) q = load-not u q

-- and of no other unit
pub moves-one : (u w : UnitNo) (e : CoreEvent) → mover_of e ≡ OfUnit u → is_own w e ≡ true → w ≡ u
moves-one u w (Bad n why) q o = line-not u q
moves-one u w (Begin (Line n) call plain) q o = line-not u q
moves-one u w (Begin (Child parent index depth) call plain) q o = own-by u parent w q o
moves-one u w (Grant v g mode) q o = own-by u v w q o
moves-one u w (Refuse v g mode) q o = own-by u v w q o
moves-one u w (Finish v e) q o = own-by u v w q o
moves-one u w (EndPlain v e) q o = own-by u v w q o
moves-one u w (EndSnapshot v at outcome) q o = own-by u v w q o
moves-one u w (Release v g) q o = own-by u v w q o
moves-one u w Take q o = settler-not u q
moves-one u w (Vote n g kept) q o = settler-not u q
moves-one u w (Decide n) q o = settler-not u q
moves-one u w (Sealed n) q o = settler-not u q
moves-one u w (NotSealed n) q o = settler-not u q
moves-one u w (Doubt n) q o = settler-not u q
moves-one u w (Learn v g) q o = settler-not u q
moves-one u w Emitted q o = settler-not u q
moves-one u w Halt q o = settler-not u q
moves-one u w (Want v g) q o = want-not v u q
moves-one u w (Load g v state) q o = load-not u q

-- ---- what others know

-- behind a look
pub knows-looks : (may : CoreEvent → Bool) (types : ProgramTree) (c : Carried) (doing : Doing) (s t : Sight) → Looks may s t → Counts s → KnowsDoing types s c doing → KnowsDoing types t c doing
knows-looks may types c (Asks work pause) s t l n k = paused-looks types s c work n may t pause l k
knows-looks may types c (Awaits work child) s t l n k = waiting-looks types s c work n may t child l k
knows-looks may types c (Frees held) s t l n k = over-looks types s c n may t held l k
knows-looks may types c Stopped s t l n k = stopped-looks types s c n may t l k

-- behind an event of others
pub knows-tells : (may : CoreEvent → Bool) (types : ProgramTree) (c : Carried) (doing : Doing) (s t : Sight) (e : CoreEvent) (r : CoreReply) → Tells may s e r t → leaves_unit c.unit e ≡ true → Counts s → KnowsDoing types s c doing → KnowsDoing types t c doing
knows-tells may types c (Asks work pause) s t e r l h n k = record {
  trail = k.trail;
  at_work = k.at_work;
  ready = k.ready;
  linked = tells-knows (leaves_unit c.unit) (λ x. IsPaused types x c work k.trail) (λ x f g p. paused-on types x f c g work k.trail p) (λ x. IsPaused types x c work k.trail)
      may s t e r l n (λ p. paused-on types (run_seen (saw s l.rest)) e c h work k.trail p) k.linked;
}
knows-tells may types c (Awaits work child) s t e r l h n k = record {
  trail = k.trail;
  call = k.call;
  depth = k.depth;
  at_work = k.at_work;
  asks_for = k.asks_for;
  linked = tells-knows (leaves_unit c.unit) (λ x. IsWaiting types x c work k.trail child k.call k.depth) (λ x f g p. waiting-on types x f c g work k.trail child k.call k.depth p) (λ x. IsWaiting types x c work k.trail child k.call k.depth)
      may s t e r l n (λ p. waiting-on types (run_seen (saw s l.rest)) e c h work k.trail child k.call k.depth p) k.linked;
}
knows-tells may types c (Frees held) s t e r l h n k =
    tells-knows (leaves_unit c.unit) (λ x. IsOver x c held) (λ x f g p. over-on types x f c g held p) (λ x. IsOver x c held) may s t e r l n (λ p. over-on types (run_seen (saw s l.rest)) e c h held p) k
knows-tells may types c Stopped s t e r l h n k =
    tells-knows (leaves_unit c.unit) (λ x. IsBarred x c) (λ x f g p. stopped-on types x f c g p) (λ x. IsBarred x c) may s t e r l n (λ p. stopped-on types (run_seen (saw s l.rest)) e c h p) k

-- behind an event of the settler's
pub knows-settles : (may : CoreEvent → Bool) (types : ProgramTree) (c : Carried) (doing : Doing) (s t : Sight) (e : CoreEvent) (r : CoreReply) → Tells may s e r t → is_settling e ≡ true → Counts s → KnowsDoing types s c doing → KnowsDoing types t c doing
knows-settles may types c doing s t e r l q n k = knows-tells may types c doing s t e r l (is-harmless c.unit e (settling-none e q c.unit)) n k

-- behind another unit's step
pub knows-steps : (may : CoreEvent → Bool) (types : ProgramTree) (c : Carried) (doing : Doing) (other : UnitNo) (s t : Sight) → Acts may types other s t → (c.unit ≡ other → ⊥) → Counts s → KnowsDoing types s c doing → KnowsDoing types t c doing
knows-steps may types c doing other s t (inl l) apart n k = knows-looks may types c doing s t l n k
knows-steps may types c doing other s t (inr (e, (r, p))) apart n k = knows-tells may types c doing s t e r p.told
    (is-harmless c.unit e (not-own (is_own c.unit e) refl)) n k
  where
    not-own : (b : Bool) → is_own c.unit e ≡ b → is_own c.unit e ≡ false
    not-own true q = absurd (apart (moves-one other c.unit e p.own q))
    not-own false q = q

-- ---- the promise

-- a unit that began here did, whatever is put
pub acts-began : (may : CoreEvent → Bool) (types : ProgramTree) (u v : UnitNo) (s t : Sight) → Acts may types u s t → BeganHere v s → BeganHere v t
acts-began may types u v s t (inl l) b = subst (BeganHere v) (sym l.sight) b
acts-began may types u v s t (inr (e, (r, p))) b = subst (BeganHere v) (sym p.told.sight) (b.0, in_left b.0 s.mine (entry s.number e r ∷ []) b.1, b.2)

-- one who steps for a unit that began here keeps its promise
pub acts-promise : (may : CoreEvent → Bool) (b : Basis) (u : UnitNo) (s t : Sight) → Acts may b.types u s t → BeganHere u s → KeepsPromise b s → KeepsPromise b t
acts-promise may b u s t (inl l) began p = looks-promise b may s t l p
acts-promise may b u s t (inr (e, (r, x))) began p = tells-promise b may s t e r x.told
    (λ w own. subst (λ (z : UnitNo). BeganHere z s) (sym (moves-one u w e x.own own)) began)
    (λ alone. x.due (alone u (moves-own u e x.own)) b refl) p

-- ---- nobody else puts

-- one stays alone
pub acts-alone : (types : ProgramTree) (u v : UnitNo) (s t : Sight) → Acts none_comes types u s t → IsAlone (leaves_unit v) s → IsAlone (leaves_unit v) t
acts-alone types u v s t (inl l) a = subst (IsAlone (leaves_unit v)) (sym (looks-alone s t l)) a
acts-alone types u v s t (inr (e, (r, p))) a = subst (IsAlone (leaves_unit v)) (sym (tells-alone s t e r p.told)) (told-stays (leaves_unit v) s e r a)

-- and the run keeps the unit rule
pub acts-rule : (b : Basis) (u : UnitNo) (s t : Sight) → Acts none_comes b.types u s t → IsAlone (leaves_unit u) s → KeepsUnitRule b (run_seen s) → KeepsUnitRule b (run_seen t)
acts-rule b u s t (inl l) alone keeps = subst (λ (x : Sight). KeepsUnitRule b (run_seen x)) (sym (looks-alone s t l)) keeps
acts-rule b u s t (inr (e, (r, p))) alone keeps =
    let same : saw s p.told.rest ≡ s = looks-alone s (saw s p.told.rest) (record { rest = p.told.rest; others = p.told.others; sight = refl }) in
    subst (KeepsUnitRule b) (sym (run-alone s t e r p.told))
    (unit-grows b (run_seen s) e keeps (subst (λ (x : Sight). IfAlone (leaves_unit u) x (λ z. IsDueFor b.types z e)) same p.due alone b refl))

-- ---- a unit that began

-- it began here
pub new-began : (may : CoreEvent → Bool) (s t : Sight) (e : CoreEvent) (u : UnitNo) → Tells may s e (Began u) t → BeganHere u t
new-began may s t e u l = subst (BeganHere u) (sym l.sight) (entry s.number e (Began u), in_right (entry s.number e (Began u)) s.mine (entry s.number e (Began u) ∷ []) (inl refl), refl)

-- units keep their first number
pub above-after : (r : Run) (seen : List Told) → 0 < r.base → 0 < (run_after r seen).base
above-after r [] above = above
above-after r (x ∷ seen) above = above-after (with_event r x.event) seen above

-- it can be carried
pub new-carried : (may : CoreEvent → Bool) (types : ProgramTree) (s t : Sight) (c : Carried) (call : Call) → Tells may s (Begin c.origin call c.plain) (Began c.unit) t
    → Counts s → 0 < s.first.base → (c.plain ≡ true → IsTransaction types call → ⊥) → IfOwn c t (λ r. IsNew types r c call)
new-carried may types s t c call l n above plainly alone =
    subst (λ (x : Sight). IsNew types (run_seen x) c call) (sym l.sight)
    (subst (λ (r : Run). IsNew types r c call) (sym (run-told (saw s l.rest) (Begin c.origin call c.plain) (Began c.unit)))
    (new-is types (run_seen (saw s l.rest)) c call (above-after s.first (saw s l.rest).seen above) l.reply plainly))
