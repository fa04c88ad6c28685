-- What a reply was, by what it says.
use Rattle.std.proofs.Common.{◌≡◌, List, true, false, true≢false, refl, sym, ap, Option, Some, None}
use Rattle.std.specs.Prelude.{is_some}
use Rattle.core_model.specs.CoreState.{UnitNo, Value}
use Rattle.core_model.specs.declared.events.CoreReply.{CoreReply}
use Rattle.core_model.specs.declared.events.CoreReply.TheVariants as reply
use Rattle.txn_agent.specs.Replies.{began_by, granted_by, is_done}
use Rattle.txn_agent.proofs.UnitEnds.{is_began, is_granted}

-- nothing is something
none-some : {A : Type 0} (x : A) → None ≡ Some x → ⊥
none-some x e = true≢false (sym (ap is_some e))

-- what something is
from_some : {A : Type 0} → A → Option A → A
from_some x None = x
from_some x (Some y) = y

-- it is one thing
some_same : {A : Type 0} (x y : A) → Some x ≡ Some y → x ≡ y
unfolding from_some
some_same x y e = ap (from_some x) e

-- the event was done
pub was-done : (y : CoreReply) → true ≡ is_done y → y ≡ reply.Done
was-done reply.Done e = refl
was-done reply.Unapplied e = absurd (true≢false e)
was-done (reply.Began u) e = absurd (true≢false e)
was-done (reply.Granted s x) e = absurd (true≢false e)
was-done (reply.NotGranted a) e = absurd (true≢false e)
was-done (reply.Doomed x) e = absurd (true≢false e)
was-done reply.NotActive e = absurd (true≢false e)
was-done reply.NotLoaded e = absurd (true≢false e)
was-done (reply.Taken b) e = absurd (true≢false e)
was-done (reply.Decided n) e = absurd (true≢false e)

-- this unit began
pub was-began : (y : CoreReply) (u : UnitNo) → began_by y ≡ Some u → y ≡ reply.Began u
was-began (reply.Began v) u e = ap reply.Began (some_same v u e)
was-began reply.Done u e = absurd (none-some u e)
was-began reply.Unapplied u e = absurd (none-some u e)
was-began (reply.Granted s x) u e = absurd (none-some u e)
was-began (reply.NotGranted a) u e = absurd (none-some u e)
was-began (reply.Doomed x) u e = absurd (none-some u e)
was-began reply.NotActive u e = absurd (none-some u e)
was-began reply.NotLoaded u e = absurd (none-some u e)
was-began (reply.Taken b) u e = absurd (none-some u e)
was-began (reply.Decided n) u e = absurd (none-some u e)

-- no unit began
pub not-began : (y : CoreReply) → began_by y ≡ None → is_began y ≡ false
not-began (reply.Began u) e = absurd (none-some u (sym e))
not-began reply.Done e = refl
not-began reply.Unapplied e = refl
not-began (reply.Granted s x) e = refl
not-began (reply.NotGranted a) e = refl
not-began (reply.Doomed x) e = refl
not-began reply.NotActive e = refl
not-began reply.NotLoaded e = refl
not-began (reply.Taken b) e = refl
not-began (reply.Decided n) e = refl

-- the lock was granted, with this
pub was-granted : (y : CoreReply) (s : List Value) (x : UnitNo) → granted_by y ≡ Some (s, x) → y ≡ reply.Granted s x
was-granted (reply.Granted r v) s x e = ap (λ (p : List Value × UnitNo). reply.Granted p.0 p.1) (some_same (r, v) (s, x) e)
was-granted reply.Done s x e = absurd (none-some (s, x) e)
was-granted reply.Unapplied s x e = absurd (none-some (s, x) e)
was-granted (reply.Began u) s x e = absurd (none-some (s, x) e)
was-granted (reply.NotGranted a) s x e = absurd (none-some (s, x) e)
was-granted (reply.Doomed v) s x e = absurd (none-some (s, x) e)
was-granted reply.NotActive s x e = absurd (none-some (s, x) e)
was-granted reply.NotLoaded s x e = absurd (none-some (s, x) e)
was-granted (reply.Taken b) s x e = absurd (none-some (s, x) e)
was-granted (reply.Decided n) s x e = absurd (none-some (s, x) e)

-- the lock was not granted
pub not-granted : (y : CoreReply) → granted_by y ≡ None → is_granted y ≡ false
not-granted (reply.Granted s x) e = absurd (none-some (s, x) (sym e))
not-granted reply.Done e = refl
not-granted reply.Unapplied e = refl
not-granted (reply.Began u) e = refl
not-granted (reply.NotGranted a) e = refl
not-granted (reply.Doomed x) e = refl
not-granted reply.NotActive e = refl
not-granted reply.NotLoaded e = refl
not-granted (reply.Taken b) e = refl
not-granted (reply.Decided n) e = refl
