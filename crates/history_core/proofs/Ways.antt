-- What an event does, by which event it is.
use Rattle.std.proofs.Common.{◌≡◌, Bool, true, refl, sym, ap, ◌∙◌, subst, Ok, Err, IfOk, IfErr, OnErr, Result}
use Rattle.std.specs.declared.alloc.AllocError.{AllocError}
use Rattle.core_model.specs.declared.events.CoreEvent.{CoreEvent}
use Rattle.core_model.specs.declared.events.CoreReply.{CoreReply}
use Rattle.history_core.specs.declared.parts.Parts.{Parts}
use Rattle.history_core.specs.Steps.{CanDo, KeepsMeaning, Tells, Does, LeavesMeaning, takes_memory, with_event}

pub can-that : (p : Parts) (e f : CoreEvent) → e ≡ f → CanDo p e → CanDo p f
can-that p e f q c = subst (CanDo p) q c

pub tells-that : (p : Parts) (e f : CoreEvent) (told : Bool) → e ≡ f → Tells p f told → Tells p e told
tells-that p e f told q t = subst (λ x. Tells p x told) (sym q) t

pub does-that : (p q : Parts) (e f : CoreEvent) (reply : CoreReply) → e ≡ f → Does p f reply q → Does p e reply q
does-that p q e f reply k d = subst (λ x. Does p x reply q) (sym k) d

by-done : (p q : Parts) (f : CoreEvent) (done : Result CoreReply AllocError) → IfOk done (λ r. Does p f r q) → IfOk (with_event done f) (λ r. Does p f r q)
by-done p q f (Ok r) h = h
by-done p q f (Err x) h = h

-- a call that may want memory
pub does-back : (p q : Parts) (e f : CoreEvent) (done : Result CoreReply AllocError) (out : Result CoreReply (AllocError × CoreEvent)) → e ≡ f → out ≡ with_event done f → IfOk done (λ r. Does p f r q) → IfOk out (λ r. Does p e r q)
does-back p q e f done out k o h = subst (λ x. IfOk out (λ r. Does p x r q)) (sym k) (subst (λ x. IfOk x (λ r. Does p f r q)) (sym o) (by-done p q f done h))

by-refused : (p q : Parts) (f : CoreEvent) (done : Result CoreReply AllocError) → takes_memory f ≡ true → OnErr done (KeepsMeaning p q) → IfErr (with_event done f) (λ x. (x.1 ≡ f) × LeavesMeaning p f q)
by-refused p q f (Ok r) m h = tt
by-refused p q f (Err x) m h = (refl, (h, m))

pub refused-back : (p q : Parts) (e f : CoreEvent) (done : Result CoreReply AllocError) (out : Result CoreReply (AllocError × CoreEvent)) → e ≡ f → out ≡ with_event done f → takes_memory f ≡ true → OnErr done (KeepsMeaning p q) → IfErr out (λ x. (x.1 ≡ e) × LeavesMeaning p e q)
refused-back p q e f done out k o m h = subst (λ y. IfErr out (λ x. (x.1 ≡ y) × LeavesMeaning p y q)) (sym k) (subst (λ z. IfErr z (λ x. (x.1 ≡ f) × LeavesMeaning p f q)) (sym o) (by-refused p q f done m h))

-- a call that hands the event back itself
pub does-own : (p q : Parts) (e f : CoreEvent) (out : Result CoreReply (AllocError × CoreEvent)) → e ≡ f → IfOk out (λ r. Does p f r q) → IfOk out (λ r. Does p e r q)
does-own p q e f out k h = subst (λ x. IfOk out (λ r. Does p x r q)) (sym k) h

by-own : (p q : Parts) (f : CoreEvent) (out : Result CoreReply (AllocError × CoreEvent)) → takes_memory f ≡ true → IfErr out (λ x. x.1 ≡ f) → OnErr out (KeepsMeaning p q) → IfErr out (λ x. (x.1 ≡ f) × LeavesMeaning p f q)
by-own p q f (Ok r) m b h = tt
by-own p q f (Err x) m b h = (b, (h, m))

pub refused-own : (p q : Parts) (e f : CoreEvent) (out : Result CoreReply (AllocError × CoreEvent)) → e ≡ f → takes_memory f ≡ true → IfErr out (λ x. x.1 ≡ f) → OnErr out (KeepsMeaning p q) → IfErr out (λ x. (x.1 ≡ e) × LeavesMeaning p e q)
refused-own p q e f out k m b h = subst (λ y. IfErr out (λ x. (x.1 ≡ y) × LeavesMeaning p y q)) (sym k) (by-own p q f out m b h)
