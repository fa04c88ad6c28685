-- What one more event changes in the words of a history.
use Rattle.std.proofs.Common.{Some, ◌≡◌, List, [], ◌∷◌, ◌++◌, Bool, true, false, ◌||◌, ◌⊎◌, inl, inr, refl, sym, ap, ◌∙◌, Option, None, append-nil, append_assoc}
use Rattle.std.specs.List.{list_any as any}
use Rattle.std.proofs.lemmas.Grind.{flat_map-append}
use Rattle.std.proofs.lemmas.List.Sums.{fold-append}
use Rattle.std.proofs.lemmas.List.Folds.{list_any-append}
use Rattle.core_model.specs.declared.events.CoreEvent.{CoreEvent}
use Rattle.core_model.specs.declared.effects.Read.{Read}
use Rattle.core_model.specs.declared.effects.Effect.{Effect}
use Rattle.core_model.specs.CoreState.{UnitNo, GrainId, Mode}
use Rattle.core_history.specs.Histories.{Applied, Happened}
use Rattle.core_history.specs.Units.{finisher, finish_order, is_begin_of, is_end_of, has_begun, has_ended, mode_after, held, shown, with_read, reads_in, effect_after, effect_in}
use Rattle.core_history.specs.Batches.{with_taken, batches_from, batches_in}

-- what stands in the one stands in the other
pub some-is : {A : Type 0} (x y : A) → Some x ≡ Some y → x ≡ y
some-is x y e = cc

-- a history with one more event
abbrev pub more : List Applied → Applied → List Applied
more h a = h ++ a ∷ []

-- each word of a history with one more event, from the word before it
pub order-more : (h : List Applied) (a : Applied) → finish_order (more h a) ≡ finish_order h ++ finisher a.event
order-more h a = flat_map-append (λ (x : Applied). finisher x.event) h (a ∷ []) ∙ ap (λ t. finish_order h ++ t) (append-nil (finisher a.event))

-- a test that adds nothing
pub or-false : (b : Bool) → (b || false) ≡ b
or-false true = refl
or-false false = refl

any-more : (p : Applied → Bool) (h : List Applied) (a : Applied) → any p (more h a) ≡ (any p h || p a)
any-more p h a = list_any-append p h (a ∷ []) ∙ ap (λ t. any p h || t) (or-false (p a))

pub begun-more : (u : UnitNo) (h : List Applied) (a : Applied) → has_begun u (more h a) ≡ (has_begun u h || is_begin_of u a.reply)
begun-more u h a = any-more (λ (x : Applied). is_begin_of u x.reply) h a

pub ended-more : (u : UnitNo) (h : List Applied) (a : Applied) → has_ended u (more h a) ≡ (has_ended u h || is_end_of u a.event)
ended-more u h a = any-more (λ (x : Applied). is_end_of u x.event) h a

pub held-more : (u : UnitNo) (g : GrainId) (h : List Applied) (a : Applied) → held u g (more h a) ≡ mode_after u g (held u g h) a.event
held-more u g h a = fold-append (λ (mode : Option Mode) (x : Applied). mode_after u g mode x.event) None h (a ∷ [])

pub reads-more : (u : UnitNo) (h : List Applied) (a : Applied) → reads_in u (more h a) ≡ with_read (reads_in u h) (shown u a.event a.reply)
reads-more u h a = fold-append (λ (reads : List Read) (x : Applied). with_read reads (shown u x.event x.reply)) [] h (a ∷ [])

pub effect-more : (u : UnitNo) (h : List Applied) (a : Applied) → effect_in u (more h a) ≡ effect_after u (effect_in u h) a.event
effect-more u h a = fold-append (λ (last : Option Effect) (x : Applied). effect_after u last x.event) None h (a ∷ [])

-- the same of the batches, with what stands in front
batches-from-more : (front : List Applied) (bs : List (List UnitNo)) (h : List Applied) (a : Applied) → batches_from front bs (more h a) ≡ with_taken (front ++ h) (batches_from front bs h) a.event
batches-from-more front bs [] a = ap (λ t. with_taken t bs a.event) (sym (append-nil front))
batches-from-more front bs (x ∷ h) a =
    batches-from-more (front ++ x ∷ []) (with_taken front bs x.event) h a
    ∙ ap (λ t. with_taken t (batches_from (front ++ x ∷ []) (with_taken front bs x.event) h) a.event) (append_assoc front (x ∷ []) h)

pub batches-more : (h : List Applied) (a : Applied) → batches_in (more h a) ≡ with_taken h (batches_in h) a.event
batches-more h a = batches-from-more [] [] h a

-- what happened has happened
pub happened-before : (h : List Applied) (a : Applied) (e : CoreEvent) → Happened h e → Happened (more h a) e
happened-before [] a e m = absurd m
happened-before (x ∷ h) a e (inl q) = inl q
happened-before (x ∷ h) a e (inr m) = inr (happened-before h a e m)

pub happened-now : (h : List Applied) (a : Applied) → Happened (more h a) a.event
happened-now [] a = inl refl
happened-now (x ∷ h) a = inr (happened-now h a)

pub happened-cases : (h : List Applied) (a : Applied) (e : CoreEvent) → Happened (more h a) e → Happened h e ⊎ (e ≡ a.event)
happened-cases [] a e (inl q) = inr q
happened-cases [] a e (inr m) = absurd m
happened-cases (x ∷ h) a e (inl q) = inl (inl q)
happened-cases (x ∷ h) a e (inr m) = elim (happened-cases h a e m) [ inl n ↦ inl (inr n) | inr q ↦ inr q ]
