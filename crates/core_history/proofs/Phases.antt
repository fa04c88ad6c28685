-- Phases, holders and the finish order, read off a history.
use Rattle.std.proofs.Common.{◌≡◌, ℕ, ◌≤◌, List, [], ◌∷◌, ◌++◌, Bool, true, false, ◌&&◌, ◌||◌, not, inl, inr, refl, sym, ap, ◌∙◌, arith, Option, Some, None, is_some, append-nil}
use Rattle.std.specs.Prelude.{if◌then◌else◌}
use Rattle.std.proofs.lemmas.Bool.{cases_Bool, cond_both, cond-true, cond-false, and_from, and_left, and_right, or_left, or_right, not-true, not-false}
use Rattle.cell_model.specs.Locks.{is_hold_of, holds_lock, dropped, granted}
use Rattle.cell_model.proofs.Units.{same_unit-true, same_unit-false, same_unit-is, same_unit-not, same_grain-true, same_grain-is}
use Rattle.core_model.specs.declared.events.CoreEvent.{CoreEvent}
use Rattle.core_model.specs.declared.phases.Phase.{Phase}
use Rattle.core_model.specs.declared.phases.Phase.TheVariants.{Unborn, Running, Finished, Refused, Ended}
use Rattle.core_model.specs.CoreState.{UnitNo, GrainId, Mode, Hold, Batch, CoreState, same_unit, same_grain, put, put_grain}
use Rattle.core_model.specs.Tests.{is_over, is_running}
use Rattle.core_model.specs.Changes.{new_unit}
use Rattle.core_model.specs.Events.{reply_with, decided_reply}
use Rattle.core_laws.proofs.EventCases.{Change, begin, lock, raise, refuse, finish, end_plain, end_snapshot, release, decide_some, decide_none}
use Rattle.core_laws.proofs.Puts.{put-at, grain-at}
use Rattle.core_history.proofs.Words.{or-false}
use Rattle.core_history.specs.Units.{finisher, is_begin_of, is_end_of, mode_after}
use Rattle.core_history.specs.States.{mode_of}

-- the finish order after an event
pub order-after : (w : CoreState) (e : CoreEvent) (w' : CoreState) → Change w e w' → w'.manager.order ≡ w.manager.order ++ finisher e
order-after w e w' (finish u effect running plain of_call reads alone) = refl
order-after w e w' c = sym (append-nil w.manager.order)

-- begun, in one way or another
abbrev pub is_born : Phase → Bool
is_born Unborn = false
is_born _ = true

-- a phase that one unit gets
born-put : (phase : UnitNo → Phase) (u : UnitNo) (end : Phase) → is_born end ≡ true → is_born (phase u) ≡ true → (x : UnitNo) → is_born (put phase u end x) ≡ (is_born (phase x) || false)
born-put phase u end e b x = put-at phase u end (λ p. is_born p ≡ (is_born (phase x) || false)) x (λ q. e ∙ sym b ∙ ap (λ z. is_born (phase z)) (sym q) ∙ sym (or-false (is_born (phase x)))) (λ q. sym (or-false (is_born (phase x))))

decided-begins : (x : UnitNo) (w : CoreState) (o : Option Batch) → is_begin_of x (decided_reply w o) ≡ false
decided-begins x w None = refl
decided-begins x w (Some b) = refl

decided-born : (w : CoreState) (x : UnitNo) → is_born (w.units.phase x) ≡ (is_born (w.units.phase x) || is_begin_of x (decided_reply w w.manager.batch))
decided-born w x = sym (or-false (is_born (w.units.phase x))) ∙ ap (λ t. is_born (w.units.phase x) || t) (sym (decided-begins x w w.manager.batch))

pub begun-after : (w : CoreState) (e : CoreEvent) (w' : CoreState) → Change w e w' → (x : UnitNo) → is_born (w'.units.phase x) ≡ (is_born (w.units.phase x) || is_begin_of x (reply_with w e))
begun-after w e w' (begin origin call plain c) x = put-at w.units.phase (new_unit w) Running (λ p. is_born p ≡ (is_born (w.units.phase x) || same_unit (new_unit w) x)) x
    (λ q. sym (or_right (is_born (w.units.phase x)) (same_unit (new_unit w) x) (same_unit-is (new_unit w) x (sym q))))
    (λ q. sym (or-false (is_born (w.units.phase x))) ∙ ap (λ t. is_born (w.units.phase x) || t) (sym (same_unit-not (new_unit w) x (λ z. q (sym z)))))
begun-after w e w' (refuse u g mode why running q) x = born-put w.units.phase u Refused refl (ap is_born running) x
begun-after w e w' (finish u effect running plain of_call reads alone) x = born-put w.units.phase u Finished refl (ap is_born running) x
begun-after w e w' (end_plain u effect running plain of_call bare) x = born-put w.units.phase u Ended refl (ap is_born running) x
begun-after w e w' (end_snapshot u at outcome running plain kids answer) x = born-put w.units.phase u Ended refl (ap is_born running) x
begun-after w e w' (decide_some n b q number d voted some) x = decided-born w x
begun-after w e w' (decide_none n b q number d voted none) x = decided-born w x
begun-after w e w' c x = sym (or-false (is_born (w.units.phase x)))

over-put : (phase : UnitNo → Phase) (u : UnitNo) (end : Phase) → is_over end ≡ true → (x : UnitNo) → is_over (put phase u end x) ≡ (is_over (phase x) || same_unit u x)
over-put phase u end e x = put-at phase u end (λ p. is_over p ≡ (is_over (phase x) || same_unit u x)) x
    (λ q. e ∙ sym (or_right (is_over (phase x)) (same_unit u x) (same_unit-is u x (sym q))))
    (λ q. sym (or-false (is_over (phase x))) ∙ ap (λ t. is_over (phase x) || t) (sym (same_unit-not u x (λ z. q (sym z)))))

pub ended-after : (w : CoreState) (e : CoreEvent) (w' : CoreState) → Change w e w' → w.units.phase (new_unit w) ≡ Unborn → (x : UnitNo) → is_over (w'.units.phase x) ≡ (is_over (w.units.phase x) || is_end_of x e)
ended-after w e w' (begin origin call plain c) fresh x =
    put-at w.units.phase (new_unit w) Running (λ p. is_over p ≡ is_over (w.units.phase x)) x (λ q. sym (ap (λ z. is_over (w.units.phase z)) q ∙ ap is_over fresh)) (λ q. refl)
    ∙ sym (or-false (is_over (w.units.phase x)))
ended-after w e w' (refuse u g mode why running q) fresh x = over-put w.units.phase u Refused refl x
ended-after w e w' (finish u effect running plain of_call reads alone) fresh x = over-put w.units.phase u Finished refl x
ended-after w e w' (end_plain u effect running plain of_call bare) fresh x = over-put w.units.phase u Ended refl x
ended-after w e w' (end_snapshot u at outcome running plain kids answer) fresh x = over-put w.units.phase u Ended refl x
ended-after w e w' c fresh x = sym (or-false (is_over (w.units.phase x)))

-- units of later numbers haven't begun
abbrev pub Fresh : ℕ → (UnitNo → Phase) → Type 0
Fresh next phase = (u : UnitNo) → next ≤ u.0 → phase u ≡ Unborn

fresh-put : (next : ℕ) (phase : UnitNo → Phase) (u : UnitNo) (end : Phase) → phase u ≡ Running → Fresh next phase → Fresh next (put phase u end)
fresh-put next phase u end running f x le = put-at phase u end (λ p. p ≡ Unborn) x (λ q. (let t : Unborn ≡ Running = sym (f x le) ∙ ap phase q ∙ running in cc)) (λ q. f x le)

pub fresh-after : (w : CoreState) (e : CoreEvent) (w' : CoreState) → Change w e w' → Fresh w.units.next w.units.phase → Fresh w'.units.next w'.units.phase
fresh-after w e w' (begin origin call plain c) f = λ x le. put-at w.units.phase (new_unit w) Running (λ p. p ≡ Unborn) x (λ q. absurd (omega (arith, ap (λ (z : UnitNo). z.0) q, le))) (λ q. f x (omega (arith, le)))
fresh-after w e w' (refuse u g mode why running q) f = fresh-put w.units.next w.units.phase u Refused running f
fresh-after w e w' (finish u effect running plain of_call reads alone) f = fresh-put w.units.next w.units.phase u Finished running f
fresh-after w e w' (end_plain u effect running plain of_call bare) f = fresh-put w.units.next w.units.phase u Ended running f
fresh-after w e w' (end_snapshot u at outcome running plain kids answer) f = fresh-put w.units.next w.units.phase u Ended running f
fresh-after w e w' c f = f

-- a running unit has begun and hasn't ended
pub runs-is : (p : Phase) → is_running p ≡ (is_born p && not (is_over p))
runs-is Unborn = refl
runs-is Running = refl
runs-is Finished = refl
runs-is Refused = refl
runs-is Ended = refl

-- a lock is held where there is a mode
pub lock-mode : (u : UnitNo) (hs : List Hold) → holds_lock u hs ≡ is_some (mode_of u hs)
lock-mode u [] = refl
lock-mode u (h ∷ hs) = elim (cases_Bool (same_unit h.unit u)) [
  | inl e ↦ or_left (is_hold_of u h) (holds_lock u hs) e ∙ ap is_some (sym (cond-true (same_unit h.unit u) (Some h.mode) (mode_of u hs) e))
  | inr e ↦ ap (λ t. t || holds_lock u hs) e ∙ lock-mode u hs ∙ ap is_some (sym (cond-false (same_unit h.unit u) (Some h.mode) (mode_of u hs) e))
]

-- the modes after a unit's locks are dropped
pub dropped-mode : (x u : UnitNo) (hs : List Hold) → mode_of x (dropped hs u) ≡ (if same_unit u x then None else mode_of x hs)
dropped-mode x u [] = sym (cond_both (same_unit u x) None None (λ t. t ≡ None) (λ e. refl) (λ e. refl))
dropped-mode x u (h ∷ hs) = cond_both (not (is_hold_of u h)) (h ∷ dropped hs u) (dropped hs u) (λ t. mode_of x t ≡ (if same_unit u x then None else mode_of x (h ∷ hs))) (stays (dropped-mode x u hs)) (goes (dropped-mode x u hs))
  where
    Ih : Type 0
    Ih = mode_of x (dropped hs u) ≡ (if same_unit u x then None else mode_of x hs)

    stays : Ih → not (is_hold_of u h) ≡ true → mode_of x (h ∷ dropped hs u) ≡ (if same_unit u x then None else mode_of x (h ∷ hs))
    stays ih e = elim (cases_Bool (same_unit h.unit x)) [
      | inl s ↦ (let apart : same_unit u x ≡ false = same_unit-not u x (λ q. same_unit-false h.unit u (not-true _ e) (same_unit-true h.unit x s ∙ sym q)) in
          cond-true (same_unit h.unit x) (Some h.mode) (mode_of x (dropped hs u)) s
          ∙ sym (cond-true (same_unit h.unit x) (Some h.mode) (mode_of x hs) s)
          ∙ sym (cond-false (same_unit u x) None (mode_of x (h ∷ hs)) apart))
      | inr s ↦ cond-false (same_unit h.unit x) (Some h.mode) (mode_of x (dropped hs u)) s ∙ ih ∙ ap (λ t. if same_unit u x then None else t) (sym (cond-false (same_unit h.unit x) (Some h.mode) (mode_of x hs) s))
    ]

    goes : Ih → not (is_hold_of u h) ≡ false → mode_of x (dropped hs u) ≡ (if same_unit u x then None else mode_of x (h ∷ hs))
    goes ih e = elim (cases_Bool (same_unit u x)) [
      | inl s ↦ ih ∙ cond-true (same_unit u x) None (mode_of x hs) s ∙ sym (cond-true (same_unit u x) None (mode_of x (h ∷ hs)) s)
      | inr s ↦ (let apart : same_unit h.unit x ≡ false = same_unit-not h.unit x (λ q. same_unit-false u x s (sym (same_unit-true h.unit u (not-false _ e)) ∙ q)) in
          ih ∙ ap (λ t. if same_unit u x then None else t) (sym (cond-false (same_unit h.unit x) (Some h.mode) (mode_of x hs) apart)))
    ]

mode-last : (x : UnitNo) (hs : List Hold) (h : Hold) → mode_of x (hs ++ h ∷ []) ≡ (if is_some (mode_of x hs) then mode_of x hs else mode_of x (h ∷ []))
mode-last x [] h = refl
mode-last x (y ∷ ys) h = elim (cases_Bool (same_unit y.unit x)) [
  | inl s ↦ cond-true (same_unit y.unit x) (Some y.mode) (mode_of x (ys ++ h ∷ [])) s ∙ sym (ap (λ t. if is_some t then t else mode_of x (h ∷ [])) (cond-true (same_unit y.unit x) (Some y.mode) (mode_of x ys) s))
  | inr s ↦ cond-false (same_unit y.unit x) (Some y.mode) (mode_of x (ys ++ h ∷ [])) s ∙ mode-last x ys h ∙ sym (ap (λ t. if is_some t then t else mode_of x (h ∷ [])) (cond-false (same_unit y.unit x) (Some y.mode) (mode_of x ys) s))
]

-- the modes after a unit's grant
pub granted-mode : (x u : UnitNo) (mode : Mode) (hs : List Hold) → mode_of x (granted hs u mode) ≡ (if same_unit u x then Some mode else mode_of x hs)
granted-mode x u mode hs =
    mode-last x (dropped hs u) new ∙ ap (λ t. if is_some t then t else mode_of x (new ∷ [])) (dropped-mode x u hs) ∙ elim (cases_Bool (same_unit u x)) [
      | inl s ↦ ap (λ t. if is_some t then t else mode_of x (new ∷ [])) (cond-true (same_unit u x) None (mode_of x hs) s) ∙ cond-true (same_unit u x) (Some mode) None s ∙ sym (cond-true (same_unit u x) (Some mode) (mode_of x hs) s)
      | inr s ↦ ap (λ t. if is_some t then t else mode_of x (new ∷ [])) (cond-false (same_unit u x) None (mode_of x hs) s)
          ∙ ap (λ t. if is_some (mode_of x hs) then mode_of x hs else t) (cond-false (same_unit u x) (Some mode) None s)
          ∙ itself (mode_of x hs)
          ∙ sym (cond-false (same_unit u x) (Some mode) (mode_of x hs) s)
    ]
  where
    new : Hold
    new = record { unit = u; mode = mode }

    itself : (o : Option Mode) → (if is_some o then o else None) ≡ o
    itself None = refl
    itself (Some m) = refl

-- the modes where one grain's locks change for one unit
put-mode : (holds : GrainId → List Hold) (g : GrainId) (hs : List Hold) (u x : UnitNo) (k : GrainId) (new : Option Mode) → mode_of x hs ≡ (if same_unit u x then new else mode_of x (holds g)) →
    mode_of x (put_grain holds g hs k) ≡ (if same_unit u x && same_grain g k then new else mode_of x (holds k))
put-mode holds g hs u x k new e = grain-at holds g hs (λ t. mode_of x t ≡ (if same_unit u x && same_grain g k then new else mode_of x (holds k))) k
    (λ q. elim (cases_Bool (same_unit u x)) [
      | inl s ↦ e ∙ cond-true (same_unit u x) new (mode_of x (holds g)) s ∙ sym (cond-true (same_unit u x && same_grain g k) new (mode_of x (holds k)) (and_from (same_unit u x) (same_grain g k) s (same_grain-is g k (sym q))))
      | inr s ↦ e ∙ cond-false (same_unit u x) new (mode_of x (holds g)) s ∙ ap (λ z. mode_of x (holds z)) (sym q) ∙ sym (cond-false (same_unit u x && same_grain g k) new (mode_of x (holds k)) (and_left (same_unit u x) (same_grain g k) s))
    ])
    (λ q. sym (cond-false (same_unit u x && same_grain g k) new (mode_of x (holds k)) (and_right (same_unit u x) (same_grain g k) (apart g k (λ z. q (sym z))))))
  where
    apart : (a b : GrainId) → (a ≡ b → ⊥) → same_grain a b ≡ false
    apart a b n = elim (cases_Bool (same_grain a b)) [ inl t ↦ absurd (n (same_grain-true a b t)) | inr f ↦ f ]

-- the modes after an event
pub mode-after : (w : CoreState) (e : CoreEvent) (w' : CoreState) → Change w e w' → (x : UnitNo) (k : GrainId) → mode_of x (w'.cells.holds k) ≡ mode_after x k (mode_of x (w.cells.holds k)) e
mode-after w e w' (lock u g mode running free first here) x k = put-mode w.cells.holds g (granted (w.cells.holds g) u mode) u x k (Some mode) (granted-mode x u mode (w.cells.holds g))
mode-after w e w' (raise u g mode running free held here uncovered) x k = put-mode w.cells.holds g (granted (w.cells.holds g) u mode) u x k (Some mode) (granted-mode x u mode (w.cells.holds g))
mode-after w e w' (release u g over held) x k = put-mode w.cells.holds g (dropped (w.cells.holds g) u) u x k None (dropped-mode x u (w.cells.holds g))
mode-after w e w' c x k = refl
