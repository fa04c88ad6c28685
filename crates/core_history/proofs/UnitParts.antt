-- Reads, writes and results, read off a history.
use Rattle.std.proofs.Common.{◌≡◌, List, [], ◌∷◌, ◌++◌, true, false, ◌&&◌, ◌||◌, inl, inr, refl, sym, ap, ◌∙◌, Option, Some, None, is_some, le_refl}
use Rattle.std.specs.Prelude.{if◌then◌else◌, option_map}
use Rattle.std.proofs.lemmas.Bool.{cases_Bool, cond-true, cond-false, and_from, and_left, and_right, or_right}
use Rattle.std.proofs.lemmas.List.Folds.{list_any-append}
use Rattle.cell_model.specs.Locks.{holds_lock}
use Rattle.cell_model.proofs.Units.{same_unit-is, same_unit-not, same_grain-true, cases_unit, cases_grain}
use Rattle.core_model.specs.declared.events.CoreEvent.{CoreEvent}
use Rattle.core_model.specs.declared.effects.Read.{Read}
use Rattle.core_model.specs.declared.effects.Effect.{Effect}
use Rattle.core_model.specs.declared.phases.Phase.{Phase}
use Rattle.core_model.specs.declared.phases.Phase.TheVariants.{Running, Finished, Refused, Ended}
use Rattle.core_model.specs.CoreState.{UnitNo, GrainId, Mode, Outcome, CoreState, top, same_unit, same_grain, put, put_grain}
use Rattle.core_model.specs.Tests.{is_over}
use Rattle.core_model.specs.Changes.{new_unit, cleaned, read_of}
use Rattle.core_model.specs.Events.{reply_with}
use Rattle.core_laws.proofs.EventCases.{Change, begin, lock, raise, refuse, finish, end_plain, end_snapshot, release}
use Rattle.core_laws.proofs.Puts.{put-at, put-from, put-is, put-other, grain-same}
use Rattle.core_history.specs.Units.{shown, has_read, with_read, effect_after, writes_of}
use Rattle.core_history.specs.States.{mode_of}
use Rattle.core_history.proofs.Words.{or-false}
use Rattle.core_history.proofs.Phases.{Fresh, lock-mode, mode-after}

-- who isn't over has read exactly the grains that it holds
abbrev pub ReadsHeld : CoreState → Type 0
ReadsHeld w = (x : UnitNo) (k : GrainId) → is_over (w.units.phase x) ≡ false → has_read k (w.units.reads x) ≡ is_some (mode_of x (w.cells.holds k))

-- a unit that isn't the one, or another grain
not-both : (u x : UnitNo) (g k : GrainId) → ((x ≡ u → k ≡ g → ⊥)) → (same_unit u x && same_grain g k) ≡ false
not-both u x g k n = elim (cases_unit x u) [
  | inl e ↦ elim (cases_grain k g) [
    | inl q ↦ absurd (n e q)
    | inr q ↦ and_right (same_unit u x) (same_grain g k) (elim (cases_Bool (same_grain g k)) [ inl t ↦ absurd (q (sym (same_grain-true g k t))) | inr t ↦ t ])
  ]
  | inr e ↦ and_left (same_unit u x) (same_grain g k) (same_unit-not u x (λ z. e (sym z)))
]

-- what has been read after one more read
has-read-more : (k : GrainId) (reads : List Read) (r : Read) → has_read k (reads ++ r ∷ []) ≡ (has_read k reads || same_grain r.grain k)
has-read-more k reads r = list_any-append (λ (x : Read). same_grain x.grain k) reads (r ∷ []) ∙ ap (λ t. has_read k reads || t) (or-false (same_grain r.grain k))

-- what a first grant shows is one more read
lock-shown : (w : CoreState) (u : UnitNo) (g : GrainId) (mode : Mode) → ReadsHeld w → w.units.phase u ≡ Running → holds_lock u (w.cells.holds g) ≡ false → (x : UnitNo) →
    put w.units.reads u (w.units.reads u ++ read_of g (top (put_grain w.cells.stack g (cleaned w g) g)) ∷ []) x
    ≡ with_read (w.units.reads x) (if same_unit u x then Some (read_of g (top (cleaned w g))) else None)
lock-shown w u g mode held running free x = put-at w.units.reads u _ (λ t. t ≡ with_read (w.units.reads x) (if same_unit u x then Some (read_of g (top (cleaned w g))) else None)) x
    (λ e. (let unread : has_read g (w.units.reads x) ≡ false =
    held x g (ap is_over (ap w.units.phase e ∙ running)) ∙ sym (lock-mode x (w.cells.holds g)) ∙ ap (λ z. holds_lock z (w.cells.holds g)) e ∙ free in
    ap (λ t. w.units.reads u ++ read_of g (top t) ∷ []) (grain-same w.cells.stack g (cleaned w g))
    ∙ ap (λ z. w.units.reads z ++ read_of g (top (cleaned w g)) ∷ []) (sym e)
    ∙ sym (cond-false (has_read g (w.units.reads x)) (w.units.reads x) (w.units.reads x ++ read_of g (top (cleaned w g)) ∷ []) unread)
    ∙ ap (with_read (w.units.reads x)) (sym (cond-true (same_unit u x) (Some (read_of g (top (cleaned w g)))) None (same_unit-is u x (sym e))))))
    (λ e. ap (with_read (w.units.reads x)) (sym (cond-false (same_unit u x) (Some (read_of g (top (cleaned w g)))) None (same_unit-not u x (λ z. e (sym z))))))

-- a later grant of the grain shows no new read
raise-shown : (w : CoreState) (u : UnitNo) (g : GrainId) → ReadsHeld w → w.units.phase u ≡ Running → holds_lock u (w.cells.holds g) ≡ true → (x : UnitNo) →
    w.units.reads x ≡ with_read (w.units.reads x) (if same_unit u x then Some (read_of g (top (cleaned w g))) else None)
raise-shown w u g held running own x = elim (cases_unit x u) [
  | inl e ↦ (let read : has_read g (w.units.reads x) ≡ true =
      held x g (ap is_over (ap w.units.phase e ∙ running)) ∙ sym (lock-mode x (w.cells.holds g)) ∙ ap (λ z. holds_lock z (w.cells.holds g)) e ∙ own in
      sym (cond-true (has_read g (w.units.reads x)) (w.units.reads x) (w.units.reads x ++ read_of g (top (cleaned w g)) ∷ []) read)
      ∙ ap (with_read (w.units.reads x)) (sym (cond-true (same_unit u x) (Some (read_of g (top (cleaned w g)))) None (same_unit-is u x (sym e)))))
  | inr e ↦ ap (with_read (w.units.reads x)) (sym (cond-false (same_unit u x) (Some (read_of g (top (cleaned w g)))) None (same_unit-not u x (λ z. e (sym z)))))
]

-- the reads after an event
pub reads-after : (w : CoreState) (e : CoreEvent) (w' : CoreState) → Change w e w' → ReadsHeld w → (x : UnitNo) → w'.units.reads x ≡ with_read (w.units.reads x) (shown x e (reply_with w e))
reads-after w e w' (lock u g mode running free first here) held x = lock-shown w u g mode held running first x
reads-after w e w' (raise u g mode running free own here uncovered) held x = raise-shown w u g held running own x
reads-after w e w' c held x = refl

-- who isn't over wasn't over
over-before : (w : CoreState) (e : CoreEvent) (w' : CoreState) → Change w e w' → Fresh w.units.next w.units.phase → (x : UnitNo) → is_over (w'.units.phase x) ≡ false → is_over (w.units.phase x) ≡ false
over-before w e w' (begin origin call plain c) fresh x = put-from w.units.phase (new_unit w) Running (λ p. is_over p ≡ false) (is_over (w.units.phase x) ≡ false) x (λ q o. ap (λ z. is_over (w.units.phase z)) q ∙ ap is_over (fresh (new_unit w) (le_refl w.units.next))) (λ q o. o)
over-before w e w' (refuse u g mode why running q) fresh x = put-from w.units.phase u Refused (λ p. is_over p ≡ false) (is_over (w.units.phase x) ≡ false) x (λ q o. cc) (λ q o. o)
over-before w e w' (finish u effect running plain of_call reads alone) fresh x = put-from w.units.phase u Finished (λ p. is_over p ≡ false) (is_over (w.units.phase x) ≡ false) x (λ q o. cc) (λ q o. o)
over-before w e w' (end_plain u effect running plain of_call bare) fresh x = put-from w.units.phase u Ended (λ p. is_over p ≡ false) (is_over (w.units.phase x) ≡ false) x (λ q o. cc) (λ q o. o)
over-before w e w' (end_snapshot u at outcome running plain kids answer) fresh x = put-from w.units.phase u Ended (λ p. is_over p ≡ false) (is_over (w.units.phase x) ≡ false) x (λ q o. cc) (λ q o. o)
over-before w e w' c fresh x = λ o. o

-- a grant reads the grain where the unit holds it from then on
read-held : (w : CoreState) (u : UnitNo) (g : GrainId) (mode : Mode) (e : CoreEvent) (reads' : UnitNo → List Read) → ReadsHeld w → (x : UnitNo) (k : GrainId) → is_over (w.units.phase x) ≡ false →
    ((x ≡ u) → has_read k (reads' x) ≡ (has_read k (w.units.reads x) || same_grain g k)) → ((x ≡ u → ⊥) → reads' x ≡ w.units.reads x) →
    has_read k (reads' x) ≡ is_some (if same_unit u x && same_grain g k then Some mode else mode_of x (w.cells.holds k))
read-held w u g mode e reads' held x k o own other = elim (cases_unit x u) [
  | inl q ↦ elim (cases_Bool (same_grain g k)) [
    | inl s ↦ own q ∙ or_right (has_read k (w.units.reads x)) (same_grain g k) s
        ∙ sym (ap is_some (cond-true (same_unit u x && same_grain g k) (Some mode) (mode_of x (w.cells.holds k)) (and_from (same_unit u x) (same_grain g k) (same_unit-is u x (sym q)) s)))
    | inr s ↦ own q ∙ ap (λ t. has_read k (w.units.reads x) || t) s ∙ or-false (has_read k (w.units.reads x)) ∙ held x k o
        ∙ sym (ap is_some (cond-false (same_unit u x && same_grain g k) (Some mode) (mode_of x (w.cells.holds k)) (and_right (same_unit u x) (same_grain g k) s)))
  ]
  | inr q ↦ ap (has_read k) (other q) ∙ held x k o ∙ sym (ap is_some (cond-false (same_unit u x && same_grain g k) (Some mode) (mode_of x (w.cells.holds k)) (and_left (same_unit u x) (same_grain g k) (same_unit-not u x (λ z. q (sym z))))))
]

-- who is not over has read exactly what it holds, after an event
pub held-after : (w : CoreState) (e : CoreEvent) (w' : CoreState) → Change w e w' → Fresh w.units.next w.units.phase → ReadsHeld w → ReadsHeld w'
held-after w e w' (lock u g mode running free first here) fresh held = λ x k o.
    read-held w u g mode e (put w.units.reads u (w.units.reads u ++ read_of g (top (put_grain w.cells.stack g (cleaned w g) g)) ∷ [])) held x k o
    (λ q. ap (has_read k) (put-is w.units.reads u (w.units.reads u ++ read_of g (top (put_grain w.cells.stack g (cleaned w g) g)) ∷ []) x q) ∙ has-read-more k (w.units.reads u) (read_of g (top (put_grain w.cells.stack g (cleaned w g) g))) ∙ ap (λ z. has_read k (w.units.reads z) || same_grain g k) (sym q))
    (λ q. put-other w.units.reads u (w.units.reads u ++ read_of g (top (put_grain w.cells.stack g (cleaned w g) g)) ∷ []) x q)
    ∙ sym (ap is_some (mode-after w e w' (lock u g mode running free first here) x k))
held-after w e w' (raise u g mode running free own here uncovered) fresh held = λ x k o.
    read-held w u g mode e w.units.reads held x k o
    (λ q. sym (elim (cases_Bool (same_grain g k)) [
      | inl s ↦ (let read : has_read k (w.units.reads x) ≡ true =
          held x k o ∙ sym (lock-mode x (w.cells.holds k)) ∙ (λ i. holds_lock (q i) (w.cells.holds (sym (same_grain-true g k s) i))) ∙ own in
          ap (λ t. t || same_grain g k) read ∙ sym read)
      | inr s ↦ ap (λ t. has_read k (w.units.reads x) || t) s ∙ or-false (has_read k (w.units.reads x))
    ]))
    (λ q. refl)
    ∙ sym (ap is_some (mode-after w e w' (raise u g mode running free own here uncovered) x k))
held-after w e w' (release u g over own) fresh held = λ x k o.
    held x k o
    ∙ sym (ap is_some (mode-after w e w' (release u g over own) x k
    ∙ cond-false (same_unit u x && same_grain g k) None (mode_of x (w.cells.holds k)) (not-both u x g k (λ q z. (let t : true ≡ false = sym over ∙ ap (λ y. is_over (w.units.phase y)) (sym q) ∙ o in cc)))))
held-after w e w' c fresh held = λ x k o. held x k (over-before w e w' c fresh x o)

-- what is written after an event
pub writes-after : (w : CoreState) (e : CoreEvent) (w' : CoreState) → Change w e w' → (x : UnitNo) (last : Option Effect) → w.manager.writes x ≡ writes_of last → w'.manager.writes x ≡ writes_of (effect_after x last e)
writes-after w e w' (finish u effect running plain of_call reads alone) x last q = put-at w.manager.writes u effect.writes (λ t. t ≡ writes_of (if same_unit u x then Some effect else last)) x
    (λ z. ap writes_of (sym (cond-true (same_unit u x) (Some effect) last (same_unit-is u x (sym z)))))
    (λ z. q ∙ ap writes_of (sym (cond-false (same_unit u x) (Some effect) last (same_unit-not u x (λ y. z (sym y))))))
writes-after w e w' c x last q = q

-- the result of a finished unit
abbrev pub ResultIs : CoreState → UnitNo → Option Effect → Type 0
ResultIs w x last = w.units.phase x ≡ Finished → option_map (λ (effect : Effect). effect.result) last ≡ Some (w.manager.result x)

-- the result stays where another unit gets a phase
result-put : (w : CoreState) (u : UnitNo) (end : Phase) (x : UnitNo) (last : Option Effect) → (end ≡ Finished → ⊥) → ResultIs w x last →
    put w.units.phase u end x ≡ Finished → option_map (λ (effect : Effect). effect.result) last ≡ Some (w.manager.result x)
result-put w u end x last n s = put-from w.units.phase u end (λ p. p ≡ Finished) (option_map (λ (effect : Effect). effect.result) last ≡ Some (w.manager.result x)) x (λ q f. absurd (n f)) (λ q f. s f)

result-ended : (w : CoreState) (u : UnitNo) (result : Outcome) (x : UnitNo) (last : Option Effect) → ResultIs w x last →
    put w.units.phase u Ended x ≡ Finished → option_map (λ (effect : Effect). effect.result) last ≡ Some (put w.manager.result u result x)
result-ended w u result x last s = put-from w.units.phase u Ended (λ p. p ≡ Finished) (option_map (λ (effect : Effect). effect.result) last ≡ Some (put w.manager.result u result x)) x (λ q f. cc) (λ q f. s f ∙ ap Some (sym (put-other w.manager.result u result x q)))

-- the result after an event
pub result-after : (w : CoreState) (e : CoreEvent) (w' : CoreState) → Change w e w' → (x : UnitNo) (last : Option Effect) → ResultIs w x last → ResultIs w' x (effect_after x last e)
result-after w e w' (finish u effect running plain of_call reads alone) x last s = λ f. elim (cases_unit x u) [
  | inl z ↦ ap (option_map (λ (effect : Effect). effect.result)) (cond-true (same_unit u x) (Some effect) last (same_unit-is u x (sym z))) ∙ ap Some (sym (put-is w.manager.result u effect.result x z))
  | inr z ↦ ap (option_map (λ (effect : Effect). effect.result)) (cond-false (same_unit u x) (Some effect) last (same_unit-not u x (λ y. z (sym y)))) ∙ s (sym (put-other w.units.phase u Finished x z) ∙ f) ∙ ap Some (sym (put-other w.manager.result u effect.result x z))
]
result-after w e w' (begin origin call plain c) x last s = result-put w (new_unit w) Running x last (λ z. cc) s
result-after w e w' (refuse u g mode why running q) x last s = result-put w u Refused x last (λ z. cc) s
result-after w e w' (end_plain u effect running plain of_call bare) x last s = result-ended w u effect.result x last s
result-after w e w' (end_snapshot u at outcome running plain kids answer) x last s = result-ended w u outcome x last s
result-after w e w' c x last s = s
