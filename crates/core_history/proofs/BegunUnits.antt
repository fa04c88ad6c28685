-- Which unit began for which line, read off a history.
use Rattle.std.proofs.Common.{◌≡◌, ℕ, List, [], ◌∷◌, Bool, ◌⊎◌, inl, inr, sym, ap, ◌∙◌, subst}
use Rattle.std.specs.Prelude.{◌↔◌}
use Rattle.base_types.specs.declared.calls.Origin.TheVariants.{Line}
use Rattle.cell_model.proofs.Units.{cases_unit, Member-append, Member-left, Member-last}
use Rattle.core_model.specs.declared.events.CoreEvent.{CoreEvent}
use Rattle.core_model.specs.declared.events.CoreEvent.TheVariants.{Begin}
use Rattle.core_model.specs.declared.events.CoreReply.TheVariants as reply
use Rattle.core_model.specs.declared.phases.Phase.{Phase}
use Rattle.core_model.specs.declared.phases.Phase.TheVariants.{Unborn, Running, Finished, Refused, Ended}
use Rattle.core_model.specs.CoreState.{UnitNo, Call, CoreState, Member, put}
use Rattle.core_model.specs.Lines.{HasBegunFor}
use Rattle.core_model.specs.Changes.{new_unit}
use Rattle.core_laws.proofs.EventCases.{Change, begin, refuse, finish, end_plain, end_snapshot}
use Rattle.core_laws.proofs.Puts.{put-at, put-is, put-other}
use Rattle.core_history.specs.Histories.{Applied}
use Rattle.core_history.specs.Units.{BeganFor}
use Rattle.core_history.proofs.Words.{more}
use Rattle.core_history.proofs.RunHistory.{answered}

-- who began for a line by the state began for it by the history, and the other way round
abbrev pub LinesOf : List Applied → CoreState → Type 0
LinesOf h w = (u : UnitNo) (n : ℕ) → HasBegunFor w u n ↔ BeganFor h u n

-- a unit's begin for a line, with its reply
abbrev began : UnitNo → ℕ → Call → Bool → Applied
began u n call plain = record { event = Begin (Line n) call plain; reply = reply.Began u }

line-before : (h : List Applied) (a : Applied) (u : UnitNo) (n : ℕ) → BeganFor h u n → BeganFor (more h a) u n
line-before h a u n t = (t.0, (t.1.0, Member-left (began u n t.0 t.1.0) h (a ∷ []) t.1.1))

line-cases : (h : List Applied) (a : Applied) (u : UnitNo) (n : ℕ) → BeganFor (more h a) u n → BeganFor h u n ⊎ ((call : Call) × ((plain : Bool) × (began u n call plain ≡ a)))
line-cases h a u n t = elim (Member-append (began u n t.0 t.1.0) h (a ∷ []) t.1.1) [
  | inl m ↦ inl (t.0, (t.1.0, m))
  | inr m ↦ elim m [ inl q ↦ inr (t.0, (t.1.0, q)) | inr q ↦ absurd q ]
]

-- a running unit that gets another phase had begun
born-before : (h : List Applied) (a : Applied) (w : CoreState) (v : UnitNo) (end : Phase) → w.units.phase v ≡ Running → LinesOf h w → (u : UnitNo) (n : ℕ) → (put w.units.phase v end u ≡ Unborn → ⊥) × (w.units.origin u ≡ Line n) → BeganFor (more h a) u n
born-before h a w v end running s u n b =
    line-before h a u n ((s u n).0 ((λ q. b.0 (put-other w.units.phase v end u (λ z. (let t : Unborn ≡ Running = sym q ∙ ap w.units.phase z ∙ running in cc)) ∙ q)), b.1))

born-after : (w : CoreState) (v : UnitNo) (end : Phase) → (end ≡ Unborn → ⊥) → (u : UnitNo) → (w.units.phase u ≡ Unborn → ⊥) → put w.units.phase v end u ≡ Unborn → ⊥
born-after w v end n u b = put-at w.units.phase v end (λ p. p ≡ Unborn → ⊥) u (λ q. n) (λ q. b)

-- who began for a line by the state, began for it by the history
lines-to : (h : List Applied) (w : CoreState) (e : CoreEvent) (w' : CoreState) → Change w e w' → LinesOf h w → (u : UnitNo) (n : ℕ) → HasBegunFor w' u n → BeganFor (more h (answered w e)) u n
lines-to h w e w' (begin origin call plain c) s u n b = elim (cases_unit u (new_unit w)) [
  | inl q ↦ (let p = sym b.1 ∙ put-is w.units.origin (new_unit w) origin u q in
      let is : began u n call plain ≡ answered w (Begin origin call plain) = λ i. record { event = Begin (p i) call plain; reply = reply.Began (q i) } in
      (call, (plain, subst (λ z. Member z (more h (answered w (Begin origin call plain)))) (sym is) (Member-last (answered w (Begin origin call plain)) h))))
  | inr q ↦ line-before h (answered w (Begin origin call plain)) u n ((s u n).0 ((λ z. b.0 (put-other w.units.phase (new_unit w) Running u q ∙ z)), sym (put-other w.units.origin (new_unit w) origin u q) ∙ b.1))
]
lines-to h w e w' (refuse v g mode why running q) s u n b = born-before h (answered w e) w v Refused running s u n b
lines-to h w e w' (finish v effect running plain of_call reads alone) s u n b = born-before h (answered w e) w v Finished running s u n b
lines-to h w e w' (end_plain v effect running plain of_call bare) s u n b = born-before h (answered w e) w v Ended running s u n b
lines-to h w e w' (end_snapshot v at outcome running plain kids answer) s u n b = born-before h (answered w e) w v Ended running s u n b
lines-to h w e w' c s u n b = line-before h (answered w e) u n ((s u n).0 b)

-- and the other way round
lines-from : (h : List Applied) (w : CoreState) (e : CoreEvent) (w' : CoreState) → Change w e w' → w.units.phase (new_unit w) ≡ Unborn → LinesOf h w → (u : UnitNo) (n : ℕ) → BeganFor (more h (answered w e)) u n → HasBegunFor w' u n
lines-from h w e w' (begin origin call plain c) fresh s u n b = elim (line-cases h (answered w (Begin origin call plain)) u n b) [
  | inl o ↦ (let t = (s u n).1 o in
      (born-after w (new_unit w) Running (λ z. cc) u t.0, put-other w.units.origin (new_unit w) origin u (λ q. t.0 (ap w.units.phase q ∙ fresh)) ∙ t.1))
  | inr t ↦ (let event : Begin (Line n) t.0 t.1.0 ≡ Begin origin call plain = ap (λ (z : Applied). z.event) t.1.1 in
      let told : reply.Began u ≡ reply.Began (new_unit w) = ap (λ (z : Applied). z.reply) t.1.1 in
      let is : u ≡ new_unit w = cc in
      let line : origin ≡ Line n = cc in (
        (λ z. (let y : Running ≡ Unborn = sym (put-is w.units.phase (new_unit w) Running u is) ∙ z in cc)),
        put-is w.units.origin (new_unit w) origin u is ∙ line,
      ))
]
lines-from h w e w' (refuse v g mode why running q) fresh s u n b = elim (line-cases h (answered w e) u n b) [
  | inl o ↦ (let t = (s u n).1 o in (born-after w v Refused (λ z. cc) u t.0, t.1))
  | inr t ↦ (let y = ap (λ (z : Applied). z.event) t.1.1 in cc)
]
lines-from h w e w' (finish v effect running plain of_call reads alone) fresh s u n b = elim (line-cases h (answered w e) u n b) [
  | inl o ↦ (let t = (s u n).1 o in (born-after w v Finished (λ z. cc) u t.0, t.1))
  | inr t ↦ (let y = ap (λ (z : Applied). z.event) t.1.1 in cc)
]
lines-from h w e w' (end_plain v effect running plain of_call bare) fresh s u n b = elim (line-cases h (answered w e) u n b) [
  | inl o ↦ (let t = (s u n).1 o in (born-after w v Ended (λ z. cc) u t.0, t.1))
  | inr t ↦ (let y = ap (λ (z : Applied). z.event) t.1.1 in cc)
]
lines-from h w e w' (end_snapshot v at outcome running plain kids answer) fresh s u n b = elim (line-cases h (answered w e) u n b) [
  | inl o ↦ (let t = (s u n).1 o in (born-after w v Ended (λ z. cc) u t.0, t.1))
  | inr t ↦ (let y = ap (λ (z : Applied). z.event) t.1.1 in cc)
]
lines-from h w e w' c fresh s u n b = elim (line-cases h (answered w e) u n b) [
  | inl o ↦ (s u n).1 o
  | inr t ↦ (let y = ap (λ (z : Applied). z.event) t.1.1 in cc)
]

-- the lines after an event
pub lines-after : (h : List Applied) (w : CoreState) (e : CoreEvent) (w' : CoreState) → Change w e w' → w.units.phase (new_unit w) ≡ Unborn → LinesOf h w → LinesOf (more h (answered w e)) w'
lines-after h w e w' c fresh s u n = (lines-to h w e w' c s u n, lines-from h w e w' c fresh s u n)
