-- The dead and the committed, read off a history.
use Rattle.std.proofs.Common.{◌≡◌, ℕ, zero, suc, ◌+◌, ◌<◌, ◌≤◌, List, [], ◌∷◌, ◌++◌, length, Bool, true, false, ◌&&◌, not, ◌⊎◌, inl, inr, refl, sym, ap, ◌∙◌, subst, arith, Option, Some, None, le_refl}
use Rattle.std.specs.List.{list_any as any}
use Rattle.std.proofs.lemmas.Bool.{or_cases, or_left, or_right, and_parts, and_from, not-true, cond_both}
use Rattle.std.proofs.lemmas.List.Folds.{list_any-append}
use Rattle.cell_model.specs.declared.outcomes.Decision.{Decision}
use Rattle.cell_model.specs.declared.outcomes.Decision.TheVariants as decision
use Rattle.cell_model.specs.Decisions.{is_commit}
use Rattle.cell_model.proofs.Units.{any-false, same_grain-true, same_grain-is, Member-left}
use Rattle.core_model.specs.declared.events.CoreEvent.{CoreEvent}
use Rattle.core_model.specs.declared.events.CoreEvent.TheVariants.{Refuse, Take, Vote, Decide, Sealed, NotSealed, Doubt}
use Rattle.core_model.specs.declared.effects.Read.{Read}
use Rattle.core_model.specs.declared.phases.Phase.TheVariants.{Running, Finished}
use Rattle.core_model.specs.declared.phases.Verdict.{Verdict}
use Rattle.core_model.specs.declared.phases.Verdict.TheVariants.{Chosen, Committed, Aborted}
use Rattle.core_model.specs.CoreState.{UnitNo, GrainId, Mode, Value, Batch, CoreState, Member}
use Rattle.core_model.specs.Tests.{is_bad, is_good, is_final, state_written, members, has_failed, is_vote_on}
use Rattle.core_model.specs.Chains.{WroteGrain}
use Rattle.core_model.specs.DeadUnits.{IsDead, itself, by_source as dead_source}
use Rattle.core_model.specs.Changes.{new_batch, decisions_of, judged, verdict_of}
use Rattle.core_model.specs.Events.{applies, batch_size, reply_with}
use Rattle.core_laws.proofs.EventCases.{Change, refuse, finish, take_batch, vote, decide_some, decide_none, seal_batch, spoil_batch, doubt_batch}
use Rattle.core_laws.proofs.Puts.{put-from, put-is, put-other}
use Rattle.core_laws.proofs.Basics.{is_final-cases}
use Rattle.core_laws.proofs.Growth.{Grows, seal-bad as seal-bads}
use Rattle.core_laws.proofs.Alive.{good-alive}
use Rattle.core_laws.proofs.Failures.{failed-some, failed-none}
use Rattle.core_laws.proofs.Consistency.{depends-earlier}
use Rattle.core_laws.proofs.Reasons.{Reason, argued-decided, member-finished}
use Rattle.core_laws.proofs.Orders.{judged-other}
use Rattle.core_laws.proofs.CommitOrder.{no_doubt, seal-final, leave-committed}
use Rattle.core_history.specs.Histories.{Applied, Happened}
use Rattle.core_history.specs.Units.{with_read, has_read, shown, reads_in, WroteIn}
use Rattle.core_history.specs.Batches.{InBatch}
use Rattle.core_history.specs.Fates.{IsDeadIn, IsCommittedIn, refused, voted_down, not_sealed, by_source}
use Rattle.core_history.proofs.Words.{some-is, more, reads-more, happened-before, happened-now, happened-cases}
use Rattle.core_history.proofs.RunHistory.{answered}
use Rattle.core_history.specs.States.{open_sizes}
use Rattle.core_history.proofs.TakenBatches.{Parted}
use Rattle.core_history.proofs.AnyEvents.{Tells}
use Rattle.core_history.proofs.BatchPlaces.{batch-finished, batch-count, batch-before, batch-cases, open-batch, open-member}
use Rattle.core_history.proofs.Cores.{Core, chosen-member, chosen-undecided, member-judged, spoil-aborted, seal-bad, leave-bad, spoil-bad, seal-committed, spoil-committed, reasons-at}
use Rattle.core_laws.proofs.Verdicts.{member-or-not}

-- the batch that an event speaks of, 0 where it speaks of none
abbrev pub number_of : CoreEvent → ℕ
number_of (Vote n g kept) = n
number_of (Decide n) = n
number_of (Sealed n) = n
number_of (NotSealed n) = n
number_of (Doubt n) = n
number_of e = 0

-- what the history tells of verdicts and votes
pub record Fates (h : List Applied) (verdict : UnitNo → Verdict) (batches : ℕ) (batch : Option Batch) : Type 0 where
  pub numbers : (e : CoreEvent) → Happened h e → number_of e ≤ batches
  pub undecided : (b : Batch) → batch ≡ Some b → b.decisions ≡ None → Happened h (Decide b.number) → ⊥
  pub failed : (b : Batch) (g : GrainId) → batch ≡ Some b → has_failed b.votes g ≡ true → Happened h (Vote b.number g false)
  pub voted : (b : Batch) (g : GrainId) → batch ≡ Some b → Happened h (Vote b.number g false) → has_failed b.votes g ≡ true
  pub refusals : (u : UnitNo) (g : GrainId) (mode : Mode) → Happened h (Refuse u g mode) → verdict u ≡ Aborted
  pub down : (n : ℕ) (u : UnitNo) (g : GrainId) → InBatch h n u → Happened h (Decide n) → WroteIn h u g → Happened h (Vote n g false) → is_bad (verdict u) ≡ true
  pub ends : (n : ℕ) (u : UnitNo) → InBatch h n u → Happened h (Sealed n) → is_final (verdict u) ≡ true
  pub spoils : (n : ℕ) (u : UnitNo) → InBatch h n u → Happened h (NotSealed n) → verdict u ≡ Aborted
  pub dies : (u : UnitNo) → is_bad (verdict u) ≡ true → IsDeadIn h u
  pub commits : (u : UnitNo) → verdict u ≡ Committed → (n : ℕ) × InBatch h n u × Happened h (Sealed n)

-- that of a state
abbrev pub FatesOf : List Applied → CoreState → Type 0
FatesOf h w = Fates h w.manager.verdict w.manager.batches w.manager.batch

-- what is known where an event applies
pub record Step (opening : GrainId → List Value) (h : List Applied) (w : CoreState) (e : CoreEvent) (w' : CoreState) : Type 0 where
  pub core : Core opening w
  pub told : Tells h w
  pub next : Tells (more h (answered w e)) w'
  pub fates : FatesOf h w
  pub applied : applies w e ≡ true
  pub grows : Grows w w'

-- what a unit wrote, by the state and by the history
pub wrote-in : (h : List Applied) (w : CoreState) → Tells h w → (u : UnitNo) (g : GrainId) → WroteGrain w.manager.writes u g → WroteIn h u g
wrote-in h w t u g wr = (wr.0, ap (state_written g) (sym (t.writes u)) ∙ wr.1)

pub wrote-by : (h : List Applied) (w : CoreState) → Tells h w → (u : UnitNo) (g : GrainId) → WroteIn h u g → WroteGrain w.manager.writes u g
wrote-by h w t u g wr = (wr.0, ap (state_written g) (t.writes u) ∙ wr.1)

-- what a finished unit wrote stays
writes-stay : (w : CoreState) (e : CoreEvent) (w' : CoreState) → Change w e w' → (u : UnitNo) → w.units.phase u ≡ Finished → w'.manager.writes u ≡ w.manager.writes u
writes-stay w e w' (finish x effect running plain of_call reads alone) u f = put-other w.manager.writes x effect.writes u (λ q. (let t : Finished ≡ Running = sym f ∙ ap w.units.phase q ∙ running in cc))
writes-stay w e w' c u f = refl

-- what a unit of a batch wrote stays what it wrote
wrote-more : (opening : GrainId → List Value) (h : List Applied) (w : CoreState) (e : CoreEvent) (w' : CoreState) → Change w e w' → Step opening h w e w' → (n : ℕ) (u : UnitNo) (g : GrainId) → InBatch h n u → WroteIn h u g → WroteIn (more h (answered w e)) u g
wrote-more opening h w e w' c s n u g b wr =
    let t = wrote-by h w s.told u g wr in
    wrote-in (more h (answered w e)) w' s.next u g (t.0, ap (state_written g) (writes-stay w e w' c u (batch-finished opening h w s.core.kept s.told n u b)) ∙ t.1)

-- and was so before
wrote-less : (opening : GrainId → List Value) (h : List Applied) (w : CoreState) (e : CoreEvent) (w' : CoreState) → Change w e w' → Step opening h w e w' → (n : ℕ) (u : UnitNo) (g : GrainId) → InBatch h n u → WroteIn (more h (answered w e)) u g → WroteGrain w.manager.writes u g
wrote-less opening h w e w' c s n u g b wr =
    let t = wrote-by (more h (answered w e)) w' s.next u g wr in
    (t.0, ap (state_written g) (sym (writes-stay w e w' c u (batch-finished opening h w s.core.kept s.told n u b))) ∙ t.1)

-- what was read stays read
pub read-stays : (reads : List Read) (o : Option Read) (r : Read) → Member r reads → Member r (with_read reads o)
read-stays reads None r m = m
read-stays reads (Some x) r m = cond_both (has_read x.grain reads) reads (reads ++ x ∷ []) (Member r) (λ e. m) (λ e. Member-left r reads (x ∷ []) m)

-- the dead stay dead
pub dead-more : (opening : GrainId → List Value) (h : List Applied) (w : CoreState) (e : CoreEvent) (w' : CoreState) → Change w e w' → Step opening h w e w' → (u : UnitNo) → IsDeadIn h u → IsDeadIn (more h (answered w e)) u
dead-more opening h w e w' c s u (refused g mode m) = refused g mode (happened-before h (answered w e) (Refuse u g mode) m)
dead-more opening h w e w' c s u (voted_down n g b d wr v) =
    voted_down n g (batch-before h (answered w e) n u b) (happened-before h (answered w e) (Decide n) d) (wrote-more opening h w e w' c s n u g b wr) (happened-before h (answered w e) (Vote n g false) v)
dead-more opening h w e w' c s u (not_sealed n b m) = not_sealed n (batch-before h (answered w e) n u b) (happened-before h (answered w e) (NotSealed n) m)
dead-more opening h w e w' c s u (by_source r m d) =
    by_source r (subst (Member r) (sym (reads-more u h (answered w e))) (read-stays (reads_in u h) (shown u e (reply_with w e)) r m)) (dead-more opening h w e w' c s r.source d)

-- the open batch has the last number
open-number : (w : CoreState) (b : Batch) → Parted w → w.manager.batch ≡ Some b → b.number ≡ w.manager.batches
open-number w b p q = p.3 b q ∙ sym (p.2 ∙ ap (λ o. length w.manager.past + length (open_sizes o)) q)

-- no batch goes
batches-grow : (w : CoreState) (e : CoreEvent) (w' : CoreState) → Change w e w' → w.manager.batches ≤ w'.manager.batches
batches-grow w e w' (take_batch none some) = omega arith
batches-grow w e w' c = le_refl w.manager.batches

-- an event speaks of a batch that was taken
number-now : (w : CoreState) (e : CoreEvent) (w' : CoreState) → Change w e w' → Parted w → number_of e ≤ w'.manager.batches
number-now w e w' (vote n g kept b q number d planned fresh) p = omega (arith, number, open-number w b p q)
number-now w e w' (decide_some n b q number d voted some) p = omega (arith, number, open-number w b p q)
number-now w e w' (decide_none n b q number d voted none) p = omega (arith, number, open-number w b p q)
number-now w e w' (seal_batch n b ds q number d) p = omega (arith, number, open-number w b p q)
number-now w e w' (spoil_batch n b ds q number d) p = omega (arith, number, open-number w b p q)
number-now w e w' (doubt_batch n b ds q number d) p = omega (arith, number, open-number w b p q)
number-now w e w' c p = omega arith

-- events speak of batches that were taken
numbers-after : (opening : GrainId → List Value) (h : List Applied) (w : CoreState) (e : CoreEvent) (w' : CoreState) → Change w e w' → Step opening h w e w' → (x : CoreEvent) → Happened (more h (answered w e)) x → number_of x ≤ w'.manager.batches
numbers-after opening h w e w' c s x m = elim (happened-cases h (answered w e) x m) [
  | inl old ↦ omega (arith, s.fates.numbers x old, batches-grow w e w' c)
  | inr q ↦ subst (λ z. number_of z ≤ w'.manager.batches) (sym q) (number-now w e w' c s.told.parted)
]

-- what speaks of a later batch hasn't happened
too-late : (opening : GrainId → List Value) (h : List Applied) (w : CoreState) (e : CoreEvent) (w' : CoreState) → Step opening h w e w' → (x : CoreEvent) → Happened h x → w.manager.batches + 1 ≤ number_of x → ⊥
too-late opening h w e w' s x m le = omega (arith, s.fates.numbers x m, le)

-- an undecided batch has had no decision
undecided-after : (opening : GrainId → List Value) (h : List Applied) (w : CoreState) (e : CoreEvent) (w' : CoreState) → Change w e w' → Step opening h w e w' → (c : Batch) → w'.manager.batch ≡ Some c → c.decisions ≡ None →
    Happened (more h (answered w e)) (Decide c.number) → ⊥
undecided-after opening h w e w' (take_batch none some) s c z n = λ m.
    (let is = ap (λ (t : Batch). t.number) (some-is _ c z) in
    elim (happened-cases h (answered w Take) (Decide c.number) m) [ inl old ↦ too-late opening h w e w' s (Decide c.number) old (omega (arith, is)) | inr q ↦ cc ])
undecided-after opening h w e w' (vote m g kept b q number d planned fresh) s c z n = λ x.
    (let is : c.number ≡ b.number = ap (λ (t : Batch). t.number) (sym (some-is (record b { votes = b.votes ++ (g, kept) ∷ [] }) c z)) in
    elim (happened-cases h (answered w (Vote m g kept)) (Decide c.number) x) [ inl old ↦ s.fates.undecided b q d (subst (λ k. Happened h (Decide k)) is old) | inr y ↦ cc ])
undecided-after opening h w e w' (decide_some m b q number d voted some) s c z n = (let y : Some (decisions_of w b) ≡ None = ap (λ (t : Batch). t.decisions) (some-is (record b { decisions = Some (decisions_of w b) }) c z) ∙ n in cc)
undecided-after opening h w e w' (decide_none m b q number d voted none) s c z n = cc
undecided-after opening h w e w' (seal_batch m b ds q number d) s c z n = cc
undecided-after opening h w e w' (spoil_batch m b ds q number d) s c z n = cc
undecided-after opening h w e w' (doubt_batch m b ds q number d) s c z n = cc
undecided-after opening h w e w' ch s c z n = λ x. elim (happened-cases h (answered w e) (Decide c.number) x) [ inl old ↦ s.fates.undecided c z n old | inr y ↦ cc ]

-- a file that failed after one more vote
failed-more : (votes : List (GrainId × Bool)) (k : GrainId) (kept : Bool) (g : GrainId) → has_failed (votes ++ (k, kept) ∷ []) g ≡ true → (has_failed votes g ≡ true) ⊎ ((g ≡ k) × (kept ≡ false))
failed-more votes k kept g e =
    elim (or_cases (has_failed votes g) (has_failed ((k, kept) ∷ []) g) (sym (list_any-append (λ (v : GrainId × Bool). is_vote_on g v && not v.1) votes ((k, kept) ∷ [])) ∙ e)) [
      | inl o ↦ inl o
      | inr o ↦ elim (or_cases (is_vote_on g (k, kept) && not kept) false o) [
        | inl t ↦ (let p = and_parts (is_vote_on g (k, kept)) (not kept) t in inr (sym (same_grain-true k g p.0), not-true kept p.1))
        | inr t ↦ cc
      ]
    ]

failed-now : (votes : List (GrainId × Bool)) (k : GrainId) (g : GrainId) → g ≡ k → has_failed (votes ++ (k, false) ∷ []) g ≡ true
failed-now votes k g e =
    list_any-append (λ (v : GrainId × Bool). is_vote_on g v && not v.1) votes ((k, false) ∷ [])
    ∙ or_right (has_failed votes g) (has_failed ((k, false) ∷ []) g) (or_left (is_vote_on g (k, false) && true) false (and_from (is_vote_on g (k, false)) true (same_grain-is k g (sym e)) refl))

failed-before : (votes : List (GrainId × Bool)) (k : GrainId) (kept : Bool) (g : GrainId) → has_failed votes g ≡ true → has_failed (votes ++ (k, kept) ∷ []) g ≡ true
failed-before votes k kept g e = list_any-append (λ (v : GrainId × Bool). is_vote_on g v && not v.1) votes ((k, kept) ∷ []) ∙ or_left (has_failed votes g) (has_failed ((k, kept) ∷ []) g) e

-- a file that failed has its vote of no
failed-after : (opening : GrainId → List Value) (h : List Applied) (w : CoreState) (e : CoreEvent) (w' : CoreState) → Change w e w' → Step opening h w e w' → (c : Batch) (k : GrainId) → w'.manager.batch ≡ Some c → has_failed c.votes k ≡ true →
    Happened (more h (answered w e)) (Vote c.number k false)
failed-after opening h w e w' (take_batch none some) s c k z f = (let y : false ≡ true = ap (λ (t : Batch). has_failed t.votes k) (some-is (new_batch w (batch_size w)) c z) ∙ f in cc)
failed-after opening h w e w' (vote m g kept b q number d planned fresh) s c k z f =
    (let is : record b { votes = b.votes ++ (g, kept) ∷ [] } ≡ c = some-is (record b { votes = b.votes ++ (g, kept) ∷ [] }) c z in
    subst (λ (t : Batch). Happened (more h (answered w (Vote m g kept))) (Vote t.number k false)) is
    (elim (failed-more b.votes g kept k (ap (λ (t : Batch). has_failed t.votes k) is ∙ f)) [
      | inl old ↦ happened-before h (answered w (Vote m g kept)) (Vote b.number k false) (s.fates.failed b k q old)
      | inr new ↦ subst (Happened (more h (answered w (Vote m g kept)))) (λ i. Vote (sym number i) (sym new.0 i) (new.1 i)) (happened-now h (answered w (Vote m g kept)))
    ]))
failed-after opening h w e w' (decide_some m b q number d voted some) s c k z f =
    (let is : record b { decisions = Some (decisions_of w b) } ≡ c = some-is (record b { decisions = Some (decisions_of w b) }) c z in
    subst (λ (t : Batch). Happened (more h (answered w (Decide m))) (Vote t.number k false)) is
    (happened-before h (answered w (Decide m)) (Vote b.number k false) (s.fates.failed b k q (ap (λ (t : Batch). has_failed t.votes k) is ∙ f))))
failed-after opening h w e w' (decide_none m b q number d voted none) s c k z f = cc
failed-after opening h w e w' (seal_batch m b ds q number d) s c k z f = cc
failed-after opening h w e w' (spoil_batch m b ds q number d) s c k z f = cc
failed-after opening h w e w' (doubt_batch m b ds q number d) s c k z f = cc
failed-after opening h w e w' ch s c k z f = happened-before h (answered w e) (Vote c.number k false) (s.fates.failed c k z f)

-- and a vote of no is of a file that failed
voted-after : (opening : GrainId → List Value) (h : List Applied) (w : CoreState) (e : CoreEvent) (w' : CoreState) → Change w e w' → Step opening h w e w' → (c : Batch) (k : GrainId) → w'.manager.batch ≡ Some c →
    Happened (more h (answered w e)) (Vote c.number k false) → has_failed c.votes k ≡ true
voted-after opening h w e w' (take_batch none some) s c k z = λ m.
    (let is = ap (λ (t : Batch). t.number) (some-is _ c z) in
    elim (happened-cases h (answered w Take) (Vote c.number k false) m) [ inl old ↦ absurd (too-late opening h w e w' s (Vote c.number k false) old (omega (arith, is))) | inr q ↦ cc ])
voted-after opening h w e w' (vote m g kept b q number d planned fresh) s c k z = λ x.
    (let is : record b { votes = b.votes ++ (g, kept) ∷ [] } ≡ c = some-is (record b { votes = b.votes ++ (g, kept) ∷ [] }) c z in
    subst (λ (t : Batch). has_failed t.votes k ≡ true) is
    (elim (happened-cases h (answered w (Vote m g kept)) (Vote b.number k false) (subst (λ (t : Batch). Happened (more h (answered w (Vote m g kept))) (Vote t.number k false)) (sym is) x)) [
      | inl old ↦ failed-before b.votes g kept k (s.fates.voted b k q old)
      | inr y ↦ (let no : kept ≡ false = cc in let at : k ≡ g = cc in subst (λ t. has_failed (b.votes ++ (g, t) ∷ []) k ≡ true) (sym no) (failed-now b.votes g k at))
    ]))
voted-after opening h w e w' (decide_some m b q number d voted some) s c k z = λ x.
    (let is : record b { decisions = Some (decisions_of w b) } ≡ c = some-is (record b { decisions = Some (decisions_of w b) }) c z in
    subst (λ (t : Batch). has_failed t.votes k ≡ true) is
    (elim (happened-cases h (answered w (Decide m)) (Vote b.number k false) (subst (λ (t : Batch). Happened (more h (answered w (Decide m))) (Vote t.number k false)) (sym is) x)) [
      | inl old ↦ s.fates.voted b k q old
      | inr y ↦ cc
    ]))
voted-after opening h w e w' (decide_none m b q number d voted none) s c k z = cc
voted-after opening h w e w' (seal_batch m b ds q number d) s c k z = cc
voted-after opening h w e w' (spoil_batch m b ds q number d) s c k z = cc
voted-after opening h w e w' (doubt_batch m b ds q number d) s c k z = cc
voted-after opening h w e w' ch s c k z = λ x. elim (happened-cases h (answered w e) (Vote c.number k false) x) [ inl old ↦ s.fates.voted c k z old | inr y ↦ cc ]

-- a refusal
refused-now : (w : CoreState) (e : CoreEvent) (w' : CoreState) → Change w e w' → (u : UnitNo) (g : GrainId) (mode : Mode) → Refuse u g mode ≡ e → w'.manager.verdict u ≡ Aborted
refused-now w e w' (refuse x k m why running q) u g mode z = (let is : u ≡ x = cc in put-is w.manager.verdict x Aborted u is)
refused-now w e w' c u g mode z = cc

-- who was refused is aborted
refusals-after : (opening : GrainId → List Value) (h : List Applied) (w : CoreState) (e : CoreEvent) (w' : CoreState) → Change w e w' → Step opening h w e w' → (u : UnitNo) (g : GrainId) (mode : Mode) → Happened (more h (answered w e)) (Refuse u g mode) → w'.manager.verdict u ≡ Aborted
refusals-after opening h w e w' c s u g mode m = elim (happened-cases h (answered w e) (Refuse u g mode) m) [
  | inl old ↦ (let a = s.fates.refusals u g mode old in s.grows.1 u (ap is_final a) ∙ a)
  | inr q ↦ refused-now w e w' c u g mode q
]

-- no batch is new where something has happened in it
pub old-batch : (opening : GrainId → List Value) (h : List Applied) (w : CoreState) (e : CoreEvent) (w' : CoreState) → Step opening h w e w' → (n : ℕ) (u : UnitNo) (x : CoreEvent) → number_of x ≡ n → (x ≡ Take → ⊥) → InBatch (more h (answered w e)) n u → Happened (more h (answered w e)) x → InBatch h n u
old-batch opening h w e w' s n u x is not_take b m = elim (batch-cases h (answered w e) n u b) [
  | inl o ↦ o
  | inr t ↦ elim (happened-cases h (answered w e) x m) [
    | inl old ↦ absurd (too-late opening h w e w' s x old (omega (arith, t.1, batch-count h w s.told, is)))
    | inr q ↦ absurd (not_take (q ∙ t.0))
  ]
]

-- the verdicts of a batch that is decided now
pub decided-reason : (opening : GrainId → List Value) (h : List Applied) (w : CoreState) (e : CoreEvent) (w' : CoreState) → Step opening h w e w' → (b : Batch) → w.manager.batch ≡ Some b → b.decisions ≡ None → (x : UnitNo) → Member x (members w b) →
    (d : Decision) × Member d (decisions_of w b) × (judged (members w b) (decisions_of w b) w.manager.verdict x ≡ verdict_of d) × Reason b.votes (w.manager.writes x) (w.units.deps x) (judged (members w b) (decisions_of w b) w.manager.verdict) d
decided-reason opening h w e w' s b q d x m =
    reasons-at b.votes w.manager.writes w.units.deps (judged (members w b) (decisions_of w b) w.manager.verdict) (members w b) (decisions_of w b) x (argued-decided opening w b s.core.kept s.core.depends q d) m

-- whose file failed is to abort
decided-down : (opening : GrainId → List Value) (h : List Applied) (w : CoreState) (e : CoreEvent) (w' : CoreState) → Step opening h w e w' → (b : Batch) → w.manager.batch ≡ Some b → b.decisions ≡ None → (x : UnitNo) (g : GrainId) → InBatch h b.number x → WroteGrain w.manager.writes x g →
    Happened h (Vote b.number g false) → is_bad (judged (members w b) (decisions_of w b) w.manager.verdict x) ≡ true
decided-down opening h w e w' s b q d x g i wr v = (let t = decided-reason opening h w e w' s b q d x (open-member h w b s.told q x i) in go t.0 t.2 t.3)
  where
    f : has_failed b.votes g ≡ true
    f = s.fates.voted b g q v

    go : (c : Decision) → judged (members w b) (decisions_of w b) w.manager.verdict x ≡ verdict_of c → Reason b.votes (w.manager.writes x) (w.units.deps x) (judged (members w b) (decisions_of w b) w.manager.verdict) c →
        is_bad (judged (members w b) (decisions_of w b) w.manager.verdict x) ≡ true
    go decision.Commit e r = (let z : true ≡ false = sym f ∙ failed-none b.votes (w.manager.writes x) r.0 g wr in cc)
    go (decision.Vote k) e r = ap is_bad e
    go (decision.Dependency on) e r = (let z : true ≡ false = sym f ∙ failed-none b.votes (w.manager.writes x) r.0 g wr in cc)

-- a decision aborts whose file failed
down-now : (opening : GrainId → List Value) (h : List Applied) (w : CoreState) (e : CoreEvent) (w' : CoreState) → Change w e w' → Step opening h w e w' → (n : ℕ) (u : UnitNo) (g : GrainId) → Decide n ≡ e → InBatch h n u → WroteGrain w.manager.writes u g → Happened h (Vote n g false) → is_bad (w'.manager.verdict u) ≡ true
down-now opening h w e w' (decide_some m b q number d voted some) s n u g z i wr v =
    (let is : n ≡ b.number = (let y : n ≡ m = cc in y ∙ sym number) in
    decided-down opening h w (Decide m) w' s b q d u g (subst (λ k. InBatch h k u) is i) wr (subst (λ k. Happened h (Vote k g false)) is v))
down-now opening h w e w' (decide_none m b q number d voted none) s n u g z i wr v =
    (let is : n ≡ b.number = (let y : n ≡ m = cc in y ∙ sym number) in
    seal-bads (judged (members w b) (decisions_of w b) w.manager.verdict u) (decided-down opening h w (Decide m) w' s b q d u g (subst (λ k. InBatch h k u) is i) wr (subst (λ k. Happened h (Vote k g false)) is v)))
down-now opening h w e w' c s n u g z i wr v = cc

-- no vote comes after the decision
vote-now : (opening : GrainId → List Value) (h : List Applied) (w : CoreState) (e : CoreEvent) (w' : CoreState) → Change w e w' → Step opening h w e w' → (n : ℕ) (g : GrainId) → Vote n g false ≡ e → Happened h (Decide n) → ⊥
vote-now opening h w e w' (vote m k kept b q number d planned fresh) s n g z x = (let is : n ≡ m = cc in s.fates.undecided b q d (subst (λ y. Happened h (Decide y)) (is ∙ sym number) x))
vote-now opening h w e w' c s n g z x = cc

-- who was voted down is to abort
down-after : (opening : GrainId → List Value) (h : List Applied) (w : CoreState) (e : CoreEvent) (w' : CoreState) → Change w e w' → Step opening h w e w' → (n : ℕ) (u : UnitNo) (g : GrainId) → InBatch (more h (answered w e)) n u → Happened (more h (answered w e)) (Decide n) →
    WroteIn (more h (answered w e)) u g → Happened (more h (answered w e)) (Vote n g false) → is_bad (w'.manager.verdict u) ≡ true
down-after opening h w e w' c s n u g i d wr v =
    let b = old-batch opening h w e w' s n u (Decide n) refl (λ q. cc) i d in
    let wrote = wrote-less opening h w e w' c s n u g b wr in
    elim (happened-cases h (answered w e) (Decide n) d) [
      | inl old ↦ elim (happened-cases h (answered w e) (Vote n g false) v) [
        | inl old_vote ↦ s.grows.0 u (s.fates.down n u g b old (wrote-in h w s.told u g wrote) old_vote)
        | inr q ↦ absurd (vote-now opening h w e w' c s n g q old)
      ]
      | inr q ↦ elim (happened-cases h (answered w e) (Vote n g false) v) [
        | inl old_vote ↦ down-now opening h w e w' c s n u g q b wrote old_vote
        | inr p ↦ (let z : Decide n ≡ Vote n g false = q ∙ sym p in cc)
      ]
    ]

-- a batch that comes to disk is decided for good
sealed-now : (opening : GrainId → List Value) (h : List Applied) (w : CoreState) (e : CoreEvent) (w' : CoreState) → Change w e w' → Step opening h w e w' → (n : ℕ) (u : UnitNo) → Sealed n ≡ e → InBatch h n u → is_final (w'.manager.verdict u) ≡ true
sealed-now opening h w e w' (seal_batch m b ds q number d) s n u z i =
    (let is : n ≡ b.number = (let y : n ≡ m = cc in y ∙ sym number) in
    seal-final (w.manager.verdict u) (member-judged opening w b ds s.core q d u (open-member h w b s.told q u (subst (λ k. InBatch h k u) is i))).0)
sealed-now opening h w e w' c s n u z i = cc

-- and stays so
ends-after : (opening : GrainId → List Value) (h : List Applied) (w : CoreState) (e : CoreEvent) (w' : CoreState) → Change w e w' → Step opening h w e w' → (n : ℕ) (u : UnitNo) → InBatch (more h (answered w e)) n u → Happened (more h (answered w e)) (Sealed n) → is_final (w'.manager.verdict u) ≡ true
ends-after opening h w e w' c s n u i m =
    let b = old-batch opening h w e w' s n u (Sealed n) refl (λ q. cc) i m in
    elim (happened-cases h (answered w e) (Sealed n) m) [
      | inl old ↦ (let f = s.fates.ends n u b old in ap is_final (s.grows.1 u f) ∙ f)
      | inr q ↦ sealed-now opening h w e w' c s n u q b
    ]

-- a batch that never will be on disk is aborted
spoiled-now : (opening : GrainId → List Value) (h : List Applied) (w : CoreState) (e : CoreEvent) (w' : CoreState) → Change w e w' → Step opening h w e w' → (n : ℕ) (u : UnitNo) → NotSealed n ≡ e → InBatch h n u → w'.manager.verdict u ≡ Aborted
spoiled-now opening h w e w' (spoil_batch m b ds q number d) s n u z i =
    (let is : n ≡ b.number = (let y : n ≡ m = cc in y ∙ sym number) in
    let t = member-judged opening w b ds s.core q d u (open-member h w b s.told q u (subst (λ k. InBatch h k u) is i)) in
    spoil-aborted (w.manager.verdict u) t.0 t.1)
spoiled-now opening h w e w' c s n u z i = cc

-- and stays so
spoils-after : (opening : GrainId → List Value) (h : List Applied) (w : CoreState) (e : CoreEvent) (w' : CoreState) → Change w e w' → Step opening h w e w' → (n : ℕ) (u : UnitNo) → InBatch (more h (answered w e)) n u → Happened (more h (answered w e)) (NotSealed n) → w'.manager.verdict u ≡ Aborted
spoils-after opening h w e w' c s n u i m =
    let b = old-batch opening h w e w' s n u (NotSealed n) refl (λ q. cc) i m in
    elim (happened-cases h (answered w e) (NotSealed n) m) [
      | inl old ↦ (let f = s.fates.spoils n u b old in s.grows.1 u (ap is_final f) ∙ f)
      | inr q ↦ spoiled-now opening h w e w' c s n u q b
    ]

-- Who is to abort by a decision is dead. The history goes on with that decision; the units are taken by their places.
decided-dies : (opening : GrainId → List Value) (h : List Applied) (w : CoreState) (m : ℕ) (w' : CoreState) → Change w (Decide m) w' → Step opening h w (Decide m) w' → (b : Batch) → w.manager.batch ≡ Some b → b.number ≡ m → b.decisions ≡ None →
    ((u : UnitNo) → w.units.reads u ≡ reads_in u (more h (answered w (Decide m)))) → (k : ℕ) (x : UnitNo) → w.manager.place x < k → w.units.phase x ≡ Finished → is_bad (judged (members w b) (decisions_of w b) w.manager.verdict x) ≡ true →
    IsDeadIn (more h (answered w (Decide m))) x
decided-dies opening h w m w' c s b q number d reads zero x lt f bd = absurd (omega (arith, lt))
decided-dies opening h w m w' c s b q number d reads (suc k) x lt f bd = elim (member-or-not x (members w b)) [
  | inr n ↦ dead-more opening h w (Decide m) w' c s x (s.fates.dies x (ap is_bad (sym (judged-other (members w b) (decisions_of w b) w.manager.verdict x n)) ∙ bd))
  | inl y ↦ (let t = decided-reason opening h w (Decide m) w' s b q d x y in
      go y (λ on fin le z. decided-dies opening h w m w' c s b q number d reads k on (omega (arith, le, lt)) fin z) t.0 t.2 t.3)
]
  where
    v : UnitNo → Verdict
    v = judged (members w b) (decisions_of w b) w.manager.verdict

    h' : List Applied
    h' = more h (answered w (Decide m))

    go : Member x (members w b) → ((on : UnitNo) → w.units.phase on ≡ Finished → w.manager.place on < w.manager.place x → is_bad (v on) ≡ true → IsDeadIn h' on) →
        (c : Decision) → v x ≡ verdict_of c → Reason b.votes (w.manager.writes x) (w.units.deps x) v c → IsDeadIn h' x
    go y ih decision.Commit e r = (let z : false ≡ true = sym (ap is_bad e) ∙ bd in cc)
    go y ih (decision.Vote g) e r =
        let t = failed-some b.votes (w.manager.writes x) g r in
        let i = open-batch h w b s.told q x y in
        voted_down b.number g (batch-before h (answered w (Decide m)) b.number x i) (subst (λ n. Happened h' (Decide n)) (sym number) (happened-now h (answered w (Decide m))))
        (wrote-more opening h w (Decide m) w' c s b.number x g i (wrote-in h w s.told x g t.0))
        (happened-before h (answered w (Decide m)) (Vote b.number g false) (s.fates.failed b g q t.1))
    go y ih (decision.Dependency on) e r =
        let a = depends-earlier opening _ w s.core.kept.0 s.core.depends x on f r.1 in
        let t = s.core.depends.1 x on r.1 in
        by_source t.0 (subst (Member t.0) (reads x) t.1) (subst (IsDeadIn h') (sym t.2) (ih on a.0 a.1 r.2))

-- the same of every unit
pub decided-dead : (opening : GrainId → List Value) (h : List Applied) (w : CoreState) (m : ℕ) (w' : CoreState) → Change w (Decide m) w' → Step opening h w (Decide m) w' → (b : Batch) → w.manager.batch ≡ Some b → b.number ≡ m → b.decisions ≡ None →
    ((u : UnitNo) → w.units.reads u ≡ reads_in u (more h (answered w (Decide m)))) → (x : UnitNo) → is_bad (judged (members w b) (decisions_of w b) w.manager.verdict x) ≡ true → IsDeadIn (more h (answered w (Decide m))) x
decided-dead opening h w m w' c s b q number d reads x bd = elim (member-or-not x (members w b)) [
  | inr n ↦ dead-more opening h w (Decide m) w' c s x (s.fates.dies x (ap is_bad (sym (judged-other (members w b) (decisions_of w b) w.manager.verdict x n)) ∙ bd))
  | inl y ↦ decided-dies opening h w m w' c s b q number d reads (suc (w.manager.place x)) x (omega arith) (member-finished opening w b s.core.kept x y) bd
]

-- who is aborted, or to abort, is dead by the history
dies-after : (opening : GrainId → List Value) (h : List Applied) (w : CoreState) (e : CoreEvent) (w' : CoreState) → Change w e w' → Step opening h w e w' → (x : UnitNo) → is_bad (w'.manager.verdict x) ≡ true → IsDeadIn (more h (answered w e)) x
dies-after opening h w e w' (refuse u g mode why running q) s x =
    put-from w.manager.verdict u Aborted (λ v. is_bad v ≡ true) (IsDeadIn (more h (answered w (Refuse u g mode))) x) x
    (λ z bd. refused g mode (subst (λ y. Happened (more h (answered w (Refuse u g mode))) (Refuse y g mode)) (sym z) (happened-now h (answered w (Refuse u g mode)))))
    (λ z bd. dead-more opening h w (Refuse u g mode) w' (refuse u g mode why running q) s x (s.fates.dies x bd))
dies-after opening h w e w' (decide_some m b q number d voted some) s x = λ bd. decided-dead opening h w m w' (decide_some m b q number d voted some) s b q number d s.next.reads x bd
dies-after opening h w e w' (decide_none m b q number d voted none) s x =
    λ bd. decided-dead opening h w m w' (decide_none m b q number d voted none) s b q number d s.next.reads x (seal-bad (judged (members w b) (decisions_of w b) w.manager.verdict x) bd)
dies-after opening h w e w' (seal_batch m b ds q number d) s x = λ bd. dead-more opening h w (Sealed m) w' (seal_batch m b ds q number d) s x (s.fates.dies x (seal-bad (w.manager.verdict x) bd))
dies-after opening h w e w' (spoil_batch m b ds q number d) s x = λ bd. elim (spoil-bad (w.manager.verdict x) bd) [
  | inl z ↦ dead-more opening h w (NotSealed m) w' (spoil_batch m b ds q number d) s x (s.fates.dies x z)
  | inr z ↦ (let i = open-batch h w b s.told q x (chosen-member opening w b ds s.core (no_doubt w (NotSealed m) s.applied refl) q d x z) in
      not_sealed b.number (batch-before h (answered w (NotSealed m)) b.number x i) (subst (λ n. Happened (more h (answered w (NotSealed m))) (NotSealed n)) (sym number) (happened-now h (answered w (NotSealed m)))))
]
dies-after opening h w e w' (doubt_batch m b ds q number d) s x = λ bd. dead-more opening h w (Doubt m) w' (doubt_batch m b ds q number d) s x (s.fates.dies x (leave-bad (w.manager.verdict x) bd))
dies-after opening h w e w' c s x = λ bd. dead-more opening h w e w' c s x (s.fates.dies x bd)

-- where something is committed, it stays
commits-more : (h : List Applied) (a : Applied) (x : UnitNo) → (n : ℕ) × InBatch h n x × Happened h (Sealed n) → (n : ℕ) × InBatch (more h a) n x × Happened (more h a) (Sealed n)
commits-more h a x t = (t.0, batch-before h a t.0 x t.1, happened-before h a (Sealed t.0) t.2)

-- a decision commits nobody for good, and chooses nobody where no unit commits
judged-committed : (opening : GrainId → List Value) (h : List Applied) (w : CoreState) (e : CoreEvent) (w' : CoreState) → Step opening h w e w' → (b : Batch) → w.manager.batch ≡ Some b → b.decisions ≡ None → (x : UnitNo) →
    judged (members w b) (decisions_of w b) w.manager.verdict x ≡ Committed → w.manager.verdict x ≡ Committed
judged-committed opening h w e w' s b q d x j = elim (member-or-not x (members w b)) [
  | inr n ↦ sym (judged-other (members w b) (decisions_of w b) w.manager.verdict x n) ∙ j
  | inl y ↦ (let t = decided-reason opening h w e w' s b q d x y in absurd (go t.0 (sym t.2 ∙ j)))
]
  where
    go : (c : Decision) → verdict_of c ≡ Committed → ⊥
    go decision.Commit e = cc
    go (decision.Vote g) e = cc
    go (decision.Dependency on) e = cc

-- nobody is to commit where no decision commits
pub judged-chosen : (opening : GrainId → List Value) (h : List Applied) (w : CoreState) (e : CoreEvent) (w' : CoreState) → Step opening h w e w' → (b : Batch) → w.manager.batch ≡ Some b → b.decisions ≡ None → w.manager.doubt ≡ None → any is_commit (decisions_of w b) ≡ false → (x : UnitNo) →
    judged (members w b) (decisions_of w b) w.manager.verdict x ≡ Chosen → ⊥
judged-chosen opening h w e w' s b q d none nobodys x j = elim (member-or-not x (members w b)) [
  | inr n ↦ chosen-undecided opening w b s.core none q d x (sym (judged-other (members w b) (decisions_of w b) w.manager.verdict x n) ∙ j)
  | inl y ↦ (let t = decided-reason opening h w e w' s b q d x y in go t.0 (any-false is_commit (decisions_of w b) nobodys t.0 t.1) (sym t.2 ∙ j))
]
  where
    go : (c : Decision) → is_commit c ≡ false → verdict_of c ≡ Chosen → ⊥
    go decision.Commit n e = cc
    go (decision.Vote g) n e = cc
    go (decision.Dependency on) n e = cc

-- who is committed has its batch on disk
commits-after : (opening : GrainId → List Value) (h : List Applied) (w : CoreState) (e : CoreEvent) (w' : CoreState) → Change w e w' → Step opening h w e w' → (x : UnitNo) → w'.manager.verdict x ≡ Committed →
    (n : ℕ) × InBatch (more h (answered w e)) n x × Happened (more h (answered w e)) (Sealed n)
commits-after opening h w e w' (refuse u g mode why running q) s x =
    put-from w.manager.verdict u Aborted (λ v. v ≡ Committed) ((n : ℕ) × InBatch (more h (answered w (Refuse u g mode))) n x × Happened (more h (answered w (Refuse u g mode))) (Sealed n)) x
    (λ z v. cc) (λ z v. commits-more h (answered w (Refuse u g mode)) x (s.fates.commits x v))
commits-after opening h w e w' (decide_some m b q number d voted some) s x = λ v. commits-more h (answered w (Decide m)) x (s.fates.commits x (judged-committed opening h w (Decide m) w' s b q d x v))
commits-after opening h w e w' (decide_none m b q number d voted none) s x = λ v. elim (seal-committed (judged (members w b) (decisions_of w b) w.manager.verdict x) v) [
  | inl j ↦ commits-more h (answered w (Decide m)) x (s.fates.commits x (judged-committed opening h w (Decide m) w' s b q d x j))
  | inr j ↦ absurd (judged-chosen opening h w (Decide m) w' s b q d (no_doubt w (Decide m) s.applied refl) none x j)
]
commits-after opening h w e w' (seal_batch m b ds q number d) s x = λ v. elim (seal-committed (w.manager.verdict x) v) [
  | inl z ↦ commits-more h (answered w (Sealed m)) x (s.fates.commits x z)
  | inr z ↦ (let i = open-batch h w b s.told q x (chosen-member opening w b ds s.core (no_doubt w (Sealed m) s.applied refl) q d x z) in
      (b.number, batch-before h (answered w (Sealed m)) b.number x i, subst (λ n. Happened (more h (answered w (Sealed m))) (Sealed n)) (sym number) (happened-now h (answered w (Sealed m)))))
]
commits-after opening h w e w' (spoil_batch m b ds q number d) s x = λ v. commits-more h (answered w (NotSealed m)) x (s.fates.commits x (spoil-committed (w.manager.verdict x) v))
commits-after opening h w e w' (doubt_batch m b ds q number d) s x = λ v. commits-more h (answered w (Doubt m)) x (s.fates.commits x (leave-committed (w.manager.verdict x) v))
commits-after opening h w e w' c s x = λ v. commits-more h (answered w e) x (s.fates.commits x v)

-- all that after an event
pub fates-after : (opening : GrainId → List Value) (h : List Applied) (w : CoreState) (e : CoreEvent) (w' : CoreState) → Change w e w' → Step opening h w e w' → FatesOf (more h (answered w e)) w'
fates-after opening h w e w' c s = record {
  numbers = numbers-after opening h w e w' c s;
  undecided = undecided-after opening h w e w' c s;
  failed = failed-after opening h w e w' c s;
  voted = voted-after opening h w e w' c s;
  refusals = refusals-after opening h w e w' c s;
  down = down-after opening h w e w' c s;
  ends = ends-after opening h w e w' c s;
  spoils = spoils-after opening h w e w' c s;
  dies = dies-after opening h w e w' c s;
  commits = commits-after opening h w e w' c s;
}

-- who is dead by the state is dead by the history
pub dead-in : (h : List Applied) (w : CoreState) → Tells h w → FatesOf h w → (u : UnitNo) → IsDead w u → IsDeadIn h u
dead-in h w t f u (itself e) = f.dies u e
dead-in h w t f u (dead_source r m d) = by_source r (subst (Member r) (t.reads u) m) (dead-in h w t f r.source d)

-- and the other way round
pub dead-by : (h : List Applied) (w : CoreState) → Tells h w → FatesOf h w → (u : UnitNo) → IsDeadIn h u → IsDead w u
dead-by h w t f u (refused g mode m) = itself (ap is_bad (f.refusals u g mode m))
dead-by h w t f u (voted_down n g b d wr v) = itself (f.down n u g b d wr v)
dead-by h w t f u (not_sealed n b m) = itself (ap is_bad (f.spoils n u b m))
dead-by h w t f u (by_source r m d) = dead_source r (subst (Member r) (sym (t.reads u)) m) (dead-by h w t f r.source d)

-- who is committed by the state is so by the history
pub committed-in : (opening : GrainId → List Value) (h : List Applied) (w : CoreState) → Core opening w → Tells h w → FatesOf h w → (u : UnitNo) → w.manager.verdict u ≡ Committed → IsCommittedIn h u
committed-in opening h w c t f u v =
    let x = f.commits u v in
    (x.0, x.1, x.2, λ d. good-alive opening _ w c.kept.0 u (ap is_good v) (dead-by h w t f u d))

pub committed-by : (h : List Applied) (w : CoreState) → Tells h w → FatesOf h w → (u : UnitNo) → IsCommittedIn h u → w.manager.verdict u ≡ Committed
committed-by h w t f u c = elim (is_final-cases (w.manager.verdict u) (f.ends c.0 u c.1 c.2)) [
  | inl v ↦ v
  | inr v ↦ absurd (c.3 (f.dies u (ap is_bad v)))
]
