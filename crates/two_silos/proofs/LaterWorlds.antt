-- Commits and logs only grow at their end, no two decisions of one transaction differ, and no number is given twice.
use Rattle.std.proofs.Common.{◌≡◌, ℕ, List, [], ◌∷◌, ◌++◌, length, get_or, ◌+◌, Bool, true, false, not, inl, inr, refl, sym, ap, ◌∙◌, subst, Option, Some, None, append_assoc, append-nil}
use Rattle.std.specs.Prelude.{ℤ, ◌&&◌, ◌||◌, ◌==◌, nat_lt, slice_set, if◌then◌else◌}
use Rattle.std.proofs.lemmas.Bool.{cond_both, and_parts, ltb-true}
use Rattle.two_silos.specs.Nodes.{Ask, Decision, Done, GrainId, Packet, Part, Pending, Prepare, Prepared, TxnId, Vote}
use Rattle.silo_nodes.specs.Packets.{Member, Distinct}
use Rattle.silo_nodes.specs.Logs.{is_prepared, is_done}
use Rattle.silo_nodes.specs.Node.{is_busy, can_prepare, log_prepare, log_decision}
use Rattle.silo_nodes.specs.LogCache.{Node, opening_in}
use Rattle.silo_nodes.specs.Participants.{learned, answers, questions}
use Rattle.silo_nodes.specs.Coordinators.{Coordination, parts_from, begun, find, is_unanimous, with_decision, agreed, voted}
use Rattle.silo_nodes.proofs.Lists.{Member-append}
use Rattle.two_silos.specs.World.{World, WorldEvent, Start, Deliver, NudgeCoordinator, Nudge, RestartCoordinator, Restart, node_at, log_at, can_start, next_txn, started, handed, send, delivered, does, is_within, step, run, begin, parts_in}
use Rattle.two_silos.specs.Promise.{IsOpening}
use Rattle.base_types.specs.Lists.{IsPrefix}
use Rattle.two_silos.specs.LaterWorlds.{IsLater, given_by, given_in, KeepsPart}
use Rattle.two_silos.proofs.Invariant.{Issued, Inv, set-at, unissued}
use Rattle.two_silos.proofs.SmallChanges.{opening_of}
use Rattle.two_silos.proofs.KeptInvariant.{kept}
use Rattle.two_silos.proofs.Ends.{run-more}
use Rattle.two_silos.proofs.NodeAnswers.{busy-by}
use Rattle.two_silos.proofs.StartedTransactions.{stays-step, next-issued}

-- ---- fronts

front-same : {A : Type 0} (xs : List A) → IsPrefix xs xs
front-same xs = ([], sym (append-nil xs))

front-on : {A : Type 0} (xs ys zs : List A) → IsPrefix xs ys → IsPrefix ys zs → IsPrefix xs zs
front-on xs ys zs h k = (h.0 ++ k.0, k.1 ∙ ap (λ l. l ++ k.0) h.1 ∙ append_assoc xs h.0 k.0)

-- the commits after a vote
voted-front : (c : Coordination) (t : TxnId) (n : ℕ) (b : Bool) (o : Option Pending) → IsPrefix c.commits (voted c t n b o).commits
voted-front c t n false None = front-same c.commits
voted-front c t n true None = front-same c.commits
voted-front c t n false (Some p) = front-same c.commits
voted-front c t n true (Some p) =
    cond_both (is_unanimous p.parts (n ∷ p.yes)) (with_decision c t true) (record c { pending = agreed t n c.pending }) (λ (d : Coordination). IsPrefix c.commits d.commits)
    (λ e. (t ∷ [], refl)) (λ e. front-same c.commits)

begun-front : (c : Coordination) (qs : List Part) → IsPrefix c.commits (begun c qs).commits
begun-front c [] = (record { epoch = c.epoch; number = c.number + 1 } ∷ [], refl)
begun-front c (q ∷ qs) = front-same c.commits

-- a participant's log after a packet
learned-front : (node : Node) (k : Packet) → IsPrefix node.log (learned node k).log
learned-front node (Prepare t to s) = go (to == node.number)
  where
    longer : IsPrefix node.log (log_prepare (opening_in node.opening) node.log t s)
    longer =
        cond_both (is_done node.log t || is_prepared node.log t) node.log (if can_prepare (opening_in node.opening) node.log s then node.log ++ Prepared t s ∷ [] else node.log) (IsPrefix node.log)
        (λ e. front-same node.log) (λ e. cond_both (can_prepare (opening_in node.opening) node.log s) (node.log ++ Prepared t s ∷ []) node.log (IsPrefix node.log) (λ f. (Prepared t s ∷ [], refl)) (λ f. front-same node.log))

    go : (b : Bool) → IsPrefix node.log ((if b then record node { log = log_prepare (opening_in node.opening) node.log t s } else node).log)
    go true = longer
    go false = front-same node.log
learned-front node (Vote t from' b) = front-same node.log
learned-front node (Decision t to c) = go (to == node.number)
  where
    longer : IsPrefix node.log (log_decision node.log t c)
    longer = cond_both (is_prepared node.log t && not (is_done node.log t)) (node.log ++ Done t c ∷ []) node.log (IsPrefix node.log) (λ e. (Done t c ∷ [], refl)) (λ e. front-same node.log)

    go : (b : Bool) → IsPrefix node.log ((if b then record node { log = log_decision node.log t c } else node).log)
    go true = longer
    go false = front-same node.log
learned-front node (Ask t from') = front-same node.log

-- ---- worlds

later-same : (w : World) → IsLater w w
later-same w = record { commits = front-same w.coordinator.commits; logs = λ n. front-same (log_at w.nodes n) }

later-coordinator : (w : World) (c : Coordination) (ps : List Packet) → IsPrefix w.coordinator.commits c.commits → IsLater w (record w { coordinator = c; packets = ps })
later-coordinator w c ps h = record { commits = h; logs = λ n. front-same (log_at w.nodes n) }

later-handed : (w : World) (k : ℕ) (p : Packet) → IsLater w (handed w k p)
later-handed w k p =
    cond_both (nat_lt k (length w.nodes)) (record w { nodes = slice_set w.nodes k (learned (node_at w.nodes k) p); packets = w.packets ++ answers (node_at w.nodes k) p }) w (IsLater w)
    (λ e. record {
      commits = front-same w.coordinator.commits;
      logs = λ n. set-at w.nodes k (learned (node_at w.nodes k) p) (IsPrefix (log_at w.nodes n)) n (ltb-true k (length w.nodes) e)
          (λ q. subst (λ m. IsPrefix (log_at w.nodes m) (learned (node_at w.nodes k) p).log) (sym q) (learned-front (node_at w.nodes k) p)) (λ q. front-same (log_at w.nodes n));
    })
    (λ e. later-same w)

later-delivered : (w : World) (p : Packet) → IsLater w (delivered w p)
later-delivered w (Prepare t n s) = later-handed w n (Prepare t n s)
later-delivered w (Vote t n b) = later-coordinator w _ _ (voted-front w.coordinator t n b (find t w.coordinator.pending))
later-delivered w (Decision t n c) = later-handed w n (Decision t n c)
later-delivered w (Ask t n) = later-coordinator w _ _ (front-same w.coordinator.commits)

later-does : (w : World) (e : WorldEvent) → IsLater w (does w e)
later-does w (Start lists) =
    cond_both (can_start w lists) (started w (parts_from 0 lists)) w (IsLater w) (λ e. later-coordinator w _ _ (begun-front w.coordinator (parts_from 0 lists))) (λ e. later-same w)
later-does w (Deliver k) =
    cond_both (nat_lt k (length w.packets)) (delivered w (get_or w.packets k (Ask (next_txn w) 0))) w (IsLater w) (λ e. later-delivered w (get_or w.packets k (Ask (next_txn w) 0))) (λ e. later-same w)
later-does w NudgeCoordinator = later-coordinator w _ _ (front-same w.coordinator.commits)
later-does w (Nudge n) =
    cond_both (nat_lt n (length w.nodes)) (send w (questions (node_at w.nodes n))) w (IsLater w) (λ e. later-coordinator w _ _ (front-same w.coordinator.commits)) (λ e. later-same w)
later-does w RestartCoordinator = later-coordinator w _ _ (front-same w.coordinator.commits)
later-does w (Restart n) = later-same w

later-step : (w : World) (e : WorldEvent) → IsLater w (step w e)
later-step w e = cond_both (is_within (does w e)) (does w e) w (IsLater w) (λ a. later-does w e) (λ a. later-same w)

later-on : (w v u : World) → IsLater w v → IsLater v u → IsLater w u
later-on w v u h k = record {
  commits = front-on w.coordinator.commits v.coordinator.commits u.coordinator.commits h.commits k.commits;
  logs = λ n. front-on (log_at w.nodes n) (log_at v.nodes n) (log_at u.nodes n) (h.logs n) (k.logs n);
}

later-run : (es : List WorldEvent) (w : World) → IsLater w (run w es)
later-run [] w = later-same w
later-run (e ∷ es) w = later-on w (step w e) (run (step w e) es) (later-step w e) (later-run es (step w e))

pub later-ends : (openings : List (List (GrainId × ℤ))) (es more : List WorldEvent) → IsLater (run (begin openings) es) (run (begin openings) (es ++ more))
later-ends openings es more = subst (IsLater (run (begin openings) es)) (sym (run-more es more (begin openings))) (later-run more (run (begin openings) es))

-- ---- decisions

pub one-decision : (openings : List (List (GrainId × ℤ))) (es : List WorldEvent) → IsOpening openings → (t : TxnId) (n m : ℕ) →
    Member (Decision t n true) (run (begin openings) es).packets → Member (Decision t m false) (run (begin openings) es).packets → ⊥
one-decision openings es o t n m yes' no' =
    let i = kept openings es o in
    (i.sent (Decision t m false) no').1 (i.sent (Decision t n true) yes')

-- ---- numbers

-- a number that an event gives wasn't taken, and is taken then
given-new : (w : World) (e : WorldEvent) (t : TxnId) → Member t (given_by w e) → (Issued w t → ⊥) × Issued (step w e) t
given-new w (Start lists) t m =
    cond_both (can_start w lists && is_within (does w (Start lists))) (next_txn w ∷ []) [] (λ l. Member t l → (Issued w t → ⊥) × Issued (step w (Start lists)) t) some (λ e n. absurd n) m
  where
    some : can_start w lists && is_within (does w (Start lists)) ≡ true → Member t (next_txn w ∷ []) → (Issued w t → ⊥) × Issued (step w (Start lists)) t
    some e (inl q) =
        let p = and_parts (can_start w lists) _ e in
        let now : step w (Start lists) ≡ started w (parts_from 0 lists) =
        ap (λ b. if b then does w (Start lists) else w) p.1 ∙ ap (λ b. if b then started w (parts_from 0 lists) else w) p.0 in
        (subst (λ u. Issued w u → ⊥) (sym q) (unissued w (next_txn w) refl refl), subst (λ v. Issued v t) (sym now) (subst (Issued (started w (parts_from 0 lists))) (sym q) (next-issued w (parts_from 0 lists))))
    some e (inr n) = absurd n
given-new w (Deliver k) t m = absurd m
given-new w NudgeCoordinator t m = absurd m
given-new w (Nudge n) t m = absurd m
given-new w RestartCoordinator t m = absurd m
given-new w (Restart n) t m = absurd m

-- an event gives one number at most
given-one : (w : World) (e : WorldEvent) → Distinct (given_by w e)
given-one w (Start lists) = cond_both (can_start w lists && is_within (does w (Start lists))) (next_txn w ∷ []) [] Distinct (λ e. ((λ m. m), tt)) (λ e. tt)
given-one w (Deliver k) = tt
given-one w NudgeCoordinator = tt
given-one w (Nudge n) = tt
given-one w RestartCoordinator = tt
given-one w (Restart n) = tt

distinct-on : {A : Type 0} (xs ys : List A) → Distinct xs → Distinct ys → ((x : A) → Member x xs → Member x ys → ⊥) → Distinct (xs ++ ys)
distinct-on [] ys h k apart = k
distinct-on (x ∷ xs) ys h k apart = (first, distinct-on xs ys h.1 k (λ z m n. apart z (inr m) n))
  where
    first : Member x (xs ++ ys) → ⊥
    first m = elim (Member-append x xs ys m) [ inl a ↦ h.0 a | inr b ↦ apart x (inl refl) b ]

given-later : (es : List WorldEvent) (w : World) (t : TxnId) → Member t (given_in w es) → Issued w t → ⊥
given-later [] w t m i = m
given-later (e ∷ es) w t m i = elim (Member-append t (given_by w e) (given_in (step w e) es) m) [
  | inl a ↦ (given-new w e t a).0 i
  | inr b ↦ given-later es (step w e) t b (stays-step w e t i)
]

pub given-once : (es : List WorldEvent) (w : World) → Distinct (given_in w es)
given-once [] w = tt
given-once (e ∷ es) w = distinct-on (given_by w e) (given_in (step w e) es) (given-one w e) (given-once es (step w e)) (λ t m n. given-later es (step w e) t n (given-new w e t m).1)

-- ---- what keeps a grain

pub kept-by : (openings : List (List (GrainId × ℤ))) (es : List WorldEvent) → IsOpening openings → (n : ℕ) (g : GrainId) → is_busy (log_at (run (begin openings) es).nodes n) g ≡ true →
    KeepsPart (parts_in openings es) (run (begin openings) es) n g
kept-by openings es o n g e = go (run (begin openings) es) (kept openings es o) e
  where
    go : (w : World) → Inv (opening_of openings) (parts_in openings es) w → is_busy (log_at w.nodes n) g ≡ true → KeepsPart (parts_in openings es) w n g
    go w i e =
        let b = busy-by (log_at w.nodes n) g e in
        record { txn = b.0; shifts = b.1; prepared = b.2; waits = b.3; moves = b.4; part = i.logged_part n b.0 b.1 b.2 }

pub kept-alone : (openings : List (List (GrainId × ℤ))) (es : List WorldEvent) → IsOpening openings → (n : ℕ) (g : GrainId) →
    (a b : KeepsPart (parts_in openings es) (run (begin openings) es) n g) → a.txn ≡ b.txn
kept-alone openings es o n g a b =
    let i = kept openings es o in
    (i.sound n).alone a.txn b.txn a.shifts b.shifts g a.prepared b.prepared a.waits b.waits a.moves b.moves
