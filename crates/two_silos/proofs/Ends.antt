-- The promise, from the invariant.
use Rattle.std.proofs.Common.{◌≡◌, ℕ, List, [], ◌∷◌, ◌++◌, length, get_or, Bool, true, false, not, refl, sym, ap, ◌∙◌, subst, Option, Some}
use Rattle.std.specs.Prelude.{ℤ, ◌+ℤ◌, ◌&&◌, ◌||◌, ◌==◌, nat_lt, slice_set, if◌then◌else◌}
use Rattle.std.proofs.lemmas.Bool.{cond_both, ltb-true}
use Rattle.two_silos.specs.Nodes.{Ask, Decision, Done, GrainId, NodeEntry, Packet, Part, Prepare, Prepared, TxnId, Vote}
use Rattle.silo_nodes.specs.Packets.{Member}
use Rattle.silo_nodes.specs.Logs.{is_prepared, is_done, moved_by}
use Rattle.silo_nodes.specs.Node.{is_balance, can_prepare, log_prepare, log_decision}
use Rattle.silo_nodes.specs.LogCache.{Node, opening_in}
use Rattle.silo_nodes.specs.Participants.{learned, answers, questions}
use Rattle.silo_nodes.specs.Coordinators.{parts_from}
use Rattle.silo_nodes.proofs.Lists.{Member-left}
use Rattle.two_silos.specs.World.{World, WorldEvent, Start, Deliver, NudgeCoordinator, Nudge, RestartCoordinator, Restart, node_at, log_at, opening_at, can_start, next_txn, started, send, delivered, handed, does, is_within, step, run, begin, parts_in}
use Rattle.two_silos.specs.Promise.{IsOpening, DecisionsAreKept, CommitsArePrepared, BalanceFollows}
use Rattle.two_silos.proofs.Invariant.{Inv, set-at}
use Rattle.two_silos.proofs.SmallChanges.{opening_of}
use Rattle.two_silos.proofs.KeptInvariant.{kept}

-- logs only grow
abbrev pub LogsGrow : World → World → Type 0
LogsGrow w v = (n : ℕ) (x : NodeEntry) → Member x (log_at w.nodes n) → Member x (log_at v.nodes n)

-- a participant's log grows
grow-learned : (node : Node) (k : Packet) (x : NodeEntry) → Member x node.log → Member x (learned node k).log
grow-learned node (Prepare t to s) x m = go (to == node.number)
  where
    longer : Member x (log_prepare (opening_in node.opening) node.log t s)
    longer =
        cond_both (is_done node.log t || is_prepared node.log t) node.log (if can_prepare (opening_in node.opening) node.log s then node.log ++ Prepared t s ∷ [] else node.log) (Member x)
        (λ e. m) (λ e. cond_both (can_prepare (opening_in node.opening) node.log s) (node.log ++ Prepared t s ∷ []) node.log (Member x) (λ f. Member-left x node.log (Prepared t s ∷ []) m) (λ f. m))

    go : (b : Bool) → Member x ((if b then record node { log = log_prepare (opening_in node.opening) node.log t s } else node).log)
    go true = longer
    go false = m
grow-learned node (Vote t from' b) x m = m
grow-learned node (Decision t to c) x m = go (to == node.number)
  where
    longer : Member x (log_decision node.log t c)
    longer = cond_both (is_prepared node.log t && not (is_done node.log t)) (node.log ++ Done t c ∷ []) node.log (Member x) (λ e. Member-left x node.log (Done t c ∷ []) m) (λ e. m)

    go : (b : Bool) → Member x ((if b then record node { log = log_decision node.log t c } else node).log)
    go true = longer
    go false = m
grow-learned node (Ask t from') x m = m

grow-handed : (w : World) (k : ℕ) (p : Packet) → LogsGrow w (handed w k p)
grow-handed w k p n x m = go (nat_lt k (length w.nodes)) refl
  where
    go : (b : Bool) → nat_lt k (length w.nodes) ≡ b → Member x (log_at ((if b then record w { nodes = slice_set w.nodes k (learned (node_at w.nodes k) p); packets = w.packets ++ answers (node_at w.nodes k) p } else w).nodes) n)
    go true e = one (learned (node_at w.nodes k) p) (grow-learned (node_at w.nodes k) p)
      where
        one : (v : Node) → ((y : NodeEntry) → Member y (log_at w.nodes k) → Member y v.log) → Member x (log_at (slice_set w.nodes k v) n)
        one v h = set-at w.nodes k v (Member x) n (ltb-true k (length w.nodes) e) (λ q. h x (subst (λ z. Member x (log_at w.nodes z)) q m)) (λ q. m)
    go false e = m

grow-delivered : (w : World) (k : Packet) → LogsGrow w (delivered w k)
grow-delivered w (Prepare t n s) = grow-handed w n (Prepare t n s)
grow-delivered w (Vote t n b) = λ k x m. m
grow-delivered w (Decision t n c) = grow-handed w n (Decision t n c)
grow-delivered w (Ask t n) = λ k x m. m

grow-does : (w : World) (e : WorldEvent) → LogsGrow w (does w e)
grow-does w (Start lists) = cond_both (can_start w lists) (started w (parts_from 0 lists)) w (LogsGrow w) (λ e n x m. m) (λ e n x m. m)
grow-does w (Deliver k) = cond_both (nat_lt k (length w.packets)) (delivered w (get_or w.packets k (Ask (next_txn w) 0))) w (LogsGrow w) (λ e. grow-delivered w (get_or w.packets k (Ask (next_txn w) 0))) (λ e n x m. m)
grow-does w NudgeCoordinator = λ n x m. m
grow-does w (Nudge n) = cond_both (nat_lt n (length w.nodes)) (send w (questions (node_at w.nodes n))) w (LogsGrow w) (λ e n x m. m) (λ e n x m. m)
grow-does w RestartCoordinator = λ n x m. m
grow-does w (Restart n) = λ k x m. m

grow-step : (w : World) (e : WorldEvent) → LogsGrow w (step w e)
grow-step w e = cond_both (is_within (does w e)) (does w e) w (LogsGrow w) (λ a. grow-does w e) (λ a n x m. m)

pub grow-run : (es : List WorldEvent) (w : World) → LogsGrow w (run w es)
grow-run [] w n x m = m
grow-run (e ∷ es) w n x m = grow-run es (step w e) n x (grow-step w e n x m)

pub run-more : (es more : List WorldEvent) (w : World) → run w (es ++ more) ≡ run (run w es) more
run-more [] more w = refl
run-more (e ∷ es) more w = run-more es more (step w e)

-- done decisions, in a world where the invariant holds
pub decisions-kept : (opening : ℕ → GrainId → Option ℤ) (parts : TxnId → List Part) (w : World) → Inv opening parts w → DecisionsAreKept w
decisions-kept opening parts w i = record {
  commit = λ n t m. i.sent (Decision t n true) (i.logged_done n t true m);
  abort = λ n t m. (i.sent (Decision t n false) (i.logged_done n t false m)).1;
  once = λ n. (i.sound n).once;
}

pub kept-ends : (openings : List (List (GrainId × ℤ))) (es : List WorldEvent) → IsOpening openings → DecisionsAreKept (run (begin openings) es)
kept-ends openings es o = decisions-kept (opening_of openings) (parts_in openings es) (run (begin openings) es) (kept openings es o)

pub later-ends : (openings : List (List (GrainId × ℤ))) (es more : List WorldEvent) → IsOpening openings → (n : ℕ) (t : TxnId) →
    Member (Done t false) (log_at (run (begin openings) es).nodes n) → Member t (run (begin openings) (es ++ more)).coordinator.commits → ⊥
later-ends openings es more o n t m =
    (kept-ends openings (es ++ more) o).abort n t (subst (λ (v : World). Member (Done t false) (log_at v.nodes n)) (sym (run-more es more (begin openings))) (grow-run more (run (begin openings) es) n (Done t false) m))

pub prepared-ends : (openings : List (List (GrainId × ℤ))) (es : List WorldEvent) → IsOpening openings → CommitsArePrepared (parts_in openings es) (run (begin openings) es)
prepared-ends openings es o = (kept openings es o).everywhere

pub balance-ends : (openings : List (List (GrainId × ℤ))) (es : List WorldEvent) → IsOpening openings → (n : ℕ) (g : GrainId) (b : ℤ) → opening_of openings n g ≡ Some b → BalanceFollows (run (begin openings) es) n g b
balance-ends openings es o n g b e = go (run (begin openings) es) (kept openings es o)
  where
    go : (w : World) → Inv (opening_of openings) (parts_in openings es) w → BalanceFollows w n g b
    go w i = record {
      sum = (λ j. moved_by ((ap (λ (f : GrainId → Option ℤ). f g) (i.same n) ∙ e) j) (i.sums n g j));
      range = ap (λ z. is_balance (b +ℤ z)) (sym (i.sums n g)) ∙ (i.sound n).range g b e;
    }

-- the opening balances of a participant stay
pub opening-ends : (openings : List (List (GrainId × ℤ))) (es : List WorldEvent) → IsOpening openings → (n : ℕ) → opening_at (run (begin openings) es).nodes n ≡ opening_of openings n
opening-ends openings es o n = (kept openings es o).same n
