use Rattle.std.proofs.Common.{◌≡◌, ◌∙◌, rules, sym, ap, subst, Some, None, true, false, ◌++◌, ◌∷◌, [], length, Option, is_some}
use Rattle.std.specs.Prelude.{if◌then◌else◌}
use Rattle.std.specs.BTreeMap.{get}
use Rattle.base_types.specs.Stores.{grain_cmp}
use Rattle.silo_nodes.specs.Packets.{Prepared, same_txn}
use Rattle.silo_nodes.specs.Logs.{is_prepared}
use Rattle.silo_nodes.specs.Node.{log_prepare}
use Rattle.silo_nodes.specs.LogCache.{Node, all_allow, IsKnown, FollowsLog, opening_in, prepared_at, held}
use Rattle.silo_nodes.specs.Orders.{txn_cmp}
use Rattle.silo_nodes.proofs.HeldGrains.{undone, prepare-done, prepare-not, prepare-new, allow-is, follows-prepared, marks, node-stays, known-prepared, known-new-txn}
use Rattle.silo_nodes.proofs.participant.Participant.prepare.Goals as goal

pub returns-then-is_some-clause-node : goal.returns-then-is_some-clause-node
returns-then-is_some-clause-node c =
    let n : Node = record { number = c.self.inside.number; opening = c.self.inside.opening; log = c.self.inside.log.items } in
    let seen : n ≡ c.args.self.now = search rules in
    let there : is_some (get txn_cmp c.self.inside.known c.args.txn) ≡ true = search rules in
    subst (λ (m : Node). m ≡ prepared_at m c.args.txn c.args.shifts.now) seen
    (node-stays n c.args.txn c.args.shifts.now (prepare-done (opening_in n.opening) n.log c.args.txn c.args.shifts.now (known-prepared n.log c.args.txn (get txn_cmp c.self.inside.known c.args.txn) (c.self.invariant.known_is c.args.txn) there)))

pub returns-then-not-allow-clause-node : goal.returns-then-not-allow-clause-node
returns-then-not-allow-clause-node c =
    let n : Node = record { number = c.self.inside.number; opening = c.self.inside.opening; log = c.self.inside.log.items } in
    let seen : n ≡ c.args.self.now = search rules in
    let missing : is_some (get txn_cmp c.self.inside.known c.args.txn) ≡ false = search rules in
    let new : is_prepared n.log c.args.txn ≡ false = known-new-txn n.log c.args.txn (get txn_cmp c.self.inside.known c.args.txn) (c.self.invariant.known_is c.args.txn) missing in
    let refused : all_allow (get grain_cmp c.self.inside.cells) c.args.shifts.now ≡ false = search rules in
    subst (λ (m : Node). m ≡ prepared_at m c.args.txn c.args.shifts.now) seen
    (node-stays n c.args.txn c.args.shifts.now (prepare-not (opening_in n.opening) n.log c.args.txn c.args.shifts.now
    (undone (opening_in n.opening) n.log c.args.txn c.self.invariant.sound new) new
    (sym (allow-is (opening_in n.opening) n.log (get grain_cmp c.self.inside.cells) c.self.invariant.cells_are c.args.shifts.now) ∙ refused)))

pub invariant_of-self-2 : goal.invariant_of-self-2
invariant_of-self-2 c =
    let missing : is_some (get txn_cmp c.self.inside.known c.args.txn) ≡ false = search rules in
    let new : is_prepared c.self.inside.log.items c.args.txn ≡ false = known-new-txn c.self.inside.log.items c.args.txn (get txn_cmp c.self.inside.known c.args.txn) (c.self.invariant.known_is c.args.txn) missing in
    let allowed : all_allow (get grain_cmp c.self.inside.cells) c.args.shifts.now ≡ true = search rules in
    let same : c.in_ok-shifts.shifts ≡ c.args.shifts.now = search rules in
    let items : c.push-pushed.new.self.items ≡ c.self.inside.log.items ++ Prepared c.args.txn c.in_ok-shifts.shifts ∷ [] = search rules in
    let entry : c.push-pushed.new.self.items ≡ c.self.inside.log.items ++ Prepared c.args.txn c.args.shifts.now ∷ [] = items ∙ ap (λ s. c.self.inside.log.items ++ Prepared c.args.txn s ∷ []) same in
    let listed : c.push-listed.new.self.items ≡ c.self.inside.undecided.items ++ c.args.txn ∷ [] = search rules in
    let len : c.len-at.result ≡ length c.self.inside.log.items = search rules in
    let shifts : c.as_slice-2.result.now ≡ c.in_ok-shifts.shifts = search rules in
    let up = c.in_ok-insert.ensures.updates in
    let mark = marks c.self.inside.known c.insert.new.self c.args.txn (record { at = c.len-at.result; done = false }) up.1 up.2 in
    subst (λ l. FollowsLog (opening_in c.self.inside.opening) l (get txn_cmp c.insert.new.self) c.push-listed.new.self.items (get grain_cmp c.hold.new.cells)) (sym entry)
    (subst (λ u. FollowsLog (opening_in c.self.inside.opening) (c.self.inside.log.items ++ Prepared c.args.txn c.args.shifts.now ∷ []) (get txn_cmp c.insert.new.self) u (get grain_cmp c.hold.new.cells)) (sym listed)
    (follows-prepared (opening_in c.self.inside.opening) c.self.inside.log.items (get txn_cmp c.self.inside.known) (get txn_cmp c.insert.new.self) c.self.inside.undecided.items (get grain_cmp c.self.inside.cells) (get grain_cmp c.hold.new.cells)
    c.args.txn c.args.shifts.now c.self.invariant new c.requires.apart allowed
    (λ u. mark u ∙ ap (λ k. if same_txn c.args.txn u then Some (record { at = k; done = false }) else get txn_cmp c.self.inside.known u) len)
    (λ g. c.hold.ensures g ∙ ap (λ s. held s g (get grain_cmp c.self.inside.cells g)) (shifts ∙ same))))

pub returns-clause-node : goal.returns-clause-node
returns-clause-node c =
    let n : Node = record { number = c.self.inside.number; opening = c.self.inside.opening; log = c.self.inside.log.items } in
    let seen : n ≡ c.args.self.now = search rules in
    let missing : is_some (get txn_cmp c.self.inside.known c.args.txn) ≡ false = search rules in
    let new : is_prepared n.log c.args.txn ≡ false = known-new-txn n.log c.args.txn (get txn_cmp c.self.inside.known c.args.txn) (c.self.invariant.known_is c.args.txn) missing in
    let allowed : all_allow (get grain_cmp c.self.inside.cells) c.args.shifts.now ≡ true = search rules in
    let same : c.in_ok-shifts.shifts ≡ c.args.shifts.now = search rules in
    let items : c.push-pushed.new.self.items ≡ n.log ++ Prepared c.args.txn c.in_ok-shifts.shifts ∷ [] = search rules in
    let op = opening_in n.opening in
    let log : log_prepare op n.log c.args.txn c.args.shifts.now ≡ n.log ++ Prepared c.args.txn c.args.shifts.now ∷ [] =
    prepare-new op n.log c.args.txn c.args.shifts.now (undone op n.log c.args.txn c.self.invariant.sound new) new
    (sym (allow-is op n.log (get grain_cmp c.self.inside.cells) c.self.invariant.cells_are c.args.shifts.now) ∙ allowed) in
    subst (λ (m : Node). record n { log = c.push-pushed.new.self.items } ≡ prepared_at m c.args.txn c.args.shifts.now) seen
    (ap (λ l. record n { log = l }) (items ∙ ap (λ s. n.log ++ Prepared c.args.txn s ∷ []) same ∙ sym log))
