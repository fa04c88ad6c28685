use Rattle.std.proofs.Common.{◌≡◌, ◌∙◌, rules, sym, ap, subst, Some, None, true, false, ◌++◌, ◌∷◌, [], slice_get}
use Rattle.std.specs.BTreeMap.{get}
use Rattle.base_types.specs.Stores.{grain_cmp}
use Rattle.silo_nodes.specs.Packets.{Done}
use Rattle.silo_nodes.specs.Node.{log_decision}
use Rattle.silo_nodes.specs.LogCache.{settled, ShiftsFit, IsKnown, FollowsLog, opening_in, entry_shifts}
use Rattle.silo_nodes.specs.Orders.{txn_cmp}
use Rattle.silo_nodes.proofs.LogCache.{decision-none, decision-done, has-room, follows-done}
use Rattle.silo_nodes.proofs.participant.Participant.decide.Goals as goal

pub returns-in_default-clause-ok : goal.returns-in_default-clause-ok
returns-in_default-clause-ok c =
    let missing : get txn_cmp c.self.inside.known c.args.txn ≡ None = search rules in
    let same = decision-none c.self.inside.log.items c.args.txn c.args.commit (subst (IsKnown c.self.inside.log.items c.args.txn) missing (c.self.invariant.known_is c.args.txn)) in
    let log : c.args.self.now.log ≡ c.self.inside.log.items = search rules in
    ap (λ l. record c.args.self.now { log = l }) (log ∙ sym same ∙ ap (λ l. log_decision l c.args.txn c.args.commit) (sym log))

pub returns-then-known-clause-ok : goal.returns-then-known-clause-ok
returns-then-known-clause-ok c =
    let found : get txn_cmp c.self.inside.known c.args.txn ≡ Some c.in-Some.known = search rules in
    let is : IsKnown c.self.inside.log.items c.args.txn (Some c.in-Some.known) = subst (IsKnown c.self.inside.log.items c.args.txn) found (c.self.invariant.known_is c.args.txn) in
    let over : c.in-Some.known.done ≡ true = search rules in
    let same = decision-done c.self.inside.log.items c.args.txn c.args.commit is.0 (is.1 ∙ over) in
    let log : c.args.self.now.log ≡ c.self.inside.log.items = search rules in
    ap (λ l. record c.args.self.now { log = l }) (log ∙ sym same ∙ ap (λ l. log_decision l c.args.txn c.args.commit) (sym log))

pub settle-requires : goal.settle-requires
settle-requires c =
    let found : get txn_cmp c.self.inside.known c.args.txn ≡ Some c.in-Some.known = search rules in
    let is : IsKnown c.self.inside.log.items c.args.txn (Some c.in-Some.known) = subst (IsKnown c.self.inside.log.items c.args.txn) found (c.self.invariant.known_is c.args.txn) in
    let undone : c.in-Some.known.done ≡ false = search rules in
    let shifts : c.shifts_at.result.now ≡ entry_shifts (slice_get c.self.inside.log.items c.in-Some.known.at) = search rules in
    record {
      room = subst (λ s. ShiftsFit s (get grain_cmp c.self.inside.cells)) (sym (shifts ∙ is.2))
          (has-room (opening_in c.self.inside.opening) c.self.inside.log.items (get grain_cmp c.self.inside.cells) c.args.txn c.self.invariant.sound c.self.invariant.cells_are is.0 (is.1 ∙ undone));
    }

pub invariant_of-self-2 : goal.invariant_of-self-2
invariant_of-self-2 c =
    let found : get txn_cmp c.self.inside.known c.args.txn ≡ Some c.in-Some.known = search rules in
    let is : IsKnown c.self.inside.log.items c.args.txn (Some c.in-Some.known) = subst (IsKnown c.self.inside.log.items c.args.txn) found (c.self.invariant.known_is c.args.txn) in
    let undone : c.in-Some.known.done ≡ false = search rules in
    let shifts : c.shifts_at.result.now ≡ entry_shifts (slice_get c.self.inside.log.items c.in-Some.known.at) = search rules in
    let items : c.push-pushed.new.self.items ≡ c.self.inside.log.items ++ Done c.args.txn c.args.commit ∷ [] = search rules in
    subst (λ l. FollowsLog (opening_in c.self.inside.opening) l (get txn_cmp c.mark_done.new.known) c.drop_txn.new.undecided.items (get grain_cmp c.settle.new.cells)) (sym items)
    (subst (λ u. FollowsLog (opening_in c.self.inside.opening) (c.self.inside.log.items ++ Done c.args.txn c.args.commit ∷ []) (get txn_cmp c.mark_done.new.known) u (get grain_cmp c.settle.new.cells)) (sym c.drop_txn.ensures)
    (follows-done (opening_in c.self.inside.opening) c.self.inside.log.items (get txn_cmp c.self.inside.known) (get txn_cmp c.mark_done.new.known) c.self.inside.undecided.items (get grain_cmp c.self.inside.cells) (get grain_cmp c.settle.new.cells)
    c.args.txn c.args.commit c.self.invariant is.0 (is.1 ∙ undone) c.mark_done.ensures
    (λ g. c.settle.ensures g ∙ ap (λ s. settled c.args.commit s g (get grain_cmp c.self.inside.cells g)) (shifts ∙ is.2))))
