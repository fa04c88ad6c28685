use Rattle.std.proofs.Common.{◌≡◌, ◌∙◌, rules, sym, ap, subst, Some, None, true, false}
use Rattle.std.specs.BTreeMap.{get}
use Rattle.base_types.specs.Stores.{grain_cmp}
use Rattle.silo_nodes.specs.Logs.{is_prepared}
use Rattle.silo_nodes.specs.LogCache.{Node, all_allow, IsKnown, opening_in, vote_at}
use Rattle.silo_nodes.specs.Orders.{txn_cmp}
use Rattle.silo_nodes.proofs.HeldGrains.{undone, allow-is, vote-known, vote-new}
use Rattle.silo_nodes.proofs.participant.Participant.vote.Goals as goal

pub returns-then-known : goal.returns-then-known
returns-then-known c =
    let n : Node = record { number = c.self.inside.number; opening = c.self.inside.opening; log = c.self.inside.log.items } in
    let seen : n ≡ c.args.self.now = search rules in
    let found : get txn_cmp c.self.inside.known c.args.txn ≡ Some c.in-Some.known = search rules in
    let is : IsKnown n.log c.args.txn (Some c.in-Some.known) = subst (IsKnown n.log c.args.txn) found (c.self.invariant.known_is c.args.txn) in
    let d : c.in-Some.known.done ≡ true = search rules in
    subst (λ (m : Node). None ≡ vote_at m c.args.txn c.args.shifts.now) seen (sym (vote-known n c.args.txn c.args.shifts.now true (is.1 ∙ d) is.0))

pub returns-else-known : goal.returns-else-known
returns-else-known c =
    let n : Node = record { number = c.self.inside.number; opening = c.self.inside.opening; log = c.self.inside.log.items } in
    let seen : n ≡ c.args.self.now = search rules in
    let found : get txn_cmp c.self.inside.known c.args.txn ≡ Some c.in-Some.known = search rules in
    let is : IsKnown n.log c.args.txn (Some c.in-Some.known) = subst (IsKnown n.log c.args.txn) found (c.self.invariant.known_is c.args.txn) in
    let d : c.in-Some.known.done ≡ false = search rules in
    subst (λ (m : Node). Some true ≡ vote_at m c.args.txn c.args.shifts.now) seen (sym (vote-known n c.args.txn c.args.shifts.now false (is.1 ∙ d) is.0))

pub returns : goal.returns
returns c =
    let n : Node = record { number = c.self.inside.number; opening = c.self.inside.opening; log = c.self.inside.log.items } in
    let seen : n ≡ c.args.self.now = search rules in
    let missing : get txn_cmp c.self.inside.known c.args.txn ≡ None = search rules in
    let new : is_prepared n.log c.args.txn ≡ false = subst (IsKnown n.log c.args.txn) missing (c.self.invariant.known_is c.args.txn) in
    let allowed : c.allow.result ≡ all_allow (get grain_cmp c.self.inside.cells) c.args.shifts.now = search rules in
    subst (λ (m : Node). Some c.allow.result ≡ vote_at m c.args.txn c.args.shifts.now) seen
    (sym (vote-new n c.args.txn c.args.shifts.now (undone (opening_in n.opening) n.log c.args.txn c.self.invariant.sound new) new
    ∙ ap (λ b. Some b) (sym (allow-is (opening_in n.opening) n.log (get grain_cmp c.self.inside.cells) c.self.invariant.cells_are c.args.shifts.now) ∙ sym allowed)))
