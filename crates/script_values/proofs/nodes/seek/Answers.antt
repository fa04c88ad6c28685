use Rattle.std.proofs.Common.{◌≢◌, Bool, ◌&&◌, refl, arith, ◌≡◌, ◌+◌, ◌-◌, ◌<◌, ◌%◌, ℕ, List, Option, Some, None, true, false, sym, ap, ◌∙◌, nat_eq}
use denote.Ref.{Bor}
use Rattle.std.specs.Prelude.{slice_get, slice_index}
use Rattle.std.specs.Option.{option_copied}
use Rattle.script_values.specs.declared.nodes.NameNode.{NameNode}
use Rattle.script_values.specs.LocalNames.{names_of}
use Rattle.script_values.specs.Nodes.{has_name, stands_for}
use Rattle.script_values.proofs.Ways.{ends_nowhere, ends_named, ends_free, ends_beyond, step_last}
use Rattle.script_values.specs.Nodes.{named_at}
use Rattle.script_values.proofs.nodes.seek.Goals.{else-node-digest-via-then-node-digest+else-stands_for, else-node-digest-via-else-node-digest}
use Rattle.script_values.proofs.nodes.seek.Goals as goal

left_is : (g : ℕ) → g < 31 → 31 - g ≡ (31 - (g + 1)) + 1
left_is g l = omega (arith, l)

and_false : (a b c : Bool) → b ≡ false → (a && (b && c)) ≡ false
and_false false b c e = refl
and_false true false c e = refl
and_false true true c e = absurd cc

differs : (node : NameNode) (local : Option (List ℕ)) (name : List ℕ) (digest : ℕ) → node.digest ≢ digest → stands_for (Some node) local name digest ≡ false
differs node local name digest other =
    let e : nat_eq node.digest digest ≡ false = grind (arith, other) in
    and_false node.linked (nat_eq node.digest digest) (has_name local name) e

pub returns-in_default : goal.returns-in_default
returns-in_default c =
    let l = c.loop-gone in
    let none : slice_get c.args.nodes.now l.i ≡ None = sym c.node_at.ensures ∙ ap (λ (o : Option (Bor NameNode)). option_copied o) c.in_default.is in
    sym (ends_nowhere c.args.nodes.now (names_of c.args.list.now) c.args.name.now c.args.digest (31 - l.gone) l.rest l.i (31 - (l.gone + 1)) (left_is l.gone c.loop-gone-test.true) none) ∙ l.invariant

pub returns-then-stands_for : goal.returns-then-stands_for
returns-then-stands_for c =
    let l = c.loop-gone in
    let node : NameNode = c.in-Some.node.now in
    let is : slice_get c.args.nodes.now l.i ≡ Some node = sym c.node_at.ensures ∙ ap (λ (o : Option (Bor NameNode)). option_copied o) c.in-Some.is in
    let named : stands_for (Some node) (slice_get (names_of c.args.list.now) l.i) c.args.name.now c.args.digest ≡ true = sym c.stands_for.ensures ∙ c.if-stands_for.true in
    sym (ends_named c.args.nodes.now (names_of c.args.list.now) c.args.name.now c.args.digest (31 - l.gone) l.rest l.i node is named) ∙ l.invariant

pub returns-then-next-eq0 : goal.returns-then-next-eq0
returns-then-next-eq0 c =
    let l = c.loop-gone in
    let node : NameNode = c.in-Some.node.now in
    let is : slice_get c.args.nodes.now l.i ≡ Some node = sym c.node_at.ensures ∙ ap (λ (o : Option (Bor NameNode)). option_copied o) c.in-Some.is in
    let other : stands_for (Some node) (slice_get (names_of c.args.list.now) l.i) c.args.name.now c.args.digest ≡ false =
    elim c.else-node-digest.branch [
      | else-node-digest-via-then-node-digest+else-stands_for w ↦ sym w.stands_for.ensures ∙ w.if-stands_for.false
      | else-node-digest-via-else-node-digest w ↦ differs node (slice_get (names_of c.args.list.now) l.i) c.args.name.now c.args.digest w.if-node-digest.false
    ]
    in
    let kid : slice_index node.kids (l.rest % 4) ≡ 0 = sym c.kid-next.ensures ∙ c.if-next-eq0.true in
    sym (ends_free c.args.nodes.now (names_of c.args.list.now) c.args.name.now c.args.digest (31 - l.gone) l.rest l.i (31 - (l.gone + 1)) node (left_is l.gone c.loop-gone-test.true) is other kid) ∙ l.invariant

pub loop-gone-preserved : goal.loop-gone-preserved
loop-gone-preserved c =
    let l = c.loop-gone in
    let node : NameNode = c.in-Some.node.now in
    let is : slice_get c.args.nodes.now l.i ≡ Some node = sym c.node_at.ensures ∙ ap (λ (o : Option (Bor NameNode)). option_copied o) c.in-Some.is in
    let other : stands_for (Some node) (slice_get (names_of c.args.list.now) l.i) c.args.name.now c.args.digest ≡ false =
    elim c.else-node-digest.branch [
      | else-node-digest-via-then-node-digest+else-stands_for w ↦ sym w.stands_for.ensures ∙ w.if-stands_for.false
      | else-node-digest-via-else-node-digest w ↦ differs node (slice_get (names_of c.args.list.now) l.i) c.args.name.now c.args.digest w.if-node-digest.false
    ]
    in
    let some : nat_eq c.kid-next.result 0 ≡ false = grind (arith, c.if-next-eq0.false) in
    sym (ends_beyond c.args.nodes.now (names_of c.args.list.now) c.args.name.now c.args.digest (31 - l.gone) l.rest l.i (31 - (l.gone + 1)) c.kid-next.result node (left_is l.gone c.loop-gone-test.true) is other c.kid-next.ensures some) ∙ l.invariant

pub returns : goal.returns
returns c =
    let l = c.loop-gone in
    let over : 31 - l.gone ≡ 0 = omega (arith, c.loop-gone-test.false) in
    c.last_end.ensures ∙ sym (step_last (named_at c.args.nodes.now (names_of c.args.list.now) c.args.name.now c.args.digest) (slice_get c.args.nodes.now) (31 - l.gone) l.rest l.i over) ∙ l.invariant
