use Rattle.std.proofs.Common.{◌≡◌, ◌+◌, ◌*◌, ℕ, List, length, take, drop, min, ◌++◌, arith, length-take, refl, sym, ◌∙◌, ap, rules}
use Rattle.std.proofs.lemmas.Grind.{common_steps}
use Rattle.std.proofs.lemmas.List.{take_at, drop_all, drop-drop}
use Rattle.host_memory.specs.Replay.{AreBy}
use Rattle.host_memory.proofs.Countdown.{pull_end}
use Rattle.host_memory.proofs.host.MemoryHostHost.pull.Goals as goal

pub invariant_of-self : goal.invariant_of-self
invariant_of-self c =
    let clock : AreBy (2 * c.turn.new.self.calls + 1) c.args.self.now.events.items = c.turn.ensures.clock c.args.self.now.events.items c.args.self.now.clock in
    search rules

pub invariant_of-self-in-Fails : goal.invariant_of-self-in-Fails
invariant_of-self-in-Fails c =
    let clock : AreBy (2 * c.turn.new.self.calls + 1) c.args.self.now.events.items = c.turn.ensures.clock c.args.self.now.events.items c.args.self.now.clock in
    search rules

pub invariant_of-self-in-Stopped : goal.invariant_of-self-in-Stopped
invariant_of-self-in-Stopped c =
    let clock : AreBy (2 * c.turn.new.self.calls + 1) c.args.self.now.events.items = c.turn.ensures.clock c.args.self.now.events.items c.args.self.now.clock in
    search rules

pub returns-in-Goes-clause-ok : goal.returns-in-Goes-clause-ok
returns-in-Goes-clause-ok c told =
    let quiet = c.turn.ensures.told (drop c.args.self.now.taken c.args.self.now.input.items) c.args.self.now.events.items c.args.self.now.clock in
    let items = c.args.self.now.input.items in
    let taken = c.args.self.now.taken in
    let n = c.min-n.result in
    let shown : c.deref.result.now ≡ items = c.deref.ensures.value in
    let least : n ≡ min (min (length c.args.into.now) (length (drop taken items))) c.args.self.now.most = grind (arith, common_steps) in
    let copied : c.copy_from_slice.new.self ≡ take n (drop taken items) = grind (arith, common_steps) in
    let size : length (take n (drop taken items)) ≡ n = omega (arith, least, length-take n (drop taken items)) in
    record {
      bytes = ap (λ (l : List ℕ). take n (l ++ drop n c.args.into.now)) copied ∙ take_at (take n (drop taken items)) (drop n c.args.into.now) n size;
      count = omega (arith, least);
      end = λ none some. drop_all taken items (pull_end n taken c.args.self.now.most c.args.into.now c.copy_from_slice.new.self items c.args.self.now.moves least copied none some);
      input = sym (drop-drop n taken items);
      output = refl;
      disk = refl;
      syncs = refl;
      past = quiet.past;
    }

pub returns-in-Fails-clause-err : goal.returns-in-Fails-clause-err
returns-in-Fails-clause-err c told = c.turn.ensures.told (drop c.args.self.now.taken c.args.self.now.input.items) c.args.self.now.events.items c.args.self.now.clock

pub returns-in-Stopped-clause-err : goal.returns-in-Stopped-clause-err
returns-in-Stopped-clause-err c told = c.turn.ensures.told (drop c.args.self.now.taken c.args.self.now.input.items) c.args.self.now.events.items c.args.self.now.clock
