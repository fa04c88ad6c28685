use Rattle.std.proofs.Common.{◌≡◌, ◌∙◌, Option, Some, None, sym, ap}
use Rattle.std.specs.Prelude.{IsSome, OnSome}
use Rattle.std.specs.List.{position}
use Rattle.core_parts.specs.Pairs.{is_pair, without_first}
use Rattle.core_parts.specs.Room.{PairsInRoom}
use Rattle.core_parts.proofs.Pairs.{takes-first, takes-none, takes-one}
use Rattle.core_parts.proofs.learn_queue.LearnQueue.remove.Goals as goal
use Rattle.core_parts.proofs.learn_queue.LearnQueue.remove.Goals.{After-remove, In_default}

when_some : {A P : Type 0} (o : Option A) → IsSome o → OnSome o P → P
when_some None some holds = absurd (cc some)
when_some (Some x) some holds = holds

first : (c : After-remove) → c.remove.new.self.items ≡ without_first c.args.self.now.pairs c.args.unit c.args.grain
first c =
    when_some c.remove.result (c.remove.ensures.variant.1 c.in-Some.ensures.within) c.remove.ensures.items
    ∙ takes-first c.self.inside.pairs.items c.args.unit c.args.grain c.in-Some.at (c.args.unit, c.args.grain) (sym c.in-Some.ensures.place)
    ∙ ap (λ (q : PairsInRoom). without_first q.pairs c.args.unit c.args.grain) c.self.view_is

pub returns-in-Some-clause-first : goal.returns-in-Some-clause-first
returns-in-Some-clause-first c = first c

pub returns-in-Some-clause-once : goal.returns-in-Some-clause-once
returns-in-Some-clause-once c = λ once. first c ∙ takes-one c.args.self.now.pairs c.args.unit c.args.grain once

none : (c : In_default) → c.args.self.now.pairs ≡ without_first c.args.self.now.pairs c.args.unit c.args.grain
none c =
    takes-none c.args.self.now.pairs c.args.unit c.args.grain
    (ap (λ (q : PairsInRoom). position (is_pair c.args.unit c.args.grain) q.pairs) (sym c.self.view_is) ∙ sym c.in_default.ensures.place)

pub returns-in_default-clause-first : goal.returns-in_default-clause-first
returns-in_default-clause-first c = none c

pub returns-in_default-clause-once : goal.returns-in_default-clause-once
returns-in_default-clause-once c = λ once. none c ∙ takes-one c.args.self.now.pairs c.args.unit c.args.grain once
