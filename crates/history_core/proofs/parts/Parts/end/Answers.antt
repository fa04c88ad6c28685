use Rattle.std.proofs.Common.{◌≡◌, ◌∙◌, ◌++◌, sym, ap, arith}
use Rattle.core_model.specs.CoreState.{put}
use Rattle.unit_table.specs.Table.{result_in}
use Rattle.history_core.proofs.Endings.{ends-evicting, stands-ended}
use Rattle.history_core.proofs.parts.Parts.end.Goals as goal

pub returns-clause-ended : goal.returns-clause-ended
returns-clause-ended c = λ w s r e answers at ends.
    let old = c.args.self.now in
    ends-evicting old w e c.args.unit answers c.args.told at c.end.new.self c.settle.new.entries c.evict_wanted.new.self c.wants.result.now s r ends
    (stands-ended old w c.args.unit answers c.args.told at c.origin-origin.result c.end.new.self c.settle.new.entries s r c.requires.runs c.origin-origin.ensures
    c.end.ensures.units c.end.ensures.verdict (c.end.ensures.result ∙ ap (put (result_in old.units) c.args.unit) c.requires.same)
    c.settle.ensures.entries c.settle.ensures.emitted (omega (arith, c.settle.ensures.spare, c.requires.room)))
    c.end.ensures.units c.wants.ensures c.evict_wanted.ensures.evicts c.evict_wanted.ensures.recent c.evict_wanted.ensures.opens
