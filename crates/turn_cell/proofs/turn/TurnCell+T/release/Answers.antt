use Rattle.std.proofs.Common.{rules, refl}
use Rattle.turn_cell.proofs.CellRule.{may_release}
use Rattle.turn_cell.proofs.turn.TurnCell+T.release.Goals as goal

pub store-requires : goal.store-requires
store-requires g c = (search rules, search rules, may_release _ _ _ _ _ (search rules) c.args.pass.now.me.0 _ c.args.object.value _ _ c.put_home.ensures.home c.requires.turn.1.1 refl c.requires.object c.requires.turn.1.2)
