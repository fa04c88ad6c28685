use Rattle.std.proofs.Common.{rules}
use Rattle.script_values.proofs.LocalPlaces.{placed_put}
use Rattle.script_values.proofs.locals.give.Goals as goal

pub returns : goal.returns
returns c =
    let x = c.index_mut-local.result.now in
    let done = placed_put c.args.name.now c.args.value c.args.list.now.items c.args.at x x c.requires c.index_mut-local.ensures.value c.index_mut-local.ensures.value in
    search (rules, done)
