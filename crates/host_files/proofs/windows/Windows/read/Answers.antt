use Rattle.std.proofs.Common.{◌≡◌, ◌<◌, length, slice_index_or, sym, subst, rules}
use Rattle.std.proofs.lemmas.List.Elements.{All-set}
use Rattle.host_files.specs.Windows.{IsTrueOf}
use Rattle.host_files.specs.declared.windows.Window.{Window}
use Rattle.host_files.proofs.windows.Windows.read.Goals as goal

pub read-requires-clause-so : goal.read-requires-clause-so
read-requires-clause-so g c = λ told.
    let disk = (g.S.SystemCalls.state c.args.system.now).world.disk in
    let all = (c.settle.ensures.so disk (c.requires.so told)).shown c.settle.ensures.believed in
    let window = c.index_mut.result.now in
    let there : window ≡ slice_index_or c.settle.new.self.all.items c.place_of-place.result window = search rules in
    let within : c.place_of-place.result < length c.settle.new.self.all.items = search rules in
    subst (λ (w : Window). IsTrueOf disk w) (sym there) (all c.place_of-place.result window within)

pub returns-in_err-count-clause-so : goal.returns-in_err-count-clause-so
returns-in_err-count-clause-so g c = λ told.
    let disk = (g.S.SystemCalls.state c.args.system.now).world.disk in
    let before = c.settle.ensures.so disk (c.requires.so told) in
    record {
      shown = λ believed. All-set (IsTrueOf disk) c.settle.new.self.all.items c.place_of-place.result c.read.new.self (c.read.ensures.so told) (before.shown believed);
      measured = before.measured;
    }

pub returns-clause-so : goal.returns-clause-so
returns-clause-so g c = λ told.
    let disk = (g.S.SystemCalls.state c.args.system.now).world.disk in
    let before = c.settle.ensures.so disk (c.requires.so told) in
    record {
      shown = λ believed. All-set (IsTrueOf disk) c.settle.new.self.all.items c.place_of-place.result c.read.new.self (c.read.ensures.so told) (before.shown believed);
      measured = before.measured;
    }
