use Rattle.std.proofs.Common.{IsTrue, rules}
use Rattle.std.proofs.lemmas.Option.{IfSome_then}
use Rattle.host_files.proofs.folder.Folder.take_open.Goals as goal

pub invariant_of-self-clause-keeps : goal.invariant_of-self-clause-keeps
invariant_of-self-clause-keeps g c = λ told. c.take-found.ensures.stay g.S.SystemCalls.is_regular (c.args.self.now.keeps told)

pub invariant_of-self-in-Some-clause-keeps : goal.invariant_of-self-in-Some-clause-keeps
invariant_of-self-in-Some-clause-keeps g c = λ told.
    let reads = c.args.self.now.reads told in
    let one : IsTrue (g.S.SystemCalls.is_regular c.in-Some.kept.file) = search rules in
    c.keep.ensures.stay g.S.SystemCalls.is_regular (c.take-found.ensures.stay g.S.SystemCalls.is_regular (c.args.self.now.keeps told)) one

pub invariant_of-self-in_default-clause-keeps : goal.invariant_of-self-in_default-clause-keeps
invariant_of-self-in_default-clause-keeps g c = λ told. c.take-found.ensures.stay g.S.SystemCalls.is_regular (c.args.self.now.keeps told)

pub returns-in_default-clause-regular : goal.returns-in_default-clause-regular
returns-in_default-clause-regular g c =
    IfSome_then c.take-found.result c.take-found.ensures.like (λ opened like told. like g.S.SystemCalls.is_regular (c.args.self.now.keeps told))
