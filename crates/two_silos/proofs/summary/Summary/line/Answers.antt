use Rattle.std.proofs.Common.{◌≡◌, ℤ, rules, subst, string_bytes, IfOk}
use Rattle.std.proofs.lemmas.Int.{to_z-of_z}
use mir.Val.{SFits}
use mir.Syntax.{w128}
use Rattle.two_silos.specs.Summaries.{line_of}
use Rattle.two_silos.proofs.summary.Summary.line.Goals as goal

pub returns : goal.returns
returns c =
    let fits : SFits w128 c.args.self.now.total = search rules in
    subst (λ (x : ℤ). IfOk c.format.result (λ text. string_bytes text ≡ line_of (record c.args.self.now { total = x })))
    (to_z-of_z w128 c.args.self.now.total fits) c.format.ensures.ok
