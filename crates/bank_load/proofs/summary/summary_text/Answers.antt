use Rattle.std.proofs.Common.{◌≡◌, ℤ, rules, subst, string_bytes, IfOk}
use Rattle.std.proofs.lemmas.Int.{to_z-of_z}
use mir.Val.{SFits}
use mir.Syntax.{w128}
use Rattle.bank_load.specs.Summaries.{said_line}
use Rattle.bank_load.proofs.summary.summary_text.Goals as goal

pub returns : goal.returns
returns c =
    let fits : SFits w128 c.args.total = search rules in
    subst (λ (x : ℤ). IfOk c.format.result (λ text. string_bytes text ≡ said_line c.args.aborted c.args.committed c.args.faulted c.args.requests x))
    (to_z-of_z w128 c.args.total fits) c.format.ensures.ok
