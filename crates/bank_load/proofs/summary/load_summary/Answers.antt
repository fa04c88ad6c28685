use Rattle.std.proofs.Common.{rules, ◌≡◌, ℕ, List, Vec, Global, string_bytes, ap, sym, ◌∙◌}
use Rattle.std.proofs.lemmas.Int.{to_z-of_z}
use mir.Val.{SFits}
use mir.Syntax.{w128}
use Rattle.core_model.specs.LegalRuns.{ends}
use Rattle.history_core.specs.Cores.{run_of}
use Rattle.promise_spec.specs.Loads.{line_valued, is_faulted, line_aborted, how_many_lines}
use Rattle.bank_load.specs.Summaries.{said_line, summary_line}
use Rattle.bank_load.proofs.CountedEnds.{counted-values, counted-faults, counted-aborts}
use Rattle.bank_load.proofs.SummaryText.{said}
use Rattle.bank_load.proofs.summary.load_summary.Goals as goal

pub returns : goal.returns
returns c =
    let fits : SFits w128 c.args.total = search rules in
    let entries = (ends (run_of c.args.core.now)).manager.settled in
    let ended = c.line_ends-ended.result in
    let bytes : c.into_bytes.result.items ≡ string_bytes c.in_ok-text.text = ap (λ (w : Vec ℕ Global). w.items) c.into_bytes.ensures.value in
    let text : string_bytes c.in_ok-text.text ≡ said_line ended.aborts ended.values ended.faults c.args.requests c.args.total =
    c.in_ok-text.ensures ∙ ap (said_line ended.aborts ended.values ended.faults c.args.requests) (to_z-of_z w128 c.args.total fits) in
    let counted : said_line ended.aborts ended.values ended.faults c.args.requests c.args.total ≡ summary_line entries c.args.requests c.args.total =
    (λ i. said_line (counted-aborts ended entries c.line_ends-ended.ensures i) (counted-values ended entries c.line_ends-ended.ensures i) (counted-faults ended entries c.line_ends-ended.ensures i) c.args.requests c.args.total)
    ∙ said entries c.args.requests c.args.total in
    c.from_vec.ensures ∙ bytes ∙ text ∙ counted
