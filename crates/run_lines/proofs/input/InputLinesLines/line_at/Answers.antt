use Rattle.std.proofs.Common.{◌≡◌, ℕ, ◌+◌, Some, sym, ap, ◌∙◌, arith}
use Rattle.request_wire.specs.Lines.{lines_of}
use Rattle.request_wire.specs.declared.requests.Line.{Line}
use Rattle.script_tree.specs.Programs.{program_tree}
use Rattle.run_lines.proofs.Places.{line_there, none_there, place_within}
use Rattle.run_lines.specs.LineReadings.{line_from_text}
use Rattle.run_lines.proofs.input.InputLinesLines.line_at.Goals as goal

pub overflow_add-next : goal.overflow_add-next
overflow_add-next c =
    let h = place_within (lines_of c.args.self.now.input.now) c.args.place c.in-Some.text.now _ (sym c.rest_at-rest.ensures ∙ c.in-Some.ensures.line) in
    let few = c.args.self.now.few in
    omega (arith, h, few)

pub overflow_cast-next : goal.overflow_cast-next
overflow_cast-next c =
    let h = place_within (lines_of c.args.self.now.input.now) c.args.place c.in-Some.text.now _ (sym c.rest_at-rest.ensures ∙ c.in-Some.ensures.line) in
    let few = c.args.self.now.few in
    omega (arith, h, few)

pub overflow_add-number : goal.overflow_add-number
overflow_add-number c =
    let h = place_within (lines_of c.args.self.now.input.now) c.args.place c.in-Some.text.now _ (sym c.rest_at-rest.ensures ∙ c.in-Some.ensures.line) in
    let few = c.args.self.now.few in
    omega (arith, h, few)

pub returns-in_ok-read_line-in-Some-clause-line : goal.returns-in_ok-read_line-in-Some-clause-line
returns-in_ok-read_line-in-Some-clause-line c =
    let types = program_tree c.args.self.now.checked.now in
    let e : c.args.self.now.before + (c.args.place + 1) ≡ c.args.self.now.before + c.args.place + 1 = omega arith in
    ap (λ (l : Line). Some l) (c.in_ok-read_line-in-Some.ensures ∙ ap (λ (k : ℕ). line_from_text types k c.in-Some.text.now) e)
    ∙ sym (line_there types c.args.self.now.before (lines_of c.args.self.now.input.now) c.args.place c.in-Some.text.now _ (sym c.rest_at-rest.ensures ∙ c.in-Some.ensures.line))

pub returns-in-None-clause-line : goal.returns-in-None-clause-line
returns-in-None-clause-line c =
    sym (none_there (program_tree c.args.self.now.checked.now) c.args.self.now.before (lines_of c.args.self.now.input.now) c.args.place (sym c.rest_at-rest.ensures ∙ c.in-None.ensures.line))
