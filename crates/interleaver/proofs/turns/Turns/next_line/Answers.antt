use Rattle.std.proofs.Common.{◌∙◌, sym, arith}
use Rattle.std.specs.Prelude.{Option}
use Rattle.request_wire.specs.declared.requests.Line.{Line as ALine}
use Rattle.history_core.proofs.SameMeaning.{if-ok}
use Rattle.interleaver.proofs.LastLook.{none-doubted, none-full, some-next}
use Rattle.interleaver.proofs.turns.Turns.next_line.Goals as goal

pub returns-then-doubted-clause-next : goal.returns-then-doubted-clause-next
returns-then-doubted-clause-next g c =
    none-doubted c.args.settler.now.doubted c.args.self.now.agents.list.items c.args.width c.args.self.now.begun (g.L.Lines.lines c.args.lines.now) (sym c.doubted.ensures ∙ c.if-doubted.true)

pub returns-then-in_flight-width-clause-next : goal.returns-then-in_flight-width-clause-next
returns-then-in_flight-width-clause-next g c =
    let k = c.requires.known in
    none-full c.args.settler.now.doubted c.args.self.now.agents.list.items c.in_flight.result c.args.width c.args.self.now.begun (g.L.Lines.lines c.args.lines.now) (c.in_flight.ensures k.0 k.1 k.2 k.3) c.if-in_flight-width.true

pub returns-clause-next : goal.returns-clause-next
returns-clause-next g c =
    let k = c.requires.known in
    if-ok c.line_at.result _ _
    (λ (line : Option ALine) at. some-next c.args.settler.now.doubted c.args.self.now.agents.list.items c.in_flight.result c.args.width c.args.self.now.begun (g.L.Lines.lines c.args.lines.now) line
    (sym c.doubted.ensures ∙ c.if-doubted.false) (c.in_flight.ensures k.0 k.1 k.2 k.3) (omega (arith, c.if-in_flight-width.false)) at) c.line_at.ensures.line
