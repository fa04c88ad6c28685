use Rattle.std.proofs.Common.{sym, subst}
use Rattle.promise_spec.specs.Words.{Run, Load}
use Rattle.promise_spec.specs.Calls.{Understands}
use Rattle.command_words.specs.CutParts.{texts_of}
use Rattle.silo_top.specs.AskedCommand.{carriage_manner, IsCarriage}
use Rattle.silo_top.specs.declared.asked_command.Carriage.{Carriage}
use Rattle.silo_top.proofs.AskedWords.{run_understood, run_can, load_understood, load_can}
use Rattle.silo_top.proofs.asked_command.read_asked.Goals as goal

pub returns-in-Run-clause-asked : goal.returns-in-Run-clause-asked
returns-in-Run-clause-asked c =
    subst (λ (how : Carriage). Understands (texts_of c.args.words.now) (Run (carriage_manner how))) (sym c.run_carriage-how.ensures)
    (run_understood (texts_of c.args.words.now) c.in_ok-read_words.field-0 c.in-Run.options c.in-Run.is c.in_ok-read_words.ensures.said)

pub returns-in-Run-clause-bounds : goal.returns-in-Run-clause-bounds
returns-in-Run-clause-bounds c =
    subst IsCarriage (sym c.run_carriage-how.ensures) (run_can (texts_of c.args.words.now) c.in_ok-read_words.field-0 c.in-Run.options c.in-Run.is c.in_ok-read_words.ensures.said)

pub returns-in-Load-clause-asked : goal.returns-in-Load-clause-asked
returns-in-Load-clause-asked c =
    subst (λ (how : Carriage). Understands (texts_of c.args.words.now) (Load c.in-Load.options.transfers c.in-Load.options.seed (carriage_manner how))) (sym c.load_carriage-how.ensures)
    (load_understood (texts_of c.args.words.now) c.in_ok-read_words.field-0 c.in-Load.options c.in-Load.is c.in_ok-read_words.ensures.said)

pub returns-in-Load-clause-bounds : goal.returns-in-Load-clause-bounds
returns-in-Load-clause-bounds c =
    let can = load_can (texts_of c.args.words.now) c.in_ok-read_words.field-0 c.in-Load.options c.in-Load.is c.in_ok-read_words.ensures.said in
    (subst IsCarriage (sym c.load_carriage-how.ensures) can.0, can.1)
