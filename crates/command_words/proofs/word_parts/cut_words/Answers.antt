use Rattle.std.proofs.Common.{drop}
use Rattle.clap.specs.Matches.{found_of}
use Rattle.command_words.specs.Parts.{WidthName, TurnsName, WorkersName}
use Rattle.command_words.specs.CutParts.{texts_of}
use Rattle.command_words.proofs.CutFacts.{comes_twice}
use Rattle.command_words.proofs.word_parts.cut_words.Goals as goal

pub returns-in_err-width-clause-bad_use : goal.returns-in_err-width-clause-bad_use
returns-in_err-width-clause-bad_use c = λ e parts h few.
    let p = c.in_ok-matches.ensures.parts in
    comes_twice (drop 1 (texts_of c.args.words.now)) (found_of c.in_ok-matches.matches) p.0 WidthName p.1 p.2 c.in_err-width.ensures.1 parts h few

pub returns-in_err-turns-clause-bad_use : goal.returns-in_err-turns-clause-bad_use
returns-in_err-turns-clause-bad_use c = λ e parts h few.
    let p = c.in_ok-matches.ensures.parts in
    comes_twice (drop 1 (texts_of c.args.words.now)) (found_of c.in_ok-matches.matches) p.0 TurnsName p.1 p.2 c.in_err-turns.ensures.1 parts h few

pub returns-in_err-workers-clause-bad_use : goal.returns-in_err-workers-clause-bad_use
returns-in_err-workers-clause-bad_use c = λ e parts h few.
    let p = c.in_ok-matches.ensures.parts in
    comes_twice (drop 1 (texts_of c.args.words.now)) (found_of c.in_ok-matches.matches) p.0 WorkersName p.1 p.2 c.in_err-workers.ensures.1 parts h few
