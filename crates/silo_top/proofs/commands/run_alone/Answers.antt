use Rattle.std.proofs.Common.{◌≡◌, ◌∙◌, inr, ℕ, List, Result, Err, false, refl, ap, subst}
use Rattle.promise_spec.specs.Words.{Command, Init, Run, Show, History, Audit, Load, Check, Compact, Upgrade, Migrate}
use Rattle.promise_spec.specs.Calls.{any_option, Understands}
use Rattle.promise_spec.specs.Endings.{MayEndRun, MayEndLoad}
use Rattle.promise_spec.proofs.Words.{one_command}
use Rattle.command_words.specs.CutParts.{texts_of}
use Rattle.command_words.specs.declared.faults.WordsFault.{WordsFault}
use Rattle.silo_top.specs.declared.asked_command.Asked.{Asked}
use Rattle.silo_top.specs.declared.asked_command.Carriage.{Carriage}
use Rattle.silo_top.specs.CallAnswers.{turns_manner, manner_for, shown}
use Rattle.silo_top.specs.AskedCommand.{asked_command, AskForNoWorkers, MayBeCarried}
use Rattle.silo_top.specs.Statuses.{status_ending}
use Rattle.silo_top.proofs.WholeCalls.{obeyed_serves, exact_answers, run_answers, refused_serves, refused_answers, starved_serves, starved_answers}
use Rattle.silo_top.proofs.commands.run_alone.Goals as goal

-- words that weren't read
abbrev unread : WordsFault → Result Asked WordsFault
unread e = Err e

-- what is understood is this command
understood : (texts : List (List ℕ)) (a b : Asked) → a ≡ b → Understands texts (asked_command a) → Understands texts (asked_command b)
understood texts a b same u = subst (λ (x : Asked). Understands texts (asked_command x)) same u

-- words that say a command without workers say no other
without : (texts : List (List ℕ)) (d : Command) → Understands texts d → (manner_for d).threaded ≡ false → AskForNoWorkers texts
without texts d says alone c u = subst (λ (x : Command). (manner_for x).threaded ≡ false) (one_command any_option texts d c says u) alone

-- a run or a load that is carried so
run_how : (a : Asked) (how so : Carriage) → a ≡ Asked.Run how → how ≡ so → a ≡ Asked.Run so
run_how a how so is same = is ∙ ap (λ (x : Carriage). Asked.Run x) same

load_how : (a : Asked) (transfers seed : ℕ) (how so : Carriage) → a ≡ Asked.Load transfers seed how → how ≡ so → a ≡ Asked.Load transfers seed so
load_how a transfers seed how so is same = is ∙ ap (λ (x : Carriage). Asked.Load transfers seed x) same

pub returns-in-Ok-Init-clause-serves : goal.returns-in-Ok-Init-clause-serves
returns-in-Ok-Init-clause-serves g c = λ told. obeyed_serves (texts_of c.args.words.now) Init (understood (texts_of c.args.words.now) c.in-Ok-Init.field-0 Asked.Init c.in-Ok-Init.field-0-is c.in-Ok-Init.ensures.asked)
    (shown (g.H.Host.world c.args.host.now) (g.H.Host.world c.make.new.host) (g.H.Host.faults c.args.host.now) (g.H.Host.faults c.make.new.host) c.make.result) (c.make.ensures.makes told)

pub returns-in-Ok-Init-clause-answers : goal.returns-in-Ok-Init-clause-answers
returns-in-Ok-Init-clause-answers g c = exact_answers (texts_of c.args.words.now) Init (understood (texts_of c.args.words.now) c.in-Ok-Init.field-0 Asked.Init c.in-Ok-Init.field-0-is c.in-Ok-Init.ensures.asked) (g.H.Host.faults c.args.host.now) (g.H.Host.faults c.make.new.host) (status_ending c.make.result) (λ q. c.make.ensures.good q) c.make.ensures.calls.exact

pub returns-in-Ok-Show-clause-serves : goal.returns-in-Ok-Show-clause-serves
returns-in-Ok-Show-clause-serves g c = λ told. obeyed_serves (texts_of c.args.words.now) Show (understood (texts_of c.args.words.now) c.in-Ok-Show.field-0 Asked.Show c.in-Ok-Show.field-0-is c.in-Ok-Show.ensures.asked)
    (shown (g.H.Host.world c.args.host.now) (g.H.Host.world c.show.new.host) (g.H.Host.faults c.args.host.now) (g.H.Host.faults c.show.new.host) c.show.result) (c.show.ensures.reports told)

pub returns-in-Ok-Show-clause-answers : goal.returns-in-Ok-Show-clause-answers
returns-in-Ok-Show-clause-answers g c = exact_answers (texts_of c.args.words.now) Show (understood (texts_of c.args.words.now) c.in-Ok-Show.field-0 Asked.Show c.in-Ok-Show.field-0-is c.in-Ok-Show.ensures.asked) (g.H.Host.faults c.args.host.now) (g.H.Host.faults c.show.new.host) (status_ending c.show.result) (λ q. c.show.ensures.good q) c.show.ensures.calls.exact

pub returns-in-Ok-History-clause-serves : goal.returns-in-Ok-History-clause-serves
returns-in-Ok-History-clause-serves g c = λ told. obeyed_serves (texts_of c.args.words.now) History (understood (texts_of c.args.words.now) c.in-Ok-History.field-0 Asked.History c.in-Ok-History.field-0-is c.in-Ok-History.ensures.asked)
    (shown (g.H.Host.world c.args.host.now) (g.H.Host.world c.history.new.host) (g.H.Host.faults c.args.host.now) (g.H.Host.faults c.history.new.host) c.history.result) (c.history.ensures.reports told)

pub returns-in-Ok-History-clause-answers : goal.returns-in-Ok-History-clause-answers
returns-in-Ok-History-clause-answers g c = exact_answers (texts_of c.args.words.now) History (understood (texts_of c.args.words.now) c.in-Ok-History.field-0 Asked.History c.in-Ok-History.field-0-is c.in-Ok-History.ensures.asked) (g.H.Host.faults c.args.host.now) (g.H.Host.faults c.history.new.host) (status_ending c.history.result) (λ q. c.history.ensures.good q) c.history.ensures.calls.exact

pub returns-in-Ok-Audit-clause-serves : goal.returns-in-Ok-Audit-clause-serves
returns-in-Ok-Audit-clause-serves g c = λ told. obeyed_serves (texts_of c.args.words.now) Audit (understood (texts_of c.args.words.now) c.in-Ok-Audit.field-0 Asked.Audit c.in-Ok-Audit.field-0-is c.in-Ok-Audit.ensures.asked)
    (shown (g.H.Host.world c.args.host.now) (g.H.Host.world c.audit.new.host) (g.H.Host.faults c.args.host.now) (g.H.Host.faults c.audit.new.host) c.audit.result) (c.audit.ensures.audits told)

pub returns-in-Ok-Audit-clause-answers : goal.returns-in-Ok-Audit-clause-answers
returns-in-Ok-Audit-clause-answers g c = exact_answers (texts_of c.args.words.now) Audit (understood (texts_of c.args.words.now) c.in-Ok-Audit.field-0 Asked.Audit c.in-Ok-Audit.field-0-is c.in-Ok-Audit.ensures.asked) (g.H.Host.faults c.args.host.now) (g.H.Host.faults c.audit.new.host) (status_ending c.audit.result) (λ q. c.audit.ensures.good q) c.audit.ensures.calls.exact

pub returns-in-Ok-Check-clause-serves : goal.returns-in-Ok-Check-clause-serves
returns-in-Ok-Check-clause-serves g c = λ told. obeyed_serves (texts_of c.args.words.now) (Check c.in-Ok-Check.starts c.in-Ok-Check.seed) (understood (texts_of c.args.words.now) c.in-Ok-Check.field-0 (Asked.Check c.in-Ok-Check.starts c.in-Ok-Check.seed) c.in-Ok-Check.field-0-is c.in-Ok-Check.ensures.asked)
    (shown (g.H.Host.world c.args.host.now) (g.H.Host.world c.check.new.host) (g.H.Host.faults c.args.host.now) (g.H.Host.faults c.check.new.host) c.check.result) (c.check.ensures.checks told)

pub returns-in-Ok-Check-clause-answers : goal.returns-in-Ok-Check-clause-answers
returns-in-Ok-Check-clause-answers g c = exact_answers (texts_of c.args.words.now) (Check c.in-Ok-Check.starts c.in-Ok-Check.seed) (understood (texts_of c.args.words.now) c.in-Ok-Check.field-0 (Asked.Check c.in-Ok-Check.starts c.in-Ok-Check.seed) c.in-Ok-Check.field-0-is c.in-Ok-Check.ensures.asked) (g.H.Host.faults c.args.host.now) (g.H.Host.faults c.check.new.host) (status_ending c.check.result) (λ q. c.check.ensures.good q) c.check.ensures.calls.exact

pub returns-in-Ok-Run-Turns-clause-serves : goal.returns-in-Ok-Run-Turns-clause-serves
returns-in-Ok-Run-Turns-clause-serves g c = λ told. obeyed_serves (texts_of c.args.words.now) (Run (turns_manner c.in-Ok-Run-Turns.width c.in-Ok-Run-Turns.picks)) (understood (texts_of c.args.words.now) c.in-Ok-Run-Turns.field-0 (Asked.Run (Carriage.Turns c.in-Ok-Run-Turns.width c.in-Ok-Run-Turns.picks)) (run_how c.in-Ok-Run-Turns.field-0 c.in-Ok-Run-Turns.field-0-0 (Carriage.Turns c.in-Ok-Run-Turns.width c.in-Ok-Run-Turns.picks) c.in-Ok-Run-Turns.field-0-is c.in-Ok-Run-Turns.field-0-0-is) c.in-Ok-Run-Turns.ensures.asked)
    (shown (g.H.Host.world c.args.host.now) (g.H.Host.world c.run_in_turns.new.host) (g.H.Host.faults c.args.host.now) (g.H.Host.faults c.run_in_turns.new.host) c.run_in_turns.result) (c.run_in_turns.ensures.promises told)

pub returns-in-Ok-Run-Turns-clause-answers : goal.returns-in-Ok-Run-Turns-clause-answers
returns-in-Ok-Run-Turns-clause-answers g c = run_answers (texts_of c.args.words.now) (Run (turns_manner c.in-Ok-Run-Turns.width c.in-Ok-Run-Turns.picks)) (understood (texts_of c.args.words.now) c.in-Ok-Run-Turns.field-0 (Asked.Run (Carriage.Turns c.in-Ok-Run-Turns.width c.in-Ok-Run-Turns.picks)) (run_how c.in-Ok-Run-Turns.field-0 c.in-Ok-Run-Turns.field-0-0 (Carriage.Turns c.in-Ok-Run-Turns.width c.in-Ok-Run-Turns.picks) c.in-Ok-Run-Turns.field-0-is c.in-Ok-Run-Turns.field-0-0-is) c.in-Ok-Run-Turns.ensures.asked) MayEndRun (g.H.Host.faults c.args.host.now) (g.H.Host.faults c.run_in_turns.new.host) (status_ending c.run_in_turns.result) (λ begun. begun) c.run_in_turns.ensures.answers

pub run_in_turns-requires : goal.run_in_turns-requires
run_in_turns-requires g c = record { wide = subst MayBeCarried (run_how c.in-Ok-Run-Turns.field-0 c.in-Ok-Run-Turns.field-0-0 (Carriage.Turns c.in-Ok-Run-Turns.width c.in-Ok-Run-Turns.picks) c.in-Ok-Run-Turns.field-0-is c.in-Ok-Run-Turns.field-0-0-is) c.in-Ok-Run-Turns.ensures.bounds }

pub returns-in-Ok-Run-Workers-clause-left : goal.returns-in-Ok-Run-Workers-clause-left
returns-in-Ok-Run-Workers-clause-left g c = understood (texts_of c.args.words.now) c.in-Ok-Run-Workers.field-0 (Asked.Run (Carriage.Workers c.in-Ok-Run-Workers.workers)) (run_how c.in-Ok-Run-Workers.field-0 c.in-Ok-Run-Workers.field-0-0 (Carriage.Workers c.in-Ok-Run-Workers.workers) c.in-Ok-Run-Workers.field-0-is c.in-Ok-Run-Workers.field-0-0-is) c.in-Ok-Run-Workers.ensures.asked

pub returns-in-Ok-Run-Workers-clause-bounds : goal.returns-in-Ok-Run-Workers-clause-bounds
returns-in-Ok-Run-Workers-clause-bounds g c = subst MayBeCarried (run_how c.in-Ok-Run-Workers.field-0 c.in-Ok-Run-Workers.field-0-0 (Carriage.Workers c.in-Ok-Run-Workers.workers) c.in-Ok-Run-Workers.field-0-is c.in-Ok-Run-Workers.field-0-0-is) c.in-Ok-Run-Workers.ensures.bounds

pub returns-in-Ok-Load-default-default-Turns-clause-serves : goal.returns-in-Ok-Load-default-default-Turns-clause-serves
returns-in-Ok-Load-default-default-Turns-clause-serves g c = λ told. obeyed_serves (texts_of c.args.words.now) (Load c.in-Ok-Load-default-default-Turns.transfers c.in-Ok-Load-default-default-Turns.seed (turns_manner c.in-Ok-Load-default-default-Turns.width c.in-Ok-Load-default-default-Turns.picks)) (understood (texts_of c.args.words.now) c.in-Ok-Load-default-default-Turns.field-0 (Asked.Load c.in-Ok-Load-default-default-Turns.transfers c.in-Ok-Load-default-default-Turns.seed (Carriage.Turns c.in-Ok-Load-default-default-Turns.width c.in-Ok-Load-default-default-Turns.picks)) (load_how c.in-Ok-Load-default-default-Turns.field-0 c.in-Ok-Load-default-default-Turns.transfers c.in-Ok-Load-default-default-Turns.seed c.in-Ok-Load-default-default-Turns.field-0-2 (Carriage.Turns c.in-Ok-Load-default-default-Turns.width c.in-Ok-Load-default-default-Turns.picks) c.in-Ok-Load-default-default-Turns.field-0-is c.in-Ok-Load-default-default-Turns.field-0-2-is) c.in-Ok-Load-default-default-Turns.ensures.asked)
    (shown (g.H.Host.world c.args.host.now) (g.H.Host.world c.load_in_turns.new.host) (g.H.Host.faults c.args.host.now) (g.H.Host.faults c.load_in_turns.new.host) c.load_in_turns.result) (c.load_in_turns.ensures.loads told)

pub returns-in-Ok-Load-default-default-Turns-clause-answers : goal.returns-in-Ok-Load-default-default-Turns-clause-answers
returns-in-Ok-Load-default-default-Turns-clause-answers g c = run_answers (texts_of c.args.words.now) (Load c.in-Ok-Load-default-default-Turns.transfers c.in-Ok-Load-default-default-Turns.seed (turns_manner c.in-Ok-Load-default-default-Turns.width c.in-Ok-Load-default-default-Turns.picks)) (understood (texts_of c.args.words.now) c.in-Ok-Load-default-default-Turns.field-0 (Asked.Load c.in-Ok-Load-default-default-Turns.transfers c.in-Ok-Load-default-default-Turns.seed (Carriage.Turns c.in-Ok-Load-default-default-Turns.width c.in-Ok-Load-default-default-Turns.picks)) (load_how c.in-Ok-Load-default-default-Turns.field-0 c.in-Ok-Load-default-default-Turns.transfers c.in-Ok-Load-default-default-Turns.seed c.in-Ok-Load-default-default-Turns.field-0-2 (Carriage.Turns c.in-Ok-Load-default-default-Turns.width c.in-Ok-Load-default-default-Turns.picks) c.in-Ok-Load-default-default-Turns.field-0-is c.in-Ok-Load-default-default-Turns.field-0-2-is) c.in-Ok-Load-default-default-Turns.ensures.asked) MayEndLoad (g.H.Host.faults c.args.host.now) (g.H.Host.faults c.load_in_turns.new.host) (status_ending c.load_in_turns.result) (λ begun. begun) c.load_in_turns.ensures.answers

pub load_in_turns-requires-clause-wide : goal.load_in_turns-requires-clause-wide
load_in_turns-requires-clause-wide g c = (subst MayBeCarried (load_how c.in-Ok-Load-default-default-Turns.field-0 c.in-Ok-Load-default-default-Turns.transfers c.in-Ok-Load-default-default-Turns.seed c.in-Ok-Load-default-default-Turns.field-0-2 (Carriage.Turns c.in-Ok-Load-default-default-Turns.width c.in-Ok-Load-default-default-Turns.picks) c.in-Ok-Load-default-default-Turns.field-0-is c.in-Ok-Load-default-default-Turns.field-0-2-is) c.in-Ok-Load-default-default-Turns.ensures.bounds).0

pub load_in_turns-requires-clause-many : goal.load_in_turns-requires-clause-many
load_in_turns-requires-clause-many g c = (subst MayBeCarried (load_how c.in-Ok-Load-default-default-Turns.field-0 c.in-Ok-Load-default-default-Turns.transfers c.in-Ok-Load-default-default-Turns.seed c.in-Ok-Load-default-default-Turns.field-0-2 (Carriage.Turns c.in-Ok-Load-default-default-Turns.width c.in-Ok-Load-default-default-Turns.picks) c.in-Ok-Load-default-default-Turns.field-0-is c.in-Ok-Load-default-default-Turns.field-0-2-is) c.in-Ok-Load-default-default-Turns.ensures.bounds).1

pub returns-in-Ok-Load-default-default-Workers-clause-left : goal.returns-in-Ok-Load-default-default-Workers-clause-left
returns-in-Ok-Load-default-default-Workers-clause-left g c = understood (texts_of c.args.words.now) c.in-Ok-Load-default-default-Workers.field-0 (Asked.Load c.in-Ok-Load-default-default-Workers.transfers c.in-Ok-Load-default-default-Workers.seed (Carriage.Workers c.in-Ok-Load-default-default-Workers.workers)) (load_how c.in-Ok-Load-default-default-Workers.field-0 c.in-Ok-Load-default-default-Workers.transfers c.in-Ok-Load-default-default-Workers.seed c.in-Ok-Load-default-default-Workers.field-0-2 (Carriage.Workers c.in-Ok-Load-default-default-Workers.workers) c.in-Ok-Load-default-default-Workers.field-0-is c.in-Ok-Load-default-default-Workers.field-0-2-is) c.in-Ok-Load-default-default-Workers.ensures.asked

pub returns-in-Ok-Load-default-default-Workers-clause-bounds : goal.returns-in-Ok-Load-default-default-Workers-clause-bounds
returns-in-Ok-Load-default-default-Workers-clause-bounds g c = subst MayBeCarried (load_how c.in-Ok-Load-default-default-Workers.field-0 c.in-Ok-Load-default-default-Workers.transfers c.in-Ok-Load-default-default-Workers.seed c.in-Ok-Load-default-default-Workers.field-0-2 (Carriage.Workers c.in-Ok-Load-default-default-Workers.workers) c.in-Ok-Load-default-default-Workers.field-0-is c.in-Ok-Load-default-default-Workers.field-0-2-is) c.in-Ok-Load-default-default-Workers.ensures.bounds

pub returns-in-Err-BadUse-clause-serves : goal.returns-in-Err-BadUse-clause-serves
returns-in-Err-BadUse-clause-serves g c = λ told. refused_serves (texts_of c.args.words.now) (g.H.Host.world c.args.host.now) (g.H.Host.faults c.args.host.now) (c.in-Err-BadUse.ensures.bad_use (ap unread c.in-Err-BadUse.field-0-is))

pub returns-in-Err-BadUse-clause-answers : goal.returns-in-Err-BadUse-clause-answers
returns-in-Err-BadUse-clause-answers g c = refused_answers (texts_of c.args.words.now) (g.H.Host.faults c.args.host.now) (c.in-Err-BadUse.ensures.bad_use (ap unread c.in-Err-BadUse.field-0-is))

pub returns-in-Err-Memory-clause-serves : goal.returns-in-Err-Memory-clause-serves
returns-in-Err-Memory-clause-serves g c = λ told. starved_serves (texts_of c.args.words.now) (g.H.Host.world c.args.host.now) (g.H.Host.faults c.args.host.now)

pub returns-in-Err-Memory-clause-answers : goal.returns-in-Err-Memory-clause-answers
returns-in-Err-Memory-clause-answers g c = starved_answers (texts_of c.args.words.now) (g.H.Host.faults c.args.host.now)

pub returns-in-Ok-Init-clause-alone : goal.returns-in-Ok-Init-clause-alone
returns-in-Ok-Init-clause-alone g c = inr (without (texts_of c.args.words.now) Init (understood (texts_of c.args.words.now) c.in-Ok-Init.field-0 Asked.Init c.in-Ok-Init.field-0-is c.in-Ok-Init.ensures.asked) refl)

pub returns-in-Ok-Show-clause-alone : goal.returns-in-Ok-Show-clause-alone
returns-in-Ok-Show-clause-alone g c = inr (without (texts_of c.args.words.now) Show (understood (texts_of c.args.words.now) c.in-Ok-Show.field-0 Asked.Show c.in-Ok-Show.field-0-is c.in-Ok-Show.ensures.asked) refl)

pub returns-in-Ok-History-clause-alone : goal.returns-in-Ok-History-clause-alone
returns-in-Ok-History-clause-alone g c = inr (without (texts_of c.args.words.now) History (understood (texts_of c.args.words.now) c.in-Ok-History.field-0 Asked.History c.in-Ok-History.field-0-is c.in-Ok-History.ensures.asked) refl)

pub returns-in-Ok-Audit-clause-alone : goal.returns-in-Ok-Audit-clause-alone
returns-in-Ok-Audit-clause-alone g c = inr (without (texts_of c.args.words.now) Audit (understood (texts_of c.args.words.now) c.in-Ok-Audit.field-0 Asked.Audit c.in-Ok-Audit.field-0-is c.in-Ok-Audit.ensures.asked) refl)

pub returns-in-Ok-Check-clause-alone : goal.returns-in-Ok-Check-clause-alone
returns-in-Ok-Check-clause-alone g c = inr (without (texts_of c.args.words.now) (Check c.in-Ok-Check.starts c.in-Ok-Check.seed) (understood (texts_of c.args.words.now) c.in-Ok-Check.field-0 (Asked.Check c.in-Ok-Check.starts c.in-Ok-Check.seed) c.in-Ok-Check.field-0-is c.in-Ok-Check.ensures.asked) refl)

pub returns-in-Ok-Run-Turns-clause-alone : goal.returns-in-Ok-Run-Turns-clause-alone
returns-in-Ok-Run-Turns-clause-alone g c = inr (without (texts_of c.args.words.now) (Run (turns_manner c.in-Ok-Run-Turns.width c.in-Ok-Run-Turns.picks)) (understood (texts_of c.args.words.now) c.in-Ok-Run-Turns.field-0 (Asked.Run (Carriage.Turns c.in-Ok-Run-Turns.width c.in-Ok-Run-Turns.picks)) (run_how c.in-Ok-Run-Turns.field-0 c.in-Ok-Run-Turns.field-0-0 (Carriage.Turns c.in-Ok-Run-Turns.width c.in-Ok-Run-Turns.picks) c.in-Ok-Run-Turns.field-0-is c.in-Ok-Run-Turns.field-0-0-is) c.in-Ok-Run-Turns.ensures.asked) refl)

pub returns-in-Ok-Load-default-default-Turns-clause-alone : goal.returns-in-Ok-Load-default-default-Turns-clause-alone
returns-in-Ok-Load-default-default-Turns-clause-alone g c = inr (without (texts_of c.args.words.now) (Load c.in-Ok-Load-default-default-Turns.transfers c.in-Ok-Load-default-default-Turns.seed (turns_manner c.in-Ok-Load-default-default-Turns.width c.in-Ok-Load-default-default-Turns.picks)) (understood (texts_of c.args.words.now) c.in-Ok-Load-default-default-Turns.field-0 (Asked.Load c.in-Ok-Load-default-default-Turns.transfers c.in-Ok-Load-default-default-Turns.seed (Carriage.Turns c.in-Ok-Load-default-default-Turns.width c.in-Ok-Load-default-default-Turns.picks)) (load_how c.in-Ok-Load-default-default-Turns.field-0 c.in-Ok-Load-default-default-Turns.transfers c.in-Ok-Load-default-default-Turns.seed c.in-Ok-Load-default-default-Turns.field-0-2 (Carriage.Turns c.in-Ok-Load-default-default-Turns.width c.in-Ok-Load-default-default-Turns.picks) c.in-Ok-Load-default-default-Turns.field-0-is c.in-Ok-Load-default-default-Turns.field-0-2-is) c.in-Ok-Load-default-default-Turns.ensures.asked) refl)

pub returns-in-Err-BadUse-clause-alone : goal.returns-in-Err-BadUse-clause-alone
returns-in-Err-BadUse-clause-alone g c = inr (λ d u. absurd (c.in-Err-BadUse.ensures.bad_use (ap unread c.in-Err-BadUse.field-0-is) d u))

pub returns-in-Ok-Compact-clause-serves : goal.returns-in-Ok-Compact-clause-serves
returns-in-Ok-Compact-clause-serves g c = λ told. obeyed_serves (texts_of c.args.words.now) Compact (understood (texts_of c.args.words.now) c.in-Ok-Compact.field-0 Asked.Compact c.in-Ok-Compact.field-0-is c.in-Ok-Compact.ensures.asked)
    (shown (g.H.Host.world c.args.host.now) (g.H.Host.world c.compact.new.host) (g.H.Host.faults c.args.host.now) (g.H.Host.faults c.compact.new.host) c.compact.result) (c.compact.ensures.compacts told)

pub returns-in-Ok-Compact-clause-answers : goal.returns-in-Ok-Compact-clause-answers
returns-in-Ok-Compact-clause-answers g c = exact_answers (texts_of c.args.words.now) Compact (understood (texts_of c.args.words.now) c.in-Ok-Compact.field-0 Asked.Compact c.in-Ok-Compact.field-0-is c.in-Ok-Compact.ensures.asked) (g.H.Host.faults c.args.host.now) (g.H.Host.faults c.compact.new.host) (status_ending c.compact.result) (λ q. c.compact.ensures.good q) c.compact.ensures.calls.exact

pub returns-in-Ok-Compact-clause-alone : goal.returns-in-Ok-Compact-clause-alone
returns-in-Ok-Compact-clause-alone g c = inr (without (texts_of c.args.words.now) Compact (understood (texts_of c.args.words.now) c.in-Ok-Compact.field-0 Asked.Compact c.in-Ok-Compact.field-0-is c.in-Ok-Compact.ensures.asked) refl)

pub returns-in-Ok-Upgrade-clause-serves : goal.returns-in-Ok-Upgrade-clause-serves
returns-in-Ok-Upgrade-clause-serves g c = λ told. obeyed_serves (texts_of c.args.words.now) Upgrade (understood (texts_of c.args.words.now) c.in-Ok-Upgrade.field-0 Asked.Upgrade c.in-Ok-Upgrade.field-0-is c.in-Ok-Upgrade.ensures.asked)
    (shown (g.H.Host.world c.args.host.now) (g.H.Host.world c.upgrade.new.host) (g.H.Host.faults c.args.host.now) (g.H.Host.faults c.upgrade.new.host) c.upgrade.result) (c.upgrade.ensures.upgrades told)

pub returns-in-Ok-Upgrade-clause-answers : goal.returns-in-Ok-Upgrade-clause-answers
returns-in-Ok-Upgrade-clause-answers g c = exact_answers (texts_of c.args.words.now) Upgrade (understood (texts_of c.args.words.now) c.in-Ok-Upgrade.field-0 Asked.Upgrade c.in-Ok-Upgrade.field-0-is c.in-Ok-Upgrade.ensures.asked) (g.H.Host.faults c.args.host.now) (g.H.Host.faults c.upgrade.new.host) (status_ending c.upgrade.result) (λ q. c.upgrade.ensures.good q) c.upgrade.ensures.calls.exact

pub returns-in-Ok-Upgrade-clause-alone : goal.returns-in-Ok-Upgrade-clause-alone
returns-in-Ok-Upgrade-clause-alone g c = inr (without (texts_of c.args.words.now) Upgrade (understood (texts_of c.args.words.now) c.in-Ok-Upgrade.field-0 Asked.Upgrade c.in-Ok-Upgrade.field-0-is c.in-Ok-Upgrade.ensures.asked) refl)

pub returns-in-Ok-Migrate-clause-serves : goal.returns-in-Ok-Migrate-clause-serves
returns-in-Ok-Migrate-clause-serves g c = λ told. obeyed_serves (texts_of c.args.words.now) Migrate (understood (texts_of c.args.words.now) c.in-Ok-Migrate.field-0 Asked.Migrate c.in-Ok-Migrate.field-0-is c.in-Ok-Migrate.ensures.asked)
    (shown (g.H.Host.world c.args.host.now) (g.H.Host.world c.migrate.new.host) (g.H.Host.faults c.args.host.now) (g.H.Host.faults c.migrate.new.host) c.migrate.result) (c.migrate.ensures.migrates told)

pub returns-in-Ok-Migrate-clause-answers : goal.returns-in-Ok-Migrate-clause-answers
returns-in-Ok-Migrate-clause-answers g c = exact_answers (texts_of c.args.words.now) Migrate (understood (texts_of c.args.words.now) c.in-Ok-Migrate.field-0 Asked.Migrate c.in-Ok-Migrate.field-0-is c.in-Ok-Migrate.ensures.asked) (g.H.Host.faults c.args.host.now) (g.H.Host.faults c.migrate.new.host) (status_ending c.migrate.result) (λ q. c.migrate.ensures.good q) c.migrate.ensures.calls.exact

pub returns-in-Ok-Migrate-clause-alone : goal.returns-in-Ok-Migrate-clause-alone
returns-in-Ok-Migrate-clause-alone g c = inr (without (texts_of c.args.words.now) Migrate (understood (texts_of c.args.words.now) c.in-Ok-Migrate.field-0 Asked.Migrate c.in-Ok-Migrate.field-0-is c.in-Ok-Migrate.ensures.asked) refl)

pub returns-in-Ok-Init-clause-ready : goal.returns-in-Ok-Init-clause-ready
returns-in-Ok-Init-clause-ready g c = c.make.ensures.calls.ready

pub returns-in-Ok-Show-clause-ready : goal.returns-in-Ok-Show-clause-ready
returns-in-Ok-Show-clause-ready g c = c.show.ensures.calls.ready

pub returns-in-Ok-History-clause-ready : goal.returns-in-Ok-History-clause-ready
returns-in-Ok-History-clause-ready g c = c.history.ensures.calls.ready

pub returns-in-Ok-Audit-clause-ready : goal.returns-in-Ok-Audit-clause-ready
returns-in-Ok-Audit-clause-ready g c = c.audit.ensures.calls.ready

pub returns-in-Ok-Check-clause-ready : goal.returns-in-Ok-Check-clause-ready
returns-in-Ok-Check-clause-ready g c = c.check.ensures.calls.ready

pub returns-in-Ok-Run-Turns-clause-ready : goal.returns-in-Ok-Run-Turns-clause-ready
returns-in-Ok-Run-Turns-clause-ready g c = c.run_in_turns.ensures.ready

pub returns-in-Ok-Load-default-default-Turns-clause-ready : goal.returns-in-Ok-Load-default-default-Turns-clause-ready
returns-in-Ok-Load-default-default-Turns-clause-ready g c = c.load_in_turns.ensures.ready

pub returns-in-Ok-Compact-clause-ready : goal.returns-in-Ok-Compact-clause-ready
returns-in-Ok-Compact-clause-ready g c = c.compact.ensures.calls.ready

pub returns-in-Ok-Upgrade-clause-ready : goal.returns-in-Ok-Upgrade-clause-ready
returns-in-Ok-Upgrade-clause-ready g c = c.upgrade.ensures.calls.ready

pub returns-in-Ok-Migrate-clause-ready : goal.returns-in-Ok-Migrate-clause-ready
returns-in-Ok-Migrate-clause-ready g c = c.migrate.ensures.calls.ready
