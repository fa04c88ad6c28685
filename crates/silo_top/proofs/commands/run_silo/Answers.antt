use Rattle.std.proofs.Common.{◌≡◌, ℕ, List, subst}
use Rattle.promise_spec.specs.Words.{Run, Load}
use Rattle.promise_spec.specs.Calls.{Understands}
use Rattle.promise_spec.specs.Endings.{MayEndRun, MayEndLoad}
use Rattle.promise_spec.specs.Loads.{Loads}
use Rattle.promise_spec.specs.Promise.{Promises}
use Rattle.bank_load.specs.Requests.{load_texts}
use Rattle.command_words.specs.CutParts.{texts_of}
use Rattle.silo_top.specs.declared.commands.ByWorkers.{ByWorkers}
use Rattle.silo_top.specs.CallAnswers.{workers_manner, shown, AnswersRun}
use Rattle.silo_top.specs.AskedCommand.{left_command, MayBeLeft}
use Rattle.silo_top.specs.Statuses.{status_ending}
use Rattle.silo_top.proofs.ShownCalls.{observed_call, observed_run}
use Rattle.silo_top.proofs.WholeCalls.{obeyed_serves, run_answers}
use Rattle.silo_top.proofs.commands.run_silo.Goals as goal

-- what is left is this command
left : (texts : List (List ℕ)) (a b : ByWorkers) → a ≡ b → Understands texts (left_command a) → Understands texts (left_command b)
left texts a b same u = subst (λ (x : ByWorkers). Understands texts (left_command x)) same u

pub returns-in-Err-Run-clause-serves : goal.returns-in-Err-Run-clause-serves
returns-in-Err-Run-clause-serves g c = λ told. obeyed_serves (texts_of c.args.words.now) (Run workers_manner) (left (texts_of c.args.words.now) c.in-Err-Run.field-0 (ByWorkers.Run c.in-Err-Run.workers) c.in-Err-Run.field-0-is c.in-Err-Run.ensures.left)
    (shown (g.H.Host.world c.args.host.now) (g.H.Host.world c.run_by_workers.new.host) (g.H.Host.faults c.args.host.now) (g.H.Host.faults c.run_by_workers.new.host) c.run_by_workers.result)
    (subst (λ h. Promises workers_manner (observed_run workers_manner (g.H.Host.world h) (g.H.Host.world c.run_by_workers.new.host) (g.H.Host.faults h) (g.H.Host.faults c.run_by_workers.new.host) c.run_by_workers.result)) c.in-Err-Run.ensures.unused (c.run_by_workers.ensures.promises told))

pub returns-in-Err-Run-clause-answers : goal.returns-in-Err-Run-clause-answers
returns-in-Err-Run-clause-answers g c = run_answers (texts_of c.args.words.now) (Run workers_manner) (left (texts_of c.args.words.now) c.in-Err-Run.field-0 (ByWorkers.Run c.in-Err-Run.workers) c.in-Err-Run.field-0-is c.in-Err-Run.ensures.left) MayEndRun (g.H.Host.faults c.args.host.now) (g.H.Host.faults c.run_by_workers.new.host) (status_ending c.run_by_workers.result) (λ begun. begun)
    (subst (λ h. AnswersRun MayEndRun (status_ending c.run_by_workers.result) (g.H.Host.faults h) (g.H.Host.faults c.run_by_workers.new.host)) c.in-Err-Run.ensures.unused c.run_by_workers.ensures.answers)

pub run_by_workers-requires-clause-few : goal.run_by_workers-requires-clause-few
run_by_workers-requires-clause-few g c l u = (subst MayBeLeft c.in-Err-Run.field-0-is c.in-Err-Run.ensures.bounds).1

pub returns-in-Err-Load-clause-serves : goal.returns-in-Err-Load-clause-serves
returns-in-Err-Load-clause-serves g c = λ told. obeyed_serves (texts_of c.args.words.now) (Load c.in-Err-Load.transfers c.in-Err-Load.seed workers_manner) (left (texts_of c.args.words.now) c.in-Err-Load.field-0 (ByWorkers.Load c.in-Err-Load.transfers c.in-Err-Load.seed c.in-Err-Load.workers) c.in-Err-Load.field-0-is c.in-Err-Load.ensures.left)
    (shown (g.H.Host.world c.args.host.now) (g.H.Host.world c.load_by_workers.new.host) (g.H.Host.faults c.args.host.now) (g.H.Host.faults c.load_by_workers.new.host) c.load_by_workers.result)
    (subst (λ h. Loads c.in-Err-Load.transfers c.in-Err-Load.seed workers_manner (observed_call workers_manner (load_texts c.in-Err-Load.transfers c.in-Err-Load.seed) (g.H.Host.world h) (g.H.Host.world c.load_by_workers.new.host) (g.H.Host.faults h) (g.H.Host.faults c.load_by_workers.new.host) c.load_by_workers.result)) c.in-Err-Load.ensures.unused (c.load_by_workers.ensures.loads told))

pub returns-in-Err-Load-clause-answers : goal.returns-in-Err-Load-clause-answers
returns-in-Err-Load-clause-answers g c = run_answers (texts_of c.args.words.now) (Load c.in-Err-Load.transfers c.in-Err-Load.seed workers_manner) (left (texts_of c.args.words.now) c.in-Err-Load.field-0 (ByWorkers.Load c.in-Err-Load.transfers c.in-Err-Load.seed c.in-Err-Load.workers) c.in-Err-Load.field-0-is c.in-Err-Load.ensures.left) MayEndLoad (g.H.Host.faults c.args.host.now) (g.H.Host.faults c.load_by_workers.new.host) (status_ending c.load_by_workers.result) (λ begun. begun)
    (subst (λ h. AnswersRun MayEndLoad (status_ending c.load_by_workers.result) (g.H.Host.faults h) (g.H.Host.faults c.load_by_workers.new.host)) c.in-Err-Load.ensures.unused c.load_by_workers.ensures.answers)

pub load_by_workers-requires-clause-few : goal.load_by_workers-requires-clause-few
load_by_workers-requires-clause-few g c l u = (subst MayBeLeft c.in-Err-Load.field-0-is c.in-Err-Load.ensures.bounds).0.1

pub load_by_workers-requires-clause-many : goal.load_by_workers-requires-clause-many
load_by_workers-requires-clause-many g c l u = (subst MayBeLeft c.in-Err-Load.field-0-is c.in-Err-Load.ensures.bounds).1

pub returns-in-Err-Run-clause-ready : goal.returns-in-Err-Run-clause-ready
returns-in-Err-Run-clause-ready g c = λ file was. c.run_by_workers.ensures.ready file (c.run_alone.ensures.ready file was)

pub returns-in-Err-Load-clause-ready : goal.returns-in-Err-Load-clause-ready
returns-in-Err-Load-clause-ready g c = λ file was. c.load_by_workers.ensures.ready file (c.run_alone.ensures.ready file was)
