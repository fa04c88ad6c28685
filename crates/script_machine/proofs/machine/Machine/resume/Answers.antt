use Rattle.script_tree.specs.Programs.{program_tree}
use Rattle.script_machine.proofs.Trails.{all_ok, follows_on}
use Rattle.script_machine.proofs.machine.Machine.resume.Goals as goal

pub returns-clause-follows : goal.returns-clause-follows
returns-clause-follows c =
    let types = program_tree c.args.checked.now in
    let known = follows_on types c.args.self.now c.feed.new.self c.args.input c.in_ok-feed.ensures.fed c.in_ok-feed.ensures.reads c.in_ok-feed.ensures.answers in
    all_ok c.pause.result _ (λ call depth trail follows.
    record { named = (known call depth trail follows).named; left = (known call depth trail follows).left; reads = (known call depth trail follows).reads; answers = (known call depth trail follows).answers })
