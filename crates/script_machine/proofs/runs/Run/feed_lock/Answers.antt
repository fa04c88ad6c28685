use Rattle.std.proofs.Common.{◌≡◌, ap, ◌∙◌, List, subst, OnOk}
use Rattle.std.specs.Prelude.{◌++◌, ◌∷◌, []}
use Rattle.script_tree.specs.declared.programs.FieldDecl.{FieldDecl}
use Rattle.script_tree.specs.Programs.{program_tree}
use Rattle.script_holding.specs.Holding.{Holding, newly_held, with_held}
use Rattle.script_machine.specs.Frames.{goes_on}
use Rattle.script_machine.specs.Runs.{back_of, rest_of_run}
use Rattle.script_machine.proofs.runs.Run.feed_lock.Goals as goal

pub returns : goal.returns
returns c =
    let run = c.args.self.now in
    let types = program_tree c.args.checked.now in
    let locked = c.in_ok-lock.ensures.ok ∙ ap (λ (fields : List FieldDecl). with_held run.has (run.has.held ++ newly_held c.args.grain c.args.mode fields c.args.found ∷ [])) c.fields_at-fields.ensures.same in
    subst (λ (has : Holding). OnOk c.go.result (goes_on types run.top (back_of types run) has ≡ rest_of_run types c.go.new.self)) locked c.go.ensures
