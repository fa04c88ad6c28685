use Rattle.std.proofs.Common.{ℕ, List, Option, ap, sym, ◌∙◌}
use Rattle.script_tree.specs.declared.programs.FieldDecl.{FieldDecl}
use Rattle.script_values.specs.Expressions.{field_named}
use Rattle.script_values.specs.Faults.{unknown}
use Rattle.script_values.specs.Values.{ValueOrFault}
use Rattle.script_meaning.specs.Requests.{with_value}
use Rattle.script_meaning.specs.Calls.{settable}
use Rattle.script_meaning.specs.Statements.{sets}
use Rattle.script_player.specs.PlayState.{site_of}
use Rattle.script_player.proofs.PlayProgress.{ends_at}
use Rattle.script_player.proofs.player.Player.set.Goals as goal

pub returns-in_default-clause-led : goal.returns-in_default-clause-led
returns-in_default-clause-led c = λ world types runner back next.
    let has = c.args.self.now.has in
    let site = site_of c.args.site.now in
    let name = c.args.name.now.text in
    let locals = c.args.locals.now in
    let none = c.in_default.ensures {u = tt} ∙ ap (λ (fields : List FieldDecl). field_named name fields) c.settable-fields.ensures in
    ends_at world has c.args.self.now.progress c.stop_at.result unknown _ c.stop_at.ensures
    (ap (λ (g : ValueOrFault). with_value g has (λ found. sets types runner site back (field_named name (settable site.kind site.fields)) found next locals has)) (c.in_ok-value.ensures {u = tt})
    ∙ ap (λ (o : Option ℕ). sets types runner site back o c.in_ok-value.value next locals has) (sym none))
