-- What the code holds of an expression's surroundings.
use Rattle.script_values.specs.declared.scopes.Scope.{Scope}
use Rattle.script_values.specs.Expressions.{Surroundings}

-- the surroundings that the code holds
abbrev pub surroundings : Scope → Surroundings
surroundings scope = record { fields = scope.fields.now; key = scope.key; state = scope.state.now; locals = scope.locals.now }
