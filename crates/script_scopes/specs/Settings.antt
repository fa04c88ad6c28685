-- What the code holds of a method's surroundings.
use Rattle.std.specs.Prelude.{map}
use Rattle.script_tree.specs.Programs.{type_tree}
use Rattle.script_scopes.specs.declared.names.Setting.{Setting}
use Rattle.script_scopes.specs.Names as names

-- the setting that the code holds
abbrev pub setting_of : Setting → names.Setting
setting_of setting = record { types = map type_tree setting.types.now; fields = map (λ n. n.now) setting.fields.now; kind = setting.kind }
