-- What events carry, so that the entries that they settle can be written as lines.
use Rattle.std.specs.Prelude.{⊤}
use Rattle.std.specs.List.{AllByRecursion}
use Rattle.base_types.specs.declared.shapes.Shape.{Shape}
use Rattle.field_codec.specs.declared.formats.Format.TheVariants.{Two}
use Rattle.field_codec.specs.Spelling.{ResultFits}
use Rattle.core_model.specs.CoreState.{Write}
use Rattle.core_model.specs.declared.effects.Effect.{Effect}
use Rattle.core_model.specs.declared.events.CoreEvent.{CoreEvent}
use Rattle.core_model.specs.declared.events.CoreEvent.TheVariants.{Bad, Begin, Grant, Refuse, Finish, EndPlain, EndSnapshot, Release, Take, Vote, Decide, Sealed, NotSealed, Doubt, Learn, Emitted, Halt, Want, Load}
use Rattle.promise_spec.specs.Outputs.{IsGrainIn}

-- the result is a value or a text within the limits, and the written grains are the program's
abbrev pub IsEffectIn : Shape → Effect → Type 0
IsEffectIn shape e = ResultFits Two e.result × AllByRecursion (λ (w : Write). IsGrainIn shape w.0) e.writes

-- An event carries results within the limits, and grains of the program where a unit is refused one or writes one.
abbrev pub IsEventIn : Shape → CoreEvent → Type 0
IsEventIn shape (Bad n why) = ⊤
IsEventIn shape (Begin origin call plain) = ⊤
IsEventIn shape (Grant u g mode) = ⊤
IsEventIn shape (Refuse u g mode) = IsGrainIn shape g
IsEventIn shape (Finish u e) = IsEffectIn shape e
IsEventIn shape (EndPlain u e) = IsEffectIn shape e
IsEventIn shape (EndSnapshot u at outcome) = ResultFits Two outcome
IsEventIn shape (Release u g) = ⊤
IsEventIn shape Take = ⊤
IsEventIn shape (Vote n g kept) = ⊤
IsEventIn shape (Decide n) = ⊤
IsEventIn shape (Sealed n) = ⊤
IsEventIn shape (NotSealed n) = ⊤
IsEventIn shape (Doubt n) = ⊤
IsEventIn shape (Learn u g) = ⊤
IsEventIn shape Emitted = ⊤
IsEventIn shape Halt = ⊤
IsEventIn shape (Want u g) = ⊤
IsEventIn shape (Load g u state) = ⊤
