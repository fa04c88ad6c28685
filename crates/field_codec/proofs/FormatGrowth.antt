-- What fits the limits of format 1 fits those of format 2.
use Rattle.std.proofs.Common.{ℕ, ◌≤◌, List, [], ◌∷◌, arith}
use Rattle.std.specs.List.{AllByRecursion}
use Rattle.base_types.specs.declared.calls.Value.{Value}
use Rattle.base_types.specs.declared.calls.Value.TheVariants.{Int, Text}
use Rattle.base_types.specs.declared.calls.Call.{Call}
use Rattle.base_types.specs.declared.calls.Outcome as outcome
use Rattle.base_types.specs.declared.stores.Version.{Version}
use Rattle.field_codec.specs.declared.formats.Format.TheVariants.{One, Two}
use Rattle.field_codec.specs.Spelling.{TextFits, ValueFits, ValuesFit, VersionFits, CallFits, AnswerFits, ResultFits}

pub text_grows : (t : List ℕ) → TextFits One t → TextFits Two t
text_grows t fits = let most = fits.0 in (omega (arith, most), fits.1)

pub value_grows : (v : Value) → ValueFits One v → ValueFits Two v
value_grows (Int z) fits = fits
value_grows (Text t) fits = text_grows t fits

pub each_grows : {A : Type 0} (P Q : A → Type 0) → ((a : A) → P a → Q a) → (xs : List A) → AllByRecursion P xs → AllByRecursion Q xs
each_grows P Q each [] all = tt
each_grows P Q each (x ∷ xs) all = (each x all.0, each_grows P Q each xs all.1)

pub values_grow : (less most : ℕ) → less ≤ most → (vs : List Value) → ValuesFit One less vs → ValuesFit Two most vs
values_grow less most le vs fits = let few = fits.0 in (omega (arith, few, le), each_grows (ValueFits One) (ValueFits Two) value_grows vs fits.1)

pub version_grows : (v : Version) → VersionFits One v → VersionFits Two v
version_grows v fits = record { unit = fits.unit; state = values_grow 16 64 (omega arith) v.state fits.state }

pub call_grows : (c : Call) → CallFits One c → CallFits Two c
call_grows c fits = record { kind = fits.kind; key = fits.key; method = fits.method; args = values_grow 8 8 (omega arith) c.args fits.args }

pub answer_grows : (o : outcome.Outcome) → AnswerFits One o → AnswerFits Two o
answer_grows outcome.TheVariants.Aborted fits = tt
answer_grows (outcome.TheVariants.Value value) fits = value_grows value fits
answer_grows (outcome.TheVariants.Fault text) fits = text_grows text fits

pub result_grows : (o : outcome.Outcome) → ResultFits One o → ResultFits Two o
result_grows outcome.TheVariants.Aborted fits = fits
result_grows (outcome.TheVariants.Value value) fits = value_grows value fits
result_grows (outcome.TheVariants.Fault text) fits = text_grows text fits
