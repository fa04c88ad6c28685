-- How long a spelling is at most.
use Rattle.std.proofs.Common.{ℕ, ◌+◌, ◌*◌, ◌≤◌, List, [], ◌∷◌, length, length-append, arith}
use Rattle.std.specs.List.{flat_map, AllByRecursion}
use Rattle.base_types.specs.declared.calls.Value.{Value}
use Rattle.base_types.specs.declared.calls.Value.TheVariants.{Int, Text}
use Rattle.base_types.specs.declared.calls.Call.{Call}
use Rattle.base_types.specs.declared.calls.Origin.{Origin}
use Rattle.base_types.specs.declared.calls.Origin.TheVariants.{Line, Child}
use Rattle.base_types.specs.declared.calls.Outcome as outcome
use Rattle.base_types.specs.declared.stores.Version.{Version}
use Rattle.field_codec.specs.declared.formats.Format.{Format}
use Rattle.field_codec.specs.declared.formats.Format.TheVariants.{One, Two}
use Rattle.field_codec.specs.Formats.{text_limit, version_limit}
use Rattle.field_codec.specs.Spelling.{spelling_of_text, TextFits, spelling_of_value, ValueFits, spelling_of_values, ValuesFit, spelling_of_version, VersionFits, spelling_of_origin, spelling_of_call, CallFits, spelling_of_outcome, AnswerFits}

-- so many spellings, each at most so long
pub flat_short : {A : Type 0} (f : A → List ℕ) (Fits : A → Type 0) (most : ℕ) → ((a : A) → Fits a → length (f a) ≤ most) → (xs : List A) → AllByRecursion Fits xs → length (flat_map f xs) ≤ most * length xs
flat_short f Fits most each [] fits = omega arith
flat_short f Fits most each (x ∷ xs) fits =
    let one = each x fits.0 in
    let more = flat_short f Fits most each xs fits.1 in
    omega (arith, one, more, length-append (f x) (flat_map f xs))

text_short : (f : Format) (t : List ℕ) → TextFits f t → length (spelling_of_text t) ≤ 2 + text_limit f
text_short f t fits = let most = fits.0 in omega (arith, most)

value_short : (f : Format) (v : Value) → ValueFits f v → length (spelling_of_value v) ≤ 3 + text_limit f
value_short One (Int z) fits = omega arith
value_short Two (Int z) fits = omega arith
value_short f (Text t) fits = let text = text_short f t fits in omega (arith, text)

values_short : (f : Format) (most : ℕ) (vs : List Value) → ValuesFit f most vs → length (spelling_of_values vs) ≤ 2 + (3 + text_limit f) * length vs
values_short f most vs fits = let all = flat_short spelling_of_value (ValueFits f) (3 + text_limit f) (value_short f) vs fits.1 in omega (arith, all)

-- a version is at most this long
pub version_short : (f : Format) (v : Version) → VersionFits f v → length (spelling_of_version v) ≤ version_limit f
version_short One v fits = let all = values_short One 16 v.state fits.state in omega (arith, all, fits.state.0)
version_short Two v fits = let all = values_short Two 64 v.state fits.state in omega (arith, all, fits.state.0)

pub call_short : (c : Call) → CallFits Two c → length (spelling_of_call c) ≤ 32802
call_short c fits = let args = values_short Two 8 c.args fits.args in omega (arith, args, fits.args.0)

pub origin_short : (o : Origin) → length (spelling_of_origin o) ≤ 15
origin_short (Line line) = omega arith
origin_short (Child parent index depth) = omega arith

pub outcome_short : (o : outcome.Outcome) → AnswerFits Two o → length (spelling_of_outcome o) ≤ 4100
outcome_short outcome.TheVariants.Aborted fits = omega arith
outcome_short (outcome.TheVariants.Value value) fits = let v = value_short Two value fits in omega (arith, v)
outcome_short (outcome.TheVariants.Fault text) fits = let t = text_short Two text fits in omega (arith, t)
