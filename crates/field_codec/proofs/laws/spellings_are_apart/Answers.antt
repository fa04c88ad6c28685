use Rattle.std.proofs.Common.{◌^◌, arith}
use Rattle.std.specs.Int.{w32}
use Rattle.field_codec.specs.Spelling.{spelling_of_value, ValueFits, spelling_of_values, ValuesFit, spelling_of_call, CallFits, spelling_of_version, VersionFits, spelling_of_origin, spelling_of_outcome, AnswerFits, spelling_of_text, TextFits}
use Rattle.field_codec.specs.Readers.{text_at}
use Rattle.field_codec.specs.Fields.{value_at, values_at, call_at, version_at, origin_at, answer_at}
use Rattle.field_codec.proofs.Readers.{apart}
use Rattle.field_codec.proofs.Counts.{wide32, text_reads, field_limit_small}
use Rattle.field_codec.specs.Formats.{field_limit}
use Rattle.field_codec.proofs.TextsApart.{counted_apart}
use Rattle.field_codec.proofs.Things.{value_reads, values_read, call_reads, version_reads, OriginFitsIn, origin_reads, any_parent, answer_reads}
use Rattle.field_codec.specs.declared.units.Numbers.TheVariants.{Free}
use Rattle.field_codec.proofs.laws.spellings_are_apart.Goals as goal

pub returns-clause-texts : goal.returns-clause-texts
returns-clause-texts c f = apart spelling_of_text (TextFits f) (text_at f) (text_reads f 0)

pub returns-clause-values : goal.returns-clause-values
returns-clause-values c f = apart spelling_of_value (ValueFits f) (value_at f) (value_reads f 0)

pub returns-clause-states : goal.returns-clause-states
returns-clause-states c f = apart spelling_of_values (ValuesFit f (field_limit f)) (values_at f (field_limit f)) (values_read f (field_limit f) (field_limit_small f) 0)

pub returns-clause-calls : goal.returns-clause-calls
returns-clause-calls c f = apart spelling_of_call (CallFits f) (call_at f) (call_reads f 0)

pub returns-clause-versions : goal.returns-clause-versions
returns-clause-versions c f = apart spelling_of_version (VersionFits f) (version_at f) (version_reads f 0)

pub returns-clause-origins : goal.returns-clause-origins
returns-clause-origins c a b x y fits also e = apart spelling_of_origin (OriginFitsIn Free) (origin_at Free) (origin_reads Free 0) a b x y (fits, any_parent a) (also, any_parent b) e

pub returns-clause-outcomes : goal.returns-clause-outcomes
returns-clause-outcomes c f = apart spelling_of_outcome (AnswerFits f) (answer_at f) (answer_reads f 0)

pub returns-clause-programs : goal.returns-clause-programs
returns-clause-programs c a b x y fits also e = counted_apart w32 (2 ^ 32) wide32 a b x y (omega (arith, fits)) (omega (arith, also)) e
