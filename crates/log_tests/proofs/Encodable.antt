-- What a body of the grammar says has a spelling.
use Rattle.base_types.specs.declared.calls.Outcome as outcome
use Rattle.base_types.specs.declared.shapes.Shape.{Shape}
use Rattle.field_codec.specs.declared.formats.Format.{Format}
use Rattle.field_codec.specs.declared.units.Numbers.{Numbers}
use Rattle.field_codec.specs.Spelling.{ResultFits}
use Rattle.field_codec.proofs.FormatGrowth.{each_grows}
use Rattle.commit_log.specs.declared.records.CommitRecord.{CommitRecord}
use Rattle.commit_log.specs.declared.contents.Body.{Body}
use Rattle.commit_log.specs.declared.contents.Body.TheVariants.{Records, Upgrade}
use Rattle.commit_log.specs.Bodies.{IsRecordIn}
use Rattle.commit_log.specs.Contents.{IsContentIn}
use Rattle.commit_log.specs.EncodableRecords.{MaySpell, IsNoAbort}
use Rattle.log_tests.specs.Encodable.{IsEncodable}

no_abort : (f : Format) (o : outcome.Outcome) → ResultFits f o → IsNoAbort o
no_abort f outcome.TheVariants.Aborted fits = fits
no_abort f (outcome.TheVariants.Value value) fits = tt
no_abort f (outcome.TheVariants.Fault text) fits = tt

may_spell : (f : Format) (numbers : Numbers) (shape : Shape) (r : CommitRecord) → IsRecordIn f numbers shape r → MaySpell r
may_spell f numbers shape r is = record {
  args = is.fits.call.args.0;
  answers = is.fits.answers.0;
  result = no_abort f r.result is.fits.result;
  writes = is.fits.writes.0;
  order = is.fits.writes.1.1;
}

pub encodable : (f : Format) (numbers : Numbers) (shape : Shape) (b : Body) → IsContentIn f numbers shape b → IsEncodable b
encodable f numbers shape (Records records) is = (is.0, each_grows (IsRecordIn f numbers shape) MaySpell (may_spell f numbers shape) records is.1)
encodable f numbers shape (Upgrade text) is = is
