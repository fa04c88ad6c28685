use Rattle.std.proofs.Common.{◌≡◌, ◌-◌, ◌+◌, ℕ, [], length, ap, ◌∙◌, arith}
use Rattle.std.proofs.Math.Facts.{Fits-of_lt}
use Rattle.field_codec.specs.declared.formats.Format.TheVariants.{Two}
use Rattle.field_codec.specs.Spelling.{spelling_of_version, VersionFits}
use Rattle.field_codec.proofs.ByteGrowth.{all_more, flat_more}
use Rattle.grain_log.specs.Places.{spelling_of_versions}
use Rattle.field_codec.proofs.Lengths.{version_short}
use Rattle.grain_log.proofs.VersionPlaces.{places_more, size_is}
use Rattle.grain_log.proofs.writes.encode.Goals as goal

pub overflow_cast-len : goal.overflow_cast-len
overflow_cast-len c =
    let size : c.len.result - c.len-start.result ≡ length (spelling_of_version c.version-item.result) = size_is c.loop-version.bytes.items c.append.new.into.items _ _ _ (c.len-start.ensures ∙ c.loop-version.bytes.ok.0) (c.len.ensures ∙ c.append.new.into.ok.0) c.in_ok-append.ensures.ok in
    let short = version_short Two c.version-item.result c.in_ok-append.ensures.fits in
    Fits-of_lt (omega (arith, size, short))

pub loop-version-preserved : goal.loop-version-preserved
loop-version-preserved c =
    let i = c.loop-version.version-index in
    let v = c.version-item.result in
    let size : c.len.result - c.len-start.result ≡ length (spelling_of_version v) = size_is c.loop-version.bytes.items c.append.new.into.items _ _ _ (c.len-start.ensures ∙ c.loop-version.bytes.ok.0) (c.len.ensures ∙ c.append.new.into.ok.0) c.in_ok-append.ensures.ok in
    let offset : c.args.at + c.len-start.result ≡ c.args.at + length (spelling_of_versions _) = ap (λ (n : ℕ). c.args.at + n) (c.len-start.ensures ∙ c.loop-version.bytes.ok.0 ∙ ap length c.loop-version.invariant.spelled) in
    record {
      spelled = flat_more spelling_of_version c.args.versions.now i v [] _ _ c.loop-version-test.true c.version-item.is c.in_ok-append.ensures.ok c.loop-version.invariant.spelled;
      placed = places_more c.args.at c.args.versions.now i v _ _ _ _ c.loop-version-test.true c.version-item.is offset size c.in_ok-push.ensures.pushed c.loop-version.invariant.placed;
      fitting = all_more (VersionFits Two) c.args.versions.now i v c.loop-version-test.true c.version-item.is c.in_ok-append.ensures.fits c.loop-version.invariant.fitting;
    }
