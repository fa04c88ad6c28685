use Rattle.std.proofs.Common.{rules, ◌<◌, ◌^◌, subst, ◌≡◌, ℕ, List, [], ◌∷◌, ◌++◌, length, ap, ◌∙◌}
use Rattle.std.proofs.Math.Facts.{Fits-of_lt}
use Rattle.field_codec.specs.declared.formats.Format.TheVariants.{Two}
use Rattle.commit_log.specs.declared.records.CommitRecord.{CommitRecord}
use Rattle.commit_log.specs.declared.contents.Body.TheVariants.{Records}
use Rattle.commit_log.specs.Sessions.{spelling_with_session}
use Rattle.commit_log.proofs.Lengths.{size_fits, body_short}
use Rattle.commit_log.proofs.encoding.encode_block.Goals as goal

pub overflow_cast-size : goal.overflow_cast-size
overflow_cast-size c =
    let four : length c.put_u32.new.into.items ≡ 4 = ap length c.in_ok-put_u32.ensures ∙ ap (λ (l : List ℕ). length (l ++ (0 ∷ (0 ∷ (0 ∷ (0 ∷ [])))))) c.new-block.ensures.items in
    Fits-of_lt (size_fits c.put_u32.new.into.items c.put_u64.new.into.items c.append_body.new.into.items c.args.session c.as_slice.result.now c.len.result c.in_ok-append_body.ensures.fits four c.in_ok-put_u64.ensures c.in_ok-append_body.ensures.ok (c.len.ensures ∙ c.append_body.new.into.ok.0))

pub returns-clause-small : goal.returns-clause-small
returns-clause-small c =
    let same : c.as_slice.result.now ≡ c.args.records.now = search rules in
    subst (λ (rs : List CommitRecord). length (spelling_with_session Two c.args.session (Records rs)) < 2 ^ 32) same (body_short Two c.args.session c.as_slice.result.now c.in_ok-append_body.ensures.fits)
