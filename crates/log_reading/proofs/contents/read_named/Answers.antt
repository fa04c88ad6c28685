use Rattle.std.specs.Prelude.{unwrap_or}
use Rattle.std.proofs.Common.{arith, ◌≡◌, ◌<◌, ◌^◌, ℕ, List, length, Option, Some, None, sym, ◌∙◌, ap, subst}
use Rattle.std.proofs.lemmas.Result.{err_from_is_err_and}
use Rattle.commit_log.specs.declared.records.Named.{Named}
use Rattle.program_file.specs.Succession.{shapes_in_turn}
use Rattle.program_file.specs.ProgramsInTurn.{programs_in}
use Rattle.log_reading.specs.Steps.{seen_in}
use Rattle.log_reading.specs.Versions.{named_by_grain, first_missing}
use Rattle.log_reading.specs.Sums.{placed_after, end_after, AreOfPrograms, AreUnread}
use Rattle.log_reading.proofs.contents.read_named.Goals as goal

pub returns-in_err-read_versions-clause-unread : goal.returns-in_err-read_versions-clause-unread
returns-in_err-read_versions-clause-unread g c =
    let e = err_from_is_err_and c.from_residual-in_err-read_versions.result c.from_residual-in_err-read_versions.ensures.1 in
    let shapes = shapes_in_turn (programs_in c.args.programs.now) in
    let order : c.as_slice.result.now ≡ named_by_grain c.args.named = c.as_slice.ensures.value ∙ c.in_ok-sort_by_grain.ensures ∙ ap named_by_grain c.into_vec-named.ensures in
    rw (e.1, e.2) λ told. subst (λ (ns : List Named). AreUnread c.args.slot c.args.format shapes (seen_in (g.H.Host.world c.args.host.now).disk) ns c.in_err-read_versions.field-0.0) order (c.in_err-read_versions.ensures.unread told)

pub returns-clause-whole : goal.returns-clause-whole
returns-clause-whole g c told =
    let order : c.as_slice.result.now ≡ named_by_grain c.args.named = c.as_slice.ensures.value ∙ c.in_ok-sort_by_grain.ensures ∙ ap named_by_grain c.into_vec-named.ensures in
    sym (ap (λ (ns : List Named). first_missing c.args.slot c.args.format (shapes_in_turn (programs_in c.args.programs.now)) (seen_in (g.H.Host.world c.args.host.now).disk) ns) order) ∙ (c.in_ok-read_versions.ensures.kept told).whole

pub returns-clause-places : goal.returns-clause-places
returns-clause-places g c told grain =
    let order : c.as_slice.result.now ≡ named_by_grain c.args.named = c.as_slice.ensures.value ∙ c.in_ok-sort_by_grain.ensures ∙ ap named_by_grain c.into_vec-named.ensures in
    (c.in_ok-read_versions.ensures.kept told).places grain ∙ (λ i. placed_after c.args.slot c.args.format (programs_in c.args.programs.now) (seen_in (g.H.Host.world c.args.host.now).disk) (c.new-places.ensures grain i) (order i) grain)

pub returns-clause-ends : goal.returns-clause-ends
returns-clause-ends g c grain =
    let order : c.as_slice.result.now ≡ named_by_grain c.args.named = c.as_slice.ensures.value ∙ c.in_ok-sort_by_grain.ensures ∙ ap named_by_grain c.into_vec-named.ensures in
    c.in_ok-read_versions.ensures.ends grain ∙ (λ i. end_after (c.new-ends.ensures grain i) (order i) grain)

pub returns-clause-near : goal.returns-clause-near
returns-clause-near g c = c.in_ok-read_versions.ensures.near (λ grain. subst (λ (end : Option ℕ). unwrap_or end 0 < 2 ^ 63) (sym (c.new-ends.ensures grain)) (omega arith))

pub returns-clause-numbered : goal.returns-clause-numbered
returns-clause-numbered g c =
    let none : AreOfPrograms (length (programs_in c.args.programs.now)) c.new-places.result = λ grain placed here. absurd (let clash : None ≡ Some placed = sym (c.new-places.ensures grain) ∙ here in cc) in
    c.in_ok-read_versions.ensures.numbered none
