use Rattle.std.proofs.Common.{◌≡◌, ◌∙◌, ap, map, filter, length}
use Rattle.std.proofs.lemmas.List.{length-map}
use Rattle.base_types.specs.declared.calls.UnitNo.{UnitNo}
use Rattle.cell_model.specs.Sources.{is_among}
use Rattle.cell_model.specs.Decisions.{all_decided}
use Rattle.core_model.specs.Tests.{is_bad}
use Rattle.unit_table.specs.Table.{verdict_in}
use Rattle.open_batch.specs.Members.{named, prepared_by, sources_of}
use Rattle.open_batch.proofs.UnitNames.{named-unprepared}
use Rattle.open_batch.proofs.DecisionInputs.{decides}
use Rattle.open_batch.proofs.decisions.decide_members.Goals as goal

pub decide_batch-requires : goal.decide_batch-requires
decide_batch-requires c =
    let votes = c.args.votes.now in
    let members = c.args.members.now in
    let prepared : c.from_vec.result ≡ map (prepared_by votes) members = c.from_vec.ensures ∙ c.name_failed.ensures ∙ ap (named votes members) c.requires.prepared ∙ named-unprepared votes members in
    ap length prepared ∙ length-map members (prepared_by votes) ∙ c.requires.room

pub returns : goal.returns
returns c =
    let votes = c.args.votes.now in
    let members = c.args.members.now in
    let bad = λ (u : UnitNo). is_bad (verdict_in c.args.units.now u) in
    let prepared : c.from_vec.result ≡ map (prepared_by votes) members = c.from_vec.ensures ∙ c.name_failed.ensures ∙ ap (named votes members) c.requires.prepared ∙ named-unprepared votes members in
    let sources : c.from_vec-2.result ≡ filter bad (sources_of members) = c.from_vec-2.ensures ∙ c.keep_bad.ensures ∙ ap (filter bad) c.requires.sources in
    c.decide_batch-3.ensures ∙ (λ i. all_decided (is_among (sources i)) (prepared i)) ∙ decides bad votes members
