use Rattle.std.proofs.Common.{Option, List, map, ◌∙◌, ap}
use Rattle.std.proofs.lemmas.Result.{err_from_is_err_and}
use Rattle.std.specs.Ordering.{eq_by_cmp}
use Rattle.std.specs.Set.{is_member}
use Rattle.base_types.specs.declared.calls.GrainId.{GrainId}
use Rattle.base_types.specs.declared.calls.Value.{Value}
use Rattle.base_types.specs.Stores.{grain_cmp}
use Rattle.script_tree.specs.Programs.{program_tree}
use Rattle.log_reading.specs.Steps.{seen_in}
use Rattle.log_reading.specs.PlacedVersions.{states_reread}
use Rattle.log_reading.proofs.PlacedVersions.{all_reread}
use Rattle.log_reading.proofs.placed.read_states.Goals as goal

pub returns-clause-stand : goal.returns-clause-stand
returns-clause-stand g c told grain =
    let image = seen_in (g.H.Host.world c.args.host.now).disk in
    let grains : List GrainId = c.as_slice-2.result.now in
    let listed = ap (λ (l : List GrainId). is_member (eq_by_cmp grain_cmp) l grain) c.as_slice-2.ensures.value ∙ c.in_ok-grains.ensures.listed grain in
    c.in_ok-read_each.ensures.stand told grain
    ∙ ap (λ (s : Option (List Value)). states_reread c.args.slot c.args.format (map program_tree c.args.programs.now) image c.args.places.now s grains grain) (c.new-store.ensures grain)
    ∙ all_reread c.args.slot c.args.format (map program_tree c.args.programs.now) image c.args.places.now grain grains listed

-- want of memory is a fault of no grain
pub returns-in_err-grains-clause-unread : goal.returns-in_err-grains-clause-unread
returns-in_err-grains-clause-unread g c =
    let p = err_from_is_err_and c.from_residual-in_err-grains.result c.from_residual-in_err-grains.ensures.1 in
    rw (p.1, p.2) λ told. (record { kind = 0; key = 0 }, tt)

pub returns-in_err-shapes-clause-unread : goal.returns-in_err-shapes-clause-unread
returns-in_err-shapes-clause-unread g c =
    let p = err_from_is_err_and c.from_residual.result c.from_residual.ensures.1 in
    rw (p.1, p.2) λ told. (record { kind = 0; key = 0 }, tt)
