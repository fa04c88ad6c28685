use Rattle.std.proofs.Common.{◌≡◌, ◌∙◌, ap}
use Rattle.log_reading.specs.Versions.{named_in, named_by_grain, latest_of}
use Rattle.log_reading.specs.declared.faults.FolderFault.{FolderFault}
use Rattle.log_reading.proofs.Errors.{other_value}
use Rattle.log_reading.proofs.latest.read_latest.Goals as goal

pub returns-in-Err-clause-damaged : goal.returns-in-Err-clause-damaged
returns-in-Err-clause-damaged g c file place is told p same = c.in-Err.ensures.damaged file place (other_value _ (FolderFault.Damaged file place) is) told p same

pub returns-in-Ok-keep_latest-clause-latest : goal.returns-in-Ok-keep_latest-clause-latest
returns-in-Ok-keep_latest-clause-latest g c told p same =
    let l = c.in-Ok.ensures.log p same in
    let order : c.as_slice.result.now ≡ named_by_grain (named_in l.log) = c.as_slice.ensures.value ∙ c.in-Ok-sort_by_grain.ensures ∙ ap named_by_grain (c.into_vec-named.ensures ∙ l.named) in
    (l.log, l.read told, c.in-Ok-keep_latest.ensures ∙ ap latest_of order)
