use Rattle.std.proofs.Common.{◌≡◌, drop, find, map}
use Rattle.base_types.specs.declared.stores.Version.{Version}
use Rattle.core_model.specs.Tests.{is_aborted}
use Rattle.unit_table.specs.Table.{verdict_in}
use Rattle.history_core.proofs.grant.first_aborted.Given as goal

abbrev pub invariant-loop-version : goal.invariant-loop-version
invariant-loop-version l =
    find (λ u. is_aborted (verdict_in l.units u)) (map (λ (v : Version). v.unit) (drop l.version-index l.versions))
    ≡ find (λ u. is_aborted (verdict_in l.units u)) (map (λ (v : Version). v.unit) l.versions)
