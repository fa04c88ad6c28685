use Rattle.settler_rules.proofs.LoggedUnits.{fits-program, fits-format, as-written}
use Rattle.settler_rules.proofs.logged_units.units_to_commit_can_be_logged.Goals as goal

pub returns : goal.returns
returns c = record {
  program = λ s r above keeps kinds p few e m. fits-program s r above keeps few kinds p e m;
  format = λ s r above keeps p e m. fits-format s r above keeps p e m;
  as_written = λ s r above keeps e m number g state vote x there q. as-written s r above keeps e m number g state vote x there q;
}
