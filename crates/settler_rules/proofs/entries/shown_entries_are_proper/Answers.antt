use Rattle.core_model.specs.LegalRuns.{ends}
use Rattle.settler_rules.proofs.SettledEntries.{entry-proper, entry-shown}
use Rattle.settler_rules.proofs.entries.shown_entries_are_proper.Goals as goal

pub returns : goal.returns
returns c = record {
  settled = λ s r above keeps kinds x m range. entry-proper s r above keeps kinds x m range;
  shown = λ r x is. entry-shown (ends r) x is;
}
