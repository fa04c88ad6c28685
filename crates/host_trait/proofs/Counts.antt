-- Counts over several calls.
use Rattle.std.proofs.Common.{ℕ, ◌∙◌}
use Rattle.host_trait.specs.declared.channels.Channel.{Channel}
use Rattle.host_trait.specs.Faults.{NoneFailed}

-- calls that raised nothing, one after the other
pub none_then : (a b c : Channel → ℕ) → NoneFailed a b → NoneFailed b c → NoneFailed a c
none_then a b c first second channel = second channel ∙ first channel
