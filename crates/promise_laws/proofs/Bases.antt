-- The next unit's number is above 0 where a log begins.
use Rattle.std.proofs.Common.{◌≡◌, ℕ, ◌<◌}
use Rattle.host_trait.specs.World.{Image}
use Rattle.field_codec.specs.declared.formats.Format.TheVariants.{Two}
use Rattle.promise_spec.specs.Entries.{Log}
use Rattle.promise_spec.specs.Logs.{IsLog}
use Rattle.promise_spec.specs.Openings.{Reads, opened_as}
use Rattle.promise_spec.proofs.Openings.{reads_above as reads}
use Rattle.promise_spec.proofs.Chains.{begins_above as begins}

pub begins_above : (live : ℕ) (image : Image) (log : Log) → IsLog live image log → 0 < log.base.next
begins_above = begins Two

pub reads_above : (live : ℕ) (image : Image) (log : Log) → opened_as image ≡ Reads live log → 0 < log.base.next
reads_above live image log e = reads Two image live log e
