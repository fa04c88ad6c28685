-- What an audit says of a folder.
use Rattle.std.specs.Prelude.{◌≡◌, ℕ, Option, Some, None}
use Rattle.host_trait.specs.World.{Image}
use Rattle.promise_spec.specs.Entries.{Log, standing_of}
use Rattle.promise_spec.specs.Openings.{Reads, opened_as}
use Rattle.log_audit.specs.declared.audits.AuditReport.{AuditReport}
use Rattle.log_audit.specs.declared.replay.Bad.{Bad}
use Rattle.log_audit.specs.Replays.{IsFirstFailure}

-- the unit of a record that doesn't replay
abbrev pub bad_unit : Option Bad → Option ℕ
bad_unit None = None
bad_unit (Some bad) = Some bad.unit.0

-- The folder reads as this live slot and log; the log has so many entries, and that is the first record which doesn't replay from its
-- base, each under the program of its time.
pub record IsAuditOf (image : Image) (report : AuditReport) : Type 0 where
  pub live : ℕ
  pub log : Log
  pub reads : opened_as image ≡ Reads live log
  pub count : report.count ≡ (standing_of log).count
  pub first : IsFirstFailure log.base log.entries report.first_bad
