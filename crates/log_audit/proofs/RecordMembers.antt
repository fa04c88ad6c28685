-- The members of a record's line, put one before the other.
use Rattle.std.proofs.Common.{◌≡◌, ℕ, codes, refl}
use Rattle.base_types.specs.declared.calls.Origin.{Origin}
use Rattle.base_types.specs.declared.calls.Origin.TheVariants.{Line, Child}
use Rattle.base_types.specs.declared.calls.Outcome.{Outcome}
use Rattle.serde_json.specs.Data.{Data, member, put}
use Rattle.promise_spec.specs.Reports.{origin_count, unit_counts, ended_as}
use Rattle.log_audit.specs.Lines.{origin_put}

-- an origin stands before a reply
pub origin_reply : (origin : Origin) (reply : Data) (session unit : ℕ) → origin_put origin (member (codes "reply") reply (unit_counts session unit)) ≡ origin_count origin (member (codes "reply") reply (unit_counts session unit))
origin_reply (Line n) reply session unit = refl
origin_reply (Child parent index depth) reply session unit = refl

-- and before a session
pub origin_units : (origin : Origin) (session unit : ℕ) → origin_put origin (unit_counts session unit) ≡ origin_count origin (unit_counts session unit)
origin_units (Line n) session unit = refl
origin_units (Child parent index depth) session unit = refl

-- a fault stands before an origin
pub fault_origin : (origin : Origin) (fault : Data) (session unit : ℕ) → put (codes "fault") fault (origin_count origin (unit_counts session unit)) ≡ member (codes "fault") fault (origin_count origin (unit_counts session unit))
fault_origin (Line n) fault session unit = refl
fault_origin (Child parent index depth) fault session unit = refl

-- the arguments and the call stand before all
pub call_ended : (origin : Origin) (args call : Data) (session unit : ℕ) (result : Outcome)
    → put (codes "args") args (put (codes "call") call (ended_as origin session unit result)) ≡ member (codes "args") args (member (codes "call") call (ended_as origin session unit result))
call_ended (Line n) args call session unit (Outcome.Value v) = refl
call_ended (Child parent index depth) args call session unit (Outcome.Value v) = refl
call_ended origin args call session unit (Outcome.Fault text) = refl
call_ended origin args call session unit Outcome.Aborted = refl
