-- The first circle, at which a reader may stop: one thread in log order, and no crash loses a written reply.
use Rattle.std.specs.Prelude.{◌⊎◌}
use Rattle.silo_spec.specs.Moments.{IsUntouched}
use Rattle.promise_spec.specs.Programs.{Program}
use Rattle.promise_spec.specs.Images.{IsSoundFolder}
use Rattle.promise_spec.specs.Courses.{Observed, Course, program_in_force}
use Rattle.promise_spec.specs.Orders.{IsOrdered}
use Rattle.promise_spec.specs.Replies.{AreReplies}
use Rattle.promise_spec.specs.Crashes.{SurvivesCrashes, StaySound, HoldsReplies}

-- The headline of a course: the order is the opening log and what the one-thread store gives from there; the replies that
-- were written are true of it; each image of each moment is whole, and of two one has a first part of the other's log; each
-- is sound where the folder was; and each has what was acknowledged by then.
pub record KeepsHeadline (p : Program) (r : Observed) (c : Course) : Type 0 where
  pub ordered : IsOrdered p r c
  pub replies : AreReplies p r c
  pub crashes : SurvivesCrashes r c
  pub sound : IsSoundFolder r.old → StaySound r c
  pub holds : HoldsReplies p r c

-- the call wrote nothing and left each image one of those at entry, or took a course that keeps the headline
abbrev pub HasHeadline : Observed → Type 0
HasHeadline r = IsUntouched r.old r.new ⊎ ((c : Course) × KeepsHeadline (program_in_force c) r c)
