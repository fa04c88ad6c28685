-- A grain's file that no event votes on is as it was at entry, at each moment that counts.
use Rattle.std.proofs.Common.{◌≡◌, ◌∙◌}
use Rattle.base_types.specs.declared.calls.GrainId.{GrainId}
use Rattle.host_trait.specs.declared.channels.FileId.TheVariants.{Grain}
use Rattle.host_trait.specs.World.{World, Moment}
use Rattle.host_trait.proofs.Moments.{weaker}
use Rattle.promise_spec.specs.Programs.{Program}
use Rattle.promise_spec.specs.Cores.{how_many}
use Rattle.promise_spec.specs.Causes.{is_vote_of}
use Rattle.promise_spec.specs.Courses.{Observed, Course, core_run}
use Rattle.promise_spec.specs.Explanation.{LeavesUnvoted}
use Rattle.promise_laws.specs.Closings.{IsBehind}
use Rattle.promise_laws.proofs.KeptRuns.{gather}
use Rattle.run_books.specs.Records.{KeepsFile}
use Rattle.run_books.proofs.BooksCalls.{not-manager}

-- where it is so behind the opening, the opening having synced manager files alone
pub unvoted_behind : (p : Program) (r : Observed) (c : Course) (mid : World) → IsBehind r c mid
    → ((g : GrainId) → how_many (is_vote_of g) (core_run p c) ≡ 0 → KeepsFile (Grain c.live g) mid r.new) → LeavesUnvoted c.live p r c
unvoted_behind p r c mid b kept g m none there =
    let k = kept g none in
    let first : mid.disk (Grain c.live g) ≡ r.old.disk (Grain c.live g) = b.others (Grain c.live g) (not-manager c.live g) in
    gather p r c mid b (λ (x : Moment). x.disk (Grain c.live g) ≡ r.old.disk (Grain c.live g)) first
    (weaker (λ (x : Moment). x.disk (Grain c.live g) ≡ mid.disk (Grain c.live g)) (λ (x : Moment). x.disk (Grain c.live g) ≡ r.old.disk (Grain c.live g)) (λ x is. is ∙ first) k.moments)
    (k.now_is ∙ first) m there
