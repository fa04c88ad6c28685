use Rattle.std.proofs.Common.{inl, inr}
use Rattle.promise_spec.proofs.laws.promises_keep_the_headline.Goals as goal

pub returns-clause-course : goal.returns-clause-course
returns-clause-course c p r course keeps = keeps.headline

pub returns-clause-call : goal.returns-clause-call
returns-clause-call c m r promised whole = elim (promised.over_whole whole) [
  | inl unopened ↦ inl unopened.untouched
  | inr kept ↦ inr (kept.0, kept.1.headline)
]
