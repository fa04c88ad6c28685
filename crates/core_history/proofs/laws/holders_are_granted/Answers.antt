use Rattle.core_history.proofs.AnyEvents.{tells-ends, runs-ends}
use Rattle.core_history.proofs.laws.holders_are_granted.Goals as goal

pub returns : goal.returns
returns c = record {
  holders = λ r u g. (tells-ends r).modes u g;
  order = λ r. (tells-ends r).order;
  running = λ r u. runs-ends r u;
  lines = λ r u n. (tells-ends r).lines u n;
}
