use Rattle.std.proofs.Common.{ap}
use Rattle.silo_workers.specs.PassFrame.{PassAside}
use Rattle.silo_workers.proofs.settler_thread.settle_by_pass.Goals as goal

pub returns-clause-returns : goal.returns-clause-returns
returns-clause-returns g c =
    let said = c.settle_beside-settled.ensures in
    record {
      first = said.sees.first;
      seen = (said.sees.rest, said.sees.seen);
      number = said.sees.number;
      split_off = ap (λ (a : PassAside). a.split_off) said.kept.aside;
      joined = ap (λ (a : PassAside). a.joined) said.kept.aside;
      holds = record { sees = said.sees; own = said.own; leaves = said.leaves };
    }
