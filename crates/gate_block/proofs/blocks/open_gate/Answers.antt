use Rattle.std.specs.Prelude.{OnErr}
use Rattle.std.proofs.Common.{Result, Ok, Err, rules, ◌⊎◌, ◌+◌, ◌++◌, ◌∷◌, [], ℕ, List, IsTrue, length}
use Rattle.host_trait.specs.Runs.{OnlyAsked, HasFailedWrite}
use Rattle.gate_block.specs.Blocks.{block_of}
use Rattle.gate_block.specs.Log.{SomeLogs, IsStaged}
use Rattle.gate_block.proofs.Images.{open_run, each_open, each_more, doubted_run}
use Rattle.gate_block.proofs.blocks.open_gate.Goals as goal

-- what holds whatever the answer holds where it is a fault
if_err : {T E : Type 0} (r : Result T E) {P : Type 0} → P → OnErr r P
if_err (Err e) holds = holds
if_err (Ok x) holds = tt

pub returns-in_err-write_synced-clause-log : goal.returns-in_err-write_synced-clause-log
returns-in_err-write_synced-clause-log g c told bodies body front is = open_run bodies body front c.args.file c.args.gate_at (g.H.Host.world c.args.host.now) (g.H.Host.world c.write_synced.new.host) (c.write_synced.ensures.run told) is

pub returns-in_err-write_synced-clause-doubted : goal.returns-in_err-write_synced-clause-doubted
returns-in_err-write_synced-clause-doubted g c =
    let left : IsTrue g.H.Host.tells → HasFailedWrite c.args.file c.args.gate_at 1 (g.H.Host.world c.args.host.now) (g.H.Host.world c.write_synced.new.host) = search rules in
    let doubted : IsTrue g.H.Host.tells → (bodies : List (List ℕ)) (body front : List ℕ) → IsStaged bodies body c.args.gate_at front ((g.H.Host.world c.args.host.now).disk c.args.file)
    → OnlyAsked (g.H.Host.world c.args.host.now) (g.H.Host.world c.write_synced.new.host) ⊎ SomeLogs (bodies ++ body ∷ []) (c.args.gate_at + length (block_of body)) c.args.file (g.H.Host.world c.write_synced.new.host).disk =
    λ told bodies body front is. doubted_run bodies body front c.args.file c.args.gate_at _ _ (left told) (g.met.H.Host.seen_may_stay c.args.host.now c.args.file told) is in
    if_err c.from_residual.result doubted

pub returns-clause-log : goal.returns-clause-log
returns-clause-log g c told bodies body front is = open_run bodies body front c.args.file c.args.gate_at (g.H.Host.world c.args.host.now) (g.H.Host.world c.write_synced.new.host) (c.write_synced.ensures.run told) is

pub returns-clause-opened : goal.returns-clause-opened
returns-clause-opened g c told = record {
  there = c.in_ok-write_synced.ensures.ok told;
  each = each_open c.args.file c.args.gate_at _ (g.H.Host.world c.write_synced.new.host) (c.requires.within told) (c.in_ok-write_synced.ensures.ok told);
  once = c.in_ok-write_synced.ensures.count told;
}

pub returns-clause-logged : goal.returns-clause-logged
returns-clause-logged g c told bodies body front is = each_more bodies c.args.gate_at body c.args.file front (g.H.Host.world c.args.host.now) is.log is.small is.there (g.H.Host.world c.write_synced.new.host) (c.in_ok-write_synced.ensures.ok told)
