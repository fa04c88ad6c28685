use Rattle.std.proofs.Common.{◌∙◌, refl, rules}
use Rattle.std.proofs.lemmas.Result.{err_from_is_err_and}
use Rattle.host_trait.specs.declared.channels.Channel.TheVariants.{Input}
use Rattle.host_trait.proofs.Counts.{none_then}
use Rattle.silo_opening.proofs.CallCounts.{failed_then}
use Rattle.silo_opening.proofs.InputPieces.{still_pull, still_asked, pulled_more}
use Rattle.silo_opening.proofs.input.read_input.Goals as goal

-- ---- a piece more

pub loop-input-preserved : goal.loop-input-preserved
loop-input-preserved g c =
    let inv = c.loop-input.invariant in
    record {
      got = λ told. pulled_more c.in_ok-count.count c.pull.new.into (g.H.Host.world c.loop-input.host) (g.H.Host.world c.pull.new.self) (g.H.Host.world c.args.host.now).input c.loop-input.input.items c.extend_from_slice.new.self.items (inv.got told) (c.in_ok-count.ensures.ok told) (search rules);
      within = search rules;
      calm = none_then _ _ _ inv.calm (c.in_ok-count.ensures.faults.calm refl);
      output = λ told. (c.in_ok-count.ensures.ok told).output ∙ inv.output told;
      disk = λ told. (c.in_ok-count.ensures.ok told).disk ∙ inv.disk told;
      syncs = λ told. (c.in_ok-count.ensures.ok told).syncs ∙ inv.syncs told;
      moments = λ told. still_pull (g.H.Host.world c.args.host.now) (g.H.Host.world c.loop-input.host) (g.H.Host.world c.pull.new.self) (inv.moments told) (inv.output told) (inv.disk told) (c.in_ok-count.ensures.ok told);
      ready = λ file was. c.pull.ensures.ready file (inv.ready file was);
    }

-- ---- the pull failed

pub returns-in_err-count-clause-moments : goal.returns-in_err-count-clause-moments
returns-in_err-count-clause-moments g c told = still_asked (g.H.Host.world c.args.host.now) (g.H.Host.world c.loop-input.host) (g.H.Host.world c.pull.new.self) (c.loop-input.invariant.moments told) (c.loop-input.invariant.output told) (c.loop-input.invariant.disk told) (c.in_err-count.ensures.err told)

pub returns-in_err-count-clause-calls : goal.returns-in_err-count-clause-calls
returns-in_err-count-clause-calls g c =
    let p = err_from_is_err_and c.from_residual.result c.from_residual.ensures.1 in
    let inv = c.loop-input.invariant in
    rw (p.1, p.2) record {
      ready = λ file was. c.pull.ensures.ready file (inv.ready file was);
      calm = tt;
      fault = failed_then _ _ _ inv.calm Input (c.in_err-count.ensures.faults.cause refl);
    }

-- ---- the input's end

pub returns-then-count-eq0-clause-moments : goal.returns-then-count-eq0-clause-moments
returns-then-count-eq0-clause-moments g c = λ told. still_pull (g.H.Host.world c.args.host.now) (g.H.Host.world c.loop-input.host) (g.H.Host.world c.pull.new.self) (c.loop-input.invariant.moments told) (c.loop-input.invariant.output told) (c.loop-input.invariant.disk told) (c.in_ok-count.ensures.ok told)

pub returns-then-count-eq0-clause-calls : goal.returns-then-count-eq0-clause-calls
returns-then-count-eq0-clause-calls g c =
    let inv = c.loop-input.invariant in
    record {
      ready = λ file was. c.pull.ensures.ready file (inv.ready file was);
      calm = none_then _ _ _ inv.calm (c.in_ok-count.ensures.faults.calm refl);
      fault = tt;
    }

-- ---- too long

pub returns-then-count-len-clause-moments : goal.returns-then-count-len-clause-moments
returns-then-count-len-clause-moments g c told = still_pull (g.H.Host.world c.args.host.now) (g.H.Host.world c.loop-input.host) (g.H.Host.world c.pull.new.self) (c.loop-input.invariant.moments told) (c.loop-input.invariant.output told) (c.loop-input.invariant.disk told) (c.in_ok-count.ensures.ok told)

pub returns-then-count-len-clause-calls : goal.returns-then-count-len-clause-calls
returns-then-count-len-clause-calls g c =
    let inv = c.loop-input.invariant in
    record {
      ready = λ file was. c.pull.ensures.ready file (inv.ready file was);
      calm = tt;
      fault = none_then _ _ _ inv.calm (c.in_ok-count.ensures.faults.calm refl);
    }

-- ---- no memory for it

pub returns-in_err-extend_from_slice-clause-moments : goal.returns-in_err-extend_from_slice-clause-moments
returns-in_err-extend_from_slice-clause-moments g c told = still_pull (g.H.Host.world c.args.host.now) (g.H.Host.world c.loop-input.host) (g.H.Host.world c.pull.new.self) (c.loop-input.invariant.moments told) (c.loop-input.invariant.output told) (c.loop-input.invariant.disk told) (c.in_ok-count.ensures.ok told)

pub returns-in_err-extend_from_slice-clause-calls : goal.returns-in_err-extend_from_slice-clause-calls
returns-in_err-extend_from_slice-clause-calls g c =
    let p = err_from_is_err_and c.from_residual-in_err-extend_from_slice.result c.from_residual-in_err-extend_from_slice.ensures.1 in
    let inv = c.loop-input.invariant in
    rw (p.1, p.2) record {
      ready = λ file was. c.pull.ensures.ready file (inv.ready file was);
      calm = tt;
      fault = none_then _ _ _ inv.calm (c.in_ok-count.ensures.faults.calm refl);
    }
