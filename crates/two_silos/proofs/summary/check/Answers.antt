use Rattle.std.proofs.Common.{◌≡◌, ◌∙◌, ap, sym}
use Rattle.two_silos.specs.World.{begin}
use Rattle.two_silos.specs.GeneratedEvents.{Course, round, finish, bank, times, checked}
use Rattle.two_silos.specs.Summaries.{Summary, summary_of}
use Rattle.two_silos.proofs.CheckLoops.{times_on, times_all}
use Rattle.two_silos.proofs.CheckedWorld.{check-whole}
use Rattle.two_silos.proofs.summary.check.Goals as goal

pub loop-preserved : goal.loop-preserved
loop-preserved c = times_on round c.args.starts c.loop.counter c.loop.course c.round.new.self _ c.loop-test.true c.in_ok-round.ensures c.loop.invariant

pub returns-clause-summary : goal.returns-clause-summary
returns-clause-summary c =
    let all : c.loop.course ≡ times c.args.starts round (record { number = c.args.seed; world = begin bank }) = times_all round c.args.starts c.loop.counter c.loop.course _ c.loop-test.false c.loop.invariant in
    let done : c.finish.new.world ≡ finish c.loop.course.world = c.in_ok-finish.ensures in
    let summed : c.summary_of.result ≡ summary_of c.args.starts c.finish.new.world = c.summary_of.ensures in
    summed ∙ ap (summary_of c.args.starts) (done ∙ ap (λ (x : Course). finish x.world) all)

pub returns-clause-money : goal.returns-clause-money
returns-clause-money c =
    let all : c.loop.course ≡ times c.args.starts round (record { number = c.args.seed; world = begin bank }) = times_all round c.args.starts c.loop.counter c.loop.course _ c.loop-test.false c.loop.invariant in
    let done : c.finish.new.world ≡ finish c.loop.course.world = c.in_ok-finish.ensures in
    let summed : c.summary_of.result ≡ summary_of c.args.starts c.finish.new.world = c.summary_of.ensures in
    let is : c.summary_of.result ≡ summary_of c.args.starts (checked c.args.starts c.args.seed) = summed ∙ ap (summary_of c.args.starts) (done ∙ ap (λ (x : Course). finish x.world) all) in
    λ none. ap (λ (s : Summary). s.total) is ∙ check-whole c.args.starts c.args.seed (sym (ap (λ (s : Summary). s.undecided) is) ∙ none)
