use Rattle.std.proofs.Common.{◌≤◌, length, is_ok, arith}
use Rattle.host_trait.specs.declared.channels.FileId.TheVariants.{Manager}
use Rattle.silo_opening.proofs.OpeningCalls.{opens_once_asked, opens_settled, settles_short, settles_long}
use Rattle.silo_opening.proofs.opened_silo.settle.Goals as goal

pub returns-in_err-sync-clause-only : goal.returns-in_err-sync-clause-only
returns-in_err-sync-clause-only g c told =
    let old = g.H.Host.world c.args.host.now in
    let len = c.in_ok-length.ensures.len told in
    let long : 16 ≤ length (old.disk (Manager c.args.slot)).seen = omega (arith, len, c.if-branch-lt16.false) in
    opens_settled c.args.slot old (g.H.Host.world c.length.new.self) (g.H.Host.world c.sync.new.self) (is_ok c.sync.result) c.requires.slot (c.length.ensures.told told) long (c.sync.ensures.told told)
    (g.met.H.Host.seen_may_stay c.length.new.self (Manager c.args.slot) told)

pub returns-clause-only : goal.returns-clause-only
returns-clause-only g c told =
    let old = g.H.Host.world c.args.host.now in
    let len = c.in_ok-length.ensures.len told in
    let long : 16 ≤ length (old.disk (Manager c.args.slot)).seen = omega (arith, len, c.if-branch-lt16.false) in
    opens_settled c.args.slot old (g.H.Host.world c.length.new.self) (g.H.Host.world c.sync.new.self) (is_ok c.sync.result) c.requires.slot (c.length.ensures.told told) long (c.sync.ensures.told told)
    (g.met.H.Host.seen_may_stay c.length.new.self (Manager c.args.slot) told)

pub returns-in_err-length-clause-only : goal.returns-in_err-length-clause-only
returns-in_err-length-clause-only g c told = opens_once_asked _ _ _ (c.length.ensures.told told)

pub returns-then-branch-lt16-clause-only : goal.returns-then-branch-lt16-clause-only
returns-then-branch-lt16-clause-only g c told = opens_once_asked _ _ _ (c.length.ensures.told told)

-- ---- what was synced

pub returns-then-branch-lt16-clause-settles : goal.returns-then-branch-lt16-clause-settles
returns-then-branch-lt16-clause-settles g c told =
    let old = g.H.Host.world c.args.host.now in
    let len = c.in_ok-length.ensures.len told in
    settles_short c.args.slot old (g.H.Host.world c.length.new.self) (omega (arith, len, c.if-branch-lt16.true)) (c.length.ensures.told told)

pub returns-clause-settles : goal.returns-clause-settles
returns-clause-settles g c told =
    let old = g.H.Host.world c.args.host.now in
    let len = c.in_ok-length.ensures.len told in
    settles_long c.args.slot old (g.H.Host.world c.length.new.self) (g.H.Host.world c.sync.new.self) (omega (arith, len, c.if-branch-lt16.false)) (c.length.ensures.told told) (c.in_ok-sync.ensures.told told)
