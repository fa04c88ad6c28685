use Rattle.std.proofs.Common.{◌≡◌, ◌≢◌, inl, [], List, ℕ, length, is_ok, ap, arith}
use Rattle.host_trait.specs.declared.channels.FileId.TheVariants.{Manager}
use Rattle.host_trait.proofs.Runs.{none_asked, once_asked}
use Rattle.silo_opening.proofs.ManagerLook.{asked_looks, looks_asked, looks_synced}
use Rattle.silo_opening.proofs.creation.look.Goals as goal

pub returns-in_err-length-clause-looks : goal.returns-in_err-length-clause-looks
returns-in_err-length-clause-looks g c told =
    let w0 = g.H.Host.world c.args.host.now in
    asked_looks c.args.slot w0 _ (once_asked w0 w0 _ (none_asked w0) (c.length.ensures.told told))

pub returns-then-branch-eq0-clause-looks : goal.returns-then-branch-eq0-clause-looks
returns-then-branch-eq0-clause-looks g c told =
    let w0 = g.H.Host.world c.args.host.now in
    asked_looks c.args.slot w0 _ (once_asked w0 w0 _ (none_asked w0) (c.length.ensures.told told))

pub returns-in_err-sync-clause-looks : goal.returns-in_err-sync-clause-looks
returns-in_err-sync-clause-looks g c told =
    let w0 = g.H.Host.world c.args.host.now in
    looks_synced c.args.slot w0 _ _ (is_ok c.sync.result) (once_asked w0 w0 _ (none_asked w0) (c.length.ensures.told told)) (c.sync.ensures.told told)

pub returns-in_err-front-clause-looks : goal.returns-in_err-front-clause-looks
returns-in_err-front-clause-looks g c told =
    let w0 = g.H.Host.world c.args.host.now in
    looks_asked c.args.slot w0 _ _ (looks_synced c.args.slot w0 _ _ (is_ok c.sync.result) (once_asked w0 w0 _ (none_asked w0) (c.length.ensures.told told)) (c.sync.ensures.told told)) (c.read_front.ensures.asked told)

pub returns-clause-looks : goal.returns-clause-looks
returns-clause-looks g c told =
    let w0 = g.H.Host.world c.args.host.now in
    looks_asked c.args.slot w0 _ _ (looks_synced c.args.slot w0 _ _ (is_ok c.sync.result) (once_asked w0 w0 _ (none_asked w0) (c.length.ensures.told told)) (c.sync.ensures.told told)) (c.read_front.ensures.asked told)

pub returns-clause-syncs : goal.returns-clause-syncs
returns-clause-syncs g c told =
    let w0 = g.H.Host.world c.args.host.now in
    let seen : List ℕ = (w0.disk (Manager c.args.slot)).seen in
    let some : seen ≢ [] = λ none. (let len : c.in_ok-length.field-0 ≡ length seen = c.in_ok-length.ensures.len told in absurd (omega (arith, len, ap length none, c.if-branch-eq0.false))) in
    inl (
      some,
      record {
        before = g.H.Host.world c.length.new.self;
        after = g.H.Host.world c.sync.new.self;
        asked = once_asked w0 w0 _ (none_asked w0) (c.length.ensures.told told);
        sync = c.in_ok-sync.ensures.told told;
        more = c.read_front.ensures.asked told;
      },
    )
