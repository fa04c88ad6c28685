use Rattle.std.proofs.Common.{List, [], ◌∷◌, ◌++◌, ap, sym, ◌∙◌}
use Rattle.base_types.specs.declared.calls.Value.{Value}
use Rattle.script_values.specs.Faults.{grains}
use Rattle.script_holding.specs.Holding.{Holding, newly_held, with_held}
use Rattle.script_meaning.specs.Play.{GrainState, found_in}
use Rattle.script_player.specs.PlayState.{types_in, heard}
use Rattle.script_player.proofs.PlayProgress.{ends_at, heard_lock, room_for, no_room_for}
use Rattle.script_player.proofs.player.Player.lock_first.Goals as goal

pub returns-then-not-has_room-clause-led : goal.returns-then-not-has_room-clause-led
returns-then-not-has_room-clause-led c = λ go.
    let has = c.args.self.now.has in
    ends_at c.args.world.now has c.args.self.now.progress c.stop_at.result grains _ c.stop_at.ensures
    (no_room_for c.args.mode c.args.grain c.args.fields.now go has (c.if-not-has_room.ensures {u = tt}))

pub returns-clause-led : goal.returns-clause-led
returns-clause-led c = λ go.
    let world = c.args.world.now in
    let has = c.args.self.now.has in
    let progress = c.args.self.now.progress in
    let grain = c.args.grain in
    let mode = c.args.mode in
    let fields = c.args.fields.now in
    let state = found_in (types_in world) world.store.now grain in
    let found = c.in_ok-found.ensures {u = tt} in
    let read = c.in_ok-read.ensures {u = tt} ∙ found in
    let holds = λ (s : List Value). with_held has (has.held ++ (newly_held grain mode fields s ∷ [])) in
    let here = λ (reads : List GrainState) (h : Holding). heard world (record { asked = progress.asked; reads = reads; used = progress.used }) (go h) in
    ap (λ (reads : List GrainState). here reads c.lock.new.self)
    ((c.in_ok-push.ensures {u = tt}).pushed ∙ ap (λ (s : List Value). let all : List GrainState = progress.reads ++ ((grain, s) ∷ []) in all) read)
    ∙ ap (here (progress.reads ++ ((grain, state) ∷ []))) ((c.in_ok-lock.ensures {u = tt}).ok ∙ ap holds found)
    ∙ heard_lock world progress.asked progress.reads progress.used grain mode (λ s. go (holds s))
    ∙ ap (heard world progress) (sym (room_for mode grain fields go has (c.if-not-has_room.ensures {u = tt})))
