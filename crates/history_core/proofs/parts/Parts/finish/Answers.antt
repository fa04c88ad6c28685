use Rattle.std.proofs.Common.{◌≡◌, ◌∙◌, sym, ap, refl, true}
use Rattle.core_model.specs.CoreState.{put}
use Rattle.core_model.specs.Tests.{is_running}
use Rattle.core_model.specs.declared.events.CoreEvent.TheVariants.{Finish}
use Rattle.core_model.specs.declared.events.CoreReply.TheVariants as reply
use Rattle.core_parts.specs.States.{handed_in}
use Rattle.unit_table.specs.Table.{phase_in, result_in}
use Rattle.cell_table.specs.Table.{opens_with}
use Rattle.open_batch.specs.declared.members.FinishedUnit.{FinishedUnit}
use Rattle.history_core.specs.declared.parts.Parts.{Parts}
use Rattle.history_core.specs.Steps.{KeepsMeaning}
use Rattle.history_core.proofs.SameMeaning.{keeps-does}
use Rattle.history_core.proofs.Finishes.{changes-finish, does-finish, finish-runs, keeps-prepared}
use Rattle.history_core.proofs.parts.Parts.finish.Goals as goal

pub returns-in-Err-clause-err : goal.returns-in-Err-clause-err
returns-in-Err-clause-err c =
    let e = c.prepare_finish.ensures in
    keeps-prepared c.args.self.now c.prepare_finish.new.self c.args.unit (finish-runs c.args.self.now c.args.unit c.args.effect c.requires.can)
    e.rest e.waiting e.others

pub returns-in-Err-clause-opens : goal.returns-in-Err-clause-opens
returns-in-Err-clause-opens c = ap (λ (p : Parts). opens_with p.cells) c.prepare_finish.ensures.rest

pub finish-deps-requires : goal.finish-deps-requires
finish-deps-requires c =
    ap (λ (p : Parts). is_running (phase_in p.units c.args.unit)) c.prepare_finish.ensures.rest ∙ finish-runs c.args.self.now c.args.unit c.args.effect c.requires.can

pub returns-in-Ok-clause-ok : goal.returns-in-Ok-clause-ok
returns-in-Ok-clause-ok c =
    let old = c.args.self.now in
    let e = c.prepare_finish.ensures in
    let mid : Parts = c.prepare_finish.new.self in
    let keeps : KeepsMeaning old mid = keeps-prepared old mid c.args.unit (finish-runs old c.args.unit c.args.effect c.requires.can) e.rest e.waiting e.others in
    let m : FinishedUnit = record { effect = c.args.effect; deps = c.finish-deps.result } in
    let new : Parts = record mid { units = c.finish-deps.new.self; waiting = c.push_reserved.new.self; cells = c.evict_wanted.new.self } in
    let changes = changes-finish mid c.args.unit c.args.effect c.finish-deps.new.self c.push_reserved.new.self m (handed_in old.handed)
    c.finish-deps.ensures.units c.finish-deps.ensures.verdict (c.finish-deps.ensures.result ∙ ap (put (result_in mid.units) c.args.unit) c.in-Ok.ensures.copied)
    refl c.finish-deps.ensures.deps c.push_reserved.ensures.items c.in-Ok.ensures.handed in
    keeps-does old mid keeps (Finish c.args.unit c.args.effect) reply.Done new
    (does-finish mid c.args.unit c.args.effect c.finish-deps.new.self c.push_reserved.new.self c.evict_wanted.new.self c.wants.result.now changes c.finish-deps.ensures.units c.wants.ensures
    c.evict_wanted.ensures.evicts c.evict_wanted.ensures.recent c.evict_wanted.ensures.opens)

pub returns-in-Ok-clause-opens : goal.returns-in-Ok-clause-opens
returns-in-Ok-clause-opens c = c.evict_wanted.ensures.opens ∙ ap (λ (p : Parts). opens_with p.cells) c.prepare_finish.ensures.rest
