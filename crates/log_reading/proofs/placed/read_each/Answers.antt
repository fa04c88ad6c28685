use Rattle.std.proofs.Common.{rules, ◌+◌, map, drop, get_or, refl, ◌∙◌, ap, subst, ℕ}
use Rattle.std.proofs.lemmas.Result.{err_from_is_err_and}
use Rattle.base_types.specs.declared.calls.GrainId.{GrainId}
use Rattle.base_types.specs.Stores.{state_in}
use Rattle.base_types.specs.Places.{placed_in}
use Rattle.host_trait.specs.World.{Disk, Image}
use Rattle.host_trait.proofs.Runs.{asked_then}
use Rattle.host_trait.proofs.Counts.{none_then}
use Rattle.script_tree.specs.Programs.{program_tree}
use Rattle.log_reading.specs.Steps.{seen_in}
use Rattle.log_reading.specs.PlacedVersions.{state_reread, IsUnreadAt}
use Rattle.log_reading.proofs.RecordSums.{next_default, no_item}
use Rattle.log_reading.proofs.PlacedVersions.{reread_more, reread_all}
use Rattle.host_trait.specs.declared.channels.Channel.{Channel}
use Rattle.log_reading.specs.Counts.{ReadFaulted}
use Rattle.log_reading.proofs.placed.read_each.Goals as goal

abbrev no_grain : GrainId
no_grain = record { kind = 0; key = 0 }

pub loop-grain-init : goal.loop-grain-init
loop-grain-init g c = record {
  stand = λ told other. refl;
  asked = search rules;
  calm = λ channel. refl;
  ready = λ file was. was;
}

pub returns-in_err-read_state-clause-unread : goal.returns-in_err-read_state-clause-unread
returns-in_err-read_state-clause-unread g c =
    let p = err_from_is_err_and c.from_residual.result c.from_residual.ensures.1 in
    let x : GrainId = get_or c.args.grains.now c.loop-grain.grain-index no_grain in
    rw (p.1, p.2) λ told.
    (x, subst (λ (d : Disk). IsUnreadAt c.args.slot c.args.format c.args.shapes.now (seen_in d) x (placed_in c.args.places.now x) c.in_err-read_state.field-0.0) (c.loop-grain.invariant.asked told).disk (c.in_err-read_state.ensures.unread told))

pub returns-in_err-read_state-clause-calls : goal.returns-in_err-read_state-clause-calls
returns-in_err-read_state-clause-calls g c =
    let p = err_from_is_err_and c.from_residual.result c.from_residual.ensures.1 in
    let inv = c.loop-grain.invariant in
    rw (p.1, p.2) record {
      ready = λ file was. c.read_state.ensures.calls.ready file (inv.ready file was);
      calm = tt;
      fault = subst (λ (x : Channel → ℕ). ReadFaulted c.in_err-read_state.field-0.0 x (g.H.Host.faults c.read_state.new.host)) (λ i channel. inv.calm channel i) c.in_err-read_state.ensures.calls.fault;
    }

pub returns-in_err-read_state-clause-asked : goal.returns-in_err-read_state-clause-asked
returns-in_err-read_state-clause-asked g c told = asked_then _ _ _ (c.loop-grain.invariant.asked told) (c.read_state.ensures.asked told)

pub loop-grain-preserved : goal.loop-grain-preserved
loop-grain-preserved g c =
    let inv = c.loop-grain.invariant in
    let format = c.args.format in
    let programs = map program_tree c.args.programs.now in
    let places = c.args.places.now in
    let i = c.loop-grain.grain-index in
    let xs = c.args.grains.now in
    let x : GrainId = get_or xs i no_grain in
    let next = next_default i xs no_grain c.loop-grain-test.true in
    let image = seen_in (g.H.Host.world c.args.host.now).disk in
    record {
      stand = λ told other.
          reread_more c.args.slot format programs image places x (drop (i + 1) xs) (drop i xs) other (state_in c.loop-grain.store other) _ _ next
          (c.in_ok-read_state.ensures.stand told other ∙ ap (λ (im : Image). state_reread c.args.slot format programs im places (state_in c.loop-grain.store other) x other) (ap seen_in (inv.asked told).disk)) (inv.stand told other);
      asked = λ told. asked_then _ _ _ (inv.asked told) (c.read_state.ensures.asked told);
      calm = none_then _ _ _ inv.calm c.in_ok-read_state.ensures.calls.calm;
      ready = λ file was. c.read_state.ensures.calls.ready file (inv.ready file was);
    }

pub returns-clause-stand : goal.returns-clause-stand
returns-clause-stand g c told other =
    reread_all c.args.slot c.args.format (map program_tree c.args.programs.now) (seen_in (g.H.Host.world c.args.host.now).disk) c.args.places.now (drop c.loop-grain.grain-index c.args.grains.now) other _ _
    (no_item c.loop-grain.grain-index c.args.grains.now c.loop-grain-test.false) (c.loop-grain.invariant.stand told other)
