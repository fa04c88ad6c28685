use Rattle.std.proofs.Common.{◌≡◌, List, map, refl, sym, ◌∙◌, ap, subst}
use Rattle.std.proofs.lemmas.Result.{err_from_is_err_and}
use Rattle.base_types.specs.declared.shapes.Shape.{Shape}
use Rattle.base_types.specs.declared.stores.Store.{Store}
use Rattle.base_types.specs.Stores.{state_in}
use Rattle.field_codec.specs.declared.formats.Format.TheVariants.{Two}
use Rattle.commit_log.specs.declared.records.CommitRecord.{CommitRecord}
use Rattle.log_reading.specs.Entries.{entry_said}
use Rattle.log_reading.specs.declared.bodies.Said.{Said}
use Rattle.log_reading.specs.declared.faults.FolderFault.{FolderFault}
use Rattle.log_reading.specs.Blocks.{ReadRecord, entries_said}
use Rattle.log_reading.specs.Steps.{seen_in}
use Rattle.script_tree.specs.Programs.{ProgramTree, program_tree}
use Rattle.promise_spec.specs.Programs.{shape_in}
use Rattle.promise_spec.specs.Entries.{LogEntry}
use Rattle.promise_spec.specs.Openings.{entries_logged}
use Rattle.log_audit.specs.InForce.{types_in_force}
use Rattle.log_audit.specs.CarriedStores.{StoreFits, carried_in}
use Rattle.log_audit.specs.RereadFaults.{IsRecordFault, IsEntryFault}
use Rattle.log_audit.specs.Replays.{entries_of_records, AllReplayTo}
use Rattle.log_audit.proofs.CarriedStores.{carried_fits, replays_upgrade, follows_on_from}
use Rattle.log_audit.proofs.ReadEntries.{shape_same, logged_records}
use Rattle.log_audit.proofs.RereadRefusals.{fault_of_records}
use Rattle.log_audit.proofs.replay.replay_said.Goals as goal

pub returns-in_err-found-in-Records-clause-unread : goal.returns-in_err-found-in-Records-clause-unread
returns-in_err-found-in-Records-clause-unread g c =
    let r = err_from_is_err_and c.from_residual.result c.from_residual.ensures.1 in
    let now = c.args.now.now in
    let image = seen_in (g.H.Host.world c.args.host.now).disk in
    let records = c.in-Records.records in
    let e = c.in_err-found-in-Records.field-0.0 in
    rw (r.1, r.2) λ told p typed.
    let here : IsRecordFault c.args.slot (shape_in p) image records e =
    subst (λ (s : Shape). IsRecordFault c.args.slot s image records e) (sym (shape_same p now c.requires.shape typed))
    (subst (λ (l : List CommitRecord). IsRecordFault c.args.slot now.shape image l e) c.as_slice.ensures (c.in_err-found-in-Records.ensures.unread told)) in
    subst (λ (s : Said). IsEntryFault c.args.slot p image (entries_said (entry_said s)) e) (sym c.in-Records.is) (fault_of_records c.args.slot image p records e here)

pub carry_store-requires-clause-follows : goal.carry_store-requires-clause-follows
carry_store-requires-clause-follows g c = follows_on_from (types_in_force c.args.now.now) c.args.said _ c.in-Upgrade.checked c.in-Upgrade.is c.requires.may

pub returns-in_err-carried-in-Upgrade-clause-unread : goal.returns-in_err-carried-in-Upgrade-clause-unread
returns-in_err-carried-in-Upgrade-clause-unread g c =
    let r = err_from_is_err_and c.from_residual-in_err-carried-in-Upgrade.result c.from_residual-in_err-carried-in-Upgrade.ensures.1 in
    rw (r.1, r.2) λ told p typed. subst (λ (s : Said). IsEntryFault c.args.slot p (seen_in (g.H.Host.world c.args.host.now).disk) (entries_said (entry_said s)) FolderFault.Memory) (sym c.in-Upgrade.is) refl

pub returns-in_err-change_to-in-Upgrade-clause-unread : goal.returns-in_err-change_to-in-Upgrade-clause-unread
returns-in_err-change_to-in-Upgrade-clause-unread g c =
    let r = err_from_is_err_and c.from_residual-in_err-change_to-in-Upgrade.result c.from_residual-in_err-change_to-in-Upgrade.ensures.1 in
    rw (r.1, r.2) λ told p typed. subst (λ (s : Said). IsEntryFault c.args.slot p (seen_in (g.H.Host.world c.args.host.now).disk) (entries_said (entry_said s)) FolderFault.Memory) (sym c.in-Upgrade.is) refl

pub returns-in_ok-found-in-Records-clause-replays : goal.returns-in_ok-found-in-Records-clause-replays
returns-in_ok-found-in-Records-clause-replays g c told before program has =
    let now = c.args.now.now in
    let image = seen_in (g.H.Host.world c.args.host.now).disk in
    let records = c.in-Records.records in
    let found = c.in_ok-found-in-Records.found in
    let new = c.replay_records.new.store in
    let logged : entries_logged Two c.args.slot before.program image (map ReadRecord records) ≡ entries_of_records c.args.slot now.shape image records =
    logged_records c.args.slot image before.program records ∙ ap (λ (s : Shape). entries_of_records c.args.slot s image records) (shape_same before.program now c.requires.shape program) in
    let here = subst (λ (l : List CommitRecord). AllReplayTo before (entries_of_records c.args.slot now.shape image l) new found) c.as_slice.ensures (c.in_ok-found-in-Records.ensures.replays told before program has) in
    subst (λ (s : Said). AllReplayTo before (entries_logged Two c.args.slot before.program image (entries_said (entry_said s))) new found) (sym c.in-Records.is) (subst (λ (es : List LogEntry). AllReplayTo before es new found) (sym logged) here)

pub returns-in_ok-found-in-Records-clause-fits : goal.returns-in_ok-found-in-Records-clause-fits
returns-in_ok-found-in-Records-clause-fits g c = c.in_ok-found-in-Records.ensures.fits c.requires.fits

pub returns-in_ok-change_to-in-Upgrade-clause-replays : goal.returns-in_ok-change_to-in-Upgrade-clause-replays
returns-in_ok-change_to-in-Upgrade-clause-replays g c told before program has =
    let store = c.args.store.now in
    let made = c.replace.new.dest in
    let tree = program_tree c.in-Upgrade.checked in
    replays_upgrade c.args.slot (seen_in (g.H.Host.world c.args.host.now).disk) before store made c.args.said _ c.in-Upgrade.checked c.in-Upgrade.is has
    (λ grain. ap (λ (s : Store). state_in s grain) c.replace.ensures.after ∙ c.in_ok-carried-in-Upgrade.ensures grain ∙ ap (λ (t : ProgramTree). carried_in t tree store grain) (sym program))

pub returns-in_ok-change_to-in-Upgrade-clause-fits : goal.returns-in_ok-change_to-in-Upgrade-clause-fits
returns-in_ok-change_to-in-Upgrade-clause-fits g c =
    let types = types_in_force c.args.now.now in
    let tree = program_tree c.in-Upgrade.checked in
    let follows = follows_on_from types c.args.said _ c.in-Upgrade.checked c.in-Upgrade.is c.requires.may in
    subst (λ (t : ProgramTree). StoreFits t c.replace.new.dest) (sym c.in_ok-change_to-in-Upgrade.ensures.same)
    (carried_fits types tree c.args.store.now c.replace.new.dest follows c.requires.fits (λ grain. ap (λ (s : Store). state_in s grain) c.replace.ensures.after ∙ c.in_ok-carried-in-Upgrade.ensures grain))
