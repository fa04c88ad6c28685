use Rattle.std.proofs.Common.{inl, inr, rules, ◌≡◌, ℕ, Bool, true, false, not, map, None, Result, Ok, refl, sym, ◌∙◌, ap, subst}
use Rattle.std.proofs.lemmas.Result.{err_from_is_err_and}
use denote.Enum.Bare.{sameb, same_true}
use Rattle.host_trait.specs.declared.channels.FileId.TheVariants.{Program as ProgramFile, Manager}
use Rattle.host_trait.specs.World.{Disk, Image}
use Rattle.silo_spec.specs.OpenedDisks.{opened_disk}
use Rattle.host_trait.proofs.Counts.{none_then}
use Rattle.field_codec.specs.declared.formats.Format.{Format}
use Rattle.field_codec.specs.contracts.formats.Format.{the_type}
use Rattle.log_reading.specs.Steps.{seen_in}
use Rattle.log_reading.specs.Contents.{HasContents, IsUnread}
use Rattle.script_tree.specs.Programs.{ProgramTree, program_tree}
use Rattle.program_file.specs.Succession.{newest_program}
use Rattle.program_file.specs.declared.faults.ProgramFault.{ProgramFault}
use Rattle.promise_spec.specs.Programs.{Program, program_in}
use Rattle.promise_spec.specs.Openings.{program_in_file, has_format, reading_in}
use Rattle.promise_spec.specs.Refusals.{IsRefusedBy}
use Rattle.silo_opening.specs.declared.faults.OpenFault.{OpenFault}
use Rattle.silo_opening.specs.declared.headers.Header.{Header}
use Rattle.silo_opening.specs.Counts.{OpenFaulted}
use Rattle.silo_opening.specs.OpenedSilo.{in_program_file, in_folder, ending_of}
use Rattle.silo_opening.proofs.CallCounts.{faulted_then, program_faulted, folder_faulted}
use Rattle.silo_opening.proofs.OpeningCalls.{opens_and_asked, both_more, both_left}
use Rattle.silo_opening.proofs.OpeningSteps.{is_opened}
use Rattle.silo_opening.proofs.ProgramRefusals.{program_refused, never_program, never_folder}
use Rattle.silo_opening.proofs.WholeReadings.{live_silo, live_settled, live_found, live_named, other_read, none_live, no_silo, manager_read, log_refused}
use Rattle.silo_opening.proofs.opened_silo.open_silo_in.Goals as goal

not_false : (b : Bool) → not b ≡ false → b ≡ true
not_false true is = refl
not_false false is = absurd cc

-- what a test of two formats says
same_format : (a b : Format) (ne : Bool) → ne ≡ not (sameb the_type a b) → ne ≡ false → a ≡ b
same_format a b ne is same = same_true the_type (search rules) a b (not_false (sameb the_type a b) (sym is ∙ same))

-- ---- only looking

pub returns-in-Err-clause-only : goal.returns-in-Err-clause-only
returns-in-Err-clause-only g c told = opens_and_asked _ _ _ _ (c.find_live.ensures.only told) (c.read_program.ensures.asked told)

pub returns-in-Err-read_contents-clause-only : goal.returns-in-Err-read_contents-clause-only
returns-in-Err-read_contents-clause-only g c told = opens_and_asked _ _ _ _ (opens_and_asked _ _ _ _ (c.find_live.ensures.only told) (c.read_program.ensures.asked told)) (c.read_contents.ensures.asked told)

pub returns-in_default-accept-clause-only : goal.returns-in_default-accept-clause-only
returns-in_default-accept-clause-only g c told = opens_and_asked _ _ _ _ (opens_and_asked _ _ _ _ (c.find_live.ensures.only told) (c.read_program.ensures.asked told)) (c.read_contents.ensures.asked told)

pub returns-clause-only : goal.returns-clause-only
returns-clause-only g c told = opens_and_asked _ _ _ _ (opens_and_asked _ _ _ _ (c.find_live.ensures.only told) (c.read_program.ensures.asked told)) (c.read_contents.ensures.asked told)

-- ---- what was read

pub returns-in_default-clause-refused : goal.returns-in_default-clause-refused
returns-in_default-clause-refused g c told =
    let image = seen_in (g.H.Host.world c.args.host.now).disk in
    let is : c.in_ok-slot.field-0 ≡ None = search rules in
    no_silo c.args.format image (none_live image (sym (c.in_ok-slot.ensures.told told) ∙ is))

pub returns-in-Err-clause-refused : goal.returns-in-Err-clause-refused
returns-in-Err-clause-refused g c told =
    let image = seen_in (g.H.Host.world c.args.host.now).disk in
    let slot : ℕ = c.in-Some.slot in
    let live = live_found image slot c.in-Some.header (sym (c.in_ok-slot.ensures.told told) ∙ c.in-Some.is) in
    let named : has_format c.args.format (image (Manager slot)) ≡ true = live_named image c.args.format slot c.in-Some.header live.0 live.1 (same_format _ _ _ c.ne.ensures c.if-ne.false) in
    let first : seen_in (g.H.Host.world c.find_live.new.host).disk ≡ image = c.find_live.ensures.seen told in
    subst (λ (e : OpenFault). IsRefusedBy c.args.format image (reading_in c.args.format image) (ending_of e)) (sym c.program_fault.ensures)
    (program_refused c.args.format image slot live.0 named c.in-Err.fault (λ place e. ap (λ (im : Image). program_in_file (im (ProgramFile slot))) (sym first) ∙ c.in-Err.ensures.damaged place e told))

pub returns-in-Err-read_contents-clause-refused : goal.returns-in-Err-read_contents-clause-refused
returns-in-Err-read_contents-clause-refused g c told =
    let image = seen_in (g.H.Host.world c.args.host.now).disk in
    let slot : ℕ = c.in-Some.slot in
    let live = live_found image slot c.in-Some.header (sym (c.in_ok-slot.ensures.told told) ∙ c.in-Some.is) in
    let named : has_format c.args.format (image (Manager slot)) ≡ true = live_named image c.args.format slot c.in-Some.header live.0 live.1 (same_format _ _ _ c.ne.ensures c.if-ne.false) in
    let first : seen_in (g.H.Host.world c.find_live.new.host).disk ≡ image = c.find_live.ensures.seen told in
    let same : seen_in (g.H.Host.world c.read_program.new.host).disk ≡ image = ap seen_in (c.read_program.ensures.asked told).disk ∙ first in
    let p : Program = record { text = c.in-Ok.found.0; types = program_tree c.in-Ok.found.1 } in
    let program : program_in_file (image (ProgramFile slot)) ≡ Ok p = ap (λ (im : Image). program_in_file (im (ProgramFile slot))) (sym first) ∙ c.in-Ok.ensures.found told in
    subst (λ (e : OpenFault). IsRefusedBy c.args.format image (reading_in c.args.format image) (ending_of e)) (sym c.folder_fault.ensures)
    (log_refused c.args.format image slot live.0 named p program c.in-Err-read_contents.fault (subst (λ (im : Image). IsUnread slot c.args.format p im c.in-Err-read_contents.fault) same (c.in-Err-read_contents.ensures.refused told)))

-- one answer
same_tree : (a b : ProgramTree) (r : Result ProgramTree ProgramFault) → r ≡ Ok a → r ≡ Ok b → a ≡ b
same_tree a b r first second = let both : Ok a ≡ Ok b = sym first ∙ second in cc

pub returns-clause-opened : goal.returns-clause-opened
returns-clause-opened g c told =
    let o = c.in-Ok-read_contents.contents in
    let old : Disk = (g.H.Host.world c.args.host.now).disk in
    let image = seen_in old in
    let slot : ℕ = c.in-Some.slot in
    let live = live_found image slot c.in-Some.header (sym (c.in_ok-slot.ensures.told told) ∙ c.in-Some.is) in
    let named : has_format c.args.format (image (Manager slot)) ≡ true = live_named image c.args.format slot c.in-Some.header live.0 live.1 (same_format _ _ _ c.ne.ensures c.if-ne.false) in
    let first : seen_in (g.H.Host.world c.find_live.new.host).disk ≡ image = c.find_live.ensures.seen told in
    let same : seen_in (g.H.Host.world c.read_program.new.host).disk ≡ image = ap seen_in (c.read_program.ensures.asked told).disk ∙ first in
    let p : Program = record { text = c.in-Ok.found.0; types = program_tree c.in-Ok.found.1 } in
    let program : program_in_file (image (ProgramFile slot)) ≡ Ok p = ap (λ (im : Image). program_in_file (im (ProgramFile slot))) (sym first) ∙ c.in-Ok.ensures.found told in
    let text = c.as_slice.ensures in
    let newest : newest_program (map program_tree o.programs) ≡ program_tree c.in-Ok-accept.checked =
    same_tree (newest_program (map program_tree o.programs)) (program_tree c.in-Ok-accept.checked) (program_in o.text) c.in-Ok-read_contents.ensures.bounds.newest (ap program_in (sym text) ∙ c.in-Ok-accept.ensures) in
    let left : (g.H.Host.world c.read_contents.new.host).disk ≡ opened_disk old = (c.read_contents.ensures.asked told).disk ∙ (c.read_program.ensures.asked told).disk ∙ both_left _ _ (c.in_ok-slot.ensures.settles told) in
    record {
      opened = is_opened c.args.format image (record { slot = slot; generation = c.in-Some.header.generation; text = o.text; checked = c.in-Ok-accept.checked; programs = o.programs; count = o.count; places = o.places; ends = o.ends; next_unit = o.next_unit; session = o.session; gate_at = o.gate_at })
          p live.0 (ap (λ (h : Header). h.generation) live.1) (live_silo image slot live.0) named program newest
          (subst (λ (im : Image). HasContents slot c.args.format p im o) same (c.in-Ok-read_contents.ensures.opened told));
      settles = both_more _ _ _ (both_more _ _ _ (c.in_ok-slot.ensures.settles told) (c.read_program.ensures.asked told)) (c.read_contents.ensures.asked told);
      left = left;
      settled = ap (λ (d : Disk). d (Manager slot)) left ∙ live_settled old slot live.0;
      count = (c.read_contents.ensures.asked told).syncs ∙ (c.read_program.ensures.asked told).syncs ∙ c.in_ok-slot.ensures.count told;
    }

-- ---- the other format

pub returns-clause-bounds : goal.returns-clause-bounds
returns-clause-bounds g c =
    let b = c.in-Ok-read_contents.ensures.bounds in
    let o = c.in-Ok-read_contents.contents in
    record {
      slot = rw c.in-Some.is at c.in_ok-slot.ensures.slot;
      gate = b.gate;
      next = b.next;
      session = b.session;
      near = b.near;
      programs = b.programs;
      newest = same_tree (newest_program (map program_tree o.programs)) (program_tree c.in-Ok-accept.checked) (program_in o.text) b.newest (ap program_in (sym c.as_slice.ensures) ∙ c.in-Ok-accept.ensures);
      numbered = b.numbered;
      text = b.small;
    }

pub returns-then-ne-clause-other : goal.returns-then-ne-clause-other
returns-then-ne-clause-other g c none told =
    let image = seen_in (g.H.Host.world c.args.host.now).disk in
    let slot : ℕ = c.in-Some.slot in
    let live = live_found image slot c.in-Some.header (sym (c.in_ok-slot.ensures.told told) ∙ c.in-Some.is) in
    other_read image c.args.format slot c.in-Some.header live.0 live.1 (search rules)

-- ---- which calls have failed

pub returns-in_err-slot-clause-refused : goal.returns-in_err-slot-clause-refused
returns-in_err-slot-clause-refused g c =
    let p = err_from_is_err_and c.from_residual.result c.from_residual.ensures.1 in
    let r = c.in_err-slot.ensures.refused in
    rw (p.1, p.2) λ told.
    let image = seen_in (g.H.Host.world c.args.host.now).disk in
    subst (λ (e : OpenFault). IsRefusedBy c.args.format image (reading_in c.args.format image) (ending_of e)) (sym r.2) (manager_read c.args.format image r.0 r.1)

pub returns-in_err-slot-clause-calls : goal.returns-in_err-slot-clause-calls
returns-in_err-slot-clause-calls g c =
    let p = err_from_is_err_and c.from_residual.result c.from_residual.ensures.1 in
    rw (p.1, p.2) record { ready = c.find_live.ensures.calls.ready; calm = tt; fault = c.in_err-slot.ensures.calls.fault }

pub returns-in_default-clause-calls : goal.returns-in_default-clause-calls
returns-in_default-clause-calls g c = record { ready = c.find_live.ensures.calls.ready; calm = tt; fault = c.in_ok-slot.ensures.calls.calm }

pub returns-then-ne-clause-calls : goal.returns-then-ne-clause-calls
returns-then-ne-clause-calls g c = record { ready = c.find_live.ensures.calls.ready; calm = c.in_ok-slot.ensures.calls.calm; fault = tt }

pub returns-in-Err-clause-calls : goal.returns-in-Err-clause-calls
returns-in-Err-clause-calls g c =
    let a = g.H.Host.faults c.args.host.now in
    let b = g.H.Host.faults c.find_live.new.host in
    let d = g.H.Host.faults c.read_program.new.host in
    record {
      ready = λ file was. c.read_program.ensures.calls.ready file (c.find_live.ensures.calls.ready file was);
      calm = tt;
      fault = subst (λ (e : OpenFault). OpenFaulted e a d) (sym c.program_fault.ensures)
          (faulted_then a b d c.in_ok-slot.ensures.calls.calm (in_program_file c.in-Some.slot c.in-Err.fault) (program_faulted c.in-Some.slot c.in-Err.fault b d c.in-Err.ensures.calls.fault));
    }

pub returns-in-Err-read_contents-clause-calls : goal.returns-in-Err-read_contents-clause-calls
returns-in-Err-read_contents-clause-calls g c =
    let a = g.H.Host.faults c.args.host.now in
    let b = g.H.Host.faults c.read_program.new.host in
    let d = g.H.Host.faults c.read_contents.new.host in
    let fault = c.in-Err-read_contents.fault in
    record {
      ready = λ file was. c.read_contents.ensures.calls.ready file (c.read_program.ensures.calls.ready file (c.find_live.ensures.calls.ready file was));
      calm = tt;
      fault = subst (λ (e : OpenFault). OpenFaulted e a d) (sym c.folder_fault.ensures)
          (faulted_then a b d (none_then _ _ _ c.in_ok-slot.ensures.calls.calm c.in-Ok.ensures.calls.calm) (in_folder fault) (folder_faulted fault b d c.in-Err-read_contents.ensures.calls.fault));
    }

pub returns-in_default-accept-clause-calls : goal.returns-in_default-accept-clause-calls
returns-in_default-accept-clause-calls g c = record {
  ready = λ file was. c.read_contents.ensures.calls.ready file (c.read_program.ensures.calls.ready file (c.find_live.ensures.calls.ready file was));
  calm = tt;
  fault = none_then _ _ _ (none_then _ _ _ c.in_ok-slot.ensures.calls.calm c.in-Ok.ensures.calls.calm) c.in-Ok-read_contents.ensures.calls.calm;
}

pub returns-clause-calls : goal.returns-clause-calls
returns-clause-calls g c = record {
  ready = λ file was. c.read_contents.ensures.calls.ready file (c.read_program.ensures.calls.ready file (c.find_live.ensures.calls.ready file was));
  calm = none_then _ _ _ (none_then _ _ _ c.in_ok-slot.ensures.calls.calm c.in-Ok.ensures.calls.calm) c.in-Ok-read_contents.ensures.calls.calm;
  fault = tt;
}

-- ---- the generation is never the last one, nor the format the old one

pub returns-in-Err-clause-not_last : goal.returns-in-Err-clause-not_last
returns-in-Err-clause-not_last g c is = never_program c.in-Some.slot c.program_fault.result c.in-Err.fault c.program_fault.ensures (inl is)

pub returns-in-Err-clause-not_old : goal.returns-in-Err-clause-not_old
returns-in-Err-clause-not_old g c is = never_program c.in-Some.slot c.program_fault.result c.in-Err.fault c.program_fault.ensures (inr is)

pub returns-in-Err-read_contents-clause-not_last : goal.returns-in-Err-read_contents-clause-not_last
returns-in-Err-read_contents-clause-not_last g c is = never_folder c.folder_fault.result c.in-Err-read_contents.fault c.folder_fault.ensures (inl is)

pub returns-in-Err-read_contents-clause-not_old : goal.returns-in-Err-read_contents-clause-not_old
returns-in-Err-read_contents-clause-not_old g c is = never_folder c.folder_fault.result c.in-Err-read_contents.fault c.folder_fault.ensures (inr is)
