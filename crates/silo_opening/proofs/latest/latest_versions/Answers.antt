use Rattle.std.proofs.Common.{rules, ◌≡◌, List, [], ◌∷◌, map, get_or, ap, ◌∙◌}
use Rattle.host_trait.specs.declared.channels.FileId.TheVariants.{Program as ProgramFile}
use Rattle.log_reading.specs.Steps.{seen_in}
use Rattle.script_tree.specs.Programs.{ProgramTree, program_tree}
use Rattle.script_check.specs.declared.checked_program.Checked.{Checked}
use Rattle.program_file.specs.Files.{program_in_file}
use Rattle.promise_spec.specs.Programs.{Program}
use Rattle.silo_opening.proofs.LatestStates.{one_program, are_latest, never_damaged}
use Rattle.silo_opening.proofs.latest.latest_versions.Goals as goal

-- the first of the programs
first_tree : (programs : List Checked) (first : Checked) (t : ProgramTree) (later : List ProgramTree) → first ≡ get_or programs 0 first → map program_tree programs ≡ t ∷ later → t ≡ program_tree first
first_tree [] first t later is same = absurd cc
first_tree (c ∷ programs) first t later is same = cc

pub returns-in-Ok-clause-latest : goal.returns-in-Ok-clause-latest
returns-in-Ok-clause-latest g c told o =
    let image = seen_in (g.H.Host.world c.args.host.now).disk in
    let list : c.as_slice.result.now ≡ c.args.opened.now.programs = search rules in
    let first : c.index-as_slice-0.result ≡ get_or c.as_slice.result.now 0 c.index-as_slice-0.result = c.index-as_slice-0.is in
    let types : o.first.types ≡ program_tree c.index-as_slice-0.result = first_tree c.as_slice.result.now c.index-as_slice-0.result o.first.types _ first (ap (map program_tree) list ∙ o.programs) in
    let l = c.in-Ok.ensures.latest told o.first types in
    are_latest image c.args.opened.now o l.0 l.1 c.in-Ok.named l.2

-- the program of an opened folder's file has the first of its types
pub returns-in-Err-clause-refused : goal.returns-in-Err-clause-refused
returns-in-Err-clause-refused g c told o =
    let image = seen_in (g.H.Host.world c.args.host.now).disk in
    let list : c.as_slice.result.now ≡ c.args.opened.now.programs = search rules in
    let first : c.index-as_slice-0.result ≡ get_or c.as_slice.result.now 0 c.index-as_slice-0.result = c.index-as_slice-0.is in
    let types : o.first.types ≡ program_tree c.index-as_slice-0.result = first_tree c.as_slice.result.now c.index-as_slice-0.result o.first.types _ first (ap (map program_tree) list ∙ o.programs) in
    never_damaged image c.args.opened.now o c.in-Err.fault
    (λ file place is p read. c.in-Err.ensures.damaged file place is told p (ap (λ (q : Program). q.types) (one_program (program_in_file (image (ProgramFile c.args.opened.now.slot))) p o.first read o.first_is) ∙ types))
    (λ file is. c.in-Err.ensures.failed file is) c.folder_fault.result c.folder_fault.ensures
