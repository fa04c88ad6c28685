use Rattle.std.proofs.Common.{◌≡◌, ◌+◌, ◌-◌, ◌<◌, List, length, map, take, drop, get_or, slice_get, Some, sym, ap, subst, ◌∙◌, arith}
use Rattle.std.specs.Prelude.{IfOk}
use Rattle.std.proofs.lemmas.List.{length-map}
use Rattle.base_types.specs.declared.calls.Value.{Value}
use Rattle.script_tree.specs.declared.programs.Program.{Program}
use Rattle.script_tree.specs.Programs.{ProgramTree, program_tree}
use Rattle.script_check.specs.Comparison.{GoOnInTurn}
use Rattle.script_check.specs.Carrying.{carried_along}
use Rattle.program_file.specs.Succession.{newest_program}
use Rattle.program_file.specs.ProgramsInTurn.{programs_in, HasItsFields}
use Rattle.program_file.proofs.ProgramNumbers.{program_at, behind, later_are, fields_low, fields_at, carried_is, carried_fits, if_ok}
use Rattle.program_file.proofs.programs_in_turn.ProgramsInTurn.carried.Goals as goal

pub carry_along-requires-clause-follow : goal.carry_along-requires-clause-follow
carry_along-requires-clause-follow c =
    let known = c.args.self.now in
    let n = c.args.number in
    let p = c.index-programs-first.result in
    let many : length (programs_in known) ≡ length known.checked = length-map known.checked program_tree in
    let below : n < length (programs_in known) = fields_low (programs_in known) n c.args.grain c.args.state c.requires.typed in
    let at : slice_get (programs_in known) n ≡ Some (program_tree p) =
    program_at known.checked n p (omega (arith, many, below)) (c.index-programs-first.is ∙ ap (λ (l : List Program). get_or l n p) c.as_slice-programs.ensures) in
    subst (GoOnInTurn (program_tree p)) (sym (later_are c.as_slice-programs.result.now known.checked n c.as_slice-programs.ensures)) (behind (programs_in known) n (program_tree p) c.requires.programs.in_turn at)

pub carry_along-requires-clause-kind : goal.carry_along-requires-clause-kind
carry_along-requires-clause-kind c =
    let known = c.args.self.now in
    let n = c.args.number in
    let p = c.index-programs-first.result in
    let many : length (programs_in known) ≡ length known.checked = length-map known.checked program_tree in
    let below : n < length (programs_in known) = fields_low (programs_in known) n c.args.grain c.args.state c.requires.typed in
    let at : slice_get (programs_in known) n ≡ Some (program_tree p) =
    program_at known.checked n p (omega (arith, many, below)) (c.index-programs-first.is ∙ ap (λ (l : List Program). get_or l n p) c.as_slice-programs.ensures) in
    (fields_at (programs_in known) n (program_tree p) c.args.grain c.args.state at c.requires.typed).kind

pub carry_along-requires-clause-state : goal.carry_along-requires-clause-state
carry_along-requires-clause-state c =
    let known = c.args.self.now in
    let n = c.args.number in
    let p = c.index-programs-first.result in
    let many : length (programs_in known) ≡ length known.checked = length-map known.checked program_tree in
    let below : n < length (programs_in known) = fields_low (programs_in known) n c.args.grain c.args.state c.requires.typed in
    let at : slice_get (programs_in known) n ≡ Some (program_tree p) =
    program_at known.checked n p (omega (arith, many, below)) (c.index-programs-first.is ∙ ap (λ (l : List Program). get_or l n p) c.as_slice-programs.ensures) in
    (fields_at (programs_in known) n (program_tree p) c.args.grain c.args.state at c.requires.typed).fields

pub returns-clause-carried : goal.returns-clause-carried
returns-clause-carried c =
    let known = c.args.self.now in
    let n = c.args.number in
    let p = c.index-programs-first.result in
    let many : length (programs_in known) ≡ length known.checked = length-map known.checked program_tree in
    let below : n < length (programs_in known) = fields_low (programs_in known) n c.args.grain c.args.state c.requires.typed in
    let at : slice_get (programs_in known) n ≡ Some (program_tree p) =
    program_at known.checked n p (omega (arith, many, below)) (c.index-programs-first.is ∙ ap (λ (l : List Program). get_or l n p) c.as_slice-programs.ensures) in
    subst (λ (l : List Value). IfOk c.carry_along.result (λ made. made ≡ l))
    (ap (λ (l : List ProgramTree). carried_along (program_tree p) l c.args.grain.kind c.args.state) (later_are c.as_slice-programs.result.now known.checked n c.as_slice-programs.ensures)
    ∙ sym (carried_is (programs_in known) n (program_tree p) c.args.grain.kind c.args.state at))
    c.carry_along.ensures

pub returns-clause-typed : goal.returns-clause-typed
returns-clause-typed c =
    let known = c.args.self.now in
    let n = c.args.number in
    let p = c.index-programs-first.result in
    let many : length (programs_in known) ≡ length known.checked = length-map known.checked program_tree in
    let below : n < length (programs_in known) = fields_low (programs_in known) n c.args.grain c.args.state c.requires.typed in
    let at : slice_get (programs_in known) n ≡ Some (program_tree p) =
    program_at known.checked n p (omega (arith, many, below)) (c.index-programs-first.is ∙ ap (λ (l : List Program). get_or l n p) c.as_slice-programs.ensures) in
    let later = later_are c.as_slice-programs.result.now known.checked n c.as_slice-programs.ensures in
    let fits : HasItsFields (newest_program (programs_in known)) c.args.grain (carried_along (program_tree p) (drop (n + 1) (programs_in known)) c.args.grain.kind c.args.state) =
    carried_fits (programs_in known) n (program_tree p) c.args.grain c.args.state c.requires.programs.in_turn at (fields_at (programs_in known) n (program_tree p) c.args.grain c.args.state at c.requires.typed) in
    if_ok (λ made. made ≡ carried_along (program_tree p) (map program_tree (take (length c.as_slice-programs.result.now - (n + 1)) (drop (n + 1) c.as_slice-programs.result.now))) c.args.grain.kind c.args.state)
    (λ made. HasItsFields (newest_program (programs_in known)) c.args.grain made) c.carry_along.result
    (λ made is. subst (λ (l : List Value). HasItsFields (newest_program (programs_in known)) c.args.grain l) (sym (is ∙ ap (λ (l : List ProgramTree). carried_along (program_tree p) l c.args.grain.kind c.args.state) later)) fits)
    c.carry_along.ensures
