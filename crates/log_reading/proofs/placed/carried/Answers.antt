use Rattle.std.proofs.Common.{◌≡◌, ◌<◌, List, length, map, slice_get, Some, sym, ap, subst, ◌∙◌, refl, arith}
use Rattle.std.specs.Prelude.{IfOk}
use Rattle.std.proofs.lemmas.List.{length-map}
use Rattle.base_types.specs.declared.calls.Value.{Value}
use Rattle.script_tree.specs.Programs.{ProgramTree, program_tree}
use Rattle.script_check.specs.Comparison.{GoOnInTurn}
use Rattle.script_check.specs.Carrying.{carried_along}
use Rattle.program_file.proofs.ProgramNumbers.{program_at, behind, later_are, fields_low, fields_at, carried_is}
use Rattle.log_reading.proofs.placed.carried.Goals as goal

pub carry_along-requires-clause-follow : goal.carry_along-requires-clause-follow
carry_along-requires-clause-follow c =
    let programs : List ProgramTree = map program_tree c.args.programs.now in
    let n = c.args.number in
    let p = c.index-programs-first.result in
    let many : length programs ≡ length c.args.programs.now = length-map c.args.programs.now program_tree in
    let below : n < length programs = fields_low programs n c.args.grain c.args.state c.requires.typed in
    let at : slice_get programs n ≡ Some (program_tree p) = program_at c.args.programs.now n p (omega (arith, many, below)) c.index-programs-first.is in
    subst (GoOnInTurn (program_tree p)) (sym (later_are c.args.programs.now c.args.programs.now n refl)) (behind programs n (program_tree p) c.requires.programs.in_turn at)

pub carry_along-requires-clause-kind : goal.carry_along-requires-clause-kind
carry_along-requires-clause-kind c =
    let programs : List ProgramTree = map program_tree c.args.programs.now in
    let n = c.args.number in
    let p = c.index-programs-first.result in
    let many : length programs ≡ length c.args.programs.now = length-map c.args.programs.now program_tree in
    let below : n < length programs = fields_low programs n c.args.grain c.args.state c.requires.typed in
    let at : slice_get programs n ≡ Some (program_tree p) = program_at c.args.programs.now n p (omega (arith, many, below)) c.index-programs-first.is in
    (fields_at programs n (program_tree p) c.args.grain c.args.state at c.requires.typed).kind

pub carry_along-requires-clause-state : goal.carry_along-requires-clause-state
carry_along-requires-clause-state c =
    let programs : List ProgramTree = map program_tree c.args.programs.now in
    let n = c.args.number in
    let p = c.index-programs-first.result in
    let many : length programs ≡ length c.args.programs.now = length-map c.args.programs.now program_tree in
    let below : n < length programs = fields_low programs n c.args.grain c.args.state c.requires.typed in
    let at : slice_get programs n ≡ Some (program_tree p) = program_at c.args.programs.now n p (omega (arith, many, below)) c.index-programs-first.is in
    (fields_at programs n (program_tree p) c.args.grain c.args.state at c.requires.typed).fields

pub returns : goal.returns
returns c =
    let programs : List ProgramTree = map program_tree c.args.programs.now in
    let n = c.args.number in
    let p = c.index-programs-first.result in
    let many : length programs ≡ length c.args.programs.now = length-map c.args.programs.now program_tree in
    let below : n < length programs = fields_low programs n c.args.grain c.args.state c.requires.typed in
    let at : slice_get programs n ≡ Some (program_tree p) = program_at c.args.programs.now n p (omega (arith, many, below)) c.index-programs-first.is in
    subst (λ (l : List Value). IfOk c.carry_along.result (λ made. made ≡ l))
    (ap (λ (l : List ProgramTree). carried_along (program_tree p) l c.args.grain.kind c.args.state) (later_are c.args.programs.now c.args.programs.now n refl)
    ∙ sym (carried_is programs n (program_tree p) c.args.grain.kind c.args.state at))
    c.carry_along.ensures
