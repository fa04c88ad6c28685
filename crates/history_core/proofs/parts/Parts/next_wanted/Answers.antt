use Rattle.std.proofs.Common.{◌≡◌, ◌≤◌, ◌∙◌, ℕ, ◌+◌, ◌-◌, sym, ap, false, true, drop, get_or, arith, List, ◌∷◌, not, filter, map, length}
use Rattle.core_model.specs.CoreState.{UnitNo, GrainId, nobody}
use Rattle.core_model.specs.Tests.{first_grain, first_of_two}
use Rattle.cell_table.specs.Table.{here_in}
use Rattle.history_core.proofs.Loads.{none-wanted, wait-away, wait-here}
use Rattle.history_core.proofs.Loops.{drop-at-or}
use Rattle.history_core.proofs.parts.Parts.next_wanted.Goals as goal

pub returns-then-not-has_limit : goal.returns-then-not-has_limit
returns-then-not-has_limit c = sym (none-wanted c.args.self.now (sym c.has_limit.ensures ∙ c.if-not-has_limit.true))

pub loop-at-preserved-then-not-is_here : goal.loop-at-preserved-then-not-is_here
loop-at-preserved-then-not-is_here c =
    let p = c.args.self.now in
    let wants : List (UnitNo × GrainId) = c.wants-wants.result.now in
    let at : ℕ = c.loop-at.at in
    let none : UnitNo × GrainId = (nobody, record { kind = 0; key = 0 }) in
    let x : UnitNo × GrainId = get_or wants (at - 1) none in
    let back : at - 1 + 1 ≡ at = omega arith in
    let front : drop (at - 1) wants ≡ x ∷ drop at wants = drop-at-or wants (at - 1) none (omega (arith, c.loop-at.invariant.within)) ∙ ap (λ k. x ∷ drop k wants) back in
    let away : here_in p.cells x.1 ≡ false = sym c.is_here.ensures ∙ c.if-not-is_here.true in record {
      rest =
          c.first_of.ensures ∙ ap (first_of_two x.1) c.loop-at.invariant.rest ∙ sym (wait-away p x (drop at wants) away)
          ∙ ap (λ (ts : List (UnitNo × GrainId)). first_grain (filter (λ (g : GrainId). not (here_in p.cells g)) (map (λ (t : UnitNo × GrainId). t.1) ts))) (sym front);
      within = omega (arith, c.loop-at.invariant.within);
    }

pub loop-at-preserved : goal.loop-at-preserved
loop-at-preserved c =
    let p = c.args.self.now in
    let wants : List (UnitNo × GrainId) = c.wants-wants.result.now in
    let at : ℕ = c.loop-at.at in
    let none : UnitNo × GrainId = (nobody, record { kind = 0; key = 0 }) in
    let x : UnitNo × GrainId = get_or wants (at - 1) none in
    let back : at - 1 + 1 ≡ at = omega arith in
    let front : drop (at - 1) wants ≡ x ∷ drop at wants = drop-at-or wants (at - 1) none (omega (arith, c.loop-at.invariant.within)) ∙ ap (λ k. x ∷ drop k wants) back in
    let here : here_in p.cells x.1 ≡ true = sym c.is_here.ensures ∙ c.if-not-is_here.false in record {
      rest =
          c.loop-at.invariant.rest ∙ sym (wait-here p x (drop at wants) here)
          ∙ ap (λ (ts : List (UnitNo × GrainId)). first_grain (filter (λ (g : GrainId). not (here_in p.cells g)) (map (λ (t : UnitNo × GrainId). t.1) ts))) (sym front);
      within = omega (arith, c.loop-at.invariant.within);
    }
