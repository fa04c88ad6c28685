-- Where a run with workers begins.
use Rattle.std.proofs.Common.{◌≡◌, ℕ, zero, suc, Option, None, length, List, [], ◌∷◌, Bool, sym, ap, ◌∙◌, subst, arith}
use Rattle.base_types.specs.declared.shapes.Shape.{Shape}
use Rattle.base_types.specs.declared.shapes.TypeShape.{TypeShape}
use Rattle.host_trait.specs.declared.channels.Channel.{Channel}
use Rattle.host_trait.specs.World.{World}
use Rattle.request_wire.specs.declared.requests.Line.{Line}
use Rattle.core_model.specs.LegalRuns.{Run, ends}
use Rattle.script_check.specs.AcceptedPrograms.{IsAcceptedProgram}
use Rattle.script_check.specs.Shapes.{type_shapes}
use Rattle.script_tree.specs.Programs.{ProgramTree}
use Rattle.promise_spec.specs.Lines.{ReadsLineAs}
use Rattle.settle_loop.specs.declared.settler.Settler.{Settler}
use Rattle.run_books.specs.Beginnings.{Outset, IsOutset, CanTurn, GoUpFrom, basis_of}
use Rattle.run_books.specs.Books.{Books}
use Rattle.run_books.specs.Records.{KeepsRecord}
use Rattle.run_books.proofs.EvenBooks.{even-at-rest}
use Rattle.shared_settling.specs.SharedSettler.{CanSettleAmong}
use Rattle.unit_crew.specs.Crews.{IsBasisOf}
use Rattle.worker_rules.specs.JoinedPasses.{sight_by}
use Rattle.silo_workers.specs.RunEnd.{IsOfProgram}
use Rattle.std.specs.Prelude.{slice_get, Some, ◌+◌}
use Rattle.run_books.specs.Stages.{side_by, stage_by}

-- the lines' numbers, by their places
number-at : (lines : List Line) (before place : ℕ) (line : Line) → GoUpFrom before lines → slice_get lines place ≡ Some line → line.number ≡ before + place + 1
number-at [] before place line up q = absurd cc
number-at (x ∷ lines) before zero line up q = (let same = ap number q in let n = up.0 in omega (arith, n, same))
  where
    number : Option Line → ℕ
    number (Some l) = l.number
    number None = 0
number-at (x ∷ lines) before (suc place) line up q = (let ih = number-at lines (before + 1) place line up.1 q in omega (arith, ih))

module _ {o : Outset} {types : ProgramTree} {lines : List Line} {r : Run} {settler : Settler} (is : IsOutset o types r lines 1 []) (can : CanTurn r settler lines) where
  -- the basis reads the lines
  pub reads-lines : (before : ℕ) → before ≡ (ends r).units.lines → IsBasisOf types before lines (basis_of o)
  reads-lines before q = (
    is.types_are,
    λ place line there. (
      number-at lines before place line (subst (λ (n : ℕ). GoUpFrom n lines) (sym q) can.numbers) there,
      subst (λ (n : ℕ). ReadsLineAs o.program.types o.asked (n + place + 1) line.what) (sym q) (subst (λ (ts : ProgramTree). ReadsLineAs ts o.asked ((ends r).units.lines + place + 1) line.what) (sym is.types_are) (is.reads place line there)),
    ),
  )

  module _ {tells : Bool} {b : Books} {shape : Shape} {counts : Channel → ℕ} {now : World} (accepted : IsAcceptedProgram types) (shaped : shape.types ≡ type_shapes types) (rest : b.rest ≡ [])
      (k : KeepsRecord tells o b (stage_by r settler counts now)) where
    pub of-program : IsOfProgram o shape r
    of-program = record {
      above = k.above;
      kinds = is.kinds ∙ ap length (sym is.types_are);
      shape_is = ap (λ (ts : List TypeShape). record { types = ts }) (shaped ∙ ap type_shapes (sym is.types_are));
      accepted = subst IsAcceptedProgram (sym is.types_are) accepted;
    }

    pub can-among : CanSettleAmong tells o b shape (sight_by r [] [] []) (side_by settler counts now)
    can-among = record {
      share = record { above = k.above; kinds = of-program.kinds; shape_is = of-program.shape_is; accepted = of-program.accepted; counts = omega arith };
      going = can.going.1;
      even = even-at-rest tells o b r settler counts now can.quiet.written rest k.books;
      books = k.books;
    }
