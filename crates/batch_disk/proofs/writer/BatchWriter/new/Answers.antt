use Rattle.std.proofs.Common.{◌≡◌, ◌<◌, false, [], List, length, map, sym, ap, subst}
use Rattle.std.specs.List.{AllByRecursion}
use Rattle.script_tree.specs.declared.programs.Program.{Program}
use Rattle.script_tree.specs.Programs.{program_tree}
use Rattle.program_file.specs.Succession.{ArePrograms}
use Rattle.batch_disk.specs.Writers.{voted_by, kept_of, CanCount, HasSeat}
use Rattle.batch_disk.specs.declared.writer.BatchWriter.{BatchWriter}
use Rattle.batch_disk.proofs.writer.BatchWriter.new.Goals as goal

pub returns-clause-bounds : goal.returns-clause-bounds
returns-clause-bounds c =
    let b : BatchWriter = record { slot = c.args.slot; session = c.args.session; gate_at = c.args.gate_at; ends = c.args.ends; places = c.args.places; programs = c.in_ok-programs.programs; batch = 0; kept = c.new-2.result; in_doubt = false } in
    let none : kept_of b ≡ [] = ap (map voted_by) c.new-2.ensures.items in
    let same = c.in_ok-programs.ensures.programs in
    record {
      slot = c.requires.slot;
      gate = c.requires.gate;
      session = c.requires.session;
      ends = c.requires.ends;
      kept = subst (AllByRecursion (CanCount b)) (sym none) tt;
      seats = subst (AllByRecursion (HasSeat b)) (sym none) tt;
      programs = subst (λ (ps : List Program). ArePrograms (map program_tree ps)) (sym same) c.requires.programs;
      shapes = c.in_ok-programs.ensures.shapes;
      numbered = λ g p is. subst (λ (ps : List Program). p.program < length ps) (sym same) (c.requires.numbered g p is);
    }
