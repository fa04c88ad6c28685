use Rattle.std.proofs.Common.{rules, arith, ◌≡◌, ◌+◌, ◌^◌, ◌<◌, ◌≤◌, [], ℕ, List, map, length, Some, None, Ok, Err, refl, sym, ◌∙◌, ap, subst}
use Rattle.std.proofs.lemmas.Result.{err_from_is_err_and}
use Rattle.field_codec.specs.declared.units.Numbers.TheVariants.{Logged}
use Rattle.field_codec.specs.Units.{SessionFits}
use Rattle.base_types.specs.declared.shapes.Shape.{Shape}
use Rattle.host_trait.specs.World.{Disk}
use Rattle.host_trait.specs.declared.channels.Channel.{Channel}
use Rattle.host_trait.specs.declared.channels.FileId.TheVariants.{Manager}
use Rattle.host_trait.proofs.Runs.{asked_then}
use Rattle.host_trait.proofs.Counts.{none_then}
use Rattle.script_tree.specs.Programs.{ProgramTree, program_tree}
use Rattle.script_check.specs.Shapes.{type_shapes}
use Rattle.script_check.specs.Comparison.{last_program}
use Rattle.program_file.specs.Programs.{Program, shape_in}
use Rattle.log_reading.specs.Entries.{entry_said}
use Rattle.log_reading.specs.declared.faults.FolderFault.{FolderFault}
use Rattle.log_reading.specs.Blocks.{entries_said, records_read, program_after}
use Rattle.log_reading.specs.Counts.{ReadFaulted}
use Rattle.log_reading.specs.Steps.{next_in, log_base_of, IsSaidIn}
use Rattle.log_reading.specs.Sums.{AreUnitsLow, AddsEntry}
use Rattle.log_reading.proofs.Errors.{other_value}
use Rattle.log_reading.proofs.RecordSums.{low_next, high_next, units_low, said_low, session_low}
use Rattle.log_reading.proofs.BlockLoop.{has_begun, has_more, has_ended, has_broken, in_force_is}
use Rattle.log_reading.proofs.log.read_log.Goals as goal

abbrev of_first : ProgramTree → Program
of_first types = record { text = []; types = types }

pub loop-so_far-init : goal.loop-so_far-init
loop-so_far-init g c =
    let seen = ((g.H.Host.world c.args.host.now).disk (Manager c.args.slot)).seen in
    let base = c.in-Ok.base in
    let bound = c.in-Ok.ensures.bound in
    let count = bound.count in
    let s = c.in_ok-so_far.so_far in
    let is = c.in_ok-so_far.ensures in
    record {
      bound = bound.gate;
      session = bound.session;
      few = (let same = is.count in omega (arith, count, same));
      high = subst (λ (n : ℕ). 0 < n) (sym is.next) bound.some;
      low = subst (λ (n : ℕ). n ≤ 2 ^ 63) (sym is.next) bound.next;
      numbers = (let none = ap length is.later in omega (arith, none));
      read = λ p same.
          let shape : shape_in p ≡ c.in_ok-shape.shape = (λ i. record { types = (ap type_shapes same ∙ sym c.in_ok-shape.ensures) i }) in
          has_begun g.H.Host.tells c.args.format p seen (log_base_of base) base.gate_at s is.count is.next is.named is.later (ap (λ (x : Shape). x.types) is.shape ∙ c.in_ok-shape.ensures ∙ ap type_shapes (sym same)) is.text (λ told. c.in-Ok.ensures.begins told p shape);
      asked = c.read_base.ensures.asked;
      calm = c.in-Ok.ensures.calls.calm;
      ready = c.read_base.ensures.calls.ready;
    }

-- the shape that is known is that of the program in force
pub next_said-requires-clause-shape : goal.next_said-requires-clause-shape
next_said-requires-clause-shape g c =
    let p : Program = of_first (program_tree c.args.first.now) in
    let h = c.loop-so_far.invariant.read p refl in
    h.shape_is ∙ ap type_shapes (sym (in_force_is g.H.Host.tells c.args.format p _ c.loop-so_far.so_far c.loop-so_far.session c.loop-so_far.gate_at h))

pub returns-in-Err-clause-damaged : goal.returns-in-Err-clause-damaged
returns-in-Err-clause-damaged g c file place is told p same =
    let shape : shape_in p ≡ c.in_ok-shape.shape = (λ i. record { types = (ap type_shapes same ∙ sym c.in_ok-shape.ensures) i }) in
    c.in-Err.ensures.damaged file place (other_value _ (FolderFault.Damaged file place) is) told p shape

pub returns-in_err-own-clause-damaged : goal.returns-in_err-own-clause-damaged
returns-in_err-own-clause-damaged g c =
    let e = err_from_is_err_and c.from_residual-in_err-own.result c.from_residual-in_err-own.ensures.1 in
    let inv = c.loop-so_far.invariant in
    let format = c.args.format in
    let s = c.loop-so_far.so_far in
    let session = c.loop-so_far.session in
    let gate = c.loop-so_far.gate_at in
    let types = last_program (program_tree c.args.first.now) (map program_tree s.later) in
    let seen : Disk → List ℕ = λ d. (d (Manager c.args.slot)).seen in
    rw (e.1, e.2) λ file place is told p same.
    let here = c.in_err-own.ensures.damaged file place (other_value _ (FolderFault.Damaged file place) is) told in
    let there : next_in format types session gate (seen (g.H.Host.world c.args.host.now).disk) ≡ Err place = subst (λ (d : Disk). next_in format types session gate (seen d) ≡ Err place) (inv.asked told).disk here in
    has_broken g.H.Host.tells format p _ s session gate (inv.read p same) told place (subst (λ (t : ProgramTree). next_in format (last_program t (map program_tree s.later)) session gate (seen (g.H.Host.world c.args.host.now).disk) ≡ Err place) (sym same) there)

pub returns-in_err-own-clause-file : goal.returns-in_err-own-clause-file
returns-in_err-own-clause-file g c =
    let e = err_from_is_err_and c.from_residual-in_err-own.result c.from_residual-in_err-own.ensures.1 in
    rw (e.1, e.2) λ file place is. c.in_err-own.ensures.file file place (other_value _ (FolderFault.Damaged file place) is)

pub returns-in_err-own-clause-failed : goal.returns-in_err-own-clause-failed
returns-in_err-own-clause-failed g c =
    let e = err_from_is_err_and c.from_residual-in_err-own.result c.from_residual-in_err-own.ensures.1 in
    rw (e.1, e.2) λ file is. c.in_err-own.ensures.failed file (other_value _ (FolderFault.Failed file) is)

pub returns-in_err-own-clause-calls : goal.returns-in_err-own-clause-calls
returns-in_err-own-clause-calls g c =
    let e = err_from_is_err_and c.from_residual-in_err-own.result c.from_residual-in_err-own.ensures.1 in
    let inv = c.loop-so_far.invariant in
    rw (e.1, e.2) record {
      ready = λ file was. c.next_said.ensures.calls.ready file (inv.ready file was);
      calm = tt;
      fault = subst (λ (x : Channel → ℕ). ReadFaulted c.in_err-own.field-0.0 x (g.H.Host.faults c.next_said.new.host)) (λ i channel. inv.calm channel i) c.in_err-own.ensures.calls.fault;
    }

pub returns-in_err-own-clause-asked : goal.returns-in_err-own-clause-asked
returns-in_err-own-clause-asked g c told = asked_then _ _ _ (c.loop-so_far.invariant.asked told) (c.next_said.ensures.asked told)

pub add_said-requires-clause-low : goal.add_said-requires-clause-low
add_said-requires-clause-low g c =
    let p : Program = of_first (last_program (program_tree c.args.first.now) (map program_tree c.loop-so_far.so_far.later)) in
    let fit : IsSaidIn c.args.format (last_program (program_tree c.args.first.now) (map program_tree c.loop-so_far.so_far.later)) c.in-Some.said = search rules in
    units_low c.args.format p (entry_said c.in-Some.said) (fit p refl)

pub add_said-requires-clause-few : goal.add_said-requires-clause-few
add_said-requires-clause-few g c =
    let few = c.loop-so_far.invariant.few in
    let far : (c.loop-so_far.gate_at + 5 + length (entries_said (entry_said c.in-Some.said)) ≤ c.in-Some.behind) × (c.in-Some.behind < 2 ^ 63) = search rules in
    let one = far.0 in
    let two = far.1 in
    omega (arith, few, one, two)

pub returns-in_err-add_said-clause-asked : goal.returns-in_err-add_said-clause-asked
returns-in_err-add_said-clause-asked g c told = asked_then _ _ _ (c.loop-so_far.invariant.asked told) (c.next_said.ensures.asked told)

pub returns-in_err-add_said-clause-calls : goal.returns-in_err-add_said-clause-calls
returns-in_err-add_said-clause-calls g c =
    let e = err_from_is_err_and c.from_residual-in_err-add_said.result c.from_residual-in_err-add_said.ensures.1 in
    let inv = c.loop-so_far.invariant in
    rw (e.1, e.2) record {
      ready = λ file was. c.next_said.ensures.calls.ready file (inv.ready file was);
      calm = tt;
      fault = none_then _ _ _ inv.calm c.in_ok-own.ensures.calls.calm;
    }

pub loop-so_far-preserved : goal.loop-so_far-preserved
loop-so_far-preserved g c =
    let inv = c.loop-so_far.invariant in
    let format = c.args.format in
    let s = c.loop-so_far.so_far in
    let session = c.loop-so_far.session in
    let gate = c.loop-so_far.gate_at in
    let own = c.in-Some.own in
    let said = c.in-Some.said in
    let behind = c.in-Some.behind in
    let entry = entry_said said in
    let types = last_program (program_tree c.args.first.now) (map program_tree s.later) in
    let seen : Disk → List ℕ = λ d. (d (Manager c.args.slot)).seen in
    let taken : SessionFits format Logged session own = search rules in
    let fit : IsSaidIn format types said = search rules in
    let far : (gate + 5 + length (entries_said entry) ≤ behind) × (behind < 2 ^ 63) = search rules in
    let adds : AddsEntry s c.add_said.new.so_far entry = c.in_ok-add_said.ensures.added in
    let p0 : Program = of_first types in
    let low : AreUnitsLow entry = units_low format p0 entry (fit p0 refl) in
    record {
      bound = far.1;
      session = session_low format session own taken;
      few = (let was = inv.few in let up = far.0 in let now = adds.count in omega (arith, was, up, now));
      high = subst (λ (n : ℕ). 0 < n) (sym adds.next) (high_next s.next (records_read (entries_said entry)) inv.high);
      low = subst (λ (n : ℕ). n ≤ 2 ^ 63) (sym adds.next) (low_next s.next (records_read (entries_said entry)) inv.low (said_low entry low));
      numbers = c.in_ok-add_said.ensures.numbers;
      read = λ p same.
          let h = inv.read p same in
          let of_p : last_program p.types (map program_tree s.later) ≡ types = ap (λ (t : ProgramTree). last_program t (map program_tree s.later)) same in
          let force = in_force_is g.H.Host.tells format p _ s session gate h in
          has_more g.H.Host.tells format p (seen (g.H.Host.world c.args.host.now).disk) s session gate h c.add_said.new.so_far own entry behind adds (fit (program_after p h.log.entries) (sym force ∙ of_p)) (λ told.
          let here : next_in format types session gate (seen (g.H.Host.world c.loop-so_far.host).disk) ≡ Ok (Some (own, entry, behind)) = search rules in
          subst (λ (t : ProgramTree). next_in format t session gate (seen (g.H.Host.world c.args.host.now).disk) ≡ Ok (Some (own, entry, behind))) (sym of_p) (subst (λ (d : Disk). next_in format types session gate (seen d) ≡ Ok (Some (own, entry, behind))) (inv.asked told).disk here));
      asked = λ told. asked_then _ _ _ (inv.asked told) (c.next_said.ensures.asked told);
      calm = none_then _ _ _ inv.calm c.in_ok-own.ensures.calls.calm;
      ready = λ file was. c.next_said.ensures.calls.ready file (inv.ready file was);
    }

pub returns-clause-log : goal.returns-clause-log
returns-clause-log g c p same =
    let inv = c.loop-so_far.invariant in
    let format = c.args.format in
    let s = c.loop-so_far.so_far in
    let session = c.loop-so_far.session in
    let gate = c.loop-so_far.gate_at in
    let types = last_program (program_tree c.args.first.now) (map program_tree s.later) in
    let seen : Disk → List ℕ = λ d. (d (Manager c.args.slot)).seen in
    let of_p : last_program p.types (map program_tree s.later) ≡ types = ap (λ (t : ProgramTree). last_program t (map program_tree s.later)) same in
    has_ended g.H.Host.tells format p (seen (g.H.Host.world c.args.host.now).disk) s session gate (inv.read p same) _ refl refl refl refl refl refl refl (λ told.
    let here : next_in format types session gate (seen (g.H.Host.world c.loop-so_far.host).disk) ≡ Ok None = search rules in
    subst (λ (t : ProgramTree). next_in format t session gate (seen (g.H.Host.world c.args.host.now).disk) ≡ Ok None) (sym of_p) (subst (λ (d : Disk). next_in format types session gate (seen d) ≡ Ok None) (inv.asked told).disk here))

pub returns-clause-asked : goal.returns-clause-asked
returns-clause-asked g c told = asked_then _ _ _ (c.loop-so_far.invariant.asked told) (c.next_said.ensures.asked told)

pub returns-clause-calls : goal.returns-clause-calls
returns-clause-calls g c =
    let inv = c.loop-so_far.invariant in
    record {
      ready = λ file was. c.next_said.ensures.calls.ready file (inv.ready file was);
      calm = none_then _ _ _ inv.calm c.in_ok-own.ensures.calls.calm;
      fault = tt;
    }
