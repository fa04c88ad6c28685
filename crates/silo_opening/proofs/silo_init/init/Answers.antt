-- Each answer of `init`: what it promises, with the counts.
use Rattle.std.proofs.Common.{rules, ◌≡◌, ℕ, ◌≤◌, List, length, sym, ◌∙◌, ap, subst}
use Rattle.host_trait.specs.declared.channels.Channel.{Channel}
use Rattle.script_tree.specs.Programs.{program_tree}
use Rattle.program_file.specs.Programs.{program_in}
use Rattle.program_file.specs.Answers.{program_fault_place, IsFaultOf}
use Rattle.promise_spec.specs.Commands.{MakesSilo, IsProgramText}
use Rattle.silo_spec.specs.Silos.{IsNewSilo, IsMagic}
use Rattle.silo_spec.specs.Slots.{ShowsSilos}
use Rattle.silo_spec.specs.Creation.{CameThisFar}
use Rattle.silo_opening.specs.declared.silo_init.InitFault.{InitFault}
use Rattle.silo_opening.specs.Counts.{CreateFaulted, InitFaulted}
use Rattle.silo_opening.specs.Inits.{ended_with}
use Rattle.silo_opening.proofs.Inits.{failed, made_no_fault, same_counts, input_counts, program_counts, creation_counts, input_refused, program_refused, is_made, creation_refused}
use Rattle.silo_opening.proofs.silo_init.init.Goals as goal

pub returns-in-Err-clause-makes : goal.returns-in-Err-clause-makes
returns-in-Err-clause-makes g c told manner asked =
    let old = g.H.Host.world c.args.host.now in
    let new = g.H.Host.world c.read_input.new.host in
    let before = g.H.Host.faults c.args.host.now in
    let after = g.H.Host.faults c.read_input.new.host in
    subst (λ (e : InitFault). MakesSilo (ended_with {A = Unit {0}} manner asked old new before after (failed e))) (sym c.input_fault.ensures)
    (input_refused (Unit {0}) manner asked old new before after (c.read_input.ensures.disk told) (c.read_input.ensures.output told) (c.read_input.ensures.moments told)
    c.in-Err.fault c.in-Err.ensures.calls.fault (λ is. c.in-Err.ensures.too_long is told))

pub returns-in-Err-clause-calls : goal.returns-in-Err-clause-calls
returns-in-Err-clause-calls g c =
    let before = g.H.Host.faults c.args.host.now in
    let after = g.H.Host.faults c.read_input.new.host in
    record {
      ready = c.read_input.ensures.calls.ready;
      calm = tt;
      fault = subst (λ (e : InitFault). InitFaulted e before after) (sym c.input_fault.ensures) (input_counts before after c.in-Err.fault c.in-Err.ensures.calls.fault);
    }

pub returns-in-Err-accept-clause-makes : goal.returns-in-Err-accept-clause-makes
returns-in-Err-accept-clause-makes g c told manner asked =
    let old = g.H.Host.world c.args.host.now in
    let new = g.H.Host.world c.read_input.new.host in
    let before = g.H.Host.faults c.args.host.now in
    let after = g.H.Host.faults c.read_input.new.host in
    let fault = c.in-Err-accept.fault in
    let text : List ℕ = c.deref.result.now in
    let same : old.input ≡ text = c.in-Ok.ensures.whole told ∙ sym c.deref.ensures.value in
    let small : length text ≤ 262144 = search rules in
    subst (λ (e : InitFault). MakesSilo (ended_with {A = Unit {0}} manner asked old new before after (failed e))) (sym c.program_fault.ensures)
    (program_refused (Unit {0}) manner asked old new before after (c.read_input.ensures.disk told) (c.read_input.ensures.output told) (c.read_input.ensures.moments told)
    fault (c.in-Ok.ensures.end told) (subst (λ (t : List ℕ). length t ≤ 262144) (sym same) small) (subst (λ (t : List ℕ). IsFaultOf t fault (program_fault_place fault)) (sym same) c.in-Err-accept.ensures))

pub returns-in-Err-accept-clause-calls : goal.returns-in-Err-accept-clause-calls
returns-in-Err-accept-clause-calls g c =
    let before = g.H.Host.faults c.args.host.now in
    let after = g.H.Host.faults c.read_input.new.host in
    record {
      ready = c.read_input.ensures.calls.ready;
      calm = tt;
      fault = subst (λ (e : InitFault). InitFaulted e before after) (sym c.program_fault.ensures) (program_counts before after c.in-Err-accept.fault (program_fault_place c.in-Err-accept.fault) c.in-Ok.ensures.calls.calm);
    }

pub returns-in-Ok-create-clause-makes : goal.returns-in-Ok-create-clause-makes
returns-in-Ok-create-clause-makes g c told manner asked =
    let old = g.H.Host.world c.args.host.now in
    let mid = g.H.Host.world c.read_input.new.host in
    let new = g.H.Host.world c.create.new.host in
    let before = g.H.Host.faults c.args.host.now in
    let after = g.H.Host.faults c.create.new.host in
    let text : List ℕ = c.deref.result.now in
    let same : old.input ≡ text = c.in-Ok.ensures.whole told ∙ sym c.deref.ensures.value in
    let again : old.input ≡ c.deref-2.result.now = c.in-Ok.ensures.whole told ∙ sym c.deref-2.ensures.value in
    let small : length text ≤ 262144 = search rules in
    let reads : IsProgramText (ended_with {A = Unit {0}} manner asked old new before after (failed InitFault.Memory)) = record {
      input = (c.create.ensures.beside told).input ∙ c.in-Ok.ensures.end told;
      small = subst (λ (t : List ℕ). length t ≤ 262144) (sym same) small;
      types = program_tree c.in-Ok-accept.field-0;
      reads = ap program_in same ∙ c.in-Ok-accept.ensures;
    } in
    is_made (Unit {0}) manner asked old mid before after (c.read_input.ensures.disk told) (c.read_input.ensures.output told) (c.read_input.ensures.moments told)
    new (c.create.ensures.beside told) (subst (λ (t : List ℕ). ShowsSilos IsMagic mid.disk → CameThisFar IsMagic t mid new) (sym again) (λ shows. (c.create.ensures.moments told shows).moments)) (λ silo. (c.create.ensures.silo told silo).untouched) reads
    (λ file. g.met.H.Host.seen_may_stay c.args.host.now file told) (λ shows. (c.create.ensures.moments told shows).shows)
    tt (λ image is. subst (λ (t : List ℕ). IsNewSilo t image) (sym again) ((c.in-Ok-create.ensures.made told).made image is)) (c.in-Ok-create.ensures.made told).live
    (λ silo. made_no_fault tt _ _ _ (c.in-Ok-create.ensures.silo told silo).answer)

pub returns-in-Ok-create-clause-calls : goal.returns-in-Ok-create-clause-calls
returns-in-Ok-create-clause-calls g c = record {
  ready = λ file was. c.create.ensures.calls.ready file (c.read_input.ensures.calls.ready file was);
  calm = λ channel. c.in-Ok-create.ensures.calls.calm channel ∙ c.in-Ok.ensures.calls.calm channel;
  fault = tt;
}

pub returns-clause-makes : goal.returns-clause-makes
returns-clause-makes g c told manner asked =
    let old = g.H.Host.world c.args.host.now in
    let mid = g.H.Host.world c.read_input.new.host in
    let new = g.H.Host.world c.create.new.host in
    let before = g.H.Host.faults c.args.host.now in
    let between = g.H.Host.faults c.read_input.new.host in
    let after = g.H.Host.faults c.create.new.host in
    let fault = c.in-Err-create.fault in
    let text : List ℕ = c.deref.result.now in
    let same : old.input ≡ text = c.in-Ok.ensures.whole told ∙ sym c.deref.ensures.value in
    let again : old.input ≡ c.deref-2.result.now = c.in-Ok.ensures.whole told ∙ sym c.deref-2.ensures.value in
    let small : length text ≤ 262144 = search rules in
    let reads : IsProgramText (ended_with {A = Unit {0}} manner asked old new before after (failed InitFault.Memory)) = record {
      input = (c.create.ensures.beside told).input ∙ c.in-Ok.ensures.end told;
      small = subst (λ (t : List ℕ). length t ≤ 262144) (sym same) small;
      types = program_tree c.in-Ok-accept.field-0;
      reads = ap program_in same ∙ c.in-Ok-accept.ensures;
    } in
    subst (λ (e : InitFault). MakesSilo (ended_with {A = Unit {0}} manner asked old new before after (failed e))) (sym c.creation_fault.ensures)
    (creation_refused (Unit {0}) manner asked old mid before after (c.read_input.ensures.disk told) (c.read_input.ensures.output told) (c.read_input.ensures.moments told)
    new (c.create.ensures.beside told) (subst (λ (t : List ℕ). ShowsSilos IsMagic mid.disk → CameThisFar IsMagic t mid new) (sym again) (λ shows. (c.create.ensures.moments told shows).moments)) (λ silo. (c.create.ensures.silo told silo).untouched) reads
    (λ file. g.met.H.Host.seen_may_stay c.args.host.now file told) (λ shows. (c.create.ensures.moments told shows).shows)
    fault (subst (λ (f : Channel → ℕ). CreateFaulted fault f after) (same_counts before between c.in-Ok.ensures.calls.calm) c.in-Err-create.ensures.calls.fault)
    (λ is. (c.in-Err-create.ensures.already is told).reads) (λ is. (c.in-Err-create.ensures.already is told).lasts)
    (λ silo. (c.in-Err-create.ensures.silo told silo).answer))

pub returns-clause-calls : goal.returns-clause-calls
returns-clause-calls g c =
    let before = g.H.Host.faults c.args.host.now in
    let between = g.H.Host.faults c.read_input.new.host in
    let after = g.H.Host.faults c.create.new.host in
    let fault = c.in-Err-create.fault in
    record {
      ready = λ file was. c.create.ensures.calls.ready file (c.read_input.ensures.calls.ready file was);
      calm = tt;
      fault = subst (λ (e : InitFault). InitFaulted e before after) (sym c.creation_fault.ensures)
          (creation_counts before after fault (subst (λ (f : Channel → ℕ). CreateFaulted fault f after) (same_counts before between c.in-Ok.ensures.calls.calm) c.in-Err-create.ensures.calls.fault));
    }
