use Rattle.std.proofs.Common.{rules, ◌≡◌, List, ◌∷◌, [], refl, sym, ◌∙◌, ap, subst}
use Rattle.std.proofs.lemmas.List.{map-id}
use Rattle.std.proofs.lemmas.Iterator.Adapters.{YieldsList-from_vec}
use Rattle.std.proofs.lemmas.Iterator.Consumers.{YieldsList-end}
use Rattle.std.proofs.lemmas.List.Sums.{fold-append}
use Rattle.base_types.specs.declared.calls.GrainId.{GrainId}
use Rattle.base_types.specs.declared.calls.Value.{Value}
use Rattle.program_file.specs.ProgramsInTurn.{HasItsFields}
use Rattle.script_meaning.specs.Play.{found_in}
use Rattle.promise_spec.specs.Records.{States, put_state}
use Rattle.promise_spec.proofs.Lists.{parts_of}
use Rattle.log_audit.specs.CarriedStores.{AreOfProgram}
use Rattle.log_audit.proofs.CarriedStores.{put_fits}
use Rattle.log_audit.proofs.Replays.{one_kept, held_more}
use Rattle.log_audit.proofs.replay.keep.Goals as goal

pub loop-grain-init : goal.loop-grain-init
loop-grain-init c = record { held = λ grain. refl; fits = λ types all was. was; states = λ types. refl }

pub loop-grain-preserved : goal.loop-grain-preserved
loop-grain-preserved c =
    let grain = c.in-Some.grain in
    let state = c.in-Some.state in
    record {
      held = held_more c.args.store.now c.loop-grain.store c.put.new.self c.loop-grain.yielded grain state c.in_ok-put.ensures.ok c.loop-grain.invariant.held;
      fits = λ types all was.
          let t = parts_of (λ (w : GrainId × List Value). HasItsFields types w.0 w.1) c.loop-grain.yielded ((grain, state) ∷ []) all in
          put_fits types c.loop-grain.store c.put.new.self grain state c.in_ok-put.ensures.ok t.1.0 (c.loop-grain.invariant.fits types t.0 was);
      states = λ types.
          one_kept types c.loop-grain.store c.put.new.self grain state c.in_ok-put.ensures.ok
          ∙ ap (λ (s : States). put_state s (grain, state)) (c.loop-grain.invariant.states types)
          ∙ sym (fold-append put_state (found_in types c.args.store.now) c.loop-grain.yielded ((grain, state) ∷ []));
    }

pub returns-clause-fits : goal.returns-clause-fits
returns-clause-fits c types all was =
    let seen = YieldsList-end (YieldsList-from_vec {s = c.into_iter-grain-iterator.result} c.args.writes.items (search rules) (search rules)) c.loop-grain.yielded c.loop-grain.grain-iterator c.loop-grain.yielded_by c.next.result c.next.new.self c.in-None.is c.next.ensures.steps in
    let same : c.loop-grain.yielded ≡ c.args.writes.items = sym (map-id c.loop-grain.yielded) ∙ seen.0 in
    c.loop-grain.invariant.fits types (subst (AreOfProgram types) (sym same) all) was
