use Rattle.std.proofs.Common.{◌≡◌, ◌∙◌, ◌++◌, ◌∷◌, ◌+◌, ◌<◌, ◌≤◌, List, Bool, sym, ap, subst, refl, append-nil, [], drop, map, length, arith, length-drop, None, Option, suc, get_or}
use Rattle.core_model.specs.CoreState.{UnitNo, Decision, Entry, Units, put}
use Rattle.core_model.specs.declared.phases.Verdict.{Verdict}
use Rattle.cell_model.specs.declared.outcomes.Decision.TheVariants.{Commit}
use Rattle.core_model.specs.Tests.{is_over}
use Rattle.core_parts.specs.States.{last_in, has_place}
use Rattle.open_batch.specs.declared.members.FinishedUnit.{FinishedUnit}
use Rattle.open_batch.specs.Members.{effect_in}
use Rattle.unit_table.specs.Table.{verdict_in, phase_in}
use Rattle.history_core.specs.Fronts.{ends_as, verdicts_after, entries_after, pairs_after, last_after}
use Rattle.history_core.proofs.Fronts.{append-thrice, drop-more}
use Rattle.history_core.proofs.Loops.{drop-end, drop-at-or, first-waits, over-front, placed-front, room-front, placed-after-more, over-same}
use Rattle.history_core.proofs.batch_closing.close_all.Goals as goal

pub remove-done-requires : goal.remove-done-requires
remove-done-requires c = (let l = length-drop c.loop-decision.decision-index c.args.decisions.now in omega (arith, c.loop-decision.invariant.within, c.loop-decision-test.true, l))

pub close_one-requires-clause-over : goal.close_one-requires-clause-over
close_one-requires-clause-over c =
    let ds = drop-at-or c.args.decisions.now c.loop-decision.decision-index Commit c.loop-decision-test.true in
    let ws = first-waits c.args.decisions.now c.loop-decision.decision-index c.loop-decision.waiting.items c.remove-done.new.self.items c.remove-done.result c.loop-decision.invariant.within c.loop-decision-test.true c.remove-done.ensures.value c.remove-done.ensures.items in
    (over-front (λ u. is_over (phase_in c.loop-decision.units u)) ds ws c.loop-decision.invariant.closable.over).0

pub close_one-requires-clause-entries : goal.close_one-requires-clause-entries
close_one-requires-clause-entries c =
    let ds = drop-at-or c.args.decisions.now c.loop-decision.decision-index Commit c.loop-decision-test.true in
    let lengths : length (drop c.loop-decision.decision-index c.args.decisions.now) ≡ suc (length (drop (c.loop-decision.decision-index + 1) c.args.decisions.now)) = ap (λ (xs : List Decision). length xs) ds in
    omega (arith, c.loop-decision.invariant.closable.entries, lengths)

pub close_one-requires-clause-learn : goal.close_one-requires-clause-learn
close_one-requires-clause-learn c =
    let ds = drop-at-or c.args.decisions.now c.loop-decision.decision-index Commit c.loop-decision-test.true in
    let ws = first-waits c.args.decisions.now c.loop-decision.decision-index c.loop-decision.waiting.items c.remove-done.new.self.items c.remove-done.result c.loop-decision.invariant.within c.loop-decision-test.true c.remove-done.ensures.value c.remove-done.ensures.items in
    (let t = room-front c.loop-decision.learn.spare ds ws c.loop-decision.invariant.closable.learn in omega (arith, t))

pub close_one-requires-clause-placed : goal.close_one-requires-clause-placed
close_one-requires-clause-placed c =
    let ds = drop-at-or c.args.decisions.now c.loop-decision.decision-index Commit c.loop-decision-test.true in
    let ws = first-waits c.args.decisions.now c.loop-decision.decision-index c.loop-decision.waiting.items c.remove-done.new.self.items c.remove-done.result c.loop-decision.invariant.within c.loop-decision-test.true c.remove-done.ensures.value c.remove-done.ensures.items in
    (placed-front (has_place c.loop-decision.last) ds ws c.loop-decision.invariant.closable.placed).0

pub loop-decision-init : goal.loop-decision-init
loop-decision-init c = record {
  verdict = refl;
  entries = refl;
  emitted = refl;
  pairs = refl;
  last = λ g. refl;
  others = record { units = λ seen. refl; result = refl };
  waiting = refl;
  within = c.requires.within;
  closable = c.requires.closable;
}

pub loop-decision-preserved : goal.loop-decision-preserved
loop-decision-preserved c =
    let i = c.loop-decision.decision-index in
    let rest = drop (i + 1) c.args.decisions.now in
    let es = map effect_in c.remove-done.new.self.items in
    let f = ends_as c.args.how in
    let v : UnitNo → Verdict = verdict_in c.loop-decision.units in
    let u = c.remove-done.result.effect.unit in
    let now : UnitNo → Verdict = put v u (f (v u)) in
    let e = c.close_one.ensures in
    let ds = drop-at-or c.args.decisions.now c.loop-decision.decision-index Commit c.loop-decision-test.true in
    let ws = first-waits c.args.decisions.now c.loop-decision.decision-index c.loop-decision.waiting.items c.remove-done.new.self.items c.remove-done.result c.loop-decision.invariant.within c.loop-decision-test.true c.remove-done.ensures.value c.remove-done.ensures.items in
    let lengths : length (drop i c.args.decisions.now) ≡ suc (length rest) = ap (λ (xs : List Decision). length xs) ds in
    let waitings : length c.loop-decision.waiting.items ≡ suc (length c.remove-done.new.self.items) = ap (λ (xs : List FinishedUnit). length xs) ws in
    let phases : (x : UnitNo) → is_over (phase_in c.loop-decision.units x) ≡ is_over (phase_in c.close_one.new.units x) = λ x. sym (ap (λ (us : Units). is_over (us.phase x)) (e.others.units (λ y. None))) in record {
      verdict = ap (verdicts_after f rest es) e.verdict ∙ (λ k. verdicts_after f (sym ds k) (map effect_in (sym ws k)) v) ∙ c.loop-decision.invariant.verdict;
      entries =
          ap (λ (xs : List Entry). xs ++ entries_after c.args.how rest es) e.entries
          ∙ sym (append-thrice c.loop-decision.entries.entries _ (entries_after c.args.how rest es))
          ∙ (λ k. c.loop-decision.entries.entries ++ entries_after c.args.how (sym ds k) (map effect_in (sym ws k)))
          ∙ c.loop-decision.invariant.entries;
      emitted = e.emitted ∙ c.loop-decision.invariant.emitted;
      pairs =
          (λ k. e.pairs k ++ pairs_after f rest es (e.verdict k))
          ∙ sym (append-thrice c.loop-decision.learn.pairs _ (pairs_after f rest es now))
          ∙ (λ k. c.loop-decision.learn.pairs ++ pairs_after f (sym ds k) (map effect_in (sym ws k)) v)
          ∙ c.loop-decision.invariant.pairs;
      last = λ g.
          (λ k. last_after f g rest es (e.verdict k) (e.last g k))
          ∙ (λ k. last_after f g (sym ds k) (map effect_in (sym ws k)) v (last_in c.loop-decision.last g))
          ∙ c.loop-decision.invariant.last g;
      others = record {
        units = λ seen. e.others.units seen ∙ c.loop-decision.invariant.others.units seen;
        result = e.others.result ∙ c.loop-decision.invariant.others.result;
      };
      waiting = ap (λ (xs : List FinishedUnit). drop 1 xs) (sym ws ∙ c.loop-decision.invariant.waiting) ∙ drop-more i 1 c.args.waiting.now.items;
      within = omega (arith, c.loop-decision.invariant.within, lengths, waitings);
      closable = record {
        over = over-same (λ x. is_over (phase_in c.loop-decision.units x)) (λ x. is_over (phase_in c.close_one.new.units x)) rest es phases (over-front (λ u. is_over (phase_in c.loop-decision.units u)) ds ws c.loop-decision.invariant.closable.over).1;
        entries = omega (arith, c.loop-decision.invariant.closable.entries, lengths, e.spare);
        learn = (let t = room-front c.loop-decision.learn.spare ds ws c.loop-decision.invariant.closable.learn in omega (arith, t, e.room));
        placed = placed-after-more (has_place c.loop-decision.last) (has_place c.close_one.new.last) rest es e.places (placed-front (has_place c.loop-decision.last) ds ws c.loop-decision.invariant.closable.placed).1;
      };
    }

pub returns-clause-closes : goal.returns-clause-closes
returns-clause-closes c =
    let f = ends_as c.args.how in
    let es = map effect_in c.loop-decision.waiting.items in
    let v : UnitNo → Verdict = verdict_in c.loop-decision.units in
    let none : drop c.loop-decision.decision-index c.args.decisions.now ≡ [] = drop-end c.args.decisions.now c.loop-decision.decision-index c.loop-decision-test.false in record {
      others = c.loop-decision.invariant.others;
      verdict = (λ k. verdicts_after f (sym none k) es v) ∙ c.loop-decision.invariant.verdict;
      entries = sym (append-nil c.loop-decision.entries.entries) ∙ (λ k. c.loop-decision.entries.entries ++ entries_after c.args.how (sym none k) es) ∙ c.loop-decision.invariant.entries;
      emitted = c.loop-decision.invariant.emitted;
      pairs = sym (append-nil c.loop-decision.learn.pairs) ∙ (λ k. c.loop-decision.learn.pairs ++ pairs_after f (sym none k) es v) ∙ c.loop-decision.invariant.pairs;
      last = λ g. (λ k. last_after f g (sym none k) es v (last_in c.loop-decision.last g)) ∙ c.loop-decision.invariant.last g;
    }
