-- What a history tells of a state, after any events.
use Rattle.std.proofs.Common.{Bool, ◌≡◌, List, [], ◌++◌, true, arith, ◌&&◌, ◌||◌, not, refl, sym, ap, ◌∙◌, subst, le_refl}
use Rattle.std.specs.Prelude.{⊤}
use Rattle.core_model.specs.declared.events.CoreEvent.{CoreEvent}
use Rattle.core_model.specs.CoreState.{UnitNo, GrainId, CoreState}
use Rattle.core_model.specs.Tests.{is_over, is_running}
use Rattle.core_model.specs.Changes.{new_unit}
use Rattle.core_model.specs.Events.{applies, step, reply_with}
use Rattle.core_model.specs.LegalRuns.{Run, begins, ends}
use Rattle.core_laws.proofs.EventCases.{Change}
use Rattle.core_history.specs.Histories.{Applied, history_of}
use Rattle.core_history.specs.Units.{finish_order, has_begun, has_ended, runs, is_begin_of, is_end_of, mode_after, held, shown, with_read, reads_in, effect_in, writes_in, writes_of}
use Rattle.core_history.specs.Batches.{batches_in, with_taken}
use Rattle.core_history.specs.States.{mode_of, batches_of}
use Rattle.core_history.proofs.Words.{more, order-more, begun-more, ended-more, held-more, reads-more, effect-more, batches-more}
use Rattle.core_history.proofs.RunHistory.{answered, with_here, after-step, along}
use Rattle.core_history.proofs.Phases.{is_born, Fresh, order-after, begun-after, ended-after, fresh-after, mode-after, runs-is}
use Rattle.core_history.proofs.UnitParts.{ReadsHeld, ResultIs, reads-after, held-after, writes-after, result-after}
use Rattle.core_history.proofs.BegunUnits.{LinesOf, lines-after}
use Rattle.core_history.proofs.TakenBatches.{Parted, parted-after, batches-after}
use Rattle.core_history.specs.Units.{finisher}

-- what a history tells of a state
pub record Tells (h : List Applied) (w : CoreState) : Type 0 where
  pub order : w.manager.order ≡ finish_order h
  pub born : (u : UnitNo) → is_born (w.units.phase u) ≡ has_begun u h
  pub over : (u : UnitNo) → is_over (w.units.phase u) ≡ has_ended u h
  pub fresh : Fresh w.units.next w.units.phase
  pub modes : (u : UnitNo) (g : GrainId) → mode_of u (w.cells.holds g) ≡ held u g h
  pub reads : (u : UnitNo) → w.units.reads u ≡ reads_in u h
  pub held_read : ReadsHeld w
  pub writes : (u : UnitNo) → w.manager.writes u ≡ writes_in u h
  pub results : (u : UnitNo) → ResultIs w u (effect_in u h)
  pub batches : batches_of w ≡ batches_in h
  pub parted : Parted w
  pub lines : LinesOf h w

-- each event keeps it
pub tells-after : (h : List Applied) (w : CoreState) (e : CoreEvent) (w' : CoreState) → Change w e w' → Tells h w → Tells (more h (answered w e)) w'
tells-after h w e w' c t = record {
  order = order-after w e w' c ∙ ap (λ z. z ++ finisher e) t.order ∙ sym (order-more h (answered w e));
  born = λ u. begun-after w e w' c u ∙ ap (λ z. z || is_begin_of u (reply_with w e)) (t.born u) ∙ sym (begun-more u h (answered w e));
  over = λ u. ended-after w e w' c (t.fresh (new_unit w) (le_refl w.units.next)) u ∙ ap (λ z. z || is_end_of u e) (t.over u) ∙ sym (ended-more u h (answered w e));
  fresh = fresh-after w e w' c t.fresh;
  modes = λ u g. mode-after w e w' c u g ∙ ap (λ z. mode_after u g z e) (t.modes u g) ∙ sym (held-more u g h (answered w e));
  reads = λ u. reads-after w e w' c t.held_read u ∙ ap (λ z. with_read z (shown u e (reply_with w e))) (t.reads u) ∙ sym (reads-more u h (answered w e));
  held_read = held-after w e w' c t.fresh t.held_read;
  writes = λ u. writes-after w e w' c u (effect_in u h) (t.writes u) ∙ ap writes_of (sym (effect-more u h (answered w e)));
  results = λ u. subst (ResultIs w' u) (sym (effect-more u h (answered w e))) (result-after w e w' c u (effect_in u h) (t.results u));
  batches = batches-after h w e w' c t.order t.modes t.reads t.parted ∙ ap (λ z. with_taken h z e) t.batches ∙ sym (batches-more h (answered w e));
  parted = parted-after w e w' c t.parted;
  lines = lines-after h w e w' c (t.fresh (new_unit w) (le_refl w.units.next)) t.lines;
}

-- which grains are in memory doesn't matter
tells-here : (h : List Applied) (w : CoreState) (here : GrainId → Bool) → Tells h w → Tells h (with_here w here)
tells-here h w here t = record {
  order = t.order;
  born = t.born;
  over = t.over;
  fresh = t.fresh;
  modes = t.modes;
  reads = t.reads;
  held_read = t.held_read;
  writes = t.writes;
  results = t.results;
  batches = t.batches;
  parted = t.parted;
  lines = t.lines;
}

-- each step keeps it
pub tells-step : (h : List Applied) (w : CoreState) (e : CoreEvent) → applies w e ≡ true → Tells h w → Tells (more h (answered w e)) (step w e)
tells-step h w e a t = after-step (Tells (more h (answered w e))) w e a (λ c. tells-after h w e _ c t) (λ v here k. tells-here (more h (answered w e)) v here k)

-- it holds where a run begins
pub tells-begins : (r : Run) → Tells [] (begins r)
tells-begins r = record {
  order = refl;
  born = λ u. refl;
  over = λ u. refl;
  fresh = λ u le. refl;
  modes = λ u g. refl;
  reads = λ u. refl;
  held_read = λ u g o. refl;
  writes = λ u. refl;
  results = λ u f. cc;
  batches = refl;
  parted = (refl, omega arith, refl, (λ b q. cc));
  lines = λ u n. ((λ b. absurd (b.0 refl)), (λ b. absurd b.1.1));
}

-- and where it ends
pub tells-ends : (r : Run) → Tells (history_of r) (ends r)
tells-ends r = along (λ w es. ⊤) (λ w e es s. tt) Tells (λ h w e es s a t. tells-step h w e a t) [] (begins r) r.events tt (tells-begins r)

-- who runs
pub runs-ends : (r : Run) (u : UnitNo) → is_running ((ends r).units.phase u) ≡ runs u (history_of r)
runs-ends r u =
    let t = tells-ends r in
    let born : is_born ((ends r).units.phase u) ≡ has_begun u (history_of r) = t.born u in
    let over : is_over ((ends r).units.phase u) ≡ has_ended u (history_of r) = t.over u in
    runs-is ((ends r).units.phase u) ∙ (λ i. born i && not (over i))
