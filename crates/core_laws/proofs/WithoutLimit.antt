-- Where memory has no limit no load applies.
use Rattle.std.proofs.Common.{◌≡◌, List, [], ◌∷◌, Bool, true, false, ◌&&◌, not, refl, sym, ap, ◌∙◌, subst, Option, None, Some, is_some, is_none, filter, length, map, nat_lt}
use Rattle.std.specs.Prelude.{if◌then◌else◌}
use Rattle.std.proofs.lemmas.Bool.{and_parts, cond_both, cond-false}
use Rattle.core_model.specs.CoreState.{UnitNo, GrainId, Value, Batch, CoreState}
use Rattle.core_model.specs.Tests.{first_grain, is_wanted}
use Rattle.core_model.specs.Changes.{swept, swept_by}
use Rattle.core_model.specs.Events.{applies, can, does, step, run, is_allowed}
use Rattle.core_model.specs.declared.events.CoreEvent.{CoreEvent}
use Rattle.core_model.specs.declared.events.CoreEvent.TheVariants.{Bad, Begin, Grant, Refuse, Finish, EndPlain, EndSnapshot, Release, Take, Vote, Decide, Sealed, NotSealed, Doubt, Learn, Emitted, Halt, Want, Load}
use Rattle.core_model.specs.LegalRuns.{Run, begins, ends}
use Rattle.core_model.specs.WantedGrains.{next_wanted}
use Rattle.core_model.specs.LearnQueue.{next_learn}
use Rattle.core_model.specs.Settler.{Seals, Writes, Loads, Takes, Rests, first_unvoted, undecided_step, batch_step, learn_step, load_step, last_step, settler_step}
use Rattle.core_model.specs.SerialOrder.{IsTrueLoad, AllLoadsTrue}
use Rattle.core_laws.proofs.EventCases.{Change, bad, begin, lock, raise, refuse, finish, end_plain, end_snapshot, release, take_batch, vote, decide_some, decide_none, seal_batch, spoil_batch, doubt_batch, learn, emit, halt_run, want, load, decode}

-- memory has no limit, and each grain is in it
abbrev pub AllHere : CoreState → Type 0
AllHere w = (w.cells.capacity ≡ None) × ((g : GrainId) → w.cells.here g ≡ true)

here-change : (w : CoreState) (e : CoreEvent) (w' : CoreState) → Change w e w' → AllHere w → AllHere w'
here-change w e w' (bad line why q) m = m
here-change w e w' (begin origin call plain c) m = m
here-change w e w' (lock u g mode running free first here) m = m
here-change w e w' (raise u g mode running free held here uncovered) m = m
here-change w e w' (refuse u g mode why running q) m = m
here-change w e w' (finish u effect running plain of_call reads alone) m = m
here-change w e w' (end_plain u effect running plain of_call bare) m = m
here-change w e w' (end_snapshot u at outcome running plain kids answer) m = m
here-change w e w' (release u g over held) m = m
here-change w e w' (take_batch none some) m = m
here-change w e w' (vote n g kept b q number d planned fresh) m = m
here-change w e w' (decide_some n b q number d voted some) m = m
here-change w e w' (decide_none n b q number d voted none) m = m
here-change w e w' (seal_batch n b ds q number d) m = m
here-change w e w' (spoil_batch n b ds q number d) m = m
here-change w e w' (doubt_batch n b ds q number d) m = m
here-change w e w' (learn u g wrote final fresh) m = m
here-change w e w' (emit q) m = m
here-change w e w' (halt_run q) m = m
here-change w e w' (want u g running free fresh) m = m
here-change w e w' (load g u state gone wanted) m = absurd (let t : true ≡ false = sym (m.1 g) ∙ gone in cc)

here-step : (w : CoreState) (e : CoreEvent) → AllHere w → AllHere (step w e)
here-step w e m = cond_both (applies w e) (swept (does w e)) w AllHere
    (λ a. (let c = decode w e (and_parts (is_allowed w e) (can w e) a).1 in
    let v = here-change w e (does w e) c m in
    let same : swept (does w e) ≡ does w e = ap (swept_by (does w e)) v.0 in
    subst AllHere (sym same) v))
    (λ a. m)

no-load : (opening : GrainId → List Value) (w : CoreState) (e : CoreEvent) → AllHere w → IsTrueLoad opening w e
no-load opening w (Load g u state) m = λ a.
    (let c = (and_parts (is_allowed w (Load g u state)) (can w (Load g u state)) a).1 in
    let n = (and_parts (not (w.cells.here g)) (is_wanted w.units.wants g) c).0 in
    let t : false ≡ true = sym (ap not (m.1 g)) ∙ n in cc)
no-load opening w (Bad line why) m = tt
no-load opening w (Begin origin call plain) m = tt
no-load opening w (Grant u g mode) m = tt
no-load opening w (Refuse u g mode) m = tt
no-load opening w (Finish u effect) m = tt
no-load opening w (EndPlain u effect) m = tt
no-load opening w (EndSnapshot u at outcome) m = tt
no-load opening w (Release u g) m = tt
no-load opening w Take m = tt
no-load opening w (Vote n g kept) m = tt
no-load opening w (Decide n) m = tt
no-load opening w (Sealed n) m = tt
no-load opening w (NotSealed n) m = tt
no-load opening w (Doubt n) m = tt
no-load opening w (Learn u g) m = tt
no-load opening w Emitted m = tt
no-load opening w Halt m = tt
no-load opening w (Want u g) m = tt

no-loads : (opening : GrainId → List Value) (es : List CoreEvent) (w : CoreState) → AllHere w → AllLoadsTrue opening w es
no-loads opening [] w m = tt
no-loads opening (e ∷ es) w m = (no-load opening w e m, no-loads opening es (step w e) (here-step w e m))

pub loads-without-limit : (r : Run) → r.capacity ≡ None → AllLoadsTrue r.opening (begins r) r.events
loads-without-limit r limit = no-loads r.opening r.events (begins r) (limit, λ g. ap is_none limit)

here-run : (es : List CoreEvent) (w : CoreState) → AllHere w → AllHere (run w es)
here-run [] w m = m
here-run (e ∷ es) w m = here-run es (step w e) (here-step w e m)

all-here : (r : Run) → r.capacity ≡ None → AllHere (ends r)
all-here r limit = here-run r.events (begins r) (limit, λ g. ap is_none limit)

-- each grain is in memory
pub here-without-limit : (r : Run) → r.capacity ≡ None → (g : GrainId) → (ends r).cells.here g ≡ true
here-without-limit r limit = (all-here r limit).1

-- so none is to be brought into it
pub wanted-without-limit : (r : Run) → r.capacity ≡ None → next_wanted (ends r) ≡ None
wanted-without-limit r limit = ap first_grain (none-left (map (λ (t : UnitNo × GrainId). t.1) (ends r).units.wants))
  where
    none-left : (gs : List GrainId) → filter (λ g. not ((ends r).cells.here g)) gs ≡ []
    none-left [] = refl
    none-left (g ∷ gs) = cond-false (not ((ends r).cells.here g)) (g ∷ filter (λ k. not ((ends r).cells.here k)) gs) (filter (λ k. not ((ends r).cells.here k)) gs) (ap not (here-without-limit r limit g)) ∙ none-left gs

-- the settler brings the first wanted grain into memory, and no other
module _ (w : CoreState) (g : GrainId) where
  last-loads : (unwritten may : Bool) (o : Option GrainId) → (if unwritten then Writes else (if may then load_step w o else Rests)) ≡ Loads g → o ≡ Some g
  last-loads true may o q = cc
  last-loads false false o q = cc
  last-loads false true None q = absurd (by (applies w Take) q)
    where
      by : (takes : Bool) → (if takes then Takes else Rests) ≡ Loads g → ⊥
      by true z = cc
      by false z = cc
  last-loads false true (Some k) q = cc

  later-loads : (doubt : Bool) (next : Option (UnitNo × GrainId)) → (if doubt then last_step w false else learn_step w next) ≡ Loads g → next_wanted w ≡ Some g
  later-loads true next q = last-loads (nat_lt w.manager.emitted (length w.manager.settled)) (false && not w.units.halt) (next_wanted w) q
  later-loads false None q = last-loads (nat_lt w.manager.emitted (length w.manager.settled)) (true && not w.units.halt) (next_wanted w) q
  later-loads false (Some x) q = cc

  batch-loads : (b : Option Batch) → batch_step w b ≡ Loads g → next_wanted w ≡ Some g
  batch-loads None q = later-loads (is_some w.manager.doubt) (next_learn w) q
  batch-loads (Some b) q = absurd (by (is_some b.decisions) (first_unvoted b) q)
    where
      by : (decided : Bool) (o : Option GrainId) → (if decided then Seals b.number else undecided_step b.number o) ≡ Loads g → ⊥
      by true o z = cc
      by false None z = cc
      by false (Some k) z = cc

-- where memory has no limit the settler brings nothing into it
pub no-load-step : (r : Run) → r.capacity ≡ None → (g : GrainId) → settler_step (ends r) ≡ Loads g → ⊥
no-load-step r limit g q = (let t : None ≡ Some g = sym (wanted-without-limit r limit) ∙ batch-loads (ends r) g (ends r).manager.batch q in cc)
