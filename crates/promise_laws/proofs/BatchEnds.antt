-- A log that ends where a batch does ends so for good, whatever event comes next.
use Rattle.std.proofs.Common.{◌≡◌, ℕ, ◌+◌, ◌<◌, ◌≤◌, List, [], ◌∷◌, ◌++◌, length, map, filter, take, Bool, true, false, Option, Some, None, inl, inr, refl, sym, ap, ◌∙◌, subst, arith, append_assoc, append-nil, drop, zero, suc, take-append-drop}
use Rattle.std.specs.List.{sum_by}
use Rattle.std.proofs.lemmas.List.{take_all, take-append-le}
use Rattle.std.proofs.lemmas.List.Sums.{sum_by-cons, sum_by-take-le}
use Rattle.std.proofs.lemmas.List.Elements.{filter-append}
use Rattle.std.specs.Prelude.{slice_get}
use Rattle.std.proofs.lemmas.Bool.{and_parts, cond_both, cases_lt}
use Rattle.core_model.specs.declared.effects.Effect.{Effect}
use Rattle.core_model.specs.declared.events.CoreEvent.{CoreEvent}
use Rattle.core_model.specs.declared.effects.Read.{Read}
use Rattle.core_model.specs.declared.phases.Phase.TheVariants.{Unborn, Running, Finished}
use Rattle.core_model.specs.declared.phases.Verdict.{Verdict}
use Rattle.core_model.specs.declared.phases.Verdict.TheVariants.{Open, Chosen, Condemned, Committed, Aborted}
use Rattle.core_model.specs.CoreState.{UnitNo, Member, put, Batch, CoreState}
use Rattle.core_model.specs.Tests.{is_good, is_committed, is_final}
use Rattle.core_model.specs.Answers.{effect_of}
use Rattle.core_model.specs.Batches.{sizes}
use Rattle.core_model.specs.SerialOrder.{batch_begin, committed, chosen}
use Rattle.core_model.specs.Changes.{new_unit, swept, swept_by}
use Rattle.core_model.specs.Events.{applies, can, does, step, run, is_allowed, is_after_doubt}
use Rattle.core_model.specs.LegalRuns.{Run, begins, ends}
use Rattle.core_model.specs.Replies.{OnlyExtends}
use Rattle.core_laws.proofs.Puts.{put-other}
use Rattle.core_laws.proofs.EventCases.{Change, bad, begin, lock, raise, refuse, finish, end_plain, end_snapshot, release, take_batch, vote, decide_some, decide_none, seal_batch, spoil_batch, doubt_batch, learn, emit, halt_run, want, load, decode}
use Rattle.core_laws.proofs.Orders.{in_take, in_drop}
use Rattle.core_laws.proofs.KeptInvariant.{decided_size}
use Rattle.core_laws.proofs.Growth.{grows-step}
use Rattle.core_laws.proofs.CommitOrder.{Split, no_doubt, split-order}
use Rattle.core_model.specs.Laws.{extended}
use Rattle.core_laws.proofs.FurtherLaws.{run-append}
use Rattle.core_laws.proofs.Replies.{extends-ends}
use Rattle.promise_spec.specs.Records.{Commit, AreRecordsOf}
use Rattle.promise_spec.specs.UnitRule.{Basis, IsDue, KeepsUnitRule}
use Rattle.host_trait.specs.World.{Moment, Passes}
use Rattle.host_trait.proofs.Moments.{weaker}
use Rattle.promise_spec.specs.UnitAnswers.{got_from}
use Rattle.promise_spec.proofs.Lists.{none_at}
use Rattle.promise_laws.specs.Closings.{AllEnd}
use Rattle.promise_spec.specs.Explanation.{AreAdded}
use Rattle.promise_spec.specs.Entries.{Log, grown}
use Rattle.promise_spec.specs.Batches.{units_in, kept_by, EndsABatch}
use Rattle.core_laws.proofs.LoadlessKept.{LoadlessKept, loadless-ends}
use Rattle.core_laws.proofs.LoadlessRuns.{split-ends, prefix-ends}

-- ---- what an event leaves of a finished unit

-- a running unit is another than a finished one
apart-running : (w : CoreState) (x u : UnitNo) → w.units.phase x ≡ Finished → w.units.phase u ≡ Running → x ≡ u → ⊥
apart-running w x u done running e = (let z : Finished ≡ Running = sym done ∙ ap w.units.phase e ∙ running in cc)

-- its effect
effect-change : (w : CoreState) (e : CoreEvent) (w' : CoreState) → Change w e w' → LoadlessKept w → (x : UnitNo) → w.units.phase x ≡ Finished → effect_of w' x ≡ effect_of w x
effect-change w e w' (bad line why q) k x done = refl
effect-change w e w' (begin origin call plain c) k x done =
    let apart : x ≡ new_unit w → ⊥ = λ q. (let z : Finished ≡ Unborn = sym done ∙ ap w.units.phase q ∙ k.0.unborn (new_unit w) (omega arith) in cc) in
    let o : put w.units.origin (new_unit w) origin x ≡ w.units.origin x = put-other w.units.origin (new_unit w) origin x apart in
    let c : put w.units.call (new_unit w) call x ≡ w.units.call x = put-other w.units.call (new_unit w) call x apart in
    λ i. record {
      unit = x;
      origin = o i;
      call = c i;
      answers = w.manager.answers x;
      reads = w.units.reads x;
      writes = w.manager.writes x;
      result = w.manager.result x;
    }
effect-change w e w' (lock u g mode running free first here) k x done =
    ap (λ (rs : List Read). record (effect_of w x) { reads = rs }) (put-other w.units.reads u _ x (apart-running w x u done running))
effect-change w e w' (raise u g mode running free held here uncovered) k x done = refl
effect-change w e w' (refuse u g mode why running q) k x done = refl
effect-change w e w' (finish u effect running plain of_call reads alone) k x done =
    let apart = apart-running w x u done running in
    let a : put w.manager.answers u effect.answers x ≡ w.manager.answers x = put-other w.manager.answers u effect.answers x apart in
    let s : put w.manager.writes u effect.writes x ≡ w.manager.writes x = put-other w.manager.writes u effect.writes x apart in
    let r : put w.manager.result u effect.result x ≡ w.manager.result x = put-other w.manager.result u effect.result x apart in
    λ i. record {
      unit = x;
      origin = w.units.origin x;
      call = w.units.call x;
      answers = a i;
      reads = w.units.reads x;
      writes = s i;
      result = r i;
    }
effect-change w e w' (end_plain u effect running plain of_call bare) k x done =
    let apart = apart-running w x u done running in
    let a : put w.manager.answers u effect.answers x ≡ w.manager.answers x = put-other w.manager.answers u effect.answers x apart in
    let r : put w.manager.result u effect.result x ≡ w.manager.result x = put-other w.manager.result u effect.result x apart in
    λ i. record {
      unit = x;
      origin = w.units.origin x;
      call = w.units.call x;
      answers = a i;
      reads = w.units.reads x;
      writes = w.manager.writes x;
      result = r i;
    }
effect-change w e w' (end_snapshot u at outcome running plain kids answer) k x done =
    let apart = apart-running w x u done running in
    let a : put w.manager.answers u [] x ≡ w.manager.answers x = put-other w.manager.answers u [] x apart in
    let r : put w.manager.result u outcome x ≡ w.manager.result x = put-other w.manager.result u outcome x apart in
    λ i. record {
      unit = x;
      origin = w.units.origin x;
      call = w.units.call x;
      answers = a i;
      reads = w.units.reads x;
      writes = w.manager.writes x;
      result = r i;
    }
effect-change w e w' (release u g over held) k x done = refl
effect-change w e w' (take_batch none some) k x done = refl
effect-change w e w' (vote n g kept b q number d planned fresh) k x done = refl
effect-change w e w' (decide_some n b q number d voted some) k x done = refl
effect-change w e w' (decide_none n b q number d voted none) k x done = refl
effect-change w e w' (seal_batch n b ds q number d) k x done = refl
effect-change w e w' (spoil_batch n b ds q number d) k x done = refl
effect-change w e w' (doubt_batch n b ds q number d) k x done = refl
effect-change w e w' (learn u g wrote final fresh) k x done = refl
effect-change w e w' (emit q) k x done = refl
effect-change w e w' (halt_run q) k x done = refl
effect-change w e w' (want u g running free fresh) k x done = refl
effect-change w e w' (load g u state gone wanted) k x done = refl

-- after a doubt no verdict changes
verdict-after : (w : CoreState) (e : CoreEvent) (w' : CoreState) → Change w e w' → is_after_doubt e ≡ true → w'.manager.verdict ≡ w.manager.verdict
verdict-after w e w' (bad line why q) after = refl
verdict-after w e w' (begin origin call plain c) after = refl
verdict-after w e w' (lock u g mode running free first here) after = refl
verdict-after w e w' (raise u g mode running free held here uncovered) after = refl
verdict-after w e w' (refuse u g mode why running q) after = cc after
verdict-after w e w' (finish u effect running plain of_call reads alone) after = refl
verdict-after w e w' (end_plain u effect running plain of_call bare) after = refl
verdict-after w e w' (end_snapshot u at outcome running plain kids answer) after = refl
verdict-after w e w' (release u g over held) after = refl
verdict-after w e w' (take_batch none some) after = refl
verdict-after w e w' (vote n g kept b q number d planned fresh) after = refl
verdict-after w e w' (decide_some n b q number d voted some) after = cc after
verdict-after w e w' (decide_none n b q number d voted none) after = cc after
verdict-after w e w' (seal_batch n b ds q number d) after = cc after
verdict-after w e w' (spoil_batch n b ds q number d) after = cc after
verdict-after w e w' (doubt_batch n b ds q number d) after = cc after
verdict-after w e w' (learn u g wrote final fresh) after = refl
verdict-after w e w' (emit q) after = refl
verdict-after w e w' (halt_run q) after = refl
verdict-after w e w' (want u g running free fresh) after = refl
verdict-after w e w' (load g u state gone wanted) after = refl

-- grains that leave memory change no effect
swept-effect : (w : CoreState) (x : UnitNo) → effect_of (swept w) x ≡ effect_of w x
swept-effect w x = go w.cells.capacity
  where
    go : (c : Option ℕ) → effect_of (swept_by w c) x ≡ effect_of w x
    go None = refl
    go (Some m) = refl

-- nor a verdict
swept-verdict : (w : CoreState) → (swept w).manager.verdict ≡ w.manager.verdict
swept-verdict w = go w.cells.capacity
  where
    go : (c : Option ℕ) → (swept_by w c).manager.verdict ≡ w.manager.verdict
    go None = refl
    go (Some m) = refl

-- ---- lists

-- tests that agree on a list pass the same of it
filter-same : {A : Type 0} (p q : A → Bool) (xs : List A) → ((x : A) → Member x xs → p x ≡ q x) → filter p xs ≡ filter q xs
filter-same p q [] same = refl
filter-same p q (x ∷ xs) same = rw (same x (inl refl), filter-same p q xs (λ y m. same y (inr m))) refl

-- functions that agree on a list give the same of it
map-same : {A B : Type 0} (f g : A → B) (xs : List A) → ((x : A) → Member x xs → f x ≡ g x) → map f xs ≡ map g xs
map-same f g [] same = refl
map-same {A} {B} f g (x ∷ xs) same =
    let one : f x ≡ g x = same x (inl refl) in
    let more : map f xs ≡ map g xs = map-same f g xs (λ y m. same y (inr m)) in
    λ i. one i ∷ more i

in-filter : {A : Type 0} (p : A → Bool) (xs : List A) (x : A) → Member x (filter p xs) → Member x xs
in-filter p [] x m = m
in-filter {A} p (y ∷ xs) x m = cond_both (p y) (y ∷ filter p xs) (filter p xs) (λ (l : List A). Member x l → Member x (y ∷ xs))
    (λ e there. elim there [ inl here ↦ inl here | inr later ↦ inr (in-filter p xs x later) ])
    (λ e there. inr (in-filter p xs x there)) m

-- the sizes of batches are summed
sizes-sum : (bs : List Batch) → sum_by (λ (b : Batch). b.size) bs ≡ sizes bs
sizes-sum [] = refl
sizes-sum (b ∷ bs) = sum_by-cons (λ (b : Batch). b.size) b bs ∙ ap (λ n. b.size + n) (sizes-sum bs)

-- ---- how many units the closed batches have

-- the closed batches have so many units; where one is in doubt none is open, and it begins where the first so many end
abbrev Tally : CoreState → Type 0
Tally w = (sizes w.manager.past ≡ w.manager.closed) × ((from : ℕ) → w.manager.doubt ≡ Some from → (w.manager.batch ≡ None) × ((n : ℕ) × (units_in w n ≡ from)))

-- the sizes with one batch more
sizes-push : (bs : List Batch) (b : Batch) → sizes (bs ++ b ∷ []) ≡ sizes bs + b.size
sizes-push [] b = omega arith
sizes-push (x ∷ bs) b = (let more : sizes (bs ++ b ∷ []) ≡ sizes bs + b.size = sizes-push bs b in omega (arith, more))

-- where there is no doubt none begins anywhere
no-begin : (o : Option ℕ) (from : ℕ) {P : Type 0} → o ≡ None → o ≡ Some from → P
no-begin o from none some = (let z : None ≡ Some from = sym none ∙ some in absurd (cc z))

-- an event keeps the tally
tally-change : (w : CoreState) (e : CoreEvent) (w' : CoreState) → Change w e w' → applies w e ≡ true → Tally w → Tally w'
tally-change w e w' (bad line why q) a t = t
tally-change w e w' (begin origin call plain c) a t = t
tally-change w e w' (lock u g mode running free first here) a t = t
tally-change w e w' (raise u g mode running free held here uncovered) a t = t
tally-change w e w' (refuse u g mode why running q) a t = t
tally-change w e w' (finish u effect running plain of_call reads alone) a t = t
tally-change w e w' (end_plain u effect running plain of_call bare) a t = t
tally-change w e w' (end_snapshot u at outcome running plain kids answer) a t = t
tally-change w e w' (release u g over held) a t = t
tally-change w e w' (take_batch none some) a t = (t.0, λ from q. no-begin w.manager.doubt from (no_doubt w e a refl) q)
tally-change w e w' (vote n g kept b q number d planned fresh) a t = (t.0, λ from z. no-begin w.manager.doubt from (no_doubt w e a refl) z)
tally-change w e w' (decide_some n b q number d voted some) a t = (t.0, λ from z. no-begin w.manager.doubt from (no_doubt w e a refl) z)
tally-change w e w' (decide_none n b q number d voted none) a t = (sizes-push w.manager.past _ ∙ ap (λ k. k + b.size) t.0, λ from z. no-begin w.manager.doubt from (no_doubt w e a refl) z)
tally-change w e w' (seal_batch n b ds q number d) a t = (sizes-push w.manager.past _ ∙ ap (λ k. k + b.size) t.0, λ from z. no-begin w.manager.doubt from (no_doubt w e a refl) z)
tally-change w e w' (spoil_batch n b ds q number d) a t = (sizes-push w.manager.past _ ∙ ap (λ k. k + b.size) t.0, λ from z. no-begin w.manager.doubt from (no_doubt w e a refl) z)
tally-change w e w' (doubt_batch n b ds q number d) a t = (
  sizes-push w.manager.past _ ∙ ap (λ k. k + b.size) t.0,
  λ from z.
      (let same : w.manager.closed ≡ from = cc z in
      let last : Batch = record b { decisions = Some ds } in
      let past : take (length w.manager.past) (w.manager.past ++ last ∷ []) ≡ w.manager.past = take-append-le (length w.manager.past) w.manager.past (last ∷ []) (omega arith) ∙ take_all (length w.manager.past) w.manager.past (omega arith) in
      (refl, (length w.manager.past, ap (sum_by (λ (x : Batch). x.size)) past ∙ sizes-sum w.manager.past ∙ t.0 ∙ same))),
)
tally-change w e w' (learn u g wrote final fresh) a t = t
tally-change w e w' (emit q) a t = t
tally-change w e w' (halt_run q) a t = t
tally-change w e w' (want u g running free fresh) a t = t
tally-change w e w' (load g u state gone wanted) a t = t

-- and so do grains that leave memory
tally-swept : (w : CoreState) → Tally w → Tally (swept w)
tally-swept w t = go w.cells.capacity
  where
    go : (c : Option ℕ) → Tally (swept_by w c)
    go None = t
    go (Some m) = t

-- and a list of events
tally-run : (es : List CoreEvent) (w : CoreState) → Tally w → Tally (run w es)
tally-run [] w t = t
tally-run (e ∷ es) w t = tally-run es (step w e)
    (cond_both (applies w e) (swept (does w e)) w Tally
    (λ a. tally-swept (does w e) (tally-change w e (does w e) (decode w e (and_parts (is_allowed w e) (can w e) a).1) a t))
    (λ a. t))

-- so it is at the end of each run
tally-ends : (r : Run) → Tally (ends r)
tally-ends r = tally-run r.events (begins r) (refl, λ from q. no-begin None from refl q)

-- ---- closed batches

-- what is needed of a state: closed batches are a first part of the finish order, and are decided but for one in doubt
pub record AreClosed (w : CoreState) : Type 0 where
  pub kept : LoadlessKept w
  pub count : sizes w.manager.past ≡ w.manager.closed
  pub decided : (u : UnitNo) → w.units.phase u ≡ Finished → w.manager.place u ≤ batch_begin w.manager.doubt w.manager.closed → is_final (w.manager.verdict u) ≡ true
  pub split : Split w

-- so it is at the end of each run
pub closed-ends : (r : Run) → 0 < r.base → AreClosed (ends r)
closed-ends r above = record {
  kept = loadless-ends r above;
  count = (tally-ends r).0;
  decided = (prefix-ends r above).decided;
  split = split-ends r above;
}

module _ (w : CoreState) (e : CoreEvent) (c : AreClosed w) (x : OnlyExtends w (step w e)) where
  -- closed units are among those that finished
  within : w.manager.closed ≤ length w.manager.order
  within = (let k = c.kept.1 in omega (arith, k))

  -- a unit of a closed batch stays to commit or not
  good-stays : (u : UnitNo) → w.units.phase u ≡ Finished → w.manager.place u ≤ w.manager.closed → is_good ((step w e).manager.verdict u) ≡ is_good (w.manager.verdict u)
  good-stays u done low = go w.manager.doubt refl
    where
      go : (o : Option ℕ) → w.manager.doubt ≡ o → is_good ((step w e).manager.verdict u) ≡ is_good (w.manager.verdict u)
      go None none =
          ap is_good ((grows-step w e c.kept).1 u (c.decided u done (subst (λ (o : Option ℕ). w.manager.place u ≤ batch_begin o w.manager.closed) (sym none) low)))
      go (Some b) some = cond_both (applies w e) (swept (does w e)) w (λ (v : CoreState). is_good (v.manager.verdict u) ≡ is_good (w.manager.verdict u))
          (λ a. after a (is_after_doubt e) refl)
          (λ a. refl)
        where
          after : applies w e ≡ true → (t : Bool) → is_after_doubt e ≡ t → is_good ((swept (does w e)).manager.verdict u) ≡ is_good (w.manager.verdict u)
          after a true is =
              let change = decode w e (and_parts (is_allowed w e) (can w e) a).1 in
              ap (λ (f : UnitNo → Verdict). is_good (f u)) (swept-verdict (does w e) ∙ verdict-after w e (does w e) change is)
          after a false is = (let z : Some b ≡ None = sym some ∙ no_doubt w e a is in cc)

  -- the effect of a finished unit stays
  effect-stays : (u : UnitNo) → w.units.phase u ≡ Finished → effect_of (step w e) u ≡ effect_of w u
  effect-stays u done = cond_both (applies w e) (swept (does w e)) w (λ (v : CoreState). effect_of v u ≡ effect_of w u)
      (λ a. swept-effect (does w e) u ∙ effect-change w e (does w e) (decode w e (and_parts (is_allowed w e) (can w e) a).1) c.kept u done)
      (λ a. refl)

  -- the first batches have no more units than are closed
  few-units : (n : ℕ) → units_in w n ≤ w.manager.closed
  few-units n =
      let less : sum_by (λ (b : Batch). b.size) (take n w.manager.past) ≤ sum_by (λ (b : Batch). b.size) w.manager.past = sum_by-take-le (λ (b : Batch). b.size) w.manager.past n in
      let all : sum_by (λ (b : Batch). b.size) w.manager.past ≡ w.manager.closed = sizes-sum w.manager.past ∙ c.count in
      omega (arith, less, all)

  -- the records of the first batches are what they were
  kept-stays : (n : ℕ) → n ≤ length w.manager.past → kept_by (step w e) n ≡ kept_by w n
  kept-stays n low =
      let past : take n (step w e).manager.past ≡ take n w.manager.past = ap (take n) x.past.1 ∙ take-append-le n w.manager.past x.past.0 low in
      let units : units_in (step w e) n ≡ units_in w n = ap (sum_by (λ (b : Batch). b.size)) past in
      let k : ℕ = units_in w n in
      let fits : k ≤ length w.manager.order = (let few = few-units n in omega (arith, few, within)) in
      let order : take (units_in (step w e) n) (step w e).manager.order ≡ take k w.manager.order =
      ap (λ m. take m (step w e).manager.order) units ∙ ap (take k) x.order.1 ∙ take-append-le k w.manager.order x.order.0 fits in
      let place = λ (u : UnitNo) (m : Member u (take k w.manager.order)). in_take _ w c.kept.0 k u m fits in
      let good : filter (λ u. is_good ((step w e).manager.verdict u)) (take k w.manager.order) ≡ filter (λ u. is_good (w.manager.verdict u)) (take k w.manager.order) =
      filter-same (λ u. is_good ((step w e).manager.verdict u)) (λ u. is_good (w.manager.verdict u)) (take k w.manager.order)
      (λ u m. (let t = place u m in let few = few-units n in good-stays u t.0 (omega (arith, t.1, few)))) in
      ap (λ (us : List UnitNo). map (effect_of (step w e)) (filter (λ u. is_good ((step w e).manager.verdict u)) us)) order
      ∙ ap (map (effect_of (step w e))) good
      ∙ map-same (effect_of (step w e)) (effect_of w) (filter (λ u. is_good (w.manager.verdict u)) (take k w.manager.order))
      (λ u m. effect-stays u (place u (in-filter (λ u. is_good (w.manager.verdict u)) (take k w.manager.order) u m)).0)

  -- as many batches as there are, where more are asked for
  kept-all : (n : ℕ) → length w.manager.past < n → kept_by w n ≡ kept_by w (length w.manager.past)
  kept-all n far =
      ap (λ (bs : List Batch). map (effect_of w) (filter (λ u. is_good (w.manager.verdict u)) (take (sum_by (λ (b : Batch). b.size) bs) w.manager.order)))
      (take_all n w.manager.past (omega (arith, far)) ∙ sym (take_all (length w.manager.past) w.manager.past (omega arith)))

  -- so a log of whole batches stays one
  pub ends-stay : (first log : Log) → EndsABatch w first log → EndsABatch (step w e) first log
  ends-stay first log b = elim (cases_lt (length w.manager.past) b.batches) [
    | inl far ↦ record {
      batches = length w.manager.past;
      more = b.more;
      split = b.split;
      records = subst (λ (es : List Effect). AreRecordsOf es b.more) (kept-all b.batches far ∙ sym (kept-stays (length w.manager.past) (omega arith))) b.records;
    }
    | inr low ↦ record {
      batches = b.batches;
      more = b.more;
      split = b.split;
      records = subst (λ (es : List Effect). AreRecordsOf es b.more) (sym (kept-stays b.batches low)) b.records;
    }
  ]

-- after a run that keeps the unit rule
pub batch-stays : (s : Basis) (r : Run) (e : CoreEvent) (first log : Log) → 0 < r.base → KeepsUnitRule s r
    → EndsABatch (ends r) first log → EndsABatch (step (ends r) e) first log
batch-stays s r e first log above keeps b =
    let x : OnlyExtends (ends r) (step (ends r) e) = subst (OnlyExtends (ends r)) (run-append (begins r) r.events (e ∷ [])) (extends-ends r (e ∷ [])) in
    ends-stay (ends r) e (closed-ends r above) x first log b

-- the rule of a run is that of its first part
get-front : {A : Type 0} (xs ys : List A) (at : ℕ) (x : A) → slice_get xs at ≡ Some x → (slice_get (xs ++ ys) at ≡ Some x) × (at ≤ length xs)
get-front [] ys at x there = absurd (none_at at x there)
get-front (z ∷ xs) ys zero x there = (there, omega arith)
get-front (z ∷ xs) ys (suc at) x there = (let t = get-front xs ys at x there in (t.0, omega (arith, t.1)))

-- a first part of a run keeps the unit rule
keeps-front : (s : Basis) (r : Run) (more : List CoreEvent) → KeepsUnitRule s (extended r more) → KeepsUnitRule s r
keeps-front s r more keeps at e here =
    let t = get-front r.events more at e here.there in
    let same : take at (r.events ++ more) ≡ take at r.events = take-append-le at r.events more t.1 in
    subst (λ (es : List CoreEvent). IsDue s (run (begins r) es) (got_from (begins r) es) e) same
    (keeps at e (record { there = t.0; applied = subst (λ (es : List CoreEvent). applies (run (begins r) es) e ≡ true) (sym same) here.applied }))

-- whatever events come
pub batch-stays-run : (s : Basis) (r : Run) (more : List CoreEvent) (first log : Log) → 0 < r.base → KeepsUnitRule s (extended r more)
    → EndsABatch (ends r) first log → EndsABatch (ends (extended r more)) first log
batch-stays-run s r [] first log above keeps b = subst (λ (es : List CoreEvent). EndsABatch (run (begins r) es) first log) (sym (append-nil r.events)) b
batch-stays-run s r (e ∷ es) first log above keeps b =
    let one : EndsABatch (ends (extended r (e ∷ []))) first log =
    subst (λ (w : CoreState). EndsABatch w first log) (sym (run-append (begins r) r.events (e ∷ []))) (batch-stays s r e first log above (keeps-front s r (e ∷ es) keeps) b) in
    let whole : (r.events ++ e ∷ []) ++ es ≡ r.events ++ (e ∷ es) = append_assoc r.events (e ∷ []) es in
    subst (λ (fs : List CoreEvent). EndsABatch (run (begins r) fs) first log) whole
    (batch-stays-run s (extended r (e ∷ [])) es first log above (subst (λ (fs : List CoreEvent). KeepsUnitRule s (record r { events = fs })) (sym whole) keeps) one)

-- ---- all closed batches

-- a test that all fail passes nothing
filter-none : {A : Type 0} (p : A → Bool) (xs : List A) → ((x : A) → Member x xs → p x ≡ false) → filter p xs ≡ []
filter-none p [] none = refl
filter-none p (x ∷ xs) none = rw (none x (inl refl), filter-none p xs (λ y m. none y (inr m))) refl

-- a verdict that is final is to commit where it is committed
good-final : (v : Verdict) → is_final v ≡ true → is_good v ≡ is_committed v
good-final Open e = refl
good-final Chosen e = cc e
good-final Condemned e = refl
good-final Committed e = refl
good-final Aborted e = refl

module _ (w : CoreState) (c : AreClosed w) where
  -- all closed batches have the closed units
  all-units : units_in w (length w.manager.past) ≡ w.manager.closed
  all-units = ap (sum_by (λ (b : Batch). b.size)) (take_all (length w.manager.past) w.manager.past (omega arith)) ∙ sizes-sum w.manager.past ∙ c.count

  -- which are among those that finished
  all-within : w.manager.closed ≤ length w.manager.order
  all-within = (let k = c.kept.1 in omega (arith, k))

  -- the unit is to commit, or committed
  good : UnitNo → Bool
  good u = is_good (w.manager.verdict u)

  -- where no batch is open they have those to commit of a batch in doubt too
  chosen-batches : w.manager.batch ≡ None → kept_by w (length w.manager.past) ≡ committed w ++ chosen w
  unfolding good
  chosen-batches none =
      let n : ℕ = w.manager.closed in
      let bound : w.manager.closed + decided_size w.manager.batch ≡ n = ap (λ (o : Option Batch). n + decided_size o) none ∙ omega arith in
      let later : filter good (drop n w.manager.order) ≡ [] =
      filter-none good (drop n w.manager.order)
      (λ u m. (let t = in_drop _ w c.kept.0 n u m in ap is_good (c.kept.0.late u t.0 (subst (λ k. k < w.manager.place u) (sym bound) t.1)))) in
      let whole : filter good w.manager.order ≡ filter good (take n w.manager.order) =
      ap (filter good) (sym (take-append-drop n w.manager.order)) ∙ filter-append good (take n w.manager.order) (drop n w.manager.order)
      ∙ ap (λ (us : List UnitNo). filter good (take n w.manager.order) ++ us) later ∙ append-nil (filter good (take n w.manager.order)) in
      ap (λ k. map (effect_of w) (filter good (take k w.manager.order))) all-units ∙ sym (ap (map (effect_of w)) whole) ∙ split-order w c.kept c.split

-- the moments of a run
pub moments-stay : (live : ℕ) (s : Basis) (r : Run) (more : List CoreEvent) (first : Log) (old new : List Moment) → 0 < r.base → KeepsUnitRule s (extended r more)
    → Passes (AllEnd live (ends r) first) old new → Passes (AllEnd live (ends (extended r more)) first) old new
moments-stay live s r more first old new above keeps passes =
    weaker (AllEnd live (ends r) first) (AllEnd live (ends (extended r more)) first) (λ m all image log left is. batch-stays-run s r more first log above keeps (all image log left is)) passes

-- ---- what a run adds

module _ (w : CoreState) (c : AreClosed w) where
  -- the unit is committed
  sure-one : UnitNo → Bool
  sure-one u = is_committed (w.manager.verdict u)

  -- the first so many batches have the committed units, where they end at a batch in doubt, or none is
  front-batches : (n : ℕ) → units_in w n ≡ batch_begin w.manager.doubt w.manager.closed → kept_by w n ≡ committed w
  unfolding sure-one
  front-batches n is =
      let m : ℕ = batch_begin w.manager.doubt w.manager.closed in
      let fits : m ≤ length w.manager.order = (let k = c.kept.1 in let low = c.split.2 in omega (arith, k, low)) in
      let alike : filter (λ u. is_good (w.manager.verdict u)) (take m w.manager.order) ≡ filter sure-one (take m w.manager.order) =
      filter-same (λ u. is_good (w.manager.verdict u)) sure-one (take m w.manager.order)
      (λ u here. (let t = in_take _ w c.kept.0 m u here fits in good-final (w.manager.verdict u) (c.decided u t.0 t.1))) in
      let later : filter sure-one (drop m w.manager.order) ≡ [] =
      filter-none sure-one (drop m w.manager.order) (λ u here. (let t = in_drop _ w c.kept.0 m u here in never (w.manager.verdict u) (c.split.1 u t.0 t.1))) in
      let whole : filter sure-one w.manager.order ≡ filter sure-one (take m w.manager.order) =
      ap (filter sure-one) (sym (take-append-drop m w.manager.order)) ∙ filter-append sure-one (take m w.manager.order) (drop m w.manager.order)
      ∙ ap (λ (us : List UnitNo). filter sure-one (take m w.manager.order) ++ us) later ∙ append-nil (filter sure-one (take m w.manager.order)) in
      ap (λ k. map (effect_of w) (filter (λ u. is_good (w.manager.verdict u)) (take k w.manager.order))) is ∙ ap (map (effect_of w)) (alike ∙ sym whole)
    where
      never : (v : Verdict) → (v ≡ Committed → ⊥) → is_committed v ≡ false
      never Open isnt = refl
      never Chosen isnt = refl
      never Condemned isnt = refl
      never Committed isnt = absurd (isnt refl)
      never Aborted isnt = refl

  -- how many they are
  front-is : Tally w → (n : ℕ) × (units_in w n ≡ batch_begin w.manager.doubt w.manager.closed)
  front-is t = go w.manager.doubt refl
    where
      go : (o : Option ℕ) → w.manager.doubt ≡ o → (n : ℕ) × (units_in w n ≡ batch_begin w.manager.doubt w.manager.closed)
      go None none = (length w.manager.past, all-units w c ∙ sym (ap (λ (o : Option ℕ). batch_begin o w.manager.closed) none))
      go (Some from) there = (let q = t.1 from there in (q.1.0, q.1.1 ∙ sym (ap (λ (o : Option ℕ). batch_begin o w.manager.closed) there)))

  -- what a run adds ends where a batch does
  added-end : Tally w → (first : Log) (more : List Commit) → AreAdded w more → EndsABatch w first (grown first more)
  added-end t first more (inl are) =
      let n = front-is t in
      record { batches = n.0; more = more; split = refl; records = subst (λ (es : List Effect). AreRecordsOf es more) (sym (front-batches n.0 n.1)) are }
  added-end t first more (inr f) =
      record {
        batches = length w.manager.past;
        more = more;
        split = refl;
        records = subst (λ (es : List Effect). AreRecordsOf es more) (sym (chosen-batches w c (t.1 f.begins f.doubt).0)) f.records;
      }

-- what a run adds, with a batch in doubt or without, ends where a batch does
pub records-end : (s : Basis) (r : Run) (first : Log) (more : List Commit) → 0 < r.base → KeepsUnitRule s r
    → AreAdded (ends r) more → EndsABatch (ends r) first (grown first more)
records-end s r first more above keeps are = added-end (ends r) (closed-ends r above) (tally-ends r) first more are
