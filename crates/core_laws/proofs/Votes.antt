-- The batches that were taken, and the votes behind their decisions.
use Rattle.std.proofs.Common.{◌≡◌, ℕ, zero, suc, ◌+◌, ◌<◌, ◌≤◌, List, [], ◌∷◌, ◌++◌, length, Bool, true, false, ◌&&◌, not, inl, inr, refl, sym, ap, ◌∙◌, subst, arith, Option, Some, None}
use Rattle.std.proofs.lemmas.Bool.{and_parts, and_from, cases_Bool, cond_both}
use Rattle.cell_model.proofs.Units.{any-true, any-false, all-true}
use Rattle.core_model.specs.CoreState.{UnitNo, GrainId, put, Member, Value, Write, Settled, Batch, Decision, CoreState}
use Rattle.core_model.specs.declared.phases.Phase.TheVariants.{Running, Finished}
use Rattle.core_model.specs.declared.phases.Verdict.{Verdict}
use Rattle.core_model.specs.declared.effects.Effect.{Effect}
use Rattle.core_model.specs.Tests.{any, is_bad, state_written}
use Rattle.core_model.specs.Chains.{WroteGrain}
use Rattle.core_laws.proofs.Puts.{put-other}
use Rattle.std.proofs.Common.{take, drop, length-drop}
use Rattle.base_types.specs.declared.entries.Settled.TheVariants as settled
use Rattle.cell_model.specs.declared.outcomes.Decision.TheVariants as decision
use Rattle.cell_model.specs.Decisions.{is_commit}
use Rattle.core_model.specs.Tests.{members, is_vote_on, is_voted, has_bad_source, has_failed}
use Rattle.core_model.specs.Batches.{HasYes, AreDecided, IsClosedBatch, FollowOneAnother, sizes, BatchesFollow}
use Rattle.std.proofs.Common.{length-append}
use Rattle.std.proofs.lemmas.Bool.{not_from_false}
use Rattle.core_model.specs.Events.{batch_size}
use Rattle.core_model.specs.Changes.{new_batch, voted, judged, decisions_of, with_decisions, closed, result_told, seal, spoil, leave, swept, swept_by}
use Rattle.core_model.specs.LegalRuns.{Run, IsLegal, begins, ends}
use Rattle.core_model.specs.Events.{applies, can, does, step, run, is_allowed}
use Rattle.core_model.specs.declared.events.CoreEvent.{CoreEvent}
use Rattle.core_model.specs.SerialOrder.{AllLoadsTrue}
use Rattle.core_laws.proofs.EventCases.{Change, bad, begin, lock, raise, refuse, finish, end_plain, end_snapshot, release, take_batch, vote, decide_some, decide_none, seal_batch, spoil_batch, doubt_batch, learn, emit, halt_run, want, load, decode}
use Rattle.cell_model.proofs.Units.{same_grain-true, any-none}
use Rattle.core_laws.proofs.Failures.{failed-none}
use Rattle.core_laws.proofs.Dependencies.{Depends, depends-step}
use Rattle.core_laws.proofs.Plans.{Planned, in-plan, planned-step}
use Rattle.core_laws.proofs.Batches.{Batched, batched-step}
use Rattle.core_laws.proofs.Growth.{grows-decided}
use Rattle.core_laws.proofs.Reasons.{Reason, Reasons, argued-decided, member-finished}
use Rattle.core_laws.proofs.Orders.{in_drop, Member-take, take-drop-push}
use Rattle.core_laws.proofs.Ends.{kept-begins}
use Rattle.core_laws.proofs.KeptInvariant.{Kept, kept-step, size-open}
use Rattle.core_laws.proofs.LoadlessKept.{loadless-kept}
use Rattle.core_laws.proofs.Invariant.{loadless-of}

-- one where a batch is open
abbrev pub open_count : Option Batch → ℕ
open_count None = 0
open_count (Some b) = 1

abbrev pub Follows : CoreState → Type 0
Follows w =
    FollowOneAnother w.manager.writes 0 w.manager.order w.manager.past
    × (sizes w.manager.past ≡ w.manager.closed)
    × (w.manager.batches ≡ length w.manager.past + open_count w.manager.batch)
    × ((b : Batch) → w.manager.batch ≡ Some b → b.number ≡ length w.manager.past + 1)
    × ((b : Batch) (ds : List Decision) → w.manager.batch ≡ Some b → b.decisions ≡ Some ds → AreDecided w.manager.writes b.votes (members w b) ds)

-- a vote that is there and doesn't fail is a yes
yes-vote : (votes : List (GrainId × Bool)) (g : GrainId) → any (is_vote_on g) votes ≡ true → has_failed votes g ≡ false → HasYes votes g
yes-vote votes g a f =
    let t = any-true (is_vote_on g) votes a in
    let n = any-false (λ v. is_vote_on g v && not v.1) votes f t.0 t.1 in (
      t.0,
      t.1,
      same_grain-true _ _ t.2,
      elim (cases_Bool t.0.1) [
        | inl y ↦ y
        | inr y ↦ (let z : true ≡ false = sym (and_from (is_vote_on g t.0) (not t.0.1) t.2 (not_from_false _ y)) ∙ n in cc)
      ],
    )

are-decided : (opening : GrainId → List Value) (w : CoreState) (b : Batch) → Kept opening w → Depends w → Planned w → w.manager.batch ≡ Some b → b.decisions ≡ None → is_voted b ≡ true → (us : List UnitNo) (ds : List Decision) →
    ((u : UnitNo) → Member u us → Member u (members w b)) → Reasons b.votes w.manager.writes w.units.deps (judged (members w b) (decisions_of w b) w.manager.verdict) us ds → AreDecided w.manager.writes b.votes us ds
are-decided opening w b k dep plan q d voted [] [] sub r = tt
are-decided opening w b k dep plan q d voted [] (c ∷ cs) sub r = r
are-decided opening w b k dep plan q d voted (u ∷ us) [] sub r = r
are-decided opening w b k dep plan q d voted (u ∷ us) (c ∷ cs) sub r = (by c r.1, are-decided opening w b k dep plan q d voted us cs (λ x m. sub x (inr m)) r.2)
  where
    alive : ((e : UnitNo) → Member e (w.units.deps u) → is_bad (judged (members w b) (decisions_of w b) w.manager.verdict e) ≡ false) → has_bad_source w u ≡ false
    alive h = any-none (λ e. is_bad (w.manager.verdict e)) (w.units.deps u) (λ e m. elim (cases_Bool (is_bad (w.manager.verdict e))) [
      | inl y ↦ (let z : true ≡ false = sym ((grows-decided w b (decisions_of w b) (loadless-kept opening w k) q d).0 e y) ∙ h e m in cc)
      | inr y ↦ y
    ])

    by : (c : Decision) → Reason b.votes (w.manager.writes u) (w.units.deps u) (judged (members w b) (decisions_of w b) w.manager.verdict) c → is_commit c ≡ true → (g : GrainId) → WroteGrain w.manager.writes u g → HasYes b.votes g
    by decision.Commit s e g wrote =
        let at : Member g b.plan = subst (Member g) (sym (plan b q d)) (in-plan w (members w b) g u (sub u (inl refl)) (alive s.1) wrote) in
        yes-vote b.votes g (all-true (λ y. any (is_vote_on y) b.votes) b.plan voted g at)
        (failed-none b.votes (w.manager.writes u) s.0 g wrote)
    by (decision.Vote k) s e g wrote = cc
    by (decision.Dependency x) s e g wrote = cc

-- what the units of a batch wrote, and the order up to its end, stay
are-same : (ws ws' : UnitNo → List Write) (votes : List (GrainId × Bool)) (us : List UnitNo) (ds : List Decision) → ((u : UnitNo) → Member u us → ws' u ≡ ws u) → AreDecided ws votes us ds → AreDecided ws' votes us ds
are-same ws ws' votes [] [] same a = tt
are-same ws ws' votes [] (d ∷ ds) same a = a
are-same ws ws' votes (u ∷ us) [] same a = a
are-same ws ws' votes (u ∷ us) (d ∷ ds) same a =
    ((λ c g wrote. a.0 c g (wrote.0, ap (state_written g) (sym (same u (inl refl))) ∙ wrote.1)), are-same ws ws' votes us ds (λ x m. same x (inr m)) a.1)

take-push : (m : ℕ) (xs : List UnitNo) (x : UnitNo) → m ≤ length xs → take m (xs ++ x ∷ []) ≡ take m xs
take-push zero xs x h = refl
take-push (suc m) [] x h = absurd (omega arith)
take-push (suc m) (y ∷ xs) x h = ap (λ t. y ∷ t) (take-push m xs x (omega arith))

drop-push : (m : ℕ) (xs : List UnitNo) (x : UnitNo) → m ≤ length xs → drop m (xs ++ x ∷ []) ≡ drop m xs ++ x ∷ []
drop-push zero xs x h = refl
drop-push (suc m) [] x h = absurd (omega arith)
drop-push (suc m) (y ∷ xs) x h = drop-push m xs x (omega arith)

pub Member-drop : (m : ℕ) (x : UnitNo) (xs : List UnitNo) → Member x (drop m xs) → Member x xs
Member-drop zero x xs h = h
Member-drop (suc m) x [] h = h
Member-drop (suc m) x (y ∷ xs) h = inr (Member-drop m x xs h)

follow-push : (ws ws' : UnitNo → List Write) (n : ℕ) (left : List UnitNo) (x : UnitNo) (bs : List Batch) → ((u : UnitNo) → Member u left → ws' u ≡ ws u) → FollowOneAnother ws n left bs → FollowOneAnother ws' n (left ++ x ∷ []) bs
follow-push ws ws' n left x [] same f = tt
follow-push ws ws' n left x (b ∷ bs) same f = (
  f.0,
  record {
    size = (f.1.size.0, f.1.size.1, omega (arith, f.1.size.2, length-append left (x ∷ [])));
    decided = (
      f.1.decided.0,
      f.1.decided.1,
      subst (λ us. AreDecided ws' b.votes us f.1.decided.0) (sym (take-push b.size left x f.1.size.2))
          (are-same ws ws' b.votes (take b.size left) f.1.decided.0 (λ u m. same u (Member-take b.size u left m)) f.1.decided.2),
    );
  },
  subst (λ us. FollowOneAnother ws' (n + 1) us bs) (sym (drop-push b.size left x f.1.size.2)) (follow-push ws ws' (n + 1) (drop b.size left) x bs (λ u m. same u (Member-drop b.size u left m)) f.2),
)

-- one more closed batch
follow-more : (ws : UnitNo → List Write) (n : ℕ) (left : List UnitNo) (bs : List Batch) (b : Batch) → FollowOneAnother ws n left bs → b.number ≡ n + length bs + 1 → IsClosedBatch ws (drop (sizes bs) left) b → FollowOneAnother ws n left (bs ++ b ∷ [])
follow-more ws n left [] b f q c = (omega (arith, q), c, tt)
follow-more ws n left (y ∷ ys) b f q c =
    (f.0, f.1, follow-more ws (n + 1) (drop y.size left) ys b f.2 (omega (arith, q)) (subst (λ us. IsClosedBatch ws us b) (sym (drop-drop-sum y.size (sizes ys) left)) c))
  where
    drop-drop-sum : (m k : ℕ) (xs : List UnitNo) → drop k (drop m xs) ≡ drop (m + k) xs
    drop-drop-sum zero k xs = (let e : k ≡ 0 + k = omega arith in ap (λ z. drop z xs) e)
    drop-drop-sum (suc m) zero [] = (let e : suc m ≡ suc m + 0 = omega arith in ap (λ z. drop z []) e)
    drop-drop-sum (suc m) (suc k) [] = (let e : suc (m + suc k) ≡ suc m + suc k = omega arith in ap (λ z. drop z []) e)
    drop-drop-sum (suc m) k (x ∷ xs) = (let e : suc (m + k) ≡ suc m + k = omega arith in drop-drop-sum m k xs ∙ ap (λ z. drop z (x ∷ xs)) e)

sizes-more : (bs : List Batch) (b : Batch) → sizes (bs ++ b ∷ []) ≡ sizes bs + b.size
sizes-more [] b = omega arith
sizes-more (y ∷ ys) b = (let t = sizes-more ys b in omega (arith, t))

length-more : (bs : List Batch) (b : Batch) → length (bs ++ b ∷ []) ≡ length bs + 1
length-more [] b = refl
length-more (y ∷ ys) b = (let t = length-more ys b in omega (arith, t))

follows-closed : (opening : GrainId → List Value) (w : CoreState) (f : Verdict → Verdict) (answer : UnitNo → Settled) (b c : Batch) (ds : List Decision) → w.manager.batch ≡ Some c → c.number ≡ b.number → c.size ≡ b.size → c.votes ≡ b.votes →
    (0 < b.size) × (b.size ≤ 64) → w.manager.closed + b.size ≤ length w.manager.order → AreDecided w.manager.writes b.votes (members w b) ds → Follows w → Follows (closed w f answer b ds)
follows-closed opening w f answer b c ds q n z v size le decided s =
    let e : drop (sizes w.manager.past) w.manager.order ≡ drop w.manager.closed w.manager.order = ap (λ k. drop k w.manager.order) s.1 in (
      follow-more w.manager.writes 0 w.manager.order w.manager.past (record b { decisions = Some ds }) s.0
          (omega (arith, s.3 c q, n))
          (subst (λ us. IsClosedBatch w.manager.writes us (record b { decisions = Some ds })) (sym e) (record {
            size = (size.0, size.1, omega (arith, le, length-drop w.manager.closed w.manager.order));
            decided = (ds, refl, decided);
          })),
      sizes-more w.manager.past (record b { decisions = Some ds }) ∙ omega (arith, s.1),
      omega (arith, s.2, ap open_count q, length-more w.manager.past (record b { decisions = Some ds })),
      (λ y e. (let t : None ≡ Some y = e in cc)),
      (λ y cs e x. (let t : None ≡ Some y = e in cc)),
    )

some-is : {A : Type 0} (x y : A) → Some x ≡ Some y → x ≡ y
some-is x y e = cc

follows-decided : (opening : GrainId → List Value) (w : CoreState) (b : Batch) → Kept opening w → Depends w → Planned w → w.manager.batch ≡ Some b → b.decisions ≡ None → is_voted b ≡ true → Follows w → Follows (with_decisions w b (decisions_of w b))
follows-decided opening w b k dep plan q d voted s = (
  s.0,
  s.1,
  s.2 ∙ ap (λ o. length w.manager.past + open_count o) q,
  (λ c z. ap (λ (t : Batch). t.number) (sym (some-is (record b { decisions = Some (decisions_of w b) }) c z)) ∙ s.3 b q),
  (λ c ds z y.
      let same : record b { decisions = Some (decisions_of w b) } ≡ c = some-is (record b { decisions = Some (decisions_of w b) }) c z in
      let all' : decisions_of w b ≡ ds = some-is (decisions_of w b) ds (ap (λ (t : Batch). t.decisions) same ∙ y) in
      subst (λ (t : Batch). AreDecided w.manager.writes t.votes (members w t) ds) same
      (subst (λ cs. AreDecided w.manager.writes b.votes (members w b) cs) all' (are-decided opening w b k dep plan q d voted (members w b) (decisions_of w b) (λ x m. m) (argued-decided opening w b k dep q d)))),
)

order-finished : (opening : GrainId → List Value) (w : CoreState) → Kept opening w → (x : UnitNo) → Member x w.manager.order → w.units.phase x ≡ Finished
order-finished opening w k x m = (in_drop _ w (loadless-of opening _ w k.0) 0 x m).0

pub follows-change : (opening : GrainId → List Value) (w : CoreState) (e : CoreEvent) (w' : CoreState) → Change w e w' → applies w e ≡ true → Kept opening w → Depends w → Planned w → Batched w → Follows w → Follows w'
follows-change opening w e w' (bad line why q) a k dep plan bat s = s
follows-change opening w e w' (begin origin call plain c) a k dep plan bat s = s
follows-change opening w e w' (lock u g mode running free first here) a k dep plan bat s = s
follows-change opening w e w' (raise u g mode running free held here uncovered) a k dep plan bat s = s
follows-change opening w e w' (refuse u g mode why running q) a k dep plan bat s = s
follows-change opening w e w' (finish u effect running plain of_call reads alone) a k dep plan bat s =
    (let apart : (x : UnitNo) → w.units.phase x ≡ Finished → x ≡ u → ⊥ = λ x f z. (let t : Finished ≡ Running = sym f ∙ ap w.units.phase z ∙ running in cc) in
    let same : (x : UnitNo) → w.units.phase x ≡ Finished → put w.manager.writes u effect.writes x ≡ w.manager.writes x = λ x f. put-other w.manager.writes u effect.writes x (apart x f) in (
      follow-push w.manager.writes (put w.manager.writes u effect.writes) 0 w.manager.order u w.manager.past (λ x m. same x (order-finished opening w k x m)) s.0,
      s.1,
      s.2,
      s.3,
      (λ b ds q d. subst (λ us. AreDecided (put w.manager.writes u effect.writes) b.votes us ds) (sym (take-drop-push b.size w.manager.closed w.manager.order u (size-open opening w b k q)))
          (are-same w.manager.writes (put w.manager.writes u effect.writes) b.votes (members w b) ds (λ x m. same x (member-finished opening w b k x m)) (s.4 b ds q d))),
    ))
follows-change opening w e w' (end_plain u effect running plain of_call bare) a k dep plan bat s = s
follows-change opening w e w' (end_snapshot u at outcome running plain kids answer) a k dep plan bat s = s
follows-change opening w e w' (release u g over held) a k dep plan bat s = s
follows-change opening w e w' (take_batch none some) a k dep plan bat s = (
  s.0,
  s.1,
  omega (arith, s.2, ap open_count none),
  (λ b q. ap (λ (t : Batch). t.number) (sym (some-is (new_batch w (batch_size w)) b q)) ∙ omega (arith, s.2, ap open_count none)),
  (λ b ds q d. (let t : None ≡ Some ds = ap (λ (t : Batch). t.decisions) (some-is (new_batch w (batch_size w)) b q) ∙ d in cc)),
)
follows-change opening w e w' (vote n g kept b q number d planned fresh) a k dep plan bat s = (
  s.0,
  s.1,
  s.2 ∙ ap (λ o. length w.manager.past + open_count o) q,
  (λ c z. ap (λ (t : Batch). t.number) (sym (some-is (record b { votes = b.votes ++ (g, kept) ∷ [] }) c z)) ∙ s.3 b q),
  (λ c ds z y. (let t : None ≡ Some ds = sym d ∙ ap (λ (t : Batch). t.decisions) (some-is (record b { votes = b.votes ++ (g, kept) ∷ [] }) c z) ∙ y in cc)),
)
follows-change opening w e w' (decide_some n b q number d voted some) a k dep plan bat s = follows-decided opening w b k dep plan q d voted s
follows-change opening w e w' (decide_none n b q number d voted none) a k dep plan bat s =
    follows-closed opening (with_decisions w b (decisions_of w b)) seal (result_told (with_decisions w b (decisions_of w b))) b (record b { decisions = Some (decisions_of w b) }) (decisions_of w b) refl refl refl refl
    (bat.0 b q) (size-open opening w b k q) (are-decided opening w b k dep plan q d voted (members w b) (decisions_of w b) (λ x m. m) (argued-decided opening w b k dep q d))
    (follows-decided opening w b k dep plan q d voted s)
follows-change opening w e w' (seal_batch n b ds q number d) a k dep plan bat s = follows-closed opening w seal (result_told w) b b ds q refl refl refl (bat.0 b q) (size-open opening w b k q) (s.4 b ds q d) s
follows-change opening w e w' (spoil_batch n b ds q number d) a k dep plan bat s = follows-closed opening w spoil (λ u. settled.Disk) b b ds q refl refl refl (bat.0 b q) (size-open opening w b k q) (s.4 b ds q d) s
follows-change opening w e w' (doubt_batch n b ds q number d) a k dep plan bat s = follows-closed opening w leave (λ u. settled.InDoubt) b b ds q refl refl refl (bat.0 b q) (size-open opening w b k q) (s.4 b ds q d) s
follows-change opening w e w' (learn u g wrote final fresh) a k dep plan bat s = s
follows-change opening w e w' (emit q) a k dep plan bat s = s
follows-change opening w e w' (halt_run q) a k dep plan bat s = s
follows-change opening w e w' (want u g running free fresh) a k dep plan bat s = s
follows-change opening w e w' (load g u state gone wanted) a k dep plan bat s = s

pub follows-step : (opening : GrainId → List Value) (w : CoreState) (e : CoreEvent) → Kept opening w → Depends w → Planned w → Batched w → Follows w → Follows (step w e)
follows-step opening w e k dep plan bat s = cond_both (applies w e) (swept (does w e)) w Follows
    (λ a. swept-follows (does w e) (follows-change opening w e (does w e) (decode w e (and_parts (is_allowed w e) (can w e) a).1) a k dep plan bat s))
    (λ a. s)
  where
    swept-follows : (w : CoreState) → Follows w → Follows (swept w)
    swept-follows w s = go w.cells.capacity
      where
        go : (c : Option ℕ) → Follows (swept_by w c)
        go None = s
        go (Some m) = s

follows-run : (opening : GrainId → List Value) (es : List CoreEvent) (w : CoreState) → AllLoadsTrue opening w es → Kept opening w → Depends w → Planned w → Batched w → Follows w → Follows (run w es)
follows-run opening [] w l k dep plan bat s = s
follows-run opening (e ∷ es) w l k dep plan bat s =
    follows-run opening es (step w e) l.1 (kept-step opening w e l.0 k) (depends-step opening w e l.0 k dep) (planned-step opening w e k dep plan) (batched-step w e (loadless-kept opening w k) bat) (follows-step opening w e k dep plan bat s)

pub follows-ends : (plays : Effect → Bool) (r : Run) → IsLegal plays r → BatchesFollow (ends r)
follows-ends plays r l =
    let t = follows-run r.opening r.events (begins r) l.loads (kept-begins plays r l) ((λ u. tt), (λ u d n. absurd n)) (λ b q. cc) ((λ b q. cc), (λ u f. cc), (λ u f. cc))
    (tt, refl, omega arith, (λ b q. cc), (λ b ds q. cc)) in
    record { closed = t.0; count = t.1; number = t.3; decided = t.4 }
