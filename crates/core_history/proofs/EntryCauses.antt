-- The cause of each settled entry, read off a history.
use Rattle.std.proofs.Common.{◌≡◌, ℕ, List, [], ◌∷◌, ◌++◌, Bool, true, false, ◌||◌, not, inl, inr, refl, sym, ap, ◌∙◌, subst, Some, None, append_assoc}
use Rattle.std.specs.List.{list_any as any}
use Rattle.std.proofs.lemmas.Bool.{cases_Bool, and_parts, and_from, not-true, not_from_false, cond-true, cond-false}
use Rattle.base_types.specs.declared.calls.Origin.TheVariants.{Line}
use Rattle.base_types.specs.declared.entries.Settled.TheVariants as settled
use Rattle.cell_model.specs.declared.outcomes.Decision.{Decision}
use Rattle.cell_model.specs.declared.outcomes.Decision.TheVariants as decision
use Rattle.cell_model.specs.Decisions.{is_commit}
use Rattle.cell_model.specs.Locks.{is_update, is_hold_of}
use Rattle.cell_model.proofs.Units.{same_unit-true, same_unit-false, same_unit-is, same_unit-not, Member-append}
use Rattle.core_model.specs.declared.events.CoreEvent.{CoreEvent}
use Rattle.core_model.specs.declared.events.CoreEvent.TheVariants.{Bad, Refuse, EndPlain, EndSnapshot, Decide, Sealed, NotSealed, Doubt}
use Rattle.core_model.specs.declared.phases.Phase.TheVariants.{Unborn, Running, Finished}
use Rattle.core_model.specs.declared.phases.Verdict.{Verdict}
use Rattle.core_model.specs.declared.phases.Verdict.TheVariants.{Chosen}
use Rattle.core_model.specs.CoreState.{UnitNo, GrainId, Mode, Value, Entry, Settled, Hold, Batch, CoreState, Member, nobody, same_unit}
use Rattle.core_model.specs.Tests.{is_bad, is_good, members, ask_answer}
use Rattle.core_model.specs.DeadUnits.{Dead, itself}
use Rattle.core_model.specs.Holders.{DifferInUnit}
use Rattle.core_model.specs.Causes.{Settles, HasCause, IsRefusedLock}
use Rattle.core_model.specs.Changes.{entry_for, entries_in, told, result_told, decisions_of, with_decisions, judged, verdict_of, refusal}
use Rattle.core_laws.proofs.EventCases.{Change, bad, refuse, end_plain, end_snapshot, decide_none, seal_batch, spoil_batch, doubt_batch, ask-refused}
use Rattle.core_laws.proofs.Basics.{Dead-more}
use Rattle.core_laws.proofs.Alive.{good-alive}
use Rattle.core_laws.proofs.Failures.{failed-some, failed-none}
use Rattle.core_laws.proofs.Reasons.{Reason, Reasons, argued-decided, member-finished}
use Rattle.core_laws.proofs.CommitOrder.{no_doubt}
use Rattle.core_laws.proofs.KeptInvariant.{inv-judged, inv-decided}
use Rattle.core_laws.proofs.EntryCauses.{entry-parts, entries-parts, dead-bad, refused-cause}
use Rattle.core_history.specs.Histories.{Applied}
use Rattle.core_history.specs.Units.{BeganFor, reads_in}
use Rattle.core_history.specs.Fates.{IsDeadIn}
use Rattle.core_history.specs.Causes.{IsLockedOut, WasVotedDown, once_decided, DependedOnDead, CouldCommit, CauseIn, HasLineIn, IsCausedIn}
use Rattle.core_history.specs.States.{mode_of}
use Rattle.core_history.proofs.Words.{some-is, more}
use Rattle.core_history.proofs.RunHistory.{answered}
use Rattle.core_history.proofs.AnyEvents.{Tells}
use Rattle.core_history.proofs.BatchPlaces.{open-batch}
use Rattle.core_history.proofs.Cores.{Core, seal-bad}
use Rattle.core_history.proofs.Fates.{Step, FatesOf, fates-after, dead-in, dead-by, decided-dead, judged-chosen, wrote-in, wrote-by}
use Rattle.core_history.proofs.Dependencies.{DependsOf}
use Rattle.core_history.proofs.GoneVersions.{SameGone}

-- each settled entry of a state has its cause in the history
abbrev pub CausesOf : List Applied → CoreState → Type 0
CausesOf h w = (x : Entry) → Member x w.manager.settled → IsCausedIn h x

-- a cause stays one
caused-before : (h : List Applied) (a : Applied) (x : Entry) → IsCausedIn h x → IsCausedIn (more h a) x
caused-before h a x c = record { front = c.front; at = c.at; back = c.back ++ a ∷ []; split = ap (λ t. t ++ a ∷ []) c.split ∙ append_assoc c.front (c.at ∷ c.back) (a ∷ []); cause = c.cause; line = c.line }

-- the cause of an entry that is new
caused-now : (h : List Applied) (a : Applied) (x : Entry) (u : UnitNo) (what : Settled) → x.unit ≡ u → x.what ≡ what → CauseIn h a u what → HasLineIn h a.event x what → IsCausedIn (more h a) x
caused-now h a x u what p q c l = record { front = h; at = a; back = []; split = refl; cause = subst (λ z. CauseIn h a z x.what) (sym p) (subst (CauseIn h a u) (sym q) c); line = subst (HasLineIn h a.event x) (sym q) l }

-- the mode of a lock, where each unit has one at most
mode-has : (hs : List Hold) (k : Hold) → DifferInUnit (λ (h : Hold). h.unit) hs → Member k hs → mode_of k.unit hs ≡ Some k.mode
mode-has [] k d m = absurd m
mode-has (h ∷ hs) k d (inl q) = cond-true (same_unit h.unit k.unit) (Some h.mode) (mode_of k.unit hs) (same_unit-is h.unit k.unit (ap (λ (z : Hold). z.unit) (sym q))) ∙ ap (λ (z : Hold). Some z.mode) (sym q)
mode-has (h ∷ hs) k d (inr m) = cond-false (same_unit h.unit k.unit) (Some h.mode) (mode_of k.unit hs) (same_unit-not h.unit k.unit (d.0 k m)) ∙ mode-has hs k d.1 m

-- a mode is that of a lock
mode-lock : (hs : List Hold) (v : UnitNo) (m : Mode) → mode_of v hs ≡ Some m → Member (record { unit = v; mode = m }) hs
mode-lock [] v m e = cc
mode-lock (h ∷ hs) v m e = elim (cases_Bool (same_unit h.unit v)) [
  | inl s ↦ (let p = sym (same_unit-true h.unit v s) in
      let q = some-is m h.mode (sym e ∙ cond-true (same_unit h.unit v) (Some h.mode) (mode_of v hs) s) in
      inl (λ i. record { unit = p i; mode = q i }))
  | inr s ↦ inr (mode-lock hs v m (sym (cond-false (same_unit h.unit v) (Some h.mode) (mode_of v hs) s) ∙ e))
]

-- the oldest rival by the locks is the oldest by the history
locked-out : (opening : GrainId → List Value) (h : List Applied) (w : CoreState) → Core opening w → Tells h w → (e : CoreEvent) (u by : UnitNo) (g : GrainId) → IsRefusedLock w e u by g → IsLockedOut h e u by g
locked-out opening h w c t e u by g r = record {
  mode = r.mode;
  refused = r.refused;
  rival = record {
    other = λ q. same_unit-false k.unit u (not-true _ parts.0) (r.rival.rival.3 ∙ q);
    its = k.mode;
    holds = sym (t.modes by g) ∙ ap (λ z. mode_of z (w.cells.holds g)) (sym r.rival.rival.3) ∙ mode-has (w.cells.holds g) k (c.tidy.0 g) r.rival.rival.1;
    conflict = parts.1;
  };
  oldest = λ v s. r.rival.oldest (record { unit = v; mode = s.its }) (mode-lock (w.cells.holds g) v s.its (t.modes v g ∙ s.holds))
      (and_from (not (same_unit v u)) (is_update r.mode || is_update s.its) (not_from_false _ (same_unit-not v u s.other)) s.conflict);
  older = r.older;
}
  where
    k : Hold
    k = r.rival.rival.0

    parts : (not (is_hold_of u k) ≡ true) × ((is_update r.mode || is_update k.mode) ≡ true)
    parts = and_parts (not (is_hold_of u k)) (is_update r.mode || is_update k.mode) r.rival.rival.2

-- the cause of a refusal
pub refused-in : (opening : GrainId → List Value) (h : List Applied) (w : CoreState) (u : UnitNo) (g : GrainId) (mode : Mode) (why : Settled) → Core opening w → Tells h w → FatesOf h w → SameGone h w → w.units.phase u ≡ Running → refusal g (ask_answer w u g mode) ≡ Some why →
    CauseIn h (answered w (Refuse u g mode)) u why
refused-in opening h w u g mode why c t f same running q = elim (ask-refused w u g mode why q).1 [
  | inl d ↦ subst (CauseIn h (answered w (Refuse u g mode)) u) (sym d.2) (elim (subst (HasCause w (Refuse u g mode) w u) d.2 cause) [
    | inl r ↦ inl (record {
      refused = r.refused;
      gone = (r.gone.0, subst (Member r.gone.0) (t.reads u) r.gone.1, r.gone.2, (same u r.gone.0 running r.gone.1).0 r.gone.3);
      dead = dead-in h w t f d.0 r.dead;
      oldest = λ x m k. (let n = subst (Member x) (sym (t.reads u)) m in r.oldest x n ((same u x running n).1 k));
    })
    | inr r ↦ (let z : Finished ≡ Running = sym (member-finished opening w r.0 c.kept u r.3) ∙ running in cc)
  ])
  | inr d ↦ subst (CauseIn h (answered w (Refuse u g mode)) u) (sym d.3) (locked-out opening h w c t (Refuse u g mode) u d.0 g (subst (HasCause w (Refuse u g mode) w u) d.3 cause))
]
  where
    cause : HasCause w (Refuse u g mode) w u why
    cause = (refused-cause opening w u g mode why w c.kept running q).0

-- who is refused for a cause has its line
refused-line : (h : List Applied) (w : CoreState) (u : UnitNo) (g : GrainId) (mode : Mode) (why : Settled) (x : Entry) → refusal g (ask_answer w u g mode) ≡ Some why → BeganFor h x.unit x.line → HasLineIn h (Refuse u g mode) x why
refused-line h w u g mode why x q l = elim (ask-refused w u g mode why q).1 [
  | inl d ↦ subst (HasLineIn h (Refuse u g mode) x) (sym d.2) l
  | inr d ↦ subst (HasLineIn h (Refuse u g mode) x) (sym d.3) l
]

-- the line of a unit that has begun
line-of : (h : List Applied) (w : CoreState) → Tells h w → (u : UnitNo) (x : Entry) → (w.units.phase u ≡ Unborn → ⊥) → x.unit ≡ u → w.units.origin u ≡ Line x.line → BeganFor h x.unit x.line
line-of h w t u x born p o = subst (λ z. BeganFor h z x.line) (sym p) ((t.lines u x.line).0 (born, o))

-- what a unit of a batch is told has its line
told-line : (h : List Applied) (e : CoreEvent) (x : Entry) (answer : Settled) (d : Decision) → BeganFor h x.unit x.line → HasLineIn h e x answer → HasLineIn h e x (told answer d)
told-line h e x answer decision.Commit l a = a
told-line h e x answer (decision.Vote g) l a = l
told-line h e x answer (decision.Dependency on) l a = l

-- a failed vote
voted-in : (h : List Applied) (w : CoreState) (e : CoreEvent) (b : Batch) (u : UnitNo) (g : GrainId) (verdict : UnitNo → Verdict) → Tells h w → FatesOf h w → w.manager.batch ≡ Some b → Settles e b.number → Member u (members w b) →
    Reason b.votes (w.manager.writes u) (w.units.deps u) verdict (decision.Vote g) → WasVotedDown h e u g
voted-in h w e b u g verdict t f q s m r =
    let x = failed-some b.votes (w.manager.writes u) g r in
    record {
      batch = b.number;
      settled = (s, open-batch h w b t q u m);
      wrote = wrote-in h w t u g x.0;
      failed = f.failed b g q x.1;
      first = λ k wr v. x.2 k (wrote-by h w t u k wr) (f.voted b k q v);
    }

-- a dead dependency
depends-in : (h : List Applied) (w : CoreState) (a : Applied) (b : Batch) (u on : UnitNo) (verdict : UnitNo → Verdict) → Tells h w → FatesOf h w → DependsOf h w → w.manager.batch ≡ Some b → Settles a.event b.number → Member u (members w b) →
    Reason b.votes (w.manager.writes u) (w.units.deps u) verdict (decision.Dependency on) → IsDeadIn (once_decided h a a.event) on →
    ((d : UnitNo) → Member d (w.units.deps u) → IsDeadIn (once_decided h a a.event) d → is_bad (verdict d) ≡ true) → DependedOnDead h a u on
depends-in h w a b u on verdict t f dep q s m r dead bads = record {
  batch = b.number;
  settled = (s, open-batch h w b t q u m);
  written = λ g wr v. (let z : true ≡ false = sym (f.voted b g q v) ∙ failed-none b.votes (w.manager.writes u) r.0 g (wrote-by h w t u g wr) in cc);
  source = (dep u on).0 r.1;
  dead = dead;
  oldest = λ d x y. (let n = (dep u d).1 x in r.3 d n (bads d n y));
}

-- each entry of a batch has its cause where each decision has
entries-in : (h : List Applied) (w v : CoreState) (a : Applied) (answer : UnitNo → Settled) (votes : List (GrainId × Bool)) (us : List UnitNo) (ds : List Decision) → Reasons votes v.manager.writes v.units.deps v.manager.verdict us ds →
    ((u : UnitNo) (d : Decision) → Member u us → v.manager.verdict u ≡ verdict_of d → Reason votes (v.manager.writes u) (v.units.deps u) v.manager.verdict d → CauseIn h a u (told (answer u) d)) →
    Tells h w → v.units.origin ≡ w.units.origin → ((u : UnitNo) → Member u us → w.units.phase u ≡ Finished) → (x : Entry) → (BeganFor h x.unit x.line → (u : UnitNo) → HasLineIn h a.event x (answer u)) →
    Member x (entries_in v answer us ds) → IsCausedIn (more h a) x
entries-in h w v a answer votes us ds reasons cause tells origin finished x own m =
    let t = entries-parts v answer votes v.manager.verdict us ds x reasons m in
    caused-now h a x t.0 (told (answer t.0) t.1.0) t.1.4 t.1.5 (cause t.0 t.1.0 t.1.1 t.1.2 t.1.3)
    (let l = line-of h w tells t.0 x (λ q. (let z : Unborn ≡ Finished = sym q ∙ finished t.0 t.1.1 in cc)) t.1.4 (ap (λ f. f t.0) (sym origin) ∙ t.1.6) in told-line h a.event x (answer t.0) t.1.0 l (own l t.0))

-- what an event that ends a batch tells its units, but for those that could commit
pub ended-in : (opening : GrainId → List Value) (h : List Applied) (w : CoreState) (a : Applied) (b : Batch) (ds : List Decision) → Core opening w → Tells h w → FatesOf h w → DependsOf h w → w.manager.batch ≡ Some b → b.decisions ≡ Some ds → Settles a.event b.number →
    once_decided h a a.event ≡ h → (answer : Settled) (u : UnitNo) → Member u (members w b) → (w.manager.verdict u ≡ Chosen → CouldCommit h b.number u → CauseIn h a u answer) → (d : Decision) → w.manager.verdict u ≡ verdict_of d →
    Reason b.votes (w.manager.writes u) (w.units.deps u) w.manager.verdict d → CauseIn h a u (told answer d)
ended-in opening h w a b ds c t f dep q e s before answer u m commits decision.Commit v r =
    commits v (open-batch h w b t q u m, λ d. good-alive opening _ w c.kept.0 u (ap is_good v) (dead-by h w t f u d))
ended-in opening h w a b ds c t f dep q e s before answer u m commits (decision.Vote g) v r = voted-in h w a.event b u g w.manager.verdict t f q s m r
ended-in opening h w a b ds c t f dep q e s before answer u m commits (decision.Dependency on) v r =
    inr (depends-in h w a b u on w.manager.verdict t f dep q s m r
    (subst (λ z. IsDeadIn z on) (sym before) (dead-in h w t f on (itself r.2)))
    (λ d n y. dead-bad opening w b (inv-judged opening w b ds c.kept q e) c.depends u m d n (dead-by h w t f d (subst (λ z. IsDeadIn z d) before y))))

-- the entries of a batch that is decided and closed at once
pub closed-in : (opening : GrainId → List Value) (h : List Applied) (w : CoreState) (n : ℕ) (w' : CoreState) → Change w (Decide n) w' → Step opening h w (Decide n) w' → DependsOf h w → (b : Batch) → w.manager.batch ≡ Some b → b.number ≡ n → b.decisions ≡ None →
    any is_commit (decisions_of w b) ≡ false → ((u : UnitNo) → w.units.reads u ≡ reads_in u (more h (answered w (Decide n)))) →
    ((u : UnitNo) → IsDeadIn (more h (answered w (Decide n))) u → Dead (judged (members w b) (decisions_of w b) w.manager.verdict) w.units.reads u) →
    (answer : Settled) (u : UnitNo) → Member u (members w b) → (d : Decision) → judged (members w b) (decisions_of w b) w.manager.verdict u ≡ verdict_of d →
    Reason b.votes (w.manager.writes u) (w.units.deps u) (judged (members w b) (decisions_of w b) w.manager.verdict) d → CauseIn h (answered w (Decide n)) u (told answer d)
closed-in opening h w n w' c s dep b q number d none reads dead answer u m decision.Commit v r =
    absurd (judged-chosen opening h w (Decide n) w' s b q d (no_doubt w (Decide n) s.applied refl) none u v)
closed-in opening h w n w' c s dep b q number d none reads dead answer u m (decision.Vote g) v r =
    voted-in h w (Decide n) b u g (judged (members w b) (decisions_of w b) w.manager.verdict) s.told s.fates q (sym number) m r
closed-in opening h w n w' c s dep b q number d none reads dead answer u m (decision.Dependency on) v r =
    inr (depends-in h w (answered w (Decide n)) b u on (judged (members w b) (decisions_of w b) w.manager.verdict) s.told s.fates dep q (sym number) m r
    (decided-dead opening h w n w' c s b q number d reads on r.2)
    (λ e k y. dead-bad opening (with_decisions w b (decisions_of w b)) b (inv-decided opening w b s.core.kept q d) s.core.depends u m e k (dead e y)))

-- the causes after an event
pub causes-after : (opening : GrainId → List Value) (h : List Applied) (w : CoreState) (e : CoreEvent) (w' : CoreState) → Change w e w' → Step opening h w e w' → DependsOf h w → SameGone h w → CausesOf h w → CausesOf (more h (answered w e)) w'
causes-after opening h w e w' (bad line why q) s dep same k = λ x m. elim (Member-append x w.manager.settled (record { line = line; unit = nobody; what = settled.Bad why } ∷ []) m) [
  | inl o ↦ caused-before h (answered w (Bad line why)) x (k x o)
  | inr o ↦ elim o [
    | inl z ↦ caused-now h (answered w (Bad line why)) x nobody (settled.Bad why) (ap (λ (y : Entry). y.unit) z) (ap (λ (y : Entry). y.what) z) (line, refl) (ap (λ (y : Entry). y.unit) z, ap (λ k. Bad k why) (sym (ap (λ (y : Entry). y.line) z)))
    | inr z ↦ absurd z
  ]
]
causes-after opening h w e w' (refuse u g mode why running q) s dep same k = λ x m. elim (Member-append x w.manager.settled (entry_for (w.units.origin u) u why) m) [
  | inl o ↦ caused-before h (answered w (Refuse u g mode)) x (k x o)
  | inr o ↦ (let t = entry-parts w u why x o in caused-now h (answered w (Refuse u g mode)) x u why t.0 t.1 (refused-in opening h w u g mode why s.core s.told s.fates same running q)
      (refused-line h w u g mode why x q (line-of h w s.told u x (λ z. (let y : Unborn ≡ Running = sym z ∙ running in cc)) t.0 t.2)))
]
causes-after opening h w e w' (end_plain u effect running plain of_call bare) s dep same k = λ x m. elim (Member-append x w.manager.settled (entry_for (w.units.origin u) u (settled.Done effect.result)) m) [
  | inl o ↦ caused-before h (answered w (EndPlain u effect)) x (k x o)
  | inr o ↦ (let t = entry-parts w u (settled.Done effect.result) x o in caused-now h (answered w (EndPlain u effect)) x u (settled.Done effect.result) t.0 t.1 (refl, refl) (line-of h w s.told u x (λ z. (let y : Unborn ≡ Running = sym z ∙ running in cc)) t.0 t.2))
]
causes-after opening h w e w' (end_snapshot u at outcome running plain kids answer) s dep same k = λ x m. elim (Member-append x w.manager.settled (entry_for (w.units.origin u) u (settled.Done outcome)) m) [
  | inl o ↦ caused-before h (answered w (EndSnapshot u at outcome)) x (k x o)
  | inr o ↦ (let t = entry-parts w u (settled.Done outcome) x o in caused-now h (answered w (EndSnapshot u at outcome)) x u (settled.Done outcome) t.0 t.1 (refl, refl) (line-of h w s.told u x (λ z. (let y : Unborn ≡ Running = sym z ∙ running in cc)) t.0 t.2))
]
causes-after opening h w e w' (decide_none n b q number d voted none) s dep same k = λ x m.
    (let v : CoreState = with_decisions w b (decisions_of w b) in
    let fates = fates-after opening h w (Decide n) w' (decide_none n b q number d voted none) s in
    elim (Member-append x w.manager.settled (entries_in v (result_told v) (members w b) (decisions_of w b)) m) [
      | inl o ↦ caused-before h (answered w (Decide n)) x (k x o)
      | inr o ↦ entries-in h w v (answered w (Decide n)) (result_told v) b.votes (members w b) (decisions_of w b) (argued-decided opening w b s.core.kept s.core.depends q d)
          (λ u c y z r. closed-in opening h w n w' (decide_none n b q number d voted none) s dep b q number d none s.next.reads
          (λ y' z'. Dead-more _ (judged (members w b) (decisions_of w b) w.manager.verdict) w.units.reads w.units.reads (λ u' t'. seal-bad (judged (members w b) (decisions_of w b) w.manager.verdict u') t') (λ u' r' m'. m') y'
          (dead-by (more h (answered w (Decide n))) w' s.next fates y' z'))
          (result_told v u) u y c z r)
          s.told refl (member-finished opening w b s.core.kept) x (λ l u. l) o
    ])
causes-after opening h w e w' (seal_batch n b ds q number d) s dep same k = λ x m. elim (Member-append x w.manager.settled (entries_in w (result_told w) (members w b) ds) m) [
  | inl o ↦ caused-before h (answered w (Sealed n)) x (k x o)
  | inr o ↦ entries-in h w w (answered w (Sealed n)) (result_told w) b.votes (members w b) ds (s.core.argued b ds q d)
      (λ u c y z r. ended-in opening h w (answered w (Sealed n)) b ds s.core s.told s.fates dep q d (sym number) refl (result_told w u) u y
      (λ v can. (subst (λ i. CouldCommit h i u) number can, s.told.results u (member-finished opening w b s.core.kept u y))) c z r)
      s.told refl (member-finished opening w b s.core.kept) x (λ l u. l) o
]
causes-after opening h w e w' (spoil_batch n b ds q number d) s dep same k = λ x m. elim (Member-append x w.manager.settled (entries_in w (λ u. settled.Disk) (members w b) ds) m) [
  | inl o ↦ caused-before h (answered w (NotSealed n)) x (k x o)
  | inr o ↦ entries-in h w w (answered w (NotSealed n)) (λ u. settled.Disk) b.votes (members w b) ds (s.core.argued b ds q d)
      (λ u c y z r. ended-in opening h w (answered w (NotSealed n)) b ds s.core s.told s.fates dep q d (sym number) refl settled.Disk u y
      (λ v can. (n, refl, subst (λ i. CouldCommit h i u) number can)) c z r)
      s.told refl (member-finished opening w b s.core.kept) x (λ l u. l) o
]
causes-after opening h w e w' (doubt_batch n b ds q number d) s dep same k = λ x m. elim (Member-append x w.manager.settled (entries_in w (λ u. settled.InDoubt) (members w b) ds) m) [
  | inl o ↦ caused-before h (answered w (Doubt n)) x (k x o)
  | inr o ↦ entries-in h w w (answered w (Doubt n)) (λ u. settled.InDoubt) b.votes (members w b) ds (s.core.argued b ds q d)
      (λ u c y z r. ended-in opening h w (answered w (Doubt n)) b ds s.core s.told s.fates dep q d (sym number) refl settled.InDoubt u y
      (λ v can. (n, refl, subst (λ i. CouldCommit h i u) number can)) c z r)
      s.told refl (member-finished opening w b s.core.kept) x (λ l u. l) o
]
causes-after opening h w e w' c s dep same k = λ x m. caused-before h (answered w e) x (k x m)
