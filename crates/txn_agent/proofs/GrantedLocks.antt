-- What a grant that applied leaves of the link.
use Rattle.std.proofs.Common.{◌≡◌, ℕ, List, [], ◌∷◌, ◌++◌, Bool, true, false, refl, sym, ap, ◌∙◌, subst, append-nil, Option, Some, None, inl, inr}
use Rattle.std.specs.Prelude.{◌||◌, ◌&&◌, if◌then◌else◌, map}
use Rattle.std.proofs.lemmas.Bool.{cond_both, cond-true, cond-false, cases_Bool}
use Rattle.std.proofs.lemmas.List.{map-append}
use Rattle.std.proofs.Math.Bool.{or-false}
use Rattle.base_types.specs.declared.calls.Mode.{Mode}
use Rattle.base_types.specs.declared.calls.Mode.TheVariants.{Read as Shared, Update}
use Rattle.base_types.specs.declared.calls.Origin.{Origin}
use Rattle.cell_model.specs.Locks.{holds_lock, is_hold_of, is_update, granted as granted_locks}
use Rattle.cell_model.proofs.LockAnswers.{granted-new, granted-member}
use Rattle.cell_model.proofs.Units.{any-member, any-none, any-false, same_unit-is, same_unit-not, same_grain-true, same_grain-is}
use Rattle.core_model.specs.CoreState.{UnitNo, GrainId, Hold, Call, Value, Version, same_grain, put_grain, top, CoreState}
use Rattle.core_model.specs.declared.effects.Read.{Read}
use Rattle.core_model.specs.declared.phases.Phase.{Phase}
use Rattle.core_model.specs.declared.questions.AskAnswer.{AskAnswer}
use Rattle.core_model.specs.declared.questions.AskAnswer.TheVariants as answer
use Rattle.core_model.specs.declared.events.CoreEvent.TheVariants.{Grant}
use Rattle.core_model.specs.declared.events.CoreReply.TheVariants as reply
use Rattle.core_model.specs.Tests.{any, ask_answer}
use Rattle.core_model.specs.Changes.{after_grant, after_lock, after_raise, restacked, cleaned, read_of, swept, swept_by}
use Rattle.core_model.specs.Events.{applies, does, holds_alone, is_allowed, not_granted, reply_with, reply_without, reply_to}
use Rattle.core_model.specs.LegalRuns.{Run, ends}
use Rattle.core_laws.proofs.Puts.{grain-at, grain-same, put-same}
use Rattle.script_tree.specs.Programs.{ProgramTree}
use Rattle.script_meaning.specs.Play.{GrainState, IsTransaction, grains_with_states}
use Rattle.script_meaning.specs.Trails.{Given, GivenLock, GivenRaise, exclusive_in, reads_of}
use Rattle.turn_rules.specs.NextEvent.{with_event}
use Rattle.turn_rules.specs.Links.{HasTrail}
use Rattle.turn_rules.proofs.Growth.{ends-more}
use Rattle.turn_rules.proofs.AgentLinks.{locked-first, locked-again}
use Rattle.txn_agent.specs.declared.work.Carried.{Carried}
use Rattle.txn_agent.specs.declared.work.Work.{Work}
use Rattle.txn_agent.specs.MachineState.{found_by, source_of}
use Rattle.txn_agent.specs.CoreLink.{IsPaused}
use Rattle.txn_agent.proofs.Trails.{reads-last, exclusive-last, grains-last, any-last}
use Rattle.core_laws.proofs.LoadlessKept.{loadless-ends}

-- ---- the reply

-- a reply with a state comes where the grant applied, and is the version on top
pub granted-reply : (w : CoreState) (u : UnitNo) (g : GrainId) (mode : Mode) (s : List Value) (x : UnitNo) → reply.Granted s x ≡ reply_to w (Grant u g mode) →
    (applies w (Grant u g mode) ≡ true) × (s ≡ (top (cleaned w g)).state) × (x ≡ (top (cleaned w g)).unit)
granted-reply w u g mode s x e = by (applies w (Grant u g mode)) refl e
  where
    no_reply : (a : AskAnswer) → reply.Granted s x ≡ not_granted a → ⊥
    no_reply answer.NotActive q = absurd cc
    no_reply (answer.Doomed source) q = absurd cc
    no_reply answer.Held q = absurd cc
    no_reply (answer.MustDie holder) q = absurd cc
    no_reply (answer.MustWait holder) q = absurd cc
    no_reply answer.Absent q = absurd cc
    no_reply answer.Free q = absurd cc

    without : (b : Bool) → reply.Granted s x ≡ (if b then not_granted (ask_answer w u g mode) else reply.Unapplied) → ⊥
    without true q = no_reply (ask_answer w u g mode) q
    without false q = absurd cc

    by : (b : Bool) → applies w (Grant u g mode) ≡ b → reply.Granted s x ≡ (if b then reply_with w (Grant u g mode) else reply_without w (Grant u g mode)) →
        (applies w (Grant u g mode) ≡ true) × (s ≡ (top (cleaned w g)).state) × (x ≡ (top (cleaned w g)).unit)
    by true a q = (a, (let z : s ≡ (top (cleaned w g)).state = cc in z), (let z : x ≡ (top (cleaned w g)).unit = cc in z))
    by false a q = absurd (without (is_allowed w (Grant u g mode)) q)

-- ---- the units and the locks

-- What a grant leaves of the unit, but for its reads, and who holds the grain then.
record IsGranted (w : CoreState) (u : UnitNo) (g : GrainId) (mode : Mode) (w' : CoreState) : Type 0 where
  phase : w'.units.phase ≡ w.units.phase
  call : w'.units.call ≡ w.units.call
  origin : w'.units.origin ≡ w.units.origin
  plain : w'.units.plain ≡ w.units.plain
  holds : w'.cells.holds ≡ put_grain w.cells.holds g (granted_locks (w.cells.holds g) u mode)

-- it does
granted-is : (w : CoreState) (u : UnitNo) (g : GrainId) (mode : Mode) → IsGranted w u g mode (after_grant w u g mode)
granted-is w u g mode = cond_both (holds_lock u (w.cells.holds g)) (after_raise (restacked w g (cleaned w g)) u g mode) (after_lock (restacked w g (cleaned w g)) u g mode) (IsGranted w u g mode)
    (λ e. record { phase = refl; call = refl; origin = refl; plain = refl; holds = refl })
    (λ e. record { phase = refl; call = refl; origin = refl; plain = refl; holds = refl })

-- a fact of a state that grains leaving memory leave, in the run
module _ (r : Run) (u : UnitNo) (g : GrainId) (mode : Mode) (a : applies (ends r) (Grant u g mode) ≡ true) where
  -- the last state, behind the grant
  behind : ends (with_event r (Grant u g mode)) ≡ swept (after_grant (ends r) u g mode)
  behind = ends-more r (Grant u g mode) ∙ cond-true (applies (ends r) (Grant u g mode)) (swept (does (ends r) (Grant u g mode))) (ends r) a

  swept-is : (w : CoreState) → IsGranted (ends r) u g mode w → IsGranted (ends r) u g mode (swept w)
  swept-is w i = go w.cells.capacity
    where
      go : (c : Option ℕ) → IsGranted (ends r) u g mode (swept_by w c)
      go None = i
      go (Some m) = record { phase = i.phase; call = i.call; origin = i.origin; plain = i.plain; holds = i.holds }

  swept-reads : (w : CoreState) → (swept w).units.reads ≡ w.units.reads
  swept-reads w = go w.cells.capacity
    where
      go : (c : Option ℕ) → (swept_by w c).units.reads ≡ w.units.reads
      go None = refl
      go (Some m) = refl

  granted-step : IsGranted (ends r) u g mode (ends (with_event r (Grant u g mode)))
  granted-step = subst (IsGranted (ends r) u g mode) (sym behind) (swept-is (after_grant (ends r) u g mode) (granted-is (ends r) u g mode))

  -- a first lock reads the version on top
  reads-first : holds_lock u ((ends r).cells.holds g) ≡ false → (ends (with_event r (Grant u g mode))).units.reads u ≡ (ends r).units.reads u ++ (read_of g (top (cleaned (ends r) g)) ∷ [])
  reads-first free =
      ap (λ (w : CoreState). w.units.reads u) behind ∙ ap (λ (f : UnitNo → List Read). f u) (swept-reads (after_grant (ends r) u g mode))
      ∙ ap (λ (w : CoreState). w.units.reads u) (cond-false (holds_lock u ((ends r).cells.holds g)) (after_raise (restacked (ends r) g (cleaned (ends r) g)) u g mode) (after_lock (restacked (ends r) g (cleaned (ends r) g)) u g mode) free)
      ∙ put-same (ends r).units.reads u _
      ∙ ap (λ (l : List Version). (ends r).units.reads u ++ (read_of g (top l) ∷ [])) (grain-same (ends r).cells.stack g (cleaned (ends r) g))

  -- an exclusive lock in place of a shared one reads nothing
  reads-again : holds_lock u ((ends r).cells.holds g) ≡ true → (ends (with_event r (Grant u g mode))).units.reads u ≡ (ends r).units.reads u
  reads-again held =
      ap (λ (w : CoreState). w.units.reads u) behind ∙ ap (λ (f : UnitNo → List Read). f u) (swept-reads (after_grant (ends r) u g mode))
      ∙ ap (λ (w : CoreState). w.units.reads u) (cond-true (holds_lock u ((ends r).cells.holds g)) (after_raise (restacked (ends r) g (cleaned (ends r) g)) u g mode) (after_lock (restacked (ends r) g (cleaned (ends r) g)) u g mode) held)

  -- the unit holds that grain
  own-lock : (hs : List Hold) → holds_lock u (granted_locks hs u mode) ≡ true
  own-lock hs = any-member (is_hold_of u) (granted_locks hs u mode) (record { unit = u; mode = mode }) (granted-new hs u mode) (same_unit-is u u refl)

  -- alone, where the mode is exclusive
  own-alone : (hs : List Hold) → any (λ (h : Hold). is_hold_of u h && is_update h.mode) (granted_locks hs u mode) ≡ is_update mode
  own-alone hs = by (is_update mode) refl
    where
      test : Hold → Bool
      test h = is_hold_of u h && is_update h.mode

      by : (b : Bool) → is_update mode ≡ b → any test (granted_locks hs u mode) ≡ is_update mode
      by true m = any-member test (granted_locks hs u mode) (record { unit = u; mode = mode }) (granted-new hs u mode) (ap (λ (b : Bool). b && is_update mode) (same_unit-is u u refl) ∙ m) ∙ sym m
      by false m = any-none test (granted_locks hs u mode) (λ h k. elim (granted-member hs u mode h k) [
        | inl o ↦ ap (λ (b : Bool). b && is_update h.mode) (same_unit-not h.unit u o.1)
        | inr q ↦ ap test q ∙ ap (λ (b : Bool). b && is_update mode) (same_unit-is u u refl) ∙ m
      ]) ∙ sym m

  -- the others as before
  locks-by : (P : GrainId → List Hold → Type 0) → ((h : GrainId) → h ≡ g → P h (granted_locks ((ends r).cells.holds g) u mode)) → ((h : GrainId) → (h ≡ g → ⊥) → P h ((ends r).cells.holds h)) →
      (h : GrainId) → P h ((ends (with_event r (Grant u g mode))).cells.holds h)
  locks-by P same others h = subst (λ (f : GrainId → List Hold). P h (f h)) (sym granted-step.holds)
      (grain-at (ends r).cells.holds g (granted_locks ((ends r).cells.holds g) u mode) (P h) h (same h) (others h))

-- ---- whether a grain is in a list with one more

-- it is another
apart : (h g : GrainId) → (h ≡ g → ⊥) → same_grain h g ≡ false
apart h g n = elim (cases_Bool (same_grain h g)) [ inl e ↦ absurd (n (same_grain-true h g e)) | inr e ↦ e ]

-- it is that one
or-right : (a b : Bool) → b ≡ true → (a || b) ≡ true
or-right true b e = refl
or-right false b e = e

-- the grain itself
any-that : (gs : List GrainId) (g h : GrainId) → h ≡ g → any (same_grain h) (gs ++ (g ∷ [])) ≡ true
any-that gs g h q = any-last h gs g ∙ or-right (any (same_grain h) gs) (same_grain h g) (same_grain-is h g q)

-- another
any-other : (gs : List GrainId) (g h : GrainId) → (h ≡ g → ⊥) → any (same_grain h) (gs ++ (g ∷ [])) ≡ any (same_grain h) gs
any-other gs g h n = any-last h gs g ∙ ap (λ (b : Bool). any (same_grain h) gs || b) (apart h g n) ∙ or-false (any (same_grain h) gs)

-- who has no lock has none alone
pub no-lock-alone : (u : UnitNo) (hs : List Hold) → holds_lock u hs ≡ false → any (λ (h : Hold). is_hold_of u h && is_update h.mode) hs ≡ false
no-lock-alone u hs e = any-none (λ (h : Hold). is_hold_of u h && is_update h.mode) hs (λ h m. ap (λ (b : Bool). b && is_update h.mode) (any-false (is_hold_of u) hs e h m))

-- ---- the link behind a first lock

module _ (types : ProgramTree) (r : Run) (c : Carried) (work work' : Work) (trail : List Given) (g : GrainId) (mode : Mode) (s : List Value) (source : UnitNo)
    (p : IsPaused types r c work trail) (replied : reply.Granted s source ≡ reply_to (ends r) (Grant c.unit g mode)) (call : work'.call ≡ work.call) where
  module _ (free : any (same_grain g) (grains_with_states (reads_of trail)) ≡ false) (sources : work'.sources ≡ work.sources ++ (source ∷ [])) where
    abbrev given : Given
    given = GivenLock g mode s

    told : (applies (ends r) (Grant c.unit g mode) ≡ true) × (s ≡ (top (cleaned (ends r) g)).state) × (source ≡ (top (cleaned (ends r) g)).unit)
    told = granted-reply (ends r) c.unit g mode s source replied

    i : IsGranted (ends r) c.unit g mode (ends (with_event r (Grant c.unit g mode)))
    i = granted-step r c.unit g mode (granted-reply (ends r) c.unit g mode s source replied).0

    unlocked : holds_lock c.unit ((ends r).cells.holds g) ≡ false
    unlocked = p.linked.locks g ∙ free

    reads : (ends (with_event r (Grant c.unit g mode))).units.reads c.unit ≡ (ends r).units.reads c.unit ++ (read_of g (top (cleaned (ends r) g)) ∷ [])
    reads = reads-first r c.unit g mode (granted-reply (ends r) c.unit g mode s source replied).0 (p.linked.locks g ∙ free)

    grains : grains_with_states (reads_of (trail ++ (given ∷ []))) ≡ grains_with_states (reads_of trail) ++ (g ∷ [])
    grains = ap grains_with_states (reads-last trail given) ∙ grains-last (reads_of trail) (g, s)

    -- the mode is shared: nothing more is held alone
    alone-by : (m : Mode) → mode ≡ m → (h : GrainId) → holds_alone (ends (with_event r (Grant c.unit g mode))) c.unit h ≡ any (same_grain h) (exclusive_in trail ++ exclusive_in (GivenLock g m s ∷ []))
    alone-by Shared q = locks-by r c.unit g mode told.0 (λ h hs. any (λ (x : Hold). is_hold_of c.unit x && is_update x.mode) hs ≡ any (same_grain h) (exclusive_in trail ++ []))
        (λ h e. own-alone r c.unit g mode told.0 ((ends r).cells.holds g) ∙ ap is_update q
        ∙ sym (ap (λ (l : List GrainId). any (same_grain h) l) (append-nil (exclusive_in trail)) ∙ ap (λ (z : GrainId). any (same_grain z) (exclusive_in trail)) e
        ∙ sym (p.linked.alone g) ∙ no-lock-alone c.unit ((ends r).cells.holds g) unlocked))
        (λ h n. p.linked.alone h ∙ sym (ap (λ (l : List GrainId). any (same_grain h) l) (append-nil (exclusive_in trail))))
    alone-by Update q = locks-by r c.unit g mode told.0 (λ h hs. any (λ (x : Hold). is_hold_of c.unit x && is_update x.mode) hs ≡ any (same_grain h) (exclusive_in trail ++ (g ∷ [])))
        (λ h e. own-alone r c.unit g mode told.0 ((ends r).cells.holds g) ∙ ap is_update q ∙ sym (any-that (exclusive_in trail) g h e))
        (λ h n. p.linked.alone h ∙ sym (any-other (exclusive_in trail) g h n))

    -- the whole
    pub first-linked : IsPaused types (with_event r (Grant c.unit g mode)) c work' (trail ++ (GivenLock g mode s ∷ []))
    first-linked = record {
      linked = record {
        above = p.linked.above;
        call = ap (λ (f : UnitNo → Call). f c.unit) i.call ∙ p.linked.call ∙ sym call;
        came = ap (λ (f : UnitNo → Origin). f c.unit) i.origin ∙ p.linked.came;
        kind = ap (λ (f : UnitNo → Bool). f c.unit) i.plain ∙ p.linked.kind;
        plainly = λ is t. p.linked.plainly is (subst (λ (x : Call). IsTransaction types x) call t);
        found = ap (map found_by) reads ∙ map-append found_by ((ends r).units.reads c.unit) (read_of g (top (cleaned (ends r) g)) ∷ [])
            ∙ (λ j. p.linked.found j ++ ((g, sym told.1 j) ∷ [])) ∙ sym (reads-last trail given);
        sources = ap (map source_of) reads ∙ map-append source_of ((ends r).units.reads c.unit) (read_of g (top (cleaned (ends r) g)) ∷ [])
            ∙ (λ j. p.linked.sources j ++ (sym told.2 j ∷ [])) ∙ sym sources;
        locks = λ h. locks-by r c.unit g mode told.0 (λ k hs. holds_lock c.unit hs ≡ any (same_grain k) (grains_with_states (reads_of trail) ++ (g ∷ [])))
            (λ k e. own-lock r c.unit g mode told.0 ((ends r).cells.holds g) ∙ sym (any-that (grains_with_states (reads_of trail)) g k e))
            (λ k n. p.linked.locks k ∙ sym (any-other (grains_with_states (reads_of trail)) g k n)) h
            ∙ sym (ap (any (same_grain h)) grains);
        alone = λ h. alone-by mode refl h ∙ sym (ap (any (same_grain h)) (exclusive-last trail given));
      };
      given = subst (λ (v : List Value). HasTrail (with_event r (Grant c.unit g mode)) c.unit (trail ++ (GivenLock g mode v ∷ []))) (sym told.1)
          (locked-first r c.unit g mode trail (loadless-ends r p.linked.above) told.0 unlocked p.given (ap (λ (f : UnitNo → Phase). f c.unit) i.phase ∙ p.given.running));
    }

  module _ (update : mode ≡ Update) (held : any (same_grain g) (grains_with_states (reads_of trail)) ≡ true) (sources : work'.sources ≡ work.sources) where
    told-again : (applies (ends r) (Grant c.unit g mode) ≡ true) × (s ≡ (top (cleaned (ends r) g)).state) × (source ≡ (top (cleaned (ends r) g)).unit)
    told-again = granted-reply (ends r) c.unit g mode s source replied

    j : IsGranted (ends r) c.unit g mode (ends (with_event r (Grant c.unit g mode)))
    j = granted-step r c.unit g mode (granted-reply (ends r) c.unit g mode s source replied).0

    has : holds_lock c.unit ((ends r).cells.holds g) ≡ true
    has = p.linked.locks g ∙ held

    same-reads : reads_of (trail ++ (GivenRaise g ∷ [])) ≡ reads_of trail
    same-reads = reads-last trail (GivenRaise g) ∙ append-nil (reads_of trail)

    reads-same : (ends (with_event r (Grant c.unit g mode))).units.reads c.unit ≡ (ends r).units.reads c.unit
    reads-same = reads-again r c.unit g mode (granted-reply (ends r) c.unit g mode s source replied).0 (p.linked.locks g ∙ held)

    -- the whole
    pub again-linked : IsPaused types (with_event r (Grant c.unit g mode)) c work' (trail ++ (GivenRaise g ∷ []))
    again-linked = record {
      linked = record {
        above = p.linked.above;
        call = ap (λ (f : UnitNo → Call). f c.unit) j.call ∙ p.linked.call ∙ sym call;
        came = ap (λ (f : UnitNo → Origin). f c.unit) j.origin ∙ p.linked.came;
        kind = ap (λ (f : UnitNo → Bool). f c.unit) j.plain ∙ p.linked.kind;
        plainly = λ is t. p.linked.plainly is (subst (λ (x : Call). IsTransaction types x) call t);
        found = ap (map found_by) reads-same ∙ p.linked.found ∙ sym same-reads;
        sources = ap (map source_of) reads-same ∙ p.linked.sources ∙ sym sources;
        locks = λ h. locks-by r c.unit g mode told-again.0 (λ k hs. holds_lock c.unit hs ≡ any (same_grain k) (grains_with_states (reads_of trail)))
            (λ k e. own-lock r c.unit g mode told-again.0 ((ends r).cells.holds g) ∙ sym (ap (λ (z : GrainId). any (same_grain z) (grains_with_states (reads_of trail))) e ∙ held))
            (λ k n. p.linked.locks k) h
            ∙ sym (ap (λ (l : List GrainState). any (same_grain h) (grains_with_states l)) same-reads);
        alone = λ h. locks-by r c.unit g mode told-again.0 (λ k hs. any (λ (x : Hold). is_hold_of c.unit x && is_update x.mode) hs ≡ any (same_grain k) (exclusive_in trail ++ (g ∷ [])))
            (λ k e. own-alone r c.unit g mode told-again.0 ((ends r).cells.holds g) ∙ ap is_update update ∙ sym (any-that (exclusive_in trail) g k e))
            (λ k n. p.linked.alone k ∙ sym (any-other (exclusive_in trail) g k n)) h
            ∙ sym (ap (any (same_grain h)) (exclusive-last trail (GivenRaise g)));
      };
      given = again-given mode update told-again.0 j;
    }
      where
        again-given : (m : Mode) → m ≡ Update → applies (ends r) (Grant c.unit g m) ≡ true → IsGranted (ends r) c.unit g m (ends (with_event r (Grant c.unit g m))) → HasTrail (with_event r (Grant c.unit g m)) c.unit (trail ++ (GivenRaise g ∷ []))
        again-given m q = subst (λ (m : Mode). applies (ends r) (Grant c.unit g m) ≡ true → IsGranted (ends r) c.unit g m (ends (with_event r (Grant c.unit g m))) → HasTrail (with_event r (Grant c.unit g m)) c.unit (trail ++ (GivenRaise g ∷ []))) (sym q)
            (λ a k. locked-again r c.unit g trail (loadless-ends r p.linked.above) a has p.given (ap (λ (f : UnitNo → Phase). f c.unit) k.phase ∙ p.given.running))
