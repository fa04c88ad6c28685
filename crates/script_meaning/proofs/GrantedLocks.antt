-- What a unit was given by a run that asks for what is missing: which grains it then holds, and how.
use Rattle.std.proofs.Common.{◌≡◌, ◌≢◌, ℕ, ◌+◌, ◌≤◌, ◌<◌, List, [], ◌∷◌, ◌++◌, length, map, Bool, true, false, Some, None, refl, sym, ap, ◌∙◌, subst, arith}
use Rattle.std.specs.List.{All, AllPairs, Contains}
use Rattle.std.proofs.Common.{append_assoc, length-append}
use Rattle.std.proofs.lemmas.List.{map-append, append-nil}
use Rattle.std.proofs.lemmas.List.Elements.{All-nil, All-cons, All-push, All-weaker, Contains-append_left, Contains-push}
use Rattle.std.proofs.lemmas.List.Kept.{AllPairs-cons}
use Rattle.base_types.specs.declared.calls.GrainId.{GrainId}
use Rattle.base_types.specs.declared.calls.Mode.TheVariants.{Read, Update}
use Rattle.script_tree.specs.Programs.{ProgramTree}
use Rattle.script_holding.specs.declared.held_grain.Held.{Held}
use Rattle.script_holding.specs.Limits.{unit_limit, grain_limit}
use Rattle.script_holding.specs.Holding.{mode_at, change, raised}
use Rattle.script_meaning.specs.Requests.{Requests, End, AskLock, AskRaise, AskUnit}
use Rattle.script_meaning.specs.Play.{GrainState, AskedUnit, WantLock, WantRaise, WantUnit, grains_with_states}
use Rattle.script_meaning.specs.Trails.{Given, GivenLock, GivenRaise, GivenOutcome, answers_of, asked_of, reads_of, exclusive_in}
use Rattle.script_meaning.specs.Laws.{IsChild}
use Rattle.script_meaning.proofs.Grains.{held_in, mode_at-more, mode_at-added, mode_at-raised, mode_at-raised_other, mode_at-not_raised, mode_at-not_more, grains-raised, length-raised, All-change}
use Rattle.script_meaning.proofs.RunLeads.{Leads}
use Rattle.script_meaning.proofs.RunInvariant.{IsSound}

-- the grains that are held after what was given
abbrev pub held_after : List Held → List Given → List Held
held_after held [] = held
held_after held (GivenLock grain mode state ∷ rest) = held_after (held ++ (held_in grain mode ∷ [])) rest
held_after held (GivenRaise grain ∷ rest) = held_after (change grain raised held) rest
held_after held (GivenOutcome call depth outcome ∷ rest) = held_after held rest

-- the units that were asked for by then
abbrev pub asked_after : ℕ → List Given → ℕ
asked_after asked [] = asked
asked_after asked (GivenLock grain mode state ∷ rest) = asked_after asked rest
asked_after asked (GivenRaise grain ∷ rest) = asked_after asked rest
asked_after asked (GivenOutcome call depth outcome ∷ rest) = asked_after (asked + 1) rest

module _ (types : ProgramTree) (may : Bool) (depth : ℕ) where
  -- each thing was missing, and might be given
  abbrev pub AreGranted : List Held → ℕ → List Given → Type 0
  AreGranted held asked [] = Unit {0}
  AreGranted held asked (GivenLock grain mode state ∷ rest) =
      (may ≡ true) × (mode_at grain held ≡ None) × (length held < grain_limit)
      × AreGranted (held ++ (held_in grain mode ∷ [])) asked rest
  AreGranted held asked (GivenRaise grain ∷ rest) = (may ≡ true) × (mode_at grain held ≡ Some Read)
      × AreGranted (change grain raised held) asked rest
  AreGranted held asked (GivenOutcome call at outcome ∷ rest) = (asked < unit_limit) × IsChild types depth (call, at)
      × AreGranted held (asked + 1) rest

  -- what a sound run is given was missing, and it goes on soundly
  abbrev pub GoesOn : List Held → ℕ → List Given → Requests → Type 0
  GoesOn held asked trail after = AreGranted held asked trail
      × IsSound types may depth (held_after held trail) (asked_after asked trail) after

  -- each thing that leads a sound run on was missing, and the run is sound behind it
  pub sound_leads : (run : Requests) (trail : List Given) (after : Requests) (held : List Held) (asked : ℕ) →
      IsSound types may depth held asked run → Leads run trail after →
      GoesOn held asked trail after
  sound_leads run [] after held asked sound leads =
      (tt, subst (λ (r : Requests). IsSound types may depth held asked r) leads sound)
  sound_leads (End result has) (GivenLock at how state ∷ rest) after held asked sound leads =
      absurd (let e = leads.0 in cc)
  sound_leads (End result has) (GivenRaise at ∷ rest) after held asked sound leads = absurd (let e = leads.0 in cc)
  sound_leads (End result has) (GivenOutcome of at outcome ∷ rest) after held asked sound leads =
      absurd (let e = leads.0 in cc)
  sound_leads (AskLock grain mode go) (GivenLock at how state ∷ rest) after held asked sound leads =
      let e : WantLock grain mode ≡ WantLock at how = leads.0 in
      let same : grain ≡ at = cc in
      let same_mode : mode ≡ how = cc in
      let sound' : IsSound types may depth (held ++ (held_in at how ∷ [])) asked (go state) =
      subst (λ (one : Held). IsSound types may depth (held ++ (one ∷ [])) asked (go state))
      (λ i. held_in (same i) (same_mode i)) (sound.3 state) in
      let later : GoesOn (held ++ (held_in at how ∷ [])) asked rest after =
      sound_leads (go state) rest after _ asked sound' leads.1 in
      ((sound.0.0, subst (λ (g : GrainId). mode_at g held ≡ None) same sound.1, sound.2, later.0), later.1)
  sound_leads (AskLock grain mode go) (GivenRaise at ∷ rest) after held asked sound leads =
      absurd (let e = leads.0 in cc)
  sound_leads (AskLock grain mode go) (GivenOutcome of at outcome ∷ rest) after held asked sound leads =
      absurd (let e = leads.0 in cc)
  sound_leads (AskRaise grain run) (GivenLock at how state ∷ rest) after held asked sound leads =
      absurd (let e = leads.0 in cc)
  sound_leads (AskRaise grain run) (GivenRaise at ∷ rest) after held asked sound leads =
      let e : WantRaise grain ≡ WantRaise at = leads.0 in
      let same : grain ≡ at = cc in
      let sound' : IsSound types may depth (change at raised held) asked run =
      subst (λ (g : GrainId). IsSound types may depth (change g raised held) asked run) same sound.2 in
      let later : GoesOn (change at raised held) asked rest after = sound_leads run rest after _ asked sound' leads.1 in
      ((sound.0.0, subst (λ (g : GrainId). mode_at g held ≡ Some Read) same sound.1, later.0), later.1)
  sound_leads (AskRaise grain run) (GivenOutcome of at outcome ∷ rest) after held asked sound leads =
      absurd (let e = leads.0 in cc)
  sound_leads (AskUnit call depth go) (GivenLock at how state ∷ rest) after held asked sound leads =
      absurd (let e = leads.0 in cc)
  sound_leads (AskUnit call depth go) (GivenRaise at ∷ rest) after held asked sound leads =
      absurd (let e = leads.0 in cc)
  sound_leads (AskUnit call below go) (GivenOutcome of at outcome ∷ rest) after held asked sound leads =
      let e : WantUnit call below ≡ WantUnit of at = leads.0 in
      let same : (call, below) ≡ (of, at) = cc in
      let later : GoesOn held (asked + 1) rest after =
      sound_leads (go outcome) rest after held (asked + 1) (sound.2 outcome) leads.1 in
      ((sound.0, subst (λ (one : AskedUnit). IsChild types depth one) same sound.1, later.0), later.1)

  -- no grain that is read was held before, and each is read once
  reads_are_new : (held : List Held) (asked : ℕ) (trail : List Given) → AreGranted held asked trail →
      All (λ one. mode_at one.0 held ≡ None) (reads_of trail)
  reads_are_new held asked [] granted = All-nil (λ (one : GrainState). mode_at one.0 held ≡ None)
  reads_are_new held asked (GivenLock grain mode state ∷ rest) granted =
      All-cons (λ (one : GrainState). mode_at one.0 held ≡ None) (grain, state) (reads_of rest) granted.1
      (All-weaker (λ (one : GrainState). mode_at one.0 (held ++ (held_in grain mode ∷ [])) ≡ None)
      (λ (one : GrainState). mode_at one.0 held ≡ None)
      (λ one e. mode_at-not_more one.0 held (held_in grain mode ∷ []) e) (reads_of rest)
      (reads_are_new (held ++ (held_in grain mode ∷ [])) asked rest granted.3))
  reads_are_new held asked (GivenRaise grain ∷ rest) granted =
      All-weaker (λ (one : GrainState). mode_at one.0 (change grain raised held) ≡ None)
      (λ (one : GrainState). mode_at one.0 held ≡ None)
      (λ one e. mode_at-not_raised one.0 grain held e) (reads_of rest)
      (reads_are_new (change grain raised held) asked rest granted.2)
  reads_are_new held asked (GivenOutcome call at outcome ∷ rest) granted = reads_are_new held (asked + 1) rest granted.2

  -- no two reads are of one grain
  pub reads_once : (held : List Held) (asked : ℕ) (trail : List Given) → AreGranted held asked trail →
      AllPairs (λ one other. one.0 ≢ other.0) (reads_of trail)
  reads_once held asked [] granted = λ i j d below within. absurd (omega (arith, within))
  reads_once held asked (GivenLock grain mode state ∷ rest) granted =
      let R : GrainState → GrainState → Type 0 = λ one other. one.0 ≢ other.0 in
      let after : List Held = held ++ (held_in grain mode ∷ []) in
      let at : mode_at grain after ≡ Some mode = mode_at-added (held_in grain mode) held granted.1 in
      AllPairs-cons R (grain, state) (reads_of rest)
      (All-weaker (λ (one : GrainState). mode_at one.0 after ≡ None) (λ (one : GrainState). grain ≢ one.0)
      (λ one e same. let f : mode_at grain after ≡ None = ap (λ (g : GrainId). mode_at g after) same ∙ e in cc)
      (reads_of rest) (reads_are_new after asked rest granted.3))
      (reads_once after asked rest granted.3)
  reads_once held asked (GivenRaise grain ∷ rest) granted = reads_once (change grain raised held) asked rest granted.2
  reads_once held asked (GivenOutcome call at outcome ∷ rest) granted = reads_once held (asked + 1) rest granted.2

  -- the grains that are held then are those held before and those that were read
  pub grains_after : (held : List Held) (asked : ℕ) (trail : List Given) → AreGranted held asked trail →
      map (λ one. one.grain) (held_after held trail) ≡ map (λ one. one.grain) held ++ grains_with_states (reads_of trail)
  grains_after held asked [] granted = sym (append-nil (map (λ (one : Held). one.grain) held))
  grains_after held asked (GivenLock grain mode state ∷ rest) granted =
      grains_after (held ++ (held_in grain mode ∷ [])) asked rest granted.3
      ∙ ap (λ (l : List GrainId). l ++ grains_with_states (reads_of rest))
      (map-append (λ (one : Held). one.grain) held (held_in grain mode ∷ []))
      ∙ append_assoc (map (λ (one : Held). one.grain) held) (grain ∷ []) (grains_with_states (reads_of rest))
  grains_after held asked (GivenRaise grain ∷ rest) granted =
      grains_after (change grain raised held) asked rest granted.2
      ∙ ap (λ (l : List GrainId). l ++ grains_with_states (reads_of rest)) (grains-raised grain held)
  grains_after held asked (GivenOutcome call at outcome ∷ rest) granted = grains_after held (asked + 1) rest granted.2

  -- at most so many grains are held, and at most so many units asked for
  pub few_held : (held : List Held) (asked : ℕ) (trail : List Given) → AreGranted held asked trail →
      length held ≤ grain_limit → length (held_after held trail) ≤ grain_limit
  few_held held asked [] granted few = few
  few_held held asked (GivenLock grain mode state ∷ rest) granted few =
      few_held (held ++ (held_in grain mode ∷ [])) asked rest granted.3
      (let e = length-append held (held_in grain mode ∷ []) in omega (arith, e, granted.2))
  few_held held asked (GivenRaise grain ∷ rest) granted few =
      few_held (change grain raised held) asked rest granted.2
      (subst (λ (n : ℕ). n ≤ grain_limit) (sym (length-raised grain held)) few)
  few_held held asked (GivenOutcome call at outcome ∷ rest) granted few = few_held held (asked + 1) rest granted.2 few

  -- at most so many units are asked for
  pub few_asked : (held : List Held) (asked : ℕ) (trail : List Given) → AreGranted held asked trail →
      asked ≤ unit_limit → asked + length (asked_of trail) ≤ unit_limit
  few_asked held asked [] granted few = omega (arith, few)
  few_asked held asked (GivenLock grain mode state ∷ rest) granted few =
      few_asked (held ++ (held_in grain mode ∷ [])) asked rest granted.3 few
  few_asked held asked (GivenRaise grain ∷ rest) granted few =
      few_asked (change grain raised held) asked rest granted.2 few
  few_asked held asked (GivenOutcome call at outcome ∷ rest) granted few =
      let h : (asked + 1) + length (asked_of rest) ≤ unit_limit =
      few_asked held (asked + 1) rest granted.2 (omega (arith, granted.0)) in omega (arith, h)

  -- each unit that was asked for is a child that may be
  pub all_children : (held : List Held) (asked : ℕ) (trail : List Given) → AreGranted held asked trail →
      All (IsChild types depth) (asked_of trail)
  all_children held asked [] granted = All-nil (IsChild types depth)
  all_children held asked (GivenLock grain mode state ∷ rest) granted =
      all_children (held ++ (held_in grain mode ∷ [])) asked rest granted.3
  all_children held asked (GivenRaise grain ∷ rest) granted =
      all_children (change grain raised held) asked rest granted.2
  all_children held asked (GivenOutcome call at outcome ∷ rest) granted =
      All-cons (IsChild types depth) (call, at) (asked_of rest) granted.1 (all_children held (asked + 1) rest granted.2)

  -- a grain that is held exclusive stays so
  stays_exclusive : (grain : GrainId) (held : List Held) (trail : List Given) → mode_at grain held ≡ Some Update →
      mode_at grain (held_after held trail) ≡ Some Update
  stays_exclusive grain held [] e = e
  stays_exclusive grain held (GivenLock at mode state ∷ rest) e =
      stays_exclusive grain (held ++ (held_in at mode ∷ [])) rest
      (mode_at-more grain held (held_in at mode ∷ []) Update e)
  stays_exclusive grain held (GivenRaise at ∷ rest) e =
      stays_exclusive grain (change at raised held) rest (mode_at-raised_other grain at held e)
  stays_exclusive grain held (GivenOutcome call at outcome ∷ rest) e = stays_exclusive grain held rest e

  -- what was locked exclusive is held exclusive
  pub exclusive_is_held : (held : List Held) (asked : ℕ) (trail : List Given) → AreGranted held asked trail →
      All (λ grain. mode_at grain (held_after held trail) ≡ Some Update) (exclusive_in trail)
  exclusive_is_held held asked [] granted = All-nil (λ (grain : GrainId). mode_at grain held ≡ Some Update)
  exclusive_is_held held asked (GivenLock grain Read state ∷ rest) granted =
      exclusive_is_held (held ++ (held_in grain Read ∷ [])) asked rest granted.3
  exclusive_is_held held asked (GivenLock grain Update state ∷ rest) granted =
      let after : List Held = held ++ (held_in grain Update ∷ []) in
      All-cons (λ (g : GrainId). mode_at g (held_after after rest) ≡ Some Update) grain (exclusive_in rest)
      (stays_exclusive grain after rest (mode_at-added (held_in grain Update) held granted.1))
      (exclusive_is_held after asked rest granted.3)
  exclusive_is_held held asked (GivenRaise grain ∷ rest) granted =
      let after : List Held = change grain raised held in
      All-cons (λ (g : GrainId). mode_at g (held_after after rest) ≡ Some Update) grain (exclusive_in rest)
      (stays_exclusive grain after rest (mode_at-raised grain held Read granted.1))
      (exclusive_is_held after asked rest granted.2)
  exclusive_is_held held asked (GivenOutcome call at outcome ∷ rest) granted =
      exclusive_is_held held (asked + 1) rest granted.2

  -- what is held exclusive was locked so
  abbrev pub IsIn : List GrainId → Held → Type 0
  IsIn locked one = one.mode ≡ Update → Contains locked one.grain

  -- a grain that is held exclusive was held so before or was locked so
  pub held_is_exclusive : (locked : List GrainId) (held : List Held) (trail : List Given) → All (IsIn locked) held →
      All (IsIn (locked ++ exclusive_in trail)) (held_after held trail)
  held_is_exclusive locked held [] all = subst (λ (l : List GrainId). All (IsIn l) held) (sym (append-nil locked)) all
  held_is_exclusive locked held (GivenLock grain Read state ∷ rest) all =
      held_is_exclusive locked (held ++ (held_in grain Read ∷ [])) rest
      (All-push (IsIn locked) held (held_in grain Read) all (λ e. absurd (cc)))
  held_is_exclusive locked held (GivenLock grain Update state ∷ rest) all =
      let more : List GrainId = locked ++ (grain ∷ []) in
      let wider : All (IsIn more) held =
      All-weaker (IsIn locked) (IsIn more)
      (λ one is e. Contains-append_left locked (grain ∷ []) one.grain (is e)) held all in
      subst (λ (l : List GrainId). All (IsIn l) (held_after (held ++ (held_in grain Update ∷ [])) rest))
      (append_assoc locked (grain ∷ []) (exclusive_in rest))
      (held_is_exclusive more (held ++ (held_in grain Update ∷ [])) rest
      (All-push (IsIn more) held (held_in grain Update) wider (λ e. Contains-push locked grain)))
  held_is_exclusive locked held (GivenRaise grain ∷ rest) all =
      let more : List GrainId = locked ++ (grain ∷ []) in
      let wider : All (IsIn more) held =
      All-weaker (IsIn locked) (IsIn more)
      (λ one is e. Contains-append_left locked (grain ∷ []) one.grain (is e)) held all in
      subst (λ (l : List GrainId). All (IsIn l) (held_after (change grain raised held) rest))
      (append_assoc locked (grain ∷ []) (exclusive_in rest))
      (held_is_exclusive more (change grain raised held) rest
      (All-change (IsIn more) grain raised held wider
      (λ one same at is e. subst (λ (g : GrainId). Contains more g) (sym same) (Contains-push locked grain))))
  held_is_exclusive locked held (GivenOutcome call at outcome ∷ rest) all = held_is_exclusive locked held rest all

  -- where no lock may be asked for, none was given
  pub plain_locks_nothing : may ≡ false → (held : List Held) (asked : ℕ) (trail : List Given) →
      AreGranted held asked trail → (reads_of trail ≡ []) × (held_after held trail ≡ held)
  plain_locks_nothing plain held asked [] granted = (refl, refl)
  plain_locks_nothing plain held asked (GivenLock grain mode state ∷ rest) granted =
      absurd (let e : may ≡ true = granted.0 in cc)
  plain_locks_nothing plain held asked (GivenRaise grain ∷ rest) granted = absurd (let e : may ≡ true = granted.0 in cc)
  plain_locks_nothing plain held asked (GivenOutcome call at outcome ∷ rest) granted =
      plain_locks_nothing plain held (asked + 1) rest granted.2

-- the units that were asked for by then are those before and those that were answered
pub asked_after_is : (asked : ℕ) (trail : List Given) → asked_after asked trail ≡ asked + length (answers_of trail)
asked_after_is asked [] = omega arith
asked_after_is asked (GivenLock grain mode state ∷ rest) = asked_after_is asked rest
asked_after_is asked (GivenRaise grain ∷ rest) = asked_after_is asked rest
asked_after_is asked (GivenOutcome call depth outcome ∷ rest) = let e = asked_after_is (asked + 1) rest in
    omega (arith, e)
