-- What a running unit read is gone from its stack exactly where the history says so.
use Rattle.std.proofs.Common.{◌≡◌, ℕ, List, [], ◌∷◌, ◌++◌, Bool, true, false, ◌⊎◌, inl, inr, refl, sym, ap, ◌∙◌, subst, Option, Some, None, le_refl, arith, append_assoc}
use Rattle.std.specs.Prelude.{◌↔◌}
use Rattle.std.specs.List.{list_any as any, fold}
use Rattle.std.proofs.lemmas.Bool.{cases_Bool, cases_lt, cond_both, not-true, not_from_false}
use Rattle.std.proofs.lemmas.List.Sums.{fold-append}
use Rattle.cell_model.specs.Locks.{is_hold_of, holds_lock}
use Rattle.cell_model.specs.Stacks.{is_of, pushed}
use Rattle.cell_model.specs.Cells.{stacked, reads_top, learnt}
use Rattle.cell_model.proofs.Units.{same_unit-true, same_unit-false, same_unit-not, any-true, any-false, Member-append}
use Rattle.cell_model.proofs.Stacks.{committed-top, cut-none, cut-stranger}
use Rattle.core_model.specs.declared.events.CoreEvent.{CoreEvent}
use Rattle.core_model.specs.declared.events.CoreEvent.TheVariants.{Grant, Learn}
use Rattle.core_model.specs.declared.effects.Read.{Read}
use Rattle.core_model.specs.declared.phases.Phase.{Phase}
use Rattle.core_model.specs.declared.phases.Phase.TheVariants.{Running, Finished, Refused, Ended}
use Rattle.core_model.specs.declared.phases.Verdict.TheVariants.{Open, Committed, Aborted}
use Rattle.core_model.specs.CoreState.{UnitNo, GrainId, Mode, Value, Version, CoreState, Member, nobody, top, cut, put}
use Rattle.core_model.specs.Tests.{is_aborted, is_committed, is_final, is_gone, state_written}
use Rattle.core_model.specs.Chains.{Chain, IsBottom, IsLink}
use Rattle.core_model.specs.SerialOrder.{IsTrueLoad}
use Rattle.core_model.specs.Changes.{new_unit, restacked, cleaned, after_lock, after_release, loaded, read_of}
use Rattle.core_laws.proofs.EventCases.{Change, begin, lock, raise, refuse, finish, end_plain, end_snapshot, release, learn, load}
use Rattle.core_laws.proofs.Puts.{put-from, grain-at, grain-from}
use Rattle.core_laws.proofs.Basics.{is_aborted-true, is_final-cases}
use Rattle.core_laws.proofs.Invariant.{Inv, wrote-finished}
use Rattle.core_laws.proofs.ReleasedGrains.{cut-member, learnt-member}
use Rattle.core_laws.proofs.GoneVersions.{Absent}
use Rattle.core_history.specs.Histories.{Applied}
use Rattle.core_history.specs.Units.{shown, with_read, reads_in}
use Rattle.core_history.specs.GoneVersions.{IsDecidedDead, TakesOff, StandsOn, itself, above, IsGone}
use Rattle.core_history.proofs.Words.{more}
use Rattle.core_history.proofs.RunHistory.{answered}
use Rattle.core_history.proofs.AnyEvents.{Tells}
use Rattle.core_history.proofs.Cores.{Core}
use Rattle.core_history.proofs.Fates.{Step, FatesOf, read-stays}
use Rattle.core_history.proofs.Dependencies.{split-last}
use Rattle.core_history.proofs.DeadUnits.{Endings, decided-dead-in, decided-dead-by}

-- the versions of a grain stand on one another
abbrev Stack : (GrainId → List Value) → CoreState → GrainId → List Version → Type 0
Stack opening w g xs = Chain (IsBottom opening w.units.phase w.manager.writes w.manager.verdict g) (IsLink w.units.phase w.manager.writes w.units.reads g) xs

-- each version of a stack is the lowest, or stands on another one of it
next-version : (opening : GrainId → List Value) (w : CoreState) (g : GrainId) (xs : List Version) (x : Version) → Stack opening w g xs → Member x xs →
    IsBottom opening w.units.phase w.manager.writes w.manager.verdict g x ⊎ ((y : Version) × Member y xs × IsLink w.units.phase w.manager.writes w.units.reads g x y)
next-version opening w g [] x c m = absurd m
next-version opening w g (y ∷ []) x c (inl q) = inl (subst (IsBottom opening w.units.phase w.manager.writes w.manager.verdict g) (sym q) c)
next-version opening w g (y ∷ []) x c (inr m) = absurd m
next-version opening w g (y ∷ z ∷ zs) x c (inl q) = inr (z, inr (inl refl), subst (λ t. IsLink w.units.phase w.manager.writes w.units.reads g t z) (sym q) c.0)
next-version opening w g (y ∷ z ∷ zs) x c (inr m) = elim (next-version opening w g (z ∷ zs) x c.1 m) [
  | inl b ↦ inl b
  | inr t ↦ inr (t.0, inr t.1, t.2)
]

-- the top of a stack stands on each of its versions
top-stands : (opening : GrainId → List Value) (h : List Applied) (w : CoreState) (g : GrainId) → Tells h w → (xs : List Version) → Stack opening w g xs → (x : Version) → Member x xs → StandsOn h g (top xs).unit x.unit
top-stands opening h w g t [] c x m = absurd m
top-stands opening h w g t (y ∷ []) c x (inl q) = itself (ap (λ (z : Version). z.unit) (sym q))
top-stands opening h w g t (y ∷ []) c x (inr m) = absurd m
top-stands opening h w g t (y ∷ z ∷ zs) c x (inl q) = itself (ap (λ (k : Version). k.unit) (sym q))
top-stands opening h w g t (y ∷ z ∷ zs) c x (inr m) =
    let r = c.0.1.0 in
    above r (subst (Member r) (t.reads y.unit) c.0.1.1) c.0.1.2 (subst (λ s. StandsOn h g s x.unit) (sym c.0.1.3) (top-stands opening h w g t (z ∷ zs) c.1 x m))

-- what was read stays read
reads-later : (u : UnitNo) (front back : List Applied) (r : Read) → Member r (reads_in u front) → Member r (reads_in u (front ++ back))
reads-later u front back r m = subst (Member r) (sym (fold-append (λ (reads : List Read) (x : Applied). with_read reads (shown u x.event x.reply)) [] front back)) (go back (reads_in u front) m)
  where
    go : (b : List Applied) (reads : List Read) → Member r reads → Member r (fold (λ (reads : List Read) (x : Applied). with_read reads (shown u x.event x.reply)) reads b)
    go [] reads m = m
    go (a ∷ b) reads m = go b (with_read reads (shown u a.event a.reply)) (read-stays reads (shown u a.event a.reply) r m)

-- what stands under a committed version is committed, or nobody's
below-committed : (opening : GrainId → List Value) (n : ℕ) (w : CoreState) → Inv opening n w → (f : List Applied) (g : GrainId) → ((u : UnitNo) (r : Read) → Member r (reads_in u f) → Member r (w.units.reads u)) → (s v : UnitNo) → StandsOn f g s v →
    (s ≡ nobody) ⊎ (w.manager.verdict s ≡ Committed) → (v ≡ nobody) ⊎ (w.manager.verdict v ≡ Committed)
below-committed opening n w i f g reads s v (itself p) (inl q) = inl (sym p ∙ q)
below-committed opening n w i f g reads s v (itself p) (inr q) = inr (ap w.manager.verdict (sym p) ∙ q)
below-committed opening n w i f g reads s v (above r m e st) (inl q) = absurd (subst (Member r) (i.blank nobody i.outside) (subst (λ z. Member r (w.units.reads z)) q (reads s r m)))
below-committed opening n w i f g reads s v (above r m e st) (inr q) = below-committed opening n w i f g reads r.source v st (i.sure s r q (reads s r m))

-- who is aborted is neither
not-settled : (opening : GrainId → List Value) (n : ℕ) (w : CoreState) → Inv opening n w → (v : UnitNo) → w.manager.verdict v ≡ Aborted → (v ≡ nobody) ⊎ (w.manager.verdict v ≡ Committed) → ⊥
not-settled opening n w i v a (inl q) = (let z : Open ≡ Aborted = sym (ap w.manager.verdict q ∙ i.undecided nobody (inl i.outside)) ∙ a in cc)
not-settled opening n w i v a (inr q) = (let z : Committed ≡ Aborted = sym q ∙ a in cc)

-- a version of a stack that stands on an aborted unit's has that one under it in the stack
stands-there : (opening : GrainId → List Value) (w : CoreState) → Core opening w → (f : List Applied) (g : GrainId) → ((u : UnitNo) (r : Read) → Member r (reads_in u f) → Member r (w.units.reads u)) → (s v : UnitNo) → StandsOn f g s v → w.manager.verdict v ≡ Aborted →
    (x : Version) → Member x (w.cells.stack g) → x.unit ≡ s → (y : Version) × Member y (w.cells.stack g) × (y.unit ≡ v)
stands-there opening w c f g reads s v (itself p) a x m q = (x, m, q ∙ p)
stands-there opening w c f g reads s v (above r m' e st) a x m q = elim (next-version opening w g (w.cells.stack g) x (c.kept.0.chain g) m) [
  | inl b ↦ absurd (not-settled opening _ w c.kept.0 v a (below-committed opening _ w c.kept.0 f g reads s v (above r m' e st) (elim b [
    | inl o ↦ inl (sym q ∙ o.0)
    | inr o ↦ inr (ap w.manager.verdict (sym q) ∙ o.0)
  ])))
  | inr t ↦ (let l = t.2.1 in
      let same : r ≡ l.0 = c.tidy.2 s r l.0 (reads s r m') (subst (λ z. Member l.0 (w.units.reads z)) q l.1) (e ∙ sym l.2) in
      stands-there opening w c f g reads r.source v st a t.0 t.1 (sym l.3 ∙ ap (λ (z : Read). z.source) (sym same)))
]

-- an event took the unit's version off the grain's stack, if it was there
pub record IsTakenOff (h : List Applied) (v : UnitNo) (g : GrainId) : Type 0 where
  pub front : List Applied
  pub at : Applied
  pub back : List Applied
  pub split : h ≡ front ++ (at ∷ back)
  pub takes : TakesOff at.event v g
  pub dead : IsDecidedDead front v

-- it is aborted, and isn't there any more
abbrev pub OffOf : List Applied → CoreState → Type 0
OffOf h w = (v : UnitNo) (g : GrainId) → IsTakenOff h v g → (w.manager.verdict v ≡ Aborted) × Absent v (w.cells.stack g)

-- who is aborted after its finish holds nothing
holds-nothing : (opening : GrainId → List Value) (w : CoreState) → Core opening w → (v : UnitNo) (g : GrainId) → w.units.phase v ≡ Finished → w.manager.verdict v ≡ Aborted → holds_lock v (w.cells.holds g) ≡ true → ⊥
holds-nothing opening w c v g fin a held = elim (cases_lt w.manager.closed (w.manager.place v)) [
  | inl lt ↦ (let z : false ≡ true = sym (c.batched.1 v fin lt) ∙ ap is_final a in cc)
  | inr le ↦ (let t = any-true (is_hold_of v) (w.cells.holds g) held in c.unheld v fin (omega (arith, le)) g t.0 t.1 (same_unit-true _ _ t.2))
]

-- no version comes back
absent-stays : (opening : GrainId → List Value) (h : List Applied) (w : CoreState) (e : CoreEvent) (w' : CoreState) → Change w e w' → Step opening h w e w' → IsTrueLoad opening w e → (v : UnitNo) (g : GrainId) → w.manager.verdict v ≡ Aborted → Absent v (w.cells.stack g) → Absent v (w'.cells.stack g)
absent-stays opening h w e w' (lock u k mode running free first here) s l v g a b x =
    grain-from w.cells.stack k (cleaned w k) (Member x) (x.unit ≡ v → ⊥) g
    (λ z m. b x (subst (λ j. Member x (w.cells.stack j)) (sym z) (cut-member (λ y. is_aborted (w.manager.verdict y.unit)) (w.cells.stack k) x m)))
    (λ z m. b x m)
absent-stays opening h w e w' (raise u k mode running free held here uncovered) s l v g a b x =
    grain-from w.cells.stack k (cleaned w k) (Member x) (x.unit ≡ v → ⊥) g
    (λ z m. b x (subst (λ j. Member x (w.cells.stack j)) (sym z) (cut-member (λ y. is_aborted (w.manager.verdict y.unit)) (w.cells.stack k) x m)))
    (λ z m. b x m)
absent-stays opening h w e w' (release u k over held) s l v g a b x =
    grain-from w.cells.stack k (stacked (w.cells.readings k) (w.cells.stack k) u (state_written k (w.manager.writes u))) (Member x) (x.unit ≡ v → ⊥) g
    (λ z m. go (λ y. b x (subst (λ j. Member x (w.cells.stack j)) (sym z) y)) (state_written k (w.manager.writes u)) refl m)
    (λ z m. b x m)
  where
    go : (Member x (w.cells.stack k) → x.unit ≡ v → ⊥) → (o : Option (List Value)) → state_written k (w.manager.writes u) ≡ o → Member x (stacked (w.cells.readings k) (w.cells.stack k) u o) → x.unit ≡ v → ⊥
    go old None q m = old m
    go old (Some val) q m = cond_both (reads_top (w.cells.readings k) (w.cells.stack k) u) (pushed (w.cells.stack k) u val) (w.cells.stack k) (λ t. Member x t → x.unit ≡ v → ⊥)
        (λ y m'. elim m' [
          | inl p ↦ (λ p'. (let is : v ≡ u = sym p' ∙ ap (λ (z : Version). z.unit) p in
              let fin : w.units.phase u ≡ Finished = wrote-finished opening _ w s.core.kept.0 u k val q in
              holds-nothing opening w s.core u k fin (ap w.manager.verdict (sym is) ∙ a) held))
          | inr p ↦ old p
        ])
        (λ y m'. old m') m
absent-stays opening h w e w' (learn u k wrote final fresh) s l v g a b x =
    grain-from w.cells.stack k (learnt (is_committed (w.manager.verdict u)) u (w.cells.stack k)) (Member x) (x.unit ≡ v → ⊥) g
    (λ z m. b x (subst (λ j. Member x (w.cells.stack j)) (sym z) (learnt-member (is_committed (w.manager.verdict u)) u (w.cells.stack k) x m)))
    (λ z m. b x m)
absent-stays opening h w e w' (load k u state gone wanted) s l v g a b x =
    grain-from w.cells.stack k (record { unit = u; state = state } ∷ []) (Member x) (x.unit ≡ v → ⊥) g
    (λ z m. elim m [
      | inl p ↦ (λ p'. (let is : v ≡ u = sym p' ∙ ap (λ (y : Version). y.unit) p in
          not-settled opening _ w s.core.kept.0 v a (elim (l s.applied) [ inl o ↦ inl (is ∙ o.0) | inr o ↦ inr (ap w.manager.verdict is ∙ o.commits) ])))
      | inr p ↦ absurd p
    ])
    (λ z m. b x m)
absent-stays opening h w e w' c s l v g a b x = b x

-- an event that takes it off leaves none
absent-now : (w : CoreState) (e : CoreEvent) (w' : CoreState) → Change w e w' → (v : UnitNo) (g : GrainId) → w.manager.verdict v ≡ Aborted → TakesOff e v g → Absent v (w'.cells.stack g)
absent-now w e w' (lock u k mode running free first here) v g a t x =
    grain-from w.cells.stack k (cleaned w k) (Member x) (x.unit ≡ v → ⊥) g
    (λ z m q. (let y = any-false (λ (y : Version). is_aborted (w.manager.verdict y.unit)) (cleaned w k) (cut-none (λ y. is_aborted (w.manager.verdict y.unit)) (w.cells.stack k)) x m in
    let o : true ≡ false = sym (ap is_aborted (ap w.manager.verdict q ∙ a)) ∙ y in cc))
    (λ z m. absurd (z (sym t)))
absent-now w e w' (raise u k mode running free held here uncovered) v g a t x =
    grain-from w.cells.stack k (cleaned w k) (Member x) (x.unit ≡ v → ⊥) g
    (λ z m q. (let y = any-false (λ (y : Version). is_aborted (w.manager.verdict y.unit)) (cleaned w k) (cut-none (λ y. is_aborted (w.manager.verdict y.unit)) (w.cells.stack k)) x m in
    let o : true ≡ false = sym (ap is_aborted (ap w.manager.verdict q ∙ a)) ∙ y in cc))
    (λ z m. absurd (z (sym t)))
absent-now w e w' (learn u k wrote final fresh) v g a t x =
    grain-from w.cells.stack k (learnt (is_committed (w.manager.verdict u)) u (w.cells.stack k)) (Member x) (x.unit ≡ v → ⊥) g
    (λ z m q. (let no : is_committed (w.manager.verdict u) ≡ false = ap is_committed (ap w.manager.verdict t.0 ∙ a) in
    let m' : Member x (cut (is_of u) (w.cells.stack k)) = subst (λ b. Member x (learnt b u (w.cells.stack k))) no m in
    let y = any-false (is_of u) (cut (is_of u) (w.cells.stack k)) (cut-none (is_of u) (w.cells.stack k)) x m' in
    same_unit-false x.unit u y (q ∙ sym t.0)))
    (λ z m. absurd (z (sym t.1)))
absent-now w e w' c v g a t x = absurd t

-- the same after an event
pub off-after : (opening : GrainId → List Value) (h : List Applied) (w : CoreState) (e : CoreEvent) (w' : CoreState) → Change w e w' → Step opening h w e w' → Endings h w → IsTrueLoad opening w e → OffOf h w → OffOf (more h (answered w e)) w'
off-after opening h w e w' c s ends l k v g t = elim (split-last t.front t.back h t.at (answered w e) (sym t.split)) [
  | inl n ↦ (let a = decided-dead-by opening h w s.core s.told s.fates ends v (subst (λ f. IsDecidedDead f v) n.0 t.dead) in
      (s.grows.1 v (ap is_final a) ∙ a, absent-now w e w' c v g a (subst (λ (z : Applied). TakesOff z.event v g) n.1 t.takes)))
  | inr o ↦ (let p = k v g (record { front = t.front; at = t.at; back = o.0; split = o.1; takes = t.takes; dead = t.dead }) in
      (s.grows.1 v (ap is_final p.0) ∙ p.0, absent-stays opening h w e w' c s l v g p.0 p.1))
]

-- what a running unit read is on top, or this holds of it
abbrev pub Viewed : (Read → Type 0) → CoreState → Type 0
Viewed G w = (u : UnitNo) (r : Read) → w.units.phase u ≡ Running → Member r (w.units.reads u) → (r.source ≡ (top (w.cells.stack r.grain)).unit) ⊎ G r

-- what a running unit read is on top, or is gone by the history
abbrev pub GoneOf : List Applied → CoreState → Type 0
GoneOf h w = Viewed (IsGone h) w

-- what is gone stays gone
gone-more : (h : List Applied) (a : Applied) (r : Read) → IsGone h r → IsGone (more h a) r
gone-more h a r x = record {
  front = x.front;
  at = x.at;
  back = x.back ++ a ∷ [];
  split = ap (λ t. t ++ a ∷ []) x.split ∙ append_assoc x.front (x.at ∷ x.back) (a ∷ []);
  off = x.off;
  takes = x.takes;
  dead = x.dead;
  stands = x.stands;
}

-- what a cut takes off is gone
cut-gone : (opening : GrainId → List Value) (h : List Applied) (w : CoreState) (a : Applied) → Core opening w → Tells h w → (g : GrainId) (p : Version → Bool) →
    ((x : Version) → Member x (w.cells.stack g) → p x ≡ true → TakesOff a.event x.unit g × IsDecidedDead h x.unit) →
    (r : Read) → r.grain ≡ g → r.source ≡ (top (w.cells.stack g)).unit → (r.source ≡ (top (cut p (w.cells.stack g))).unit) ⊎ IsGone (more h a) r
cut-gone opening h w a c t g p takes r e q = elim (cases_Bool (any p (w.cells.stack g))) [
  | inl y ↦ (let x = any-true p (w.cells.stack g) y in
      let k = takes x.0 x.1 x.2 in
      inr (record {
        front = h;
        at = a;
        back = [];
        split = refl;
        off = x.0.unit;
        takes = subst (TakesOff a.event x.0.unit) (sym e) k.0;
        dead = k.1;
        stands = subst (λ z. StandsOn h z r.source x.0.unit) (sym e) (subst (λ z. StandsOn h g z x.0.unit) (sym q) (top-stands opening h w g t (w.cells.stack g) (c.kept.0.chain g) x.0 x.1));
      }))
  | inr n ↦ inl (q ∙ ap (λ z. (top z).unit) (sym (cut-stranger p (w.cells.stack g) n)))
]

-- an aborted version's writer is decided dead
version-dead : (opening : GrainId → List Value) (h : List Applied) (w : CoreState) → Core opening w → FatesOf h w → Endings h w → (g : GrainId) (x : Version) → Member x (w.cells.stack g) → w.manager.verdict x.unit ≡ Aborted → IsDecidedDead h x.unit
version-dead opening h w c f k g x m a = elim (next-version opening w g (w.cells.stack g) x (c.kept.0.chain g) m) [
  | inl b ↦ absurd (not-settled opening _ w c.kept.0 x.unit a (elim b [ inl o ↦ inl o.0 | inr o ↦ inr o.0 ]))
  | inr l ↦ decided-dead-in h w f k x.unit l.2.0.0 a
]

-- where one stack changes
viewed-restacked : (G : Read → Type 0) (w : CoreState) (g : GrainId) (xs : List Version) → ((r : Read) → r.grain ≡ g → r.source ≡ (top (w.cells.stack g)).unit → (r.source ≡ (top xs).unit) ⊎ G r) → Viewed G w → Viewed G (restacked w g xs)
viewed-restacked G w g xs tops k u r p m = grain-at w.cells.stack g xs (λ t. (r.source ≡ (top t).unit) ⊎ G r) r.grain
    (λ e. elim (k u r p m) [
      | inl a ↦ tops r e (a ∙ ap (λ j. (top (w.cells.stack j)).unit) e)
      | inr a ↦ inr a
    ])
    (λ e. k u r p m)

-- where a unit reads the top
viewed-locked : (G : Read → Type 0) (w : CoreState) (u : UnitNo) (g : GrainId) (mode : Mode) → Viewed G w → Viewed G (after_lock w u g mode)
viewed-locked G w u g mode k x r p = put-from w.units.reads u (w.units.reads u ++ read_of g (top (w.cells.stack g)) ∷ []) (Member r) ((r.source ≡ (top (w.cells.stack r.grain)).unit) ⊎ G r) x
    (λ e m. elim (Member-append r (w.units.reads u) (read_of g (top (w.cells.stack g)) ∷ []) m) [
      | inl o ↦ k x r p (subst (λ z. Member r (w.units.reads z)) (sym e) o)
      | inr o ↦ elim o [ inl q ↦ inl (ap (λ (z : Read). z.source) q ∙ ap (λ (z : Read). (top (w.cells.stack z.grain)).unit) (sym q)) | inr q ↦ absurd q ]
    ])
    (λ e m. k x r p m)

-- while another unit holds the grain, a release pushes nothing
viewed-released : (opening : GrainId → List Value) (G : Read → Type 0) (n : ℕ) (w : CoreState) → Inv opening n w → (u : UnitNo) (g : GrainId) → holds_lock u (w.cells.holds g) ≡ true → Viewed G w → Viewed G (after_release w u g)
viewed-released opening G n w i u g held k x r p m = grain-at w.cells.stack g stack_g (λ t. (r.source ≡ (top t).unit) ⊎ G r) r.grain
    (λ e. subst (λ t. (r.source ≡ (top t).unit) ⊎ G r) (ap w.cells.stack e ∙ sym (same e)) (k x r p m))
    (λ e. k x r p m)
  where
    stack_g : List Version
    stack_g = stacked (w.cells.readings g) (w.cells.stack g) u (state_written g (w.manager.writes u))

    same : r.grain ≡ g → stack_g ≡ w.cells.stack g
    same e = go (state_written g (w.manager.writes u)) refl
      where
        go : (o : Option (List Value)) → state_written g (w.manager.writes u) ≡ o → stacked (w.cells.readings g) (w.cells.stack g) u o ≡ w.cells.stack g
        go None q = refl
        go (Some v) q =
            let own = any-true (is_hold_of u) (w.cells.holds g) held in
            let done = wrote-finished opening n w i u g v q in
            let alone = i.strong u g own.0 done (v, q) own.1 (same_unit-true _ _ own.2) in
            let h = i.keeps x r p m in
            let z : h.0.unit ≡ alone.0.unit = i.alone g alone.0 h.0 alone.1 (subst (λ j. Member h.0 (w.cells.holds j)) e h.1) alone.3 in
            let t : Finished ≡ Running = sym done ∙ ap w.units.phase (sym alone.2 ∙ sym z ∙ h.2) ∙ p in cc

viewed-loaded : (opening : GrainId → List Value) (G : Read → Type 0) (n : ℕ) (w : CoreState) → Inv opening n w → (g : GrainId) (u : UnitNo) (state : List Value) → w.cells.here g ≡ false → Viewed G w → Viewed G (loaded w g u state)
viewed-loaded opening G n w i g u state away k x r p m = grain-at w.cells.stack g (record { unit = u; state = state } ∷ []) (λ t. (r.source ≡ (top t).unit) ⊎ G r) r.grain
    (λ e. (let h = i.keeps x r p m in absurd (subst (Member h.0) (ap w.cells.holds e ∙ (i.away g away).0) h.1)))
    (λ e. k x r p m)

-- a unit that begins has no reads, and one that ends doesn't run
viewed-phase : (G : Read → Type 0) (w : CoreState) (u : UnitNo) (end : Phase) → ((r : Read) → end ≡ Running → Member r (w.units.reads u) → ⊥) → Viewed G w → Viewed G (record w { units = record w.units { phase = put w.units.phase u end } })
viewed-phase G w u end none k x r = put-from w.units.phase u end (λ z. z ≡ Running) (Member r (w.units.reads x) → (r.source ≡ (top (w.cells.stack r.grain)).unit) ⊎ G r) x
    (λ q h m. absurd (none r h (subst (λ z. Member r (w.units.reads z)) q m)))
    (λ q h m. k x r h m)

-- a grain that learns of a unit
viewed-learnt : (opening : GrainId → List Value) (h : List Applied) (w : CoreState) (u : UnitNo) (g : GrainId) → Core opening w → Tells h w → FatesOf h w → Endings h w → is_final (w.manager.verdict u) ≡ true →
    Viewed (IsGone (more h (answered w (Learn u g)))) w → Viewed (IsGone (more h (answered w (Learn u g)))) (restacked w g (learnt (is_committed (w.manager.verdict u)) u (w.cells.stack g)))
viewed-learnt opening h w u g c t f ends final k = elim (is_final-cases (w.manager.verdict u) final) [
  | inl v ↦ viewed-restacked (IsGone (more h (answered w (Learn u g)))) w g (learnt (is_committed (w.manager.verdict u)) u (w.cells.stack g)) (λ r e q. inl (q ∙ subst (λ b. (top (w.cells.stack g)).unit ≡ (top (learnt b u (w.cells.stack g))).unit) (sym (ap is_committed v)) (ap (λ (z : Version). z.unit) (sym (committed-top u (w.cells.stack g)))))) k
  | inr v ↦ viewed-restacked (IsGone (more h (answered w (Learn u g)))) w g (learnt (is_committed (w.manager.verdict u)) u (w.cells.stack g)) (λ r e q. subst (λ b. (r.source ≡ (top (learnt b u (w.cells.stack g))).unit) ⊎ IsGone (more h (answered w (Learn u g))) r) (sym (ap is_committed v))
      (cut-gone opening h w (answered w (Learn u g)) c t g (is_of u) (λ x m y. (let is : x.unit ≡ u = same_unit-true x.unit u y in
      ((sym is, refl), version-dead opening h w c f ends g x m (ap w.manager.verdict is ∙ v)))) r e q)) k
]

-- a grain that is cleaned
viewed-cleaned : (opening : GrainId → List Value) (h : List Applied) (w : CoreState) (u : UnitNo) (g : GrainId) (mode : Mode) → Core opening w → Tells h w → FatesOf h w → Endings h w →
    Viewed (IsGone (more h (answered w (Grant u g mode)))) w → Viewed (IsGone (more h (answered w (Grant u g mode)))) (restacked w g (cleaned w g))
viewed-cleaned opening h w u g mode c t f ends k = viewed-restacked (IsGone (more h (answered w (Grant u g mode)))) w g (cleaned w g)
    (cut-gone opening h w (answered w (Grant u g mode)) c t g (λ x. is_aborted (w.manager.verdict x.unit)) (λ x m y. (refl, version-dead opening h w c f ends g x m (is_aborted-true (w.manager.verdict x.unit) y)))) k

viewed-change : (opening : GrainId → List Value) (h : List Applied) (w : CoreState) (e : CoreEvent) (w' : CoreState) → Change w e w' → Step opening h w e w' → Endings h w → Viewed (IsGone (more h (answered w e))) w → Viewed (IsGone (more h (answered w e))) w'
viewed-change opening h w e w' (begin origin call plain ok) s ends k = viewed-phase (IsGone (more h (answered w e))) w (new_unit w) Running (λ r z m. subst (Member r) (s.core.kept.0.blank (new_unit w) (s.core.kept.0.unborn (new_unit w) (le_refl w.units.next))) m) k
viewed-change opening h w e w' (lock u g mode running free first here) s ends k = viewed-locked (IsGone (more h (answered w e))) (restacked w g (cleaned w g)) u g mode (viewed-cleaned opening h w u g mode s.core s.told s.fates ends k)
viewed-change opening h w e w' (raise u g mode running free held here uncovered) s ends k = viewed-cleaned opening h w u g mode s.core s.told s.fates ends k
viewed-change opening h w e w' (refuse u g mode why running q) s ends k = viewed-phase (IsGone (more h (answered w e))) w u Refused (λ r z m. cc) k
viewed-change opening h w e w' (finish u effect running plain of_call reads alone) s ends k = viewed-phase (IsGone (more h (answered w e))) w u Finished (λ r z m. cc) k
viewed-change opening h w e w' (end_plain u effect running plain of_call bare) s ends k = viewed-phase (IsGone (more h (answered w e))) w u Ended (λ r z m. cc) k
viewed-change opening h w e w' (end_snapshot u at outcome running plain kids answer) s ends k = viewed-phase (IsGone (more h (answered w e))) w u Ended (λ r z m. cc) k
viewed-change opening h w e w' (release u g over held) s ends k = viewed-released opening (IsGone (more h (answered w e))) _ w s.core.kept.0 u g held k
viewed-change opening h w e w' (learn u g wrote final fresh) s ends k = viewed-learnt opening h w u g s.core s.told s.fates ends final k
viewed-change opening h w e w' (load g u state gone wanted) s ends k = viewed-loaded opening (IsGone (more h (answered w e))) _ w s.core.kept.0 g u state gone k
viewed-change opening h w e w' c s ends k = k

-- what is gone after an event
pub gone-after : (opening : GrainId → List Value) (h : List Applied) (w : CoreState) (e : CoreEvent) (w' : CoreState) → Change w e w' → Step opening h w e w' → Endings h w → GoneOf h w → GoneOf (more h (answered w e)) w'
gone-after opening h w e w' c s ends k = viewed-change opening h w e w' c s ends (λ u r p m. elim (k u r p m) [ inl a ↦ inl a | inr a ↦ inr (gone-more h (answered w e) r a) ])

-- a stack isn't empty
top-member : (opening : GrainId → List Value) (w : CoreState) (g : GrainId) (xs : List Version) → Stack opening w g xs → Member (top xs) xs
top-member opening w g [] c = absurd c
top-member opening w g (x ∷ xs) c = inl refl

-- what a running unit read is gone by the state exactly where it is so by the history
abbrev pub SameGone : List Applied → CoreState → Type 0
SameGone h w = (u : UnitNo) (r : Read) → w.units.phase u ≡ Running → Member r (w.units.reads u) → (is_gone w r ≡ true) ↔ IsGone h r

pub same-gone : (opening : GrainId → List Value) (h : List Applied) (w : CoreState) → Core opening w → Tells h w → OffOf h w → GoneOf h w → SameGone h w
same-gone opening h w c t off k u r p m = (to, from)
  where
    to : is_gone w r ≡ true → IsGone h r
    to e = elim (k u r p m) [ inl a ↦ absurd (same_unit-false _ _ (not-true _ e) (sym a)) | inr a ↦ a ]

    from : IsGone h r → is_gone w r ≡ true
    from x =
        let o = off x.off r.grain (record { front = x.front; at = x.at; back = x.back; split = x.split; takes = x.takes; dead = x.dead }) in
        let later : (v : UnitNo) (s : Read) → Member s (reads_in v x.front) → Member s (w.units.reads v) = λ v s y.
        subst (Member s) (sym (t.reads v)) (subst (λ z. Member s (reads_in v z)) (sym x.split) (reads-later v x.front (x.at ∷ x.back) s y)) in
        not_from_false _ (same_unit-not _ _ (λ q.
        (let y = stands-there opening w c x.front r.grain later r.source x.off x.stands o.0 (top (w.cells.stack r.grain)) (top-member opening w r.grain (w.cells.stack r.grain) (c.kept.0.chain r.grain)) q in
        o.1 y.0 y.1 y.2)))
