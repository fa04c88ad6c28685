-- Each step on a cell's table keeps its rule.
use Rattle.std.proofs.Common.{◌≡◌, ◌≢◌, ◌⊎◌, inl, inr, ⊎_elim, ℕ, zero, suc, ◌+◌, ◌*◌, ◌%◌, ◌≤◌, List, [], ◌∷◌, ◌++◌, map, length, set, Some, true, false, true≢false, refl, sym, ap, ◌∙◌, subst, arith, length-append, length-set, eqb, get_or, get_or-set_same, append-nil}
use mathlib.Core.Logic.{dite}
use mathlib.Core.Option.{some, none, some-injective, some-ne-none}
use mathlib.Core.List.{map-append}
use native.Mathlib.Decide.{ℕ_discrete, dec_le}
use lib.ListN.{get_elem?}
use lib.Seq.{set-get_or, map-set}
use prog.Atomic.{either}
use Rattle.atomic_table.specs.Table.{State, step, keeps, takes, gives, stepped, Allows, Valid, carried_after, Splits, Joins, opening}
use Rattle.atomic_table.proofs.Lists.{at_set, set_here, set_else, set_again, at_map, at_longer, exchanged}
use Rattle.turn_cell.specs.declared.view.Entry.{Entry}
use Rattle.turn_cell.specs.declared.view.Hand.{Hand}
use Rattle.turn_cell.specs.declared.view.View.{View}
use Rattle.turn_cell.specs.declared.place.Place.{Place}
use Rattle.turn_cell.specs.declared.place.Place.TheVariants.{Out, Home, Done}
use Rattle.turn_cell.specs.Places.{object_in}
use Rattle.turn_cell.specs.History.{StartsWith, entry, leaves, IsLegal}
use Rattle.turn_cell.specs.Hands.{first_hand, spent_hand, split_off_hand, IsNumbered}
use Rattle.turn_cell.specs.Passes.{view, holding, idle, later, grown, splitter_view, split_off_view, told_of, state_seen, SeesLegal, Adds}
use Rattle.turn_cell.specs.Rule.{Sat, hand_of, loads, releases, publishes, Fits, IsOneHistory, Begins, tries, hears}
use Rattle.turn_cell.proofs.Lists.{at_push, at_inside}
use Rattle.turn_cell.proofs.Histories.{longer_starts, starts_self, starts_length, starts_whole, starts_starts, leaves_append, legal_append, legal_start, legal_push}
use Rattle.turn_cell.proofs.NumberRule.{starts_numbered, adds_numbered, joins_numbered, splits_numbered}

-- a number is even or odd
pub parity : (n : ℕ) → (n % 2 ≡ 0) ⊎ (n % 2 ≡ 1)
parity n = dite (ℕ_discrete (n % 2) 0) inl (λ ne. inr (omega arith))

module _ {T E R : Type 0} where
  abbrev event_of : E → Place T E R → E
  event_of d (Done o e x) = e.value
  event_of d Out = d
  event_of d (Home o) = d

  abbrev reply_of : R → Place T E R → R
  reply_of d (Done o e x) = x.value
  reply_of d Out = d
  reply_of d (Home o) = d

  abbrev event_in : E → List (ℕ × Place T E R) → E
  event_in d [] = d
  event_in d (x ∷ xs) = event_of d x.1

  abbrev reply_in : R → List (ℕ × Place T E R) → R
  reply_in d [] = d
  reply_in d (x ∷ xs) = reply_of d x.1

module _ {T S E R : Type 0} (state : T → S) (after : S → E → S) (reply : S → E → R) where
  abbrev Table : Type 0
  Table = State (Place T E R) (View T E R)

  abbrev Rule : Table → Type 0
  Rule = IsOneHistory state after reply

  -- a view changed, and its hand did not
  same_hands : (vs : List (View T E R)) (me : ℕ) (v w : View T E R) → get_elem? vs me ≡ some v → w.hand ≡ v.hand → map hand_of (set vs me w) ≡ map hand_of vs
  same_hands vs me v w at e = map-set hand_of vs me w ∙ (ap (set (map hand_of vs) me) e ∙ set_again (map hand_of vs) me v.hand (at_map hand_of vs me v at))

  -- the views after one of them changed
  fits_set : (log : List (Entry E R)) (first : T) (word owner : ℕ) (vs : List (View T E R)) (me : ℕ) (w : View T E R) → Fits state after reply log first word owner me w
      → ((j : ℕ) (v : View T E R) → j ≢ me → get_elem? vs j ≡ some v → Fits state after reply log first word owner j v)
      → (j : ℕ) (v : View T E R) → get_elem? (set vs me w) j ≡ some v → Fits state after reply log first word owner j v
  fits_set log first word owner vs me w mine others j v e = ⊎_elim
      (λ (t : (j ≡ me) × (w ≡ v)). subst (λ (x : ℕ × View T E R). Fits state after reply log first word owner x.0 x.1) (λ i. (sym t.0 i, t.1 i)) mine)
      (λ (t : (j ≢ me) × (get_elem? vs j ≡ some v)). others j v t.0 t.1)
      (at_set vs me j w v e)

  -- who has the turn, after one view changed
  out_set : (vs : List (View T E R)) (owner me : ℕ) (v w : View T E R) → get_elem? vs me ≡ some v → (v.holds ≡ true → w.holds ≡ true)
      → (u : View T E R) × (get_elem? vs owner ≡ some u) × (u.holds ≡ true) → (u : View T E R) × (get_elem? (set vs me w) owner ≡ some u) × (u.holds ≡ true)
  out_set vs owner me v w at same x = dite (ℕ_discrete owner me)
      (λ is. (w, ap (get_elem? (set vs me w)) is ∙ set_here vs me w (at_inside vs me v at), same (ap (λ (z : View T E R). z.holds) (some-injective v x.0 (sym at ∙ (ap (get_elem? vs) (sym is) ∙ x.1))) ∙ x.2)))
      (λ ne. (x.0, set_else vs me owner w ne ∙ x.1, x.2))

  -- a step that changes nothing but one view, and not its hand
  unmoved : (s : Table) (t : Rule s) (me : ℕ) (cs : List (ℕ × Place T E R)) (v w : View T E R) → get_elem? s.views me ≡ some v → w.hand ≡ v.hand → w.holds ≡ v.holds
      → Fits state after reply t.log t.first (get_or s.words 0 0) t.owner me w → Rule (stepped s 0 (get_or s.words 0 0) me cs w keeps)
  unmoved s t me cs v w at same holds fits = subst (λ (ws : List ℕ). Rule record { words = ws; homes = s.homes; views = set s.views me w }) (sym (set-get_or s.words 0 0)) record {
    log = t.log;
    first = t.first;
    owner = t.owner;
    legal = t.legal;
    wide = t.wide;
    free = t.free;
    taken = t.taken;
    out = λ odd. out_set s.views t.owner me v w at (λ h. holds ∙ h) (t.out odd);
    each = fits_set t.log t.first (get_or s.words 0 0) t.owner s.views me w fits (λ j u _. t.each j u);
    numbers = subst (IsNumbered t.log) (sym (same_hands s.views me v w at same)) t.numbers;
  }

  -- the word is not below twice what any seat has seen
  twice_seen : (s : Table) (t : Rule s) (me : ℕ) (v : View T E R) → get_elem? s.views me ≡ some v → 2 * length v.seen ≤ get_or s.words 0 0
  twice_seen s t me v at = let f = t.each me v at in let short = starts_length t.log v.seen f.seen in ⊎_elim
      (λ even. let is = (t.free even).0 in omega (arith, is, short))
      (λ odd. let is = t.taken odd in omega (arith, is, short))
      (parity (get_or s.words 0 0))

  -- making the table and its first seat
  pub makes : (o : T) (p : Place T E R) → object_in p ≡ Some o → Rule (opening (0 ∷ []) (p ∷ []) (view o [] false first_hand))
  makes o p at = record {
    log = [];
    first = o;
    owner = 0;
    legal = tt;
    wide = refl;
    free = λ _. (refl, (p, o, refl, at, refl));
    taken = λ e. absurd (omega (arith, e));
    out = λ e. absurd (omega (arith, e));
    each = each;
    numbers = starts_numbered;
  }
    where
      each : (j : ℕ) (v : View T E R) → get_elem? (view o [] false first_hand ∷ []) j ≡ some v → Fits state after reply [] o 0 0 j v
      each zero v e = subst (λ (z : View T E R). Fits state after reply [] o 0 0 0 z) (some-injective _ _ e) record { start = λ _. refl; seen = ([], refl); told = ([], refl); holder = λ h. absurd (true≢false (sym h)) }
      each (suc j) v e = absurd (some-ne-none v (sym e))

  -- a load
  pub may_load : (slots id : ℕ) (m : Sat T E R) → Allows Rule slots id m 0 (λ n. n) (loads (step slots 0 0 0 none) m)
  may_load slots id m s t wide at small = (m.0, keeps, tt, unmoved s t id m.1 m.0 m.0 at refl refl (t.each id m.0 at), (refl, twice_seen s t id m.0 at))

  -- a load after a join
  pub may_hear : (slots id : ℕ) (m : Sat T E R) → m.0.hand.live ≡ true → Allows Rule slots id m 0 (λ n. n) (hears state after reply (step slots 0 0 0 none) m)
  may_hear slots id m live s t wide at small =
      let f = t.each id m.0 at in
      let legal : (u : List (Entry E R)) → StartsWith t.log u → IsLegal after reply (state m.0.first) u = λ u starts.
      subst (λ (o : T). IsLegal after reply (state o) u) (sym (f.start live)) (legal_start after reply (state t.first) t.log u starts t.legal) in
      let done : (u : List (Entry E R)) → StartsWith t.log u → (m.0.holds ≡ true → u ≡ t.log) → Rule (stepped s 0 (get_or s.words 0 0) id m.1 (view m.0.first u m.0.holds m.0.hand) keeps) =
      λ u starts whole. unmoved s t id m.1 m.0 (view m.0.first u m.0.holds m.0.hand) at refl refl record { start = f.start; seen = starts; told = (t.log, refl); holder = λ h. let x = f.holder h in (x.0, x.1, whole h, x.3) } in
      dite (dec_le (length m.0.told) (length m.0.seen))
      (λ short. (
        view m.0.first m.0.seen m.0.holds m.0.hand,
        keeps,
        tt,
        done m.0.seen f.seen (λ h. (f.holder h).2),
        (m.0.seen, refl, starts_self m.0.seen, starts_starts m.0.told m.0.seen t.log f.told f.seen short, inl refl, legal m.0.seen f.seen),
      ))
      (λ long. let more : StartsWith m.0.told m.0.seen = starts_starts m.0.seen m.0.told t.log f.seen f.told (omega (arith, long)) in (
        view m.0.first m.0.told m.0.holds m.0.hand,
        keeps,
        tt,
        done m.0.told f.told (λ h. let same = ap (length {A = Entry E R}) (f.holder h).2 in starts_whole t.log m.0.told f.told (omega (arith, long, same))),
        (m.0.told, refl, more, starts_self m.0.told, inr refl, legal m.0.told f.told),
      ))

  -- a compare_exchange, which takes the turn or does not
  pub may_try : (slots id old : ℕ) (m : Sat T E R) → old % 2 ≡ 0 → m.0.hand.live ≡ true
      → Allows Rule slots id m 0 (λ n. either (eqb n old) (old + 1) n) (tries state after reply (step slots 0 old (old + 1) none) m)
  may_try slots id old m even live s t wide at small = exchanged (get_or s.words 0 0) old (old + 1)
      (λ x. (w : View T E R) × (a : _) × Valid s.homes m.1 a × Rule (stepped s 0 x id m.1 w a) × tries state after reply (step slots 0 old (old + 1) none) m (get_or s.words 0 0) (w, carried_after m.1 a))
      (λ hit. taking hit)
      (λ miss. (m.0, keeps, tt, unmoved s t id m.1 m.0 m.0 at refl refl (t.each id m.0 at), ((λ e. absurd (miss e)), (λ _. refl))))
    where
      taking : get_or s.words 0 0 ≡ old
          → (w : View T E R) × (a : _) × Valid s.homes m.1 a × Rule (stepped s 0 (old + 1) id m.1 w a) × tries state after reply (step slots 0 old (old + 1) none) m (get_or s.words 0 0) (w, carried_after m.1 a)
      taking hit =
          let f = t.each id m.0 at in
          let free = t.free (ap (λ (z : ℕ). z % 2) hit ∙ even) in
          let shelf = free.1 in
          let now : get_or (set s.words 0 (old + 1)) 0 0 ≡ old + 1 = let long = t.wide in get_or-set_same s.words 0 (old + 1) 0 (omega (arith, long)) in
          let w : View T E R = holding (later m.0 f.seen.0) in
          let same : m.0.seen ++ f.seen.0 ≡ t.log = sym f.seen.1 in
          let first : t.first ≡ m.0.first = sym (f.start live) in
          let legal : IsLegal after reply (state m.0.first) (m.0.seen ++ f.seen.0) = subst (λ (x : T × List (Entry E R)). IsLegal after reply (state x.0) x.1) (λ i. (first i, sym same i)) t.legal in
          let is : state shelf.1 ≡ leaves after reply (state m.0.first) (m.0.seen ++ f.seen.0) = shelf.4 ∙ (λ i. leaves after reply (state (first i)) (sym same i)) in
          let at_word : old ≡ 2 * length (m.0.seen ++ f.seen.0) = sym hit ∙ (free.0 ∙ ap (λ (l : List (Entry E R)). 2 * length l) (sym same)) in (
            w,
            takes 0 shelf.0,
            shelf.2,
            record {
              log = t.log;
              first = t.first;
              owner = id;
              legal = t.legal;
              wide = length-set s.words 0 (old + 1) ∙ t.wide;
              free = λ e. absurd (let z : (old + 1) % 2 ≡ 0 = ap (λ (z : ℕ). z % 2) (sym now) ∙ e in omega (arith, even, z));
              taken = λ _. now ∙ ap (λ (z : ℕ). z + 1) (sym hit ∙ free.0);
              out = λ _. (w, set_here s.views id w (at_inside s.views id m.0 at), refl);
              each = subst (λ (z : ℕ). (j : ℕ) (v : View T E R) → get_elem? (set s.views id w) j ≡ some v → Fits state after reply t.log t.first z id j v) (sym now)
                  (fits_set t.log t.first (old + 1) id s.views id w
                  record { start = f.start; seen = ([], sym same ∙ sym (append-nil (m.0.seen ++ f.seen.0))); told = (t.log, refl); holder = λ _. (omega (arith, even), refl, same, live) }
                  (λ j v ne x. let g = t.each j v x in record { start = g.start; seen = g.seen; told = g.told; holder = λ h. absurd (let q = (g.holder h).0 in let e : get_or s.words 0 0 % 2 ≡ 0 = ap (λ (z : ℕ). z % 2) hit ∙ even in omega (arith, q, e)) }));
              numbers = subst (IsNumbered t.log) (sym (same_hands s.views id m.0 w at refl)) t.numbers;
            },
            ((λ _. (shelf.0, shelf.1, (f.seen.0, refl, legal), refl, shelf.3, is, at_word)), (λ ne. absurd (ne hit))),
          )

  -- what the rule says where the seat has the turn: no other has it, and it has seen the whole history
  module _ (s : Table) (t : Rule s) (id : ℕ) (v : View T E R) (at : get_elem? s.views id ≡ some v) (holds : v.holds ≡ true) where
    others_wait : (j : ℕ) (u : View T E R) → j ≢ id → get_elem? s.views j ≡ some u → u.holds ≡ true → ⊥
    others_wait j u ne x h = ne (((t.each j u x).holder h).1 ∙ sym ((t.each id v at).holder holds).1)

    first_is : t.first ≡ v.first
    first_is = sym ((t.each id v at).start ((t.each id v at).holder holds).3)

    log_is : t.log ≡ v.seen
    log_is = sym ((t.each id v at).holder holds).2

  -- the store that gives the turn back with nothing done
  pub may_release : (slots id : ℕ) (one : slots ≡ 1) (v : View T E R) (p : Place T E R) (o : T) (m : Sat T E R) (back : ℕ) → m ≡ (v, (0, p) ∷ []) → v.holds ≡ true → object_in p ≡ Some o → state o ≡ state_seen state after reply v → back ≡ 2 * length v.seen
      → Allows Rule slots id m 0 (λ _. back) (λ _. releases (step slots 0 back 0 none) m back)
  may_release slots id one v p o m back e holds object means is = subst (λ (x : Sat T E R). Allows Rule slots id x 0 (λ _. back) (λ _. releases (step slots 0 back 0 none) x back)) (sym e)
      (λ s t wide at small.
      let f = t.each id v at in
      let w : View T E R = idle v in
      let now : get_or (set s.words 0 back) 0 0 ≡ back = let long = t.wide in get_or-set_same s.words 0 back 0 (omega (arith, long)) in
      let length_is : back ≡ 2 * length t.log = is ∙ ap (λ (l : List (Entry E R)). 2 * length l) (sym (log_is s t id v at holds)) in
      let left : state o ≡ leaves after reply (state t.first) t.log = means ∙ (let first = sym (first_is s t id v at holds) in let all = sym (log_is s t id v at holds) in λ i. leaves after reply (state (first i)) (all i)) in (
        w,
        gives,
        tt,
        record {
          log = t.log;
          first = t.first;
          owner = t.owner;
          legal = t.legal;
          wide = length-set s.words 0 back ∙ t.wide;
          free = λ _. (now ∙ length_is, (p, o, set_here s.homes 0 (some p) (omega (arith, wide, one)), object, left));
          taken = λ q. absurd (let z = ap (λ (z : ℕ). z % 2) (sym (now ∙ length_is)) ∙ q in omega (arith, z));
          out = λ q. absurd (let z = ap (λ (z : ℕ). z % 2) (sym (now ∙ length_is)) ∙ q in omega (arith, z));
          each = subst (λ (z : ℕ). (j : ℕ) (u : View T E R) → get_elem? (set s.views id w) j ≡ some u → Fits state after reply t.log t.first z t.owner j u) (sym now)
              (fits_set t.log t.first back t.owner s.views id w
              record { start = f.start; seen = f.seen; told = (t.log, refl); holder = λ h. absurd (true≢false (sym h)) }
              (λ j u ne x. let g = t.each j u x in record { start = g.start; seen = g.seen; told = g.told; holder = λ h. absurd (others_wait s t id v at holds j u ne x h) }));
          numbers = subst (IsNumbered t.log) (sym (same_hands s.views id v w at refl)) t.numbers;
        },
        refl,
      ))

  -- the store that gives the turn back with one entry more
  pub may_publish : (slots id : ℕ) (single : slots ≡ 1) (v : View T E R) (o : _) (e : _) (x : _) (m : Sat T E R) (next : ℕ) → m ≡ (v, (0, Done o e x) ∷ []) → v.holds ≡ true
      → state o.value ≡ after (state_seen state after reply v) e.value → x.value ≡ reply (state_seen state after reply v) e.value → next ≡ 2 * length v.seen + 2
      → Allows Rule slots id m 0 (λ _. next) (λ _. publishes (step slots 0 next 0 none) m next)
  may_publish slots id single v o e x m next is holds object says more = subst (λ (z : Sat T E R). Allows Rule slots id z 0 (λ _. next) (λ _. publishes (step slots 0 next 0 none) z next)) (sym is)
      (λ s t wide at small.
      let f = t.each id v at in
      let new : Entry E R = entry v.hand.number e.value x.value in
      let w : View T E R = grown v e.value x.value in
      let now : get_or (set s.words 0 next) 0 0 ≡ next = let long = t.wide in get_or-set_same s.words 0 next 0 (omega (arith, long)) in
      let whole : v.seen ≡ t.log = sym (log_is s t id v at holds) in
      let log : List (Entry E R) = t.log ++ new ∷ [] in
      let same : v.seen ++ new ∷ [] ≡ log = ap (λ (l : List (Entry E R)). l ++ new ∷ []) whole in
      let first : v.first ≡ t.first = sym (first_is s t id v at holds) in
      let size = length-append t.log (new ∷ []) in
      let length_is : next ≡ 2 * length log = let z = ap (λ (l : List (Entry E R)). length l) whole in omega (arith, more, size, z) in
      let before : state_seen state after reply v ≡ leaves after reply (state t.first) t.log = λ i. leaves after reply (state (first i)) (whole i) in
      let left : state o.value ≡ leaves after reply (state t.first) log = object ∙ (ap (λ (z : S). after z e.value) before ∙ sym (leaves_append after reply (state t.first) t.log (new ∷ []))) in
      let live = (f.holder holds).3 in (
        w,
        gives,
        tt,
        record {
          log = log;
          first = t.first;
          owner = t.owner;
          legal = legal_append after reply (state t.first) t.log (new ∷ []) t.legal (says ∙ ap (λ (z : S). reply z e.value) before, tt);
          wide = length-set s.words 0 next ∙ t.wide;
          free = λ _. (now ∙ length_is, (Done o e x, o.value, set_here s.homes 0 (some (Done o e x)) (omega (arith, wide, single)), refl, left));
          taken = λ q. absurd (let z = ap (λ (z : ℕ). z % 2) (sym (now ∙ length_is)) ∙ q in omega (arith, z));
          out = λ q. absurd (let z = ap (λ (z : ℕ). z % 2) (sym (now ∙ length_is)) ∙ q in omega (arith, z));
          each = subst (λ (z : ℕ). (j : ℕ) (u : View T E R) → get_elem? (set s.views id w) j ≡ some u → Fits state after reply log t.first z t.owner j u) (sym now)
              (fits_set log t.first next t.owner s.views id w
              record { start = f.start; seen = ([], sym same ∙ sym (append-nil (v.seen ++ new ∷ []))); told = (log, refl); holder = λ h. absurd (true≢false (sym h)) }
              (λ j u ne y. let g = t.each j u y in record { start = g.start; seen = longer_starts t.log u.seen (new ∷ []) g.seen; told = longer_starts t.log u.told (new ∷ []) g.told; holder = λ h. absurd (others_wait s t id v at holds j u ne y h) }));
          numbers = subst (IsNumbered log) (sym (map-set hand_of s.views id w)) (adds_numbered t.log (map hand_of s.views) id v.hand new t.numbers (at_map hand_of s.views id v at) live refl);
        },
        λ o' e' x' q. let a : e.value ≡ e'.value = ap (event_in e.value) q in let b : x.value ≡ x'.value = ap (reply_in x.value) q in λ i. (grown v (a i) (b i), []),
      ))

  -- `split_seat`
  pub may_split : (id : ℕ) (v : View T E R) → v.hand.live ≡ true → Splits Rule id v (splitter_view v) (split_off_view v)
  may_split id v live s t at =
      let f = t.each id v at in
      let w : View T E R = splitter_view v in
      let u : View T E R = split_off_view v in record {
        log = t.log;
        first = t.first;
        owner = t.owner;
        legal = t.legal;
        wide = t.wide;
        free = t.free;
        taken = t.taken;
        out = λ odd. let x = out_set s.views t.owner id v w at (λ h. h) (t.out odd) in (x.0, at_longer (set s.views id w) (u ∷ []) t.owner x.0 x.1, x.2);
        each = λ j x e. ⊎_elim
            (λ y. fits_set t.log t.first (get_or s.words 0 0) t.owner s.views id w record { start = f.start; seen = f.seen; told = (t.log, refl); holder = f.holder } (λ k z _. t.each k z) j x y)
            (λ (y : (j ≡ length (set s.views id w)) × (u ≡ x)). subst (λ (z : View T E R). Fits state after reply t.log t.first (get_or s.words 0 0) t.owner j z) y.1 record { start = f.start; seen = f.seen; told = (t.log, refl); holder = λ h. absurd (true≢false (sym h)) })
            (at_push (set s.views id w) u x j e);
        numbers = subst (IsNumbered t.log) (sym (map-append hand_of (set s.views id w) (u ∷ []) ∙ ap (λ (l : List (Hand E R)). l ++ split_off_hand v.hand ∷ []) (map-set hand_of s.views id w))) (splits_numbered t.log (map hand_of s.views) id v.hand t.numbers (at_map hand_of s.views id v at) live);
      }

  -- `join_seat`
  pub may_join : (id other : ℕ) (v w : View T E R) (o : T) → v.hand.live ≡ true → w.hand.live ≡ true → w.holds ≡ false → Joins Rule id v other w (told_of v w) (view o [] false spent_hand)
  may_join id other v w o live live' idle s t at apart at_both =
      let f = t.each id v at in
      let at_w : get_elem? s.views other ≡ some w = sym (set_else s.views id other (told_of v w) apart) ∙ at_both in
      let g = t.each other w at_w in
      let none : View T E R = view o [] false spent_hand in record {
        log = t.log;
        first = t.first;
        owner = t.owner;
        legal = t.legal;
        wide = t.wide;
        free = t.free;
        taken = t.taken;
        out = λ odd. out_set (set s.views id (told_of v w)) t.owner other w none at_both (λ h. absurd (true≢false (sym h ∙ idle))) (out_set s.views t.owner id v (told_of v w) at (λ h. h) (t.out odd));
        each = fits_set t.log t.first (get_or s.words 0 0) t.owner (set s.views id (told_of v w)) other none
            record { start = λ h. absurd (true≢false (sym h)); seen = (t.log, refl); told = (t.log, refl); holder = λ h. absurd (true≢false (sym h)) }
            (λ j u _. fits_set t.log t.first (get_or s.words 0 0) t.owner s.views id (told_of v w) record { start = f.start; seen = f.seen; told = g.seen; holder = f.holder } (λ k z _. t.each k z) j u);
        numbers = subst (IsNumbered t.log) (sym (map-set hand_of (set s.views id (told_of v w)) other none ∙ ap (λ (l : List (Hand E R)). set l other spent_hand) (map-set hand_of s.views id (told_of v w))))
            (joins_numbered t.log (map hand_of s.views) id other v.hand w.hand t.numbers (at_map hand_of s.views id v at) live apart (at_map hand_of s.views other w at_w) live');
      }

  -- a turn that was taken and given back with one entry more is a call
  pub adds : (v w u : View T E R) (event asked : E) (said told : R) → Begins state after reply v w → asked ≡ event → told ≡ said → said ≡ reply (state_seen state after reply w) event → u ≡ grown w asked told → Adds state after reply v event said u
  adds v w u event asked said told begins is_event is_said says is =
      let rest = begins.0 in
      let same : w ≡ holding (later v rest) = begins.1 in
      let all : u ≡ grown (later v rest) event said = is ∙ (λ i. grown (same i) (is_event i) (is_said i)) in
      let before : IsLegal after reply (state v.first) (v.seen ++ rest) = subst (SeesLegal state after reply) same begins.2 in
      let last : said ≡ reply (leaves after reply (state v.first) (v.seen ++ rest)) event = says ∙ ap (λ (z : View T E R). reply (state_seen state after reply z) event) same in
      (rest, all, subst (SeesLegal state after reply) (sym all) (legal_push after reply (state v.first) (v.seen ++ rest) (entry v.hand.number event said) before last))
