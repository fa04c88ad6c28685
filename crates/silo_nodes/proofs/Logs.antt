-- What holds of a participant's log, whatever packets come.
use Rattle.std.proofs.Common.{◌≡◌, List, [], ◌∷◌, ◌++◌, Bool, true, false, not, inl, inr, refl, sym, ap, ◌∙◌, subst, arith, Option, Some, None}
use Rattle.std.specs.Prelude.{ℤ, pos, ◌+ℤ◌, ◌||◌, if◌then◌else◌}
use Rattle.std.proofs.lemmas.Int.{ints}
use Rattle.std.proofs.lemmas.Bool.{cond_both, cases_Bool, or_parts, and_parts, and_from}
use Rattle.silo_nodes.specs.Packets.{GrainId, TxnId, Shift, NodeEntry, Prepared, Done, same_txn, same_grain, touches, delta, is_apart, Member, Distinct}
use Rattle.silo_nodes.specs.Logs.{prepares, ends, is_prepared, is_done, shifts_of, done_in, entry_moves, moved, moved_by}
use Rattle.silo_nodes.specs.Node.{keeps_busy, is_busy, is_balance, has_room, can_shift, can_prepare}
use Rattle.silo_nodes.specs.SoundLog.{Sound}
use Rattle.silo_nodes.proofs.Lists.{same_txn-true, same_txn-is, same_txn-self, same_grain-true, same_grain-is, clash, not-true, Member-last, Member-one, Distinct-last, any-true, any-member, any-grows, any-shrinks, all-true}

-- a number plus none
pub plus_none : (a : ℤ) → a +ℤ pos 0 ≡ a
plus_none a = omega (arith, ints)

pub plus_first : (a b c : ℤ) → a +ℤ (b +ℤ c) ≡ (a +ℤ b) +ℤ c
plus_first a b c = omega (arith, ints)

-- shifts that leave a grain alone
pub delta-none : (g : GrainId) (s : List Shift) → touches g s ≡ false → delta g s ≡ pos 0
delta-none g [] e = refl
delta-none g (x ∷ xs) e =
    let p = or_parts (same_grain x.grain g) (touches g xs) e in
    ap (λ b. if b then x.delta +ℤ delta g xs else delta g xs) p.0 ∙ delta-none g xs p.1

-- the one shift of a grain
pub delta-one : (s : List Shift) (x : Shift) → is_apart s ≡ true → Member x s → (g : GrainId) → same_grain x.grain g ≡ true → delta g s ≡ x.delta
delta-one [] x a m g e = absurd m
delta-one (y ∷ ys) x a (inl q) g e =
    let p = and_parts (not (touches y.grain ys)) (is_apart ys) a in
    let gy : same_grain y.grain g ≡ true = ap (λ (z : Shift). same_grain z.grain g) (sym q) ∙ e in
    let none : delta g ys ≡ pos 0 = subst (λ k. delta k ys ≡ pos 0) (same_grain-true y.grain g gy) (delta-none y.grain ys (not-true _ p.0)) in
    ap (λ b. if b then y.delta +ℤ delta g ys else delta g ys) gy ∙ ap (λ d. y.delta +ℤ d) none ∙ plus_none y.delta ∙ ap (λ (z : Shift). z.delta) (sym q)
delta-one (y ∷ ys) x a (inr m) g e =
    let p = and_parts (not (touches y.grain ys)) (is_apart ys) a in
    elim (cases_Bool (same_grain y.grain g)) [
      | inl h ↦ clash (touches y.grain ys) (any-member (λ z. same_grain z.grain y.grain) ys x m (same_grain-is x.grain y.grain (same_grain-true x.grain g e ∙ sym (same_grain-true y.grain g h)))) (not-true _ p.0)
      | inr h ↦ ap (λ b. if b then y.delta +ℤ delta g ys else delta g ys) h ∙ delta-one ys x p.1 m g e
    ]

-- the shifts of a prepared transaction stand in the log
pub shifts-member : (t : TxnId) (log : List NodeEntry) → is_prepared log t ≡ true → Member (Prepared t (shifts_of t log)) log
shifts-member t [] e = cc
shifts-member t (Prepared u s ∷ es) e =
    cond_both (same_txn u t) s (shifts_of t es) (λ r. Member (Prepared t r) (Prepared u s ∷ es))
    (λ h. inl (ap (λ v. Prepared v s) (sym (same_txn-true u t h))))
    (λ h. inr (shifts-member t es (ap (λ b. b || is_prepared es t) (sym h) ∙ e)))
shifts-member t (Done u c ∷ es) e = inr (shifts-member t es e)

-- more entries leave them
pub shifts-stay : (t : TxnId) (log more : List NodeEntry) → is_prepared log t ≡ true → shifts_of t (log ++ more) ≡ shifts_of t log
shifts-stay t [] more e = cc
shifts-stay t (Prepared u s ∷ es) more e = elim (cases_Bool (same_txn u t)) [
  | inl h ↦ ap (λ b. if b then s else shifts_of t (es ++ more)) h ∙ sym (ap (λ b. if b then s else shifts_of t es) h)
  | inr h ↦ ap (λ b. if b then s else shifts_of t (es ++ more)) h ∙ shifts-stay t es more (ap (λ b. b || is_prepared es t) (sym h) ∙ e) ∙ sym (ap (λ b. if b then s else shifts_of t es) h)
]
shifts-stay t (Done u c ∷ es) more e = shifts-stay t es more e

-- a new entry's are its own
pub shifts-new : (t : TxnId) (s : List Shift) (log : List NodeEntry) → is_prepared log t ≡ false → shifts_of t (log ++ Prepared t s ∷ []) ≡ s
shifts-new t s [] e = ap (λ b. if b then s else []) (same_txn-self t)
shifts-new t s (Prepared u r ∷ es) e =
    let p = or_parts (same_txn u t) (is_prepared es t) e in
    ap (λ b. if b then r else shifts_of t (es ++ Prepared t s ∷ [])) p.0 ∙ shifts-new t s es p.1
shifts-new t s (Done u c ∷ es) e = shifts-new t s es e

-- an entry of the log prepares its transaction
pub prepared-is : (t : TxnId) (s : List Shift) (log : List NodeEntry) → Member (Prepared t s) log → is_prepared log t ≡ true
prepared-is t s log m = any-member (prepares t) log (Prepared t s) m (same_txn-self t)

pub done-is : (t : TxnId) (c : Bool) (log : List NodeEntry) → Member (Done t c) log → is_done log t ≡ true
done-is t c log m = any-member (ends t) log (Done t c) m (same_txn-self t)

-- what is done has an entry
pub done-entry : (t : TxnId) (log : List NodeEntry) → is_done log t ≡ true → (c : Bool) × Member (Done t c) log
done-entry t log e = (let x = any-true (ends t) log e in go x.0 x.1 x.2)
  where
    go : (x : NodeEntry) → Member x log → ends t x ≡ true → (c : Bool) × Member (Done t c) log
    go (Prepared u s) m h = cc
    go (Done u c) m h = (c, subst (λ v. Member (Done v c) log) (same_txn-true u t h) m)

pub done_in-is : (t : TxnId) (log : List NodeEntry) → Member t (done_in log) → is_done log t ≡ true
done_in-is t [] m = absurd m
done_in-is t (Prepared u s ∷ es) m = done_in-is t es m
done_in-is t (Done u c ∷ es) (inl e) = ap (λ b. b || is_done es t) (same_txn-is u t (sym e))
done_in-is t (Done u c ∷ es) (inr m) = elim (cases_Bool (same_txn u t)) [
  | inl h ↦ ap (λ b. b || is_done es t) h
  | inr h ↦ ap (λ b. b || is_done es t) h ∙ done_in-is t es m
]

pub done_in-prepared : (log : List NodeEntry) (t : TxnId) (s : List Shift) → done_in (log ++ Prepared t s ∷ []) ≡ done_in log
done_in-prepared [] t s = refl
done_in-prepared (Prepared u r ∷ es) t s = done_in-prepared es t s
done_in-prepared (Done u c ∷ es) t s = ap (λ xs. u ∷ xs) (done_in-prepared es t s)

pub done_in-done : (log : List NodeEntry) (t : TxnId) (c : Bool) → done_in (log ++ Done t c ∷ []) ≡ done_in log ++ t ∷ []
done_in-done [] t c = refl
done_in-done (Prepared u r ∷ es) t c = done_in-done es t c
done_in-done (Done u d ∷ es) t c = ap (λ xs. u ∷ xs) (done_in-done es t c)

-- entries that are prepared in the log move what they moved
pub moved-stay : (g : GrainId) (log more es : List NodeEntry) → ((t : TxnId) (c : Bool) → Member (Done t c) es → is_prepared log t ≡ true) → moved g (log ++ more) es ≡ moved g log es
moved-stay g log more [] h = refl
moved-stay g log more (Prepared t s ∷ es) h = ap (λ d. pos 0 +ℤ d) (moved-stay g log more es (λ u c m. h u c (inr m)))
moved-stay g log more (Done t true ∷ es) h =
    (λ i. delta g (shifts-stay t log more (h t true (inl refl)) i) +ℤ moved-stay g log more es (λ u c m. h u c (inr m)) i)
moved-stay g log more (Done t false ∷ es) h = ap (λ d. pos 0 +ℤ d) (moved-stay g log more es (λ u c m. h u c (inr m)))

pub moved-last : (g : GrainId) (log es : List NodeEntry) (e : NodeEntry) → moved g log (es ++ e ∷ []) ≡ moved g log es +ℤ entry_moves g log e
moved-last g log [] e = (let d : ℤ = entry_moves g log e in let q : d +ℤ pos 0 ≡ pos 0 +ℤ d = omega (arith, ints) in q)
moved-last g log (f ∷ es) e = ap (λ d. entry_moves g log f +ℤ d) (moved-last g log es e) ∙ plus_first (entry_moves g log f) (moved g log es) (entry_moves g log e)

-- an entry more moves what it moves
pub moved-more : (g : GrainId) (log : List NodeEntry) (e : NodeEntry) → ((t : TxnId) (c : Bool) → Member (Done t c) log → is_prepared log t ≡ true) →
    moved g (log ++ e ∷ []) (log ++ e ∷ []) ≡ moved g log log +ℤ entry_moves g (log ++ e ∷ []) e
moved-more g log e h = moved-last g (log ++ e ∷ []) log e ∙ ap (λ d. d +ℤ entry_moves g (log ++ e ∷ []) e) (moved-stay g log (e ∷ []) log h)

-- the empty log
pub sound-empty : (opening : GrainId → Option ℤ) → ((g : GrainId) (b : ℤ) → opening g ≡ Some b → is_balance b ≡ true) → Sound opening []
sound-empty opening o = record {
  once = tt;
  prepared = λ t c m. absurd m;
  first = λ t s m. absurd m;
  apart = λ t s m. absurd m;
  room = λ t s x m. absurd m;
  alone = λ t u s r g m. absurd m;
  range = λ g b e. ap is_balance (plus_none b) ∙ o g b e;
}

-- the balance that leaves room is there
pub room-there : (o : Option ℤ) (m d : ℤ) → has_room (moved_by o m) d ≡ true → (b : ℤ) × (o ≡ Some b) × (is_balance ((b +ℤ m) +ℤ d) ≡ true)
room-there None m d e = cc
room-there (Some b) m d e = (b, refl, e)

-- a transaction is prepared
pub sound-prepared : (opening : GrainId → Option ℤ) (log : List NodeEntry) (t : TxnId) (s : List Shift) → Sound opening log →
    is_done log t ≡ false → is_prepared log t ≡ false → is_apart s ≡ true → can_prepare opening log s ≡ true → Sound opening (log ++ Prepared t s ∷ [])
sound-prepared opening log t s k fresh new ap' can = record {
  once = subst Distinct (sym (done_in-prepared log t s)) k.once;
  prepared = λ u c m. elim (Member-one (Done u c) (Prepared t s) log m) [
    | inl h ↦ any-grows (prepares u) log (Prepared t s) (k.prepared u c h)
    | inr e ↦ absurd (other u c e)
  ];
  first = λ u r m. elim (Member-one (Prepared u r) (Prepared t s) log m) [
    | inl h ↦ shifts-stay u log (Prepared t s ∷ []) (prepared-is u r log h) ∙ k.first u r h
    | inr e ↦ subst (λ v. shifts_of v (log ++ Prepared t s ∷ []) ≡ r) (sym (same u r e).0) (shifts-new t s log new ∙ sym (same u r e).1)
  ];
  apart = λ u r m. elim (Member-one (Prepared u r) (Prepared t s) log m) [
    | inl h ↦ k.apart u r h
    | inr e ↦ ap is_apart (same u r e).1 ∙ ap'
  ];
  room = λ u r x m d i. (let undone : is_done log u ≡ false = any-shrinks (ends u) log (Prepared t s) d in
      subst (λ z. (b : ℤ) × (opening x.grain ≡ Some b) × (is_balance ((b +ℤ z) +ℤ x.delta) ≡ true)) (sym (still x.grain))
      (elim (Member-one (Prepared u r) (Prepared t s) log m) [
        | inl h ↦ k.room u r x h undone i
        | inr e ↦ room-there (opening x.grain) (moved x.grain log log) x.delta (and_parts _ _ (all-true (can_shift opening log) s can x (subst (Member x) (same u r e).1 i))).1
      ]));
  alone = λ u v r q g m n du dv tu tv. (let ou : is_done log u ≡ false = any-shrinks (ends u) log (Prepared t s) du in let ov : is_done log v ≡ false = any-shrinks (ends v) log (Prepared t s) dv in
      elim (Member-one (Prepared u r) (Prepared t s) log m) [
        | inl h ↦ elim (Member-one (Prepared v q) (Prepared t s) log n) [
          | inl j ↦ k.alone u v r q g h j ou ov tu tv
          | inr e ↦ absurd (busy u r g h ou tu (ap (touches g) (sym (same v q e).1) ∙ tv))
        ]
        | inr e ↦ elim (Member-one (Prepared v q) (Prepared t s) log n) [
          | inl j ↦ absurd (busy v q g j ov tv (ap (touches g) (sym (same u r e).1) ∙ tu))
          | inr f ↦ (same u r e).0 ∙ sym (same v q f).0
        ]
      ]);
  range = λ g b e. subst (λ z. is_balance (b +ℤ z) ≡ true) (sym (still g)) (k.range g b e);
}
  where
    other : (u : TxnId) (c : Bool) → Done u c ≡ Prepared t s → ⊥
    other u c e = cc

    same : (u : TxnId) (r : List Shift) → Prepared u r ≡ Prepared t s → (u ≡ t) × (r ≡ s)
    same u r e = (cc, cc)

    still : (g : GrainId) → moved g (log ++ Prepared t s ∷ []) (log ++ Prepared t s ∷ []) ≡ moved g log log
    still g = moved-more g log (Prepared t s) k.prepared ∙ plus_none (moved g log log)

    busy : (u : TxnId) (r : List Shift) (g : GrainId) → Member (Prepared u r) log → is_done log u ≡ false → touches g r ≡ true → touches g s ≡ true → ⊥
    busy u r g m d tr ts =
        let x = any-true (λ z. same_grain z.grain g) s ts in
        let free = (and_parts (not (is_busy log x.0.grain)) _ (all-true (can_shift opening log) s can x.0 x.1)).0 in
        let tx : touches x.0.grain r ≡ true = subst (λ z. touches z r ≡ true) (sym (same_grain-true x.0.grain g x.2)) tr in
        clash (is_busy log x.0.grain) (any-member (keeps_busy log x.0.grain) log (Prepared u r) m (and_from _ _ (ap not d) tx)) (not-true _ free)

-- a transaction is done
pub sound-done : (opening : GrainId → Option ℤ) (log : List NodeEntry) (t : TxnId) (c : Bool) → Sound opening log →
    is_prepared log t ≡ true → is_done log t ≡ false → Sound opening (log ++ Done t c ∷ [])
sound-done opening log t c k was fresh = record {
  once = subst Distinct (sym (done_in-done log t c)) (Distinct-last (done_in log) t k.once (λ m. clash (is_done log t) (done_in-is t log m) fresh));
  prepared = λ u d m. elim (Member-one (Done u d) (Done t c) log m) [
    | inl h ↦ any-grows (prepares u) log (Done t c) (k.prepared u d h)
    | inr e ↦ any-grows (prepares u) log (Done t c) (subst (λ v. is_prepared log v ≡ true) (sym (same u d e)) was)
  ];
  first = λ u r m. shifts-stay u log (Done t c ∷ []) (prepared-is u r log (old u r m)) ∙ k.first u r (old u r m);
  apart = λ u r m. k.apart u r (old u r m);
  room = λ u r x m d i. (let undone : is_done log u ≡ false = any-shrinks (ends u) log (Done t c) d in
      let b = k.room u r x (old u r m) undone i in
      (b.0, b.1, subst (λ z. is_balance ((b.0 +ℤ z) +ℤ x.delta) ≡ true) (sym (unmoved x.grain (λ touched. not_t u d (sym (k.alone t u (shifts_of t log) r x.grain (shifts-member t log was) (old u r m) fresh undone touched (any-member (λ z. same_grain z.grain x.grain) r x i (same_grain-is x.grain x.grain refl))))))) b.2));
  alone = λ u v r q g m n du dv tu tv. k.alone u v r q g (old u r m) (old v q n) (any-shrinks (ends u) log (Done t c) du) (any-shrinks (ends v) log (Done t c) dv) tu tv;
  range = λ g b e. ranged g b e c refl;
}
  where
    same : (u : TxnId) (d : Bool) → Done u d ≡ Done t c → u ≡ t
    same u d e = cc

    old : (u : TxnId) (r : List Shift) → Member (Prepared u r) (log ++ Done t c ∷ []) → Member (Prepared u r) log
    old u r m = elim (Member-one (Prepared u r) (Done t c) log m) [ inl h ↦ h | inr e ↦ cc ]

    not_t : (u : TxnId) → is_done (log ++ Done t c ∷ []) u ≡ false → u ≡ t → ⊥
    not_t u d e = clash (is_done (log ++ Done t c ∷ []) u) (any-member (ends u) (log ++ Done t c ∷ []) (Done t c) (Member-last (Done t c) log) (same_txn-is t u (sym e))) d

    by : (g : GrainId) → moved g (log ++ Done t c ∷ []) (log ++ Done t c ∷ []) ≡ moved g log log +ℤ (if c then delta g (shifts_of t log) else pos 0)
    by g = moved-more g log (Done t c) k.prepared ∙ ap (λ s. moved g log log +ℤ (if c then delta g s else pos 0)) (shifts-stay t log (Done t c ∷ []) was)

    unmoved : (g : GrainId) → (touches g (shifts_of t log) ≡ true → ⊥) → moved g (log ++ Done t c ∷ []) (log ++ Done t c ∷ []) ≡ moved g log log
    unmoved g n =
        let none : delta g (shifts_of t log) ≡ pos 0 = elim (cases_Bool (touches g (shifts_of t log))) [ inl h ↦ absurd (n h) | inr h ↦ delta-none g (shifts_of t log) h ] in
        by g ∙ cond_both c (delta g (shifts_of t log)) (pos 0) (λ d. moved g log log +ℤ d ≡ moved g log log)
        (λ e. ap (λ d. moved g log log +ℤ d) none ∙ plus_none (moved g log log)) (λ e. plus_none (moved g log log))

    ranged : (g : GrainId) (b : ℤ) → opening g ≡ Some b → (d : Bool) → c ≡ d → is_balance (b +ℤ moved g (log ++ Done t c ∷ []) (log ++ Done t c ∷ [])) ≡ true
    ranged g b e d q = elim (cases_Bool (touches g (shifts_of t log))) [
      | inr h ↦ subst (λ z. is_balance (b +ℤ z) ≡ true) (sym (unmoved g (λ x. clash _ x h))) (k.range g b e)
      | inl h ↦ (let x = any-true (λ z. same_grain z.grain g) (shifts_of t log) h in
          let r = k.room t (shifts_of t log) x.0 (shifts-member t log was) fresh x.1 in
          let gx : x.0.grain ≡ g = same_grain-true x.0.grain g x.2 in
          let some : Some r.0 ≡ Some b = sym r.1 ∙ ap opening gx ∙ e in
          let is : r.0 ≡ b = cc in
          let one : delta g (shifts_of t log) ≡ x.0.delta = delta-one (shifts_of t log) x.0 (k.apart t (shifts_of t log) (shifts-member t log was)) x.1 g x.2 in
          subst (λ z. is_balance (b +ℤ z) ≡ true) (sym (by g))
          (cond_both c (delta g (shifts_of t log)) (pos 0) (λ d. is_balance (b +ℤ (moved g log log +ℤ d)) ≡ true)
          (λ y. (let eq : (r.0 +ℤ moved x.0.grain log log) +ℤ x.0.delta ≡ b +ℤ (moved g log log +ℤ delta g (shifts_of t log)) =
          (λ i. (is i +ℤ moved (gx i) log log) +ℤ sym one i) ∙ sym (plus_first b (moved g log log) (delta g (shifts_of t log))) in sym (ap is_balance eq) ∙ r.2))
          (λ y. ap (λ z. is_balance (b +ℤ z)) (plus_none (moved g log log)) ∙ k.range g b e)))
    ]
