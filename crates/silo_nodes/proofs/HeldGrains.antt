-- What is kept beside the log follows a request to prepare.
use Rattle.std.proofs.Common.{◌≡◌, ◌<◌, List, [], ◌∷◌, ◌++◌, length, Bool, true, false, not, inl, inr, refl, sym, ap, ◌∙◌, subst, arith, Option, Some, None, is_some, slice_get}
use Rattle.std.specs.Prelude.{ℤ, ◌&&◌, ◌||◌, if◌then◌else◌}
use Rattle.std.proofs.lemmas.Bool.{cases_Bool}
use Rattle.std.specs.declared.cmp.Ordering.{Ordering}
use Rattle.std.specs.declared.cmp.Ordering.TheVariants.{Less, Equal, Greater}
use Rattle.std.specs.Ordering.{nat_cmp, ordering_then, is_eq}
use Rattle.std.specs.BTreeMap.{BTreeMap, is_at, get}
use Rattle.std.proofs.lemmas.Map.Lookups.{exact_unsigned}
use Rattle.silo_nodes.specs.Orders.{txn_cmp}
use Rattle.silo_nodes.specs.Packets.{any, GrainId, TxnId, Shift, NodeEntry, Prepared, Done, same_txn, same_grain, touches, is_apart}
use Rattle.silo_nodes.specs.Logs.{prepares, ends, is_prepared, is_done, moved, moved_by, balance}
use Rattle.silo_nodes.specs.Node.{has_room, keeps_busy, is_busy, can_shift, can_prepare, log_prepare}
use Rattle.silo_nodes.specs.SoundLog.{Sound}
use Rattle.silo_nodes.specs.LogCache.{Cell, Known, cell, cell_of, allows, all_allow, held_cell, held, entry_shifts, IsKnown, FollowsLog, Node, opening_in, prepared_at, vote_at}
use Rattle.silo_nodes.proofs.Lists.{same_txn-true, same_txn-is, same_txn-self, clash, any-last, any-grows, any-member, Member-last}
use Rattle.silo_nodes.proofs.UndecidedTransactions.{undecided-prepared}
use Rattle.silo_nodes.proofs.Logs.{plus_none, shifts-stay, shifts-new, moved-more, done-entry, sound-prepared}
use Rattle.silo_nodes.proofs.LogCache.{slice-left, longer}

-- what isn't prepared isn't done
pub undone : (opening : GrainId → Option ℤ) (log : List NodeEntry) (t : TxnId) → Sound opening log → is_prepared log t ≡ false → is_done log t ≡ false
undone opening log t k e = elim (cases_Bool (is_done log t)) [ inl h ↦ (let d = done-entry t log h in clash (is_prepared log t) (k.prepared t d.0 d.1) e) | inr h ↦ h ]

-- the log after a request
pub prepare-done : (opening : GrainId → Option ℤ) (log : List NodeEntry) (t : TxnId) (s : List Shift) → is_prepared log t ≡ true → log_prepare opening log t s ≡ log
prepare-done opening log t s p = elim (cases_Bool (is_done log t)) [
  | inl d ↦ ap (λ b. if b || is_prepared log t then log else if can_prepare opening log s then log ++ Prepared t s ∷ [] else log) d
  | inr d ↦ (λ i. if d i || p i then log else if can_prepare opening log s then log ++ Prepared t s ∷ [] else log)
]

pub prepare-not : (opening : GrainId → Option ℤ) (log : List NodeEntry) (t : TxnId) (s : List Shift) → is_done log t ≡ false → is_prepared log t ≡ false → can_prepare opening log s ≡ false → log_prepare opening log t s ≡ log
prepare-not opening log t s d p c = (λ i. if d i || p i then log else if c i then log ++ Prepared t s ∷ [] else log)

pub prepare-new : (opening : GrainId → Option ℤ) (log : List NodeEntry) (t : TxnId) (s : List Shift) → is_done log t ≡ false → is_prepared log t ≡ false → can_prepare opening log s ≡ true → log_prepare opening log t s ≡ log ++ Prepared t s ∷ []
prepare-new opening log t s d p c = (λ i. if d i || p i then log else if c i then log ++ Prepared t s ∷ [] else log)

-- cells tell whether it can be prepared
allows-is : (o : Option ℤ) (b : Bool) (d : ℤ) → allows (cell o b) d ≡ (not b && has_room o d)
allows-is None true d = refl
allows-is None false d = refl
allows-is (Some z) b d = refl

pub allow-is : (opening : GrainId → Option ℤ) (log : List NodeEntry) (f : GrainId → Option Cell) → ((g : GrainId) → f g ≡ cell_of opening log g) → (s : List Shift) → all_allow f s ≡ can_prepare opening log s
allow-is opening log f h [] = refl
allow-is opening log f h (x ∷ xs) =
    let one : allows (f x.grain) x.delta ≡ can_shift opening log x = ap (λ o. allows o x.delta) (h x.grain) ∙ allows-is (balance opening log x.grain) (is_busy log x.grain) x.delta in
    (λ i. one i && allow-is opening log f h xs i)

-- cells that are held
held-is : (s : List Shift) (g : GrainId) (o : Option Cell) → held s g o ≡ (if touches g s then held_cell o else o)
held-is [] g o = refl
held-is (x ∷ xs) g o = elim (cases_Bool (same_grain x.grain g)) [
  | inl h ↦ ap (λ b. held xs g (if b then held_cell o else o)) h ∙ held-is xs g (held_cell o) ∙ twice o (touches g xs) ∙ sym (ap (λ b. if b || touches g xs then held_cell o else o) h)
  | inr h ↦ ap (λ b. held xs g (if b then held_cell o else o)) h ∙ held-is xs g o ∙ sym (ap (λ b. if b || touches g xs then held_cell o else o) h)
]
  where
    twice : (o : Option Cell) (b : Bool) → (if b then held_cell (held_cell o) else held_cell o) ≡ held_cell o
    twice None true = refl
    twice None false = refl
    twice (Some c) true = refl
    twice (Some c) false = refl

-- one more entry keeps its grains busy
any-both : (p q : NodeEntry → Bool) (xs : List NodeEntry) (x : NodeEntry) → ((y : NodeEntry) → q y ≡ p y) → any q (xs ++ x ∷ []) ≡ (any p xs || q x)
any-both p q [] x h = (let z : (q x || false) ≡ q x = or-false (q x) in z)
  where
    or-false : (b : Bool) → (b || false) ≡ b
    or-false true = refl
    or-false false = refl
any-both p q (y ∷ xs) x h = (λ i. h y i || any-both p q xs x h i) ∙ or-assoc (p y) (any p xs) (q x)
  where
    or-assoc : (a b c : Bool) → (a || (b || c)) ≡ ((a || b) || c)
    or-assoc true b c = refl
    or-assoc false b c = refl

busy-more : (log : List NodeEntry) (t : TxnId) (s : List Shift) (g : GrainId) → is_done log t ≡ false → is_busy (log ++ Prepared t s ∷ []) g ≡ (is_busy log g || touches g s)
busy-more log t s g d =
    any-both (keeps_busy log g) (keeps_busy (log ++ Prepared t s ∷ []) g) log (Prepared t s) same
    ∙ ap (λ b. is_busy log g || (not b && touches g s)) (any-last (ends t) log (Prepared t s) refl ∙ d)
  where
    same : (y : NodeEntry) → keeps_busy (log ++ Prepared t s ∷ []) g y ≡ keeps_busy log g y
    same (Prepared u r) = ap (λ b. not b && touches g r) (any-last (ends u) log (Prepared t s) refl)
    same (Done u c) = refl

cell-held : (opening : GrainId → Option ℤ) (log : List NodeEntry) (t : TxnId) (s : List Shift) → Sound opening log → is_done log t ≡ false → (g : GrainId) → held s g (cell_of opening log g) ≡ cell_of opening (log ++ Prepared t s ∷ []) g
cell-held opening log t s k d g =
    held-is s g (cell_of opening log g) ∙ go (balance opening log g) (is_busy log g) (touches g s)
    ∙ (λ i. cell (moved_by (opening g) (sym (moved-more g log (Prepared t s) k.prepared ∙ plus_none (moved g log log)) i)) (sym (busy-more log t s g d) i))
  where
    go : (o : Option ℤ) (b h : Bool) → (if h then held_cell (cell o b) else cell o b) ≡ cell o (b || h)
    go None b true = refl
    go None b false = refl
    go (Some z) true true = refl
    go (Some z) true false = refl
    go (Some z) false true = refl
    go (Some z) false false = refl

-- the new entry stands at the end
slice-last : (xs : List NodeEntry) (x : NodeEntry) → slice_get (xs ++ x ∷ []) (length xs) ≡ Some x
slice-last [] x = refl
slice-last (y ∷ ys) x = slice-last ys x

length-last : (xs : List NodeEntry) (x : NodeEntry) → length xs < length (xs ++ x ∷ [])
length-last [] x = omega arith
length-last (y ∷ ys) x = (let t = length-last ys x in omega (arith, t))

known-kept : (log : List NodeEntry) (t u : TxnId) (s : List Shift) → same_txn t u ≡ false → (o : Option Known) → IsKnown log u o → IsKnown (log ++ Prepared t s ∷ []) u o
known-kept log t u s n None k = any-last (prepares u) log (Prepared t s) n ∙ k
known-kept log t u s n (Some o) k = (
  any-grows (prepares u) log (Prepared t s) k.0,
  any-last (ends u) log (Prepared t s) refl ∙ k.1,
  ap entry_shifts (slice-left log (Prepared t s ∷ []) o.at k.3) ∙ k.2 ∙ sym (shifts-stay u log (Prepared t s ∷ []) k.0),
  longer log (Prepared t s) o.at k.3,
)

known-new : (log : List NodeEntry) (t : TxnId) (s : List Shift) → is_done log t ≡ false → is_prepared log t ≡ false → IsKnown (log ++ Prepared t s ∷ []) t (Some (record { at = length log; done = false }))
known-new log t s d p = (
  any-member (prepares t) (log ++ Prepared t s ∷ []) (Prepared t s) (Member-last (Prepared t s) log) (same_txn-self t),
  any-last (ends t) log (Prepared t s) refl ∙ d,
  ap entry_shifts (slice-last log (Prepared t s)) ∙ sym (shifts-new t s log p),
  length-last log (Prepared t s),
)

pub follows-prepared : (opening : GrainId → Option ℤ) (log : List NodeEntry) (known known' : TxnId → Option Known) (waiting : List TxnId) (cells cells' : GrainId → Option Cell) (t : TxnId) (s : List Shift) →
    FollowsLog opening log known waiting cells → is_prepared log t ≡ false → is_apart s ≡ true → all_allow cells s ≡ true →
    ((u : TxnId) → known' u ≡ (if same_txn t u then Some (record { at = length log; done = false }) else known u)) → ((g : GrainId) → cells' g ≡ held s g (cells g)) →
    FollowsLog opening (log ++ Prepared t s ∷ []) known' (waiting ++ t ∷ []) cells'
follows-prepared opening log known known' waiting cells cells' t s k new apart can marks holds = record {
  waiting_is = ap (λ l. l ++ t ∷ []) k.waiting_is ∙ sym (undecided-prepared log t s d);
  sound = sound-prepared opening log t s k.sound d new apart (sym (allow-is opening log cells k.cells_are s) ∙ can);
  known_is = λ u. subst (IsKnown (log ++ Prepared t s ∷ []) u) (sym (marks u)) (elim (cases_Bool (same_txn t u)) [
    | inl q ↦ subst (IsKnown (log ++ Prepared t s ∷ []) u) (sym (ap (λ b. if b then Some (record { at = length log; done = false }) else known u) q))
        (subst (λ v. IsKnown (log ++ Prepared t s ∷ []) v (Some (record { at = length log; done = false }))) (same_txn-true t u q) (known-new log t s d new))
    | inr q ↦ subst (IsKnown (log ++ Prepared t s ∷ []) u) (sym (ap (λ b. if b then Some (record { at = length log; done = false }) else known u) q)) (known-kept log t u s q (known u) (k.known_is u))
  ]);
  cells_are = λ g. holds g ∙ ap (held s g) (k.cells_are g) ∙ cell-held opening log t s k.sound d g;
}
  where
    d : is_done log t ≡ false
    d = undone opening log t k.sound new

-- the order tells another transaction apart
both_equal : (a b : Ordering) → is_eq (ordering_then a b) ≡ true → (a ≡ Equal) × (b ≡ Equal)
both_equal Less b e = absurd (cc e)
both_equal Greater b e = absurd (cc e)
both_equal Equal Less e = absurd (cc e)
both_equal Equal Greater e = absurd (cc e)
both_equal Equal Equal e = (refl, refl)

same_at : (a b : TxnId) → is_at (txn_cmp a) b ≡ true → a ≡ b
same_at a b e =
    let equal = both_equal (nat_cmp a.epoch b.epoch) (nat_cmp a.number b.number) e in
    let epoch : a.epoch ≡ b.epoch = exact_unsigned a.epoch b.epoch equal.0 in
    let number : a.number ≡ b.number = exact_unsigned a.number b.number equal.1 in
    λ i. record { epoch = epoch i; number = number i }

apart : (a b : TxnId) → same_txn a b ≡ false → is_at (txn_cmp a) b ≡ false
apart a b other = elim (cases_Bool (is_at (txn_cmp a) b)) [ inl e ↦ clash (same_txn a b) (same_txn-is a b (same_at a b e)) other | inr e ↦ e ]

-- a transaction is put into the map
pub marks : (m n : BTreeMap TxnId Known) (t : TxnId) (v : Known) → get txn_cmp n t ≡ Some v → ((u : TxnId) → is_at (txn_cmp t) u ≡ false → get txn_cmp n u ≡ get txn_cmp m u) →
    (u : TxnId) → get txn_cmp n u ≡ (if same_txn t u then Some v else get txn_cmp m u)
marks m n t v is others u = elim (cases_Bool (same_txn t u)) [
  | inl h ↦ subst (λ z. get txn_cmp n z ≡ Some v) (same_txn-true t u h) is ∙ sym (ap (λ b. if b then Some v else get txn_cmp m u) h)
  | inr h ↦ others u (apart t u h) ∙ sym (ap (λ b. if b then Some v else get txn_cmp m u) h)
]

-- the votes
pub vote-known : (n : Node) (t : TxnId) (s : List Shift) (d : Bool) → is_done n.log t ≡ d → is_prepared n.log t ≡ true → vote_at n t s ≡ (if d then None else Some true)
vote-known n t s d e p = (λ i. if e i then None else if p i then Some true else Some (can_prepare (opening_in n.opening) n.log s))

pub vote-new : (n : Node) (t : TxnId) (s : List Shift) → is_done n.log t ≡ false → is_prepared n.log t ≡ false → vote_at n t s ≡ Some (can_prepare (opening_in n.opening) n.log s)
vote-new n t s e p = (λ i. if e i then None else if p i then Some true else Some (can_prepare (opening_in n.opening) n.log s))

-- a node whose log stays
pub node-stays : (n : Node) (t : TxnId) (s : List Shift) → log_prepare (opening_in n.opening) n.log t s ≡ n.log → n ≡ prepared_at n t s
node-stays n t s e = ap (λ l. record n { log = l }) (sym e)

-- what has a place is prepared, and nothing else is
pub known-prepared : (log : List NodeEntry) (t : TxnId) (o : Option Known) → IsKnown log t o → is_some o ≡ true → is_prepared log t ≡ true
known-prepared log t None k e = cc
known-prepared log t (Some o) k e = k.0

pub known-new-txn : (log : List NodeEntry) (t : TxnId) (o : Option Known) → IsKnown log t o → is_some o ≡ false → is_prepared log t ≡ false
known-new-txn log t None k e = k
known-new-txn log t (Some o) k e = cc
