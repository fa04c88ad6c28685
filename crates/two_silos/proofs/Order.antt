-- The order of commits that move one grain.
use Rattle.std.proofs.Common.{◌≡◌, ℕ, List, [], ◌∷◌, ◌++◌, Bool, true, false, ◌⊎◌, inl, inr, refl, sym, ap, ◌∙◌, subst, Option, filter, eqb-true}
use Rattle.std.specs.Prelude.{ℤ, ◌==◌, if◌then◌else◌}
use Rattle.std.proofs.lemmas.Bool.{cond_both, cases_Bool, eqb-false}
use Rattle.two_silos.specs.Nodes.{Done, GrainId, NodeEntry, Part, Prepared, Shift, TxnId}
use Rattle.silo_nodes.specs.Packets.{touches, Member}
use Rattle.silo_nodes.specs.Logs.{ends, is_done}
use Rattle.silo_nodes.specs.SoundLog.{Sound}
use Rattle.two_silos.specs.Promise.{part_at, done_commits, moves_at}
use Rattle.silo_nodes.proofs.Lists.{same_txn-not, clash, any-last, Member-append, Member-last, filter-member}
use Rattle.silo_nodes.proofs.Logs.{done-is}

-- that of one node and grain
abbrev pub Order : (TxnId → List Part) → ℕ → GrainId → List TxnId → List NodeEntry → Type 0
Order parts n g cs log = (rest : List TxnId)
    × (filter (moves_at parts n g) cs ≡ filter (moves_at parts n g) (done_commits log) ++ rest)
    × ((rest ≡ []) ⊎ ((u : TxnId) × (rest ≡ u ∷ []) × (is_done log u ≡ false)))

-- lists put together
assoc : {A : Type 0} (a b c : List A) → (a ++ b) ++ c ≡ a ++ (b ++ c)
assoc [] b c = refl
assoc (x ∷ a) b c = ap (λ l. x ∷ l) (assoc a b c)

nil : {A : Type 0} (a : List A) → a ++ [] ≡ a
nil [] = refl
nil (x ∷ a) = ap (λ l. x ∷ l) (nil a)

filter-last : (p : TxnId → Bool) (xs : List TxnId) (x : TxnId) → filter p (xs ++ x ∷ []) ≡ filter p xs ++ (if p x then x ∷ [] else [])
filter-last p [] x = refl
filter-last p (y ∷ xs) x = elim (cases_Bool (p y)) [
  | inl h ↦ ap (λ b. if b then y ∷ filter p (xs ++ x ∷ []) else filter p (xs ++ x ∷ [])) h ∙ ap (λ l. y ∷ l) (filter-last p xs x)
      ∙ sym (ap (λ b. (if b then y ∷ filter p xs else filter p xs) ++ (if p x then x ∷ [] else [])) h)
  | inr h ↦ ap (λ b. if b then y ∷ filter p (xs ++ x ∷ []) else filter p (xs ++ x ∷ [])) h ∙ filter-last p xs x
      ∙ sym (ap (λ b. (if b then y ∷ filter p xs else filter p xs) ++ (if p x then x ∷ [] else [])) h)
]

filter-same : (p q : TxnId → Bool) (xs : List TxnId) → ((x : TxnId) → Member x xs → p x ≡ q x) → filter p xs ≡ filter q xs
filter-same p q [] h = refl
filter-same p q (x ∷ xs) h = (λ i. if h x (inl refl) i then x ∷ filter-same p q xs (λ y m. h y (inr m)) i else filter-same p q xs (λ y m. h y (inr m)) i)

filter-stays : (p : TxnId → Bool) (xs : List TxnId) (x : TxnId) → Member x xs → p x ≡ true → Member x (filter p xs)
filter-stays p [] x m e = absurd m
filter-stays p (y ∷ xs) x m e =
    cond_both (p y) (y ∷ filter p xs) (filter p xs) (Member x)
    (λ t. elim m [ inl q ↦ inl q | inr q ↦ inr (filter-stays p xs x q e) ])
    (λ f. elim m [ inl q ↦ clash (p y) (ap p (sym q) ∙ e) f | inr q ↦ filter-stays p xs x q e ])

-- a done commit has an entry
commits-member : (t : TxnId) (log : List NodeEntry) → Member t (done_commits log) → Member (Done t true) log
commits-member t [] m = m
commits-member t (Prepared u s ∷ es) m = inr (commits-member t es m)
commits-member t (Done u true ∷ es) (inl e) = inl (ap (λ v. Done v true) e)
commits-member t (Done u true ∷ es) (inr m) = inr (commits-member t es m)
commits-member t (Done u false ∷ es) m = inr (commits-member t es m)

commits-last : (log : List NodeEntry) (e : NodeEntry) → done_commits (log ++ e ∷ []) ≡ done_commits log ++ done_commits (e ∷ [])
commits-last [] e = refl
commits-last (Prepared u s ∷ es) e = commits-last es e
commits-last (Done u true ∷ es) e = ap (λ l. u ∷ l) (commits-last es e)
commits-last (Done u false ∷ es) e = commits-last es e

-- the part of a node, or none
pub part-cases : (n : ℕ) (qs : List Part) → ((q : Part) × Member q qs × (q.node ≡ n) × (part_at n qs ≡ q.shifts)) ⊎ (((q : Part) → Member q qs → q.node ≡ n → ⊥) × (part_at n qs ≡ []))
part-cases n [] = inr ((λ q m e. m), refl)
part-cases n (p ∷ qs) = elim (cases_Bool (p.node == n)) [
  | inl h ↦ inl (p, inl refl, eqb-true p.node n h, ap (λ b. if b then p.shifts else part_at n qs) h)
  | inr h ↦ elim (part-cases n qs) [
    | inl x ↦ inl (x.0, inr x.1, x.2, ap (λ b. if b then p.shifts else part_at n qs) h ∙ x.3)
    | inr x ↦ inr ((λ q m e. elim m [ inl a ↦ eqb-false p.node n h (ap (λ (z : Part). z.node) (sym a) ∙ e) | inr b ↦ x.0 q b e ]), ap (λ b. if b then p.shifts else part_at n qs) h ∙ x.1)
  ]
]

-- a number is taken
pub order-parts : (parts parts' : TxnId → List Part) (n : ℕ) (g : GrainId) (cs : List TxnId) (log : List NodeEntry) →
    ((t : TxnId) → Member t cs → parts' t ≡ parts t) → ((t : TxnId) → Member (Done t true) log → Member t cs) → Order parts n g cs log → Order parts' n g cs log
order-parts parts parts' n g cs log same within (rest, e, r) = (
  rest,
  filter-same (moves_at parts' n g) (moves_at parts n g) cs (λ t m. ap (λ l. touches g (part_at n l)) (same t m)) ∙ e
      ∙ ap (λ l. l ++ rest) (filter-same (moves_at parts n g) (moves_at parts' n g) (done_commits log) (λ t m. ap (λ l. touches g (part_at n l)) (sym (same t (within t (commits-member t log m)))))),
  r,
)

-- a transaction that moves the grain is prepared here
prepared-at : (parts : TxnId → List Part) (n : ℕ) (g : GrainId) (log : List NodeEntry) (t : TxnId) → ((q : Part) → Member q (parts t) → q.node ≡ n → Member (Prepared t q.shifts) log) → moves_at parts n g t ≡ true →
    (s : List Shift) × Member (Prepared t s) log × (touches g s ≡ true)
prepared-at parts n g log t h e = elim (part-cases n (parts t)) [
  | inl x ↦ (x.0.shifts, h x.0 x.1 x.2, ap (touches g) (sym x.3) ∙ e)
  | inr x ↦ (let z : false ≡ true = sym (ap (touches g) x.1) ∙ e in cc)
]

-- a transaction commits
pub order-commit : (opening : GrainId → Option ℤ) (parts : TxnId → List Part) (n : ℕ) (g : GrainId) (cs : List TxnId) (log : List NodeEntry) (t : TxnId) → Sound opening log →
    (Member t cs → ⊥) → is_done log t ≡ false → ((u : TxnId) (q : Part) → Member u cs → Member q (parts u) → q.node ≡ n → Member (Prepared u q.shifts) log) →
    ((q : Part) → Member q (parts t) → q.node ≡ n → Member (Prepared t q.shifts) log) → Order parts n g cs log → Order parts n g (cs ++ t ∷ []) log
order-commit opening parts n g cs log t k new undone there here (rest, e, r) = elim (cases_Bool (moves_at parts n g t)) [
  | inr h ↦ (rest, filter-last p cs t ∙ ap (λ b. filter p cs ++ (if b then t ∷ [] else [])) h ∙ nil (filter p cs) ∙ e, r)
  | inl h ↦ elim r [
    | inl none ↦ (t ∷ [], filter-last p cs t ∙ ap (λ b. filter p cs ++ (if b then t ∷ [] else [])) h ∙ ap (λ l. l ++ t ∷ []) (e ∙ ap (λ l. filter p (done_commits log) ++ l) none ∙ nil (filter p (done_commits log))), inr (t, refl, undone))
    | inr one ↦ (let m : Member one.0 (filter p cs) = subst (Member one.0) (sym (e ∙ ap (λ l. filter p (done_commits log) ++ l) one.1)) (Member-last one.0 (filter p (done_commits log))) in
        let f = filter-member p cs one.0 m in
        let a = prepared-at parts n g log one.0 (λ q x y. there one.0 q f.0 x y) f.1 in
        let b = prepared-at parts n g log t here h in
        absurd (new (subst (λ z. Member z cs) (k.alone one.0 t a.0 b.0 g a.1 b.1 one.2 undone a.2 b.2) f.0)))
  ]
]
  where
    p : TxnId → Bool
    p = moves_at parts n g

-- a node prepares
pub order-prepared : (parts : TxnId → List Part) (n : ℕ) (g : GrainId) (cs : List TxnId) (log : List NodeEntry) (t : TxnId) (s : List Shift) → Order parts n g cs log → Order parts n g cs (log ++ Prepared t s ∷ [])
order-prepared parts n g cs log t s (rest, e, r) = (
  rest,
  e ∙ ap (λ l. filter (moves_at parts n g) l ++ rest) (sym (commits-last log (Prepared t s) ∙ nil (done_commits log))),
  elim r [ inl none ↦ inl none | inr one ↦ inr (one.0, one.1, any-last (ends one.0) log (Prepared t s) refl ∙ one.2) ],
)

-- what a decision rests on
abbrev pub Rests : List TxnId → TxnId → Bool → Type 0
Rests cs t true = Member t cs
Rests cs t false = Member t cs → ⊥

-- a node is done
pub order-done : (parts : TxnId → List Part) (n : ℕ) (g : GrainId) (cs : List TxnId) (log : List NodeEntry) (t : TxnId) (c : Bool) → Rests cs t c → is_done log t ≡ false → Order parts n g cs log → Order parts n g cs (log ++ Done t c ∷ [])
order-done parts n g cs log t false out fresh (rest, e, r) = (
  rest,
  e ∙ ap (λ l. filter (moves_at parts n g) l ++ rest) (sym (commits-last log (Done t false) ∙ nil (done_commits log))),
  elim r [
    | inl none ↦ inl none
    | inr one ↦ inr (
      one.0,
      one.1,
      any-last (ends one.0) log (Done t false) (same_txn-not t one.0 (λ q. out (subst (λ z. Member z cs) (sym q)
          (filter-member (moves_at parts n g) cs one.0 (subst (Member one.0) (sym (e ∙ ap (λ l. filter (moves_at parts n g) (done_commits log) ++ l) one.1)) (Member-last one.0 (filter (moves_at parts n g) (done_commits log))))).0))) ∙ one.2,
    )
  ],
)
order-done parts n g cs log t true in' fresh (rest, e, r) = elim (cases_Bool (moves_at parts n g t)) [
  | inr h ↦ (
    rest,
    e ∙ ap (λ l. l ++ rest) (sym (more ∙ ap (λ b. filter p (done_commits log) ++ (if b then t ∷ [] else [])) h ∙ nil (filter p (done_commits log)))),
    elim r [
      | inl none ↦ inl none
      | inr one ↦ inr (
        one.0,
        one.1,
        any-last (ends one.0) log (Done t true) (same_txn-not t one.0 (λ q. clash (p t) (ap p q ∙
            (filter-member p cs one.0 (subst (Member one.0) (sym (e ∙ ap (λ l. filter p (done_commits log) ++ l) one.1)) (Member-last one.0 (filter p (done_commits log))))).1) h)) ∙ one.2,
      )
    ],
  )
  | inl h ↦ ([], e ∙ ap (λ l. filter p (done_commits log) ++ l) (last h) ∙ sym (ap (λ l. l ++ []) (more ∙ ap (λ b. filter p (done_commits log) ++ (if b then t ∷ [] else [])) h) ∙ nil (filter p (done_commits log) ++ t ∷ [])), inl refl)
]
  where
    p : TxnId → Bool
    p = moves_at parts n g

    more : filter p (done_commits (log ++ Done t true ∷ [])) ≡ filter p (done_commits log) ++ (if p t then t ∷ [] else [])
    more = ap (filter p) (commits-last log (Done t true)) ∙ filter-last p (done_commits log) t

    last : p t ≡ true → rest ≡ t ∷ []
    last h = elim (Member-append t (filter p (done_commits log)) rest (subst (Member t) e (filter-stays p cs t in' h))) [
      | inl m ↦ clash (is_done log t) (done-is t true log (commits-member t log (filter-member p (done_commits log) t m).0)) fresh
      | inr m ↦ elim r [
        | inl none ↦ absurd (subst (Member t) none m)
        | inr one ↦ one.1 ∙ elim (subst (Member t) one.1 m) [ inl q ↦ ap (λ z. z ∷ []) (sym q) | inr z ↦ absurd z ]
      ]
    ]
