-- What is known through an access, as calls follow one another.
use Rattle.std.proofs.Common.{◌≡◌, ⊎_elim, inl, ℕ, ◌≤◌, List, [], ◌∷◌, ◌++◌, length, Bool, true, true≢false, refl, sym, ap, ◌∙◌, subst, arith, length-append, append-nil}
use mathlib.Core.List.{append_assoc}
use Rattle.core_model.specs.declared.events.CoreEvent.{CoreEvent}
use Rattle.core_model.specs.declared.events.CoreReply.{CoreReply}
use Rattle.core_model.specs.Laws.{extended}
use Rattle.turn_cell.specs.History.{entries_of, entry}
use Rattle.turn_cell.proofs.Lists.{in_left, in_right, in_append}
use Rattle.core_access.specs.Histories.{Told, reply_in}
use Rattle.core_access.specs.Sights.{Sight, run_seen, saw, told, AllPass, Looks, Tells, Counts, IsAlone}
use Rattle.core_access.specs.OneHolder.{none_comes}
use Rattle.core_access.proofs.Entries.{entries-append, entries-single, nothing, not-nothing, ends-same, run-on}

-- the sight with these entries seen
abbrev with-seen : Sight → List Told → Sight
with-seen s l = record { first = s.first; number = s.number; seen = l; mine = s.mine }

-- ---- one call after another

-- what passes in two parts passes whole
pub pass-append : (test : CoreEvent → Bool) (a b : List Told) → AllPass test a → AllPass test b → AllPass test (a ++ b)
pass-append test a b p q x i = ⊎_elim (λ j. p x j) (λ j. q x j) (in_append x a b i)

-- nothing more was seen
pub saw-none : (s : Sight) → saw s [] ≡ s
saw-none s = ap (with-seen s) (append-nil s.seen)

-- what was seen in two parts
pub saw-saw : (s : Sight) (a b : List Told) → saw (saw s a) b ≡ saw s (a ++ b)
saw-saw s a b = ap (with-seen s) (append_assoc s.seen a b)

-- no call is a look
abbrev pub looks-none : (may : CoreEvent → Bool) (s : Sight) → Looks may s s
looks-none may s = record { rest = []; others = λ x i. absurd i; sight = sym (saw-none s) }

module _ (may : CoreEvent → Bool) (s t u : Sight) (a : Looks may s t) where
  -- what is seen after a look is seen by one
  pub saw-on : (rest : List Told) → saw t rest ≡ saw s (a.rest ++ rest)
  saw-on rest = ap (λ (x : Sight). saw x rest) a.sight ∙ saw-saw s a.rest rest

  -- two looks are one
  abbrev pub looks-on : Looks may t u → Looks may s u
  looks-on b = record {
    rest = a.rest ++ b.rest;
    others = pass-append may a.rest b.rest a.others b.others;
    sight = b.sight ∙ saw-on b.rest;
  }

  -- a look before an event is part of it
  abbrev pub tells-on : (e : CoreEvent) (r : CoreReply) → Tells may t e r u → Tells may s e r u
  tells-on e r l = record {
    rest = a.rest ++ l.rest;
    others = pass-append may a.rest l.rest a.others l.others;
    reply = l.reply ∙ ap (λ (x : Sight). reply_in (run_seen x) e) (saw-on l.rest);
    sight = l.sight ∙ ap (λ (x : Sight). told x e r) (saw-on l.rest);
  }

-- the run behind an event that was put
pub run-told : (s : Sight) (e : CoreEvent) (r : CoreReply) → run_seen (told s e r) ≡ extended (run_seen s) (e ∷ [])
run-told s e r = run-on s.seen (entry s.number e r ∷ []) s.first

-- ---- where nothing comes from others

-- nothing came
none-came : (rest : List Told) → AllPass none_comes rest → rest ≡ []
none-came [] all = refl
none-came (x ∷ rest) all = absurd (true≢false (sym (all x (inl refl))))

-- what is seen then is what was seen
same-saw : (s : Sight) (rest : List Told) → AllPass none_comes rest → saw s rest ≡ s
same-saw s rest all = ap (saw s) (none-came rest all) ∙ saw-none s

-- a look changes nothing
pub looks-alone : (s t : Sight) → Looks none_comes s t → t ≡ s
looks-alone s t l = l.sight ∙ same-saw s l.rest l.others

-- an event is one entry more
pub tells-alone : (s t : Sight) (e : CoreEvent) (r : CoreReply) → Tells none_comes s e r t → t ≡ told s e r
tells-alone s t e r l = l.sight ∙ ap (λ (x : Sight). told x e r) (same-saw s l.rest l.others)

-- with the reply of the run before
pub reply-alone : (s t : Sight) (e : CoreEvent) (r : CoreReply) → Tells none_comes s e r t → r ≡ reply_in (run_seen s) e
reply-alone s t e r l = l.reply ∙ ap (λ (x : Sight). reply_in (run_seen x) e) (same-saw s l.rest l.others)

-- and leaves the run with it
pub run-alone : (s t : Sight) (e : CoreEvent) (r : CoreReply) → Tells none_comes s e r t → run_seen t ≡ extended (run_seen s) (e ∷ [])
run-alone s t e r l = ap run_seen (tells-alone s t e r l) ∙ run-told s e r

-- ---- one's own entries stay among those that were seen

-- as more is seen
counts-saw : (s : Sight) (rest : List Told) → Counts s → Counts (saw s rest)
counts-saw s rest c =
    let k : length s.mine ≤ length (entries_of s.number s.seen) = c in
    let a = ap (length {A = Told}) (entries-append s.number s.seen rest) in
    omega (arith, k, a, length-append (entries_of s.number s.seen) (entries_of s.number rest))

-- as an event is put
counts-told : (s : Sight) (e : CoreEvent) (r : CoreReply) → Counts s → Counts (told s e r)
counts-told s e r c =
    let k : length s.mine ≤ length (entries_of s.number s.seen) = c in
    let new : Told = entry s.number e r in
    let a = ap (length {A = Told}) (entries-append s.number s.seen (new ∷ []) ∙ ap (λ (l : List Told). entries_of s.number s.seen ++ l) (entries-single s.number e r)) in
    omega (arith, k, a, length-append s.mine (new ∷ []), length-append (entries_of s.number s.seen) (new ∷ []))

-- behind a look
pub looks-counts : (may : CoreEvent → Bool) (s t : Sight) → Looks may s t → Counts s → Counts t
looks-counts may s t l c = subst Counts (sym l.sight) (counts-saw s l.rest c)

-- behind an event
pub tells-counts : (may : CoreEvent → Bool) (s t : Sight) (e : CoreEvent) (r : CoreReply) → Tells may s e r t → Counts s → Counts t
tells-counts may s t e r l c = subst Counts (sym l.sight) (counts-told (saw s l.rest) e r (counts-saw s l.rest c))

-- ---- who is alone was alone

module _ (n : List ℕ) (seen rest mine : List Told) (some : length mine ≤ length (entries_of n seen)) (is : entries_of n (seen ++ rest) ≡ mine) where
  -- nothing of the number came since
  pub none-more : entries_of n rest ≡ []
  none-more =
      let a = ap (length {A = Told}) (sym (entries-append n seen rest) ∙ is) in
      let s : length mine ≤ length (entries_of n seen) = some in
      nothing (entries_of n rest) (omega (arith, a, s, length-append (entries_of n seen) (entries_of n rest)))

  -- so all of it was seen before
  pub all-before : entries_of n seen ≡ mine
  all-before = sym (append-nil (entries_of n seen)) ∙ (ap (λ (l : List Told). entries_of n seen ++ l) (sym none-more) ∙ (sym (entries-append n seen rest) ∙ is))

module _ (harmless : CoreEvent → Bool) where
  -- who is alone behind more that was seen was alone before it
  pub saw-before : (s : Sight) (rest : List Told) → Counts s → IsAlone harmless (saw s rest) → IsAlone harmless s
  saw-before s rest c a = record {
    others = λ x i. a.others x (in_left x s.seen rest i);
    own = all-before s.number s.seen rest s.mine c a.own;
  }

  -- and that was harmless
  pub saw-harmless : (s : Sight) (rest : List Told) → Counts s → IsAlone harmless (saw s rest) → AllPass harmless rest
  saw-harmless s rest c a x i = ⊎_elim
      (λ (own : x.by ≡ s.number). absurd (not-nothing s.number rest x i (sym own) (none-more s.number s.seen rest s.mine c a.own)))
      (λ (ok : harmless x.event ≡ true). ok)
      (a.others x (in_right x s.seen rest i))

  -- who is alone behind an event of one's own was alone before it
  pub told-before : (s : Sight) (e : CoreEvent) (r : CoreReply) → IsAlone harmless (told s e r) → IsAlone harmless s
  told-before s e r a = record {
    others = λ x i. a.others x (in_left x s.seen (entry s.number e r ∷ []) i);
    own = ends-same (entries_of s.number s.seen) s.mine (entry s.number e r)
        (ap (λ (l : List Told). entries_of s.number s.seen ++ l) (sym (entries-single s.number e r)) ∙ (sym (entries-append s.number s.seen (entry s.number e r ∷ [])) ∙ a.own));
  }

  -- an event of one's own leaves it so
  pub told-stays : (s : Sight) (e : CoreEvent) (r : CoreReply) → IsAlone harmless s → IsAlone harmless (told s e r)
  told-stays s e r a = record {
    others = λ x i. ⊎_elim (λ j. a.others x j)
        (λ j. ⊎_elim (λ (t : x ≡ entry s.number e r). inl (ap (λ (z : Told). z.by) t)) (λ k. absurd k) j)
        (in_append x s.seen (entry s.number e r ∷ []) i);
    own = entries-append s.number s.seen (entry s.number e r ∷ []) ∙ (ap (λ (l : List Told). entries_of s.number s.seen ++ l) (entries-single s.number e r) ∙ ap (λ (l : List Told). l ++ (entry s.number e r ∷ [])) a.own);
  }

  module _ (may : CoreEvent → Bool) (s t : Sight) (c : Counts s) where
    -- before a look
    pub looks-before : (l : Looks may s t) → IsAlone harmless t → IsAlone harmless s × AllPass harmless l.rest
    looks-before l a =
        let there : IsAlone harmless (saw s l.rest) = subst (IsAlone harmless) l.sight a in
        (saw-before s l.rest c there, saw-harmless s l.rest c there)

    -- before an event: then too, and right before it
    pub tells-before : (e : CoreEvent) (r : CoreReply) (l : Tells may s e r t) → IsAlone harmless t → IsAlone harmless s × AllPass harmless l.rest × IsAlone harmless (saw s l.rest)
    tells-before e r l a =
        let there : IsAlone harmless (saw s l.rest) = told-before (saw s l.rest) e r (subst (IsAlone harmless) l.sight a) in
        (saw-before s l.rest c there, saw-harmless s l.rest c there, there)
