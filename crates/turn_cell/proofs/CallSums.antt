-- For callers: calls, splits and joins add up, and what the passes know of their own entries they know of the whole history.
use Rattle.std.proofs.Common.{◌≡◌, ◌⊎◌, inl, inr, ⊎_elim, ℕ, List, [], ◌∷◌, ◌++◌, map, refl, sym, ap, ◌∙◌, subst}
use mathlib.Core.List.{append_assoc}
use Rattle.base_types.specs.Lists.{Member}
use Rattle.turn_cell.specs.declared.view.Entry.{Entry}
use Rattle.turn_cell.specs.declared.view.Kept.{Kept}
use Rattle.turn_cell.specs.declared.view.Hand.{Hand}
use Rattle.turn_cell.specs.declared.view.View.{View}
use Rattle.turn_cell.specs.History.{StartsWith, entry, leaves, IsLegal}
use Rattle.turn_cell.specs.Hands.{number_of, kept, next_number, joined_hand, first_hand, IsWhole}
use Rattle.turn_cell.specs.Passes.{splitter_view, split_off_view, state_seen, SeesLegal, Sees, Adds, Joins, Closes}
use Rattle.turn_cell.specs.PassContracts.{Continues, Gathers}
use Rattle.turn_cell.proofs.Lists.{in_append, in_left, in_right, in_map, from_map}
use Rattle.turn_cell.proofs.Histories.{in_entries, starts_self, starts_on, leaves_append, legal_front, legal_back}

module _ {T E R : Type 0} (P : List (Entry E R) → Type 0) where
  -- nothing was done
  pub continues_same : (v : View T E R) → Continues P v v
  continues_same v = record { first = refl; seen = starts_self v.seen; number = refl; splits = refl; split_off = refl; joined = refl; mine = λ p. p }

  -- one thing after another
  pub continues_on : (u v w : View T E R) → Continues P u v → Continues P v w → Continues P u w
  continues_on u v w a b = record {
    first = b.first ∙ a.first;
    seen = starts_on u.seen v.seen w.seen a.seen b.seen;
    number = b.number ∙ a.number;
    splits = b.splits ∙ a.splits;
    split_off = b.split_off ∙ a.split_off;
    joined = b.joined ∙ a.joined;
    mine = λ p. b.mine (a.mine p);
  }

  -- a pass that was neither split nor joined has gathered what was split off, which is nothing
  pub gathers_continued : (v w : View T E R) → Continues P v w → Gathers P v w
  gathers_continued v w c = record {
    first = c.first;
    seen = c.seen;
    number = c.number;
    told = λ n x. inl (subst (Member n) c.split_off x);
    stay = λ n x. subst (λ (l : List (Kept E R)). Member n (map number_of l)) (sym c.joined) x;
    mine = c.mine;
    theirs = λ all k x. all k (subst (Member k) c.joined x);
  }

  -- a pass is split, both are carried on, and they are joined
  module _ (v w r u : View T E R) (g : Gathers P (splitter_view v) w) (h : Gathers P (split_off_view v) r) (none : P []) (first : u.first ≡ w.first) (seen : StartsWith u.seen w.seen) (hand : u.hand ≡ joined_hand w.hand r.hand) where
    all : List (Kept E R)
    all = w.hand.joined ++ kept r.hand.number r.hand.mine ∷ r.hand.joined

    joined_is : u.hand.joined ≡ all
    unfolding all
    joined_is = ap (λ (x : Hand E R). x.joined) hand

    to : (n : List ℕ) → Member n (map number_of all) → Member n (map number_of u.hand.joined)
    to n x = subst (λ (l : List (Kept E R)). Member n (map number_of l)) (sym joined_is) x

    ours : (n : List ℕ) → Member n (map number_of w.hand.joined) → Member n (map number_of u.hand.joined)
    unfolding all
    ours n x = let m = from_map number_of n w.hand.joined x in
        to n (subst (λ (z : List ℕ). Member z (map number_of all)) m.2 (in_map number_of m.0 all (in_left m.0 w.hand.joined (kept r.hand.number r.hand.mine ∷ r.hand.joined) m.1)))

    theirs : (n : List ℕ) → Member n (map number_of r.hand.joined) → Member n (map number_of u.hand.joined)
    unfolding all
    theirs n x = let m = from_map number_of n r.hand.joined x in
        to n (subst (λ (z : List ℕ). Member z (map number_of all)) m.2 (in_map number_of m.0 all (in_right m.0 w.hand.joined (kept r.hand.number r.hand.mine ∷ r.hand.joined) (inr m.1))))

    new : Member (next_number v.hand) (map number_of u.hand.joined)
    unfolding all
    new = to (next_number v.hand)
        (subst (λ (z : List ℕ). Member z (map number_of all)) h.number (in_map number_of (kept r.hand.number r.hand.mine) all (in_right (kept r.hand.number r.hand.mine) w.hand.joined (kept r.hand.number r.hand.mine ∷ r.hand.joined) (inl refl))))

    pub gathers_joined : Gathers P v u
    unfolding all
    gathers_joined = record {
      first = first ∙ g.first;
      seen = starts_on v.seen w.seen u.seen g.seen seen;
      number = ap (λ (x : Hand E R). x.number) hand ∙ g.number;
      told = λ n x. ⊎_elim
          (λ y. ⊎_elim
          (λ z. ⊎_elim (λ (t : n ≡ next_number v.hand). inr (subst (λ (q : List ℕ). Member q (map number_of u.hand.joined)) (sym t) new)) inl z)
          (λ z. inr (ours n z))
          (g.told n y))
          (λ y. ⊎_elim (λ z. absurd z) (λ z. inr (theirs n z)) (h.told n y))
          (in_append n w.hand.split_off r.hand.split_off (subst (λ (x : Hand E R). Member n x.split_off) hand x));
      stay = λ n x. ours n (g.stay n x);
      mine = λ p. subst (λ (x : Hand E R). P x.mine) (sym hand) (g.mine p);
      theirs = λ each k x. ⊎_elim
          (g.theirs each k)
          (λ y. ⊎_elim (λ (t : k ≡ kept r.hand.number r.hand.mine). subst (λ (z : Kept E R). P z.mine) (sym t) (h.mine none)) (h.theirs (λ i z. absurd z) k) y)
          (in_append k w.hand.joined (kept r.hand.number r.hand.mine ∷ r.hand.joined) (subst (Member k) joined_is x));
    }

  -- where the first pass gathered all, the cell may be closed
  pub whole_gathered : (v w : View T E R) → v.hand ≡ first_hand → Gathers P v w → IsWhole w.hand
  whole_gathered v w is g = (g.number ∙ ap (λ (x : Hand E R). x.number) is, λ n x. ⊎_elim (λ y. absurd (subst (λ (h : Hand E R). Member n h.split_off) is y)) (λ y. y) (g.told n x))

module _ {T S E R : Type 0} (state : T → S) (after : S → E → S) (reply : S → E → R) (P : List (Entry E R) → Type 0) where
  -- a question, or a call that was refused
  pub continues_sees : (v w : View T E R) → Sees state after reply v w → Continues P v w
  continues_sees v w s = subst (Continues P v) (sym s.1) record { first = refl; seen = (s.0, refl); number = refl; splits = refl; split_off = refl; joined = refl; mine = λ p. p }

  -- a call
  pub continues_adds : (v w : View T E R) (event : E) (said : R) → Adds state after reply v event said w → (P v.hand.mine → P (v.hand.mine ++ entry v.hand.number event said ∷ [])) → Continues P v w
  continues_adds v w event said a holds = subst (Continues P v) (sym a.1)
      record { first = refl; seen = (a.0 ++ entry v.hand.number event said ∷ [], append_assoc v.seen a.0 (entry v.hand.number event said ∷ [])); number = refl; splits = refl; split_off = refl; joined = refl; mine = holds }

  -- the same of the views that `split` and `join` tell of
  pub gathers_split : (v l w k r u : View T E R) → l ≡ splitter_view v → k ≡ split_off_view v → Gathers P l w → Gathers P k r → P [] → Joins state after reply w r u → Gathers P v u
  gathers_split v l w k r u is_l is_k g h none j = gathers_joined P v w r u (subst (λ (z : View T E R). Gathers P z w) is_l g) (subst (λ (z : View T E R). Gathers P z r) is_k h) none j.first j.one j.hand

module _ {T S E R : Type 0} (state : T → S) (after : S → E → S) (reply : S → E → R) where
  -- each entry of the whole history is of the pass, or of one that was joined into it
  pub closes_all : (v : View T E R) (o : T) (c : Closes state after reply v o) (e : Entry E R) → Member e c.log → Member e v.hand.mine ⊎ ((k : Kept E R) × Member k v.hand.joined × Member e k.mine)
  closes_all v o c e x = ⊎_elim
      (λ t. inl (subst (Member e) c.mine (in_entries c.log v.hand.number e (sym t) x)))
      (λ t. let m = from_map number_of e.by v.hand.joined t in inr (m.0, m.1, subst (Member e) (c.theirs m.0 m.1) (in_entries c.log m.0.number e m.2 x)))
      (c.whose e x)

  -- What others put leads from the state that the pass had seen to the state of which it sees now
  pub see_leads : (v w : View T E R) → Sees state after reply v w → (rest : List (Entry E R)) × IsLegal after reply (state_seen state after reply v) rest × (state_seen state after reply w ≡ leaves after reply (state_seen state after reply v) rest)
  see_leads v w s =
      let legal : IsLegal after reply (state v.first) (v.seen ++ s.0) = subst (SeesLegal state after reply) s.1 s.2 in
      (s.0, legal_back after reply (state v.first) v.seen s.0 legal, ap (state_seen state after reply) s.1 ∙ leaves_append after reply (state v.first) v.seen s.0)

  -- What others put leads from the state that the pass had seen to one that gives this reply, and then comes the event
  pub put_leads : (v w : View T E R) (event : E) (said : R) → Adds state after reply v event said w
      → (rest : List (Entry E R)) × IsLegal after reply (state_seen state after reply v) rest × (said ≡ reply (leaves after reply (state_seen state after reply v) rest) event)
      × (state_seen state after reply w ≡ after (leaves after reply (state_seen state after reply v) rest) event)
  put_leads v w event said a =
      let new : List (Entry E R) = entry v.hand.number event said ∷ [] in
      let grows : (v.seen ++ a.0) ++ new ≡ v.seen ++ (a.0 ++ new) = append_assoc v.seen a.0 new in
      let whole : IsLegal after reply (state v.first) (v.seen ++ (a.0 ++ new)) = subst (IsLegal after reply (state v.first)) grows (subst (SeesLegal state after reply) a.1 a.2) in
      let rest : IsLegal after reply (state_seen state after reply v) (a.0 ++ new) = legal_back after reply (state v.first) v.seen (a.0 ++ new) whole in (
        a.0,
        legal_front after reply (state_seen state after reply v) a.0 new rest,
        (legal_back after reply (state_seen state after reply v) a.0 new rest).0,
        ap (state_seen state after reply) a.1 ∙ (ap (leaves after reply (state v.first)) grows ∙ (leaves_append after reply (state v.first) v.seen (a.0 ++ new) ∙ leaves_append after reply (state_seen state after reply v) a.0 new)),
      )
