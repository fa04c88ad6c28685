-- Passes are split and joined, and the cell is closed: what was known of each stays known.
use Rattle.std.proofs.Common.{◌≡◌, inl, inr, ⊎_elim, ℕ, List, [], ◌∷◌, ◌++◌, map, refl, sym, ap, ◌∙◌, subst}
use Rattle.base_types.specs.Lists.{Member}
use Rattle.core_model.specs.declared.events.CoreEvent.{CoreEvent}
use Rattle.core_model.specs.declared.events.CoreReply.{CoreReply}
use Rattle.core_model.specs.Laws.{extended}
use Rattle.core_model.specs.LegalRuns.{Run}
use Rattle.turn_cell.specs.declared.view.Kept.{Kept}
use Rattle.turn_cell.specs.declared.view.Hand.{Hand}
use Rattle.turn_cell.specs.declared.view.View.{View}
use Rattle.turn_cell.specs.History.{StartsWith, entries_of}
use Rattle.turn_cell.specs.Hands.{number_of, kept, next_number, first_hand, IsWhole}
use Rattle.turn_cell.specs.Passes.{splitter_view, split_off_view, Joins, Closes}
use Rattle.turn_cell.proofs.Lists.{in_append, in_left, in_right, in_map, from_map}
use Rattle.turn_cell.proofs.Histories.{starts_self, starts_on}
use Rattle.core_access.specs.Histories.{Told, reply_in, run_after, IsTrue}
use Rattle.core_access.specs.Sights.{Sight}
use Rattle.worker_rules.specs.JoinedPasses.{sight_by, Knew, WasShown, Returns, GathersSights}
use Rattle.worker_rules.specs.ClosedCore.{IsClosed}

-- ---- what was known

-- as more is seen
pub knew-more : (P : Sight → Type 0) (first : Run) (number : List ℕ) (s t mine : List Told) → StartsWith t s → Knew P first number s mine → Knew P first number t mine
knew-more P first number s t mine more k = record { shown = k.shown; begins = starts_on k.shown s t k.begins more; holds = k.holds }

-- and less of it
abbrev pub knew-less : (P Q : Sight → Type 0) → ((s : Sight) → P s → Q s) → (first : Run) (number : List ℕ) (seen mine : List Told) → Knew P first number seen mine → Knew Q first number seen mine
knew-less P Q less first number seen mine k = record { shown = k.shown; begins = k.begins; holds = less (sight_by first number k.shown mine) k.holds }

-- what was shown, as more is seen
pub shown-more : (P : Run → Type 0) (first : Run) (s t : List Told) → StartsWith t s → WasShown P first s → WasShown P first t
shown-more P first s t more k = (k.0, starts_on k.0 s t k.1 more, k.2)

-- ---- passes

module _ {T : Type 0} (state : T → Run) where
  -- a pass that only made calls has gathered what was split off, which is nothing
  pub gathers-returns : (Own Their : Sight → Type 0) (v w : View T CoreEvent CoreReply) → Returns state Own v w → GathersSights state Own Their v w
  gathers-returns Own Their v w c = record {
    first = c.first;
    seen = c.seen;
    number = c.number;
    told = λ n x. inl (subst (Member n) c.split_off x);
    stay = λ n x. subst (λ (l : List (Kept CoreEvent CoreReply)). Member n (map number_of l)) (sym c.joined) x;
    own = record {
      shown = w.seen;
      begins = starts_self w.seen;
      holds = subst (λ (n : List ℕ). Own (sight_by (state v.first) n w.seen w.hand.mine)) c.number
          (subst (λ (o : Run). Own (sight_by o w.hand.number w.seen w.hand.mine)) c.first c.holds);
    };
    theirs = λ k x. inl (subst (Member k) c.joined x);
  }

  -- less is known
  pub gathers-less : (Own Own' Their Their' : Sight → Type 0) → ((s : Sight) → Own s → Own' s) → ((s : Sight) → Their s → Their' s)
      → (v w : View T CoreEvent CoreReply) → GathersSights state Own Their v w → GathersSights state Own' Their' v w
  gathers-less Own Own' Their Their' own their v w g = record {
    first = g.first;
    seen = g.seen;
    number = g.number;
    told = g.told;
    stay = g.stay;
    own = knew-less Own Own' own (state v.first) v.hand.number w.seen w.hand.mine g.own;
    theirs = λ k x. ⊎_elim inl (λ z. inr (knew-less Their Their' their (state v.first) k.number w.seen k.mine z)) (g.theirs k x);
  }

  -- a pass is split, the one gathers, the other makes calls, and they are joined
  module _ (Own Their : Sight → Type 0) (v w r u : View T CoreEvent CoreReply) (g : GathersSights state Own Their (splitter_view v) w) (h : Returns state Their (split_off_view v) r)
      (j : Joins state (λ x e. extended x (e ∷ [])) reply_in w r u) where
    all : List (Kept CoreEvent CoreReply)
    all = w.hand.joined ++ kept r.hand.number r.hand.mine ∷ r.hand.joined

    joined_is : u.hand.joined ≡ all
    unfolding all
    joined_is = ap (λ (x : Hand CoreEvent CoreReply). x.joined) j.hand

    to : (n : List ℕ) → Member n (map number_of all) → Member n (map number_of u.hand.joined)
    to n x = subst (λ (l : List (Kept CoreEvent CoreReply)). Member n (map number_of l)) (sym joined_is) x

    ours : (n : List ℕ) → Member n (map number_of w.hand.joined) → Member n (map number_of u.hand.joined)
    unfolding all
    ours n x = let m = from_map number_of n w.hand.joined x in
        to n (subst (λ (z : List ℕ). Member z (map number_of all)) m.2 (in_map number_of m.0 all (in_left m.0 w.hand.joined (kept r.hand.number r.hand.mine ∷ r.hand.joined) m.1)))

    new : Member (next_number v.hand) (map number_of u.hand.joined)
    unfolding all
    new = to (next_number v.hand)
        (subst (λ (z : List ℕ). Member z (map number_of all)) h.number
        (in_map number_of (kept r.hand.number r.hand.mine) all (in_right (kept r.hand.number r.hand.mine) w.hand.joined (kept r.hand.number r.hand.mine ∷ r.hand.joined) (inl refl))))

    firsts : state u.first ≡ state v.first
    firsts = ap state j.first ∙ g.first

    -- what was known of the pass that was split off
    theirs-new : Knew Their (state v.first) r.hand.number u.seen r.hand.mine
    theirs-new = record {
      shown = r.seen;
      begins = j.other;
      holds = subst (λ (o : Run). Their (sight_by o r.hand.number r.seen r.hand.mine)) h.first h.holds;
    }

    mine-is : u.hand.mine ≡ w.hand.mine
    mine-is = ap (λ (x : Hand CoreEvent CoreReply). x.mine) j.hand

    pub gathers-joined : GathersSights state Own Their v u
    unfolding all
    gathers-joined = record {
      first = firsts;
      seen = starts_on v.seen w.seen u.seen g.seen j.one;
      number = ap (λ (x : Hand CoreEvent CoreReply). x.number) j.hand ∙ g.number;
      told = λ n x. ⊎_elim
          (λ y. ⊎_elim
          (λ z. ⊎_elim (λ (t : n ≡ next_number v.hand). inr (subst (λ (q : List ℕ). Member q (map number_of u.hand.joined)) (sym t) new)) inl z)
          (λ z. inr (ours n z))
          (g.told n y))
          (λ y. absurd (subst (Member n) h.split_off y))
          (in_append n w.hand.split_off r.hand.split_off (subst (λ (x : Hand CoreEvent CoreReply). Member n x.split_off) j.hand x));
      stay = λ n x. ours n (g.stay n x);
      own = subst (Knew Own (state v.first) v.hand.number u.seen) (sym mine-is) (knew-more Own (state v.first) v.hand.number w.seen u.seen w.hand.mine j.one g.own);
      theirs = λ k x. ⊎_elim
          (λ y. ⊎_elim inl (λ z. inr (knew-more Their (state v.first) k.number w.seen u.seen k.mine j.one z)) (g.theirs k y))
          (λ y. ⊎_elim
          (λ (t : k ≡ kept r.hand.number r.hand.mine). inr (subst (λ (z : Kept CoreEvent CoreReply). Knew Their (state v.first) z.number u.seen z.mine) (sym t) theirs-new))
          (λ z. absurd (subst (Member k) h.joined z))
          y)
          (in_append k w.hand.joined (kept r.hand.number r.hand.mine ∷ r.hand.joined) (subst (Member k) joined_is x));
    }

  -- the same of the views that `split` and `join` tell of
  pub gathers-split : (Own Their : Sight → Type 0) (v l w k r u : View T CoreEvent CoreReply) → l ≡ splitter_view v → k ≡ split_off_view v → GathersSights state Own Their l w → Returns state Their k r
      → Joins state (λ x e. extended x (e ∷ [])) reply_in w r u → GathersSights state Own Their v u
  gathers-split Own Their v l w k r u is_l is_k g h j = gathers-joined Own Their v w r u
      (subst (λ (z : View T CoreEvent CoreReply). GathersSights state Own Their z w) is_l g)
      (subst (λ (z : View T CoreEvent CoreReply). Returns state Their z r) is_k h) j

  -- where the first pass gathered all, the cell may be closed
  pub whole-gathered : (Own Their : Sight → Type 0) (v w : View T CoreEvent CoreReply) → v.hand ≡ first_hand → GathersSights state Own Their v w → IsWhole w.hand
  whole-gathered Own Their v w is g = (
    g.number ∙ ap (λ (x : Hand CoreEvent CoreReply). x.number) is,
    λ n x. ⊎_elim (λ y. absurd (subst (λ (h : Hand CoreEvent CoreReply). Member n h.split_off) is y)) (λ y. y) (g.told n x),
  )

  -- and then what was known is known of the whole history
  module _ (Own Their : Sight → Type 0) (v w : View T CoreEvent CoreReply) (o : T) (is : v.hand ≡ first_hand) (g : GathersSights state Own Their v w)
      (c : Closes state (λ x e. extended x (e ∷ [])) reply_in w o) where
    number-is : w.hand.number ≡ []
    number-is = g.number ∙ ap (λ (x : Hand CoreEvent CoreReply). x.number) is

    mine-all : w.hand.mine ≡ entries_of [] c.log
    mine-all = sym c.mine ∙ ap (λ (n : List ℕ). entries_of n c.log) number-is

    ours-known : Knew Own (state v.first) [] c.log (entries_of [] c.log)
    ours-known = subst (Knew Own (state v.first) [] c.log) mine-all
        (subst (λ (n : List ℕ). Knew Own (state v.first) n c.log w.hand.mine) (ap (λ (x : Hand CoreEvent CoreReply). x.number) is)
        (knew-more Own (state v.first) v.hand.number w.seen c.log w.hand.mine c.begins g.own))

    others-known : (k : Kept CoreEvent CoreReply) → Member k w.hand.joined → Knew Their (state v.first) k.number c.log (entries_of k.number c.log)
    others-known k i = ⊎_elim
        (λ z. absurd (subst (λ (h : Hand CoreEvent CoreReply). Member k h.joined) is z))
        (λ z. subst (Knew Their (state v.first) k.number c.log) (sym (c.theirs k i)) (knew-more Their (state v.first) k.number w.seen c.log k.mine c.begins z))
        (g.theirs k i)

    pub closes-known : IsClosed Own Their (state v.first) (state o)
    closes-known = record {
      log = c.log;
      legal = subst (λ (r : Run). IsTrue r c.log) g.first c.legal;
      left = c.object ∙ ap (λ (r : Run). run_after r c.log) g.first;
      own = ours-known;
      theirs = λ x i. ⊎_elim
          (λ t. inl (t ∙ number-is))
          (λ t. let k = from_map number_of x.by w.hand.joined t in
          inr (subst (λ (n : List ℕ). Knew Their (state v.first) n c.log (entries_of n c.log)) k.2 (others-known k.0 k.1)))
          (c.whose x i);
    }

    -- and what was shown of its first part
    pub closes-shown : (P : Run → Type 0) → WasShown P (state v.first) w.seen → WasShown P (state v.first) c.log
    closes-shown P s = shown-more P (state v.first) w.seen c.log c.begins s
