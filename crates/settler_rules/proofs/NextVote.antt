-- The settler's next vote.
use Rattle.std.proofs.Common.{◌≡◌, ◌≢◌, ℕ, zero, suc, ◌<◌, List, [], ◌∷◌, ◌++◌, length, get_or, take, drop, Bool, true, false, ◌&&◌, not, inl, inr, refl, sym, ap, ◌∙◌, subst, arith, Option, Some, None, is_some, nat_lt, eqb-true}
use Rattle.std.specs.Prelude.{◌==◌, if◌then◌else◌}
use Rattle.std.proofs.lemmas.Bool.{and_parts, cond_both, not-true}
use Rattle.cell_model.proofs.Units.{Member-last, any-false, same_grain-false}
use Rattle.core_model.specs.CoreState.{UnitNo, GrainId, nobody, Member, Version, Batch, CoreState}
use Rattle.core_model.specs.declared.phases.Phase.TheVariants.{Finished}
use Rattle.core_model.specs.Tests.{any, is_vote_on, members}
use Rattle.core_model.specs.Changes.{voted, on_batch, swept, swept_by}
use Rattle.core_model.specs.Events.{applies, can, does, is_allowed, is_open, step}
use Rattle.core_model.specs.declared.events.CoreEvent.TheVariants.{Take, Vote}
use Rattle.core_model.specs.Laws.{extended}
use Rattle.core_model.specs.LearnQueue.{next_learn}
use Rattle.core_model.specs.WantedGrains.{next_wanted}
use Rattle.core_model.specs.LegalRuns.{Run, ends}
use Rattle.core_model.specs.Settler.{Step, Votes, Decides, Seals, Learns, Writes, Loads, Takes, Rests, settler_step, batch_step, undecided_step, later_step, learn_step, load_step, last_step, first_unvoted, versions_to_write}
use Rattle.core_laws.proofs.LoadlessLaws.{holds-ends}
use Rattle.core_laws.proofs.SettlerSteps.{find-some, shows-versions}
use Rattle.core_laws.proofs.Votes.{Member-drop}
use Rattle.settler_rules.specs.Votes.{IsUnvoted, VoteStands, HasLeft}
use Rattle.settler_rules.proofs.StandingVotes.{some-is, ends-more, numbered-ends}

-- ---- which step is a vote

-- a vote's batch and grain
abbrev vote_of : Step → Option (ℕ × GrainId)
vote_of (Votes n g) = Some (n, g)
vote_of (Decides n) = None
vote_of (Seals n) = None
vote_of (Learns u g) = None
vote_of Writes = None
vote_of (Loads g) = None
vote_of Takes = None
vote_of Rests = None

load-none : (w : CoreState) (o : Option GrainId) → vote_of (load_step w o) ≡ None
load-none w None = cond_both (applies w Take) Takes Rests (λ s. vote_of s ≡ None) (λ f. refl) (λ f. refl)
load-none w (Some g) = refl

last-none : (w : CoreState) (may : Bool) → vote_of (last_step w may) ≡ None
last-none w may = cond_both (nat_lt w.manager.emitted (length w.manager.settled)) Writes (if may && not w.units.halt then load_step w (next_wanted w) else Rests) (λ s. vote_of s ≡ None)
    (λ e. refl)
    (λ e. cond_both (may && not w.units.halt) (load_step w (next_wanted w)) Rests (λ s. vote_of s ≡ None) (λ f. load-none w (next_wanted w)) (λ f. refl))

learn-none : (w : CoreState) (o : Option (UnitNo × GrainId)) → vote_of (learn_step w o) ≡ None
learn-none w None = last-none w true
learn-none w (Some x) = refl

later-none : (w : CoreState) → vote_of (later_step w) ≡ None
later-none w = cond_both (is_some w.manager.doubt) (last_step w false) (learn_step w (next_learn w)) (λ s. vote_of s ≡ None) (λ e. last-none w false) (λ e. learn-none w (next_learn w))

-- a vote is on a grain of the open batch's plan that has none
pub unvoted : (w : CoreState) (n : ℕ) (g : GrainId) → settler_step w ≡ Votes n g → IsUnvoted w n g
unvoted w n g is = by_batch w.manager.batch refl is
  where
    nothing : (x : ℕ × GrainId) → None ≡ Some x → ⊥
    nothing x z = cc

    never : (s : Step) → vote_of s ≡ None → s ≡ Votes n g → IsUnvoted w n g
    never s none q = absurd (nothing (n, g) (sym none ∙ ap vote_of q))

    by_grain : (b : Batch) → w.manager.batch ≡ Some b → b.decisions ≡ None → (o : Option GrainId) → first_unvoted b ≡ o → undecided_step b.number o ≡ Votes n g → IsUnvoted w n g
    by_grain b q d None f s = never (undecided_step b.number None) refl s
    by_grain b q d (Some k) f s =
        let pair : (b.number, k) ≡ (n, g) = some-is (b.number, k) (n, g) (ap vote_of s) in
        let grain : k ≡ g = ap (λ (x : ℕ × GrainId). x.1) pair in
        let found = find-some (λ h. not (any (is_vote_on h) b.votes)) b.plan g (f ∙ ap Some grain) in
        let none : any (is_vote_on g) b.votes ≡ false = not-true (any (is_vote_on g) b.votes) found.1 in
        record {
          batch = b;
          is_open = q;
          number = ap (λ (x : ℕ × GrainId). x.0) pair;
          undecided = d;
          planned = found.0;
          unvoted = λ v m e. same_grain-false v.0 g (any-false (is_vote_on g) b.votes none v m) e;
        }

    by_decisions : (b : Batch) → w.manager.batch ≡ Some b → (o : Bool) → is_some b.decisions ≡ o → (if o then Seals b.number else undecided_step b.number (first_unvoted b)) ≡ Votes n g → IsUnvoted w n g
    by_decisions b q true d s = never (Seals b.number) refl s
    by_decisions b q false d s = by_grain b q (none-is b.decisions d) (first_unvoted b) refl s
      where
        none-is : {A : Type 0} (o : Option A) → is_some o ≡ false → o ≡ None
        none-is None e = refl
        none-is (Some x) e = absurd cc

    by_batch : (o : Option Batch) → w.manager.batch ≡ o → batch_step w o ≡ Votes n g → IsUnvoted w n g
    by_batch None q s = never (later_step w) (later-none w) s
    by_batch (Some b) q s = by_decisions b q (is_some b.decisions) refl s

-- so it is on another grain than those that have one
pub other-grain : (w : CoreState) (n : ℕ) (g k : GrainId) (kept : Bool) → settler_step w ≡ Votes n g → VoteStands w n k kept → k ≢ g
other-grain w n g k kept is stands =
    let u = unvoted w n g is in
    u.unvoted (k, kept) (stands.stands u.batch u.is_open u.number)

-- ---- after a vote

swept-manager : (w : CoreState) → (swept w).manager ≡ w.manager
swept-manager w = go w.cells.capacity
  where
    go : (c : Option ℕ) → (swept_by w c).manager ≡ w.manager
    go None = refl
    go (Some m) = refl

-- a batch that is open
open-batch : (n : ℕ) (test : Batch → Bool) (o : Option Batch) → is_open n test o ≡ true → (b : Batch) × (o ≡ Some b) × (b.number ≡ n)
open-batch n test None e = absurd cc
open-batch n test (Some b) e = (b, refl, eqb-true b.number n (and_parts (b.number == n) _ e).0)

-- the vote stands
vote-stands : (w : CoreState) (n : ℕ) (g : GrainId) (kept : Bool) → ((b : Batch) → w.manager.batch ≡ Some b → b.number ≡ w.manager.batches) → applies w (Vote n g kept) ≡ true → VoteStands (step w (Vote n g kept)) n g kept
vote-stands w n g kept numbered a =
    let found = open-batch n _ w.manager.batch (and_parts (is_allowed w (Vote n g kept)) (can w (Vote n g kept)) a).1 in
    let b : Batch = found.0 in
    let batch : (step w (Vote n g kept)).manager.batch ≡ Some (record b { votes = b.votes ++ (g, kept) ∷ [] }) =
    ap (λ (v : CoreState). v.manager.batch) now ∙ ap (λ m. m.batch) (swept-manager (does w (Vote n g kept))) ∙ ap (λ o. (on_batch w (λ c. voted w c g kept) o).manager.batch) found.1 in
    let count : (step w (Vote n g kept)).manager.batches ≡ w.manager.batches =
    ap (λ (v : CoreState). v.manager.batches) now ∙ ap (λ m. m.batches) (swept-manager (does w (Vote n g kept))) ∙ ap (λ o. (on_batch w (λ c. voted w c g kept) o).manager.batches) found.1 in
    let number : n ≡ w.manager.batches = sym found.2 ∙ numbered b found.1 in
    record {
      taken = omega (arith, count, number);
      stands = λ c z is.
          (let of = some-is (record b { votes = b.votes ++ (g, kept) ∷ [] }) c (sym batch ∙ z) in
          subst (λ (x : Batch). Member (g, kept) x.votes) of (Member-last (g, kept) b.votes));
    }
  where
    now : step w (Vote n g kept) ≡ swept (does w (Vote n g kept))
    now = ap (λ t. if t then swept (does w (Vote n g kept)) else w) a

pub vote-made : (r : Run) (n : ℕ) (g : GrainId) (kept : Bool) → applies (ends r) (Vote n g kept) ≡ true → VoteStands (ends (extended r (Vote n g kept ∷ []))) n g kept
vote-made r n g kept a = subst (λ (w : CoreState). VoteStands w n g kept) (sym (ends-more r (Vote n g kept ∷ []))) (vote-stands (ends r) n g kept (numbered-ends r) a)

-- ---- what is shown

member-take : {A : Type 0} (k : ℕ) (xs : List A) (x : A) → Member x (take k xs) → Member x xs
member-take zero xs x m = absurd m
member-take (suc k) [] x m = absurd m
member-take (suc k) (y ∷ xs) x (inl e) = inl e
member-take (suc k) (y ∷ xs) x (inr m) = inr (member-take k xs x m)

member-at : (xs : List UnitNo) (x : UnitNo) → Member x xs → (i : ℕ) × (i < length xs) × (get_or xs i nobody ≡ x)
member-at [] x m = absurd m
member-at (y ∷ xs) x (inl e) = (0, omega arith, sym e)
member-at (y ∷ xs) x (inr m) = (let t = member-at xs x m in (suc t.0, omega (arith, t.1), t.2))

-- units of the open batch have finished
pub member-over : (r : Run) → 0 < r.base → (b : Batch) (u : UnitNo) → Member u (members (ends r) b) → (ends r).units.phase u ≡ Finished
member-over r above b u m =
    let order = (ends r).manager.order in
    let t = member-at order u (Member-drop (ends r).manager.closed u order (member-take b.size (drop (ends r).manager.closed order) u m)) in
    subst (λ (x : UnitNo). (ends r).units.phase x ≡ Finished) t.2 ((holds-ends r above).prefix.order.listed t.0 t.1).0

-- what is shown for a vote is what finished units wrote
pub shown-left : (r : Run) → 0 < r.base → (b : Batch) (g : GrainId) (x : Version) → Member x (versions_to_write (ends r) (Some b) g) → HasLeft (ends r) x.unit g x.state
shown-left r above b g x m =
    let t = (shows-versions (ends r) b g).only x m in
    (member-over r above b x.unit t.0, t.2)

-- whatever batch is open
pub shown-any : (r : Run) → 0 < r.base → (g : GrainId) (x : Version) → Member x (versions_to_write (ends r) (ends r).manager.batch g) → HasLeft (ends r) x.unit g x.state
shown-any r above g x m = by_batch (ends r).manager.batch m
  where
    by_batch : (o : Option Batch) → Member x (versions_to_write (ends r) o g) → HasLeft (ends r) x.unit g x.state
    by_batch None n = absurd n
    by_batch (Some b) n = shown-left r above b g x n
