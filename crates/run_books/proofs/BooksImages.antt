-- Parts of what the images keep of the books, as a run goes on.
use Rattle.std.proofs.Common.{◌≡◌, ◌<◌, inl, inr, ⊎_elim, ℕ, List, [], ◌∷◌, ◌++◌, true, sym, ap, ◌∙◌, subst, append-nil}
use Rattle.base_types.specs.declared.entries.Entry.{Entry}
use Rattle.host_trait.specs.World.{World, Disk, Passes}
use Rattle.core_model.specs.CoreState.{UnitNo, GrainId, Value, CoreState, Member}
use Rattle.core_model.specs.declared.events.CoreEvent.{CoreEvent}
use Rattle.core_model.specs.declared.effects.Effect.{Effect}
use Rattle.core_model.specs.Laws.{extended}
use Rattle.core_model.specs.LegalRuns.{Run, ends}
use Rattle.core_model.specs.SerialOrder.{chosen}
use Rattle.promise_spec.specs.Entries.{Log, grown}
use Rattle.promise_spec.specs.Programs.{Program, shape_in}
use Rattle.promise_spec.specs.Records.{Commit, AreRecordsOf}
use Rattle.promise_spec.specs.Logs.{IsLog}
use Rattle.promise_spec.specs.Outputs.{reply_lines}
use Rattle.promise_spec.specs.Journals.{Settlement, AllSay, JournalAt, DoubtAt, CutAt, Backs, commits_of, entries_of}
use Rattle.promise_laws.proofs.JournalCrashes.{commits_of-append}
use Rattle.promise_laws.proofs.JournalGrowth.{backs_on}
use Rattle.settler_rules.specs.Votes.{IsOfVote}
use Rattle.settler_rules.proofs.StandingVotes.{stands-later, left-later}
use Rattle.settler_rules.proofs.Commits.{doubt-stays}
use Rattle.run_books.specs.Books.{AreInDoubt}
use Rattle.run_books.specs.Images.{HasOpenBlock}
use Rattle.run_books.proofs.BooksLists.{alone, alone-commits}

module _ (live : ℕ) (p : Program) (opening : Log) (old : World) (said unsaid : List Settlement) (now : World) where
  whole-output : now.output ≡ old.output ++ (reply_lines (shape_in p) (entries_of said) ++ []) → now.output ≡ old.output ++ reply_lines (shape_in p) (entries_of said)
  whole-output q = q ∙ ap (λ (l : List ℕ). old.output ++ l) (append-nil (reply_lines (shape_in p) (entries_of said)))

  -- a cut without a rest, and with nothing in doubt, is whole
  pub uncut : CutAt live p opening old said unsaid [] [] now → JournalAt live p opening old said unsaid now
  uncut c = record {
    output = whole-output c.output;
    log = λ image left. ⊎_elim (λ x. x) (λ x. subst (λ (l : List Settlement). IsLog live image (grown opening (commits_of l))) (append-nil (said ++ unsaid)) x) (c.log image left);
    moments = subst (λ (l : List Settlement). Passes (AllSay live p opening old.output said l) old.past now.past) (append-nil (said ++ unsaid)) c.moments;
  }

  pub uncut-doubt : (batch : Settlement) → CutAt live p opening old said unsaid (batch ∷ []) [] now → DoubtAt live p opening old said unsaid batch now
  uncut-doubt batch c = record { output = whole-output c.output; log = c.log; moments = c.moments }

-- what entries without records acknowledge stands before them
pub backs-alone : (j : List Settlement) (more : List Entry) → Backs j (commits_of j) → Backs (j ++ alone more) (commits_of (j ++ alone more))
backs-alone j more backs =
    backs_on j (alone more) backs (λ e l said there is. subst (λ (cs : List Commit). Member l cs) (alone-commits more) there)
    (λ e l s front back split there added is. in-front l front s (subst (λ (cs : List Commit). Member l cs) same added))
  where
    same : commits_of (j ++ alone more) ≡ commits_of j
    same = commits_of-append j (alone more) ∙ ap (λ (l : List Commit). commits_of j ++ l) (alone-commits more) ∙ append-nil (commits_of j)

    member-left : {A : Type 0} (x : A) (xs ys : List A) → Member x xs → Member x (xs ++ ys)
    member-left x [] ys m = absurd m
    member-left x (z ∷ xs) ys (inl q) = inl q
    member-left x (z ∷ xs) ys (inr m) = inr (member-left x xs ys m)

    in-front : (l : Commit) (front : List Settlement) (s : Settlement) → Member l (commits_of j) → Member l (commits_of (j ++ (front ++ s ∷ [])))
    in-front l front s m = subst (λ (cs : List Commit). Member l cs) (sym (commits_of-append j (front ++ s ∷ []))) (member-left l (commits_of j) (commits_of (front ++ s ∷ [])) m)

-- a batch in doubt stays it
pub doubt-kept : (r : Run) (more : List CoreEvent) (d : List Settlement) → AreInDoubt (ends r) d → AreInDoubt (ends (extended r more)) d
doubt-kept r more [] is = tt
doubt-kept r more (batch ∷ []) is =
    let k = doubt-stays r more is.0 is.1 in
    (is.0, k.doubt ∙ is.1, subst (λ (es : List Effect). AreRecordsOf es batch.commits) (sym k.chosen) is.2, is.3)
doubt-kept r more (batch ∷ (another ∷ rest)) is = absurd is

-- and so does its block
pub block-kept : (live : ℕ) (log log' : Log) (w w' : CoreState) (disk : Disk) → log' ≡ log → chosen w' ≡ chosen w → HasOpenBlock live log w disk → HasOpenBlock live log' w' disk
block-kept live log log' w w' disk same chosen-same h = record {
  gate = h.gate;
  batch = h.batch;
  before = h.before;
  bodies = h.bodies;
  records = subst (λ (es : List Effect). AreRecordsOf es h.batch) (sym chosen-same) h.records;
  log_is = ⊎_elim (λ q. inl (same ∙ q)) (λ q. inr (same ∙ q)) h.log_is;
  reached = h.reached;
  session = h.session;
  follows = h.follows;
  front = h.front;
  block = h.block;
  differ = h.differ;
}

-- a vote's version stays one
pub vote-kept : (r : Run) (more : List CoreEvent) → 0 < r.base → (number : ℕ) (u : UnitNo) (g : GrainId) (state : List Value) → IsOfVote (ends r) number u g state → IsOfVote (ends (extended r more)) number u g state
vote-kept r more above number u g state s = record { vote = stands-later number g true r more s.vote; left = left-later u g state r more above s.left }
