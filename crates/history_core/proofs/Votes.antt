-- When a vote applies, and the state after it.
use Rattle.std.proofs.Common.{◌≡◌, ℕ, ◌≤◌, List, [], ◌∷◌, ◌++◌, Bool, true, false, ◌&&◌, not, refl, sym, ap, ◌∙◌, subst, Option, Some, None, take, is_none}
use Rattle.std.specs.Prelude.{◌==◌}
use Rattle.std.specs.List.{list_any as any}
use Rattle.std.proofs.lemmas.Bool.{and_parts}
use Rattle.cell_model.specs.Units.{same_grain}
use Rattle.core_model.specs.CoreState.{UnitNo, GrainId, Batch, CoreState}
use Rattle.core_model.specs.declared.events.CoreEvent.TheVariants.{Vote}
use Rattle.core_model.specs.declared.events.CoreReply.TheVariants as reply
use Rattle.core_model.specs.Tests.{is_planned, is_vote_on}
use Rattle.core_model.specs.Changes.{on_batch, voted}
use Rattle.core_model.specs.Events.{can, does, is_open}
use Rattle.open_batch.specs.declared.members.FinishedUnit.{FinishedUnit}
use Rattle.core_parts.specs.States.{has_place}
use Rattle.open_batch.specs.TakenBatch.{TakenBatch, with_vote}
use Rattle.open_batch.specs.ShownBatch.{ShowsBatch}
use Rattle.open_batch.proofs.Stages.{shows-vote, may_vote-link}
use Rattle.history_core.specs.declared.parts.Parts.{Parts}
use Rattle.history_core.specs.Batches.{may_vote_in}
use Rattle.history_core.specs.KeptParts.{PartsStand, IsCoreReached, ShowsOpen, ShowsTakenBatch, AllPlaced, EachPlaced, owed_in, writes_in}
use Rattle.history_core.specs.Steps.{CanDo, Does}
use Rattle.history_core.proofs.OpenBatches.{to-cases, from-cases, each-placed, placed-each}
use Rattle.history_core.proofs.OneEvent.{can-is}
use Rattle.history_core.proofs.Sweeps.{unmoved}

pub may-vote-is : (o : Option TakenBatch) (ms : List FinishedUnit) (b : Option Batch) (n : ℕ) (g : GrainId) → ShowsOpen o ms b →
    may_vote_in o n g ≡ is_open n (λ c. is_planned c g && not (any (is_vote_on g) c.votes)) b
may-vote-is None ms None n g s = refl
may-vote-is None ms (Some b) n g s = absurd s
may-vote-is (Some x) ms None n g s = absurd s
may-vote-is (Some x) ms (Some b) n g s = λ i. (s.number i == n) && (is_none (s.decisions i) && may_vote-link x (take b.size ms) b g s i)

pub may-vote : (p : Parts) (n : ℕ) (g : GrainId) (kept : Bool) → CanDo p (Vote n g kept) → may_vote_in p.batch n g ≡ true
may-vote p n g kept c = may-vote-is p.batch p.waiting.items c.0.manager.batch n g (to-cases p.batch p.waiting.items c.0.manager.batch c.1.batch) ∙ can-is c.0 (Vote n g kept) c.3

pub stands-voted : (p : Parts) (x : TakenBatch) (n : ℕ) (g : GrainId) (kept : Bool) → p.batch ≡ Some x → Does p (Vote n g kept) reply.Done (record p { batch = Some (with_vote x g kept) })
stands-voted p x n g kept e = λ w s r a. (unmoved (record p { batch = Some (with_vote x g kept) }) w (Vote n g kept) r a refl (go w s w.manager.batch refl (subst (λ o. ShowsOpen o p.waiting.items w.manager.batch) e (to-cases p.batch p.waiting.items w.manager.batch s.batch))), refl)
  where
    go : (w : CoreState) → PartsStand p w → (b : Option Batch) → w.manager.batch ≡ b → ShowsOpen (Some x) p.waiting.items w.manager.batch → PartsStand (record p { batch = Some (with_vote x g kept) }) (does w (Vote n g kept))
    go w s None q t = absurd (subst (λ b. ShowsOpen (Some x) p.waiting.items b) q t)
    go w s (Some b) q t = subst (PartsStand (record p { batch = Some (with_vote x g kept) })) (sym (ap (on_batch w (λ c. voted w c g kept)) q))
        (record {
          units = s.units;
          numbers = s.numbers;
          cells = s.cells;
          verdict = s.verdict;
          result = s.result;
          effects = s.effects;
          sources = s.sources;
          batch = from-cases (Some (with_vote x g kept)) p.waiting.items (Some (record b { votes = b.votes ++ (g, kept) ∷ [] })) (shows-vote x (take b.size p.waiting.items) b g kept (subst (λ c. ShowsOpen (Some x) p.waiting.items c) q t));
          batches = s.batches;
          doubt = s.doubt;
          settled = s.settled;
          emitted = s.emitted;
          learn = s.learn;
          handed = s.handed;
          last = s.last;
          room = record {
            entries = subst (λ o. owed_in o ≤ p.entries.spare) e s.room.entries;
            learn = subst (λ o. writes_in (take (owed_in o) p.waiting.items) ≤ p.learn.spare) e s.room.learn;
            places = subst (λ o. EachPlaced (has_place p.last) (take (owed_in o) p.waiting.items)) e s.room.places;
          };
        })
