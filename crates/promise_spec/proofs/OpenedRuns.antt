-- A run that keeps its six clauses keeps what is promised over any folder.
use Rattle.std.proofs.Common.{◌≡◌, inl, List, [], sym, ap, subst}
use Rattle.base_types.specs.declared.entries.Entry.{Entry}
use Rattle.core_model.specs.declared.events.CoreEvent.{CoreEvent}
use Rattle.core_model.specs.LegalRuns.{ends}
use Rattle.core_model.specs.CoreState.{Member}
use Rattle.promise_spec.specs.Programs.{Program}
use Rattle.promise_spec.specs.Openings.{Reads, opened_as}
use Rattle.promise_spec.specs.Cores.{core_from}
use Rattle.promise_spec.specs.Courses.{Observed, Course, seen_at_entry, core_end}
use Rattle.promise_spec.specs.Entries.{standing_of}
use Rattle.promise_spec.specs.Promise.{Keeps, KeepsAnywhere}
use Rattle.promise_spec.proofs.Lists.{in_append}

module _ (p : Program) (r : Observed) (c : Course) where
  -- each entry is one that the core settled
  pub in_settled : (e : Entry) → Keeps p r c → Member e c.entries → Member e (core_end p c).manager.settled
  in_settled e keeps there = subst (λ (x : List Entry). Member e x) (sym keeps.settled.entries.1) (in_append e c.entries keeps.settled.entries.0 (inl there))

  -- a run in which no line may begin has no events
  pub no_events : Keeps p r c → c.allowed ≡ 0 → c.events ≡ []
  no_events keeps none = keeps.ended.read.none none

  -- and no entries
  pub unbegun_entry : (e : Entry) → Keeps p r c → c.allowed ≡ 0 → Member e c.entries → ⊥
  unbegun_entry e keeps none there =
      let settled_is : (core_end p c).manager.settled ≡ [] = ap (λ (events : List CoreEvent). (ends (core_from p.types (standing_of c.opening) events)).manager.settled) (no_events keeps none) in
      subst (λ (x : List Entry). Member e x) settled_is (in_settled e keeps there)

  -- what it keeps over any folder that reads as its log
  pub kept_anywhere : Keeps p r c → opened_as (seen_at_entry r) ≡ Reads c.live c.opening → KeepsAnywhere p r c
  kept_anywhere keeps reads = record {
    in_force = keeps.headline.ordered.in_force;
    reads = reads;
    output = keeps.headline.replies.output;
    whole = keeps.headline.replies.whole;
    within = keeps.headline.replies.within;
    once = keeps.headline.replies.once;
    in_order = keeps.headline.replies.in_order;
    settled = keeps.settled;
    explained = keeps.explained;
    ended = keeps.ended;
    true_each = λ numbered. keeps.headline.replies.true_each;
    family = λ numbered. keeps.traced.family;
  }
