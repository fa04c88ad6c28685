-- What a look and an event are to one who has a core alone.
use Rattle.std.proofs.Common.{◌≡◌, [], ◌∷◌, sym, ap, ◌∙◌}
use Rattle.core_model.specs.LegalRuns.{Run}
use Rattle.core_model.specs.Laws.{extended}
use Rattle.core_model.specs.CoreState.{UnitNo}
use Rattle.core_model.specs.declared.events.CoreEvent.{CoreEvent}
use Rattle.core_model.specs.declared.events.CoreEvent.TheVariants.{Want}
use Rattle.core_model.specs.declared.events.CoreReply.{CoreReply}
use Rattle.core_access.specs.OneHolder.{none_comes, own_sight}
use Rattle.core_access.specs.Sights.{run_seen, Looks, Tells}
use Rattle.core_access.proofs.OneHolder.{own-run}
use Rattle.core_access.proofs.Sights.{looks-alone, run-alone}
use Rattle.script_tree.specs.Programs.{ProgramTree}
use Rattle.turn_rules.specs.NextEvent.{with_event}
use Rattle.txn_agent.specs.Wishes.{PutsWish}

-- a look leaves the run
pub own-same : (r r' : Run) → Looks none_comes (own_sight r) (own_sight r') → r' ≡ r
own-same r r' l = sym (own-run r') ∙ ap run_seen (looks-alone (own_sight r) (own_sight r') l) ∙ own-run r

-- an event is one more of the run
pub own-told : (r r' : Run) (e : CoreEvent) (reply : CoreReply) → Tells none_comes (own_sight r) e reply (own_sight r') → r' ≡ with_event r e
own-told r r' e reply l = sym (own-run r') ∙ run-alone (own_sight r) (own_sight r') e reply l ∙ ap (λ (x : Run). extended x (e ∷ [])) (own-run r)

-- so is a wish
pub own-wished : (types : ProgramTree) (r r' : Run) (u : UnitNo) (w : (reply : CoreReply) × PutsWish none_comes types u (own_sight r) reply (own_sight r')) → r' ≡ with_event r (Want u w.1.grain)
own-wished types r r' u (reply, w) =
    sym (own-run r') ∙ run-alone w.seen (own_sight r') (Want u w.grain) reply w.told
    ∙ ap (λ (x : Run). extended x (Want u w.grain ∷ [])) (ap run_seen (looks-alone (own_sight r) w.seen w.waits.looked) ∙ own-run r)
