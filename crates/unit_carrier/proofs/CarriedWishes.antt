-- What a wish of a carried unit tells, where nobody else puts events.
use Rattle.std.proofs.Common.{◌≡◌, ◌∙◌, Bool, true, false, subst}
use Rattle.core_model.specs.CoreState.{UnitNo}
use Rattle.core_model.specs.LockAnswers.{IsGoing}
use Rattle.core_model.specs.LegalRuns.{ends}
use Rattle.core_model.specs.declared.events.CoreEvent.{CoreEvent}
use Rattle.core_access.specs.OneHolder.{none_comes}
use Rattle.core_access.specs.Sights.{Sight, Looks, run_seen}
use Rattle.script_tree.specs.Programs.{ProgramTree}
use Rattle.txn_agent.specs.declared.work.Doing.{Doing}
use Rattle.txn_agent.specs.AgentStep.{Hears}
use Rattle.txn_agent.specs.Wishes.{HasItsGrain, LacksNoGrain, WishSays}
use Rattle.txn_agent.proofs.WishAnswers.{alone-rests, alone-wishes}
use Rattle.unit_carrier.specs.CarriedUnits.{HasCoreAlone, WishesAt}
use Rattle.unit_carrier.proofs.CarriedUnits.{looks-same}

-- what the answer says, of the sight before the script heard of its child
pub wish-told : (types : ProgramTree) (may : CoreEvent → Bool) (s s1 t : Sight) (u : UnitNo) (doing : Doing) (wished : Bool) → HasCoreAlone may s → Looks may s s1 → Hears s1 doing → WishSays may types u doing s1 t wished
    → WishesAt types u s t wished
wish-told types may s s1 t u doing wished h looked heard says =
    let one : s1 ≡ s = looks-same may s s1 h.none looked in
    by wished (subst (λ (m : CoreEvent → Bool). WishSays m types u doing s t wished) h.none (subst (λ (x : Sight). WishSays may types u doing x t wished) one says)) (subst (λ (x : Sight). Hears x doing) one heard)
  where
    by : (b : Bool) → WishSays none_comes types u doing s t b → Hears s doing → WishesAt types u s t b
    by true w heard = alone-wishes types u doing s t w (h.alone _)
    by false w heard = λ going none. alone-rests types u doing s t w (h.alone _) going none heard

-- what is shown of the unit's grain, of the sight before the script heard of its child
pub has-told : (types : ProgramTree) (may : CoreEvent → Bool) (s s1 s2 : Sight) (u : UnitNo) (doing : Doing) → HasCoreAlone may s → Looks may s s1 → Looks may s1 s2 → Hears s1 doing → HasItsGrain types s2 u doing
    → IsGoing (ends (run_seen s)) → LacksNoGrain types u (run_seen s)
has-told types may s s1 s2 u doing h first next heard has going =
    let one : s1 ≡ s = looks-same may s s1 h.none first in
    let two : s2 ≡ s = looks-same may s1 s2 h.none next ∙ one in
    subst (λ (x : Sight). HasItsGrain types x u doing) two has (subst (λ (x : Sight). Hears x doing) one heard) (h.alone _) going
