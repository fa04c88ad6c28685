-- What a look tells of a unit that has heard of its child.
use Rattle.std.proofs.Common.{◌≡◌, Bool, true, false, true≢false, refl, sym, ap, ◌∙◌, subst}
use Rattle.core_model.specs.LockAnswers.{IsGoing}
use Rattle.core_model.specs.LegalRuns.{ends}
use Rattle.core_model.specs.declared.events.CoreEvent.{CoreEvent}
use Rattle.core_access.specs.Sights.{Sight, run_seen, Looks, Counts}
use Rattle.core_access.proofs.Sights.{looks-none}
use Rattle.script_tree.specs.Programs.{ProgramTree}
use Rattle.txn_agent.specs.declared.agent.Agent.{Agent}
use Rattle.txn_agent.specs.CoreLink.{IfOwn, Knows}
use Rattle.txn_agent.specs.declared.work.Doing.{Doing}
use Rattle.txn_agent.specs.declared.work.Doing.TheVariants.{Asks, Awaits, Frees, Stopped}
use Rattle.txn_agent.specs.AgentStep.{Hears, has_freed_all}
use Rattle.txn_agent.specs.ShownMoves.{ShowsMove, moves}
use Rattle.txn_agent.proofs.ShownMoves.{freeing_all}
use Rattle.unit_carrier.specs.CarriedUnits.{HasCoreAlone}
use Rattle.unit_carrier.proofs.CarriedUnits.{looks-same, shows-move}

-- what the look answers is the turn rule's, of the run before
pub move-told : (types : ProgramTree) (may : CoreEvent → Bool) (s s1 s2 : Sight) (old new : Agent) (b : Bool) → HasCoreAlone may s → Looks may s s1 → Looks may s1 s2
    → new.carried ≡ old.carried → Knows types s1 new → Hears s1 new.doing
    → (Counts s1 → Knows types s1 new → IfOwn new.carried s2 (λ r. ShowsMove types r new.carried new.doing b))
    → IsGoing (ends (run_seen s)) → b ≡ moves types (run_seen s) old.carried
move-told types may s s1 s2 old new b h first second same knows hears shows going =
    let one : s1 ≡ s = looks-same may s s1 h.none first in
    let two : s2 ≡ s1 = looks-same may s1 s2 h.none second in
    let holds : HasCoreAlone may s1 = subst (HasCoreAlone may) (sym one) h in
    let after : HasCoreAlone may s2 = subst (HasCoreAlone may) (sym two) holds in
    let told : ShowsMove types (run_seen s1) new.carried new.doing b = subst (λ (x : Sight). ShowsMove types (run_seen x) new.carried new.doing b) two (shows holds.counts knows (after.alone _)) in
    shows-move types may s1 new.carried new.doing b holds knows hears told (subst (λ (x : Sight). IsGoing (ends (run_seen x))) (sym one) going)
    ∙ ap (λ (x : Sight). moves types (run_seen x) new.carried) one ∙ ap (moves types (run_seen s)) same

-- who has freed all doesn't move
pub freed-rests : (types : ProgramTree) (may : CoreEvent → Bool) (s : Sight) (a : Agent) → HasCoreAlone may s → Knows types s a → has_freed_all a.doing ≡ true → false ≡ moves types (run_seen s) a.carried
freed-rests types may s a h knows q = by a.doing refl
  where
    by : (d : Doing) → a.doing ≡ d → false ≡ moves types (run_seen s) a.carried
    by (Asks work pause) e = absurd (true≢false (sym q ∙ ap has_freed_all e))
    by (Awaits work child) e = absurd (true≢false (sym q ∙ ap has_freed_all e))
    by (Frees held) e =
        let shown : ShowsMove types (run_seen s) a.carried a.doing false = freeing_all may types s s a.carried (looks-none may s) h.counts a.doing knows held true e (sym q ∙ ap has_freed_all e) (h.alone _) in
        subst (λ (d : Doing). ShowsMove types (run_seen s) a.carried d false) e shown
    by Stopped e = absurd (true≢false (sym q ∙ ap has_freed_all e))
