-- A run whose lines the calling thread carries in turns, over a core that is as it was.
use Rattle.std.proofs.Common.{◌≡◌, ℕ, List, [], Bool, subst}
use Rattle.std.specs.Prelude.{Result}
use Rattle.host_trait.specs.declared.channels.Channel.{Channel}
use Rattle.host_trait.specs.World.{World}
use Rattle.request_wire.specs.declared.requests.Line.{Line}
use Rattle.script_tree.specs.Programs.{ProgramTree}
use Rattle.core_model.specs.LegalRuns.{Run}
use Rattle.settle_loop.specs.declared.settler.Settler.{Settler}
use Rattle.run_books.specs.declared.faults.RunFault.{RunFault}
use Rattle.run_books.specs.Beginnings.{IsOutset, CanTurn}
use Rattle.run_books.specs.RecordFrame.{TurnsBeside}
use Rattle.run_books.specs.Records.{RecordGoesOn}
use Rattle.interleaver.specs.Turns.{IsFreshRecord, KeepsTurns, TurnsGoOn, WhereTurnsBegin}
use Rattle.interleaver.proofs.RunningTurns.{turns-record}
use Rattle.run_books.specs.Stages.{stage_by}

-- what turns say of their record goes over to what is equal, without the turn rule
pub turned : {T : Type 0} {tells : Bool} {types : ProgramTree} {lines : List Line} {r r0 left : Run} {before before0 after : Settler} {counts counts0 counts' : Channel → ℕ} {now now0 now' : World}
    {result : Result T RunFault} → r0 ≡ r → before0 ≡ before → counts0 ≡ counts → now0 ≡ now
    → WhereTurnsBegin tells types lines 1 [] 0 (stage_by r0 before0 counts0 now0) (λ o b. TurnsGoOn {T = T} tells o b (stage_by r0 before0 counts0 now0) (stage_by left after counts' now') result)
    → WhereTurnsBegin tells types lines 1 [] 0 (stage_by r before counts now) (λ o b. RecordGoesOn {T = T} tells o b (stage_by r before counts now) (stage_by left after counts' now') result)
turned {T} {tells} {types} {lines} {r} {r0} {left} {before} {before0} {after} {counts} {counts0} {counts'} {now} {now0} {now'} {result} run settler faults world says o b is can fresh kept =
    let Says : Run → Settler → (Channel → ℕ) → World → Type 0 = λ x s c w. IsOutset o types x lines 1 [] → CanTurn x s lines → IsFreshRecord o b 0 x → KeepsTurns tells o b (stage_by x s c w)
    → TurnsGoOn {T = T} tells o b (stage_by x s c w) (stage_by left after counts' now') result in
    let said : Says r before counts now =
    subst (λ (x : Run). Says x before counts now) run
    (subst (λ (x : Settler). Says r0 x counts now) settler
    (subst (λ (x : Channel → ℕ). Says r0 before0 x now) faults
    (subst (λ (x : World). Says r0 before0 counts0 x) world (says o b)))) in
    let g = said is can fresh kept in record { books = g.books; record_kept = turns-record g.record_kept; lasts = g.lasts; ended = g.ended }

-- and what they leave beside it
pub turned-beside : {T : Type 0} {tells : Bool} {r r0 left : Run} {before before0 after : Settler} {counts counts0 counts' : Channel → ℕ} {now now0 now' : World} {result : Result T RunFault}
    → r0 ≡ r → before0 ≡ before → counts0 ≡ counts → now0 ≡ now
    → TurnsBeside {T = T} tells (stage_by r0 before0 counts0 now0) (stage_by left after counts' now') result → TurnsBeside {T = T} tells (stage_by r before counts now) (stage_by left after counts' now') result
turned-beside {T} {tells} {r} {r0} {left} {before} {before0} {after} {counts} {counts0} {counts'} {now} {now0} {now'} {result} run settler faults world says =
    subst (λ (x : Run). TurnsBeside tells (stage_by x before counts now) (stage_by left after counts' now') result) run
    (subst (λ (x : Settler). TurnsBeside tells (stage_by r0 x counts now) (stage_by left after counts' now') result) settler
    (subst (λ (x : Channel → ℕ). TurnsBeside tells (stage_by r0 before0 x now) (stage_by left after counts' now') result) faults
    (subst (λ (x : World). TurnsBeside tells (stage_by r0 before0 counts0 x) (stage_by left after counts' now') result) world says)))
