-- What the calls of a run of turns leave beside its record.
use Rattle.std.proofs.Common.{◌≡◌, ℕ, ◌⊎◌, inl, inr, Bool, List, [], ◌∷◌, sym, ◌∙◌, subst}
use Rattle.std.specs.Prelude.{Result, Ok, Err}
use Rattle.base_types.specs.declared.shapes.Shape.{Shape}
use Rattle.host_trait.specs.declared.channels.Channel.{Channel}
use Rattle.host_trait.specs.World.{World}
use Rattle.request_wire.specs.declared.requests.Line.{Line}
use Rattle.core_model.specs.CoreState.{UnitNo, CoreState}
use Rattle.core_model.specs.Settler.{Step}
use Rattle.core_model.specs.Laws.{extended}
use Rattle.core_model.specs.LegalRuns.{Run}
use Rattle.core_model.specs.declared.events.CoreEvent.{CoreEvent}
use Rattle.core_model.specs.declared.events.CoreEvent.TheVariants.{Want}
use Rattle.core_model.specs.declared.events.CoreReply.{CoreReply}
use Rattle.core_access.specs.OneHolder.{none_comes, own_sight}
use Rattle.core_access.specs.Sights.{Looks}
use Rattle.script_tree.specs.Programs.{ProgramTree}
use Rattle.txn_agent.specs.declared.agent.Agent.{Agent}
use Rattle.txn_agent.specs.AgentStep.{Acts}
use Rattle.txn_agent.specs.Wishes.{Wishes}
use Rattle.unit_carrier.specs.Lines.{PutsLine}
use Rattle.settle_loop.specs.SettlerStep.{TurnsBy}
use Rattle.settle_loop.specs.declared.settler.Settler.{Settler}
use Rattle.settle_loop.specs.declared.settler.Turned.{Turned}
use Rattle.settle_loop.specs.declared.settler.Turned.TheVariants.{Stepped, Nothing, Stop}
use Rattle.settle_loop.specs.declared.settler.StopCause.TheVariants as cause
use Rattle.run_books.specs.declared.faults.RunFault.{RunFault}
use Rattle.run_books.specs.declared.faults.RunFault.TheVariants.{InDoubt, WriteFault, LoadFault, LoadDamaged, Memory}
use Rattle.run_books.specs.RecordFrame.{TurnsBeside}
use Rattle.run_books.proofs.SettlerFrame as leaving
use Rattle.run_books.proofs.SettlerFrame.{core-beside, beside-fault, run-stays, IsAnswerTo}
use Rattle.interleaver.specs.TurnStages.{BeganOn, GoesBy}
use Rattle.interleaver.proofs.LonePasses.{own-same, own-told, own-wished}
use Rattle.interleaver.proofs.SettlerTurns.{goes-by}
use Rattle.run_books.specs.Stages.{stage_by, stage_of}

-- the run goes on by no event
on-by-none : (r r' : Run) → r' ≡ r → r' ≡ extended r []
on-by-none r r' q = q ∙ run-stays r

-- an error says the same, whatever the answer might have been else
module _ (tells : Bool) (r r' : Run) (settler settler' : Settler) (faults faults' : Channel → ℕ) (now now' : World) where
  pub beside-err : {T U : Type 0} (f : RunFault) → TurnsBeside {T = T} tells (stage_by r settler faults now) (stage_by r' settler' faults' now') (Err f) → (answer : Result U RunFault) → answer ≡ Err f
      → TurnsBeside {T = U} tells (stage_by r settler faults now) (stage_by r' settler' faults' now') answer
  beside-err {T} {U} f b answer q =
      subst (TurnsBeside {T = U} tells (stage_by r settler faults now) (stage_by r' settler' faults' now')) (sym q) (beside-fault tells r r' settler settler' faults faults' now now' {T = T} {U = U} f b)

-- ---- the core alone

module _ (tells : Bool) (r r' : Run) (settler : Settler) (faults : Channel → ℕ) (now : World) where
  -- nothing was done
  pub none-beside : {T : Type 0} (result : Result T RunFault) → r' ≡ r → TurnsBeside {T = T} tells (stage_by r settler faults now) (stage_by r' settler faults now) result
  none-beside result q = core-beside tells r r' settler faults now result [] (on-by-none r r' q)

  -- a unit's step
  pub acts-beside : {T : Type 0} (result : Result T RunFault) (types : ProgramTree) (u : UnitNo) → Acts none_comes types u (own_sight r) (own_sight r') → TurnsBeside {T = T} tells (stage_by r settler faults now) (stage_by r' settler faults now) result
  acts-beside result types u (inl looked) = none-beside result (own-same r r' looked)
  acts-beside result types u (inr (e, (y, p))) = core-beside tells r r' settler faults now result (e ∷ []) (own-told r r' e y p.told)

  -- a unit's wish, or none
  pub wishes-beside : {T : Type 0} (result : Result T RunFault) (types : ProgramTree) (u : UnitNo) → Wishes none_comes types u (own_sight r) (own_sight r') → TurnsBeside {T = T} tells (stage_by r settler faults now) (stage_by r' settler faults now) result
  wishes-beside result types u (inl looked) = none-beside result (own-same r r' looked)
  wishes-beside result types u (inr w) = core-beside tells r r' settler faults now result (Want u w.1.grain ∷ []) (own-wished types r r' u w)

  -- a line's event, put or not
  pub puts-beside : {T : Type 0} (result : Result T RunFault) (types : ProgramTree) (line : Line)
      → Looks none_comes (own_sight r) (own_sight r') ⊎ ((y : CoreReply) × PutsLine none_comes types line.number line.what (own_sight r) (own_sight r') y) → TurnsBeside {T = T} tells (stage_by r settler faults now) (stage_by r' settler faults now) result
  puts-beside result types line (inl looked) = none-beside result (own-same r r' looked)
  puts-beside result types line (inr (y, p)) = core-beside tells r r' settler faults now result (p.e ∷ []) (own-told r r' p.e y p.told)

  -- a line's begin
  pub begins-beside : {T : Type 0} (result : Result T RunFault) (types : ProgramTree) (line : Line) (before after : List Agent) → BeganOn types line r r' before after → TurnsBeside {T = T} tells (stage_by r settler faults now) (stage_by r' settler faults now) result
  begins-beside result types line before after g = core-beside tells r r' settler faults now result (g.on.put.e ∷ []) (own-told r r' g.on.put.e g.on.r g.on.put.told)

-- ---- the settler's step

-- what the run's answer is to a step's
abbrev pub answer_of : {T E : Type 0} → T → Result Turned E → Result T RunFault
answer_of done (Ok Stepped) = Ok done
answer_of done (Ok Nothing) = Ok done
answer_of done (Ok (Stop cause.InDoubt)) = Err InDoubt
answer_of done (Ok (Stop cause.WriteFault)) = Err WriteFault
answer_of done (Ok (Stop (cause.LoadFault file))) = Err (LoadFault file)
answer_of done (Ok (Stop (cause.LoadDamaged file place))) = Err (LoadDamaged file place)
answer_of done (Err lack) = Err Memory

answers-so : {T E : Type 0} (done : T) (x : Result Turned E) (answer : Result T RunFault) → answer ≡ answer_of done x → IsAnswerTo answer x
answers-so done (Ok Stepped) answer q = (done, q)
answers-so done (Ok Nothing) answer q = inl (done, q)
answers-so done (Ok (Stop cause.InDoubt)) answer q = q
answers-so done (Ok (Stop cause.WriteFault)) answer q = q
answers-so done (Ok (Stop (cause.LoadFault file))) answer q = q
answers-so done (Ok (Stop (cause.LoadDamaged file place))) answer q = q
answers-so done (Err lack) answer q = q

by-events : (next : CoreState → Step) (r r' : Run) → GoesBy next r r' → (more : List CoreEvent) × (r' ≡ extended r more)
by-events next r r' (inl same) = ([], on-by-none r r' same)
by-events next r r' (inr s) = (s.0 ∷ [], s.2)

module _ {H E : Type 0} (tells : Bool) (world : H → World) (faults : H → Channel → ℕ) (shape : Shape) (next : CoreState → Step) (r r' : Run) (before after : Settler) (old new : H) where
  -- that step, whatever it answered
  pub step-beside : {T : Type 0} (done : T) (result : Result Turned E) → TurnsBy tells world faults none_comes shape next before after (own_sight r) (own_sight r') old new result
      → (x : Result Turned E) → result ≡ x → (answer : Result T RunFault) → answer ≡ answer_of done x → TurnsBeside {T = T} tells (stage_of world faults r before old) (stage_of world faults r' after new) answer
  step-beside {T} done result turns x is answer q =
      let turned : TurnsBy tells world faults none_comes shape next before after (own_sight r) (own_sight r') old new x = subst (TurnsBy tells world faults none_comes shape next before after (own_sight r) (own_sight r') old new) is turns in
      let on = by-events next r r' (goes-by {E = E} tells world faults shape next r r' before after old new x turned) in
      leaving.step-beside tells world faults none_comes shape next (own_sight r) (own_sight r') r r' on.0 on.1 before after old new {E = E} {T = T} answer x (answers-so done x answer q) turned
