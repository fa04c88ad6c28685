-- What a turn of the settler comes to in a run, where it came to an end: what holds of each that ended well, and what the books' lemmas
-- say of each.
use Rattle.std.proofs.Common.{◌≡◌, Bool, ℕ, true, false, refl}
use Rattle.std.specs.declared.alloc.AllocError.{AllocError}
use Rattle.std.specs.Prelude.{Result, Ok, IfOk}
use Rattle.base_types.specs.declared.shapes.Shape.{Shape}
use Rattle.host_trait.specs.declared.channels.Channel.{Channel}
use Rattle.host_trait.specs.World.{World}
use Rattle.core_model.specs.CoreState.{CoreState}
use Rattle.core_model.specs.LegalRuns.{Run, ends}
use Rattle.core_model.specs.Settler.{Step, has_step}
use Rattle.core_access.specs.OneHolder.{none_comes, own_sight}
use Rattle.settle_loop.specs.SettlerStep.{has_unwritten, TurnsAs, TurnsBy}
use Rattle.settle_loop.specs.declared.settler.Settler.{Settler}
use Rattle.settle_loop.specs.declared.settler.Turned.{Turned}
use Rattle.settle_loop.specs.declared.settler.Turned.TheVariants.{Stepped, Nothing, Stop}
use Rattle.settle_loop.specs.declared.settler.StopCause.TheVariants.{InDoubt, WriteFault, LoadFault, LoadDamaged}
use Rattle.run_books.specs.Beginnings.{Outset}
use Rattle.run_books.specs.Books.{Books}
use Rattle.run_books.specs.BooksSteps.{BooksGoOn, SaysBy}
use Rattle.run_books.specs.Stages.{stage_of}
use Rattle.interleaver.specs.EndedTurns.{ended_by}
use Rattle.interleaver.specs.TurnStages.{GoesOne, SettledOn}
use Rattle.interleaver.proofs.RecordFrame.{answer_of}
use Rattle.interleaver.proofs.SettlerTurns.{goes-one, left-before, left-behind, on-cut, on-damaged, on-doubt, on-idle, on-stepped, on-unread, rests-none}

-- a turn that came to an end
abbrev pub turned-so : Turned → Result Turned AllocError
turned-so turned = Ok turned

-- what holds anyway holds where it ended well
pub well-anyway : (turned : Turned) (P : Type 0) → P → IfOk (ended_by turned) (λ _. P)
well-anyway Stepped P holds = holds
well-anyway Nothing P holds = holds
well-anyway (Stop InDoubt) P holds = tt
well-anyway (Stop WriteFault) P holds = tt
well-anyway (Stop (LoadFault file)) P holds = tt
well-anyway (Stop (LoadDamaged file place)) P holds = tt

-- the run's answer is that to the turn
pub answer-ended : (turned : Turned) → ended_by turned ≡ answer_of tt (turned-so turned)
answer-ended Stepped = refl
answer-ended Nothing = refl
answer-ended (Stop InDoubt) = refl
answer-ended (Stop WriteFault) = refl
answer-ended (Stop (LoadFault file)) = refl
answer-ended (Stop (LoadDamaged file place)) = refl

module _ {H : Type 0} (tells : Bool) (world : H → World) (faults : H → Channel → ℕ) (shape : Shape) (r r' : Run) (before after : Settler) (old new : H) where
  -- where it ended well and there was a step, the run went on by it
  pub ended-acted : (next : CoreState → Step) (turned : Turned) → TurnsBy tells world faults none_comes shape next before after (own_sight r) (own_sight r') old new (turned-so turned)
      → IfOk (ended_by turned) (λ _. has_step (next (ends r)) ≡ true → GoesOne next r r')
  ended-acted next Stepped t = λ q. goes-one tells world faults shape next r r' before after old new t
  ended-acted next Nothing t = λ q. rests-none tells world faults shape next r r' before after old new t q
  ended-acted next (Stop InDoubt) t = tt
  ended-acted next (Stop WriteFault) t = tt
  ended-acted next (Stop (LoadFault file)) t = tt
  ended-acted next (Stop (LoadDamaged file place)) t = tt

  -- where a step ended well, an entry is left if a doubt of the settler's stands
  pub left-turned : (turned : Turned) → (ends r).units.halt ≡ false → (before.doubted ≡ true → has_unwritten (ends r) ≡ true)
      → TurnsAs tells world faults none_comes shape before after (own_sight r) (own_sight r') old new (turned-so turned)
      → IfOk (ended_by turned) (λ _. after.doubted ≡ true → has_unwritten (ends r') ≡ true)
  left-turned Stepped going was t = left-behind tells world faults shape r r' before after old new going t
  left-turned Nothing going was t = left-before tells world faults shape r r' before after old new t was
  left-turned (Stop InDoubt) going was t = tt
  left-turned (Stop WriteFault) going was t = tt
  left-turned (Stop (LoadFault file)) going was t = tt
  left-turned (Stop (LoadDamaged file place)) going was t = tt

module _ {H E : Type 0} (tells : Bool) (world : H → World) (faults : H → Channel → ℕ) (next : CoreState → Step) (r r' : Run) (before after : Settler) (old new : H) (result : Result Turned E) (o : Outset) (b : Books)
    (said : (g : BooksGoOn tells o b (stage_of world faults r before old) (stage_of world faults r' after new)) × SaysBy tells next o g.books (stage_of world faults r' after new) result) where
  -- the books went on, as the answer says
  pub on-turned : (turned : Turned) → IfOk (ended_by turned) (λ _. after.doubted ≡ true → has_unwritten (ends r') ≡ true) → result ≡ Ok turned
      → SettledOn {T = Unit} tells o b (stage_of world faults r before old) (stage_of world faults r' after new) (ended_by turned)
  on-turned Stepped left q = on-stepped tells world faults next r r' before after old new result o b said left q tt
  on-turned Nothing left q = on-idle tells world faults next r r' before after old new result o b said left q tt
  on-turned (Stop InDoubt) left q = on-doubt tells world faults next r r' before after old new result o b said Unit q
  on-turned (Stop WriteFault) left q = on-cut tells world faults next r r' before after old new result o b said Unit q
  on-turned (Stop (LoadFault file)) left q = on-unread tells world faults next r r' before after old new result o b said Unit file q
  on-turned (Stop (LoadDamaged file place)) left q = on-damaged tells world faults next r r' before after old new result o b said Unit file place q
