-- Each step of a settler sees on; and who alone could stop the run.
use Rattle.std.proofs.Common.{◌≡◌, inl, inr, ⊎_elim, ℕ, List, [], ◌∷◌, Bool, true, false, refl, sym, ap, ◌∙◌, subst}
use Rattle.std.specs.Prelude.{Result, Ok, Err, ◌&&◌}
use Rattle.base_types.specs.declared.shapes.Shape.{Shape}
use Rattle.base_types.specs.Lists.{Member}
use Rattle.host_trait.specs.declared.channels.Channel.{Channel}
use Rattle.host_trait.specs.World.{World}
use Rattle.turn_cell.proofs.Histories.{in_entries}
use Rattle.core_model.specs.declared.events.CoreEvent.{CoreEvent}
use Rattle.core_model.specs.declared.events.CoreEvent.TheVariants.{Halt}
use Rattle.core_model.specs.declared.events.CoreReply.{CoreReply}
use Rattle.core_model.specs.Events.{applies}
use Rattle.core_model.specs.Laws.{extended}
use Rattle.core_model.specs.LegalRuns.{Run, ends}
use Rattle.core_access.specs.Histories.{Told, run_after}
use Rattle.core_access.specs.Sights.{Sight, run_seen, Looks, Tells, IsAlone}
use Rattle.worker_rules.specs.Work.{is_work}
use Rattle.worker_rules.proofs.Workers.{work-stops}
use Rattle.settle_loop.specs.ShownWork.{has_applied}
use Rattle.settle_loop.specs.SettlerStep.{TurnsAs}
use Rattle.settle_loop.specs.declared.settler.Settler.{Settler}
use Rattle.settle_loop.specs.declared.settler.Turned.{Turned}
use Rattle.settle_loop.specs.declared.settler.Turned.TheVariants.{Stepped, Nothing, Stop}
use Rattle.settle_loop.specs.declared.settler.StopCause.TheVariants.{InDoubt, WriteFault, LoadFault, LoadDamaged}
use Rattle.run_books.specs.SharedSteps.{SeesOn}
use Rattle.run_books.proofs.BooksCore.{is_halt, moves-run, unapplied-run}
use Rattle.run_books.proofs.BooksShared.{looks-behind}
use Rattle.run_books.proofs.Reliance.{sees-look, sees-tell, sees-both}

module _ {H : Type 0} (tells : Bool) (world : H → World) (faults : H → Channel → ℕ) (may : CoreEvent → Bool) (shape : Shape) (before after : Settler) (s t : Sight) (old new : H) where
  sees-acted : (seen mid : Sight) (e : CoreEvent) (r : CoreReply) → Looks may s seen → Tells may seen e r mid → Looks may mid t → SeesOn s t
  sees-acted seen mid e r a l b = sees-both s seen t (sees-look may s seen a) (sees-both seen mid t (sees-tell may seen mid e r l) (sees-look may mid t b))

  -- a step sees on
  pub sees-step : {E : Type 0} (result : Result Turned E) → TurnsAs tells world faults may shape before after s t old new result → SeesOn s t
  sees-step (Ok Stepped) x = sees-acted x.put.acts.seen x.mid x.e x.r x.put.acts.looked x.put.told (looks-behind may (after.doubted && has_applied x.r) x.mid t x.looked)
  sees-step (Ok Nothing) x = sees-look may s t x.looked
  sees-step (Ok (Stop InDoubt)) x = sees-acted x.put.acts.seen x.mid x.e x.r x.put.acts.looked x.put.told x.looked
  sees-step (Ok (Stop WriteFault)) x = sees-look may s t x.looked
  sees-step (Ok (Stop (LoadFault file))) x = sees-look may s t x.0.looked
  sees-step (Ok (Stop (LoadDamaged file place))) x = sees-look may s t x.0.looked
  sees-step (Err lack) (inl x) = sees-look may s t x.looked
  sees-step (Err lack) (inr (inl x)) = sees-look may s t x.looked
  sees-step (Err lack) (inr (inr (inl x))) = sees-both s x.1.acts.seen t (sees-look may s x.1.acts.seen x.1.acts.looked) (sees-look may x.1.acts.seen t x.1.unput)
  sees-step (Err lack) (inr (inr (inr (inr x)))) = sees-look may s t x.looked
  sees-step (Err lack) (inr (inr (inr (inl x)))) = sees-acted x.put.acts.seen x.mid x.e x.r x.put.acts.looked x.put.told x.looked

-- ---- a stop

not-halt : (e : CoreEvent) → (e ≡ Halt → ⊥) → is_halt e ≡ false
not-halt Halt going = absurd (going refl)
not-halt _ going = refl

-- no event but a stop stops
going-one : (r : Run) (e : CoreEvent) → (e ≡ Halt → ⊥) → (ends (extended r (e ∷ []))).units.halt ≡ (ends r).units.halt
going-one r e none = by (applies (ends r) e) refl
  where
    by : (a : Bool) → applies (ends r) e ≡ a → (ends (extended r (e ∷ []))).units.halt ≡ (ends r).units.halt
    by true a = (moves-run r e a).halt (not-halt e none)
    by false a = ap (λ w. w.units.halt) (unapplied-run r e a)

pub going-all : (rest : List Told) (r : Run) → ((x : Told) → Member x rest → x.event ≡ Halt → ⊥) → (ends (run_after r rest)).units.halt ≡ (ends r).units.halt
going-all [] r none = refl
going-all (x ∷ rest) r none = going-all rest (extended r (x.event ∷ [])) (λ y i. none y (inr i)) ∙ going-one r x.event (none x (inl refl))

-- where others put lines' and units' events alone
pub none-stopped : (s : Sight) → (ends s.first).units.halt ≡ false → IsAlone is_work s → ((x : Told) → Member x s.mine → x.event ≡ Halt → ⊥) → (ends (run_seen s)).units.halt ≡ false
none-stopped s going alone mine =
    going-all s.seen s.first (λ x i. ⊎_elim
    (λ (own : x.by ≡ s.number). mine x (subst (Member x) alone.own (in_entries s.seen s.number x (sym own) i)))
    (λ (work : is_work x.event ≡ true). work-stops x.event work)
    (alone.others x i)) ∙ going
