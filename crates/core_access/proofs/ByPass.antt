-- What a call of a turn cell leaves of a pass, as an access tells it.
use Rattle.std.proofs.Common.{◌≡◌, [], ◌∷◌, ◌++◌, refl, ap, subst}
use Rattle.core_model.specs.declared.events.CoreEvent.{CoreEvent}
use Rattle.core_model.specs.declared.events.CoreReply.{CoreReply}
use Rattle.core_model.specs.LegalRuns.{Run}
use Rattle.core_model.specs.Laws.{extended}
use Rattle.turn_cell.specs.declared.view.View.{View}
use Rattle.turn_cell.specs.History.{entry}
use Rattle.turn_cell.specs.Passes.{Adds, Sees}
use Rattle.turn_cell.proofs.Histories.{legal_back}
use Rattle.core_access.specs.Histories.{reply_in}
use Rattle.core_access.specs.Sights.{saw, told, IsHistory, Looks, Tells}
use Rattle.core_access.specs.PassSights.{sight_of, all_come}

-- the run with one more event
abbrev onward : Run → CoreEvent → Run
onward r e = extended r (e ∷ [])

module _ {T : Type 0} (state : T → Run) (v w : View T CoreEvent CoreReply) where
  -- a look
  pub pass-looks : Sees state (λ r e. extended r (e ∷ [])) reply_in v w → Looks all_come (sight_of state v) (sight_of state w) × IsHistory (sight_of state w)
  pass-looks s = (record { rest = s.0; others = λ x i. refl; sight = ap (sight_of state) s.1 }, s.2)

  -- an event
  pub pass-tells : (e : CoreEvent) (r : CoreReply) → Adds state (λ r e. extended r (e ∷ [])) reply_in v e r w → Tells all_come (sight_of state v) e r (sight_of state w) × IsHistory (sight_of state w)
  pass-tells e r a =
      let is : sight_of state w ≡ told (saw (sight_of state v) a.0) e r = ap (sight_of state) a.1 in
      let legal : IsHistory (told (saw (sight_of state v) a.0) e r) = subst IsHistory is a.2 in (
        record {
          rest = a.0;
          others = λ x i. refl;
          reply = (legal_back onward reply_in (state v.first) (v.seen ++ a.0) (entry v.hand.number e r ∷ []) legal).0;
          sight = is;
        },
        a.2,
      )
