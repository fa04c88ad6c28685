-- What was seen only grows.
use Rattle.std.proofs.Common.{◌≡◌, List, [], ◌∷◌, ◌++◌, Bool, map, sym, ap, ◌∙◌, subst, append-nil}
use mathlib.Core.List.{append_assoc}
use Rattle.core_model.specs.declared.events.CoreEvent.{CoreEvent}
use Rattle.core_model.specs.declared.events.CoreReply.{CoreReply}
use Rattle.core_model.specs.LegalRuns.{Run, ends}
use Rattle.core_model.specs.Laws.{extended}
use Rattle.core_model.specs.Replies.{OnlyExtends}
use Rattle.core_laws.proofs.Replies.{extends-ends}
use Rattle.turn_cell.specs.History.{entry}
use Rattle.core_access.specs.Histories.{Told, run_after}
use Rattle.core_access.specs.Sights.{Sight, run_seen, Looks, Tells}
use Rattle.core_access.proofs.Entries.{run-on}

-- the events of a history
abbrev pub events_in : List Told → List CoreEvent
events_in seen = map (λ (x : Told). x.event) seen

-- the run after a history is longer by its events
pub run-events : (seen : List Told) (r : Run) → run_after r seen ≡ extended r (events_in seen)
run-events [] r = ap (λ (l : List CoreEvent). record r { events = l }) (sym (append-nil r.events))
run-events (x ∷ seen) r = run-events seen (extended r (x.event ∷ [])) ∙ ap (λ (l : List CoreEvent). record r { events = l }) (append_assoc r.events (x.event ∷ []) (events_in seen))

-- more was seen
seen-grows : (s : Sight) (rest : List Told) → OnlyExtends (ends (run_seen s)) (ends (run_after s.first (s.seen ++ rest)))
seen-grows s rest = subst (λ (r : Run). OnlyExtends (ends (run_seen s)) (ends r))
    (sym (run-on s.seen rest s.first ∙ run-events rest (run_seen s)))
    (extends-ends (run_seen s) (events_in rest))

-- behind a look
pub looks-grow : (may : CoreEvent → Bool) (s t : Sight) → Looks may s t → OnlyExtends (ends (run_seen s)) (ends (run_seen t))
looks-grow may s t l = subst (λ (x : Sight). OnlyExtends (ends (run_seen s)) (ends (run_seen x))) (sym l.sight) (seen-grows s l.rest)

-- behind an event
pub tells-grow : (may : CoreEvent → Bool) (s t : Sight) (e : CoreEvent) (r : CoreReply) → Tells may s e r t → OnlyExtends (ends (run_seen s)) (ends (run_seen t))
tells-grow may s t e r l =
    let new : List Told = entry s.number e r ∷ [] in
    subst (λ (x : Sight). OnlyExtends (ends (run_seen s)) (ends (run_seen x))) (sym l.sight)
    (subst (λ (seen : List Told). OnlyExtends (ends (run_seen s)) (ends (run_after s.first seen))) (sym (append_assoc s.seen l.rest new)) (seen-grows s (l.rest ++ new)))
