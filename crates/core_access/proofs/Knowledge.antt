-- What is known of the core, if nobody else interfered, stays known where harmless events leave it.
use Rattle.std.proofs.Common.{◌≡◌, inl, inr, List, [], ◌∷◌, Bool, true, refl, sym, ap, ◌∙◌, subst}
use Rattle.core_model.specs.declared.events.CoreEvent.{CoreEvent}
use Rattle.core_model.specs.declared.events.CoreReply.{CoreReply}
use Rattle.core_model.specs.LegalRuns.{Run}
use Rattle.core_model.specs.Laws.{extended}
use Rattle.core_access.specs.Histories.{Told, run_after}
use Rattle.core_access.specs.Sights.{Sight, run_seen, saw, AllPass, Looks, Tells, Counts, IfAlone}
use Rattle.core_access.proofs.Entries.{run-on}
use Rattle.core_access.proofs.Sights.{saw-before, saw-harmless, tells-before, run-told}

module _ (harmless : CoreEvent → Bool) (P : Run → Type 0) (stays : (r : Run) (e : CoreEvent) → harmless e ≡ true → P r → P (extended r (e ∷ []))) where
  -- behind harmless entries
  pub after-knows : (rest : List Told) (r : Run) → AllPass harmless rest → P r → P (run_after r rest)
  after-knows [] r all p = p
  after-knows (x ∷ rest) r all p = after-knows rest (extended r (x.event ∷ [])) (λ y i. all y (inr i)) (stays r x.event (all x (inl refl)) p)

  -- as more is seen
  pub saw-knows : (s : Sight) (rest : List Told) → Counts s → IfAlone harmless s P → IfAlone harmless (saw s rest) P
  saw-knows s rest c knows alone = subst P (sym (run-on s.seen rest s.first))
      (after-knows rest (run_seen s) (saw-harmless harmless s rest c alone) (knows (saw-before harmless s rest c alone)))

  -- behind a look
  pub looks-knows : (may : CoreEvent → Bool) (s t : Sight) → Looks may s t → Counts s → IfAlone harmless s P → IfAlone harmless t P
  looks-knows may s t l c knows = subst (λ (x : Sight). IfAlone harmless x P) (sym l.sight) (saw-knows s l.rest c knows)

  -- behind an event of one's own, which makes something else of it
  pub tells-knows : (Q : Run → Type 0) (may : CoreEvent → Bool) (s t : Sight) (e : CoreEvent) (r : CoreReply) (l : Tells may s e r t) → Counts s
      → (P (run_seen (saw s l.rest)) → Q (extended (run_seen (saw s l.rest)) (e ∷ []))) → IfAlone harmless s P → IfAlone harmless t Q
  tells-knows Q may s t e r l c makes knows alone =
      let before = tells-before harmless may s t c e r l alone in
      subst Q (sym (ap run_seen l.sight ∙ run-told (saw s l.rest) e r))
      (makes (saw-knows s l.rest c knows before.2))
