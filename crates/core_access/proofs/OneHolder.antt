-- A core that nobody else has, as an access tells it.
use Rattle.std.proofs.Common.{◌≡◌, ⊎_elim, inl, List, [], ◌∷◌, ◌++◌, length, Bool, refl, sym, ap, ◌∙◌, subst, append-nil, arith, false}
use Rattle.std.specs.Prelude.{Result, Ok, Err, IfOk, IfErr}
use mathlib.Core.List.{append_assoc}
use Rattle.base_types.specs.Lists.{Member}
use Rattle.core_model.specs.declared.events.CoreEvent.{CoreEvent}
use Rattle.core_model.specs.declared.events.CoreReply.{CoreReply}
use Rattle.core_model.specs.declared.questions.CoreQuestion.{CoreQuestion}
use Rattle.core_model.specs.declared.questions.CoreAnswer.{CoreAnswer}
use Rattle.core_model.specs.Answers.{answer_to}
use Rattle.core_model.specs.LegalRuns.{Run, ends}
use Rattle.core_access.specs.CallsWithoutMemory.{is_spared}
use Rattle.core_model.specs.Laws.{extended}
use Rattle.turn_cell.specs.History.{entries_of, entry}
use Rattle.core_access.specs.Histories.{Told, IsTrue, run_after, reply_in}
use Rattle.core_access.specs.Sights.{run_seen, IsHistory, Looks, Tells, Counts, IsAlone}
use Rattle.core_access.specs.OneHolder.{answered, opened, own_sight, none_comes}
use Rattle.core_access.proofs.Sights.{looks-none}

-- one event more
answered-more : (es : List CoreEvent) (e : CoreEvent) (r : Run) → answered r (es ++ (e ∷ [])) ≡ answered r es ++ (entry [] e (reply_in (run_after r (answered r es)) e) ∷ [])
answered-more [] e r = refl
answered-more (x ∷ es) e r = ap (λ (l : List Told). entry [] x (reply_in r x) ∷ l) (answered-more es e (extended r (x ∷ [])))

-- each reply is the core's
answered-true : (es : List CoreEvent) (r : Run) → IsTrue r (answered r es)
answered-true [] r = tt
answered-true (x ∷ es) r = (refl, answered-true es (extended r (x ∷ [])))

-- the run after them
answered-run : (es : List CoreEvent) (r : Run) → run_after r (answered r es) ≡ extended r es
answered-run [] r = ap (λ (l : List CoreEvent). record r { events = l }) (sym (append-nil r.events))
answered-run (x ∷ es) r = answered-run es (extended r (x ∷ [])) ∙ ap (λ (l : List CoreEvent). record r { events = l }) (append_assoc r.events (x ∷ []) es)

-- what was seen leads to the run
pub own-run : (r : Run) → run_seen (own_sight r) ≡ r
own-run r = answered-run r.events (opened r)

-- it is a true history
pub own-history : (r : Run) → IsHistory (own_sight r)
own-history r = answered-true r.events (opened r)

-- an event is one entry more
pub own-tells : (r : Run) (e : CoreEvent) → Tells none_comes (own_sight r) e (reply_in r e) (own_sight (extended r (e ∷ [])))
own-tells r e =
    let all : List Told = answered (opened r) r.events in
    let none : all ++ [] ≡ all = append-nil all in
    let said : reply_in (run_after (opened r) all) e ≡ reply_in r e = ap (λ (x : Run). reply_in x e) (own-run r) in
    let longer : answered (opened r) (r.events ++ (e ∷ [])) ≡ all ++ (entry [] e (reply_in r e) ∷ []) = answered-more r.events e (opened r) ∙ ap (λ (y : CoreReply). all ++ (entry [] e y ∷ [])) said in record {
      rest = [];
      others = λ x i. absurd i;
      reply = sym said ∙ ap (λ (l : List Told). reply_in (run_after (opened r) l) e) (sym none);
      sight = ap (λ (l : List Told). record { first = opened r; number = []; seen = l; mine = l }) longer
          ∙ ap (λ (l : List Told). record { first = opened r; number = []; seen = l ++ (entry [] e (reply_in r e) ∷ []); mine = all ++ (entry [] e (reply_in r e) ∷ []) }) (sym none);
    }

-- each of them is one's own
answered-by : (es : List CoreEvent) (r : Run) (x : Told) → Member x (answered r es) → x.by ≡ []
answered-by [] r x i = absurd i
answered-by (e ∷ es) r x i = ⊎_elim
    (λ (t : x ≡ entry [] e (reply_in r e)). ap (λ (z : Told). z.by) t)
    (λ t. answered-by es (extended r (e ∷ [])) x t)
    i

-- and all are of the one number
answered-own : (es : List CoreEvent) (r : Run) → entries_of [] (answered r es) ≡ answered r es
answered-own [] r = refl
answered-own (e ∷ es) r = ap (λ (l : List Told). entry [] e (reply_in r e) ∷ l) (answered-own es (extended r (e ∷ [])))

-- all one's own entries were seen
pub own-counts : (r : Run) → Counts (own_sight r)
own-counts r = let e = ap (length {A = Told}) (answered-own r.events (opened r)) in omega (arith, e)

-- nobody else interferes
pub own-alone : (harmless : CoreEvent → Bool) (r : Run) → IsAlone harmless (own_sight r)
own-alone harmless r = record {
  others = λ x i. inl (answered-by r.events (opened r) x i);
  own = answered-own r.events (opened r);
}

-- a step of the core, as an access tells it
pub core-put : {E : Type 0} (r : Result CoreReply E) (old new : Run) (e : CoreEvent) →
    IfOk r (λ y. (new ≡ extended old (e ∷ [])) × (y ≡ reply_in old e)) → IfOk r (λ y. Tells none_comes (own_sight old) e y (own_sight new))
core-put (Ok y) old new e p =
    subst (λ (z : CoreReply). Tells none_comes (own_sight old) e z (own_sight new)) (sym p.1)
    (subst (λ (x : Run). Tells none_comes (own_sight old) e (reply_in old e) (own_sight x)) (sym p.0) (own-tells old e))
core-put (Err back) old new e p = p

-- a run that stays is looked at
pub core-same : (old new : Run) → new ≡ old → Looks none_comes (own_sight old) (own_sight new)
core-same old new is = subst (λ (x : Run). Looks none_comes (own_sight old) (own_sight x)) (sym is) (looks-none none_comes (own_sight old))

-- a step without memory, as an access tells it
pub core-back : {E : Type 0} (r : Result CoreReply (E × CoreEvent)) (old new : Run) (e : CoreEvent) →
    IfErr r (λ x. (new ≡ old) × (x.1 ≡ e)) → IfErr r (λ x. (x.1 ≡ e) × Looks none_comes (own_sight old) (own_sight new))
core-back (Ok y) old new e p = p
core-back (Err back) old new e p = (p.1, core-same old new p.0)

-- an event that wasn't spared isn't, as an access tells it
pub core-spared : {E : Type 0} (r : Result CoreReply (E × CoreEvent)) (old new : Run) (e : CoreEvent) →
    IfErr r (λ x. (new ≡ old) × (x.1 ≡ e)) → IfErr r (λ x. is_spared old e ≡ false) → IfErr r (λ x. is_spared (run_seen (own_sight new)) e ≡ false)
core-spared (Ok y) old new e p q = p
core-spared (Err back) old new e p q = ap (λ (x : Run). is_spared x e) (own-run new ∙ p.0) ∙ q

-- an answer of the core, as an access tells it
pub core-seen : {E : Type 0} (r : Result CoreAnswer E) (run : Run) (q : CoreQuestion) →
    IfOk r (λ a. a ≡ answer_to (ends run) q) → IfOk r (λ a. a ≡ answer_to (ends (run_seen (own_sight run))) q)
core-seen r run q p = subst (λ (x : Run). IfOk r (λ a. a ≡ answer_to (ends x) q)) (sym (own-run run)) p
