-- Each unit of a decided open batch has a decision, whatever was loaded.
use Rattle.std.proofs.Common.{◌≡◌, ◌<◌, length, true, sym, ap, ◌∙◌, subst, Option, Some, None, map}
use Rattle.std.proofs.lemmas.List.{length-map}
use Rattle.cell_model.proofs.Decisions.{decided-length}
use Rattle.core_model.specs.CoreState.{Batch, CoreState}
use Rattle.core_model.specs.Tests.{is_bad, members, prepared}
use Rattle.core_model.specs.Changes.{decisions_of}
use Rattle.core_model.specs.LoadlessLaws.{EachIsDecided}
use Rattle.core_model.specs.Events.{applies, step}
use Rattle.core_model.specs.declared.events.CoreEvent.{CoreEvent}
use Rattle.core_model.specs.LegalRuns.{Run, begins, ends}
use Rattle.core_laws.proofs.EventCases.{Change, bad, begin, lock, raise, refuse, finish, end_plain, end_snapshot, release, take_batch, vote, decide_some, decide_none, seal_batch, spoil_batch, doubt_batch, learn, emit, halt_run, want, load}
use Rattle.core_laws.proofs.Orders.{take-drop-push}
use Rattle.core_laws.proofs.LoadlessKept.{LoadlessKept, size-at, loadless-change, loadless-begins}
use Rattle.core_laws.proofs.AnyEvents.{step-keeps, run-keeps}

some-is : {A : Type 0} (x y : A) → Some x ≡ Some y → x ≡ y
some-is x y e = cc

none-some : {A : Type 0} (o : Option A) (x : A) → o ≡ None → o ≡ Some x → ⊥
none-some o x n s = (let t : None ≡ Some x = sym n ∙ s in cc)

-- what a batch's decisions are computed to is one for each of its units
pub decided-many : (w : CoreState) (b : Batch) → length (decisions_of w b) ≡ length (members w b)
decided-many w b = decided-length (λ u. is_bad (w.manager.verdict u)) (map (prepared w b) (members w b)) ∙ length-map (members w b) (prepared w b)

pub each-change : (w : CoreState) (e : CoreEvent) (w' : CoreState) → Change w e w' → applies w e ≡ true → LoadlessKept w → EachIsDecided w → EachIsDecided w'
each-change w e w' (bad line why q) a k s = s
each-change w e w' (begin origin call plain c) a k s = s
each-change w e w' (lock u g mode running free first here) a k s = s
each-change w e w' (raise u g mode running free held here uncovered) a k s = s
each-change w e w' (refuse u g mode why running q) a k s = s
each-change w e w' (finish u effect running plain of_call reads alone) a k s = λ b ds z y. s b ds z y ∙ ap length (sym (take-drop-push b.size w.manager.closed w.manager.order u (size-at w b k z)))
each-change w e w' (end_plain u effect running plain of_call bare) a k s = s
each-change w e w' (end_snapshot u at outcome running plain kids answer) a k s = s
each-change w e w' (release u g over held) a k s = s
each-change w e w' (take_batch none some) a k s = λ b ds z y. absurd (none-some b.decisions ds (ap (λ (t : Batch). t.decisions) (sym (some-is _ b z))) y)
each-change w e w' (vote n g kept b q number d planned fresh) a k s = λ c ds z y. absurd (none-some c.decisions ds (ap (λ (t : Batch). t.decisions) (sym (some-is _ c z)) ∙ d) y)
each-change w e w' (decide_some n b q number d voted some) a k s =
    λ c ds z y.
    let same : record b { decisions = Some (decisions_of w b) } ≡ c = some-is _ c z in
    let all : decisions_of w b ≡ ds = some-is _ ds (ap (λ (t : Batch). t.decisions) same ∙ y) in
    subst (λ (t : Batch). length ds ≡ length (members w t)) same (subst (λ cs. length cs ≡ length (members w b)) all (decided-many w b))
each-change w e w' (decide_none n b q number d voted none) a k s = λ c ds z y. (let t : None ≡ Some c = z in cc)
each-change w e w' (seal_batch n b ds q number d) a k s = λ c cs z y. (let t : None ≡ Some c = z in cc)
each-change w e w' (spoil_batch n b ds q number d) a k s = λ c cs z y. (let t : None ≡ Some c = z in cc)
each-change w e w' (doubt_batch n b ds q number d) a k s = λ c cs z y. (let t : None ≡ Some c = z in cc)
each-change w e w' (learn u g wrote final fresh) a k s = s
each-change w e w' (emit q) a k s = s
each-change w e w' (halt_run q) a k s = s
each-change w e w' (want u g running free fresh) a k s = s
each-change w e w' (load g u state gone wanted) a k s = s

both : (w : CoreState) (e : CoreEvent) (w' : CoreState) → Change w e w' → applies w e ≡ true → LoadlessKept w × EachIsDecided w → LoadlessKept w' × EachIsDecided w'
both w e w' c a t = (loadless-change w e w' c a t.0, each-change w e w' c a t.0 t.1)

pub each-step : (w : CoreState) (e : CoreEvent) → LoadlessKept w → EachIsDecided w → EachIsDecided (step w e)
each-step w e k s = (step-keeps (λ v. LoadlessKept v × EachIsDecided v) both (λ v here t. t) w e (k, s)).1

pub each-ends : (r : Run) → 0 < r.base → EachIsDecided (ends r)
each-ends r above = (run-keeps (λ w. LoadlessKept w × EachIsDecided w) both (λ w here t. t) r.events (begins r)
    (loadless-begins r above, λ b ds q. cc)).1
