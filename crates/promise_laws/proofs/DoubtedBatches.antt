-- What a batch in doubt says of the run.
use Rattle.std.proofs.Common.{◌≡◌, ℕ, ◌<◌, List, [], ◌∷◌, map, filter, drop, true, false, inl, inr, refl, sym, ap, ◌∙◌, arith}
use Rattle.std.specs.Prelude.{slice_get, Ok, Err}
use Rattle.base_types.specs.declared.entries.BadRequest.{BadRequest}
use Rattle.base_types.specs.declared.entries.Entry.{Entry}
use Rattle.base_types.specs.declared.entries.Settled.{Settled}
use Rattle.base_types.specs.declared.entries.Settled.TheVariants as settled
use Rattle.cell_model.proofs.Units.{filter-member}
use Rattle.host_trait.specs.Faults.{Rose}
use Rattle.core_model.specs.declared.events.CoreEvent.TheVariants.{Doubt}
use Rattle.core_model.specs.declared.phases.Phase.TheVariants.{Unborn, Finished, Ended}
use Rattle.core_model.specs.declared.phases.Verdict.TheVariants.{Aborted}
use Rattle.core_model.specs.CoreState.{UnitNo, GrainId, Call, Member, Value, CoreState}
use Rattle.core_model.specs.Tests.{is_good}
use Rattle.core_model.specs.Answers.{effect_of}
use Rattle.core_model.specs.LegalRuns.{Run}
use Rattle.core_laws.proofs.Orders.{in_drop}
use Rattle.core_laws.proofs.KeptInvariant.{Kept}
use Rattle.core_laws.proofs.CommitOrder.{begin_of}
use Rattle.script_tree.specs.Programs.{ProgramTree}
use Rattle.request_wire.specs.Names.{names_in}
use Rattle.request_wire.specs.Request.{call_of}
use Rattle.promise_spec.specs.Lines.{IsLineCall, IsBadLine}
use Rattle.promise_spec.specs.Cores.{how_many}
use Rattle.promise_spec.specs.Causes.{RoseBy, RunHasDoubt, is_unsealed}
use Rattle.promise_spec.specs.Exits.{units_in_doubt}
use Rattle.promise_spec.proofs.Lists.{some_is}
use Rattle.promise_laws.proofs.AppliedEvents.{none-applies}
use Rattle.promise_laws.proofs.Tellings.{Tells}
use Rattle.promise_laws.proofs.TrueReplies.{Known}
use Rattle.core_laws.proofs.Invariant.{loadless-of}

-- where a batch is in doubt, the manager file's count of faults rose
rose-by : (n old new : ℕ) → (n ≡ 0 → ⊥) → RoseBy n old new → Rose old new
rose-by n old new some rose = omega (arith, some, rose)

pub doubt-rose : (r : Run) (old new : ℕ) → RunHasDoubt r → RoseBy (how_many is_unsealed r) old new → Rose old new
doubt-rose r old new d rose = rose-by (how_many is_unsealed r) old new (λ none. none-applies is_unsealed r none d.at (Doubt d.number) d.doubt refl) rose

-- ---- what a unit in doubt was told

-- no line is both a call and bad
pub not-both : (types : ProgramTree) (lines : List (List ℕ)) (n : ℕ) (call : Call) (why : BadRequest) → IsLineCall types lines n call → IsBadLine types lines n why → ⊥
not-both types lines n call why a b =
    let same : a.index ≡ b.index = omega (arith, a.number, b.number) in
    let text : a.text ≡ b.text = some_is a.text b.text (sym a.there ∙ ap (slice_get lines) same ∙ b.there) in
    let z : Ok call ≡ Err why = sym a.reads ∙ ap (call_of (names_in types)) text ∙ b.reads in
    absurd cc

-- a unit among the effects is one of the units
unit-in : (w : CoreState) (us : List UnitNo) (u : UnitNo) → Member u (map (λ e. e.unit) (map (effect_of w) us)) → Member u us
unit-in w [] u m = absurd m
unit-in w (x ∷ us) u (inl same) = inl same
unit-in w (x ∷ us) u (inr m) = inr (unit-in w us u m)

-- it has finished, behind where the batch begins, and is to commit
doubtful-is : (opening : GrainId → List Value) (w : CoreState) → Kept opening w → (u : UnitNo) → Member u (units_in_doubt w)
    → (w.units.phase u ≡ Finished) × (begin_of w < w.manager.place u) × (is_good (w.manager.verdict u) ≡ true)
doubtful-is opening w k u m =
    let good = filter-member (λ x. is_good (w.manager.verdict x)) (drop (begin_of w) w.manager.order) u (unit-in w (filter (λ x. is_good (w.manager.verdict x)) (drop (begin_of w) w.manager.order)) u m) in
    let finished = in_drop _ w (loadless-of opening _ w k.0) (begin_of w) u good.0 in
    (finished.0, finished.1, good.1)

-- so it was told no more than the doubt
pub doubt-told : (types : ProgramTree) (lines : List (List ℕ)) (opening : GrainId → List Value) (base : ℕ) (w : CoreState) → Known types lines opening base w
    → (e : Entry) → Member e w.manager.settled → Member e.unit (units_in_doubt w) → e.what ≡ settled.InDoubt
doubt-told types lines opening base w known e m in_doubt = go e.what refl (known.tells e m)
  where
    finished : w.units.phase e.unit ≡ Finished
    finished = (doubtful-is opening w known.kept e.unit in_doubt).0

    behind : begin_of w < w.manager.place e.unit
    behind = (doubtful-is opening w known.kept e.unit in_doubt).1

    not-aborted : w.manager.verdict e.unit ≡ Aborted → ⊥
    not-aborted dead = (let z : false ≡ true = sym (ap is_good dead) ∙ (doubtful-is opening w known.kept e.unit in_doubt).2 in cc)

    go : (what : Settled) → e.what ≡ what → Tells types lines w e what → e.what ≡ settled.InDoubt
    go (settled.Done outcome) q t = elim t.0 [
      | inl f ↦ (let z : Ended ≡ Finished = sym f ∙ finished in absurd cc)
      | inr f ↦ absurd (known.split.1 e.unit finished behind f.1)
    ]
    go (settled.Lock by grain) q t = absurd (not-aborted t)
    go (settled.Vote grain) q t = absurd (not-aborted t)
    go (settled.Dependency on) q t = absurd (not-aborted t)
    go settled.Disk q t = absurd (not-aborted t)
    go settled.InDoubt q t = q
    go (settled.Bad why) q t = elim (known.once.entry e m).2 [
      | inl o ↦ (let z : Unborn ≡ Finished = sym (ap w.units.phase o.0 ∙ known.kept.0.outside) ∙ finished in absurd cc)
      | inr o ↦ absurd (not-both types lines e.line (w.units.call e.unit) why (known.rule.3 e.unit e.line o.0).0 t)
    ]
