-- Settled entries can be written as lines.
use Rattle.std.proofs.Common.{◌≡◌, ℕ, zero, suc, ◌^◌, ◌<◌, List, [], ◌∷◌, length, get_or, inl, inr, refl, ap, ◌∙◌, subst, arith, Option, Some, None}
use Rattle.std.specs.Prelude.{slice_get}
use Rattle.std.proofs.lemmas.List.{length-map}
use Rattle.std.proofs.lemmas.Option.{slice_get_within, get_or_from_slice_get}
use Rattle.base_types.specs.declared.calls.Call.{Call}
use Rattle.base_types.specs.declared.calls.GrainId.{GrainId}
use Rattle.base_types.specs.declared.calls.Outcome.{Outcome}
use Rattle.base_types.specs.declared.calls.Outcome.TheVariants as outcome
use Rattle.base_types.specs.declared.calls.UnitNo.{UnitNo}
use Rattle.base_types.specs.declared.calls.Value.{Value}
use Rattle.base_types.specs.declared.entries.BadRequest.{BadRequest}
use Rattle.base_types.specs.declared.entries.Entry.{Entry}
use Rattle.base_types.specs.declared.entries.Settled.{Settled}
use Rattle.base_types.specs.declared.entries.Settled.TheVariants as settled
use Rattle.core_model.specs.CoreState.{Member, CoreState}
use Rattle.core_model.specs.declared.questions.SettlerWork.{SettlerWork}
use Rattle.core_model.specs.declared.questions.SettlerWork.TheVariants as work
use Rattle.core_model.specs.LegalRuns.{Run, ends}
use Rattle.core_model.specs.ProperEntries.{HasUnitOf, MaySettle}
use Rattle.core_model.specs.Settler.{Step, Votes, Decides, Seals, Learns, Writes, Loads, Takes, Rests, settler_step, work_in, write_work}
use Rattle.core_laws.proofs.LineEntries.{once-ends}
use Rattle.core_laws.proofs.Proper.{has-unit-ends, words-ends}
use Rattle.promise_laws.specs.Legality.{is_play, applied_run}
use Rattle.promise_laws.proofs.LegalRuns.{ends_alike, rule-plays}
use Rattle.field_codec.specs.declared.formats.Format.TheVariants.{Two}
use Rattle.field_codec.specs.Spelling.{ResultFits}
use Rattle.promise_spec.specs.Outputs.{HasUnit, MaySay, IsProper}
use Rattle.promise_spec.specs.UnitRule.{Basis, KeepsUnitRule}
use Rattle.script_check.specs.Shapes.{type_shape}
use Rattle.serde_json.specs.Data.{Data}
use Rattle.settler_rules.specs.Entries.{IsEntryInRange, IsOutcomeInRange, IsSaidInRange}
use Rattle.settler_rules.specs.LoggedUnits.{shape_with}
use Rattle.settler_rules.proofs.LoggedUnits.{never-aborts, kinds-are}

-- ---- entries

has-unit : (base : ℕ) (w : CoreState) (u : UnitNo) (what : Settled) → 0 < base → u.0 < 2 ^ 64 → HasUnitOf base w u what → HasUnit u what
has-unit base w u (settled.Bad why) above low h = h
has-unit base w u (settled.Done result) above low h = (let first = h.0 in omega (arith, above, first), low)
has-unit base w u (settled.Lock by g) above low h = (let first = h.0 in omega (arith, above, first), low)
has-unit base w u (settled.Vote g) above low h = (let first = h.0 in omega (arith, above, first), low)
has-unit base w u (settled.Dependency on) above low h = (let first = h.0 in omega (arith, above, first), low)
has-unit base w u settled.Disk above low h = (let first = h.0 in omega (arith, above, first), low)
has-unit base w u settled.InDoubt above low h = (let first = h.0 in omega (arith, above, first), low)

result-fits : (o : Outcome) → IsOutcomeInRange o → (o ≡ outcome.Aborted → ⊥) → ResultFits Two o
result-fits outcome.Aborted range never = never refl
result-fits (outcome.Value v) range never = range
result-fits (outcome.Fault t) range never = range

-- an entry of the core's
member-of-slice : {A : Type 0} (xs : List A) (k : ℕ) (x : A) → slice_get xs k ≡ Some x → Member x xs
member-of-slice {A} xs k x is = subst (λ (y : A). Member y xs) (get_or_from_slice_get xs k x x is) (go xs k (slice_get_within xs k x is))
  where
    go : (ys : List A) (i : ℕ) → i < length ys → Member (get_or ys i x) ys
    go [] i low = absurd (omega (arith, low))
    go (y ∷ ys) zero low = inl refl
    go (y ∷ ys) (suc i) low = inr (go ys i (omega (arith, low)))

module _ (s : Basis) (r : Run) (above : 0 < r.base) (keeps : KeepsUnitRule s r) (kinds : r.kinds ≡ length s.types) where
  -- what an entry says that names no dependency
  words : (x : Entry) → Member x (ends r).manager.settled → ((on : UnitNo) → x.what ≡ settled.Dependency on → ⊥) → MaySettle (ends r) x.unit x.what
  words =
      subst (λ (w : CoreState). (x : Entry) → Member x w.manager.settled → ((on : UnitNo) → x.what ≡ settled.Dependency on → ⊥) → MaySettle w x.unit x.what) (ends_alike r)
      (λ x m other. words-ends (is_play s.types) (applied_run r) above (rule-plays s r keeps) (never-aborts s.types) x m other)

  in-shape : (k : ℕ) → k < (ends r).units.kinds → k < length (shape_with s.types).types
  in-shape k low = (let same = kinds-are r in let count = length-map s.types type_shape in omega (arith, low, same, kinds, count))

  may-say : (u : UnitNo) (what : Settled) → IsSaidInRange what → (((on : UnitNo) → what ≡ settled.Dependency on → ⊥) → MaySettle (ends r) u what) → MaySay (shape_with s.types) what
  may-say u (settled.Done result) range may = result-fits result range (may (λ on q. cc))
  may-say u (settled.Lock by g) range may = (range.0, (in-shape g.kind (may (λ on q. cc)).1, range.1))
  may-say u (settled.Vote g) range may = (in-shape g.kind (may (λ on q. cc)), range)
  may-say u (settled.Dependency on) range may = range
  may-say u settled.Disk range may = tt
  may-say u settled.InDoubt range may = tt
  may-say u (settled.Bad why) range may = tt

  pub entry-proper : (x : Entry) → Member x (ends r).manager.settled → IsEntryInRange x → IsProper (shape_with s.types) x
  entry-proper x m range = record {
    line = (((once-ends r above).entry x m).0, range.line);
    unit = has-unit r.base (ends r) x.unit x.what above range.unit (has-unit-ends r above x m);
    what = may-say x.unit x.what range.said (words x m);
  }

-- ---- the entry that is shown

pub entry-shown : (w : CoreState) (x : Entry) → work_in w (settler_step w) ≡ work.Write x → Member x w.manager.settled
entry-shown w x is = by_step (settler_step w) is
  where
    entry_of : SettlerWork → Option Entry
    entry_of (work.Vote n g versions) = None
    entry_of (work.Decide n) = None
    entry_of (work.Seal n effects) = None
    entry_of (work.Learn u g) = None
    entry_of (work.Write entry) = Some entry
    entry_of (work.Load g) = None
    entry_of work.Take = None
    entry_of work.Nothing = None

    nothing : {A : Type 0} → None ≡ Some x → A
    nothing q = absurd cc

    by_entry : (o : Option Entry) → slice_get w.manager.settled w.manager.emitted ≡ o → write_work o ≡ work.Write x → Member x w.manager.settled
    by_entry None q e = nothing (ap entry_of e)
    by_entry (Some y) q e =
        member-of-slice w.manager.settled w.manager.emitted x (q ∙ ap entry_of e)

    by_step : (step : Step) → work_in w step ≡ work.Write x → Member x w.manager.settled
    by_step (Votes n g) e = nothing (ap entry_of e)
    by_step (Decides n) e = nothing (ap entry_of e)
    by_step (Seals n) e = nothing (ap entry_of e)
    by_step (Learns u g) e = nothing (ap entry_of e)
    by_step Writes e = by_entry (slice_get w.manager.settled w.manager.emitted) refl e
    by_step (Loads g) e = nothing (ap entry_of e)
    by_step Takes e = nothing (ap entry_of e)
    by_step Rests e = nothing (ap entry_of e)
