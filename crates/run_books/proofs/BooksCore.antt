-- What an event changes of what the books are told of: settled entries, how many are written, the doubt and the stop.
use Rattle.std.proofs.Common.{◌≡◌, ℕ, ◌+◌, List, [], ◌∷◌, ◌++◌, Bool, true, false, true≢false, Option, Some, None, refl, sym, ap, subst, ◌∙◌, append-nil}
use Rattle.std.specs.Prelude.{if◌then◌else◌}
use Rattle.std.proofs.lemmas.Bool.{and_parts, false≢true}
use Rattle.base_types.specs.declared.entries.Entry.{Entry}
use Rattle.base_types.specs.declared.entries.Settled.TheVariants as settled
use Rattle.cell_model.specs.Units.{nobody}
use Rattle.core_model.specs.CoreState.{CoreState}
use Rattle.core_model.specs.Tests.{members}
use Rattle.core_model.specs.Changes.{swept, swept_by, entry_for, entries_in, decisions_of, with_decisions, result_told}
use Rattle.core_model.specs.declared.events.CoreEvent.{CoreEvent}
use Rattle.core_model.specs.declared.events.CoreEvent.TheVariants.{Halt}
use Rattle.core_model.specs.Events.{applies, is_allowed, can, does, step}
use Rattle.core_model.specs.LegalRuns.{Run, ends}
use Rattle.core_model.specs.Laws.{extended}
use Rattle.core_laws.proofs.EventCases.{Change, bad, begin, lock, raise, refuse, finish, end_plain, end_snapshot, release, take_batch, vote, decide_some, decide_none, seal_batch, spoil_batch, doubt_batch, learn, emit, halt_run, want, load, decode}
use Rattle.settle_loop.specs.ShownWork.{tells_entry, tells_doubt}
use Rattle.settler_rules.proofs.StandingVotes.{ends-more}

-- the event is a stop
abbrev pub is_halt : CoreEvent → Bool
is_halt Halt = true
is_halt _ = false

-- Entries are settled behind those of before. One more is written where the event says so, a doubt comes by its event alone, and
-- a stop by its.
pub record Moves (w : CoreState) (e : CoreEvent) (w' : CoreState) : Type 0 where
  pub more : List Entry
  pub settled : w'.manager.settled ≡ w.manager.settled ++ more
  pub emitted : tells_entry e ≡ false → w'.manager.emitted ≡ w.manager.emitted
  pub counted : tells_entry e ≡ true → (w'.manager.emitted ≡ w.manager.emitted + 1) × (more ≡ [])
  pub doubt : tells_doubt e ≡ false → w'.manager.doubt ≡ w.manager.doubt
  pub doubted : tells_doubt e ≡ true → (begins : ℕ) × (w'.manager.doubt ≡ Some begins)
  pub halt : is_halt e ≡ false → w'.units.halt ≡ w.units.halt

-- an event that says none of it
module _ (w : CoreState) (e : CoreEvent) (w' : CoreState) (entry : tells_entry e ≡ false) (doubt : tells_doubt e ≡ false) where
  moves-none : w'.manager.settled ≡ w.manager.settled → w'.manager.emitted ≡ w.manager.emitted → w'.manager.doubt ≡ w.manager.doubt → (is_halt e ≡ false → w'.units.halt ≡ w.units.halt) → Moves w e w'
  moves-none s m d h = record {
    more = [];
    settled = s ∙ sym (append-nil w.manager.settled);
    emitted = λ q. m;
    counted = λ q. absurd (true≢false (sym q ∙ entry));
    doubt = λ q. d;
    doubted = λ q. absurd (true≢false (sym q ∙ doubt));
    halt = h;
  }

  moves-some : (more : List Entry) → w'.manager.settled ≡ w.manager.settled ++ more → w'.manager.emitted ≡ w.manager.emitted → w'.manager.doubt ≡ w.manager.doubt → w'.units.halt ≡ w.units.halt → Moves w e w'
  moves-some more s m d h = record {
    more = more;
    settled = s;
    emitted = λ q. m;
    counted = λ q. absurd (true≢false (sym q ∙ entry));
    doubt = λ q. d;
    doubted = λ q. absurd (true≢false (sym q ∙ doubt));
    halt = λ q. h;
  }

moves-change : (w : CoreState) (e : CoreEvent) (w' : CoreState) → Change w e w' → Moves w e w'
moves-change w e w' (bad line why q) = moves-some w e w' refl refl (record { line = line; unit = nobody; what = settled.Bad why } ∷ []) refl refl refl refl
moves-change w e w' (begin origin call plain c) = moves-none w e w' refl refl refl refl refl (λ q. refl)
moves-change w e w' (lock u g mode running free first here) = moves-none w e w' refl refl refl refl refl (λ q. refl)
moves-change w e w' (raise u g mode running free held here uncovered) = moves-none w e w' refl refl refl refl refl (λ q. refl)
moves-change w e w' (refuse u g mode why running q) = moves-some w e w' refl refl (entry_for (w.units.origin u) u why) refl refl refl refl
moves-change w e w' (finish u effect running plain of_call reads alone) = moves-none w e w' refl refl refl refl refl (λ q. refl)
moves-change w e w' (end_plain u effect running plain of_call bare) = moves-some w e w' refl refl (entry_for (w.units.origin u) u (settled.Done effect.result)) refl refl refl refl
moves-change w e w' (end_snapshot u at outcome running plain kids answer) = moves-some w e w' refl refl (entry_for (w.units.origin u) u (settled.Done outcome)) refl refl refl refl
moves-change w e w' (release u g over held) = moves-none w e w' refl refl refl refl refl (λ q. refl)
moves-change w e w' (take_batch none some) = moves-none w e w' refl refl refl refl refl (λ q. refl)
moves-change w e w' (vote n g kept b q number d planned fresh) = moves-none w e w' refl refl refl refl refl (λ q. refl)
moves-change w e w' (decide_some n b q number d voted some) = moves-none w e w' refl refl refl refl refl (λ q. refl)
moves-change w e w' (decide_none n b q number d voted none) =
    moves-some w e w' refl refl (entries_in (with_decisions w b (decisions_of w b)) (result_told (with_decisions w b (decisions_of w b))) (members (with_decisions w b (decisions_of w b)) b) (decisions_of w b)) refl refl refl refl
moves-change w e w' (seal_batch n b ds q number d) = moves-some w e w' refl refl (entries_in w (result_told w) (members w b) ds) refl refl refl refl
moves-change w e w' (spoil_batch n b ds q number d) = moves-some w e w' refl refl (entries_in w (λ u. settled.Disk) (members w b) ds) refl refl refl refl
moves-change w e w' (doubt_batch n b ds q number d) = record {
  more = entries_in w (λ u. settled.InDoubt) (members w b) ds;
  settled = refl;
  emitted = λ t. refl;
  counted = λ t. absurd (false≢true t);
  doubt = λ t. absurd (true≢false t);
  doubted = λ t. (w.manager.closed, refl);
  halt = λ t. refl;
}
moves-change w e w' (learn u g wrote final fresh) = moves-none w e w' refl refl refl refl refl (λ q. refl)
moves-change w e w' (emit q) = record {
  more = [];
  settled = sym (append-nil w.manager.settled);
  emitted = λ t. absurd (true≢false t);
  counted = λ t. (refl, refl);
  doubt = λ t. refl;
  doubted = λ t. absurd (false≢true t);
  halt = λ t. refl;
}
moves-change w e w' (halt_run q) = moves-none w e w' refl refl refl refl refl (λ t. absurd (true≢false t))
moves-change w e w' (want u g running free fresh) = moves-none w e w' refl refl refl refl refl (λ q. refl)
moves-change w e w' (load g u state gone wanted) = moves-none w e w' refl refl refl refl refl (λ q. refl)

-- grains that leave memory leave it all
moves-swept : (w : CoreState) (e : CoreEvent) (w' : CoreState) → Moves w e w' → Moves w e (swept w')
moves-swept w e w' m = go w'.cells.capacity
  where
    go : (c : Option ℕ) → Moves w e (swept_by w' c)
    go None = m
    go (Some n) = record { more = m.more; settled = m.settled; emitted = m.emitted; counted = m.counted; doubt = m.doubt; doubted = m.doubted; halt = m.halt }

-- an event that applies, of a state
moves-step : (w : CoreState) (e : CoreEvent) → applies w e ≡ true → Moves w e (step w e)
moves-step w e a =
    subst (λ (b : Bool). Moves w e (if b then swept (does w e) else w)) (sym a)
    (moves-swept w e (does w e) (moves-change w e (does w e) (decode w e (and_parts (is_allowed w e) (can w e) a).1)))

-- and of a run
pub moves-run : (r : Run) (e : CoreEvent) → applies (ends r) e ≡ true → Moves (ends r) e (ends (extended r (e ∷ [])))
moves-run r e a = subst (Moves (ends r) e) (sym (ends-more r (e ∷ []))) (moves-step (ends r) e a)

-- one that doesn't apply changes nothing
pub unapplied-run : (r : Run) (e : CoreEvent) → applies (ends r) e ≡ false → ends (extended r (e ∷ [])) ≡ ends r
unapplied-run r e a = ends-more r (e ∷ []) ∙ ap (λ (b : Bool). if b then swept (does (ends r) e) else ends r) a
