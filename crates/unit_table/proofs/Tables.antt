-- One unit of a table changes.
use Rattle.std.proofs.Common.{◌≡◌, ℕ, suc, ◌+◌, ◌-◌, ◌<◌, [], ◌∷◌, ◌++◌, length, length-append, set, get_or, Bool, true, inl, inr, refl, sym, ap, ◌∙◌, arith, Option, Some, None, vec_len}
use Rattle.std.specs.VecDeque.{deque_len}
use Rattle.std.specs.Prelude.{is_some, slice_get}
use Rattle.std.proofs.lemmas.Bool.{cases_lt}
use Rattle.std.proofs.lemmas.Option.{slice_get_read, slice_get_past}
use Rattle.core_model.specs.CoreState.{UnitNo, Origin, Outcome, Units, put}
use Rattle.base_types.specs.declared.calls.Origin.TheVariants.{Line, Child}
use Rattle.core_model.specs.Tests.{is_running}
use Rattle.core_laws.proofs.Puts.{put-at, put-is, put-other}
use Rattle.core_model.specs.declared.effects.Read.{Read}
use Rattle.core_model.specs.declared.phases.Phase.{Phase}
use Rattle.core_model.specs.declared.phases.Verdict.{Verdict}
use Rattle.core_model.specs.Changes.{without_want, without_wants}
use Rattle.unit_table.specs.declared.entry.PastUnit.{PastUnit}
use Rattle.unit_table.specs.declared.entry.UnitEntry.{UnitEntry}
use Rattle.unit_table.specs.declared.table.UnitTable.{UnitTable}
use Rattle.unit_table.specs.KnownUnits.{KnownUnit, unborn, known_entry, known_past}
use Rattle.unit_table.specs.Parts.{units_read, units_over, deps_after}
use Rattle.unit_table.specs.Table.{first_in, entry_in, past_in, is_past, among, known_of, known_by, known_in, next_in, units_of, wants_in}
use Rattle.unit_table.specs.Rooms.{SameUnits, SameRest, ParentRuns}
use Rattle.unit_table.proofs.Entries.{put-of, put-kept, get-set_same, entry-before, entry-place, set-entries, push-entries, drop-entries}

-- a unit whose place is among the entries keeps its result
pub past-none : (t : UnitTable) (u : UnitNo) (k : ℕ) → u.0 ≡ first_in t + k → past_in t u ≡ None
past-none t u k place =
    let len = t.past.ok.0 in
    entry-place t.base t.past.items u (vec_len t.past + k) (omega (arith, place))
    ∙ slice_get_past t.past.items (vec_len t.past + k) (omega (arith, len))

-- a unit whose entry is read
pub entry-read : (t : UnitTable) (u : UnitNo) (k : ℕ) (x : UnitEntry) → u.0 ≡ first_in t + k → k < deque_len t.units → x ≡ get_or t.units.items k x → entry_in t u ≡ Some x
entry-read t u k x place within read =
    entry-place (first_in t) t.units.items u k place ∙ slice_get_read t.units.items (deque_len t.units) k x t.units.ok.0 within read

-- that is what is known of it
pub known-read : (t : UnitTable) (u : UnitNo) (k : ℕ) (x : UnitEntry) → u.0 ≡ first_in t + k → k < deque_len t.units → x ≡ get_or t.units.items k x → known_in t u ≡ known_entry x
known-read t u k x place within read = λ i. known_by (past-none t u k place i) (entry-read t u k x place within read i)

-- an entry is replaced of a unit that keeps its result
put-known : (t : UnitTable) (u : UnitNo) (x : UnitEntry) → past_in t u ≡ None → ◌≡◌ {A = UnitNo → KnownUnit} (λ v. known_by (past_in t v) (put (entry_in t) u (Some x) v)) (put (known_in t) u (known_entry x))
put-known t u x none = λ i v. at v i
  where
    at : (v : UnitNo) → known_by (past_in t v) (put (entry_in t) u (Some x) v) ≡ put (known_in t) u (known_entry x) v
    at v = put-at (entry_in t) u (Some x) (λ y. known_by (past_in t v) y ≡ put (known_in t) u (known_entry x) v) v
        (λ e. ap (λ q. known_by (past_in t q) (Some x)) e ∙ ap (λ o. known_by o (Some x)) none ∙ sym (put-is (known_in t) u (known_entry x) v e))
        (λ n. sym (put-other (known_in t) u (known_entry x) v n))

-- The two have the same units whose results have gone.
pub record SamePast (t n : UnitTable) : Type 0 where
  pub base : n.base ≡ t.base
  pub past : n.past ≡ t.past

-- what is known by what is kept
known-parts : (t n : UnitTable) → SamePast t n → (f : UnitNo → Option UnitEntry) → entry_in n ≡ f → known_in n ≡ (λ v. known_by (past_in t v) (f v))
known-parts t n same f entries = λ i v. known_by (among (same.base i) (same.past i).items v) (entries i v)

-- what is known of one unit is replaced
pub known-set : (t n : UnitTable) (u : UnitNo) (k : ℕ) (x : UnitEntry) → SamePast t n → n.units.items ≡ set t.units.items k x → k < deque_len t.units → u.0 ≡ first_in t + k →
    known_in n ≡ put (known_in t) u (known_entry x)
known-set t n u k x same items within place =
    let inside : k < length t.units.items = let len = t.units.ok.0 in omega arith in
    known-parts t n same (put (entry_in t) u (Some x))
    ((λ i. among (same.base i + vec_len (same.past i)) (items i)) ∙ set-entries (first_in t) t.units.items u k x inside place)
    ∙ put-known t u x (past-none t u k place)

-- it is changed
pub known-changed : (t n : UnitTable) (u : UnitNo) (k : ℕ) (y x : UnitEntry) (change : KnownUnit → KnownUnit) → SamePast t n → n.units.items ≡ set t.units.items k x →
    u.0 ≡ first_in t + k → k < deque_len t.units → y ≡ get_or t.units.items k y → known_entry x ≡ change (known_entry y) → known_in n ≡ put (known_in t) u (change (known_in t u))
known-changed t n u k y x change same items place within read e =
    known-set t n u k x same items within place
    ∙ ap (put (known_in t) u) (e ∙ ap change (sym (known-read t u k y place within read)))

-- it stays what it was
pub known-stays : (t n : UnitTable) (u : UnitNo) (k : ℕ) (y x : UnitEntry) → SamePast t n → n.units.items ≡ set t.units.items k x →
    u.0 ≡ first_in t + k → k < deque_len t.units → y ≡ get_or t.units.items k y → known_entry x ≡ known_entry y → known_in n ≡ known_in t
known-stays t n u k y x same items place within read e =
    known-set t n u k x same items within place
    ∙ put-kept (λ z. z) (known_in t) u (known_entry x) (e ∙ sym (known-read t u k y place within read))

-- the entry that was written is the unit's
pub entry-written : (t n : UnitTable) (u : UnitNo) (k : ℕ) (x : UnitEntry) → SamePast t n → n.units.items ≡ set t.units.items k x →
    u.0 ≡ first_in t + k → k < deque_len t.units → entry_in n u ≡ Some x
entry-written t n u k x same items place within =
    let inside : k < length t.units.items = let len = t.units.ok.0 in omega arith in
    (λ i. among (same.base i + vec_len (same.past i)) (items i) u)
    ∙ entry-place (first_in t) (set t.units.items k x) u k place
    ∙ get-set_same t.units.items k x inside

-- one more unit is known
pub known-push : (t n : UnitTable) (x : UnitEntry) → SamePast t n → n.units.items ≡ t.units.items ++ x ∷ [] →
    known_in n ≡ put (known_in t) (record { 0 = next_in t }) (known_entry x)
known-push t n x same items =
    let u : UnitNo = record { 0 = next_in t } in
    let place : u.0 ≡ first_in t + length t.units.items = ap (λ (m : ℕ). first_in t + m) t.units.ok.0 in
    known-parts t n same (put (entry_in t) u (Some x))
    ((λ i. among (same.base i + vec_len (same.past i)) (items i)) ∙ push-entries (first_in t) t.units.items u x place)
    ∙ put-known t u x (past-none t u (deque_len t.units) refl)

-- nothing is known of the next unit
pub next-unborn : (t : UnitTable) → known_in t (record { 0 = next_in t }) ≡ unborn
next-unborn t =
    let u : UnitNo = record { 0 = next_in t } in
    let len = t.units.ok.0 in
    (λ i. known_by (past-none t u (deque_len t.units) refl i) (entry_in t u))
    ∙ ap known_of (entry-place (first_in t) t.units.items u (deque_len t.units) refl ∙ slice_get_past t.units.items (deque_len t.units) (omega (arith, len)))

-- a unit whose result has gone stands among those
pub past-within : (t : UnitTable) (u : UnitNo) → is_past t u ≡ true → (u.0 ≡ t.base + (u.0 - t.base)) × (u.0 - t.base < vec_len t.past)
past-within t u e = elim (cases_lt u.0 t.base) [
  | inl before ↦ absurd (let none = ap is_some (entry-before t.base t.past.items u before) in cc (sym e ∙ none))
  | inr behind ↦ elim (cases_lt (u.0 - t.base) (vec_len t.past)) [
    | inl inside ↦ (omega (arith, behind), inside)
    | inr outside ↦ absurd (
        let place : u.0 ≡ t.base + (u.0 - t.base) = omega (arith, behind) in
        let len = t.past.ok.0 in
        let none = ap is_some (entry-place t.base t.past.items u (u.0 - t.base) place ∙ slice_get_past t.past.items (u.0 - t.base) (omega (arith, len, outside))) in
        cc (sym e ∙ none))
  ]
]

-- a unit whose result has gone, and of which what is kept is read
pub past-read : (t : UnitTable) (u : UnitNo) (k : ℕ) (x : PastUnit) → u.0 ≡ t.base + k → k < vec_len t.past → x ≡ get_or t.past.items k x → known_in t u ≡ known_past x
past-read t u k x place within read =
    ap (λ o. known_by o (entry_in t u)) (entry-place t.base t.past.items u k place ∙ slice_get_read t.past.items (vec_len t.past) k x t.past.ok.0 within read)

-- what is kept of a unit whose result has gone is replaced
pub past-set : (t n : UnitTable) (u : UnitNo) (k : ℕ) (x : PastUnit) → n.base ≡ t.base → vec_len n.past ≡ vec_len t.past → n.past.items ≡ set t.past.items k x → n.units ≡ t.units →
    k < vec_len t.past → u.0 ≡ t.base + k → known_in n ≡ put (known_in t) u (known_past x)
past-set t n u k x base len items units within place =
    let inside : k < length t.past.items = let long = t.past.ok.0 in omega (arith, long, within) in
    (λ i v. known_by (among (base i) (items i) v) (among (base i + len i) (units i).items v))
    ∙ ap (λ (f : UnitNo → Option PastUnit). λ v. known_by (f v) (entry_in t v)) (set-entries t.base t.past.items u k x inside place)
    ∙ (λ i v. at v i)
  where
    at : (v : UnitNo) → known_by (put (past_in t) u (Some x) v) (entry_in t v) ≡ put (known_in t) u (known_past x) v
    at v = put-at (past_in t) u (Some x) (λ y. known_by y (entry_in t v) ≡ put (known_in t) u (known_past x) v) v
        (λ e. sym (put-is (known_in t) u (known_past x) v e))
        (λ n. sym (put-other (known_in t) u (known_past x) v n))

-- one more result has gone
first-moved : (t n : UnitTable) (x : PastUnit) → n.base ≡ t.base → n.past.items ≡ t.past.items ++ x ∷ [] → first_in n ≡ first_in t + 1
first-moved t n x base past =
    let old = t.past.ok.0 in
    let new = n.past.ok.0 in
    let len : length n.past.items ≡ length t.past.items + 1 = ap length past ∙ length-append t.past.items (x ∷ []) in
    omega (arith, base, old, new, len)

-- and one fewer is kept
pub counts-moved : (t n : UnitTable) (x : PastUnit) (y : UnitEntry) → n.base ≡ t.base → n.past.items ≡ t.past.items ++ x ∷ [] → t.units.items ≡ y ∷ n.units.items → next_in n ≡ next_in t
counts-moved t n x y base past units =
    let first = first-moved t n x base past in
    let old = t.units.ok.0 in
    let new = n.units.ok.0 in
    let len : length t.units.items ≡ suc (length n.units.items) = ap length units in
    omega (arith, first, old, new, len)

-- the result of the first unit that keeps its own goes, and nothing that is known
pub known-forgotten : (t n : UnitTable) (x : PastUnit) (y : UnitEntry) → n.base ≡ t.base → n.past.items ≡ t.past.items ++ x ∷ [] → t.units.items ≡ y ∷ n.units.items →
    known_past x ≡ known_entry y → known_in n ≡ known_in t
known-forgotten t n x y base past units same =
    (λ i v. known_by (among (base i) (past i) v) (among (later i) n.units.items v))
    ∙ ap (λ (f : UnitNo → Option PastUnit). λ v. known_by (f v) (among (first_in t + 1) n.units.items v)) (push-entries t.base t.past.items u x place)
    ∙ (λ i v. at v i)
  where
    u : UnitNo
    u = record { 0 = first_in t }

    later : first_in n ≡ first_in t + 1
    later = first-moved t n x base past

    place : u.0 ≡ t.base + length t.past.items
    place = ap (λ (m : ℕ). t.base + m) t.past.ok.0

    first : known_in t u ≡ known_entry y
    first = (λ i. known_by (past-none t u 0 (omega arith) i) (entry_in t u)) ∙ ap known_of (entry-place (first_in t) t.units.items u 0 (omega arith) ∙ ap (λ ys. slice_get ys 0) units)

    at : (v : UnitNo) → known_by (put (past_in t) u (Some x) v) (among (first_in t + 1) n.units.items v) ≡ known_in t v
    at v = put-at (past_in t) u (Some x) (λ o. known_by o (among (first_in t + 1) n.units.items v) ≡ known_in t v) v
        (λ e. same ∙ sym first ∙ ap (known_in t) (sym e))
        (λ other. ap (known_by (past_in t v))
        (drop-entries (first_in t) y n.units.items v (λ e. other (λ i. record { 0 = e i }))
        ∙ ap (λ ys. among (first_in t) ys v) (sym units)))

-- an attribute that the unit gets
pub attr-put : {A : Type 0} (of : KnownUnit → A) (f g : UnitNo → KnownUnit) (u : UnitNo) (x : KnownUnit) → g ≡ put f u x → ◌≡◌ {A = UnitNo → A} (λ v. of (g v)) (put (λ v. of (f v)) u (of x))
attr-put of f g u x e = ap (λ (h : UnitNo → KnownUnit). λ v. of (h v)) e ∙ put-of of f u x

-- one that it keeps
pub attr-kept : {A : Type 0} (of : KnownUnit → A) (f g : UnitNo → KnownUnit) (u : UnitNo) (x : KnownUnit) → g ≡ put f u x → of x ≡ of (f u) → ◌≡◌ {A = UnitNo → A} (λ v. of (g v)) (λ v. of (f v))
attr-kept of f g u x e same = ap (λ (h : UnitNo → KnownUnit). λ v. of (h v)) e ∙ put-kept of f u x same

-- two steps that leave all units
pub same-twice : (t m n : UnitTable) → SameUnits t m → SameUnits m n → SameUnits t n
same-twice t m n a b = record {
  units = λ seen. b.units seen ∙ a.units seen;
  verdict = b.verdict ∙ a.verdict;
  result = b.result ∙ a.result;
  base = b.base ∙ a.base;
}

-- a parent that runs still does
pub same-parent : (t n : UnitTable) (origin : Origin) → SameUnits t n → ParentRuns t origin → ParentRuns n origin
same-parent t n (Line line) same runs = runs
same-parent t n (Child p i d) same runs = ap (λ (us : Units). is_running (us.phase p)) (same.units (λ u. None)) ∙ runs

-- The two have as many units and lines.
pub record SameCounts (t n : UnitTable) : Type 0 where
  pub next : next_in n ≡ next_in t
  pub lines : n.lines ≡ t.lines
  pub rest : SameRest t n

-- the same is known of each unit
pub same-units : (t n : UnitTable) → known_in n ≡ known_in t → SameCounts t n → wants_in n ≡ wants_in t → SameUnits t n
same-units t n known counts wants = record {
  units = λ seen. λ i. record {
    next = counts.next i;
    lines = counts.lines i;
    kinds = counts.rest.kinds i;
    phase = λ v. (known i v).phase;
    origin = λ v. (known i v).origin;
    call = λ v. (known i v).call;
    plain = λ v. (known i v).plain;
    kids = λ v. (known i v).kids;
    reads = λ v. (known i v).reads;
    deps = λ v. (known i v).deps;
    seen_at = seen;
    wants = wants i;
    halt = counts.rest.halt i;
  };
  verdict = λ i v. (known i v).verdict;
  result = λ i v. (known i v).result;
  base = counts.rest.base;
}

-- a unit is over
pub over-units : (t n : UnitTable) (u : UnitNo) (phase : Phase) (verdict : Verdict) (result : Outcome) →
    known_in n ≡ put (known_in t) u (record (known_in t u) { phase = phase; verdict = verdict; result = result }) → wants_in n ≡ without_wants u (wants_in t) → SameCounts t n →
    (seen : UnitNo → Option ℕ) → units_of n seen ≡ units_over (units_of t seen) u phase
over-units t n u phase verdict result known wants counts seen =
    let x : KnownUnit = record (known_in t u) { phase = phase; verdict = verdict; result = result } in
    λ i. record {
      next = counts.next i;
      lines = counts.lines i;
      kinds = counts.rest.kinds i;
      phase = attr-put (λ (k : KnownUnit). k.phase) (known_in t) (known_in n) u x known i;
      origin = attr-kept (λ (k : KnownUnit). k.origin) (known_in t) (known_in n) u x known refl i;
      call = attr-kept (λ (k : KnownUnit). k.call) (known_in t) (known_in n) u x known refl i;
      plain = attr-kept (λ (k : KnownUnit). k.plain) (known_in t) (known_in n) u x known refl i;
      kids = attr-kept (λ (k : KnownUnit). k.kids) (known_in t) (known_in n) u x known refl i;
      reads = attr-kept (λ (k : KnownUnit). k.reads) (known_in t) (known_in n) u x known refl i;
      deps = attr-kept (λ (k : KnownUnit). k.deps) (known_in t) (known_in n) u x known refl i;
      seen_at = seen;
      wants = wants i;
      halt = counts.rest.halt i;
    }

-- a unit has read
pub read-units : (t n : UnitTable) (u : UnitNo) (read : Read) (depends : Bool) →
    known_in n ≡ put (known_in t) u (record (known_in t u) { reads = (known_in t u).reads ++ read ∷ []; deps = deps_after depends (known_in t u).deps read.source }) →
    wants_in n ≡ without_want u read.grain (wants_in t) → SameCounts t n →
    (seen : UnitNo → Option ℕ) → units_of n seen ≡ units_read (units_of t seen) u read depends
read-units t n u read depends known wants counts seen =
    let x : KnownUnit = record (known_in t u) { reads = (known_in t u).reads ++ read ∷ []; deps = deps_after depends (known_in t u).deps read.source } in
    λ i. record {
      next = counts.next i;
      lines = counts.lines i;
      kinds = counts.rest.kinds i;
      phase = attr-kept (λ (k : KnownUnit). k.phase) (known_in t) (known_in n) u x known refl i;
      origin = attr-kept (λ (k : KnownUnit). k.origin) (known_in t) (known_in n) u x known refl i;
      call = attr-kept (λ (k : KnownUnit). k.call) (known_in t) (known_in n) u x known refl i;
      plain = attr-kept (λ (k : KnownUnit). k.plain) (known_in t) (known_in n) u x known refl i;
      kids = attr-kept (λ (k : KnownUnit). k.kids) (known_in t) (known_in n) u x known refl i;
      reads = attr-put (λ (k : KnownUnit). k.reads) (known_in t) (known_in n) u x known i;
      deps = attr-put (λ (k : KnownUnit). k.deps) (known_in t) (known_in n) u x known i;
      seen_at = seen;
      wants = wants i;
      halt = counts.rest.halt i;
    }

-- a unit is decided
pub decided-units : (t n : UnitTable) (u : UnitNo) (verdict : Verdict) → known_in n ≡ put (known_in t) u (record (known_in t u) { verdict = verdict }) → wants_in n ≡ wants_in t → SameCounts t n →
    (seen : UnitNo → Option ℕ) → units_of n seen ≡ units_of t seen
decided-units t n u verdict known wants counts seen =
    let x : KnownUnit = record (known_in t u) { verdict = verdict } in
    λ i. record {
      next = counts.next i;
      lines = counts.lines i;
      kinds = counts.rest.kinds i;
      phase = attr-kept (λ (k : KnownUnit). k.phase) (known_in t) (known_in n) u x known refl i;
      origin = attr-kept (λ (k : KnownUnit). k.origin) (known_in t) (known_in n) u x known refl i;
      call = attr-kept (λ (k : KnownUnit). k.call) (known_in t) (known_in n) u x known refl i;
      plain = attr-kept (λ (k : KnownUnit). k.plain) (known_in t) (known_in n) u x known refl i;
      kids = attr-kept (λ (k : KnownUnit). k.kids) (known_in t) (known_in n) u x known refl i;
      reads = attr-kept (λ (k : KnownUnit). k.reads) (known_in t) (known_in n) u x known refl i;
      deps = attr-kept (λ (k : KnownUnit). k.deps) (known_in t) (known_in n) u x known refl i;
      seen_at = seen;
      wants = wants i;
      halt = counts.rest.halt i;
    }
