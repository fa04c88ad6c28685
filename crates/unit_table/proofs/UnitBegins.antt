-- A unit begins: its parent has one child more, then it is known itself.
use Rattle.std.proofs.Common.{◌≡◌, ℕ, ◌+◌, List, [], ◌∷◌, ◌++◌, Bool, refl, sym, ap, ◌∙◌, Option, vec_len}
use Rattle.base_types.specs.declared.calls.Origin.TheVariants.{Line, Child}
use Rattle.core_model.specs.CoreState.{UnitNo, Origin, Call, put}
use Rattle.core_model.specs.Changes.{lines_with, kids_with}
use Rattle.unit_table.specs.declared.table.UnitTable.{UnitTable}
use Rattle.unit_table.specs.KnownUnits.{KnownUnit, unborn, just_begun, with_kid}
use Rattle.unit_table.specs.Parts.{units_begun}
use Rattle.unit_table.specs.Table.{known_in, next_in, verdict_in, result_in, units_of, wants_in}
use Rattle.unit_table.specs.Rooms.{SameRest, SameRoom}
use Rattle.unit_table.proofs.Entries.{put-of, put-kept}
use Rattle.unit_table.proofs.Tables.{attr-put, attr-kept, next-unborn}

-- The parent has one child more.
pub record Counted (t m : UnitTable) (origin : Origin) (u : UnitNo) : Type 0 where
  pub known : known_in m ≡ with_kid (known_in t) origin u
  pub lines : m.lines ≡ lines_with t.lines origin
  pub room : SameRoom t m
  pub rest : SameRest t m

-- The next unit is known.
pub record Pushed (m n : UnitTable) (x : KnownUnit) : Type 0 where
  pub known : known_in n ≡ put (known_in m) (record { 0 = next_in m }) x
  pub lines : n.lines ≡ m.lines
  pub next : next_in n ≡ next_in m + 1
  pub wants : wants_in n ≡ wants_in m
  pub rest : SameRest m n

-- what a parent keeps
kid-kept : {A : Type 0} (of : KnownUnit → A) → ((k : KnownUnit) (kids : List UnitNo) → of (record k { kids = kids }) ≡ of k) →
    (f : UnitNo → KnownUnit) (origin : Origin) (u : UnitNo) → ◌≡◌ {A = UnitNo → A} (λ v. of (with_kid f origin u v)) (λ v. of (f v))
kid-kept of same f (Line n) u = refl
kid-kept of same f (Child p i d) u = put-kept of f p (record (f p) { kids = (f p).kids ++ u ∷ [] }) (same (f p) ((f p).kids ++ u ∷ []))

-- and what it gets
kid-kids : (f : UnitNo → KnownUnit) (origin : Origin) (u : UnitNo) → ◌≡◌ {A = UnitNo → List UnitNo} (λ v. (with_kid f origin u v).kids) (kids_with (λ v. (f v).kids) origin u)
kid-kids f (Line n) u = refl
kid-kids f (Child p i d) u = put-of (λ (k : KnownUnit). k.kids) f p (record (f p) { kids = (f p).kids ++ u ∷ [] })

-- counting leaves the number of the next unit
pub next-counted : (t m : UnitTable) → SameRoom t m → SameRest t m → next_in m ≡ next_in t
next-counted t m room rest = λ i. rest.base i + vec_len (room.past i) + room.len i

-- what all others keep, and the new unit hasn't
fresh-kept : {A : Type 0} (of : KnownUnit → A) (t m n : UnitTable) (origin : Origin) (u : UnitNo) (x : KnownUnit) → Counted t m origin u → Pushed m n x →
    ((k : KnownUnit) (kids : List UnitNo) → of (record k { kids = kids }) ≡ of k) → of x ≡ of unborn → ◌≡◌ {A = UnitNo → A} (λ v. of (known_in n v)) (λ v. of (known_in t v))
fresh-kept of t m n origin u x counted pushed same none =
    attr-kept of (known_in m) (known_in n) (record { 0 = next_in m }) x pushed.known (none ∙ ap of (sym (next-unborn m)))
    ∙ ap (λ (h : UnitNo → KnownUnit). λ v. of (h v)) counted.known
    ∙ kid-kept of same (known_in t) origin u

-- what the new unit gets
fresh-put : {A : Type 0} (of : KnownUnit → A) (t m n : UnitTable) (origin : Origin) (u : UnitNo) (x : KnownUnit) → Counted t m origin u → Pushed m n x →
    ((k : KnownUnit) (kids : List UnitNo) → of (record k { kids = kids }) ≡ of k) → ◌≡◌ {A = UnitNo → A} (λ v. of (known_in n v)) (put (λ v. of (known_in t v)) (record { 0 = next_in t }) (of x))
fresh-put {A} of t m n origin u x counted pushed same =
    attr-put of (known_in m) (known_in n) (record { 0 = next_in m }) x pushed.known
    ∙ ap (λ (q : ℕ). put (λ v. of (known_in m v)) (record { 0 = q }) (of x)) (next-counted t m counted.room counted.rest)
    ∙ ap (λ (g : UnitNo → A). put g (record { 0 = next_in t }) (of x)) (ap (λ (h : UnitNo → KnownUnit). λ v. of (h v)) counted.known ∙ kid-kept of same (known_in t) origin u)

-- the children
fresh-kids : (t m n : UnitTable) (origin : Origin) (u : UnitNo) (x : KnownUnit) → Counted t m origin u → Pushed m n x → x.kids ≡ [] →
    ◌≡◌ {A = UnitNo → List UnitNo} (λ v. (known_in n v).kids) (kids_with (λ v. (known_in t v).kids) origin u)
fresh-kids t m n origin u x counted pushed none =
    attr-kept (λ (k : KnownUnit). k.kids) (known_in m) (known_in n) (record { 0 = next_in m }) x pushed.known (none ∙ ap (λ (k : KnownUnit). k.kids) (sym (next-unborn m)))
    ∙ ap (λ (h : UnitNo → KnownUnit). λ v. (h v).kids) counted.known
    ∙ kid-kids (known_in t) origin u

-- the units after both
pub begin-units : (t m n : UnitTable) (origin : Origin) (call : Call) (plain : Bool) → Counted t m origin (record { 0 = next_in t }) → Pushed m n (just_begun origin call plain) →
    (seen : UnitNo → Option ℕ) → units_of n seen ≡ units_begun (units_of t seen) origin call plain
begin-units t m n origin call plain counted pushed seen =
    let u : UnitNo = record { 0 = next_in t } in
    let x : KnownUnit = just_begun origin call plain in
    let next : next_in n ≡ next_in t + 1 = pushed.next ∙ ap (λ (q : ℕ). q + 1) (next-counted t m counted.room counted.rest) in
    let lines : n.lines ≡ lines_with t.lines origin = pushed.lines ∙ counted.lines in
    let kinds : n.kinds ≡ t.kinds = pushed.rest.kinds ∙ counted.rest.kinds in
    let halt : n.halt ≡ t.halt = pushed.rest.halt ∙ counted.rest.halt in
    let wants : wants_in n ≡ wants_in t = pushed.wants ∙ ap (λ w. w.items) counted.room.wants in
    λ i. record {
      next = next i;
      lines = lines i;
      kinds = kinds i;
      phase = fresh-put (λ (k : KnownUnit). k.phase) t m n origin u x counted pushed (λ k kids. refl) i;
      origin = fresh-put (λ (k : KnownUnit). k.origin) t m n origin u x counted pushed (λ k kids. refl) i;
      call = fresh-put (λ (k : KnownUnit). k.call) t m n origin u x counted pushed (λ k kids. refl) i;
      plain = fresh-put (λ (k : KnownUnit). k.plain) t m n origin u x counted pushed (λ k kids. refl) i;
      kids = fresh-kids t m n origin u x counted pushed refl i;
      reads = fresh-kept (λ (k : KnownUnit). k.reads) t m n origin u x counted pushed (λ k kids. refl) refl i;
      deps = fresh-kept (λ (k : KnownUnit). k.deps) t m n origin u x counted pushed (λ k kids. refl) refl i;
      seen_at = seen;
      wants = wants i;
      halt = halt i;
    }

-- nothing is decided of the new unit
pub begin-verdict : (t m n : UnitTable) (origin : Origin) (call : Call) (plain : Bool) → Counted t m origin (record { 0 = next_in t }) → Pushed m n (just_begun origin call plain) → verdict_in n ≡ verdict_in t
begin-verdict t m n origin call plain counted pushed =
    fresh-kept (λ (k : KnownUnit). k.verdict) t m n origin (record { 0 = next_in t }) (just_begun origin call plain) counted pushed (λ k kids. refl) refl

-- and it has no result
pub begin-result : (t m n : UnitTable) (origin : Origin) (call : Call) (plain : Bool) → Counted t m origin (record { 0 = next_in t }) → Pushed m n (just_begun origin call plain) → result_in n ≡ result_in t
begin-result t m n origin call plain counted pushed =
    fresh-kept (λ (k : KnownUnit). k.result) t m n origin (record { 0 = next_in t }) (just_begun origin call plain) counted pushed (λ k kids. refl) refl
