-- What a folder reads as, put together from its parts, and what may be refused.
use Rattle.std.proofs.Common.{◌≡◌, ◌≢◌, take, drop, ◌⊎◌, inl, inr, ℕ, zero, suc, ◌≤◌, ◌==◌, nat_lt, nat_le, ◌&&◌, length, Bool, true, false, if◌then◌else◌, Option, Some, None, List, [], ◌∷◌, ◌++◌, map, filter, Result, Ok, Err, refl, sym, ◌∙◌, ap, subst, arith}
use Rattle.std.specs.Prelude.{option_map}
use Rattle.std.specs.List.{flat_map}
use Rattle.std.proofs.lemmas.Bool.{cond_both, cond-true, and_from, le-leb}
use Rattle.base_types.specs.declared.calls.GrainId.{GrainId}
use Rattle.base_types.specs.declared.shapes.Shape.{Shape}
use Rattle.base_types.specs.declared.stores.Version.{Version}
use Rattle.host_trait.specs.declared.channels.FileId.{FileId}
use Rattle.host_trait.specs.declared.channels.FileId.TheVariants.{Program as ProgramFile, Manager, Grain}
use Rattle.host_trait.specs.Files.{same_grain}
use Rattle.host_trait.specs.Disk.{settled}
use Rattle.host_trait.specs.World.{Disk, Image}
use Rattle.field_codec.specs.declared.formats.Format.{Format}
use Rattle.commit_log.specs.declared.records.Named.{Named}
use Rattle.core_model.specs.CoreState.{Member}
use Rattle.log_reading.specs.Blocks.{LogRead, log_in_file, shapes_read}
use Rattle.log_reading.specs.Versions.{is_before, ascending, named_in, named_by_grain, version_numbered, missing_or, first_missing}
use Rattle.log_reading.specs.Steps.{seen_in}
use Rattle.log_reading.specs.Sums.{StopsAt}
use Rattle.log_reading.specs.Contents.{IsUnread}
use Rattle.log_reading.specs.declared.faults.FolderFault.{FolderFault}
use Rattle.log_reading.proofs.GrainVersions.{in_order}
use Rattle.silo_spec.specs.OpenedDisks.{opened_disk}
use Rattle.silo_spec.specs.Silos.{IsFormat, IsMagic}
use Rattle.promise_spec.specs.Programs.{Program}
use Rattle.promise_spec.specs.Openings.{Reading, NoSilo, OtherFormat, DamagedAt, Reads, is_silo, has_format, program_in_file, log_of, with_versions, with_log, with_program, live_of, live_in, with_slot, reading_in}
use Rattle.promise_spec.specs.Refusals.{IsEitherManager, IsNamedIn, IsReadBefore, MustBeRead, IsRefusedBy}
use Rattle.promise_spec.proofs.Openings.{live_read}
use Rattle.promise_spec.proofs.Slots.{silo_is}
use Rattle.silo_opening.specs.declared.faults.OpenFault.{OpenFault}
use Rattle.silo_opening.specs.OpenedSilo.{header_of, header_in, live_header, in_folder, ending_of}
use Rattle.silo_opening.specs.declared.headers.Header.{Header}
use Rattle.silo_opening.proofs.Fronts.{is_format, is_other, format_is}

-- ---- members

in_filter : (p : Named → Bool) (x : Named) (xs : List Named) → Member x (filter p xs) → Member x xs
in_filter p x [] none = none
in_filter p x (y ∷ xs) m = cond_both (p y) (y ∷ filter p xs) (filter p xs) (λ l. Member x l → Member x (y ∷ xs)) (λ e there. elim there [ inl here ↦ inl here | inr later ↦ inr (in_filter p x xs later) ]) (λ e there. inr (in_filter p x xs there)) m

either_in : (x : Named) (xs ys : List Named) → Member x (xs ++ ys) → Member x xs ⊎ Member x ys
either_in x [] ys there = inr there
either_in x (z ∷ xs) ys (inl here) = inl (inl here)
either_in x (z ∷ xs) ys (inr there) = elim (either_in x xs ys there) [ inl l ↦ inl (inr l) | inr r ↦ inr r ]

in_groups : (x : Named) (xs : List Named) (gs : List GrainId) → Member x (flat_map (λ g. filter (λ (n : Named). same_grain n.written.grain g) xs) gs) → Member x xs
in_groups x xs [] none = absurd none
in_groups x xs (g ∷ gs) there = elim (either_in x (filter (λ (n : Named). same_grain n.written.grain g) xs) _ there) [
  | inl here ↦ in_filter (λ (n : Named). same_grain n.written.grain g) x xs here
  | inr later ↦ in_groups x xs gs later
]

in_seam : (front : List Named) (x : Named) (back : List Named) → Member x (front ++ (x ∷ back))
in_seam [] x back = inl refl
in_seam (y ∷ front) x back = inr (in_seam front x back)

in_map : (x : Named) (xs : List Named) → Member x xs → Member x.written.grain (map (λ n. n.written.grain) xs)
in_map x [] none = absurd none
in_map x (y ∷ xs) (inl here) = inl (ap (λ (n : Named). n.written.grain) here)
in_map x (y ∷ xs) (inr there) = inr (in_map x xs there)

-- ---- what is missing is a grain's

module _ (format : Format) (live : ℕ) (shapes : List Shape) (image : Image) where
  one_missing : (g : GrainId) (r : Result Version ℕ) (later : Option (FileId × ℕ)) (f : FileId) (place : ℕ) → ((later ≡ Some (f, place)) → (last : GrainId) × (f ≡ Grain live last)) → missing_or live g r later ≡ Some (f, place) → (last : GrainId) × (f ≡ Grain live last)
  one_missing g (Ok v) later f place on e = on e
  one_missing g (Err at) later f place on e = (g, let same : Grain live g ≡ f = ap (file_or (Grain live g)) e in sym same)
    where
      file_or : FileId → Option (FileId × ℕ) → FileId
      file_or d None = d
      file_or d (Some x) = x.0

  missing_grain : (ns : List Named) (f : FileId) (place : ℕ) → first_missing live format shapes image ns ≡ Some (f, place) → (last : GrainId) × (f ≡ Grain live last)
  missing_grain [] f place e = absurd cc
  missing_grain (n ∷ ns) f place e = one_missing n.written.grain (version_numbered live format shapes image n) (first_missing live format shapes image ns) f place (λ also. missing_grain ns f place also) e

-- ---- the live slot

-- its manager file is a silo's
pub live_silo : (image : Image) (live : ℕ) → live_in image ≡ Some live → is_silo (image (Manager live)) ≡ true
live_silo image live found = silo_is (image (Manager live)) (live_read live image found).silo

-- and an opening syncs it
pub live_settled : (disk : Disk) (live : ℕ) → live_in (seen_in disk) ≡ Some live → opened_disk disk (Manager live) ≡ settled (disk (Manager live)).seen
live_settled disk live found =
    let is = live_read live (seen_in disk) found in
    let seen : List ℕ = (disk (Manager live)).seen in
    let long : 16 ≤ length seen = is.silo.long in
    let synced : (nat_le 16 (length seen) && nat_le live 1) ≡ true = and_from (nat_le 16 (length seen)) (nat_le live 1) (le-leb 16 (length seen) long) (le-leb live 1 is.slot) in
    cond-true (nat_le 16 (length seen) && nat_le live 1) (settled seen) (disk (Manager live)) synced

-- a slot with its header, of the two
abbrev with_header : Header → Header → ℕ → ℕ × Header
with_header first other slot = (slot, if slot == 0 then first else other)

either_header : (c : Bool) (first other : Header) → (if c then Some (1, other) else Some (0, first)) ≡ option_map (with_header first other) (if c then Some 1 else Some 0)
either_header true first other = refl
either_header false first other = refl

headers_live : (a b : Bool) (first other : Header)
    → live_header (if a then Some first else None) (if b then Some other else None) ≡ option_map (with_header first other) (live_of a b (nat_lt first.generation other.generation))
headers_live false false first other = refl
headers_live true false first other = refl
headers_live false true first other = refl
headers_live true true first other = either_header (nat_lt first.generation other.generation) first other

header_or : ℕ × Header → Option (ℕ × Header) → ℕ × Header
header_or d None = d
header_or d (Some x) = x

of_header : (first other : Header) (o : Option ℕ) (slot : ℕ) (header : Header) → option_map (with_header first other) o ≡ Some (slot, header) → (o ≡ Some slot) × ((if slot == 0 then first else other) ≡ header)
unfolding header_or
of_header first other None slot header e = absurd cc
of_header first other (Some s) slot header e =
    let same : s ≡ slot = ap (λ x. (header_or (slot, header) x).0) e in
    let its : (if s == 0 then first else other) ≡ header = ap (λ x. (header_or (slot, header) x).1) e in
    (ap Some same, ap (λ (n : ℕ). if n == 0 then first else other) (sym same) ∙ its)

no_header : (first other : Header) (o : Option ℕ) → option_map (with_header first other) o ≡ None → o ≡ None
no_header first other None e = refl
no_header first other (Some s) e = absurd cc

module _ (image : Image) where
  abbrev says : ℕ → Header
  says slot = header_of (image (Manager slot))

  -- what both headers say is which slot is live
  headers_say : live_header (header_in (image (Manager 0))) (header_in (image (Manager 1))) ≡ option_map (with_header (says 0) (says 1)) (live_in image)
  headers_say = headers_live (is_silo (image (Manager 0))) (is_silo (image (Manager 1))) (says 0) (says 1)

  by_slot : (slot : ℕ) (header : Header) → slot ≤ 1 → (if slot == 0 then says 0 else says 1) ≡ header → says slot ≡ header
  by_slot zero header low is = is
  by_slot (suc zero) header low is = is
  by_slot (suc (suc n)) header low is = absurd (omega (arith, low))

  pub live_found : (slot : ℕ) (header : Header) → live_header (header_in (image (Manager 0))) (header_in (image (Manager 1))) ≡ Some (slot, header) → (live_in image ≡ Some slot) × (says slot ≡ header)
  live_found slot header e =
      let t = of_header (says 0) (says 1) (live_in image) slot header (sym headers_say ∙ e) in
      (t.0, by_slot slot header (live_read slot image t.0).slot t.1)

  pub none_live : live_header (header_in (image (Manager 0))) (header_in (image (Manager 1))) ≡ None → live_in image ≡ None
  none_live e = no_header (says 0) (says 1) (live_in image) (sym headers_say ∙ e)

  -- the live slot has the format that its header says, and no other one
  pub live_format : (live : ℕ) (header : Header) → live_in image ≡ Some live → says live ≡ header → IsFormat header.format (take 8 (drop 1 (image (Manager live))))
  live_format live header found is =
      let named : IsMagic (take 8 (drop 1 (image (Manager live)))) = (live_read live image found).silo.named in
      let same : named.0 ≡ header.format = sym (format_is (image (Manager live)) named.0 named.1) ∙ ap (λ (h : Header). h.format) is in
      subst (λ (f : Format). IsFormat f (take 8 (drop 1 (image (Manager live))))) same named.1

  pub live_named : (format : Format) (live : ℕ) (header : Header) → live_in image ≡ Some live → says live ≡ header → header.format ≡ format → has_format format (image (Manager live)) ≡ true
  live_named format live header found is same =
      is_format format (image (Manager live)) (subst (λ (f : Format). IsFormat f (take 8 (drop 1 (image (Manager live))))) same (live_format live header found is))

  -- where it is another, the folder reads as one of that
  pub other_read : (format : Format) (live : ℕ) (header : Header) → live_in image ≡ Some live → says live ≡ header → header.format ≢ format → reading_in format image ≡ OtherFormat
  other_read format live header found is apart =
      ap (with_slot format image) found
      ∙ ap (λ (b : Bool). if b then with_program format live image (program_in_file (image (ProgramFile live))) else OtherFormat) (is_other format header.format (image (Manager live)) (live_format live header found is) apart)

-- ---- the folder

module _ (format : Format) (image : Image) where
  abbrev reading : Reading
  reading = reading_in format image

  -- the fault is one that the folder may be refused with
  abbrev pub Refuses : OpenFault → Type 0
  Refuses e = IsRefusedBy format image (reading_in format image) (ending_of e)

  pub no_silo : live_in image ≡ None → Refuses OpenFault.NotASilo
  no_silo none = ap (with_slot format image) none

  -- the manager files are looked at first
  manager_by : (r : Reading) (file : FileId) → IsEitherManager file → MustBeRead format image r file
  manager_by NoSilo file is = is
  manager_by OtherFormat file is = is
  manager_by (DamagedAt (ProgramFile slot) place) file is = inl is
  manager_by (DamagedAt (Manager slot) place) file is = inl is
  manager_by (DamagedAt (Grain slot last) place) file is = inl (inl is)
  manager_by (Reads live log) file is = inl (inl is)

  either_of : (slot : ℕ) → slot ≤ 1 → IsEitherManager (Manager slot)
  either_of zero low = inl refl
  either_of (suc zero) low = inr refl
  either_of (suc (suc n)) low = absurd (omega (arith, low))

  pub manager_read : (slot : ℕ) → slot ≤ 1 → Refuses (OpenFault.DiskFault (Manager slot))
  manager_read slot low = manager_by reading (Manager slot) (either_of slot low)

  module _ (live : ℕ) (found : live_in image ≡ Some live) (named : has_format format (image (Manager live)) ≡ true) where
    opened_then : reading ≡ with_program format live image (program_in_file (image (ProgramFile live)))
    opened_then =
        ap (with_slot format image) found
        ∙ ap (λ (b : Bool). if b then with_program format live image (program_in_file (image (ProgramFile live))) else OtherFormat) named

    -- the live slot's program file is read of each silo
    versions_by : (p : Program) (l : LogRead) (m : Option (FileId × ℕ)) → first_missing live format (shapes_read p l) image (named_by_grain (named_in l)) ≡ m
        → MustBeRead format image (with_versions format live p image l m) (ProgramFile live)
    versions_by p l None e = inl (inr refl)
    versions_by p l (Some x) e =
        let t = missing_grain format live (shapes_read p l) image (named_by_grain (named_in l)) x.0 x.1 e in
        subst (λ (f : FileId). IsReadBefore format image f (ProgramFile live)) (sym t.1) (inl (inr refl))

    log_by : (p : Program) (r : Result LogRead ℕ) → MustBeRead format image (with_log format live p image r) (ProgramFile live)
    log_by p (Err place) = inr refl
    log_by p (Ok l) = versions_by p l (first_missing live format (shapes_read p l) image (named_by_grain (named_in l))) refl

    program_by : (r : Result Program ℕ) → MustBeRead format image (with_program format live image r) (ProgramFile live)
    program_by (Err place) = inr refl
    program_by (Ok p) = log_by p (log_in_file format p (image (Manager live)))

    pub program_read : Refuses (OpenFault.DiskFault (ProgramFile live))
    program_read = subst (λ (r : Reading). MustBeRead format image r (ProgramFile live)) (sym opened_then) (program_by (program_in_file (image (ProgramFile live))))

    pub program_damaged : (place : ℕ) → program_in_file (image (ProgramFile live)) ≡ Err place → Refuses (OpenFault.Damaged (ProgramFile live) place)
    program_damaged place e = opened_then ∙ ap (with_program format live image) e

    module _ (p : Program) (program : program_in_file (image (ProgramFile live)) ≡ Ok p) where
      then_log : reading ≡ with_log format live p image (log_in_file format p (image (Manager live)))
      then_log = opened_then ∙ ap (with_program format live image) program

      is_named : (l : LogRead) → log_in_file format p (image (Manager live)) ≡ Ok l → (file : FileId) → (s : StopsAt live format (shapes_read p l) image (named_by_grain (named_in l)) file)
          → IsNamedIn format live image s.here.written.grain
      is_named l read file s = record { program = p; log = l; first = program; then_log = read; named = in_map s.here (named_in l) (in_groups s.here (named_in l) (ascending (map (λ n. n.written.grain) (named_in l))) (subst (Member s.here) (sym s.are) (in_seam s.front s.here s.back))) }

      grain_by : (l : LogRead) → log_in_file format p (image (Manager live)) ≡ Ok l → (file : FileId) → (s : StopsAt live format (shapes_read p l) image (named_by_grain (named_in l)) file)
          → (m : Option (FileId × ℕ)) → first_missing live format (shapes_read p l) image (named_by_grain (named_in l)) ≡ m → MustBeRead format image (with_versions format live p image l m) file
      grain_by l read file s None e = inr (s.here.written.grain, s.is, is_named l read file s)
      grain_by l read file s (Some x) e =
          let t = missing_grain format live (shapes_read p l) image (named_by_grain (named_in l)) x.0 x.1 e in
          let at : first_missing live format (shapes_read p l) image (named_by_grain (named_in l)) ≡ Some (Grain live t.0, x.1) = e ∙ ap (λ (f : FileId). Some (f, x.1)) t.1 in
          let order : is_before t.0 s.here.written.grain ≡ false = in_order live format (shapes_read p l) image (named_in l) file s t.0 x.1 at in
          subst (λ (f : FileId). IsReadBefore format image f file) (sym t.1) (inr (s.here.written.grain, s.is, is_named l read file s, order))

      pub log_refused : (e : FolderFault) → IsUnread live format p image e → Refuses (in_folder e)
      log_refused (FolderFault.Damaged file place) (inl at) = then_log ∙ ap (with_log format live p image) at.1 ∙ ap (λ (f : FileId). DamagedAt f place) (sym at.0)
      log_refused (FolderFault.Damaged file place) (inr t) = then_log ∙ ap (with_log format live p image) t.1 ∙ ap (with_versions format live p image t.0) t.2
      log_refused (FolderFault.Failed file) (inl at) =
          let low = (live_read live image found).slot in
          subst (λ (f : FileId). MustBeRead format image reading f) (sym at) (manager_read live low)
      log_refused (FolderFault.Failed file) (inr t) =
          subst (λ (r : Reading). MustBeRead format image r file) (sym (then_log ∙ ap (with_log format live p image) t.1)) (grain_by t.0 t.1 file t.2 (first_missing live format (shapes_read p t.0) image (named_by_grain (named_in t.0))) refl)
      log_refused FolderFault.Memory any = tt

      pub reads_log : (l : LogRead) → log_in_file format p (image (Manager live)) ≡ Ok l → first_missing live format (shapes_read p l) image (named_by_grain (named_in l)) ≡ None
          → reading_in format image ≡ Reads live (log_of format live p image l)
      reads_log l read whole = then_log ∙ ap (with_log format live p image) read ∙ ap (with_versions format live p image l) whole
