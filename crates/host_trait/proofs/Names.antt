-- Names of files that are one.
use Rattle.std.proofs.Common.{◌≡◌, ◌≢◌, ◌⊎◌, inl, inr, true, false, ◌==◌, refl, sym, ◌∙◌, ap, subst}
use Rattle.std.proofs.lemmas.Bool.{cases_Bool, and_parts, and_from, eqb-true, eq-eqb, false≢true}
use Rattle.base_types.specs.declared.calls.GrainId.{GrainId}
use Rattle.host_trait.specs.declared.channels.FileId.{FileId}
use Rattle.host_trait.specs.declared.channels.FileId.TheVariants.{Program, Manager, Grain}
use Rattle.host_trait.specs.Files.{same_grain, same_file}

pub same_grain-is : (x y : GrainId) → same_grain x y ≡ true → x ≡ y
same_grain-is x y h =
    let parts = and_parts (x.kind == y.kind) (x.key == y.key) h in
    let kind : x.kind ≡ y.kind = eqb-true x.kind y.kind parts.0 in
    let key : x.key ≡ y.key = eqb-true x.key y.key parts.1 in
    λ i. record { kind = kind i; key = key i }

pub same_file-is : (a b : FileId) → same_file a b ≡ true → a ≡ b
same_file-is (Program a) (Program b) h = ap Program (eqb-true a b h)
same_file-is (Program a) (Manager b) h = absurd (false≢true h)
same_file-is (Program a) (Grain b y) h = absurd (false≢true h)
same_file-is (Manager a) (Program b) h = absurd (false≢true h)
same_file-is (Manager a) (Manager b) h = ap Manager (eqb-true a b h)
same_file-is (Manager a) (Grain b y) h = absurd (false≢true h)
same_file-is (Grain a x) (Program b) h = absurd (false≢true h)
same_file-is (Grain a x) (Manager b) h = absurd (false≢true h)
same_file-is (Grain a x) (Grain b y) h =
    let parts = and_parts (a == b) (same_grain x y) h in
    let slot : a ≡ b = eqb-true a b parts.0 in
    let grain : x ≡ y = same_grain-is x y parts.1 in
    λ i. Grain (slot i) (grain i)

pub same_grain-refl : (x : GrainId) → same_grain x x ≡ true
same_grain-refl x = and_from _ _ (eq-eqb x.kind x.kind refl) (eq-eqb x.key x.key refl)

pub same_file-refl : (a : FileId) → same_file a a ≡ true
same_file-refl (Program a) = eq-eqb a a refl
same_file-refl (Manager a) = eq-eqb a a refl
same_file-refl (Grain a x) = and_from _ _ (eq-eqb a a refl) (same_grain-refl x)

-- two names are one file's or they aren't
pub cases_file : (a b : FileId) → (a ≡ b) ⊎ (a ≢ b)
cases_file a b = elim (cases_Bool (same_file a b)) [
  | inl is ↦ inl (same_file-is a b is)
  | inr other ↦ inr (λ is. false≢true (sym other ∙ subst (λ (f : FileId). same_file a f ≡ true) is (same_file-refl a)))
]

pub other_file : (a b : FileId) → a ≢ b → same_file a b ≡ false
other_file a b apart = elim (cases_Bool (same_file a b)) [ inl is ↦ absurd (apart (same_file-is a b is)) | inr other ↦ other ]
