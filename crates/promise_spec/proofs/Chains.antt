-- What images' logs stand over, and images that are a chain.
use Rattle.std.proofs.Common.{◌≡◌, ◌⊎◌, inl, inr, ℕ, ◌<◌, sym, subst, arith}
use Rattle.host_trait.specs.World.{Image}
use Rattle.field_codec.specs.declared.formats.Format.{Format}
use Rattle.promise_spec.specs.Programs.{Program}
use Rattle.promise_spec.specs.Entries.{Standing, Log}
use Rattle.promise_spec.specs.Blocks.{Beginning, Fresh, From, base_of, BeginsWhole}
use Rattle.promise_spec.specs.Logs.{IsLogOf, IsPrefix}
use Rattle.promise_spec.specs.Images.{AreChained}
use Rattle.promise_spec.proofs.Prefixes.{of_one_position}

base_above : (format : Format) (live : ℕ) (p : Program) (image : Image) (b : Beginning) → BeginsWhole format live p image b → 0 < (base_of p b).next
base_above format live p image Fresh whole = omega arith
base_above format live p image (From ck) whole = omega (arith, whole.next.0)

-- the next unit's number is above 0 where an image's log begins
pub begins_above : (format : Format) (live : ℕ) (image : Image) (log : Log) → IsLogOf format live image log → 0 < log.base.next
begins_above format live image log is =
    let s = is.is.stands in
    subst (λ (t : Standing). 0 < t.next) (sym s.base) (base_above format live s.program image s.begins s.whole)

-- of images that are a chain, whose logs begin at one position, the logs have one base, and the entries of one are a first part of
-- the other's
pub chains : (f g : Format) (one other : ℕ) (x y : Image) (a b : Log) → AreChained x y → IsLogOf f one x a → IsLogOf g other y b → a.base.count ≡ b.base.count
    → (a.base ≡ b.base) × (IsPrefix a.entries b.entries ⊎ IsPrefix b.entries a.entries)
chains f g one other x y a b chained is too same = elim (chained a b (f, one, is) (g, other, too)) [
  | inl first ↦ (let t = of_one_position a b same first in (t.0, inl t.1))
  | inr second ↦ (let t = of_one_position b a (sym same) second in (sym t.0, inr t.1))
]
