-- What may stand behind a header gate whose byte is pending.
use Rattle.std.proofs.Common.{◌≡◌, ℕ, ◌<◌, ◌≤◌, List, [], length, take, drop, slice_index, sym, ap, subst, ◌∙◌, arith}
use Rattle.std.specs.Int.{w32, from_le_bytes}
use Rattle.std.proofs.lemmas.List.{drop-drop}
use Rattle.host_trait.specs.Disk.{FileState, MayLeave, Tears, settled}
use Rattle.host_trait.proofs.Crashes.{settled_only}
use Rattle.silo_spec.specs.Silos.{IsMagic, IsSilo}
use Rattle.silo_spec.specs.Slots.{generation}
use Rattle.promise_spec.specs.EitherSlot.{StaysBelow}

module _ (before after : List ℕ) (tears : Tears 0 1 before after) where
  -- the generation stands behind the gate
  pub generation_stays : generation after ≡ generation before
  generation_stays =
      let nine : drop 9 after ≡ drop 9 before = sym (drop-drop 8 1 after) ∙ ap (λ (l : List ℕ). drop 8 l) tears.after ∙ drop-drop 8 1 before in
      ap (λ (l : List ℕ). from_le_bytes w32 (take 4 l)) nine

  -- a silo's file was long before too
  pub was_long : IsSilo IsMagic after → 16 ≤ length before
  was_long silo = omega (arith, silo.long, tears.no_longer)

  -- and was a silo's, where its gate was open
  pub was_silo : slice_index before 0 ≡ 1 → IsSilo IsMagic after → IsSilo IsMagic before
  was_silo gate silo = record { long = was_long silo; gate = gate; named = subst IsMagic (ap (λ (l : List ℕ). take 8 l) tears.after) silo.named }

-- a file that lasts with an open gate
pub open_below : (bound : ℕ) (bytes : List ℕ) → slice_index bytes 0 ≡ 1 → (IsSilo IsMagic bytes → generation bytes < bound) → StaysBelow bound (settled bytes)
open_below bound bytes gate below before after left tears silo =
    let is : before ≡ bytes = settled_only bytes before left in
    let was : IsSilo IsMagic bytes = subst (IsSilo IsMagic) is (was_silo before after tears (ap (λ (l : List ℕ). slice_index l 0) is ∙ gate) silo) in
    let same : generation after ≡ generation bytes = generation_stays before after tears ∙ ap generation is in
    omega (arith, same, below was)

-- a file that lasts and is too short
pub short_below : (bound : ℕ) (bytes : List ℕ) → length bytes < 16 → StaysBelow bound (settled bytes)
short_below bound bytes short before after left tears silo =
    absurd (omega (arith, was_long before after tears silo, short, ap length (settled_only bytes before left)))

-- a file that reads as empty, of which no crash leaves a silo's
pub empty_below : (bound : ℕ) (file : FileState) → file.seen ≡ [] → MayLeave file file.seen → ((bytes : List ℕ) → MayLeave file bytes → IsSilo IsMagic bytes → ⊥) → StaysBelow bound file
empty_below bound file empty here none before after left tears silo =
    let low : length file.base ≡ 0 = omega (arith, here.no_shorter, ap length empty) in
    absurd (none after (record {
      no_shorter = omega (arith, low);
      no_longer = omega (arith, left.no_longer, tears.no_longer, was_long before after tears silo);
      same = λ i within untouched. absurd (omega (arith, low, within));
    }) silo)
