-- The gate at which the log of a silo ends is closed.
use Rattle.std.proofs.Common.{◌≡◌, ℕ, zero, suc, ◌+◌, ◌<◌, ◌≤◌, ◌&&◌, ◌==◌, nat_le, true, List, length, take, drop, slice_index, refl, subst, arith}
use Rattle.std.proofs.lemmas.Bool.{and_parts, leb-true}
use Rattle.gate_block.specs.Blocks.{BehindGate, shut, bad, whole, found_at}
use Rattle.gate_block.specs.Gates.{IsClosedAt}
use Rattle.gate_block.specs.Log.{first_gate, then_gate, gate_from, gate_of}
use Rattle.gate_block.proofs.Logs.{whole_fits}
use Rattle.silo_spec.specs.Silos.{is_magic}
use Rattle.promise_spec.specs.Openings.{is_silo}
use Rattle.promise_spec.proofs.ReadBlocks.{shut_closed}

module _ (file : List ℕ) where
  lies_by : (most gate : ℕ) (found : BehindGate) → found_at gate file ≡ found → gate < length file → ((next : ℕ) → next < length file → gate_from most next file < length file)
      → then_gate gate (λ size. gate_from most (gate + 5 + size) file) found < length file
  lies_by most gate shut is lies more = lies
  lies_by most gate bad is lies more = lies
  lies_by most gate (whole body) is lies more = more (gate + 5 + length body) (whole_fits gate body file is)

  lies : (most gate : ℕ) → gate < length file → gate_from most gate file < length file
  lies zero gate here = here
  lies (suc most) gate here = lies_by most gate (found_at gate file) refl here (lies most)

  pub closed_at : (gate : ℕ) → is_silo file ≡ true → gate_of file ≡ gate → found_at gate file ≡ shut → IsClosedAt gate file
  closed_at gate silo is shuts =
      let long : 16 ≤ length file = leb-true 16 (length file) (and_parts (nat_le 16 (length file)) ((slice_index file 0 == 1) && is_magic (take 8 (drop 1 file))) silo).0 in
      (subst (λ (n : ℕ). n < length file) is (lies (length file) first_gate (omega (arith, long))), shut_closed gate file shuts)
