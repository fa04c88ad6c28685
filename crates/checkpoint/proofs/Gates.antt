-- A header gate that is looked at.
use Rattle.std.proofs.Common.{◌≡◌, ◌≢◌, inl, inr, ℕ, ◌<◌, ◌≤◌, List, [], ◌∷◌, length, slice_index, refl, sym, ◌∙◌, ap, subst, arith}
use Rattle.host_trait.specs.Disk.{FileState, settled, overlaid}
use Rattle.silo_spec.specs.OtherSlot.{IsShutFile}
use Rattle.checkpoint.specs.Steps.{HasToClose}

-- a file without bytes
pub no_bytes : (l : List ℕ) → length l ≡ 0 → l ≡ []
no_bytes [] none = refl
no_bytes (x ∷ l) none = absurd (omega (arith, none))

pub empty_closes : (file : FileState) → length file.seen ≡ 0 → HasToClose file
empty_closes file none = inl (no_bytes file.seen none)

pub short_closes : (old new : FileState) → length old.seen < 16 → new ≡ settled old.seen → HasToClose new
short_closes old new short lasts =
    let seen : new.seen ≡ old.seen = ap (λ (s : FileState). s.seen) lasts in
    inr (lasts ∙ ap settled (sym seen), inl (omega (arith, short, ap length seen)))

pub gate_closes : (old new : FileState) → 16 ≤ length old.seen → (16 ≤ length old.seen → old ≡ settled old.seen) → new ≡ old → slice_index old.seen 0 ≡ 1 → HasToClose new
gate_closes old new long lasts same opened = subst HasToClose (sym same) (inr (lasts long, inr opened))

pub stays_shut : (old new : FileState) → 16 ≤ length old.seen → (16 ≤ length old.seen → old ≡ settled old.seen) → new ≡ old → slice_index old.seen 0 ≢ 1 → IsShutFile new
stays_shut old new long lasts same shut = subst IsShutFile (sym same) (record { lasts = lasts long; some = omega (arith, long); closed = shut })

-- a gate that was closed, by one write and one sync
pub closed_shut : (old new : FileState) → new ≡ settled (overlaid old.seen 0 (0 ∷ [])) → IsShutFile new
closed_shut old new done = record {
  lasts = done ∙ ap (λ (s : FileState). settled s.seen) (sym done);
  some = omega (arith, ap (λ (s : FileState). length s.seen) done);
  closed = λ one. (let byte : slice_index new.seen 0 ≡ 0 = ap (λ (s : FileState). slice_index s.seen 0) done in omega (arith, byte, one));
}
