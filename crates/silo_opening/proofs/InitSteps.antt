-- What making a silo comes to behind calls that changed no file and emitted nothing.
use Rattle.std.proofs.Common.{◌≡◌, ◌≢◌, inl, inr, ℕ, ◌≤◌, List, [], refl, sym, ◌∙◌, ap, subst, arith}
use Rattle.host_trait.specs.declared.channels.FileId.TheVariants.{Manager}
use Rattle.host_trait.specs.Disk.{settled}
use Rattle.host_trait.specs.World.{World, Moment, Disk, Image, IsImage, Passes, moment_of}
use Rattle.host_trait.proofs.Moments.{both, weaker, all_late, weaker_twice, joined, same_moment}
use Rattle.silo_spec.specs.Silos.{IsSilo, IsMagic}
use Rattle.silo_spec.specs.Slots.{ShowsSilos}
use Rattle.silo_spec.specs.Moments.{IsAsAtEntry, IsUntouched}
use Rattle.silo_spec.specs.Creation.{IsLookedAt, IsBeside, StaysBeside, IsEarly, IsNewAt, FromFirstSync, CameThisFar}
use Rattle.promise_spec.proofs.Slots.{silo_or_not}
use Rattle.silo_opening.specs.Steps.{HasNoSilo, ReadsSilo}
use Rattle.silo_opening.proofs.ManagerLook.{SeenMayStay}
use Rattle.silo_opening.proofs.GateClosing.{Rests, rests_lacks, cases_rest}
use Rattle.silo_opening.proofs.FolderFilling.{no_silo_at}

module _ (old mid : World) (disk : mid.disk ≡ old.disk) (output : mid.output ≡ old.output) (still : Passes (λ m. m ≡ moment_of old) old.past mid.past) where
  -- each moment so far showed what the first one did
  while : (P : Moment → Type 0) → P (moment_of old) → Passes P old.past mid.past
  while P own = weaker _ P (λ m is. subst P (sym is) own) still

  -- a moment as at entry of the later call is one as at first
  entry_from : (m : Moment) → IsAsAtEntry mid m → IsAsAtEntry old m
  entry_from m at = record { quiet = at.quiet ∙ output; images = subst (λ (d : Disk). (image : Image) → IsImage m.disk image → IsImage d image) disk at.images }

  -- the first moment is as at entry
  own_entry : IsAsAtEntry old (moment_of old)
  own_entry = record { quiet = refl; images = λ image is. is }

  -- nothing was changed at all
  pub untouched_from : (new : World) → IsUntouched mid new → IsUntouched old new
  untouched_from new u = record {
    moments = both (IsAsAtEntry old) (while (IsAsAtEntry old) own_entry) (weaker _ _ entry_from u.moments);
    now = entry_from (moment_of new) u.now;
    seen = λ file. u.seen file ∙ ap (λ (d : Disk). (d file).seen) disk;
  }

  -- nothing was changed so far
  pub untouched_so_far : IsUntouched old mid
  untouched_so_far = record { moments = while (IsAsAtEntry old) own_entry; now = subst (IsAsAtEntry old) (sym (same_moment old mid output disk)) own_entry; seen = λ file. ap (λ (d : Disk). (d file).seen) disk }

  -- what no moment of the later call changes is as it was at first
  beside_from : (m : Moment) → IsBeside mid m → IsBeside old m
  beside_from m at = record {
    output = at.output ∙ output;
    other = subst (λ (d : Disk). IsLookedAt (d (Manager 1)) (m.disk (Manager 1))) disk at.other;
    others = λ file a b apart. at.others file a b apart ∙ ap (λ (d : Disk). d file) disk;
  }

  -- the first moment has all as it was
  own_beside : IsBeside old (moment_of old)
  own_beside = record { output = refl; other = inl refl; others = λ file a b apart. refl }

  -- each moment of both calls has the other files and the output as they were
  pub beside_all : (new : World) → StaysBeside mid new → Passes (IsBeside old) old.past new.past
  beside_all new s = both (IsBeside old) (while (IsBeside old) own_beside) (weaker _ _ beside_from s.moments)

  -- the last one too
  pub beside_last : (new : World) → StaysBeside mid new → IsBeside old (moment_of new)
  beside_last new s = beside_from (moment_of new) s.now

  -- each moment so far has
  pub beside_so_far : Passes (IsBeside old) old.past mid.past
  beside_so_far = while (IsBeside old) own_beside

  -- the one of now has
  pub beside_here : IsBeside old (moment_of mid)
  beside_here = subst (IsBeside old) (sym (same_moment old mid output disk)) own_beside

  -- an early moment of the later call is an early one of both
  early_from : (m : Moment) → IsEarly mid m → IsEarly old m
  early_from m e = record {
    slot = e.slot;
    low = e.low;
    bytes = λ none. e.bytes (ap (λ (d : Disk). (d (Manager e.slot)).seen) disk ∙ none);
    pending = e.pending;
    unwritten = entry_from m e.unwritten;
  }

  module _ (text : List ℕ) (here : SeenMayStay old) (shows : ShowsSilos IsMagic old.disk) where
    -- where neither manager file reads as a silo's
    module _ (lacks-0 : IsSilo IsMagic (old.disk (Manager 0)).seen → ⊥) (lacks-1 : IsSilo IsMagic (old.disk (Manager 1)).seen → ⊥) (new : World) (first : FromFirstSync (IsNewAt IsMagic text) mid new) where
      -- something is pending in one at first
      pending_from : (slot : ℕ) → slot ≤ 1 → ((old.disk (Manager slot)).seen ≢ []) → (old.disk (Manager slot) ≢ settled (old.disk (Manager slot)).seen) → FromFirstSync (IsNewAt IsMagic text) old new
      pending_from slot low some pending =
          let own : IsEarly old (moment_of old) = record { slot = slot; low = low; bytes = some; pending = pending; unwritten = own_entry } in
          record {
            moments = record {
              turn = first.moments.turn;
              early = both (IsEarly old) (while (IsEarly old) own) (weaker _ _ early_from first.moments.early);
              late = first.moments.late;
            };
            now = first.now;
          }

      -- nothing is
      settled_from : Rests IsMagic old here shows 0 (moment_of old) → Rests IsMagic old here shows 1 (moment_of old) → FromFirstSync (IsNewAt IsMagic text) old new
      settled_from rest-0 rest-1 =
          let none : HasNoSilo IsMagic (moment_of old) = (rests_lacks IsMagic old here shows 0 (omega arith) lacks-0 (moment_of old) own_entry rest-0, rests_lacks IsMagic old here shows 1 (omega arith) lacks-1 (moment_of old) own_entry rest-1) in
          let own : IsNewAt IsMagic text (moment_of old) = no_silo_at text (moment_of old) none in
          let as_new : (m : Moment) → IsEarly mid m → IsNewAt IsMagic text m = λ m e image is. own image ((early_from m e).unwritten.images image is) in
          record {
            moments = all_late (IsEarly old) (IsNewAt IsMagic text) (both (IsNewAt IsMagic text) (while (IsNewAt IsMagic text) own)
                (joined (IsNewAt IsMagic text) (weaker_twice (IsEarly mid) (IsNewAt IsMagic text) (IsNewAt IsMagic text) (IsNewAt IsMagic text) as_new (λ m new_at. new_at) first.moments)));
            now = first.now;
          }

      first_from : FromFirstSync (IsNewAt IsMagic text) old new
      first_from = elim (cases_rest IsMagic old here shows 0) [
        | inr pending ↦ pending_from 0 (omega arith) pending.0 pending.1
        | inl rest-0 ↦ elim (cases_rest IsMagic old here shows 1) [ inr pending ↦ pending_from 1 (omega arith) pending.0 pending.1 | inl rest-1 ↦ settled_from rest-0 rest-1 ]
      ]

    -- how far the call came, seen from the first
    pub makes_from : (new : World) → (ReadsSilo IsMagic old.disk → IsUntouched mid new) → CameThisFar IsMagic text mid new → CameThisFar IsMagic text old new
    makes_from new kept (inl untouched) = inl (untouched_from new untouched)
    makes_from new kept (inr first) = elim (silo_or_not (old.disk (Manager 0)).seen) [
      | inl silo ↦ inl (untouched_from new (kept (inl silo)))
      | inr lacks-0 ↦ elim (silo_or_not (old.disk (Manager 1)).seen) [ inl silo ↦ inl (untouched_from new (kept (inr silo))) | inr lacks-1 ↦ inr (first_from lacks-0 lacks-1 new first) ]
    ]
