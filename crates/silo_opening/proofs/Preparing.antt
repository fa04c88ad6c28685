-- What the first bytes of both manager files mean for a silo that is to be made.
use Rattle.std.proofs.Common.{◌≡◌, ◌≢◌, ◌⊎◌, inl, inr, ℕ, ◌<◌, ◌≤◌, List, [], ◌∷◌, length, refl, sym, ◌∙◌, ap, subst, arith, Ok}
use Rattle.std.specs.Prelude.{Result, IsErrOf}
use Rattle.host_trait.specs.declared.channels.FileId.{FileId}
use Rattle.host_trait.specs.declared.channels.FileId.TheVariants.{Manager}
use Rattle.host_trait.specs.Disk.{FileState, settled, overlaid}
use Rattle.host_trait.specs.World.{World, Disk}
use Rattle.silo_spec.specs.OtherSlot.{IsShutFile}
use Rattle.silo_spec.specs.Silos.{manager, IsEitherManager, IsSilo}
use Rattle.silo_opening.specs.declared.creation.Front.{Front}
use Rattle.silo_opening.specs.declared.creation.Front.TheVariants.{Empty, Silo, Open, Closed}
use Rattle.silo_opening.specs.declared.faults.CreateFault.{CreateFault}
use Rattle.silo_opening.specs.NewSilos.{KeepsSilo}
use Rattle.silo_opening.specs.Steps.{ShowsFront, syncs_for, ReadsSilo}
use Rattle.silo_opening.proofs.GateClosing.{MayBeClosed, otherwise_no_silo}

-- a file with bytes isn't empty
some_bytes : (file : List ℕ) → 0 < length file → file ≢ []
some_bytes file some none = omega (arith, some, ap length none)

module _ (magic : List ℕ → Type 0) where
  -- a front that isn't a silo's
  pub front_lacks : (front : Front) (file : List ℕ) → front ≢ Silo → ShowsFront magic front file → IsSilo magic file → ⊥
  front_lacks Empty file other shows silo = omega (arith, silo.long, ap length shows)
  front_lacks Silo file other shows silo = other refl
  front_lacks Open file other shows silo = otherwise_no_silo magic file shows.1 silo
  front_lacks Closed file other shows silo = shows.1 silo.gate

  -- and one that is
  pub front_reads : (front : Front) (file : List ℕ) → front ≡ Silo → ShowsFront magic front file → IsSilo magic file
  front_reads front file is shows = subst (λ (f : Front). ShowsFront magic f file) is shows

  pub fronts_read : (front other : Front) (disk : Disk) → (front ≡ Silo) ⊎ (other ≡ Silo) → ShowsFront magic front (disk (Manager 0)).seen → ShowsFront magic other (disk (Manager 1)).seen → ReadsSilo magic disk
  fronts_read front other disk (inl is) first second = inl (front_reads front (disk (Manager 0)).seen is first)
  fronts_read front other disk (inr is) first second = inr (front_reads other (disk (Manager 1)).seen is second)

  pub fronts_lack : {A : Type 0} (front other : Front) (disk : Disk) → (front ≢ Silo) × (other ≢ Silo) → ShowsFront magic front (disk (Manager 0)).seen → ShowsFront magic other (disk (Manager 1)).seen → ReadsSilo magic disk → A
  fronts_lack front other disk are first second (inl silo) = absurd (front_lacks front (disk (Manager 0)).seen are.0 first silo)
  fronts_lack front other disk are first second (inr silo) = absurd (front_lacks other (disk (Manager 1)).seen are.1 second silo)

  -- a gate that has to be closed
  pub may_close : (front : Front) → front ≢ Silo → front ≢ Closed → (old mid : World) → ShowsFront magic front (old.disk manager).seen → (mid.disk manager).seen ≡ (old.disk manager).seen
      → ((old.disk manager).seen ≢ [] → mid.disk manager ≡ settled (old.disk manager).seen) → MayBeClosed magic mid
  may_close Empty other unclosed old mid shows seen lasts = inr (seen ∙ shows)
  may_close Silo other unclosed old mid shows seen lasts = absurd (other refl)
  may_close Open other unclosed old mid shows seen lasts = inl ((old.disk manager).seen, lasts (some_bytes (old.disk manager).seen shows.0), shows.1)
  may_close Closed other unclosed old mid shows seen lasts = absurd (unclosed refl)

  -- one that is closed
  pub closed_shut : (front : Front) → front ≡ Closed → (old mid : World) → ShowsFront magic front (old.disk manager).seen → ((old.disk manager).seen ≢ [] → mid.disk manager ≡ settled (old.disk manager).seen) → IsShutFile (mid.disk manager)
  closed_shut front is old mid shows lasts =
      let shut : ShowsFront magic Closed (old.disk manager).seen = subst (λ (f : Front). ShowsFront magic f (old.disk manager).seen) is shows in
      subst IsShutFile (sym (lasts (some_bytes (old.disk manager).seen shut.0))) (record { lasts = refl; some = shut.0; closed = shut.1 })

-- and one that was closed
pub gate_shut : (bytes : List ℕ) (file : FileState) → file ≡ settled (overlaid bytes 0 (0 ∷ [])) → IsShutFile file
gate_shut bytes file is = subst IsShutFile (sym is) (record { lasts = refl; some = omega arith; closed = λ one. let wrong : 0 ≡ 1 = one in absurd cc })

-- a file is synced once at most
pub syncs_low : (front : Front) → syncs_for front ≤ 1
syncs_low Empty = omega arith
syncs_low Silo = omega arith
syncs_low Open = omega arith
syncs_low Closed = omega arith

pub closed_syncs : (front : Front) → front ≡ Closed → syncs_for front ≡ 1
closed_syncs front is = ap syncs_for is

-- an answer that a silo was made
abbrev made_so : {A : Type 0} → A → Result A CreateFault
made_so made = Ok made

-- none was made where the folder is called one
pub none_kept : {A B : Type 0} (made : A) (old new : World) → KeepsSilo (made_so made) old new → B
none_kept made old new kept = by kept.answer
  where
    by : {C : Type 0} → (IsErrOf (made_so made) CreateFault.AlreadyASilo) ⊎ ((file : FileId) × IsEitherManager file × IsErrOf (made_so made) (CreateFault.DiskFault file)) → C
    by (inl is) = absurd cc
    by (inr at) = (let is = at.2 in absurd cc)
