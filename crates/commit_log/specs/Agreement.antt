-- How the reading of a log agrees with the one that takes any number.
use Rattle.std.specs.Prelude.{◌≡◌, ◌⊎◌, ◌<◌, ℕ, false, List, Result, Ok, Err, IfErr}
use Rattle.std.specs.Int.{w64}
use Rattle.std.specs.List.{AllByRecursion}
use Rattle.field_codec.specs.declared.faults.CodecFault.{CodecFault}
use Rattle.field_codec.specs.declared.faults.CodecFault.TheVariants.{Unknown}
use Rattle.field_codec.specs.declared.units.Numbers.TheVariants.{Logged}
use Rattle.field_codec.specs.Units.{may_be_unit}
use Rattle.field_codec.specs.Readers.{number_at}
use Rattle.field_codec.specs.Results.{place_of}
use Rattle.commit_log.specs.Bodies.{HasNumbers}
use Rattle.commit_log.specs.declared.contents.Body.{Body}
use Rattle.commit_log.specs.declared.contents.Body.TheVariants.{Records, Upgrade}

-- A number that no unit of a log has stands at this place. No parent has one of those from 2 to the 63 on, and no session.
pub record IsNoUnitAt (bytes : List ℕ) (place : ℕ) : Type 0 where
  pub number : ℕ
  pub end : ℕ
  pub there : number_at w64 bytes place ≡ Ok (number, end)
  pub none : may_be_unit Logged number ≡ false

-- the same is read, or the reading of a log names such a number, which stands before the other reading's fault
abbrev pub Agrees : {A : Type 0} → List ℕ → Result A CodecFault → Result A CodecFault → Type 0
Agrees bytes logged free = (logged ≡ free) ⊎ ((place : ℕ) × (logged ≡ Err (Unknown place)) × IsNoUnitAt bytes place × IfErr free (λ fault. place < place_of fault))

-- each unit's and each parent's number in what a body says is one that a log may have
abbrev pub AreLogged : Body → Type 0
AreLogged (Records records) = AllByRecursion (HasNumbers Logged) records
AreLogged (Upgrade text) = Unit {0}
