-- What a report does to a host, once the folder is open.
use Rattle.std.specs.Prelude.{◌≡◌, ℕ, ◌++◌, Bool, true, List}
use Rattle.host_trait.specs.World.{World, Passes}
use Rattle.promise_spec.specs.Logs.{IsPrefix}

-- these bytes were added to the output, and at each moment the files were as before
pub record PutsOut (added : List ℕ) (old new : World) : Type 0 where
  pub input : new.input ≡ old.input
  pub output : new.output ≡ old.output ++ added
  pub disk : new.disk ≡ old.disk
  pub moments : Passes (λ m. m.disk ≡ old.disk) old.past new.past

-- a first part of the text was, and all of it where the call succeeded
pub record PutsPart (text : List ℕ) (ok : Bool) (old new : World) : Type 0 where
  pub added : List ℕ
  pub puts : PutsOut added old new
  pub front : IsPrefix added text
  pub whole : ok ≡ true → added ≡ text
