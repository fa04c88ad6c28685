-- Reading tokens from the left, up to the first fault that is met.
use Rattle.std.specs.Prelude.{◌≡◌, Bool, true, false, List, Option, Some, None, Result, Ok, Err}
use Rattle.script_lexer.specs.declared.faults.ParseFault.{ParseFault}
use Rattle.script_lexer.specs.declared.faults.ParseFault.TheVariants.{BadToken, Unexpected, TooDeep, Memory}
use Rattle.script_lexer.specs.declared.tokens.Spanned.{Spanned}

-- a part of the program that tokens begin with, and the tokens after it; or why there is none
abbrev pub Part : Type 0 → Type 0
Part A = Result (A × List Spanned) ParseFault

-- what reads tokens, and answers what it read or the first fault
abbrev pub Read : Type 0 → Type 0
Read A = List Spanned → Part A

-- one part after another
infixl 10 ◌>>=◌
abbrev pub ◌>>=◌ : {A B : Type 0} → Result A ParseFault → (A → Result B ParseFault) → Result B ParseFault
(Ok x) >>= f = f x
(Err e) >>= f = Err e

-- the fault is what reading meets; want of memory may be answered in its place
abbrev pub FailsReading : {Y : Type 0} → ParseFault → Result Y ParseFault → Type 0
FailsReading Memory read = Unit {0}
FailsReading (BadToken at) read = read ≡ Err (BadToken at)
FailsReading (Unexpected at) read = read ≡ Err (Unexpected at)
FailsReading (TooDeep at) read = read ≡ Err (TooDeep at)

-- what a function made, seen by `view`, is this, unless memory ran out
abbrev pub Makes : {X Y : Type 0} → (X → Y) → Result X ParseFault → Result Y ParseFault → Type 0
Makes view (Ok x) read = read ≡ Ok (view x)
Makes view (Err e) read = FailsReading e read

-- what a method read, seen by `view`, and the tokens that it left are what reading gives, unless memory ran out
abbrev pub GivesPart : {X Y : Type 0} → (X → Y) → Result X ParseFault → List Spanned → Part Y → Type 0
GivesPart view (Ok x) left read = read ≡ Ok (view x, left)
GivesPart view (Err e) left read = FailsReading e read

-- a method took what stands next, where it was there
abbrev pub TakesToken : Bool → List Spanned → List Spanned → Option (List Spanned) → Type 0
TakesToken true new old found = found ≡ Some new
TakesToken false new old found = (found ≡ None) × (new ≡ old)

-- the same, with what it took
abbrev pub Finds : {A : Type 0} → Option A → List Spanned → List Spanned → Option (A × List Spanned) → Type 0
Finds (Some x) new old found = found ≡ Some (x, new)
Finds None new old found = (found ≡ None) × (new ≡ old)
