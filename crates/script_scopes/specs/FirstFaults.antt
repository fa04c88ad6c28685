-- What is at fault in a piece of text, and what a check of it answers.
use Rattle.std.specs.Prelude.{◌≡◌, Option, Some, None, Result, Ok, Err}
use Rattle.script_scopes.specs.declared.faults.CheckFault.{CheckFault}
use Rattle.script_scopes.specs.declared.faults.CheckFault.TheVariants.{Memory}

-- the first fault of a piece of text, none where nothing is at fault
abbrev pub FirstFault : Type 0
FirstFault = Option CheckFault

-- the first fault of two pieces, one behind the other
infixl 10 ◌<|>◌
abbrev pub ◌<|>◌ : FirstFault → FirstFault → FirstFault
None <|> later = later
(Some fault) <|> later = Some fault

-- this fault is the first, where it isn't want of memory, which may come in place of any answer
abbrev pub Fails : CheckFault → FirstFault → Type 0
Fails Memory found = Unit {0}
Fails fault found = found ≡ Some fault

-- a check goes through exactly where nothing is at fault, and else answers the first fault
abbrev pub Answers : {A : Type 0} → Result A CheckFault → FirstFault → Type 0
Answers (Ok done) found = found ≡ None
Answers (Err fault) found = Fails fault found

-- the same, for a check that leaves this in place of what was there
abbrev pub Leaves : {A B : Type 0} → Result A CheckFault → FirstFault → B → B → Type 0
Leaves (Ok done) found left wanted = (found ≡ None) × (left ≡ wanted)
Leaves (Err fault) found left wanted = Fails fault found
