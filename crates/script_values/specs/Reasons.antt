-- The reasons for which the language ends a unit with a fault, and what they say.
use Rattle.std.specs.Prelude.{ℕ, List, ℤ, Result, Ok, Err}
use Rattle.base_types.specs.declared.calls.Value.TheVariants.{Int}
use Rattle.script_tree.specs.declared.options.EntryRefusal.TheVariants as option
use Rattle.script_values.specs.declared.reasons.Reason.{Reason}
use Rattle.script_values.specs.declared.reasons.Reason.TheVariants.{Overflow, Divide, Kind, Key, Length, Budget, Depth, Units, Grains, NoTransaction, NotAllowed, Aborted, Unknown}
use Rattle.script_values.specs.Faults.{overflow, divide, kind, key, too_long, budget, depth, units, grains, option_refusal_text, aborted, unknown}
use Rattle.script_values.specs.Values.{ValueOrFault}

-- the text of a fault
abbrev pub reason_text : Reason → List ℕ
reason_text Overflow = overflow
reason_text Divide = divide
reason_text Kind = kind
reason_text Key = key
reason_text Length = too_long
reason_text Budget = budget
reason_text Depth = depth
reason_text Units = units
reason_text Grains = grains
reason_text NoTransaction = option_refusal_text option.NoTransaction
reason_text NotAllowed = option_refusal_text option.NotAllowed
reason_text Aborted = aborted
reason_text Unknown = unknown

-- what a number gives, or a reason in its place
abbrev pub number_given : Result ℤ Reason → ValueOrFault
number_given (Ok number) = Ok (Int number)
number_given (Err reason) = Err (reason_text reason)
