-- How an option enters a transaction.
use Rattle.std.specs.Prelude.{Bool, true, false}
use Rattle.script_tree.specs.declared.options.TxnOption.{TxnOption}
use Rattle.script_tree.specs.declared.options.TxnOption.TheVariants.{Create, Join, CreateOrJoin, Suppress, Supported, NotAllowed}
use Rattle.script_tree.specs.declared.options.Entered.{Entered}
use Rattle.script_tree.specs.declared.options.Entered.TheVariants.{Joined, NewUnit, Plain, Refused}
use Rattle.script_tree.specs.declared.options.EntryRefusal.TheVariants as refusal

-- how a call of a method with this option runs, without a transaction (`false`) and within one (`true`)
abbrev pub entered : TxnOption → Bool → Entered
entered Create false = NewUnit
entered Create true = NewUnit
entered Join false = Refused refusal.NoTransaction
entered Join true = Joined
entered CreateOrJoin false = NewUnit
entered CreateOrJoin true = Joined
entered Suppress false = Plain false
entered Suppress true = Plain false
entered Supported false = Plain false
entered Supported true = Plain true
entered NotAllowed false = Plain false
entered NotAllowed true = Refused refusal.NotAllowed
