-- How many lines ended so, as the core counts them and as the promise says it.
use Rattle.std.proofs.Common.{◌≡◌, ℕ, List, Bool, refl, ap, ◌∙◌}
use Rattle.base_types.specs.declared.calls.Outcome.TheVariants.{Value, Fault, Aborted}
use Rattle.base_types.specs.declared.entries.Entry.{Entry}
use Rattle.base_types.specs.declared.entries.Settled.{Settled}
use Rattle.base_types.specs.declared.entries.Settled.TheVariants.{Done, Lock, Vote, Dependency, Disk, InDoubt, Bad}
use Rattle.core_parts.specs.declared.line_ends.LineEnds.{LineEnds}
use Rattle.core_parts.specs.LineEnds.{ends_in_value, ends_in_fault, ends_in_abort, ends_of}
use Rattle.promise_spec.specs.Loads.{line_valued, is_faulted, line_aborted, how_many_lines}

same-value : (what : Settled) → ends_in_value what ≡ line_valued what
same-value (Done (Value v)) = refl
same-value (Done (Fault f)) = refl
same-value (Done Aborted) = refl
same-value (Lock by grain) = refl
same-value (Vote grain) = refl
same-value (Dependency on) = refl
same-value Disk = refl
same-value InDoubt = refl
same-value (Bad why) = refl

same-fault : (what : Settled) → ends_in_fault what ≡ is_faulted what
same-fault (Done (Value v)) = refl
same-fault (Done (Fault f)) = refl
same-fault (Done Aborted) = refl
same-fault (Lock by grain) = refl
same-fault (Vote grain) = refl
same-fault (Dependency on) = refl
same-fault Disk = refl
same-fault InDoubt = refl
same-fault (Bad why) = refl

same-abort : (what : Settled) → ends_in_abort what ≡ line_aborted what
same-abort (Done (Value v)) = refl
same-abort (Done (Fault f)) = refl
same-abort (Done Aborted) = refl
same-abort (Lock by grain) = refl
same-abort (Vote grain) = refl
same-abort (Dependency on) = refl
same-abort Disk = refl
same-abort InDoubt = refl
same-abort (Bad why) = refl

-- the lines that came to a value
pub counted-values : (ended : LineEnds) (entries : List Entry) → ended ≡ ends_of entries → ended.values ≡ how_many_lines line_valued entries
counted-values ended entries e = ap (λ (x : LineEnds). x.values) e ∙ ap (λ (is : Settled → Bool). how_many_lines is entries) (λ i what. same-value what i)

-- the lines that came to a fault
pub counted-faults : (ended : LineEnds) (entries : List Entry) → ended ≡ ends_of entries → ended.faults ≡ how_many_lines is_faulted entries
counted-faults ended entries e = ap (λ (x : LineEnds). x.faults) e ∙ ap (λ (is : Settled → Bool). how_many_lines is entries) (λ i what. same-fault what i)

-- the lines that were aborted
pub counted-aborts : (ended : LineEnds) (entries : List Entry) → ended ≡ ends_of entries → ended.aborts ≡ how_many_lines line_aborted entries
counted-aborts ended entries e = ap (λ (x : LineEnds). x.aborts) e ∙ ap (λ (is : Settled → Bool). how_many_lines is entries) (λ i what. same-abort what i)
