-- The batches that a history takes.
use Rattle.std.specs.Prelude.{◌≡◌, ℕ, ◌+◌, List, [], ◌∷◌, ◌++◌, Bool, is_none, length, take, drop, get_or}
use Rattle.std.specs.List.{list_all as all, flat_map, take_while}
use Rattle.core_model.specs.CoreState.{UnitNo, Member}
use Rattle.core_model.specs.declared.events.CoreEvent.{CoreEvent}
use Rattle.core_model.specs.declared.events.CoreEvent.TheVariants.{Bad, Begin, Grant, Refuse, Finish, EndPlain, EndSnapshot, Release, Take, Vote, Decide, Sealed, NotSealed, Doubt, Learn, Emitted, Halt, Want, Load}
use Rattle.core_history.specs.Histories.{Applied}
use Rattle.core_history.specs.Units.{finish_order, held, reads_in}

-- the unit holds none of the grains that it read
abbrev pub holds_nothing : List Applied → UnitNo → Bool
holds_nothing h u = all (λ r. is_none (held u r.grain h)) (reads_in u h)

-- the units of these batches, one batch after the other
abbrev pub joined : List (List UnitNo) → List UnitNo
joined batches = flat_map (λ us. us) batches

-- the finished units after those that stand in these batches
abbrev pub waiting_in : List Applied → List (List UnitNo) → List UnitNo
waiting_in h batches = drop (length (joined batches)) (finish_order h)

-- the longest prefix of them, of at most 64 units, in which each unit holds nothing
abbrev pub next_batch : List Applied → List (List UnitNo) → List UnitNo
next_batch h batches = take_while (holds_nothing h) (take 64 (waiting_in h batches))

-- the batches with the next one, where the event takes it
abbrev pub with_taken : List Applied → List (List UnitNo) → CoreEvent → List (List UnitNo)
with_taken front batches Take = batches ++ next_batch front batches ∷ []
with_taken front batches (Bad line why) = batches
with_taken front batches (Begin origin call plain) = batches
with_taken front batches (Grant v k new) = batches
with_taken front batches (Refuse v k new) = batches
with_taken front batches (Finish v effect) = batches
with_taken front batches (EndPlain v effect) = batches
with_taken front batches (EndSnapshot v at outcome) = batches
with_taken front batches (Release v k) = batches
with_taken front batches (Vote n k kept) = batches
with_taken front batches (Decide n) = batches
with_taken front batches (Sealed n) = batches
with_taken front batches (NotSealed n) = batches
with_taken front batches (Doubt n) = batches
with_taken front batches (Learn v k) = batches
with_taken front batches Emitted = batches
with_taken front batches Halt = batches
with_taken front batches (Want v k) = batches
with_taken front batches (Load k v state) = batches

-- those that a history takes after what stands in front of it
abbrev pub batches_from : List Applied → List (List UnitNo) → List Applied → List (List UnitNo)
batches_from front batches [] = batches
batches_from front batches (a ∷ h) = batches_from (front ++ a ∷ []) (with_taken front batches a.event) h

-- the batches that were taken, each as its units
abbrev pub batches_in : List Applied → List (List UnitNo)
batches_in h = batches_from [] [] h

-- the unit is in the batch of that number; the first has number 1
abbrev pub InBatch : List Applied → ℕ → UnitNo → Type 0
InBatch h n u = (i : ℕ) × (n ≡ i + 1) × Member u (get_or (batches_in h) i [])
