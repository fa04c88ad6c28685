-- The books of a run: what is settled, in order, with its records and its entries.
use Rattle.std.specs.Prelude.{◌≡◌, ◌⊎◌, ◌+◌, ℕ, List, [], ◌∷◌, ◌++◌, length, take, slice_get, Some, Bool, true, false, ⊤}
use Rattle.base_types.specs.declared.entries.Entry.{Entry}
use Rattle.base_types.specs.declared.shapes.Shape.{Shape}
use Rattle.core_model.specs.CoreState.{CoreState}
use Rattle.core_model.specs.SerialOrder.{committed, chosen}
use Rattle.request_wire.specs.Reply.{reply_line}
use Rattle.promise_spec.specs.Records.{AreRecordsOf}
use Rattle.promise_spec.specs.Logs.{IsPrefix}
use Rattle.promise_spec.specs.Journals.{Settlement, commits_of, entries_of}

-- What is settled and written; what is settled and not yet written; the batch of a doubt, where an image may have it; and what
-- a failed call wrote of a line.
pub record Books : Type 0 where
  pub said : List Settlement
  pub unsaid : List Settlement
  pub doubted : List Settlement
  pub rest : List ℕ

-- the whole journal
abbrev pub booked_journal : Books → List Settlement
booked_journal b = (b.said ++ b.unsaid) ++ b.doubted

-- What stands last is nothing, or one batch: that of the core's doubt, with the records of its units to commit and no entry.
abbrev pub AreInDoubt : CoreState → List Settlement → Type 0
AreInDoubt w [] = ⊤
AreInDoubt w (batch ∷ []) = (begins : ℕ) × (w.manager.doubt ≡ Some begins) × AreRecordsOf (chosen w) batch.commits × (batch.entries ≡ [])
AreInDoubt w (batch ∷ (other ∷ more)) = ⊥

-- The records are those of the core's committed units, the entries those that it has settled.
pub record AreBooked (b : Books) (w : CoreState) : Type 0 where
  pub commits : AreRecordsOf (committed w) (commits_of (b.said ++ b.unsaid))
  pub entries : entries_of (b.said ++ b.unsaid) ≡ w.manager.settled
  pub doubted : AreInDoubt w b.doubted

-- the entries that were put out: none by a quiet settler, else as many as the core was told of, or one more where a call failed
-- that had written the whole of its line
abbrev pub IsPutOut : Bool → Books → CoreState → Type 0
IsPutOut true b w = b.said ≡ []
IsPutOut false b w = (entries_of b.said ≡ take w.manager.emitted w.manager.settled)
    ⊎ ((entries_of b.said ≡ take (w.manager.emitted + 1) w.manager.settled) × (b.rest ≡ []))

-- a line of which a rest was written is the next entry's
abbrev pub IsCutOff : Shape → Books → CoreState → Type 0
IsCutOff shape b w = (b.rest ≡ [])
    ⊎ ((entry : Entry) × (slice_get w.manager.settled (length (entries_of b.said)) ≡ Some entry) × IsPrefix b.rest (reply_line shape entry))
