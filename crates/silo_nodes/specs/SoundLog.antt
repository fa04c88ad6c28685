-- What holds of a participant's log, whatever packets come.
use Rattle.std.specs.Prelude.{◌≡◌, List, Bool, true, false, Option, Some, ℤ, ◌+ℤ◌}
use Rattle.silo_nodes.specs.Packets.{GrainId, TxnId, Shift, NodeEntry, Prepared, Done, touches, is_apart, Member, Distinct}
use Rattle.silo_nodes.specs.Logs.{is_prepared, is_done, shifts_of, done_in, moved}
use Rattle.silo_nodes.specs.Node.{is_balance}

-- What holds of a log: each is a fact of one participant alone.
pub record Sound (opening : GrainId → Option ℤ) (log : List NodeEntry) : Type 0 where
  pub once : Distinct (done_in log)
  pub prepared : (t : TxnId) (c : Bool) → Member (Done t c) log → is_prepared log t ≡ true
  pub first : (t : TxnId) (s : List Shift) → Member (Prepared t s) log → shifts_of t log ≡ s
  pub apart : (t : TxnId) (s : List Shift) → Member (Prepared t s) log → is_apart s ≡ true
  pub room : (t : TxnId) (s : List Shift) (x : Shift) → Member (Prepared t s) log → is_done log t ≡ false → Member x s →
      (b : ℤ) × (opening x.grain ≡ Some b) × (is_balance ((b +ℤ moved x.grain log log) +ℤ x.delta) ≡ true)
  pub alone : (t u : TxnId) (s r : List Shift) (g : GrainId) → Member (Prepared t s) log → Member (Prepared u r) log → is_done log t ≡ false → is_done log u ≡ false →
      touches g s ≡ true → touches g r ≡ true → t ≡ u
  pub range : (g : GrainId) (b : ℤ) → opening g ≡ Some b → is_balance (b +ℤ moved g log log) ≡ true
