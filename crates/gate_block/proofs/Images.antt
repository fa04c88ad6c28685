-- The logs of the images of a moment, while a block is put behind a gate and the gate is opened.
use Rattle.std.proofs.Common.{◌≡◌, ◌⊎◌, inl, inr, ℕ, ◌+◌, ◌^◌, ◌<◌, List, [], ◌∷◌, ◌++◌, length, slice_index, take, drop, sym, ◌∙◌, ap, subst, arith, append_assoc, length-take, ◌≤◌}
use Rattle.host_trait.specs.declared.channels.FileId.{FileId}
use Rattle.host_trait.specs.Disk.{FileState, MayLeave, Tears, Pends, settled, overlaid}
use Rattle.std.proofs.lemmas.Bool.{eq-eqb}
use Rattle.std.proofs.lemmas.List.{get_or_at}
use Rattle.host_trait.specs.World.{World, Moment, Passes}
use Rattle.host_trait.specs.Runs.{ChangesFile, RunsOnFile, OnlyAsked, HasFailedWrite}
use Rattle.host_trait.proofs.Moments.{weaker}
use Rattle.host_trait.proofs.Crashes.{settled_only, Tears-overlaid, torn_may_stay}
use Rattle.gate_block.specs.Gates.{IsClosedAt}
use Rattle.gate_block.specs.Blocks.{block_of}
use Rattle.gate_block.specs.Log.{LogsUpTo, EachClosed, EachOpen, EachLogs, SomeLogs, EachLogsOrMore, IsStaged}
use Rattle.gate_block.proofs.Logs.{front_counts, still_closed, torn_gate, opened_gate}

-- a gate that is closed in every image stays so while a block goes behind it
pub each_closed : (file : FileId) (gate n : ℕ) (old : World) (m : Moment) → ChangesFile file (Tears (gate + 1) n) old m → ((d : List ℕ) → MayLeave (old.disk file) d → IsClosedAt gate d)
    → (c : List ℕ) → MayLeave (m.disk file) c → IsClosedAt gate c
each_closed file gate n old m changes closed c left =
    let from = changes.crash c left in
    still_closed gate n from.0 c (closed from.0 from.1) from.2

-- while a block goes behind the closed gate, and after a failure, each image has the log that it had
pub each_still : (bodies : List (List ℕ)) (gate n : ℕ) (file : FileId) (old : World) (m : Moment) → EachLogs bodies gate file old.disk → ChangesFile file (Tears (gate + 1) n) old m → EachLogs bodies gate file m.disk
each_still bodies gate n file old m logs changes c left =
    let from = changes.crash c left in
    front_counts bodies gate from.0 c (logs from.0 from.1) from.2.before

module _ (bodies : List (List ℕ)) (gate : ℕ) (body : List ℕ) (file : FileId) (d : List ℕ) (mid : World) (logs : LogsUpTo bodies gate d) (small : length body < 2 ^ 32)
    (there : mid.disk file ≡ settled (overlaid d (gate + 1) (block_of body))) where
  -- while the gate is opened, and after a failure, each image's log has the body or it doesn't
  pub each_or_more : (m : Moment) → ChangesFile file (Tears gate 1) mid m → EachLogsOrMore bodies body gate file m.disk
  each_or_more m changes c left =
      let from = changes.crash c left in
      let was : from.0 ≡ overlaid d (gate + 1) (block_of body) = settled_only (overlaid d (gate + 1) (block_of body)) from.0 (subst (λ (s : FileState). MayLeave s from.0) there from.1) in
      torn_gate bodies gate d body logs small c (subst (λ (f : List ℕ). Tears gate 1 f c) was from.2)

  -- and once it is open, it has
  pub each_more : (new : World) → new.disk file ≡ settled (overlaid (mid.disk file).seen gate (1 ∷ [])) → EachLogs (bodies ++ body ∷ []) (gate + length (block_of body)) file new.disk
  each_more new opened c left =
      let whole : List ℕ = overlaid (overlaid d (gate + 1) (block_of body)) gate (1 ∷ []) in
      let seen : new.disk file ≡ settled whole = opened ∙ ap (λ (s : FileState). settled (overlaid s.seen gate (1 ∷ []))) there in
      let is : c ≡ whole = settled_only whole c (subst (λ (s : FileState). MayLeave s c) seen left) in
      subst (λ (f : List ℕ). LogsUpTo (bodies ++ body ∷ []) (gate + length (block_of body)) f) (sym is) (opened_gate bodies gate d body logs small)

-- the same of each moment of a run
pub shut_run : (file : FileId) (gate n : ℕ) (old new : World) → RunsOnFile file (Tears (gate + 1) n) 1 old new → EachClosed gate file old.disk → Passes (λ m. EachClosed gate file m.disk) old.past new.past
shut_run file gate n old new run closed = weaker (ChangesFile file (Tears (gate + 1) n) old) (λ m. EachClosed gate file m.disk) (λ m changes. each_closed file gate n old m changes closed) run.moments

pub log_run : (bodies : List (List ℕ)) (file : FileId) (gate n : ℕ) (old new : World) → RunsOnFile file (Tears (gate + 1) n) 1 old new → EachLogs bodies gate file old.disk → Passes (λ m. EachLogs bodies gate file m.disk) old.past new.past
log_run bodies file gate n old new run logs =
    weaker (ChangesFile file (Tears (gate + 1) n) old) (λ m. EachLogs bodies gate file m.disk) (λ m changes. each_still bodies gate n file old m logs changes) run.moments

pub open_run : (bodies : List (List ℕ)) (body front : List ℕ) (file : FileId) (gate : ℕ) (old new : World) → RunsOnFile file (Tears gate 1) 1 old new → IsStaged bodies body gate front (old.disk file)
    → Passes (λ m. EachLogsOrMore bodies body gate file m.disk) old.past new.past
open_run bodies body front file gate old new run is =
    weaker (ChangesFile file (Tears gate 1) old) (λ m. EachLogsOrMore bodies body gate file m.disk) (λ m changes. each_or_more bodies gate body file front old is.log is.small is.there m changes) run.moments

-- a gate that was opened is open in each image
pub each_open : (file : FileId) (gate : ℕ) (d : List ℕ) (new : World) → gate ≤ length d → new.disk file ≡ settled (overlaid d gate (1 ∷ [])) → EachOpen gate file new.disk
each_open file gate d new within opened c left =
    let whole : List ℕ = overlaid d gate (1 ∷ []) in
    let is : c ≡ whole = settled_only whole c (subst (λ (s : FileState). MayLeave s c) opened left) in
    let size : length (take gate d) ≡ gate = omega (arith, length-take gate d, within) in
    let byte : slice_index whole gate ≡ 1 = ap (λ (l : List ℕ). slice_index l gate) (append_assoc (take gate d) (1 ∷ []) (drop (gate + 1) d)) ∙ get_or_at (take gate d) 1 (drop (gate + 1) d) 0 gate size in
    eq-eqb (slice_index c gate) 1 (ap (λ (l : List ℕ). slice_index l gate) is ∙ byte)

-- what may be left of a staged file once the gate's byte is pending: the gate open, and so the body more
pub some_more : (bodies : List (List ℕ)) (body front : List ℕ) (file : FileId) (gate : ℕ) (old new : World) → IsStaged bodies body gate front (old.disk file) → MayLeave (old.disk file) (old.disk file).seen
    → Pends gate 1 (old.disk file) (new.disk file) → SomeLogs (bodies ++ body ∷ []) (gate + length (block_of body)) file new.disk
some_more bodies body front file gate old new is here pends =
    let staged : List ℕ = overlaid front (gate + 1) (block_of body) in
    let seen : (old.disk file).seen ≡ staged = ap (λ (s : FileState). s.seen) is.there in
    let torn : Tears (gate + 1) (length (block_of body)) front staged = Tears-overlaid (gate + 1) (block_of body) front (omega (arith, is.log.blocks.within)) in
    let within : gate ≤ length staged = omega (arith, is.log.blocks.within, torn.no_shorter) in
    record {
      image = overlaid staged gate (1 ∷ []);
      left = torn_may_stay gate 1 (old.disk file) (new.disk file) pends staged (overlaid staged gate (1 ∷ [])) (subst (MayLeave (old.disk file)) seen here) (Tears-overlaid gate (1 ∷ []) staged within);
      logs = opened_gate bodies gate front body is.log is.small;
    }

-- the same of a gate write that failed
pub doubted_run : (bodies : List (List ℕ)) (body front : List ℕ) (file : FileId) (gate : ℕ) (old new : World) → HasFailedWrite file gate 1 old new → MayLeave (old.disk file) (old.disk file).seen
    → IsStaged bodies body gate front (old.disk file) → OnlyAsked old new ⊎ SomeLogs (bodies ++ body ∷ []) (gate + length (block_of body)) file new.disk
doubted_run bodies body front file gate old new (inl unbegun) here is = inl unbegun
doubted_run bodies body front file gate old new (inr pends) here is = inr (some_more bodies body front file gate old new is here pends)
