-- Turn after turn.
use Rattle.std.proofs.Common.{◌≡◌, ℕ, List, [], Bool, true, false, refl, sym, ap, subst, append-nil}
use Rattle.std.specs.Prelude.{Result, Ok, Err, length}
use Rattle.host_trait.specs.declared.channels.Channel.{Channel}
use Rattle.host_trait.specs.World.{World}
use Rattle.host_trait.proofs.Moments.{started}
use Rattle.request_wire.specs.declared.requests.Line.{Line}
use Rattle.promise_spec.specs.TurnRule.{KeepsTurnRule, picks_used}
use Rattle.script_tree.specs.Programs.{ProgramTree}
use Rattle.run_books.specs.declared.faults.RunFault.{RunFault}
use Rattle.run_books.specs.declared.faults.RunFault.TheVariants.{InDoubt, WriteFault, LoadFault, LoadDamaged, Memory}
use Rattle.core_model.specs.declared.events.CoreEvent.{CoreEvent}
use Rattle.core_model.specs.LegalRuns.{Run}
use Rattle.settle_loop.specs.declared.settler.Settler.{Settler}
use Rattle.run_books.specs.Beginnings.{Outset}
use Rattle.run_books.specs.RecordFrame.{TurnsBeside}
use Rattle.run_books.specs.Books.{Books}
use Rattle.run_books.specs.Records.{TurnsEndAs, HasCarriedAll}
use Rattle.interleaver.specs.Turns.{KeepsTurns as KeepsRecord, IsFreshRecord, TurnsGoOn as RecordGoesOn}
use Rattle.interleaver.specs.TurnStages.{TurnStage, IsUnderWay, WentOn, TurnSays}
use Rattle.run_books.specs.Stages.{stage_by}

module _ (tells : Bool) (o : Outset) (types : ProgramTree) (lines : List Line) (width : ℕ) (picks : List ℕ) (b : Books) (s t : TurnStage) where
  -- one turn more
  pub went-then : (u : TurnStage) (w : WentOn tells o types lines width picks b s t) → WentOn tells o types lines width picks w.books t u → WentOn tells o types lines width picks b s u
  went-then u w v = record { books = v.books; under_way = v.under_way; lasts = λ tell head was. v.lasts tell head (w.lasts tell head was) }

  -- a turn that ends the run
  pub ends-then : {T : Type 0} (u : TurnStage) (w : WentOn tells o types lines width picks b s t) (f : RunFault)
      → RecordGoesOn {T = Bool} tells o w.books t.at u.at (Err f)
      → RecordGoesOn {T = T} tells o b s.at u.at (Err f)
  ends-then {T} u w f g = record { books = g.books; record_kept = g.record_kept; lasts = λ tell head was. g.lasts tell head (w.lasts tell head was); ended = by f g.ended }
    where
      by : (x : RunFault) → TurnsEndAs tells o g.books u.at {T = Bool} (Err x) → TurnsEndAs tells o g.books u.at {T = T} (Err x)
      by InDoubt e = e
      by WriteFault e = e
      by (LoadFault file) e = e
      by (LoadDamaged file place) e = e
      by Memory e = e

  kept-of : (w : WentOn tells o types lines width picks b s t) → KeepsRecord tells o w.books t.at
  kept-of w = record { above = w.under_way.turning.first; units = w.under_way.turning.unit_rule; turns = turns-of w; books = w.under_way.books }
    where
      turns-of : (w : WentOn tells o types lines width picks b s t) → o.ruled ≡ true → KeepsTurnRule o.program.types o.windowed (length o.asked) o.width o.picks t.at.run
      turns-of w = w.under_way.turning.turn_rule

  -- all is done
  pub done-then : {T : Type 0} (done : T) (w : WentOn tells o types lines width picks b s t) → HasCarriedAll o t.at → RecordGoesOn {T = T} tells o b s.at t.at (Ok done)
  done-then done w all = record { books = w.books; record_kept = kept-of w; lasts = w.lasts; ended = (all, w.under_way.even.rest) }

  -- or memory runs out between turns
  pub out-then : {T : Type 0} (w : WentOn tells o types lines width picks b s t) → RecordGoesOn {T = T} tells o b s.at t.at (Err Memory)
  out-then w = record { books = w.books; record_kept = kept-of w; lasts = w.lasts; ended = w.under_way.even.rest }

-- what a move says behind the pass it says of the whole turn
pub says-behind : (tells : Bool) (o : Outset) (types : ProgramTree) (lines : List Line) (width : ℕ) (picks : List ℕ) (b : Books) (s t u : TurnStage) (w : WentOn tells o types lines width picks b s t)
    (result : Result Bool RunFault) → TurnSays tells o types lines width picks w.books t u result → TurnSays tells o types lines width picks b s u result
says-behind tells o types lines width picks b s t u w (Ok true) v = went-then tells o types lines width picks b s t u w v
says-behind tells o types lines width picks b s t u w (Ok false) v = (v.0, went-then tells o types lines width picks b s t (record u { pass = v.0 }) w v.1, v.2)
says-behind tells o types lines width picks b s t u w (Err f) g = ends-then tells o types lines width picks b s t {T = Bool} u w f g

-- where a run of turns is under way, it has gone on by no turn
pub nothing-went : (tells : Bool) (o : Outset) (types : ProgramTree) (lines : List Line) (width : ℕ) (picks : List ℕ) (b : Books) (s : TurnStage)
    → IsUnderWay tells o types lines width picks b s → WentOn tells o types lines width picks b s s
nothing-went tells o types lines width picks b s way = record { books = b; under_way = way; lasts = λ tell head was. was }

-- nothing is done, for want of memory
pub at-once : {T : Type 0} (tells : Bool) (o : Outset) (b : Books) (used : ℕ) (r : Run) (settler : Settler) (counts : Channel → ℕ) (now : World) → IsFreshRecord o b used r → KeepsRecord tells o b (stage_by r settler counts now)
    → RecordGoesOn {T = T} tells o b (stage_by r settler counts now) (stage_by r settler counts now) (Err Memory)
at-once tells o b used r settler counts now fresh kept = record { books = b; record_kept = kept; lasts = λ tell head was. was; ended = fresh.rest }

-- a turn over lines and picks that are these
module _ (tells : Bool) (o : Outset) (types : ProgramTree) (lines lines' : List Line) (width : ℕ) (picks picks' : List ℕ) (b : Books) (s t u : TurnStage)
    (same-lines : lines' ≡ lines) (same-picks : picks' ≡ picks) (w : WentOn tells o types lines width picks b s t) (result : Result Bool RunFault)
    (says : (b' : Books) → IsUnderWay tells o types lines' width picks' b' t → TurnSays tells o types lines' width picks' b' t u result) where
  says-of : (r : Result Bool RunFault) → result ≡ r → TurnSays tells o types lines width picks w.books t u r
  says-of r q =
      let over-lines = subst (λ (ls : List Line). IsUnderWay tells o types ls width picks' w.books t → TurnSays tells o types ls width picks' w.books t u result) same-lines (says w.books) in
      let over-picks = subst (λ (ps : List ℕ). IsUnderWay tells o types lines width ps w.books t → TurnSays tells o types lines width ps w.books t u result) same-picks over-lines in
      subst (λ (x : Result Bool RunFault). TurnSays tells o types lines width picks w.books t u x) q (over-picks w.under_way)

  -- the turn's answer says that it goes on
  pub on-after : result ≡ Ok true → WentOn tells o types lines width picks b s u
  on-after q = went-then tells o types lines width picks b s t u w (says-of (Ok true) q)

  -- or that nothing is left
  pub done-after : {T : Type 0} (done : T) → result ≡ Ok false → RecordGoesOn {T = T} tells o b s.at u.at (Ok done)
  done-after {T} done q =
      let all = says-of (Ok false) q in
      let end : TurnStage = record u { pass = all.0 } in
      done-then tells o types lines width picks b s end {T = T} done (went-then tells o types lines width picks b s t end w all.1) all.2

  -- by then so many picks were used
  pub picks-after : result ≡ Ok false → o.ruled ≡ true → picks_used u.at.run (length u.at.run.events) ≡ u.used
  picks-after q ruled = (let all = says-of (Ok false) q in sym (all.1.under_way.turning.count ruled))

  -- or how the run has ended
  pub fault-after : {T : Type 0} (f : RunFault) → result ≡ Err f → RecordGoesOn {T = T} tells o b s.at u.at (Err f)
  fault-after {T} f q = ends-then tells o types lines width picks b s t {T = T} u w f (says-of (Err f) q)

-- ---- beside the record

-- nothing is done yet
pub nothing-beside : (tells : Bool) (r : Run) (s : Settler) (f : Channel → ℕ) (w : World) → TurnsBeside {T = Bool} tells (stage_by r s f w) (stage_by r s f w) (Ok true)
nothing-beside tells r s f w = record {
  more = [];
  core = ap (λ (es : List CoreEvent). record r { events = es }) (sym (append-nil r.events));
  quiet = refl;
  input = λ told. refl;
  past = λ told. ([], sym (append-nil w.past));
  pulled = refl;
  emitted = refl;
  calm = λ q. refl;
  hushed = λ q t. record { output = refl; moments = started (λ m. m.output ≡ w.output) w.past };
}
