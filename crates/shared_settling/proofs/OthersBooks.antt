-- The books, and what a fault says of them, behind entries of others and a stop.
use Rattle.std.proofs.Common.{◌≡◌, ⊎_elim, inl, inr, ℕ, ◌<◌, ◌≤◌, List, [], ◌∷◌, ◌++◌, length, Bool, true, false, true≢false, refl, sym, ap, ◌∙◌, subst, arith}
use Rattle.std.specs.Prelude.{◌+◌, take, Err, not}
use Rattle.std.proofs.lemmas.List.{length-append, take-append-le}
use Rattle.host_trait.specs.declared.channels.Channel.{Channel}
use Rattle.host_trait.specs.declared.channels.FileId.{FileId}
use Rattle.host_trait.specs.World.{World}
use Rattle.core_model.specs.CoreState.{Entry}
use Rattle.core_model.specs.declared.events.CoreEvent.{CoreEvent}
use Rattle.core_model.specs.declared.events.CoreEvent.TheVariants.{Halt}
use Rattle.core_model.specs.declared.events.CoreReply.{CoreReply}
use Rattle.core_model.specs.Laws.{extended}
use Rattle.core_model.specs.WantedGrains.{next_wanted}
use Rattle.core_model.specs.Events.{run}
use Rattle.core_model.specs.LegalRuns.{Run, begins, ends}
use Rattle.turn_cell.specs.History.{entry}
use Rattle.core_access.specs.Histories.{Told, run_after}
use Rattle.core_access.specs.SettlerEvents.{is_settling, leaves_settling}
use Rattle.core_access.specs.Sights.{Sight, run_seen, AllPass, Looks, Tells, Counts}
use Rattle.core_access.proofs.Entries.{run-on}
use Rattle.core_access.proofs.SettlerEvents.{others-leave}
use Rattle.core_access.proofs.Sights.{looks-before, tells-before, pass-append}
use Rattle.promise_spec.specs.Causes.{RunHasDoubt}
use Rattle.promise_spec.specs.UnitRule.{KeepsUnitRule}
use Rattle.promise_spec.proofs.Doubts.{doubt_left}
use Rattle.settler_rules.proofs.Commits.{doubt-stays}
use Rattle.settle_loop.specs.declared.settler.Settler.{Settler}
use Rattle.worker_rules.specs.Work.{is_work}
use Rattle.worker_rules.proofs.Workers.{work-settles}
use Rattle.run_books.specs.declared.faults.RunFault.{RunFault}
use Rattle.run_books.specs.declared.faults.RunFault.TheVariants.{InDoubt, WriteFault, Memory, LoadFault, LoadDamaged}
use Rattle.run_books.specs.Beginnings.{Outset, basis_of}
use Rattle.run_books.specs.Books.{Books}
use Rattle.run_books.specs.Records.{KeepsBooks, HasDoubted, HasFailedToLoad, HasFoundNone}
use Rattle.run_books.specs.BooksSteps.{BooksGoOn}
use Rattle.run_books.specs.SharedSteps.{MayRely}
use Rattle.run_books.proofs.BooksCounts.{doubt-ends}
use Rattle.run_books.proofs.BooksOthers.{others-still}
use Rattle.run_books.proofs.Fronts.{after-units, after-base}
use Rattle.shared_settling.specs.SharedSettler.{SaysAmong, SettledAmong}
use Rattle.run_books.specs.Stages.{stage_by}

-- ---- one event

-- a doubt, with all written, stays so
doubted-next : (o : Outset) (r : Run) (e : CoreEvent) (counts : Channel → ℕ) → is_settling e ≡ false → HasDoubted o r counts → HasDoubted o (extended r (e ∷ [])) counts
doubted-next o r e counts other d =
    let at = doubt-ends r d.doubt in
    let stays = doubt-stays r (e ∷ []) at.0 at.1 in
    let leaves = others-leave r e other in
    record {
      doubt = doubt_left (extended r (e ∷ [])) at.0 (stays.doubt ∙ at.1);
      written = subst (λ (n : ℕ). length (ends (extended r (e ∷ []))).manager.settled ≤ n) (sym leaves.emitted)
          (subst (λ (l : List Entry). length l ≤ (ends r).manager.emitted) (sym stays.settled) d.written);
      rose = d.rose;
    }

-- nothing is in doubt by others' events
sure-next : (r : Run) (e : CoreEvent) → is_settling e ≡ false → (RunHasDoubt r → ⊥) → RunHasDoubt (extended r (e ∷ [])) → ⊥
sure-next r e other sure d = let there = doubt-ends (extended r (e ∷ [])) d in sure (doubt_left r there.0 (sym (others-leave r e other).doubt ∙ there.1))

-- a grain that wasn't brought into memory, since its file failed, stays so
unloaded-next : (o : Outset) (r : Run) (e : CoreEvent) (counts : Channel → ℕ) (file : FileId) → is_settling e ≡ false → HasFailedToLoad o r counts file → HasFailedToLoad o (extended r (e ∷ [])) counts file
unloaded-next o r e counts file other u =
    let at : ℕ = u.unloaded.0 in
    let low : at ≤ length r.events = u.unloaded.1 in
    let longer : length (r.events ++ (e ∷ [])) ≡ length r.events + 1 = length-append r.events (e ∷ []) in
    let same : take at (r.events ++ (e ∷ [])) ≡ take at r.events = take-append-le at r.events (e ∷ []) low in
    record {
      grain = u.grain;
      file_is = u.file_is;
      unloaded = (at, omega (arith, low, longer), ap (λ (es : List CoreEvent). next_wanted (run (begins r) es)) same ∙ u.unloaded.2);
      sure = sure-next r e other u.sure;
      rose = u.rose;
    }

-- and one whose version didn't stand at its place
found-next : (tells : Bool) (r : Run) (e : CoreEvent) → is_settling e ≡ false → HasFoundNone tells r → HasFoundNone tells (extended r (e ∷ []))
found-next tells r e other u = record { untold = u.untold; sure = sure-next r e other u.sure }

-- The books go on, and of a line as much is cut off.
record GoesStill (tells : Bool) (o : Outset) (b : Books) (r r' : Run) (settler : Settler) (counts : Channel → ℕ) (now : World) : Type 0 where
  goes : BooksGoOn tells o b (stage_by r settler counts now) (stage_by r' settler counts now)
  rest : goes.books.rest ≡ b.rest

-- ---- entries

-- an event that leaves the settler is none of its own
is-other : (e : CoreEvent) → leaves_settling e ≡ true → is_settling e ≡ false
is-other e = by (is_settling e)
  where
    by : (x : Bool) → not x ≡ true → x ≡ false
    by true q = absurd (true≢false (sym q))
    by false q = refl

-- others' entries keep a doubt
pub doubted-on : (o : Outset) (rest : List Told) (r : Run) (counts : Channel → ℕ) → AllPass leaves_settling rest → HasDoubted o r counts → HasDoubted o (run_after r rest) counts
doubted-on o [] r counts all d = d
doubted-on o (x ∷ rest) r counts all d =
    doubted-on o rest (extended r (x.event ∷ [])) counts (λ y i. all y (inr i)) (doubted-next o r x.event counts (is-other x.event (all x (inl refl))) d)

-- and a grain that wasn't brought into memory
unloaded-on : (o : Outset) (rest : List Told) (r : Run) (counts : Channel → ℕ) → AllPass leaves_settling rest → (file : FileId) → HasFailedToLoad o r counts file → HasFailedToLoad o (run_after r rest) counts file
unloaded-on o [] r counts all file u = u
unloaded-on o (x ∷ rest) r counts all file u =
    unloaded-on o rest (extended r (x.event ∷ [])) counts (λ y i. all y (inr i)) file (unloaded-next o r x.event counts file (is-other x.event (all x (inl refl))) u)

found-on : (tells : Bool) (rest : List Told) (r : Run) → AllPass leaves_settling rest → HasFoundNone tells r → HasFoundNone tells (run_after r rest)
found-on tells [] r all u = u
found-on tells (x ∷ rest) r all u = found-on tells rest (extended r (x.event ∷ [])) (λ y i. all y (inr i)) (found-next tells r x.event (is-other x.event (all x (inl refl))) u)

-- and the books
goes-still : (tells : Bool) (o : Outset) (rest : List Told) (b : Books) (r : Run) (settler : Settler) (counts : Channel → ℕ) (now : World) → 0 < r.base → KeepsUnitRule (basis_of o) (run_after r rest)
    → AllPass leaves_settling rest → KeepsBooks tells o b (stage_by r settler counts now) → GoesStill tells o b r (run_after r rest) settler counts now
goes-still tells o [] b r settler counts now above units all k = record { goes = record { books = b; kept = k; lasts = λ t head l. l }; rest = refl }
goes-still tells o (x ∷ rest) b r settler counts now above units all k =
    let one = others-still tells o b r x.event settler counts now above (after-units r (x ∷ rest) (basis_of o) units) (after-units (extended r (x.event ∷ [])) rest (basis_of o) units)
    (is-other x.event (all x (inl refl))) k in
    let more = goes-still tells o rest one.0.books (extended r (x.event ∷ [])) settler counts now above units (λ y i. all y (inr i)) one.0.kept in
    record {
      goes = record { books = more.goes.books; kept = more.goes.kept; lasts = λ t head l. more.goes.lasts t head (one.0.lasts t head l) };
      rest = more.rest ∙ one.1;
    }

-- so what a fault says of them stays
module _ (tells : Bool) (o : Outset) (b : Books) (r r' : Run) (rest : List Told) (settler settler' : Settler) (counts counts' : Channel → ℕ) (now now' : World) (above : 0 < r'.base) (units : KeepsUnitRule (basis_of o) (run_after r' rest))
    (all : AllPass leaves_settling rest) where
  pub fault-on : {T : Type 0} (f : RunFault) → SettledAmong {T = T} tells o b (stage_by r settler counts now) (stage_by r' settler' counts' now') (Err f) → SettledAmong {T = T} tells o b (stage_by r settler counts now) (stage_by (run_after r' rest) settler' counts' now') (Err f)
  fault-on {T} f g =
      let more = goes-still tells o rest g.goes.books r' settler' counts' now' above units all g.goes.kept in
      record {
        goes = record { books = more.goes.books; kept = more.goes.kept; lasts = λ t head l. more.goes.lasts t head (g.goes.lasts t head l) };
        says = by f more g.says;
      }
    where
      by : (x : RunFault) (m : GoesStill tells o g.goes.books r' (run_after r' rest) settler' counts' now') → SaysAmong tells o g.goes.books (stage_by r' settler' counts' now') {T = T} (Err x)
          → SaysAmong tells o m.goes.books (stage_by (run_after r' rest) settler' counts' now') {T = T} (Err x)
      by InDoubt m e = (doubted-on o rest r' counts' all e.0, m.rest ∙ e.1)
      by WriteFault m e = e
      by Memory m e = m.rest ∙ e
      by (LoadFault file) m e = (unloaded-on o rest r' counts' all file e.0, m.rest ∙ e.1)
      by (LoadDamaged file place) m e = (found-on tells rest r' all e.0, m.rest ∙ e.1)

-- ---- a stop behind a fault

-- what workers put leaves the settler
work-leaves : (e : CoreEvent) → is_work e ≡ true → leaves_settling e ≡ true
work-leaves e q = by (is_settling e) refl
  where
    by : (x : Bool) → is_settling e ≡ x → not x ≡ true
    by true s = absurd (true≢false (sym s ∙ work-settles e q))
    by false s = refl

module _ {T : Type 0} (tells : Bool) (o : Outset) (b : Books) (r : Run) (may : CoreEvent → Bool) (t u : Sight) (settler settler' : Settler) (counts counts' : Channel → ℕ) (now now' : World) (f : RunFault)
    (above : 0 < t.first.base) (counted : Counts t) (rely : MayRely o u) (g : SettledAmong {T = T} tells o b (stage_by r settler counts now) (stage_by (run_seen t) settler' counts' now') (Err f)) where
  -- behind these entries
  behind : (rest : List Told) → run_seen u ≡ run_after (run_seen t) rest → AllPass leaves_settling rest → SettledAmong {T = T} tells o b (stage_by r settler counts now) (stage_by (run_seen u) settler' counts' now') (Err f)
  behind rest is all =
      subst (λ (x : Run). SettledAmong {T = T} tells o b (stage_by r settler counts now) (stage_by x settler' counts' now') (Err f)) (sym is)
      (fault-on tells o b r (run_seen t) rest settler settler' counts counts' now now' (subst (λ (n : ℕ). 0 < n) (sym (after-base t.seen t.first)) above)
      (subst (KeepsUnitRule (basis_of o)) is rely.units) all f g)

  -- behind a look
  pub looked-on : Looks may t u → SettledAmong {T = T} tells o b (stage_by r settler counts now) (stage_by (run_seen u) settler' counts' now') (Err f)
  looked-on l =
      let was = looks-before is_work may t u counted l rely.alone in
      behind l.rest (ap run_seen l.sight ∙ run-on t.seen l.rest t.first) (λ x i. work-leaves x.event (was.1 x i))

  -- and behind a stop
  pub stopped-on : (y : CoreReply) → Tells may t Halt y u → SettledAmong {T = T} tells o b (stage_by r settler counts now) (stage_by (run_seen u) settler' counts' now') (Err f)
  stopped-on y l =
      let was = tells-before is_work may t u counted Halt y l rely.alone in
      let last : Told = entry t.number Halt y in
      behind (l.rest ++ (last ∷ []))
      (ap run_seen l.sight ∙ (run-on (t.seen ++ l.rest) (last ∷ []) t.first ∙ ap (λ (x : Run). run_after x (last ∷ [])) (run-on t.seen l.rest t.first)) ∙ sym (run-on l.rest (last ∷ []) (run_seen t)))
      (pass-append leaves_settling l.rest (last ∷ []) (λ x i. work-leaves x.event (was.1 x i)) (λ x i. ⊎_elim (λ (is : x ≡ last). ap (λ (z : Told). leaves_settling z.event) is) (λ j. absurd j) i))
