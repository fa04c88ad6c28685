-- What is left is settled alone, and then all is done.
use Rattle.std.proofs.Common.{◌≡◌, inl, inr, ℕ, ◌≤◌, ◌<◌, Option, Some, None, List, [], ◌∷◌, ◌++◌, Bool, false, true≢false, refl, sym, ◌∙◌, subst, arith}
use Rattle.std.specs.Prelude.{Result, Ok, Err, is_some}
use Rattle.base_types.specs.declared.shapes.Shape.{Shape}
use Rattle.base_types.specs.Lists.{Member}
use Rattle.host_trait.specs.declared.channels.Channel.{Channel}
use Rattle.host_trait.specs.World.{World}
use Rattle.core_model.specs.LockAnswers.{IsGoing}
use Rattle.core_model.specs.CoreState.{UnitNo}
use Rattle.core_model.specs.LegalRuns.{Run, ends}
use Rattle.core_model.specs.Settler.{settler_step, Rests}
use Rattle.turn_cell.proofs.Lists.{in_right}
use Rattle.turn_cell.proofs.Histories.{legal_back}
use Rattle.turn_rules.specs.NextEvent.{with_event}
use Rattle.core_access.specs.Histories.{Told, reply_in, run_after, IsTrue as IsHistoryOf}
use Rattle.core_access.specs.OneHolder.{own_sight}
use Rattle.core_access.proofs.OneHolder.{own-run, own-history}
use Rattle.promise_spec.specs.Cores.{HasBegun}
use Rattle.promise_spec.specs.UnitRule.{Basis, KeepsUnitRule}
use Rattle.worker_rules.proofs.CallPromises.{settling-none}
use Rattle.settle_loop.specs.declared.settler.Settler.{Settler}
use Rattle.run_books.specs.declared.faults.RunFault.{RunFault}
use Rattle.run_books.specs.declared.faults.RunFault.TheVariants.{InDoubt, WriteFault, Memory, LoadFault, LoadDamaged}
use Rattle.run_books.specs.Beginnings.{Outset, basis_of}
use Rattle.run_books.specs.Books.{Books}
use Rattle.run_books.specs.Records.{HasCarriedAll, TurnsEndAs, RecordGoesOn}
use Rattle.shared_settling.specs.SharedSettler.{SettlesAmong, CanSettleRest, SaysAmong, SettledAmong}
use Rattle.shared_settling.proofs.LoneSettler.{settling-may, run-own}
use Rattle.shared_settling.proofs.RunEnds.{carried-all}
use Rattle.history_core.specs.Cores.{HasFewNumbers}
use Rattle.worker_rules.specs.ClosedCore.{IsOverAndFree}
use Rattle.worker_rules.proofs.Growth.{going-before, lines-after}
use Rattle.worker_rules.proofs.JoinedHistories.{Story, begun-after, none-began, reply-there, settles-no-begin, done-after}
use Rattle.silo_workers.specs.RunEnd.{HasGathered}
use Rattle.silo_workers.specs.declared.work.WorkEnd.{WorkEnd}
use Rattle.silo_workers.specs.declared.work.WorkEnd.TheVariants.{Through}
use Rattle.run_books.specs.Stages.{Stage, stage_by}

-- nothing is not something
some-not : {A : Type 0} (x : Option A) → false ≡ is_some x → x ≡ None
some-not None q = refl
some-not (Some a) q = absurd (true≢false (sym q))

-- ---- a core that was settled alone

module _ (r r' : Run) (among : SettlesAmong (own_sight r) (own_sight r')) where
  rest-is : r' ≡ run_after r among.own
  rest-is = run-own r r' among

  rest-true : IsHistoryOf r among.own
  rest-true =
      let whole : IsHistoryOf (own_sight r).first ((own_sight r).mine ++ among.own) = subst (IsHistoryOf (own_sight r).first) among.mine (subst (λ (x : Run). IsHistoryOf x (own_sight r').mine) among.on.first (own-history r')) in
      subst (λ (x : Run). IsHistoryOf x among.own) (own-run r) (legal_back _ reply_in (own_sight r).first (own_sight r).mine among.own whole)

  module _ (b : Basis) (above : 0 < r.base) (units : KeepsUnitRule b r) where
    rest-story : Story b r among.own
    rest-story = record {
      above = above;
      rule = units;
      ruled = λ before e rest q. settling-may b (run_after r before) e.event (among.settling e (subst (Member e) (sym q) (in_right e before (e ∷ rest) (inl refl))));
      legal = rest-true;
    }

    -- no unit begins there
    rest-begun : (u : UnitNo) → HasBegun (ends r') u → HasBegun (ends r) u
    rest-begun u born = elim (begun-after b among.own r u rest-story (subst (λ (x : Run). HasBegun (ends x) u) rest-is born)) [
      | inl old ↦ old
      | inr y ↦ (let there = reply-there among.own r y.0 rest-true y.1 in absurd (none-began there.0 y.0.event u (settles-no-begin y.0.event (among.settling y.0 y.1)) (sym there.1 ∙ y.2)))
    ]

    -- and who was done is
    rest-done : (u : UnitNo) → IsOverAndFree u r → IsOverAndFree u r'
    rest-done u done = subst (IsOverAndFree u) (sym rest-is) (done-after b among.own r u rest-story (λ x i. settling-none x.event (among.settling x i) u) done)

    rest-going : IsGoing (ends r') → IsGoing (ends r)
    rest-going going = going-before among.own r (subst (λ (x : Run). IsGoing (ends x)) rest-is going)

    rest-lines : (ends r).units.lines ≤ (ends r').units.lines
    rest-lines = subst (λ (x : Run). (ends r).units.lines ≤ (ends x).units.lines) (sym rest-is) (lines-after among.own r)

-- ---- how it ends

module _ {T : Type 0} (tells : Bool) (o : Outset) (b : Books) (shape : Shape) (s : Stage) (r' : Run) (after : Settler) (counts' : Channel → ℕ) (now' : World) where
  -- where a fault was told, or memory was wanting
  pub fault-ends : {U : Type 0} (end : WorkEnd) (f : RunFault) → HasGathered {T = T} tells o b shape s (stage_by r' after counts' now') end (Err f) → RecordGoesOn {T = U} tells o b s (stage_by r' after counts' now') (Err f)
  fault-ends {U} end f h = record {
    books = h.books.goes.books;
    record_kept = record { above = h.program.above; units = h.units; books = h.books.goes.kept };
    lasts = h.books.goes.lasts;
    ended = by f h.books.says;
  }
    where
      by : (x : RunFault) → SaysAmong tells o h.books.goes.books (stage_by r' after counts' now') {T = T} (Err x) → TurnsEndAs tells o h.books.goes.books (stage_by r' after counts' now') {T = U} (Err x)
      by InDoubt e = e
      by WriteFault e = e
      by Memory e = e
      by (LoadFault file) e = e
      by (LoadDamaged file place) e = e

  pub lacking-ends : {U : Type 0} (end : WorkEnd) (done : T) → HasGathered {T = T} tells o b shape s (stage_by r' after counts' now') end (Ok done) → RecordGoesOn {T = U} tells o b s (stage_by r' after counts' now') (Err Memory)
  lacking-ends end done h = record {
    books = h.books.goes.books;
    record_kept = record { above = h.program.above; units = h.units; books = h.books.goes.kept };
    lasts = h.books.goes.lasts;
    ended = h.books.says.0.rest;
  }

  -- where what is left is settled
  module _ (done : T) (r'' : Run) (last : Settler) (counts'' : Channel → ℕ) (now'' : World) (h : HasGathered {T = T} tells o b shape s (stage_by r' after counts' now') Through (Ok done)) (few : HasFewNumbers (ends r')) where
    pub can-rest : CanSettleRest o shape r'
    can-rest = record {
      above = h.program.above;
      units = h.units;
      kinds = h.program.kinds;
      shape_is = h.program.shape_is;
      accepted = h.program.accepted;
      few = few.units;
      small = few.lines;
      going = h.books.says.1;
    }

    module _ {U : Type 0} (result : Result U RunFault) (among : SettlesAmong (own_sight r') (own_sight r'')) (units : KeepsUnitRule (basis_of o) r'')
        (g : SettledAmong {T = U} tells o h.books.goes.books (stage_by r' after counts' now') (stage_by r'' last counts'' now'') result) (rests : (x : U) → result ≡ Ok x → (settler_step (ends r'') ≡ Rests) × (last.doubted ≡ false)) where
      above' : 0 < r''.base
      above' = subst (λ (x : Run). 0 < x.base) (sym (rest-is r' r'' among)) (subst (λ (n : ℕ). 0 < n) (sym (base-on among.own r')) h.program.above)
        where
          base-on : (l : List Told) (x : Run) → (run_after x l).base ≡ x.base
          base-on [] x = refl
          base-on (y ∷ l) x = base-on l (with_event x y.event)

      carried : (x : U) → result ≡ Ok x → HasCarriedAll o (stage_by r'' last counts'' now'')
      carried x is =
          let says : SaysAmong tells o g.goes.books (stage_by r'' last counts'' now'') {T = U} (Ok x) = subst (SaysAmong tells o g.goes.books (stage_by r'' last counts'' now'')) is g.says in
          let sure : (ends r'').manager.doubt ≡ None = some-not (ends r'').manager.doubt (sym (rests x is).1 ∙ g.goes.kept.doubt) in
          let going : IsGoing (ends r'') = (sure, says.1) in
          carried-all tells o g.goes.books (stage_by r'' last counts'' now'') above' units g.goes.kept record {
            units = λ u born. rest-done r' r'' among (basis_of o) h.program.above h.units u (h.done refl u (rest-begun r' r'' among (basis_of o) h.program.above h.units u born)) going;
            lines = (let le = h.lines refl (rest-going r' r'' among (basis_of o) h.program.above h.units going) in let more = rest-lines r' r'' among (basis_of o) h.program.above h.units in omega (arith, le, more));
            going = says.1;
            sure = sure;
            rests = (rests x is).0;
          }

      ended : (x : Result U RunFault) → result ≡ x → SaysAmong tells o g.goes.books (stage_by r'' last counts'' now'') x → TurnsEndAs tells o g.goes.books (stage_by r'' last counts'' now'') x
      ended (Ok x) is e = (carried x is, e.0.rest)
      ended (Err InDoubt) is e = e
      ended (Err WriteFault) is e = e
      ended (Err Memory) is e = e
      ended (Err (LoadFault file)) is e = e
      ended (Err (LoadDamaged file place)) is e = e

      pub rest-ends : RecordGoesOn {T = U} tells o b s (stage_by r'' last counts'' now'') result
      rest-ends = record {
        books = g.goes.books;
        record_kept = record { above = above'; units = units; books = g.goes.kept };
        lasts = λ t head l. g.goes.lasts t head (h.books.goes.lasts t head l);
        ended = ended result refl g.says;
      }
