-- Where the turns of a run begin: there is no event yet, and nothing is settled.
use Rattle.std.proofs.Common.{◌≡◌, inl, ℕ, ◌+◌, ◌*◌, ◌-◌, ◌^◌, ◌<◌, ◌≤◌, Bool, true, false, List, [], length, IsTrue, refl, sym, ◌∙◌, ap, subst, arith, append-nil}
use Rattle.std.proofs.Math.Nat.{min-le_left}
use Rattle.host_trait.specs.declared.channels.Channel.{Channel}
use Rattle.host_trait.specs.declared.channels.Channel.TheVariants.{File}
use Rattle.host_trait.specs.declared.channels.FileId.TheVariants.{Manager, Grain}
use Rattle.host_trait.specs.World.{World}
use Rattle.request_wire.specs.declared.requests.Line.{Line}
use Rattle.script_tree.specs.Programs.{ProgramTree}
use Rattle.core_model.specs.CoreState.{GrainId, Value}
use Rattle.core_model.specs.declared.events.CoreEvent.{CoreEvent}
use Rattle.core_model.specs.LegalRuns.{Run, ends}
use Rattle.promise_spec.specs.Cores.{AppliesAt, memory_limit}
use Rattle.promise_spec.specs.Lines.{ReadsLineAs}
use Rattle.promise_spec.specs.Causes.{RoseBy}
use Rattle.promise_spec.specs.TurnRule.{at_seam}
use Rattle.settle_loop.specs.declared.settler.Settler.{Settler}
use Rattle.run_books.specs.Beginnings.{Outset, CanTurn, IsOutset}
use Rattle.run_books.specs.Books.{Books, IsPutOut}
use Rattle.run_books.specs.Places.{KeepsVersions}
use Rattle.run_books.specs.Records.{HasCarriedAll}
use Rattle.interleaver.specs.Turns.{KeepsTurns, IsFreshRecord}
use Rattle.input_windows.specs.Pulls.{PulledOnly}
use Rattle.silo_top.proofs.InputPieces.{still_file}
use Rattle.silo_top.proofs.ReadLines.{AreReadFrom, as_many, go_up, read_as}
use Rattle.run_books.specs.Stages.{stage_by}

-- a run of the core without events
abbrev pub start_run : ℕ → ℕ → (GrainId → List Value) → Run
start_run base kinds opening = record { base = base; kinds = kinds; capacity = memory_limit; opening = opening; events = [] }

-- books without settlements
abbrev pub no_books : Books
no_books = record { said = []; unsaid = []; doubted = []; rest = [] }

-- no event applies where there is none
pub none_applies : (base kinds : ℕ) (opening : GrainId → List Value) (at : ℕ) (e : CoreEvent) → AppliesAt (start_run base kinds opening) at e → ⊥
none_applies base kinds opening at e a = cc a.there

-- no fault shows where there is no event
pub rose_none : (old new : ℕ) → old ≤ new → RoseBy 0 old new
rose_none old new later = omega (arith, min-le_left (old + 0) (2 ^ 64 - 1), later)

-- no sync was asked for
no_syncs : (n m : ℕ) → n ≡ m → n ≡ m + (0 + 2 * 0)
no_syncs n m is = omega (arith, is)

few_syncs : (n m : ℕ) → n ≡ m → n ≤ m + (0 + 2 * (0 + 0))
few_syncs n m is = omega (arith, is)

module _ (base kinds : ℕ) (opening : GrainId → List Value) where
  abbrev r : Run
  r = start_run base kinds opening

  -- nothing was put out
  none_put : (quiet : Bool) → IsPutOut quiet no_books (ends r)
  none_put true = refl
  none_put false = inl refl

  -- the record holds
  pub starts_kept : (tells : Bool) (o : Outset) (s : Settler) (counts : Channel → ℕ) (now : World) → 0 < base → ((c : Channel) → o.faults c ≤ counts c)
      → s.written ≡ 0 → s.doubted ≡ false → s.writer.in_doubt ≡ false → s.writer.slot ≡ o.live
      → (IsTrue tells → KeepsVersions o no_books (start_run base kinds opening) s.writer now.disk) → (IsTrue tells → PulledOnly o.world now) → KeepsTurns tells o no_books (stage_by r s counts now)
  starts_kept tells o s counts now above later written sure sealing slot versions outside = record {
    above = above;
    units = λ at e a. absurd (none_applies base kinds opening at e a);
    turns = λ ruled at e a. absurd (none_applies base kinds opening at e a);
    books = record {
      faults = record {
        votes = λ g. rose_none (o.faults (File (Grain o.live g))) (counts (File (Grain o.live g))) (later (File (Grain o.live g)));
        seals = rose_none (o.faults (File (Manager o.live))) (counts (File (Manager o.live))) (later (File (Manager o.live)));
      };
      later = later;
      booked = record { commits = tt; entries = refl; doubted = tt };
      said = none_put s.quiet;
      cut = inl refl;
      slot = slot;
      doubt = sure;
      unsure = sealing ∙ sym sure;
      written = written;
      versions = versions;
      outside = λ told. record {
        output = record { output = (outside told).output ∙ sym (append-nil o.world.output); unended = tt; proper = tt };
        calls = record {
          each = λ none. no_syncs now.syncs o.world.syncs (outside told).syncs;
          most = few_syncs now.syncs o.world.syncs (outside told).syncs;
          unvoted = λ g none. still_file (Grain o.live g) o.world now (outside told);
        };
      };
    };
  }

  -- nobody moves, and the lines are those that were read
  pub starts_quiet : (types : ProgramTree) (texts : List (List ℕ)) (lines : List Line) (s : Settler) → AreReadFrom types 0 texts lines → s.doubted ≡ false → s.written ≡ 0
      → CanTurn r s lines
  starts_quiet types texts lines s are sure written = record {
    quiet = record {
      settled = λ u begun. absurd (begun refl);
      free = λ u g h there is. there;
      none = refl;
      written = omega arith;
    };
    going = (refl, refl);
    rests = refl;
    numbers = go_up types 0 texts lines are;
    sure = sure;
    written = written;
  }

  pub starts_fresh : (o : Outset) → IsFreshRecord o no_books 0 r
  starts_fresh o = record { picks = λ ruled. refl; doubted = refl; rest = refl }

  -- and what is told from outside is theirs
  pub starts_outset : (o : Outset) (types : ProgramTree) (texts : List (List ℕ)) (lines : List Line) (width : ℕ) (picks : List ℕ) → AreReadFrom types 0 texts lines → kinds ≡ length types
      → o.program.types ≡ types → o.asked ≡ texts → o.width ≡ width → 0 < width → o.picks ≡ picks → ((n : ℕ) → 0 < n → n < length o.asked → at_seam o.windowed n ≡ false) → IsOutset o types r lines width picks
  starts_outset o types texts lines width picks are kinds_is types_are asked width_is wide picks_are inner = record {
    types_are = types_are;
    kinds = kinds_is;
    width_is = width_is;
    wide = wide;
    picks_are = picks_are;
    all = omega (arith, ap length asked, as_many types 0 texts lines are);
    reads = λ at line is. subst (λ (l : List (List ℕ)). ReadsLineAs types l (0 + at + 1) line.what) (sym asked) (read_as types texts lines are at line is);
    inner = inner;
  }

  -- all of no lines is carried
  pub starts_carried : (o : Outset) (s : Settler) (counts : Channel → ℕ) (now : World) → o.asked ≡ [] → s.written ≡ 0 → HasCarriedAll o (stage_by r s counts now)
  starts_carried o s counts now none written = record {
    run = record {
      quiet = record {
        settled = λ u begun. absurd (begun refl);
        free = λ u g h there is. there;
        none = refl;
        written = omega arith;
      };
      answered = λ n low high. (let zero_is = ap length none in absurd (omega (arith, low, high, zero_is)));
    };
    none = refl;
    never = λ d. none_applies base kinds opening d.at _ d.doubt;
    unstopped = refl;
    rests = refl;
    written = written;
  }
