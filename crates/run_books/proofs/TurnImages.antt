-- What the images keep of the turns' books is what has to last of a whole run.
use Rattle.std.proofs.Common.{◌≡◌, ◌≢◌, ℕ, List, [], ◌∷◌, ◌++◌, map, Bool, true, inl, inr, ⊎_elim, refl, sym, ap, ◌∙◌, subst, append-nil}
use Rattle.std.specs.Prelude.{IsTrue, ◌+◌, take, drop, false, Option, Some, None, is_some}
use Rattle.std.specs.List.{AllByRecursion}
use Rattle.host_trait.specs.declared.channels.FileId.{FileId}
use Rattle.host_trait.specs.declared.channels.FileId.TheVariants.{Program as ProgramFile, Manager, Grain}
use Rattle.host_trait.specs.Disk.{FileState}
use Rattle.host_trait.specs.World.{Moment, Image, IsImage, moment_of}
use Rattle.host_trait.proofs.Moments.{weaker}
use Rattle.core_model.specs.CoreState.{CoreState}
use Rattle.core_model.specs.declared.effects.Effect.{Effect}
use Rattle.core_model.specs.SerialOrder.{chosen}
use Rattle.core_model.specs.LegalRuns.{Run, ends}
use Rattle.core_model.specs.declared.events.CoreEvent.TheVariants.{Doubt}
use Rattle.gate_block.specs.Log.{gate_of}
use Rattle.gate_block.proofs.Logs.{logged}
use Rattle.promise_spec.specs.Entries.{Log, grown}
use Rattle.promise_spec.specs.Records.{Commit, AreRecordsOf}
use Rattle.promise_spec.specs.Logs.{IsLog}
use Rattle.promise_spec.specs.Programs.{shape_in}
use Rattle.promise_spec.specs.Outputs.{IsProper}
use Rattle.promise_spec.specs.Crashes.{IsAside, LeavesAlone}
use Rattle.promise_spec.specs.Cores.{how_many}
use Rattle.promise_spec.specs.Causes.{RunHasDoubt, is_unsealed}
use Rattle.promise_spec.specs.Exits.{AreOf, units_in_doubt, BlockInDoubt, EndsAsRead}
use Rattle.promise_spec.specs.Journals.{Settlement, CutAt, Backs, commits_of, entries_of}
use Rattle.promise_spec.specs.Courses.{Observed, Course, order, core_run, core_end, seen_at_entry}
use Rattle.promise_spec.proofs.Doubts.{doubt_left}
use Rattle.promise_laws.proofs.AppliedEvents.{none-applies}
use Rattle.promise_laws.specs.Closings.{IsBehind, ReadsMayStay, AllEnd, Carries}
use Rattle.promise_laws.specs.Obligations.{Opens, Lasts}
use Rattle.promise_laws.proofs.KeptRuns.{whole_lasts, doubt_lasts}
use Rattle.settle_loop.specs.declared.settler.Settler.{Settler}
use Rattle.batch_disk.specs.ImagesAtRest.{SomeImage}
use Rattle.batch_disk.specs.declared.writer.BatchWriter.{BatchWriter}
use Rattle.run_books.specs.Beginnings.{Outset}
use Rattle.run_books.specs.Books.{Books, booked_journal, AreInDoubt}
use Rattle.run_books.specs.Images.{LeavesAside, HasOpenBlock, LastsSo}
use Rattle.run_books.specs.Records.{KeepsRecord}
use Rattle.run_books.specs.RunCourse.{IsCourseOf}
use Rattle.run_books.specs.Stages.{stage_by}

-- a file that is left alone isn't the live manager file
not-live : (live : ℕ) (file : FileId) → IsAside live file → file ≢ Manager live
not-live live (ProgramFile slot) is q = absurd cc
not-live live (Manager slot) is q = is (same slot live q)
  where
    same : (a b : ℕ) → Manager a ≡ Manager b → a ≡ b
    same a b t = cc
not-live live (Grain slot grain) is q = absurd cc

-- the records of units name them
units-named : (es : List Effect) (ls : List Commit) → AreRecordsOf es ls → map (λ (l : Commit). l.logged.unit) ls ≡ map (λ (e : Effect). e.unit) es
units-named [] [] p = refl
units-named [] (l ∷ ls) p = absurd p
units-named (e ∷ es) [] p = absurd p
units-named (e ∷ es) (l ∷ ls) p = (λ i. p.0.unit i ∷ units-named es ls p.1 i)

module _ (o : Outset) (head : List ℕ) (b : Books) (r : Run) (writer : BatchWriter) (seen : Observed) (c : Course)
    (l : LastsSo o head b r writer seen.new) (is : IsCourseOf o b r seen c) (heads : head ≡ take 15 (seen_at_entry seen (Manager c.live))) (behind : IsBehind seen c o.world)
    (sure : how_many is_unsealed r ≡ 0 → writer.in_doubt ≡ false) where
  end : ends r ≡ core_end o.program c
  end = ap ends (sym is.run)

  order-is : grown o.opening (commits_of (booked_journal b)) ≡ order c
  order-is = (λ i. grown (sym is.opening i) (sym is.added i))

  alone-at : (m : Moment) → LeavesAside o.live head o.world m → LeavesAlone c.live seen m
  alone-at m a =
      let b : LeavesAside c.live head o.world m = subst (λ (live : ℕ). LeavesAside live head o.world m) (sym is.live) a in
      record {
        aside = λ file aside. b.aside file aside ∙ behind.others file (not-live c.live file aside);
        header = λ image left. b.header image left ∙ heads;
      }

  end-at : (m : Moment) → AllEnd o.live (ends r) o.opening m → AllEnd c.live (core_end o.program c) c.opening m
  end-at m a =
      subst (λ (live : ℕ). AllEnd live (core_end o.program c) c.opening m) (sym is.live)
      (subst (λ (log : Log). AllEnd o.live (core_end o.program c) log m) (sym is.opening) (subst (λ (w : CoreState). AllEnd o.live w o.opening m) end a))

  block-of : HasOpenBlock o.live (grown o.opening (commits_of (booked_journal b))) (ends r) seen.new.disk → BlockInDoubt c.live seen c (core_end o.program c)
  block-of open_block =
      let h : HasOpenBlock c.live (grown o.opening (commits_of (booked_journal b))) (ends r) seen.new.disk =
      subst (λ (live : ℕ). HasOpenBlock live (grown o.opening (commits_of (booked_journal b))) (ends r) seen.new.disk) (sym is.live) open_block in
      record {
        gate = h.gate;
        batch = h.batch;
        before = h.before;
        bodies = h.bodies;
        records = subst (λ (w : CoreState). AreRecordsOf (chosen w) h.batch) end h.records;
        log = ⊎_elim (λ q. inl (sym order-is ∙ q)) (λ q. inr (sym order-is ∙ q)) h.log_is;
        reached = h.reached;
        session = h.session;
        follows = h.follows;
        front = h.front;
        block = h.block;
        differ = h.differ;
      }

  -- where no batch failed to be sealed, nothing was left behind the log
  ends-as-read : how_many is_unsealed (core_run o.program c) ≡ 0 → (image : Image) → IsImage seen.new.disk image → EndsAsRead c.live seen image
  ends-as-read none image left =
      let before : how_many is_unsealed r ≡ 0 = ap (how_many is_unsealed) (sym is.run) ∙ none in
      let f = l.folder (sure before) in
      let gate : gate_of (image (Manager o.live)) ≡ writer.gate_at = (let rest = f.keeps.images image left in
      (logged f.bodies writer.gate_at (image (Manager o.live)) (record { blocks = rest.stands.stand; closed = rest.closed })).1) in
      let begun : (o.world.disk (Manager o.live)).seen ≡ seen_at_entry seen (Manager o.live) =
      subst (λ (live : ℕ). (o.world.disk (Manager live)).seen ≡ seen_at_entry seen (Manager live)) is.live (ap (λ (s : FileState). s.seen) behind.settled) in
      subst (λ (live : ℕ). EndsAsRead live seen image) (sym is.live)
      (ap (λ (n : ℕ). drop (n + 1) (image (Manager o.live))) gate ∙ f.behind before (image (Manager o.live)) (left (Manager o.live)) ∙ (λ i. drop (sym gate i + 1) (begun i)))

  carries : (journal : List Settlement) → booked_journal b ≡ journal → Carries o.program seen c o.world journal
  carries journal q = record {
    commits = is.added ∙ ap commits_of q;
    backs = subst (λ (j : List Settlement). Backs j c.added) q (subst (Backs (booked_journal b)) (sym is.added) l.backs);
    batches = weaker (AllEnd o.live (ends r) o.opening) (AllEnd c.live (core_end o.program c) c.opening) end-at l.batches;
    batches_now = end-at (moment_of seen.new) l.batches_now;
    alone = weaker (LeavesAside o.live head o.world) (LeavesAlone c.live seen) alone-at l.alone;
    alone_now = alone-at (moment_of seen.new) l.alone_now;
    block = λ d. block-of (l.block (subst RunHasDoubt is.run d));
    behind = ends-as-read;
  }

  cut-of : (doubted : List Settlement) → b.doubted ≡ doubted → CutAt c.live o.program c.opening o.world b.said b.unsaid doubted c.rest seen.new
  cut-of doubted q =
      subst (λ (d : List Settlement). CutAt c.live o.program c.opening o.world b.said b.unsaid d c.rest seen.new) q
      (subst (λ (rest : List ℕ). CutAt c.live o.program c.opening o.world b.said b.unsaid b.doubted rest seen.new) (sym is.rest)
      (subst (λ (log : Log). CutAt c.live o.program log o.world b.said b.unsaid b.doubted b.rest seen.new) (sym is.opening)
      (subst (λ (live : ℕ). CutAt live o.program o.opening o.world b.said b.unsaid b.doubted b.rest seen.new) (sym is.live) l.journal)))

  module _ (opens : Opens seen c) (stay : ReadsMayStay seen.new) (proper : AllByRecursion (IsProper (shape_in o.program)) (entries_of b.said)) where
    lasts-by : (doubted : List Settlement) → b.doubted ≡ doubted → AreInDoubt (ends r) doubted → Lasts o.program seen c
    lasts-by [] q d =
        whole_lasts o.program seen c o.world behind b.said b.unsaid opens stay (cut-of [] q) is.entries proper
        (carries (b.said ++ b.unsaid) (ap (λ (x : List Settlement). (b.said ++ b.unsaid) ++ x) q ∙ append-nil (b.said ++ b.unsaid)))
    lasts-by (batch ∷ []) q d =
        let some : SomeImage (λ image. IsLog o.live image (grown o.opening (commits_of (booked_journal b)))) seen.new.disk = l.some (λ none. is-some batch (sym q ∙ none)) in
        doubt_lasts o.program seen c o.world behind b.said b.unsaid batch some.image d.0 opens (cut-of (batch ∷ []) q) is.entries proper
        (carries ((b.said ++ b.unsaid) ++ batch ∷ []) (ap (λ (x : List Settlement). (b.said ++ b.unsaid) ++ x) q))
        some.left
        (subst (λ (live : ℕ). IsLog live some.image (order c)) (sym is.live) (subst (IsLog o.live some.image) order-is some.holds))
        (ap (λ (w : CoreState). w.manager.doubt) (sym end) ∙ d.1)
        (subst (λ (w : CoreState). AreOf (units_in_doubt w) (commits_of (batch ∷ []))) end
        (ap (map (λ (x : Commit). x.logged.unit)) (append-nil batch.commits) ∙ units-named (chosen (ends r)) batch.commits d.2))
      where
        is-some : (x : Settlement) → x ∷ [] ≡ [] → ⊥
        is-some x t = absurd cc
    lasts-by (batch ∷ (other ∷ more)) q d = absurd d

-- where no batch failed to be sealed none is in doubt
none-doubted : (r : Run) → how_many is_unsealed r ≡ 0 → is_some (ends r).manager.doubt ≡ false
none-doubted r none = by (ends r).manager.doubt refl
  where
    by : (d : Option ℕ) → (ends r).manager.doubt ≡ d → is_some d ≡ false
    by None q = refl
    by (Some begins) q = (let left : RunHasDoubt r = doubt_left r begins q in absurd (none-applies is_unsealed r none left.at (Doubt left.number) left.doubt refl))

-- what has to last
pub lasts : (tells : Bool) (o : Outset) (head : List ℕ) (b : Books) (r : Run) (settler : Settler) (seen : Observed) (c : Course)
    → tells ≡ true → KeepsRecord tells o b (stage_by r settler seen.faults_after seen.new) → LastsSo o head b r settler.writer seen.new → IsCourseOf o b r seen c
    → head ≡ take 15 (seen_at_entry seen (Manager c.live)) → IsBehind seen c o.world → Opens seen c → ReadsMayStay seen.new
    → Lasts o.program seen c
lasts tells o head b r settler seen c t k l is heads behind opens stay =
    lasts-by o head b r settler.writer seen c l is heads behind (λ none. k.books.unsure ∙ k.books.doubt ∙ none-doubted r none) opens stay (k.books.outside (subst IsTrue (sym t) refl)).output.proper b.doubted refl k.books.booked.doubted
