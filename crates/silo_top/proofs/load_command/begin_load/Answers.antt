use Rattle.std.proofs.Common.{◌≡◌, ℕ, IsTrue, List, length, Ok, inl, refl, sym, ◌∙◌, ap, subst}
use Rattle.program_file.specs.Programs.{program_in}
use Rattle.script_tree.specs.Programs.{ProgramTree, program_tree}
use Rattle.history_core.specs.Cores.{run_of}
use Rattle.silo_spec.specs.Silos.{IsMagic, IsNewSilo}
use Rattle.silo_spec.specs.Slots.{ShowsSilos}
use Rattle.silo_spec.specs.Creation.{CameThisFar}
use Rattle.promise_spec.specs.Endings.{Memory, MayEndLoad}
use Rattle.promise_spec.specs.Loads.{bank_text, load_calls}
use Rattle.bank_load.specs.Requests.{load_texts}
use Rattle.bank_load.proofs.LoadTexts.{load_read}
use Rattle.silo_top.specs.Continuation.{LoadCounts}
use Rattle.silo_top.specs.LoadSteps.{IsMadeFrom}
use Rattle.silo_top.specs.RunBehindOpening.{IsBehindOpening}
use Rattle.silo_top.specs.Statuses.{status_ending}
use Rattle.silo_top.specs.declared.status.Status.{Status}
use Rattle.silo_top.proofs.FaultCounts.{answers_behind, exactly_answers}
use Rattle.silo_top.proofs.Continuation.{can_carry, of_opened, told_lines}
use Rattle.silo_top.proofs.LoadStart.{bank_of, bank_checked, same_behind, same_seen, with_checked}
use Rattle.silo_top.proofs.LoadContinuation.{load_carries, load_answers}
use Rattle.silo_top.proofs.LoadLines.{AreReadBy, lines_read, numbered_many, texts_ask}
use Rattle.silo_top.proofs.LoadCreation.{uncreated, uncreated_answers, made_from, made_loads, unopened_carries, unopened_answers, starved_carries, lies_within, live_seen}
use Rattle.silo_top.proofs.OpenedPlaces.{OpensSo}
use Rattle.host_trait.specs.World.{World}
use Rattle.log_reading.specs.Steps.{seen_in}
use Rattle.silo_top.proofs.CoreOpening.{fits_within}
use Rattle.silo_top.proofs.ReadLines.{AreReadFrom}
use Rattle.silo_top.proofs.load_command.begin_load.Goals as goal

pub returns-in-Err-clause-loads : goal.returns-in-Err-clause-loads
returns-in-Err-clause-loads g c = λ told m. record {
  manner = refl;
  windowed = refl;
  answers = inl (uncreated m (load_texts c.args.transfers c.args.seed) (g.H.Host.world c.args.host.now) (g.H.Host.world c.create.new.host) (g.H.Host.faults c.args.host.now) (g.H.Host.faults c.create.new.host) (Unit {0})
      c.in-Err.fault c.creation_status.result c.creation_status.ensures (c.create.ensures.beside told) (λ short. subst (λ (t : List ℕ). CameThisFar IsMagic t (g.H.Host.world c.args.host.now) (g.H.Host.world c.create.new.host)) c.bank_text-2.ensures (c.create.ensures.moments told short).moments) (λ short. (c.create.ensures.moments told short).shows) c.in-Err.ensures.calls.fault
      (λ is. (c.in-Err.ensures.already is told).reads) (λ is. (c.in-Err.ensures.already is told).lasts) (λ reads. (c.in-Err.ensures.silo told reads).answer) (λ reads. (c.create.ensures.silo told reads).untouched));
}

pub returns-in-Err-clause-answers : goal.returns-in-Err-clause-answers
returns-in-Err-clause-answers g c = uncreated_answers c.in-Err.fault c.creation_status.result (g.H.Host.faults c.args.host.now) (g.H.Host.faults c.create.new.host) c.creation_status.ensures c.in-Err.ensures.calls.fault

pub returns-in-Err-open_silo-clause-answers : goal.returns-in-Err-open_silo-clause-answers
returns-in-Err-open_silo-clause-answers g c = answers_behind MayEndLoad (status_ending c.open_status.result) (g.H.Host.faults c.args.host.now) (g.H.Host.faults c.create.new.host) (g.H.Host.faults c.open_silo.new.host) c.in-Ok-create.ensures.calls.calm
    (unopened_answers MayEndLoad c.in-Err-open_silo.fault c.open_status.result (g.H.Host.faults c.create.new.host) (g.H.Host.faults c.open_silo.new.host) c.open_status.ensures c.in-Err-open_silo.ensures.calls.fault)

pub returns-in-Err-open_silo-clause-loads : goal.returns-in-Err-open_silo-clause-loads
returns-in-Err-open_silo-clause-loads g c = λ told m.
    let bank_is : program_in bank_text ≡ Ok (program_tree c.in-Ok.bank) = subst (λ (t : List ℕ). program_in t ≡ Ok (program_tree c.in-Ok.bank)) c.bank_text.ensures c.in-Ok.ensures in
    let made : IsMadeFrom (g.H.Host.world c.args.host.now) (g.H.Host.world c.create.new.host) = made_from (Unit {0}) (g.H.Host.world c.args.host.now) (g.H.Host.world c.create.new.host) tt (λ reads. (c.in-Ok-create.ensures.silo told reads).answer) (c.create.ensures.beside told)
    (λ short. subst (λ (t : List ℕ). CameThisFar IsMagic t (g.H.Host.world c.args.host.now) (g.H.Host.world c.create.new.host)) c.bank_text-2.ensures (c.create.ensures.moments told short).moments) (λ short. (c.create.ensures.moments told short).shows)
    (λ image left. subst (λ (t : List ℕ). IsNewSilo t image) c.bank_text-2.ensures ((c.in-Ok-create.ensures.made told).made image left)) (c.in-Ok-create.ensures.made told).live (λ file. g.met.H.Host.seen_may_stay c.create.new.host file told)
    (c.in-Ok-create.ensures.made told).least (c.in-Ok-create.ensures.made told).most in
    made_loads c.args.transfers c.args.seed m (load_texts c.args.transfers c.args.seed) (g.H.Host.world c.args.host.now) (g.H.Host.world c.create.new.host) (g.H.Host.world c.open_silo.new.host) (g.H.Host.faults c.args.host.now) (g.H.Host.faults c.create.new.host) (g.H.Host.faults c.open_silo.new.host) c.open_status.result made c.in-Ok-create.ensures.calls.calm
    (returns-in-Err-open_silo-clause-answers g c)
    (λ short. unopened_carries c.args.transfers c.args.seed m (load_texts c.args.transfers c.args.seed) c.in-Ok.bank (g.H.Host.world c.create.new.host) (g.H.Host.world c.open_silo.new.host) (g.H.Host.faults c.create.new.host) (g.H.Host.faults c.open_silo.new.host) c.in-Err-open_silo.fault c.open_status.result bank_is c.open_status.ensures (c.in-Err-open_silo.ensures.only told) (c.in-Err-open_silo.ensures.refused told) c.in-Err-open_silo.ensures.calls.fault)

pub returns-in-Err-start-clause-answers : goal.returns-in-Err-start-clause-answers
returns-in-Err-start-clause-answers g c = exactly_answers (g.H.Host.faults c.args.host.now) (g.H.Host.faults c.open_silo.new.host) MayEndLoad Memory (λ q. cc q) (λ channel. c.in-Ok-open_silo.ensures.calls.calm channel ∙ c.in-Ok-create.ensures.calls.calm channel)

pub returns-in-Err-start-clause-loads : goal.returns-in-Err-start-clause-loads
returns-in-Err-start-clause-loads g c = λ told m.
    let bank_is : program_in bank_text ≡ Ok (program_tree c.in-Ok.bank) = subst (λ (t : List ℕ). program_in t ≡ Ok (program_tree c.in-Ok.bank)) c.bank_text.ensures c.in-Ok.ensures in
    let made : IsMadeFrom (g.H.Host.world c.args.host.now) (g.H.Host.world c.create.new.host) = made_from (Unit {0}) (g.H.Host.world c.args.host.now) (g.H.Host.world c.create.new.host) tt (λ reads. (c.in-Ok-create.ensures.silo told reads).answer) (c.create.ensures.beside told)
    (λ short. subst (λ (t : List ℕ). CameThisFar IsMagic t (g.H.Host.world c.args.host.now) (g.H.Host.world c.create.new.host)) c.bank_text-2.ensures (c.create.ensures.moments told short).moments) (λ short. (c.create.ensures.moments told short).shows)
    (λ image left. subst (λ (t : List ℕ). IsNewSilo t image) c.bank_text-2.ensures ((c.in-Ok-create.ensures.made told).made image left)) (c.in-Ok-create.ensures.made told).live (λ file. g.met.H.Host.seen_may_stay c.create.new.host file told)
    (c.in-Ok-create.ensures.made told).least (c.in-Ok-create.ensures.made told).most in
    let behind : IsBehindOpening (g.H.Host.world c.create.new.host) (g.H.Host.world c.open_silo.new.host) c.in-Ok-open_silo.opened = record {
      opened = (c.in-Ok-open_silo.ensures.opened told).opened;
      settled = (c.in-Ok-open_silo.ensures.opened told).settled;
      count = (c.in-Ok-open_silo.ensures.opened told).count;
      left = (c.in-Ok-open_silo.ensures.opened told).left;
      run = c.in-Ok-open_silo.ensures.only told;
      stays = λ file. g.met.H.Host.seen_may_stay c.create.new.host file told;
    } in
    let behind_bank : ShowsSilos IsMagic (g.H.Host.world c.args.host.now).disk → IsBehindOpening (g.H.Host.world c.create.new.host) (g.H.Host.world c.open_silo.new.host) (with_checked c.in-Ok-open_silo.opened c.in-Ok.bank) = λ short. same_behind c.in-Ok-open_silo.opened c.in-Ok.bank (g.H.Host.world c.create.new.host) (g.H.Host.world c.open_silo.new.host) bank_is (made.bank short) (λ file. g.met.H.Host.seen_may_stay c.create.new.host file told) behind in
    made_loads c.args.transfers c.args.seed m (load_texts c.args.transfers c.args.seed) (g.H.Host.world c.args.host.now) (g.H.Host.world c.create.new.host) (g.H.Host.world c.open_silo.new.host) (g.H.Host.faults c.args.host.now) (g.H.Host.faults c.create.new.host) (g.H.Host.faults c.open_silo.new.host) Status.Memory made c.in-Ok-create.ensures.calls.calm
    (returns-in-Err-start-clause-answers g c)
    (λ short. starved_carries c.args.transfers c.args.seed m (load_texts c.args.transfers c.args.seed) (with_checked c.in-Ok-open_silo.opened c.in-Ok.bank) (g.H.Host.world c.create.new.host) (g.H.Host.world c.open_silo.new.host) (g.H.Host.faults c.create.new.host) (g.H.Host.faults c.open_silo.new.host) bank_is (behind_bank short) c.in-Ok-open_silo.ensures.calls.calm)

pub returns-in-Err-load_lines-clause-answers : goal.returns-in-Err-load_lines-clause-answers
returns-in-Err-load_lines-clause-answers g c = exactly_answers (g.H.Host.faults c.args.host.now) (g.H.Host.faults c.open_silo.new.host) MayEndLoad Memory (λ q. cc q) (λ channel. c.in-Ok-open_silo.ensures.calls.calm channel ∙ c.in-Ok-create.ensures.calls.calm channel)

pub returns-in-Err-load_lines-clause-loads : goal.returns-in-Err-load_lines-clause-loads
returns-in-Err-load_lines-clause-loads g c = λ told m.
    let bank_is : program_in bank_text ≡ Ok (program_tree c.in-Ok.bank) = subst (λ (t : List ℕ). program_in t ≡ Ok (program_tree c.in-Ok.bank)) c.bank_text.ensures c.in-Ok.ensures in
    let made : IsMadeFrom (g.H.Host.world c.args.host.now) (g.H.Host.world c.create.new.host) = made_from (Unit {0}) (g.H.Host.world c.args.host.now) (g.H.Host.world c.create.new.host) tt (λ reads. (c.in-Ok-create.ensures.silo told reads).answer) (c.create.ensures.beside told)
    (λ short. subst (λ (t : List ℕ). CameThisFar IsMagic t (g.H.Host.world c.args.host.now) (g.H.Host.world c.create.new.host)) c.bank_text-2.ensures (c.create.ensures.moments told short).moments) (λ short. (c.create.ensures.moments told short).shows)
    (λ image left. subst (λ (t : List ℕ). IsNewSilo t image) c.bank_text-2.ensures ((c.in-Ok-create.ensures.made told).made image left)) (c.in-Ok-create.ensures.made told).live (λ file. g.met.H.Host.seen_may_stay c.create.new.host file told)
    (c.in-Ok-create.ensures.made told).least (c.in-Ok-create.ensures.made told).most in
    let behind : IsBehindOpening (g.H.Host.world c.create.new.host) (g.H.Host.world c.open_silo.new.host) c.in-Ok-open_silo.opened = record {
      opened = (c.in-Ok-open_silo.ensures.opened told).opened;
      settled = (c.in-Ok-open_silo.ensures.opened told).settled;
      count = (c.in-Ok-open_silo.ensures.opened told).count;
      left = (c.in-Ok-open_silo.ensures.opened told).left;
      run = c.in-Ok-open_silo.ensures.only told;
      stays = λ file. g.met.H.Host.seen_may_stay c.create.new.host file told;
    } in
    let behind_bank : ShowsSilos IsMagic (g.H.Host.world c.args.host.now).disk → IsBehindOpening (g.H.Host.world c.create.new.host) (g.H.Host.world c.open_silo.new.host) (with_checked c.in-Ok-open_silo.opened c.in-Ok.bank) = λ short. same_behind c.in-Ok-open_silo.opened c.in-Ok.bank (g.H.Host.world c.create.new.host) (g.H.Host.world c.open_silo.new.host) bank_is (made.bank short) (λ file. g.met.H.Host.seen_may_stay c.create.new.host file told) behind in
    made_loads c.args.transfers c.args.seed m (load_texts c.args.transfers c.args.seed) (g.H.Host.world c.args.host.now) (g.H.Host.world c.create.new.host) (g.H.Host.world c.open_silo.new.host) (g.H.Host.faults c.args.host.now) (g.H.Host.faults c.create.new.host) (g.H.Host.faults c.open_silo.new.host) Status.Memory made c.in-Ok-create.ensures.calls.calm
    (returns-in-Err-load_lines-clause-answers g c)
    (λ short. starved_carries c.args.transfers c.args.seed m (load_texts c.args.transfers c.args.seed) (with_checked c.in-Ok-open_silo.opened c.in-Ok.bank) (g.H.Host.world c.create.new.host) (g.H.Host.world c.open_silo.new.host) (g.H.Host.faults c.create.new.host) (g.H.Host.faults c.open_silo.new.host) bank_is (behind_bank short) c.in-Ok-open_silo.ensures.calls.calm)

pub returns-in-Ok-load_lines-clause-can : goal.returns-in-Ok-load_lines-clause-can
returns-in-Ok-load_lines-clause-can g c = can_carry g.H.Host.tells (with_checked c.in-Ok-open_silo.opened c.in-Ok.bank) c.in-Ok-start.started (g.H.Host.world c.open_silo.new.host) c.in-Ok-start.ensures.start c.in-Ok-open_silo.ensures.bounds.next.0 c.in-Ok-start.ensures.bounds
    (λ told.
    let behind : IsBehindOpening (g.H.Host.world c.create.new.host) (g.H.Host.world c.open_silo.new.host) c.in-Ok-open_silo.opened = record {
      opened = (c.in-Ok-open_silo.ensures.opened told).opened;
      settled = (c.in-Ok-open_silo.ensures.opened told).settled;
      count = (c.in-Ok-open_silo.ensures.opened told).count;
      left = (c.in-Ok-open_silo.ensures.opened told).left;
      run = c.in-Ok-open_silo.ensures.only told;
      stays = λ file. g.met.H.Host.seen_may_stay c.create.new.host file told;
    } in
    fits_within (with_checked c.in-Ok-open_silo.opened c.in-Ok.bank) c.in-Ok-start.started (g.H.Host.world c.open_silo.new.host).disk (lies_within c.in-Ok-open_silo.opened c.in-Ok.bank (g.H.Host.world c.create.new.host) (g.H.Host.world c.open_silo.new.host) behind) c.in-Ok-start.ensures.start)

pub returns-in-Ok-load_lines-clause-answers_on : goal.returns-in-Ok-load_lines-clause-answers_on
returns-in-Ok-load_lines-clause-answers_on g c = λ m settler' after new result status final went counts.
    let bank_is : program_in bank_text ≡ Ok (program_tree c.in-Ok.bank) = subst (λ (t : List ℕ). program_in t ≡ Ok (program_tree c.in-Ok.bank)) c.bank_text.ensures c.in-Ok.ensures in
    let types : ProgramTree = program_tree c.in-Ok.bank in
    let read : AreReadBy types (load_calls c.args.transfers c.args.seed) = load_read (bank_of types) c.args.transfers c.args.seed (bank_checked types bank_is) refl in
    let are : AreReadFrom types 0 (load_texts c.args.transfers c.args.seed) c.in-Ok-load_lines.lines = subst (AreReadFrom types 0 (load_texts c.args.transfers c.args.seed)) (sym c.in-Ok-load_lines.ensures) (lines_read types 0 (load_calls c.args.transfers c.args.seed) read) in
    let carried = of_opened g.H.Host.tells (with_checked c.in-Ok-open_silo.opened c.in-Ok.bank) c.in-Ok-start.started (λ (k : ProgramTree). c.in-Ok-load_lines.lines) (g.H.Host.faults c.open_silo.new.host) (g.H.Host.world c.open_silo.new.host) m settler' after new result c.in-Ok-start.ensures.start went in
    let opens : IsTrue g.H.Host.tells → (old : World) × OpensSo old (g.H.Host.world c.open_silo.new.host) (with_checked c.in-Ok-open_silo.opened c.in-Ok.bank) = (λ told. (
    let made : IsMadeFrom (g.H.Host.world c.args.host.now) (g.H.Host.world c.create.new.host) = made_from (Unit {0}) (g.H.Host.world c.args.host.now) (g.H.Host.world c.create.new.host) tt (λ reads. (c.in-Ok-create.ensures.silo told reads).answer) (c.create.ensures.beside told)
    (λ short. subst (λ (t : List ℕ). CameThisFar IsMagic t (g.H.Host.world c.args.host.now) (g.H.Host.world c.create.new.host)) c.bank_text-2.ensures (c.create.ensures.moments told short).moments) (λ short. (c.create.ensures.moments told short).shows)
    (λ image left. subst (λ (t : List ℕ). IsNewSilo t image) c.bank_text-2.ensures ((c.in-Ok-create.ensures.made told).made image left)) (c.in-Ok-create.ensures.made told).live (λ file. g.met.H.Host.seen_may_stay c.create.new.host file told)
    (c.in-Ok-create.ensures.made told).least (c.in-Ok-create.ensures.made told).most in (
      g.H.Host.world c.create.new.host,
      record {
        opened = same_seen c.in-Ok-open_silo.opened c.in-Ok.bank (g.H.Host.world c.create.new.host) bank_is (made.each (seen_in (g.H.Host.world c.create.new.host).disk) made.stays)
            (live_seen (g.H.Host.world c.args.host.now) (g.H.Host.world c.create.new.host) made) (c.in-Ok-open_silo.ensures.opened told).opened;
        run = c.in-Ok-open_silo.ensures.only told;
      },
    ))) in
    answers_behind MayEndLoad (status_ending status) (g.H.Host.faults c.args.host.now) (g.H.Host.faults c.create.new.host) final c.in-Ok-create.ensures.calls.calm
    (answers_behind MayEndLoad (status_ending status) (g.H.Host.faults c.create.new.host) (g.H.Host.faults c.open_silo.new.host) final c.in-Ok-open_silo.ensures.calls.calm
    (load_answers g.H.Host.tells c.args.transfers c.args.seed m (with_checked c.in-Ok-open_silo.opened c.in-Ok.bank) c.in-Ok-start.started (g.H.Host.world c.open_silo.new.host) new (g.H.Host.faults c.open_silo.new.host) after result c.in-Ok-start.ensures.start opens c.in-Ok-start.ensures.quiet c.in-Ok-load_lines.lines are went.wide c.in-Ok-open_silo.ensures.bounds.next.0 settler' went.used carried status final (subst (λ (n : ℕ). LoadCounts n result status after final) c.in-Ok-start.ensures.start.slot counts)))

pub returns-in-Ok-load_lines-clause-keeps : goal.returns-in-Ok-load_lines-clause-keeps
returns-in-Ok-load_lines-clause-keeps g c = λ told m settler' after new result requests status final last went stay counts says many.
    let bank_is : program_in bank_text ≡ Ok (program_tree c.in-Ok.bank) = subst (λ (t : List ℕ). program_in t ≡ Ok (program_tree c.in-Ok.bank)) c.bank_text.ensures c.in-Ok.ensures in
    let made : IsMadeFrom (g.H.Host.world c.args.host.now) (g.H.Host.world c.create.new.host) = made_from (Unit {0}) (g.H.Host.world c.args.host.now) (g.H.Host.world c.create.new.host) tt (λ reads. (c.in-Ok-create.ensures.silo told reads).answer) (c.create.ensures.beside told)
    (λ short. subst (λ (t : List ℕ). CameThisFar IsMagic t (g.H.Host.world c.args.host.now) (g.H.Host.world c.create.new.host)) c.bank_text-2.ensures (c.create.ensures.moments told short).moments) (λ short. (c.create.ensures.moments told short).shows)
    (λ image left. subst (λ (t : List ℕ). IsNewSilo t image) c.bank_text-2.ensures ((c.in-Ok-create.ensures.made told).made image left)) (c.in-Ok-create.ensures.made told).live (λ file. g.met.H.Host.seen_may_stay c.create.new.host file told)
    (c.in-Ok-create.ensures.made told).least (c.in-Ok-create.ensures.made told).most in
    let behind : IsBehindOpening (g.H.Host.world c.create.new.host) (g.H.Host.world c.open_silo.new.host) c.in-Ok-open_silo.opened = record {
      opened = (c.in-Ok-open_silo.ensures.opened told).opened;
      settled = (c.in-Ok-open_silo.ensures.opened told).settled;
      count = (c.in-Ok-open_silo.ensures.opened told).count;
      left = (c.in-Ok-open_silo.ensures.opened told).left;
      run = c.in-Ok-open_silo.ensures.only told;
      stays = λ file. g.met.H.Host.seen_may_stay c.create.new.host file told;
    } in
    let behind_bank : ShowsSilos IsMagic (g.H.Host.world c.args.host.now).disk → IsBehindOpening (g.H.Host.world c.create.new.host) (g.H.Host.world c.open_silo.new.host) (with_checked c.in-Ok-open_silo.opened c.in-Ok.bank) = λ short. same_behind c.in-Ok-open_silo.opened c.in-Ok.bank (g.H.Host.world c.create.new.host) (g.H.Host.world c.open_silo.new.host) bank_is (made.bank short) (λ file. g.met.H.Host.seen_may_stay c.create.new.host file told) behind in
    let types : ProgramTree = program_tree c.in-Ok.bank in
    let read : AreReadBy types (load_calls c.args.transfers c.args.seed) = load_read (bank_of types) c.args.transfers c.args.seed (bank_checked types bank_is) refl in
    let are : AreReadFrom types 0 (load_texts c.args.transfers c.args.seed) c.in-Ok-load_lines.lines = subst (AreReadFrom types 0 (load_texts c.args.transfers c.args.seed)) (sym c.in-Ok-load_lines.ensures) (lines_read types 0 (load_calls c.args.transfers c.args.seed) read) in
    let carried = told_lines g.H.Host.tells m types c.in-Ok-load_lines.lines went.used (run_of c.in-Ok-start.started.core) c.in-Ok-start.started.settler settler' (g.H.Host.faults c.open_silo.new.host) after (g.H.Host.world c.open_silo.new.host) new result told
    (of_opened g.H.Host.tells (with_checked c.in-Ok-open_silo.opened c.in-Ok.bank) c.in-Ok-start.started (λ (k : ProgramTree). c.in-Ok-load_lines.lines) (g.H.Host.faults c.open_silo.new.host) (g.H.Host.world c.open_silo.new.host) m settler' after new result c.in-Ok-start.ensures.start went) in
    made_loads c.args.transfers c.args.seed m (load_texts c.args.transfers c.args.seed) (g.H.Host.world c.args.host.now) (g.H.Host.world c.create.new.host) last (g.H.Host.faults c.args.host.now) (g.H.Host.faults c.create.new.host) final status made c.in-Ok-create.ensures.calls.calm
    (returns-in-Ok-load_lines-clause-answers_on g c m settler' after new result status final went counts)
    (λ short. load_carries c.args.transfers c.args.seed m (with_checked c.in-Ok-open_silo.opened c.in-Ok.bank) c.in-Ok-start.started (g.H.Host.world c.create.new.host) (g.H.Host.world c.open_silo.new.host) new (g.H.Host.faults c.create.new.host) (g.H.Host.faults c.open_silo.new.host) after result (behind_bank short) c.in-Ok-start.ensures.start bank_is (made.bank short) (λ file. g.met.H.Host.seen_may_stay c.open_silo.new.host file told) stay c.in-Ok-start.ensures.quiet
    c.in-Ok-load_lines.lines are went.wide c.in-Ok-open_silo.ensures.bounds.next.0 c.in-Ok-open_silo.ensures.calls.calm settler' went.used carried (texts_ask types c.args.transfers c.args.seed read) requests
    (many ∙ ap length c.in-Ok-load_lines.ensures ∙ numbered_many 0 (load_calls c.args.transfers c.args.seed)) status final last (subst (λ (n : ℕ). LoadCounts n result status after final) c.in-Ok-start.ensures.start.slot counts) says)

pub returns-in-Err-open_silo-clause-ready : goal.returns-in-Err-open_silo-clause-ready
returns-in-Err-open_silo-clause-ready g c = λ file was. c.open_silo.ensures.calls.ready file (c.create.ensures.calls.ready file was)

pub returns-in-Err-start-clause-ready : goal.returns-in-Err-start-clause-ready
returns-in-Err-start-clause-ready g c = λ file was. c.open_silo.ensures.calls.ready file (c.create.ensures.calls.ready file was)

pub returns-in-Err-load_lines-clause-ready : goal.returns-in-Err-load_lines-clause-ready
returns-in-Err-load_lines-clause-ready g c = λ file was. c.open_silo.ensures.calls.ready file (c.create.ensures.calls.ready file was)

pub returns-in-Ok-load_lines-clause-ready : goal.returns-in-Ok-load_lines-clause-ready
returns-in-Ok-load_lines-clause-ready g c = λ file was. c.open_silo.ensures.calls.ready file (c.create.ensures.calls.ready file was)
