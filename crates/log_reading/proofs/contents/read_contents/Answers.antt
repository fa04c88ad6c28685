use Rattle.std.proofs.Common.{◌≡◌, ◌<◌, ◌≤◌, ◌^◌, ℕ, List, ◌∷◌, map, length, None, Ok, refl, sym, ◌∙◌, ap, subst}
use Rattle.std.proofs.lemmas.List.{length-map}
use Rattle.host_trait.specs.World.{Image}
use Rattle.host_trait.proofs.Runs.{asked_then}
use Rattle.commit_log.specs.declared.records.Named.{Named}
use Rattle.script_tree.specs.declared.programs.Program.{Program as TreeProgram}
use Rattle.script_tree.specs.Programs.{ProgramTree, program_tree}
use Rattle.program_file.specs.Programs.{Program, text_limit, program_in}
use Rattle.program_file.specs.Succession.{ArePrograms, newest_program, shapes_in_turn}
use Rattle.program_file.specs.ProgramsInTurn.{programs_in}
use Rattle.log_reading.specs.Blocks.{programs_read, program_after, types_read}
use Rattle.log_reading.specs.Steps.{seen_in}
use Rattle.log_reading.specs.Versions.{named_in, named_by_grain, first_missing}
use Rattle.log_reading.specs.Sums.{placed_after, end_after, AreOfPrograms, AreUnread}
use Rattle.log_reading.proofs.StepFaults.{read_refused, versions_refused}
use Rattle.log_reading.proofs.ReadPrograms.{types_of, are_programs, newest_text, text_small}
use Rattle.host_trait.specs.declared.channels.Channel.{Channel}
use Rattle.log_reading.specs.Counts.{ReadFaulted}
use Rattle.host_trait.proofs.Counts.{none_then}
use Rattle.log_reading.proofs.contents.read_contents.Goals as goal

-- the programs that are kept are those of the log
kept_are : (first : TreeProgram) (later all : List TreeProgram) (text : List ℕ) (types : List ProgramTree) → all ≡ first ∷ later → map program_tree later ≡ types → map program_tree all ≡ program_tree first ∷ types
kept_are first later all text types all_are later_are = ap (map program_tree) all_are ∙ ap (λ (l : List ProgramTree). program_tree first ∷ l) later_are

pub returns-in-Ok-read_named-clause-opened : goal.returns-in-Ok-read_named-clause-opened
returns-in-Ok-read_named-clause-opened g c told =
    let format = c.args.format in
    let p : Program = record { text = c.args.text; types = program_tree c.args.first } in
    let image = seen_in (g.H.Host.world c.args.host.now).disk in
    let l = c.in-Ok.ensures.log p refl in
    let same : seen_in (g.H.Host.world c.read_log.new.host).disk ≡ image = ap seen_in (c.read_log.ensures.asked told).disk in
    let order : named_by_grain c.in-Ok.log.named ≡ named_by_grain (named_in l.log) = ap named_by_grain l.named in
    let are : programs_in c.in_ok-programs.programs ≡ types_read p l.log.entries =
    ap (map program_tree) c.in_ok-programs.ensures.programs ∙ ap (λ (k : List ProgramTree). program_tree c.args.first ∷ k) l.later in
    let v = c.in-Ok-read_named.ensures in
    record {
      log = l.log;
      read = l.read told;
      programs = ap (map program_tree) c.into_list.ensures ∙ are;
      text = c.unwrap_or-text.ensures ∙ l.text;
      follow = l.follow;
      whole = sym (λ i. first_missing c.args.slot format (shapes_in_turn (are i)) (same i) (order i)) ∙ v.whole told;
      count = l.count;
      next = l.next;
      session = l.session told;
      places = λ grain. v.places told grain ∙ (λ i. placed_after c.args.slot format (are i) (same i) None (order i) grain);
      ends = λ grain. v.ends grain ∙ (λ i. end_after None (order i) grain);
      gate = l.gate told;
      closed = l.closed told;
    }

pub returns-in-Ok-read_named-clause-bounds : goal.returns-in-Ok-read_named-clause-bounds
returns-in-Ok-read_named-clause-bounds g c =
    let p : Program = record { text = c.args.text; types = program_tree c.args.first } in
    let l = c.in-Ok.ensures.log p refl in
    let are : programs_in c.in_ok-programs.programs ≡ types_read p l.log.entries =
    ap (map program_tree) c.in_ok-programs.ensures.programs ∙ ap (λ (k : List ProgramTree). program_tree c.args.first ∷ k) l.later in
    let listed : map program_tree c.into_list.result ≡ types_read p l.log.entries = ap (map program_tree) c.into_list.ensures ∙ are in
    let text : c.unwrap_or-text.result ≡ (program_after p l.log.entries).text = c.unwrap_or-text.ensures ∙ l.text in
    let few : length (programs_read l.log.entries) < 2 ^ 32 =
    subst (λ (n : ℕ). n < 2 ^ 32) (sym (length-map c.in-Ok.log.later program_tree) ∙ ap length l.later ∙ length-map (programs_read l.log.entries) types_of) c.in-Ok.ensures.numbers in
    let size : length (programs_in c.in_ok-programs.programs) ≡ length c.into_list.result = length-map c.in_ok-programs.programs.checked program_tree ∙ ap length (sym c.into_list.ensures) in
    record {
      gate = c.in-Ok.ensures.bound.0;
      next = c.in-Ok.ensures.bound.1;
      session = c.in-Ok.ensures.session;
      near = c.in-Ok-read_named.ensures.near;
      programs = subst ArePrograms (sym listed) (are_programs p l.log.entries l.follow few);
      small = subst (λ (t : List ℕ). length t ≤ text_limit) (sym text) (text_small p l.log.entries l.follow c.requires.small);
      newest = ap program_in text ∙ newest_text p l.log.entries l.follow c.requires.program ∙ ap (λ (k : List ProgramTree). Ok (newest_program k)) (sym listed);
      numbered = subst (λ (n : ℕ). AreOfPrograms n c.in-Ok-read_named.places) size c.in-Ok-read_named.ensures.numbered;
    }

pub returns-in-Ok-read_named-clause-calls : goal.returns-in-Ok-read_named-clause-calls
returns-in-Ok-read_named-clause-calls g c = record {
  ready = λ file was. c.read_named.ensures.calls.ready file (c.read_log.ensures.calls.ready file was);
  calm = none_then _ _ _ c.in-Ok.ensures.calls.calm c.in-Ok-read_named.ensures.calls.calm;
  fault = tt;
}

pub returns-in-Ok-read_named-clause-asked : goal.returns-in-Ok-read_named-clause-asked
returns-in-Ok-read_named-clause-asked g c told = asked_then _ _ _ (c.read_log.ensures.asked told) (c.read_named.ensures.asked told)

pub returns-in-Err-read_named-clause-calls : goal.returns-in-Err-read_named-clause-calls
returns-in-Err-read_named-clause-calls g c = record {
  ready = λ file was. c.read_named.ensures.calls.ready file (c.read_log.ensures.calls.ready file was);
  calm = tt;
  fault = subst (λ (x : Channel → ℕ). ReadFaulted c.in-Err-read_named.fault x (g.H.Host.faults c.read_named.new.host)) (λ i channel. c.in-Ok.ensures.calls.calm channel i) c.in-Err-read_named.ensures.calls.fault;
}

pub returns-in-Err-read_named-clause-asked : goal.returns-in-Err-read_named-clause-asked
returns-in-Err-read_named-clause-asked g c told = asked_then _ _ _ (c.read_log.ensures.asked told) (c.read_named.ensures.asked told)

pub returns-in-Err-clause-refused : goal.returns-in-Err-clause-refused
returns-in-Err-clause-refused g c told =
    let p : Program = record { text = c.args.text; types = program_tree c.args.first } in
    read_refused c.args.slot c.args.format p (seen_in (g.H.Host.world c.args.host.now).disk) c.in-Err.fault
    (λ file place is. (c.in-Err.ensures.file file place is, c.in-Err.ensures.damaged file place is told p refl))
    (λ file is. c.in-Err.ensures.failed file is)

pub returns-in-Err-read_named-clause-refused : goal.returns-in-Err-read_named-clause-refused
returns-in-Err-read_named-clause-refused g c told =
    let format = c.args.format in
    let p : Program = record { text = c.args.text; types = program_tree c.args.first } in
    let image = seen_in (g.H.Host.world c.args.host.now).disk in
    let l = c.in-Ok.ensures.log p refl in
    let same : seen_in (g.H.Host.world c.read_log.new.host).disk ≡ image = ap seen_in (c.read_log.ensures.asked told).disk in
    let order : named_by_grain c.in-Ok.log.named ≡ named_by_grain (named_in l.log) = ap named_by_grain l.named in
    let are : programs_in c.in_ok-programs.programs ≡ types_read p l.log.entries =
    ap (map program_tree) c.in_ok-programs.ensures.programs ∙ ap (λ (k : List ProgramTree). program_tree c.args.first ∷ k) l.later in
    let fault = c.in-Err-read_named.fault in
    let unread = c.in-Err-read_named.ensures.unread told in
    versions_refused c.args.slot format p image l.log (l.read told) fault
    (subst (λ (ks : List ProgramTree). AreUnread c.args.slot format (shapes_in_turn ks) image (named_by_grain (named_in l.log)) fault) are
    (subst (λ (im : Image). AreUnread c.args.slot format (shapes_in_turn (programs_in c.in_ok-programs.programs)) im (named_by_grain (named_in l.log)) fault) same
    (subst (λ (ns : List Named). AreUnread c.args.slot format (shapes_in_turn (programs_in c.in_ok-programs.programs)) (seen_in (g.H.Host.world c.read_log.new.host).disk) ns fault) order unread)))
