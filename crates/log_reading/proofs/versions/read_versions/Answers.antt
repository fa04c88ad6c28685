use Rattle.std.proofs.Common.{rules, ◌≡◌, ◌+◌, ℕ, IsTrue, drop, get_or, length, List, ◌<◌, Some, None, Ok, Err, refl, sym, ◌∙◌, ap, subst}
use Rattle.std.proofs.lemmas.Result.{err_from_is_err_and}
use Rattle.host_trait.specs.declared.channels.FileId.{FileId}
use Rattle.host_trait.specs.declared.channels.FileId.TheVariants.{Grain}
use Rattle.host_trait.specs.World.{Disk}
use Rattle.host_trait.proofs.Runs.{asked_then}
use Rattle.host_trait.proofs.Counts.{none_then}
use Rattle.commit_log.specs.declared.records.Named.{Named}
use Rattle.std.proofs.lemmas.List.{length-map}
use Rattle.base_types.specs.declared.shapes.Shape.{Shape}
use Rattle.script_tree.specs.Programs.{ProgramTree}
use Rattle.script_check.specs.Shapes.{type_shapes}
use Rattle.program_file.specs.Succession.{shapes_in_turn}
use Rattle.program_file.specs.ProgramsInTurn.{programs_in}
use Rattle.log_reading.specs.Steps.{seen_in}
use Rattle.log_reading.specs.Versions.{version_numbered}
use Rattle.log_reading.proofs.Errors.{failed}
use Rattle.log_reading.proofs.FilePieces.{still_piece}
use Rattle.log_reading.proofs.RecordSums.{next_default, no_item}
use Rattle.log_reading.proofs.StepFaults.{versions_unread}
use Rattle.log_reading.proofs.NamedVersions.{passed_none, passed_more, passed_all, passed_here, stops_here, place_more, place_all, end_more, end_all, near_more, program_more}
use Rattle.host_trait.specs.declared.channels.Channel.{Channel}
use Rattle.log_reading.specs.Counts.{ReadFaulted}
use Rattle.log_reading.proofs.versions.read_versions.Goals as goal

abbrev no_name : Named
no_name = record { unit = None; program = 0; written = record { grain = record { kind = 0; key = 0 }; place = record { offset = 0; len = 0 } } }

pub loop-one-init : goal.loop-one-init
loop-one-init g c = record {
  at = refl;
  piece = c.no_piece-piece.ensures _ _ _;
  passed = λ told. passed_none _ _ _ _ c.args.named.now;
  places = λ told grain. refl;
  ends = λ grain. refl;
  near = λ was. was;
  numbered = λ was. was;
  asked = search rules;
  calm = λ channel. refl;
  ready = λ file was. was;
}

pub refill-requires-clause-piece : goal.refill-requires-clause-piece
refill-requires-clause-piece g c = still_piece _ _ _ _ _ (λ told. ap seen_in (sym (c.loop-one.invariant.asked told).disk)) c.loop-one.invariant.piece

pub returns-in_err-refill-clause-unread : goal.returns-in_err-refill-clause-unread
returns-in_err-refill-clause-unread g c =
    let p = err_from_is_err_and c.from_residual.result c.from_residual.ensures.1 in
    let inv = c.loop-one.invariant in
    let format = c.args.format in
    let programs = programs_in c.args.programs.now in
    let shapes = shapes_in_turn programs in
    let i = c.loop-one.one-index in
    let xs = c.args.named.now in
    let x : Named = get_or xs i no_name in
    rw (p.1, p.2) λ told.
    versions_unread c.args.slot format shapes (seen_in (g.H.Host.world c.args.host.now).disk) xs c.in_err-refill.field-0.0
    (λ file place is. absurd (c.in_err-refill.ensures.quiet file place (ap failed is)))
    (λ file is.
    let at : file ≡ Grain c.args.slot x.written.grain = c.in_err-refill.ensures.failed file (ap failed is) in
    stops_here c.args.slot format shapes _ xs (drop i xs) (inv.passed told) x (drop (i + 1) xs) (next_default i xs no_name c.loop-one-test.true) file at)

pub returns-in_err-refill-clause-asked : goal.returns-in_err-refill-clause-asked
returns-in_err-refill-clause-asked g c told = asked_then _ _ _ (c.loop-one.invariant.asked told) (c.refill.ensures.asked told)

pub returns-in_err-refill-clause-calls : goal.returns-in_err-refill-clause-calls
returns-in_err-refill-clause-calls g c =
    let p = err_from_is_err_and c.from_residual.result c.from_residual.ensures.1 in
    let inv = c.loop-one.invariant in
    rw (p.1, p.2) record {
      ready = λ file was. c.refill.ensures.calls.ready file (inv.ready file was);
      calm = tt;
      fault = subst (λ (x : Channel → ℕ). ReadFaulted c.in_err-refill.field-0.0 x (g.H.Host.faults c.refill.new.host)) (λ i channel. inv.calm channel i) c.in_err-refill.ensures.calls.fault;
    }

pub numbered_version-requires-clause-piece : goal.numbered_version-requires-clause-piece
numbered_version-requires-clause-piece g c =
    still_piece _ _ _ _ _ (λ told. ap seen_in (sym (c.refill.ensures.asked told).disk)) c.in_ok-refill.ensures.piece

pub returns-in_err-version-clause-unread : goal.returns-in_err-version-clause-unread
returns-in_err-version-clause-unread g c =
    let p = err_from_is_err_and c.from_residual-in_err-version.result c.from_residual-in_err-version.ensures.1 in
    let inv = c.loop-one.invariant in
    let format = c.args.format in
    let programs = programs_in c.args.programs.now in
    let shapes = shapes_in_turn programs in
    let i = c.loop-one.one-index in
    let xs = c.args.named.now in
    let x : Named = get_or xs i no_name in
    let next = next_default i xs no_name c.loop-one-test.true in
    rw (p.1, p.2) λ told.
    let mid = asked_then _ _ _ (inv.asked told) (c.refill.ensures.asked told) in
    versions_unread c.args.slot format shapes (seen_in (g.H.Host.world c.args.host.now).disk) xs c.in_err-version.field-0.0
    (λ file place is.
    let here : version_numbered c.args.slot format shapes (seen_in (g.H.Host.world c.refill.new.host).disk) x ≡ Err place = subst (λ (ss : List Shape). version_numbered c.args.slot format ss (seen_in (g.H.Host.world c.refill.new.host).disk) x ≡ Err place) (c.shapes.ensures ∙ c.requires.shapes) (c.in_err-version.ensures.damaged file place (ap failed is) told) in
    let there : version_numbered c.args.slot format shapes (seen_in (g.H.Host.world c.args.host.now).disk) x ≡ Err place = subst (λ (d : Disk). version_numbered c.args.slot format shapes (seen_in d) x ≡ Err place) mid.disk here in
    let at : file ≡ Grain c.args.slot x.written.grain = c.in_err-version.ensures.file file place (ap failed is) in
    passed_here c.args.slot format shapes _ xs (drop i xs) (inv.passed told) x (drop (i + 1) xs) next place there ∙ ap (λ (f : FileId). Some (f, place)) (sym at))
    (λ file is.
    let at : file ≡ Grain c.args.slot x.written.grain = c.in_err-version.ensures.failed file (ap failed is) in
    stops_here c.args.slot format shapes _ xs (drop i xs) (inv.passed told) x (drop (i + 1) xs) next file at)

pub returns-in_err-version-clause-asked : goal.returns-in_err-version-clause-asked
returns-in_err-version-clause-asked g c told = asked_then _ _ _ (asked_then _ _ _ (c.loop-one.invariant.asked told) (c.refill.ensures.asked told)) (c.numbered_version.ensures.asked told)

pub returns-in_err-version-clause-calls : goal.returns-in_err-version-clause-calls
returns-in_err-version-clause-calls g c =
    let p = err_from_is_err_and c.from_residual-in_err-version.result c.from_residual-in_err-version.ensures.1 in
    let calm = none_then _ _ _ c.loop-one.invariant.calm c.in_ok-refill.ensures.calls.calm in
    rw (p.1, p.2) record {
      ready = λ file was. c.numbered_version.ensures.calls.ready file (c.refill.ensures.calls.ready file (c.loop-one.invariant.ready file was));
      calm = tt;
      fault = subst (λ (x : Channel → ℕ). ReadFaulted c.in_err-version.field-0.0 x (g.H.Host.faults c.numbered_version.new.host)) (λ i channel. calm channel i) c.in_err-version.ensures.calls.fault;
    }

pub returns-in_err-keep-clause-asked : goal.returns-in_err-keep-clause-asked
returns-in_err-keep-clause-asked g c told = asked_then _ _ _ (asked_then _ _ _ (c.loop-one.invariant.asked told) (c.refill.ensures.asked told)) (c.numbered_version.ensures.asked told)

pub loop-one-preserved : goal.loop-one-preserved
loop-one-preserved g c =
    let inv = c.loop-one.invariant in
    let format = c.args.format in
    let programs = programs_in c.args.programs.now in
    let shapes = shapes_in_turn programs in
    let i = c.loop-one.one-index in
    let xs = c.args.named.now in
    let x : Named = get_or xs i no_name in
    let v = c.in_ok-version.version in
    let next = next_default i xs no_name c.loop-one-test.true in
    let image = seen_in (g.H.Host.world c.args.host.now).disk in
    let are : c.shapes.result.now ≡ shapes = c.shapes.ensures ∙ c.requires.shapes in
    let counts : length c.shapes.result.now ≡ length programs = ap length are ∙ length-map programs (λ (types : ProgramTree). record { types = type_shapes types }) in
    let found : (told : IsTrue g.H.Host.tells) → version_numbered c.args.slot format shapes image x ≡ Ok v = λ told.
    let here : version_numbered c.args.slot format shapes (seen_in (g.H.Host.world c.refill.new.host).disk) x ≡ Ok v = subst (λ (ss : List Shape). version_numbered c.args.slot format ss (seen_in (g.H.Host.world c.refill.new.host).disk) x ≡ Ok v) are (c.in_ok-version.ensures.found told) in
    subst (λ (d : Disk). version_numbered c.args.slot format shapes (seen_in d) x ≡ Ok v) (asked_then _ _ _ (inv.asked told) (c.refill.ensures.asked told)).disk here in
    record {
      at = ap (λ (n : ℕ). n + 1) inv.at;
      piece = still_piece _ _ _ _ _ (λ told. ap seen_in (inv.asked told).disk) c.in_ok-refill.ensures.piece;
      passed = λ told. passed_more c.args.slot format shapes image xs (drop i xs) (inv.passed told) x (drop (i + 1) xs) next v (found told);
      places = λ told grain. place_more c.args.slot format programs image x (drop (i + 1) xs) (drop i xs) grain v _ _ _ next (found told) (c.in_ok-keep.ensures.places grain) (inv.places told grain);
      ends = λ grain. end_more x (drop (i + 1) xs) (drop i xs) grain _ _ _ next (c.in_ok-keep.ensures.ends grain) (inv.ends grain);
      numbered = λ was. program_more programs x v (length programs) c.loop-one.places c.keep.new.places (subst (λ (n : ℕ). x.program < n) counts c.in_ok-version.ensures.numbered) c.in_ok-keep.ensures.places (inv.numbered was);
      near = λ was grain. near_more x grain _ _ (c.in_ok-version.ensures.near) (c.in_ok-keep.ensures.ends grain) (inv.near was grain);
      asked = λ told. asked_then _ _ _ (asked_then _ _ _ (inv.asked told) (c.refill.ensures.asked told)) (c.numbered_version.ensures.asked told);
      calm = none_then _ _ _ (none_then _ _ _ inv.calm c.in_ok-refill.ensures.calls.calm) c.in_ok-version.ensures.calls.calm;
      ready = λ file was. c.numbered_version.ensures.calls.ready file (c.refill.ensures.calls.ready file (inv.ready file was));
    }

pub returns-clause-kept : goal.returns-clause-kept
returns-clause-kept g c told =
    let format = c.args.format in
    let programs = programs_in c.args.programs.now in
    let shapes = shapes_in_turn programs in
    let image = seen_in (g.H.Host.world c.args.host.now).disk in
    let rest = drop c.loop-one.one-index c.args.named.now in
    let none = no_item c.loop-one.one-index c.args.named.now c.loop-one-test.false in
    record {
      whole = passed_all c.args.slot format shapes _ c.args.named.now rest (c.loop-one.invariant.passed told) none;
      places = λ grain. place_all c.args.slot format programs image rest grain _ _ none (c.loop-one.invariant.places told grain);
    }

pub returns-clause-ends : goal.returns-clause-ends
returns-clause-ends g c grain = end_all (drop c.loop-one.one-index c.args.named.now) grain _ _ (no_item c.loop-one.one-index c.args.named.now c.loop-one-test.false) (c.loop-one.invariant.ends grain)
