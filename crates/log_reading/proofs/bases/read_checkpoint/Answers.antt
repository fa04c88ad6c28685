use Rattle.std.proofs.Common.{rules, arith, ◌≡◌, ◌++◌, [], List, Option, true, false, fold, Some, None, Ok, Err, refl, sym, ◌∙◌, ap, subst, ℕ}
use Rattle.std.proofs.lemmas.Result.{err_from_is_err_and}
use Rattle.base_types.specs.declared.calls.GrainId.{GrainId}
use Rattle.base_types.specs.declared.shapes.Shape.{Shape}
use Rattle.host_trait.specs.World.{Disk}
use Rattle.host_trait.specs.declared.channels.FileId.TheVariants.{Manager}
use Rattle.host_trait.proofs.Runs.{asked_then}
use Rattle.host_trait.proofs.Counts.{none_then}
use Rattle.commit_log.specs.declared.records.Written.{Written}
use Rattle.commit_log.specs.Orders.{grain_after}
use Rattle.log_reading.specs.declared.faults.FolderFault.{FolderFault}
use Rattle.log_reading.specs.Steps.{next_piece_in, IsFollowedBy}
use Rattle.log_reading.proofs.Errors.{other_value}
use Rattle.log_reading.proofs.RecordSums.{session_low}
use Rattle.log_reading.proofs.CheckpointLoop.{last_of, last_more, FollowsPieces, pieces_begin, pieces_on, pieces_end, pieces_break}
use Rattle.host_trait.specs.declared.channels.Channel.{Channel}
use Rattle.log_reading.specs.Counts.{ReadFaulted}
use Rattle.log_reading.proofs.bases.read_checkpoint.Goals as goal

pub loop-saved-init : goal.loop-saved-init
loop-saved-init g c = record {
  bound = omega arith;
  last = sym (ap last_of c.new-saved.ensures);
  pieces = λ told of_text same begins. subst (λ (l : List Written). FollowsPieces c.args.format of_text ((g.H.Host.world c.args.host.now).disk (Manager c.args.slot)).seen None l 15) (sym c.new-saved.ensures) (pieces_begin c.args.format of_text _ begins);
  asked = search rules;
  calm = λ channel. refl;
  ready = λ file was. was;
}

pub returns-in_err-piece-clause-damaged : goal.returns-in_err-piece-clause-damaged
returns-in_err-piece-clause-damaged g c =
    let p = err_from_is_err_and c.from_residual.result c.from_residual.ensures.1 in
    let inv = c.loop-saved.invariant in
    let format = c.args.format in
    let shape = c.args.shape.now in
    let gate = c.loop-saved.gate_at in
    let first = c.loop-saved.first in
    let seen = ((g.H.Host.world c.args.host.now).disk (Manager c.args.slot)).seen in
    rw (p.1, p.2) λ file place is told of_text same begins.
    let here = c.in_err-piece.ensures.damaged file place (other_value _ (FolderFault.Damaged file place) is) told in
    let there : next_piece_in format shape first c.loop-saved.last gate seen ≡ Err place = subst (λ (d : Disk). next_piece_in format shape first c.loop-saved.last gate (d (Manager c.args.slot)).seen ≡ Err place) (inv.asked told).disk here in
    pieces_break format of_text seen first c.loop-saved.saved gate (inv.pieces told of_text same begins) place
    (subst (λ (s : Shape). next_piece_in format s first (last_of c.loop-saved.saved) gate seen ≡ Err place) (sym same) (subst (λ (l : Option GrainId). next_piece_in format shape first l gate seen ≡ Err place) inv.last there))

pub returns-in_err-piece-clause-calls : goal.returns-in_err-piece-clause-calls
returns-in_err-piece-clause-calls g c =
    let p = err_from_is_err_and c.from_residual.result c.from_residual.ensures.1 in
    let inv = c.loop-saved.invariant in
    rw (p.1, p.2) record {
      ready = λ at was. c.next_piece.ensures.calls.ready at (inv.ready at was);
      calm = tt;
      fault = subst (λ (x : Channel → ℕ). ReadFaulted c.in_err-piece.field-0.0 x (g.H.Host.faults c.next_piece.new.host)) (λ i channel. inv.calm channel i) c.in_err-piece.ensures.calls.fault;
    }

pub returns-in_err-piece-clause-asked : goal.returns-in_err-piece-clause-asked
returns-in_err-piece-clause-asked g c told = asked_then _ _ _ (c.loop-saved.invariant.asked told) (c.next_piece.ensures.asked told)

pub returns-in_err-last-clause-calls : goal.returns-in_err-last-clause-calls
returns-in_err-last-clause-calls g c =
    let p = err_from_is_err_and c.from_residual-in_err-last.result c.from_residual-in_err-last.ensures.1 in
    let inv = c.loop-saved.invariant in
    rw (p.1, p.2) record {
      ready = λ at was. c.next_piece.ensures.calls.ready at (inv.ready at was);
      calm = tt;
      fault = none_then _ _ _ inv.calm c.in_ok-piece.ensures.calls.calm;
    }

pub returns-in_err-last-clause-asked : goal.returns-in_err-last-clause-asked
returns-in_err-last-clause-asked g c told = asked_then _ _ _ (c.loop-saved.invariant.asked told) (c.next_piece.ensures.asked told)

pub loop-saved-preserved : goal.loop-saved-preserved
loop-saved-preserved g c =
    let inv = c.loop-saved.invariant in
    let format = c.args.format in
    let shape = c.args.shape.now in
    let gate = c.loop-saved.gate_at in
    let first = c.loop-saved.first in
    let before = c.loop-saved.saved in
    let piece = c.in_ok-piece.piece in
    let behind = c.in_ok-piece.behind in
    let seen = ((g.H.Host.world c.args.host.now).disk (Manager c.args.slot)).seen in
    let saved : c.add_saved.new.saved ≡ before ++ piece.writes = c.in_ok-last.ensures.saved ∙ ap (λ (l : List Written). before ++ l) c.as_slice.ensures in
    let grain : c.in_ok-last.last ≡ fold grain_after c.loop-saved.last piece.writes = c.in_ok-last.ensures.last ∙ ap (fold grain_after c.loop-saved.last) c.as_slice.ensures in
    let more : piece.more ≡ true = search rules in
    record {
      bound = c.in_ok-piece.ensures.further.1;
      last = grain ∙ ap (λ (l : Option GrainId). fold grain_after l piece.writes) inv.last ∙ sym (last_more before piece.writes) ∙ sym (ap last_of saved);
      pieces = λ told of_text same begins.
          let here : next_piece_in format shape first c.loop-saved.last gate ((g.H.Host.world c.loop-saved.host).disk (Manager c.args.slot)).seen ≡ Ok (piece, behind) = c.in_ok-piece.ensures.found told in
          let there : next_piece_in format shape first c.loop-saved.last gate seen ≡ Ok (piece, behind) = subst (λ (d : Disk). next_piece_in format shape first c.loop-saved.last gate (d (Manager c.args.slot)).seen ≡ Ok (piece, behind)) (inv.asked told).disk here in
          let at_last : next_piece_in format shape first (last_of before) gate seen ≡ Ok (piece, behind) = subst (λ (l : Option GrainId). next_piece_in format shape first l gate seen ≡ Ok (piece, behind)) inv.last there in
          subst (λ (l : List Written). FollowsPieces format of_text seen (Some piece.head) l behind) (sym saved) (pieces_on format of_text seen first before gate (inv.pieces told of_text same begins) piece behind (subst (λ (s : Shape). next_piece_in format s first (last_of before) gate seen ≡ Ok (piece, behind)) (sym same) at_last) more);
      asked = λ told. asked_then _ _ _ (inv.asked told) (c.next_piece.ensures.asked told);
      calm = none_then _ _ _ inv.calm c.in_ok-piece.ensures.calls.calm;
      ready = λ file was. c.next_piece.ensures.calls.ready file (inv.ready file was);
    }

pub returns-then-not-piece-clause-begins : goal.returns-then-not-piece-clause-begins
returns-then-not-piece-clause-begins g c =
    let inv = c.loop-saved.invariant in
    let format = c.args.format in
    let shape = c.args.shape.now in
    let gate = c.loop-saved.gate_at in
    let first = c.loop-saved.first in
    let before = c.loop-saved.saved in
    let piece = c.in_ok-piece.piece in
    let behind = c.in_ok-piece.behind in
    let seen = ((g.H.Host.world c.args.host.now).disk (Manager c.args.slot)).seen in
    let saved : c.add_saved.new.saved ≡ before ++ piece.writes = c.in_ok-last.ensures.saved ∙ ap (λ (l : List Written). before ++ l) c.as_slice.ensures in
    let more : piece.more ≡ false = search rules in
    λ told of_text same begins.
    let here : next_piece_in format shape first c.loop-saved.last gate ((g.H.Host.world c.loop-saved.host).disk (Manager c.args.slot)).seen ≡ Ok (piece, behind) = c.in_ok-piece.ensures.found told in
    let there : next_piece_in format shape first c.loop-saved.last gate seen ≡ Ok (piece, behind) = subst (λ (d : Disk). next_piece_in format shape first c.loop-saved.last gate (d (Manager c.args.slot)).seen ≡ Ok (piece, behind)) (inv.asked told).disk here in
    let at_last : next_piece_in format shape first (last_of before) gate seen ≡ Ok (piece, behind) = subst (λ (l : Option GrainId). next_piece_in format shape first l gate seen ≡ Ok (piece, behind)) inv.last there in
    subst (λ (l : List Written). IsFollowedBy format of_text seen (record { count = piece.head.count; next = piece.head.next_unit.0; session = piece.head.session; writes = l }) [] [] piece.head.session behind) (sym saved) (pieces_end format of_text seen first before gate (inv.pieces told of_text same begins) piece behind (subst (λ (s : Shape). next_piece_in format s first (last_of before) gate seen ≡ Ok (piece, behind)) (sym same) at_last) more)

pub returns-then-not-piece-clause-bound : goal.returns-then-not-piece-clause-bound
returns-then-not-piece-clause-bound g c = record {
  gate = c.in_ok-piece.ensures.further.1;
  count = c.in_ok-piece.ensures.fits.count;
  some = c.in_ok-piece.ensures.fits.next.0;
  next = c.in_ok-piece.ensures.fits.next.1;
  session = session_low c.args.format 0 c.in_ok-piece.piece.head.session c.in_ok-piece.ensures.fits.session;
}

pub returns-then-not-piece-clause-asked : goal.returns-then-not-piece-clause-asked
returns-then-not-piece-clause-asked g c told = asked_then _ _ _ (c.loop-saved.invariant.asked told) (c.next_piece.ensures.asked told)

pub returns-then-not-piece-clause-calls : goal.returns-then-not-piece-clause-calls
returns-then-not-piece-clause-calls g c =
    let inv = c.loop-saved.invariant in
    record {
      ready = λ at was. c.next_piece.ensures.calls.ready at (inv.ready at was);
      calm = none_then _ _ _ inv.calm c.in_ok-piece.ensures.calls.calm;
      fault = tt;
    }
