use Rattle.std.proofs.Common.{ℕ, refl, subst}
use Rattle.host_trait.specs.declared.channels.Channel.{Channel}
use Rattle.host_trait.specs.declared.channels.Channel.TheVariants.{File}
use Rattle.host_trait.specs.declared.channels.FileId.TheVariants.{Grain}
use Rattle.host_trait.specs.Faults.{FailedOn}
use Rattle.host_trait.proofs.Counts.{none_then}
use Rattle.log_reading.proofs.pieces.read_piece.Goals as goal

pub returns-in-Ok-clause-calls : goal.returns-in-Ok-clause-calls
returns-in-Ok-clause-calls g c = record {
  ready = λ file was. c.read_at.ensures.ready file (c.ready.ensures.ready file was);
  calm = none_then _ _ _ c.ready.ensures.faults (c.in-Ok.ensures.faults.calm refl);
  fault = tt;
}

pub returns-in-Err-clause-calls : goal.returns-in-Err-clause-calls
returns-in-Err-clause-calls g c = record {
  ready = λ file was. c.read_at.ensures.ready file (c.ready.ensures.ready file was);
  calm = tt;
  fault = subst (λ (x : Channel → ℕ). FailedOn (File (Grain c.args.slot c.args.grain)) x (g.H.Host.faults c.read_at.new.self)) (λ i channel. c.ready.ensures.faults channel i) (c.in-Err.ensures.faults.cause refl);
}
