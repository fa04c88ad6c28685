use Rattle.std.proofs.Common.{refl}
use Rattle.std.specs.Prelude.{slice_index}
use Rattle.std.proofs.lemmas.Bool.{eq-eqb}
use Rattle.silo_opening.proofs.Fronts.{no_name}
use Rattle.silo_opening.proofs.headers.header_of.Goals as goal

pub returns-in-None : goal.returns-in-None
returns-in-None c = no_name c.args.head.now (eq-eqb (slice_index c.args.head.now 0) 1 c.if-head-ne1.false) (c.in-None.ensures.other refl)
