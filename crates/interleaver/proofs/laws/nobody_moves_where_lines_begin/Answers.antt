use Rattle.interleaver.proofs.RunStart.{nobody-goes}
use Rattle.interleaver.proofs.laws.nobody_moves_where_lines_begin.Goals as goal

pub returns : goal.returns
returns c = λ types o r settler lines above units can. nobody-goes types o r settler lines above units can
