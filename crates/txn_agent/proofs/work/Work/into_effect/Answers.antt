use Rattle.std.proofs.Common.{ap, ◌∙◌, sym}
use Rattle.std.specs.Prelude.{length}
use Rattle.base_types.specs.Origins.{depth_of}
use Rattle.script_meaning.specs.Trails.{reads_of, states_of}
use Rattle.script_meaning.proofs.SingleReads.{trails_read_once_lem}
use Rattle.txn_agent.proofs.Effects.{effect-is}
use Rattle.txn_agent.proofs.work.Work.into_effect.Goals as goal

pub with_sources-requires : goal.with_sources-requires
with_sources-requires c = record { each = c.requires.sources ∙ ap length (sym c.effect_parts-answers.ensures.reads) }

pub returns-clause-effect : goal.returns-clause-effect
returns-clause-effect c = λ types trail f. effect-is types c.args.carried c.args.self trail f c.effect_parts-answers.result c.in_ok-reads.reads
    (c.effect_parts-answers.ensures.result types)
    (c.effect_parts-answers.ensures.play types c.args.self.call (depth_of c.args.carried.origin) trail f (states_of (reads_of trail)) (trails_read_once_lem types c.args.self.call (depth_of c.args.carried.origin) trail f.named).found)
    c.in_ok-reads.ensures.found c.effect_parts-answers.ensures.reads c.in_ok-reads.ensures.sources
