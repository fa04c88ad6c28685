use Rattle.std.proofs.Common.{rules}
use Rattle.host_files.proofs.windows.Windows.measure.Goals as goal

pub returns : goal.returns
returns c = λ disk is so. record {
  shown = λ believed. (c.settle.ensures.so disk so).shown c.settle.ensures.believed;
  measured = λ believed measured same. search (rules, is);
}
