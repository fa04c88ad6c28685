use Rattle.core_laws.proofs.SettlerSteps.{step-applies, step-shown, shows-versions, shows-chosen, tells-decided}
use Rattle.core_laws.proofs.laws.settler_steps_apply.Goals as goal

pub returns : goal.returns
returns c = record {
  applies = λ r e. step-applies r e;
  shown = λ r. step-shown r;
  versions = λ w b g. shows-versions w b g;
  effects = λ r above b ds q d. shows-chosen r above b ds q d;
  is_decided = λ w u. tells-decided w u;
}
