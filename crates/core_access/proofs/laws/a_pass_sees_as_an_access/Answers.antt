use Rattle.std.proofs.Common.{refl}
use Rattle.core_access.proofs.ByPass.{pass-looks, pass-tells}
use Rattle.core_access.proofs.laws.a_pass_sees_as_an_access.Goals as goal

pub returns-clause-run : goal.returns-clause-run
returns-clause-run g c = λ state v. refl

pub returns-clause-looks : goal.returns-clause-looks
returns-clause-looks g c = λ state v w s. pass-looks state v w s

pub returns-clause-tells : goal.returns-clause-tells
returns-clause-tells g c = λ state v w e r a. pass-tells state v w e r a
