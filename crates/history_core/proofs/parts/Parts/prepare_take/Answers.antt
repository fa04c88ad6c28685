use Rattle.std.proofs.Common.{refl}
use Rattle.history_core.proofs.Takes.{keeps-room}
use Rattle.history_core.proofs.parts.Parts.prepare_take.Goals as goal

pub returns-in_err-reserve-clause-keeps : goal.returns-in_err-reserve-clause-keeps
returns-in_err-reserve-clause-keeps c = λ none.
    keeps-room c.args.self.now c.reserve.new.self c.args.self.now.learn c.args.self.now.last none c.reserve.ensures.entries c.reserve.ensures.emitted refl (λ g. refl)

pub returns-in_err-count-clause-keeps : goal.returns-in_err-count-clause-keeps
returns-in_err-count-clause-keeps c = λ none.
    keeps-room c.args.self.now c.reserve.new.self c.args.self.now.learn c.args.self.now.last none c.reserve.ensures.entries c.reserve.ensures.emitted refl (λ g. refl)

pub returns-in_err-reserve-2-clause-keeps : goal.returns-in_err-reserve-2-clause-keeps
returns-in_err-reserve-2-clause-keeps c = λ none.
    keeps-room c.args.self.now c.reserve.new.self c.reserve-2.new.self c.args.self.now.last none c.reserve.ensures.entries c.reserve.ensures.emitted c.reserve-2.ensures.pairs (λ g. refl)

pub returns-clause-keeps : goal.returns-clause-keeps
returns-clause-keeps c = λ none.
    keeps-room c.args.self.now c.reserve.new.self c.reserve-2.new.self c.place_all.new.last none c.reserve.ensures.entries c.reserve.ensures.emitted c.reserve-2.ensures.pairs c.place_all.ensures.same
