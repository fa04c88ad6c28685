use Rattle.std.proofs.Common.{◌≡◌, ◌∙◌, refl, sym, ap, subst, Bool, length, false}
use Rattle.std.specs.Prelude.{Option}
use Rattle.core_model.specs.LegalRuns.{ends}
use Rattle.history_core.specs.Cores.{run_of}
use Rattle.unit_carrier.specs.CarriedUnits.{units_carried}
use Rattle.interleaver.specs.Flights.{flown_unless, is_open_line}
use Rattle.interleaver.specs.LastLook.{IsLooked}
use Rattle.interleaver.proofs.LastLook.{all-open, looked-flown, now-looked, open-flown}
use Rattle.interleaver.proofs.flights.drop_unless_doubted.Goals as goal

pub returns-then-is_still-clause-flown : goal.returns-then-is_still-clause-flown
returns-then-is_still-clause-flown c =
    let r = run_of c.args.core.now in
    let agents = c.args.agents.now.list.items in
    let still = c.is_still.ensures c.if-is_still.true in
    let calm : c.args.settler.now.doubted ≡ false = sym c.doubted.ensures ∙ c.if-doubted.false in
    looked-flown c.requires.carried.0 r agents c.requires.carried.1 (length (ends r).manager.settled) (subst (λ (o : Option _). IsLooked o r (units_carried agents)) still.0 c.requires.looked) refl still.1
    ∙ ap (λ (d : Bool). flown_unless d (ends r) agents) (sym calm)

pub returns-then-are_open-clause-flown : goal.returns-then-are_open-clause-flown
returns-then-are_open-clause-flown c =
    let r = run_of c.args.core.now in
    let agents = c.args.agents.now.list.items in
    let calm : c.args.settler.now.doubted ≡ false = sym c.doubted.ensures ∙ c.if-doubted.false in
    open-flown c.requires.carried.0 r agents c.requires.carried.1 (all-open (is_open_line (ends r)) agents (sym c.are_open.ensures ∙ c.if-are_open.true))
    ∙ ap (λ (d : Bool). flown_unless d (ends r) agents) (sym calm)

pub returns-then-are_open-clause-looked : goal.returns-then-are_open-clause-looked
returns-then-are_open-clause-looked c =
    let r = run_of c.args.core.now in
    let agents = c.args.agents.now.list.items in
    now-looked c.requires.carried.0 r agents c.requires.carried.1 c.looked_now.result c.looked_now.ensures (all-open (is_open_line (ends r)) agents (sym c.are_open.ensures ∙ c.if-are_open.true))
