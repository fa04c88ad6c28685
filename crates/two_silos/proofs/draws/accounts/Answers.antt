use Rattle.std.proofs.Common.{◌≡◌, ◌+◌, ◌*◌, ◌++◌, ◌∷◌, [], ◌∙◌, arith, rules, ap, pos}
use Rattle.two_silos.specs.GeneratedEvents.{account, accounts}
use Rattle.two_silos.proofs.CheckLoops.{accounts_on, accounts_all}
use Rattle.two_silos.proofs.draws.accounts.Goals as goal

pub loop-at-init : goal.loop-at-init
loop-at-init c =
    let first : c.args.first + 2 * 0 ≡ c.args.first = omega arith in
    ap (λ l. l ++ accounts (c.args.first + 2 * 0) 32) c.new-made.ensures.items ∙ ap (λ k. accounts k 32) first

pub loop-at-preserved : goal.loop-at-preserved
loop-at-preserved c =
    let key : c.account.result ≡ account (c.args.first + 2 * c.loop-at.at) = search rules in
    let here : c.push.new.self.items ≡ c.loop-at.made.items ++ (account (c.args.first + 2 * c.loop-at.at), pos 1000) ∷ [] = search rules in
    accounts_on c.args.first 32 c.loop-at.at c.loop-at.made.items c.push.new.self.items _ c.loop-at-test.true here c.loop-at.invariant

pub returns : goal.returns
returns c = c.from_vec.ensures ∙ accounts_all c.args.first 32 c.loop-at.at c.loop-at.made.items _ c.loop-at-test.false c.loop-at.invariant
