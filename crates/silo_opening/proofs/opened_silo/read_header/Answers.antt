use Rattle.std.proofs.Common.{List, ℕ, ◌∙◌, arith, rules}
use Rattle.host_trait.specs.declared.channels.FileId.TheVariants.{Manager}
use Rattle.silo_opening.proofs.Fronts.{header_short, header_none, header_told}
use Rattle.silo_opening.proofs.opened_silo.read_header.Goals as goal

pub returns-then-not-long-clause-told : goal.returns-then-not-long-clause-told
returns-then-not-long-clause-told g c told = header_short ((g.H.Host.world c.args.host.now).disk (Manager c.args.slot)).seen c.args.long (c.requires.long told) (search rules)

pub returns-then-not-branch-clause-told : goal.returns-then-not-branch-clause-told
returns-then-not-branch-clause-told g c told =
    let seen : List ℕ = ((g.H.Host.world c.args.host.now).disk (Manager c.args.slot)).seen in
    let short = c.in_ok-read_full.ensures.short told (search rules) in
    header_none seen (omega (arith, short))

pub returns-clause-told : goal.returns-clause-told
returns-clause-told g c told =
    let seen : List ℕ = ((g.H.Host.world c.args.host.now).disk (Manager c.args.slot)).seen in
    let full = c.in_ok-read_full.ensures.full told (search rules) in
    c.header_of.ensures ∙ header_told seen c.read_full.new.into (omega (arith, full.0)) full.1
