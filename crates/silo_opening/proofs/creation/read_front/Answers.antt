use Rattle.std.proofs.Common.{◌≤◌, ◌<◌, inl, ℕ, List, length, ◌∙◌, arith, rules}
use Rattle.host_trait.specs.declared.channels.FileId.TheVariants.{Manager}
use Rattle.silo_spec.specs.Silos.{IsMagic}
use Rattle.silo_opening.proofs.Fronts.{first_in, front_silo, front_other}
use Rattle.silo_opening.proofs.creation.read_front.Goals as goal

pub returns-then-not-branch-clause-shows : goal.returns-then-not-branch-clause-shows
returns-then-not-branch-clause-shows g c told =
    let short = c.in_ok-read_full.ensures.short told (search rules) in
    (c.requires.some told, inl (omega (arith, short)))

pub returns-then-bytes-ne1-clause-shows : goal.returns-then-bytes-ne1-clause-shows
returns-then-bytes-ne1-clause-shows g c told =
    let seen : List ℕ = ((g.H.Host.world c.args.host.now).disk (Manager c.args.slot)).seen in
    let full = c.in_ok-read_full.ensures.full told c.if-not-branch.false in
    (c.requires.some told, λ one. c.if-bytes-ne1.true (first_in seen c.read_full.new.into full.1 ∙ one))

pub returns-in-Some-clause-shows : goal.returns-in-Some-clause-shows
returns-in-Some-clause-shows g c told =
    let seen : List ℕ = ((g.H.Host.world c.args.host.now).disk (Manager c.args.slot)).seen in
    let bytes : List ℕ = c.read_full.new.into in
    let full = c.in_ok-read_full.ensures.full told c.if-not-branch.false in
    let long : 16 ≤ length seen = omega (arith, full.0) in
    front_silo IsMagic seen bytes long full.1 c.if-bytes-ne1.false (search rules)

pub returns-in-None-clause-shows : goal.returns-in-None-clause-shows
returns-in-None-clause-shows g c told =
    let seen : List ℕ = ((g.H.Host.world c.args.host.now).disk (Manager c.args.slot)).seen in
    let bytes : List ℕ = c.read_full.new.into in
    let full = c.in_ok-read_full.ensures.full told c.if-not-branch.false in
    let some : 0 < length seen = omega (arith, full.0) in
    (some, front_other IsMagic seen bytes full.1 (search rules))
