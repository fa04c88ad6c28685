use Rattle.std.proofs.Common.{◌≡◌, ◌∙◌, ◌++◌, sym, ap, subst, refl, List, Some, None, IsSome, is_some, true≢false}
use Rattle.std.specs.BTreeMap.{is_at}
use Rattle.std.specs.Map.{lookup}
use Rattle.std.specs.Option.{option_copied_mut}
use Rattle.base_types.specs.MapEntries.{SetsValue}
use Rattle.base_types.specs.Seats.{filled}
use Rattle.base_types.proofs.SeatEdits.{puts, seats, keeps, value_missing, none_copied}
use Rattle.base_types.proofs.seats.Seats.replace.Goals as goal
use Rattle.base_types.proofs.seats.Seats.replace.Goals.{in-Some, in_default}

pub returns-then-is_some-clause-sets : goal.returns-then-is_some-clause-sets
returns-then-is_some-clause-sets g c =
    let rooms = c.self.inside.rooms.entries in
    subst (λ (l : List _). SetsValue g.K.Ord.cmp l (filled c.replace.new.self ++ rooms) c.args.key (Some c.args.value)) c.self.view_is
    (puts g.met.K.Ord.total c.self.inside.values c.replace.new.self rooms c.args.key c.args.value c.replace.ensures)

pub returns-then-is_some-clause-room : goal.returns-then-is_some-clause-room
returns-then-is_some-clause-room g c = keeps g.met.K.Ord.total c.args.self.now (filled c.replace.new.self ++ c.self.inside.rooms.entries) c.args.key (Some c.args.value) (returns-then-is_some-clause-sets g c)

pub returns-clause-sets : goal.returns-clause-sets
returns-clause-sets g c =
    let values = c.self.inside.values in
    let rooms = c.self.inside.rooms.entries in
    let missing : lookup (is_at (g.K.Ord.cmp c.args.key)) values ≡ None = sym c.get.ensures ∙ none_copied c.get.result (sym c.is_some.ensures ∙ c.if-is_some.false) in
    elim c.match-get_mut.branch [
      | in-Some w ↦ (
          let new = c.get_mut.follows.lender w.fill.new.seat in
          let updates = (c.get_mut.follows.holds w.fill.new.seat).3 (subst IsSome w.in-Some.ensures.value refl) in
          let sets = seats g.met.K.Ord.total values rooms new.entries c.args.key w.fill.new.seat missing updates.0 in
          subst (λ inside. SetsValue g.K.Ord.cmp c.args.self.now (filled inside.values ++ inside.rooms.entries) c.args.key (Some c.args.value)) (sym w.self-inside-is)
          (subst (λ seat. SetsValue g.K.Ord.cmp c.args.self.now (filled values ++ new.entries) c.args.key seat) w.fill.ensures
          (subst (λ (l : List _). SetsValue g.K.Ord.cmp l (filled values ++ new.entries) c.args.key w.fill.new.seat) c.self.view_is sets)))
      | in_default w ↦ (
          let none = sym c.get_mut.ensures.value ∙ ap option_copied_mut w.in_default.is in
          let gone = sym (ap (λ (l : List _). lookup (is_at (g.K.Ord.cmp c.args.key)) l) c.self.view_is) ∙ value_missing (is_at (g.K.Ord.cmp c.args.key)) values rooms missing ∙ none in
          absurd (true≢false (sym c.requires ∙ ap is_some gone)))
    ]

pub returns-clause-room : goal.returns-clause-room
returns-clause-room g c = keeps g.met.K.Ord.total c.args.self.now (filled c.match-get_mut.self-inside.values ++ c.match-get_mut.self-inside.rooms.entries) c.args.key (Some c.args.value) (returns-clause-sets g c)
