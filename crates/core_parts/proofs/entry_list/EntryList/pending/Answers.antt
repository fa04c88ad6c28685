use Rattle.std.proofs.Common.{◌∙◌, sym, ap, drop}
use Rattle.core_parts.specs.Room.{EntriesInRoom}
use Rattle.core_parts.proofs.Pieces.{drop-first}
use Rattle.core_parts.proofs.entry_list.EntryList.pending.Goals as goal

pub returns : goal.returns
returns c =
    let l = c.self.inside in
    c.as_slices.ensures.items
    ∙ sym (drop-first l.emitted.entries l.pending.items)
    ∙ ap (λ (v : EntriesInRoom). drop v.emitted v.entries) c.self.view_is
