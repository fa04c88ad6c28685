use Rattle.std.proofs.Common.{◌≡◌, ◌∙◌, ℕ, ◌+◌, sym, ap, drop, get_or, List, ◌∷◌, None}
use Rattle.std.specs.Prelude.{if◌then◌else◌}
use Rattle.core_model.specs.Changes.{without_wants}
use Rattle.core_model.specs.CoreState.{UnitNo, GrainId, nobody, put_grain}
use Rattle.cell_memory.specs.LeavingGrains.{evicted_by, wanted_of}
use Rattle.cell_table.specs.Table.{cells_kept, leaves_where, limit_of, opens_with, used_of}
use Rattle.cell_table.specs.declared.table.CellTable.{CellTable}
use Rattle.cell_table.proofs.LeavingGrains.{other-wait, own-wait, waits-from}
use Rattle.cell_table.proofs.table.CellTable.evict_wanted.Goals as goal
use Rattle.cell_table.proofs.table.CellTable.evict_wanted.Goals.{then-eq, else-eq}

pub loop-want-preserved : goal.loop-want-preserved
loop-want-preserved c =
    let recent = c.args.self.now.recent in
    let wants = c.args.wants.now in
    let unit = c.args.unit in
    let i : ℕ = c.loop-want.want-index in
    let now = c.loop-want.self in
    let t : UnitNo × GrainId = get_or wants i (nobody, record { kind = 0; key = 0 }) in
    let rest : List (UnitNo × GrainId) = drop (i + 1) wants in
    let front : evicted_by (limit_of recent) (without_wants unit wants) (used_of recent) (wanted_of unit (t ∷ rest)) (cells_kept now)
    ≡ evicted_by (limit_of recent) (without_wants unit wants) (used_of recent) (wanted_of unit wants) (cells_kept c.args.self.now) =
    ap (λ (ts : List (UnitNo × GrainId)). evicted_by (limit_of recent) (without_wants unit wants) (used_of recent) (wanted_of unit ts) (cells_kept now)) (sym (waits-from wants i (nobody, record { kind = 0; key = 0 }) c.loop-want-test.true))
    ∙ c.loop-want.invariant.rest in
    elim c.if-eq.branch [
      | then-eq w ↦ record {
        rest =
            own-wait recent wants unit t rest (cells_kept now) (cells_kept c.if-eq.self) (sym c.eq.ensures ∙ w.if-eq.true)
            (ap cells_kept w.self-is ∙ w.evict_unless.ensures.evicts
            ∙ (λ k. if leaves_where (c.loop-want.invariant.recent k) (w.is_wanted_by_others.ensures k) t.1 (cells_kept now t.1) then put_grain (cells_kept now) t.1 None else cells_kept now))
            ∙ front;
        recent = ap (λ (s : CellTable). s.recent) w.self-is ∙ w.evict_unless.ensures.recent ∙ c.loop-want.invariant.recent;
        opens = ap opens_with w.self-is ∙ w.evict_unless.ensures.opens ∙ c.loop-want.invariant.opens;
      }
      | else-eq w ↦ record {
        rest =
            ap (λ (s : CellTable). evicted_by (limit_of recent) (without_wants unit wants) (used_of recent) (wanted_of unit rest) (cells_kept s)) w.self-is
            ∙ other-wait recent wants unit t rest (cells_kept now) (sym c.eq.ensures ∙ w.if-eq.false)
            ∙ front;
        recent = ap (λ (s : CellTable). s.recent) w.self-is ∙ c.loop-want.invariant.recent;
        opens = ap opens_with w.self-is ∙ c.loop-want.invariant.opens;
      }
    ]
