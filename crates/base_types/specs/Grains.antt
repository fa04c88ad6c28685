-- Grains by their numbers.
use Rattle.std.specs.Prelude.{Bool, ◌&&◌, ◌||◌, ◌==◌, nat_lt}
use Rattle.base_types.specs.declared.calls.GrainId.{GrainId}

-- the two are one grain
abbrev pub same_grain : GrainId → GrainId → Bool
same_grain a b = (a.kind == b.kind) && (a.key == b.key)

-- the first grain comes before the second: by type, then key
abbrev pub is_before : GrainId → GrainId → Bool
is_before a b = nat_lt a.kind b.kind || ((a.kind == b.kind) && nat_lt a.key b.key)
