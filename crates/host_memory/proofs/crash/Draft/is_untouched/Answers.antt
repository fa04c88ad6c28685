use Rattle.std.proofs.Common.{◌<◌, ◌≤◌, ◌-◌, ℕ, List, length, get_or, subst}
use Rattle.host_memory.proofs.CrashDraws.{touched}
use Rattle.host_memory.proofs.crash.Draft.is_untouched.Goals as goal

pub returns-then-i-range : goal.returns-then-i-range
returns-then-i-range c untouched =
    let ranges = c.args.self.now.ranges.items in
    let k = c.loop-range.range-index in
    let same = c.as_slice-range-items.ensures.value in
    touched ranges c.args.i k
    (subst (λ (l : List (ℕ × ℕ)). k < length l) same c.loop-range-test.true)
    (subst (λ (l : List (ℕ × ℕ)). (get_or l k (0, 0)).0 ≤ c.args.i) same c.if-range-i.true)
    (subst (λ (l : List (ℕ × ℕ)). c.args.i - (get_or l k (0, 0)).0 < (get_or l k (0, 0)).1) same c.if-i-range.true)
    untouched
