use Rattle.std.proofs.Common.{◌≡◌, ℕ, List, ◌+◌, ◌-◌, ◌++◌, length, take, nat_lt, refl, sym, ap, subst, ◌∙◌, arith, take_all}
use Rattle.std.proofs.Math.ListN.{drop_of_length-le}
use Rattle.std.proofs.Math.Seq.{take-append_seam}
use Rattle.std.proofs.lemmas.List.{take-append-drop}
use Rattle.request_wire.specs.Lines.{lines_of}
use Rattle.promise_spec.specs.Windows.{first_bad}
use Rattle.input_windows.specs.Scans.{ScanStands}
use Rattle.input_windows.specs.Windows.{window_in, left_in, before_in, given_in}
use Rattle.input_windows.proofs.Giving.{on_same_fault, took_then, took_as, took_nothing, gives_full, gives_rest, refuses_pull, none_begun, left_in_all, found_end, found_bad, found_open}
use Rattle.input_windows.proofs.Places.{left_size, measure_falls}
use Rattle.input_windows.proofs.Standing.{lines_that_stand, few_stand}
use Rattle.input_windows.proofs.Still.{still_then}
use Rattle.input_windows.proofs.windows.InputWindows.next_window.Goals as goal

-- ---- a whole window

pub overflow_add-seen : goal.overflow_add-seen
overflow_add-seen g c =
    let w = c.loop-size.self in
    let inv = c.loop-size.invariant in
    let L = left_in w in
    let seen = c.loop-size.seen in
    let is = left_in_all w w.start c.deref.result.now seen c.deref.ensures.value refl inv.begun inv.within in
    let f = found_end (before_in w) seen c.in-End.size L _ inv.within is (c.in-End.ensures (before_in w) (take seen L) inv.room inv.stands) in
    let size = left_size w.buffer.items w.end w.filled w.within w.room in
    let most = f.0 in
    omega (arith, most, size)

pub give-requires-clause-within : goal.give-requires-clause-within
give-requires-clause-within g c =
    let w = c.loop-size.self in
    let inv = c.loop-size.invariant in
    let L = left_in w in
    let seen = c.loop-size.seen in
    let is = left_in_all w w.start c.deref.result.now seen c.deref.ensures.value refl inv.begun inv.within in
    (found_end (before_in w) seen c.in-End.size L _ inv.within is (c.in-End.ensures (before_in w) (take seen L) inv.room inv.stands)).0

pub give-requires-clause-few : goal.give-requires-clause-few
give-requires-clause-few g c =
    let w = c.loop-size.self in
    let inv = c.loop-size.invariant in
    let L = left_in w in
    let seen = c.loop-size.seen in
    let is = left_in_all w w.start c.deref.result.now seen c.deref.ensures.value refl inv.begun inv.within in
    let few = (found_end (before_in w) seen c.in-End.size L _ inv.within is (c.in-End.ensures (before_in w) (take seen L) inv.room inv.stands)).1.few in
    omega (arith, few)

pub give-requires-clause-lines : goal.give-requires-clause-lines
give-requires-clause-lines g c =
    let w = c.loop-size.self in
    let inv = c.loop-size.invariant in
    let L = left_in w in
    let seen = c.loop-size.seen in
    let is = left_in_all w w.start c.deref.result.now seen c.deref.ensures.value refl inv.begun inv.within in
    (found_end (before_in w) seen c.in-End.size L _ inv.within is (c.in-End.ensures (before_in w) (take seen L) inv.room inv.stands)).1.full.count

pub returns-in-End-clause-gave : goal.returns-in-End-clause-gave
returns-in-End-clause-gave g c =
    let w = c.loop-size.self in
    let inv = c.loop-size.invariant in
    let L = left_in w in
    let seen = c.loop-size.seen in
    let is = left_in_all w w.start c.deref.result.now seen c.deref.ensures.value refl inv.begun inv.within in
    let f = found_end (before_in w) seen c.in-End.size L _ inv.within is (c.in-End.ensures (before_in w) (take seen L) inv.room inv.stands) in
    let took = took_as g.H.Host.tells (g.H.Host.world c.args.host.now) (g.H.Host.world c.loop-size.host) _ (left_in c.args.self.now) L L inv.took c.go_on.ensures.left refl in
    (gives_full g.H.Host.tells (g.H.Host.world c.args.host.now) (g.H.Host.world c.loop-size.host) (before_in w) (seen + c.in-End.size) (left_in c.args.self.now) L c.give.new.self took f.1
    c.give.ensures.window c.give.ensures.left c.give.ensures.before c.give.ensures.last).gave

pub returns-in-End-clause-next : goal.returns-in-End-clause-next
returns-in-End-clause-next g c =
    let w = c.loop-size.self in
    let inv = c.loop-size.invariant in
    let L = left_in w in
    let seen = c.loop-size.seen in
    let is = left_in_all w w.start c.deref.result.now seen c.deref.ensures.value refl inv.begun inv.within in
    let f = found_end (before_in w) seen c.in-End.size L _ inv.within is (c.in-End.ensures (before_in w) (take seen L) inv.room inv.stands) in
    let took = took_as g.H.Host.tells (g.H.Host.world c.args.host.now) (g.H.Host.world c.loop-size.host) _ (left_in c.args.self.now) L L inv.took c.go_on.ensures.left refl in
    (gives_full g.H.Host.tells (g.H.Host.world c.args.host.now) (g.H.Host.world c.loop-size.host) (before_in w) (seen + c.in-End.size) (left_in c.args.self.now) L c.give.new.self took f.1
    c.give.ensures.window c.give.ensures.left c.give.ensures.before c.give.ensures.last).next

-- ---- a bad line

pub overflow_add-line : goal.overflow_add-line
overflow_add-line g c =
    let w = c.loop-size.self in
    let inv = c.loop-size.invariant in
    let few = (c.in-BadLine.ensures (before_in w) (take c.loop-size.seen (left_in w)) inv.room inv.stands).2 in
    omega (arith, few)

pub returns-in-BadLine-clause-refused : goal.returns-in-BadLine-clause-refused
returns-in-BadLine-clause-refused g c =
    let w = c.loop-size.self in
    let inv = c.loop-size.invariant in
    let L = left_in w in
    let seen = c.loop-size.seen in
    let is = left_in_all w w.start c.deref.result.now seen c.deref.ensures.value refl inv.begun inv.within in
    let found = c.in-BadLine.ensures (before_in w) (take seen L) inv.room inv.stands in
    let number = before_in w + c.in-BadLine.behind + 1 in
    let bad = found_bad (before_in w) seen number L _ is found.0 in
    let e : before_in w ≡ given_in c.args.self.now = inv.before ∙ c.go_on.ensures.before in
    let few = found.1 in
    (number, λ more. ap (λ (k : ℕ). first_bad k (lines_of (L ++ more))) (sym e) ∙ bad more, omega (arith, e), omega (arith, e, few), refl)

-- ---- a pull

pub pull_piece-requires-clause-few : goal.pull_piece-requires-clause-few
pull_piece-requires-clause-few g c =
    let w = c.loop-size.self in
    let inv = c.loop-size.invariant in
    let L = left_in w in
    let seen = c.loop-size.seen in
    let is = left_in_all w w.start c.deref.result.now seen c.deref.ensures.value refl inv.begun inv.within in
    let found = c.in-Open.ensures (before_in w) (take seen L) inv.room inv.stands in
    let bound = (found_open (before_in w) seen c.in-Open.ended c.in-Open.bytes L _ is found.0).bound in
    let few = found.1 in
    let short = found.2 in
    omega (arith, bound, few, short)

-- ---- a pull that failed

pub returns-in_err-pull_piece-clause-took : goal.returns-in_err-pull_piece-clause-took
returns-in_err-pull_piece-clause-took g c =
    let inv = c.loop-size.invariant in
    let pulled = c.in_err-pull_piece.ensures in
    let next = c.pull_piece.new.self in
    took_as g.H.Host.tells (g.H.Host.world c.args.host.now) (g.H.Host.world c.pull_piece.new.host) _ (left_in c.args.self.now) (left_in next) (window_in next ++ left_in next)
    (took_then g.H.Host.tells _ _ _ _ _ _ inv.took pulled.took) c.go_on.ensures.left (ap (λ (l : List ℕ). l ++ left_in next) (none_begun next pulled.begun))

pub returns-in_err-pull_piece-clause-refused : goal.returns-in_err-pull_piece-clause-refused
returns-in_err-pull_piece-clause-refused g c =
    let w = c.loop-size.self in
    let inv = c.loop-size.invariant in
    let L = left_in w in
    let seen = c.loop-size.seen in
    let is = left_in_all w w.start c.deref.result.now seen c.deref.ensures.value refl inv.begun inv.within in
    let found = c.in-Open.ensures (before_in w) (take seen L) inv.room inv.stands in
    let stands = found_open (before_in w) seen c.in-Open.ended c.in-Open.bytes L _ is found.0 in
    let pulled = c.in_err-pull_piece.ensures in
    let e : before_in w ≡ given_in c.args.self.now = inv.before ∙ c.go_on.ensures.before in
    let here : ScanStands (given_in c.args.self.now) (left_in c.pull_piece.new.self) c.in-Open.ended c.in-Open.bytes =
    subst (λ (k : ℕ). ScanStands k (left_in c.pull_piece.new.self) c.in-Open.ended c.in-Open.bytes) e (subst (λ (l : List ℕ). ScanStands (before_in w) l c.in-Open.ended c.in-Open.bytes) (sym pulled.err) stands) in
    on_same_fault c.from_residual.result _ c.in_err-pull_piece.field-0.0 c.from_residual.ensures.1
    (refuses_pull c.in_err-pull_piece.field-0.0 (given_in c.args.self.now) c.in-Open.ended c.in-Open.bytes (left_in c.pull_piece.new.self) pulled.counts.0 here found.1)

pub returns-in_err-pull_piece-clause-only : goal.returns-in_err-pull_piece-clause-only
returns-in_err-pull_piece-clause-only g c told =
    still_then (g.H.Host.world c.args.host.now) (g.H.Host.world c.loop-size.host) (g.H.Host.world c.pull_piece.new.host) (c.loop-size.invariant.only told) (c.in_err-pull_piece.ensures.only told)

-- ---- the end

pub with_open-count-requires : goal.with_open-count-requires
with_open-count-requires g c =
    let w = c.loop-size.self in
    let inv = c.loop-size.invariant in
    (c.in-Open.ensures (before_in w) (take c.loop-size.seen (left_in w)) inv.room inv.stands).1

pub give-requires-then-branch-eq0-clause-few : goal.give-requires-then-branch-eq0-clause-few
give-requires-then-branch-eq0-clause-few g c =
    let w = c.loop-size.self in
    let inv = c.loop-size.invariant in
    let L = left_in w in
    let seen = c.loop-size.seen in
    let is = left_in_all w w.start c.deref.result.now seen c.deref.ensures.value refl inv.begun inv.within in
    let found = c.in-Open.ensures (before_in w) (take seen L) inv.room inv.stands in
    let stands = found_open (before_in w) seen c.in-Open.ended c.in-Open.bytes L _ is found.0 in
    let few = few_stand (before_in w) c.in-Open.ended c.in-Open.bytes L stands in
    let same = c.in_ok-pull_piece.ensures.before in
    let count = c.with_open-count.ensures in
    omega (arith, few, same, count)

pub give-requires-then-branch-eq0-clause-lines : goal.give-requires-then-branch-eq0-clause-lines
give-requires-then-branch-eq0-clause-lines g c =
    let w = c.loop-size.self in
    let inv = c.loop-size.invariant in
    let L = left_in w in
    let N = left_in c.pull_piece.new.self in
    let seen = c.loop-size.seen in
    let is = left_in_all w w.start c.deref.result.now seen c.deref.ensures.value refl inv.begun inv.within in
    let found = c.in-Open.ensures (before_in w) (take seen L) inv.room inv.stands in
    let stands = found_open (before_in w) seen c.in-Open.ended c.in-Open.bytes L _ is found.0 in
    let pulled = c.in_ok-pull_piece.ensures in
    let none : N ≡ L = took_nothing g.H.Host.tells _ _ L N pulled.took (pulled.count ∙ ap (λ (n : ℕ). length L + n) c.if-branch-eq0.true) in
    let size = left_size w.buffer.items w.end w.filled w.within w.room in
    let at = inv.begun.place in
    ap (λ (l : List ℕ). length (lines_of (take (w.filled - w.start) l))) none
    ∙ ap (λ (l : List ℕ). length (lines_of l)) (take_all (w.filled - w.start) L (omega (arith, size, at)))
    ∙ (lines_that_stand (before_in w) c.in-Open.ended c.in-Open.bytes L stands).0 ∙ sym c.with_open-count.ensures

pub returns-then-branch-eq0-clause-took : goal.returns-then-branch-eq0-clause-took
returns-then-branch-eq0-clause-took g c =
    let inv = c.loop-size.invariant in
    let pulled = c.in_ok-pull_piece.ensures in
    let N = left_in c.pull_piece.new.self in
    let next = c.give-then-branch-eq0.new.self in
    let given = c.give-then-branch-eq0.ensures in
    let n = c.loop-size.self.filled - c.loop-size.self.start in
    took_as g.H.Host.tells (g.H.Host.world c.args.host.now) (g.H.Host.world c.pull_piece.new.host) _ (left_in c.args.self.now) N (window_in next ++ left_in next)
    (took_then g.H.Host.tells _ _ _ _ _ _ inv.took pulled.took) c.go_on.ensures.left
    (ap (λ (l : List ℕ). l ++ left_in next) given.window ∙ ap (λ (l : List ℕ). take n N ++ l) given.left ∙ take-append-drop n N)

pub returns-then-branch-eq0-clause-gave : goal.returns-then-branch-eq0-clause-gave
returns-then-branch-eq0-clause-gave g c =
    let w = c.loop-size.self in
    let inv = c.loop-size.invariant in
    let L = left_in w in
    let N = left_in c.pull_piece.new.self in
    let seen = c.loop-size.seen in
    let is = left_in_all w w.start c.deref.result.now seen c.deref.ensures.value refl inv.begun inv.within in
    let found = c.in-Open.ensures (before_in w) (take seen L) inv.room inv.stands in
    let stands = found_open (before_in w) seen c.in-Open.ended c.in-Open.bytes L _ is found.0 in
    let pulled = c.in_ok-pull_piece.ensures in
    let none : N ≡ L = took_nothing g.H.Host.tells _ _ L N pulled.took (pulled.count ∙ ap (λ (n : ℕ). length L + n) c.if-branch-eq0.true) in
    let size = ap length none ∙ left_size w.buffer.items w.end w.filled w.within w.room in
    let at = inv.begun.place in
    let given = c.give-then-branch-eq0.ensures in
    let took = took_as g.H.Host.tells (g.H.Host.world c.args.host.now) (g.H.Host.world c.pull_piece.new.host) _ (left_in c.args.self.now) N N (took_then g.H.Host.tells _ _ _ _ _ _ inv.took pulled.took) c.go_on.ensures.left refl in
    (gives_rest (nat_lt 0 c.with_open-count.result) g.H.Host.tells (g.H.Host.world c.args.host.now) (g.H.Host.world c.pull_piece.new.host) (before_in w) c.in-Open.ended c.in-Open.bytes (left_in c.args.self.now) N
    c.give-then-branch-eq0.new.self took (subst (λ (l : List ℕ). ScanStands (before_in w) l c.in-Open.ended c.in-Open.bytes) (sym none) stands) found.1 (pulled.end c.if-branch-eq0.true)
    (ap (nat_lt 0) c.with_open-count.ensures) (given.window ∙ take_all (w.filled - w.start) N (omega (arith, size, at)))
    (given.left ∙ drop_of_length-le N (omega (arith, size, at))) (given.before ∙ pulled.before) given.last).gave

pub returns-then-branch-eq0-clause-next : goal.returns-then-branch-eq0-clause-next
returns-then-branch-eq0-clause-next g c =
    let w = c.loop-size.self in
    let inv = c.loop-size.invariant in
    let L = left_in w in
    let N = left_in c.pull_piece.new.self in
    let seen = c.loop-size.seen in
    let is = left_in_all w w.start c.deref.result.now seen c.deref.ensures.value refl inv.begun inv.within in
    let found = c.in-Open.ensures (before_in w) (take seen L) inv.room inv.stands in
    let stands = found_open (before_in w) seen c.in-Open.ended c.in-Open.bytes L _ is found.0 in
    let pulled = c.in_ok-pull_piece.ensures in
    let none : N ≡ L = took_nothing g.H.Host.tells _ _ L N pulled.took (pulled.count ∙ ap (λ (n : ℕ). length L + n) c.if-branch-eq0.true) in
    let size = ap length none ∙ left_size w.buffer.items w.end w.filled w.within w.room in
    let at = inv.begun.place in
    let given = c.give-then-branch-eq0.ensures in
    let took = took_as g.H.Host.tells (g.H.Host.world c.args.host.now) (g.H.Host.world c.pull_piece.new.host) _ (left_in c.args.self.now) N N (took_then g.H.Host.tells _ _ _ _ _ _ inv.took pulled.took) c.go_on.ensures.left refl in
    (gives_rest (nat_lt 0 c.with_open-count.result) g.H.Host.tells (g.H.Host.world c.args.host.now) (g.H.Host.world c.pull_piece.new.host) (before_in w) c.in-Open.ended c.in-Open.bytes (left_in c.args.self.now) N
    c.give-then-branch-eq0.new.self took (subst (λ (l : List ℕ). ScanStands (before_in w) l c.in-Open.ended c.in-Open.bytes) (sym none) stands) found.1 (pulled.end c.if-branch-eq0.true)
    (ap (nat_lt 0) c.with_open-count.ensures) (given.window ∙ take_all (w.filled - w.start) N (omega (arith, size, at)))
    (given.left ∙ drop_of_length-le N (omega (arith, size, at))) (given.before ∙ pulled.before) given.last).next

pub returns-then-branch-eq0-clause-only : goal.returns-then-branch-eq0-clause-only
returns-then-branch-eq0-clause-only g c told =
    still_then (g.H.Host.world c.args.host.now) (g.H.Host.world c.loop-size.host) (g.H.Host.world c.pull_piece.new.host) (c.loop-size.invariant.only told) (c.in_ok-pull_piece.ensures.only told)

-- ---- the next piece

pub loop-size-preserved : goal.loop-size-preserved
loop-size-preserved g c =
    let w = c.loop-size.self in
    let inv = c.loop-size.invariant in
    let L = left_in w in
    let N = left_in c.pull_piece.new.self in
    let seen = c.loop-size.seen in
    let is = left_in_all w w.start c.deref.result.now seen c.deref.ensures.value refl inv.begun inv.within in
    let found = c.in-Open.ensures (before_in w) (take seen L) inv.room inv.stands in
    let stands = found_open (before_in w) seen c.in-Open.ended c.in-Open.bytes L _ is found.0 in
    let pulled = c.in_ok-pull_piece.ensures in
    let size = left_size w.buffer.items w.end w.filled w.within w.room in
    let at = inv.begun.place in
    let more = pulled.count in
    let n : length L ≡ w.filled - w.start = omega (arith, size, at) in
    let front : take (w.filled - w.start) N ≡ L =
    ap (take (w.filled - w.start)) pulled.took.stand ∙ ap (λ (k : ℕ). take k (L ++ pulled.took.bytes)) (sym n) ∙ take-append_seam L pulled.took.bytes in
    record {
      begun = pulled.begun;
      before = pulled.before ∙ inv.before;
      room = (let b = pulled.before in let r = inv.room in omega (arith, b, r));
      took = took_then g.H.Host.tells _ _ _ _ _ _ inv.took pulled.took;
      within = omega (arith, n, more);
      stands = subst (λ (k : ℕ). ScanStands k (take (w.filled - w.start) N) c.in-Open.ended c.in-Open.bytes) (sym pulled.before)
          (subst (λ (l : List ℕ). ScanStands (before_in w) l c.in-Open.ended c.in-Open.bytes) (sym front) stands);
      few = found.1;
      short = found.2;
      calm = λ channel. pulled.calm channel ∙ inv.calm channel;
      only = λ told. still_then (g.H.Host.world c.args.host.now) (g.H.Host.world c.loop-size.host) (g.H.Host.world c.pull_piece.new.host) (inv.only told) (pulled.only told);
      ready = λ file ready. pulled.ready file (inv.ready file ready);
    }

pub loop-size-smaller : goal.loop-size-smaller
loop-size-smaller g c =
    let w = c.loop-size.self in
    let inv = c.loop-size.invariant in
    let L = left_in w in
    let N = left_in c.pull_piece.new.self in
    let seen = c.loop-size.seen in
    let is = left_in_all w w.start c.deref.result.now seen c.deref.ensures.value refl inv.begun inv.within in
    let found = c.in-Open.ensures (before_in w) (take seen L) inv.room inv.stands in
    let stands = found_open (before_in w) seen c.in-Open.ended c.in-Open.bytes L _ is found.0 in
    let size = left_size w.buffer.items w.end w.filled w.within w.room in
    let at = inv.begun.place in
    let n : length L ≡ w.filled - w.start = omega (arith, size, at) in
    let bound = stands.bound in
    let few = found.1 in
    let short = found.2 in
    let more = c.in_ok-pull_piece.ensures.count in
    let some = c.if-branch-eq0.false in
    measure_falls 268439552 seen (w.filled - w.start) (length L) (length N) (omega (arith, n, bound, few, short)) inv.within n (omega (arith, n, more, some))
