use Rattle.std.proofs.Common.{◌≡◌, ℕ, List, ◌+◌, ◌-◌, ◌++◌, [], length, take, drop, sym, ap, ◌∙◌, arith, append-nil, rules, length-drop}
use Rattle.std.specs.Vec.{with_items}
use Rattle.std.proofs.lemmas.List.{with_items_is, places}
use Rattle.input_windows.proofs.Giving.{on_fault}
use Rattle.input_windows.proofs.Places.{left_stays, left_grows, pulled_next}
use Rattle.input_windows.proofs.windows.InputWindows.pull_piece.Goals as goal

pub returns-in_err-count-clause-took : goal.returns-in_err-count-clause-took
returns-in_err-count-clause-took g c =
    let w = c.make_room.new.self in
    let ys = c.pull_behind.new.buffer in
    let same : (with_items w.buffer ys).items ≡ ys = with_items_is w.buffer ys (search (rules, places)) in
    record {
      bytes = [];
      input = λ told. sym (c.in_err-count.ensures.err told).input;
      stand = ap (λ (l : List ℕ). take (w.filled - w.end) (drop w.end l)) same
          ∙ left_stays w.buffer.items ys w.end w.filled w.within (c.in_err-count.ensures.stays ∙ ap (take w.filled) c.deref_mut.ensures.value)
          ∙ c.in_ok-make_room.ensures.left ∙ sym (append-nil _);
    }

pub returns-in_err-count-clause-err : goal.returns-in_err-count-clause-err
returns-in_err-count-clause-err g c =
    let w = c.make_room.new.self in
    let ys = c.pull_behind.new.buffer in
    let same : (with_items w.buffer ys).items ≡ ys = with_items_is w.buffer ys (search (rules, places)) in
    on_fault c.from_residual-in_err-count.result _
    (ap (λ (l : List ℕ). take (w.filled - w.end) (drop w.end l)) same
    ∙ left_stays w.buffer.items ys w.end w.filled w.within (c.in_err-count.ensures.stays ∙ ap (take w.filled) c.deref_mut.ensures.value)
    ∙ c.in_ok-make_room.ensures.left)

pub returns-clause-took : goal.returns-clause-took
returns-clause-took g c =
    let w = c.make_room.new.self in
    let ys = c.pull_behind.new.buffer in
    let same : (with_items w.buffer ys).items ≡ ys = with_items_is w.buffer ys (search (rules, places)) in
    let n = c.in_ok-count.count in
    record {
      bytes = take n (drop w.filled ys);
      input = λ told. let p = c.in_ok-count.ensures.ok told in pulled_next n (drop w.filled ys) _ _ p.bytes p.input;
      stand = ap (λ (l : List ℕ). take (w.filled + n - w.end) (drop w.end l)) same
          ∙ left_grows w.buffer.items ys w.end w.filled n w.within (c.in_ok-count.ensures.stays ∙ ap (take w.filled) c.deref_mut.ensures.value)
          ∙ ap (λ (l : List ℕ). l ++ take n (drop w.filled ys)) c.in_ok-make_room.ensures.left;
    }

pub returns-clause-end : goal.returns-clause-end
returns-clause-end g c none told =
    let w = c.make_room.new.self in
    let ys = c.pull_behind.new.buffer in
    let p = c.in_ok-count.ensures.ok told in
    let long : length ys ≡ length w.buffer.items = search (rules, places) in
    let size = length-drop w.filled ys in
    let room = c.in_ok-make_room.ensures.room in
    p.input ∙ ap (λ (n : ℕ). drop n (g.H.Host.world c.args.host.now).input) none ∙ p.end none (omega (arith, long, size, room))
