use Rattle.std.proofs.Common.{◌≡◌, ◌+◌, ◌<◌, arith}
use Rattle.input_windows.proofs.Standing.{feed_here, byte_here, window_ends_here, too_many_here, too_long_here}
use Rattle.input_windows.proofs.scan.scan.Goals.{then-byte-eq10+else-lines-eq-WINDOW_LINES, else-byte-eq10+else-stood-eq-LINE_LIMIT}
use Rattle.input_windows.proofs.scan.scan.Goals as goal

pub returns-then-lines-most : goal.returns-then-lines-most
returns-then-lines-most c before seen room s =
    let stands = c.loop-place.invariant.stands before seen room s in
    let late : before + c.loop-place.lines ≡ 4294967295 = omega (arith, room) in
    (too_many_here before c.loop-place.lines c.loop-place.stood seen c.args.bytes.now c.loop-place.place c.loop-place-test.true stands late, c.loop-place.invariant.lines, omega (arith, late))

pub returns-then-lines-eq-WINDOW_LINES : goal.returns-then-lines-eq-WINDOW_LINES
returns-then-lines-eq-WINDOW_LINES c before seen room s =
    let stands = c.loop-place.invariant.stands before seen room s in
    let few = stands.few in
    let early : before + c.loop-place.lines < 4294967295 = omega (arith, room, few) in (
      omega arith,
      omega arith,
      window_ends_here before c.loop-place.lines c.loop-place.stood seen c.args.bytes.now c.loop-place.place c.loop-place-test.true stands c.if-byte-eq10.true early c.if-lines-eq-WINDOW_LINES.true,
    )

pub returns-then-stood-eq-LINE_LIMIT : goal.returns-then-stood-eq-LINE_LIMIT
returns-then-stood-eq-LINE_LIMIT c before seen room s =
    let stands = c.loop-place.invariant.stands before seen room s in (
      too_long_here before c.loop-place.lines c.loop-place.stood seen c.args.bytes.now c.loop-place.place c.loop-place-test.true stands c.if-byte-eq10.false c.if-stood-eq-LINE_LIMIT.true,
      c.loop-place.invariant.lines,
      stands.few,
    )

pub loop-place-preserved : goal.loop-place-preserved
loop-place-preserved c = elim c.if-byte-eq10.branch [
  | then-byte-eq10+else-lines-eq-WINDOW_LINES w ↦
      (let lines : c.if-byte-eq10.lines ≡ c.loop-place.lines + 1 = w.lines-is in
      let stood : c.if-byte-eq10.stood ≡ 0 = w.stood-is in
      record {
        lines = (let more = w.if-lines-eq-WINDOW_LINES.false in let h = c.loop-place.invariant.lines in omega (arith, lines, more, h));
        stood = omega (arith, stood);
        stands = λ before seen room s.
            let stands = c.loop-place.invariant.stands before seen room s in
            let few = stands.few in
            let some = c.if-lines-most.false in
            rw (lines, stood) (feed_here before c.loop-place.lines c.loop-place.stood seen c.args.bytes.now c.loop-place.place c.loop-place-test.true stands w.if-byte-eq10.true (omega (arith, room, few, some)));
      })
  | else-byte-eq10+else-stood-eq-LINE_LIMIT w ↦
      (let lines : c.if-byte-eq10.lines ≡ c.loop-place.lines = w.lines-is in
      let stood : c.if-byte-eq10.stood ≡ c.loop-place.stood + 1 = w.stood-is in
      let short = w.if-stood-eq-LINE_LIMIT.false in
      let small = c.loop-place.invariant.stood in
      record {
        lines = (let h = c.loop-place.invariant.lines in omega (arith, lines, h));
        stood = omega (arith, stood, short, small);
        stands = λ before seen room s.
            let stands = c.loop-place.invariant.stands before seen room s in
            let few = stands.few in
            let some = c.if-lines-most.false in
            rw (lines, stood) (byte_here before c.loop-place.lines c.loop-place.stood seen c.args.bytes.now c.loop-place.place c.loop-place-test.true stands w.if-byte-eq10.false (omega (arith, room, few, some)) (omega (arith, short, small)));
      })
]
