use Rattle.std.proofs.Common.{arith, rules, Vec, ℕ}
use Rattle.std.specs.declared.alloc.Global.{Global}
use Rattle.command_words.proofs.Picks.{too_many, picks_in, now_all, now_length}
use Rattle.command_words.proofs.numbers.read_picks.Goals as goal

pub returns-then-len-gt-PICK_LIMIT : goal.returns-then-len-gt-PICK_LIMIT
returns-then-len-gt-PICK_LIMIT c =
    too_many c.args.text.now (now_all c.in_ok-pieces.pieces.items) c.in_ok-pieces.ensures (omega (arith, c.if-len-gt-PICK_LIMIT.true, c.len.ensures, now_length c.in_ok-pieces.pieces.items))

pub returns : goal.returns
returns c =
    picks_in (λ (v : Vec ℕ Global). v.items) c.args.text.now (now_all c.in_ok-pieces.pieces.items) _ c.in_ok-pieces.ensures
    (omega (arith, c.if-len-gt-PICK_LIMIT.false, c.len.ensures, now_length c.in_ok-pieces.pieces.items)) (search rules)
