use Rattle.std.proofs.Common.{rules, ◌≡◌, ◌-◌, ℕ, List, ◌++◌, length, take, drop, min, ◌∙◌, ap}
use Rattle.host_files.proofs.ReadAhead.{given_bytes, given_count}
use Rattle.host_files.proofs.windows.Window.give.Goals as goal

pub returns-clause-bytes : goal.returns-clause-bytes
returns-clause-bytes c = λ file so.
    let window = c.args.self.now in
    let skipped = c.min-skipped.result in
    let n = c.min-count.result in
    let reach = c.requires.1 in
    let is_skipped : skipped ≡ min (c.args.at - window.from) window.count = search rules in
    let is_n : n ≡ min (length c.args.into.now) (window.count - skipped) = search rules in
    let copied : c.copy_from_slice.new.self ≡ take n (drop skipped window.bytes.items) = search rules in
    record {
      count = given_count window.is_last window.from window.count skipped n c.args.at (length c.args.into.now) (length file) is_n is_skipped reach.begins reach.ends so.within so.end;
      bytes = ap (λ (l : List ℕ). l ++ drop n c.args.into.now)
          (copied ∙ given_bytes window.from window.count skipped n c.args.at window.bytes.items file so.bytes is_skipped reach.begins (search rules));
    }
