use Rattle.std.proofs.Common.{rules, ◌≡◌, ◌+◌, ◌++◌, ◌∷◌, [], List, fold, drop, get_or, append_assoc, append-nil, sym, ◌∙◌, ap}
use Rattle.commit_log.specs.declared.records.Written.{Written}
use Rattle.commit_log.specs.Orders.{grain_after}
use Rattle.log_reading.proofs.RecordSums.{next_default, no_item}
use Rattle.log_reading.proofs.bases.add_saved.Goals as goal

abbrev no_write : Written
no_write = record { grain = record { kind = 0; key = 0 }; place = record { offset = 0; len = 0 } }

pub loop-written-preserved : goal.loop-written-preserved
loop-written-preserved c =
    let inv = c.loop-written.invariant in
    let i = c.loop-written.written-index in
    let xs = c.args.writes.now in
    let x : Written = get_or xs i no_write in
    let rest : List Written = drop (i + 1) xs in
    let next : drop i xs ≡ x ∷ rest = next_default i xs no_write c.loop-written-test.true in
    let pushed : c.push.new.self ≡ c.loop-written.saved ++ x ∷ [] = search rules in
    record {
      saved = ap (λ (l : List Written). l ++ rest) pushed ∙ append_assoc c.loop-written.saved (x ∷ []) rest ∙ ap (λ (l : List Written). c.loop-written.saved ++ l) (sym next) ∙ inv.saved;
      grain = ap (fold grain_after c.loop-written.grain) (sym next) ∙ inv.grain;
    }

pub returns-clause-saved : goal.returns-clause-saved
returns-clause-saved c =
    let none = no_item c.loop-written.written-index c.args.writes.now c.loop-written-test.false in
    sym (append-nil c.loop-written.saved) ∙ ap (λ (l : List Written). c.loop-written.saved ++ l) (sym none) ∙ c.loop-written.invariant.saved

pub returns-clause-last : goal.returns-clause-last
returns-clause-last c =
    let none = no_item c.loop-written.written-index c.args.writes.now c.loop-written-test.false in
    ap (fold grain_after c.loop-written.grain) (sym none) ∙ c.loop-written.invariant.grain
