use Rattle.std.proofs.Common.{rules, ◌≡◌, ◌+◌, ◌++◌, ◌∷◌, [], ℕ, List, true, false, None, drop, take, length, get_or, ◌-◌, arith, length-drop, append_assoc, append-nil, sym, ◌∙◌, ap}
use Rattle.std.proofs.lemmas.List.{take_all}
use Rattle.commit_log.specs.declared.records.Named.{Named}
use Rattle.log_reading.specs.Versions.{goes_on, latest_of}
use Rattle.log_reading.proofs.RecordSums.{next_default, no_item}
use Rattle.log_reading.proofs.LatestVersions.{latest_pass, latest_keep}
use Rattle.log_reading.proofs.latest.keep_latest.Goals as goal
use Rattle.log_reading.proofs.latest.keep_latest.Goals.{then-not-goes_on+in_ok-push, else-not-goes_on}

abbrev no_name : Named
no_name = record { unit = None; program = 0; written = record { grain = record { kind = 0; key = 0 }; place = record { offset = 0; len = 0 } } }

pub returns : goal.returns
returns c =
    let none = no_item c.loop-one.one-index c.args.named.now c.loop-one-test.false in
    sym (append-nil c.loop-one.kept) ∙ ap (λ (l : List Named). c.loop-one.kept ++ latest_of l) (sym none) ∙ c.loop-one.invariant.kept

pub loop-one-preserved : goal.loop-one-preserved
loop-one-preserved c =
    let inv = c.loop-one.invariant in
    let i = c.loop-one.one-index in
    let xs = c.args.named.now in
    let x : Named = get_or xs i no_name in
    let rest : List Named = drop (i + 1) xs in
    let next : drop i xs ≡ x ∷ rest = next_default i xs no_name c.loop-one-test.true in
    let place : ℕ = c.loop-one.behind + 1 in
    let whole : take (length xs - place) (drop place xs) ≡ drop place xs = take_all (length xs - place) (drop place xs) (omega (arith, length-drop place xs)) in
    let behind : take (length xs - place) (drop place xs) ≡ rest = whole ∙ ap (λ (n : ℕ). drop (n + 1) xs) inv.behind in
    let says : c.goes_on.result ≡ goes_on x (take (length xs - place) (drop place xs)) = search rules in
    let on : c.goes_on.result ≡ goes_on x rest = says ∙ ap (goes_on x) behind in
    let all : c.loop-one.kept ++ latest_of (x ∷ rest) ≡ latest_of xs = ap (λ (l : List Named). c.loop-one.kept ++ latest_of l) (sym next) ∙ inv.kept in
    record {
      behind = ap (λ (n : ℕ). n + 1) inv.behind;
      kept = elim c.if-not-goes_on.branch [
        | then-not-goes_on+in_ok-push w ↦
            let last : c.goes_on.result ≡ false = search rules in
            let pushed : w.push.new.self ≡ c.loop-one.kept ++ x ∷ [] = search rules in
            ap (λ (l : List Named). l ++ latest_of rest) (w.kept-is ∙ pushed) ∙ append_assoc c.loop-one.kept (x ∷ []) (latest_of rest) ∙ ap (λ (l : List Named). c.loop-one.kept ++ l) (sym (latest_keep x rest (sym on ∙ last))) ∙ all
        | else-not-goes_on w ↦
            let more : c.goes_on.result ≡ true = search rules in
            ap (λ (l : List Named). l ++ latest_of rest) w.kept-is ∙ ap (λ (l : List Named). c.loop-one.kept ++ l) (sym (latest_pass x rest (sym on ∙ more))) ∙ all
      ];
    }
