-- Lines that are numbered one after another.
use Rattle.std.proofs.Common.{◌≡◌, ℕ, zero, suc, ◌+◌, ◌-◌, ◌<◌, List, [], ◌∷◌, ◌++◌, length, Ok, refl, sym, ap, ◌∙◌, subst, arith, append_assoc}
use Rattle.base_types.specs.declared.calls.Call.{Call}
use Rattle.request_wire.specs.declared.requests.Line.{Line}
use Rattle.promise_spec.specs.Loads.{next_number, account, first_method, transfer_by, transfers_after, deposits_from, load_calls}
use Rattle.bank_load.specs.Requests.{numbered_from}

-- lines of some calls, and of others behind them
numbered_both : (n : ℕ) (xs ys : List Call) → numbered_from n (xs ++ ys) ≡ numbered_from n xs ++ numbered_from (n + length xs) ys
numbered_both n [] ys = ap (λ (m : ℕ). numbered_from m ys) (let e : n ≡ n + 0 = omega arith in e)
numbered_both n (x ∷ xs) ys =
    ap (λ (l : List Line). record { number = n + 1; what = Ok x } ∷ l)
    (numbered_both (n + 1) xs ys ∙ ap (λ (m : ℕ). numbered_from (n + 1) xs ++ numbered_from m ys) (let e : n + 1 + length xs ≡ n + suc (length xs) = omega arith in e))

deposits_many : (k n : ℕ) → length (deposits_from k n) ≡ n
deposits_many k zero = refl
deposits_many k (suc n) = ap suc (deposits_many (k + 1) n)

-- the lines of a load
pub load_numbered : (n seed : ℕ) → numbered_from 0 (deposits_from 0 64) ++ numbered_from 64 (transfers_after seed n) ≡ numbered_from 0 (load_calls n seed)
load_numbered n seed =
    sym (numbered_both 0 (deposits_from 0 64) (transfers_after seed n)
    ∙ ap (λ (m : ℕ). numbered_from 0 (deposits_from 0 64) ++ numbered_from m (transfers_after seed n)) (deposits_many 0 64))

-- ---- one line more

-- what is left of the deposits
pub deposit_more : (lines : List Line) (key : ℕ) (all : List Line) → key < 64 → lines ++ numbered_from key (deposits_from key (64 - key)) ≡ all
    → (lines ++ (record { number = key + 1; what = Ok (first_method (account key) (1000 ∷ [])) } ∷ [])) ++ numbered_from (key + 1) (deposits_from (key + 1) (64 - (key + 1))) ≡ all
deposit_more lines key all below is =
    append_assoc lines (record { number = key + 1; what = Ok (first_method (account key) (1000 ∷ [])) } ∷ []) (numbered_from (key + 1) (deposits_from (key + 1) (64 - (key + 1))))
    ∙ ap (λ (m : ℕ). lines ++ numbered_from key (deposits_from key m)) (let e : suc (64 - (key + 1)) ≡ 64 - key = omega (arith, below) in e)
    ∙ is

-- and of the transfers
pub transfer_more : (lines : List Line) (x done many : ℕ) (all : List Line) → done < many → lines ++ numbered_from (64 + done) (transfers_after x (many - done)) ≡ all
    → (lines ++ (record { number = done + 65; what = Ok (transfer_by (next_number x)) } ∷ [])) ++ numbered_from (64 + (done + 1)) (transfers_after (next_number (next_number (next_number x))) (many - (done + 1))) ≡ all
transfer_more lines x done many all below is =
    let rest : List Call = transfers_after (next_number (next_number (next_number x))) (many - (done + 1)) in
    append_assoc lines (record { number = done + 65; what = Ok (transfer_by (next_number x)) } ∷ []) (numbered_from (64 + (done + 1)) rest)
    ∙ ap (λ (m : ℕ). lines ++ (record { number = m; what = Ok (transfer_by (next_number x)) } ∷ numbered_from (64 + (done + 1)) rest)) (let e : done + 65 ≡ 64 + done + 1 = omega arith in e)
    ∙ ap (λ (m : ℕ). lines ++ (record { number = 64 + done + 1; what = Ok (transfer_by (next_number x)) } ∷ numbered_from m rest)) (let e : 64 + (done + 1) ≡ 64 + done + 1 = omega arith in e)
    ∙ ap (λ (m : ℕ). lines ++ numbered_from (64 + done) (transfers_after x m)) (let e : suc (many - (done + 1)) ≡ many - done = omega (arith, below) in e)
    ∙ is
