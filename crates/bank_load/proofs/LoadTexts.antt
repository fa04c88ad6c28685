-- Each text of a load reads as the call that it is of.
use Rattle.std.proofs.Common.{◌≡◌, ℕ, zero, suc, ◌+◌, ◌^◌, ◌<◌, ◌≤◌, ◌&&◌, ◌==◌, Bool, true, false, pos, List, [], ◌∷◌, ◌++◌, length, map, codes, decimal, Option, Some, None, Ok, bytes_eq, inl, inr, refl, sym, ap, ◌∙◌, subst, arith, IsUtf8, lit<, mod-lt, eq-eqb, eqb-true, le-ltb, lt-ltb, cond}
use Rattle.std.specs.List.{AllByRecursion}
use Rattle.std.specs.Fmt.{digits}
use Rattle.std.proofs.lemmas.Bool.{and_parts, cases_eq}
use Rattle.std.proofs.lemmas.Str.{IsUtf8-append, IsUtf8-from_ascii}
use Rattle.std.proofs.lemmas.Fmt.{IsAscii-decimal}
use Rattle.std.proofs.lemmas.Slice.Eq.{bytes_eq-Decides}
use Rattle.base_types.specs.declared.calls.Call.{Call}
use Rattle.base_types.specs.declared.calls.GrainId.{GrainId}
use Rattle.base_types.specs.declared.calls.Value.TheVariants.{Int}
use Rattle.json.proofs.Printed.Utf8.{IsUtf8-are_ascii}
use Rattle.serde_json.specs.Written.{compact_text}
use Rattle.request_wire.specs.Names.{TypeNames, names_in}
use Rattle.request_wire.specs.Request.{call_of, grain_of, method_of, args_of, values_of, items_count}
use Rattle.promise_spec.specs.Programs.{Program, IsChecked}
use Rattle.promise_spec.specs.Loads.{next_number, drawn, account, atm, first_method, transfer_by, transfers_after, deposits_from, load_calls, bank_text}
use Rattle.bank_load.specs.Banks.{bank_names}
use Rattle.bank_load.specs.Requests.{name_called, request_data}
use Rattle.bank_load.proofs.BankText.{bank_is_named}
use Rattle.bank_load.proofs.PrintedRequests.{AreSmall, numbers_data, request_of, printed_reads}

-- ---- arguments

values_read : (ns : List ℕ) → AreSmall ns → values_of (numbers_data ns) ≡ Some (map (λ n. Int (pos n)) ns)
values_read [] small = refl
values_read (n ∷ ns) small = rw (lt-ltb n (2 ^ 63) small.0, values_read ns small.1) refl

items_many : (ns : List ℕ) → items_count (numbers_data ns) ≡ length ns
items_many [] = refl
items_many (n ∷ ns) = ap suc (items_many ns)

args_read : (ns : List ℕ) → AreSmall ns → args_of (length ns) (numbers_data ns) ≡ Some (map (λ n. Int (pos n)) ns)
args_read ns small = rw (eq-eqb (items_count (numbers_data ns)) (length ns) (items_many ns)) (values_read ns small)

-- ---- a call

-- a text reads as its call where its name reads as this grain and method
named_read : (types : List TypeNames) (grain : GrainId) (ns name method : List ℕ) → AreSmall ns → IsUtf8 name → grain_of types name ≡ Some (grain, method)
    → method_of types grain.kind method ≡ Some (0, length ns) → call_of types (compact_text (request_of ns name)) ≡ Ok (first_method grain ns)
named_read types grain ns name method small text named has =
    rw (printed_reads ns name small text, named, has, args_read ns small) refl

-- ---- deposits

abbrev account_called : ℕ → List ℕ
account_called k = codes "account/" ++ (decimal k ++ codes ".deposit")

is_deposit_of : ℕ → Option (GrainId × List ℕ) → Bool
is_deposit_of k None = false
is_deposit_of k (Some (g, name)) = ((g.kind == 0) && (g.key == k)) && bytes_eq name (codes "deposit")

deposit_is : (k : ℕ) (o : Option (GrainId × List ℕ)) → is_deposit_of k o ≡ true → o ≡ Some (account k, codes "deposit")
unfolding is_deposit_of
deposit_is k None is = absurd (cc is)
deposit_is k (Some (g, name)) is =
    let both = and_parts ((g.kind == 0) && (g.key == k)) (bytes_eq name (codes "deposit")) is in
    let grain = and_parts (g.kind == 0) (g.key == k) both.0 in
    let kind : g.kind ≡ 0 = eqb-true g.kind 0 grain.0 in
    let key : g.key ≡ k = eqb-true g.key k grain.1 in
    let text : name ≡ codes "deposit" = bytes_same name (codes "deposit") both.1 in
    λ i. Some (record { kind = kind i; key = key i }, text i)
  where
    bytes_same : (xs ys : List ℕ) → bytes_eq xs ys ≡ true → xs ≡ ys
    bytes_same xs ys e = (bytes_eq-Decides xs ys).0 e

-- each account below is named so
deposits_named : ℕ → Bool
deposits_named zero = true
deposits_named (suc k) = is_deposit_of k (grain_of bank_names (account_called k)) && deposits_named k

all_named : deposits_named 64 ≡ true
unfolding deposits_named is_deposit_of digits
all_named = refl

named_below : (n : ℕ) → deposits_named n ≡ true → (k : ℕ) → k < n → is_deposit_of k (grain_of bank_names (account_called k)) ≡ true
unfolding deposits_named
named_below zero e k below = absurd (omega (arith, below))
named_below (suc n) e k below =
    let p = and_parts (is_deposit_of n (grain_of bank_names (account_called n))) (deposits_named n) e in
    elim (cases_eq k n) [
      | inl same ↦ subst (λ (m : ℕ). is_deposit_of m (grain_of bank_names (account_called m)) ≡ true) (sym same) p.0
      | inr other ↦ named_below n p.1 k (omega (arith, below, other))
    ]

account_utf8 : (k : ℕ) → k < 64 → IsUtf8 (account_called k)
account_utf8 k below =
    IsUtf8-append (codes "account/") (decimal k ++ codes ".deposit") (IsUtf8-are_ascii (codes "account/") refl)
    (IsUtf8-append (decimal k) (codes ".deposit") (IsUtf8-from_ascii (decimal k) (IsAscii-decimal k (omega (arith, below)))) (IsUtf8-are_ascii (codes ".deposit") refl))

-- the text of a call reads as it, by these types
abbrev IsRead : List TypeNames → Call → Type 0
IsRead types c = call_of types (compact_text (request_data c)) ≡ Ok c

deposit_read : (k : ℕ) → k < 64 → IsRead bank_names (first_method (account k) (1000 ∷ []))
deposit_read k below =
    named_read bank_names (account k) (1000 ∷ []) (account_called k) (codes "deposit") (lit< tt, tt) (account_utf8 k below)
    (deposit_is k (grain_of bank_names (account_called k)) (named_below 64 all_named k below)) refl

deposits_read : (k n : ℕ) → k + n ≤ 64 → AllByRecursion (IsRead bank_names) (deposits_from k n)
deposits_read k zero within = tt
deposits_read k (suc n) within = (deposit_read k (omega (arith, within)), deposits_read (k + 1) n (omega (arith, within)))

-- ---- transfers

transfer_read : (a b n : ℕ) → a < 2 ^ 63 → b < 2 ^ 63 → n < 2 ^ 63 → IsRead bank_names (first_method atm (a ∷ b ∷ n ∷ []))
transfer_read a b n one two three = named_read bank_names atm (a ∷ b ∷ n ∷ []) (codes "atm/0.transfer") (codes "transfer") (one, (two, (three, tt))) (IsUtf8-are_ascii (codes "atm/0.transfer") refl) refl refl

drawn_below : (x bound : ℕ) → 0 < bound → drawn x bound < bound
drawn_below x bound some = mod-lt _ some

drawn_read : (x : ℕ) → IsRead bank_names (transfer_by x)
drawn_read x =
    let y : ℕ = next_number x in
    let z : ℕ = next_number y in
    transfer_read (drawn x 64) (drawn y 64) (drawn z 100 + 1) (omega (arith, drawn_below x 64 (lit< tt))) (omega (arith, drawn_below y 64 (lit< tt))) (omega (arith, drawn_below z 100 (lit< tt)))

transfers_read : (x n : ℕ) → AllByRecursion (IsRead bank_names) (transfers_after x n)
transfers_read x zero = tt
transfers_read x (suc n) = (drawn_read (next_number x), transfers_read (next_number (next_number (next_number x))) n)

-- ---- all

all_then : {A : Type 0} (P : A → Type 0) (xs ys : List A) → AllByRecursion P xs → AllByRecursion P ys → AllByRecursion P (xs ++ ys)
all_then P [] ys each more = more
all_then P (x ∷ xs) ys each more = (each.0, all_then P xs ys each.1 more)

pub load_read : (p : Program) (n seed : ℕ) → IsChecked p → p.text ≡ bank_text → AllByRecursion (IsRead (names_in p.types)) (load_calls n seed)
load_read p n seed checked same =
    subst (λ (types : List TypeNames). AllByRecursion (IsRead types) (load_calls n seed)) (sym (bank_is_named p checked same))
    (all_then (IsRead bank_names) (deposits_from 0 64) (transfers_after seed n) (deposits_read 0 64 (omega arith)) (transfers_read seed n))
