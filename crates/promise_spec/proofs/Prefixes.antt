-- Prefixes over positions.
use Rattle.std.proofs.Common.{◌≡◌, inl, inr, ℕ, ◌+◌, ◌-◌, ◌≤◌, max, List, [], ◌++◌, length, map, take, drop, refl, sym, ap, subst, ◌∙◌, arith, append_assoc, append-nil, length-append, length-take, length-drop}
use Rattle.std.proofs.lemmas.Bool.{cases_lt}
use Rattle.std.proofs.lemmas.List.{map-append, take_all, drop_all, take-append-le, drop-append-le, take-append-drop, drop-drop, take-take, drop-take}
use Rattle.promise_spec.specs.Records.{Commit}
use Rattle.promise_spec.specs.Logs.{IsPrefix}
use Rattle.promise_spec.specs.Entries.{LogEntry, Recorded, Standing, after_entries, Log, standing_of, grown, checkpointed}
use Rattle.promise_spec.specs.Prefixes.{last_position, from_position, GoesOn, IsPrefixOf}
use Rattle.promise_spec.proofs.Standings.{in_parts, counted}

-- a log that begins at this position or behind it is all
pub from_base : (at : ℕ) (log : Log) → at ≤ log.base.count → from_position at log ≡ log
from_base at log low =
    let none : at - log.base.count ≡ 0 = omega (arith, low) in
    λ i. record { base = after_entries log.base (take (none i) log.entries); entries = drop (none i) log.entries }

-- one that ends there has no entry behind it
pub from_end : (at : ℕ) (log : Log) → last_position log ≤ at → from_position at log ≡ checkpointed log
from_end at log high =
    let long : length log.entries ≤ at - log.base.count = omega (arith, high) in
    let all : take (at - log.base.count) log.entries ≡ log.entries = take_all (at - log.base.count) log.entries long in
    let none : drop (at - log.base.count) log.entries ≡ [] = drop_all (at - log.base.count) log.entries long in
    λ i. record { base = after_entries log.base (all i); entries = none i }

pub stands_alike : (at : ℕ) (log : Log) → standing_of (from_position at log) ≡ standing_of log
stands_alike at log =
    sym (in_parts log.base (take (at - log.base.count) log.entries) (drop (at - log.base.count) log.entries))
    ∙ ap (λ (l : List LogEntry). after_entries log.base l) (take-append-drop (at - log.base.count) log.entries)

pub same_end : (at : ℕ) (log : Log) → last_position (from_position at log) ≡ last_position log
same_end at log =
    omega (arith, counted log.base (take (at - log.base.count) log.entries), length-take (at - log.base.count) log.entries, length-drop (at - log.base.count) log.entries)

begins_at : (at : ℕ) (log : Log) → log.base.count ≤ at → at ≤ last_position log → (from_position at log).base.count ≡ at
begins_at at log low high =
    omega (arith, counted log.base (take (at - log.base.count) log.entries), length-take (at - log.base.count) log.entries, low, high)

-- over one base
pub over_one_base : (a b : Log) → a.base ≡ b.base → IsPrefix a.entries b.entries → IsPrefixOf a b
over_one_base a b same front =
    let counts : a.base.count ≡ b.base.count = ap (λ (s : Standing). s.count) same in
    let at : ℕ = max a.base.count b.base.count in
    let one : from_position at a ≡ a = from_base at a (omega (arith, counts)) in
    let two : from_position at b ≡ b = from_base at b (omega (arith, counts)) in
    inr (record {
      base = ap (λ (l : Log). l.base) one ∙ same ∙ sym (ap (λ (l : Log). l.base) two);
      entries = subst (λ (l : Log). IsPrefix (from_position at a).entries l.entries) (sym two) (subst (λ (l : Log). IsPrefix l.entries b.entries) (sym one) front);
    })

-- a log and its checkpoint
pub saved : (a : Log) → IsPrefixOf a (checkpointed a) × IsPrefixOf (checkpointed a) a
saved a =
    let end : (standing_of a).count ≡ a.base.count + length a.entries = counted a.base a.entries in
    let at : ℕ = max a.base.count (standing_of a).count in
    let back : ℕ = max (standing_of a).count a.base.count in
    let one : from_position at a ≡ checkpointed a = from_end at a (omega (arith, end)) in
    let two : from_position at (checkpointed a) ≡ checkpointed a = from_base at (checkpointed a) (omega (arith, end)) in
    let three : from_position back a ≡ checkpointed a = from_end back a (omega (arith, end)) in
    let four : from_position back (checkpointed a) ≡ checkpointed a = from_base back (checkpointed a) (omega (arith, end)) in (
      inr (both_are at a (checkpointed a) (checkpointed a) one two),
      inr (both_are back (checkpointed a) a (checkpointed a) four three),
    )
  where
    -- both are this log from there on
    both_are : (at : ℕ) (x y z : Log) → from_position at x ≡ z → from_position at y ≡ z → GoesOn at x y
    both_are at x y z one two = record {
      base = ap (λ (l : Log). l.base) (one ∙ sym two);
      entries = ([], ap (λ (l : Log). l.entries) (two ∙ sym one) ∙ sym (append-nil (from_position at x).entries));
    }

pub goes_to_end : (at : ℕ) (a b : Log) → GoesOn at a b → last_position a ≤ last_position b
goes_to_end at a b on =
    let x = same_end at a in
    let y = same_end at b in
    let counts : (from_position at a).base.count ≡ (from_position at b).base.count = ap (λ (s : Standing). s.count) on.base in
    let more : length (from_position at b).entries ≡ length (from_position at a).entries + length on.entries.0 = ap length on.entries.1 ∙ length-append (from_position at a).entries on.entries.0 in
    omega (arith, x, y, counts, more)

pub shorter : (a b : Log) → IsPrefixOf a b → last_position a ≤ last_position b
shorter a b (inl gap) = omega (arith, gap)
shorter a b (inr on) = goes_to_end (max a.base.count b.base.count) a b on

take_both : (n m : ℕ) (l : List LogEntry) → take n l ++ take m (drop n l) ≡ take (n + m) l
take_both n m l =
    let front : take n (take (n + m) l) ≡ take n l = take-take n (n + m) l (omega arith) in
    let back : drop n (take (n + m) l) ≡ take m (drop n l) = drop-take n m l in
    (λ i. sym front i ++ sym back i) ∙ take-append-drop n (take (n + m) l)

-- from a position on, and then from a later one on
pub from_later : (at later : ℕ) (log : Log) → at ≤ later → from_position later (from_position at log) ≡ from_position later log
from_later at later log up = elim (cases_lt (last_position log) at) [
  | inl ended ↦
      let first : from_position at log ≡ checkpointed log = from_end at log (omega (arith, ended)) in
      let end : (standing_of log).count ≡ last_position log = counted log.base log.entries in
      let high : last_position (checkpointed log) ≤ later = omega (arith, end, ended, up) in
      ap (λ (l : Log). from_position later l) first ∙ from_end later (checkpointed log) high ∙ sym (from_end later log (omega (arith, ended, up)))
  | inr within ↦ elim (cases_lt at log.base.count) [
    | inl before ↦ ap (λ (l : Log). from_position later l) (from_base at log (omega (arith, before)))
    | inr behind ↦ cut within behind
  ]
]
  where
    cut : at ≤ last_position log → log.base.count ≤ at → from_position later (from_position at log) ≡ from_position later log
    cut within behind =
        let n : ℕ = at - log.base.count in
        let begins : (from_position at log).base.count ≡ at = begins_at at log behind within in
        let k : later - (from_position at log).base.count ≡ later - at = ap (λ (m : ℕ). later - m) begins in
        let sum : n + (later - at) ≡ later - log.base.count = omega (arith, up, behind) in
        let rest : drop (later - (from_position at log).base.count) (drop n log.entries) ≡ drop (later - log.base.count) log.entries =
        ap (λ (m : ℕ). drop m (drop n log.entries)) k ∙ drop-drop (later - at) n log.entries ∙ ap (λ (m : ℕ). drop m log.entries) sum in
        let front : take n log.entries ++ take (later - (from_position at log).base.count) (drop n log.entries) ≡ take (later - log.base.count) log.entries =
        ap (λ (m : ℕ). take n log.entries ++ take m (drop n log.entries)) k ∙ take_both n (later - at) log.entries ∙ ap (λ (m : ℕ). take m log.entries) sum in
        let base : after_entries (after_entries log.base (take n log.entries)) (take (later - (from_position at log).base.count) (drop n log.entries)) ≡ after_entries log.base (take (later - log.base.count) log.entries) =
        sym (in_parts log.base (take n log.entries) (take (later - (from_position at log).base.count) (drop n log.entries))) ∙ ap (λ (l : List LogEntry). after_entries log.base l) front in
        λ i. record { base = base i; entries = rest i }

-- one log goes on as the other
abbrev Alike : Log → Log → Type 0
Alike x y = (x.base ≡ y.base) × IsPrefix x.entries y.entries

-- so they do from each later position that the first reaches
alike_later : (later : ℕ) (x y : Log) → later ≤ last_position x → Alike x y → Alike (from_position later x) (from_position later y)
alike_later later x y within on =
    let counts : x.base.count ≡ y.base.count = ap (λ (s : Standing). s.count) on.0 in
    let n : ℕ = later - x.base.count in
    let same : later - y.base.count ≡ n = ap (λ (m : ℕ). later - m) (sym counts) in
    let few : n ≤ length x.entries = omega (arith, within) in
    let front : take (later - y.base.count) y.entries ≡ take n x.entries =
    ap (λ (m : ℕ). take m y.entries) same ∙ ap (λ (l : List LogEntry). take n l) on.1.1 ∙ take-append-le n x.entries on.1.0 few in
    let back : drop (later - y.base.count) y.entries ≡ drop n x.entries ++ on.1.0 =
    ap (λ (m : ℕ). drop m y.entries) same ∙ ap (λ (l : List LogEntry). drop n l) on.1.1 ∙ drop-append-le n x.entries on.1.0 few in
    (λ i. after_entries (on.0 i) (sym front i), (on.1.0, back))

-- two logs that go on alike from a position do so from each later one that the first reaches
pub from_there : (at later : ℕ) (a b : Log) → at ≤ later → later ≤ last_position a → GoesOn at a b → GoesOn later a b
from_there at later a b up within on =
    let here : Alike (from_position later (from_position at a)) (from_position later (from_position at b)) =
    alike_later later (from_position at a) (from_position at b) (omega (arith, same_end at a, within)) (on.base, on.entries) in
    let there : Alike (from_position later a) (from_position later b) =
    subst (λ (l : Log). Alike l (from_position later b)) (from_later at later a up)
    (subst (λ (l : Log). Alike (from_position later (from_position at a)) l) (from_later at later b up) here) in
    record { base = there.0; entries = there.1 }

-- what the other stands for where the first ends
pub stands : (a b : Log) → IsPrefixOf a b → b.base.count ≤ last_position a → (from_position (last_position a) b).base ≡ standing_of a
stands a b (inl gap) known = absurd (omega (arith, gap, known))
stands a b (inr on) known =
    let at : ℕ = max a.base.count b.base.count in
    let last : GoesOn (last_position a) a b = from_there at (last_position a) a b (omega (arith, known)) (omega arith) on in
    sym last.base ∙ ap (λ (l : Log). l.base) (from_end (last_position a) a (omega arith))

-- each is a prefix of the other
pub both : (a b : Log) → IsPrefixOf a b → IsPrefixOf b a → (last_position a ≡ last_position b) × (standing_of a ≡ standing_of b)
both a b one other =
    let end : last_position a ≡ last_position b = omega (arith, shorter a b one, shorter b a other) in
    let there : (from_position (last_position a) b).base ≡ standing_of a = stands a b one (omega (arith, end)) in
    let all : from_position (last_position a) b ≡ checkpointed b = from_end (last_position a) b (omega (arith, end)) in
    (end, sym there ∙ ap (λ (l : Log). l.base) all)

-- one behind another, where the one between forgot nothing that both ends have
pub then_on : (a b c : Log) → b.base.count ≤ max a.base.count c.base.count → IsPrefixOf a b → IsPrefixOf b c → IsPrefixOf a c
then_on a b c known (inl gap) second = inl (omega (arith, known, gap))
then_on a b c known (inr on) (inl gap) = inl (omega (arith, gap, goes_to_end (max a.base.count b.base.count) a b on))
then_on a b c known (inr on) (inr more) = elim (cases_lt (last_position a) c.base.count) [
  | inl gap ↦ inl gap
  | inr within ↦
      let at : ℕ = max a.base.count c.base.count in
      let longer : last_position a ≤ last_position b = goes_to_end (max a.base.count b.base.count) a b on in
      let first : GoesOn at a b = from_there (max a.base.count b.base.count) at a b (omega (arith, known)) (omega (arith, within)) on in
      let second : GoesOn at b c = from_there (max b.base.count c.base.count) at b c (omega (arith, known)) (omega (arith, within, longer)) more in
      inr (record {
        base = first.base ∙ second.base;
        entries = (first.entries.0 ++ second.entries.0, second.entries.1 ∙ ap (λ (l : List LogEntry). l ++ second.entries.0) first.entries.1 ∙ append_assoc (from_position at a).entries first.entries.0 second.entries.0);
      })
]

-- each log is a prefix of itself
pub of_itself : (a : Log) → IsPrefixOf a a
of_itself a = over_one_base a a refl ([], sym (append-nil a.entries))

-- a log that grew by a first part of what another grew by
pub grown_front : (log : Log) (more all : List Commit) → IsPrefix more all → IsPrefixOf (grown log more) (grown log all)
grown_front log more all front =
    let entries : log.entries ++ map Recorded all ≡ (log.entries ++ map Recorded more) ++ map Recorded front.0 =
    ap (λ (l : List Commit). log.entries ++ map Recorded l) front.1
    ∙ ap (λ (l : List LogEntry). log.entries ++ l) (map-append Recorded more front.0)
    ∙ sym (append_assoc log.entries (map Recorded more) (map Recorded front.0)) in
    over_one_base (grown log more) (grown log all) refl (map Recorded front.0, entries)

-- and the other way: over one base a prefix is a first part
pub back_over_one_base : (a b : Log) → a.base ≡ b.base → IsPrefixOf a b → IsPrefix a.entries b.entries
back_over_one_base a b same (inl gap) = (let count : a.base.count ≡ b.base.count = ap (λ (s : Standing). s.count) same in absurd (omega (arith, gap, count)))
back_over_one_base a b same (inr on) =
    let at : ℕ = max a.base.count b.base.count in
    let count : a.base.count ≡ b.base.count = ap (λ (s : Standing). s.count) same in
    let one : from_position at a ≡ a = from_base at a (omega (arith, count)) in
    let two : from_position at b ≡ b = from_base at b (omega (arith, count)) in
    subst (λ (l : Log). IsPrefix a.entries l.entries) two (subst (λ (l : Log). IsPrefix l.entries (from_position at b).entries) one on.entries)

-- over bases at one position a prefix has the same base and a first part of the entries
pub of_one_position : (a b : Log) → a.base.count ≡ b.base.count → IsPrefixOf a b → (a.base ≡ b.base) × IsPrefix a.entries b.entries
of_one_position a b same (inl gap) = absurd (omega (arith, gap, same))
of_one_position a b same (inr on) =
    let at : ℕ = max a.base.count b.base.count in
    let one : from_position at a ≡ a = from_base at a (omega (arith, same)) in
    let two : from_position at b ≡ b = from_base at b (omega (arith, same)) in (
      sym (ap (λ (l : Log). l.base) one) ∙ on.base ∙ ap (λ (l : Log). l.base) two,
      subst (λ (l : Log). IsPrefix a.entries l.entries) two (subst (λ (l : Log). IsPrefix l.entries (from_position at b).entries) one on.entries),
    )
