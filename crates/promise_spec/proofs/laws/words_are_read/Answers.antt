use Rattle.std.proofs.Common.{◌≡◌, ℕ, false, get_or, length, ap, List, [], ◌∷◌, refl, arith, lit<, lit≤}
use Rattle.std.specs.Fmt.{digits}
use Rattle.promise_spec.specs.Words.{Width, Turns, Workers, Apart, Joined, Init, Run, Show, History, Audit, Load, Check, Compact, Upgrade, Migrate}
use Rattle.promise_spec.proofs.Words.{no_run, no_load, no_check, no_compact, no_upgrade, no_migrate}
use Rattle.promise_spec.proofs.laws.words_are_read.Goals as goal

pub returns-clause-run : goal.returns-clause-run
returns-clause-run c = record {
  options = [];
  are = record { taken = refl; within = tt; once = tt; alone = λ is. absurd (cc is) };
  words_are = refl;
  manner = refl;
}

pub returns-clause-turns : goal.returns-clause-turns
unfolding digits
returns-clause-turns c = record {
  options = record { what = Turns (0 ∷ 1 ∷ []); form = Apart } ∷ record { what = Width 3; form = Joined } ∷ [];
  are = record {
    taken = refl;
    within = ((lit≤ tt, lit≤ tt, (lit< tt, (lit< tt, tt))), ((lit≤ tt, lit≤ tt), tt));
    once = ((λ same. omega (arith, let letter : ◌≡◌ {A = ℕ} 105 117 = ap (λ (l : List ℕ). get_or l 3 0) same in letter), tt), (tt, tt));
    alone = λ is. absurd (cc is);
  };
  words_are = refl;
  manner = refl;
}

pub returns-clause-load : goal.returns-clause-load
unfolding digits
returns-clause-load c = record {
  before = [];
  between = [];
  behind = [];
  are = record { taken = refl; within = tt; once = tt; alone = λ is. absurd (cc is) };
  no_turns = tt;
  many = (lit≤ tt, lit≤ tt);
  small = lit< tt;
  words_are = refl;
  manner = refl;
}

pub returns-clause-load_workers : goal.returns-clause-load_workers
unfolding digits
returns-clause-load_workers c = record {
  before = record { what = Workers 2; form = Apart } ∷ [];
  between = [];
  behind = [];
  are = record { taken = refl; within = ((lit≤ tt, lit≤ tt), tt); once = (tt, tt); alone = λ is. refl };
  no_turns = (tt, tt);
  many = (lit≤ tt, lit≤ tt);
  small = lit< tt;
  words_are = refl;
  manner = refl;
}

pub returns-clause-load_between : goal.returns-clause-load_between
unfolding digits
returns-clause-load_between c = record {
  before = [];
  between = record { what = Width 2; form = Joined } ∷ [];
  behind = [];
  are = record { taken = refl; within = ((lit≤ tt, lit≤ tt), tt); once = (tt, tt); alone = λ is. absurd (cc is) };
  no_turns = (tt, tt);
  many = (lit≤ tt, lit≤ tt);
  small = lit< tt;
  words_are = refl;
  manner = refl;
}

pub returns-clause-no_width : goal.returns-clause-no_width
returns-clause-no_width c takes = no_run _ takes (λ are same. omega (arith, are.within.0.0))

pub returns-clause-too_wide : goal.returns-clause-too_wide
returns-clause-too_wide c takes = no_run _ takes (λ are same. omega (arith, are.within.0.1))

pub returns-clause-leading_zero : goal.returns-clause-leading_zero
unfolding digits
returns-clause-leading_zero c takes = no_run _ takes (λ are same.
    let length_of : ◌≡◌ {A = ℕ} 2 1 = ap (λ (l : List (List ℕ)). length (get_or l 1 [])) same in omega (arith, length_of))

pub returns-clause-no_value : goal.returns-clause-no_value
returns-clause-no_value c takes = no_run _ takes (λ are same. absurd (cc same))

pub returns-clause-no_picks : goal.returns-clause-no_picks
unfolding digits
returns-clause-no_picks c takes = no_run _ takes (λ are same.
    let length_of : ◌≡◌ {A = ℕ} 0 1 = ap (λ (l : List (List ℕ)). length (get_or l 1 [])) same in omega (arith, length_of))

pub returns-clause-large_pick : goal.returns-clause-large_pick
returns-clause-large_pick c takes = no_run _ takes (λ are same. omega (arith, are.within.0.2.1.0))

pub returns-clause-not_alone : goal.returns-clause-not_alone
returns-clause-not_alone c takes = no_run _ takes (λ are same. absurd (cc (are.alone refl)))

pub returns-clause-twice : goal.returns-clause-twice
returns-clause-twice c takes = no_run _ takes (λ are same. are.once.0.0 refl)

pub returns-clause-extra : goal.returns-clause-extra
returns-clause-extra c takes = no_run _ takes (λ are same. absurd (cc same))

pub returns-clause-not_taken : goal.returns-clause-not_taken
returns-clause-not_taken c = no_run _ (λ g. false) (λ are same. absurd (cc are.taken))

pub returns-clause-load_of_none : goal.returns-clause-load_of_none
returns-clause-load_of_none c takes = no_load _ takes (λ n seed numbers many small are no_turns. let e : 0 ≡ n = cc numbers in omega (arith, e, many.0))

pub returns-clause-load_of_many : goal.returns-clause-load_of_many
returns-clause-load_of_many c takes = no_load _ takes (λ n seed numbers many small are no_turns.
    let e : 100001 ≡ n = ap (λ (l : List ℕ). get_or l 0 0) numbers in omega (arith, e, many.1))

pub returns-clause-large_seed : goal.returns-clause-large_seed
returns-clause-large_seed c takes = no_load _ takes (λ n seed numbers many small are no_turns.
    let e : 18446744073709551616 ≡ seed = ap (λ (l : List ℕ). get_or l 1 0) numbers in omega (arith, e, small))

pub returns-clause-third_number : goal.returns-clause-third_number
returns-clause-third_number c takes = no_load _ takes (λ n seed numbers many small are no_turns. absurd (cc numbers))

pub returns-clause-no_seed : goal.returns-clause-no_seed
returns-clause-no_seed c takes = no_load _ takes (λ n seed numbers many small are no_turns. absurd (cc numbers))

pub returns-clause-load_turns : goal.returns-clause-load_turns
returns-clause-load_turns c takes = no_load _ takes (λ n seed numbers many small are no_turns. absurd no_turns.0)

pub returns-clause-check : goal.returns-clause-check
unfolding digits
returns-clause-check c = record { few = lit≤ tt; small = lit< tt; words_are = refl }

pub returns-clause-check_most : goal.returns-clause-check_most
unfolding digits
returns-clause-check_most c = record { few = lit≤ tt; small = lit< tt; words_are = refl }

pub returns-clause-check_of_many : goal.returns-clause-check_of_many
returns-clause-check_of_many c takes = no_check _ takes (λ n seed numbers options few small.
    let e : 10001 ≡ n = ap (λ (l : List ℕ). get_or l 0 0) numbers in omega (arith, e, few))

pub returns-clause-check_large_seed : goal.returns-clause-check_large_seed
returns-clause-check_large_seed c takes = no_check _ takes (λ n seed numbers options few small.
    let e : 18446744073709551616 ≡ seed = ap (λ (l : List ℕ). get_or l 1 0) numbers in omega (arith, e, small))

pub returns-clause-check_no_seed : goal.returns-clause-check_no_seed
returns-clause-check_no_seed c takes = no_check _ takes (λ n seed numbers options few small. absurd (cc numbers))

pub returns-clause-check_third_number : goal.returns-clause-check_third_number
returns-clause-check_third_number c takes = no_check _ takes (λ n seed numbers options few small. absurd (cc numbers))

pub returns-clause-check_option : goal.returns-clause-check_option
returns-clause-check_option c takes = no_check _ takes (λ n seed numbers options few small. absurd (cc options))

pub returns-clause-no_words : goal.returns-clause-no_words
returns-clause-no_words c takes Init said = absurd (cc said)
returns-clause-no_words c takes (Run m) said = absurd (cc said.words_are)
returns-clause-no_words c takes Show said = absurd (cc said)
returns-clause-no_words c takes History said = absurd (cc said)
returns-clause-no_words c takes Audit said = absurd (cc said)
returns-clause-no_words c takes (Load n seed m) said = absurd (cc said.words_are)
returns-clause-no_words c takes (Check n seed) said = absurd (cc said.words_are)
returns-clause-no_words c takes Compact said = absurd (cc said)
returns-clause-no_words c takes Upgrade said = absurd (cc said)
returns-clause-no_words c takes Migrate said = absurd (cc said)

pub returns-clause-compact : goal.returns-clause-compact
returns-clause-compact c = refl

pub returns-clause-compact_alone : goal.returns-clause-compact_alone
returns-clause-compact_alone c takes = no_compact _ [] takes

pub returns-clause-upgrade : goal.returns-clause-upgrade
returns-clause-upgrade c = refl

pub returns-clause-upgrade_alone : goal.returns-clause-upgrade_alone
returns-clause-upgrade_alone c takes = no_upgrade _ [] takes

pub returns-clause-migrate : goal.returns-clause-migrate
returns-clause-migrate c = refl

pub returns-clause-migrate_alone : goal.returns-clause-migrate_alone
returns-clause-migrate_alone c takes = no_migrate _ [] takes
