-- Runs of moments.
use Rattle.std.proofs.Common.{◌≡◌, inl, inr, List, [], ◌∷◌, ◌++◌, refl, sym, ◌∙◌, ap, subst, append_assoc, append-nil}
use Rattle.std.proofs.lemmas.List.{append_cancel_left}
use Rattle.std.specs.List.{AllByRecursion}
use Rattle.host_trait.specs.World.{World, Moment, moment_of, Passes, PassesTwice, Ticks, last_of, Arrives}

all_both : (P : Moment → Type 0) (xs ys : List Moment) → AllByRecursion P xs → AllByRecursion P ys → AllByRecursion P (xs ++ ys)
all_both P [] ys none each = each
all_both P (x ∷ xs) ys each later = (each.0, all_both P xs ys each.1 later)

all_weaker : (P Q : Moment → Type 0) → ((m : Moment) → P m → Q m) → (xs : List Moment) → AllByRecursion P xs → AllByRecursion Q xs
all_weaker P Q weaker [] none = tt
all_weaker P Q weaker (x ∷ xs) each = (weaker x each.0, all_weaker P Q weaker xs each.1)

all_met : (P Q : Moment → Type 0) (xs : List Moment) → AllByRecursion P xs → AllByRecursion Q xs → AllByRecursion (λ m. P m × Q m) xs
all_met P Q [] one two = tt
all_met P Q (x ∷ xs) one two = ((one.0, two.0), all_met P Q xs one.1 two.1)

-- before the first call
pub started : (P : Moment → Type 0) (past : List Moment) → Passes P past past
started P past = record { more = []; past = sym (append-nil past); each = tt }

-- one call, after which P holds
pub one : (P : Moment → Type 0) (old new : World) → Ticks old new → P (moment_of new) → Passes P old.past new.past
one P old new (inl tick) holds = record { more = moment_of new ∷ []; past = tick; each = (holds, tt) }
one P old new (inr none) holds = record { more = []; past = none.0 ∙ sym (append-nil old.past); each = tt }

-- one run of calls after another
pub both : (P : Moment → Type 0) {a b c : List Moment} → Passes P a b → Passes P b c → Passes P a c
both P {a} first second = record {
  more = first.more ++ second.more;
  past = second.past ∙ ap (λ (l : List Moment). l ++ second.more) first.past ∙ append_assoc a first.more second.more;
  each = all_both P first.more second.more first.each second.each;
}

pub weaker : (P Q : Moment → Type 0) {a b : List Moment} → ((m : Moment) → P m → Q m) → Passes P a b → Passes Q a b
weaker P Q leads run = record { more = run.more; past = run.past; each = all_weaker P Q leads run.more run.each }

-- two facts of the moments of one run
pub met : (P Q : Moment → Type 0) {a b : List Moment} → Passes P a b → Passes Q a b → Passes (λ m. P m × Q m) a b
met P Q {a} one two =
    let same : two.more ≡ one.more = append_cancel_left a two.more one.more (sym two.past ∙ one.past) in
    record { more = one.more; past = one.past; each = all_met P Q one.more one.each (subst (AllByRecursion Q) same two.each) }

-- a call that changed nothing is a moment like the one before
pub same_moment : (old new : World) → new.output ≡ old.output → new.disk ≡ old.disk → moment_of new ≡ moment_of old
same_moment old new output disk = λ i. record { output = output i; disk = disk i }

-- an early run, and then a late one
pub in_turn : (P Q : Moment → Type 0) {a b c : List Moment} → Passes P a b → Passes Q b c → PassesTwice P Q a c
in_turn P Q {a} {b} early late = record { turn = b; early = early; late = late }

-- an early run before
pub earlier : (P Q : Moment → Type 0) {a b c : List Moment} → Passes P a b → PassesTwice P Q b c → PassesTwice P Q a c
earlier P Q before run = record { turn = run.turn; early = both P before run.early; late = run.late }

-- a late run behind
pub later : (P Q : Moment → Type 0) {a b c : List Moment} → PassesTwice P Q a b → Passes Q b c → PassesTwice P Q a c
later P Q run behind = record { turn = run.turn; early = run.early; late = both Q run.late behind }

-- all moments are early
pub all_early : (P Q : Moment → Type 0) {a b : List Moment} → Passes P a b → PassesTwice P Q a b
all_early P Q {a} {b} run = in_turn P Q run (started Q b)

-- all moments are late
pub all_late : (P Q : Moment → Type 0) {a b : List Moment} → Passes Q a b → PassesTwice P Q a b
all_late P Q {a} {b} run = in_turn P Q (started P a) run

pub weaker_twice : (P Q R S : Moment → Type 0) {a b : List Moment} → ((m : Moment) → P m → R m) → ((m : Moment) → Q m → S m) → PassesTwice P Q a b → PassesTwice R S a b
weaker_twice P Q R S first second run = record { turn = run.turn; early = weaker P R first run.early; late = weaker Q S second run.late }

-- two runs are one run of what holds in both
pub joined : (P : Moment → Type 0) {a b : List Moment} → PassesTwice P P a b → Passes P a b
joined P run = both P run.early run.late

last_of-append : (before : Moment) (xs ys : List Moment) → last_of before (xs ++ ys) ≡ last_of (last_of before xs) ys
last_of-append before [] ys = refl
last_of-append before (x ∷ xs) ys = last_of-append x xs ys

-- where each moment is this one, the last is
last_of-same : (m before : Moment) (xs : List Moment) → before ≡ m → AllByRecursion (λ (x : Moment). x ≡ m) xs → last_of before xs ≡ m
last_of-same m before [] is each = is
last_of-same m before (x ∷ xs) is each = last_of-same m x xs each.0 each.1

-- the clock before the first call
pub arrived : (w : World) → Arrives w w
arrived w = record { more = []; past = sym (append-nil w.past); last = refl }

-- the clock of one call
pub arrives_once : (old new : World) → Ticks old new → Arrives old new
arrives_once old new (inl tick) = record { more = moment_of new ∷ []; past = tick; last = refl }
arrives_once old new (inr none) = record { more = []; past = none.0 ∙ sym (append-nil old.past); last = sym none.1 }

-- the clock of one run of calls after another
pub arrives_then : (old mid new : World) → Arrives old mid → Arrives mid new → Arrives old new
arrives_then old mid new first second = record {
  more = first.more ++ second.more;
  past = second.past ∙ ap (λ (l : List Moment). l ++ second.more) first.past ∙ append_assoc old.past first.more second.more;
  last = last_of-append (moment_of old) first.more second.more ∙ ap (λ (m : Moment). last_of m second.more) first.last ∙ second.last;
}

-- the clock of a run at each of whose moments all was as before
pub arrives_still : (old new : World) → Passes (λ m. m ≡ moment_of old) old.past new.past → moment_of new ≡ moment_of old → Arrives old new
arrives_still old new run now = record { more = run.more; past = run.past; last = last_of-same (moment_of old) (moment_of old) run.more refl run.each ∙ sym now }
