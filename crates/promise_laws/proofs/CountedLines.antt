-- The lines of a load are counted, each once.
use Rattle.std.proofs.Common.{◌≡◌, ◌≢◌, ◌⊎◌, inl, inr, ℕ, zero, suc, ◌+◌, ◌<◌, ◌≤◌, ◌==◌, Bool, true, false, List, [], ◌∷◌, length, take, Some, refl, sym, ap, subst, ◌∙◌, arith, append-nil, eq-eqb}
use Rattle.std.specs.Prelude.{slice_get, count_by, nat_le, if◌then◌else◌}
use Rattle.std.proofs.Math.Seq.{take-append_seam}
use Rattle.std.proofs.lemmas.Bool.{cases_lt}
use Rattle.std.proofs.lemmas.Bool.Decides.{nat_tests}
use Rattle.std.proofs.lemmas.List.Sums.{sum_by-cons}
use Rattle.std.proofs.lemmas.Option.{slice_get_within}
use Rattle.base_types.specs.declared.calls.Outcome.TheVariants as outcome
use Rattle.base_types.specs.declared.entries.BadRequest.{BadRequest}
use Rattle.base_types.specs.declared.entries.Entry.{Entry}
use Rattle.base_types.specs.declared.entries.Settled.{Settled}
use Rattle.base_types.specs.declared.entries.Settled.TheVariants as settled
use Rattle.core_model.specs.CoreState.{Member}
use Rattle.core_model.specs.Causes.{HasCause, IsCaused}
use Rattle.core_model.specs.declared.events.CoreEvent.{CoreEvent}
use Rattle.core_model.specs.declared.events.CoreEvent.TheVariants.{Bad}
use Rattle.core_model.specs.Events.{applies, run, step}
use Rattle.core_model.specs.LegalRuns.{Run, begins}
use Rattle.core_model.specs.Lines.{DifferInLine}
use Rattle.script_tree.specs.Programs.{ProgramTree}
use Rattle.script_meaning.proofs.Plays.{plays_are_orderly_lem}
use Rattle.field_codec.specs.declared.formats.Format.TheVariants.{Two}
use Rattle.promise_spec.specs.Programs.{Program}
use Rattle.promise_spec.specs.Records.{Commit, States, after_writes}
use Rattle.promise_spec.specs.Entries.{Log, new_silo, records_of, standing_of}
use Rattle.base_types.specs.Origins.{depth_of}
use Rattle.promise_spec.specs.SerialExecution.{IsSerial}
use Rattle.promise_spec.specs.Logs.{IsPrefix}
use Rattle.promise_spec.specs.Images.{IsWholeSilo, AreNumbered}
use Rattle.promise_spec.specs.Lines.{IsBadLine}
use Rattle.promise_spec.specs.Cores.{AppliesAt}
use Rattle.promise_spec.specs.Causes.{RunHasDoubt}
use Rattle.promise_spec.specs.Endings as ending
use Rattle.promise_spec.specs.Courses.{Observed, Course, order, lines, seen_at_entry, core_run, core_end}
use Rattle.promise_spec.specs.Explanation.{IsExplained}
use Rattle.promise_spec.specs.Promise.{IsAnswered}
use Rattle.promise_spec.specs.Replies.{IsTrueOf}
use Rattle.promise_spec.specs.Loads.{load_calls, line_valued, is_faulted, line_aborted, how_many_lines, KeepsLoad}
use Rattle.promise_spec.proofs.Lists.{get_seam}
use Rattle.promise_spec.proofs.OneLog.{one_log}
use Rattle.promise_spec.proofs.Standings.{grown_records}
use Rattle.promise_laws.proofs.Bases.{begins_above}
use Rattle.promise_laws.proofs.JournalCrashes.{numbered_front}
use Rattle.promise_laws.proofs.DoubtedBatches.{not-both}
use Rattle.promise_laws.proofs.TrueReplies.{replies_within, replies_once, replies_true}

-- ---- counts

-- what a test counts
abbrev one_if : Bool → ℕ
one_if b = if b then 1 else 0

-- one item counts or not
counts_one : {A : Type 0} (is : A → Bool) (x : A) (xs : List A) → count_by is (x ∷ xs) ≡ one_if (is x) + count_by is xs
counts_one {A} is x xs = sum_by-cons (λ (y : A). one_if (is y)) x xs

-- what meets no test isn't counted
counts_none : {A : Type 0} (is : A → Bool) (xs : List A) → ((x : A) → Member x xs → is x ≡ false) → count_by is xs ≡ 0
counts_none is [] none = refl
counts_none is (x ∷ xs) none =
    let one = counts_one is x xs in
    let here : one_if (is x) ≡ 0 = ap one_if (none x (inl refl)) in
    let more : count_by is xs ≡ 0 = counts_none is xs (λ y there. none y (inr there)) in
    omega (arith, one, here, more)

-- where all meet it, all are counted
counts_all : {A : Type 0} (is : A → Bool) (xs : List A) → ((x : A) → Member x xs → is x ≡ true) → count_by is xs ≡ length xs
counts_all is [] all = refl
counts_all is (x ∷ xs) all =
    let one = counts_one is x xs in
    let here : one_if (is x) ≡ 1 = ap one_if (all x (inl refl)) in
    let more : count_by is xs ≡ length xs = counts_all is xs (λ y there. all y (inr there)) in
    omega (arith, one, here, more)

-- exactly one of three tests is met
abbrev IsOneOf : Bool → Bool → Bool → Type 0
IsOneOf a b c = one_if a + (one_if b + one_if c) ≡ 1

-- three tests of which each item meets exactly one count each item once
counts_three : {A : Type 0} (a b c : A → Bool) (xs : List A) → ((x : A) → Member x xs → IsOneOf (a x) (b x) (c x)) → count_by a xs + (count_by b xs + count_by c xs) ≡ length xs
counts_three a b c [] each = refl
counts_three a b c (x ∷ xs) each =
    let p = counts_one a x xs in
    let q = counts_one b x xs in
    let r = counts_one c x xs in
    let here = each x (inl refl) in
    let more : count_by a xs + (count_by b xs + count_by c xs) ≡ length xs = counts_three a b c xs (λ y there. each y (inr there)) in
    omega (arith, p, q, r, here, more)

-- ---- an entry for each line

-- how many entries are of a line, and of one up to a line
abbrev of_line : ℕ → List Entry → ℕ
of_line n es = count_by (λ (e : Entry). e.line == n) es

abbrev up_to : ℕ → List Entry → ℕ
up_to n es = count_by (λ (e : Entry). nat_le e.line n) es

-- numbers that differ fail the test
not_same : (a b : ℕ) → (a ≡ b → ⊥) → (a == b) ≡ false
not_same a b apart = grind (arith, nat_tests)

-- a number above another isn't up to it
not_below : (a b : ℕ) → b < a → nat_le a b ≡ false
not_below a b above = grind (arith, nat_tests)

-- and one that isn't is
is_below : (a b : ℕ) → a ≤ b → nat_le a b ≡ true
is_below a b low = grind (arith, nat_tests)

-- of entries of different lines one is of each line that has one
one_of_line : (n : ℕ) (es : List Entry) → DifferInLine es → (e : Entry) → Member e es → e.line ≡ n → of_line n es ≡ 1
one_of_line n [] differ e there is = absurd there
one_of_line n (x ∷ es) differ e (inl same) is =
    let first : x.line ≡ n = sym (ap (λ (y : Entry). y.line) same) ∙ is in
    let one = counts_one (λ (y : Entry). y.line == n) x es in
    let here : one_if (x.line == n) ≡ 1 = ap one_if (eq-eqb x.line n first) in
    let none : of_line n es ≡ 0 = counts_none (λ (y : Entry). y.line == n) es (λ y later. not_same y.line n (λ q. differ.0 y later (first ∙ sym q))) in
    omega (arith, one, here, none)
one_of_line n (x ∷ es) differ e (inr later) is =
    let one = counts_one (λ (y : Entry). y.line == n) x es in
    let here : one_if (x.line == n) ≡ 0 = ap one_if (not_same x.line n (λ q. differ.0 e later (q ∙ sym is))) in
    let more : of_line n es ≡ 1 = one_of_line n es differ.1 e later is in
    omega (arith, one, here, more)

-- what a test counts
is_1 : {b : Bool} → b ≡ true → one_if b ≡ 1
is_1 e = ap one_if e

is_0 : {b : Bool} → b ≡ false → one_if b ≡ 0
is_0 e = ap one_if e

-- a line is up to the next one where it is up to this one, or is the next
next_line : (a n : ℕ) → one_if (nat_le a (n + 1)) ≡ one_if (nat_le a n) + one_if (a == n + 1)
next_line a n = elim (cases_lt n a) [
  | inl above ↦ elim (cases_lt (n + 1) a) [
    | inl high ↦ (let p = is_0 (not_below a (n + 1) high) in let q = is_0 (not_below a n above) in let s = is_0 (not_same a (n + 1) (λ e. omega (arith, high, e))) in omega (arith, p, q, s))
    | inr near ↦ (let p = is_1 (is_below a (n + 1) near) in let q = is_0 (not_below a n above) in let s = is_1 (eq-eqb a (n + 1) (omega (arith, above, near))) in omega (arith, p, q, s))
  ]
  | inr low ↦ (let p = is_1 (is_below a (n + 1) (omega (arith, low))) in let q = is_1 (is_below a n low) in let s = is_0 (not_same a (n + 1) (λ e. omega (arith, low, e))) in omega (arith, p, q, s))
]

-- so the counts up to two lines differ by those of the next one
more_lines : (n : ℕ) (es : List Entry) → up_to (n + 1) es ≡ up_to n es + of_line (n + 1) es
more_lines n [] = refl
more_lines n (e ∷ es) =
    let p = counts_one (λ (x : Entry). nat_le x.line (n + 1)) e es in
    let q = counts_one (λ (x : Entry). nat_le x.line n) e es in
    let r = counts_one (λ (x : Entry). x.line == n + 1) e es in
    let here = next_line e.line n in
    let more : up_to (n + 1) es ≡ up_to n es + of_line (n + 1) es = more_lines n es in
    omega (arith, p, q, r, here, more)

-- entries of different lines, one for each line, are as many as lines
module _ (es : List Entry) (differ : DifferInLine es) (low : (e : Entry) → Member e es → 1 ≤ e.line) where
  -- up to a line there are as many entries as lines
  lines_up_to : (n : ℕ) → ((k : ℕ) → 1 ≤ k → k ≤ n → (e : Entry) × Member e es × (e.line ≡ k)) → up_to n es ≡ n
  lines_up_to zero each = counts_none (λ (e : Entry). nat_le e.line 0) es (λ e there. not_below e.line 0 (let above = low e there in omega (arith, above)))
  lines_up_to (suc n) each =
      let t = each (n + 1) (omega arith) (omega arith) in
      let one : of_line (n + 1) es ≡ 1 = one_of_line (n + 1) es differ t.0 t.1 t.2 in
      let fewer : up_to n es ≡ n = lines_up_to n (λ k above below. each k above (omega (arith, below))) in
      let all : up_to (n + 1) es ≡ up_to n es + of_line (n + 1) es = more_lines n es in
      let next : up_to (suc n) es ≡ up_to (n + 1) es = ap (λ (k : ℕ). up_to k es) (omega arith) in
      omega (arith, one, fewer, all, next)

  -- so there are as many as lines
  as_many_lines : (n : ℕ) → ((e : Entry) → Member e es → e.line ≤ n) → ((k : ℕ) → 1 ≤ k → k ≤ n → (e : Entry) × Member e es × (e.line ≡ k)) → length es ≡ n
  as_many_lines n high each = sym (counts_all (λ (e : Entry). nat_le e.line n) es (λ e there. is_below e.line n (high e there))) ∙ lines_up_to n each

-- ---- what entries say

-- an event that settled an entry stands at its index, and applies
at_cause : (r : Run) (x : Entry) (cause : IsCaused r x) → AppliesAt r (length cause.before) cause.event
at_cause r x cause = record {
  there = ap (λ (events : List CoreEvent). slice_get events (length cause.before)) cause.split ∙ get_seam cause.before cause.event cause.later;
  applied = subst (λ (events : List CoreEvent). applies (run (begins r) events) cause.event ≡ true)
      (sym (ap (take (length cause.before)) cause.split ∙ take-append_seam cause.before (cause.event ∷ cause.later))) cause.applied;
}

-- a serial record's result is no abort
no_abort : (types : ProgramTree) (states : States) (log : List Commit) (l : Commit) → IsSerial types states log → Member l log → l.logged.result ≢ outcome.Aborted
no_abort types states [] l serial there is = absurd there
no_abort types states (c ∷ log) l serial (inl same) is =
    (plays_are_orderly_lem types c.logged.call (depth_of c.logged.origin) states c.logged.answers).ended (serial.0.result ∙ ap (λ (x : Commit). x.logged.result) (sym same) ∙ is)
no_abort types states (c ∷ log) l serial (inr later) is = no_abort types (after_writes states c) log l serial.1 later is

module _ (p : Program) (r : Observed) (c : Course) (based : 0 < c.opening.base.next) (is : IsExplained p r c) (numbered : AreNumbered c.opening.base.next (records_of c.opening)) (serial : IsSerial p.types (standing_of c.opening).states c.added)
    (all : c.entries ≡ (core_end p c).manager.settled) (allowed : c.allowed ≡ length (lines r)) (answered : IsAnswered c) (sure : RunHasDoubt (core_run p c) → ⊥) (calls : (n : ℕ) (why : BadRequest) → IsBadLine p.types (lines r) n why → ⊥) where
  front : IsPrefix c.entries (core_end p c).manager.settled
  front = ([], sym all ∙ sym (append-nil c.entries))

  -- each entry has its cause
  caused : (e : Entry) → Member e c.entries → IsCaused (core_run p c) e
  caused e there = is.caused.entries e (subst (λ (es : List Entry). Member e es) all there)

  -- no outcome is an abort
  no_aborted : (e : Entry) → IsTrueOf p r c e (settled.Done outcome.Aborted) → ⊥
  no_aborted e (inl logged) = no_abort p.types (standing_of c.opening).states c.added logged.commit serial logged.added logged.result
  no_aborted e (inr plain) = (plays_are_orderly_lem p.types plain.call 1 (new_silo p).states plain.answers).ended plain.result

  -- an entry is of exactly one of three kinds
  one_kind : (e : Entry) → Member e c.entries → IsOneOf (line_aborted e.what) (line_valued e.what) (is_faulted e.what)
  one_kind e there = by e.what refl
    where
      kind : (s : Settled) → e.what ≡ s → IsOneOf (line_aborted s) (line_valued s) (is_faulted s) → IsOneOf (line_aborted e.what) (line_valued e.what) (is_faulted e.what)
      kind s q one = subst (λ (x : Settled). IsOneOf (line_aborted x) (line_valued x) (is_faulted x)) (sym q) one

      cause : (s : Settled) → e.what ≡ s → let k = caused e there in HasCause (run (begins (core_run p c)) k.before) k.event (step (run (begins (core_run p c)) k.before) k.event) e.unit s
      cause s q = (let k = caused e there in subst (HasCause (run (begins (core_run p c)) k.before) k.event (step (run (begins (core_run p c)) k.before) k.event) e.unit) q k.cause)

      by : (s : Settled) → e.what ≡ s → IsOneOf (line_aborted e.what) (line_valued e.what) (is_faulted e.what)
      by (settled.Done (outcome.Value value)) q = kind (settled.Done (outcome.Value value)) q refl
      by (settled.Done (outcome.Fault text)) q = kind (settled.Done (outcome.Fault text)) q refl
      by (settled.Done outcome.Aborted) q = absurd (no_aborted e (subst (IsTrueOf p r c e) q (replies_true p r c based is numbered front e there)))
      by (settled.Lock other grain) q = kind (settled.Lock other grain) q refl
      by (settled.Vote grain) q = kind (settled.Vote grain) q refl
      by (settled.Dependency on) q = kind (settled.Dependency on) q refl
      by settled.Disk q = kind settled.Disk q refl
      by settled.InDoubt q =
          (let k = caused e there in
          let t = (cause settled.InDoubt q).0 in
          absurd (sure (record { at = length k.before; number = t.0; doubt = subst (AppliesAt (core_run p c) (length k.before)) t.1 (at_cause (core_run p c) e k) })))
      by (settled.Bad why) q =
          (let k = caused e there in
          let t = cause (settled.Bad why) q in
          absurd (calls t.0 why (is.units (length k.before) (Bad t.0 why) (subst (AppliesAt (core_run p c) (length k.before)) t.1 (at_cause (core_run p c) e k)))))

  -- so the three counts add up
  pub counted : how_many_lines line_aborted c.entries + (how_many_lines line_valued c.entries + how_many_lines is_faulted c.entries) ≡ length (lines r)
  counted =
      counts_three (λ (e : Entry). line_aborted e.what) (λ (e : Entry). line_valued e.what) (λ (e : Entry). is_faulted e.what) c.entries one_kind
      ∙ as_many_lines c.entries (replies_once p r c based is front) (λ e there. (replies_within p r c based is front e there).0) (length (lines r)) (λ e there. (replies_within p r c based is front e there).1) (λ k low high. answered k low (subst (λ (n : ℕ). k ≤ n) (sym allowed) high))

-- ---- a load

-- an index within a list has an item
item_at : {A : Type 0} (xs : List A) (i : ℕ) → i < length xs → (x : A) × (slice_get xs i ≡ Some x)
item_at [] i low = absurd (omega (arith, low))
item_at (x ∷ xs) zero low = (x, refl)
item_at (x ∷ xs) (suc i) low = item_at xs i (omega (arith, low))

module _ (p : Program) (n seed : ℕ) (r : Observed) (c : Course) (keeps : KeepsLoad p n seed r c) where
  -- each line asks for a call
  no_bad_line : (line : ℕ) (why : BadRequest) → IsBadLine p.types (lines r) line why → ⊥
  no_bad_line line why bad =
      let within : bad.index < length (lines r) = slice_get_within (lines r) bad.index bad.text bad.there in
      let many : length (lines r) ≡ length (load_calls n seed) = keeps.asked.count in
      let t = item_at (load_calls n seed) bad.index (omega (arith, within, many)) in
      not-both p.types (lines r) (bad.index + 1) t.0 why (keeps.asked.each bad.index t.0 t.1) (subst (λ (k : ℕ). IsBadLine p.types (lines r) k why) bad.number bad)

  -- the units of the opening log are numbered
  opening_numbered : AreNumbered c.opening.base.next (records_of c.opening)
  opening_numbered =
      let longest = keeps.ordered.longest in
      let whole : IsWholeSilo c.live longest.image = keeps.crashes.whole longest.image longest.left c.live longest.log.is_live in
      let same : whole.log ≡ order c = one_log whole.format Two c.live c.live longest.image whole.log (order c) whole.is longest.log in
      let all : AreNumbered c.opening.base.next (records_of (order c)) = subst (λ (l : Log). AreNumbered l.base.next (records_of l)) same whole.numbered in
      numbered_front c.opening.base.next (records_of c.opening) c.added (subst (AreNumbered c.opening.base.next) (grown_records c.opening c.added) all)

  -- the opening log begins with a number above 0
  based : 0 < c.opening.base.next
  based = begins_above c.live (seen_at_entry r) c.opening keeps.ordered.read

  -- no batch is in doubt
  undoubted : (r.ending ≡ ending.Done) ⊎ (r.ending ≡ ending.WriteFault) → RunHasDoubt (core_run p c) → ⊥
  undoubted (inl done) doubt = subst ending.EndingMayDoubt done (keeps.explained.doubt_ends doubt)
  undoubted (inr fault) doubt = keeps.ended.undoubted fault doubt

  -- a load that told its summary, or failed while it did, counts each line once
  pub load_counted : (r.ending ≡ ending.Done) ⊎ (r.ending ≡ ending.WriteFault) → how_many_lines line_aborted c.entries + (how_many_lines line_valued c.entries + how_many_lines is_faulted c.entries) ≡ length (lines r)
  load_counted ends = counted p r c based keeps.explained opening_numbered keeps.ordered.serial keeps.settled keeps.ended.allowed (keeps.ended.done ends) (undoubted ends) no_bad_line
