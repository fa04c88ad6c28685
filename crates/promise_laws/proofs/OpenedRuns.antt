-- What a run answers, over any folder, and what it promises with what lasts.
use Rattle.std.proofs.Common.{◌≡◌, inl, inr, ℕ, zero, suc, ◌<◌, ◌≤◌, true, List, [], length, Some, sym, ◌∙◌, ap, subst, arith}
use Rattle.std.proofs.lemmas.List.{append_cancel_right}
use Rattle.base_types.specs.declared.calls.GrainId.{GrainId}
use Rattle.base_types.specs.declared.entries.Entry.{Entry}
use Rattle.core_model.specs.declared.events.CoreEvent.{CoreEvent}
use Rattle.core_model.specs.CoreState.{Member}
use Rattle.core_model.specs.WantedGrains.{next_wanted}
use Rattle.host_trait.specs.declared.channels.FileId.{FileId}
use Rattle.request_wire.specs.Lines.{lines_of}
use Rattle.script_tree.specs.Programs.{ProgramTree}
use Rattle.promise_spec.specs.Programs.{Program, shape_in}
use Rattle.promise_spec.specs.Images.{IsWholeFolder}
use Rattle.promise_spec.specs.Windows.{whole_windows}
use Rattle.promise_spec.specs.Entries.{Standing, standing_of}
use Rattle.promise_spec.specs.Outputs.{Grew}
use Rattle.promise_spec.specs.Cores.{core_from, state_before}
use Rattle.promise_spec.specs.Openings.{Reads, opened_as}
use Rattle.promise_spec.specs.Endings as ending
use Rattle.promise_spec.specs.Courses.{Observed, Course, seen_at_entry, program_in_force}
use Rattle.promise_spec.specs.Words.{Manner}
use Rattle.promise_spec.specs.Promise.{AllowedBy, Keeps, KeepsAnywhere, Promises}
use Rattle.promise_laws.specs.AnsweredRuns.{FaultEnded, HasAnswered, HasOpened}
use Rattle.promise_laws.specs.Obligations.{ShowsAnywhere, Lasts, Shows}
use Rattle.promise_laws.proofs.Bases.{reads_above}
use Rattle.promise_laws.proofs.OneFamily.{explained_family}
use Rattle.promise_laws.proofs.TrueReplies.{replies_begun, replies_within, replies_once, replies_true, replies_ordered}
use Rattle.promise_laws.proofs.ShownRuns.{explained, ended_anywhere, answers_of, shown}

-- ---- how it ends, and what it answers

-- where nothing has happened, no grain is wanted
unwanted : (types : ProgramTree) (opening : Standing) (events : List CoreEvent) → events ≡ [] → (at : ℕ) (g : GrainId) → next_wanted (state_before (core_from types opening events) at) ≡ Some g → ⊥
unwanted types opening events none at g wanted = go at (subst (λ (es : List CoreEvent). next_wanted (state_before (core_from types opening es) at) ≡ Some g) none wanted)
  where
    go : (n : ℕ) → next_wanted (state_before (core_from types opening []) n) ≡ Some g → ⊥
    go zero e = absurd (cc e)
    go (suc n) e = absurd (cc e)

module _ (p : Program) (r : Observed) (c : Course) (k : KeepsAnywhere p r c) where
  -- the opening log begins with a number above 0
  based : 0 < c.opening.base.next
  based = reads_above c.live (seen_at_entry r) c.opening k.reads

  -- each entry is of a line that may begin
  pub allowed_line : (e : Entry) → Member e c.entries → (1 ≤ e.line) × (e.line ≤ c.allowed)
  allowed_line e there =
      let begun = replies_begun p r c based k.explained k.settled.entries e there in
      let few = k.ended.read.few in
      (begun.0, let le = begun.1 in omega (arith, le, few))

  -- where all was written, each of these has its entry
  has_answered : ending.IsAllWritten r.ending → HasAnswered p r
  has_answered all =
      let whole : c.rest ≡ [] = k.whole (λ fault. absurd (subst ending.IsAllWritten fault all)) in
      record {
        pulled = k.ended.read.pulled;
        input = k.ended.read.input;
        allowed = c.allowed;
        by_ending = k.ended.read.allowed;
        good = k.ended.read.good;
        entries = c.entries;
        output = subst (λ (rest : List ℕ). Grew (shape_in p) r.old.output r.new.output c.entries rest) whole k.output;
        once = k.once;
        within = allowed_line;
        each = k.ended.answered all;
      }

  -- where nothing of the input was read, no line may begin
  unread : (f : FileId) → r.ending ≡ ending.DiskFault f → r.new.input ≡ r.old.input → c.allowed ≡ 0
  unread f is same = elim (subst (λ (e : ending.Ending). AllowedBy e k.ended.read.pulled r c.allowed) is k.ended.read.allowed) [
    | inl all ↦ all.all ∙ ap length (k.ended.given ∙ ap lines_of (sym same ∙ all.input))
    | inr some ↦
        let none : k.ended.read.pulled ≡ [] = append_cancel_right k.ended.read.pulled [] r.new.input (sym k.ended.read.input ∙ sym same) in
        let few : c.allowed ≤ 0 = subst (λ (bytes : List ℕ). c.allowed ≤ whole_windows bytes) none some.most in
        omega (arith, few)
  ]

  -- a fault of a file ended it: of the live manager file; or a grain's, where something of the input was read
  pub fault_ended : (f : FileId) → r.ending ≡ ending.DiskFault f → FaultEnded c.live r f
  fault_ended f is = elim (k.explained.doubted f is) [
    | inl manager ↦ inl manager.0
    | inr grain ↦ inr (
      grain.0,
      grain.1,
      λ same. unwanted p.types (standing_of c.opening) c.events (k.ended.read.none (unread f is same)) grain.2.0 grain.0 grain.2.2,
    )
  ]

-- a run that keeps this much of the program in force opened its folder
pub anywhere_opened : (r : Observed) (c : Course) → KeepsAnywhere (program_in_force c) r c → HasOpened r
anywhere_opened r c k = record {
  openable = record { live = c.live; log = c.opening; reads = k.reads };
  carried = k.ended.carried;
  risen = k.ended.risen;
  file = fault_ended (program_in_force c) r c k;
  given = k.ended.given;
  answered = has_answered (program_in_force c) r c k;
}

-- ---- what it shows

module _ (p : Program) (r : Observed) (c : Course) (a : ShowsAnywhere p r c) where
  -- what it shows is what it keeps over any folder
  pub shown_anywhere : opened_as (seen_at_entry r) ≡ Reads c.live c.opening → KeepsAnywhere p r c
  shown_anywhere reads =
      let based = reads_above c.live (seen_at_entry r) c.opening reads in
      let is = explained p r c based a.explains in
      record {
        in_force = a.in_force;
        reads = reads;
        output = a.output;
        whole = a.whole;
        within = replies_within p r c based is a.settled.entries;
        once = replies_once p r c based is a.settled.entries;
        in_order = replies_ordered p r c based is a.settled.entries;
        settled = a.settled;
        explained = is;
        ended = ended_anywhere p r c based a;
        true_each = λ numbered. replies_true p r c based is numbered a.settled.entries;
        family = λ numbered. explained_family p r c based is numbered;
      }

  -- with what lasts, it shows what has to be shown
  with_images : Lasts p r c → Shows p r c
  with_images l = record { in_force = a.in_force; opens = l.opens; explains = a.explains; settled = a.settled; output = a.output; whole = a.whole; journals = l.journals; leaves = l.leaves; ends = a.ends }

  -- and the whole promise
  pub answered_promised : (m : Manner) → r.manner ≡ m → r.windowed ≡ true → opened_as (seen_at_entry r) ≡ Reads c.live c.opening → (IsWholeFolder r.old → Lasts p r c) → Promises m r
  answered_promised m is windowed reads lasts = record {
    manner = is;
    windowed = windowed;
    answers = inr (c, subst (λ (q : Program). KeepsAnywhere q r c) (sym a.in_force) (shown_anywhere reads));
    over_whole = λ folder. inr (c, subst (λ (q : Program). Keeps q r c) (sym a.in_force) (shown p r c (with_images (lasts folder))));
  }

-- what a run shows is both
pub shows_both : (p : Program) (r : Observed) (c : Course) → Shows p r c → ShowsAnywhere p r c × Lasts p r c
shows_both p r c s = (answers_of p r c s, record { opens = s.opens; journals = s.journals; leaves = s.leaves })

-- and both are what it shows
pub both_show : (p : Program) (r : Observed) (c : Course) → ShowsAnywhere p r c → Lasts p r c → Shows p r c
both_show p r c a l = with_images p r c a l
