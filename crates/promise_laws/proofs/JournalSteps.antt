-- How a journal goes on, step by step.
use Rattle.std.proofs.Common.{drop, take-append-drop, ◌≡◌, ◌≢◌, ◌⊎◌, inl, inr, ℕ, zero, suc, ◌+◌, ◌<◌, ◌≤◌, ◌==◌, Bool, true, false, List, [], ◌∷◌, ◌++◌, length, take, refl, sym, ◌∙◌, ap, subst, append_assoc, append-nil, arith, length-append}
use Rattle.std.specs.List.{AllByRecursion, slice_split}
use Rattle.std.proofs.lemmas.List.{take_all}
use Rattle.std.proofs.lemmas.Bool.{cases_lt}
use Rattle.std.proofs.lemmas.Bool.Decides.{nat_tests}
use Rattle.base_types.specs.declared.entries.Entry.{Entry}
use Rattle.base_types.specs.declared.shapes.Shape.{Shape}
use Rattle.host_trait.specs.World.{World, Moment, Disk, Image, IsImage, Passes, Emitted, IsEmitted, moment_of}
use Rattle.host_trait.specs.Runs.{OnlyAsked}
use Rattle.host_trait.proofs.Moments.{both, weaker, one}
use Rattle.serde_json.specs.Written.{compact_text}
use Rattle.request_wire.specs.Lines.{lines_of, without_empty_last}
use Rattle.request_wire.specs.Reply.{reply_data, reply_line}
use Rattle.request_wire.proofs.Cuts.{slice_split-cons, keeps_first}
use Rattle.request_wire.proofs.OneLine.{reply_line-first}
use Rattle.promise_spec.specs.Programs.{Program, shape_in}
use Rattle.promise_spec.specs.Records.{Commit}
use Rattle.promise_spec.specs.Entries.{Log, grown}
use Rattle.promise_spec.specs.Logs.{IsLog, IsPrefix}
use Rattle.promise_spec.specs.Outputs.{IsProper, reply_lines}
use Rattle.promise_spec.specs.Journals.{Settlement, KeepsJournal, AllSay, AllLog, JournalAt, DoubtAt, CutAt, IsSealing, Seals, Doubts, commits_of, entries_of}
use Rattle.promise_spec.proofs.Standings.{grown_none, grown_twice}
use Rattle.promise_spec.proofs.Lists.{head_of, parts_of}
use Rattle.promise_laws.proofs.JournalCrashes.{commits_of-append}

-- ---- entries and lines of two lists

-- the entries of one journal behind another
pub entries_of-append : (a b : List Settlement) → entries_of (a ++ b) ≡ entries_of a ++ entries_of b
entries_of-append [] b = refl
entries_of-append (s ∷ a) b = ap (λ (l : List Entry). s.entries ++ l) (entries_of-append a b) ∙ sym (append_assoc s.entries (entries_of a) (entries_of b))

-- the lines of some entries behind those of others
pub reply_lines-append : (shape : Shape) (a b : List Entry) → reply_lines shape (a ++ b) ≡ reply_lines shape a ++ reply_lines shape b
reply_lines-append shape [] b = refl
reply_lines-append shape (e ∷ a) b = ap (λ (l : List ℕ). reply_line shape e ++ l) (reply_lines-append shape a b) ∙ sym (append_assoc (reply_line shape e) (reply_lines shape a) (reply_lines shape b))

-- ---- a first part of a line has no line feed

-- no byte is a line feed
abbrev pub NoFeed : List ℕ → Type 0
NoFeed bytes = AllByRecursion (λ (byte : ℕ). byte ≢ 10) bytes

-- bytes without a line feed are cut off at the next one
split_at_feed : (line rest : List ℕ) → NoFeed line → slice_split (λ b. b == 10) (line ++ (10 ∷ rest)) ≡ line ∷ slice_split (λ b. b == 10) rest
split_at_feed [] rest h = refl
split_at_feed (x ∷ xs) rest h = (let no : (x == 10) ≡ false = not_feed x h.0 in rw (no, split_at_feed xs rest h.1) refl)
  where
    not_feed : (x : ℕ) → x ≢ 10 → (x == 10) ≡ false
    not_feed x apart = grind (arith, nat_tests)

-- and are the first line
first_line : (line rest : List ℕ) → NoFeed line → lines_of (line ++ (10 ∷ rest)) ≡ line ∷ lines_of rest
first_line line rest h =
    let some = slice_split-cons (λ b. b == 10) rest in
    ap without_empty_last (split_at_feed line rest h) ∙ keeps_first line some.0 some.1 (slice_split (λ b. b == 10) rest) some.2

-- a text has no line feed, or has a first one
first_feed : (text : List ℕ) → NoFeed text ⊎ ((a : List ℕ) × ((b : List ℕ) × (NoFeed a × (text ≡ a ++ (10 ∷ b)))))
first_feed [] = inl tt
first_feed (x ∷ xs) = cases (first_feed xs) (x == 10) refl
  where
    is_feed : (x == 10) ≡ true → x ≡ 10
    is_feed e = grind (arith, nat_tests)

    no_feed : (x == 10) ≡ false → x ≢ 10
    no_feed e same = grind (arith, nat_tests)

    cases : NoFeed xs ⊎ ((a : List ℕ) × ((b : List ℕ) × (NoFeed a × (xs ≡ a ++ (10 ∷ b))))) → (b : Bool) → (x == 10) ≡ b
        → NoFeed (x ∷ xs) ⊎ ((a : List ℕ) × ((b : List ℕ) × (NoFeed a × (x ∷ xs ≡ a ++ (10 ∷ b)))))
    cases more true e = inr ([], (xs, (tt, ap (λ (y : ℕ). y ∷ xs) (is_feed e))))
    cases (inl none) false e = inl (no_feed e, none)
    cases (inr t) false e = inr (x ∷ t.0, (t.1.0, ((no_feed e, t.1.1.0), ap (λ (l : List ℕ). x ∷ l) t.1.1.1)))

-- an entry's text has none
text-no_feed : (shape : Shape) (e : Entry) → NoFeed (compact_text (reply_data shape e))
text-no_feed shape e = elim (first_feed (compact_text (reply_data shape e))) [
  | inl none ↦ none
  | inr t ↦
      let text : List ℕ = compact_text (reply_data shape e) in
      let line : lines_of (text ++ 10 ∷ []) ≡ text ∷ lines_of [] = ap lines_of (sym (append-nil (text ++ 10 ∷ []))) ∙ reply_line-first shape e [] in
      let cut : text ++ 10 ∷ [] ≡ t.0 ++ (10 ∷ (t.1.0 ++ 10 ∷ [])) = ap (λ (l : List ℕ). l ++ 10 ∷ []) t.1.1.1 ∙ append_assoc t.0 (10 ∷ t.1.0) (10 ∷ []) in
      let same : text ≡ t.0 = head_of text t.0 (lines_of []) (lines_of (t.1.0 ++ 10 ∷ [])) (sym line ∙ ap lines_of cut ∙ first_line t.0 (t.1.0 ++ 10 ∷ []) t.1.1.0) in
      let long : length text ≡ length t.0 + length (10 ∷ t.1.0) = ap length t.1.1.1 ∙ length-append t.0 (10 ∷ t.1.0) in
      let short : length text ≡ length t.0 = ap length same in
      absurd (omega (arith, long, short))
]

-- a first part of bytes without a line feed has none
take-no_feed : (n : ℕ) (text : List ℕ) → NoFeed text → NoFeed (take n text)
take-no_feed zero text h = tt
take-no_feed (suc n) [] h = tt
take-no_feed (suc n) (x ∷ xs) h = (h.0, take-no_feed n xs h.1)

-- a first part that ends within the front is one of the front
take_front : (n : ℕ) (a b : List ℕ) → n ≤ length a → take n (a ++ b) ≡ take n a
take_front zero a b low = refl
take_front (suc n) [] b low = absurd (omega (arith, low))
take_front (suc n) (x ∷ a) b low = ap (λ (l : List ℕ). x ∷ l) (take_front n a b (omega (arith, low)))

-- nor has a part of an entry's line that ends within it
pub cut-no_feed : (shape : Shape) (e : Entry) (n : ℕ) → n < length (reply_line shape e) → NoFeed (take n (reply_line shape e))
cut-no_feed shape e n low =
    let text : List ℕ = compact_text (reply_data shape e) in
    let long : length (text ++ 10 ∷ []) ≡ length text + 1 = length-append text (10 ∷ []) in
    subst NoFeed (sym (take_front n text (10 ∷ []) (omega (arith, low, long)))) (take-no_feed n text (text-no_feed shape e))

-- ---- journals and logs

-- a batch behind a log
pub joined_logs : (opening : Log) (j batch : List Settlement) → grown (grown opening (commits_of j)) (commits_of batch) ≡ grown opening (commits_of (j ++ batch))
joined_logs opening j batch = grown_twice opening (commits_of j) (commits_of batch) ∙ ap (λ (l : List Commit). grown opening l) (sym (commits_of-append j batch))

-- settlements without records leave the log
pub same_log : (opening : Log) (j more : List Settlement) → commits_of more ≡ [] → grown opening (commits_of (j ++ more)) ≡ grown opening (commits_of j)
same_log opening j more none = ap (λ (l : List Commit). grown opening l) (commits_of-append j more ∙ ap (λ (l : List Commit). commits_of j ++ l) none ∙ append-nil (commits_of j))

module _ (live : ℕ) (p : Program) (opening : Log) where
  -- what an image keeps of a journal, and how much was said
  abbrev Says : List ℕ → List Settlement → List Settlement → Moment → Image → Type 0
  Says before said journal m image = (k : KeepsJournal live p opening before journal m image) × IsPrefix k.said said

  -- an image that has what is settled
  here : (before : List ℕ) (said unsaid later : List Settlement) (rest : List ℕ) (m : Moment) (image : Image)
      → m.output ≡ before ++ (reply_lines (shape_in p) (entries_of said) ++ rest) → NoFeed rest → AllByRecursion (IsProper (shape_in p)) (entries_of said)
      → IsLog live image (grown opening (commits_of (said ++ unsaid))) → Says before said ((said ++ unsaid) ++ later) m image
  here before said unsaid later rest m image output unended proper log = (
    record { said = said; unsaid = unsaid; later = later; rest = rest; split = refl; log = log; output = record { output = output; unended = unended; proper = proper } },
    ([], sym (append-nil said)),
  )

  -- the same of a longer journal
  pub keep_more : (before : List ℕ) (said journal more : List Settlement) (m : Moment) → AllSay live p opening before said journal m → AllSay live p opening before said (journal ++ more) m
  keep_more before said journal more m all image left =
      let t = all image left in
      let k = t.0 in (
        record {
          said = k.said;
          unsaid = k.unsaid;
          later = k.later ++ more;
          rest = k.rest;
          split = ap (λ (l : List Settlement). l ++ more) k.split ∙ append_assoc (k.said ++ k.unsaid) k.later more;
          log = k.log;
          output = k.output;
        },
        t.1,
      )

  -- and where more was said
  pub say_more : (before : List ℕ) (said moved journal : List Settlement) (m : Moment) → AllSay live p opening before said journal m → AllSay live p opening before (said ++ moved) journal m
  say_more before said moved journal m all image left =
      let t = all image left in
      (t.0, (t.1.0 ++ moved, ap (λ (l : List Settlement). l ++ moved) t.1.1 ∙ append_assoc t.0.said t.1.0 moved))

  -- the same journal, written otherwise
  as_journal : (before : List ℕ) (said j k : List Settlement) (m : Moment) → j ≡ k → AllSay live p opening before said j m → AllSay live p opening before said k m
  as_journal before said j k m same all = subst (λ (l : List Settlement). AllSay live p opening before said l m) same all

  module _ (old : World) where
    -- nothing else is written behind whole lines
    whole : (said : List Settlement) (m : Moment) (w : World) → w.output ≡ old.output ++ reply_lines (shape_in p) (entries_of said) → m.output ≡ w.output
        → m.output ≡ old.output ++ (reply_lines (shape_in p) (entries_of said) ++ [])
    whole said m w output same = same ∙ output ∙ ap (λ (l : List ℕ). old.output ++ l) (sym (append-nil (reply_lines (shape_in p) (entries_of said))))

    -- ---- before a doubt

    -- the world behind the opening
    pub begins_at : (now : World) → now.output ≡ old.output → now.past ≡ old.past → AllLog live opening now.disk → JournalAt live p opening old [] [] now
    begins_at now output past log = record {
      output = output ∙ sym (append-nil old.output);
      log = λ image left. subst (IsLog live image) (sym (grown_none opening)) (log image left);
      moments = record { more = []; past = past ∙ sym (append-nil old.past); each = tt };
    }

    module _ (said unsaid : List Settlement) where
      -- the moment that is now
      pub now_says : (now : World) → AllByRecursion (IsProper (shape_in p)) (entries_of said) → JournalAt live p opening old said unsaid now → AllSay live p opening old.output said (said ++ unsaid) (moment_of now)
      now_says now proper at =
          as_journal old.output said ((said ++ unsaid) ++ []) (said ++ unsaid) (moment_of now) (append-nil (said ++ unsaid))
          (λ image left. here old.output said unsaid [] [] (moment_of now) image (whole said (moment_of now) now at.output refl) tt proper (at.log image left))

      module _ (batch : List Settlement) where
        ends : said ++ (unsaid ++ batch) ≡ (said ++ unsaid) ++ batch
        ends = sym (append_assoc said unsaid batch)

        sealing : (mid : World) (m : Moment) → AllByRecursion (IsProper (shape_in p)) (entries_of said) → mid.output ≡ old.output ++ reply_lines (shape_in p) (entries_of said)
            → IsSealing live (grown opening (commits_of (said ++ unsaid))) batch mid m → AllSay live p opening old.output said (said ++ (unsaid ++ batch)) m
        sealing mid m proper output s image left = elim (s.log image left) [
          | inl was ↦
              subst (λ (l : List Settlement). Says old.output said l m image) (sym ends)
              (here old.output said unsaid batch [] m image (whole said m mid output s.output) tt proper was)
          | inr has ↦
              subst (λ (l : List Settlement). Says old.output said l m image) (append-nil (said ++ (unsaid ++ batch)))
              (here old.output said (unsaid ++ batch) [] [] m image (whole said m mid output s.output) tt proper
              (subst (IsLog live image) (joined_logs opening (said ++ unsaid) batch ∙ ap (λ (l : List Settlement). grown opening (commits_of l)) (sym ends)) has))
        ]

        further : (m : Moment) → AllSay live p opening old.output said (said ++ unsaid) m → AllSay live p opening old.output said (said ++ (unsaid ++ batch)) m
        further m all = as_journal old.output said ((said ++ unsaid) ++ batch) (said ++ (unsaid ++ batch)) m (sym ends) (keep_more old.output said (said ++ unsaid) batch m all)

        -- a seal
        pub seals_on : (mid new : World) → AllByRecursion (IsProper (shape_in p)) (entries_of said) → JournalAt live p opening old said unsaid mid
            → Seals live (grown opening (commits_of (said ++ unsaid))) batch mid new → JournalAt live p opening old said (unsaid ++ batch) new
        seals_on mid new proper at s = record {
          output = s.output ∙ at.output;
          log = λ image left. subst (IsLog live image) (joined_logs opening (said ++ unsaid) batch ∙ ap (λ (l : List Settlement). grown opening (commits_of l)) (sym ends)) (s.log image left);
          moments = both _
              (weaker (AllSay live p opening old.output said (said ++ unsaid)) (AllSay live p opening old.output said (said ++ (unsaid ++ batch))) (λ m all. further m all) at.moments)
              (weaker (IsSealing live (grown opening (commits_of (said ++ unsaid))) batch mid) (AllSay live p opening old.output said (said ++ (unsaid ++ batch))) (λ m is. sealing mid m proper at.output is) s.moments);
        }

        -- settlements without records, and no call
        pub settles_on : (now : World) → commits_of batch ≡ [] → JournalAt live p opening old said unsaid now → JournalAt live p opening old said (unsaid ++ batch) now
        settles_on now none at = record {
          output = at.output;
          log = λ image left. subst (IsLog live image) (sym (same_log opening (said ++ unsaid) batch none) ∙ ap (λ (l : List Settlement). grown opening (commits_of l)) (sym ends)) (at.log image left);
          moments = weaker (AllSay live p opening old.output said (said ++ unsaid)) (AllSay live p opening old.output said (said ++ (unsaid ++ batch))) (λ m all. further m all) at.moments;
        }

      -- calls that leave output and logs alone
      pub stays_on : (mid new : World) → AllByRecursion (IsProper (shape_in p)) (entries_of said) → JournalAt live p opening old said unsaid mid
          → Seals live (grown opening (commits_of (said ++ unsaid))) [] mid new → JournalAt live p opening old said unsaid new
      stays_on mid new proper at s = subst (λ (l : List Settlement). JournalAt live p opening old said l new) (append-nil unsaid) (seals_on [] mid new proper at s)

      -- a doubt in which no image has the batch, at no moment: the names alone
      pub unbegun_on : (names : List Settlement) (mid new : World) → commits_of names ≡ [] → AllByRecursion (IsProper (shape_in p)) (entries_of said) → JournalAt live p opening old said unsaid mid
          → Seals live (grown opening (commits_of (said ++ unsaid))) [] mid new → JournalAt live p opening old said (unsaid ++ names) new
      unbegun_on names mid new none proper at s = settles_on names new none (stays_on mid new proper at s)

    -- ---- entries are written

    -- what is said with one more entry
    said_lines : (said moved : List Settlement) (e : Entry) → entries_of moved ≡ e ∷ []
        → reply_lines (shape_in p) (entries_of (said ++ moved)) ≡ reply_lines (shape_in p) (entries_of said) ++ reply_line (shape_in p) e
    said_lines said moved e one =
        ap (reply_lines (shape_in p)) (entries_of-append said moved ∙ ap (λ (l : List Entry). entries_of said ++ l) one)
        ∙ reply_lines-append (shape_in p) (entries_of said) (e ∷ [])
        ∙ ap (λ (l : List ℕ). reply_lines (shape_in p) (entries_of said) ++ l) (append-nil (reply_line (shape_in p) e))

    -- the output after a whole line
    told : (said moved : List Settlement) (e : Entry) (mid new : World) → entries_of moved ≡ e ∷ [] → mid.output ≡ old.output ++ reply_lines (shape_in p) (entries_of said)
        → IsEmitted (reply_line (shape_in p) e) mid new → new.output ≡ old.output ++ reply_lines (shape_in p) (entries_of (said ++ moved))
    told said moved e mid new one output emitted =
        emitted.output
        ∙ ap (λ (l : List ℕ). mid.output ++ l) (take_all (length (reply_line (shape_in p) e)) (reply_line (shape_in p) e) (omega arith))
        ∙ ap (λ (l : List ℕ). l ++ reply_line (shape_in p) e) output
        ∙ append_assoc old.output (reply_lines (shape_in p) (entries_of said)) (reply_line (shape_in p) e)
        ∙ ap (λ (l : List ℕ). old.output ++ l) (sym (said_lines said moved e one))

    -- the output after a part of one
    part_told : (said : List Settlement) (n : ℕ) (line : List ℕ) (mid new : World) → mid.output ≡ old.output ++ reply_lines (shape_in p) (entries_of said)
        → Emitted n line mid new → new.output ≡ old.output ++ (reply_lines (shape_in p) (entries_of said) ++ take n line)
    part_told said n line mid new output emitted =
        emitted.output ∙ ap (λ (l : List ℕ). l ++ take n line) output ∙ append_assoc old.output (reply_lines (shape_in p) (entries_of said)) (take n line)

    -- a call that failed at the end of a line wrote it whole
    whole_or_part : (n : ℕ) (line : List ℕ) (mid new : World) → Emitted n line mid new → (n < length line) ⊎ IsEmitted line mid new
    whole_or_part n line mid new emitted = elim (cases_lt n (length line)) [
      | inl low ↦ inl low
      | inr high ↦ inr (subst (λ (k : ℕ). Emitted k line mid new) (omega (arith, high, emitted.count)) emitted)
    ]

    module _ (said moved unsaid : List Settlement) (e : Entry) (one_entry : entries_of moved ≡ e ∷ []) (proper : AllByRecursion (IsProper (shape_in p)) (entries_of (said ++ moved))) where
      -- settlements that are said now stand where they stood
      moves : said ++ (moved ++ unsaid) ≡ (said ++ moved) ++ unsaid
      moves = sym (append_assoc said moved unsaid)

      -- what was said before is proper
      before_proper : AllByRecursion (IsProper (shape_in p)) (entries_of said)
      before_proper = (parts_of (IsProper (shape_in p)) (entries_of said) (entries_of moved) (subst (AllByRecursion (IsProper (shape_in p))) (entries_of-append said moved) proper)).0

      -- an entry is written
      pub emits_on : (mid new : World) → JournalAt live p opening old said (moved ++ unsaid) mid → IsEmitted (reply_line (shape_in p) e) mid new → JournalAt live p opening old (said ++ moved) unsaid new
      emits_on mid new at emitted =
          let log : AllLog live (grown opening (commits_of ((said ++ moved) ++ unsaid))) new.disk =
          subst (λ (d : Disk). AllLog live (grown opening (commits_of ((said ++ moved) ++ unsaid))) d) (sym emitted.disk)
          (subst (λ (l : List Settlement). AllLog live (grown opening (commits_of l)) mid.disk) moves at.log) in
          let output : new.output ≡ old.output ++ reply_lines (shape_in p) (entries_of (said ++ moved)) = told said moved e mid new one_entry at.output emitted in
          record {
            output = output;
            log = log;
            moments = both _
                (weaker (AllSay live p opening old.output said (said ++ (moved ++ unsaid))) (AllSay live p opening old.output (said ++ moved) ((said ++ moved) ++ unsaid))
                (λ m all. as_journal old.output (said ++ moved) (said ++ (moved ++ unsaid)) ((said ++ moved) ++ unsaid) m moves (say_more old.output said moved (said ++ (moved ++ unsaid)) m all)) at.moments)
                (one (AllSay live p opening old.output (said ++ moved) ((said ++ moved) ++ unsaid)) mid new emitted.past
                (as_journal old.output (said ++ moved) (((said ++ moved) ++ unsaid) ++ []) ((said ++ moved) ++ unsaid) (moment_of new) (append-nil ((said ++ moved) ++ unsaid))
                (λ image left. here old.output (said ++ moved) unsaid [] [] (moment_of new) image (whole (said ++ moved) (moment_of new) new output refl) tt proper (log image left))));
          }

      -- or a part of its line, after which nothing is written
      pub cuts_on : (n : ℕ) (mid new : World) → JournalAt live p opening old said (moved ++ unsaid) mid → Emitted n (reply_line (shape_in p) e) mid new → n < length (reply_line (shape_in p) e)
          → CutAt live p opening old said (moved ++ unsaid) [] (take n (reply_line (shape_in p) e)) new
      cuts_on n mid new at emitted low =
          let log : AllLog live (grown opening (commits_of (said ++ (moved ++ unsaid)))) new.disk = subst (λ (d : Disk). AllLog live (grown opening (commits_of (said ++ (moved ++ unsaid)))) d) (sym emitted.disk) at.log in
          let output = part_told said n (reply_line (shape_in p) e) mid new at.output emitted in
          let unended = cut-no_feed (shape_in p) e n low in
          record {
            output = output;
            unended = unended;
            log = λ image left. inl (log image left);
            moments = both _
                (weaker (AllSay live p opening old.output said (said ++ (moved ++ unsaid))) (AllSay live p opening old.output said ((said ++ (moved ++ unsaid)) ++ []))
                (λ m all. keep_more old.output said (said ++ (moved ++ unsaid)) [] m all) at.moments)
                (one (AllSay live p opening old.output said ((said ++ (moved ++ unsaid)) ++ [])) mid new emitted.past
                (λ image left. here old.output said (moved ++ unsaid) [] (take n (reply_line (shape_in p) e)) (moment_of new) image output unended before_proper (log image left)));
          }

      -- a call on the output that failed: the line is whole, or cut
      pub fails_on : (n : ℕ) (mid new : World) → JournalAt live p opening old said (moved ++ unsaid) mid → Emitted n (reply_line (shape_in p) e) mid new
          → JournalAt live p opening old (said ++ moved) unsaid new ⊎ CutAt live p opening old said (moved ++ unsaid) [] (take n (reply_line (shape_in p) e)) new
      fails_on n mid new at emitted = elim (whole_or_part n (reply_line (shape_in p) e) mid new emitted) [
        | inl low ↦ inr (cuts_on n mid new at emitted low)
        | inr all ↦ inl (emits_on mid new at all)
      ]

    -- ---- a doubt

    module _ (said unsaid : List Settlement) (batch : Settlement) (proper : AllByRecursion (IsProper (shape_in p)) (entries_of said)) where
      -- an image that has the journal, or it with the batch
      either_says : (rest : List ℕ) (m : Moment) (image : Image) → m.output ≡ old.output ++ (reply_lines (shape_in p) (entries_of said) ++ rest) → NoFeed rest
          → IsLog live image (grown opening (commits_of (said ++ unsaid))) ⊎ IsLog live image (grown opening (commits_of ((said ++ unsaid) ++ batch ∷ [])))
          → Says old.output said ((said ++ unsaid) ++ batch ∷ []) m image
      either_says rest m image output unended (inl was) = here old.output said unsaid (batch ∷ []) rest m image output unended proper was
      either_says rest m image output unended (inr has) =
          subst (λ (l : List Settlement). Says old.output said l m image) (append-nil (said ++ (unsaid ++ batch ∷ [])) ∙ sym (append_assoc said unsaid (batch ∷ [])))
          (here old.output said (unsaid ++ batch ∷ []) [] rest m image output unended proper
          (subst (λ (l : List Settlement). IsLog live image (grown opening (commits_of l))) (append_assoc said unsaid (batch ∷ [])) has))

      -- the moment that is now
      pub doubt_says : (now : World) → DoubtAt live p opening old said unsaid batch now → AllSay live p opening old.output said ((said ++ unsaid) ++ batch ∷ []) (moment_of now)
      doubt_says now at image left = either_says [] (moment_of now) image (whole said (moment_of now) now at.output refl) tt (at.log image left)

    -- a batch is in doubt; its units' names come before it
    pub doubts_on : (said unsaid names : List Settlement) (batch : Settlement) (mid new : World) → commits_of names ≡ [] → AllByRecursion (IsProper (shape_in p)) (entries_of said) → JournalAt live p opening old said unsaid mid
        → Doubts live (grown opening (commits_of (said ++ unsaid))) batch mid new → DoubtAt live p opening old said (unsaid ++ names) batch new
    doubts_on said unsaid names batch mid new none proper at d = record {
      output = d.output ∙ at.output;
      log = λ image left. either image (d.log image left);
      moments = both _
          (weaker (AllSay live p opening old.output said (said ++ unsaid)) (AllSay live p opening old.output said ((said ++ (unsaid ++ names)) ++ batch ∷ [])) (λ m all. further m all) at.moments)
          (weaker (IsSealing live (grown opening (commits_of (said ++ unsaid))) (batch ∷ []) mid) (AllSay live p opening old.output said ((said ++ (unsaid ++ names)) ++ batch ∷ []))
          (λ m is image left. either_says said (unsaid ++ names) batch proper [] m image (whole said m mid at.output is.output) tt (either image (is.log image left))) d.moments);
    }
      where
        named : said ++ (unsaid ++ names) ≡ (said ++ unsaid) ++ names
        named = sym (append_assoc said unsaid names)

        logs : grown opening (commits_of (said ++ unsaid)) ≡ grown opening (commits_of (said ++ (unsaid ++ names)))
        logs = sym (same_log opening (said ++ unsaid) names none) ∙ ap (λ (l : List Settlement). grown opening (commits_of l)) (sym named)

        longer_logs : grown (grown opening (commits_of (said ++ unsaid))) (commits_of (batch ∷ [])) ≡ grown opening (commits_of ((said ++ (unsaid ++ names)) ++ batch ∷ []))
        longer_logs = ap (λ (l : Log). grown l (commits_of (batch ∷ []))) logs ∙ joined_logs opening (said ++ (unsaid ++ names)) (batch ∷ [])

        either : (image : Image) → IsLog live image (grown opening (commits_of (said ++ unsaid))) ⊎ IsLog live image (grown (grown opening (commits_of (said ++ unsaid))) (commits_of (batch ∷ [])))
            → IsLog live image (grown opening (commits_of (said ++ (unsaid ++ names)))) ⊎ IsLog live image (grown opening (commits_of ((said ++ (unsaid ++ names)) ++ batch ∷ [])))
        either image (inl was) = inl (subst (IsLog live image) logs was)
        either image (inr has) = inr (subst (IsLog live image) longer_logs has)

        further : (m : Moment) → AllSay live p opening old.output said (said ++ unsaid) m → AllSay live p opening old.output said ((said ++ (unsaid ++ names)) ++ batch ∷ []) m
        further m all =
            keep_more old.output said (said ++ (unsaid ++ names)) (batch ∷ []) m
            (as_journal old.output said ((said ++ unsaid) ++ names) (said ++ (unsaid ++ names)) m (sym named) (keep_more old.output said (said ++ unsaid) names m all))

    -- calls that leave all as it is, after a doubt
    pub doubt_stays_on : (said unsaid : List Settlement) (batch : Settlement) (mid new : World) → AllByRecursion (IsProper (shape_in p)) (entries_of said) → DoubtAt live p opening old said unsaid batch mid
        → Passes (λ m. m ≡ moment_of mid) mid.past new.past → moment_of new ≡ moment_of mid → DoubtAt live p opening old said unsaid batch new
    doubt_stays_on said unsaid batch mid new proper at moments now = record {
      output = ap (λ (m : Moment). m.output) now ∙ at.output;
      log = λ image left. at.log image (subst (λ (m : Moment). IsImage m.disk image) now left);
      moments = both _ at.moments
          (weaker (λ m. m ≡ moment_of mid) (AllSay live p opening old.output said ((said ++ unsaid) ++ batch ∷ []))
          (λ m same. subst (AllSay live p opening old.output said ((said ++ unsaid) ++ batch ∷ [])) (sym same) (doubt_says said unsaid batch proper mid at)) moments);
    }

    module _ (said moved unsaid : List Settlement) (batch : Settlement) (e : Entry) (one_entry : entries_of moved ≡ e ∷ []) (proper : AllByRecursion (IsProper (shape_in p)) (entries_of (said ++ moved))) where
      -- so it is before a batch in doubt
      doubt_moves : (said ++ (moved ++ unsaid)) ++ batch ∷ [] ≡ ((said ++ moved) ++ unsaid) ++ batch ∷ []
      doubt_moves = ap (λ (l : List Settlement). l ++ batch ∷ []) (moves said moved unsaid e one_entry proper)

      -- an entry is written after a doubt
      pub doubt_emits_on : (mid new : World) → DoubtAt live p opening old said (moved ++ unsaid) batch mid → IsEmitted (reply_line (shape_in p) e) mid new → DoubtAt live p opening old (said ++ moved) unsaid batch new
      doubt_emits_on mid new at emitted =
          let output : new.output ≡ old.output ++ reply_lines (shape_in p) (entries_of (said ++ moved)) = told said moved e mid new one_entry at.output emitted in
          record {
            output = output;
            log = either;
            moments = both _
                (weaker (AllSay live p opening old.output said ((said ++ (moved ++ unsaid)) ++ batch ∷ [])) (AllSay live p opening old.output (said ++ moved) (((said ++ moved) ++ unsaid) ++ batch ∷ []))
                (λ m all. as_journal old.output (said ++ moved) ((said ++ (moved ++ unsaid)) ++ batch ∷ []) (((said ++ moved) ++ unsaid) ++ batch ∷ []) m doubt_moves
                (say_more old.output said moved ((said ++ (moved ++ unsaid)) ++ batch ∷ []) m all)) at.moments)
                (one (AllSay live p opening old.output (said ++ moved) (((said ++ moved) ++ unsaid) ++ batch ∷ [])) mid new emitted.past
                (λ image left. either_says (said ++ moved) unsaid batch proper [] (moment_of new) image (whole (said ++ moved) (moment_of new) new output refl) tt (either image left)));
          }
        where
          either : (image : Image) → IsImage new.disk image
              → IsLog live image (grown opening (commits_of ((said ++ moved) ++ unsaid))) ⊎ IsLog live image (grown opening (commits_of (((said ++ moved) ++ unsaid) ++ batch ∷ [])))
          either image left = elim (at.log image (subst (λ (d : Disk). IsImage d image) emitted.disk left)) [
            | inl was ↦ inl (subst (λ (l : List Settlement). IsLog live image (grown opening (commits_of l))) (moves said moved unsaid e one_entry proper) was)
            | inr has ↦ inr (subst (λ (l : List Settlement). IsLog live image (grown opening (commits_of l))) doubt_moves has)
          ]

      -- or cut
      pub doubt_cuts_on : (n : ℕ) (mid new : World) → DoubtAt live p opening old said (moved ++ unsaid) batch mid → Emitted n (reply_line (shape_in p) e) mid new → n < length (reply_line (shape_in p) e)
          → CutAt live p opening old said (moved ++ unsaid) (batch ∷ []) (take n (reply_line (shape_in p) e)) new
      doubt_cuts_on n mid new at emitted low =
          let output = part_told said n (reply_line (shape_in p) e) mid new at.output emitted in
          let unended = cut-no_feed (shape_in p) e n low in
          record {
            output = output;
            unended = unended;
            log = either;
            moments = both _ at.moments
                (one (AllSay live p opening old.output said ((said ++ (moved ++ unsaid)) ++ batch ∷ [])) mid new emitted.past
                (λ image left. either_says said (moved ++ unsaid) batch (before_proper said moved unsaid e one_entry proper) (take n (reply_line (shape_in p) e)) (moment_of new) image output unended (either image left)));
          }
        where
          either : (image : Image) → IsImage new.disk image
              → IsLog live image (grown opening (commits_of (said ++ (moved ++ unsaid)))) ⊎ IsLog live image (grown opening (commits_of ((said ++ (moved ++ unsaid)) ++ batch ∷ [])))
          either image left = at.log image (subst (λ (d : Disk). IsImage d image) emitted.disk left)

      -- an emit that failed wrote the line whole, or a part of it
      pub doubt_fails_on : (n : ℕ) (mid new : World) → DoubtAt live p opening old said (moved ++ unsaid) batch mid → Emitted n (reply_line (shape_in p) e) mid new
          → DoubtAt live p opening old (said ++ moved) unsaid batch new ⊎ CutAt live p opening old said (moved ++ unsaid) (batch ∷ []) (take n (reply_line (shape_in p) e)) new
      doubt_fails_on n mid new at emitted = elim (whole_or_part n (reply_line (shape_in p) e) mid new emitted) [
        | inl low ↦ inr (doubt_cuts_on n mid new at emitted low)
        | inr all ↦ inl (doubt_emits_on mid new at all)
      ]

    -- the moment of a cut
    pub cut_says : (said unsaid later : List Settlement) (rest : List ℕ) (now : World) → AllByRecursion (IsProper (shape_in p)) (entries_of said) → CutAt live p opening old said unsaid later rest now
        → AllSay live p opening old.output said ((said ++ unsaid) ++ later) (moment_of now)
    cut_says said unsaid later rest now proper at image left = elim (at.log image left) [
      | inl was ↦ here old.output said unsaid later rest (moment_of now) image at.output at.unended proper was
      | inr has ↦
          subst (λ (l : List Settlement). Says old.output said l (moment_of now) image) (append-nil (said ++ (unsaid ++ later)) ∙ sym (append_assoc said unsaid later))
          (here old.output said (unsaid ++ later) [] rest (moment_of now) image at.output at.unended proper
          (subst (λ (l : List Settlement). IsLog live image (grown opening (commits_of l))) (append_assoc said unsaid later) has))
    ]

    -- whole lines are a cut without a rest
    pub whole_cut : (said unsaid : List Settlement) (now : World) → JournalAt live p opening old said unsaid now → CutAt live p opening old said unsaid [] [] now
    whole_cut said unsaid now at = record {
      output = whole said (moment_of now) now at.output refl;
      unended = tt;
      log = λ image left. inl (at.log image left);
      moments = weaker (AllSay live p opening old.output said (said ++ unsaid)) (AllSay live p opening old.output said ((said ++ unsaid) ++ [])) (λ m all. keep_more old.output said (said ++ unsaid) [] m all) at.moments;
    }

    -- and so they are after a doubt
    pub doubt_cut : (said unsaid : List Settlement) (batch : Settlement) (now : World) → DoubtAt live p opening old said unsaid batch now → CutAt live p opening old said unsaid (batch ∷ []) [] now
    doubt_cut said unsaid batch now at = record { output = whole said (moment_of now) now at.output refl; unended = tt; log = at.log; moments = at.moments }

-- calls that only asked leave each log as it was
pub asked_seals : (live : ℕ) (before : Log) (mid new : World) → OnlyAsked mid new → AllLog live before mid.disk → Seals live before [] mid new
asked_seals live before mid new asked all = record {
  moments = weaker (λ m. m ≡ moment_of mid) (IsSealing live before [] mid)
      (λ m same. record {
        output = ap (λ (n : Moment). n.output) same;
        log = λ image left. inl (all image (subst (λ (n : Moment). IsImage n.disk image) same left));
      })
      asked.moments;
  output = asked.output;
  log = λ image left. subst (IsLog live image) (sym (grown_none before)) (all image (subst (λ (d : Disk). IsImage d image) asked.disk left));
}

-- what was written of a cut line is a first part of it
pub cut_is_front : (shape : Shape) (e : Entry) (n : ℕ) → IsPrefix (take n (reply_line shape e)) (reply_line shape e)
cut_is_front shape e n = (drop n (reply_line shape e), sym (take-append-drop n (reply_line shape e)))
