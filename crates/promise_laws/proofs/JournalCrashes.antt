-- What a journal says of crashes.
use Rattle.std.proofs.Common.{◌≡◌, ◌⊎◌, inl, inr, ℕ, List, [], ◌∷◌, ◌++◌, map, refl, sym, ◌∙◌, ap, subst, append_assoc}
use Rattle.base_types.specs.declared.entries.Entry.{Entry}
use Rattle.core_model.specs.CoreState.{Member}
use Rattle.host_trait.specs.World.{Moment, Image}
use Rattle.field_codec.specs.declared.formats.Format.TheVariants.{Two}
use Rattle.promise_spec.specs.Programs.{Program}
use Rattle.promise_spec.specs.Records.{Commit}
use Rattle.promise_spec.specs.Entries.{LogEntry, Recorded, Upgraded, Standing, after_entry, Log, records_of, grown}
use Rattle.promise_spec.specs.SerialExecution.{IsSerialFrom}
use Rattle.promise_spec.specs.Logs.{IsLog, IsPrefix}
use Rattle.promise_spec.specs.Prefixes.{IsPrefixOf}
use Rattle.promise_spec.specs.Images.{AreChained, AreNumbered, IsWholeSilo, IsSound, IsWholeIfSilo, IsSoundIfSilo}
use Rattle.promise_spec.specs.Moments.{IsImageOf, IsLongest}
use Rattle.promise_spec.specs.Courses.{Observed, Course}
use Rattle.promise_spec.specs.Crashes.{Holds}
use Rattle.promise_spec.specs.Journals.{Settlement, KeepsJournal, AllKeep, Backs, commits_of, entries_of}
use Rattle.promise_spec.proofs.Slots.{one_slot}
use Rattle.promise_spec.proofs.Standings.{grown_twice, grown_records}
use Rattle.promise_spec.proofs.Prefixes.{grown_front}
use Rattle.promise_spec.proofs.OneLog.{one_log}
use Rattle.promise_spec.proofs.Lists.{fronts, in_append, either_in, parts_of}

pub commits_of-append : (a b : List Settlement) → commits_of (a ++ b) ≡ commits_of a ++ commits_of b
commits_of-append [] b = refl
commits_of-append (s ∷ a) b = ap (λ (l : List Commit). s.commits ++ l) (commits_of-append a b) ∙ sym (append_assoc s.commits (commits_of a) (commits_of b))

longer : (opening : Log) (a c : List Settlement) → IsPrefix a c → IsPrefixOf (grown opening (commits_of a)) (grown opening (commits_of c))
longer opening a c p = grown_front opening (commits_of a) (commits_of c) (commits_of p.0, ap commits_of p.1 ∙ commits_of-append a p.0)

module _ (live : ℕ) (p : Program) (opening : Log) (before : List ℕ) (journal : List Settlement) where
  -- images of two moments are a chain
  pub chained : (m n : Moment) (a b : Image) → KeepsJournal live p opening before journal m a → KeepsJournal live p opening before journal n b → AreChained a b
  chained m n a b ka kb one other has_one has_other =
      let first : Log = grown opening (commits_of (ka.said ++ ka.unsaid)) in
      let second : Log = grown opening (commits_of (kb.said ++ kb.unsaid)) in
      let one_is : one ≡ first = one_log has_one.0 Two has_one.1 live a one first has_one.2 ka.log in
      let other_is : other ≡ second = one_log has_other.0 Two has_other.1 live b other second has_other.2 kb.log in
      let order : IsPrefixOf first second ⊎ IsPrefixOf second first = elim (fronts (ka.said ++ ka.unsaid) (kb.said ++ kb.unsaid) ka.later kb.later (sym ka.split ∙ kb.split)) [
        | inl q ↦ inl (longer opening (ka.said ++ ka.unsaid) (kb.said ++ kb.unsaid) q)
        | inr q ↦ inr (longer opening (kb.said ++ kb.unsaid) (ka.said ++ ka.unsaid) q)
      ] in
      subst (λ (l : Log). IsPrefixOf l other ⊎ IsPrefixOf other l) (sym one_is) (subst (λ (l : Log). IsPrefixOf first l ⊎ IsPrefixOf l first) (sym other_is) order)

  -- the order is the opening log with the journal's records, where some image has it
  pub longest : (moments : List Moment) (image : Image) → IsImageOf moments image → IsLog live image (grown opening (commits_of journal))
      → ((m : Moment) → Member m moments → AllKeep live p opening before journal m) → IsLongest live moments (grown opening (commits_of journal))
  longest moments image left log all = record {
    image = image;
    left = left;
    log = log;
    longest = λ other other_log is has.
        let k = all is.moment is.member other is.left in
        let kept : Log = grown opening (commits_of (k.said ++ k.unsaid)) in
        let same : other_log ≡ kept = one_log has.0 Two has.1 live other other_log kept has.2 k.log in
        subst (λ (l : Log). IsPrefixOf l (grown opening (commits_of journal))) (sym same) (longer opening (k.said ++ k.unsaid) journal (k.later, k.split));
  }

-- the settlement of an entry, and where it stands
record Found (e : Entry) (journal : List Settlement) : Type 0 where
  settlement : Settlement
  front : List Settlement
  back : List Settlement
  split : journal ≡ front ++ (settlement ∷ back)
  here : Member e settlement.entries

find : (e : Entry) (journal : List Settlement) → Member e (entries_of journal) → Found e journal
find e [] none = absurd none
find e (s ∷ journal) there = elim (either_in e s.entries (entries_of journal) there) [
  | inl here ↦ record { settlement = s; front = []; back = journal; split = refl; here = here }
  | inr later ↦
      let f = find e journal later in
      record { settlement = f.settlement; front = s ∷ f.front; back = f.back; split = ap (λ (l : List Settlement). s ∷ l) f.split; here = f.here }
]

-- an image holds the record of each reply that was written by then
pub holds : (p : Program) (r : Observed) (c : Course) (journal : List Settlement) (m : Moment) (image : Image) → Backs journal c.added
    → (k : KeepsJournal c.live p c.opening r.old.output journal m image) → IsPrefix (entries_of k.said) c.entries → Holds p r c m image
holds p r c journal m image backs k written = record {
  written = entries_of k.said;
  rest = k.rest;
  output = k.output;
  front = written;
  log = grown c.opening (commits_of (k.said ++ k.unsaid));
  is = k.log;
  has = λ e l there added is.
      let f = find e k.said there in
      let tail : List Settlement = (f.back ++ k.unsaid) ++ k.later in
      let front_of : k.said ++ k.unsaid ≡ (f.front ++ f.settlement ∷ []) ++ (f.back ++ k.unsaid) =
      ap (λ (l : List Settlement). l ++ k.unsaid) f.split ∙ append_assoc f.front (f.settlement ∷ f.back) k.unsaid ∙ sym (append_assoc f.front (f.settlement ∷ []) (f.back ++ k.unsaid)) in
      let split : journal ≡ f.front ++ (f.settlement ∷ tail) =
      k.split ∙ ap (λ (l : List Settlement). l ++ k.later) front_of ∙ append_assoc (f.front ++ f.settlement ∷ []) (f.back ++ k.unsaid) k.later ∙ append_assoc f.front (f.settlement ∷ []) tail in
      let inside : Member l (commits_of (f.front ++ f.settlement ∷ [])) = backs e l f.settlement f.front tail split f.here added is in
      subst (λ (cs : List Commit). Member l cs) (sym (grown_records c.opening (commits_of (k.said ++ k.unsaid))))
      (in_append l (records_of c.opening) (commits_of (k.said ++ k.unsaid)) (inr (subst (λ (j : List Settlement). Member l (commits_of j)) (sym front_of)
      (subst (λ (cs : List Commit). Member l cs) (sym (commits_of-append (f.front ++ f.settlement ∷ []) (f.back ++ k.unsaid))) (in_append l (commits_of (f.front ++ f.settlement ∷ [])) (commits_of (f.back ++ k.unsaid)) (inl inside))))));
}

serial_front : (before : Standing) (a b : List LogEntry) → IsSerialFrom before (a ++ b) → IsSerialFrom before a
serial_front before [] b serial = tt
serial_front before (Recorded c ∷ a) b serial = (serial.0, serial_front (after_entry before (Recorded c)) a b serial.1)
serial_front before (Upgraded p ∷ a) b serial = serial_front (after_entry before (Upgraded p)) a b serial

pub numbered_front : (first : ℕ) (a b : List Commit) → AreNumbered first (a ++ b) → AreNumbered first a
numbered_front first [] b numbered = tt
numbered_front first (c ∷ a) b numbered = (numbered.0, numbered.1, (parts_of _ a b numbered.2).0, numbered_front first a b numbered.3)

module _ (live : ℕ) (p : Program) (opening : Log) (before : List ℕ) (journal : List Settlement) (m : Moment) (image : Image) (k : KeepsJournal live p opening before journal m image) where
  front : Log
  front = grown opening (commits_of (k.said ++ k.unsaid))

  -- the whole journal's log is the image's, grown by what comes later
  all_is : grown opening (commits_of journal) ≡ grown front (commits_of k.later)
  unfolding front
  all_is =
      ap (λ (l : List Settlement). grown opening (commits_of l)) k.split
      ∙ ap (λ (l : List Commit). grown opening l) (commits_of-append (k.said ++ k.unsaid) k.later)
      ∙ sym (grown_twice opening (commits_of (k.said ++ k.unsaid)) (commits_of k.later))

  front_numbered : AreNumbered opening.base.next (records_of (grown opening (commits_of journal))) → AreNumbered front.base.next (records_of front)
  unfolding front
  front_numbered numbered =
      let all : records_of (grown opening (commits_of journal)) ≡ records_of front ++ commits_of k.later = ap records_of all_is ∙ grown_records front (commits_of k.later) in
      numbered_front opening.base.next (records_of front) (commits_of k.later) (subst (λ (l : List Commit). AreNumbered opening.base.next l) all numbered)

  front_serial : IsSerialFrom opening.base (grown opening (commits_of journal)).entries → IsSerialFrom front.base front.entries
  unfolding front
  front_serial serial = serial_front opening.base front.entries (map Recorded (commits_of k.later)) (subst (λ (l : Log). IsSerialFrom opening.base l.entries) all_is serial)

  -- where the order's units are numbered, each image of each moment is whole
  pub whole : AreNumbered opening.base.next (records_of (grown opening (commits_of journal))) → IsWholeIfSilo image
  unfolding front
  whole numbered slot is_live =
      subst (λ (n : ℕ). IsWholeSilo n image) (one_slot live slot image k.log.is_live is_live) (record { format = Two; log = front; is = k.log; numbered = front_numbered numbered })

  -- where the order is serial, each image of each moment is sound
  pub sound : IsSerialFrom opening.base (grown opening (commits_of journal)).entries → AreNumbered opening.base.next (records_of (grown opening (commits_of journal))) → IsSoundIfSilo image
  unfolding front
  sound serial numbered slot is_live =
      subst (λ (n : ℕ). IsSound n image) (one_slot live slot image k.log.is_live is_live) (record { format = Two; log = front; is = k.log; serial = front_serial serial; numbered = front_numbered numbered })
