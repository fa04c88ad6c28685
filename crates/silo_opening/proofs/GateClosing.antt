-- The images while a manager file is looked at, and while slot 0's header gate is closed: until each manager file that reads with bytes
-- is synced they are those of entry, and from then on none is a silo.
use Rattle.std.proofs.Common.{◌≡◌, ◌≢◌, ◌⊎◌, inl, inr, ℕ, zero, suc, ◌<◌, ◌≤◌, true, List, [], ◌∷◌, length, take, refl, sym, ◌∙◌, ap, subst, arith}
use Rattle.std.proofs.lemmas.Bool.{false≢true, cases_Bool, cases_eq}
use Rattle.std.proofs.lemmas.Slice.Eq.{bytes_eq-Decides}
use Rattle.std.specs.Str.{bytes_eq}
use Rattle.host_trait.specs.declared.channels.FileId.{FileId}
use Rattle.host_trait.specs.declared.channels.FileId.TheVariants.{Manager}
use Rattle.host_trait.specs.Disk.{FileState, MayLeave, Tears, settled}
use Rattle.host_trait.specs.World.{World, Moment, Disk, Passes, moment_of}
use Rattle.host_trait.specs.Runs.{ChangesFile, RunsOnFile}
use Rattle.host_trait.proofs.Moments.{one, both, weaker, in_turn, later, all_late, weaker_twice}
use Rattle.host_trait.proofs.Names.{cases_file}
use Rattle.host_trait.proofs.Runs.{Change, asked_keeps, image_from, settled_image}
use Rattle.silo_spec.specs.Silos.{manager, IsSilo}
use Rattle.silo_spec.specs.Slots.{ShowsSilos}
use Rattle.silo_spec.specs.Moments.{IsAsAtEntry, IsUntouched}
use Rattle.silo_spec.specs.Creation.{IsLookedAt, IsEarly, FromFirstSync}
use Rattle.silo_opening.specs.Steps.{IsNamedOtherwise, IsLooking, OnlyLooks, SyncsOnce, SyncsFor, LacksSilo, HasNoSilo}
use Rattle.silo_opening.proofs.ManagerLook.{SeenMayStay, looked_then, looking_same, synced_looking}

settled_state : (file : FileState) → file.base ≡ file.seen → file.ranges ≡ [] → file.longest ≡ length file.seen → file ≡ settled file.seen
settled_state file base ranges longest = λ i. record { base = base i; seen = file.seen; ranges = ranges i; longest = longest i }

no_ranges : (ranges : List (ℕ × ℕ)) → (ranges ≡ []) ⊎ (ranges ≢ [])
no_ranges [] = inl refl
no_ranges (range ∷ ranges) = inr (λ e. cc)

-- something is pending in a file or nothing is
pub cases_settled : (file : FileState) → (file ≡ settled file.seen) ⊎ (file ≢ settled file.seen)
cases_settled file = elim (cases_Bool (bytes_eq file.base file.seen)) [
  | inr other ↦ inr (λ e. false≢true (sym other ∙ (bytes_eq-Decides file.base file.seen).1 (ap (λ (s : FileState). s.base) e)))
  | inl same ↦
      elim (no_ranges file.ranges) [
        | inr some ↦ inr (λ e. some (ap (λ (s : FileState). s.ranges) e))
        | inl none ↦
            elim (cases_eq file.longest (length file.seen)) [
              | inr far ↦ inr (λ e. far (ap (λ (s : FileState). s.longest) e))
              | inl at ↦ inl (settled_state file ((bytes_eq-Decides file.base file.seen).0 same) none at)
            ]
      ]
]

-- a file has bytes or has none
pub cases_empty : (file : List ℕ) → (file ≡ []) ⊎ (file ≢ [])
cases_empty [] = inl refl
cases_empty (byte ∷ file) = inr (λ e. cc)

short_no_silo : (magic : List ℕ → Type 0) (file : List ℕ) → length file < 16 → IsSilo magic file → ⊥
short_no_silo magic file short silo = omega (arith, short, silo.long)

pub otherwise_no_silo : (magic : List ℕ → Type 0) (file : List ℕ) → IsNamedOtherwise magic file → IsSilo magic file → ⊥
otherwise_no_silo magic file (inl short) silo = short_no_silo magic file short silo
otherwise_no_silo magic file (inr other) silo = other silo.named

-- more of the same behind the first syncs
pub first_then : (P : Moment → Type 0) (old mid new : World) → FromFirstSync P old mid → Passes P mid.past new.past → P (moment_of new) → FromFirstSync P old new
first_then P old mid new first run now = record { moments = later (IsEarly old) P first.moments run; now = now }

-- in other words
pub first_weaker : (P Q : Moment → Type 0) (old new : World) → ((m : Moment) → P m → Q m) → FromFirstSync P old new → FromFirstSync Q old new
first_weaker P Q old new leads first = record {
  moments = weaker_twice (IsEarly old) P (IsEarly old) Q (λ m early. early) leads first.moments;
  now = leads (moment_of new) first.now;
}

-- what was read of a file that was synced lasts
pub once_lasts : (slot : ℕ) (old new : World) → SyncsOnce slot old new → new.disk (Manager slot) ≡ settled (old.disk (Manager slot)).seen
once_lasts slot old new once = ap (λ (d : Disk). d (Manager slot)) once.more.disk ∙ once.sync.state ∙ ap (λ (d : Disk). settled (d (Manager slot)).seen) once.asked.disk

-- ---- looking at both manager files

module _ (magic : List ℕ → Type 0) (old : World) (here : SeenMayStay old) (shows : ShowsSilos magic old.disk) where
  -- a manager file at rest: it reads as empty, or nothing is pending of what it reads
  abbrev pub Rests : ℕ → Moment → Type 0
  Rests slot m = ((old.disk (Manager slot)).seen ≡ []) ⊎ (m.disk (Manager slot) ≡ settled (old.disk (Manager slot)).seen)

  -- where it reads as no silo's, it is none in any image
  pub rests_lacks : (slot : ℕ) → slot ≤ 1 → (IsSilo magic (old.disk (Manager slot)).seen → ⊥) → (m : Moment) → IsAsAtEntry old m → Rests slot m → LacksSilo magic slot m
  rests_lacks slot low lacks m same_as (inl empty) image is silo = shows image (same_as.images image is) slot low (omega (arith, ap length empty)) silo
  rests_lacks slot low lacks m same_as (inr lasts) image is silo = lacks (subst (IsSilo magic) (settled_image m.disk (Manager slot) (old.disk (Manager slot)).seen (image (Manager slot)) lasts (is (Manager slot))) silo)

  -- at entry it is at rest, or something is pending in it and it reads with bytes
  pub cases_rest : (slot : ℕ) → Rests slot (moment_of old) ⊎ (((old.disk (Manager slot)).seen ≢ []) × (old.disk (Manager slot) ≢ settled (old.disk (Manager slot)).seen))
  cases_rest slot = elim (cases_empty (old.disk (Manager slot)).seen) [
    | inl empty ↦ inl (inl empty)
    | inr some ↦ elim (cases_settled (old.disk (Manager slot))) [ inl lasts ↦ inl (inr lasts) | inr pending ↦ inr (some, pending) ]
  ]

  -- looking leaves it at rest
  rests_on : (slot : ℕ) → Rests slot (moment_of old) → (m : Moment) → IsLookedAt (old.disk (Manager slot)) (m.disk (Manager slot)) → Rests slot m
  rests_on slot (inl empty) m looked = inl empty
  rests_on slot (inr lasts) m (inl same) = inr (same ∙ lasts)
  rests_on slot (inr lasts) m (inr settled_now) = inr settled_now

  rests_still : (slot : ℕ) (a b : Moment) → b.disk (Manager slot) ≡ a.disk (Manager slot) → Rests slot a → Rests slot b
  rests_still slot a b same (inl empty) = inl empty
  rests_still slot a b same (inr lasts) = inr (same ∙ lasts)

  own_early : (slot : ℕ) → slot ≤ 1 → ((old.disk (Manager slot)).seen ≢ []) → (old.disk (Manager slot) ≢ settled (old.disk (Manager slot)).seen) → (m : Moment) → IsAsAtEntry old m → m.disk (Manager slot) ≡ old.disk (Manager slot) → IsEarly old m
  own_early slot low some pending m same_as same = record { slot = slot; low = low; bytes = some; pending = subst (λ (s : FileState). s ≢ settled s.seen) (sym same) pending; unwritten = same_as }

  module _ (mid new : World) (there : SeenMayStay mid) (lacks-0 : IsSilo magic (old.disk (Manager 0)).seen → ⊥) (lacks-1 : IsSilo magic (old.disk (Manager 1)).seen → ⊥)
      (looks-0 : OnlyLooks 0 old mid) (looks-1 : OnlyLooks 1 mid new) (syncs-0 : SyncsFor 0 old mid) (syncs-1 : SyncsFor 1 mid new) where
    second_first : Manager 1 ≢ Manager 0
    second_first e = cc

    first_second : Manager 0 ≢ Manager 1
    first_second e = cc

    zero_low : 0 ≤ 1
    zero_low = omega arith

    one_low : 1 ≤ 1
    one_low = omega arith

    -- slot 1's file is looked at behind slot 0's
    same-1 : mid.disk (Manager 1) ≡ old.disk (Manager 1)
    same-1 = looks-0.now.others (Manager 1) second_first

    as_first : (m : Moment) → IsLooking 0 old m → IsAsAtEntry old m
    as_first m looking = looking_same 0 old here m looking

    as_second : (m : Moment) → IsLooking 1 mid m → IsAsAtEntry old m
    as_second m looking =
        let first = as_first (moment_of mid) looks-0.now in
        let second = looking_same 1 mid there m looking in
        record { quiet = second.quiet ∙ first.quiet; images = λ image is. first.images image (second.images image is) }

    rests_mid : Rests 0 (moment_of mid)
    rests_mid = by syncs-0
      where
        by : SyncsFor 0 old mid → Rests 0 (moment_of mid)
        by (inl once) = inr (once_lasts 0 old mid once.1)
        by (inr empty) = inl empty.0

    rests_new : Rests 1 (moment_of new)
    rests_new = by syncs-1
      where
        seen-1 : (mid.disk (Manager 1)).seen ≡ (old.disk (Manager 1)).seen
        seen-1 = ap (λ (s : FileState). s.seen) same-1

        by : SyncsFor 1 mid new → Rests 1 (moment_of new)
        by (inl once) = inr (once_lasts 1 mid new once.1 ∙ ap settled seen-1)
        by (inr empty) = inl (sym seen-1 ∙ empty.0)

    -- a moment at which both are at rest
    both_lack : (m : Moment) → IsAsAtEntry old m → Rests 0 m → Rests 1 m → HasNoSilo magic m
    both_lack m same_as first second = (rests_lacks 0 zero_low lacks-0 m same_as first, rests_lacks 1 one_low lacks-1 m same_as second)

    now_lacks : HasNoSilo magic (moment_of new)
    now_lacks = both_lack (moment_of new) (as_second (moment_of new) looks-1.now) (rests_still 0 (moment_of mid) (moment_of new) (looks-1.now.others (Manager 0) first_second) rests_mid) rests_new

    -- while slot 1's file is looked at, where nothing was pending in it
    while_second : Rests 1 (moment_of old) → (m : Moment) → IsLooking 1 mid m → HasNoSilo magic m
    while_second rest m looking =
        both_lack m (as_second m looking) (rests_still 0 (moment_of mid) m (looking.others (Manager 0) first_second) rests_mid)
        (rests_on 1 rest m (looked_then (old.disk (Manager 1)) (mid.disk (Manager 1)) (m.disk (Manager 1)) (inl same-1) looking.log))

    -- slot 1's file is the last in which something is pending
    last_second : ((old.disk (Manager 1)).seen ≢ []) → (old.disk (Manager 1) ≢ settled (old.disk (Manager 1)).seen) → SyncsFor 1 mid new → FromFirstSync (HasNoSilo magic) old new
    last_second some pending (inr empty) = absurd (some (sym (ap (λ (s : FileState). s.seen) same-1) ∙ empty.0))
    last_second some pending (inl synced) =
        let once = synced.1 in
        let early : (m : Moment) → IsLooking 0 old m → IsEarly old m = λ m looking. own_early 1 one_low some pending m (as_first m looking) (looking.others (Manager 1) second_first) in
        let after : IsLooking 1 mid (moment_of once.after) = synced_looking 1 mid once.before once.after true once.asked once.sync in
        let lasts : once.after.disk (Manager 1) ≡ settled (old.disk (Manager 1)).seen = once.sync.state ∙ ap (λ (d : Disk). settled (d (Manager 1)).seen) once.asked.disk ∙ ap (λ (s : FileState). settled s.seen) same-1 in
        let lack : HasNoSilo magic (moment_of once.after) = both_lack (moment_of once.after) (as_second (moment_of once.after) after) (rests_still 0 (moment_of mid) (moment_of once.after) (after.others (Manager 0) first_second) rests_mid) (inr lasts) in
        record {
          moments = in_turn (IsEarly old) (HasNoSilo magic)
              (both (IsEarly old) (weaker (IsLooking 0 old) (IsEarly old) early looks-0.moments) (asked_keeps (IsEarly old) mid once.before once.asked (early (moment_of mid) looks-0.now)))
              (both (HasNoSilo magic) (one (HasNoSilo magic) once.before once.after once.sync.past lack) (asked_keeps (HasNoSilo magic) once.after new once.more lack));
          now = now_lacks;
        }

    module _ (rest : Rests 1 (moment_of old)) where
      second_late : Passes (HasNoSilo magic) mid.past new.past
      second_late = weaker (IsLooking 1 mid) (HasNoSilo magic) (while_second rest) looks-1.moments

      -- slot 0's file is the only one in which something is pending
      last_first : ((old.disk (Manager 0)).seen ≢ []) → (old.disk (Manager 0) ≢ settled (old.disk (Manager 0)).seen) → SyncsFor 0 old mid → FromFirstSync (HasNoSilo magic) old new
      last_first some pending (inr empty) = absurd (some empty.0)
      last_first some pending (inl synced) =
          let once = synced.1 in
          let own : IsEarly old (moment_of old) = own_early 0 zero_low some pending (moment_of old) (record { quiet = refl; images = λ image is. is }) refl in
          let after : IsLooking 0 old (moment_of once.after) = synced_looking 0 old once.before once.after true once.asked once.sync in
          let lasts : once.after.disk (Manager 0) ≡ settled (old.disk (Manager 0)).seen = once.sync.state ∙ ap (λ (d : Disk). settled (d (Manager 0)).seen) once.asked.disk in
          let lack : HasNoSilo magic (moment_of once.after) = both_lack (moment_of once.after) (as_first (moment_of once.after) after) (inr lasts) (rests_on 1 rest (moment_of once.after) (inl (after.others (Manager 1) second_first))) in
          record {
            moments = in_turn (IsEarly old) (HasNoSilo magic) (asked_keeps (IsEarly old) old once.before once.asked own)
                (both (HasNoSilo magic) (both (HasNoSilo magic) (one (HasNoSilo magic) once.before once.after once.sync.past lack) (asked_keeps (HasNoSilo magic) once.after mid once.more lack)) second_late);
            now = now_lacks;
          }

      -- nothing is pending in either
      none_pending : Rests 0 (moment_of old) → FromFirstSync (HasNoSilo magic) old new
      none_pending first =
          let while_first : (m : Moment) → IsLooking 0 old m → HasNoSilo magic m = λ m looking. both_lack m (as_first m looking) (rests_on 0 first m looking.log) (rests_on 1 rest m (inl (looking.others (Manager 1) second_first))) in
          record { moments = all_late (IsEarly old) (HasNoSilo magic) (both (HasNoSilo magic) (weaker (IsLooking 0 old) (HasNoSilo magic) while_first looks-0.moments) second_late); now = now_lacks }

    -- from the last of the syncs on no image is a silo
    pub looked_first : FromFirstSync (HasNoSilo magic) old new
    looked_first = elim (cases_rest 1) [
      | inr pending ↦ last_second pending.0 pending.1 syncs-1
      | inl rest ↦ elim (cases_rest 0) [ inr pending ↦ last_first rest pending.0 pending.1 syncs-0 | inl first ↦ none_pending rest first ]
    ]

-- what both manager files read lasts, where they read anything
pub both_last : (old mid new : World) → OnlyLooks 0 old mid → OnlyLooks 1 mid new → SyncsFor 0 old mid → SyncsFor 1 mid new → (slot : ℕ) → slot ≤ 1 → ((old.disk (Manager slot)).seen ≢ [])
    → new.disk (Manager slot) ≡ settled (old.disk (Manager slot)).seen
both_last old mid new looks-0 looks-1 (inl once) syncs-1 zero low some = looks-1.now.others (Manager 0) (λ e. absurd cc) ∙ once_lasts 0 old mid once.1
both_last old mid new looks-0 looks-1 (inr empty) syncs-1 zero low some = absurd (some empty.0)
both_last old mid new looks-0 looks-1 syncs-0 (inl once) (suc zero) low some = once_lasts 1 mid new once.1 ∙ ap (λ (s : FileState). settled s.seen) (looks-0.now.others (Manager 1) (λ e. absurd cc))
both_last old mid new looks-0 looks-1 syncs-0 (inr empty) (suc zero) low some = absurd (some (sym (ap (λ (s : FileState). s.seen) (looks-0.now.others (Manager 1) (λ e. absurd cc))) ∙ empty.0))
both_last old mid new looks-0 looks-1 syncs-0 syncs-1 (suc (suc n)) low some = absurd (omega (arith, low))

-- ---- closing slot 0's header gate

-- a slot that no image has as a silo's, while another file is changed
pub changes_lacks : (magic : List ℕ → Type 0) (file : FileId) (R : Change) (slot : ℕ) → Manager slot ≢ file → (w : World) → LacksSilo magic slot (moment_of w) → (m : Moment) → ChangesFile file R w m → LacksSilo magic slot m
changes_lacks magic file R slot other w lacks m changes image is silo =
    let from = image_from file R w m changes image is in
    lacks from.from from.possible (subst (IsSilo magic) (from.others (Manager slot) other) silo)

torn_no_silo : (magic : List ℕ → Type 0) (d c : List ℕ) → IsNamedOtherwise magic d → Tears 0 1 d c → IsSilo magic c → ⊥
torn_no_silo magic d c (inl short) tears silo = omega (arith, short, tears.no_longer, silo.long)
torn_no_silo magic d c (inr other) tears silo = other (subst magic (ap (λ (l : List ℕ). take 8 l) tears.after) silo.named)

-- a file that lasts, and is none whatever its first byte
otherwise_closing : (magic : List ℕ → Type 0) (file : List ℕ) (w : World) → w.disk manager ≡ settled file → IsNamedOtherwise magic file → (m : Moment) → ChangesFile manager (Tears 0 1) w m → LacksSilo magic 0 m
otherwise_closing magic file w lasts other m changes image is silo =
    let from = changes.crash (image manager) (is manager) in
    let was : from.0 ≡ file = settled_image w.disk manager file from.0 lasts from.1 in
    torn_no_silo magic file (image manager) other (subst (λ (f : List ℕ). Tears 0 1 f (image manager)) was from.2) silo

-- a file that reads as empty: whatever a crash leaves in the gate's place, it might have left before
empty_closing : (magic : List ℕ → Type 0) (w : World) → SeenMayStay w → (w.disk manager).seen ≡ [] → LacksSilo magic 0 (moment_of w) → (m : Moment) → ChangesFile manager (Tears 0 1) w m → LacksSilo magic 0 m
empty_closing magic w here empty lacks m changes image is silo =
    let from = changes.crash (image manager) (is manager) in
    let there = here manager in
    let low : length (w.disk manager).base ≡ 0 = omega (arith, there.no_shorter, ap length empty) in
    let left : MayLeave (w.disk manager) (image manager) = record {
      no_shorter = omega (arith, low);
      no_longer = omega (arith, from.1.no_longer, from.2.no_longer, silo.long);
      same = λ i within untouched. absurd (omega (arith, low, within));
    } in
    lacks image (λ file. elim (cases_file manager file) [
      | inl same ↦ subst (λ (f : FileId). MayLeave (w.disk f) (image f)) same left
      | inr other ↦ subst (λ (s : FileState). MayLeave s (image file)) (changes.others file (λ e. other (sym e))) (is file)
    ]) silo

-- the two kinds of files whose gate is closed
abbrev pub MayBeClosed : (List ℕ → Type 0) → World → Type 0
MayBeClosed magic w = ((file : List ℕ) × (w.disk manager ≡ settled file) × IsNamedOtherwise magic file) ⊎ ((w.disk manager).seen ≡ [])

pub while_closing : (magic : List ℕ → Type 0) (w : World) → SeenMayStay w → MayBeClosed magic w → HasNoSilo magic (moment_of w) → (m : Moment) → ChangesFile manager (Tears 0 1) w m → HasNoSilo magic m
while_closing magic w here may lacks m changes = (first may, changes_lacks magic manager (Tears 0 1) 1 (λ e. absurd cc) w lacks.1 m changes)
  where
    first : MayBeClosed magic w → LacksSilo magic 0 m
    first (inl kind) = otherwise_closing magic kind.0 w kind.1 kind.2 m changes
    first (inr empty) = empty_closing magic w here empty lacks.0 m changes

-- the gate is closed behind the looks
pub closed_first : (magic : List ℕ → Type 0) (old mid new : World) → SeenMayStay mid → MayBeClosed magic mid → FromFirstSync (HasNoSilo magic) old mid → RunsOnFile manager (Tears 0 1) 1 mid new → FromFirstSync (HasNoSilo magic) old new
closed_first magic old mid new here may first run =
    let closing = while_closing magic mid here may first.now in
    first_then (HasNoSilo magic) old mid new first (weaker (ChangesFile manager (Tears 0 1) mid) (HasNoSilo magic) closing run.moments) (closing (moment_of new) run.now)

-- ---- manager files that read too short

-- where no image has one as a silo's
pub none_shown : (magic : List ℕ → Type 0) (w : World) → HasNoSilo magic (moment_of w) → ShowsSilos magic w.disk
none_shown magic w none image is zero low short silo = none.0 image is silo
none_shown magic w none image is (suc zero) low short silo = none.1 image is silo
none_shown magic w none image is (suc (suc n)) low short silo = absurd (omega (arith, low))

-- where slot 0's reads long enough
pub long_shown : (magic : List ℕ → Type 0) (w : World) → 16 ≤ length (w.disk manager).seen → LacksSilo magic 1 (moment_of w) → ShowsSilos magic w.disk
long_shown magic w long lacks image is zero low short silo = absurd (omega (arith, long, short))
long_shown magic w long lacks image is (suc zero) low short silo = lacks image is silo
long_shown magic w long lacks image is (suc (suc n)) low short silo = absurd (omega (arith, low))

-- where nothing was written
pub untouched_shown : (magic : List ℕ → Type 0) (old new : World) → IsUntouched old new → ShowsSilos magic old.disk → ShowsSilos magic new.disk
untouched_shown magic old new untouched shows image is slot low short silo = shows image (untouched.now.images image is) slot low (subst (λ (l : List ℕ). length l < 16) (untouched.seen (Manager slot)) short) silo

pub came_shown : (magic : List ℕ → Type 0) (old new : World) → IsUntouched old new ⊎ FromFirstSync (HasNoSilo magic) old new → ShowsSilos magic old.disk → ShowsSilos magic new.disk
came_shown magic old new (inl untouched) shows = untouched_shown magic old new untouched shows
came_shown magic old new (inr first) shows = none_shown magic new first.now
