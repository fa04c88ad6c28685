-- What each call of an opening leaves: every moment is one of an opening, and at the end both manager files are settled.
use Rattle.std.proofs.Common.{◌≡◌, ◌≢◌, ◌⊎◌, inl, inr, ℕ, zero, suc, ◌+◌, ◌<◌, ◌≤◌, nat_le, Bool, true, false, if◌then◌else◌, List, length, refl, sym, ◌∙◌, ap, subst, arith}
use Rattle.std.proofs.lemmas.Bool.{cases_Bool, and_from, and_parts, le-leb, leb-true}
use Rattle.host_trait.specs.declared.channels.FileId.{FileId}
use Rattle.host_trait.specs.declared.channels.FileId.TheVariants.{Manager, Program as ProgramFile, Grain}
use Rattle.host_trait.specs.Disk.{FileState, MayLeave, settled}
use Rattle.host_trait.specs.World.{World, Moment, Disk, Image, Asked, Synced, moment_of}
use Rattle.host_trait.specs.Runs.{OnlyAsked}
use Rattle.host_trait.proofs.Crashes.{settled_only}
use Rattle.host_trait.proofs.Moments.{started, one, both, weaker, same_moment, arrived, arrives_once, arrives_then}
use Rattle.host_trait.proofs.Names.{cases_file}
use Rattle.host_trait.proofs.Runs.{none_asked, once_asked, asked_then, asked_keeps, arrives_asked}
use Rattle.log_reading.specs.Steps.{seen_in}
use Rattle.silo_spec.specs.Moments.{IsAsAtEntry, IsUntouched}
use Rattle.silo_spec.specs.OpenedDisks.{is_synced, slot_syncs, opened_file, opened_disk, IsInOpening, OpensBy, OnlyOpens}
use Rattle.silo_opening.specs.Steps.{Settles, SettlesBoth}

-- ---- files as an opening leaves them

module _ (file : FileId) (state : FileState) where
  -- they read as before
  pub opened_seen : (opened_file file state).seen ≡ state.seen
  opened_seen = elim (cases_Bool (is_synced file state.seen)) [
    | inl is ↦ ap (λ (b : Bool). (if b then settled state.seen else state).seen) is
    | inr not ↦ ap (λ (b : Bool). (if b then settled state.seen else state).seen) not
  ]

  -- and another opening leaves them so
  opened_twice : opened_file file (opened_file file state) ≡ opened_file file state
  opened_twice = elim (cases_Bool (is_synced file state.seen)) [
    | inl is ↦
        let so : opened_file file state ≡ settled state.seen = ap (λ (b : Bool). if b then settled state.seen else state) is in
        ap (opened_file file) so ∙ ap (λ (b : Bool). if b then settled state.seen else settled state.seen) is ∙ sym so
    | inr not ↦
        let so : opened_file file state ≡ state = ap (λ (b : Bool). if b then settled state.seen else state) not in
        ap (opened_file file) so
  ]

-- a manager file of 16 bytes or more is synced
long_synced : (slot : ℕ) (bytes : List ℕ) → slot ≤ 1 → 16 ≤ length bytes → is_synced (Manager slot) bytes ≡ true
long_synced slot bytes first long = and_from (nat_le 16 (length bytes)) (nat_le slot 1) (le-leb 16 (length bytes) long) (le-leb slot 1 first)

pub long_opened : (slot : ℕ) (state : FileState) → slot ≤ 1 → 16 ≤ length state.seen → opened_file (Manager slot) state ≡ settled state.seen
long_opened slot state first long = ap (λ (b : Bool). if b then settled state.seen else state) (long_synced slot state.seen first long)

-- a shorter one isn't
short_synced : (slot : ℕ) (bytes : List ℕ) → length bytes < 16 → is_synced (Manager slot) bytes ≡ false
short_synced slot bytes short = elim (cases_Bool (is_synced (Manager slot) bytes)) [
  | inl is ↦ (let long : 16 ≤ length bytes = leb-true 16 (length bytes) (and_parts (nat_le 16 (length bytes)) (nat_le slot 1) is).0 in absurd (omega (arith, long, short)))
  | inr not ↦ not
]

short_opened : (slot : ℕ) (state : FileState) → length state.seen < 16 → opened_file (Manager slot) state ≡ state
short_opened slot state short = ap (λ (b : Bool). if b then settled state.seen else state) (short_synced slot state.seen short)

-- nor is one of another slot than these two
other_opened : (n : ℕ) (state : FileState) → opened_file (Manager (suc (suc n))) state ≡ state
other_opened n state = elim (cases_Bool (is_synced (Manager (suc (suc n))) state.seen)) [
  | inl is ↦ (let low : suc (suc n) ≤ 1 = leb-true (suc (suc n)) 1 (and_parts (nat_le 16 (length state.seen)) (nat_le (suc (suc n)) 1) is).1 in absurd (omega (arith, low)))
  | inr not ↦ ap (λ (b : Bool). if b then settled state.seen else state) not
]

-- how many syncs are asked for
pub long_syncs : (slot : ℕ) (image : Image) → slot ≤ 1 → 16 ≤ length (image (Manager slot)) → slot_syncs image slot ≡ 1
long_syncs slot image first long = ap (λ (b : Bool). if b then 1 else 0) (long_synced slot (image (Manager slot)) first long)

pub short_syncs : (slot : ℕ) (image : Image) → length (image (Manager slot)) < 16 → slot_syncs image slot ≡ 0
short_syncs slot image short = ap (λ (b : Bool). if b then 1 else 0) (short_synced slot (image (Manager slot)) short)

-- ---- moments

own_moment : (w : World) → IsInOpening w (moment_of w)
own_moment w = record { output = refl; images = λ image is. is; files = λ file. inl refl }

opened_again : (old mid : FileState) (file : FileId) → (mid ≡ old) ⊎ (mid ≡ opened_file file old) → opened_file file mid ≡ opened_file file old
opened_again old mid file (inl same) = ap (opened_file file) same
opened_again old mid file (inr opened) = ap (opened_file file) opened ∙ opened_twice file old

-- a moment behind other calls of an opening
moment_then : (old mid : World) → IsInOpening old (moment_of mid) → (m : Moment) → IsInOpening mid m → IsInOpening old m
moment_then old mid first m second = record {
  output = second.output ∙ first.output;
  images = λ image is. first.images image (second.images image is);
  files = λ file. elim (second.files file) [
    | inl same ↦ elim (first.files file) [ inl was ↦ inl (same ∙ was) | inr opened ↦ inr (same ∙ opened) ]
    | inr opened ↦ inr (opened ∙ opened_again (old.disk file) (mid.disk file) file (first.files file))
  ];
}

-- ---- calls

pub opens_started : (w : World) → OpensBy 0 w w
opens_started w = record { input = refl; counted = omega arith; syncs = omega arith; now = own_moment w; moments = started _ w.past; clock = arrived w }

-- one after another
pub opens_then : (a b : ℕ) (old mid new : World) → OpensBy a old mid → OpensBy b mid new → OpensBy (a + b) old new
opens_then a b old mid new first second = record {
  input = second.input ∙ first.input;
  counted = omega (arith, first.counted, second.counted);
  syncs = omega (arith, first.syncs, second.syncs);
  now = moment_then old mid first.now (moment_of new) second.now;
  moments = both _ first.moments (weaker _ _ (moment_then old mid first.now) second.moments);
  clock = arrives_then old mid new first.clock second.clock;
}

-- with as many syncs at most, or more
pub opens_more : (most more : ℕ) (old new : World) → most ≤ more → OpensBy most old new → OpensBy more old new
opens_more most more old new up opens = record { input = opens.input; counted = opens.counted; syncs = omega (arith, opens.syncs); now = opens.now; moments = opens.moments; clock = opens.clock }

-- calls that only asked
pub opens_asked : (old new : World) → OnlyAsked old new → OpensBy 0 old new
opens_asked old new asked = record {
  input = asked.input;
  counted = omega (arith, asked.syncs);
  syncs = omega (arith, asked.syncs);
  now = subst (λ (m : Moment). IsInOpening old m) (sym (same_moment old new asked.output asked.disk)) (own_moment old);
  moments = asked_keeps (IsInOpening old) old new asked (own_moment old);
  clock = arrives_asked old new asked;
}

pub opens_and_asked : (most : ℕ) (old mid new : World) → OpensBy most old mid → OnlyAsked mid new → OpensBy most old new
opens_and_asked most old mid new opens asked = opens_more (most + 0) most old new (omega arith) (opens_then most 0 old mid new opens (opens_asked mid new asked))

-- one call that asked
pub opens_once_asked : (most : ℕ) (old new : World) → Asked old new → OpensBy most old new
opens_once_asked most old new asked = opens_more 0 most old new (omega arith) (opens_asked old new (once_asked old old new (none_asked old) asked))

-- a sync of a manager file of 16 bytes or more
module _ (slot : ℕ) (first : slot ≤ 1) (old new : World) (long : 16 ≤ length (old.disk (Manager slot)).seen) where
  synced_image : (ok : Bool) → Synced (Manager slot) ok old new → MayLeave (old.disk (Manager slot)) (old.disk (Manager slot)).seen → (bytes : List ℕ) → MayLeave (new.disk (Manager slot)) bytes → MayLeave (old.disk (Manager slot)) bytes
  synced_image false synced here bytes left = subst (λ (s : FileState). MayLeave s bytes) synced.state left
  synced_image true synced here bytes left =
      subst (λ (b : List ℕ). MayLeave (old.disk (Manager slot)) b) (sym (settled_only (old.disk (Manager slot)).seen bytes (subst (λ (s : FileState). MayLeave s bytes) synced.state left))) here

  synced_file : (ok : Bool) → Synced (Manager slot) ok old new → (new.disk (Manager slot) ≡ old.disk (Manager slot)) ⊎ (new.disk (Manager slot) ≡ opened_disk old.disk (Manager slot))
  synced_file false synced = inl synced.state
  synced_file true synced = inr (synced.state ∙ sym (long_opened slot (old.disk (Manager slot)) first long))

  synced_moment : (ok : Bool) → Synced (Manager slot) ok old new → MayLeave (old.disk (Manager slot)) (old.disk (Manager slot)).seen → IsInOpening old (moment_of new)
  synced_moment ok synced here = record {
    output = synced.output;
    images = λ image is file. elim (cases_file file (Manager slot)) [
      | inl same ↦ subst (λ (f : FileId). MayLeave (old.disk f) (image f)) (sym same) (synced_image ok synced here (image (Manager slot)) (is (Manager slot)))
      | inr other ↦ subst (λ (s : FileState). MayLeave s (image file)) (synced.others file other) (is file)
    ];
    files = λ file. elim (cases_file file (Manager slot)) [
      | inl same ↦ subst (λ (f : FileId). (new.disk f ≡ old.disk f) ⊎ (new.disk f ≡ opened_disk old.disk f)) (sym same) (synced_file ok synced)
      | inr other ↦ inl (synced.others file other)
    ];
  }

  pub opens_synced : (ok : Bool) → Synced (Manager slot) ok old new → MayLeave (old.disk (Manager slot)) (old.disk (Manager slot)).seen → OpensBy 1 old new
  opens_synced ok synced here =
      let now : IsInOpening old (moment_of new) = synced_moment ok synced here in
      record {
        input = synced.input;
        counted = synced.counted;
        syncs = synced.once;
        now = now;
        moments = one _ old new synced.past now;
        clock = arrives_once old new synced.past;
      }

-- the length of a slot's manager file was asked, it has 16 bytes or more, and the file was synced or wasn't
pub opens_settled : (slot : ℕ) (old mid new : World) (ok : Bool) → slot ≤ 1 → Asked old mid → 16 ≤ length (old.disk (Manager slot)).seen → Synced (Manager slot) ok mid new
    → MayLeave (mid.disk (Manager slot)) (mid.disk (Manager slot)).seen → OpensBy (slot_syncs (seen_in old.disk) slot) old new
opens_settled slot old mid new ok first asked long synced here =
    let there : 16 ≤ length (mid.disk (Manager slot)).seen = subst (λ (d : Disk). 16 ≤ length (d (Manager slot)).seen) (sym asked.disk) long in
    subst (λ (n : ℕ). OpensBy n old new) (sym (long_syncs slot (seen_in old.disk) first long))
    (opens_then 0 1 old mid new (opens_once_asked 0 old mid asked) (opens_synced slot first mid new there ok synced here))

-- ---- both manager files

-- the length of a slot's manager file was asked, and where it has 16 bytes or more it was synced
pub settles_short : (slot : ℕ) (old new : World) → length (old.disk (Manager slot)).seen < 16 → Asked old new → Settles slot old new
settles_short slot old new short asked = inr (short, once_asked old old new (none_asked old) asked)

pub settles_long : (slot : ℕ) (old mid new : World) → 16 ≤ length (old.disk (Manager slot)).seen → Asked old mid → Synced (Manager slot) true mid new → Settles slot old new
settles_long slot old mid new long asked synced = inl (long, record { before = mid; after = new; asked = once_asked old old mid (none_asked old) asked; sync = synced; more = none_asked new })

-- and then there was nothing but asking
pub settles_more : (slot : ℕ) (old mid new : World) → Settles slot old mid → OnlyAsked mid new → Settles slot old new
settles_more slot old mid new (inr short) asked = inr (short.0, asked_then old mid new short.1 asked)
settles_more slot old mid new (inl long) asked =
    let s = long.1 in
    inl (long.0, record { before = s.before; after = s.after; asked = s.asked; sync = s.sync; more = asked_then s.after mid new s.more asked })

pub both_more : (old mid new : World) → SettlesBoth old mid → OnlyAsked mid new → SettlesBoth old new
both_more old mid new s asked = record { between = s.between; first = s.first; second = settles_more 1 s.between mid new s.second asked }

-- what one leaves
module _ (slot : ℕ) (low : slot ≤ 1) (old new : World) where
  pub settled_file : Settles slot old new → new.disk (Manager slot) ≡ opened_file (Manager slot) (old.disk (Manager slot))
  settled_file (inr short) = ap (λ (d : Disk). d (Manager slot)) short.1.disk ∙ sym (short_opened slot (old.disk (Manager slot)) short.0)
  settled_file (inl long) =
      let s = long.1 in
      ap (λ (d : Disk). d (Manager slot)) s.more.disk ∙ s.sync.state
      ∙ ap (λ (d : Disk). settled (d (Manager slot)).seen) s.asked.disk
      ∙ sym (long_opened slot (old.disk (Manager slot)) low long.0)

  pub settled_others : Settles slot old new → (f : FileId) → f ≢ Manager slot → new.disk f ≡ old.disk f
  settled_others (inr short) f other = ap (λ (d : Disk). d f) short.1.disk
  settled_others (inl long) f other =
      let s = long.1 in
      ap (λ (d : Disk). d f) s.more.disk ∙ s.sync.others f other ∙ ap (λ (d : Disk). d f) s.asked.disk

-- what both leave
pub both_left : (old new : World) → SettlesBoth old new → new.disk ≡ opened_disk old.disk
both_left old new s = λ i file. each file i
  where
    stays : (f : FileId) → f ≢ Manager 0 → f ≢ Manager 1 → new.disk f ≡ old.disk f
    stays f zeroth first = settled_others 1 (omega arith) s.between new s.second f first ∙ settled_others 0 (omega arith) old s.between s.first f zeroth

    each : (file : FileId) → new.disk file ≡ opened_disk old.disk file
    each (ProgramFile slot) = stays (ProgramFile slot) (λ e. absurd cc) (λ e. absurd cc)
    each (Grain slot grain) = stays (Grain slot grain) (λ e. absurd cc) (λ e. absurd cc)
    each (Manager zero) = settled_others 1 (omega arith) s.between new s.second (Manager 0) (λ e. absurd cc) ∙ settled_file 0 (omega arith) old s.between s.first
    each (Manager (suc zero)) =
        settled_file 1 (omega arith) s.between new s.second
        ∙ ap (opened_file (Manager 1)) (settled_others 0 (omega arith) old s.between s.first (Manager 1) (λ e. absurd cc))
    each (Manager (suc (suc n))) = stays (Manager (suc (suc n))) (λ e. absurd cc) (λ e. absurd cc) ∙ sym (other_opened n (old.disk (Manager (suc (suc n)))))

-- ---- what all of them leave

-- every file reads as before
pub opens_seen : (old new : World) (file : FileId) → (new.disk file ≡ old.disk file) ⊎ (new.disk file ≡ opened_disk old.disk file) → (new.disk file).seen ≡ (old.disk file).seen
opens_seen old new file (inl same) = ap (λ (s : FileState). s.seen) same
opens_seen old new file (inr opened) = ap (λ (s : FileState). s.seen) opened ∙ opened_seen file (old.disk file)

pub opens_same : (most : ℕ) (old new : World) → OpensBy most old new → seen_in new.disk ≡ seen_in old.disk
opens_same most old new opens = λ i file. opens_seen old new file (opens.now.files file) i

-- and the folder is untouched
pub opens_untouched : (most : ℕ) (old new : World) → OpensBy most old new → IsUntouched old new
opens_untouched most old new opens = record {
  moments = weaker _ _ as_entry opens.moments;
  now = as_entry (moment_of new) opens.now;
  seen = λ file. opens_seen old new file (opens.now.files file);
}
  where
    as_entry : (m : Moment) → IsInOpening old m → IsAsAtEntry old m
    as_entry m is = record { quiet = is.output; images = is.images }

-- ---- both slots, one behind the other

pub both_open : (old mid new : World) → OpensBy (slot_syncs (seen_in old.disk) 0) old mid → OpensBy (slot_syncs (seen_in mid.disk) 1) mid new → OnlyOpens old new
both_open old mid new first second =
    opens_then (slot_syncs (seen_in old.disk) 0) (slot_syncs (seen_in old.disk) 1) old mid new first
    (subst (λ (image : Image). OpensBy (slot_syncs image 1) mid new) (opens_same _ old mid first) second)
