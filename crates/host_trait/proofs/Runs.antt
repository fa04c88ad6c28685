-- What each host call adds to a run on one file.
use Rattle.std.proofs.Common.{◌≡◌, ◌≢◌, inl, inr, ℕ, ◌+◌, ◌≤◌, Bool, true, false, if◌then◌else◌, List, length, refl, sym, ◌∙◌, ap, subst, arith}
use Rattle.host_trait.specs.declared.channels.FileId.{FileId}
use Rattle.host_trait.specs.Disk.{FileState, MayLeave, Tears, settled, after_sync}
use Rattle.host_trait.specs.Files.{same_file}
use Rattle.host_trait.specs.World.{World, Moment, Disk, Image, IsImage, Passes, Arrives, moment_of, with_bytes, Asked, Written, Synced}
use Rattle.host_trait.specs.Runs.{Follows, ChangesFile, RunsOnFile, OnlyAsked, HasFailedWrite, ComesFrom}
use Rattle.host_trait.proofs.Crashes.{wrote_follows, settled_only, seen-after_sync, Tears-refl, Tears-trans}
use Rattle.host_trait.proofs.Moments.{started, one, both, weaker, same_moment, arrived, arrives_once, arrives_then, arrives_still}
use Rattle.host_trait.proofs.Names.{same_file-refl, cases_file, other_file}

-- a relation between what a crash left and what one leaves
abbrev pub Change : Type 1
Change = List ℕ → List ℕ → Type 0

-- no call yet
pub none_changed : (file : FileId) (R : Change) (w : World) → ((d : List ℕ) → R d d) → ChangesFile file R w (moment_of w)
none_changed file R w refl_R = record { output = refl; others = λ f other. refl; crash = λ c left. (c, left, refl_R c) }

pub run_started : (file : FileId) (R : Change) (w : World) → ((d : List ℕ) → R d d) → RunsOnFile file R 0 w w
run_started file R w refl_R = record { input = refl; counted = omega arith; syncs = omega arith; seen = refl_R (w.disk file).seen; now = none_changed file R w refl_R; moments = started _ w.past; clock = arrived w }

-- a sync takes outcomes away, or changes nothing
sync_follows : (R : Change) (ok : Bool) (old mid : FileState) → MayLeave mid mid.seen → Follows R old mid → Follows R old (after_sync ok mid)
sync_follows R false old mid here so_far = so_far
sync_follows R true old mid here so_far = λ c left. so_far c (subst (MayLeave mid) (sym (settled_only mid.seen c left)) here)

module _ (file : FileId) (R : Change) (most : ℕ) (old mid new : World) (so_far : RunsOnFile file R most old mid) where
  -- a write more: R is to hold on over its tears
  pub run_wrote : (at n : ℕ) → Written file at n mid new → MayLeave (mid.disk file) (mid.disk file).seen → at ≤ length (mid.disk file).seen
      → ((e d c : List ℕ) → R e d → Tears at n d c → R e c) → RunsOnFile file R most old new
  run_wrote at n written here within leads =
      let now : ChangesFile file R old (moment_of new) = record {
        output = written.output ∙ so_far.now.output;
        others = λ f other. written.others f other ∙ so_far.now.others f other;
        crash = λ c left.
            let from = wrote_follows at n (mid.disk file) (new.disk file) written.state here within c left in
            let first = so_far.now.crash from.0 from.1 in
            (first.0, first.1, leads first.0 from.0 c first.2 from.2);
      } in
      record {
        input = written.input ∙ so_far.input;
        counted = omega (arith, so_far.counted, written.syncs);
        syncs = omega (arith, so_far.syncs, written.syncs);
        seen = leads (old.disk file).seen (mid.disk file).seen (new.disk file).seen so_far.seen written.state.seen;
        now = now;
        moments = both _ so_far.moments (one _ mid new written.past now);
        clock = arrives_then old mid new so_far.clock (arrives_once mid new written.past);
      }

  -- a sync more
  pub run_synced : (ok : Bool) → Synced file ok mid new → MayLeave (mid.disk file) (mid.disk file).seen → RunsOnFile file R (most + 1) old new
  run_synced ok synced here =
      let now : ChangesFile file R old (moment_of new) = record {
        output = synced.output ∙ so_far.now.output;
        others = λ f other. synced.others f other ∙ so_far.now.others f other;
        crash = subst (λ (s : FileState). Follows R (old.disk file) s) (sym synced.state) (sync_follows R ok (old.disk file) (mid.disk file) here so_far.now.crash);
      } in
      record {
        input = synced.input ∙ so_far.input;
        counted = omega (arith, so_far.counted, synced.counted);
        syncs = omega (arith, so_far.syncs, synced.once);
        seen = subst (R (old.disk file).seen) (sym (ap (λ (s : FileState). s.seen) synced.state ∙ seen-after_sync ok (mid.disk file))) so_far.seen;
        now = now;
        moments = both _ so_far.moments (one _ mid new synced.past now);
        clock = arrives_then old mid new so_far.clock (arrives_once mid new synced.past);
      }

  -- a call more that changed nothing
  pub run_asked : Asked mid new → RunsOnFile file R most old new
  run_asked asked =
      let now : ChangesFile file R old (moment_of new) = subst (λ (m : Moment). ChangesFile file R old m) (sym (same_moment mid new asked.output asked.disk)) so_far.now in
      record {
        input = asked.input ∙ so_far.input;
        counted = omega (arith, so_far.counted, asked.syncs);
        syncs = omega (arith, so_far.syncs, asked.syncs);
        seen = subst (R (old.disk file).seen) (sym (ap (λ (d : Disk). (d file).seen) asked.disk)) so_far.seen;
        now = now;
        moments = both _ so_far.moments (one _ mid new asked.past now);
        clock = arrives_then old mid new so_far.clock (arrives_once mid new asked.past);
      }

-- what R says, in other words
pub changes_weaker : (file : FileId) (R S : Change) (old : World) → ((d c : List ℕ) → R d c → S d c) → (m : Moment) → ChangesFile file R old m → ChangesFile file S old m
changes_weaker file R S old leads m changes = record {
  output = changes.output;
  others = changes.others;
  crash = λ c left. let from = changes.crash c left in (from.0, from.1, leads from.0 c from.2);
}

pub run_weaker : (file : FileId) (R S : Change) (most : ℕ) (old new : World) → ((d c : List ℕ) → R d c → S d c) → RunsOnFile file R most old new → RunsOnFile file S most old new
run_weaker file R S most old new leads run = record {
  input = run.input;
  counted = run.counted;
  syncs = run.syncs;
  seen = leads (old.disk file).seen (new.disk file).seen run.seen;
  now = changes_weaker file R S old leads (moment_of new) run.now;
  moments = weaker _ _ (changes_weaker file R S old leads) run.moments;
  clock = run.clock;
}

-- a moment of a run behind another run on the same file, seen from the first one's start
pub changes_then : (file : FileId) (R S T : Change) (old mid : World) → ((e d c : List ℕ) → R e d → S d c → T e c) → ChangesFile file R old (moment_of mid) → (m : Moment) → ChangesFile file S mid m → ChangesFile file T old m
changes_then file R S T old mid leads first m second = record {
  output = second.output ∙ first.output;
  others = λ f other. second.others f other ∙ first.others f other;
  crash = λ c left.
      let from = second.crash c left in
      let start = first.crash from.0 from.1 in
      (start.0, start.1, leads start.0 from.0 c start.2 from.2);
}

-- one run behind another, each weakened to one relation
pub run_then : (file : FileId) (R S : Change) (a b : ℕ) (old mid new : World) → ((e d c : List ℕ) → R e d → S d c → R e c) → RunsOnFile file R a old mid → RunsOnFile file S b mid new → RunsOnFile file R (a + b) old new
run_then file R S a b old mid new leads first second = record {
  input = second.input ∙ first.input;
  counted = omega (arith, first.counted, second.counted);
  syncs = omega (arith, first.syncs, second.syncs);
  seen = leads (old.disk file).seen (mid.disk file).seen (new.disk file).seen first.seen second.seen;
  now = changes_then file R S R old mid leads first.now (moment_of new) second.now;
  moments = both _ first.moments (weaker _ _ (changes_then file R S R old mid leads first.now) second.moments);
  clock = arrives_then old mid new first.clock second.clock;
}

-- one write, and one sync behind it
pub run_one_write : (file : FileId) (at n : ℕ) (old new : World) → Written file at n old new → MayLeave (old.disk file) (old.disk file).seen → at ≤ length (old.disk file).seen → RunsOnFile file (Tears at n) 0 old new
run_one_write file at n old new written here within = run_wrote file (Tears at n) 0 old old new (run_started file (Tears at n) old (Tears-refl at n)) at n written here within (λ e d c. Tears-trans at n e d c)

pub run_write_synced : (file : FileId) (at n : ℕ) (old mid new : World) (ok : Bool) → Written file at n old mid → MayLeave (old.disk file) (old.disk file).seen → at ≤ length (old.disk file).seen
    → Synced file ok mid new → MayLeave (mid.disk file) (mid.disk file).seen → RunsOnFile file (Tears at n) 1 old new
run_write_synced file at n old mid new ok written here within synced there = run_synced file (Tears at n) 0 old mid new (run_one_write file at n old mid written here within) ok synced there

-- as many syncs at most, or more
pub run_more_syncs : (file : FileId) (R : Change) (most more : ℕ) (old new : World) → most ≤ more → RunsOnFile file R most old new → RunsOnFile file R more old new
run_more_syncs file R most more old new up run = record { input = run.input; counted = run.counted; syncs = omega (arith, run.syncs); seen = run.seen; now = run.now; moments = run.moments; clock = run.clock }

-- calls that only asked
pub none_asked : (w : World) → OnlyAsked w w
none_asked w = record { input = refl; output = refl; disk = refl; syncs = refl; moments = started _ w.past }

pub once_asked : (old mid new : World) → OnlyAsked old mid → Asked mid new → OnlyAsked old new
once_asked old mid new so_far asked =
    let output : new.output ≡ old.output = asked.output ∙ so_far.output in
    let disk : new.disk ≡ old.disk = asked.disk ∙ so_far.disk in
    record {
      input = asked.input ∙ so_far.input;
      output = output;
      disk = disk;
      syncs = asked.syncs ∙ so_far.syncs;
      moments = both _ so_far.moments (one _ mid new asked.past (same_moment old new output disk));
    }

pub asked_then : (old mid new : World) → OnlyAsked old mid → OnlyAsked mid new → OnlyAsked old new
asked_then old mid new first second =
    let same : moment_of mid ≡ moment_of old = same_moment old mid first.output first.disk in
    record {
      input = second.input ∙ first.input;
      output = second.output ∙ first.output;
      disk = second.disk ∙ first.disk;
      syncs = second.syncs ∙ first.syncs;
      moments = both _ first.moments (weaker _ _ (λ m is. is ∙ same) second.moments);
    }

-- whatever held of the old moment holds at each moment of a run that only asked
pub asked_keeps : (P : Moment → Type 0) (old new : World) → OnlyAsked old new → P (moment_of old) → Passes P old.past new.past
asked_keeps P old new asked holds = weaker _ _ (λ m is. subst P (sym is) holds) asked.moments

-- a write that never began only asked
unbegun_asked : (file : FileId) (at n : ℕ) (old new : World) → Written file at n old new → new.disk file ≡ old.disk file → OnlyAsked old new
unbegun_asked file at n old new written same = once_asked old old new (none_asked old) (record { input = written.input; output = written.output; disk = λ i f. each f i; syncs = written.syncs; past = written.past })
  where
    each : (f : FileId) → new.disk f ≡ old.disk f
    each f = elim (cases_file f file) [
      | inl this ↦ subst (λ (g : FileId). new.disk g ≡ old.disk g) (sym this) same
      | inr other ↦ written.others f other
    ]

-- a write that failed
pub failed_write : (file : FileId) (at n : ℕ) (old new : World) → Written file at n old new → HasFailedWrite file at n old new
failed_write file at n old new written = elim written.state.pends [
  | inl pends ↦ inr pends
  | inr same ↦ inl (unbegun_asked file at n old new written same)
]

-- the clock of a run that only asked
pub arrives_asked : (old new : World) → OnlyAsked old new → Arrives old new
arrives_asked old new asked = arrives_still old new asked.moments (same_moment old new asked.output asked.disk)

-- an image of such a moment differs in that one file from an image of before
pub image_from : (file : FileId) (R : Change) (old : World) (now : Moment) → ChangesFile file R old now → (image : Image) → IsImage now.disk image → ComesFrom file R old.disk image
image_from file R old now changes image is =
    let start = changes.crash (image file) (is file) in
    let from : Image = λ f. if same_file file f then start.0 else image f in
    let this : from file ≡ start.0 = ap (λ (b : Bool). if b then start.0 else image file) (same_file-refl file) in
    record {
      from = from;
      possible = λ f. elim (cases_file file f) [
        | inl same ↦ subst (λ (g : FileId). MayLeave (old.disk g) (from g)) same (subst (λ (bytes : List ℕ). MayLeave (old.disk file) bytes) (sym this) start.1)
        | inr other ↦
            subst (λ (bytes : List ℕ). MayLeave (old.disk f) bytes) (sym (ap (λ (b : Bool). if b then start.0 else image f) (other_file file f other)))
            (subst (λ (s : FileState). MayLeave s (image f)) (changes.others f (λ e. other (sym e))) (is f))
      ];
      others = λ f other. sym (ap (λ (b : Bool). if b then start.0 else image f) (other_file file f (λ e. other (sym e))));
      changed = subst (λ (bytes : List ℕ). R bytes (image file)) (sym this) start.2;
    }

-- what holds of each image before such a change, and is kept by it, holds of each image after it
pub each_image : (file : FileId) (R : Change) (P Q : Image → Type 0) (old : World) (now : Moment) → ChangesFile file R old now
    → ((from image : Image) → P from → ((f : FileId) → f ≢ file → image f ≡ from f) → R (from file) (image file) → Q image)
    → ((image : Image) → IsImage old.disk image → P image) → (image : Image) → IsImage now.disk image → Q image
each_image file R P Q old now changes leads holds image is =
    let comes = image_from file R old now changes image is in
    leads comes.from image (holds comes.from comes.possible) comes.others comes.changed

-- a file that no call touched has the outcomes that it had
pub other_image : (file other : FileId) (R : Change) (old : World) (now : Moment) → ChangesFile file R old now → other ≢ file → (c : List ℕ) → MayLeave (now.disk other) c → MayLeave (old.disk other) c
other_image file other R old now changes apart c left = subst (λ (s : FileState). MayLeave s c) (changes.others other apart) left

-- a settled file has one outcome
pub settled_image : (disk : Disk) (file : FileId) (bytes c : List ℕ) → disk file ≡ settled bytes → MayLeave (disk file) c → c ≡ bytes
settled_image disk file bytes c is left = settled_only bytes c (subst (λ (s : FileState). MayLeave s c) is left)

-- an image with other bytes in one file has these bytes there
pub with_bytes-there : (image : Image) (file : FileId) (bytes : List ℕ) → with_bytes image file bytes file ≡ bytes
with_bytes-there image file bytes = ap (λ (b : Bool). if b then bytes else image file) (same_file-refl file)

-- and its own bytes in each other file
pub with_bytes-other : (image : Image) (file : FileId) (bytes : List ℕ) (f : FileId) → f ≢ file → with_bytes image file bytes f ≡ image f
with_bytes-other image file bytes f other = ap (λ (b : Bool). if b then bytes else image f) (other_file file f (λ e. other (sym e)))

-- where a crash may leave an image, and these bytes in one file, it may leave that image with these bytes in that file
pub image_with : (disk : Disk) (image : Image) (file : FileId) (bytes : List ℕ) → IsImage disk image → MayLeave (disk file) bytes → IsImage disk (with_bytes image file bytes)
image_with disk image file bytes is left f = elim (cases_file file f) [
  | inl same ↦ subst (λ (g : FileId). MayLeave (disk g) (with_bytes image file bytes g)) same (subst (λ (l : List ℕ). MayLeave (disk file) l) (sym (with_bytes-there image file bytes)) left)
  | inr other ↦ subst (λ (l : List ℕ). MayLeave (disk f) l) (sym (with_bytes-other image file bytes f (λ e. other (sym e)))) (is f)
]
