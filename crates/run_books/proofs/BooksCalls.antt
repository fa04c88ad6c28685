-- How many syncs were asked, and which files were written, after a step of the settler.
use Rattle.std.proofs.Common.{◌≡◌, ◌≢◌, ℕ, ◌+◌, ◌*◌, ◌≤◌, List, [], ◌∷◌, Bool, true, false, refl, sym, ap, ◌∙◌, subst, arith}
use Rattle.base_types.specs.declared.calls.GrainId.{GrainId}
use Rattle.host_trait.specs.declared.channels.Channel.{Channel}
use Rattle.host_trait.specs.declared.channels.FileId.{FileId}
use Rattle.host_trait.specs.declared.channels.FileId.TheVariants.{Manager, Grain}
use Rattle.host_trait.specs.Files.{same_grain}
use Rattle.host_trait.specs.World.{World, Disk, Moment, Emitted, moment_of}
use Rattle.host_trait.specs.Runs.{ChangesFile, RunsOnFile, OnlyAsked}
use Rattle.host_trait.proofs.Moments.{started, one, both, weaker}
use Rattle.host_trait.proofs.Names.{same_grain-refl}
use Rattle.core_model.specs.declared.events.CoreEvent.{CoreEvent}
use Rattle.core_model.specs.declared.events.CoreEvent.TheVariants as event
use Rattle.core_model.specs.declared.events.CoreEvent.TheVariants.{Vote}
use Rattle.core_model.specs.Events.{applies}
use Rattle.core_model.specs.Laws.{extended}
use Rattle.core_model.specs.LegalRuns.{Run, ends}
use Rattle.promise_spec.specs.Causes.{NoneRose, is_no, is_vote, is_vote_of, is_sealed, is_unsealed}
use Rattle.promise_spec.specs.Cores.{how_many}
use Rattle.run_books.specs.Beginnings.{Outset}
use Rattle.run_books.specs.Records.{KeepsFile, CountsCalls}
use Rattle.run_books.proofs.BooksCounts.{one_more, how-more, how-same, how-one}

-- ---- a file that is kept

pub file-still : (file : FileId) (w : World) → KeepsFile file w w
file-still file w = record { moments = started (λ m. m.disk file ≡ w.disk file) w.past; now_is = refl }

pub file-same : (file : FileId) (old now : World) → now ≡ old → KeepsFile file old now
file-same file old now is = subst (λ (w : World). KeepsFile file old w) (sym is) (file-still file old)

pub file-on : (file : FileId) (old mid now : World) → KeepsFile file old mid → KeepsFile file mid now → KeepsFile file old now
file-on file old mid now first second = record {
  moments = both (λ (m : Moment). m.disk file ≡ old.disk file) first.moments
      (weaker (λ (m : Moment). m.disk file ≡ mid.disk file) (λ (m : Moment). m.disk file ≡ old.disk file) (λ m is. is ∙ first.now_is) second.moments);
  now_is = second.now_is ∙ first.now_is;
}

-- by calls that only ask
pub file-asked : (file : FileId) (old now : World) → OnlyAsked old now → KeepsFile file old now
file-asked file old now asked = record {
  moments = weaker (λ (m : Moment). m ≡ moment_of old) (λ (m : Moment). m.disk file ≡ old.disk file) (λ m is. ap (λ (x : Moment). x.disk file) is) asked.moments;
  now_is = ap (λ (d : Disk). d file) asked.disk;
}

-- by calls on another
pub file-beside : (file other : FileId) (R : List ℕ → List ℕ → Type 0) (most : ℕ) (old now : World) → file ≢ other → RunsOnFile other R most old now → KeepsFile file old now
file-beside file other R most old now apart run = record {
  moments = weaker (ChangesFile other R old) (λ (m : Moment). m.disk file ≡ old.disk file) (λ m is. is.others file apart) run.moments;
  now_is = run.now.others file apart;
}

-- by a line that is put out
pub file-emitted : (file : FileId) (n : ℕ) (bytes : List ℕ) (old now : World) → Emitted n bytes old now → KeepsFile file old now
file-emitted file n bytes old now is = record {
  moments = one (λ (m : Moment). m.disk file ≡ old.disk file) old now is.past (ap (λ (d : Disk). d file) is.disk);
  now_is = ap (λ (d : Disk). d file) is.disk;
}

-- ---- the counts

-- an event that votes on no file votes on none of them
pub votes-none : (g : GrainId) (e : CoreEvent) → is_vote e ≡ false → is_vote_of g e ≡ false
votes-none g (event.Bad n why) none = refl
votes-none g (event.Begin origin call plain) none = refl
votes-none g (event.Grant u h mode) none = refl
votes-none g (event.Refuse u h mode) none = refl
votes-none g (event.Finish u effect) none = refl
votes-none g (event.EndPlain u effect) none = refl
votes-none g (event.EndSnapshot u at outcome) none = refl
votes-none g (event.Release u h) none = refl
votes-none g event.Take none = refl
votes-none g (event.Vote n h kept) none = absurd (cc none)
votes-none g (event.Decide n) none = refl
votes-none g (event.Sealed n) none = refl
votes-none g (event.NotSealed n) none = refl
votes-none g (event.Doubt n) none = refl
votes-none g (event.Learn u h) none = refl
votes-none g event.Emitted none = refl
votes-none g event.Halt none = refl
votes-none g (event.Want u h) none = refl
votes-none g (event.Load h u state) none = refl

-- what an event tells of files, where it tells nothing
pub record TellsNoFile (e : CoreEvent) : Type 0 where
  pub no : (g : GrainId) → is_no g e ≡ false
  pub unsealed : is_unsealed e ≡ false
  pub vote : is_vote e ≡ false
  pub sealed : is_sealed e ≡ false
  pub vote_of : (g : GrainId) → is_vote_of g e ≡ false

grain-is : (live : ℕ) (x y : GrainId) → Grain live x ≡ Grain live y → x ≡ y
grain-is live x y q = cc

grain-apart : (live : ℕ) (g h : GrainId) → same_grain g h ≡ false → Grain live h ≢ Grain live g
grain-apart live g h apart q = absurd (let t : true ≡ false = sym (same_grain-refl g) ∙ ap (same_grain g) (sym (grain-is live h g q)) ∙ apart in cc t)

pub not-manager : (live : ℕ) (h : GrainId) → Grain live h ≢ Manager live
not-manager live h q = absurd (cc q)

module _ (o : Outset) (r r' : Run) (old new : Channel → ℕ) (now now' : World) (k : CountsCalls o r old now) where
  -- as many as before, and no grain's file was written
  pub calls-same : (NoneRose o.faults new → NoneRose o.faults old) → how_many is_vote r' ≡ how_many is_vote r → how_many is_sealed r' ≡ how_many is_sealed r → how_many is_unsealed r' ≡ how_many is_unsealed r
      → ((g : GrainId) → how_many (is_vote_of g) r' ≡ how_many (is_vote_of g) r) → now'.syncs ≡ now.syncs → ((g : GrainId) → KeepsFile (Grain o.live g) now now') → CountsCalls o r' new now'
  calls-same back votes seals unsealed votes_of same files = record {
    each = λ none. same ∙ k.each (back none) ∙ (λ i. o.world.syncs + (sym votes i + 2 * sym seals i));
    most = (let m = k.most in omega (arith, m, votes, seals, unsealed, same));
    unvoted = λ g none. file-on (Grain o.live g) o.world now now' (k.unvoted g (sym (votes_of g) ∙ none)) (files g);
  }

-- a vote
module _ (o : Outset) (r : Run) (n : ℕ) (g : GrainId) (said : Bool) (old new : Channel → ℕ) (now now' : World) (R : List ℕ → List ℕ → Type 0) (k : CountsCalls o r old now) (a : applies (ends r) (Vote n g said) ≡ true)
    (run : RunsOnFile (Grain o.live g) R 1 now now') where
  abbrev voted : Run
  voted = extended r (Vote n g said ∷ [])

  less : (h : GrainId) → how_many (is_vote_of h) voted ≡ 0 → how_many (is_vote_of h) r ≡ 0
  less h none = (let more : how_many (is_vote_of h) voted ≡ how_many (is_vote_of h) r + one_more (is_vote_of h) r (Vote n g said) = how-more (is_vote_of h) r (Vote n g said) in omega (arith, more, none))

  apart : (h : GrainId) → how_many (is_vote_of h) voted ≡ 0 → (b : Bool) → same_grain g h ≡ b → Grain o.live h ≢ Grain o.live g
  apart h none true is = absurd (let more : how_many (is_vote_of h) voted ≡ how_many (is_vote_of h) r + 1 = how-one (is_vote_of h) r (Vote n g said) is a in omega (arith, more, none))
  apart h none false is = grain-apart o.live g h is

  few : now'.syncs ≤ o.world.syncs + (how_many is_vote voted + 2 * (how_many is_sealed voted + how_many is_unsealed voted))
  few =
      let m = k.most in
      let s = run.syncs in
      let votes : how_many is_vote voted ≡ how_many is_vote r + 1 = how-one is_vote r (Vote n g said) refl a in
      let seals : how_many is_sealed voted ≡ how_many is_sealed r = how-same is_sealed r (Vote n g said) refl in
      let unsealed : how_many is_unsealed voted ≡ how_many is_unsealed r = how-same is_unsealed r (Vote n g said) refl in
      omega (arith, m, s, votes, seals, unsealed)

  pub calls-vote : (NoneRose o.faults new → now'.syncs ≡ o.world.syncs + (how_many is_vote voted + 2 * how_many is_sealed voted)) → CountsCalls o voted new now'
  calls-vote each = record {
    each = each;
    most = few;
    unvoted = λ h none. file-on (Grain o.live h) o.world now now' (k.unvoted h (less h none)) (file-beside (Grain o.live h) (Grain o.live g) R 1 now now' (apart h none (same_grain g h) refl) run);
  }

-- a batch that was to be sealed
pub calls-seal : (o : Outset) (r r' : Run) (old new : Channel → ℕ) (now now' : World) (R : List ℕ → List ℕ → Type 0) → CountsCalls o r old now
    → how_many is_vote r' ≡ how_many is_vote r → how_many is_sealed r' + how_many is_unsealed r' ≡ how_many is_sealed r + how_many is_unsealed r + 1
    → ((g : GrainId) → how_many (is_vote_of g) r' ≡ how_many (is_vote_of g) r) → RunsOnFile (Manager o.live) R 2 now now'
    → (NoneRose o.faults new → now'.syncs ≡ o.world.syncs + (how_many is_vote r' + 2 * how_many is_sealed r')) → CountsCalls o r' new now'
calls-seal o r r' old new now now' R k votes seals votes_of run each = record {
  each = each;
  most = (let m = k.most in let s = run.syncs in omega (arith, m, s, votes, seals));
  unvoted = λ g none. file-on (Grain o.live g) o.world now now' (k.unvoted g (sym (votes_of g) ∙ none)) (file-beside (Grain o.live g) (Manager o.live) R 2 now now' (not-manager o.live g) run);
}
