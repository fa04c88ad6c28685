-- What a call of the whole program promises, by its words.
use Rattle.std.specs.Prelude.{◌≡◌, ◌≢◌, ◌⊎◌, ℕ, Bool, true, List}
use Rattle.host_trait.specs.declared.channels.Channel.{Channel}
use Rattle.host_trait.specs.declared.channels.Channel.TheVariants.{Input, Output}
use Rattle.host_trait.specs.Faults.{NoneFailed}
use Rattle.promise_spec.specs.Words.{GivenOption, Command, Init, Run, Show, History, Audit, Load, Check, Compact, Upgrade, Migrate, Say}
use Rattle.promise_spec.specs.Endings.{Ending, BadUse, Memory, ReadFault, WriteFault, HasRisen, HasFailedAs, MayEndRun, MayEndLoad}
use Rattle.promise_spec.specs.Courses.{Observed}
use Rattle.promise_spec.specs.Promise.{Promises}
use Rattle.promise_spec.specs.Commands.{MakesSilo, Reports, ShowsStates, Audits}
use Rattle.promise_spec.specs.Loads.{Loads}
use Rattle.promise_spec.specs.Checks.{Checks}
use Rattle.promise_spec.specs.Compaction.{Compacts}
use Rattle.promise_spec.specs.Migration.{Migrates}
use Rattle.promise_spec.specs.Upgrading.{UpgradesSilo}

-- what each command promises
abbrev pub Obeys : Command → Observed → Type 0
Obeys Init r = MakesSilo r
Obeys (Run m) r = Promises m r
Obeys Show r = ShowsStates r
Obeys History r = Reports r
Obeys Audit r = Audits r
Obeys (Load n seed m) r = Loads n seed m r
Obeys (Check n seed) r = Checks n seed r
Obeys Compact r = Compacts r
Obeys Upgrade r = UpgradesSilo r
Obeys Migrate r = Migrates r

-- nothing was done: the host is as it was. Only want of memory may come in place of bad use, where the words are read.
pub record IsBadUse (r : Observed) : Type 0 where
  pub ending : (r.ending ≡ BadUse) ⊎ (r.ending ≡ Memory)
  pub unused : r.new ≡ r.old
  pub calm : NoneFailed r.faults_before r.faults_after

-- any option may be given
abbrev pub any_option : GivenOption → Bool
any_option g = true

-- the words say this command
abbrev pub Understands : List (List ℕ) → Command → Type 0
Understands words c = Say any_option words c

-- What the program promises of a call with these words, of which is told what it shows as a call of each command: words that say a
-- command are obeyed, and all others are bad use.
pub record Serves (words : List (List ℕ)) (shown : Command → Observed) : Type 0 where
  pub obeys : (c : Command) → Understands words c → Obeys c (shown c)
  pub refuses : ((c : Command) → Understands words c → ⊥) → (c : Command) → IsBadUse (shown c)

-- a command may go on behind a file's fault and end so: one that carries lines, whose votes and seals may fail, and over a host that
-- doesn't tell what it holds one to which a version is gone that it read at the opening
abbrev pub MayGoOn : Command → Ending → Type 0
MayGoOn (Run m) e = MayEndRun e
MayGoOn (Load n seed m) e = MayEndLoad e
MayGoOn _ e = ⊥

-- What holds over any host, one that tells nothing of what it holds too: the words alone say what is bad use, but for want of
-- memory, and a fault is shown by its count. No failed call is passed over, by want of memory neither: one on the input or the
-- output is named; and where the command doesn't go on behind a file's fault, exactly the call that the ending names failed.
pub record AnswersAs (words : List (List ℕ)) (e : Ending) (old new : Channel → ℕ) : Type 0 where
  pub said : (c : Command) → Understands words c → e ≢ BadUse
  pub other : ((c : Command) → Understands words c → ⊥) → ((e ≡ BadUse) ⊎ (e ≡ Memory)) × NoneFailed old new
  pub risen : HasRisen e old new
  pub input : new Input ≢ old Input → e ≡ ReadFault
  pub output : new Output ≢ old Output → e ≡ WriteFault
  pub exact : (c : Command) → Understands words c → (MayGoOn c e → ⊥) → HasFailedAs e old new
