-- The steps of `upgrade`: a text was read, and the block of an upgrade to it was sealed.
use Rattle.std.specs.Prelude.{◌≡◌, ℕ, ◌+◌, List, [], ◌∷◌, ◌++◌, length}
use Rattle.host_trait.specs.declared.channels.FileId.TheVariants.{Manager}
use Rattle.host_trait.specs.World.{World, Passes, moment_of}
use Rattle.field_codec.specs.declared.formats.Format.TheVariants.{Two}
use Rattle.gate_block.specs.Blocks.{block_of}
use Rattle.gate_block.specs.Log.{EachLogs, EachLogsOrMore}
use Rattle.commit_log.specs.Sessions.{spelling_with_session}
use Rattle.commit_log.specs.declared.contents.Body.TheVariants.{Upgrade}

-- The input was this text and was read to its end, and beside that nothing changed.
pub record HasReadText (text : List ℕ) (old new : World) : Type 0 where
  pub input : old.input ≡ text
  pub end : new.input ≡ []
  pub output : new.output ≡ old.output
  pub disk : new.disk ≡ old.disk
  pub syncs : new.syncs ≡ old.syncs
  pub moments : Passes (λ m. m ≡ moment_of old) old.past new.past

-- the body of an upgrade to this text, in this session
abbrev pub upgrade_body : ℕ → List ℕ → List ℕ
upgrade_body session text = spelling_with_session Two session (Upgrade text)

-- its block
abbrev pub upgrade_block : ℕ → List ℕ → List ℕ
upgrade_block session text = block_of (upgrade_body session text)

-- At each moment, and now, each image of the slot's manager file has these bodies as its log, or the upgrade's behind them.
pub record LogsOrUpgrades (slot gate session : ℕ) (text : List ℕ) (bodies : List (List ℕ)) (old new : World) : Type 0 where
  pub moments : Passes (λ m. EachLogsOrMore bodies (upgrade_body session text) gate (Manager slot) m.disk) old.past new.past
  pub now : EachLogsOrMore bodies (upgrade_body session text) gate (Manager slot) new.disk

-- so it is where each had them
abbrev pub SealsText : ℕ → ℕ → ℕ → List ℕ → World → World → Type 0
SealsText slot gate session text old new = (bodies : List (List ℕ)) → EachLogs bodies gate (Manager slot) old.disk → LogsOrUpgrades slot gate session text bodies old new

-- Where each had them, each has the upgrade's behind them now; two syncs were asked for.
pub record HasSealedText (slot gate session : ℕ) (text : List ℕ) (old new : World) : Type 0 where
  pub count : new.syncs ≡ old.syncs + 2
  pub logs : (bodies : List (List ℕ)) → EachLogs bodies gate (Manager slot) old.disk → EachLogs (bodies ++ upgrade_body session text ∷ []) (gate + length (upgrade_block session text)) (Manager slot) new.disk
