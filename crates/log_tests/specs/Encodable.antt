-- What a body says that has a spelling.
use Rattle.std.specs.Prelude.{◌≤◌, length}
use Rattle.std.specs.List.{AllByRecursion}
use Rattle.commit_log.specs.EncodableRecords.{MaySpell}
use Rattle.commit_log.specs.declared.contents.Body.{Body}
use Rattle.commit_log.specs.declared.contents.Body.TheVariants.{Records, Upgrade}

-- at most 64 records, each of which has one, or a text of at most 262,144 bytes
abbrev pub IsEncodable : Body → Type 0
IsEncodable (Records records) = (length records ≤ 64) × AllByRecursion MaySpell records
IsEncodable (Upgrade text) = length text ≤ 262144
