-- What a body says is read exactly where it is spelled.
use Rattle.std.proofs.Common.{◌≡◌, ℕ, ◌<◌, ◌≤◌, ◌^◌, ltb, List, ◌++◌, length, refl, sym, arith, eqb, eqb-true}
use Rattle.std.specs.Int.{w32, to_le_bytes}
use Rattle.std.specs.List.{flat_map, AllByRecursion}
use Rattle.std.proofs.lemmas.Bool.{ltb-true, ltb-false, eqb-false}
use Rattle.base_types.specs.declared.shapes.Shape.{Shape}
use Rattle.field_codec.specs.declared.faults.CodecFault.TheVariants.{Over}
use Rattle.field_codec.specs.declared.formats.Format.{Format}
use Rattle.field_codec.specs.declared.units.Numbers.{Numbers}
use Rattle.field_codec.specs.Readers.{whole, refused, field, choice, number_at, times, program_at}
use Rattle.field_codec.proofs.Readers.{Reads, Any, then, choose, never, said, put_in, put_fit, known_fits}
use Rattle.field_codec.proofs.Chains.{times_reads}
use Rattle.field_codec.proofs.Counts.{reads32, program_reads}
use Rattle.commit_log.specs.declared.records.CommitRecord.{CommitRecord}
use Rattle.commit_log.specs.Spelling.{spelling_of_record}
use Rattle.commit_log.specs.Bodies.{IsRecordIn}
use Rattle.commit_log.specs.Fields.{record_in}
use Rattle.commit_log.proofs.Fields.{record_reads}
use Rattle.commit_log.specs.declared.contents.Body.{Body}
use Rattle.commit_log.specs.declared.contents.Body.TheVariants.{Records, Upgrade}
use Rattle.field_codec.specs.Spelling.{spelling_of_program, ProgramFits}
use Rattle.commit_log.specs.Contents.{upgrade_mark, spelling_of_content, IsContentIn, content_in}

module _ (f : Format) (numbers : Numbers) (shape : Shape) where
  abbrev mark_of : Body → ℕ
  mark_of (Records records) = length records
  mark_of (Upgrade text) = upgrade_mark

  abbrev behind_mark : Body → List ℕ
  behind_mark (Records records) = flat_map spelling_of_record records
  behind_mark (Upgrade text) = spelling_of_program text

  content_marked : (b : Body) → to_le_bytes w32 (mark_of b) ++ behind_mark b ≡ spelling_of_content b
  content_marked (Records records) = refl
  content_marked (Upgrade text) = refl

  abbrev Says : Body → Type 0
  Says b = IsContentIn f numbers shape b

  mark_small : (b : Body) → Says b → mark_of b < 2 ^ 32
  mark_small (Records records) fits = let few = fits.0 in omega (arith, few)
  mark_small (Upgrade text) fits = omega arith

  abbrev Marked : ℕ → Body → Type 0
  Marked n b = Any b × (mark_of b ≡ n)

  is_upgrade : (n : ℕ) → n ≡ upgrade_mark → (b : Body) → Marked n b → Says b → (t : List ℕ) × (b ≡ Upgrade t) × ProgramFits t
  is_upgrade n is (Records records) known fits = absurd (let few = fits.0 in omega (arith, is, known.1, few))
  is_upgrade n is (Upgrade text) known fits = (text, refl, fits)

  abbrev AreSo : ℕ → List CommitRecord → Type 0
  AreSo n records = (Any records × (length records ≡ n)) × AllByRecursion (IsRecordIn f numbers shape) records

  are_records : (n : ℕ) → (n ≡ upgrade_mark → ⊥) → (b : Body) → Marked n b → Says b → (rs : List CommitRecord) × (b ≡ Records rs) × AreSo n rs
  are_records n not (Records records) known fits = (records, refl, (known, fits.1))
  are_records n not (Upgrade text) known fits = absurd (not (sym known.1))

  no_content : (n : ℕ) → (n ≡ upgrade_mark → ⊥) → 64 < n → (b : Body) → Marked n b → Says b → ⊥
  no_content n not many (Records records) known fits = let few = fits.0 in omega (arith, many, known.1, few)
  no_content n not many (Upgrade text) known fits = not (sym known.1)

  content_behind : (n from : ℕ) → Reads from (Marked n) behind_mark Says
      (choice (eqb n upgrade_mark) (field program_at λ text here. whole (Upgrade text))
      (choice (ltb 64 n) (refused (Over from 64)) (field (times (record_in f numbers shape) n) λ records here. whole (Records records))))
  content_behind n from =
      choose from (Marked n) behind_mark Says (eqb n upgrade_mark) _ _
      (λ yes0. let is = eqb-true n upgrade_mark yes0 in
      put_in Upgrade spelling_of_program ProgramFits program_at from (Marked n) behind_mark Says (is_upgrade n is) (λ t. (tt, sym is)) (λ t fits. refl) (λ t fits. fits) (program_reads from))
      (λ no0. let not = eqb-false n upgrade_mark no0 in
      choose from (Marked n) behind_mark Says (ltb 64 n) _ _
      (λ over. never from (Marked n) behind_mark Says (Over from 64) (omega arith) (no_content n not (ltb-true _ _ over)))
      (λ within. let few : n ≤ 64 = ltb-false _ _ within in
      put_fit Records (flat_map spelling_of_record) (AreSo n) (times (record_in f numbers shape) n) from (Marked n) behind_mark Says (are_records n not) (λ rs fits. (tt, fits.0.1)) (λ rs fits. refl) (λ rs fits. (omega (arith, few, fits.0.1), fits.1))
      (known_fits from (λ cs. Any cs × (length cs ≡ n)) (flat_map spelling_of_record) (AllByRecursion (IsRecordIn f numbers shape)) (times (record_in f numbers shape) n) (times_reads spelling_of_record (IsRecordIn f numbers shape) (record_in f numbers shape) (record_reads f numbers shape) from n))))

  pub content_reads : (low : ℕ) → Reads low Any spelling_of_content Says (content_in f numbers shape)
  unfolding content_in
  content_reads low =
      said low Any Any (λ b. to_le_bytes w32 (mark_of b) ++ behind_mark b) spelling_of_content (λ b. (mark_of b < 2 ^ 32) × Says b) Says (content_in f numbers shape)
      (λ b p. tt) (λ b p. tt) (λ b p. content_marked b) (λ b p fits. fits.1) (λ b p fits. (mark_small b fits, fits))
      (then mark_of (to_le_bytes w32) (λ n. n < 2 ^ 32) (number_at w32) low Any behind_mark Says _ (reads32 low) content_behind)
