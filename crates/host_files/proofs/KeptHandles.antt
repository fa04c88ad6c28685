-- Where the handle of a file stands among those that are kept, and what is so of its file.
use Rattle.std.proofs.Common.{◌≡◌, ℕ, ◌<◌, Bool, IsTrue, List, All, length, Some, true, get_or, slice_index_or, position, sym, ◌∙◌, ap, subst}
use Rattle.std.proofs.lemmas.List.Quantifiers.{position-Some}
use Rattle.host_trait.specs.declared.channels.FileId.{FileId}
use Rattle.host_trait.specs.Files.{same_file}
use Rattle.host_trait.proofs.Names.{same_file-is}

-- what stands at the first place that is a file's is of that file
pub is_of_file : {X : Type 0} (file_of : X → FileId) (xs : List X) (file : FileId) (at : ℕ) (x : X)
    → position (λ (k : X). same_file (file_of k) file) xs ≡ Some at → x ≡ slice_index_or xs at x → file_of x ≡ file
is_of_file {X} file_of xs file at x found there =
    let is : same_file (file_of (get_or xs at x)) file ≡ true = (position-Some (λ (k : X). same_file (file_of k) file) xs at x found).1 in
    ap file_of there ∙ same_file-is (file_of (get_or xs at x)) file is

-- what is so of the files of all is so of the file that has a place among them
pub is_so_of_file : {X : Type 0} (file_of : X → FileId) (is_so : FileId → Bool) (xs : List X) (file : FileId) (at : ℕ) (x : X)
    → position (λ (k : X). same_file (file_of k) file) xs ≡ Some at → x ≡ slice_index_or xs at x
    → All (λ (k : X). IsTrue (is_so (file_of k))) xs → IsTrue (is_so file)
is_so_of_file {X} file_of is_so xs file at x found there all =
    let within : at < length xs = (position-Some (λ (k : X). same_file (file_of k) file) xs at x found).0 in
    let one : IsTrue (is_so (file_of (slice_index_or xs at x))) = all at x within in
    subst (λ (f : FileId). IsTrue (is_so f)) (ap file_of (sym there) ∙ is_of_file file_of xs file at x found there) one
