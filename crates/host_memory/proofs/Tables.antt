-- Files in a list.
use Rattle.std.proofs.Common.{◌≡◌, ◌≢◌, inl, inr, ℕ, zero, suc, Bool, true, false, if◌then◌else◌, ◌||◌, Option, Some, None, List, [], ◌∷◌, ◌++◌, take, set, get_or, refl, sym, ◌∙◌, ap, subst, arith}
use Rattle.std.proofs.lemmas.Bool.{cases_Bool, false≢true}
use Rattle.host_trait.specs.declared.channels.FileId.{FileId}
use Rattle.host_trait.specs.Files.{same_file}
use Rattle.host_trait.proofs.Names.{same_file-is, same_file-refl, other_file}
use Rattle.host_memory.specs.declared.files.Stored.{Stored}
use Rattle.host_memory.specs.Table.{stored_in, is_stored, bytes_of, written_of, faults_of, is_kept, bytes_in, written_in, faults_in, IsAt, StaysKept, SameBytes, SameFaults}

-- what is under a name
here_is : (e : Stored) (files : List Stored) (f : FileId) → same_file e.file f ≡ true → stored_in (e ∷ files) f ≡ Some e
here_is e files f is = ap (λ (b : Bool). if b then Some e else stored_in files f) is

not_here : (e : Stored) (files : List Stored) (f : FileId) → same_file e.file f ≡ false → stored_in (e ∷ files) f ≡ stored_in files f
not_here e files f other = ap (λ (b : Bool). if b then Some e else stored_in files f) other

none_here : (e : Stored) (files : List Stored) (f : FileId) → stored_in (e ∷ files) f ≡ None → (same_file e.file f ≡ false) × (stored_in files f ≡ None)
none_here e files f none = elim (cases_Bool (same_file e.file f)) [
  | inl is ↦ absurd (false≢true (ap is_stored (sym none ∙ here_is e files f is)))
  | inr other ↦ (other, sym (not_here e files f other) ∙ none)
]

pub none-push : (files : List Stored) (e : Stored) (f : FileId) → stored_in files f ≡ None → same_file e.file f ≡ false → stored_in (files ++ e ∷ []) f ≡ None
none-push [] e f none other = not_here e [] f other
none-push (x ∷ files) e f none other =
    let both = none_here x files f none in
    not_here x (files ++ e ∷ []) f both.0 ∙ none-push files e f both.1 other

pub found : (files : List Stored) (file : FileId) (i : ℕ) (d : Stored) → IsAt files file i → stored_in files file ≡ Some (get_or files i d)
found [] file i d at = absurd (omega (arith, at.within))
found (e ∷ files) file zero d at = here_is e files file (ap (λ (f : FileId). same_file f file) (at.here d) ∙ same_file-refl file)
found (e ∷ files) file (suc i) d at =
    let both = none_here e (take i files) file at.first in
    not_here e files file both.0 ∙ found files file i d (record { within = omega (arith, at.within); first = both.1; here = at.here })

-- what is under each name after an entry is replaced by another of its file
pub replaced : (files : List Stored) (file : FileId) (i : ℕ) (e : Stored) → IsAt files file i → e.file ≡ file → (f : FileId) → stored_in (set files i e) f ≡ (if same_file file f then Some e else stored_in files f)
replaced [] file i e at name f = absurd (omega (arith, at.within))
replaced (x ∷ files) file zero e at name f =
    ap (λ (n : FileId). if same_file n f then Some e else stored_in files f) name
    ∙ elim (cases_Bool (same_file file f)) [
      | inl is ↦ ap (λ (b : Bool). if b then Some e else stored_in files f) is ∙ sym (ap (λ (b : Bool). if b then Some e else stored_in (x ∷ files) f) is)
      | inr other ↦
          ap (λ (b : Bool). if b then Some e else stored_in files f) other
          ∙ sym (not_here x files f (ap (λ (n : FileId). same_file n f) (at.here x) ∙ other)) ∙ sym (ap (λ (b : Bool). if b then Some e else stored_in (x ∷ files) f) other)
    ]
replaced (x ∷ files) file (suc i) e at name f =
    let both = none_here x (take i files) file at.first in
    let later = replaced files file i e (record { within = omega (arith, at.within); first = both.1; here = at.here }) name f in
    elim (cases_Bool (same_file x.file f)) [
      | inr other ↦ not_here x (set files i e) f other ∙ later ∙ ap (λ (o : Option Stored). if same_file file f then Some e else o) (sym (not_here x files f other))
      | inl this ↦
          let apart : same_file file f ≡ false = elim (cases_Bool (same_file file f)) [
            | inr other ↦ other
            | inl is ↦ absurd (false≢true (sym both.0 ∙ subst (λ (n : FileId). same_file x.file n ≡ true) (sym (same_file-is file f is)) this))
          ] in
          here_is x (set files i e) f this ∙ sym (here_is x files f this) ∙ sym (ap (λ (b : Bool). if b then Some e else stored_in (x ∷ files) f) apart)
    ]

-- what is under each name after an entry is put at the end
pub added : (files : List Stored) (e : Stored) → stored_in files e.file ≡ None → (f : FileId) → stored_in (files ++ e ∷ []) f ≡ (if same_file e.file f then Some e else stored_in files f)
added [] e none f = refl
added (x ∷ files) e none f =
    let both = none_here x files e.file none in
    let later = added files e both.1 f in
    elim (cases_Bool (same_file x.file f)) [
      | inr other ↦ not_here x (files ++ e ∷ []) f other ∙ later ∙ ap (λ (o : Option Stored). if same_file e.file f then Some e else o) (sym (not_here x files f other))
      | inl this ↦
          let apart : same_file e.file f ≡ false = elim (cases_Bool (same_file e.file f)) [
            | inr other ↦ other
            | inl is ↦ absurd (false≢true (sym both.0 ∙ subst (λ (n : FileId). same_file x.file n ≡ true) (sym (same_file-is e.file f is)) this))
          ] in
          here_is x (files ++ e ∷ []) f this ∙ sym (here_is x files f this) ∙ sym (ap (λ (b : Bool). if b then Some e else stored_in (x ∷ files) f) apart)
    ]

-- what is read of an entry, where one file's entry is another and all others are the same
pub chosen : {X : Type 0} (read : Option Stored → X) (new old : List Stored) (e : Stored) (file : FileId) → ((f : FileId) → stored_in new f ≡ (if same_file file f then Some e else stored_in old f))
    → (f : FileId) → read (stored_in new f) ≡ (if same_file file f then read (Some e) else read (stored_in old f))
chosen read new old e file change f = ap read (change f) ∙ elim (cases_Bool (same_file file f)) [
  | inl is ↦ ap (λ (b : Bool). read (if b then Some e else stored_in old f)) is ∙ sym (ap (λ (b : Bool). if b then read (Some e) else read (stored_in old f)) is)
  | inr other ↦ ap (λ (b : Bool). read (if b then Some e else stored_in old f)) other ∙ sym (ap (λ (b : Bool). if b then read (Some e) else read (stored_in old f)) other)
]

-- and it is the same for all, where it is the same for this one
pub unchanged : {X : Type 0} (read : Option Stored → X) (new old : List Stored) (e : Stored) (file : FileId) → ((f : FileId) → stored_in new f ≡ (if same_file file f then Some e else stored_in old f))
    → read (Some e) ≡ read (stored_in old file) → (f : FileId) → read (stored_in new f) ≡ read (stored_in old f)
unchanged read new old e file change same f = chosen read new old e file change f ∙ elim (cases_Bool (same_file file f)) [
  | inl is ↦ ap (λ (b : Bool). if b then read (Some e) else read (stored_in old f)) is ∙ same ∙ ap (λ (n : FileId). read (stored_in old n)) (same_file-is file f is)
  | inr other ↦ ap (λ (b : Bool). if b then read (Some e) else read (stored_in old f)) other
]

pub stays_kept : (new old : List Stored) (e : Stored) (file : FileId) → ((f : FileId) → stored_in new f ≡ (if same_file file f then Some e else stored_in old f)) → StaysKept old new
stays_kept new old e file change f kept = elim (cases_Bool (same_file file f)) [
  | inl is ↦ subst (λ (b : Bool). b ≡ true) (sym (chosen is_stored new old e file change f ∙ ap (λ (b : Bool). if b then true else is_stored (stored_in old f)) is)) refl
  | inr other ↦ subst (λ (b : Bool). b ≡ true) (sym (chosen is_stored new old e file change f ∙ ap (λ (b : Bool). if b then true else is_stored (stored_in old f)) other)) kept
]

module _ (files : List Stored) (file : FileId) (i : ℕ) (e new : Stored) (at : IsAt files file i) (held : e ≡ get_or files i e) (name : new.file ≡ e.file) where
  -- what was under the name
  pub was : stored_in files file ≡ Some e
  was = found files file i e at ∙ ap (λ (x : Stored). Some x) (sym held)

  pub named : new.file ≡ file
  named = name ∙ ap (λ (x : Stored). x.file) held ∙ at.here e

  pub set_change : (f : FileId) → stored_in (set files i new) f ≡ (if same_file file f then Some new else stored_in files f)
  set_change = replaced files file i new at named

  pub set_stays : StaysKept files (set files i new)
  set_stays = stays_kept (set files i new) files new file set_change

  pub set_same_bytes : new.bytes.items ≡ e.bytes.items → new.written ≡ e.written → SameBytes files (set files i new)
  set_same_bytes bytes written f = (
    unchanged bytes_of (set files i new) files new file set_change (bytes ∙ sym (ap bytes_of was)) f,
    unchanged written_of (set files i new) files new file set_change (written ∙ sym (ap written_of was)) f,
  )

  pub set_same_faults : new.faults ≡ e.faults → SameFaults files (set files i new)
  set_same_faults faults f = unchanged faults_of (set files i new) files new file set_change (faults ∙ sym (ap faults_of was)) f

  pub set_bytes : (bytes : List ℕ) → new.bytes.items ≡ bytes → (f : FileId) → bytes_in (set files i new) f ≡ (if same_file file f then bytes else bytes_in files f)
  set_bytes bytes is f = chosen bytes_of (set files i new) files new file set_change f ∙ ap (λ (l : List ℕ). if same_file file f then l else bytes_in files f) is

  pub set_written : new.written ≡ true → (f : FileId) → written_in (set files i new) f ≡ (same_file file f || written_in files f)
  set_written is f = chosen written_of (set files i new) files new file set_change f ∙ elim (cases_Bool (same_file file f)) [
    | inl this ↦ ap (λ (b : Bool). if b then new.written else written_in files f) this ∙ is ∙ sym (ap (λ (b : Bool). b || written_in files f) this)
    | inr other ↦ ap (λ (b : Bool). if b then new.written else written_in files f) other ∙ sym (ap (λ (b : Bool). b || written_in files f) other)
  ]

  pub set_faults : faults_in (set files i new) file ≡ new.faults
  set_faults = chosen faults_of (set files i new) files new file set_change file ∙ ap (λ (b : Bool). if b then new.faults else faults_in files file) (same_file-refl file)

  pub set_other_faults : (f : FileId) → f ≢ file → faults_in (set files i new) f ≡ faults_in files f
  set_other_faults f other =
      chosen faults_of (set files i new) files new file set_change f ∙ ap (λ (b : Bool). if b then new.faults else faults_in files f) (other_file file f (λ is. other (sym is)))

module _ (files : List Stored) (e : Stored) (none : stored_in files e.file ≡ None) where
  pub push_kept : is_kept (files ++ e ∷ []) e.file ≡ true
  push_kept = chosen is_stored (files ++ e ∷ []) files e e.file (added files e none) e.file ∙ ap (λ (b : Bool). if b then true else is_kept files e.file) (same_file-refl e.file)

  pub push_stays : StaysKept files (files ++ e ∷ [])
  push_stays = stays_kept (files ++ e ∷ []) files e e.file (added files e none)

  pub push_bytes : e.bytes.items ≡ [] → e.written ≡ false → SameBytes files (files ++ e ∷ [])
  push_bytes bytes written f = (
    unchanged bytes_of (files ++ e ∷ []) files e e.file (added files e none) (bytes ∙ sym (ap bytes_of none)) f,
    unchanged written_of (files ++ e ∷ []) files e e.file (added files e none) (written ∙ sym (ap written_of none)) f,
  )

  pub push_faults : e.faults ≡ 0 → SameFaults files (files ++ e ∷ [])
  push_faults faults f = unchanged faults_of (files ++ e ∷ []) files e e.file (added files e none) (faults ∙ sym (ap faults_of none)) f

-- a file that has an entry is kept
pub at_kept : (files : List Stored) (file : FileId) (i : ℕ) → IsAt files file i → is_kept files file ≡ true
at_kept [] file i at = absurd (omega (arith, at.within))
at_kept (e ∷ files) file i at = ap is_stored (found (e ∷ files) file i e at)
