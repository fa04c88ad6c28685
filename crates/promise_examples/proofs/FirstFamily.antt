-- The families of the first deposit's record alone and of no record, and what is shared by the runs that have them.
use Rattle.std.proofs.Common.{◌≡◌, inl, inr, ℕ, zero, suc, ◌<◌, Bool, true, false, List, [], ◌∷◌, Some, refl, sym, subst, arith}
use Rattle.std.specs.Prelude.{slice_get, count_by, ◌&&◌}
use Rattle.base_types.specs.declared.calls.Origin.TheVariants.{Line, Child}
use Rattle.base_types.specs.declared.calls.UnitNo.{UnitNo}
use Rattle.core_model.specs.CoreState.{Member, CoreState}
use Rattle.script_tree.specs.Programs.{ProgramTree}
use Rattle.script_meaning.specs.Play.{unit, play_over}
use Rattle.promise_spec.specs.Records.{Commit, States}
use Rattle.promise_spec.specs.SerialExecution.{IsSerial}
use Rattle.promise_spec.specs.Images.{AreNumbered}
use Rattle.promise_spec.specs.Lines.{IsLineCall}
use Rattle.promise_spec.specs.Cores.{HasBegun}
use Rattle.promise_spec.specs.Family.{AreAnswers, IsUnitOf, IsReached, IsAskedBefore, IsFamily}
use Rattle.promise_examples.specs.Examples.{accounts, unit_no, first_commit, deposit_call, account_program}
use Rattle.promise_spec.proofs.Lists.{none_at}
use Rattle.promise_spec.specs.Entries.{new_silo}

-- the one thing in a list of one
pub only : {A : Type 0} (P : A → Type 0) (x y : A) → P x → Member y (x ∷ []) → P y
only P x y holds_it (inl same) = subst P (sym same) holds_it
only P x y holds_it (inr none) = absurd none

-- either of two
pub either_of : {A : Type 0} (P : A → Type 0) (x y z : A) → P x → P y → Member z (x ∷ y ∷ []) → P z
either_of P x y z first second (inl same) = subst P (sym same) first
either_of P x y z first second (inr there) = only P y z second there

pub only_at : {A : Type 0} (x : A) (i : ℕ) (y : A) → slice_get (x ∷ []) i ≡ Some y → i ≡ 0
only_at x zero y is = refl
only_at x (suc i) y is = absurd (none_at i y is)

pub serial : IsSerial accounts (new_silo account_program).states (first_commit ∷ [])
unfolding unit play_over
serial = (record { result = refl; asked = refl; writes = refl }, tt)

pub numbered : AreNumbered 1 (first_commit ∷ [])
numbered = (omega arith, tt, tt, tt)

pub none_of : (b : Bool) → (b && false) ≡ false
none_of true = refl
none_of false = refl

-- no item passes the test
abbrev pub NonePass : {A : Type 0} → (A → Bool) → List A → Type 0
NonePass test [] = Unit {0}
NonePass test (x ∷ xs) = (test x ≡ false) × NonePass test xs

pub none_counted : {A : Type 0} (test : A → Bool) (xs : List A) → NonePass test xs → count_by test xs ≡ 0
none_counted test [] none = refl
none_counted test (x ∷ xs) none = rw none.0 (none_counted test xs none.1)

line_is : (n : ℕ) → Line 1 ≡ Line n → 1 ≡ n
line_is n same = cc

not_child : (parent : UnitNo) (index depth : ℕ) → Line 1 ≡ Child parent index depth → ⊥
not_child parent index depth same = absurd (cc same)

-- the record comes from line 1
pub family_of : (lines : List (List ℕ)) (w : CoreState) → IsLineCall accounts lines 1 deposit_call → HasBegun w (unit_no 1) → IsUnitOf w first_commit → IsReached accounts lines w (first_commit ∷ []) (unit_no 1)
    → IsFamily accounts lines w (new_silo account_program).states (first_commit ∷ []) (first_commit ∷ [])
family_of lines w asks begun unit_is reached = record {
  line = λ c n there. only (λ (d : Commit). d.logged.origin ≡ Line n → IsLineCall accounts lines n d.logged.call) first_commit c (λ same. subst (λ k. IsLineCall accounts lines k deposit_call) (line_is n same) asks) there;
  one_each = λ c d n there also is too. only (λ (x : Commit). x ≡ d) first_commit c (only (λ (x : Commit). first_commit ≡ x) first_commit d refl also) there;
  answers = λ c there. only (λ (d : Commit). AreAnswers (first_commit ∷ []) d.logged.unit d.logged.answers) first_commit c (λ i answer is. absurd (none_at i answer is)) there;
  younger = λ c parent index depth there. only (λ (d : Commit). d.logged.origin ≡ Child parent index depth → parent.0 < d.logged.unit.0) first_commit c (λ is. absurd (not_child parent index depth is)) there;
  asked = λ c d index depth there also.
      only (λ (x : Commit). x.logged.origin ≡ Child d.logged.unit index depth → IsAskedBefore accounts (new_silo account_program).states (first_commit ∷ []) x d index depth) first_commit c (λ is. absurd (not_child d.logged.unit index depth is)) there;
  units = λ c there. only (IsUnitOf w) first_commit c unit_is there;
  reached = λ c there. only (λ (d : Commit). IsReached accounts lines w (first_commit ∷ []) d.logged.unit) first_commit c reached there;
}

-- no records come from lines whatever they are
pub no_family : (types : ProgramTree) (lines : List (List ℕ)) (w : CoreState) (opening : States) (order : List Commit) → IsFamily types lines w opening order []
no_family types lines w opening order = record {
  line = λ c n none is. absurd none;
  one_each = λ c d n none other is also. absurd none;
  answers = λ c none. absurd none;
  younger = λ c parent index depth none is. absurd none;
  asked = λ c d index depth none other is. absurd none;
  units = λ c none. absurd none;
  reached = λ c none. absurd none;
}
