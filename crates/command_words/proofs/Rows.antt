-- What a use of an argument adds to clap's rows.
use Rattle.std.proofs.Common.{◌≡◌, ◌∙◌, Bool, true, false, List, [], ◌∷◌, ◌++◌, refl, sym, ap, true≢false}
use Rattle.std.specs.Prelude.{unwrap_or}
use Rattle.std.specs.Str.{bytes_eq}
use Rattle.std.proofs.lemmas.Slice.Eq.{bytes_eq-Decides}
use Rattle.clap.specs.Walk.{Row, Text, all_of, with_values}
use Rattle.clap.specs.declared.builder.value_parser.Reading.TheVariants.{AsWritten}
use Rattle.clap.specs.declared.parser.matches.ValueSource.TheVariants.{CommandLine}

-- the values of an argument
abbrev pub values_at : Text → List Row → List Text
values_at id rows = unwrap_or (all_of id rows) []

-- the rows with a value more
abbrev pub with_value : Text → Text → List Row → List Row
with_value id value rows = with_values id AsWritten CommandLine (value ∷ []) rows

-- the argument has it behind the others
pub value_at_own : (id value : Text) (rows : List Row) → bytes_eq id id ≡ true → values_at id (with_value id value rows) ≡ values_at id rows ++ (value ∷ [])
value_at_own id value [] same = rw same refl
value_at_own id value (r ∷ rs) same = go (bytes_eq r.id id) refl (value_at_own id value rs same)
  where
    go : (b : Bool) → bytes_eq r.id id ≡ b → values_at id (with_value id value rs) ≡ values_at id rs ++ (value ∷ [])
        → values_at id (with_value id value (r ∷ rs)) ≡ values_at id (r ∷ rs) ++ (value ∷ [])
    go true e more = rw e (rw e refl)
    go false e more = rw e (rw e more)

-- and no other has
pub value_at_other : (id other value : Text) (rows : List Row) → bytes_eq other id ≡ false → values_at id (with_value other value rows) ≡ values_at id rows
value_at_other id other value [] differ = rw differ refl
value_at_other id other value (r ∷ rs) differ = go (bytes_eq r.id other) refl (bytes_eq r.id id) refl (value_at_other id other value rs differ)
  where
    go : (a : Bool) → bytes_eq r.id other ≡ a → (b : Bool) → bytes_eq r.id id ≡ b → values_at id (with_value other value rs) ≡ values_at id rs
        → values_at id (with_value other value (r ∷ rs)) ≡ values_at id (r ∷ rs)
    go true e true f more =
        let same : r.id ≡ other = (bytes_eq-Decides r.id other).0 e in
        absurd (true≢false (sym f ∙ ap (λ (t : Text). bytes_eq t id) same ∙ differ))
    go true e false f more = rw e (rw f refl)
    go false e true f more = rw e (rw f refl)
    go false e false f more = rw e (rw f more)
