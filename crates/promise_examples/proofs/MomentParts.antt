-- What holds at the first moment that counts, at those between and at the exit, holds at each; and other files stay.
use Rattle.std.proofs.Common.{inl, inr, List, [], ◌∷◌, ◌++◌, refl}
use Rattle.std.specs.List.{AllByRecursion}
use Rattle.core_model.specs.CoreState.{Member}
use Rattle.host_trait.specs.World.{Moment}
use Rattle.promise_spec.proofs.Lists.{each_of, in_append, both_parts}

-- the moments that count, where those after the opening are some between and the exit
abbrev pub all_counted : Moment → List Moment → Moment → List Moment
all_counted opened between exit = opened ∷ ((between ++ exit ∷ []) ++ exit ∷ [])

pub at_each : (P : Moment → Type 0) (opened : Moment) (between : List Moment) (exit : Moment) → P opened → AllByRecursion P between → P exit → (m : Moment) → Member m (all_counted opened between exit) → P m
at_each P opened between exit first each last m there =
    each_of P (all_counted opened between exit) m (first, both_parts P (between ++ exit ∷ []) (exit ∷ []) (both_parts P between (exit ∷ []) each (last, tt)) (last, tt)) there

-- the exit is the last of them
pub exit_there : (opened : Moment) (between : List Moment) (exit : Moment) → Member exit (all_counted opened between exit)
exit_there opened between exit = inr (in_append exit (between ++ exit ∷ []) (exit ∷ []) (inr (inl refl)))

-- what holds of all holds of all where it's less
pub all_less : {A : Type 0} (P Q : A → Type 0) (xs : List A) → ((x : A) → P x → Q x) → AllByRecursion P xs → AllByRecursion Q xs
all_less P Q [] less all = tt
all_less P Q (x ∷ xs) less all = (less x all.0, all_less P Q xs less all.1)
