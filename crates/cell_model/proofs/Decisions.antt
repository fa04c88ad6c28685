-- Decisions of a batch.
use Rattle.std.proofs.Common.{◌≡◌, suc, List, [], ◌∷◌, ◌++◌, length, Bool, true, false, inl, inr, refl, sym, ap, ◌∙◌, subst, Option, Some, None, filter}
use Rattle.std.proofs.lemmas.Bool.{cases_Bool}
use Rattle.cell_model.specs.Units.{UnitNo, GrainId, Member, oldest}
use Rattle.cell_model.specs.Decisions.{Prepared, Commit, by_cause, decision, all_decided, and_itself}
use Rattle.cell_model.specs.Laws.{fallen, CommitsExactly, DecidesInOrder}
use Rattle.cell_model.proofs.Units.{filter-member, filter-stays, oldest-some, oldest-none}

pub decided-length : (dead : UnitNo → Bool) (batch : List Prepared) → length (all_decided dead batch) ≡ length batch
decided-length dead [] = refl
decided-length dead (p ∷ ps) = ap suc (decided-length (and_itself dead p) ps)

-- no unit of the list is dead
pub none-dead : (dead : UnitNo → Bool) (us : List UnitNo) → oldest (filter dead us) ≡ None → (d : UnitNo) → Member d us → dead d ≡ false
none-dead dead us e d m = elim (cases_Bool (dead d)) [
  | inl t ↦ absurd (subst (Member d) (oldest-none (filter dead us) e) (filter-stays dead us d m t))
  | inr t ↦ t
]

pub some-dead : (dead : UnitNo → Bool) (us : List UnitNo) (d : UnitNo) → oldest (filter dead us) ≡ Some d → Member d us × (dead d ≡ true)
some-dead dead us d e = filter-member dead us d (oldest-some (filter dead us) d e).0

pub commits-exactly : (dead : UnitNo → Bool) (p : Prepared) → CommitsExactly dead p
commits-exactly dead p = (to p.failed refl (oldest (filter dead p.deps)) refl, from p.failed refl (oldest (filter dead p.deps)) refl)
  where
    to : (f : Option GrainId) → p.failed ≡ f → (o : Option UnitNo) → oldest (filter dead p.deps) ≡ o → by_cause f o ≡ Commit → (f ≡ None) × ((d : UnitNo) → Member d p.deps → dead d ≡ false)
    to (Some g) q None e c = cc
    to (Some g) q (Some d) e c = cc
    to None q None e c = (refl, none-dead dead p.deps e)
    to None q (Some d) e c = cc

    from : (f : Option GrainId) → p.failed ≡ f → (o : Option UnitNo) → oldest (filter dead p.deps) ≡ o → (f ≡ None) × ((d : UnitNo) → Member d p.deps → dead d ≡ false) → by_cause f o ≡ Commit
    from (Some g) q o e t = (let z : Some g ≡ None = t.0 in cc)
    from None q None e t = refl
    from None q (Some d) e t = (let h = some-dead dead p.deps d e in let z : true ≡ false = sym h.1 ∙ t.1 d h.0 in cc)

fallen-more : (dead : UnitNo → Bool) (ps : List Prepared) (p : Prepared) → fallen dead (ps ++ p ∷ []) ≡ and_itself (fallen dead ps) p
fallen-more dead [] p = refl
fallen-more dead (q ∷ ps) p = fallen-more (and_itself dead q) ps p

pub in-order : (dead : UnitNo → Bool) (before : List Prepared) (p : Prepared) (later : List Prepared) → DecidesInOrder dead before p later
in-order dead [] p later = refl
in-order dead (q ∷ before) p later = ap (λ t. decision dead q ∷ t) (in-order (and_itself dead q) before p later)
