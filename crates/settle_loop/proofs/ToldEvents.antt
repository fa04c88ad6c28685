-- How an event is told, and counted.
use Rattle.std.proofs.Common.{◌≡◌, ◌⊎◌, Bool, true, false, refl, sym, ap, subst, ◌∙◌}
use Rattle.std.proofs.lemmas.Bool.{and_right}
use Rattle.std.specs.Prelude.{Result, Ok, Err, IsErr, ◌&&◌, ◌||◌, if◌then◌else◌}
use Rattle.core_model.specs.declared.events.CoreEvent.{CoreEvent}
use Rattle.core_model.specs.declared.events.CoreReply.{CoreReply}
use Rattle.core_access.specs.Sights.{Sight, Looks, Tells}
use Rattle.settle_loop.specs.ShownWork.{has_applied, counted_up}
use Rattle.settle_loop.specs.SettlerStep.{state_shown, has_unwritten, LooksOn}
use Rattle.settle_loop.specs.StepParts.{counting, IsTold, IsToldInDoubt, IsUnput, ToldAs}
use Rattle.settle_loop.specs.declared.settler.Settler.{Settler}
use Rattle.settle_loop.specs.declared.settler.Turned.{Turned}

-- counted, where it applied or not
abbrev counting_if : Bool → Bool → Bool → Settler → Settler
counting_if writes doubts applied s = record s {
  written = (if writes && applied then counted_up s.written else s.written);
  doubted = (s.doubted || (doubts && applied));
}

is_counted : (writes doubts : Bool) (s : Settler) → record s { written = (if writes then counted_up s.written else s.written); doubted = (s.doubted || doubts) } ≡ counting_if writes doubts true s
is_counted true true s = refl
is_counted true false s = refl
is_counted false true s = refl
is_counted false false s = refl

-- or not at all
or_none : (b : Bool) → b ≡ (b || false)
or_none true = refl
or_none false = refl

isnt_counted : (writes doubts : Bool) (s : Settler) → s ≡ counting_if writes doubts false s
isnt_counted true true s = ap (λ (b : Bool). record s { doubted = b }) (or_none s.doubted)
isnt_counted true false s = ap (λ (b : Bool). record s { doubted = b }) (or_none s.doubted)
isnt_counted false true s = ap (λ (b : Bool). record s { doubted = b }) (or_none s.doubted)
isnt_counted false false s = ap (λ (b : Bool). record s { doubted = b }) (or_none s.doubted)

module _ (may_come : CoreEvent → Bool) (e : CoreEvent) (writes doubts : Bool) (before after : Settler) (s mid : Sight) (r : CoreReply) (told : Tells may_come s e r mid) where
  -- it didn't apply
  pub told_in_vain : has_applied r ≡ false → after ≡ before → IsTold may_come e writes doubts before after s mid r mid × LooksOn may_come (after.doubted && has_applied r) mid mid
  told_in_vain vain is = (
    record { told = told; counts = is ∙ (isnt_counted writes doubts before ∙ ap (λ (b : Bool). counting_if writes doubts b before) (sym vain)) },
    subst (λ (b : Bool). LooksOn may_come b mid mid) (sym (and_right after.doubted (has_applied r) vain)) refl,
  )

  module _ (applied : has_applied r ≡ true) (is : after ≡ record before { written = (if writes then counted_up before.written else before.written); doubted = (before.doubted || doubts) }) where
    counts : after ≡ counting writes doubts r before
    counts = is ∙ (is_counted writes doubts before ∙ ap (λ (b : Bool). counting_if writes doubts b before) (sym applied))

    -- no doubt of the settler stands
    pub told_calmly : after.doubted ≡ false → IsTold may_come e writes doubts before after s mid r mid × LooksOn may_come (after.doubted && has_applied r) mid mid
    told_calmly calm = (record { told = told; counts = counts }, subst (λ (b : Bool). LooksOn may_come (b && has_applied r) mid mid) (sym calm) refl)

    module _ (doubtful : after.doubted ≡ true) (t : Sight) (looked : Looks may_come mid t) where
      pub told_doubt : IsToldInDoubt may_come e writes doubts before after s t r mid
      told_doubt = record { put = record { told = told; counts = counts }; applied = applied; doubts_now = doubtful; looked = looked }

      -- an entry isn't written
      pub told_more : has_unwritten (state_shown t) ≡ true → IsTold may_come e writes doubts before after s t r mid × LooksOn may_come (after.doubted && has_applied r) mid t
      told_more some = (
        record { told = told; counts = counts },
        subst (λ (b : Bool). LooksOn may_come (b && has_applied r) mid t) (sym doubtful) (subst (λ (b : Bool). LooksOn may_come b mid t) (sym applied) (looked, some)),
      )

-- it isn't told, or not whether all is written
pub none_told : (may_come : CoreEvent → Bool) (e : CoreEvent) (writes doubts : Bool) (before after : Settler) (s t : Sight) {E : Type 0} (r : Result Turned E) → IsErr r
    → IsUnput may_come e writes doubts before after s t ⊎ ((y : CoreReply) × ((mid : Sight) × IsToldInDoubt may_come e writes doubts before after s t y mid)) → ToldAs may_come e writes doubts before after s t r
none_told may_come e writes doubts before after s t (Ok x) err why = absurd (cc err)
none_told may_come e writes doubts before after s t (Err lack) err why = why
