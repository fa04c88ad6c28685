-- What a worker puts is none of the settler's events, no stop and no load.
use Rattle.std.proofs.Common.{◌≡◌, List, true, false, true≢false, refl, sym, ap, ◌∙◌}
use Rattle.base_types.specs.declared.calls.Origin.TheVariants.{Line, Child}
use Rattle.core_model.specs.declared.events.CoreEvent.{CoreEvent}
use Rattle.core_model.specs.declared.events.CoreEvent.TheVariants.{Bad, Begin, Grant, Refuse, Finish, EndPlain, EndSnapshot, Release, Take, Vote, Decide, Sealed, NotSealed, Doubt, Learn, Emitted, Halt, Want, Load}
use Rattle.core_model.specs.CoreState.{UnitNo, GrainId, Value}
use Rattle.core_access.specs.SettlerEvents.{is_settling}
use Rattle.worker_rules.specs.Work.{is_work}

-- an event of the settler's is no worker's
pub work-settles : (e : CoreEvent) → is_work e ≡ true → is_settling e ≡ false
work-settles (Bad line why) q = refl
work-settles (Begin (Line n) call plain) q = refl
work-settles (Begin (Child parent index depth) call plain) q = refl
work-settles (Grant u g mode) q = refl
work-settles (Refuse u g mode) q = refl
work-settles (Finish u effect) q = refl
work-settles (EndPlain u effect) q = refl
work-settles (EndSnapshot u at outcome) q = refl
work-settles (Release u g) q = refl
work-settles Take q = absurd (true≢false (sym q))
work-settles (Vote n g kept) q = absurd (true≢false (sym q))
work-settles (Decide n) q = absurd (true≢false (sym q))
work-settles (Sealed n) q = absurd (true≢false (sym q))
work-settles (NotSealed n) q = absurd (true≢false (sym q))
work-settles (Doubt n) q = absurd (true≢false (sym q))
work-settles (Learn u g) q = absurd (true≢false (sym q))
work-settles Emitted q = absurd (true≢false (sym q))
work-settles Halt q = absurd (true≢false (sym q))
work-settles (Want u g) q = refl
work-settles (Load g u state) q = absurd (true≢false (sym q))

-- nor is a stop
pub work-stops : (e : CoreEvent) → is_work e ≡ true → e ≡ Halt → ⊥
work-stops e q is = true≢false (sym q ∙ ap is_work is)

-- nor is a load
pub work-loads : (e : CoreEvent) (g : GrainId) (u : UnitNo) (state : List Value) → is_work e ≡ true → e ≡ Load g u state → ⊥
work-loads e g u state q is = true≢false (sym q ∙ ap is_work is)
