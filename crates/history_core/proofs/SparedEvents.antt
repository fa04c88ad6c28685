-- An event that may want memory isn't spared.
use Rattle.std.proofs.Common.{◌≡◌, true, false, true≢false, refl, sym, ◌∙◌}
use Rattle.std.proofs.lemmas.Bool.{and_parts}
use Rattle.core_model.specs.declared.events.CoreEvent.{CoreEvent}
use Rattle.core_model.specs.declared.events.CoreEvent.TheVariants.{Bad, Begin, Grant, Refuse, Finish, EndPlain, EndSnapshot, Release, Take, Vote, Decide, Sealed, NotSealed, Doubt, Learn, Emitted, Halt, Want, Load}
use Rattle.core_model.specs.Events.{applies}
use Rattle.core_model.specs.LegalRuns.{Run, ends}
use Rattle.core_access.specs.CallsWithoutMemory.{has_room, is_spared}
use Rattle.history_core.specs.Steps.{takes_memory}

no-room : (e : CoreEvent) → takes_memory e ≡ true → has_room e ≡ false
no-room (Bad line why) t = refl
no-room (Begin origin call plain) t = refl
no-room (Grant u g mode) t = refl
no-room (Refuse u g mode) t = refl
no-room (Finish u effect) t = refl
no-room (EndPlain u effect) t = refl
no-room (EndSnapshot u at outcome) t = refl
no-room (Release u g) t = absurd (true≢false (sym t))
no-room Take t = refl
no-room (Vote n g kept) t = absurd (true≢false (sym t))
no-room (Decide n) t = absurd (true≢false (sym t))
no-room (Sealed n) t = absurd (true≢false (sym t))
no-room (NotSealed n) t = absurd (true≢false (sym t))
no-room (Doubt n) t = absurd (true≢false (sym t))
no-room (Learn u g) t = absurd (true≢false (sym t))
no-room Emitted t = absurd (true≢false (sym t))
no-room Halt t = absurd (true≢false (sym t))
no-room (Want u g) t = refl
no-room (Load g u state) t = refl

pub unspared : (r : Run) (e : CoreEvent) → takes_memory e ≡ true → is_spared r e ≡ true → ⊥
unspared r e t spared = true≢false (sym (and_parts (applies (ends r) e) (has_room e) spared).1 ∙ no-room e t)
