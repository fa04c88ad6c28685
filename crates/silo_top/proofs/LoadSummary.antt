-- A summary that is printed, or isn't.
use Rattle.std.proofs.Common.{◌≡◌, ◌≢◌, inl, inr, ℕ, List, [], ◌∷◌, ◌++◌, length, take, drop, refl, sym, ◌∙◌, ap, arith, append-nil, take-append-drop, take_all}
use Rattle.core_model.specs.CoreState.{Member}
use Rattle.host_trait.specs.World.{World, Moment, Ticks, Emitted, moment_of}
use Rattle.promise_spec.specs.Endings as ending
use Rattle.promise_spec.specs.Endings.{Ending}
use Rattle.silo_top.specs.LoadSteps.{SaysSummary}

pub nothing_said : (text : List ℕ) (w : World) → SaysSummary text ending.Memory w w
nothing_said text w = record {
  added = [];
  output = sym (append-nil w.output);
  front = (text, refl);
  whole = λ q. absurd (let t : ⊥ = cc q in t);
  none = λ q. refl;
  input = refl;
  disk = refl;
  syncs = refl;
  told = [];
  past = sym (append-nil w.past);
  left = λ m there. absurd there;
}

-- the moment of the call, or none
ticked : (old new : World) → Ticks old new → new.disk ≡ old.disk → (told : List Moment) × (new.past ≡ old.past ++ told) × ((m : Moment) → Member m told → m.disk ≡ old.disk)
ticked old new (inl tick) disk = (moment_of new ∷ [], tick, λ m there. elim there [ inl here ↦ ap (λ (x : Moment). x.disk) here ∙ disk | inr none ↦ absurd none ])
ticked old new (inr none) disk = ([], none.0 ∙ sym (append-nil old.past), λ m there. absurd there)

pub emitted_so : (text bytes : List ℕ) (e : Ending) (n : ℕ) (old new : World) → bytes ≡ text → Emitted n bytes old new → (e ≡ ending.Done → n ≡ length bytes) → e ≢ ending.Memory → SaysSummary text e old new
emitted_so text bytes e n old new same emitted long other =
    let t = ticked old new emitted.past emitted.disk in
    record {
      added = take n bytes;
      output = emitted.output;
      front = (drop n bytes, sym same ∙ sym (take-append-drop n bytes));
      whole = λ q. ap (λ (k : ℕ). take k bytes) (long q) ∙ take_all (length bytes) bytes (omega arith) ∙ same;
      none = λ q. absurd (other q);
      input = emitted.input;
      disk = emitted.disk;
      syncs = emitted.syncs;
      told = t.0;
      past = t.1;
      left = t.2;
    }
