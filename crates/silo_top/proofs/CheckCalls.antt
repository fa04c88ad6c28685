-- A check, as a call shows it.
use Rattle.std.proofs.Common.{◌≡◌, inl, inr, ℕ, List, [], ◌++◌, length, take, drop, refl, sym, ◌∙◌, ap, append-nil, take-append-drop, take_all, arith}
use Rattle.host_trait.specs.declared.channels.Channel.{Channel}
use Rattle.host_trait.specs.declared.channels.Channel.TheVariants.{Output}
use Rattle.host_trait.specs.Faults.{NoneFailed, FailedOn}
use Rattle.host_trait.specs.World.{World, Emitted}
use Rattle.two_silos.specs.GeneratedEvents.{checked}
use Rattle.two_silos.specs.Summaries.{summary_of, line_of}
use Rattle.promise_spec.specs.Words.{Manner}
use Rattle.promise_spec.specs.Checks.{Checks}
use Rattle.silo_top.specs.declared.status.Status.{Status}
use Rattle.silo_top.proofs.ShownCalls.{observed_call}

-- the line that it prints
abbrev line : ℕ → ℕ → List ℕ
line n seed = line_of (summary_of n (checked n seed))

-- where memory is wanting nothing is done
pub starved_checks : (n seed : ℕ) (m : Manner) (asked : List (List ℕ)) (w : World) (counts : Channel → ℕ) → Checks n seed (observed_call m asked w w counts counts Status.Memory)
starved_checks n seed m asked w counts = record {
  prints = record {
    added = [];
    output = sym (append-nil w.output);
    front = (line n seed, refl);
    whole = λ q. absurd (let t : ⊥ = cc q in t);
    none = inl refl;
  };
  starved = λ q. refl;
  once = inr (refl, refl);
  files = refl;
  syncs = refl;
  unread = refl;
  ending = inr (inl refl);
  failed = λ channel. refl;
}

-- all is printed
pub printed_checks : (n seed : ℕ) (m : Manner) (asked : List (List ℕ)) (bytes : List ℕ) (old new : World) (before after : Channel → ℕ) → bytes ≡ line n seed → Emitted (length bytes) bytes old new → NoneFailed before after
    → Checks n seed (observed_call m asked old new before after Status.Done)
printed_checks n seed m asked bytes old new before after is emitted calm =
    let all : take (length bytes) bytes ≡ line n seed = take_all (length bytes) bytes (omega arith) ∙ is in
    record {
      prints = record {
        added = line n seed;
        output = emitted.output ∙ ap (λ (l : List ℕ). old.output ++ l) all;
        front = ([], sym (append-nil (line n seed)));
        whole = λ q. refl;
        none = inr (inl refl);
      };
      starved = λ q. absurd (let t : ⊥ = cc q in t);
      once = emitted.past;
      files = emitted.disk;
      syncs = emitted.syncs;
      unread = emitted.input;
      ending = inl refl;
      failed = calm;
    }

-- the output failed, and may have a part of it
pub cut_checks : (n seed : ℕ) (m : Manner) (asked : List (List ℕ)) (bytes : List ℕ) (count : ℕ) (old new : World) (before after : Channel → ℕ) → bytes ≡ line n seed → Emitted count bytes old new → FailedOn Output before after
    → Checks n seed (observed_call m asked old new before after Status.WriteFault)
cut_checks n seed m asked bytes count old new before after is emitted failed = record {
  prints = record {
    added = take count bytes;
    output = emitted.output;
    front = (drop count bytes, sym is ∙ sym (take-append-drop count bytes));
    whole = λ q. absurd (let t : ⊥ = cc q in t);
    none = inr (inr tt);
  };
  starved = λ q. absurd (let t : ⊥ = cc q in t);
  once = emitted.past;
  files = emitted.disk;
  syncs = emitted.syncs;
  unread = emitted.input;
  ending = inr (inr refl);
  failed = failed;
}
