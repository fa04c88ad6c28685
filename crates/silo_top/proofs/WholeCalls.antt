-- A call of the whole program, by what its words ask for.
use Rattle.std.proofs.Common.{◌≡◌, inl, inr, ℕ, List, [], refl, subst}
use Rattle.host_trait.specs.declared.channels.Channel.{Channel}
use Rattle.host_trait.specs.World.{World}
use Rattle.promise_spec.specs.Words.{plain_manner, Command, Init, Run, Show, History, Audit, Load, Check, Compact, Upgrade, Migrate}
use Rattle.promise_spec.specs.Endings.{Ending, BadUse, Memory, HasFailedAs}
use Rattle.promise_spec.specs.Courses.{Observed}
use Rattle.promise_spec.specs.Calls.{any_option, Understands, Obeys, Serves, AnswersAs, MayGoOn}
use Rattle.bank_load.specs.Requests.{load_texts}
use Rattle.silo_top.specs.declared.status.Status.{Status}
use Rattle.silo_top.specs.CallAnswers.{shown, AnswersRun}
use Rattle.silo_top.proofs.AskedWords.{one_said}
use Rattle.silo_top.proofs.FaultCounts.{failed_risen, failed_input, failed_output}
use Rattle.silo_top.proofs.CheckCalls.{starved_checks}
use Rattle.silo_top.proofs.UnopenedFolders.{starved_promised, starved_made, starved_unopened, starved_migrate, starved_upgrade, starved_unmade}

module _ (texts : List (List ℕ)) where
  -- one command is understood
  one_understood : (c d : Command) → Understands texts c → Understands texts d → c ≡ d
  one_understood c d u v = one_said any_option any_option texts c d u v

  -- ---- words that say a command

  module _ (d : Command) (u : Understands texts d) where
    -- it is served where it is obeyed
    pub obeyed_serves : (shows : Command → Observed) → Obeys d (shows d) → Serves texts shows
    obeyed_serves shows obeys = record {
      obeys = λ c v. subst (λ (e : Command). Obeys e (shows e)) (one_understood d c u v) obeys;
      refuses = λ none. absurd (none d u);
    }

    -- one that names exactly the call that failed
    pub exact_answers : (before after : Channel → ℕ) (e : Ending) → (e ≡ BadUse → ⊥) → HasFailedAs e before after → AnswersAs texts e before after
    exact_answers before after e good exact = record {
      said = λ c v. good;
      other = λ none. absurd (none d u);
      risen = failed_risen before after e exact;
      input = failed_input before after e exact;
      output = failed_output before after e exact;
      exact = λ c v stops. exact;
    }

    -- and one that may go on behind a file's fault
    pub run_answers : (may : Ending → Type 0) (before after : Channel → ℕ) (e : Ending) → (may e → MayGoOn d e) → AnswersRun may e before after → AnswersAs texts e before after
    run_answers may before after e goes a = record {
      said = λ c v. a.good;
      other = λ none. absurd (none d u);
      risen = a.risen;
      input = a.input;
      output = a.output;
      exact = λ c v stops. a.exact (λ begun. subst (λ (x : Command). MayGoOn x e → ⊥) (one_understood c d v u) stops (goes begun));
    }

  -- ---- words that say none

  pub refused_serves : (w : World) (counts : Channel → ℕ) → ((c : Command) → Understands texts c → ⊥) → Serves texts (shown w w counts counts Status.BadUse)
  refused_serves w counts none = record {
    obeys = λ c u. absurd (none c u);
    refuses = λ no c. record { ending = inl refl; unused = refl; calm = λ channel. refl };
  }

  pub refused_answers : (counts : Channel → ℕ) → ((c : Command) → Understands texts c → ⊥) → AnswersAs texts BadUse counts counts
  refused_answers counts none = record {
    said = λ c u. absurd (none c u);
    other = λ no. (inl refl, λ c. refl);
    risen = tt;
    input = λ other. absurd (other refl);
    output = λ other. absurd (other refl);
    exact = λ c u stops. λ d. refl;
  }

  -- where memory is wanting while the words are read
  pub starved_serves : (w : World) (counts : Channel → ℕ) → Serves texts (shown w w counts counts Status.Memory)
  starved_serves w counts = record {
    obeys = λ c u. obeys c;
    refuses = λ no c. record { ending = inr refl; unused = refl; calm = λ channel. refl };
  }
    where
      obeys : (c : Command) → Obeys c (shown w w counts counts Status.Memory c)
      obeys Init = starved_made plain_manner [] w counts
      obeys (Run n) = starved_promised n w counts
      obeys Show = inl (starved_unopened plain_manner [] w counts)
      obeys History = inl (starved_unopened plain_manner [] w counts)
      obeys Audit = inl (starved_unopened plain_manner [] w counts)
      obeys (Load k seed n) = record { manner = refl; windowed = refl; answers = inl (starved_unmade n (load_texts k seed) w counts) }
      obeys (Check n seed) = starved_checks n seed plain_manner [] w counts
      obeys Compact = inl (starved_unopened plain_manner [] w counts)
      obeys Upgrade = inl (starved_upgrade plain_manner [] w counts)
      obeys Migrate = inl (starved_migrate plain_manner [] w counts)

  pub starved_answers : (counts : Channel → ℕ) → AnswersAs texts Memory counts counts
  starved_answers counts = record {
    said = λ c u q. cc q;
    other = λ no. (inr refl, λ c. refl);
    risen = tt;
    input = λ other. absurd (other refl);
    output = λ other. absurd (other refl);
    exact = λ c u stops. λ d. refl;
  }
