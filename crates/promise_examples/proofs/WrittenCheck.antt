-- The call of `check` that is written out keeps what is promised of it.
use Rattle.std.proofs.Common.{◌≡◌, inl, inr, true, [], refl, sym, subst, lit<, lit≤}
use Rattle.std.specs.Fmt.{digits}
use Rattle.two_silos.specs.GeneratedEvents.{checked}
use Rattle.two_silos.specs.Summaries.{summary_of, line_of}
use Rattle.promise_spec.specs.Words.{Command, Check, Say}
use Rattle.promise_spec.specs.Checks.{Checks}
use Rattle.promise_spec.specs.Calls.{Obeys, Serves}
use Rattle.promise_spec.proofs.Words.{one_command}
use Rattle.promise_examples.specs.HostCalls.{IsHosted}
use Rattle.promise_examples.specs.WrittenCheck.{check_words, check_line, check_call, check_steps}

-- the line of no start
pub line_is : line_of (summary_of 0 (checked 0 1)) ≡ check_line
unfolding digits
line_is = refl

pub check_says : Say (λ g. true) check_words (Check 0 1)
unfolding digits
check_says = record { few = lit≤ tt; small = lit< tt; words_are = refl }

pub check_hosted : IsHosted check_call check_steps
check_hosted = (
  record {
    says = record { count = lit≤ tt; input = refl; output = refl; disk = refl; syncs = refl; past = inl refl };
    counts = λ channel. refl;
  },
  refl,
)

pub check_keeps : Checks 0 1 check_call
check_keeps = record {
  prints = record { added = check_line; output = refl; front = ([], line_is); whole = λ done. sym line_is; none = inr (inl refl) };
  starved = λ want. absurd (cc want);
  once = inl refl;
  files = refl;
  syncs = refl;
  unread = refl;
  ending = inl refl;
  failed = λ channel. refl;
}

pub check_served : Serves check_words (λ c. check_call)
check_served = record {
  obeys = λ c says. subst (λ (d : Command). Obeys d check_call) (one_command (λ g. true) check_words (Check 0 1) c check_says says) check_keeps;
  refuses = λ none. absurd (none (Check 0 1) check_says);
}
