use Rattle.std.proofs.Common.{◌∙◌, ap, refl, sym}
use Rattle.script_tree.specs.Programs.{program_tree}
use Rattle.std.specs.Prelude.{is_some}
use Rattle.core_model.specs.declared.questions.AskAnswer.{AskAnswer}
use Rattle.core_model.specs.Changes.{refusal}
use Rattle.txn_agent.proofs.AgentCalls.{paused-looks}
use Rattle.txn_agent.proofs.ComposedSteps.{absent_happened, held_happened, inactive_happened, looks_counted, waits_happened}
use Rattle.txn_agent.proofs.WholeSteps.{stepped_ok, stepped_on}
use Rattle.txn_agent.proofs.locks.take_grain.Goals as goal

pub grant_again-requires-clause-counts : goal.grant_again-requires-clause-counts
grant_again-requires-clause-counts g c = looks_counted _ _ _ c.ask_for.ensures.looked c.requires.counts

pub grant_again-requires-clause-paused : goal.grant_again-requires-clause-paused
grant_again-requires-clause-paused g c = paused-looks _ _ _ _ c.requires.counts _ _ _ c.ask_for.ensures.looked c.requires.paused

pub grant_first-requires-clause-counts : goal.grant_first-requires-clause-counts
grant_first-requires-clause-counts g c = looks_counted _ _ _ c.ask_for.ensures.looked c.requires.counts

pub grant_first-requires-clause-paused : goal.grant_first-requires-clause-paused
grant_first-requires-clause-paused g c = paused-looks _ _ _ _ c.requires.counts _ _ _ c.ask_for.ensures.looked c.requires.paused

pub refuse-requires-clause-counts : goal.refuse-requires-clause-counts
refuse-requires-clause-counts g c = looks_counted _ _ _ c.ask_for.ensures.looked c.requires.counts

pub refuse-requires-clause-paused : goal.refuse-requires-clause-paused
refuse-requires-clause-paused g c = paused-looks _ _ _ _ c.requires.counts _ _ _ c.ask_for.ensures.looked c.requires.paused

pub refuse-requires-in-Doomed-clause-counts : goal.refuse-requires-in-Doomed-clause-counts
refuse-requires-in-Doomed-clause-counts g c = looks_counted _ _ _ c.ask_for.ensures.looked c.requires.counts

pub refuse-requires-in-Doomed-clause-paused : goal.refuse-requires-in-Doomed-clause-paused
refuse-requires-in-Doomed-clause-paused g c = paused-looks _ _ _ _ c.requires.counts _ _ _ c.ask_for.ensures.looked c.requires.paused

pub grant_again-requires-clause-again : goal.grant_again-requires-clause-again
grant_again-requires-clause-again g c = sym (c.is_raise.ensures (program_tree c.args.checked.now)) ∙ c.if-is_raise.true

pub grant_first-requires-clause-first : goal.grant_first-requires-clause-first
grant_first-requires-clause-first g c = sym (c.is_raise.ensures (program_tree c.args.checked.now)) ∙ c.if-is_raise.false

pub grant_again-requires-clause-free : goal.grant_again-requires-clause-free
grant_again-requires-clause-free g c = sym c.ask_for.ensures.answer ∙ c.in-Free.is

pub grant_first-requires-clause-free : goal.grant_first-requires-clause-free
grant_first-requires-clause-free g c = sym c.ask_for.ensures.answer ∙ c.in-Free.is

pub refuse-requires-clause-barred : goal.refuse-requires-clause-barred
refuse-requires-clause-barred g c = ap (λ (a : AskAnswer). is_some (refusal c.args.grain a)) (sym c.ask_for.ensures.answer ∙ c.in-MustDie.is)

pub refuse-requires-in-Doomed-clause-barred : goal.refuse-requires-in-Doomed-clause-barred
refuse-requires-in-Doomed-clause-barred g c = ap (λ (a : AskAnswer). is_some (refusal c.args.grain a)) (sym c.ask_for.ensures.answer ∙ c.in-Doomed.is)

pub returns-then-is_raise : goal.returns-then-is_raise
returns-then-is_raise g c = record { stepped = stepped_on c.args.work.kids c.args.work.kids c.args.access.now c.ask_for.new.access c.grant_again.new.access c.grant_again.result refl c.ask_for.ensures.kept c.ask_for.ensures.looked c.grant_again.ensures.stepped }

pub returns-else-is_raise : goal.returns-else-is_raise
returns-else-is_raise g c = record { stepped = stepped_on c.args.work.kids c.args.work.kids c.args.access.now c.ask_for.new.access c.grant_first.new.access c.grant_first.result refl c.ask_for.ensures.kept c.ask_for.ensures.looked c.grant_first.ensures.stepped }

pub returns-in-MustDie : goal.returns-in-MustDie
returns-in-MustDie g c = record { stepped = stepped_on c.args.work.kids c.args.work.kids c.args.access.now c.ask_for.new.access c.refuse.new.access c.refuse.result refl c.ask_for.ensures.kept c.ask_for.ensures.looked c.refuse.ensures.stepped }

pub returns-in-Doomed : goal.returns-in-Doomed
returns-in-Doomed g c = record { stepped = stepped_on c.args.work.kids c.args.work.kids c.args.access.now c.ask_for.new.access c.refuse-in-Doomed.new.access c.refuse-in-Doomed.result refl c.ask_for.ensures.kept c.ask_for.ensures.looked c.refuse-in-Doomed.ensures.stepped }

pub returns-in-MustWait : goal.returns-in-MustWait
returns-in-MustWait g c = record {
  stepped = stepped_ok c.ask_for.ensures.kept
      (waits_happened _ _ _ _ _ _ _ _ c.args.work.kids c.requires.counts c.ask_for.ensures.looked c.requires.paused c.in-MustWait.holder _ c.in-MustWait.is c.ask_for.ensures.answer)
      (paused-looks _ _ _ _ c.requires.counts _ _ _ c.ask_for.ensures.looked c.requires.paused);
}

pub returns-in-NotActive : goal.returns-in-NotActive
returns-in-NotActive g c = record {
  stepped = stepped_ok c.ask_for.ensures.kept
      (inactive_happened _ _ _ _ _ _ _ _ c.args.work.kids c.requires.counts c.ask_for.ensures.looked c.requires.paused _ c.in-NotActive.is c.ask_for.ensures.answer)
      (paused-looks _ _ _ _ c.requires.counts _ _ _ c.ask_for.ensures.looked c.requires.paused);
}

pub returns-in-Held : goal.returns-in-Held
returns-in-Held g c = record {
  stepped = stepped_ok c.ask_for.ensures.kept
      (held_happened _ _ _ _ _ _ _ _ c.args.work.kids c.requires.counts c.ask_for.ensures.looked c.requires.paused _ c.in-Held.is c.ask_for.ensures.answer)
      (paused-looks _ _ _ _ c.requires.counts _ _ _ c.ask_for.ensures.looked c.requires.paused);
}

pub returns-in-Absent : goal.returns-in-Absent
returns-in-Absent g c = record {
  stepped = stepped_ok c.ask_for.ensures.kept
      (absent_happened _ _ _ _ _ _ _ _ c.args.work.kids c.requires.counts c.ask_for.ensures.looked c.requires.paused _ c.in-Absent.is c.ask_for.ensures.answer)
      (paused-looks _ _ _ _ c.requires.counts _ _ _ c.ask_for.ensures.looked c.requires.paused);
}
