use Rattle.std.proofs.Common.{◌⊎◌, List, [], take, sym, subst}
use Rattle.promise_spec.specs.Journals.{Settlement, JournalAt}
use Rattle.promise_laws.specs.RunJournals.{IsJournalAt, IsCutShortAt, with_said, journal_line}
use Rattle.promise_laws.proofs.JournalSteps.{cut_is_front, emits_on, fails_on}
use Rattle.promise_laws.proofs.steps.journals_are_told.Goals as goal

pub returns-clause-emits : goal.returns-clause-emits
returns-clause-emits c j moved left e mid new next at emitted =
    emits_on j.live j.program j.opening j.old j.said moved left e next.one next.proper mid new
    (subst (λ (l : List Settlement). JournalAt j.live j.program j.opening j.old j.said l mid) next.parts at) emitted

pub returns-clause-fails : goal.returns-clause-fails
returns-clause-fails c j moved left e n mid new next at emitted =
    subst (λ (l : List Settlement). IsJournalAt (with_said j moved left) new ⊎ IsCutShortAt (record j { unsaid = l }) [] (take n (journal_line j e)) new) (sym next.parts)
    (fails_on j.live j.program j.opening j.old j.said moved left e next.one next.proper n mid new
    (subst (λ (l : List Settlement). JournalAt j.live j.program j.opening j.old j.said l mid) next.parts at) emitted)

pub returns-clause-front : goal.returns-clause-front
returns-clause-front c = cut_is_front
