use Rattle.std.proofs.Common.{◌⊎◌, List, [], ◌∷◌, take, sym, subst}
use Rattle.promise_spec.specs.Journals.{Settlement, DoubtAt}
use Rattle.promise_laws.specs.RunJournals.{IsDoubtedAt, IsCutShortAt, with_said, journal_line}
use Rattle.promise_laws.proofs.JournalSteps.{doubt_emits_on, doubt_fails_on}
use Rattle.promise_laws.proofs.steps.doubted_journals_are_told.Goals as goal

pub returns-clause-emits : goal.returns-clause-emits
returns-clause-emits c j moved left batch e mid new next at emitted =
    doubt_emits_on j.live j.program j.opening j.old j.said moved left batch e next.one next.proper mid new
    (subst (λ (l : List Settlement). DoubtAt j.live j.program j.opening j.old j.said l batch mid) next.parts at) emitted

pub returns-clause-fails : goal.returns-clause-fails
returns-clause-fails c j moved left batch e n mid new next at emitted =
    subst (λ (l : List Settlement). IsDoubtedAt (with_said j moved left) batch new ⊎ IsCutShortAt (record j { unsaid = l }) (batch ∷ []) (take n (journal_line j e)) new)
    (sym next.parts)
    (doubt_fails_on j.live j.program j.opening j.old j.said moved left batch e next.one next.proper n mid new
    (subst (λ (l : List Settlement). DoubtAt j.live j.program j.opening j.old j.said l batch mid) next.parts at) emitted)
