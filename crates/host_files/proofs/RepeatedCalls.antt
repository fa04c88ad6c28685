-- Calls that are made again and again, and what the system has answered by then.
use Rattle.std.proofs.Common.{◌≡◌, ◌≢◌, ℕ, ◌+◌, ◌-◌, ◌^◌, ◌<◌, ◌≤◌, Bool, refl, sym, ◌∙◌, ap, arith}
use Rattle.system_calls.specs.Answers.{AnswerCounts, WasRefused, interrupted_once, stood_in_once}
use Rattle.host_files.specs.UnfailingCalls.{WentWell, WasObeyed}

-- So many turns made so much progress: none was refused, and each turn that made none was interrupted.
pub record TookTurns (turn moved : ℕ) (old now : AnswerCounts) : Type 0 where
  pub unrefused : now.refusals ≡ old.refusals
  pub stood : now.stand_ins ≡ old.stand_ins
  pub entries : now.has_lost_entries ≡ old.has_lost_entries
  pub later : old.interruptions ≤ now.interruptions
  pub turns : turn + old.interruptions ≤ now.interruptions + moved

pub turned_none : (old : AnswerCounts) → TookTurns 0 0 old old
turned_none old = record { unrefused = refl; stood = refl; entries = refl; later = omega arith; turns = omega arith }

-- a turn that moved some bytes
pub turned_on : (turn moved more : ℕ) (old now new : AnswerCounts) → 0 < more → TookTurns turn moved old now → new ≡ now → TookTurns (turn + 1) (moved + more) old new
turned_on turn moved more old now new some so same =
    let i : new.interruptions ≡ now.interruptions = ap (λ (a : AnswerCounts). a.interruptions) same in
    record {
      unrefused = ap (λ (a : AnswerCounts). a.refusals) same ∙ so.unrefused;
      stood = ap (λ (a : AnswerCounts). a.stand_ins) same ∙ so.stood;
      entries = ap (λ (a : AnswerCounts). a.has_lost_entries) same ∙ so.entries;
      later = omega (arith, i, so.later);
      turns = omega (arith, i, so.turns, some);
    }

-- a turn that was interrupted
pub turned_again : (turn moved : ℕ) (old now new : AnswerCounts) → TookTurns turn moved old now → new ≡ interrupted_once now → TookTurns (turn + 1) moved old new
turned_again turn moved old now new so same =
    let i : new.interruptions ≡ now.interruptions + 1 = ap (λ (a : AnswerCounts). a.interruptions) same in
    record {
      unrefused = ap (λ (a : AnswerCounts). a.refusals) same ∙ so.unrefused;
      stood = ap (λ (a : AnswerCounts). a.stand_ins) same ∙ so.stood;
      entries = ap (λ (a : AnswerCounts). a.has_lost_entries) same ∙ so.entries;
      later = omega (arith, i, so.later);
      turns = omega (arith, i, so.turns);
    }

pub turned_obeyed : (turn moved : ℕ) (old now : AnswerCounts) → TookTurns turn moved old now → WasObeyed old now
turned_obeyed turn moved old now so = record { unrefused = so.unrefused; later = so.later; stood = omega (arith, so.stood) }

-- and a last one that moved what it had to
pub turned_done : (turn moved : ℕ) (old now new : AnswerCounts) → TookTurns turn moved old now → new ≡ now → WasObeyed old new
turned_done turn moved old now new so same = record {
  unrefused = ap (λ (a : AnswerCounts). a.refusals) same ∙ so.unrefused;
  later = omega (arith, ap (λ (a : AnswerCounts). a.interruptions) same, so.later);
  stood = omega (arith, ap (λ (a : AnswerCounts). a.stand_ins) same, so.stood);
}

-- a refusal is no calm
pub turned_refused : (turn moved : ℕ) (lost : Bool) (old now new : AnswerCounts) → TookTurns turn moved old now → WasRefused lost now new → WentWell old new → ⊥
turned_refused turn moved lost old now new so refused well = refused.changed (well.unrefused ∙ sym so.unrefused)

-- what was known of the entries is known still
pub turned_known : (turn moved : ℕ) (old now new : AnswerCounts) → TookTurns turn moved old now → WasRefused now.has_lost_entries now new → new.has_lost_entries ≡ old.has_lost_entries
turned_known turn moved old now new so refused = refused.entries ∙ so.entries

-- so many turns that didn't end it were interrupted, all but a few
pub turned_out : (turn moved : ℕ) (old now : AnswerCounts) → turn ≡ 2 ^ 64 - 1 → moved < 2 ^ 63 → TookTurns turn moved old now → WentWell old now → ⊥
turned_out turn moved old now all few so well = absurd (omega (arith, all, few, so.turns, well.patient))

-- So many handles of the folder were opened, each of which got the number of a standard stream.
pub record StoodIn (turn : ℕ) (old now : AnswerCounts) : Type 0 where
  pub unrefused : now.refusals ≡ old.refusals
  pub interruptions : now.interruptions ≡ old.interruptions
  pub entries : now.has_lost_entries ≡ old.has_lost_entries
  pub stood : now.stand_ins ≡ old.stand_ins + turn

pub stood_none : (old : AnswerCounts) → StoodIn 0 old old
stood_none old = record { unrefused = refl; interruptions = refl; entries = refl; stood = omega arith }

pub stood_on : (turn : ℕ) (old now new : AnswerCounts) → StoodIn turn old now → new ≡ stood_in_once now → StoodIn (turn + 1) old new
stood_on turn old now new so same =
    let s : new.stand_ins ≡ now.stand_ins + 1 = ap (λ (a : AnswerCounts). a.stand_ins) same in
    record {
      unrefused = ap (λ (a : AnswerCounts). a.refusals) same ∙ so.unrefused;
      interruptions = ap (λ (a : AnswerCounts). a.interruptions) same ∙ so.interruptions;
      entries = ap (λ (a : AnswerCounts). a.has_lost_entries) same ∙ so.entries;
      stood = omega (arith, s, so.stood);
    }

pub stood_obeyed : (turn : ℕ) (old now new : AnswerCounts) → StoodIn turn old now → new ≡ now → WasObeyed old new
stood_obeyed turn old now new so same = record {
  unrefused = ap (λ (a : AnswerCounts). a.refusals) same ∙ so.unrefused;
  later = omega (arith, ap (λ (a : AnswerCounts). a.interruptions) same, so.interruptions);
  stood = omega (arith, ap (λ (a : AnswerCounts). a.stand_ins) same, so.stood);
}

pub stood_known : (turn : ℕ) (old now new : AnswerCounts) → StoodIn turn old now → new ≡ now → new.has_lost_entries ≡ old.has_lost_entries
stood_known turn old now new so same = ap (λ (a : AnswerCounts). a.has_lost_entries) same ∙ so.entries

pub stood_refused : (turn : ℕ) (lost : Bool) (old now new : AnswerCounts) → StoodIn turn old now → WasRefused lost now new → WentWell old new → ⊥
stood_refused turn lost old now new so refused well = refused.changed (well.unrefused ∙ sym so.unrefused)

pub stood_out : (turn : ℕ) (old now : AnswerCounts) → turn ≡ 4 → StoodIn turn old now → WentWell old now → ⊥
stood_out turn old now all so well = absurd (omega (arith, all, so.stood, well.numbered))

-- one call after another
pub obeyed_same : (old new : AnswerCounts) → new ≡ old → WasObeyed old new
obeyed_same old new same = record {
  unrefused = ap (λ (a : AnswerCounts). a.refusals) same;
  later = omega (arith, ap (λ (a : AnswerCounts). a.interruptions) same);
  stood = omega (arith, ap (λ (a : AnswerCounts). a.stand_ins) same);
}

pub obeyed_on : (old mid new : AnswerCounts) → WasObeyed old mid → WasObeyed mid new → WasObeyed old new
obeyed_on old mid new a b = record { unrefused = b.unrefused ∙ a.unrefused; later = omega (arith, a.later, b.later); stood = omega (arith, a.stood, b.stood) }

pub well_on : (old mid new : AnswerCounts) → WasObeyed old mid → WentWell old new → WentWell mid new
well_on old mid new a well = record { unrefused = well.unrefused ∙ sym a.unrefused; patient = omega (arith, a.later, well.patient); numbered = omega (arith, a.stood, well.numbered) }

-- what is refused behind calls that weren't
pub refused_behind : (old mid new : AnswerCounts) → WasObeyed old mid → new.refusals ≢ mid.refusals → WentWell old new → ⊥
refused_behind old mid new a changed well = changed (well.unrefused ∙ sym a.unrefused)
