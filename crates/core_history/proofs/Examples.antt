-- The histories of the computed runs tell what is said of them.
use Rattle.std.proofs.Common.{[], ◌∷◌, ◌++◌, false, inl, inr, refl}
use Rattle.core_model.specs.declared.events.CoreEvent.TheVariants.{Vote, Decide, NotSealed}
use Rattle.core_model.specs.CoreState.{put, put_grain}
use Rattle.core_model.specs.ComputedRuns.{account, unit, state, found}
use Rattle.core_history.specs.Histories.{Happened}
use Rattle.core_history.specs.Fates.{IsDeadIn, voted_down, not_sealed, by_source}
use Rattle.core_history.specs.GoneVersions.{not_on_disk, itself, IsGone}
use Rattle.core_history.specs.ComputedHistories.{told, failed_vote, two_sources, one_learnt, learns, HistoriesAreRead}

vote-kills : IsDeadIn (told failed_vote) (unit 2)
unfolding put put_grain
vote-kills = by_source {u = unit 2} (found 1 5 1) (inl refl) (voted_down {u = unit 1} 1 (account 1) (0, refl, inl refl) decided (state 5, refl) voted)
  where
    decided : Happened (told failed_vote) (Decide 1)
    decided = (inr (inr (inr (inr (inr (inr (inr (inr (inr (inr (inl refl)))))))))))

    voted : Happened (told failed_vote) (Vote 1 (account 1) false)
    voted = (inr (inr (inr (inr (inr (inr (inr (inr (inr (inl refl))))))))))

dies-later : IsDeadIn (told (two_sources ++ NotSealed 1 ∷ [])) (unit 1)
unfolding put put_grain
dies-later = not_sealed {u = unit 1} 1 (0, refl, inl refl) (inr (inr (inr (inr (inr (inr (inr (inr (inr (inr (inr (inr (inr (inr (inr (inr (inr (inr (inl refl)))))))))))))))))))

unsealed : Happened (told one_learnt) (NotSealed 1)
unfolding put put_grain
unsealed = (inr (inr (inr (inr (inr (inr (inr (inr (inr (inr (inr (inr (inr (inr (inr (inl refl))))))))))))))))

is-gone : IsGone (told one_learnt ++ (learns ∷ [])) (found 2 4 2)
unfolding put put_grain
is-gone = record {
  front = told one_learnt;
  at = learns;
  back = [];
  split = refl;
  off = unit 2;
  takes = (refl, refl);
  dead = record {
    dead = not_sealed {u = unit 2} 1 (0, refl, inr (inl refl)) unsealed;
    batch = 1;
    within = (0, refl, inr (inl refl));
    ended = not_on_disk unsealed;
  };
  stands = itself refl;
}

pub read : HistoriesAreRead
unfolding put put_grain
read = record {
  who_holds = refl;
  who_released = refl;
  what_was_read = refl;
  one_batch = refl;
  who_waited = refl;
  what_waited_found = refl;
  both_ended = refl;
  failed_vote_kills = vote-kills;
  told_of_second = refl;
  first_dies_later = dies-later;
  refused_for_second = refl;
  second_is_gone = is-gone;
}
