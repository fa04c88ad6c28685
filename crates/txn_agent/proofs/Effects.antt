-- The effect that is made of a machine's parts is its call's whole play.
use Rattle.std.proofs.Common.{◌≡◌, length, List, refl, sym, ap, ◌∙◌, subst}
use Rattle.std.specs.Prelude.{map}
use Rattle.std.specs.List.{All, Contains}
use Rattle.core_model.specs.declared.effects.Effect.{Effect}
use Rattle.core_model.specs.declared.effects.Read.{Read}
use Rattle.script_tree.specs.Programs.{ProgramTree}
use Rattle.script_meaning.specs.Requests.{End}
use Rattle.script_meaning.specs.Play.{Played, asks, play_over}
use Rattle.script_meaning.specs.Trails.{Given, answers_of, exclusive_in, reads_of, states_of, Has, IsShown}
use Rattle.script_meaning.proofs.SingleReads.{trails_read_once_lem}
use Rattle.script_meaning.proofs.Plays.{next_is_play_lem}
use Rattle.script_machine.specs.declared.machine.Parts.{Parts}
use Rattle.script_machine.specs.Machines.{FollowsTrail, IsPartsOf, holding_of, reads_in, rest}
use Rattle.base_types.specs.Origins.{depth_of}
use Rattle.promise_spec.specs.UnitRule.{played_by}
use Rattle.txn_agent.specs.declared.work.Carried.{Carried}
use Rattle.txn_agent.specs.declared.work.Work.{Work}
use Rattle.txn_agent.specs.MachineState.{IsEffectOf, found_by, source_of}
use Rattle.txn_agent.proofs.Trails.{asked-answered, next-own}

module _ (types : ProgramTree) (c : Carried) (work : Work) (trail : List Given) (follows : FollowsTrail types work.call (depth_of c.origin) work.machine trail) where
  -- the states that were found are those of the reads
  states-found : Has (states_of (reads_of trail)) (reads_of trail)
  states-found = (trails_read_once_lem types work.call (depth_of c.origin) trail follows.named).found

  -- the play over them
  abbrev played : Played
  played = play_over types work.call (depth_of c.origin) (states_of (reads_of trail)) (answers_of trail)

  module _ (parts : Parts) (reads : List Read)
      (over : rest types work.machine ≡ End parts.result (holding_of work.machine))
      (is : IsPartsOf parts trail (play_over types work.call (depth_of c.origin) (states_of (reads_of trail)) (answers_of trail)))
      (found : map found_by reads ≡ parts.reads) (from : parts.reads ≡ reads_in work.machine) (sources : map source_of reads ≡ work.sources) where
    -- the effect
    abbrev effect : Effect
    effect = record { unit = c.unit; origin = c.origin; call = work.call; answers = parts.answers; reads = reads; writes = parts.writes; result = parts.result }

    all-reads : map found_by reads ≡ reads_of trail
    all-reads = found ∙ from ∙ follows.reads

    same : played_by types effect ≡ played
    same = λ i. play_over types work.call (depth_of c.origin) (states_of (all-reads i)) (sym is.answers i)

    -- what it writes is locked exclusive
    shown : IsShown trail parts.result played
    shown = next_is_play_lem types work.call (depth_of c.origin) trail parts.result
        (record { named = follows.named; over = next-own types work.call (depth_of c.origin) work.machine trail follows ∙ ap asks over })
        (states_of (reads_of trail)) states-found

    pub effect-is : IsEffectOf types c work trail (record { unit = c.unit; origin = c.origin; call = work.call; answers = parts.answers; reads = reads; writes = parts.writes; result = parts.result })
    effect-is = record {
      unit = refl;
      origin = refl;
      call = refl;
      result = ap asks over;
      play = record {
        result = ap (λ (x : Played). x.result) same ∙ is.result;
        asked = ap (λ (x : Played). length x.asked) same ∙ ap length is.asked ∙ asked-answered trail ∙ ap length is.answers;
        reads = ap (λ (x : Played). x.reads) same ∙ is.reads ∙ sym found;
        writes = ap (λ (x : Played). x.writes) same ∙ is.writes;
      };
      answers = sym is.answers;
      found = all-reads;
      sources = sources;
      locked = subst (All (λ one. Contains (exclusive_in trail) one.0)) is.writes shown.locked;
    }
