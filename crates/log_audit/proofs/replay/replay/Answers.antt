use Rattle.std.proofs.Common.{rules, ◌≡◌, List, Some, None, refl, sym, ◌∙◌, ap, subst}
use Rattle.std.specs.Prelude.{is_some, ◌||◌}
use Rattle.std.specs.List.{fold}
use Rattle.base_types.specs.declared.calls.GrainId.{GrainId}
use Rattle.base_types.specs.declared.calls.Value.{Value}
use Rattle.base_types.specs.Stores.{state_in}
use Rattle.field_codec.specs.declared.formats.Format.TheVariants.{Two}
use Rattle.core_model.specs.Equality.{same_list}
use Rattle.log_reading.specs.Steps.{seen_in}
use Rattle.script_tree.specs.Programs.{ProgramTree}
use Rattle.script_meaning.specs.Play.{Played, found_in}
use Rattle.script_player.specs.PlayState.{played_of}
use Rattle.promise_spec.specs.Records.{Commit, States, written, put_state}
use Rattle.promise_spec.specs.Entries.{is_among}
use Rattle.promise_spec.specs.SerialExecution.{Replays, played}
use Rattle.promise_spec.specs.Openings.{commit_of}
use Rattle.log_audit.specs.declared.replay.Bad.{Bad}
use Rattle.log_audit.specs.InForce.{types_in_force}
use Rattle.log_audit.specs.Replays.{same_write, IsJudged, FailsToReplay}
use Rattle.log_audit.proofs.Replays.{passed_replays, failed_fails, played_is, by_standing, stands_after}
use Rattle.log_audit.proofs.replay.replay.Goals as goal

pub returns-in-Some-clause-replays : goal.returns-in-Some-clause-replays
returns-in-Some-clause-replays g c told before program has =
    let types = types_in_force c.args.now.now in
    let r = c.args.entry.now in
    let image = seen_in (g.H.Host.world c.args.host.now).disk in
    let one : Commit = commit_of Two c.args.slot c.args.now.now.shape image r in
    let states : States = found_in types c.args.store.now in
    let given : Played = played_of c.in_ok-played.played in
    let bad = c.in-Some.bad in
    let is : given ≡ played types states r = played_is types c.args.store.now r given _ _ c.in_ok-played.ensures c.depth-depth.ensures c.as_slice-answers.ensures in
    let kept : c.as_slice.result.now ≡ written one = c.as_slice.ensures.value ∙ c.in_ok-kept.ensures.writes told in
    let told_so : IsJudged r given c.as_slice.result.now (Some bad) = search rules in
    let judged : IsJudged r (played types states r) (written one) (Some bad) =
    subst (λ (p : Played). IsJudged r p (written one) (Some bad)) is (subst (λ (ws : List (GrainId × List Value)). IsJudged r given ws (Some bad)) kept told_so) in
    by_standing (λ ts s. FailsToReplay ts s one bad) types c.args.store.now before program has
    (failed_fails types states one (same_list same_write (played types states r).writes (written one)) refl bad (sym (ap (λ (b : Bad). b.unit) judged.1)) (ap (λ (b : Bad). b.kept) judged.1) (ap (λ (b : Bad). b.played) judged.1) (ap (λ (b : Bad). b.states_differ) judged.1) judged.0)

pub returns-clause-replays : goal.returns-clause-replays
returns-clause-replays g c told before program has =
    let types = types_in_force c.args.now.now in
    let r = c.args.entry.now in
    let image = seen_in (g.H.Host.world c.args.host.now).disk in
    let one : Commit = commit_of Two c.args.slot c.args.now.now.shape image r in
    let states : States = found_in types c.args.store.now in
    let given : Played = played_of c.in_ok-played.played in
    let is : given ≡ played types states r = played_is types c.args.store.now r given _ _ c.in_ok-played.ensures c.depth-depth.ensures c.as_slice-answers.ensures in
    let writes : c.in_ok-kept.kept.items ≡ written one = c.in_ok-kept.ensures.writes told in
    let kept : c.as_slice.result.now ≡ written one = c.as_slice.ensures.value ∙ writes in
    let told_so : IsJudged r given c.as_slice.result.now None = search rules in
    let judged : IsJudged r (played types states r) (written one) None =
    subst (λ (p : Played). IsJudged r p (written one) None) is (subst (λ (ws : List (GrainId × List Value)). IsJudged r given ws None) kept told_so) in
    let held = λ (grain : GrainId). c.in_ok-keep.ensures.held grain ∙ ap (λ (l : List (GrainId × List Value)). is_among l grain || is_some (state_in c.args.store.now grain)) writes in
    let after = λ (ts : ProgramTree). c.in_ok-keep.ensures.states ts ∙ ap (λ (l : List (GrainId × List Value)). fold put_state (found_in ts c.args.store.now) l) writes in (
      by_standing (λ ts s. Replays ts s one) types c.args.store.now before program has (passed_replays types states one (same_list same_write (played types states r).writes (written one)) refl judged),
      stands_after c.args.store.now c.keep.new.store before one has held after,
    )

pub returns-clause-fits : goal.returns-clause-fits
returns-clause-fits g c was =
    let types = types_in_force c.args.now.now in
    c.in_ok-keep.ensures.fits types (c.in_ok-kept.ensures.fits types c.requires.shape) was
