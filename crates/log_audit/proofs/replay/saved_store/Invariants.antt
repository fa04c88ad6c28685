use Rattle.std.proofs.Common.{◌≡◌, ◌||◌, IsTrue, is_some, drop}
use Rattle.std.specs.List.{fold}
use Rattle.base_types.specs.declared.calls.GrainId.{GrainId}
use Rattle.base_types.specs.Stores.{state_in}
use Rattle.host_trait.specs.Files.{StaysReady}
use Rattle.host_trait.specs.Runs.{OnlyAsked}
use Rattle.host_trait.specs.Faults.{NoneFailed}
use Rattle.log_reading.specs.Steps.{seen_in}
use Rattle.script_tree.specs.Programs.{ProgramTree}
use Rattle.script_check.specs.Shapes.{type_shapes}
use Rattle.script_meaning.specs.Play.{found_in}
use Rattle.promise_spec.specs.Records.{put_state}
use Rattle.promise_spec.specs.Entries.{is_among}
use Rattle.log_audit.specs.CarriedStores.{StoreFits}
use Rattle.log_audit.specs.Replays.{first_states, states_saved_at}
use Rattle.log_audit.proofs.replay.saved_store.Given as goal

abbrev pub invariant-loop-written : goal.invariant-loop-written
invariant-loop-written g l = record {
  held : IsTrue g.H.Host.tells → (grain : GrainId)
      → (is_among (states_saved_at l.slot l.shape (seen_in (g.H.Host.world l.fn.host).disk) (drop l.written-index l.saved)) grain || is_some (state_in l.store grain)) ≡ is_among (states_saved_at l.slot l.shape (seen_in (g.H.Host.world l.fn.host).disk) l.saved) grain;
  states : IsTrue g.H.Host.tells → (types : ProgramTree)
      → fold put_state (found_in types l.store) (states_saved_at l.slot l.shape (seen_in (g.H.Host.world l.fn.host).disk) (drop l.written-index l.saved)) ≡ fold put_state (first_states types) (states_saved_at l.slot l.shape (seen_in (g.H.Host.world l.fn.host).disk) l.saved);
  fits : (types : ProgramTree) → l.shape ≡ record { types = type_shapes types } → StoreFits types l.store;
  asked : IsTrue g.H.Host.tells → OnlyAsked (g.H.Host.world l.fn.host) (g.H.Host.world l.host);
  calm : NoneFailed (g.H.Host.faults l.fn.host) (g.H.Host.faults l.host);
  ready : StaysReady (g.H.Host.is_ready l.fn.host) (g.H.Host.is_ready l.host);
}
