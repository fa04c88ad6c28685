-- The words of the nodes.
pub use Rattle.base_types.specs.declared.calls.GrainId.{GrainId}
pub use Rattle.silo_nodes.specs.declared.packets.TxnId.{TxnId}
pub use Rattle.silo_nodes.specs.declared.packets.Shift.{Shift}
pub use Rattle.silo_nodes.specs.declared.packets.Packet.{Packet}
pub use Rattle.silo_nodes.specs.declared.packets.Packet.TheVariants.{Prepare, Vote, Decision, Ask}
pub use Rattle.silo_nodes.specs.declared.packets.NodeEntry.{NodeEntry}
pub use Rattle.silo_nodes.specs.declared.packets.NodeEntry.TheVariants.{Prepared, Done}
pub use Rattle.silo_nodes.specs.declared.parts.Part.{Part}
pub use Rattle.silo_nodes.specs.declared.parts.Pending.{Pending}
