pub mod StatementTrees
