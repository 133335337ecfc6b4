pub mod DeletingNodes
pub mod SourceLists
pub mod NodeRows
pub mod FlowNodes
pub mod ItemLists
