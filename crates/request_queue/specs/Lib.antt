pub mod Chains
pub mod Laws
pub mod Nodes
pub mod Queue
pub mod RequestList
pub mod Requests
