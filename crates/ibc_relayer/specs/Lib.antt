pub mod EndPackets
pub mod EndPairs
pub mod UsedClients
pub mod PlannedEnds
pub mod Senders
