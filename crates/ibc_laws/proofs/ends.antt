-- Laws of the ends of channels: what an end settles, receives and takes, when it is CLOSED, and what peers agree on.
pub mod SentNumbered
pub mod SettledWasSent
pub mod ReceivedInTime
pub mod AcknowledgedInOrder
pub mod ClosedIsSilent
pub mod TakenOfPeer
pub mod PeersAgree
