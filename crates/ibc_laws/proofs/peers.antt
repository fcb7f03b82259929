-- The first law: each end that is OPEN or CLOSED has one peer.
pub mod PeersKnown
pub mod PeersKept
pub mod Invariant
pub mod Peers
pub mod PeerSeen
pub mod FirstLaw
