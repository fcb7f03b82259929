pub mod Computing
pub mod Scripts
pub mod Openings
pub mod PacketScripts
mod PublishedHeights
mod WindowOfHeights
pub mod Members
pub mod SeenMore
pub mod Identifiers
pub mod FiniteMaps
pub mod SortedMaps
pub mod Measures
pub mod Images
pub mod ImageChanges
pub mod CoreChanges
pub mod ChannelChanges
pub mod PacketChanges
mod Handshake
mod ForgedHandshakes
mod CrossedClaims
mod TokensThereAndBack
mod RefundedTokens
mod TokenTimeouts
mod RefusedPackets
mod TokensOverTwoHops
mod SeveralTokens
mod WholeOrNotAtAll
mod TotalsOfAChannel
mod NotesInOrder
mod NoteTimeoutCloses
mod ClosedPeer
mod TimeoutsToTheBlock
mod SizesAndNumbers
mod FullCounters
mod AllowedBeginnings
mod TokenSpellings
mod ListsOfTokens
mod PeersAndHistories
mod GenesisStore
mod TrueProofs
mod RelayedPackets
mod ALedger
pub mod QuotedTexts
pub mod DataRead
pub mod GoodData
pub mod PassedRows
pub mod PassedHandlers
pub mod PassedChecks
pub mod SameValues
pub mod ConnectionChecks
pub mod PacketChecks
pub mod flight
