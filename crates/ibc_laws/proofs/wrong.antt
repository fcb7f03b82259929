-- Runs of machines that are wrong in one place, each with what one law refuses of it; and the tests by which the other laws
-- hold of such a run.
pub mod EachEnd
pub mod TakenAt
pub mod Entries
pub mod TestedPackets
pub mod TestedFirst
pub mod TestedTokens
pub mod TestedNotes
pub mod TestedAll
pub mod TypedEvents
pub mod LastStep
pub mod OfTheMachine
pub mod Forged
pub mod Unwritten
pub mod Reworded
pub mod Late
pub mod LeftOut
pub mod Woken
pub mod Peerless
pub mod TwoVersions
pub mod Gifts
pub mod Robbed
pub mod Misdirected
pub mod Misrefunded
pub mod OtherNote
