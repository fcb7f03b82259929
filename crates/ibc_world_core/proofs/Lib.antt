-- Why the ledgers of a world have met.
pub mod Rounds
pub mod PutEvents
pub mod WorldSteps
-- How the ledgers of a genesis begin.
pub mod Beginnings
-- How a world goes on by events.
pub mod EventSequences
-- The totals of a channel.
pub mod CountedTotals
pub mod Denominations
-- Ledgers that are gathered.
pub mod Firsts
pub mod OneWorld
pub mod Lawful
