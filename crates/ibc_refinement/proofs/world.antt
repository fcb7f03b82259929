-- Why the steps of a world of ledgers are a run of the machine.
pub mod Together
pub mod New
pub mod Publications
pub mod Order
pub mod Grown
pub mod Published
pub mod EntryBehind
pub mod Step
pub mod Nothing
pub mod One
pub mod OneMore
pub mod Runs
pub mod Meetings
pub mod Leading
-- Why gathered ledgers are of one table, and have an order of their entries.
pub mod Gathered
pub mod Interleavings
