-- How what is burnt in flight changes, message by message.
pub mod BurntSteps
pub mod UnchangedChannels
pub mod ChannelSteps
pub mod SendSteps
pub mod CoreMessages
mod EndsKept
pub mod UnsettledPackets
pub mod PacketSteps
