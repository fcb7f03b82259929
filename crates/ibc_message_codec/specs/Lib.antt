pub mod ClientFronts
pub mod ConnectionFronts
pub mod ChannelFronts
pub mod PacketFronts
pub mod TransferFronts
pub mod MessageFront
pub mod WrittenParts
