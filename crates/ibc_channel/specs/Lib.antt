pub mod ChannelHandshake
pub mod FollowedPeers
pub mod ChannelHandlers
