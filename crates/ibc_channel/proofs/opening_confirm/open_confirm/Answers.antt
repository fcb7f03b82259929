-- To open a channel that the peer opened is to follow the peer.
use Rattle.ibc_machine.specs.ics04.Channels.{chan_open_confirm}
use Rattle.ibc_channel.specs.FollowedPeers.{follow_peer}
use Rattle.ibc_channel.proofs.opening_confirm.open_confirm.Goals as goal

pub returns : goal.returns
unfolding chan_open_confirm follow_peer
returns c = c.follow_peer.ensures
