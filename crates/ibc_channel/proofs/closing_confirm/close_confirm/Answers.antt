-- To close a channel that the peer closed is to follow the peer.
use Rattle.ibc_machine.specs.ics04.Channels.{chan_close_confirm}
use Rattle.ibc_channel.specs.FollowedPeers.{follow_peer}
use Rattle.ibc_channel.proofs.closing_confirm.close_confirm.Goals as goal

pub returns : goal.returns
unfolding chan_close_confirm follow_peer
returns c = c.follow_peer.ensures
