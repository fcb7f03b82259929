-- What an end sees of its peer where a proof was accepted: the block is one of the peer's chain, and the ends of
-- channels in it have gone on to what the peer is now.
use Rattle.std.proofs.Common.{◌≡◌, ℕ, ◌≤◌, ◌<◌, true, ap, sym, ◌∙◌, subst, Option, Some, [], slice_get}
use Rattle.std.specs.Option.{option_map_or}
use Rattle.ibc_ids.specs.Texts.{Text, same_text}
use Rattle.ibc_ids.proofs.Texts.{text_same}
use Rattle.ibc_wire.specs.declared.records.ConnectionEnd.{ConnectionEnd}
use Rattle.ibc_machine.specs.chain.Records.{Core, Block, MachineChain, Client, Channel, client_at, channel_at}
use Rattle.ibc_machine.specs.ics24.Values.{same_optional}
use Rattle.ibc_machine.specs.chain.Handlers.{working_height}
use Rattle.ibc_machine.specs.ics04.Channels.{client_of}
use Rattle.ibc_machine.specs.ics04.Packets.{has_peer}
use Rattle.ibc_machine.specs.chain.Machine.{World, block_of}
use Rattle.ibc_machine.specs.promises.Histories.{End}
use Rattle.ibc_machine.proofs.SameValues.{same_optional_is}
use Rattle.ibc_laws.proofs.basics.PassedTests.{both}
use Rattle.ibc_laws.proofs.basics.ListPlaces.{some_is}
use Rattle.ibc_laws.proofs.steps.CoreSteps.{rank, SeesPeer}
use Rattle.ibc_laws.proofs.steps.Growth.{ChannelGrows, Grows}
use Rattle.ibc_laws.proofs.steps.CoreShape.{CoreShaped}
use Rattle.ibc_laws.proofs.steps.WorldGrowth.{seen_of, height_below}
use Rattle.ibc_laws.proofs.peers.Invariant.{Inv}
use Rattle.ibc_laws.proofs.peers.Peers.{Stands}
use Rattle.ibc_laws.proofs.peers.FirstLaw.{HasPeer, peer_of}

pub record PeerSeen (w : World) (e : End) (mine : Channel) (here : Stands w e mine) (port channel : Text) (height : ℕ) (block : Block) : Type 0 where
  pub peer : HasPeer w e mine here
  pub port_is : port ≡ peer.other.port
  pub channel_is : channel ≡ peer.other.channel
  pub stood : block_of height peer.there.chain.committed ≡ Some block
  -- of the block
  pub shaped : CoreShaped block.records.core
  pub below : height < working_height peer.there.chain
  pub earlier : block.time ≤ peer.there.chain.time
  pub grows : (c : Channel) → channel_at block.records.core port channel ≡ Some c → ChannelGrows c peer.theirs

pub peer_seen : (w : World) → Inv w → (e : End) (mine : Channel) (here : Stands w e mine) → 1 ≤ rank mine.end.state
    → (port channel : Text) → has_peer mine port channel ≡ true → (height : ℕ) (P : Block → Type 0)
    → (sees : SeesPeer w here.chain.records.core mine height P) → PeerSeen w e mine here port channel height sees.block
peer_seen w inv e mine here ranks port channel named height P sees =
    let core : Core = here.chain.records.core in
    let peer = peer_of w inv e mine here ranks in
    let names = peer.names_them in
    let tests = both (same_text port mine.end.peer_port) (same_optional mine.end.peer_channel (Some channel)) named in
    let port_is : port ≡ peer.other.port = text_same port mine.end.peer_port tests.0 ∙ sym names.port in
    let channel_is : channel ≡ peer.other.channel =
    some_is (same_optional_is mine.end.peer_channel (Some channel) tests.1) names.channel in
    let client : client_of core mine.end.connection ≡ names.connection.client =
    ap (λ (o : Option ConnectionEnd). option_map_or (λ (c : ConnectionEnd). c.client) o []) names.there in
    let tracked : sees.tracked ≡ names.client = some_is (subst (λ i. client_at core i ≡ Some sees.tracked) client sees.there) names.client_there in
    let chain_is : sees.tracked.state.chain ≡ peer.other.chain = ap (λ (c : Client). c.state.chain) tracked ∙ names.tracks in
    let of = seen_of sees in
    let there : MachineChain = peer.there.chain in
    let same : of.chain ≡ there = some_is (subst (λ i. slice_get w i ≡ Some of.chain) chain_is of.there) peer.there.there in
    let stood : block_of height there.committed ≡ Some sees.block = subst (λ (c : MachineChain). block_of height c.committed ≡ Some sees.block) same of.stood in
    let shape = inv.shaped.each peer.other.chain there peer.there.there in
    let grows : Grows sees.block.records.core there.records.core = shape.grows height sees.block stood in
    record {
      peer = peer;
      port_is = port_is;
      channel_is = channel_is;
      stood = stood;
      shaped = shape.blocks_shaped height sees.block stood;
      below = height_below there height sees.block stood;
      earlier = shape.times height sees.block stood;
      grows = λ c is.
          let now = grows.channels port channel c is in
          let found : channel_at there.records.core peer.other.port peer.other.channel ≡ Some now.0 =
          subst (λ p. channel_at there.records.core p peer.other.channel ≡ Some now.0) port_is
          (subst (λ i. channel_at there.records.core port i ≡ Some now.0) channel_is now.1) in
          subst (λ (x : Channel). ChannelGrows c x) (some_is found peer.there.is) now.2;
    }
