-- No escrow holds too little at a receive: the packet's commitment stands, so its tokens that come home are under
-- way back to the escrow.
use Rattle.std.proofs.Common.{◌≡◌, ℕ, ◌≤◌, true, false, refl, ap, sym, ◌∙◌, subst, List, [], ◌++◌, length, Option, Some, arith, Contains}
use Rattle.std.specs.Option.{option_map_or}
use Rattle.ibc_ids.specs.Texts.{Text, same_text}
use Rattle.ibc_ids.specs.Names.{hop}
use Rattle.ibc_wire.specs.declared.packet.Packet.{Packet}
use Rattle.ibc_wire.specs.declared.token.Token.{Token}
use Rattle.ibc_wire.specs.declared.messages.Message.TheVariants as message
use Rattle.ibc_machine.specs.declared.event.Event.TheVariants as event
use Rattle.ibc_machine.specs.declared.reply.Reply.TheVariants as reply
use Rattle.ibc_machine.specs.chain.Records.{MachineChain, Channel, commitment_of}
use Rattle.ibc_machine.specs.chain.Handlers.{host_of}
use Rattle.ibc_machine.specs.ics20.TokenData.{Data, data_of, amount_of, success}
use Rattle.ibc_machine.specs.ics20.Bank.{balance, escrow}
use Rattle.ibc_machine.specs.ics20.Transfers.{transfer_port, came_over, without_hop}
use Rattle.ibc_machine.specs.chain.Machine.{World}
use Rattle.ibc_machine.specs.ledger.Ledgers.{chain_of}
use Rattle.ibc_machine.specs.promises.Histories.{Happened, End, packet_if, is_destination}
use Rattle.ibc_machine.specs.promises.Laws.{NeverShort}
use Rattle.ibc_laws.specs.Tokens.{WasNeverShort}
use Rattle.ibc_laws.proofs.basics.PassedTests.{and_true}
use Rattle.ibc_laws.proofs.steps.Told.{Told, Received, ack_of, told_of, received_in}
use Rattle.ibc_laws.proofs.steps.CoreSteps.{rank, ChannelStep, answers, follows, closes, sends, receives, acknowledges, times_out, Receives}
use Rattle.ibc_laws.proofs.steps.EndSteps.{open_rank}
use Rattle.ibc_laws.proofs.steps.MachineSteps.{stepped as did_step}
use Rattle.ibc_laws.proofs.steps.AtEnds.{EndStep, untouched, opened, stepped, at_end}
use Rattle.ibc_laws.proofs.peers.Peers.{Stands, Peers, stands, stands_same}
use Rattle.ibc_laws.proofs.peers.FirstLaw.{peer_of, peers_of}
use Rattle.ibc_ids.proofs.Hops.{came_over_is}
use Rattle.ibc_ids.proofs.Texts.{same_text_itself}
use Rattle.ibc_laws.proofs.tokens.Ports.{transfer_peer}
use Rattle.ibc_laws.proofs.tokens.TokenEffects.{tokens_read}
use Rattle.ibc_laws.proofs.tokens.PeerFacts.{still_committed, not_yet, from_port, from_channel}
use Rattle.ibc_laws.proofs.tokens.PairSteps.{balances_at}
use Rattle.ibc_laws.proofs.tokens.FourthLaw.{Conserving, conserving_of_past}
use Rattle.ibc_laws.proofs.tokens.EscrowsHold.{arrival_is_held, one_amount}

-- the end stood, and received the packet
record Receiver (chains : ℕ) (w : World) (e : End) (q : Packet) : Type 0 where
  mine : Channel
  was : Stands w e mine
  receives : Receives w (host_of chains e.chain was.chain) was.chain.records.core e.port e.channel mine q

module _ (chains : ℕ) (w : World) (h : Happened) (v : World) (e : End) (q : Packet) (ack : Option Text) (told : told_of h ≡ Received q ack) where
  of_label : (mine : Channel) (was : Stands w e mine) (t : Told) (n : Channel) → t ≡ Received q ack
      → ChannelStep w (host_of chains e.chain was.chain) was.chain.records.core e.port e.channel mine t n → Receiver chains w e q
  of_label mine was t n is (answers peer s) = absurd (cc is)
  of_label mine was t n is (follows state s) = absurd (cc is)
  of_label mine was t n is (closes s may) = absurd (cc is)
  of_label mine was t n is (sends c s) = absurd (cc is)
  of_label mine was t n is (receives p ack r) =
      let same : p ≡ q = cc is in
      record { mine = mine; was = was; receives = subst (Receives w (host_of chains e.chain was.chain) was.chain.records.core e.port e.channel mine) same r }
  of_label mine was t n is (acknowledges p s) = absurd (cc is)
  of_label mine was t n is (times_out p s) = absurd (cc is)

  receiver : chain_of h.0 ≡ e.chain → is_destination e q ≡ true → EndStep chains w h v e → Receiver chains w e q
  receiver at_chain here (untouched quiet back) =
      let none = ap (λ t. received_in e t) (sym told) ∙ (quiet at_chain).received in
      let some = ap (λ b. packet_if b q) here in
      absurd (cc (none, some))
  receiver at_chain here (opened chain silent end now none) = absurd (cc (silent, told))
  receiver at_chain here (stepped chain m n was now s) = of_label m was (told_of h) n told s

-- what comes home to an end in a packet that it receives is in its escrow
module _ (hs : List Happened) (w : World) (all : Conserving hs w) (chains : ℕ) (e : End) (is : e.port ≡ transfer_port) (q : Packet) (r : Receiver chains w e q) where
  comes_home : (d : Data) (token : Token) → data_of r.mine.end.version q.payload ≡ Some d → Contains d.tokens token
      → came_over q.source_port q.source_channel token.denom ≡ true
      → token.amount ≤ balance (balances_at r.was) (escrow e.channel) (without_hop q token).denom
  comes_home d token read has came =
      let ranks : 1 ≤ rank r.mine.end.state = (let z = open_rank r.mine.end.state r.receives.state in omega arith) in
      let peer = peer_of w all.known.once.inv e r.mine r.was ranks in
      let p : Peers w e peer.other = peers_of w e r.mine r.was peer in
      let is_there = transfer_peer w all.known.once.inv all.known.kinds e peer.other p is in
      let there = still_committed hs w all.known chains e peer.other p q r.receives in
      let fresh = ap (λ o. option_map_or (λ ack. same_text ack success) o false) (not_yet hs w all.known chains e peer.other p q r.receives) in
      let home : Text = (without_hop q token).denom in
      let held = arrival_is_held hs w all e peer.other p is is_there q.sequence (commitment_of q) there fresh home in
      let same_hop : hop q.source_port q.source_channel ≡ hop transfer_port peer.other.channel =
      ap (λ i. hop q.source_port i) (from_channel hs w all.known chains e peer.other p q r.receives)
      ∙ ap (λ port. hop port peer.other.channel) (from_port hs w all.known chains e peer.other p q r.receives ∙ is_there) in
      let whole : token.denom ≡ hop transfer_port peer.other.channel ++ home =
      came_over_is q.source_port q.source_channel token.denom came ∙ ap (λ x. x ++ home) same_hop in
      let tokens = tokens_read r.mine.end.version (commitment_of q) d read in
      let amount = one_amount d.tokens token (hop transfer_port peer.other.channel ++ home) whole has in
      let same = ap (λ ts. amount_of (hop transfer_port peer.other.channel ++ home) ts) tokens in
      omega arith

pub never_short : NeverShort
never_short genesis happened world after chain m given mine d token past typed step port is read has came =
    let all = conserving_of_past genesis happened world past in
    let chains : ℕ = length genesis.chains in
    let e : End = record { chain = chain; port = transfer_port; channel = m.packet.destination_channel } in
    let here = and_true (subst (λ q. same_text m.packet.destination_port q ≡ true) port (same_text_itself m.packet.destination_port)) (same_text_itself m.packet.destination_channel) in
    let did = did_step genesis world (event.Message chain (message.RecvPacket m), reply.Ok given) after step in
    let r = receiver chains world (event.Message chain (message.RecvPacket m), reply.Ok given) after e m.packet (ack_of given) refl refl here (at_end chains world _ after all.known.once.inv did e) in
    let same : mine ≡ r.mine = stands_same e mine r.mine (stands world e mine is) r.was in
    let held = comes_home happened world all chains e refl m.packet r d token (subst (λ (c : Channel). data_of c.end.version m.packet.payload ≡ Some d) same read) has came in
    subst (λ (o : Option MachineChain). token.amount ≤ balance (option_map_or (λ (c : MachineChain). c.records.apps.balances) o []) (escrow m.packet.destination_channel) (without_hop m.packet token).denom)
    (sym r.was.there) held

-- nor did one at any receive of the past
pub lemma_was_never_short : WasNeverShort
lemma_was_never_short genesis happened world before chain m given old new token moment brings =
    never_short genesis before old new chain m given brings.1 brings.3 token moment.past moment.typed moment.step brings.0 brings.2 brings.4 brings.5
