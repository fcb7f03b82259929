-- What every world keeps. Its chains see one another through published roots and proofs alone, and were asked any list
-- of messages and blocks, in any order, with any message missing, repeated or forged.
use Rattle.std.specs.Prelude.{◌≡◌, ◌≤◌, ◌⊎◌, ℕ, ◌+◌, true, false, nat_lt, List, ◌∷◌, ◌++◌, filter, length, Some, slice_get, IsTrue}
use Rattle.std.specs.List.{Contains, list_all, sum_by}
use Rattle.ibc_ids.specs.Texts.{Text}
use Rattle.ibc_ids.specs.Names.{is_user, is_base_denom}
use Rattle.ibc_ids.specs.declared.refusal.Refusal.TheVariants.{Poor}
use Rattle.ibc_wire.specs.declared.token.Token.{Token}
use Rattle.ibc_wire.specs.declared.packet.Packet.{Packet}
use Rattle.ibc_wire.specs.declared.messages.RecvPacket.{RecvPacket}
use Rattle.ibc_wire.specs.declared.messages.Message.TheVariants as message
use Rattle.ibc_machine.specs.declared.event.Event.{Event}
use Rattle.ibc_machine.specs.declared.event.Event.TheVariants as event
use Rattle.ibc_machine.specs.declared.reply.Effect.{Effect}
use Rattle.ibc_machine.specs.declared.reply.Reply.TheVariants as reply
use Rattle.ibc_machine.specs.declared.entry.Entry.{Entry}
use Rattle.ibc_machine.specs.chain.Records.{Channel}
use Rattle.ibc_machine.specs.ics04.Packets.{is_ordered}
use Rattle.ibc_machine.specs.ics20.Transfers.{transfer_port, came_over}
use Rattle.ibc_machine.specs.chain.Notes.{note_port}
use Rattle.ibc_machine.specs.chain.Genesis.{start}
use Rattle.ibc_machine.specs.chain.Machine.{World, Step}
use Rattle.ibc_machine.specs.ledger.Ledgers.{Ledger, chain_of, machine_of, is_typed}
use Rattle.ibc_machine.specs.ics23.HashedTexts.{HasNoClash}
use Rattle.ibc_machine.specs.promises.Histories.{Happened, End, sent_packets, received_packets, ack_written}
use Rattle.ibc_machine.specs.promises.Peers.{end_at, are_peers}
use Rattle.ibc_machine.specs.promises.Totals.{flight, vouchers, escrow_balance, denom_with_hop}
use Rattle.ibc_machine.specs.promises.Laws.{IsPast, HasOnePeer, IsExactlyOnce, IsBeginning, IsEscrowed, settles}
use Rattle.ibc_machine.specs.ledger.Merge.{is_of_chain}
use Rattle.ibc_machine.specs.promises.Worlds.{entries, happened_by}
use Rattle.ibc_laws.specs.Moments.{IsMoment}
use Rattle.ibc_laws.specs.Packets.{taken_acks}
use Rattle.ibc_laws.specs.Ends.{SettlesWhatWasSent, ReceivesInTime, AcknowledgesInOrder, SilencesClosed, TakesOfPeers, Agree}
use Rattle.ibc_laws.specs.Tokens.{IsBacked, BringsTo, balance_at, amount_paid_by, supply_at}
use Rattle.ibc_laws.specs.Payments.{amount_received_by, amount_refunded_to}
use Rattle.ibc_laws.specs.StoredNotes.{IsFront, note_end, notes_at, payloads}
use Rattle.ibc_refinement.specs.World.{WorldState, kept_entries}

-- all that happened since genesis: each event with its reply, in the order in which the world kept them
abbrev pub happened_in : WorldState → List Happened
happened_in world = happened_by (kept_entries world)

-- the states of all chains
abbrev pub states_of : WorldState → World
states_of world = machine_of world.ledgers

abbrev pub ArePeers : WorldState → End → End → Type 0
ArePeers world e f = IsTrue (are_peers (states_of world) e f)

-- a packet that a chain takes next: its message is what its type promises, and is answered with Ok
abbrev pub TakesNext : WorldState → ℕ → RecvPacket → Type 0
TakesNext world chain m =
    let given : Event = event.Message chain (message.RecvPacket m) in
    IsTrue (is_typed given) × (effect : Effect) × (after : World)
    × Step world.genesis (states_of world) given (reply.Ok effect) after

-- of all that happened, this event came behind these, between these two states of all chains
abbrev pub IsMomentOf : WorldState → List Happened → Happened → World → World → Type 0
IsMomentOf world before h old new =
    IsMoment world.genesis (happened_in world) (states_of world) before h old new

pub record IsLawful (world : WorldState) : Type 0 where
  -- The replies and the states of all chains are a run, since an allowed genesis, of the machine in which each end
  -- looks straight at what the other had committed at the height named.
  pub run : IsPast world.genesis (happened_in world) (states_of world)
  -- The run has all that each chain's own history tells, in that history's order, and nothing of other chains.
  pub whole : (k : ℕ) (ledger : Ledger) → slice_get world.ledgers k ≡ Some ledger
      → filter (is_of_chain k) (kept_entries world) ≡ entries ledger
  pub no_others : list_all (λ (entry : Entry). nat_lt (chain_of entry.event) (length world.ledgers)) (kept_entries world)
      ≡ true
  -- Each event came at a moment: there were a state of all chains just before it, and one just after.
  pub each_moment : (before after : List Happened) (h : Happened) → happened_in world ≡ before ++ h ∷ after
      → (old : World) × (new : World) × IsMomentOf world before h old new
  -- An end of a channel that is OPEN or CLOSED has exactly one peer, and no end has two (ICS 4, channel exclusivity).
  pub one_peer : HasOnePeer (states_of world)
  -- Between peers no packet is both received and timed out. Each is received at most once, and acknowledged or timed
  -- out at most once in all; one that was acknowledged was received (ICS 4, exactly-once delivery).
  pub exactly_once : (e f : End) → ArePeers world e f → IsExactlyOnce (happened_in world) e f
  -- What an end of an ordered channel received is a beginning of what its peer sent, equal in every field (ICS 4,
  -- ordering).
  pub in_order : (e f : End) (mine : Channel) → ArePeers world e f → end_at (states_of world) e ≡ Some mine
      → IsTrue (is_ordered mine) → IsBeginning (received_packets f (happened_in world)) (sent_packets e mine (happened_in world))
  -- The escrow of a channel equals its vouchers at the peer and what is under way there and back, of each denomination
  -- that doesn't begin with the channel's own hop (ICS 20, fungibility and total supply).
  pub conserved : (e f : End) (denom : Text) → ArePeers world e f → e.port ≡ transfer_port
      → came_over e.port e.channel denom ≡ false
      → escrow_balance (states_of world) e denom ≡ vouchers (states_of world) f denom + flight (states_of world) e f denom
      + flight (states_of world) f e (denom_with_hop f denom)
  -- No acknowledgement and no timeout was refused because an escrow holds too little for the refund.
  pub never_poor : (event : Event) → IsTrue (settles event) → ¬ (Contains (happened_in world) (event, reply.No Poor))
  -- No escrow holds too little at a receive that comes next: what the packet brings home is held by the escrow of its
  -- channel.
  pub never_short : (chain : ℕ) (m : RecvPacket) (token : Token) → TakesNext world chain m
      → BringsTo (states_of world) chain m.packet token → IsEscrowed (states_of world) chain m.packet token
  -- Nor did one hold too little at a receive of the past.
  pub was_never_short : (before : List Happened) (chain : ℕ) (m : RecvPacket) (given : Effect) (old new : World)
      (token : Token) → IsMomentOf world before (event.Message chain (message.RecvPacket m), reply.Ok given) old new
      → BringsTo old chain m.packet token → IsEscrowed old chain m.packet token
  -- Whatever an end received, on any channel, its peer sent, equal in every field (ICS 4, recvPacket).
  pub received_was_sent : (e f : End) (mine : Channel) (p : Packet) → ArePeers world e f
      → end_at (states_of world) e ≡ Some mine → Contains (received_packets f (happened_in world)) p
      → Contains (sent_packets e mine (happened_in world)) p
  -- The acknowledgement that is taken of a packet is the one that its receiver wrote (ICS 4, acknowledgePacket).
  pub taken_as_written : (e f : End) (p : Packet) (ack : Text) → ArePeers world e f
      → Contains (taken_acks e (happened_in world)) (p, ack) → ack_written f (happened_in world) p.sequence ≡ Some ack
  -- What an end took as acknowledged or timed out, also on close, is the packet that it sent under that number, equal in
  -- every field. What was acknowledged was received, equal in every field (ICS 4, acknowledgePacket, timeoutPacket and
  -- timeoutOnClose).
  pub settled_was_sent : SettlesWhatWasSent (happened_in world) (states_of world)
  -- Nothing was received at or behind its timeout, by height or time of the working block of the receiver's chain (ICS 4,
  -- recvPacket).
  pub received_in_time : (before : List Happened) (h : Happened) (old new : World) → IsMomentOf world before h old new
      → ReceivesInTime old h
  -- What an end of an ordered channel took as acknowledged is a beginning of what it sent, equal in every field (ICS 4,
  -- acknowledgePacket).
  pub acknowledged_in_order : AcknowledgesInOrder (happened_in world) (states_of world)
  -- A CLOSED end stays CLOSED, and sends, receives and acknowledges nothing. It may time out a packet that it sent and
  -- that was not settled (ICS 4, closing handshake).
  pub closed_is_silent : (before : List Happened) (h : Happened) (old new : World) → IsMomentOf world before h old new
      → SilencesClosed old h new
  -- An end without a peer takes nothing: whatever an end received, acknowledged or timed out, it has a peer (ICS 4,
  -- recvPacket, acknowledgePacket and timeoutPacket).
  pub taken_of_peer : TakesOfPeers (happened_in world) (states_of world)
  -- Peers agree on the channel's order and version (ICS 4, opening handshake).
  pub peers_agree : (e f : End) (mine theirs : Channel) → ArePeers world e f → end_at (states_of world) e ≡ Some mine
      → end_at (states_of world) f ≡ Some theirs → Agree mine theirs
  -- The supply of a base denomination on a chain, escrows included, is what the genesis gave (ICS 20, total supply).
  pub supply_stays : (chain : ℕ) (denom : Text) → IsTrue (is_base_denom denom)
      → supply_at (states_of world) chain denom ≡ supply_at (start world.genesis) chain denom
  -- No voucher without escrow: whatever else a chain holds came over one of its channels, whose peer holds as much of
  -- it in escrow (ICS 20).
  pub backed : (chain : ℕ) (denom : Text) → 1 ≤ supply_at (states_of world) chain denom
      → IsTrue (is_base_denom denom) ⊎ IsBacked (states_of world) chain denom
  -- A user's balance falls only by an accepted transfer of that user, and by no more than it sends.
  pub who_pays : (before : List Happened) (h : Happened) (old new : World) (chain : ℕ) (user denom : Text)
      → IsMomentOf world before h old new → IsTrue (is_user user)
      → balance_at old chain user denom ≤ balance_at new chain user denom + amount_paid_by chain user denom h
  -- It changes by just what the user receives, gets back and sends: what is received is paid to the receiver that the
  -- packet's data names, and a refund to the sender that it names (ICS 20, onRecvPacket and refundTokens).
  pub who_is_paid : (before : List Happened) (h : Happened) (old new : World) (chain : ℕ) (user denom : Text)
      → IsMomentOf world before h old new → IsTrue (is_user user)
      → balance_at new chain user denom + amount_paid_by chain user denom h
      ≡ balance_at old chain user denom + amount_received_by old chain user denom h + amount_refunded_to old chain user denom h
  -- So it is what the genesis gave, with all that the user received and got back, less all that the user sent.
  pub each_balance : (chain : ℕ) (user denom : Text) → IsTrue (is_user user)
      → balance_at (states_of world) chain user denom + sum_by (amount_paid_by chain user denom) (happened_in world)
      ≡ balance_at (start world.genesis) chain user denom
      + sum_by (amount_received_by (states_of world) chain user denom) (happened_in world)
      + sum_by (amount_refunded_to (states_of world) chain user denom) (happened_in world)
  -- The notes that a chain keeps under a channel are those of the packets that the channel's end received, in order.
  pub notes_are_received : (chain : ℕ) (channel : Text)
      → notes_at (states_of world) chain channel ≡ payloads (received_packets (note_end chain channel) (happened_in world))
  -- A note that is kept stays, at its place.
  pub notes_stay : (before : List Happened) (h : Happened) (old new : World) (chain : ℕ) (channel : Text)
      → IsMomentOf world before h old new → IsFront (notes_at old chain channel) (notes_at new chain channel)
  -- The notes that are kept are the first of those that the peer sent, in the order in which it sent them.
  pub notes_were_sent : (e f : End) (mine : Channel) → ArePeers world e f → f.port ≡ note_port
      → end_at (states_of world) e ≡ Some mine
      → IsFront (notes_at (states_of world) f.chain f.channel) (payloads (sent_packets e mine (happened_in world)))

-- All of it stands where no two different texts that the chains hashed share a digest.
abbrev pub IsLawfulUnlessClash : WorldState → Type 0
IsLawfulUnlessClash world = HasNoClash world.ledgers → IsLawful world
