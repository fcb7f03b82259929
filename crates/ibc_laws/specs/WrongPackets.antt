-- Machines that are wrong in one place, for the laws of packets: each takes for sent, written or due what wasn't.
use Rattle.std.specs.Prelude.{◌≡◌, ℕ, ◌==◌, ◌&&◌, Bool, true, false, List, [], ◌∷◌, length, Option, Some, None, slice_get, slice_set, IsTrue}
use Rattle.std.specs.List.{Contains, list_any}
use Rattle.std.specs.Option.{option_map_or, option_and_then}
use Rattle.std.specs.Ordering.{nat_cmp}
use Rattle.ibc_ids.specs.Texts.{Text, same_text}
use Rattle.ibc_ids.specs.Maps.{at}
use Rattle.ibc_ids.specs.declared.key.Key.{Key}
use Rattle.ibc_ids.specs.declared.key.Key.TheVariants as key
use Rattle.ibc_wire.specs.declared.packet.Packet.{Packet}
use Rattle.ibc_wire.specs.declared.token.Token.{Token}
use Rattle.ibc_wire.specs.declared.messages.Message.TheVariants as message
use Rattle.ibc_machine.specs.declared.event.Event.TheVariants as event
use Rattle.ibc_machine.specs.declared.reply.Reply.{Reply}
use Rattle.ibc_machine.specs.declared.reply.Reply.TheVariants as reply
use Rattle.ibc_machine.specs.chain.Records.{Core, MachineChain, Channel, Commitment, channel_at, with_channel}
use Rattle.ibc_machine.specs.ics24.Values.{Value, CommitmentIs, AckIs, Claim, value_at, same_value}
use Rattle.ibc_machine.specs.ics24.Evidence.{Evidence}
use Rattle.ibc_machine.specs.ics04.Packets.{is_ordered}
use Rattle.ibc_machine.specs.ics20.TokenData.{one_token, tokens_of}
use Rattle.ibc_machine.specs.chain.Genesis.{GenesisState}
use Rattle.ibc_machine.specs.chain.Handlers.{message_answer, block_answer}
use Rattle.ibc_machine.specs.chain.Machine.{World, Marks, direct_evidence, block_seen, at_chain}
use Rattle.ibc_machine.specs.promises.Histories.{End, sent_packets, received_packets, acknowledged_packets, timed_out_packets, ack_written}
use Rattle.ibc_machine.specs.promises.Peers.{end_at, are_peers}
use Rattle.ibc_machine.specs.promises.Laws.{IsBeginning}
use Rattle.ibc_laws.specs.Packets.{taken_acks}
use Rattle.ibc_laws.specs.Ends.{IsSentFrom, ReceivesInTime}
use Rattle.ibc_laws.specs.Runs.{Machine, WorldStep, all_of}

-- ---- looking in another way

-- roots and proofs are taken to be what they claim: values alone are looked at
abbrev pub unhashed_marks : Marks
unhashed_marks = record { is_root = λ core root. true; is_proof = λ bytes. true; is_written = λ core key bytes. true }

-- which of another chain's records make a claim true
abbrev pub Judgement : Type 0
Judgement = Core → Claim → Bool

-- a chain that judges so
abbrev pub judging_evidence : Judgement → ℕ → World → Core → Evidence
judging_evidence holds window world core = record (direct_evidence unhashed_marks window true world core) {
  shows = λ client height claim proof.
      option_map_or (λ block. holds block.records.core claim) (block_seen world core client height) false;
}

-- the machine, but for how its chains judge
abbrev pub machine_judging : Judgement → GenesisState → Machine
machine_judging holds genesis world (event.Message k m) =
    at_chain world k
    (λ chain. message_answer (judging_evidence holds genesis.window world chain.records.core)
    (length genesis.chains) k chain m)
    (slice_get world k)
machine_judging holds genesis world (event.Block k next_time) =
    at_chain world k (λ chain. block_answer genesis.capacity chain next_time) (slice_get world k)

-- two values are taken for the same
abbrev pub Likeness : Type 0
Likeness = Option Value → Option Value → Bool

abbrev pub comparing : Likeness → Judgement
comparing alike core claim = alike (value_at core claim.key) claim.value

-- the machine, but for how its chains compare
unfoldable pub machine_comparing : Likeness → GenesisState → Machine
machine_comparing alike = machine_judging (comparing alike)

-- ---- an end of a world, changed

abbrev pub end_of : ℕ → Text → Text → End
end_of k port channel = record { chain = k; port = port; channel = channel }

abbrev pub chain_with_end : Text → Text → (Channel → Channel) → MachineChain → MachineChain
chain_with_end port channel change chain =
    option_map_or (λ mine. record chain {
      records = record chain.records { core = with_channel port channel (change mine) chain.records.core };
    }) (channel_at chain.records.core port channel) chain

abbrev pub with_end : World → End → (Channel → Channel) → World
with_end world e change =
    option_map_or (λ chain. slice_set world e.chain (chain_with_end e.port e.channel change chain))
    (slice_get world e.chain) world

-- the reply that a changed world gives; a refusal leaves the world as it was before
abbrev pub or_as_before : World → Reply × World → Reply × World
or_as_before before (reply.Ok given, after) = (reply.Ok given, after)
or_as_before before (reply.No why, after) = (reply.No why, before)

-- ---- 1. one that compares of a packet's data amount and denomination only

abbrev pub same_token : Token → Token → Bool
same_token a b = same_text a.denom b.denom && (a.amount == b.amount)

abbrev pub same_tokens : List Token → List Token → Bool
same_tokens [] [] = true
same_tokens (a ∷ rest) (b ∷ others) = same_token a b && same_tokens rest others
same_tokens _ _ = false

abbrev pub alike_in_tokens : Likeness
alike_in_tokens (Some (CommitmentIs a)) (Some (CommitmentIs b)) =
    same_tokens (tokens_of one_token a) (tokens_of one_token b) && (a.timeout_height == b.timeout_height)
    && (a.timeout_time == b.timeout_time)
alike_in_tokens a b = same_value a b

-- so a packet is received that was never sent
pub record ReceivesWhatWasNotSent (genesis : GenesisState) (steps : List WorldStep) (world : World) : Type 0 where
  pub e : End
  pub f : End
  pub mine : Channel
  pub packet : Packet
  pub peers : IsTrue (are_peers world e f)
  pub own : end_at world e ≡ Some mine
  pub received_it : Contains (received_packets f (all_of steps)) packet
  pub not_sent : ¬ (Contains (sent_packets e mine (all_of steps)) packet)

-- ---- 2. one that takes any written acknowledgement, of whatever packet its peer wrote it

-- the peer's end wrote it under any sequence
abbrev pub is_written_ack : Core → Text → Text → Text → Bool
is_written_ack core port id ack =
    option_map_or (λ (theirs : Channel). list_any (λ (entry : ℕ × Text). same_text entry.1 ack) theirs.acks)
    (channel_at core port id) false

abbrev pub shows_any_ack : Core → Key → Option Value → Bool
shows_any_ack core (key.Acknowledgement port id n) (Some (AckIs ack)) = is_written_ack core port id ack
shows_any_ack core other value = same_value (value_at core other) value

unfoldable pub machine_taking_any_ack : GenesisState → Machine
machine_taking_any_ack = machine_judging (λ core claim. shows_any_ack core claim.key claim.value)

-- so an acknowledgement is taken that was written for another packet
pub record TakesWhatWasNotWritten (genesis : GenesisState) (steps : List WorldStep) (world : World) : Type 0 where
  pub e : End
  pub f : End
  pub packet : Packet
  pub ack : Text
  pub peers : IsTrue (are_peers world e f)
  pub took_it : Contains (taken_acks e (all_of steps)) (packet, ack)
  pub not_written : ¬ (ack_written f (all_of steps) packet.sequence ≡ Some ack)

-- ---- 3. one that reads no more of a packet that it settles than its number and its ends

abbrev pub filled : Packet → Option Commitment → Packet
filled p (Some c) =
    record p { payload = c.payload; timeout_height = c.timeout_height; timeout_time = c.timeout_time }
filled p None = p

-- the packet as it was committed to under its number
abbrev pub as_committed : World → ℕ → Packet → Packet
as_committed world k p =
    filled p (option_and_then (λ (mine : Channel). at nat_cmp p.sequence mine.commitments)
    (end_at world (end_of k p.source_port p.source_channel)))

unfoldable pub machine_reading_numbers : GenesisState → Machine
machine_reading_numbers genesis world (event.Message k (message.AckPacket m)) =
    machine_comparing same_value genesis world
    (event.Message k (message.AckPacket (record m { packet = as_committed world k m.packet })))
machine_reading_numbers genesis world (event.Message k (message.Timeout m)) =
    machine_comparing same_value genesis world
    (event.Message k (message.Timeout (record m { packet = as_committed world k m.packet })))
machine_reading_numbers genesis world (event.Message k (message.TimeoutOnClose m)) =
    machine_comparing same_value genesis world
    (event.Message k (message.TimeoutOnClose (record m { packet = as_committed world k m.packet })))
machine_reading_numbers genesis world e = machine_comparing same_value genesis world e

-- so a packet times out that was never sent
pub record SettlesWhatWasNotSent (genesis : GenesisState) (steps : List WorldStep) (world : World) : Type 0 where
  pub e : End
  pub packet : Packet
  pub timed_out_it : Contains (timed_out_packets e (all_of steps)) packet
  pub not_sent : ¬ (IsSentFrom e (all_of steps) world packet)

-- ---- 4. one whose clock stands at the beginning when it receives

abbrev pub at_the_beginning : MachineChain → MachineChain
at_the_beginning chain = record chain { time = 0; committed = [] }

abbrev pub with_clock_of : MachineChain → Reply × MachineChain → Reply × MachineChain
with_clock_of chain (given, after) = (given, record after { time = chain.time; committed = chain.committed })

unfoldable pub machine_without_clock : GenesisState → Machine
machine_without_clock genesis world (event.Message k (message.RecvPacket m)) =
    at_chain world k
    (λ chain. with_clock_of chain
    (message_answer (judging_evidence (comparing same_value) genesis.window world chain.records.core)
    (length genesis.chains) k (at_the_beginning chain) (message.RecvPacket m)))
    (slice_get world k)
machine_without_clock genesis world e = machine_comparing same_value genesis world e

-- so a packet is received that is late
pub record ReceivesLate (genesis : GenesisState) (steps : List WorldStep) (world : World) : Type 0 where
  pub step : WorldStep
  pub among : Contains steps step
  pub late : ¬ (ReceivesInTime step.0 step.1)

-- ---- 5. one that takes each acknowledgement for the next one

unfoldable pub machine_acknowledging_any : GenesisState → Machine
machine_acknowledging_any genesis world (event.Message k (message.AckPacket m)) =
    or_as_before world
    (machine_comparing same_value genesis
    (with_end world (end_of k m.packet.source_port m.packet.source_channel)
    (λ mine. record mine { next_ack = m.packet.sequence }))
    (event.Message k (message.AckPacket m)))
machine_acknowledging_any genesis world e = machine_comparing same_value genesis world e

-- so an ordered end leaves out an acknowledgement
pub record LeavesOutAnAck (genesis : GenesisState) (steps : List WorldStep) (world : World) : Type 0 where
  pub e : End
  pub mine : Channel
  pub own : end_at world e ≡ Some mine
  pub ordered : IsTrue (is_ordered mine)
  pub no_beginning : ¬ (IsBeginning (acknowledged_packets e (all_of steps)) (sent_packets e mine (all_of steps)))
