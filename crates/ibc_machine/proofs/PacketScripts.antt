-- Words for packets between the first channels of two chains: sending, receiving, acknowledging and timing out.
-- Where nothing else is said, a packet's timeouts are height 1000 and no time.
use Rattle.std.specs.Prelude.{ℕ, List, [], ◌∷◌}
use Rattle.ibc_ids.specs.Texts.{Text}
use Rattle.ibc_wire.specs.declared.packet.Packet.{Packet}
use Rattle.ibc_wire.specs.declared.token.Token.{Token}
use Rattle.ibc_wire.specs.declared.messages.Message.TheVariants as message
use Rattle.ibc_machine.specs.declared.event.Event.{Event}
use Rattle.ibc_machine.specs.declared.event.Event.TheVariants as event
use Rattle.ibc_machine.specs.declared.reply.Reply.{Reply}
use Rattle.ibc_machine.specs.ics20.TokenData.{Data, data_text, success}
use Rattle.ibc_machine.proofs.Scripts.{Side, Use, for_tokens, for_several, for_notes, a, b, alice, bob, atom, atom_from_a, block, update, blocked, done, acked}

-- ---- packets

-- the n-th packet from x to y
abbrev pub packet : ℕ → ℕ → Side → Side → Use → ℕ → Text → Packet
packet height time x y it n payload = record {
  sequence = n;
  timeout_height = height;
  timeout_time = time;
  source_port = it.port;
  source_channel = x.channel;
  destination_port = it.port;
  destination_channel = y.channel;
  payload = payload;
}

-- ---- tokens of one denomination

-- x's user sends so much of a denomination to a receiver at x's peer
abbrev pub send_until : ℕ → ℕ → Side → Text → ℕ → Text → Text → Event
send_until height time x user amount denom receiver =
    event.Message x.number (message.Transfer (record {
      channel = x.channel;
      user = user;
      denom = denom;
      amount = amount;
      receiver = receiver;
      memo = [];
      timeout_height = height;
      timeout_time = time;
    }))

abbrev pub send : Side → Text → ℕ → Text → Text → Event
send = send_until 1000 0

abbrev pub tokens_data : Text → List Token → Text → Data
tokens_data user all receiver = record { tokens = all; memo = []; receiver = receiver; sender = user }

abbrev pub token_data : Text → ℕ → Text → Text → Data
token_data user amount denom receiver = tokens_data user (record { denom = denom; amount = amount } ∷ []) receiver

-- the packet that such a transfer sends
abbrev pub tokens_until : ℕ → ℕ → Side → Side → ℕ → Text → ℕ → Text → Text → Packet
tokens_until height time x y n user amount denom receiver =
    packet height time x y for_tokens n (data_text for_tokens.version (token_data user amount denom receiver))

abbrev pub tokens : Side → Side → ℕ → Text → ℕ → Text → Text → Packet
tokens = tokens_until 1000 0

-- alice's 100 atom for bob, and back
abbrev pub there : Packet
there = tokens a b 1 alice 100 atom bob

abbrev pub back : Packet
back = tokens b a 1 bob 100 atom_from_a alice

-- ---- tokens of several denominations

abbrev pub send_many : Side → Text → List Token → Text → Event
send_many x user all receiver =
    event.Message x.number (message.TransferMany (record {
      channel = x.channel;
      user = user;
      tokens = all;
      receiver = receiver;
      memo = [];
      timeout_height = 1000;
      timeout_time = 0;
    }))

abbrev pub many_tokens : Side → Side → ℕ → Text → List Token → Text → Packet
many_tokens x y n user all receiver =
    packet 1000 0 x y for_several n (data_text for_several.version (tokens_data user all receiver))

-- ---- notes

abbrev pub note_until : ℕ → ℕ → Side → Text → Event
note_until height time x text =
    event.Message x.number (message.SendNote (record {
      channel = x.channel;
      payload = text;
      timeout_height = height;
      timeout_time = time;
    }))

abbrev pub note : Side → Text → Event
note = note_until 1000 0

abbrev pub noted_until : ℕ → ℕ → ℕ → Text → Packet
noted_until height time n text = packet height time a b for_notes n text

-- the n-th packet of notes from a to b
abbrev pub noted : ℕ → Text → Packet
noted = noted_until 1000 0

-- ---- what becomes of a packet; proofs are of the peer's height h

abbrev pub recv : Side → Packet → ℕ → Event
recv x p h = event.Message x.number (message.RecvPacket (record { packet = p; height = h; proof = [] }))

abbrev pub ack : Side → Packet → Text → ℕ → Event
ack x p text h = event.Message x.number (message.AckPacket (record { packet = p; ack = text; height = h; proof = [] }))

-- the peer receives next_recv next, which is said on ordered channels only
abbrev pub time_out : Side → Packet → ℕ → ℕ → Event
time_out x p next_recv h =
    event.Message x.number (message.Timeout (record {
      packet = p;
      next_recv = next_recv;
      height = h;
      proof = [];
    }))

abbrev pub time_out_closed : Side → Packet → ℕ → ℕ → Event
time_out_closed x p next_recv h =
    event.Message x.number (message.TimeoutOnClose (record {
      packet = p;
      next_recv = next_recv;
      height = h;
      proof = [];
      proof_close = [];
    }))

-- x's packet is committed in x's height h, received by y with success, and acknowledged from y's height k
abbrev pub relayed : Side → Side → Packet → ℕ → ℕ → List Event
relayed x y p h k = block x ∷ update y x h ∷ recv y p h ∷ block y ∷ update x y k ∷ ack x p success k ∷ []

-- what these six steps answer
abbrev pub arrived : ℕ → ℕ → List Reply
arrived h k = blocked h ∷ done ∷ acked success ∷ blocked k ∷ done ∷ done ∷ []
