-- The messages of the step `open`, by what its two chains have given so far.
use Rattle.std.specs.Prelude.{ℕ, List, [], ◌∷◌, Option, None, Some, option_map}
use Rattle.std.specs.Option.{option_zip}
use Rattle.ibc_machine.specs.declared.reply.Effect.{Effect}
use Rattle.ibc_machine.specs.declared.reply.Effect.TheVariants as effect
use Rattle.ibc_machine.specs.declared.reply.Reply.{Reply}
use Rattle.ibc_machine.specs.declared.reply.Reply.TheVariants as reply
use Rattle.ibc_script.specs.Applications.{port_of, order_of, version_of}
use Rattle.ibc_script.specs.declared.application.Application.{Application}
use Rattle.ibc_script.specs.declared.draft.ChannelDraft.TheVariants as channel
use Rattle.ibc_script.specs.declared.draft.ClientDraft.TheVariants as client
use Rattle.ibc_script.specs.declared.draft.ConnectionDraft.TheVariants as connection
use Rattle.ibc_script.specs.declared.draft.Draft.{Draft}
use Rattle.ibc_script.specs.declared.draft.Draft.TheVariants as draft
use Rattle.ibc_script.specs.declared.draft.ProofSource.{ProofSource}
use Rattle.ibc_script.specs.declared.event_kind.EventKind.{EventKind}
use Rattle.ibc_script.specs.declared.event_kind.EventKind.TheVariants.{Message, Block}
use Rattle.ibc_wire.specs.declared.messages.MessageKind.{MessageKind}
use Rattle.ibc_wire.specs.declared.messages.MessageKind.TheVariants as kind
use Rattle.ibc_script_cli.specs.declared.opening.Handshake.{Handshake}
use Rattle.ibc_script_cli.specs.declared.opening.HandshakeParty.{HandshakeParty}
use Rattle.ibc_script_cli.specs.declared.opening.HandshakeSide.{HandshakeSide}
use Rattle.ibc_script_cli.specs.declared.opening.HandshakeSide.TheVariants.{First, Second}
use Rattle.ibc_script_cli.specs.declared.opening.drafts.DraftWriter.{DraftWriter}

-- ---- what the chains have given

-- what an accepted event gives, none where it is refused
abbrev pub effect_given_by : Reply → Option Effect
effect_given_by (reply.Ok given) = Some given
effect_given_by (reply.No refusal) = None

abbrev pub new_party : ℕ → HandshakeParty
new_party chain = record { chain = chain; client = None; connection = None; channel = None; height = 0 }

abbrev pub with_effect : Effect → HandshakeParty → HandshakeParty
with_effect (effect.Client id) p = record p { client = Some id }
with_effect (effect.Connection id) p = record p { connection = Some id }
with_effect (effect.Channel id) p = record p { channel = Some id }
with_effect (effect.Block height root) p = record p { height = height }
with_effect effect.None p = p
with_effect (effect.Sent sequence) p = p
with_effect (effect.Ack bytes) p = p

-- where the proofs of what a chain has are taken
abbrev pub origin_of : HandshakeParty → ProofSource
origin_of p = record { chain = p.chain; height = p.height }

-- ---- messages, to a chain of its own names and the peer's; none where a name isn't given

abbrev pub update_draft : HandshakeParty → HandshakeParty → Option Draft
update_draft own peer = option_map (λ id. draft.Client (client.Update id peer.height)) own.client

abbrev pub init_draft : HandshakeParty → HandshakeParty → Option Draft
init_draft own peer =
    option_map (λ clients. draft.Connection (connection.OpenInit clients.0 clients.1)) (option_zip own.client peer.client)

abbrev pub try_draft : HandshakeParty → HandshakeParty → Option Draft
try_draft own peer =
    option_map (λ names. draft.Connection (connection.OpenTry names.0.0 names.0.1 names.1 (origin_of peer)))
    (option_zip (option_zip own.client peer.client) peer.connection)

abbrev pub ack_draft : HandshakeParty → HandshakeParty → Option Draft
ack_draft own peer =
    option_map (λ ends. draft.Connection (connection.OpenAck ends.0 ends.1 (origin_of peer)))
    (option_zip own.connection peer.connection)

abbrev pub confirm_draft : HandshakeParty → HandshakeParty → Option Draft
confirm_draft own peer = option_map (λ id. draft.Connection (connection.OpenConfirm id (origin_of peer))) own.connection

abbrev pub channel_init_draft : Application → HandshakeParty → Option Draft
channel_init_draft app own =
    option_map (λ id. draft.Channel (channel.OpenInit (record {
      port = port_of app;
      order = order_of app;
      connection = id;
      peer_port = port_of app;
      version = version_of app;
    }))) own.connection

abbrev pub channel_try_draft : Application → HandshakeParty → HandshakeParty → Option Draft
channel_try_draft app own peer =
    option_map (λ names. draft.Channel (channel.OpenTry (record {
      port = port_of app;
      order = order_of app;
      connection = names.0;
      peer_port = port_of app;
      peer_channel = names.1;
      version = version_of app;
      from = origin_of peer;
    }))) (option_zip own.connection peer.channel)

abbrev pub channel_ack_draft : Application → HandshakeParty → HandshakeParty → Option Draft
channel_ack_draft app own peer =
    option_map (λ ends. draft.Channel (channel.OpenAck (port_of app) ends.0 ends.1 (origin_of peer)))
    (option_zip own.channel peer.channel)

abbrev pub channel_confirm_draft : Application → HandshakeParty → HandshakeParty → Option Draft
channel_confirm_draft app own peer =
    option_map (λ id. draft.Channel (channel.OpenConfirm (port_of app) id (origin_of peer))) own.channel

-- the message of a kind
abbrev pub draft_of : Application → MessageKind → HandshakeParty → HandshakeParty → Option Draft
draft_of app kind.CreateClient own peer = Some (draft.Client (client.Create peer.chain))
draft_of app kind.UpdateClient own peer = update_draft own peer
draft_of app kind.ConnOpenInit own peer = init_draft own peer
draft_of app kind.ConnOpenTry own peer = try_draft own peer
draft_of app kind.ConnOpenAck own peer = ack_draft own peer
draft_of app kind.ConnOpenConfirm own peer = confirm_draft own peer
draft_of app kind.ChanOpenInit own peer = channel_init_draft app own
draft_of app kind.ChanOpenTry own peer = channel_try_draft app own peer
draft_of app kind.ChanOpenAck own peer = channel_ack_draft app own peer
draft_of app kind.ChanOpenConfirm own peer = channel_confirm_draft app own peer
draft_of app _ own peer = None

-- ---- messages, by what they are made of

-- of the own chain's names
abbrev pub draft_from_own : (Application → HandshakeParty → Option Draft) → DraftWriter → Option Draft
draft_from_own make writer = make writer.application writer.own.now

-- of the names of both chains
abbrev pub draft_from_both : (Application → HandshakeParty → HandshakeParty → Option Draft) → DraftWriter → Option Draft
draft_from_both make writer = make writer.application writer.own.now writer.peer.now

-- the message of a kind
abbrev pub draft_of_kind : MessageKind → DraftWriter → Option Draft
draft_of_kind k writer = draft_of writer.application k writer.own.now writer.peer.now

-- ---- both chains

-- an `open` of which nothing is done yet
abbrev pub new_handshake : Application → ℕ → ℕ → Handshake
new_handshake app first second =
    record { application = app; first = new_party first; second = new_party second }

abbrev pub own_of : HandshakeSide → Handshake → HandshakeParty
own_of First o = o.first
own_of Second o = o.second

abbrev pub peer_of : HandshakeSide → Handshake → HandshakeParty
peer_of First o = o.second
peer_of Second o = o.first

abbrev pub turn_draft : HandshakeSide → MessageKind → Handshake → Option Draft
turn_draft side k o = draft_of o.application k (own_of side o) (peer_of side o)

abbrev pub with_effect_at : HandshakeSide → Effect → Handshake → Handshake
with_effect_at First given o = record o { first = with_effect given o.first }
with_effect_at Second given o = record o { second = with_effect given o.second }

-- ---- the turns

-- Clients of each other, then a connection (ICS 3, "Opening Handshake"), then a channel over it (ICS 4, "Opening
-- handshake"). The peer is told of each height whose records a message proves.
abbrev pub turns_of_open : List (HandshakeSide × EventKind)
turns_of_open =
    (First, Message kind.CreateClient) ∷ (Second, Message kind.CreateClient)
    ∷ (First, Message kind.ConnOpenInit) ∷ (First, Block)
    ∷ (Second, Message kind.UpdateClient) ∷ (Second, Message kind.ConnOpenTry) ∷ (Second, Block)
    ∷ (First, Message kind.UpdateClient) ∷ (First, Message kind.ConnOpenAck)
    ∷ (First, Message kind.ChanOpenInit) ∷ (First, Block)
    ∷ (Second, Message kind.UpdateClient) ∷ (Second, Message kind.ConnOpenConfirm)
    ∷ (Second, Message kind.ChanOpenTry) ∷ (Second, Block)
    ∷ (First, Message kind.UpdateClient) ∷ (First, Message kind.ChanOpenAck) ∷ (First, Block)
    ∷ (Second, Message kind.UpdateClient) ∷ (Second, Message kind.ChanOpenConfirm) ∷ []
