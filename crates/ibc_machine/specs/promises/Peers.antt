-- Which ends are peers (ICS 3 and ICS 4, "Correctness" of the handshakes).
use Rattle.std.specs.Prelude.{ℕ, Bool, false, ◌==◌, ◌&&◌, ◌||◌, Option, Some, slice_get}
use Rattle.std.specs.Option.{option_map, option_map_or, option_and_then}
use Rattle.ibc_ids.specs.Texts.{Text}
use Rattle.ibc_wire.specs.declared.records.ConnectionEnd.{ConnectionEnd}
use Rattle.ibc_machine.specs.chain.Records.{Core, Records, MachineChain, Client, Channel, client_at, connection_at, channel_at}
use Rattle.ibc_machine.specs.ics24.Values.{same_optional}
use Rattle.ibc_machine.specs.ics04.Channels.{is_established}
use Rattle.ibc_machine.specs.ics04.Packets.{has_peer}
use Rattle.ibc_machine.specs.chain.Machine.{World}
use Rattle.ibc_machine.specs.promises.Histories.{End}

abbrev pub records_of : World → ℕ → Option Records
records_of world chain = option_map (λ (c : MachineChain). c.records) (slice_get world chain)

abbrev pub end_at : World → End → Option Channel
end_at world e = option_and_then (λ records. channel_at records.core e.port e.channel) (records_of world e.chain)

-- an end with the core around it
abbrev pub end_in : End → Core → Option (Core × Channel)
end_in e core = option_map (λ mine. (core, mine)) (channel_at core e.port e.channel)

abbrev pub found_at : World → End → Option (Core × Channel)
found_at world e = option_and_then (λ records. end_in e records.core) (records_of world e.chain)

-- the connection's client tracks this chain, and it names this connection of the peer
abbrev pub is_connected_to : Core → ConnectionEnd → ℕ → Text → Bool
is_connected_to core c chain connection =
    option_map_or (λ (client : Client). client.state.chain == chain) (client_at core c.client) false
    && same_optional c.peer_connection (Some connection)

-- the end, in this core, names the other end over the other end's connection
abbrev pub names : Core → Channel → End → Channel → Bool
names core mine f theirs =
    has_peer mine f.port f.channel
    && option_map_or (λ c. is_connected_to core c f.chain theirs.end.connection)
    (connection_at core mine.end.connection) false

-- each names the other, and one of the two is OPEN or CLOSED; in a reachable world that is the one that began
abbrev pub are_paired : End → Core × Channel → End → Core × Channel → Bool
are_paired e x f y = names x.0 x.1 f y.1 && names y.0 y.1 e x.1 && (is_established x.1 || is_established y.1)

abbrev pub are_paired_if : End → Option (Core × Channel) → End → Option (Core × Channel) → Bool
are_paired_if e (Some x) f (Some y) = are_paired e x f y
are_paired_if e _ f _ = false

unfoldable pub are_peers : World → End → End → Bool
are_peers world e f = are_paired_if e (found_at world e) f (found_at world f)
