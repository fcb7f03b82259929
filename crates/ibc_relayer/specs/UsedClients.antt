-- The clients over which messages go (ICS 18, "Relayer algorithm").
use Rattle.std.specs.Prelude.{◌≡◌, ◌&&◌, Bool, true, false, List, [], ◌∷◌, map, not, is_some}
use Rattle.std.specs.List.{filter, filter_map, flat_map, list_any}
use Rattle.ibc_ids.specs.Texts.{Text, same_text, text_cmp}
use Rattle.ibc_ids.specs.Maps.{Map, at}
use Rattle.ibc_wire.specs.declared.messages.Message.{Message}
use Rattle.ibc_wire.specs.declared.messages.Message.TheVariants as message
use Rattle.ibc_machine.specs.chain.Records.{Client, is_one_of}
use Rattle.ibc_machine.specs.ics18.Relay.{View, Pending, client_used, pending_at, pending_message, update_of}
use Rattle.ibc_machine.specs.ics24.Image.{core_root}

-- whether a message goes over the client
abbrev pub is_over_client : View → Text → List Pending → Bool
is_over_client b id all = list_any (λ pend. same_text (client_used b pend) id) all

-- there is a message
abbrev pub has_any : List Message → Bool
has_any [] = false
has_any (m ∷ ms) = true

-- the clients over which these messages go, and no others
abbrev pub AreUsed : View → List Pending → Map Text (Unit {0}) → Type 0
AreUsed b all used = (id : Text) → is_some (at text_cmp id used) ≡ is_over_client b id all

-- the client is used, and doesn't know a's height
abbrev pub is_to_update : View → Map Text (Unit {0}) → Text × Client → Bool
is_to_update a used entry = is_some (at text_cmp entry.0 used) && not (is_one_of entry.1.known a.height)

-- what is pending at all ends of b
abbrev pub pending_at_ends : View → View → List Pending
pending_at_ends a b = flat_map (pending_at a b) b.core.channels

-- the messages that are pending at all ends of b
abbrev pub messages_at_ends : View → View → List Message
messages_at_ends a b = filter_map (pending_message a b) (flat_map (pending_at a b) b.core.channels)

-- the updates of the clients that are used and don't know a's height
abbrev pub due_updates : View → View → Map Text (Unit {0}) → List Message
due_updates a b used = map (update_of a) (filter (is_to_update a used) b.core.clients)

-- the update of a client to a's height (ICS 2, "UpdateClient")
abbrev pub update_to : View → Text → Message
update_to a id =
    message.UpdateClient (record { client = id; header = record { chain = a.chain; height = a.height; time = a.time; root = core_root a.core } })
