-- What a ledger says of a packet that it sent, by what it keeps.
use Rattle.ibc_ledger.proofs.Common.{◌≡◌, ◌<◌, ℕ, true, List, [], ◌∷◌, length, map, refl, sym, ap, ◌∙◌, subst, Some, None, Option, slice_get, option_map, option_and_then, ◌==◌, slice_get-map, slice_get_within, and_parts, AllByRecursion}
use Rattle.ibc_ledger.proofs.Common.{Text, pair_cmp, at, Packet, Core, Channel, channel_at, Happened, End, sent_by, packet_sent, LedgerState, StampedEntry, entry_answer, met_states, starting_state, Ledger, IsOwnEntry, chain_of}
use Rattle.ibc_ledger.proofs.Common.{is_typed, KeptEntry, Inside, abstract_entry, ledger_of, IsSoundLedger, happened_of, happened_on, packet_on, commitment_in, packet_to, SentName, sent_cmp, is_named}
use Rattle.std.specs.Option.{unwrap_or}
use Rattle.ibc_ledger.proofs.SentPlaces.{sent_at, stands_at, named_packet}

-- the events of a ledger are of its chain
own_events : (ledger : Ledger) (state : LedgerState) (history : List StampedEntry) → AllByRecursion (IsOwnEntry ledger) (met_states ledger.genesis ledger.chain ledger.seen state history)
    → AllByRecursion (λ (h : Happened). (chain_of h.0 == ledger.chain) ≡ true) (map happened_of history)
own_events ledger state [] own = tt
own_events ledger state (e ∷ history) own = (
  (and_parts (chain_of e.entry.event == ledger.chain) (is_typed e.entry.event) own.0.event).0,
  own_events ledger (entry_answer ledger.genesis ledger.chain ledger.seen state e).1 history own.1,
)

module _ (l : Inside) (held : IsSoundLedger l) (port channel : Text) (n : ℕ) where
  abbrev from : End
  from = record { chain = l.node.number; port = port; channel = channel }

  abbrev name : SentName
  name = ((port, channel), n)

  abbrev happened : List Happened
  happened = happened_on (ledger_of l)

  -- the end, as the records have it
  abbrev its_end : Option Channel
  its_end = at pair_cmp (port, channel) l.node.records.channels

  abbrev Says : Option Channel → Option Packet
  Says o = option_and_then (λ (mine : Channel). option_and_then (λ peer. packet_sent from mine happened n) mine.end.peer_channel) o

  says : packet_on (ledger_of l) port channel n ≡ Says its_end
  says = ap (λ (core : Core). Says (channel_at core port channel)) (sym held.stands.holds.core)

  module _ (mine : Channel) (is : its_end ≡ Some mine) where
    at_peer : (peer : Text) → mine.end.peer_channel ≡ Some peer → packet_on (ledger_of l) port channel n
        ≡ option_and_then (λ i. option_and_then (sent_by from mine) (slice_get happened i)) (at sent_cmp name l.sent.pairs)
    at_peer peer knows =
        says ∙ ap Says is ∙ ap (λ o. option_and_then (λ peer. packet_sent from mine happened n) o) knows
        ∙ sent_at from mine n happened (own_events (ledger_of l) (starting_state (ledger_of l).genesis l.node.number) (ledger_of l).history held.stands.is.entries) l.sent.pairs held.sent

    pub not_sent : (peer : Text) → mine.end.peer_channel ≡ Some peer → at sent_cmp name l.sent.pairs ≡ None → packet_on (ledger_of l) port channel n ≡ None
    not_sent peer knows none = at_peer peer knows ∙ ap (option_and_then (λ i. option_and_then (sent_by from mine) (slice_get happened i))) none

  -- ---- what stands at a place

  its_entry : (i : ℕ) → slice_get happened i ≡ option_map happened_of (option_map abstract_entry (slice_get l.history.items i))
  its_entry i = slice_get-map happened_of (map abstract_entry l.history.items) i ∙ ap (option_map happened_of) (slice_get-map abstract_entry l.history.items i)

  module _ (i : ℕ) (found : at sent_cmp name l.sent.pairs ≡ Some i) where
    pub within : i < length l.history.items
    within = by_entry (slice_get l.history.items i) refl (sym (its_entry i) ∙ (stands_at l.sent.pairs happened held.sent name i found).1)
      where
        by_entry : (o : Option KeptEntry) → slice_get l.history.items i ≡ o → option_map happened_of (option_map abstract_entry o) ≡ Some (stands_at l.sent.pairs happened held.sent name i found).0 → i < length l.history.items
        by_entry (Some e) is there = slice_get_within l.history.items i e is
        by_entry None is there = absurd (cc there)

    module _ (e : KeptEntry) (here : slice_get l.history.items i ≡ Some e) where
      is_there : slice_get happened i ≡ Some (happened_of (abstract_entry e))
      is_there = its_entry i ∙ ap (λ o. option_map happened_of (option_map abstract_entry o)) here

      is_named_so : is_named name (happened_of (abstract_entry e)) ≡ true
      is_named_so =
          let w = stands_at l.sent.pairs happened held.sent name i found in
          let same : w.0 ≡ happened_of (abstract_entry e) = (let s = sym w.1 ∙ is_there in cc) in
          subst (λ h. is_named name h ≡ true) same w.2

      pub was_sent : (mine : Channel) → its_end ≡ Some mine → (peer : Text) → mine.end.peer_channel ≡ Some peer
          → packet_on (ledger_of l) port channel n ≡ option_map (λ c. packet_to port channel n mine.end peer c) (commitment_in e.entry.event)
      was_sent mine is peer knows =
          at_peer mine is peer knows ∙ ap (option_and_then (λ i. option_and_then (sent_by from mine) (slice_get happened i))) found
          ∙ ap (option_and_then (sent_by from mine)) is_there ∙ named_packet from mine n (happened_of (abstract_entry e)) is_named_so
          ∙ ap (λ o. option_map (λ c. packet_to port channel n mine.end (unwrap_or o []) c) (commitment_in e.entry.event)) knows
