use Rattle.ibc_world_core.proofs.every_world.lemma_the_laws_hold.Goals as goal

pub returns : goal.returns
returns c = record {
  laws = record {
    one_peer = c.lemma_each_end_has_one_peer.ensures;
    exactly_once = c.lemma_each_packet_is_handled_once.ensures;
    in_order = c.lemma_each_ordered_channel_delivers_in_order.ensures;
    conserved = c.lemma_escrow_equals_vouchers_and_flight.ensures;
    never_poor = c.lemma_no_refund_is_refused.ensures;
    never_short = c.lemma_no_escrow_is_short.ensures;
  };
  each_moment = c.lemma_each_event_has_its_moment.ensures;
  was_never_short = c.lemma_no_escrow_was_short.ensures;
  received_was_sent = c.lemma_what_is_received_was_sent.ensures;
  taken_as_written = c.lemma_acknowledgements_are_taken_as_written.ensures;
  settled_was_sent = c.lemma_what_is_settled_was_sent.ensures;
  received_in_time = c.lemma_nothing_is_received_late.ensures;
  acknowledged_in_order = c.lemma_acknowledgements_are_taken_in_order.ensures;
  closed_is_silent = c.lemma_a_closed_end_is_silent.ensures;
  taken_of_peer = c.lemma_no_end_takes_without_a_peer.ensures;
  peers_agree = c.lemma_peers_agree.ensures;
  supply_stays = c.lemma_the_supply_at_home_stays.ensures;
  no_voucher_without_escrow = c.lemma_no_voucher_is_without_escrow.ensures;
  who_pays = c.lemma_only_the_sender_pays.ensures;
  who_is_paid = c.lemma_the_named_are_paid.ensures;
  each_balance = c.lemma_a_balance_is_its_history.ensures;
  notes_are_received = c.lemma_notes_are_as_received.ensures;
  notes_stay = c.lemma_notes_stay.ensures;
  notes_were_sent = c.lemma_notes_are_as_sent.ensures;
}
