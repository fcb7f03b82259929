-- The names that the proofs of this crate cite, passed on from one place. Declares nothing.
pub use Rattle.std.proofs.Common.{IsErrAnd, ◌∙◌, ◌≡◌, ℕ, false, [], refl, sym, ap, subst, Result, Ok, Err, None, inl, inr, ⊎_elim, eqb, eq-eqb, ◌⊎◌, ◌+◌, true, List}
pub use Rattle.std.proofs.Common.{◌++◌, length, Option, is_some, ◌≤◌, Bool, ◌^◌, ◌<◌, ◌∷◌, Some, arith, append-nil, append_assoc, length-append, ◌-◌, map, option_map, option_and_then, unwrap_or, le-ltb, lt-ltb, le-leb, slice_get}
pub use Rattle.std.proofs.Common.{◌||◌, drop-drop, cond, is_eq, Ordering, Less, Equal, Greater, length-drop, zero, suc, drop, ltb-true, ◌&&◌, ltb, leb, get_or, take, rules, tests, option_copied}
pub use Rattle.std.proofs.lemmas.Bool.{and_from, lt-leb, and_parts, false≢true, leb-true}
pub use Rattle.std.proofs.lemmas.Iterator.{YieldsList-from_slice}
pub use Rattle.std.proofs.lemmas.List.{length-map, take_all, map-append, drop-append-le, drop-map}
pub use Rattle.std.proofs.lemmas.List.Sums.{sum_by_more, sum_by_more_le, length-filter}
pub use Rattle.std.proofs.lemmas.Option.{slice_get-map, slice_get_within, slice_get-get_or}
pub use Rattle.std.specs.List.{AllByRecursion, list_all}
pub use Rattle.std.specs.Option.{IsSomeAnd}
pub use Rattle.std.specs.Ordering.{nat_cmp, ordering_then}
pub use Rattle.std.specs.Prelude.{⊤, if◌then◌else◌, is_ok, ◌==◌, IfSome, IfOk, ◌↔◌, IsNone, IsTrue}
pub use mathlib.Core.List.{IsPrefix}
pub use Rattle.ibc_ids.proofs.Texts.{text_cmp_total, text_tied}
pub use Rattle.ibc_ids.specs.Maps.{Map, at}
pub use Rattle.ibc_ids.specs.Paths.{path, nth_channel, nth_connection, nth_client}
pub use Rattle.ibc_ids.specs.Publications.{published_by, height_of as published_height, height_of}
pub use Rattle.ibc_ids.specs.Texts.{Text, same_text, text_cmp, pair_cmp}
pub use Rattle.ibc_ids.specs.declared.publication.Publication.{Publication}
pub use Rattle.ibc_ids.specs.declared.refusal.Refusal.{Refusal}
pub use Rattle.ibc_ids.specs.declared.refusal.Refusal.TheVariants.{NoMemory, TimeBack, TableFull, NoConsensus, UnknownPort}
pub use Rattle.ibc_merkle.specs.Written.{written_proof}
pub use Rattle.ibc_wire.specs.declared.messages.Message.{Message}
pub use Rattle.ibc_wire.specs.declared.messages.RecvPacket.{RecvPacket}
pub use Rattle.ibc_wire.specs.declared.messages.UpdateClient.{UpdateClient}
pub use Rattle.ibc_wire.specs.declared.packet.Packet.{Packet}
pub use Rattle.ibc_machine.specs.chain.Applications.{on_recv, on_ack, on_timeout, with_balances, require_application, on_open, on_close}
pub use Rattle.ibc_machine.specs.ics04.Channels.{chan_close_init, chan_open_init, chan_open_try}
pub use Rattle.ibc_machine.specs.chain.Checks.{Checked, ◌>>=◌, require}
unfoldable pub use Rattle.ibc_machine.specs.chain.Checks.{go_on, and_then}
pub use Rattle.ibc_machine.specs.ics02.Clients.{update_client, create_client}
pub use Rattle.ibc_machine.specs.ics24.Evidence.{Host, Evidence, CoreHandler, Handler, core_handler}
pub use Rattle.ibc_machine.specs.chain.Genesis.{GenesisState, ChainState, starting_chain, genesis_state, chain_state, Holding, is_same_holding, is_fair, has_limits, total_of}
unfoldable pub use Rattle.ibc_machine.specs.chain.Genesis.{is_allowed}
pub use Rattle.ibc_machine.specs.chain.Handlers.{host_of, after_message, may_commit, working_height}
unfoldable pub use Rattle.ibc_machine.specs.chain.Handlers.{handle}
pub use Rattle.ibc_machine.specs.promises.Histories.{Happened, End, sent_by, packet_sent}
pub use Rattle.ibc_machine.specs.ics24.Image.{image, core_root}
pub use Rattle.ibc_machine.specs.ledger.Ledgers.{is_block_reply, Ledger, state_of, is_typed, is_looking, published_as, IsOwnEntry, chain_of, IsLedger, reading_fits, ReadsThen, IsReadBetween}
pub use Rattle.ibc_machine.specs.chain.Notes.{receive_note, note_port, opens_for_notes, closes_for_notes}
pub use Rattle.ibc_machine.specs.ics04.Packets.{recv_checked, with_received, ack_checked, timeout_checked, timeout_on_close_checked}
unfoldable pub use Rattle.ibc_machine.specs.ics04.Packets.{recv_packet, ack_packet, timeout, timeout_on_close}
pub use Rattle.ibc_machine.specs.chain.Records.{Core, Apps, Channel, commitment_of, MachineChain, Block, Commitment, channel_at, Records}
pub use Rattle.ibc_machine.specs.ledger.Replay.{LedgerState, proof_evidence, after_answer, Consensus, with_consensus, StampedEntry, empty_chain, entry_answer, met_states, starting_state, consensus_cmp, consensus_at}
unfoldable pub use Rattle.ibc_machine.specs.ledger.Replay.{ledger_answer}
pub use Rattle.ibc_machine.specs.ics20.TokenData.{tokens_of}
pub use Rattle.ibc_machine.specs.ics20.Transfers.{transfer_port, burnt_amount, receive_transfer, acknowledge_transfer, refund_transfer, opens_for_transfers, closes_for_transfers}
pub use Rattle.ibc_machine.specs.declared.entry.Reading.{Reading}
pub use Rattle.ibc_machine.specs.declared.event.Event.{Event}
pub use Rattle.ibc_machine.specs.declared.genesis.ChainStart.{ChainStart}
pub use Rattle.ibc_machine.specs.declared.genesis.Genesis.{Genesis}
pub use Rattle.ibc_machine.specs.declared.reply.Effect.{Effect}
pub use Rattle.ibc_machine.specs.declared.reply.Reply.{Reply}
pub use Rattle.ibc_path_store.specs.StoreModel.{StoreModel, store_after_commit, kept_at, excess_count, gone_after}
pub use Rattle.ibc_root_table.specs.Passes.{Sight, Publishes, own_chain, SamePass, KeepsOwn, TableName}
pub use Rattle.ibc_records.specs.RecordsModel.{RecordsModel, core_of, IsUnchanged, consensus_in, IsNew, IsStored, UpdatesClient}
pub use Rattle.ibc_records.specs.ClientModels.{ClientModel, with_height}
pub use Rattle.ibc_records.specs.HandlerContract.{IsTakenMessage, IsTakenWith, IsHandled, IsHandledWith, host_with, AreWrittenRecords}
pub use Rattle.ibc_records.specs.declared.client.ConsensusState.{ConsensusState}
pub use Rattle.ibc_records.specs.ClientReplies.{IsUpdated, consensus_of}
pub use Rattle.ibc_transfer.proofs.Flight.{same_flight, transfer_keeps_flight, transfer_many_keeps_flight, ack_keeps_flight, timeout_keeps_flight, timeout_on_close_keeps_flight}
pub use Rattle.ibc_transfer.specs.InFlight.{IsInFlight}
pub use Rattle.ibc_ledger.specs.HistoryGrowth.{AddsOrNot}
pub use Rattle.ibc_ledger.specs.MessageReplies.{result_effects, IsReady, IsAnswered, caller_reply, history_reply, IsUpdateAnswer, IsAnswer}
pub use Rattle.ibc_refinement.specs.LedgerGrowth.{with_seen, with_entry, entry_of, stamp_if, IsFittingReading, working_block, state_with, IsNext}
pub use Rattle.ibc_ledger.specs.LedgerModel.{abstract_entry, LedgerModel, shape_of}
pub use Rattle.ibc_ledger.specs.LedgerFields.{genesis_of, ledger_of, IsSoundLedger, ledger_model}
pub use Rattle.ibc_ledger.specs.SentNames.{commitment_in, packet_to, SentName, sent_cmp, is_named, Places, AreFirst, sent_name, with_first, sender_of, name_if_sent}
pub use Rattle.ibc_ledger.specs.SentPackets.{happened_of, happened_on, packet_on}
pub use Rattle.ibc_ledger.specs.ReplayedState.{abstract_apps, IsStateOf, IsReplayedState, passed_count, kept_of, starting_apps, KeepsBlocks, provable_block}
pub use Rattle.ibc_ledger.specs.declared.applications.Applications.{Applications}
pub use Rattle.ibc_ledger.specs.declared.entry.StampedEntry.{StampedEntry as KeptEntry}
pub use Rattle.ibc_ledger.specs.declared.ledger.Ledger.TheInside.{Inside}
pub use Rattle.ibc_ledger.specs.declared.host_state.HostState.{HostState}
pub use Rattle.ibc_ledger.specs.declared.outcome.EffectTwice.{EffectTwice}
