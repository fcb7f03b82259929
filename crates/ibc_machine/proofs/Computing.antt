-- One name that opens every definition of the machine: `unfolding computing` lets a fact compute.
use Rattle.std.specs.Prelude.{⊤}
use Rattle.std.specs.Fmt.{digits}
use Rattle.ibc_wire.specs.Reading.{proof_of}
use Rattle.ibc_merkle.specs.Written.{written_proof}
use Rattle.ibc_machine.specs.chain.Checks.{go_on, and_then}
use Rattle.ibc_machine.specs.ics02.Clients.{create_client, update_client}
use Rattle.ibc_machine.specs.ics03.Connections.{conn_open_init, conn_open_try, conn_open_ack, conn_open_confirm}
use Rattle.ibc_machine.specs.ics04.Channels.{chan_open_init, chan_open_try, chan_open_ack, chan_open_confirm, chan_close_init, chan_close_confirm}
use Rattle.ibc_machine.specs.ics04.Packets.{sending_end, require_timeouts, recv_checked, recv_packet, ack_checked, ack_packet, timeout_checked, timeout, timeout_on_close_checked, timeout_on_close}
use Rattle.ibc_machine.specs.ics20.TokenData.{data_text, data_of}
use Rattle.ibc_machine.specs.ics20.Transfers.{receive_transfer, refund_transfer, acknowledge_transfer, send_tokens, transfer, transfer_many}
use Rattle.ibc_machine.specs.chain.Notes.{receive_note, send_note}
use Rattle.ibc_machine.specs.chain.Handlers.{handle}
use Rattle.ibc_machine.specs.ics24.Image.{image}
use Rattle.ibc_machine.specs.chain.Genesis.{is_allowed}
use Rattle.ibc_machine.specs.chain.Machine.{answer}
use Rattle.ibc_machine.specs.ledger.Replay.{ledger_answer}
use Rattle.ibc_machine.specs.promises.Peers.{are_peers}
use Rattle.ibc_machine.specs.promises.Totals.{totals}
use Rattle.ibc_machine.specs.ics18.Relay.{pending, plan}
use Rattle.sha2.specs.Sha256.{sha256, digest_bytes, hash_after, compress, rounds, schedule, first_words}

-- all but the hashing
unfoldable pub computing : ⊤
unfolding digits proof_of written_proof go_on and_then create_client update_client conn_open_init conn_open_try conn_open_ack conn_open_confirm chan_open_init chan_open_try chan_open_ack chan_open_confirm chan_close_init chan_close_confirm sending_end require_timeouts recv_checked recv_packet ack_checked ack_packet timeout_checked timeout timeout_on_close_checked timeout_on_close data_text data_of receive_transfer refund_transfer acknowledge_transfer send_tokens transfer transfer_many receive_note send_note handle image is_allowed answer ledger_answer are_peers totals pending plan
computing = tt

-- SHA-256 itself, with real digests
unfoldable pub hashing : ⊤
unfolding sha256 digest_bytes hash_after compress rounds schedule first_words
hashing = tt
