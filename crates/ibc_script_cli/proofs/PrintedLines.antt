-- Lines that are written out.
use Rattle.std.proofs.Common.{◌≡◌, Bor, codes, [], ◌∷◌, Some, None, refl}
use Rattle.std.specs.Fmt.{digits}
use Rattle.base64.specs.Rfc4648.{encode_symbols}
use Rattle.hex.specs.Hex.{encode_with}
use Rattle.ibc_ids.specs.declared.account.Account.TheVariants as account
use Rattle.ibc_ids.specs.declared.refusal.Refusal.TheVariants as refusal
use Rattle.ibc_machine.specs.declared.reply.Effect.TheVariants as effect
use Rattle.ibc_machine.specs.declared.reply.Reply.TheVariants as reply
use Rattle.ibc_script_cli.specs.Lines.{line}
use Rattle.ibc_script.specs.declared.event_kind.EventKind.TheVariants as event
use Rattle.ibc_wire.specs.declared.messages.MessageKind.TheVariants as kind
use Rattle.ibc_script_cli.specs.declared.line.Line.TheVariants as printed

-- a reference to a value
abbrev to : {T : Type 0} → T → Bor T
to x = record { ref_ptr = (0, 0); now = x }

a_client : line (printed.Reply (to (codes "a")) (event.Message kind.CreateClient) (to (reply.Ok (effect.Client (codes "inprocess-0"))))) ≡ codes "a CreateClient ok inprocess-0"
a_client = refl

a_channel : line (printed.Reply (to (codes "a")) (event.Message kind.ChanOpenInit) (to (reply.Ok (effect.Channel (codes "channel-0"))))) ≡ codes "a ChanOpenInit ok channel-0"
a_channel = refl

an_update : line (printed.Reply (to (codes "a")) (event.Message kind.UpdateClient) (to (reply.Ok effect.None))) ≡ codes "a UpdateClient ok"
an_update = refl

a_refusal : line (printed.Reply (to (codes "a")) (event.Message kind.UpdateClient) (to (reply.No refusal.NotPublished))) ≡ codes "a UpdateClient no 6"
unfolding digits
a_refusal = refl

a_block : line (printed.Reply (to (codes "b")) event.Block (to (reply.Ok (effect.Block 12 (7 ∷ []))))) ≡ codes "b Block ok 12"
unfolding digits
a_block = refl

a_sequence : line (printed.Reply (to (codes "a")) (event.Message kind.Transfer) (to (reply.Ok (effect.Sent 18446744073709551614)))) ≡ codes "a Transfer ok 18446744073709551614"
unfolding digits
a_sequence = refl

an_acknowledgement : line (printed.Reply (to (codes "a")) (event.Message kind.RecvPacket) (to (reply.Ok (effect.Ack (codes "{\"result\":\"AQ==\"}"))))) ≡ codes "a RecvPacket ok {\"result\":\"AQ==\"}"
an_acknowledgement = refl

unprintable_bytes : line (printed.Reply (to (codes "a")) (event.Message kind.RecvPacket) (to (reply.Ok (effect.Ack (31 ∷ 32 ∷ 126 ∷ 127 ∷ 255 ∷ 10 ∷ []))))) ≡ codes "a RecvPacket ok ? ~???"
unprintable_bytes = refl

nothing_asked : line (printed.Missing (to (codes "b")) (event.Message kind.ConnOpenConfirm)) ≡ codes "b ConnOpenConfirm none"
nothing_asked = refl

a_balance : line (printed.Balance (to (codes "b")) (to (account.User (codes "alice"))) (to (codes "transfer/channel-0/atom")) 340282366920938463463374607431768211455)
    ≡ codes "balance b alice transfer/channel-0/atom 340282366920938463463374607431768211455"
unfolding digits
a_balance = refl

an_escrow : line (printed.Balance (to (codes "a")) (to (account.Escrow (codes "channel-0"))) (to (codes "atom")) 1) ≡ codes "balance a escrow/transfer/channel-0 atom 1"
unfolding digits
an_escrow = refl

a_note : line (printed.Note (to (codes "b")) (to (codes "channel-0")) 1 (to (codes "n1"))) ≡ codes "note b channel-0 1 bjE="
unfolding digits encode_symbols
a_note = refl

a_root : line (printed.Root (to (codes "b")) 1 (Some (to (7 ∷ 171 ∷ [])))) ≡ codes "b root 1 07ab"
unfolding digits encode_with
a_root = refl

no_root : line (printed.Root (to (codes "b")) 2 None) ≡ codes "b root 2 none"
unfolding digits
no_root = refl

a_proof : line (printed.Prove (to (codes "b")) 1 (Some (to (1 ∷ 0 ∷ 18 ∷ [])))) ≡ codes "b prove 1 010012"
unfolding digits encode_with
a_proof = refl

no_proof : line (printed.Prove (to (codes "b")) 0 None) ≡ codes "b prove 0 none"
unfolding digits
no_proof = refl
