-- A packet that is sent: the tokens that go back over its channel are burnt, and in flight from then on.
use Rattle.std.proofs.Common.{◌≡◌, ℕ, ◌+◌, refl, sym, ap, ◌∙◌, [], Some, Ok, arith, true}
use Rattle.std.specs.Prelude.{IsTrue}
use Rattle.std.specs.Option.{option_map_or}
use Rattle.ibc_ids.specs.Texts.{Text, same_text}
use Rattle.ibc_ids.proofs.Texts.{text_same}
use Rattle.ibc_wire.specs.declared.messages.SendNote.{SendNote}
use Rattle.ibc_machine.specs.declared.reply.Effect.{Effect}
use Rattle.ibc_machine.specs.chain.Records.{Core, Channel, Commitment, channel_at}
use Rattle.ibc_machine.specs.ics24.Evidence.{Host, Evidence}
use Rattle.ibc_machine.specs.ics04.Packets.{sending_end, after_send, with_sent}
use Rattle.ibc_machine.specs.ics20.TokenData.{Data, is_data, tokens_of}
use Rattle.ibc_machine.specs.ics20.Transfers.{transfer_port, burnt_amount, transfer_commitment}
use Rattle.ibc_machine.specs.chain.Notes.{note_port, note_commitment, send_note}
use Rattle.ibc_machine.proofs.DataRead.{data_read}
use Rattle.ibc_machine.specs.chain.Orderly.{IsOrderly}
use Rattle.ibc_machine.specs.ics20.ReturningTokens.{returned_amount}
use Rattle.ibc_machine.proofs.PassedRows.{Gives, gives_ok, gives_then, gives_bind}
use Rattle.ibc_machine.proofs.PacketChecks.{sending_passed}
use Rattle.ibc_machine.proofs.flight.BurntSteps.{burnt_by, burnt_by-other, burnt_by-transfer, one_sent}
use Rattle.ibc_machine.proofs.flight.UnchangedChannels.{LeavesBurnt}

module _ (core : Core) (channel : Text) (mine : Channel) (c : Commitment) {effect : Effect} {after : Core} where
  -- on any port
  sent_over : (port : Text) → IsOrderly core → channel_at core port channel ≡ Some mine → with_sent port channel mine c core ≡ (effect, after)
      → (denom : Text) → burnt_amount after denom ≡ burnt_amount core denom + burnt_by port channel (tokens_of mine.end.version c) denom
  sent_over port orderly there e =
      one_sent core after port channel (after_send c mine) orderly (ap (λ (y : Effect × Core). y.1.channels) (sym e)) mine there refl c refl

  -- on port `transfer`
  pub with_sent_burnt : IsOrderly core → channel_at core transfer_port channel ≡ Some mine → with_sent transfer_port channel mine c core ≡ (effect, after)
      → (denom : Text) → burnt_amount after denom ≡ burnt_amount core denom + returned_amount channel (tokens_of mine.end.version c) denom
  with_sent_burnt orderly there e denom = sent_over transfer_port orderly there e denom
      ∙ ap (λ n. burnt_amount core denom + n) (burnt_by-transfer transfer_port channel (tokens_of mine.end.version c) denom refl)

-- the tokens of a packet are those of its data
pub tokens_of-commitment : (version : Text) (d : Data) (height time : ℕ) → IsTrue (is_data version d)
    → tokens_of version (transfer_commitment version d height time) ≡ d.tokens
tokens_of-commitment version d height time good = ap (λ o. option_map_or (λ (d : Data). d.tokens) o []) (data_read version d good)

-- the tokens of a message that go back over its channel
pub tokens_sent_burnt : (core : Core) (channel version : Text) (mine : Channel) (d : Data) (height time : ℕ) {effect : Effect} {after : Core}
    → IsOrderly core → sending_end core transfer_port channel ≡ Ok mine → same_text mine.end.version version ≡ true → IsTrue (is_data version d)
    → with_sent transfer_port channel mine (transfer_commitment version d height time) core ≡ (effect, after)
    → (denom : Text) → burnt_amount after denom ≡ burnt_amount core denom + returned_amount channel d.tokens denom
tokens_sent_burnt core channel version mine d height time orderly there same good e denom =
    let c : Commitment = transfer_commitment version d height time in
    with_sent_burnt core channel mine c orderly (sending_passed core transfer_port channel mine there).there e denom
    ∙ ap (λ v. burnt_amount core denom + returned_amount channel (tokens_of v c) denom) (text_same mine.end.version version same)
    ∙ ap (λ tokens. burnt_amount core denom + returned_amount channel tokens denom) (tokens_of-commitment version d height time good)

-- a note is no token: its port isn't the tokens'
pub send_note_burnt : (evidence : Evidence) (host : Host) (core : Core) → IsOrderly core → (m : SendNote) → Gives (LeavesBurnt core) (send_note m evidence host core)
unfolding send_note
send_note_burnt evidence host core orderly m =
    gives_bind _ _ λ (mine : Channel) is. gives_then _ _ λ _. gives_then _ _ λ _. gives_then _ _ λ _. gives_ok (LeavesBurnt core) _ (λ denom.
    let sent = sent_over core m.channel mine (note_commitment m) note_port orderly (sending_passed core note_port m.channel mine is).there refl denom in
    let none = burnt_by-other note_port m.channel (tokens_of mine.end.version (note_commitment m)) denom refl in
    omega arith)
