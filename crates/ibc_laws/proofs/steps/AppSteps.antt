-- What the labelled step of an accepted message did to the applications' part of the records: nothing, or what
-- the application of the port did with the packet. A message that is what its type promises sends good data.
use Rattle.std.proofs.Common.{◌≡◌, refl, true, Ok, Some, ◌⊎◌, inl, inr}
use Rattle.ibc_ids.specs.Texts.{Text}
use Rattle.ibc_wire.specs.Fields.{are_typed}
use Rattle.ibc_wire.specs.Messages.{message_fields}
use Rattle.ibc_wire.specs.declared.messages.Message.{Message}
use Rattle.ibc_machine.specs.declared.reply.Effect.{Effect}
use Rattle.ibc_machine.specs.chain.Records.{Core, Apps, Records, Channel, Commitment}
use Rattle.ibc_machine.specs.ics24.Evidence.{Host}
use Rattle.ibc_machine.specs.ics20.TokenData.{Data, data_text, is_data}
use Rattle.ibc_machine.specs.ics20.Bank.{Balances}
use Rattle.ibc_machine.specs.ics20.Transfers.{transfer_port, send_token, each_token}
use Rattle.ibc_machine.specs.chain.Notes.{note_port}
use Rattle.ibc_machine.specs.chain.Applications.{with_balances, on_recv, on_ack, on_timeout}
use Rattle.ibc_machine.specs.chain.Machine.{World}
use Rattle.ibc_laws.proofs.steps.Told.{Told, Quiet, told_by}
use Rattle.ibc_laws.proofs.steps.CoreSteps.{CoreStep, creates_client, updates_client, starts_connection, answers_connection, confirms_connection, opens_channel, changes_channel, ChannelStep, answers, follows, closes, sends, receives, acknowledges, times_out}

-- the commitment spells data, whose tokens the sender paid
pub record SendsTokens (records : Records) (port id : Text) (mine : Channel) (c : Commitment) (apps : Apps) : Type 0 where
  pub port_is : port ≡ transfer_port
  pub data_sent : Data
  pub spelled : c.payload ≡ data_text mine.end.version data_sent
  pub balances : Balances
  pub paid : each_token (send_token id data_sent.sender) data_sent.tokens records.apps.balances ≡ Some balances
  pub after : apps ≡ with_balances records.apps balances

-- a note moves nothing
abbrev pub SendsNote : Records → Text → Apps → Type 0
SendsNote records port apps = (port ≡ note_port) × (apps ≡ records.apps)

module _ (w : World) (host : Host) (records : Records) (apps : Apps) where
  abbrev pub AppsOfEnd : (port id : Text) (m : Channel) (told : Told) (n : Channel) → ChannelStep w host records.core port id m told n → Type 0
  AppsOfEnd port id m told n (answers peer s) = apps ≡ records.apps
  AppsOfEnd port id m told n (follows state s) = apps ≡ records.apps
  AppsOfEnd port id m told n (closes s may) = apps ≡ records.apps
  AppsOfEnd port id m told n (sends c s) = SendsNote records port apps ⊎ SendsTokens records port id m c apps
  AppsOfEnd port id m told n (receives p ack s) = on_recv records.core port records.apps m.end.version p ≡ (ack, apps)
  AppsOfEnd port id m told n (acknowledges p s) = on_ack port records.apps m.end.version p s.ack ≡ Ok apps
  AppsOfEnd port id m told n (times_out p s) = on_timeout port records.apps m.end.version p ≡ Ok apps

  abbrev pub AppsOf : (told : Told) (after : Core) → CoreStep w host records.core told after → Type 0
  AppsOf told after (creates_client chain other free) = apps ≡ records.apps
  AppsOf told after (updates_client id client height there) = apps ≡ records.apps
  AppsOf told after (starts_connection end free s) = apps ≡ records.apps
  AppsOf told after (answers_connection id mine peer s) = apps ≡ records.apps
  AppsOf told after (confirms_connection id mine s) = apps ≡ records.apps
  AppsOf told after (opens_channel port end free s) = apps ≡ records.apps
  AppsOf _ after (changes_channel told port id mine now there s) = AppsOfEnd port id mine told now s

  -- the data that a sending of tokens spells is good
  abbrev GoodSent : (port id : Text) (m : Channel) (c : Commitment) → SendsNote records port apps ⊎ SendsTokens records port id m c apps → Type 0
  GoodSent port id m c (inl note) = Unit {0}
  GoodSent port id m c (inr tokens) = is_data m.end.version tokens.data_sent ≡ true

  abbrev pub GoodOfEnd : (port id : Text) (m : Channel) (told : Told) (n : Channel) (s : ChannelStep w host records.core port id m told n)
      → AppsOfEnd port id m told n s → Type 0
  GoodOfEnd port id m told n (answers peer s) did = Unit {0}
  GoodOfEnd port id m told n (follows state s) did = Unit {0}
  GoodOfEnd port id m told n (closes s may) did = Unit {0}
  GoodOfEnd port id m told n (sends c s) did = GoodSent port id m c did
  GoodOfEnd port id m told n (receives p ack s) did = Unit {0}
  GoodOfEnd port id m told n (acknowledges p s) did = Unit {0}
  GoodOfEnd port id m told n (times_out p s) did = Unit {0}

  abbrev pub GoodOf : (told : Told) (after : Core) (s : CoreStep w host records.core told after) → AppsOf told after s → Type 0
  GoodOf told after (creates_client chain other free) did = Unit {0}
  GoodOf told after (updates_client id client height there) did = Unit {0}
  GoodOf told after (starts_connection end free s) did = Unit {0}
  GoodOf told after (answers_connection id mine peer s) did = Unit {0}
  GoodOf told after (confirms_connection id mine s) did = Unit {0}
  GoodOf told after (opens_channel port end free s) did = Unit {0}
  GoodOf _ after (changes_channel told port id mine now there s) did = GoodOfEnd port id mine told now s did

-- the whole step of an accepted message: its label, and what it did to both parts; where the message is what its
-- type promises, the data that it sends is good
abbrev pub DidBoth : World → Host → Records → Message → Effect × Core × Apps → Type 0
DidBoth w host records m y =
    (did : CoreStep w host records.core (told_by m y.0) y.1) × (apps : AppsOf w host records y.2 (told_by m y.0) y.1 did)
    × (are_typed (message_fields m) ≡ true → GoodOf w host records y.2 (told_by m y.0) y.1 did apps)

-- a step that tells nothing, and leaves the applications alone
module _ (w : World) (host : Host) (records : Records) where
  quiet_end : (port id : Text) (m : Channel) (told : Told) (n : Channel) (s : ChannelStep w host records.core port id m told n)
      → told ≡ Quiet → AppsOfEnd w host records records.apps port id m told n s
  quiet_end port id m told n (answers peer s) e = refl
  quiet_end port id m told n (follows state s) e = refl
  quiet_end port id m told n (closes s may) e = refl
  quiet_end port id m told n (sends c s) e = absurd (cc e)
  quiet_end port id m told n (receives p ack s) e = absurd (cc e)
  quiet_end port id m told n (acknowledges p s) e = absurd (cc e)
  quiet_end port id m told n (times_out p s) e = absurd (cc e)

  pub quiet_apps : (told : Told) (after : Core) (s : CoreStep w host records.core told after) → told ≡ Quiet
      → AppsOf w host records records.apps told after s
  quiet_apps told after (creates_client chain other free) e = refl
  quiet_apps told after (updates_client id client height there) e = refl
  quiet_apps told after (starts_connection end free s) e = refl
  quiet_apps told after (answers_connection id mine peer s) e = refl
  quiet_apps told after (confirms_connection id mine s) e = refl
  quiet_apps told after (opens_channel port end free s) e = refl
  quiet_apps _ after (changes_channel told port id mine now there s) e = quiet_end port id mine told now s e

  quiet_good_end : (port id : Text) (m : Channel) (told : Told) (n : Channel) (s : ChannelStep w host records.core port id m told n)
      → (is : told ≡ Quiet) → GoodOfEnd w host records records.apps port id m told n s (quiet_end port id m told n s is)
  quiet_good_end port id m told n (answers peer s) e = tt
  quiet_good_end port id m told n (follows state s) e = tt
  quiet_good_end port id m told n (closes s may) e = tt
  quiet_good_end port id m told n (sends c s) e = absurd (cc e)
  quiet_good_end port id m told n (receives p ack s) e = tt
  quiet_good_end port id m told n (acknowledges p s) e = tt
  quiet_good_end port id m told n (times_out p s) e = tt

  pub quiet_good : (told : Told) (after : Core) (s : CoreStep w host records.core told after) → (is : told ≡ Quiet)
      → GoodOf w host records records.apps told after s (quiet_apps told after s is)
  unfolding quiet_apps
  quiet_good told after (creates_client chain other free) e = tt
  quiet_good told after (updates_client id client height there) e = tt
  quiet_good told after (starts_connection end free s) e = tt
  quiet_good told after (answers_connection id mine peer s) e = tt
  quiet_good told after (confirms_connection id mine s) e = tt
  quiet_good told after (opens_channel port end free s) e = tt
  quiet_good _ after (changes_channel told port id mine now there s) e = quiet_good_end port id mine told now s e
