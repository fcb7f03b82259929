-- What an accepted step does to the balances of its chain, by cases: nothing, or tokens leave over a channel, come
-- back, or arrive over one.
use Rattle.std.proofs.Common.{◌≡◌, ℕ, true, refl, ap, sym, ◌∙◌, subst, List, Some, inl, inr}
use Rattle.ibc_ids.specs.Texts.{Text}
use Rattle.ibc_ids.specs.Names.{is_user}
use Rattle.ibc_ids.proofs.Texts.{text_same}
use Rattle.ibc_wire.specs.declared.packet.Packet.{Packet}
use Rattle.ibc_wire.specs.declared.token.Token.{Token}
use Rattle.ibc_machine.specs.chain.Records.{Core, Apps, Records, MachineChain, Channel, Commitment, channel_at}
use Rattle.ibc_machine.specs.ics24.Evidence.{Host}
use Rattle.ibc_machine.specs.chain.Handlers.{host_of}
use Rattle.ibc_machine.specs.ics20.TokenData.{Data}
use Rattle.ibc_machine.specs.ics20.Bank.{Balances}
use Rattle.ibc_machine.specs.ics20.Transfers.{transfer_port, burnt_amount, each_token, send_token, refund_token, receive_token}
use Rattle.ibc_machine.specs.chain.Machine.{World}
use Rattle.ibc_laws.proofs.steps.Told.{Told, Sent}
use Rattle.ibc_laws.proofs.steps.CoreSteps.{CoreStep, creates_client, updates_client, starts_connection, answers_connection, confirms_connection, opens_channel, changes_channel, ChannelStep, answers, follows, closes, sends, receives, acknowledges, times_out}
use Rattle.ibc_laws.proofs.steps.AppSteps.{AppsOf, AppsOfEnd}
use Rattle.ibc_laws.proofs.steps.WorldGrowth.{ChainStep, acts, ends}
use Rattle.ibc_laws.proofs.tokens.BalanceSteps.{Taking, takes, refuses, Refunding, no_data, refunds, Acknowledging, succeeds, fails, ByPort, received_balances, acknowledged_balances, timed_out_balances}
use Rattle.ibc_laws.proofs.tokens.TokenEffects.{sender_of}

-- a channel of port `transfer` stands
abbrev pub HasTransfers : Core → Text → Type 0
HasTransfers core channel = (m : Channel) × (channel_at core transfer_port channel ≡ Some m)

pub data BalancesMoved (core : Core) (told : Told) (before after : Balances) : Type 0 where
  stay : after ≡ before → BalancesMoved core told before after
  leave : (channel user : Text) (tokens : List Token) (n : ℕ) (c : Commitment) → HasTransfers core channel
      → told ≡ Sent transfer_port channel n c → each_token (send_token channel user) tokens before ≡ Some after
      → BalancesMoved core told before after
  come_back : (channel user : Text) (tokens : List Token) → HasTransfers core channel → is_user user ≡ true
      → each_token (refund_token channel user) tokens before ≡ Some after → BalancesMoved core told before after
  arrive : (in_flight : Text → ℕ) (p : Packet) (user : Text) (tokens : List Token) → HasTransfers core p.destination_channel
      → p.destination_port ≡ transfer_port → is_user user ≡ true
      → each_token (receive_token in_flight p user) tokens before ≡ Some after → BalancesMoved core told before after

module _ (w : World) (host : Host) (records : Records) (apps : Apps) where
  abbrev Has : Text → Text → Type 0
  Has port id = (m : Channel) × (channel_at records.core port id ≡ Some m)

  abbrev Did : Told → Balances → Type 0
  Did told after = BalancesMoved records.core told records.apps.balances after

  lemma_has_transfers : (port id channel : Text) → Has port id → port ≡ transfer_port → id ≡ channel → HasTransfers records.core channel
  lemma_has_transfers port id channel has is same =
      (has.0, subst (λ (x : Text × Text). channel_at records.core x.0 x.1 ≡ Some has.0) (λ i. (is i, same i)) has.1)

  lemma_refunded : (told : Told) (version : Text) (p : Packet) (after : Balances) → HasTransfers records.core p.source_channel
      → Refunding records.apps.balances version p after → Did told after
  lemma_refunded told version p _ has (no_data none) = stay refl
  lemma_refunded told version p _ has (refunds d after read moved) =
      come_back p.source_channel d.sender d.tokens has (sender_of version p.payload d read) moved

  lemma_acknowledged : (told : Told) (version : Text) (p : Packet) (ack : Text) (after : Balances) → HasTransfers records.core p.source_channel
      → Acknowledging records.apps.balances version p ack after → Did told after
  lemma_acknowledged told version p ack _ has (succeeds good) = stay refl
  lemma_acknowledged told version p ack _ has (fails after bad refund) = lemma_refunded told version p after has refund

  lemma_arrived : (told : Told) (version : Text) (p : Packet) (ack : Text) (after : Balances) → HasTransfers records.core p.destination_channel
      → p.destination_port ≡ transfer_port → Taking records.apps.balances (burnt_amount records.core) version p ack after → Did told after
  lemma_arrived told version p _ _ has to (takes d after read user moved) =
      arrive (burnt_amount records.core) p d.receiver d.tokens has to user moved
  lemma_arrived told version p _ _ has to (refuses words) = stay refl

  lemma_by_port : (told : Told) (port : Text) (P : Balances → Type 0) → (port ≡ transfer_port → P apps.balances → Did told apps.balances)
      → ByPort port records.apps.balances apps.balances P → Did told apps.balances
  lemma_by_port told port P moved (inl h) = moved (text_same port transfer_port h.0) h.1
  lemma_by_port told port P moved (inr h) = stay h.1

  lemma_same_apps : (told : Told) → apps ≡ records.apps → Did told apps.balances
  lemma_same_apps told same = stay (ap (λ (a : Apps). a.balances) same)

  lemma_end_moved : (port id : Text) (m : Channel) (told : Told) (n : Channel) → channel_at records.core port id ≡ Some m
      → (s : ChannelStep w host records.core port id m told n) → AppsOfEnd w host records apps port id m told n s → Did told apps.balances
  lemma_end_moved port id m told n there (answers peer s) did = lemma_same_apps told did
  lemma_end_moved port id m told n there (follows state s) did = lemma_same_apps told did
  lemma_end_moved port id m told n there (closes s may) did = lemma_same_apps told did
  lemma_end_moved port id m told n there (sends c s) (inl note) = lemma_same_apps told note.1
  lemma_end_moved port id m told n there (sends c s) (inr tokens) =
      let d : Data = tokens.data_sent in
      leave id d.sender d.tokens m.next_send c (lemma_has_transfers port id id (m, there) tokens.port_is refl)
      (ap (λ q. Sent q id m.next_send c) tokens.port_is)
      (tokens.paid ∙ ap (λ (a : Apps). Some a.balances) (sym tokens.after))
  lemma_end_moved port id m told n there (receives p ack s) did =
      lemma_by_port told port (Taking records.apps.balances (burnt_amount records.core) m.end.version p ack)
      (λ is. lemma_arrived told m.end.version p ack apps.balances (lemma_has_transfers port id p.destination_channel (m, there) is (sym s.to_channel)) (s.to_port ∙ is))
      (received_balances records port m.end.version p ack apps did)
  lemma_end_moved port id m told n there (acknowledges p s) did =
      lemma_by_port told port (Acknowledging records.apps.balances m.end.version p s.ack)
      (λ is. lemma_acknowledged told m.end.version p s.ack apps.balances (lemma_has_transfers port id p.source_channel (m, there) is (sym s.settles.from_channel)))
      (acknowledged_balances records.apps port m.end.version p s.ack apps did)
  lemma_end_moved port id m told n there (times_out p s) did =
      lemma_by_port told port (Refunding records.apps.balances m.end.version p)
      (λ is. lemma_refunded told m.end.version p apps.balances (lemma_has_transfers port id p.source_channel (m, there) is (sym s.settles.from_channel)))
      (timed_out_balances records.apps port m.end.version p apps did)

  lemma_core_moved : (told : Told) (after : Core) (s : CoreStep w host records.core told after) → AppsOf w host records apps told after s → Did told apps.balances
  lemma_core_moved told after (creates_client chain other free) did = lemma_same_apps told did
  lemma_core_moved told after (updates_client id client height there) did = lemma_same_apps told did
  lemma_core_moved told after (starts_connection end free s) did = lemma_same_apps told did
  lemma_core_moved told after (answers_connection id mine peer s) did = lemma_same_apps told did
  lemma_core_moved told after (confirms_connection id mine s) did = lemma_same_apps told did
  lemma_core_moved told after (opens_channel port end free s) did = lemma_same_apps told did
  lemma_core_moved _ after (changes_channel told port id mine now there s) did = lemma_end_moved port id mine told now there s did

pub lemma_balances_moved : (chains : ℕ) (w : World) (k : ℕ) (c : MachineChain) (told : Told) (d : MachineChain) → ChainStep chains w k c told d
    → BalancesMoved c.records.core told c.records.apps.balances d.records.apps.balances
lemma_balances_moved chains w k c _ d (acts told records step did) =
    lemma_core_moved w (host_of chains k c) c.records records.apps told records.core step did
lemma_balances_moved chains w k c told d (ends t later) = stay refl
