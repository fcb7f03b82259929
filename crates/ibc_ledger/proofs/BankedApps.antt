-- What the applications answer by the bank is what the definitions say, where the bank knows what is burnt in flight.
use Rattle.ibc_ledger.proofs.Common.{◌≡◌, ℕ, ◌≤◌, Bool, true, false, refl, sym, ap, ◌∙◌, subst, Ok, Err, if◌then◌else◌, Text, same_text, Map, Message, Packet, RecvPacket, ack_checked, timeout_checked, timeout_on_close_checked, Handler, ◌>>=◌}
use Rattle.ibc_ledger.proofs.Common.{Host, Evidence, Effect, Core, Channel, Apps, commitment_of, Checked, go_on, tokens_of, transfer_port, burnt_amount, receive_transfer, acknowledge_transfer, refund_transfer, receive_note, recv_packet}
use Rattle.ibc_ledger.proofs.Common.{recv_checked, with_received, ack_packet, timeout, timeout_on_close, on_recv, on_ack, on_timeout, with_balances, handle, core_of, IsInFlight, transfer_keeps_flight, transfer_many_keeps_flight}
use Rattle.ibc_ledger.proofs.Common.{ack_keeps_flight, timeout_keeps_flight, timeout_on_close_keeps_flight, same_flight, Applications, HostState, abstract_apps, IsReady, List}
use Rattle.ibc_wire.specs.declared.messages.AckPacket.{AckPacket}
use Rattle.ibc_wire.specs.declared.messages.Timeout.{Timeout}
use Rattle.ibc_wire.specs.declared.messages.TimeoutOnClose.{TimeoutOnClose}
use Rattle.ibc_transfer.specs.BankCallbacks.{bank_receives, bank_acknowledged, bank_times_out}
use Rattle.ibc_transfer.specs.BankTransfers.{bank_transfer, bank_transfer_many}
use Rattle.ibc_wire.specs.declared.messages.Transfer.{Transfer}
use Rattle.ibc_wire.specs.declared.messages.TransferMany.{TransferMany}
use Rattle.ibc_machine.specs.ics20.Bank.{Balances}
use Rattle.ibc_bank.specs.Moves.{BankState, burnt_of}
use Rattle.ibc_machine.specs.ics20.ReturningTokens.{SameBurnt, returned_amount}
use Rattle.ibc_machine.proofs.PassedChecks.{bind_bind}
use Rattle.ibc_machine.proofs.flight.PacketSteps.{recv_packet_burnt, ack_packet_burnt, timeout_burnt, timeout_on_close_burnt}
use Rattle.ibc_machine.proofs.flight.UnsettledPackets.{ack_covered, timeout_covered, timeout_on_close_covered}
use Rattle.ibc_transfer.proofs.ByBank.{transfer_by_bank, transfer_many_by_bank, acknowledged_by_bank, timed_out_by_bank}
use Rattle.ibc_wire.specs.declared.messages.Message.TheVariants as message
use Rattle.ibc_ledger.proofs.Answered.{put_in, put_last, settling, settled, recv_put, IsPart}

abbrev pub with_bank : HostState → BankState → Applications
with_bank old bank = record old.applications { transfers = bank }

abbrev pub with_notes : HostState → Map Text (List Text) → Applications
with_notes old notes = record old.applications { notes = notes }

-- what a packet's receipt leaves of what the application keeps
left_by : {A : Type 0} (p : Packet) (core : Core) (answer : Text → Text × A) (checked : Checked Channel) (effect : Effect) (after : Core) (left : A)
    → (checked >>= λ mine. Ok (with_received p mine core (answer mine.end.version))) ≡ Ok (effect, after, left) → (version : Text) × ((answer version).1 ≡ left)
unfolding go_on
left_by {A = A} p core answer (Ok mine) effect after left is =
    let same : with_received p mine core (answer mine.end.version) ≡ (effect, after, left) = cc in
    (mine.end.version, ap (λ (w : Effect × Core × A). w.2) same)
left_by p core answer (Err refusal) effect after left is = absurd (cc is)

module _ (old : HostState) where
  abbrev core : Core
  core = core_of old.records

  abbrev bank : BankState
  bank = old.applications.transfers

  abbrev notes : Map Text (List Text)
  notes = old.applications.notes

  abbrev put_bank : BankState → Apps
  put_bank b = abstract_apps (with_bank old b)

  abbrev put_notes : Map Text (List Text) → Apps
  put_notes n = abstract_apps (with_notes old n)

  -- ---- sending

  sends : (checked : Checked (Effect × Core × BankState))
      → ((checked >>= λ ((effect, after, left) : Effect × Core × BankState). Ok (effect, after, left.balances)) >>= λ ((effect, after, balances) : Effect × Core × Balances). Ok (effect, after, with_balances (put_bank bank) balances))
      ≡ put_last put_bank checked
  unfolding go_on
  sends checked = bind_bind checked _ _

  abbrev in_place : Checked (Effect × Core × Balances) → Checked (Effect × Core × Apps)
  in_place checked = checked >>= λ ((effect, after, balances) : Effect × Core × Balances). Ok (effect, after, with_balances (put_bank bank) balances)

  pub transfer_part : (m : Transfer) → IsReady (message.Transfer m) old → IsPart (message.Transfer m) old (with_bank old) (bank_transfer m) bank
  unfolding handle
  transfer_part m ready = record {
    here = refl;
    part = λ evidence host. ap in_place (transfer_by_bank evidence host core bank m) ∙ sends (bank_transfer m evidence host core bank);
    flight = λ evidence host effect after left e. transfer_keeps_flight evidence host core bank ready.orderly ready.flight m ready.typed e;
  }

  pub transfer_many_part : (m : TransferMany) → IsReady (message.TransferMany m) old → IsPart (message.TransferMany m) old (with_bank old) (bank_transfer_many m) bank
  unfolding handle
  transfer_many_part m ready = record {
    here = refl;
    part = λ evidence host. ap in_place (transfer_many_by_bank evidence host core bank m) ∙ sends (bank_transfer_many m evidence host core bank);
    flight = λ evidence host effect after left e. transfer_many_keeps_flight evidence host core bank ready.orderly ready.flight m ready.typed e;
  }

  -- ---- receiving

  module _ (m : RecvPacket) (ready : IsReady (message.RecvPacket m) old) where
    -- as much of each denomination is burnt in flight, by the bank and by the core
    as_burnt : burnt_amount core ≡ burnt_of bank
    as_burnt i denom = sym (ready.flight.counted denom) i

    abbrev on_port : Bool → (Text → ℕ) → Apps → Text → Text × Apps
    on_port on_transfers in_flight apps version =
        if on_transfers then (let (ack, balances) = receive_transfer in_flight apps.balances version m.packet in (ack, with_balances apps balances))
        else (let (ack, left) = receive_note apps.notes m.packet in (ack, record apps { notes = left }))

    pub recv_by_bank : same_text m.packet.destination_port transfer_port ≡ true → IsPart (message.RecvPacket m) old (with_bank old) (recv_packet bank_receives m) bank
    unfolding handle recv_packet
    recv_by_bank port = record {
      here = refl;
      part = λ evidence host. recv_put put_bank evidence host core bank bank_receives (on_recv core m.packet.destination_port) m
          (λ version. ap (λ b. on_port b (burnt_amount core) (put_bank bank) version) port ∙ ap (λ in_flight. on_port true in_flight (put_bank bank) version) as_burnt);
      flight = λ evidence host effect after left e.
          let w = left_by m.packet core (λ version. bank_receives bank version m.packet) (recv_checked m evidence host core) effect after left e in
          same_flight bank left core after ready.flight (ap (λ (b : BankState). b.burnt) (sym w.1)) (recv_packet_burnt bank_receives evidence host core m bank ready.orderly e);
    }

    pub recv_by_notes : same_text m.packet.destination_port transfer_port ≡ false
        → IsPart (message.RecvPacket m) old (with_notes old) (recv_packet (λ notes version p. receive_note notes p) m) notes
    unfolding handle
    recv_by_notes port = record {
      here = refl;
      part = λ evidence host. recv_put put_notes evidence host core notes (λ notes version p. receive_note notes p) (on_recv core m.packet.destination_port) m
          (λ version. ap (λ b. on_port b (burnt_amount core) (put_notes notes) version) port);
      flight = λ evidence host effect after left e.
          same_flight bank bank core after ready.flight refl (recv_packet_burnt (λ notes version p. receive_note notes p) evidence host core m notes ready.orderly e);
    }

  -- ---- settling

  settles : (checked : Checked BankState) → ((checked >>= λ left. Ok left.balances) >>= λ balances. Ok (with_balances (put_bank bank) balances)) ≡ put_in put_bank checked
  unfolding go_on
  settles checked = bind_bind checked _ _

  -- what goes back over the channel was burnt
  abbrev IsCovered : (Text → ℕ) → Text → Packet → Type 0
  IsCovered in_flight version p = (denom : Text) → returned_amount p.source_channel (tokens_of version (commitment_of p)) denom ≤ in_flight denom

  module _ (flight : IsInFlight bank core) (version : Text) (p : Packet) where
    covers : IsCovered (burnt_amount core) version p → IsCovered (burnt_of bank) version p
    covers covered denom = subst (λ n. returned_amount p.source_channel (tokens_of version (commitment_of p)) denom ≤ n) (sym (flight.counted denom)) (covered denom)

    acknowledged_plain : (port ack : Text) → same_text port transfer_port ≡ true → IsCovered (burnt_amount core) version p
        → on_ack port (put_bank bank) version p ack ≡ put_in put_bank (bank_acknowledged bank version p ack)
    acknowledged_plain port ack is covered =
        ap (λ b. if b then (acknowledge_transfer bank.balances version p ack >>= λ balances. Ok (with_balances (put_bank bank) balances)) else Ok (put_bank bank)) is
        ∙ ap (λ (x : Checked Balances). x >>= λ balances. Ok (with_balances (put_bank bank) balances)) (acknowledged_by_bank bank version p ack flight.sorted (covers covered))
        ∙ settles (bank_acknowledged bank version p ack)

    timed_out_plain : (port : Text) → same_text port transfer_port ≡ true → IsCovered (burnt_amount core) version p
        → on_timeout port (put_bank bank) version p ≡ put_in put_bank (bank_times_out bank version p)
    timed_out_plain port is covered =
        ap (λ b. if b then (refund_transfer bank.balances version p >>= λ balances. Ok (with_balances (put_bank bank) balances)) else Ok (put_bank bank)) is
        ∙ ap (λ (x : Checked Balances). x >>= λ balances. Ok (with_balances (put_bank bank) balances)) (timed_out_by_bank bank version p flight.sorted (covers covered))
        ∙ settles (bank_times_out bank version p)

  module _ (m : Message) (ready : IsReady m old) (checked : Evidence → Host → Checked Channel) (next : Channel → Core) where
    -- by the bank
    bank_settles : (handler : Handler BankState) (plain : Channel → Checked Apps) (banked : Channel → Checked BankState)
        → ((evidence : Evidence) (host : Host) → handle m evidence host core (put_bank bank) ≡ settling (checked evidence host) next plain)
        → ((evidence : Evidence) (host : Host) → handler evidence host core bank ≡ settling (checked evidence host) next banked)
        → ((evidence : Evidence) (host : Host) (mine : Channel) → checked evidence host ≡ Ok mine → plain mine ≡ put_in put_bank (banked mine))
        → ((evidence : Evidence) (host : Host) (effect : Effect) (after : Core) (left : BankState) → handler evidence host core bank ≡ Ok (effect, after, left) → IsInFlight left after)
        → IsPart m old (with_bank old) handler bank
    bank_settles handler plain banked whole part same flight = record {
      here = refl;
      part = λ evidence host. whole evidence host ∙ settled put_bank banked plain next (checked evidence host) (same evidence host) ∙ ap (put_last put_bank) (sym (part evidence host));
      flight = flight;
    }

    -- the notes stay
    notes_settle : (handler : Handler (Map Text (List Text))) (on_transfers : Bool) (transfers : Channel → Checked Apps) → on_transfers ≡ false
        → ((evidence : Evidence) (host : Host) → handle m evidence host core (put_notes notes) ≡ settling (checked evidence host) next (λ mine. if on_transfers then transfers mine else Ok (put_notes notes)))
        → ((evidence : Evidence) (host : Host) → handler evidence host core notes ≡ settling (checked evidence host) next (λ _. Ok notes))
        → ((evidence : Evidence) (host : Host) (effect : Effect) (after : Core) (left : Map Text (List Text)) → handler evidence host core notes ≡ Ok (effect, after, left) → SameBurnt core after)
        → IsPart m old (with_notes old) handler notes
    unfolding go_on
    notes_settle handler on_transfers transfers other whole part same = record {
      here = refl;
      part = λ evidence host. whole evidence host
          ∙ settled put_notes (λ _. Ok notes) (λ mine. if on_transfers then transfers mine else Ok (put_notes notes)) next (checked evidence host) (λ mine passed. ap (λ b. if b then transfers mine else Ok (put_notes notes)) other)
          ∙ ap (put_last put_notes) (sym (part evidence host));
      flight = λ evidence host effect after left e. same_flight bank bank core after ready.flight refl (same evidence host effect after left e);
    }

  pub ack_by_bank : (m : AckPacket) → IsReady (message.AckPacket m) old → same_text m.packet.source_port transfer_port ≡ true → IsPart (message.AckPacket m) old (with_bank old) (ack_packet bank_acknowledged m) bank
  unfolding handle ack_packet
  ack_by_bank m ready port =
      bank_settles (message.AckPacket m) ready (λ evidence host. ack_checked m evidence host core) _ _ _ _ (λ evidence host. refl) (λ evidence host. refl)
      (λ evidence host mine passed. acknowledged_plain ready.flight mine.end.version m.packet m.packet.source_port m.ack port (ack_covered evidence host core m mine port passed))
      (λ evidence host effect after left e. ack_keeps_flight evidence host core bank ready.orderly ready.flight m port e)

  pub ack_by_notes : (m : AckPacket) → IsReady (message.AckPacket m) old → same_text m.packet.source_port transfer_port ≡ false → IsPart (message.AckPacket m) old (with_notes old) (ack_packet (λ notes version p ack. Ok notes) m) notes
  unfolding handle ack_packet
  ack_by_notes m ready port =
      notes_settle (message.AckPacket m) ready (λ evidence host. ack_checked m evidence host core) _ _ (same_text m.packet.source_port transfer_port) _ port (λ evidence host. refl) (λ evidence host. refl)
      (λ evidence host effect after left e. ack_packet_burnt (λ notes version p ack. Ok notes) evidence host core m notes ready.orderly port e)

  pub timeout_by_bank : (m : Timeout) → IsReady (message.Timeout m) old → same_text m.packet.source_port transfer_port ≡ true → IsPart (message.Timeout m) old (with_bank old) (timeout bank_times_out m) bank
  unfolding handle timeout
  timeout_by_bank m ready port =
      bank_settles (message.Timeout m) ready (λ evidence host. timeout_checked m evidence host core) _ _ _ _ (λ evidence host. refl) (λ evidence host. refl)
      (λ evidence host mine passed. timed_out_plain ready.flight mine.end.version m.packet m.packet.source_port port (timeout_covered evidence host core m mine port passed))
      (λ evidence host effect after left e. timeout_keeps_flight evidence host core bank ready.orderly ready.flight m port e)

  pub timeout_by_notes : (m : Timeout) → IsReady (message.Timeout m) old → same_text m.packet.source_port transfer_port ≡ false → IsPart (message.Timeout m) old (with_notes old) (timeout (λ notes version p. Ok notes) m) notes
  unfolding handle timeout
  timeout_by_notes m ready port =
      notes_settle (message.Timeout m) ready (λ evidence host. timeout_checked m evidence host core) _ _ (same_text m.packet.source_port transfer_port) _ port (λ evidence host. refl) (λ evidence host. refl)
      (λ evidence host effect after left e. timeout_burnt (λ notes version p. Ok notes) evidence host core notes ready.orderly m port e)

  pub timeout_on_close_by_bank : (m : TimeoutOnClose) → IsReady (message.TimeoutOnClose m) old → same_text m.packet.source_port transfer_port ≡ true → IsPart (message.TimeoutOnClose m) old (with_bank old) (timeout_on_close bank_times_out m) bank
  unfolding handle timeout_on_close
  timeout_on_close_by_bank m ready port =
      bank_settles (message.TimeoutOnClose m) ready (λ evidence host. timeout_on_close_checked m evidence host core) _ _ _ _ (λ evidence host. refl) (λ evidence host. refl)
      (λ evidence host mine passed. timed_out_plain ready.flight mine.end.version m.packet m.packet.source_port port (timeout_on_close_covered evidence host core m mine port passed))
      (λ evidence host effect after left e. timeout_on_close_keeps_flight evidence host core bank ready.orderly ready.flight m port e)

  pub timeout_on_close_by_notes : (m : TimeoutOnClose) → IsReady (message.TimeoutOnClose m) old → same_text m.packet.source_port transfer_port ≡ false → IsPart (message.TimeoutOnClose m) old (with_notes old) (timeout_on_close (λ notes version p. Ok notes) m) notes
  unfolding handle timeout_on_close
  timeout_on_close_by_notes m ready port =
      notes_settle (message.TimeoutOnClose m) ready (λ evidence host. timeout_on_close_checked m evidence host core) _ _ (same_text m.packet.source_port transfer_port) _ port (λ evidence host. refl) (λ evidence host. refl)
      (λ evidence host effect after left e. timeout_on_close_burnt (λ notes version p. Ok notes) evidence host core notes ready.orderly m port e)
