-- Channels: an accepted message keeps the records typed, and the clients.
use Rattle.std.proofs.Common.{◌≡◌, ◌-◌, ◌^◌, ◌==◌, true, false, not, eqb, refl, sym, ◌∙◌, subst, Some, None, Ok, inl, inr, arith}
use Rattle.std.specs.Prelude.{⊤}
use Rattle.std.proofs.lemmas.Bool.{or_cases}
use Rattle.ibc_ids.specs.Texts.{Text}
use Rattle.ibc_ids.specs.Names.{is_channel, is_port}
use Rattle.ibc_ids.specs.Paths.{nth_channel}
use Rattle.ibc_wire.specs.Spelling.{channel_state_number}
use Rattle.ibc_wire.specs.declared.messages.ChanOpenInit.{ChanOpenInit}
use Rattle.ibc_wire.specs.declared.messages.ChanOpenTry.{ChanOpenTry}
use Rattle.ibc_wire.specs.declared.messages.ChanOpenAck.{ChanOpenAck}
use Rattle.ibc_wire.specs.declared.messages.ChanOpenConfirm.{ChanOpenConfirm}
use Rattle.ibc_wire.specs.declared.messages.ChanCloseInit.{ChanCloseInit}
use Rattle.ibc_wire.specs.declared.messages.ChanCloseConfirm.{ChanCloseConfirm}
use Rattle.ibc_wire.specs.declared.messages.Message.TheVariants as message
use Rattle.ibc_wire.specs.declared.records.ConnectionEnd.{ConnectionEnd}
use Rattle.ibc_wire.specs.declared.records.ChannelEnd.{ChannelEnd}
use Rattle.ibc_wire.specs.declared.records.ChannelState.{ChannelState}
use Rattle.ibc_wire.specs.declared.records.ChannelState.TheVariants.{Init, TryOpen, Open, Closed}
use Rattle.ibc_wire.specs.declared.records.Order.{Order}
use Rattle.ibc_machine.specs.declared.reply.Effect.TheVariants as effect
use Rattle.ibc_machine.specs.chain.Records.{Core, Channel, channel_at, with_channel}
use Rattle.ibc_machine.specs.chain.Checks.{Checked}
use Rattle.ibc_machine.specs.ics24.Evidence.{Host, Evidence}
use Rattle.ibc_machine.specs.ics04.Channels.{is_in_state, in_state, new_channel, with_new_channel, channel_end, chan_open_init, chan_open_try, chan_open_ack, chan_open_confirm, chan_close_init, chan_close_confirm}
use Rattle.ibc_machine.proofs.PassedRows.{Gives, gives_ok, gives_then, gives_require, gives_bind, gives_expect}
use Rattle.ibc_refinement.proofs.Fitting.{nth_channel_is}
use Rattle.ibc_refinement.proofs.Typed.{IsNamedPeer, IsTypedEnd, IsTypedChannel, IsTyped}
use Rattle.ibc_refinement.proofs.TypedLook.{channel_typed}
use Rattle.ibc_refinement.proofs.TypedMessages.{IsTypedMessage}
use Rattle.ibc_refinement.proofs.FitClaims.{not_init}
use Rattle.ibc_refinement.proofs.KeptTypes.{GivesKept, typed_with_channel, typed_next_channel, below_next}

-- an end with another end in it
pub typed_with_end : (c : Channel) (end : ChannelEnd) → IsTypedChannel c → IsTypedEnd end → IsTypedChannel (record c { end = end })
typed_with_end c end typed h = record {
  end = h;
  next_send = typed.next_send;
  next_recv = typed.next_recv;
  next_ack = typed.next_ack;
  commitments = typed.commitments;
  receipts = typed.receipts;
  acks = typed.acks;
}

-- an end that isn't in INIT, in another state that isn't
pub typed_in_state : (state : ChannelState) (c : Channel) → IsTypedChannel c → eqb (channel_state_number c.end.state) 1 ≡ false → eqb (channel_state_number state) 1 ≡ false
    → IsTypedChannel (in_state state c)
typed_in_state state c typed before after =
    typed_with_end c (record c.end { state = state }) typed (record {
      peer_port = typed.end.peer_port;
      peer = subst (λ b. IsNamedPeer is_channel b c.end.peer_channel) (before ∙ sym after) typed.end.peer;
      connection = typed.end.connection;
      version = typed.end.version;
    })

-- the own end in place of what it was
pub changed_typed : (core : Core) → IsTyped core → (port name : Text) (mine after : Channel) → channel_at core port name ≡ Some mine
    → (IsTypedChannel mine → IsTypedChannel after) → IsTyped (with_channel port name after core)
changed_typed core typed port name mine after there h =
    let c = channel_typed core port name mine typed there in
    typed_with_channel port name after core typed (record { port = c.port; channel = c.channel; value = h c.value })

module _ (evidence : Evidence) (host : Host) (core : Core) (typed : IsTyped core) where
  new_end : (port : Text) (end : ChannelEnd) → is_port port ≡ true → IsTypedEnd end → not (core.next_channel == 2 ^ 64 - 1) ≡ true
      → Gives (GivesKept core) (Ok (effect.Channel (nth_channel core.next_channel), with_new_channel port (nth_channel core.next_channel) end core))
  new_end port end p h number = gives_ok (GivesKept core) _ (record {
    sound = record {
      typed = typed_next_channel _ _ (typed_with_channel port (nth_channel core.next_channel) (new_channel end) core typed (record {
        port = p;
        channel = nth_channel_is core.next_channel typed.next_channel;
        value = record { end = h; next_send = omega arith; next_recv = omega arith; next_ack = omega arith; commitments = tt; receipts = tt; acks = tt };
      })) (below_next core.next_channel typed.next_channel number);
      effect = refl;
    };
    clients = refl;
  })

  changed : (port name : Text) (mine after : Channel) → channel_at core port name ≡ Some mine → (IsTypedChannel mine → IsTypedChannel after)
      → Gives (GivesKept core) (Ok (effect.None, with_channel port name after core))
  changed port name mine after there h =
      gives_ok (GivesKept core) _ (record { sound = record { typed = changed_typed core typed port name mine after there h; effect = refl }; clients = refl })

  module _ (has_port : Checked ⊤) (opens : Order → Text → Checked ⊤) where
    pub chan_open_init_kept : (m : ChanOpenInit) → IsTypedMessage (message.ChanOpenInit m) → Gives (GivesKept core) (chan_open_init has_port opens m evidence host core)
    unfolding chan_open_init
    chan_open_init_kept m t =
        gives_then _ _ λ _. gives_bind _ _ λ (connection : ConnectionEnd) _. gives_then _ _ λ _. gives_require _ _ _ λ number.
        new_end m.port (channel_end Init m.order m.peer_port None m.connection m.version) t.0 (record { peer_port = t.2; peer = tt; connection = t.1; version = t.3 }) number

    pub chan_open_try_kept : (m : ChanOpenTry) → IsTypedMessage (message.ChanOpenTry m) → Gives (GivesKept core) (chan_open_try has_port opens m evidence host core)
    unfolding chan_open_try
    chan_open_try_kept m t =
        gives_then _ _ λ _. gives_then _ _ λ _. gives_bind _ _ λ (connection : ConnectionEnd) _. gives_then _ _ λ _. gives_then _ _ λ _. gives_require _ _ _ λ number. gives_then _ _ λ _. gives_then _ _ λ _.
        new_end m.port (channel_end TryOpen m.order m.peer_port (Some m.peer_channel) m.connection m.version) t.0
        (record { peer_port = t.2; peer = t.3; connection = t.1; version = t.4 }) number

  pub chan_open_ack_kept : (m : ChanOpenAck) → IsTypedMessage (message.ChanOpenAck m) → Gives (GivesKept core) (chan_open_ack m evidence host core)
  unfolding chan_open_ack
  chan_open_ack_kept m t =
      gives_then _ _ λ _. gives_expect _ _ _ λ (mine : Channel) there. gives_then _ _ λ _. gives_then _ _ λ _. gives_then _ _ λ _. gives_then _ _ λ _.
      let after : ChannelEnd = record mine.end { state = Open; peer_channel = Some m.peer_channel } in
      changed m.port m.channel mine (record mine { end = after }) there
      (λ c. typed_with_end mine after c (record { peer_port = c.end.peer_port; peer = t.2; connection = c.end.connection; version = c.end.version }))

  pub chan_open_confirm_kept : (m : ChanOpenConfirm) → Gives (GivesKept core) (chan_open_confirm m evidence host core)
  unfolding chan_open_confirm
  chan_open_confirm_kept m =
      gives_then _ _ λ _. gives_expect _ _ _ λ (mine : Channel) there. gives_require _ _ _ λ state. gives_then _ _ λ _. gives_then _ _ λ _.
      changed m.port m.channel mine (in_state Open mine) there (λ c. typed_in_state Open mine c (not_init _ 2 refl state) refl)

  pub chan_close_init_kept : (closes : Checked ⊤) (m : ChanCloseInit) → Gives (GivesKept core) (chan_close_init closes m evidence host core)
  unfolding chan_close_init
  chan_close_init_kept closes m =
      gives_expect _ _ _ λ (mine : Channel) there. gives_require _ _ _ λ state. gives_then _ _ λ _.
      changed m.port m.channel mine (in_state Closed mine) there (λ c. typed_in_state Closed mine c (not_init _ 3 refl state) refl)

  pub chan_close_confirm_kept : (m : ChanCloseConfirm) → Gives (GivesKept core) (chan_close_confirm m evidence host core)
  unfolding chan_close_confirm
  chan_close_confirm_kept m =
      gives_then _ _ λ _. gives_expect _ _ _ λ (mine : Channel) there. gives_require _ _ _ λ state. gives_then _ _ λ _. gives_then _ _ λ _.
      let other : eqb (channel_state_number mine.end.state) 1 ≡ false =
      elim (or_cases (is_in_state TryOpen mine) (is_in_state Open mine) state) [ inl s ↦ not_init _ 2 refl s | inr s ↦ not_init _ 3 refl s ]
      in
      changed m.port m.channel mine (in_state Closed mine) there (λ c. typed_in_state Closed mine c other refl)
