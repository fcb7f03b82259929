-- What an accepted message that opens or closes a channel did.
use Rattle.std.proofs.Common.{◌≡◌, ℕ, Bool, refl, ap, Some, None, ◌≤◌, ◌⊎◌, inl, inr, arith}
use Rattle.ibc_wire.specs.declared.records.ConnectionState.TheVariants as conn
use Rattle.ibc_wire.specs.declared.records.ConnectionEnd.{ConnectionEnd}
use Rattle.ibc_wire.specs.declared.records.ChannelState.{ChannelState}
use Rattle.ibc_wire.specs.declared.records.ChannelState.TheVariants as chan
use Rattle.ibc_wire.specs.declared.messages.Message.TheVariants as message
use Rattle.ibc_wire.specs.declared.messages.ChanOpenInit.{ChanOpenInit}
use Rattle.ibc_wire.specs.declared.messages.ChanOpenTry.{ChanOpenTry}
use Rattle.ibc_wire.specs.declared.messages.ChanOpenAck.{ChanOpenAck}
use Rattle.ibc_wire.specs.declared.messages.ChanOpenConfirm.{ChanOpenConfirm}
use Rattle.ibc_wire.specs.declared.messages.ChanCloseInit.{ChanCloseInit}
use Rattle.ibc_wire.specs.declared.messages.ChanCloseConfirm.{ChanCloseConfirm}
use Rattle.ibc_machine.specs.chain.Records.{Core, Channel}
use Rattle.ibc_machine.specs.ics24.Evidence.{Host, Evidence}
use Rattle.ibc_machine.specs.ics04.Channels.{chan_open_init, chan_open_try, chan_open_ack, chan_open_confirm, chan_close_init, chan_close_confirm, is_in_state, client_of, peer_channel_of, channel_end}
use Rattle.ibc_machine.specs.chain.Applications.{require_application, on_open, on_close}
use Rattle.ibc_machine.specs.chain.Machine.{World}
use Rattle.ibc_machine.proofs.PassedRows.{Gives, gives_ok, gives_then, gives_require, gives_expect}
use Rattle.ibc_machine.proofs.SameValues.{same_connection_state_is, same_channel_state_is}
use Rattle.ibc_laws.proofs.basics.PassedTests.{either}
use Rattle.ibc_laws.proofs.steps.Seen.{seeing, shown_channel}
use Rattle.ibc_laws.proofs.steps.CoreSteps.{Did, rank, their_end, opens_channel, changes_channel, answers, follows, closes}

not_yet_open : (s : ChannelState) → (s ≡ chan.TryOpen) ⊎ (s ≡ chan.Open) → (s ≡ chan.Init → ⊥) × (rank s ≤ 1)
not_yet_open s (inl e) = (λ i. absurd (cc (e, i)), (let z : rank s ≡ 0 = ap rank e in omega arith))
not_yet_open s (inr e) = (λ i. absurd (cc (e, i)), (let z : rank s ≡ 1 = ap rank e in omega arith))

module _ (window : ℕ) (oldest : Bool) (w : World) (host : Host) (core : Core) where
  -- what its clients see of other chains
  abbrev evidence : Evidence
  evidence = seeing window oldest w core

  pub chan_open_init_did : (m : ChanOpenInit)
      → Gives (Did w host core (message.ChanOpenInit m)) (chan_open_init (require_application m.port) (on_open m.port) m evidence host core)
  unfolding chan_open_init
  chan_open_init_did m =
      gives_then _ _ λ has_port. gives_expect _ _ _ λ (connection : ConnectionEnd) there. gives_then _ _ λ allowed. gives_require _ _ _ λ number.
      gives_ok (Did w host core (message.ChanOpenInit m)) _
      (opens_channel m.port (channel_end chan.Init m.order m.peer_port None m.connection m.version) number (record {
        taken = (has_port, allowed);
        connection = connection;
        there = there;
        unopened = refl;
        over_open = λ f. absurd (f refl);
        unnamed = λ e. refl;
        named = λ f. absurd (f refl);
      }))

  pub chan_open_try_did : (m : ChanOpenTry)
      → Gives (Did w host core (message.ChanOpenTry m)) (chan_open_try (require_application m.port) (on_open m.port) m evidence host core)
  unfolding chan_open_try
  chan_open_try_did m =
      gives_then _ _ λ _. gives_then _ _ λ has_port. gives_expect _ _ _ λ (connection : ConnectionEnd) there. gives_require _ _ _ λ state. gives_then _ _ λ allowed.
      gives_require _ _ _ λ number. gives_then _ _ λ _. gives_then _ _ λ _.
      gives_ok (Did w host core (message.ChanOpenTry m)) _
      (opens_channel m.port (channel_end chan.TryOpen m.order m.peer_port (Some m.peer_channel) m.connection m.version) number (record {
        taken = (has_port, allowed);
        connection = connection;
        there = there;
        unopened = refl;
        over_open = λ f. same_connection_state_is connection.state conn.Open state;
        unnamed = λ e. absurd (cc e);
        named = λ f. (m.peer_channel, refl);
      }))

  pub chan_open_ack_did : (m : ChanOpenAck) → Gives (Did w host core (message.ChanOpenAck m)) (chan_open_ack m evidence host core)
  unfolding chan_open_ack
  chan_open_ack_did m =
      gives_then _ _ λ _. gives_expect _ _ _ λ (mine : Channel) there. gives_require _ _ _ λ state. gives_require _ _ _ λ over_open. gives_then _ _ λ _. gives_require _ _ _ λ end.
      gives_ok (Did w host core (message.ChanOpenAck m)) _
      (changes_channel _ m.port m.channel mine _ there
      (answers m.peer_channel (record {
        state = same_channel_state_is mine.end.state chan.Init state;
        over_open = over_open;
        height = m.height;
        sees = shown_channel window oldest w core (client_of core mine.end.connection) m.height mine.end.peer_port m.peer_channel
            (their_end core mine m.port m.channel chan.TryOpen) m.proof end;
      })))

  pub chan_open_confirm_did : (m : ChanOpenConfirm) → Gives (Did w host core (message.ChanOpenConfirm m)) (chan_open_confirm m evidence host core)
  unfolding chan_open_confirm
  chan_open_confirm_did m =
      gives_then _ _ λ _. gives_expect _ _ _ λ (mine : Channel) there. gives_require _ _ _ λ state. gives_then _ _ λ _. gives_require _ _ _ λ end.
      let was = not_yet_open mine.end.state (inl (same_channel_state_is mine.end.state chan.TryOpen state)) in
      gives_ok (Did w host core (message.ChanOpenConfirm m)) _
      (changes_channel _ m.port m.channel mine _ there
      (follows chan.Open (record {
        answered = was.0;
        not_init = λ e. absurd (cc e);
        higher = was.1;
        height = m.height;
        sees = shown_channel window oldest w core (client_of core mine.end.connection) m.height mine.end.peer_port
            (peer_channel_of mine.end) (their_end core mine m.port m.channel chan.Open) m.proof end;
      })))

  pub chan_close_init_did : (m : ChanCloseInit) → Gives (Did w host core (message.ChanCloseInit m)) (chan_close_init (on_close m.port) m evidence host core)
  unfolding chan_close_init
  chan_close_init_did m =
      gives_expect _ _ _ λ (mine : Channel) there. gives_require _ _ _ λ state. gives_then _ _ λ may.
      gives_ok (Did w host core (message.ChanCloseInit m)) _
      (changes_channel _ m.port m.channel mine _ there (closes (same_channel_state_is mine.end.state chan.Open state) may))

  pub chan_close_confirm_did : (m : ChanCloseConfirm) → Gives (Did w host core (message.ChanCloseConfirm m)) (chan_close_confirm m evidence host core)
  unfolding chan_close_confirm
  chan_close_confirm_did m =
      gives_then _ _ λ _. gives_expect _ _ _ λ (mine : Channel) there. gives_require _ _ _ λ state. gives_then _ _ λ _. gives_require _ _ _ λ end.
      let was = not_yet_open mine.end.state (elim (either (is_in_state chan.TryOpen mine) _ state) [
        | inl s ↦ inl (same_channel_state_is mine.end.state chan.TryOpen s)
        | inr s ↦ inr (same_channel_state_is mine.end.state chan.Open s)
      ]) in
      gives_ok (Did w host core (message.ChanCloseConfirm m)) _
      (changes_channel _ m.port m.channel mine _ there
      (follows chan.Closed (record {
        answered = was.0;
        not_init = λ e. absurd (cc e);
        higher = let low = was.1 in omega arith;
        height = m.height;
        sees = shown_channel window oldest w core (client_of core mine.end.connection) m.height mine.end.peer_port
            (peer_channel_of mine.end) (their_end core mine m.port m.channel chan.Closed) m.proof end;
      })))
