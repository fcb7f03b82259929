-- Each labelled step leaves every end of the chain with what it must know of its peer.
use Rattle.std.proofs.Common.{◌≡◌, ℕ, ◌≤◌, true, refl, ap, sym, ◌∙◌, subst, [], Option, Some, inl, inr, arith}
use Rattle.std.specs.Option.{option_map_or, option_and_then, unwrap_or}
use Rattle.ibc_ids.specs.Texts.{Text, text_cmp, pair_cmp}
use Rattle.ibc_ids.specs.Maps.{with}
use Rattle.ibc_ids.specs.Paths.{nth_connection, nth_channel}
use Rattle.ibc_wire.specs.declared.records.ConnectionState.TheVariants as conn
use Rattle.ibc_wire.specs.declared.records.ChannelState.{ChannelState}
use Rattle.ibc_wire.specs.declared.records.ChannelState.TheVariants as chan
use Rattle.ibc_wire.specs.declared.records.ConnectionEnd.{ConnectionEnd}
use Rattle.ibc_machine.specs.chain.Records.{Core, Client, Channel, client_at, connection_at, channel_at}
use Rattle.ibc_machine.specs.ics24.Evidence.{Host}
use Rattle.ibc_machine.specs.ics04.Channels.{is_open, client_of, peer_connection_of, peer_channel_of, new_channel}
use Rattle.ibc_machine.specs.chain.Machine.{World}
use Rattle.ibc_machine.proofs.SameValues.{same_connection_state_is}
use Rattle.ibc_machine.proofs.FiniteMaps.{by_text, by_pair, found_in_with}
use Rattle.ibc_laws.proofs.basics.ListPlaces.{some_is}
use Rattle.ibc_laws.proofs.steps.Told.{Told}
use Rattle.ibc_laws.proofs.steps.CoreSteps.{rank, HadChannel, their_end, CoreStep, creates_client, updates_client, starts_connection, answers_connection, confirms_connection, opens_channel, changes_channel, ChannelStep, answers, follows, closes, sends, receives, acknowledges, times_out, StartsConnection, AnswersConnection, ConfirmsConnection, SeesPeer}
use Rattle.ibc_laws.proofs.steps.Growth.{ChannelGrows, Grows-refl}
use Rattle.ibc_laws.proofs.steps.EndSteps.{IsShaped, end_grows, not_init, open_rank}
use Rattle.ibc_laws.proofs.steps.CoreShape.{CoreShaped}
use Rattle.ibc_laws.proofs.steps.WorldGrowth.{At, Shaped, WorldGrows-refl, seen_now}
use Rattle.ibc_laws.proofs.peers.PeersKnown.{ClientOf, ConnectionTo, ConnectionPeer, ChannelTo, ChannelPeer, ChannelPeer-grows, Connected, Settled}

-- each end of a chain knows of its peer what it must
pub record Peered (w : World) (x : ℕ) (core : Core) : Type 0 where
  pub connections : (k : Text) (e : ConnectionEnd) → connection_at core k ≡ Some e → ConnectionPeer w x core k e
  pub channels : (port id : Text) (m : Channel) → channel_at core port id ≡ Some m → ChannelPeer w core port id m

pub connected : (w : World) (x : ℕ) (core : Core) → CoreShaped core → Peered w x core → Connected core
connected w x core shaped h = record {
  clients = λ k c e. let p = h.connections k c e in (p.tracked, p.there);
  named = λ k c e open_. (shaped.connections k c e).named (λ i. absurd (cc (open_, i)));
}

pub settled : (m : Channel) → IsShaped m → 1 ≤ rank m.end.state → Settled m
settled m shaped ranks =
    let p = shaped.peer.named (not_init m.end.state ranks) in
    record { established = ranks; peer = p.0; named = p.1 }

module _ (w : World) (host : Host) (core : Core) (all : Shaped w) (shaped : CoreShaped core) (h : Peered w host.chain core) where
  -- ---- connections

  starts : (k : Text) (end : ConnectionEnd) → StartsConnection w host core end → ConnectionPeer w host.chain core k end
  starts k end s = record {
    tracked = s.client;
    there = s.there;
    client = λ p e.
        let seen = s.seen p e in
        subst (λ (c : Client). At w c.state.chain (ClientOf host.chain end.peer_client)) (some_is seen.1.there s.there)
        (seen_now all seen.1 (λ b t grows had. let new = grows.clients end.peer_client had.0 had.1 in (new.0, new.1, new.2 ∙ had.2)));
    back = λ o p e. absurd (s.not_open o);
  }

  answers_it : (k : Text) (mine : ConnectionEnd) (peer : Text) → AnswersConnection w host core k mine peer
      → ConnectionPeer w host.chain core k (record mine { state = conn.Open; peer_connection = Some peer })
  answers_it k mine peer s = record {
    tracked = s.sees.tracked;
    there = s.sees.there;
    client = λ p e. seen_now all s.sees (λ b t grows had.
        let new = grows.clients mine.peer_client had.1.0 had.1.1 in (new.0, new.1, new.2 ∙ had.1.2));
    back = λ o p e. subst (λ i. At w s.sees.tracked.state.chain (ConnectionTo k mine.peer_client i)) (some_is refl e)
        (seen_now all s.sees (λ b t grows had.
        let new = grows.connections peer had.0.0 had.0.1 in (new.0, new.1, new.2.client ∙ had.0.2, new.2.named k had.0.3)));
  }

  confirms_it : (k : Text) (mine : ConnectionEnd) → ConfirmsConnection w core k mine
      → ConnectionPeer w host.chain core k (record mine { state = conn.Open })
  confirms_it k mine s =
      let old = h.connections k mine s.there in
      record {
        tracked = old.tracked;
        there = old.there;
        client = λ p e. old.client p e;
        back = λ o p e. subst (λ (c : Client). At w c.state.chain (ConnectionTo k mine.peer_client p)) (some_is s.sees.there old.there)
            (subst (λ i. At w s.sees.tracked.state.chain (ConnectionTo k mine.peer_client i)) (some_is s.named e)
            (seen_now all s.sees (λ b t grows had.
            let new = grows.connections s.peer had.0 had.1 in (new.0, new.1, new.2.client ∙ had.2, new.2.named k had.3))));
      }

  with_connection_peer : (id : Text) (d : ConnectionEnd) → ConnectionPeer w host.chain core id d → (k : Text) (e : ConnectionEnd)
      → connection_at (record core { connections = with text_cmp id d core.connections }) k ≡ Some e → ConnectionPeer w host.chain core k e
  with_connection_peer id d good k e is = elim (found_in_with by_text id k d e core.connections is) [
    | inl f ↦ subst (λ i. ConnectionPeer w host.chain core i e) (sym f.0) (subst (λ z. ConnectionPeer w host.chain core id z) f.1 good)
    | inr f ↦ h.connections k e f
  ]

  -- an end of a connection after the step, as it is known before it
  pub connection_peer : (told : Told) (after : Core) → CoreStep w host core told after → (k : Text) (e : ConnectionEnd)
      → connection_at after k ≡ Some e → ConnectionPeer w host.chain core k e
  connection_peer told after (creates_client chain other free) k e is = h.connections k e is
  connection_peer told after (updates_client id client height there) k e is = h.connections k e is
  connection_peer told after (starts_connection end free s) k e is =
      with_connection_peer (nth_connection core.next_connection) end (starts (nth_connection core.next_connection) end s) k e is
  connection_peer told after (answers_connection id mine peer s) k e is =
      with_connection_peer id (record mine { state = conn.Open; peer_connection = Some peer }) (answers_it id mine peer s) k e is
  connection_peer told after (confirms_connection id mine s) k e is =
      with_connection_peer id (record mine { state = conn.Open }) (confirms_it id mine s) k e is
  connection_peer told after (opens_channel port end free s) k e is = h.connections k e is
  connection_peer _ after (changes_channel told port id mine now there s) k e is = h.connections k e is

  -- ---- channels

  -- what a proof of the peer's end says of it now
  peer_shown : (mine : Channel) (port id p : Text) (st : ChannelState) (height : ℕ)
      → SeesPeer w core mine height (HadChannel mine.end.peer_port p (their_end core mine port id st))
      → (e : ConnectionEnd) → connection_at core mine.end.connection ≡ Some e → (over : Text) → e.peer_connection ≡ Some over
      → (tracked : Client) → client_at core e.client ≡ Some tracked → At w tracked.state.chain (ChannelTo port id mine p over)
  peer_shown mine port id p st height sees e is over peer tracked there =
      let client : client_of core mine.end.connection ≡ e.client = ap (λ (o : Option ConnectionEnd). option_map_or (λ (c : ConnectionEnd). c.client) o []) is in
      let peer_is : peer_connection_of core mine.end.connection ≡ over =
      ap (λ (o : Option ConnectionEnd). unwrap_or (option_and_then (λ (c : ConnectionEnd). c.peer_connection) o) []) is ∙ ap (λ (o : Option Text). unwrap_or o []) peer in
      let same : sees.tracked ≡ tracked = some_is (subst (λ i. client_at core i ≡ Some sees.tracked) client sees.there) there in
      subst (λ (x : Client). At w x.state.chain (ChannelTo port id mine p over)) same
      (seen_now all sees (λ b t grows had.
      let new = grows.channels mine.end.peer_port p had.0 had.1 in (
        new.0,
        new.1,
        new.2.end.peer_port ∙ ap (λ x. x.peer_port) had.2,
        new.2.end.named id (ap (λ x. x.peer_channel) had.2),
        new.2.end.connection ∙ ap (λ x. x.connection) had.2 ∙ peer_is,
        new.2.end.order ∙ ap (λ x. x.order) had.2,
        new.2.end.version ∙ ap (λ x. x.version) had.2,
      )))

  open_is : (o : Option ConnectionEnd) (e : ConnectionEnd) → o ≡ Some e → is_open o ≡ true → e.state ≡ conn.Open
  open_is o e is so = same_connection_state_is e.state conn.Open (subst (λ (x : Option ConnectionEnd). is_open x ≡ true) is so)

  -- an end that was established and goes on
  carried : (port id : Text) (m n : Channel) → channel_at core port id ≡ Some m → ChannelGrows m n → 1 ≤ rank m.end.state
      → ChannelPeer w core port id n
  carried port id m n there grows ranks =
      ChannelPeer-grows port id m n (WorldGrows-refl w) (Grows-refl core) (connected w host.chain core shaped h) grows
      (inl (not_init m.end.state ranks)) (λ _. settled m (shaped.channels port id m there) ranks) (h.channels port id m there)

  step_peer : (port id : Text) (m : Channel) (told : Told) (n : Channel) → channel_at core port id ≡ Some m
      → ChannelStep w host core port id m told n → ChannelGrows m n → ChannelPeer w core port id n
  step_peer port id m told n there (answers peer s) grows =
      let old = h.channels port id m there in
      record {
        connection = old.connection;
        there = old.there;
        over_open = λ f. open_is (connection_at core m.end.connection) old.connection old.there s.over_open;
        back = λ ranks q over named back tracked there.
            subst (λ i. At w tracked.state.chain (ChannelTo port id m i over)) (some_is refl named)
            (peer_shown m port id peer chan.TryOpen s.height s.sees old.connection old.there over back tracked there);
      }
  step_peer port id m told n there (follows state s) grows =
      let old = h.channels port id m there in
      record {
        connection = old.connection;
        there = old.there;
        over_open = λ f. old.over_open s.answered;
        back = λ ranks q over named back tracked there.
            subst (λ i. At w tracked.state.chain (ChannelTo port id m i over)) (ap (λ (o : Option Text). unwrap_or o []) named)
            (peer_shown m port id (peer_channel_of m.end) state s.height s.sees old.connection old.there over back tracked there);
      }
  step_peer port id m told n there (closes s may) grows =
      carried port id m n there grows (let z = open_rank m.end.state s in omega arith)
  step_peer port id m told n there (sends c s) grows =
      carried port id m n there grows (let z = open_rank m.end.state s in omega arith)
  step_peer port id m told n there (receives p ack r) grows =
      carried port id m n there grows (let z = open_rank m.end.state r.state in omega arith)
  step_peer port id m told n there (acknowledges p s) grows = carried port id m n there grows s.settles.settled
  step_peer port id m told n there (times_out p s) grows = carried port id m n there grows s.settles.settled

  with_channel_peer : (port id : Text) (d : Channel) → ChannelPeer w core port id d → (p q : Text) (m : Channel)
      → channel_at (record core { channels = with pair_cmp (port, id) d core.channels }) p q ≡ Some m → ChannelPeer w core p q m
  with_channel_peer port id d good p q m is = elim (found_in_with by_pair (port, id) (p, q) d m core.channels is) [
    | inl f ↦ subst (λ (i : Text × Text). ChannelPeer w core i.0 i.1 m) (sym f.0) (subst (λ z. ChannelPeer w core port id z) f.1 good)
    | inr f ↦ h.channels p q m f
  ]

  -- an end of a channel after the step, as it is known before it
  pub channel_peer : (told : Told) (after : Core) → CoreStep w host core told after → (port id : Text) (m : Channel)
      → channel_at after port id ≡ Some m → ChannelPeer w core port id m
  channel_peer told after (creates_client chain other free) p q m is = h.channels p q m is
  channel_peer told after (updates_client id client height there) p q m is = h.channels p q m is
  channel_peer told after (starts_connection end free s) p q m is = h.channels p q m is
  channel_peer told after (answers_connection id mine peer s) p q m is = h.channels p q m is
  channel_peer told after (confirms_connection id mine s) p q m is = h.channels p q m is
  channel_peer told after (opens_channel port end free s) p q m is =
      with_channel_peer port (nth_channel core.next_channel) (new_channel end)
      (record {
        connection = s.connection;
        there = s.there;
        over_open = s.over_open;
        back = λ ranks p over named back t there. let z = s.unopened in absurd (omega arith);
      }) p q m is
  channel_peer _ after (changes_channel told port id mine now there s) p q m is =
      with_channel_peer port id now (step_peer port id mine told now there s
      (end_grows w host core port id mine (shaped.channels port id mine there) told now s)) p q m is
