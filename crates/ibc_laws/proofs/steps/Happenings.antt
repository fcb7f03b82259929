-- What an event adds to the histories of an end: nothing, or the one packet that the step of the end is about.
use Rattle.std.proofs.Common.{◌≡◌, ℕ, Bool, true, false, refl, ap, ◌∙◌, subst, List, [], ◌∷◌, ◌++◌, Option, Some, None, ◌==◌, cond, filter_map, append-nil, eqb-true, Contains, arith}
use Rattle.std.specs.List.{cons_option}
use Rattle.ibc_ids.specs.Texts.{Text, same_text}
use Rattle.ibc_ids.proofs.Texts.{same_text_itself}
use Rattle.ibc_wire.specs.declared.packet.Packet.{Packet}
use Rattle.ibc_wire.specs.declared.records.ChannelEnd.{ChannelEnd}
use Rattle.ibc_machine.specs.chain.Records.{Channel, Commitment}
use Rattle.ibc_machine.specs.chain.Handlers.{host_of}
use Rattle.ibc_machine.specs.ics04.Channels.{new_channel}
use Rattle.ibc_machine.specs.ics04.Packets.{is_ordered, after_send, after_receive, after_ack, after_timeout}
use Rattle.ibc_machine.specs.chain.Machine.{World}
use Rattle.ibc_machine.specs.ledger.Ledgers.{chain_of}
use Rattle.ibc_machine.specs.promises.Histories.{Happened, End, is_end, packet_if, packet_from, sent_by, received_by, acknowledged_by, timed_out_by, sent_packets, received_packets, acknowledged_packets, timed_out_packets, history_of, sequences}
use Rattle.ibc_laws.proofs.basics.PassedTests.{and_true, number-self}
use Rattle.ibc_laws.proofs.basics.Lists.{filter-append, filter_map-append, lemma_contains_one}
use Rattle.ibc_laws.proofs.steps.Told.{Told, Sent, Received, TimedOut, told_of, is_told, sent_in, received_in, acknowledged_in, timed_out_in}
use Rattle.ibc_laws.proofs.steps.CoreSteps.{ChannelStep, answers, follows, closes, sends, receives, acknowledges, times_out, Receives, Acks, TimesOut}
use Rattle.ibc_laws.proofs.steps.EndKeeps.{SameGone, gone-same, gone-sent, gone-taken, SameSending, SameReceiving, StoodBefore, was_there, is_new, keeps_sending, keeps_receiving, same_sending, same_receiving}
use Rattle.ibc_laws.proofs.peers.Invariant.{Inv, shape_of}
use Rattle.ibc_laws.proofs.steps.AtEnds.{EndStep, untouched, opened, stepped, quiet}
use Rattle.ibc_laws.proofs.peers.Peers.{Stands, stands_same}

-- ---- one event more

abbrev pub about : {A : Type 0} → (Happened → Option A) → ℕ → List Happened → List A
about by x hs = filter_map by (history_of x hs)

module _ {A : Type 0} (by : Happened → Option A) (x : ℕ) (hs : List Happened) (h : Happened) where
  pub about-append : about by x (hs ++ h ∷ []) ≡ about by x hs ++ about by x (h ∷ [])
  about-append = ap (λ zs. filter_map by zs) (filter-append (λ (h : Happened). chain_of h.0 == x) hs (h ∷ []))
      ∙ filter_map-append by (history_of x hs) (history_of x (h ∷ []))

  pub about-more : (p : A) → chain_of h.0 ≡ x → by h ≡ Some p → about by x (hs ++ h ∷ []) ≡ about by x hs ++ p ∷ []
  about-more p chain is =
      let test : (chain_of h.0 == x) ≡ true = subst (λ y. (chain_of h.0 == y) ≡ true) chain (number-self (chain_of h.0)) in
      about-append ∙ ap (λ zs. about by x hs ++ zs)
      (ap (λ b. filter_map by (cond b (h ∷ []) [])) test ∙ ap (λ o. cons_option o []) is)

  pub about-same : (chain_of h.0 ≡ x → by h ≡ None) → about by x (hs ++ h ∷ []) ≡ about by x hs
  about-same none = about-append ∙ ap (λ zs. about by x hs ++ zs) (go (chain_of h.0 == x) refl) ∙ append-nil (about by x hs)
    where
      go : (b : Bool) → (chain_of h.0 == x) ≡ b → about by x (h ∷ []) ≡ []
      go true is = ap (λ b. filter_map by (cond b (h ∷ []) [])) is ∙ ap (λ o. cons_option o []) (none (eqb-true (chain_of h.0) x is))
      go false is = ap (λ b. filter_map by (cond b (h ∷ []) [])) is

  -- what one event adds is what it tells
  pub lemma_only_one : (p q : A) → by h ≡ Some p → Contains (about by x (h ∷ [])) q → p ≡ q
  lemma_only_one p q is has = go (chain_of h.0 == x) has
    where
      go : (b : Bool) → Contains (filter_map by (cond b (h ∷ []) [])) q → p ≡ q
      go true has = lemma_contains_one p q (subst (λ o. Contains (cons_option o []) q) is has)
      go false has = absurd (let lt = has.1 in omega arith)

sequences-append : (ps qs : List Packet) → sequences (ps ++ qs) ≡ sequences ps ++ sequences qs
sequences-append [] qs = refl
sequences-append (p ∷ ps) qs = ap (λ zs. p.sequence ∷ zs) (sequences-append ps qs)

pub sequences-push : (ps : List Packet) (p : Packet) → sequences (ps ++ p ∷ []) ≡ sequences ps ++ p.sequence ∷ []
sequences-push ps p = sequences-append ps (p ∷ [])

-- ---- at an end

pub lemma_is_at_itself : (e : End) (port channel : Text) → port ≡ e.port → channel ≡ e.channel → is_end e port channel ≡ true
lemma_is_at_itself e port channel is_port is_channel = and_true
    (subst (λ x. same_text port x ≡ true) is_port (same_text_itself port))
    (subst (λ x. same_text channel x ≡ true) is_channel (same_text_itself channel))

at_itself : (e : End) (port channel : Text) (p : Packet) → port ≡ e.port → channel ≡ e.channel
    → packet_if (is_end e port channel) p ≡ Some p
at_itself e port channel p is_port is_channel = ap (λ b. packet_if b p) (lemma_is_at_itself e port channel is_port is_channel)

module _ (chains : ℕ) (w : World) (hs : List Happened) (h : Happened) (v : World) (e : End) where
  -- the packets that the end has sent
  pub data Sending : Type 0 where
    sent_nothing : ((mine : Channel) → sent_packets e mine (hs ++ h ∷ []) ≡ sent_packets e mine hs)
        → ((n : Channel) → Stands v e n → StoodBefore w e SameSending n) → Sending
    sent_one : (c : Commitment) (m : Channel) → Stands w e m → Stands v e (after_send c m)
        → ((mine : Channel) → sent_packets e mine (hs ++ h ∷ []) ≡ sent_packets e mine hs ++ packet_from e mine m.next_send c ∷ []) → Sending

  -- the packets that it has received
  pub data Receiving : Type 0 where
    received_nothing : received_packets e (hs ++ h ∷ []) ≡ received_packets e hs
        → ((n : Channel) → Stands v e n → StoodBefore w e SameReceiving n) → Receiving
    received_one : (p : Packet) (ack : Text) (m : Channel) (was : Stands w e m) → Stands v e (after_receive p.sequence ack m)
        → Receives w (host_of chains e.chain was.chain) was.chain.records.core e.port e.channel m p
        → told_of h ≡ Received p (Some ack) → received_packets e (hs ++ h ∷ []) ≡ received_packets e hs ++ p ∷ [] → Receiving

  -- its packets that were acknowledged, and that timed out
  pub data Settling : Type 0 where
    settled_nothing : acknowledged_packets e (hs ++ h ∷ []) ≡ acknowledged_packets e hs → timed_out_packets e (hs ++ h ∷ []) ≡ timed_out_packets e hs
        → ((n : Channel) → Stands v e n → StoodBefore w e SameGone n) → Settling
    acknowledged_one : (p : Packet) (m : Channel) (was : Stands w e m) → Stands v e (after_ack p.sequence m)
        → Acks w was.chain.records.core e.port e.channel m p
        → acknowledged_packets e (hs ++ h ∷ []) ≡ acknowledged_packets e hs ++ p ∷ [] → timed_out_packets e (hs ++ h ∷ []) ≡ timed_out_packets e hs → Settling
    timed_out_one : (p : Packet) (m : Channel) (was : Stands w e m) → Stands v e (after_timeout p.sequence m)
        → TimesOut w was.chain.records.core e.port e.channel m p → told_of h ≡ TimedOut p
        → acknowledged_packets e (hs ++ h ∷ []) ≡ acknowledged_packets e hs → timed_out_packets e (hs ++ h ∷ []) ≡ timed_out_packets e hs ++ p ∷ [] → Settling

  -- ---- which of them it is

  no_sent : (chain_of h.0 ≡ e.chain → (mine : Channel) → sent_in e mine (told_of h) ≡ None) → (mine : Channel)
      → sent_packets e mine (hs ++ h ∷ []) ≡ sent_packets e mine hs
  no_sent none mine = about-same (sent_by e mine) e.chain hs h (λ chain. (is_told h).sent e mine ∙ none chain mine)

  no_received : (chain_of h.0 ≡ e.chain → received_in e (told_of h) ≡ None) → received_packets e (hs ++ h ∷ []) ≡ received_packets e hs
  no_received none = about-same (received_by e) e.chain hs h (λ chain. (is_told h).received e ∙ none chain)

  no_acknowledged : (chain_of h.0 ≡ e.chain → acknowledged_in e (told_of h) ≡ None) → acknowledged_packets e (hs ++ h ∷ []) ≡ acknowledged_packets e hs
  no_acknowledged none = about-same (acknowledged_by e) e.chain hs h (λ chain. (is_told h).acknowledged e ∙ none chain)

  no_timed_out : (chain_of h.0 ≡ e.chain → timed_out_in e (told_of h) ≡ None) → timed_out_packets e (hs ++ h ∷ []) ≡ timed_out_packets e hs
  no_timed_out none = about-same (timed_out_by e) e.chain hs h (λ chain. (is_told h).timed_out e ∙ none chain)

  new_end : (P : Channel → Channel → Type 0) → ((m : Channel) → Stands w e m → ⊥) → (end : ChannelEnd) → Stands v e (new_channel end)
      → (n : Channel) → Stands v e n → StoodBefore w e P n
  new_end P none end now n stands = is_new none end (stands_same e (new_channel end) n now stands)

  stepped_end : (P : Channel → Channel → Type 0) (m : Channel) → Stands w e m → (n : Channel) → Stands v e n → P m n
      → (k : Channel) → Stands v e k → StoodBefore w e P k
  stepped_end P m was n now same k stands = was_there m was (subst (P m) (stands_same e n k now stands) same)

  pub sending : Inv w → EndStep chains w h v e → Sending
  sending inv (untouched quiet_ back) =
      sent_nothing (no_sent (λ chain. (quiet_ chain).sent)) (λ n stands. was_there n (back n stands) (same_sending n))
  sending inv (opened chain silent end now none) =
      sent_nothing (no_sent (λ chain. (quiet e (told_of h) silent).sent)) (new_end SameSending none end now)
  sending inv (stepped chain m n was now step) = go (told_of h) refl n now step
    where
      silent : (told : Told) → told_of h ≡ told → (n : Channel) → Stands v e n
          → ChannelStep w (host_of chains e.chain was.chain) was.chain.records.core e.port e.channel m told n
          → ((port channel : Text) (k : ℕ) (c : Commitment) → told ≡ Sent port channel k c → ⊥)
          → ((mine : Channel) → sent_in e mine told ≡ None) → Sending
      silent told is n now step other none =
          sent_nothing (no_sent (λ chain mine. ap (λ t. sent_in e mine t) is ∙ none mine))
          (stepped_end SameSending m was n now (keeps_sending w (host_of chains e.chain was.chain) was.chain.records.core e.port e.channel m
          (shape_of w inv e m was) told n step other))

      go : (told : Told) → told_of h ≡ told → (n : Channel) → Stands v e n
          → ChannelStep w (host_of chains e.chain was.chain) was.chain.records.core e.port e.channel m told n → Sending
      go told is n now (sends c s) = sent_one c m was now (λ mine. about-more (sent_by e mine) e.chain hs h (packet_from e mine m.next_send c) chain
          ((is_told h).sent e mine ∙ ap (λ t. sent_in e mine t) is ∙ at_itself e e.port e.channel (packet_from e mine m.next_send c) refl refl))
      go told is n now (answers peer s) = silent told is n now (answers peer s) (λ port channel k c e. absurd (cc e)) (λ mine. refl)
      go told is n now (follows state s) = silent told is n now (follows state s) (λ port channel k c e. absurd (cc e)) (λ mine. refl)
      go told is n now (closes s may) = silent told is n now (closes s may) (λ port channel k c e. absurd (cc e)) (λ mine. refl)
      go told is n now (receives p ack s) = silent told is n now (receives p ack s) (λ port channel k c e. absurd (cc e)) (λ mine. refl)
      go told is n now (acknowledges p s) = silent told is n now (acknowledges p s) (λ port channel k c e. absurd (cc e)) (λ mine. refl)
      go told is n now (times_out p s) = silent told is n now (times_out p s) (λ port channel k c e. absurd (cc e)) (λ mine. refl)

  pub receiving : EndStep chains w h v e → Receiving
  receiving (untouched quiet_ back) =
      received_nothing (no_received (λ chain. (quiet_ chain).received)) (λ n stands. was_there n (back n stands) (same_receiving n))
  receiving (opened chain silent end now none) =
      received_nothing (no_received (λ chain. (quiet e (told_of h) silent).received)) (new_end SameReceiving none end now)
  receiving (stepped chain m n was now step) = go (told_of h) refl n now step
    where
      silent : (told : Told) → told_of h ≡ told → (n : Channel) → Stands v e n
          → ChannelStep w (host_of chains e.chain was.chain) was.chain.records.core e.port e.channel m told n
          → ((p : Packet) (ack : Text) → told ≡ Received p (Some ack) → ⊥) → received_in e told ≡ None → Receiving
      silent told is n now step other none =
          received_nothing (no_received (λ chain. ap (λ t. received_in e t) is ∙ none))
          (stepped_end SameReceiving m was n now (keeps_receiving w (host_of chains e.chain was.chain) was.chain.records.core e.port e.channel m told n step other))

      go : (told : Told) → told_of h ≡ told → (n : Channel) → Stands v e n
          → ChannelStep w (host_of chains e.chain was.chain) was.chain.records.core e.port e.channel m told n → Receiving
      go told is n now (receives p ack s) = received_one p ack m was now s is (about-more (received_by e) e.chain hs h p chain
          ((is_told h).received e ∙ ap (λ t. received_in e t) is ∙ at_itself e p.destination_port p.destination_channel p s.to_port s.to_channel))
      go told is n now (answers peer s) = silent told is n now (answers peer s) (λ p ack e. absurd (cc e)) refl
      go told is n now (follows state s) = silent told is n now (follows state s) (λ p ack e. absurd (cc e)) refl
      go told is n now (closes s may) = silent told is n now (closes s may) (λ p ack e. absurd (cc e)) refl
      go told is n now (sends c s) = silent told is n now (sends c s) (λ p ack e. absurd (cc e)) refl
      go told is n now (acknowledges p s) = silent told is n now (acknowledges p s) (λ p ack e. absurd (cc e)) refl
      go told is n now (times_out p s) = silent told is n now (times_out p s) (λ p ack e. absurd (cc e)) refl

  no_settled : (chain_of h.0 ≡ e.chain → acknowledged_in e (told_of h) ≡ None) → (chain_of h.0 ≡ e.chain → timed_out_in e (told_of h) ≡ None)
      → ((n : Channel) → Stands v e n → StoodBefore w e SameGone n) → Settling
  no_settled acks timeouts before = settled_nothing (no_acknowledged acks) (no_timed_out timeouts) before

  pub settling : EndStep chains w h v e → Settling
  settling (untouched quiet_ back) =
      no_settled (λ chain. (quiet_ chain).acknowledged) (λ chain. (quiet_ chain).timed_out) (λ n stands. was_there n (back n stands) (gone-same n n refl refl))
  settling (opened chain silent end now none) =
      no_settled (λ chain. (quiet e (told_of h) silent).acknowledged) (λ chain. (quiet e (told_of h) silent).timed_out) (new_end SameGone none end now)
  settling (stepped chain m n was now step) = go (told_of h) refl n now step
    where
      silent : (told : Told) → told_of h ≡ told → acknowledged_in e told ≡ None → timed_out_in e told ≡ None
          → (n : Channel) → Stands v e n → SameGone m n → Settling
      silent told is a t n now same =
          no_settled (λ chain. ap (λ x. acknowledged_in e x) is ∙ a) (λ chain. ap (λ x. timed_out_in e x) is ∙ t) (stepped_end SameGone m was n now same)

      go : (told : Told) → told_of h ≡ told → (n : Channel) → Stands v e n
          → ChannelStep w (host_of chains e.chain was.chain) was.chain.records.core e.port e.channel m told n → Settling
      go told is n now (acknowledges p s) = acknowledged_one p m was now s
          (about-more (acknowledged_by e) e.chain hs h p chain ((is_told h).acknowledged e ∙ ap (λ t. acknowledged_in e t) is
          ∙ at_itself e p.source_port p.source_channel p s.settles.from_port s.settles.from_channel))
          (no_timed_out (λ chain. ap (λ t. timed_out_in e t) is))
      go told is n now (times_out p s) = timed_out_one p m was now s is
          (no_acknowledged (λ chain. ap (λ t. acknowledged_in e t) is))
          (about-more (timed_out_by e) e.chain hs h p chain ((is_told h).timed_out e ∙ ap (λ t. timed_out_in e t) is
          ∙ at_itself e p.source_port p.source_channel p s.settles.from_port s.settles.from_channel))
      go told is n now (answers peer s) = silent told is refl refl n now (gone-same m n refl refl)
      go told is n now (follows state s) = silent told is refl refl n now (gone-same m n refl refl)
      go told is n now (closes s may) = silent told is refl refl n now (gone-same m n refl refl)
      go told is n now (sends c s) = silent told is refl refl n now (gone-sent c m)
      go told is n now (receives p ack s) = silent told is refl refl n now (gone-taken p.sequence ack m (is_ordered m))
