-- What a labelled step of an end does to the tokens: at its own channel, by the label; and nothing at any other.
use Rattle.std.proofs.Common.{◌≡◌, ℕ, Bool, true, false, refl, ap, sym, ◌∙◌, subst, List, [], ◌+◌, ◌++◌, Option, Some, nat_cmp, inl, inr, if◌then◌else◌}
use Rattle.std.specs.Option.{option_map_or}
use Rattle.ibc_ids.specs.Texts.{Text, same_text}
use Rattle.ibc_ids.specs.Maps.{with, without}
use Rattle.ibc_ids.specs.Names.{is_user, hop}
use Rattle.ibc_ids.proofs.Texts.{text_same}
use Rattle.ibc_wire.specs.declared.packet.Packet.{Packet}
use Rattle.ibc_wire.specs.declared.token.Token.{Token}
use Rattle.ibc_wire.specs.declared.records.ChannelState.TheVariants as chan
use Rattle.ibc_machine.specs.chain.Records.{Core, Apps, Records, Channel, Commitment, commitment_of}
use Rattle.ibc_machine.specs.ics24.Evidence.{Host}
use Rattle.ibc_machine.specs.ics04.Packets.{is_ordered, after_receive, after_ack, after_timeout}
use Rattle.ibc_machine.specs.ics20.TokenData.{Data, data_of, is_data, tokens_of, amount_of, success, error}
use Rattle.ibc_machine.specs.ics20.Bank.{Balances, balance, escrow}
use Rattle.ibc_machine.specs.ics20.Transfers.{transfer_port, came_over, burnt_amount}
use Rattle.ibc_machine.specs.chain.Machine.{World}
use Rattle.ibc_machine.proofs.DataRead.{data_read, data_spelled}
use Rattle.ibc_laws.proofs.basics.PassedTests.{both}
use Rattle.ibc_laws.proofs.steps.Told.{Told}
use Rattle.ibc_laws.proofs.steps.CoreSteps.{ChannelStep, answers, follows, closes, sends, receives, acknowledges, times_out, Receives, Acks, TimesOut}
use Rattle.ibc_laws.proofs.steps.AppSteps.{AppsOfEnd, GoodOfEnd}
use Rattle.ibc_laws.proofs.steps.EndSteps.{taken, acked, over}
use Rattle.ibc_machine.proofs.Measures.{IsSorted}
use Rattle.ibc_laws.proofs.tokens.BalanceSteps.{Taking, takes, refuses, error_is_no_success, Refunding, no_data, refunds, Acknowledging, succeeds, fails, ByPort, received_balances, acknowledged_balances, timed_out_balances}
use Rattle.ibc_laws.proofs.tokens.Hops.{HasNoSlash}
use Rattle.ibc_laws.proofs.tokens.HeldAndIssued.{kept_of}
use Rattle.ibc_laws.proofs.tokens.TokenShifts.{Shift, Unshifted, unshifted, nothing, carried_of, sent_shift, refunded_shift, received_shift, sent_elsewhere, refunded_elsewhere, received_elsewhere}

-- the sender of good data is a user
sender_is_user : (version : Text) (d : Data) → is_data version d ≡ true → is_user d.sender ≡ true
sender_is_user version d good = (both _ (is_user d.sender) good).1

pub sender_of : (version text : Text) (d : Data) → data_of version text ≡ Some d → is_user d.sender ≡ true
sender_of version text d is = sender_is_user version d (data_spelled version text d is).0

pub still : (records : Records) (apps : Apps) (channel : Text) → apps ≡ records.apps → Unshifted records.apps.balances apps.balances channel
still records apps channel same = subst (λ (a : Apps). Unshifted records.apps.balances a.balances channel) (sym same) (unshifted records.apps.balances channel)

same_balances : (before after : Balances) (channel : Text) → after ≡ before → Unshifted before after channel
same_balances before after channel same = subst (λ b. Unshifted before b channel) (sym same) (unshifted before channel)

-- ---- at another channel

module _ (w : World) (host : Host) (records : Records) (apps : Apps) (sorted : IsSorted records.apps.balances)
    (port id other : Text) (clear : HasNoSlash id) (clear_other : HasNoSlash other) (apart : port ≡ transfer_port → id ≡ other → ⊥) where
  refund_apart : (m : Channel) (p : Packet) (after : Balances) → port ≡ transfer_port → p.source_channel ≡ id
      → Refunding records.apps.balances m.end.version p after → Unshifted records.apps.balances after other
  refund_apart m p _ is from (no_data none) = unshifted records.apps.balances other
  refund_apart m p _ is from (refunds d after read moved) =
      refunded_elsewhere p.source_channel d.sender d.tokens records.apps.balances after sorted (sender_of m.end.version p.payload d read)
      other (subst HasNoSlash (sym from) clear) clear_other (λ e. apart is (sym from ∙ e)) moved

  ack_apart : (m : Channel) (p : Packet) (ack : Text) (after : Balances) → port ≡ transfer_port → p.source_channel ≡ id
      → Acknowledging records.apps.balances m.end.version p ack after → Unshifted records.apps.balances after other
  ack_apart m p ack _ is from (succeeds good_ack) = unshifted records.apps.balances other
  ack_apart m p ack _ is from (fails after bad_ack refund) = refund_apart m p after is from refund

  taking_apart : (m : Channel) (p : Packet) (ack : Text) (after : Balances) → port ≡ transfer_port → p.destination_port ≡ port → p.destination_channel ≡ id
      → Taking records.apps.balances (burnt_amount records.core) m.end.version p ack after → Unshifted records.apps.balances after other
  taking_apart m p _ _ is to_port to (takes d after read user moved) =
      received_elsewhere (burnt_amount records.core) p (to_port ∙ is) (subst HasNoSlash (sym to) clear) d.receiver d.tokens records.apps.balances after sorted user moved
      other clear_other (λ e. apart is (sym to ∙ e))
  taking_apart m p _ _ is to_port to (refuses words) = unshifted records.apps.balances other

  by_port_apart : (after : Balances) (P : Balances → Type 0) → (port ≡ transfer_port → P after → Unshifted records.apps.balances after other)
      → ByPort port records.apps.balances after P → Unshifted records.apps.balances after other
  by_port_apart after P moved (inl h) = moved (text_same port transfer_port h.0) h.1
  by_port_apart after P moved (inr h) = same_balances records.apps.balances after other h.1

  pub elsewhere : (m : Channel) (told : Told) (n : Channel) (s : ChannelStep w host records.core port id m told n)
      → (did : AppsOfEnd w host records apps port id m told n s) → GoodOfEnd w host records apps port id m told n s did
      → Unshifted records.apps.balances apps.balances other
  elsewhere m told n (answers peer s) did good = still records apps other did
  elsewhere m told n (follows state s) did good = still records apps other did
  elsewhere m told n (closes s may) did good = still records apps other did
  elsewhere m told n (sends c s) (inl note) good = still records apps other note.1
  elsewhere m told n (sends c s) (inr tokens) good =
      subst (λ (a : Apps). Unshifted records.apps.balances a.balances other) (sym tokens.after)
      (sent_elsewhere id tokens.data_sent.sender tokens.data_sent.tokens records.apps.balances tokens.balances sorted
      (sender_is_user m.end.version tokens.data_sent good) other clear clear_other (apart tokens.port_is) tokens.paid)
  elsewhere m told n (receives p ack s) did good =
      by_port_apart apps.balances (Taking records.apps.balances (burnt_amount records.core) m.end.version p ack)
      (λ is. taking_apart m p ack apps.balances is s.to_port s.to_channel) (received_balances records port m.end.version p ack apps did)
  elsewhere m told n (acknowledges p s) did good =
      by_port_apart apps.balances (Acknowledging records.apps.balances m.end.version p s.ack)
      (λ is. ack_apart m p s.ack apps.balances is s.settles.from_channel) (acknowledged_balances records.apps port m.end.version p s.ack apps did)
  elsewhere m told n (times_out p s) did good =
      by_port_apart apps.balances (Refunding records.apps.balances m.end.version p)
      (λ is. refund_apart m p apps.balances is s.settles.from_channel) (timed_out_balances records.apps port m.end.version p apps did)

-- ---- at the channel itself

-- the tokens leave over it, come back, or arrive from a source
abbrev pub Leaving : Balances → Balances → Text → List Token → Type 0
Leaving before after id tokens = Shift before after id nothing (λ d. kept_of id d tokens) (λ d. carried_of id d tokens) nothing

abbrev pub Returning : Balances → Balances → Text → List Token → Type 0
Returning before after id tokens = Shift before after id (λ d. kept_of id d tokens) nothing nothing (λ d. carried_of id d tokens)

abbrev pub Arriving : Balances → Balances → Text → Text → Text → List Token → Type 0
Arriving before after id port channel tokens = Shift before after id (λ d. amount_of (hop port channel ++ d) tokens) nothing nothing
    (λ d. if came_over port channel d then 0 else amount_of d tokens)

abbrev pub SameBooks : Channel → Channel → Type 0
SameBooks m n = (n.commitments ≡ m.commitments) × (n.acks ≡ m.acks)

-- the books of the end, where it received and where it settled
abbrev pub Noted : ℕ → Text → Channel → Channel → Type 0
Noted k ack m n = (n.commitments ≡ m.commitments) × (n.acks ≡ with nat_cmp k ack m.acks)

abbrev pub Removed : ℕ → Channel → Channel → Type 0
Removed k m n = (n.commitments ≡ without nat_cmp k m.commitments) × (n.acks ≡ m.acks)

pub data OwnEffect (w : World) (host : Host) (core : Core) (id : Text) (before after : Balances) (m n : Channel) : Type 0 where
  does_nothing : SameBooks m n → Unshifted before after id → OwnEffect w host core id before after m n
  sends_out : (c : Commitment) → m.end.state ≡ chan.Open → n.commitments ≡ with nat_cmp m.next_send c m.commitments → n.acks ≡ m.acks
      → Leaving before after id (tokens_of m.end.version c) → OwnEffect w host core id before after m n
  takes_in : (p : Packet) → Receives w host core transfer_port id m p → Noted p.sequence success m n
      → Arriving before after id p.source_port p.source_channel (tokens_of m.end.version (commitment_of p)) → OwnEffect w host core id before after m n
  turns_down : (p : Packet) (ack : Text) → Receives w host core transfer_port id m p → same_text ack success ≡ false → Noted p.sequence ack m n
      → Unshifted before after id → OwnEffect w host core id before after m n
  is_done : (p : Packet) (s : Acks w core transfer_port id m p) → same_text s.ack success ≡ true → Removed p.sequence m n
      → Unshifted before after id → OwnEffect w host core id before after m n
  is_refused : (p : Packet) (s : Acks w core transfer_port id m p) → same_text s.ack success ≡ false → Removed p.sequence m n
      → Returning before after id (tokens_of m.end.version (commitment_of p)) → OwnEffect w host core id before after m n
  is_over : (p : Packet) → TimesOut w core transfer_port id m p → Removed p.sequence m n
      → Returning before after id (tokens_of m.end.version (commitment_of p)) → OwnEffect w host core id before after m n

noted : (k : ℕ) (ack : Text) (m : Channel) → Noted k ack m (after_receive k ack m)
noted k ack m = go (is_ordered m)
  where
    go : (b : Bool) → Noted k ack m (taken b k ack m)
    go true = (refl, refl)
    go false = (refl, refl)

removed_acked : (k : ℕ) (m : Channel) → Removed k m (after_ack k m)
removed_acked k m = go (is_ordered m)
  where
    go : (b : Bool) → Removed k m (acked k m b)
    go true = (refl, refl)
    go false = (refl, refl)

removed_over : (k : ℕ) (m : Channel) → Removed k m (after_timeout k m)
removed_over k m = go (is_ordered m)
  where
    go : (b : Bool) → Removed k m (over k m b)
    go true = (refl, refl)
    go false = (refl, refl)

-- the tokens that a text is read as
pub tokens_read : (version : Text) (c : Commitment) (d : Data) → data_of version c.payload ≡ Some d → tokens_of version c ≡ d.tokens
tokens_read version c d is = ap (λ (o : Option Data). option_map_or (λ (x : Data). x.tokens) o []) is

-- no tokens weigh nothing
returning_none : (b : Balances) (id : Text) (tokens : List Token) → tokens ≡ [] → Returning b b id tokens
returning_none b id tokens none = subst (Returning b b id) (sym none) (record { held = λ d. held d; made = λ d. refl })
  where
    held : (d : Text) → balance b (escrow id) d + kept_of id d [] ≡ balance b (escrow id) d + nothing d
    held d = ap (λ k. balance b (escrow id) d + k) (go (came_over transfer_port id d))
      where
        go : (q : Bool) → ◌≡◌ {A = ℕ} (if q then 0 else 0) 0
        go true = refl
        go false = refl

module _ (w : World) (host : Host) (records : Records) (apps : Apps) (sorted : IsSorted records.apps.balances)
    (id : Text) (clear : HasNoSlash id) where
  refund_here : (m : Channel) (p : Packet) (after : Balances) → p.source_channel ≡ id → Refunding records.apps.balances m.end.version p after
      → Returning records.apps.balances after id (tokens_of m.end.version (commitment_of p))
  refund_here m p _ from (no_data none) =
      returning_none records.apps.balances id (tokens_of m.end.version (commitment_of p)) (ap (λ (o : Option Data). option_map_or (λ (x : Data). x.tokens) o []) none)
  refund_here m p _ from (refunds d after read moved) =
      subst (Returning records.apps.balances after id) (sym (tokens_read m.end.version (commitment_of p) d read))
      (subst (λ i. Returning records.apps.balances after i d.tokens) from
      (refunded_shift p.source_channel d.sender d.tokens records.apps.balances after sorted (sender_of m.end.version p.payload d read) moved))

  -- of the port, by its application
  of_transfers : (after : Balances) (P : Balances → Type 0) → ByPort transfer_port records.apps.balances after P → P after
  of_transfers after P (inl h) = h.1
  of_transfers after P (inr h) = absurd (cc (h.0))

  pub at_itself : (m : Channel) (told : Told) (n : Channel) (s : ChannelStep w host records.core transfer_port id m told n)
      → (did : AppsOfEnd w host records apps transfer_port id m told n s) → GoodOfEnd w host records apps transfer_port id m told n s did
      → OwnEffect w host records.core id records.apps.balances apps.balances m n
  at_itself m told n (answers peer s) did good = does_nothing (refl, refl) (still records apps id did)
  at_itself m told n (follows state s) did good = does_nothing (refl, refl) (still records apps id did)
  at_itself m told n (closes s may) did good = does_nothing (refl, refl) (still records apps id did)
  at_itself m told n (sends c s) (inl note) good = absurd (cc (note.0))
  at_itself m told n (sends c s) (inr tokens) good =
      let d : Data = tokens.data_sent in
      let read : data_of m.end.version c.payload ≡ Some d = ap (λ t. data_of m.end.version t) tokens.spelled ∙ data_read m.end.version d good in
      sends_out c s refl refl
      (subst (λ (a : Apps). Leaving records.apps.balances a.balances id (tokens_of m.end.version c)) (sym tokens.after)
      (subst (Leaving records.apps.balances tokens.balances id) (sym (tokens_read m.end.version c d read))
      (sent_shift id d.sender d.tokens records.apps.balances tokens.balances sorted (sender_is_user m.end.version d good) tokens.paid)))
  at_itself m told n (receives p ack s) did good = of_taking ack apps.balances s (of_transfers apps.balances (Taking records.apps.balances (burnt_amount records.core) m.end.version p ack) (received_balances records transfer_port m.end.version p ack apps did))
    where
      of_taking : (ack : Text) (after : Balances) → Receives w host records.core transfer_port id m p
          → Taking records.apps.balances (burnt_amount records.core) m.end.version p ack after
          → OwnEffect w host records.core id records.apps.balances after m (after_receive p.sequence ack m)
      of_taking _ _ s (takes d after read user moved) =
          takes_in p s (noted p.sequence success m)
          (subst (Arriving records.apps.balances after id p.source_port p.source_channel) (sym (tokens_read m.end.version (commitment_of p) d read))
          (subst (λ i. Arriving records.apps.balances after i p.source_port p.source_channel d.tokens) s.to_channel
          (received_shift (burnt_amount records.core) p s.to_port (subst HasNoSlash (sym s.to_channel) clear) d.receiver d.tokens records.apps.balances after sorted user moved)))
      of_taking _ _ s (refuses words) = turns_down p (error words) s (error_is_no_success words) (noted p.sequence (error words) m) (unshifted records.apps.balances id)
  at_itself m told n (acknowledges p s) did good = of_ack s apps.balances (of_transfers apps.balances (Acknowledging records.apps.balances m.end.version p s.ack) (acknowledged_balances records.apps transfer_port m.end.version p s.ack apps did))
    where
      of_ack : (s : Acks w records.core transfer_port id m p) (after : Balances) → Acknowledging records.apps.balances m.end.version p s.ack after
          → OwnEffect w host records.core id records.apps.balances after m (after_ack p.sequence m)
      of_ack s _ (succeeds good_ack) = is_done p s good_ack (removed_acked p.sequence m) (unshifted records.apps.balances id)
      of_ack s _ (fails after bad_ack refund) = is_refused p s bad_ack (removed_acked p.sequence m) (refund_here m p after s.settles.from_channel refund)
  at_itself m told n (times_out p s) did good =
      is_over p s (removed_over p.sequence m)
      (refund_here m p apps.balances s.settles.from_channel (of_transfers apps.balances (Refunding records.apps.balances m.end.version p) (timed_out_balances records.apps transfer_port m.end.version p apps did)))
