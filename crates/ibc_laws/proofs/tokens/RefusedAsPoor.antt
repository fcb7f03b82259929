-- What is known where an acknowledgement or a timeout is refused because an escrow holds too little: all checks have
-- passed, and a token of the packet's data can't be refunded.
use Rattle.std.proofs.Common.{◌≡◌, Bool, true, false, refl, ap, Option, Some, None, Ok, Err, ◌⊎◌, inl, inr, if◌then◌else◌}
use Rattle.std.specs.Prelude.{⊤}
use Rattle.ibc_ids.specs.Texts.{Text, same_text}
use Rattle.ibc_ids.specs.declared.refusal.Refusal.{Refusal}
use Rattle.ibc_ids.specs.declared.refusal.Refusal.TheVariants as refusal
use Rattle.ibc_ids.proofs.Texts.{text_same}
use Rattle.ibc_wire.specs.declared.packet.Packet.{Packet}
use Rattle.ibc_wire.specs.declared.messages.AckPacket.{AckPacket}
use Rattle.ibc_wire.specs.declared.messages.Timeout.{Timeout}
use Rattle.ibc_wire.specs.declared.messages.TimeoutOnClose.{TimeoutOnClose}
use Rattle.ibc_machine.specs.chain.Records.{Core, Apps, Channel}
use Rattle.ibc_machine.specs.chain.Checks.{Checked, require, expect, go_on, and_then, ◌>>=◌, ◌>>◌}
use Rattle.ibc_machine.specs.ics24.Evidence.{Host, Evidence}
use Rattle.ibc_machine.specs.ics04.Packets.{may_acknowledge, is_pending, ack_checked, timeout_checked, timeout_on_close_checked}
use Rattle.ibc_machine.specs.ics20.TokenData.{Data, data_of, success}
use Rattle.ibc_machine.specs.ics20.Bank.{Balances}
use Rattle.ibc_machine.specs.ics20.Transfers.{transfer_port, each_token, refund_token, refund_data, refund_transfer, acknowledge_transfer}
use Rattle.ibc_machine.specs.chain.Applications.{on_ack, on_timeout, with_balances}

-- ---- checks that refuse otherwise

-- whatever it refuses, it isn't because an escrow holds too little
pub record RefusesOtherwise {A : Type 0} (x : Checked A) : Type 0 where
  pub other : x ≡ Err refusal.Poor → ⊥

pub bind_poor : {A B : Type 0} (x : Checked A) (f : A → Checked B) → (x >>= f) ≡ Err refusal.Poor
    → (x ≡ Err refusal.Poor) ⊎ ((a : A) × (x ≡ Ok a) × (f a ≡ Err refusal.Poor))
unfolding go_on
bind_poor (Ok a) f e = inr (a, refl, e)
bind_poor (Err r) f e = let same : r ≡ refusal.Poor = cc e in inl (ap Err same)

pub bind_other : {A B : Type 0} (x : Checked A) (f : A → Checked B) → RefusesOtherwise x → (x >>= f) ≡ Err refusal.Poor
    → (a : A) × (x ≡ Ok a) × (f a ≡ Err refusal.Poor)
bind_other x f h e = elim (bind_poor x f e) [ inl poor ↦ absurd (h.other poor) | inr found ↦ found ]

passes : {A : Type 0} (a : A) → RefusesOtherwise (Ok a)
passes a = record { other = λ e. cc e }

requires : (b : Bool) (r : Refusal) → (r ≡ refusal.Poor → ⊥) → RefusesOtherwise (require b r)
requires true r other = passes tt
requires false r other = record { other = λ e. other (cc e) }

then_goes : {B : Type 0} (x : Checked ⊤) (rest : Checked B) → RefusesOtherwise x → RefusesOtherwise rest → RefusesOtherwise (x >> rest)
unfolding and_then
then_goes (Ok tt) rest h g = g
then_goes (Err r) rest h g = record { other = λ e. h.other (let same : r ≡ refusal.Poor = cc e in ap Err same) }

then_requires : {B : Type 0} (b : Bool) (r : Refusal) (rest : Checked B) → (r ≡ refusal.Poor → ⊥) → RefusesOtherwise rest → RefusesOtherwise (require b r >> rest)
then_requires b r rest other h = then_goes (require b r) rest (requires b r other) h

then_expects : {A B : Type 0} (o : Option A) (r : Refusal) (f : A → Checked B) → (r ≡ refusal.Poor → ⊥) → ((a : A) → RefusesOtherwise (f a))
    → RefusesOtherwise (expect o r >>= f)
unfolding go_on
then_expects (Some x) r f other h = h x
then_expects None r f other h = record { other = λ e. other (cc e) }

may_acknowledge_other : (mine : Channel) (p : Packet) → RefusesOtherwise (may_acknowledge mine p)
may_acknowledge_other mine p =
    then_requires _ _ _ (λ x. cc x) (then_requires _ _ _ (λ x. cc x) (then_requires _ _ _ (λ x. cc x) (requires _ _ (λ x. cc x))))

is_pending_other : (mine : Channel) (p : Packet) → RefusesOtherwise (is_pending mine p)
is_pending_other mine p = then_requires _ _ _ (λ x. cc x) (then_requires _ _ _ (λ x. cc x) (requires _ _ (λ x. cc x)))

module _ (evidence : Evidence) (host : Host) (core : Core) where
  pub ack_checked_other : (m : AckPacket) → RefusesOtherwise (ack_checked m evidence host core)
  unfolding ack_checked
  ack_checked_other m =
      then_requires _ _ _ (λ x. cc x) (then_expects _ _ _ (λ x. cc x) λ (mine : Channel).
      then_goes _ _ (may_acknowledge_other mine m.packet)
      (then_requires _ _ _ (λ x. cc x) (then_requires _ _ _ (λ x. cc x) (passes mine))))

  pub timeout_checked_other : (m : Timeout) → RefusesOtherwise (timeout_checked m evidence host core)
  unfolding timeout_checked
  timeout_checked_other m =
      then_requires _ _ _ (λ x. cc x) (then_expects _ _ _ (λ x. cc x) λ (mine : Channel).
      then_goes _ _ (is_pending_other mine m.packet)
      (then_requires _ _ _ (λ x. cc x) (then_requires _ _ _ (λ x. cc x) (then_requires _ _ _ (λ x. cc x) (then_requires _ _ _ (λ x. cc x) (passes mine))))))

  pub timeout_on_close_checked_other : (m : TimeoutOnClose) → RefusesOtherwise (timeout_on_close_checked m evidence host core)
  unfolding timeout_on_close_checked
  timeout_on_close_checked_other m =
      then_requires _ _ _ (λ x. cc x) (then_expects _ _ _ (λ x. cc x) λ (mine : Channel).
      then_goes _ _ (is_pending_other mine m.packet)
      (then_requires _ _ _ (λ x. cc x) (then_requires _ _ _ (λ x. cc x) (then_requires _ _ _ (λ x. cc x) (then_requires _ _ _ (λ x. cc x) (passes mine))))))

-- ---- the application refuses

-- the packet's data, whose tokens can't all be refunded
abbrev pub LacksRefund : Balances → Text → Packet → Type 0
LacksRefund balances version p =
    (d : Data) × (data_of version p.payload ≡ Some d) × (each_token (refund_token p.source_channel d.sender) d.tokens balances ≡ None)

refund_lacks : (balances : Balances) (version : Text) (p : Packet) → refund_transfer balances version p ≡ Err refusal.Poor → LacksRefund balances version p
unfolding refund_transfer
refund_lacks balances version p e = go (data_of version p.payload) refl e
  where
    none : (o : Option Balances) → expect o refusal.Poor ≡ Err refusal.Poor → o ≡ None
    none (Some x) e = absurd (cc e)
    none None e = refl

    go : (o : Option Data) → data_of version p.payload ≡ o → expect (refund_data p balances o) refusal.Poor ≡ Err refusal.Poor → LacksRefund balances version p
    go (Some d) is e = (d, is, none (each_token (refund_token p.source_channel d.sender) d.tokens balances) e)
    go None is e = absurd (cc e)

-- only the application of port `transfer` refuses so
by_port_poor : (apps : Apps) (port : Text) (given : Checked Balances)
    → (if same_text port transfer_port then (given >>= λ balances. Ok (with_balances apps balances)) else Ok apps) ≡ Err refusal.Poor
    → (port ≡ transfer_port) × (given ≡ Err refusal.Poor)
by_port_poor apps port given e = go (same_text port transfer_port) refl e
  where
    go : (b : Bool) → same_text port transfer_port ≡ b → (if b then (given >>= λ balances. Ok (with_balances apps balances)) else Ok apps) ≡ Err refusal.Poor
        → (port ≡ transfer_port) × (given ≡ Err refusal.Poor)
    go true is e = elim (bind_poor given (λ balances. Ok (with_balances apps balances)) e) [
      | inl poor ↦ (text_same port transfer_port is, poor)
      | inr h ↦ absurd (cc (h.2))
    ]
    go false is e = absurd (cc e)

pub timeout_lacks : (apps : Apps) (port version : Text) (p : Packet) → on_timeout port apps version p ≡ Err refusal.Poor
    → (port ≡ transfer_port) × LacksRefund apps.balances version p
timeout_lacks apps port version p e =
    let poor = by_port_poor apps port (refund_transfer apps.balances version p) e in
    (poor.0, refund_lacks apps.balances version p poor.1)

pub ack_lacks : (apps : Apps) (port version : Text) (p : Packet) (ack : Text) → on_ack port apps version p ack ≡ Err refusal.Poor
    → (port ≡ transfer_port) × (same_text ack success ≡ false) × LacksRefund apps.balances version p
unfolding acknowledge_transfer
ack_lacks apps port version p ack e =
    let poor = by_port_poor apps port (acknowledge_transfer apps.balances version p ack) e in
    let lacks = refunds (same_text ack success) refl poor.1 in
    (poor.0, lacks.0, lacks.1)
  where
    refunds : (b : Bool) → same_text ack success ≡ b → (if b then Ok apps.balances else refund_transfer apps.balances version p) ≡ Err refusal.Poor
        → (same_text ack success ≡ false) × LacksRefund apps.balances version p
    refunds true is e = absurd (cc e)
    refunds false is e = (is, refund_lacks apps.balances version p e)
