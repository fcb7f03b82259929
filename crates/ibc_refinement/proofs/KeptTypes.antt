-- What an accepted message keeps: the records are typed, and clients change by their own messages alone.
use Rattle.std.proofs.Common.{◌≡◌, ℕ, ◌+◌, ◌-◌, ◌<◌, ◌^◌, true, false, not, eqb, sym, ap, ◌∙◌, arith, eq-eqb, inl, inr}
use Rattle.std.proofs.lemmas.Bool.{false≢true, cases_lt}
use Rattle.ibc_ids.specs.Texts.{Text, text_cmp, pair_cmp}
use Rattle.ibc_wire.specs.declared.records.ConnectionEnd.{ConnectionEnd}
use Rattle.ibc_machine.specs.declared.reply.Effect.{Effect}
use Rattle.ibc_machine.specs.declared.reply.Reply.TheVariants as reply
use Rattle.ibc_machine.specs.chain.Records.{Core, Client, Channel, with_client, with_connection, with_channel}
use Rattle.ibc_machine.specs.ledger.Ledgers.{is_block_reply}
use Rattle.ibc_ids.proofs.Texts.{text_tied}
use Rattle.ibc_machine.proofs.Images.{pair_tied}
use Rattle.ibc_refinement.proofs.Entries.{all_with}
use Rattle.ibc_refinement.proofs.Typed.{IsTypedClient, IsTypedConnectionAt, IsTypedChannelAt, IsTyped}

-- the records are typed, and the effect isn't a block's
pub record Sound (given : Effect) (core : Core) : Type 0 where
  pub typed : IsTyped core
  pub effect : is_block_reply (reply.Ok given) ≡ false

-- and clients are as before
pub record Kept (old : Core) (given : Effect) (core : Core) : Type 0 where
  pub sound : Sound given core
  pub clients : core.clients ≡ old.clients

-- the same of what a handler gives, with what applications keep beside it
abbrev pub GivesKept : Core → Effect × Core → Type 0
GivesKept old w = Kept old w.0 w.1

abbrev pub GivesSound : Effect × Core → Type 0
GivesSound w = Sound w.0 w.1

abbrev pub KeptBeside : {A : Type 0} → Core → Effect × Core × A → Type 0
KeptBeside old w = Kept old w.0 w.1

abbrev pub SoundBeside : {A : Type 0} → Effect × Core × A → Type 0
SoundBeside w = Sound w.0 w.1

-- ---- records with one more

pub typed_with_client : (id : Text) (c : Client) (core : Core) → IsTyped core → IsTypedClient (id, c) → IsTyped (with_client id c core)
typed_with_client id c core typed h = record {
  clients = all_with text_cmp IsTypedClient text_tied id c core.clients h typed.clients;
  connections = typed.connections;
  channels = typed.channels;
  next_client = typed.next_client;
  next_connection = typed.next_connection;
  next_channel = typed.next_channel;
}

pub typed_with_connection : (id : Text) (c : ConnectionEnd) (core : Core) → IsTyped core → IsTypedConnectionAt (id, c) → IsTyped (with_connection id c core)
typed_with_connection id c core typed h = record {
  clients = typed.clients;
  connections = all_with text_cmp IsTypedConnectionAt text_tied id c core.connections h typed.connections;
  channels = typed.channels;
  next_client = typed.next_client;
  next_connection = typed.next_connection;
  next_channel = typed.next_channel;
}

pub typed_with_channel : (port name : Text) (c : Channel) (core : Core) → IsTyped core → IsTypedChannelAt ((port, name), c) → IsTyped (with_channel port name c core)
typed_with_channel port name c core typed h = record {
  clients = typed.clients;
  connections = typed.connections;
  channels = all_with pair_cmp IsTypedChannelAt pair_tied (port, name) c core.channels h typed.channels;
  next_client = typed.next_client;
  next_connection = typed.next_connection;
  next_channel = typed.next_channel;
}

pub typed_next_client : (core : Core) (n : ℕ) → IsTyped core → n < 2 ^ 64 → IsTyped (record core { next_client = n })
typed_next_client core n typed h = record {
  clients = typed.clients;
  connections = typed.connections;
  channels = typed.channels;
  next_client = h;
  next_connection = typed.next_connection;
  next_channel = typed.next_channel;
}

pub typed_next_connection : (core : Core) (n : ℕ) → IsTyped core → n < 2 ^ 64 → IsTyped (record core { next_connection = n })
typed_next_connection core n typed h = record {
  clients = typed.clients;
  connections = typed.connections;
  channels = typed.channels;
  next_client = typed.next_client;
  next_connection = h;
  next_channel = typed.next_channel;
}

pub typed_next_channel : (core : Core) (n : ℕ) → IsTyped core → n < 2 ^ 64 → IsTyped (record core { next_channel = n })
typed_next_channel core n typed h = record {
  clients = typed.clients;
  connections = typed.connections;
  channels = typed.channels;
  next_client = typed.next_client;
  next_connection = typed.next_connection;
  next_channel = h;
}

-- ---- a number that may still be used has a next one

pub below_next : (n : ℕ) → n < 2 ^ 64 → not (eqb n (2 ^ 64 - 1)) ≡ true → n + 1 < 2 ^ 64
below_next n small other =
    elim (cases_lt (n + 1) (2 ^ 64)) [
      | inl below ↦ below
      | inr above ↦ absurd (false≢true (sym (ap not (eq-eqb n (2 ^ 64 - 1) (omega arith))) ∙ other))
    ]
