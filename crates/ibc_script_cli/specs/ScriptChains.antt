-- The chains of a script: how they go on by an event, and what they answer to a look, by their numbers.
use Rattle.std.specs.Prelude.{ℕ, List, Option, Result, ⊤}
use Rattle.std.specs.Global.{Vec}
use Rattle.ibc_ids.specs.Maps.{Map}
use Rattle.ibc_ids.specs.Texts.{Text}
use Rattle.ibc_ids.specs.declared.key.Key.{Key}
use Rattle.ibc_ids.specs.declared.refusal.Refusal.{Refusal}
use Rattle.ibc_machine.specs.declared.event.Event.{Event}
use Rattle.ibc_machine.specs.declared.reply.Reply.{Reply}
use Rattle.ibc_machine.specs.declared.totals.Totals.{Totals}
use Rattle.ibc_machine.specs.ics20.Bank.{Balances}
use Rattle.ibc_merkle.specs.declared.proof.Proof.{Proof}
use Rattle.ibc_wire.specs.declared.messages.Message.{Message}
use Rattle.ibc_wire.specs.declared.packet.Packet.{Packet}
use Rattle.ibc_script_cli.specs.declared.chains.CommittedBlock.{CommittedBlock}

-- which answers may come
pub record ChainAnswers : Type 1 where
  -- what stands at a key
  pub value : ℕ → Key → Option Text → Type 0
  -- a packet that was sent, by port, channel and sequence
  pub packet : ℕ → Text → Text → ℕ → Option Packet → Type 0
  -- an acknowledgement that was written, by port, channel and sequence
  pub ack : ℕ → Text → Text → ℕ → Option Text → Type 0
  -- the proof of what a height has at a key
  pub proof : ℕ → ℕ → Key → Option Proof → Type 0
  -- the root and the time of a height
  pub block : ℕ → ℕ → Option CommittedBlock → Type 0
  -- the time of the working block
  pub working_time : ℕ → ℕ → Type 0
  -- what relayers plan between two chains: the messages for the second, and those for the first
  pub plans : ℕ → ℕ → List Message × List Message → Type 0
  -- what a channel has of a denomination
  pub totals : ℕ → Text → Text → Result Totals Refusal → Type 0
  -- who holds what
  pub balances : ℕ → Balances → Type 0
  -- the notes that came over each channel
  pub notes : ℕ → Map Text (List Text) → Type 0

-- any answer may come
abbrev pub any_answers : ChainAnswers
any_answers = record {
  value = λ _ _ _. ⊤;
  packet = λ _ _ _ _ _. ⊤;
  ack = λ _ _ _ _ _. ⊤;
  proof = λ _ _ _ _. ⊤;
  block = λ _ _ _. ⊤;
  working_time = λ _ _. ⊤;
  plans = λ _ _ _. ⊤;
  totals = λ _ _ _ _. ⊤;
  balances = λ _ _. ⊤;
  notes = λ _ _. ⊤;
}

-- the chains, of which C are the states: asked for an event in the first state they give the reply and are in the second
pub record ScriptChains (C : Type 0) : Type 1 where
  pub asked : C → Event → Reply → C → Type 0
  pub answers : C → ChainAnswers

-- what relayers plan between two chains: the messages for the second, and those for the first
abbrev pub ArePlans : {C : Type 0} → ScriptChains C → C → ℕ → ℕ → Vec Message × Vec Message → Type 0
ArePlans known chains first second = λ plans. (known.answers chains).plans first second (plans.0.items, plans.1.items)

-- nothing is known of these chains
abbrev pub any_chains : {C : Type 0} → ScriptChains C
any_chains = record { asked = λ _ _ _ _. ⊤; answers = λ _. any_answers }
