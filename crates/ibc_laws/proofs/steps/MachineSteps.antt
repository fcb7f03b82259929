-- What a step of the machine does: nothing, or one chain moves.
use Rattle.std.proofs.Common.{◌≡◌, ℕ, Bool, true, refl, ap, sym, ◌∙◌, subst, length, Option, Some, None, Ok, Err, inl, inr, slice_get, slice_set, leb-true, nat_le}
use Rattle.std.specs.Prelude.{⊤}
use Rattle.ibc_ids.specs.declared.refusal.Refusal.{Refusal}
use Rattle.ibc_ids.specs.declared.refusal.Refusal.TheVariants as refusal
use Rattle.ibc_wire.specs.declared.messages.Message.{Message}
use Rattle.ibc_machine.specs.declared.event.Event.{Event}
use Rattle.ibc_machine.specs.declared.event.Event.TheVariants as event
use Rattle.ibc_machine.specs.declared.reply.Effect.{Effect}
use Rattle.ibc_machine.specs.declared.reply.Reply.{Reply}
use Rattle.ibc_machine.specs.declared.reply.Reply.TheVariants as reply
use Rattle.ibc_machine.specs.chain.Records.{Core, Apps, Records, MachineChain}
use Rattle.ibc_machine.specs.chain.Checks.{Checked}
use Rattle.ibc_machine.specs.chain.Genesis.{GenesisState}
use Rattle.ibc_machine.specs.chain.Handlers.{handle, host_of, after_message, message_answer, may_commit, after_block, block_answer}
use Rattle.ibc_machine.specs.chain.Machine.{World, direct_evidence, true_marks, answer, at_chain, Step}
use Rattle.ibc_machine.specs.ledger.Ledgers.{chain_of, is_typed}
use Rattle.ibc_machine.specs.promises.Histories.{Happened}
use Rattle.ibc_machine.proofs.PassedRows.{require_passed}
use Rattle.ibc_laws.proofs.basics.ListPlaces.{set-same}
use Rattle.ibc_laws.proofs.steps.Seen.{seeing}
use Rattle.ibc_laws.proofs.steps.Told.{Quiet, told_of}
use Rattle.ibc_laws.proofs.steps.MessagesPassed.{message_did}
use Rattle.ibc_laws.proofs.steps.Paid.{PaidOf, lemma_message_paid}
use Rattle.ibc_laws.proofs.steps.WorldGrowth.{ChainStep, acts, ends, GoodStep, next_chain}

-- the chain of the event moves
pub record Moves (chains : ℕ) (w : World) (h : Happened) (v : World) : Type 0 where
  pub k : ℕ
  pub before : MachineChain
  pub now : MachineChain
  pub there : slice_get w k ≡ Some before
  pub chain_is : chain_of h.0 ≡ k
  pub step : ChainStep chains w k before (told_of h) now
  pub good : is_typed h.0 ≡ true → GoodStep chains w k before (told_of h) now step
  pub paid : PaidOf h before now
  pub after : v ≡ slice_set w k now

abbrev pub IsRefusal : Happened → Type 0
IsRefusal h = (why : Refusal) × (h.1 ≡ reply.No why)

pub data Stepped (chains : ℕ) (w : World) (h : Happened) (v : World) : Type 0 where
  rests : IsRefusal h → v ≡ w → Stepped chains w h v
  moves : Moves chains w h v → Stepped chains w h v

-- a refusal tells nothing
refused : (e : Event) (why : Refusal) → told_of (e, reply.No why) ≡ Quiet
refused (event.Message k m) why = refl
refused (event.Block k t) why = refl

pub refused_quiet : (h : Happened) → IsRefusal h → told_of h ≡ Quiet
refused_quiet h is = ap (λ (x : Reply). told_of (h.0, x)) is.1 ∙ refused h.0 is.0

module _ (genesis : GenesisState) (oldest : Bool) (w : World) where
  refusing : (e : Event) (why : Refusal) (r : Reply) (v : World) → ◌≡◌ {A = Reply × World} (reply.No why, w) (r, v)
      → Stepped (length genesis.chains) w (e, r) v
  refusing e why r v is =
      rests (why, sym (ap (λ (x : Reply × World). x.0) is)) (sym (ap (λ (x : Reply × World). x.1) is))

  accepting : (h : Happened) (k : ℕ) (c d : MachineChain) (r : Reply) (v : World) → slice_get w k ≡ Some c → chain_of h.0 ≡ k
      → (step : ChainStep (length genesis.chains) w k c (told_of h) d) → (is_typed h.0 ≡ true → GoodStep (length genesis.chains) w k c (told_of h) d step)
      → PaidOf h c d → ◌≡◌ {A = Reply × World} (h.1, slice_set w k d) (r, v)
      → Stepped (length genesis.chains) w (h.0, r) v
  accepting h k c d r v there chain step good paid is =
      subst (λ (x : Reply × World). Stepped (length genesis.chains) w (h.0, x.0) x.1) is (moves (record {
        k = k;
        before = c;
        now = d;
        there = there;
        chain_is = chain;
        step = step;
        good = good;
        paid = paid;
        after = refl;
      }))

  of_message : (k : ℕ) (c : MachineChain) → slice_get w k ≡ Some c → (m : Message) (r : Reply) (v : World)
      → (o : Checked (Effect × Core × Apps))
      → handle m (seeing genesis.window oldest w c.records.core) (host_of (length genesis.chains) k c) c.records.core c.records.apps ≡ o
      → at_chain w k (λ (chain : MachineChain). after_message c o) (Some c) ≡ (r, v) → Stepped (length genesis.chains) w (event.Message k m, r) v
  of_message k c there m r v (Ok y) is e =
      let did = (message_did genesis.window oldest w (host_of (length genesis.chains) k c) c.records m).gives y is in
      let after : Records = record { core = y.1; apps = y.2 } in
      accepting (event.Message k m, reply.Ok y.0) k c (record c { records = after }) r v there refl (acts _ after did.0 did.1) did.2
      ((lemma_message_paid (seeing genesis.window oldest w c.records.core) (host_of (length genesis.chains) k c) c.records.core c.records.apps m).gives y is) e
  of_message k c there m r v (Err why) is e =
      refusing (event.Message k m) why r v (ap (λ x. (reply.No why, x)) (sym (set-same w k c there)) ∙ e)

  of_block : (k : ℕ) (c : MachineChain) → slice_get w k ≡ Some c → (t : ℕ) (r : Reply) (v : World) → (o : Checked ⊤)
      → may_commit genesis.capacity c t ≡ o → at_chain w k (λ (chain : MachineChain). after_block c t o) (Some c) ≡ (r, v)
      → Stepped (length genesis.chains) w (event.Block k t, r) v
  of_block k c there t r v (Ok tt) is e =
      accepting (event.Block k t, _) k c (next_chain c t) r v there refl
      (ends t (leb-true c.time t (require_passed (nat_le c.time t) _ _ is).0)) (λ typed. tt) tt e
  of_block k c there t r v (Err why) is e =
      refusing (event.Block k t) why r v (ap (λ x. (reply.No why, x)) (sym (set-same w k c there)) ∙ e)

  answered : (e : Event) (r : Reply) (v : World) → answer true_marks genesis oldest w e ≡ (r, v)
      → Stepped (length genesis.chains) w (e, r) v
  unfolding answer
  answered (event.Message k m) r v e = go (slice_get w k) refl e
    where
      go : (o : Option MachineChain) → slice_get w k ≡ o
          → at_chain w k (λ (chain : MachineChain). message_answer (direct_evidence true_marks genesis.window oldest w chain.records.core) (length genesis.chains) k chain m) o ≡ (r, v)
          → Stepped (length genesis.chains) w (event.Message k m, r) v
      go (Some c) is e = of_message k c is m r v (handle m (seeing genesis.window oldest w c.records.core) (host_of (length genesis.chains) k c) c.records.core c.records.apps) refl e
      go None is e = refusing (event.Message k m) refusal.UnknownChain r v e
  answered (event.Block k t) r v e = go (slice_get w k) refl e
    where
      go : (o : Option MachineChain) → slice_get w k ≡ o → at_chain w k (λ (chain : MachineChain). block_answer genesis.capacity chain t) o ≡ (r, v)
          → Stepped (length genesis.chains) w (event.Block k t, r) v
      go (Some c) is e = of_block k c is t r v (may_commit genesis.capacity c t) refl e
      go None is e = refusing (event.Block k t) refusal.UnknownChain r v e

pub stepped : (genesis : GenesisState) (w : World) (h : Happened) (v : World) → Step genesis w h.0 h.1 v
    → Stepped (length genesis.chains) w h v
stepped genesis w h v (inl gave_up) = rests (refusal.NoMemory, gave_up.0) gave_up.1
stepped genesis w h v (inr answers) = answered genesis answers.0 w h.0 h.1 v answers.1
