-- What "createClient" gives, by the check that decides it.
use Rattle.std.proofs.Common.{◌≡◌, ℕ, ◌+◌, ◌-◌, ◌^◌, ◌<◌, ◌≤◌, true, false, eqb, ltb, is_ok, refl, sym, ap, subst, ◌∙◌, Result, Ok, Err, inl, inr, le-ltb, lt-ltb, eq-eqb, ne_eqb}
use Rattle.ibc_ids.specs.Texts.{Text}
use Rattle.ibc_ids.specs.Paths.{nth_client}
use Rattle.ibc_ids.specs.declared.refusal.Refusal.{Refusal}
use Rattle.ibc_ids.specs.declared.refusal.Refusal.TheVariants.{NoMemory, UnknownChain, OwnChain, NumberFull}
use Rattle.ibc_wire.specs.declared.messages.CreateClient.{CreateClient}
use Rattle.ibc_machine.specs.declared.reply.Effect.TheVariants as effect
use Rattle.ibc_machine.specs.chain.Records.{Core, with_client}
use Rattle.ibc_machine.specs.chain.Checks.{and_then}
use Rattle.ibc_machine.specs.ics24.Evidence.{Host, Evidence}
use Rattle.ibc_machine.specs.ics02.Clients.{create_client, new_client}
use Rattle.ibc_records.specs.RecordsModel.{RecordsModel, core_of, AddsClient, IsUnchanged}
use Rattle.ibc_records.specs.ClientReplies.{IsCreated}

abbrev pub LAST : ℕ
LAST = 2 ^ 64 - 1

module _ (evidence : Evidence) (host : Host) (core : Core) (m : CreateClient) where
  create-unknown : host.chains ≤ m.chain → create_client m evidence host core ≡ Err UnknownChain
  unfolding create_client and_then
  create-unknown past = let e : ltb m.chain host.chains ≡ false = le-ltb m.chain host.chains past in rw e

  create-own : m.chain < host.chains → m.chain ≡ host.chain → create_client m evidence host core ≡ Err OwnChain
  unfolding create_client and_then
  create-own there own =
      let e : ltb m.chain host.chains ≡ true = lt-ltb m.chain host.chains there in
      let f : eqb m.chain host.chain ≡ true = eq-eqb m.chain host.chain own in
      rw (e, f)

  create-full : m.chain < host.chains → (m.chain ≡ host.chain → ⊥) → core.next_client ≡ LAST → create_client m evidence host core ≡ Err NumberFull
  unfolding create_client and_then
  create-full there apart full =
      let e : ltb m.chain host.chains ≡ true = lt-ltb m.chain host.chains there in
      let f : eqb m.chain host.chain ≡ false = ne_eqb m.chain host.chain apart in
      let g : eqb core.next_client LAST ≡ true = eq-eqb core.next_client LAST full in
      rw (e, f, g)

  create-made : m.chain < host.chains → (m.chain ≡ host.chain → ⊥) → (core.next_client ≡ LAST → ⊥)
      → create_client m evidence host core ≡ Ok (effect.Client (nth_client core.next_client), record (with_client (nth_client core.next_client) (new_client m.chain) core) { next_client = core.next_client + 1 })
  unfolding create_client and_then
  create-made there apart free =
      let e : ltb m.chain host.chains ≡ true = lt-ltb m.chain host.chains there in
      let f : eqb m.chain host.chain ≡ false = ne_eqb m.chain host.chain apart in
      let g : eqb core.next_client LAST ≡ false = ne_eqb core.next_client LAST free in
      rw (e, f, g)

module _ (evidence : Evidence) (host : Host) (old : RecordsModel) (m : CreateClient) where
  pub refused_unknown : host.chains ≤ m.chain → IsCreated (create_client m evidence host (core_of old)) m old (Err UnknownChain) old
  refused_unknown past = (inl (create-unknown evidence host (core_of old) m past), refl)

  pub refused_own : m.chain < host.chains → m.chain ≡ host.chain → IsCreated (create_client m evidence host (core_of old)) m old (Err OwnChain) old
  refused_own there own = (inl (create-own evidence host (core_of old) m there own), refl)

  pub refused_full : m.chain < host.chains → (m.chain ≡ host.chain → ⊥) → old.next_client ≡ LAST → IsCreated (create_client m evidence host (core_of old)) m old (Err NumberFull) old
  refused_full there apart full = (inl (create-full evidence host (core_of old) m there apart full), refl)

  pub no_memory : (new : RecordsModel) (result : Result Text Refusal) {refusal : Refusal} → result ≡ Err refusal → refusal ≡ NoMemory
      → m.chain < host.chains → (m.chain ≡ host.chain → ⊥) → (old.next_client ≡ LAST → ⊥) → IsUnchanged old new
      → IsCreated (create_client m evidence host (core_of old)) m old result new
  no_memory new result is memory there apart free same =
      subst (λ (r : Result Text Refusal). IsCreated (create_client m evidence host (core_of old)) m old r new) (sym is)
      (inr (memory, ap is_ok (create-made evidence host (core_of old) m there apart free)), same)

  pub made : (new : RecordsModel) (id : Text) → m.chain < host.chains → (m.chain ≡ host.chain → ⊥) → (old.next_client ≡ LAST → ⊥) → id ≡ nth_client old.next_client
      → AddsClient old id m.chain new → IsCreated (create_client m evidence host (core_of old)) m old (Ok id) new
  made new id there apart free named adds = (
    create-made evidence host (core_of old) m there apart free
        ∙ ap (λ name. Ok (effect.Client name, record (with_client name (new_client m.chain) (core_of old)) { next_client = old.next_client + 1 })) (sym named)
        ∙ ap (λ core. Ok (effect.Client id, core)) (sym adds.core),
    adds,
  )
