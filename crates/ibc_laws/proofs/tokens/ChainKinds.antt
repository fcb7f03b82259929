-- What else is true of each chain in every run: no client tracks the own chain; each end of a channel has the
-- order and a version of its port's application; and balances stand in order.
use Rattle.std.proofs.Common.{◌≡◌, ℕ, true, ap, sym, ◌∙◌, subst, Some, Ok, inl, inr, ◌==◌, slice_get}
use Rattle.ibc_ids.specs.Texts.{Text}
use Rattle.ibc_ids.specs.Paths.{nth_client, nth_channel}
use Rattle.ibc_wire.specs.declared.packet.Packet.{Packet}
use Rattle.ibc_machine.specs.chain.Records.{Core, Apps, Records, MachineChain, Client, Channel, client_at, channel_at}
use Rattle.ibc_machine.specs.ics24.Evidence.{Host}
use Rattle.ibc_machine.specs.ics02.Clients.{new_client, with_known_height}
use Rattle.ibc_machine.specs.ics04.Channels.{new_channel}
use Rattle.ibc_machine.specs.ics20.Transfers.{burnt_amount}
use Rattle.ibc_machine.specs.ics20.Bank.{Balances}
use Rattle.ibc_machine.specs.chain.Applications.{on_open}
use Rattle.ibc_machine.specs.chain.Handlers.{host_of}
use Rattle.ibc_machine.specs.chain.Genesis.{GenesisState, ChainState, start, starting_chain}
use Rattle.ibc_machine.specs.chain.Machine.{World}
use Rattle.ibc_machine.specs.promises.Histories.{Happened}
use Rattle.ibc_laws.proofs.basics.PassedTests.{number-self}
use Rattle.ibc_machine.proofs.FiniteMaps.{by_text, by_pair, found_in_with}
use Rattle.ibc_laws.proofs.basics.ListPlaces.{placed}
use Rattle.ibc_laws.proofs.steps.Told.{Told, told_of}
use Rattle.ibc_laws.proofs.steps.CoreSteps.{CoreStep, creates_client, updates_client, starts_connection, answers_connection, confirms_connection, opens_channel, changes_channel, ChannelStep, answers, follows, closes, sends, receives, acknowledges, times_out, IsTaken}
use Rattle.ibc_laws.proofs.steps.AppSteps.{AppsOf, AppsOfEnd}
use Rattle.ibc_laws.proofs.steps.EndSteps.{end_grows}
use Rattle.ibc_laws.proofs.steps.CoreShape.{CoreShaped}
use Rattle.ibc_machine.proofs.Measures.{Test, IsSorted}
use Rattle.ibc_laws.proofs.tokens.TokenMoves.{sent_tokens, refunded_tokens, received_tokens}
use Rattle.ibc_laws.proofs.tokens.BalanceSteps.{Taking, takes, refuses, Refunding, no_data, refunds, Acknowledging, succeeds, fails, ByPort, received_balances, acknowledged_balances, timed_out_balances, starting_sorted}
use Rattle.ibc_laws.proofs.steps.WorldGrowth.{ChainStep, acts, ends}
use Rattle.ibc_laws.proofs.steps.MachineSteps.{Stepped, rests, moves}
use Rattle.ibc_laws.proofs.peers.Invariant.{Inv, starting}

pub record ChainKinds (x : ℕ) (records : Records) : Type 0 where
  pub other_chains : (id : Text) (t : Client) → client_at records.core id ≡ Some t → t.state.chain ≡ x → ⊥
  pub ports : (port id : Text) (m : Channel) → channel_at records.core port id ≡ Some m → IsTaken port m.end
  pub sorted : IsSorted records.apps.balances

-- ---- balances stay sorted

any : Test
any key = true

taken_sorted : (b : Balances) (in_flight : Text → ℕ) (version : Text) (p : Packet) (ack : Text) (after : Balances) → IsSorted b
    → Taking b in_flight version p ack after → IsSorted after
taken_sorted b in_flight version p _ _ sorted (takes d after is user moved) =
    (received_tokens any in_flight p d.receiver d.tokens b after sorted moved).sorted
taken_sorted b in_flight version p _ _ sorted (refuses words) = sorted

refunded_sorted : (b : Balances) (version : Text) (p : Packet) (after : Balances) → IsSorted b → Refunding b version p after → IsSorted after
refunded_sorted b version p _ sorted (no_data is) = sorted
refunded_sorted b version p _ sorted (refunds d after is moved) = (refunded_tokens any p.source_channel d.sender d.tokens b after sorted moved).sorted

acknowledged_sorted : (b : Balances) (version : Text) (p : Packet) (ack : Text) (after : Balances) → IsSorted b
    → Acknowledging b version p ack after → IsSorted after
acknowledged_sorted b version p ack _ sorted (succeeds is) = sorted
acknowledged_sorted b version p ack _ sorted (fails after is refund) = refunded_sorted b version p after sorted refund

by_port_sorted : (port : Text) (before after : Balances) (P : Balances → Type 0) → IsSorted before → (P after → IsSorted after)
    → ByPort port before after P → IsSorted after
by_port_sorted port before after P sorted moved (inl h) = moved h.1
by_port_sorted port before after P sorted moved (inr h) = subst IsSorted (sym h.1) sorted

same_apps : (records : Records) (apps : Apps) → IsSorted records.apps.balances → apps ≡ records.apps → IsSorted apps.balances
same_apps records apps sorted same = subst (λ (a : Apps). IsSorted a.balances) (sym same) sorted

module _ (w : World) (host : Host) (records : Records) (apps : Apps) (sorted : IsSorted records.apps.balances) where
  end_sorted : (port id : Text) (m : Channel) (told : Told) (n : Channel) (s : ChannelStep w host records.core port id m told n)
      → AppsOfEnd w host records apps port id m told n s → IsSorted apps.balances
  end_sorted port id m told n (answers peer s) did = same_apps records apps sorted did
  end_sorted port id m told n (follows state s) did = same_apps records apps sorted did
  end_sorted port id m told n (closes s may) did = same_apps records apps sorted did
  end_sorted port id m told n (sends c s) did = elim did [
    | inl note ↦ same_apps records apps sorted note.1
    | inr tokens ↦ subst (λ (a : Apps). IsSorted a.balances) (sym tokens.after)
        (sent_tokens any id tokens.data_sent.sender tokens.data_sent.tokens records.apps.balances tokens.balances sorted tokens.paid).sorted
  ]
  end_sorted port id m told n (receives p ack s) did =
      by_port_sorted port records.apps.balances apps.balances (Taking records.apps.balances (burnt_amount records.core) m.end.version p ack) sorted
      (taken_sorted records.apps.balances (burnt_amount records.core) m.end.version p ack apps.balances sorted)
      (received_balances records port m.end.version p ack apps did)
  end_sorted port id m told n (acknowledges p s) did =
      by_port_sorted port records.apps.balances apps.balances (Acknowledging records.apps.balances m.end.version p s.ack) sorted
      (acknowledged_sorted records.apps.balances m.end.version p s.ack apps.balances sorted)
      (acknowledged_balances records.apps port m.end.version p s.ack apps did)
  end_sorted port id m told n (times_out p s) did =
      by_port_sorted port records.apps.balances apps.balances (Refunding records.apps.balances m.end.version p) sorted
      (refunded_sorted records.apps.balances m.end.version p apps.balances sorted)
      (timed_out_balances records.apps port m.end.version p apps did)

  step_sorted : (told : Told) (after : Core) (s : CoreStep w host records.core told after) → AppsOf w host records apps told after s
      → IsSorted apps.balances
  step_sorted told after (creates_client chain other free) did = same_apps records apps sorted did
  step_sorted told after (updates_client id client height there) did = same_apps records apps sorted did
  step_sorted told after (starts_connection end free s) did = same_apps records apps sorted did
  step_sorted told after (answers_connection id mine peer s) did = same_apps records apps sorted did
  step_sorted told after (confirms_connection id mine s) did = same_apps records apps sorted did
  step_sorted told after (opens_channel port end free s) did = same_apps records apps sorted did
  step_sorted _ after (changes_channel told port id mine now there s) did = end_sorted port id mine told now s did

-- ---- clients and ports

module _ (w : World) (host : Host) (records : Records) (shaped : CoreShaped records.core) (h : ChainKinds host.chain records) where
  clients_after : (told : Told) (after : Core) → CoreStep w host records.core told after → (id : Text) (t : Client)
      → client_at after id ≡ Some t → t.state.chain ≡ host.chain → ⊥
  clients_after told after (creates_client chain other free) id t is own =
      elim (found_in_with by_text (nth_client records.core.next_client) id (new_client chain) t records.core.clients is) [
        | inl new ↦ (
            let same : chain ≡ host.chain = ap (λ (c : Client). c.state.chain) new.1 ∙ own in
            absurd (cc (other, subst (λ k. (chain == k) ≡ true) same (number-self chain)))
            )
        | inr old ↦ h.other_chains id t old own
      ]
  clients_after told after (updates_client k client height there) id t is own =
      elim (found_in_with by_text k id (with_known_height height client) t records.core.clients is) [
        | inl new ↦ h.other_chains k client there (ap (λ (c : Client). c.state.chain) new.1 ∙ own)
        | inr old ↦ h.other_chains id t old own
      ]
  clients_after told after (starts_connection end free s) id t is own = h.other_chains id t is own
  clients_after told after (answers_connection k mine peer s) id t is own = h.other_chains id t is own
  clients_after told after (confirms_connection k mine s) id t is own = h.other_chains id t is own
  clients_after told after (opens_channel port end free s) id t is own = h.other_chains id t is own
  clients_after _ after (changes_channel told port k mine now there s) id t is own = h.other_chains id t is own

  ports_after : (told : Told) (after : Core) → CoreStep w host records.core told after → (port id : Text) (m : Channel)
      → channel_at after port id ≡ Some m → IsTaken port m.end
  ports_after told after (creates_client chain other free) port id m is = h.ports port id m is
  ports_after told after (updates_client k client height there) port id m is = h.ports port id m is
  ports_after told after (starts_connection end free s) port id m is = h.ports port id m is
  ports_after told after (answers_connection k mine peer s) port id m is = h.ports port id m is
  ports_after told after (confirms_connection k mine s) port id m is = h.ports port id m is
  ports_after told after (opens_channel p end free s) port id m is =
      elim (found_in_with by_pair (p, nth_channel records.core.next_channel) (port, id) (new_channel end) m records.core.channels is) [
        | inl new ↦ subst (λ q. IsTaken q m.end) (sym (ap (λ (x : Text × Text). x.0) new.0))
            (subst (λ (c : Channel). IsTaken p c.end) new.1 s.taken)
        | inr old ↦ h.ports port id m old
      ]
  ports_after _ after (changes_channel told p k mine now there s) port id m is =
      elim (found_in_with by_pair (p, k) (port, id) now m records.core.channels is) [
        | inl new ↦ (
            let grows = end_grows w host records.core p k mine (shaped.channels p k mine there) told now s in
            let was = h.ports p k mine there in
            let kept : IsTaken p now.end = (
              was.0,
              subst (λ v. on_open p now.end.order v ≡ Ok tt) (sym grows.end.version) (subst (λ o. on_open p o mine.end.version ≡ Ok tt) (sym grows.end.order) was.1),
            ) in
            subst (λ q. IsTaken q m.end) (sym (ap (λ (x : Text × Text). x.0) new.0)) (subst (λ (c : Channel). IsTaken p c.end) new.1 kept)
            )
        | inr old ↦ h.ports port id m old
      ]

-- ---- every run

pub record Kinds (w : World) : Type 0 where
  pub each : (x : ℕ) (c : MachineChain) → slice_get w x ≡ Some c → ChainKinds x c.records

kinds_of_step : (chains : ℕ) (w : World) → Inv w → (k : ℕ) (c : MachineChain) → slice_get w k ≡ Some c → ChainKinds k c.records → (told : Told) (d : MachineChain)
    → ChainStep chains w k c told d → ChainKinds k d.records
kinds_of_step chains w inv k c there h _ d (acts told records step did) =
    let shaped = (inv.shaped.each k c there).core in
    record {
      other_chains = clients_after w (host_of chains k c) c.records shaped h told records.core step;
      ports = ports_after w (host_of chains k c) c.records shaped h told records.core step;
      sorted = step_sorted w (host_of chains k c) c.records records.apps h.sorted told records.core step did;
    }
kinds_of_step chains w inv k c there h told d (ends t later) = h

pub kinds_step : (chains : ℕ) (w : World) (h : Happened) (v : World) → Inv w → Kinds w → Stepped chains w h v → Kinds v
kinds_step chains w h v inv kinds (rests quiet same) = subst Kinds (sym same) kinds
kinds_step chains w h v inv kinds (moves s) = record {
  each = λ x c is. elim (placed w s.k s.before s.now s.there x c (subst (λ y. slice_get y x ≡ Some c) s.after is)) [
    | inl here ↦ subst (λ (z : MachineChain). ChainKinds x z.records) here.1 (subst (λ y. ChainKinds y s.now.records) (sym here.0)
        (kinds_of_step chains w inv s.k s.before s.there (kinds.each s.k s.before s.there) (told_of h) s.now s.step))
    | inr other ↦ kinds.each x c other.1
  ];
}

kinds_start_of : (x : ℕ) (s : ChainState) → ChainKinds x (starting_chain s).records
kinds_start_of x s = record {
  other_chains = λ id t is own. absurd (cc is);
  ports = λ port id m is. absurd (cc is);
  sorted = starting_sorted s.balances;
}

pub kinds_start : (genesis : GenesisState) → Kinds (start genesis)
kinds_start genesis = record {
  each = λ x c is. let s = starting genesis.chains x c is in subst (λ (z : MachineChain). ChainKinds x z.records) s.1 (kinds_start_of x s.0);
}
