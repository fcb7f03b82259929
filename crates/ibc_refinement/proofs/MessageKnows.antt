-- What clients know of others stays what those committed, through a message.
use Rattle.std.proofs.Common.{◌≡◌, ℕ, Bool, true, false, eqb, not, nat_le, List, length, refl, sym, ap, ◌∙◌, subst, Some, None, Option, option_map, option_and_then, Ok, Err, eqb-true}
use Rattle.std.specs.Option.{option_map_or}
use Rattle.std.proofs.lemmas.Bool.{and_parts, false≢true}
use Rattle.ibc_ids.specs.Texts.{Text, text_cmp, same_text}
use Rattle.ibc_ids.specs.Maps.{Map, with}
use Rattle.ibc_ids.specs.Paths.{nth_client}
use Rattle.ibc_ids.specs.Publications.{row_at}
use Rattle.ibc_ids.specs.declared.publication.Publication.{Publication}
use Rattle.ibc_wire.specs.declared.header.Header.{Header}
use Rattle.ibc_wire.specs.declared.messages.CreateClient.{CreateClient}
use Rattle.ibc_wire.specs.declared.messages.UpdateClient.{UpdateClient}
use Rattle.ibc_wire.specs.declared.messages.Message.{Message}
use Rattle.ibc_wire.specs.declared.messages.Message.TheVariants as message
use Rattle.ibc_machine.specs.declared.event.Event.TheVariants as event
use Rattle.ibc_machine.specs.declared.entry.Reading.{Reading}
use Rattle.ibc_machine.specs.declared.reply.Effect.{Effect}
use Rattle.ibc_machine.specs.chain.Records.{Core, Apps, Client, Block, client_at, with_client}
use Rattle.ibc_machine.specs.ics24.Image.{core_root}
use Rattle.ibc_machine.specs.chain.Checks.{Checked}
use Rattle.ibc_machine.specs.ics24.Evidence.{Host, Evidence, require_row}
use Rattle.ibc_machine.specs.ics02.Clients.{create_client, update_client, new_client, with_known_height, is_of_client}
use Rattle.ibc_machine.specs.chain.Genesis.{GenesisState}
use Rattle.ibc_machine.specs.chain.Handlers.{handle, after_message, host_of}
use Rattle.ibc_machine.specs.chain.Machine.{World, block_at, row_if}
use Rattle.ibc_machine.specs.ledger.Replay.{Consensus, LedgerState, consensus_cmp, is_published_as, row_read, proof_evidence, with_consensus, after_answer, ledger_answer}
use Rattle.ibc_machine.specs.ledger.Ledgers.{published_as}
use Rattle.ibc_ids.proofs.Texts.{text_same}
use Rattle.ibc_machine.proofs.PassedRows.{Gives, gives_ok, gives_then, gives_require, gives_expect}
use Rattle.ibc_machine.proofs.PassedHandlers.{gives_on_core}
use Rattle.ibc_refinement.proofs.LedgerSteps.{Knows, KnowsBlocks, consensus_of, SeesForMessage}
use Rattle.ibc_refinement.proofs.Typed.{IsTyped}
use Rattle.ibc_refinement.proofs.TypedMessages.{IsTypedMessage}
use Rattle.ibc_refinement.proofs.KeptTypes.{KeptBeside}
use Rattle.ibc_refinement.proofs.KeptRecords.{IsOtherMessage, handle_kept}
use Rattle.ibc_refinement.proofs.Knowing.{update_knows, same_clients_know, created_knows}

-- what clients know after a message was answered so
abbrev KnowsAfter : World → LedgerState → Message → Checked (Effect × Core × Apps) → Type 0
KnowsAfter world state m x = KnowsBlocks world (after_answer m state (after_message state.chain x)).1

-- ---- messages for others than clients

other_consensus : (m : Message) → IsOtherMessage m → (known : Map (Text × ℕ) Consensus) → with_consensus m known ≡ known
other_consensus (message.CreateClient m) apart known = absurd apart
other_consensus (message.UpdateClient m) apart known = absurd apart
other_consensus m apart known = refl

other_knows : (world : World) (state : LedgerState) (m : Message) (x : Checked (Effect × Core × Apps)) → IsOtherMessage m → Gives (KeptBeside state.chain.records.core) x → KnowsBlocks world state → KnowsAfter world state m x
other_knows world state m (Err r) apart keeps known = known
other_knows world state m (Ok w) apart keeps known =
    subst (Knows world w.1) (sym (other_consensus m apart state.consensus))
    (same_clients_know world state.chain.records.core w.1 state.consensus (keeps.gives w refl).clients known)

-- ---- a new client

abbrev Creates : Core → CreateClient → Core → Type 0
Creates old m after = after.clients ≡ with text_cmp (nth_client old.next_client) (new_client m.chain) old.clients

create_gives : (evidence : Evidence) (host : Host) (core : Core) (m : CreateClient) → Gives (λ (w : Effect × Core). Creates core m w.1) (create_client m evidence host core)
unfolding create_client
create_gives evidence host core m = gives_then _ _ λ _. gives_then _ _ λ _. gives_then _ _ λ _. gives_ok (λ (w : Effect × Core). Creates core m w.1) _ refl

create_knows : (world : World) (state : LedgerState) (m : CreateClient) (x : Checked (Effect × Core × Apps)) → Gives (λ (w : Effect × Core × Apps). Creates state.chain.records.core m w.1) x
    → KnowsBlocks world state → KnowsAfter world state (message.CreateClient m) x
create_knows world state m (Err r) gives known = known
create_knows world state m (Ok w) gives known =
    created_knows world state.chain.records.core w.1 state.consensus (nth_client state.chain.records.core.next_client) m.chain (gives.gives w refl) known

-- ---- an update

-- what an accepted update has passed, and what it did
pub record Updates (evidence : Evidence) (core : Core) (m : UpdateClient) (after : Core) : Type 0 where
  pub client : Client
  pub there : client_at core m.client ≡ Some client
  pub ours : is_of_client client m.header ≡ true
  pub published : nat_le m.header.height (evidence.published m.header.chain) ≡ true
  pub row : require_row (evidence.row m.header) ≡ Ok tt
  pub core_is : with_client m.client (with_known_height m.header.height client) core ≡ after

update_gives : (evidence : Evidence) (host : Host) (core : Core) (m : UpdateClient) → Gives (λ (w : Effect × Core). Updates evidence core m w.1) (update_client m evidence host core)
unfolding update_client
update_gives evidence host core m =
    gives_expect _ _ _ λ (client : Client) there. gives_require _ _ _ λ ours. gives_require _ _ _ λ published. gives_then _ _ λ row.
    gives_ok (λ (w : Effect × Core). Updates evidence core m w.1) _
    (record { client = client; there = there; ours = ours; published = published; row = row; core_is = refl })

row_same : (b : Bool) → require_row (row_if b) ≡ Ok tt → b ≡ true
row_same true e = refl
row_same false e = absurd (cc)

-- a row that was accepted was there, and is the header's
row_there : (seen : List Publication) (o : Option Bool) (header : Header) → require_row (row_read seen o header) ≡ Ok tt
    → (o ≡ Some true) × (option_map_or (is_published_as header) (row_at seen header.chain header.height) false ≡ true)
row_there seen (Some true) header e = (refl, row_same _ e)
row_there seen (Some false) header e = absurd (cc)
row_there seen None header e = absurd (cc)

block_from : (header : Header) (o : Option Block) → option_map_or (is_published_as header) (option_map (published_as header.chain) o) false ≡ true
    → (block : Block) × (o ≡ Some block) × (consensus_of block ≡ record { root = header.root; time = header.time })
block_from header None e = absurd (false≢true e)
block_from header (Some block) e =
    let parts = and_parts (eqb header.time block.time) (same_text header.root (core_root block.records.core)) e in
    let time = sym (eqb-true header.time block.time parts.0) in
    let root = sym (text_same header.root (core_root block.records.core) parts.1) in
    (block, refl, λ i. record { root = root i; time = time i })

update_message_knows : (window : ℕ) (world : World) (seen : List Publication) (reading : Option Reading) (state : LedgerState) (m : UpdateClient) (x : Checked (Effect × Core × Apps))
    → Gives (λ (w : Effect × Core × Apps). Updates (proof_evidence seen reading state) state.chain.records.core m w.1) x
    → SeesForMessage window world seen reading state (message.UpdateClient m) → KnowsBlocks world state → KnowsAfter world state (message.UpdateClient m) x
update_message_knows window world seen reading state m (Err r) gives sees known = known
update_message_knows window world seen reading state m (Ok w) gives sees known =
    let g = gives.gives w refl in
    let see = sees g.client g.there g.ours in
    let read = ap (λ (o : Option Reading). option_and_then (λ (r : Reading). r.row_was_there) o) see.1 in
    let there = row_there seen _ m.header g.row in
    let row = see.2.row (sym read ∙ there.0) in
    let b = block_from m.header (block_at world m.header.chain m.header.height) (ap (λ o. option_map_or (is_published_as m.header) o false) (sym row) ∙ there.1) in
    let chain = eqb-true m.header.chain g.client.state.chain (and_parts (eqb m.header.chain g.client.state.chain) (not (eqb m.header.height 0)) g.ours).0 in
    let stands = ap (λ c. block_at world c m.header.height) (sym chain) ∙ b.1 in
    let next = update_knows world state.chain.records.core state.consensus m.client m.header.height g.client b.0 g.there stands known in
    let cores = g.core_is in
    let heard = b.2 in
    subst (λ (r : Core × Consensus). Knows world r.0 (with consensus_cmp (m.client, m.header.height) r.1 state.consensus)) (λ i. (cores i, heard i)) next

-- ---- all messages

pub message_knows : (genesis : GenesisState) (k chain : ℕ) (world : World) (seen : List Publication) (reading : Option Reading) (state : LedgerState) (m : Message)
    → IsTyped state.chain.records.core → IsTypedMessage m → SeesForMessage genesis.window world seen reading state m → KnowsBlocks world state
    → KnowsBlocks world (ledger_answer genesis k seen reading state (event.Message chain m)).1
unfolding ledger_answer handle
message_knows genesis k chain world seen reading state (message.CreateClient m) typed t sees known =
    let core = state.chain.records.core in
    create_knows world state m _ (gives_on_core (λ (w : Effect × Core × Apps). Creates core m w.1) _ state.chain.records.apps
    (create_gives (proof_evidence seen reading state) (host_of (length genesis.chains) k state.chain) core m)) known
message_knows genesis k chain world seen reading state (message.UpdateClient m) typed t sees known =
    let core = state.chain.records.core in
    update_message_knows genesis.window world seen reading state m _ (gives_on_core (λ (w : Effect × Core × Apps). Updates (proof_evidence seen reading state) core m w.1) _ state.chain.records.apps
    (update_gives (proof_evidence seen reading state) (host_of (length genesis.chains) k state.chain) core m)) sees known
message_knows genesis k chain world seen reading state m typed t sees known =
    other_knows world state m _ tt
    (handle_kept (proof_evidence seen reading state) (host_of (length genesis.chains) k state.chain) state.chain.records.core typed state.chain.records.apps m tt t) known
