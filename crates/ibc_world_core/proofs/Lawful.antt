-- The laws speak of every past, and so of a world's and of audited ledgers'.
use Rattle.std.proofs.Common.{◌≡◌, List, [], ◌∷◌, map, sym, ap, ◌∙◌, subst}
use Rattle.std.specs.Prelude.{nat_lt}
use Rattle.std.specs.List.{list_all}
use Rattle.std.proofs.lemmas.List.{length-map}
use Rattle.ibc_ids.specs.declared.publication.Publication.{Publication}
use Rattle.ibc_machine.specs.declared.entry.Entry.{Entry}
use Rattle.ibc_machine.specs.chain.Records.{MachineChain}
use Rattle.ibc_machine.specs.ledger.Ledgers.{Ledger, chain_of}
use Rattle.ibc_machine.specs.promises.Worlds.{IsWorldHistory, by_number, entries, interleaved}
use Rattle.ibc_ledger.specs.LedgerModel.{LedgerModel}
use Rattle.ibc_laws.specs.EveryLaw.{EveryLaw}
use Rattle.ibc_refinement.specs.World.{WorldState, kept_entries}
use Rattle.ibc_refinement.proofs.world.Nothing.{history_at}
use Rattle.ibc_refinement.proofs.world.Interleavings.{chains_of, interleaved_is}
use Rattle.ibc_world_core.specs.declared.holdings.Audit.{Audit}
use Rattle.ibc_world_core.specs.WorldModel.{ledgers_alone}
use Rattle.ibc_world_core.specs.WorldAudits.{IsAudit}
use Rattle.ibc_world_core.proofs.OneWorld.{two_maps}
use Rattle.ibc_world_core.specs.EveryWorld.{happened_in, states_of, IsLawful}
use Rattle.ibc_world_core.specs.EveryAudit.{world_of, AreLawful}

pub lawful : EveryLaw → (world : WorldState) (publications : List Publication) → IsWorldHistory world.genesis world.ledgers publications (kept_entries world) → IsLawful world
lawful every world publications history =
    let happened = happened_in world in
    let states = states_of world in
    let laws = every.laws in
    record {
      run = history.past;
      whole = λ k ledger there. history.merges.each k (entries ledger) (history_at world.ledgers k ledger there);
      no_others = ap (λ n. list_all (λ (entry : Entry). nat_lt (chain_of entry.event) n) (kept_entries world)) (sym (length-map world.ledgers entries)) ∙ history.merges.no_others;
      each_moment = λ before after h. every.each_moment world.genesis happened states before h after history.past;
      one_peer = laws.one_peer world.genesis happened states history.past;
      exactly_once = λ e f peers. laws.exactly_once world.genesis happened states e f history.past peers;
      in_order = λ e f mine peers. laws.in_order world.genesis happened states e f history.past peers mine;
      conserved = λ e f denom peers. laws.conserved world.genesis happened states e f history.past peers denom;
      never_poor = λ event. laws.never_poor world.genesis happened states event history.past;
      never_short = λ chain m token takes brings.
          laws.never_short world.genesis happened states takes.2 chain m takes.1 brings.1 brings.3 token history.past takes.0 takes.3 brings.0 brings.2 brings.4 brings.5;
      was_never_short = every.was_never_short world.genesis happened states;
      received_was_sent = λ e f mine p peers. every.received_was_sent world.genesis happened states e f history.past peers mine p;
      taken_as_written = λ e f p ack peers. every.taken_as_written world.genesis happened states e f history.past peers p ack;
      settled_was_sent = every.settled_was_sent world.genesis happened states history.past;
      received_in_time = every.received_in_time world.genesis happened states;
      acknowledged_in_order = every.acknowledged_in_order world.genesis happened states history.past;
      closed_is_silent = every.closed_is_silent world.genesis happened states;
      taken_of_peer = every.taken_of_peer world.genesis happened states history.past;
      peers_agree = λ e f mine theirs peers. every.peers_agree world.genesis happened states e f history.past peers mine theirs;
      supply_stays = λ chain denom. every.supply_stays world.genesis happened states chain denom history.past;
      backed = λ chain denom. every.no_voucher_without_escrow world.genesis happened states chain denom history.past;
      who_pays = every.who_pays world.genesis happened states;
      who_is_paid = every.who_is_paid world.genesis happened states;
      each_balance = λ chain user denom. every.each_balance world.genesis happened states chain user denom history.past;
      notes_are_received = λ chain channel. every.notes_are_received world.genesis happened states chain channel history.past;
      notes_stay = every.notes_stay world.genesis happened states;
      notes_were_sent = λ e f mine peers port. every.notes_were_sent world.genesis happened states e f history.past peers mine port;
    }

pub are_lawful : EveryLaw → (ledgers : List LedgerModel) (audit : Audit) → IsAudit ledgers audit → AreLawful ledgers audit
are_lawful laws [] audit is = absurd is
are_lawful laws (first ∷ others) audit is =
    let publications = is.1.0 in
    let audited = is.1.2 in
    let genesis = first.ledger.genesis in
    let ledgers : List Ledger = by_number genesis (ledgers_alone (first ∷ others)) in
    let order = chains_of audited.list in
    let same : interleaved order (map entries ledgers) ≡ audited.list = interleaved_is audited.list (map entries ledgers) audited.merges.each audited.merges.no_others in (
      order,
      λ clash. lawful laws (world_of first others order) publications
          (subst (IsWorldHistory genesis ledgers publications) (sym same) (record { merges = audited.merges; past = audited.past is.0 clash })),
      audited.balances_are ∙ sym (two_maps (λ (c : MachineChain). c.records.apps.balances) ledgers),
      audited.notes_are ∙ sym (two_maps (λ (c : MachineChain). c.records.apps.notes) ledgers),
    )
