-- Records that a handler wrote: their clients know nothing that they didn't know.
use Rattle.std.proofs.Common.{◌≡◌, ℕ, ◌+◌, cond, is_eq, Ordering, Less, Equal, Greater, sym, ap, ◌∙◌, Some, option_and_then}
use Rattle.std.specs.Ordering.{nat_cmp}
use Rattle.ibc_ids.specs.Texts.{Text, text_cmp}
use Rattle.ibc_ids.specs.Maps.{at}
use Rattle.ibc_ids.proofs.Texts.{text_cmp_total}
use Rattle.ibc_wire.specs.declared.records.ConnectionEnd.{ConnectionEnd}
use Rattle.ibc_wire.specs.declared.records.ChannelEnd.{ChannelEnd}
use Rattle.ibc_machine.specs.chain.Records.{with_client, with_connection, with_channel}
use Rattle.ibc_machine.specs.ics02.Clients.{new_client}
use Rattle.ibc_machine.specs.ics03.Connections.{with_new_connection}
use Rattle.ibc_machine.specs.ics04.Channels.{with_new_channel}
use Rattle.ibc_machine.proofs.Images.{at-with}
use Rattle.ibc_records.specs.ClientModels.{ClientModel, new_client_model}
use Rattle.ibc_records.specs.RecordsModel.{RecordsModel, core_of, consensus_in, AddsClient, AddsConnection, SetsConnection, AddsChannel, SetsChannelEnd}
use Rattle.ibc_records.specs.Knowledge.{KnowsNoMore}
use Rattle.ibc_records.specs.HandlerContract.{AreWrittenRecords}

-- the same clients know the same
pub same_clients : (old new : RecordsModel) → new.clients ≡ old.clients → KnowsNoMore old new
same_clients old new same client height known e =
    sym (ap (λ clients. option_and_then (λ (c : ClientModel). at nat_cmp height c.known) (at text_cmp client clients)) same) ∙ e

pub adds_connection_written : (old : RecordsModel) (id : Text) (end : ConnectionEnd) (new : RecordsModel) → AddsConnection old id end new
    → AreWrittenRecords (with_new_connection id end (core_of old)) old new
adds_connection_written old id end new adds = record {
  core_is = adds.core;
  stored = adds.stored;
  knows = same_clients old new (ap (λ (h : RecordsModel). h.clients) adds.records);
}

pub sets_connection_written : (old : RecordsModel) (id : Text) (end : ConnectionEnd) (new : RecordsModel) → SetsConnection old id end new
    → AreWrittenRecords (with_connection id end (core_of old)) old new
sets_connection_written old id end new sets = record {
  core_is = sets.core;
  stored = sets.stored;
  knows = same_clients old new (ap (λ (h : RecordsModel). h.clients) sets.records);
}

pub adds_channel_written : (old : RecordsModel) (port id : Text) (end : ChannelEnd) (new : RecordsModel) → AddsChannel old port id end new
    → AreWrittenRecords (with_new_channel port id end (core_of old)) old new
adds_channel_written old port id end new adds = record {
  core_is = adds.core;
  stored = adds.stored;
  knows = same_clients old new (ap (λ (h : RecordsModel). h.clients) adds.records);
}

pub sets_channel_end_written : (old : RecordsModel) (port id : Text) (end : ChannelEnd) (new : RecordsModel) (sets : SetsChannelEnd old port id end new)
    → AreWrittenRecords (with_channel port id (record sets.channel { end = end }) (core_of old)) old new
sets_channel_end_written old port id end new sets = record {
  core_is = sets.core;
  stored = sets.stored;
  knows = same_clients old new (ap (λ (h : RecordsModel). h.clients) sets.records);
}

-- a new client knows nothing
module _ (old : RecordsModel) (id : Text) (chain : ℕ) (new : RecordsModel) (adds : AddsClient old id chain new) where
  knows_no_more : KnowsNoMore old new
  knows_no_more client height known e =
      by_client (text_cmp client id)
      (sym (ap (option_and_then (λ (c : ClientModel). at nat_cmp height c.known)) (ap (λ (h : RecordsModel). at text_cmp client h.clients) adds.records ∙ at-with text_cmp text_cmp_total client id (new_client_model chain) old.clients)) ∙ e)
    where
      by_client : (o : Ordering) → option_and_then (λ (c : ClientModel). at nat_cmp height c.known) (cond (is_eq o) (Some (new_client_model chain)) (at text_cmp client old.clients)) ≡ Some known
          → consensus_in old client height ≡ Some known
      by_client Less same = same
      by_client Equal same = absurd (cc)
      by_client Greater same = same

  pub adds_client_written : AreWrittenRecords (record (with_client id (new_client chain) (core_of old)) { next_client = old.next_client + 1 }) old new
  adds_client_written = record { core_is = adds.core; stored = adds.stored; knows = knows_no_more }
