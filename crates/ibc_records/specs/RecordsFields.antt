-- What a ledger keeps of a chain's records, as contracts see it.
use Rattle.ibc_records.specs.RecordsModel.{RecordsModel}
use Rattle.ibc_records.specs.declared.records.Records.TheInside.{Inside}

abbrev pub records_model : Inside → RecordsModel
records_model records = record {
  clients = records.clients.pairs;
  connections = records.connections.pairs;
  channels = records.channels.pairs;
  next_client = records.next_client;
  next_connection = records.next_connection;
  next_channel = records.next_channel;
  store = records.store;
  last = record { core = records.last.value; time = records.last_time };
}
