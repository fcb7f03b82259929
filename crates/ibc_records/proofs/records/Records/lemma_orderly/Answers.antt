-- Records are in order by what is kept of their channels.
use Rattle.std.proofs.Common.{◌<◌, ◌^◌, arith, subst}
use Rattle.ibc_machine.specs.chain.Orderly.{IsOrderly}
use Rattle.ibc_records.specs.RecordsModel.{RecordsModel, core_of}
use Rattle.ibc_records.specs.RecordsFields.{records_model}
use Rattle.ibc_records.proofs.Orderly.{orderly_core}
use Rattle.ibc_records.proofs.records.Records.lemma_orderly.Goals as goal

pub returns : goal.returns
returns c =
    let held : RecordsModel = records_model c.self.inside in
    let fits : held.next_channel < 2 ^ 64 = omega arith in
    subst (λ (value : RecordsModel). IsOrderly (core_of value)) c.self.view_is (orderly_core held c.self.invariant fits)
