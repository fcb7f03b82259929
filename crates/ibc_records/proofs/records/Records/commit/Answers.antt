-- An image has a pair, since the counters always stand.
use Rattle.std.proofs.Common.{◌<◌, sym, subst, length}
use Rattle.std.proofs.lemmas.Bool.{ltb-true}
use Rattle.ibc_merkle.specs.Tree.{Pairs}
use Rattle.ibc_machine.proofs.Images.{image_sorted}
use Rattle.ibc_records.specs.RecordsModel.{core_of, RecordsModel}
use Rattle.ibc_records.specs.RecordsFields.{records_model}
use Rattle.ibc_records.proofs.records.Records.commit.Goals as goal

pub commit-requires : goal.commit-requires
commit-requires c =
    let held : RecordsModel = records_model c.self.inside in
    subst (λ (pairs : Pairs). 0 < length pairs) (sym c.self.invariant.stored) (ltb-true 0 _ (image_sorted (core_of held)).1)
