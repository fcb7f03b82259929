use Rattle.std.proofs.Common.{◌∷◌, [], length, subst}
use Rattle.std.specs.List.{flat_map}
use Rattle.ibc_wire.specs.Fields.{count_between}
use Rattle.ibc_wire.specs.Spelling.{operation_fields}
use Rattle.ibc_wire.specs.Fronts.{Writes}
use Rattle.ibc_wire.proofs.Writing.{behind}
use Rattle.ibc_wire.proofs.wire.proofs.write_operations.Goals as goal

pub returns : goal.returns
returns c =
    let items = c.as_slice-items.result.now in
    subst (λ xs. Writes (count_between 0 64 (length xs) ∷ flat_map operation_fields xs) c.args.out.now.items c.write_many.result c.write_many.new.out.items) c.as_slice-items.ensures
    (behind (count_between 0 64 (length items) ∷ []) (flat_map operation_fields items) c.args.out.now.items c.write_count.new.out.items c.write_many.new.out.items c.write_many.result c.in_ok-write_count.ensures c.write_many.ensures)
