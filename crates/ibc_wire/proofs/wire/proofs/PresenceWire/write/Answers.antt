use Rattle.std.proofs.Common.{◌∷◌, [], length}
use Rattle.std.specs.List.{flat_map}
use Rattle.ibc_wire.specs.Fields.{str_up_to, count_between}
use Rattle.ibc_wire.specs.Spelling.{operation_fields}
use Rattle.ibc_wire.proofs.Writing.{behind}
use Rattle.ibc_wire.proofs.wire.proofs.PresenceWire.write.Goals as goal

pub returns : goal.returns
returns c =
    let p = c.args.self.now in
    let operations = count_between 0 64 (length p.operations) ∷ flat_map operation_fields p.operations in
    let r = c.write_operations.result in
    let end = c.write_operations.new.out.items in
    behind (str_up_to 256 p.key ∷ []) (str_up_to 512 p.value ∷ str_up_to 64 p.leaf_prefix ∷ operations) c.args.out.now.items c.write_str.new.out.items end r c.in_ok-write_str.ensures (
    behind (str_up_to 512 p.value ∷ []) (str_up_to 64 p.leaf_prefix ∷ operations) c.write_str.new.out.items c.write_str-2.new.out.items end r c.in_ok-write_str-2.ensures (
    behind (str_up_to 64 p.leaf_prefix ∷ []) operations c.write_str-2.new.out.items c.write_affix.new.out.items end r c.in_ok-write_affix.ensures
    c.write_operations.ensures))
