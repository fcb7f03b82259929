use Rattle.std.proofs.Common.{◌++◌, sym, ap, ◌∙◌, length}
use Rattle.ibc_wire.proofs.Writing.{root_is_written}
use Rattle.ibc_wire.proofs.fields.write_root.Goals as goal

pub returns : goal.returns
returns c =
    root_is_written c.args.root.now c.args.out.now.items c.extend_from_slice.new.self.items (λ i lt. c.type_inv.out i 0 lt)
    (ap length (sym c.bytes.ensures.value) ∙ c.bytes.ensures.size) (c.in_ok-extend_from_slice.ensures.items ∙ ap (λ x. c.args.out.now.items ++ x) c.bytes.ensures.value)
