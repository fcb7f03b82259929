use Rattle.std.proofs.Common.{◌++◌, ap, ◌∙◌, arith}
use Rattle.ibc_wire.proofs.Writing.{text_is_written}
use Rattle.ibc_wire.proofs.fields.write_text.Goals as goal

pub returns : goal.returns
returns c =
    text_is_written c.args.limit c.args.text.now c.args.out.now.items c.extend_from_slice.new.self.items c.extend_from_slice-2.new.self.items
    (λ i lt. omega (arith, c.type_inv.text i)) (omega arith)
    (c.in_ok-extend_from_slice.ensures.items ∙ ap (λ x. c.args.out.now.items ++ x) c.to_be_bytes.ensures) c.in_ok-extend_from_slice-2.ensures.items
