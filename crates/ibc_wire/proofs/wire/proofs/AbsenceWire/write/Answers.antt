use Rattle.std.proofs.Common.{◌∷◌, ◌++◌, []}
use Rattle.std.proofs.lemmas.Result.{err_from_is_err_and}
use Rattle.ibc_wire.specs.Fields.{str_up_to}
use Rattle.ibc_wire.specs.Spelling.{neighbour_fields}
use Rattle.ibc_wire.proofs.Writing.{refused, none_before, none_behind, behind}
use Rattle.ibc_wire.proofs.wire.proofs.AbsenceWire.write.Goals as goal

pub returns-in_err-write_neighbour : goal.returns-in_err-write_neighbour
returns-in_err-write_neighbour c =
    let a = c.args.self.now in
    let p = err_from_is_err_and c.from_residual-in_err-write_neighbour.result c.from_residual-in_err-write_neighbour.ensures.1 in
    rw (p.1, p.2) (refused c.in_err-write_neighbour.field-0.0
    (λ none. none_behind (str_up_to 256 a.key ∷ []) (neighbour_fields a.left ++ neighbour_fields a.right) (none_before (neighbour_fields a.left) (neighbour_fields a.right) none)) c.in_err-write_neighbour.ensures)

pub returns : goal.returns
returns c =
    let a = c.args.self.now in
    let r = c.write_neighbour-2.result in
    let end = c.write_neighbour-2.new.out.items in
    behind (str_up_to 256 a.key ∷ []) (neighbour_fields a.left ++ neighbour_fields a.right) c.args.out.now.items c.write_str.new.out.items end r c.in_ok-write_str.ensures (
    behind (neighbour_fields a.left) (neighbour_fields a.right) c.write_str.new.out.items c.write_neighbour.new.out.items end r c.in_ok-write_neighbour.ensures
    c.write_neighbour-2.ensures)
