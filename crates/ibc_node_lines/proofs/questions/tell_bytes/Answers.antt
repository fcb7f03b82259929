-- What was found is told.
use Rattle.std.proofs.Common.{◌≡◌, string_bytes, sym, subst}
use Rattle.std.specs.Prelude.{IsOkAnd}
use Rattle.ibc_node_lines.specs.OtherLines.{found_text}
use Rattle.ibc_node_lines.proofs.questions.tell_bytes.Goals as goal

pub returns-in_ok-told_bytes-in-Ok : goal.returns-in_ok-told_bytes-in-Ok
returns-in_ok-told_bytes-in-Ok c =
    let text = string_bytes c.in_ok-told_bytes-in-Ok.field-0 in
    subst (λ bytes. IsOkAnd bytes (λ found. text ≡ found_text c.args.what.now found)) (sym c.in-Ok.is) c.in_ok-told_bytes-in-Ok.ensures
