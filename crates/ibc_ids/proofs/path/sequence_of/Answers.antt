use Rattle.std.proofs.Common.{◌≢◌, get_or, ◌∙◌, sym, arith}
use Rattle.std.proofs.lemmas.Bool.{false≢true}
use Rattle.std.proofs.lemmas.Str.Pattern.{starts_char}
use Rattle.ibc_ids.proofs.Sequences.{no_sign, no_zero, zero_alone, read}
use Rattle.ibc_ids.proofs.path.sequence_of.Goals as goal

pub returns-then-starts_with : goal.returns-then-starts_with
returns-then-starts_with c =
    let text = c.args.text.now in
    no_sign text ((starts_char 43 text c.starts_with.result c.starts_with.ensures.cases (omega arith) (omega arith)).0 c.if-starts_with.true)

pub returns-then-has_leading_zero : goal.returns-then-has_leading_zero
returns-then-has_leading_zero c =
    no_zero c.as_bytes.result.now c.args.text.now c.has_leading_zero.result c.as_bytes.ensures.value c.has_leading_zero.ensures c.if-has_leading_zero.true

pub returns : goal.returns
returns c =
    let text = c.args.text.now in
    let sign = starts_char 43 text c.starts_with.result c.starts_with.ensures.cases (omega arith) (omega arith) in
    let plus : get_or text 0 0 ≢ 43 = λ is. false≢true (sym c.if-starts_with.false ∙ sign.1 is) in
    let alone = zero_alone c.as_bytes.result.now text c.has_leading_zero.result c.as_bytes.ensures.value c.has_leading_zero.ensures c.if-has_leading_zero.false in
    rw c.ok.ensures.value (read _ text c.parse.result c.parse.ensures.value.0 plus alone)
