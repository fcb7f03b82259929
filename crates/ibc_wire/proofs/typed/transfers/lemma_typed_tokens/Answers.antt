use Rattle.std.proofs.Common.{true, ◌&&◌, sym, ap, ◌∙◌}
use Rattle.std.specs.List.{flat_map}
use Rattle.std.proofs.lemmas.List.{take_all}
use Rattle.ibc_wire.specs.Fields.{are_typed}
use Rattle.ibc_wire.specs.Spelling.{token_fields}
use Rattle.ibc_wire.proofs.TypedTokens.{typed_more}
use Rattle.ibc_wire.proofs.typed.transfers.lemma_typed_tokens.Goals as goal

pub loop-token-preserved : goal.loop-token-preserved
loop-token-preserved c =
    typed_more c.args.tokens.now c.loop-token.token-index c.token-item.result c.loop-token-test.true c.token-item.is
    (λ k. c.lemma_has_form.ensures k && (c.lemma_is_u128.ensures k && true)) c.loop-token.invariant

pub returns : goal.returns
returns c =
    ap (λ tokens. are_typed (flat_map token_fields tokens)) (sym (take_all c.loop-token.token-index c.args.tokens.now c.loop-token-test.false)) ∙ c.loop-token.invariant
