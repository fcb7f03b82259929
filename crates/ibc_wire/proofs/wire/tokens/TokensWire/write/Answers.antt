use Rattle.std.proofs.Common.{◌≡◌, true, ◌∷◌, ◌++◌, [], length, subst}
use Rattle.std.specs.List.{flat_map}
use Rattle.ibc_wire.specs.Fields.{count_between, form_condition}
use Rattle.ibc_wire.specs.Spelling.{token_fields, tokens_fields}
use Rattle.ibc_wire.specs.Tokens.{is_rising}
use Rattle.ibc_wire.specs.Fronts.{Writes}
use Rattle.ibc_wire.proofs.Writing.{behind, nothing_behind}
use Rattle.ibc_wire.proofs.wire.tokens.TokensWire.write.Goals as goal

pub returns : goal.returns
returns c =
    let items = c.as_slice-tokens.result.now in
    let rises : is_rising items ≡ true = cc (c.is_rising.ensures, c.if-not-is_rising.false) in
    subst (λ xs. Writes (tokens_fields xs) c.args.out.now.items c.write_many.result c.write_many.new.out.items) c.as_slice-tokens.ensures
    (behind (count_between 1 8 (length items) ∷ []) (flat_map token_fields items ++ form_condition (is_rising items) ∷ []) c.args.out.now.items c.write_count.new.out.items c.write_many.new.out.items c.write_many.result c.in_ok-write_count.ensures
    (nothing_behind (flat_map token_fields items) (is_rising items) rises c.write_count.new.out.items c.write_many.new.out.items c.write_many.result c.write_many.ensures))
