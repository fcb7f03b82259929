-- The tests of two texts are the definitions' own.
use Rattle.std.proofs.Common.{◌≡◌, ◌||◌, false, ap, sym, ◌∙◌}
use Rattle.std.proofs.Math.Bool.{or-false}
use Rattle.ibc_ids.specs.Texts.{Text, same_text}
use Rattle.ibc_machine.specs.ics20.TokenData.{one_token, several_tokens}
use Rattle.ibc_transfer.proofs.names.is_transfer_version.Goals as goal

pub returns-else-eq : goal.returns-else-eq
returns-else-eq c =
    let several = same_text c.args.version.now several_tokens in
    let one : same_text c.args.version.now one_token ≡ false = ap (λ (t : Text). same_text t one_token) (sym c.as_str.ensures.text) ∙ sym c.eq.ensures ∙ c.if-eq.false in
    let two : c.eq-else-eq.result ≡ several = c.eq-else-eq.ensures ∙ ap (λ (t : Text). same_text t several_tokens) c.as_str-else-eq.ensures.text in
    two ∙ sym (or-false several) ∙ ap (λ b. b || (several || false)) (sym one)
