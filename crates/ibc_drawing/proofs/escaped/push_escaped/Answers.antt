-- What stands for the character is added, or the character.
use Rattle.std.proofs.Common.{◌≡◌, ◌++◌, Bor, List, ℕ, Option, Some, None, string_bytes, sym, ap, ◌∙◌}
use Rattle.std.specs.Prelude.{encode_utf8, option_map, unwrap_or}
use Rattle.ibc_drawing.specs.Escaped.{entity, escaped_bytes}
use Rattle.ibc_drawing.proofs.WrittenTexts.{added}
use Rattle.ibc_drawing.proofs.escaped.push_escaped.Goals as goal

pub returns-in-Some : goal.returns-in-Some
returns-in-Some c =
    let old : List ℕ = string_bytes c.args.out.now in
    let own : List ℕ = encode_utf8 c.args.character in
    let is : Some c.in-Some.text.now ≡ entity c.args.character = sym (ap (option_map (λ (text : Bor (List ℕ)). text.now)) c.in-Some.is) ∙ c.entity.ensures in
    added c.push_str.result old c.in-Some.text.now (old ++ escaped_bytes c.args.character) (string_bytes c.push_str.new.self)
    (ap (λ (o : Option (List ℕ)). old ++ unwrap_or o own) is) c.push_str.ensures.bytes

pub returns-in-None : goal.returns-in-None
returns-in-None c =
    let old : List ℕ = string_bytes c.args.out.now in
    let own : List ℕ = encode_utf8 c.args.character in
    let is : None ≡ entity c.args.character = sym (ap (option_map (λ (text : Bor (List ℕ)). text.now)) c.in-None.is) ∙ c.entity.ensures in
    added c.push.result old own (old ++ escaped_bytes c.args.character) (string_bytes c.push.new.self)
    (ap (λ (o : Option (List ℕ)). old ++ unwrap_or o own) is) c.push.ensures.bytes
