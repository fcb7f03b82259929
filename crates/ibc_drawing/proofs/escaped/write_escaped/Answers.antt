-- Character by character.
use Rattle.std.proofs.Common.{ℕ, ◌≤◌, ◌++◌, List, length, drop, string_bytes, sym, ap, ◌∙◌, append-nil, arith}
use Rattle.std.specs.Prelude.{chars, flat_map}
use Rattle.std.proofs.lemmas.Iterator.{YieldsList-from_chars}
use Rattle.std.proofs.lemmas.Iterator.Consumers.{YieldsList-turn, YieldsList-end}
use Rattle.std.proofs.lemmas.List.{length_push, drop_all}
use Rattle.ibc_drawing.specs.Escaped.{escaped_bytes}
use Rattle.ibc_drawing.proofs.WrittenTexts.{written_more}
use Rattle.ibc_drawing.proofs.escaped.write_escaped.Goals as goal

pub loop-character-preserved : goal.loop-character-preserved
loop-character-preserved c =
    let at = c.loop-character in
    let all : List ℕ = chars c.args.text.now in
    let turn = YieldsList-turn (YieldsList-from_chars c.args.text.now c.utf8.text cc) at.yielded _ at.yielded_by _ _ c.in-Some.character c.in-Some.is c.next.ensures.steps in
    let new : List ℕ = string_bytes c.push_escaped.new.out in
    ap (λ (n : ℕ). new ++ flat_map escaped_bytes (drop n all)) (length_push at.yielded c.in-Some.character)
    ∙ written_more escaped_bytes all (length at.yielded) c.in-Some.character (string_bytes at.out) new turn.0 turn.1 c.in_ok-push_escaped.ensures ∙ at.invariant

pub returns : goal.returns
returns c =
    let at = c.loop-character in
    let all : List ℕ = chars c.args.text.now in
    let turn = YieldsList-end (YieldsList-from_chars c.args.text.now c.utf8.text cc) at.yielded _ at.yielded_by _ _ c.in-None.is c.next.ensures.steps in
    let past : length all ≤ length at.yielded = omega (arith, turn.1) in
    sym (append-nil (string_bytes at.out)) ∙ ap (λ (l : List ℕ). string_bytes at.out ++ flat_map escaped_bytes l) (sym (drop_all (length at.yielded) all past)) ∙ at.invariant
