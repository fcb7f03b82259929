use Rattle.std.proofs.Common.{List, ℕ, ◌++◌, ap, sym, ◌∙◌, arith}
use Rattle.std.proofs.lemmas.Str.Pattern.{strip_prefix_char}
use Rattle.ibc_ids.proofs.Hops.{behind_slash}
use Rattle.ibc_ids.proofs.denom.behind.Goals as goal

pub returns : goal.returns
returns c =
    let front = c.args.front.now in
    let rest = c.in_ok-strip_prefix.field-0.now in
    let found = c.in_ok-strip_prefix.ensures.cases in
    behind_slash c.args.text.now front rest c.strip_prefix-2.result (found.1.1 ∙ ap (λ (t : List ℕ). front ++ t) (sym found.2))
    (strip_prefix_char 47 rest c.strip_prefix-2.result c.strip_prefix-2.ensures.cases (omega arith))
