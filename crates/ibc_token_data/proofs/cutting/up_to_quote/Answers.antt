use Rattle.std.proofs.Common.{rules, ◌+◌, ◌∙◌, ap, sym, option_map}
use Rattle.std.proofs.lemmas.List.{take_rest}
use Rattle.ibc_token_data.proofs.Cuts.{cut_there, up_to_by}
use Rattle.ibc_token_data.proofs.cutting.up_to_quote.Goals as goal

pub returns-in_err-at : goal.returns-in_err-at
returns-in_err-at c = rw (sym (up_to_by c.args.text.now)) (search rules)

pub returns : goal.returns
returns c =
    let text = c.args.text.now in
    rw (take_rest text (c.in_ok-at.at + 1)) (ap (option_map (cut_there text)) c.in_ok-at.ensures ∙ up_to_by text)
