-- The parties that were cut out of a text, in plain.
use Rattle.ibc_ids.specs.Texts.{Text}
use Rattle.ibc_token_data.specs.declared.cutting.Parties.{Parties}

-- memo, receiver and sender, and what stands behind them
abbrev pub shown_parties : Parties → Text × Text × Text × Text
shown_parties parties = (parties.memo.now, parties.receiver.now, parties.sender.now, parties.rest.now)
