-- The data of a packet, in plain.
use Rattle.ibc_machine.specs.ics20.TokenData.{Data}
use Rattle.ibc_token_data.specs.declared.token_data.TokenData.{TokenData}

abbrev pub abstract_data : TokenData → Data
abstract_data d = record { tokens = d.tokens.items; memo = d.memo; receiver = d.receiver; sender = d.sender }
