use Rattle.std.proofs.Common.{◌≡◌, map, take, string_bytes}
use Rattle.ibc_script_cli.specs.Balances.{holding_of}
use Rattle.ibc_node_lines.specs.OtherLines.{listed_holding}
use Rattle.ibc_node_lines.proofs.answers.balances.Given as goal

abbrev pub invariant-loop-account : goal.invariant-loop-account
invariant-loop-account l = map string_bytes l.texts.items ≡ map listed_holding (map holding_of (take l.account-index l.holdings))
