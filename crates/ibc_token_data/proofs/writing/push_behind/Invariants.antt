-- The tokens before the place are written.
use Rattle.std.proofs.Common.{◌≡◌, ◌++◌, take, string_bytes}
use Rattle.ibc_token_data.specs.Spelling.{behind_text}
use Rattle.ibc_token_data.proofs.writing.push_behind.Given as goal

abbrev pub invariant-loop-token : goal.invariant-loop-token
invariant-loop-token l = string_bytes l.text ≡ string_bytes l.fn.text ++ behind_text (take l.token-index l.tokens)
