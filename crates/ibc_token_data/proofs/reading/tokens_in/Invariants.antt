-- The tokens so far stand before those of the rest.
use Rattle.std.proofs.Common.{◌≡◌, ◌≤◌, ◌-◌, length}
use Rattle.ibc_token_data.specs.Cutting.{tokens_in}
use Rattle.ibc_token_data.proofs.Rows.{before}
use Rattle.ibc_token_data.proofs.reading.tokens_in.Given as goal

abbrev pub invariant-loop-rest : goal.invariant-loop-rest
invariant-loop-rest l =
    record {
      few : length l.tokens.items ≤ 8;
      so_far : tokens_in 8 l.text ≡ before l.tokens.items (tokens_in (8 - length l.tokens.items) l.rest);
    }

abbrev pub decreases-loop-rest : goal.decreases-loop-rest
decreases-loop-rest l = 8 - length l.tokens.items
