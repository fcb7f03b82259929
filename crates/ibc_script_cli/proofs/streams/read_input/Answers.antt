use Rattle.std.proofs.Common.{◌≡◌, ℕ, List, [], ◌++◌, take, Option, None, Some, IfSome, option_map, ap, ◌∙◌}
use Rattle.ibc_script_cli.proofs.streams.read_input.Goals as goal

-- what is read into no bytes from the first bytes of a reader are these bytes
limited : (known : Option (List ℕ)) (limit : ℕ) (before after : List ℕ) → before ≡ [] → IfSome (option_map (take limit) known) (λ xs. after ≡ before ++ xs) → IfSome known (λ xs. after ≡ take limit xs)
limited None limit before after none reads = tt
limited (Some xs) limit before after none reads = reads ∙ ap (λ (front : List ℕ). front ++ take limit xs) none

pub returns-in-Ok-clause-bytes : goal.returns-in-Ok-clause-bytes
returns-in-Ok-clause-bytes g c =
    limited (g.R.Read.remaining c.args.input) 1048577 c.new-bytes.result.items c.read_to_end.new.buf.items c.new-bytes.ensures.items
    (rw (c.take.ensures.limit, c.take.ensures.inner) at c.in-Ok.ensures.bytes)
