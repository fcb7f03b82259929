-- What is behind a hop came over its channel.
use Rattle.std.proofs.Common.{◌≡◌, ap, sym, ◌∙◌, false, Option, Some, None, is_some, ◌++◌}
use Rattle.std.specs.Prelude.{MatchOption}
use Rattle.ibc_ids.specs.Texts.{Text}
use Rattle.ibc_ids.specs.Names.{hop, came_over}
use Rattle.ibc_ids.proofs.Hops.{came_over_by}
use Rattle.ibc_transfer.proofs.names.came_over.Goals as goal

stripped : (port channel denom : Text) (rest : Option Text) → MatchOption rest (came_over port channel denom ≡ false) (λ behind. denom ≡ hop port channel ++ behind)
    → is_some rest ≡ came_over port channel denom
stripped port channel denom None is = sym is
stripped port channel denom (Some behind) is = sym (ap (came_over port channel) is ∙ came_over_by port channel behind)

pub returns-clause-ok : goal.returns-clause-ok
returns-clause-ok c =
    c.is_some.ensures ∙ stripped c.in_ok-port.port c.args.channel.now c.args.denom.now c.in_ok-strip.field-0 c.in_ok-strip.ensures.ok
    ∙ ap (λ (port : Text). came_over port c.args.channel.now c.args.denom.now) c.in_ok-port.ensures.ok
