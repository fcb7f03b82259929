-- What the event adds waits, and what came of it is told.
use Rattle.std.proofs.Common.{[], ◌∷◌, ◌++◌, sym, ap, ◌∙◌, subst}
use Rattle.sqlite.specs.Held.{state}
use Rattle.ibc_node.specs.Nodes.{IsToldIn, TellsOn, node_world}
use Rattle.ibc_node.proofs.Told.{tells_taken}
use Rattle.ibc_node_lines.proofs.desk.Desk.take.Goals as goal

pub returns-clause-asked : goal.returns-clause-asked
returns-clause-asked g c text items kept =
    let answer = c.in_ok-kept.kept in
    let chain = c.chain_of-chain.result in
    let told = c.in_ok-push.ensures.items ∙ ap (λ l. l ++ (chain, answer) ∷ []) c.new-told.ensures.items ∙ ap (λ k. (k, answer) ∷ []) c.chain_of-chain.ensures in
    (answer, told, c.in_ok-kept.ensures.taken text items kept)

pub returns-clause-tells : goal.returns-clause-tells
returns-clause-tells g c =
    let shows = state g.S.Store in
    let old = c.args.self.now.node in
    let new = c.take.new.self in
    let answer = c.in_ok-kept.kept in
    let chain = c.chain_of-chain.result in
    let tells = tells_taken shows old new (chain, answer) c.in_ok-kept.ensures.keeps
    (λ text items kept. subst (λ k. IsToldIn (node_world new) (k, answer)) (sym c.chain_of-chain.ensures) (c.in_ok-kept.ensures.told text items kept)) in
    subst (TellsOn shows old [] new) (sym (c.in_ok-push.ensures.items ∙ ap (λ l. l ++ (chain, answer) ∷ []) c.new-told.ensures.items)) tells
