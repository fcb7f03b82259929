-- What the event adds waits, and what came of it is told.
use Rattle.std.proofs.Common.{◌≡◌, ℕ, ◌++◌, ◌∷◌, [], sym, ap, ◌∙◌, subst}
use Rattle.std.proofs.lemmas.Result.{on_ok_weaker}
use Rattle.sqlite.specs.Held.{state}
use Rattle.ibc_node.specs.declared.node.KeptAnswer.{KeptAnswer}
use Rattle.ibc_node.specs.Nodes.{IsToldIn, TakesEvent, TellsOn, node_world}
use Rattle.ibc_node.proofs.Told.{tells_taken, tells_more, tells_same}
use Rattle.ibc_node.proofs.Staying.{keeps_same}
use Rattle.ibc_node_lines.specs.Desks.{AsksNode}
use Rattle.ibc_node_lines.proofs.desk.DeskChains.ask.Goals as goal

pub returns-in-Ok : goal.returns-in-Ok
returns-in-Ok g c =
    let shows = state g.S.Store in
    let was = c.args.self.now in
    let mid = c.take.new.self in
    let told = was.told.items in
    let it : ℕ × KeptAnswer = (c.chain_of-chain.result, c.in-Ok.kept) in
    let tells = tells_taken shows was.node mid it c.in-Ok.ensures.keeps
    (λ text items kept. subst (λ k. IsToldIn (node_world mid) (k, c.in-Ok.kept)) (sym c.chain_of-chain.ensures) (c.in-Ok.ensures.told text items kept)) in
    let more = tells_more shows was.node was.node mid told told (it ∷ []) (tells_same shows was.node was.node told (keeps_same shows was.node)) tells in
    let asks : c.tell.new.self.told.items ≡ told ++ it ∷ [] → AsksNode shows was c.args.event c.tell.new.self =
    λ is. record {
      tells = subst (λ n. TellsOn shows was.node told n c.tell.new.self.told.items) (sym c.tell.ensures.node) (subst (TellsOn shows was.node told mid) (sym is) more);
      answer = c.in-Ok.kept;
      told = is ∙ ap (λ k. told ++ (k, c.in-Ok.kept) ∷ []) c.chain_of-chain.ensures;
      taken = λ text items kept.
          subst (λ n. TakesEvent was.log_place text items was.node c.args.event c.in-Ok.kept n) (sym c.tell.ensures.node) (c.in-Ok.ensures.taken text items kept);
      stays = c.tell.ensures.log_place;
    } in
    on_ok_weaker c.tell.result asks c.tell.ensures.told
