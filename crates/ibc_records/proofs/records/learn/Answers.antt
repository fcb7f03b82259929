-- The client is taken out, told of the height, and put back.
use Rattle.std.proofs.Common.{rules, ◌≡◌, sym, ap, ◌∙◌}
use Rattle.std.specs.Cmp.Lexicographic.{nat_list_cmp_total}
use Rattle.ibc_ids.specs.Texts.{Text, text_cmp}
use Rattle.ibc_ids.specs.Maps.{with}
use Rattle.ibc_machine.proofs.FiniteMaps.{by_text}
use Rattle.ibc_records.specs.ClientModels.{with_height}
use Rattle.ibc_records.proofs.Learning.{replaced, put_back, on_ok, on_err}
use Rattle.ibc_records.proofs.records.learn.Goals as goal

pub take-requires : goal.take-requires
take-requires c = sym c.contains.ensures ∙ c.if-not-contains.false

pub returns-clause-ok : goal.returns-clause-ok
returns-clause-ok c =
    let same : c.in_ok-name.name ≡ c.args.id.now = search rules in
    on_ok c.learn-learned.result c.learn-learned.ensures.ok
    (replaced nat_list_cmp_total by_text.exact c.args.clients.now.pairs c.take.new.map.pairs c.put.new.map.pairs c.args.id.now c.in_ok-client.client c.learn-learned.new.self c.in_ok-client.ensures.value c.take.ensures.sorted c.in_ok-client.ensures.ok
    (c.put.ensures ∙ ap (λ (id : Text). with text_cmp id c.learn-learned.new.self c.take.new.map.pairs) same) (with_height c.args.height c.args.known))

pub returns-clause-unchanged : goal.returns-clause-unchanged
returns-clause-unchanged c =
    let same : c.in_ok-name.name ≡ c.args.id.now = search rules in
    on_err c.learn-learned.result c.learn-learned.ensures.unchanged
    (put_back nat_list_cmp_total by_text.exact c.args.clients.now.pairs c.take.new.map.pairs c.put.new.map.pairs c.args.id.now c.in_ok-client.client c.learn-learned.new.self c.in_ok-client.ensures.value c.take.ensures.sorted c.in_ok-client.ensures.ok
    (c.put.ensures ∙ ap (λ (id : Text). with text_cmp id c.learn-learned.new.self c.take.new.map.pairs) same))
