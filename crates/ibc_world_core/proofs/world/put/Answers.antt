use Rattle.std.proofs.Common.{ℕ, List, ◌++◌, ◌∷◌, [], sym, ap, ◌∙◌, ⊎_elim, arith}
use Rattle.std.proofs.lemmas.Bool.{false≢true}
use Rattle.std.proofs.lemmas.Option.{slice_get-get_or}
use Rattle.ibc_world_core.proofs.PutEvents.{nothing_at, one_at, same_tables}
use Rattle.ibc_world_core.proofs.world.put.Goals as goal

pub returns-then-adds_an_entry-clause-put : goal.returns-then-adds_an_entry-clause-put
returns-then-adds_an_entry-clause-put c = λ genesis.
    let there = slice_get-get_or c.args.ledgers.now c.from-2.result c.index-ledgers-from.result (omega (arith, c.if-from-ledgers.false, c.from.ensures, c.from-2.ensures)) in
    let order = c.push_reserved.ensures.items ∙ ap (λ (xs : List ℕ). xs ++ c.chain_of-chain.result ∷ []) c.in-Ok.ensures.items ∙ ap (λ n. c.args.order.now.items ++ n ∷ []) c.chain_of-chain.ensures in
    ⊎_elim (λ w. absurd (c.adds_an_entry.ensures.0 c.if-adds_an_entry.true w.0))
    (λ w. one_at genesis c.args.ledgers.now c.args.order.now.items c.push_reserved.new.self.items c.args.event c.ask-reply.result _ c.ask-reply.new.ledger c.from-2.result (c.from-2.ensures ∙ c.chain_of-chain.ensures) there order w.0 w.1)
    c.ask-reply.ensures.adds

pub returns-then-adds_an_entry-clause-tables : goal.returns-then-adds_an_entry-clause-tables
returns-then-adds_an_entry-clause-tables c =
    let there = slice_get-get_or c.args.ledgers.now c.from-2.result c.index-ledgers-from.result (omega (arith, c.if-from-ledgers.false, c.from.ensures, c.from-2.ensures)) in
    same_tables c.args.ledgers.now c.from-2.result _ c.ask-reply.new.ledger there c.ask-reply.ensures.table

pub returns-else-adds_an_entry-clause-put : goal.returns-else-adds_an_entry-clause-put
returns-else-adds_an_entry-clause-put c = λ genesis.
    let there = slice_get-get_or c.args.ledgers.now c.from-2.result c.index-ledgers-from.result (omega (arith, c.if-from-ledgers.false, c.from.ensures, c.from-2.ensures)) in
    ⊎_elim (λ w. nothing_at genesis c.args.ledgers.now c.args.order.now.items c.reserve.new.self.items c.args.event c.ask-reply.result _ c.ask-reply.new.ledger c.from-2.result (c.from-2.ensures ∙ c.chain_of-chain.ensures) there c.in-Ok.ensures.items w.0 w.1)
    (λ w. absurd (false≢true (sym c.if-adds_an_entry.false ∙ c.adds_an_entry.ensures.1 w.0)))
    c.ask-reply.ensures.adds

pub returns-else-adds_an_entry-clause-tables : goal.returns-else-adds_an_entry-clause-tables
returns-else-adds_an_entry-clause-tables c =
    let there = slice_get-get_or c.args.ledgers.now c.from-2.result c.index-ledgers-from.result (omega (arith, c.if-from-ledgers.false, c.from.ensures, c.from-2.ensures)) in
    same_tables c.args.ledgers.now c.from-2.result _ c.ask-reply.new.ledger there c.ask-reply.ensures.table
