-- One node more, in the open chunk.
use Rattle.std.proofs.Common.{◌∷◌, ◌++◌, [], length, sym, ap, ◌∙◌, arith, append_assoc}
use Rattle.std.proofs.lemmas.List.{length_push}
use Rattle.ibc_forest.specs.Shelves.{concatenated}
use Rattle.ibc_forest.proofs.InChunks.{on_err}
use Rattle.ibc_forest.proofs.shelf.Shelf.push.Goals as goal

pub returns-clause-ok : goal.returns-clause-ok
returns-clause-ok c =
    let before = concatenated c.close.new.full in
    ap (λ xs. before ++ xs) c.in_ok-push.ensures.items
    ∙ sym (append_assoc before c.close.new.begun.items (c.args.node ∷ []))
    ∙ ap (λ xs. xs ++ c.args.node ∷ []) (c.close.ensures.same ∙ c.self.view_is)

pub invariant_of-self-2 : goal.invariant_of-self-2
invariant_of-self-2 c =
    let pushed = ap length c.in_ok-push.ensures.items ∙ length_push c.close.new.begun.items c.args.node in
    let room = c.in_ok-close.ensures.room in
    (c.close.ensures.full, omega arith)

pub returns-in_err-push-clause-err : goal.returns-in_err-push-clause-err
returns-in_err-push-clause-err c =
    on_err c.from_residual-in_err-push.result _ (ap (λ xs. concatenated c.close.new.full ++ xs) c.in_err-push.ensures.items ∙ c.close.ensures.same ∙ c.self.view_is)

pub returns-in_err-close-clause-err : goal.returns-in_err-close-clause-err
returns-in_err-close-clause-err c = on_err c.from_residual.result _ (c.close.ensures.same ∙ c.self.view_is)
