use Rattle.std.proofs.Common.{ℕ, arith, List, [], ◌∙◌, sym, subst}
use Rattle.atomic_table.specs.Table.{opening}
use Rattle.ibc_root_table.specs.Rule.{IsTableState, writer_of_all}
use Rattle.ibc_root_table.proofs.Seats.{opens}
use Rattle.ibc_root_table.proofs.table.RootTable.lay.Goals as goal

pub of_words-requires : goal.of_words-requires
of_words-requires c =
    let zeros = c.as_slice.ensures.value ∙ c.in_ok-words.ensures.items_if_clones_equal (λ y e. e) in
    let key = c.args.shape in
    let small = c.in_ok-words.words.small in
    let len = c.in_ok-words.ensures.len in
    let count = c.word_count.ensures in
    subst (λ (words : List ℕ). IsTableState key (opening words [] (writer_of_all key))) (sym zeros) (opens key _ (omega arith) c.requires.1)
