use Rattle.std.proofs.Common.{◌≡◌, ℕ, ◌<◌, arith, ap, ◌∙◌, sym, subst, List, length, take, get_or}
use Rattle.std.proofs.lemmas.List.{length-take-le}
use mathlib.Core.Option.{none}
use Rattle.atomic_table.specs.Table.{step, Allows}
use Rattle.ibc_ids.specs.Publications.{height_of}
use Rattle.ibc_root_table.specs.Layout.{place}
use Rattle.ibc_root_table.specs.Rule.{IsTableState}
use Rattle.ibc_root_table.specs.SeatSteps.{SeatKnowledge, Drafted}
use Rattle.ibc_root_table.proofs.WordPlaces.{place_inside}
use Rattle.ibc_root_table.proofs.Fitting.{named}
use Rattle.ibc_root_table.proofs.Views.{chains_same, windows_same, capacities_same}
use Rattle.ibc_root_table.proofs.Drafts.{drafts}
use Rattle.ibc_root_table.proofs.table.RootTable.store_row.Goals as goal

pub store-requires : goal.store-requires
store-requires c =
    let t = named c.self.inside c.args.self.now c.self.view_is in
    let inv = c.loop-part.invariant in
    let shape = c.self.inside.shape in
    let size = c.self.invariant.words in
    let ring = c.self.invariant.ring in
    let same = c.requires.table.1 ∙ sym t.shape in
    let chains = chains_same same in let window = windows_same same in let capacity = capacities_same same in let most = capacities_same t.shape in
    let part : ℕ = c.loop-part.part in
    let lp : part < 5 = c.loop-part-test.true in
    let below = c.requires.own.2 in
    let inside = place_inside shape c.args.chain c.args.row part (omega arith) ring lp in
    let here = c.row_word-word.ensures in
    let before : SeatKnowledge = c.args.place.now.me in
    let words : List ℕ = c.args.words.now in
    let five : length words ≡ 5 = c.told-words in
    let drafted : length (take part words) ≡ part = length-take-le part words (omega arith) in
    let x : ℕ = get_or words part 0 in
    let me : SeatKnowledge = (record before.0 { draft = take part words }, before.1) in
    let first = c.requires.own.0 in let owns = c.requires.own.1 in
    let row = c.requires.row.0 in let room = c.requires.row.1 in
    let known = c.requires.room in
    let at_first = ap (λ (z : ℕ). get_or before.0.floors z 0) first in
    let counted : height_of before.0.first_own before.0.seen ≡ c.args.row = ap (λ (z : ℕ). height_of z before.0.seen) first ∙ sym row in
    let there = here ∙ (λ i. place (sym same i) (sym first i) (sym counted i) (sym drafted i)) in (
      inv.0.0 ∙ (c.requires.table.0 ∙ sym t.id),
      omega arith,
      subst (λ (m : SeatKnowledge). Allows (IsTableState c.self.inside.board.shared.key) c.self.inside.board.shared.table_id.slots c.loop-part.place.id m c.row_word-word.result (λ _. x) (λ _. Drafted (step c.self.inside.board.shared.table_id.slots c.row_word-word.result x 0 none) m x)) (sym inv.1)
          (drafts c.self.inside.board.shared.key c.self.inside.board.shared.table_id.slots c.loop-part.place.id me c.row_word-word.result x (omega arith) (omega arith, omega arith) (omega arith) (omega arith) (omega arith) there),
    )
