use Rattle.std.proofs.Common.{◌≡◌, ℕ, ◌+◌, arith, ap, ◌∙◌, sym, refl, subst, [], ◌∷◌, ◌++◌, unwrap_or}
use Rattle.ibc_root_table.specs.Passes.{Sight, own_chain}
use Rattle.ibc_ids.specs.Publications.{published_by, height_of}
use Rattle.ibc_root_table.specs.Publications.{IsRoot, row_of, publication, publication_of_row}
use mathlib.Core.Option.{none}
use Rattle.atomic_table.specs.Table.{step, Allows}
use Rattle.ibc_root_table.specs.Rule.{IsTableState}
use Rattle.ibc_root_table.specs.SeatSteps.{SeatKnowledge, Raised}
use Rattle.ibc_root_table.proofs.RowBytes.{drawn_row, drawn_words, drawn_bytes}
use Rattle.ibc_root_table.proofs.Chains.{one_published_by}
use Rattle.ibc_root_table.proofs.Fitting.{fitting}
use Rattle.ibc_root_table.proofs.Loads.{counts}
use Rattle.ibc_root_table.proofs.Raises.{raises}
use Rattle.ibc_root_table.proofs.table.RootTable.publish.Goals as goal

pub load-height-requires : goal.load-height-requires
load-height-requires c =
    let fits = fitting c.self.inside _ c.pass.inside _ c.self.view_is c.pass.view_is c.requires.table in
    let small = c.from-word.ensures in
    let size = c.self.invariant.words in
    let chains = fits.chains in
    let own = c.pass.invariant.own c.in-Some.chain c.in-Some.is in
    let first = own.0 in let end = own.1 in let below = own.2 in
    (fits.id, omega arith, counts _ _ _ _ _ (omega arith) (omega arith, omega arith))

pub store-requires : goal.store-requires
store-requires c =
    let fits = fitting c.self.inside _ c.pass.inside _ c.self.view_is c.pass.view_is c.requires.table in
    let own = c.pass.invariant.own c.in-Some.chain c.in-Some.is in
    let v = c.pass.inside.place.me.0 in
    let first = own.0 in let end = own.1 in let below = own.2 in
    let small = c.from-word.ensures in
    let size = c.self.invariant.words in
    let chains = fits.chains in
    let loaded = c.load-height.ensures in
    let stored = c.store_row.ensures in
    let row : c.row_of.result ≡ row_of c.args.root c.args.time = c.row_of.ensures.words in
    let root = c.row_of.ensures.root in
    let me : SeatKnowledge = (record v { floors = c.make_room.new.place.me.0.floors; draft = row_of c.args.root c.args.time }, c.pass.inside.place.me.1) in
    let made = c.make_room.ensures.same in
    let roomed = made.1 ∙ (λ i. (record (loaded.2.0 i).0 { floors = c.make_room.new.place.me.0.floors }, (loaded.2.0 i).1)) in
    let now : c.store_row.new.place.me ≡ me = stored.draft ∙ (λ i. (record (roomed i).0 { draft = row i }, (roomed i).1)) in
    let word : c.from-word.result ≡ v.first_own = small ∙ sym first in
    let counted : c.load-height.result ≡ height_of v.first_own v.seen = loaded.2.1 ∙ ap (λ (z : ℕ). height_of z v.seen) word in
    let key = c.self.inside.board.shared.key in
    let slots = c.self.inside.board.shared.table_id.slots in
    let n : ℕ = c.load-height.result + 1 in (
      stored.same.0 ∙ (made.0.0 ∙ (loaded.0 ∙ fits.id)),
      omega arith,
      subst (λ (z : ℕ × SeatKnowledge). Allows (IsTableState key) slots c.store_row.new.place.id z.1 z.0 (λ _. n) (λ _. Raised (step slots z.0 n 0 none) z.1 n)) (λ i. (sym word i, sym now i))
          (raises key slots c.store_row.new.place.id me n (omega arith) (omega arith, omega arith) (omega arith) (omega arith)
          (drawn_words v.first_own c.args.time c.args.root root) (subst IsRoot (sym (drawn_bytes c.args.time c.args.root root)) root)),
    )

pub returns-clause-seen : goal.returns-clause-seen
returns-clause-seen c =
    let own = c.pass.invariant.own c.in-Some.chain c.in-Some.is in
    let v = c.pass.inside.place.me.0 in
    let loaded = c.load-height.ensures in
    let row : c.row_of.result ≡ row_of c.args.root c.args.time = c.row_of.ensures.words in
    let me : SeatKnowledge = (record v { floors = c.make_room.new.place.me.0.floors; draft = row_of c.args.root c.args.time }, c.pass.inside.place.me.1) in
    let made = c.make_room.ensures.same in
    let roomed = made.1 ∙ (λ i. (record (loaded.2.0 i).0 { floors = c.make_room.new.place.me.0.floors }, (loaded.2.0 i).1)) in
    let now : c.store_row.new.place.me ≡ me = c.store_row.ensures.draft ∙ (λ i. (record (roomed i).0 { draft = row i }, (roomed i).1)) in
    let told = c.store.ensures.2.1 in
    let seen = ap (λ (m : SeatKnowledge). m.0.seen) now ∙ ap (λ (x : Sight). x.seen) c.pass.view_is in
    let chain : v.first_own ≡ own_chain c.args.pass.now = own.0 ∙ (sym (ap (λ o. unwrap_or o 0) c.in-Some.is) ∙ ap own_chain c.pass.view_is) in
    let last = ap (λ (m : SeatKnowledge). publication_of_row m.0.first_own m.0.draft) now ∙ (drawn_row v.first_own c.args.time c.args.root c.row_of.ensures.root ∙ ap (λ (z : ℕ). publication z c.args.root c.args.time) chain) in
    (told.0, told.1 ∙ (λ i. (seen i ++ told.0) ++ last i ∷ []))

pub returns-clause-own : goal.returns-clause-own
returns-clause-own c =
    let loaded = c.load-height.ensures in
    let own = c.pass.invariant.own c.in-Some.chain c.in-Some.is in
    let seen = c.args.pass.now.seen in
    let chain : ℕ = own_chain c.args.pass.now in
    let p = publication chain c.args.root c.args.time in
    let ends = returns-clause-seen c in
    let is_own : c.pass.inside.place.me.0.first_own ≡ chain = own.0 ∙ (sym (ap (λ o. unwrap_or o 0) c.in-Some.is) ∙ ap own_chain c.pass.view_is) in
    let first = ap (λ (m : SeatKnowledge). m.0.first_own) c.store_row.ensures.draft ∙ (ap (λ (m : SeatKnowledge). m.0.first_own) c.make_room.ensures.same.1 ∙ (ap (λ (m : SeatKnowledge). m.0.first_own) loaded.2.0 ∙ is_own)) in
    let word = c.from-word.ensures ∙ (sym own.0 ∙ is_own) in
    let same_seen = ap (λ (x : Sight). x.seen) c.pass.view_is in
    let before : c.load-height.result ≡ height_of chain seen = loaded.2.1 ∙ (λ i. height_of (word i) (same_seen i)) in
    let after : c.load-height.result + 1 ≡ height_of chain ((seen ++ ends.0) ++ p ∷ []) = c.store.ensures.2.2 ∙ (λ i. height_of (first i) (ends.1 i)) in
    ap (published_by chain) ends.1 ∙ one_published_by chain seen ends.0 p refl (omega arith)
