-- The closure compares an entry's account and denomination, and the sorted pairs can be searched by it.
use Rattle.std.proofs.Common.{rules, ℕ, ap, sym, ◌∙◌, unwrap_or, Option}
use Rattle.std.specs.FinMap.{is_sorted}
use Rattle.std.proofs.lemmas.Fn.{always_returns_same}
use Rattle.ibc_ids.specs.Texts.{Text, pair_cmp}
use Rattle.ibc_machine.specs.ics20.Bank.{balance}
use Rattle.ibc_machine.proofs.FiniteMaps.{pair_cmp_total}
use Rattle.ibc_maps.proofs.SearchedKeys.{searchable, found-at, gap-at}
use Rattle.ibc_bank.specs.Parties.{party_text}
use Rattle.ibc_bank.proofs.books.BankMaps.held_by.Goals as goal

pub returns-in-Ok : goal.returns-in-Ok
returns-in-Ok c =
    let key : Text × Text = (party_text c.args.party, c.args.denom.now) in
    let entries = c.entries-entries.result.now in
    let entry = c.index-entries-index.result in
    let same = c.entries-entries.ensures.pairs in
    let sorted = ap (is_sorted pair_cmp) same ∙ c.entries-entries.ensures.sorted in
    let here = c.in-Ok.ensures.position (λ e. pair_cmp e.0 key) (always_returns_same _ _ _ (λ a r f' q. search rules)) entry in
    let found = found-at pair_cmp_total entries key c.in-Ok.index entry sorted c.in-Ok.ensures.bound c.index-entries-index.is here in
    ap (λ (e : (Text × Text) × ℕ). e.1) (sym c.index-entries-index.is) ∙ ap (λ (o : Option ℕ). unwrap_or o 0) found ∙ ap (λ es. balance es (party_text c.args.party) c.args.denom.now) same

pub returns-in-Err : goal.returns-in-Err
returns-in-Err c =
    let key : Text × Text = (party_text c.args.party, c.args.denom.now) in
    let entries = c.entries-entries.result.now in
    let same = c.entries-entries.ensures.pairs in
    let sorted = ap (is_sorted pair_cmp) same ∙ c.entries-entries.ensures.sorted in
    let gap = c.in-Err.ensures.position (λ e. pair_cmp e.0 key) (always_returns_same _ _ _ (λ a r f' q. search rules)) (searchable pair_cmp_total entries key sorted) in
    ap (λ (o : Option ℕ). unwrap_or o 0) (gap-at pair_cmp_total entries key c.in-Err.field-0 c.in-Err.ensures.bound gap) ∙ ap (λ es. balance es (party_text c.args.party) c.args.denom.now) same
