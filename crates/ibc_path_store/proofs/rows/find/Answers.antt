-- Both rows are searched.
use Rattle.std.proofs.Common.{◌≡◌, ◌<◌, ◌≤◌, ℕ, length, take, drop, subst, true, Equal}
use Rattle.std.specs.List.{HoldsAt}
use Rattle.std.specs.FinMap.{is_sorted}
use Rattle.ibc_ids.specs.Texts.{Text, text_cmp}
use Rattle.ibc_merkle.specs.Tree.{Pairs}
use Rattle.ibc_merkle.proofs.SearchedPairs.{IsGap}
use Rattle.ibc_path_store.proofs.Standing.{Found, Missed, found_at, missed_at, cut_found, cut_missed, finds_waiting, finds_placed, finds_none}
use Rattle.ibc_path_store.proofs.rows.find.Goals as goal

-- what a search of a part says, of the list that the part is
found_in : (part row : Pairs) (key : Text) (i : ℕ) → part ≡ row → is_sorted text_cmp row ≡ true → i < length part → HoldsAt (λ (e : Text × Text). text_cmp e.0 key ≡ Equal) part i → Found row key i
found_in part row key i is sorted l here =
    found_at row key i sorted (subst (λ (es : Pairs). i < length es) is l) (subst (λ (es : Pairs). HoldsAt (λ (e : Text × Text). text_cmp e.0 key ≡ Equal) es i) is here)

missed_in : (part row : Pairs) (key : Text) (i : ℕ) → part ≡ row → i ≤ length part → IsGap part key i → Missed row key i
missed_in part row key i is l gap = missed_at row key i (subst (λ (es : Pairs). i ≤ length es) is l) (subst (λ (es : Pairs). IsGap es key i) is gap)

pub returns-in-Ok-search-clause-here : goal.returns-in-Ok-search-clause-here
returns-in-Ok-search-clause-here c =
    let items : Pairs = c.args.entries.now in
    let key : Text = c.args.path.now in
    let n = c.args.settled in
    let first = found_in c.split_at.result.0.now (take n items) key c.in-Ok.index c.split_at.ensures.front c.requires.placed c.in-Ok.ensures.found c.in-Ok.ensures.here in
    let second = found_in c.split_at.result.1.now (drop n items) key c.in-Ok-search.later c.split_at.ensures.back c.requires.waiting c.in-Ok-search.ensures.found c.in-Ok-search.ensures.here in
    finds_waiting n items key c.in-Ok.index c.in-Ok-search.later c.requires (cut_found (take n items) key c.in-Ok.index first) second

pub returns-in-Err-search-clause-here : goal.returns-in-Err-search-clause-here
returns-in-Err-search-clause-here c =
    let items : Pairs = c.args.entries.now in
    let key : Text = c.args.path.now in
    let n = c.args.settled in
    let first = found_in c.split_at.result.0.now (take n items) key c.in-Ok.index c.split_at.ensures.front c.requires.placed c.in-Ok.ensures.found c.in-Ok.ensures.here in
    let second = missed_in c.split_at.result.1.now (drop n items) key c.in-Err-search.later c.split_at.ensures.back c.in-Err-search.ensures.within c.in-Err-search.ensures.gap in
    finds_placed n items key c.in-Ok.index c.in-Err-search.later c.requires first second

pub returns-in-Ok-search-2-clause-here : goal.returns-in-Ok-search-2-clause-here
returns-in-Ok-search-2-clause-here c =
    let items : Pairs = c.args.entries.now in
    let key : Text = c.args.path.now in
    let n = c.args.settled in
    let first = missed_in c.split_at.result.0.now (take n items) key c.in-Err.index c.split_at.ensures.front c.in-Err.ensures.within c.in-Err.ensures.gap in
    let second = found_in c.split_at.result.1.now (drop n items) key c.in-Ok-search-2.later c.split_at.ensures.back c.requires.waiting c.in-Ok-search-2.ensures.found c.in-Ok-search-2.ensures.here in
    finds_waiting n items key c.in-Err.index c.in-Ok-search-2.later c.requires (cut_missed (take n items) key c.in-Err.index first) second

pub returns-in-Err-search-2-clause-gap : goal.returns-in-Err-search-2-clause-gap
returns-in-Err-search-2-clause-gap c =
    let items : Pairs = c.args.entries.now in
    let key : Text = c.args.path.now in
    let n = c.args.settled in
    let first = missed_in c.split_at.result.0.now (take n items) key c.in-Err.index c.split_at.ensures.front c.in-Err.ensures.within c.in-Err.ensures.gap in
    let second = missed_in c.split_at.result.1.now (drop n items) key c.in-Err-search-2.later c.split_at.ensures.back c.in-Err-search-2.ensures.within c.in-Err-search-2.ensures.gap in
    finds_none n items key c.in-Err.index c.in-Err-search-2.later c.requires first second
