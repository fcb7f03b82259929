-- Where nothing is wrong with the value of a script that was read, its genesis is allowed.
use Rattle.std.proofs.Common.{◌≡◌, ◌∙◌, ◌+◌, ◌≤◌, ◌^◌, ◌&&◌, ◌||◌, ℕ, suc, Bool, true, false, cond, eqb, ltb, leb, not, List, [], ◌∷◌, ◌++◌, Option, Some, None, ap, append_assoc, append-nil, arith, inl, inr, length, length-append, option_map, refl, subst, sym, take, zip, eq-eqb}
use Rattle.std.specs.Prelude.{⊤, codes, min, unwrap_or}
use Rattle.std.specs.List.{count_by, list_all, list_any}
use Rattle.std.proofs.Math.Nat.{le-min, min-le_right}
use Rattle.std.proofs.Math.Seq.{take-append_seam}
use Rattle.std.proofs.lemmas.Bool.{and_from, and_parts, false≢true, le-leb, leb-true, lt-ltb}
use Rattle.std.proofs.lemmas.List.Sums.{sum_by-cons, sum_by_push}
use Rattle.serde_json.specs.Data.{Data, Items, no_items, item, Members}
use Rattle.serde_json.specs.Find.{as_array, as_object, get}
use Rattle.ibc_ids.specs.Names.{is_base_denom, is_user}
use Rattle.ibc_ids.specs.Texts.{Text, same_text}
use Rattle.ibc_ids.proofs.Texts.{same_text_from, same_text_itself, text_same}
use Rattle.ibc_machine.specs.chain.Genesis.{ChainState, GenesisState, Holding, has_limits, is_allowed, is_fair, is_same_holding, total_of}
use Rattle.ibc_script.specs.ScriptValues as script
use Rattle.ibc_script.specs.ScriptValues.{ScriptContent}
use Rattle.ibc_lab.specs.declared.fault.FaultKind.{FaultKind}
use Rattle.ibc_lab.specs.declared.fault.FaultKind.TheVariants as wrong
use Rattle.ibc_lab.specs.declared.fault.Tuple.TheVariants as tuple
use Rattle.ibc_lab.specs.declared.leaf.Leaf.TheVariants as leaf
use Rattle.ibc_lab.specs.declared.member.Member.TheVariants as member
use Rattle.ibc_lab.specs.declared.owed.Owed.{Owed}
use Rattle.ibc_lab.specs.declared.place.ScriptPart.TheVariants as part
use Rattle.ibc_lab.specs.declared.place.ScriptPlace.{ScriptPlace}
use Rattle.ibc_lab.specs.declared.text_form.TextForm.{TextForm}
use Rattle.ibc_lab.specs.declared.text_form.TextForm.TheVariants as text
use Rattle.ibc_lab.specs.Faults.{chain_faults, chains_faults, each_faults, fault_at, leaf_faults, member_faults, member_faults_in, members_faults, name_twice_faults, object_faults, object_faults_in, parts_faults, script_faults, steps_faults, tuple_faults, tuple_faults_in, unknown_faults, unless}
use Rattle.ibc_lab.specs.GenesisFaults as genesis
use Rattle.ibc_lab.specs.GenesisFaults.{are_small, genesis_faults, holding_place, holdings_faults, too_much_faults, twice_faults, window_faults}
use Rattle.ibc_lab.specs.Leaves.{has_length, is_within, leaf_fits}
use Rattle.ibc_lab.specs.Places.{at_member, inside, place_of}
use Rattle.ibc_lab.specs.Tables.{balances_owed, capacity_owed, chain_owes, chains_owed, name_owed, script_owes, steps_owed, time_owed, window_owed}
use Rattle.ibc_lab.specs.Texts.{text_fits}
use Rattle.ibc_lab.specs.Values.{items_at, items_of, items_of_found, list_of, names_of, passes}

-- ---- lists without faults

none_so : (so : Bool) (place : ScriptPlace) (what : FaultKind) → unless so place what ≡ [] → so ≡ true
none_so true place what none = refl
none_so false place what none = absurd cc

none_if : (so : Bool) (place : ScriptPlace) (what : FaultKind) → cond so (fault_at place what) [] ≡ [] → so ≡ false
none_if true place what none = absurd cc
none_if false place what none = refl

left_nil : {A : Type 0} (xs ys : List A) → xs ++ ys ≡ [] → xs ≡ []
left_nil [] ys none = refl
left_nil (x ∷ xs) ys none = absurd cc

right_nil : {A : Type 0} (xs ys : List A) → xs ++ ys ≡ [] → ys ≡ []
right_nil [] ys none = none
right_nil (x ∷ xs) ys none = absurd cc

-- an object's members
members_none : (chains : List Data) (place : ScriptPlace) (owed : List Owed) (d : Data) (found : Option Members)
    → object_faults_in chains place owed d found ≡ [] → members_faults chains place owed d ≡ []
members_none chains place owed d None none = absurd cc
members_none chains place owed d (Some members) none =
    right_nil (unknown_faults place owed (names_of members)) (members_faults chains place owed d) none

-- ---- values

same_items : (items : Items) → script.items_in items ≡ list_of items
same_items no_items = refl
same_items (item d items) = ap (λ (rest : List Data). d ∷ rest) (same_items items)

items_found : (found : Option Items) (ds : List Data) → option_map script.items_in found ≡ Some ds → option_map list_of found ≡ Some ds
items_found None ds is = absurd cc
items_found (Some items) ds is = ap Some (sym (same_items items)) ∙ is

items_there : (found : Option Data) (ds : List Data) → script.AreItems ds found → items_of_found found ≡ ds
items_there None ds is = absurd cc
items_there (Some d) ds is = ap (λ (o : Option (List Data)). unwrap_or o []) (items_found (as_array d) ds is)

no_number : (n : ℕ) → script.IsNumber n None → ⊥
no_number n is = absurd cc

no_list : (ds : List Data) → script.AreItems ds None → ⊥
no_list ds is = absurd cc

not_left_out : (d : Data) → Some d ≡ None → ⊥
not_left_out d is = absurd cc

-- ---- forms

number_within : (chains : List Data) (place : ScriptPlace) (least most n : ℕ) (d : Data) → script.IsNumber n (Some d)
    → leaf_faults chains place (leaf.Number least most) d ≡ [] → is_within least most n ≡ true
number_within chains place least most n d is none =
    ap (passes (is_within least most)) (sym is)
    ∙ none_so (leaf_fits chains (leaf.Number least most) d) place (wrong.Leaf (leaf.Number least most)) none

text_formed : (chains : List Data) (place : ScriptPlace) (has : TextForm) (t : Text) (d : Data) → script.IsText t (Some d)
    → leaf_faults chains place (leaf.Text has) d ≡ [] → text_fits has t ≡ true
text_formed chains place has t d is none =
    ap (passes (text_fits has)) (sym is) ∙ none_so (leaf_fits chains (leaf.Text has) d) place (wrong.Leaf (leaf.Text has)) none

-- ---- holdings

abbrev IsFormed : Holding → Type 0
IsFormed h = (is_user h.0 ≡ true) × (is_base_denom h.1 ≡ true)

abbrev EachOf : (Holding → Type 0) → List Holding → Type 0
EachOf P [] = ⊤
EachOf P (h ∷ hs) = P h × EachOf P hs

holding_formed : (chains : List Data) (place : ScriptPlace) (h : Holding) (d : Data) → script.IsHolding h (Some d)
    → tuple_faults chains place tuple.Balance d ≡ [] → IsFormed h
holding_formed chains place h d is none =
    let user = is.0 in
    let denom = is.1 in
    let amount = is.2 in
    let items = items_found (as_array d) (user ∷ denom ∷ amount ∷ []) is.3 in
    let parts = subst (λ (o : Option (List Data)). tuple_faults_in chains place tuple.Balance o ≡ []) items none in
    let first = leaf_faults chains (inside place 0) (leaf.Text text.User) user in
    let second = leaf_faults chains (inside place 1) (leaf.Text text.BaseDenom) denom in
    let third = parts_faults chains place 2 (leaf.Text text.Amount ∷ []) (amount ∷ []) in
    let rest = right_nil first (second ++ third) parts in (
      text_formed chains (inside place 0) text.User h.0 user is.4.0 (left_nil first (second ++ third) parts),
      text_formed chains (inside place 1) text.BaseDenom h.1 denom is.5.0 (left_nil second third rest),
    )

each_formed : (chains : List Data) (place : ScriptPlace) (k : ℕ) (hs : List Holding) (ds : List Data) → script.AreEach script.IsHolding hs ds
    → each_faults chains place tuple.Balance k ds ≡ [] → EachOf IsFormed hs
each_formed chains place k [] ds are none = tt
each_formed chains place k (h ∷ hs) [] are none = absurd are
each_formed chains place k (h ∷ hs) (d ∷ ds) are none =
    let first = tuple_faults chains (inside place k) tuple.Balance d in
    let rest = each_faults chains place tuple.Balance (k + 1) ds in (
      holding_formed chains (inside place k) h d are.0 (left_nil first rest none),
      each_formed chains place (k + 1) hs ds are.1 (right_nil first rest none),
    )

balances_formed : (chains : List Data) (place : ScriptPlace) (hs : List Holding) (found : Option Data)
    → script.IsListOf script.IsHolding hs found → member_faults_in chains place balances_owed found ≡ [] → EachOf IsFormed hs
balances_formed chains place hs None is none = absurd (no_list is.0 is.1)
balances_formed chains place hs (Some d) is none =
    let at = at_member place member.Balances in
    let items = items_found (as_array d) is.0 is.1 in
    let each = right_nil (leaf_faults chains at (leaf.List 0 18446744073709551615) d) (each_faults chains at tuple.Balance 0 (items_of d)) none in
    each_formed chains at 0 hs is.0 is.2
    (subst (λ (o : Option (List Data)). each_faults chains at tuple.Balance 0 (unwrap_or o []) ≡ []) items each)

-- ---- chains

chain_formed : (chains : List Data) (k : ℕ) (name : Text) (start : ChainState) (d : Data) → script.IsChainStart (name, start) (Some d)
    → chain_faults chains k d ≡ [] → EachOf IsFormed start.balances
chain_formed chains k name start d is none =
    let place = place_of (part.Chain k) in
    let object = left_nil (object_faults chains place chain_owes d) (name_twice_faults chains k d) none in
    let members = members_none chains place chain_owes d (as_object d) object in
    let behind_name =
    right_nil (member_faults chains place name_owed d) (members_faults chains place (time_owed ∷ balances_owed ∷ []) d) members in
    let behind_time = right_nil (member_faults chains place time_owed d) (members_faults chains place (balances_owed ∷ []) d) behind_name in
    balances_formed chains place start.balances (get (codes "balances") d) is.1.1.1.0
    (left_nil (member_faults chains place balances_owed d) (members_faults chains place [] d) behind_time)

abbrev AreAllFormed : List ChainState → Type 0
AreAllFormed [] = ⊤
AreAllFormed (start ∷ starts) = EachOf IsFormed start.balances × AreAllFormed starts

chains_formed : (chains : List Data) (k : ℕ) (names : List Text) (starts : List ChainState) (ds : List Data) → length names ≡ length starts
    → script.AreEach script.IsChainStart (zip names starts) ds → chains_faults chains k ds ≡ [] → AreAllFormed starts
chains_formed chains k [] [] ds long are none = tt
chains_formed chains k (name ∷ names) [] ds long are none = tt
chains_formed chains k [] (start ∷ starts) ds long are none = absurd (omega (arith, long))
chains_formed chains k (name ∷ names) (start ∷ starts) [] long are none = absurd are
chains_formed chains k (name ∷ names) (start ∷ starts) (d ∷ ds) long are none =
    let shorter : length names ≡ length starts = omega (arith, long) in
    let rest = chains_faults chains (k + 1) ds in (
      chain_formed chains k name start d are.0 (left_nil (chain_faults chains k d) rest none),
      chains_formed chains (k + 1) names starts ds shorter are.1 (right_nil (chain_faults chains k d) rest none),
    )

as_many : (names : List Text) (starts : List ChainState) (ds : List Data) → length names ≡ length starts
    → script.AreEach script.IsChainStart (zip names starts) ds → length ds ≡ length starts
as_many [] [] [] long are = refl
as_many [] [] (d ∷ ds) long are = absurd are
as_many (name ∷ names) [] ds long are = absurd (omega (arith, long))
as_many [] (start ∷ starts) ds long are = absurd (omega (arith, long))
as_many (name ∷ names) (start ∷ starts) [] long are = absurd are
as_many (name ∷ names) (start ∷ starts) (d ∷ ds) long are =
    let shorter : length names ≡ length starts = omega (arith, long) in
    ap suc (as_many names starts ds shorter are.1)

-- ---- fair holdings

alike : (p q : Bool) → (p ≡ true → q ≡ true) → (q ≡ true → p ≡ true) → p ≡ q
alike true q f g = sym (f refl)
alike false true f g = g refl
alike false false f g = refl

text_swap : (a b : Text) → same_text a b ≡ same_text b a
text_swap a b =
    alike (same_text a b) (same_text b a) (λ e. same_text_from b a (sym (text_same a b e))) (λ e. same_text_from a b (sym (text_same b a e)))

holding_swap : (a b : Holding) → is_same_holding a b ≡ is_same_holding b a
holding_swap a b = ap (λ x. x && same_text a.1 b.1) (text_swap a.0 b.0) ∙ ap (λ x. same_text b.0 a.0 && x) (text_swap a.1 b.1)

same_itself : (h : Holding) → is_same_holding h h ≡ true
same_itself h = and_from (same_text h.0 h.0) (same_text h.1 h.1) (same_text_itself h.0) (same_text_itself h.1)

or_first : (a b : Bool) → (a || b) ≡ false → a ≡ false
or_first true b none = none
or_first false b none = refl

or_second : (a b : Bool) → (a || b) ≡ false → b ≡ false
or_second true b none = absurd (false≢true (sym none))
or_second false b none = none

abbrev one_if_same : Holding → Holding → ℕ
one_if_same h other = cond (is_same_holding h other) 1 0

abbrev StandsOnce : List Holding → Holding → Type 0
StandsOnce all h = count_by (is_same_holding h) all ≡ 1

abbrev IsSmall : List Holding → Type 0
IsSmall all = (denom : Text) → are_small denom all ≡ true

-- those before a new one still stand once
kept : (x : Holding) (all hs : List Holding) → EachOf (StandsOnce all) hs → list_any (is_same_holding x) hs ≡ false
    → EachOf (StandsOnce (all ++ x ∷ [])) hs
kept x all [] once none = tt
kept x all (h ∷ hs) once none =
    let new = or_first (is_same_holding x h) (list_any (is_same_holding x) hs) none in
    let rest = or_second (is_same_holding x h) (list_any (is_same_holding x) hs) none in
    let other : one_if_same h x ≡ 0 = ap (λ b. cond b 1 0) (holding_swap h x ∙ new) in
    let grown = sum_by_push (one_if_same h) all x in
    let so_far = once.0 in
    (omega (arith, grown, other, so_far), kept x all hs once.1 rest)

none_yet : (x : Holding) (hs : List Holding) → list_any (is_same_holding x) hs ≡ false → count_by (is_same_holding x) hs ≡ 0
none_yet x [] none = refl
none_yet x (h ∷ hs) none =
    let new = or_first (is_same_holding x h) (list_any (is_same_holding x) hs) none in
    let other : one_if_same x h ≡ 0 = ap (λ b. cond b 1 0) new in
    let rest = none_yet x hs (or_second (is_same_holding x h) (list_any (is_same_holding x) hs) none) in
    let counted = sum_by-cons (one_if_same x) h hs in
    omega (arith, counted, other, rest)

new_once : (x : Holding) (hs : List Holding) → list_any (is_same_holding x) hs ≡ false → StandsOnce (hs ++ x ∷ []) x
new_once x hs none =
    let grown = sum_by_push (one_if_same x) hs x in
    let own : one_if_same x x ≡ 1 = ap (λ b. cond b 1 0) (same_itself x) in
    let before = none_yet x hs none in
    omega (arith, grown, own, before)

each_push : (P : Holding → Type 0) (hs : List Holding) (x : Holding) → EachOf P hs → P x → EachOf P (hs ++ x ∷ [])
each_push P [] x each its = (its, tt)
each_push P (h ∷ hs) x each its = (each.0, each_push P hs x each.1 its)

-- a denomination's amounts stay small
still_small : (more so_far : Bool) → (not more && so_far) ≡ false → so_far ≡ true → more ≡ true
still_small true so_far none small = refl
still_small false true none small = absurd (false≢true (sym none))
still_small false false none small = absurd (false≢true small)

small_push : (denom : Text) (hs : List Holding) (x : Holding) (is : Bool) → same_text x.1 denom ≡ is → are_small x.1 (hs ++ x ∷ []) ≡ true
    → are_small denom hs ≡ true → are_small denom (hs ++ x ∷ []) ≡ true
small_push denom hs x true same own so_far = subst (λ (t : Text). are_small t (hs ++ x ∷ []) ≡ true) (text_same x.1 denom same) own
small_push denom hs x false other own so_far =
    let nothing : cond (same_text x.1 denom) x.2 0 ≡ 0 = ap (λ b. cond b x.2 0) other in
    let grown = sum_by_push (λ (h : Holding). cond (same_text h.1 denom) h.2 0) hs x in
    let total : total_of denom (hs ++ x ∷ []) ≡ total_of denom hs = omega (arith, grown, nothing) in
    ap (λ n. ltb n (2 ^ 128)) total ∙ so_far

-- what stands before the holdings that are left has grown to all of them
grown : (chain : ℕ) (all before rest : List Holding) → all ≡ before ++ rest → EachOf (StandsOnce before) before → IsSmall before
    → holdings_faults chain all (length before) rest ≡ [] → EachOf (StandsOnce all) all × IsSmall all
grown chain all before [] is once small none =
    let same = sym (is ∙ append-nil before) in
    (subst (λ (l : List Holding). EachOf (StandsOnce l) l) same once, subst IsSmall same small)
grown chain all before (h ∷ rest) is once small none =
    let i = length before in
    let place = holding_place chain i in
    let more : all ≡ (before ++ h ∷ []) ++ rest = is ∙ sym (append_assoc before (h ∷ []) rest) in
    let long : length (before ++ h ∷ []) ≡ i + 1 = length-append before (h ∷ []) in
    let so_far : take i all ≡ before = ap (take i) is ∙ take-append_seam before (h ∷ rest) in
    let with_it : take (i + 1) all ≡ before ++ h ∷ [] =
    (λ j. take (sym long j) (more j)) ∙ take-append_seam (before ++ h ∷ []) rest in
    let twice = twice_faults place (take i all) h in
    let too_much = too_much_faults place h.1 i all in
    let behind = holdings_faults chain all (i + 1) rest in
    let of_it = left_nil (twice ++ too_much) behind none in
    let new : list_any (is_same_holding h) before ≡ false =
    ap (list_any (is_same_holding h)) (sym so_far)
    ∙ none_if (list_any (is_same_holding h) (take i all)) place wrong.HeldTwice (left_nil twice too_much of_it) in
    let fits =
    none_if (not (are_small h.1 (take (i + 1) all)) && are_small h.1 (take i all)) (inside place 2) wrong.TooMuch (right_nil twice too_much of_it) in
    let own : are_small h.1 (before ++ h ∷ []) ≡ true =
    ap (are_small h.1) (sym with_it)
    ∙ still_small (are_small h.1 (take (i + 1) all)) (are_small h.1 (take i all)) fits (ap (are_small h.1) so_far ∙ small h.1) in
    grown chain all (before ++ h ∷ []) rest more
    (each_push (StandsOnce (before ++ h ∷ [])) before h (kept h before before once new) (new_once h before new))
    (λ denom. small_push denom before h (same_text h.1 denom) refl own (small denom))
    (subst (λ (n : ℕ). holdings_faults chain all n rest ≡ []) (sym long) (right_nil (twice ++ too_much) behind none))

each_fair : (all hs : List Holding) → EachOf IsFormed hs → EachOf (StandsOnce all) hs → IsSmall all → list_all (is_fair all) hs ≡ true
each_fair all [] formed once small = refl
each_fair all (h ∷ hs) formed once small =
    let count = count_by (is_same_holding h) all in
    let named = and_from (is_user h.0) (is_base_denom h.1) formed.0.0 formed.0.1 in
    let single = and_from (is_user h.0 && is_base_denom h.1) (eqb count 1) named (eq-eqb count 1 once.0) in
    let fair = and_from ((is_user h.0 && is_base_denom h.1) && eqb count 1) (ltb (total_of h.1 all) (2 ^ 128)) single (small h.1) in
    and_from (is_fair all h) (list_all (is_fair all) hs) fair (each_fair all hs formed.1 once.1 small)

none_held : IsSmall []
none_held denom = lt-ltb 0 (2 ^ 128) (omega arith)

abbrev is_fair_chain : ChainState → Bool
is_fair_chain chain = list_all (is_fair chain.balances) chain.balances

chains_fair : (k : ℕ) (starts : List ChainState) → AreAllFormed starts → genesis.chains_faults k starts ≡ [] → list_all is_fair_chain starts ≡ true
chains_fair k [] formed none = refl
chains_fair k (start ∷ starts) formed none =
    let all = start.balances in
    let its = holdings_faults k all 0 all in
    let rest = genesis.chains_faults (k + 1) starts in
    let found = grown k all [] all refl tt none_held (left_nil its rest none) in
    and_from (is_fair_chain start) (list_all is_fair_chain starts) (each_fair all all formed.0 found.0 found.1)
    (chains_fair (k + 1) starts formed.1 (right_nil its rest none))

-- ---- limits

capacity_within : (chains : List Data) (place : ScriptPlace) (n : ℕ) (found : Option Data) → script.IsNumber n found
    → member_faults_in chains place capacity_owed found ≡ [] → is_within 1 1000000 n ≡ true
capacity_within chains place n None is none = absurd (no_number n is)
capacity_within chains place n (Some d) is none = number_within chains (at_member place member.Capacity) 1 1000000 n d is none

usual_within : (capacity n : ℕ) → 1 ≤ capacity → n ≡ min capacity 4096 → is_within 1 4096 n ≡ true
usual_within capacity n some is =
    let low : 1 ≤ min capacity 4096 = le-min some (omega arith) in
    let high = min-le_right capacity 4096 in
    and_from (leb 1 n) (leb n 4096) (le-leb 1 n (omega (arith, is, low))) (le-leb n 4096 (omega (arith, is, high)))

window_within : (chains : List Data) (place : ScriptPlace) (capacity n : ℕ) (found : Option Data) → 1 ≤ capacity
    → script.IsWindow capacity n found → member_faults_in chains place window_owed found ≡ [] → is_within 1 4096 n ≡ true
window_within chains place capacity n None some is none =
    elim is [
      | inl number ↦ absurd (no_number n number)
      | inr usual ↦ usual_within capacity n some usual.1
    ]
window_within chains place capacity n (Some d) some is none =
    elim is [
      | inl number ↦ number_within chains (at_member place member.Window) 1 4096 n d number none
      | inr usual ↦ absurd (not_left_out d usual.0)
    ]

chains_counted : (chains : List Data) (place : ScriptPlace) (ds : List Data) (found : Option Data) → script.AreItems ds found
    → member_faults_in chains place chains_owed found ≡ [] → is_within 2 8 (length ds) ≡ true
chains_counted chains place ds None is none = absurd (no_list ds is)
chains_counted chains place ds (Some d) is none =
    ap (passes (has_length 2 8)) (sym (items_found (as_array d) ds is))
    ∙ none_so (leaf_fits chains (leaf.List 2 8) d) (at_member place member.Chains) (wrong.Leaf (leaf.List 2 8)) none

limits : (g : GenesisState) → is_within 1 1000000 g.capacity ≡ true → is_within 1 4096 g.window ≡ true → leb g.window g.capacity ≡ true
    → has_limits g ≡ true
limits g capacity window below =
    let parts = and_parts (leb 1 g.window) (leb g.window 4096) window in
    let three = and_from (leb 1 g.capacity && leb g.capacity 1000000) (leb 1 g.window) capacity parts.0 in
    let four = and_from ((leb 1 g.capacity && leb g.capacity 1000000) && leb 1 g.window) (leb g.window 4096) three parts.1 in
    and_from (((leb 1 g.capacity && leb g.capacity 1000000) && leb 1 g.window) && leb g.window 4096) (leb g.window g.capacity) four below

-- ---- all of it

pub allowed_where_nothing : (content : ScriptContent) (d : Data) → script.IsScript content d
    → script_faults d ++ genesis_faults content.genesis ≡ [] → is_allowed content.genesis ≡ true
unfolding is_allowed
allowed_where_nothing content d is none =
    let g = content.genesis in
    let chains = items_at (codes "chains") d in
    let place = place_of part.Script in
    let forms = left_nil (script_faults d) (genesis_faults g) none in
    let starts = right_nil (script_faults d) (genesis_faults g) none in
    let object_of = object_faults chains place script_owes d in
    let chains_of = chains_faults chains 0 chains in
    let front = left_nil (object_of ++ chains_of) (steps_faults chains 0 (items_at (codes "steps") d)) forms in
    let members = members_none chains place script_owes d (as_object d) (left_nil object_of chains_of front) in
    let from_window = members_faults chains place (window_owed ∷ chains_owed ∷ steps_owed ∷ []) d in
    let from_chains = members_faults chains place (chains_owed ∷ steps_owed ∷ []) d in
    let behind_capacity = right_nil (member_faults chains place capacity_owed d) from_window members in
    let behind_window = right_nil (member_faults chains place window_owed d) from_chains behind_capacity in
    let fields = is.0.1 in
    let listed = fields.1.1.0 in
    let ds = listed.0 in
    let long = is.2 in
    let same = items_there (get (codes "chains") d) ds listed.1 in
    let formed =
    chains_formed chains 0 content.names g.chains ds long listed.2
    (subst (λ (l : List Data). chains_faults chains 0 l ≡ []) same (right_nil object_of chains_of front)) in
    let fair = chains_fair 0 g.chains formed (right_nil (window_faults g) (genesis.chains_faults 0 g.chains) starts) in
    let below =
    none_so (leb g.window g.capacity) (at_member place member.Window) wrong.AboveCapacity
    (left_nil (window_faults g) (genesis.chains_faults 0 g.chains) starts) in
    let capacity =
    capacity_within chains place g.capacity (get (codes "capacity") d) fields.0
    (left_nil (member_faults chains place capacity_owed d) from_window members) in
    let some = leb-true 1 g.capacity (and_parts (leb 1 g.capacity) (leb g.capacity 1000000) capacity).0 in
    let window =
    window_within chains place g.capacity g.window (get (codes "window") d) some fields.1.0
    (left_nil (member_faults chains place window_owed d) from_chains behind_capacity) in
    let many =
    chains_counted chains place ds (get (codes "chains") d) listed.1
    (left_nil (member_faults chains place chains_owed d) (members_faults chains place (steps_owed ∷ []) d) behind_window) in
    let few : is_within 2 8 (length g.chains) ≡ true =
    subst (λ (n : ℕ). is_within 2 8 n ≡ true) (as_many content.names g.chains ds long listed.2) many in
    and_from ((leb 2 (length g.chains) && leb (length g.chains) 8) && has_limits g) (list_all is_fair_chain g.chains)
    (and_from (leb 2 (length g.chains) && leb (length g.chains) 8) (has_limits g) few (limits g capacity window below)) fair
