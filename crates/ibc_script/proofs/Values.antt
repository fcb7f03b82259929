-- Values of JSON, as they are read one after another.
use Rattle.std.proofs.Common.{◌≡◌, ◌∙◌, ◌⊎◌, ◌+◌, ◌<◌, ◌^◌, ◌&&◌, ◌||◌, ℕ, zero, suc, Bool, Bor, Global, String, true, false, List, [], ◌∷◌, ◌++◌, Option, None, Some, ap, codes, decimal, arith, get_or, inl, inr, length, map, option_map, refl, slice_get, string_bytes, bytes_eq, subst, sym, take, zip}
use Rattle.std.specs.List.{list_all, list_any}
use Rattle.std.specs.Str.Parse.{digits_value}
use Rattle.std.proofs.lemmas.Fmt.{decimal_is_IsNumeral_wide}
use Rattle.std.proofs.lemmas.List.{length-map, map-append, take_more}
use Rattle.std.proofs.lemmas.Option.{same_Some, slice_get_within}
use Rattle.std.proofs.lemmas.Slice.Eq.{bytes_eq-Decides}
use Rattle.serde_json.specs.Data.{Data}
use Rattle.serde_json.specs.Find.{as_array, as_str, get}
use Rattle.serde_json.specs.View.{items_of, items_view, members_view, view}
use Rattle.serde_json.specs.declared.value.Value.{Value}
use Rattle.ibc_ids.specs.Texts.{Text}
use Rattle.ibc_machine.specs.chain.Genesis.{ChainState}
use Rattle.ibc_wire.specs.declared.token.Token.{Token}
use Rattle.ibc_script.specs.ScriptValues.{AreChainStarts, AreChains, AreDifferent, AreEach, AreItems, IsChain, IsChainStart, IsNumber, IsScript, IsStepObject, IsText, IsTextIfThere, IsToken, ScriptContent, are_among, items_in}

-- ---- the items of a list

pub items_back : (values : List Data) → items_in (items_of values) ≡ values
items_back [] = refl
items_back (value ∷ values) = ap (λ (l : List Data). value ∷ l) (items_back values)

pub are_items : (list : Value) (values shown : List Value) → Some (items_view values) ≡ as_array (view list) → shown ≡ values → AreItems (map view shown) (Some (view list))
are_items list values shown is same =
    ap (option_map items_in) (sym is) ∙ ap Some (items_back (map view values)) ∙ ap (λ (l : List Value). Some (map view l)) (sym same)

-- ---- one value more

each_push : {A : Type 0} (is : A → Option Data → Type 0) (xs : List A) (values : List Data) (x : A) (value : Data) → AreEach is xs values → is x (Some value)
    → AreEach is (xs ++ x ∷ []) (values ++ value ∷ [])
each_push is [] [] x value so_far its = (its, tt)
each_push is [] (v ∷ values) x value so_far its = absurd so_far
each_push is (y ∷ xs) [] x value so_far its = absurd so_far
each_push is (y ∷ xs) (v ∷ values) x value so_far its = (so_far.0, each_push is xs values x value so_far.1 its)

pub pushed : {A : Type 0} (is : A → Option Data → Type 0) (xs : List A) (values : List Value) (i : ℕ) (x : A) (value : Value) → i < length values
    → value ≡ get_or values i value → AreEach is xs (map view (take i values)) → is x (Some (view value))
    → AreEach is (xs ++ x ∷ []) (map view (take (i + 1) values))
pushed is xs values i x value within read so_far its =
    let one_more : map view (take (i + 1) values) ≡ map view (take i values) ++ view value ∷ [] =
    ap (map view) (take_more values i value within ∙ ap (λ (v : Value). take i values ++ v ∷ []) (sym read)) ∙ map-append view (take i values) (value ∷ []) in
    subst (AreEach is (xs ++ x ∷ [])) (sym one_more) (each_push is xs (map view (take i values)) x (view value) so_far its)

-- ---- names that differ

at_end : {A : Type 0} (xs : List A) (x : A) (i : ℕ) (y : A) → slice_get (xs ++ x ∷ []) i ≡ Some y → (slice_get xs i ≡ Some y) ⊎ ((i ≡ length xs) × (x ≡ y))
at_end [] x zero y at = inr (refl, cc)
at_end [] x (suc i) y at = absurd cc
at_end (z ∷ xs) x zero y at = inl at
at_end (z ∷ xs) x (suc i) y at = elim (at_end xs x i y at) [ inl there ↦ inl there | inr last ↦ inr (ap suc last.0, last.1) ]

pub more_different : (names : List Text) (name : Text) → AreDifferent names → ((i : ℕ) → slice_get names i ≡ Some name → ⊥) → AreDifferent (names ++ name ∷ [])
more_different names name different new i j other less at_i at_j =
    elim (at_end names name j other at_j) [
      | inl early ↦
          elim (at_end names name i other at_i) [
            | inl first ↦ different i j other less first early
            | inr last ↦
                let within = slice_get_within names j other early in
                let long = last.0 in
                absurd (omega (arith, within, long, less))
          ]
      | inr late ↦
          elim (at_end names name i other at_i) [
            | inl first ↦ new i (first ∙ ap Some (sym late.1))
            | inr last ↦
                let long = last.0 in
                let longer = late.0 in
                absurd (omega (arith, long, longer, less))
          ]
    ]

pub zip_push : {A B : Type 0} (xs : List A) (ys : List B) (x : A) (y : B) → length xs ≡ length ys → zip (xs ++ x ∷ []) (ys ++ y ∷ []) ≡ zip xs ys ++ (x, y) ∷ []
zip_push [] [] x y long = refl
zip_push [] (b ∷ ys) x y long = absurd (omega (arith, long))
zip_push (a ∷ xs) [] x y long = absurd (omega (arith, long))
zip_push {A} {B} (a ∷ xs) (b ∷ ys) x y long =
    let shorter : length xs ≡ length ys = omega (arith, long) in
    ap (λ (l : List (A × B)). (a, b) ∷ l) (zip_push xs ys x y shorter)

-- ---- the names of members

abbrev pub is_known : List (Bor Text) → String Global → Bool
is_known names key = list_any (λ (name : Bor Text). bytes_eq (string_bytes key) name.now) names

abbrev now_of : Bor Text → Text
now_of name = name.now

any_mapped : (p : Text → Bool) (names : List (Bor Text)) → list_any p (map now_of names) ≡ list_any (λ (name : Bor Text). p name.now) names
any_mapped p [] = refl
any_mapped p (name ∷ names) = ap (λ (b : Bool). p name.now || b) (any_mapped p names)

pub known_members : (names : List (Bor Text)) (entries : List (String Global × Value))
    → are_among (map now_of names) (members_view entries) ≡ list_all (is_known names) (map (λ (entry : String Global × Value). entry.0) entries)
known_members names [] = refl
known_members names (entry ∷ entries) =
    (λ i. any_mapped (bytes_eq (string_bytes entry.0)) names i && known_members names entries i)

-- ---- names that stand in a list

or_true : (b rest : Bool) → b ≡ true → (b || rest) ≡ false → ⊥
or_true true rest is none = absurd cc
or_true false rest is none = absurd cc

or_rest : (b rest : Bool) → (b || rest) ≡ false → rest ≡ false
or_rest true rest none = absurd cc
or_rest false rest none = none

pub none_known : (names : List Text) (name : Text) → list_any (λ (known : Text). bytes_eq known name) names ≡ false → (i : ℕ) → slice_get names i ≡ Some name → ⊥
none_known [] name none i at = absurd cc
none_known (known ∷ names) name none zero at =
    let same : known ≡ name = same_Some known name at in
    or_true (bytes_eq known name) (list_any (λ (k : Text). bytes_eq k name) names) ((bytes_eq-Decides known name).1 same) none
none_known (known ∷ names) name none (suc i) at =
    none_known names name (or_rest (bytes_eq known name) (list_any (λ (k : Text). bytes_eq k name) names) none) i at

one_later : (names : List Text) (known name : Text) → (i : ℕ) × (slice_get names i ≡ Some name) → (i : ℕ) × (slice_get (known ∷ names) i ≡ Some name)
one_later names known name found = (suc found.0, found.1)

pub one_known : (names : List Text) (name : Text) → list_any (λ (known : Text). bytes_eq known name) names ≡ true → (i : ℕ) × (slice_get names i ≡ Some name)
one_known [] name some = absurd cc
one_known (known ∷ names) name some = found (bytes_eq known name) refl (one_known names name)
  where
    found : (b : Bool) → bytes_eq known name ≡ b
        → (list_any (λ (k : Text). bytes_eq k name) names ≡ true → (i : ℕ) × (slice_get names i ≡ Some name))
        → (i : ℕ) × (slice_get (known ∷ names) i ≡ Some name)
    found true is behind = (zero, ap Some ((bytes_eq-Decides known name).0 is))
    found false is behind =
        let rest : list_any (λ (k : Text). bytes_eq k name) names ≡ true =
        sym (ap (λ (b : Bool). b || list_any (λ (k : Text). bytes_eq k name) names) is) ∙ some in
        one_later names known name (behind rest)

-- ---- values that are no list of such

-- where one value isn't so, no list is of the values
pub none_at : {A : Type 0} (is : A → Option Data → Type 0) (xs : List A) (values : List Value) (i : ℕ) (value : Value) → i < length values
    → value ≡ get_or values i value → ((x : A) → ¬ is x (Some (view value))) → AreEach is xs (map view values) → ⊥
none_at is xs [] i value within read none each = absurd (omega (arith, within))
none_at is [] (v ∷ values) i value within read none each = each
none_at is (x ∷ xs) (v ∷ values) zero value within read none each =
    none x (subst (λ (w : Value). is x (Some (view w))) (sym read) each.0)
none_at is (x ∷ xs) (v ∷ values) (suc i) value within read none each =
    let less : i < length values = omega (arith, within) in
    none_at is xs values i value less read none each.1

-- a value is one thing at most, so values are one list at most
pub same_each : {A : Type 0} (is : A → Option Data → Type 0) → ((x y : A) (found : Option Data) → is x found → is y found → x ≡ y)
    → (xs ys : List A) (values : List Data) → AreEach is xs values → AreEach is ys values → xs ≡ ys
same_each is one [] [] values first second = refl
same_each is one [] (y ∷ ys) [] first second = absurd second
same_each is one [] (y ∷ ys) (v ∷ values) first second = absurd first
same_each is one (x ∷ xs) [] [] first second = absurd first
same_each is one (x ∷ xs) [] (v ∷ values) first second = absurd second
same_each is one (x ∷ xs) (y ∷ ys) [] first second = absurd first
same_each is one (x ∷ xs) (y ∷ ys) (v ∷ values) first second =
    (λ i. one x y (Some v) first.0 second.0 i ∷ same_each is one xs ys values first.1 second.1 i)

-- there are as many as values
pub as_many : {A : Type 0} (is : A → Option Data → Type 0) (xs : List A) (values : List Data) → AreEach is xs values → length xs ≡ length values
as_many is [] [] each = refl
as_many is [] (v ∷ values) each = absurd each
as_many is (x ∷ xs) [] each = absurd each
as_many is (x ∷ xs) (v ∷ values) each = ap suc (as_many is xs values each.1)

pub same_items : (xs ys : List Data) (found : Option Data) → AreItems xs found → AreItems ys found → xs ≡ ys
same_items xs ys found first second = same_Some xs ys (sym first ∙ second)

-- ---- names of chains

abbrev name_in : Data → Option Data
name_in value = get (codes "name") value

-- the value of a named chain says the name
name_at : (names : List Text) (starts : List ChainState) (values : List Data) (k : ℕ) (name : Text) → length names ≡ length starts
    → AreEach IsChainStart (zip names starts) values → slice_get names k ≡ Some name
    → (v : Data) × (slice_get values k ≡ Some v) × IsText name (name_in v)
name_at [] starts values k name long each at = absurd cc
name_at (n ∷ names) [] values k name long each at = absurd (omega (arith, long))
name_at (n ∷ names) (start ∷ starts) [] k name long each at = absurd each
name_at (n ∷ names) (start ∷ starts) (v ∷ values) zero name long each at =
    (v, refl, subst (λ (t : Text). IsText t (name_in v)) (same_Some n name at) each.0.1.0.0)
name_at (n ∷ names) (start ∷ starts) (v ∷ values) (suc k) name long each at =
    let shorter : length names ≡ length starts = omega (arith, long) in
    name_at names starts values k name shorter each.1 at

-- and the chain of a value has the name that the value says
named_by : (names : List Text) (starts : List ChainState) (values : List Data) (k : ℕ) (v : Data) (name : Text) → length names ≡ length starts
    → AreEach IsChainStart (zip names starts) values → slice_get values k ≡ Some v → IsText name (name_in v) → slice_get names k ≡ Some name
named_by names starts [] k v name long each at says = absurd cc
named_by [] [] (w ∷ values) k v name long each at says = absurd each
named_by [] (start ∷ starts) (w ∷ values) k v name long each at says = absurd (omega (arith, long))
named_by (n ∷ names) [] (w ∷ values) k v name long each at says = absurd (omega (arith, long))
named_by (n ∷ names) (start ∷ starts) (w ∷ values) zero v name long each at says =
    let same : w ≡ v = same_Some w v at in
    let own : IsText n (name_in v) = subst (λ (d : Data). IsText n (name_in d)) same each.0.1.0.0 in
    sym own ∙ says
named_by (n ∷ names) (start ∷ starts) (w ∷ values) (suc k) v name long each at says =
    let shorter : length names ≡ length starts = omega (arith, long) in
    named_by names starts values k v name shorter each.1 at says

get_taken : (values : List Value) (i k : ℕ) (v : Data) → slice_get (map view (take i values)) k ≡ Some v → slice_get (map view values) k ≡ Some v
get_taken [] zero k v at = at
get_taken [] (suc i) k v at = at
get_taken (w ∷ values) zero k v at = absurd cc
get_taken (w ∷ values) (suc i) zero v at = at
get_taken (w ∷ values) (suc i) (suc k) v at = get_taken values i k v at

get_here : (values : List Value) (i : ℕ) (value : Value) → i < length values → value ≡ get_or values i value
    → slice_get (map view values) i ≡ Some (view value)
get_here [] i value within read = absurd (omega (arith, within))
get_here (w ∷ values) zero value within read = ap (λ (x : Value). Some (view x)) (sym read)
get_here (w ∷ values) (suc i) value within read =
    let less : i < length values = omega (arith, within) in
    get_here values i value less read

-- where a value says a name that one before it says, the values are no chains with different names
pub named_twice : (names : List Text) (starts : List ChainState) (values : List Value) (i k : ℕ) (name : Text) (value : Value)
    → i < length values → value ≡ get_or values i value → length names ≡ length starts → length names ≡ i
    → AreEach IsChainStart (zip names starts) (map view (take i values)) → slice_get names k ≡ Some name → IsText name (name_in (view value))
    → (others : List Text) (their : List ChainState) → AreChainStarts others their (map view values) → ⊥
named_twice names starts values i k name value within read long many each at says others their are =
    let before = name_at names starts (map view (take i values)) k name long each at in
    let less = slice_get_within names k name at in
    let first = named_by others their (map view values) k before.0 name are.2 are.0 (get_taken values i k before.0 before.1) before.2 in
    let second = named_by others their (map view values) i (view value) name are.2 are.0 (get_here values i value within read) says in
    are.1 k i name (omega (arith, less, many)) first second

-- values are chains of one list of names at most
pub same_names : (names others : List Text) (starts their : List ChainState) (values : List Data) → length names ≡ length starts
    → length others ≡ length their → AreEach IsChainStart (zip names starts) values → AreEach IsChainStart (zip others their) values → names ≡ others
same_names [] [] starts their values long longer first second = refl
same_names [] (o ∷ others) (start ∷ starts) their values long longer first second = absurd (omega (arith, long))
same_names [] (o ∷ others) [] [] values long longer first second = absurd (omega (arith, longer))
same_names [] (o ∷ others) [] (t ∷ their) [] long longer first second = absurd second
same_names [] (o ∷ others) [] (t ∷ their) (v ∷ values) long longer first second = absurd first
same_names (n ∷ names) others [] their values long longer first second = absurd (omega (arith, long))
same_names (n ∷ names) [] (start ∷ starts) (t ∷ their) values long longer first second = absurd (omega (arith, longer))
same_names (n ∷ names) [] (start ∷ starts) [] [] long longer first second = absurd first
same_names (n ∷ names) [] (start ∷ starts) [] (v ∷ values) long longer first second = absurd second
same_names (n ∷ names) (o ∷ others) (start ∷ starts) [] values long longer first second = absurd (omega (arith, longer))
same_names (n ∷ names) (o ∷ others) (start ∷ starts) (t ∷ their) [] long longer first second = absurd first
same_names (n ∷ names) (o ∷ others) (start ∷ starts) (t ∷ their) (v ∷ values) long longer first second =
    let shorter : length names ≡ length starts = omega (arith, long) in
    let short : length others ≡ length their = omega (arith, longer) in
    let same : n ≡ o = same_Some n o (sym first.0.1.0.0 ∙ second.0.1.0.0) in
    (λ i. same i ∷ same_names names others starts their values shorter short first.1 second.1 i)

-- ---- amounts and tokens

one_amount : (m n : ℕ) → m < 2 ^ 128 → n < 2 ^ 128 → decimal m ≡ decimal n → m ≡ n
one_amount m n small less same =
    sym (decimal_is_IsNumeral_wide m (omega arith)).1 ∙ ap (digits_value 10) same ∙ (decimal_is_IsNumeral_wide n (omega arith)).1

pub one_token : (t u : Token) (found : Option Data) → IsToken t found → IsToken u found → t ≡ u
one_token t u found first second =
    let items = same_items (first.0 ∷ first.1 ∷ []) (second.0 ∷ second.1 ∷ []) found first.2 second.2 in
    let denoms : first.0 ≡ second.0 = ap (λ (l : List Data). get_or l 0 first.0) items in
    let amounts : first.1 ≡ second.1 = ap (λ (l : List Data). get_or l 1 first.0) items in
    let denom : t.denom ≡ u.denom =
    same_Some t.denom u.denom (sym first.3.0 ∙ ap (λ (d : Data). as_str d) denoms ∙ second.3.0) in
    let text : decimal t.amount ≡ decimal u.amount =
    same_Some (decimal t.amount) (decimal u.amount) (sym first.4.0 ∙ ap (λ (d : Data). as_str d) amounts ∙ second.4.0) in
    let amount = one_amount t.amount u.amount first.4.1 second.4.1 text in
    (λ i. record { denom = denom i; amount = amount i })

some_none : (d : Data) → Some d ≡ None → ⊥
some_none d is = absurd cc

-- a text that may be left out is one text
pub one_text_if_there : (a b : Text) (found : Option Data) → IsTextIfThere a found → IsTextIfThere b found → a ≡ b
one_text_if_there a b None first second =
    elim first [
      | inl none ↦ elim second [ inl also ↦ none.1 ∙ sym also.1 | inr there ↦ absurd cc ]
      | inr there ↦ absurd cc
    ]
one_text_if_there a b (Some d) first second =
    elim first [
      | inl none ↦ absurd (some_none d none.0)
      | inr there ↦ elim second [ inl none ↦ absurd (some_none d none.0) | inr also ↦ same_Some a b (sym there ∙ also) ]
    ]

-- ---- scripts

pub one_number : (m n : ℕ) (found : Option Data) → IsNumber m found → IsNumber n found → m ≡ n
one_number m n found first second = same_Some m n (sym first ∙ second)

pub chains_counted : (names : List Text) (starts : List ChainState) (values : List Data) → length names ≡ length starts
    → AreEach IsChainStart (zip names starts) values → length names ≡ length values
chains_counted [] [] [] long each = refl
chains_counted [] [] (v ∷ values) long each = absurd each
chains_counted [] (start ∷ starts) values long each = absurd (omega (arith, long))
chains_counted (n ∷ names) [] values long each = absurd (omega (arith, long))
chains_counted (n ∷ names) (start ∷ starts) [] long each = absurd each
chains_counted (n ∷ names) (start ∷ starts) (v ∷ values) long each =
    let shorter : length names ≡ length starts = omega (arith, long) in
    ap suc (chains_counted names starts values shorter each.1)

-- a script's steps are steps of the chains that its value has
pub steps_of : (content : ScriptContent) (given : Data) (names : List Text) (starts : List ChainState) (chains steps : List Data)
    → IsScript content given → AreItems chains (get (codes "chains") given) → AreItems steps (get (codes "steps") given)
    → length names ≡ length starts → AreEach IsChainStart (zip names starts) chains → AreEach (IsStepObject names) content.steps steps
steps_of content given names starts chains steps is there listed long each =
    let fields = is.0.1.1.1 in
    let own = fields.0 in
    let taken = fields.1.0 in
    let same = same_items own.0 chains (get (codes "chains") given) own.1 there in
    let lists = same_items taken.0 steps (get (codes "steps") given) taken.1 listed in
    let theirs : AreEach IsChainStart (zip content.names content.genesis.chains) chains =
    subst (λ (l : List Data). AreEach IsChainStart (zip content.names content.genesis.chains) l) same own.2 in
    let called = same_names content.names names content.genesis.chains starts chains is.2 long theirs each in
    let of_them : AreEach (IsStepObject names) content.steps taken.0 =
    subst (λ (l : List Text). AreEach (IsStepObject l) content.steps taken.0) called taken.2 in
    subst (λ (l : List Data). AreEach (IsStepObject names) content.steps l) lists of_them

-- two names of chains that are one name are of one chain
pub one_chain : (names : List Text) (i j : ℕ) (name : Text) → AreDifferent names → slice_get names i ≡ Some name → slice_get names j ≡ Some name → i ≡ j
one_chain names i j name different at_i at_j =
    elim (order i j) [
      | inl less ↦ absurd (different i j name less at_i at_j)
      | inr rest ↦ elim rest [ inl more ↦ absurd (different j i name more at_j at_i) | inr same ↦ same ]
    ]
  where
    order : (m n : ℕ) → (m < n) ⊎ ((n < m) ⊎ (m ≡ n))
    order zero zero = inr (inr refl)
    order zero (suc n) = inl (omega arith)
    order (suc m) zero = inr (inl (omega arith))
    order (suc m) (suc n) =
        elim (order m n) [
          | inl less ↦ inl (omega (arith, less))
          | inr rest ↦ elim rest [ inl more ↦ inr (inl (omega (arith, more))) | inr same ↦ inr (inr (ap suc same)) ]
        ]

-- values that name one chain name no two
pub one_place : (names : List Text) (n i j : ℕ) (first second : Option Data) → AreDifferent names → IsChain names n first → IsChain names n second
    → IsChain names i first → IsChain names j second → i ≡ j
one_place names n i j first second different here there at_i at_j =
    let name = here.0 in
    let called = same_Some there.0 name (sym there.1 ∙ here.1) in
    let at_first : slice_get names i ≡ Some name =
    subst (λ (t : Text). slice_get names i ≡ Some t) (same_Some at_i.0 name (sym at_i.2 ∙ here.2)) at_i.1 in
    let at_second : slice_get names j ≡ Some name =
    subst (λ (t : Text). slice_get names j ≡ Some t) (same_Some at_j.0 name (sym at_j.2 ∙ there.2 ∙ ap Some called)) at_j.1 in
    one_chain names i j name different at_first at_second

-- two chains stand in a list of two
pub two_long : (names : List Text) (i j : ℕ) (list : List Value) (found : Option Data) → AreItems (map view list) found
    → AreChains names i j found → length list ≡ 2
two_long names i j list found items are =
    let listed = are.0 in
    let counted = as_many (IsChain names) (i ∷ j ∷ []) listed.0 listed.2 in
    let same = ap length (same_items listed.0 (map view list) found listed.1 items) in
    let mapped = length-map list view in
    omega (arith, counted, same, mapped)

two_items : (list : List Value) (first second : Value) → length list ≡ 2 → first ≡ get_or list 0 first → second ≡ get_or list 1 second
    → list ≡ first ∷ second ∷ []
two_items [] first second two one other = absurd (omega (arith, two))
two_items (x ∷ []) first second two one other = absurd (omega (arith, two))
two_items (x ∷ y ∷ []) first second two one other = (λ k. sym one k ∷ sym other k ∷ [])
two_items (x ∷ y ∷ z ∷ list) first second two one other = absurd (omega (arith, two))

-- and each is the one that its value names
pub chains_of : (names : List Text) (i j : ℕ) (list : List Value) (first second : Value) (found : Option Data) → AreItems (map view list) found
    → first ≡ get_or list 0 first → second ≡ get_or list 1 second → AreChains names i j found
    → IsChain names i (Some (view first)) × IsChain names j (Some (view second))
chains_of names i j list first second found items one other are =
    let listed = are.0 in
    let both = two_items list first second (two_long names i j list found items are) one other in
    let same : listed.0 ≡ view first ∷ view second ∷ [] =
    same_items listed.0 (map view list) found listed.1 items ∙ ap (map view) both in
    let each = subst (λ (l : List Data). AreEach (IsChain names) (i ∷ j ∷ []) l) same listed.2 in
    (each.0, each.1.0)

-- the first of some values
pub first_item : (d : Data) (ds : List Data) (list : List Value) (value : Value) (found : Option Data) → AreItems (d ∷ ds) found
    → AreItems (map view list) found → value ≡ get_or list 0 value → d ≡ view value
first_item d ds [] value found own items read = absurd (let same = same_items (d ∷ ds) [] found own items in cc)
first_item d ds (v ∷ list) value found own items read =
    ap (λ (l : List Data). get_or l 0 d) (same_items (d ∷ ds) (view v ∷ map view list) found own items) ∙ ap view (sym read)
