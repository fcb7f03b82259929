-- Tokens that are read one behind another.
use Rattle.std.proofs.Common.{◌≡◌, ℕ, Global, Vec, ◌<◌, ◌≤◌, ◌+◌, ◌-◌, suc, Bool, true, false, ◌&&◌, ◌||◌, List, [], ◌∷◌, ◌++◌, length, Option, Some, None, Err, codes, option_map, if◌then◌else◌, refl, sym, ap, ◌∙◌, arith, append_assoc, length-append}
use Rattle.std.specs.Option.{option_map_or}
use Rattle.std.specs.Ordering.{is_lt}
use Rattle.ibc_ids.specs.Texts.{Text, same_text, text_cmp}
use Rattle.ibc_wire.specs.Reading.{◌>>=◌}
use Rattle.ibc_wire.specs.declared.token.Token.{Token}
use Rattle.ibc_machine.specs.ics20.TokenData.{Data, is_token}
use Rattle.ibc_token_data.specs.declared.fault.TokenDataFault.{TokenDataFault}
use Rattle.ibc_token_data.specs.declared.fault.TokenDataFault.TheVariants.{NotData, NoMemory}
use Rattle.ibc_token_data.specs.AbstractData.{abstract_data}
use Rattle.ibc_token_data.specs.Cutting.{Gives, only_if, behind, value_behind, amount_of_digits, token_at, token_of, tokens_in, is_row, parties_behind, told_with, several_told}

-- tokens before those that may be there
abbrev pub before : List Token → Option (List Token) → Option (List Token)
before xs o = option_map (λ tokens. xs ++ tokens) o

pub before_none : (o : Option (List Token)) → o ≡ before [] o
before_none None = refl
before_none (Some tokens) = refl

before_more : (xs : List Token) (t : Token) (o : Option (List Token)) → before xs (option_map (λ tokens. t ∷ tokens) o) ≡ before (xs ++ t ∷ []) o
before_more xs t None = refl
before_more xs t (Some tokens) = ap (λ l. Some l) (sym (append_assoc xs (t ∷ []) tokens))

module _ (n : ℕ) where
  abbrev next_of : Token → Text → Option (List Token)
  next_of token rest = behind (codes "},") rest >>= λ next. option_map (λ tokens. token ∷ tokens) (tokens_in n next)

  abbrev row_of : Text → Token → Option (List Token)
  row_of rest token = if same_text rest (codes "}]}") then Some (token ∷ []) else next_of token rest

  abbrev row : ℕ × Text × Text → Option (List Token)
  row found = token_of found.0 found.1 >>= row_of found.2

  one_row : (text : Text) → tokens_in (suc n) text ≡ (token_at text >>= row)
  unfolding tokens_in
  one_row text = refl

-- at least 8 tokens are too many
pub too_many : (whole : Option (List Token)) (xs : List Token) (rest : Text) → whole ≡ before xs (tokens_in (8 - length xs) rest) → length xs ≤ 8 → 8 ≤ length xs → whole ≡ None
unfolding tokens_in
too_many whole xs rest so_far most least =
    let none : 8 - length xs ≡ 0 = omega (arith, most, least) in
    so_far ∙ ap (λ n. before xs (tokens_in n rest)) none

module _ (whole : Option (List Token)) (xs : List Token) (rest : Text) (so_far : whole ≡ before xs (tokens_in (8 - length xs) rest)) (inside : length xs < 8) where
  left : ℕ
  left = 7 - length xs

  stepped : whole ≡ before xs (token_at rest >>= row left)
  unfolding left
  stepped =
      let fuel : 8 - length xs ≡ suc (7 - length xs) = omega (arith, inside) in
      so_far ∙ ap (λ n. before xs (tokens_in n rest)) fuel ∙ ap (before xs) (one_row (7 - length xs) rest)

  pub no_token : None ≡ token_at rest → whole ≡ None
  no_token none = stepped ∙ ap (λ (o : Option (ℕ × Text × Text)). before xs (o >>= row left)) (sym none)

  module _ (amount : ℕ) (denom next : Text) (found : Some (amount, denom, next) ≡ token_at rest) where
    with_token : whole ≡ before xs (token_of amount denom >>= row_of left next)
    with_token = stepped ∙ ap (λ (o : Option (ℕ × Text × Text)). before xs (o >>= row left)) (sym found)

    pub no_name : token_of amount denom ≡ None → whole ≡ None
    no_name none = with_token ∙ ap (λ (o : Option Token). before xs (o >>= row_of left next)) none

    module _ (t : Token) (named : token_of amount denom ≡ Some t) where
      with_name : whole ≡ before xs (row_of left next t)
      with_name = with_token ∙ ap (λ (o : Option Token). before xs (o >>= row_of left next)) named

      pub last_token : (ys : List Token) → ys ≡ xs ++ t ∷ [] → true ≡ same_text next (codes "}]}") → whole ≡ Some ys
      last_token ys pushed ends =
          with_name ∙ ap (λ b. before xs (if b then Some (t ∷ []) else next_of left t next)) (sym ends) ∙ ap (λ l. Some l) (sym pushed)

      goes_on : false ≡ same_text next (codes "}]}") → whole ≡ before xs (next_of left t next)
      goes_on on = with_name ∙ ap (λ b. before xs (if b then Some (t ∷ []) else next_of left t next)) (sym on)

      pub no_comma : false ≡ same_text next (codes "}]}") → None ≡ behind (codes "},") next → whole ≡ None
      no_comma on none =
          goes_on on ∙ ap (λ (o : Option Text). before xs (o >>= λ more. option_map (λ tokens. t ∷ tokens) (tokens_in left more))) (sym none)

      pub next_token : (ys : List Token) (more : Text) → ys ≡ xs ++ t ∷ [] → false ≡ same_text next (codes "}]}") → Some more ≡ behind (codes "},") next
          → whole ≡ before ys (tokens_in (8 - length ys) more)
      unfolding left
      next_token ys more pushed on step =
          let longer : length ys ≡ length xs + 1 = ap length pushed ∙ length-append xs (t ∷ []) in
          let fuel : 7 - length xs ≡ 8 - length ys = omega (arith, longer) in
          goes_on on ∙ ap (λ (o : Option Text). before xs (o >>= λ more. option_map (λ tokens. t ∷ tokens) (tokens_in left more))) (sym step)
          ∙ before_more xs t (tokens_in left more)
          ∙ (λ i. before (sym pushed i) (tokens_in (fuel i) more))

pub one_longer : (xs ys : List Token) (t : Token) → ys ≡ xs ++ t ∷ [] → length xs < 8 → length ys ≤ 8
one_longer xs ys t pushed inside =
    let longer : length ys ≡ length xs + 1 = ap length pushed ∙ length-append xs (t ∷ []) in
    omega (arith, longer, inside)

-- a fault that is passed on
pub fault_passes : {X Y : Type 0} (view : X → Y) (fault : TokenDataFault) (o : Option Token) (whole : Option Y) → Gives (λ token. token) (Err fault) o → (o ≡ None → whole ≡ None) → Gives view (Err fault) whole
fault_passes view NotData o whole none ends = ends none
fault_passes view NoMemory o whole none ends = tt

-- ---- rows that are only seen

module _ (n : ℕ) (last rest : Text) where
  abbrev seen : ℕ × Text × Text → Bool
  seen found =
      is_lt (text_cmp last found.1)
      && (same_text found.2 (codes "}]}") || option_map_or (is_row n found.1) (behind (codes "},") found.2) false)

  one_seen : is_row (suc n) last rest ≡ option_map_or seen (token_at rest) false
  unfolding is_row
  one_seen = refl

  pub no_row : None ≡ token_at rest → is_row (suc n) last rest ≡ false
  no_row none = one_seen ∙ ap (λ (o : Option (ℕ × Text × Text)). option_map_or seen o false) (sym none)

  module _ (amount : ℕ) (denom next : Text) (found : Some (amount, denom, next) ≡ token_at rest) where
    found_seen : is_row (suc n) last rest ≡ seen (amount, denom, next)
    found_seen = one_seen ∙ ap (λ (o : Option (ℕ × Text × Text)). option_map_or seen o false) (sym found)

    more_seen : Bool
    more_seen = same_text next (codes "}]}") || option_map_or (is_row n denom) (behind (codes "},") next) false

    pub falls : false ≡ is_lt (text_cmp last denom) → is_row (suc n) last rest ≡ false
    unfolding more_seen
    falls not_before = found_seen ∙ ap (λ b. b && more_seen) (sym not_before)

    module _ (before_it : true ≡ is_lt (text_cmp last denom)) where
      risen : is_row (suc n) last rest ≡ more_seen
      unfolding more_seen
      risen = found_seen ∙ ap (λ b. b && more_seen) (sym before_it)

      pub row_ends : true ≡ same_text next (codes "}]}") → is_row (suc n) last rest ≡ true
      unfolding more_seen
      row_ends ends = risen ∙ ap (λ b. b || option_map_or (is_row n denom) (behind (codes "},") next) false) (sym ends)

      module _ (on : false ≡ same_text next (codes "}]}")) where
        gone_on : is_row (suc n) last rest ≡ option_map_or (is_row n denom) (behind (codes "},") next) false
        unfolding more_seen
        gone_on = risen ∙ ap (λ b. b || option_map_or (is_row n denom) (behind (codes "},") next) false) (sym on)

        pub row_breaks : None ≡ behind (codes "},") next → is_row (suc n) last rest ≡ false
        row_breaks none = gone_on ∙ ap (λ (o : Option Text). option_map_or (is_row n denom) o false) (sym none)

        pub row_goes_on : (more : Text) → Some more ≡ behind (codes "},") next → is_row (suc n) last rest ≡ is_row n denom more
        row_goes_on more step = gone_on ∙ ap (λ (o : Option Text). option_map_or (is_row n denom) o false) (sym step)

-- what is still to be seen, where something is left
pub seen_so_far : (text last rest : Text) (left : ℕ) → 0 < left → is_row 8 [] text ≡ is_row left last rest → is_row 8 [] text ≡ is_row (suc (left - 1)) last rest
seen_so_far text last rest left some so_far =
    let one : left ≡ suc (left - 1) = omega (arith, some) in
    so_far ∙ ap (λ n. is_row n last rest) one

pub no_more : (last rest : Text) → is_row 0 last rest ≡ false
unfolding is_row
no_more last rest = refl

-- ---- one token

-- the steps that cut one
pub token_cut : (text digits behind_digits : Text) (amount : ℕ) (denom rest : Text) → Some (digits, behind_digits) ≡ value_behind (codes "{\"amount\":\"") text → Some amount ≡ amount_of_digits digits
    → Some (denom, rest) ≡ value_behind (codes ",\"denom\":\"") behind_digits → true ≡ is_token (record { denom = denom; amount = amount }) → Some (amount, denom, rest) ≡ token_at text
token_cut text digits behind_digits amount denom rest first second third good =
    ap (λ b. only_if b (amount, denom, rest)) good
    ∙ ap (λ (o : Option (Text × Text)). o >>= λ name. only_if (is_token (record { denom = name.0; amount = amount })) (amount, name.0, name.1)) third
    ∙ ap (λ (o : Option ℕ). o >>= λ n. value_behind (codes ",\"denom\":\"") behind_digits >>= λ name. only_if (is_token (record { denom = name.0; amount = n })) (n, name.0, name.1)) second
    ∙ ap (λ (o : Option (Text × Text)). o >>= λ cut. amount_of_digits cut.0 >>= λ n. value_behind (codes ",\"denom\":\"") cut.1 >>= λ name. only_if (is_token (record { denom = name.0; amount = n })) (n, name.0, name.1)) first

-- ---- the data of several

-- the same of a fault of their list
pub list_fault_passes : (fault : TokenDataFault) (o : Option (List Token)) (whole : Option Data) → Gives (λ (tokens : Vec Token Global). tokens.items) (Err fault) o → (o ≡ None → whole ≡ None) → Gives abstract_data (Err fault) whole
list_fault_passes NotData o whole none ends = ends none
list_fault_passes NoMemory o whole none ends = tt

-- no list stands behind the parties
pub several_unlisted : (text memo receiver sender rest : Text) → Some (memo, receiver, sender, rest) ≡ parties_behind (codes "{") text → None ≡ behind (codes ",\"tokens\":[") rest
    → several_told text ≡ None
several_unlisted text memo receiver sender rest parties step =
    let p : Text × Text × Text × Text = (memo, receiver, sender, rest) in
    ap (λ (o : Option (Text × Text × Text × Text)). o >>= λ x. behind (codes ",\"tokens\":[") x.3 >>= λ l. only_if (is_row 8 [] l) l >>= λ row. tokens_in 8 row >>= λ ts. told_with ts x) (sym parties)
    ∙ ap (λ (o : Option Text). o >>= λ l. only_if (is_row 8 [] l) l >>= λ row. tokens_in 8 row >>= λ ts. told_with ts p) (sym step)

module _ (text memo receiver sender rest list : Text) (parties : Some (memo, receiver, sender, rest) ≡ parties_behind (codes "{") text) (step : Some list ≡ behind (codes ",\"tokens\":[") rest) where
  abbrev with_row : Bool → Option Data
  with_row rises =
      only_if rises list >>= λ row. tokens_in 8 row >>= λ tokens. told_with tokens (memo, receiver, sender, rest)

  several_seen : several_told text ≡ with_row (is_row 8 [] list)
  several_seen =
      let p : Text × Text × Text × Text = (memo, receiver, sender, rest) in
      ap (λ (o : Option (Text × Text × Text × Text)). o >>= λ x. behind (codes ",\"tokens\":[") x.3 >>= λ l. only_if (is_row 8 [] l) l >>= λ row. tokens_in 8 row >>= λ ts. told_with ts x) (sym parties)
      ∙ ap (λ (o : Option Text). o >>= λ l. only_if (is_row 8 [] l) l >>= λ row. tokens_in 8 row >>= λ ts. told_with ts p) (sym step)

  pub several_falls : false ≡ is_row 8 [] list → several_told text ≡ None
  several_falls fallen = several_seen ∙ ap with_row (sym fallen)

  pub several_none : true ≡ is_row 8 [] list → tokens_in 8 list ≡ None → several_told text ≡ None
  several_none rises none =
      several_seen ∙ ap with_row (sym rises) ∙ ap (λ (o : Option (List Token)). o >>= λ ts. told_with ts (memo, receiver, sender, rest)) none

  pub several_found : (tokens : List Token) → true ≡ is_row 8 [] list → tokens_in 8 list ≡ Some tokens → told_with tokens (memo, receiver, sender, rest) ≡ several_told text
  several_found tokens rises row =
      sym
      (several_seen ∙ ap with_row (sym rises) ∙ ap (λ (o : Option (List Token)). o >>= λ ts. told_with ts (memo, receiver, sender, rest)) row)
