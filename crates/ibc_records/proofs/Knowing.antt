-- A client knows a height just where it holds a consensus state of it.
use Rattle.std.proofs.Common.{◌≡◌, ℕ, true, false, ◌||◌, eqb, eq-eqb, ne_eqb, cond, is_eq, is_some, Ordering, Less, Equal, Greater, [], ◌∷◌, refl, sym, ap, ◌∙◌, Option, Some, None, Bor, option_copied, option_map, option_and_then}
use Rattle.std.specs.Option.{option_map_or}
use Rattle.std.specs.Cmp.{nat_cmp_is}
use Rattle.std.specs.Map.{keys_of}
use Rattle.std.specs.Ordering.{nat_cmp}
use Rattle.std.proofs.lemmas.Map.Lookups.{exact_unsigned}
use Rattle.ibc_ids.specs.Texts.{Text, text_cmp}
use Rattle.ibc_ids.specs.Maps.{Map, at}
use Rattle.ibc_ids.proofs.Maps.{at-map_values}
use Rattle.ibc_machine.specs.chain.Records.{Client, is_known_height, is_one_of}
use Rattle.ibc_records.specs.ClientModels.{ClientModel, abstract_client}
use Rattle.ibc_records.specs.RecordsModel.{RecordsModel, core_of, consensus_in}

same_number : (n m : ℕ) → eqb m n ≡ is_eq (nat_cmp n m)
same_number n m = go (nat_cmp n m) refl
  where
    not_less : nat_cmp n m ≡ Less → m ≡ n → ⊥
    not_less is same = let e : Less ≡ Equal = sym is ∙ ap (λ k. nat_cmp n k) same ∙ sym (nat_cmp_is n n Equal refl) in absurd (cc)

    not_greater : nat_cmp n m ≡ Greater → m ≡ n → ⊥
    not_greater is same = let e : Greater ≡ Equal = sym is ∙ ap (λ k. nat_cmp n k) same ∙ sym (nat_cmp_is n n Equal refl) in absurd (cc)

    go : (o : Ordering) → nat_cmp n m ≡ o → eqb m n ≡ is_eq o
    go Equal is = eq-eqb m n (sym (exact_unsigned n m is))
    go Less is = ne_eqb m n (not_less is)
    go Greater is = ne_eqb m n (not_greater is)

-- a number is one of a map's keys just where the map has a value there
pub is_key_of : {X : Type 0} (n : ℕ) (entries : Map ℕ X) → is_one_of (keys_of entries) n ≡ is_some (at nat_cmp n entries)
is_key_of n [] = refl
is_key_of {X} n (e ∷ entries) =
    ap (λ b. b || is_one_of (keys_of entries) n) (same_number n e.0) ∙ elim (is_eq (nat_cmp n e.0)) as (λ b. (b || is_one_of (keys_of entries) n) ≡ is_some (cond b (Some e.1) (at nat_cmp n entries))) [
      | true ↦ refl
      | false ↦ is_key_of n entries
    ]

pub knows-held : (held : RecordsModel) (client : Text) (height : ℕ) → is_known_height (core_of held) client height ≡ is_some (consensus_in held client height)
knows-held held client height =
    ap (λ o. option_map_or (λ (c : Client). is_one_of c.known height) o false) (at-map_values text_cmp abstract_client client held.clients)
    ∙ go (at text_cmp client held.clients)
  where
    go : (o : Option ClientModel) → option_map_or (λ (c : Client). is_one_of c.known height) (option_map abstract_client o) false
        ≡ is_some (option_and_then (λ (c : ClientModel). at nat_cmp height c.known) o)
    go None = refl
    go (Some c) = is_key_of height c.known

-- a loan stands just where there is a value
pub is_some-copied : {X : Type 0} (o : Option (Bor X)) → is_some (option_copied o) ≡ is_some o
is_some-copied None = refl
is_some-copied (Some x) = refl
