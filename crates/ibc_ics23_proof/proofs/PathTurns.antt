-- The turns of a path, read from its operations.
use Rattle.std.proofs.Common.{◌≡◌, ℕ, suc, ◌-◌, ◌<◌, ◌≤◌, Bool, true, false, ◌&&◌, not, List, [], ◌∷◌, length, get_or, take, map, reverse, refl, sym, ap, ap₂, ◌∙◌, arith}
use Rattle.std.specs.Bool.{beq}
use Rattle.std.specs.List.{list_all}
use Rattle.std.proofs.Math.Seq.{take-suc}
use Rattle.std.proofs.lemmas.List.{map-append, reverse-append}
use Rattle.std.proofs.lemmas.List.Folds.{list_all-append, list_all-map}
use Rattle.ibc_merkle.specs.Proofs.{goes_left, only_left, only_right, are_adjacent}
use Rattle.ibc_merkle.specs.declared.proof.Operation.{Operation}
use Rattle.ibc_merkle.proofs.LeafPaths.{reverse_cons}

-- whether the path goes left, from the root down
abbrev pub turns_of : List Operation → List Bool
turns_of operations = reverse (map goes_left operations)

and_swap : (a b : Bool) → (a && (b && true)) ≡ (b && a)
and_swap true true = refl
and_swap true false = refl
and_swap false true = refl
and_swap false false = refl

list_all-turned : {A : Type 0} (test : A → Bool) (xs : List A) → list_all test (reverse xs) ≡ list_all test xs
list_all-turned test [] = refl
list_all-turned test (x ∷ xs) =
    ap (list_all test) (reverse_cons x xs) ∙ list_all-append test (reverse xs) (x ∷ []) ∙ ap (λ b. b && (test x && true)) (list_all-turned test xs) ∙ and_swap (list_all test xs) (test x)

pub only_left_turns : (operations : List Operation) → only_left (turns_of operations) ≡ list_all goes_left operations
only_left_turns operations = list_all-turned (λ left. left) (map goes_left operations) ∙ list_all-map (λ left. left) goes_left operations

pub only_right_turns : (operations : List Operation) → only_right (turns_of operations) ≡ list_all (λ operation. not (goes_left operation)) operations
only_right_turns operations = list_all-turned not (map goes_left operations) ∙ list_all-map not goes_left operations

-- ---- one turn more

turns-more : (operations : List Operation) (i : ℕ) (o : Operation) → i < length operations → turns_of (take (suc i) operations) ≡ goes_left (get_or operations i o) ∷ turns_of (take i operations)
turns-more operations i o l =
    ap turns_of (take-suc operations i o l)
    ∙ ap reverse (map-append goes_left (take i operations) (get_or operations i o ∷ []))
    ∙ reverse-append (map goes_left (take i operations)) (goes_left (get_or operations i o) ∷ [])

other_turn : (a b : Bool) (left right : List Bool) → (a ≡ b → ⊥) → are_adjacent (a ∷ left) (b ∷ right) ≡ (a && (only_right left && only_left right))
other_turn true true left right n = absurd (n refl)
other_turn false false left right n = absurd (n refl)
other_turn true false left right n = refl
other_turn false true left right n = refl

pub none_right : (left : List Bool) → are_adjacent left [] ≡ false
none_right [] = refl
none_right (true ∷ left) = refl
none_right (false ∷ left) = refl

-- ---- the turns of two paths at two places

part_at : (left right : List Operation) (i j : ℕ) (o p : Operation) → i < length left → j < length right → (goes_left (get_or left i o) ≡ goes_left (get_or right j p) → ⊥)
    → are_adjacent (turns_of (take (suc i) left)) (turns_of (take (suc j) right)) ≡ (goes_left (get_or left i o) && (only_right (turns_of (take i left)) && only_left (turns_of (take j right))))
part_at left right i j o p l m n = ap₂ are_adjacent (turns-more left i o l) (turns-more right j p m) ∙ other_turn _ _ (turns_of (take i left)) (turns_of (take j right)) n

unlike : (a b : Bool) → not (beq a b) ≡ true → a ≡ b → ⊥
unlike true true h e = absurd (cc)
unlike false false h e = absurd (cc)
unlike true false h e = absurd (cc)
unlike false true h e = absurd (cc)

-- before the places where the paths part
pub parts_here : (left right : List Operation) (lefts rights : ℕ) (o p : Operation) → 0 < lefts → lefts ≤ length left → 0 < rights → rights ≤ length right
    → o ≡ get_or left (lefts - 1) o → p ≡ get_or right (rights - 1) p → not (beq (goes_left o) (goes_left p)) ≡ true
    → are_adjacent (turns_of (take lefts left)) (turns_of (take rights right))
    ≡ (goes_left o && (list_all (λ operation. not (goes_left operation)) (take (lefts - 1) left) && list_all goes_left (take (rights - 1) right)))
parts_here left right lefts rights o p some_left left_within some_right right_within is_o is_p apart =
    let i = lefts - 1 in
    let j = rights - 1 in
    let differ : goes_left (get_or left i o) ≡ goes_left (get_or right j p) → ⊥ = λ e. unlike (goes_left o) (goes_left p) apart (ap goes_left is_o ∙ e ∙ ap goes_left (sym is_p)) in
    ap₂ (λ n m. are_adjacent (turns_of (take n left)) (turns_of (take m right))) (let e : lefts ≡ suc i = omega arith in e) (let e : rights ≡ suc j = omega arith in e)
    ∙ part_at left right i j o p (omega arith) (omega arith) differ
    ∙ ap₂ (λ turn rest. turn && rest) (ap goes_left (sym is_o)) (ap₂ ◌&&◌ (only_right_turns (take i left)) (only_left_turns (take j right)))
