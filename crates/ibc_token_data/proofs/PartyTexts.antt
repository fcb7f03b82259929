-- Memo, receiver and sender are cut out of their spelling, and of no other text.
use Rattle.std.proofs.Common.{◌≡◌, ℕ, true, ◌&&◌, [], ◌∷◌, ◌++◌, Option, Some, None, codes, option_map, refl, ap, ◌∙◌}
use Rattle.std.proofs.lemmas.Bool.{and_parts}
use Rattle.ibc_ids.specs.Texts.{Text}
use Rattle.ibc_ids.specs.Names.{is_memo, is_receiver, is_user}
use Rattle.ibc_wire.specs.Reading.{◌>>=◌}
use Rattle.ibc_machine.proofs.QuotedTexts.{Clear, clear_made}
use Rattle.ibc_token_data.specs.Cutting.{behind, value_behind, only_if, with_rest, memo_found, memo_at, pair_at, are_parties, parties_behind}
use Rattle.ibc_token_data.proofs.Cuts.{step_is, some_is, only_if_is, behind_self, behind_is, value_self, value_is}

unfoldable pub memo_text : Text → Text → Text
memo_text [] rest = rest
memo_text (c ∷ cs) rest = codes "\"memo\":\"" ++ ((c ∷ cs) ++ 34 ∷ 44 ∷ rest)

abbrev pub parties_front : Text → Text → Text → Text → Text
parties_front memo receiver sender rest =
    memo_text memo (codes "\"receiver\":\"" ++ (receiver ++ 34 ∷ (codes ",\"sender\":\"" ++ (sender ++ 34 ∷ rest))))

memo_is : (text memo rest : Text) → memo_at text ≡ Some (memo, rest) → text ≡ memo_text memo rest
unfolding memo_text
memo_is text memo rest e = go (value_behind (codes "\"memo\":\"") text) refl e
  where
    comma : (c : ℕ) (cs after : Text) → value_behind (codes "\"memo\":\"") text ≡ Some (c ∷ cs, after) → (o : Option Text) → behind (codes ",") after ≡ o
        → option_map (with_rest (c ∷ cs)) o ≡ Some (memo, rest) → text ≡ memo_text memo rest
    comma c cs after is None step e = absurd (cc e)
    comma c cs after is (Some next) step e =
        let all = some_is e in
        let name : c ∷ cs ≡ memo = ap (λ (x : Text × Text). x.0) all in
        let back : next ≡ rest = ap (λ (x : Text × Text). x.1) all in
        value_is (codes "\"memo\":\"") text (c ∷ cs) after is
        ∙ ap (λ t. codes "\"memo\":\"" ++ ((c ∷ cs) ++ 34 ∷ t)) (behind_is (codes ",") after next step)
        ∙ (λ i. memo_text (name i) (back i))

    go : (o : Option (Text × Text)) → value_behind (codes "\"memo\":\"") text ≡ o → memo_found text o ≡ Some (memo, rest) → text ≡ memo_text memo rest
    go None is e =
        let all = some_is e in
        let name : [] ≡ memo = ap (λ (x : Text × Text). x.0) all in
        let back : text ≡ rest = ap (λ (x : Text × Text). x.1) all in
        back ∙ ap (λ m. memo_text m rest) name
    go (Some ([], after)) is e = absurd (cc e)
    go (Some (c ∷ cs, after)) is e = comma c cs after is (behind (codes ",") after) refl e

memo_self : (memo rest : Text) → Clear memo → memo_at (memo_text memo (codes "\"receiver\":\"" ++ rest)) ≡ Some (memo, codes "\"receiver\":\"" ++ rest)
unfolding memo_text behind
memo_self [] rest clear = refl
memo_self (c ∷ cs) rest clear =
    let start : Text = codes "\"receiver\":\"" ++ rest in
    ap (memo_found (memo_text (c ∷ cs) start)) (value_self (codes "\"memo\":\"") (c ∷ cs) (44 ∷ start) clear)

pub parties_is : (front text memo receiver sender rest : Text) → parties_behind front text ≡ Some (memo, receiver, sender, rest) → text ≡ front ++ parties_front memo receiver sender rest
parties_is front text memo receiver sender rest e =
    let all : Text × Text × Text × Text = (memo, receiver, sender, rest) in
    let start = step_is (behind front text) _ all e in
    let one = step_is (memo_at start.0) _ all start.2 in
    let pair = step_is (pair_at one.0.1) _ all one.2 in
    let two = step_is (value_behind (codes "\"receiver\":\"") one.0.1) _ pair.0 pair.1 in
    let three = step_is (value_behind (codes ",\"sender\":\"") two.0.1) _ pair.0 two.2 in
    let whole = (only_if_is (are_parties one.0.0 pair.0.0 pair.0.1) (one.0.0, pair.0.0, pair.0.1, pair.0.2) all pair.2).1 in
    let inner = some_is three.2 in
    let a : one.0.0 ≡ memo = ap (λ (x : Text × Text × Text × Text). x.0) whole in
    let b : two.0.0 ≡ receiver = ap (λ (x : Text × Text × Text). x.0) inner ∙ ap (λ (x : Text × Text × Text × Text). x.1) whole in
    let c : three.0.0 ≡ sender = ap (λ (x : Text × Text × Text). x.1) inner ∙ ap (λ (x : Text × Text × Text × Text). x.2) whole in
    let d : three.0.1 ≡ rest = ap (λ (x : Text × Text × Text). x.2) inner ∙ ap (λ (x : Text × Text × Text × Text). x.3) whole in
    let last : two.0.1 ≡ codes ",\"sender\":\"" ++ (sender ++ 34 ∷ rest) =
    value_is (codes ",\"sender\":\"") two.0.1 three.0.0 three.0.1 three.1 ∙ (λ i. codes ",\"sender\":\"" ++ (c i ++ 34 ∷ d i)) in
    let both_last : one.0.1 ≡ codes "\"receiver\":\"" ++ (receiver ++ 34 ∷ (codes ",\"sender\":\"" ++ (sender ++ 34 ∷ rest))) =
    value_is (codes "\"receiver\":\"") one.0.1 two.0.0 two.0.1 two.1 ∙ (λ i. codes "\"receiver\":\"" ++ (b i ++ 34 ∷ last i)) in
    behind_is front text start.0 start.1
    ∙ ap (λ t. front ++ t) (memo_is start.0 one.0.0 one.0.1 one.1 ∙ (λ i. memo_text (a i) (both_last i)))

pub parties_self : (front memo receiver sender rest : Text) → are_parties memo receiver sender ≡ true
    → parties_behind front (front ++ parties_front memo receiver sender rest) ≡ Some (memo, receiver, sender, rest)
parties_self front memo receiver sender rest good =
    let two = and_parts (is_memo memo && is_receiver receiver) (is_user sender) good in
    let one = and_parts (is_memo memo) (is_receiver receiver) two.0 in
    let last : Text = codes ",\"sender\":\"" ++ (sender ++ 34 ∷ rest) in
    let pair : Text = receiver ++ 34 ∷ last in
    let both_read : pair_at (codes "\"receiver\":\"" ++ pair) ≡ Some (receiver, sender, rest) =
    ap (λ (o : Option (Text × Text)). o >>= λ y. value_behind (codes ",\"sender\":\"") y.1 >>= λ z. Some (y.0, z.0, z.1))
    (value_self (codes "\"receiver\":\"") receiver last (clear_made _ refl 1 64 receiver one.1))
    ∙ ap (λ (o : Option (Text × Text)). o >>= λ z. Some (receiver, z.0, z.1)) (value_self (codes ",\"sender\":\"") sender rest (clear_made _ refl 1 32 sender two.1)) in
    ap (λ (o : Option Text). o >>= λ start. memo_at start >>= λ x. pair_at x.1 >>= λ y. only_if (are_parties x.0 y.0 y.1) (x.0, y.0, y.1, y.2))
    (behind_self front (memo_text memo (codes "\"receiver\":\"" ++ pair)))
    ∙ ap (λ (o : Option (Text × Text)). o >>= λ x. pair_at x.1 >>= λ y. only_if (are_parties x.0 y.0 y.1) (x.0, y.0, y.1, y.2)) (memo_self memo pair (clear_made _ refl 0 256 memo one.0))
    ∙ ap (λ (o : Option (Text × Text × Text)). o >>= λ y. only_if (are_parties memo y.0 y.1) (memo, y.0, y.1, y.2)) both_read
    ∙ ap (λ b. only_if b (memo, receiver, sender, rest)) good
