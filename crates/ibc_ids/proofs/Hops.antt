-- A hop before a denomination, and a denomination without its first hop, are denominations.
use Rattle.std.proofs.Common.{◌≡◌, ◌≢◌, ◌≤◌, ◌+◌, true, false, ◌&&◌, nat_le, refl, codes, List, ◌∷◌, ◌++◌, length, drop, Option, Some, None, Bor, ap, ⊎_elim, sym, ◌∙◌, arith, le-leb, leb-true, length-append, append_assoc}
use Rattle.std.specs.Prelude.{IsTrue, MatchOption}
use Rattle.std.specs.List.{slice_split}
use Rattle.std.proofs.lemmas.Bool.{and_parts, and_from, cases_Bool}
use Rattle.std.proofs.lemmas.Bool.Decides.{Decides-eqb}
use Rattle.std.proofs.lemmas.Slice.Eq.{starts_is}
use Rattle.std.proofs.lemmas.List.{append_cancel_left}
use Rattle.ibc_ids.specs.Texts.{Text}
use Rattle.ibc_ids.specs.Names.{is_port, is_channel, is_slash, are_hops_and_base, is_denom, hop, came_over}
use Rattle.ibc_ids.proofs.Paths.{port_clear, channel_clear}
use Rattle.ibc_ids.proofs.KeyParts.{part_then}

pub hop_parts : (port channel rest : Text) → hop port channel ++ rest ≡ port ++ 47 ∷ (channel ++ 47 ∷ rest)
hop_parts port channel rest =
    append_assoc (port ++ codes "/" ++ channel) (codes "/") rest ∙ append_assoc (port ++ codes "/") channel (47 ∷ rest)
    ∙ append_assoc port (codes "/") (channel ++ 47 ∷ rest)

pub hop_length : (port channel rest : Text) → length (hop port channel ++ rest) ≡ length port + length channel + length rest + 2
hop_length port channel rest =
    let whole = ap length (hop_parts port channel rest) in
    let first = length-append port (47 ∷ (channel ++ 47 ∷ rest)) in
    let second = length-append channel (47 ∷ rest) in
    omega (arith, whole, first, second)

hop_split : (port channel rest : Text) → is_port port ≡ true → is_channel channel ≡ true → slice_split is_slash (hop port channel ++ rest) ≡ port ∷ channel ∷ slice_split is_slash rest
hop_split port channel rest p c =
    ap (slice_split is_slash) (hop_parts port channel rest) ∙ part_then port (channel ++ 47 ∷ rest) (port_clear port p)
    ∙ ap (λ (t : List Text). port ∷ t) (part_then channel rest (channel_clear channel c))

-- with a hop before it
pub longer_is_one : (port channel denom : Text) → IsTrue (is_port port) → IsTrue (is_channel channel) → IsTrue (is_denom denom) → length (hop port channel ++ denom) ≤ 256 → IsTrue (is_denom (hop port channel ++ denom))
longer_is_one port channel denom p c d few =
    let parts = and_parts (nat_le (length denom) 256) (are_hops_and_base (slice_split is_slash denom)) d in
    let both = and_from (is_port port && is_channel channel) (are_hops_and_base (slice_split is_slash denom)) (and_from (is_port port) (is_channel channel) p c) parts.1 in
    and_from (nat_le (length (hop port channel ++ denom)) 256) (are_hops_and_base (slice_split is_slash (hop port channel ++ denom))) (le-leb (length (hop port channel ++ denom)) 256 few)
    (ap are_hops_and_base (hop_split port channel denom p c) ∙ both)

-- without it
pub rest_is_one : (port channel rest : Text) → IsTrue (is_port port) → IsTrue (is_channel channel) → IsTrue (is_denom (hop port channel ++ rest)) → IsTrue (is_denom rest)
rest_is_one port channel rest p c d =
    let parts = and_parts (nat_le (length (hop port channel ++ rest)) 256) (are_hops_and_base (slice_split is_slash (hop port channel ++ rest))) d in
    let few = leb-true (length (hop port channel ++ rest)) 256 parts.0 in
    let long = hop_length port channel rest in
    let inner = and_parts (is_port port && is_channel channel) (are_hops_and_base (slice_split is_slash rest)) (sym (ap are_hops_and_base (hop_split port channel rest p c)) ∙ parts.1) in
    and_from (nat_le (length rest) 256) (are_hops_and_base (slice_split is_slash rest)) (le-leb (length rest) 256 (omega arith)) inner.1

-- ---- what came over a channel has its hop in front, and nothing else has

pub came_over_is : (port channel denom : Text) → came_over port channel denom ≡ true → denom ≡ hop port channel ++ drop (length (hop port channel)) denom
came_over_is port channel denom e = (starts_is Decides-eqb denom (hop port channel) (came_over port channel denom) refl).0 e

pub came_over_by : (port channel rest : Text) → came_over port channel (hop port channel ++ rest) ≡ true
came_over_by port channel rest =
    (starts_is Decides-eqb (hop port channel ++ rest) (hop port channel) (came_over port channel (hop port channel ++ rest)) refl).1 rest refl

pub not_over : (port channel denom : Text) → ((rest : Text) → denom ≢ hop port channel ++ rest) → came_over port channel denom ≡ false
not_over port channel denom never = ⊎_elim (λ e. absurd (never _ (came_over_is port channel denom e))) (λ e. e) (cases_Bool (came_over port channel denom))

-- ---- what stands behind a name and a slash, and behind a port and a channel

pub behind_slash : (text front rest : Text) (r : Option (Bor Text)) → text ≡ front ++ rest → MatchOption r ((last : Text) → rest ≢ 47 ∷ last) (λ x. rest ≡ 47 ∷ x.now)
    → MatchOption r ((last : Text) → text ≢ front ++ 47 ∷ last) (λ x. text ≡ front ++ 47 ∷ x.now)
behind_slash text front rest None is never = λ last e. never last (append_cancel_left front rest (47 ∷ last) (sym is ∙ e))
behind_slash text front rest (Some x) is found = is ∙ ap (λ (t : Text). front ++ t) found

pub behind_both : (denom port channel rest : Text) (r : Option (Bor Text)) → denom ≡ port ++ 47 ∷ rest → MatchOption r ((last : Text) → rest ≢ channel ++ 47 ∷ last) (λ x. rest ≡ channel ++ 47 ∷ x.now)
    → MatchOption r (came_over port channel denom ≡ false) (λ x. denom ≡ hop port channel ++ x.now)
behind_both denom port channel rest None is never = not_over port channel denom step where
  step : (last : Text) → denom ≢ hop port channel ++ last
  step last e =
      let longer : 47 ∷ rest ≡ 47 ∷ (channel ++ 47 ∷ last) = append_cancel_left port _ _ (sym is ∙ e ∙ hop_parts port channel last) in
      let same : rest ≡ channel ++ 47 ∷ last = cc in
      never last same
behind_both denom port channel rest (Some x) is found = is ∙ ap (λ (t : Text). port ++ 47 ∷ t) found ∙ sym (hop_parts port channel x.now)
