-- The plan, from the messages about packets and from the clients over which they go.
use Rattle.std.proofs.Common.{◌≡◌, ℕ, suc, ◌+◌, ◌<◌, nat_lt, length, length-append, Bool, true, false, cond, ◌&&◌, ◌||◌, not, List, [], ◌∷◌, ◌++◌, map, filter, refl, sym, ap, ◌∙◌, subst, Some, Ordering, Less, Equal, Greater, is_eq, is_some, eqb, arith, append_assoc}
use Rattle.std.specs.Cmp.{IsTotalOrder, tied_itself}
use Rattle.std.specs.Ordering.{ordering_reverse}
use Rattle.std.specs.List.{AllByRecursion, filter_map, flat_map}
use Rattle.std.proofs.lemmas.Bool.{le-ltb, lt-ltb}
use Rattle.std.proofs.lemmas.List.Elements.{filter_map-append}
use Rattle.std.proofs.lemmas.List.Folds.{list_any-append}
use Rattle.ibc_ids.specs.Texts.{Text, same_text, text_cmp}
use Rattle.ibc_ids.specs.Maps.{Map, at, with}
use Rattle.ibc_ids.proofs.Texts.{text_same, text_tied, text_ties, text_cmp_total, same_text_from}
use Rattle.ibc_wire.specs.declared.messages.Message.{Message}
use Rattle.ibc_machine.specs.chain.Records.{Client, Channel, is_one_of}
use Rattle.ibc_machine.specs.ics18.Relay.{View, Pending, pending, pending_at, pending_message, client_used, needs_update, update_of, plan, pending_if}
use Rattle.ibc_machine.proofs.Images.{at-with}
use Rattle.ibc_machine.proofs.SortedMaps.{Below, Sorted}
use Rattle.ibc_relayer.specs.declared.ends.Ends.{Ends}
use Rattle.ibc_relayer.specs.EndPairs.{IsEndPair}
use Rattle.ibc_relayer.specs.UsedClients.{is_over_client, has_any, AreUsed, is_to_update}

-- two tests of a text
pub same_is : (x y : Text) → same_text x y ≡ is_eq (text_cmp y x)
same_is x y = go (same_text x y) refl
  where
    apart : (o : Ordering) → text_cmp y x ≡ o → same_text x y ≡ false → false ≡ is_eq o
    apart Less is not_same = refl
    apart Greater is not_same = refl
    apart Equal is not_same = let e : true ≡ false = sym (same_text_from x y (sym (text_tied y x is))) ∙ not_same in absurd (cc)

    go : (b : Bool) → same_text x y ≡ b → b ≡ is_eq (text_cmp y x)
    go true e = sym (ap is_eq (subst (λ z. text_cmp y z ≡ Equal) (sym (text_same x y e)) (text_ties y)))
    go false e = apart (text_cmp y x) refl e

-- a client more is used
pub used_more : (client id : Text) (used : Map Text (Unit {0})) → is_some (at text_cmp id (with text_cmp client tt used)) ≡ (same_text client id || is_some (at text_cmp id used))
used_more client id used =
    ap is_some (at-with text_cmp text_cmp_total id client tt used)
    ∙ ap (λ (b : Bool). is_some (cond b (Some tt) (at text_cmp id used))) (sym (same_is client id))
    ∙ elim (same_text client id) as (λ b. is_some (cond b (Some tt) (at text_cmp id used)) ≡ (b || is_some (at text_cmp id used))) [ true ↦ refl | false ↦ refl ]

-- the test of a client, by what was found of it
pub told : (used some none known : Bool) → true ≡ used → some ≡ not none → known ≡ some → none ≡ (used && not known)
told true some true known u s k = ap not (sym (k ∙ s))
told true some false known u s k = ap not (sym (k ∙ s))
told false some none known u s k = absurd (cc)

filter_same : {X : Type 0} (p q : X → Bool) (xs : List X) → ((x : X) → p x ≡ q x) → filter p xs ≡ filter q xs
filter_same p q [] same = refl
filter_same p q (x ∷ xs) same = λ i. cond (same x i) (x ∷ filter_same p q xs same i) (filter_same p q xs same i)

-- at height 0 nothing is planned
filter_none : {X : Type 0} (p : X → Bool) (xs : List X) → ((x : X) → p x ≡ false) → filter p xs ≡ []
filter_none p [] none = refl
filter_none p (x ∷ xs) none = ap (λ (b : Bool). cond b (x ∷ filter p xs) (filter p xs)) (none x) ∙ filter_none p xs none

module _ (a b : View) where
  pub no_plan : a.height ≡ 0 → plan a b ≡ []
  unfolding plan pending
  no_plan none =
      let nothing : pending a b ≡ [] = ap (λ n. pending_if (not (eqb n 0)) (flat_map (pending_at a b) b.core.channels)) none in
      (λ i. map (update_of a) (filter (needs_update a b (nothing i)) b.core.clients) ++ filter_map (pending_message a b) (nothing i))
      ∙ ap (λ (clients : List (Text × Client)). map (update_of a) clients ++ []) (filter_none (needs_update a b []) b.core.clients (λ entry. refl))

  module _ (low : 0 < a.height) (used : Map Text (Unit {0})) where
    all_pending : pending a b ≡ flat_map (pending_at a b) b.core.channels
    unfolding pending
    all_pending = ap (λ c. pending_if (not c) (flat_map (pending_at a b) b.core.channels)) (not_zero a.height low)
      where
        not_zero : (n : ℕ) → 0 < n → eqb n 0 ≡ false
        not_zero n low = grind (arith, low)

    pub plan_is : AreUsed b (flat_map (pending_at a b) b.core.channels) used
        → map (update_of a) (filter (is_to_update a used) b.core.clients) ++ filter_map (pending_message a b) (flat_map (pending_at a b) b.core.channels) ≡ plan a b
    unfolding plan
    plan_is all =
        let rest = flat_map (pending_at a b) b.core.channels in
        ap (λ (clients : List (Text × Client)). map (update_of a) clients ++ filter_map (pending_message a b) rest)
        (filter_same (is_to_update a used) (needs_update a b rest) b.core.clients (λ entry. ap (λ c. c && not (is_one_of entry.1.known a.height)) (all entry.0)))
        ∙ ap (λ (ps : List Pending). map (update_of a) (filter (needs_update a b ps) b.core.clients) ++ filter_map (pending_message a b) ps) (sym all_pending)

-- a list is longer behind others just where there is one more
pub is_longer : (old new ms : List Message) → new ≡ old ++ ms → nat_lt (length old) (length new) ≡ has_any ms
is_longer old new [] is =
    let e : length new ≡ length old + 0 = ap length is ∙ length-append old [] in
    le-ltb (length old) (length new) (omega arith)
is_longer old new (m ∷ ms) is =
    let e : length new ≡ length old + suc (length ms) = ap length is ∙ length-append old (m ∷ ms) in
    lt-ltb (length old) (length new) (omega arith)

-- what is pending between two ends that were found
pub same_pending : (a b : View) (port channel : Text) (mine : Channel) (ends : Ends) → IsEndPair a b port channel mine ends
    → pending_at ends.a.now ends.b.now ((ends.port.now, ends.channel.now), ends.mine.now) ≡ pending_at a b ((port, channel), mine)
same_pending a b port channel mine ends are = λ i. pending_at (are.a_is i) (are.b_is i) ((are.port_is i, are.channel_is i), are.mine_is i)

pub same_messages : (a b : View) (port channel : Text) (mine : Channel) (ends : Ends) → IsEndPair a b port channel mine ends
    → filter_map (pending_message ends.a.now ends.b.now) (pending_at ends.a.now ends.b.now ((ends.port.now, ends.channel.now), ends.mine.now))
    ≡ filter_map (pending_message a b) (pending_at a b ((port, channel), mine))
same_messages a b port channel mine ends are = λ i. filter_map (pending_message (are.a_is i) (are.b_is i)) (same_pending a b port channel mine ends are i)

pub same_over : (a b : View) (port channel : Text) (mine : Channel) (ends : Ends) (id : Text) → IsEndPair a b port channel mine ends
    → is_over_client ends.b.now id (pending_at ends.a.now ends.b.now ((ends.port.now, ends.channel.now), ends.mine.now)) ≡ is_over_client b id (pending_at a b ((port, channel), mine))
same_over a b port channel mine ends id are = λ i. is_over_client (are.b_is i) id (same_pending a b port channel mine ends are i)

-- ---- one end more

module _ (a b : View) where
  abbrev planned : List ((Text × Text) × Channel) → List Message
  planned ends = filter_map (pending_message a b) (flat_map (pending_at a b) ends)

  -- the messages for an end are added
  pub one_end : (old new : List Message) (e : (Text × Text) × Channel) (rest : List ((Text × Text) × Channel)) {all : List Message} → old ++ planned (e ∷ rest) ≡ all
      → new ≡ old ++ filter_map (pending_message a b) (pending_at a b e) → new ++ planned rest ≡ all
  one_end old new e rest so_far added =
      ap (λ (ms : List Message). ms ++ planned rest) added
      ∙ append_assoc old (filter_map (pending_message a b) (pending_at a b e)) (planned rest)
      ∙ ap (λ (ms : List Message). old ++ ms) (sym (filter_map-append (pending_message a b) (pending_at a b e) (flat_map (pending_at a b) rest)))
      ∙ so_far

  -- no message is added for an end
  pub no_end : (old : List Message) (e : (Text × Text) × Channel) (rest : List ((Text × Text) × Channel)) {all : List Message} → old ++ planned (e ∷ rest) ≡ all
      → pending_at a b e ≡ [] → old ++ planned rest ≡ all
  no_end old e rest so_far none = ap (λ (ps : List Pending). old ++ filter_map (pending_message a b) (ps ++ flat_map (pending_at a b) rest)) (sym none) ∙ so_far

  turned : (x y z : Bool) → (y || (x || z)) ≡ ((x || y) || z)
  turned true true z = refl
  turned true false z = refl
  turned false true z = refl
  turned false false z = refl

  -- the client of an end is used
  pub one_used : (id : Text) (old new : Bool) (e : (Text × Text) × Channel) (rest : List ((Text × Text) × Channel)) {all : Bool} → (is_over_client b id (flat_map (pending_at a b) (e ∷ rest)) || old) ≡ all
      → new ≡ (is_over_client b id (pending_at a b e) || old) → (is_over_client b id (flat_map (pending_at a b) rest) || new) ≡ all
  one_used id old new e rest so_far added =
      let more = flat_map (pending_at a b) rest in
      ap (λ c. is_over_client b id more || c) added
      ∙ turned (is_over_client b id (pending_at a b e)) (is_over_client b id more) old
      ∙ ap (λ c. c || old) (sym (list_any-append (λ pend. same_text (client_used b pend) id) (pending_at a b e) more))
      ∙ so_far

  pub none_used : (id : Text) (old : Bool) (e : (Text × Text) × Channel) (rest : List ((Text × Text) × Channel)) {all : Bool} → (is_over_client b id (flat_map (pending_at a b) (e ∷ rest)) || old) ≡ all
      → pending_at a b e ≡ [] → (is_over_client b id (flat_map (pending_at a b) rest) || old) ≡ all
  none_used id old e rest so_far none = ap (λ (ps : List Pending). is_over_client b id (ps ++ flat_map (pending_at a b) rest) || old) (sym none) ∙ so_far

-- each entry of a map in order stands under its key
module _ {K V : Type 0} {order : K → K → Ordering} (total : IsTotalOrder order) where
  -- it is found behind a first one too
  behind : (first : K × V) (all es : Map K V) → Below order first.0 es → AllByRecursion (λ e. at order e.0 all ≡ Some e.1) es
      → AllByRecursion (λ e. at order e.0 (first ∷ all) ≡ Some e.1) es
  behind first all [] below there = tt
  behind first all (e ∷ es) below there = (
    ap (λ o. cond (is_eq o) (Some first.1) (at order e.0 all)) (total.antisymm e.0 first.0 ∙ ap ordering_reverse below.0) ∙ there.0,
    behind first all es below.1 there.1,
  )

  pub each_there : (es : Map K V) → Sorted order es → AllByRecursion (λ e. at order e.0 es ≡ Some e.1) es
  each_there [] sorted = tt
  each_there (e ∷ es) sorted =
      (ap (λ o. cond (is_eq o) (Some e.1) (at order e.0 es)) (tied_itself total e.0), behind e es es sorted.0 (each_there es sorted.1))
