-- Where packets stand in a history that gets longer, and that a packet is found at its place.
use Rattle.std.proofs.Common.{◌≡◌, ◌+◌, ℕ, suc, eqb, Bool, true, false, ◌&&◌, cond, is_eq, List, [], ◌∷◌, ◌++◌, length, refl, sym, ap, ◌∙◌, Some, None, Option, slice_get, option_and_then, option_map, arith}
use Rattle.std.proofs.lemmas.Bool.{and_parts, and_from, false≢true}
use Rattle.std.specs.List.{AllByRecursion, find, filter_map, cons_option, position_from}
use Rattle.std.specs.Option.{option_map_or, option_or}
use Rattle.std.specs.Ordering.{nat_cmp}
use Rattle.std.specs.Prelude.{◌==◌}
use Rattle.ibc_ids.proofs.Texts.{text_same, same_text_from}
use Rattle.ibc_ids.specs.Maps.{at, with}
use Rattle.ibc_ids.specs.Texts.{Text, same_text, pair_cmp}
use Rattle.ibc_machine.specs.promises.Histories.{Happened, End, is_end, packet_if, packet_from, sent_by, packet_sent, history_of}
use Rattle.ibc_machine.specs.ledger.Ledgers.{chain_of}
use Rattle.ibc_machine.specs.chain.Notes.{note_port, note_commitment}
use Rattle.ibc_machine.specs.chain.Records.{Channel, Commitment}
use Rattle.ibc_machine.specs.ics20.TokenData.{one_token, several_tokens}
use Rattle.ibc_machine.specs.ics20.Transfers.{transfer_port, transfer_commitment, transfer_data, transfer_many_data}
use Rattle.ibc_ledger.specs.SentNames.{commitment_in, SentName, sent_cmp, sent_name, is_named, Places, AreFirst, with_first}
use Rattle.ibc_wire.specs.declared.packet.Packet.{Packet}
use Rattle.std.proofs.lemmas.Map.Lookups.{exact_pairs}
use Rattle.ibc_machine.proofs.FiniteMaps.{TellsApart, by_number, by_pair, at-with, same_key}
use Rattle.ibc_wire.specs.declared.messages.Message.TheVariants as message
use Rattle.ibc_machine.specs.declared.event.Event.TheVariants as event
use Rattle.ibc_machine.specs.declared.reply.Effect.TheVariants as effect
use Rattle.ibc_machine.specs.declared.reply.Reply.TheVariants as reply

pub by_sent_name : TellsApart sent_cmp
by_sent_name = record {
  self = λ k. rw (by_pair.self k.0, by_number.self k.1);
  exact = λ x y e. exact_pairs pair_cmp nat_cmp by_pair.exact by_number.exact x y e;
}

-- ---- a longer history

pushed : {A : Type 0} (test : A → Bool) (i : ℕ) (xs : List A) (x : A) (b : Bool)
    → position_from test (i + 1) (xs ++ x ∷ []) ≡ option_or (position_from test (i + 1) xs) (cond (test x) (Some (i + 1 + length xs)) None)
    → cond b (Some i) (position_from test (i + 1) (xs ++ x ∷ [])) ≡ option_or (cond b (Some i) (position_from test (i + 1) xs)) (cond (test x) (Some (i + suc (length xs))) None)
pushed test i xs x true rest = refl
pushed test i xs x false rest =
    let e : i + 1 + length xs ≡ i + suc (length xs) = omega arith in
    rest ∙ ap (λ n. option_or (position_from test (i + 1) xs) (cond (test x) (Some n) None)) e

position_last : {A : Type 0} (test : A → Bool) (i : ℕ) (xs : List A) (x : A)
    → position_from test i (xs ++ x ∷ []) ≡ option_or (position_from test i xs) (cond (test x) (Some (i + length xs)) None)
position_last test i [] x = ap (λ n. cond (test x) (Some n) None) (let e : i ≡ i + 0 = omega arith in e)
position_last test i (y ∷ xs) x = pushed test i xs x (test y) (position_last test (i + 1) xs x)

module _ (places : Places) (happened : List Happened) (first : AreFirst places happened) (h : Happened) where
  -- what a name has afterwards, by what it had before
  abbrev Later : SentName → Option ℕ → Type 0
  Later q found = found ≡ option_or (at sent_cmp q places) (cond (is_named q h) (Some (length happened)) None)

  none_more : (o : Option ℕ) → o ≡ option_or o None
  none_more (Some n) = refl
  none_more None = refl

  put_first : (k : SentName) (q : SentName) (b : Bool) → is_eq (sent_cmp q k) ≡ b → (o : Option ℕ) → at sent_cmp k places ≡ o
      → at sent_cmp q (elim o [ Some first ↦ places | None ↦ with sent_cmp k (length happened) places ])
      ≡ option_or (at sent_cmp q places) (cond b (Some (length happened)) None)
  put_first k q true is (Some n) there =
      let same = ap (λ x. at sent_cmp x places) (same_key by_sent_name q k is) ∙ there in
      same ∙ ap (λ o. option_or o (Some (length happened))) (sym same)
  put_first k q false is (Some n) there = none_more (at sent_cmp q places)
  put_first k q true is None there =
      let none = ap (λ x. at sent_cmp x places) (same_key by_sent_name q k is) ∙ there in
      at-with by_sent_name k q (length happened) places ∙ ap (λ b. cond b (Some (length happened)) (at sent_cmp q places)) is
      ∙ ap (λ o. option_or o (Some (length happened))) (sym none)
  put_first k q false is None there =
      at-with by_sent_name k q (length happened) places ∙ ap (λ b. cond b (Some (length happened)) (at sent_cmp q places)) is
      ∙ none_more (at sent_cmp q places)

  put : (name : Option SentName) (q : SentName)
      → at sent_cmp q (with_first name (length happened) places)
      ≡ option_or (at sent_cmp q places) (cond (option_map_or (λ other. is_eq (sent_cmp q other)) name false) (Some (length happened)) None)
  put None q = none_more (at sent_cmp q places)
  put (Some k) q = put_first k q (is_eq (sent_cmp q k)) refl (at sent_cmp k places) refl

  pub first_more : AreFirst (with_first (sent_name h) (length happened) places) (happened ++ h ∷ [])
  first_more q =
      put (sent_name h) q ∙ ap (λ o. option_or o (cond (is_named q h) (Some (length happened)) None)) (first q)
      ∙ ap (λ n. option_or (position_from (is_named q) 0 happened) (cond (is_named q h) (Some n) None)) (let e : length happened ≡ 0 + length happened = omega arith in e)
      ∙ sym (position_last (is_named q) 0 happened h)

-- ---- what is found at a place

-- the first item that gives something that passes gives it at the first place that tells so
module _ {A B : Type 0} (gives : A → Option B) (passes : B → Bool) (tells : A → Bool) where
  abbrev Tells : A → Type 0
  Tells x = option_map_or passes (gives x) false ≡ tells x

  module _ (look : ℕ → Option A) (k : ℕ) (x : A) (xs : List A) (here : look k ≡ Some x)
      (rest : find passes (filter_map gives xs) ≡ option_and_then (λ i. option_and_then gives (look i)) (position_from tells (k + 1) xs)) where
    abbrev At : Bool → Option B
    At b = option_and_then (λ i. option_and_then gives (look i)) (cond b (Some k) (position_from tells (k + 1) xs))

    by_passing : (y : B) → gives x ≡ Some y → (b : Bool) → cond b (Some y) (find passes (filter_map gives xs)) ≡ At b
    by_passing y is true = sym (ap (option_and_then gives) here ∙ is)
    by_passing y is false = rest

    by_given : (o : Option B) → gives x ≡ o → option_map_or passes o false ≡ tells x → find passes (cons_option o (filter_map gives xs)) ≡ At (tells x)
    by_given None is told = rest ∙ ap At told
    by_given (Some y) is told = by_passing y is (passes y) ∙ ap At told

  found_there : (look : ℕ → Option A) (k : ℕ) (xs : List A) → ((j : ℕ) → look (k + j) ≡ slice_get xs j) → AllByRecursion Tells xs
      → find passes (filter_map gives xs) ≡ option_and_then (λ i. option_and_then gives (look i)) (position_from tells k xs)
  found_there look k [] looks all = refl
  found_there look k (x ∷ xs) looks all =
      by_given look k x xs (ap look (let e : k ≡ k + 0 = omega arith in e) ∙ looks 0)
      (found_there look (k + 1) xs (λ j. ap look (let e : k + 1 + j ≡ k + suc j = omega arith in e) ∙ looks (suc j)) all.1)
      (gives x) refl all.0

-- ---- packets

module _ (e : End) (mine : Channel) (n : ℕ) where
  abbrev name : SentName
  name = ((e.port, e.channel), n)

  -- the name that a test of texts and numbers finds is the same by the order
  same_name : (port channel : Text) (m : ℕ) → (is_end e port channel && (m == n)) ≡ is_eq (sent_cmp name ((port, channel), m))
  same_name port channel m = by_tests (is_end e port channel && (m == n)) (is_eq (sent_cmp name ((port, channel), m))) forth back
    where
      forth : (is_end e port channel && (m == n)) ≡ true → is_eq (sent_cmp name ((port, channel), m)) ≡ true
      forth is =
          let both = and_parts (is_end e port channel) (eqb m n) is in
          let texts = and_parts (same_text port e.port) (same_text channel e.channel) both.0 in
          let p = text_same port e.port texts.0 in
          let c = text_same channel e.channel texts.1 in
          let k : m ≡ n = grind (arith, both.1) in
          ap is_eq (ap (λ (z : SentName). sent_cmp name z) (λ i. ((p i, c i), k i)) ∙ by_sent_name.self name)

      back : is_eq (sent_cmp name ((port, channel), m)) ≡ true → (is_end e port channel && (m == n)) ≡ true
      back is =
          let same = same_key by_sent_name name ((port, channel), m) is in
          and_from (is_end e port channel) (eqb m n)
          (and_from (same_text port e.port) (same_text channel e.channel) (same_text_from port e.port (ap (λ (z : SentName). z.0.0) (sym same))) (same_text_from channel e.channel (ap (λ (z : SentName). z.0.1) (sym same))))
          (let k : m ≡ n = ap (λ (z : SentName). z.1) (sym same) in grind (arith, k))

      by_tests : (a b : Bool) → (a ≡ true → b ≡ true) → (b ≡ true → a ≡ true) → a ≡ b
      by_tests true b forth back = sym (forth refl)
      by_tests false false forth back = refl
      by_tests false true forth back = back refl

  abbrev passes : Packet → Bool
  passes p = p.sequence == n

  by_end : (b : Bool) (p : Packet) → option_map_or passes (packet_if b p) false ≡ (b && passes p)
  by_end true p = refl
  by_end false p = refl

  -- what a message sent from an end of the port
  sent_from : (port channel : Text) (s : ℕ) (c : Commitment)
      → option_map_or passes (packet_if (is_end e port channel) (packet_from e mine s c)) false ≡ is_eq (sent_cmp name ((port, channel), s))
  sent_from port channel s c = by_end (is_end e port channel) (packet_from e mine s c) ∙ same_name port channel s

  tells : (h : Happened) → option_map_or passes (sent_by e mine h) false ≡ is_named name h
  tells (event.Message k (message.SendNote m), reply.Ok (effect.Sent s)) = sent_from note_port m.channel s (note_commitment m)
  tells (event.Message k (message.Transfer m), reply.Ok (effect.Sent s)) =
      sent_from transfer_port m.channel s (transfer_commitment one_token (transfer_data m) m.timeout_height m.timeout_time)
  tells (event.Message k (message.TransferMany m), reply.Ok (effect.Sent s)) =
      sent_from transfer_port m.channel s (transfer_commitment several_tokens (transfer_many_data m) m.timeout_height m.timeout_time)
  tells (ev, given) = refl

  -- an event of the chain
  abbrev IsOwn : Happened → Type 0
  IsOwn h = (chain_of h.0 == e.chain) ≡ true

  all_own : (happened : List Happened) → AllByRecursion IsOwn happened → history_of e.chain happened ≡ happened
  all_own [] own = refl
  all_own (h ∷ happened) own =
      ap (λ b. cond b (h ∷ history_of e.chain happened) (history_of e.chain happened)) own.0 ∙ ap (λ xs. h ∷ xs) (all_own happened own.1)

  all_tell : (happened : List Happened) → AllByRecursion (λ h. option_map_or passes (sent_by e mine h) false ≡ is_named name h) happened
  all_tell [] = tt
  all_tell (h ∷ happened) = (tells h, all_tell happened)

  module _ (happened : List Happened) (own : AllByRecursion IsOwn happened) (places : Places) (first : AreFirst places happened) where
    -- the packet is sent by what stands at its place
    pub sent_at : packet_sent e mine happened n ≡ option_and_then (λ i. option_and_then (sent_by e mine) (slice_get happened i)) (at sent_cmp name places)
    sent_at =
        ap (λ xs. find passes (filter_map (sent_by e mine) xs)) (all_own happened own)
        ∙ found_there (sent_by e mine) passes (is_named name) (slice_get happened) 0 happened (λ j. ap (slice_get happened) (let e : 0 + j ≡ j = omega arith in e)) (all_tell happened)
        ∙ ap (option_and_then (λ i. option_and_then (sent_by e mine) (slice_get happened i))) (sym (first name))

-- the place that is found has an item that passes the test
module _ {A : Type 0} (test : A → Bool) where
  abbrev IsThere : (ℕ → Option A) → ℕ → Type 0
  IsThere look i = (x : A) × (look i ≡ Some x) × (test x ≡ true)

  by_test : (look : ℕ → Option A) (k : ℕ) (x : A) (xs : List A) (i : ℕ) → look k ≡ Some x → (position_from test (k + 1) xs ≡ Some i → IsThere look i) → (b : Bool) → test x ≡ b
      → cond b (Some k) (position_from test (k + 1) xs) ≡ Some i → IsThere look i
  by_test look k x xs i here rest true is found = let same : k ≡ i = cc in (x, ap look (sym same) ∙ here, is)
  by_test look k x xs i here rest false is found = rest found

  there : (look : ℕ → Option A) (k : ℕ) (xs : List A) → ((j : ℕ) → look (k + j) ≡ slice_get xs j) → (i : ℕ) → position_from test k xs ≡ Some i → IsThere look i
  there look k [] looks i found = absurd (cc found)
  there look k (x ∷ xs) looks i found =
      by_test look k x xs i (ap look (let e : k ≡ k + 0 = omega arith in e) ∙ looks 0)
      (there look (k + 1) xs (λ j. ap look (let e : k + 1 + j ≡ k + suc j = omega arith in e) ∙ looks (suc j)) i)
      (test x) refl found

-- what stands at the place of a packet has its name
pub stands_at : (places : Places) (happened : List Happened) → AreFirst places happened → (name : SentName) (i : ℕ) → at sent_cmp name places ≡ Some i
    → (h : Happened) × (slice_get happened i ≡ Some h) × (is_named name h ≡ true)
stands_at places happened first name i found =
    there (is_named name) (slice_get happened) 0 happened (λ j. ap (slice_get happened) (let e : 0 + j ≡ j = omega arith in e)) i (sym (first name) ∙ found)

-- a packet that was sent under the name by an end of the port
sent_under : (e : End) (mine : Channel) (n : ℕ) (port channel : Text) (s : ℕ) (c : Commitment) → is_eq (sent_cmp ((e.port, e.channel), n) ((port, channel), s)) ≡ true
    → packet_if (is_end e port channel) (packet_from e mine s c) ≡ Some (packet_from e mine n c)
sent_under e mine n port channel s c named =
    let both = and_parts (is_end e port channel) (eqb s n) (same_name e mine n port channel s ∙ named) in
    let sequence : s ≡ n = grind (arith, both.1) in
    ap (λ b. packet_if b (packet_from e mine s c)) both.0 ∙ ap (λ k. Some (packet_from e mine k c)) sequence

-- what has the name sent the packet that it committed to
pub named_packet : (e : End) (mine : Channel) (n : ℕ) (h : Happened) → is_named ((e.port, e.channel), n) h ≡ true → sent_by e mine h ≡ option_map (λ c. packet_from e mine n c) (commitment_in h.0)
named_packet e mine n (event.Message k (message.SendNote m), reply.Ok (effect.Sent s)) named = sent_under e mine n note_port m.channel s (note_commitment m) named
named_packet e mine n (event.Message k (message.Transfer m), reply.Ok (effect.Sent s)) named =
    sent_under e mine n transfer_port m.channel s (transfer_commitment one_token (transfer_data m) m.timeout_height m.timeout_time) named
named_packet e mine n (event.Message k (message.TransferMany m), reply.Ok (effect.Sent s)) named =
    sent_under e mine n transfer_port m.channel s (transfer_commitment several_tokens (transfer_many_data m) m.timeout_height m.timeout_time) named
named_packet e mine n (ev, given) named = absurd (false≢true named)
