-- What a step pays and gives, as lists of amounts by account and denomination; and tests of such lists, by which the
-- laws of payments and supplies hold for every account and every denomination.
use Rattle.std.specs.Prelude.{ℕ, ◌≤◌}
use Rattle.std.proofs.Common.{◌≡◌, ◌+◌, Bool, true, false, refl, ap, sym, ◌∙◌, subst, List, [], ◌∷◌, ◌++◌, map, ◌⊎◌, inl, inr, arith, ◌==◌, ◌&&◌, ◌||◌, not, eqb-true, leb-true, nat_le, if◌then◌else◌, Option, Some, None}
use Rattle.std.specs.List.{list_all, sum_by}
use Rattle.std.specs.Option.{option_map_or}
use Rattle.std.proofs.lemmas.List.Sums.{sum_by-cons, sum_by-append}
use Rattle.ibc_ids.specs.Texts.{Text, same_text}
use Rattle.ibc_ids.specs.Names.{is_user}
use Rattle.ibc_ids.proofs.Texts.{text_same}
use Rattle.ibc_wire.specs.declared.packet.Packet.{Packet}
use Rattle.ibc_wire.specs.declared.token.Token.{Token}
use Rattle.ibc_wire.specs.declared.messages.Message.TheVariants as message
use Rattle.ibc_machine.specs.declared.event.Event.TheVariants as event
use Rattle.ibc_machine.specs.declared.reply.Effect.TheVariants as effect
use Rattle.ibc_machine.specs.declared.reply.Reply.TheVariants as reply
use Rattle.ibc_machine.specs.chain.Machine.{World}
use Rattle.ibc_machine.specs.ics20.TokenData.{Data, success}
use Rattle.ibc_machine.specs.ics20.Transfers.{transfer_port, transfer_data, transfer_many_data}
use Rattle.ibc_machine.specs.promises.Histories.{Happened}
use Rattle.ibc_machine.proofs.Measures.{Test, amount_in, measure}
use Rattle.ibc_laws.specs.Tokens.{own_sending, amount_paid_by}
use Rattle.ibc_laws.specs.Payments.{data_at, denom_on_arrival, own_receiving, amount_received_by, amount_refunded_to}
use Rattle.ibc_laws.proofs.basics.PassedTests.{both}
use Rattle.ibc_laws.proofs.tokens.HeldAndIssued.{at_key, sum-same, sum-zero}
use Rattle.ibc_laws.proofs.tokens.WhoIsPaid.{lemma_own_part}

abbrev pub Entry : Type 0
Entry = (Text × Text) × ℕ

-- ---- what a step pays and gives

abbrev pub keyed : Text → Token → Entry
keyed holder token = ((holder, token.denom), token.amount)

abbrev pub arriving : Packet → Text → Token → Entry
arriving p holder token = ((holder, denom_on_arrival p token.denom), token.amount)

abbrev pub entries_if : Bool → List Entry → List Entry
entries_if b entries = if b then entries else []

abbrev pub paid_entries : ℕ → Happened → List Entry
paid_entries chain (event.Message k (message.Transfer m), reply.Ok given) =
    entries_if (k == chain) (map (keyed m.user) (transfer_data m).tokens)
paid_entries chain (event.Message k (message.TransferMany m), reply.Ok given) =
    entries_if (k == chain) (map (keyed m.user) (transfer_many_data m).tokens)
paid_entries chain _ = []

abbrev pub entries_of_sender : Option Data → List Entry
entries_of_sender o = option_map_or (λ (d : Data). map (keyed d.sender) d.tokens) o []

abbrev pub entries_of_receiver : Packet → Option Data → List Entry
entries_of_receiver p o = option_map_or (λ (d : Data). map (arriving p d.receiver) d.tokens) o []

abbrev pub got_entries : World → ℕ → Happened → List Entry
got_entries world chain (event.Message k (message.RecvPacket m), reply.Ok (effect.Ack ack)) =
    entries_if ((k == chain) && same_text m.packet.destination_port transfer_port && same_text ack success)
    (entries_of_receiver m.packet (data_at world chain m.packet.destination_channel m.packet.payload))
got_entries world chain (event.Message k (message.AckPacket m), reply.Ok given) =
    entries_if ((k == chain) && same_text m.packet.source_port transfer_port && not (same_text m.ack success))
    (entries_of_sender (data_at world chain m.packet.source_channel m.packet.payload))
got_entries world chain (event.Message k (message.Timeout m), reply.Ok given) =
    entries_if ((k == chain) && same_text m.packet.source_port transfer_port)
    (entries_of_sender (data_at world chain m.packet.source_channel m.packet.payload))
got_entries world chain (event.Message k (message.TimeoutOnClose m), reply.Ok given) =
    entries_if ((k == chain) && same_text m.packet.source_port transfer_port)
    (entries_of_sender (data_at world chain m.packet.source_channel m.packet.payload))
got_entries world chain _ = []

-- of all that happened
abbrev pub all_entries : (Happened → List Entry) → List Happened → List Entry
all_entries f [] = []
all_entries f (h ∷ hs) = f h ++ all_entries f hs

-- ---- their measures

pub measure-append : (test : Test) (xs ys : List Entry) → measure test (xs ++ ys) ≡ measure test xs + measure test ys
measure-append test xs ys = sum_by-append (amount_in test) xs ys

pub measure-mapped : (test : Test) (f : Token → Entry) (tokens : List Token) → measure test (map f tokens) ≡ sum_by (λ token. amount_in test (f token)) tokens
measure-mapped test f [] = refl
measure-mapped test f (token ∷ tokens) =
    let h = measure-mapped test f tokens in
    let a = sum_by-cons (amount_in test) (f token) (map f tokens) in
    let b = sum_by-cons (λ token. amount_in test (f token)) token tokens in
    omega arith

pub measure-all : (test : Test) (f : Happened → List Entry) (g : Happened → ℕ) (hs : List Happened) → ((h : Happened) → measure test (f h) ≡ g h)
    → measure test (all_entries f hs) ≡ sum_by g hs
measure-all test f g [] is = refl
measure-all test f g (h ∷ hs) is =
    let rest = measure-all test f g hs is in
    let a = sum_by-append (amount_in test) (f h) (all_entries f hs) in
    let b = sum_by-cons g h hs in
    let c = is h in
    omega arith

measure-if : (test : Test) (b : Bool) (entries : List Entry) → measure test (entries_if b entries) ≡ (if b then measure test entries else 0)
measure-if test true entries = refl
measure-if test false entries = refl

module _ (user denom : Text) (is : is_user user ≡ true) where
  abbrev mine : Test
  mine = at_key user denom

  of_holder : (holder : Text) (tokens : List Token) → measure mine (map (keyed holder) tokens) ≡ own_sending (same_text holder user) denom tokens
  of_holder holder tokens = measure-mapped mine (keyed holder) tokens ∙ lemma_own_part user denom is holder tokens

  of_arrival : (p : Packet) (holder : Text) (tokens : List Token) → measure mine (map (arriving p holder) tokens) ≡ own_receiving (same_text holder user) p denom tokens
  of_arrival p holder tokens = measure-mapped mine (arriving p holder) tokens ∙ go (same_text holder user) refl
    where
      go : (b : Bool) → same_text holder user ≡ b → sum_by (λ token. amount_in mine (arriving p holder token)) tokens ≡ own_receiving b p denom tokens
      go true same = sum-same _ _ tokens (λ (token : Token). ap (λ t. if t && same_text (denom_on_arrival p token.denom) denom then token.amount else 0) same)
      go false other = sum-zero _ tokens (λ (token : Token). ap (λ t. if t && same_text (denom_on_arrival p token.denom) denom then token.amount else 0) other)

  on_chain : (b own : Bool) (tokens : List Token) → (if b then own_sending own denom tokens else 0) ≡ own_sending (b && own) denom tokens
  on_chain true own tokens = refl
  on_chain false own tokens = refl

  pub measure_paid : (chain : ℕ) (h : Happened) → measure mine (paid_entries chain h) ≡ amount_paid_by chain user denom h
  measure_paid chain (event.Message k (message.Transfer m), reply.Ok given) =
      measure-if mine (k == chain) _ ∙ ap (λ n. if k == chain then n else 0) (of_holder m.user (transfer_data m).tokens) ∙ on_chain (k == chain) (same_text m.user user) (transfer_data m).tokens
  measure_paid chain (event.Message k (message.TransferMany m), reply.Ok given) =
      measure-if mine (k == chain) _ ∙ ap (λ n. if k == chain then n else 0) (of_holder m.user (transfer_many_data m).tokens) ∙ on_chain (k == chain) (same_text m.user user) (transfer_many_data m).tokens
  measure_paid chain (event.Message k _, reply.Ok given) = refl
  measure_paid chain (event.Message k (message.Transfer m), reply.No why) = refl
  measure_paid chain (event.Message k (message.TransferMany m), reply.No why) = refl
  measure_paid chain (event.Message k _, reply.No why) = refl
  measure_paid chain (event.Block k t, given) = refl

  of_sender : (o : Option Data) → measure mine (entries_of_sender o) ≡ option_map_or (λ (d : Data). own_sending (same_text d.sender user) denom d.tokens) o 0
  of_sender (Some d) = of_holder d.sender d.tokens
  of_sender None = refl

  of_receiver : (p : Packet) (o : Option Data) → measure mine (entries_of_receiver p o) ≡ option_map_or (λ (d : Data). own_receiving (same_text d.receiver user) p denom d.tokens) o 0
  of_receiver p (Some d) = of_arrival p d.receiver d.tokens
  of_receiver p None = refl

  refund_is : (b : Bool) (o : Option Data) → measure mine (entries_if b (entries_of_sender o))
      ≡ 0 + (if b then option_map_or (λ (d : Data). own_sending (same_text d.sender user) denom d.tokens) o 0 else 0)
  refund_is true o = let e = of_sender o in omega arith
  refund_is false o = refl

  receipt_is : (p : Packet) (b : Bool) (o : Option Data) → measure mine (entries_if b (entries_of_receiver p o))
      ≡ (if b then option_map_or (λ (d : Data). own_receiving (same_text d.receiver user) p denom d.tokens) o 0 else 0) + 0
  receipt_is p true o = let e = of_receiver p o in omega arith
  receipt_is p false o = refl

  pub measure_got : (world : World) (chain : ℕ) (h : Happened) → measure mine (got_entries world chain h)
      ≡ amount_received_by world chain user denom h + amount_refunded_to world chain user denom h
  measure_got world chain (event.Message k (message.RecvPacket m), reply.Ok (effect.Ack ack)) =
      receipt_is m.packet ((k == chain) && same_text m.packet.destination_port transfer_port && same_text ack success)
      (data_at world chain m.packet.destination_channel m.packet.payload)
  measure_got world chain (event.Message k (message.RecvPacket m), reply.Ok _) = refl
  measure_got world chain (event.Message k (message.AckPacket m), reply.Ok given) =
      refund_is ((k == chain) && same_text m.packet.source_port transfer_port && not (same_text m.ack success))
      (data_at world chain m.packet.source_channel m.packet.payload)
  measure_got world chain (event.Message k (message.Timeout m), reply.Ok given) =
      refund_is ((k == chain) && same_text m.packet.source_port transfer_port) (data_at world chain m.packet.source_channel m.packet.payload)
  measure_got world chain (event.Message k (message.TimeoutOnClose m), reply.Ok given) =
      refund_is ((k == chain) && same_text m.packet.source_port transfer_port) (data_at world chain m.packet.source_channel m.packet.payload)
  measure_got world chain (event.Message k _, reply.Ok given) = refl
  measure_got world chain (event.Message k (message.RecvPacket m), reply.No why) = refl
  measure_got world chain (event.Message k (message.AckPacket m), reply.No why) = refl
  measure_got world chain (event.Message k (message.Timeout m), reply.No why) = refl
  measure_got world chain (event.Message k (message.TimeoutOnClose m), reply.No why) = refl
  measure_got world chain (event.Message k _, reply.No why) = refl
  measure_got world chain (event.Block k t, given) = refl

-- ---- tests

-- an entry that is measured passes the test, or nothing is measured
pub lemma_entry_or_none : (mine : Test) (test : Entry → Bool) (xs : List Entry) → list_all test xs ≡ true
    → ((x : Entry) × (test x ≡ true) × (mine x.0 ≡ true)) ⊎ (measure mine xs ≡ 0)
lemma_entry_or_none mine test [] all = inr refl
lemma_entry_or_none mine test (x ∷ xs) all =
    go (mine x.0) refl (lemma_entry_or_none mine test xs (both (test x) (list_all test xs) all).1)
  where
    go : (b : Bool) → mine x.0 ≡ b → ((x : Entry) × (test x ≡ true) × (mine x.0 ≡ true)) ⊎ (measure mine xs ≡ 0)
        → ((x : Entry) × (test x ≡ true) × (mine x.0 ≡ true)) ⊎ (measure mine (x ∷ xs) ≡ 0)
    go true is rest = inl (x, (both (test x) (list_all test xs) all).0, is)
    go false is rest = elim rest [
      | inl found ↦ inl found
      | inr none ↦ inr (
          let cons = sum_by-cons (amount_in mine) x xs in
          let nothing : amount_in mine x ≡ 0 = ap (λ b. if b then x.1 else 0) is in
          omega arith
          )
    ]

-- two lists have as much for each key of a user
abbrev pub has_same : List Entry → List Entry → Entry → Bool
has_same xs ys x = not (is_user x.0.0) || (measure (at_key x.0.0 x.0.1) xs == measure (at_key x.0.0 x.0.1) ys)

abbrev pub are_same_for_users : List Entry → List Entry → Bool
are_same_for_users xs ys = list_all (has_same xs ys) (xs ++ ys)

pub lemma_same_for_users : (xs ys : List Entry) → are_same_for_users xs ys ≡ true → (user denom : Text) → is_user user ≡ true
    → measure (at_key user denom) xs ≡ measure (at_key user denom) ys
lemma_same_for_users xs ys all user denom is = elim (lemma_entry_or_none (at_key user denom) (has_same xs ys) (xs ++ ys) all) [
  | inl found ↦ (
      let parts = both (same_text found.0.0.0 user) (same_text found.0.0.1 denom) found.2 in
      let holder = text_same found.0.0.0 user parts.0 in
      let of = text_same found.0.0.1 denom parts.1 in
      let passed : (not (is_user user) || (measure (at_key user denom) xs == measure (at_key user denom) ys)) ≡ true =
      subst (λ (k : Text × Text). (not (is_user k.0) || (measure (at_key k.0 k.1) xs == measure (at_key k.0 k.1) ys)) ≡ true) (λ i. (holder i, of i)) found.1 in
      let same : (measure (at_key user denom) xs == measure (at_key user denom) ys) ≡ true =
      sym (ap (λ b. not b || (measure (at_key user denom) xs == measure (at_key user denom) ys)) is) ∙ passed in
      eqb-true (measure (at_key user denom) xs) (measure (at_key user denom) ys) same
      )
  | inr none ↦ (let all_of = sum_by-append (amount_in (at_key user denom)) xs ys in omega arith)
]

-- one list has no more than another for each key of a user
abbrev pub has_no_more : List Entry → List Entry → Entry → Bool
has_no_more xs ys x = not (is_user x.0.0) || nat_le (measure (at_key x.0.0 x.0.1) xs) (measure (at_key x.0.0 x.0.1) ys)

abbrev pub are_no_more_for_users : List Entry → List Entry → Bool
are_no_more_for_users xs ys = list_all (has_no_more xs ys) xs

pub lemma_no_more_for_users : (xs ys : List Entry) → are_no_more_for_users xs ys ≡ true → (user denom : Text) → is_user user ≡ true
    → measure (at_key user denom) xs ≤ measure (at_key user denom) ys
lemma_no_more_for_users xs ys all user denom is = elim (lemma_entry_or_none (at_key user denom) (has_no_more xs ys) xs all) [
  | inl found ↦ (
      let parts = both (same_text found.0.0.0 user) (same_text found.0.0.1 denom) found.2 in
      let holder = text_same found.0.0.0 user parts.0 in
      let of = text_same found.0.0.1 denom parts.1 in
      let passed : (not (is_user user) || nat_le (measure (at_key user denom) xs) (measure (at_key user denom) ys)) ≡ true =
      subst (λ (k : Text × Text). (not (is_user k.0) || nat_le (measure (at_key k.0 k.1) xs) (measure (at_key k.0 k.1) ys)) ≡ true) (λ i. (holder i, of i)) found.1 in
      let less : nat_le (measure (at_key user denom) xs) (measure (at_key user denom) ys) ≡ true =
      sym (ap (λ b. not b || nat_le (measure (at_key user denom) xs) (measure (at_key user denom) ys)) is) ∙ passed in
      leb-true (measure (at_key user denom) xs) (measure (at_key user denom) ys) less
      )
  | inr none ↦ omega arith
]
