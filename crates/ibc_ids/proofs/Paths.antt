-- A path tells its key, where the names in it are names and its number is a sequence.
use Rattle.std.proofs.Common.{◌≡◌, ℕ, ◌<◌, ◌^◌, Bool, true, false, ◌&&◌, nat_lt, eqb, codes, [], ◌∷◌, ◌++◌, get_or, refl, sym, ap, ◌∙◌, append_assoc}
use Rattle.std.specs.List.{list_all}
use Rattle.std.specs.Fmt.{decimal}
use Rattle.std.proofs.lemmas.List.{append_cancel_left}
use Rattle.std.proofs.lemmas.Fmt.{decimal_injective}
use Rattle.std.proofs.lemmas.Bool.{and_parts, false≢true, ltb-true}
use Rattle.ibc_ids.specs.Texts.{Text}
use Rattle.ibc_ids.specs.Names.{is_identifier_byte, is_made_of, is_client, is_channel, is_port}
use Rattle.ibc_ids.specs.Paths.{channel_path, sequence_path, path, is_key, DifferentPaths}
use Rattle.ibc_ids.specs.declared.key.Key.{Key}
use Rattle.ibc_ids.specs.declared.key.Key.TheVariants as key
use Rattle.ibc_ids.proofs.Texts.{heads_same, tails_same}

-- ---- names have no slash

abbrev pub HasNoSlash : Text → Type 0
HasNoSlash text = list_all is_identifier_byte text ≡ true

slash_in : {A : Type 0} (y : ℕ) (b : Text) → 47 ≡ y → HasNoSlash (y ∷ b) → A
slash_in y b e g = absurd (false≢true (ap is_identifier_byte e ∙ (and_parts (is_identifier_byte y) (list_all is_identifier_byte b) g).0))

-- what stands before the first slash
fronts : (a b r s : Text) → HasNoSlash a → HasNoSlash b → a ++ 47 ∷ r ≡ b ++ 47 ∷ s → (a ≡ b) × (r ≡ s)
fronts [] [] r s h g e = (refl, tails_same 47 47 r s e)
fronts [] (y ∷ b) r s h g e = slash_in y b (heads_same 47 y r (b ++ 47 ∷ s) e) g
fronts (x ∷ a) [] r s h g e = slash_in x a (sym (heads_same x 47 (a ++ 47 ∷ r) s e)) h
fronts (x ∷ a) (y ∷ b) r s h g e =
    let head = heads_same x y (a ++ 47 ∷ r) (b ++ 47 ∷ s) e in
    let rest = fronts a b r s (and_parts (is_identifier_byte x) (list_all is_identifier_byte a) h).1 (and_parts (is_identifier_byte y) (list_all is_identifier_byte b) g).1
    (tails_same x y (a ++ 47 ∷ r) (b ++ 47 ∷ s) e)
    in
    let tail = rest.0 in
    ((λ i. head i ∷ tail i), rest.1)

pub made_of : (test : ℕ → Bool) (low high : ℕ) (text : Text) → is_made_of test low high text ≡ true → list_all test text ≡ true
made_of test low high text h = (and_parts _ (list_all test text) h).1

pub port_clear : (text : Text) → is_port text ≡ true → HasNoSlash text
port_clear text h = made_of is_identifier_byte 2 128 text h

pub channel_clear : (text : Text) → is_channel text ≡ true → HasNoSlash text
channel_clear text h = made_of is_identifier_byte 8 64 text h

pub client_clear : (text : Text) → is_client text ≡ true → HasNoSlash text
client_clear text h = made_of is_identifier_byte 9 64 text h

-- ---- paths of channels

pub ports_then : (p c r : Text) → (codes "/ports/" ++ p ++ codes "/channels/" ++ c) ++ r ≡ codes "/ports/" ++ (p ++ 47 ∷ (codes "channels/" ++ (c ++ r)))
ports_then p c r =
    append_assoc (codes "/ports/" ++ p ++ codes "/channels/") c r ∙ append_assoc (codes "/ports/" ++ p) (codes "/channels/") (c ++ r) ∙ append_assoc (codes "/ports/") p (codes "/channels/" ++ (c ++ r))

channel_paths_then : (p q c d r s : Text) → HasNoSlash p → HasNoSlash q → channel_path p c ++ r ≡ channel_path q d ++ s → (p ≡ q) × (c ++ r ≡ d ++ s)
channel_paths_then p q c d r s h g e =
    let all = append_cancel_left (codes "/ports/") _ _ (sym (ports_then p c r) ∙ e ∙ ports_then q d s) in
    let parts = fronts p q (codes "channels/" ++ (c ++ r)) (codes "channels/" ++ (d ++ s)) h g all in
    (parts.0, append_cancel_left (codes "channels/") _ _ parts.1)

append_nothing : (t : Text) → t ++ [] ≡ t
append_nothing [] = refl
append_nothing (x ∷ t) = ap (λ y. x ∷ y) (append_nothing t)

channel_paths_same : (p q c d : Text) → HasNoSlash p → HasNoSlash q → channel_path p c ≡ channel_path q d → (p ≡ q) × (c ≡ d)
channel_paths_same p q c d h g e =
    let w = channel_paths_then p q c d [] [] h g (append_nothing (channel_path p c) ∙ e ∙ sym (append_nothing (channel_path q d))) in
    (w.0, sym (append_nothing c) ∙ w.1 ∙ append_nothing d)

sequence_paths_same : (p q c d : Text) (n m : ℕ) → HasNoSlash p → HasNoSlash q → HasNoSlash c → HasNoSlash d → n < 2 ^ 64 → m < 2 ^ 64
    → sequence_path p c n ≡ sequence_path q d m → (p ≡ q) × (c ≡ d) × (n ≡ m)
sequence_paths_same p q c d n m hp hq hc hd fn fm e =
    let w = channel_paths_then p q c d (codes "/sequences/" ++ decimal n) (codes "/sequences/" ++ decimal m) hp hq
    (sym (append_assoc (channel_path p c) (codes "/sequences/") (decimal n)) ∙ e ∙ append_assoc (channel_path q d) (codes "/sequences/") (decimal m))
    in
    let parts = fronts c d (codes "sequences/" ++ decimal n) (codes "sequences/" ++ decimal m) hc hd w.1 in
    (w.0, parts.0, decimal_injective n m fn fm (append_cancel_left (codes "sequences/") _ _ parts.1))

-- ---- kinds of keys

kind : Key → ℕ
kind (key.ClientState id) = 0
kind (key.Connection id) = 1
kind (key.ChannelEnd port channel) = 2
kind (key.NextSequenceSend port channel) = 3
kind (key.NextSequenceRecv port channel) = 4
kind (key.NextSequenceAck port channel) = 5
kind (key.Commitment port channel n) = 6
kind (key.Receipt port channel n) = 7
kind (key.Acknowledgement port channel n) = 8
kind key.NextClientSequence = 9
kind key.NextConnectionSequence = 10
kind key.NextChannelSequence = 11

abbrev choose : Text → ℕ → ℕ → ℕ → ℕ → ℕ
choose text place byte one other = elim (eqb (get_or text place 0) byte) as (λ _. ℕ) [ true ↦ one | false ↦ other ]

-- by the bytes in which the kinds differ
abbrev text_kind : Text → ℕ
text_kind t =
    elim (eqb (get_or t 0 0) 99) as (λ _. ℕ) [
      | true ↦ elim (eqb (get_or t 1 0) 108) as (λ _. ℕ) [ true ↦ 0 | false ↦ elim (eqb (get_or t 1 0) 104) as (λ _. ℕ) [ true ↦ 2 | false ↦ choose t 2 110 1 6 ] ]
      | false ↦ elim (eqb (get_or t 0 0) 114) as (λ _. ℕ) [
        | true ↦ 7
        | false ↦ elim (eqb (get_or t 0 0) 97) as (λ _. ℕ) [
          | true ↦ 8
          | false ↦ elim (eqb (get_or t 4 0) 83) as (λ _. ℕ) [
            | true ↦ elim (eqb (get_or t 12 0) 83) as (λ _. ℕ) [ true ↦ 3 | false ↦ choose t 12 82 4 5 ]
            | false ↦ elim (eqb (get_or t 5 0) 108) as (λ _. ℕ) [ true ↦ 9 | false ↦ choose t 5 111 10 11 ]
          ]
        ]
      ]
    ]

kind_of_path : (k : Key) → text_kind (path k) ≡ kind k
unfolding kind
kind_of_path (key.ClientState id) = refl
kind_of_path (key.Connection id) = refl
kind_of_path (key.ChannelEnd port channel) = refl
kind_of_path (key.NextSequenceSend port channel) = refl
kind_of_path (key.NextSequenceRecv port channel) = refl
kind_of_path (key.NextSequenceAck port channel) = refl
kind_of_path (key.Commitment port channel n) = refl
kind_of_path (key.Receipt port channel n) = refl
kind_of_path (key.Acknowledgement port channel n) = refl
kind_of_path key.NextClientSequence = refl
kind_of_path key.NextConnectionSequence = refl
kind_of_path key.NextChannelSequence = refl

pub two_names : (p c : Text) → (is_port p && is_channel c) ≡ true → HasNoSlash p × HasNoSlash c
two_names p c h = let parts = and_parts (is_port p) (is_channel c) h in (port_clear p parts.0, channel_clear c parts.1)

pub a_number : (p c : Text) (n : ℕ) → (is_port p && is_channel c && nat_lt n (2 ^ 64)) ≡ true → HasNoSlash p × HasNoSlash c × (n < 2 ^ 64)
a_number p c n h =
    let parts = and_parts (is_port p && is_channel c) (nat_lt n (2 ^ 64)) h in
    let names = two_names p c parts.0 in
    (names.0, names.1, ltb-true n (2 ^ 64) parts.1)

sequences : (p q c d : Text) (n m : ℕ) → (is_port p && is_channel c && nat_lt n (2 ^ 64)) ≡ true → (is_port q && is_channel d && nat_lt m (2 ^ 64)) ≡ true
    → sequence_path p c n ≡ sequence_path q d m → (p ≡ q) × (c ≡ d) × (n ≡ m)
sequences p q c d n m h g e =
    let a = a_number p c n h in
    let b = a_number q d m g in
    sequence_paths_same p q c d n m a.0 b.0 a.1 b.1 a.2 b.2 e

by_kind : (k l : Key) → is_key k ≡ true → is_key l ≡ true → kind k ≡ kind l → path k ≡ path l → k ≡ l
unfolding kind
by_kind (key.ClientState a) (key.ClientState b) h g same e =
    ap key.ClientState (fronts a b (codes "clientState") (codes "clientState") (client_clear a h) (client_clear b g) (append_cancel_left (codes "clients/") _ _ (sym (append_assoc (codes "clients/") a (codes "/clientState")) ∙ e ∙ append_assoc (codes "clients/") b (codes "/clientState")))).0
by_kind (key.Connection a) (key.Connection b) h g same e = ap key.Connection (append_cancel_left (codes "connections/") a b e)
by_kind (key.ChannelEnd p c) (key.ChannelEnd q d) h g same e =
    let w = channel_paths_same p q c d (two_names p c h).0 (two_names q d g).0 (append_cancel_left (codes "channelEnds") _ _ e) in λ i. key.ChannelEnd (w.0 i) (w.1 i)
by_kind (key.NextSequenceSend p c) (key.NextSequenceSend q d) h g same e =
    let w = channel_paths_same p q c d (two_names p c h).0 (two_names q d g).0 (append_cancel_left (codes "nextSequenceSend") _ _ e) in λ i. key.NextSequenceSend (w.0 i) (w.1 i)
by_kind (key.NextSequenceRecv p c) (key.NextSequenceRecv q d) h g same e =
    let w = channel_paths_same p q c d (two_names p c h).0 (two_names q d g).0 (append_cancel_left (codes "nextSequenceRecv") _ _ e) in λ i. key.NextSequenceRecv (w.0 i) (w.1 i)
by_kind (key.NextSequenceAck p c) (key.NextSequenceAck q d) h g same e =
    let w = channel_paths_same p q c d (two_names p c h).0 (two_names q d g).0 (append_cancel_left (codes "nextSequenceAck") _ _ e) in λ i. key.NextSequenceAck (w.0 i) (w.1 i)
by_kind (key.Commitment p c n) (key.Commitment q d m) h g same e =
    let w = sequences p q c d n m h g (append_cancel_left (codes "commitments") _ _ e) in λ i. key.Commitment (w.0 i) (w.1 i) (w.2 i)
by_kind (key.Receipt p c n) (key.Receipt q d m) h g same e =
    let w = sequences p q c d n m h g (append_cancel_left (codes "receipts") _ _ e) in λ i. key.Receipt (w.0 i) (w.1 i) (w.2 i)
by_kind (key.Acknowledgement p c n) (key.Acknowledgement q d m) h g same e =
    let w = sequences p q c d n m h g (append_cancel_left (codes "acks") _ _ e) in λ i. key.Acknowledgement (w.0 i) (w.1 i) (w.2 i)
by_kind key.NextClientSequence key.NextClientSequence h g same e = refl
by_kind key.NextConnectionSequence key.NextConnectionSequence h g same e = refl
by_kind key.NextChannelSequence key.NextChannelSequence h g same e = refl
by_kind k l h g same e = absurd (cc)

pub different_paths : DifferentPaths
different_paths k l h g e = by_kind k l h g (sym (kind_of_path k) ∙ ap text_kind e ∙ kind_of_path l) e
