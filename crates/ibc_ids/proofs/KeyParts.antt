-- The parts of a key's path between its slashes are those that the definition names, and a path has no other.
use Rattle.std.proofs.Common.{◌≡◌, ◌≢◌, ◌↔◌, ◌⊎◌, inl, inr, ℕ, ◌<◌, ◌^◌, Bool, true, false, ◌&&◌, nat_lt, codes, List, [], ◌∷◌, ◌++◌, Result, Ok, Err, refl, sym, ap, ◌∙◌, arith, append_assoc, subst, lt-ltb}
use Rattle.std.specs.Prelude.{not, IsTrue, IfOk, IfErr, IsErrOf, IsOkUnless, bytes_eq}
use Rattle.std.specs.List.{list_all, slice_split, join_with_byte, onto_first}
use Rattle.std.specs.Fmt.{decimal}
use Rattle.std.proofs.lemmas.Bool.{and_parts, false≢true}
use Rattle.std.proofs.lemmas.Bool.Decides.{nat_tests, not_from_Decides}
use Rattle.std.proofs.lemmas.Slice.Eq.{bytes_eq-Decides}
use Rattle.std.proofs.lemmas.List.Splits.{slice_split-cons_no, join_with_byte-slice_split}
use Rattle.ibc_ids.specs.Texts.{Text}
use Rattle.ibc_ids.specs.Names.{is_identifier_byte, is_slash, is_client, is_connection, is_channel, is_port}
use Rattle.ibc_ids.specs.Paths.{channel_path, sequence_path, path, is_key, channel_parts, sequence_parts, parts, HasParts, IsNameRefusal, IsKeyOf}
use Rattle.ibc_ids.specs.declared.key.Key.{Key}
use Rattle.ibc_ids.specs.declared.key.Key.TheVariants as key
use Rattle.ibc_ids.specs.declared.refusal.Refusal.{Refusal}
use Rattle.ibc_ids.specs.declared.refusal.Refusal.TheVariants.{BadName, NoMemory}
use Rattle.ibc_ids.proofs.Paths.{HasNoSlash, made_of, client_clear, two_names, a_number, ports_then}
use Rattle.ibc_ids.proofs.Numbered.{digits}
use Rattle.ibc_ids.proofs.Splits.{some_part, only_part}

-- ---- texts without a slash

no_slash : (x : ℕ) → is_identifier_byte x ≡ true → is_slash x ≡ false
no_slash x h = grind (arith, nat_tests)

-- a part ends at the slash behind it
pub part_then : (a r : Text) → HasNoSlash a → slice_split is_slash (a ++ 47 ∷ r) ≡ a ∷ slice_split is_slash r
part_then [] r h = refl
part_then (x ∷ a) r h =
    let h2 = and_parts (is_identifier_byte x) (list_all is_identifier_byte a) h in
    slice_split-cons_no is_slash x (a ++ 47 ∷ r) (no_slash x h2.0) ∙ ap (onto_first x) (part_then a r h2.1)

pub one_part_of : (a : Text) → HasNoSlash a → slice_split is_slash a ≡ a ∷ []
one_part_of [] h = refl
one_part_of (x ∷ a) h =
    let h2 = and_parts (is_identifier_byte x) (list_all is_identifier_byte a) h in
    slice_split-cons_no is_slash x a (no_slash x h2.0) ∙ ap (onto_first x) (one_part_of a h2.1)

-- ---- the parts of a path

channel_flat : (p c : Text) → channel_path p c ≡ codes "/ports/" ++ (p ++ 47 ∷ (codes "channels/" ++ c))
channel_flat p c = append_assoc (codes "/ports/" ++ p) (codes "/channels/") c ∙ append_assoc (codes "/ports/") p (codes "/channels/" ++ c)

channel_split : (p c : Text) → HasNoSlash p → HasNoSlash c → slice_split is_slash (channel_path p c) ≡ [] ∷ channel_parts p c []
channel_split p c hp hc =
    ap (slice_split is_slash) (channel_flat p c) ∙ ap (λ (t : List Text). [] ∷ codes "ports" ∷ t) (part_then p (codes "channels/" ++ c) hp)
    ∙ ap (λ (t : List Text). [] ∷ codes "ports" ∷ p ∷ codes "channels" ∷ t) (one_part_of c hc)

sequence_flat : (p c : Text) (n : ℕ) → sequence_path p c n ≡ codes "/ports/" ++ (p ++ 47 ∷ (codes "channels/" ++ (c ++ 47 ∷ (codes "sequences/" ++ decimal n))))
sequence_flat p c n = append_assoc (channel_path p c) (codes "/sequences/") (decimal n) ∙ ports_then p c (codes "/sequences/" ++ decimal n)

sequence_split : (p c : Text) (n : ℕ) → HasNoSlash p → HasNoSlash c → n < 2 ^ 64 → slice_split is_slash (sequence_path p c n) ≡ [] ∷ sequence_parts p c n
sequence_split p c n hp hc small =
    ap (slice_split is_slash) (sequence_flat p c n) ∙ ap (λ (t : List Text). [] ∷ codes "ports" ∷ t) (part_then p (codes "channels/" ++ (c ++ 47 ∷ (codes "sequences/" ++ decimal n))) hp)
    ∙ ap (λ (t : List Text). [] ∷ codes "ports" ∷ p ∷ codes "channels" ∷ t) (part_then c (codes "sequences/" ++ decimal n) hc)
    ∙ ap (λ (t : List Text). [] ∷ codes "ports" ∷ p ∷ codes "channels" ∷ c ∷ codes "sequences" ∷ t) (one_part_of (decimal n) (digits n small))

-- the first of the parts with a text before it
first_part : Text → List Text → List Text
first_part kind [] = kind ∷ []
first_part kind (t ∷ ts) = (kind ++ t) ∷ ts

same_parts : (k : Key) → is_key k ≡ true → slice_split is_slash (path k) ≡ parts k
unfolding first_part
same_parts (key.ClientState id) h =
    ap (slice_split is_slash) (append_assoc (codes "clients/") id (codes "/clientState")) ∙ ap (λ (t : List Text). codes "clients" ∷ t) (part_then id (codes "clientState") (client_clear id h))
same_parts (key.Connection id) h = ap (λ (t : List Text). codes "connections" ∷ t) (one_part_of id (made_of is_identifier_byte 10 64 id h))
same_parts (key.ChannelEnd p c) h = let n = two_names p c h in ap (first_part (codes "channelEnds")) (channel_split p c n.0 n.1)
same_parts (key.NextSequenceSend p c) h = let n = two_names p c h in ap (first_part (codes "nextSequenceSend")) (channel_split p c n.0 n.1)
same_parts (key.NextSequenceRecv p c) h = let n = two_names p c h in ap (first_part (codes "nextSequenceRecv")) (channel_split p c n.0 n.1)
same_parts (key.NextSequenceAck p c) h = let n = two_names p c h in ap (first_part (codes "nextSequenceAck")) (channel_split p c n.0 n.1)
same_parts (key.Commitment p c n) h = let a = a_number p c n h in ap (first_part (codes "commitments")) (sequence_split p c n a.0 a.1 a.2)
same_parts (key.Receipt p c n) h = let a = a_number p c n h in ap (first_part (codes "receipts")) (sequence_split p c n a.0 a.1 a.2)
same_parts (key.Acknowledgement p c n) h = let a = a_number p c n h in ap (first_part (codes "acks")) (sequence_split p c n a.0 a.1 a.2)
same_parts key.NextClientSequence h = refl
same_parts key.NextConnectionSequence h = refl
same_parts key.NextChannelSequence h = refl

-- ---- from parts to a path, and back

pub path_from : (k : Key) (text : Text) → HasParts (slice_split is_slash text) k → path k ≡ text
path_from k text h = sym (join_with_byte-slice_split 47 (path k)) ∙ ap (join_with_byte 47) (same_parts k h.1 ∙ h.0) ∙ join_with_byte-slice_split 47 text

pub no_key_at : (text : Text) (ps : List Text) → slice_split is_slash text ≡ ps → ((k : Key) → ¬ HasParts ps k) → (k : Key) → IsTrue (is_key k) → ¬ (path k ≡ text)
no_key_at text ps e none k h is = none k (sym (same_parts k h) ∙ ap (slice_split is_slash) is ∙ e, h)

-- what is answered for a text, by what is answered for its parts
pub record Parses (text : Text) (r : Result Key Refusal) : Type 0 where
  pub ok : IfOk r (λ k. (path k ≡ text) × IsTrue (is_key k))
  pub bad : IsErrOf r BadName ↔ ((k : Key) → IsTrue (is_key k) → path k ≢ text)
  pub memory : (k : Key) → IsTrue (is_key k) → path k ≡ text → IsOkUnless r NoMemory
  pub errors : IfErr r (λ e. (e ≡ BadName) ⊎ (e ≡ NoMemory))

pub parsed : (text : Text) (ps : List Text) (r : Result Key Refusal) → slice_split is_slash text ≡ ps → IsKeyOf ps r → Parses text r
parsed text ps (Ok k) e h =
    let is = path_from k text (h.0 ∙ sym e, h.1) in
    record { ok = (is, h.1); bad = (λ other. absurd (cc), λ none. absurd (none k h.1 is)); memory = λ l valid same. tt; errors = tt }
parsed text ps (Err BadName) e h =
    let none = no_key_at text ps e h in
    record { ok = tt; bad = (λ same. none, λ no. refl); memory = λ l valid same. absurd (none l valid same); errors = inl refl }
parsed text ps (Err NoMemory) e h =
    let is = path_from h.0 text (h.1.0 ∙ sym e, h.1.1) in
    record { ok = tt; bad = (λ other. absurd (cc), λ none. absurd (none h.0 h.1.1 is)); memory = λ l valid same. refl; errors = inr refl }
parsed text ps (Err _) e h = absurd h

-- ---- names in a path

and_true : (b : Bool) → (b && true) ≡ b
and_true true = refl
and_true false = refl

pub name_refusal : (form : Bool) (e : Refusal) → (IsErrOf {T = Text} (Err e) BadName ↔ ¬ IsTrue form) → (IsTrue form → IsOkUnless {T = Text} (Err e) NoMemory) → IsNameRefusal form e
name_refusal true e bad memory = subst (IsNameRefusal true) (sym (memory refl)) refl
name_refusal false e bad memory =
    let is = bad.1 false≢true in
    let same : e ≡ BadName = cc in
    subst (IsNameRefusal false) (sym same) refl

client_in : (k : Key) (kind id field : Text) → HasParts (kind ∷ id ∷ field ∷ []) k → is_client id ≡ true
client_in (key.ClientState a) kind id field h = let e = h.0 in let same : a ≡ id = cc in ap is_client (sym same) ∙ h.1
client_in k kind id field h = let e = h.0 in absurd (cc)

connection_in : (k : Key) (kind id : Text) → HasParts (kind ∷ id ∷ []) k → is_connection id ≡ true
connection_in (key.Connection a) kind id h = let e = h.0 in let same : a ≡ id = cc in ap is_connection (sym same) ∙ h.1
connection_in k kind id h = let e = h.0 in absurd (cc)

both_same : (p c port channel : Text) → p ≡ port → c ≡ channel → (is_port p && is_channel c) ≡ true → (is_port port && is_channel channel) ≡ true
both_same p c port channel a b h = (λ i. is_port (sym a i) && is_channel (sym b i)) ∙ h

names_in : (k : Key) (kind port channel : Text) (ts : List Text) → HasParts (kind ∷ channel_parts port channel ts) k → (is_port port && is_channel channel) ≡ true
names_in (key.ClientState a) kind port channel ts h = let e = h.0 in absurd (cc)
names_in (key.Connection a) kind port channel ts h = let e = h.0 in absurd (cc)
names_in (key.ChannelEnd p c) kind port channel ts h = let e = h.0 in both_same p c port channel (cc) (cc) h.1
names_in (key.NextSequenceSend p c) kind port channel ts h = let e = h.0 in both_same p c port channel (cc) (cc) h.1
names_in (key.NextSequenceRecv p c) kind port channel ts h = let e = h.0 in both_same p c port channel (cc) (cc) h.1
names_in (key.NextSequenceAck p c) kind port channel ts h = let e = h.0 in both_same p c port channel (cc) (cc) h.1
names_in (key.Commitment p c n) kind port channel ts h = let e = h.0 in both_same p c port channel (cc) (cc) (and_parts (is_port p && is_channel c) (nat_lt n (2 ^ 64)) h.1).0
names_in (key.Receipt p c n) kind port channel ts h = let e = h.0 in both_same p c port channel (cc) (cc) (and_parts (is_port p && is_channel c) (nat_lt n (2 ^ 64)) h.1).0
names_in (key.Acknowledgement p c n) kind port channel ts h = let e = h.0 in both_same p c port channel (cc) (cc) (and_parts (is_port p && is_channel c) (nat_lt n (2 ^ 64)) h.1).0
names_in k kind port channel ts h = let e = h.0 in absurd (cc)

-- a name of the parts was refused, where a key that has the parts would have the name
pub refused : (ps : List Text) (form : Bool) (e : Refusal) (k : Key) → IsNameRefusal form e → parts k ≡ ps → is_key k ≡ form → ((l : Key) → HasParts ps l → form ≡ true) → IsKeyOf ps (Err e)
refused ps form BadName k h is valid all = λ l has. false≢true (sym h ∙ all l has)
refused ps form NoMemory k h is valid all = (k, (is, valid ∙ h))
refused ps form _ k h is valid all = absurd h

pub refused_client : (kind id field : Text) (e : Refusal) → kind ≡ codes "clients" → field ≡ codes "clientState" → IsNameRefusal (is_client id) e → IsKeyOf (kind ∷ id ∷ field ∷ []) (Err e)
refused_client kind id field e a b h =
    refused (kind ∷ id ∷ field ∷ []) (is_client id) e (key.ClientState id) h (λ i. sym a i ∷ id ∷ sym b i ∷ []) refl (λ l. client_in l kind id field)

pub refused_connection : (kind id : Text) (e : Refusal) → kind ≡ codes "connections" → IsNameRefusal (is_connection id) e → IsKeyOf (kind ∷ id ∷ []) (Err e)
refused_connection kind id e a h =
    refused (kind ∷ id ∷ []) (is_connection id) e (key.Connection id) h (λ i. sym a i ∷ id ∷ []) refl (λ l. connection_in l kind id)

pub refused_record : (kind port channel : Text) (e : Refusal) (k : Key) → IsNameRefusal (is_port port && is_channel channel) e → parts k ≡ kind ∷ channel_parts port channel [] → is_key k ≡ (is_port port && is_channel channel)
    → IsKeyOf (kind ∷ channel_parts port channel []) (Err e)
refused_record kind port channel e k h is valid =
    refused (kind ∷ channel_parts port channel []) (is_port port && is_channel channel) e k h is valid (λ l. names_in l kind port channel [])

pub refused_sequence : (kind port channel sequence : Text) (n : ℕ) (e : Refusal) (k : Key) → IsNameRefusal (is_port port && is_channel channel) e → n < 2 ^ 64 → sequence ≡ decimal n
    → parts k ≡ kind ∷ sequence_parts port channel n → is_key k ≡ (is_port port && is_channel channel && nat_lt n (2 ^ 64))
    → IsKeyOf (kind ∷ channel_parts port channel (codes "sequences" ∷ sequence ∷ [])) (Err e)
refused_sequence kind port channel sequence n e k h small same is valid =
    let ps = kind ∷ channel_parts port channel (codes "sequences" ∷ sequence ∷ []) in
    refused ps (is_port port && is_channel channel) e k h
    (is ∙ ap (λ (t : Text). kind ∷ channel_parts port channel (codes "sequences" ∷ t ∷ [])) (sym same))
    (valid ∙ ap (λ b. is_port port && is_channel channel && b) (lt-ltb n (2 ^ 64) small) ∙ and_true (is_port port && is_channel channel))
    (λ l. names_in l kind port channel (codes "sequences" ∷ sequence ∷ []))

-- ---- keys of many parts

-- the second part of four or more
pub ports_second : (k : Key) (a b p t : Text) → parts k ≡ a ∷ b ∷ p ∷ slice_split is_slash t → b ≡ codes "ports"
ports_second (key.ClientState id) a b p t e = absurd (some_part t (cc))
ports_second k a b p t e = cc

seventh : (k : Key) (a b p m c q : Text) (ts : List Text) → HasParts (a ∷ b ∷ p ∷ m ∷ c ∷ q ∷ ts) k → (n : ℕ) × (n < 2 ^ 64) × (decimal n ∷ [] ≡ ts)
seventh (key.Commitment x y n) a b p m c q ts h = (n, (a_number x y n h.1).2, (let e = h.0 in cc))
seventh (key.Receipt x y n) a b p m c q ts h = (n, (a_number x y n h.1).2, (let e = h.0 in cc))
seventh (key.Acknowledgement x y n) a b p m c q ts h = (n, (a_number x y n h.1).2, (let e = h.0 in cc))
seventh k a b p m c q ts h = let e = h.0 in absurd (cc)

-- the last part of seven
last_of_seven : (k : Key) (a b p m c q t : Text) → HasParts (a ∷ b ∷ p ∷ m ∷ c ∷ q ∷ t ∷ []) k → slice_split is_slash t ≡ t ∷ []
last_of_seven k a b p m c q t h =
    let last = seventh k a b p m c q (t ∷ []) h in
    let is : decimal last.0 ≡ t = (let e = last.2 in cc) in
    subst (λ (u : Text). slice_split is_slash u ≡ u ∷ []) is (one_part_of (decimal last.0) (digits last.0 last.1))

seven_parts : (k : Key) (a b p m c q t : Text) → HasParts (a ∷ b ∷ p ∷ m ∷ c ∷ q ∷ slice_split is_slash t) k → slice_split is_slash t ≡ t ∷ []
seven_parts k a b p m c q t h =
    let last = seventh k a b p m c q (slice_split is_slash t) h in
    sym last.2 ∙ ap (λ (u : Text). u ∷ []) (sym (only_part (decimal last.0) t (sym last.2)))

short_parts : (k : Key) (kind port channel sequence : Text) (tail : List Text) → tail ≡ codes "channels" ∷ channel ∷ codes "sequences" ∷ slice_split is_slash sequence
    → HasParts (kind ∷ channel_parts port channel (codes "sequences" ∷ sequence ∷ [])) k → HasParts (kind ∷ codes "ports" ∷ port ∷ tail) k
short_parts k kind port channel sequence tail e h =
    let one = last_of_seven k kind (codes "ports") port (codes "channels") channel (codes "sequences") sequence h in
    let back = sym e in
    (h.0 ∙ ap (λ (u : List Text). kind ∷ channel_parts port channel (codes "sequences" ∷ u)) (sym one) ∙ ap (λ (u : List Text). kind ∷ codes "ports" ∷ port ∷ u) back, h.1)

long_parts : (k : Key) (kind port channel sequence : Text) (tail : List Text) → tail ≡ codes "channels" ∷ channel ∷ codes "sequences" ∷ slice_split is_slash sequence
    → HasParts (kind ∷ codes "ports" ∷ port ∷ tail) k → HasParts (kind ∷ channel_parts port channel (codes "sequences" ∷ sequence ∷ [])) k
long_parts k kind port channel sequence tail e h =
    let flat = h.0 ∙ ap (λ (u : List Text). kind ∷ codes "ports" ∷ port ∷ u) e in
    let one = seven_parts k kind (codes "ports") port (codes "channels") channel (codes "sequences") sequence (flat, h.1) in
    (flat ∙ ap (λ (u : List Text). kind ∷ channel_parts port channel (codes "sequences" ∷ u)) one, h.1)

pub sequence_at : (r : Result Key Refusal) (kind port channel sequence : Text) (tail : List Text) → tail ≡ codes "channels" ∷ channel ∷ codes "sequences" ∷ slice_split is_slash sequence
    → IsKeyOf (kind ∷ channel_parts port channel (codes "sequences" ∷ sequence ∷ [])) r → IsKeyOf (kind ∷ codes "ports" ∷ port ∷ tail) r
sequence_at (Ok k) kind port channel sequence tail e h = short_parts k kind port channel sequence tail e h
sequence_at (Err BadName) kind port channel sequence tail e h = λ k has. h k (long_parts k kind port channel sequence tail e has)
sequence_at (Err NoMemory) kind port channel sequence tail e h = (h.0, short_parts h.0 kind port channel sequence tail e h.1)
sequence_at (Err _) kind port channel sequence tail e h = absurd h

-- ---- texts that were compared

pub other_text : (x y : Text) → true ≡ not (bytes_eq x y) → ¬ (x ≡ y)
other_text x y e = not_from_Decides _ (bytes_eq-Decides x y) (grind arith)

pub this_text : (x y : Text) → false ≡ not (bytes_eq x y) → x ≡ y
this_text x y e = (bytes_eq-Decides x y).0 (grind arith)
