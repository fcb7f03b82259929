-- The image of a core has, at each key's path, the bytes of what the core has at the key.
use Rattle.std.proofs.Common.{◌≡◌, Bool, true, false, cond, List, [], ◌∷◌, ◌++◌, length, map, nat_lt, refl, sym, ap, ◌∙◌, subst, Option, Some, None, option_map, option_and_then, inl, inr, ◌⊎◌, Ordering, Less, Equal, Greater, is_eq, T, suc, arith, lt-ltb}
use Rattle.std.specs.Bool.{passes}
use Rattle.std.specs.Prelude.{fold}
use Rattle.std.specs.List.{flat_map, filter_map}
use Rattle.std.specs.Map.{keys_of}
use Rattle.std.specs.FinMap.{is_sorted}
use Rattle.std.specs.FinMap.Entries.{is_sorted-put, find-put, find, put, by_order}
use Rattle.std.specs.Ordering.{nat_cmp, ordering_then, match_ordering}
use Rattle.std.specs.Cmp.{IsTotalOrder}
use Rattle.std.specs.FinMap.{nat_cmp-IsAntisymmetric}
use Rattle.std.specs.BTreeMap.{insert_entry}
use Rattle.ibc_ids.specs.Texts.{Text, text_cmp, pair_cmp}
use Rattle.ibc_ids.specs.Maps.{at, with}
use Rattle.ibc_ids.specs.Paths.{path}
use Rattle.ibc_ids.specs.declared.key.Key.{Key}
use Rattle.ibc_ids.specs.declared.key.Key.TheVariants as key
use Rattle.ibc_ids.proofs.Texts.{text_cmp_total, text_tied, text_ties}
use Rattle.ibc_merkle.specs.Tree.{Pairs, AreSorted}
use Rattle.ibc_machine.specs.chain.Records.{Core, Channel, client_at, connection_at, channel_at, is_one_of}
use Rattle.ibc_machine.specs.ics24.Values.{Value, NumberIs, value_at, value_bytes, receipt_if}
use Rattle.ibc_machine.specs.ics24.Image.{channel_keys, keys, pair_at, image}
use Rattle.ibc_machine.proofs.Members.{Is_in, in_left, in_right, in_map, in_flat_map, in_filter_map, in_filter_map_from, in_numbers, at_in, in_keys}

-- ---- pairs put one after another

true_from : (b : Bool) → T b → b ≡ true
true_from true h = refl
true_from false h = absurd h

some_same : {A : Type 0} {x y : A} → ◌≡◌ {A = Option A} (Some x) (Some y) → x ≡ y
some_same e = cc

pub put_is_insert : {K X : Type 0} (R : K → K → Ordering) (k : K) (v : X) (es : List (K × X)) → put R k v es ≡ insert_entry R es k v
put_is_insert R k v [] = refl
put_is_insert R k v (e ∷ es) = elim (R k e.0) as (λ o. by_order o ((k, v) ∷ e ∷ es) ((e.0, v) ∷ es) (e ∷ put R k v es) ≡ match_ordering o ((k, v) ∷ e ∷ es) ((e.0, v) ∷ es) (e ∷ insert_entry R es k v)) [ Less ↦ refl | Equal ↦ refl | Greater ↦ ap (λ xs. e ∷ xs) (put_is_insert R k v es) ]

pub at_is_find : {K X : Type 0} (R : K → K → Ordering) (q : K) (es : List (K × X)) → at R q es ≡ find R q es
at_is_find R q [] = refl
at_is_find R q (e ∷ es) = ap (λ o. cond (is_eq (R q e.0)) (Some e.1) o) (at_is_find R q es)

pub at-with : {K X : Type 0} (R : K → K → Ordering) → IsTotalOrder R → (q k : K) (v : X) (es : List (K × X)) → at R q (with R k v es) ≡ cond (is_eq (R q k)) (Some v) (at R q es)
at-with R total q k v es =
    at_is_find R q (with R k v es) ∙ ap (find R q) (sym (put_is_insert R k v es)) ∙ find-put R total q k v es ∙ ap (λ o. cond (is_eq (R q k)) (Some v) o) (sym (at_is_find R q es))

pub sorted-with : {K X : Type 0} (R : K → K → Ordering) → IsTotalOrder R → (k : K) (v : X) (es : List (K × X)) → is_sorted R es ≡ true → is_sorted R (with R k v es) ≡ true
sorted-with R total k v es h = true_from (is_sorted R (with R k v es)) (subst (λ xs. T (is_sorted R xs)) (put_is_insert R k v es) (is_sorted-put R total k v es (passes _ h)))

abbrev put_all : Pairs → Pairs → Pairs
put_all pairs ps = fold (λ (pairs : Pairs) (pair : Text × Text). with text_cmp pair.0 pair.1 pairs) pairs ps

sorted-put_all : (es ps : Pairs) → is_sorted text_cmp es ≡ true → is_sorted text_cmp (put_all es ps) ≡ true
sorted-put_all es [] h = h
sorted-put_all es (p ∷ ps) h = sorted-put_all (with text_cmp p.0 p.1 es) ps (sorted-with text_cmp text_cmp_total p.0 p.1 es h)

put_all_some : (es ps : Pairs) → nat_lt 0 (length es) ≡ true → nat_lt 0 (length (put_all es ps)) ≡ true
put_all_some es [] h = h
put_all_some [] (p ∷ ps) h = put_all_some (with text_cmp p.0 p.1 []) ps refl
put_all_some (e ∷ es) (p ∷ ps) h =
    put_all_some (with text_cmp p.0 p.1 (e ∷ es)) ps
    (elim (text_cmp p.0 e.0) as (λ o. nat_lt 0 (length (match_ordering o ((p.0, p.1) ∷ e ∷ es) ((e.0, p.1) ∷ es) (e ∷ with text_cmp p.0 p.1 es))) ≡ true) [
      | Less ↦ some_length (e ∷ es)
      | Equal ↦ some_length es
      | Greater ↦ some_length (with text_cmp p.0 p.1 es)
    ])
  where
    some_length : (xs : Pairs) → nat_lt 0 (suc (length xs)) ≡ true
    some_length xs = lt-ltb 0 (suc (length xs)) (omega arith)

put_all_first : (p : Text × Text) (ps : Pairs) → nat_lt 0 (length (put_all [] (p ∷ ps))) ≡ true
put_all_first p ps = put_all_some (with text_cmp p.0 p.1 []) ps refl

-- what is found was put there
at-put_all_from : (es ps : Pairs) (q v : Text) → at text_cmp q (put_all es ps) ≡ Some v → (at text_cmp q es ≡ Some v) ⊎ Is_in (q, v) ps
at-put_all_from es [] q v e = inl e
at-put_all_from es (p ∷ ps) q v e =
    elim (at-put_all_from (with text_cmp p.0 p.1 es) ps q v e) [
      | inl w ↦ here (text_cmp q p.0) refl (sym (at-with text_cmp text_cmp_total q p.0 p.1 es) ∙ w)
      | inr w ↦ inr (inr w)
    ]
  where
    here : (o : Ordering) → text_cmp q p.0 ≡ o → cond (is_eq o) (Some p.1) (at text_cmp q es) ≡ Some v → (at text_cmp q es ≡ Some v) ⊎ Is_in (q, v) (p ∷ ps)
    here Less is w = inl w
    here Equal is w =
        let keys = text_tied q p.0 is in
        let values : v ≡ p.1 = cc in
        inr (inl (λ i. (keys i, values i)))
    here Greater is w = inl w

-- what was put there is found, if nothing else was put at its key
at-put_all : (es ps : Pairs) (q v : Text) → ((w : Text) → Is_in (q, w) ps → w ≡ v) → (at text_cmp q es ≡ Some v) ⊎ Is_in (q, v) ps → at text_cmp q (put_all es ps) ≡ Some v
at-put_all es [] q v one (inl e) = e
at-put_all es [] q v one (inr h) = absurd h
at-put_all es (p ∷ ps) q v one h = at-put_all (with text_cmp p.0 p.1 es) ps q v (λ w g. one w (inr g)) (next h)
  where
    put_here : (o : Ordering) → text_cmp q p.0 ≡ o → (at text_cmp q es ≡ Some v) → cond (is_eq o) (Some p.1) (at text_cmp q es) ≡ Some v
    put_here Less is e = e
    put_here Equal is e = ap Some (one p.1 (inl (λ i. (text_tied q p.0 is i, p.1))))
    put_here Greater is e = e

    put_same : (q, v) ≡ p → cond (is_eq (text_cmp q p.0)) (Some p.1) (at text_cmp q es) ≡ Some v
    put_same e = ap (λ (x : Text × Text). cond (is_eq (text_cmp q x.0)) (Some x.1) (at text_cmp q es)) (sym e) ∙ ap (λ o. cond (is_eq o) (Some v) (at text_cmp q es)) (text_ties q)

    next : (at text_cmp q es ≡ Some v) ⊎ Is_in (q, v) (p ∷ ps) → (at text_cmp q (with text_cmp p.0 p.1 es) ≡ Some v) ⊎ Is_in (q, v) ps
    next (inl e) = inl (at-with text_cmp text_cmp_total q p.0 p.1 es ∙ put_here (text_cmp q p.0) refl e)
    next (inr (inl e)) = inl (at-with text_cmp text_cmp_total q p.0 p.1 es ∙ put_same e)
    next (inr (inr g)) = inr g

-- ---- the keys that have a value are listed

pub pair_tied : (x y : Text × Text) → pair_cmp x y ≡ Equal → x ≡ y
pair_tied x y e =
    elim (text_cmp x.0 y.0) as (λ o. text_cmp x.0 y.0 ≡ o → ordering_then o (text_cmp x.1 y.1) ≡ Equal → x ≡ y) [
      | Less ↦ λ p e. absurd (cc)
      | Equal ↦ λ p e. let a = text_tied x.0 y.0 p in let b = text_tied x.1 y.1 e in λ i. (a i, b i)
      | Greater ↦ λ p e. absurd (cc)
    ] refl e

mapped : {A B : Type 0} (f : A → B) (o : Option A) {y : B} → option_map f o ≡ Some y → (x : A) × (o ≡ Some x)
mapped f (Some x) e = (x, refl)
mapped f None e = absurd (cc)

gone_on : {A B : Type 0} (f : A → Option B) (o : Option A) {y : B} → option_and_then f o ≡ Some y → (x : A) × (o ≡ Some x) × (f x ≡ Some y)
gone_on f (Some x) e = (x, refl, e)
gone_on f None e = absurd (cc)

received : (b : Bool) {y : Value} → receipt_if b ≡ Some y → b ≡ true
received true e = refl
received false e = absurd (cc)

module _ (core : Core) where
  in_clients : (k : Key) → Is_in k (map key.ClientState (keys_of core.clients)) → Is_in k (keys core)
  in_clients k h = inr (inr (inr (in_left k (map key.ClientState (keys_of core.clients) ++ map key.Connection (keys_of core.connections)) (flat_map channel_keys core.channels) (in_left k (map key.ClientState (keys_of core.clients)) (map key.Connection (keys_of core.connections)) h))))

  in_connections : (k : Key) → Is_in k (map key.Connection (keys_of core.connections)) → Is_in k (keys core)
  in_connections k h = inr (inr (inr (in_left k (map key.ClientState (keys_of core.clients) ++ map key.Connection (keys_of core.connections)) (flat_map channel_keys core.channels) (in_right k (map key.ClientState (keys_of core.clients)) (map key.Connection (keys_of core.connections)) h))))

  in_channel : (k : Key) (port name : Text) (c : Channel) → channel_at core port name ≡ Some c → Is_in k (channel_keys ((port, name), c)) → Is_in k (keys core)
  in_channel k port name c there h =
      inr (inr (inr (in_right k (map key.ClientState (keys_of core.clients) ++ map key.Connection (keys_of core.connections)) (flat_map channel_keys core.channels)
      (in_flat_map channel_keys ((port, name), c) k core.channels (at_in pair_cmp pair_tied (port, name) c core.channels there) h))))

  listed : (k : Key) (v : Value) → value_at core k ≡ Some v → Is_in k (keys core)
  listed (key.ClientState id) v e =
      let w = mapped _ (client_at core id) e in
      in_clients (key.ClientState id) (in_map key.ClientState id (keys_of core.clients) (in_keys id w.0 core.clients (at_in text_cmp text_tied id w.0 core.clients w.1)))
  listed (key.Connection id) v e =
      let w = mapped _ (connection_at core id) e in
      in_connections (key.Connection id) (in_map key.Connection id (keys_of core.connections) (in_keys id w.0 core.connections (at_in text_cmp text_tied id w.0 core.connections w.1)))
  listed (key.ChannelEnd port name) v e = let w = mapped _ (channel_at core port name) e in in_channel (key.ChannelEnd port name) port name w.0 w.1 (inl refl)
  listed (key.NextSequenceSend port name) v e = let w = mapped _ (channel_at core port name) e in in_channel (key.NextSequenceSend port name) port name w.0 w.1 (inr (inl refl))
  listed (key.NextSequenceRecv port name) v e = let w = mapped _ (channel_at core port name) e in in_channel (key.NextSequenceRecv port name) port name w.0 w.1 (inr (inr (inl refl)))
  listed (key.NextSequenceAck port name) v e = let w = mapped _ (channel_at core port name) e in in_channel (key.NextSequenceAck port name) port name w.0 w.1 (inr (inr (inr (inl refl))))
  listed (key.Commitment port name n) v e =
      let w = gone_on _ (channel_at core port name) e in
      let x = mapped _ (at nat_cmp n w.0.commitments) w.2 in
      let k = key.Commitment port name n in
      in_channel k port name w.0 w.1 (inr (inr (inr (inr
      (in_left k (map (key.Commitment port name) (keys_of w.0.commitments) ++ map (key.Receipt port name) w.0.receipts) (map (key.Acknowledgement port name) (keys_of w.0.acks))
      (in_left k (map (key.Commitment port name) (keys_of w.0.commitments)) (map (key.Receipt port name) w.0.receipts)
      (in_map (key.Commitment port name) n (keys_of w.0.commitments) (in_keys n x.0 w.0.commitments (at_in nat_cmp nat_cmp-IsAntisymmetric n x.0 w.0.commitments x.1)))))))))
  listed (key.Receipt port name n) v e =
      let w = gone_on _ (channel_at core port name) e in
      let k = key.Receipt port name n in
      in_channel k port name w.0 w.1 (inr (inr (inr (inr
      (in_left k (map (key.Commitment port name) (keys_of w.0.commitments) ++ map (key.Receipt port name) w.0.receipts) (map (key.Acknowledgement port name) (keys_of w.0.acks))
      (in_right k (map (key.Commitment port name) (keys_of w.0.commitments)) (map (key.Receipt port name) w.0.receipts)
      (in_map (key.Receipt port name) n w.0.receipts (in_numbers n w.0.receipts (received (is_one_of w.0.receipts n) w.2)))))))))
  listed (key.Acknowledgement port name n) v e =
      let w = gone_on _ (channel_at core port name) e in
      let x = mapped _ (at nat_cmp n w.0.acks) w.2 in
      let k = key.Acknowledgement port name n in
      in_channel k port name w.0 w.1 (inr (inr (inr (inr
      (in_right k (map (key.Commitment port name) (keys_of w.0.commitments) ++ map (key.Receipt port name) w.0.receipts) (map (key.Acknowledgement port name) (keys_of w.0.acks))
      (in_map (key.Acknowledgement port name) n (keys_of w.0.acks) (in_keys n x.0 w.0.acks (at_in nat_cmp nat_cmp-IsAntisymmetric n x.0 w.0.acks x.1))))))))
  listed key.NextClientSequence v e = inl refl
  listed key.NextConnectionSequence v e = inr (inl refl)
  listed key.NextChannelSequence v e = inr (inr (inl refl))

  -- ---- the image

  pub image_sorted : AreSorted (image core)
  unfolding image
  image_sorted =
      let later : List Key = key.NextConnectionSequence ∷ key.NextChannelSequence ∷ map key.ClientState (keys_of core.clients) ++ map key.Connection (keys_of core.connections) ++ flat_map channel_keys core.channels in (
        sorted-put_all [] (filter_map (pair_at core) (keys core)) refl,
        put_all_first (path key.NextClientSequence, value_bytes (NumberIs core.next_client)) (filter_map (pair_at core) later),
      )

  -- the path tells the key among those that have a value
  abbrev pub TellsKey : Key → Type 0
  TellsKey k = (l : Key) (v : Value) → value_at core l ≡ Some v → path l ≡ path k → l ≡ k

  pair_of : (k : Key) (v : Value) → value_at core k ≡ Some v → pair_at core k ≡ Some (path k, value_bytes v)
  pair_of k v e = ap (option_map (λ value. (path k, value_bytes value))) e

  pub pair_from : (k : Key) (q w : Text) → pair_at core k ≡ Some (q, w) → (v : Value) × (value_at core k ≡ Some v) × (path k ≡ q) × (value_bytes v ≡ w)
  pair_from k q w e =
      elim (value_at core k) as (λ o. value_at core k ≡ o → ◌≡◌ {A = Option (Text × Text)} (option_map (λ value. (path k, value_bytes value)) o) (Some (q, w)) → (v : Value) × (value_at core k ≡ Some v) × (path k ≡ q) × (value_bytes v ≡ w)) [
        | None ↦ λ is e. absurd (cc)
        | Some v ↦ λ is e. let same : ◌≡◌ {A = Text × Text} (path k, value_bytes v) (q, w) = cc in (v, is, ap (λ (x : Text × Text). x.0) same, ap (λ (x : Text × Text). x.1) same)
      ] refl e

  pub image_at : (k : Key) → TellsKey k → at text_cmp (path k) (image core) ≡ option_map value_bytes (value_at core k)
  unfolding image
  image_at k tells =
      let ps = filter_map (pair_at core) (keys core) in
      elim (value_at core k) as (λ o. value_at core k ≡ o → at text_cmp (path k) (put_all [] ps) ≡ option_map value_bytes o) [
        | None ↦ λ is. elim (at text_cmp (path k) (put_all [] ps)) as (λ o. at text_cmp (path k) (put_all [] ps) ≡ o → o ≡ None) [
          | None ↦ λ _. refl
          | Some w ↦ λ e. elim (at-put_all_from [] ps (path k) w e) [
            | inl f ↦ absurd (cc)
            | inr h ↦
                let g = in_filter_map_from (pair_at core) (path k, w) (keys core) h in
                let x = pair_from g.0 (path k) w g.2 in
                let same = tells g.0 x.0 x.1 x.2 in
                let both : None ≡ Some x.0 = sym is ∙ sym (ap (value_at core) same) ∙ x.1 in
                absurd (cc)
          ]
        ] refl
        | Some v ↦ λ is.
            let mine = in_filter_map (pair_at core) k (path k, value_bytes v) (keys core) (listed k v is) (pair_of k v is) in
            let one : (w : Text) → Is_in (path k, w) ps → w ≡ value_bytes v = λ w h.
            let g = in_filter_map_from (pair_at core) (path k, w) (keys core) h in
            let x = pair_from g.0 (path k) w g.2 in
            let same = tells g.0 x.0 x.1 x.2 in
            let both : Some x.0 ≡ Some v = sym x.1 ∙ ap (value_at core) same ∙ is in
            sym x.3 ∙ ap value_bytes (some_same both)
            in
            at-put_all [] ps (path k) (value_bytes v) one (inr mine)
      ] refl

  -- what the image has somewhere stands at the path of a key that has the value
  pub image_from : (q w : Text) → at text_cmp q (image core) ≡ Some w → (k : Key) × (v : Value) × (value_at core k ≡ Some v) × (path k ≡ q) × (value_bytes v ≡ w)
  unfolding image
  image_from q w e =
      elim (at-put_all_from [] (filter_map (pair_at core) (keys core)) q w e) [
        | inl f ↦ absurd (cc)
        | inr h ↦
            let g = in_filter_map_from (pair_at core) (q, w) (keys core) h in
            let x = pair_from g.0 q w g.2 in
            (g.0, x.0, x.1, x.2, x.3)
      ]
