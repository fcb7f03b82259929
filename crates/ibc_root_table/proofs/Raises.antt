-- The raise of a floor, and that of a published word, keep the rule of the table.
use Rattle.std.proofs.Common.{◌≡◌, ◌≢◌, ℕ, ◌+◌, ◌<◌, ◌≤◌, ◌⊎◌, ⊎_elim, inl, inr, List, [], ◌∷◌, ◌++◌, length, get_or, set, drop, slice_get, Some, refl, sym, ap, ◌∙◌, subst, arith, length-set, get_or-set_other, get_or-set_same}
use mathlib.Core.Logic.{dite}
use mathlib.Core.Option.{none}
use native.Mathlib.Decide.{ℕ_discrete}
use Rattle.atomic_table.specs.Table.{State, step, keeps, Allows}
use Rattle.ibc_ids.specs.declared.publication.Publication.{Publication}
use Rattle.ibc_root_table.specs.declared.knowledge.TableKnowledge.{TableKnowledge}
use Rattle.ibc_root_table.specs.declared.shape.Shape.{Shape}
use Rattle.ibc_ids.specs.Publications.{published_by, height_of}
use Rattle.ibc_root_table.specs.Publications.{IsRoot, row_words, bytes_of_row, publication_of_row}
use Rattle.ibc_root_table.specs.Layout.{place, floor_at, RowStands}
use Rattle.ibc_root_table.specs.Rule.{Owns, SeatKnows, Written, IsTableState}
use Rattle.ibc_root_table.specs.SeatSteps.{SeatKnowledge, RaisedFloor, Raised}
use base.Growing.{prefix_refl}
use Rattle.std.proofs.lemmas.Option.{slice_get_within}
use Rattle.ibc_root_table.proofs.Beginnings.{prefix_longer, get_snoc}
use Rattle.ibc_root_table.proofs.Chains.{height_grows, own_added, other_added, own_height, other_height}
use Rattle.ibc_root_table.proofs.WordPlaces.{place_above}
use Rattle.ibc_root_table.proofs.Views.{seats_stay, chains_same, windows_same, capacities_same, within_own, all_floors}

abbrev St : Type 0
St = State (Unit {0}) TableKnowledge

module _ (key : Shape) where
  abbrev Rule : St → Type 0
  Rule = IsTableState key

  -- a floor is the one that was raised, or as it was
  floor_raised : (words : List ℕ) (c x : ℕ) → key.chains + c < length words → floor_at key (set words (key.chains + c) x) c ≡ x
  floor_raised words c x fit = get_or-set_same words (key.chains + c) x 0 fit

  floor_other : (words : List ℕ) (c x d : ℕ) → d ≢ c → floor_at key (set words (key.chains + c) x) d ≡ floor_at key words d
  floor_other words c x d ne = get_or-set_other words (key.chains + c) (key.chains + d) x 0 (λ (e : key.chains + d ≡ key.chains + c). ne (omega arith))

  -- a floor is raised, so that the ring has a slot for the next row
  pub raises_floor : (slots id : ℕ) (me : SeatKnowledge) (word x : ℕ) → me.0.first_own < me.0.shape.chains → Owns me.0.first_own me.0 → x + me.0.shape.window ≡ height_of me.0.first_own me.0.seen + 1 → word ≡ me.0.shape.chains + me.0.first_own
      → Allows Rule slots id me word (λ _. x) (λ _. RaisedFloor (step slots word x 0 none) me x)
  raises_floor slots id me word x inside own up is s r _ at _ =
      let v = me.0 in let c : ℕ = v.first_own in let k = r.each_seat id v at in let shape = k.shape (omega arith) in
      let chains = chains_same shape in let window = windows_same shape in
      let all : height_of c v.seen ≡ height_of c r.log = k.all c own in
      let lc : c < key.chains = omega arith in
      let there : ℕ = key.chains + c in
      let at_floor : word ≡ there = omega arith in
      let ws : List ℕ = set s.words there x in
      let size = r.written.size in
      let fit : there < length s.words = omega arith in
      let now : floor_at key ws c ≡ x = floor_raised s.words c x fit in
      let rises : (d : ℕ) → d < key.chains → floor_at key s.words d ≤ floor_at key ws d = λ d l. dite (ℕ_discrete d c)
      (λ (h : d ≡ c). let same = ap (λ (z : ℕ). floor_at key ws z) h in let before = ap (λ (z : ℕ). floor_at key s.words z) h in dite (ℕ_discrete (floor_at key s.words c) 0)
      (λ (z : floor_at key s.words c ≡ 0). omega arith)
      (λ nz. let g = r.written.gone c lc (omega arith) in omega arith))
      (λ ne. let same = floor_other s.words c x d ne in omega arith) in
      let row_stays : (d m : ℕ) (row : List ℕ) → RowStands key s.words d m row → RowStands key ws d m row = λ d m row stands part lp. let above = place_above key d m part in
      get_or-set_other s.words there (place key d m part) x 0 (λ (e : place key d m part ≡ there). absurd (omega arith)) ∙ stands part lp in
      let w : TableKnowledge = record v { floors = drop key.chains ws } in
      let kept : Rule record { words = ws; homes = s.homes; views = set s.views id w } = record {
        log = r.log;
        owner = r.owner;
        written = record {
          size = length-set s.words there x ∙ size;
          counts = λ d l. get_or-set_other s.words there d x 0 (λ (e : d ≡ there). absurd (omega arith)) ∙ r.written.counts d l;
          rows = λ d m q e low. let below = slice_get_within (published_by d r.log) m q e in let t = r.written.within d (omega arith) in let rise = rises d t.0 in row_stays d m (row_words q) (r.written.rows d m q e (omega arith));
          kept = λ d l. let rise = rises d l in let t = r.written.kept d l in omega arith;
          gone = λ d l some_gone. dite (ℕ_discrete d c)
              (λ (h : d ≡ c). let same = ap (λ (z : ℕ). floor_at key ws z) h in let count = ap (λ (z : ℕ). height_of z r.log) h in omega arith)
              (λ ne. let same = floor_other s.words c x d ne in let t = r.written.gone d l (omega arith) in omega arith);
          ring = r.written.ring;
          within = r.written.within;
          roots = r.written.roots;
        };
        each_seat = seats_stay (SeatKnows key r.log r.owner ws) s.views id w
            record {
              shape = k.shape;
              seen = k.seen;
              heard = k.heard;
              inside = k.inside;
              sole = k.sole;
              all = k.all;
              drafted = λ o. row_stays c (height_of c r.log) v.draft (k.drafted o);
              room = λ o l. let t = k.room o l in let third = t.2 in let rise = rises c lc in (t.0, t.1, omega arith);
              floors = λ d l. omega (arith, all_floors key ws d);
            }
            (λ j d ne e. let o = r.each_seat j d e in record {
              shape = o.shape;
              seen = o.seen;
              heard = o.heard;
              inside = o.inside;
              sole = o.sole;
              all = o.all;
              drafted = λ owns. row_stays d.first_own (height_of d.first_own r.log) d.draft (o.drafted owns);
              room = λ owns l. let t = o.room owns l in let third = t.2 in let rise = rises d.first_own (o.inside d.first_own owns) in (t.0, t.1, omega arith);
              floors = λ a l. let rise = rises a l in let t = o.floors a l in omega arith;
            });
      } in
      (w, keeps, tt, subst (λ (z : ℕ). Rule record { words = set s.words z x; homes = s.homes; views = set s.views id w }) (sym at_floor) kept, (refl, all_floors key ws c ∙ now))

  -- a word of a row, or a floor, is no published word
  row_below : (words : List ℕ) (c x d k : ℕ) (row : List ℕ) → c < key.chains → RowStands key words d k row → RowStands key (set words c x) d k row
  row_below words c x d k row l stands part lp = get_or-set_other words c (place key d k part) x 0 (λ (e : place key d k part ≡ c). let above = place_above key d k part in absurd (omega arith)) ∙ stands part lp

  floor_above : (words : List ℕ) (c x d : ℕ) → c < key.chains → floor_at key (set words c x) d ≡ floor_at key words d
  floor_above words c x d l = get_or-set_other words c (key.chains + d) x 0 (λ (e : key.chains + d ≡ c). absurd (omega arith))

  -- the published word was raised, and the table stands for one more publication
  published : (log : List Publication) (words : List ℕ) (c n : ℕ) (p : Publication) → Written key log words → c < key.chains → p.chain ≡ c → IsRoot p.root → n ≡ height_of c log + 1 → height_of c log < key.capacity
      → height_of c log + 1 ≤ floor_at key words c + key.window → RowStands key words c (height_of c log) (row_words p) → Written key (log ++ p ∷ []) (set words c n)
  published log words c n p r inside chain root up room kept stands =
      let log' : List Publication = log ++ p ∷ [] in
      let other : (d : ℕ) → d ≢ c → p.chain ≢ d = λ d ne e. ne (sym e ∙ chain) in
      let size = r.size in
      let floor : (d : ℕ) → floor_at key (set words c n) d ≡ floor_at key words d = λ d. floor_above words c n d inside in
      let longer = own_height c log p chain in
      let at_end : (d k : ℕ) (q : Publication) → slice_get (published_by d log') k ≡ Some q → (slice_get (published_by d log) k ≡ Some q) ⊎ ((d ≡ c) × (k ≡ height_of c log) × (p ≡ q)) = λ d k q e. dite (ℕ_discrete d c)
      (λ (h : d ≡ c). ⊎_elim (λ t. inl t) (λ t. inr (h, t.0 ∙ ap (λ (z : ℕ). height_of z log) h, t.1)) (get_snoc (published_by d log) p q k (sym (ap (λ l. slice_get l k) (own_added d log p (chain ∙ sym h))) ∙ e)))
      (λ ne. inl (sym (ap (λ l. slice_get l k) (other_added d log p (other d ne))) ∙ e)) in
      record {
        size = length-set words c n ∙ size;
        counts = λ d l. dite (ℕ_discrete d c)
            (λ (h : d ≡ c). let fit : c < length words = omega arith in
            ap (λ (z : ℕ). get_or (set words c n) z 0) h ∙ (get_or-set_same words c n 0 fit ∙ (up ∙ (sym longer ∙ ap (λ (z : ℕ). height_of z log') (sym h)))))
            (λ ne. get_or-set_other words c d n 0 ne ∙ (r.counts d l ∙ sym (other_height d log p (other d ne))));
        rows = λ d k q e low. row_below words c n d k (row_words q) inside (⊎_elim
            (λ (t : slice_get (published_by d log) k ≡ Some q). let same = floor d in r.rows d k q t (omega arith))
            (λ (t : (d ≡ c) × (k ≡ height_of c log) × (p ≡ q)). subst (λ (z : ℕ × ℕ × Publication). RowStands key words z.0 z.1 (row_words z.2)) (λ i. (sym t.0 i, sym t.1 i, t.2 i)) stands)
            (at_end d k q e));
        kept = λ d l. let same = floor d in dite (ℕ_discrete d c)
            (λ (h : d ≡ c). let count = ap (λ (z : ℕ). height_of z log') h in let at = ap (λ (z : ℕ). floor_at key words z) h in omega arith)
            (λ ne. let count = other_height d log p (other d ne) in let t = r.kept d l in omega arith);
        gone = λ d l some_gone. let same = floor d in let t = r.gone d l (omega arith) in let more = height_grows d log log' (p ∷ [], refl) in omega arith;
        ring = r.ring;
        within = λ d l. dite (ℕ_discrete d c)
            (λ (h : d ≡ c). let more = own_height d log p (chain ∙ sym h) in let same = ap (λ (z : ℕ). height_of z log) h in (omega arith, omega arith))
            (λ ne. let same = other_height d log p (other d ne) in let t = r.within d (omega arith) in let most = t.1 in (t.0, omega arith));
        roots = λ d k q e. ⊎_elim (λ (t : slice_get (published_by d log) k ≡ Some q). r.roots d k q t)
            (λ (t : (d ≡ c) × (k ≡ height_of c log) × (p ≡ q)). subst (λ (z : ℕ × Publication). (z.1.chain ≡ z.0) × IsRoot z.1.root) (λ i. (sym t.0 i, t.2 i)) (chain, root))
            (at_end d k q e);
      }

  -- a published word is raised, once the row is stored
  pub raises : (slots id : ℕ) (me : SeatKnowledge) (n : ℕ) → me.0.first_own < me.0.shape.chains → Owns me.0.first_own me.0 → n ≡ height_of me.0.first_own me.0.seen + 1 → 0 < length me.0.draft
      → row_words (publication_of_row me.0.first_own me.0.draft) ≡ me.0.draft → IsRoot (bytes_of_row me.0.draft)
      → Allows Rule slots id me me.0.first_own (λ _. n) (λ _. Raised (step slots me.0.first_own n 0 none) me n)
  raises slots id me n inside own up some_part whole root s r _ at _ =
      let v = me.0 in let c : ℕ = v.first_own in let k = r.each_seat id v at in let shape = k.shape (omega arith) in let chains = chains_same shape in let capacity = capacities_same shape in
      let p : Publication = publication_of_row c v.draft in let log' : List Publication = r.log ++ p ∷ [] in
      let all : height_of c v.seen ≡ height_of c r.log = k.all c own in
      let w : TableKnowledge = record v { seen = log'; draft = [] } in
      let room = k.room own some_part in
      let lc : c < key.chains = omega arith in
      let floor : (d : ℕ) → floor_at key (set s.words c n) d ≡ floor_at key s.words d = λ d. floor_above s.words c n d lc in
      let same : (d : ℕ) → d ≢ c → height_of d log' ≡ height_of d r.log = λ d ne. other_height d r.log p (λ e. ne (sym e)) in
      let stands : RowStands key s.words c (height_of c r.log) (row_words p) = subst (RowStands key s.words c (height_of c r.log)) (sym whole) (k.drafted own) in
      let written = published r.log s.words c n p r.written lc refl root (omega arith) room.0 room.2 stands in (
        w,
        keeps,
        tt,
        record {
          log = log';
          owner = r.owner;
          written = written;
          each_seat = seats_stay (SeatKnows key log' r.owner (set s.words c n)) s.views id w
              record {
                shape = k.shape;
                seen = prefix_refl log';
                heard = prefix_longer v.heard r.log (p ∷ []) k.heard;
                inside = k.inside;
                sole = k.sole;
                all = λ d o. refl;
                drafted = λ o part l. absurd (omega arith);
                room = λ o l. absurd (omega arith);
                floors = λ d l. let e = floor d in let t = k.floors d l in omega arith;
              }
              (λ j d ne e. let o = r.each_seat j d e in let apart : (a : ℕ) → Owns a d → a ≢ c = λ a owns is. ne (sym (o.sole a owns) ∙ (ap r.owner is ∙ k.sole c own)) in record {
                shape = o.shape;
                seen = prefix_longer d.seen r.log (p ∷ []) o.seen;
                heard = prefix_longer d.heard r.log (p ∷ []) o.heard;
                inside = o.inside;
                sole = o.sole;
                all = λ a owns. o.all a owns ∙ sym (same a (apart a owns));
                drafted = λ owns. let f : ℕ = d.first_own in row_below s.words c n f (height_of f log') d.draft lc
                    (subst (λ (z : ℕ). RowStands key s.words f z d.draft) (sym (same f (apart f owns))) (o.drafted owns));
                room = λ owns l. let t = o.room owns l in let first = t.0 in let third = t.2 in let e = same d.first_own (apart d.first_own owns) in let g = floor d.first_own in (omega arith, t.1, omega arith);
                floors = λ a l. let e = floor a in let t = o.floors a l in omega arith;
              });
        },
        (
          refl,
          (k.seen.0, ap (λ l. l ++ p ∷ []) (sym k.seen.1)),
          up ∙ (ap (λ (z : ℕ). z + 1) all ∙ sym (own_height c r.log p refl)),
          within_own log' shape written.within,
        ),
      )
