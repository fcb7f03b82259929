-- A store of a word of the next row keeps the rule of the table.
use Rattle.std.proofs.Common.{◌≡◌, ◌≢◌, ℕ, ◌+◌, ◌<◌, ◌≤◌, List, [], ◌∷◌, ◌++◌, length, get_or, set, slice_get, Some, refl, sym, ap, ◌∙◌, subst, arith, length-set, length-append, get_or-set_other, get_or-set_same}
use Rattle.std.proofs.Math.ListN.{get_or-append}
use Rattle.std.proofs.Math.Seq.{get_or-append_seam}
use mathlib.Core.Logic.{dite}
use mathlib.Core.Option.{none}
use native.Mathlib.Decide.{ℕ_discrete}
use Rattle.atomic_table.specs.Table.{State, step, keeps, Allows}
use Rattle.atomic_table.proofs.Lists.{one_turn}
use Rattle.ibc_ids.specs.declared.publication.Publication.{Publication}
use Rattle.ibc_root_table.specs.declared.knowledge.TableKnowledge.{TableKnowledge}
use Rattle.ibc_root_table.specs.declared.shape.Shape.{Shape}
use Rattle.ibc_ids.specs.Publications.{published_by, height_of}
use Rattle.ibc_root_table.specs.Layout.{place, floor_at, RowStands}
use Rattle.ibc_root_table.specs.Rule.{Owns, SeatKnows, Written, IsTableState}
use Rattle.ibc_root_table.specs.SeatSteps.{SeatKnowledge, Drafted}
use Rattle.std.proofs.lemmas.Option.{slice_get_within}
use Rattle.ibc_root_table.proofs.WordPlaces.{place_above, place_inside, place_apart}
use Rattle.ibc_root_table.proofs.Views.{seats_stay, chains_same, windows_same, capacities_same}

abbrev St : Type 0
St = State (Unit {0}) TableKnowledge

module _ (key : Shape) where
  abbrev Rule : St → Type 0
  Rule = IsTableState key

  -- a word of a chain's next row is no word of a row that is kept
  row_apart : (log : List Publication) (words : List ℕ) (r : Written key log words) (c part d k other : ℕ) (q : Publication) → height_of c log + 1 ≤ floor_at key words c + key.window → part < 5 → slice_get (published_by d log) k ≡ Some q
      → floor_at key words d ≤ k → other < 5 → place key d k other ≢ place key c (height_of c log) part
  row_apart log words r c part d k other q room lp e low lo same =
      let below : k < height_of d log = slice_get_within (published_by d log) k q e in
      let t = place_apart key d k other c (height_of c log) part r.ring lo lp same in
      let chain = ap (λ (x : ℕ). height_of x log) t.0 in let floor = ap (λ (x : ℕ). floor_at key words x) t.0 in
      let one = one_turn k (height_of c log) key.window (omega arith) (omega arith) t.1 in absurd (omega arith)

  -- a store among the rows leaves the floors
  floor_below : (words : List ℕ) (c k part x d : ℕ) → d < key.chains → floor_at key (set words (place key c k part) x) d ≡ floor_at key words d
  floor_below words c k part x d l = let above = place_above key c k part in get_or-set_other words (place key c k part) (key.chains + d) x 0 (λ (e : key.chains + d ≡ place key c k part). absurd (omega arith))

  -- a word of a chain's next row was stored, so the table still stands for the list
  stored : (log : List Publication) (words : List ℕ) (c part x : ℕ) → Written key log words → height_of c log + 1 ≤ floor_at key words c + key.window → part < 5 → Written key log (set words (place key c (height_of c log) part) x)
  stored log words c part x r room lp = let n : ℕ = height_of c log in let at : ℕ = place key c n part in let above = place_above key c n part in record {
    size = length-set words at x ∙ r.size;
    counts = λ d l. get_or-set_other words at d x 0 (λ (e : d ≡ at). absurd (omega arith)) ∙ r.counts d l;
    rows = λ d k q e low other lo.
        let inside = slice_get_within (published_by d log) k q e in let chain = (r.within d (omega arith)).0 in let same = floor_below words c n part x d chain in let low' : floor_at key words d ≤ k = omega arith in
        get_or-set_other words at (place key d k other) x 0 (row_apart log words r c part d k other q room lp e low' lo) ∙ r.rows d k q e low' other lo;
    kept = λ d l. let same = floor_below words c n part x d l in let t = r.kept d l in omega arith;
    gone = λ d l some_gone. let same = floor_below words c n part x d l in let t = r.gone d l (omega arith) in omega arith;
    ring = r.ring;
    within = r.within;
    roots = r.roots;
  }

  -- one more word of a row stands
  draft_grows : (words draft : List ℕ) (c k part x : ℕ) → 0 < key.window → length draft ≡ part → part < 5 → place key c k part < length words → RowStands key words c k draft → RowStands key (set words (place key c k part) x) c k (draft ++ x ∷ [])
  draft_grows words draft c k part x ring len lp inside stands other lo =
      let more = length-append draft (x ∷ []) in let at : ℕ = place key c k part in
      dite (ℕ_discrete other part)
      (λ (e : other ≡ part). ap (λ (z : ℕ). get_or (set words at x) (place key c k z) 0) e ∙ (get_or-set_same words at x 0 inside ∙ sym (ap (λ (z : ℕ). get_or (draft ++ x ∷ []) z 0) (e ∙ sym len) ∙ get_or-append_seam draft x [] 0)))
      (λ (ne : other ≢ part). let lower : other < length draft = omega arith in
      get_or-set_other words at (place key c k other) x 0 (λ (same : place key c k other ≡ at). let t = place_apart key c k other c k part ring (omega arith) lp same in ne t.2)
      ∙ (stands other lower ∙ sym (get_or-append draft (x ∷ []) 0 other lower)))

  -- what a seat knows of its draft stays where another chain's row gets a word
  draft_stays : (words draft : List ℕ) (c k part x d m : ℕ) → d ≢ c → 0 < key.window → part < 5 → (0 < length draft → length draft ≤ 5) → RowStands key words d m draft → RowStands key (set words (place key c k part) x) d m draft
  draft_stays words draft c k part x d m ne ring lp fits stands other lo = let f = fits (omega arith) in
      get_or-set_other words (place key c k part) (place key d m other) x 0 (λ same. ne (place_apart key d m other c k part ring (omega arith) lp same).0) ∙ stands other lo

  -- a word of the next row is stored
  pub drafts : (slots id : ℕ) (me : SeatKnowledge) (word x : ℕ) → me.0.first_own < me.0.shape.chains → Owns me.0.first_own me.0 → height_of me.0.first_own me.0.seen < me.0.shape.capacity
      → height_of me.0.first_own me.0.seen + 1 ≤ get_or me.0.floors me.0.first_own 0 + me.0.shape.window → length me.0.draft < 5
      → word ≡ place (me.0.shape) me.0.first_own (height_of me.0.first_own me.0.seen) (length me.0.draft)
      → Allows Rule slots id me word (λ _. x) (λ _. Drafted (step slots word x 0 none) me x)
  drafts slots id me word x inside own space known short is s r _ at _ =
      let v = me.0 in let c : ℕ = v.first_own in let k = r.each_seat id v at in let shape = k.shape (omega arith) in
      let chains = chains_same shape in let window = windows_same shape in let capacity = capacities_same shape in
      let n : ℕ = height_of c r.log in let part : ℕ = length v.draft in let all : height_of c v.seen ≡ n = k.all c own in
      let lc : c < key.chains = omega arith in
      let low = k.floors c lc in
      let room : n + 1 ≤ floor_at key s.words c + key.window = omega arith in
      let there : ℕ = place key c n part in
      let at_place : word ≡ there = is ∙ (ap (λ (z : Shape). place z c (height_of c v.seen) part) shape ∙ ap (λ (z : ℕ). place key c z part) all) in
      let w : TableKnowledge = record v { draft = v.draft ++ x ∷ [] } in
      let size = r.written.size in
      let ring = r.written.ring in
      let fit : there < length s.words = omega (arith, place_inside key c n part lc ring short) in
      let stays : (d : ℕ) → d < key.chains → floor_at key (set s.words there x) d ≡ floor_at key s.words d = floor_below s.words c n part x in
      let kept : Rule record { words = set s.words there x; homes = s.homes; views = set s.views id w } = record {
        log = r.log;
        owner = r.owner;
        written = stored r.log s.words c part x r.written room short;
        each_seat = seats_stay (SeatKnows key r.log r.owner (set s.words there x)) s.views id w
            record {
              shape = k.shape;
              seen = k.seen;
              heard = k.heard;
              inside = k.inside;
              sole = k.sole;
              all = k.all;
              drafted = λ o. draft_grows s.words v.draft c n part x ring refl short fit (k.drafted own);
              room = λ o l. let same = stays c lc in (omega arith, omega (arith, length-append v.draft (x ∷ [])), omega arith);
              floors = λ d l. let same = stays d l in let t = k.floors d l in omega arith;
            }
            (λ j d ne e. let o = r.each_seat j d e in record {
              shape = o.shape;
              seen = o.seen;
              heard = o.heard;
              inside = o.inside;
              sole = o.sole;
              all = o.all;
              drafted = λ owns. draft_stays s.words d.draft c n part x d.first_own (height_of d.first_own r.log) (λ same. ne (sym (o.sole d.first_own owns) ∙ (ap r.owner same ∙ k.sole c own))) ring short (λ l. (o.room owns l).1) (o.drafted owns);
              room = λ owns l. let t = o.room owns l in let third = t.2 in let same = stays d.first_own (o.inside d.first_own owns) in (t.0, t.1, omega arith);
              floors = λ a l. let same = stays a l in let t = o.floors a l in omega arith;
            });
      } in
      (w, keeps, tt, subst (λ (z : ℕ). Rule record { words = set s.words z x; homes = s.homes; views = set s.views id w }) (sym at_place) kept, refl)
