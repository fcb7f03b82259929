-- Each load keeps the rule of the table.
use Rattle.std.proofs.Common.{◌≡◌, ℕ, ◌+◌, ◌<◌, List, get_or, set, drop, refl, sym, ap, ◌∙◌, subst, arith}
use mathlib.Core.Option.{none}
use mathlib.Core.List.{IsPrefix}
use lib.Seq.{set-get_or}
use Rattle.atomic_table.specs.Table.{State, step, keeps, stepped, Allows}
use Rattle.ibc_ids.specs.declared.publication.Publication.{Publication}
use Rattle.ibc_root_table.specs.declared.knowledge.TableKnowledge.{TableKnowledge}
use Rattle.ibc_root_table.specs.declared.shape.Shape.{Shape}
use Rattle.ibc_ids.specs.Publications.{published_by}
use Rattle.ibc_root_table.specs.Layout.{place, floor_at}
use Rattle.ibc_root_table.specs.Rule.{Owns, SeatKnows, IsTableState}
use Rattle.ibc_root_table.specs.SeatSteps.{SeatKnowledge, Looked, LookedFloor, Counted, Read, Adopted}
use base.Growing.{prefix_refl}
use Rattle.ibc_root_table.proofs.Beginnings.{prefix_get}
use Rattle.ibc_root_table.proofs.Chains.{published_by-prefix, height_grows}
use Rattle.ibc_root_table.proofs.Views.{seats_stay, chains_same, windows_same, within_own, within_prefix, all_floors}

abbrev St : Type 0
St = State (Unit {0}) TableKnowledge

module _ (key : Shape) where
  abbrev Rule : St → Type 0
  Rule = IsTableState key

  -- a step that changes no word
  unmoved : (s : St) (r : Rule s) (i id : ℕ) (cs : List (ℕ × Unit {0})) (w : TableKnowledge) → SeatKnows key r.log r.owner s.words id w → Rule (stepped s i (get_or s.words i 0) id cs w keeps)
  unmoved s r i id cs w mine = subst (λ (ws : List ℕ). Rule record { words = ws; homes = s.homes; views = set s.views id w }) (sym (set-get_or s.words i 0)) record {
    log = r.log;
    owner = r.owner;
    written = r.written;
    each_seat = seats_stay (SeatKnows key r.log r.owner s.words) s.views id w mine (λ j d _. r.each_seat j d);
  }

  -- what a seat knows that has seen more of the list
  seen_more : (log : List Publication) (owner : ℕ → ℕ) (words : List ℕ) (j : ℕ) (v : TableKnowledge) (more : List Publication) → SeatKnows key log owner words j v → IsPrefix v.seen more → IsPrefix more log → SeatKnows key log owner words j (record v { seen = more })
  seen_more log owner words j v more k longer part = record {
    shape = k.shape;
    seen = part;
    heard = k.heard;
    inside = k.inside;
    sole = k.sole;
    all = λ d o. let all = k.all d o in let a = height_grows d v.seen more longer in let b = height_grows d more log part in omega arith;
    drafted = k.drafted;
    room = k.room;
    floors = k.floors;
  }

  -- a published word is loaded
  pub looks : (slots id : ℕ) (me : SeatKnowledge) (c : ℕ) → c < me.0.shape.chains → Allows Rule slots id me c (λ n. n) (Looked (step slots c 0 0 none) me)
  looks slots id me c inside s r _ at _ = let v = me.0 in let k = r.each_seat id v at in let shape = k.shape (omega arith) in let same = chains_same shape in (
    record v { seen = r.log },
    keeps,
    tt,
    unmoved s r c id me.1 (record v { seen = r.log }) (seen_more r.log r.owner s.words id v r.log k k.seen (prefix_refl r.log)),
    ((refl, k.seen, k.heard, within_own r.log shape r.written.within, λ d o. sym (k.all d o)), r.written.counts c (omega arith)),
  )

  -- a floor is loaded
  pub looks_floor : (slots id : ℕ) (me : SeatKnowledge) (word : ℕ) → 0 < me.0.shape.chains → Allows Rule slots id me word (λ n. n) (LookedFloor (step slots word 0 0 none) me)
  looks_floor slots id me word some_chain s r _ at _ = let v = me.0 in let k = r.each_seat id v at in let shape = k.shape some_chain in let same = chains_same shape in let window = windows_same shape in (
    record v { seen = r.log },
    keeps,
    tt,
    unmoved s r word id me.1 (record v { seen = r.log }) (seen_more r.log r.owner s.words id v r.log k k.seen (prefix_refl r.log)),
    λ c l is.
        let found : get_or s.words word 0 ≡ floor_at key s.words c = ap (λ (i : ℕ). get_or s.words i 0) (is ∙ ap (λ (n : ℕ). n + c) same) in
        let lc : c < key.chains = omega arith in
        let low = k.floors c lc in let kept = r.written.kept c lc in let gone = r.written.gone c lc in
        ((refl, k.seen, k.heard, within_own r.log shape r.written.within, λ d o. sym (k.all d o)), omega arith, (omega arith, λ some_gone. let g = gone (omega arith) in omega arith)),
  )

  -- an own published word is loaded
  pub counts : (slots id : ℕ) (me : SeatKnowledge) (c : ℕ) → c < me.0.shape.chains → Owns c me.0 → Allows Rule slots id me c (λ n. n) (Counted (step slots c 0 0 none) me)
  counts slots id me c inside own s r _ at _ = let v = me.0 in let k = r.each_seat id v at in let same = chains_same (k.shape (omega arith)) in
      (v, keeps, tt, unmoved s r c id me.1 v k, (refl, r.written.counts c (omega arith) ∙ sym (k.all c own)))

  -- a word of a row is loaded
  pub reads : (slots id : ℕ) (me : SeatKnowledge) (word : ℕ) → 0 < me.0.shape.chains → Allows Rule slots id me word (λ n. n) (Read (step slots word 0 0 none) me)
  reads slots id me word some_chain s r _ at _ = let v = me.0 in let k = r.each_seat id v at in let same = k.shape some_chain in let chains = chains_same same in
      let now : List ℕ = drop key.chains s.words in (
        record v { floors = now },
        keeps,
        tt,
        unmoved s r word id me.1 (record v { floors = now }) record {
          shape = k.shape;
          seen = k.seen;
          heard = k.heard;
          inside = k.inside;
          sole = k.sole;
          all = k.all;
          drafted = k.drafted;
          room = k.room;
          floors = λ c l. omega (arith, all_floors key s.words c);
        },
        (
          refl,
          (λ c l. let low = k.floors c (omega arith) in omega (arith, all_floors key s.words c)),
          λ c h part p e l is. let there = prefix_get (published_by c v.seen) (published_by c r.log) h p (published_by-prefix c v.seen r.log k.seen) e in let root = r.written.roots c h p there in (
            (λ low. ap (λ (i : ℕ). get_or s.words i 0) (is ∙ ap (λ (x : Shape). place x c h part) same) ∙ r.written.rows c h p there (omega (arith, all_floors key s.words c)) part l),
            root.1,
            root.0,
          ),
        ),
      )

  -- a published word is loaded, to take over what was heard
  pub adopts : (slots id : ℕ) (me : SeatKnowledge) (word : ℕ) → 0 < me.0.shape.chains → IsPrefix me.0.seen me.0.heard → Allows Rule slots id me word (λ n. n) (Adopted (step slots word 0 0 none) me)
  adopts slots id me word some_chain more s r _ at _ = let v = me.0 in let k = r.each_seat id v at in let shape = k.shape some_chain in
      let now = seen_more r.log r.owner s.words id v v.heard k more k.heard in (
        record v { seen = v.heard },
        keeps,
        tt,
        unmoved s r word id me.1 (record v { seen = v.heard }) now,
        (refl, within_own v.heard shape (within_prefix key v.heard r.log k.heard r.written.within), λ d o. now.all d o ∙ sym (k.all d o)),
      )
