-- What two paths set in a store leave.
use Rattle.std.proofs.Common.{◌≡◌, [], ◌∷◌, ap, ◌∙◌, Option}
use Rattle.ibc_ids.specs.Texts.{Text, text_cmp}
use Rattle.ibc_ids.specs.Maps.{with, without}
use Rattle.ibc_merkle.specs.Tree.{Pairs}
use Rattle.ibc_path_store.specs.StoreModel.{StoreModel}
use Rattle.ibc_records.specs.Entries.{with_all, with_entry}

-- the second store is the first but for its pairs and its room
abbrev pub Rewrites : StoreModel → StoreModel → Type 0
Rewrites old new = new ≡ record old { pairs = new.pairs; room = new.room }

pub rewrites_twice : (a b c : StoreModel) → Rewrites a b → Rewrites b c → Rewrites a c
rewrites_twice a b c e f = λ i. record {
  pairs = c.pairs;
  room = c.room;
  time = (ap (λ (s : StoreModel). s.time) f ∙ ap (λ (s : StoreModel). s.time) e) i;
  window = (ap (λ (s : StoreModel). s.window) f ∙ ap (λ (s : StoreModel). s.window) e) i;
  gone = (ap (λ (s : StoreModel). s.gone) f ∙ ap (λ (s : StoreModel). s.gone) e) i;
  kept = (ap (λ (s : StoreModel). s.kept) f ∙ ap (λ (s : StoreModel). s.kept) e) i;
  hashed = (ap (λ (s : StoreModel). s.hashed) f ∙ ap (λ (s : StoreModel). s.hashed) e) i;
}

-- the store has these values at these paths
abbrev pub SetsAll : StoreModel → Pairs → StoreModel → Type 0
SetsAll old entries new = new ≡ record old { pairs = with_all entries old.pairs; room = new.room }

-- the store has the value at the path
abbrev pub Sets : StoreModel → Text → Text → StoreModel → Type 0
Sets old path value new = new ≡ record old { pairs = with text_cmp path value old.pairs; room = new.room }

sets_rewrites : (old : StoreModel) (pairs : Pairs) (new : StoreModel) → new ≡ record old { pairs = pairs; room = new.room } → Rewrites old new
sets_rewrites old pairs new e = λ i. record {
  pairs = new.pairs;
  room = new.room;
  time = ap (λ (s : StoreModel). s.time) e i;
  window = ap (λ (s : StoreModel). s.window) e i;
  gone = ap (λ (s : StoreModel). s.gone) e i;
  kept = ap (λ (s : StoreModel). s.kept) e i;
  hashed = ap (λ (s : StoreModel). s.hashed) e i;
}

-- a store whose pairs are these, and which is the old one otherwise
pub record Becomes (old : StoreModel) (pairs : Pairs) (new : StoreModel) : Type 0 where
  pub rewrites : Rewrites old new
  pub pairs_are : new.pairs ≡ pairs

-- room was made
pub becomes_roomy : (old new : StoreModel) → new ≡ record old { room = new.room } → Becomes old old.pairs new
becomes_roomy old new e = record {
  rewrites = λ i. record {
    pairs = new.pairs;
    room = new.room;
    time = ap (λ (s : StoreModel). s.time) e i;
    window = ap (λ (s : StoreModel). s.window) e i;
    gone = ap (λ (s : StoreModel). s.gone) e i;
    kept = ap (λ (s : StoreModel). s.kept) e i;
    hashed = ap (λ (s : StoreModel). s.hashed) e i;
  };
  pairs_are = ap (λ (s : StoreModel). s.pairs) e;
}

-- more paths were set
pub becomes_set_all : (old : StoreModel) (pairs : Pairs) (mid new : StoreModel) {entries entries' : Pairs} → Becomes old pairs mid → SetsAll mid entries new → entries ≡ entries' → Becomes old (with_all entries' pairs) new
becomes_set_all old pairs mid new {entries} {entries'} before sets same = record {
  rewrites = rewrites_twice old mid new before.rewrites (sets_rewrites mid (with_all entries mid.pairs) new sets);
  pairs_are = ap (λ (s : StoreModel). s.pairs) sets ∙ λ i. with_all (same i) (before.pairs_are i);
}

-- one path more was set
pub becomes_set : (old : StoreModel) (pairs : Pairs) (mid new : StoreModel) {p p' v v' : Text} → Becomes old pairs mid → Sets mid p v new → p ≡ p' → v ≡ v' → Becomes old (with text_cmp p' v' pairs) new
becomes_set old pairs mid new {p} {p'} {v} {v'} before sets ep ev =
    becomes_set_all old pairs mid new {entries = (p, v) ∷ []} {entries' = (p', v') ∷ []} before sets (λ i. (ep i, ev i) ∷ [])

-- a path was removed, and another is set, if there is one
abbrev pub Settles : StoreModel → Text → Option (Text × Text) → StoreModel → Type 0
Settles old path other new = new ≡ record old { pairs = with_entry other (without text_cmp path old.pairs); room = new.room }

pub becomes_settled : (old : StoreModel) (pairs : Pairs) (mid new : StoreModel) {p p' : Text} {other other' : Option (Text × Text)} → Becomes old pairs mid → Settles mid p other new → p ≡ p' → other ≡ other'
    → Becomes old (with_entry other' (without text_cmp p' pairs)) new
becomes_settled old pairs mid new {p} {p'} {other} {other'} before settles ep same = record {
  rewrites = rewrites_twice old mid new before.rewrites (sets_rewrites mid (with_entry other (without text_cmp p mid.pairs)) new settles);
  pairs_are = ap (λ (s : StoreModel). s.pairs) settles ∙ λ i. with_entry (same i) (without text_cmp (ep i) (before.pairs_are i));
}
