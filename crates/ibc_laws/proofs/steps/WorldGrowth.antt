-- How chains and worlds go on, and that each committed block goes on to what is there now.
use Rattle.std.proofs.Common.{◌≡◌, ℕ, zero, suc, ◌+◌, ◌≤◌, ◌<◌, refl, ap, sym, subst, [], ◌∷◌, ◌++◌, length, Option, Some, None, ◌⊎◌, inl, inr, arith, slice_get, le_refl, List}
use Rattle.std.specs.Option.{option_map_or}
use Rattle.ibc_ids.specs.Texts.{Text}
use Rattle.ibc_machine.specs.chain.Records.{Core, Records, Block, MachineChain}
use Rattle.ibc_machine.specs.chain.Handlers.{working_height, host_of}
use Rattle.ibc_machine.specs.chain.Machine.{World, block_of}
use Rattle.ibc_laws.proofs.basics.ListPlaces.{last_or_before, got_below}
use Rattle.ibc_laws.proofs.steps.Seen.{Sees}
use Rattle.ibc_laws.proofs.steps.Told.{Told, Quiet}
use Rattle.ibc_laws.proofs.steps.CoreSteps.{CoreStep}
use Rattle.ibc_laws.proofs.steps.AppSteps.{AppsOf, GoodOf}
use Rattle.ibc_laws.proofs.steps.Growth.{Grows, Grows-refl, Grows-trans}
use Rattle.ibc_laws.proofs.steps.CoreShape.{CoreShaped, core_grows, core_shaped}

-- ---- chains

-- a chain goes on: a block of it was there before, or is what the working block was
pub record ChainGrows (c d : MachineChain) : Type 0 where
  pub core : Grows c.records.core d.records.core
  pub time : c.time ≤ d.time
  pub height : working_height c ≤ working_height d
  pub blocks : (h : ℕ) (b : Block) → block_of h d.committed ≡ Some b
      → (block_of h c.committed ≡ Some b) ⊎ ((h ≡ working_height c) × (b.records ≡ c.records) × (b.time ≡ c.time))

pub ChainGrows-refl : (c : MachineChain) → ChainGrows c c
ChainGrows-refl c = record { core = Grows-refl c.records.core; time = le_refl _; height = le_refl _; blocks = λ h b e. inl e }

-- what is true of each chain on its own: a committed block has its shape, goes on to the records now, and is
-- not later than the working block
pub record ChainShaped (c : MachineChain) : Type 0 where
  pub core : CoreShaped c.records.core
  pub blocks_shaped : (h : ℕ) (b : Block) → block_of h c.committed ≡ Some b → CoreShaped b.records.core
  pub grows : (h : ℕ) (b : Block) → block_of h c.committed ≡ Some b → Grows b.records.core c.records.core
  pub times : (h : ℕ) (b : Block) → block_of h c.committed ≡ Some b → b.time ≤ c.time

pub height_below : (c : MachineChain) (h : ℕ) (b : Block) → block_of h c.committed ≡ Some b → h < working_height c
height_below c zero b e = absurd (cc e)
height_below c (suc h) b e = let lt = got_below c.committed h b e in omega arith

-- ---- the two ways in which a chain moves: a message is accepted, or a block is ended

abbrev pub next_chain : MachineChain → ℕ → MachineChain
next_chain c t = record {
  records = c.records;
  time = t;
  committed = c.committed ++ record { records = c.records; time = c.time } ∷ [];
}

pub data ChainStep (chains : ℕ) (w : World) (k : ℕ) (c : MachineChain) : Told → MachineChain → Type 0 where
  acts : (told : Told) (records : Records) (step : CoreStep w (host_of chains k c) c.records.core told records.core)
      → AppsOf w (host_of chains k c) c.records records.apps told records.core step
      → ChainStep chains w k c told (record c { records = records })
  ends : (t : ℕ) → c.time ≤ t → ChainStep chains w k c Quiet (next_chain c t)

-- where the event is what its type promises, the data that it sends is good
abbrev pub GoodStep : (chains : ℕ) (w : World) (k : ℕ) (c : MachineChain) (told : Told) (d : MachineChain) → ChainStep chains w k c told d → Type 0
GoodStep chains w k c _ d (acts told records step apps) = GoodOf w (host_of chains k c) c.records records.apps told records.core step apps
GoodStep chains w k c told d (ends t later) = Unit {0}

block_is : (h : ℕ) (xs : List Block) (y z : Block) → block_of h (xs ++ y ∷ []) ≡ Some z
    → (block_of h xs ≡ Some z) ⊎ ((h ≡ length xs + 1) × (y ≡ z))
block_is zero xs y z e = absurd (cc e)
block_is (suc h) xs y z e = elim (last_or_before xs y h z e) [
  | inl was ↦ inl was
  | inr new ↦ inr ((let same : h ≡ length xs = new.0 in omega arith), new.1)
]

longer : {A : Type 0} (xs : List A) (y : A) → length xs + 1 ≤ length (xs ++ y ∷ []) + 1
longer [] y = omega arith
longer (x ∷ xs) y = let h = longer xs y in omega arith

module _ (chains : ℕ) (w : World) (k : ℕ) (c : MachineChain) (h : ChainShaped c) where
  pub chain_grows : (told : Told) (d : MachineChain) → ChainStep chains w k c told d → ChainGrows c d
  chain_grows _ d (acts told records s apps) = record {
    core = core_grows w (host_of chains k c) c.records.core h.core told records.core s;
    time = le_refl _;
    height = le_refl _;
    blocks = λ n b e. inl e;
  }
  chain_grows told d (ends t later) = record {
    core = Grows-refl c.records.core;
    time = later;
    height = longer c.committed _;
    blocks = λ n b e. elim (block_is n c.committed _ b e) [
      | inl was ↦ inl was
      | inr new ↦ inr (new.0, ap (λ (z : Block). z.records) (sym new.1), ap (λ (z : Block). z.time) (sym new.1))
    ];
  }

  pub chain_shaped : (told : Told) (d : MachineChain) → ChainStep chains w k c told d → ChainShaped d
  chain_shaped _ d (acts told records s apps) = record {
    core = core_shaped w (host_of chains k c) c.records.core h.core told records.core s;
    blocks_shaped = h.blocks_shaped;
    grows = λ n b e. Grows-trans (h.grows n b e) (core_grows w (host_of chains k c) c.records.core h.core told records.core s);
    times = h.times;
  }
  chain_shaped told d (ends t later) = record {
    core = h.core;
    blocks_shaped = λ n b e. elim (block_is n c.committed _ b e) [
      | inl f ↦ h.blocks_shaped n b f
      | inr f ↦ subst (λ (z : Block). CoreShaped z.records.core) f.1 h.core
    ];
    grows = λ n b e. elim (block_is n c.committed _ b e) [
      | inl f ↦ h.grows n b f
      | inr f ↦ subst (λ (z : Block). Grows z.records.core c.records.core) f.1 (Grows-refl c.records.core)
    ];
    times = λ n b e. elim (block_is n c.committed _ b e) [
      | inl f ↦ (let low = h.times n b f in omega arith)
      | inr f ↦ subst (λ (z : Block). z.time ≤ t) f.1 later
    ];
  }

-- ---- worlds

-- every chain stays, and goes on
pub record WorldGrows (w v : World) : Type 0 where
  pub each : (y : ℕ) (c : MachineChain) → slice_get w y ≡ Some c → (d : MachineChain) × (slice_get v y ≡ Some d) × ChainGrows c d

pub WorldGrows-refl : (w : World) → WorldGrows w w
WorldGrows-refl w = record { each = λ y c e. (c, e, ChainGrows-refl c) }

-- this holds of the core of the chain now
pub record At (w : World) (y : ℕ) (P : Core → Type 0) : Type 0 where
  pub chain : MachineChain
  pub there : slice_get w y ≡ Some chain
  pub holds : P chain.records.core

pub At-grows : {w v : World} {y : ℕ} {P Q : Core → Type 0} → WorldGrows w v
    → ((r s : Core) → Grows r s → P r → Q s) → At w y P → At v y Q
At-grows grows f at =
    let new = grows.each _ at.chain at.there in
    record { chain = new.0; there = new.1; holds = f at.chain.records.core new.0.records.core new.2.core at.holds }

pub record Shaped (w : World) : Type 0 where
  pub each : (y : ℕ) (c : MachineChain) → slice_get w y ≡ Some c → ChainShaped c

-- a block that was seen, with the chain that committed it
pub record SeenOf {w : World} {core : Core} {client : Text} {height : ℕ} {P : Block → Type 0} (s : Sees w core client height P) : Type 0 where
  pub chain : MachineChain
  pub there : slice_get w s.tracked.state.chain ≡ Some chain
  pub stood : block_of height chain.committed ≡ Some s.block

pub seen_of : {w : World} {core : Core} {client : Text} {height : ℕ} {P : Block → Type 0}
    (s : Sees w core client height P) → SeenOf s
seen_of {w} {core} {client} {height} {P} s = go (slice_get w s.tracked.state.chain) refl s.stood
  where
    none : (h : ℕ) (b : Block) → block_of h [] ≡ Some b → ⊥
    none zero b e = absurd (cc e)
    none (suc h) b e = absurd (cc e)

    go : (o : Option MachineChain) → slice_get w s.tracked.state.chain ≡ o
        → block_of height (option_map_or (λ (c : MachineChain). c.committed) o []) ≡ Some s.block → SeenOf s
    go (Some c) is e = record { chain = c; there = is; stood = e }
    go None is e = absurd (none height s.block e)

-- what was seen at a height has gone on to what is there now
pub seen_now : {w : World} {core : Core} {client : Text} {height : ℕ} {P : Block → Type 0} {Q : Core → Type 0} → Shaped w
    → (s : Sees w core client height P) → ((b : Block) (t : Core) → Grows b.records.core t → P b → Q t)
    → At w s.tracked.state.chain Q
seen_now {w} {core} {client} {height} {P} {Q} all s f =
    let of = seen_of s in
    record {
      chain = of.chain;
      there = of.there;
      holds = f s.block of.chain.records.core ((all.each s.tracked.state.chain of.chain of.there).grows height s.block of.stood) s.had;
    }
