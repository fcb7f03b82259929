-- How a block ends: it is committed and published, or it is refused and nothing has changed.
use Rattle.std.specs.Prelude.{◌≡◌, ◌⊎◌, ◌++◌, ◌<◌, ◌≤◌, ◌^◌, ℕ, [], ◌∷◌, length, Result, Ok, Err}
use Rattle.ibc_ids.specs.Texts.{Text}
use Rattle.ibc_ids.specs.Publications.{published_by, height_of as published_height}
use Rattle.ibc_ids.specs.declared.publication.Publication.{Publication}
use Rattle.ibc_ids.specs.declared.refusal.Refusal.{Refusal}
use Rattle.ibc_ids.specs.declared.refusal.Refusal.TheVariants.{NoMemory, TimeBack, TableFull}
use Rattle.ibc_machine.specs.ics24.Image.{image, core_root}
use Rattle.ibc_path_store.specs.StoreModel.{height_of}
use Rattle.ibc_records.specs.RecordsModel.{RecordsModel, core_of, after_commit}
use Rattle.ibc_root_table.specs.Passes.{Sight, SamePass, Publishes, own_chain}

-- the working block as it is published
abbrev pub publication_of : Sight → RecordsModel → Publication
publication_of pass held = record { chain = own_chain pass; root = core_root (core_of held); time = held.store.time }

-- how many heights the chain of a pass has published, as the pass has seen
abbrev pub published_so_far : Sight → ℕ
published_so_far pass = published_height (own_chain pass) pass.seen

-- the block is the next height, and the last publication that the pass has seen
pub record IsCommitted (capacity next_time : ℕ) (held : RecordsModel) (pass : Sight) (given : ℕ × Text) (held' : RecordsModel) (pass' : Sight) : Type 0 where
  pub forward : held.store.time ≤ next_time
  pub room : height_of held.store < capacity
  pub small : length (image (core_of held)) < 2 ^ 64
  pub records : held' ≡ after_commit held next_time held'.store.hashed
  pub root : given.1 ≡ core_root (core_of held)
  pub height : given.0 ≡ published_height (own_chain pass) pass'.seen
  pub same : SamePass pass pass'
  pub publishes : Publishes pass.seen (publication_of pass held) pass'.seen
  pub own : published_by (own_chain pass) pass'.seen ≡ published_by (own_chain pass) pass.seen ++ publication_of pass held ∷ []

-- the first check that failed, or memory ran out
abbrev pub IsRefusalOf : ℕ → ℕ → RecordsModel → Refusal → Type 0
IsRefusalOf capacity next_time held refusal =
    ((refusal ≡ TimeBack) × (next_time < held.store.time))
    ⊎ ((refusal ≡ TableFull) × (held.store.time ≤ next_time) × (capacity ≤ height_of held.store))
    ⊎ (refusal ≡ NoMemory)

abbrev pub IsEnded : ℕ → ℕ → RecordsModel → Sight → Result (ℕ × Text) Refusal → RecordsModel → Sight → Type 0
IsEnded capacity next_time held pass (Ok given) held' pass' = IsCommitted capacity next_time held pass given held' pass'
IsEnded capacity next_time held pass (Err refusal) held' pass' =
    IsRefusalOf capacity next_time held refusal × (held' ≡ held) × (pass' ≡ pass)
