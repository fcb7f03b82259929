-- A pass or a seat that callers see to be of a table fits it inside.
use mathlib.Core.Logic.{dite}
use native.Mathlib.Decide.{ℕ_discrete}
use Rattle.std.proofs.Common.{◌≡◌, ℕ, List, ◌≤◌, sym, ap, ◌∙◌, arith}
use Rattle.ibc_ids.specs.declared.publication.Publication.{Publication}
use Rattle.ibc_ids.specs.Publications.{height_of}
use Rattle.ibc_root_table.specs.declared.table.RootTable.TheInside.{Inside as TableInside}
use Rattle.ibc_root_table.specs.declared.table.Pass.TheInside.{Inside as PassInside}
use Rattle.ibc_root_table.specs.declared.shape.Shape.{Shape}
use Rattle.ibc_root_table.specs.Publications.{IsWithin}
use Rattle.ibc_root_table.specs.Passes.{TableName, Sight}
use Rattle.ibc_root_table.specs.TableFields.{id_of, name_of, sight_of}

pub record Fits (t : TableInside) (p : PassInside) : Type 0 where
  pub id : p.place.table_id ≡ id_of t
  pub shape : p.place.me.0.shape ≡ t.shape
  pub chains : p.place.me.0.shape.chains ≡ t.shape.chains

pub fitting : (t : TableInside) (name : TableName) (p : PassInside) (sight : Sight) → name_of t ≡ name → sight_of p ≡ sight → sight.table ≡ name → Fits t p
fitting t name p sight is_t is_p same =
    let e : (sight_of p).table ≡ name_of t = ap (λ (x : Sight). x.table) is_p ∙ (same ∙ sym is_t) in
    record { id = ap (λ x. x.id) e; shape = ap (λ x. x.shape) e; chains = ap (λ x. x.shape.chains) e }

-- what callers see of a table is so inside
pub record Named (t : TableInside) (name : TableName) : Type 0 where
  pub id : id_of t ≡ name.id
  pub shape : t.shape ≡ name.shape
  pub chains : t.shape.chains ≡ name.shape.chains
  pub window : t.shape.window ≡ name.shape.window

pub named : (t : TableInside) (name : TableName) → name_of t ≡ name → Named t name
named t name e = record { id = ap (λ x. x.id) e; shape = ap (λ x. x.shape) e; chains = ap (λ x. x.shape.chains) e; window = ap (λ x. x.shape.window) e }

-- a chain that the table lacks has no publications
pub no_chain : (shape : Shape) (c : ℕ) (log : List Publication) → IsWithin shape log → shape.chains ≤ c → height_of c log ≡ 0
no_chain shape c log within above = dite (ℕ_discrete (height_of c log) 0) (λ e. e) (λ some_there. let t = within c (omega arith) in let l = t.0 in absurd (omega arith))

-- no chain has published more than it may
pub most_published : (shape : Shape) (c : ℕ) (log : List Publication) → IsWithin shape log → height_of c log ≤ shape.capacity
most_published shape c log within = dite (ℕ_discrete (height_of c log) 0) (λ e. omega arith) (λ some_there. let t = within c (omega arith) in let l = t.1 in omega arith)
