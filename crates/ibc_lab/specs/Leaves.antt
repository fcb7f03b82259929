-- Which values have which form, in a script of some chains.
use Rattle.std.specs.Prelude.{ℕ, Bool, false, ◌&&◌, ◌||◌, nat_le, List, [], ◌∷◌, length, option_and_then}
use Rattle.std.specs.Str.{bytes_eq}
use Rattle.serde_json.specs.Data.{Data}
use Rattle.serde_json.specs.Find.{as_number, as_str, as_u64}
use Rattle.ibc_ids.specs.Texts.{Text}
use Rattle.ibc_lab.specs.declared.leaf.Leaf.{Leaf}
use Rattle.ibc_lab.specs.declared.leaf.Leaf.TheVariants as leaf
use Rattle.ibc_lab.specs.Texts.{is_base64, text_fits}
use Rattle.ibc_lab.specs.Values.{items_in, name_in, passes}

abbrev pub is_named : Text → Data → Bool
is_named name chain = passes (λ own. bytes_eq own name) (name_in chain)

-- one of the chains has the name
abbrev pub is_known : List Data → Text → Bool
is_known [] name = false
is_known (chain ∷ chains) name = is_named name chain || is_known chains name

abbrev pub is_within : ℕ → ℕ → ℕ → Bool
is_within least most n = nat_le least n && nat_le n most

abbrev pub has_length : ℕ → ℕ → List Data → Bool
has_length least most items = is_within least most (length items)

abbrev pub leaf_fits : List Data → Leaf → Data → Bool
leaf_fits chains (leaf.Text form) d = passes (text_fits form) (as_str d)
leaf_fits chains leaf.Known d = passes (is_known chains) (as_str d)
leaf_fits chains leaf.Base64 d = passes is_base64 (as_str d)
leaf_fits chains (leaf.Number least most) d = passes (is_within least most) (option_and_then as_u64 (as_number d))
leaf_fits chains (leaf.List least most) d = passes (has_length least most) (items_in d)
