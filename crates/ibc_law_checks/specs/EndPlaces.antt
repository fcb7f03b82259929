-- Where ends of channels stand among those that are noted.
use Rattle.std.specs.Prelude.{ℕ, Bool, ◌==◌, ◌&&◌, List, Option, position, bytes_eq}
use Rattle.ibc_ids.specs.Texts.{Text}
use Rattle.ibc_law_checks.specs.declared.ends.EndNotes.{EndNotes}

abbrev pub is_named : ℕ → Text → Text → EndNotes → Bool
is_named chain port channel end =
    (end.chain == chain) && (bytes_eq end.channel channel && bytes_eq end.port port)

-- the place of the first end of this chain, port and name
abbrev pub place_of_end : List EndNotes → ℕ → Text → Text → Option ℕ
place_of_end ends chain port channel = position (is_named chain port channel) ends
