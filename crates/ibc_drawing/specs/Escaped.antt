-- Texts inside of XML (XML 1.0, section 2.4).
use Rattle.std.specs.Prelude.{ℕ, ◌==◌, List, Option, Some, None, chars, codes, encode_utf8, flat_map, if◌then◌else◌, unwrap_or}

-- what stands for a character that XML takes for its own: & and < anywhere, > for its twin, and " in attributes
abbrev pub entity : ℕ → Option (List ℕ)
entity c =
    if c == 38 then Some (codes "&amp;")
    else if c == 60 then Some (codes "&lt;")
    else if c == 62 then Some (codes "&gt;")
    else if c == 34 then Some (codes "&quot;")
    else None

-- the bytes of a character, so that XML has it as text
abbrev pub escaped_bytes : ℕ → List ℕ
escaped_bytes c = unwrap_or (entity c) (encode_utf8 c)

-- a text, so that XML has it as text
abbrev pub escaped_text : List ℕ → List ℕ
escaped_text text = flat_map escaped_bytes (chars text)
