-- A row's words give back the bytes that they were made of.
use Rattle.std.proofs.Common.{◌≡◌, ℕ, ◌+◌, ◌*◌, ◌<◌, List, ◌++◌, length, take, drop, refl, sym, ap, ◌∙◌, arith, length-drop}
use Rattle.std.specs.Int.{w64, to_be_bytes}
use Rattle.std.proofs.lemmas.List.{drop-drop, get_or-take, get_or-drop, get_or_past, take_all, take-append-drop, length-take-le}
use Rattle.std.proofs.lemmas.Nat.{be_bytes_8}
use mathlib.Core.Logic.{dite}
use native.Mathlib.Decide.{dec_lt}
use Rattle.ibc_root_table.specs.Publications.{IsRoot, root_word, row_of, row_words, bytes_of, bytes_of_row, publication, publication_of_row}

-- a part of a root's bytes
pub eighth : (bytes : List ℕ) (part : ℕ) → IsRoot bytes → part < 4 → to_be_bytes w64 (root_word bytes part) ≡ take 8 (drop (8 * part) bytes)
eighth bytes part root l =
    let len = root.0 in let rest = length-drop (8 * part) bytes in
    let whole : length (take 8 (drop (8 * part) bytes)) ≡ 8 = length-take-le 8 (drop (8 * part) bytes) (omega arith) in
    be_bytes_8 (take 8 (drop (8 * part) bytes)) (root_word bytes part) whole
    (λ i. dite (dec_lt i 8)
    (λ (h : i < 8). let e = get_or-take 8 (drop (8 * part) bytes) i 0 h ∙ get_or-drop (8 * part) bytes i 0 in let small = root.1 (8 * part + i) in omega arith)
    (λ not. let e = get_or_past (take 8 (drop (8 * part) bytes)) i 0 (omega arith) in omega arith))
    refl

pub whole_root : (bytes : List ℕ) → IsRoot bytes → bytes_of (root_word bytes 0) (root_word bytes 1) (root_word bytes 2) (root_word bytes 3) ≡ bytes
whole_root bytes root =
    let len = root.0 in let rest = length-drop 24 bytes in
    let a = eighth bytes 0 root (omega arith) in let b = eighth bytes 1 root (omega arith) in let c = eighth bytes 2 root (omega arith) in
    let d = eighth bytes 3 root (omega arith) ∙ take_all 8 (drop 24 bytes) (omega arith) in
    let third : take 8 (drop 16 bytes) ++ drop 24 bytes ≡ drop 16 bytes = ap (λ l. take 8 (drop 16 bytes) ++ l) (sym (drop-drop 8 16 bytes)) ∙ take-append-drop 8 (drop 16 bytes) in
    let second : take 8 (drop 8 bytes) ++ drop 16 bytes ≡ drop 8 bytes = ap (λ l. take 8 (drop 8 bytes) ++ l) (sym (drop-drop 8 8 bytes)) ∙ take-append-drop 8 (drop 8 bytes) in
    let all : take 8 bytes ++ drop 8 bytes ≡ bytes = take-append-drop 8 bytes in
    (λ i. a i ++ (b i ++ (c i ++ d i))) ∙ (ap (λ l. take 8 bytes ++ (take 8 (drop 8 bytes) ++ l)) third ∙ (ap (λ l. take 8 bytes ++ l) second ∙ all))

-- the row of a publication is drawn up as that publication
pub drawn_row : (c time : ℕ) (root : List ℕ) → IsRoot root → publication_of_row c (row_of root time) ≡ publication c root time
drawn_row c time root is = λ i. publication c (whole_root root is i) time

pub drawn_words : (c time : ℕ) (root : List ℕ) → IsRoot root → row_words (publication_of_row c (row_of root time)) ≡ row_of root time
drawn_words c time root is = ap row_words (drawn_row c time root is)

pub drawn_bytes : (time : ℕ) (root : List ℕ) → IsRoot root → bytes_of_row (row_of root time) ≡ root
drawn_bytes time root is = whole_root root is
