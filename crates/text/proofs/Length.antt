-- The most bytes of each text: the longest payload in the longest list takes fewer than `most_text`.
use mathlib.Core.Path.{◌≡◌, refl, ap}
use mathlib.Core.List.{List, [], ◌∷◌}
use Prim.Native.Nat.{ℕ, ◌+◌, ◌*◌, ◌≤◌}
use native.Mathlib.Omega.{arith}
use lib.ListN.{length, take, drop, length-append, take-append-drop}
use Rattle.basics.specs.Lists.{joined}
use Rattle.tables.specs.Tables.{most_payload, most_list}
use Rattle.text.specs.Paste.{RoomForBytes}
use Rattle.text.specs.Text.{text, hex, first_line, second_line, segment_line, segment_text, segment_lines, reading_text, refusal_text, most_text}
use Rattle.text.proofs.Decimal.{most}

pub first_most : (version level mask : ℕ) → length (first_line version level mask) ≤ 63
unfolding first_line joined text
first_most version level mask = simp length-append (omega (arith, most 20 version, most 20 mask))

pub second_most : (differing unreadable : ℕ) → length (second_line differing unreadable) ≤ 63
unfolding second_line joined text
second_most differing unreadable = simp length-append (omega (arith, most 20 differing, most 20 unreadable))

pub segment_line_most : (k mode count : ℕ) → length (segment_line k mode count) ≤ 82
unfolding segment_line joined text
segment_line_most k mode count = simp length-append (omega (arith, most 20 k, most 20 mode, most 20 count))

pub hex_length : (bytes : List ℕ) → length (hex bytes) ≡ 2 * length bytes
unfolding hex
hex_length [] = refl
hex_length (b ∷ bytes) = let e = hex_length bytes in omega arith

pub segment_most : (k mode count : ℕ) (bytes : List ℕ) → length (segment_text k mode count bytes) ≤ 83 + 2 * length bytes
unfolding segment_text joined
segment_most k mode count bytes = simp length-append (omega (arith, segment_line_most k mode count, hex_length bytes))

pub segments_most : (k : ℕ) (payload list : List ℕ) → length (segment_lines k payload list) ≤ 42 * length list + 2 * length payload
unfolding segment_lines
segments_most k payload [] = omega arith
segments_most k payload (mode ∷ []) = omega arith
segments_most k payload (mode ∷ count ∷ list) =
    let cut = ap length (take-append-drop count payload) in
    simp length-append
    (omega (
      arith,
      segment_most k mode count (take count payload),
      segments_most (k + 1) (drop count payload) list,
      cut,
      length-append (take count payload) (drop count payload),
    ))

-- a buffer of `most_text` bytes has room for every text

pub reading_room : (out : List ℕ) (version level mask : ℕ) (payload list : List ℕ) (differing unreadable : ℕ)
    → length payload ≤ most_payload → length list ≤ most_list → most_text ≤ length out
    → RoomForBytes out 0 (reading_text version level mask payload list differing unreadable)
unfolding reading_text joined text
reading_room out version level mask payload list differing unreadable hp hl ho =
    record {
      fits = simp length-append (omega (arith, first_most version level mask, second_most differing unreadable, segments_most 1 payload list));
    }

pub refusal_room : (out : List ℕ) (n : ℕ) → most_text ≤ length out → RoomForBytes out 0 (refusal_text n)
unfolding refusal_text joined text
refusal_room out n h = record { fits = simp length-append (omega (arith, most 20 n)) }
