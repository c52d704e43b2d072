-- Texts computed: case a drawn with mask 2 as document 01 prints it; several segments, an empty one, bytes from A0 on, counts of two digits;
-- each level's letter; an empty list; refusals.
use mathlib.Core.Path.{◌≡◌, refl}
use mathlib.Core.List.{List, [], ◌∷◌, ◌++◌}
use Prim.Native.Nat.{ℕ}
use Prim.Native.String.{String}
use Rattle.basics.specs.Lists.{joined}
use Rattle.text.specs.Text.{text, ended, decimal, hex, hex_digit, letter, first_line, second_line, segment_line, segment_text, segment_lines, reading_text, refusal_text}

-- lines as they stand in document 01
unfoldable pub lines : List String → List ℕ
lines [] = []
lines (s ∷ rest) = ended (text s ∷ []) ++ lines rest

pub case_a : reading_text 1 1 2 (48 ∷ 49 ∷ 50 ∷ 51 ∷ 52 ∷ 53 ∷ 54 ∷ 55 ∷ []) (1 ∷ 8 ∷ []) 0 0
    ≡ lines ("version 1 level M mask 2" ∷ "differing 0 unreadable 0" ∷ "segment 1 mode 1 count 8" ∷ "3031323334353637" ∷ "end" ∷ [])
unfolding lines reading_text first_line second_line segment_lines segment_line segment_text joined text decimal hex hex_digit letter
case_a = refl

pub three_segments : reading_text 10 0 7 (57 ∷ 9 ∷ 160 ∷ 175 ∷ 250 ∷ 255 ∷ 0 ∷ 16 ∷ 58 ∷ 90 ∷ 127 ∷ 128 ∷ []) (1 ∷ 1 ∷ 2 ∷ 0 ∷ 4 ∷ 11 ∷ []) 12 305
    ≡ lines (
    "version 10 level L mask 7"
    ∷ "differing 12 unreadable 305"
    ∷ "segment 1 mode 1 count 1"
    ∷ "39"
    ∷ "segment 2 mode 2 count 0"
    ∷ ""
    ∷ "segment 3 mode 4 count 11"
    ∷ "09a0affaff00103a5a7f80"
    ∷ "end"
    ∷ [])
unfolding lines reading_text first_line second_line segment_lines segment_line segment_text joined text decimal hex hex_digit letter
three_segments = refl

pub level_q : reading_text 2 2 0 [] [] 0 0 ≡ lines ("version 2 level Q mask 0" ∷ "differing 0 unreadable 0" ∷ "end" ∷ [])
unfolding lines reading_text first_line second_line segment_lines joined text decimal letter
level_q = refl

pub level_h : first_line 9 3 5 ≡ lines ("version 9 level H mask 5" ∷ [])
unfolding lines first_line joined text decimal letter
level_h = refl

pub refused : refusal_text 7 ++ refusal_text 17 ≡ lines ("refused 7" ∷ "refused 17" ∷ [])
unfolding lines refusal_text joined text decimal
refused = refl
