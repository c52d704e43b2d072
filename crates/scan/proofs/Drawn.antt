-- Reading what was drawn gives back exactly the codewords, none unreadable, and the format and version words: each data module holds its
-- codeword's bit flipped by the mask, and the mask taken off flips it back.
use mathlib.Core.Path.{◌≡◌, refl, sym, ap, ◌∙◌}
use mathlib.Core.Bool.{false, cond}
use mathlib.Core.List.{List, [], ◌∷◌, map}
use Prim.Native.Nat.{ℕ, zero, suc, ◌+◌, ◌*◌, ◌/◌, ◌%◌, ◌^◌, ◌≤◌, ◌<◌}
use native.Mathlib.Nat.{mod-eq_of_lt, mod-one, div-one, pow-suc, mul_comm, add_comm}
use native.Mathlib.Numerals.{add-one}
use native.Mathlib.Omega.{arith}
use lib.Bits.{bit_xor}
use lib.Dec.{eqb, eqb→eq, lit<}
use lib.ListN.{length, get_or, take, drop, length-drop}
use lib.Arith.{mod-mul}
use lib.Pow.{pow_pos, shr-shr}
use lib.Seq.{ext_get_or, get_or-take, get_or-drop, length-take-le}
use borrow.Author.Tests.{ne_eqb, le-leb}
use Rattle.basics.specs.Sums.{one}
use Rattle.basics.specs.Bits.{bit_of, bits, byte_bits, low_first}
use Rattle.basics.specs.Lists.{from, up_to, any, AtMost}
use Rattle.basics.proofs.Bits.{bit_le, bits_le, length_byte_bits, byte_bits_le, take_byte_bits, number_bits}
use Rattle.basics.proofs.Lists.{length_map, get_d_map, length_map_up_to, get_d_map_up_to}
use Rattle.basics.proofs.Test.{at, grid}
use Rattle.tables.specs.Tables.{Lawful, side, total, surplus}
use Rattle.words.specs.Words.{format_word, format_bits, version_word}
use Rattle.words.proofs.Bits.{format_bits_lt, format_word_lt, version_word_lt}
use Rattle.modules.specs.Modules.{order, flips, symbol, format_places, version_places}
use Rattle.modules.proofs.Geometry.{at_any, flips_le, filled, format_drawn, version_drawn, order_length}
use Rattle.scan.specs.Received.{copied, unmasked, received, eight, flag, codeword}

-- ---- numbers from their bits, the least significant first

low_first_lem : (k a w : ℕ) → low_first (map (bit_of w) (from a k)) ≡ w / 2 ^ a % 2 ^ k
unfolding from low_first
low_first_lem zero a w = sym (mod-one (w / 2 ^ a))
low_first_lem (suc k) a w =
    let x : ℕ = w / 2 ^ a in
    let half : w / 2 ^ suc a ≡ x / 2 = ap (λ (n : ℕ). w / 2 ^ n) (sym (add-one a)) ∙ sym (shr-shr w a 1) in
    ap (λ (n : ℕ). x % 2 + 2 * n) (low_first_lem k (suc a) w ∙ ap (λ (n : ℕ). n % 2 ^ k) half)
    ∙ add_comm (x % 2) (2 * (x / 2 % 2 ^ k))
    ∙ ap (λ (n : ℕ). n + x % 2) (mul_comm 2 (x / 2 % 2 ^ k))
    ∙ sym (mod-mul x {m = 2 ^ k} {c = 2} (pow_pos k) (lit< tt))
    ∙ ap (λ (n : ℕ). x % n) (sym (pow-suc 2 k))

pub low_first_bits : (k w : ℕ) → w < 2 ^ k → low_first (map (bit_of w) (up_to k)) ≡ w
unfolding up_to
low_first_bits k w h = low_first_lem k 0 w ∙ ap (λ (n : ℕ). n % 2 ^ k) (div-one w) ∙ mod-eq_of_lt h

-- a list of numbers at most 1 has no 2
no_two : (xs : List ℕ) → AtMost 1 xs → any (eqb 2) xs ≡ false
unfolding any
no_two [] h = refl
no_two (x ∷ xs) h = rw (ne_eqb 2 x (λ e. omega (arith, h 0 (omega arith))), no_two xs (λ i l. h (suc i) (omega arith)))

-- a bit flipped twice
unmasked_back : (b f : ℕ) → b ≤ 1 → f ≤ 1 → cond (eqb (bit_xor b f) 2) 2 (bit_xor (bit_xor b f) f) ≡ b
unmasked_back b f hb hf = eqb→eq _ _ (grid 2 2 (λ b f. eqb (cond (eqb (bit_xor b f) 2) 2 (bit_xor (bit_xor b f) f)) b) tt b f (omega arith) (omega arith))

one_bit : (x : ℕ) → x ≤ 1 → one (eqb x 1) ≡ x
one_bit x h = eqb→eq _ _ (at 2 (λ x. eqb (one (eqb x 1)) x) tt x (omega arith))

module _ (v level mask : ℕ) (cs : List ℕ) (lawful : Lawful v level) (masks : mask < 8) (long : length cs ≡ total v) (bytes : AtMost 255 cs) where
  -- ---- the codewords

  received_at : (k : ℕ) → k < 8 * total v → get_or (received v mask (symbol v level mask cs)) k 0 ≡ get_or (byte_bits cs) k 0
  unfolding received unmasked
  received_at k h =
      let inside : k < length (order v) = rw (order_length v lawful.least lawful.most) (omega arith) in
      let p : ℕ = get_or (order v) k 0 in
      get_d_map (unmasked v mask (symbol v level mask cs)) (order v) k 0 0 inside
      ∙ ap (λ (x : ℕ). cond (eqb x 2) 2 (bit_xor x (flips mask (p / side v) (p % side v)))) (filled v lawful.least lawful.most level mask cs k inside)
      ∙ unmasked_back (get_or (byte_bits cs) k 0) (flips mask (p / side v) (p % side v)) (at_any 1 (byte_bits cs) (byte_bits_le cs) k) (flips_le mask (p / side v) (p % side v))

  received_length : length (received v mask (symbol v level mask cs)) ≡ 8 * total v + surplus v
  unfolding received
  received_length = length_map _ (order v) ∙ order_length v lawful.least lawful.most

  pub eight_drawn : (q : ℕ) → q < total v → eight (received v mask (symbol v level mask cs)) q ≡ bits 8 (get_or cs q 0)
  unfolding eight
  eight_drawn q h =
      let r : List ℕ = received v mask (symbol v level mask cs) in
      let b : List ℕ = byte_bits cs in
      let lr : length (take 8 (drop (8 * q) r)) ≡ 8 = length-take-le 8 (drop (8 * q) r) (rw (length-drop (8 * q) r, received_length) (omega arith)) in
      let lb : length (take 8 (drop (8 * q) b)) ≡ 8 = length-take-le 8 (drop (8 * q) b) (rw (length-drop (8 * q) b, length_byte_bits cs, long) (omega arith)) in
      ext_get_or 0 (take 8 (drop (8 * q) r)) (take 8 (drop (8 * q) b)) (lr ∙ sym lb)
      (λ i hi.
      let l : i < 8 = rw lr at hi in
      get_or-take 8 (drop (8 * q) r) i 0 l
      ∙ get_or-drop (8 * q) r i 0
      ∙ received_at (8 * q + i) (omega arith)
      ∙ sym (get_or-drop (8 * q) b i 0)
      ∙ sym (get_or-take 8 (drop (8 * q) b) i 0 l))
      ∙ take_byte_bits cs q (rw long h)

  pub flag_drawn : (q : ℕ) → q < total v → flag (received v mask (symbol v level mask cs)) q ≡ 0
  unfolding flag
  flag_drawn q h = rw (eight_drawn q h, no_two (bits 8 (get_or cs q 0)) (bits_le 8 (get_or cs q 0)))

  pub codeword_drawn : (q : ℕ) → q < total v → codeword (received v mask (symbol v level mask cs)) q ≡ get_or cs q 0
  unfolding codeword
  codeword_drawn q h = rw (flag_drawn q h, eight_drawn q h) (number_bits 8 (get_or cs q 0) (omega (arith, bytes q (omega arith))))

  -- ---- the words

  word_drawn : (k w : ℕ) (places : List ℕ) → length places ≡ k → w < 2 ^ k
      → ((b : ℕ) → b < k → get_or (symbol v level mask cs) (get_or places b 0) 0 ≡ bit_of w b) → copied (symbol v level mask cs) places ≡ w
  unfolding copied
  word_drawn k w places l h bit =
      ap low_first
      (ext_get_or 0 (map (λ p. one (eqb (get_or (symbol v level mask cs) p 0) 1)) places) (map (bit_of w) (up_to k))
      (length_map _ places ∙ l ∙ sym (length_map_up_to (bit_of w) k))
      (λ i hi.
      let b : i < k = rw (length_map (λ p. one (eqb (get_or (symbol v level mask cs) p 0) 1)) places, l) at hi in
      get_d_map (λ p. one (eqb (get_or (symbol v level mask cs) p 0) 1)) places i 0 0 (rw l b)
      ∙ ap (λ (x : ℕ). one (eqb x 1)) (bit i b)
      ∙ one_bit (bit_of w i) (bit_le w i)
      ∙ sym (get_d_map_up_to (bit_of w) k i 0 b)))
      ∙ low_first_bits k w h

  pub format_word_drawn : (copy : ℕ) → copy < 2 → copied (symbol v level mask cs) (format_places v copy) ≡ format_word (format_bits level mask)
  unfolding format_places
  format_word_drawn copy h =
      word_drawn 15 (format_word (format_bits level mask)) (format_places v copy) (length_map_up_to _ 15)
      (format_word_lt (format_bits level mask) (format_bits_lt level mask (omega (arith, lawful.levels)) masks))
      (λ b hb. format_drawn v lawful.least lawful.most level mask cs copy b h hb)

  pub version_word_drawn : (copy : ℕ) → copy < 2 → 7 ≤ v → copied (symbol v level mask cs) (version_places v copy) ≡ version_word v
  unfolding version_places
  version_word_drawn copy h d =
      word_drawn 18 (version_word v) (version_places v copy) (rw (le-leb 7 v d) (length_map_up_to _ 18)) (version_word_lt v (omega (arith, lawful.most)))
      (λ b hb. version_drawn v lawful.least lawful.most level mask cs copy b d h hb)
