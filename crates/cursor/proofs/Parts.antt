-- A field of bits in one byte, and a field of bits in a number: what a byte-wise cursor takes and puts.
-- A number is cut where its bits are cut, so that each law is one about quotients and remainders by powers of two.
use mathlib.Core.Path.{◌≡◌, sym, ap, ap₂, ◌∙◌}
use mathlib.Core.List.{List, [], ◌∷◌, ◌++◌, append_assoc}
use Prim.Native.Nat.{ℕ, zero, suc, ◌+◌, ◌-◌, ◌*◌, ◌/◌, ◌%◌, ◌^◌, ◌<◌, ◌≤◌}
use native.Mathlib.Nat.{zero-add, suc-add, mod-lt, le_of_suc-le-suc, not-suc-le-zero}
use native.Mathlib.Omega.{arith}
use lib.Arith.{digits_lt}
use lib.Pow.{pow_pos, pow-add, shr_lt, high, low, split, shr-shr}
use lib.ListN.{length, get_or, set, take, drop, length-append}
use lib.Seq.{take-nil, take-take, take_at, drop_at, drop-drop, take-add, take-append-le, drop-append-le, take-append-add, drop-append-add, paste, take-paste, drop-paste}
use Rattle.basics.specs.Bits.{bits, byte_bits, number}
use Rattle.basics.proofs.Bits.{length_bits, length_byte_bits, bits_mod, number_append, number_mod, take_byte_bits}
use Rattle.cursor.specs.Cursor.{field}

-- the bits of a number that is put together from two
pub bits_low : (k h l : ℕ) → l < 2 ^ k → bits k (h * 2 ^ k + l) ≡ bits k l
bits_low k h l small =
    sym (bits_mod k (h * 2 ^ k + l) 0) ∙ ap (bits k) (ap (λ (n : ℕ). (h * 2 ^ k + l) % 2 ^ n) (zero-add k) ∙ low h k small)

pub bits_join : (j k h l : ℕ) → l < 2 ^ k → bits (j + k) (h * 2 ^ k + l) ≡ bits j h ++ bits k l
unfolding bits
bits_join zero k h l small = rw zero-add (bits_low k h l small)
bits_join (suc j) k h l small =
    rw suc-add
    (ap₂ ◌∷◌ (ap (λ (n : ℕ). (h * 2 ^ k + l) / 2 ^ n % 2) (swap j k) ∙ ap (λ (n : ℕ). n % 2) (sym (shr-shr (h * 2 ^ k + l) k j) ∙ ap (λ (n : ℕ). n / 2 ^ j) (high h k small)))
    (bits_join j k h l small))
  where
    swap : (j k : ℕ) → j + k ≡ k + j
    swap j k = omega arith

-- a number with the m bits above the lowest l cut out, and others put in
abbrev pub with_part : (x l m v : ℕ) → ℕ
with_part x l m v = (x / 2 ^ l / 2 ^ m * 2 ^ m + v % 2 ^ m) * 2 ^ l + x % 2 ^ l

pub part_bits : (x a m l v : ℕ) → bits (a + m + l) (with_part x l m v) ≡ bits a (x / 2 ^ l / 2 ^ m) ++ (bits m v ++ bits l (x % 2 ^ l))
part_bits x a m l v =
    bits_join (a + m) l (x / 2 ^ l / 2 ^ m * 2 ^ m + v % 2 ^ m) (x % 2 ^ l) (mod-lt x (pow_pos l))
    ∙ ap (λ (r : List ℕ). r ++ bits l (x % 2 ^ l)) (bits_join a m (x / 2 ^ l / 2 ^ m) (v % 2 ^ m) (mod-lt v (pow_pos m)) ∙ ap (λ (r : List ℕ). bits a (x / 2 ^ l / 2 ^ m) ++ r) whole)
    ∙ append_assoc (bits a (x / 2 ^ l / 2 ^ m)) (bits m v) (bits l (x % 2 ^ l))
  where
    whole : bits m (v % 2 ^ m) ≡ bits m v
    whole = ap (λ (n : ℕ). bits m (v % 2 ^ n)) (sym (zero-add m)) ∙ bits_mod m v 0

-- the number itself, cut so
pub cut_bits : (x a m l : ℕ) → bits (a + m + l) x ≡ bits a (x / 2 ^ l / 2 ^ m) ++ (bits m (x / 2 ^ l) ++ bits l (x % 2 ^ l))
cut_bits x a m l =
    ap (bits (a + m + l)) (sym (ap (λ (n : ℕ). n * 2 ^ l + x % 2 ^ l) (split (x / 2 ^ l) m) ∙ split x l)) ∙ part_bits x a m l (x / 2 ^ l)

-- m bits of a number after the first a
pub bits_slice : (n a m x : ℕ) → a + m ≤ n → take m (drop a (bits n x)) ≡ bits m (x / 2 ^ (n - a - m))
bits_slice n a m x h =
    let l : ℕ = n - a - m in
    let e : n ≡ a + m + l = omega arith in
    ap (λ (k : ℕ). take m (drop a (bits k x))) e
    ∙ ap (λ (r : List ℕ). take m (drop a r)) (cut_bits x a m l)
    ∙ ap (take m) (drop_at (bits a (x / 2 ^ l / 2 ^ m)) _ a (length_bits a _))
    ∙ take_at (bits m (x / 2 ^ l)) _ m (length_bits m _)

-- a byte with m of its bits put in, after the first a and before the last l
pub byte_part : (x a m l v : ℕ) → 8 ≡ a + m + l → bits 8 (with_part x l m v) ≡ take a (bits 8 x) ++ (bits m v ++ drop (a + m) (bits 8 x))
byte_part x a m l v e =
    let c : bits 8 x ≡ bits a (x / 2 ^ l / 2 ^ m) ++ (bits m (x / 2 ^ l) ++ bits l (x % 2 ^ l)) = ap (λ (k : ℕ). bits k x) e ∙ cut_bits x a m l in
    let front : take a (bits 8 x) ≡ bits a (x / 2 ^ l / 2 ^ m) = ap (take a) c ∙ take_at (bits a (x / 2 ^ l / 2 ^ m)) _ a (length_bits a _) in
    let back : drop (a + m) (bits 8 x) ≡ bits l (x % 2 ^ l) =
    ap (drop (a + m)) (c ∙ sym (append_assoc (bits a (x / 2 ^ l / 2 ^ m)) (bits m (x / 2 ^ l)) (bits l (x % 2 ^ l))))
    ∙ drop_at (bits a (x / 2 ^ l / 2 ^ m) ++ bits m (x / 2 ^ l)) (bits l (x % 2 ^ l)) (a + m)
    (length-append (bits a (x / 2 ^ l / 2 ^ m)) (bits m (x / 2 ^ l)) ∙ ap₂ ◌+◌ (length_bits a _) (length_bits m _)) in
    ap (λ (k : ℕ). bits k (with_part x l m v)) e ∙ part_bits x a m l v ∙ ap₂ (λ (f b : List ℕ). f ++ (bits m v ++ b)) (sym front) (sym back)

-- it is a byte
module _ (x l m v : ℕ) (hx : x < 256) (h : l + m ≤ 8) where
  pub part_small : with_part x l m v < 256
  part_small = at (8 - l - m) (omega arith)
    where
      at : (a : ℕ) → 8 ≡ a + m + l → with_part x l m v < 256
      at a e =
          let all : 2 ^ a * 2 ^ m * 2 ^ l ≡ 256 = sym (ap (λ (n : ℕ). 2 ^ n) e ∙ pow-add 2 (a + m) l ∙ ap (λ (n : ℕ). n * 2 ^ l) (pow-add 2 a m)) in
          let top : x / 2 ^ l < 2 ^ (a + m) = shr_lt (a + m) l (rw (← e) hx) in
          rw all at (digits_lt (digits_lt (shr_lt a m top) (mod-lt v (pow_pos m))) (mod-lt x (pow_pos l)))

-- a byte stored that differs from the old one in bits that stand in it
pub part_byte_bits : (s : List ℕ) (q r m y : ℕ) (c : List ℕ) → q < length s → r + m ≤ 8
    → bits 8 y ≡ take r (bits 8 (get_or s q 0)) ++ (c ++ drop (r + m) (bits 8 (get_or s q 0)))
    → byte_bits (set s q y) ≡ take (8 * q + r) (byte_bits s) ++ (c ++ drop (8 * q + r + m) (byte_bits s))
unfolding byte_bits
part_byte_bits [] q r m y c h l e = absurd (not-suc-le-zero h)
part_byte_bits (x ∷ s) zero r m y c h l e =
    rw (zero-add, take-append-le r (bits 8 x) (byte_bits s) (rw length_bits (omega arith)), drop-append-le (r + m) (bits 8 x) (byte_bits s) (rw length_bits l), e)
    (simp append_assoc)
part_byte_bits (x ∷ s) (suc q) r m y c h l e =
    ap (λ (t : List ℕ). bits 8 x ++ t) (part_byte_bits s q r m y c (le_of_suc-le-suc h) l e)
    ∙ sym (append_assoc (bits 8 x) (take (8 * q + r) (byte_bits s)) _)
    ∙ ap₂ (λ (f b : List ℕ). f ++ (c ++ b))
    (sym (take-append-add (bits 8 x) (byte_bits s) (8 * q + r)) ∙ ap (λ (n : ℕ). take n (bits 8 x ++ byte_bits s)) (sym (next (8 * suc q + r) (8 * q + r) _ (length_bits 8 x) (omega arith))))
    (sym (drop-append-add (bits 8 x) (byte_bits s) (8 * q + r + m)) ∙ ap (λ (n : ℕ). drop n (bits 8 x ++ byte_bits s)) (sym (next (8 * suc q + r + m) (8 * q + r + m) _ (length_bits 8 x) (omega arith))))
  where
    next : (big small k : ℕ) → k ≡ 8 → big ≡ 8 + small → big ≡ k + small
    next big small k e f = omega arith

-- m elements more of a copy
pub paste_part : (d s : List ℕ) (at k m : ℕ) → at ≤ length d → k ≤ length s
    → take (at + k) (paste d at s k) ++ (take m (drop k s) ++ drop (at + k + m) (paste d at s k)) ≡ paste d at s (k + m)
paste_part d s at k m hd hs =
    rw (take-paste d at s k hd hs, ← drop-drop m (at + k) (paste d at s k), drop-paste d at s k hd hs, drop-drop, take-add k m s, sym (assoc at k m))
    (simp append_assoc)
  where
    assoc : (a b c : ℕ) → a + b + c ≡ a + (b + c)
    assoc a b c = omega arith

-- ---- the cursor's turns

pub drop_take : (k n : ℕ) (l : List ℕ) → drop k (take (k + n) l) ≡ take n (drop k l)
drop_take zero n l = rw zero-add
drop_take (suc k) n [] = rw suc-add (sym (take-nil n))
drop_take (suc k) n (x ∷ l) = rw suc-add (drop_take k n l)

whole : (p : ℕ) → 8 * (p / 8) + p % 8 ≡ p
whole p = omega arith

-- bits that stand in one byte
in_byte : (s : List ℕ) (q r m : ℕ) → q < length s → r + m ≤ 8 → take m (drop (8 * q + r) (byte_bits s)) ≡ bits m (get_or s q 0 / 2 ^ (8 - r - m))
in_byte s q r m h l =
    let e : 8 ≡ r + (8 - r) = omega arith in
    ap (take m) (sym (drop-drop r (8 * q) (byte_bits s)))
    ∙ sym (take-take m (8 - r) (drop r (drop (8 * q) (byte_bits s))) (omega arith))
    ∙ ap (take m) (sym (drop_take r (8 - r) (drop (8 * q) (byte_bits s))) ∙ ap (λ (n : ℕ). drop r (take n (drop (8 * q) (byte_bits s)))) (sym e) ∙ ap (drop r) (take_byte_bits s q h))
    ∙ bits_slice 8 r m (get_or s q 0) l

-- m bits more of a field, that stand in one byte
pub field_part : (s : List ℕ) (at k m : ℕ) → at + k + m ≤ 8 * length s → 0 < m → (at + k) % 8 + m ≤ 8
    → field s at (k + m) ≡ field s at k * 2 ^ m + get_or s ((at + k) / 8) 0 / 2 ^ (8 - (at + k) % 8 - m) % 2 ^ m
unfolding field
field_part s at k m h pos l =
    let x = get_or s ((at + k) / 8) 0 in
    let bs : take m (drop k (drop at (byte_bits s))) ≡ bits m (x / 2 ^ (8 - (at + k) % 8 - m)) =
    ap (take m) (drop-drop k at (byte_bits s) ∙ ap (λ (n : ℕ). drop n (byte_bits s)) (sym (whole (at + k)))) ∙ in_byte s ((at + k) / 8) ((at + k) % 8) m (omega arith) l in
    ap number (take-add k m (drop at (byte_bits s)))
    ∙ number_append (take k (drop at (byte_bits s))) (take m (drop k (drop at (byte_bits s))))
    ∙ ap₂ (λ (n y : ℕ). number (take k (drop at (byte_bits s))) * 2 ^ n + y) (ap length bs ∙ length_bits m _) (ap number bs ∙ number_mod m _)

-- .. from what a turn knows: the bits before it, the power, the turn's bits
pub field_grown : (s : List ℕ) (at k m v p x : ℕ) → at + k + m ≤ 8 * length s → 0 < m → (at + k) % 8 + m ≤ 8 → v ≡ field s at k → p ≡ 2 ^ m
    → x ≡ get_or s ((at + k) / 8) 0 / 2 ^ (8 - (at + k) % 8 - m) % 2 ^ m → v * p + x ≡ field s at (k + m)
field_grown s at k m v p x h pos l ev ep ex = rw (ev, ep, ex) (sym (field_part s at k m h pos l))

-- m bits more put, that stand in one byte
pub put_part : (s t : List ℕ) (at n x k m y a b : ℕ) → k + m ≤ n → at + n ≤ 8 * length s → length t ≡ length s → 0 < m → (at + k) % 8 + m ≤ 8
    → byte_bits t ≡ paste (byte_bits s) at (bits n x) k → a ≡ (at + k) % 8 → b ≡ (at + k) % 8 + m
    → bits 8 y ≡ take a (bits 8 (get_or t ((at + k) / 8) 0)) ++ (bits m (x / 2 ^ (n - k - m)) ++ drop b (bits 8 (get_or t ((at + k) / 8) 0)))
    → byte_bits (set t ((at + k) / 8) y) ≡ paste (byte_bits s) at (bits n x) (k + m)
put_part s t at n x k m y a b h f l pos in_one e ea eb stored =
    part_byte_bits t ((at + k) / 8) ((at + k) % 8) m y (bits m (x / 2 ^ (n - k - m))) (omega arith) in_one (rw (← eb, ← ea) stored)
    ∙ rw (whole (at + k), e, ← bits_slice n k m x h)
    (paste_part (byte_bits s) (bits n x) at k m (rw length_byte_bits (omega arith)) (rw length_bits (omega arith)))
