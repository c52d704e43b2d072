-- Laws of numbers as bits: `bits` and `number` are inverse to each other, and what stands where in the bits of bytes.
use mathlib.Core.Path.{◌≡◌, refl, sym, ap, ap₂, ◌∙◌}
use mathlib.Core.List.{List, [], ◌∷◌, ◌++◌, append_assoc}
use Prim.Native.Nat.{ℕ, zero, suc, ◌+◌, ◌-◌, ◌*◌, ◌/◌, ◌%◌, ◌^◌, ◌<◌, ◌≤◌}
use native.Mathlib.Nat.{mod-one, mod-eq_of_lt, pow-suc, add-mul, add_assoc, zero-add, mul_assoc, mul_comm, not-suc-le-zero, le_of_suc-le-suc}
use native.Mathlib.Numerals.{one-add}
use native.Mathlib.Omega.{arith}
use lib.Dec.{lit<}
use lib.Pow.{high, low, field, mod-mod-pow, mod-pow-add}
use lib.ListN.{length, get_or, take, drop, length-append, get_or-append}
use lib.Seq.{take_at, drop_at, drop-append-add, get_or-append-add}
use Rattle.basics.specs.Bits.{bit_of, bits, byte_bits, number_after, number, bytes}
use Rattle.basics.specs.Lists.{AtMost}
use Rattle.basics.proofs.Lists.{at_most_append, at_most_cons}

pub length_bits : (k x : ℕ) → length (bits k x) ≡ k
unfolding bits
length_bits zero x = refl
length_bits (suc k) x = ap suc (length_bits k x)

pub bit_le : (x b : ℕ) → bit_of x b ≤ 1
bit_le x b = omega arith

pub bits_le : (k x : ℕ) → AtMost 1 (bits k x)
unfolding bits
bits_le zero x = λ i h. absurd (not-suc-le-zero h)
bits_le (suc k) x = at_most_cons 1 (bit_of x k) (bits k x) (bit_le x k) (bits_le k x)

pub get_d_bits : (k x i : ℕ) → i < k → get_or (bits k x) i 0 ≡ bit_of x (k - suc i)
unfolding bits
get_d_bits zero x i h = absurd (not-suc-le-zero h)
get_d_bits (suc k) x zero h = ap (bit_of x) (omega arith)
get_d_bits (suc k) x (suc i) h = get_d_bits k x i (le_of_suc-le-suc h) ∙ ap (bit_of x) (omega arith)

pub length_byte_bits : (xs : List ℕ) → length (byte_bits xs) ≡ 8 * length xs
unfolding byte_bits
length_byte_bits [] = refl
length_byte_bits (x ∷ xs) = length-append (bits 8 x) (byte_bits xs) ∙ rw (length_bits 8 x, length_byte_bits xs) (omega arith)

pub byte_bits_le : (xs : List ℕ) → AtMost 1 (byte_bits xs)
unfolding byte_bits
byte_bits_le [] = λ i h. absurd (not-suc-le-zero h)
byte_bits_le (x ∷ xs) = at_most_append 1 (bits 8 x) (byte_bits xs) (bits_le 8 x) (byte_bits_le xs)

pub byte_bits_append : (xs ys : List ℕ) → byte_bits (xs ++ ys) ≡ byte_bits xs ++ byte_bits ys
unfolding byte_bits
byte_bits_append [] ys = refl
byte_bits_append (x ∷ xs) ys = ap (λ (zs : List ℕ). bits 8 x ++ zs) (byte_bits_append xs ys) ∙ sym (append_assoc (bits 8 x) (byte_bits xs) (byte_bits ys))

-- the bits of byte q
pub take_byte_bits : (xs : List ℕ) (q : ℕ) → q < length xs → take 8 (drop (8 * q) (byte_bits xs)) ≡ bits 8 (get_or xs q 0)
unfolding byte_bits
take_byte_bits [] q h = absurd (not-suc-le-zero h)
take_byte_bits (x ∷ xs) zero h = take_at (bits 8 x) (byte_bits xs) 8 (length_bits 8 x)
take_byte_bits (x ∷ xs) (suc q) h =
    let e : 8 * suc q ≡ length (bits 8 x) + 8 * q = rw (length_bits 8 x) (omega arith) in
    ap (λ (n : ℕ). take 8 (drop n (bits 8 x ++ byte_bits xs))) e
    ∙ ap (take 8) (drop-append-add (bits 8 x) (byte_bits xs) (8 * q))
    ∙ take_byte_bits xs q (le_of_suc-le-suc h)

pub get_d_byte_bits : (xs : List ℕ) (q r : ℕ) → r < 8 → q < length xs → get_or (byte_bits xs) (8 * q + r) 0 ≡ bit_of (get_or xs q 0) (7 - r)
unfolding byte_bits
get_d_byte_bits [] q r hr h = absurd (not-suc-le-zero h)
get_d_byte_bits (x ∷ xs) zero r hr h =
    let e : 8 * 0 + r ≡ r = omega arith in
    ap (λ (n : ℕ). get_or (bits 8 x ++ byte_bits xs) n 0) e ∙ get_or-append (bits 8 x) (byte_bits xs) 0 r (rw (length_bits 8 x) hr) ∙ get_d_bits 8 x r hr ∙ ap (bit_of x) (omega arith)
get_d_byte_bits (x ∷ xs) (suc q) r hr h =
    let e : 8 * suc q + r ≡ length (bits 8 x) + (8 * q + r) = rw (length_bits 8 x) (omega arith) in
    ap (λ (n : ℕ). get_or (bits 8 x ++ byte_bits xs) n 0) e ∙ get_or-append-add (bits 8 x) (byte_bits xs) (8 * q + r) 0 ∙ get_d_byte_bits xs q r hr (le_of_suc-le-suc h)

-- ---- numbers from bits

pub number_after_append : (x : ℕ) (xs ys : List ℕ) → number_after x (xs ++ ys) ≡ number_after (number_after x xs) ys
unfolding number_after
number_after_append x [] ys = refl
number_after_append x (a ∷ xs) ys = number_after_append (x * 2 + a) xs ys

-- what stands before counts 2 ^ n fold
one_more : (y b P r : ℕ) → (y * 2 + b) * P + r ≡ y * (P * 2) + (b * P + r)
one_more y b P r =
    ap (λ (n : ℕ). n + r) (add-mul (y * 2) b P ∙ ap (λ (n : ℕ). n + b * P) (mul_assoc y 2 P ∙ ap (λ (n : ℕ). y * n) (mul_comm 2 P)))
    ∙ add_assoc (y * (P * 2)) (b * P) r

pub number_after_number : (y : ℕ) (bs : List ℕ) → number_after y bs ≡ y * 2 ^ length bs + number bs
unfolding number_after number
number_after_number y [] = omega arith
number_after_number y (b ∷ bs) =
    number_after_number (y * 2 + b) bs
    ∙ one_more y b (2 ^ length bs) (number bs)
    ∙ ap₂ (λ (p q : ℕ). y * p + q) (sym (pow-suc 2 (length bs))) (sym (number_after_number b bs) ∙ ap (λ (n : ℕ). number_after n bs) (sym (zero-add b)))

pub number_cons : (b : ℕ) (bs : List ℕ) → number (b ∷ bs) ≡ b * 2 ^ length bs + number bs
unfolding number_after number
number_cons b bs = ap (λ (n : ℕ). number_after n bs) (zero-add b) ∙ number_after_number b bs

pub number_append : (xs ys : List ℕ) → number (xs ++ ys) ≡ number xs * 2 ^ length ys + number ys
unfolding number
number_append xs ys = number_after_append 0 xs ys ∙ number_after_number (number xs) ys

number_nil : number [] ≡ 0
unfolding number number_after
number_nil = refl

pub number_mod : (k x : ℕ) → number (bits k x) ≡ x % 2 ^ k
unfolding bits
number_mod zero x = number_nil ∙ sym (mod-one x)
number_mod (suc k) x =
    number_cons (bit_of x k) (bits k x)
    ∙ rw (length_bits k x, number_mod k x) (sym (mod-pow-add x 1 k))
    ∙ ap (λ (n : ℕ). x % 2 ^ n) (one-add k)

pub number_bits : (k x : ℕ) → x < 2 ^ k → number (bits k x) ≡ x
number_bits k x h = number_mod k x ∙ mod-eq_of_lt h

pub number_lt : (bs : List ℕ) → AtMost 1 bs → number bs < 2 ^ length bs
unfolding number number_after
number_lt [] h = lit< tt
number_lt (b ∷ bs) h =
    rw (number_cons b bs, pow-suc 2 (length bs))
    (under b (2 ^ length bs) (number bs) (h 0 (omega arith)) (number_lt bs (λ i l. h (suc i) (omega arith))))
  where
    under : (b P r : ℕ) → b ≤ 1 → r < P → b * P + r < P * 2
    under zero P r hb hr = omega arith
    under (suc zero) P r hb hr = omega arith
    under (suc (suc b)) P r hb hr = absurd (omega arith)

-- a number's low bits are those of its remainder
pub bit_mod : (x i d : ℕ) → bit_of (x % 2 ^ (d + 1 + i)) i ≡ bit_of x i
bit_mod x i d = rw (field x (d + 1) i, mod-mod-pow (x / 2 ^ i) d 1)

pub bits_mod : (k x d : ℕ) → bits k (x % 2 ^ (d + k)) ≡ bits k x
unfolding bits
bits_mod zero x d = refl
bits_mod (suc k) x d =
    let e : d + suc k ≡ d + 1 + k = omega arith in
    let f : d + suc k ≡ suc d + k = omega arith in
    ap₂ ◌∷◌ (ap (λ (n : ℕ). bit_of (x % 2 ^ n) k) e ∙ bit_mod x k d) (ap (λ (n : ℕ). bits k (x % 2 ^ n)) f ∙ bits_mod k x (suc d))

-- and back
pub bits_number : (bs : List ℕ) → AtMost 1 bs → bits (length bs) (number bs) ≡ bs
unfolding bits
bits_number [] h = refl
bits_number (b ∷ bs) h =
    let n : ℕ = length bs in
    let small : number bs < 2 ^ n = number_lt bs (λ i l. h (suc i) (omega arith)) in
    let c : number (b ∷ bs) ≡ b * 2 ^ n + number bs = number_cons b bs in
    let first : b ≤ 1 = h 0 (omega arith) in
    ap₂ ◌∷◌
    (ap (λ (x : ℕ). bit_of x n) c ∙ ap (λ (x : ℕ). x % 2) (high b n small) ∙ mod-eq_of_lt (omega arith))
    (sym (bits_mod n (number (b ∷ bs)) 0) ∙ ap (bits n) (ap (λ (m : ℕ). number (b ∷ bs) % 2 ^ m) (zero-add n) ∙ ap (λ (x : ℕ). x % 2 ^ n) c ∙ low b n small)
    ∙ bits_number bs (λ i l. h (suc i) (omega arith)))

-- bytes that have the same bits are equal
pub bytes_byte_bits : (xs : List ℕ) → AtMost 255 xs → bytes (length xs) (byte_bits xs) ≡ xs
unfolding bytes byte_bits
bytes_byte_bits [] h = refl
bytes_byte_bits (x ∷ xs) h =
    ap₂ ◌∷◌
    (ap number (take_at (bits 8 x) (byte_bits xs) 8 (length_bits 8 x)) ∙ number_bits 8 x (omega (arith, h 0 (omega arith))))
    (ap (bytes (length xs)) (drop_at (bits 8 x) (byte_bits xs) 8 (length_bits 8 x)) ∙ bytes_byte_bits xs (λ i l. h (suc i) (omega arith)))

pub byte_bits_injective : (xs ys : List ℕ) → AtMost 255 xs → AtMost 255 ys → length xs ≡ length ys → byte_bits xs ≡ byte_bits ys → xs ≡ ys
byte_bits_injective xs ys hx hy l e = sym (bytes_byte_bits xs hx) ∙ ap₂ bytes l e ∙ bytes_byte_bits ys hy

pub length_bytes : (k : ℕ) (bs : List ℕ) → length (bytes k bs) ≡ k
unfolding bytes
length_bytes zero bs = refl
length_bytes (suc k) bs = ap suc (length_bytes k (drop 8 bs))
