-- Laws of xor that `lib.Bits` lacks: it is associative, and works on each digit.
use mathlib.Core.Path.{◌≡◌, refl, sym, ap, ◌∙◌}
use Prim.Native.Nat.{ℕ, ◌*◌, ◌/◌, ◌%◌, ◌+◌, ◌<◌}
use native.Mathlib.Nat.{add-zero, mod-lt}
use lib.Arith.{bin_ind}
use lib.Dec.{lit<}
use lib.Bits.{bit_xor, differ, xor_step, xor_block, xor_shr, xor_mod, xor_comm, xor_self}
use Rattle.basics.proofs.Test.{same_3}

-- a number's lowest digit is below 2
pub digit : (n : ℕ) → n % 2 < 2
digit n = mod-lt n (lit< tt)

-- doubling, halving and the lowest digit pass through
pub xor_dbl : (a b : ℕ) → bit_xor a b * 2 ≡ bit_xor (a * 2) (b * 2)
xor_dbl a b = sym (simp add-zero at (xor_block 1 a b 0 0 (lit< tt) (lit< tt)))

pub xor_half : (a b : ℕ) → bit_xor a b / 2 ≡ bit_xor (a / 2) (b / 2)
xor_half a b = xor_shr a b 1

pub xor_low : (a b : ℕ) → bit_xor a b % 2 ≡ bit_xor (a % 2) (b % 2)
xor_low a b = xor_mod a b 1

assoc_digit : (x y z : ℕ) → x < 2 → y < 2 → z < 2 → differ (bit_xor x y) z ≡ differ x (bit_xor y z)
assoc_digit = same_3 2 (λ x y z. differ (bit_xor x y) z) (λ x y z. differ x (bit_xor y z)) tt

pub xor_assoc : (a b c : ℕ) → bit_xor (bit_xor a b) c ≡ bit_xor a (bit_xor b c)
xor_assoc =
    bin_ind (λ (a : ℕ). (b c : ℕ) → bit_xor (bit_xor a b) c ≡ bit_xor a (bit_xor b c)) (λ b c. refl)
    (λ a ih b c.
    rw (xor_step (bit_xor a b) c, xor_step a (bit_xor b c), xor_half a b, xor_half b c, xor_low a b, xor_low b c, ih (b / 2) (c / 2))
    (ap (λ (d : ℕ). bit_xor (a / 2) (bit_xor (b / 2) (c / 2)) * 2 + d)
    (assoc_digit (a % 2) (b % 2) (c % 2) (digit a) (digit b) (digit c))))

pub xor_left_comm : (a b c : ℕ) → bit_xor a (bit_xor b c) ≡ bit_xor b (bit_xor a c)
xor_left_comm a b c = sym (xor_assoc a b c) ∙ ap (λ (x : ℕ). bit_xor x c) (xor_comm a b) ∙ xor_assoc b a c

pub xor_cancel : (a b : ℕ) → bit_xor a (bit_xor a b) ≡ b
xor_cancel a b = sym (xor_assoc a a b) ∙ ap (λ (x : ℕ). bit_xor x b) (xor_self a)

-- sorts a sum
pub ruleset xor_sort = (xor_assoc, xor_comm, xor_left_comm)

pub xor_four : (a b c d : ℕ) → bit_xor (bit_xor a b) (bit_xor c d) ≡ bit_xor (bit_xor a c) (bit_xor b d)
xor_four a b c d = simp xor_sort
