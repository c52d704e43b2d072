-- The bytes as a field: the numbers below 256, with the laws of `Laws.antt`.
-- `elt` and `val` go between a number of a program and the byte; `elt` is total, so a list of a program's numbers maps to one of bytes with no proof.
use mathlib.Core.Path.{◌≡◌, sym, ap, ◌∙◌}
use Prim.Native.Nat.{ℕ, Fin, ◌%◌, ◌<◌}
use native.Mathlib.Nat.{mod-lt, mod-eq_of_lt}
use native.Mathlib.Omega.{arith}
use native.Mathlib.Decide.{Fin-discrete}
use lib.Dec.{lit<}
use lib.Bits.{bit_xor, xor_comm, xor_self, xor_zero_r, xor_lt, xor_mod}
use Rattle.field.proofs.Algebra.{IsField2}
use Rattle.basics.proofs.Xor.{xor_assoc}
use Rattle.field.proofs.Laws.{mul_lt, inv_lt, mul_assoc, mul_comm, mul_one, mul_xor_r, mul_mod, mul_inv}
use Rattle.field.specs.Field.{mul_n, inv_n}

abbrev pub Byte : Type 0
Byte = Fin 256

abbrev pub val : Byte → ℕ
val a = a.0

unfoldable pub elt : ℕ → Byte
elt n = (n % 256, mod-lt n (lit< tt))

unfoldable pub add : Byte → Byte → Byte
add a b = (bit_xor a.0 b.0, xor_lt 8 a.0 b.0 a.1 b.1)

unfoldable pub mul : Byte → Byte → Byte
mul a b = (mul_n a.0 b.0, mul_lt a.0 b.0 a.1)

unfoldable pub inv : Byte → Byte
inv a = (inv_n a.0, inv_lt a.0 a.1)

pub val_elt : (n : ℕ) → n < 256 → val (elt n) ≡ n
unfolding elt
val_elt n h = mod-eq_of_lt h

pub elt_val : (a : Byte) → elt (val a) ≡ a
elt_val a = native.Mathlib.Fin.val_path (val_elt a.0 a.1)

pub elt_add : (a b : ℕ) → elt (bit_xor a b) ≡ add (elt a) (elt b)
unfolding elt add
elt_add a b = native.Mathlib.Fin.val_path (xor_mod a b 8)

pub elt_mul : (a b : ℕ) → a < 256 → elt (mul_n a b) ≡ mul (elt a) (elt b)
unfolding elt mul
elt_mul a b ha = native.Mathlib.Fin.val_path (mod-eq_of_lt (mul_lt a b ha) ∙ sym (mul_mod a b) ∙ ap (λ (x : ℕ). mul_n x (b % 256)) (sym (mod-eq_of_lt ha)))

pub bytes : IsField2 add mul (elt 0) (elt 1) inv
unfolding add mul inv elt
bytes =
    record {
      add_assoc = λ a b c. native.Mathlib.Fin.val_path (xor_assoc a.0 b.0 c.0);
      add_comm = λ a b. native.Mathlib.Fin.val_path (xor_comm a.0 b.0);
      add_zero = λ a. native.Mathlib.Fin.val_path (xor_zero_r a.0);
      add_self = λ a. native.Mathlib.Fin.val_path (xor_self a.0);
      mul_assoc = λ a b c. native.Mathlib.Fin.val_path (mul_assoc a.0 b.0 c.0 a.1 b.1);
      mul_comm = λ a b. native.Mathlib.Fin.val_path (mul_comm a.0 b.0 a.1 b.1);
      mul_one = λ a. native.Mathlib.Fin.val_path (mul_one a.0 a.1);
      mul_add = λ a b c. native.Mathlib.Fin.val_path (mul_xor_r a.0 b.0 c.0);
      mul_inv = λ a n. native.Mathlib.Fin.val_path (mul_inv a.0 a.1 (λ e. n (native.Mathlib.Fin.val_path e)));
      one_ne_zero = λ e. let z : ◌≡◌ {A = ℕ} 1 0 = ap val e in omega arith;
      discrete = Fin-discrete 256;
    }
