-- The bytes of `field` as a field of the theory, and the locators of a block's places, which differ.
use mathlib.Core.Path.{◌≡◌, sym, ap, ◌∙◌}
use Prim.Native.Nat.{ℕ, suc, ◌-◌, ◌≤◌}
use native.Mathlib.Omega.{arith}
use Rattle.field.specs.Field.{pow_n}
use Rattle.field.proofs.Algebra.{mul_zero}
use Rattle.field.proofs.Byte.{Byte, val, elt, add, mul, inv, bytes, val_elt}
use Rattle.field.proofs.Laws.{pow_lt, pow_distinct}
use Rattle.theory.proofs.Field.{Field}
use Rattle.theory.proofs.Places.{Apart}

abbrev pub gf256 : Field
gf256 =
    record {
      F = Byte;
      ◌⊕◌ = add;
      ◌⊗◌ = mul;
      𝟘 = elt 0;
      𝟙 = elt 1;
      inv = inv;
      ⊕_assoc = bytes.add_assoc;
      ⊕_comm = bytes.add_comm;
      ⊕_zero = bytes.add_zero;
      ⊕_self = bytes.add_self;
      ⊗_assoc = bytes.mul_assoc;
      ⊗_comm = bytes.mul_comm;
      ⊗_one = bytes.mul_one;
      ⊗_zero = mul_zero bytes;
      ⊗_dist = bytes.mul_add;
      ⊗_inv = bytes.mul_inv;
      one≢zero = bytes.one_ne_zero;
      equal = bytes.discrete;
    }

-- the locator of place j of a word of N bytes, the last of which has the locator 1
unfoldable pub locators : ℕ → ℕ → Byte
locators N j = elt (pow_n (N - suc j))

pub locators_apart : (N : ℕ) → N ≤ 255 → Apart gf256 N (locators N)
unfolding locators
locators_apart N b j k l m e =
    let p : N - suc j ≡ N - suc k =
    pow_distinct (N - suc j) (N - suc k) (omega arith) (omega arith)
    (sym (val_elt (pow_n (N - suc j)) (pow_lt (N - suc j))) ∙ ap val e ∙ val_elt (pow_n (N - suc k)) (pow_lt (N - suc k))) in
    omega arith
