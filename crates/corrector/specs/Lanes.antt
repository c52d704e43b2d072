-- Rows of 32 bytes: as lanes that are worked on at once, and as the polynomials and sequences of the theory.
use Rattle.std.specs.Prelude.{List, ℕ, zero, suc, ◌+◌, get_or, replicate}
use Rattle.std.specs.Int.Bits.{bit_xor}
use Rattle.basics.specs.Build.{build}
use Rattle.field.specs.Field.{mul_n}
use Rattle.field.proofs.Byte.{Byte, elt}
use Rattle.theory.proofs.Run.{Run}
use Rattle.theory.proofs.Gf.{gf256}

-- x in every lane
unfoldable pub filled : (x : ℕ) → List ℕ
filled x = replicate 32 x

-- a b + c, lane by lane
unfoldable pub times_plus : (a b c : List ℕ) → List ℕ
times_plus a b c = build (λ i. bit_xor (mul_n (get_or a i 0) (get_or b i 0)) (get_or c i 0)) 32

-- the row without its first i entries
unfoldable pub lowered : (a : List ℕ) (i : ℕ) → List ℕ
lowered a i = build (λ k. get_or a (i + k) 0) 32

-- f moved up by k places
unfoldable pub late : ℕ → (ℕ → ℕ) → ℕ → ℕ
late zero f j = f j
late (suc k) f zero = 0
late (suc k) f (suc j) = late k f j

-- the row moved up by k places
unfoldable pub raised : (a : List ℕ) (k : ℕ) → List ℕ
raised a k = build (late k (λ x. get_or a x 0)) 32

-- the polynomial, lowest coefficient first, or the sequence that a row holds
abbrev pub poly : List ℕ → ℕ → Byte
poly a k = elt (get_or a k 0)

-- the state of a run: a polynomial a of degree l, which is 0 on the first i windows of s, and what it was before it last grew, which was e where it failed
abbrev pub Running : (s : List ℕ) (i l : ℕ) (a b : List ℕ) (e : ℕ) → Type 0
Running s i l a b e = Run gf256 32 (poly s) i l (poly a) (poly b) (elt e)
