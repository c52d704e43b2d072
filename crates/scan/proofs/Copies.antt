-- A copy of a word is read from its highest bit down, each bit put below the others; it has as many bits as places.
use mathlib.Core.Path.{◌≡◌, refl, sym, ap, ap₂, ◌∙◌}
use mathlib.Core.List.{List, [], ◌∷◌, map}
use Prim.Native.Nat.{ℕ, suc, ◌+◌, ◌-◌, ◌*◌, ◌^◌, ◌≤◌, ◌<◌}
use native.Mathlib.Nat.{pow-suc}
use native.Mathlib.Omega.{arith}
use lib.Dec.{eqb, ltb}
use lib.ListN.{length, get_or, drop, drop_of_length-le}
use lib.Seq.{drop-cons}
use borrow.Author.Tests.{le-leb}
use Rattle.basics.specs.Bits.{low_first}
use Rattle.basics.specs.Sums.{one}
use Rattle.basics.proofs.Lists.{length_map_up_to}
use Rattle.basics.proofs.Sums.{one_le}
use Rattle.modules.specs.Modules.{format_places, version_places}
use Rattle.scan.specs.declared.Copy.{Copy}
use Rattle.scan.specs.Received.{copied, readable}
use Rattle.scan.specs.Scan.{CopyRead}

pub format_length : (v copy : ℕ) → length (format_places v copy) ≡ 15
unfolding format_places
format_length v copy = length_map_up_to _ 15

pub version_length : (v copy : ℕ) → 7 ≤ v → length (version_places v copy) ≡ 18
unfolding version_places
version_length v copy h = rw (le-leb 7 v h) (length_map_up_to _ 18)

bits_lt : (f : ℕ → ℕ) → ((p : ℕ) → f p ≤ 1) → (xs : List ℕ) → low_first (map f xs) < 2 ^ length xs
unfolding low_first
bits_lt f h [] = omega arith
bits_lt f h (x ∷ xs) = rw (pow-suc 2 (length xs)) (omega (arith, h x, bits_lt f h xs))

pub readable_lt : (m places : List ℕ) → readable m places < 2 ^ length places
unfolding readable
readable_lt m places = bits_lt (λ p. one (ltb (get_or m p 0) 2)) (λ p. one_le (ltb (get_or m p 0) 2)) places

-- ---- reading from the highest bit down

pub copy_none : (m places : List ℕ) (n : ℕ) → length places ≤ n → CopyRead m (drop n places) (record { bits = 0; readable = 0 })
unfolding copied readable low_first
copy_none m places n h = rw (drop_of_length-le places h) (record { bits = refl; can = refl })

pub copy_more : (m places : List ℕ) (b p : ℕ) (c r : Copy) → 0 < b → b ≤ length places → CopyRead m (drop b places) c → p ≡ get_or places (b - 1) 0
    → (r.bits ≡ one (eqb (get_or m p 0) 1) + 2 * c.bits) × (r.readable ≡ one (ltb (get_or m p 0) 2) + 2 * c.readable) → CopyRead m (drop (b - 1) places) r
unfolding copied readable low_first
copy_more m places b p c r h l k e w =
    let up : suc (b - 1) ≡ b = omega arith in
    let there : drop (b - 1) places ≡ p ∷ drop b places =
    drop-cons places (b - 1) 0 (omega arith) ∙ rw (e, up) in
    rw there
    (record {
      bits = w.0 ∙ ap (λ (x : ℕ). one (eqb (get_or m p 0) 1) + 2 * x) k.bits;
      can = w.1 ∙ ap (λ (x : ℕ). one (ltb (get_or m p 0) 2) + 2 * x) k.can;
    })

-- no two different copies meet the promise of `format_copy` or of `version_copy`
pub copy_only : (m places : List ℕ) (c d : Copy) → CopyRead m places c → CopyRead m places d → c ≡ d
copy_only m places c d p q = ap₂ copy (p.bits ∙ sym q.bits) (p.can ∙ sym q.can)
  where
    copy : ℕ → ℕ → Copy
    copy bits readable = record { bits = bits; readable = readable }
