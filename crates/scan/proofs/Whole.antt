-- The whole walk: what it passes is what the definition receives, as many modules as the version has, each at most 2 where the matrix's are.
use mathlib.Core.Path.{◌≡◌, refl, ap, ap₂, ◌∙◌}
use mathlib.Core.Bool.{cond}
use mathlib.Core.List.{List, [], ◌∷◌, map}
use Prim.Native.Nat.{ℕ, suc, ◌+◌, ◌-◌, ◌*◌, ◌/◌, ◌%◌, ◌≤◌, ◌<◌}
use native.Mathlib.Nat.{div-lt_iff_lt-mul, mod-lt}
use native.Mathlib.Omega.{arith}
use lib.Bits.{bit_xor}
use lib.Dec.{eqb, leb, leb→le}
use lib.ListN.{length, get_or}
use Rattle.basics.specs.Bits.{bit_of}
use Rattle.basics.specs.Lists.{AtMost}
use Rattle.basics.proofs.Lists.{length_map, get_d_map}
use Rattle.basics.proofs.Test.{grid}
use Rattle.tables.specs.Tables.{side, total, surplus, last_version}
use Rattle.modules.specs.Modules.{order, flips}
use Rattle.modules.specs.Kinds.{row_flips}
use Rattle.modules.proofs.Geometry.{placed_once, order_length, flips_le}
use Rattle.scan.specs.Received.{unmasked, received}
use Rattle.scan.specs.Scan.{plain, passed}
use Rattle.scan.proofs.Maps.{row_flips_bit}
use Rattle.scan.proofs.Reading.{plain_at}

map_same : (f g : ℕ → ℕ) (xs : List ℕ) → ((k : ℕ) → k < length xs → f (get_or xs k 0) ≡ g (get_or xs k 0)) → map f xs ≡ map g xs
map_same f g [] h = refl
map_same f g (x ∷ xs) h = ap₂ ◌∷◌ (h 0 (omega arith)) (map_same f g xs (λ k l. h (suc k) (omega arith)))

plain_le : (x f : ℕ) → x ≤ 2 → f ≤ 1 → cond (eqb x 2) 2 (bit_xor x f) ≤ 2
plain_le x f hx hf = leb→le _ _ (grid 3 2 (λ x f. leb (cond (eqb x 2) 2 (bit_xor x f)) 2) tt x f (omega arith) (omega arith))

module _ (v mask : ℕ) (m : List ℕ) (least : 1 ≤ v) (most : v ≤ last_version) where
  flip_at : (rows : List ℕ) → ((i : ℕ) → i < side v → get_or rows i 0 ≡ row_flips mask i) → (p : ℕ) → p < side v * side v → bit_of (get_or rows (p / side v) 0) (p % side v) ≡ flips mask (p / side v) (p % side v)
  flip_at rows stand p h =
      let row : p / side v < side v = (div-lt_iff_lt-mul {k = side v} {x = p} {y = side v} (omega arith)).1 h in
      let column : p % side v < side v = mod-lt p (omega arith) in
      rw (stand (p / side v) row) (row_flips_bit mask (p / side v) (p % side v) (omega arith))

  pub received_passed : (rows : List ℕ) → ((i : ℕ) → i < side v → get_or rows i 0 ≡ row_flips mask i) → passed v rows m (side v * (side v - 1)) ≡ received v mask m
  unfolding passed received order unmasked plain
  received_passed rows stand =
      map_same (plain_at v rows m) (unmasked v mask m) (order v)
      (λ k h. let p : ℕ = get_or (order v) k 0 in
      ap (λ (f : ℕ). cond (eqb (get_or m p 0) 2) 2 (bit_xor (get_or m p 0) f)) (flip_at rows stand p ((placed_once v least most).inside k h)))

  pub received_length : length (received v mask m) ≡ 8 * total v + surplus v
  unfolding received
  received_length = length_map (unmasked v mask m) (order v) ∙ order_length v least most

  pub received_le : length m ≡ side v * side v → AtMost 2 m → AtMost 2 (received v mask m)
  unfolding received unmasked
  received_le long h k l =
      let there : k < length (order v) = rw (length_map (unmasked v mask m) (order v)) at l in
      let p : ℕ = get_or (order v) k 0 in
      let inside : p < side v * side v = (placed_once v least most).inside k there in
      rw (get_d_map (unmasked v mask m) (order v) k 0 0 there)
      (plain_le (get_or m p 0) (flips mask (p / side v) (p % side v)) (h p (omega arith)) (flips_le mask (p / side v) (p % side v)))
