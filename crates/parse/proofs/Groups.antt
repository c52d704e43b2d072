-- The groups of a body, one after the other: the characters, the range and the bits of a body are those of its next group and of what is left.
use mathlib.Core.Path.{◌≡◌, refl, ap, ◌∙◌}
use mathlib.Core.Bool.{Bool, true, false, ◌&&◌}
use mathlib.Core.Logic.{inl, inr, ⊎_elim}
use mathlib.Core.List.{List, [], ◌∷◌, ◌++◌, append_assoc}
use Prim.Native.Nat.{ℕ, zero, suc, ◌+◌, ◌-◌, ◌/◌, ◌%◌, ◌≤◌}
use native.Mathlib.Nat.{not-suc-le-zero}
use native.Mathlib.Omega.{arith}
use lib.Dec.{leb}
use lib.ListN.{length, take, drop, set, length-set}
use lib.Seq.{take-suc-set}
use borrow.Rule.Slice.PartMut.{put_mid}
use Rattle.std.proofs.lemmas.Slice.{take-put_mid}
use borrow.Author.Tests.{le-leb, ne_eqb}
use Rattle.basics.specs.Bits.{number, bytes}
use Rattle.basics.specs.Lists.{AtMost}
use Rattle.cursor.proofs.Bits.{number_small}
use Rattle.stream.specs.Stream.{character, known, body_width}
use Rattle.parse.specs.Groups.{group_of, group_characters, InGroup}
use Rattle.parse.specs.Parse.{digits, digits_in_range, pairs, pairs_in_range, characters, groups_in_range}
use Rattle.parse.proofs.Body.{by_mode}

-- ---- characters written one after the other

module _ (l : List ℕ) (p : ℕ) where
  pub put_one : (a : ℕ) → p + 1 ≤ length l → take (p + 1) (set l p a) ≡ take p l ++ (a ∷ [])
  put_one a h =
      let e : p + 1 ≡ suc p = omega arith in
      ap (λ (n : ℕ). take n (set l p a)) e ∙ take-suc-set l p a (omega arith)

module _ (l : List ℕ) (p : ℕ) where
  pub put_two : (a b : ℕ) → p + 2 ≤ length l → take (p + 2) (set (set l p a) (p + 1) b) ≡ take p l ++ (a ∷ b ∷ [])
  put_two a b h =
      let e : p + 2 ≡ p + 1 + 1 = omega arith in
      ap (λ (n : ℕ). take n (set (set l p a) (p + 1) b)) e
      ∙ put_one (set l p a) (p + 1) b (rw (length-set l p a) (omega arith))
      ∙ ap (λ (x : List ℕ). x ++ (b ∷ [])) (put_one l p a (omega arith))
      ∙ append_assoc (take p l) (a ∷ []) (b ∷ [])

-- ---- a group written

module _ (l out : List ℕ) (p mode size x : ℕ) where
  abbrev pub Placed : Type 0
  Placed = take (p + size) out ≡ take p l ++ group_characters mode size x

module _ (l ys : List ℕ) (p k mode size x : ℕ) (f : p + size ≤ length l) where
  placed : length ys ≡ size → ys ≡ group_characters mode size x → Placed l (put_mid p k l ys) p mode size x
  placed n e = take-put_mid p k l ys (p + size) (omega arith) (omega arith) ∙ ap (λ (zs : List ℕ). take p l ++ zs) e

  pub placed_three : {a b c : ℕ} → size ≡ 3 → a ≡ character (x / 100) → b ≡ character (x / 10 % 10) → c ≡ character (x % 10)
      → ys ≡ a ∷ b ∷ c ∷ [] → Placed l (put_mid p k l ys) p mode size x
  unfolding group_characters
  placed_three e ea eb ec h = placed (rw (e, h)) (rw (e, h, ea, eb, ec))

  pub placed_digits : {a b : ℕ} → size ≡ 2 → mode ≡ 1 → a ≡ character (x / 10) → b ≡ character (x % 10)
      → ys ≡ a ∷ b ∷ [] → Placed l (put_mid p k l ys) p mode size x
  unfolding group_characters
  placed_digits e m ea eb h = placed (rw (e, h)) (rw (e, m, h, ea, eb))

  pub placed_pair : {a b : ℕ} → size ≡ 2 → (mode ≡ 1 → ⊥) → a ≡ character (x / 45) → b ≡ character (x % 45)
      → ys ≡ a ∷ b ∷ [] → Placed l (put_mid p k l ys) p mode size x
  unfolding group_characters
  placed_pair e m ea eb h = placed (rw (e, h)) (rw (e, ne_eqb mode 1 m, h, ea, eb))

-- the last size
pub size_one : (mode size x : ℕ) → InGroup mode size x → (size ≡ 3 → ⊥) → (size ≡ 2 → ⊥) → size ≡ 1
size_one mode size x g h k = ⊎_elim (λ e. absurd (h e)) (⊎_elim (λ e. absurd (k e)) (λ e. e)) g.sizes

module _ (l : List ℕ) (p mode size x : ℕ) (e : size ≡ 1) (h : p + size ≤ length l) where
  pub placed_byte : mode ≡ 4 → Placed l (set l p x) p mode size x
  unfolding group_characters
  placed_byte m = rw (e, m) (put_one l p x (rw e at h))

  pub placed_one : {a : ℕ} → (mode ≡ 4 → ⊥) → a ≡ character x → Placed l (set l p a) p mode size x
  unfolding group_characters
  placed_one {a} m ea = rw (e, ne_eqb mode 4 m, ← ea) (put_one l p a (rw e at h))

-- ---- the next group

-- a body where so many characters are left is its next group and the body of what is left then
pub record NextGroup (mode left : ℕ) (bs : List ℕ) : Type 0 where
  pub least : 1 ≤ (group_of mode left).size
  pub most : (group_of mode left).size ≤ left
  pub narrow : (group_of mode left).width ≤ 16
  pub chars : characters mode left bs
      ≡ group_characters mode (group_of mode left).size (number (take (group_of mode left).width bs))
      ++ characters mode (left - (group_of mode left).size) (drop (group_of mode left).width bs)
  pub ranges : groups_in_range mode left bs
      ≡ (leb (number (take (group_of mode left).width bs)) (group_of mode left).most
      && groups_in_range mode (left - (group_of mode left).size) (drop (group_of mode left).width bs))
  pub widths : body_width mode left ≡ (group_of mode left).width + body_width mode (left - (group_of mode left).size)
  pub inside : (x : ℕ) → x ≤ (group_of mode left).most → InGroup mode (group_of mode left).size x

-- a size is not another
module _ (mode x : ℕ) where
  in_three : x ≤ 999 → InGroup mode 3 x
  in_three h = record { sizes = inl refl; three = λ e. h; two = λ e f. absurd (omega arith); pair = λ e. absurd (omega arith); one = λ e f. absurd (omega arith); byte = λ e. absurd (omega arith) }

  in_two : x ≤ 2024 → (mode ≡ 1 → x ≤ 99) → InGroup mode 2 x
  in_two h k = record { sizes = inr (inl refl); three = λ e. absurd (omega arith); two = λ e. k; pair = λ e. h; one = λ e f. absurd (omega arith); byte = λ e. absurd (omega arith) }

  in_one : x ≤ 255 → ((mode ≡ 4 → ⊥) → x ≤ 44) → InGroup mode 1 x
  in_one h k = record { sizes = inr (inr refl); three = λ e. absurd (omega arith); two = λ e f. absurd (omega arith); pair = λ e. absurd (omega arith); one = λ e. k; byte = λ e. h }

always : (b : Bool) → b ≡ (b && true)
always true = refl
always false = refl

next_digits : (left : ℕ) (bs : List ℕ) → 1 ≤ left → NextGroup 1 left bs
unfolding group_of group_characters characters groups_in_range body_width digits digits_in_range
next_digits zero bs h = absurd (not-suc-le-zero h)
next_digits (suc zero) bs h = record {
  least = omega arith;
  most = omega arith;
  narrow = omega arith;
  chars = refl;
  ranges = always (leb (number (take 4 bs)) 9);
  widths = refl;
  inside = λ x l. in_one 1 x (omega arith) (λ f. omega arith);
}
next_digits (suc (suc zero)) bs h = record {
  least = omega arith;
  most = omega arith;
  narrow = omega arith;
  chars = refl;
  ranges = always (leb (number (take 7 bs)) 99);
  widths = refl;
  inside = λ x l. in_two 1 x (omega arith) (λ f. l);
}
next_digits (suc (suc (suc n))) bs h =
    let e : leb 3 (suc (suc (suc n))) ≡ true = le-leb 3 (suc (suc (suc n))) (omega arith) in
    let d : suc (suc (suc n)) - 3 ≡ n = omega arith in
    let q : suc (suc (suc n)) / 3 ≡ suc (n / 3) = omega arith in
    let r : suc (suc (suc n)) % 3 ≡ n % 3 = omega arith in
    record {
      least = rw e (omega arith);
      most = rw e (omega arith);
      narrow = rw e (omega arith);
      chars = rw (e, d);
      ranges = rw (e, d);
      widths = rw (e, d, q, r) (omega arith);
      inside = rw e (λ x l. in_three 1 x l);
    }

next_pairs : (left : ℕ) (bs : List ℕ) → 1 ≤ left → NextGroup 2 left bs
unfolding group_of group_characters characters groups_in_range body_width pairs pairs_in_range
next_pairs zero bs h = absurd (not-suc-le-zero h)
next_pairs (suc zero) bs h = record {
  least = omega arith;
  most = omega arith;
  narrow = omega arith;
  chars = refl;
  ranges = always (leb (number (take 6 bs)) 44);
  widths = refl;
  inside = λ x l. in_one 2 x (omega arith) (λ f. l);
}
next_pairs (suc (suc n)) bs h =
    let e : leb 2 (suc (suc n)) ≡ true = le-leb 2 (suc (suc n)) (omega arith) in
    let d : suc (suc n) - 2 ≡ n = omega arith in
    record {
      least = rw e (omega arith);
      most = rw e (omega arith);
      narrow = rw e (omega arith);
      chars = rw (e, d);
      ranges = rw (e, d);
      widths = rw (e, d) (omega arith);
      inside = rw e (λ x l. in_two 2 x l (λ f. absurd (omega arith)));
    }

next_byte : (left : ℕ) (bs : List ℕ) → AtMost 1 bs → 1 ≤ left → NextGroup 4 left bs
unfolding group_of group_characters characters groups_in_range body_width bytes
next_byte zero bs b h = absurd (not-suc-le-zero h)
next_byte (suc n) bs b h =
    let d : suc n - 1 ≡ n = omega arith in
    record {
      least = omega arith;
      most = omega arith;
      narrow = omega arith;
      chars = rw d;
      ranges = rw (le-leb (number (take 8 bs)) 255 (omega (arith, number_small 8 bs b)));
      widths = rw d (omega arith);
      inside = λ x l. in_one 4 x l (λ f. absurd (f refl));
    }

pub next_group : (mode left : ℕ) (bs : List ℕ) → known mode ≡ true → AtMost 1 bs → 1 ≤ left → NextGroup mode left bs
next_group mode left bs k b h = by_mode mode k (λ e. rw e (next_digits left bs h)) (λ e. rw e (next_pairs left bs h)) (λ e. rw e (next_byte left bs b h))
