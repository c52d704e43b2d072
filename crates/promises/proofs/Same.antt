-- Two matrices that agree on data modules (the surplus left out), format and version modules get one answer: the copies, the codewords and the
-- flags are the same numbers, so each step of `Reads` is the same.
use mathlib.Core.Path.{◌≡◌, refl, sym, ap, ap₂, subst, ◌∙◌}
use mathlib.Core.Logic.{inl, inr, ⊎_elim, by_cases}
use mathlib.Core.Bool.{cond}
use mathlib.Core.List.Memᴰ
use mathlib.Core.List.{List, [], ◌∷◌, map, Memᴰ}
use Prim.Native.Nat.{ℕ, zero, suc, ◌+◌, ◌*◌, ◌/◌, ◌%◌, ◌≤◌, ◌<◌}
use native.Mathlib.Nat.{mul-lt-mul_of_pos_left, mul-lt-mul_of_pos_right, le_of_suc-le-suc}
use native.Mathlib.Decide.{dec_lt}
use native.Mathlib.Omega.{arith}
use lib.Bits.{bit_xor}
use lib.Dec.{eqb, ltb}
use lib.ListN.{length, take, drop}
use lib.Seq.{take-nil}
use Rattle.basics.specs.Sums.{one}
use Rattle.basics.specs.Bits.{low_first}
use Rattle.basics.proofs.Lists.{map_up_to_same}
use Rattle.tables.specs.Tables
use Rattle.tables.specs.Version.{Square}
use Rattle.blocks.specs.Blocks.{gathered}
use Rattle.blocks.proofs.Order.{sent_once}
use Rattle.modules.specs.Modules.{order, flips, format_places, version_places}
use Rattle.scan.specs.Received.{copied, readable, unmasked, received, eight, flag, codeword}
use Rattle.reader.specs.Reader.{Answer, First, Reads, Versioned, Formatted, FormatStands, VersionStands, Above, OtherVersion, NoFormat, TwoFormats, BlockStands, block_word, block_flags}
use Rattle.promises.specs.Promises.{Agree, SameWhere, SameModules}

-- ---- lists

module _ {A : Type 0} where
  map_agree : (f g : ℕ → A) (xs : List ℕ) → ((x : ℕ) → Memᴰ x xs → f x ≡ g x) → map f xs ≡ map g xs
  map_agree f g [] h = refl
  map_agree f g (x ∷ xs) h = ap₂ ◌∷◌ (h x (Memᴰ.head refl)) (map_agree f g xs (λ y m. h y (Memᴰ.tail m)))

  take_map : (f : ℕ → A) (n : ℕ) (xs : List ℕ) → take n (map f xs) ≡ map f (take n xs)
  take_map f zero xs = refl
  take_map f (suc n) [] = refl
  take_map f (suc n) (x ∷ xs) = ap (λ (ys : List A). f x ∷ ys) (take_map f n xs)

  drop_map : (f : ℕ → A) (n : ℕ) (xs : List ℕ) → drop n (map f xs) ≡ map f (drop n xs)
  drop_map f zero xs = refl
  drop_map f (suc n) [] = refl
  drop_map f (suc n) (x ∷ xs) = drop_map f n xs

-- what stands in a part of the first n stands in the first n
mem_take : (k n : ℕ) (xs : List ℕ) (x : ℕ) → k ≤ n → Memᴰ x (take k xs) → Memᴰ x (take n xs)
mem_take zero n xs x h m = absurd (Memᴰ.not-nil m)
mem_take (suc k) zero xs x h m = absurd (omega arith)
mem_take (suc k) (suc n) [] x h m = m
mem_take (suc k) (suc n) (y ∷ ys) x h m = ⊎_elim (λ e. Memᴰ.head e) (λ t. Memᴰ.tail (mem_take k n ys x (le_of_suc-le-suc h) t)) (Memᴰ.cases_cons m)

mem_part : (c k n : ℕ) (xs : List ℕ) (x : ℕ) → c + k ≤ n → Memᴰ x (take k (drop c xs)) → Memᴰ x (take n xs)
mem_part zero k n xs x h m = mem_take k n xs x (omega arith) m
mem_part (suc c) k n [] x h m = absurd (Memᴰ.not-nil (rw (take-nil k) at m))
mem_part (suc c) k zero (y ∷ ys) x h m = absurd (omega arith)
mem_part (suc c) k (suc n) (y ∷ ys) x h m = Memᴰ.tail (mem_part c k n ys x (omega arith) m)

module _ (v : ℕ) (a b : List ℕ) where
  copied_same : (places : List ℕ) → Agree a b places → copied a places ≡ copied b places
  unfolding copied
  copied_same places h = ap low_first (map_agree _ _ places (λ p m. ap (λ (x : ℕ). one (eqb x 1)) (h p m)))

  readable_same : (places : List ℕ) → Agree a b places → readable a places ≡ readable b places
  unfolding readable
  readable_same places h = ap low_first (map_agree _ _ places (λ p m. ap (λ (x : ℕ). one (ltb x 2)) (h p m)))

  module _ (same : SameWhere v a b) where
    eight_same : (mask q : ℕ) → q < Tables.total v → eight (received v mask a) q ≡ eight (received v mask b) q
    unfolding eight received unmasked
    eight_same mask q l =
        ap (take 8) (drop_map (unmasked v mask a) (8 * q) (order v))
        ∙ take_map (unmasked v mask a) 8 (drop (8 * q) (order v))
        ∙ map_agree (unmasked v mask a) (unmasked v mask b) (take 8 (drop (8 * q) (order v)))
        (λ p m. ap (λ (x : ℕ). cond (eqb x 2) 2 (bit_xor x (flips mask (p / Tables.side v) (p % Tables.side v))))
        (same.data_modules p (mem_part (8 * q) 8 (8 * Tables.total v) (order v) p (omega arith) m)))
        ∙ sym (take_map (unmasked v mask b) 8 (drop (8 * q) (order v)))
        ∙ sym (ap (take 8) (drop_map (unmasked v mask b) (8 * q) (order v)))

    flag_same : (mask q : ℕ) → q < Tables.total v → flag (received v mask a) q ≡ flag (received v mask b) q
    unfolding flag
    flag_same mask q l = rw (eight_same mask q l)

    codeword_same : (mask q : ℕ) → q < Tables.total v → codeword (received v mask a) q ≡ codeword (received v mask b) q
    unfolding codeword
    codeword_same mask q l = rw (flag_same mask q l, eight_same mask q l)

    module _ (level mask : ℕ) (lawful : Tables.Lawful v level) where
      word_same : (k : ℕ) → k < Tables.block_count v level → block_word v level (received v mask a) k ≡ block_word v level (received v mask b) k
      unfolding block_word gathered
      word_same k l = map_up_to_same _ _ (Tables.block_length v level k) (λ p h. codeword_same mask _ ((sent_once v level lawful).inside k p l h))

      flags_same : (k : ℕ) → k < Tables.block_count v level → block_flags v level (received v mask a) k ≡ block_flags v level (received v mask b) k
      unfolding block_flags gathered
      flags_same k l = map_up_to_same _ _ (Tables.block_length v level k) (λ p h. flag_same mask _ ((sent_once v level lawful).inside k p l h))

      stands_same : (k : ℕ) → k < Tables.block_count v level → (c : List ℕ) (t e : ℕ) → BlockStands v level (received v mask a) k c t e → BlockStands v level (received v mask b) k c t e
      stands_same k l c t e s = rw (← word_same k l, ← flags_same k l) s

    format_same : (copy level mask : ℕ) → FormatStands v a copy level mask → FormatStands v b copy level mask
    format_same copy level mask s =
        record {
          which = s.which;
          levels = s.levels;
          masks = s.masks;
          near = rw (← copied_same (format_places v copy) (same.format_modules copy s.which), ← readable_same (format_places v copy) (same.format_modules copy s.which)) s.near;
        }

    version_same : (copy x : ℕ) → VersionStands v a copy x → VersionStands v b copy x
    version_same copy x s =
        record {
          which = s.which;
          drawn = s.drawn;
          near = rw (← copied_same (version_places v copy) (same.version_modules copy s.which), ← readable_same (version_places v copy) (same.version_modules copy s.which)) s.near;
        }

turned : (v : ℕ) (a b : List ℕ) → SameWhere v a b → SameWhere v b a
turned v a b s =
    record {
      data_modules = λ p m. sym (s.data_modules p m);
      format_modules = λ c l p m. sym (s.format_modules c l p m);
      version_modules = λ c l p m. sym (s.version_modules c l p m);
    }

-- ---- the steps

first_same : {F G L M : Type 0} {n : ℕ} {x : Answer} → (F → G) → (G → F) → (L → M) → First F n x L → First G n x M
first_same f g h (inl p) = inl (f p.0, p.1)
first_same f g h (inr p) = inr ((λ q. p.0 (g q)), h p.1)

module _ (v : ℕ) (a b : List ℕ) (same : SameWhere v a b) (x : Answer) where
  formatted : (least : 1 ≤ v) (most : v ≤ Tables.last_version) → Formatted v a x → Formatted v b x
  formatted least most f =
      record {
        copy = f.copy;
        level = f.level;
        mask = f.mask;
        stands = format_same v a b same _ _ _ f.stands;
        then = first_same
            (λ n. (n.0, n.1, λ c t e s. n.2 c t e (stands_same v b a (turned v a b same) f.level f.mask lawful n.0 n.1 c t e s)))
            (λ n. (n.0, n.1, λ c t e s. n.2 c t e (stands_same v a b same f.level f.mask lawful n.0 n.1 c t e s)))
            (λ d. record { blocks = d.blocks; ts = d.ts; es = d.es; stand = λ k l. stands_same v a b same f.level f.mask lawful k l _ _ _ (d.stand k l); gives = d.gives })
            f.then;
      }
    where
      lawful : Tables.Lawful v f.level
      lawful = record { least = least; most = most; levels = omega (arith, f.stands.levels) }

-- a square has one side
side_only : (v w : ℕ) → Tables.side v * Tables.side v ≡ Tables.side w * Tables.side w → v ≡ w
side_only v w e =
    by_cases (dec_lt v w) (λ l. absurd (less v w l e)) (λ n. by_cases (dec_lt w v) (λ l. absurd (less w v l (sym e))) (λ k. omega arith))
  where
    less : (v w : ℕ) → v < w → Tables.side v * Tables.side v ≡ Tables.side w * Tables.side w → ⊥
    less v w l e =
        let p : Tables.side v < Tables.side w = omega arith in
        let x : Tables.side v * Tables.side v < Tables.side v * Tables.side w = mul-lt-mul_of_pos_left p (omega arith) in
        let y : Tables.side v * Tables.side w < Tables.side w * Tables.side w = mul-lt-mul_of_pos_right p (omega arith) in
        omega arith

pub same_modules : SameModules
unfolding Reads
same_modules v a b payload_room list_room x la lb ma mb same =
    first_same (λ s. s) (λ s. s)
    (first_same (λ n w s. n w (sized w s)) (λ n w s. n w (sized' w s)) versioned)
  where
    steps : (w : ℕ) → Square (length a) w → SameWhere w a b
        → First (Above a) 8 x (First (OtherVersion w a) 9 x (First (NoFormat w a) 10 x (First (TwoFormats w a) 11 x (Formatted w a x))))
        → First (Above b) 8 x (First (OtherVersion w b) 9 x (First (NoFormat w b) 10 x (First (TwoFormats w b) 11 x (Formatted w b x))))
    steps w z s =
        first_same (λ n. absurd (omega (arith, ma n.0 n.1, n.2))) (λ n. absurd (omega (arith, mb n.0 n.1, n.2)))
        (first_same (λ n. (n.0, n.1, n.2, version_same w a b s _ _ n.3)) (λ n. (n.0, n.1, n.2, version_same w b a (turned w a b s) _ _ n.3))
        (first_same (λ n c l k f. n c l k (format_same w b a (turned w a b s) c l k f)) (λ n c l k f. n c l k (format_same w a b s c l k f))
        (first_same
        (λ n. (n.0, n.1, n.2, n.3, format_same w a b s _ _ _ n.4, format_same w a b s _ _ _ n.5, n.6))
        (λ n. (n.0, n.1, n.2, n.3, format_same w b a (turned w a b s) _ _ _ n.4, format_same w b a (turned w a b s) _ _ _ n.5, n.6))
        (formatted w a b s x z.least z.most))))

    sized : (w : ℕ) → Square (length b) w → Square (length a) w
    sized w s = record { least = s.least; most = s.most; long = la ∙ sym lb ∙ s.long }

    sized' : (w : ℕ) → Square (length a) w → Square (length b) w
    sized' w s = record { least = s.least; most = s.most; long = lb ∙ sym la ∙ s.long }

    versioned : Versioned a x → Versioned b x
    versioned p =
        record {
          version = p.version;
          sized = sized' p.version p.sized;
          then = steps p.version p.sized (subst (λ (w : ℕ). SameWhere w a b) (side_only v p.version (sym la ∙ p.sized.long)) same) p.then;
        }
