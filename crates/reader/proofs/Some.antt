-- Every matrix has an answer: each check passes or not, since the versions, the modules, the words that a copy may stand for and the words of a block's
-- length are finitely many.
use mathlib.Core.Path.{◌≡◌, refl}
use mathlib.Core.Logic.Dec
use mathlib.Core.Logic.{◌≢◌, ◌⊎◌, inl, inr, by_cases}
use mathlib.Core.List.{List, []}
use Rattle.std.specs.Prelude.{Option, Some, None, Result, Ok, Err}
use Prim.Native.Nat.{ℕ, ◌+◌, ◌*◌, ◌≤◌, ◌<◌}
use native.Mathlib.Decide.{ℕ_discrete, dec_le, dec_lt, map_dec}
use native.Mathlib.Omega.{arith}
use lib.ListN.{length, get_or}
use Rattle.basics.specs.Sums.{sum}
use Rattle.field.specs.Field.{pow_n}
use Rattle.tables.specs.Tables.{side, room, block_count, check_count, most_payload, most_list}
use Rattle.tables.specs.Version.{Square}
use Rattle.code.specs.Code.{value, differing, unreadable, Stands}
use Rattle.words.specs.Words.{format_word, version_word, level_of, mask_of, Near}
use Rattle.words.specs.Found.{FormatFound}
use Rattle.parse.specs.Parse.{message}
use Rattle.blocks.specs.Blocks.{data_of}
use Rattle.modules.specs.Modules.{format_places, version_places}
use Rattle.scan.specs.Received.{copied, readable, received}
use Rattle.reader.specs.declared.Meta.{Meta}
use Rattle.reader.specs.declared.Refusal.{Refusal}
use Rattle.reader.specs.declared.Refusal.TheVariants as refused
use Rattle.reader.specs.Reader.{Answer, Refused, decided, First, Reads, Versioned, Formatted, AllStand, Small, NoVersion, Above, OtherVersion, NoFormat, TwoFormats, NoCodeword, BlockStands, block_word, block_flags}
use Rattle.reader.specs.Steps.{FormatsRead}
use Rattle.reader.specs.Theorems.{ReadsSome}
use Rattle.reader.proofs.Search.{SomeOrNone, negated, search, told, every, search_words}
use Rattle.reader.proofs.Words.{neither, by_second, by_first, by_both, different}

-- ---- a block

-- a word of n checks that some codeword of its length stands for, or none does
module _ (n most : ℕ) (word flags : List ℕ) where
  abbrev Standing : Type 0
  Standing = (c : List ℕ) × (t : ℕ) × (e : ℕ) × Stands n most word flags c t e

  abbrev Right : List ℕ → Type 0
  Right c = ((i : ℕ) → i < n → value (pow_n i) c ≡ 0) × (2 * differing word flags c + unreadable flags ≤ most)

  is_right : (c : List ℕ) → Dec (Right c)
  is_right c = Dec.and (every n (λ i. value (pow_n i) c ≡ 0) (λ i. ℕ_discrete (value (pow_n i) c) 0)) (dec_le _ most)

  stands_or_not : Dec Standing
  stands_or_not =
      map_dec
      (λ s. (
        s.0,
        differing word flags s.0,
        unreadable flags,
        record { codeword = record { bytes = s.2; zeros = s.3.0 }; long = s.1; differs = refl; missing = refl; near = s.3.1 },
      ))
      (λ s. let w = s.3 in (s.0, w.long, w.codeword.bytes, (w.codeword.zeros, omega (arith, w.near, w.differs, w.missing))))
      (search_words (length word) Right is_right)

-- ---- all blocks

module _ (v level mask : ℕ) (bs : List ℕ) where
  abbrev Block : ℕ → Type 0
  Block b = (c : List ℕ) × (t : ℕ) × (e : ℕ) × BlockStands v level bs b c t e

  block : (b : ℕ) → Dec (Block b)
  block b = stands_or_not (check_count v level) (room v level) (block_word v level bs b) (block_flags v level bs b)

  abbrev word_of : (b : ℕ) → Dec (Block b) → List ℕ
  word_of b (yes s) = s.0
  word_of b (no q) = []

  abbrev wrong_of : (b : ℕ) → Dec (Block b) → ℕ
  wrong_of b (yes s) = s.1
  wrong_of b (no q) = 0

  abbrev lost_of : (b : ℕ) → Dec (Block b) → ℕ
  lost_of b (yes s) = s.2
  lost_of b (no q) = 0

  holds : (b : ℕ) (d : Dec (Block b))
      → ((Block b → ⊥) → ⊥) → BlockStands v level bs b (word_of b d) (wrong_of b d) (lost_of b d)
  holds b (yes s) n = s.3
  holds b (no q) n = absurd (n q)

  stand_some : (a : Answer) × First (NoCodeword v level bs) 12 a (AllStand v level mask bs a)
  stand_some = by (search (block_count v level) (λ b. Block b → ⊥) (λ b. negated (block b)))
    where
      by : SomeOrNone (block_count v level) (λ b. Block b → ⊥) → (a : Answer) × First (NoCodeword v level bs) 12 a (AllStand v level mask bs a)
      by (inl s) = (Refused 12, inl ((s.0, s.1, λ c t e w. s.2 (c, t, e, w)), refl))
      by (inr s) =
          let stand : (b : ℕ) → b < block_count v level → BlockStands v level bs b (word_of b (block b)) (wrong_of b (block b)) (lost_of b (block b)) =
          λ b h. holds b (block b) (s b h) in (
            decided v level mask (sum (block_count v level) (λ b. wrong_of b (block b))) (sum (block_count v level) (λ b. lost_of b (block b)))
                (message v (data_of v level (λ b. word_of b (block b)))),
            inr (
              λ n. n.2 _ _ _ (stand n.0 n.1),
              record { blocks = λ b. word_of b (block b); ts = λ b. wrong_of b (block b); es = λ b. lost_of b (block b); stand = stand; gives = refl },
            ),
          )

-- ---- words

near : (k copy readable word : ℕ) → Dec (Near k copy readable word)
unfolding Near
near k copy readable word = dec_le _ 6

format_found : (copy readable : ℕ) → (f : Option ℕ) × FormatFound copy readable f
format_found copy readable = by (search 32 (λ b. Near 15 copy readable (format_word b)) (λ b. near 15 copy readable (format_word b)))
  where
    by : SomeOrNone 32 (λ b. Near 15 copy readable (format_word b)) → (f : Option ℕ) × FormatFound copy readable f
    by (inl s) = (Some s.0, record { lawful = s.1; near = s.2 })
    by (inr none) = (None, λ b k. none b k.lawful k.near)

formats : (m : List ℕ) (v : ℕ) → (f : Result Meta Refusal) × FormatsRead v m f
formats m v = by (one 0).0 (one 1).0 (one 0).1 (one 1).1
  where
    one : (copy : ℕ) → (f : Option ℕ) × FormatFound (copied m (format_places v copy)) (readable m (format_places v copy)) f
    one copy = format_found (copied m (format_places v copy)) (readable m (format_places v copy))

    meta : ℕ → Meta
    meta x = record { level = level_of x; mask = mask_of x }

    by : (f g : Option ℕ) → FormatFound (copied m (format_places v 0)) (readable m (format_places v 0)) f → FormatFound (copied m (format_places v 1)) (readable m (format_places v 1)) g
        → (f : Result Meta Refusal) × FormatsRead v m f
    by None None p q = (Err refused.NoFormat, neither m v p q)
    by None (Some y) p q = (Ok (meta y), by_second m v y (meta y) p q (refl, refl))
    by (Some x) None p q = (Ok (meta x), by_first m v x (meta x) p q (refl, refl))
    by (Some x) (Some y) p q =
        by_cases (ℕ_discrete x y) (λ e. (Ok (meta x), by_both m v x y (meta x) p q e (refl, refl)))
        (λ d. (Err refused.TwoFormats, different m v x y p q d))

-- the copies of the version word
other_version : (m : List ℕ) (v : ℕ) → Dec (OtherVersion v m)
other_version m v = by (search 2 Copy copy_other)
  where
    NearTo : ℕ → ℕ → Type 0
    NearTo copy x = (7 ≤ v) × ((x ≢ v) × ((7 ≤ x) × Near 18 (copied m (version_places v copy)) (readable m (version_places v copy)) (version_word x)))

    Copy : ℕ → Type 0
    Copy copy = (x : ℕ) × (x < 41) × NearTo copy x

    copy_other : (copy : ℕ) → Dec (Copy copy)
    copy_other copy =
        told 41 (NearTo copy)
        (search 41 (NearTo copy) (λ x. Dec.and (dec_le 7 v) (Dec.and (negated (ℕ_discrete x v)) (Dec.and (dec_le 7 x) (near 18 _ _ _)))))

    by : SomeOrNone 2 Copy → Dec (OtherVersion v m)
    by (inl (copy, h, (x, l, s))) =
        yes (copy, x, s.1.0, record { which = h; drawn = s.0; near = record { least = s.1.1.0; most = omega arith; near = s.1.1.1 } })
    by (inr none) =
        no (λ o. let s = o.3 in none o.0 s.which (o.1, omega (arith, s.near.most), (s.drawn, (o.2, (s.near.least, s.near.near)))))

-- ---- the checks in their order

above : (m : List ℕ) → Dec (Above m)
above m = told (length m) (λ p. 2 < get_or m p 0) (search (length m) (λ p. 2 < get_or m p 0) (λ p. dec_lt 2 (get_or m p 0)))

first_some : (F : Type 0) (n : ℕ) (L : Answer → Type 0) → Dec F → ((F → ⊥) → (a : Answer) × L a) → (a : Answer) × First F n a (L a)
first_some F n L (yes f) later = (Refused n, inl (f, refl))
first_some F n L (no q) later = let w = later q in (w.0, inr (q, w.1))

formatted_some : (m : List ℕ) (v : ℕ) → (a : Answer) × First (NoFormat v m) 10 a (First (TwoFormats v m) 11 a (Formatted v m a))
formatted_some m v = by (formats m v).0 (formats m v).1
  where
    by : (f : Result Meta Refusal) → FormatsRead v m f → (a : Answer) × First (NoFormat v m) 10 a (First (TwoFormats v m) 11 a (Formatted v m a))
    by (Err k) (inl r) = (Refused 10, inl (r.1, refl))
    by (Err k) (inr r) = (Refused 11, inr (r.1, inl (r.2, refl)))
    by (Ok w) r =
        let c = stand_some v w.level w.mask (received v w.mask m) in (
          c.0,
          inr (
            λ n. n r.copy w.level w.mask r.stands,
            inr (r.one, record { copy = r.copy; level = w.level; mask = w.mask; stands = r.stands; then = c.1 }),
          ),
        )

sized : (m : List ℕ) → ((v : ℕ) × Square (length m) v) ⊎ NoVersion m
sized m = by (search 11 (λ v. (1 ≤ v) × (length m ≡ side v * side v)) (λ v. Dec.and (dec_le 1 v) (ℕ_discrete (length m) (side v * side v))))
  where
    by : SomeOrNone 11 (λ v. (1 ≤ v) × (length m ≡ side v * side v)) → ((v : ℕ) × Square (length m) v) ⊎ NoVersion m
    by (inl (v, h, s)) = inl (v, record { least = s.0; most = omega arith; long = s.1 })
    by (inr none) = inr (λ v s. none v (omega (arith, s.most)) (s.least, s.long))

versioned_some : (m : List ℕ) → (a : Answer) × First (NoVersion m) 7 a (Versioned m a)
versioned_some m = by (sized m)
  where
    by : ((v : ℕ) × Square (length m) v) ⊎ NoVersion m → (a : Answer) × First (NoVersion m) 7 a (Versioned m a)
    by (inr n) = (Refused 7, inl (n, refl))
    by (inl (v, s)) =
        let w =
        first_some (Above m) 8 (λ a. First (OtherVersion v m) 9 a (First (NoFormat v m) 10 a (First (TwoFormats v m) 11 a (Formatted v m a)))) (above m) (λ _.
        first_some (OtherVersion v m) 9 (λ a. First (NoFormat v m) 10 a (First (TwoFormats v m) 11 a (Formatted v m a))) (other_version m v) (λ _.
        formatted_some m v)) in
        (w.0, inr (λ n. n v s, record { version = v; sized = s; then = w.1 }))

small : (payload_room list_room : ℕ) → Dec (Small payload_room list_room)
small payload_room list_room =
    by_cases (dec_lt payload_room most_payload) (λ h. yes (inl h)) (λ h. by_cases (dec_lt list_room most_list) (λ l. yes (inr l)) (λ l. no (neither_of h l)))
  where
    neither_of : (payload_room < most_payload → ⊥) → (list_room < most_list → ⊥) → Small payload_room list_room → ⊥
    neither_of h l (inl s) = h s
    neither_of h l (inr s) = l s

pub reads_some : ReadsSome
unfolding Reads
reads_some m payload_room list_room =
    first_some (Small payload_room list_room) 16 (λ a. First (NoVersion m) 7 a (Versioned m a)) (small payload_room list_room) (λ _. versioned_some m)
