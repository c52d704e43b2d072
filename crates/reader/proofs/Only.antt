-- A matrix has at most one answer, since at most one codeword stands for a block and at most one word for a format copy:
-- each check passes or not, and what a later check rests on is fixed by the earlier ones.
use mathlib.Core.Path.{◌≡◌, refl, sym, ap, ap₂, subst, subst₂, ◌∙◌}
use mathlib.Core.Logic.{◌≢◌, inl, inr, by_cases}
use mathlib.Core.List.{List, map}
use Prim.Native.Nat.{ℕ, zero, suc, ◌≤◌, ◌<◌}
use native.Mathlib.Decide.{ℕ_discrete}
use native.Mathlib.Omega.{arith}
use lib.ListN.{length, take}
use Rattle.basics.specs.Lists.{up_to, joined}
use Rattle.basics.proofs.Lists.{length_up_to, length_map, map_up_to_same}
use Rattle.basics.proofs.Sums.{sum_same}
use Rattle.tables.specs.Tables
use Rattle.tables.proofs.Rules.{version_only, block_length_most, room_most}
use Rattle.code.proofs.Distance.{stands_only}
use Rattle.words.specs.Words.{format_bits}
use Rattle.words.proofs.Words.{format_only}
use Rattle.words.proofs.Bits.{format_bits_lt, bits_level, bits_mask}
use Rattle.parse.specs.Parse.{message}
use Rattle.blocks.specs.Blocks.{gathered, data_of}
use Rattle.scan.specs.Received.{received}
use Rattle.reader.specs.Reader.{Answer, decided, First, Reads, Versioned, Formatted, FormatStands, AllStand, Above, OtherVersion, NoFormat, TwoFormats, NoCodeword, block_word, block_flags, payload_after, list_after}
use Rattle.reader.specs.Answers.{answered_of, by_number}
use Rattle.reader.specs.Refusals.{refusal_number}
use Rattle.reader.specs.declared.Reading.{Reading}
use Rattle.reader.specs.declared.Refusal.{Refusal}
use Rattle.reader.specs.declared.Refusal.TheVariants as refused
use Rattle.parse.specs.declared.Fault.TheVariants as fault
use Rattle.std.specs.Prelude.{Result, Ok, Err, cond, eqb}
use Rattle.reader.specs.Theorems.{ReadsOnly, AnswersOnly}

first_only : {F L M : Type 0} {n : ℕ} {a b : Answer} → First F n a L → First F n b M → (L → M → a ≡ b) → a ≡ b
first_only (inl x) (inl y) k = x.1 ∙ sym y.1
first_only (inl x) (inr y) k = absurd (y.0 x.0)
first_only (inr x) (inl y) k = absurd (x.0 y.0)
first_only (inr x) (inr y) k = k x.1 y.1

joined_same : (n : ℕ) (f g : ℕ → List ℕ) → ((b : ℕ) → b < n → f b ≡ g b) → joined (map f (up_to n)) ≡ joined (map g (up_to n))
joined_same n f g h = ap joined (map_up_to_same f g n h)

block_short : (v level b : ℕ) (bs : List ℕ) → v < 11 → 1 ≤ v → level < 4 → length (block_word v level bs b) ≤ 255
unfolding block_word gathered
block_short v level b bs hv lv hl =
    rw (length_map, length_up_to) (omega (arith, block_length_most v level b (record { least = lv; most = omega arith; levels = omega arith })))

stand_only : (v level mask : ℕ) (bs : List ℕ) (a b : Answer) → v < 11 → 1 ≤ v → level < 4 → AllStand v level mask bs a → AllStand v level mask bs b → a ≡ b
unfolding data_of
stand_only v level mask bs a b hv lv hl x y =
    x.gives
    ∙ ap₂ (λ (t : ℕ) (k : ℕ × List ℕ). decided v level mask t k.0 (message v k.1))
    (sum_same B x.ts y.ts (λ k l. (only k l).1))
    (λ i. (sum_same B x.es y.es (λ k l. (only k l).2) i, held i))
    ∙ sym y.gives
  where
    B : ℕ
    B = Tables.block_count v level

    only : (k : ℕ) → k < B → (x.blocks k ≡ y.blocks k) × (x.ts k ≡ y.ts k) × (x.es k ≡ y.es k)
    only k l =
        stands_only (Tables.check_count v level) (Tables.room v level) (block_word v level bs k) (block_flags v level bs k)
        (x.blocks k) (y.blocks k) (x.ts k) (x.es k) (y.ts k) (y.es k) (room_most v level) (block_short v level k bs hv lv hl) (x.stand k l) (y.stand k l)

    held : data_of v level x.blocks ≡ data_of v level y.blocks
    held = joined_same B _ _ (λ k l. ap (take (Tables.block_data v level k)) (only k (omega arith)).0)

-- two copies that stand stand for one word: one copy for one word, and the two for no different ones
bits_only : (v : ℕ) (m : List ℕ) (c l k c' l' k' : ℕ) → (TwoFormats v m → ⊥) → FormatStands v m c l k → FormatStands v m c' l' k' → format_bits l k ≡ format_bits l' k'
bits_only v m c l k c' l' k' one x y = by_cases (ℕ_discrete (format_bits l k) (format_bits l' k')) (λ e. e) (λ d. absurd (pick c c' x y d))
  where
    pick : (c c' : ℕ) → FormatStands v m c l k → FormatStands v m c' l' k' → format_bits l k ≢ format_bits l' k' → ⊥
    pick zero zero x y d = d (format_only _ _ _ _ (format_bits_lt l k x.levels x.masks) (format_bits_lt l' k' y.levels y.masks) x.near y.near)
    pick zero (suc zero) x y d = one (l, k, l', k', x, y, d)
    pick (suc zero) zero x y d = one (l', k', l, k, y, x, λ e. d (sym e))
    pick (suc zero) (suc zero) x y d = d (format_only _ _ _ _ (format_bits_lt l k x.levels x.masks) (format_bits_lt l' k' y.levels y.masks) x.near y.near)
    pick zero (suc (suc n)) x y d = let h = y.which in omega arith
    pick (suc zero) (suc (suc n)) x y d = let h = y.which in omega arith
    pick (suc (suc n)) c' x y d = let h = x.which in omega arith

formatted_only : (v : ℕ) (m : List ℕ) (a b : Answer) → v < 11 → 1 ≤ v → (TwoFormats v m → ⊥) → Formatted v m a → Formatted v m b → a ≡ b
formatted_only v m a b hv lv one x y = first_only x.then (subst₂ After (sym same_level) (sym same_mask) y.then) (stand_only v x.level x.mask (received v x.mask m) a b hv lv x.stands.levels)
  where
    After : ℕ → ℕ → Type 0
    After level mask = First (NoCodeword v level (received v mask m)) 12 b (AllStand v level mask (received v mask m) b)

    same_bits : format_bits x.level x.mask ≡ format_bits y.level y.mask
    same_bits = bits_only v m x.copy x.level x.mask y.copy y.level y.mask one x.stands y.stands

    same_level : x.level ≡ y.level
    same_level = bits_level _ _ _ _ x.stands.levels x.stands.masks y.stands.levels y.stands.masks same_bits

    same_mask : x.mask ≡ y.mask
    same_mask = bits_mask _ _ _ _ x.stands.levels x.stands.masks y.stands.levels y.stands.masks same_bits

versioned_only : (m : List ℕ) (a b : Answer) → Versioned m a → Versioned m b → a ≡ b
versioned_only m a b x y =
    first_only x.then (subst After (sym (version_only (length m) x.version y.version x.sized y.sized)) y.then)
    (λ p q. first_only p q (λ p q. first_only p q (λ p q. last p q)))
  where
    After : ℕ → Type 0
    After v = First (Above m) 8 b (First (OtherVersion v m) 9 b (First (NoFormat v m) 10 b (First (TwoFormats v m) 11 b (Formatted v m b))))

    last : First (TwoFormats x.version m) 11 a (Formatted x.version m a) → First (TwoFormats x.version m) 11 b (Formatted x.version m b) → a ≡ b
    last (inl p) (inl q) = p.1 ∙ sym q.1
    last (inl p) (inr q) = absurd (q.0 p.0)
    last (inr p) (inl q) = absurd (p.0 q.0)
    last (inr p) (inr q) = formatted_only x.version m a b (omega (arith, x.sized.most)) x.sized.least p.0 p.1 q.1

pub reads_only : ReadsOnly
unfolding Reads
reads_only m payload_room list_room a b x y = first_only x y (λ p q. first_only p q (versioned_only m a b))

-- the refusal with this number
refusal_at : ℕ → Refusal
refusal_at n =
    cond (eqb n 16) refused.SmallBuffer
    (cond (eqb n 7) refused.NoVersion
    (cond (eqb n 8) refused.AboveTwo
    (cond (eqb n 9) refused.OtherVersion
    (cond (eqb n 10) refused.NoFormat
    (cond (eqb n 11) refused.TwoFormats
    (cond (eqb n 12) refused.NoCodeword
    (cond (eqb n 13) (refused.Stream fault.UnknownMode)
    (cond (eqb n 14) (refused.Stream fault.RunsPast) (refused.Stream fault.OutOfRange)))))))))

numbered : (r : Refusal) → refusal_at (refusal_number r) ≡ r
unfolding refusal_at
numbered refused.SmallBuffer = refl
numbered refused.NoVersion = refl
numbered refused.AboveTwo = refl
numbered refused.OtherVersion = refl
numbered refused.NoFormat = refl
numbered refused.TwoFormats = refl
numbered refused.NoCodeword = refl
numbered (refused.Stream fault.UnknownMode) = refl
numbered (refused.Stream fault.RunsPast) = refl
numbered (refused.Stream fault.OutOfRange) = refl

-- no two refusals have one number
pub by_number_only : (r r₁ : Result Reading Refusal) → by_number r ≡ by_number r₁ → r ≡ r₁
by_number_only (Ok x) (Ok y) e = cc
by_number_only (Ok x) (Err y) e = cc
by_number_only (Err x) (Ok y) e = cc
by_number_only (Err x) (Err y) e =
    let same : refusal_number x ≡ refusal_number y = cc in
    ap Err (sym (numbered x) ∙ ap refusal_at same ∙ numbered y)

-- .. and so has what the call answers and leaves in memory
pub answers_only : AnswersOnly
answers_only m payload list r r₁ payload' payload₁ list' list₁ x y =
    let e = reads_only m (length payload) (length list) x.answer y.answer x.reads y.reads in (
      by_number_only r r₁ (x.says ∙ ap answered_of e ∙ sym y.says),
      x.payload_memory ∙ ap (λ (a : Answer). payload_after a payload) e ∙ sym y.payload_memory,
      x.list_memory ∙ ap (λ (a : Answer). list_after a list) e ∙ sym y.list_memory,
    )
