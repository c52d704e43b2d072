-- What is sent is gathered to the blocks that were dealt, and their data is the data: `deal_gather`, `data_back`.
-- A codeword that is sent is looked up by `sent_once`; the data is a list cut at the blocks' starts.
use mathlib.Core.Path.{◌≡◌, refl, sym, ap, ◌∙◌}
use mathlib.Core.List.{List, [], ◌∷◌, ◌++◌, map}
use Prim.Native.Nat.{ℕ, zero, suc, ◌+◌, ◌-◌, ◌<◌, ◌≤◌}
use native.Mathlib.Nat.{add-sub_cancel_left}
use native.Mathlib.Omega.{arith}
use lib.ListN.{length, take, drop, get_or, replicate, length-append, length-drop, length-replicate}
use lib.Seq.{length-take-le, take-take, take_at, take_all}
use Rattle.basics.specs.Lists.{up_to, joined}
use Rattle.basics.specs.Sums.{sum}
use Rattle.basics.proofs.Lists.{get_d_map, get_d_map_up_to, map_up_to_same, list_up_to, length_map, length_map_up_to}
use Rattle.basics.proofs.Parts.{the_part}
use Rattle.basics.proofs.Sums.{sum_mono}
use Rattle.tables.specs.Tables.{total, check_count, block_count, data_count, block_data, block_start, block_length, Lawful}
use Rattle.tables.proofs.Rules.{data_sum, length_sum, block_end}
use Rattle.code.specs.Code.{plus, divided, lower, generator, checks}
use Rattle.blocks.specs.Blocks.{block, Cell, sent_order, in_order, sent, sent_place, gathered, gathered_all, block_offset, block_of, data_of}
use Rattle.blocks.specs.Theorems.{DealGather, DataBack}
use Rattle.blocks.proofs.Cuts.{cut, length_joined, part_joined}
use Rattle.blocks.proofs.Order.{sent_once}

-- ---- as many checks as asked for

length_plus : (xs ys : List ℕ) → length (plus xs ys) ≡ length xs
unfolding plus
length_plus [] ys = refl
length_plus (x ∷ xs) [] = refl
length_plus (x ∷ xs) (y ∷ ys) = ap suc (length_plus xs ys)

length_divided : (low : List ℕ) (k : ℕ) (cs : List ℕ) → length (divided low k cs) ≡ length cs - k
unfolding divided
length_divided low zero cs = omega arith
length_divided low (suc k) [] = omega arith
length_divided low (suc k) (c ∷ cs) = length_divided low k _ ∙ rw length_plus (omega arith)

pub length_checks : (n : ℕ) (held : List ℕ) → length (checks n held) ≡ n
unfolding checks
length_checks n held =
    length_divided (lower (generator n)) (length held) (held ++ replicate n 0)
    ∙ rw (length-append, length-replicate) (add-sub_cancel_left (length held) n)

-- ---- blocks one after the other

module _ (v level : ℕ) where
  pub length_gathered : (at : ℕ → ℕ) (b : ℕ) → length (gathered v level at b) ≡ block_length v level b
  unfolding gathered
  length_gathered at b = length_map_up_to (λ p. at (sent_place v level b p)) (block_length v level b)

  pub offset_next : (b : ℕ) → block_offset v level (suc b) ≡ block_offset v level b + block_length v level b
  unfolding block_offset sum
  offset_next b = refl

  pub offset_sum : (b a : ℕ) → a ≡ block_offset v level b → a ≡ sum b (block_length v level)
  unfolding block_offset
  offset_sum b a e = e

  pub start_sum : (b a : ℕ) → a ≡ block_start v level b → a ≡ sum b (block_data v level)
  unfolding block_start
  start_sum b a e = e

  -- block b starts at its offset
  pub block_of_joined : (f : ℕ → List ℕ) → ((b : ℕ) → b < block_count v level → length (f b) ≡ block_length v level b) → (b : ℕ) → b < block_count v level
      → block_of v level (joined (map f (up_to (block_count v level)))) b ≡ f b
  unfolding block_of block_offset
  block_of_joined f h b l = part_joined f (block_length v level) (block_count v level) h b l

  pub block_of_gathered : (at : ℕ → ℕ) (b : ℕ) → b < block_count v level → block_of v level (gathered_all v level at) b ≡ gathered v level at b
  unfolding gathered_all
  block_of_gathered at b h = block_of_joined (gathered v level at) (λ b l. length_gathered at b) b h

  -- the part of the buffer that is block b's data
  pub the_data : (blocks : List ℕ) (b w n : ℕ) → w ≡ block_offset v level b → n ≡ block_data v level b
      → take (w + n - w) (drop w blocks) ≡ take (block_data v level b) (block_of v level blocks b)
  unfolding block_of block_length
  the_data blocks b w n e h =
      the_part blocks w n ∙ rw (e, h)
      (sym (take-take (block_data v level b) (block_data v level b + check_count v level) (drop (block_offset v level b) blocks) (omega arith)))

  -- the data goes by the blocks that there are
  pub data_same : (f g : ℕ → List ℕ) → ((b : ℕ) → b < block_count v level → f b ≡ g b) → data_of v level f ≡ data_of v level g
  unfolding data_of
  data_same f g h = ap joined (map_up_to_same _ _ (block_count v level) (λ b l. ap (take (block_data v level b)) (h b l)))

module _ (v level : ℕ) (lawful : Lawful v level) where
  pub offset_end : (b : ℕ) → b < block_count v level → block_offset v level b + block_length v level b ≤ total v
  unfolding block_offset sum
  offset_end b h = omega (arith, sum_mono (suc b) (block_count v level) (block_length v level) h, length_sum v level lawful)

  -- ---- the data of blocks that stand one after the other

  module _ (blocks : List ℕ) (long : length blocks ≡ total v) where
    pub length_data : (b : ℕ) → b < block_count v level → length (take (block_data v level b) (block_of v level blocks b)) ≡ block_data v level b
    unfolding block_of block_length
    length_data b h =
        rw (take-take (block_data v level b) (block_data v level b + check_count v level) (drop (block_offset v level b) blocks) (omega arith))
        (length-take-le (block_data v level b) (drop (block_offset v level b) blocks) (rw length-drop (omega (arith, offset_end b h))))

  pub length_gathered_all : (at : ℕ → ℕ) → length (gathered_all v level at) ≡ total v
  unfolding gathered_all
  length_gathered_all at = length_joined (gathered v level at) (block_length v level) (block_count v level) (λ b l. length_gathered v level at b) ∙ length_sum v level lawful

  -- ---- a block that is dealt

  module _ (codewords : List ℕ) (long : length codewords ≡ data_count v level) where
    pub length_held : (b : ℕ) → b < block_count v level → length (take (block_data v level b) (drop (block_start v level b) codewords)) ≡ block_data v level b
    length_held b h =
        length-take-le (block_data v level b) (drop (block_start v level b) codewords)
        (rw length-drop (omega (arith, block_end v level b lawful h)))

    pub length_block : (b : ℕ) → b < block_count v level → length (block v level codewords b) ≡ block_length v level b
    unfolding block block_length
    length_block b h =
        length-append (take (block_data v level b) (drop (block_start v level b) codewords)) (checks (check_count v level) (take (block_data v level b) (drop (block_start v level b) codewords)))
        ∙ rw (length_held b h, length_checks)

    -- ---- what is sent at the place of a codeword of a block

    pub sent_at : (b p : ℕ) → b < block_count v level → p < block_length v level b
        → get_or (sent v level codewords) (sent_place v level b p) 0 ≡ get_or (block v level codewords b) p 0
    unfolding sent in_order
    sent_at b p hb hp =
        let once = sent_once v level lawful in
        let blocks = map (block v level codewords) (up_to (block_count v level)) in
        get_d_map (λ (c : Cell). get_or (get_or blocks c.of []) c.at 0) (sent_order v level) (sent_place v level b p) (record { of = 0; at = 0 }) 0
        (rw once.long (once.inside b p hb hp))
        ∙ ap (λ (c : Cell). get_or (get_or blocks c.of []) c.at 0) (once.at b p hb hp)
        ∙ ap (λ (l : List ℕ). get_or l p 0) (get_d_map_up_to (block v level codewords) (block_count v level) b [] hb)

    pub length_sent : length (sent v level codewords) ≡ total v
    unfolding sent in_order
    length_sent = length_map _ (sent_order v level) ∙ (sent_once v level lawful).long

-- ---- the theorems

pub deal_gather : DealGather
unfolding gathered
deal_gather v level lawful codewords long b h =
    map_up_to_same (λ p. get_or (sent v level codewords) (sent_place v level b p) 0) (λ p. get_or (block v level codewords b) p 0) (block_length v level b)
    (λ p l. sent_at v level lawful codewords long b p h l)
    ∙ ap (λ (n : ℕ). map (λ p. get_or (block v level codewords b) p 0) (up_to n)) (sym (length_block v level lawful codewords long b h))
    ∙ list_up_to (block v level codewords b)

pub data_back : DataBack
unfolding data_of block block_start
data_back v level lawful codewords long =
    ap joined
    (map_up_to_same _ (λ b. take (block_data v level b) (drop (sum b (block_data v level)) codewords)) (block_count v level)
    (λ b h. take_at _ _ (block_data v level b) (length_held v level lawful codewords long b h)))
    ∙ cut codewords (block_data v level) (block_count v level)
    ∙ take_all (sum (block_count v level) (block_data v level)) codewords (omega (arith, data_sum v level lawful))

-- the data of what is gathered from what is sent is the data
pub data_through : (v level : ℕ) → Lawful v level → (codewords : List ℕ) → length codewords ≡ data_count v level
    → data_of v level (block_of v level (gathered_all v level (λ q. get_or (sent v level codewords) q 0))) ≡ codewords
data_through v level lawful codewords long =
    data_same v level _ (block v level codewords)
    (λ b h. block_of_gathered v level (λ q. get_or (sent v level codewords) q 0) b h ∙ deal_gather v level lawful codewords long b h)
    ∙ data_back v level lawful codewords long
