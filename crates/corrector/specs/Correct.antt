-- What the corrector answers.
use Rattle.std.specs.Prelude.{◌≡◌, List, ℕ, zero, suc, ◌≤◌, ◌<◌, Option, Some, None, length, get_or}
use Rattle.corrector.specs.declared.Counts.{Counts}
use Rattle.code.specs.Code.{Stands, unreadable, syndromes_of}
use Rattle.code.specs.Lanes.{lanes, padded}

-- the syndromes of a block's word, and how many codewords are unreadable, no more than there are checks
pub record Asked (word flags s : List ℕ) (n e : ℕ) : Type 0 where
  pub bytes : (j : ℕ) → j < length word → get_or word j 0 < 256
  pub checks : n ≤ 30
  pub missing : e ≡ unreadable flags
  pub few : e ≤ n
  pub sums : s ≡ padded lanes (syndromes_of n word)

-- a codeword that the block stands for is this one
abbrev pub Proposed : (n : ℕ) (word flags r : List ℕ) → Type 0
Proposed n word flags r = (room : ℕ) (c : List ℕ) (t e : ℕ) → room ≤ n → Stands n room word flags c t e → (j : ℕ) → j < length word → get_or r j 0 ≡ get_or c j 0

-- within the bound of n checks the block stands for no codeword
abbrev pub StandsForNone : (n : ℕ) (word flags : List ℕ) → Type 0
StandsForNone n word flags = (room : ℕ) (c : List ℕ) (t e : ℕ) → room ≤ n → Stands n room word flags c t e → ⊥

-- the block stands for c with these counts, or with none
abbrev pub Tested : (n room : ℕ) (word flags c : List ℕ) → Option Counts → Type 0
Tested n room word flags c (Some k) = Stands n room word flags c k.differing k.unreadable
Tested n room word flags c None = (t e : ℕ) → Stands n room word flags c t e → ⊥

-- the paper's number for each case: 12, "a block has no codeword within its bound"; a codeword is no refusal, 0
abbrev pub number_of : Option Counts → ℕ
number_of (Some k) = 0
number_of None = 12

-- and its values, t and e; "A refusal carries its number and zeros."
abbrev pub differing_of : Option Counts → ℕ
differing_of (Some k) = k.differing
differing_of None = 0

abbrev pub unreadable_of : Option Counts → ℕ
unreadable_of (Some k) = k.unreadable
unreadable_of None = 0

-- what a number says with its values. 0: the word holds the codeword that the block stands for, with its t and e; a refusal: there is none, and the word
-- is as it was
abbrev pub Says : (n room : ℕ) (word flags exit : List ℕ) (number t e : ℕ) → Type 0
Says n room word flags exit zero t e = Stands n room word flags exit t e
Says n room word flags exit (suc k) t e = (exit ≡ word) × ((c : List ℕ) (t e : ℕ) → Stands n room word flags c t e → ⊥)

-- "the bound is 2t + e ≤ n at every version and level": the answer's number and values say what holds of the block
abbrev pub Corrected : (n room : ℕ) (word flags exit : List ℕ) → Option Counts → Type 0
Corrected n room word flags exit r = Says n room word flags exit (number_of r) (differing_of r) (unreadable_of r)

-- no two different answers, nor two words, satisfy the promise of `correct`
abbrev pub CorrectedOnly : Type 0
CorrectedOnly = (n room : ℕ) (word flags exit exit₁ : List ℕ) (r r₁ : Option Counts) → room ≤ n → length word ≤ 255
    → Corrected n room word flags exit r → Corrected n room word flags exit₁ r₁ → (r ≡ r₁) × (exit ≡ exit₁)
