-- Sums and tallies.
use Rattle.std.specs.Prelude.{Bool, true, false, ℕ, zero, suc, ◌+◌, ◌-◌}

-- f 0 + f 1 + .. + f (n - 1)
unfoldable pub sum : ℕ → (ℕ → ℕ) → ℕ
sum zero f = 0
sum (suc n) f = sum n f + f n

-- 1 where the test passes
abbrev pub one : Bool → ℕ
one true = 1
one false = 0

-- how many of 0, .., n - 1 pass the test
unfoldable pub tally : ℕ → (ℕ → Bool) → ℕ
tally n test = sum n (λ k. one (test k))

-- how far apart two numbers are
abbrev pub apart : ℕ → ℕ → ℕ
apart a b = (a - b) + (b - a)
