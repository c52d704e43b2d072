-- The runs of a line, how much they add at the most, and `runs_firsts`: of a run of r ≥ 5 modules r − 4 begin five equal ones and r − 5 begin six, and
-- r − 2 = 3 · (r − 4) − 2 · (r − 5), so that the runs are counted without a walk.
use mathlib.Core.Path.{◌≡◌, refl, sym, ap, subst, ◌∙◌}
use mathlib.Core.Logic.{by_cases}
use mathlib.Core.Bool.{Bool, true, false, cond}
use mathlib.Core.List.{List, [], ◌∷◌}
use Prim.Native.Nat.{ℕ, suc, ◌+◌, ◌-◌, ◌*◌, ◌<◌, ◌≤◌}
use native.Mathlib.Nat.{zero-add, add-zero, add_comm}
use native.Mathlib.Decide.{ℕ_discrete, dec_le}
use native.Mathlib.Omega.{arith}
use borrow.Author.Tests.{eq-eqb, ne_eqb, le-leb, lt-leb}
use lib.Dec.{leb, eqb}
use lib.ListN.{length}
use Rattle.basics.specs.Sums.{one}
use Rattle.penalty.specs.Penalty.{run, runs_after, runs}

cond_le : (b : Bool) (x y n : ℕ) → (b ≡ true → x ≤ n) → (b ≡ false → y ≤ n) → cond b x y ≤ n
cond_le true x y n t f = t refl
cond_le false x y n t f = f refl

pub run_le : (r : ℕ) → run r ≤ r - 2
unfolding run
run_le r = cond_le (leb 5 r) (r - 2) 0 (r - 2) (λ _. omega arith) (λ _. omega arith)

-- a module of the colour of the run before it, and one of another colour
pub runs_same : (c r x : ℕ) (xs : List ℕ) → x ≡ c → runs_after c r (x ∷ xs) ≡ runs_after c (r + 1) xs
unfolding runs_after
runs_same c r x xs e = rw (e, eq-eqb c c refl) (zero-add _)

pub runs_other : (c r x : ℕ) (xs : List ℕ) → (x ≡ c → ⊥) → runs_after c r (x ∷ xs) ≡ run r + runs_after x 1 xs
unfolding runs_after
runs_other c r x xs e = rw (ne_eqb x c e)

pub runs_after_le : (c r : ℕ) (xs : List ℕ) → 1 ≤ r → runs_after c r xs ≤ r + length xs - 2
unfolding runs_after
runs_after_le c r [] h = omega (arith, run_le r)
runs_after_le c r (x ∷ xs) h =
    step (eqb x c) (runs_after_le x (r + 1) xs (omega arith)) (runs_after_le x 1 xs (omega arith))
  where
    step : (b : Bool) → runs_after x (r + 1) xs ≤ r + 1 + length xs - 2 → runs_after x 1 xs ≤ 1 + length xs - 2
        → cond b 0 (run r) + runs_after x (cond b (r + 1) 1) xs ≤ r + suc (length xs) - 2
    step true p q = omega arith
    step false p q = omega (arith, run_le r)

pub runs_le : (xs : List ℕ) → runs xs ≤ length xs - 2
unfolding runs
runs_le [] = omega arith
runs_le (x ∷ xs) = omega (arith, runs_after_le x 1 xs (omega arith))

-- ---- how many modules begin k equal ones

-- how many modules of colour c a line begins with
unfoldable pub lead : (c : ℕ) → List ℕ → ℕ
lead c [] = 0
lead c (x ∷ xs) = cond (eqb x c) (suc (lead c xs)) 0

-- how many begin k equal ones
pub firsts : (k : ℕ) → List ℕ → ℕ
firsts k [] = 0
firsts k (x ∷ xs) = one (leb k (suc (lead x xs))) + firsts k xs

pub lead_same : (c x : ℕ) (xs : List ℕ) → x ≡ c → lead c (x ∷ xs) ≡ suc (lead c xs)
unfolding lead
lead_same c x xs e = rw (eq-eqb x c e)

pub lead_other : (c x : ℕ) (xs : List ℕ) → (x ≡ c → ⊥) → lead c (x ∷ xs) ≡ 0
unfolding lead
lead_other c x xs e = rw (ne_eqb x c e)

lead_le : (c : ℕ) (xs : List ℕ) → lead c xs ≤ length xs
unfolding lead
lead_le c [] = omega arith
lead_le c (x ∷ xs) = step (eqb x c) (lead_le c xs)
  where
    step : (b : Bool) → lead c xs ≤ length xs → cond b (suc (lead c xs)) 0 ≤ suc (length xs)
    step true h = omega arith
    step false h = omega arith

pub short_firsts : (k : ℕ) (xs : List ℕ) → length xs < k → firsts k xs ≡ 0
unfolding firsts
short_firsts k [] h = refl
short_firsts k (x ∷ xs) h = rw (lt-leb k (suc (lead x xs)) (omega (arith, lead_le x xs))) (zero-add _ ∙ short_firsts k xs (omega arith))

-- what a longer run before the line adds, it adds where that run ends
after_lead : (c r : ℕ) (xs : List ℕ) → runs_after c r xs + run (1 + lead c xs) ≡ runs_after c 1 xs + run (r + lead c xs)
unfolding runs_after lead
after_lead c r [] = add_comm (run r) (run 1) ∙ ap (λ (k : ℕ). run 1 + run k) (sym (add-zero r))
after_lead c r (x ∷ xs) =
    by_cases (ℕ_discrete x c)
    (λ (e : x ≡ c).
    let one_more : 1 + suc (lead c xs) ≡ 2 + lead c xs = omega arith in
    let r-more : r + suc (lead c xs) ≡ r + 1 + lead c xs = omega arith in
    rw (runs_same c r x xs e, runs_same c 1 x xs e, lead_same c x xs e, one_more, r-more) (omega (arith, after_lead c (r + 1) xs, after_lead c 2 xs)))
    (λ (e : x ≡ c → ⊥). rw (runs_other c r x xs e, runs_other c 1 x xs e, lead_other c x xs e, add-zero r) (omega arith))

run_more : (l : ℕ) → run (2 + l) + 2 * one (leb 6 (suc (suc l))) ≡ run (1 + l) + 3 * one (leb 5 (suc (suc l)))
unfolding run
run_more l =
    by_cases (dec_le 4 l)
    (λ (h : 4 ≤ l). rw (le-leb 5 (2 + l) (omega arith), le-leb 6 (suc (suc l)) (omega arith), le-leb 5 (1 + l) (omega arith), le-leb 5 (suc (suc l)) (omega arith)) (omega arith))
    (λ (h : 4 ≤ l → ⊥). rw (lt-leb 6 (suc (suc l)) (omega arith), lt-leb 5 (1 + l) (omega arith))
    (by_cases (dec_le 3 l)
    (λ (g : 3 ≤ l). rw (le-leb 5 (2 + l) (omega arith), le-leb 5 (suc (suc l)) (omega arith)) (omega arith))
    (λ (g : 3 ≤ l → ⊥). rw (lt-leb 5 (2 + l) (omega arith), lt-leb 5 (suc (suc l)) (omega arith)) (omega arith))))

pub firsts_cons : (k x : ℕ) (xs : List ℕ) → firsts k (x ∷ xs) ≡ one (leb k (suc (lead x xs))) + firsts k xs
unfolding firsts
firsts_cons k x xs = refl

runs_cons : (x : ℕ) (xs : List ℕ) → runs (x ∷ xs) ≡ runs_after x 1 xs
unfolding runs
runs_cons x xs = refl

abbrev Counted : List ℕ → Type 0
Counted xs = runs xs + 2 * firsts 6 xs ≡ 3 * firsts 5 xs

one_longer : (x : ℕ) (xs : List ℕ) → Counted (x ∷ xs) → Counted (x ∷ x ∷ xs)
one_longer x xs e =
    let l = ap suc (lead_same x x xs refl) in
    let a = runs_cons x (x ∷ xs) ∙ runs_same x 1 x xs refl in
    let six = firsts_cons 6 x (x ∷ xs) ∙ ap (λ (n : ℕ). one (leb 6 n) + firsts 6 (x ∷ xs)) l in
    let five = firsts_cons 5 x (x ∷ xs) ∙ ap (λ (n : ℕ). one (leb 5 n) + firsts 5 (x ∷ xs)) l in
    omega (arith, e, runs_cons x xs, after_lead x 2 xs, run_more (lead x xs))

one_other : (x y : ℕ) (ys : List ℕ) → (y ≡ x → ⊥) → Counted (y ∷ ys) → Counted (x ∷ y ∷ ys)
unfolding run
one_other x y ys n e =
    let l = ap suc (lead_other x y ys n) in
    let a = runs_cons x (y ∷ ys) ∙ runs_other x 1 y ys n in
    let six = firsts_cons 6 x (y ∷ ys) ∙ ap (λ (n : ℕ). one (leb 6 n) + firsts 6 (y ∷ ys)) l in
    let five = firsts_cons 5 x (y ∷ ys) ∙ ap (λ (n : ℕ). one (leb 5 n) + firsts 5 (y ∷ ys)) l in
    omega (arith, e, runs_cons y ys)

pub runs_firsts : (xs : List ℕ) → Counted xs
unfolding runs runs_after firsts lead run
runs_firsts [] = refl
runs_firsts (x ∷ []) = refl
runs_firsts (x ∷ y ∷ ys) =
    by_cases (ℕ_discrete y x)
    (λ (e : y ≡ x). subst (λ (z : ℕ). Counted (z ∷ y ∷ ys)) e (one_longer y ys (runs_firsts (y ∷ ys))))
    (λ (e : y ≡ x → ⊥). one_other x y ys e (runs_firsts (y ∷ ys)))
