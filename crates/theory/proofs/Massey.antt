-- One step of a Berlekamp-Massey run keeps `Run`, and the degree stays the least possible.
use mathlib.Core.Path.{◌≡◌, refl, sym, ap, ap₂, ◌∙◌}
use mathlib.Core.Logic.{◌≢◌, ⊎_elim, by_cases}
use Prim.Native.Nat.{ℕ, zero, suc, ◌+◌, ◌-◌, ◌≤◌, ◌<◌}
use native.Mathlib.Nat.{add-zero, zero-add, add-suc, suc-add, add_right_comm, eq-or-lt_of_le, le_of_suc-le-suc}
use native.Mathlib.Omega.{arith}
use native.Mathlib.Decide.{dec_lt}
use Rattle.theory.proofs.Field.{Field}
use Rattle.theory.proofs.Run.{act, Below, Monic, one, shift, mix, Run}
use Rattle.theory.proofs.Algebra.{ring, ⊗_assoc, ⊗_comm, zero-⊗, ⊗_zero, sum_cong, sum_zero, sum-⊕, sum-⊗, sum_swap, sum_front, sum_less, sum_single}

module _ (K : Field) where
  open K use {F, ◌⊕◌, ◌⊗◌, 𝟘, 𝟙, inv}

  pub act_comm : (n : ℕ) (A B s : ℕ → F) (i : ℕ) → act K n A (act K n B s) i ≡ act K n B (act K n A s) i
  unfolding act
  act_comm n A B s i = simp (act, ← sum-⊗ K) (sum_swap K n n _ ∙ simp (add_right_comm, ring))

  pub act-⊕ : (n : ℕ) (A B s : ℕ → F) (q : F) (i : ℕ) → act K n (λ k. A k ⊕ q ⊗ B k) s i ≡ act K n A s i ⊕ q ⊗ act K n B s i
  unfolding act
  act-⊕ n A B s q i = rw (act, ← sum-⊗ K n q, ← sum-⊕ K) (simp ring)

  pub shift_below : (d : ℕ) {m : ℕ} {A : ℕ → F} → Below K m A → Below K (d + m) (shift K d A)
  unfolding shift
  shift_below zero b k l = b k (omega arith)
  shift_below (suc d) b zero l = refl
  shift_below (suc d) b (suc k) l = shift_below d b k (omega arith)

  pub shift_at : (d k : ℕ) (A : ℕ → F) → shift K d A (d + k) ≡ A k
  unfolding shift
  shift_at zero k A = ap A (zero-add k)
  shift_at (suc d) k A = ap (shift K (suc d) A) (suc-add d k) ∙ shift_at d k A

  pub act_shift : (n d : ℕ) {m : ℕ} {A : ℕ → F} (s : ℕ → F) (i : ℕ) → d + m ≤ n → Below K m A → act K n (shift K d A) s i ≡ act K n A s (i + d)
  unfolding act shift
  act_shift n zero s i l b = simp add-zero
  act_shift zero (suc d) s i l b = absurd (omega arith)
  act_shift (suc n) (suc d) s i l b =
      let rest = sym (sum_less K n (λ k. shift K d _ k ⊗ s (suc i + k)) (rw (shift_below d b n (omega arith)) (zero-⊗ K _))) ∙ act_shift (suc n) d s (suc i) (omega arith) b in
      rw (act, sum_front K n) (simp (ring, add-suc, suc-add) (simp (act, ring, suc-add) at rest))

  upto : (P : ℕ → Type 0) (i : ℕ) → ((h : ℕ) → h < i → P h) → P i → (h : ℕ) → h < suc i → P h
  upto P i f p h l = ⊎_elim (λ e. rw e p) (f h) (eq-or-lt_of_le (le_of_suc-le-suc l))

  -- what is added to the polynomial cancels its discrepancy d
  cancel : (d b : F) → b ≢ 𝟘 → d ⊕ d ⊗ inv b ⊗ b ≡ 𝟘
  cancel d b z = rw (⊗_assoc K, ⊗_comm K (inv b), K.⊗_inv b z) (simp ring)

  -- only the values that the polynomial reads count
  pub act_window : (n : ℕ) {m : ℕ} {A : ℕ → F} (s s' : ℕ → F) (i : ℕ) → Below K m A → ((k : ℕ) → k < m → s (i + k) ≡ s' (i + k)) → act K n A s i ≡ act K n A s' i
  unfolding act
  act_window n {m} {A} s s' i b f = sum_cong K n (λ k l. by_cases (dec_lt k m) (λ h. ap (λ x. A k ⊗ x) (f k h)) (λ h. rw (b k (omega arith)) (simp ring)))

  pub act_zero : (n : ℕ) {m : ℕ} {A : ℕ → F} (s : ℕ → F) (i : ℕ) → Below K m A → ((k : ℕ) → k < m → s (i + k) ≡ 𝟘) → act K n A s i ≡ 𝟘
  unfolding act
  act_zero n s i b f = act_window n s (λ k. 𝟘) i b f ∙ sum_zero K n (λ k l. ⊗_zero K _)

  -- a monic polynomial of degree t, where the first t values that it reads are 0
  act_first : (n : ℕ) {t : ℕ} {A : ℕ → F} (s : ℕ → F) (i : ℕ) → Monic K t A → t < n → ((h : ℕ) → h < i + t → s h ≡ 𝟘) → act K n A s i ≡ s (i + t)
  unfolding act
  act_first n {t} {A} s i m l z =
      sum_single K n t l (λ k j d. by_cases (dec_lt k t) (λ h. rw (z (i + k) (omega arith)) (simp ring)) (λ h. rw (m.below k (omega arith)) (simp ring)))
      ∙ rw m.lead (simp ring)

  pub act_mix :
      (n j k : ℕ) (q : F) {A B : ℕ → F} {m m' : ℕ} (s : ℕ → F) (h : ℕ) → j + m ≤ n → Below K m A → k + m' ≤ n → Below K m' B →
      {x y : F} → act K n A s (h + j) ≡ x → act K n B s (h + k) ≡ y → act K n (mix K j k q A B) s h ≡ x ⊕ q ⊗ y
  unfolding mix
  act_mix n j k q s h l a m b f g = act-⊕ n _ _ s q h ∙ ap₂ (λ x y. x ⊕ q ⊗ y) (act_shift n j s h l a ∙ f) (act_shift n k s h m b ∙ g)

  pub mix_below : (j k : ℕ) (q : F) {A B : ℕ → F} {m m' : ℕ} → Below K m A → Below K m' B → (h : ℕ) → j + m ≤ h → k + m' ≤ h → mix K j k q A B h ≡ 𝟘
  unfolding mix
  mix_below j k q a b h l m = rw (mix, shift_below j a h l, shift_below k b h m) (simp ring)

  pub mix_lead : (j k : ℕ) (q : F) (A : ℕ → F) {B : ℕ → F} {L m : ℕ} → Monic K L A → Below K m B → k + m ≤ j + L → mix K j k q A B (j + L) ≡ 𝟙
  unfolding mix
  mix_lead j k q A {L = L} a b l = rw (mix, shift_at j L A, a.lead, shift_below k b (j + L) l) (simp ring)

  -- the step from i + L values to one more, where A is d on the next window
  module _ (n : ℕ) (s : ℕ → F) {i L : ℕ} {A B : ℕ → F} {b : F} (r : Run K n s i L A B b) (d : F) (e : act K n A s i ≡ d) where
    pub keep : d ≡ 𝟘 → Run K n s (suc i) L A B b
    keep z = record {
      monic = r.monic;
      zeros = upto (λ h. act K n A s h ≡ 𝟘) i r.zeros (e ∙ z);
      below = λ h l. r.below h (omega arith);
      zeros' = r.zeros';
      last = r.last;
      nonzero = r.nonzero;
      least = λ t C l c v. r.least t C l c (λ h q. v h (omega arith));
    }

    pub mend : (k : ℕ) → k + suc i ≡ L → L < n → Run K n s (suc i) L (mix K 0 k (d ⊗ inv b) A B) B b
    mend k p l = record {
      monic = record {
        lead = rw zero-add at (mix_lead 0 k (d ⊗ inv b) A r.monic r.below (omega arith));
        below = λ h m. mix_below 0 k (d ⊗ inv b) r.monic.below r.below h (omega arith) (omega arith);
      };
      zeros =
          upto
          (λ h. act K n (mix K 0 k (d ⊗ inv b) A B) s h ≡ 𝟘)
          i
          (λ h m. after h (r.zeros (h + 0) (omega arith)) (r.zeros' (h + k) (omega arith)) ∙ simp ring)
          (after i (ap (act K n A s) (add-zero i) ∙ e) (r.last (i + k) (omega arith)) ∙ cancel d b r.nonzero);
      below = λ h m. r.below h (omega arith);
      zeros' = r.zeros';
      last = r.last;
      nonzero = r.nonzero;
      least = λ t C l c v. r.least t C l c (λ h q. v h (omega arith));
    }
      where
        after : (h : ℕ) {x y : F} → act K n A s (h + 0) ≡ x → act K n B s (h + k) ≡ y → act K n (mix K 0 k (d ⊗ inv b) A B) s h ≡ x ⊕ d ⊗ inv b ⊗ y
        after h = act_mix n 0 k (d ⊗ inv b) s h (omega arith) r.monic.below (omega arith) r.below

    -- a monic polynomial of degree t ≤ i that is 0 on every window would make the discrepancy 0
    exceeds : (t : ℕ) (C : ℕ → F) → d ≢ 𝟘 → t < n → Monic K t C → ((h : ℕ) → h + t < L + suc i → act K n C s h ≡ 𝟘) → suc i ≤ t
    exceeds t C z l c v = by_cases (dec_lt i t) (λ q. q) (λ q. absurd (z (sym e ∙ fails (i - t) (omega arith))))
      where
        fails : (h : ℕ) → h + t ≡ i → act K n A s i ≡ 𝟘
        fails h p =
            ap (act K n A s) (sym p)
            ∙ sym (act_first n (act K n A s) h c l (λ j q. r.zeros j (omega arith)))
            ∙ act_comm n C A s h
            ∙ act_zero n (act K n C s) h r.monic.below (λ j q. v (h + j) (omega arith))

    pub grow : (k : ℕ) → k + L ≡ suc i → suc i < n → d ≢ 𝟘 → Run K n s L (suc i) (mix K k 0 (d ⊗ inv b) A B) A d
    grow k p l z = record {
      monic = record {
        lead = rw p at (mix_lead k 0 (d ⊗ inv b) A r.monic r.below (omega arith));
        below = λ h m. mix_below k 0 (d ⊗ inv b) r.monic.below r.below h (omega arith) (omega arith);
      };
      zeros =
          λ h m.
          ⊎_elim
          (λ q. after h (ap (act K n A s) (omega arith) ∙ e) (r.last (h + 0) (omega arith)) ∙ cancel d b r.nonzero)
          (λ q. after h (r.zeros (h + k) (omega arith)) (r.zeros' (h + 0) (omega arith)) ∙ simp ring)
          (eq-or-lt_of_le m);
      below = r.monic.below;
      zeros' = λ h m. r.zeros h (omega arith);
      last = λ h q. ap (act K n A s) (omega arith) ∙ e;
      nonzero = z;
      least = λ t C. exceeds t C z;
    }
      where
        after : (h : ℕ) {x y : F} → act K n A s (h + k) ≡ x → act K n B s (h + 0) ≡ y → act K n (mix K k 0 (d ⊗ inv b) A B) s h ≡ x ⊕ d ⊗ inv b ⊗ y
        after h = act_mix n k 0 (d ⊗ inv b) s h (omega arith) r.monic.below (omega arith) r.below

  pub one_below : Below K 1 (one K)
  unfolding one
  one_below zero l = absurd (omega arith)
  one_below (suc k) l = refl

  -- before the first value
  pub start : (n : ℕ) (s : ℕ → F) → Run K n s 0 0 (one K) (λ k. 𝟘) 𝟙
  unfolding one
  start n s = record {
    monic = record { lead = refl; below = one_below };
    zeros = λ h l. absurd (omega arith);
    below = λ k l. refl;
    zeros' = λ h l. absurd (omega arith);
    last = λ h p. absurd (omega arith);
    nonzero = K.one≢zero;
    least = λ t C l c v. omega arith;
  }

  pub record Reached (n : ℕ) (s : ℕ → F) (r : ℕ) : Type 0 where
    pub window : ℕ
    pub degree : ℕ
    pub poly : ℕ → F
    pub prev : ℕ → F
    pub disc : F
    pub run : Run K n s window degree poly prev disc
    pub total : window + degree ≡ r

  -- the run over the first r values
  pub massey : (n : ℕ) (s : ℕ → F) (r : ℕ) → r < n → Reached n s r
  massey n s zero l = record { window = 0; degree = 0; poly = one K; prev = λ k. 𝟘; disc = 𝟙; run = start n s; total = refl }
  massey n s (suc r) l = next (massey n s r (omega arith))
    where
      next : Reached n s r → Reached n s (suc r)
      next c =
          by_cases
          (K.equal d 𝟘)
          (λ z. record { window = suc i; degree = L; poly = c.poly; prev = c.prev; disc = c.disc; run = keep n s c.run d refl z; total = omega arith })
          λ z.
          by_cases
          (dec_lt i L)
          (λ h. record { window = suc i; degree = L; poly = _; prev = _; disc = _; run = mend n s c.run d refl (L - suc i) (omega arith) (omega arith); total = omega arith })
          (λ h. record { window = L; degree = suc i; poly = _; prev = _; disc = _; run = grow n s c.run d refl (suc i - L) (omega arith) (omega arith) z; total = omega arith })
        where
          i : ℕ
          i = c.window

          L : ℕ
          L = c.degree

          d : F
          d = act K n c.poly s i
