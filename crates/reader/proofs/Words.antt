-- What the copies of the version and format words stand for, from the one word near each: at most one word stands, so the answer of each copy
-- decides the step.
use mathlib.Core.Path.{◌≡◌, refl, sym, subst, subst₂, ◌∙◌}
use mathlib.Core.Logic.{◌≢◌, inl, inr}
use mathlib.Core.List.{List}
use Prim.Native.Nat.{ℕ, zero, suc, ◌^◌, ◌≤◌, ◌<◌}
use native.Mathlib.Omega.{arith}
use Rattle.words.specs.Words.{Near, format_word, format_bits, level_of, mask_of}
use Rattle.words.specs.Found.{FormatNear, VersionNear, FormatFound}
use Rattle.std.specs.Prelude.{Some, None, Err}
use Rattle.words.proofs.Words.{format_only, version_only}
use Rattle.words.proofs.Bits.{format_bits_lt, bits_of, level_lt, mask_lt}
use Rattle.modules.specs.Modules.{format_places, version_places}
use Rattle.scan.specs.declared.Copy.{Copy}
use Rattle.scan.specs.Received.{copied, readable}
use Rattle.scan.specs.Scan.{CopyRead}
use Rattle.scan.proofs.Copies.{format_length, version_length, readable_lt}
use Rattle.reader.specs.declared.Meta.{Meta}
use Rattle.reader.specs.Reader.{VersionStands, FormatStands, NoFormat, TwoFormats}
use Rattle.reader.specs.declared.Refusal.TheVariants as refused
use Rattle.reader.specs.Steps.{FormatRead, FormatsRead}

-- ---- a copy as it was read

pub version_asked : (m : List ℕ) (v copy : ℕ) (c : Copy) → 7 ≤ v → CopyRead m (version_places v copy) c → c.readable < 2 ^ 18
version_asked m v copy c h r = subst₂ (λ (x n : ℕ). x < 2 ^ n) (sym r.can) (version_length v copy h) (readable_lt m (version_places v copy))

pub format_asked : (m : List ℕ) (v copy : ℕ) (c : Copy) → CopyRead m (format_places v copy) c → c.readable < 2 ^ 15
format_asked m v copy c r = subst₂ (λ (x n : ℕ). x < 2 ^ n) (sym r.can) (format_length v copy) (readable_lt m (format_places v copy))

-- ---- version copies

module _ (m : List ℕ) (v copy : ℕ) where
  -- .. and no other is
  pub copy_same : (x : ℕ) → VersionNear (copied m (version_places v copy)) (readable m (version_places v copy)) x → x ≡ v
      → (y : ℕ) → y ≢ v → VersionStands v m copy y → ⊥
  copy_same x k q y n s = n (version_only _ _ y x s.near.least s.near.most k.least k.most s.near.near k.near ∙ q)

  pub copy_other : 7 ≤ v → copy < 2 → (x : ℕ) → VersionNear (copied m (version_places v copy)) (readable m (version_places v copy)) x → (x ≡ v → ⊥)
      → (x : ℕ) × (x ≢ v) × VersionStands v m copy x
  copy_other drawn which x k q = (x, q, record { which = which; drawn = drawn; near = k })

-- ---- format copies

module _ (m : List ℕ) (v copy : ℕ) (which : copy < 2) where
  stands_of : (bits : ℕ) → FormatNear (copied m (format_places v copy)) (readable m (format_places v copy)) bits → FormatStands v m copy (level_of bits) (mask_of bits)
  stands_of bits k =
      record {
        which = which;
        levels = level_lt bits k.lawful;
        masks = mask_lt bits;
        near = subst (λ (x : ℕ). Near 15 (copied m (format_places v copy)) (readable m (format_places v copy)) (format_word x)) (sym (bits_of bits k.lawful)) k.near;
      }

near_of : (m : List ℕ) (v copy l k : ℕ) → FormatStands v m copy l k → FormatNear (copied m (format_places v copy)) (readable m (format_places v copy)) (format_bits l k)
near_of m v copy l k s = record { lawful = format_bits_lt l k s.levels s.masks; near = s.near }

only_of : (m : List ℕ) (v copy l k bits : ℕ) → FormatNear (copied m (format_places v copy)) (readable m (format_places v copy)) bits → FormatStands v m copy l k → format_bits l k ≡ bits
only_of m v copy l k bits n s = format_only _ _ _ _ (format_bits_lt l k s.levels s.masks) n.lawful s.near n.near

module _ (m : List ℕ) (v : ℕ) where
  -- no word is near the copy
  abbrev Nothing : (copy : ℕ) → Type 0
  Nothing copy = FormatFound (copied m (format_places v copy)) (readable m (format_places v copy)) None

  -- or this one
  abbrev Near_by : (copy bits : ℕ) → Type 0
  Near_by copy bits = FormatFound (copied m (format_places v copy)) (readable m (format_places v copy)) (Some bits)

  nothing_stands : (copy : ℕ) → Nothing copy → (l k : ℕ) → FormatStands v m copy l k → ⊥
  nothing_stands copy none l k s = none (format_bits l k) (near_of m v copy l k s)

  none_stand : Nothing 0 → Nothing 1 → NoFormat v m
  none_stand p q zero l k s = nothing_stands 0 p l k s
  none_stand p q (suc zero) l k s = nothing_stands 1 q l k s
  none_stand p q (suc (suc c)) l k s = let h = s.which in omega arith

  pub neither : Nothing 0 → Nothing 1 → FormatsRead v m (Err refused.NoFormat)
  neither p q = inl (refl, none_stand p q)

  -- the copy is the one of the two words that stands
  read_by : (copy x : ℕ) (w : Meta) → copy < 2 → Near_by copy x → (w.level ≡ level_of x) × (w.mask ≡ mask_of x) → (TwoFormats v m → ⊥) → FormatRead v m w
  read_by copy x w h p e one = record { copy = copy; stands = subst₂ (FormatStands v m copy) (sym e.0) (sym e.1) (stands_of m v copy h x p); one = one }

  pub by_second : (y : ℕ) (w : Meta) → Nothing 0 → Near_by 1 y → (w.level ≡ level_of y) × (w.mask ≡ mask_of y) → FormatRead v m w
  by_second y w p q e = read_by 1 y w (omega arith) q e (λ t. nothing_stands 0 p _ _ t.4)

  pub by_first : (x : ℕ) (w : Meta) → Near_by 0 x → Nothing 1 → (w.level ≡ level_of x) × (w.mask ≡ mask_of x) → FormatRead v m w
  by_first x w p q e = read_by 0 x w (omega arith) p e (λ t. nothing_stands 1 q _ _ t.5)

  pub by_both : (x y : ℕ) (w : Meta) → Near_by 0 x → Near_by 1 y → x ≡ y → (w.level ≡ level_of x) × (w.mask ≡ mask_of x) → FormatRead v m w
  by_both x y w p q z e =
      read_by 0 x w (omega arith) p e
      (λ t. t.6 (only_of m v 0 _ _ x p t.4 ∙ z ∙ sym (only_of m v 1 _ _ y q t.5)))

  pub different : (x y : ℕ) → Near_by 0 x → Near_by 1 y → (x ≡ y → ⊥) → FormatsRead v m (Err refused.TwoFormats)
  different x y a b z =
      let s = stands_of m v 0 (omega arith) x a in
      let t = stands_of m v 1 (omega arith) y b in
      inr (refl, (λ n. n 0 _ _ s), (level_of x, mask_of x, level_of y, mask_of y, s, t, λ e. z (sym (bits_of x a.lawful) ∙ e ∙ bits_of y b.lawful)))
