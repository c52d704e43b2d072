-- Texts pasted one after the other are pasted as one text, and a buffer keeps its length.
--     stored, copied, then    one byte; bytes copied into a part; a text and the text behind it
--     room_first, room_next   where there is room for both there is room for the first, and then for the second
--     Progress          a loop on its way through a text: what is written, and what is left
--     printed           from place 0 on: the text, and behind it the buffer as it was
use mathlib.Core.Path.{◌≡◌, refl, sym, ap, subst, ◌∙◌}
use mathlib.Core.List.{List, [], ◌∷◌, ◌++◌, append_assoc, append-nil}
use Prim.Native.Nat.{ℕ, suc, ◌+◌, ◌-◌, ◌≤◌}
use native.Mathlib.Nat.{add-zero, add-suc, suc-add, zero-add, add-sub_cancel_left}
use borrow.Rule.Slice.PartMut.{put_mid}
use native.Mathlib.Omega.{arith}
use lib.ListN.{length, drop, set, length-append, length-set}
use lib.Seq.{sets, sets-eq, drop-drop}
use Rattle.basics.specs.Lists.{joined}
use Rattle.text.specs.Paste.{pasted, RoomForBytes, Pasted, Printed}

pub pasted_length : (at : ℕ) (s out : List ℕ) → length (pasted at s out) ≡ length out
unfolding pasted
pasted_length at [] out = refl
pasted_length at (b ∷ s) out = pasted_length (suc at) s (set out at b) ∙ length-set out at b

pub pasted_then : (at : ℕ) (s t out : List ℕ) → pasted (at + length s) t (pasted at s out) ≡ pasted at (s ++ t) out
unfolding pasted
pasted_then at [] t out = rw add-zero
pasted_then at (b ∷ s) t out = rw (add-suc, ← suc-add) (pasted_then (suc at) s t (set out at b))

pasted_sets : (at : ℕ) (s out : List ℕ) → pasted at s out ≡ sets out at s
unfolding pasted
pasted_sets at [] out = refl
pasted_sets at (b ∷ s) out = pasted_sets (suc at) s (set out at b)

pub pasted_front : (s out : List ℕ) → length s ≤ length out → pasted 0 s out ≡ s ++ drop (length s) out
pasted_front s out h = pasted_sets 0 s out ∙ sets-eq s out 0 (rw zero-add h) ∙ rw zero-add

-- ---- one after the other

pub kept : {out after s : List ℕ} {at n : ℕ} → Pasted out at s n after → length after ≡ length out
kept {out} {after} {s} {at} p = ap length p.holds ∙ pasted_length at s out

pub nothing : (out : List ℕ) (at : ℕ) → Pasted out at [] at out
unfolding pasted
nothing out at = record { behind = sym (add-zero at); holds = refl }

pub stored : (out : List ℕ) (at b : ℕ) → Pasted out at (b ∷ []) (at + 1) (set out at b)
unfolding pasted
stored out at b = record { behind = refl; holds = refl }

-- bytes copied into a lent part
pub copied : (out : List ℕ) (at : ℕ) (s part : List ℕ) → RoomForBytes out at s → part ≡ s → Pasted out at s (at + length s) (put_mid at (at + length s - at) out part)
copied out at s part h e =
    record { behind = refl; holds = rw (e, add-sub_cancel_left, drop-drop, ← append_assoc) (sym (pasted_sets at s out ∙ sets-eq s out at h.fits)) }

pub then : {out o₁ o₂ s t : List ℕ} {at n m : ℕ} → Pasted out at s n o₁ → Pasted o₁ n t m o₂ → Pasted out at (s ++ t) m o₂
then {out} {o₁} {o₂} {s} {t} {at} {n} p q =
    record {
      behind = q.behind ∙ omega (arith, p.behind, length-append s t);
      holds = q.holds ∙ rw (p.holds, p.behind) (pasted_then at s t out);
    }

-- ---- room

pub room_first : {out : List ℕ} {at : ℕ} (s t : List ℕ) → RoomForBytes out at (s ++ t) → RoomForBytes out at s
room_first s t h = record { fits = omega (arith, h.fits, length-append s t) }

pub room_next : {out o₁ s : List ℕ} {at n : ℕ} (t : List ℕ) → RoomForBytes out at (s ++ t) → Pasted out at s n o₁ → RoomForBytes o₁ n t
room_next {out} {o₁} {s} {at} {n} t h p = record { fits = omega (arith, h.fits, length-append s t, kept p, p.behind) }

-- ---- a loop that pastes a text piece by piece

-- a front of the whole text is pasted, and the rest is left
pub record Progress (out : List ℕ) (at : ℕ) (whole after : List ℕ) (next : ℕ) (rest : List ℕ) : Type 0 where
  pub front : List ℕ
  pub written : Pasted out at front next after
  pub left : front ++ rest ≡ whole

pub start : (out : List ℕ) (at : ℕ) (whole : List ℕ) → Progress out at whole out at whole
start out at whole = record { front = []; written = nothing out at; left = refl }

-- what is left, said in another way
pub said : {out whole after r r' : List ℕ} {at n : ℕ} → r ≡ r' → Progress out at whole after n r → Progress out at whole after n r'
said e p = record { front = p.front; written = p.written; left = rw (← e) p.left }

pub room : {out whole after : List ℕ} {at n : ℕ} (piece rest : List ℕ)
    → RoomForBytes out at whole → Progress out at whole after n (piece ++ rest) → RoomForBytes after n piece
room {out} {whole} {after} {at} {n} piece rest h p =
    let l = ap length p.left in
    record {
      fits = omega (arith, h.fits, kept p.written, p.written.behind, l, length-append p.front (piece ++ rest), length-append piece rest);
    }

pub more : {out whole after o₂ : List ℕ} {at n m : ℕ} (piece rest : List ℕ)
    → Progress out at whole after n (piece ++ rest) → Pasted after n piece m o₂ → Progress out at whole o₂ m rest
more piece rest p q =
    record { front = p.front ++ piece; written = then p.written q; left = append_assoc p.front piece rest ∙ p.left }

pub done : {out whole after : List ℕ} {at n : ℕ} → Progress out at whole after n [] → Pasted out at whole n after
done {out} {whole} {after} {at} {n} p =
    subst (λ (s : List ℕ). Pasted out at s n after) (sym (append-nil p.front) ∙ p.left) p.written

-- ---- the pieces of a text, one after the other

-- some pieces of the whole text are pasted, and these are left
pub record Writing (out : List ℕ) (at : ℕ) (whole after : List ℕ) (next : ℕ) (pieces : List (List ℕ)) : Type 0 where
  pub progress : Progress out at whole after next (joined pieces)

-- the first k pieces are pasted
abbrev pub Written : (out : List ℕ) (at : ℕ) (pieces : List (List ℕ)) (k : ℕ) (after : List ℕ) (next : ℕ) → Type 0
Written out at pieces k after next = Writing out at (joined pieces) after next (drop k pieces)

pub begin : (out : List ℕ) (at : ℕ) (pieces : List (List ℕ)) → Writing out at (joined pieces) out at pieces
begin out at pieces = record { progress = start out at (joined pieces) }

pub room_piece : {out whole after piece : List ℕ} {pieces : List (List ℕ)} {at n : ℕ}
    → RoomForBytes out at whole → Writing out at whole after n (piece ∷ pieces) → RoomForBytes after n piece
unfolding joined
room_piece {piece = piece} {pieces = pieces} h p = room piece (joined pieces) h p.progress

-- a byte takes the room of any other
pub room_byte : {out whole after : List ℕ} {b d : ℕ} {pieces : List (List ℕ)} {at n : ℕ}
    → RoomForBytes out at whole → Writing out at whole after n ((b ∷ []) ∷ pieces) → RoomForBytes after n (d ∷ [])
room_byte h p = record { fits = (room_piece h p).fits }

pub put : {out whole after o₂ piece : List ℕ} {pieces : List (List ℕ)} {at n m : ℕ}
    → Writing out at whole after n (piece ∷ pieces) → Pasted after n piece m o₂ → Writing out at whole o₂ m pieces
unfolding joined
put {piece = piece} {pieces = pieces} p q = record { progress = more piece (joined pieces) p.progress q }

pub end : {out whole after : List ℕ} {at n : ℕ} → Writing out at whole after n [] → Pasted out at whole n after
unfolding joined
end p = done p.progress

-- ---- the front

pub printed : {out after s : List ℕ} {n : ℕ} → RoomForBytes out 0 s → Pasted out 0 s n after → Printed s out n after
printed {out} {after} {s} h p =
    record { counts = omega (arith, p.behind); holds = p.holds ∙ pasted_front s out (omega (arith, h.fits)) }

-- the same of the buffer by another name
pub printed_in : {out after back s : List ℕ} {n : ℕ} → back ≡ after → Printed s out n after → Printed s out n back
printed_in e p = rw e p
