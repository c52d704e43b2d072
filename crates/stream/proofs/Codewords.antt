-- The data codewords of a lawful message: as many as the version and level have, each a byte; and what the writer's buffer holds in the end.
use mathlib.Core.Path.{◌≡◌, ap, ◌∙◌}
use mathlib.Core.List.{List, ◌++◌}
use Prim.Native.Nat.{ℕ, ◌+◌, ◌-◌, ◌*◌, ◌/◌, ◌≤◌, min}
use native.Mathlib.Nat.{zero-add}
use native.Mathlib.Omega.{arith}
use lib.ListN.{length, take, replicate, length-replicate}
use Rattle.basics.specs.Lists.{AtMost}
use Rattle.tables.specs.Tables.{Lawful, data_count}
use Rattle.tables.proofs.Rules.{data_most}
use Rattle.cursor.proofs.Fields.{with_bits_length}
use Rattle.stream.specs.BitWriter.{HasRoom, Puts}
use Rattle.stream.specs.declared.BitWriter.{BitWriter}
use Rattle.stream.specs.Stream.{segments, pads, data_codewords, LawfulMessage}
use Rattle.stream.proofs.Fitting.{fit_width}
use Rattle.stream.proofs.Padding.{zeros_le, front_count, padded_is, padded_length, padded_bytes}
use Rattle.stream.proofs.Widths.{segments_length, segments_le}

module _ (v level : ℕ) (payload list : List ℕ) (m : LawfulMessage v level payload list) where
  -- the segments fit in the data bits
  pub segments_fit : length (segments v list payload) ≤ 8 * data_count v level
  segments_fit = rw (segments_length v list payload (omega (arith, m.sums))) (fit_width v level list m.fit)

  pub codewords_length : length (data_codewords v level list payload) ≡ data_count v level
  unfolding data_codewords
  codewords_length = padded_length (data_count v level) (segments v list payload) segments_fit

  pub codewords_bytes : AtMost 255 (data_codewords v level list payload)
  unfolding data_codewords
  codewords_bytes = padded_bytes (data_count v level) (segments v list payload) (segments_le v list payload)

  -- a writer at the front of a cleared buffer, and what the buffer is with the segments put there
  module _ (start : BitWriter) (n : ℕ) (h : n ≡ data_count v level) (lawful : Lawful v level) (e : start.out.now ≡ replicate n 0) (first : start.cursor.at ≡ 0) where
    cleared_length : length start.out.now ≡ data_count v level
    cleared_length = ap length e ∙ length-replicate n 0 ∙ h

    pub cleared_room : HasRoom start (segments v list payload)
    cleared_room = record { bytes = rw e (zeros_le 255 n); few = omega (arith, cleared_length, data_most v level lawful); fit = omega (arith, first, cleared_length, segments_fit) }

    module _ (put : BitWriter) (p : Puts start (segments v list payload) put) where
      pub put_length : length put.out.now ≡ data_count v level
      put_length = ap length p.put ∙ with_bits_length start.out.now start.cursor.at (segments v list payload) ∙ cleared_length

      used : put.cursor.at ≡ length (segments v list payload)
      used = p.moved ∙ rw first (zero-add _)

      pub put_fits : put.cursor.at ≤ 8 * length put.out.now
      put_fits = rw (used, put_length) segments_fit

      module _ (front : ℕ) (f : front ≡ (put.cursor.at + min 4 (8 * length put.out.now - put.cursor.at) + 7) / 8) where
        pub front_within : front ≤ length put.out.now
        front_within = omega (arith, put_fits)

        is_front : front ≡ front_count (data_count v level) (segments v list payload) segments_fit
        is_front = f ∙ rw (used, put_length)

        -- with the pads behind the front it is the data codewords
        pub written : take front put.out.now ++ pads (length put.out.now - front) ≡ data_codewords v level list payload
        unfolding data_codewords
        written =
            rw (put_length, is_front, p.put, first, e, h) (padded_is (data_count v level) (segments v list payload) segments_fit)

-- the data codewords fill the version
pub stream_length : (v level : ℕ) (payload list : List ℕ) → Lawful v level → LawfulMessage v level payload list
    → (length (data_codewords v level list payload) ≡ data_count v level) × AtMost 255 (data_codewords v level list payload)
stream_length v level payload list h m = (codewords_length v level payload list m, codewords_bytes v level payload list m)
