-- A request is drawn exactly where no check refuses it.
use mathlib.Core.Path.{ap}
use Prim.Native.Nat.{ℕ}
use Rattle.writer.specs.Writer.{draw, draw_at, taken}
use Rattle.writer.specs.Writer
use Rattle.promises.specs.Promises.{DrawsAll}

pub draws_all : DrawsAll
unfolding draw draw_at
draws_all r out =
    record {
      drawn = λ e. (_, _, _, ap (λ (n : ℕ). Writer.refused_or n (draw_at (taken r.level r.version r.list) r)) e);
      denied = λ n e. ap (λ (n : ℕ). Writer.refused_or n (draw_at (taken r.level r.version r.list) r)) e;
    }
