-- `corrector::correct` meets its contract.
use Rattle.std.proofs.Common.{get_or, Fits, w8, refl, sym, arith, rules}
use Rattle.std.proofs.lemmas.Slice.Eq.{bytes_eq-Decides}
use Rattle.corrector.specs.Lanes.{filled}
use Rattle.corrector.proofs.Testing.{clean, none}
use Rattle.corrector.proofs.correct.Goals as goal

pub returns-then-eq : goal.returns-then-eq
unfolding filled
returns-then-eq c = clean c.requires.2 c.syndromes-s.ensures ((bytes_eq-Decides c.syndromes-s.result (filled 0)).0 (sym c.if-eq.ensures))
    (λ j l. let f : Fits w8 (get_or c.args.word.now j 0) = search rules in omega (arith, f))
    c.missing-e.ensures c.if-e-eq0.true

pub proposed-requires : goal.proposed-requires
proposed-requires c = record {
  bytes = λ j l. let f : Fits w8 (get_or c.args.word.now j 0) = search rules in omega (arith, f);
  checks = c.requires.2;
  missing = c.missing-e.ensures;
  few = omega arith;
  sums = c.syndromes-s.ensures;
}

pub returns-in_err-fixed : goal.returns-in_err-fixed
returns-in_err-fixed c =
    rw c.from_residual.ensures (refl, λ c' t e st. c.in_err-fixed.ensures c.args.room c' t e c.requires.3 st)

pub returns-in_err-counts : goal.returns-in_err-counts
returns-in_err-counts c =
    rw c.from_residual-in_err-counts.ensures
    (refl, none c.args.n c.args.room c.args.word.now c.args.flags.now c.in_ok-fixed.fixed c.requires.3 c.requires.1 (search rules) c.in_ok-fixed.ensures c.in_err-counts.ensures)
