-- `scan::pack` meets its contract. The loop's invariant: the first q codewords and flags stand.
use Rattle.std.proofs.Common.{◌≡◌, take}
use Rattle.basics.specs.Build.{build}
use Rattle.scan.specs.Received.{flag, codeword}
use Rattle.scan.proofs.pack.Given as goal

abbrev pub invariant-loop-q : goal.invariant-loop-q
invariant-loop-q l = (take l.q l.words ≡ build (codeword l.bits) l.q) × (take l.q l.flags ≡ build (flag l.bits) l.q)
