-- `frame_calls::sealer::put_residues` meets its contract. The loop's invariant: the first j places hold the residues of their records'
-- word.
use mathlib.Core.Path.{◌≡◌}
use Prim.Native.Nat.{ℕ, ◌<◌}
use lib.ListN.{get_or}
use Rattle.signed.specs.Reading.{residue_of}
use Rattle.frame.specs.Sealing.{word_of}
use Rattle.frame_calls.proofs.sealer.put_residues.Given as goal

abbrev pub invariant-loop-j : goal.invariant-loop-j
invariant-loop-j l = (i : ℕ) → i < l.j → get_or l.residues i 0 ≡ residue_of l.p (word_of l.s l.records i l.u)
