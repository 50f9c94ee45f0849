-- The recursion ends: the measure of each function of the cycle {halves, halves_32, halves_8, lower_half}. It is three times the number of
-- rows, one more for the functions that make scratch memory and two more for `lower_half`, which hand on the rows that they were
-- given; both halves of two or more rows are fewer.
use Rattle.std.proofs.Common.{◌+◌, ◌*◌}
use Rattle.matrix_inverse.proofs.eliminate.+halves_halves_32_halves_8_lower_half.Given as goal

abbrev pub decreases-halves : goal.decreases-halves
decreases-halves l = 3 * l.m

abbrev pub decreases-halves_32 : goal.decreases-halves_32
decreases-halves_32 l = 3 * l.m + 1

abbrev pub decreases-halves_8 : goal.decreases-halves_8
decreases-halves_8 l = 3 * l.m + 1

abbrev pub decreases-lower_half : goal.decreases-lower_half
decreases-lower_half l = 3 * l.m + 2
