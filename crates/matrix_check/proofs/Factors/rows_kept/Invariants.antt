-- `matrix_check::Factors::rows_kept` meets its contract. The loop's invariant: the rows before row i are kept.
use Rattle.matrix_check.specs.Rows.{Rooms, RowsKept}
use Rattle.matrix_check.proofs.Factors.rows_kept.Given as goal

abbrev pub invariant-loop-i : goal.invariant-loop-i
invariant-loop-i l =
    RowsKept l.self.p l.self.height l.self.width l.self.a.now l.self.d.now l.i × Rooms l.self.height l.self.width l.through l.back
