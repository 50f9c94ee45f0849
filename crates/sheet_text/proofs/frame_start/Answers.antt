-- `sheet_text::frame_start` meets its contract: no byte is the end, one is a cut length, and two bytes give a length that fits
-- sixteen bits.
use mathlib.Core.Path.{sym}
use native.Mathlib.Omega.{arith}
use Rattle.sheet_text.proofs.Input.{start_end, start_cut, start_frame}
use Rattle.sheet_text.proofs.frame_start.Goals as goal

pub returns-then-bytes-eq0 : goal.returns-then-bytes-eq0
returns-then-bytes-eq0 c = record { result_value = sym (start_end c.args.bytes.now (omega arith)); result_bound = omega arith }

pub returns-then-bytes-lt2 : goal.returns-then-bytes-lt2
returns-then-bytes-lt2 c = record { result_value = sym (start_cut c.args.bytes.now (λ e. omega (arith, e)) (omega arith)); result_bound = omega arith }

pub returns : goal.returns
returns c =
    record {
      result_value = rw c.number_at.ensures.1 (sym (start_frame c.args.bytes.now (omega arith)));
      result_bound = omega arith;
    }
