-- What was written into a buffer stands at its front.
use Rattle.std.proofs.Common.{◌≡◌, List, ℕ, length, take, drop}
use Rattle.std.proofs.Math.Seq.{take-append_seam}
use Rattle.codec.proofs.Placed.{placed_front}
use Rattle.sheet_text.specs.Written.{Printed}

pub printed_text : {r : ℕ} {line xs ys : List ℕ} → Printed line xs ys r → take r ys ≡ line
printed_text {line = line} {xs = xs} p = rw (p.size, p.memory, placed_front line xs) (take-append_seam line (drop (length line) xs))
