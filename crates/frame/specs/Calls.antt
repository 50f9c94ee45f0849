-- The checks of read, write and seal in order, and what each call comes to. 01: "For these, n is 1 to 64, and the order is 1, 2,
-- 3, then the checks above (writing: multipliers, then value; sealing: multipliers, then records)." 02, #106: "An L of p or more is 4, before
-- the records in sealing". 02, #103: "12, s outside 1 to 16, checked after 2"; "Sealing takes n × s records in that order and lends s
-- values; reading lends s values; both return s; writing takes s and lends exactly 264 + 4 × s bytes."
use Rattle.std.specs.Prelude.{List, ℕ, ◌*◌, ℤ, length}
use Rattle.std.proofs.Math.Decide.{dec_lt}
use Rattle.checks.specs.declared.Refusal.{Refusal}
use Rattle.checks.specs.declared.Refusal.TheVariants.{Length, Number}
use Rattle.checks.specs.Told.{results}
use Rattle.checks.specs.Outcome.{Outcome, outcome, untouched}
use Rattle.checks.specs.InOrder.{Checks, passed, ◌else◌, ◌⨾◌, then_checks, in_order}
use Rattle.checks.specs.Decide.{long?}
use Rattle.checks.specs.Sizes.{frame_sizes}
use Rattle.words.specs.Decide.{below?}
use Rattle.codec.specs.Placed.{placed}
use Rattle.frame.specs.Format.{longest, frame_of}
use Rattle.frame.specs.Reading.{frame_multipliers, frame_values, frame_checks, Found, accepted, rejected}
use Rattle.frame.specs.Sealing.{sealed}
use Rattle.frame.specs.Decide.{records?}

-- what is told of a frame with s values that was read, and what becomes of the lent multipliers and values
unfoldable pub read_outcome : (s : ℕ) → List ℕ × List ℕ → Found → Outcome (List ℕ × List ℕ)
read_outcome s lent (accepted xs vs) = outcome (results s) (xs, vs)
read_outcome s lent (rejected k) = untouched lent k

-- reading a frame of n records modulo p, with the multipliers and values lent: past their lengths, the frame's own checks
abbrev pub read_rest : (p n s : ℕ) (bytes multipliers values : List ℕ) → Checks Refusal
read_rest p n s bytes xs vs = long? xs n else Length ⨾ long? vs s else Length ⨾ frame_checks p n s bytes

abbrev pub read_checks : (p n s : ℕ) (bytes multipliers values : List ℕ) → Checks Refusal
read_checks p n s bytes xs vs = then_checks (frame_sizes p n s) (λ _. read_rest p n s bytes xs vs)

unfoldable pub read_call : (p n s : ℕ) (bytes multipliers values : List ℕ) → Outcome (List ℕ × List ℕ)
read_call p n s bytes xs vs =
    in_order (read_checks p n s bytes xs vs) (λ _. outcome (results s) (frame_multipliers p n bytes, frame_values p n s bytes))
    (untouched (xs, vs))

-- writing the frame of n multipliers and s values to the front of the lent bytes; bytes after it keep their contents
abbrev pub write_rest : (p n s : ℕ) (multipliers values bytes : List ℕ) → Checks Refusal
write_rest p n s xs vs lent =
    long? xs n else Length
    ⨾ long? vs s else Length
    ⨾ long? lent (longest s) else Length
    ⨾ below? p xs else Number
    ⨾ below? p vs else Number
    ⨾ passed

abbrev pub write_checks : (p n s : ℕ) (multipliers values bytes : List ℕ) → Checks Refusal
write_checks p n s xs vs lent = then_checks (frame_sizes p n s) (λ _. write_rest p n s xs vs lent)

abbrev pub written : (frame lent : List ℕ) → Outcome (List ℕ)
written frame lent = outcome (results (length frame)) (placed 0 frame lent)

unfoldable pub write_call : (p n s : ℕ) (multipliers values bytes : List ℕ) → Outcome (List ℕ)
write_call p n s xs vs lent = in_order (write_checks p n s xs vs lent) (λ _. written (frame_of p n xs vs) lent) (untouched lent)

-- sealing n × s records with a low end: s values are lent
abbrev pub seal_rest : (p n s low : ℕ) (records : List ℤ) (multipliers values : List ℕ) → Checks Refusal
seal_rest p n s low zs xs lent =
    long? zs (n * s) else Length
    ⨾ long? xs n else Length
    ⨾ long? lent s else Length
    ⨾ below? p xs else Number
    ⨾ dec_lt low p else Number
    ⨾ records? p low zs else Number
    ⨾ passed

abbrev pub seal_checks : (p n s low : ℕ) (records : List ℤ) (multipliers values : List ℕ) → Checks Refusal
seal_checks p n s low zs xs lent = then_checks (frame_sizes p n s) (λ _. seal_rest p n s low zs xs lent)

unfoldable pub seal_call : (p n s low : ℕ) (records : List ℤ) (multipliers values : List ℕ) → Outcome (List ℕ)
seal_call p n s low zs xs lent = in_order (seal_checks p n s low zs xs lent) (λ _. outcome (results s) (sealed p n s zs xs)) (untouched lent)
