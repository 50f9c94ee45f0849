-- What 01 promises of frames that go round through the calls, said of the outcome o of a call: what write leaves reads back, and what
-- read gives and leaves is written again, lent memory included. That `write_call` and `read_call` keep these promises is shown in
-- proofs/RoundCalls.antt.
use Rattle.std.specs.Prelude.{◌≡◌, List, ℕ, ◌≤◌, length, take, drop}
use Rattle.checks.specs.Told.{results}
use Rattle.checks.specs.Outcome.{Outcome, outcome}
use Rattle.codec.specs.Placed.{placed}
use Rattle.frame.specs.Format.{longest, most_bytes}
use Rattle.frame.specs.Calls.{read_call, write_call}

-- written from n multipliers xs and s values vs: "it fills the front, returns the length, and bytes after it keep their contents"; the
-- k bytes at the front read as xs and vs, whatever multipliers and values are lent. The longest frame has the lent 264 + 4 × s bytes, and
-- with p and n it has no more than its map, a number for each record and the values.
pub record ReadsBack (p n s : ℕ) (xs vs lent : List ℕ) (o : Outcome (List ℕ)) : Type 0 where
  pub k : ℕ
  pub told : o.told ≡ results k
  pub short : k ≤ longest s
  pub most : k ≤ most_bytes p n s
  pub behind : drop k o.lent ≡ drop k lent
  pub reads : (multipliers values : List ℕ) → length multipliers ≡ n → length values ≡ s
      → read_call p n s (take k o.lent) multipliers values ≡ outcome (results s) (xs, vs)

-- read from bytes: s is returned, and the multipliers and values that are left write these bytes again, to the front of any lent bytes;
-- so there are no more of them than a frame can have, and a buffer of that size holds every frame that is accepted
pub record WritesAgain (p n s : ℕ) (bytes : List ℕ) (o : Outcome (List ℕ × List ℕ)) : Type 0 where
  pub told : o.told ≡ results s
  pub writes : (lent : List ℕ) → length lent ≡ longest s
      → write_call p n s o.lent.0 o.lent.1 lent ≡ outcome (results (length bytes)) (placed 0 bytes lent)
  pub front : (lent : List ℕ) → length lent ≡ longest s
      → take (length bytes) (write_call p n s o.lent.0 o.lent.1 lent).lent ≡ bytes
  pub most : length bytes ≤ most_bytes p n s
