-- What a caller is told: 01's number for the answer, and the values that the answer carries. A call's answer is a `Result` whose error
-- is the kind of refusal; for each kind of value one definition gives what is told in either case, and the contracts are stated by it.
use Rattle.std.specs.Prelude.{ℕ, ◌+◌, List, [], ◌∷◌, ℤ, pos, Result, Ok, Err}
use Rattle.checks.specs.declared.Refusal.{Refusal}
use Rattle.checks.specs.Refusal.{refusal_number}

pub record Told : Type 0 where
  pub number : ℕ
  pub values : List ℤ

-- a refusal carries its kind's number and no value
abbrev pub refused : Refusal → Told
refused k = record { number = refusal_number k; values = [] }

-- done, with no value
abbrev pub done : Told
done = record { number = 0; values = [] }

-- a value beside the number 0
abbrev pub gives : ℤ → Told
gives z = record { number = 0; values = z ∷ [] }

-- a result that the number itself tells: 200 plus the result
abbrev pub results : ℕ → Told
results r = record { number = 200 + r; values = pos r ∷ [] }

-- ---- answers

-- of a call that has nothing to tell where it is done: open
abbrev pub done_told : Result Unit Refusal → Told
done_told (Ok _) = done
done_told (Err k) = refused k

-- of a call whose result the number tells: a rank, a length, a count
abbrev pub result_told : Result ℕ Refusal → Told
result_told (Ok r) = results r
result_told (Err k) = refused k

-- of a call that gives a number beside 0
abbrev pub value_told : Result ℕ Refusal → Told
value_told (Ok v) = gives (pos v)
value_told (Err k) = refused k

-- the same of a signed number
abbrev pub signed_told : Result ℤ Refusal → Told
signed_told (Ok z) = gives z
signed_told (Err k) = refused k
