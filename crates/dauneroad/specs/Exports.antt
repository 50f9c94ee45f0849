-- 01, "The firmware's C code calls take, withdraw and show on lent slices and gets a number": what each exported function
-- answers and leaves in lent memory, over the same definitions as the call below it. The number is the one that is told.
use Rattle.std.specs.Prelude.{List, [], ◌∷◌, ℕ, ◌^◌, ◌<◌, ℤ, nat_abs}
use Rattle.checks.specs.Told.{Told}
use Rattle.checks.specs.Outcome.{Outcome}
use Rattle.signed.specs.Calls.{signed_call, residue_call}
use Rattle.matrix.specs.Calls.{quasiinverse_call, kernel_call, solve_call, fit_call, check_call}
use Rattle.frame.specs.Calls.{read_call, write_call, seal_call}
use Rattle.ledger.specs.Calls.{open_call, take_call, withdraw_call, show_call}
use Rattle.clash.specs.Calls.{clash_call}
use Rattle.relay.specs.Calls.{relay_call}

-- a number that fits what C gets
abbrev pub Small : Told → Type 0
Small t = t.number < 2 ^ 32

-- the value that is told, or what stood there
abbrev pub value_or : ℤ → List ℤ → ℤ
value_or z [] = z
value_or z (v ∷ vs) = v

-- the same of a number that is not negative
abbrev pub number_or : ℕ → List ℤ → ℕ
number_or k [] = k
number_or k (v ∷ vs) = nat_abs v

-- the number that C gets, and what is lent
pub record Answer (M : Type 0) : Type 0 where
  pub number : ℕ
  pub lent : M

abbrev pub answer : {M : Type 0} → ℕ → M → Answer M
answer k m = record { number = k; lent = m }

-- of a call's outcome: the number that is told, and what is lent
abbrev pub exported : {M : Type 0} → Outcome M → Answer M
exported o = answer o.told.number o.lent

-- ---- the board

abbrev pub open_answer : (p n s : ℕ) → List ℕ → Answer (List ℕ)
open_answer p n s ws = exported (open_call p n s ws)

abbrev pub take_answer : (board frame mix : List ℕ) → Answer (List ℕ × List ℕ)
take_answer ws frame mix = exported (take_call ws frame mix)

abbrev pub withdraw_answer : (board : List ℕ) (t : ℕ) → Answer (List ℕ)
withdraw_answer ws t = exported (withdraw_call ws t)

abbrev pub show_answer : (board : List ℕ) (low : ℕ) (marks : List ℕ) (numbers : List ℤ) → Answer (List ℕ × List ℤ)
show_answer ws low marks zs = exported (show_call ws low marks zs)

abbrev pub relay_answer : (board wanted mix bytes : List ℕ) → Answer (List ℕ × List ℕ)
relay_answer ws wanted mix bytes = exported (relay_call ws wanted mix bytes)

-- ---- frames

abbrev pub read_answer : (p n s : ℕ) (frame multipliers values : List ℕ) → Answer (List ℕ × List ℕ)
read_answer p n s frame xs vs = exported (read_call p n s frame xs vs)

abbrev pub write_answer : (p n s : ℕ) (multipliers values bytes : List ℕ) → Answer (List ℕ)
write_answer p n s xs vs bytes = exported (write_call p n s xs vs bytes)

abbrev pub seal_answer : (p n s low : ℕ) (records : List ℤ) (multipliers values : List ℕ) → Answer (List ℕ)
seal_answer p n s low zs xs vs = exported (seal_call p n s low zs xs vs)

-- ---- signed readings

abbrev pub signed_answer : (p low v : ℕ) (z : ℤ) → Answer ℤ
signed_answer p low v z = let r = signed_call p low v in answer r.told.number (value_or z r.told.values)

abbrev pub residue_answer : (p low : ℕ) (z : ℤ) (v : ℕ) → Answer ℕ
residue_answer p low z v = let r = residue_call p low z in answer r.told.number (number_or v r.told.values)

-- ---- tables

abbrev pub quasiinverse_answer : (p m n : ℕ) (a d columns rows : List ℕ) → Answer (List ℕ × (List ℕ × List ℕ))
quasiinverse_answer p m n a d columns rows = exported (quasiinverse_call p m n a d columns rows)

abbrev pub kernel_answer : (p m n : ℕ) (a basis : List ℕ) → Answer (List ℕ)
kernel_answer p m n a basis = exported (kernel_call p m n a basis)

abbrev pub solve_answer : (p m n : ℕ) (a w z u : List ℕ) → Answer (List ℕ × List ℕ)
solve_answer p m n a w z u = exported (solve_call p m n a w z u)

abbrev pub fit_answer : (p m n : ℕ) (a w z rest : List ℕ) → Answer (List ℕ × List ℕ)
fit_answer p m n a w z rest = exported (fit_call p m n a w z rest)

abbrev pub check_answer : (p m n : ℕ) (a d : List ℕ) → Answer (Unit {0})
check_answer p m n a d = exported (check_call p m n a d)

-- ---- logs of frames

abbrev pub clash_answer : (p m n s : ℕ) (log marks : List ℕ) → Answer (List ℕ)
clash_answer p m n s log marks = exported (clash_call p m n s log marks)
