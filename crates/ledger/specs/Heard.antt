-- What is counted over a list of calls and its replies: the frames that were heard, which are those answered new or repeat, and
-- those answered new; and the rank of rows of numbers. 01: "The ledger's rank is the size of the set J of its multiplier rows;
-- in a history without withdrawals that is also the rank of the multipliers of all frames answered new or repeat, in whatever
-- order they came."
use Rattle.std.specs.Prelude.{List, [], ◌∷◌, ◌++◌, map, ℕ, ◌+◌, eqb, length, get_or}
use Rattle.algebra.specs.Choice.{choose}
use Rattle.algebra.specs.Matrix.{Matrix}
use Rattle.algebra.specs.Chosen.{rank}
use Rattle.checks.specs.Prime.{IsModulus}
use Rattle.field.specs.Residue.{reduce, residues}
use Rattle.frame.specs.Reading.{Found, accepted, rejected, read_frame}
use Rattle.ledger.specs.Ledger.{Entry}
use Rattle.ledger.specs.Decide.{combined?}
use Rattle.ledger.specs.History.{Call, take, withdraw, show, Reply}

-- a list of calls without a withdrawal
abbrev pub NoWithdrawal : List Call → Type 0
NoWithdrawal [] = Unit {0}
NoWithdrawal (take frame mix ∷ cs) = NoWithdrawal cs
NoWithdrawal (withdraw t ∷ cs) = ⊥
NoWithdrawal (show low marks numbers ∷ cs) = NoWithdrawal cs

-- ---- takes answered new

-- 1 for a take that is told 0
unfoldable pub new_in : Call → Reply → ℕ
new_in (take frame mix) r = choose (eqb r.told.number 0) 1 0
new_in (withdraw t) r = 0
new_in (show low marks numbers) r = 0

unfoldable pub news : List Call → List Reply → ℕ
news [] rs = 0
news (c ∷ cs) [] = 0
news (c ∷ cs) (r ∷ rs) = new_in c r + news cs rs

-- ---- frames answered new or repeat

-- the multipliers that reading found
unfoldable pub multipliers_of : Found → List (List ℕ)
multipliers_of (accepted xs vs) = xs ∷ []
multipliers_of (rejected k) = []

-- those of a take that is told 0 or 100
unfoldable pub heard_in : (p n s : ℕ) → Call → Reply → List (List ℕ)
heard_in p n s (take frame mix) r =
    choose (eqb r.told.number 0) (multipliers_of (read_frame p n s frame))
    (choose (eqb r.told.number 100) (multipliers_of (read_frame p n s frame)) [])
heard_in p n s (withdraw t) r = []
heard_in p n s (show low marks numbers) r = []

unfoldable pub heard : (p n s : ℕ) → List Call → List Reply → List (List ℕ)
heard p n s [] rs = []
heard p n s (c ∷ cs) [] = []
heard p n s (c ∷ cs) (r ∷ rs) = heard_in p n s c r ++ heard p n s cs rs

-- ---- the rank of rows of n numbers

-- the multipliers of the ledger's entries
abbrev pub ledger_rows : List Entry → List (List ℕ)
ledger_rows = map (λ e. e.multipliers)

-- the rows as residues
unfoldable pub residue_rows : (p : ℕ) → List (List ℕ) → Matrix (residues p)
residue_rows p xss i j = reduce p (get_or (get_or xss i []) j 0)

-- the rank of the rows: the size of their set J, as of any table (algebra/specs/Chosen.antt)
unfoldable pub rows_rank : (p : ℕ) → IsModulus p → (n : ℕ) → List (List ℕ) → ℕ
rows_rank p ok n xss = rank (residues p) (combined? p ok) (length xss) n (residue_rows p xss)
