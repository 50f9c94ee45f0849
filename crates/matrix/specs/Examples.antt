-- 01, "Examples": the starred examples of tables, in the document's order, with what fit leaves of their systems (02, #102) and what
-- check says of other tables that are sent in for D (#113); and what it is for one to hold of the definitions of the calls.
use Rattle.std.specs.Prelude.{◌≡◌, ℕ, ◌*◌, length, replicate}
use mathlib.Core.List.{List, [], ◌∷◌, ◌++◌, flatten, Memᴰ}
use Rattle.checks.specs.declared.Refusal.TheVariants.{Insoluble, NotInner, NotOuter}
use Rattle.checks.specs.Told.{results, refused}
use Rattle.checks.specs.Outcome.{Outcome, outcome}
use Rattle.matrix.specs.Calls.{quasiinverse_call, kernel_call, solve_call, fit_call, check_call}
use Rattle.matrix.specs.Parts.{InverseRoom}

-- "gives z = ..", or "gives 5, u = .."
pub data Becomes : Type 0 where
  solved_by : List ℕ → Becomes
  refused_by : List ℕ → Becomes

-- a right side w, and what becomes of it; the nearest fit and its remainder
pub record SystemExample : Type 0 where
  pub w : List ℕ
  pub becomes : Becomes
  pub z : List ℕ
  pub rest : List ℕ

-- a table that is sent in for D is accepted, or ADA differs from A, or DAD differs from D
pub data Judged : Type 0 where
  accepted : Judged
  not_inner : Judged
  not_outer : Judged

pub record SentExample : Type 0 where
  pub sent : List ℕ
  pub judged : Judged

-- a table of m rows and n columns modulo p, its D row by row, the marks of I and J, the rank, the kernel's vectors, systems, and tables
-- that are sent in for D
pub record TableExample : Type 0 where
  pub p : ℕ
  pub m : ℕ
  pub n : ℕ
  pub a : List ℕ
  pub d : List ℕ
  pub columns : List ℕ
  pub rows : List ℕ
  pub rank : ℕ
  pub vectors : List (List ℕ)
  pub systems : List SystemExample
  pub others : List SentExample

unfoldable pub table_examples : List TableExample
table_examples =
    record {
      p = 7;
      m = 2;
      n = 3;
      a = 1 ∷ 2 ∷ 0 ∷ 0 ∷ 1 ∷ 3 ∷ [];
      d = 1 ∷ 5 ∷ 0 ∷ 1 ∷ 0 ∷ 0 ∷ [];
      columns = 1 ∷ 1 ∷ 0 ∷ [];
      rows = 1 ∷ 1 ∷ [];
      rank = 2;
      vectors = (6 ∷ 4 ∷ 1 ∷ []) ∷ [];
      systems = [];
      -- the inverse on columns 1 and 2, which are not ours; and the same with 2 for 1 in its last row
      others =
          record { sent = 0 ∷ 0 ∷ 4 ∷ 0 ∷ 1 ∷ 5 ∷ []; judged = accepted }
          ∷ record { sent = 0 ∷ 0 ∷ 4 ∷ 0 ∷ 2 ∷ 5 ∷ []; judged = not_inner }
          ∷ [];
    }
    ∷ record {
      p = 5;
      m = 2;
      n = 2;
      a = 0 ∷ 1 ∷ 1 ∷ 1 ∷ [];
      d = 4 ∷ 1 ∷ 1 ∷ 0 ∷ [];
      columns = 1 ∷ 1 ∷ [];
      rows = 1 ∷ 1 ∷ [];
      rank = 2;
      vectors = [];
      systems = [];
      others = record { sent = 4 ∷ 1 ∷ 1 ∷ 0 ∷ []; judged = accepted } ∷ record { sent = 0 ∷ 0 ∷ 0 ∷ 0 ∷ []; judged = not_inner } ∷ [];
    }
    ∷ record {
      p = 5;
      m = 2;
      n = 2;
      a = 1 ∷ 2 ∷ 2 ∷ 4 ∷ [];
      d = 1 ∷ 0 ∷ 0 ∷ 0 ∷ [];
      columns = 1 ∷ 0 ∷ [];
      rows = 1 ∷ 0 ∷ [];
      rank = 1;
      vectors = (3 ∷ 1 ∷ []) ∷ [];
      systems =
          record { w = 1 ∷ 2 ∷ []; becomes = solved_by (1 ∷ 0 ∷ []); z = 1 ∷ 0 ∷ []; rest = 0 ∷ 0 ∷ [] }
          ∷ record { w = 1 ∷ 3 ∷ []; becomes = refused_by (3 ∷ 1 ∷ []); z = 1 ∷ 0 ∷ []; rest = 0 ∷ 1 ∷ [] }
          ∷ [];
      -- with a multiple of the kernel's vector added to its second column D still gives ADA = A, but it has rank 2
      others =
          record { sent = 0 ∷ 0 ∷ 3 ∷ 0 ∷ []; judged = accepted }
          ∷ record { sent = 0 ∷ 0 ∷ 0 ∷ 0 ∷ []; judged = not_inner }
          ∷ record { sent = 1 ∷ 3 ∷ 0 ∷ 1 ∷ []; judged = not_outer }
          ∷ [];
    }
    ∷ record {
      p = 5;
      m = 1;
      n = 2;
      a = 0 ∷ 3 ∷ [];
      d = 0 ∷ 2 ∷ [];
      columns = 0 ∷ 1 ∷ [];
      rows = 1 ∷ [];
      rank = 1;
      vectors = (1 ∷ 0 ∷ []) ∷ [];
      systems = [];
      others = record { sent = 1 ∷ 2 ∷ []; judged = accepted } ∷ record { sent = 2 ∷ 0 ∷ []; judged = not_inner } ∷ [];
    }
    ∷ record {
      p = 2;
      m = 1;
      n = 1;
      a = 0 ∷ [];
      d = 0 ∷ [];
      columns = 0 ∷ [];
      rows = 0 ∷ [];
      rank = 0;
      vectors = (1 ∷ []) ∷ [];
      systems = [];
      others = record { sent = 0 ∷ []; judged = accepted } ∷ record { sent = 1 ∷ []; judged = not_outer } ∷ [];
    }
    ∷ []

-- what solve answers and leaves: z and a mix of zeros with the rank r, or 5 with the lent z and the mix u
abbrev pub system_outcome : (m r : ℕ) → Becomes → List ℕ → Outcome (List ℕ × List ℕ)
system_outcome m r (solved_by z) lent = outcome (results r) (z, replicate m 0)
system_outcome m r (refused_by u) lent = outcome (refused Insoluble) (lent, u)

-- what check answers: the rank r, 17 or 18
abbrev pub sent_outcome : ℕ → Judged → Outcome (Unit {0})
sent_outcome r accepted = outcome (results r) tt
sent_outcome r not_inner = outcome (refused NotInner) tt
sent_outcome r not_outer = outcome (refused NotOuter) tt

-- the calls answer and leave what the example says, whatever memory of the right lengths they are lent
pub record Holds (e : TableExample) : Type 0 where
  pub inverts : (d columns rows : List ℕ) → InverseRoom e.m e.n d columns rows
      → quasiinverse_call e.p e.m e.n e.a d columns rows ≡ outcome (results e.rank) (e.d, (e.columns, e.rows))
  pub spans : (basis : List ℕ) → length basis ≡ e.n * e.n
      → kernel_call e.p e.m e.n e.a basis
      ≡ outcome (results (length e.vectors)) (flatten e.vectors ++ replicate (e.n * e.rank) 0)
  pub solves : (s : SystemExample) → Memᴰ s e.systems
      → (z u : List ℕ) → length z ≡ e.n → length u ≡ e.m
      → solve_call e.p e.m e.n e.a s.w z u ≡ system_outcome e.m e.rank s.becomes z
  pub fits : (s : SystemExample) → Memᴰ s e.systems
      → (z rest : List ℕ) → length z ≡ e.n → length rest ≡ e.m
      → fit_call e.p e.m e.n e.a s.w z rest ≡ outcome (results e.rank) (s.z, s.rest)
  pub judges : (s : SentExample) → Memᴰ s e.others
      → check_call e.p e.m e.n e.a s.sent ≡ sent_outcome e.rank s.judged
