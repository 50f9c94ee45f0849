-- What document 02, #109, promises of clash, said of the outcome o of a call: of what it tells and of the marks that it leaves. Frames,
-- assignments and meeting are the ledger's own. That the call keeps these promises is shown in proofs/ClashCall.antt.
use Rattle.std.specs.Prelude.{◌≡◌, ◌⊎◌, ◌↔◌, List, ℕ, suc, ◌<◌, eqb, length, get_or, replicate}
use Rattle.algebra.specs.Matrix.{Vector}
use Rattle.algebra.specs.Span.{Combines, RowDepends}
use Rattle.algebra.specs.Quasiinverse.{count}
use Rattle.checks.specs.Told.{results}
use Rattle.checks.specs.Outcome.{Outcome}
use Rattle.field.specs.Residue.{residues}
use Rattle.ledger.specs.Ledger.{Assignment, MeetsAll}
use Rattle.clash.specs.Calls.{frames_of, Agree, log_table}

module _ (p m n s : ℕ) (log : List ℕ) where
  -- the row's multipliers are a combination of those of the rows before it: it is outside J
  abbrev pub Outside : ℕ → Type 0
  Outside = RowDepends (residues p) n (log_table p m n s log)

  -- row y is the combination u of the rows of J before it
  pub record FromJ (y : ℕ) (u : Vector (residues p)) : Type 0 where
    pub combines : Combines (residues p) y n (log_table p m n s log) u (log_table p m n s log y)
    pub outside_zero : (t : ℕ) → t < y → Outside t → u t ≡ (residues p).zero

  -- what the request asks of a choice of frames
  pub record IsQuarrel (Chosen : ℕ → Type 0) : Type 0 where
    -- "the chosen frames have no common assignment and leaving out any single one gives them one"
    pub none_common : Agree p n s (frames_of m n s log) Chosen → ⊥
    pub none_to_spare : (k : ℕ) → Chosen k → Agree p n s (frames_of m n s log) (λ i. Chosen i × (i ≡ k → ⊥))
    -- "the first frame contradicting the earlier ones"
    pub y : ℕ
    pub y_row : y < m
    pub earlier_agree : Agree p n s (frames_of m n s log) (λ i. i < y)
    pub contradicts : Agree p n s (frames_of m n s log) (λ i. i < suc y) → ⊥
    -- all of them are that frame or "earlier ones in the multiplier rows' J"
    pub members : (i : ℕ) → Chosen i → (i ≡ y) ⊎ ((i < y) × (Outside i → ⊥))

  -- the clash: that frame is one of them, the last, and the others are those "that it combines from": its row is one combination of rows of
  -- J before it, and one only; the others are those rows whose multiplier is not 0
  pub record IsClash (Chosen : ℕ → Type 0) : Type 0 where
    pub quarrel : IsQuarrel Chosen
    pub y_chosen : Chosen quarrel.y
    pub by : Vector (residues p)
    pub from_J : FromJ quarrel.y by
    pub from_J_only : (u : Vector (residues p)) → FromJ quarrel.y u → (t : ℕ) → t < quarrel.y → u t ≡ by t
    pub others_exactly : (t : ℕ) → t < quarrel.y → Chosen t ↔ (by t ≡ (residues p).zero → ⊥)

  -- the frames that marks select
  abbrev pub Selected : List ℕ → ℕ → Type 0
  Selected marks i = get_or marks i 0 ≡ 1

  -- "Lent is one mark a row, 1 if selected, else 0. Without a clash all are 0 and the answer is 0; otherwise the number selected."
  pub record ClashDone (o : Outcome (List ℕ)) : Type 0 where
    pub marks_long : length o.lent ≡ m
    pub each_mark : (i : ℕ) → (get_or o.lent i 0 ≡ 1) ⊎ (get_or o.lent i 0 ≡ 0)
    pub told : o.told ≡ results (count m (λ i. eqb (get_or o.lent i 0) 1))
    -- no mark, and the answer 0, exactly if some assignment meets all frames of the log
    pub none_exactly : (o.lent ≡ replicate m 0) ↔ ((x : Assignment p) × MeetsAll p n s (frames_of m n s log) x)
    pub zero_exactly : (o.told ≡ results 0) ↔ ((x : Assignment p) × MeetsAll p n s (frames_of m n s log) x)
    pub else_clash : (((x : Assignment p) × MeetsAll p n s (frames_of m n s log) x) → ⊥) → IsClash (Selected o.lent)
    -- and no other frames are such a choice: whatever marks select one select these
    pub only : (other : List ℕ) → IsQuarrel (Selected other) → (i : ℕ) → Selected other i ↔ Selected o.lent i
