-- 01, "The board and its ledger": the ledger, the plain machine of demand 3, is a list of (multipliers, values), empty when
-- fresh. It is fed each call's arguments and the memory lent to it, and reads nothing of the board. (Ledger, board and mix
-- are 01's words: the received coded packets, their matrix in memory, and the coefficients of a linear combination.) 02, #103: "The
-- ledger's entries hold s values from here on, an assignment gives each record s residues and meets a frame in all s values, and one
-- argument covers each s."
use Rattle.std.specs.Prelude.{◌≡◌, List, [], ℕ, ◌<◌, length, get_or}
use Rattle.algebra.specs.Matrix.{Vector, Matrix, sum}
use Rattle.algebra.specs.Span.{IsCombination}
use Rattle.field.specs.Residue.{reduce, residues, ◌⊗◌}

-- a frame that the ledger holds
pub record Entry : Type 0 where
  pub multipliers : List ℕ
  pub values : List ℕ

abbrev pub entry : (multipliers values : List ℕ) → Entry
entry xs vs = record { multipliers = xs; values = vs }

-- an entry of zeros, read past the end
abbrev pub no_entry : Entry
no_entry = entry [] []

-- the ledger: the frames that stand, in the order in which they came
pub record Ledger : Type 0 where
  pub entries : List Entry

abbrev pub ledger : List Entry → Ledger
ledger es = record { entries = es }

module _ (p : ℕ) where
  -- an assignment gives each record its residues: at j and w that of word w of record j
  abbrev pub Assignment : Type 0
  Assignment = Matrix (residues p)

  -- the multipliers as residues, row by row, and the values, a column for each word
  unfoldable pub multiplier_rows : List Entry → Matrix (residues p)
  multiplier_rows es i j = reduce p (get_or (get_or es i no_entry).multipliers j 0)

  unfoldable pub value_table : List Entry → Matrix (residues p)
  value_table es i w = reduce p (get_or (get_or es i no_entry).values w 0)

  -- its word w meets a frame if the sum of products of that word of the records with the multipliers, modulo p, is value w
  abbrev pub MeetsWord : ℕ → Entry → Assignment → ℕ → Type 0
  MeetsWord n e x w = sum (residues p) n (λ j. reduce p (get_or e.multipliers j 0) ⊗ x j w) ≡ reduce p (get_or e.values w 0)

  -- it "meets a frame in all s values"
  abbrev pub Meets : (n s : ℕ) → Entry → Assignment → Type 0
  Meets n s e x = (w : ℕ) → w < s → MeetsWord n e x w

  -- it meets all standing frames
  abbrev pub MeetsAll : (n s : ℕ) → List Entry → Assignment → Type 0
  MeetsAll n s es x = (i : ℕ) → i < length es → Meets n s (get_or es i no_entry) x

  -- a record is settled exactly if all assignments meeting the standing frames agree on it, on each of its s words. That its words are
  -- settled all or none, by the multipliers alone, is a theorem (proofs/SettledWords.antt)
  abbrev pub Settled : (n s : ℕ) → List Entry → ℕ → Type 0
  Settled n s es j = (x y : Assignment) → MeetsAll n s es x → MeetsAll n s es y → (w : ℕ) → w < s → x j w ≡ y j w

  -- of word w alone: n residues, one for each record, meet the frames' values of that word, and all that do agree at j
  abbrev pub WordMeetsAll : (n : ℕ) → List Entry → (w : ℕ) → Vector (residues p) → Type 0
  WordMeetsAll n es w x =
      (i : ℕ) → i < length es
      → sum (residues p) n (λ j. reduce p (get_or (get_or es i no_entry).multipliers j 0) ⊗ x j) ≡ reduce p (get_or (get_or es i no_entry).values w 0)

  abbrev pub SettledWord : (n : ℕ) → List Entry → (w j : ℕ) → Type 0
  SettledWord n es w j = (x y : Vector (residues p)) → WordMeetsAll n es w x → WordMeetsAll n es w y → x j ≡ y j

  -- they agree at j, on the words v
  abbrev pub AgreeOn : (n s : ℕ) → List Entry → ℕ → Vector (residues p) → Type 0
  AgreeOn n s es j v = (x : Assignment) → MeetsAll n s es x → (w : ℕ) → w < s → x j w ≡ v w

  abbrev pub Agreed : (n s : ℕ) → List Entry → ℕ → Type 0
  Agreed n s es j = (v : Vector (residues p)) × AgreeOn n s es j v

  -- the multipliers of a frame are a combination of the ledger's rows
  abbrev pub InSpan : ℕ → List Entry → List ℕ → Type 0
  InSpan n es xs = IsCombination (residues p) (length es) n (multiplier_rows es) (λ j. reduce p (get_or xs j 0))

  -- the combination u of the values is vs: "A frame is a repeat only if all s values agree"
  abbrev pub GivesValues : (s : ℕ) → List Entry → Vector (residues p) → List ℕ → Type 0
  GivesValues s es u vs = (w : ℕ) → w < s → sum (residues p) (length es) (λ t. u t ⊗ value_table es t w) ≡ reduce p (get_or vs w 0)
