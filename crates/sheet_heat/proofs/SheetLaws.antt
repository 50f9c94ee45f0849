-- The sheet's equations, without the bound on the frames: no byte is left, a length is cut, a frame is cut, a frame is whole. A bound
-- that the bytes do not exceed makes no difference, since a frame takes two bytes at least. Last the header's: cut, refused, opened.
use mathlib.Core.Path.{◌≡◌, refl, sym, ap, ◌∙◌}
use mathlib.Core.List.{List, [], ◌∷◌, ◌++◌}
use Prim.Native.Nat.{ℕ, zero, suc, ◌≤◌, ◌<◌}
use native.Mathlib.Omega.{arith}
use borrow.Author.Tests.{lt-ltb, le-ltb}
use lib.Dec.{ltb}
use lib.ListN.{length, get_or, take, drop, length-drop}
use Rattle.algebra.specs.Choice.{choose}
use Rattle.checks.specs.declared.Refusal.{Refusal}
use Rattle.checks.specs.Refusal.{refusal_number}
use Rattle.checks.specs.InOrder.{FirstFailing}
use Rattle.checks.specs.Prime.{IsModulus}
use Rattle.checks.specs.Largest.{FrameSize}
use Rattle.checks.specs.Sizes.{frame_sizes}
use Rattle.checks.proofs.Modulus.{modulus_prop}
use Rattle.checks.proofs.InOrder.{none_left, in_order_done, in_order_refused, ◌and_then◌}
use Rattle.codec.specs.BigEndian.{number_from, number_at}
use Rattle.ledger.specs.Ledger.{Ledger, ledger}
use Rattle.sheet_text.specs.Lines.{refused_line}
use Rattle.sheet_heat.specs.Sheet.{sheet_words, cut_line, ledger_ending, cut_ending, ledger_after, ledger_line, lines_within, lines_from, heat_of, sheet_of}

module _ (p : ℕ) (ok : IsModulus p) (n : ℕ) where
  -- the clause of a frame whose length came
  lines_more : (k : ℕ) (l : Ledger) (high low : ℕ) (rest : List ℕ) →
      let size = number_from 0 (high ∷ low ∷ []) in
      let frame = take size rest in
      lines_within p ok n (suc k) l (high ∷ low ∷ rest)
      ≡ choose (ltb (length rest) size)
      (cut_ending p ok n l)
      (ledger_line p ok n l frame ++ lines_within p ok n k (ledger_after p ok n l frame) (drop size rest))
  unfolding lines_within
  lines_more k l high low rest = refl

  module _ (k : ℕ) (l : Ledger) where
    pub within_end : lines_within p ok n k l [] ≡ ledger_ending p ok n l
    unfolding lines_within
    within_end = go k
      where
        go : (k : ℕ) → lines_within p ok n k l [] ≡ ledger_ending p ok n l
        go zero = refl
        go (suc m) = refl

    pub within_cut_length : (high : ℕ) → lines_within p ok n (suc k) l (high ∷ []) ≡ cut_ending p ok n l
    unfolding lines_within
    within_cut_length high = refl

    module _ (high low : ℕ) (rest : List ℕ) where
      abbrev size : ℕ
      size = number_from 0 (high ∷ low ∷ [])

      pub within_cut_frame : length rest < size → lines_within p ok n (suc k) l (high ∷ low ∷ rest) ≡ cut_ending p ok n l
      within_cut_frame h = rw (lines_more k l high low rest, lt-ltb (length rest) size h)

      pub within_frame : size ≤ length rest →
          let frame = take size rest in
          lines_within p ok n (suc k) l (high ∷ low ∷ rest)
          ≡ ledger_line p ok n l frame ++ lines_within p ok n k (ledger_after p ok n l frame) (drop size rest)
      within_frame h = rw (lines_more k l high low rest, le-ltb (length rest) size h)

  -- a bound that the bytes do not exceed makes no difference
  lines_within_lem : (k m : ℕ) (l : Ledger) (bytes : List ℕ) → length bytes ≤ k → length bytes ≤ m
      → lines_within p ok n k l bytes ≡ lines_within p ok n m l bytes
  lines_within_lem zero m l [] h g = within_end zero l ∙ sym (within_end m l)
  lines_within_lem zero m l (b ∷ bytes) h g = absurd (omega arith)
  lines_within_lem (suc k) m l [] h g = within_end (suc k) l ∙ sym (within_end m l)
  lines_within_lem (suc k) zero l (b ∷ bytes) h g = absurd (omega arith)
  lines_within_lem (suc k) (suc m) l (high ∷ []) h g = within_cut_length k l high ∙ sym (within_cut_length m l high)
  lines_within_lem (suc k) (suc m) l (high ∷ low ∷ rest) h g =
      let size = number_from 0 (high ∷ low ∷ []) in
      let after = ledger_after p ok n l (take size rest) in
      rw (
        lines_more k l high low rest,
        lines_more m l high low rest,
        lines_within_lem k m after (drop size rest) (omega (arith, length-drop size rest)) (omega (arith, length-drop size rest)),
      )

  module _ (l : Ledger) where
    pub lines_end : lines_from p ok n l [] ≡ ledger_ending p ok n l
    lines_end = within_end 0 l

    pub lines_cut_length : (high : ℕ) → lines_from p ok n l (high ∷ []) ≡ cut_ending p ok n l
    lines_cut_length high = within_cut_length 0 l high

    module _ (high low : ℕ) (rest : List ℕ) where
      pub lines_cut_frame : length rest < number_from 0 (high ∷ low ∷ []) → lines_from p ok n l (high ∷ low ∷ rest) ≡ cut_ending p ok n l
      lines_cut_frame h = within_cut_frame (suc (length rest)) l high low rest h

      pub lines_frame : number_from 0 (high ∷ low ∷ []) ≤ length rest →
          let size = number_from 0 (high ∷ low ∷ []) in
          let frame = take size rest in
          lines_from p ok n l (high ∷ low ∷ rest)
          ≡ ledger_line p ok n l frame ++ lines_from p ok n (ledger_after p ok n l frame) (drop size rest)
      lines_frame h =
          let size = number_from 0 (high ∷ low ∷ []) in
          let after = ledger_after p ok n l (take size rest) in
          within_frame (suc (length rest)) l high low rest h
          ∙ ap (λ x. ledger_line p ok n l (take size rest) ++ x)
          (lines_within_lem (suc (length rest)) (length (drop size rest)) after (drop size rest) (omega (arith, length-drop size rest)) (omega arith))

-- ---- the header

pub sheet_cut_header : (input : List ℕ) → length input < 5 → sheet_of input ≡ cut_line
unfolding sheet_of
sheet_cut_header input h = rw (lt-ltb (length input) 5 h)

module _ (input : List ℕ) (whole : 5 ≤ length input) where
  abbrev modulus : ℕ
  modulus = number_at 4 input 0

  abbrev records : ℕ
  records = get_or input 4 0

  sheet_heat_lem : sheet_of input ≡ heat_of modulus records (drop 5 input)
  unfolding sheet_of
  sheet_heat_lem = rw (le-ltb (length input) 5 whole)

  pub sheet_refused : {k : Refusal} → FirstFailing (frame_sizes modulus records sheet_words) k → sheet_of input ≡ refused_line (refusal_number k)
  unfolding heat_of
  sheet_refused f = sheet_heat_lem ∙ in_order_refused _ _ f

  pub sheet_opened : (ok : IsModulus modulus) → FrameSize records → sheet_of input ≡ lines_from modulus ok records (ledger []) (drop 5 input)
  unfolding heat_of
  sheet_opened ok small =
      sheet_heat_lem
      ∙ in_order_done _ _ _ (ok and_then small and_then (omega arith) and_then none_left)
      (λ given. ap (λ m. lines_from modulus m records (ledger []) (drop 5 input)) (modulus_prop modulus given.0 ok))
