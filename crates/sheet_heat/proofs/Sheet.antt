-- The sheet by the calls is 01's sheet: what a program writes that reads the input and calls open, take and show on one board and one
-- mix is `sheet_of` of the input. By induction over the frames: the board is the layout of the ledger, and on it take and show are the
-- ledger's steps.
use mathlib.Core.Path.{◌≡◌, refl, sym, ap, ap₂, ◌∙◌}
use mathlib.Core.List.{List, [], ◌∷◌, ◌++◌}
use Prim.Native.Nat.{ℕ, zero, suc, ◌≤◌, ◌<◌}
use native.Mathlib.Decide.{dec_le}
use native.Mathlib.Omega.{arith}
use borrow.Author.Tests.{ne_eqb, le-ltb}
use lib.Dec.{eqb}
use lib.IntN.{pos}
use lib.ListN.{length, take, drop, replicate, length-take, length-drop, length-replicate}
use lib.Seq.{length-take-le}
use Rattle.algebra.specs.Choice.{choose}
use Rattle.checks.specs.declared.Refusal.{Refusal}
use Rattle.checks.specs.Refusal.{refusal_number}
use Rattle.checks.specs.InOrder.{FirstFailing}
use Rattle.checks.specs.Outcome.{Outcome}
use Rattle.checks.specs.Prime.{IsModulus}
use Rattle.checks.specs.Largest.{largest, FrameSize, WordCount}
use Rattle.checks.specs.Sizes.{frame_sizes}
use Rattle.checks.proofs.Refusals.{refusal_number_lem}
use Rattle.checks.proofs.InOrder.{in_order_elim}
use Rattle.codec.specs.BigEndian.{number_from, number_at}
use Rattle.ledger.specs.Ledger.{Ledger, ledger}
use Rattle.ledger.specs.Steps.{ledger_take}
use Rattle.signed.specs.Balanced.{balanced_low}
use Rattle.ledger.specs.Board.{board_length, count_word, board_of}
use Rattle.ledger.specs.Calls.{open_call, take_call, show_call}
use Rattle.ledger.specs.History.{Call, ledger_step}
use Rattle.ledger.specs.Proper.{Proper}
use Rattle.ledger.proofs.LayoutBoard.{layout_modulus, layout_size, layout_count}
use Rattle.ledger.proofs.Proper.{empty_proper, step_proper}
use Rattle.ledger.proofs.WordsCalls.{take_at_layout, show_at_layout}
use Rattle.ledger.proofs.Histories.{open_done}
use Rattle.board_calls.proofs.CallOpen.{open_no_sizes}
use Rattle.sheet_text.specs.Lines.{frame_line, refused_line}
use Rattle.sheet_text.specs.Input.{header_call, frame_start, frame_body}
use Rattle.sheet_text.proofs.Input.{body_cut, body_whole}
use Rattle.sheet_heat.specs.Sheet.{sheet_words, cut_line, ending_from, ledger_ending, cut_ending, ledger_takes, ledger_line, lines_within, heat_of, sheet_of}
use Rattle.sheet_heat.specs.Calls.{taken_line, ending_of, by_input, frames_by_calls, sheet_by_calls}
use Rattle.sheet_heat.proofs.Mixes.{take_same, take_long}
use Rattle.sheet_heat.proofs.SheetLaws.{within_end, within_cut_length, within_cut_frame, within_frame}

-- ---- what the program writes, by what came

module _ (k : ℕ) (ws mix : List ℕ) where
  frames_end : frames_by_calls k ws mix [] ≡ ending_of ws
  unfolding frames_by_calls frame_start
  frames_end = go k
    where
      go : (k : ℕ) → frames_by_calls k ws mix [] ≡ ending_of ws
      go zero = refl
      go (suc m) = refl

  frames_cut_length : (high : ℕ) → frames_by_calls (suc k) ws mix (high ∷ []) ≡ cut_line ++ ending_of ws
  unfolding frames_by_calls frame_start
  frames_cut_length high = refl

  module _ (high low : ℕ) (rest : List ℕ) where
    abbrev size : ℕ
    size = number_from 0 (high ∷ low ∷ [])

    -- the clause of a frame whose length came
    frames_more :
        let frame = take size rest in
        let taken = take_call ws frame mix in
        frames_by_calls (suc k) ws mix (high ∷ low ∷ rest)
        ≡ by_input (frame_body size (length frame)) (cut_line ++ ending_of ws) (cut_line ++ ending_of ws)
        (λ _. taken_line ws frame mix ++ frames_by_calls k taken.lent.0 taken.lent.1 (drop size rest))
    unfolding frames_by_calls frame_start
    frames_more = refl

    frames_cut_frame : length rest < size → frames_by_calls (suc k) ws mix (high ∷ low ∷ rest) ≡ cut_line ++ ending_of ws
    frames_cut_frame h =
        rw (frames_more, body_cut size (length (take size rest)) (omega (arith, length-take size rest)))

    frames_frame : size ≤ length rest →
        let frame = take size rest in
        let taken = take_call ws frame mix in
        frames_by_calls (suc k) ws mix (high ∷ low ∷ rest)
        ≡ taken_line ws frame mix ++ frames_by_calls k taken.lent.0 taken.lent.1 (drop size rest)
    frames_frame h =
        rw (frames_more, body_whole size (length (take size rest)) (omega (arith, length-take-le size rest h)))

-- ---- the frames

-- a record has one word
one_word : WordCount sheet_words
one_word = omega arith

module _ (p n : ℕ) (ok : IsModulus p) (small : FrameSize n) where
  ending_by_calls : (l : Ledger) → Proper p n sheet_words l.entries → ending_of (board_of p n sheet_words l) ≡ ledger_ending p ok n l
  unfolding ending_of ledger_ending
  ending_by_calls l P =
      let ws = board_of p n sheet_words l in
      ap₂ (λ q m. ending_from m (show_call ws (balanced_low q) (replicate m 0) (replicate m (pos 0)))) (layout_modulus p n sheet_words l.entries)
      (layout_size p n sheet_words l.entries)
      ∙ ap (ending_from n) (show_at_layout p n sheet_words l.entries ok small one_word P (balanced_low p) (replicate n 0) (replicate n (pos 0)))

  cut_by_calls : (l : Ledger) → Proper p n sheet_words l.entries → cut_line ++ ending_of (board_of p n sheet_words l) ≡ cut_ending p ok n l
  unfolding cut_ending
  cut_by_calls l P = ap (λ x. cut_line ++ x) (ending_by_calls l P)

  -- a frame whose length came, from what is written behind it
  module _ (k m : ℕ) (l : Ledger) (P : Proper p n sheet_words l.entries) (mix : List ℕ) (long : length mix ≡ n) (high low : ℕ) (rest : List ℕ) where
    abbrev frame : List ℕ
    frame = take (number_from 0 (high ∷ low ∷ [])) rest

    abbrev behind : List ℕ
    behind = drop (number_from 0 (high ∷ low ∷ [])) rest

    abbrev after : Outcome (Ledger × List ℕ)
    after = ledger_take p ok n sheet_words l frame mix

    whole_by_calls : number_from 0 (high ∷ low ∷ []) ≤ length rest
        → frames_by_calls k (board_of p n sheet_words after.lent.0) after.lent.1 behind ≡ lines_within p ok n m after.lent.0 behind
        → frames_by_calls (suc k) (board_of p n sheet_words l) mix (high ∷ low ∷ rest) ≡ lines_within p ok n (suc m) l (high ∷ low ∷ rest)
    unfolding taken_line ledger_takes ledger_line
    whole_by_calls h e =
        frames_frame k (board_of p n sheet_words l) mix high low rest h
        ∙ ap
        (λ (r : Outcome (List ℕ × List ℕ)). frame_line r.told (count_word r.lent.0) ++ frames_by_calls k r.lent.0 r.lent.1 behind)
        (take_at_layout p n sheet_words l.entries ok small one_word P frame mix)
        ∙ ap₂ (λ c x. frame_line after.told c ++ x) (layout_count p n sheet_words after.lent.0.entries) e
        ∙ take_same p ok n l frame (λ t x. frame_line t (length x.entries) ++ lines_within p ok n m x behind) mix (replicate n 0) long
        (length-replicate n 0)
        ∙ sym (within_frame p ok n m l high low rest h)

    frame_by_calls : Dec (number_from 0 (high ∷ low ∷ []) ≤ length rest)
        → frames_by_calls k (board_of p n sheet_words after.lent.0) after.lent.1 behind ≡ lines_within p ok n m after.lent.0 behind
        → frames_by_calls (suc k) (board_of p n sheet_words l) mix (high ∷ low ∷ rest) ≡ lines_within p ok n (suc m) l (high ∷ low ∷ rest)
    frame_by_calls (yes h) e = whole_by_calls h e
    frame_by_calls (no f) e =
        frames_cut_frame k (board_of p n sheet_words l) mix high low rest (omega arith)
        ∙ cut_by_calls l P
        ∙ sym (within_cut_frame p ok n m l high low rest (omega arith))

  frames_by_calls_lem : (k m : ℕ) (l : Ledger) → Proper p n sheet_words l.entries → (mix : List ℕ) → length mix ≡ n
      → (bytes : List ℕ) → length bytes ≤ k → length bytes ≤ m
      → frames_by_calls k (board_of p n sheet_words l) mix bytes ≡ lines_within p ok n m l bytes
  unfolding ledger_step
  frames_by_calls_lem zero m l P mix long [] h g = frames_end zero _ mix ∙ ending_by_calls l P ∙ sym (within_end p ok n m l)
  frames_by_calls_lem zero m l P mix long (b ∷ bytes) h g = absurd (omega arith)
  frames_by_calls_lem (suc k) m l P mix long [] h g = frames_end (suc k) _ mix ∙ ending_by_calls l P ∙ sym (within_end p ok n m l)
  frames_by_calls_lem (suc k) zero l P mix long (b ∷ bytes) h g = absurd (omega arith)
  frames_by_calls_lem (suc k) (suc m) l P mix long (high ∷ []) h g =
      frames_cut_length k _ mix high ∙ cut_by_calls l P ∙ sym (within_cut_length p ok n m l high)
  frames_by_calls_lem (suc k) (suc m) l P mix long (high ∷ low ∷ rest) h g =
      let size = number_from 0 (high ∷ low ∷ []) in
      let frame = take size rest in
      let r = ledger_take p ok n sheet_words l frame mix in
      frame_by_calls k m l P mix long high low rest (dec_le size (length rest))
      (frames_by_calls_lem k m r.lent.0 (step_proper p n sheet_words l.entries P ok (Call.take frame mix)) r.lent.1
      (take_long p ok n l frame P.fits mix long) (drop size rest)
      (omega (arith, length-drop size rest)) (omega (arith, length-drop size rest)))

-- ---- the whole input

-- for n records: the words lent for the board and the mix, of any contents
module _ (n : ℕ) (board mix : List ℕ) (board-long : n ≤ largest → length board ≡ board_length n sheet_words)
    (mix_long : n ≤ largest → length mix ≡ n) where
  -- what is written behind the header
  abbrev pub opened : (budget p : ℕ) → List ℕ → List ℕ
  opened budget p bytes =
      let o = open_call p n sheet_words board in
      choose (eqb o.told.number 0) (frames_by_calls budget o.lent mix bytes) (refused_line o.told.number)

  opened_refused : (budget p : ℕ) (bytes : List ℕ) (k : Refusal) → FirstFailing (frame_sizes p n sheet_words) k
      → opened budget p bytes ≡ refused_line (refusal_number k)
  opened_refused budget p bytes k f =
      rw (← open_no_sizes p n sheet_words board f, ne_eqb (refusal_number k) 0 (λ z. omega (arith, refusal_number_lem k)))

  opened_done : (budget p : ℕ) (bytes : List ℕ) (ok : IsModulus p) → FrameSize n → length bytes ≤ budget
      → opened budget p bytes ≡ lines_within p ok n (length bytes) (ledger []) bytes
  opened_done budget p bytes ok small h =
      rw (open_done p n sheet_words board ok small one_word (board-long small.1))
      (frames_by_calls_lem p n ok small budget (length bytes) (ledger []) (empty_proper p n sheet_words) mix (mix_long small.1) bytes h (omega arith))

  pub heat_by_calls : (budget p : ℕ) (bytes : List ℕ) → length bytes ≤ budget → opened budget p bytes ≡ heat_of p n bytes
  unfolding heat_of
  heat_by_calls budget p bytes h =
      in_order_elim _ _ (λ x. opened budget p bytes ≡ x) (λ hs. opened_done budget p bytes hs.0 hs.1.0 h)
      (λ k f. opened_refused budget p bytes k f)

-- the memory lent for any number of records
module _ (board mix : ℕ → List ℕ) (board-long : (n : ℕ) → n ≤ largest → length (board n) ≡ board_length n sheet_words)
    (mix_long : (n : ℕ) → n ≤ largest → length (mix n) ≡ n) where
  -- for every input that is no longer than the budget
  pub sheet_by_calls_lem : (budget : ℕ) (input : List ℕ) → length input ≤ budget → sheet_by_calls board mix budget input ≡ sheet_of input
  unfolding sheet_by_calls sheet_of header_call number_at
  sheet_by_calls_lem budget [] h = refl
  sheet_by_calls_lem budget (a ∷ []) h = refl
  sheet_by_calls_lem budget (a ∷ b ∷ []) h = refl
  sheet_by_calls_lem budget (a ∷ b ∷ c ∷ []) h = refl
  sheet_by_calls_lem budget (a ∷ b ∷ c ∷ d ∷ []) h = refl
  sheet_by_calls_lem budget (a ∷ b ∷ c ∷ d ∷ n ∷ bytes) h =
      rw (le-ltb (length (a ∷ b ∷ c ∷ d ∷ n ∷ bytes)) 5 (omega arith))
      (heat_by_calls n (board n) (mix n) (board-long n) (mix_long n) budget (number_from 0 (a ∷ b ∷ c ∷ d ∷ [])) bytes (omega arith))
