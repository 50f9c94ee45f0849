-- 01's example prints its nine lines: `sheet_of` of the heat's bytes is that text, to the byte. Each frame is taken as the heat says
-- (Heat), so its line is the one of that answer; the ending is that of what show gives. What the lines come to, and that the stream
-- is cut as it was put together, is a test that computes.
use mathlib.Core.Path.{◌≡◌, refl, sym, ap, ap₂, ◌∙◌, subst}
use mathlib.Core.Bool.{Bool, true, not}
use mathlib.Core.List.Memᴰ
use mathlib.Core.List.{List, [], ◌∷◌, ◌++◌, append-nil, append_assoc, Memᴰ}
use Prim.Native.Nat.{ℕ, ◌+◌, ◌-◌, ◌*◌}
use native.Mathlib.Omega.{arith}
use borrow.Author.Tests.{eqb-true, not-true}
use lib.Dec.{eqb, ltb}
use lib.IntN.{ℤ, pos}
use lib.ListN.{length, get_or, take, drop, replicate, length-append, length-replicate}
use lib.Seq.{take-append_seam, drop-append_seam}
use Rattle.algebra.specs.Choice.{choose}
use Rattle.algebra.specs.Matrix.{sum, unit, apply, mixed}
use Rattle.checks.specs.Outcome.{Outcome}
use Rattle.checks.specs.Prime.{IsModulus}
use Rattle.checks.proofs.InOrder.{in_order_done}
use Rattle.checks.proofs.Modulus.{modulus_prop}
use Rattle.codec.specs.BigEndian.{bytes_of, number_from, number_at}
use Rattle.codec.specs.Decimal.{digits_within, decimal, minus, signed_decimal}
use Rattle.field.specs.Residue.{reduce, ◌⊕◌, ◌⊗◌}
use Rattle.field.specs.Written.{tabulate}
use Rattle.frame.specs.Width.{width}
use Rattle.frame.specs.Format.{map_length, stands, map_byte, map_bytes, packed, value_bytes, frame_in}
use Rattle.frame.proofs.Calls.{sizes_hold}
use Rattle.signed.specs.Reading.{reading}
use Rattle.signed.specs.Balanced.{balanced_low}
use Rattle.matrix.proofs.Checker.{◌and◌, every, every_below, both, every_member}
use Rattle.matrix.proofs.CheckedTables.{are_below, are_same, all_same, is_prime, same}
use Rattle.ledger.specs.Ledger.{Entry, Ledger, ledger, multiplier_rows, value_table}
use Rattle.ledger.specs.Steps.{mix_words}
use Rattle.ledger.specs.History.{Call, ledger_step}
use Rattle.ledger.specs.Proper.{Proper}
use Rattle.ledger.proofs.Proper.{empty_proper, step_proper}
use Rattle.sheet_text.specs.Lines.{new_word, repeat_word, conflict_word, refused_word, missing_word, unknown_word, space, line_feed, word_line, frame_line}
use Rattle.sheet_text.specs.Lines.{record_text, record_line, record_lines, missing_line}
use Rattle.sheet_heat.specs.Sheet.{sheet_words, cut_line, ending_from, ledger_ending, ledger_takes, ledger_after, ledger_line, lines_from, heat_of, sheet_of}
use Rattle.sheet_heat.proofs.SheetLaws.{lines_end, lines_frame}
use Rattle.starred.specs.Heat.{HeatFrame, HeatExample, first_frames, sheet_heat, unsettled_heat, told, entry_of, kept, kept_entries}
use Rattle.starred.specs.Sheet.{frames_stream, stream_of, SheetExample, nine_lines, unknown_lines, sheet_examples, Prints}
use Rattle.starred.proofs.Sizes.{are_sizes, sizes_checked}
use Rattle.starred.proofs.HeatChecker.{sameℤ, send_to_zero, is_combination, gives_values, is_mix, is_answer, is_shown}
use Rattle.starred.proofs.Heat.{is_written, is_taken, are_taken, are_shown, Witnesses, passes, sheet_witnesses, unsettled_witnesses, frame_taken}
use Rattle.starred.proofs.Heat.{frames_proper, records_shown}

-- ---- the test

-- the lines of the frames, from the entries that stand before them on
unfoldable frames_text : List Entry → List HeatFrame → List ℕ
frames_text es [] = []
frames_text es (f ∷ fs) =
    let after = es ++ kept f.answer (entry_of f) in
    frame_line (told f.answer) (length after) ++ frames_text after fs

unfoldable text_of : HeatExample → List ℕ
text_of h = frames_text [] h.frames ++ (record_lines h.size h.marks h.numbers ++ missing_line h.missing)

-- a frame's length has two bytes
unfoldable are_short : List HeatFrame → Bool
are_short [] = true
are_short (f ∷ fs) = eqb (number_from 0 (bytes_of 2 (length f.bytes))) (length f.bytes) and are_short fs

-- the header is read back from the stream, and behind it come the frames
unfoldable is_stream : HeatExample → Bool
is_stream h =
    not (ltb (length (stream_of h)) 5)
    and eqb (number_at 4 (stream_of h) 0) h.modulus
    and eqb (get_or (stream_of h) 4 0) h.size
    and are_same (drop 5 (stream_of h)) (frames_stream h.frames)
    and are_short h.frames

-- a heat of one word a record that passes, and its text is what is printed
unfoldable prints : SheetExample → Witnesses → Bool
prints e w = eqb e.heat.words sheet_words and passes e.heat w and is_stream e.heat and are_same (text_of e.heat) e.printed

-- ---- what is printed

module _ (p n : ℕ) (ok : IsModulus p) where
  -- a frame in front of others: its line, and the others' from the ledger that it leaves
  lines_first : (l : Ledger) (frame rest : List ℕ) → number_from 0 (bytes_of 2 (length frame)) ≡ length frame
      → lines_from p ok n l (bytes_of 2 (length frame) ++ (frame ++ rest))
      ≡ ledger_line p ok n l frame ++ lines_from p ok n (ledger_after p ok n l frame) rest
  unfolding bytes_of
  lines_first l frame rest e =
      let whole = frame ++ rest in
      let long : length whole ≡ length frame + length rest = length-append frame rest in
      lines_frame p ok n l _ _ whole (omega arith)
      ∙ ap₂ (λ x y. ledger_line p ok n l x ++ lines_from p ok n (ledger_after p ok n l x) y)
      (ap (λ k. take k whole) e ∙ take-append_seam frame rest)
      (ap (λ k. drop k whole) e ∙ drop-append_seam frame rest)

  -- frames that are taken so print the lines of their answers
  frames_print : (xs : List (List ℕ)) (es : List Entry) → Proper p n sheet_words es → (fs : List HeatFrame)
      → are_taken p n sheet_words xs es fs ≡ true → are_short fs ≡ true
      → lines_from p ok n (ledger es) (frames_stream fs) ≡ frames_text es fs ++ ledger_ending p ok n (ledger (es ++ kept_entries fs))
  unfolding are_taken are_short frames_stream frames_text kept_entries ledger_takes ledger_line ledger_step
  frames_print xs es proper [] t s = lines_end p ok n (ledger es) ∙ ap (λ ds. ledger_ending p ok n (ledger ds)) (sym (append-nil es))
  frames_print xs es proper (f ∷ fs) t s =
      let (first, others) = both _ _ t in
      let (short, rest) = both _ _ s in
      let after = es ++ kept f.answer (entry_of f) in
      let mix : List ℕ = replicate n 0 in
      let taken = frame_taken p n sheet_words ok xs es proper f first mix (length-replicate n 0) in
      let stays : Proper p n sheet_words after =
      subst (λ (r : Outcome (Ledger × List ℕ)). Proper p n sheet_words r.lent.0.entries) taken
      (step_proper p n sheet_words es proper ok (Call.take f.bytes mix)) in
      lines_first (ledger es) f.bytes (frames_stream fs) (eqb-true _ _ short)
      ∙ ap
      (λ (r : Outcome (Ledger × List ℕ)).
      frame_line r.told (length r.lent.0.entries) ++ lines_from p ok n r.lent.0 (frames_stream fs)) taken
      ∙ ap (λ x. frame_line (told f.answer) (length after) ++ x) (frames_print xs after stays fs others rest)
      ∙ sym (append_assoc (frame_line (told f.answer) (length after)) (frames_text after fs) _)
      ∙ ap (λ ds. frames_text es (f ∷ fs) ++ ledger_ending p ok n (ledger ds)) (append_assoc es (kept f.answer (entry_of f)) (kept_entries fs))

  -- and the ending is that of what show gives
  ending_prints : (w : Witnesses) (es : List Entry) → Proper p n sheet_words es → (ms : List ℕ) (zs : List ℤ) (missing : ℕ)
      → are_shown p n sheet_words w.settling es ms zs ≡ true → n - length es ≡ missing
      → ledger_ending p ok n (ledger es) ≡ record_lines n ms zs ++ missing_line missing
  unfolding ledger_ending ending_from
  ending_prints w es proper ms zs missing t many =
      let long : length (replicate n (pos 0)) ≡ n * sheet_words = omega (arith, length-replicate n (pos 0)) in
      ap (ending_from n)
      (records_shown p n sheet_words ok (omega arith, omega arith) w.settling es proper ms zs t
      (replicate n 0) (replicate n (pos 0)) (length-replicate n 0) long)
      ∙ ap (λ k. record_lines n ms zs ++ missing_line k) many

-- an example that passes is printed so
passed_prints : (e : SheetExample) (w : Witnesses) → prints e w ≡ true → Prints e
unfolding prints passes is_stream text_of sheet_of heat_of
passed_prints e w t =
    let h = e.heat in
    let p = h.modulus in
    let n = h.size in
    let input = stream_of h in
    let (t, text) = both _ _ t in
    let (t, stream) = both _ _ t in
    let (one_word, t) = both _ _ t in
    let (t, many) = both _ _ t in
    let (t, shown) = both _ _ t in
    let (sizes, taken) = both _ _ t in
    let (stream, short) = both _ _ stream in
    let (stream, frames) = both _ _ stream in
    let (stream, n-read) = both _ _ stream in
    let (long, p-read) = both _ _ stream in
    let single : h.words ≡ sheet_words = eqb-true _ _ one_word in
    let (ok, size, words) = sizes_checked p n sheet_words (rw single at sizes) in
    ap (λ b. choose b cut_line (heat_of (number_at 4 input 0) (get_or input 4 0) (drop 5 input))) (not-true (ltb (length input) 5) long)
    ∙ ap (λ q. heat_of q (get_or input 4 0) (drop 5 input)) (eqb-true _ _ p-read)
    ∙ ap₂ (heat_of p) (eqb-true _ _ n-read) (all_same _ _ frames)
    ∙ in_order_done _ _ _ (sizes_hold p n sheet_words ok size words)
    (λ given. ap (λ q. lines_from p q n (ledger []) (frames_stream h.frames)) (modulus_prop p given.0 ok))
    ∙ frames_print p n ok w.separating [] (empty_proper p n sheet_words) h.frames (rw single at taken) short
    ∙ ap (λ x. frames_text [] h.frames ++ x)
    (ending_prints p n ok w (kept_entries h.frames) (frames_proper p n sheet_words ok w.separating h.frames (rw single at taken))
    h.marks h.numbers h.missing (rw single at shown) (eqb-true _ _ many))
    ∙ all_same _ _ text

unfoldable witnessed : List (SheetExample × Witnesses)
witnessed = (nine_lines, sheet_witnesses) ∷ (unknown_lines, unsettled_witnesses) ∷ []

-- each passes, computed
all_pass : every (λ (q : SheetExample × Witnesses). prints q.0 q.1) witnessed ≡ true
unfolding every witnessed nine_lines unknown_lines sheet_heat sheet_witnesses unsettled_heat unsettled_witnesses first_frames kept_entries
    prints passes are_sizes is_prime are_taken is_taken is_written is_answer is_mix gives_values are_shown is_shown send_to_zero is_combination are_below are_same
    every_below ◌and◌ same sameℤ multiplier_rows value_table mix_words sum unit apply mixed tabulate reduce ◌⊕◌ ◌⊗◌ reading balanced_low
    frame_in map_bytes map_byte map_length stands packed value_bytes bytes_of width
    is_stream are_short stream_of frames_stream number_from number_at text_of frames_text frame_line word_line record_lines record_line record_text
    new_word repeat_word conflict_word refused_word missing_word unknown_word space line_feed decimal digits_within minus signed_decimal
all_pass = refl

-- every example is printed so
pub sheets_print : (e : SheetExample) → Memᴰ e sheet_examples → Prints e
unfolding sheet_examples witnessed
sheets_print e m =
    let (q, i, same) = Memᴰ.of_map (λ (q : SheetExample × Witnesses). q.0) witnessed m in
    subst Prints same (passed_prints q.0 q.1 (every_member _ witnessed all_pass q i))

-- 01's nine lines are
pub nine_lines_lem : Prints nine_lines
unfolding sheet_examples
nine_lines_lem = sheets_print nine_lines (Memᴰ.head refl)
