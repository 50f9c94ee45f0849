-- What each step of the program reads and writes: a frame's bytes, cut or whole, and its length with what comes behind.
use Rattle.std.proofs.Common.{◌≡◌, List, [], ◌∷◌, ◌++◌, ℕ, ◌<◌, ◌≤◌, Bool, true, false, length, take, refl, sym, ap, ap₂, ◌∙◌, subst, arith, take_all}
use Rattle.std.specs.Prelude.{Option, Result, Ok, Err, IfOk, pos}
use Rattle.std.specs.Io.KnownBytes.{Appends, Consumes, IsAtEnd}
use borrow.Author.Tests.{lt-ltb, le-ltb}
use native.Mathlib.Decide.{dec_lt}
use lib.ListN.{length-take}
use Rattle.algebra.specs.Choice.{choose}
use Rattle.checks.specs.declared.Refusal.{Refusal}
use Rattle.checks.specs.declared.Refusal.TheVariants.{FrameLength}
use Rattle.checks.specs.Refusal.{refusal_number}
use Rattle.checks.proofs.Refusals.{refusal_number_lem}
use Rattle.checks.specs.Told.{Told, refused, done, gives}
use Rattle.ledger.specs.Calls.{take_call}
use Rattle.sheet_text.specs.Lines.{refused_line}
use Rattle.sheet_text.specs.Input.{frame_start, frame_body}
use Rattle.sheet_heat.specs.Sheet.{cut_line}
use Rattle.sheet_heat.specs.Calls.{taken_line, frames_by_calls}
use Rattle.sheet.specs.Program.{Reads, Writes, FrameText, NextText, frame_by_calls}
use Rattle.sheet.proofs.Streams.{read_then, read_some, read_last, appended_none}
use Rattle.sheet.proofs.FrameTexts.{frame_cut, frame_whole, next_end, next_cut, next_frame}

-- ---- what the answers tell

-- a frame is not cut whose bytes all came
pub told_whole : (f size came : ℕ) → gives (pos f) ≡ frame_body size came → size ≤ came
unfolding frame_body
told_whole f size came e = go (dec_lt came size)
  where
    go : Dec (came < size) → size ≤ came
    go (no n) = omega arith
    go (yes h) =
        let t = e ∙ ap (λ b. choose b (refused FrameLength) (gives (pos size))) (lt-ltb came size h) in
        absurd (omega (arith, ap (λ (x : Told). x.number) t))

-- and one that is refused is cut, which has the number 6
pub told_cut : (k : Refusal) (size came : ℕ) → refused k ≡ frame_body size came → (came < size) × (refusal_number k ≡ 6)
unfolding frame_body
told_cut k size came e = go (dec_lt came size)
  where
    go : Dec (came < size) → (came < size) × (refusal_number k ≡ 6)
    go (yes h) =
        (h, ap (λ (x : Told). x.number) (e ∙ ap (λ b. choose b (refused FrameLength) (gives (pos size))) (lt-ltb came size h)))
    go (no m) =
        let t = e ∙ ap (λ b. choose b (refused FrameLength) (gives (pos size))) (le-ltb came size (omega arith)) in
        absurd (omega (arith, refusal_number_lem k, ap (λ (x : Told). x.number) t))

-- the line of a refusal with the number 6
pub cut_written : (held holds : Option (List ℕ)) (k : Refusal) → refusal_number k ≡ 6 → Appends held holds (refused_line (refusal_number k))
    → Appends held holds cut_line
cut_written held holds k e a = subst (λ n. Appends held holds (refused_line n)) e a

-- no byte came of a frame's length, one, or two
pub told_end : (bs : List ℕ) → done ≡ frame_start bs → bs ≡ []
unfolding frame_start
told_end [] e = refl
told_end (high ∷ []) e = absurd (omega (arith, ap (λ (x : Told). x.number) e))
told_end (high ∷ low ∷ bs) e = absurd (omega (arith, ap (λ (x : Told). length x.values) e))

pub told_one : (k : Refusal) (bs : List ℕ) → refused k ≡ frame_start bs → (length bs ≡ 1) × (refusal_number k ≡ 6)
unfolding frame_start
told_one k [] e = absurd (omega (arith, refusal_number_lem k, ap (λ (x : Told). x.number) e))
told_one k (high ∷ []) e = (refl, ap (λ (x : Told). x.number) e)
told_one k (high ∷ low ∷ bs) e = absurd (omega (arith, refusal_number_lem k, ap (λ (x : Told). x.number) e))

pub told_two : (bs : List ℕ) (size : ℕ) → gives (pos size) ≡ frame_start bs → 2 ≤ length bs
unfolding frame_start
told_two [] size e = absurd (omega (arith, ap (λ (x : Told). length x.values) e))
told_two (high ∷ []) size e = absurd (omega (arith, ap (λ (x : Told). x.number) e))
told_two (high ∷ low ∷ bs) size e = omega arith

-- ---- the steps

-- the reader's bytes before and after, what the writer held and holds, and the board and the mix
module _ (known left held holds : Option (List ℕ)) (ws mix : List ℕ) where
  -- a frame of that size is cut: as many of its bytes came as stand at the front of the buffer
  pub cut_frame : (size came : ℕ) (buffer : List ℕ) → came < size → Consumes known left (take came buffer) → IsAtEnd left
      → Appends held holds cut_line
      → Reads known left (λ bytes rest. Writes held holds (λ text. FrameText ws mix size bytes text false ws mix rest))
  cut_frame size came buffer h c e a =
      read_last _ known left (take came buffer) c e
      (cut_line, a, λ k. frame_cut k ws mix size (take came buffer) (omega (arith, length-take came buffer)))

  -- a frame came whole, and was taken
  pub whole_frame : (size came : ℕ) (buffer ws' mix' : List ℕ) → length buffer ≡ size → size ≤ came → Consumes known left (take came buffer)
      → Appends held holds (taken_line ws buffer mix)
      → ws' ≡ (take_call ws buffer mix).lent.0 → mix' ≡ (take_call ws buffer mix).lent.1
      → Reads known left (λ bytes rest. Writes held holds (λ text. FrameText ws mix size bytes text true ws' mix' rest))
  whole_frame size came buffer ws' mix' l h c a bs ms =
      read_some _ known left buffer (subst (Consumes known left) (take_all came buffer (omega arith)) c)
      (λ rest. (
        taken_line ws buffer mix,
        a,
        λ k.
            subst (λ n. frame_by_calls k ws mix n (buffer ++ rest) ≡ taken_line ws buffer mix ++ frames_by_calls k ws' mix' rest) l
            (frame_whole k ws mix buffer rest ∙ ap₂ (λ b m. taken_line ws buffer mix ++ frames_by_calls k b m rest) (sym bs) (sym ms)),
      ))

  -- the input ends before a frame
  pub no_frame : (came : ℕ) (pair : List ℕ) → length pair ≡ 2 → done ≡ frame_start (take came pair)
      → Consumes known left (take came pair) → (came < 2 → IsAtEnd left)
      → Reads known left (λ bytes rest. Writes held held (λ text. NextText ws mix bytes text false ws mix rest))
  no_frame came pair l e c end =
      let none = told_end (take came pair) e in
      read_last _ known left (take came pair) c (end (omega (arith, ap length none, length-take came pair)))
      (subst (λ bs. Writes held held (λ text. NextText ws mix bs text false ws mix [])) (sym none) ([], appended_none held, λ k. next_end k ws mix))

  -- it ends within a frame's length
  pub cut_length : (k : Refusal) (came : ℕ) (pair : List ℕ) → length pair ≡ 2 → refused k ≡ frame_start (take came pair)
      → Consumes known left (take came pair) → (came < 2 → IsAtEnd left) → Appends held holds (refused_line (refusal_number k))
      → Reads known left (λ bytes rest. Writes held holds (λ text. NextText ws mix bytes text false ws mix rest))
  cut_length k came pair l e c end a =
      let (one, six) = told_one k (take came pair) e in
      read_last _ known left (take came pair) c (end (omega (arith, one, length-take came pair)))
      (cut_line, cut_written held holds k six a, λ k. next_cut k ws mix (take came pair) one)

  -- the length came, and then the frame, of which that is told
  pub length_and_frame : {E : Type 0} (mid : Option (List ℕ)) (r : Result Bool E) (came size told : ℕ) (pair ws' mix' : List ℕ)
      → length pair ≡ 2 → size ≡ told → gives (pos told) ≡ frame_start (take came pair) → Consumes known mid (take came pair)
      → IfOk r (λ more. Reads mid left (λ bytes rest. Writes held holds (λ text. FrameText ws mix size bytes text more ws' mix' rest)))
      → IfOk r (λ more. Reads known left (λ bytes rest. Writes held holds (λ text. NextText ws mix bytes text more ws' mix' rest)))
  length_and_frame mid (Err x) came size told pair ws' mix' l same e c h = h
  length_and_frame mid (Ok more) came size told pair ws' mix' l same e c h =
      let two = told_two (take came pair) told e in
      let both : length (take came pair) ≡ 2 = omega (arith, length-take came pair) in
      read_then _ _ known mid left (take came pair) c h
      (λ bytes rest w. (w.0, w.1, λ k. next_frame k ws mix (take came pair) bytes size both (ap (λ n. gives (pos n)) same ∙ e) ∙ w.2 k))
