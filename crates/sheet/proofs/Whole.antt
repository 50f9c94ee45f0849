-- The whole input: its header, the open, the frames and the ending come to 01's sheet.
use Rattle.std.proofs.Common.{◌≡◌, List, [], ◌∷◌, ◌++◌, ℕ, ◌<◌, ◌≤◌, length, take, drop, sym, ap, ap₂, ◌∙◌, subst, arith, append-nil}
use Rattle.std.specs.Prelude.{Option, None, Some, Result, Ok, Err, OnOk, pos, nat_abs, get_or, eqb, replicate}
use Rattle.std.specs.Io.KnownBytes.{Appends, Consumes, IsAtEnd}
use borrow.Author.Tests.{ne_eqb, lt-ltb, le-ltb}
use native.Mathlib.Decide.{dec_le}
use lib.ListN.{length-take, length-append, length-replicate}
use Rattle.algebra.specs.Choice.{choose}
use Rattle.checks.specs.declared.Refusal.{Refusal}
use Rattle.checks.specs.Largest.{largest}
use Rattle.checks.specs.Refusal.{refusal_number}
use Rattle.checks.specs.Told.{Told, refused, done_told}
use Rattle.checks.specs.Outcome.{Outcome, outcome}
use Rattle.checks.proofs.Refusals.{refusal_number_lem}
use Rattle.codec.specs.BigEndian.{number_at}
use Rattle.ledger.specs.Board.{board_length, size_word}
use Rattle.ledger.specs.Calls.{open_call}
use Rattle.ledger.proofs.Histories.{open_accepted}
use Rattle.ledger.proofs.LayoutBoard.{layout_size}
use Rattle.sheet_text.specs.Lines.{refused_line}
use Rattle.sheet_text.specs.Input.{header_told, header_call}
use Rattle.sheet_text.proofs.Input.{header_cut, header_open}
use Rattle.sheet_heat.specs.Sheet.{sheet_words, cut_line, heat_of, sheet_of}
use Rattle.sheet_heat.specs.Calls.{ending_of, frames_by_calls}
use Rattle.sheet_heat.proofs.Sheet.{heat_by_calls}
use Rattle.sheet.specs.Program.{Reads, Writes, AllText, Prints, budget}
use Rattle.sheet.proofs.Streams.{appended_then}

-- what a writing says where it is done
pub on_ok : {T E : Type 0} (r : Result T E) (P Q : Type 0) → OnOk r P → (P → Q) → OnOk r Q
on_ok (Ok x) P Q h f = f h
on_ok (Err x) P Q h f = h

-- ---- the heat

module _ (p n : ℕ) (ws us : List ℕ) where
  -- the words that are lent are as many as a board for n records has
  abbrev Long : Type 0
  Long = n ≤ largest → length ws ≡ board_length n sheet_words

  -- a refused open is one line
  refused_heat : Long → (k : Refusal) → outcome (done_told (Err k)) us ≡ open_call p n sheet_words ws
      → (bytes : List ℕ) → refused_line (refusal_number k) ≡ heat_of p n bytes
  refused_heat long k e bytes =
      let mix = replicate n 0 in
      let text = λ (o : Outcome (List ℕ)). choose (eqb o.told.number 0) (frames_by_calls (length bytes) o.lent mix bytes) (refused_line o.told.number) in
      sym
      (ap (λ b. choose b (frames_by_calls (length bytes) us mix bytes) (refused_line (refusal_number k)))
      (ne_eqb (refusal_number k) 0 (λ z. omega (arith, refusal_number_lem k))))
      ∙ ap text e
      ∙ heat_by_calls n ws mix long (λ _. length-replicate n 0) (length bytes) p bytes (omega arith)

  -- with an accepted one the frames of the bytes follow
  opened_heat : Long → outcome (done_told (Ok tt)) us ≡ open_call p n sheet_words ws
      → (mix bytes : List ℕ) → length mix ≡ size_word us → length bytes ≤ budget → frames_by_calls budget us mix bytes ≡ heat_of p n bytes
  opened_heat long e mix bytes l h =
      let fresh = open_accepted p n sheet_words ws (sym (ap (λ (o : Outcome (List ℕ)). o.told.number) e)) in
      let size = ap (λ (o : Outcome (List ℕ)). size_word o.lent) e ∙ ap size_word fresh.board ∙ layout_size p n sheet_words [] in
      let text = λ (o : Outcome (List ℕ)). choose (eqb o.told.number 0) (frames_by_calls budget o.lent mix bytes) (refused_line o.told.number) in
      ap text e ∙ heat_by_calls n ws mix long (λ _. l ∙ size) budget p bytes h

  pub prints_refused : (known held holds : Option (List ℕ)) (k : Refusal)
      → outcome (done_told (Err k)) us ≡ open_call p n sheet_words ws
      → Appends held holds (refused_line (refusal_number k)) → Long → Prints known held holds (heat_of p n)
  prints_refused None held holds k e a long = tt
  prints_refused (Some bytes) held holds k e a long = λ _. subst (Appends held holds) (refused_heat long k e bytes) a

  pub prints_opened : (known left held hold holds : Option (List ℕ)) (mix ws' : List ℕ)
      → outcome (done_told (Ok tt)) us ≡ open_call p n sheet_words ws → length mix ≡ size_word us
      → Reads known left (λ bytes rest. Writes held hold (λ text. AllText us mix bytes text ws')) → Appends hold holds (ending_of ws')
      → Long → Prints known held holds (heat_of p n)
  prints_opened None left held hold holds mix ws' e l r a long = tt
  prints_opened (Some bytes) None held hold holds mix ws' e l r a long = elim r [ ]
  prints_opened (Some bytes) (Some rest) held hold holds mix ws' e l r a long =
      λ few. subst (Appends held holds) (sym r.2 ∙ opened_heat long e mix bytes l few) (appended_then held hold holds r.0 (ending_of ws') r.1 a)

-- ---- the header

short_header : (k : Refusal) (bs : List ℕ) → refused k ≡ header_call bs → (length bs < 5) × (refusal_number k ≡ 6)
short_header k bs e = go (dec_le 5 (length bs))
  where
    go : Dec (5 ≤ length bs) → (length bs < 5) × (refusal_number k ≡ 6)
    go (yes h) = absurd (omega (arith, refusal_number_lem k, ap (λ (t : Told). t.number) (e ∙ header_open bs h)))
    go (no f) =
        let short : length bs < 5 = omega arith in
        (short, ap (λ (t : Told). t.number) (e ∙ header_cut bs short))

short_sheet : (bs : List ℕ) → length bs < 5 → cut_line ≡ sheet_of bs
unfolding sheet_of
short_sheet bs h = sym (ap (λ b. choose b cut_line (heat_of (number_at 4 bs 0) (get_or bs 4 0) (drop 5 bs))) (lt-ltb (length bs) 5 h))

whole_sheet : (bs bytes : List ℕ) (p n : ℕ) → length bs ≤ 5 → header_told (Ok (p, n)) ≡ header_call bs
    → heat_of p n bytes ≡ sheet_of (bs ++ bytes)
unfolding header_call sheet_of number_at
whole_sheet [] bytes p n l e = absurd (omega (arith, ap (λ (t : Told). t.number) e))
whole_sheet (a ∷ []) bytes p n l e = absurd (omega (arith, ap (λ (t : Told). t.number) e))
whole_sheet (a ∷ b ∷ []) bytes p n l e = absurd (omega (arith, ap (λ (t : Told). t.number) e))
whole_sheet (a ∷ b ∷ c ∷ []) bytes p n l e = absurd (omega (arith, ap (λ (t : Told). t.number) e))
whole_sheet (a ∷ b ∷ c ∷ d ∷ []) bytes p n l e = absurd (omega (arith, ap (λ (t : Told). t.number) e))
whole_sheet (a ∷ b ∷ c ∷ d ∷ x ∷ y ∷ bs) bytes p n l e = absurd (omega arith)
whole_sheet (a ∷ b ∷ c ∷ d ∷ x ∷ []) bytes p n l e =
    let all = a ∷ b ∷ c ∷ d ∷ x ∷ bytes in
    ap₂ (λ q m. heat_of q m bytes) (ap (λ (t : Told). nat_abs (get_or t.values 0 (pos 0))) e) (ap (λ (t : Told). nat_abs (get_or t.values 1 (pos 0))) e)
    ∙ sym (ap (λ b. choose b cut_line (heat_of (number_at 4 all 0) x bytes)) (le-ltb (length all) 5 (omega arith)))

-- a cut header is one line
pub prints_cut : (k : Refusal) (known left held holds : Option (List ℕ)) (came : ℕ) (buffer : List ℕ) → length buffer ≡ 5
    → refused k ≡ header_call (take came buffer) → Consumes known left (take came buffer) → (came < 5 → IsAtEnd left)
    → Appends held holds (refused_line (refusal_number k)) → Prints known held holds sheet_of
prints_cut k None left held holds came buffer l e c end a = tt
prints_cut k (Some xs) None held holds came buffer l e c end a = elim c [ ]
prints_cut k (Some xs) (Some ys) held holds came buffer l e c end a =
    let bs = take came buffer in
    let (short, six) = short_header k bs e in
    let none = end (omega (arith, short, length-take came buffer)) in
    λ _. subst (Appends held holds) (ap refused_line six ∙ short_sheet bs short ∙ ap sheet_of (sym (c ∙ ap (λ r. bs ++ r) none ∙ append-nil bs))) a

-- behind a whole one stands the heat
pub prints_behind : {T E : Type 0} (r : Result T E) (known left held holds : Option (List ℕ)) (came : ℕ) (buffer : List ℕ) (p n : ℕ)
    → length buffer ≡ 5 → header_told (Ok (p, n)) ≡ header_call (take came buffer) → Consumes known left (take came buffer)
    → OnOk r (Prints left held holds (heat_of p n)) → OnOk r (Prints known held holds sheet_of)
prints_behind (Err x) known left held holds came buffer p n l e c h = h
prints_behind (Ok u) None left held holds came buffer p n l e c h = tt
prints_behind (Ok u) (Some xs) None held holds came buffer p n l e c h = elim c [ ]
prints_behind (Ok u) (Some xs) (Some ys) held holds came buffer p n l e c h =
    let bs = take came buffer in
    λ few.
    subst (Appends held holds) (whole_sheet bs ys p n (omega (arith, length-take came buffer)) e ∙ ap sheet_of (sym c))
    (h (omega (arith, few, ap length c, length-append bs ys)))
