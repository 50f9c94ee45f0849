-- How the words of a ledger's layout change when the ledger is opened, gets an entry or loses its last ones, and that words
-- which change so are that layout: each change says what stands at every place.
use mathlib.Core.Path.{◌≡◌, refl, sym, ap, ◌∙◌, subst}
use mathlib.Core.Logic.{◌≢◌}
use mathlib.Core.List.{List, [], ◌∷◌, ◌++◌}
use Prim.Native.Nat.{ℕ, zero, suc, ◌+◌, ◌-◌, ◌≤◌, ◌<◌}
use native.Mathlib.Nat.{le_trans, not-suc-le-zero}
use native.Mathlib.Decide.{dec_le, dec_lt, ℕ_discrete}
use native.Mathlib.Omega.{arith}
use lib.ListN.{length, get_or, take}
use lib.Seq.{length-take-le, get_or-take, ext_get_or}
use Rattle.ledger.specs.Ledger.{Entry, entry, no_entry}
use Rattle.ledger.specs.Board.{header_length, count_place, row_start, value_start, layout}
use Rattle.ledger.specs.Changes.{Fresh, Appended, Dropped}
use Rattle.ledger.proofs.EntryMore.{length_more, entry_before, entry_last, each_more}
use Rattle.ledger.proofs.LayoutPlaces.{row_first, row_next, row_later, row_place, value_behind, value_last}
use Rattle.ledger.proofs.LayoutRows.{WideEntry, Wide, entry_words}
use Rattle.ledger.proofs.LayoutBoard.{layout_modulus, layout_size, layout_count, layout_words, layout_at, layout_multiplier, layout_value, layout_zero, layout_length}

-- ---- layouts of ledgers that agree in their first k entries

module _ (p n s : ℕ) (ds es : List Entry) (wide-ds : Wide n s ds) (wide-es : Wide n s es)
    (k : ℕ) (long-ds : k ≤ length ds) (long-es : k ≤ length es)
    (same : (i : ℕ) → i < k → get_or ds i no_entry ≡ get_or es i no_entry) where
  -- their words agree up to the end of these rows, but for the count
  agree_row : (q : ℕ) → header_length ≤ q → q < row_start n s k → get_or (layout p n s ds) q 0 ≡ get_or (layout p n s es) q 0
  agree_row q h l =
      let (i, t, row, inside, place) = row_place n s k q h l in
      rw place
      (layout_at p n s ds wide-ds i t (le_trans row long-ds) inside
      ∙ ap (λ d. get_or (entry_words d) t 0) (same i row)
      ∙ sym (layout_at p n s es wide-es i t (le_trans row long-es) inside))

  pub agree_front : (q : ℕ) → q ≢ count_place → q < row_start n s k → get_or (layout p n s ds) q 0 ≡ get_or (layout p n s es) q 0
  agree_front zero no-count h = layout_modulus p n s ds ∙ sym (layout_modulus p n s es)
  agree_front (suc zero) no-count h = layout_size p n s ds ∙ sym (layout_size p n s es)
  agree_front (suc (suc zero)) no-count h = absurd (no-count refl)
  agree_front (suc (suc (suc zero))) no-count h = layout_words p n s ds ∙ sym (layout_words p n s es)
  agree_front (suc (suc (suc (suc q)))) no-count h = agree_row (suc (suc (suc (suc q)))) (omega arith) h

-- ---- a fresh board

pub layout_fresh : (p n s : ℕ) → Fresh p n s (layout p n s [])
layout_fresh p n s =
    record {
      long = layout_length p n s [] none (omega arith);
      modulus = layout_modulus p n s [];
      size = layout_size p n s [];
      count = layout_count p n s [];
      words = layout_words p n s [];
      zero_at = λ q h. layout_zero p n s [] none q (omega (arith, row_first n s));
    }
  where
    none : Wide n s []
    none i h = absurd (not-suc-le-zero h)

fresh_same : (p n s : ℕ) (cs ds : List ℕ) → Fresh p n s cs → Fresh p n s ds → cs ≡ ds
fresh_same p n s cs ds f g = ext_get_or 0 cs ds (f.long ∙ sym g.long) (λ q h. at q)
  where
    at : (q : ℕ) → get_or cs q 0 ≡ get_or ds q 0
    at zero = f.modulus ∙ sym g.modulus
    at (suc zero) = f.size ∙ sym g.size
    at (suc (suc zero)) = f.count ∙ sym g.count
    at (suc (suc (suc zero))) = f.words ∙ sym g.words
    at (suc (suc (suc (suc q)))) = f.zero_at (suc (suc (suc (suc q)))) (omega arith) ∙ sym (g.zero_at (suc (suc (suc (suc q)))) (omega arith))

-- words of a fresh board are the layout of the empty ledger
pub fresh_layout : (p n s : ℕ) (ws : List ℕ) → Fresh p n s ws → ws ≡ layout p n s []
fresh_layout p n s ws f = fresh_same p n s ws (layout p n s []) f (layout_fresh p n s)

-- ---- one entry more

-- the words of the layout with one entry more
pub layout_append : (p n s : ℕ) (es : List Entry) (xs vs : List ℕ) → Wide n s es → length es < n → WideEntry n s (entry xs vs)
    → Appended n s (length es) xs vs (layout p n s es) (layout p n s (es ++ (entry xs vs ∷ [])))
layout_append p n s es xs vs wide room l =
    record {
      long = layout_length p n s more wide_more (omega (arith, count)) ∙ sym (layout_length p n s es wide (omega arith));
      count = layout_count p n s more ∙ count;
      multiplier = λ j h.
          layout_multiplier p n s more wide_more (length es) j (omega (arith, count)) h
          ∙ ap (λ e. get_or e.multipliers j 0) (entry_last es (entry xs vs));
      value = λ w h.
          layout_value p n s more wide_more (length es) w (omega (arith, count)) h
          ∙ ap (λ e. get_or e.values w 0) (entry_last es (entry xs vs));
      front = agree_front p n s more es wide_more wide (length es) (omega (arith, count)) (omega arith) (entry_before es (entry xs vs));
      behind = λ q h.
          layout_zero p n s more wide_more q (rw count h) ∙ sym (layout_zero p n s es wide q (omega (arith, row_next n s (length es))));
    }
  where
    more : List Entry
    more = es ++ (entry xs vs ∷ [])

    wide_more : Wide n s more
    wide_more = each_more es (entry xs vs) (WideEntry n s) wide l

    count : length more ≡ suc (length es)
    count = length_more es (entry xs vs)

-- what is appended determines the words
module _ (n s k : ℕ) (xs vs before cs ds : List ℕ)
    (a : Appended n s k xs vs before cs) (b : Appended n s k xs vs before ds) where
  appended_at : (q : ℕ) → Dec (q ≡ count_place) → Dec (q < row_start n s k) → Dec (row_start n s (suc k) ≤ q) → Dec (q < value_start n s k)
      → get_or cs q 0 ≡ get_or ds q 0
  appended_at q (yes e) f l i = rw e (a.count ∙ sym b.count)
  appended_at q (no e) (yes f) l i = a.front q e f ∙ sym (b.front q e f)
  appended_at q (no e) (no f) (yes l) i = a.behind q l ∙ sym (b.behind q l)
  appended_at q (no e) (no f) (no l) (yes i) =
      let j : ℕ = q - row_start n s k in
      let place : q ≡ row_start n s k + j = omega arith in
      let inside : j < n = omega (arith, value_behind n s k) in
      rw place (a.multiplier j inside ∙ sym (b.multiplier j inside))
  appended_at q (no e) (no f) (no l) (no i) =
      let w : ℕ = q - value_start n s k in
      let place : q ≡ value_start n s k + w = omega arith in
      let inside : w < s = omega (arith, value_last n s k) in
      rw place (a.value w inside ∙ sym (b.value w inside))

  appended_same : cs ≡ ds
  appended_same =
      ext_get_or 0 cs ds (a.long ∙ sym b.long)
      (λ q h.
      appended_at q (ℕ_discrete q count_place) (dec_lt q (row_start n s k)) (dec_le (row_start n s (suc k)) q) (dec_lt q (value_start n s k)))

-- words with the new row appended are the layout with one entry more
pub appended_layout : (p n s : ℕ) (es : List Entry) (xs vs ws : List ℕ)
    → Wide n s es → length es < n → WideEntry n s (entry xs vs) → Appended n s (length es) xs vs (layout p n s es) ws
    → ws ≡ layout p n s (es ++ (entry xs vs ∷ []))
appended_layout p n s es xs vs ws wide room l a =
    appended_same n s (length es) xs vs (layout p n s es) ws (layout p n s (es ++ (entry xs vs ∷ []))) a
    (layout_append p n s es xs vs wide room l)

-- ---- only the first m entries

-- the words of the layout with the entries from m on dropped
pub layout_take : (p n s : ℕ) (es : List Entry) (m : ℕ) → Wide n s es → length es ≤ n → m ≤ length es
    → Dropped n s (length es) m (layout p n s es) (layout p n s (take m es))
layout_take p n s es m wide fits h =
    record {
      long = layout_length p n s fewer wide_fewer (omega (arith, count)) ∙ sym (layout_length p n s es wide fits);
      count = layout_count p n s fewer ∙ count;
      zero_at = λ q l b. zero_from q l;
      front = agree_front p n s fewer es wide_fewer wide m (omega (arith, count)) h same;
      behind = λ q l.
          zero_from q (omega (arith, row_later n s m (length es) h)) ∙ sym (layout_zero p n s es wide q l);
    }
  where
    fewer : List Entry
    fewer = take m es

    count : length fewer ≡ m
    count = length-take-le m es h

    same : (i : ℕ) → i < m → get_or fewer i no_entry ≡ get_or es i no_entry
    same i l = get_or-take m es i no_entry l

    wide_fewer : Wide n s fewer
    wide_fewer i l =
        subst (WideEntry n s) (sym (same i (omega (arith, count)))) (wide i (omega (arith, count)))

    zero_from : (q : ℕ) → row_start n s m ≤ q → get_or (layout p n s fewer) q 0 ≡ 0
    zero_from q l = layout_zero p n s fewer wide_fewer q (rw count l)

-- what is dropped determines the words
module _ (n s k m : ℕ) (before cs ds : List ℕ) (a : Dropped n s k m before cs) (b : Dropped n s k m before ds) where
  dropped_at : (q : ℕ) → Dec (q ≡ count_place) → Dec (q < row_start n s m) → Dec (row_start n s k ≤ q) → get_or cs q 0 ≡ get_or ds q 0
  dropped_at q (yes e) f l = rw e (a.count ∙ sym b.count)
  dropped_at q (no e) (yes f) l = a.front q e f ∙ sym (b.front q e f)
  dropped_at q (no e) (no f) (yes l) = a.behind q l ∙ sym (b.behind q l)
  dropped_at q (no e) (no f) (no l) = a.zero_at q (omega arith) (omega arith) ∙ sym (b.zero_at q (omega arith) (omega arith))

  dropped_same : cs ≡ ds
  dropped_same =
      ext_get_or 0 cs ds (a.long ∙ sym b.long)
      (λ q h. dropped_at q (ℕ_discrete q count_place) (dec_lt q (row_start n s m)) (dec_le (row_start n s k) q))

-- words with the rows from m on dropped are the layout of the first m entries
pub dropped_layout : (p n s : ℕ) (es : List Entry) (m : ℕ) (ws : List ℕ) → Wide n s es → length es ≤ n → m ≤ length es
    → Dropped n s (length es) m (layout p n s es) ws → ws ≡ layout p n s (take m es)
dropped_layout p n s es m ws wide fits h d =
    dropped_same n s (length es) m (layout p n s es) ws (layout p n s (take m es)) d (layout_take p n s es m wide fits h)
