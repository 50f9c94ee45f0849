-- What is so of each frame taken, as it reads, is so of the frames that stand after every list of calls. Where one assignment meets them
-- so, no take is refused by 9. A combination of standing frames that it meets has the combination's values, and the other way round.
use mathlib.Core.Path.{◌≡◌, refl, sym, ap, ◌∙◌, subst}
use mathlib.Core.List.Memᴰ
use mathlib.Core.List.{List, [], ◌∷◌, Memᴰ}
use Prim.Native.Nat.{ℕ, ◌-◌, ◌<◌}
use native.Mathlib.Nat.{not-suc-le-zero, sub-le}
use native.Mathlib.Omega.{arith}
use lib.IntN.{ℤ}
use lib.ListN.{length, get_or}
use lib.Seq.{length-take-le, get_or-take}
use Rattle.algebra.specs.Ring.{IsCommutativeRing}
use Rattle.algebra.specs.Matrix.{Vector, apply, mixed}
use Rattle.algebra.proofs.Sums as sums
use Rattle.algebra.proofs.Applied as applied
use Rattle.checks.specs.Prime.{IsModulus}
use Rattle.checks.specs.Outcome.{Outcome}
use Rattle.field.specs.Residue.{reduce, residues, ◌⊗◌}
use Rattle.field.proofs.Field.{residues_field}
use Rattle.frame.specs.Reading.{accepted, read_frame}
use Rattle.ledger.specs.Ledger.{Entry, entry, no_entry, Ledger, ledger, Assignment, Meets, MeetsAll, InSpan, GivesValues, multiplier_rows, value_table}
use Rattle.ledger.specs.Calls.{open_call}
use Rattle.ledger.specs.History.{Call, Reply, ledger_step, run, ledger_run}
use Rattle.ledger.specs.Turns.{Turn, reply_of}
use Rattle.ledger.specs.Demand3.{standing, reply_at}
use Rattle.ledger.proofs.EntryMore.{each_more}
use Rattle.ledger.proofs.LedgerSteps.{Took, new, repeat, conflict, refusal, took, Withdrew, dropped, overlong, withdrew}
use Rattle.ledger.proofs.LedgerSteps.{Showed, answered, unshown, showed}
use Rattle.ledger.proofs.Demand3.{turn_replied}

module _ (p : ℕ) (ok : IsModulus p) (n s : ℕ) where
  L : IsCommutativeRing (residues p)
  L = (residues_field p ok.prime).ring

  -- an assignment that meets the standing frames and a frame that they combine to: the combination of the values is its values
  pub met_gives_values : (es : List Entry) (xs vs : List ℕ) (x : Assignment p) → MeetsAll p n s es x → Meets p n s (entry xs vs) x
      → (c : InSpan p n es xs) → GivesValues p s es c.0 vs
  unfolding apply multiplier_rows value_table
  met_gives_values es xs vs x all one c w b =
      let y : Vector (residues p) = λ j. x j w in
      sums.sum_same (residues p) (length es) (λ t. c.0 t ⊗ value_table p es t w) (λ t. c.0 t ⊗ apply (residues p) n (multiplier_rows p es) y t)
      (λ t h. ap (λ a. c.0 t ⊗ a) (sym (all t h w b)))
      ∙ sym (applied.mixed_apply (residues p) L n (length es) c.0 (multiplier_rows p es) y)
      ∙ sums.sum_same (residues p) n (λ j. mixed (residues p) (length es) c.0 (multiplier_rows p es) j ⊗ y j) (λ j. reduce p (get_or xs j 0) ⊗ y j)
      (λ j h. ap (λ a. a ⊗ y j) (sym (c.1 j h)))
      ∙ one w b

  -- and the other way round: where the combination of the values is its values, it is met with them
  pub given_values_met : (es : List Entry) (xs vs : List ℕ) (x : Assignment p) → MeetsAll p n s es x
      → (c : InSpan p n es xs) → GivesValues p s es c.0 vs → Meets p n s (entry xs vs) x
  unfolding apply multiplier_rows value_table
  given_values_met es xs vs x all c g w b =
      let y : Vector (residues p) = λ j. x j w in
      sums.sum_same (residues p) n (λ j. reduce p (get_or xs j 0) ⊗ y j) (λ j. mixed (residues p) (length es) c.0 (multiplier_rows p es) j ⊗ y j)
      (λ j h. ap (λ a. a ⊗ y j) (c.1 j h))
      ∙ applied.mixed_apply (residues p) L n (length es) c.0 (multiplier_rows p es) y
      ∙ sums.sum_same (residues p) (length es) (λ t. c.0 t ⊗ apply (residues p) n (multiplier_rows p es) y t) (λ t. c.0 t ⊗ value_table p es t w)
      (λ t h. ap (λ a. c.0 t ⊗ a) (all t h w b))
      ∙ g w b

  -- ---- through a list of calls

  -- what is so of every frame that is taken, as it reads, is so of every frame that stands
  module _ (Q : Entry → Type 0) where
    -- of what the bytes read as, if they read as anything
    abbrev pub AsRead : List ℕ → Type 0
    AsRead frame = (xs vs : List ℕ) → read_frame p n s frame ≡ accepted xs vs → Q (entry xs vs)

    abbrev pub AllAsRead : List Call → Type 0
    AllAsRead cs = (frame mix : List ℕ) → Memᴰ (Call.take frame mix) cs → AsRead frame

    abbrev pub EachEntry : List Entry → Type 0
    EachEntry es = (i : ℕ) → i < length es → Q (get_or es i no_entry)

    took_each : (l : Ledger) (frame mix : List ℕ) {r : Outcome (Ledger × List ℕ)} → Took p ok n s l frame mix r
        → AsRead frame → EachEntry l.entries → EachEntry r.lent.0.entries
    took_each l frame mix (new xs vs e f) one all = each_more l.entries (entry xs vs) Q all (one xs vs e)
    took_each l frame mix (repeat xs vs e c g) one all = all
    took_each l frame mix (conflict xs vs e c g) one all = all
    took_each l frame mix (refusal k h) one all = all

    withdrew_each : (l : Ledger) (t : ℕ) {r : Outcome Ledger} → Withdrew l t r → EachEntry l.entries → EachEntry r.lent.entries
    withdrew_each l t (dropped h) all i b =
        let k = length l.entries - t in
        let long = length-take-le k l.entries (sub-le (length l.entries) t) in
        rw (get_or-take k l.entries i no_entry (rw long at b)) (all i (omega arith))
    withdrew_each l t overlong all i b = all i b

    run_each : (l : Ledger) (cs : List Call) → AllAsRead cs → EachEntry l.entries → EachEntry (ledger_run p ok n s l cs).state.entries
    unfolding run ledger_step
    run_each l [] read all = all
    run_each l (c ∷ cs) read all = run_each (ledger_step p ok n s l c).state cs (λ f m i. read f m (Memᴰ.tail i)) (one c read)
      where
        one : (c : Call) → AllAsRead (c ∷ cs) → EachEntry (ledger_step p ok n s l c).state.entries
        one (Call.take frame mix) h = took_each l frame mix (took p ok n s l frame mix) (h frame mix (Memᴰ.head refl)) all
        one (Call.withdraw t) h = withdrew_each l t (withdrew l t) all
        one (Call.show other marks numbers) h = all

    pub each_standing : (cs : List Call) → AllAsRead cs → EachEntry (standing p ok n s cs)
    each_standing cs read = run_each (ledger []) cs read (λ i h. absurd (not-suc-le-zero h))

    -- before a turn too, and so is what the turn itself takes
    pub each_before : {cs : List Call} (t : Turn cs) → AllAsRead cs → EachEntry (standing p ok n s t.before)
    each_before t read =
        each_standing t.before (λ frame mix m. read frame mix (subst (Memᴰ (Call.take frame mix)) (sym t.splits) (Memᴰ.append_left _ m)))

    turn_read : {cs : List Call} (t : Turn cs) → AllAsRead cs → (frame mix : List ℕ) → t.call ≡ Call.take frame mix → AsRead frame
    turn_read t read frame mix e =
        read frame mix
        (subst (Memᴰ (Call.take frame mix)) (sym t.splits) (Memᴰ.append_right t.before (Memᴰ.head (sym e))))

  -- ---- refusal 9

  -- a frame that is refused by 9 is met by no assignment that meets the standing frames
  took_nine : (l : Ledger) (frame mix : List ℕ) {r : Outcome (Ledger × List ℕ)} → Took p ok n s l frame mix r → r.told.number ≡ 9
      → (x : Assignment p) → MeetsAll p n s l.entries x → AsRead (λ e. Meets p n s e x) frame → ⊥
  took_nine l frame mix (new xs vs e f) d x all one = omega arith
  took_nine l frame mix (repeat xs vs e c g) d x all one = omega arith
  took_nine l frame mix (conflict xs vs e c g) d x all one = g (met_gives_values l.entries xs vs x all (one xs vs e) c)
  took_nine l frame mix (refusal k h) d x all one = h.0 d

  -- and no other call is refused so
  withdrew_nine : (l : Ledger) (t : ℕ) {r : Outcome Ledger} → Withdrew l t r → r.told.number ≡ 9 → ⊥
  withdrew_nine l t (dropped h) d = omega arith
  withdrew_nine l t overlong d = omega arith

  showed_nine : (l : Ledger) {r : Outcome (List ℕ × List ℤ)} → Showed n l r → r.told.number ≡ 9 → ⊥
  showed_nine l (answered lent) d = omega arith
  showed_nine l (unshown lent k h) d = h.0 d

  -- ---- on the board

  module _ (ws : List ℕ) (done : (open_call p n s ws).told.number ≡ 0) where
    -- what a 9 proves: no assignment meets the frames that stood and the refused one
    pub nine_unmet : {cs : List Call} (t : Turn cs) (frame mix : List ℕ) → t.call ≡ Call.take frame mix
        → (reply_at p n s ws t).told.number ≡ 9 → (x : Assignment p) → MeetsAll p n s (standing p ok n s t.before) x
        → AsRead (λ e. Meets p n s e x) frame → ⊥
    unfolding ledger_step
    nine_unmet t frame mix e nine =
        let l = ledger (standing p ok n s t.before) in
        let same = turn_replied p ok n s ws done t ∙ ap (λ c. reply_of (ledger_step p ok n s l c)) e in
        took_nine l frame mix (took p ok n s l frame mix) (sym (ap (λ (r : Reply). r.told.number) same) ∙ nine)

    -- so where some assignment meets what each frame taken reads as, no call is refused by 9
    pub turn_not_nine : (x : Assignment p) {cs : List Call} (t : Turn cs) → AllAsRead (λ e. Meets p n s e x) cs → (reply_at p n s ws t).told.number ≡ 9 → ⊥
    unfolding ledger_step
    turn_not_nine x t met nine = go t.call refl
      where
        l : Ledger
        l = ledger (standing p ok n s t.before)

        told : (c : Call) → t.call ≡ c → (reply_of (ledger_step p ok n s l c)).told.number ≡ 9
        told c e =
            sym (ap (λ (r : Reply). r.told.number) (turn_replied p ok n s ws done t ∙ ap (λ d. reply_of (ledger_step p ok n s l d)) e)) ∙ nine

        go : (c : Call) → t.call ≡ c → ⊥
        go (Call.take frame mix) e =
            nine_unmet t frame mix e nine x (each_before (λ a. Meets p n s a x) t met) (turn_read (λ a. Meets p n s a x) t met frame mix e)
        go (Call.withdraw k) e = withdrew_nine l k (withdrew l k) (told (Call.withdraw k) e)
        go (Call.show other marks numbers) e = showed_nine l (showed p ok n s l other marks numbers) (told (Call.show other marks numbers) e)
