-- What the loop that writes the list of the marked rows from its end has written, and that the list passes over rows of zeros.
use mathlib.Core.Path.{◌≡◌, sym, subst, ◌∙◌}
use mathlib.Core.List.{List}
use Prim.Native.Nat.{ℕ, ◌≤◌, ◌<◌}
use native.Mathlib.Omega.{arith}
use lib.ListN.{length, get_or, take}
use lib.Seq.{get_or-take, length-take-le}
use Rattle.matrix_mul.specs.Rows.{Leads, Passes}
use Rattle.matrix_mul.specs.declared.Place.{Place}
use Rattle.matrix_mul.specs.Places.{Used, Listed}

-- the list is written from place t on, and none of the rows from there up to `later` is marked
pub record Listing (marks next : List ℕ) (t later : ℕ) : Type 0 where
  pub reached : t ≤ later
  pub later_most : later ≤ length marks
  pub free : (u : ℕ) → t ≤ u → u < later → get_or marks u 0 ≡ 0
  pub leads_on : (s : ℕ) → t ≤ s → s < length marks → (s < get_or next s 0) × (get_or next s 0 ≤ length marks)
  pub over : (s u : ℕ) → t ≤ s → s < length marks → s < u → u < get_or next s 0 → get_or marks u 0 ≡ 0

-- where the rows that are not marked are zeros, the list of the first k rows passes over zeros only
pub listed_passes : {k n : ℕ} {y : List ℕ} {Y : Place} {marks next : List ℕ} → Used k n y Y marks
    → Listed (take k marks) next → Passes k next Y n y
listed_passes {k} {marks = marks} {next = next} used listed =
    let long : length (take k marks) ≡ k = length-take-le k marks used.long in
    record {
      leads = subst (λ k. Leads k next) long listed.leads;
      zeros = λ j w t u h l g.
          let inside : u < k = omega (arith, listed.leads.within t (omega arith)) in
          used.zeros u inside (sym (get_or-take k marks u 0 inside) ∙ listed.over t u (omega arith) l g) j w;
    }
