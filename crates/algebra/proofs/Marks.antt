-- The laws of marks: a position is a member or not, and two marks with the same members are equal.
use mathlib.Core.Path.{◌≡◌, refl, sym, ◌∙◌}
use mathlib.Core.Bool.{Bool, true, false, true≢false}

-- a proof by the two values of a test
pub by_test : {P : Type 0} (b : Bool) → (b ≡ true → P) → (b ≡ false → P) → P
by_test true f g = f refl
by_test false f g = g refl

-- what is not true is false
pub is_false : (b : Bool) → (b ≡ true → ⊥) → b ≡ false
is_false b h = by_test b (λ e. absurd (h e)) (λ e. e)

-- what is not false is true
pub is_true : (b : Bool) → (b ≡ false → ⊥) → b ≡ true
is_true b h = by_test b (λ e. e) (λ e. absurd (h e))

-- two tests that are true together are equal
pub tests_agree : (a b : Bool) → (a ≡ true → b ≡ true) → (b ≡ true → a ≡ true) → a ≡ b
tests_agree a b f g =
    by_test a (λ e. e ∙ sym (f e)) (λ e. e ∙ sym (is_false b (λ d. true≢false (sym (g d) ∙ e))))
