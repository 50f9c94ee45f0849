-- The laws of checks in order: how it is shown which way a list goes, and what going through it then comes to (all hold, the
-- first that fails, and by cases). Callers go by these and open no decision.
use mathlib.Core.Path.{◌≡◌, refl, sym, ap, ◌∙◌, subst}
use Prim.Native.Nat.{ℕ}
use native.Mathlib.Omega.{arith}
use Rattle.algebra.specs.Choice.{pick_by, pick_type}
use Rattle.checks.specs.InOrder.{Check, Checks, passed, first, ◌⨾◌, Given, then_checks, in_order, holding, AllHold, failing, FirstFailing, EveryKind}

-- ---- types picked by a decision

type_intro : {H : Type 0} (d : Dec H) (T : H → Type 0) (B : Type 0) → ((h : H) → T h) → ((H → ⊥) → B) → pick_type d T B
unfolding pick_type
type_intro (yes h) T B y n = y h
type_intro (no h) T B y n = n h

type_elim : {H Q : Type 0} (d : Dec H) (T : H → Type 0) (B : Type 0) → ((h : H) → T h → Q) → (B → Q) → pick_type d T B → Q
unfolding pick_type
type_elim (yes h) T B y n t = y h t
type_elim (no h) T B y n t = n t

type_map : {H : Type 0} (d : Dec H) (T U : H → Type 0) (B C : Type 0) → ((h : H) → T h → U h) → (B → C)
    → pick_type d T B → pick_type d U C
unfolding pick_type
type_map (yes h) T U B C y n t = y h t
type_map (no h) T U B C y n t = n t

-- what a pick comes to, from what the type that is picked alike has
pick_with : {H A : Type 0} (Q : A → Type 0) (d : Dec H) (T : H → Type 0) (B : Type 0) (f : H → A) (a : A)
    → ((h : H) → T h → Q (f h)) → (B → Q a) → pick_type d T B → Q (pick_by d f a)
unfolding pick_type pick_by
pick_with Q (yes h) T B f a y n t = y h t
pick_with Q (no h) T B f a y n t = n t

-- and by cases, each with the type's own case
pick_cases : {H A K : Type 0} (Q : A → Type 0) (d : Dec H) (T : H → K → Type 0) (B : K → Type 0) (f : H → A) (a : A)
    → ((h : H) → ((k : K) → T h k → pick_type d (λ g. T g k) (B k)) → Q (f h))
    → (((k : K) → B k → pick_type d (λ g. T g k) (B k)) → Q a) → Q (pick_by d f a)
unfolding pick_type pick_by
pick_cases Q (yes h) T B f a y n = y h (λ k t. t)
pick_cases Q (no h) T B f a y n = n (λ k t. t)

-- a pick that is mapped, by what each yes comes to
pick_map : {H A B : Type 0} (f : A → B) (d : Dec H) (g : H → A) (g' : H → B) (a : A) → ((h : H) → f (g h) ≡ g' h)
    → f (pick_by d g a) ≡ pick_by d g' (f a)
unfolding pick_by
pick_map f (yes h) g g' a e = e h
pick_map f (no h) g g' a e = refl

-- ---- which way a list goes

pub none_left : {K : Type 0} → AllHold {K = K} passed
unfolding holding
none_left = record { each = tt }

module _ {K : Type 0} {c : Check K} {rest : c.Holds → Checks K} where
  -- the first check holds, and so do the others
  pub holds_and : c.Holds → ((h : c.Holds) → AllHold (rest h)) → AllHold (first c rest)
  unfolding holding
  holds_and h f = record { each = type_intro c.decide (λ g. holding (rest g)) ⊥ (λ g. (f g).each) (λ g. g h) }

  -- the first check fails
  pub fails_here : (c.Holds → ⊥) → FirstFailing (first c rest) c.kind
  unfolding failing
  fails_here f =
      record { fails = type_intro c.decide (λ g. failing (rest g) c.kind) _ (λ h. absurd (f h)) (λ _. refl) }

  -- it holds, and the first of the others that fails has the kind k
  pub fails_later : {k : K} → c.Holds → ((h : c.Holds) → FirstFailing (rest h) k) → FirstFailing (first c rest) k
  unfolding failing
  fails_later {k} h f =
      record {
        fails = type_intro c.decide (λ g. failing (rest g) k) (c.kind ≡ k) (λ g. (f g).fails) (λ g. absurd (g h));
      }

infixr 40 ◌and_then◌
-- the same of a check that the others use nothing of: it holds, and so do they
pub ◌and_then◌ : {K : Type 0} {c : Check K} {cs : Checks K} → c.Holds → AllHold cs → AllHold (c ⨾ cs)
h and_then a = holds_and h (λ _. a)

infixr 40 ◌then◌
-- it holds, and then the first of the others that fails has the kind k
pub ◌then◌ : {K : Type 0} {c : Check K} {cs : Checks K} {k : K} → c.Holds → FirstFailing cs k → FirstFailing (c ⨾ cs) k
h then f = fails_later h (λ _. f)

-- it fails, or else a later one of the same kind
pub or_later : {K : Type 0} {c : Check K} {cs : Checks K} → (c.Holds → FirstFailing cs c.kind) → FirstFailing (c ⨾ cs) c.kind
or_later {K} {c} {cs} f = go c.decide
  where
    go : Dec c.Holds → FirstFailing (c ⨾ cs) c.kind
    go (yes h) = h then f h
    go (no h) = fails_here h

-- what the checks gave, where all hold
given_by : {K : Type 0} (cs : Checks K) → holding cs → Given cs
unfolding holding
given_by passed e = tt
given_by (first c rest) e =
    type_elim c.decide (λ h. holding (rest h)) ⊥ (λ h t. (h, given_by (rest h) t)) absurd e

pub given : {K : Type 0} {cs : Checks K} → AllHold cs → Given cs
given {cs = cs} a = given_by cs a.each

-- ---- a list and then another

both_hold : {K : Type 0} (cs : Checks K) (more : Given cs → Checks K) → holding cs → ((hs : Given cs) → holding (more hs))
    → holding (then_checks cs more)
unfolding holding
both_hold passed more e f = f tt
both_hold (first c rest) more e f =
    type_map c.decide (λ h. holding (rest h)) _ ⊥ ⊥ (λ h t. both_hold (rest h) (λ hs. more (h, hs)) t (λ hs. f (h, hs))) (λ t. t) e

front_fails : {K : Type 0} (cs : Checks K) (more : Given cs → Checks K) (k : K) → failing cs k → failing (then_checks cs more) k
unfolding failing
front_fails passed more k e = absurd e
front_fails (first c rest) more k e =
    type_map c.decide (λ h. failing (rest h) k) _ (c.kind ≡ k) _ (λ h t. front_fails (rest h) (λ hs. more (h, hs)) k t) (λ t. t) e

back_fails : {K : Type 0} (cs : Checks K) (more : Given cs → Checks K) (k : K) → holding cs → ((hs : Given cs) → failing (more hs) k)
    → failing (then_checks cs more) k
unfolding holding failing
back_fails passed more k e f = f tt
back_fails (first c rest) more k e f =
    type_map c.decide (λ h. holding (rest h)) _ ⊥ (c.kind ≡ k)
    (λ h t. back_fails (rest h) (λ hs. more (h, hs)) k t (λ hs. f (h, hs))) absurd e

module _ {K : Type 0} {cs : Checks K} {more : Given cs → Checks K} where
  pub hold_and_then : AllHold cs → ((hs : Given cs) → AllHold (more hs)) → AllHold (then_checks cs more)
  hold_and_then a f = record { each = both_hold cs more a.each (λ hs. (f hs).each) }

module _ {K : Type 0} (cs : Checks K) (more : Given cs → Checks K) {k : K} where
  pub fails_in_front : FirstFailing cs k → FirstFailing (then_checks cs more) k
  fails_in_front a = record { fails = front_fails cs more k a.fails }

  pub fails_then : AllHold cs → ((hs : Given cs) → FirstFailing (more hs) k) → FirstFailing (then_checks cs more) k
  fails_then a f = record { fails = back_fails cs more k a.each (λ hs. (f hs).fails) }

-- ---- what it comes to

module _ {K X : Type 0} where
  done_by : (cs : Checks K) (done : Given cs → X) (refuse : K → X) (x : X) → holding cs → ((hs : Given cs) → done hs ≡ x)
      → in_order cs done refuse ≡ x
  unfolding holding in_order
  done_by passed done refuse x e s = s tt
  done_by (first c rest) done refuse x e s =
      pick_with (λ y. y ≡ x) c.decide (λ h. holding (rest h)) ⊥ _ _
      (λ h t. done_by (rest h) (λ hs. done (h, hs)) refuse x t (λ hs. s (h, hs))) absurd e

  refused_by_lem : (cs : Checks K) (done : Given cs → X) (refuse : K → X) (k : K) → failing cs k → in_order cs done refuse ≡ refuse k
  unfolding failing in_order
  refused_by_lem passed done refuse k e = absurd e
  refused_by_lem (first c rest) done refuse k e =
      pick_with (λ y. y ≡ refuse k) c.decide (λ h. failing (rest h) k) (c.kind ≡ k) _ _
      (λ h t. refused_by_lem (rest h) (λ hs. done (h, hs)) refuse k t) (λ t. ap refuse t) e

  elim_by : (Q : X → Type 0) (cs : Checks K) (done : Given cs → X) (refuse : K → X)
      → ((hs : Given cs) → Q (done hs)) → ((k : K) → failing cs k → Q (refuse k)) → Q (in_order cs done refuse)
  unfolding failing in_order
  elim_by Q passed done refuse y n = y tt
  elim_by Q (first c rest) done refuse y n =
      pick_cases Q c.decide (λ h k. failing (rest h) k) (λ k. c.kind ≡ k) _ _
      (λ h up. elim_by Q (rest h) (λ hs. done (h, hs)) refuse (λ hs. y (h, hs)) (λ k t. n k (up k t)))
      (λ up. n c.kind (up c.kind refl))

  module _ {cs : Checks K} (done : Given cs → X) (refuse : K → X) where
    -- all hold: what is done, where that is x whatever the checks gave
    pub in_order_done : (x : X) → AllHold cs → ((hs : Given cs) → done hs ≡ x) → in_order cs done refuse ≡ x
    in_order_done x a s = done_by cs done refuse x a.each s

    -- the first that fails has the kind k: the refusal by k
    pub in_order_refused : {k : K} → FirstFailing cs k → in_order cs done refuse ≡ refuse k
    in_order_refused {k} a = refused_by_lem cs done refuse k a.fails

    -- what holds of what is done, whatever the checks gave, and of the refusal by the first that fails, holds of the outcome
    pub in_order_elim : (Q : X → Type 0) → ((hs : Given cs) → Q (done hs)) → ((k : K) → FirstFailing cs k → Q (refuse k))
        → Q (in_order cs done refuse)
    in_order_elim Q y n = elim_by Q cs done refuse y (λ k t. n k (record { fails = t }))

-- what is made of the outcome is made of what is done and of the refusal
pub in_order_map : {K X Y : Type 0} (f : X → Y) (cs : Checks K) (done : Given cs → X) (refuse : K → X)
    → f (in_order cs done refuse) ≡ in_order cs (λ hs. f (done hs)) (λ k. f (refuse k))
unfolding in_order
in_order_map f passed done refuse = refl
in_order_map f (first c rest) done refuse =
    pick_map f c.decide _ _ _ (λ h. in_order_map f (rest h) (λ hs. done (h, hs)) refuse)

-- a list and then another come to the first, and where it is passed to the other
pub in_order_then : {K X : Type 0} (cs more : Checks K) (x : X) (refuse : K → X)
    → in_order (then_checks cs (λ _. more)) (λ _. x) refuse ≡ in_order cs (λ _. in_order more (λ _. x) refuse) refuse
unfolding in_order
in_order_then passed more x refuse = refl
in_order_then (first c rest) more x refuse =
    pick_map (λ y. y) c.decide _ _ _ (λ h. in_order_then (rest h) more x refuse)

-- where one fails not all hold
pub not_both : {K : Type 0} {cs : Checks K} {k : K} → FirstFailing cs k → AllHold cs → ⊥
not_both f a =
    let z : ◌≡◌ {A = ℕ} 1 0 = sym (in_order_refused (λ _. 0) (λ _. 1) f) ∙ in_order_done (λ _. 0) (λ _. 1) 0 a (λ _. refl) in
    omega arith

-- so where all hold, what holds of all that is done holds of the outcome
pub in_order_accepted : {K X : Type 0} {cs : Checks K} (done : Given cs → X) (refuse : K → X) (Q : X → Type 0) → AllHold cs
    → ((hs : Given cs) → Q (done hs)) → Q (in_order cs done refuse)
in_order_accepted done refuse Q all y = in_order_elim done refuse Q y (λ k f. absurd (not_both f all))

-- ---- the kinds of a list

-- what is so of every kind of the list is so of the one that it refuses by
every_kind : {K : Type 0} (P : K → Type 0) (cs : Checks K) → EveryKind P cs → (k : K) → failing cs k → P k
unfolding failing
every_kind P passed e k f = absurd f
every_kind P (first c rest) e k f =
    type_elim c.decide (λ h. failing (rest h) k) (c.kind ≡ k) (λ h t. every_kind P (rest h) (e.1 h) k t)
    (λ t. subst P t e.0) f

pub kind_of_list : {K : Type 0} {cs : Checks K} {k : K} (P : K → Type 0) → EveryKind P cs → FirstFailing cs k → P k
kind_of_list {cs = cs} {k = k} P e a = every_kind P cs e k a.fails
