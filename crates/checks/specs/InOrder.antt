-- Checks in order: a list of checks, each with what must hold, how that is decided and the kind that it refuses by, and going
-- through it. It comes to what is done with what the checks gave where all hold, and else to the refusal by the first that
-- fails. 01 and 02 give every call such a list ("Order for all three: 1, 2, 3, 4").
use Rattle.std.specs.Prelude.{◌≡◌}
use Rattle.algebra.specs.Choice.{pick_by, pick_type}

pub record Check (K : Type 0) : Type 1 where
  pub Holds : Type 0
  pub decide : Dec Holds
  pub kind : K

infix 50 ◌else◌
infixr 40 ◌⨾◌
-- the check that a decision makes, else refused by the kind
abbrev pub ◌else◌ : {K H : Type 0} → Dec H → K → Check K
◌else◌ {K} {H} d k = record { Holds = H; decide = d; kind = k }

-- a list of checks; the later ones may use what a check gave
pub data Checks (K : Type 0) : Type 1 where
  passed : Checks K
  first : (c : Check K) → (c.Holds → Checks K) → Checks K

-- a check, then others that use nothing of it
abbrev pub ◌⨾◌ : {K : Type 0} → Check K → Checks K → Checks K
◌⨾◌ c cs = first c (λ _. cs)

-- what all checks give: the proof of each, in order
abbrev pub Given : {K : Type 0} → Checks K → Type 0
Given passed = Unit {0}
Given (first c rest) = (h : c.Holds) × Given (rest h)

-- a list, then another that may use what it gave
abbrev pub then_checks : {K : Type 0} → (cs : Checks K) → (Given cs → Checks K) → Checks K
then_checks passed more = more tt
then_checks (first c rest) more = first c (λ h. then_checks (rest h) (λ hs. more (h, hs)))

-- going through a list: `done` where all checks hold, else `refuse` by the kind of the first that fails
unfoldable pub in_order : {K X : Type 0} → (cs : Checks K) → (Given cs → X) → (K → X) → X
in_order passed done refuse = done tt
in_order (first c rest) done refuse = pick_by c.decide (λ h. in_order (rest h) (λ hs. done (h, hs)) refuse) (refuse c.kind)

-- all checks of the list hold
unfoldable pub holding : {K : Type 0} → Checks K → Type 0
holding passed = Unit {0}
holding (first c rest) = pick_type c.decide (λ h. holding (rest h)) ⊥

pub record AllHold {K : Type 0} (cs : Checks K) : Type 0 where
  pub each : holding cs

-- the first check that fails has the kind k
unfoldable pub failing : {K : Type 0} → Checks K → K → Type 0
failing passed k = ⊥
failing (first c rest) k = pick_type c.decide (λ h. failing (rest h) k) (c.kind ≡ k)

pub record FirstFailing {K : Type 0} (cs : Checks K) (k : K) : Type 0 where
  pub fails : failing cs k

-- every kind of the list is so
abbrev pub EveryKind : {K : Type 0} → (K → Type 0) → Checks K → Type 0
EveryKind P passed = Unit {0}
EveryKind P (first c rest) = P c.kind × ((h : c.Holds) → EveryKind P (rest h))
