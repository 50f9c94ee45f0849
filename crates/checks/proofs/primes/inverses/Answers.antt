-- `checks::primes::inverses` meets its contract: the test of each part is computed.
use mathlib.Core.Path.{◌≡◌, refl, subst}
use mathlib.Core.List.{List}
use Prim.Native.Nat.{ℕ, zero, suc, ◌≤◌}
use native.Mathlib.Omega.{arith}
use lib.Dec.{T}
use lib.ListN.{length}
use Rattle.checks.specs.Inverses.{part_size, Part, is_part, start, covers, ones, divides}
use Rattle.checks.proofs.primes.inverses.Goals as goal

-- past the first n arms the number is n or more
Past : ℕ → ℕ → Type 0
Past zero k = Unit {0}
Past (suc n) k = Past n k × (k ≡ n → ⊥)

past : (n k : ℕ) → Past n k → n ≤ k
unfolding Past
past zero k t = omega arith
past (suc n) k t =
    let fewer : n ≤ k = past n k t.0 in
    omega arith

-- what was computed of the part j, at the number k of the arm
keyed : {k : ℕ} {ws : List ℕ} (j : ℕ) → j ≡ k → length ws ≡ part_size → T (is_part j ws) → Part k ws
keyed {ws = ws} j e l t = subst (λ (n : ℕ). Part n ws) e (record { size = l; computed = t })

pub returns-in-0 : goal.returns-in-0
unfolding is_part start covers ones divides
returns-in-0 c = keyed 0 (omega arith) refl tt

pub returns-in-1 : goal.returns-in-1
unfolding is_part start covers ones divides
returns-in-1 c = keyed 1 (omega arith) refl tt

pub returns-in-2 : goal.returns-in-2
unfolding is_part start covers ones divides
returns-in-2 c = keyed 2 (omega arith) refl tt

pub returns-in-3 : goal.returns-in-3
unfolding is_part start covers ones divides
returns-in-3 c = keyed 3 (omega arith) refl tt

pub returns-in-4 : goal.returns-in-4
unfolding is_part start covers ones divides
returns-in-4 c = keyed 4 (omega arith) refl tt

pub returns-in-5 : goal.returns-in-5
unfolding is_part start covers ones divides
returns-in-5 c = keyed 5 (omega arith) refl tt

pub returns-in-6 : goal.returns-in-6
unfolding is_part start covers ones divides
returns-in-6 c = keyed 6 (omega arith) refl tt

pub returns-in-7 : goal.returns-in-7
unfolding is_part start covers ones divides
returns-in-7 c = keyed 7 (omega arith) refl tt

pub returns-in-8 : goal.returns-in-8
unfolding is_part start covers ones divides
returns-in-8 c = keyed 8 (omega arith) refl tt

pub returns-in-9 : goal.returns-in-9
unfolding is_part start covers ones divides
returns-in-9 c = keyed 9 (omega arith) refl tt

pub returns-in-10 : goal.returns-in-10
unfolding is_part start covers ones divides
returns-in-10 c = keyed 10 (omega arith) refl tt

pub returns-in-11 : goal.returns-in-11
unfolding is_part start covers ones divides
returns-in-11 c = keyed 11 (omega arith) refl tt

pub returns-in-12 : goal.returns-in-12
unfolding is_part start covers ones divides
returns-in-12 c = keyed 12 (omega arith) refl tt

pub returns-in-13 : goal.returns-in-13
unfolding is_part start covers ones divides
returns-in-13 c = keyed 13 (omega arith) refl tt

pub returns-in-14 : goal.returns-in-14
unfolding is_part start covers ones divides
returns-in-14 c = keyed 14 (omega arith) refl tt

pub returns-in-15 : goal.returns-in-15
unfolding is_part start covers ones divides
returns-in-15 c = keyed 15 (omega arith) refl tt

pub returns-in-16 : goal.returns-in-16
unfolding is_part start covers ones divides
returns-in-16 c = keyed 16 (omega arith) refl tt

pub returns-in-17 : goal.returns-in-17
unfolding is_part start covers ones divides
returns-in-17 c = keyed 17 (omega arith) refl tt

pub returns-in-18 : goal.returns-in-18
unfolding is_part start covers ones divides
returns-in-18 c = keyed 18 (omega arith) refl tt

pub returns-in-19 : goal.returns-in-19
unfolding is_part start covers ones divides
returns-in-19 c = keyed 19 (omega arith) refl tt

pub returns-in-20 : goal.returns-in-20
unfolding is_part start covers ones divides
returns-in-20 c = keyed 20 (omega arith) refl tt

pub returns-in-21 : goal.returns-in-21
unfolding is_part start covers ones divides
returns-in-21 c = keyed 21 (omega arith) refl tt

pub returns-in-22 : goal.returns-in-22
unfolding is_part start covers ones divides
returns-in-22 c = keyed 22 (omega arith) refl tt

pub returns-in-23 : goal.returns-in-23
unfolding is_part start covers ones divides
returns-in-23 c = keyed 23 (omega arith) refl tt

pub returns-in-24 : goal.returns-in-24
unfolding is_part start covers ones divides
returns-in-24 c = keyed 24 (omega arith) refl tt

pub returns-in-25 : goal.returns-in-25
unfolding is_part start covers ones divides
returns-in-25 c = keyed 25 (omega arith) refl tt

pub returns-in-26 : goal.returns-in-26
unfolding is_part start covers ones divides
returns-in-26 c = keyed 26 (omega arith) refl tt

pub returns-in-27 : goal.returns-in-27
unfolding is_part start covers ones divides
returns-in-27 c = keyed 27 (omega arith) refl tt

pub returns-in-28 : goal.returns-in-28
unfolding is_part start covers ones divides
returns-in-28 c = keyed 28 (omega arith) refl tt

pub returns-in-29 : goal.returns-in-29
unfolding is_part start covers ones divides
returns-in-29 c = keyed 29 (omega arith) refl tt

pub returns-in-30 : goal.returns-in-30
unfolding is_part start covers ones divides
returns-in-30 c = keyed 30 (omega arith) refl tt

pub returns-in-31 : goal.returns-in-31
unfolding is_part start covers ones divides
returns-in-31 c = keyed 31 (omega arith) refl tt

pub returns-in-32 : goal.returns-in-32
unfolding is_part start covers ones divides
returns-in-32 c = keyed 32 (omega arith) refl tt

pub returns-in-33 : goal.returns-in-33
unfolding is_part start covers ones divides
returns-in-33 c = keyed 33 (omega arith) refl tt

pub returns-in-34 : goal.returns-in-34
unfolding is_part start covers ones divides
returns-in-34 c = keyed 34 (omega arith) refl tt

pub returns-in-35 : goal.returns-in-35
unfolding is_part start covers ones divides
returns-in-35 c = keyed 35 (omega arith) refl tt

pub returns-in-36 : goal.returns-in-36
unfolding is_part start covers ones divides
returns-in-36 c = keyed 36 (omega arith) refl tt

pub returns-in-37 : goal.returns-in-37
unfolding is_part start covers ones divides
returns-in-37 c = keyed 37 (omega arith) refl tt

pub returns-in-38 : goal.returns-in-38
unfolding is_part start covers ones divides
returns-in-38 c = keyed 38 (omega arith) refl tt

pub returns-in-39 : goal.returns-in-39
unfolding is_part start covers ones divides
returns-in-39 c = keyed 39 (omega arith) refl tt

pub returns-in-40 : goal.returns-in-40
unfolding is_part start covers ones divides
returns-in-40 c = keyed 40 (omega arith) refl tt

pub returns-in-41 : goal.returns-in-41
unfolding is_part start covers ones divides
returns-in-41 c = keyed 41 (omega arith) refl tt

pub returns-in-42 : goal.returns-in-42
unfolding is_part start covers ones divides
returns-in-42 c = keyed 42 (omega arith) refl tt

pub returns-in-43 : goal.returns-in-43
unfolding is_part start covers ones divides
returns-in-43 c = keyed 43 (omega arith) refl tt

pub returns-in-44 : goal.returns-in-44
unfolding is_part start covers ones divides
returns-in-44 c = keyed 44 (omega arith) refl tt

pub returns-in-45 : goal.returns-in-45
unfolding is_part start covers ones divides
returns-in-45 c = keyed 45 (omega arith) refl tt

pub returns-in-46 : goal.returns-in-46
unfolding is_part start covers ones divides
returns-in-46 c = keyed 46 (omega arith) refl tt

pub returns-in-47 : goal.returns-in-47
unfolding is_part start covers ones divides
returns-in-47 c = keyed 47 (omega arith) refl tt

pub returns-in-48 : goal.returns-in-48
unfolding is_part start covers ones divides
returns-in-48 c = keyed 48 (omega arith) refl tt

pub returns-in-49 : goal.returns-in-49
unfolding is_part start covers ones divides
returns-in-49 c = keyed 49 (omega arith) refl tt

pub returns-in-50 : goal.returns-in-50
unfolding is_part start covers ones divides
returns-in-50 c = keyed 50 (omega arith) refl tt

pub returns-in-51 : goal.returns-in-51
unfolding is_part start covers ones divides
returns-in-51 c = keyed 51 (omega arith) refl tt

pub returns-in-52 : goal.returns-in-52
unfolding is_part start covers ones divides
returns-in-52 c = keyed 52 (omega arith) refl tt

pub returns-in-53 : goal.returns-in-53
unfolding is_part start covers ones divides
returns-in-53 c = keyed 53 (omega arith) refl tt

pub returns-in-54 : goal.returns-in-54
unfolding is_part start covers ones divides
returns-in-54 c = keyed 54 (omega arith) refl tt

pub returns-in-55 : goal.returns-in-55
unfolding is_part start covers ones divides
returns-in-55 c = keyed 55 (omega arith) refl tt

pub returns-in-56 : goal.returns-in-56
unfolding is_part start covers ones divides
returns-in-56 c = keyed 56 (omega arith) refl tt

pub returns-in-57 : goal.returns-in-57
unfolding is_part start covers ones divides
returns-in-57 c = keyed 57 (omega arith) refl tt

pub returns-in-58 : goal.returns-in-58
unfolding is_part start covers ones divides
returns-in-58 c = keyed 58 (omega arith) refl tt

pub returns-in-59 : goal.returns-in-59
unfolding is_part start covers ones divides
returns-in-59 c = keyed 59 (omega arith) refl tt

pub returns-in-60 : goal.returns-in-60
unfolding is_part start covers ones divides
returns-in-60 c = keyed 60 (omega arith) refl tt

pub returns-in-61 : goal.returns-in-61
unfolding is_part start covers ones divides
returns-in-61 c = keyed 61 (omega arith) refl tt

pub returns-in-62 : goal.returns-in-62
unfolding is_part start covers ones divides
returns-in-62 c = keyed 62 (omega arith) refl tt

pub returns-in-63 : goal.returns-in-63
unfolding is_part start covers ones divides
returns-in-63 c = keyed 63 (omega arith) refl tt

pub returns-in-64 : goal.returns-in-64
unfolding is_part start covers ones divides
returns-in-64 c = keyed 64 (omega arith) refl tt

pub returns-in-65 : goal.returns-in-65
unfolding is_part start covers ones divides
returns-in-65 c = keyed 65 (omega arith) refl tt

pub returns-in-66 : goal.returns-in-66
unfolding is_part start covers ones divides
returns-in-66 c = keyed 66 (omega arith) refl tt

pub returns-in-67 : goal.returns-in-67
unfolding is_part start covers ones divides
returns-in-67 c = keyed 67 (omega arith) refl tt

pub returns-in-68 : goal.returns-in-68
unfolding is_part start covers ones divides
returns-in-68 c = keyed 68 (omega arith) refl tt

pub returns-in-69 : goal.returns-in-69
unfolding is_part start covers ones divides
returns-in-69 c = keyed 69 (omega arith) refl tt

pub returns-in-70 : goal.returns-in-70
unfolding is_part start covers ones divides
returns-in-70 c = keyed 70 (omega arith) refl tt

pub returns-in-71 : goal.returns-in-71
unfolding is_part start covers ones divides
returns-in-71 c = keyed 71 (omega arith) refl tt

pub returns-in-72 : goal.returns-in-72
unfolding is_part start covers ones divides
returns-in-72 c = keyed 72 (omega arith) refl tt

pub returns-in-73 : goal.returns-in-73
unfolding is_part start covers ones divides
returns-in-73 c = keyed 73 (omega arith) refl tt

pub returns-in-74 : goal.returns-in-74
unfolding is_part start covers ones divides
returns-in-74 c = keyed 74 (omega arith) refl tt

pub returns-in-75 : goal.returns-in-75
unfolding is_part start covers ones divides
returns-in-75 c = keyed 75 (omega arith) refl tt

pub returns-in-76 : goal.returns-in-76
unfolding is_part start covers ones divides
returns-in-76 c = keyed 76 (omega arith) refl tt

pub returns-in-77 : goal.returns-in-77
unfolding is_part start covers ones divides
returns-in-77 c = keyed 77 (omega arith) refl tt

pub returns-in-78 : goal.returns-in-78
unfolding is_part start covers ones divides
returns-in-78 c = keyed 78 (omega arith) refl tt

pub returns-in-79 : goal.returns-in-79
unfolding is_part start covers ones divides
returns-in-79 c = keyed 79 (omega arith) refl tt

pub returns-in-80 : goal.returns-in-80
unfolding is_part start covers ones divides
returns-in-80 c = keyed 80 (omega arith) refl tt

pub returns-in-81 : goal.returns-in-81
unfolding is_part start covers ones divides
returns-in-81 c = keyed 81 (omega arith) refl tt

pub returns-in-82 : goal.returns-in-82
unfolding is_part start covers ones divides
returns-in-82 c = keyed 82 (omega arith) refl tt

pub returns-in-83 : goal.returns-in-83
unfolding is_part start covers ones divides
returns-in-83 c = keyed 83 (omega arith) refl tt

pub returns-in-84 : goal.returns-in-84
unfolding is_part start covers ones divides
returns-in-84 c = keyed 84 (omega arith) refl tt

pub returns-in-85 : goal.returns-in-85
unfolding is_part start covers ones divides
returns-in-85 c = keyed 85 (omega arith) refl tt

pub returns-in-86 : goal.returns-in-86
unfolding is_part start covers ones divides
returns-in-86 c = keyed 86 (omega arith) refl tt

pub returns-in-87 : goal.returns-in-87
unfolding is_part start covers ones divides
returns-in-87 c = keyed 87 (omega arith) refl tt

pub returns-in-88 : goal.returns-in-88
unfolding is_part start covers ones divides
returns-in-88 c = keyed 88 (omega arith) refl tt

pub returns-in-89 : goal.returns-in-89
unfolding is_part start covers ones divides
returns-in-89 c = keyed 89 (omega arith) refl tt

pub returns-in-90 : goal.returns-in-90
unfolding is_part start covers ones divides
returns-in-90 c = keyed 90 (omega arith) refl tt

pub returns-in-91 : goal.returns-in-91
unfolding is_part start covers ones divides
returns-in-91 c = keyed 91 (omega arith) refl tt

pub returns-in-92 : goal.returns-in-92
unfolding is_part start covers ones divides
returns-in-92 c = keyed 92 (omega arith) refl tt

pub returns-in-93 : goal.returns-in-93
unfolding is_part start covers ones divides
returns-in-93 c = keyed 93 (omega arith) refl tt

pub returns-in-94 : goal.returns-in-94
unfolding is_part start covers ones divides
returns-in-94 c = keyed 94 (omega arith) refl tt

pub returns-in-95 : goal.returns-in-95
unfolding is_part start covers ones divides
returns-in-95 c = keyed 95 (omega arith) refl tt

pub returns-in-96 : goal.returns-in-96
unfolding is_part start covers ones divides
returns-in-96 c = keyed 96 (omega arith) refl tt

pub returns-in-97 : goal.returns-in-97
unfolding is_part start covers ones divides
returns-in-97 c = keyed 97 (omega arith) refl tt

pub returns-in-98 : goal.returns-in-98
unfolding is_part start covers ones divides
returns-in-98 c = keyed 98 (omega arith) refl tt

pub returns-in-99 : goal.returns-in-99
unfolding is_part start covers ones divides
returns-in-99 c = keyed 99 (omega arith) refl tt

pub returns-in-100 : goal.returns-in-100
unfolding is_part start covers ones divides
returns-in-100 c = keyed 100 (omega arith) refl tt

pub returns-in-101 : goal.returns-in-101
unfolding is_part start covers ones divides
returns-in-101 c = keyed 101 (omega arith) refl tt

pub returns-in-102 : goal.returns-in-102
unfolding is_part start covers ones divides
returns-in-102 c = keyed 102 (omega arith) refl tt

pub returns-in-103 : goal.returns-in-103
unfolding is_part start covers ones divides
returns-in-103 c = keyed 103 (omega arith) refl tt

pub returns-in-104 : goal.returns-in-104
unfolding is_part start covers ones divides
returns-in-104 c = keyed 104 (omega arith) refl tt

pub returns-in-105 : goal.returns-in-105
unfolding is_part start covers ones divides
returns-in-105 c = keyed 105 (omega arith) refl tt

pub returns-in-106 : goal.returns-in-106
unfolding is_part start covers ones divides
returns-in-106 c = keyed 106 (omega arith) refl tt

pub returns-in-107 : goal.returns-in-107
unfolding is_part start covers ones divides
returns-in-107 c = keyed 107 (omega arith) refl tt

pub returns-in-108 : goal.returns-in-108
unfolding is_part start covers ones divides
returns-in-108 c = keyed 108 (omega arith) refl tt

pub returns-in-109 : goal.returns-in-109
unfolding is_part start covers ones divides
returns-in-109 c = keyed 109 (omega arith) refl tt

pub returns-in-110 : goal.returns-in-110
unfolding is_part start covers ones divides
returns-in-110 c = keyed 110 (omega arith) refl tt

pub returns-in-111 : goal.returns-in-111
unfolding is_part start covers ones divides
returns-in-111 c = keyed 111 (omega arith) refl tt

pub returns-in-112 : goal.returns-in-112
unfolding is_part start covers ones divides
returns-in-112 c = keyed 112 (omega arith) refl tt

pub returns-in-113 : goal.returns-in-113
unfolding is_part start covers ones divides
returns-in-113 c = keyed 113 (omega arith) refl tt

pub returns-in-114 : goal.returns-in-114
unfolding is_part start covers ones divides
returns-in-114 c = keyed 114 (omega arith) refl tt

pub returns-in-115 : goal.returns-in-115
unfolding is_part start covers ones divides
returns-in-115 c = keyed 115 (omega arith) refl tt

pub returns-in-116 : goal.returns-in-116
unfolding is_part start covers ones divides
returns-in-116 c = keyed 116 (omega arith) refl tt

pub returns-in-117 : goal.returns-in-117
unfolding is_part start covers ones divides
returns-in-117 c = keyed 117 (omega arith) refl tt

pub returns-in-118 : goal.returns-in-118
unfolding is_part start covers ones divides
returns-in-118 c = keyed 118 (omega arith) refl tt

pub returns-in-119 : goal.returns-in-119
unfolding is_part start covers ones divides
returns-in-119 c = keyed 119 (omega arith) refl tt

pub returns-in-120 : goal.returns-in-120
unfolding is_part start covers ones divides
returns-in-120 c = keyed 120 (omega arith) refl tt

pub returns-in-121 : goal.returns-in-121
unfolding is_part start covers ones divides
returns-in-121 c = keyed 121 (omega arith) refl tt

pub returns-in-122 : goal.returns-in-122
unfolding is_part start covers ones divides
returns-in-122 c = keyed 122 (omega arith) refl tt

pub returns-in-123 : goal.returns-in-123
unfolding is_part start covers ones divides
returns-in-123 c = keyed 123 (omega arith) refl tt

pub returns-in-124 : goal.returns-in-124
unfolding is_part start covers ones divides
returns-in-124 c = keyed 124 (omega arith) refl tt

pub returns-in-125 : goal.returns-in-125
unfolding is_part start covers ones divides
returns-in-125 c = keyed 125 (omega arith) refl tt

pub returns-in-126 : goal.returns-in-126
unfolding is_part start covers ones divides
returns-in-126 c = keyed 126 (omega arith) refl tt

pub returns-in_default : goal.returns-in_default
unfolding Past is_part start covers ones divides
returns-in_default c = keyed 127 (omega (arith, past 127 _ c.in_default.in_default-own.rest)) refl tt
