-- `signed::residue_from` meets its contract: below 0 the answer is p less the record's negation, from 0 on the record.
use native.Mathlib.Omega.{arith}
use lib.IntN.{+ℤ_idl, neg_ℤ}
use mir.Syntax.{w32}
use mir.ValLaws.{to_z-of_z}
use Rattle.signed.proofs.Words.{Below, From, below_zero, from_zero, negated_record}
use Rattle.signed.proofs.residue_from.Goals as goal
use Rattle.signed.proofs.residue_from.Goals.{Else-record-lt0, Then-record-lt0}

-- what is known in the two arms
below : (c : Then-record-lt0) → Below c.args.p c.args.«record»
below c =
    below_zero c.args.p c.args.low c.args.«record» c.requires.0 (omega arith) (omega arith)
    (rw (to_z-of_z w32 c.args.«record» c.ranges.«record») at c.if-record-lt0.true)

from : (c : Else-record-lt0) → From c.args.p c.args.«record»
from c =
    from_zero c.args.p c.args.low c.args.«record» c.requires.0 (omega arith)
    (rw (to_z-of_z w32 c.args.«record» c.ranges.«record») at c.if-record-lt0.false)

pub overflow_sub-result : goal.overflow_sub-result
overflow_sub-result c =
    let z = c.args.«record» in
    rw (to_z-of_z w32 z c.ranges.«record», +ℤ_idl (neg_ℤ z)) (below (goal.at.overflow_sub-result c).Then-record-lt0).fits

pub overflow_cast-result : goal.overflow_cast-result
overflow_cast-result c =
    let b = below (goal.at.overflow_cast-result c).Then-record-lt0 in
    rw (negated_record c.args.«record» c.ranges.«record» b.fits) (b.sign, omega arith)

pub overflow_sub-result-then-record-lt0 : goal.overflow_sub-result-then-record-lt0
overflow_sub-result-then-record-lt0 c =
    let b = below (goal.at.overflow_sub-result-then-record-lt0 c).Then-record-lt0 in
    rw (negated_record c.args.«record» c.ranges.«record» b.fits) (omega arith)

pub overflow_cast-result-else-record-lt0 : goal.overflow_cast-result-else-record-lt0
overflow_cast-result-else-record-lt0 c =
    let b = from (goal.at.overflow_cast-result-else-record-lt0 c).Else-record-lt0 in
    rw (to_z-of_z w32 c.args.«record» c.ranges.«record») (b.sign, omega arith)

pub returns-then-record-lt0 : goal.returns-then-record-lt0
returns-then-record-lt0 c =
    let b = below (goal.at.returns-then-record-lt0 c).Then-record-lt0 in
    rw (negated_record c.args.«record» c.ranges.«record» b.fits) (omega arith, b.residue)

pub returns-else-record-lt0 : goal.returns-else-record-lt0
returns-else-record-lt0 c =
    let b = from (goal.at.returns-else-record-lt0 c).Else-record-lt0 in
    rw (to_z-of_z w32 c.args.«record» c.ranges.«record») (b.size, b.residue)
