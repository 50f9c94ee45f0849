-- What 02, #113, promises of check is kept by `check_call` itself: it accepts D exactly if ADA = A and DAD = D, and else tells which
-- equation fails first; our own D passes with the answer that quasiinverse gave; an accepted D has the rank of A, is accepted the
-- other way round too, and leaves nothing over of a right side exactly if solve accepts it.
use mathlib.Core.Path.{◌≡◌, refl, sym, ap, ◌∙◌, subst}
use mathlib.Core.List.{List}
use mathlib.Core.Logic.{◌↔◌}
use Prim.Native.Nat.{ℕ, ◌<◌}
use native.Mathlib.Omega.{arith}
use lib.ListN.{length}
use Rattle.algebra.specs.Matrix.{apply}
use Rattle.algebra.specs.Quasiinverse.{count, IsQuasiinverse}
use Rattle.algebra.specs.Chosen.{rank}
use Rattle.algebra.specs.Solve.{remainder}
use Rattle.algebra.proofs.Sized.{absorbs_inside}
use Rattle.algebra.proofs.AnyInverse.{remainder_decides, quasiinverse_rank}
use Rattle.checks.specs.declared.Refusal.TheVariants.{NotInner, NotOuter}
use Rattle.checks.specs.Refusal.{IsRefusal}
use Rattle.checks.specs.Prime.{IsModulus}
use Rattle.checks.specs.Told.{results}
use Rattle.checks.specs.Outcome.{Outcome, outcome}
use Rattle.checks.specs.InOrder.{AllHold}
use Rattle.checks.proofs.InOrder.{given, in_order_elim}
use Rattle.checks.proofs.Modulus.{modulus_prop}
use Rattle.checks.proofs.Refusals.{refusal_number_lem}
use Rattle.words.specs.Words.{Below}
use Rattle.field.specs.Residue.{residues}
use Rattle.field.proofs.Views.{table_sized}
use Rattle.matrix.specs.Decide.{field, combinations, absorbs?}
use Rattle.matrix.specs.Calls.{table_of, table_rank, vector_of, quasiinverse_call, solve_call, IsInner, IsOuter, pair_checks, check_call}
use Rattle.matrix.specs.Parts.{Checked}
use Rattle.matrix.specs.Promises.{CheckJudges, CheckDone}
use Rattle.matrix.proofs.Stored.{columns_many}
use Rattle.matrix.proofs.Answers.{system_hold, pair_hold, pair_given, check_not_inner, check_not_outer, check_done}
use Rattle.matrix.proofs.InverseCall.{quasiinverse_call_lem, quasiinverse_passed}
use Rattle.matrix.proofs.SolveCall.{solve_call_solved, solve_call_accepts}

-- ---- past 1 to 4

module _ (p m n : ℕ) (a d : List ℕ) where
  -- D is a quasiinverse of A
  abbrev Right : Type 0
  Right = IsQuasiinverse (residues p) m n (table_of p m n a) (table_of p n m d)

  module _ (all : AllHold (pair_checks p m n a d)) where
    ok : IsModulus p
    ok = (given all).0

    -- a quasiinverse is accepted, with the rank of the table
    accepted_outcome : Right → (q : IsModulus p) → outcome (results (table_rank p q m n a)) tt ≡ check_call p m n a d
    accepted_outcome right q =
        check_done p m n a d all right.absorbs right.reflects (table_rank p q m n a)
        (λ r. ap (λ k. table_rank p k m n a) (modulus_prop p q r))

    -- what is told, by which of the two equations hold
    judged : Dec (IsInner p m n a d) → Dec (IsOuter p m n a d) → CheckJudges p m n a d (check_call p m n a d)
    judged (no f) _ =
        subst (CheckJudges p m n a d) (check_not_inner p m n a d all f)
        (record {
          accepts = ((λ taken. absurd (taken (refusal_number_lem NotInner))), (λ q. absurd (f q.absorbs)));
          seventeen = ((λ _. f), (λ _. refl));
          eighteen = ((λ e. absurd (omega arith)), (λ (i, _). absurd (f i)));
        })
    judged (yes i) (no f) =
        subst (CheckJudges p m n a d) (check_not_outer p m n a d all i f)
        (record {
          accepts = ((λ taken. absurd (taken (refusal_number_lem NotOuter))), (λ q. absurd (f q.reflects)));
          seventeen = ((λ e. absurd (omega arith)), (λ g. absurd (g i)));
          eighteen = ((λ _. (i, f)), (λ _. refl));
        })
    judged (yes i) (yes o) =
        let right : Right = record { absorbs = i; reflects = o } in
        subst (CheckJudges p m n a d) (accepted_outcome right ok)
        (record {
          accepts = ((λ _. right), (λ _ r. omega arith));
          seventeen = ((λ e. absurd (omega arith)), (λ g. absurd (g i)));
          eighteen = ((λ e. absurd (omega arith)), (λ (_, g). absurd (g o)));
        })

    -- "Accept D exactly if ADA = A and DAD = D .. 17, ADA differs from A; 18, DAD differs from D"
    pub check_judges : CheckJudges p m n a d (check_call p m n a d)
    check_judges = judged (absorbs? p ok m n a d) (absorbs? p ok n m d a)

  -- ---- the call

  -- not refused, 1 to 4 hold, and so do both equations
  check_passed : (IsRefusal (check_call p m n a d).told.number → ⊥) → AllHold (pair_checks p m n a d) × Right
  unfolding check_call
  check_passed =
      in_order_elim _ _ (λ (o : Outcome (Unit {0})). (IsRefusal o.told.number → ⊥) → AllHold (pair_checks p m n a d) × Right)
      (λ (modulus, (sizes, (a_long, (d_long, (a_below, (d_below, (i, (o, _)))))))) _.
      let (k, l) = pair_given p m n a d (modulus, (sizes, (a_long, (d_long, (a_below, (d_below, tt)))))) in
      (pair_hold p m n a d k l, record { absorbs = i; reflects = o }))
      (λ kind _ accepted. absurd (accepted (refusal_number_lem kind)))

  -- "Accept D exactly if ADA = A and DAD = D", of tables that pass 1 to 4
  pub check_exactly : (IsRefusal (check_call p m n a d).told.number → ⊥)
      ↔ (AllHold (pair_checks p m n a d) × IsQuasiinverse (residues p) m n (table_of p m n a) (table_of p n m d))
  check_exactly = (check_passed, λ (all, right). (check_judges all).accepts.1 right)

  -- it tells the rank, which is D's rank too; and what D w leaves over decides the system
  pub check_call_done : (IsRefusal (check_call p m n a d).told.number → ⊥)
      → IsModulus p × ((q : IsModulus p) → CheckDone p m n a d q (check_call p m n a d))
  check_call_done accepted =
      let (all, right) = check_passed accepted in (
        ok all,
        λ q.
            record {
              told = ap (λ (x : Outcome (Unit {0})). x.told) (sym (accepted_outcome all right q));
              quasiinverse = right;
              same_rank = quasiinverse_rank (residues p) (field p q) (combinations p q) right;
              remainder_exactly = λ w. remainder_decides (residues p) (field p q).ring right.absorbs w;
            },
      )

  -- so solve accepts a right side exactly if D w leaves nothing over of it
  pub check_beside_solve : (IsRefusal (check_call p m n a d).told.number → ⊥)
      → (w z u : List ℕ) → length w ≡ m → Below p w → length z ≡ n → length u ≡ m
      → ((i : ℕ) → i < m
      → remainder (residues p) n (table_of p m n a) (apply (residues p) m (table_of p n m d) (vector_of p w)) (vector_of p w) i ≡ (residues p).zero)
      ↔ (IsRefusal (solve_call p m n a w z u).told.number → ⊥)
  check_beside_solve accepted w z u w_long w_below z_long u_long =
      let (all, right) = check_passed accepted in
      let exactly = remainder_decides (residues p) (field p (ok all)).ring right.absorbs (vector_of p w) in
      let k = (pair_given p m n a d (given all)).0 in
      let hs = given (system_hold p m n a w z u k (record { w_long = w_long; w_below = w_below; z_long = z_long; u_long = u_long })) in (
        (λ h. solve_call_accepts p m n a w z u hs (exactly.0 h)),
        (λ taken.
            let (q, done) = solve_call_solved p m n a w z u taken in
            exactly.1 (vector_of p (solve_call p m n a w z u).lent.0, (done q).solves)),
      )

-- an accepted D is accepted with A as its quasiinverse, with the same answer
pub check_turned : (p m n : ℕ) (a d : List ℕ) → (IsRefusal (check_call p m n a d).told.number → ⊥) → check_call p n m d a ≡ check_call p m n a d
check_turned p m n a d accepted =
    let (all, right) = check_passed p m n a d accepted in
    let (k, l) = pair_given p m n a d (given all) in
    let q = k.is_modulus in
    sym (accepted_outcome p n m d a (pair_hold p n m d a l k) (record { absorbs = right.reflects; reflects = right.absorbs }) q)
    ∙ ap (λ r. outcome (results r) tt) (quasiinverse_rank (residues p) (field p q) (combinations p q) right)
    ∙ accepted_outcome p m n a d all right q

-- "Our own D always passes": with the D that quasiinverse left, check tells what quasiinverse told
pub own_passes : (p m n : ℕ) (a d columns rows : List ℕ) → (IsRefusal (quasiinverse_call p m n a d columns rows).told.number → ⊥)
    → check_call p m n a (quasiinverse_call p m n a d columns rows).lent.0 ≡ outcome (quasiinverse_call p m n a d columns rows).told tt
own_passes p m n a d columns rows accepted =
    let done = quasiinverse_call_lem p m n a d columns rows accepted in
    let k = quasiinverse_passed p m n a d columns rows accepted in
    let d' = (quasiinverse_call p m n a d columns rows).lent.0 in
    let l : Checked p n m d' = record {
      is_modulus = k.is_modulus;
      m_most = k.n_most;
      n_most = k.m_most;
      a_long = done.d_long;
      a_below = done.d_below;
    } in
    let all = pair_hold p m n a d' k l in
    sym (accepted_outcome p m n a d' all done.quasiinverse k.is_modulus)
    ∙ ap (λ t. outcome t tt) (ap results (sym (done.is_r k.is_modulus)) ∙ sym done.told)

-- ---- tables with no rows, and with no columns: there is one D, the empty one, and it is accepted

pub check_no_rows : (p n : ℕ) (a d : List ℕ) → AllHold (pair_checks p 0 n a d) → check_call p 0 n a d ≡ outcome (results 0) tt
unfolding rank count
check_no_rows p n a d all =
    let ring = (field p (ok p 0 n a d all)).ring in
    sym
    (check_done p 0 n a d all
    (absorbs_inside (residues p) ring (table_sized p a 0 n 0 n) (table_of p n 0 d) (λ i j h l. absurd (omega arith)))
    (absorbs_inside (residues p) ring (table_sized p d 0 0 n 0) (table_of p 0 n a) (λ i j h l. absurd (omega arith))) 0 (λ q. refl))

pub check_no_columns : (p m : ℕ) (a d : List ℕ) → AllHold (pair_checks p m 0 a d) → check_call p m 0 a d ≡ outcome (results 0) tt
unfolding count
check_no_columns p m a d all =
    let ring = (field p (ok p m 0 a d all)).ring in
    sym
    (check_done p m 0 a d all
    (absorbs_inside (residues p) ring (table_sized p a 0 0 m 0) (table_of p 0 m d) (λ i j h l. absurd (omega arith)))
    (absorbs_inside (residues p) ring (table_sized p d 0 m 0 m) (table_of p m 0 a) (λ i j h l. absurd (omega arith))) 0 (λ q. columns_many p q m 0 a))
