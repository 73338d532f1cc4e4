-- Each promise leaves one outcome: an answer is known from its number, value and offset.
use Rattle.std.specs.Prelude.{Option, Some, None, Result, Ok, Err}
use mathlib.Core.Path.{◌≡◌, refl, sym, ap, ◌∙◌}
use mathlib.Core.Bool.{cond}
use mathlib.Core.List.{List}
use Prim.Native.Nat.{ℕ}
use lib.Dec.{eqb}
use Rattle.wire.specs.Outcome.{Outcome, done, refused, Answered}
use Rattle.wire.specs.Fields.{fault_as}
use Rattle.wire.specs.Reading.{reached_as, decoded_as, Read}
use Rattle.wire.specs.Writing.{wrote_as, wrote, Write}
use Rattle.wire.specs.declared.Message.{Message}
use Rattle.wire.specs.declared.ReachError.{ReachError}
use Rattle.wire.specs.declared.ReadError.{ReadError}
use Rattle.wire.specs.declared.Decoded.{Decoded}
use Rattle.wire.specs.declared.WriteError.{WriteError}

-- a result again, from its number, value and offset
reach_from : Outcome ℕ → Result ℕ ReachError
reach_from (done n) = Ok n
reach_from (refused k) = Err (cond (eqb k 1) ReachError.Short ReachError.Small)

fault_from : Outcome (Unit {0}) → ℕ → Option ℕ
fault_from (done t) offset = None
fault_from (refused k) offset = Some offset

decoded_from : Outcome Message → ℕ → List ℕ → Result Decoded ReadError
decoded_from (done m) offset plain = Ok (record { message = m; plain = plain })
decoded_from (refused k) offset plain = Err (cond (eqb k 1) ReadError.Short (cond (eqb k 2) ReadError.BadSize (cond (eqb k 3) ReadError.BadType (ReadError.BadField offset))))

written_from : Outcome ℕ → ℕ → Result ℕ WriteError
written_from (done n) offset = Ok n
written_from (refused k) offset = Err (cond (eqb k 3) WriteError.BadType (cond (eqb k 4) (WriteError.BadField offset) WriteError.NoRoom))

reach_again : (r : Result ℕ ReachError) → reach_from (reached_as r) ≡ r
unfolding reach_from
reach_again (Ok n) = refl
reach_again (Err ReachError.Short) = refl
reach_again (Err ReachError.Small) = refl

fault_again : (x : Option ℕ) → fault_from (fault_as x).outcome (fault_as x).offset ≡ x
unfolding fault_from
fault_again None = refl
fault_again (Some n) = refl

decoded_again : (d : Result Decoded ReadError) → decoded_from (decoded_as d).outcome (decoded_as d).offset (decoded_as d).plain ≡ d
unfolding decoded_from
decoded_again (Ok d) = refl
decoded_again (Err ReadError.Short) = refl
decoded_again (Err ReadError.BadSize) = refl
decoded_again (Err ReadError.BadType) = refl
decoded_again (Err (ReadError.BadField n)) = refl

written_again : (w : Result ℕ WriteError) → written_from (wrote_as w).outcome (wrote_as w).offset ≡ w
unfolding written_from
written_again (Ok n) = refl
written_again (Err WriteError.BadType) = refl
written_again (Err (WriteError.BadField n)) = refl
written_again (Err WriteError.NoRoom) = refl

-- two results that meet the promise of `reach_at`, of `bad_field`, of `decode` or of `encode` on the same input are equal, buffers included
pub one_reach : (a b : Result ℕ ReachError) → reached_as a ≡ reached_as b → a ≡ b
one_reach a b e = sym (reach_again a) ∙ ap reach_from e ∙ reach_again b

pub one_fault : (a b : Option ℕ) → fault_as a ≡ fault_as b → a ≡ b
one_fault a b e = sym (fault_again a) ∙ ap (λ (x : Answered (Unit {0})). fault_from x.outcome x.offset) e ∙ fault_again b

pub one_decoded : (a b : Result Decoded ReadError) → decoded_as a ≡ decoded_as b → a ≡ b
one_decoded a b e = sym (decoded_again a) ∙ ap (λ (r : Read). decoded_from r.outcome r.offset r.plain) e ∙ decoded_again b

pub one_written : (a b : Result ℕ WriteError) (out out' : List ℕ) → wrote a out ≡ wrote b out' → (a ≡ b) × (out ≡ out')
one_written a b out out' e =
    (sym (written_again a) ∙ ap (λ (w : Write). written_from w.outcome w.offset) e ∙ written_again b, ap (λ (w : Write). w.out) e)
